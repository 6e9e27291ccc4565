-- What holds at each turn of `replay`: the answers written so far, and those that the strings left are given from what is held, are the answers to
-- all strings; and what is held after the strings left is what is held after all. Assumes nothing.
use mathlib.Core.Path.{◌≡◌, refl, sym, ap, ◌∙◌}
use mathlib.Core.List.{List, [], ◌∷◌, ◌++◌, append_assoc, append-nil}
use Prim.Native.Nat.{ℕ, suc, ◌+◌, ◌-◌, ◌≤◌, ◌<◌}
use native.Mathlib.Numerals.{add-one}
use native.Mathlib.Omega.{arith}
use lib.ListN.{length, set, get_or, take, drop, length-set, length-append, drop_of_length-le}
use lib.Seq.{drop-cons}
use Rattle.case.specs.Cases.{Held}
use Rattle.case.specs.declared.Applied.{Applied}
use Rattle.case.specs.Cases.{applied}
use Rattle.case.specs.Input.{ledger_after, ledger_answers, Replays}
use Rattle.input.specs.Strings.{cut_at, strings_from, strings_in, in_front}
use Rattle.input.proofs.Strings.{cut-to, front-next}

pub record Going (first : Held) (bytes ends old new : List ℕ) (held : Held) (at k : ℕ) : Type 0 where
  pub size : length new ≡ length old
  pub turns : k ≤ length ends
  pub place : at ≤ length bytes
  pub done : List ℕ
  pub many : length done ≡ k
  pub written : new ≡ in_front done old
  pub told : done ++ ledger_answers held (strings_from at bytes (drop k ends)) ≡ ledger_answers first (strings_in bytes ends)
  pub leads : ledger_after held (strings_from at bytes (drop k ends)) ≡ ledger_after first (strings_in bytes ends)

pub starts : (first : Held) (bytes ends old : List ℕ) → Going first bytes ends old old first 0 0
unfolding in_front
starts first bytes ends old =
    record {
      size = refl;
      turns = omega arith;
      place = omega arith;
      done = [];
      many = refl;
      written = refl;
      told = refl;
      leads = refl;
    }

module _ (first : Held) (bytes ends old new : List ℕ) (held : Held) (at k : ℕ) (g : Going first bytes ends old new held at k) where
  pub goes : k < length ends → (to : ℕ) → to ≡ cut_at at (length bytes) (get_or ends k 0) → (o : Applied) → o ≡ applied held (take (to - at) (drop at bytes))
      → (next : List ℕ) → next ≡ set new k o.answer → Going first bytes ends old next o.held to (k + 1)
  unfolding strings_from ledger_answers ledger_after
  goes h to e o f next w =
      let n : strings_from at bytes (drop k ends) ≡ take (to - at) (drop at bytes) ∷ strings_from to bytes (drop (suc k) ends) =
      rw (drop-cons ends k 0 h, e) refl in
      record {
        size = rw (w, length-set) g.size;
        turns = omega arith;
        place = rw e (cut-to at (length bytes) (get_or ends k 0) g.place);
        done = g.done ++ (o.answer ∷ []);
        many = rw length-append (omega (arith, g.many));
        written = w ∙ ap (λ (l : List ℕ). set l k o.answer) g.written ∙ rw (← g.many) (front-next g.done old o.answer);
        told = rw (append_assoc, add-one, f) (rw n at g.told);
        leads = rw (add-one, f) (rw n at g.leads);
      }

  pub replays : length ends ≤ k → Replays first (strings_in bytes ends) old new held
  unfolding strings_from ledger_answers ledger_after
  replays h =
      let t : g.done ≡ ledger_answers first (strings_in bytes ends) =
      sym (append-nil g.done) ∙ (rw (drop_of_length-le ends {i = k} h) at g.told) in
      record {
        answers = g.written ∙ ap (λ (l : List ℕ). in_front l old) t;
        held = rw (drop_of_length-le ends {i = k} h) at g.leads;
      }
