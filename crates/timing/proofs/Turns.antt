-- What holds at each turn of `each`: the numbers written so far, and those of the strings left, are the numbers of all strings. Assumes nothing.
use mathlib.Core.Path.{◌≡◌, refl, sym, ap, subst, ◌∙◌}
use Rattle.std.specs.Prelude.{Some, is_some}
use mathlib.Core.Bool.{Bool, true}
use mathlib.Core.List.{List, [], ◌∷◌, ◌++◌, map, append_assoc, append-nil}
use mathlib.Core.Option.{Option}
use Prim.Native.Nat.{ℕ, suc, ◌+◌, ◌-◌, ◌≤◌, ◌<◌}
use native.Mathlib.Numerals.{add-one}
use native.Mathlib.Omega.{arith}
use lib.ListN.{length, set, get_or, take, drop, length-set, length-append, drop_of_length-le}
use lib.Seq.{drop-cons}
use borrow.Author.Tests.{ne_eqb}
use Rattle.lists.specs.declared.refusal.Refusal.{Refusal}
use Rattle.lists.specs.Refusals.{number_of as refusal_number}
use Rattle.lists.proofs.Refused.{not-accepted}
use Rattle.machine.specs.Wire.{Call, decode}
use Rattle.case.specs.declared.Case.{Case}
use Rattle.case.specs.Cases.{Held, case_in}
use Rattle.case.specs.declared.Applied.{Applied}
use Rattle.case.specs.Cases.{answer_to, after_asked, applied}
use Rattle.input.specs.Strings.{cut_at, strings_from, strings_in, in_front}
use Rattle.input.proofs.Strings.{cut-to, front-next}
use Rattle.case.proofs.Running.{asked-declined, asked-accepted}
use Rattle.timing.specs.Numbers.{reading_of, number_of}

-- ---- the number of one call

module _ (h : Held) (result : Bool) (s : List ℕ) (o : Applied) (e : o ≡ applied h s) (x : ℕ) where
  number-accepted : o.answer ≡ 0 → x ≡ reading_of (case_in o.held).book result → x ≡ number_of h result s
  unfolding number_of
  number-accepted z r = rw (← e, z) r

  number-declined : (o.answer ≡ 0 → ⊥) → x ≡ o.answer → x ≡ number_of h result s
  unfolding number_of
  number-declined g r = rw (← e, ne_eqb o.answer 0 g) r

-- what is read of what is held, where that is a case
pub case-read : (k : Held) (d : Case) (result : Bool) (x : ℕ) → k ≡ Some d → (is_some k ≡ true → x ≡ reading_of (case_in k).book result) → x ≡ reading_of d.book result
case-read k d result x e read = subst (λ (h : Held). is_some h ≡ true → x ≡ reading_of (case_in h).book result) e read refl

-- it is asked of the same case first
module _ (h : Held) (result : Bool) (now : Held) (same : now ≡ h) (a : Option Call) (s : List ℕ) (read : a ≡ decode s) (x : ℕ) where
  answered-same : answer_to now a ≡ answer_to h a
  answered-same = ap (λ (k : Held). answer_to k a) same

  pub declined : (r : Refusal) → refusal_number r ≡ answer_to now a → x ≡ refusal_number r → x ≡ number_of h result s
  declined r answered w = number-declined h result s _ (asked-declined h a s read r (answered ∙ answered-same)) x (not-accepted r) w

  pub accepted : 0 ≡ answer_to now a → (d : Case) → d ≡ after_asked (case_in now) a → x ≡ reading_of d.book result → x ≡ number_of h result s
  accepted answered d f r =
      number-accepted h result s _ (asked-accepted h a s read (answered ∙ answered-same) d (f ∙ ap (λ (k : Held). after_asked (case_in k) a) same)) x refl r

-- ---- the turns

pub record Going (h : Held) (result : Bool) (bytes ends old new : List ℕ) (now : Held) (at k : ℕ) : Type 0 where
  pub same : now ≡ h
  pub size : length new ≡ length old
  pub turns : k ≤ length ends
  pub place : at ≤ length bytes
  pub done : List ℕ
  pub many : length done ≡ k
  pub written : new ≡ in_front done old
  pub told : done ++ map (number_of h result) (strings_from at bytes (drop k ends)) ≡ map (number_of h result) (strings_in bytes ends)

pub starts : (h : Held) (result : Bool) (bytes ends old : List ℕ) → Going h result bytes ends old old h 0 0
unfolding in_front
starts h result bytes ends old =
    record {
      same = refl;
      size = refl;
      turns = omega arith;
      place = omega arith;
      done = [];
      many = refl;
      written = refl;
      told = refl;
    }

module _ (h : Held) (result : Bool) (bytes ends old new : List ℕ) (now : Held) (at k : ℕ) (g : Going h result bytes ends old new now at k) where
  pub goes : k < length ends → (to : ℕ) → to ≡ cut_at at (length bytes) (get_or ends k 0) → (x : ℕ) → x ≡ number_of h result (take (to - at) (drop at bytes))
      → (next : List ℕ) → next ≡ set new k x → (c : Held) → c ≡ h → Going h result bytes ends old next c to (k + 1)
  unfolding strings_from
  goes l to e x f next w c same =
      let n : strings_from at bytes (drop k ends) ≡ take (to - at) (drop at bytes) ∷ strings_from to bytes (drop (suc k) ends) =
      rw (drop-cons ends k 0 l, e) refl in
      record {
        same = same;
        size = rw (w, length-set) g.size;
        turns = omega arith;
        place = rw e (cut-to at (length bytes) (get_or ends k 0) g.place);
        done = g.done ++ (x ∷ []);
        many = rw length-append (omega (arith, g.many));
        written = w ∙ ap (λ (xs : List ℕ). set xs k x) g.written ∙ rw (← g.many) (front-next g.done old x);
        told = rw (append_assoc, add-one, f) (rw n at g.told);
      }

  pub all_told : length ends ≤ k → new ≡ in_front (map (number_of h result) (strings_in bytes ends)) old
  unfolding strings_from
  all_told l =
      g.written ∙ ap (λ (xs : List ℕ). in_front xs old) (sym (append-nil g.done) ∙ (rw (drop_of_length-le ends {i = k} l) at g.told))
