-- What holds at each turn of `ask`: the questions passed are answered in front of what was there. Assumes nothing.
use mathlib.Core.Path.{◌≡◌, refl, sym, ap, ◌∙◌}
use mathlib.Core.List.{List, [], ◌∷◌}
use Prim.Native.Nat.{ℕ, zero, suc, ◌+◌, ◌≤◌, ◌<◌, min}
use native.Mathlib.Numerals.{add-one}
use native.Mathlib.Omega.{arith}
use lib.ListN.{length, set, get_or, length-set}
use Rattle.lists.specs.Lists.{tab}
use Rattle.lists.proofs.Places.{length-tab, tab-last}
use Rattle.case.specs.Cases.{Held}
use Rattle.input.specs.Strings.{in_front}
use Rattle.exports.specs.Showing.{holding_shown, asks, holdings_of}
use Rattle.input.proofs.Strings.{front-next}

-- what stands in front of a run ends where the run does
front_room : (n : ℕ) (f : ℕ → ℕ) (old : List ℕ) → in_front (tab (min (length old) n) f) old ≡ in_front (tab n f) old
unfolding tab in_front
front_room zero f old = let none : min (length old) 0 ≡ 0 = omega arith in rw none refl
front_room (suc n) f [] = let none : min 0 (suc n) ≡ 0 = omega arith in rw none refl
front_room (suc n) f (y ∷ old) =
    let one : min (suc (length old)) (suc n) ≡ suc (min (length old) n) = omega arith in
    rw one (ap (λ (xs : List ℕ). f 0 ∷ xs) (front_room n (λ k. f (suc k)) old))

-- the answer to question k
unfoldable pub answered : Held → List ℕ → List ℕ → List ℕ → ℕ → ℕ
answered h members pools prices k = holding_shown h (get_or members k 0) (get_or pools k 0) (get_or prices k 0)

pub record Asking (h : Held) (members pools prices old new : List ℕ) (n k : ℕ) : Type 0 where
  pub most : n ≡ min (length old) (min (min (length members) (length pools)) (length prices))
  pub turns : k ≤ n
  pub size : length new ≡ length old
  pub written : new ≡ in_front (tab k (answered h members pools prices)) old

module _ (h : Held) (members pools prices old : List ℕ) (n : ℕ) where
  pub begins : n ≡ min (length old) (min (min (length members) (length pools)) (length prices)) → Asking h members pools prices old old n 0
  unfolding tab in_front
  begins e = record { most = e; turns = omega arith; size = refl; written = refl }

  pub asks-next : (new : List ℕ) (k : ℕ) → Asking h members pools prices old new n k → k < n → (x : ℕ)
      → x ≡ holding_shown h (get_or members k 0) (get_or pools k 0) (get_or prices k 0) → (next : List ℕ) → next ≡ set new k x
      → Asking h members pools prices old next n (k + 1)
  unfolding answered
  asks-next new k g l x e next w =
      let f = answered h members pools prices in
      record {
        most = g.most;
        turns = omega arith;
        size = rw (w, length-set) g.size;
        written =
            w
            ∙ ap (λ (s : List ℕ). set s k x) g.written
            ∙ ap (λ (i : ℕ). set (in_front (tab k f) old) i x) (sym (length-tab k f))
            ∙ front-next (tab k f) old x
            ∙ rw (add-one k, tab-last k f, e) refl;
      }

  pub asked-all : (new : List ℕ) (k : ℕ) → Asking h members pools prices old new n k → n ≤ k → new ≡ in_front (holdings_of h members pools prices) old
  unfolding asks answered
  asked-all new k g l =
      let e : k ≡ min (length old) (min (min (length members) (length pools)) (length prices)) = omega (arith, g.most, g.turns) in
      g.written
      ∙ ap (λ (i : ℕ). in_front (tab i (answered h members pools prices)) old) e
      ∙ front_room (min (min (length members) (length pools)) (length prices)) (answered h members pools prices) old
