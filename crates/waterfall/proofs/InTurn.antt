-- The loop of `charge_layers`: what is charged already, and what the layers still to come will be charged, make all the charges; and the
-- same of the rest. Assumes nothing.
use mathlib.Core.Path.{◌≡◌, refl, ◌∙◌, sym}
use mathlib.Core.List.{List, [], ◌++◌, append-nil, append_assoc}
use Prim.Native.Nat.{ℕ, ◌+◌, ◌-◌, ◌≤◌, ◌<◌, min}
use native.Mathlib.Numerals.{add-one}
use native.Mathlib.Omega.{arith}
use lib.ListN.{length, get_or, take, drop, set, length-set, drop_of_length-le}
use lib.Seq.{take-suc-set, drop-cons, take_all}
use Rattle.waterfall.specs.Charging.{charged, uncovered}
use Rattle.waterfall.proofs.Layers.{uncovered-none, uncovered-next}

pub record Done (loss : ℕ) (limits out : List ℕ) (left i : ℕ) : Type 0 where
  pub upto : i ≤ length limits
  pub size : length out ≡ length limits
  pub list : take i out ++ charged left (drop i limits) ≡ charged loss limits
  pub rest : uncovered left (drop i limits) ≡ uncovered loss limits

pub start : (loss : ℕ) (limits out : List ℕ) → length out ≡ length limits → Done loss limits out loss 0
start loss limits out e = record { upto = omega arith; size = e; list = refl; rest = refl }

pub turn : (loss : ℕ) (limits out : List ℕ) (left i : ℕ) → i < length limits → Done loss limits out left i
    → Done loss limits (set out i (min left (get_or limits i 0))) (left - get_or limits i 0) (i + 1)
unfolding charged
turn loss limits out left i h d = record {
  upto = omega arith;
  size = simp length-set d.size;
  list =
      let fits : i < length out = omega (arith, d.size) in
      rw (add-one, take-suc-set, append_assoc) (rw (drop-cons limits i 0) at d.list);
  rest = rw add-one (sym (uncovered-next left (get_or limits i 0) _) ∙ rw (drop-cons limits i 0) at d.rest);
}

pub finish : (loss : ℕ) (limits out : List ℕ) (left i : ℕ) → length limits ≤ i → Done loss limits out left i
    → (out ≡ charged loss limits) × (left ≡ uncovered loss limits)
unfolding charged
finish loss limits out left i h d =
    let fits : length out ≤ i = omega (arith, d.size) in
    let none : drop i limits ≡ [] = drop_of_length-le limits h in
    (rw (take_all, none, append-nil) at d.list, sym (uncovered-none left) ∙ rw none at d.rest)
