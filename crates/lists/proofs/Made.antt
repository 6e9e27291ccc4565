-- An array made by a function of the place (`array::from_fn`) that each call leaves as it was has at each place what the function gives. Assumes nothing.
use Rattle.std.proofs.Common.{◌≡◌, ◌∙◌, ℕ, zero, suc, ◌+◌, ◌<◌, List, get_or, subst, arith, add-zero}
use Rattle.std.specs.Array.{IsFromFnResult, IsFromFnResultFrom}
use Rattle.std.specs.Fn.{Called}
use denote.Param.Members.{Mut}
use Rattle.lists.specs.Lists.{tab}
use Rattle.lists.proofs.Places.{tab-of}

module _ {F B : Type 0} (g : Mut F (ℕ × Unit {0}) B) (h : ℕ → B) {f : F} (same : (i : ℕ) (y : B) (q : F) → Called g f (i, tt) y q → (q ≡ f) × (y ≡ h i)) where
  made-from : (ys : List B) (i n : ℕ) (d : B) (k : ℕ) → k < n → IsFromFnResultFrom g f ys i n → get_or ys (i + k) d ≡ h (i + k)
  made-from ys i zero d k l r = absurd (omega arith)
  made-from ys i (suc n) d zero l (q, y, at, call, rest) = rw add-zero (at.1 d ∙ (same i y q call).1)
  made-from ys i (suc n) d (suc k) l (q, y, at, call, rest) =
      let next : (i + 1) + k ≡ i + suc k = omega arith in
      let later : get_or ys ((i + 1) + k) d ≡ h ((i + 1) + k) =
      made-from ys (i + 1) n d k (omega arith) (subst (λ (p : F). IsFromFnResultFrom g p ys (i + 1) n) (same i y q call).0 rest) in
      subst (λ (j : ℕ). get_or ys j d ≡ h j) next later

  pub made : (ys : List B) (n : ℕ) (d : B) → IsFromFnResult g f ys n → ys ≡ tab n h
  made ys n d r =
      tab-of n h d ys r.long
      (λ k l.
      let none : 0 + k ≡ k = omega arith in
      subst (λ (j : ℕ). get_or ys j d ≡ h j) none (made-from ys 0 n d k l r.each))
