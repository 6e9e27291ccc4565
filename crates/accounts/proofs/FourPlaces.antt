-- Laws of `put_four`: the four places have the four values, and the others stay. Assumes nothing.
use borrow.Rule.Slice.PartMut.{put_mid}
use mathlib.Core.Path.{◌≡◌, refl, sym, ap, ◌∙◌}
use mathlib.Core.List.{List, [], ◌∷◌, ◌++◌}
use Prim.Native.Nat.{ℕ, zero, suc, ◌+◌, ◌-◌, ◌*◌, ◌<◌}
use native.Mathlib.Nat.{add-zero}
use native.Mathlib.Omega.{arith}
use lib.ListN.{length, get_or, set, take, drop, length-set}
use lib.Seq.{get_or-set_same, get_or-set_other}
use Rattle.lists.specs.Lists.{tab}
use Rattle.lists.proofs.Places.{tab-of}
use Rattle.accounts.specs.Fours.{put_four}

module _ {A : Type 0} (xs : List A) (k : ℕ) (a b c d : A) where
  pub length-four : length (put_four xs k a b c d) ≡ length xs
  unfolding put_four
  length-four = simp length-set

  -- the places of another four
  pub four-other : (z : A) (j p : ℕ) → p < 4 → (j ≡ k → ⊥) → get_or (put_four xs k a b c d) (4 * j + p) z ≡ get_or xs (4 * j + p) z
  unfolding put_four
  four-other z j p l apart =
      get_or-set_other (set (set (set xs (4 * k) a) (4 * k + 1) b) (4 * k + 2) c) (4 * k + 3) (4 * j + p) d z (omega arith)
      ∙ get_or-set_other (set (set xs (4 * k) a) (4 * k + 1) b) (4 * k + 2) (4 * j + p) c z (omega arith)
      ∙ get_or-set_other (set xs (4 * k) a) (4 * k + 1) (4 * j + p) b z (omega arith)
      ∙ get_or-set_other xs (4 * k) (4 * j + p) a z (omega arith)

  -- the four places
  pub four-at : (z : A) (p : ℕ) → p < 4 → 4 * k + 3 < length xs → get_or (put_four xs k a b c d) (4 * k + p) z ≡ get_or (a ∷ b ∷ c ∷ d ∷ []) p z
  unfolding put_four
  four-at z zero l long =
      rw (add-zero (4 * k))
      (get_or-set_other (set (set (set xs (4 * k) a) (4 * k + 1) b) (4 * k + 2) c) (4 * k + 3) (4 * k) d z (omega arith)
      ∙ get_or-set_other (set (set xs (4 * k) a) (4 * k + 1) b) (4 * k + 2) (4 * k) c z (omega arith)
      ∙ get_or-set_other (set xs (4 * k) a) (4 * k + 1) (4 * k) b z (omega arith)
      ∙ get_or-set_same xs (4 * k) a z (omega arith))
  four-at z (suc zero) l long =
      get_or-set_other (set (set (set xs (4 * k) a) (4 * k + 1) b) (4 * k + 2) c) (4 * k + 3) (4 * k + 1) d z (omega arith)
      ∙ get_or-set_other (set (set xs (4 * k) a) (4 * k + 1) b) (4 * k + 2) (4 * k + 1) c z (omega arith)
      ∙ get_or-set_same (set xs (4 * k) a) (4 * k + 1) b z (simp length-set (omega arith))
  four-at z (suc (suc zero)) l long =
      get_or-set_other (set (set (set xs (4 * k) a) (4 * k + 1) b) (4 * k + 2) c) (4 * k + 3) (4 * k + 2) d z (omega arith)
      ∙ get_or-set_same (set (set xs (4 * k) a) (4 * k + 1) b) (4 * k + 2) c z (simp length-set (omega arith))
  four-at z (suc (suc (suc zero))) l long =
      get_or-set_same (set (set (set xs (4 * k) a) (4 * k + 1) b) (4 * k + 2) c) (4 * k + 3) d z (simp length-set (omega arith))
  four-at z (suc (suc (suc (suc p)))) l long = absurd (omega arith)

  pub four-list : (z : A) → 4 * k + 3 < length xs → tab 4 (λ p. get_or (put_four xs k a b c d) (4 * k + p) z) ≡ a ∷ b ∷ c ∷ d ∷ []
  four-list z long = sym (tab-of 4 (λ p. get_or (put_four xs k a b c d) (4 * k + p) z) z (a ∷ b ∷ c ∷ d ∷ []) refl (λ p l. sym (four-at z p l long)))

-- a slice of four places written at once
module _ {A : Type 0} (a b c d : A) where
  four-in : (xs : List A) (i : ℕ) → i + 3 < length xs
      → take i xs ++ (a ∷ b ∷ c ∷ d ∷ drop 4 (drop i xs)) ≡ set (set (set (set xs i a) (i + 1) b) (i + 2) c) (i + 3) d
  four-in [] i l = absurd (omega arith)
  four-in (w ∷ []) zero l = absurd (omega arith)
  four-in (w ∷ x ∷ []) zero l = absurd (omega arith)
  four-in (w ∷ x ∷ y ∷ []) zero l = absurd (omega arith)
  four-in (w ∷ x ∷ y ∷ z ∷ xs) zero l = refl
  four-in (x ∷ xs) (suc i) l =
      let e1 : suc i + 1 ≡ suc (i + 1) = omega arith in
      let e2 : suc i + 2 ≡ suc (i + 2) = omega arith in
      let e3 : suc i + 3 ≡ suc (i + 3) = omega arith in
      rw (e1, e2, e3) (ap (λ (l : List A). x ∷ l) (four-in xs i (omega arith)))

  pub four-put : (xs ys : List A) (k : ℕ) → ys ≡ a ∷ b ∷ c ∷ d ∷ [] → 4 * k + 3 < length xs → put_mid (4 * k) (4 * k + 4 - 4 * k) xs ys ≡ put_four xs k a b c d
  unfolding put_four
  four-put xs ys k e l =
      let long : 4 * k + 4 - 4 * k ≡ 4 = omega arith in
      rw (e, long) (four-in xs (4 * k) l)

pub four-of : {A : Type 0} (z : A) (ys : List A) → length ys ≡ 4 → ys ≡ get_or ys 0 z ∷ get_or ys 1 z ∷ get_or ys 2 z ∷ get_or ys 3 z ∷ []
unfolding tab
four-of z ys long = tab-of 4 (λ k. get_or ys k z) z ys long (λ k l. refl)
