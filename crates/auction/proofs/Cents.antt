-- Prices held as cents + 1,000,000 add up, and are taken off, as their cents do. Assumes nothing.
use mathlib.Core.Path.{◌≡◌, refl, ap, ◌∙◌}
use mathlib.Core.Bool.{Bool, true, false, cond}
use mathlib.Core.List.{List, [], ◌∷◌}
use Prim.Native.Nat.{ℕ, zero, suc, ◌+◌, ◌-◌, ◌*◌}
use native.Mathlib.Omega.{arith}
use lib.Dec.{ltb}
use lib.IntN.{ℤ, pos, negsuc, sub_ℕ, neg_ℤ, ◌+ℤ◌, ◌-ℤ◌}
use lib.ListN.{length}
use borrow.Author.Tests.{ltb-true, ltb-false}
use Rattle.lists.specs.Lists.{sum}
use Rattle.auction.specs.Price.{zero_price, cents, sum_cents, at_least0}

-- equal differences
pub sub_same : (a b c d : ℕ) → a + d ≡ c + b → sub_ℕ a b ≡ sub_ℕ c d
sub_same a b c d e = go (ltb a b) refl (ltb c d) refl
  where
    go : (x : Bool) → ltb a b ≡ x → (y : Bool) → ltb c d ≡ y → cond x (negsuc (b - suc a)) (pos (a - b)) ≡ cond y (negsuc (d - suc c)) (pos (c - d))
    go true p true q = let l = ltb-true a b p in ap negsuc (omega arith)
    go true p false q = let l = ltb-true a b p in let k = ltb-false c d q in absurd (omega arith)
    go false p true q = let l = ltb-false a b p in let k = ltb-true c d q in absurd (omega arith)
    go false p false q = let l = ltb-false a b p in let k = ltb-false c d q in ap pos (omega arith)

pub pos-sub : (n : ℕ) → pos n ≡ sub_ℕ n 0
pos-sub n = go (ltb n 0) refl
  where
    go : (x : Bool) → ltb n 0 ≡ x → pos n ≡ cond x (negsuc (0 - suc n)) (pos (n - 0))
    go true p = let l = ltb-true n 0 p in absurd (omega arith)
    go false p = ap pos (omega arith)

pub neg-sub : (n : ℕ) → negsuc n ≡ sub_ℕ 0 (suc n)
neg-sub n = go (ltb 0 (suc n)) refl
  where
    go : (x : Bool) → ltb 0 (suc n) ≡ x → negsuc n ≡ cond x (negsuc (suc n - 1)) (pos (0 - suc n))
    go true p = ap negsuc (omega arith)
    go false p = let l = ltb-false 0 (suc n) p in absurd (omega arith)

-- differences add up
pub sub-add : (a b c d : ℕ) → sub_ℕ a b +ℤ sub_ℕ c d ≡ sub_ℕ (a + c) (b + d)
sub-add a b c d = go (ltb a b) refl (ltb c d) refl
  where
    go : (x : Bool) → ltb a b ≡ x → (y : Bool) → ltb c d ≡ y →
        cond x (negsuc (b - suc a)) (pos (a - b)) +ℤ cond y (negsuc (d - suc c)) (pos (c - d)) ≡ sub_ℕ (a + c) (b + d)
    go true p true q =
        let l = ltb-true a b p in let k = ltb-true c d q in
        neg-sub _ ∙ sub_same 0 (suc (suc (b - suc a + (d - suc c)))) (a + c) (b + d) (omega arith)
    go true p false q =
        let l = ltb-true a b p in let k = ltb-false c d q in
        sub_same (c - d) (suc (b - suc a)) (a + c) (b + d) (omega arith)
    go false p true q =
        let l = ltb-false a b p in let k = ltb-true c d q in
        sub_same (a - b) (suc (d - suc c)) (a + c) (b + d) (omega arith)
    go false p false q =
        let l = ltb-false a b p in let k = ltb-false c d q in
        pos-sub _ ∙ sub_same (a - b + (c - d)) 0 (a + c) (b + d) (omega arith)

-- "the sum of prices" in cents is the sum of the numbers held less 1,000,000 for each
pub sum-cents : (ps : List ℕ) → sum_cents ps ≡ sub_ℕ (sum ps) (zero_price * length ps)
unfolding sum_cents sum cents
sum-cents [] = refl
sum-cents (p ∷ ps) =
    ap (λ (z : ℤ). sub_ℕ p zero_price +ℤ z) (sum-cents ps)
    ∙ sub-add p zero_price (sum ps) (zero_price * length ps)
    ∙ ap (λ (n : ℕ). sub_ℕ (p + sum ps) n) (omega arith)

neg-pos : (n : ℕ) → neg_ℤ (pos n) ≡ sub_ℕ 0 n
neg-pos zero = refl
neg-pos (suc n) = neg-sub n

-- the opposite of a difference
pub neg-of-sub : (a b : ℕ) → neg_ℤ (sub_ℕ a b) ≡ sub_ℕ b a
neg-of-sub a b = go (ltb a b) refl
  where
    go : (x : Bool) → ltb a b ≡ x → neg_ℤ (cond x (negsuc (b - suc a)) (pos (a - b))) ≡ sub_ℕ b a
    go true p = let l = ltb-true a b p in pos-sub _ ∙ sub_same (suc (b - suc a)) 0 b a (omega arith)
    go false p = let l = ltb-false a b p in neg-pos (a - b) ∙ sub_same 0 (a - b) b a (omega arith)

-- `-` on natural numbers is the difference, at least 0
pub at_least_0 : (a b : ℕ) → at_least0 (sub_ℕ a b) ≡ a - b
at_least_0 a b = go (ltb a b) refl
  where
    go : (x : Bool) → ltb a b ≡ x → at_least0 (cond x (negsuc (b - suc a)) (pos (a - b))) ≡ a - b
    go true p = let l = ltb-true a b p in omega arith
    go false p = refl

-- h less the prices, at least 0, as it is computed on the numbers held
pub less-prices : (h : ℕ) (ps : List ℕ) → at_least0 (pos h -ℤ sum_cents ps) ≡ h + zero_price * length ps - sum ps
less-prices h ps =
    ap (λ (z : ℤ). at_least0 (pos h +ℤ neg_ℤ z)) (sum-cents ps)
    ∙ ap (λ (z : ℤ). at_least0 (pos h +ℤ z)) (neg-of-sub (sum ps) (zero_price * length ps))
    ∙ ap (λ (z : ℤ). at_least0 (z +ℤ sub_ℕ (zero_price * length ps) (sum ps))) (pos-sub h)
    ∙ ap at_least0 (sub-add h 0 (zero_price * length ps) (sum ps) ∙ ap (λ (n : ℕ). sub_ℕ (h + zero_price * length ps) n) (omega arith))
    ∙ at_least_0 (h + zero_price * length ps) (sum ps)
