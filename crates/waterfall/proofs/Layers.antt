-- What charging in turn does: nothing is lost, no limit is passed, a layer is reached only when those before it are spent, and layers may be
-- charged in groups. Assumes nothing.
use mathlib.Core.Path.{◌≡◌, refl, ap, ap₂}
use mathlib.Core.List.{List, [], ◌∷◌, ◌++◌}
use Prim.Native.Nat.{ℕ, zero, suc, ◌+◌, ◌-◌, ◌≤◌, ◌<◌, min}
use native.Mathlib.Omega.{arith}
use lib.ListN.{length, get_or, take}
use Rattle.lists.specs.Lists.{sum}
use Rattle.waterfall.specs.Charging.{charged, uncovered}

-- a charge for each limit
pub charged-length : (q : ℕ) (ls : List ℕ) → length (charged q ls) ≡ length ls
unfolding charged
charged-length q [] = refl
charged-length q (l ∷ ls) = ap suc (charged-length (q - l) ls)

-- the charges together are the loss or the limits' sum, whichever is less
pub charged-is : (q : ℕ) (ls : List ℕ) → sum (charged q ls) ≡ min q (sum ls)
unfolding charged sum
charged-is q [] = omega arith
charged-is q (l ∷ ls) = omega (arith, charged-is (q - l) ls)

-- the charges and the rest make the loss
pub adds-up : (q : ℕ) (ls : List ℕ) → sum (charged q ls) + uncovered q ls ≡ q
unfolding uncovered
adds-up q ls = omega (arith, charged-is q ls)

-- the charge of layer i: what the layers before it leave, up to its limit
pub charge-at : (q : ℕ) (ls : List ℕ) (i : ℕ) → get_or (charged q ls) i 0 ≡ min (q - sum (take i ls)) (get_or ls i 0)
unfolding charged sum
charge-at q [] i = omega arith
charge-at q (l ∷ ls) zero = omega arith
charge-at q (l ∷ ls) (suc i) = omega (arith, charge-at (q - l) ls i)

-- none above its limit
pub charge-le : (q : ℕ) (ls : List ℕ) (i : ℕ) → get_or (charged q ls) i 0 ≤ get_or ls i 0
charge-le q ls i = omega (arith, charge-at q ls i)

-- a layer that is charged: every earlier one is charged its whole limit, so it has no money left
pub earlier-spent : (q : ℕ) (ls : List ℕ) (i j : ℕ) → j < i → 0 < get_or (charged q ls) i 0 → get_or (charged q ls) j 0 ≡ get_or ls j 0
unfolding charged sum
earlier-spent q [] i j h p = refl
earlier-spent q (l ∷ ls) zero j h p = absurd (omega arith)
earlier-spent q (l ∷ ls) (suc i) zero h p = omega (arith, charge-at (q - l) ls i)
earlier-spent q (l ∷ ls) (suc i) (suc j) h p = earlier-spent (q - l) ls i j (omega arith) p

-- a loss of at least the limits' sum: every layer is charged its whole limit
pub all-spent : (q : ℕ) (ls : List ℕ) → sum ls ≤ q → charged q ls ≡ ls
unfolding charged sum
all-spent q [] h = refl
all-spent q (l ∷ ls) h = ap₂ (λ x xs. x ∷ xs) (omega arith) (all-spent (q - l) ls (omega arith))

-- a rest is uncovered only if all layers are spent
pub uncovered-last : (q : ℕ) (ls : List ℕ) → 0 < uncovered q ls → charged q ls ≡ ls
unfolding uncovered
uncovered-last q ls some = all-spent q ls (omega arith)

-- the rest, layer by layer
pub uncovered-none : (q : ℕ) → uncovered q [] ≡ q
unfolding uncovered sum
uncovered-none q = omega arith

pub uncovered-next : (q l : ℕ) (ls : List ℕ) → uncovered q (l ∷ ls) ≡ uncovered (q - l) ls
unfolding uncovered sum
uncovered-next q l ls = omega arith

-- layers in two groups: the second is charged what the first leaves
pub in-groups : (q : ℕ) (a b : List ℕ) → charged q (a ++ b) ≡ charged q a ++ charged (uncovered q a) b
unfolding charged
in-groups q [] b = rw uncovered-none
in-groups q (l ∷ ls) b = rw uncovered-next (ap (λ xs. min q l ∷ xs) (in-groups (q - l) ls b))

-- the charges of a group are those of one layer with the group's limits together
pub group-charged : (q : ℕ) (a : List ℕ) (b : List ℕ) → sum (charged q a) ≡ get_or (charged q (sum a ∷ b)) 0 0
unfolding charged
group-charged q a b = charged-is q a
