-- A day that comes into its row, position by position. Assumes nothing.
use Rattle.std.proofs.Common.{◌≡◌, ℕ, ◌+◌, ◌*◌, ◌<◌, List, get_or, set, refl, ap, ◌∙◌, arith}
use lib.Seq.{sets}
use Rattle.lists.specs.Lists.{tab}
use Rattle.lists.proofs.Places.{length-tab}
use Rattle.lists.proofs.Stores.{sets-turn, front-turn, get-behind}
use Rattle.machine.specs.Wire.{number}
use Rattle.positions.specs.Days.{day_at}
use Rattle.positions.specs.Keeping.{rolled, rolled_at}
use Rattle.positions.proofs.Days.{day-get}

pub begin : (l : List ℕ) (i : ℕ) (f : ℕ → ℕ) → sets l i (tab 0 f) ≡ l
unfolding tab
begin l i f = refl

module _ (ring₀ sums₀ : List ℕ) (row : ℕ) (bytes : List ℕ) (at n m : ℕ) where
  abbrev position : ℕ → ℕ
  position j = number (at + 4 * j) 4 bytes

  abbrev rolls : ℕ → ℕ
  rolls = rolled_at sums₀ ring₀ row (day_at n bytes at)

  module _ (ring sums : List ℕ) (comes : ℕ) (re : ring ≡ sets ring₀ (32 * row) (tab m position)) (se : sums ≡ sets sums₀ 0 (tab m rolls)) (ce : comes ≡ position m) where
    pub ring-turn : set ring (32 * row + m) comes ≡ sets ring₀ (32 * row) (tab (m + 1) position)
    ring-turn = ap (λ (l : List ℕ). set l (32 * row + m) comes) re ∙ sets-turn ring₀ (32 * row) m comes position ce

    pub sums-turn : m < n → set sums m (rolled (get_or sums m 0) comes (get_or ring (32 * row + m) 0)) ≡ sets sums₀ 0 (tab (m + 1) rolls)
    unfolding rolled_at
    sums-turn l =
        let sum : get_or sums m 0 ≡ get_or sums₀ m 0 = ap (λ (x : List ℕ). get_or x m 0) se ∙ get-behind sums₀ 0 (tab m rolls) m (omega (arith, length-tab m rolls)) in
        let leaves : get_or ring (32 * row + m) 0 ≡ get_or ring₀ (32 * row + m) 0
        = ap (λ (x : List ℕ). get_or x (32 * row + m) 0) re ∙ get-behind ring₀ (32 * row) (tab m position) (32 * row + m) (omega (arith, length-tab m position)) in
        let value : rolled (get_or sums m 0) comes (get_or ring (32 * row + m) 0) ≡ rolls m = rw (sum, leaves, ce, day-get n bytes at m l) in
        front-turn sums₀ sums m _ rolls se value
