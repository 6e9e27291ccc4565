-- The turns of MOVE one by one. Assumes nothing.
use mathlib.Core.Path.{◌≡◌, refl, sym, ap, ◌∙◌}
use mathlib.Core.Bool.{Bool, true, false, ◌||◌}
use mathlib.Core.List.{List}
use Prim.Native.Nat.{ℕ, zero, suc, ◌+◌, ◌-◌, ◌*◌, ◌<◌, min}
use native.Mathlib.Omega.{arith}
use lib.Dec.{leb, eqb}
use lib.ListN.{get_or, set}
use Rattle.auction.specs.Price.{zero_price}
use Rattle.units.specs.Places.{moved_at}
use Rattle.units.specs.Steps.{transferred, repriced, with_counts}
use Rattle.turns.specs.Keys.{no_key, live_keys, least_key, key_place, key_price, needed}
use Rattle.units.specs.Groups.{pool_at, Passed, pass_groups, move_units}
use Rattle.units.specs.declared.Units.{Units}

abbrev pub both : List ℕ → List ℕ → Passed
both counts sums = record { counts = counts; sums = sums }

module _ (pools : List ℕ) (m : ℕ) where
  abbrev pub go : ℕ → ℕ → List ℕ → List ℕ → List ℕ → Passed
  go = pass_groups pools m

  -- whether the turns are over
  abbrev pub over : ℕ → List ℕ → Bool
  over owed keys = eqb owed 0 || leb no_key (least_key keys)

  module _ (owed : ℕ) (keys counts sums : List ℕ) where
    -- the place that has its turn, its pool, what each of its units saves, and how many of them move
    abbrev pub at : ℕ
    at = key_place (least_key keys)

    abbrev pub pool : ℕ
    pool = pool_at pools at

    abbrev pub saving : ℕ
    saving = zero_price - key_price (least_key keys)

    abbrev pub many : ℕ
    many = min (get_or counts (4 + at) 0) (needed owed saving)

    abbrev pub turned : ℕ → Passed
    turned g =
        go g (owed - many * saving) (set keys at no_key) (transferred counts (4 + at) (moved_at pool m) many) (repriced sums pool many (key_price (least_key keys)) zero_price)

    abbrev choice : ℕ → Bool → Passed
    choice g b = elim b [ true ↦ both counts sums | false ↦ turned g ]

    pub groups-end : go 0 owed keys counts sums ≡ both counts sums
    unfolding pass_groups
    groups-end = refl

    pub groups-stop : (g : ℕ) → over owed keys ≡ true → go g owed keys counts sums ≡ both counts sums
    unfolding pass_groups
    groups-stop zero stop = refl
    groups-stop (suc g) stop = ap (choice g) stop

    pub groups-turn : (g : ℕ) → over owed keys ≡ false → go (suc g) owed keys counts sums ≡ turned g
    unfolding pass_groups
    groups-turn g on = ap (choice g) on

-- one turn of the loop: its numbers are those of the turn, so what is left to do leads to the same
pub turn-next : (pools : List ℕ) (m owed turn : ℕ) (keys counts sums : List ℕ) (end : Passed) (key j pool price saving n m' left : ℕ) (counts' sums' : List ℕ)
    → turn < 384 → over pools m owed keys ≡ false → pass_groups pools m (384 - turn) owed keys counts sums ≡ end
    → key ≡ least_key keys → j ≡ key_place key → pool ≡ pool_at pools j → price ≡ key_price key → saving ≡ zero_price - price
    → n ≡ min (get_or counts (4 + j) 0) (needed owed saving) → m' ≡ m → left ≡ owed - n * saving
    → counts' ≡ transferred counts (4 + j) (moved_at pool m') n → sums' ≡ repriced sums pool n price zero_price
    → pass_groups pools m (384 - (turn + 1)) left (set keys j no_key) counts' sums' ≡ end
turn-next pools m owed turn keys counts sums end key j pool price saving n m' left counts' sums' more on rest ek ej ep er es en em el ec eu =
    let g : 384 - turn ≡ suc (384 - (turn + 1)) = omega arith in
    rw (eu, ec, el, em, en, es, er, ep, ej, ek) (sym (groups-turn pools m owed keys counts sums (384 - (turn + 1)) on) ∙ rw (← g) rest)

-- the units when the turns are over
pub move-done : (u : Units) (prices pools : List ℕ) (m owed : ℕ) (keys counts sums : List ℕ) → keys ≡ live_keys u.allocation prices u.counts
    → both counts sums ≡ pass_groups pools m 384 owed keys u.counts u.sums → (r : Units) → r ≡ with_counts u counts sums → r ≡ move_units u prices pools m owed
unfolding move_units
move-done u prices pools m owed keys counts sums ek e r er =
    er ∙ ap (λ (x : Passed). with_counts u x.counts x.sums) (e ∙ ap (λ (ks : List ℕ). pass_groups pools m 384 owed ks u.counts u.sums) ek)
