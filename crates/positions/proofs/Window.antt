-- The last 66 days as one more comes: the sums gain its positions and lose those of the day that leaves. Assumes nothing.
use Rattle.std.proofs.Common.{◌≡◌, ℕ, suc, ◌+◌, ◌-◌, ◌<◌, ◌≤◌, List, [], ◌∷◌, ◌++◌, map, length, get_or, drop, refl, ap, ◌∙◌, arith, length-append, length-drop, drop-cons}
use lib.Seq.{drop-append-le}
use Rattle.lists.specs.Lists.{sum, Each}
use Rattle.lists.proofs.Sums.{sum-append, sum-at-most}
use Rattle.lists.proofs.Each.{map-append, each-drop, each_more}
use Rattle.positions.specs.Days.{Day, most_position, last_days, sum_at}
use Rattle.positions.proofs.Days.{Fits}

-- the most that the positions of one member add up to
abbrev pub most_sum : ℕ
most_sum = 660_000_000

sum_at-append : (m : ℕ) (xs ys : List Day) → sum_at m (xs ++ ys) ≡ sum_at m xs + sum_at m ys
unfolding sum_at
sum_at-append m xs ys = ap sum (map-append (λ (d : Day). get_or d m 0) xs ys) ∙ sum-append (map (λ (d : Day). get_or d m 0) xs) (map (λ (d : Day). get_or d m 0) ys)

sum_at-cons : (m : ℕ) (x : Day) (xs : List Day) → sum_at m (x ∷ xs) ≡ get_or x m 0 + sum_at m xs
unfolding sum_at sum
sum_at-cons m x xs = refl

sum_at-none : (m : ℕ) → sum_at m [] ≡ 0
unfolding sum_at sum
sum_at-none m = refl

module _ (m : ℕ) (days : List Day) (day : Day) where
  -- while the ring is not full, no day leaves
  pub window-grows : length days < 66 → sum_at m (last_days (days ++ (day ∷ []))) ≡ sum_at m (last_days days) + get_or day m 0
  unfolding last_days
  window-grows h =
      let none : length days - 66 ≡ 0 = omega arith in
      let still : length (days ++ (day ∷ [])) - 66 ≡ 0 = omega (arith, length-append days (day ∷ [])) in
      rw (none, still) (sum_at-append m days (day ∷ []) ∙ omega (arith, sum_at-cons m day [], sum_at-none m))

  -- then the earliest of the 66 does
  pub window-rolls : 66 ≤ length days
      → sum_at m (last_days (days ++ (day ∷ []))) + get_or (get_or days (length days - 66) []) m 0 ≡ sum_at m (last_days days) + get_or day m 0
  unfolding last_days
  window-rolls h =
      let at = length days - 66 in
      let rest = drop (suc at) days in
      let old : drop at days ≡ get_or days at [] ∷ rest = drop-cons days at [] (omega arith) in
      let next : length (days ++ (day ∷ [])) - 66 ≡ suc at = omega (arith, length-append days (day ∷ [])) in
      let new : drop (suc at) (days ++ (day ∷ [])) ≡ rest ++ (day ∷ []) = drop-append-le (suc at) days (day ∷ []) (omega arith) in
      rw (next, new, old)
      (omega (arith, sum_at-append m rest (day ∷ []), sum_at-cons m day [], sum_at-none m, sum_at-cons m (get_or days at []) rest))

-- the sums stay within their limit
pub window-small : (m : ℕ) (days : List Day) → Each Fits days → sum_at m (last_days days) ≤ most_sum
unfolding sum_at last_days
window-small m days fit =
    let last = drop (length days - 66) days in
    let few : length last ≤ 66 = omega (arith, length-drop (length days - 66) days) in
    let light = each_more Fits (λ (d : Day). get_or d m 0 ≤ most_position) (λ d h. h m) last (each-drop Fits (length days - 66) days fit) in
    omega (arith, sum-at-most (λ (d : Day). get_or d m 0) most_position last light)
