-- Document 02, C-17: all that is seen outside the house is read off a case without its reserves. Assumes nothing.
use mathlib.Core.Path.{◌≡◌, refl, sym, ap, ◌∙◌}
use mathlib.Core.Bool.{Bool, true, false}
use mathlib.Core.List.{List, map, map-map}
use mathlib.Core.Option.{none, some}
use Prim.Native.Nat.{ℕ}
use lib.IntN.{ℤ}
use lib.ListN.{take}
use Rattle.lists.specs.Lists.{when◌then◌else◌}
use Rattle.machine.specs.State.{Case, State, the_case, letter_of, is_f, member_list, member_at}
use Rattle.machine.specs.Requirement.{requirement, contributions, owes}
use Rattle.machine.specs.Result.{payments, limits, six_charges, charge, uncovered_rest, on_payments}
use Rattle.machine.specs.Run.{MemberResult, Result, sum_of_prices, result_of, observed, run_from}
use Rattle.machine.specs.Running.{left_sum, nothing_kept, kept_from}
use Rattle.machine.proofs.Running.{kept-state, running-sum, reading_of, reading-is}
use Rattle.reserves.specs.Reserves.{SameAtClose, Outside, totals, totals_if, outside_of, outside, without_reserves, state_without}
use Rattle.reserves.proofs.Alike.{Alike, same-states}

-- ---- the result

same-result : (b : Bool) (r q : Result) → totals r ≡ totals q → totals_if (when b then some r else none) ≡ totals_if (when b then some q else none)
unfolding totals_if
same-result true r q e = ap some e
same-result false r q e = refl

-- the payments' parts, read off a result
parts : (c : Case) → map (λ (x : MemberResult). x.on_payments) (result_of c).members ≡ map (on_payments c) (member_list c.head)
unfolding result_of
parts c = map-map (λ (x : MemberResult). x.on_payments) _ (member_list c.head)

same-totals : (c : Case) → totals (result_of (without_reserves c)) ≡ totals (result_of c)
unfolding totals result_of requirement limits six_charges uncovered_rest payments contributions on_payments charge
same-totals c =
    let parts = parts (without_reserves c) ∙ sym (parts c) in
    λ i. record { loss = requirement c; charges = six_charges c; uncovered = uncovered_rest c; on_payments = parts i }

-- ---- a state

-- what is seen of a state, its sums and its requirement added up over the roll
abbrev pub outside_at : State → Outside
outside_at s =
    let c = the_case s in
    let ms = member_list c.head in
    outside_of (observed 0 s) (left_sum c) (reading_of s) (map (λ m. (member_at c.members m).called) ms) (map (owes c.members) ms)

-- it is what is seen with the sums and the requirement as they are kept
pub outside-full : (calls : List (List ℕ)) → outside (kept_from nothing_kept calls) ≡ outside_at (run_from none calls)
unfolding outside
outside-full calls =
    let seen : State → (ℕ → ℤ) → ℕ × ℕ → Outside
    = λ s sums r. outside_of (observed 0 s) sums r (map (λ m. (member_at (the_case s).members m).called) (member_list (the_case s).head)) (map (owes (the_case s).members) (member_list (the_case s).head)) in
    λ i. seen (kept-state calls i) (λ pool. running-sum calls pool i) (reading-is calls i)

seen-without : (s : State) → outside_at (state_without s) ≡ outside_at s
unfolding outside_of observed requirement sum_of_prices left_sum letter_of
seen-without none = refl
seen-without (some c) =
    let o = outside_at (some c) in
    let result = same-result (is_f (some c)) (result_of (without_reserves c)) (result_of c) (same-totals c) in
    λ i. record {
      counts = o.counts;
      holdings = o.holdings;
      prices = o.prices;
      sums = o.sums;
      requirement = o.requirement;
      called = o.called;
      owed = o.owed;
      result = result i;
    }

seen_alike : (s t : State) → Alike s t → outside_at s ≡ outside_at t
seen_alike s t alike = sym (seen-without s) ∙ ap outside_at alike ∙ seen-without t

-- ---- every list of calls

module _ (calls others : List (List ℕ)) (same : SameAtClose calls others) where
  pub same-outside : (k : ℕ) → outside (kept_from nothing_kept (take k calls)) ≡ outside (kept_from nothing_kept (take k others))
  same-outside k =
      outside-full (take k calls)
      ∙ seen_alike (run_from none (take k calls)) (run_from none (take k others)) (same-states calls others same k)
      ∙ sym (outside-full (take k others))
