-- What is claimed of every run of days holds. Assumes nothing.
use Rattle.std.proofs.Common.{◌≡◌, ℕ, zero, suc, ◌+◌, ◌<◌, ◌≤◌, Bool, true, false, List, ◌++◌, length, get_or, take, replicate, refl, ap, ◌∙◌, ⊎_elim, append-nil, arith, drop_of_length-le, le-ltb, lt-ltb}
use lib.Seq.{sets-eq}
use Rattle.lists.specs.Lists.{when◌then◌else◌, sum, count_to, all, joined}
use Rattle.lists.proofs.Bools.{cases, lt-or-le}
use Rattle.lists.proofs.Counts.{each_all}
use Rattle.lists.proofs.Each.{each_both, each_take}
use Rattle.lists.proofs.Places.{length-tab, get_or-tab, get_or-tab-past}
use Rattle.sets.specs.Set.{member, members, of_members}
use Rattle.sets.proofs.Members.{members-few}
use Rattle.splitting.specs.Split.{split}
use Rattle.splitting.proofs.Shares.{split-none, split-length, split-sum}
use Rattle.splitting.proofs.Ties.{split-order}
use Rattle.positions.specs.Days.{days_of, in_range, by_member}
use Rattle.positions.specs.Keeping.{Kept, Taken, no_days, kept_after}
use Rattle.positions.specs.Claim.{EveryDay, EveryPart, AddsUp, NoLess, WritesAll, Claim}
use Rattle.positions.proofs.Days.{days-long}
use Rattle.positions.proofs.Records.{taken-all, taken-bad}
use Rattle.positions.proofs.Reached.{sums-afresh}
use Rattle.positions.proofs.Ends.{placed, by_member-sum}
use Rattle.positions.proofs.Parts.{after-parts, after-answer, cut-anywhere}

every-day : EveryDay
every-day set bytes day t =
    let n = length (members set) in
    let days = take day (days_of n bytes) in
    sums-afresh n (members-few set) days
    (each_both (λ d. length d ≡ n) (λ d. in_range d ≡ true) days (each_take (λ d. length d ≡ n) day (days_of n bytes) (days-long n bytes)) (each_all in_range days t))

every-part : EveryPart
unfolding kept_after
every-part set parts some z =
    let n = length (members set) in
    let bytes = joined parts in
    let days = days_of n bytes in
    let answer = after-answer n some parts z in
    let good : all in_range days ≡ true = cases (all in_range days) _ (λ t. t) (λ f. absurd (omega (arith, answer, taken-bad n no_days 0 days f))) in
    ap (λ (x : Kept). take n x.sums) (after-parts n some parts z ∙ ap (λ (t : Taken). t.kept) (taken-all n no_days 0 days good))
    ∙ sums-afresh n (members-few set) days
    (each_both (λ d. length d ≡ n) (λ d. in_range d ≡ true) days (days-long n bytes) (each_all in_range days good))

sum_zeros : (k : ℕ) → sum (replicate k 0) ≡ 0
unfolding sum
sum_zeros zero = refl
sum_zeros (suc k) = omega (arith, sum_zeros k)

adds-up : AddsUp
adds-up set units sums e =
    by_member-sum set (split units sums) (split-length units sums ∙ e)
    ∙ ⊎_elim
    (λ p. split-sum units sums p ∙ rw (lt-ltb 0 (sum sums) p))
    (λ g.
    let none : sum sums ≡ 0 = omega arith in
    ap sum (split-none units sums none) ∙ sum_zeros (length sums) ∙ rw (le-ltb 0 (sum sums) g))
    (lt-or-le 0 (sum sums))

writes-all : WritesAll
unfolding by_member of_members
writes-all set xs shares e =
    let ys = by_member set xs in
    let long : length ys ≡ 32 = length-tab 32 (placed set xs) in
    sets-eq ys shares 0 (omega arith)
    ∙ ap (λ (l : List ℕ). ys ++ l) (drop_of_length-le shares {i = 0 + length ys} (omega arith))
    ∙ append-nil ys

no_less : NoLess
unfolding by_member of_members
no_less set units sums j i h =
    ⊎_elim
    (λ k. ⊎_elim
    (λ l. rw (get_or-tab 32 (placed set shares) i 0 l, get_or-tab 32 (placed set shares) j 0 k)
    (go (member set j) (member set i) (rw (get_or-tab 32 (placed set sums) i 0 l, get_or-tab 32 (placed set sums) j 0 k) at h)))
    (λ g. omega (arith, get_or-tab-past 32 (placed set shares) i g))
    (lt-or-le i 32))
    (λ g. absurd (omega (arith, get_or-tab-past 32 (placed set sums) j g)))
    (lt-or-le j 32)
  where
    shares : List ℕ
    shares = split units sums

    place : ℕ → ℕ
    place m = count_to m (member set)

    go : (a b : Bool) → (when b then get_or sums (place i) 0 else 0) < (when a then get_or sums (place j) 0 else 0)
        → (when b then get_or shares (place i) 0 else 0) ≤ (when a then get_or shares (place j) 0 else 0)
    go true true h = split-order units sums (place j) (place i) h
    go false b h = absurd (omega arith)
    go true false h = omega arith

pub claim : Claim
claim = record { every-day = every-day; every-part = every-part; cut-anywhere = cut-anywhere; adds-up = adds-up; no_less = no_less; writes-all = writes-all }
