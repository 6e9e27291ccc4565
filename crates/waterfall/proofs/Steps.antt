-- What the calls of `charge_of` give, put together, is the charge of document 01; and a charge is 0 for who is no member. Assumes nothing.
use mathlib.Core.Path.{◌≡◌, refl, sym, ap, ◌∙◌}
use mathlib.Core.Bool.{Bool, true, false, ◌&&◌}
use mathlib.Core.Logic.{⊎_elim}
use mathlib.Core.List.{List}
use Prim.Native.Nat.{ℕ, ◌+◌, ◌-◌, ◌≤◌, min}
use native.Mathlib.Numerals.{add-one}
use native.Mathlib.Omega.{arith}
use lib.Dec.{leb, eqb}
use lib.ListN.{length, get_or}
use Rattle.lists.specs.Lists.{when◌then◌else◌, tab}
use Rattle.lists.proofs.Bools.{lt-or-le, either}
use Rattle.lists.proofs.Places.{length-tab, get_or-tab, get_or-tab-past, tab-ext}
use Rattle.sets.specs.Set.{member, of_members}
use Rattle.splitting.specs.Split.{split_among}
use Rattle.splitting.specs.Limits.{Answer, split_into, amount_limit, weight_limit}
use Rattle.splitting.specs.Parts.{Within}
use Rattle.splitting.proofs.Among.{split-masked}
use Rattle.splitting.proofs.Answers.{accepted}
use Rattle.waterfall.specs.Charging.{held_by, rank_charge, charged_by_rank}
use Rattle.waterfall.specs.Limits.{rank_at, held_at}
use Rattle.waterfall.proofs.ByRank.{held-from, charge-off}

-- what the members of rank r hold, 0 at the other places
module _ (set : ℕ) (ranks holds : List ℕ) (r : ℕ) where
  abbrev equals : ℕ → Bool
  equals o = member set o && eqb r (rank_at ranks o)

  abbrev weight : ℕ → ℕ
  weight o = when equals o then held_at holds o else 0

  weights-are : of_members set (λ o. when eqb r (rank_at ranks o) then held_at holds o else 0) ≡ tab 32 weight
  unfolding of_members
  weights-are = tab-ext 32 _ weight (λ o l. go o (member set o))
    where
      go : (o : ℕ) (b : Bool)
          → (when b then (when eqb r (rank_at ranks o) then held_at holds o else 0) else 0) ≡ (when b && eqb r (rank_at ranks o) then held_at holds o else 0)
      go o true = refl
      go o false = refl

  weight-le : (o : ℕ) → get_or (tab 32 weight) o 0 ≤ weight_limit
  weight-le o =
      ⊎_elim
      (λ l. rw (get_or-tab {A = ℕ} 32 weight o 0 l) (either (λ x. x ≤ weight_limit) (equals o) {x = held_at holds o} {y = 0} (omega arith) (omega arith)))
      (λ g. rw (get_or-tab-past 32 weight o g) (omega arith))
      (lt-or-le o 32)

  weights-within : (q : ℕ) → q ≤ amount_limit → Within q (tab 32 weight)
  weights-within q h = record { weights = record { few = omega (arith, length-tab 32 weight); light = weight-le }; small = h }

  -- the split of q into 32 shares is the split among the members of rank r
  shares-are : (q answer : ℕ) (shares before : List ℕ) → q ≤ amount_limit → length before ≡ 32
      → ◌≡◌ {A = Answer} (answer, shares) (split_into q (tab 32 weight) before) → shares ≡ split_among 32 equals q (held_at holds)
  shares-are q answer shares before h long e =
      ap (λ (a : Answer). a.1) (e ∙ accepted q (tab 32 weight) before (long ∙ sym (length-tab 32 weight)) (weights-within q h))
      ∙ sym (split-masked 32 equals q (held_at holds))

-- what the ranks junior to r hold is part of what r and they hold
pub juniors-le : (set : ℕ) (rank holds : ℕ → ℕ) (r : ℕ) → held_by set rank holds (leb (r + 1)) ≤ held_by set rank holds (leb r)
juniors-le set rank holds r = rw (add-one r) (omega (arith, held-from set rank holds r))

pub record Steps (set amount m : ℕ) (ranks holds : List ℕ) (r junior from due answer : ℕ) (weights shares before : List ℕ) : Type 0 where
  pub small : amount ≤ amount_limit
  pub rank_is : r ≡ rank_at ranks m
  pub junior-is : junior ≡ held_by set (rank_at ranks) (held_at holds) (leb (r + 1))
  pub from_is : from ≡ held_by set (rank_at ranks) (held_at holds) (leb r)
  pub due-is : due ≡ min (amount - junior) (from - junior)
  pub weights-is : weights ≡ of_members set (λ o. when eqb r (rank_at ranks o) then held_at holds o else 0)
  pub long : length before ≡ 32
  pub split-is : ◌≡◌ {A = Answer} (answer, shares) (split_into due weights before)

pub charge-is : (set amount m : ℕ) (ranks holds : List ℕ) (r junior from due answer : ℕ) (weights shares before : List ℕ)
    → Steps set amount m ranks holds r junior from due answer weights shares before
    → get_or shares m 0 ≡ charged_by_rank set (rank_at ranks) (held_at holds) amount m
unfolding charged_by_rank rank_charge
charge-is set amount m ranks holds r junior from due answer weights shares before s =
    let rank : ℕ → ℕ = rank_at ranks in
    let held : ℕ → ℕ = held_at holds in
    let behind : junior ≡ held_by set rank held (leb (r + 1)) = s.junior-is in
    let owed : due ≡ rank_charge set rank held amount r
    = omega (arith, s.due-is, s.from_is, rw (add-one r) at behind, held-from set rank held r) in
    let all : shares ≡ split_among 32 (equals set ranks holds r) due held
    = shares-are set ranks holds r due answer shares before (omega (arith, s.due-is, s.small)) s.long
    (s.split-is ∙ ap (λ ws. split_into due ws before) (s.weights-is ∙ weights-are set ranks holds r)) in
    ap (λ (xs : List ℕ). get_or xs m 0) all
    ∙ ap (λ q. get_or (split_among 32 (equals set ranks holds r) q held) m 0) owed
    ∙ ap (λ r. get_or (split_among 32 (λ o. member set o && eqb r (rank o)) (rank_charge set rank held amount r) held) m 0) s.rank_is

-- the charges of the members, and 0 for the others, are the charges of all places
pub charges-of-members : (set : ℕ) (rank holds : ℕ → ℕ) (amount : ℕ)
    → of_members set (charged_by_rank set rank holds amount) ≡ tab 32 (charged_by_rank set rank holds amount)
unfolding of_members
charges-of-members set rank holds amount =
    tab-ext 32 _ (charged_by_rank set rank holds amount) (λ m l. go m (member set m) refl)
  where
    go : (m : ℕ) (b : Bool) → member set m ≡ b → (when b then charged_by_rank set rank holds amount m else 0) ≡ charged_by_rank set rank holds amount m
    go m true on = refl
    go m false off = sym (charge-off set rank holds amount m off)
