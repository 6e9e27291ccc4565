-- Amounts by member: their sum and a split by them, from a run of 32 places that has 0 for those who are no member of the case; and of a case that
-- shows the members, all contributions, all payments, and whether someone owes. Assumes nothing.
use mathlib.Core.Path.{◌≡◌, sym, ap, ◌∙◌}
use mathlib.Core.Bool.{true, false}
use mathlib.Core.List.{List, map}
use Prim.Native.Nat.{ℕ, ◌<◌}
use lib.Dec.{ltb}
use lib.ListN.{length, get_or}
use Rattle.lists.proofs.Counts.{any-ext}
use Rattle.lists.specs.Lists.{when◌then◌else◌, sum, tab}
use Rattle.lists.proofs.Bools.{cases}
use Rattle.lists.proofs.Places.{tab-of, sum-tab, length-tab, get_or-tab}
use Rattle.sets.specs.Set.{member, members, of_members}
use Rattle.sets.proofs.Members.{sum-members, sum-members-ext}
use Rattle.splitting.specs.Split.{split, split_among}
use Rattle.splitting.proofs.Among.{split-masked}
use Rattle.machine.specs.State as M
use Rattle.machine.specs.Requirement.{contribution_of, contributions, owes}
use Rattle.machine.specs.Refusals.{someone_owes}
use Rattle.machine.specs.Result.{payment_of, payments}
use Rattle.accounts.specs.declared.members.Members.{Members}
use Rattle.accounts.specs.Members.{owes_of, someone_owes_in, view_members}
use Rattle.accounts.proofs.ViewMembers.{MembersLong, member-shown, owes-shown}

-- the run xs has f at each member of the set s, and 0 at the other places
pub record Over (s : ℕ) (f : ℕ → ℕ) (xs : List ℕ) : Type 0 where
  pub long : length xs ≡ 32
  pub on : (m : ℕ) → m < 32 → member s m ≡ true → get_or xs m 0 ≡ f m
  pub off : (m : ℕ) → m < 32 → member s m ≡ false → get_or xs m 0 ≡ 0

module _ (s : ℕ) (f : ℕ → ℕ) (xs : List ℕ) (o : Over s f xs) where
  over-at : (m : ℕ) → m < 32 → get_or xs m 0 ≡ (when member s m then f m else 0)
  over-at m l = cases (member s m) (get_or xs m 0 ≡ (when member s m then f m else 0)) (λ e. rw e (o.on m l e)) (λ e. rw e (o.off m l e))

  over-list : xs ≡ tab 32 (λ m. when member s m then f m else 0)
  over-list = tab-of 32 (λ m. when member s m then f m else 0) 0 xs o.long over-at

  -- their sum
  pub over-sum : sum xs ≡ sum (map f (members s))
  over-sum = ap sum over-list ∙ sum-tab 32 (λ m. when member s m then f m else 0) ∙ sym (sum-members s f)

  -- a split by them
  pub over-split : (q : ℕ) → split_among 32 (member s) q f ≡ split q xs
  over-split q = split-masked 32 (member s) q f ∙ ap (split q) (sym over-list)

-- the values of the members, where they are f at each of them
pub over-members : (s : ℕ) (f g : ℕ → ℕ) → ((m : ℕ) → m < 32 → member s m ≡ true → g m ≡ f m) → Over s f (of_members s g)
unfolding of_members
over-members s f g same = record {
  long = length-tab 32 (λ m. when member s m then g m else 0);
  on = λ m l e. get_or-tab 32 (λ m. when member s m then g m else 0) m 0 l ∙ rw e (same m l e);
  off = λ m l e. get_or-tab 32 (λ m. when member s m then g m else 0) m 0 l ∙ rw e;
}

-- ---- a case that shows the members x

module _ (c : M.Case) (x : Members) (shown : c.members ≡ view_members x) where
  -- the amounts in the arrays are the machine's
  contribution-at : (m : ℕ) → m < 32 → get_or x.contribution m 0 ≡ contribution_of c m
  contribution-at m l = rw shown (sym (ap (λ (y : M.Member). y.contribution) (member-shown x m l)))

  paid-at : (m : ℕ) → m < 32 → get_or x.paid m 0 ≡ payment_of c m
  paid-at m l = rw shown (sym (ap (λ (y : M.Member). y.paid) (member-shown x m l)))

  -- "all contributions"
  pub contributions-shown : sum (map (λ m. get_or x.contribution m 0) (members c.head.set)) ≡ contributions c
  unfolding contributions
  contributions-shown = sum-members-ext c.head.set _ (contribution_of c) (λ m l e. contribution-at m l)

  -- "payments", all of them
  pub payments-shown : sum (map (λ m. get_or x.paid m 0) (members c.head.set)) ≡ payments c
  unfolding payments
  payments-shown = sum-members-ext c.head.set _ (payment_of c) (λ m l e. paid-at m l)

  -- "split by contribution, in member order", where who is no member contributed nothing
  pub split-contributions : length x.contribution ≡ 32 → ((m : ℕ) → m < 32 → M.in_set c.head m ≡ false → get_or x.contribution m 0 ≡ 0)
      → (q : ℕ) → split_among 32 (M.in_set c.head) q (contribution_of c) ≡ split q x.contribution
  split-contributions long none = over-split c.head.set (contribution_of c) x.contribution (record { long = long; on = λ m l e. contribution-at m l; off = none })

  -- "payments, split by payment", where who is no member paid nothing
  pub split-payments : length x.paid ≡ 32 → ((m : ℕ) → m < 32 → M.in_set c.head m ≡ false → get_or x.paid m 0 ≡ 0)
      → (q : ℕ) → split_among 32 (M.in_set c.head) q (payment_of c) ≡ split q x.paid
  split-payments long none = over-split c.head.set (payment_of c) x.paid (record { long = long; on = λ m l e. paid-at m l; off = none })

  -- whether someone owes
  pub someone-owes-shown : MembersLong x → someone_owes_in x c.head.set ≡ someone_owes c
  unfolding someone_owes_in someone_owes
  someone-owes-shown w =
      any-ext (λ m. ltb 0 (owes_of x m)) (λ m. ltb 0 (owes c.members m)) (members c.head.set) (λ m. rw (owes-shown x m w, shown))
