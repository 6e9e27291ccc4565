-- What ALLOCATE and CALL split among the members, read off a book, is what the machine splits. Assumes nothing.
use mathlib.Core.Path.{◌≡◌, refl, sym, ap, ◌∙◌}
use mathlib.Core.Bool.{false}
use mathlib.Core.List.{List}
use Prim.Native.Nat.{ℕ, ◌+◌, ◌-◌, ◌*◌, ◌≤◌, ◌<◌, min}
use native.Mathlib.Omega.{arith}
use lib.ListN.{length, get_or, replicate}
use Rattle.lists.specs.Lists.{when◌then◌else◌, sum, sum_to}
use Rattle.lists.specs.Adding.{most16, most32, held_to}
use Rattle.lists.proofs.Bools.{either}
use Rattle.lists.proofs.Sums.{sum_to-le, sum-places, sum_bound, bound-past}
use Rattle.lists.proofs.Adding.{held_same}
use Rattle.sets.specs.Set.{member}
use Rattle.sets.proofs.Members.{sum-members}
use Rattle.splitting.specs.Split.{split}
use Rattle.splitting.specs.Limits.{Answer, split_into, amount_limit, weight_limit}
use Rattle.splitting.proofs.Answers.{accepted}
use Rattle.splitting.proofs.Shares.{split-length, split-le-weight}
use Rattle.machine.specs.Roll.{Entry}
use Rattle.machine.specs.State as M
use Rattle.machine.specs.Calls.{allocation, calls}
use Rattle.machine.proofs.Invariant.{CaseOk}
use Rattle.machine.proofs.Bounds.{member-ok, contributions-small}
use Rattle.machine.proofs.Shares as Shares
use Rattle.accounts.proofs.ViewMembers.{member-shown}
use Rattle.accounts.proofs.Shortfalls as S
use Rattle.accounts.proofs.OverMembers.{split-contributions}
use Rattle.book.specs.declared.Stage.{Stage}
use Rattle.book.specs.declared.Book.{Book}
use Rattle.book.specs.Books.{open_in, shortfalls_in, short_in, requirement_in, contributions_in, prefunded_in, allocation_in, calls_in}
use Rattle.book.specs.View.{view_of}
use Rattle.book.proofs.Sound.{Sound}
use Rattle.book.proofs.Shown.{open-shown, requirement-shown, outside-shown, contributions-shown, prefunded-shown, shorts, short-shown}

-- 32 shares within the limits of splitting hold the split
pub shares_of : (q : ℕ) (ws : List ℕ) → length ws ≡ 32 → ((k : ℕ) → get_or ws k 0 ≤ weight_limit) → q ≤ amount_limit
    → (split_into q ws (replicate 32 0)).1 ≡ split q ws
shares_of q ws long light small =
    ap (λ (a : Answer). a.1)
    (accepted q ws (replicate 32 0) (sym long) (record { weights = record { few = omega arith; light = light }; small = small }))

module _ (stage : Stage) (b : Book) (roll : List Entry) (s : Sound stage b roll) (ok : CaseOk (view_of stage b roll)) where
  -- ---- the members

  pub contribution-outside : (m : ℕ) → m < 32 → member b.head.set m ≡ false → get_or b.members.contribution m 0 ≡ 0
  contribution-outside m l e = ap (λ (x : M.Member). x.contribution) (outside-shown stage b roll s ok m l e)

  pub paid-outside : (m : ℕ) → m < 32 → member b.head.set m ≡ false → get_or b.members.paid m 0 ≡ 0
  paid-outside m l e = ap (λ (x : M.Member). x.paid) (outside-shown stage b roll s ok m l e)

  contribution-le : (m : ℕ) → m < 32 → get_or b.members.contribution m 0 ≤ 500_000_000
  contribution-le m l =
      let o = member-ok (view_of stage b roll) ok m in
      omega (arith, o.contribution-most, ap (λ (x : M.Member). x.contribution) (member-shown b.members m l))

  pub paid-le : (m : ℕ) → m < 32 → get_or b.members.paid m 0 ≤ 500_000_000
  paid-le m l =
      let o = member-ok (view_of stage b roll) ok m in
      omega (arith, o.paid-most, o.called-most, o.contribution-most, ap (λ (x : M.Member). x.paid) (member-shown b.members m l))

  -- ---- ALLOCATE

  module _ (pool : ℕ) (inside : pool < b.head.pools) where
    below : pool < 4
    below = omega (arith, ok.head.pools-most)

    abbrev ws : List ℕ
    ws = shortfalls_in b pool

    shortfall-le : (k : ℕ) → get_or ws k 0 ≤ 1000
    shortfall-le =
        S.shortfalls-le b.head.set b.members.expected b.members.won b.members.allocated pool 1000
        (λ m l. omega (arith, S.expected-shown b.members m l pool below, (member-ok (view_of stage b roll) ok m).expected-most pool))

    -- the split by shortfall, of the smaller of open units and total shortfall
    abbrev q : ℕ
    q = min (open_in b pool) (short_in b pool)

    long : length ws ≡ 32
    long = S.shortfalls-long b.head.set b.members.expected b.members.won b.members.allocated pool

    q-least : q ≤ sum ws
    unfolding short_in
    q-least = omega arith

    allocation-split : allocation_in b pool ≡ split q ws
    unfolding allocation_in
    allocation-split =
        ap (held_to most16) (shares_of q ws long (λ k. omega (arith, shortfall-le k)) (omega (arith, q-least, sum_bound 1000 ws shortfall-le, long)))
        ∙ held_same most16 (split q ws) (λ k l. omega (arith, split-le-weight q ws q-least k, shortfall-le k))

    pub allocation-shown : allocation_in b pool ≡ allocation (view_of stage b roll) pool
    unfolding allocation
    allocation-shown =
        allocation-split
        ∙ sym (S.split-shown (view_of stage b roll) b.members pool (shorts stage b roll s ok pool below) q)
        ∙ rw (open-shown stage b roll s ok pool, short-shown stage b roll s ok pool below)

    -- none for those who are no member
    pub allocation-outside : (m : ℕ) → member b.head.set m ≡ false → get_or (allocation_in b pool) m 0 ≡ 0
    allocation-outside m e = ap (λ (l : List ℕ). get_or l m 0) allocation-shown ∙ Shares.allocation-outside (view_of stage b roll) pool m e

    -- what is ever allocated to a member fits 16 bits
    pub allocation-fits : (m : ℕ) → m < 32 → get_or b.members.allocated (4 * m + pool) 0 + get_or (allocation_in b pool) m 0 ≤ most16
    allocation-fits m l =
        let o = member-ok (view_of stage b roll) ok m in
        omega (
          arith,
          ap (λ (l : List ℕ). get_or l m 0) allocation-split,
          split-le-weight q ws q-least m,
          shortfall-le m,
          o.allocated-most pool,
          o.expected-most pool,
          S.allocated-shown b.members m l pool below,
        )

  -- ---- CALL

  contribution-light : (k : ℕ) → get_or b.members.contribution k 0 ≤ 500_000_000
  contribution-light =
      bound-past 500_000_000 b.members.contribution (λ k l. contribution-le k (omega (arith, s.members.contribution)))

  -- the split by contribution, of what is short of the requirement
  abbrev short : ℕ
  short = min (requirement_in b - prefunded_in b) (contributions_in b)

  short-least : short ≤ sum b.members.contribution
  unfolding contributions_in
  short-least =
      let xs = b.members.contribution in
      omega (
        arith,
        sum-members b.head.set (λ m. get_or xs m 0),
        sum_to-le 32 (λ m. when member b.head.set m then get_or xs m 0 else 0) (λ m. get_or xs m 0) (λ m l. either (λ (x : ℕ). x ≤ get_or xs m 0) (member b.head.set m) (omega arith) (omega arith)),
        sum-places xs,
        ap (λ (n : ℕ). sum_to n (λ m. get_or xs m 0)) s.members.contribution,
      )

  calls-split : calls_in b ≡ split short b.members.contribution
  unfolding calls_in
  calls-split =
      ap (held_to most32)
      (shares_of short b.members.contribution s.members.contribution (λ k. omega (arith, contribution-light k))
      (omega (arith, contributions-shown stage b roll s ok, contributions-small (view_of stage b roll) ok)))
      ∙ held_same most32 (split short b.members.contribution) (λ k l. omega (arith, split-le-weight short b.members.contribution short-least k, contribution-light k))

  pub calls-shown : calls_in b ≡ calls (view_of stage b roll)
  unfolding calls
  calls-shown =
      calls-split
      ∙ sym (split-contributions (view_of stage b roll) b.members refl s.members.contribution contribution-outside short)
      ∙ rw (requirement-shown stage b roll s ok, prefunded-shown stage b roll s ok, contributions-shown stage b roll s ok)

  pub calls-long : length (calls_in b) ≡ 32
  calls-long = ap length calls-split ∙ split-length short b.members.contribution ∙ s.members.contribution
