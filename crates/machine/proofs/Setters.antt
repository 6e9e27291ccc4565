-- One part of the case changed: what the change must show for `CaseOk` to be kept, once for each part. Assumes nothing.
use mathlib.Core.Path.{◌≡◌, refl, ◌∙◌}
use mathlib.Core.Bool.{Bool, true, false, ◌||◌}
use mathlib.Core.List.{List, [], ◌∷◌}
use mathlib.Core.Logic.{inr}
use Prim.Native.Nat.{ℕ, ◌≤◌, ◌<◌}
use native.Mathlib.Omega.{arith}
use lib.ListN.{length, get_or, set, length-set}
use borrow.Author.Tests.{eq-eqb}
use Rattle.lists.specs.Lists.{one_if, count}
use Rattle.lists.proofs.Places.{get_or-same}
use Rattle.lists.proofs.Counts.{each-any, any_false, count_none}
use Rattle.lists.proofs.Each.{Each, each_set, each-get, set_cases, each_more}
use Rattle.machine.specs.Wire.{Head}
use Rattle.machine.specs.Roll.{UnitState, Entry, Bid, is_open, is_agreed, open_in, open_units, any_open}
use Rattle.machine.specs.State.{Stage, After, Member, Case, no_member, with_stage, with_members, with_roll, in_set, member_at, letter}
use Rattle.machine.proofs.RollChanges.{sold_is, Closed, Changes, same-pools, changed-each, sold-falls, taken-grows, open-falls}
use Rattle.machine.proofs.Stages.{setup-stage}
use Rattle.machine.proofs.Invariant.{StageOk, MemberOk, Uncalled, MembersOk, EntryOk, CaseOk}

-- what a call other than CLOSE may make of an entry
pub record Allowed (h : Head) (bids : List Bid) (pool : ℕ) (s : UnitState) : Type 0 where
  pub fits : EntryOk h bids pool s
  pub closed : Closed s
  pub unsold : (b : ℕ) → sold_is b s ≡ false

pub no_member-ok : (h : Head) → MemberOk h no_member
no_member-ok h = record {
  expected4 = refl;
  allocated4 = refl;
  expected-most = λ pool. omega (arith, zeros pool);
  expected-lacks = λ pool l. zeros pool;
  allocated-most = λ pool. omega (arith, zeros pool);
  paid-most = omega arith;
  called-most = omega arith;
  contribution-most = omega arith;
  absent = λ e. refl;
}
  where
    zeros : (pool : ℕ) → get_or no_member.expected pool 0 ≡ 0
    zeros pool = get_or-same 4 pool 0

-- no unit is open
pub none_open_lem : (roll : List Entry) → any_open roll ≡ false → (pool : ℕ) → open_units roll pool ≡ 0
unfolding any_open open_units open_in
none_open_lem roll e pool = count_none (open_in pool) roll (each_more _ _ (λ x o. rw o) roll (each-any is_open roll e))

-- and back: where no pool has an open unit, none is
pub all-shut : (roll : List Entry) → ((pool : ℕ) → open_units roll pool ≡ 0) → any_open roll ≡ false
unfolding any_open open_units open_in count one_if
all-shut roll h = any_false is_open roll (go roll h)
  where
    shut : (e : Entry) (b : Bool) → is_open e ≡ b → count (open_in e.pool) (e ∷ []) ≡ 0 → b ≡ false
    shut e false i z = refl
    shut e true i z = absurd (omega (arith, rw (i, eq-eqb e.pool e.pool refl) at z))

    go : (es : List Entry) → ((pool : ℕ) → count (open_in pool) es ≡ 0) → Each (λ e. is_open e ≡ false) es
    go [] z = tt
    go (e ∷ es) z = (shut e (is_open e) refl (omega (arith, z e.pool)), go es (λ pool. omega (arith, z pool)))

module _ (c : Case) (ok : CaseOk c) where
  -- the roll, while no bids are taken
  pub with-roll : (v : List Entry) → Changes (Allowed c.head c.bids) c.roll v → (letter c.stage ≡ 2 → ⊥)
      → (letter c.stage ≡ 1 → Each (λ e. (is_open e || is_agreed e.state) ≡ true) v) → CaseOk (with_roll c v)
  with-roll v changes late early =
      let New = Allowed c.head c.bids in
      let shut : (pool : ℕ) (s : UnitState) → New pool s → Closed s = λ pool s n. n.closed in
      record {
        head = ok.head;
        stage = ok.stage;
        pools = ok.pools;
        members = ok.members;
        rounds = ok.rounds;
        bids = ok.bids;
        roll = record {
          order = same-pools New c.roll v changes ∙ ok.roll.order;
          each = changed-each New c.roll v changes (EntryOk c.head c.bids) (λ pool s n. n.fits) ok.roll.each;
        };
        won = record {
          total = λ pool. omega (arith, ok.won.total pool, taken-grows New c.roll v changes shut pool);
          reserves = ok.won.reserves;
          unsold = ok.won.unsold;
          sold = λ b. omega (arith, ok.won.sold b, sold-falls New c.roll v changes b (λ pool s n. n.unsold b));
          withdrawn = ok.won.withdrawn;
        };
        units = record {
          opened = λ e. absurd (late e);
          setup = early;
          none = λ l pool. omega (arith, ok.units.none l pool, open-falls New c.roll v changes shut pool);
          sold-out = λ a z pool. omega (arith, ok.units.sold-out a z pool, open-falls New c.roll v changes shut pool);
        };
      }

  pub with-members : (v : List Member) → MembersOk c.head c.stage v → CaseOk (with_members c v)
  with-members v m = record {
    head = ok.head;
    stage = ok.stage;
    pools = ok.pools;
    members = m;
    rounds = ok.rounds;
    bids = ok.bids;
    roll = ok.roll;
    won = ok.won;
    units = ok.units;
  }

  -- the member m, if there is one, changed
  pub with-member : (m : ℕ) (v : Member) → MemberOk c.head v → (letter c.stage < 4 → Uncalled v)
      → (v.given ≡ true → in_set c.head m ≡ true) → (2 ≤ letter c.stage → v.given ≡ true) → CaseOk (with_members c (set c.members m v))
  unfolding member_at
  with-member m v fit uncalled in-set given =
      let old = ok.members in
      with-members _ (record {
        all32 = length-set c.members m v ∙ old.all32;
        each = each_set (MemberOk c.head) c.members m v fit old.each;
        uncalled = λ l. each_set Uncalled c.members m v (uncalled l) (old.uncalled l);
        given-in-set = λ k. set_cases (λ (x : Member). x.given ≡ true → in_set c.head k ≡ true) c.members m v no_member k
            (λ e g. rw e (in-set g)) (old.given-in-set k);
        complete = λ l k b i. set_cases (λ (x : Member). x.given ≡ true) c.members m v no_member k
            (λ e. given l) (old.complete l k b i);
      })

  -- a stage after the rounds
  pub with-stage : (v : Stage) → StageOk v (length c.rounds) → 4 ≤ letter v → 2 ≤ letter c.stage → ((pool : ℕ) → open_units c.roll pool ≡ 0)
      → CaseOk (with_stage c v)
  with-stage v s late begun shut =
      let old = ok.members in
      record {
        head = ok.head;
        stage = s;
        pools = record { few = ok.pools.few; each = ok.pools.each; complete = λ l. ok.pools.complete begun };
        members = record {
          all32 = old.all32;
          each = old.each;
          uncalled = λ l. absurd (omega arith);
          given-in-set = old.given-in-set;
          complete = λ l. old.complete begun;
        };
        rounds = ok.rounds;
        bids = ok.bids;
        roll = ok.roll;
        won = record {
          total = ok.won.total;
          reserves = ok.won.reserves;
          unsold = λ e. absurd (omega arith);
          sold = ok.won.sold;
          withdrawn = ok.won.withdrawn;
        };
        units = record { opened = λ e. absurd (omega arith); none = λ l. shut; setup = λ e. absurd (omega arith); sold-out = λ a z. shut };
      }

  -- A1, from S, where no unit is open and all pools and members are given
  pub with-after : letter c.stage ≡ 1 → length c.pools ≡ c.head.pools
      → ((m : ℕ) → m < 32 → in_set c.head m ≡ true → (member_at c.members m).given ≡ true) → ((pool : ℕ) → open_units c.roll pool ≡ 0)
      → CaseOk (with_stage c (After 1))
  unfolding letter
  with-after setup pools members shut =
      let old = ok.members in
      let none = setup-stage c.stage (length c.rounds) ok.stage setup in
      record {
        head = ok.head;
        stage = (inr (none, refl), omega arith, omega arith);
        pools = record { few = ok.pools.few; each = ok.pools.each; complete = λ l. pools };
        members = record {
          all32 = old.all32;
          each = old.each;
          uncalled = λ l. old.uncalled (omega arith);
          given-in-set = old.given-in-set;
          complete = λ l. members;
        };
        rounds = ok.rounds;
        bids = ok.bids;
        roll = ok.roll;
        won = record {
          total = ok.won.total;
          reserves = ok.won.reserves;
          unsold = λ e. absurd (omega arith);
          sold = ok.won.sold;
          withdrawn = ok.won.withdrawn;
        };
        units = record { opened = λ e. absurd (omega arith); none = λ l. absurd (omega arith); setup = λ e. absurd (omega arith); sold-out = λ a z. shut };
      }

  pub the_member : (m : ℕ) → MemberOk c.head (member_at c.members m)
  unfolding member_at
  the_member m = each-get (MemberOk c.head) c.members m no_member (no_member-ok c.head) ok.members.each
