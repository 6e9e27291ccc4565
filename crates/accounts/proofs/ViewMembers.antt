-- The members, as the machine has them, and how each change is shown. Assumes nothing.
use mathlib.Core.Path.{◌≡◌, refl, sym, ap, ◌∙◌}
use mathlib.Core.Bool.{true, false}
use mathlib.Core.Logic.{⊎_elim}
use mathlib.Core.List.{List, [], ◌∷◌}
use Prim.Native.Nat.{ℕ, ◌+◌, ◌*◌, ◌^◌, ◌≤◌, ◌<◌}
use native.Mathlib.Omega.{arith}
use lib.Dec.{ltb}
use lib.ListN.{length, get_or, set, replicate, length-set, get_or-eq_default}
use lib.Seq.{get_or-set_same, get_or-set_other}
use borrow.Author.Tests.{lt-ltb, ltb-true, eq-eqb, ne_eqb}
use Rattle.lists.specs.Lists.{map_from}
use Rattle.lists.specs.Adding.{most16, most32}
use Rattle.lists.proofs.Bools.{by-test, lt-or-le}
use Rattle.lists.proofs.Places.{tab-ext, tab-same, get_or-tab, length-tab, get_or-same, tab-set, map_from-tab}
use Rattle.lists.proofs.Adding.{added, length-added}
use Rattle.sets.specs.Set.{member, members, with_member}
use Rattle.sets.proofs.Members.{member-listed, member-none, members-ascend, with-is, member-insert, insert-fits}
use Rattle.machine.specs.State as M
use Rattle.machine.specs.Calls.{new_member, also_allocated}
use Rattle.machine.specs.Requirement.{owes}
use Rattle.accounts.specs.declared.members.Members.{Members}
use Rattle.accounts.specs.Members.{no_members, owes_of, put_member, with_shares, with_calls, with_payment, with_move, with_won, member_of, view_members}
use Rattle.accounts.proofs.Past.{owes-past}
use Rattle.accounts.proofs.FourPlaces.{length-four, four-other, four-list}
use Rattle.accounts.proofs.AddedShares.{length-shares, shares-other, shares_at}

-- ---- a set with one member more

with-fits : (s m : ℕ) → s < 2 ^ 32 → with_member s m < 2 ^ 32
unfolding with_member
with-fits s m h = by-test (λ (t : ℕ). t < 2 ^ 32) (ltb m 32) (λ t. insert-fits s m h (ltb-true m 32 t)) (λ t. h)

with-same : (s m : ℕ) → m < 32 → member (with_member s m) m ≡ true
with-same s m l = rw (with-is s m l, member-insert s m m, eq-eqb m m refl)

with-other : (s m k : ℕ) → (k ≡ m → ⊥) → member (with_member s m) k ≡ member s k
unfolding with_member
with-other s m k apart =
    by-test (λ (t : ℕ). member t k ≡ member s k) (ltb m 32) (λ t. rw (member-insert s m k, ne_eqb m k (λ e. apart (sym e)))) (λ t. refl)

-- ---- what holds of every value that a program reaches

pub record MembersLong (x : Members) : Type 0 where
  pub given : x.given < 2 ^ 32
  pub moved : x.moved < 2 ^ 32
  pub contribution : length x.contribution ≡ 32
  pub called : length x.called ≡ 32
  pub paid : length x.paid ≡ 32
  pub expected : length x.expected ≡ 128
  pub allocated : length x.allocated ≡ 128
  pub won : length x.won ≡ 128

pub new-long : MembersLong no_members
unfolding no_members
new-long = record {
  given = omega arith;
  moved = omega arith;
  contribution = refl;
  called = refl;
  paid = refl;
  expected = refl;
  allocated = refl;
  won = refl;
}

pub put-long : (x : Members) (m contribution a b c d : ℕ) → MembersLong x → MembersLong (put_member x m contribution a b c d)
unfolding put_member
put-long x m contribution a b c d w =
    by-test MembersLong (ltb m 32)
    (λ t.
    record {
      given = with-fits x.given m w.given;
      moved = w.moved;
      contribution = simp length-set w.contribution;
      called = w.called;
      paid = w.paid;
      expected = length-four x.expected m a b c d ∙ w.expected;
      allocated = w.allocated;
      won = w.won;
    })
    (λ t. w)

pub allocate-long : (x : Members) (set pool : ℕ) (shares : List ℕ) → MembersLong x → MembersLong (with_shares x set pool shares)
unfolding with_shares
allocate-long x set pool shares w = record {
  given = w.given;
  moved = w.moved;
  contribution = w.contribution;
  called = w.called;
  paid = w.paid;
  expected = w.expected;
  allocated = by-test (λ (l : List ℕ). length l ≡ 128) (ltb pool 4) (λ t. length-shares pool shares (ltb-true pool 4 t) (members set) x.allocated ∙ w.allocated) (λ t. w.allocated);
  won = w.won;
}

pub call_long : (x : Members) (calls : List ℕ) → length calls ≡ 32 → MembersLong x → MembersLong (with_calls x calls)
call_long x calls long w = record {
  given = w.given;
  moved = w.moved;
  contribution = w.contribution;
  called = long;
  paid = w.paid;
  expected = w.expected;
  allocated = w.allocated;
  won = w.won;
}

pub pay-long : (x : Members) (m amount : ℕ) → MembersLong x → MembersLong (with_payment x m amount)
pay-long x m amount w = record {
  given = w.given;
  moved = w.moved;
  contribution = w.contribution;
  called = w.called;
  paid = length-added most32 x.paid m _ ∙ w.paid;
  expected = w.expected;
  allocated = w.allocated;
  won = w.won;
}

pub move-long : (x : Members) (m : ℕ) → MembersLong x → MembersLong (with_move x m)
move-long x m w = record {
  given = w.given;
  moved = with-fits x.moved m w.moved;
  contribution = w.contribution;
  called = w.called;
  paid = w.paid;
  expected = w.expected;
  allocated = w.allocated;
  won = w.won;
}

pub win-long : (x : Members) (won : List ℕ) → length won ≡ 128 → MembersLong x → MembersLong (with_won x won)
win-long x won long w = record {
  given = w.given;
  moved = w.moved;
  contribution = w.contribution;
  called = w.called;
  paid = w.paid;
  expected = w.expected;
  allocated = w.allocated;
  won = long;
}

-- ---- what is shown

-- members with the same fields
member-ext : (a b : M.Member) → a.given ≡ b.given → a.contribution ≡ b.contribution → a.expected ≡ b.expected → a.allocated ≡ b.allocated
    → a.called ≡ b.called → a.paid ≡ b.paid → a.moved ≡ b.moved → a ≡ b
member-ext a b given contribution expected allocated called paid moved =
    λ j. record {
      given = given j;
      contribution = contribution j;
      expected = expected j;
      allocated = allocated j;
      called = called j;
      paid = paid j;
      moved = moved j;
    }

pub length-view : (x : Members) → length (view_members x) ≡ 32
length-view x = length-tab 32 (member_of x)

pub member-shown : (x : Members) (m : ℕ) → m < 32 → M.member_at (view_members x) m ≡ member_of x m
unfolding M.member_at
member-shown x m l = get_or-tab 32 (member_of x) m M.no_member l

pub member-past : (x : Members) (m : ℕ) → 32 ≤ m → M.member_at (view_members x) m ≡ M.no_member
unfolding M.member_at
member-past x m h = get_or-eq_default (view_members x) M.no_member {n = m} (omega (arith, length-view x))

pub view-new : view_members no_members ≡ replicate 32 M.no_member
unfolding no_members
view-new =
    tab-ext 32 (member_of no_members) (λ m. M.no_member)
    (λ m l.
    member-ext (member_of no_members m) M.no_member
    (member-none m)
    (get_or-same 32 m 0)
    (tab-ext 4 _ (λ p. 0) (λ p h. get_or-same 128 (4 * m + p) 0) ∙ tab-same 4 0)
    (tab-ext 4 _ (λ p. 0) (λ p h. get_or-same 128 (4 * m + p) 0) ∙ tab-same 4 0)
    (get_or-same 32 m 0)
    (get_or-same 32 m 0)
    (member-none m))
    ∙ tab-same 32 M.no_member

-- MEMBER, of a member that was not given
pub view-put : (x : Members) (m contribution a b c d : ℕ) → MembersLong x → m < 32 → member_of x m ≡ M.no_member
    → view_members (put_member x m contribution a b c d) ≡ set (view_members x) m (new_member contribution (a ∷ b ∷ c ∷ d ∷ []))
unfolding put_member
view-put x m contribution a b c d w inside new =
    rw (lt-ltb m 32 inside)
    (tab-set 32 (member_of x) _ m _
    (λ k l apart.
    member-ext _ (member_of x k)
    (with-other x.given m k apart)
    (get_or-set_other x.contribution m k contribution 0 apart)
    (tab-ext 4 _ _ (λ p h. four-other x.expected m a b c d 0 k p h apart))
    refl
    refl
    refl
    refl)
    (λ l.
    member-ext _ (new_member contribution (a ∷ b ∷ c ∷ d ∷ []))
    (with-same x.given m inside)
    (get_or-set_same x.contribution m contribution 0 (omega (arith, w.contribution)))
    (four-list x.expected m a b c d 0 (omega (arith, w.expected)))
    (ap (λ (y : M.Member). y.allocated) new)
    (ap (λ (y : M.Member). y.called) new)
    (ap (λ (y : M.Member). y.paid) new)
    (ap (λ (y : M.Member). y.moved) new)))

-- ALLOCATE, where who is not in the set has no share, and each sum fits 16 bits
pub view-allocate : (x : Members) (set pool : ℕ) (shares : List ℕ) → MembersLong x → pool < 4
    → ((m : ℕ) → m < 32 → member set m ≡ false → get_or shares m 0 ≡ 0)
    → ((m : ℕ) → m < 32 → get_or x.allocated (4 * m + pool) 0 + get_or shares m 0 ≤ most16)
    → view_members (with_shares x set pool shares) ≡ map_from 0 (λ m y. also_allocated pool (get_or shares m 0) y) (view_members x)
unfolding with_shares also_allocated
view-allocate x set pool shares w inside outside fits =
    let old : ℕ → ℕ → ℕ = λ m p. get_or x.allocated (4 * m + p) 0 in
    rw (lt-ltb pool 4 inside)
    (tab-ext 32 _ _
    (λ m l.
    member-ext _ (also_allocated pool (get_or shares m 0) (member_of x m)) refl refl refl
    (tab-set 4 (old m) _ pool _
    (λ p h apart. shares-other pool shares inside m p h apart (members set) x.allocated)
    (λ h.
    shares_at pool shares inside m (members set) (members-ascend set) (λ none. outside m l (sym (member-listed set m l) ∙ none)) x.allocated
    (omega (arith, w.allocated)) (fits m l)
    ∙ ap (λ (v : ℕ). v + get_or shares m 0) (sym (get_or-tab 4 (old m) pool 0 inside))))
    refl refl refl)
    ∙ sym (map_from-tab 32 (λ m y. also_allocated pool (get_or shares m 0) y) (member_of x)))

-- CALL
pub view-call : (x : Members) (calls : List ℕ) → view_members (with_calls x calls) ≡ map_from 0 (λ m y. M.with_called y (get_or calls m 0)) (view_members x)
view-call x calls = sym (map_from-tab 32 (λ m y. M.with_called y (get_or calls m 0)) (member_of x))

-- PAY, where the sum fits 32 bits
pub view-pay : (x : Members) (m amount : ℕ) → MembersLong x → m < 32 → get_or x.paid m 0 + amount ≤ most32
    → view_members (with_payment x m amount)
    ≡ set (view_members x) m (M.with_paid (M.member_at (view_members x) m) ((M.member_at (view_members x) m).paid + amount))
view-pay x m amount w inside fits =
    rw (member-shown x m inside, added most32 x.paid m amount fits)
    (tab-set 32 (member_of x) _ m _
    (λ k l apart.
    member-ext _ (member_of x k) refl refl refl refl refl (get_or-set_other x.paid m k (get_or x.paid m 0 + amount) 0 apart) refl)
    (λ l.
    member-ext _ (M.with_paid (member_of x m) (get_or x.paid m 0 + amount)) refl refl refl refl refl
    (get_or-set_same x.paid m (get_or x.paid m 0 + amount) 0 (omega (arith, w.paid))) refl))

-- MOVE
pub view-move : (x : Members) (m : ℕ) → m < 32 → view_members (with_move x m) ≡ set (view_members x) m (M.with_moved (M.member_at (view_members x) m))
view-move x m inside =
    rw (member-shown x m inside)
    (tab-set 32 (member_of x) (member_of (with_move x m)) m _
    (λ k l apart. member-ext _ (member_of x k) refl refl refl refl refl refl (with-other x.moved m k apart))
    (λ l. member-ext _ (M.with_moved (member_of x m)) refl refl refl refl refl refl (with-same x.moved m inside)))

-- ---- what a member owes

pub owes-shown : (x : Members) (m : ℕ) → MembersLong x → owes_of x m ≡ owes (view_members x) m
unfolding owes owes_of
owes-shown x m w =
    ⊎_elim
    (λ l. rw (member-shown x m l))
    (λ h. owes-past x m w.called w.paid h ∙ rw (member-past x m h))
    (lt-or-le m 32)
