-- What stands past the end of the program's arrays. Assumes nothing.
use mathlib.Core.Path.{◌≡◌}
use mathlib.Core.Bool.{false}
use mathlib.Core.List.{List}
use Prim.Native.Nat.{ℕ, ◌≤◌}
use native.Mathlib.Omega.{arith}
use lib.Dec.{ltb}
use lib.ListN.{length, get_or, get_or-eq_default}
use lib.Seq.{set_out}
use Rattle.lists.proofs.Bools.{same-choice, and-false}
use Rattle.sets.specs.Set.{member}
use Rattle.accounts.specs.declared.members.Members.{Members}
use Rattle.accounts.specs.Members.{owes_of}
use Rattle.accounts.specs.declared.bids.Bids.{Bids}
use Rattle.accounts.specs.Bids.{in_round_at, stands_for, withdraw_bid}

-- past the end of n numbers stands 0
pub none-past : (xs : List ℕ) (n i : ℕ) → length xs ≡ n → n ≤ i → get_or xs i 0 ≡ 0
none-past xs n i e h = get_or-eq_default xs 0 {n = i} (omega arith)

-- nobody past the last member owes
pub owes-past : (x : Members) (m : ℕ) → length x.called ≡ 32 → length x.paid ≡ 32 → 32 ≤ m → owes_of x m ≡ 0
unfolding owes_of
owes-past x m called paid h =
    rw (none-past x.called 32 m called h, none-past x.paid 32 m paid h) (same-choice (member x.moved m) 0)

-- no bid past the places stands, and a withdrawal there changes nothing
pub stands-past : (x : Bids) (round m n : ℕ) → length x.stands ≡ 256 → 256 ≤ n → stands_for x round m n ≡ false
unfolding stands_for in_round_at
stands-past x round m n long h =
    let none : get_or x.stands n false ≡ false = get_or-eq_default x.stands false {n = n} (omega arith) in
    rw (none, and-false (ltb n x.kept))

pub withdraw-past : (x : Bids) (n : ℕ) → length x.stands ≡ 256 → 256 ≤ n → withdraw_bid x n ≡ x
unfolding withdraw_bid
withdraw-past x n long h = let out = set_out x.stands n false (omega arith) in rw out
