-- Why a call is declined, read off the program's stage and book: the same tests in the same order as the machine's (`Refusals`). Each list stands in the order of
-- the numbers, and the answer is the first that applies.
use Rattle.std.specs.Prelude.{Bool, true, false, ◌&&◌, ◌||◌, not, [], ◌∷◌, ℕ, leb, ltb, eqb, get_or, take}
use Rattle.lists.specs.Lists.{all}
use Rattle.lists.specs.Tests.{first_of}
use Rattle.sets.specs.Set.{member}
use Rattle.auction.specs.Price.{price_ok}
use Rattle.machine.specs.Wire as Wire
use Rattle.machine.specs.Refusals.{head_ok, pool_ok, member_ok, bid_ok, payment_ok}
use Rattle.wire.specs.declared.Head.{Head}
use Rattle.wire.specs.Asked.{head_of}
use Rattle.accounts.specs.Members.{owes_of, someone_owes_in}
use Rattle.accounts.specs.Bids.{stands_for}
use Rattle.book.specs.declared.Stage.{Stage}
use Rattle.book.specs.declared.Book.{Book}
use Rattle.book.specs.Stages.{letter_of, round_of}
use Rattle.book.specs.Books.{open_in, any_open_in, passed_in, too_dear_in, requirement_in, prefunded_in, short_in}

-- the amounts of HEAD: "hedge and other loss to 2×10^9; margin and house money to 4×10^9; a fund .. to 5×10^8"
unfoldable pub amounts_ok : Wire.Head → Bool
amounts_ok h =
    leb h.hedge_loss 2_000_000_000
    && (leb h.other_loss 2_000_000_000
    && (leb h.margin 4_000_000_000
    && (leb h.fund 500_000_000
    && leb h.house 4_000_000_000)))

-- "expected units to 1,000, and 0 for a pool the case lacks": whether the case has the pool, and the units
abbrev pub expected_ok : Bool → ℕ → Bool
expected_ok true n = leb n 1000
expected_ok false n = eqb n 0

-- whether a stage has a letter
abbrev pub is_in : Stage → ℕ → Bool
is_in stage letter = eqb (letter_of stage) letter

-- HEAD, where there is no case
unfoldable pub head_answer : Head → ℕ
head_answer h = first_of ((5, not (head_ok (head_of h))) ∷ [])

unfoldable pub pool_answer : Stage → Book → ℕ → ℕ → ℕ → ℕ
pool_answer stage b pool units mark =
    first_of
    ((2, not (is_in stage 1))
    ∷ (3, leb b.head.pools pool || not (eqb pool b.pools.given))
    ∷ (5, not (pool_ok units mark))
    ∷ [])

unfoldable pub member_answer : Stage → Book → ℕ → ℕ → ℕ → ℕ → ℕ → ℕ → ℕ
member_answer stage b m contribution p q r s =
    first_of
    ((2, not (is_in stage 1))
    ∷ (4, not (member b.head.set m) || member b.members.given m)
    ∷ (5, not (member_ok b.head.pools contribution (p ∷ q ∷ r ∷ s ∷ [])))
    ∷ [])

unfoldable pub round_answer : Stage → Book → ℕ → ℕ → ℕ → ℕ → ℕ → ℕ
round_answer stage b n p q r s =
    first_of
    ((1, not (eqb n b.head.pools))
    ∷ (2, not (is_in stage 1 || (is_in stage 3 && eqb (round_of stage) 1)))
    ∷ (5, not (all price_ok (take n (p ∷ q ∷ r ∷ s ∷ []))))
    ∷ (8, is_in stage 3 && not (any_open_in b))
    ∷ (10, ltb b.pools.given b.head.pools || not (eqb b.members.given b.head.set))
    ∷ [])

unfoldable pub bid_answer : Stage → Book → ℕ → ℕ → ℕ → ℕ → ℕ
bid_answer stage b pool m units price =
    first_of
    ((2, not (is_in stage 2))
    ∷ (3, leb b.head.pools pool)
    ∷ (4, not (member b.head.set m))
    ∷ (5, not (bid_ok units price))
    ∷ (6, ltb units b.head.least)
    ∷ (7, leb 256 b.bids.kept)
    ∷ (8, eqb (open_in b pool) 0)
    ∷ [])

unfoldable pub close_answer : Stage → ℕ
close_answer stage = first_of ((2, not (is_in stage 2)) ∷ [])

unfoldable pub allocate_answer : Stage → Book → ℕ → ℕ → ℕ
allocate_answer stage b pool price =
    first_of
    ((2, not (is_in stage 3))
    ∷ (3, leb b.head.pools pool)
    ∷ (5, not (price_ok price))
    ∷ (8, eqb (open_in b pool) 0)
    ∷ (9, eqb (get_or b.pools.marks pool 0) 1)
    ∷ (10, eqb (short_in b pool) 0)
    ∷ [])

unfoldable pub tear_answer : Stage → Book → ℕ → ℕ → ℕ
tear_answer stage b pool price =
    first_of
    ((2, not (is_in stage 3))
    ∷ (3, leb b.head.pools pool)
    ∷ (5, not (price_ok price))
    ∷ (8, eqb (open_in b pool) 0)
    ∷ [])

unfoldable pub call_answer : Stage → Book → ℕ
call_answer stage b =
    first_of
    ((2, not (is_in stage 3))
    ∷ (11, any_open_in b)
    ∷ (12, leb (requirement_in b) (prefunded_in b))
    ∷ [])

unfoldable pub pay_answer : Stage → Book → ℕ → ℕ → ℕ
pay_answer stage b m amount =
    first_of
    ((2, not (is_in stage 4))
    ∷ (4, not (member b.head.set m))
    ∷ (5, not (payment_ok amount))
    ∷ (14, ltb (owes_of b.members m) amount)
    ∷ [])

unfoldable pub move_answer : Stage → Book → ℕ → ℕ
move_answer stage b m =
    first_of
    ((2, not (is_in stage 4))
    ∷ (4, not (member b.head.set m))
    ∷ (14, eqb (owes_of b.members m) 0)
    ∷ [])

unfoldable pub miss_answer : Stage → Book → ℕ → ℕ → ℕ
miss_answer stage b m price =
    first_of
    ((2, not (is_in stage 3 || is_in stage 4))
    ∷ (4, not (member b.head.set m))
    ∷ (5, not (price_ok price))
    ∷ (16, eqb (passed_in b m) 0)
    ∷ [])

unfoldable pub finish_answer : Stage → Book → ℕ
finish_answer stage b =
    first_of
    ((2, not (is_in stage 3 || is_in stage 4))
    ∷ (11, any_open_in b)
    ∷ (13, is_in stage 3 && ltb (prefunded_in b) (requirement_in b))
    ∷ (15, someone_owes_in b.members b.head.set)
    ∷ [])

-- document 02, C-12
unfoldable pub sale_answer : Stage → Book → ℕ → ℕ → ℕ → ℕ
sale_answer stage b pool m price =
    first_of
    ((2, not (is_in stage 1))
    ∷ (3, leb b.head.pools pool)
    ∷ (4, not (member b.head.set m))
    ∷ (5, not (price_ok price))
    ∷ (8, eqb (open_in b pool) 0)
    ∷ (10, ltb b.pools.given b.head.pools || not (eqb b.members.given b.head.set))
    ∷ (17, too_dear_in b pool price)
    ∷ [])

-- document 02, C-14
unfoldable pub withdraw_answer : Stage → Book → ℕ → ℕ → ℕ
withdraw_answer stage b m n =
    first_of
    ((2, not (is_in stage 2))
    ∷ (4, not (member b.head.set m))
    ∷ (18, not (stands_for b.bids (round_of stage) m n))
    ∷ [])
