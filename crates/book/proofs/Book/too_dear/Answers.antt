-- `book::Book::too_dear` meets its contract. Assumes nothing.
use Prim.Native.Nat.{◌*◌, ◌≤◌}
use native.Mathlib.Omega.{arith}
use native.Mathlib.Nat.{mul-le-mul}
use Rattle.book.specs.Books.{too_dear_in}
use Rattle.book.proofs.Book.too_dear.Goals as goal
use Rattle.book.proofs.Book.too_dear.Goals.{After-from-5}

-- a price times units of 16 bits
priced : (c : After-from-5) → c.from-n.result * c.from-5.result ≤ 65535 * 4294967295
priced c =
    let units : c.from-n.result ≤ 65535 = omega (arith, c.from-n.ensures) in
    let price : c.from-5.result ≤ 4294967295 = omega (arith, c.from-5.ensures) in
    mul-le-mul units price

pub overflow_add-funds : goal.overflow_add-funds
overflow_add-funds c = record { fits = omega (arith, c.from.ensures, c.from-2.ensures) }

pub overflow_add-result : goal.overflow_add-result
overflow_add-result c = record { fits = omega (arith, c.from.ensures, c.from-2.ensures, c.prices.ensures) }

pub overflow_mul-result : goal.overflow_mul-result
overflow_mul-result c = record { fits = omega (arith, priced c) }

pub overflow_add-result-2 : goal.overflow_add-result-2
overflow_add-result-2 c = record { fits = omega (arith, c.from.ensures, c.from-2.ensures, c.prices.ensures, priced c) }

pub returns : goal.returns
unfolding too_dear_in
returns c = simp (c.prices.ensures.0, c.from.ensures, c.from-2.ensures, c.from-3.ensures, c.from-4.ensures, c.from-5.ensures, c.from-n.ensures, c.open_units.ensures)
