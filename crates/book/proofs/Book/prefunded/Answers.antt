-- `book::Book::prefunded` meets its contract. The contributions are bounded, so that the sum fits. Assumes nothing.
use native.Mathlib.Omega.{arith}
use Rattle.book.specs.Books.{contributions_in, prefunded_in}
use Rattle.book.proofs.Book.prefunded.Goals as goal

pub overflow_add-result-2 : goal.overflow_add-result-2
overflow_add-result-2 c = record { fits = omega (arith, c.from.ensures, c.from-2.ensures, c.from-3.ensures) }

pub overflow_add-result-3 : goal.overflow_add-result-3
overflow_add-result-3 c = record { fits = omega (arith, c.from.ensures, c.from-2.ensures, c.from-3.ensures, c.amounts-funds.ensures) }

pub returns : goal.returns
unfolding prefunded_in contributions_in
returns c = simp (c.from.ensures, c.from-2.ensures, c.from-3.ensures, c.amounts-funds.ensures.0)
