-- What is told of a call that is taken from a case.
use Rattle.std.specs.Prelude.{Bool, List, ℕ, min, eqb, get_or}
use Rattle.lists.specs.Lists.{when◌then◌else◌}
use Rattle.book.specs.declared.Book.{Book}
use Rattle.book.specs.Books.{open_in}
use Rattle.book.specs.Results.{result_in}
use Rattle.case.specs.Cases.{Held, case_in}
use Rattle.case.specs.Cases.{applied}

-- what is read of a book: the open units of pool 0; of the result, the smaller of the two charges of member 0
unfoldable pub reading_of : Book → Bool → ℕ
reading_of b result = when result then min (get_or (result_in b).contributions 0 0) (get_or (result_in b).payments 0 0) else open_in b 0

-- of a call that is declined the answer, and else a reading of the case after it
unfoldable pub number_of : Held → Bool → List ℕ → ℕ
number_of h result s = let o = applied h s in when eqb o.answer 0 then reading_of (case_in o.held).book result else o.answer
