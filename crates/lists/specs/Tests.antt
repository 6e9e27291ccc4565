-- Why a call is declined: tests in order, each with its number. "The first number of the list that applies"; 0 is accepted.
use Rattle.std.specs.Prelude.{◌≡◌, Bool, true, false, List, [], ◌∷◌, ◌++◌, ℕ}
use Rattle.lists.specs.Lists.{when◌then◌else◌}

-- a number, and whether it applies
abbrev pub Test : Type 0
Test = ℕ × Bool

-- the first number that applies, or 0
unfoldable pub first_of : List Test → ℕ
first_of [] = 0
first_of (t ∷ ts) = let r = first_of ts in when t.1 then t.0 else r

-- no test holds: a tuple of equations, nested to the right
abbrev pub Passed : List Test → Type 0
Passed [] = Unit {0}
Passed (t ∷ ts) = (t.1 ≡ false) × Passed ts

-- n is the number of a test of the list that holds, and no earlier one does
pub record First (n : ℕ) (ts : List Test) : Type 0 where
  pub before : List Test
  pub test : Test
  pub after : List Test
  pub parts : ts ≡ before ++ (test ∷ after)
  pub earlier : Passed before
  pub holds : test.1 ≡ true
  pub number : n ≡ test.0
