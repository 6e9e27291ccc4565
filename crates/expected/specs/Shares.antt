-- What the program prints: "one line a member that can be carried over to MEMBER's expected units, and a total".
use Rattle.std.specs.Prelude.{ℕ, ◌%◌, ◌^◌, List, [], ◌∷◌, ◌++◌, slice_index}
use Rattle.lists.specs.Lists.{when◌then◌else◌, sum, tab, joined}
use Rattle.machine.specs.Printed.{decimal}
use Rattle.sets.specs.Set.{member}

-- "member ", " expected ", "total " and a line's end
abbrev pub member_word : List ℕ
member_word = 109 ∷ 101 ∷ 109 ∷ 98 ∷ 101 ∷ 114 ∷ 32 ∷ []

abbrev pub expected_word : List ℕ
expected_word = 32 ∷ 101 ∷ 120 ∷ 112 ∷ 101 ∷ 99 ∷ 116 ∷ 101 ∷ 100 ∷ 32 ∷ []

abbrev pub total_word : List ℕ
total_word = 116 ∷ 111 ∷ 116 ∷ 97 ∷ 108 ∷ 32 ∷ []

abbrev pub line_end : List ℕ
line_end = 10 ∷ []

-- "member M expected U"
unfoldable pub member_text : ℕ → ℕ → List ℕ
member_text m units = member_word ++ (decimal 20 m ++ (expected_word ++ (decimal 20 units ++ line_end)))

-- the line of a place, where it is a member's
unfoldable pub place_text : ℕ → ℕ → ℕ → List ℕ
place_text set m units = when member set m then member_text m units else []

-- the lines of the members, in member order
unfoldable pub members_text : ℕ → List ℕ → List ℕ
members_text set shares = joined (tab 32 (λ m. place_text set m (slice_index shares m)))

-- the lines of the members and "total T"
unfoldable pub shares_text : ℕ → List ℕ → List ℕ
shares_text set shares = members_text set shares ++ (total_word ++ (decimal 20 (sum shares % 2 ^ 64) ++ line_end))
