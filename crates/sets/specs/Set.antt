-- Document 01, "The case and its calls": "The members of a case are a set of 32 bits: bit i is member i."
use Rattle.std.specs.Prelude.{Bool, List, [], ◌∷◌, ℕ, ◌+◌, ◌/◌, ◌%◌, ◌^◌, eqb, ltb}
use Rattle.lists.specs.Lists.{when◌then◌else◌, keep, places, tab}

-- "bit i is member i"
unfoldable pub member : ℕ → ℕ → Bool
member s i = eqb (s / 2 ^ i % 2) 1

-- the members of the set, in member order
unfoldable pub members : ℕ → List ℕ
members s = keep (member s) (places 32)

-- the set with i
unfoldable pub insert : ℕ → ℕ → ℕ
insert s i = when member s i then s else s + 2 ^ i

-- the set with i, where i is one of its 32 places; where it is not, the set as it is
unfoldable pub with_member : ℕ → ℕ → ℕ
with_member s i = when ltb i 32 then insert s i else s

-- the first of a list, and d of an empty one
abbrev pub head_or : ℕ → List ℕ → ℕ
head_or d [] = d
head_or d (x ∷ l) = x

-- f at each of the 32 places that is a member, 0 at the others
unfoldable pub of_members : ℕ → (ℕ → ℕ) → List ℕ
of_members s f = tab 32 (λ m. when member s m then f m else 0)
