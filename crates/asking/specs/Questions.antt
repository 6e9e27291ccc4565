-- The questions, and the words that ask them. Letters are given by their ASCII codes.
use Rattle.std.specs.Prelude.{◌≡◌, List, [], ◌∷◌, ℕ}
use Rattle.asking.specs.declared.Question.{Question}
use Rattle.asking.specs.declared.Question.TheVariants.{Requirement, Unknown}

-- "requirement"
abbrev pub requirement_word : List ℕ
requirement_word = 114 ∷ 101 ∷ 113 ∷ 117 ∷ 105 ∷ 114 ∷ 101 ∷ 109 ∷ 101 ∷ 110 ∷ 116 ∷ []

-- the first word of a question
abbrev pub word_of : Question → List ℕ
word_of Requirement = requirement_word
word_of Unknown = []

-- how many words a question has
abbrev pub words_in : Question → ℕ
words_in Requirement = 1
words_in Unknown = 0

-- The question that so many words ask, of which one is the first: a question has its words, and its words ask it.
pub record Asks (count : ℕ) (word : List ℕ) (r : Question) : Type 0 where
  pub has : (r ≡ Unknown → ⊥) → (count ≡ words_in r) × (word ≡ word_of r)
  pub asked : (q : Question) → count ≡ words_in q → word ≡ word_of q → r ≡ q
