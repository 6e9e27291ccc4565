-- The tables of the code hold the words: each computed once. Assumes nothing.
use mathlib.Core.Path.{◌≡◌, refl, ap, ◌∙◌}
use mathlib.Core.List.{List, [], ◌∷◌, map}
use Prim.Native.Nat.{ℕ, zero, suc, ◌+◌, ◌*◌, ◌≤◌, ◌<◌}
use native.Mathlib.Omega.{arith}
use lib.ListN.{length, get_or}
use denote.Bor.{Bor}
use lib.Dec.{leb}
use mathlib.Core.Bool.{true}
use borrow.Author.Tests.{lt-ltb, leb-true}
use Rattle.lists.proofs.Bools.{and_left, and_right}
use Rattle.lists.specs.Lists.{tab, all}
use Rattle.lists.proofs.Places.{get_or-tab}
use Rattle.spelling.specs.Words.{keys, names, key_of, name_of, separator}
use Rattle.spelling.specs.Computing.{computing}

-- an entry of a list whose entries are all at most a number
pub entry-small : (most : ℕ) (l : List ℕ) (k : ℕ) → all (λ n. leb n most) l ≡ true → get_or l k 0 ≤ most
unfolding all
entry-small most [] k e = omega arith
entry-small most (x ∷ l) zero e = leb-true x most (and_left (leb x most) (all (λ n. leb n most) l) e)
entry-small most (x ∷ l) (suc k) e = entry-small most l k (and_right (leb x most) (all (λ n. leb n most) l) e)

-- a word of a list whose words are all at most so long
word-short : (most : ℕ) (ws : List (List ℕ)) (k : ℕ) → all (λ w. leb (length w) most) ws ≡ true → length (get_or ws k []) ≤ most
unfolding all
word-short most [] k e = omega arith
word-short most (w ∷ ws) zero e = leb-true (length w) most (and_left (leb (length w) most) (all (λ v. leb (length v) most) ws) e)
word-short most (w ∷ ws) (suc k) e = word-short most ws k (and_right (leb (length w) most) (all (λ v. leb (length v) most) ws) e)

-- what an entry of a table points to
pub entry-now : (xs : List (Bor (List ℕ))) (k : ℕ) (d : Bor (List ℕ)) → (get_or xs k d).now ≡ get_or (map (λ (b : Bor (List ℕ)). b.now) xs) k d.now
entry-now [] k d = refl
entry-now (x ∷ xs) zero d = refl
entry-now (x ∷ xs) (suc k) d = entry-now xs k d

-- within a list the default does not count
pub any-default : (l : List (List ℕ)) (k : ℕ) (a b : List ℕ) → k < length l → get_or l k a ≡ get_or l k b
any-default [] k a b h = absurd (omega arith)
any-default (x ∷ l) zero a b h = refl
any-default (x ∷ l) (suc k) a b h = any-default l k a b (omega arith)

-- ---- what stands before a number

abbrev pub separators : List (List ℕ)
separators = map separator keys

rows_are : separators ≡ tab 128 (λ k. separator (get_or keys k []))
unfolding computing
rows_are = refl

pub separator-at : (tag i : ℕ) → tag < 16 → i < 8 → get_or separators (tag * 8 + i) [] ≡ separator (key_of tag i)
unfolding key_of
separator-at tag i t h =
    rw (lt-ltb tag 16 t, lt-ltb i 8 h)
    (ap (λ (l : List (List ℕ)). get_or l (tag * 8 + i) []) rows_are ∙ get_or-tab 128 (λ k. separator (get_or keys k [])) (tag * 8 + i) [] (omega arith))

separators-short : (k : ℕ) → length (get_or separators k []) ≤ 16
unfolding computing
separators-short k = word-short 16 separators k refl

pub separator-short : (tag i : ℕ) → tag < 16 → i < 8 → length (separator (key_of tag i)) ≤ 16
separator-short tag i t h = omega (arith, separators-short (tag * 8 + i), ap length (separator-at tag i t h))

-- ---- the names

pub name-short : (tag : ℕ) → length (name_of tag) ≤ 16
unfolding computing
name-short tag = word-short 16 names tag refl
