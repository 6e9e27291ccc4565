-- A loop that writes f at each member of what is left: the invariant is that writing at those left, too, gives the whole. Assumes nothing.
use mathlib.Core.Bool.{Bool, true, false, ◌||◌}
use mathlib.Core.Path.{◌≡◌, refl, ◌∙◌}
use mathlib.Core.List.{List, [], ◌∷◌}
use Prim.Native.Nat.{ℕ, ◌<◌}
use lib.Dec.{eqb}
use lib.ListN.{length, get_or, set, replicate, length-set, length-replicate, get_or-replicate}
use lib.Seq.{get_or-set_same, get_or-set_other}
use borrow.Author.Tests.{eqb-true, eqb-false}
use Rattle.lists.specs.Lists.{when◌then◌else◌, any}
use Rattle.lists.proofs.Bools.{same-choice}
use Rattle.lists.proofs.Places.{tab-of}
use Rattle.sets.specs.Set.{member, members, of_members}
use Rattle.sets.proofs.Members.{member-listed}

-- the list with f written at each of the given places
abbrev pub write_all : (ℕ → ℕ) → List ℕ → List ℕ → List ℕ
write_all f [] out = out
write_all f (m ∷ ms) out = write_all f ms (set out m (f m))

length-written : (f : ℕ → ℕ) (ms out : List ℕ) → length (write_all f ms out) ≡ length out
length-written f [] out = refl
length-written f (m ∷ ms) out = length-written f ms (set out m (f m)) ∙ length-set out m (f m)

written_at : (f : ℕ → ℕ) (ms out : List ℕ) (k : ℕ) → k < length out
    → get_or (write_all f ms out) k 0 ≡ (when any (eqb k) ms then f k else get_or out k 0)
unfolding any
written_at f [] out k l = refl
written_at f (m ∷ ms) out k l =
    written_at f ms (set out m (f m)) k (simp length-set l) ∙ go (eqb k m) refl
  where
    go : (b : Bool) → eqb k m ≡ b
        → (when any (eqb k) ms then f k else get_or (set out m (f m)) k 0) ≡ (when b || any (eqb k) ms then f k else get_or out k 0)
    go true e =
        let same : k ≡ m = eqb-true k m e in
        rw (← same, get_or-set_same out k (f k) 0) (same-choice (any (eqb k) ms) (f k))
    go false e = rw (get_or-set_other out m k (f m) 0 (eqb-false k m e))

-- f written at each member, where 0 stood, is f at the members
pub written : (s : ℕ) (f : ℕ → ℕ) → write_all f (members s) (replicate 32 0) ≡ of_members s f
unfolding of_members
written s f =
    tab-of 32 (λ m. when member s m then f m else 0) 0 (write_all f (members s) (replicate 32 0))
    (length-written f (members s) (replicate 32 0) ∙ length-replicate {A = ℕ} 32 0)
    (λ k l. written_at f (members s) (replicate 32 0) k (simp length-replicate l) ∙ rw (member-listed s k l, zeros k l))
  where
    zeros : (k : ℕ) → k < 32 → ◌≡◌ {A = ℕ} (get_or (replicate 32 0) k 0) 0
    zeros k l = get_or-replicate 32 k 0 0 l
