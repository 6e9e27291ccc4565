-- The end of a run: a split into the first places of a run of 0, and the shares by member. Assumes nothing.
use Rattle.std.proofs.Common.{◌≡◌, ℕ, zero, suc, ◌+◌, ◌-◌, ◌≤◌, Bool, true, false, cond, not, eqb, List, ◌++◌, length, get_or, take, drop, replicate, sym, refl, ap, ◌∙◌, arith, eqb-true, ne_eqb}
use mir.Val.{bool_byte}
use lib.ListN.{length-replicate}
use lib.Seq.{sets}
use Rattle.lists.specs.Lists.{when◌then◌else◌, one_if, sum, sum_to, count_to}
use Rattle.lists.specs.Tests.{first_of}
use Rattle.lists.proofs.Places.{take-zeros, drop-zeros, get_or-zeros, tab-ext, sum-tab}
use Rattle.lists.proofs.Sums.{sum_to-next, sum-places}
use Rattle.sets.specs.Set.{member, members, of_members}
use Rattle.sets.proofs.Members.{length-members}
use Rattle.splitting.specs.Split.{split}
use Rattle.splitting.specs.Limits.{Answer, refusal, split_into}
use Rattle.splitting.proofs.Answers.{answered-0, answers-done, answers-untouched}
use Rattle.positions.specs.Days.{why_before, by_member}
use Rattle.positions.specs.Keeping.{why_end, ended}

module _ (units n r : ℕ) (ws out : List ℕ) (h : n ≤ 32) (e : ◌≡◌ {A = Answer} (r, out) (split_into units ws (take n (replicate 32 0)))) where
  same : ◌≡◌ {A = Answer} (r, out) (split_into units ws (replicate n 0))
  same = e ∙ ap (split_into units ws) (take-zeros 32 n h)

  pub split-answer : r ≡ refusal units ws n
  unfolding split_into
  split-answer = ap (λ (a : Answer). a.0) same ∙ ap (refusal units ws) (length-replicate {A = ℕ} n 0)

  pub split-shares : r ≡ 0 → out ++ drop n (replicate 32 0) ≡ split units ws ++ replicate (32 - n) 0
  unfolding split_into
  split-shares z =
      let none : refusal units ws (length (replicate {A = ℕ} n 0)) ≡ 0 = ap (refusal units ws) (length-replicate {A = ℕ} n 0) ∙ sym split-answer ∙ z in
      let given : out ≡ split units ws = ap (λ (a : Answer). a.1) (same ∙ answered-0 (refusal units ws (length (replicate {A = ℕ} n 0))) (split units ws) (replicate n 0) none) in
      rw (given, drop-zeros 32 n)

-- a test as a byte
pub one-is : (b : Bool) → bool_byte b ≡ one_if b
unfolding one_if
one-is true = refl
one-is false = refl

-- ---- numbers in member order at the places of their members

-- what stands at place m
abbrev pub placed : ℕ → List ℕ → ℕ → ℕ
placed set xs m = when member set m then get_or xs (count_to m (member set)) 0 else 0

-- the place of the next member, and the number at a place, as the loop has them
pub place-next : (set m j : ℕ) (is : Bool) (one : ℕ) → is ≡ member set m → one ≡ one_if is → j ≡ count_to m (member set) → j + one ≡ count_to (m + 1) (member set)
place-next set m j is one h o e = rw (o, h, e) (sym (sum_to-next m (λ k. one_if (member set k))))

pub placed-is : (set m j v : ℕ) (xs : List ℕ) (is : Bool) → is ≡ member set m → j ≡ count_to m (member set) → v ≡ cond is (get_or xs j 0) 0 → v ≡ placed set xs m
placed-is set m j v xs is h e w = rw (← h, ← e) w

-- zeros behind the numbers change nothing
pub by_member-zeros : (set k : ℕ) (xs : List ℕ) → by_member set (xs ++ replicate k 0) ≡ by_member set xs
unfolding by_member of_members
by_member-zeros set k xs =
    tab-ext 32 (placed set (xs ++ replicate k 0)) (placed set xs)
    (λ m l. ap (λ (v : ℕ). when member set m then v else 0) (get_or-zeros xs k (count_to m (member set))))

-- ---- the end

itself : (v : ℕ) → (when not (eqb v 0) then v else 0) ≡ v
itself v = go (eqb v 0) refl
  where
    go : (b : Bool) → eqb v 0 ≡ b → (when not b then v else 0) ≡ v
    go true e = sym (eqb-true v 0 e)
    go false e = refl

-- why the end of a run is declined, by the tests in their order
module _ (n units left : ℕ) (sums : List ℕ) (before : ℕ) (be : before ≡ why_before n units) where
  pub end-before : (before ≡ 0 → ⊥) → before ≡ why_end n units left sums
  unfolding why_end first_of
  end-before h = rw (← be, ne_eqb before 0 h) refl

module _ (n units left : ℕ) (sums : List ℕ) (be : 0 ≡ why_before n units) where
  pub end-cut : not (eqb left 0) ≡ true → 1 ≡ why_end n units left sums
  unfolding why_end first_of
  end-cut h = rw (← be, h) refl

  pub end-split : not (eqb left 0) ≡ false → refusal units (take n sums) n ≡ why_end n units left sums
  unfolding why_end first_of
  end-split h = rw (← be, h) (sym (itself (refusal units (take n sums) n)))

module _ (set units left : ℕ) (sums shares : List ℕ) (n : ℕ) (ne : n ≡ length (members set)) where
  -- declined: the shares are as they were
  pub end-declined : (why : ℕ) → why ≡ why_end n units left sums → (why ≡ 0 → ⊥) → ◌≡◌ {A = Answer} (why, shares) (ended set units left sums shares)
  unfolding ended
  end-declined why e h = rw (← ne) (answers-untouched (why_end n units left sums) (sets shares 0 (by_member set (split units (take n sums)))) shares why e h)

  -- accepted: each member has its share
  pub end-done : why_end n units left sums ≡ 0 → (given out : List ℕ) → given ≡ split units (take n sums) ++ replicate (32 - n) 0
      → out ≡ sets shares 0 (by_member set given) → ◌≡◌ {A = Answer} (0, out) (ended set units left sums shares)
  unfolding ended
  end-done z given out g o =
      let done : out ≡ sets shares 0 (by_member set (split units (take n sums)))
      = o ∙ ap (λ (xs : List ℕ). sets shares 0 (by_member set xs)) g ∙ ap (sets shares 0) (by_member-zeros set (32 - n) (split units (take n sums))) in
      rw (← ne) (answers-done (why_end n units left sums) (sets shares 0 (by_member set (split units (take n sums)))) shares 0 out (sym z) refl done)

-- ---- the shares of all members

-- the places passed hold the numbers of the members passed
placed-sum : (set m : ℕ) (xs : List ℕ) → sum_to m (placed set xs) ≡ sum_to (count_to m (member set)) (λ k. get_or xs k 0)
unfolding sum_to one_if
placed-sum set zero xs = refl
placed-sum set (suc m) xs = turn (member set m) (placed-sum set m xs)
  where
    turn : (b : Bool) → sum_to m (placed set xs) ≡ sum_to (count_to m (member set)) (λ k. get_or xs k 0)
        → sum_to m (placed set xs) + (when b then get_or xs (count_to m (member set)) 0 else 0) ≡ sum_to (count_to m (member set) + one_if b) (λ k. get_or xs k 0)
    turn true h = ap (λ (t : ℕ). t + get_or xs (count_to m (member set)) 0) h ∙ sym (sum_to-next (count_to m (member set)) (λ k. get_or xs k 0))
    turn false h =
        let none : sum_to m (placed set xs) + 0 ≡ sum_to m (placed set xs) = omega arith in
        let same : count_to m (member set) + 0 ≡ count_to m (member set) = omega arith in
        rw (none, same) h

pub by_member-sum : (set : ℕ) (xs : List ℕ) → length xs ≡ length (members set) → sum (by_member set xs) ≡ sum xs
unfolding by_member of_members
by_member-sum set xs e =
    sum-tab 32 (placed set xs)
    ∙ placed-sum set 32 xs
    ∙ ap (λ (k : ℕ). sum_to k (λ j. get_or xs j 0)) (sym (length-members set) ∙ sym e)
    ∙ sym (sum-places xs)
