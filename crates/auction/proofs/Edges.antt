-- The edge gives the allotment: what the code computes is what the rule says. Assumes nothing.
use mathlib.Core.Path.{◌≡◌, sym, ap, ◌∙◌}
use mathlib.Core.Logic.{⊎_elim}
use mathlib.Core.Bool.{◌&&◌, and-false}
use mathlib.Core.List.{List}
use Prim.Native.Nat.{ℕ, ◌+◌, ◌-◌, ◌≤◌, ◌<◌}
use native.Mathlib.Nat.{eq-or-lt_of_le}
use native.Mathlib.Omega.{arith}
use lib.Dec.{leb, eqb}
use lib.ListN.{length, get_or, get_or-eq_default}
use borrow.Author.Tests.{le-leb, lt-leb, eq-eqb, ne_eqb}
use Rattle.lists.specs.Lists.{when◌then◌else◌}
use Rattle.lists.proofs.Bools.{either, same-choice, lt-or-le}
use Rattle.lists.proofs.Places.{length-tab, get_or-tab, get_or-tab-past, tab-of, tab-ext}
use Rattle.splitting.specs.Split.{split}
use Rattle.splitting.specs.Limits.{Answer, split_into}
use Rattle.splitting.specs.Parts.{Within}
use Rattle.splitting.proofs.Shares.{split-weightless}
use Rattle.splitting.proofs.Among.{split-masked}
use Rattle.splitting.proofs.Answers.{accepted}
use Rattle.auction.specs.Auction.{shares_at, allot}
use Rattle.auction.specs.Edge.{from, Edge, Ready, below_at, below, settled_at, settled}
use Rattle.auction.proofs.Levels.{price-cases, from_le}
use Rattle.auction.proofs.Laws.{won-invalid, won-all, won-none, won-share, allot-length}

-- ---- the bids one cent below the edge

module _ (r : ℕ) (us ps : List ℕ) (t : ℕ) where
  abbrev price : ℕ → ℕ
  price i = get_or ps i 0

  below-invalid : (i : ℕ) → price i < r → below_at r us ps t i ≡ 0
  unfolding below_at
  below-invalid i h = rw (lt-leb r (price i) h)

  below-elsewhere : (i : ℕ) → (price i + 1 ≡ t → ⊥) → below_at r us ps t i ≡ 0
  unfolding below_at
  below-elsewhere i h = rw (ne_eqb (price i + 1) t h, and-false (leb r (price i)))

  below_get : (i : ℕ) → get_or (below r us ps t) i 0 ≡ below_at r us ps t i
  unfolding below below_at
  below_get i =
      ⊎_elim
      (λ l. get_or-tab (length us) (below_at r us ps t) i 0 l)
      (λ g.
      get_or-tab-past (length us) (below_at r us ps t) i g
      ∙ rw (get_or-eq_default us 0 {n = i} g) (sym (same-choice (leb r (price i) && eqb (price i + 1) t) 0)))
      (lt-or-le i (length us))

  below-le : (i : ℕ) → below_at r us ps t i ≤ get_or us i 0
  unfolding below_at
  below-le i = either (λ x. x ≤ get_or us i 0) (leb r (price i) && eqb (price i + 1) t) (omega arith) (omega arith)

  below_length : length (below r us ps t) ≡ length us
  unfolding below
  below_length = length-tab (length us) _

  -- their split is that of the bids at the price p
  below-shares : (p balance : ℕ) → r ≤ p → p + 1 ≡ t → split balance (below r us ps t) ≡ shares_at p balance us ps
  unfolding below below_at shares_at
  below-shares p balance h e =
      sym
      (split-masked (length us) (λ j. eqb (price j) p) balance (λ j. get_or us j 0)
      ∙ ap (split balance)
      (tab-ext (length us) (λ j. when eqb (price j) p then get_or us j 0 else 0) (below_at r us ps t)
      (λ j l. price-cases (price j) p ((when eqb (price j) p then get_or us j 0 else 0) ≡ below_at r us ps t j)
      (λ here. rw (eq-eqb (price j) p here, le-leb r (price j) (omega arith), eq-eqb (price j + 1) t (omega arith)))
      (λ other. rw (ne_eqb (price j) p other) (sym (below-elsewhere j (λ f. other (omega arith))))))))

-- ---- the bids at the edge and above, and the others

pub settles : (t x u v : ℕ) → t ≤ x → (when leb t x then u else v) ≡ u
settles t x u v h = rw (le-leb t x h)

pub settles-not : (t x u v : ℕ) → x < t → (when leb t x then u else v) ≡ v
settles-not t x u v h = rw (lt-leb t x h)

module _ (n r : ℕ) (us ps : List ℕ) (t : ℕ) (edge : Edge n r us ps t) where
  abbrev balance : ℕ
  balance = n - from us ps t

  abbrev shares : List ℕ
  shares = split balance (below r us ps t)

  -- a bid below the edge that has no weight gets nothing
  no-share : (i : ℕ) → get_or ps i 0 < t → below_at r us ps t i ≡ 0 → settled_at us ps t shares i ≡ 0
  unfolding settled_at
  no-share i l e =
      settles-not t (get_or ps i 0) (get_or us i 0) (get_or shares i 0) l
      ∙ split-weightless balance (below r us ps t) i (below_get r us ps t i ∙ e)

  some_share : (i : ℕ) → get_or ps i 0 + 1 ≡ t → r ≤ get_or ps i 0 → get_or (allot n r us ps) i 0 ≡ settled_at us ps t shares i
  unfolding settled_at
  some_share i e h =
      let p = get_or ps i 0 in
      let le = edge.enough in
      won-share n r us ps i h (edge.least p h (omega arith)) (rw e le)
      ∙ rw (e, ← below-shares r us ps t p balance h e) (sym (settles-not t p (get_or us i 0) (get_or shares i 0) (omega arith)))

  at_edge : (i : ℕ) → get_or (allot n r us ps) i 0 ≡ settled_at us ps t shares i
  unfolding settled_at
  at_edge i =
      let p = get_or ps i 0 in
      let v = edge.valid in
      ⊎_elim
      (λ l. won-invalid n r us ps i l ∙ sym (no-share i (omega arith) (below-invalid r us ps t i l)))
      (λ h. ⊎_elim
      (λ l. ⊎_elim
      (λ e. some_share i e h)
      (λ m.
      won-none n r us ps i h (edge.least p h l) (omega (arith, edge.least (p + 1) (omega arith) m))
      ∙ sym (no-share i l (below-elsewhere r us ps t i (omega arith))))
      (eq-or-lt_of_le {n = p + 1} {m = t} (omega arith)))
      (λ g.
      won-all n r us ps i h (omega (arith, from_le us ps t p g, edge.enough))
      ∙ sym (settles t p (get_or us i 0) (get_or shares i 0) g))
      (lt-or-le p t))
      (lt-or-le p r)

  pub edge-allot : settled us ps t (split (n - from us ps t) (below r us ps t)) ≡ allot n r us ps
  unfolding settled
  edge-allot = sym (tab-of (length us) (settled_at us ps t shares) 0 (allot n r us ps) (allot-length n r us ps) (λ i l. at_edge i))

  -- the balance and the weights are within the limits of `split`
  edge-within : Ready n r us ps → Within balance (below r us ps t)
  edge-within ready = record {
    weights = record {
      few = omega (arith, below_length r us ps t, ready.bids.few);
      light = λ k. omega (arith, below_get r us ps t k, below-le r us ps t k, ready.bids.units k);
    };
    small = omega arith;
  }

  -- the steps of the code: the balance, the weights, the shares, and the bids that win all their units
  pub steps : Ready n r us ps → (q : ℕ) (ws before after out : List ℕ) (answer : ℕ)
      → q ≡ n - from us ps t
      → ws ≡ below r us ps t
      → length before ≡ length us
      → ◌≡◌ {A = Answer} (answer, after) (split_into q ws before)
      → out ≡ settled us ps t after
      → out ≡ allot n r us ps
  steps ready q ws before after out answer b w long s o =
      let same : split_into q ws before ≡ split_into balance (below r us ps t) before = cc in
      let split_done : ◌≡◌ {A = Answer} (answer, after) (0, shares)
      = s ∙ same ∙ accepted balance (below r us ps t) before (omega (arith, below_length r us ps t)) (edge-within ready) in
      o ∙ ap (settled us ps t) (ap (λ (a : Answer). a.1) split_done) ∙ edge-allot
