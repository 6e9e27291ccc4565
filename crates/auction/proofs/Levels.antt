-- The units bid from a price on, and those bid at one price: from one price to the next. Assumes nothing.
use mathlib.Core.Path.{◌≡◌, ap, ◌∙◌}
use mathlib.Core.Logic.{⊎_elim}
use mathlib.Core.Bool.{Bool, true, ◌&&◌, and-true, and-false}
use mathlib.Core.List.{List}
use Prim.Native.Nat.{ℕ, ◌+◌, ◌≤◌, ◌<◌}
use native.Mathlib.Omega.{arith}
use lib.Dec.{ltb, leb, eqb}
use lib.ListN.{length, get_or}
use borrow.Author.Tests.{lt-ltb, le-ltb, le-leb, lt-leb, eq-eqb, ne_eqb}
use Rattle.lists.specs.Lists.{when◌then◌else◌, sum_to}
use Rattle.lists.proofs.Bools.{either, lt-or-le, order-of}
use Rattle.lists.proofs.Sums.{sum_to-ext, sum_to-le, sum_to-add, sum_to-zero}
use Rattle.auction.specs.Auction.{valid_at, valid_units}
use Rattle.auction.specs.Edge.{counted_at, from}

-- ---- the part of one bid, of u units at the price x

pub counts : (t x u : ℕ) → t ≤ x → (when leb t x then u else 0) ≡ u
counts t x u h = rw (le-leb t x h)

pub counts-not : (t x u : ℕ) → x < t → (when leb t x then u else 0) ≡ 0
counts-not t x u h = rw (lt-leb t x h)

pub is_at : (p x u : ℕ) → x ≡ p → (when eqb x p then u else 0) ≡ u
is_at p x u e = rw (eq-eqb x p e)

pub is-not-at : (p x u : ℕ) → (x ≡ p → ⊥) → (when eqb x p then u else 0) ≡ 0
is-not-at p x u h = rw (ne_eqb x p h)

-- each price is p or another
pub price-cases : (x p : ℕ) (P : Type 0) → (x ≡ p → P) → ((x ≡ p → ⊥) → P) → P
price-cases x p P here elsewhere =
    ⊎_elim (λ k. elsewhere (λ e. omega arith)) (⊎_elim here (λ k. elsewhere (λ e. omega arith))) (order-of x p)

-- what is counted from t on is at t, or from t + 1 on
part_step : (t x u : ℕ) → (when leb t x then u else 0) ≡ (when leb (t + 1) x then u else 0) + (when eqb x t then u else 0)
part_step t x u =
    ⊎_elim
    (λ l. omega (arith, counts-not t x u l, counts-not (t + 1) x u (omega arith), is-not-at t x u (omega arith)))
    (⊎_elim
    (λ e. omega (arith, counts t x u (omega arith), counts-not (t + 1) x u (omega arith), is_at t x u e))
    (λ g. omega (arith, counts t x u (omega arith), counts (t + 1) x u (omega arith), is-not-at t x u (omega arith))))
    (order-of x t)

-- ---- all bids

-- the units bid at the price p
abbrev pub level : List ℕ → List ℕ → ℕ → ℕ
level us ps p = sum_to (length us) (λ j. when eqb (get_or ps j 0) p then get_or us j 0 else 0)

module _ (us ps : List ℕ) where
  pub counted-le : (t i : ℕ) → counted_at us ps t i ≤ get_or us i 0
  counted-le t i = either (λ x. x ≤ get_or us i 0) (leb t (get_or ps i 0)) (omega arith) (omega arith)

  -- from a higher price on there are no more
  pub from_le : (t s : ℕ) → t ≤ s → from us ps s ≤ from us ps t
  unfolding from
  from_le t s h =
      sum_to-le (length us) (counted_at us ps s) (counted_at us ps t)
      (λ j l. ⊎_elim
      (λ a. omega (arith, counts-not s (get_or ps j 0) (get_or us j 0) a))
      (λ a. omega (arith, counts s (get_or ps j 0) (get_or us j 0) a, counts t (get_or ps j 0) (get_or us j 0) (omega arith)))
      (lt-or-le (get_or ps j 0) s))

  -- one price down, those at that price come in
  pub from_step : (t : ℕ) → from us ps t ≡ from us ps (t + 1) + level us ps t
  unfolding from
  from_step t =
      let here : ℕ → ℕ = λ j. when eqb (get_or ps j 0) t then get_or us j 0 else 0 in
      sum_to-ext (length us) (counted_at us ps t) (λ j. counted_at us ps (t + 1) j + here j) (λ j l. part_step t (get_or ps j 0) (get_or us j 0))
      ∙ sum_to-add (length us) (counted_at us ps (t + 1)) here

  -- above every price there are none
  pub from_nothing : (t : ℕ) → ((i : ℕ) → get_or ps i 0 < t) → from us ps t ≡ 0
  unfolding from
  from_nothing t h =
      sum_to-ext (length us) (counted_at us ps t) (λ j. 0) (λ j l. counts-not t (get_or ps j 0) (get_or us j 0) (h j)) ∙ sum_to-zero (length us)

  -- ---- the valid units: for prices at or above the reserve validity drops out

  module _ (r : ℕ) where
    valid-from : (test : ℕ → Bool) (t : ℕ) → ((x : ℕ) → (leb r x && test x) ≡ leb t x) → valid_units r test us ps ≡ from us ps t
    unfolding valid_units valid_at from
    valid-from test t h =
        sum_to-ext (length us) _ (counted_at us ps t) (λ j l. ap (λ (b : Bool). when b then get_or us j 0 else 0) (h (get_or ps j 0)))

    pub valid-at-or-above : (p : ℕ) → r ≤ p → valid_units r (leb p) us ps ≡ from us ps p
    valid-at-or-above p h =
        valid-from (leb p) p
        (λ x. ⊎_elim
        (λ l. rw (lt-leb p x l, and-false (leb r x)))
        (λ g. rw (le-leb p x g, le-leb r x (omega arith)))
        (lt-or-le x p))

    pub valid-above : (p : ℕ) → r ≤ p → valid_units r (ltb p) us ps ≡ from us ps (p + 1)
    valid-above p h =
        valid-from (ltb p) (p + 1)
        (λ x. ⊎_elim
        (λ l. rw (lt-ltb p x l, le-leb r x (omega arith), le-leb (p + 1) x (omega arith)))
        (λ g. rw (le-ltb p x g, lt-leb (p + 1) x (omega arith), and-false (leb r x)))
        (lt-or-le p x))

    pub valid-all : valid_units r (λ x. true) us ps ≡ from us ps r
    valid-all = valid-from (λ x. true) r (λ x. and-true (leb r x))
