-- What FINISH gives, read off a book, is the machine's: the loss, the six charges, the uncovered rest, the ranks and the members' charges. Assumes nothing.
use mathlib.Core.Path.{◌≡◌, refl, sym, ap, ◌∙◌}
use mathlib.Core.Bool.{true}
use mathlib.Core.List.{List}
use Prim.Native.Nat.{ℕ, ◌≤◌, ◌<◌}
use native.Mathlib.Omega.{arith}
use lib.ListN.{get_or, replicate}
use Rattle.lists.specs.Lists.{tab}
use Rattle.lists.proofs.Sums.{bound-past}
use Rattle.lists.proofs.Places.{get_or-tab}
use Rattle.sets.specs.Set.{member}
use Rattle.splitting.specs.Limits.{split_into, amount_limit, weight_limit}
use Rattle.waterfall.specs.Seniority.{Standing}
use Rattle.waterfall.specs.Charging.{charged}
use Rattle.waterfall.specs.Limits.{standing_at, Within, charges_of}
use Rattle.waterfall.proofs.Layers.{charge-le}
use Rattle.waterfall.proofs.Exact.{ranks-exact, charges-exact}
use Rattle.machine.specs.Roll.{Entry}
use Rattle.machine.specs.State as M
use Rattle.machine.specs.Requirement.{first_tranche, second_tranche, requirement, contribution_of}
use Rattle.machine.specs.Result.{standing, rank, limits, six_charges, charge, uncovered_rest, on_contribution, on_payments}
use Rattle.machine.proofs.Invariant.{CaseOk}
use Rattle.machine.proofs.Bounds.{in-set-below, member-ok, D-small, W-small, expected-small, contributions-small, payments-small}
use Rattle.accounts.specs.Members.{over_pools, without_pools}
use Rattle.accounts.specs.Rounds.{worsts_of}
use Rattle.accounts.specs.Bids.{gain_table}
use Rattle.accounts.proofs.ViewMembers.{member-shown}
use Rattle.accounts.proofs.OverMembers.{split-payments}
use Rattle.accounts.proofs.Standings.{D-shown, W-shown, expected-shown}
use Rattle.book.specs.declared.Stage.{Stage}
use Rattle.book.specs.declared.Book.{Book}
use Rattle.book.specs.Books.{sold_pools, requirement_in}
use Rattle.book.specs.Results.{limits_in, ranks_in, result_in}
use Rattle.book.specs.View.{view_of}
use Rattle.book.proofs.Sound.{Sound}
use Rattle.book.proofs.Outputs.{shares_of, paid-outside, paid-le}
use Rattle.book.proofs.Shown.{requirement-shown, contributions-shown, payments-shown, sold-shown, bid-pool, bidden}

-- standings with the same numbers
standing-ext : (x y : Standing) → x.D ≡ y.D → x.W ≡ y.W → x.expected ≡ y.expected → x ≡ y
standing-ext x y d won expected = λ j. record { D = d j; W = won j; expected = expected j }

module _ (stage : Stage) (b : Book) (roll : List Entry) (s : Sound stage b roll) (ok : CaseOk (view_of stage b roll)) where
  -- ---- the loss and the six charges

  pub loss-shown : (result_in b).loss ≡ requirement (view_of stage b roll)
  unfolding result_in
  loss-shown = requirement-shown stage b roll s ok

  pub limits-shown : limits_in b ≡ limits (view_of stage b roll)
  unfolding limits_in limits first_tranche second_tranche
  limits-shown = rw (contributions-shown stage b roll s ok, payments-shown stage b roll s ok)

  pub charges-shown : (result_in b).charges ≡ six_charges (view_of stage b roll)
  unfolding result_in six_charges
  charges-shown = rw (requirement-shown stage b roll s ok, limits-shown)

  pub uncovered-shown : (result_in b).uncovered ≡ uncovered_rest (view_of stage b roll)
  unfolding result_in uncovered_rest
  uncovered-shown = rw (requirement-shown stage b roll s ok, limits-shown)

  pub charge-shown : (layer : ℕ) → get_or (charged (requirement_in b) (limits_in b)) layer 0 ≡ charge (view_of stage b roll) layer
  unfolding charge six_charges
  charge-shown layer = rw (requirement-shown stage b roll s ok, limits-shown)

  -- what contributions and payments are charged is within the limit of splitting
  contributions-charge : charge (view_of stage b roll) 3 ≤ amount_limit
  unfolding charge six_charges limits
  contributions-charge = omega (arith, charge-le (requirement (view_of stage b roll)) (limits (view_of stage b roll)) 3, contributions-small (view_of stage b roll) ok)

  payments-charge : charge (view_of stage b roll) 5 ≤ amount_limit
  unfolding charge six_charges limits
  payments-charge = omega (arith, charge-le (requirement (view_of stage b roll)) (limits (view_of stage b roll)) 5, payments-small (view_of stage b roll) ok)

  -- ---- ranks

  abbrev columns : ℕ → Standing
  columns = standing_at (gain_table b.bids (worsts_of b.rounds)) (over_pools b.members.won) (over_pools (without_pools b.members.expected (sold_pools b)))

  standing-shown : (m : ℕ) → m < 32 → columns m ≡ standing (view_of stage b roll) m
  standing-shown m l =
      standing-ext (columns m) (standing (view_of stage b roll) m)
      (D-shown (view_of stage b roll) b.head.pools b.rounds b.bids m refl refl s.bids.few ok.head.pools-most s.rounds.few
      (bid-pool stage b roll s ok) l (omega (arith, D-small (view_of stage b roll) ok m)))
      (W-shown (view_of stage b roll) b.members b.bids m refl s.won s.bids.few (bidden stage b roll s ok) l)
      (expected-shown (view_of stage b roll) b.members (sold_pools b) m refl (sold-shown stage b roll s ok) l)

  standing-within : (m : ℕ) → Within (standing (view_of stage b roll) m)
  standing-within m = record {
    D-le = D-small (view_of stage b roll) ok m;
    W-le = W-small (view_of stage b roll) ok m;
    expected-le = expected-small (view_of stage b roll) ok m;
  }

  pub ranks-shown : ranks_in b ≡ tab 32 (rank (view_of stage b roll))
  unfolding ranks_in rank
  ranks-shown = ranks-exact _ _ _ b.head.set (standing (view_of stage b roll)) standing-shown (λ m l. standing-within m)

  rank-at : (m : ℕ) → m < 32 → get_or (ranks_in b) m 0 ≡ rank (view_of stage b roll) m
  rank-at m l = ap (λ (xs : List ℕ). get_or xs m 0) ranks-shown ∙ get_or-tab 32 (rank (view_of stage b roll)) m 0 l

  pub rank-shown : (m : ℕ) → member b.head.set m ≡ true → get_or (result_in b).ranks m 0 ≡ rank (view_of stage b roll) m
  unfolding result_in
  rank-shown m on = rank-at m (in-set-below (view_of stage b roll) ok s.set m on)

  -- ---- the members' charges

  contribution-at : (m : ℕ) → m < 32 → get_or b.members.contribution m 0 ≡ contribution_of (view_of stage b roll) m
  contribution-at m l = sym (ap (λ (x : M.Member). x.contribution) (member-shown b.members m l))

  contribution-small : (m : ℕ) → contribution_of (view_of stage b roll) m ≤ weight_limit
  contribution-small m = let o = member-ok (view_of stage b roll) ok m in omega (arith, o.contribution-most)

  pub on-contributions-shown : (result_in b).contributions ≡ tab 32 (on_contribution (view_of stage b roll))
  unfolding result_in on_contribution
  on-contributions-shown =
      let c = view_of stage b roll in
      ap (λ (q : ℕ). charges_of q (ranks_in b) b.members.contribution b.head.set) (charge-shown 3)
      ∙ charges-exact (charge c 3) (ranks_in b) b.members.contribution b.head.set (rank c) (contribution_of c)
      (λ k l e. rank-at k l) (λ k l e. contribution-at k l) (λ k l e. contribution-small k) contributions-charge

  pub on-contribution-shown : (m : ℕ) → member b.head.set m ≡ true → get_or (result_in b).contributions m 0 ≡ on_contribution (view_of stage b roll) m
  on-contribution-shown m on =
      ap (λ (xs : List ℕ). get_or xs m 0) on-contributions-shown
      ∙ get_or-tab 32 (on_contribution (view_of stage b roll)) m 0 (in-set-below (view_of stage b roll) ok s.set m on)

  paid-light : (k : ℕ) → get_or b.members.paid k 0 ≤ weight_limit
  paid-light =
      bound-past weight_limit b.members.paid
      (λ k l. omega (arith, s.members.paid, paid-le stage b roll s ok k (omega (arith, s.members.paid))))

  pub on-payments-shown : (m : ℕ) → get_or (result_in b).payments m 0 ≡ on_payments (view_of stage b roll) m
  unfolding result_in on_payments
  on-payments-shown m =
      let c = view_of stage b roll in
      ap (λ (q : ℕ). get_or (split_into q b.members.paid (replicate 32 0)).1 m 0) (charge-shown 5)
      ∙ ap (λ (xs : List ℕ). get_or xs m 0)
      (shares_of (charge c 5) b.members.paid s.members.paid paid-light payments-charge
      ∙ sym (split-payments c b.members refl s.members.paid (paid-outside stage b roll s ok) (charge c 5)))
