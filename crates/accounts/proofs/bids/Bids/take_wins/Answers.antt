use mathlib.Core.Path.{◌≡◌, refl, sym, ◌∙◌}
use mathlib.Core.List.{List, [], ◌∷◌}
use Prim.Native.Nat.{ℕ, zero, suc, ◌<◌}
use native.Mathlib.Omega.{arith}
use lib.ListN.{length, get_or, length-set}
use borrow.Author.Count.{below_none}
use Rattle.lists.proofs.Places.{filled_next, unfilled-next, tab-of}
use Rattle.accounts.specs.Bids.{with_wins}
use borrow.Author.Rules.{rules}
use Rattle.accounts.proofs.bids.Bids.take_wins.Goals as goal
use Rattle.accounts.proofs.bids.Bids.take_wins.Goals.{then-in_round, else-in_round}

-- a place of one of four runs
of_four : (a b c d : List ℕ) (p i : ℕ) → get_or (get_or (a ∷ b ∷ c ∷ d ∷ []) p []) i 0 ≡ get_or (get_or a i 0 ∷ get_or b i 0 ∷ get_or c i 0 ∷ get_or d i 0 ∷ []) p 0
of_four a b c d zero i = refl
of_four a b c d (suc zero) i = refl
of_four a b c d (suc (suc zero)) i = refl
of_four a b c d (suc (suc (suc zero))) i = refl
of_four a b c d (suc (suc (suc (suc p)))) i = refl

pub loop-i-init : goal.loop-i-init
loop-i-init c = (search rules, below_none _, λ k l. refl)

pub loop-i-preserved : goal.loop-i-preserved
loop-i-preserved c =
    let at = c.loop-i in
    let s = c.args in
    let inside : at.i < length at.won-items = omega arith in
    let same : get_or at.won-items at.i 0 ≡ get_or s.self.won at.i 0 = at.invariant.2 at.i (omega arith) in
    let win = of_four s.a s.b s.c s.d (get_or s.self.pool at.i 0) at.i in
    elim c.if-in_round.branch [
      | then-in_round w ↦
          let picked : w.unwrap_or.result ≡ get_or (get_or s.a at.i 0 ∷ get_or s.b at.i 0 ∷ get_or s.c at.i 0 ∷ get_or s.d at.i 0 ∷ []) (get_or s.self.pool at.i 0) 0 = search rules in
          rw w.won-items-is (
            simp length-set at.invariant.0,
            filled_next _ 0 at.won-items at.i _ inside at.invariant.1 (w.narrow.ensures ∙ rw (picked, sym c.in_round.ensures ∙ w.if-in_round.true, win)),
            unfilled-next 0 at.won-items s.self.won at.i _ at.invariant.2,
          )
      | else-in_round w ↦
          rw w.won-items-is (
            simp length-set at.invariant.0,
            filled_next _ 0 at.won-items at.i _ inside at.invariant.1 (rw (sym c.in_round.ensures ∙ w.if-in_round.false) same),
            unfilled-next 0 at.won-items s.self.won at.i _ at.invariant.2,
          )
    ]

pub returns : goal.returns
unfolding with_wins
returns c = rw (tab-of 256 _ 0 c.loop-i.won-items c.loop-i.invariant.0 (λ k l. c.loop-i.invariant.1 k (omega arith)))
