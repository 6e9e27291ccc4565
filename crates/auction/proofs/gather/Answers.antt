-- What the turns of the loop come to is in `Lending`.
use mathlib.Core.Path.{◌∙◌, ◌≡◌}
use Prim.Native.Nat.{ℕ, ◌<◌}
use native.Mathlib.Omega.{arith}
use lib.ListN.{get_or, take, length-set, length-replicate, length-take}
use lib.Seq.{get_or-take}
use mir.Syntax.{w32}
use mir.Val.{SFits}
use mir.Facts.{to_z-of_z}
use borrow.Author.Rules.{rules}
use Rattle.auction.specs.Limits.{bid_limit}
use Rattle.auction.proofs.Lending.{no_bid, cap, read_none, read_more, read_all}
use Rattle.auction.proofs.gather.Goals as goal

pub loop-i-init : goal.loop-i-init
loop-i-init c = (length-replicate {A = ℕ} bid_limit 0, length-replicate {A = ℕ} bid_limit 0, read_none c.args.bids.now)

pub loop-i-preserved : goal.loop-i-preserved
loop-i-preserved c =
    let at = c.loop-i in
    let ys = c.args.bids.now in
    let n = c.min-n.result in
    let below : at.i < n = omega (arith, length-take n ys) in
    let more : at.i < cap ys = omega (arith, below, c.min-n.ensures) in
    let read : get_or (take n ys) at.i no_bid ≡ get_or ys at.i no_bid = get_or-take n ys at.i no_bid below in
    let fits : SFits w32 (get_or (take n ys) at.i no_bid).price = search rules in
    let turn = read_more ys at.units at.prices at.i more at.invariant.2 in (
      length-set at.units at.i _ ∙ at.invariant.0,
      length-set at.prices at.i _ ∙ at.invariant.1,
      rw (c.held.ensures, to_z-of_z fits, c.from.ensures, read) turn,
    )

pub returns : goal.returns
returns c =
    let at = c.loop-i in
    let ys = c.args.bids.now in
    let all : at.i ≡ c.min-n.result = omega (arith, length-take c.min-n.result ys, c.min-n.ensures) in
    rw (← all) (read_all ys at.units at.prices at.i (omega (arith, all, c.min-n.ensures)) at.invariant.2)
