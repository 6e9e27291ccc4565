-- `wire::read_round` meets its contract. Its 1 to 4 reserves are read where `call_of` has them. Assumes nothing.
use Rattle.std.proofs.Common.{ℕ, ◌*◌, List, length, ap, arith}
use mathlib.Core.Option.{some}
use Rattle.machine.specs.Wire.{ROUND, price, call_of}
use Rattle.wire.specs.Asked.{asked}
use Rattle.wire.proofs.Numbers.{round-small, round-count, reserves-of}
use Rattle.wire.proofs.read_round.Goals as goal

pub overflow_cast-result : goal.overflow_cast-result
overflow_cast-result c = omega (arith, round-small (length c.args.v.now) c.requires)

pub returns : goal.returns
unfolding asked call_of
returns c =
    let v = c.args.v.now in
    rw (round-count (length v) c.requires)
    (ap (λ (l : List ℕ). some (ROUND l))
    (reserves-of (length v) c.requires (λ p. price (4 * p) v) _ _ _ _
    c.price_or_none.ensures c.price_or_none-2.ensures c.price_or_none-3.ensures c.price_or_none-4.ensures))
