use Rattle.std.proofs.Common.{◌≡◌, ◌+◌, ◌*◌, ◌/◌, length, drop, sym, refl, ap, ◌∙◌, arith}
use Rattle.positions.specs.Days.{size, days_of}
use Rattle.positions.specs.Keeping.{keeping, taken}
use Rattle.positions.proofs.Days.{next-at, range-is}
use Rattle.positions.proofs.Records.{taken_next, taken-stop, taken-done}
use Rattle.positions.proofs.take_records.Goals as goal

pub returns-then-not-in_range : goal.returns-then-not-in_range
returns-then-not-in_range c =
    let at = c.loop-d in
    let bad = sym (c.in_range.ensures ∙ range-is c.args.n c.args.bytes.now _) ∙ c.if-not-in_range.true in
    sym (at.invariant ∙ taken-stop c.args.n c.args.bytes.now _ _ at.d c.loop-d-test.true refl bad)

pub loop-d-preserved : goal.loop-d-preserved
loop-d-preserved c =
    let n = c.args.n in
    let bytes = c.args.bytes.now in
    let at = c.loop-d in
    let next = c.next_day-next in
    let good = sym (c.in_range.ensures ∙ range-is c.args.n c.args.bytes.now _) ∙ c.if-not-in_range.false in
    at.invariant
    ∙ taken_next n bytes _ _ at.d c.loop-d-test.true refl good
    ∙ ap (λ x. taken n x (size n * at.d + size n) (drop (at.d + 1) (days_of n bytes))) (sym next.ensures.kept)
    ∙ ap (λ k. taken n (keeping next.result next.new.ring next.new.sums) k (drop (at.d + 1) (days_of n bytes))) (sym (next-at n bytes at.d))

pub returns : goal.returns
returns c =
    let at = c.loop-d in
    let all : at.d ≡ length c.args.bytes.now / size c.args.n = omega arith in
    rw (← all) (sym (at.invariant ∙ taken-done c.args.n c.args.bytes.now _ _ at.d c.loop-d-test.false))
