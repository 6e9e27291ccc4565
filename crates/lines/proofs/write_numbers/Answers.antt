use mathlib.Core.Path.{sym, ap, ◌∙◌}
use mathlib.Core.List.{List}
use Prim.Native.Nat.{ℕ, ◌+◌, ◌<◌}
use native.Mathlib.Omega.{arith}
use lib.ListN.{length, get_or}
use lib.Seq.{sets, length-sets}
use Rattle.lines.proofs.Numbers.{text_from, number_text, text-end, length-next, sets-next}
use Rattle.lines.proofs.write_numbers.Goals as goal

pub write_number-to-requires : goal.write_number-to-requires
write_number-to-requires c = omega (arith, length-next c.loop-n.n-index c.args.numbers.now c.loop-n-test.true)

pub loop-n-preserved : goal.loop-n-preserved
loop-n-preserved c =
    let l = c.loop-n in
    let xs = c.args.numbers.now in
    let i = l.n-index in
    let w = c.write_number-to.ensures in
    let n = get_or xs i 0 in
    let lt : i < length xs = omega arith in (
      ap length w.1 ∙ length-sets l.out l.to (number_text n) ∙ l.invariant.0,
      l.invariant.1,
      omega (arith, w.0, length-next i xs lt),
      ap (λ (o : List ℕ). sets o c.write_number-to.result (text_from xs (i + 1))) w.1
          ∙ ap (λ (k : ℕ). sets (sets l.out l.to (number_text n)) k (text_from xs (i + 1))) w.0
          ∙ sets-next i xs l.out l.to lt
          ∙ l.invariant.3,
    )

pub put-requires : goal.put-requires
put-requires c = omega (arith, ap length (text-end c.loop-n.n-index c.args.numbers.now (omega arith)))

pub returns : goal.returns
returns c =
    let l = c.loop-n in
    let e = text-end l.n-index c.args.numbers.now (omega arith) in
    (omega (arith, ap length e), c.put.ensures ∙ sym (ap (sets l.out l.to) e) ∙ l.invariant.3)
