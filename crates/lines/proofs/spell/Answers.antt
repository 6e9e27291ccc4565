use mathlib.Core.Path.{◌≡◌, refl, sym, ap, ◌∙◌}
use mathlib.Core.List.{List, [], ◌∷◌}
use Prim.Native.Nat.{ℕ, ◌+◌, ◌-◌, ◌%◌}
use native.Mathlib.Omega.{arith}
use lib.ListN.{length, set, length-set}
use Rattle.machine.specs.Printed.{decimal}
use lib.Seq.{sets}
use borrow.Author.Rules.{rules}
use Rattle.lines.proofs.Decimals.{spelling-none, spelling-turn, spelling-done, spelling-some}
use Rattle.lists.proofs.Stores.{sets-earlier}
use Rattle.lines.proofs.spell.Goals as goal

pub overflow_sub-i : goal.overflow_sub-i
overflow_sub-i c =
    let a = c.args in
    omega (arith, c.requires.0, spelling-some a.n a.n [] (spelling-none a.n (search rules)))

pub loop-rest-init : goal.loop-rest-init
loop-rest-init c =
    let a = c.args in
    let s = spelling-none a.n (search rules) in (
      record { spelled = []; spelling = s; place = omega (arith, c.requires.0, spelling-some a.n a.n [] s); text = refl; long = refl },
      c.requires.0,
      c.requires.1,
    )

pub put-requires : goal.put-requires
put-requires c =
    let l = c.loop-rest in
    omega (arith, l.invariant.0.place, l.invariant.0.long, l.invariant.2)

pub overflow_sub-i-in-loop-rest : goal.overflow_sub-i-in-loop-rest
overflow_sub-i-in-loop-rest c =
    let l = c.loop-rest in
    let s = l.invariant.0 in
    omega (arith, s.place, l.invariant.1, spelling-some _ _ _ (spelling-turn _ l.rest s.spelled s.spelling (search rules)))

pub loop-rest-preserved : goal.loop-rest-preserved
loop-rest-preserved c =
    let l = c.loop-rest in
    let s = l.invariant.0 in
    let t = spelling-turn _ l.rest s.spelled s.spelling (search rules) in
    let some = spelling-some _ _ _ t in
    let e : l.i ≡ l.i - 1 + 1 = omega (arith, s.place, l.invariant.1, some) in (
      record {
        spelled = (48 + l.rest % 10) ∷ s.spelled;
        spelling = t;
        place = omega (arith, s.place, l.invariant.1, some);
        text =
            c.put.ensures
            ∙ ap (λ (b : ℕ). set l.out l.i b) c.glyph.ensures
            ∙ ap (λ (o : List ℕ). set o l.i (48 + l.rest % 10)) s.text
            ∙ sets-earlier _ l.i (48 + l.rest % 10) s.spelled
            ∙ ap (λ (k : ℕ). sets c.args.out.now k ((48 + l.rest % 10) ∷ s.spelled)) e;
        long = ap length c.put.ensures ∙ length-set l.out l.i _ ∙ s.long;
      },
      l.invariant.1,
      l.invariant.2,
    )

pub put-requires-2 : goal.put-requires-2
put-requires-2 c =
    let l = c.loop-rest in
    omega (arith, l.invariant.0.place, l.invariant.0.long, l.invariant.2)

pub shape_of-out : goal.shape_of-out
shape_of-out c =
    let l = c.loop-rest in
    ap length c.put-2.ensures ∙ length-set l.out l.i _ ∙ l.invariant.0.long

pub returns : goal.returns
returns c =
    let l = c.loop-rest in
    let s = l.invariant.0 in
    let d = spelling-done _ l.rest s.spelled s.spelling (search rules) in
    let a = c.args in
    let e : l.i ≡ a.at = omega (arith, s.place, l.invariant.1, ap length d) in
    c.put-2.ensures
    ∙ ap (λ (b : ℕ). set l.out l.i b) c.glyph-2.ensures
    ∙ ap (λ (o : List ℕ). set o l.i (48 + l.rest)) s.text
    ∙ sets-earlier _ l.i (48 + l.rest) s.spelled
    ∙ ap (λ (t : List ℕ). sets a.out.now l.i t) (sym d)
    ∙ ap (λ (k : ℕ). sets a.out.now k (decimal 20 a.n)) e
