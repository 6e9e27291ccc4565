use Rattle.std.proofs.Common.{ℕ, get_or, refl, ap, ◌∙◌, arith}
use Rattle.sets.specs.Set.{with_member}
use Rattle.expected.specs.Words.{set_of}
use Rattle.expected.proofs.Texts.{set-turn}
use Rattle.expected.proofs.set_of.Goals as goal

pub loop-n-init : goal.loop-n-init
unfolding set_of
loop-n-init c = refl

pub loop-n-preserved : goal.loop-n-preserved
loop-n-preserved c =
    let at = c.loop-n in
    c.with-set.ensures ∙ ap (λ (k : ℕ). with_member k (get_or c.args.numbers.now at.n-index 0)) at.invariant ∙ set-turn c.args.numbers.now at.n-index (omega arith)
