-- `notation::tag_named` meets its contract. Assumes nothing.
use Rattle.std.proofs.Common.{sym, ap, ◌∙◌, arith}
use Rattle.std.proofs.lemmas.Bool.Decides.{nat_tests}
use Rattle.notation.specs.Reading.{tag_named}
use Rattle.notation.proofs.Codes.{named_by}
use Rattle.notation.proofs.tag_named.Goals as goal

pub returns-in-267300 : goal.returns-in-267300
returns-in-267300 c = sym (ap tag_named c.in-267300.is ∙ named_by 267300)

pub returns-in-540140 : goal.returns-in-540140
returns-in-540140 c = sym (ap tag_named c.in-540140.is ∙ named_by 540140)

pub returns-in-441878706 : goal.returns-in-441878706
returns-in-441878706 c = sym (ap tag_named c.in-441878706.is ∙ named_by 441878706)

pub returns-in-19387844 : goal.returns-in-19387844
returns-in-19387844 c = sym (ap tag_named c.in-19387844.is ∙ named_by 19387844)

pub returns-in-2340 : goal.returns-in-2340
returns-in-2340 c = sym (ap tag_named c.in-2340.is ∙ named_by 2340)

pub returns-in-3554917 : goal.returns-in-3554917
returns-in-3554917 c = sym (ap tag_named c.in-3554917.is ∙ named_by 3554917)

pub returns-in-47663122053 : goal.returns-in-47663122053
returns-in-47663122053 c = sym (ap tag_named c.in-47663122053.is ∙ named_by 47663122053)

pub returns-in-660530 : goal.returns-in-660530
returns-in-660530 c = sym (ap tag_named c.in-660530.is ∙ named_by 660530)

pub returns-in-99724 : goal.returns-in-99724
returns-in-99724 c = sym (ap tag_named c.in-99724.is ∙ named_by 99724)

pub returns-in-16441 : goal.returns-in-16441
returns-in-16441 c = sym (ap tag_named c.in-16441.is ∙ named_by 16441)

pub returns-in-442053 : goal.returns-in-442053
returns-in-442053 c = sym (ap tag_named c.in-442053.is ∙ named_by 442053)

pub returns-in-435827 : goal.returns-in-435827
returns-in-435827 c = sym (ap tag_named c.in-435827.is ∙ named_by 435827)

pub returns-in-211232360 : goal.returns-in-211232360
returns-in-211232360 c = sym (ap tag_named c.in-211232360.is ∙ named_by 211232360)

pub returns-in-624005 : goal.returns-in-624005
returns-in-624005 c = sym (ap tag_named c.in-624005.is ∙ named_by 624005)

pub returns-in-800617285687 : goal.returns-in-800617285687
returns-in-800617285687 c = sym (ap tag_named c.in-800617285687.is ∙ named_by 800617285687)

pub returns-in_default : goal.returns-in_default
returns-in_default c = rw (named_by _) (grind (arith, nat_tests))
