-- `from_lines::run` meets its contract. Assumes nothing.
use Rattle.std.proofs.Common.{sym, ◌∙◌, rules}
use Rattle.from_lines.proofs.Ends.{declined-some, declined-none, ready, gives-declined, gives-unknown}
use Rattle.from_lines.proofs.run.Goals as goal

pub returns-then-is_err : goal.returns-then-is_err
returns-then-is_err c =
    let declined = declined-some c.why_before.result (sym c.is_err.ensures.value ∙ c.if-is_err.true) in
    gives-declined _ _ _ _ _ c.count_of-n.ensures.0 c.why_before.ensures declined

pub returns-then-buf-lt65537 : goal.returns-then-buf-lt65537
returns-then-buf-lt65537 c = gives-unknown _ _ _

pub returns-then-out-lt128 : goal.returns-then-out-lt128
returns-then-out-lt128 c = gives-unknown _ _ _

pub run_to_end-requires : goal.run_to_end-requires
run_to_end-requires c =
    let accepted = declined-none c.why_before.result (sym c.is_err.ensures.value ∙ c.if-is_err.false) in
    let e = ready _ _ _ _ c.count_of-n.ensures.0 c.why_before.ensures accepted in
    (e.0, e.1, search rules)
