-- `auction::Auction::run` meets its contract. An auction that is not refused is within the limits. Assumes nothing.
use mathlib.Core.Path.{◌≡◌, refl, sym, ◌∙◌}
use borrow.Author.Rules.{rules}
use lib.ListN.{length}
use Rattle.lists.specs.Refusals.{number_of, answer_of}
use Rattle.lists.proofs.Refused.{not-accepted}
use Rattle.splitting.proofs.Answers.{answers-done, answers-untouched}
use Rattle.auction.specs.Limits.{allot_into}
use Rattle.auction.proofs.Answers.{refusal-within, within-ready}
use Rattle.auction.proofs.Auction.run.Goals as goal

pub returns-in_err-refusal : goal.returns-in_err-refusal
unfolding allot_into
returns-in_err-refusal c =
    let e = c.in_err-refusal.field-0.0 in
    let is : answer_of c.from_residual.result ≡ number_of e = search rules in
    answers-untouched _ _ _ _ (is ∙ c.in_err-refusal.ensures) (λ z. not-accepted e (sym is ∙ z))

pub allot_within-requires : goal.allot_within-requires
allot_within-requires c =
    let a = c.args in
    let w = refusal-within a.least a.places a.self.open_units a.self.reserve a.self.units.now a.self.prices.now (length a.counts.now) (sym c.in_ok-refusal.ensures) in
    record { ready = within-ready _ _ _ _ _ _ _ c.requires w; won_len = w.counted }

pub returns : goal.returns
unfolding allot_into
returns c = answers-done _ _ _ _ _ c.in_ok-refusal.ensures refl c.allot_within.ensures
