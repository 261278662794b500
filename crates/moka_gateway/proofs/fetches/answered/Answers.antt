-- The poll comes to the answer.
use Rattle.std.proofs.Common.{sym, ◌∙◌, ap, is_some}
use Rattle.moka_laws.proofs.Counting.{none_some, some_same}
use Rattle.moka_collapsing.specs.Settling.{answer_in}
use Rattle.moka_gateway.proofs.fetches.answered.Goals as goal

pub poll-requires : goal.poll-requires
poll-requires c = record { live = λ unspent. (c.requires.small, c.requires.polled, ap is_some c.requires.has.stands) }

pub unreachable-requires : goal.unreachable-requires
unreachable-requires c =
    let r = c.requires in
    let it = c.in_ok-outcome.ensures.polled r.small r.has.stand r.polled r.has.stands in
    none_some (sym c.in-None.is ∙ c.answer_in.ensures ∙ ap answer_in it.0 ∙ r.has.gives)

pub returns : goal.returns
returns c = λ m x h p.
    let it = c.in_ok-outcome.ensures.polled m h.stand p h.stands in
    (some_same (sym c.in-Some.is ∙ c.answer_in.ensures ∙ ap answer_in it.0 ∙ h.gives), it.1)
