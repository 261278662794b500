use Rattle.moka_parts.proofs.Histories.{changes_in-prefix}
use Rattle.moka_parts.proofs.Taking.{taken_seen}
use Rattle.moka_parts.proofs.named.NamedPartsSharedTable.take_out_if.Goals as goal

pub returns-clause-grows : goal.returns-clause-grows
returns-clause-grows g c = rw (← c.seat.view_is) (changes_in-prefix c.seat.inside.front c.take_out_if-answer.new.me c.take_out_if-answer.ensures.grows)

pub returns-clause-out : goal.returns-clause-out
returns-clause-out g c = rw (← c.seat.view_is)
    (taken_seen g.C.FnOnce c.args.condition (g.F.Fact.holds c.args.key.now) c.args.key.now _ c.seat.inside.own c.take_out_if-answer.new.own c.seat.inside.front c.take_out_if-answer.new.me c.take_out_if-answer.result.0
    c.take_out_if-answer.ensures.ok c.take_out_if-answer.ensures.fact)

pub returns-clause-rests : goal.returns-clause-rests
returns-clause-rests g c = rw (← c.seat.view_is) c.take_out_if-answer.ensures.rests
