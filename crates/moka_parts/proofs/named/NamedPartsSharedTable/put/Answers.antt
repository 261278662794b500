use Rattle.std.proofs.Common.{Some}
use Rattle.std.proofs.lemmas.Result.{IfOk-weaker}
use Rattle.moka_parts.proofs.Histories.{changes_in-prefix, adds}
use Rattle.moka_parts.proofs.named.NamedPartsSharedTable.put.Goals as goal

pub returns-clause-grows : goal.returns-clause-grows
returns-clause-grows g c = rw (← c.seat.view_is) (changes_in-prefix c.seat.inside.front c.put-answer.new.me c.put-answer.ensures.grows)

pub returns-clause-puts : goal.returns-clause-puts
returns-clause-puts g c = rw (← c.seat.view_is)
    (IfOk-weaker c.put-answer.result.0 _ _
    (λ given s. (s.0, (adds c.args.key (Some c.args.value) s.0 c.seat.inside.own c.put-answer.new.own c.seat.inside.front c.put-answer.new.me s.1.0, s.1.2), s.2)) c.put-answer.ensures.ends)

pub returns-clause-rests : goal.returns-clause-rests
returns-clause-rests g c = rw (← c.seat.view_is) c.put-answer.ensures.rests
