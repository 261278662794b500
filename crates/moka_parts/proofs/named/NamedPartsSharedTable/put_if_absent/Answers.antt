use Rattle.std.proofs.Common.{None, Some}
use Rattle.moka_parts.specs.Changes.{map_after}
use Rattle.moka_parts.specs.Logs.{changes_in}
use Rattle.moka_parts.proofs.Histories.{changes_in-prefix, adds}
use Rattle.moka_parts.proofs.Taking.{put_seen}
use Rattle.moka_parts.proofs.named.NamedPartsSharedTable.put_if_absent.Goals as goal

pub returns-clause-grows : goal.returns-clause-grows
returns-clause-grows g c = rw (← c.seat.view_is) (changes_in-prefix c.seat.inside.front c.put_if_absent-answer.new.me c.put_if_absent-answer.ensures.grows)

pub returns-clause-answers : goal.returns-clause-answers
returns-clause-answers g c = rw (← c.seat.view_is)
    (put_seen c.put_if_absent-answer.result.0 _ _ _ (g.F.Fact.holds c.args.key) (map_after g.K.PartialEq.eq (changes_in c.put_if_absent-answer.new.me) c.args.key)
    (λ e. adds c.args.key (Some c.args.value) None c.seat.inside.own c.put_if_absent-answer.new.own c.seat.inside.front c.put_if_absent-answer.new.me e)
    c.put_if_absent-answer.ensures.answers c.put_if_absent-answer.ensures.fact)

pub returns-clause-rests : goal.returns-clause-rests
returns-clause-rests g c = rw (← c.seat.view_is) c.put_if_absent-answer.ensures.rests
