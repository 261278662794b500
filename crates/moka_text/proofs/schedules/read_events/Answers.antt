use Rattle.std.proofs.Common.{◌<◌, ◌+◌, ◌++◌, ◌∷◌, [], length, ap, sym, ◌∙◌, arith}
use Rattle.moka_lines.specs.Lines.{lines}
use Rattle.moka_text.specs.ScheduleReading.{event_of, events_from, with_front}
use Rattle.moka_text.proofs.Splitting.{read_one, read_none, takes_memory}
use Rattle.moka_text.proofs.schedules.read_events.Goals as goal

pub returns-in_default-clause-exact : goal.returns-in_default-clause-exact
returns-in_default-clause-exact c =
    let some : 0 < length c.loop-rest.rest.now = grind (arith, c.loop-rest-test.ensures) in
    sym c.loop-rest.invariant.left ∙ read_none c.loop-rest.events.items c.loop-rest.number c.loop-rest.rest.now some (sym c.in_default.is ∙ c.event_of.ensures ∙ ap event_of c.cut_line.ensures.front)

pub loop-rest-preserved : goal.loop-rest-preserved
loop-rest-preserved c =
    let some : 0 < length c.loop-rest.rest.now = grind (arith, c.loop-rest-test.ensures) in
    let spelled = sym c.in-Some.is ∙ c.event_of.ensures ∙ ap event_of c.cut_line.ensures.front in
    record {
      left =
          ap (λ events. with_front events (events_from (c.loop-rest.number + 1) (lines c.cut_line.result.1.now))) c.in_ok-push.ensures.items
          ∙ ap (λ rest. with_front (c.loop-rest.events.items ++ c.in-Some.event ∷ []) (events_from (c.loop-rest.number + 1) (lines rest))) c.cut_line.ensures.rest
          ∙ read_one c.loop-rest.events.items c.loop-rest.number c.loop-rest.rest.now c.in-Some.event some spelled ∙ c.loop-rest.invariant.left;
      count = let less = c.cut_line.ensures.shorter some in omega (arith, c.loop-rest.invariant.count);
      two = omega (arith, c.loop-rest.invariant.two);
    }

pub returns-in_err-push-clause-memory : goal.returns-in_err-push-clause-memory
returns-in_err-push-clause-memory c = λ m.
    let some : 0 < length c.loop-rest.rest.now = grind (arith, c.loop-rest-test.ensures) in
    let spelled = sym c.in-Some.is ∙ c.event_of.ensures ∙ ap event_of c.cut_line.ensures.front in
    let events = c.loop-rest.events.items in
    takes_memory events c.in-Some.event c.loop-rest.number _ _ c.loop-rest.invariant.two
    (read_one events c.loop-rest.number c.loop-rest.rest.now c.in-Some.event some spelled ∙ c.loop-rest.invariant.left)
