use Rattle.std.proofs.Common.{refl, ap, sym, ◌∙◌}
use Rattle.std.proofs.lemmas.Result.{err_from_is_err_and}
use Rattle.moka_lines.specs.Lines.{lines}
use Rattle.moka_text.specs.ScheduleReading.{cache_of, events_from, with_cache, schedule}
use Rattle.moka_text.proofs.Splitting.{no_cache, with_rest, passed_on, same_error, whole_takes_memory}
use Rattle.moka_text.proofs.schedules.read_whole.Goals as goal

pub returns-in_default-clause-exact : goal.returns-in_default-clause-exact
returns-in_default-clause-exact c = no_cache c.args.text.now (sym c.in_default.is ∙ c.cache_of.ensures ∙ ap cache_of c.cut_line.ensures.front)

pub returns-in_err-events-clause-exact : goal.returns-in_err-events-clause-exact
returns-in_err-events-clause-exact c =
    let p = err_from_is_err_and c.from_residual.result c.from_residual.ensures.1 in
    let whole =
    with_rest c.args.text.now (c.in-Some.log, c.in-Some.settings) (sym c.in-Some.is ∙ c.cache_of.ensures ∙ ap cache_of c.cut_line.ensures.front)
    ∙ ap (λ rest. with_cache (c.in-Some.log, c.in-Some.settings) (events_from 2 (lines rest))) (sym c.cut_line.ensures.rest) in
    rw (p.1, p.2) (passed_on c.in_err-events.field-0.0 (c.in-Some.log, c.in-Some.settings) (schedule c.args.text.now) (events_from 2 (lines c.cut_line.result.1.now)) whole c.in_err-events.ensures.exact)

pub returns-clause-exact : goal.returns-clause-exact
returns-clause-exact c =
    with_rest c.args.text.now (c.in-Some.log, c.in-Some.settings) (sym c.in-Some.is ∙ c.cache_of.ensures ∙ ap cache_of c.cut_line.ensures.front)
    ∙ ap (λ rest. with_cache (c.in-Some.log, c.in-Some.settings) (events_from 2 (lines rest))) (sym c.cut_line.ensures.rest) ∙ ap (with_cache (c.in-Some.log, c.in-Some.settings)) c.in_ok-events.ensures.exact

pub returns-in_err-events-clause-memory : goal.returns-in_err-events-clause-memory
returns-in_err-events-clause-memory c = λ m.
    let p = err_from_is_err_and c.from_residual.result c.from_residual.ensures.1 in
    let whole =
    with_rest c.args.text.now (c.in-Some.log, c.in-Some.settings) (sym c.in-Some.is ∙ c.cache_of.ensures ∙ ap cache_of c.cut_line.ensures.front)
    ∙ ap (λ rest. with_cache (c.in-Some.log, c.in-Some.settings) (events_from 2 (lines rest))) (sym c.cut_line.ensures.rest) in
    whole_takes_memory (c.in-Some.log, c.in-Some.settings) (schedule c.args.text.now) (events_from 2 (lines c.cut_line.result.1.now)) whole
    (c.in_err-events.ensures.memory (same_error _ _ _ refl (rw (p.1, p.2) at m) _ refl))
