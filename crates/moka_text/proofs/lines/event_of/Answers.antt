-- The line's front decides, and one without such a front spells no event.
use Rattle.std.proofs.Common.{◌≡◌, sym, ap, ◌∙◌, rules}
use Rattle.std.specs.Option.{option_copied, option_map}
use Rattle.moka_hist.specs.declared.events.Event.TheVariants as event
use Rattle.moka_lines.specs.Words.{u64_in}
use Rattle.moka_text.specs.ScheduleReading.{start_of, tell_of}
use Rattle.moka_text.proofs.Fronts.{polls, starts, tells, steps, drops, moves, no_event}
use Rattle.moka_text.proofs.lines.event_of.Goals as goal

pub returns-in-Some : goal.returns-in-Some
returns-in-Some c =
    let made : c.map.result ≡ option_map event.Poll (u64_in c.in-Some.call.now) = search rules in
    made ∙ sym (polls c.args.line.now c.in-Some.call.now (sym c.after.ensures ∙ ap option_copied c.in-Some.is))

pub returns-in-Some-after : goal.returns-in-Some-after
returns-in-Some-after c =
    let made : c.map-in-Some-after.result ≡ option_map event.Start (start_of c.in-Some-after.start.now) = search rules in
    made ∙ sym (starts c.args.line.now c.in-Some-after.start.now (sym c.after-2.ensures ∙ ap option_copied c.in-Some-after.is))

pub returns-in-Some-after-2 : goal.returns-in-Some-after-2
returns-in-Some-after-2 c =
    let made : c.map-in-Some-after-2.result ≡ option_map (λ t. event.Tell t.0 t.1) (tell_of c.in-Some-after-2.told.now) = search rules in
    made ∙ sym (tells c.args.line.now c.in-Some-after-2.told.now (sym c.after-3.ensures ∙ ap option_copied c.in-Some-after-2.is))

pub returns-in-Some-after-3 : goal.returns-in-Some-after-3
returns-in-Some-after-3 c =
    let made : c.map-in-Some-after-3.result ≡ option_map event.Step (u64_in c.in-Some-after-3.call.now) = search rules in
    made ∙ sym (steps c.args.line.now c.in-Some-after-3.call.now (sym c.after-4.ensures ∙ ap option_copied c.in-Some-after-3.is))

pub returns-in-Some-after-4 : goal.returns-in-Some-after-4
returns-in-Some-after-4 c =
    let made : c.map-in-Some-after-4.result ≡ option_map event.Drop (u64_in c.in-Some-after-4.call.now) = search rules in
    made ∙ sym (drops c.args.line.now c.in-Some-after-4.call.now (sym c.after-5.ensures ∙ ap option_copied c.in-Some-after-4.is))

pub returns-in-Some-after-5 : goal.returns-in-Some-after-5
returns-in-Some-after-5 c =
    let made : c.map-in-Some-after-5.result ≡ option_map event.At (u64_in c.in-Some-after-5.moment.now) = search rules in
    made ∙ sym (moves c.args.line.now c.in-Some-after-5.moment.now (sym c.after-6.ensures ∙ ap option_copied c.in-Some-after-5.is))

pub returns : goal.returns
returns c =
    sym (no_event c.args.line.now (sym c.after.ensures ∙ ap option_copied c.in_default.is) (sym c.after-2.ensures ∙ ap option_copied c.in_default-after.is) (sym c.after-3.ensures ∙ ap option_copied c.in_default-after-2.is) (sym c.after-4.ensures ∙ ap option_copied c.in_default-after-3.is) (sym c.after-5.ensures ∙ ap option_copied c.in_default-after-4.is) (sym c.after-6.ensures ∙ ap option_copied c.in_default-after-5.is))
