-- The front decides, where it is one of those that are looked for.
use Rattle.std.proofs.Common.{◌≡◌, sym, ap, ◌∙◌, rules}
use Rattle.std.specs.Option.{option_copied, option_map}
use Rattle.moka_hist.specs.declared.events.Start.TheVariants as start
use Rattle.moka_lines.specs.Words.{u32_in}
use Rattle.moka_text.specs.ScheduleReading.{load_of, pair_of}
use Rattle.moka_text.proofs.Fronts.{loads, inserts, gets}
use Rattle.moka_text.proofs.lines.start_of.Goals as goal

pub returns-in-Some : goal.returns-in-Some
returns-in-Some c =
    let made : c.map.result ≡ option_map (λ l. start.GetWith l.0 l.1) (load_of c.in-Some.load.now) = search rules in
    made ∙ sym (loads c.args.bytes.now c.in-Some.load.now (sym c.after.ensures ∙ ap option_copied c.in-Some.is))

pub returns-in-Some-after : goal.returns-in-Some-after
returns-in-Some-after c =
    let made : c.map-in-Some-after.result ≡ option_map (λ p. start.Insert p.0 p.1) (pair_of c.in-Some-after.pair.now) = search rules in
    made ∙ sym (inserts c.args.bytes.now c.in-Some-after.pair.now (sym c.after-2.ensures ∙ ap option_copied c.in-Some-after.is))

pub returns-in-Some-after-2 : goal.returns-in-Some-after-2
returns-in-Some-after-2 c =
    let made : c.map-in-Some-after-2.result ≡ option_map start.Get (u32_in c.in-Some-after-2.key.now) = search rules in
    made ∙ sym (gets c.args.bytes.now c.in-Some-after-2.key.now (sym c.after-3.ensures ∙ ap option_copied c.in-Some-after-2.is))
