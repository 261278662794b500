-- The source was read whole, or failed; the first gives the status that its bytes are due.
use Rattle.std.proofs.Common.{◌≤◌, length, arith}
use Rattle.moka_lines.specs.Programs.{most_bytes}
use Rattle.moka_run.proofs.Due.{due_after_reading}
use Rattle.moka_run.proofs.playing.play.Goals as goal

pub returns-in-Ok-clause-due : goal.returns-in-Ok-clause-due
returns-in-Ok-clause-due g c = λ words.
    let fits : length c.in-Ok.bytes.items ≤ most_bytes = omega (arith, c.in-Ok.ensures.fits) in
    due_after_reading c.schedule_text_round_trip.ensures.text c.schedule_text_round_trip.ensures.bad_line
    (g.Src.Source.left c.args.source.now) _ c.in-Ok.bytes.items c.respond.result _ _ c.in-Ok.ensures.all fits
    c.respond.ensures.done c.respond.ensures.bad_line c.respond.ensures.read
