-- The source was read whole, or failed; the first gives the status that its bytes are due.
use Rattle.std.proofs.Common.{◌≤◌, length, arith}
use Rattle.moka_lines.specs.Programs.{most_bytes}
use Rattle.moka_lines.proofs.Due.{due_after_reading}
use Rattle.moka_lines.proofs.programs.run.Goals as goal

pub returns-in-Ok-clause-due : goal.returns-in-Ok-clause-due
returns-in-Ok-clause-due g c = λ words.
    let fits : length c.in-Ok.bytes.items ≤ most_bytes = omega (arith, c.in-Ok.ensures.fits) in
    due_after_reading g.P.Grammar.spell g.P.Grammar.fits c.texts_are_read_one_way.ensures (g.Src.Source.left c.args.source.now) _ c.in-Ok.bytes.items c.respond.result c.in-Ok.ensures.all fits
    (λ e. let wrote = c.respond.ensures.done e in (wrote.answers.lines, wrote.answers.says)) c.respond.ensures.bad_line c.respond.ensures.read
