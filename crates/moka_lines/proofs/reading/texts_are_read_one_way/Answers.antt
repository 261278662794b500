use Rattle.moka_lines.proofs.OneReading.{read_one_way}
use Rattle.moka_lines.proofs.reading.texts_are_read_one_way.Goals as goal

pub returns : goal.returns
returns g c = read_one_way g.G.Grammar.spell g.G.Grammar.fits c.lines_are_spelled_apart.ensures
