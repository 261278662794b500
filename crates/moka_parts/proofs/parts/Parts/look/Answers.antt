use Rattle.std.proofs.Common.{refl}
use Rattle.moka_parts.specs.Pairs.{lent}
use Rattle.moka_parts.proofs.Lending.{lent_meets}
use Rattle.moka_parts.proofs.parts.Parts.look.Goals as goal

pub returns : goal.returns
returns g c = record {
  shown = (
    lent c.find.result,
    lent_meets (g.F.Fact.holds c.args.key.now) c.find.result c.find.ensures.fact,
    record { shown = c.find.result; shows = refl; met = c.with.ensures },
  );
}
