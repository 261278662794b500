use Rattle.std.proofs.Common.{refl, arith}
use Rattle.moka_cht.proofs.Passing.{passed_more, passed_all}
use Rattle.moka_cht.proofs.probe.Probe.passes.Goals as goal

pub returns-then-passed-self : goal.returns-then-passed-self
returns-then-passed-self c own words s other =
    let p = c.args.self in
    record {
      follows = record { aim_stays = refl; array_stays = refl; length_stays = refl; hash_stays = refl };
      on = record { power = c.requires.on.power; small = c.requires.on.small; within = c.if-passed-self.true };
      stands = record { long = s.long; passed = passed_more own words p.length p.hash p.passed s.long s.passed other; found = s.found };
      nearer = rw c.requires.load (omega arith);
    }

pub returns-else-passed-self : goal.returns-else-passed-self
returns-else-passed-self c own words s other =
    let p = c.args.self in
    c.nowhere.ensures own words
    (passed_all own words p.length p.hash p.passed s.long c.requires.on.within c.if-passed-self.false
    (passed_more own words p.length p.hash p.passed s.long s.passed other))
