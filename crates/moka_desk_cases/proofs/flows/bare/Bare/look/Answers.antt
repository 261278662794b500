-- A look that decides finds nothing.
use Rattle.std.proofs.Common.{refl, arith, rules}
use Rattle.moka_desk_cases.proofs.EmptyCache.{looked_bare}
use Rattle.moka_desk_cases.proofs.flows.bare.Bare.look.Goals as goal

pub returns-then-self-eq0-clause-serves : goal.returns-then-self-eq0-clause-serves
returns-then-self-eq0-clause-serves g c =
    record {
      gives = looked_bare g.K.PartialEq.eq c.args.self.now.undecided c.args.key;
      form = tt;
      begins = refl;
      lists = omega arith;
      shortens = λ keys. record { within = omega arith; raises = omega arith; going = λ e. absurd (cc); keys = omega arith };
      notes = search rules;
      is_noted = refl;
    }
