use Rattle.std.proofs.Common.{sym}
use Rattle.std.specs.Prelude.{Ok}
use Rattle.moka_parts.proofs.Holding.{renewed, no_pair}
use Rattle.moka_parts.proofs.pairs.put_over.Goals as goal

pub returns-in-Some : goal.returns-in-Some
returns-in-Some g c = record {
  map = renewed g.met.K.Eq.laws {E = Unit {0}} c.args.key c.args.value c.args.map.now.entries (c.get_mut.follows.lender c.replace.new.dest).entries c.in-Some.held.now
      c.replace.new.dest (Ok (c.args.key, c.args.value)) (sym c.in-Some.ensures.value) (c.get_mut.follows.holds c.replace.new.dest).0 c.replace.ensures.after;
}

pub put_first-requires-clause-absent : goal.put_first-requires-clause-absent
put_first-requires-clause-absent g c =
    rw c.get_mut.follows.holds-at-none (no_pair (g.K.PartialEq.eq c.args.key) c.args.map.now.entries (sym c.in-None.ensures.value))
