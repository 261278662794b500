use Rattle.std.proofs.Common.{Some, ap, inr, sym, ◌∙◌}
use Rattle.moka_buckets.proofs.putting.place.Goals as goal

pub returns : goal.returns
returns g c = record {
  places = inr (
    c.in-Some.node,
    c.in-Some.is,
    sym c.puts.ensures ∙ c.if-not-puts.false,
    c.push_reserved.ensures.items,
    ap (λ n. record c.args.call.now { node = n }) (ap Some (c.len.ensures ∙ c.args.nodes.now.ok.0)),
  );
}
