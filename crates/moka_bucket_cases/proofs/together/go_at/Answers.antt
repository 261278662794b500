use Rattle.std.proofs.Math.ListN.{length-set}
use Rattle.moka_bucket_cases.proofs.Fitting.{all_after}
use Rattle.moka_bucket_cases.proofs.together.go_at.Goals as goal

pub returns : goal.returns
returns g c = record {
  fit = all_after (λ one. g.T.Table.fits c.args.table.now one.call) (λ one. g.T.Table.fits c.go.new.table one.call)
      c.args.calls.now.items c.args.place c.go.new.one c.go.result c.requires.fit (λ x p. c.go.ensures.others x.call p) c.go.ensures.fits;
  long = length-set c.args.calls.now.items c.args.place c.go.new.one;
}
