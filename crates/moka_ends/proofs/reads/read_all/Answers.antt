-- What was read before an error came off the front.
use Rattle.moka_ends.proofs.TakenAndLeft.{GivesSome-after, OnErr-always}
use Rattle.moka_ends.proofs.reads.read_all.Goals as goal

pub returns-in_err-read_more-clause-kept : goal.returns-in_err-read_more-clause-kept
returns-in_err-read_more-clause-kept g c =
    OnErr-always _ (GivesSome-after _ (g.S.Source.left c.loop-bytes.source) _ c.loop-bytes.bytes.items c.loop-bytes.invariant.gives c.in_err-read_more.ensures.kept)
