-- The references are sorted by the age of what they point to.
use Rattle.std.proofs.Common.{rules, arith}
use Rattle.std.proofs.lemmas.List.{take_all}
use Rattle.std.proofs.lemmas.List.Sorted.{answers_always}
use Rattle.moka_engine.specs.Choice.{age_of}
use Rattle.moka_engine.proofs.Ages.{IsOldestFirst-from_references}
use Rattle.moka_engine.proofs.choice.oldest_first.Goals as goal

pub returns : goal.returns
returns g c =
    let s = c.in_ok-sort_by_key.ensures in
    rw (c.loop-record.invariant, take_all c.loop-record.record-index c.args.known.now (omega arith)) at
    (IsOldestFirst-from_references c.loop-record.order.items c.sort_by_key.new.self.items
    s.permutation
    (s.sorted (λ r. age_of r.now) (answers_always _ _ _ (λ f a r h q. search rules)))
    (s.stable (λ r. age_of r.now) (answers_always _ _ _ (λ f a r h q. search rules))))
