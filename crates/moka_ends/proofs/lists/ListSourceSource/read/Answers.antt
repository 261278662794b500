-- What is copied stood at the front of what is left.
use Rattle.std.proofs.Common.{Some, ap}
use Rattle.std.proofs.lemmas.List.{take_rest}
use Rattle.moka_ends.proofs.TakenAndLeft.{drop-taken}
use Rattle.moka_ends.proofs.lists.ListSourceSource.read.Goals as goal

pub returns-clause-next : goal.returns-clause-next
returns-clause-next c =
    let s = c.self.inside in
    let n = c.copy_front-count.result in
    let copied = (rw (take_rest, c.deref-2.ensures.value) at c.copy_front-count.ensures.copied) in
    rw (← c.self.view_is) (ap Some (drop-taken s.bytes.items _ s.position n copied))
