-- The oldest write is pending no more.
use Rattle.std.proofs.Common.{◌∙◌, ℕ, List, nat_eq, ap}
use Rattle.std.specs.HashMap.{get}
use Rattle.moka_keepers.specs.declared.write.Write.{Write}
use Rattle.moka_keepers.specs.Pending.{pending_of}
use Rattle.moka_keepers.proofs.Pendings.{pop_less}
use Rattle.moka_keepers.proofs.unsent.Unsent.pop_first.Goals as goal

pub invariant_of-self : goal.invariant_of-self
invariant_of-self c =
    pop_less (get nat_eq c.self.inside.pending) (get nat_eq c.take_off.new.pending) c.in-Some.write c.pop_front.new.self.items
    c.give_back.new.queue.items
    (λ (key : ℕ). c.self.invariant key ∙ ap (λ (l : List Write). pending_of key l) c.in-Some.ensures.items)
    c.take_off.ensures c.give_back.ensures.items
