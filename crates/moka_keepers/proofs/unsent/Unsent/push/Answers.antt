-- One more write is pending of its key.
use Rattle.std.proofs.Common.{◌∙◌, ◌+◌, ◌≤◌, ◌∷◌, [], ◌++◌, List, length, nat_eq, ap, arith}
use Rattle.std.specs.HashMap.{get}
use Rattle.moka_keepers.specs.declared.write.Write.{Write}
use Rattle.moka_keepers.proofs.Pendings.{fits_one_more, push_noted}
use Rattle.moka_keepers.proofs.unsent.Unsent.push.Goals as goal

pub add-requires : goal.add-requires
add-requires c =
    let write = c.args.write in
    let items = c.self.inside.writes.items in
    let small = c.reserve.new.queue.small in
    let ok = c.reserve.new.queue.ok in
    let room : length items + 1 ≤ c.reserve.new.queue.cap = omega (arith, ap length c.in_ok-reserve.ensures.items, c.in_ok-reserve.ensures.ok) in
    record { room = fits_one_more write.key items _ c.reserve.new.queue.cap (c.self.invariant write.key) room (small.0) }

pub invariant_of-self-2 : goal.invariant_of-self-2
invariant_of-self-2 c =
    push_noted (get nat_eq c.self.inside.pending) (get nat_eq c.add.new.pending) c.self.inside.writes.items c.args.write
    c.push_back.new.self.items c.self.invariant c.in_ok-add.ensures.noted
    (c.in-Ok.ensures.items ∙ ap (λ (ws : List Write). ws ++ c.args.write ∷ []) c.in_ok-reserve.ensures.items)
