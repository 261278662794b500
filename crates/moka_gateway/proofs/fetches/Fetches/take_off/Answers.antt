-- A list that is left empty ends.
use Rattle.std.proofs.Common.{sym, nat_eq}
use Rattle.std.specs.HashMap.{get}
use Rattle.moka_gateway.proofs.Lists.{taken_left, taken_stays}
use Rattle.moka_gateway.proofs.fetches.Fetches.take_off.Goals as goal

pub returns-then-is_left-clause-list : goal.returns-then-is_left-clause-list
returns-then-is_left-clause-list c =
    taken_left (get nat_eq c.args.self.now.lists) (get nat_eq c.leave_list-freed.new.lists) c.args.key c.args.number c.leave_list-freed.ensures.list
    (get nat_eq c.remove.new.self) (sym c.if-is_left.ensures) c.remove.ensures.updates.0

pub returns-else-is_left-clause-list : goal.returns-else-is_left-clause-list
returns-else-is_left-clause-list c =
    taken_stays (get nat_eq c.args.self.now.lists) (get nat_eq c.leave_list-freed.new.lists) c.args.key c.args.number c.leave_list-freed.ensures.list
    (sym c.if-is_left.ensures)
