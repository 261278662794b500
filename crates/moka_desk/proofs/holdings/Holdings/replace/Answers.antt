use Rattle.std.proofs.Common.{◌≤◌, ◌+◌, ◌==◌, Bool, Some, None, cond, ap, subst, ◌∙◌, arith}
use Rattle.moka_desk.specs.Held.{held_by, held_count}
use Rattle.moka_desk.proofs.WhoHolds.{put_over, same_number}
use Rattle.moka_desk.proofs.holdings.Holdings.replace.Goals as goal

pub put-requires : goal.put-requires
put-requires c =
    let s = c.args.self.now in
    let call = c.args.call in
    let few = c.requires.few in
    let room = c.remove.ensures.room in
    let less : held_count c.remove.new.self + 1 ≤ held_count s = subst (λ (b : Bool). held_count c.remove.new.self + cond b 1 0 ≤ held_count s) c.requires.held c.remove.ensures.count in
    record {
      room = omega (arith, few, room, less);
      free = c.remove.ensures.holds call ∙ ap (λ b. cond b None (held_by s call)) (same_number call);
    }

pub returns-clause-holds : goal.returns-clause-holds
returns-clause-holds c = λ n.
    let s = c.args.self.now in
    let call = c.args.call in
    let holding = c.args.holding in
    c.put.ensures.holds n
    ∙ ap (cond (call == n) (Some holding)) (c.remove.ensures.holds n)
    ∙ put_over (call == n) (Some holding) (held_by s n)

pub returns-clause-count : goal.returns-clause-count
returns-clause-count c =
    let s = c.args.self.now in
    let more = c.put.ensures.count in
    let less : held_count c.remove.new.self + 1 ≤ held_count s = subst (λ (b : Bool). held_count c.remove.new.self + cond b 1 0 ≤ held_count s) c.requires.held c.remove.ensures.count in
    omega (arith, more, less)
