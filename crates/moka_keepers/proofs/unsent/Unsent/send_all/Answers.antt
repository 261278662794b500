-- Each round sends the oldest write and takes it off.
use Rattle.std.proofs.Common.{rules, ◌∙◌, ◌++◌}
use Rattle.moka_keepers.specs.Owing.{taken_off}
use Rattle.moka_keepers.proofs.Truths.{front-first, front-more, owes-first, owes-more, owes-still, same_first}
use Rattle.moka_keepers.proofs.Puts.{failed_tells, put_tells}
use Rattle.moka_keepers.proofs.unsent.Unsent.send_all.Goals as goal

pub loop-write-init : goal.loop-write-init
loop-write-init g c = record {
  front = front-first c.args.self.now;
  owes = λ truth sent o. owes-first c.args.self.now (g.Kp.Keeper.told c.args.keeper.now) truth sent o;
  tells = λ h. h;
  faults = search rules;
}

pub loop-write-preserved : goal.loop-write-preserved
loop-write-preserved g c =
    let now = c.loop-write.self in
    let new = c.pop_first.new.self in
    let is = same_first now c.in-Some.ensures.some.0 new c.in-Some.write c.pop_first.ensures.0 c.in-Some.ensures.some.1 c.pop_first.ensures.1 in
    record {
      front = front-more c.args.self.now now new c.in-Some.write c.loop-write.invariant.front is;
      owes = λ truth sent o.
          owes-more c.args.self.now now new c.in-Some.write (g.Kp.Keeper.told c.loop-write.keeper) (g.Kp.Keeper.told c.put.new.self) truth sent
          c.loop-write.invariant.front is c.in_ok-put.ensures.put (c.loop-write.invariant.owes truth sent o);
      tells = λ h. c.loop-write.invariant.tells
          (put_tells (g.Kp.Keeper.told c.loop-write.keeper) c.in-Some.write (g.Kp.Keeper.told c.put.new.self) c.in_ok-put.ensures.put h);
      faults = c.in_ok-put.ensures.calm ∙ c.loop-write.invariant.faults;
    }

pub returns-in_err-put-clause-owes : goal.returns-in_err-put-clause-owes
returns-in_err-put-clause-owes g c = λ truth sent o.
    owes-still c.loop-write.self c.in-Some.ensures.some.0 c.in-Some.write (g.Kp.Keeper.told c.loop-write.keeper)
    (g.Kp.Keeper.told c.put.new.self) truth (sent ++ taken_off c.args.self.now c.loop-write.self)
    c.in-Some.ensures.some.1 c.in_err-put.ensures.failed (c.loop-write.invariant.owes truth sent o)

pub returns-in_err-put-clause-tells : goal.returns-in_err-put-clause-tells
returns-in_err-put-clause-tells g c = λ h.
    c.loop-write.invariant.tells
    (failed_tells (g.Kp.Keeper.told c.loop-write.keeper) c.in-Some.write (g.Kp.Keeper.told c.put.new.self) c.in_err-put.ensures.failed h)
