-- The call that nobody needs is dropped.
use Rattle.std.proofs.Common.{refl}
use Rattle.moka_gateway.proofs.Fetching.{drops_ok, may_drop, stays_ok}
use Rattle.moka_gateway.proofs.fetches.Fetches.leave.Goals as goal

pub drop_call-requires : goal.drop_call-requires
drop_call-requires c = record {
  alone = may_drop c.requests_leave.ensures c.args.self.now c.take_off.new.self c.take_off.new.self c.args.key c.args.number c.take_off.ensures.cache c.take_off.ensures.list
      c.requires.0 c.requires.1 c.take_off.result c.take_off.ensures.freed c.in-Some.call c.in-Some.is;
}

pub returns-in-Some : goal.returns-in-Some
returns-in-Some c = λ u f.
    drops_ok c.requests_leave.ensures c.args.self.now c.take_off.new.self (record { alloc = c.take_off.new.self.alloc; cache = c.drop_call.new.self; lists = c.take_off.new.self.lists })
    c.args.key c.args.number c.take_off.ensures.cache c.take_off.ensures.list
    u f c.take_off.result c.take_off.ensures.freed c.in-Some.call c.in-Some.is refl c.drop_call.ensures.gone

pub returns-in-None : goal.returns-in-None
returns-in-None c = λ u f.
    stays_ok c.requests_leave.ensures c.args.self.now c.take_off.new.self c.take_off.new.self c.args.key c.args.number c.take_off.ensures.cache c.take_off.ensures.list
    u f c.take_off.result c.take_off.ensures.freed c.in-None.is
