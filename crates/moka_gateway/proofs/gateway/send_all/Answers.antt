-- Each round sends to the first of the clients that are left.
use Rattle.std.proofs.Common.{◌∙◌, [], nat_eq, refl}
use Rattle.std.specs.HashMap.{get}
use Rattle.moka_gateway.proofs.Rows.{one_sent}
use Rattle.moka_gateway.proofs.gateway.send_all.Goals as goal

pub loop-number-init : goal.loop-number-init
loop-number-init c = record {
  sent = λ cs same. record { mid = record { clients = cs; outs = [] }; same = same; done = c.new-outs.ensures.items; comes = refl };
  count = refl;
}

pub loop-number-preserved : goal.loop-number-preserved
loop-number-preserved c = record {
  sent = λ cs same.
      one_sent (get nat_eq c.loop-number.clients) (get nat_eq c.send_one.new.clients) c.loop-number.outs.items c.send_one.new.outs.items
      c.in-Some.number c.take_least.new.numbers.keys c.loop-number.numbers.keys _ c.in-Some.ensures.least c.in_ok-send_one.ensures.sent
      c.in_ok-send_one.ensures.outs (c.loop-number.invariant.sent cs same);
  count = c.send_one.ensures.count ∙ c.loop-number.invariant.count;
}
