-- The requests come that are due at the bytes, and then the client is sent what is due.
use Rattle.std.proofs.Common.{◌∙◌, ap}
use Rattle.moka_collapsing.specs.Clients.{flushed}
use Rattle.moka_gateway.specs.Folds.{brought_by}
use Rattle.moka_gateway.proofs.Rows.{at_first, came_so, first_has, outs_brought}
use Rattle.moka_gateway.proofs.gateway.feed_client.Goals as goal

pub all_come-requires : goal.all_come-requires
all_come-requires c = (
  at_first c.requires.0 c.args.client.now c.args.bytes.now,
  first_has c.args.fetches.now c.requires.0 c.args.client.now c.read.new.self c.new-outs.result.items c.args.bytes.now c.requires.1
      c.in_ok-requests.ensures.unfinished c.new-outs.ensures.items,
)

pub returns-clause-outs : goal.returns-clause-outs
returns-clause-outs c = λ u f.
    let came = came_so c.args.fetches.now c.all_come.new.fetches u c.args.client.now c.read.new.self c.all_come.new.client c.new-outs.result.items
    c.all_come.new.outs.items c.args.bytes.now c.args.number c.deref.result.now f c.in_ok-requests.ensures.unfinished c.new-outs.ensures.items
    (c.deref.ensures.value ∙ c.in_ok-requests.ensures.requests) c.in_ok-all_come.ensures in
    c.from_vec.ensures
    ∙ outs_brought c.all_come.new.fetches c.all_come.new.client c.all_come.new.outs.items c.send_to.new.outs.items c.args.number
    (brought_by u c.args.number c.args.client.now c.args.bytes.now) came c.in_ok-send_to.ensures.outs

pub returns-clause-come : goal.returns-clause-come
returns-clause-come c = λ u f.
    let came = came_so c.args.fetches.now c.all_come.new.fetches u c.args.client.now c.read.new.self c.all_come.new.client c.new-outs.result.items
    c.all_come.new.outs.items c.args.bytes.now c.args.number c.deref.result.now f c.in_ok-requests.ensures.unfinished c.new-outs.ensures.items
    (c.deref.ensures.value ∙ c.in_ok-requests.ensures.requests) c.in_ok-all_come.ensures in
    (came.stands, c.in_ok-send_to.ensures.left ∙ ap flushed came.same)
