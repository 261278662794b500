-- Each round takes the first of the requests that are left.
use Rattle.std.proofs.Common.{◌<◌, ◌≤◌, length, refl, arith}
use Rattle.moka_collapsing.specs.Folds.{folded}
use Rattle.moka_collapsing.specs.Reference.{comes}
use Rattle.moka_gateway.proofs.Rows.{all_came, one_come}
use Rattle.moka_gateway.proofs.gateway.all_come.Goals as goal

pub loop-request-init : goal.loop-request-init
loop-request-init c = λ c0 h. record { come = c0; has = h; comes = refl }

pub come-requires : goal.come-requires
come-requires c = let g = c.loop-request.invariant c.requires.0 c.requires.1 in (g.come, g.has)

pub loop-request-preserved : goal.loop-request-preserved
loop-request-preserved c = λ c0 h.
    let within : c.loop-request.request-index < length c.args.requests.now = omega arith in
    one_come c.args.requests.now c.loop-request.request-index _ within c.args.number c.loop-request.fetches c.come.new.fetches
    c.loop-request.client c.come.new.client c.loop-request.outs.items c.come.new.outs.items (folded (comes c.args.number) c0 c.args.requests.now)
    c.in_ok-come.ensures (c.loop-request.invariant c0 h)

pub returns : goal.returns
returns c = λ c0 h.
    let all : length c.args.requests.now ≤ c.loop-request.request-index = omega arith in
    all_came c.args.requests.now c.loop-request.request-index all c.args.number c.loop-request.fetches c.loop-request.client
    c.loop-request.outs.items (folded (comes c.args.number) c0 c.args.requests.now) (c.loop-request.invariant c0 h)
