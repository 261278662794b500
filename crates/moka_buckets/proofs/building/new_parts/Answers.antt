use Rattle.std.proofs.Common.{◌≡◌, arith, subst}
use Rattle.moka_buckets.specs.Building.{AreFresh}
use Rattle.moka_buckets.proofs.Fresh.{fresh_more, fresh_none}
use Rattle.moka_buckets.proofs.building.new_parts.Goals as goal

pub loop-init : goal.loop-init
loop-init g c = fresh_none c.args.size c.in_ok-parts.parts.items c.in_ok-parts.ensures.items

pub loop-preserved : goal.loop-preserved
loop-preserved g c =
    fresh_more c.loop.counter c.args.size c.loop.parts.items c.push.new.self.items c.in_ok-new_part.field-0 c.loop.invariant c.in_ok-new_part.ensures
    c.in_ok-push.ensures.items

pub returns : goal.returns
returns g c =
    let most = c.loop.auto.counter-end in
    let least = c.loop-test.false in
    let same : c.loop.counter ≡ c.args.count = omega (arith, most, least) in
    subst (λ n. AreFresh n c.args.size c.loop.parts.items) same c.loop.invariant
