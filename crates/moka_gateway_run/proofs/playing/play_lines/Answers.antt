-- Each round plays the first of the lines that are left.
use Rattle.std.proofs.Common.{◌<◌, ◌≤◌, ◌++◌, length, ap, subst, arith}
use Rattle.moka_collapsing.specs.Reference.{Reference, fresh}
use Rattle.moka_gateway.specs.Gateway.{IsGateway}
use Rattle.moka_gateway_run.specs.Playing.{Plays, gateway_text, played, played_all}
use Rattle.moka_gateway_run.proofs.Plays.{all_played, is_usable, one_played}
use Rattle.moka_gateway_run.proofs.playing.play_lines.Goals as goal

pub loop-line-init : goal.loop-line-init
loop-line-init c = record { reference = fresh; stands = c.in_ok-gateway.ensures.fresh; comes = ap (λ t. t ++ played_all fresh c.args.lines.now) c.new-text.ensures.items }

pub play_line-requires : goal.play_line-requires
play_line-requires c = is_usable _ _ _ _ c.loop-line.invariant

pub loop-line-preserved : goal.loop-line-preserved
loop-line-preserved c =
    let within : c.loop-line.line-index < length c.args.lines.now = omega arith in
    let next = subst (λ l. (g : Reference) → IsGateway c.loop-line.gateway g →
    Plays c.play_line.new.gateway c.loop-line.text.items c.play_line.new.text.items (played g l)) c.line-item.is c.in_ok-play_line.ensures in
    one_played c.loop-line.gateway c.play_line.new.gateway c.loop-line.text.items c.play_line.new.text.items (gateway_text c.args.lines.now) c.args.lines.now
    c.loop-line.line-index c.line-item.result within next c.loop-line.invariant

pub returns : goal.returns
returns c =
    let all : length c.args.lines.now ≤ c.loop-line.line-index = omega arith in
    all_played c.loop-line.gateway c.loop-line.text.items (gateway_text c.args.lines.now) c.args.lines.now c.loop-line.line-index all c.loop-line.invariant
