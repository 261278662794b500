-- Each line by its own function.
use Rattle.std.proofs.Common.{sym, ap, ◌∙◌, subst}
use Rattle.std.specs.Prelude.{OnOk}
use Rattle.moka_collapsing.specs.Reference.{Reference}
use Rattle.moka_gateway.specs.Gateway.{IsGateway}
use Rattle.moka_gateway_run.specs.declared.lines.Line.TheVariants as line
use Rattle.moka_gateway_run.specs.Playing.{Plays, played}
use Rattle.moka_gateway_run.proofs.playing.play_line.Goals as goal

pub returns-in-Open : goal.returns-in-Open
returns-in-Open c =
    subst (λ l. OnOk c.play_open.result ((g : Reference) → IsGateway c.args.gateway.now g →
    Plays c.play_open.new.gateway c.args.text.now.items c.play_open.new.text.items (played g l))) (sym c.in-Open.is) c.play_open.ensures

pub returns-in-Feed : goal.returns-in-Feed
returns-in-Feed c =
    subst (λ l. OnOk c.play_feed.result ((g : Reference) → IsGateway c.args.gateway.now g →
    Plays c.play_feed.new.gateway c.args.text.now.items c.play_feed.new.text.items (played g l))) (ap (line.Feed c.in-Feed.client) c.as_slice.ensures ∙ sym c.in-Feed.is) c.play_feed.ensures

pub returns-in-Reply : goal.returns-in-Reply
returns-in-Reply c =
    subst (λ l. OnOk c.play_reply.result ((g : Reference) → IsGateway c.args.gateway.now g →
    Plays c.play_reply.new.gateway c.args.text.now.items c.play_reply.new.text.items (played g l))) (sym c.in-Reply.is) c.play_reply.ensures

pub returns-in-Close : goal.returns-in-Close
returns-in-Close c =
    subst (λ l. OnOk c.play_close.result ((g : Reference) → IsGateway c.args.gateway.now g →
    Plays c.play_close.new.gateway c.args.text.now.items c.play_close.new.text.items (played g l))) (sym c.in-Close.is) c.play_close.ensures
