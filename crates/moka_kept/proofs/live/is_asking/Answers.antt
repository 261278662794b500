-- The plan's first item takes the answer where its access does.
use Rattle.std.proofs.Common.{◌≡◌, sym, ◌∙◌, subst}
use Rattle.moka_init.specs.FlowPlan.{call_of}
use Rattle.moka_init.specs.Grounds.{access_at}
use Rattle.moka_init.specs.declared.flow.Flow.{Flow}
use Rattle.moka_kept.specs.Taking.{is_taking}
use Rattle.moka_kept.proofs.Wanting.{told_at}
use Rattle.moka_kept.proofs.live.is_asking.Goals as goal

pub returns : goal.returns
returns g c =
    subst (λ (f : Flow g.row.K.Denot g.row.V.Denot g.row.E.Denot). c.takes_told.result ≡ is_taking (access_at f)) c.live.view_is
    (c.takes_told.ensures ∙ sym (told_at c.live.inside.flow.call (call_of c.live.inside.flow)))
