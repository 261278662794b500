use Rattle.std.proofs.Common.{◌∙◌}
use Rattle.moka_desk.proofs.Noticed.{found_either}
use Rattle.moka_desk.proofs.Histories.{keeps_notices}
use Rattle.moka_desk.proofs.Outcomes.{if_ok_then}
use Rattle.moka_desk.proofs.state.Desk.notice.Goals as goal

pub returns : goal.returns
returns g c = record {
  whole = if_ok_then c.notice.result c.notice.ensures
      (λ x e kept w h.
      let desk = c.args.self.now in
      let whole = keeps_notices desk.writes.applied.history desk.notices.history desk.moments kept in
      e ∙ found_either _ _ (w.notices c.args.number) (h.notices.heard whole c.args.number) (h.notices.past whole c.args.number));
}
