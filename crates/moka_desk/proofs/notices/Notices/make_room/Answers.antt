use Rattle.std.proofs.Common.{is_some, ap, ◌∙◌}
use Rattle.moka_desk.specs.Notices.{heard_in}
use Rattle.moka_desk.proofs.notices.Notices.make_room.Goals as goal

pub returns-clause-same : goal.returns-clause-same
returns-clause-same g c = λ p h.
    c.make_room_in_history.ensures.same p
    (record {
      running = λ n. ap is_some (c.reserve.ensures.entries.2 n) ∙ h.running n;
      heard = λ whole n. ap (heard_in n) (c.reserve.ensures.entries.2 n) ∙ h.heard whole n;
      past = h.past;
      opened = h.opened;
      off = h.off;
    })
