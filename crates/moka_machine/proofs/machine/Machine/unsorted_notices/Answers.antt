-- The opened notices are the desk's, and the due ones those of the live calls.
use Rattle.std.proofs.Common.{◌∙◌}
use Rattle.moka_machine.proofs.ListedNotices.{notices_joined}
use Rattle.moka_machine.proofs.machine.Machine.unsorted_notices.Goals as goal

pub returns : goal.returns
returns g c = λ s h.
    let due = c.in_ok-due.ensures (λ n r e. (h.each n r e).number) in
    let desk = h.world.desk in (
      due.calls,
      record { distinct = due.lists.distinct; same = λ q. due.lists.same q ∙ h.calls q },
      notices_joined due.calls s _ _ _ _ _ c.new-notices.ensures.items (c.in_ok-push_opened.ensures h.history s.world.desk desk) (c.opened.ensures h.history s.world.desk desk)
          (c.in_ok-push_due.ensures s.world.desk desk) due.are,
    )
