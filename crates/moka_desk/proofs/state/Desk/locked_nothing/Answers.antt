use Rattle.std.proofs.Common.{is_some, sym, ap, ◌∙◌}
use Rattle.moka_desk.specs.Locks.{lock_part}
use Rattle.moka_desk.proofs.LockParts.{nothing_under}
use Rattle.moka_desk.proofs.state.Desk.locked_nothing.Goals as goal

pub returns : goal.returns
returns g c = λ w s.
    nothing_under g.K.PartialEq.eq c.args.self.now.locks (lock_part w) s.locks c.args.call _ (sym (ap is_some c.kept_under.ensures) ∙ c.is_none.ensures)
