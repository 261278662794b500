use Rattle.std.proofs.Common.{sym, ◌∙◌}
use Rattle.moka_desk.specs.Locks.{lock_part}
use Rattle.moka_desk.proofs.LockParts.{holds_live, holds_no_live}
use Rattle.moka_desk.proofs.state.Desk.holds_lock.Goals as goal

pub returns-in-Some : goal.returns-in-Some
returns-in-Some g c = λ w s.
    holds_live g.K.PartialEq.eq c.args.self.now.locks (lock_part w) s.locks c.args.call c.in-Some.kept (sym c.kept_under.ensures ∙ c.in-Some.is)

pub returns-in-None : goal.returns-in-None
returns-in-None g c = λ w s.
    holds_no_live g.K.PartialEq.eq c.args.self.now.locks (lock_part w) s.locks c.args.call (sym c.kept_under.ensures ∙ c.in-None.is)
