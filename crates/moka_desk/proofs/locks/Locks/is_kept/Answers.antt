use Rattle.std.proofs.Common.{sym, ◌∙◌}
use Rattle.moka_desk.specs.Locks.{lock_under}
use Rattle.moka_desk.proofs.LockParts.{kept_none_so, kept_some_so}
use Rattle.moka_desk.proofs.locks.Locks.is_kept.Goals as goal

pub returns-in-Some : goal.returns-in-Some
returns-in-Some g c = kept_some_so (lock_under c.args.self.now c.args.number) c.in-Some.kept (sym c.kept_under.ensures ∙ c.in-Some.is)

pub returns-in-None : goal.returns-in-None
returns-in-None g c = kept_none_so (lock_under c.args.self.now c.args.number) (sym c.kept_under.ensures ∙ c.in-None.is)
