use Rattle.std.proofs.Common.{sym, ◌∙◌}
use Rattle.moka_desk.proofs.LockParts.{released_kept, released_none}
use Rattle.moka_desk.proofs.locks.Locks.release.Goals as goal

pub returns-then-is_kept-clause-makes : goal.returns-then-is_kept-clause-makes
returns-then-is_kept-clause-makes g c = λ p h.
    released_kept g.K.PartialEq.eq c.args.self.now p h c.free.new.self c.args.number (sym c.is_kept.ensures ∙ c.if-is_kept.true) (c.free.ensures p h)

pub returns-clause-makes : goal.returns-clause-makes
returns-clause-makes g c = λ p h.
    released_none g.K.PartialEq.eq c.args.self.now p h c.args.number (sym c.is_kept.ensures ∙ c.if-is_kept.false)
