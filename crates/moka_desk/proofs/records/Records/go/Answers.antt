use Rattle.std.proofs.Common.{sym, refl, ◌∙◌}
use Rattle.moka_desk.proofs.Coming.{went, went_unseen}
use Rattle.moka_desk.proofs.records.Records.go.Goals as goal

pub returns-then-not-remove-clause-goes : goal.returns-then-not-remove-clause-goes
returns-then-not-remove-clause-goes c = λ writes gone h.
    went_unseen c.args.self.now (record c.args.self.now { standing = c.remove.new.self; early = c.add.new.set }) c.args.stamp writes gone h
    (sym c.remove.ensures.test ∙ c.if-not-remove.true) c.if-not-remove.ensures.unchanged c.add.ensures.has

pub returns-else-not-remove-clause-goes : goal.returns-else-not-remove-clause-goes
returns-else-not-remove-clause-goes c = λ writes gone h.
    went c.args.self.now (record c.args.self.now { standing = c.remove.new.self; early = c.args.self.now.early }) c.args.stamp writes gone h
    (sym c.remove.ensures.test ∙ c.if-not-remove.false) refl c.remove.ensures.updates.0 c.if-not-remove.ensures.len
