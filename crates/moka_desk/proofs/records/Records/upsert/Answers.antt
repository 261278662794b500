use Rattle.std.proofs.Common.{ℕ, ◌∷◌, [], ◌++◌, Option, sym, subst}
use Rattle.moka_hist.specs.declared.writes.Write.TheVariants.{Upsert}
use Rattle.moka_desk.proofs.Coming.{and_none}
use Rattle.moka_desk.specs.Records.{RecordsAre, and_this}
use Rattle.moka_desk.proofs.records.Records.upsert.Goals as goal

pub returns-in-Some-clause-applies : goal.returns-in-Some-clause-applies
returns-in-Some-clause-applies c = λ writes gone h unmade.
    subst (λ (o : Option ℕ). RecordsAre c.go.new.self (writes ++ Upsert c.args.number c.args.old ∷ []) (and_this gone o)) (sym c.in-Some.is)
    (c.go.ensures.goes (writes ++ Upsert c.args.number c.args.old ∷ []) gone (c.come.ensures.comes writes gone c.args.old h unmade))

pub returns-in_default-clause-applies : goal.returns-in_default-clause-applies
returns-in_default-clause-applies c = λ writes gone h unmade.
    and_none c.come.new.self (writes ++ Upsert c.args.number c.args.old ∷ []) gone c.args.old c.in_default.is (c.come.ensures.comes writes gone c.args.old h unmade)
