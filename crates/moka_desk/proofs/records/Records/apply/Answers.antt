use Rattle.std.proofs.Common.{◌≡◌, ◌∷◌, [], ◌++◌, false, Some, sym, ap, subst, ◌∙◌}
use Rattle.moka_hist.specs.Visits.{is_replaced, number_of}
use Rattle.moka_hist.specs.declared.writes.Write.{Write}
use Rattle.moka_hist.specs.declared.writes.Write.TheVariants.{Upsert, Remove}
use Rattle.moka_desk.proofs.Coming.{removed, replaced}
use Rattle.moka_desk.specs.Records.{RecordsAre, and_this, is_made}
use Rattle.moka_desk.proofs.records.Records.apply.Goals as goal

pub returns-in-Upsert-clause-applies : goal.returns-in-Upsert-clause-applies
returns-in-Upsert-clause-applies c = λ writes h unmade.
    let w : Write = Upsert c.in-Upsert.number c.in-Upsert.old in
    let none : is_made writes c.in-Upsert.number ≡ false = ap (λ v. is_made writes (number_of v)) (sym c.in-Upsert.is) ∙ unmade in
    subst (λ (v : Write). RecordsAre c.upsert.new.self (writes ++ v ∷ []) (is_replaced (writes ++ v ∷ []))) (sym c.in-Upsert.is)
    (replaced c.upsert.new.self writes w (c.upsert.ensures.applies writes (is_replaced writes) h none))

pub returns-in-Remove-clause-applies : goal.returns-in-Remove-clause-applies
returns-in-Remove-clause-applies c = λ writes h unmade.
    let w : Write = Remove c.in-Remove.number c.in-Remove.old in
    subst (λ (v : Write). RecordsAre c.go.new.self (writes ++ v ∷ []) (is_replaced (writes ++ v ∷ []))) (sym c.in-Remove.is)
    (replaced c.go.new.self writes w (removed c.go.new.self c.in-Remove.number c.in-Remove.old writes (and_this (is_replaced writes) (Some c.in-Remove.old))
    (c.go.ensures.goes writes (is_replaced writes) h)))
