use Rattle.std.proofs.Common.{subst, sym}
use Rattle.moka_calls.specs.Standing.{Awaits, course_call}
use Rattle.moka_calls.proofs.Awaiting.{may_see}
use Rattle.moka_calls.proofs.table_call.TableCall.take.Goals as goal

pub take-requires-clause-fits : goal.take-requires-clause-fits
take-requires-clause-fits c =
    let course = c.self.inside.course in
    may_see course.decision (course_call course) c.args.seen (subst (λ step. Awaits step c.args.seen) (sym c.self.view_is) c.requires)
