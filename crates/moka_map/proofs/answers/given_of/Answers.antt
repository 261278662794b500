use Rattle.std.proofs.Common.{Some, subst, sym}
use Rattle.moka_map.specs.Calls.{GivesOf}
use Rattle.moka_map.proofs.Calls.{gives}
use Rattle.moka_map.proofs.answers.given_of.Goals as goal

pub returns-in-Some : goal.returns-in-Some
returns-in-Some g c = subst (λ o. GivesOf g.F.FnOnce c.args.with_entry o (Some c.with_entry.result)) (sym c.in-Some.is) (gives _ _ _ _ _ c.with_entry.ensures)
