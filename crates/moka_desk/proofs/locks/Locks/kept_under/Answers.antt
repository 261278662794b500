use Rattle.std.proofs.Common.{nat_eq, sym, ◌∙◌}
use Rattle.std.specs.HashMap.{get}
use Rattle.moka_desk.specs.Locks.{first_lock}
use Rattle.moka_desk.proofs.LockParts.{kept_behind, kept_first}
use Rattle.moka_desk.proofs.locks.Locks.kept_under.Goals as goal

pub returns-in-Some : goal.returns-in-Some
returns-in-Some g c =
    let self = c.args.self.now in
    let number = c.args.number in
    kept_first (first_lock self.first number) (get nat_eq self.locked number) c.in-Some.kept (sym c.first_kept.ensures ∙ c.in-Some.is)

pub returns-in-None : goal.returns-in-None
returns-in-None g c =
    let self = c.args.self.now in
    let number = c.args.number in
    c.kept_in.ensures ∙ kept_behind (first_lock self.first number) (get nat_eq self.locked number) (sym c.first_kept.ensures ∙ c.in-None.is)
