use Rattle.std.proofs.Common.{◌==◌, ◌+◌, cond, Some, IsSome, sym, ap, subst, ◌∙◌}
use Rattle.std.specs.Prelude.{nat_eq}
use Rattle.std.specs.HashMap.{get}
use Rattle.moka_hist.specs.Visits.{number_of}
use Rattle.moka_hist.specs.declared.writes.Holding.TheVariants as holding
use Rattle.moka_desk.specs.Held.{held_by, holds_number, is_holder, owed_at}
use Rattle.moka_desk.proofs.WhoHolds.{given, owed_by_nobody, owed_is, owed_less}
use Rattle.moka_desk.proofs.held.Held.take_up.Goals as goal

pub replace-requires : goal.replace-requires
replace-requires c =
    let s = c.args.self.now in
    subst (λ k. IsSome (get nat_eq s.holders k)) (sym c.number.ensures) (owed_is (get nat_eq s.holders (number_of c.args.write)) c.requires.owed)

pub invariant_of-self : goal.invariant_of-self
invariant_of-self c = record {
  agree = λ number n.
      let s = c.args.self.now in
      ap (λ o. is_holder o n) (c.replace.ensures.updates number ∙ ap (λ k. cond (k == number) (Some (Some c.args.call)) (get nat_eq s.holders number)) c.number.ensures)
      ∙ given (get nat_eq s.holders) (held_by s.holdings) s.agree c.args.call (holding.TookUp c.args.write) c.requires.free
      (owed_by_nobody (get nat_eq s.holders (number_of c.args.write)) c.requires.owed) number n
      ∙ sym (ap (holds_number n number) (c.put.ensures.holds n));
}

pub returns-clause-owed : goal.returns-clause-owed
returns-clause-owed c = λ n.
    let s = c.args.self.now in
    let number = number_of c.args.write in
    ap (λ o. owed_at o + cond (n == number) 1 0) (c.replace.ensures.updates n ∙ ap (λ k. cond (k == n) (Some (Some c.args.call)) (get nat_eq s.holders n)) c.number.ensures)
    ∙ owed_less (get nat_eq s.holders) number c.args.call c.requires.owed n
