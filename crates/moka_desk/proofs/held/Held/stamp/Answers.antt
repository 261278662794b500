use Rattle.std.proofs.Common.{Some, sym, ap, ◌∙◌}
use Rattle.std.specs.Prelude.{nat_eq}
use Rattle.std.specs.HashMap.{get}
use Rattle.moka_hist.specs.declared.writes.Holding.TheVariants as holding
use Rattle.moka_desk.specs.Held.{held_by, holds_number, is_holder, owed_at}
use Rattle.moka_desk.proofs.WhoHolds.{given, owed_as_given}
use Rattle.moka_desk.proofs.held.Held.stamp.Goals as goal

pub invariant_of-self : goal.invariant_of-self
invariant_of-self c = record {
  agree = λ number n.
      let s = c.args.self.now in
      ap (λ o. is_holder o n) (c.put.ensures.updates.0 number)
      ∙ given (get nat_eq s.holders) (held_by s.holdings) s.agree c.args.call (holding.Own (Some c.args.moment)) c.requires.free (λ m. ap (λ o. is_holder o m) c.requires.unused) number n
      ∙ sym (ap (holds_number n number) (c.put-2.ensures.holds n));
}

pub returns-clause-owed : goal.returns-clause-owed
returns-clause-owed c = λ n. ap owed_at (c.put.ensures.updates.0 n) ∙ owed_as_given (get nat_eq c.args.self.now.holders) c.args.call c.requires.unused n
