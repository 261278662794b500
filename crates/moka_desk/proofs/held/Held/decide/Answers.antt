use Rattle.std.proofs.Common.{sym, ap, ◌∙◌}
use Rattle.std.specs.Prelude.{nat_eq}
use Rattle.std.specs.HashMap.{get}
use Rattle.moka_desk.specs.Held.{held_by, holds_number}
use Rattle.moka_desk.proofs.WhoHolds.{now_decided}
use Rattle.moka_desk.proofs.held.Held.decide.Goals as goal

pub invariant_of-self : goal.invariant_of-self
invariant_of-self c = record {
  agree = λ number n.
      let s = c.args.self.now in
      now_decided (get nat_eq s.holders) (held_by s.holdings) s.agree c.args.call number n
      ∙ sym (ap (holds_number n number) (c.decide.ensures.holds n));
}
