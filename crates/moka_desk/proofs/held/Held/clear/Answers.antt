use Rattle.std.proofs.Common.{◌≤◌, ◌+◌, Bool, cond, None, refl, sym, ap, subst, ◌∙◌}
use Rattle.std.specs.Prelude.{nat_eq}
use Rattle.std.specs.HashMap.{get}
use Rattle.moka_desk.specs.Held.{held_by, held_count, holds_number, is_holder, owed_at}
use Rattle.moka_desk.proofs.WhoHolds.{has_place, holds_some, owed_same, taken}
use Rattle.moka_desk.proofs.held.Held.clear.Goals as goal

pub invariant_of-self : goal.invariant_of-self
invariant_of-self c = record {
  agree = λ number n.
      let s = c.args.self.now in
      ap (λ o. is_holder o n) (c.remove.ensures.updates.0 number)
      ∙ taken (get nat_eq s.holders) (held_by s.holdings) s.agree c.args.call c.args.number c.requires None (λ m. refl) number n
      ∙ sym (ap (holds_number n number) (c.remove-2.ensures.holds n));
}

pub returns-clause-owed : goal.returns-clause-owed
returns-clause-owed c = λ n.
    let s = c.args.self.now in
    ap owed_at (c.remove.ensures.updates.0 n)
    ∙ owed_same (get nat_eq s.holders) c.args.number c.args.call (has_place (get nat_eq s.holders) (held_by s.holdings) s.agree c.args.call c.args.number c.requires) n

pub returns-clause-count : goal.returns-clause-count
returns-clause-count c =
    let s = c.args.self.now in
    let is = holds_some c.args.call c.args.number (held_by s.holdings c.args.call) c.requires in
    subst (λ (b : Bool). held_count c.remove-2.new.self + cond b 1 0 ≤ held_count s.holdings) is c.remove-2.ensures.count
