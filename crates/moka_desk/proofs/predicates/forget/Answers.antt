use Rattle.std.proofs.Common.{refl, sym, ◌∙◌, nat_eq}
use Rattle.std.specs.HashMap.{get}
use Rattle.moka_desk.proofs.OwnIds.{none_taken_out, taken_out}
use Rattle.moka_desk.proofs.predicates.forget.Goals as goal

pub returns-then-is_since : goal.returns-then-is_since
returns-then-is_since c = taken_out (get nat_eq c.args.ids.now) (get nat_eq c.remove.new.self) c.args.id c.args.moment (sym c.is_since.ensures ∙ c.if-is_since.true) c.remove.ensures.updates.0

pub returns-else-is_since : goal.returns-else-is_since
returns-else-is_since c = none_taken_out (get nat_eq c.args.ids.now) (get nat_eq c.args.ids.now) c.args.id c.args.moment (sym c.is_since.ensures ∙ c.if-is_since.false) (λ n. refl)
