-- What keeps the lock goes before what the plan awaits.
use Rattle.std.proofs.Common.{ℕ, Option, sym, ap, ◌∙◌}
use Rattle.std.specs.Option.{option_or}
use Rattle.moka_cache.specs.Hearing.{heard_by}
use Rattle.moka_cache.proofs.hearing.at_notice.Goals as goal

pub returns-in-Some : goal.returns-in-Some
returns-in-Some g c = ap (λ (o : Option ℕ). option_or o (heard_by c.args.flow.now)) (sym c.in-Some.is)

pub returns-in-None : goal.returns-in-None
returns-in-None g c = c.notice.ensures ∙ ap (λ (o : Option ℕ). option_or o (heard_by c.args.flow.now)) (sym c.in-None.is)
