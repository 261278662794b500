-- Nothing is stored or unsent.
use Rattle.std.proofs.Common.{None, refl}
use Rattle.moka_behind.proofs.Behinds.{begun, holds_empty}
use Rattle.moka_behind.proofs.behind.Behind.new.Goals as goal

pub returns-clause-behind : goal.returns-clause-behind
returns-clause-behind c = λ kept.
    begun _ kept refl c.new-2.ensures (holds_empty c.in_ok-new.field-0 c.args.capacity c.in_ok-new.ensures.empty)

pub returns-clause-usable : goal.returns-clause-usable
returns-clause-usable c = λ unspent. (λ key. None, holds_empty c.in_ok-new.field-0 c.args.capacity c.in_ok-new.ensures.empty)
