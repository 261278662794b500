-- The iterator gives the calls in order.
use Rattle.std.proofs.Common.{◌≡◌, ◌∙◌, ℕ, Option, None, Some, refl}
use Rattle.std.specs.Option.{option_map}
use Rattle.std.proofs.lemmas.Iterator.Consumers.{nth_from_yields_List, YieldsList-from_first}
use Rattle.moka_sync.specs.CallsLeft.{calls_left}
use Rattle.moka_sync.proofs.call_list.CallList.get.Goals as goal

-- reading an item as it is changes nothing
same : (o : Option ℕ) → o ≡ option_map (λ x. x) o
same None = refl
same (Some x) = refl

pub returns : goal.returns
returns c =
    same c.nth.result ∙ nth_from_yields_List c.nth.result c.nth.new.self c.args.index c.nth.ensures.ran (YieldsList-from_first (λ x. x) calls_left c.args.self.now c.iter.ensures)
