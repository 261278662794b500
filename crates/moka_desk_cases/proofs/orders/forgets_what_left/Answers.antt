-- One write was applied, before the next is.
use Rattle.std.proofs.Common.{[], ◌∷◌, None, refl}
use Rattle.moka_hist.specs.declared.writes.Write.TheVariants.{Upsert}
use Rattle.moka_desk_cases.proofs.orders.forgets_what_left.Goals as goal

pub published_after-requires-2 : goal.published_after-requires-2
published_after-requires-2 c = (Upsert 1 None ∷ [], c.in_ok-published_after.ensures [] c.requires refl, refl)
