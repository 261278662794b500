-- Nothing was applied at first, and then one write.
use Rattle.std.proofs.Common.{[], ◌∷◌, None, refl}
use Rattle.moka_hist.specs.declared.writes.Write.TheVariants.{Upsert}
use Rattle.moka_desk_cases.proofs.orders.may_be_stamped.Goals as goal

pub published_after-requires : goal.published_after-requires
published_after-requires c = ([], c.requires, refl)

pub published_after-requires-2 : goal.published_after-requires-2
published_after-requires-2 c = (Upsert 1 None ∷ [], c.in_ok-published_after.ensures [] c.requires refl, refl)
