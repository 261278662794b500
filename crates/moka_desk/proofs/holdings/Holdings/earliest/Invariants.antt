-- The earliest one of those in the map, and of those so far.
use Rattle.std.proofs.Common.{◌≡◌, ◌||◌, ℕ, nat_le, false, take}
use Rattle.std.specs.HashMap.{keys}
use Rattle.std.specs.List.{list_any}
use Rattle.std.specs.Option.{option_map_or}
use Rattle.moka_desk.specs.Held.{pends_up_to}
use Rattle.moka_desk.proofs.holdings.Holdings.earliest.Given as goal

abbrev pub invariant-loop-held : goal.invariant-loop-held
invariant-loop-held l = (moment : ℕ) →
    option_map_or (λ taken. nat_le taken moment) l.earliest false
    ≡ (list_any (pends_up_to l.self l.last moment) (keys l.self.by_call) || list_any (λ v. pends_up_to l.self l.last moment v.0) (take l.held-index l.self.rest.items))
