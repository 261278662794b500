-- The earliest one of those so far.
use Rattle.std.proofs.Common.{◌≡◌, ◌||◌, ℕ, nat_le, false}
use Rattle.std.specs.HashMap.{keys}
use Rattle.std.specs.List.{list_any}
use Rattle.std.specs.Option.{option_map_or}
use Rattle.moka_desk.specs.Held.{pends_up_to}
use Rattle.moka_desk.proofs.holdings.Holdings.earliest_mapped.Given as goal

abbrev pub invariant-loop-call : goal.invariant-loop-call
invariant-loop-call l = (moment : ℕ) →
    (option_map_or (λ taken. nat_le taken moment) l.earliest false || list_any (pends_up_to l.self l.last moment) l.call-iterator)
    ≡ list_any (pends_up_to l.self l.last moment) (keys l.self.by_call)
