-- The change that a step asks for.
use Rattle.std.specs.Prelude.{ℕ, Bool}
use Rattle.std.specs.Option.{option_copied}
use Rattle.moka_parts.specs.declared.change.Change.{Change}
use Rattle.moka_parts.specs.declared.asked.Asked.{Asked}
use Rattle.moka_parts.specs.declared.asked.Ticketed.{Ticketed}
use Rattle.moka_parts.specs.Changes.{change_of}
use Rattle.moka_parts.specs.Pairs.{pair_at}

-- the change that lies behind these references, with the ticket spent on it, and the next one
abbrev pub asked_change : {K V S H : Type 0} → (K → K → Bool) → ℕ → ℕ → Asked K V S H → Change K V
asked_change eq spent next a =
    change_of spent next a.key.now (option_copied a.put) (pair_at eq a.map.now a.key.now)

-- the same, with the tickets that lie behind these references
abbrev pub ticketed_change : {K V S H : Type 0} → (K → K → Bool) → Ticketed K V S H → Change K V
ticketed_change eq t = asked_change eq t.ticket.now.nib.key t.next.now.nib.key t.asked.now
