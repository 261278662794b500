-- The calls that states begin.
use Rattle.moka_hist.specs.Run.{fresh_call}
use Rattle.moka_hist.specs.State.{Call}
use Rattle.moka_hist.specs.declared.events.Start.{Start}
use Rattle.moka_hist.specs.declared.rules.Rules.{Rules}

-- the fresh call, in a cache of these rules, of a state that starts so: its table has one part
abbrev pub called : {A K V E : Type 0} → Rules → (A → Start K V) → A → Call K V E
called rules start begin = fresh_call 1 rules (start begin)
