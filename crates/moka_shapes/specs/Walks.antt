-- Which calls give records, whatever worlds they meet.
use Rattle.std.specs.Prelude.{◌≢◌, ℕ, Bool, List}
use Rattle.moka_hist.specs.State.{Call}
use Rattle.moka_hist.specs.Step.{next_of}
use Rattle.moka_hist.specs.Run.{fresh_call}
use Rattle.moka_hist.specs.declared.accesses.Got.{Got}
use Rattle.moka_hist.specs.declared.accesses.Turn.TheVariants as turn
use Rattle.moka_hist.specs.declared.events.Start.{Start}
use Rattle.moka_hist.specs.declared.events.Start.TheVariants as start
use Rattle.moka_hist.specs.declared.rules.Rules.{Rules}
use Rattle.moka_laws.specs.Shapes.{MayBeGiven, MayLead}

-- a call that wasn't started to walk gives none
abbrev pub OthersGiveNone : (K V E : Type 0) → (K → K → Bool) → Type 0
OthersGiveNone K V E eq =
    (parts : ℕ) (rules : Rules) (begin : Start K V) (n : ℕ) (path : List (Got K V E))
    (d : Call K V E) (given : Got K V E) (key : K) (value : V) → begin ≢ start.Iter →
    MayLead eq n (fresh_call parts rules begin) path d → MayBeGiven eq n d given →
    (next_of n d given).turn ≢ turn.Item key value
