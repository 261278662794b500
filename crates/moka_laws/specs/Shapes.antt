-- What a call answers, whatever worlds it meets: no run need lead to them.
use Rattle.std.specs.Prelude.{◌≡◌, ℕ, Bool, true, List, [], ◌∷◌, Some}
use Rattle.moka_hist.specs.State.{Call, World}
use Rattle.moka_hist.specs.Step.{Gets, access_of, next_of}
use Rattle.moka_hist.specs.Run.{fresh_call}
use Rattle.moka_hist.specs.declared.accesses.Got.{Got}
use Rattle.moka_hist.specs.declared.accesses.Turn.TheVariants as turn
use Rattle.moka_hist.specs.declared.events.Start.{Start}
use Rattle.moka_hist.specs.declared.replies.Answer.{Answer}
use Rattle.moka_hist.specs.declared.rules.Rules.{Rules}
use Rattle.moka_laws.specs.Starts.{asks_nobody, may_answer}

-- some world may give the call of this number this for its next access
pub record MayBeGiven {K V E : Type 0} (eq : K → K → Bool) (n : ℕ) (c : Call K V E) (given : Got K V E)
    : Type 0 where
  pub world : World K V E
  pub after : World K V E
  pub gets : Gets eq n world (access_of n c) given after

-- worlds may give the call these for its accesses, which lead it from c to d
abbrev pub MayLead : {K V E : Type 0} → (K → K → Bool) → ℕ → Call K V E → List (Got K V E) →
    Call K V E → Type 0
MayLead eq n c [] d = d ≡ c
MayLead {K} {V} {E} eq n c (given ∷ more) d =
    (mid : Call K V E) × MayBeGiven eq n c given × ((next_of n c given).left ≡ Some mid)
    × MayLead eq n mid more d

-- from here on the call answers as one that was started for this may, whatever it is given
abbrev pub Fits : {K V E : Type 0} → (K → K → Bool) → ℕ → Start K V → Call K V E → Type 0
Fits {K} {V} {E} eq n begin c =
    (path : List (Got K V E)) (d : Call K V E) (given : Got K V E) (a : Answer K V E) →
    MayLead eq n c path d → MayBeGiven eq n d given → (next_of n d given).turn ≡ turn.Answer a →
    may_answer begin a ≡ true

-- so does a fresh call that asks nobody
abbrev pub ShapesFit : (K V E : Type 0) → (K → K → Bool) → Type 0
ShapesFit K V E eq =
    (parts : ℕ) (rules : Rules) (begin : Start K V) (n : ℕ) → asks_nobody begin ≡ true →
    Fits {E = E} eq n begin (fresh_call parts rules begin)
