-- What a compute answers, whatever worlds it meets, by what it was told.
use Rattle.std.specs.Prelude.{◌≡◌, ◌⊎◌, ℕ, Bool, true, List, [], ◌∷◌, ◌++◌, Option, Some, None, Contains}
use Rattle.moka_hist.specs.State.{Call}
use Rattle.moka_hist.specs.Entries.{put_answer, removed_value, unchanged}
use Rattle.moka_hist.specs.Step.{next_of}
use Rattle.moka_hist.specs.Run.{fresh_call}
use Rattle.moka_hist.specs.declared.accesses.Got.{Got}
use Rattle.moka_hist.specs.declared.accesses.Got.TheVariants as got
use Rattle.moka_hist.specs.declared.accesses.Turn.TheVariants as turn
use Rattle.moka_hist.specs.declared.events.Op.TheVariants as op
use Rattle.moka_hist.specs.declared.events.Start.{Start}
use Rattle.moka_hist.specs.declared.events.Told.{Told}
use Rattle.moka_hist.specs.declared.events.Told.TheVariants as told
use Rattle.moka_hist.specs.declared.replies.Answer.{Answer}
use Rattle.moka_hist.specs.declared.replies.Answer.TheVariants as answer
use Rattle.moka_hist.specs.declared.rules.Rules.{Rules}
use Rattle.moka_hist.specs.declared.visits.Found.TheVariants as found
use Rattle.moka_laws.specs.Starts.{computed_key, is_alone}
use Rattle.moka_laws.specs.Shapes.{MayBeGiven, MayLead}

module _ {K V E : Type 0} where
  -- what an access gave by which a call takes this as the answer to its own ask
  abbrev pub taken : Told V E → Got K V E
  taken told = got.Desk (found.TakeTold (Some told))

  -- what an access gave by which a call that computes alone finds that another compute of the key
  -- goes
  abbrev pub other_goes : Got K V E
  other_goes = got.Desk (found.OwnAlone true)

  -- A compute of the key that was told this answers so, where its look found the pair, or nothing.
  -- What it is told to take out may be gone by then.
  abbrev pub Follows : K → Told V E → Answer K V E → Type 0
  Follows key (told.Value value) said = (pair : Option (K × V)) × (said ≡ put_answer key pair value)
  Follows key (told.Op (op.Put value)) said =
      (pair : Option (K × V)) × (said ≡ put_answer key pair value)
  Follows key (told.Op op.Nop) said = (pair : Option (K × V)) × (said ≡ unchanged key pair)
  Follows key (told.Op op.Remove) said =
      ((value : V) × (said ≡ removed_value key value)) ⊎ (said ≡ unchanged key None)
  Follows key (told.Err error) said = said ≡ answer.ComputeErr error
  Follows key told.Nothing said = ⊥
  Follows key told.Done said = ⊥
  Follows key told.Off said = ⊥

  -- It answers what follows from what one of its accesses told it. One that asks nothing where
  -- another goes may answer what the key has, where one of its accesses found that another goes.
  abbrev pub ComputeAnswers : Start K V → K → List (Got K V E) → Answer K V E → Type 0
  ComputeAnswers begin key path said =
      ((given : Told V E) × Contains path (taken given) × Follows key given said)
      ⊎ ((is_alone begin ≡ true) × Contains path other_goes
      × ((pair : Option (K × V)) × (said ≡ unchanged key pair)))

-- so does each compute, from its fresh call on
abbrev pub ComputesTell : (K V E : Type 0) → (K → K → Bool) → Type 0
ComputesTell K V E eq =
    (parts : ℕ) (rules : Rules) (begin : Start K V) (key : K) (n : ℕ) (path : List (Got K V E))
    (d : Call K V E) (given : Got K V E) (said : Answer K V E) → computed_key begin ≡ Some key →
    MayLead eq n (fresh_call parts rules begin) path d → MayBeGiven eq n d given →
    (next_of n d given).turn ≡ turn.Answer said → ComputeAnswers begin key (path ++ given ∷ []) said
