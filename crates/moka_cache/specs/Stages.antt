-- What a poll of a state does, by how far the state is.
use Rattle.std.specs.Prelude.{◌≡◌, ℕ, Bool, Option, Some, None}
use Rattle.moka_hist.specs.Next.{answers}
use Rattle.moka_hist.specs.Plan.{held_by}
use Rattle.moka_hist.specs.State.{Call}
use Rattle.moka_hist.specs.declared.replies.Answer.{Answer}
use Rattle.moka_hist.specs.declared.replies.Answer.TheVariants as answer
use Rattle.moka_hist.specs.declared.writes.Write.{Write}
use Rattle.moka_init.specs.FlowPlan.{IsOver, call_of}
use Rattle.moka_kept.specs.Facts.{Facts}
use Rattle.moka_kept.specs.Meets.{FlowMeets}
use Rattle.moka_kept.specs.Paths.{CameWith, EndedWith}
use Rattle.moka_kept.specs.Rests.{Rests}
use Rattle.moka_kept.specs.Taking.{Taken}
use Rattle.moka_cache.specs.Polls.{CameToAsk, Pends}
use Rattle.moka_cache.specs.declared.stage.Stage.{Stage}
use Rattle.moka_cache.specs.declared.stage.Stage.TheVariants as stage

-- the value that an answer tells, if it does
abbrev pub value_in : {K V E : Type 0} → Answer K V E → Option V
value_in answer.Done = None
value_in (answer.Found value) = value
value_in (answer.Loaded value fresh) = Some value
value_in answer.Nothing = None
value_in (answer.InitErr error) = None
value_in (answer.Computed done) = None
value_in (answer.ComputeErr error) = None
value_in answer.RetriesExhausted = None
value_in answer.Evicted = None
value_in answer.Kept = None
value_in answer.End = None
value_in (answer.Id id) = None
value_in answer.ClosuresDisabled = None
value_in answer.NoId = None

module _ {A K V E : Type 0} where
  -- the state may be polled: it has not answered
  abbrev pub MayPoll : Stage A K V E → Type 0
  MayPoll (stage.Fresh begin) = Unit {0}
  MayPoll (stage.Running flow) = Rests flow
  MayPoll stage.Spent = Unit {0}
  MayPoll stage.Answered = ⊥

  -- nothing is left of its call, if that has a number
  abbrev pub MayEnd : Stage A K V E → Type 0
  MayEnd (stage.Running flow) = IsOver flow
  MayEnd _ = Unit {0}

  -- the number of its call, where that has one and has not answered
  abbrev pub number_in : Stage A K V E → Option ℕ
  number_in (stage.Running flow) = Some flow.call
  number_in _ = None

  -- the write that its call holds there, if that holds one
  abbrev pub held_in : Stage A K V E → Option (Option Write)
  held_in (stage.Running flow) = Some (held_by (call_of flow).plan)
  held_in _ = None

  -- it has no number yet, and what it begins with is so; a state with a number is not such
  abbrev pub BeginsWith : Stage A K V E → (A → Type 0) → Type 0
  BeginsWith (stage.Fresh begin) holds = holds begin
  BeginsWith _ holds = ⊥

  -- the key of the entry that the state answers, if the call's own answer has none: kept once its
  -- call was begun, and before as it begins
  abbrev pub name_in : (A → Option K) → Stage A K V E → Option K → Option K
  name_in names (stage.Fresh begin) kept = names begin
  name_in names _ kept = kept

  -- it stays that key, unless no number was left
  abbrev pub IsNamed : (A → Option K) → Stage A K V E → Option K → Stage A K V E → Option K → Type 0
  IsNamed names old before stage.Spent after = Unit {0}
  IsNamed names old before new after = name_in names new after ≡ name_in names old before

  -- A poll that answers nothing brought the state so far, whose call is to begin with this start:
  -- it took no number yet, or none was left; or its call came by accesses to where it is, from
  -- where it was or from its fresh flow. Each answer of who is asked that it took is such.
  abbrev pub CameOnWith : Facts K V → (Taken V E → Type 0) → (A → Call K V E) → Stage A K V E
      → Stage A K V E → Type 0
  CameOnWith f such begins (stage.Fresh begin) (stage.Fresh kept) = kept ≡ begin
  CameOnWith f such begins (stage.Fresh begin) stage.Spent = Unit {0}
  CameOnWith f such begins stage.Spent stage.Spent = Unit {0}
  CameOnWith f such begins (stage.Fresh begin) (stage.Running new) =
      CameWith f such new.call (begins begin) (call_of new)
  CameOnWith f such begins (stage.Running old) (stage.Running new) =
      (new.call ≡ old.call) × CameWith f such old.call (call_of old) (call_of new)
  CameOnWith f such begins _ _ = ⊥

  -- the poll's answer follows from the last of its accesses
  abbrev pub AnswersWith : Facts K V → (Taken V E → Type 0) → (A → Call K V E) → Stage A K V E
      → Answer K V E → Type 0
  AnswersWith f such begins (stage.Fresh begin) answer =
      (n : ℕ) × EndedWith f such n (begins begin) (answers answer)
  AnswersWith f such begins (stage.Running old) answer =
      EndedWith f such old.call (call_of old) (answers answer)
  AnswersWith f such begins stage.Spent answer = ⊥
  AnswersWith f such begins stage.Answered answer = ⊥

  -- why a poll of the state is pending: only one whose call has a number can be
  abbrev pub StagePends : {Q : Type 0} → (K → K → Bool) → (Q → Q → Type 0) → (ℕ → Type 0) → Q
      → Stage A K V E → Type 0
  StagePends eq pends unheard asked (stage.Running flow) = Pends eq pends unheard asked flow
  StagePends eq pends unheard asked _ = ⊥

  -- the state's call came, from where it was, to where who is asked is to be asked; it
  -- has a number then
  abbrev pub StageAsks : Facts K V → (Taken V E → Type 0) → Stage A K V E → Type 0
  StageAsks f such (stage.Running flow) = CameToAsk f such flow
  StageAsks f such _ = ⊥

  -- what the state's call stores and tells from here on is so, where it has a number
  abbrev pub RunsSo : Facts K V → Option K → (Taken V E → Type 0) → Stage A K V E → Type 0
  RunsSo f own such (stage.Running flow) = FlowMeets f own such flow
  RunsSo f own such _ = Unit {0}
