-- Writing a value, and taking a record out.
use Rattle.std.specs.Prelude.{ℕ, Bool, true, false, List, [], ◌∷◌, Option, Some, None}
use Rattle.moka_hist.specs.State.{Call}
use Rattle.moka_hist.specs.Plan.{Item, Change, Removal, end_load}
use Rattle.moka_hist.specs.Entries.{unchanged, removed_value}
use Rattle.moka_hist.specs.declared.visits.Settled.TheVariants as settled
use Rattle.moka_hist.specs.Plan as plan
use Rattle.moka_hist.specs.Next.{Next, goes, stays, waits}
use Rattle.moka_hist.specs.declared.records.Stored.{Stored}
use Rattle.moka_hist.specs.declared.replies.Answer.{Answer}
use Rattle.moka_hist.specs.declared.replies.Answer.TheVariants as answer
use Rattle.moka_hist.specs.declared.rules.Cause.{Cause}
use Rattle.moka_hist.specs.declared.writes.Write.TheVariants.{Upsert, Remove}
use Rattle.moka_hist.specs.declared.tables.TableAnswer.{TableAnswer}
use Rattle.moka_hist.specs.declared.tables.TableAnswer.TheVariants as table
use Rattle.moka_hist.specs.declared.tables.TableTurn.{TableTurn}
use Rattle.moka_hist.specs.declared.tables.TableTurn.TheVariants as turn
use Rattle.moka_hist.specs.declared.visits.Found.{Found}
use Rattle.moka_hist.specs.declared.visits.Found.TheVariants as found

-- the stamp that a removal asks for, and the cause that it hands in
abbrev pub stamp_asked : {K : Type 0} → Removal K → Option ℕ
stamp_asked plan.To_invalidate = None
stamp_asked plan.To_remove = None
stamp_asked (plan.To_evict_chosen stamp cause) = Some stamp
stamp_asked (plan.To_remove_as_told key) = None

abbrev pub cause_handed : {K : Type 0} → Removal K → Option Cause
cause_handed plan.To_invalidate = None
cause_handed plan.To_remove = None
cause_handed (plan.To_evict_chosen stamp cause) = Some cause
cause_handed (plan.To_remove_as_told key) = None

module _ {K V E : Type 0} where
  -- what a removal answers, with the value that it took out; and where it found nothing
  abbrev pub removed_answer : Removal K → V → Answer K V E
  removed_answer plan.To_invalidate value = answer.Done
  removed_answer plan.To_remove value = answer.Found (Some value)
  removed_answer (plan.To_evict_chosen stamp cause) value = answer.Evicted
  removed_answer (plan.To_remove_as_told key) value = removed_value key value

  abbrev pub nothing_answer : Removal K → Answer K V E
  nothing_answer plan.To_invalidate = answer.Done
  nothing_answer plan.To_remove = answer.Found None
  nothing_answer (plan.To_evict_chosen stamp cause) = answer.Kept
  nothing_answer (plan.To_remove_as_told key) = unchanged key None

  -- what is left of a removal: the answer, which a compute gives once those that wait know that it
  -- is over
  abbrev pub said : Removal K → Answer K V E → List (Item K V E)
  said plan.To_invalidate answer = plan.Reply answer ∷ []
  said plan.To_remove answer = plan.Reply answer ∷ []
  said (plan.To_evict_chosen stamp cause) answer = plan.Reply answer ∷ []
  said (plan.To_remove_as_told key) answer = end_load settled.Nothing answer

-- the stamp of the record that was replaced
abbrev pub old_stamp : {K V : Type 0} → TableAnswer K V → Option ℕ
old_stamp table.None = None
old_stamp (table.Some key stored) = Some stored.stamp
old_stamp (table.Keys keys) = None

module _ {K V E : Type 0} where
  -- what a moment was taken for
  abbrev pub changes : Change K V → ℕ → List (Item K V E) → List (Item K V E)
  changes (plan.To_store key value) moment rest = plan.Write key value moment ∷ rest
  changes (plan.To_take_out removal key) moment rest = plan.Out removal key ∷ rest

  abbrev pub after_moment : Call K V E → Change K V → List (Item K V E) → Found V E → Next K V E
  after_moment c change rest (found.StampMoment moment) = goes c (changes change moment rest)
  after_moment c change rest _ = waits c

  -- what comes between a write and its posting: nothing without a listener; with one it hears first
  -- of the record that was replaced, and the key's lock is freed
  abbrev pub once_told : Bool → K → TableAnswer K V → List (Item K V E) → List (Item K V E)
  once_told false key was rest = rest
  once_told true key table.None rest = plan.Unlock true ∷ rest
  once_told true key (table.Some there old) rest =
      plan.Notice key old None true ∷ plan.Unlock true ∷ rest
  once_told true key (table.Keys keys) rest = plan.Unlock true ∷ rest

  -- the write is committed, and to be posted
  abbrev pub after_write : ℕ → Call K V E → K → List (Item K V E) → TableTurn K V → Next K V E
  after_write n c key rest turn.Going = stays c
  after_write n c key rest (turn.Decided was) =
      goes c (once_told c.rules.listener key was (plan.Post (Upsert n (old_stamp was)) ∷ rest))

  -- nothing was found: the lock is freed; without a listener the clock is read
  abbrev pub nothing_rest : Bool → Removal K → List (Item K V E)
  nothing_rest true removal = plan.Unlock false ∷ said removal (nothing_answer removal)
  nothing_rest false removal = plan.Idle ∷ said removal (nothing_answer removal)

  -- the removal is committed: a listener hears of it, the lock is freed, and it is posted
  abbrev pub removed_rest : Bool → ℕ → Removal K → K → Stored V → List (Item K V E)
  removed_rest false n removal key old =
      plan.Post (Remove n old.stamp) ∷ said removal (removed_answer removal old.value)
  removed_rest true n removal key old =
      plan.Notice key old (cause_handed removal) false ∷ plan.Unlock true ∷
      plan.Post (Remove n old.stamp) ∷ said removal (removed_answer removal old.value)

  abbrev pub after_out : ℕ → Call K V E → Removal K → K → TableTurn K V → Next K V E
  after_out n c removal key turn.Going = stays c
  after_out n c removal key (turn.Decided table.None) =
      goes c (nothing_rest c.rules.listener removal)
  after_out n c removal key (turn.Decided (table.Some there old)) =
      goes c (removed_rest c.rules.listener n removal key old)
  after_out n c removal key (turn.Decided (table.Keys keys)) = waits c

  abbrev pub after_idle : Call K V E → List (Item K V E) → Found V E → Next K V E
  after_idle c rest (found.Clock moment) = goes c rest
  after_idle c rest _ = waits c
