-- Who waits at the desk, and for what.
use Rattle.std.specs.Prelude.{◌≡◌, ℕ, ◌+◌, ◌==◌, Bool, true, not, cond, ◌&&◌, List, [], ◌++◌, Option, Some, is_some, nat_eq, IsNone, IsSome}
use Rattle.std.specs.HashMap.{get}
use Rattle.std.specs.declared.cmp.PartialEq as PartialEq
use Rattle.std.specs.declared.hash.Hash as Hash
use Rattle.std.specs.declared.hash.Hasher as Hasher
use Rattle.std.specs.declared.hash.BuildHasher as BuildHasher
use Rattle.moka_hist.specs.Finite.{put_at}
use Rattle.moka_hist.specs.State.{DeskPart}
use Rattle.moka_hist.specs.declared.events.Told.{Told}
use Rattle.moka_hist.specs.declared.events.Told.TheVariants as answer
use Rattle.moka_hist.specs.declared.visits.Claim.{Claim}
use Rattle.moka_hist.specs.declared.visits.Claim.TheVariants as claim
use Rattle.moka_sync.specs.Waiting.{waits, without}
use Rattle.moka_desk.specs.Asks.{asker_at}
use Rattle.moka_desk.specs.Loads.{unsettled}
use Rattle.moka_desk.specs.Lines.{line_at, is_at, with_call}
use Rattle.moka_desk.specs.Locks.{is_kept, lock_under}
use Rattle.moka_desk.specs.declared.state.Desk.{Desk}

-- A list of those that wait, by the number that it has: nobody comes or goes; the call leaves each;
-- it waits on that of this place, if there is one, and on no other; and all of one leave.
abbrev pub stays : ℕ → List ℕ → List ℕ
stays n calls = calls

abbrev pub leaves : ℕ → ℕ → List ℕ → List ℕ
leaves call n calls = without call calls

abbrev pub waits_at : Option ℕ → ℕ → ℕ → List ℕ → List ℕ
waits_at place call n calls = cond (is_at place n) (with_call call calls) (without call calls)

abbrev pub comes : ℕ → ℕ → List ℕ → List ℕ
comes number n calls = cond (number == n) [] calls

-- and so if the thing has come
abbrev pub comes_if : Bool → ℕ → ℕ → List ℕ → List ℕ
comes_if come number n calls = cond (come && number == n) [] calls

module _ {K V E : Type 0} where
  -- the call, which waits for nobody, waits for this owner
  abbrev pub joined_to : DeskPart K V E → ℕ → ℕ → DeskPart K V E
  joined_to w call owner = record w {
    joined = put_at w.joined call (Some owner);
    readers = put_at w.readers owner (w.readers owner + 1);
  }

module _ {K V E S H : Type 0} {same : PartialEq.Ghosts K} {hash : Hash.Ghosts K}
    {build : BuildHasher.Ghosts S H} {hasher : Hasher.Ghosts H} where
  -- those that wait for the turn of this call, for how it settles, for its lock, for the end of its
  -- notice
  abbrev pub turn_line : Desk K V E S H same hash build hasher → ℕ → List ℕ
  turn_line desk number = line_at desk.waits.turns.lists number

  abbrev pub settlement_line : Desk K V E S H same hash build hasher → ℕ → List ℕ
  settlement_line desk number = line_at desk.waits.settlements.lists number

  abbrev pub lock_line : Desk K V E S H same hash build hasher → ℕ → List ℕ
  lock_line desk number = line_at desk.waits.locks.lists number

  abbrev pub notice_line : Desk K V E S H same hash build hasher → ℕ → List ℕ
  notice_line desk number = line_at desk.waits.notices.lists number

  -- the notice of this number runs; and it keeps a lock, since its call was dropped
  abbrev pub is_heard : Desk K V E S H same hash build hasher → ℕ → Bool
  is_heard desk number = is_some (get nat_eq desk.notices.running number)

  abbrev pub is_keeper : Desk K V E S H same hash build hasher → ℕ → Bool
  is_keeper desk number = is_kept (lock_under desk.locks number)

  -- those that wait for the lock of this call and are handed out as it leaves: all, unless its
  -- notice keeps that lock
  abbrev pub left_line : Desk K V E S H same hash build hasher → ℕ → List ℕ
  left_line desk call = cond (is_heard desk call) [] (lock_line desk call)

  -- those that wait for the lock which the notice of this number keeps, if it keeps one
  abbrev pub kept_line : Desk K V E S H same hash build hasher → ℕ → List ℕ
  kept_line desk number = cond (is_keeper desk number) (lock_line desk number) []

  -- those that a notice hands out as it ends
  abbrev pub ended_line : Desk K V E S H same hash build hasher → ℕ → List ℕ
  ended_line desk number = notice_line desk number ++ kept_line desk number

  -- the owner that the call waits for, where it has not settled
  abbrev pub awaited : Desk K V E S H same hash build hasher → ℕ → Option ℕ
  awaited desk call =
      unsettled (get nat_eq desk.loads.joined call) (λ owner. get nat_eq desk.loads.settled owner)

  -- Each call that waits for an owner which has not settled is on its list, from its joining on;
  -- and the owner has its load still, so that it will settle it, or leave.
  abbrev pub WaitersAreListed : Desk K V E S H same hash build hasher → DeskPart K V E → Type 0
  WaitersAreListed desk w =
      (call owner : ℕ) → w.joined call ≡ Some owner → IsNone (w.settled owner) →
      IsSome (w.owning owner) × (waits call (settlement_line desk owner) ≡ true)

  -- the call, where it waits for the answer to its own ask
  abbrev pub answer_line : Desk K V E S H same hash build hasher → ℕ → List ℕ
  answer_line desk number = asker_at desk.asks.open_asks number

  -- those that wait for such an answer to the ask of this number
  abbrev pub told_line : Desk K V E S H same hash build hasher → ℕ → Told V E → List ℕ
  told_line desk number (answer.Value value) = answer_line desk number
  told_line desk number answer.Nothing = answer_line desk number
  told_line desk number (answer.Err error) = answer_line desk number
  told_line desk number (answer.Op op) = answer_line desk number
  told_line desk number answer.Done = ended_line desk number
  told_line desk number answer.Off = ended_line desk number

  -- nobody comes to wait, and nobody leaves a list
  abbrev pub NobodyMoves : Desk K V E S H same hash build hasher →
      Desk K V E S H same hash build hasher → Type 0
  NobodyMoves old new = (new.waits ≡ old.waits) × (new.asks ≡ old.asks)

  -- the lists of one kind change so, and no other
  abbrev pub TurnsMove : Desk K V E S H same hash build hasher → (ℕ → List ℕ → List ℕ) →
      Desk K V E S H same hash build hasher → Type 0
  TurnsMove old change new =
      ((n : ℕ) → turn_line new n ≡ change n (turn_line old n)) ×
      (new.waits ≡ record old.waits { turns = new.waits.turns }) × (new.asks ≡ old.asks)

  abbrev pub SettlementsMove : Desk K V E S H same hash build hasher → (ℕ → List ℕ → List ℕ) →
      Desk K V E S H same hash build hasher → Type 0
  SettlementsMove old change new =
      ((n : ℕ) → settlement_line new n ≡ change n (settlement_line old n)) ×
      (new.waits ≡ record old.waits { settlements = new.waits.settlements }) × (new.asks ≡ old.asks)

  -- a call that owns comes to no list; one that waits comes to that of its owner, and is on no other
  abbrev pub ClaimMoves : Desk K V E S H same hash build hasher → ℕ → Claim →
      Desk K V E S H same hash build hasher → Type 0
  ClaimMoves old call claim.Owner new = NobodyMoves old new
  ClaimMoves old call (claim.Waits owner) new =
      SettlementsMove old (waits_at (Some owner) call) new

  abbrev pub LocksMove : Desk K V E S H same hash build hasher → (ℕ → List ℕ → List ℕ) →
      Desk K V E S H same hash build hasher → Type 0
  LocksMove old change new =
      ((n : ℕ) → lock_line new n ≡ change n (lock_line old n)) ×
      (new.waits ≡ record old.waits { locks = new.waits.locks }) × (new.asks ≡ old.asks)

  abbrev pub NoticesMove : Desk K V E S H same hash build hasher → (ℕ → List ℕ → List ℕ) →
      Desk K V E S H same hash build hasher → Type 0
  NoticesMove old change new =
      ((n : ℕ) → notice_line new n ≡ change n (notice_line old n)) ×
      (new.waits ≡ record old.waits { notices = new.waits.notices }) × (new.asks ≡ old.asks)

  abbrev pub AnswersMove : Desk K V E S H same hash build hasher → (ℕ → List ℕ → List ℕ) →
      Desk K V E S H same hash build hasher → Type 0
  AnswersMove old change new =
      ((n : ℕ) → answer_line new n ≡ change n (answer_line old n)) × (new.waits ≡ old.waits)

  -- those that waited for the end of the notice leave its list, and those that waited for the lock
  -- which it kept the list of that; no other list changes
  pub record EndedMove (old : Desk K V E S H same hash build hasher) (number : ℕ)
      (new : Desk K V E S H same hash build hasher)
      : Type 0 where
    pub notices : (n : ℕ) → notice_line new n ≡ comes number n (notice_line old n)
    pub locks : (n : ℕ) →
        lock_line new n ≡ comes_if (is_keeper old number) number n (lock_line old n)
    pub others : new.waits
        ≡ record old.waits { locks = new.waits.locks; notices = new.waits.notices }
    pub asks : new.asks ≡ old.asks

  -- The call leaves: it is taken off each list, and the lists of its load, of its lock and of the
  -- answer to its ask are empty then; that of its lock only where its notice doesn't keep it. On the
  -- other lists every other call stays.
  pub record LeftMove (old : Desk K V E S H same hash build hasher) (call : ℕ)
      (new : Desk K V E S H same hash build hasher)
      : Type 0 where
    pub turns : (n : ℕ) → turn_line new n ≡ without call (turn_line old n)
    pub settlements : (n : ℕ) →
        settlement_line new n ≡ comes call n (without call (settlement_line old n))
    pub locks : (n : ℕ) →
        lock_line new n ≡ comes_if (not (is_heard old call)) call n (without call (lock_line old n))
    pub notices : (n : ℕ) → notice_line new n ≡ without call (notice_line old n)
    pub answers : (n : ℕ) → answer_line new n ≡ comes call n (answer_line old n)

  -- all that wait for such an answer to the ask of this number leave its list, and no other list
  -- changes
  abbrev pub ToldMove : Desk K V E S H same hash build hasher → ℕ → Told V E →
      Desk K V E S H same hash build hasher → Type 0
  ToldMove old number (answer.Value value) new = AnswersMove old (comes number) new
  ToldMove old number answer.Nothing new = AnswersMove old (comes number) new
  ToldMove old number (answer.Err error) new = AnswersMove old (comes number) new
  ToldMove old number (answer.Op op) new = AnswersMove old (comes number) new
  ToldMove old number answer.Done new = EndedMove old number new
  ToldMove old number answer.Off new = EndedMove old number new
