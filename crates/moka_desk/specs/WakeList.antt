-- The wake list of the desk, and how visits change it.
use Rattle.std.specs.Prelude.{◌≡◌, ℕ, Bool, false, ◌||◌, List}
use Rattle.std.specs.declared.cmp.PartialEq as PartialEq
use Rattle.std.specs.declared.hash.Hash as Hash
use Rattle.std.specs.declared.hash.Hasher as Hasher
use Rattle.std.specs.declared.hash.BuildHasher as BuildHasher
use Rattle.moka_hist.specs.declared.events.Told.{Told}
use Rattle.moka_hist.specs.declared.events.Told.TheVariants as answer
use Rattle.moka_hist.specs.declared.visits.Claim.{Claim}
use Rattle.moka_hist.specs.declared.visits.Claim.TheVariants as claim
use Rattle.moka_desk.specs.ListedMiss.{EachListed}
use Rattle.moka_desk.specs.Waits.{turn_line, settlement_line, lock_line, notice_line, answer_line, kept_line}
use Rattle.moka_desk.specs.Woken.{is_out, is_told, all_but, and_calls}
use Rattle.moka_desk.specs.declared.state.Desk.{Desk}

-- The wake list: the calls that were handed out and have since neither come back to the visit that
-- they waited at nor left, by what they waited for.
pub record WakeList : Type 0 where
  pub turns : ℕ → Bool
  pub settlements : ℕ → Bool
  pub answers : ℕ → Bool
  pub locks : ℕ → Bool
  pub notices : ℕ → Bool

-- the call is on it, whatever it waited for
abbrev pub is_on : WakeList → ℕ → Bool
is_on l call =
    (l.turns call || l.settlements call || l.locks call || l.notices call) || l.answers call

-- the same calls are on both, for the same things
pub record HaveSame (l m : WakeList) : Type 0 where
  pub turns : (call : ℕ) → l.turns call ≡ m.turns call
  pub settlements : (call : ℕ) → l.settlements call ≡ m.settlements call
  pub answers : (call : ℕ) → l.answers call ≡ m.answers call
  pub locks : (call : ℕ) → l.locks call ≡ m.locks call
  pub notices : (call : ℕ) → l.notices call ≡ m.notices call

-- the list once those that waited for the call's load and for its lock were handed out, and it left
abbrev pub after_leaving : ℕ → List ℕ → List ℕ → WakeList → WakeList
after_leaving call load lock l = record {
  turns = all_but call l.turns;
  settlements = all_but call (and_calls load l.settlements);
  answers = all_but call l.answers;
  locks = all_but call (and_calls lock l.locks);
  notices = all_but call l.notices;
}

-- a change of the calls that waited for things of one kind
abbrev pub Change : Type 0
Change = (ℕ → Bool) → ℕ → Bool

module _ {K V E S H : Type 0} {same : PartialEq.Ghosts K} {hash : Hash.Ghosts K}
    {build : BuildHasher.Ghosts S H} {hasher : Hasher.Ghosts H} where
  -- the wake list of the desk
  abbrev pub wake_list : Desk K V E S H same hash build hasher → WakeList
  wake_list desk = record {
    turns = is_out desk.waits.turns;
    settlements = is_out desk.waits.settlements;
    answers = is_told desk.asks;
    locks = is_out desk.waits.locks;
    notices = is_out desk.waits.notices;
  }

  -- nobody who is listed is on it, for things of the same kind
  pub record ListedAreUnwoken (desk : Desk K V E S H same hash build hasher) : Type 0 where
    pub turns : EachListed (turn_line desk) (λ n c. is_out desk.waits.turns c ≡ false)
    pub settlements : EachListed (settlement_line desk)
        (λ n c. is_out desk.waits.settlements c ≡ false)
    pub answers : EachListed (answer_line desk) (λ n c. is_told desk.asks c ≡ false)
    pub locks : EachListed (lock_line desk) (λ n c. is_out desk.waits.locks c ≡ false)
    pub notices : EachListed (notice_line desk) (λ n c. is_out desk.waits.notices c ≡ false)

  -- the wake list changes so
  abbrev pub Wake : Desk K V E S H same hash build hasher → (WakeList → WakeList) →
      Desk K V E S H same hash build hasher → Type 0
  Wake old change new = HaveSame (wake_list new) (change (wake_list old))

  -- nobody comes to it, and nobody leaves it
  abbrev pub NobodyWakes : Desk K V E S H same hash build hasher →
      Desk K V E S H same hash build hasher → Type 0
  NobodyWakes old new = Wake old (λ l. l) new

  -- those on it that waited for things of one kind change so, and no others
  abbrev pub TurnsWake : Desk K V E S H same hash build hasher → Change →
      Desk K V E S H same hash build hasher → Type 0
  TurnsWake old change new = Wake old (λ l. record l { turns = change l.turns }) new

  abbrev pub SettlementsWake : Desk K V E S H same hash build hasher → Change →
      Desk K V E S H same hash build hasher → Type 0
  SettlementsWake old change new =
      Wake old (λ l. record l { settlements = change l.settlements }) new

  -- a call that owns leaves it for nothing; one that waits is not woken any more for what it waited
  -- for before
  abbrev pub ClaimWakes : Desk K V E S H same hash build hasher → ℕ → Claim →
      Desk K V E S H same hash build hasher → Type 0
  ClaimWakes old call claim.Owner new = NobodyWakes old new
  ClaimWakes old call (claim.Waits owner) new = SettlementsWake old (all_but call) new

  abbrev pub AnswersWake : Desk K V E S H same hash build hasher → Change →
      Desk K V E S H same hash build hasher → Type 0
  AnswersWake old change new = Wake old (λ l. record l { answers = change l.answers }) new

  abbrev pub LocksWake : Desk K V E S H same hash build hasher → Change →
      Desk K V E S H same hash build hasher → Type 0
  LocksWake old change new = Wake old (λ l. record l { locks = change l.locks }) new

  abbrev pub NoticesWake : Desk K V E S H same hash build hasher → Change →
      Desk K V E S H same hash build hasher → Type 0
  NoticesWake old change new = Wake old (λ l. record l { notices = change l.notices }) new

  -- those that waited for the end of this notice come to it, and those that waited for the lock
  -- which it kept
  abbrev pub EndedWake : Desk K V E S H same hash build hasher → ℕ →
      Desk K V E S H same hash build hasher → Type 0
  EndedWake old number new =
      Wake old
      (λ l. record l {
        locks = and_calls (kept_line old number) l.locks;
        notices = and_calls (notice_line old number) l.notices;
      })
      new

  -- these calls, that waited for such an answer to the ask of this number, come to it
  abbrev pub ToldWake : Desk K V E S H same hash build hasher → ℕ → Told V E → List ℕ →
      Desk K V E S H same hash build hasher → Type 0
  ToldWake old number (answer.Value value) calls new = AnswersWake old (and_calls calls) new
  ToldWake old number answer.Nothing calls new = AnswersWake old (and_calls calls) new
  ToldWake old number (answer.Err error) calls new = AnswersWake old (and_calls calls) new
  ToldWake old number (answer.Op op) calls new = AnswersWake old (and_calls calls) new
  ToldWake old number answer.Done calls new = EndedWake old number new
  ToldWake old number answer.Off calls new = EndedWake old number new
