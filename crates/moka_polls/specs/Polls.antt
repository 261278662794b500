-- One whole poll, in a cache without a listener: the states that the laws speak of, and what a poll
-- leaves.
use Rattle.std.specs.Prelude.{◌≡◌, ℕ, Bool, false, cond, List, [], Option, Some, None}
use Rattle.std.specs.Option.{option_map, option_and_then}
use Rattle.moka_hist.specs.Finite.{put_at}
use Rattle.moka_hist.specs.Plan.{Item, is_disabled}
use Rattle.moka_hist.specs.State.{Call, DeskPart, State, TablePart}
use Rattle.moka_hist.specs.Visits.{is_seen}
use Rattle.moka_hist.specs.Tables.{written}
use Rattle.moka_hist.specs.Run.{fresh_call}
use Rattle.moka_hist.specs.declared.records.Mode.TheVariants as mode
use Rattle.moka_hist.specs.declared.rules.Rules.{Rules}
use Rattle.moka_hist.specs.declared.events.Start.{Start}
use Rattle.moka_hist.specs.declared.replies.Reply.{Reply}

-- no listener is set, and the capacity isn't 0
pub record IsPlain (rules : Rules) : Type 0 where
  pub unheard : rules.listener ≡ false
  pub stores : is_disabled rules ≡ false

-- the cache is plain, nobody has the maintenance turn, and no write is owed
pub record IsQuiet {K V E : Type 0} (w : DeskPart K V E) : Type 0 where
  pub plain : IsPlain w.rules
  pub free : w.turn ≡ None
  pub owes : w.owed ≡ []

module _ {K V E : Type 0} where
  -- the call as it is started so
  abbrev pub begun_in : State K V E → Start K V → Call K V E
  begun_in s start = fresh_call s.world.table.division.parts s.world.desk.rules start

  -- the call of this number was started so, and hasn't been polled yet
  abbrev pub IsBegun : State K V E → ℕ → Start K V → Type 0
  IsBegun s n start = s.calls n ≡ Some (begun_in s start)

  -- the live call c of this number has this still to do
  pub record HasToDo (s : State K V E) (n : ℕ) (c : Call K V E) (todo : List (Item K V E))
      : Type 0 where
    pub live : s.calls n ≡ Some c
    pub plan : c.plan ≡ todo

  -- the call as it waits, or waits to be told, with this still to do
  abbrev pub parked : Call K V E → List (Item K V E) → Call K V E
  parked c todo = record c { mode = mode.Parked; plan = todo }

  -- the value that is stored under a key
  abbrev pub value_at : State K V E → K → Option V
  value_at s key = option_map (λ p. p.1.value) (s.world.table.stored key)

  -- the value that is stored under a key, where a call with this replace test, if any, sees it: where
  -- that doesn't hold on it and the record is visible by the clock
  abbrev pub seen_in : TablePart K V → DeskPart K V E → Option ℕ → K → Option V
  seen_in t w replace key =
      option_and_then (λ p. cond (is_seen w replace p.0 p.1) (Some p.1.value) None) (t.stored key)

  -- the table once the call of this number has stored the value under the key: its number is the
  -- record's stamp, and the clock the moment
  abbrev pub stored_now : (K → K → Bool) → State K V E → ℕ → K → V → TablePart K V
  stored_now eq s n key value = written eq n s.world.table key
      (record { value = value; stamp = n; modified = s.world.desk.clock })

  -- The desk but for writes on their way and for when records were last accessed: what calls hold,
  -- the log, what was applied, and how many of those stand.
  abbrev pub without_writes : DeskPart K V E → DeskPart K V E
  without_writes w =
      record w {
        accessed = λ _. None;
        holding = λ _. None;
        log = [];
        applied = [];
        published = 0;
      }

  -- The poll of a call gives this reply and leaves this of the call, if anything. No other call
  -- changes. The table is then this one, and the desk that one but for writes on their way and for
  -- when records were last accessed.
  pub record PollGives (s : State K V E) (n : ℕ) (reply : Reply K V E) (left : Option (Call K V E))
      (table : TablePart K V) (desk : DeskPart K V E) (r : Reply K V E) (new : State K V E)
      : Type 0 where
    pub replies : r ≡ reply
    pub leaves : new.calls ≡ put_at s.calls n left
    pub stores : new.world.table ≡ table
    pub keeps : without_writes new.world.desk ≡ without_writes desk
