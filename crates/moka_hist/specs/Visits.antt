-- The visits of the desk: what each finds, and what it changes.
use Rattle.std.specs.Prelude.{ℕ, zero, suc, ◌+◌, ◌-◌, ◌==◌, nat_lt, nat_le, max, Bool, true, false, not, cond, ◌&&◌, ◌||◌, List, [], ◌∷◌, ◌++◌, length, take, drop, filter, map, Option, Some, None, is_some, unwrap_or, Result, Ok, Err}
use Rattle.std.specs.Option.{option_map, option_map_or, option_and_then, option_or}
use Rattle.std.specs.List.{list_any, count_by}
use Rattle.moka_hist.specs.Finite.{put_at, put_key, load_eq}
use Rattle.moka_hist.specs.State.{DeskPart}
use Rattle.moka_hist.specs.Causes.{upsert_cause, remove_cause, chosen_holds}
use Rattle.moka_hist.specs.Visible.{is_visible}
use Rattle.moka_hist.specs.declared.loads.Load.{Load}
use Rattle.moka_hist.specs.declared.loads.Kind.TheVariants as kind
use Rattle.moka_hist.specs.declared.notices.Notice.{Notice}
use Rattle.moka_hist.specs.declared.notices.NoticeState.{NoticeState}
use Rattle.moka_hist.specs.declared.notices.NoticeState.TheVariants as notice
use Rattle.moka_hist.specs.declared.predicates.PredicateError.{PredicateError}
use Rattle.moka_hist.specs.declared.predicates.PredicateError.TheVariants as refused
use Rattle.moka_hist.specs.declared.predicates.Registered.{Registered}
use Rattle.moka_hist.specs.declared.records.Stored.{Stored}
use Rattle.moka_hist.specs.declared.rules.Cause.{Cause}
use Rattle.moka_hist.specs.declared.rules.Times.{Times}
use Rattle.moka_hist.specs.declared.writes.Owed.{Owed}
use Rattle.moka_hist.specs.declared.writes.Holding.{Holding}
use Rattle.moka_hist.specs.declared.writes.Holding.TheVariants as holding
use Rattle.moka_hist.specs.declared.writes.Write.{Write}
use Rattle.moka_hist.specs.declared.writes.Write.TheVariants.{Upsert, Remove}
use Rattle.moka_hist.specs.declared.visits.Claim.{Claim}
use Rattle.moka_hist.specs.declared.visits.Claim.TheVariants as claim
use Rattle.moka_hist.specs.declared.visits.LockTaken.{LockTaken}
use Rattle.moka_hist.specs.declared.visits.LockTaken.TheVariants as taken
use Rattle.moka_hist.specs.declared.visits.Settled.{Settled}
use Rattle.moka_hist.specs.declared.visits.Settled.TheVariants as settled
use Rattle.moka_hist.specs.declared.visits.Takes.{Takes}
use Rattle.moka_hist.specs.declared.visits.Visit.{Visit}
use Rattle.moka_hist.specs.declared.visits.Visit.TheVariants as visit
use Rattle.moka_hist.specs.declared.visits.Found.{Found}
use Rattle.moka_hist.specs.declared.visits.Found.TheVariants as found

-- the number of the call that made the write, and the stamp of the record that it replaced
abbrev pub number_of : Write → ℕ
number_of (Upsert number old) = number
number_of (Remove number old) = number

abbrev pub old_of : Write → Option ℕ
old_of (Upsert number old) = old
old_of (Remove number old) = Some old

-- the write made a record
abbrev pub is_upsert : Write → Bool
is_upsert (Upsert number old) = true
is_upsert (Remove number old) = false

-- some of the writes replaced or removed the record of this stamp
abbrev pub is_replaced : List Write → ℕ → Bool
is_replaced writes stamp =
    list_any (λ w. option_map_or (λ old. old == stamp) (old_of w) false) writes

-- how many of the writes made records that none of them replaced or removed
abbrev pub standing : List Write → ℕ
standing writes = count_by (λ w. is_upsert w && not (is_replaced writes (number_of w))) writes

-- the oldest of the owed writes
abbrev pub first_of : List Owed → Option Owed
first_of [] = None
first_of (x ∷ xs) = Some x

-- the moment that is pending with what a call holds
abbrev pub moment_of : Holding → Option ℕ
moment_of (holding.Own pending) = pending
moment_of (holding.TookUp write) = None

-- what the call holds once its write is decided: no moment is pending with it any more
abbrev pub without_moment : Holding → Holding
without_moment (holding.Own pending) = holding.Own None
without_moment (holding.TookUp write) = holding.TookUp write

-- what the call holds once its lock is freed: no moment is pending, and nothing where nothing was
-- written
abbrev pub once_freed : Option Holding → Bool → Option Holding
once_freed held true = option_map without_moment held
once_freed held false = None

-- what is held once the call has taken this write up, if any
abbrev pub holding_with : (ℕ → Option Holding) → ℕ → Option Write → ℕ → Option Holding
holding_with held call None = held
holding_with held call (Some write) = put_at held call (Some (holding.TookUp write))

-- a notice in this state runs: the listener was asked, and has not answered
abbrev pub runs : NoticeState → Bool
runs notice.Waiting = false
runs notice.Running = true
runs notice.Ended = false
runs notice.Skipped = false

-- a predicate is registered under the id
abbrev pub is_registered : List Registered → ℕ → Bool
is_registered registered id = list_any (λ r. r.id == id) registered

-- the number of the first of so many ids, from this number on, under which nothing is registered
abbrev pub free_id : List Registered → (ℕ → ℕ) → ℕ → ℕ → Option ℕ
free_id registered ids number zero = None
free_id registered ids number (suc left) =
    cond (is_registered registered (ids number))
    (free_id registered ids (suc number) left)
    (Some number)

-- a registered predicate by its id and moment, and whether it goes by these
abbrev pub named_of : Registered → ℕ × ℕ
named_of r = (r.id, r.moment)

abbrev pub is_named : ℕ × ℕ → Registered → Bool
is_named named r = r.id == named.0 && r.moment == named.1

-- how a load with this owner stands for a call that comes
abbrev pub claim_of : Option ℕ → Claim
claim_of None = claim.Owner
claim_of (Some owner) = claim.Waits owner

module _ {K V E : Type 0} where
  -- when the record of this stamp, written at the moment, was last accessed: the later of that
  -- moment and the one that is kept
  abbrev pub accessed_at : DeskPart K V E → ℕ → ℕ → ℕ
  accessed_at w stamp modified = max modified (unwrap_or (w.accessed stamp) modified)

  -- nobody has the turn, or this call has it
  abbrev pub is_free_for : DeskPart K V E → ℕ → Bool
  is_free_for w call = option_map_or (λ holder. holder == call) w.turn true

  -- the moment that the call has taken for a write that it hasn't committed yet
  abbrev pub pending_of : DeskPart K V E → ℕ → Option ℕ
  pending_of w call = option_and_then moment_of (w.holding call)

  -- the key's lock is held under no other number than this call's
  abbrev pub is_unlocked_for : DeskPart K V E → ℕ → K → Bool
  is_unlocked_for w call key = option_map_or (λ holder. holder == call) (w.locks key) true

  -- the key whose lock is held under the number: by its live call, or by its running notice
  abbrev pub key_under : DeskPart K V E → ℕ → Option K
  key_under w number = option_or (w.locked number) (w.kept number)

  -- the notice of this number keeps a lock, since its call was dropped
  abbrev pub is_keeping : DeskPart K V E → ℕ → Bool
  is_keeping w number = is_some (w.kept number)

  -- the notice that keeps the key's lock, if one does
  abbrev pub keeper : DeskPart K V E → K → Option ℕ
  keeper w key =
      option_and_then (λ holder. cond (is_keeping w holder) (Some holder) None) (w.locks key)

  -- how the call finds a lock that is held under this number
  abbrev pub taken_under : DeskPart K V E → ℕ → ℕ → LockTaken
  taken_under w call holder =
      cond (holder == call) taken.Taken (cond (is_keeping w holder) (taken.Kept holder) taken.Held)

  -- how the call finds the key's lock: it takes one that is free
  abbrev pub lock_taken : DeskPart K V E → ℕ → K → LockTaken
  lock_taken w call key = option_map_or (taken_under w call) (w.locks key) taken.Taken

  -- the call has taken a moment at or before this one, for a write that isn't decided yet
  abbrev pub is_pending_by : DeskPart K V E → ℕ → ℕ → Bool
  is_pending_by w moment call =
      option_map_or (λ taken. nat_le taken moment) (pending_of w call) false

  -- so has some call up to this number
  abbrev pub some_pending_by : DeskPart K V E → ℕ → ℕ → Bool
  some_pending_by w moment zero = is_pending_by w moment 0
  some_pending_by w moment (suc call) =
      is_pending_by w moment (suc call) || some_pending_by w moment call

  -- the keys that are locked but for that whose lock is held under this number
  abbrev pub locks_without : DeskPart K V E → ℕ → K → Option ℕ
  locks_without w call key =
      cond (option_map_or (λ h. h == call) (w.locks key) false) None (w.locks key)

  -- the notice of this number runs
  abbrev pub is_running : DeskPart K V E → ℕ → Bool
  is_running w number = option_map_or (λ x. runs x.state) (w.notices number) false

  -- the call's replace test, if it has one, holds on the record
  abbrev pub is_replaced_by : DeskPart K V E → Option ℕ → K → V → Bool
  is_replaced_by w replace key value = option_map_or (λ test. w.tests test key value) replace false

  -- the times of a record of this stamp, last written at the moment
  abbrev pub times_at : DeskPart K V E → ℕ → ℕ → Times
  times_at w stamp modified =
      record {
        clock = w.clock;
        valid_after = w.valid_after;
        modified = modified;
        accessed = accessed_at w stamp modified;
      }

  -- the predicate holds on the record, which was not written later than it was registered
  abbrev pub does_hit : DeskPart K V E → K → Stored V → Registered → Bool
  does_hit w key stored r =
      nat_le stored.modified r.moment && w.predicates r.test key stored.value

  -- some registered predicate hits the record
  abbrev pub is_hit : DeskPart K V E → K → Stored V → Bool
  is_hit w key stored = list_any (does_hit w key stored) w.registered

  -- a call with this replace test, if any, sees the record: the test doesn't hold, and the record is
  -- visible by the clock
  abbrev pub is_seen : DeskPart K V E → Option ℕ → K → Stored V → Bool
  is_seen w replace key stored =
      not (is_replaced_by w replace key stored.value)
      && is_visible w.rules (times_at w stored.stamp stored.modified) (is_hit w key stored)

  -- why a record leaves: for the cause handed in, or else since a write took its place or a call
  -- removed it
  abbrev pub cause_of : DeskPart K V E → ℕ → ℕ → Option Cause → Bool → Cause
  cause_of w stamp modified (Some cause) upsert = cause
  cause_of w stamp modified None true = upsert_cause w.rules (times_at w stamp modified)
  cause_of w stamp modified None false = remove_cause w.rules (times_at w stamp modified)

  -- the log takes another write
  abbrev pub has_room : DeskPart K V E → Bool
  has_room w = nat_lt (length w.log) w.size

  -- how the owner ended that the call waits for
  abbrev pub settlement_for : DeskPart K V E → ℕ → Option (Settled V E)
  settlement_for w call = option_and_then w.settled (w.joined call)

  -- the call waits for this owner
  abbrev pub is_reader_of : DeskPart K V E → ℕ → ℕ → Bool
  is_reader_of w call owner = option_map_or (λ o. o == owner) (w.joined call) false

  -- how many wait for each owner once the call has left
  abbrev pub readers_without : DeskPart K V E → ℕ → ℕ → ℕ
  readers_without w call owner =
      cond (is_reader_of w call owner) (w.readers owner - 1) (w.readers owner)

  -- what is kept of each owner once the call has left: nothing where it was the last to read it
  abbrev pub settled_without : DeskPart K V E → ℕ → ℕ → Option (Settled V E)
  settled_without w call owner =
      cond (is_reader_of w call owner && w.readers owner == 1) None (w.settled owner)

  -- the owners but for this call
  abbrev pub owners_without : DeskPart K V E → ℕ → Load K → Option ℕ
  owners_without w call load =
      cond (option_map_or (λ o. o == call) (w.owners load) false) None (w.owners load)

  -- what is kept once the call has ended so: nothing where it owns nothing, or nobody waits for it
  abbrev pub settled_with : DeskPart K V E → ℕ → Settled V E → (ℕ → Option (Settled V E)) → ℕ →
      Option (Settled V E)
  settled_with w call with kept owner =
      cond (is_some (w.owning call) && nat_lt 0 (w.readers call) && call == owner) (Some with)
      (kept owner)

  -- ---- what each visit changes

  abbrev pub took_owed : DeskPart K V E → ℕ → DeskPart K V E
  took_owed w call = record w {
    holding = holding_with w.holding call (option_map (λ o. o.write) (first_of w.owed));
    owed = drop 1 w.owed;
  }

  abbrev pub stamped : DeskPart K V E → ℕ → DeskPart K V E
  stamped w call =
      record w { holding = put_at w.holding call (Some (holding.Own (Some w.clock))) }

  -- the write is decided, and its moment pending no more
  abbrev pub decided : DeskPart K V E → ℕ → DeskPart K V E
  decided w call =
      record w { holding = put_at w.holding call (option_map without_moment (w.holding call)) }

  -- a record that is seen was accessed now
  abbrev pub judged : DeskPart K V E → ℕ → ℕ → Bool → DeskPart K V E
  judged w stamp modified seen = record w {
    accessed =
        cond seen (put_at w.accessed stamp (Some (max (accessed_at w stamp modified) w.clock)))
        w.accessed;
  }

  -- where the log has room the call holds the write no longer. The visit that posts is the first
  -- after the write, so the pending moment ends too
  abbrev pub posted : DeskPart K V E → ℕ → Write → DeskPart K V E
  posted w call write = record w {
    holding = put_at w.holding call
        (cond (has_room w) None (option_map without_moment (w.holding call)));
    log = cond (has_room w) (w.log ++ write ∷ []) w.log;
  }

  abbrev pub locked_by : (K → K → Bool) → DeskPart K V E → ℕ → K → Bool → DeskPart K V E
  locked_by eq w call key false = w
  locked_by eq w call key true = record w {
    locks = put_key eq w.locks key (Some call);
    locked = put_at w.locked call (Some key);
  }

  -- the places of a write that the call doesn't need are given back
  abbrev pub gave_back : DeskPart K V E → ℕ → DeskPart K V E
  gave_back w call = record w { holding = put_at w.holding call None }

  -- The visit is the first after the change where no notice was opened: the pending moment ends,
  -- and where nothing was written the places of a write are given back.
  abbrev pub once_decided : DeskPart K V E → ℕ → Bool → DeskPart K V E
  once_decided w call wrote =
      record w { holding = put_at w.holding call (once_freed (w.holding call) wrote) }

  abbrev pub unlocked : DeskPart K V E → ℕ → Bool → DeskPart K V E
  unlocked w call wrote =
      record (once_decided w call wrote) {
        locks = locks_without w call;
        locked = put_at w.locked call None;
      }

  -- a notice of this number was opened, in this state
  abbrev pub with_notice : DeskPart K V E → ℕ → Notice K V → DeskPart K V E
  with_notice w call told =
      record w { notices = put_at w.notices call (Some told); opened = w.opened ++ call ∷ [] }

  -- The notice is opened, or skipped where the listener is off. The visit is the first after the
  -- write, so the pending moment ends.
  abbrev pub opened_notice : DeskPart K V E → ℕ → K → V → Cause → DeskPart K V E
  opened_notice w call key value cause =
      with_notice (decided w call) call (record {
        number = call;
        key = key;
        value = value;
        cause = cause;
        state = cond w.off notice.Skipped notice.Running;
      })

  abbrev pub took_turn : DeskPart K V E → ℕ → DeskPart K V E
  took_turn w call = record w { turn = cond (is_free_for w call) (Some call) w.turn }

  abbrev pub applied_one : DeskPart K V E → DeskPart K V E
  applied_one w = record w { log = drop 1 w.log; applied = w.applied ++ take 1 w.log }

  abbrev pub ended_turn : DeskPart K V E → DeskPart K V E
  ended_turn w = record w { turn = None; published = standing w.applied }

  -- what was written before the clock is hidden
  abbrev pub invalidated_all : DeskPart K V E → DeskPart K V E
  invalidated_all w = record w { valid_after = Some w.clock }

  -- the number of the first of the next 1000 ids under which nothing is registered
  abbrev pub next_free : DeskPart K V E → Option ℕ
  next_free w = free_id w.registered w.ids w.drawn 1000

  -- what a call gets that registers a predicate, where the cache has closures and this is the number
  -- of the first free id, if there is one
  abbrev pub registering_by : DeskPart K V E → Bool → Option ℕ → Result ℕ PredicateError
  registering_by w false free = Err refused.InvalidationClosuresDisabled
  registering_by w true None = Err refused.NoId
  registering_by w true (Some number) = Ok (w.ids number)

  abbrev pub registering : DeskPart K V E → Result ℕ PredicateError
  registering w = registering_by w w.rules.closures (next_free w)

  -- the predicate of this number is registered now, under that id; without closures none is, and no
  -- id is drawn
  abbrev pub registered_by : DeskPart K V E → ℕ → Bool → Option ℕ → List Registered
  registered_by w test false free = w.registered
  registered_by w test true None = w.registered
  registered_by w test true (Some number) =
      w.registered ++ record { id = w.ids number; test = test; moment = w.clock } ∷ []

  abbrev pub drawn_by : DeskPart K V E → Bool → Option ℕ → ℕ
  drawn_by w false free = w.drawn
  drawn_by w true None = w.drawn + 1000
  drawn_by w true (Some number) = suc number

  abbrev pub registered_with : DeskPart K V E → ℕ → DeskPart K V E
  registered_with w test = record w {
    registered = registered_by w test w.rules.closures (next_free w);
    drawn = drawn_by w w.rules.closures (next_free w);
  }

  -- the predicate may leave once it hides no record: its moment is past, and no write is to come
  -- that it would hide
  abbrev pub is_candidate : DeskPart K V E → Registered → Bool
  is_candidate w r = nat_lt r.moment w.clock && not (some_pending_by w r.moment w.last)

  -- the predicates that may leave, by id and moment, oldest first
  abbrev pub candidates : DeskPart K V E → List (ℕ × ℕ)
  candidates w = map named_of (filter (is_candidate w) w.registered)

  -- the predicate that is registered under this id since this moment hides the record
  abbrev pub does_strike : DeskPart K V E → K → Stored V → ℕ × ℕ → Bool
  does_strike w key stored named =
      list_any (λ r. is_named named r && does_hit w key stored r) w.registered

  -- those of these predicates that don't
  abbrev pub struck : DeskPart K V E → List (ℕ × ℕ) → K → Stored V → List (ℕ × ℕ)
  struck w ids key stored = filter (λ named. not (does_strike w key stored named)) ids

  -- these predicates leave; one that was registered anew under such an id stays
  abbrev pub retired : DeskPart K V E → List (ℕ × ℕ) → DeskPart K V E
  retired w ids = record w {
    registered = filter (λ r. not (list_any (λ named. is_named named r) ids)) w.registered;
  }

  -- the call owns the load where nobody does, and else waits for its owner
  abbrev pub claimed : (K → K → Bool) → DeskPart K V E → ℕ → Load K → Option ℕ → DeskPart K V E
  claimed eq w call load None = record w {
    owners = put_key (load_eq eq) w.owners load (Some call);
    owning = put_at w.owning call (Some load);
  }
  claimed eq w call load (Some owner) = record w {
    joined = put_at w.joined call (Some owner);
    readers = put_at w.readers owner (w.readers owner + 1);
  }

  -- the call owns the load where nobody does, and else nothing changes
  abbrev pub claimed_alone : (K → K → Bool) → DeskPart K V E → ℕ → Load K → Option ℕ →
      DeskPart K V E
  claimed_alone eq w call load None = claimed eq w call load None
  claimed_alone eq w call load (Some owner) = w

  -- the settlement was read, if there is one
  abbrev pub read : DeskPart K V E → ℕ → DeskPart K V E
  read w call = cond (is_some (settlement_for w call))
      (record w {
        joined = put_at w.joined call None;
        readers = readers_without w call;
        settled = settled_without w call;
      })
      w

  abbrev pub settled_as : DeskPart K V E → ℕ → Settled V E → DeskPart K V E
  settled_as w call with = record w {
    owners = owners_without w call;
    owning = put_at w.owning call None;
    settled = settled_with w call with w.settled;
  }

  abbrev pub opened : DeskPart K V E → ℕ → Takes → DeskPart K V E
  opened w call takes =
      record w { asks = put_at w.asks call (Some takes); told = put_at w.told call None }

  abbrev pub took_told : DeskPart K V E → ℕ → DeskPart K V E
  took_told w call = record w { told = put_at w.told call None }

  -- ---- a visit of a call, as it makes it

  -- what it finds
  abbrev pub finds : DeskPart K V E → Visit K V E → Found V E
  finds w (visit.Clock call) = found.Clock w.clock
  finds w (visit.TakeOwed call) = found.TakeOwed (first_of w.owed)
  finds w (visit.NoticeEnded call number) = found.NoticeEnded (not (is_running w number))
  finds w (visit.LockKey call key) = found.LockKey (lock_taken w call key)
  finds w (visit.UnlockKey call wrote) = found.UnlockKey
  finds w (visit.OpenNotice call key value stamp modified cause upsert) =
      found.OpenNotice (cond w.off None (Some (cause_of w stamp modified cause upsert)))
  finds w (visit.StampMoment call) = found.StampMoment w.clock
  finds w (visit.Judge replace key stored) = found.Judge (is_seen w replace key stored)
  finds w (visit.Scan key stored) = found.Scan (is_seen w None key stored)
  finds w (visit.Holds key stored cause) =
      found.Holds
      (chosen_holds w.rules (times_at w stored.stamp stored.modified) (is_hit w key stored) cause)
  finds w (visit.WaitOrOwn call key kind) =
      found.WaitOrOwn (claim_of (w.owners (record { key = key; kind = kind })))
  finds w (visit.OwnAlone call key) =
      found.OwnAlone (is_some (w.owners (record { key = key; kind = kind.Compute })))
  finds w (visit.ReadSettled call) =
      found.ReadSettled (unwrap_or (settlement_for w call) settled.NotYet)
  finds w (visit.Settle call with) = found.Settle
  finds w (visit.OpenAsk call takes) = found.OpenAsk
  finds w (visit.TakeTold call) = found.TakeTold (w.told call)
  finds w (visit.PostWrite call write) = found.PostWrite (has_room w)
  finds w (visit.TakeTurn call) = found.TakeTurn (is_free_for w call)
  finds w (visit.ApplyOne call) = found.ApplyOne (nat_lt 0 (length w.log))
  finds w (visit.EndTurn call) = found.EndTurn
  finds w visit.InvalidateAll = found.InvalidateAll
  finds w (visit.Register test) = found.Register (registering w)
  finds w visit.Candidates = found.Candidates (candidates w)
  finds w (visit.Strike ids key stored) = found.Strike (struck w ids key stored)
  finds w (visit.Retire ids) = found.Retire

  -- what it changes
  abbrev pub makes : (K → K → Bool) → DeskPart K V E → Visit K V E → DeskPart K V E
  makes eq w (visit.Clock call) = gave_back w call
  makes eq w (visit.TakeOwed call) = took_owed w call
  makes eq w (visit.NoticeEnded call number) = w
  makes eq w (visit.LockKey call key) = locked_by eq w call key (is_unlocked_for w call key)
  makes eq w (visit.UnlockKey call wrote) = unlocked w call wrote
  makes eq w (visit.OpenNotice call key value stamp modified cause upsert) =
      opened_notice w call key value (cause_of w stamp modified cause upsert)
  makes eq w (visit.StampMoment call) = stamped w call
  makes eq w (visit.Judge replace key stored) =
      judged w stored.stamp stored.modified (is_seen w replace key stored)
  makes eq w (visit.Scan key stored) = w
  makes eq w (visit.Holds key stored cause) = w
  makes eq w (visit.WaitOrOwn call key kind) =
      let load : Load K =
      record { key = key; kind = kind } in claimed eq w call load (w.owners load)
  makes eq w (visit.OwnAlone call key) =
      let load : Load K =
      record { key = key; kind = kind.Compute } in claimed_alone eq w call load (w.owners load)
  makes eq w (visit.ReadSettled call) = read w call
  makes eq w (visit.Settle call with) = settled_as w call with
  makes eq w (visit.OpenAsk call takes) = opened w call takes
  makes eq w (visit.TakeTold call) = took_told w call
  makes eq w (visit.PostWrite call write) = posted w call write
  makes eq w (visit.TakeTurn call) = took_turn w call
  makes eq w (visit.ApplyOne call) = applied_one w
  makes eq w (visit.EndTurn call) = ended_turn w
  makes eq w visit.InvalidateAll = invalidated_all w
  makes eq w (visit.Register test) = registered_with w test
  makes eq w visit.Candidates = w
  makes eq w (visit.Strike ids key stored) = w
  makes eq w (visit.Retire ids) = retired w ids
