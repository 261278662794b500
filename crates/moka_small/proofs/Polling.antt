-- What a whole poll comes to.
use Rattle.std.specs.List.{list_any}
use Rattle.std.proofs.Common.{◌≡◌, ℕ, ◌==◌, nat_lt, Bool, true, false, cond, ◌&&◌, ◌||◌, List, [], ◌∷◌, Option, Some, None, is_some, refl, sym, ap, ◌∙◌, subst}
use Rattle.std.specs.Cmp.{IsEquivalence}
use Rattle.std.specs.Option.{option_map, option_and_then, option_map_or}
use Rattle.std.proofs.lemmas.Bool.{false≢true}
use Rattle.moka_hist.specs.Finite.{put_at, put_key}
use Rattle.moka_hist.specs.SoundDesk.{SoundDesk}
use Rattle.moka_hist.specs.State.{Call, DeskPart, State, TablePart}
use Rattle.moka_hist.specs.Plan.{Item, is_disabled, seek}
use Rattle.moka_hist.specs.Plan as plan
use Rattle.moka_hist.specs.Step.{takes_of}
use Rattle.moka_hist.specs.Causes.{chosen_holds}
use Rattle.moka_hist.specs.Tables.{by_pair, removed}
use Rattle.moka_hist.specs.Visible.{is_invalid}
use Rattle.moka_hist.specs.Visits.{accessed_at, does_hit, is_hit, settlement_for, readers_without, settled_without, read, times_at}
use Rattle.moka_hist.specs.declared.visits.Settled.{Settled}
use Rattle.moka_hist.specs.Run.{Any, Happens, IsReached, fresh_call}
use Rattle.moka_hist.specs.declared.events.Event.TheVariants as event
use Rattle.moka_hist.specs.declared.events.Start.{Start}
use Rattle.moka_hist.specs.declared.events.Start.TheVariants as start
use Rattle.moka_hist.specs.declared.loads.Kind.{Kind}
use Rattle.moka_hist.specs.declared.loads.Kind.TheVariants as kind
use Rattle.moka_hist.specs.declared.loads.Load.{Load}
use Rattle.moka_hist.specs.declared.predicates.Registered.{Registered}
use Rattle.moka_hist.specs.declared.records.Stored.{Stored}
use Rattle.moka_hist.specs.declared.replies.Answer.{Answer}
use Rattle.moka_hist.specs.declared.replies.Answer.TheVariants as answer
use Rattle.moka_hist.specs.declared.replies.Ask.TheVariants as ask
use Rattle.moka_hist.specs.declared.replies.Reply.{Reply}
use Rattle.moka_hist.specs.declared.replies.Reply.TheVariants as reply
use Rattle.moka_hist.specs.declared.rules.Cause.{Cause}
use Rattle.moka_hist.specs.declared.rules.Cause.TheVariants.{Expired, Explicit, Replaced, Size}
use Rattle.moka_hist.specs.declared.rules.Rules.{Rules}
use Rattle.moka_polls.specs.Polls.{IsQuiet, IsBegun, HasToDo, PollGives, seen_in, value_at, stored_now, parked}
use Rattle.moka_polls.specs.Loads.{sought_by, asking, waiting as joining, ending, answer_to}
use Rattle.moka_polls.specs.Times.{HasNoTimes}
use Rattle.moka_polls.specs.Removals.{taken_out as table_without, has_to_leave as leaves}
use Rattle.moka_polls.proofs.Evicting.{evicts}
use Rattle.moka_polls.proofs.Getting.{gets}
use Rattle.moka_polls.proofs.Inserting.{inserts}
use Rattle.moka_polls.proofs.Lasting.{stored_seen}
use Rattle.moka_polls.proofs.Loading.{load_hits, load_asks, load_waits}
use Rattle.moka_polls.proofs.OrInserting.{or_insert_hits, or_insert_stores}
use Rattle.moka_polls.proofs.Removing.{invalidates, removes}
use Rattle.moka_polls.proofs.Resting.{calm_quiet, stays_calm}
use Rattle.moka_polls.proofs.Telling.{told_value, told_nothing, told_error, not_told}
use Rattle.moka_polls.proofs.Waiting.{waiter_answers, waiter_waits}
use Rattle.moka_small.specs.declared.outcome.Outcome.{Outcome}
use Rattle.moka_small.specs.declared.outcome.Outcome.TheVariants as outcome
use Rattle.moka_small.specs.Small.{End, With_value, With_nothing, With_error, Stand, Begun, Asks, Was_told, Waits, Small, load_at, owner_at, waits_for, waiting}
use Rattle.moka_small.specs.Polled.{polled, begins, loads, or_else, claims, reads, ends_so, ends_with, owner_of, value_under, gone, gone_storing, gone_taking, gone_waiter, gone_owner, has_to_leave, cause_holds, taken_out}
use Rattle.moka_small.specs.Laws.{PollIsPolled}
use Rattle.moka_laws.proofs.Reached.{event_reached}
use Rattle.moka_laws.proofs.SoundReached.{reached_sound}
use Rattle.moka_small.specs.Seen.{IsOrderly, Views, rules_of, reply_to, call_at, takes_at, told_at, settled_as, small_record}
use Rattle.moka_small.proofs.Places.{both_put_key}
use Rattle.moka_small.proofs.Owners.{owner_found, owner_open}
use Rattle.moka_small.proofs.Counted.{readers_are, kept_without}
use Rattle.moka_small.proofs.Happening.{plain_call}
use Rattle.moka_small.proofs.Orderly.{EndsBy, as_before, fewer, one_more, stays_orderly, none_begins}
use Rattle.moka_small.proofs.Viewing.{DeskIs, after, after_waiting, still_none, is_put, part_at}

module _ {K V E : Type 0} (eq : K → K → Bool) (s new : State K V E) (m : Small K V E) (n : ℕ) (r : Reply K V E)
    (reached : IsReached eq s) (sound : SoundDesk eq s.world.desk) (quiet : IsQuiet s.world.desk) (views : Views s m)
    (happens : Happens eq Any s (event.Poll n) r new) where
  -- the poll came to this
  abbrev Row : Outcome V E × Small K V E → Type 0
  Row row = (r ≡ reply_to row.0) × Views new row.1

  -- ---- what the parts have

  value_is : (key : K) → value_at s key ≡ value_under m key
  value_is key = by (s.world.table.stored key) ∙ ap (option_map (λ kept. kept.0)) (views.stored key)
    where
      by : (x : Option (K × Stored V)) → option_map (λ p. p.1.value) x ≡
          option_map (λ kept. kept.0) (option_map small_record x)
      by None = refl
      by (Some pair) = refl

  -- no record expires, and none was invalidated
  lasts : HasNoTimes s.world.desk
  lasts = record {
    live = ap (λ rules. rules.time_to_live) views.rules;
    idle = ap (λ rules. rules.time_to_idle) views.rules;
    valid = views.valid;
    unhit = views.unhit;
  }

  seen_is : (key : K) → seen_in s.world.table s.world.desk None key ≡ value_under m key
  seen_is key = stored_seen eq s key lasts ∙ value_is key

  module _ (stand : Stand K V E) (live : m.stands n ≡ Some stand) where
    call_is : s.calls n ≡ Some (call_at (rules_of m.capacity) stand)
    call_is = views.calls n ∙ ap (option_map (call_at (rules_of m.capacity))) live

    -- the desk of a call that is gone, which neither owned nor waited
    desk_gone : load_at stand ≡ None → owner_at stand ≡ None → takes_at stand ≡ None → told_at stand ≡ None →
        DeskIs s.world.desk s.world.desk (put_at m.stands n None) m.ends
    desk_gone a b c d = record {
      rules = refl;
      valid = refl;
      registered = refl;
      last = refl;
      owning = still_none m n stand live s.world.desk.owning load_at views.owning None a refl;
      joined = still_none m n stand live s.world.desk.joined owner_at views.joined None b refl;
      asks = still_none m n stand live s.world.desk.asks takes_at views.asks None c refl;
      told = still_none m n stand live s.world.desk.told told_at views.told None d refl;
      settled = views.settled;
    }

    -- no call begins anew
    orderly_gone : (stored : K → Option (V × ℕ)) (ends : ℕ → Option (End V E)) → EndsBy m views.orderly n None ends →
        IsOrderly (record { stored = stored; stands = put_at m.stands n None; ends = ends; last = m.last; capacity = m.capacity })
    orderly_gone stored ends by_ends =
        stays_orderly m views.orderly n stand live stored None (λ start e. none_begins start None refl e) ends by_ends

  -- ---- the first poll

  module _ (begin : Start K V) (live : m.stands n ≡ Some (Begun begin)) where
    begun : IsBegun s n begin
    begun = call_is (Begun begin) live ∙ ap (λ rules. Some (fresh_call 1 rules begin)) (sym views.rules) ∙
        sym (ap Some (plain_call s.world.table.division.parts s.world.desk.rules begin (views.orderly.begun n begin live)))

    -- the call is gone, and the table is this
    gone_with : (stored : K → Option (V × ℕ)) (table : TablePart K V) (reply : Reply K V E) →
        ((key : K) → option_map small_record (table.stored key) ≡ stored key) →
        PollGives s n reply None table s.world.desk r new →
        Views new (record { stored = stored; stands = put_at m.stands n None; ends = m.ends; last = m.last; capacity = m.capacity })
    gone_with stored table said is gives =
        after s new m n views stored None m.ends r said None table s.world.desk
        (desk_gone (Begun begin) live refl refl refl refl) refl is
        (orderly_gone (Begun begin) live stored m.ends (as_before m views.orderly n None)) gives

    -- it is gone, and the table stays
    gone_so : (reply : Reply K V E) → PollGives s n reply None s.world.table s.world.desk r new → Views new (gone m n)
    gone_so said gives = gone_with m.stored s.world.table said views.stored gives

    -- it has stored a value
    stored_so : (key : K) (value : V) (reply : Reply K V E) →
        PollGives s n reply None (stored_now eq s n key value) s.world.desk r new →
        Views new (gone_storing eq m n key value)
    stored_so key value said gives =
        gone_with (put_key eq m.stored key (Some (value, n))) (stored_now eq s n key value) said
        (both_put_key eq s.world.table.stored m.stored (option_map small_record) views.stored key
        (Some (key, record { value = value; stamp = n; modified = s.world.desk.clock })) (Some (value, n)) refl) gives

    -- it has taken out what was stored
    removed_is : (key q : K) → option_map small_record ((removed eq n s.world.table key).stored q) ≡
        put_key eq m.stored key None q
    removed_is key = both_put_key eq s.world.table.stored m.stored (option_map small_record) views.stored key None None refl

    without_is : (key q : K) → option_map small_record ((table_without eq s n key).stored q) ≡ taken_out eq m.stored key q
    without_is key q = by (s.world.table.stored key) ∙ ap (λ x. cond (is_some x) (put_key eq m.stored key None) m.stored q) (views.stored key)
      where
        by : (x : Option (K × Stored V)) →
            option_map small_record ((by_pair x (removed eq n s.world.table key) s.world.table).stored q) ≡
            cond (is_some (option_map small_record x)) (put_key eq m.stored key None) m.stored q
        by None = views.stored q
        by (Some pair) = removed_is key q

    taken_so : (key : K) (reply : Reply K V E) → PollGives s n reply None (table_without eq s n key) s.world.desk r new →
        Views new (gone_taking eq m n key)
    taken_so key said gives = gone_with (taken_out eq m.stored key) (table_without eq s n key) said (without_is key) gives

    -- it asks
    asks_so : (load : Load K) →
        PollGives s n (reply.Ask ask.Init) (Some (parked (fresh_call s.world.table.division.parts s.world.desk.rules begin) (plan.Told load ∷ [])))
        s.world.table (asking eq s.world.desk n load) r new → Row (claims m n load None)
    asks_so load gives = (
      gives.replies,
      after s new m n views m.stored (Some (Asks load)) m.ends r _ _ s.world.table _
          (record {
            rules = refl;
            valid = refl;
            registered = refl;
            last = refl;
            owning = is_put m n (Begun begin) live s.world.desk.owning load_at views.owning (Some load) (Some (Asks load)) refl;
            joined = still_none m n (Begun begin) live s.world.desk.joined owner_at views.joined (Some (Asks load)) refl refl;
            asks = is_put m n (Begun begin) live s.world.desk.asks takes_at views.asks (Some (takes_of load.kind)) (Some (Asks load)) refl;
            told = is_put m n (Begun begin) live s.world.desk.told told_at views.told None (Some (Asks load)) refl;
            settled = views.settled;
          })
          (ap (λ rules. Some (parked (fresh_call s.world.table.division.parts rules begin) (plan.Told load ∷ []))) views.rules) views.stored
          (stays_orderly m views.orderly n (Begun begin) live m.stored (Some (Asks load)) (λ start e. cc) m.ends (as_before m views.orderly n (Some (Asks load))))
          gives,
    )

    -- it waits
    waits_so : (load : Load K) (owner : ℕ) →
        PollGives s n reply.Wait
        (Some (parked (fresh_call s.world.table.division.parts s.world.desk.rules begin) (plan.Read (record { load = load; replace = None }) ∷ [])))
        s.world.table (joining eq s.world.desk n load owner) r new → Row (claims m n load (Some owner))
    waits_so load owner gives = (
      gives.replies,
      after s new m n views m.stored (Some (Waits owner load)) m.ends r _ _ s.world.table _
          (record {
            rules = refl;
            valid = refl;
            registered = refl;
            last = refl;
            owning = still_none m n (Begun begin) live s.world.desk.owning load_at views.owning (Some (Waits owner load)) refl refl;
            joined = is_put m n (Begun begin) live s.world.desk.joined owner_at views.joined (Some owner) (Some (Waits owner load)) refl;
            asks = still_none m n (Begun begin) live s.world.desk.asks takes_at views.asks (Some (Waits owner load)) refl refl;
            told = still_none m n (Begun begin) live s.world.desk.told told_at views.told (Some (Waits owner load)) refl refl;
            settled = views.settled;
          })
          (ap (λ rules. Some (parked (fresh_call s.world.table.division.parts rules begin) (plan.Read (record { load = load; replace = None }) ∷ []))) views.rules) views.stored
          (stays_orderly m views.orderly n (Begun begin) live m.stored (Some (Waits owner load)) (λ start e. cc) m.ends (as_before m views.orderly n (Some (Waits owner load))))
          gives,
    )

    -- a load
    loads_so : (kind : Kind) (key : K) → sought_by begin ≡ Some (seek kind key None) →
        Row (loads eq m n (record { key = key; kind = kind }))
    loads_so kind key seeks = by (value_under m key) refl
      where
        load : Load K
        load = record { key = key; kind = kind }

        found : seen_in s.world.table s.world.desk None key ≡ value_under m key
        found = seen_is key

        owner : (y : Option ℕ) → value_under m key ≡ None → owner_of eq m load ≡ y → Row (claims m n load y)
        owner None none e =
            asks_so load (load_asks eq s new n begin (seek kind key None) r quiet begun seeks (found ∙ none)
            (sym (owner_found eq s m views sound load) ∙ e) happens)
        owner (Some o) none e =
            let is : s.world.desk.owners load ≡ Some o = sym (owner_found eq s m views sound load) ∙ e in
            waits_so load o (load_waits eq s new n begin (seek kind key None) o r quiet begun seeks (found ∙ none)
            is (owner_open eq s m views sound load o is) happens)

        by : (x : Option V) → value_under m key ≡ x → Row (or_else m n x (claims m n load (owner_of eq m load)))
        by None e = owner (owner_of eq m load) e refl
        by (Some value) e =
            let gives = load_hits eq s new n begin (seek kind key None) value r quiet begun seeks (found ∙ e) happens in
            (gives.replies, gone_so _ gives)

  -- an `or_insert`
  or_inserts : (key : K) (value : V) → m.stands n ≡ Some (Begun (start.OrInsert key value)) →
      Row (begins eq m n (start.OrInsert key value))
  or_inserts key value live = by (value_under m key) refl
    where
      by : (x : Option V) → value_under m key ≡ x →
          Row (or_else m n x (outcome.Loaded value true, gone_storing eq m n key value))
      by None e =
          let gives = or_insert_stores eq s new n key value r quiet (begun _ live) (seen_is key ∙ e) happens in
          (gives.replies, stored_so _ live key value _ gives)
      by (Some there) e =
          let gives = or_insert_hits eq s new n key value there r quiet (begun _ live) (seen_is key ∙ e) happens in
          (gives.replies, gone_so _ live _ gives)

  -- an eviction
  leaves_is : (key : K) (stamp : ℕ) (cause : Cause) → leaves s key stamp cause ≡ has_to_leave m key stamp cause
  leaves_is key stamp cause =
      by (s.world.table.stored key) ∙
      ap (λ x. option_map_or (λ kept. kept.1 == stamp && cause_holds m.capacity cause) x false) (views.stored key)
    where
      hidden : K → Stored V → Option ℕ → List Registered → Bool
      hidden there found valid registered =
          (is_invalid found.modified valid ||
          is_invalid (accessed_at s.world.desk found.stamp found.modified) valid) || list_any (does_hit s.world.desk there found) registered

      holds : (rules : Rules) → rules ≡ rules_of m.capacity → (there : K) (found : Stored V) → (cause : Cause) →
          chosen_holds rules (times_at s.world.desk found.stamp found.modified) (is_hit s.world.desk there found) cause ≡ cause_holds m.capacity cause
      holds rules is there found Size = ap (λ these. is_some these.max_capacity) is
      holds rules is there found Explicit =
          ap (λ valid. hidden there found valid s.world.desk.registered) views.valid ∙ ap (hidden there found None) views.unhit
      holds rules is there found Expired =
          ap (λ these. chosen_holds these (times_at s.world.desk found.stamp found.modified) (is_hit s.world.desk there found) Expired) is
      holds rules is there found Replaced = refl

      by : (x : Option (K × Stored V)) →
          option_map_or (λ p. p.1.stamp == stamp && chosen_holds s.world.desk.rules (times_at s.world.desk p.1.stamp p.1.modified) (is_hit s.world.desk p.0 p.1) cause) x false ≡
          option_map_or (λ kept. kept.1 == stamp && cause_holds m.capacity cause) (option_map small_record x) false
      by None = refl
      by (Some pair) = ap (λ b. pair.1.stamp == stamp && b) (holds s.world.desk.rules views.rules pair.0 pair.1 cause)

  evicts_so : (key : K) (stamp : ℕ) (cause : Cause) → m.stands n ≡ Some (Begun (start.Evict key stamp cause)) →
      Row (begins eq m n (start.Evict key stamp cause))
  evicts_so key stamp cause live = by (has_to_leave m key stamp cause) (leaves_is key stamp cause)
      (evicts eq s new n key stamp cause r quiet (begun _ live) happens)
    where
      Gives : Bool → Type 0
      Gives b = PollGives s n (reply.Answer (cond b answer.Evicted answer.Kept)) None
          (cond b (removed eq n s.world.table key) s.world.table) s.world.desk r new

      by : (b : Bool) → leaves s key stamp cause ≡ b → Gives (leaves s key stamp cause) →
          Row (cond b (outcome.Evicted, record (gone m n) { stored = put_key eq m.stored key None }) (outcome.Kept, gone m n))
      by true e g =
          let gives : Gives true = subst Gives e g in
          (gives.replies, gone_with _ live _ _ _ (removed_is _ live key) gives)
      by false e g =
          let gives : Gives false = subst Gives e g in
          (gives.replies, gone_so _ live _ gives)

  -- the first poll of a call that was started so
  begins_so : (begin : Start K V) → m.stands n ≡ Some (Begun begin) → Row (begins eq m n begin)
  begins_so (start.Get key) live =
      let gives = gets eq s new n key r quiet (begun _ live) happens in
      (gives.replies ∙ ap (λ v. reply.Answer (answer.Found v)) (seen_is key), gone_so _ live _ gives)
  begins_so (start.Insert key value) live =
      let gives = inserts eq s new n key value r quiet (begun _ live) happens in
      (gives.replies, stored_so _ live key value _ gives)
  begins_so (start.GetWith key None) live = loads_so _ live kind.GetWith key refl
  begins_so (start.GetWith key (Some test)) live = absurd (false≢true (views.orderly.begun n _ live))
  begins_so (start.Optional key) live = loads_so _ live kind.Optional key refl
  begins_so (start.Try key) live = loads_so _ live kind.Try key refl
  begins_so (start.OrInsert key value) live = or_inserts key value live
  begins_so (start.Compute key) live = absurd (false≢true (views.orderly.begun n _ live))
  begins_so (start.TryCompute key) live = absurd (false≢true (views.orderly.begun n _ live))
  begins_so (start.ComputeAlone key) live = absurd (false≢true (views.orderly.begun n _ live))
  begins_so (start.Upsert key) live = absurd (false≢true (views.orderly.begun n _ live))
  begins_so (start.Invalidate key) live =
      let gives = invalidates eq s new n key r quiet (begun _ live) happens in
      (gives.replies, taken_so _ live key _ gives)
  begins_so (start.Remove key) live =
      let gives = removes eq s new n key r quiet (begun _ live) happens in
      (gives.replies ∙ ap (λ v. reply.Answer (answer.Found v)) (value_is key), taken_so _ live key _ gives)
  begins_so (start.Evict key stamp cause) live = evicts_so key stamp cause live
  begins_so start.InvalidateAll live = absurd (false≢true (views.orderly.begun n _ live))
  begins_so (start.InvalidateIf test) live = absurd (false≢true (views.orderly.begun n _ live))
  begins_so start.Iter live = absurd (false≢true (views.orderly.begun n _ live))
  begins_so start.Pending live = absurd (false≢true (views.orderly.begun n _ live))

  -- ---- later polls

  -- a call that has asked, and was told nothing
  asks_on : (load : Load K) → m.stands n ≡ Some (Asks load) → Row (outcome.Waits, m)
  asks_on load live =
      let c : Call K V E = call_at (rules_of m.capacity) (Asks load) in
      let gives = not_told eq s new n c load r (record { live = call_is _ live; plan = refl })
      (part_at m n _ live s.world.desk.told told_at views.told) happens in (
        gives.replies,
        after_waiting s new m n views r _ _
            (sym (ap (option_map (call_at (rules_of m.capacity))) live)) gives,
      )

  -- the desk of an owner that ended
  desk_ended : (load : Load K) (end : End V E) → m.stands n ≡ Some (Was_told load end) →
      DeskIs s.world.desk (ending s.world.desk n (settled_as end)) (put_at m.stands n None) (ends_with m n end)
  desk_ended load end live = record {
    rules = refl;
    valid = refl;
    registered = refl;
    last = refl;
    owning = is_put m n _ live s.world.desk.owning load_at views.owning None None refl;
    joined = still_none m n _ live s.world.desk.joined owner_at views.joined None refl refl;
    asks = still_none m n _ live s.world.desk.asks takes_at views.asks None refl refl;
    told = is_put m n _ live s.world.desk.told told_at views.told None None refl;
    settled = λ k.
        ap (λ x. cond (is_some x && nat_lt 0 (s.world.desk.readers n) && n == k) (Some (settled_as end)) (s.world.desk.settled k))
        (part_at m n _ live s.world.desk.owning load_at views.owning) ∙
        ap (λ q. cond (nat_lt 0 q && n == k) (Some (settled_as end)) (s.world.desk.settled k)) (readers_are eq s m n reached views) ∙
        by k (nat_lt 0 (waiting m n) && n == k);
  }
    where
      by : (k : ℕ) (b : Bool) → cond b (Some (settled_as end)) (s.world.desk.settled k) ≡
          option_map settled_as (cond b (Some end) (m.ends k))
      by k true = refl
      by k false = views.settled k

  -- it is gone
  ended_so : (load : Load K) (end : End V E) (live : m.stands n ≡ Some (Was_told load end)) (reply : Reply K V E) →
      PollGives s n reply None s.world.table (ending s.world.desk n (settled_as end)) r new →
      Views new (gone_owner m n end)
  ended_so load end live said gives =
      after s new m n views m.stored None (ends_with m n end) r said None s.world.table _
      (desk_ended load end live) refl views.stored
      (orderly_gone _ live m.stored _ (one_more m views.orderly n end None refl)) gives

  told_so : (load : Load K) (end : End V E) → m.stands n ≡ Some (Was_told load end) → Row (ends_so eq m n load end)
  told_so load (With_value value) live =
      let gives = told_value eq s new n _ load value r quiet (record { live = call_is _ live; plan = refl })
      (sym views.rules) (part_at m n _ live s.world.desk.told told_at views.told) happens in (
        gives.replies,
        after s new m n views (put_key eq m.stored load.key (Some (value, n))) None
            (ends_with m n (With_value value)) r _ None _ _ (desk_ended load (With_value value) live) refl
            (both_put_key eq s.world.table.stored m.stored (option_map small_record) views.stored load.key
            (Some (load.key, record { value = value; stamp = n; modified = s.world.desk.clock })) (Some (value, n)) refl)
            (orderly_gone _ live _ _ (one_more m views.orderly n (With_value value) None refl)) gives,
      )
  told_so load With_nothing live =
      let gives = told_nothing eq s new n _ load r (record { live = call_is _ live; plan = refl })
      (part_at m n _ live s.world.desk.told told_at views.told) happens in
      (gives.replies, ended_so load With_nothing live _ gives)
  told_so load (With_error error) live =
      let gives = told_error eq s new n _ load error r (record { live = call_is _ live; plan = refl })
      (part_at m n _ live s.world.desk.told told_at views.told) happens in
      (gives.replies, ended_so load (With_error error) live _ gives)

  -- the desk once the call has read how its owner ended
  abbrev was_read : DeskPart K V E
  was_read = record s.world.desk {
    joined = put_at s.world.desk.joined n None;
    readers = readers_without s.world.desk n;
    settled = settled_without s.world.desk n;
  }

  read_is : (with : Settled V E) → settlement_for s.world.desk n ≡ Some with → read s.world.desk n ≡ was_read
  read_is with e = ap (λ x. cond (is_some x) was_read s.world.desk) e

  desk_read : (owner : ℕ) (load : Load K) → m.stands n ≡ Some (Waits owner load) →
      DeskIs s.world.desk was_read (put_at m.stands n None) (gone_waiter m n).ends
  desk_read owner load live = record {
    rules = refl;
    valid = refl;
    registered = refl;
    last = refl;
    owning = still_none m n _ live s.world.desk.owning load_at views.owning None refl refl;
    joined = is_put m n _ live s.world.desk.joined owner_at views.joined None None refl;
    asks = still_none m n _ live s.world.desk.asks takes_at views.asks None refl refl;
    told = still_none m n _ live s.world.desk.told told_at views.told None refl refl;
    settled = kept_without eq s m reached views n;
  }

  reads_so : (owner : ℕ) (load : Load K) → m.stands n ≡ Some (Waits owner load) → Row (reads m n (m.ends owner))
  reads_so owner load live = by (m.ends owner) refl
    where
      settles : settlement_for s.world.desk n ≡ option_map settled_as (m.ends owner)
      settles = ap (option_and_then s.world.desk.settled) (part_at m n _ live s.world.desk.joined owner_at views.joined) ∙
          views.settled owner

      has : HasToDo s n (call_at (rules_of m.capacity) (Waits owner load)) (plan.Read (record { load = load; replace = None }) ∷ [])
      has = record { live = call_is _ live; plan = refl }

      answers : (end : End V E) → (a : Answer K V E) → answer_to (settled_as end) ≡ Some a → m.ends owner ≡ Some end →
          (r ≡ reply.Answer a) × Views new (gone_waiter m n)
      answers end a is e =
          let ended : settlement_for s.world.desk n ≡ Some (settled_as end) = settles ∙ ap (option_map settled_as) e in
          let gives = subst (λ (d : DeskPart K V E). PollGives s n (reply.Answer a) None s.world.table d r new) (read_is _ ended)
          (waiter_answers eq s new n _ _ (settled_as end) a r has ended is happens) in (
            gives.replies,
            after s new m n views m.stored None (gone_waiter m n).ends r _ None s.world.table was_read
                (desk_read owner load live) refl views.stored
                (orderly_gone _ live m.stored _ (fewer m views.orderly n None (λ k. waits_for (m.stands n) k && waiting m k == 1))) gives,
          )

      by : (x : Option (End V E)) → m.ends owner ≡ x → Row (reads m n x)
      by None e =
          let gives = waiter_waits eq s new n _ _ r has (settles ∙ ap (option_map settled_as) e) happens in
          (gives.replies, after_waiting s new m n views r _ _ (sym (ap (option_map (call_at (rules_of m.capacity))) live)) gives)
      by (Some (With_value value)) e = answers (With_value value) (answer.Loaded value false) refl e
      by (Some With_nothing) e = answers With_nothing answer.Nothing refl e
      by (Some (With_error error)) e = answers (With_error error) (answer.InitErr error) refl e

  -- the poll of the live call that stands there
  pub rows : (stand : Stand K V E) → m.stands n ≡ Some stand → Row (polled eq m n stand)
  rows (Begun begin) live = begins_so begin live
  rows (Asks load) live = asks_on load live
  rows (Was_told load end) live = told_so load end live
  rows (Waits owner load) live = reads_so owner load live

module _ {K V E : Type 0} (eq : K → K → Bool) (laws : IsEquivalence eq) where
  pub poll_tells : PollIsPolled K V E eq
  poll_tells s new m n stand r seen live happens =
      let quiet = calm_quiet s seen.calm (ap is_disabled seen.views.rules ∙ seen.views.stores) in
      let row = rows eq s new m n r seen.reached (reached_sound eq laws s seen.reached) quiet seen.views happens stand live in (
        row.0,
        record {
          reached = event_reached eq s new (event.Poll n) r seen.reached happens;
          calm = stays_calm eq s new (event.Poll n) r seen.calm tt happens;
          views = row.1;
        },
      )
