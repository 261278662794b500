-- What starting, telling and dropping a call do.
use Rattle.std.proofs.Common.{◌≡◌, ◌<◌, ◌≤◌, ◌+◌, ℕ, ◌==◌, nat_lt, Bool, true, false, cond, ◌&&◌, Option, Some, None, is_some, MatchBool, refl, sym, ap, ◌∙◌, subst, arith}
use Rattle.std.specs.Option.{option_map, option_and_then, option_map_or}
use Rattle.std.proofs.lemmas.Bool.{eqb-true, false≢true}
use Rattle.moka_hist.specs.Dropping.{dropped, left}
use Rattle.moka_hist.specs.Plan.{held_by}
use Rattle.moka_hist.specs.Finite.{put_at}
use Rattle.moka_hist.specs.State.{Call, State}
use Rattle.moka_hist.specs.Step.{takes_of}
use Rattle.moka_hist.specs.Telling.{does_take, is_asked, told_call}
use Rattle.moka_hist.specs.Run.{Any, Becomes, Drops, Happens, Refuses, fresh_call, last_call, started as started_at, with_desk}
use Rattle.moka_hist.specs.declared.events.Event.TheVariants as event
use Rattle.moka_hist.specs.declared.events.Start.{Start}
use Rattle.moka_hist.specs.declared.events.Start.TheVariants as start
use Rattle.moka_hist.specs.declared.replies.Refusal.{Refusal}
use Rattle.moka_hist.specs.declared.replies.Refusal.TheVariants as refusal
use Rattle.moka_hist.specs.declared.replies.Reply.{Reply}
use Rattle.moka_hist.specs.declared.replies.Reply.TheVariants as reply
use Rattle.moka_hist.specs.Visits.{settled_with, settled_without}
use Rattle.moka_hist.specs.declared.rules.Rules.{Rules}
use Rattle.moka_hist.specs.declared.visits.Settled.TheVariants as settled
use Rattle.moka_laws.proofs.Counting.{none_some, put_cases}
use Rattle.moka_laws.proofs.Outcomes.{put_same}
use Rattle.moka_laws.proofs.Reached.{event_reached, fresh_reached}
use Rattle.moka_polls.specs.Polls.{PollGives, without_writes}
use Rattle.moka_polls.proofs.Resting.{fresh_calm, stays_calm}
use Rattle.moka_small.specs.Laws.{DropIsGone, FreshIsEmpty, PollIsRefused, StartIsStarted, TellIsRefused, TellIsTold, may_end, takes}
use Rattle.moka_small.specs.Small.{End, With_value, With_nothing, With_error, Stand, Begun, Asks, Was_told, Waits, Small, is_plain_start, load_at, owner_at, started, waiting, waits_for}
use Rattle.moka_small.specs.Polled.{gone_waiter}
use Rattle.moka_small.specs.Seen.{IsOrderly, IsSeenAs, Views, answer_of, call_at, rules_of, takes_at, told_at}
use Rattle.moka_small.proofs.Counted.{readers_are, kept_without}
use Rattle.moka_small.proofs.Orderly.{as_before, fewer, none_begins, stays_orderly}
use Rattle.moka_small.proofs.Places.{both_put, right_put}
use Rattle.moka_small.proofs.Viewing.{after, is_put, part_at, still_none}

-- ---- a fresh cache

pub fresh_empty : {K V E : Type 0} (eq : K → K → Bool) → FreshIsEmpty K V E eq
fresh_empty {K} {V} {E} eq division capacity size built divides has_log stores = record {
  reached = fresh_reached eq division divides (rules_of capacity) size built has_log;
  calm = fresh_calm division (rules_of capacity) size built refl;
  views = record {
    rules = refl;
    stores = stores;
    valid = refl;
    unhit = refl;
    last = refl;
    stored = λ key. refl;
    calls = λ n. refl;
    owning = λ n. refl;
    joined = λ n. refl;
    asks = λ n. refl;
    told = λ n. refl;
    settled = λ n. refl;
    orderly = record {
      begun = λ n start e. absurd (none_some e);
      numbered = λ n above. refl;
      ended = λ n end e. absurd (none_some e);
    };
  };
}

-- ---- a start

begun_same : {K V E : Type 0} (begin start : Start K V) (x : Option (Stand K V E)) → x ≡ Some (Begun begin) →
    x ≡ Some (Begun start) → begin ≡ start
begun_same begin start x a b = cc

-- what a plain call has to do doesn't depend on how many parts the table has
pub plain_call : {K V E : Type 0} (parts : ℕ) (rules : Rules) (begin : Start K V) → is_plain_start begin ≡ true →
    fresh_call {K = K} {V = V} {E = E} parts rules begin ≡ fresh_call 1 rules begin
plain_call parts rules start.Iter plain = absurd (false≢true plain)
plain_call parts rules start.Pending plain = absurd (false≢true plain)
plain_call parts rules _ plain = refl

module _ {K V E : Type 0} (m : Small K V E) (orderly : IsOrderly m) (begin : Start K V) (plain : is_plain_start begin ≡ true) where
  start_orderly : IsOrderly (started m begin)
  start_orderly = record {
    begun = λ k start e. put_cases m.stands (m.last + 1) (Some (Begun begin)) k (Some (Begun start)) _ e
        (λ same is. ap is_plain_start (sym (begun_same begin start (Some (Begun begin)) refl is)) ∙ plain) (λ other is. orderly.begun k start is);
    numbered = λ k above. unnumbered k above (m.last + 1 == k) refl;
    ended = λ k end e. let was = orderly.ended k end e in
        (none_left k was.0 was.1 (m.last + 1 == k) refl, omega (arith, was.1));
  }
    where
      unnumbered : (k : ℕ) → m.last + 1 < k → (b : Bool) → (m.last + 1 == k) ≡ b →
          cond b (Some (Begun begin)) (m.stands k) ≡ None
      unnumbered k above true same = let is = eqb-true (m.last + 1) k same in absurd (omega (arith, above, is))
      unnumbered k above false same = orderly.numbered k (omega (arith, above))

      none_left : (k : ℕ) → m.stands k ≡ None → k ≤ m.last → (b : Bool) → (m.last + 1 == k) ≡ b →
          cond b (Some (Begun begin)) (m.stands k) ≡ None
      none_left k none le true same = let is = eqb-true (m.last + 1) k same in absurd (omega (arith, le, is))
      none_left k none le false same = none

  -- no call has the next number
  next_free : m.stands (m.last + 1) ≡ None
  next_free = orderly.numbered (m.last + 1) (omega arith)

  -- a part has nothing for it
  part_free : {A : Type 0} (f : ℕ → Option A) (h : Stand K V E → Option A) →
      ((k : ℕ) → f k ≡ option_and_then h (m.stands k)) → h (Begun begin) ≡ None → (k : ℕ) →
      f k ≡ option_and_then h ((started m begin).stands k)
  part_free f h all none = right_put f m.stands (option_and_then h) all (m.last + 1) (Some (Begun begin))
      (all (m.last + 1) ∙ ap (option_and_then h) next_free ∙ sym none)

  start_views : (s : State K V E) → Views s m → Views (started_at s begin) (started m begin)
  start_views s views = record {
    rules = views.rules;
    stores = views.stores;
    valid = views.valid;
    unhit = views.unhit;
    last = ap (λ i. i + 1) views.last;
    stored = views.stored;
    calls = λ k.
        ap (λ i. put_at s.calls (i + 1) (Some (fresh_call s.world.table.division.parts s.world.desk.rules begin)) k) views.last ∙
        both_put s.calls m.stands (option_map (call_at (rules_of m.capacity))) views.calls (m.last + 1)
        (Some (fresh_call s.world.table.division.parts s.world.desk.rules begin)) (Some (Begun begin))
        (ap Some (plain_call s.world.table.division.parts s.world.desk.rules begin plain) ∙ ap (λ rules. Some (fresh_call 1 rules begin)) views.rules) k;
    owning = part_free s.world.desk.owning load_at views.owning refl;
    joined = part_free s.world.desk.joined owner_at views.joined refl;
    asks = part_free s.world.desk.asks takes_at views.asks refl;
    told = part_free s.world.desk.told told_at views.told refl;
    settled = views.settled;
    orderly = start_orderly;
  }

module _ {K V E : Type 0} (eq : K → K → Bool) where
  pub start_tells : StartIsStarted K V E eq
  start_tells s new m begin r seen plain happens more =
      let becomes = by (s.world.desk.last == last_call) refl happens in (
        becomes.reply ∙ ap (λ i. reply.Call (i + 1)) seen.views.last,
        record {
          reached = event_reached eq s new (event.Start begin) r seen.reached happens;
          calm = stays_calm eq s new (event.Start begin) r seen.calm tt happens;
          views = subst (λ (v : State K V E). Views v (started m begin)) (sym becomes.after)
              (start_views m seen.views.orderly begin plain s seen.views);
        },
      )
    where
      by : (b : Bool) → (s.world.desk.last == last_call) ≡ b →
          MatchBool b (Refuses s refusal.CallsSpent r new) (Becomes (started_at s begin) (reply.Call (s.world.desk.last + 1)) r new) →
          Becomes (started_at s begin) (reply.Call (s.world.desk.last + 1)) r new
      by true e h = absurd (more (sym seen.views.last ∙ eqb-true s.world.desk.last last_call e))
      by false e h = h

  -- ---- telling

  pub tell_tells : TellIsTold K V E eq
  tell_tells s new m n load end r seen live fits happens =
      let becomes = tells end (asked end fits) happens in
      let gives : PollGives s n reply.Told (Some (call_at (rules_of m.capacity) (Was_told load end))) s.world.table
      (told_call s.world.desk n (answer_of end)) r new = record {
        replies = becomes.reply;
        leaves = ap (λ v. v.calls) becomes.after ∙ sym (put_same s.calls n _ (seen.views.calls n ∙ ap (option_map (call_at (rules_of m.capacity))) live));
        stores = ap (λ v. v.world.table) becomes.after;
        keeps = ap (λ v. without_writes v.world.desk) becomes.after;
      } in (
        becomes.reply,
        record {
          reached = event_reached eq s new (event.Tell n (answer_of end)) r seen.reached happens;
          calm = stays_calm eq s new (event.Tell n (answer_of end)) r seen.calm tt happens;
          views = after s new m n seen.views m.stored (Some (Was_told load end)) m.ends r _ _ s.world.table _
              (record {
                rules = refl;
                valid = refl;
                registered = refl;
                last = refl;
                owning = right_put s.world.desk.owning m.stands (option_and_then load_at) seen.views.owning n (Some (Was_told load end))
                    (part_at m n (Asks load) live s.world.desk.owning load_at seen.views.owning);
                joined = still_none m n (Asks load) live s.world.desk.joined owner_at seen.views.joined (Some (Was_told load end)) refl refl;
                asks = is_put m n (Asks load) live s.world.desk.asks takes_at seen.views.asks None (Some (Was_told load end)) refl;
                told = is_put m n (Asks load) live s.world.desk.told told_at seen.views.told (Some (answer_of end)) (Some (Was_told load end)) refl;
                settled = seen.views.settled;
              }) refl seen.views.stored
              (stays_orderly m seen.views.orderly n (Asks load) live m.stored (Some (Was_told load end)) (λ start e. cc) m.ends
              (as_before m seen.views.orderly n (Some (Was_told load end)))) gives;
        },
      )
    where
      asks : s.world.desk.asks n ≡ Some (takes_of load.kind)
      asks = part_at m n (Asks load) live s.world.desk.asks takes_at seen.views.asks

      -- its ask takes the answer
      asked : (end : End V E) → may_end load end ≡ true → is_asked s.world.desk n (answer_of end) ≡ true
      asked (With_value value) fits = ap (λ x. option_map_or (λ t. does_take {V = V} {E = E} t (answer_of {V = V} {E = E} (With_value value))) x false) asks ∙ fits
      asked With_nothing fits = ap (λ x. option_map_or (λ t. does_take {V = V} {E = E} t (answer_of {V = V} {E = E} With_nothing)) x false) asks ∙ fits
      asked (With_error error) fits = ap (λ x. option_map_or (λ t. does_take {V = V} {E = E} t (answer_of {V = V} {E = E} (With_error error))) x false) asks ∙ fits

      -- so it is told
      tells : (end : End V E) → is_asked s.world.desk n (answer_of end) ≡ true → Happens eq Any s (event.Tell n (answer_of end)) r new →
          Becomes (with_desk s (told_call s.world.desk n (answer_of end))) reply.Told r new
      tells (With_value value) is h = rw is at h
      tells With_nothing is h = rw is at h
      tells (With_error error) is h = rw is at h

  -- ---- dropping

  -- each live call may be dropped
  drops : (s new : State K V E) (n : ℕ) (r : Reply K V E) (rules : Rules) (stand : Stand K V E) →
      Drops s n (call_at rules stand) (call_at rules stand).mode r new →
      Becomes (dropped s n (call_at rules stand)) reply.Dropped r new
  drops s new n r rules (Begun start) d = d
  drops s new n r rules (Asks load) d = d
  drops s new n r rules (Was_told load end) d = d
  drops s new n r rules (Waits owner load) d = d

  pub drop_tells : DropIsGone K V E eq
  drop_tells s new m n stand r seen live nobody happens =
      let c : Call K V E = call_at (rules_of m.capacity) stand in
      let is : s.calls n ≡ Some c = seen.views.calls n ∙ ap (option_map (call_at (rules_of m.capacity))) live in
      let becomes = drops s new n r (rules_of m.capacity) stand (rw is at happens) in
      let gives : PollGives s n reply.Dropped None s.world.table (left s.world.desk n (held_by c.plan)) r new = record {
        replies = becomes.reply;
        leaves = ap (λ v. v.calls) becomes.after;
        stores = ap (λ v. v.world.table) becomes.after;
        keeps = ap (λ v. without_writes v.world.desk) becomes.after;
      } in (
        becomes.reply,
        record {
          reached = event_reached eq s new (event.Drop n) r seen.reached happens;
          calm = stays_calm eq s new (event.Drop n) r seen.calm tt happens;
          views = after s new m n seen.views m.stored None (gone_waiter m n).ends r _ None s.world.table _
              (record {
                rules = refl;
                valid = refl;
                registered = refl;
                last = refl;
                owning = is_put m n stand live s.world.desk.owning load_at seen.views.owning None None refl;
                joined = is_put m n stand live s.world.desk.joined owner_at seen.views.joined None None refl;
                asks = is_put m n stand live s.world.desk.asks takes_at seen.views.asks None None refl;
                told = is_put m n stand live s.world.desk.told told_at seen.views.told None None refl;
                settled = λ k. unread k ∙ kept_without eq s m seen.reached seen.views n k;
              }) refl seen.views.stored
              (stays_orderly m seen.views.orderly n stand live m.stored None (λ start e. none_begins start None refl e)
              (gone_waiter m n).ends (fewer m seen.views.orderly n None (λ k. waits_for (m.stands n) k && waiting m k == 1))) gives;
        },
      )
    where
      -- nobody has to read that it was dropped
      unread : (k : ℕ) → settled_with s.world.desk n settled.Aborted (settled_without s.world.desk n) k ≡ settled_without s.world.desk n k
      unread k =
          ap (λ q. cond (is_some (s.world.desk.owning n) && nat_lt 0 q && n == k) (Some settled.Aborted) (settled_without s.world.desk n k))
          (readers_are eq s m n seen.reached seen.views ∙ nobody) ∙ by (is_some (s.world.desk.owning n))
        where
          by : (b : Bool) → cond (b && nat_lt 0 0 && n == k) (Some settled.Aborted) (settled_without s.world.desk n k) ≡ settled_without s.world.desk n k
          by true = refl
          by false = refl

  -- ---- what is refused

  -- nothing changes
  refuses : (s new : State K V E) (m : Small K V E) (why : Refusal) (r : Reply K V E) → IsSeenAs eq s m →
      Refuses s why r new → (r ≡ reply.Refused why) × IsSeenAs eq new m
  refuses s new m why r seen h = (h.reply, subst (λ (v : State K V E). IsSeenAs eq v m) (sym h.same) seen)

  pub poll_refused : PollIsRefused K V E eq
  poll_refused s new m n r seen none happens =
      let is : s.calls n ≡ None = seen.views.calls n ∙ ap (option_map (call_at (rules_of m.capacity))) none in
      refuses s new m refusal.UnknownCall r seen (rw is at happens)

  pub tell_refused : TellIsRefused K V E eq
  tell_refused s new m n end r seen none happens = refuses s new m refusal.NotAsked r seen (refused end none happens)
    where
      asks : s.world.desk.asks n ≡ option_and_then takes_at (m.stands n)
      asks = seen.views.asks n

      refused : (end : End V E) → takes (m.stands n) end ≡ false → Happens eq Any s (event.Tell n (answer_of end)) r new →
          Refuses s refusal.NotAsked r new
      refused (With_value value) unfit h =
          let is : is_asked s.world.desk n (answer_of (With_value value)) ≡ false =
          ap (λ x. option_map_or (λ t. does_take {V = V} {E = E} t (answer_of {V = V} {E = E} (With_value value))) x false) asks ∙ unfit in rw is at h
      refused With_nothing unfit h =
          let is : is_asked s.world.desk n (answer_of {V = V} {E = E} With_nothing) ≡ false =
          ap (λ x. option_map_or (λ t. does_take {V = V} {E = E} t (answer_of {V = V} {E = E} With_nothing)) x false) asks ∙ unfit in rw is at h
      refused (With_error error) unfit h =
          let is : is_asked s.world.desk n (answer_of (With_error error)) ≡ false =
          ap (λ x. option_map_or (λ t. does_take {V = V} {E = E} t (answer_of {V = V} {E = E} (With_error error))) x false) asks ∙ unfit in rw is at h
