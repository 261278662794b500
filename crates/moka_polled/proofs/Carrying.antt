-- What carrying an event out says of the small state.
use Rattle.std.proofs.Common.{◌≡◌, ◌≢◌, ◌≤◌, ◌+◌, ℕ, ◌==◌, Bool, true, false, Option, Some, None, IsSome, MatchBool, IfOk, OnOk, OnErr, refl, sym, ap, ◌∙◌, subst, arith}
use Rattle.std.specs.declared.result.Result.{Result}
use Rattle.std.specs.declared.result.Result.TheVariants.{Ok, Err}
use Rattle.std.proofs.lemmas.Bool.{false≢true, eq-eqb, eqb-true}
use Rattle.std.specs.declared.cmp.PartialEq as PartialEq
use Rattle.std.specs.declared.hash.Hash as Hash
use Rattle.moka_hist.specs.State.{State, fresh}
use Rattle.moka_hist.specs.Plan.{is_disabled}
use Rattle.moka_hist.specs.Run.{Any, Becomes, Happens, Refuses, last_call, started as started_at}
use Rattle.moka_hist.specs.declared.events.Event.{Event}
use Rattle.moka_hist.specs.declared.events.Event.TheVariants as event
use Rattle.moka_hist.specs.declared.events.Start.{Start}
use Rattle.moka_hist.specs.declared.events.Told.{Told}
use Rattle.moka_hist.specs.declared.events.Told.TheVariants as given
use Rattle.moka_hist.specs.declared.loads.Load.{Load}
use Rattle.moka_hist.specs.declared.replies.Refusal.TheVariants as refusal
use Rattle.moka_hist.specs.declared.replies.Reply.{Reply}
use Rattle.moka_hist.specs.declared.replies.Reply.TheVariants as reply
use Rattle.moka_laws.proofs.Counting.{none_some, some_same}
use Rattle.moka_machine.specs.Machine.{MachineIs, Stops}
use Rattle.moka_machine.specs.TheTable.{the_division}
use Rattle.moka_machine.specs.WantOfMemory.{MayStopServing}
use Rattle.moka_machine.specs.declared.machine.Machine.{Machine}
use Rattle.moka_small.specs.declared.outcome.Outcome.{Outcome}
use Rattle.moka_small.specs.declared.outcome.Outcome.TheVariants as outcome
use Rattle.moka_small.specs.Laws.{DropIsGone, FreshIsEmpty, PollIsPolled, PollIsRefused, StartIsStarted, TellIsRefused, TellIsTold, may_end, takes}
use Rattle.moka_small.specs.Polled.{gone_waiter, polled}
use Rattle.moka_small.specs.Seen.{answer_of, reply_to, rules_of}
use Rattle.moka_small.specs.Small.{End, With_value, With_nothing, With_error, Small, Stand, Begun, Asks, Was_told, Waits, empty, is_plain_start, started, with_stand}
use Rattle.moka_polled.specs.Outcomes.{call_in, outcome_in, says_told}
use Rattle.moka_polled.specs.Polled.{AnySmall, IsPolled, IsServed, IsUsable, IsSpent, MayDrop, Takes, is_end}
use Rattle.moka_polled.specs.Tests.{no_tests, none_handed}
use Rattle.moka_polled.specs.declared.no_tests.NoTests.{NoTests}
use Rattle.moka_polled.specs.declared.machine.PolledMachine.{PolledMachine}

-- what is there is there
pub the_one : {A : Type 0} (x : Option A) → IsSome x → (a : A) × (x ≡ Some a)
the_one None h = absurd (false≢true h)
the_one (Some a) h = (a, refl)

-- what says how a load ended is the answer of an end
pub the_end : {V E : Type 0} (answer : Told V E) → is_end answer ≡ true → (end : End V E) × (answer ≡ answer_of end)
the_end (given.Value value) e = (With_value value, refl)
the_end given.Nothing e = (With_nothing, refl)
the_end (given.Err error) e = (With_error error, refl)
the_end (given.Op op) e = absurd (false≢true e)
the_end given.Done e = absurd (false≢true e)
the_end given.Off e = absurd (false≢true e)

-- each outcome is told by its reply
pub told_by : (K : Type 0) {V E : Type 0} (o : Outcome V E) → outcome_in (reply_to {K = K} o) ≡ Some o
told_by K outcome.Waits = refl
told_by K outcome.Asks = refl
told_by K (outcome.Loaded value fresh) = refl
told_by K outcome.Nothing = refl
told_by K (outcome.Failed error) = refl
told_by K (outcome.Found found) = refl
told_by K outcome.Done = refl
told_by K outcome.Evicted = refl
told_by K outcome.Kept = refl

-- want of memory comes only where the event may need some
pub may_stop : {K V E : Type 0} {same : PartialEq.Ghosts K} {hash : Hash.Ghosts K} (eq : K → K → Bool)
    (old : PolledMachine K V E same hash) (machine : Machine K V E NoTests same hash) (e : Event K V E) (steps : ℕ) →
    Stops eq no_tests old.machine e steps machine →
    ((s : State K V E) → MachineIs eq no_tests machine s → MayStopServing s e) →
    (m : Small K V E) → IsPolled eq old m → (s : State K V E) × MayStopServing s e
may_stop eq old machine e steps stops needs m p =
    let t = stops p.state p.stands p.seen.reached in (t.0, needs t.0 t.2)

module _ {K V E : Type 0} {same : PartialEq.Ghosts K} {hash : Hash.Ghosts K} (eq : K → K → Bool)
    (new : PolledMachine K V E same hash) (m : Small K V E) where
  -- a call was started
  pub starts : StartIsStarted K V E eq → (begin : Start K V) → is_plain_start begin ≡ true →
      (r : Reply K V E) (call : ℕ) → call_in r ≡ Some call → IsServed eq m (event.Start begin) r new →
      (call ≡ m.last + 1) × IsPolled eq new (started m begin)
  starts law begin plain r call is served =
      let told = law served.before served.after m begin r served.seen plain served.happens more in (
        some_same (sym is ∙ ap call_in told.0),
        record {
          unspent = served.unspent;
          state = served.after;
          stands = served.stands;
          seen = told.1;
        },
      )
    where
      refused : (b : Bool) → b ≡ true →
          MatchBool b (Refuses served.before refusal.CallsSpent r served.after)
          (Becomes (started_at served.before begin) (reply.Call (served.before.world.desk.last + 1)) r served.after) → ⊥
      refused true e h = none_some (sym (ap call_in h.reply) ∙ is)
      refused false e h = false≢true e

      more : m.last ≢ last_call
      more e = refused (served.before.world.desk.last == last_call)
          (eq-eqb served.before.world.desk.last last_call (served.seen.views.last ∙ e)) served.happens

  -- a poll of a live call
  module _ (law : PollIsPolled K V E eq) (call : ℕ) (r : Reply K V E) (served : IsServed eq m (event.Poll call) r new) where
    pub polls : (stand : Stand K V E) → m.stands call ≡ Some stand →
        (outcome_in r ≡ Some (polled eq m call stand).0) × IsPolled eq new (polled eq m call stand).1
    polls stand live =
        let told = law served.before served.after m call stand r served.seen live served.happens in (
          ap outcome_in told.0 ∙ told_by K (polled eq m call stand).0,
          record {
            unspent = served.unspent;
            state = served.after;
            stands = served.stands;
            seen = told.1;
          },
        )

  -- a poll of a call that is not live
  pub polls_none : PollIsRefused K V E eq → (call : ℕ) (r : Reply K V E) → IsServed eq m (event.Poll call) r new →
      m.stands call ≡ None → (outcome_in r ≡ None) × IsPolled eq new m
  polls_none law call r served none =
      let told = law served.before served.after m call r served.seen none served.happens in (
        ap outcome_in told.0,
        record {
          unspent = served.unspent;
          state = served.after;
          stands = served.stands;
          seen = told.1;
        },
      )

  -- a poll of any call
  pub polls_either : PollIsPolled K V E eq → PollIsRefused K V E eq → (call : ℕ) (r : Reply K V E) →
      IsServed eq m (event.Poll call) r new → (next : Small K V E) × IsPolled eq new next
  polls_either law refusal call r served = by (m.stands call) refl
    where
      by : (x : Option (Stand K V E)) → m.stands call ≡ x → (next : Small K V E) × IsPolled eq new next
      by None e = (m, (polls_none refusal call r served e).1)
      by (Some stand) e = ((polled eq m call stand).1, (polls law call r served stand e).1)

  -- an answer was told
  pub tells : TellIsTold K V E eq → (call : ℕ) (answer : Told V E) (load : Load K) (end : End V E) (r : Reply K V E) →
      Takes call answer load end m → IsServed eq m (event.Tell call answer) r new →
      (says_told r ≡ true) × IsPolled eq new (with_stand m call (Some (Was_told load end)))
  tells law call answer load end r taken served =
      let told = law served.before served.after m call load end r served.seen taken.asks taken.fits
      (subst (λ (given : Told V E). Happens eq Any served.before (event.Tell call given) r served.after) taken.is served.happens) in (
        ap says_told told.0,
        record {
          unspent = served.unspent;
          state = served.after;
          stands = served.stands;
          seen = told.1;
        },
      )

  -- it was refused
  pub tells_none : TellIsRefused K V E eq → (call : ℕ) (answer : Told V E) (end : End V E) (r : Reply K V E) →
      answer ≡ answer_of end → takes (m.stands call) end ≡ false → IsServed eq m (event.Tell call answer) r new →
      (says_told r ≡ false) × IsPolled eq new m
  tells_none law call answer end r is none served =
      let told = law served.before served.after m call end r served.seen none
      (subst (λ (given : Told V E). Happens eq Any served.before (event.Tell call given) r served.after) is served.happens) in (
        ap says_told told.0,
        record {
          unspent = served.unspent;
          state = served.after;
          stands = served.stands;
          seen = told.1;
        },
      )

  -- an answer that says how a load ended is taken or refused
  pub tells_either : TellIsTold K V E eq → TellIsRefused K V E eq → (call : ℕ) (answer : Told V E) (r : Reply K V E) →
      is_end answer ≡ true → IsServed eq m (event.Tell call answer) r new → (next : Small K V E) × IsPolled eq new next
  tells_either law refusal call answer r ends served =
      let end = the_end answer ends in by end.0 end.1 (m.stands call) refl
    where
      by : (end : End V E) → answer ≡ answer_of end → (x : Option (Stand K V E)) → m.stands call ≡ x →
          (next : Small K V E) × IsPolled eq new next
      by end is None e = let t = tells_none refusal call answer end r is (ap (λ y. takes y end) e) served in (m, t.1)
      by end is (Some (Begun start)) e = let t = tells_none refusal call answer end r is (ap (λ y. takes y end) e) served in (m, t.1)
      by end is (Some (Was_told load other)) e = let t = tells_none refusal call answer end r is (ap (λ y. takes y end) e) served in (m, t.1)
      by end is (Some (Waits owner load)) e = let t = tells_none refusal call answer end r is (ap (λ y. takes y end) e) served in (m, t.1)
      by end is (Some (Asks load)) e = fits (may_end load end) refl
        where
          fits : (b : Bool) → may_end load end ≡ b → (next : Small K V E) × IsPolled eq new next
          fits true f = let t = tells law call answer load end r (record { asks = e; is = is; fits = f }) served in (with_stand m call (Some (Was_told load end)), t.1)
          fits false f = let t = tells_none refusal call answer end r is (ap (λ y. takes y end) e ∙ f) served in (m, t.1)

  -- a call was dropped
  pub drops : DropIsGone K V E eq → (call : ℕ) (r : Reply K V E) → MayDrop call m →
      IsServed eq m (event.Drop call) r new → IsPolled eq new (gone_waiter m call)
  drops law call r may served =
      let stand = the_one (m.stands call) may.live in
      record {
        unspent = served.unspent;
        state = served.after;
        stands = served.stands;
        seen = (law served.before served.after m call stand.0 r served.seen stand.1 may.alone served.happens).1;
      }

module _ {K V E : Type 0} {same : PartialEq.Ghosts K} {hash : Hash.Ghosts K} (eq : K → K → Bool)
    (old new : PolledMachine K V E same hash) where
  -- a value that is not spent still stands for some small state
  pub still_usable : (P : Small K V E → Type 0) → IsUsable eq old P → (IsSpent old → IsSpent new) →
      ((m : Small K V E) → IsPolled eq old m → P m → (next : Small K V E) × IsPolled eq new next) →
      IsUsable eq new AnySmall
  still_usable P usable spent goes unspent = by old.spent refl
    where
      by : (b : Bool) → old.spent ≡ b → (m : Small K V E) × IsPolled eq new m × AnySmall m
      by true e = absurd (false≢true (sym unspent ∙ spent e))
      by false e = let u = usable e in let v = goes u.0 u.1 u.2 in (v.0, v.1, tt)

  -- one that is spent is as it may be
  spent_usable : IsSpent new → IsUsable eq new AnySmall
  spent_usable spent unspent = absurd (false≢true (sym unspent ∙ spent))

  -- a value that answers is not spent
  pub has_small : (P : Small K V E → Type 0) → IsUsable eq old P → (IsSpent old → ⊥) →
      (m : Small K V E) × IsPolled eq old m × P m
  has_small P usable stays = by old.spent refl
    where
      by : (b : Bool) → old.spent ≡ b → (m : Small K V E) × IsPolled eq old m × P m
      by true e = absurd (stays e)
      by false e = usable e

  -- where a call that can answer want of memory has done so, the value stays spent
  pub still_spent : {A B : Type 0} (result : Result A B) → (IsSpent old → OnOk result ⊥) →
      OnErr result (IsSpent new) → IsSpent old → IsSpent new
  still_spent (Ok a) stays spent was = absurd (stays was)
  still_spent (Err b) stays spent was = spent

  -- whether or not memory was wanting, the value stands for some small state or is spent
  pub usable_either : {A B : Type 0} (result : Result A B) (P : Small K V E → Type 0) → IsUsable eq old P →
      OnErr result (IsSpent new) → (IsSpent old → OnOk result ⊥) →
      OnOk result ((m : Small K V E) → IsPolled eq old m → P m → (next : Small K V E) × IsPolled eq new next) →
      IsUsable eq new AnySmall
  usable_either (Ok a) P usable spent stays goes = still_usable P usable (λ s. absurd (stays s)) goes
  usable_either (Err b) P usable spent stays goes = spent_usable spent

  -- dropping a call needs no memory
  pub drop_served : {B : Type 0} (call : ℕ) (result : Result (Reply K V E) B) →
      IfOk result (λ r. (m : Small K V E) → IsPolled eq old m → IsServed eq m (event.Drop call) r new) →
      OnErr result ((m : Small K V E) → IsPolled eq old m → (s : State K V E) × MayStopServing s (event.Drop call)) →
      DropIsGone K V E eq → (m : Small K V E) → IsPolled eq old m → MayDrop call m →
      IsPolled eq new (gone_waiter m call)
  drop_served call (Ok r) serves needs law m p may = drops eq new m law call r may (serves m p)
  drop_served call (Err b) serves needs law m p may = absurd ((needs m p).1)

-- a fresh machine is seen as the empty small state
pub builds : {K V E : Type 0} {same : PartialEq.Ghosts K} {hash : Hash.Ghosts K} (eq : K → K → Bool)
    (machine : Machine K V E NoTests same hash) (capacity : Option ℕ) (log : ℕ) → FreshIsEmpty K V E eq →
    capacity ≢ Some 0 → 1 ≤ log → MachineIs eq no_tests machine (fresh K V E (the_division K) (rules_of capacity) log none_handed) →
    IsPolled eq (record { machine = machine; spent = false }) (empty capacity)
builds {K} {V} {E} eq machine capacity log law stores least stands = record {
  unspent = refl;
  state = fresh K V E (the_division K) (rules_of capacity) log none_handed;
  stands = stands;
  seen = law (the_division K) capacity log none_handed
      (record { some = omega arith; few = omega arith; part = λ q. omega arith; alike = λ a b e. refl })
      (omega (arith, least)) (by capacity stores);
}
  where
    by : (most : Option ℕ) → most ≢ Some 0 → is_disabled (rules_of most) ≡ false
    by None other = refl
    by (Some n) other = is (n == 0) refl
      where
        is : (b : Bool) → (n == 0) ≡ b → b ≡ false
        is true e = absurd (other (ap Some (eqb-true n 0 e)))
        is false e = refl
