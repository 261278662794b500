-- Two runs on one machine, the second from the state that the first left.
use Rattle.std.proofs.Common.{◌≡◌, ◌≢◌, ℕ, ◌+◌, ◌<◌, ◌≤◌, Bool, true, cond, List, [], ◌∷◌, Option, Some, None, refl, sym, ap, ◌∙◌, subst, arith}
use Rattle.std.specs.Option.{option_map}
use Rattle.std.specs.Cmp.{IsEquivalence}
use Rattle.std.specs.declared.cmp.PartialEq as PartialEq
use Rattle.std.specs.declared.hash.Hash as Hash
use Rattle.moka_hist.specs.State.{State, fresh}
use Rattle.moka_hist.specs.Places.{IsLawful}
use Rattle.moka_hist.specs.Run.{Any, Divides, Happens, Run, IsReached, last_call}
use Rattle.moka_hist.specs.declared.events.Event.{Event}
use Rattle.moka_hist.specs.declared.events.Event.TheVariants as event
use Rattle.moka_hist.specs.declared.events.Start.{Start}
use Rattle.moka_hist.specs.declared.events.Start.TheVariants as start
use Rattle.moka_hist.specs.declared.replies.Reply.{Reply}
use Rattle.moka_laws.specs.OwnKeys.{ReachedByLawfulRun}
use Rattle.moka_laws.proofs.Between.{event_more}
use Rattle.moka_laws.proofs.Counting.{put_here}
use Rattle.moka_laws.proofs.Reached.{event_reached}
use Rattle.moka_small.specs.Laws.{FreshIsEmpty, PollIsPolled, StartIsStarted}
use Rattle.moka_small.specs.Polled.{gone_storing, polled}
use Rattle.moka_small.specs.Seen.{IsSeenAs, reply_to}
use Rattle.moka_small.specs.Small.{Begun, Small, empty, is_plain_start, started}
use Rattle.moka_machine.specs.Machine.{MachineIs}
use Rattle.moka_machine.specs.TheTable.{the_division}
use Rattle.moka_run.specs.Running.{Answers}
use Rattle.moka_machine.specs.declared.machine.Machine.{Machine}
use Rattle.moka_uses.specs.ReadBack.{IsReadBack, found_in, log_size, no_rules, no_tests, no_tests_handed, looking, storing}
use Rattle.moka_uses.specs.declared.reading.NoTests.{NoTests}

-- a small number is not the greatest
not_last : (n : ℕ) → n ≤ 9 → n ≢ last_call
not_last n small e = omega (arith, small, e)

module _ {K V : Type 0} (eq : K → K → Bool) (laws : IsEquivalence eq)
    (empty_law : FreshIsEmpty K V ℕ eq) (start_law : StartIsStarted K V ℕ eq)
    (poll_law : PollIsPolled K V ℕ eq) (key : K) (value : V) where
  abbrev begun : State K V ℕ
  begun = fresh K V ℕ (the_division K) no_rules log_size no_tests_handed

  -- the small states once the insert was started and polled, and once the get was started
  abbrev inserting : Small K V ℕ
  inserting = started (empty None) (start.Insert key value)

  abbrev inserted : Small K V ℕ
  inserted = gone_storing eq inserting 1 key value

  abbrev getting : Small K V ℕ
  getting = started inserted (start.Get key)

  -- a poll through lawful states is one
  poll_any : (s t : State K V ℕ) (n : ℕ) (r : Reply K V ℕ) → IsReached eq s →
      Happens eq (IsLawful eq) s (event.Poll n) r t → Happens eq Any s (event.Poll n) r t
  poll_any s t n r reached h =
      event_more eq (IsLawful eq) Any (λ v i p. tt) s t (event.Poll n) r reached h

  divided : Divides eq (the_division K)
  divided = record {
    some = omega arith;
    few = omega arith;
    part = λ q. omega arith;
    alike = λ a b e. refl;
  }

  -- one start and one poll, from a state that is seen as this
  polls_as : (s t : State K V ℕ) (m : Small K V ℕ) (begin : Start K V) (n : ℕ)
      (replies : List (Reply K V ℕ)) → IsSeenAs eq s m → is_plain_start begin ≡ true →
      m.last ≢ last_call → n ≡ m.last + 1 →
      Run eq (IsLawful eq) s (event.Start begin ∷ event.Poll n ∷ []) replies t →
      (call : Reply K V ℕ) × (last : Reply K V ℕ) × (replies ≡ call ∷ last ∷ []) ×
      (last ≡ reply_to (polled eq (started m begin) n (Begun begin)).0) ×
      IsSeenAs eq t (polled eq (started m begin) n (Begun begin)).1
  polls_as s t m begin n (call ∷ last ∷ []) seen plain more next run =
      let a = start_law s run.0 m begin call seen plain run.1 more in
      let reached : IsReached eq run.0 = event_reached eq s run.0 (event.Start begin) call
      seen.reached run.1 in
      let there : (started m begin).stands n ≡ Some (Begun begin) =
      ap (started m begin).stands next ∙ put_here m.stands (m.last + 1) (Some (Begun begin)) in
      let b = poll_law run.0 run.3.0 (started m begin) n (Begun begin) last a.1 there
      (poll_any run.0 run.3.0 n last reached run.3.1) in (
        call,
        last,
        refl,
        b.0,
        subst (λ v. IsSeenAs eq v (polled eq (started m begin) n (Begun begin)).1)
            (sym run.3.3) b.1,
      )
  polls_as s t m begin n [] seen plain more next run = absurd run
  polls_as s t m begin n (call ∷ []) seen plain more next run = absurd run.3
  polls_as s t m begin n (call ∷ last ∷ r ∷ rest) seen plain more next run = absurd run.3.3

  -- the lookup finds the value
  pub finds : (stored : List (Reply K V ℕ)) (mid final : State K V ℕ) (call last : Reply K V ℕ) →
      Run eq (IsLawful eq) begun (storing key value) stored mid →
      Run eq (IsLawful eq) mid (looking key) (call ∷ last ∷ []) final →
      found_in last ≡ Some value
  finds stored mid final call last stores looks =
      let first : IsSeenAs eq begun (empty None) =
      empty_law (the_division K) None log_size no_tests_handed divided (omega arith) refl in
      let a = polls_as begun mid (empty None) (start.Insert key value) 1 stored first refl
      (not_last 0 (omega arith)) refl stores in
      let b = polls_as mid final inserted (start.Get key) 2 (call ∷ last ∷ []) a.4 refl
      (not_last 1 (omega arith)) refl looks in
      ap found_in (second call last b.0 b.1 b.2 ∙ b.3) ∙
      ap (λ x. option_map {T = V × ℕ} (λ kept. kept.0) (cond x (Some (value, 1)) None)) (laws.refl key)
    where
      second : (c l d m : Reply K V ℕ) → c ∷ l ∷ [] ≡ d ∷ m ∷ [] → l ≡ m
      second c l d m e = cc

module _ {K V : Type 0} {same : PartialEq.Ghosts K} {hash : Hash.Ghosts K} where
  -- what a run of these events answers, from whatever reached state the machine stood for
  abbrev pub Ran : (K → K → Bool) → Machine K V ℕ NoTests same hash → List (Event K V ℕ) → List (Reply K V ℕ) → Machine K V ℕ NoTests same hash → Type 0
  Ran eq old events replies new = (s : State K V ℕ) → MachineIs eq no_tests old s → IsReached eq s → Answers eq no_tests events replies new s

  pub read_back_of : (eq : K → K → Bool) (m₀ m₁ m₂ : Machine K V ℕ NoTests same hash) (key : K) (value : V) (events others : List (Event K V ℕ)) (first second : List (Reply K V ℕ)) (call last : Reply K V ℕ) (found : Option V)
      → IsEquivalence eq → FreshIsEmpty K V ℕ eq → StartIsStarted K V ℕ eq → PollIsPolled K V ℕ eq
      → ReachedByLawfulRun K V ℕ eq → MachineIs eq no_tests m₀ (fresh K V ℕ (the_division K) no_rules log_size no_tests_handed)
      → events ≡ storing key value → Ran eq m₀ events first m₁
      → others ≡ looking key → Ran eq m₁ others second m₂
      → second ≡ call ∷ last ∷ [] → found ≡ found_in last → IsReadBack eq key value found
  read_back_of eq m₀ m₁ m₂ key value events others first second call last found laws empty_law start_law poll_law law begun these ran those again two is =
      let has_log : 0 < log_size = omega arith in
      let reached : IsReached eq (fresh K V ℕ (the_division K) no_rules log_size no_tests_handed) = record {
        division = the_division K;
        divides = record { some = omega arith; few = omega arith; part = λ q. omega arith; alike = λ a b e. refl };
        rules = no_rules;
        size = log_size;
        handed = no_tests_handed;
        has_log = has_log;
        events = [];
        replies = [];
        run = refl;
      } in
      let a = ran (fresh K V ℕ (the_division K) no_rules log_size no_tests_handed) begun reached in
      let there = law (fresh K V ℕ (the_division K) no_rules log_size no_tests_handed) a.final events first reached a.run in
      let b = again a.final a.stands there in
      let stores : Run eq (IsLawful eq) (fresh K V ℕ (the_division K) no_rules log_size no_tests_handed) (storing key value) first a.final =
      subst (λ (es : List (Event K V ℕ)). Run eq (IsLawful eq) (fresh K V ℕ (the_division K) no_rules log_size no_tests_handed) es first a.final) these a.run in
      let looks : Run eq (IsLawful eq) a.final (looking key) (call ∷ last ∷ []) b.final = subst (λ (rs : List (Reply K V ℕ)). Run eq (IsLawful eq) a.final (looking key) rs b.final) two
      (subst (λ (es : List (Event K V ℕ)). Run eq (IsLawful eq) a.final es second b.final) those b.run) in
      record {
        stored = first;
        mid = a.final;
        stores = stores;
        call = call;
        last = last;
        final = b.final;
        looks = looks;
        is = is;
        same = is ∙ finds eq laws empty_law start_law poll_law key value first a.final b.final call last stores looks;
      }
