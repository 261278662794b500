-- What was given to a cache, and that it answers nothing else.
use Rattle.std.proofs.Common.{◌≡◌, ◌⊎◌, inl, inr, ◌+◌, ℕ, zero, suc, ◌==◌, nat_lt, Bool, true, false, cond, ◌&&◌, List, ◌∷◌, Option, Some, None, is_some, IsSome, refl, sym, ap, ◌∙◌, subst, arith}
use Rattle.std.proofs.lemmas.Bool.{false≢true, eqb-true}
use Rattle.std.specs.Cmp.{IsEquivalence}
use Rattle.std.specs.Option.{option_map}
use Rattle.moka_hist.specs.Finite.{put_at, put_key}
use Rattle.moka_hist.specs.State.{State}
use Rattle.moka_hist.specs.declared.events.Start.{Start}
use Rattle.moka_hist.specs.declared.events.Start.TheVariants as start
use Rattle.moka_hist.specs.declared.loads.Kind.TheVariants as kind
use Rattle.moka_hist.specs.declared.loads.Load.{Load}
use Rattle.moka_hist.specs.declared.rules.Cause.{Cause}
use Rattle.moka_laws.proofs.Counting.{none_some, put_cases, some_same}
use Rattle.moka_laws.specs.Starts.{key_started}
use Rattle.moka_small.specs.declared.outcome.Outcome.{Outcome}
use Rattle.moka_small.specs.declared.outcome.Outcome.TheVariants as outcome
use Rattle.moka_small.specs.Given.{AnswersOnly, DropGivesNone, EmptyHasNone, HasOnly, IsGivenFor, PollAnswersGiven, StartGives, TellGives, ended_with, key_at, pair_at, value_in, value_of, with_pair}
use Rattle.moka_small.specs.Small.{End, With_value, With_nothing, With_error, Stand, Begun, Asks, Was_told, Waits, Small, waiting, waits_for}
use Rattle.moka_small.specs.Polled.{begins, claims, ends_so, ends_with, gone_storing, gone_taking, greatest, has_to_leave, loads, or_else, owner_of, owns, polled, reads, taken_out, value_under}
use Rattle.moka_small.specs.Seen.{IsSeenAs}
use Rattle.moka_small.proofs.Serving.{has_owner}

-- the greatest that passes the test passes it
greatest_passes : (last : ℕ) (test : ℕ → Bool) (n : ℕ) → greatest last test ≡ Some n → test n ≡ true
greatest_passes zero test n e = by (test 0) refl e
  where
    by : (b : Bool) → test 0 ≡ b → cond b (Some 0) None ≡ Some n → test n ≡ true
    by true is e = ap test (sym (some_same e)) ∙ is
    by false is e = absurd (none_some e)
greatest_passes (suc k) test n e = by (test (suc k)) refl e (greatest_passes k test n)
  where
    by : (b : Bool) → test (suc k) ≡ b → cond b (Some (suc k)) (greatest k test) ≡ Some n →
        (greatest k test ≡ Some n → test n ≡ true) → test n ≡ true
    by true is e more = ap test (sym (some_same e)) ∙ is
    by false is e more = more e

-- an equal load is of an equal key
same_key : (a b : Bool) → (a && b) ≡ true → a ≡ true
same_key true b e = refl
same_key false b e = e

module _ {K V : Type 0} (eq : K → K → Bool) (given : List (K × V)) where
  -- what was given for one of two equal keys was for the other
  pub given_same : IsEquivalence eq → (key other : K) (value : V) → eq key other ≡ true →
      IsGivenFor eq given key value → IsGivenFor eq given other value
  given_same laws key other value same is =
      (is.0, is.1, laws.congr is.0 key other is.2 ∙ same)

  -- what was given still is once more was
  pub given_more : (pair : Option (K × V)) (key : K) (value : V) → IsGivenFor eq given key value →
      IsGivenFor eq (with_pair pair given) key value
  given_more None key value is = is
  given_more (Some pair) key value is =
      (is.0, (suc is.1.0, omega (arith, is.1.1), is.1.2), is.2)

  -- and so is the pair
  pub given_now : IsEquivalence eq → (x : Option (K × V)) (pair : K × V) → x ≡ Some pair →
      IsGivenFor eq (with_pair x given) pair.0 pair.1
  given_now laws None pair e = absurd (none_some e)
  given_now laws (Some own) pair e = by (some_same e)
    where
      by : own ≡ pair → IsGivenFor eq (own ∷ given) pair.0 pair.1
      by same = subst (λ q. IsGivenFor eq (own ∷ given) q.0 q.1) same
          (own.0, (0, omega arith, refl), laws.refl own.0)

module _ {K V E : Type 0} (eq : K → K → Bool) (m : Small K V E) (given : List (K × V)) (has : HasOnly eq given m) where
  -- the call goes elsewhere with what was given, and the others have no more than they had
  pub still_only : (n : ℕ) (x : Option (Stand K V E)) (stored : K → Option (V × ℕ)) (ends : ℕ → Option (End V E)) →
      ((key : K) (value : V) (stamp : ℕ) → stored key ≡ Some (value, stamp) → IsGivenFor eq given key value) →
      ((stand : Stand K V E) (pair : K × V) → x ≡ Some stand → pair_at ends stand ≡ Some pair → IsGivenFor eq given pair.0 pair.1) →
      ((k : ℕ) (stand : Stand K V E) (pair : K × V) → m.stands k ≡ Some stand → pair_at ends stand ≡ Some pair → IsGivenFor eq given pair.0 pair.1) →
      HasOnly eq given (record { stored = stored; stands = put_at m.stands n x; ends = ends; last = m.last; capacity = m.capacity })
  still_only n x stored ends stores here there = record {
    stored = stores;
    live = λ k stand pair is e. put_cases m.stands n x k (Some stand) _ is (λ same is. here stand pair is e) (λ other is. there k stand pair is e);
  }

  -- the call is gone, and what is stored was given
  gone_only : (n : ℕ) (stored : K → Option (V × ℕ)) →
      ((key : K) (value : V) (stamp : ℕ) → stored key ≡ Some (value, stamp) → IsGivenFor eq given key value) →
      HasOnly eq given (record { stored = stored; stands = put_at m.stands n None; ends = m.ends; last = m.last; capacity = m.capacity })
  gone_only n stored stores = still_only n None stored m.ends stores (λ stand pair is e. absurd (none_some is)) has.live

  -- a value that was given is stored under an equal key
  stored_only : IsEquivalence eq → (n : ℕ) (own : K) (given_value : V) → IsGivenFor eq given own given_value →
      (key : K) (value : V) (stamp : ℕ) → put_key eq m.stored own (Some (given_value, n)) key ≡ Some (value, stamp) →
      IsGivenFor eq given key value
  stored_only laws n own given_value is key value stamp e = by (eq own key) refl e
    where
      by : (b : Bool) → eq own key ≡ b → cond b (Some (given_value, n)) (m.stored key) ≡ Some (value, stamp) →
          IsGivenFor eq given key value
      by true same e = subst (λ v. IsGivenFor eq given key v) (ap (λ pair. pair.0) (some_same e))
          (given_same eq given laws own key given_value same is)
      by false same e = has.stored key value stamp e

  -- less is stored
  removed_only : (own key : K) (value : V) (stamp : ℕ) → put_key eq m.stored own None key ≡ Some (value, stamp) →
      IsGivenFor eq given key value
  removed_only own key value stamp e = by (eq own key) e
    where
      by : (b : Bool) → cond b None (m.stored key) ≡ Some (value, stamp) → IsGivenFor eq given key value
      by true e = absurd (none_some e)
      by false e = has.stored key value stamp e

  taken_only : (own key : K) (value : V) (stamp : ℕ) → taken_out eq m.stored own key ≡ Some (value, stamp) →
      IsGivenFor eq given key value
  taken_only own key value stamp e = by (is_some (m.stored own)) e
    where
      by : (b : Bool) → cond b (put_key eq m.stored own None) m.stored key ≡ Some (value, stamp) → IsGivenFor eq given key value
      by true e = removed_only own key value stamp e
      by false e = has.stored key value stamp e

  -- the value under a key was given for it
  under_only : (key : K) (value : V) → value_under m key ≡ Some value → IsGivenFor eq given key value
  under_only key value e = by (m.stored key) refl e
    where
      by : (x : Option (V × ℕ)) → m.stored key ≡ x → option_map (λ kept. kept.0) x ≡ Some value → IsGivenFor eq given key value
      by None is e = absurd (none_some e)
      by (Some kept) is e = subst (λ v. IsGivenFor eq given key v) (some_same e) (has.stored key kept.0 kept.1 is)

  -- fewer ends are kept
  fewer_ends : (test : ℕ → Bool) (stand : Stand K V E) (pair : K × V) →
      pair_at (λ o. cond (test o) None (m.ends o)) stand ≡ Some pair → pair_at m.ends stand ≡ Some pair
  fewer_ends test (Begun begin) pair e = e
  fewer_ends test (Asks load) pair e = absurd (none_some e)
  fewer_ends test (Was_told load end) pair e = e
  fewer_ends test (Waits owner load) pair e = by (test owner) e
    where
      by : (b : Bool) → ended_with load (cond b None (m.ends owner)) ≡ Some pair → ended_with load (m.ends owner) ≡ Some pair
      by true e = absurd (none_some e)
      by false e = e

  pub waiter_gone : (n : ℕ) → HasOnly eq given (record {
    stored = m.stored;
    stands = put_at m.stands n None;
    ends = λ o. cond (waits_for (m.stands n) o && waiting m o == 1) None (m.ends o);
    last = m.last;
    capacity = m.capacity;
  })
  waiter_gone n = still_only n None m.stored _ has.stored (λ stand pair is e. absurd (none_some is))
      (λ k stand pair is e. has.live k stand pair is (fewer_ends (λ o. waits_for (m.stands n) o && waiting m o == 1) stand pair e))

-- nothing is in an empty cache
pub empty_only : {K V E : Type 0} (eq : K → K → Bool) → EmptyHasNone K V E eq
empty_only eq capacity given = record {
  stored = λ key value stamp e. absurd (none_some e);
  live = λ n stand pair is e. absurd (none_some is);
}

module _ {K V E : Type 0} (eq : K → K → Bool) (laws : IsEquivalence eq) where
  -- the state still has no more once more was given
  wider : (m : Small K V E) (pair : Option (K × V)) (given : List (K × V)) → HasOnly eq given m → HasOnly eq (with_pair pair given) m
  wider m pair given has = record {
    stored = λ key value stamp e. given_more eq given pair key value (has.stored key value stamp e);
    live = λ n stand own is e. given_more eq given pair own.0 own.1 (has.live n stand own is e);
  }

  -- what a call has once it goes to where it has this pair
  put_only : (m : Small K V E) (n : ℕ) (there : Stand K V E) (given : List (K × V)) → HasOnly eq given m → (n_last : ℕ) →
      HasOnly eq (with_pair (pair_at m.ends there) given)
      (record { stored = m.stored; stands = put_at m.stands n (Some there); ends = m.ends; last = n_last; capacity = m.capacity })
  put_only m n there given has n_last = record {
    stored = (wider m (pair_at m.ends there) given has).stored;
    live = λ k stand pair is e. put_cases m.stands n (Some there) k (Some stand) _ is
        (λ same is. given_now eq given laws (pair_at m.ends there) pair (ap (pair_at m.ends) (some_same is) ∙ e))
        (λ other is. (wider m (pair_at m.ends there) given has).live k stand pair is e);
  }

  pub start_only : StartGives K V E eq
  start_only m begin given has = put_only m (m.last + 1) (Begun begin) given has (m.last + 1)

  pub tell_only : TellGives K V E eq
  tell_only m n load end given has = put_only m n (Was_told load end) given has m.last

  pub drop_only : DropGivesNone K V E eq
  drop_only m n given has = waiter_gone eq m given has n

  -- ---- a poll

  module _ (s : State K V E) (m : Small K V E) (n : ℕ) (given : List (K × V)) (seen : IsSeenAs eq s m) (has : HasOnly eq given m) where
    -- what the poll of a call of this key comes to was given
    abbrev Row : K → Outcome V E × Small K V E → Type 0
    Row key row = ((value : V) → value_in row.0 ≡ Some value → IsGivenFor eq given key value) × HasOnly eq given row.1

    -- the call is gone, and answers no value
    says_none : (key : K) (o : Outcome V E) (next : Small K V E) → value_in o ≡ None → HasOnly eq given next → Row key (o, next)
    says_none key o next none only = (λ value e. absurd (none_some (sym none ∙ e)), only)

    -- an owner of an equal load has not ended
    owner_open : (load : Load K) (owner : ℕ) → owner_of eq m load ≡ Some owner → m.ends owner ≡ None
    owner_open load owner e = by (m.ends owner) refl
      where
        by : (x : Option (End V E)) → m.ends owner ≡ x → m.ends owner ≡ None
        by None is = is
        by (Some end) is = absurd (false≢true
            (sym (ap (λ x. owns eq x load) (seen.views.orderly.ended owner end is).0) ∙
            greatest_passes m.last (λ k. owns eq (m.stands k) load) owner e))

    claims_only : (load : Load K) (x : Option ℕ) → owner_of eq m load ≡ x → Row load.key (claims m n load x)
    claims_only load None e = says_none load.key outcome.Asks _ refl
        (still_only eq m given has n (Some (Asks load)) m.stored m.ends has.stored
        (λ stand pair is e. absurd (none_some (ap (pair_at m.ends) (some_same is) ∙ e))) has.live)
    claims_only load (Some owner) e = says_none load.key outcome.Waits _ refl
        (still_only eq m given has n (Some (Waits owner load)) m.stored m.ends has.stored
        (λ stand pair is e2. absurd (none_some
        (sym (ap (ended_with load) (owner_open load owner e)) ∙ (ap (pair_at m.ends) (some_same is) ∙ e2)))) has.live)

    -- a load that answers what is stored, or else does another thing
    or_only : (key : K) (x : Option V) (other : Outcome V E × Small K V E) → value_under m key ≡ x → Row key other →
        Row key (or_else m n x other)
    or_only key None other e row = row
    or_only key (Some value) other e row = (
      λ v is. under_only eq m given has key v (e ∙ is),
      gone_only eq m given has n m.stored has.stored,
    )

    loads_only : (load : Load K) → Row load.key (loads eq m n load)
    loads_only load = or_only load.key (value_under m load.key) _ refl (claims_only load (owner_of eq m load) refl)

    -- a call that stores what it was started with
    stores_only : (key : K) (value : V) → IsGivenFor eq given key value → HasOnly eq given (gone_storing eq m n key value)
    stores_only key value is = gone_only eq m given has n _ (stored_only eq m given has laws n key value is)

    evicts_only : (key : K) (stamp : ℕ) (cause : Cause) → Row key (begins eq m n (start.Evict key stamp cause))
    evicts_only key stamp cause = by (has_to_leave m key stamp cause)
      where
        by : (b : Bool) → Row key (cond b (
          outcome.Evicted,
          record {
            stored = put_key eq m.stored key None;
            stands = put_at m.stands n None;
            ends = m.ends;
            last = m.last;
            capacity = m.capacity;
          },
        ) (
          outcome.Kept,
          record {
            stored = m.stored;
            stands = put_at m.stands n None;
            ends = m.ends;
            last = m.last;
            capacity = m.capacity;
          },
        ))
        by true = says_none key outcome.Evicted _ refl (gone_only eq m given has n _ (removed_only eq m given has key))
        by false = says_none key outcome.Kept _ refl (gone_only eq m given has n m.stored has.stored)

    -- so of a call that stands there
    abbrev Answers : Stand K V E → Outcome V E × Small K V E → Type 0
    Answers stand row = AnswersOnly eq given stand row.0 × HasOnly eq given row.1

    of_key : (key : K) (stand : Stand K V E) (row : Outcome V E × Small K V E) → Row key row →
        ((other : K) → key_at stand ≡ Some other → key ≡ other) → Answers stand row
    of_key key stand row r is = (
      λ other value there e. subst (λ k. IsGivenFor eq given k value) (is other there) (r.0 value e),
      r.1,
    )

    -- one that is not started here
    stays_put : (stand : Stand K V E) → Answers stand (outcome.Waits, m)
    stays_put stand = (λ other value there e. absurd (none_some e), has)

    -- so of one that begins
    of_begun : (begin : Start K V) (key : K) → key_started begin ≡ Some key → Row key (begins eq m n begin) →
        Answers (Begun begin) (begins eq m n begin)
    of_begun begin key e r = of_key key (Begun begin) (begins eq m n begin) r (λ other is. some_same (sym e ∙ is))

    begins_only : (begin : Start K V) → m.stands n ≡ Some (Begun begin) → Answers (Begun begin) (begins eq m n begin)
    begins_only (start.Get key) live = of_begun (start.Get key) key refl
        (λ value e. under_only eq m given has key value e, gone_only eq m given has n m.stored has.stored)
    begins_only (start.Insert key value) live = of_begun (start.Insert key value) key refl
        (says_none key outcome.Done (gone_storing eq m n key value) refl
        (stores_only key value (has.live n (Begun (start.Insert key value)) (key, value) live refl)))
    begins_only (start.GetWith key replace) live = of_begun (start.GetWith key replace) key refl
        (loads_only (record { key = key; kind = kind.GetWith }))
    begins_only (start.Optional key) live = of_begun (start.Optional key) key refl
        (loads_only (record { key = key; kind = kind.Optional }))
    begins_only (start.Try key) live = of_begun (start.Try key) key refl (loads_only (record { key = key; kind = kind.Try }))
    begins_only (start.OrInsert key value) live =
        let is = has.live n (Begun (start.OrInsert key value)) (key, value) live refl in
        of_begun (start.OrInsert key value) key refl
        (or_only key (value_under m key) (outcome.Loaded value true, gone_storing eq m n key value) refl
        (λ v e. subst (λ u. IsGivenFor eq given key u) (some_same e) is, stores_only key value is))
    begins_only (start.Compute key) live = stays_put (Begun (start.Compute key))
    begins_only (start.TryCompute key) live = stays_put (Begun (start.TryCompute key))
    begins_only (start.ComputeAlone key) live = stays_put (Begun (start.ComputeAlone key))
    begins_only (start.Upsert key) live = stays_put (Begun (start.Upsert key))
    begins_only (start.Invalidate key) live = of_begun (start.Invalidate key) key refl
        (says_none key outcome.Done (gone_taking eq m n key) refl (gone_only eq m given has n _ (taken_only eq m given has key)))
    begins_only (start.Remove key) live = of_begun (start.Remove key) key refl
        (λ value e. under_only eq m given has key value e, gone_only eq m given has n _ (taken_only eq m given has key))
    begins_only (start.Evict key stamp cause) live =
        of_begun (start.Evict key stamp cause) key refl (evicts_only key stamp cause)
    begins_only start.InvalidateAll live = stays_put (Begun start.InvalidateAll)
    begins_only (start.InvalidateIf test) live = stays_put (Begun (start.InvalidateIf test))
    begins_only start.Iter live = stays_put (Begun start.Iter)
    begins_only start.Pending live = stays_put (Begun start.Pending)

    -- ---- an owner that ends

    module _ (load : Load K) (end : End V E) (live : m.stands n ≡ Some (Was_told load end)) where
      -- who waits for it waits for an equal load
      waits_equal : (k : ℕ) (other : Load K) → m.stands k ≡ Some (Waits n other) → eq load.key other.key ≡ true
      waits_equal k other is = by (has_owner eq s m k n other seen is)
        where
          ended : (x : Option (End V E)) → m.ends n ≡ x → IsSome x → ⊥
          ended None e some = false≢true some
          ended (Some kept) e some = none_some (sym (seen.views.orderly.ended n kept e).0 ∙ live)

          by : (owns eq (m.stands n) other ≡ true) ⊎ IsSome (m.ends n) → eq load.key other.key ≡ true
          by (inl own) = same_key (eq load.key other.key) _ (sym (ap (λ x. owns eq x other) live) ∙ own)
          by (inr some) = absurd (ended (m.ends n) refl some)

      -- what it was told was given for its key
      told_given : (value : V) → value_of end ≡ Some value → IsGivenFor eq given load.key value
      told_given value e = has.live n _ (load.key, value) live (ap (option_map (λ v. (load.key, v))) e)

      -- so was what is kept for those that wait
      waits_given : (k owner : ℕ) (other : Load K) (pair : K × V) → m.stands k ≡ Some (Waits owner other) →
          pair_at (ends_with m n end) (Waits owner other) ≡ Some pair → IsGivenFor eq given pair.0 pair.1
      waits_given k owner other pair is e = by (nat_lt 0 (waiting m n)) (n == owner) refl e
        where
          now : m.stands k ≡ Some (Waits n other) → (x : Option V) → value_of end ≡ x →
              option_map (λ v. (other.key, v)) x ≡ Some pair → IsGivenFor eq given pair.0 pair.1
          now here None v e = absurd (none_some e)
          now here (Some value) v e = subst (λ q. IsGivenFor eq given q.0 q.1) (some_same e)
              (given_same eq given laws load.key other.key value (waits_equal k other here) (told_given value v))

          by : (a b : Bool) → (n == owner) ≡ b → ended_with other (cond (a && b) (Some end) (m.ends owner)) ≡ Some pair →
              IsGivenFor eq given pair.0 pair.1
          by true true same e = now (subst (λ o. m.stands k ≡ Some (Waits o other)) (sym (eqb-true n owner same)) is) (value_of end) refl e
          by true false same e = has.live k _ pair is e
          by false true same e = has.live k _ pair is e
          by false false same e = has.live k _ pair is e

      others_given : (k : ℕ) (stand : Stand K V E) (pair : K × V) → m.stands k ≡ Some stand →
          pair_at (ends_with m n end) stand ≡ Some pair → IsGivenFor eq given pair.0 pair.1
      others_given k (Begun begin) pair is e = has.live k _ pair is e
      others_given k (Asks other) pair is e = absurd (none_some e)
      others_given k (Was_told other ended) pair is e = has.live k _ pair is e
      others_given k (Waits owner other) pair is e = waits_given k owner other pair is e

    -- it stores a value, and nothing else
    ends_only : (load : Load K) (end : End V E) → m.stands n ≡ Some (Was_told load end) → Row load.key (ends_so eq m n load end)
    ends_only load (With_value value) live = (
      λ v e. told_given load (With_value value) live v e,
      still_only eq m given has n None _ _ (stored_only eq m given has laws n load.key value (told_given load (With_value value) live value refl))
          (λ stand pair is e. absurd (none_some is)) (others_given load (With_value value) live),
    )
    ends_only load With_nothing live = says_none load.key outcome.Nothing _ refl
        (still_only eq m given has n None m.stored _ has.stored (λ stand pair is e. absurd (none_some is)) (others_given load With_nothing live))
    ends_only load (With_error error) live = says_none load.key (outcome.Failed error) _ refl
        (still_only eq m given has n None m.stored _ has.stored (λ stand pair is e. absurd (none_some is)) (others_given load (With_error error) live))

    -- ---- a call that waits

    reads_only : (load : Load K) (owner : ℕ) → m.stands n ≡ Some (Waits owner load) → Row load.key (reads m n (m.ends owner))
    reads_only load owner live = by (m.ends owner) refl
      where
        answers : (end : End V E) → m.ends owner ≡ Some end → (value : V) → value_of end ≡ Some value → IsGivenFor eq given load.key value
        answers end is value e = has.live n _ (load.key, value) live (ap (ended_with load) is ∙ ap (option_map (λ v. (load.key, v))) e)

        by : (x : Option (End V E)) → m.ends owner ≡ x → Row load.key (reads m n x)
        by None e = says_none load.key outcome.Waits m refl has
        by (Some (With_value value)) e = (λ v is. answers (With_value value) e v is, waiter_gone eq m given has n)
        by (Some With_nothing) e = says_none load.key outcome.Nothing _ refl (waiter_gone eq m given has n)
        by (Some (With_error error)) e = says_none load.key (outcome.Failed error) _ refl (waiter_gone eq m given has n)

    polls_only : (stand : Stand K V E) → m.stands n ≡ Some stand → Answers stand (polled eq m n stand)
    polls_only (Begun begin) live = begins_only begin live
    polls_only (Asks load) live = stays_put (Asks load)
    polls_only (Was_told load end) live = of_key load.key (Was_told load end) (ends_so eq m n load end) (ends_only load end live) (λ other e. some_same e)
    polls_only (Waits owner load) live = of_key load.key (Waits owner load) (reads m n (m.ends owner)) (reads_only load owner live) (λ other e. some_same e)

  pub poll_only : PollAnswersGiven K V E eq
  poll_only s m n stand given seen live has = polls_only s m n given seen has stand live
