-- What whole calls come to where no other call is live.
use Rattle.std.proofs.Common.{◌≡◌, ◌+◌, ℕ, zero, suc, ◌==◌, nat_eq, Bool, true, false, cond, ◌&&◌, Option, Some, None, is_some, refl, sym, ap, ◌∙◌, subst}
use Rattle.std.proofs.lemmas.Bool.{eq-eqb, eqb-true, false≢true}
use Rattle.std.specs.Option.{option_map, option_map_or}
use Rattle.moka_hist.specs.Finite.{put_at, put_key}
use Rattle.moka_hist.specs.declared.events.Start.{Start}
use Rattle.moka_hist.specs.declared.events.Start.TheVariants as start
use Rattle.moka_hist.specs.declared.loads.Load.{Load}
use Rattle.moka_hist.specs.declared.rules.Cause.TheVariants as cause
use Rattle.moka_laws.specs.Readers.{how_many}
use Rattle.moka_small.specs.declared.outcome.Outcome.{Outcome}
use Rattle.moka_small.specs.declared.outcome.Outcome.TheVariants as outcome
use Rattle.moka_small.specs.Small.{Asks, Begun, End, Small, Stand, Was_told, With_nothing, With_value, started, waiting, waits_for, with_stand}
use Rattle.moka_small.specs.Polled.{claims, gone_waiter, greatest, has_to_leave, or_else, owner_of, owns, polled, value_under}
use Rattle.moka_behind.specs.Holding.{IsAsking, IsIdle, load_of, run_of}
use Rattle.moka_behind.specs.Looking.{end_of}

none_some : {A P : Type 0} {x : A} → None ≡ Some x → P
none_some e = absurd (cc)

-- ---- tests that no number passes

pub none_passes : (last : ℕ) (test : ℕ → Bool) → ((k : ℕ) → test k ≡ false) → greatest last test ≡ None
none_passes zero test fails = ap (λ b. cond b (Some 0) None) (fails 0)
none_passes (suc k) test fails =
    ap (λ b. cond b (Some (suc k)) (greatest k test)) (fails (suc k)) ∙ none_passes k test fails

pub none_counted : (last : ℕ) (test : ℕ → Bool) → ((k : ℕ) → test k ≡ false) → how_many last test ≡ 0
none_counted zero test fails = ap (λ b. cond b 1 0) (fails 0)
none_counted (suc k) test fails =
    ap (λ b. how_many k test + cond b 1 0) (fails (suc k)) ∙ ap (λ (n : ℕ). n + 0) (none_counted k test fails)

-- ---- one place changed

gone_at : {A : Type 0} (b : Bool) (s o : Option A) → o ≡ None → cond b None (cond b s o) ≡ None
gone_at true s o e = refl
gone_at false s o e = e

over_at : {A : Type 0} (b : Bool) (v s o p : Option A) → o ≡ p → cond b v (cond b s o) ≡ cond b v p
over_at true v s o p e = refl
over_at false v s o p e = e

gone_once : {A : Type 0} (b : Bool) (s : Option A) → cond b None (cond b s None) ≡ None
gone_once true s = refl
gone_once false s = refl

fst_at : (b : Bool) (v n : ℕ) (o : Option (ℕ × ℕ)) →
    option_map (λ kept. kept.0) (cond b (Some (v, n)) o) ≡ cond b (Some v) (option_map (λ kept. kept.0) o)
fst_at true v n o = refl
fst_at false v n o = refl

module _ {E : Type 0} (m : Small ℕ ℕ E) (idle : IsIdle m) where
  abbrev next : ℕ
  next = m.last + 1

  -- once the call of the next number is gone, none is live
  gone_calls : (begin : Start ℕ ℕ) (k : ℕ) → put_at (put_at m.stands next (Some (Begun begin))) next None k ≡ None
  gone_calls begin k = gone_at (next == k) (Some (Begun begin)) (m.stands k) (idle.calls k)

  -- a set
  pub run_insert-idle : (key value : ℕ) → IsIdle (run_of m (start.Insert key value)).1
  run_insert-idle key value = record {
    calls = gone_calls (start.Insert key value);
    bounded = idle.bounded;
  }

  pub run_insert-values : (key value q : ℕ) →
      value_under (run_of m (start.Insert key value)).1 q ≡ put_at (λ k. value_under m k) key (Some value) q
  run_insert-values key value q = fst_at (key == q) value next (m.stored q)

  -- a del
  pub run_invalidate-idle : (key : ℕ) → IsIdle (run_of m (start.Invalidate key)).1
  run_invalidate-idle key = record {
    calls = gone_calls (start.Invalidate key);
    bounded = idle.bounded;
  }

  none_at : (b : Bool) (o : Option (ℕ × ℕ)) →
      option_map (λ kept. kept.0) (cond b None o) ≡ cond b None (option_map (λ kept. kept.0) o)
  none_at true o = refl
  none_at false o = refl

  absent_at : (b : Bool) (o : Option ℕ) → (b ≡ true → o ≡ None) → o ≡ cond b None o
  absent_at true o e = e refl
  absent_at false o e = refl

  taken_by : (key q : ℕ) (had : Option (ℕ × ℕ)) → m.stored key ≡ had →
      option_map (λ kept. kept.0) (cond (is_some had) (put_key nat_eq m.stored key None) m.stored q)
      ≡ cond (key == q) None (value_under m q)
  taken_by key q (Some kept) e = none_at (key == q) (m.stored q)
  taken_by key q None e =
      absent_at (key == q) (value_under m q)
      (λ h. ap (λ (o : Option (ℕ × ℕ)). option_map (λ kept. kept.0) o) (ap m.stored (sym (eqb-true key q h)) ∙ e))

  pub run_invalidate-values : (key q : ℕ) →
      value_under (run_of m (start.Invalidate key)).1 q ≡ put_at (λ k. value_under m k) key None q
  run_invalidate-values key q =
      subst (λ (o : Option (ℕ × ℕ)). option_map (λ kept. kept.0) (cond (is_some o) (put_key nat_eq m.stored key None) m.stored q)
      ≡ cond (key == q) None (value_under m q))
      refl (taken_by key q (m.stored key) refl)

  -- ---- a look

  -- nobody owns the load
  owns_at : (begin : Start ℕ ℕ) (load : Load ℕ) (b : Bool) (o : Option (Stand ℕ ℕ E)) → o ≡ None →
      owns nat_eq (cond b (Some (Begun begin)) o) load ≡ false
  owns_at begin load true o e = refl
  owns_at begin load false o e = ap (λ (s : Option (Stand ℕ ℕ E)). owns nat_eq s load) e

  pub no_owner : (begin : Start ℕ ℕ) (load : Load ℕ) → owner_of nat_eq (started m begin) load ≡ None
  no_owner begin load =
      none_passes next (λ n. owns nat_eq ((started m begin).stands n) load)
      (λ k. owns_at begin load (next == k) (m.stands k) (idle.calls k))

  -- what the look comes to, where the key is stored or isn't
  pub run_optional-found : (key value : ℕ) → value_under m key ≡ Some value →
      ((run_of m (start.Optional key)).0 ≡ outcome.Loaded value false)
      × IsIdle (run_of m (start.Optional key)).1
      × ((q : ℕ) → value_under (run_of m (start.Optional key)).1 q ≡ value_under m q)
  run_optional-found key value e =
      let begin : Start ℕ ℕ = start.Optional key in
      let m1 : Small ℕ ℕ E = started m begin in
      let other : Outcome ℕ E × Small ℕ ℕ E = claims m1 next (load_of key) (owner_of nat_eq m1 (load_of key)) in
      let P : Option ℕ → Type 0 = λ o.
      ((or_else m1 next o other).0 ≡ outcome.Loaded value false)
      × IsIdle (or_else m1 next o other).1
      × ((q : ℕ) → value_under (or_else m1 next o other).1 q ≡ value_under m q) in
      subst P (sym e) (refl, record { calls = gone_calls begin; bounded = idle.bounded }, λ q. refl)

  asks_calls : (begin : Start ℕ ℕ) (load : Load ℕ) (k : ℕ) →
      put_at (put_at m.stands next (Some (Begun begin))) next (Some (Asks load)) k
      ≡ put_at (λ other. None) next (Some (Asks load)) k
  asks_calls begin load k =
      over_at (next == k) (Some (Asks load)) (Some (Begun begin)) (m.stands k) None (idle.calls k)

  pub run_optional-asks : (key : ℕ) → value_under m key ≡ None →
      ((run_of m (start.Optional key)).0 ≡ outcome.Asks)
      × IsAsking next key (run_of m (start.Optional key)).1
      × ((q : ℕ) → value_under (run_of m (start.Optional key)).1 q ≡ value_under m q)
  run_optional-asks key e =
      let begin : Start ℕ ℕ = start.Optional key in
      let m1 : Small ℕ ℕ E = started m begin in
      let P : Option ℕ → Option ℕ → Type 0 = λ o w.
      ((or_else m1 next o (claims m1 next (load_of key) w)).0 ≡ outcome.Asks)
      × IsAsking next key (or_else m1 next o (claims m1 next (load_of key) w)).1
      × ((q : ℕ) → value_under (or_else m1 next o (claims m1 next (load_of key) w)).1 q ≡ value_under m q) in
      subst (λ (o : Option ℕ). P o (owner_of nat_eq m1 (load_of key))) (sym e)
      (subst (λ (w : Option ℕ). P None w) (sym (no_owner begin (load_of key)))
      (refl, record { calls = asks_calls begin (load_of key); bounded = idle.bounded; absent = e }, λ q. refl))

  -- ---- an eviction

  pub run_evict : (key stamp value : ℕ) → m.stored key ≡ Some (value, stamp) →
      IsIdle (run_of m (start.Evict key stamp cause.Size)).1
      × ((q : ℕ) → (run_of m (start.Evict key stamp cause.Size)).1.stored q ≡ put_key nat_eq m.stored key None q)
  run_evict key stamp value e =
      let begin : Start ℕ ℕ = start.Evict key stamp cause.Size in
      let m1 : Small ℕ ℕ E = started m begin in
      leaves (has_to_leave m1 key stamp cause.Size) holds
    where
      both : (a b : Bool) → a ≡ true → b ≡ true → (a && b) ≡ true
      both a b f g = ap (λ (x : Bool). x && b) f ∙ g

      holds : has_to_leave (started m (start.Evict key stamp cause.Size)) key stamp cause.Size ≡ true
      holds =
          ap (λ (o : Option (ℕ × ℕ)). option_map_or (λ kept. kept.1 == stamp && is_some m.capacity) o false) e
          ∙ both (stamp == stamp) (is_some m.capacity) (eq-eqb stamp stamp refl) idle.bounded

      leaves : (b : Bool) → b ≡ true →
          let begin : Start ℕ ℕ = start.Evict key stamp cause.Size in
          let m1 : Small ℕ ℕ E = started m begin in
          let r : Outcome ℕ E × Small ℕ ℕ E =
          cond b (outcome.Evicted, record (with_stand m1 next None) { stored = put_key nat_eq m1.stored key None })
          (outcome.Kept, with_stand m1 next None) in
          IsIdle r.1 × ((q : ℕ) → r.1.stored q ≡ put_key nat_eq m.stored key None q)
      leaves true h = (record { calls = gone_calls (start.Evict key stamp cause.Size); bounded = idle.bounded }, λ q. refl)
      leaves false h = absurd (false≢true h)

module _ {E : Type 0} (m : Small ℕ ℕ E) (call key : ℕ) (asking : IsAsking call key m) where
  -- the call asks
  pub asks_here : m.stands call ≡ Some (Asks (load_of key))
  asks_here =
      asking.calls call
      ∙ ap (λ (b : Bool). cond b (Some (Asks (load_of key))) None) (eq-eqb call call refl)

  waits_at : (b : Bool) → waits_for {K = ℕ} {V = ℕ} {E = E} (cond b (Some (Asks (load_of key))) None) call ≡ false
  waits_at true = refl
  waits_at false = refl

  -- nobody waits for it
  pub none_waits : waiting m call ≡ 0
  none_waits =
      none_counted m.last (λ n. waits_for (m.stands n) call)
      (λ k. ap (λ (s : Option (Stand ℕ ℕ E)). waits_for s call) (asking.calls k) ∙ waits_at (call == k))

  gone_stands : (s : Option (Stand ℕ ℕ E)) (k : ℕ) → put_at (put_at m.stands call s) call None k ≡ None
  gone_stands s k =
      ap (λ (o : Option (Stand ℕ ℕ E)). cond (call == k) None (cond (call == k) s o)) (asking.calls k)
      ∙ twice (call == k) s
    where
      twice : (b : Bool) (s : Option (Stand ℕ ℕ E)) →
          cond b None (cond b s (cond b (Some (Asks (load_of key))) None)) ≡ None
      twice true s = refl
      twice false s = refl

  -- its owner was told this
  abbrev told : End ℕ E → Small ℕ ℕ E
  told end = with_stand m call (Some (Was_told (load_of key) end))

  pub told_here : (end : End ℕ E) → (told end).stands call ≡ Some (Was_told (load_of key) end)
  told_here end =
      ap (λ (b : Bool). cond b (Some (Was_told (load_of key) end)) (m.stands call)) (eq-eqb call call refl)

  -- and is polled to its end
  pub answered-idle : (found : Option ℕ) →
      IsIdle (polled nat_eq (told (end_of found)) call (Was_told (load_of key) (end_of found))).1
  answered-idle None = record {
    calls = gone_stands (Some (Was_told (load_of key) With_nothing));
    bounded = asking.bounded;
  }
  answered-idle (Some value) = record {
    calls = gone_stands (Some (Was_told (load_of key) (With_value value)));
    bounded = asking.bounded;
  }

  absent_put : (b : Bool) (o : Option ℕ) → (b ≡ true → o ≡ None) → o ≡ cond b None o
  absent_put true o e = e refl
  absent_put false o e = refl

  pub answered-values : (found : Option ℕ) (q : ℕ) →
      value_under (polled nat_eq (told (end_of found)) call (Was_told (load_of key) (end_of found))).1 q
      ≡ put_at (λ k. value_under m k) key found q
  answered-values None q =
      absent_put (key == q) (value_under m q)
      (λ h. ap (λ (k : ℕ). value_under m k) (sym (eqb-true key q h)) ∙ asking.absent)
  answered-values (Some value) q = fst_at (key == q) value call (m.stored q)

  -- or it is dropped
  pub dropped-idle : IsIdle (gone_waiter m call)
  dropped-idle = record { calls = dropped_calls; bounded = asking.bounded }
    where
      twice : (b : Bool) → ◌≡◌ {A = Option (Stand ℕ ℕ E)} (cond b None (cond b (Some (Asks (load_of key))) None)) None
      twice true = refl
      twice false = refl

      dropped_calls : (k : ℕ) → put_at m.stands call None k ≡ None
      dropped_calls k =
          ap (λ (o : Option (Stand ℕ ℕ E)). cond (call == k) None o) (asking.calls k) ∙ twice (call == k)
