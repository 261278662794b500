-- A request leaves the list of its key.
use Rattle.std.proofs.Common.{◌≡◌, ◌≢◌, ◌⊎◌, ℕ, zero, suc, ◌+◌, ◌≤◌, ◌==◌, Bool, true, false, cond, List, [], ◌∷◌, drop, length, Option, Some, None, IsSome, is_some, refl, sym, ap, ◌∙◌, subst, arith, inl, inr}
use Rattle.std.specs.Option.{option_and_then}
use borrow.Author.Tests.{eqb-true}
use Rattle.moka_hist.specs.Finite.{put_at}
use Rattle.moka_laws.specs.Readers.{how_many}
use Rattle.moka_laws.proofs.Counting.{none_some, some_same, same_number, differ, differ_not, put_cases, put_here, put_there}
use Rattle.moka_small.specs.Small.{Asks, Stand, Waits, waiting, waits_for}
use Rattle.moka_small.specs.Polled.{gone_waiter}
use Rattle.moka_collapsing.specs.declared.slot.Place.{Place}
use Rattle.moka_collapsing.specs.declared.slot.Slot.TheVariants as slot
use Rattle.moka_collapsing.specs.Upstream.{Upstream, Waiter, left, without}
use Rattle.moka_collapsing.specs.Waiting.{Waiting, first_of, freed, next_call, place_of, unless_empty, without_waiter}
use Rattle.moka_collapsing.specs.Standing.{IsFree, AsksFor, Cache, IsListOf, Serves, WaitsFor, WaitsOn, load_of, requests_on}
use Rattle.moka_collapsing.specs.Coming.{IsLeft, RequestsLeave}
use Rattle.moka_collapsing.proofs.Listed.{each_both, each_found, each_without, distinct_without, found_without, hit, hit_self, hits, miss, missed, others_without}
use Rattle.moka_collapsing.specs.Settling.{key_at}
use Rattle.moka_collapsing.proofs.Serving.{list_stays}

none_pass : (n : ℕ) (test : ℕ → Bool) → ((b : ℕ) → test b ≡ true → ⊥) → how_many n test ≡ 0
none_pass zero test none = by (test 0) refl
  where
    by : (t : Bool) → test 0 ≡ t → cond {A = ℕ} t 1 0 ≡ 0
    by true e = absurd (none 0 e)
    by false e = refl
none_pass (suc n) test none = by (test (suc n)) refl (none_pass n test none)
  where
    by : (t : Bool) → test (suc n) ≡ t → how_many n test ≡ 0 → how_many n test + cond {A = ℕ} t 1 0 ≡ 0
    by true e rest = absurd (none (suc n) e)
    by false e rest = omega (arith, rest)

-- a call is dropped, for which nobody waits
module _ (m : Cache) (lists : ℕ → Option Waiting) (u : Upstream) (serves : Serves m lists u) where
  pub nobody_waits : (call : ℕ) → ((n : ℕ) (s : Stand ℕ ℕ ℕ) (w : WaitsFor lists n s) → w.list.asking ≡ call → ⊥) → waiting m call ≡ 0
  nobody_waits call none = none_pass m.last (λ n. waits_for (m.stands n) call) (λ n e. by n (m.stands n) refl e)
    where
      of : (n : ℕ) (s : Stand ℕ ℕ ℕ) → AsksFor lists n s ⊎ WaitsFor lists n s → waits_for (Some s) call ≡ true → ⊥
      of n s (inl a) e = absurd (false_is (sym (ap (λ x. waits_for (Some x) call) a.stands) ∙ e))
        where
          false_is : false ≡ true → ⊥
          false_is f = cc
      of n s (inr a) e = none n s a (eqb-true a.list.asking call (sym (ap (λ x. waits_for (Some x) call) a.stands) ∙ e))

      by : (n : ℕ) (x : Option (Stand ℕ ℕ ℕ)) → m.stands n ≡ x → waits_for x call ≡ true → ⊥
      by n None is e = absurd (false_is e)
        where
          false_is : false ≡ true → ⊥
          false_is f = cc
      by n (Some s) is e = of n s (serves.only n s is) e

-- what is left of the list of a key once a call was dropped
pub record Drops (m : Cache) (lists : ℕ → Option Waiting) (key number : ℕ) (w : Waiting) (call : ℕ) (rest : Option Waiting) : Type 0 where
  pub on : lists key ≡ Some w
  pub live : IsSome (m.stands call)
  pub alone : waiting m call ≡ 0
  pub mine : (s : Stand ℕ ℕ ℕ) → m.stands call ≡ Some s → key_at s ≡ Some key
  pub requests : requests_on rest ≡ without number w.requests
  pub list : (v : Waiting) → rest ≡ Some v → IsListOf (gone_waiter m call) key v
  pub asker : w.asking ≢ call → (v : Waiting) × (rest ≡ Some v) × (v.asking ≡ w.asking)
  pub waiter : (n : ℕ) (p : Place) → place_of (drop 1 w.requests) n ≡ Some p → n ≢ call →
      (v : Waiting) × (q : Place) × (rest ≡ Some v) × (v.asking ≡ w.asking) × (place_of (drop 1 v.requests) n ≡ Some q)

module _ (m : Cache) (lists lists1 : ℕ → Option Waiting) (u : Upstream) (key number : ℕ) (w : Waiting) (call : ℕ) (rest : Option Waiting)
    (serves : Serves m lists u) (d : Drops m lists key number w call rest) (on1 : (k : ℕ) → lists1 k ≡ put_at lists key rest k) where
  abbrev m1 : Cache
  m1 = gone_waiter m call

  others_on : (k : ℕ) → (key == k) ≡ false → lists1 k ≡ lists k
  others_on k other = on1 k ∙ put_there lists key rest k other

  key_on : lists1 key ≡ rest
  key_on = on1 key ∙ put_here lists key rest

  asker_stays : (n : ℕ) (s : Stand ℕ ℕ ℕ) → n ≢ call → AsksFor lists n s → AsksFor lists1 n s
  asker_stays n s still a = by (key == a.key) refl
    where
      by : (t : Bool) → (key == a.key) ≡ t → AsksFor lists1 n s
      by false other = record { key = a.key; list = a.list; on = others_on a.key other ∙ a.on; call = a.call; stands = a.stands }
      by true same =
          let keys : key ≡ a.key = eqb-true key a.key same in
          let is : a.list ≡ w = some_same (sym a.on ∙ sym (ap lists keys) ∙ d.on) in
          let asks : n ≡ w.asking = a.call ∙ ap (λ l. l.asking) is in
          let v = d.asker (λ e. still (asks ∙ e)) in
          record { key = key; list = v.0; on = key_on ∙ v.1; call = asks ∙ sym v.2; stands = a.stands ∙ ap (λ k. Asks (load_of k)) (sym keys) }

  waiter_stays : (n : ℕ) (s : Stand ℕ ℕ ℕ) → n ≢ call → WaitsFor lists n s → WaitsFor lists1 n s
  waiter_stays n s still a = by (key == a.key) refl
    where
      by : (t : Bool) → (key == a.key) ≡ t → WaitsFor lists1 n s
      by false other = record { key = a.key; list = a.list; on = others_on a.key other ∙ a.on; place = a.place; call = a.call; stands = a.stands }
      by true same =
          let keys : key ≡ a.key = eqb-true key a.key same in
          let is : a.list ≡ w = some_same (sym a.on ∙ sym (ap lists keys) ∙ d.on) in
          let v = d.waiter n a.place (ap (λ l. place_of (drop 1 l.requests) n) (sym is) ∙ a.call) still in
          record {
            key = key;
            list = v.0;
            on = key_on ∙ v.2;
            place = v.1;
            call = v.4;
            stands = a.stands ∙ ap (λ o. Waits o (load_of a.key)) (ap (λ l. l.asking) is ∙ sym v.3) ∙ ap (λ k. Waits v.0.asking (load_of k)) (sym keys);
          }

  either_stays : (n : ℕ) (s : Stand ℕ ℕ ℕ) → n ≢ call → AsksFor lists n s ⊎ WaitsFor lists n s → AsksFor lists1 n s ⊎ WaitsFor lists1 n s
  either_stays n s still (inl a) = inl (asker_stays n s still a)
  either_stays n s still (inr a) = inr (waiter_stays n s still a)

  pub serves_left : Serves m1 lists1 (left u (slot.Waits key number))
  serves_left =
      record {
        stored = serves.stored;
        last = serves.last;
        waiting = λ k. on_of k (key == k) refl;
        listed = λ k v on. list_of k v on (key == k) refl;
        only = λ n s e. put_cases m.stands call None n (Some s) (AsksFor lists1 n s ⊎ WaitsFor lists1 n s) e
            (λ same is. absurd (none_some is))
            (λ other is. either_stays n s (λ e. differ_not call n other (sym e)) (serves.only n s is));
      }
    where
      on_of : (k : ℕ) (t : Bool) → (key == k) ≡ t → requests_on (lists1 k) ≡ put_at u.waiting key (without number (u.waiting key)) k
      on_of k true same =
          subst (λ q. requests_on (lists1 q) ≡ put_at u.waiting key (without number (u.waiting key)) q) (eqb-true key k same)
          (ap requests_on key_on ∙ d.requests ∙ ap (λ l. without number l) (sym (ap requests_on d.on) ∙ serves.waiting key) ∙ sym (put_here u.waiting key (without number (u.waiting key))))
      on_of k false other = ap requests_on (others_on k other) ∙ serves.waiting k ∙ sym (put_there u.waiting key (without number (u.waiting key)) k other)

      list_of : (k : ℕ) (v : Waiting) → lists1 k ≡ Some v → (t : Bool) → (key == k) ≡ t → IsListOf m1 k v
      list_of k v on true same =
          let keys : key ≡ k = eqb-true key k same in
          subst (λ q. IsListOf m1 q v) keys (d.list v (sym key_on ∙ ap lists1 keys ∙ on))
      list_of k v on false other =
          list_stays m m1 k v (serves.listed k v (sym (others_on k other) ∙ on)) (omega arith)
          (λ n s is e. put_there m.stands call None n (differ call n (λ same. differ_not key k other (some_same (sym (d.mine s (ap m.stands same ∙ e)) ∙ is)))) ∙ e)

-- ---- the three ways to leave

abbrev asks_for : ℕ → Option (Stand ℕ ℕ ℕ)
asks_for key = Some (Asks (load_of key))

abbrev waits_on : ℕ → ℕ → Option (Stand ℕ ℕ ℕ)
waits_on owner key = Some (Waits owner (load_of key))

asks_waits : (l k : ℕ) (o : ℕ) → asks_for l ≡ waits_on o k → ⊥
asks_waits l k o e = cc

asks_key : (l k : ℕ) → asks_for l ≡ asks_for k → l ≡ k
asks_key l k e = some_same (ap (λ (x : Option (Stand ℕ ℕ ℕ)). option_and_then key_at x) e)

-- a call that waits is dropped: nobody waits for it
module _ (m : Cache) (lists : ℕ → Option Waiting) (u : Upstream) (key call : ℕ) (w : Waiting) (serves : Serves m lists u)
    (on : lists key ≡ Some w) (waits : WaitsOn m w.asking key call) where
  waiter_alone : waiting m call ≡ 0
  waiter_alone = nobody_waits m lists u serves call (λ n s v same.
      asks_waits v.key key w.asking (sym (serves.listed v.key v.list v.on).asks ∙ ap m.stands same ∙ waits))

  waiter_mine : (s : Stand ℕ ℕ ℕ) → m.stands call ≡ Some s → key_at s ≡ Some key
  waiter_mine s e = ap key_at (some_same (sym e ∙ waits))

  waiter_live : IsSome (m.stands call)
  waiter_live = ap is_some waits

  still_asks : m.stands w.asking ≡ Some (Asks (load_of key)) → (gone_waiter m call).stands w.asking ≡ Some (Asks (load_of key))
  still_asks asks = put_there m.stands call None w.asking (differ call w.asking (λ same. asks_waits key key w.asking (sym asks ∙ sym (ap m.stands same) ∙ waits))) ∙ asks

  still_wait : (v : Waiter) → v.0 ≢ call → WaitsOn m w.asking key v.0 → WaitsOn (gone_waiter m call) w.asking key v.0
  still_wait v other h = put_there m.stands call None v.0 (differ call v.0 (λ e. other (sym e))) ∙ h

module _ (m : Cache) (lists : ℕ → Option Waiting) (u : Upstream) (key number asking : ℕ) (first : Waiter) (ws : List Waiter) (serves : Serves m lists u)
    (on : lists key ≡ Some (record { asking = asking; requests = first ∷ ws })) where
  abbrev whole : Waiting
  whole = record { asking = asking; requests = first ∷ ws }

  is : IsListOf m key whole
  is = serves.listed key whole on

  -- one that is not the first leaves
  pub later_leaves : (p : Place) → place_of ws number ≡ Some p → Drops m lists key number whole number (Some (record { asking = asking; requests = first ∷ without number ws }))
  later_leaves p found =
      let waits : WaitsOn m asking key number = each_found (λ n. WaitsOn m asking key n) number p ws is.waits found in
      let other : first.0 ≢ number = λ e. each_found (λ n. n ≢ first.0) number p ws is.distinct.0 found (sym e) in
      record {
        on = on;
        live = waiter_live m lists u key number whole serves on waits;
        alone = waiter_alone m lists u key number whole serves on waits;
        mine = waiter_mine m lists u key number whole serves on waits;
        requests = ap (λ t. cond t ws (first ∷ without number ws)) (sym (miss number first.0 (λ e. other (sym e))));
        list = λ v same. subst (λ x. IsListOf (gone_waiter m number) key x) (some_same same) (record {
          some = omega arith;
          distinct = (each_without (λ v. v.0 ≢ first.0) number ws is.distinct.0, distinct_without number ws is.distinct.1);
          numbered = (is.numbered.0, each_without (λ v. v.0 ≤ m.last) number ws is.numbered.1);
          asks = still_asks m lists u key number whole serves on waits is.asks;
          waits = each_both (λ v. v.0 ≢ number) (λ v. WaitsOn m asking key v.0) (λ v. WaitsOn (gone_waiter m number) asking key v.0)
              (λ v. still_wait m lists u key number whole serves on waits v) (without number ws)
              (others_without number ws is.distinct.1) (each_without (λ v. WaitsOn m asking key v.0) number ws is.waits);
        });
        asker = λ still. (record { asking = asking; requests = first ∷ without number ws }, refl, refl);
        waiter = λ n q found_n still. (record { asking = asking; requests = first ∷ without number ws }, q, refl, refl, found_without number n q ws still found_n);
      }

-- the first leaves, and its call is handed over to the next, whose own call is dropped
pub first_leaves : (m : Cache) (lists : ℕ → Option Waiting) (u : Upstream) (key number asking : ℕ) (first next : Waiter) (ws : List Waiter) → Serves m lists u →
    lists key ≡ Some (record { asking = asking; requests = first ∷ next ∷ ws }) → number ≡ first.0 →
    Drops m lists key number (record { asking = asking; requests = first ∷ next ∷ ws }) next.0 (Some (record { asking = asking; requests = next ∷ ws }))
first_leaves m lists u key number asking first next ws serves on same =
    let whole : Waiting = record { asking = asking; requests = first ∷ next ∷ ws } in
    let is = serves.listed key whole on in
    let waits : WaitsOn m asking key next.0 = is.waits.0 in
    record {
      on = on;
      live = waiter_live m lists u key next.0 whole serves on waits;
      alone = waiter_alone m lists u key next.0 whole serves on waits;
      mine = waiter_mine m lists u key next.0 whole serves on waits;
      requests = ap (λ t. cond t (next ∷ ws) (first ∷ without number (next ∷ ws))) (sym (subst (λ n. hits number n ≡ true) same (hit_self number)));
      list = λ v e. subst (λ x. IsListOf (gone_waiter m next.0) key x) (some_same e) (record {
        some = omega arith;
        distinct = is.distinct.1;
        numbered = is.numbered.1;
        asks = still_asks m lists u key next.0 whole serves on waits is.asks;
        waits = each_both (λ v. v.0 ≢ next.0) (λ v. WaitsOn m asking key v.0) (λ v. WaitsOn (gone_waiter m next.0) asking key v.0)
            (λ v. still_wait m lists u key next.0 whole serves on waits v) ws is.distinct.1.0 is.waits.1;
      });
      asker = λ still. (record { asking = asking; requests = next ∷ ws }, refl, refl);
      waiter = λ n q found still. (record { asking = asking; requests = next ∷ ws }, q, refl, refl, past n q (hits n next.0) refl still found);
    }
  where
    past : (n : ℕ) (q : Place) (t : Bool) → hits n next.0 ≡ t → n ≢ next.0 → cond t (Some next.1) (place_of ws n) ≡ Some q → place_of ws n ≡ Some q
    past n q true h still found = absurd (still (hit n next.0 h))
    past n q false h still found = found

-- the only one leaves, and the call that asks is dropped
pub only_leaves : (m : Cache) (lists : ℕ → Option Waiting) (u : Upstream) (key number asking : ℕ) (first : Waiter) → Serves m lists u →
    lists key ≡ Some (record { asking = asking; requests = first ∷ [] }) → number ≡ first.0 →
    Drops m lists key number (record { asking = asking; requests = first ∷ [] }) asking None
only_leaves m lists u key number asking first serves on same =
    let whole : Waiting = record { asking = asking; requests = first ∷ [] } in
    let is = serves.listed key whole on in
    record {
      on = on;
      live = ap is_some is.asks;
      alone = nobody_waits m lists u serves asking (λ n s v e.
          let keys : v.key ≡ key = asks_key v.key key (sym (serves.listed v.key v.list v.on).asks ∙ ap m.stands e ∙ is.asks) in
          let lists_same : v.list ≡ whole = some_same (sym v.on ∙ ap lists keys ∙ on) in
          none_some (sym (ap (λ l. place_of (drop 1 l.requests) n) lists_same) ∙ v.call));
      mine = λ s e. ap key_at (some_same (sym e ∙ is.asks));
      requests = ap (λ t. cond t [] (first ∷ [])) (sym (subst (λ n. hits number n ≡ true) same (hit_self number)));
      list = λ v e. absurd (none_some e);
      asker = λ still. absurd (still refl);
      waiter = λ n q found still. absurd (none_some found);
    }

-- ---- whichever way it leaves

serves_same : (m : Cache) (lists lists1 : ℕ → Option Waiting) (u v : Upstream) → Serves m lists u → ((k : ℕ) → lists1 k ≡ lists k) →
    ((k : ℕ) → v.waiting k ≡ u.waiting k) → v.last ≡ u.last → ((k : ℕ) → v.stored k ≡ u.stored k) → Serves m lists1 v
serves_same m lists lists1 u v serves same waiting last stored =
    record {
      stored = λ k. serves.stored k ∙ sym (stored k);
      last = serves.last ∙ sym last;
      waiting = λ k. ap requests_on (same k) ∙ serves.waiting k ∙ sym (waiting k);
      listed = λ k w on. serves.listed k w (sym (same k) ∙ on);
      only = λ n s e. either n s (serves.only n s e);
    }
  where
    either : (n : ℕ) (s : Stand ℕ ℕ ℕ) → AsksFor lists n s ⊎ WaitsFor lists n s → AsksFor lists1 n s ⊎ WaitsFor lists1 n s
    either n s (inl a) = inl (record { key = a.key; list = a.list; on = same a.key ∙ a.on; call = a.call; stands = a.stands })
    either n s (inr a) = inr (record { key = a.key; list = a.list; on = same a.key ∙ a.on; place = a.place; call = a.call; stands = a.stands })

put_same : {A : Type 0} (f : ℕ → A) (n : ℕ) (v : A) → v ≡ f n → (k : ℕ) → put_at f n v k ≡ f k
put_same f n v e k = by (n == k) refl
  where
    by : (t : Bool) → (n == k) ≡ t → cond t v (f k) ≡ f k
    by true same = e ∙ ap f (eqb-true n k same)
    by false other = refl

none_without : (n : ℕ) (ws : List Waiter) → place_of ws n ≡ None → without n ws ≡ ws
none_without n [] e = refl
none_without n (w ∷ ws) e = by (hits n w.0) e (none_without n ws)
  where
    by : (t : Bool) → cond t (Some w.1) (place_of ws n) ≡ None → (place_of ws n ≡ None → without n ws ≡ ws) → cond t ws (w ∷ without n ws) ≡ w ∷ ws
    by true f rest = absurd (none_some (sym f))
    by false f rest = ap (λ l. w ∷ l) (rest f)

-- a list with a request stays
kept_list : (asking : ℕ) (first : Waiter) (ws : List Waiter) →
    unless_empty (record { asking = asking; requests = first ∷ ws }) ≡ Some (record { asking = asking; requests = first ∷ ws })
kept_list asking first ws =
    let w : Waiting = record { asking = asking; requests = first ∷ ws } in
    ap (λ t. cond t None (Some w)) (differ (length (first ∷ ws)) 0 (λ e. absurd (omega (arith, e))))

module _ (m : Cache) (lists lists1 : ℕ → Option Waiting) (u : Upstream) (key number : ℕ) (serves : Serves m lists u)
    (on1 : (k : ℕ) → lists1 k ≡ put_at lists key (option_and_then (without_waiter number) (lists key)) k) where
  abbrev after : Upstream
  after = left u (slot.Waits key number)

  -- nothing changes where it doesn't wait
  unchanged : (x : Option Waiting) → lists key ≡ x → option_and_then (without_waiter number) x ≡ x → without number (requests_on x) ≡ requests_on x → Serves m lists1 after
  unchanged x is same list =
      let on = sym (serves.waiting key) ∙ ap requests_on is in
      serves_same m lists lists1 u after serves
      (λ k. on1 k ∙ put_same lists key (option_and_then (without_waiter number) (lists key)) (ap (option_and_then (without_waiter number)) is ∙ same ∙ sym is) k)
      (put_same u.waiting key (without number (u.waiting key)) (ap (λ l. without number l) on ∙ list ∙ sym on))
      refl (λ k. refl)

  unused : (y : Option ℕ) → y ≡ None → Serves m lists1 after → IsLeft m lists1 after y
  unused y e s = record { stays = λ _. s; drops = λ call f. absurd (none_some (sym e ∙ f)) }

  used : (y : Option ℕ) (call : ℕ) (w : Waiting) (rest : Option Waiting) → y ≡ Some call → option_and_then (without_waiter number) (lists key) ≡ rest →
      Drops m lists key number w call rest → IsLeft m lists1 after y
  used y call w rest e is d = record {
    stays = λ f. absurd (none_some (sym f ∙ e));
    drops = λ other f. subst (λ c. IsFree m c × Serves (gone_waiter m c) lists1 after) (some_same (sym e ∙ f))
        (record { live = d.live; alone = d.alone }, serves_left m lists lists1 u key number w call rest serves d (λ k. on1 k ∙ ap (λ x. put_at lists key x k) is));
  }

  -- its list is this one
  module _ (asking : ℕ) (first : Waiter) (ws : List Waiter) (on : lists key ≡ Some (record { asking = asking; requests = first ∷ ws })) where
    abbrev this_list : Waiting
    this_list = record { asking = asking; requests = first ∷ ws }

    -- the call that is freed
    abbrev free_of : Option Place → Bool → List Waiter → Option ℕ
    free_of place is_it rest = cond (is_some place) (Some (cond is_it (next_call this_list (first_of rest)) number)) None

    free_is : (place : Option Place) (is_it : Bool) (rest : List Waiter) → place_of (first ∷ ws) number ≡ place → (first.0 == number) ≡ is_it → without number (first ∷ ws) ≡ rest →
        freed this_list number ≡ free_of place is_it rest
    free_is place is_it rest e f g =
        ap (λ x. free_of x (first.0 == number) (without number (first ∷ ws))) e ∙ ap (λ x. free_of place x (without number (first ∷ ws))) f ∙ ap (λ x. free_of place is_it x) g

    -- one that is not the first
    later_one : hits number first.0 ≡ false → (x : Option Place) → place_of ws number ≡ x → IsLeft m lists1 after (freed this_list number)
    later_one miss_first None found =
        let none : place_of (first ∷ ws) number ≡ None = ap (λ t. cond t (Some first.1) (place_of ws number)) miss_first ∙ found in
        let same : without number (first ∷ ws) ≡ first ∷ ws = none_without number (first ∷ ws) none in
        unused (freed this_list number) (free_is None (first.0 == number) (without number (first ∷ ws)) none refl refl)
        (unchanged (Some this_list) on (ap (λ (l : List Waiter). unless_empty (record { asking = asking; requests = l })) same ∙ kept_list asking first ws) same)
    later_one miss_first (Some p) found =
        let other : (first.0 == number) ≡ false = differ first.0 number (λ e. missed number first.0 miss_first (sym e)) in
        let here : place_of (first ∷ ws) number ≡ Some p = ap (λ t. cond t (Some first.1) (place_of ws number)) miss_first ∙ found in
        let cut : without number (first ∷ ws) ≡ first ∷ without number ws = ap (λ t. cond t ws (first ∷ without number ws)) miss_first in
        used (freed this_list number) number this_list (Some (record { asking = asking; requests = first ∷ without number ws }))
        (free_is (Some p) false (first ∷ without number ws) here other cut)
        (ap (option_and_then (without_waiter number)) on ∙ ap (λ (l : List Waiter). unless_empty (record { asking = asking; requests = l })) cut ∙ kept_list asking first (without number ws))
        (later_leaves m lists u key number asking first ws serves on p found)

    -- the first, whose list is then this
    first_one : number ≡ first.0 → (vs : List Waiter) → ws ≡ vs → freed this_list number ≡ Some (next_call this_list (first_of vs)) →
        option_and_then (without_waiter number) (lists key) ≡ unless_empty (record { asking = asking; requests = vs }) → IsLeft m lists1 after (freed this_list number)
    first_one same [] split call gives =
        used (freed this_list number) asking (record { asking = asking; requests = first ∷ [] }) None call gives
        (only_leaves m lists u key number asking first serves (on ∙ ap (λ (l : List Waiter). Some (let v : Waiting = record { asking = asking; requests = first ∷ l } in v)) split) same)
    first_one same (next ∷ vs) split call gives =
        used (freed this_list number) next.0 (record { asking = asking; requests = first ∷ next ∷ vs }) (Some (record { asking = asking; requests = next ∷ vs })) call (gives ∙ kept_list asking next vs)
        (first_leaves m lists u key number asking first next vs serves (on ∙ ap (λ (l : List Waiter). Some (let v : Waiting = record { asking = asking; requests = first ∷ l } in v)) split) same)

    front_one : hits number first.0 ≡ true → IsLeft m lists1 after (freed this_list number)
    front_one hit_first =
        let same : number ≡ first.0 = hit number first.0 hit_first in
        let is_it : (first.0 == number) ≡ true = ap (λ n. n == number) (sym same) ∙ same_number number in
        let here : place_of (first ∷ ws) number ≡ Some first.1 = ap (λ t. cond t (Some first.1) (place_of ws number)) hit_first in
        let cut : without number (first ∷ ws) ≡ ws = ap (λ t. cond t ws (first ∷ without number ws)) hit_first in
        first_one same ws refl (free_is (Some first.1) true ws here is_it cut)
        (ap (option_and_then (without_waiter number)) on ∙ ap (λ (l : List Waiter). unless_empty (record { asking = asking; requests = l })) cut)

    either_one : (t : Bool) → hits number first.0 ≡ t → IsLeft m lists1 after (freed this_list number)
    either_one true e = front_one e
    either_one false e = later_one e (place_of ws number) refl

  on_list : (asking : ℕ) (ws : List Waiter) → lists key ≡ Some (record { asking = asking; requests = ws }) →
      IsLeft m lists1 after (freed (record { asking = asking; requests = ws }) number)
  on_list asking [] on = absurd (omega (arith, (serves.listed key (record { asking = asking; requests = [] }) on).some))
  on_list asking (first ∷ ws) on = either_one asking first ws on (hits number first.0) refl

  pub is_left : IsLeft m lists1 after (option_and_then (λ w. freed w number) (lists key))
  is_left = by (lists key) refl
    where
      by : (x : Option Waiting) → lists key ≡ x → IsLeft m lists1 after (option_and_then (λ w. freed w number) x)
      by None e = unused None refl (unchanged None e refl refl)
      by (Some w) e = on_list w.asking w.requests e

pub all_leave : RequestsLeave
all_leave m lists lists1 u key number serves on1 = is_left m lists lists1 u key number serves on1
