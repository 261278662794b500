-- What the calls of a request do to the lists.
use Rattle.std.proofs.Common.{◌≡◌, ◌≢◌, ◌⊎◌, ℕ, zero, suc, ◌+◌, ◌<◌, ◌≤◌, ◌==◌, Bool, true, false, cond, ◌&&◌, List, [], ◌∷◌, ◌++◌, drop, length, Option, Some, None, refl, sym, ap, ◌∙◌, subst, arith, inl, inr, nat_eq, nat_lt, length-append}
use Rattle.std.proofs.lemmas.Bool.{false≢true}
use borrow.Author.Tests.{eqb-true, ltb-true, ltb-false}
use Rattle.moka_hist.specs.Finite.{put_at}
use Rattle.moka_hist.specs.declared.events.Start.TheVariants as start
use Rattle.moka_laws.proofs.Counting.{none_some, some_same, same_number, differ, differ_not, put_cases, put_here, put_there}
use Rattle.moka_small.specs.declared.outcome.Outcome.TheVariants as outcome
use Rattle.moka_small.specs.Small.{Asks, Begun, Stand, Waits, started, with_stand}
use Rattle.moka_small.specs.Polled.{claims, gone, greatest, or_else, owner_of, owns, value_under}
use Rattle.moka_collapsing.specs.declared.slot.Place.{Place}
use Rattle.moka_collapsing.specs.Upstream.{Upstream, Waiter, counted, joined}
use Rattle.moka_collapsing.specs.Waiting.{Waiting, place_of, with_waiter}
use Rattle.moka_collapsing.specs.Standing.{AsksFor, Cache, Each, IsListOf, Serves, WaitsFor, WaitsOn, begun, load_of, requests_on}
use Rattle.moka_collapsing.specs.Settling.{key_at}
use Rattle.moka_collapsing.proofs.Listed.{each_map, each_append, distinct_append, found_append, insert_last}

-- ---- the greatest number that passes a test

pub greatest_none : (n : ℕ) (test : ℕ → Bool) → ((b : ℕ) → test b ≡ true → ⊥) → greatest n test ≡ None
greatest_none zero test none = by (test 0) refl
  where
    by : (t : Bool) → test 0 ≡ t → cond {A = Option ℕ} t (Some 0) None ≡ None
    by true e = absurd (none 0 e)
    by false e = refl
greatest_none (suc n) test none = by (test (suc n)) refl (greatest_none n test none)
  where
    by : (t : Bool) → test (suc n) ≡ t → greatest n test ≡ None → cond t (Some (suc n)) (greatest n test) ≡ None
    by true e rest = absurd (none (suc n) e)
    by false e rest = rest

pub greatest_is : (n a : ℕ) (test : ℕ → Bool) → a ≤ n → test a ≡ true → ((b : ℕ) → test b ≡ true → b ≡ a) → greatest n test ≡ Some a
greatest_is zero a test small here only = by (test 0) refl
  where
    zero_is : 0 ≡ a
    zero_is = omega (arith, small)

    by : (t : Bool) → test 0 ≡ t → cond {A = Option ℕ} t (Some 0) None ≡ Some a
    by true e = ap Some zero_is
    by false e = absurd (false≢true (sym e ∙ ap test zero_is ∙ here))
greatest_is (suc n) a test small here only = by (test (suc n)) refl (λ less. greatest_is n a test less here only)
  where
    below : test (suc n) ≡ false → (s : Bool) → (a == suc n) ≡ s → a ≤ n
    below e true f = absurd (false≢true (sym e ∙ sym (ap test (eqb-true a (suc n) f)) ∙ here))
    below e false f = let other = differ_not a (suc n) f in omega (arith, small, other)

    by : (t : Bool) → test (suc n) ≡ t → (a ≤ n → greatest n test ≡ Some a) → cond t (Some (suc n)) (greatest n test) ≡ Some a
    by true e rest = ap Some (only (suc n) e)
    by false e rest = rest (below e (a == suc n) refl)

-- ---- who owns the load of a key

and_left : (a b : Bool) → (a && b) ≡ true → a ≡ true
and_left true b e = refl
and_left false b e = e

false_true : {A : Type 0} → false ≡ true → A
false_true e = absurd (false≢true e)

pub record Asker (lists : ℕ → Option Waiting) (key n : ℕ) : Type 0 where
  pub list : Waiting
  pub on : lists key ≡ Some list
  pub call : n ≡ list.asking

pub owner_asks : (m : Cache) (lists : ℕ → Option Waiting) (u : Upstream) (key n : ℕ) → Serves m lists u → owns nat_eq (m.stands n) (load_of key) ≡ true → Asker lists key n
owner_asks m lists u key n serves e = by (m.stands n) refl e
  where
    asker : (s : Stand ℕ ℕ ℕ) → AsksFor lists n s ⊎ WaitsFor lists n s → owns nat_eq (Some s) (load_of key) ≡ true → Asker lists key n
    asker s (inl asks) own =
        let keys : (asks.key == key) ≡ true = and_left (asks.key == key) true (sym (ap (λ x. owns nat_eq (Some x) (load_of key)) asks.stands) ∙ own) in
        record {
          list = asks.list;
          on = subst (λ k. lists k ≡ Some asks.list) (eqb-true asks.key key keys) asks.on;
          call = asks.call;
        }
    asker s (inr waits) own = false_true (sym (ap (λ x. owns nat_eq (Some x) (load_of key)) waits.stands) ∙ own)

    by : (s : Option (Stand ℕ ℕ ℕ)) → m.stands n ≡ s → owns nat_eq s (load_of key) ≡ true → Asker lists key n
    by None is own = false_true own
    by (Some s) is own = asker s (serves.only n s is) own

-- ---- what a request's call comes to

module _ (m : Cache) (lists : ℕ → Option Waiting) (u : Upstream) (key : ℕ) (serves : Serves m lists u)
    (fresh : (n : ℕ) → m.last < n → m.stands n ≡ None) where
  abbrev next : ℕ
  next = m.last + 1

  abbrev at_start : Cache
  at_start = started m (start.Try key)

  next_none : m.stands next ≡ None
  next_none = fresh next (omega arith)

  -- an owner once the call was started was one before
  owned_before : (n : ℕ) → owns nat_eq (at_start.stands n) (load_of key) ≡ true → owns nat_eq (m.stands n) (load_of key) ≡ true
  owned_before n = by (next == n)
    where
      by : (t : Bool) → owns nat_eq (cond t (Some (Begun (start.Try key))) (m.stands n)) (load_of key) ≡ true → owns nat_eq (m.stands n) (load_of key) ≡ true
      by true e = false_true e
      by false e = e

  pub comes_stored : (value : ℕ) → value_under m key ≡ Some value → begun m key ≡ (outcome.Loaded value false, gone at_start next)
  comes_stored value e = ap (λ x. or_else at_start next x (claims at_start next (load_of key) (owner_of nat_eq at_start (load_of key)))) e

  pub comes_first : value_under m key ≡ None → lists key ≡ None → begun m key ≡ (outcome.Asks, with_stand at_start next (Some (Asks (load_of key))))
  comes_first e none =
      let nobody : owner_of nat_eq at_start (load_of key) ≡ None = greatest_none next (λ n. owns nat_eq (at_start.stands n) (load_of key)) (λ n own. let asker = owner_asks m lists u key n serves (owned_before n own) in none_some (sym none ∙ asker.on)) in
      ap (λ x. or_else at_start next x (claims at_start next (load_of key) (owner_of nat_eq at_start (load_of key)))) e
      ∙ ap (λ o. claims at_start next (load_of key) o) nobody

  asking_small : (w : Waiting) → lists key ≡ Some w → w.asking ≤ m.last
  asking_small w on = by (nat_lt m.last w.asking) refl
    where
      by : (t : Bool) → nat_lt m.last w.asking ≡ t → w.asking ≤ m.last
      by true e = absurd (none_some (sym (fresh w.asking (ltb-true m.last w.asking e)) ∙ (serves.listed key w on).asks))
      by false e = ltb-false m.last w.asking e

  pub comes_later : (w : Waiting) → value_under m key ≡ None → lists key ≡ Some w → begun m key ≡ (outcome.Waits, with_stand at_start next (Some (Waits w.asking (load_of key))))
  comes_later w e on =
      let small = asking_small w on in
      let asks : at_start.stands w.asking ≡ Some (Asks (load_of key)) = put_there m.stands next (Some (Begun (start.Try key))) w.asking (differ next w.asking (λ same. absurd (omega (arith, small, same)))) ∙ (serves.listed key w on).asks in
      let own : owns nat_eq (at_start.stands w.asking) (load_of key) ≡ true = ap (λ x. owns nat_eq x (load_of key)) asks ∙ ap (λ t. t && true) (same_number key) in
      let owner : owner_of nat_eq at_start (load_of key) ≡ Some w.asking = greatest_is next w.asking (λ n. owns nat_eq (at_start.stands n) (load_of key)) (omega (arith, small)) own
      (λ n other. let asker = owner_asks m lists u key n serves (owned_before n other) in asker.call ∙ ap (λ l. l.asking) (some_same (sym asker.on ∙ on))) in
      ap (λ x. or_else at_start next x (claims at_start next (load_of key) (owner_of nat_eq at_start (load_of key)))) e
      ∙ ap (λ o. claims at_start next (load_of key) o) owner

-- ---- what the cache serves then

-- a list stays where its calls do
pub list_stays : (m m1 : Cache) (key : ℕ) (w : Waiting) → IsListOf m key w → m.last ≤ m1.last →
    ((n : ℕ) (s : Stand ℕ ℕ ℕ) → key_at s ≡ Some key → m.stands n ≡ Some s → m1.stands n ≡ Some s) → IsListOf m1 key w
list_stays m m1 key w list grows kept =
    record {
      some = list.some;
      distinct = list.distinct;
      numbered = each_map (λ v. v.0 ≤ m.last) (λ v. v.0 ≤ m1.last) (λ v h. omega (arith, h, grows)) w.requests list.numbered;
      asks = kept w.asking (Asks (load_of key)) refl list.asks;
      waits = each_map (λ v. WaitsOn m w.asking key v.0) (λ v. WaitsOn m1 w.asking key v.0) (λ v h. kept v.0 (Waits w.asking (load_of key)) refl h) (drop 1 w.requests) list.waits;
    }

-- the call of a request for a stored key is gone
module _ (m : Cache) (lists : ℕ → Option Waiting) (u : Upstream) (key : ℕ) (serves : Serves m lists u)
    (fresh : (n : ℕ) → m.last < n → m.stands n ≡ None) where
  abbrev own_call : ℕ
  own_call = m.last + 1

  abbrev own_stand : Option (Stand ℕ ℕ ℕ)
  own_stand = Some (Begun (start.Try key))

  abbrev once_gone : Cache
  once_gone = gone (started m (start.Try key)) own_call

  gone_keeps : (n : ℕ) (s : Stand ℕ ℕ ℕ) → m.stands n ≡ Some s → once_gone.stands n ≡ Some s
  gone_keeps n s e =
      let other : (own_call == n) ≡ false = differ own_call n (λ same. none_some (sym (fresh n (omega (arith, same))) ∙ e)) in
      put_there (put_at m.stands own_call own_stand) own_call None n other ∙ put_there m.stands own_call own_stand n other ∙ e

  gone_was : (n : ℕ) (s : Stand ℕ ℕ ℕ) → once_gone.stands n ≡ Some s → m.stands n ≡ Some s
  gone_was n s e = put_cases (put_at m.stands own_call own_stand) own_call None n (Some s) (m.stands n ≡ Some s) e
      (λ same is. absurd (none_some is))
      (λ other is. sym (put_there m.stands own_call own_stand n other) ∙ is)

  pub serves_stored : Serves once_gone lists (counted u)
  serves_stored =
      record {
        stored = serves.stored;
        last = ap (λ n. n + 1) serves.last;
        waiting = serves.waiting;
        listed = λ k w on. list_stays m once_gone k w (serves.listed k w on) (omega arith) (λ n s is e. gone_keeps n s e);
        only = λ n s e. serves.only n s (gone_was n s e);
      }

pub drop_append : (ws : List Waiter) (w : Waiter) → 0 < length ws → drop 1 (ws ++ w ∷ []) ≡ drop 1 ws ++ w ∷ []
drop_append [] w some = absurd (omega (arith, some))
drop_append (v ∷ ws) w some = refl

-- a request has joined the list of its key, or begun it
pub record Joins (m m1 : Cache) (lists lists1 : ℕ → Option Waiting) (key : ℕ) (place : Place) (w : Waiting) (stand : Stand ℕ ℕ ℕ) : Type 0 where
  pub fresh : (n : ℕ) → m.last < n → m.stands n ≡ None
  pub last : m1.last ≡ m.last + 1
  pub values : (k : ℕ) → value_under m1 k ≡ value_under m k
  pub stands : (n : ℕ) → m1.stands n ≡ put_at (put_at m.stands (m.last + 1) (Some (Begun (start.Try key)))) (m.last + 1) (Some stand) n
  pub on : (k : ℕ) → lists1 k ≡ put_at lists key (Some w) k
  pub requests : w.requests ≡ requests_on (lists key) ++ (m.last + 1, place) ∷ []
  pub asking : (v : Waiting) → lists key ≡ Some v → w.asking ≡ v.asking
  pub here : AsksFor lists1 (m.last + 1) stand ⊎ WaitsFor lists1 (m.last + 1) stand

module _ (m m1 : Cache) (lists lists1 : ℕ → Option Waiting) (u : Upstream) (key : ℕ) (place : Place) (w : Waiting) (stand : Stand ℕ ℕ ℕ)
    (serves : Serves m lists u) (j : Joins m m1 lists lists1 key place w stand) where
  abbrev new_call : ℕ
  new_call = m.last + 1

  abbrev first_stand : Option (Stand ℕ ℕ ℕ)
  first_stand = Some (Begun (start.Try key))

  pub calls_stay : (n : ℕ) (s : Stand ℕ ℕ ℕ) → m.stands n ≡ Some s → m1.stands n ≡ Some s
  calls_stay n s e =
      let other : (new_call == n) ≡ false = differ new_call n (λ same. none_some (sym (j.fresh n (omega (arith, same))) ∙ e)) in
      j.stands n ∙ put_there (put_at m.stands new_call first_stand) new_call (Some stand) n other ∙ put_there m.stands new_call first_stand n other ∙ e

  others_on : (k : ℕ) → (key == k) ≡ false → lists1 k ≡ lists k
  others_on k other = j.on k ∙ put_there lists key (Some w) k other

  key_on : lists1 key ≡ Some w
  key_on = j.on key ∙ put_here lists key (Some w)

  here_is : (v : Waiting) → lists key ≡ Some v → w.requests ≡ v.requests ++ (new_call, place) ∷ []
  here_is v on = j.requests ∙ ap (λ l. requests_on l ++ (new_call, place) ∷ []) on

  asker_stays : (n : ℕ) (s : Stand ℕ ℕ ℕ) → AsksFor lists n s → AsksFor lists1 n s
  asker_stays n s a = by (key == a.key) refl
    where
      by : (t : Bool) → (key == a.key) ≡ t → AsksFor lists1 n s
      by false other = record { key = a.key; list = a.list; on = others_on a.key other ∙ a.on; call = a.call; stands = a.stands }
      by true same =
          let keys : key ≡ a.key = eqb-true key a.key same in
          let on : lists key ≡ Some a.list = ap lists keys ∙ a.on in
          record { key = key; list = w; on = key_on; call = a.call ∙ sym (j.asking a.list on); stands = a.stands ∙ ap (λ k. Asks (load_of k)) (sym keys) }

  waiter_stays : (n : ℕ) (s : Stand ℕ ℕ ℕ) → WaitsFor lists n s → WaitsFor lists1 n s
  waiter_stays n s a = by (key == a.key) refl
    where
      by : (t : Bool) → (key == a.key) ≡ t → WaitsFor lists1 n s
      by false other = record { key = a.key; list = a.list; on = others_on a.key other ∙ a.on; place = a.place; call = a.call; stands = a.stands }
      by true same =
          let keys : key ≡ a.key = eqb-true key a.key same in
          let on : lists key ≡ Some a.list = ap lists keys ∙ a.on in
          let tail : drop 1 w.requests ≡ drop 1 a.list.requests ++ (new_call, place) ∷ [] =
          ap (λ l. drop 1 l) (here_is a.list on) ∙ drop_append a.list.requests (new_call, place) (serves.listed key a.list on).some in
          record {
            key = key;
            list = w;
            on = key_on;
            place = a.place;
            call = ap (λ l. place_of l n) tail ∙ found_append (drop 1 a.list.requests) (new_call, place) n a.place a.call;
            stands = a.stands ∙ ap (λ o. Waits o (load_of a.key)) (sym (j.asking a.list on)) ∙ ap (λ k. Waits w.asking (load_of k)) (sym keys);
          }

  either_stays : (n : ℕ) (s : Stand ℕ ℕ ℕ) → AsksFor lists n s ⊎ WaitsFor lists n s → AsksFor lists1 n s ⊎ WaitsFor lists1 n s
  either_stays n s (inl a) = inl (asker_stays n s a)
  either_stays n s (inr a) = inr (waiter_stays n s a)

  only_these : (n : ℕ) (s : Stand ℕ ℕ ℕ) → m1.stands n ≡ Some s → AsksFor lists1 n s ⊎ WaitsFor lists1 n s
  only_these n s e =
      put_cases (put_at m.stands new_call first_stand) new_call (Some stand) n (Some s) (AsksFor lists1 n s ⊎ WaitsFor lists1 n s) (sym (j.stands n) ∙ e)
      (λ same is. subst (λ b. AsksFor lists1 b s ⊎ WaitsFor lists1 b s) same (subst (λ x. AsksFor lists1 new_call x ⊎ WaitsFor lists1 new_call x) (some_same is) j.here))
      (λ other is. either_stays n s (serves.only n s (sym (put_there m.stands new_call first_stand n other) ∙ is)))

  pub serves_joined : IsListOf m1 key w → Serves m1 lists1 (joined u key place)
  serves_joined list =
      record {
        stored = λ k. j.values k ∙ serves.stored k;
        last = j.last ∙ ap (λ n. n + 1) serves.last;
        waiting = λ k. on_of k (key == k) refl;
        listed = λ k v on. list_of k v on (key == k) refl;
        only = only_these;
      }
    where
      more : requests_on (lists key) ++ (new_call, place) ∷ [] ≡ u.waiting key ++ (u.last + 1, place) ∷ []
      more = ap (λ l. l ++ (new_call, place) ∷ []) (serves.waiting key) ∙ ap (λ n. u.waiting key ++ (n + 1, place) ∷ []) serves.last

      on_of : (k : ℕ) (t : Bool) → (key == k) ≡ t → requests_on (lists1 k) ≡ put_at u.waiting key (u.waiting key ++ (u.last + 1, place) ∷ []) k
      on_of k true same =
          let keys : key ≡ k = eqb-true key k same in
          subst (λ q. requests_on (lists1 q) ≡ put_at u.waiting key (u.waiting key ++ (u.last + 1, place) ∷ []) q) keys
          (ap requests_on key_on ∙ j.requests ∙ more ∙ sym (put_here u.waiting key (u.waiting key ++ (u.last + 1, place) ∷ [])))
      on_of k false other =
          ap requests_on (others_on k other) ∙ serves.waiting k ∙ sym (put_there u.waiting key (u.waiting key ++ (u.last + 1, place) ∷ []) k other)

      list_of : (k : ℕ) (v : Waiting) → lists1 k ≡ Some v → (t : Bool) → (key == k) ≡ t → IsListOf m1 k v
      list_of k v on true same =
          let keys : key ≡ k = eqb-true key k same in
          let is : w ≡ v = some_same (sym key_on ∙ ap lists1 keys ∙ on) in
          subst (λ x. IsListOf m1 k x) is (subst (λ q. IsListOf m1 q w) keys list)
      list_of k v on false other = list_stays m m1 k v (serves.listed k v (sym (others_on k other) ∙ on)) (omega (arith, j.last)) (λ n s is e. calls_stay n s e)

-- ---- the two ways to join

-- the first on a list
pub begins_list : (m m1 : Cache) (key : ℕ) (place : Place) → m1.last ≡ m.last + 1 → m1.stands (m.last + 1) ≡ Some (Asks (load_of key)) →
    IsListOf m1 key (record { asking = m.last + 1; requests = (m.last + 1, place) ∷ [] })
begins_list m m1 key place last asks =
    record {
      some = omega arith;
      distinct = (tt, tt);
      numbered = (omega (arith, last), tt);
      asks = asks;
      waits = tt;
    }

-- one more on a list
pub more_on : (m m1 : Cache) (key : ℕ) (place : Place) (w : Waiting) → IsListOf m key w → m1.last ≡ m.last + 1 →
    ((n : ℕ) (s : Stand ℕ ℕ ℕ) → m.stands n ≡ Some s → m1.stands n ≡ Some s) →
    m1.stands (m.last + 1) ≡ Some (Waits w.asking (load_of key)) →
    IsListOf m1 key (record { asking = w.asking; requests = w.requests ++ (m.last + 1, place) ∷ [] })
more_on m m1 key place w list last kept waits =
    let new : Waiter = (m.last + 1, place) in
    let stays = list_stays m m1 key w list (omega (arith, last)) (λ n s is e. kept n s e) in
    record {
      some = omega (arith, length-append w.requests (new ∷ []));
      distinct = distinct_append w.requests new list.distinct (each_map (λ v. v.0 ≤ m.last) (λ v. v.0 ≢ new.0) (λ v h e. absurd (omega (arith, h, e))) w.requests list.numbered);
      numbered = each_append (λ v. v.0 ≤ m1.last) w.requests new stays.numbered (omega (arith, last));
      asks = stays.asks;
      waits = subst (λ l. Each (λ v. WaitsOn m1 w.asking key v.0) l) (sym (drop_append w.requests new list.some))
          (each_append (λ v. WaitsOn m1 w.asking key v.0) (drop 1 w.requests) new stays.waits waits);
    }

-- where a request joins, its number comes last
pub joins_last : (m : Cache) (key : ℕ) (place : Place) (w : Waiting) → IsListOf m key w →
    with_waiter (m.last + 1) place w ≡ record { asking = w.asking; requests = w.requests ++ (m.last + 1, place) ∷ [] }
joins_last m key place w list =
    ap (λ (r : List Waiter). let v : Waiting = record { asking = w.asking; requests = r } in v)
    (insert_last w.requests (m.last + 1) place (each_map (λ v. v.0 ≤ m.last) (λ v. v.0 < m.last + 1) (λ v h. omega (arith, h)) w.requests list.numbered))
