-- The calls of a list are told what their upstream request brought, one after the other.
use Rattle.std.proofs.Common.{◌≡◌, ◌≢◌, ◌⊎◌, ℕ, ◌==◌, Bool, true, false, cond, ◌&&◌, List, [], ◌∷◌, drop, Option, Some, None, IsSome, is_some, nat_lt, refl, sym, ap, ◌∙◌, subst, arith, inl, inr, nat_eq}
use Rattle.std.specs.Option.{option_map}
use Rattle.std.specs.declared.result.Result.{Result}
use Rattle.std.specs.declared.result.Result.TheVariants.{Ok, Err}
use borrow.Author.Tests.{eqb-true}
use Rattle.moka_hist.specs.Finite.{put_at}
use Rattle.moka_laws.proofs.Counting.{none_some, some_same, differ, differ_not, put_cases, put_here, put_there}
use Rattle.moka_small.specs.Small.{Asks, End, Stand, Waits, Was_told, waiting, waits_for}
use Rattle.moka_small.specs.Polled.{ends_with, gone_waiter, outcome_of, owns, polled, reads, value_under}
use Rattle.moka_collapsing.specs.declared.answer.Answer.{Answer}
use Rattle.moka_collapsing.specs.declared.answer.Answer.TheVariants as answer
use Rattle.moka_collapsing.specs.Upstream.{Upstream, Waiter, answer_of, ended, keeps}
use Rattle.moka_collapsing.specs.Waiting.{Waiting, place_of}
use Rattle.moka_collapsing.specs.Standing.{AreDistinct, AsksFor, Cache, IsListOf, Serves, WaitsFor, WaitsOn, load_of, requests_on}
use Rattle.moka_collapsing.specs.Settling.{HasAnswer, IsAnswered, answer_in, end_of, key_at}
use Rattle.moka_collapsing.specs.Coming as coming
use Rattle.moka_collapsing.specs.Coming.{ListsAreAnswered}
use Rattle.moka_collapsing.proofs.Listed.{each_both, each_map, hit, hits}
use Rattle.moka_collapsing.proofs.Serving.{list_stays}

abbrev asks_for : ℕ → Option (Stand ℕ ℕ ℕ)
asks_for key = Some (Asks (load_of key))

abbrev waits_on : ℕ → ℕ → Option (Stand ℕ ℕ ℕ)
waits_on owner key = Some (Waits owner (load_of key))

-- ---- one that waited is polled

gone_owns : (m : Cache) (asking key : ℕ) → m.stands asking ≡ None → owns nat_eq (m.stands asking) (load_of key) ≡ true → ⊥
gone_owns m asking key gone own = absurd (no (sym (ap (λ x. owns nat_eq x (load_of key)) gone) ∙ own))
  where
    no : false ≡ true → ⊥
    no e = cc

-- how the owner ended is kept for it
kept_end : (m : Cache) (asking key : ℕ) (brought : Result ℕ ℕ) → m.stands asking ≡ None → ((end : End ℕ ℕ) → m.ends asking ≡ Some end → end ≡ end_of brought) →
    ((owns nat_eq (m.stands asking) (load_of key) ≡ true) ⊎ IsSome (m.ends asking)) → m.ends asking ≡ Some (end_of brought)
kept_end m asking key brought gone ends (inl own) = absurd (gone_owns m asking key gone own)
kept_end m asking key brought gone ends (inr some) = by (m.ends asking) refl some
  where
    by : (x : Option (End ℕ ℕ)) → m.ends asking ≡ x → IsSome x → m.ends asking ≡ Some (end_of brought)
    by None e h = absurd (no h)
      where
        no : false ≡ true → ⊥
        no f = cc
    by (Some end) e h = e ∙ ap Some (ends end e)

module _ (m0 m : Cache) (key asking : ℕ) (brought : Result ℕ ℕ) (first : Waiter) (rest : List Waiter)
    (is : IsAnswered m0 m key asking brought (first ∷ rest))
    (served : (owns nat_eq (m.stands asking) (load_of key) ≡ true) ⊎ IsSome (m.ends asking)) where
  abbrev stand : Stand ℕ ℕ ℕ
  stand = Waits asking (load_of key)

  reads_end : polled nat_eq m first.0 stand ≡ (outcome_of (end_of brought) false, gone_waiter m first.0)
  reads_end = ap (λ x. reads m first.0 x) (kept_end m asking key brought is.gone is.ends served)

  answers : (b : Result ℕ ℕ) (fresh : Bool) → answer_in (outcome_of (end_of b) fresh) ≡ Some (answer_of b)
  answers (Ok value) fresh = refl
  answers (Err error) fresh = refl

  pub waiter_answer : HasAnswer first.0 (answer_of brought) m
  waiter_answer = record {
    stand = stand;
    stands = is.waits.0;
    gives = ap (λ p. answer_in p.0) reads_end ∙ answers brought false;
  }

  pub one_answered : IsAnswered m0 (polled nat_eq m first.0 stand).1 key asking brought rest
  one_answered = subst (λ p. IsAnswered m0 p.1 key asking brought rest) (sym reads_end) (record {
    last = is.last;
    values = is.values;
    others = λ n s e other. put_there m.stands first.0 None n (differ first.0 n (λ same.
        other (ap key_at (some_same (sym (is.others n s e other) ∙ sym (ap m.stands same) ∙ is.waits.0))))) ∙ is.others n s e other;
    only = λ n s e. put_cases m.stands first.0 None n (Some s) ((m0.stands n ≡ Some s × key_at s ≢ Some key) ⊎ IsSome (place_of rest n)) e
        (λ same none. absurd (none_some none))
        (λ other h. past n s other (is.only n s h));
    gone = gone_by (first.0 == asking);
    ends = λ end e. is.ends end (ends_by (waits_for (m.stands first.0) asking && waiting m asking == 1) end e);
    distinct = is.distinct.1;
    waits = each_both (λ w. w.0 ≢ first.0) (λ w. WaitsOn m asking key w.0) (λ w. WaitsOn (gone_waiter m first.0) asking key w.0)
        (λ w other h. put_there m.stands first.0 None w.0 (differ first.0 w.0 (λ e. other (sym e))) ∙ h) rest is.distinct.0 is.waits.1;
  })
    where
      past : (n : ℕ) (s : Stand ℕ ℕ ℕ) → (first.0 == n) ≡ false → (m0.stands n ≡ Some s × key_at s ≢ Some key) ⊎ IsSome (place_of (first ∷ rest) n) →
          (m0.stands n ≡ Some s × key_at s ≢ Some key) ⊎ IsSome (place_of rest n)
      past n s other (inl h) = inl h
      past n s other (inr h) = inr (by (hits n first.0) refl h)
        where
          by : (t : Bool) → hits n first.0 ≡ t → IsSome (cond t (Some first.1) (place_of rest n)) → IsSome (place_of rest n)
          by true e some = absurd (differ_not first.0 n other (sym (hit n first.0 e)))
          by false e some = some

      gone_by : (t : Bool) → cond t None (m.stands asking) ≡ None
      gone_by true = refl
      gone_by false = is.gone

      ends_by : (t : Bool) (end : End ℕ ℕ) → cond t None (m.ends asking) ≡ Some end → m.ends asking ≡ Some end
      ends_by true end e = absurd (none_some e)
      ends_by false end e = e

-- ---- the one that asked is told, and polled

module _ (m0 : Cache) (key : ℕ) (brought : Result ℕ ℕ) (w : Waiting) (list : IsListOf m0 key w)
    (ended_gone : (n : ℕ) (end : End ℕ ℕ) → m0.ends n ≡ Some end → m0.stands n ≡ None) where
  abbrev told : Cache
  told = coming.told m0 key w.asking brought

  abbrev told_stand : Stand ℕ ℕ ℕ
  told_stand = Was_told (load_of key) (end_of brought)

  no_end : m0.ends w.asking ≡ None
  no_end = by (m0.ends w.asking) refl
    where
      by : (x : Option (End ℕ ℕ)) → m0.ends w.asking ≡ x → x ≡ None
      by None e = refl
      by (Some end) e = absurd (none_some (sym (ended_gone w.asking end e) ∙ list.asks))

  pub told_answer : HasAnswer w.asking (answer_of brought) told
  told_answer = record {
    stand = told_stand;
    stands = put_here m0.stands w.asking (Some told_stand);
    gives = by brought;
  }
    where
      by : (b : Result ℕ ℕ) → answer_in (polled nat_eq told w.asking (Was_told (load_of key) (end_of b))).0 ≡ Some (answer_of b)
      by (Ok value) = refl
      by (Err error) = refl

  abbrev after : Cache
  after = (polled nat_eq told w.asking told_stand).1

  stands_after : (n : ℕ) → after.stands n ≡ put_at told.stands w.asking None n
  stands_after n = by brought
    where
      by : (b : Result ℕ ℕ) → (polled nat_eq told w.asking (Was_told (load_of key) (end_of b))).1.stands n ≡ put_at told.stands w.asking None n
      by (Ok value) = refl
      by (Err error) = refl

  last_after : after.last ≡ m0.last
  last_after = by brought
    where
      by : (b : Result ℕ ℕ) → (polled nat_eq told w.asking (Was_told (load_of key) (end_of b))).1.last ≡ m0.last
      by (Ok value) = refl
      by (Err error) = refl

  ends_after : after.ends w.asking ≡ ends_with told w.asking (end_of brought) w.asking
  ends_after = by brought
    where
      by : (b : Result ℕ ℕ) → (polled nat_eq told w.asking (Was_told (load_of key) (end_of b))).1.ends w.asking ≡ ends_with told w.asking (end_of b) w.asking
      by (Ok value) = refl
      by (Err error) = refl

  values_after : (k : ℕ) → value_under after k ≡ keeps (value_under m0) key (answer_of brought) k
  values_after k = by brought
    where
      value_at : (value : ℕ) (t : Bool) → option_map (λ kept. kept.0) (cond t (Some (value, w.asking)) (m0.stored k)) ≡ cond t (Some value) (value_under m0 k)
      value_at value true = refl
      value_at value false = refl

      by : (b : Result ℕ ℕ) → value_under (polled nat_eq told w.asking (Was_told (load_of key) (end_of b))).1 k ≡ keeps (value_under m0) key (answer_of b) k
      by (Ok value) = value_at value (key == k)
      by (Err error) = refl

  back : (n : ℕ) → w.asking ≢ n → after.stands n ≡ m0.stands n
  back n other =
      let not_it = differ w.asking n other in
      stands_after n ∙ put_there told.stands w.asking None n not_it ∙ put_there m0.stands w.asking (Some told_stand) n not_it

  pub asker_answered : (lists : ℕ → Option Waiting) (u : Upstream) → Serves m0 lists u → lists key ≡ Some w →
      IsAnswered m0 after key w.asking brought (drop 1 w.requests)
  asker_answered lists u serves on = record {
    last = last_after;
    values = values_after;
    others = λ n s e other. back n (λ same. other (ap key_at (some_same (sym e ∙ sym (ap m0.stands same) ∙ list.asks)))) ∙ e;
    only = λ n s e. put_cases told.stands w.asking None n (Some s) ((m0.stands n ≡ Some s × key_at s ≢ Some key) ⊎ IsSome (place_of (drop 1 w.requests) n)) (sym (stands_after n) ∙ e)
        (λ same none. absurd (none_some none))
        (λ other h. let before : m0.stands n ≡ Some s = sym (put_there m0.stands w.asking (Some told_stand) n other) ∙ h in
        whose n s other before (serves.only n s before));
    gone = stands_after w.asking ∙ put_here told.stands w.asking None;
    ends = λ end e. ends_by (nat_lt 0 (waiting told w.asking) && w.asking == w.asking) end (sym ends_after ∙ e);
    distinct = tail_distinct w.requests list.distinct;
    waits = each_map (λ v. WaitsOn m0 w.asking key v.0) (λ v. WaitsOn after w.asking key v.0)
        (λ v h. back v.0 (λ same. asks_waits (sym list.asks ∙ ap m0.stands same ∙ h)) ∙ h) (drop 1 w.requests) list.waits;
  }
    where
      tail_distinct : (ws : List Waiter) → AreDistinct ws → AreDistinct (drop 1 ws)
      tail_distinct [] h = tt
      tail_distinct (v ∷ ws) h = h.1

      asks_waits : asks_for key ≡ waits_on w.asking key → ⊥
      asks_waits e = cc

      ends_by : (t : Bool) (end : End ℕ ℕ) → cond t (Some (end_of brought)) (told.ends w.asking) ≡ Some end → end ≡ end_of brought
      ends_by true end e = some_same (sym e)
      ends_by false end e = absurd (none_some (sym no_end ∙ e))

      -- a call for another key stays, and one for this key is the asker or on the list
      whose : (n : ℕ) (s : Stand ℕ ℕ ℕ) → (w.asking == n) ≡ false → m0.stands n ≡ Some s → AsksFor lists n s ⊎ WaitsFor lists n s →
          (m0.stands n ≡ Some s × key_at s ≢ Some key) ⊎ IsSome (place_of (drop 1 w.requests) n)
      whose n s other before (inl a) = inl (
        before,
        λ same.
            let keys : a.key ≡ key = some_same (sym (ap key_at a.stands) ∙ same) in
            let lists_same : a.list ≡ w = some_same (sym a.on ∙ ap lists keys ∙ on) in
            differ_not w.asking n other (sym (a.call ∙ ap (λ l. l.asking) lists_same)),
      )
      whose n s other before (inr a) = by (a.key == key) refl
        where
          by : (t : Bool) → (a.key == key) ≡ t → (m0.stands n ≡ Some s × key_at s ≢ Some key) ⊎ IsSome (place_of (drop 1 w.requests) n)
          by true same =
              let lists_same : a.list ≡ w = some_same (sym a.on ∙ ap lists (eqb-true a.key key same) ∙ on) in
              inr (ap is_some (sym (ap (λ l. place_of (drop 1 l.requests) n) lists_same) ∙ a.call))
          by false same = inl (before, λ e. differ_not a.key key same (some_same (sym (ap key_at a.stands) ∙ e)))

-- ---- all were polled

pub serves_ended : (m0 m : Cache) (lists lists1 : ℕ → Option Waiting) (u : Upstream) (key asking : ℕ) (brought : Result ℕ ℕ) → Serves m0 lists u →
    IsAnswered m0 m key asking brought [] → ((k : ℕ) → lists1 k ≡ put_at lists key None k) → Serves m lists1 (ended u key (answer_of brought))
serves_ended m0 m lists lists1 u key asking brought serves is on1 =
    record {
      stored = λ k. is.values k ∙ keeps_same (answer_of brought) k;
      last = is.last ∙ serves.last;
      waiting = λ k. on_of k (key == k) refl;
      listed = λ k v on. list_of k v on (key == k) refl;
      only = λ n s e. still n s (is.only n s e);
    }
  where
    keeps_same : (a : Answer) (k : ℕ) → keeps (value_under m0) key a k ≡ keeps u.stored key a k
    keeps_same (answer.Value value) k = ap (λ x. cond (key == k) (Some value) x) (serves.stored k)
    keeps_same (answer.Error error) k = serves.stored k
    keeps_same answer.Bad k = serves.stored k

    others_on : (k : ℕ) → (key == k) ≡ false → lists1 k ≡ lists k
    others_on k other = on1 k ∙ put_there lists key None k other

    on_of : (k : ℕ) (t : Bool) → (key == k) ≡ t → requests_on (lists1 k) ≡ put_at u.waiting key [] k
    on_of k true same = subst (λ q. requests_on (lists1 q) ≡ put_at u.waiting key [] q) (eqb-true key k same)
        (ap requests_on (on1 key ∙ put_here lists key None) ∙ sym (put_here u.waiting key []))
    on_of k false other = ap requests_on (others_on k other) ∙ serves.waiting k ∙ sym (put_there u.waiting key [] k other)

    list_of : (k : ℕ) (v : Waiting) → lists1 k ≡ Some v → (t : Bool) → (key == k) ≡ t → IsListOf m k v
    list_of k v on true same = absurd (none_some (sym (on1 key ∙ put_here lists key None) ∙ ap lists1 (eqb-true key k same) ∙ on))
    list_of k v on false other =
        list_stays m0 m k v (serves.listed k v (sym (others_on k other) ∙ on)) (omega (arith, is.last))
        (λ n s at e. is.others n s e (λ same. differ_not key k other (some_same (sym same ∙ at))))

    still : (n : ℕ) (s : Stand ℕ ℕ ℕ) → (m0.stands n ≡ Some s × key_at s ≢ Some key) ⊎ IsSome (place_of [] n) → AsksFor lists1 n s ⊎ WaitsFor lists1 n s
    still n s (inr none) = absurd (no none)
      where
        no : false ≡ true → ⊥
        no e = cc
    still n s (inl before) = either (serves.only n s before.0)
      where
        either : AsksFor lists n s ⊎ WaitsFor lists n s → AsksFor lists1 n s ⊎ WaitsFor lists1 n s
        either (inl a) = inl (record {
          key = a.key;
          list = a.list;
          call = a.call;
          stands = a.stands;
          on = others_on a.key (differ key a.key (λ e. before.1 (ap key_at a.stands ∙ ap Some (sym e)))) ∙ a.on;
        })
        either (inr a) = inr (record {
          key = a.key;
          list = a.list;
          place = a.place;
          call = a.call;
          stands = a.stands;
          on = others_on a.key (differ key a.key (λ e. before.1 (ap key_at a.stands ∙ ap Some (sym e)))) ∙ a.on;
        })

pub all_answered : ListsAreAnswered
all_answered = record {
  asker = λ m lists u key w brought serves on gone. (
    told_answer m key brought w (serves.listed key w on) gone,
    asker_answered m key brought w (serves.listed key w on) gone lists u serves on,
  );
  waiter = λ m0 m key asking brought first rest is served. (
    waiter_answer m0 m key asking brought first rest is served,
    one_answered m0 m key asking brought first rest is served,
  );
  all = λ m0 m lists lists1 u key asking brought serves is on1. serves_ended m0 m lists lists1 u key asking brought serves is on1;
}
