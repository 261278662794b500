-- Predicates under ids of their own.
use Rattle.std.proofs.Common.{◌≡◌, ◌<◌, ◌≤◌, ◌+◌, ◌==◌, ℕ, Bool, true, false, not, cond, ◌&&◌, ◌||◌, List, [], ◌∷◌, ◌++◌, map, filter, length, take, get_or, Option, Some, None, is_some, arith, refl, sym, ap, ◌∙◌}
use Rattle.std.specs.List.{find, list_any, AllByRecursion}
use Rattle.std.specs.Option.{option_and_then, option_map_or}
use Rattle.std.proofs.lemmas.Bool.{eqb-true, eq-eqb, false≢true}
use Rattle.std.proofs.lemmas.List.Folds.{list_any_more}
use Rattle.std.proofs.lemmas.Option.{same_Some}
use Rattle.moka_hist.specs.Finite.{times}
use Rattle.moka_hist.specs.Visits.{is_named, is_registered}
use Rattle.moka_hist.specs.declared.predicates.Registered.{Registered}
use Rattle.moka_desk.specs.Predicates.{AreTimely, HaveOwnIds, left_by, left_by_all, registered_under}

-- ---- what is found in a list

module _ {A : Type 0} (f : A → Bool) where
  any_is_found : (xs : List A) → list_any f xs ≡ is_some (find f xs)
  any_is_found [] = refl
  any_is_found (x ∷ xs) = by (f x) (any_is_found xs)
    where
      by : (b : Bool) → list_any f xs ≡ is_some (find f xs) → (b || list_any f xs) ≡ is_some (cond b (Some x) (find f xs))
      by true h = refl
      by false h = h

  found_holds : (xs : List A) (x : A) → find f xs ≡ Some x → f x ≡ true
  found_holds [] x e = cc
  found_holds (y ∷ ys) x e = by (f y) refl e (found_holds ys x)
    where
      by : (b : Bool) → f y ≡ b → cond b (Some y) (find f ys) ≡ Some x → (find f ys ≡ Some x → f x ≡ true) → f x ≡ true
      by true is same more = let this : y ≡ x = same_Some y x same in ap f (sym this) ∙ is
      by false is later more = more later

-- a predicate is registered under an id where one is found there
pub is_found : (rs : List Registered) (id : ℕ) → is_registered rs id ≡ is_some (registered_under rs id)
is_found rs id = any_is_found (λ r. r.id == id) rs

pub none_is : {A : Type 0} (o : Option A) → is_some o ≡ false → o ≡ None
none_is None e = refl
none_is (Some x) e = absurd (false≢true (sym e))

-- it is of that id
pub found_under : (rs : List Registered) (id : ℕ) (r : Registered) → registered_under rs id ≡ Some r → r.id ≡ id
found_under rs id r e = eqb-true r.id id (found_holds (λ v. v.id == id) rs r e)

-- ---- how often an id stands there

abbrev count_ids : ℕ → List Registered → ℕ
count_ids id rs = times id (map (λ r. r.id) rs)

count_more : (id : ℕ) (y : Registered) (ys : List Registered) → count_ids id ys ≤ count_ids id (y ∷ ys)
count_more id y ys = by (id == y.id)
  where
    by : (b : Bool) → count_ids id ys ≤ cond b (count_ids id ys + 1) (count_ids id ys)
    by true = omega arith
    by false = omega arith

-- the first one of this id stands there once more
count_this : (id : ℕ) (y : Registered) (ys : List Registered) → (y.id == id) ≡ true → count_ids id (y ∷ ys) ≡ count_ids id ys + 1
count_this id y ys e = ap (λ b. cond b (count_ids id ys + 1) (count_ids id ys)) (eq-eqb id y.id (sym (eqb-true y.id id e)))

none_counted : (id : ℕ) (rs : List Registered) → count_ids id rs ≤ 0 → registered_under rs id ≡ None
none_counted id [] h = refl
none_counted id (y ∷ ys) h = by (y.id == id) refl (none_counted id ys (omega (arith, h, count_more id y ys)))
  where
    by : (b : Bool) → (y.id == id) ≡ b → registered_under ys id ≡ None → cond b (Some y) (registered_under ys id) ≡ None
    by true e later = absurd (omega (arith, h, count_this id y ys e))
    by false e later = later

-- the others of this id, where one comes first
none_later : (id : ℕ) (y : Registered) (ys : List Registered) → count_ids id (y ∷ ys) ≤ 1 → (y.id == id) ≡ true → registered_under ys id ≡ None
none_later id y ys once e = none_counted id ys (omega (arith, once, count_this id y ys e))

counted_push : (id : ℕ) (rs : List Registered) (one : Registered) → count_ids id (rs ++ one ∷ []) ≡ count_ids id rs + cond (id == one.id) 1 0
counted_push id [] one = by (id == one.id)
  where
    by : (b : Bool) → cond b 1 0 ≡ 0 + cond b 1 0
    by true = refl
    by false = refl
counted_push id (y ∷ ys) one = by (id == y.id) (counted_push id ys one)
  where
    by : (b : Bool) → count_ids id (ys ++ one ∷ []) ≡ count_ids id ys + cond (id == one.id) 1 0 →
        cond b (count_ids id (ys ++ one ∷ []) + 1) (count_ids id (ys ++ one ∷ [])) ≡ cond b (count_ids id ys + 1) (count_ids id ys) + cond (id == one.id) 1 0
    by true h = omega (arith, h)
    by false h = h

none_there : (id : ℕ) (rs : List Registered) → registered_under rs id ≡ None → count_ids id rs ≡ 0
none_there id [] h = refl
none_there id (y ∷ ys) h = by (y.id == id) refl h (none_there id ys)
  where
    by : (b : Bool) → (y.id == id) ≡ b → cond b (Some y) (registered_under ys id) ≡ None → (registered_under ys id ≡ None → count_ids id ys ≡ 0) →
        count_ids id (y ∷ ys) ≡ 0
    by true e same more = cc
    by false e later more = other (id == y.id) refl (more later)
      where
        other : (c : Bool) → (id == y.id) ≡ c → count_ids id ys ≡ 0 → cond c (count_ids id ys + 1) (count_ids id ys) ≡ 0
        other true same none = absurd (false≢true (sym e ∙ eq-eqb y.id id (sym (eqb-true id y.id same))))
        other false differs none = none

-- one more under an id that is free has its own
pub own_push : (rs : List Registered) (one : Registered) → HaveOwnIds rs → registered_under rs one.id ≡ None → HaveOwnIds (rs ++ one ∷ [])
own_push rs one own free id = by (id == one.id) refl
  where
    by : (b : Bool) → (id == one.id) ≡ b → count_ids id (rs ++ one ∷ []) ≤ 1
    by true e =
        let none : count_ids id rs ≡ 0 = none_there id rs (ap (registered_under rs) (eqb-true id one.id e) ∙ free) in
        let more : count_ids id (rs ++ one ∷ []) ≡ count_ids id rs + 1 = counted_push id rs one ∙ ap (λ b. count_ids id rs + cond b 1 0) e in
        omega (arith, none, more)
    by false e =
        let once : count_ids id rs ≤ 1 = own id in
        let more : count_ids id (rs ++ one ∷ []) ≡ count_ids id rs + 0 = counted_push id rs one ∙ ap (λ b. count_ids id rs + cond b 1 0) e in
        omega (arith, once, more)

pub under_push : (rs : List Registered) (one : Registered) (id : ℕ) → registered_under rs one.id ≡ None →
    registered_under (rs ++ one ∷ []) id ≡ cond (one.id == id) (Some one) (registered_under rs id)
under_push [] one id free = refl
under_push (y ∷ ys) one id free = by (y.id == id) refl (y.id == one.id) refl free (under_push ys one id)
  where
    by : (b : Bool) → (y.id == id) ≡ b → (c : Bool) → (y.id == one.id) ≡ c → cond c (Some y) (registered_under ys one.id) ≡ None →
        (registered_under ys one.id ≡ None → registered_under (ys ++ one ∷ []) id ≡ cond (one.id == id) (Some one) (registered_under ys id)) →
        cond b (Some y) (registered_under (ys ++ one ∷ []) id) ≡ cond (one.id == id) (Some one) (cond b (Some y) (registered_under ys id))
    by b e true same none more = cc
    by false e false differs none more = more none
    by true e false differs none more = other (one.id == id) refl
      where
        other : (d : Bool) → (one.id == id) ≡ d → Some y ≡ cond d (Some one) (Some y)
        other true same = absurd (false≢true (sym differs ∙ eq-eqb y.id one.id (eqb-true y.id id e ∙ sym (eqb-true one.id id same))))
        other false apart = refl

-- ---- those that a test keeps

module _ (keeps : Registered → Bool) where
  kept_count : (id : ℕ) (rs : List Registered) → count_ids id (filter keeps rs) ≤ count_ids id rs
  kept_count id [] = omega arith
  kept_count id (y ∷ ys) = by (keeps y) (kept_count id ys)
    where
      more : (b : Bool) → count_ids id (filter keeps ys) ≤ count_ids id ys →
          cond b (count_ids id (filter keeps ys) + 1) (count_ids id (filter keeps ys)) ≤ cond b (count_ids id ys + 1) (count_ids id ys)
      more true h = omega (arith, h)
      more false h = h

      by : (b : Bool) → count_ids id (filter keeps ys) ≤ count_ids id ys → count_ids id (cond b (y ∷ filter keeps ys) (filter keeps ys)) ≤ count_ids id (y ∷ ys)
      by true h = more (id == y.id) h
      by false h = omega (arith, h, count_more id y ys)

  pub own_kept : (rs : List Registered) → HaveOwnIds rs → HaveOwnIds (filter keeps rs)
  own_kept rs own id = omega (arith, own id, kept_count id rs)

  all_kept : (P : Registered → Type 0) (rs : List Registered) → AllByRecursion P rs → AllByRecursion P (filter keeps rs)
  all_kept P [] all = tt
  all_kept P (y ∷ ys) all = by (keeps y) (all_kept P ys all.1)
    where
      by : (b : Bool) → AllByRecursion P (filter keeps ys) → AllByRecursion P (cond b (y ∷ filter keeps ys) (filter keeps ys))
      by true rest = (all.0, rest)
      by false rest = rest

  pub timely_kept : (clock : ℕ) (rs : List Registered) → AreTimely clock rs → AreTimely clock (filter keeps rs)
  timely_kept clock [] timely = tt
  timely_kept clock (y ∷ ys) timely = by (keeps y) (timely_kept clock ys timely.2)
    where
      by : (b : Bool) → AreTimely clock (filter keeps ys) → AreTimely clock (cond b (y ∷ filter keeps ys) (filter keeps ys))
      by true rest = (timely.0, all_kept (λ later. y.moment ≤ later.moment) ys timely.1, rest)
      by false rest = rest

  -- under an id of its own one is found where it is kept
  pub under_kept : (rs : List Registered) (id : ℕ) → count_ids id rs ≤ 1 →
      registered_under (filter keeps rs) id ≡ option_and_then (λ r. cond (keeps r) (Some r) None) (registered_under rs id)
  under_kept [] id once = refl
  under_kept (y ∷ ys) id once = by (y.id == id) refl (keeps y) refl (under_kept ys id (omega (arith, once, count_more id y ys)))
    where
      here : Registered → Option Registered
      here r = cond (keeps r) (Some r) None

      by : (b : Bool) → (y.id == id) ≡ b → (c : Bool) → keeps y ≡ c → registered_under (filter keeps ys) id ≡ option_and_then (λ r. cond (keeps r) (Some r) None) (registered_under ys id) →
          registered_under (cond c (y ∷ filter keeps ys) (filter keeps ys)) id ≡ option_and_then (λ r. cond (keeps r) (Some r) None) (cond b (Some y) (registered_under ys id))
      by true e true k h = ap (λ b. cond b (Some y) (registered_under (filter keeps ys) id)) e ∙ sym (ap (λ c. cond {A = Option Registered} c (Some y) None) k)
      by true e false k h = h ∙ ap (option_and_then (λ r. cond (keeps r) (Some r) None)) (none_later id y ys once e)
          ∙ sym (ap (λ c. cond {A = Option Registered} c (Some y) None) k)
      by false e true k h = ap (λ b. cond b (Some y) (registered_under (filter keeps ys) id)) e ∙ h
      by false e false k h = h

-- tests that agree on all keep the same
filter_same_all : {A : Type 0} (f g : A → Bool) (xs : List A) → AllByRecursion (λ x. f x ≡ g x) xs → filter f xs ≡ filter g xs
filter_same_all f g [] all = refl
filter_same_all f g (x ∷ xs) all =
    ap (λ b. cond b (x ∷ filter f xs) (filter f xs)) all.0 ∙ ap (λ rest. cond (g x) (x ∷ rest) rest) (filter_same_all f g xs all.1)

all_also : {A : Type 0} (P Q : A → Type 0) → ((x : A) → P x → Q x) → (xs : List A) → AllByRecursion P xs → AllByRecursion Q xs
all_also P Q also [] all = tt
all_also P Q also (x ∷ xs) all = (also x all.0, all_also P Q also xs all.1)

-- each is found under its own id
found_own : (rs : List Registered) → HaveOwnIds rs → AllByRecursion (λ r. registered_under rs r.id ≡ Some r) rs
found_own [] own = tt
found_own (y ∷ ys) own = (
  ap (λ b. cond b (Some y) (registered_under ys y.id)) (eq-eqb y.id y.id refl),
  all_also (λ r. registered_under ys r.id ≡ Some r) (λ r. registered_under (y ∷ ys) r.id ≡ Some r) later ys
      (found_own ys (λ id. omega (arith, own id, count_more id y ys))),
)
  where
    later : (r : Registered) → registered_under ys r.id ≡ Some r → registered_under (y ∷ ys) r.id ≡ Some r
    later r e = by (y.id == r.id) refl
      where
        by : (b : Bool) → (y.id == r.id) ≡ b → cond b (Some y) (registered_under ys r.id) ≡ Some r
        by true same = let none = none_later r.id y ys (own r.id) same in absurd (apart (sym none ∙ e))
          where
            apart : None ≡ Some r → ⊥
            apart h = cc
        by false differs = e

-- ---- predicates leave by id and moment

abbrev leaves_in : List (ℕ × ℕ) → Registered → Bool
leaves_in leaving r = list_any (λ named. is_named named r) leaving

kept_or_not : (b : Bool) (r : Registered) → is_some (cond {A = Option Registered} b None (Some r)) ≡ not b
kept_or_not true r = refl
kept_or_not false r = refl

turned : (b : Bool) (r : Registered) → cond {A = Option Registered} b None (Some r) ≡ cond (not b) (Some r) None
turned true r = refl
turned false r = refl

-- those that are still found are those that don't leave
pub known_stay : (rs : List Registered) (leaving : List (ℕ × ℕ)) (found : ℕ → Option Registered) → HaveOwnIds rs →
    ((id : ℕ) → found id ≡ left_by_all leaving (registered_under rs id)) → filter (λ r. is_some (found r.id)) rs ≡ filter (λ r. not (leaves_in leaving r)) rs
known_stay rs leaving found own are =
    filter_same_all (λ r. is_some (found r.id)) (λ r. not (leaves_in leaving r)) rs
    (all_also (λ r. registered_under rs r.id ≡ Some r) (λ r. is_some (found r.id) ≡ not (leaves_in leaving r)) same rs (found_own rs own))
  where
    same : (r : Registered) → registered_under rs r.id ≡ Some r → is_some (found r.id) ≡ not (leaves_in leaving r)
    same r e = ap is_some (are r.id ∙ ap (left_by_all leaving) e) ∙ kept_or_not (leaves_in leaving r) r

-- and each is found under its id then
pub found_stay : (rs : List Registered) (leaving : List (ℕ × ℕ)) → HaveOwnIds rs → (id : ℕ) →
    left_by_all leaving (registered_under rs id) ≡ registered_under (filter (λ r. not (leaves_in leaving r)) rs) id
found_stay rs leaving own id = by (registered_under rs id) ∙ sym (under_kept (λ r. not (leaves_in leaving r)) rs id (own id))
  where
    by : (o : Option Registered) → left_by_all leaving o ≡ option_and_then (λ r. cond (not (leaves_in leaving r)) (Some r) None) o
    by None = refl
    by (Some r) = turned (leaves_in leaving r) r

-- one more leaves
pub one_more_left : (rs : List Registered) (before after : List (ℕ × ℕ)) (named : ℕ × ℕ) →
    ((r : Registered) → leaves_in after r ≡ (leaves_in before r || is_named named r)) → (key : ℕ) →
    left_by named.0 named.1 key (left_by_all before (registered_under rs key)) ≡ left_by_all after (registered_under rs key)
one_more_left rs before after named more key = by (registered_under rs key) refl
  where
    either : (a b : Bool) (r : Registered) →
        option_and_then (λ (v : Registered). cond {A = Option Registered} (key == named.0 && v.moment == named.1) None (Some v)) (cond {A = Option Registered} a None (Some r)) ≡
        cond a None (cond {A = Option Registered} (key == named.0 && r.moment == named.1) None (Some r))
    either true b r = refl
    either false b r = refl

    both : (a b : Bool) (r : Registered) → cond a None (cond {A = Option Registered} b None (Some r)) ≡ cond (a || b) None (Some r)
    both true b r = refl
    both false b r = refl

    by : (o : Option Registered) → registered_under rs key ≡ o → left_by named.0 named.1 key (left_by_all before o) ≡ left_by_all after o
    by None e = refl
    by (Some r) e =
        either (leaves_in before r) true r
        ∙ ap (λ k. cond (leaves_in before r) None (cond {A = Option Registered} (k == named.0 && r.moment == named.1) None (Some r))) (sym (found_under rs key r e))
        ∙ both (leaves_in before r) (is_named named r) r ∙ ap (λ b. cond {A = Option Registered} b None (Some r)) (sym (more r))

-- what is found under each id, once the next one of a list has left
pub next_left : (rs : List Registered) (leaving : List (ℕ × ℕ)) (i : ℕ) (d : ℕ × ℕ) → i < length leaving → (old new : ℕ → Option Registered) →
    ((n : ℕ) → old n ≡ left_by_all (take i leaving) (registered_under rs n)) →
    ((n : ℕ) → new n ≡ left_by (get_or leaving i d).0 (get_or leaving i d).1 n (old n)) → (n : ℕ) →
    new n ≡ left_by_all (take (i + 1) leaving) (registered_under rs n)
next_left rs leaving i d within old new are out n =
    out n ∙ ap (left_by (get_or leaving i d).0 (get_or leaving i d).1 n) (are n)
    ∙ one_more_left rs (take i leaving) (take (i + 1) leaving) (get_or leaving i d) (λ r. list_any_more (λ named. is_named named r) leaving i d within) n

-- what is left under each id, where that of this one is taken out if it is of this moment
pub taken_out : (old new : ℕ → Option Registered) (id moment : ℕ) → option_map_or (λ r. r.moment == moment) (old id) false ≡ true →
    ((n : ℕ) → new n ≡ cond (id == n) None (old n)) → (n : ℕ) → new n ≡ left_by id moment n (old n)
taken_out old new id moment since out n = out n ∙ by (id == n) refl (old n) refl
  where
    this : (r : Registered) → old n ≡ Some r → id ≡ n → (r.moment == moment) ≡ true
    this r e same = ap (λ o. option_map_or (λ (v : Registered). v.moment == moment) o false) (sym e ∙ ap old (sym same)) ∙ since

    by : (b : Bool) → (id == n) ≡ b → (o : Option Registered) → old n ≡ o → cond b None o ≡ left_by id moment n o
    by true same None e = refl
    by false differs None e = refl
    by true same (Some r) e =
        let both : (n == id && r.moment == moment) ≡ true = ap (λ b. b && r.moment == moment) (eq-eqb n id (sym (eqb-true id n same))) ∙ this r e (eqb-true id n same) in
        sym (ap (λ b. cond {A = Option Registered} b None (Some r)) both)
    by false differs (Some r) e = other (n == id) refl
      where
        other : (c : Bool) → (n == id) ≡ c → Some r ≡ cond {A = Option Registered} (c && r.moment == moment) None (Some r)
        other true same = absurd (false≢true (sym differs ∙ eq-eqb id n (sym (eqb-true n id same))))
        other false apart = refl

pub none_taken_out : (old new : ℕ → Option Registered) (id moment : ℕ) → option_map_or (λ r. r.moment == moment) (old id) false ≡ false →
    ((n : ℕ) → new n ≡ old n) → (n : ℕ) → new n ≡ left_by id moment n (old n)
none_taken_out old new id moment since out n = out n ∙ by (old n) refl
  where
    by : (o : Option Registered) → old n ≡ o → o ≡ left_by id moment n o
    by None e = refl
    by (Some r) e = other (n == id) refl
      where
        other : (c : Bool) → (n == id) ≡ c → Some r ≡ cond {A = Option Registered} (c && r.moment == moment) None (Some r)
        other false apart = refl
        other true same =
            let off : (r.moment == moment) ≡ false =
            ap (λ o. option_map_or (λ (v : Registered). v.moment == moment) o false) (sym e ∙ ap old (eqb-true n id same)) ∙ since in
            sym (ap (λ b. cond {A = Option Registered} b None (Some r)) off)

-- ---- which one hits

-- one of this id and moment holds where the one under the id does, if it is of that moment
pub one_holds : (holds : Registered → Bool) (id moment : ℕ) (rs : List Registered) → count_ids id rs ≤ 1 →
    list_any (λ r. is_named (id, moment) r && holds r) rs ≡ option_map_or (λ r. r.moment == moment && holds r) (registered_under rs id) false
one_holds holds id moment [] once = refl
one_holds holds id moment (y ∷ ys) once = by (y.id == id) refl (one_holds holds id moment ys (omega (arith, once, count_more id y ys)))
  where
    first : (a b c : Bool) → c ≡ false → ((true && a) && b || c) ≡ (a && b)
    first true true c e = refl
    first true false c e = e
    first false b c e = e

    by : (b : Bool) → (y.id == id) ≡ b → list_any (λ r. is_named (id, moment) r && holds r) ys ≡ option_map_or (λ r. r.moment == moment && holds r) (registered_under ys id) false →
        ((b && y.moment == moment) && holds y || list_any (λ r. is_named (id, moment) r && holds r) ys)
        ≡ option_map_or (λ r. r.moment == moment && holds r) (cond b (Some y) (registered_under ys id)) false
    by true e h = first (y.moment == moment) (holds y) (list_any (λ r. is_named (id, moment) r && holds r) ys)
        (h ∙ ap (λ o. option_map_or (λ r. r.moment == moment && holds r) o false) (none_later id y ys once e))
    by false e h = h
