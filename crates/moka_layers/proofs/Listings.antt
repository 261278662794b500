-- How the lists that calls have begun go on.
use Rattle.std.proofs.Common.{◌≡◌, ◌≢◌, ℕ, ◌==◌, Bool, true, false, not, cond, ◌&&◌, ◌||◌, Option, Some, None, IsSome, is_some, ◌⊎◌, inl, inr, refl, sym, ap, subst, ◌∙◌}
use Rattle.std.specs.Option.{option_map, unwrap_or}
use Rattle.std.proofs.lemmas.Bool.Decides.{eqb_tells}
use Rattle.std.proofs.lemmas.Bool.{eq-eqb, eqb-true}
use Rattle.moka_hist.specs.Finite.{put_at, put_key}
use Rattle.moka_hist.specs.State.{Listed, TablePart}
use Rattle.moka_hist.specs.Tables.{Operates, begun, by_pair, is_stored_in, listed_now, listings_begun, removed, taken_by, written}
use Rattle.moka_hist.specs.declared.records.Stored.{Stored}
use Rattle.moka_hist.specs.declared.tables.TableAnswer.{TableAnswer}
use Rattle.moka_hist.specs.declared.tables.TableOp.{TableOp}
use Rattle.moka_hist.specs.declared.tables.TableOp.TheVariants as op
use Rattle.moka_table.specs.Map.{GoesOnListing}
use Rattle.moka_table.specs.declared.table.Table as Table
use Rattle.moka_layers.specs.Listings.{IsStoredIn, ListedFollows, ListingFollows, ListsAs, ListsFor}

-- ---- maps by number

pub own_place : {A : Type 0} (f : ℕ → A) (n : ℕ) (w : A) → put_at f n w n ≡ w
own_place f n w = by (eqb_tells n n)
  where
    by : (((n == n) ≡ true) × (n ≡ n)) ⊎ (((n == n) ≡ false) × (n ≢ n)) → put_at f n w n ≡ w
    by (inl e) = ap (λ b. cond b w (f n)) e.0
    by (inr e) = absurd (e.1 refl)

pub other_place : {A : Type 0} (f : ℕ → A) (n m : ℕ) (w : A) → n ≢ m → put_at f n w m ≡ f m
other_place f n m w apart = by (eqb_tells n m)
  where
    by : (((n == m) ≡ true) × (n ≡ m)) ⊎ (((n == m) ≡ false) × (n ≢ m)) → put_at f n w m ≡ f m
    by (inl e) = absurd (apart e.1)
    by (inr e) = ap (λ b. cond b w (f m)) e.0

-- ---- both, and either

both_left : (a b : Bool) → (a && b) ≡ true → a ≡ true
both_left true b e = refl
both_left false b e = e

both_right : (a b : Bool) → (a && b) ≡ true → b ≡ true
both_right true b e = e
both_right false b e = absurd (cc)

both : (a b : Bool) → a ≡ true → b ≡ true → (a && b) ≡ true
both a b e f = ap (λ x. x && b) e ∙ f

either_left : (a b : Bool) → a ≡ true → (a || b) ≡ true
either_left a b e = ap (λ x. x || b) e

either_right : (a b : Bool) → b ≡ true → (a || b) ≡ true
either_right true b e = refl
either_right false b e = e

-- what is not equal
apart_of : (b : Bool) → not b ≡ true → b ≡ false
apart_of true e = absurd (cc)
apart_of false e = refl

module _ {K V : Type 0} where
  pub stored_tells : (t : TablePart K V) (part : ℕ) (q : K) → is_stored_in t part q ≡ true → IsStoredIn t part q
  stored_tells t part q e =
      (both_left _ _ e, eqb-true (t.division.part_of q) part (both_right (is_some (t.stored q)) _ e))

  pub tells_stored : (t : TablePart K V) (part : ℕ) (q : K) → IsStoredIn t part q → is_stored_in t part q ≡ true
  tells_stored t part q h = both _ _ h.0 (eq-eqb (t.division.part_of q) part h.1)

module _ {K V : Type 0} (eq : K → K → Bool) where
  -- a pair that was put leaves the others where they are
  put_keeps : (f : K → Option (K × Stored V)) (key : K) (pair : K × Stored V) (q : K) → IsSome (f q) → IsSome (put_key eq f key (Some pair) q)
  put_keeps f key pair q h = by (eq key q)
    where
      by : (b : Bool) → IsSome (cond b (Some pair) (f q))
      by true = refl
      by false = h

  put_adds : (f : K → Option (K × Stored V)) (key : K) (pair : K × Stored V) (may : Bool) (q : K) → IsSome (put_key eq f key (Some pair) q)
      → IsSome (f q) ⊎ ((may || eq key q) ≡ true)
  put_adds f key pair may q h = by (eq key q) h
    where
      by : (b : Bool) → IsSome (cond b (Some pair) (f q)) → IsSome (f q) ⊎ ((may || b) ≡ true)
      by true h = inr (either_right may true refl)
      by false h = inl h

  -- and a removal leaves those of other keys
  out_keeps : (f : K → Option (K × Stored V)) (key q : K) → eq key q ≡ false → IsSome (f q) → IsSome (put_key eq f key None q)
  out_keeps f key q apart h = subst (λ b. IsSome (cond b None (f q))) (sym apart) h

  out_adds : (f : K → Option (K × Stored V)) (key q : K) → IsSome (put_key eq f key None q) → IsSome (f q)
  out_adds f key q h = by (eq key q) h
    where
      by : (b : Bool) → IsSome (cond b None (f q)) → IsSome (f q)
      by true h = absurd (cc)
      by false h = h

  -- ---- what another call's step does to a list

  pub follows_written : (n : ℕ) (part : TablePart K V) (key : K) (stored : Stored V) (listing : Option (Listed K))
      → ((listed : Listed K) → listing ≡ Some listed → (q : K) → listed.must q ≡ true → IsSome (part.stored q))
      → ListingFollows (ListedFollows part (written eq n part key stored)) listing (option_map {T = Listed K} (λ l. record l { may = λ q. l.may q || eq key q }) listing)
  follows_written n part key stored None there = refl
  follows_written n part key stored (Some listed) there = (
    record listed { may = λ q. listed.may q || eq key q },
    refl,
    record {
      of_part = refl;
      must = λ q h. (h, put_keeps part.stored key (key, stored) q (there listed refl q h));
      may = λ q h. either_left _ _ h;
      stored = λ q h. put_adds part.stored key (key, stored) (listed.may q) q h;
    },
  )

  pub follows_removed : (n : ℕ) (part : TablePart K V) (key : K) (listing : Option (Listed K))
      → ((listed : Listed K) → listing ≡ Some listed → (q : K) → listed.must q ≡ true → IsSome (part.stored q))
      → ListingFollows (ListedFollows part (removed eq n part key)) listing (option_map {T = Listed K} (λ l. record l { must = λ q. l.must q && not (eq key q) }) listing)
  follows_removed n part key None there = refl
  follows_removed n part key (Some listed) there = (
    record listed { must = λ q. listed.must q && not (eq key q) },
    refl,
    record {
      of_part = refl;
      must = λ q h.
          let had = both_left (listed.must q) _ h in
          (had, out_keeps part.stored key q (apart_of (eq key q) (both_right (listed.must q) _ h)) (there listed refl q had));
      may = λ q h. h;
      stored = λ q h. inl (out_adds part.stored key q h);
    },
  )

module _ {K V : Type 0} where
  -- a part whose pairs stay, and the list of the call
  pub follows_same : (part after : TablePart K V) (listing on : Option (Listed K))
      → ((q : K) → after.stored q ≡ part.stored q) → on ≡ listing
      → ((listed : Listed K) → listing ≡ Some listed → (q : K) → listed.must q ≡ true → IsSome (part.stored q))
      → ListingFollows (ListedFollows part after) listing on
  follows_same part after None on same is there = is
  follows_same part after (Some listed) on same is there = (
    listed,
    is,
    record {
      of_part = refl;
      must = λ q h. (h, subst IsSome (sym (same q)) (there listed refl q h));
      may = λ q h. h;
      stored = λ q h. inl (subst IsSome (same q) h);
    },
  )

module _ {K V T C : Type 0} (t : Table.Ghosts T K V C) where
  -- what a list has to give is stored
  pub must_stored : (table : T) (c : C) (part : TablePart K V) (listing : Option (Listed K)) (o : TableOp K V) → ListsFor t table c part listing o
      → (listed : Listed K) → listing ≡ Some listed → (q : K) → listed.must q ≡ true → IsSome (part.stored q)
  must_stored table c part listing (op.Get key) h listed is q must = absurd (cc)
  must_stored table c part listing (op.InsertOrModify key stored) h listed is q must = absurd (cc)
  must_stored table c part listing (op.InsertIfAbsent key stored) h listed is q must = absurd (cc)
  must_stored table c part listing (op.RemoveIf key stamp) h listed is q must = absurd (cc)
  must_stored table c part listing (op.Keys p) h listed is q must =
      let same : h.0 ≡ listed = (cc) in
      (h.3.must q (ap (λ (l : Listed K). l.must q) same ∙ must)).0

  -- the list of a call that another's step has followed
  lists_follow : (old new : T) (c : C) (part after : TablePart K V) (listed on : Listed K)
      → ((q : K) → t.part_of old q ≡ part.division.part_of q) → ((q : K) → after.division.part_of q ≡ part.division.part_of q)
      → ((q : K) → t.map old q ≡ part.stored q) → ((q : K) → t.map new q ≡ after.stored q)
      → ((q : K) → t.listed new c q → t.listed old c q)
      → ((q : K) → t.part_of old q ≡ listed.part → IsSome (t.map old q) → IsSome (t.map new q) → t.covers old c q → t.covers new c q)
      → ListsAs t old c part listed → ListedFollows part after listed on → ListsAs t new c after on
  lists_follow old new c part after listed on divided kept was is listed_no_more covers h follows =
      let of_part = (λ (q : K) (s : IsStoredIn part listed.part q). divided q ∙ s.1) in
      record {
        covers = λ q must.
            let m = follows.must q must in
            let s = h.must q m.0 in
            covers q (of_part q s) (subst IsSome (sym (was q)) s.0) (subst IsSome (sym (is q)) m.1) (h.covers q m.0);
        may = λ q l. follows.may q (h.may q (listed_no_more q l));
        must = λ q must.
            let m = follows.must q must in
            (m.1, kept q ∙ (h.must q m.0).1 ∙ sym follows.of_part);
        stored = λ q s.
            let here : after.division.part_of q ≡ listed.part = s.1 ∙ follows.of_part in
            let by : IsSome (part.stored q) ⊎ (on.may q ≡ true) → on.may q ≡ true =
            elim [ inl there ↦ follows.may q (h.stored q (there, sym (kept q) ∙ here)) | inr may ↦ may ] in
            by (follows.stored q s.0);
      }

  pub listing_follows : (old new : T) (c : C) (part after : TablePart K V) (listing on : Option (Listed K)) (o : TableOp K V)
      → ((q : K) → t.part_of old q ≡ part.division.part_of q) → ((q : K) → after.division.part_of q ≡ part.division.part_of q)
      → ((q : K) → t.map old q ≡ part.stored q) → ((q : K) → t.map new q ≡ after.stored q)
      → ((q : K) → t.listed new c q → t.listed old c q)
      → ((p : ℕ) → o ≡ op.Keys p → (q : K) → t.part_of old q ≡ p → IsSome (t.map old q) → IsSome (t.map new q) → t.covers old c q → t.covers new c q)
      → ListsFor t old c part listing o → ListingFollows (ListedFollows part after) listing on → ListsFor t new c after on o
  listing_follows old new c part after listing on (op.Get key) divided kept was is no_more covers h follows =
      subst (λ (l : Option (Listed K)). ListingFollows (ListedFollows part after) l on) h follows
  listing_follows old new c part after listing on (op.InsertOrModify key stored) divided kept was is no_more covers h follows =
      subst (λ (l : Option (Listed K)). ListingFollows (ListedFollows part after) l on) h follows
  listing_follows old new c part after listing on (op.InsertIfAbsent key stored) divided kept was is no_more covers h follows =
      subst (λ (l : Option (Listed K)). ListingFollows (ListedFollows part after) l on) h follows
  listing_follows old new c part after listing on (op.RemoveIf key stamp) divided kept was is no_more covers h follows =
      subst (λ (l : Option (Listed K)). ListingFollows (ListedFollows part after) l on) h follows
  listing_follows old new c part after listing on (op.Keys p) divided kept was is no_more covers h follows =
      let f = subst (λ (l : Option (Listed K)). ListingFollows (ListedFollows part after) l on) h.1 follows in (
        f.0,
        f.1,
        f.2.of_part ∙ h.2,
        lists_follow old new c part after h.0 f.0 divided kept was is no_more (λ q there. covers p refl q (there ∙ h.2)) h.3 f.2,
      )

  -- ---- the call's own steps

  -- a list that begins has to give what is stored
  pub lists_begin : (table : T) (c : C) (part : TablePart K V) (n : ℕ) (o : TableOp K V)
      → ((q : K) → t.part_of table q ≡ part.division.part_of q) → part.listings n ≡ None
      → ((p : ℕ) → o ≡ op.Keys p → (q : K) → t.listed table c q → ⊥)
      → ((p : ℕ) → o ≡ op.Keys p → (q : K) → t.part_of table q ≡ p → t.covers table c q)
      → ListsFor t table c (begun part n o) (listings_begun part n o n) o
  lists_begin table c part n (op.Get key) divided none no_key all = none
  lists_begin table c part n (op.InsertOrModify key stored) divided none no_key all = none
  lists_begin table c part n (op.InsertIfAbsent key stored) divided none no_key all = none
  lists_begin table c part n (op.RemoveIf key stamp) divided none no_key all = none
  lists_begin table c part n (op.Keys p) divided none no_key all = (
    listed_now part p,
    own_place part.listings n _ ∙ ap (λ (l : Option (Listed K)). Some (unwrap_or l (listed_now part p))) none,
    refl,
    record {
      covers = λ q must. all p refl q (divided q ∙ (stored_tells part p q must).1);
      may = λ q l. absurd (no_key p refl q l);
      must = λ q must. stored_tells part p q must;
      stored = λ q s. tells_stored part p q s;
    },
  )

  -- an undecided step of its own
  pub lists_go_on : (old new : T) (c on : C) (part : TablePart K V) (listing : Option (Listed K)) (o : TableOp K V)
      → ((q : K) → t.part_of old q ≡ part.division.part_of q) → ((q : K) → t.map old q ≡ part.stored q)
      → ((p : ℕ) → o ≡ op.Keys p → GoesOnListing (t.map old) (λ q. t.part_of old q ≡ p) (t.listed old c) (t.listed new on) (t.covers old c) (t.covers new on))
      → ListsFor t old c part listing o → ListsFor t new on part listing o
  lists_go_on old new c on part listing (op.Get key) divided was goes h = h
  lists_go_on old new c on part listing (op.InsertOrModify key stored) divided was goes h = h
  lists_go_on old new c on part listing (op.InsertIfAbsent key stored) divided was goes h = h
  lists_go_on old new c on part listing (op.RemoveIf key stamp) divided was goes h = h
  lists_go_on old new c on part listing (op.Keys p) divided was goes h =
      let g = goes p refl in (
        h.0,
        h.1,
        h.2,
        record {
          covers = λ q must.
              let s = h.3.must q must in
              g.covers q (divided q ∙ s.1 ∙ h.2) (subst IsSome (sym (was q)) s.0) (h.3.covers q must);
          may = λ q l.
              let by : t.listed old c q ⊎ (IsSome (t.map old q) × (t.part_of old q ≡ p)) → h.0.may q ≡ true =
              elim [
                | inl had ↦ h.3.may q had
                | inr there ↦ h.3.stored q (subst IsSome (was q) there.0, sym (divided q) ∙ there.1 ∙ sym h.2)
              ] in
              by (g.lists q l);
          must = h.3.must;
          stored = h.3.stored;
        },
      )

  -- a step that wanted memory
  pub lists_still : (old new : T) (c on : C) (part : TablePart K V) (listing : Option (Listed K)) (o : TableOp K V)
      → ((q : K) → t.listed new on q → t.listed old c q) → ((q : K) → t.covers old c q → t.covers new on q)
      → ListsFor t old c part listing o → ListsFor t new on part listing o
  lists_still old new c on part listing (op.Get key) no_more covers h = h
  lists_still old new c on part listing (op.InsertOrModify key stored) no_more covers h = h
  lists_still old new c on part listing (op.InsertIfAbsent key stored) no_more covers h = h
  lists_still old new c on part listing (op.RemoveIf key stamp) no_more covers h = h
  lists_still old new c on part listing (op.Keys p) no_more covers h = (
    h.0,
    h.1,
    h.2,
    record {
      covers = λ q must. covers q (h.3.covers q must);
      may = λ q l. h.3.may q (no_more q l);
      must = h.3.must;
      stored = h.3.stored;
    },
  )

  -- ---- a list that was begun stays the one that it is

  -- a further step begins none
  pub begun_own : (table : T) (c : C) (part : TablePart K V) (n : ℕ) (o : TableOp K V) → ListsFor t table c part (part.listings n) o
      → listings_begun part n o n ≡ part.listings n
  begun_own table c part n (op.Get key) h = refl
  begun_own table c part n (op.InsertOrModify key stored) h = refl
  begun_own table c part n (op.InsertIfAbsent key stored) h = refl
  begun_own table c part n (op.RemoveIf key stamp) h = refl
  begun_own table c part n (op.Keys p) h =
      own_place part.listings n _ ∙ ap (λ (l : Option (Listed K)). Some (unwrap_or l (listed_now part p))) h.1 ∙ sym h.1

  -- it is the same in the table's part where it stands
  pub lists_there : (table : T) (c : C) (part : TablePart K V) (n : ℕ) (a o : TableOp K V) (listing : Option (Listed K)) → ListsFor t table c part listing o
      → ListsFor t table c (begun part n a) listing o
  lists_there table c part n a (op.Get key) listing h = h
  lists_there table c part n a (op.InsertOrModify key stored) listing h = h
  lists_there table c part n a (op.InsertIfAbsent key stored) listing h = h
  lists_there table c part n a (op.RemoveIf key stamp) listing h = h
  lists_there table c part n a (op.Keys p) listing h =
      (h.0, h.1, h.2, record { covers = h.3.covers; may = h.3.may; must = h.3.must; stored = h.3.stored })

  pub lists_back : (table : T) (c : C) (part : TablePart K V) (n : ℕ) (a o : TableOp K V) (listing : Option (Listed K)) → ListsFor t table c (begun part n a) listing o
      → ListsFor t table c part listing o
  lists_back table c part n a (op.Get key) listing h = h
  lists_back table c part n a (op.InsertOrModify key stored) listing h = h
  lists_back table c part n a (op.InsertIfAbsent key stored) listing h = h
  lists_back table c part n a (op.RemoveIf key stamp) listing h = h
  lists_back table c part n a (op.Keys p) listing h =
      (h.0, h.1, h.2, record { covers = h.3.covers; may = h.3.may; must = h.3.must; stored = h.3.stored })

module _ {K : Type 0} where
  -- at each number
  twice_at : (f : ℕ → Option (Listed K)) (n : ℕ) (l k : Listed K) (m : ℕ) →
      put_at (put_at f n (Some l)) n (Some (unwrap_or (put_at f n (Some l) n) k)) m ≡ put_at f n (Some l) m
  twice_at f n l k m = by (eqb_tells n m)
    where
      by : (((n == m) ≡ true) × (n ≡ m)) ⊎ (((n == m) ≡ false) × (n ≢ m)) →
          put_at (put_at f n (Some l)) n (Some (unwrap_or (put_at f n (Some l) n) k)) m ≡ put_at f n (Some l) m
      by (inl e) =
          ap (λ b. cond b (Some (unwrap_or (put_at f n (Some l) n) k)) (put_at f n (Some l) m)) e.0
          ∙ ap (λ (x : Option (Listed K)). Some (unwrap_or x k)) (own_place f n (Some l))
          ∙ sym (ap (λ b. cond b (Some l) (f m)) e.0)
      by (inr e) = ap (λ b. cond b (Some (unwrap_or (put_at f n (Some l) n) k)) (put_at f n (Some l) m)) e.0

module _ {K V : Type 0} where
  -- the lists of other calls are as they were
  pub begun_other : (part : TablePart K V) (n m : ℕ) (o : TableOp K V) → n ≢ m → listings_begun part n o m ≡ part.listings m
  begun_other part n m (op.Get key) apart = refl
  begun_other part n m (op.InsertOrModify key stored) apart = refl
  begun_other part n m (op.InsertIfAbsent key stored) apart = refl
  begun_other part n m (op.RemoveIf key stamp) apart = refl
  begun_other part n m (op.Keys p) apart = other_place part.listings n m _ apart

  -- what is begun twice is begun once
  pub begun_twice : (part : TablePart K V) (n : ℕ) (o : TableOp K V) → begun (begun part n o) n o ≡ begun part n o
  begun_twice part n (op.Get key) = refl
  begun_twice part n (op.InsertOrModify key stored) = refl
  begun_twice part n (op.InsertIfAbsent key stored) = refl
  begun_twice part n (op.RemoveIf key stamp) = refl
  begun_twice part n (op.Keys p) =
      λ i. record part { listings = λ m. twice_at part.listings n (unwrap_or (part.listings n) (listed_now part p)) (listed_now part p) m i }

module _ {K V : Type 0} (eq : K → K → Bool) where
  -- a write and a removal begin no list
  pub unlisted_written : (n : ℕ) (part : TablePart K V) (key : K) (stored : Stored V) (m : ℕ) → part.listings m ≡ None → (written eq n part key stored).listings m ≡ None
  unlisted_written n part key stored m none = ap (λ (l : Option (Listed K)). option_map {T = Listed K} (λ l. record l { may = λ q. l.may q || eq key q }) l) none

  pub unlisted_removed : (n : ℕ) (part : TablePart K V) (key : K) (m : ℕ) → part.listings m ≡ None → (removed eq n part key).listings m ≡ None
  unlisted_removed n part key m none = ap (λ (l : Option (Listed K)). option_map {T = Listed K} (λ l. record l { must = λ q. l.must q && not (eq key q) }) l) none

  -- where no call has a list, none has one once an operation has decided
  pub none_listed : (n : ℕ) (part after : TablePart K V) (o : TableOp K V) (answer : TableAnswer K V) → Operates eq n (begun part n o) o answer after
      → ((m : ℕ) → part.listings m ≡ None) → (m : ℕ) → after.listings m ≡ None
  none_listed n part after (op.Get key) answer does none m = ap (λ (t : TablePart K V). t.listings m) does.1 ∙ none m
  none_listed n part after (op.InsertOrModify key stored) answer does none m =
      ap (λ (t : TablePart K V). t.listings m) does.1 ∙ unlisted_written n part key stored m (none m)
  none_listed n part after (op.InsertIfAbsent key stored) answer does none m =
      ap (λ (t : TablePart K V). t.listings m) does.1 ∙ by (part.stored key)
    where
      by : (found : Option (K × Stored V)) → (by_pair found part (written eq n part key stored)).listings m ≡ None
      by None = unlisted_written n part key stored m (none m)
      by (Some pair) = none m
  none_listed n part after (op.RemoveIf key stamp) answer does none m =
      ap (λ (t : TablePart K V). t.listings m) does.1 ∙ by (taken_by stamp (part.stored key))
    where
      by : (out : Option (K × Stored V)) → (by_pair out (removed eq n part key) part).listings m ≡ None
      by None = none m
      by (Some pair) = unlisted_removed n part key m (none m)
  none_listed n part after (op.Keys p) answer does none m =
      ap (λ (t : TablePart K V). t.listings m) does.5 ∙ by (eqb_tells n m)
    where
      by : (((n == m) ≡ true) × (n ≡ m)) ⊎ (((n == m) ≡ false) × (n ≢ m)) → put_at (listings_begun part n (op.Keys p)) n None m ≡ None
      by (inl e) = ap (λ b. cond b None (listings_begun part n (op.Keys p) m)) e.0
      by (inr e) = other_place (listings_begun part n (op.Keys p)) n m None e.1 ∙ begun_other part n m (op.Keys p) e.1 ∙ none m
