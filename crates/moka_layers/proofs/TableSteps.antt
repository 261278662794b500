-- A step of the table is the reference's.
use Rattle.std.proofs.Common.{◌≡◌, ◌≢◌, ◌<◌, ◌≤◌, ◌==◌, ℕ, ◌+◌, ◌-◌, max, Bool, true, false, cond, List, Option, Some, None, is_some, IsSome, refl, sym, ap, subst, ◌∙◌, ◌⊎◌, inl, inr, arith}
use Rattle.std.proofs.lemmas.Bool.Decides.{eqb_tells}
use Rattle.std.specs.declared.cmp.PartialEq as PartialEq
use Rattle.std.specs.declared.hash.Hash as Hash
use Rattle.std.specs.declared.hash.Hasher as Hasher
use Rattle.std.specs.declared.hash.BuildHasher as BuildHasher
use Rattle.moka_hist.specs.Bound.{times_of, stayed, decided_by, most_undecided}
use Rattle.moka_hist.specs.State.{Listed, Stay, TablePart}
use Rattle.moka_hist.specs.Step as step
use Rattle.moka_hist.specs.Finite.{put_at, put_key}
use Rattle.moka_hist.specs.Tables.{Operates, answer_of, begun, by_pair, listings_begun, removed, taken_by, written}
use Rattle.moka_hist.specs.declared.records.Stored.{Stored}
use Rattle.moka_hist.specs.declared.tables.TableOp.{TableOp}
use Rattle.moka_hist.specs.declared.tables.TableOp.TheVariants as op
use Rattle.moka_hist.specs.declared.tables.TableAnswer.{TableAnswer}
use Rattle.moka_hist.specs.declared.tables.TableAnswer.TheVariants as found
use Rattle.moka_hist.specs.declared.tables.TableTurn.{TableTurn}
use Rattle.moka_hist.specs.declared.tables.TableTurn.TheVariants as turn
use Rattle.moka_hist.specs.declared.accesses.Got.TheVariants as got
use Rattle.moka_bound.specs.Falling.{keys_in, raised}
use Rattle.moka_init.specs.Grounds.{Accesses}
use Rattle.moka_table.specs.Map.{GoesOnListing, IsList, Moves, longest, most_steps}
use Rattle.moka_hist.specs.declared.record_tests.Tests as Tests
use Rattle.moka_ids.specs.declared.pcg_ids.PcgIds.{PcgIds}
use Rattle.moka_table.specs.declared.table.Table as Table
use Rattle.moka_desk.specs.declared.state.Desk.{Desk}
use Rattle.moka_layers.specs.Layers.{TableIs, BegunIs, LayersStay, Serves, account_of, most_on}
use Rattle.moka_layers.specs.Listings.{ListedFollows, ListingFollows, ListsFor}
use Rattle.moka_layers.proofs.Listings.{begun_other, begun_own, follows_removed, follows_same, follows_written, listing_follows, lists_go_on, lists_still, lists_there, must_stored, other_place, own_place, unlisted_removed, unlisted_written}

-- what a table says of one step of an operation
pub record Stepped {K V T C : Type 0} (t : Table.Ghosts T K V C) (eq : K → K → Bool) (o : TableOp K V) (old : T) (call : C) (turned : TableTurn K V) (new : T) (on : C) : Type 0 where
  pub moves : Moves eq o (t.map old) (t.count old) turned (t.map new) (t.count new)
  pub peak : t.peak new ≡ max (t.peak old) (t.count new)
  pub first : t.first new ≡ t.first old
  pub undecided : turned ≡ turn.Going → (t.operation_of on ≡ t.operation_of call) × t.fits new on
  pub nears : turned ≡ turn.Going → t.left new on < t.left old call
  pub others : (other : C) → t.fits old other → t.fits new other
  pub others_left : (other : C) → t.fits old other → t.left new other ≤ most_steps (t.first new) (t.peak new)
  pub holds : t.count old ≤ t.peak old
  pub parts : (t.divided new ≡ t.divided old) × ((q : K) → t.part_of new q ≡ t.part_of old q)
  pub lists : (p : ℕ) → o ≡ op.Keys p → turned ≡ turn.Going
      → GoesOnListing (t.map old) (λ q. t.part_of old q ≡ p) (t.listed old call) (t.listed new on) (t.covers old call) (t.covers new on)
  pub gives : (p : ℕ) (keys : List K) → o ≡ op.Keys p → turned ≡ turn.Decided (found.Keys keys)
      → IsList eq (t.map old) (λ q. t.part_of old q ≡ p) (t.listed old call) (t.covers old call) (longest (t.first old) (t.peak old)) keys
  pub others_listed : (other : C) → t.fits old other → (q : K) → t.listed new other q → t.listed old other q
  pub others_cover : (other : C) (p : ℕ) → t.fits old other → t.operation_of other ≡ Some (op.Keys p)
      → (q : K) → t.part_of old q ≡ p → IsSome (t.map old q) → IsSome (t.map new q) → t.covers old other q → t.covers new other q

-- what a table says of a step that wanted memory
pub record Wanting {K V T C : Type 0} (t : Table.Ghosts T K V C) (old : T) (call : C) (new : T) (on : C) : Type 0 where
  pub map : (q : K) → t.map new q ≡ t.map old q
  pub count : t.count new ≡ t.count old
  pub peak : t.peak new ≡ max (t.peak old) (t.count new)
  pub first : t.first new ≡ t.first old
  pub holds : t.count old ≤ t.peak old
  pub parts : (t.divided new ≡ t.divided old) × ((q : K) → t.part_of new q ≡ t.part_of old q)
  pub operation : t.operation_of on ≡ t.operation_of call
  pub fits : t.fits new on
  pub left : t.left new on ≡ t.left old call
  pub listed : (q : K) → t.listed new on q → t.listed old call q
  pub covers : (q : K) → t.covers old call q → t.covers new on q
  pub others : (other : C) → t.fits old other → t.fits new other
  pub others_left : (other : C) → t.fits old other → t.left new other ≤ t.left old other
  pub others_listed : (other : C) → t.fits old other → (q : K) → t.listed new other q → t.listed old other q
  pub others_cover : (other : C) (p : ℕ) → t.fits old other → t.operation_of other ≡ Some (op.Keys p)
      → (q : K) → t.part_of old q ≡ p → IsSome (t.map old q) → IsSome (t.map new q) → t.covers old other q → t.covers new other q

-- how often in a row the operation of the call stayed undecided that made the last step there, and that of another
times_own : (n k : ℕ) → times_of (record { call = n; times = k }) n ≡ k
times_own n k = by (eqb_tells n n)
  where
    by : (((n == n) ≡ true) × (n ≡ n)) ⊎ (((n == n) ≡ false) × (n ≢ n)) → times_of (record { call = n; times = k }) n ≡ k
    by (inl e) = ap (λ b. cond b k 0) e.0
    by (inr e) = absurd (e.1 refl)

times_other : (n k m : ℕ) → n ≢ m → times_of (record { call = n; times = k }) m ≡ 0
times_other n k m apart = by (eqb_tells n m)
  where
    by : (((n == m) ≡ true) × (n ≡ m)) ⊎ (((n == m) ≡ false) × (n ≢ m)) → times_of (record { call = n; times = k }) m ≡ 0
    by (inl e) = absurd (apart e.1)
    by (inr e) = ap (λ b. cond b k 0) e.0

one_operation : {K V : Type 0} {a b : TableOp K V} → Some a ≡ Some b → a ≡ b
one_operation e = cc

-- an operation adds one key at most
one_more : (b : Bool) (n : ℕ) → cond b n (n + 1) ≤ n + 1
one_more true n = omega arith
one_more false n = omega arith

-- a removal takes one out at most
no_more : (b : Bool) (n : ℕ) → cond b (n - 1) n ≤ n
no_more true n = omega arith
no_more false n = omega arith

module _ {K V T C : Type 0} (t : Table.Ghosts T K V C) (eq : K → K → Bool) where
  -- a table may leave operations undecided for no longer than the reference allows
  most_within : (table : T) (part : TablePart K V) → TableIs t table part → most_on t table ≤ most_undecided part
  most_within table part is = omega (arith, is.peak, is.first)

  -- What a call has begun that made no step there, after that of another.
  others_stay : (o : TableOp K V) (old new : T) (call on : C) (turned : TableTurn K V) (n k m : ℕ) (begun : Option C) (part after : TablePart K V) (stay : Stay)
      → Stepped t eq o old call turned new on → TableIs t old part → TableIs t new after → n ≢ m
      → ((q : K) → after.division.part_of q ≡ part.division.part_of q)
      → (((listed : Listed K) → part.listings m ≡ Some listed → (q : K) → listed.must q ≡ true → IsSome (part.stored q))
      → ListingFollows (ListedFollows part after) (part.listings m) (after.listings m))
      → BegunIs t old m begun part stay
      → BegunIs t new m begun after (record { call = n; times = k })
  others_stay o old new call on turned n k m None part after stay s was_is is apart divided follows was =
      let none = times_other n k m apart in
      let most = most_within new after is in
      let no_list : part.listings m ≡ None = was.listing in
      record {
        fits = tt;
        within = omega arith;
        patient = omega (arith, none, most);
        listing = subst (λ (l : Option (Listed K)). ListingFollows (ListedFollows part after) l (after.listings m)) no_list
            (follows (λ listed there. absurd (unlisted (part.listings m) listed no_list there)));
      }
    where
      unlisted : (l : Option (Listed K)) (listed : Listed K) → l ≡ None → l ≡ Some listed → ⊥
      unlisted l listed none there = cc
  others_stay o old new call on turned n k m (Some c) part after stay s was_is is apart divided follows was =
      let none = times_other n k m apart in
      let most = most_within new after is in
      let left = s.others_left c was.fits.0 in
      record {
        fits = (s.others c was.fits.0, was.fits.1);
        within = left;
        patient = omega (arith, none, most, left);
        listing = λ a is_a.
            let before = was.listing a is_a in
            listing_follows t old new c part after (part.listings m) (after.listings m) a was_is.part_of divided was_is.map is.map
            (s.others_listed c was.fits.0) (λ p keys. s.others_cover c p was.fits.0 (is_a ∙ ap (λ (x : TableOp K V). Some x) keys)) before
            (follows (must_stored t old c part (part.listings m) a before));
      }

  -- an undecided step leaves the table's part as it is
  still_is : (o : TableOp K V) (old new : T) (call on : C) (part : TablePart K V) → Stepped t eq o old call turn.Going new on → TableIs t old part → TableIs t new part
  still_is o old new call on part s is =
      record {
        map = λ q. s.moves.0 q ∙ is.map q;
        keys = s.moves.1 ∙ is.keys;
        peak = omega (arith, s.peak, s.moves.1, s.holds, is.peak);
        first = s.first ∙ is.first;
        parts = s.parts.0 ∙ is.parts;
        part_of = λ q. s.parts.1 q ∙ is.part_of q;
      }

  -- what is there after a step that wanted memory
  wanting_is : (old new : T) (call on : C) (part : TablePart K V) → Wanting t old call new on → TableIs t old part → TableIs t new part
  wanting_is old new call on part s is =
      record {
        map = λ q. s.map q ∙ is.map q;
        keys = s.count ∙ is.keys;
        peak = omega (arith, s.peak, s.count, s.holds, is.peak);
        first = s.first ∙ is.first;
        parts = s.parts.0 ∙ is.parts;
        part_of = λ q. s.parts.1 q ∙ is.part_of q;
      }

  wanting_others : (old new : T) (call on : C) (m : ℕ) (begun : Option C) (part : TablePart K V) (stay : Stay) → Wanting t old call new on → TableIs t old part
      → BegunIs t old m begun part stay → BegunIs t new m begun part stay
  wanting_others old new call on m None part stay s is was =
      let patient = was.patient in
      record { fits = tt; within = omega arith; patient = omega (arith, patient, s.peak, s.first, s.count, s.holds); listing = was.listing }
  wanting_others old new call on m (Some c) part stay s is was =
      let less = s.others_left c was.fits.0 in
      let within = was.within in
      let patient = was.patient in
      record {
        fits = (s.others c was.fits.0, was.fits.1);
        within = omega (arith, less, within, s.peak, s.first, s.count, s.holds);
        patient = omega (arith, less, patient);
        listing = λ a is_a.
            let before = was.listing a is_a in
            listing_follows t old new c part part (part.listings m) (part.listings m) a is.part_of (λ q. refl) is.map (λ q. s.map q ∙ is.map q)
            (s.others_listed c was.fits.0) (λ p keys. s.others_cover c p was.fits.0 (is_a ∙ ap (λ (x : TableOp K V). Some x) keys)) before
            (follows_same part part (part.listings m) (part.listings m) (λ q. refl) refl (must_stored t old c part (part.listings m) a before));
      }

  -- what the reference's part is after a step that decides
  record Decided (n : ℕ) (o : TableOp K V) (part : TablePart K V) (new : T) (answer : TableAnswer K V) : Type 0 where
    after : TablePart K V
    operates : Operates eq n (begun part n o) o answer after
    is : TableIs t new after
    -- its keys are divided as they were; the call has no list, and those of others go on
    divided : (q : K) → after.division.part_of q ≡ part.division.part_of q
    unlisted : after.listings n ≡ None
    follows : (m : ℕ) → n ≢ m → ((listed : Listed K) → part.listings m ≡ Some listed → (q : K) → listed.must q ≡ true → IsSome (part.stored q))
        → ListingFollows (ListedFollows part after) (part.listings m) (after.listings m)

  decides : (n : ℕ) (o : TableOp K V) (old new : T) (call on : C) (answer : TableAnswer K V) (part : TablePart K V)
      → Stepped t eq o old call (turn.Decided answer) new on → TableIs t old part → ListsFor t old call part (part.listings n) o
      → Decided n o part new answer
  decides n (op.Get key) old new call on answer part s is unlisted =
      record {
        after = part;
        divided = λ q. refl;
        unlisted = unlisted;
        follows = λ m apart there. follows_same part part (part.listings m) (part.listings m) (λ q. refl) refl there;
        operates = (s.moves.0 ∙ ap answer_of (is.map key), refl);
        is = record {
          map = λ q. s.moves.1 q ∙ is.map q;
          keys = s.moves.2 ∙ is.keys;
          peak = omega (arith, s.peak, s.moves.2, s.holds, is.peak);
          first = s.first ∙ is.first;
          parts = s.parts.0 ∙ is.parts;
          part_of = λ q. s.parts.1 q ∙ is.part_of q;
        };
      }
  decides n (op.InsertOrModify key stored) old new call on answer part s is unlisted =
      let keys : t.count new ≡ cond (is_some (part.stored key)) part.keys (part.keys + 1) =
      s.moves.2 ∙ ap (λ x. cond (is_some x) (t.count old) (t.count old + 1)) (is.map key)
      ∙ ap (λ k. cond (is_some (part.stored key)) k (k + 1)) is.keys in
      record {
        after = written eq n part key stored;
        divided = λ q. refl;
        unlisted = unlisted_written eq n part key stored n unlisted;
        follows = λ m apart there. follows_written eq n part key stored (part.listings m) there;
        operates = (s.moves.0 ∙ ap answer_of (is.map key), refl);
        is = record {
          map = λ q. s.moves.1 q ∙ ap (λ x. cond (eq key q) (Some (key, stored)) x) (is.map q);
          keys = keys;
          peak = omega (arith, s.peak, keys, is.peak);
          first = s.first ∙ is.first;
          parts = s.parts.0 ∙ is.parts;
          part_of = λ q. s.parts.1 q ∙ is.part_of q;
        };
      }
  decides n (op.InsertIfAbsent key stored) old new call on answer part s is unlisted =
      by (part.stored key) refl
    where
      by : (there : Option (K × Stored V)) → part.stored key ≡ there →
          Decided n (op.InsertIfAbsent key stored) part new answer
      by None e =
          let found : t.map old key ≡ None = is.map key ∙ e in
          let keys : t.count new ≡ part.keys + 1 =
          s.moves.2 ∙ ap (λ x. cond (is_some x) (t.count old) (t.count old + 1)) found
          ∙ ap (λ k. k + 1) is.keys in
          let counted : (written eq n part key stored).keys ≡ part.keys + 1 =
          ap (λ x. cond (is_some x) part.keys (part.keys + 1)) e in
          record {
            after = written eq n part key stored;
            divided = λ q. refl;
            unlisted = unlisted_written eq n part key stored n unlisted;
            follows = λ m apart there. follows_written eq n part key stored (part.listings m) there;
            operates = (
              s.moves.0 ∙ ap answer_of (is.map key),
              sym (ap (λ x. by_pair x part (written eq n part key stored)) e),
            );
            is = record {
              map = λ q.
                  s.moves.1 q
                  ∙ ap (λ x. cond (is_some x) (t.map old)
                  (put_key eq (t.map old) key (Some (key, stored))) q) found
                  ∙ ap (λ x. cond (eq key q) (Some (key, stored)) x) (is.map q);
              keys = keys ∙ sym counted;
              peak = omega (arith, s.peak, keys, counted, is.peak);
              first = s.first ∙ is.first;
              parts = s.parts.0 ∙ is.parts;
              part_of = λ q. s.parts.1 q ∙ is.part_of q;
            };
          }
      by (Some pair) e =
          let found : t.map old key ≡ Some pair = is.map key ∙ e in
          let keys : t.count new ≡ t.count old =
          s.moves.2 ∙ ap (λ x. cond (is_some x) (t.count old) (t.count old + 1)) found in
          record {
            after = part;
            divided = λ q. refl;
            unlisted = unlisted;
            follows = λ m apart there. follows_same part part (part.listings m) (part.listings m) (λ q. refl) refl there;
            operates = (
              s.moves.0 ∙ ap answer_of (is.map key),
              sym (ap (λ x. by_pair x part (written eq n part key stored)) e),
            );
            is = record {
              map = λ q.
                  s.moves.1 q
                  ∙ ap (λ x. cond (is_some x) (t.map old)
                  (put_key eq (t.map old) key (Some (key, stored))) q) found
                  ∙ is.map q;
              keys = keys ∙ is.keys;
              peak = omega (arith, s.peak, keys, s.holds, is.peak);
              first = s.first ∙ is.first;
              parts = s.parts.0 ∙ is.parts;
              part_of = λ q. s.parts.1 q ∙ is.part_of q;
            };
          }
  decides n (op.RemoveIf key stamp) old new call on answer part s is unlisted =
      by (taken_by stamp (part.stored key)) refl
    where
      by : (out : Option (K × Stored V)) → taken_by stamp (part.stored key) ≡ out →
          Decided n (op.RemoveIf key stamp) part new answer
      by None e =
          let found : taken_by stamp (t.map old key) ≡ None = ap (taken_by stamp) (is.map key) ∙ e in
          let keys : t.count new ≡ t.count old =
          s.moves.2 ∙ ap (λ x. cond (is_some x) (t.count old - 1) (t.count old)) found in
          record {
            after = part;
            divided = λ q. refl;
            unlisted = unlisted;
            follows = λ m apart there. follows_same part part (part.listings m) (part.listings m) (λ q. refl) refl there;
            operates = (
              s.moves.0 ∙ ap (λ x. answer_of (taken_by stamp x)) (is.map key),
              sym (ap (λ x. by_pair x (removed eq n part key) part) e),
            );
            is = record {
              map = λ q.
                  s.moves.1 q
                  ∙ ap (λ x. cond (is_some x) (put_key eq (t.map old) key None) (t.map old) q) found
                  ∙ is.map q;
              keys = keys ∙ is.keys;
              peak = omega (arith, s.peak, keys, s.holds, is.peak);
              first = s.first ∙ is.first;
              parts = s.parts.0 ∙ is.parts;
              part_of = λ q. s.parts.1 q ∙ is.part_of q;
            };
          }
      by (Some pair) e =
          let found : taken_by stamp (t.map old key) ≡ Some pair =
          ap (taken_by stamp) (is.map key) ∙ e in
          let keys : t.count new ≡ t.count old - 1 =
          s.moves.2 ∙ ap (λ x. cond (is_some x) (t.count old - 1) (t.count old)) found in
          record {
            after = removed eq n part key;
            divided = λ q. refl;
            unlisted = unlisted_removed eq n part key n unlisted;
            follows = λ m apart there. follows_removed eq n part key (part.listings m) there;
            operates = (
              s.moves.0 ∙ ap (λ x. answer_of (taken_by stamp x)) (is.map key),
              sym (ap (λ x. by_pair x (removed eq n part key) part) e),
            );
            is = record {
              map = λ q.
                  s.moves.1 q
                  ∙ ap (λ x. cond (is_some x) (put_key eq (t.map old) key None) (t.map old) q) found
                  ∙ ap (λ x. cond (eq key q) None x) (is.map q);
              keys = keys ∙ ap (λ k. k - 1) is.keys;
              peak = omega (arith, s.peak, keys, s.holds, is.peak);
              first = s.first ∙ is.first;
              parts = s.parts.0 ∙ is.parts;
              part_of = λ q. s.parts.1 q ∙ is.part_of q;
            };
          }
  decides n (op.Keys p) old new call on answer part s is listing =
      let listed : Listed K = listing.0 in
      let own : listings_begun part n (op.Keys p) n ≡ Some listed = begun_own t old call part n (op.Keys p) listing ∙ listing.1 in
      let keys : List K = s.moves.0.0 in
      let gives = s.gives p keys refl (ap (λ (a : TableAnswer K V). turn.Decided a) s.moves.0.1) in
      record {
        after = record part { listings = put_at (listings_begun part n (op.Keys p)) n None };
        operates = (
          listed,
          keys,
          own,
          record {
            distinct = gives.distinct;
            of_part = λ k d below. sym (is.part_of _) ∙ gives.of_part k d below ∙ sym listing.2;
            whole = λ q must.
                let there = listing.3.must q must in
                gives.whole q (is.part_of q ∙ there.1 ∙ listing.2) (subst IsSome (sym (is.map q)) there.0) (listing.3.covers q must);
            within = λ k d below. given_may listed _ (gives.within k d below);
            few = let few = gives.few in omega (arith, few, is.first, is.peak);
          },
          s.moves.0.1,
          refl,
        );
        is = record {
          map = λ q. s.moves.1 q ∙ is.map q;
          keys = s.moves.2 ∙ is.keys;
          peak = omega (arith, s.peak, s.moves.2, s.holds, is.peak);
          first = s.first ∙ is.first;
          parts = s.parts.0 ∙ is.parts;
          part_of = λ q. s.parts.1 q ∙ is.part_of q;
        };
        divided = λ q. refl;
        unlisted = own_place (listings_begun part n (op.Keys p)) n None;
        follows = λ m apart there.
            follows_same part _ (part.listings m) _ (λ q. refl)
            (other_place (listings_begun part n (op.Keys p)) n m None apart ∙ begun_other part n m (op.Keys p) apart) there;
      }
    where
      given_may : (l : Listed K) (q : K) → t.listed old call q ⊎ (IsSome (t.map old q) × (t.part_of old q ≡ p)) → listing.0.may q ≡ true
      given_may l q (inl had) = listing.3.may q had
      given_may l q (inr there) = listing.3.stored q (subst IsSome (is.map q) there.0, sym (is.part_of q) ∙ there.1 ∙ sym listing.2)

  -- by how much a step may raise how long operations stay undecided
  raises : (E : Type 0) (o : TableOp K V) (old new : T) (call on : C) (turned : TableTurn K V) → Stepped t eq o old call turned new on
      → most_on t new ≤ most_on t old + raised {E = E} (step.On_table o) (got.Table turned)
  raises E o old new call on turn.Going s = omega (arith, s.peak, s.first, s.moves.1, s.holds)
  raises E (op.Get key) old new call on (turn.Decided answer) s = omega (arith, s.peak, s.first, s.moves.2, s.holds)
  raises E (op.InsertOrModify key stored) old new call on (turn.Decided answer) s =
      let more = one_more (is_some (t.map old key)) (t.count old) in
      let count : t.count new ≡ cond (is_some (t.map old key)) (t.count old) (t.count old + 1) = s.moves.2 in
      omega (arith, s.peak, s.first, count, more, s.holds)
  raises E (op.InsertIfAbsent key stored) old new call on (turn.Decided answer) s =
      let more = one_more (is_some (t.map old key)) (t.count old) in
      let count : t.count new ≡ cond (is_some (t.map old key)) (t.count old) (t.count old + 1) = s.moves.2 in
      omega (arith, s.peak, s.first, count, more, s.holds)
  raises E (op.RemoveIf key stamp) old new call on (turn.Decided answer) s =
      let fewer = no_more (is_some (taken_by stamp (t.map old key))) (t.count old) in
      let count : t.count new ≡ cond (is_some (taken_by stamp (t.map old key))) (t.count old - 1) (t.count old) = s.moves.2 in
      omega (arith, s.peak, s.first, count, fewer, s.holds)
  raises E (op.Keys p) old new call on (turn.Decided answer) s = omega (arith, s.peak, s.first, s.moves.2, s.holds)

  -- a list gives no more keys than an operation may stay undecided for steps
  none_given : (map : Option (K × Stored V)) (keys : List K) (E : Type 0) → found.Keys keys ≡ answer_of map → ⊥
  none_given None keys E e = cc
  none_given (Some pair) keys E e = cc

  few_given : (E : Type 0) (o : TableOp K V) (old new : T) (call on : C) (answer : TableAnswer K V) → Stepped t eq o old call (turn.Decided answer) new on
      → keys_in {E = E} (got.Table (turn.Decided answer)) ≤ most_on t old
  few_given E o old new call on found.None s = omega arith
  few_given E o old new call on (found.Some there stored) s = omega arith
  few_given E (op.Get key) old new call on (found.Keys keys) s = absurd (none_given (t.map old key) keys E s.moves.0)
  few_given E (op.InsertOrModify key stored) old new call on (found.Keys keys) s = absurd (none_given (t.map old key) keys E s.moves.0)
  few_given E (op.InsertIfAbsent key stored) old new call on (found.Keys keys) s = absurd (none_given (t.map old key) keys E s.moves.0)
  few_given E (op.RemoveIf key stamp) old new call on (found.Keys keys) s = absurd (none_given (taken_by stamp (t.map old key)) keys E s.moves.0)
  few_given E (op.Keys p) old new call on (found.Keys keys) s =
      let few = (s.gives p keys refl refl).few in omega (arith, few)

module _ {K V E T C Q S H : Type 0} {same : PartialEq.Ghosts K} {hash : Hash.Ghosts K} {build : BuildHasher.Ghosts S H} {hasher : Hasher.Ghosts H} (t : Table.Ghosts T K V C) (q : Tests.Ghosts Q K V) (eq : K → K → Bool) where
  -- an undecided step
  pub going_serves : (o : TableOp K V) (old new : T) (call on : C) (desk : Desk K V E S H same hash build hasher) (tests : Q) (ids : PcgIds) (n : ℕ) → Stepped t eq o old call turn.Going new on
      → t.operation_of call ≡ Some o
      → Serves eq t q (record { table = old; desk = desk; tests = tests; ids = ids; call = n; begun = Some call }) (step.On_table o) (got.Table turn.Going)
      (record { table = new; desk = desk; tests = tests; ids = ids; call = n; begun = Some on })
  going_serves o old new call on desk tests ids n s is_o = λ w h may.
      let was_is = h.world.table in
      let kept = still_is t eq o old new call on w.table s was_is in
      let is : TableIs t new (begun w.table n o) = record {
        map = kept.map;
        keys = kept.keys;
        peak = kept.peak;
        first = kept.first;
        parts = kept.parts;
        part_of = kept.part_of;
      } in
      let listing = h.begun.listing o is_o in
      let there = begun_own t old call w.table n o listing in
      let goes = lists_there t new on w.table n o o (listings_begun w.table n o n)
      (subst (λ (l : Option (Listed K)). ListsFor t new on w.table l o) (sym there)
      (lists_go_on t old new call on w.table (w.table.listings n) o was_is.part_of was_is.map (λ p keys. s.lists p keys refl) listing)) in
      let own = times_own n (times_of w.stay n + 1) in
      let nears = s.nears refl in
      let undecided = s.undecided refl in
      let was = h.begun.within in
      let patient = h.begun.patient in
      let raised_by = s.peak in (
        record w { table = begun w.table n o; stay = stayed w.stay n },
        (omega (arith, patient, nears), refl),
        record {
          world = record { table = is; desk = h.world.desk; handed = h.world.handed; stay = h.given };
          begun = record {
            fits = (undecided.1, subst (λ (x : Option (TableOp K V)). IsSome x) (sym undecided.0) h.begun.fits.1);
            within = omega (arith, was, nears, s.first, raised_by);
            patient = omega (arith, own, patient, nears);
            listing = λ a is_a.
                let same : o ≡ a = one_operation (sym is_o ∙ sym undecided.0 ∙ is_a) in
                subst (λ (x : TableOp K V). ListsFor t new on (begun w.table n o) (listings_begun w.table n o n) x) same goes;
          };
          given = h.given;
        },
        (λ m begun_there apart stays.
            others_stay t eq o old new call on turn.Going n (times_of w.stay n + 1) m begun_there w.table (begun w.table n o) w.stay s was_is is apart (λ q. refl)
            (follows_same w.table (begun w.table n o) (w.table.listings m) (listings_begun w.table n o m) (λ q. refl) (begun_other w.table n m o apart)) stays),
      )

  -- a step that decides
  pub decided_serves : (o : TableOp K V) (old new : T) (call on : C) (desk : Desk K V E S H same hash build hasher) (tests : Q) (ids : PcgIds) (n : ℕ) (answer : TableAnswer K V)
      → Stepped t eq o old call (turn.Decided answer) new on → t.operation_of call ≡ Some o
      → Serves eq t q (record { table = old; desk = desk; tests = tests; ids = ids; call = n; begun = Some call }) (step.On_table o) (got.Table (turn.Decided answer))
      (record { table = new; desk = desk; tests = tests; ids = ids; call = n; begun = None })
  decided_serves o old new call on desk tests ids n answer s is_o = λ w h may.
      let d = decides t eq n o old new call on answer w.table s h.world.table (h.begun.listing o is_o) in
      let own = times_own n 0 in
      let most = most_within t eq new d.after d.is in (
        record w { table = d.after; stay = decided_by n },
        (d.after, d.operates, refl),
        record {
          world = record { table = d.is; desk = h.world.desk; handed = h.world.handed; stay = h.given };
          begun = record { fits = tt; within = omega arith; patient = omega (arith, own, most); listing = d.unlisted };
          given = h.given;
        },
        (λ m begun apart stays.
            others_stay t eq o old new call on (turn.Decided answer) n 0 m begun w.table d.after w.stay s h.world.table d.is apart d.divided (d.follows m apart) stays),
      )

  -- what is told of it
  pub going_tells : (o : TableOp K V) (old new : T) (call on : C) (desk : Desk K V E S H same hash build hasher) (tests : Q) (ids : PcgIds) (n : ℕ) → Stepped t eq o old call turn.Going new on
      → t.operation_of call ≡ Some o → t.left old call ≤ most_on t old
      → Accesses (account_of t (record { table = old; desk = desk; tests = tests; ids = ids; call = n; begun = Some call })) (step.On_table o) (got.Table turn.Going)
      (account_of t (record { table = new; desk = desk; tests = tests; ids = ids; call = n; begun = Some on }))
  going_tells o old new call on desk tests ids n s is_o within =
      let nears = s.nears refl in
      record {
        form = tt;
        call = refl;
        begun = (s.undecided refl).0 ∙ is_o;
        tells = λ before e. absurd (cc);
        lists = omega arith;
        shortens = λ keys. record {
          within = omega (arith, within, nears, s.first, s.peak);
          raises = raises t eq E o old new call on turn.Going s;
          going = λ e. nears;
          keys = omega arith;
        };
      }

  pub decided_tells : (o : TableOp K V) (old new : T) (call on : C) (desk : Desk K V E S H same hash build hasher) (tests : Q) (ids : PcgIds) (n : ℕ) (answer : TableAnswer K V)
      → Stepped t eq o old call (turn.Decided answer) new on
      → Accesses (account_of t (record { table = old; desk = desk; tests = tests; ids = ids; call = n; begun = Some call })) (step.On_table o) (got.Table (turn.Decided answer))
      (account_of t (record { table = new; desk = desk; tests = tests; ids = ids; call = n; begun = None }))
  decided_tells o old new call on desk tests ids n answer s =
      record {
        form = tt;
        call = refl;
        begun = refl;
        tells = λ before e. absurd (cc);
        lists = few_given t eq E o old new call on answer s;
        shortens = λ keys. record {
          within = omega arith;
          raises = raises t eq E o old new call on (turn.Decided answer) s;
          going = λ e. absurd (cc);
          keys = omega arith;
        };
      }

  -- a step that wanted memory leaves what the layers stand for
  pub wanting_stays : (old new : T) (call on : C) (desk : Desk K V E S H same hash build hasher) (tests : Q) (ids : PcgIds) (n : ℕ) → Wanting t old call new on
      → LayersStay eq t q (record { table = old; desk = desk; tests = tests; ids = ids; call = n; begun = Some call })
      (record { table = new; desk = desk; tests = tests; ids = ids; call = n; begun = Some on })
  wanting_stays old new call on desk tests ids n s = λ w h.
      let within = h.begun.within in
      let patient = h.begun.patient in
      let left = s.left in (
        record {
          world = record { table = wanting_is t eq old new call on w.table s h.world.table; desk = h.world.desk; handed = h.world.handed; stay = h.world.stay };
          begun = record {
            fits = (s.fits, subst (λ (x : Option (TableOp K V)). IsSome x) (sym s.operation) h.begun.fits.1);
            within = omega (arith, within, left, s.peak, s.first, s.count, s.holds);
            patient = omega (arith, patient, left);
            listing = λ a is_a.
                lists_still t old new call on w.table (w.table.listings n) a s.listed s.covers (h.begun.listing a (sym s.operation ∙ is_a));
          };
          given = h.given;
        },
        (λ m begun apart was. wanting_others t eq old new call on m begun w.table w.stay s h.world.table was),
      )
