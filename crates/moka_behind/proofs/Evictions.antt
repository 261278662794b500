-- Records taken out one after another.
use Rattle.std.proofs.Common.{◌≡◌, ◌<◌, ◌+◌, ℕ, suc, ◌==◌, nat_eq, Bool, true, false, cond, ◌||◌, List, [], ◌∷◌, length, map, drop, get_or, add-one, Option, Some, None, is_some, refl, sym, ap, ◌∙◌, subst}
use Rattle.std.proofs.lemmas.Bool.{eq-eqb, eqb-true}
use Rattle.std.proofs.Math.Seq.{drop-cons}
use Rattle.std.proofs.lemmas.Map.Keys.{IsDistinct-head, IsDistinct-tail}
use Rattle.std.proofs.lemmas.Map.Made.{length-from_same_keys}
use Rattle.std.specs.Cmp.{nat_eq_equiv}
use Rattle.std.specs.List.{AllByRecursion}
use Rattle.std.specs.Map.{keys_of, lookup}
use Rattle.std.specs.Option.{option_map}
use Rattle.std.specs.Set.{is_member}
use Rattle.std.specs.declared.cmp.PartialEq as PartialEq
use Rattle.std.specs.declared.hash.Hash as Hash
use Rattle.moka_hist.specs.Finite.{Lists, put_key}
use Rattle.moka_hist.specs.declared.events.Start.TheVariants as start
use Rattle.moka_hist.specs.declared.records.Stored.{Stored}
use Rattle.moka_hist.specs.declared.rules.Cause.TheVariants as cause
use Rattle.moka_small.specs.declared.outcome.Outcome.{Outcome}
use Rattle.moka_small.specs.Small.{Small}
use Rattle.moka_small.specs.Polled.{value_under}
use Rattle.moka_polled.specs.declared.machine.PolledMachine.{PolledMachine}
use Rattle.moka_keepers.specs.Writes.{Pairs}
use Rattle.moka_behind.specs.Evicting.{Evicts, HoldsPairs, small_pair}
use Rattle.moka_behind.specs.Holding.{Holds, Runs, run_of}
use Rattle.moka_behind.specs.Looking.{CountsKeys}
use Rattle.moka_behind.proofs.Keys.{flip}
use Rattle.moka_behind.proofs.Smalls.{run_evict}

-- ---- lists of pairs

absent : {A : Type 0} (key : ℕ) (xs : List (ℕ × A)) → AllByRecursion (λ y. nat_eq key y ≡ false) (keys_of xs) → lookup (nat_eq key) xs ≡ None
absent key [] h = refl
absent {A} key (x ∷ xs) h =
    ap (λ (b : Bool). cond b (Some x.1) (lookup (nat_eq key) xs)) h.0 ∙ absent key xs h.1

member_or : {A : Type 0} (b m : Bool) (v : A) (o : Option A) → m ≡ is_some o → (b || m) ≡ is_some (cond b (Some v) o)
member_or true m v o e = refl
member_or false m v o e = e

member_lookup : {A : Type 0} (q : ℕ) (xs : List (ℕ × A)) → is_member nat_eq (keys_of xs) q ≡ is_some (lookup (nat_eq q) xs)
member_lookup q [] = refl
member_lookup q (x ∷ xs) =
    member_or (nat_eq q x.0) (is_member nat_eq (keys_of xs) q) x.1 (lookup (nat_eq q) xs) (member_lookup q xs)

long_keys : (es : List (ℕ × Stored ℕ)) → length (keys_of (map small_pair es)) ≡ length es
long_keys [] = refl
long_keys (e ∷ es) = ap (λ (n : ℕ). suc n) (long_keys es)

left_at : {A : Type 0} (b c : Bool) (v : A) (o f : Option A) → c ≡ b → (b ≡ true → o ≡ None) → f ≡ cond b None (cond c (Some v) o) → o ≡ f
left_at true c v o f h none e = none refl ∙ sym e
left_at false c v o f h none e = sym (e ∙ ap (λ (x : Bool). cond x (Some v) o) h)

-- the first of the pairs is there
pub first_stored : (e : ℕ × Stored ℕ) (es : List (ℕ × Stored ℕ)) (f : ℕ → Option (ℕ × ℕ)) → Lists nat_eq (map small_pair (e ∷ es)) f →
    f e.0 ≡ Some (e.1.value, e.1.stamp)
first_stored e es f lists =
    sym (lists.same e.0)
    ∙ ap (λ (b : Bool). cond b (Some (e.1.value, e.1.stamp)) (lookup (nat_eq e.0) (map small_pair es))) (eq-eqb e.0 e.0 refl)

-- once it was taken out the others are there
pub rest_lists : (e : ℕ × Stored ℕ) (es : List (ℕ × Stored ℕ)) (f g : ℕ → Option (ℕ × ℕ)) → Lists nat_eq (map small_pair (e ∷ es)) f →
    ((q : ℕ) → g q ≡ put_key nat_eq f e.0 None q) → Lists nat_eq (map small_pair es) g
rest_lists e es f g lists gone = record {
  distinct = IsDistinct-tail nat_eq e.0 (keys_of (map small_pair es)) lists.distinct;
  same = λ q.
      left_at (e.0 == q) (q == e.0) (e.1.value, e.1.stamp) (lookup (nat_eq q) (map small_pair es)) (g q) (flip q e.0)
      (λ h. subst (λ (k : ℕ). lookup (nat_eq k) (map small_pair es) ≡ None) (eqb-true e.0 q h)
      (absent e.0 (map small_pair es) (IsDistinct-head nat_eq e.0 (keys_of (map small_pair es)) lists.distinct)))
      (gone q ∙ ap (λ (o : Option (ℕ × ℕ)). cond (e.0 == q) None o) (sym (lists.same q)));
}

module _ {E : Type 0} {same : PartialEq.Ghosts ℕ} {hash : Hash.Ghosts ℕ} where
  -- an eviction took its record out
  pub evicts : (old new : PolledMachine ℕ ℕ E same hash) (key stamp call : ℕ) (came : Outcome ℕ E) →
      Runs old (start.Evict key stamp cause.Size) call came new → Evicts old key stamp new
  evicts old new key stamp call came runs m value p idle e =
      let left = run_evict m idle key stamp value e in
      record {
        small = (run_of m (start.Evict key stamp cause.Size)).1;
        stands = (runs m p).stands;
        idle = left.0;
        stored = left.1;
      }

  -- and the others are held
  pub evicted : (old new : PolledMachine ℕ ℕ E same hash) (e : ℕ × Stored ℕ) (es : List (ℕ × Stored ℕ)) → HoldsPairs old (e ∷ es) →
      Evicts old e.0 e.1.stamp new → HoldsPairs new es
  evicted old new e es h evict =
      let gone = evict h.small e.1.value h.stands h.idle (first_stored e es h.small.stored h.lists) in
      record {
        small = gone.small;
        stands = gone.stands;
        idle = gone.idle;
        lists = rest_lists e es h.small.stored gone.small.stored h.lists gone.stored;
      }

  -- and so in a loop over them
  pub evicted_at : (old new : PolledMachine ℕ ℕ E same hash) (es : List (ℕ × Stored ℕ)) (i : ℕ) (d : ℕ × Stored ℕ) → i < length es →
      HoldsPairs old (drop i es) → Evicts old (get_or es i d).0 (get_or es i d).1.stamp new → HoldsPairs new (drop (i + 1) es)
  evicted_at old new es i d within h evict =
      subst (λ (l : List (ℕ × Stored ℕ)). HoldsPairs new l) (ap (λ (n : ℕ). drop n es) (sym (add-one i)))
      (evicted old new (get_or es i d) (drop (suc i) es)
      (subst (λ (l : List (ℕ × Stored ℕ)). HoldsPairs old l) (drop-cons es i d within) h) evict)

  -- nothing is held any more
  pub holds_nothing : (new : PolledMachine ℕ ℕ E same hash) → HoldsPairs new [] → Holds new (λ key. None)
  holds_nothing new h = record {
    small = h.small;
    stands = h.stands;
    such = h.idle;
    values = λ key. ap (λ (o : Option (ℕ × ℕ)). option_map (λ kept. kept.0) o) (sym (h.lists.same key));
  }

some_mapped : (o : Option (ℕ × ℕ)) → is_some (option_map (λ kept. kept.0) o) ≡ is_some o
some_mapped None = refl
some_mapped (Some kept) = refl

-- there are as many pairs as keys
pub counts : {E : Type 0} (m : Small ℕ ℕ E) (ps : Pairs) (es : List (ℕ × Stored ℕ)) → ((q : ℕ) → value_under m q ≡ ps q) →
    Lists nat_eq (map small_pair es) m.stored → CountsKeys ps (length es)
counts m ps es values lists keys distinct same =
    sym (long_keys es)
    ∙ length-from_same_keys nat_eq_equiv (keys_of (map small_pair es)) keys lists.distinct distinct
    (λ q. member_lookup q (map small_pair es) ∙ ap is_some (lists.same q) ∙ sym (some_mapped (m.stored q))
    ∙ ap is_some (values q) ∙ same q)
