-- A step keeps what those that wait for owners count on.
use Rattle.std.proofs.Common.{◌≡◌, ℕ, ◌+◌, ◌≤◌, ◌==◌, Bool, true, false, cond, [], ◌∷◌, Option, Some, None, is_some, inl, inr, refl, sym, ap, ◌∙◌, subst, arith}
use Rattle.std.proofs.lemmas.Bool.{eqb-true, false≢true}
use Rattle.std.specs.Option.{option_map_or}
use Rattle.moka_hist.specs.Finite.{put_at, put_key, load_eq}
use Rattle.moka_hist.specs.State.{Call, DeskPart}
use Rattle.moka_hist.specs.Plan.{Item, Aim}
use Rattle.moka_hist.specs.Plan as plan
use Rattle.moka_hist.specs.Visits.{readers_without, settled_without, settled_with, owners_without}
use Rattle.moka_hist.specs.Dropping.{left}
use Rattle.moka_hist.specs.declared.loads.Load.{Load}
use Rattle.moka_hist.specs.declared.loads.Sought.{Sought}
use Rattle.moka_hist.specs.declared.visits.Settled.{Settled}
use Rattle.moka_hist.specs.declared.visits.Settled.TheVariants as settled
use Rattle.moka_laws.proofs.Counting.{none_some, some_same, put_here, put_there, other_number}
use Rattle.moka_laws.proofs.Owning.{plan_left}
use Rattle.moka_laws.proofs.Roles.{Fits, IsLast, awaited, owners}
use Rattle.moka_laws.proofs.Weights.{weigh}
use Rattle.moka_laws.proofs.Reading.{joins, joins_self, fewer_readers, Answered, OwnerOf, answered_without, answered_with}
use Rattle.moka_hist.specs.declared.loads.Compute.{Compute}
use Rattle.moka_laws.proofs.Outcomes.{computes_of}

-- what the desk keeps of owners and of those that wait for them
pub record Part (K V E : Type 0) : Type 0 where
  pub owners : Load K → Option ℕ
  pub owning : ℕ → Option (Load K)
  pub joined : ℕ → Option ℕ
  pub readers : ℕ → ℕ
  pub settled : ℕ → Option (Settled V E)
  pub last : ℕ

abbrev pub part : {K V E : Type 0} → DeskPart K V E → Part K V E
part d = record { owners = d.owners; owning = d.owning; joined = d.joined; readers = d.readers; settled = d.settled; last = d.last }

pub no_load : {A : Type 0} (o : Option A) → cond {A = ℕ} (is_some o) 1 0 ≡ 0 → o ≡ None
no_load None e = refl
no_load (Some a) e = absurd (omega arith)

pub no_owner : {A : Type 0} (o : Option A) → is_some o ≡ false → o ≡ None
no_owner None e = refl
no_owner (Some a) e = absurd (false≢true (sym e))

pub at_most_one : (b : Bool) → cond {A = ℕ} b 1 0 ≤ 1
at_most_one true = omega arith
at_most_one false = omega arith

-- an owner that is left when a call's ownership ends is another
left_owner : (x : Option ℕ) (n o : ℕ) → cond (option_map_or (λ v. v == n) x false) None x ≡ Some o → (x ≡ Some o) × ((n == o) ≡ false)
left_owner None n o e = absurd (none_some e)
left_owner (Some v) n o e = by (v == n) refl e
  where
    by : (b : Bool) → (v == n) ≡ b → cond b None (Some v) ≡ Some o → (Some v ≡ Some o) × ((n == o) ≡ false)
    by true f e = absurd (none_some e)
    by false f e = (e, subst (λ u. (n == u) ≡ false) (some_same e) (other_number v n f))

module _ {K V E : Type 0} (eq : K → K → Bool) where
  -- what a step of the call, or its end, has to show
  pub record ServesPart (d : DeskPart K V E) (n : ℕ) (q : Part K V E) (left : Option (Call K V E)) : Type 0 where
    pub last : q.last ≡ d.last
    pub fits : Fits (q.owning n) (q.joined n) (plan_left left)
    pub owner : (load : Load K) (o : ℕ) → q.owners load ≡ Some o → OwnerOf eq q.owning o load
    pub joined : (m : ℕ) → (n == m) ≡ false → q.joined m ≡ d.joined m
    pub owning : (m : ℕ) → (n == m) ≡ false → q.owning m ≡ d.owning m
    pub counted : (o : ℕ) → q.readers o + joins o (d.joined n) ≡ d.readers o + joins o (q.joined n)
    pub others : (m o : ℕ) (load : Load K) → (n == m) ≡ false → d.joined m ≡ Some o → Answered eq d.owning d.settled o load →
        Answered eq q.owning q.settled o load
    pub own : (o : ℕ) (load : Load K) → q.joined n ≡ Some o → awaited (plan_left left) ≡ Some load → Answered eq q.owning q.settled o load

  module _ (d : DeskPart K V E) (n : ℕ)
      (owner : (load : Load K) (o : ℕ) → d.owners load ≡ Some o → OwnerOf eq d.owning o load)
      (enough : (m o : ℕ) → (n == m) ≡ false → d.joined m ≡ Some o → joins o (d.joined n) + 1 ≤ d.readers o)
      (enough_own : (o : ℕ) → joins o (d.joined n) ≤ d.readers o) where
    -- nothing of this has changed but the call's plan
    pub keeps : {left : Option (Call K V E)} → Fits (d.owning n) (d.joined n) (plan_left left) →
        ((o : ℕ) (load : Load K) → d.joined n ≡ Some o → awaited (plan_left left) ≡ Some load → Answered eq d.owning d.settled o load) →
        ServesPart d n (part d) left
    keeps f own = record {
      last = refl;
      fits = f;
      owner = owner;
      joined = λ m h. refl;
      owning = λ m h. refl;
      counted = λ o. refl;
      others = λ m o load h j a. a;
      own = own;
    }

    -- nothing of this has changed, and the call awaits no load
    pub keeps_none : {left : Option (Call K V E)} → Fits (d.owning n) (d.joined n) (plan_left left) → awaited (plan_left left) ≡ None →
        ServesPart d n (part d) left
    keeps_none f none = keeps f (λ o load j a. absurd (none_some (sym none ∙ a)))

    -- the owners that are left once the call's ownership has ended
    left_owners : (load : Load K) (o : ℕ) → owners_without d n load ≡ Some o → OwnerOf eq (put_at d.owning n None) o load
    left_owners load o e =
        let was = left_owner (d.owners load) n o e in
        let old = owner load o was.0 in
        (old.0, put_there d.owning n None o was.1 ∙ old.1, old.2)

    -- ---- the call owns the load, which nobody owned

    module _ (load : Load K) (none : d.owning n ≡ None) where
      still_owner : (o : ℕ) (l : Load K) → OwnerOf eq d.owning o l → OwnerOf eq (put_at d.owning n (Some load)) o l
      still_owner o l old = by (n == o) refl
        where
          by : (b : Bool) → (n == o) ≡ b → OwnerOf eq (put_at d.owning n (Some load)) o l
          by true e = absurd (none_some (sym none ∙ ap d.owning (eqb-true n o e) ∙ old.1))
          by false e = (old.0, put_there d.owning n (Some load) o e ∙ old.1, old.2)

      still_answered : (o : ℕ) (l : Load K) → Answered eq d.owning d.settled o l → Answered eq (put_at d.owning n (Some load)) d.settled o l
      still_answered o l (inl old) = inl (still_owner o l old)
      still_answered o l (inr some) = inr some

      claims_owner : (l : Load K) (o : ℕ) → put_key (load_eq eq) d.owners load (Some n) l ≡ Some o →
          OwnerOf eq (put_at d.owning n (Some load)) o l
      claims_owner l o e = by (load_eq eq load l) refl e
        where
          by : (b : Bool) → load_eq eq load l ≡ b → cond b (Some n) (d.owners l) ≡ Some o → OwnerOf eq (put_at d.owning n (Some load)) o l
          by true h e = subst (λ v. OwnerOf eq (put_at d.owning n (Some load)) v l) (some_same e) (load, put_here d.owning n (Some load), h)
          by false h e = still_owner o l (owner l o e)

      -- the call owns the load
      pub claims : {left : Option (Call K V E)} → IsLast (plan_left left) →
          weigh owners (plan_left left) ≡ 1 →
          awaited (plan_left left) ≡ None → is_some (d.joined n) ≡ false →
          ServesPart d n (part (record d { owners = put_key (load_eq eq) d.owners load (Some n); owning = put_at d.owning n (Some load) })) left
      claims last one idle free = record {
        last = refl;
        fits = record {
          last = last;
          owning = one ∙ ap (λ v. cond (is_some v) 1 0) (sym (put_here d.owning n (Some load)));
          waiting = free ∙ ap is_some (sym idle);
        };
        owner = claims_owner;
        joined = λ m h. refl;
        owning = λ m h. put_there d.owning n (Some load) m h;
        counted = λ o. refl;
        others = λ m o l h j a. still_answered o l a;
        own = λ o l j a. absurd (none_some (sym idle ∙ a));
      }

    -- the call waits for the owner of the load
    pub joins_owner : (sought : Sought K) (who : ℕ) {left : Option (Call K V E)} → d.owners sought.load ≡ Some who →
        plan_left left ≡ plan.Read sought ∷ [] → d.owning n ≡ None → d.joined n ≡ None →
        ServesPart d n (part (record d { joined = put_at d.joined n (Some who); readers = put_at d.readers who (d.readers who + 1) })) left
    joins_owner sought who owns p none free = record {
      last = refl;
      fits = subst (Fits (d.owning n) (put_at d.joined n (Some who) n)) (sym p)
          (record {
            last = refl;
            owning = ap (λ v. cond (is_some v) 1 0) (sym none);
            waiting = ap is_some
                (put_here d.joined n (Some who));
          });
      owner = owner;
      joined = λ m h. put_there d.joined n (Some who) m h;
      owning = λ m h. refl;
      counted = λ o. by o (who == o) refl;
      others = λ m o l h j a. a;
      own = λ o l j a.
          let is = some_same (sym (put_here d.joined n (Some who)) ∙ j) in
          let same = some_same (ap awaited (sym p) ∙ a) in
          inl (subst (λ v. OwnerOf eq d.owning v l) is (subst (λ v. OwnerOf eq d.owning who v) same (owner sought.load who owns)));
    }
      where
        by : (o : ℕ) (b : Bool) → (who == o) ≡ b →
            cond b (d.readers who + 1) (d.readers o) + joins o (d.joined n) ≡ d.readers o + joins o (put_at d.joined n (Some who) n)
        by o true e =
            let is = ap d.readers (eqb-true who o e) in
            omega (
              arith,
              ap (joins o) free,
              ap (joins o)
                  (put_here d.joined n (Some who)),
              ap (λ b. cond {A = ℕ} b 1 0) e,
            )
        by o false e =
            omega (
              arith,
              ap (joins o) free,
              ap (joins o)
                  (put_here d.joined n (Some who)),
              ap (λ b. cond {A = ℕ} b 1 0) e,
            )

    pub joins_key_owner : (compute : Compute K) (who : ℕ) {left : Option (Call K V E)} →
        d.owners (computes_of compute.key) ≡ Some who →
        plan_left left ≡ plan.Read_key compute ∷ [] → d.owning n ≡ None → d.joined n ≡ None →
        ServesPart d n (part (record d { joined = put_at d.joined n (Some who); readers = put_at d.readers who (d.readers who + 1) })) left
    joins_key_owner compute who owns p none free = record {
      last = refl;
      fits = subst (Fits (d.owning n) (put_at d.joined n (Some who) n)) (sym p)
          (record {
            last = refl;
            owning = ap (λ v. cond (is_some v) 1 0) (sym none);
            waiting = ap is_some
                (put_here d.joined n (Some who));
          });
      owner = owner;
      joined = λ m h. put_there d.joined n (Some who) m h;
      owning = λ m h. refl;
      counted = λ o. by o (who == o) refl;
      others = λ m o l h j a. a;
      own = λ o l j a.
          let is = some_same (sym (put_here d.joined n (Some who)) ∙ j) in
          let same = some_same (ap awaited (sym p) ∙ a) in
          inl (subst (λ v. OwnerOf eq d.owning v l) is (subst (λ v. OwnerOf eq d.owning who v) same (owner (computes_of compute.key) who owns)));
    }
      where
        by : (o : ℕ) (b : Bool) → (who == o) ≡ b →
            cond b (d.readers who + 1)
            (d.readers o) + joins o (d.joined n) ≡ d.readers o + joins o (put_at d.joined n (Some who) n)
        by o true e =
            let is = ap d.readers (eqb-true who o e) in
            omega (arith, ap (joins o) free, ap (joins o) (put_here d.joined n (Some who)), ap (λ b. cond {A = ℕ} b 1 0) e)
        by o false e = omega (arith, ap (joins o) free, ap (joins o) (put_here d.joined n (Some who)), ap (λ b. cond {A = ℕ} b 1 0) e)

    -- the call has read how its owner ended
    pub leaves_owner : {left : Option (Call K V E)} → Fits (d.owning n) None (plan_left left) →
        ServesPart d n (part (record d { joined = put_at d.joined n None; readers = readers_without d n; settled = settled_without d n })) left
    leaves_owner {left = gone} f = record {
      last = refl;
      fits = subst (λ v. Fits (d.owning n) v (plan_left gone)) (sym (put_here d.joined n None)) f;
      owner = owner;
      joined = λ m h. put_there d.joined n None m h;
      owning = λ m h. refl;
      counted = λ o. omega (arith, fewer_readers d n o (enough_own o), ap (joins o) (put_here d.joined n None));
      others = λ m o l h j a. answered_without eq d n o l (enough m o h j) a;
      own = λ o l j a. absurd (none_some (sym (put_here d.joined n None) ∙ j));
    }

    -- the call has ended its ownership
    pub ends_own : (with : Settled V E) {left : Option (Call K V E)} → Fits None (d.joined n) (plan_left left) →
        ((o : ℕ) (load : Load K) → d.joined n ≡ Some o → awaited (plan_left left) ≡ Some load → Answered eq d.owning d.settled o load) →
        ServesPart d n (part (record d { owners = owners_without d n; owning = put_at d.owning n None; settled = settled_with d n with d.settled })) left
    ends_own with {left = gone} f own = record {
      last = refl;
      fits = subst (λ v. Fits v (d.joined n) (plan_left gone)) (sym (put_here d.owning n None)) f;
      owner = left_owners;
      joined = λ m h. refl;
      owning = λ m h. put_there d.owning n None m h;
      counted = λ o. refl;
      others = λ m o l h j a. let some = enough m o h j in answered_with eq d n with d.settled o l (omega arith) a;
      own = λ o l j a. answered_with eq d n with d.settled o l (omega (arith, enough_own o, joins_self o (d.joined n) j)) (own o l j a);
    }

    -- the call is dropped
    pub drops : ServesPart d n (part (left d n None)) None
    drops = record {
      last = refl;
      fits = record {
        last = tt;
        owning = ap (λ v. cond (is_some v) 1 0) (sym (put_here d.owning n None));
        waiting = ap is_some
            (put_here d.joined n None);
      };
      owner = left_owners;
      joined = λ m h. put_there d.joined n None m h;
      owning = λ m h. put_there d.owning n None m h;
      counted = λ o. omega (arith, fewer_readers d n o (enough_own o), ap (joins o) (put_here d.joined n None));
      others = λ m o l h j a. let some = enough m o h j in answered_with eq d n settled.Aborted (settled_without d n) o l (omega arith)
          (answered_without eq d n o l some a);
      own = λ o l j a. absurd (none_some a);
    }
