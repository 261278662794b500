-- The keys that are noted of owners that have ended.
use Rattle.std.proofs.Common.{◌≡◌, ◌≤◌, ℕ, ◌==◌, Bool, true, false, cond, nat_lt, is_some, Option, Some, None, refl, sym, ap, ◌∙◌, subst}
use Rattle.std.proofs.lemmas.Bool.{false≢true}
use Rattle.std.proofs.lemmas.Option.{none-some}
use Rattle.std.specs.declared.cmp.PartialEq as PartialEq
use Rattle.std.specs.declared.hash.Hash as Hash
use Rattle.std.specs.declared.hash.Hasher as Hasher
use Rattle.std.specs.declared.hash.BuildHasher as BuildHasher
use Rattle.moka_hist.specs.State.{DeskPart, World}
use Rattle.moka_hist.specs.Step.{Access, On_desk}
use Rattle.moka_hist.specs.declared.events.Told.{Told}
use Rattle.moka_hist.specs.declared.visits.Settled.{Settled}
use Rattle.moka_hist.specs.declared.visits.Settled.TheVariants as settled
use Rattle.moka_hist.specs.declared.visits.Visit.TheVariants as visit
use Rattle.moka_desk.specs.Past.{AllowsAlike}
use Rattle.moka_desk.specs.StandsFor.{StandsFor}
use Rattle.moka_desk.specs.declared.state.Desk.{Desk}
use Rattle.moka_init.specs.Needs.{need_at}
use Rattle.moka_laws.specs.Fair.{ready}
use Rattle.moka_kept.specs.Facts.{EndIsNoted, EndsMeet, Facts, MakesSo, ended_by, ends_in}
use Rattle.moka_kept.specs.Kept.{CacheLayers, IsKept, IsToldTo}
use Rattle.moka_kept.proofs.Meeting.{forgot_ends, noted_ends}

-- an end with a value
ends_so : (K : Type 0) {V E : Type 0} (n : ℕ) (with : Settled V E) (value : V) → ready with ≡ Some value → ends_in (need_at {K = K} (On_desk (visit.Settle n with))) ≡ true
ends_so K n settled.NotYet value is = absurd (none-some value is)
ends_so K n (settled.Ready v) value is = refl
ends_so K n (settled.Err error) value is = absurd (none-some value is)
ends_so K n settled.Nothing value is = absurd (none-some value is)
ends_so K n settled.Aborted value is = absurd (none-some value is)

module _ {K V E : Type 0} where
  -- where an access ends no load with a value nothing is to be noted
  pub not_ending : (holds : K → V → Type 0) (ends : ℕ → Option K) (w : DeskPart K V E) (made : Access K V E) → ends_in (need_at made) ≡ false → EndIsNoted holds ends w made
  not_ending holds ends w made none n with value is waits ended =
      absurd (false≢true (sym none ∙ ap (λ a. ends_in (need_at a)) is ∙ ends_so K n with value ended))

  -- so where nobody waits for it
  pub not_awaited : (holds : K → V → Type 0) (ends : ℕ → Option K) (w : DeskPart K V E) (call : ℕ) (made : Access K V E)
      → ((n : ℕ) (with : Settled V E) → made ≡ On_desk (visit.Settle n with) → n ≡ call) → nat_lt 0 (w.readers call) ≡ false → EndIsNoted holds ends w made
  not_awaited holds ends w call made own none n with value is waits ended =
      absurd (false≢true (sym none ∙ ap (λ m. nat_lt 0 (w.readers m)) (sym (own n with is)) ∙ waits))

  -- a key that the state keeps is noted
  pub is_noted : (f : Facts K V) (own : Option K) (key : K) (ends : ℕ → Option K) (w : DeskPart K V E) (call : ℕ) (made : Access K V E) → own ≡ Some key
      → ((n : ℕ) (with : Settled V E) → made ≡ On_desk (visit.Settle n with) → n ≡ call) → ends call ≡ Some key → MakesSo f own made → EndIsNoted f.holds ends w made
  is_noted f own key ends w call made keeps mine noted so n with value is waits ended =
      (key, ap ends (mine n with is) ∙ noted, so.1 key value keeps (ap ended_by is ∙ ended))

module _ {K V E S H : Type 0} {same : PartialEq.Ghosts K} {hash : Hash.Ghosts K} {build : BuildHasher.Ghosts S H} {hasher : Hasher.Ghosts H} (eq : K → K → Bool) (holds : K → V → Type 0) (ends new : ℕ → Option K) where
  -- a key is noted of a call of which no end is kept, and nothing else has changed
  pub noted_at : (layers : CacheLayers K V E S H same hash build hasher) (call : ℕ) (key : K)
      → ((w : DeskPart K V E) → StandsFor eq layers.desk w → false ≡ is_some (w.settled call)) → ((n : ℕ) → new n ≡ cond (call == n) (Some key) (ends n))
      → (kept : IsKept eq holds ends layers) → (after : IsKept eq holds new layers) × (after.world ≡ kept.world)
  noted_at layers call key none is kept = (
    record {
      world = kept.world;
      stands = kept.stands;
      sound = kept.sound;
      log = kept.log;
      decided = kept.decided;
      none_begun = kept.none_begun;
      unlisted = kept.unlisted;
      stored = kept.stored;
      ended = noted_ends eq holds ends kept.world.desk.settled call key new (gone (kept.world.desk.settled call) (none kept.world.desk kept.stands.desk)) is kept.ended;
    },
    refl,
  )
    where
      gone : (o : Option (Settled V E)) → false ≡ is_some o → o ≡ None
      gone None e = refl
      gone (Some with) e = absurd (false≢true e)

  -- and forgotten
  pub forgot_at : (layers : CacheLayers K V E S H same hash build hasher) (call : ℕ)
      → ((w : DeskPart K V E) → StandsFor eq layers.desk w → false ≡ is_some (w.settled call)) → ((n : ℕ) → new n ≡ cond (call == n) None (ends n))
      → IsKept eq holds ends layers → IsKept eq holds new layers
  forgot_at layers call none is kept = record {
    world = kept.world;
    stands = kept.stands;
    sound = kept.sound;
    log = kept.log;
    decided = kept.decided;
    none_begun = kept.none_begun;
    unlisted = kept.unlisted;
    stored = kept.stored;
    ended = forgot_ends eq holds ends kept.world.desk.settled call new (gone (kept.world.desk.settled call) (none kept.world.desk kept.stands.desk)) is kept.ended;
  }
    where
      gone : (o : Option (Settled V E)) → false ≡ is_some o → o ≡ None
      gone None e = refl
      gone (Some with) e = absurd (false≢true e)

  -- what a call was told is there still
  pub told_still : (layers : CacheLayers K V E S H same hash build hasher)
      → ((kept : IsKept eq holds ends layers) → (after : IsKept eq holds new layers) × (after.world ≡ kept.world))
      → (n : ℕ) (told : Told V E) → IsToldTo eq holds ends layers n told → IsToldTo eq holds new layers n told
  told_still layers at n told there =
      let after = at there.kept in
      record { kept = after.0; there = ap (λ (w : World K V E). w.desk.told n) after.1 ∙ there.there }

-- what one world has of ends, each has that the desk stands for
pub ends_alike : {K V E S H : Type 0} {same : PartialEq.Ghosts K} {hash : Hash.Ghosts K} {build : BuildHasher.Ghosts S H} {hasher : Hasher.Ghosts H} (eq : K → K → Bool) (holds : K → V → Type 0) (ends : ℕ → Option K)
    (desk : Desk K V E S H same hash build hasher) (w v : DeskPart K V E) → StandsFor eq desk w → StandsFor eq desk v → EndsMeet holds ends w.settled → EndsMeet holds ends v.settled
ends_alike eq holds ends desk w v of_w of_v h owner with value is ended =
    h owner with value (sym (of_w.loads.settled owner) ∙ of_v.loads.settled owner ∙ is) ended

module _ {K V E S H : Type 0} {same : PartialEq.Ghosts K} {hash : Hash.Ghosts K} {build : BuildHasher.Ghosts S H} {hasher : Hasher.Ghosts H} (eq : K → K → Bool) (holds : K → V → Type 0) (ends new : ℕ → Option K) where
  -- the same is noted
  pub same_at : (layers : CacheLayers K V E S H same hash build hasher) → ((n : ℕ) → new n ≡ ends n) → (kept : IsKept eq holds ends layers)
      → (after : IsKept eq holds new layers) × (after.world ≡ kept.world)
  same_at layers is kept = (
    record {
      world = kept.world;
      stands = kept.stands;
      sound = kept.sound;
      log = kept.log;
      decided = kept.decided;
      none_begun = kept.none_begun;
      unlisted = kept.unlisted;
      stored = kept.stored;
      ended = λ owner with value there ended. let met = kept.ended owner with value there ended in (met.0, is owner ∙ met.1, met.2);
    },
    refl,
  )

-- ---- where nothing but the notes changes

module _ {K V E S H : Type 0} {same : PartialEq.Ghosts K} {hash : Hash.Ghosts K} {build : BuildHasher.Ghosts S H} {hasher : Hasher.Ghosts H} (eq : K → K → Bool) (old new : CacheLayers K V E S H same hash build hasher) (is : new ≡ old) where
  pub stands_back : (w : DeskPart K V E) → StandsFor eq new.desk w → StandsFor eq old.desk w
  stands_back w stands = subst (λ (layers : CacheLayers K V E S H same hash build hasher). StandsFor eq layers.desk w) is stands

  pub stands_on : (w : DeskPart K V E) → StandsFor eq old.desk w → StandsFor eq new.desk w
  stands_on w stands = subst (λ (layers : CacheLayers K V E S H same hash build hasher). StandsFor eq layers.desk w) (sym is) stands

  pub may_on : (n : ℕ) (Q : DeskPart K V E → Type 0) → ((w : DeskPart K V E) → StandsFor eq old.desk w → (n ≤ w.last) × AllowsAlike eq old.desk w Q)
      → (w : DeskPart K V E) → StandsFor eq new.desk w → (n ≤ w.last) × AllowsAlike eq new.desk w Q
  may_on n Q may =
      subst (λ (layers : CacheLayers K V E S H same hash build hasher). (w : DeskPart K V E) → StandsFor eq layers.desk w → (n ≤ w.last) × AllowsAlike eq layers.desk w Q) (sym is) may

  pub tests_on : new.tests.replaced ≡ old.tests.replaced
  tests_on = ap (λ (layers : CacheLayers K V E S H same hash build hasher). layers.tests.replaced) is
