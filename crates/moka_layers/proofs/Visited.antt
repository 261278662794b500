-- What a visit that is known finds and makes, the visit that is this one finds and makes.
use Rattle.std.proofs.Common.{◌≡◌, ℕ, Bool, true, false, cond, Option, Some, None, is_some, sym, subst, ap, ◌∙◌}
use Rattle.std.specs.Prelude.{Result, Ok, Err, IfOk, OnErr, MatchOption, not, ◌&&◌}
use Rattle.std.proofs.lemmas.Result.{IfOk-weaker, on_err_weaker}
use Rattle.std.specs.declared.cmp.PartialEq as PartialEq
use Rattle.std.specs.declared.hash.Hash as Hash
use Rattle.std.specs.declared.hash.Hasher as Hasher
use Rattle.std.specs.declared.hash.BuildHasher as BuildHasher
use Rattle.moka_hist.specs.Finite.{put_at}
use Rattle.moka_hist.specs.State.{DeskPart, Handed}
use Rattle.moka_hist.specs.Visits.{makes, claimed, claimed_alone, is_hit, is_seen, is_unlocked_for, locked_by, settlement_for, readers_without, settled_without}
use Rattle.moka_hist.specs.declared.loads.Kind.TheVariants as kind
use Rattle.moka_hist.specs.declared.records.Stored.{Stored}
use Rattle.moka_hist.specs.declared.visits.Settled.{Settled}
use Rattle.moka_hist.specs.declared.visits.Settled.TheVariants as settled
use Rattle.moka_hist.specs.declared.visits.Visit.{Visit}
use Rattle.moka_hist.specs.declared.visits.Visit.TheVariants as visit
use Rattle.moka_hist.specs.declared.visits.Found.{Found}
use Rattle.moka_desk.specs.Moments.{is_shown}
use Rattle.moka_desk.specs.Readers.{is_copied}
use Rattle.moka_desk.specs.declared.state.Desk.{Desk}
use Rattle.moka_init.specs.Forms.{IsFoundBy}
use Rattle.moka_init.specs.Grounds.{SettledNeedsMemory}
use Rattle.moka_layers.specs.Needing.{VisitNeedsMemory}
use Rattle.moka_layers.specs.Handing.{IsHanded}
use Rattle.moka_layers.specs.Visiting.{VisitBy, VisitIs, VisitLacks, test_holds}

module _ {K V E : Type 0} where
  -- the visit registers a predicate, and so draws ids
  abbrev pub registers : Visit K V E → Bool
  registers (visit.Register test) = true
  registers _ = false

  -- each other visit leaves what the desk was handed, and draws no id
  pub handed_same : (eq : K → K → Bool) (h : Handed K V) (w : DeskPart K V E) (v : Visit K V E) → registers v ≡ false → IsHanded h w → IsHanded h (makes eq w v)
  handed_same eq h w (visit.WaitOrOwn n key kind) e is = by (w.owners (record { key = key; kind = kind }))
    where
      by : (o : Option ℕ) → IsHanded h (claimed eq w n (record { key = key; kind = kind }) o)
      by None = is
      by (Some owner) = is
  handed_same eq h w (visit.OwnAlone n key) e is = by (w.owners (record { key = key; kind = kind.Compute }))
    where
      by : (o : Option ℕ) → IsHanded h (claimed_alone eq w n (record { key = key; kind = kind.Compute }) o)
      by None = is
      by (Some owner) = is
  handed_same eq h w (visit.ReadSettled n) e is = by (is_some (settlement_for w n))
    where
      by : (b : Bool) → IsHanded h (cond b (record w { joined = put_at w.joined n None; readers = readers_without w n; settled = settled_without w n }) w)
      by true = is
      by false = is
  handed_same eq h w (visit.LockKey n key) e is = by (is_unlocked_for w n key)
    where
      by : (b : Bool) → IsHanded h (locked_by eq w n key b)
      by true = is
      by false = is
  handed_same eq h w (visit.Register test) e is = absurd (cc)
  handed_same eq h w _ e is = is

  -- whether the record is seen, by what the tests and the predicates were asked
  pub seen_by : (w : DeskPart K V E) (answers : ℕ → K → V → Bool) (replace : Option ℕ) (key : K) (stored : Stored V) (replaced hit : Bool)
      → answers ≡ w.tests → replaced ≡ test_holds answers replace key stored.value → hit ≡ is_hit w key stored
      → (not replaced && is_shown w hit stored.stamp stored.modified) ≡ is_seen w replace key stored
  seen_by w answers replace key stored replaced hit tests is_replaced_so is_hit_so =
      ap (λ b. not b && is_shown w hit stored.stamp stored.modified)
      (is_replaced_so ∙ ap (λ (a : ℕ → K → V → Bool). test_holds a replace key stored.value) tests)
      ∙ ap (λ b. not (test_holds w.tests replace key stored.value) && is_shown w b stored.stamp stored.modified) is_hit_so

no : false ≡ true → ⊥
no e = cc

module _ {V E : Type 0} where
  -- what is copied of how an owner ended wants memory
  pub copied_needs : (o : Option (Settled V E)) → is_copied o ≡ true → MatchOption o ⊥ (λ s. SettledNeedsMemory s)
  copied_needs None e = no e
  copied_needs (Some settled.NotYet) e = no e
  copied_needs (Some (settled.Ready value)) e = tt
  copied_needs (Some (settled.Err error)) e = tt
  copied_needs (Some settled.Nothing) e = no e
  copied_needs (Some settled.Aborted) e = no e

module _ {K V E S H : Type 0} {same : PartialEq.Ghosts K} {hash : Hash.Ghosts K} {build : BuildHasher.Ghosts S H} {hasher : Hasher.Ghosts H} (eq : K → K → Bool) (old : Desk K V E S H same hash build hasher) (made known : Visit K V E) (is : made ≡ known)
    (handed : Handed K V) where
  pub by_handed : (new : Desk K V E S H same hash build hasher) (f : Found V E) (left : Handed K V)
      → VisitBy eq handed old known f new left → VisitBy eq handed old made f new left
  by_handed new f left = subst (λ v. VisitBy eq handed old v f new left) (sym is)

  -- the same where memory may have been wanting for it
  pub may_be_handed : {F : Type 0} (new : Desk K V E S H same hash build hasher) (r : Result (Found V E) F) (left : Handed K V)
      → IfOk r (λ f. VisitBy eq handed old known f new left) → IfOk r (λ f. VisitBy eq handed old made f new left)
  may_be_handed new r left = subst (λ v. IfOk r (λ f. VisitBy eq handed old v f new left)) (sym is)

  -- what was found has the visit's form
  pub form_by : (new : Desk K V E S H same hash build hasher) (f : Found V E) (left : Handed K V) → VisitBy eq handed old known f new left → IsFoundBy made f
  form_by new f left visited = subst (λ v. IsFoundBy v f) (sym is) visited.form

  pub may_have_form : {F : Type 0} (new : Desk K V E S H same hash build hasher) (r : Result (Found V E) F) (left : Handed K V)
      → IfOk r (λ f. VisitBy eq handed old known f new left) → IfOk r (λ f. IsFoundBy made f)
  may_have_form new r left = IfOk-weaker r (λ f. VisitBy eq handed old known f new left) (λ f. IsFoundBy made f) (λ f visited. form_by new f left visited)

  -- a visit for which nothing is asked or drawn
  pub by_desk : (new : Desk K V E S H same hash build hasher) (f : Found V E) → registers known ≡ false
      → VisitIs eq old known f new → VisitBy eq handed old made f new handed
  by_desk new f draws visited = by_handed new f handed (record {
    form = visited.form;
    made = λ w h handed_so may. let m = visited.made w h may in (m.0, m.1, handed_same eq handed w known draws handed_so);
  })

  pub may_make : {F : Type 0} (new : Desk K V E S H same hash build hasher) (r : Result (Found V E) F) → registers known ≡ false
      → IfOk r (λ f. VisitIs eq old known f new) → IfOk r (λ f. VisitBy eq handed old made f new handed)
  may_make new r draws =
      IfOk-weaker r (λ f. VisitIs eq old known f new) (λ f. VisitBy eq handed old made f new handed) (λ f visited. by_desk new f draws visited)

  -- memory was wanting for the visit that is known
  pub may_lack : {F : Type 0} (r : Result (Found V E) F)
      → OnErr r ((h : Handed K V) → VisitLacks eq h old known) → OnErr r (VisitLacks eq handed old made)
  may_lack r lacks = subst (λ v. OnErr r (VisitLacks eq handed old v)) (sym is) (on_err_weaker r (λ any. any handed) lacks)

  -- and by this that was handed
  pub may_lack_handed : {F : Type 0} (r : Result (Found V E) F)
      → OnErr r (VisitLacks eq handed old known) → OnErr r (VisitLacks eq handed old made)
  may_lack_handed r lacks = subst (λ v. OnErr r (VisitLacks eq handed old v)) (sym is) lacks

  -- any such visit may want some
  pub may_want : {F : Type 0} (r : Result (Found V E) F) → ((w : DeskPart K V E) → VisitNeedsMemory w known) → OnErr r (VisitLacks eq handed old made)
  may_want r needs = subst (λ v. OnErr r (VisitLacks eq handed old v)) (sym is) (by r) where
    by : {F : Type 0} (q : Result (Found V E) F) → OnErr q (VisitLacks eq handed old known)
    by (Ok f) = tt
    by (Err e) = λ w h so. needs w
