-- A visit may be made where what it needs is met.
use Rattle.std.proofs.Common.{◌≡◌, ◌≢◌, ℕ, Bool, true, false, ◌||◌, Option, Some, None, is_some, IfSome, IsSome, IsNone, IsTrue, refl, sym, ap, ◌∙◌, subst}
use Rattle.std.specs.Option.{option_and_then, option_map}
use Rattle.std.specs.Prelude.{◌↔◌, IsSomeAnd}
use Rattle.moka_hist.specs.Conditions.{HasUnsettled, HoldsNoWrite, HoldsWrite, IsUnused, MayVisit, may_end}
use Rattle.moka_needs.specs.Needs.{IsOfCall, ending_of, need_of}
use Rattle.moka_needs.specs.Reads.{EndedAs}
use Rattle.moka_needs.specs.declared.needs.Ending.{Ending}
use Rattle.moka_hist.specs.State.{DeskPart}
use Rattle.moka_hist.specs.Visits.{settlement_for}
use Rattle.moka_hist.specs.declared.loads.Kind.{Kind}
use Rattle.moka_hist.specs.declared.loads.Kind.TheVariants as kind
use Rattle.moka_hist.specs.declared.loads.Load.{Load}
use Rattle.moka_hist.specs.declared.visits.Settled.{Settled}
use Rattle.moka_hist.specs.declared.visits.Settled.TheVariants as settled
use Rattle.moka_hist.specs.declared.visits.Visit.{Visit}
use Rattle.moka_hist.specs.declared.visits.Visit.TheVariants as visit
use Rattle.moka_desk.specs.Meets.{Meets, may_end_so}

along : {A : Type 0} (P : A → Type 0) (a b : A) → a ≡ b → P b ↔ P a
along P a b e = (subst P (sym e), subst P e)

same_end : {V E : Type 0} (k : Kind) (s : Settled V E) → may_end k s ≡ may_end_so k (ending_of s)
same_end kind.GetWith settled.NotYet = refl
same_end kind.GetWith (settled.Ready value) = refl
same_end kind.GetWith (settled.Err error) = refl
same_end kind.GetWith settled.Nothing = refl
same_end kind.GetWith settled.Aborted = refl
same_end kind.Optional settled.NotYet = refl
same_end kind.Optional (settled.Ready value) = refl
same_end kind.Optional (settled.Err error) = refl
same_end kind.Optional settled.Nothing = refl
same_end kind.Optional settled.Aborted = refl
same_end kind.Try settled.NotYet = refl
same_end kind.Try (settled.Ready value) = refl
same_end kind.Try (settled.Err error) = refl
same_end kind.Try settled.Nothing = refl
same_end kind.Try settled.Aborted = refl
same_end kind.Compute settled.NotYet = refl
same_end kind.Compute (settled.Ready value) = refl
same_end kind.Compute (settled.Err error) = refl
same_end kind.Compute settled.Nothing = refl
same_end kind.Compute settled.Aborted = refl

module _ {K V E : Type 0} where
  ends : (o : Option (Load K)) (s : Settled V E) → IsSomeAnd o (λ load. may_end_so load.kind (ending_of s) ≡ true) ↔ IsSomeAnd o (λ load. may_end load.kind s ≡ true)
  ends None s = ((λ h. h), (λ h. h))
  ends (Some load) s = along (λ b. b ≡ true) _ _ (same_end load.kind s)

  pub meets_is_may : (w : DeskPart K V E) (call : ℕ) (made : Visit K V E) → IsOfCall call made → Meets w call (need_of made) ↔ MayVisit w made
  meets_is_may w call (visit.Clock n) is = along (λ m. HoldsNoWrite w m) n call is
  meets_is_may w call (visit.TakeOwed n) is = along (λ m. IsNone (w.holding m)) n call is
  meets_is_may w call (visit.NoticeEnded n number) is = ((λ h. h), (λ h. h))
  meets_is_may w call (visit.LockKey n key) is = along (λ m. IsNone (w.locked m) × IsNone (w.kept m)) n call is
  meets_is_may w call (visit.UnlockKey n wrote) is = along (λ m. IsSome (w.locked m) × (wrote ≡ false → HoldsNoWrite w m)) n call is
  meets_is_may w call (visit.OpenNotice n key value stamp modified cause upsert) is = along (λ m. IsNone (w.notices m)) n call is
  meets_is_may w call (visit.StampMoment n) is = along (λ m. IsNone (w.holding m) × IsUnused w m) n call is
  meets_is_may w call (visit.Judge replace key stored) is = ((λ h. h), (λ h. h))
  meets_is_may w call (visit.Scan key stored) is = ((λ h. h), (λ h. h))
  meets_is_may w call (visit.Holds key stored cause) is = ((λ h. h), (λ h. h))
  meets_is_may w call (visit.WaitOrOwn n key kind) is =
      along (λ m. IsNone (w.owning m) × IsNone (w.joined m) × HasUnsettled w (record { key = key; kind = kind })) n call is
  meets_is_may w call (visit.OwnAlone n key) is = along (λ m. IsNone (w.owning m) × IsNone (w.joined m)) n call is
  meets_is_may w call (visit.ReadSettled n) is = along (λ m. IsSome (w.joined m)) n call is
  meets_is_may w call (visit.Settle n with) is =
      let back = along (λ m. IsSomeAnd (w.owning m) (λ load. may_end load.kind with ≡ true)) n call is in
      let end = ends (w.owning call) with in
      ((λ h. back.0 (end.0 h)), (λ h. end.1 (back.1 h)))
  meets_is_may w call (visit.OpenAsk n takes) is = along (λ m. IsNone (w.asks m) × IsNone (w.told m)) n call is
  meets_is_may w call (visit.TakeTold n) is = along (λ m. (is_some (w.asks m) || is_some (w.told m)) ≡ true) n call is
  meets_is_may w call (visit.PostWrite n write) is = along (λ m. HoldsWrite w m write) n call is
  meets_is_may w call (visit.TakeTurn n) is = along (λ m. w.turn ≢ Some m) n call is
  meets_is_may w call (visit.ApplyOne n) is = along (λ m. w.turn ≡ Some m) n call is
  meets_is_may w call (visit.EndTurn n) is = along (λ m. w.turn ≡ Some m) n call is
  meets_is_may w call visit.InvalidateAll is = ((λ h. h), (λ h. h))
  meets_is_may w call (visit.Register test) is = ((λ h. h), (λ h. h))
  meets_is_may w call visit.Candidates is = ((λ h. h), (λ h. h))
  meets_is_may w call (visit.Strike ids key stored) is = ((λ h. h), (λ h. h))
  meets_is_may w call (visit.Retire ids) is = ((λ h. h), (λ h. h))

-- ---- what a call reads

some_same : {A : Type 0} {x y : A} → Some x ≡ Some y → x ≡ y
some_same e = cc

module _ {K V E : Type 0} where
  pub ended_some : (w : DeskPart K V E) (call : ℕ) (k : Kind) (with : Ending) (b : Bool) → b ≡ may_end_so k with → option_map ending_of (settlement_for w call) ≡ Some with
      → IsTrue b ↔ EndedAs w call k
  ended_some w call k with b is some = by (settlement_for w call) some
    where
      by : (o : Option (Settled V E)) → option_map ending_of o ≡ Some with → IsTrue b ↔ IfSome o (λ s. may_end k s ≡ true)
      by (Some s) e = along (λ v. v ≡ true) (may_end k s) b (same_end k s ∙ ap (may_end_so k) (some_same e) ∙ sym is)
      by None e = absurd cc

  pub ended_none : (w : DeskPart K V E) (call : ℕ) (k : Kind) → option_map ending_of (settlement_for w call) ≡ None → IsTrue true ↔ EndedAs w call k
  ended_none w call k none = by (settlement_for w call) none
    where
      by : (o : Option (Settled V E)) → option_map ending_of o ≡ None → IsTrue true ↔ IfSome o (λ s. may_end k s ≡ true)
      by None e = ((λ h. tt), (λ h. refl))
      by (Some s) e = absurd cc

-- the same is found in maps that have the same
pub joined_end : {A : Type 0} (f g : ℕ → Option A) → ((n : ℕ) → f n ≡ g n) → (a b : Option ℕ) → a ≡ b → option_and_then f a ≡ option_and_then g b
joined_end f g same a b e = subst (λ v. option_and_then f a ≡ option_and_then g v) e (by a)
  where
    by : (o : Option ℕ) → option_and_then f o ≡ option_and_then g o
    by None = refl
    by (Some n) = same n
