-- No compute waits for the owner of a load, and no load for the owner of a key's computes.
use Rattle.std.proofs.Common.{◌≡◌, inl, inr, ℕ, Bool, true, cond, List, ◌∷◌, Option, Some, None, is_some, sym, ap, ◌∙◌, subst, arith}
use Rattle.moka_hist.specs.State.{Call, State}
use Rattle.moka_hist.specs.Plan.{Item}
use Rattle.moka_hist.specs.Plan as plan
use Rattle.moka_hist.specs.declared.loads.Kind.TheVariants as kind
use Rattle.moka_hist.specs.declared.loads.Kind.{Kind}
use Rattle.moka_hist.specs.declared.loads.Load.{Load}
use Rattle.moka_hist.specs.declared.loads.Sought.{Sought}
use Rattle.moka_laws.specs.Computes.{WaitsAreApart}
use Rattle.moka_laws.proofs.Counting.{some_same}
use Rattle.moka_laws.proofs.Outcomes.{computes_of}
use Rattle.moka_laws.proofs.Owning.{and_right, kind_one, plan_left}
use Rattle.moka_laws.proofs.Reading.{Answered}
use Rattle.moka_laws.proofs.Roles.{Fits, awaited}
use Rattle.moka_laws.proofs.Rules.{IsLoad}
use Rattle.moka_laws.proofs.Safe.{IsWell, in_well}
use Rattle.moka_laws.proofs.TakesFit.{AllTake}

module _ {K V E : Type 0} (eq : K → K → Bool) where
  -- who owns a load is live
  owner_lives : (o : Option (Call K V E)) (load : Option (Load K)) (j : Option ℕ) →
      Fits load j (plan_left o) → is_some load ≡ true → o ≡ None → ⊥
  owner_lives None load j f own none =
      let one = ap (λ b. cond {A = ℕ} b 1 0) own in absurd (omega (arith, f.owning, one))
  owner_lives (Some c) load j f own none = cc

  -- where the owner that a call waits for still owns a load, that is of the kind that it waits for
  same_kind : (s : State K V E) → IsWell eq s → (n owner : ℕ) (c : Call K V E)
      (load want : Load K) →
      s.calls n ≡ Some c → s.world.desk.joined n ≡ Some owner →
      s.world.desk.owning owner ≡ Some load → awaited c.plan ≡ Some want → load.kind ≡ want.kind
  same_kind s i n owner c load want live joined own waits =
      by (i.served.waits n owner want joined (ap (λ v. awaited (plan_left v)) live ∙ waits))
    where
      by : Answered eq s.world.desk.owning s.world.desk.settled owner want → load.kind ≡ want.kind
      by (inl other) =
          ap (λ (v : Load K). v.kind) (some_same (sym own ∙ other.1)) ∙
          kind_one other.0.kind want.kind (and_right _ _ other.2)
      by (inr ended) = absurd (owner_lives (s.calls owner) (s.world.desk.owning owner)
          (s.world.desk.joined owner) (i.served.fits owner) (ap is_some own)
          (i.unsettled.gone owner ended))

  pub waits_apart : WaitsAreApart K V E eq
  waits_apart s n owner c load h live joined own =
      let i : IsWell eq s = in_well eq s h in
      record {
        computes = λ compute rest e.
            same_kind s i n owner c load (computes_of compute.key) live joined own (ap awaited e);
        loads = λ sought rest e is. not_load sought.load.kind (is_load i sought rest e)
            (sym (same_kind s i n owner c load sought.load live joined own (ap awaited e)) ∙ is);
      }
    where
      not_load : (k : Kind) → IsLoad k → k ≡ kind.Compute → ⊥
      not_load k l e = subst IsLoad e l

      is_load : IsWell eq s → (sought : Sought K) (rest : List (Item K V E)) →
          c.plan ≡ plan.Read sought ∷ rest → IsLoad sought.load.kind
      is_load i sought rest e = (subst (AllTake (s.world.desk.asks n) (s.world.desk.told n)) e
          (i.fitting.taking.take n c live)).0
