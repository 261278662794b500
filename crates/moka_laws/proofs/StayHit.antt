-- A record that is hit stays so as long as it stands.
use Rattle.std.proofs.Common.{◌≡◌, ℕ, Bool, true, nat_le, ◌&&◌, [], ◌∷◌, Some, ◌⊎◌, inl, inr, sym, ◌∙◌, subst}
use Rattle.std.specs.Cmp.{IsEquivalence}
use Rattle.std.proofs.lemmas.Bool.{false≢true}
use Rattle.moka_hist.specs.Plan as plan
use Rattle.moka_hist.specs.Run.{IsReached}
use Rattle.moka_hist.specs.State.{State}
use Rattle.moka_hist.specs.Step.{Step, access_of}
use Rattle.moka_hist.specs.Visits.{does_hit, is_hit}
use Rattle.moka_hist.specs.declared.accesses.Turn.{Turn}
use Rattle.moka_hist.specs.declared.predicates.Registered.{Registered}
use Rattle.moka_hist.specs.declared.records.Stored.{Stored}
use Rattle.moka_laws.specs.Predicates.{Carries, HitStayHit, IsSpent}
use Rattle.moka_laws.specs.Starting.{Leads}
use Rattle.moka_laws.proofs.Bearing.{Bears, step_bears, tests_after}
use Rattle.moka_laws.proofs.FollowingIn.{By_clock, By_drop, By_heard, By_start, By_step, By_told, Changes, follow_in}
use Rattle.moka_laws.proofs.Naming.{IsIn, any_found, any_holds}
use Rattle.moka_laws.proofs.Reached.{run_reached}
use Rattle.moka_laws.proofs.Striking.{stays_or_spent}

-- the predicate holds on the record, which isn't later
abbrev hits_in : {K V : Type 0} → K → Stored V → (ℕ → K → V → Bool) → Registered → Bool
hits_in there stored holds r = nat_le stored.modified r.moment && holds r.test there stored.value

module _ {K V E : Type 0} (eq : K → K → Bool) (laws : IsEquivalence eq) (key there : K) (stored : Stored V) where
  -- the record stands there, and is hit
  record IsHit (v : State K V E) : Type 0 where
    reached : IsReached eq v
    stands : v.world.table.stored key ≡ Some (there, stored)
    hit : is_hit v.world.desk there stored ≡ true

  reaches : (s t : State K V E) → Leads eq s t → IsReached eq s → IsReached eq t
  reaches s t led h = run_reached eq s t led.events led.replies h led.run

  hit_step : (s t : State K V E) (n : ℕ) (reply : Turn K V E) → IsHit s → Step eq s n reply t → is_hit t.world.desk there stored ≡ true
  hit_step s t n reply i step = by (stays_or_spent eq laws s t n reply found.0 i.reached step found.1)
    where
      found : (r : Registered) × IsIn s.world.desk.registered r × (does_hit s.world.desk there stored r ≡ true)
      found = any_found (does_hit s.world.desk there stored) s.world.desk.registered i.hit

      bears : Bears (tests_after s.world (access_of n step.call)) s.world.desk t.world.desk
      bears = step_bears eq s t n reply step

      by : IsIn t.world.desk.registered found.0 ⊎ ((step.call.plan ≡ plan.Retire ∷ []) × Carries step.call found.0 × IsSpent s found.0) →
          is_hit t.world.desk there stored ≡ true
      by (inl stays) = any_holds (does_hit t.world.desk there stored) t.world.desk.registered found.0 stays
          (subst (λ holds. hits_in there stored holds found.0 ≡ true) (sym bears.predicates) found.2)
      by (inr out) = absurd (false≢true (sym (out.2.hides key there stored i.stands) ∙ found.2))

  hit_kept : (s t : State K V E) → Changes eq s t → Leads eq s t → t.world.table.stored key ≡ Some (there, stored) → IsHit s → IsHit t
  hit_kept s t (By_clock v moment) led stands i = record { reached = reaches s t led i.reached; stands = stands; hit = i.hit }
  hit_kept s t (By_start v begin) led stands i = record { reached = reaches s t led i.reached; stands = stands; hit = i.hit }
  hit_kept s t (By_step v w n reply step) led stands i =
      record { reached = reaches s t led i.reached; stands = stands; hit = hit_step s t n reply i step }
  hit_kept s t (By_told v n given) led stands i = record { reached = reaches s t led i.reached; stands = stands; hit = i.hit }
  hit_kept s t (By_heard v n off) led stands i = record { reached = reaches s t led i.reached; stands = stands; hit = i.hit }
  hit_kept s t (By_drop v n c live between) led stands i = record { reached = reaches s t led i.reached; stands = stands; hit = i.hit }

module _ {K V E : Type 0} (eq : K → K → Bool) (laws : IsEquivalence eq) where
  pub stay_hit : HitStayHit K V E eq
  stay_hit s t key there stored events replies h stands hit run =
      (follow_in eq (λ v. v.world.table.stored key ≡ Some (there, stored)) (IsHit eq laws key there stored)
      (λ v w change led now i. hit_kept eq laws key there stored v w change led now i) s t events replies
      (record { reached = h; stands = stands; hit = hit }) run).hit
