-- A call looks a key up, once no write is owed.
use Rattle.std.specs.Option.{option_and_then}
use Rattle.std.proofs.Common.{◌≡◌, ℕ, Bool, true, false, cond, List, [], ◌∷◌, Option, Some, None, sym, ap, ◌∙◌, subst}
use Rattle.moka_hist.specs.State.{World, Call, DeskPart, TablePart}
use Rattle.moka_hist.specs.Plan.{Item, Aim}
use Rattle.moka_hist.specs.Plan as plan
use Rattle.moka_hist.specs.Visits.{is_seen}
use Rattle.moka_hist.specs.Next.{Next, goes}
use Rattle.moka_hist.specs.Looking.{finds_pair, hits, misses}
use Rattle.moka_hist.specs.Step.{replace_of}
use Rattle.moka_hist.specs.declared.records.Mode.{Mode}
use Rattle.moka_hist.specs.declared.records.Mode.TheVariants as mode
use Rattle.moka_hist.specs.declared.records.Stored.{Stored}
use Rattle.moka_laws.proofs.StepCases.{OnStep}
use Rattle.moka_laws.proofs.Outcomes.{outcomes}
use Rattle.moka_polls.specs.Polls.{seen_in, without_writes}
use Rattle.moka_polls.proofs.Phases.{IsAsIt, IsAt, Goes, along, drains, on}

module _ {K V E : Type 0} (t : TablePart K V) (d : DeskPart K V E) (aim : Aim K V) (key : K) where
  -- where a call stands that looks a key up, at this table and this desk
  pub data Looks (w : World K V E) : List (Item K V E) → Type 0 where
    Drains : IsAsIt t d w → Looks w (plan.Drain ∷ plan.Get aim key ∷ [])
    Seeks : IsAsIt t d w → Looks w (plan.Get aim key ∷ [])
    Judges : (there : K) (found : Stored V) → t.stored key ≡ Some (there, found) → IsAsIt t d w →
        Looks w (plan.Judge aim there found ∷ [])

-- what the call sees of a pair
abbrev seen_of : {K V E : Type 0} → DeskPart K V E → Option ℕ → Option (K × Stored V) → Option V
seen_of d replace pair =
    option_and_then (λ p. cond (is_seen d replace p.0 p.1) (Some p.1.value) None) pair

module _ {K V E : Type 0} (eq : K → K → Bool) (n : ℕ) (c : Call K V E)
    (Phase : World K V E → List (Item K V E) → Type 0) (Fin : World K V E → Next K V E → Type 0)
    (t : TablePart K V) (d : DeskPart K V E) (owes : d.owed ≡ []) (aim : Aim K V) (key : K)
    (judged : (b : Call K V E) (there : K) (found : Stored V) → finds_pair b aim there found ≡
    goes b (plan.Judge aim there found ∷ []))
    (into : (w : World K V E) (p : List (Item K V E)) → Looks t d aim key w p → Phase w p)
    (missed : (w : World K V E) (m : Mode) (p : List (Item K V E)) →
    seen_in t d (replace_of aim) key ≡ None → IsAsIt t d w →
    Goes c Phase Fin w (misses (along c m p) aim))
    (hit : (w : World K V E) (m : Mode) (p : List (Item K V E)) (there : K) (value : V) →
    seen_in t d (replace_of aim) key ≡ Some value → IsAt t d w →
    Goes c Phase Fin w (hits (along c m p) aim there value)) where
  pub looks_steps : (w : World K V E) (m : Mode) (p : List (Item K V E)) →
      Looks t d aim key w p → OnStep eq (Goes c Phase Fin) w n (along c m p) p
  looks_steps w m p (Drains at) =
      drains c Phase Fin eq n w m (plan.Get aim key ∷ []) (ap (λ v. v.owed) at.desk ∙ owes)
      (on c Phase Fin w mode.Mid _ (into _ _ (Seeks at)))
  looks_steps w m p (Seeks at) =
      outcomes eq (Goes c Phase Fin) w n (along c m p) (plan.Get aim key) [] (
        λ more. on c Phase Fin _ mode.Mid _
            (into _ _ (Seeks (record { table = at.table; desk = at.desk }))),
        λ none. missed _ m p (ap (seen_of d (replace_of aim)) (here ∙ none))
            (record { table = at.table; desk = at.desk }),
        λ there found some. subst (Goes c Phase Fin _) (sym (judged (along c m p) there found))
            (on c Phase Fin _ mode.Mid _
            (into _ _ (Judges there found (here ∙ some)
            (record { table = at.table; desk = at.desk })))),
      )
    where
      here : t.stored key ≡ w.table.stored key
      here = sym (ap (λ v. v.stored key) at.table)
  looks_steps w m p (Judges there found e at) =
      outcomes eq (Goes c Phase Fin) w n (along c m p) (plan.Judge aim there found) [] (
        λ sees. hit _ m p there found.value (seen true sees)
            (record { table = at.table; desk = ap without_writes at.desk }),
        λ unseen. missed _ m p (seen false unseen)
            (record { table = at.table; desk = at.desk }),
      )
    where
      seen : (b : Bool) → is_seen w.desk (replace_of aim) there found ≡ b →
          seen_in t d (replace_of aim) key ≡ cond b (Some found.value) None
      seen b is = ap (seen_of d (replace_of aim)) e ∙ ap (λ v. cond v (Some found.value) None)
          (sym (ap (λ v. is_seen v (replace_of aim) there found) at.desk) ∙ is)
