-- A write on its way: it is posted, and a full log is applied first.
use Rattle.std.specs.Option.{option_map_or}
use Rattle.std.proofs.Common.{◌≡◌, ℕ, ◌==◌, Bool, true, List, ◌∷◌, Some, None, sym, ap, ◌∙◌}
use Rattle.std.proofs.lemmas.Bool.{false≢true}
use Rattle.moka_hist.specs.State.{World, Call, DeskPart, TablePart}
use Rattle.moka_hist.specs.Plan.{Item}
use Rattle.moka_hist.specs.Plan as plan
use Rattle.moka_hist.specs.Next.{Next, goes}
use Rattle.moka_hist.specs.declared.records.Mode.{Mode}
use Rattle.moka_hist.specs.declared.records.Mode.TheVariants as mode
use Rattle.moka_hist.specs.declared.writes.Write.{Write}
use Rattle.moka_laws.proofs.StepCases.{OnStep}
use Rattle.moka_laws.proofs.Outcomes.{outcomes}
use Rattle.moka_polls.specs.Polls.{without_writes}
use Rattle.moka_polls.proofs.Phases.{IsAt, Goes, along, on}

module _ {K V E : Type 0} (t : TablePart K V) (d : DeskPart K V E) (n : ℕ)
    (write : Write) (rest : List (Item K V E)) where
  -- where a call stands that posts its write, with this table and this desk. Applying the log is a
  -- phase that follows itself.
  pub data Posts (w : World K V E) : List (Item K V E) → Type 0 where
    Posting : IsAt t d w → Posts w (plan.Post write ∷ rest)
    Turning : IsAt t d w → Posts w (plan.Turn ∷ plan.Apply ∷ plan.End ∷ plan.Post write ∷ rest)
    Applying : IsAt t (record d { turn = Some n }) w →
        Posts w (plan.Apply ∷ plan.End ∷ plan.Post write ∷ rest)
    Ending : IsAt t (record d { turn = Some n }) w → Posts w (plan.End ∷ plan.Post write ∷ rest)

module _ {K V E : Type 0} (eq : K → K → Bool) (n : ℕ) (c : Call K V E)
    (Phase : World K V E → List (Item K V E) → Type 0) (Fin : World K V E → Next K V E → Type 0)
    (t : TablePart K V) (d : DeskPart K V E) (free : d.turn ≡ None) (write : Write)
    (rest : List (Item K V E))
    (into : (w : World K V E) (p : List (Item K V E)) → Posts t d n write rest w p → Phase w p)
    (after : (w : World K V E) (m : Mode) (p : List (Item K V E)) → IsAt t d w →
    Goes c Phase Fin w (goes (along c m p) rest)) where
  pub posts_steps : (w : World K V E) (m : Mode) (p : List (Item K V E)) →
      Posts t d n write rest w p → OnStep eq (Goes c Phase Fin) w n (along c m p) p
  posts_steps w m p (Posting at) =
      outcomes eq (Goes c Phase Fin) w n (along c m p) (plan.Post write) rest (
        λ room. after _ m p (record { table = at.table; desk = at.desk }),
        λ full. on c Phase Fin _ mode.Mid _
            (into _ _ (Turning (record { table = at.table; desk = at.desk }))),
      )
  posts_steps w m p (Turning at) =
      outcomes eq (Goes c Phase Fin) w n (along c m p) plan.Turn
      (plan.Apply ∷ plan.End ∷ plan.Post write ∷ rest) (
        λ is_free. on c Phase Fin _ mode.Mid _ (into _ _ (Applying (record {
          table = at.table;
          desk = ap (λ (v : DeskPart K V E). record v { turn = Some n }) at.desk;
        }))),
        λ taken. absurd (false≢true (sym taken ∙ ap (λ o. option_map_or (λ h. h == n) o true)
            (ap (λ (v : DeskPart K V E). v.turn) at.desk ∙ free))),
      )
  posts_steps w m p (Applying at) =
      outcomes eq (Goes c Phase Fin) w n (along c m p) plan.Apply
      (plan.End ∷ plan.Post write ∷ rest) (
        λ empty. on c Phase Fin _ mode.Mid _ (into _ _ (Ending at)),
        λ x xs more. on c Phase Fin _ mode.Mid _
            (into _ _ (Applying (record { table = at.table; desk = at.desk }))),
      )
  posts_steps w m p (Ending at) =
      outcomes eq (Goes c Phase Fin) w n (along c m p) plan.End (plan.Post write ∷ rest)
      (on c Phase Fin _ mode.Mid _ (into _ _ (Posting (record {
        table = at.table;
        desk = ap (λ (v : DeskPart K V E). record v { turn = None }) at.desk ∙
            ap (λ o. record (without_writes d) { turn = o }) (sym free);
      }))))
