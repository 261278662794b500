-- A value is stored, by an insert or as a load was told it.
use Rattle.std.proofs.Common.{◌≡◌, ℕ, Bool, false, List, [], ◌∷◌, None, sym, ap, ◌∙◌, subst}
use Rattle.std.proofs.lemmas.Bool.{false≢true}
use Rattle.moka_hist.specs.State.{World, Call, DeskPart, TablePart}
use Rattle.moka_hist.specs.Plan.{Item, put, under_lock}
use Rattle.moka_hist.specs.Plan as plan
use Rattle.moka_hist.specs.Next.{Next, goes}
use Rattle.moka_hist.specs.Tables.{written}
use Rattle.moka_hist.specs.declared.records.Mode.{Mode}
use Rattle.moka_hist.specs.declared.records.Mode.TheVariants as mode
use Rattle.moka_hist.specs.declared.rules.Rules.{Rules}
use Rattle.moka_hist.specs.declared.writes.Write.{Write}
use Rattle.moka_hist.specs.declared.writes.Write.TheVariants.{Upsert}
use Rattle.moka_laws.proofs.StepCases.{OnStep}
use Rattle.moka_laws.proofs.Outcomes.{outcomes}
use Rattle.moka_polls.proofs.Phases.{IsAt, stay_at, Goes, along, drains, on}
use Rattle.moka_polls.proofs.Posting.{Posts, Posting, posts_steps}

module _ {K V E : Type 0} (eq : K → K → Bool) (t : TablePart K V) (d : DeskPart K V E) (n : ℕ)
    (key : K) (value : V) (rest : List (Item K V E)) where
  -- the table once the value is stored
  abbrev pub with_value : ℕ → TablePart K V
  with_value moment = written eq n t key (record { value = value; stamp = n; modified = moment })

  -- where a call stands that stores the value, from this table and this desk on
  pub data Puts (w : World K V E) : List (Item K V E) → Type 0 where
    Drains : IsAt t d w → Puts w (plan.Drain ∷ plan.Moment (plan.To_store key value) ∷ rest)
    Stamps : IsAt t d w → Puts w (plan.Moment (plan.To_store key value) ∷ rest)
    Writes : (moment : ℕ) → moment ≡ d.clock → IsAt t d w →
        Puts w (plan.Write key value moment ∷ rest)
    Posted : (write : Write) (p : List (Item K V E)) →
        Posts (with_value d.clock) d n write rest w p → Puts w p

-- the plan of a put where no listener is set
pub plain_put : {K V E : Type 0} (P : List (Item K V E) → Type 0) (rules : Rules) (key : K)
    (value : V) (rest : List (Item K V E)) → rules.listener ≡ false →
    P (plan.Drain ∷ plan.Moment (plan.To_store key value) ∷ rest) → P (put rules key value rest)
plain_put P rules key value rest unheard h =
    subst (λ b. P (plan.Drain ∷ under_lock b key (plan.Moment (plan.To_store key value) ∷ rest)))
    (sym unheard) h

module _ {K V E : Type 0} (eq : K → K → Bool) (n : ℕ) (c : Call K V E)
    (Phase : World K V E → List (Item K V E) → Type 0) (Fin : World K V E → Next K V E → Type 0)
    (t : TablePart K V) (d : DeskPart K V E) (free : d.turn ≡ None) (owes : d.owed ≡ [])
    (unheard : c.rules.listener ≡ false) (key : K) (value : V) (rest : List (Item K V E))
    (into : (w : World K V E) (p : List (Item K V E)) → Puts eq t d n key value rest w p → Phase w p)
    (after : (w : World K V E) (m : Mode) (p : List (Item K V E)) →
    IsAt (with_value eq t d n key value rest d.clock) d w →
    Goes c Phase Fin w (goes (along c m p) rest)) where
  pub puts_steps : (w : World K V E) (m : Mode) (p : List (Item K V E)) →
      Puts eq t d n key value rest w p → OnStep eq (Goes c Phase Fin) w n (along c m p) p
  puts_steps w m p (Drains at) =
      drains c Phase Fin eq n w m (plan.Moment (plan.To_store key value) ∷ rest)
      (ap (λ v. v.owed) at.desk ∙ owes) (on c Phase Fin w mode.Mid _ (into _ _ (Stamps at)))
  puts_steps w m p (Stamps at) =
      outcomes eq (Goes c Phase Fin) w n (along c m p) (plan.Moment (plan.To_store key value)) rest
      (on c Phase Fin _ mode.Mid _ (into _ _ (Writes w.desk.clock (ap (λ v. v.clock) at.desk)
      (record { table = at.table; desk = at.desk }))))
  puts_steps w m p (Writes moment now at) =
      outcomes eq (Goes c Phase Fin) w n (along c m p) (plan.Write key value moment) rest (
        λ more. on c Phase Fin _ mode.Mid _ (into _ _ (Writes moment now (stay_at _ _ w _ at))),
        λ off old. on c Phase Fin _ mode.Mid _ (into _ _ (Posted (Upsert n old) _ (Posting (record {
          table = ap (λ v. with_value eq v d n key value rest moment) at.table ∙
              ap (with_value eq t d n key value rest) now;
          desk = at.desk;
        })))),
        λ on. absurd (false≢true (sym unheard ∙ on)),
        λ k old on some. absurd (false≢true (sym unheard ∙ on)),
      )
  puts_steps w m p (Posted write q posts) =
      posts_steps eq n c Phase Fin (with_value eq t d n key value rest d.clock) d free write rest
      (λ v r i. into v r (Posted write r i)) after w m p posts
