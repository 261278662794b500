-- A call takes out what stands under a key.
use Rattle.std.proofs.Common.{◌≡◌, ℕ, Bool, false, List, [], ◌∷◌, Option, Some, None, sym, ap, ◌∙◌}
use Rattle.std.proofs.lemmas.Bool.{false≢true}
use Rattle.moka_hist.specs.State.{World, Call, DeskPart, TablePart}
use Rattle.moka_hist.specs.Plan.{Item, Removal}
use Rattle.moka_hist.specs.Plan as plan
use Rattle.moka_hist.specs.Tables.{removed, taken_by}
use Rattle.moka_hist.specs.Next.{Next, goes}
use Rattle.moka_hist.specs.Writing.{nothing_answer, removed_answer, said, stamp_asked}
use Rattle.moka_hist.specs.declared.records.Mode.{Mode}
use Rattle.moka_hist.specs.declared.records.Mode.TheVariants as mode
use Rattle.moka_hist.specs.declared.records.Stored.{Stored}
use Rattle.moka_hist.specs.declared.writes.Write.{Write}
use Rattle.moka_hist.specs.declared.writes.Write.TheVariants.{Remove}
use Rattle.moka_laws.proofs.StepCases.{OnStep}
use Rattle.moka_laws.proofs.Outcomes.{outcomes}
use Rattle.moka_polls.proofs.Phases.{IsAt, stay_at, Goes, along, drains, on}
use Rattle.moka_polls.proofs.Posting.{Posts, Posting, posts_steps}

-- what a removal takes out of this table
abbrev pub out_of : {K V : Type 0} → TablePart K V → Removal K → K → Option (K × Stored V)
out_of t removal key = taken_by (stamp_asked removal) (t.stored key)

module _ {K V E : Type 0} (eq : K → K → Bool) (t : TablePart K V) (d : DeskPart K V E) (n : ℕ)
    (removal : Removal K) (key : K) where
  -- where a call stands that takes a record out, from this table and this desk on
  pub data Takes (w : World K V E) : List (Item K V E) → Type 0 where
    Drains : IsAt t d w → Takes w (plan.Drain ∷ plan.Moment (plan.To_take_out removal key) ∷ [])
    Stamps : IsAt t d w → Takes w (plan.Moment (plan.To_take_out removal key) ∷ [])
    Outs : IsAt t d w → Takes w (plan.Out removal key ∷ [])
    Idles : out_of t removal key ≡ None → IsAt t d w →
        Takes w (plan.Idle ∷ said removal (nothing_answer removal))
    Posted : (there : K) (old : Stored V) → out_of t removal key ≡ Some (there, old) →
        (write : Write) (p : List (Item K V E)) →
        Posts (removed eq n t key) d n write (said removal (removed_answer removal old.value)) w p →
        Takes w p

module _ {K V E : Type 0} (eq : K → K → Bool) (n : ℕ) (c : Call K V E)
    (Phase : World K V E → List (Item K V E) → Type 0) (Fin : World K V E → Next K V E → Type 0)
    (t : TablePart K V) (d : DeskPart K V E) (free : d.turn ≡ None) (owes : d.owed ≡ [])
    (unheard : c.rules.listener ≡ false) (removal : Removal K) (key : K)
    (into : (w : World K V E) (p : List (Item K V E)) → Takes eq t d n removal key w p → Phase w p)
    (nothing : (w : World K V E) (m : Mode) (p : List (Item K V E)) →
    out_of t removal key ≡ None → IsAt t d w →
    Goes c Phase Fin w (goes (along c m p) (said removal (nothing_answer removal))))
    (something : (w : World K V E) (m : Mode) (p : List (Item K V E)) (there : K) (old : Stored V) →
    out_of t removal key ≡ Some (there, old) → IsAt (removed eq n t key) d w →
    Goes c Phase Fin w (goes (along c m p) (said removal (removed_answer removal old.value))))
  where
    pub takes_steps : (w : World K V E) (m : Mode) (p : List (Item K V E)) →
        Takes eq t d n removal key w p → OnStep eq (Goes c Phase Fin) w n (along c m p) p
    takes_steps w m p (Drains at) =
        drains c Phase Fin eq n w m (plan.Moment (plan.To_take_out removal key) ∷ [])
        (ap (λ v. v.owed) at.desk ∙ owes) (on c Phase Fin w mode.Mid _ (into _ _ (Stamps at)))
    takes_steps w m p (Stamps at) =
        outcomes eq (Goes c Phase Fin) w n (along c m p) (plan.Moment (plan.To_take_out removal key))
        [] (on c Phase Fin _ mode.Mid _ (into _ _ (Outs (record { table = at.table; desk = at.desk }))))
    takes_steps w m p (Outs at) =
        outcomes eq (Goes c Phase Fin) w n (along c m p) (plan.Out removal key) [] (
          λ more. on c Phase Fin _ mode.Mid _ (into _ _ (Outs (stay_at _ _ w _ at))),
          λ off none. on c Phase Fin _ mode.Mid _
              (into _ _ (Idles (here ∙ none) (stay_at _ _ w _ at))),
          λ on none. absurd (false≢true (sym unheard ∙ on)),
          λ there old off some. on c Phase Fin _ mode.Mid _
              (into _ _ (Posted there old (here ∙ some) (Remove n old.stamp) _ (Posting (record {
                table = ap (λ v. removed eq n v key) at.table;
                desk = at.desk;
              })))),
          λ there old on some. absurd (false≢true (sym unheard ∙ on)),
        )
      where
        here : out_of t removal key ≡ out_of w.table removal key
        here = sym (ap (λ v. out_of v removal key) at.table)
    takes_steps w m p (Idles none at) =
        outcomes eq (Goes c Phase Fin) w n (along c m p) plan.Idle (said removal (nothing_answer removal))
        (nothing _ m p none (record { table = at.table; desk = at.desk }))
    takes_steps w m p (Posted there old some write q posts) =
        posts_steps eq n c Phase Fin (removed eq n t key) d free write
        (said removal (removed_answer removal old.value))
        (λ v r i. into v r (Posted there old some write r i))
        (λ v k r at. something v k r there old some at) w m p posts
