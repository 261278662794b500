-- The polls of an invalidate and a remove.
use Rattle.std.specs.Option.{option_map}
use Rattle.std.proofs.Common.{◌≡◌, ℕ, Bool, false, List, [], ◌∷◌, Option, Some, None, refl, sym, ap, ◌∙◌, subst}
use Rattle.moka_hist.specs.State.{State, World, Call, TablePart}
use Rattle.moka_hist.specs.Plan.{Item, Removal, take_out, under_lock}
use Rattle.moka_hist.specs.Plan as plan
use Rattle.moka_hist.specs.Tables.{by_pair, removed, taken_by}
use Rattle.moka_hist.specs.Run.{fresh_call}
use Rattle.moka_hist.specs.declared.events.Start.TheVariants as start
use Rattle.moka_hist.specs.declared.records.Mode.TheVariants as mode
use Rattle.moka_hist.specs.declared.records.Stored.{Stored}
use Rattle.moka_hist.specs.declared.replies.Answer.{Answer}
use Rattle.moka_hist.specs.declared.replies.Answer.TheVariants as answer
use Rattle.moka_hist.specs.declared.replies.Reply.{Reply}
use Rattle.moka_hist.specs.declared.replies.Reply.TheVariants as reply
use Rattle.moka_hist.specs.declared.rules.Rules.{Rules}
use Rattle.moka_polls.specs.Polls.{IsQuiet, value_at}
use Rattle.moka_polls.specs.Removals.{InvalidatePoll, RemovePoll, taken_out}
use Rattle.moka_polls.proofs.Phases.{IsAt, End, Ends, Steps, stops, poll_gives}
use Rattle.moka_polls.proofs.Taking.{Takes, Drains, takes_steps}

-- a removal that asks for no stamp takes out what is there
any_out : {K V : Type 0} (pair : Option (K × Stored V)) → taken_by None pair ≡ pair
any_out None = refl
any_out (Some pair) = refl

-- the plan of a removal where no listener is set
pub plain_take_out : {K V E : Type 0} (P : List (Item K V E) → Type 0) (rules : Rules)
    (removal : Removal K) (key : K) → rules.listener ≡ false →
    P (plan.Drain ∷ plan.Moment (plan.To_take_out removal key) ∷ []) →
    P (take_out rules removal key)
plain_take_out P rules removal key unheard h =
    subst (λ b. P (plan.Drain ∷ under_lock b key (plan.Moment (plan.To_take_out removal key) ∷ [])))
    (sym unheard) h

module _ {K V E : Type 0} (eq : K → K → Bool) (s : State K V E) (n : ℕ) (key : K)
    (quiet : IsQuiet s.world.desk) where
  -- the call answers so, and what is stored is taken out
  abbrev end : Answer K V E → End K V E
  end a = record {
    reply = reply.Answer a;
    left = None;
    table = taken_out eq s n key;
    desk = s.world.desk;
  }

  abbrev after : Option (K × Stored V) → TablePart K V
  after pair = by_pair pair (removed eq n s.world.table key) s.world.table

  abbrev Phase : Removal K → World K V E → List (Item K V E) → Type 0
  Phase removal = Takes eq s.world.table s.world.desk n removal key

  -- the table is as it is to be, where this is taken out
  is_after : (pair : Option (K × Stored V)) → taken_by None (s.world.table.stored key) ≡ pair →
      (w : World K V E) → IsAt (after pair) s.world.desk w → IsAt (taken_out eq s n key) s.world.desk w
  is_after pair out w at = record {
    table = at.table ∙ ap after (sym out ∙ any_out (s.world.table.stored key));
    desk = at.desk;
  }

  abbrev Invalidates : Call K V E
  Invalidates = fresh_call s.world.table.division.parts s.world.desk.rules (start.Invalidate key)

  invalidate_steps : Steps Invalidates (Phase plan.To_invalidate) (Ends (end answer.Done)) eq n
  invalidate_steps =
      takes_steps eq n Invalidates (Phase plan.To_invalidate) (Ends (end answer.Done)) s.world.table
      s.world.desk quiet.free quiet.owes quiet.plain.unheard plan.To_invalidate key (λ w p i. i)
      (λ w m p none at. stops Invalidates (Phase plan.To_invalidate) (Ends (end answer.Done)) _ _ (λ f. cc)
      (record { replies = refl; leaves = refl; found = is_after None none w at }))
      (λ w m p there old some at.
      stops Invalidates (Phase plan.To_invalidate) (Ends (end answer.Done)) _ _ (λ f. cc)
      (record { replies = refl; leaves = refl; found = is_after _ some w at }))

  abbrev Removes : Call K V E
  Removes = fresh_call s.world.table.division.parts s.world.desk.rules (start.Remove key)

  abbrev removed_end : End K V E
  removed_end = end (answer.Found (value_at s key))

  -- the reply, where this is taken out
  abbrev replied : Option (K × Stored V) → Reply K V E
  replied pair = reply.Answer (answer.Found (option_map (λ p. p.1.value) pair))

  remove_steps : Steps Removes (Phase plan.To_remove) (Ends removed_end) eq n
  remove_steps =
      takes_steps eq n Removes (Phase plan.To_remove) (Ends removed_end) s.world.table
      s.world.desk quiet.free quiet.owes quiet.plain.unheard plan.To_remove key (λ w p i. i)
      (λ w m p none at. stops Removes (Phase plan.To_remove) (Ends removed_end) _ _ (λ f. cc) (record {
        replies = ap replied (sym none ∙ any_out (s.world.table.stored key));
        leaves = refl;
        found = is_after None none w at;
      }))
      (λ w m p there old some at.
      stops Removes (Phase plan.To_remove) (Ends removed_end) _ _ (λ f. cc) (record {
        replies = ap replied (sym some ∙ any_out (s.world.table.stored key));
        leaves = refl;
        found = is_after _ some w at;
      }))

  begins : (removal : Removal K) → Phase removal s.world (take_out s.world.desk.rules removal key)
  begins removal =
      plain_take_out (Phase removal s.world) s.world.desk.rules removal key quiet.plain.unheard
      (Drains (record { table = refl; desk = refl }))

module _ {K V E : Type 0} (eq : K → K → Bool) where
  pub invalidates : InvalidatePoll K V E eq
  invalidates s new n key r quiet begun happens =
      poll_gives (Invalidates eq s n key quiet) (Phase eq s n key quiet plan.To_invalidate)
      (end eq s n key quiet answer.Done) eq n (invalidate_steps eq s n key quiet) s new mode.Fresh
      (take_out s.world.desk.rules plan.To_invalidate key) r begun
      (begins eq s n key quiet plan.To_invalidate) happens

  pub removes : RemovePoll K V E eq
  removes s new n key r quiet begun happens =
      poll_gives (Removes eq s n key quiet) (Phase eq s n key quiet plan.To_remove)
      (removed_end eq s n key quiet) eq n (remove_steps eq s n key quiet) s new mode.Fresh
      (take_out s.world.desk.rules plan.To_remove key) r begun
      (begins eq s n key quiet plan.To_remove) happens
