-- The poll of a load that waits for an owner.
use Rattle.std.proofs.Common.{◌≡◌, ℕ, Bool, cond, List, [], ◌∷◌, Some, None, is_some, refl, sym, ap, ◌∙◌, subst}
use Rattle.moka_hist.specs.State.{State, World, Call, DeskPart, TablePart}
use Rattle.moka_hist.specs.Plan.{Item}
use Rattle.moka_hist.specs.Plan as plan
use Rattle.moka_hist.specs.Visits.{read, settlement_for}
use Rattle.moka_hist.specs.Loading.{after_read}
use Rattle.moka_hist.specs.declared.loads.Sought.{Sought}
use Rattle.moka_hist.specs.declared.replies.Answer.{Answer}
use Rattle.moka_hist.specs.declared.replies.Reply.TheVariants as reply
use Rattle.moka_hist.specs.declared.visits.Found.TheVariants as found
use Rattle.moka_hist.specs.declared.visits.Settled.{Settled}
use Rattle.moka_hist.specs.declared.visits.Settled.TheVariants as settled
use Rattle.moka_laws.proofs.Counting.{some_same}
use Rattle.moka_laws.proofs.Outcomes.{outcomes, on_desk, was_read}
use Rattle.moka_polls.specs.Polls.{PollGives, parked}
use Rattle.moka_polls.specs.Loads.{WaiterAnswers, WaiterWaits, answer_to}
use Rattle.moka_polls.proofs.Phases.{IsAt, End, Ends, Goes, Steps, along, stops, to_do, poll_gives}

module _ {K V E : Type 0} (t : TablePart K V) (d : DeskPart K V E) (sought : Sought K) where
  -- the call reads how the owner ended
  data Reading (w : World K V E) : List (Item K V E) → Type 0 where
    Reads : IsAt t d w → Reading w (plan.Read sought ∷ [])

module _ {K V E : Type 0} (eq : K → K → Bool) (s : State K V E) (n : ℕ) (c : Call K V E)
    (sought : Sought K) where
  abbrev Phase : World K V E → List (Item K V E) → Type 0
  Phase = Reading s.world.table s.world.desk sought

  abbrev answers_so : Answer K V E → End K V E
  answers_so a = record {
    reply = reply.Answer a;
    left = None;
    table = s.world.table;
    desk = was_read eq s.world.desk n;
  }

  abbrev waits_on : End K V E
  waits_on = record {
    reply = reply.Wait;
    left = Some (parked c (plan.Read sought ∷ []));
    table = s.world.table;
    desk = s.world.desk;
  }

  answers : (a : Answer K V E) (with : Settled V E) → answer_to with ≡ Some a →
      (b : Call K V E) (w : World K V E) →
      IsAt s.world.table (was_read eq s.world.desk n) w →
      Goes c Phase (Ends (answers_so a)) w (after_read b sought (found.ReadSettled with))
  answers a (settled.Ready value) e b w at = stops c Phase (Ends (answers_so a)) _ _ (λ f. cc) (record {
    replies = ap (λ x. reply.Answer x) (some_same e);
    leaves = refl;
    found = at;
  })
  answers a (settled.Err error) e b w at = stops c Phase (Ends (answers_so a)) _ _ (λ f. cc) (record {
    replies = ap (λ x. reply.Answer x) (some_same e);
    leaves = refl;
    found = at;
  })
  answers a settled.Nothing e b w at = stops c Phase (Ends (answers_so a)) _ _ (λ f. cc) (record {
    replies = ap (λ x. reply.Answer x) (some_same e);
    leaves = refl;
    found = at;
  })
  answers a _ e b w at = absurd (cc)

  ended_steps : (a : Answer K V E) (with : Settled V E) → answer_to with ≡ Some a →
      settlement_for s.world.desk n ≡ Some with → Steps c Phase (Ends (answers_so a)) eq n
  ended_steps a with e ended w m p (Reads at) =
      outcomes eq (Goes c Phase (Ends (answers_so a))) w n (along c m p) (plan.Read sought) [] (
        λ none. absurd (cc here),
        λ other some. subst
            (λ x. Goes c Phase (Ends (answers_so a)) has_read
            (after_read (along c m p) sought (found.ReadSettled x)))
            (some_same (sym here ∙ some)) (answers a with e (along c m p) has_read
            (record { table = at.table; desk = ap (λ v. was_read eq v n) at.desk })),
      )
    where
      has_read : World K V E
      has_read = on_desk eq w (was_read eq w.desk n)

      here : settlement_for w.desk n ≡ Some with
      here = ap (λ v. settlement_for v n) at.desk ∙ ended

  waiting_steps : settlement_for s.world.desk n ≡ None → Steps c Phase (Ends waits_on) eq n
  waiting_steps none w m p (Reads at) =
      outcomes eq (Goes c Phase (Ends waits_on)) w n (along c m p) (plan.Read sought) [] (
        λ _. stops c Phase (Ends waits_on) _ _ (λ f. cc)
            (record { replies = refl; leaves = refl; found = at }),
        λ with some. absurd (cc here),
      )
    where
      here : settlement_for w.desk n ≡ None
      here = ap (λ v. settlement_for v n) at.desk ∙ none

  begins : Phase s.world (plan.Read sought ∷ [])
  begins = Reads (record { table = refl; desk = refl })

module _ {K V E : Type 0} (eq : K → K → Bool) where
  pub waiter_answers : WaiterAnswers K V E eq
  waiter_answers s new n c sought with a r h ended e happens =
      subst (λ d. PollGives s n (reply.Answer a) None s.world.table d r new) (sym was)
      (poll_gives c (Phase eq s n c sought) (answers_so eq s n c sought a) eq n
      (ended_steps eq s n c sought a with e ended) s new c.mode (plan.Read sought ∷ []) r
      (to_do s n c _ h) (begins eq s n c sought) happens)
    where
      was : read s.world.desk n ≡ was_read eq s.world.desk n
      was = ap (λ b. cond b (was_read eq s.world.desk n) s.world.desk) (ap is_some ended)

  pub waiter_waits : WaiterWaits K V E eq
  waiter_waits s new n c sought r h none happens =
      poll_gives c (Phase eq s n c sought) (waits_on eq s n c sought) eq n
      (waiting_steps eq s n c sought none) s new c.mode (plan.Read sought ∷ []) r
      (to_do s n c _ h) (begins eq s n c sought) happens
