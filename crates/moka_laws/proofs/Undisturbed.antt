-- An insert and then a get, with no step of others between.
use Rattle.std.proofs.Common.{◌≡◌, ℕ, zero, suc, ◌+◌, Bool, true, false, cond, List, [], ◌∷◌, Option, Some, None, refl, sym, ap, ◌∙◌, subst}
use Rattle.std.proofs.lemmas.Bool.{false≢true}
use Rattle.moka_hist.specs.State.{State, World, Call, DeskPart}
use Rattle.moka_hist.specs.Plan.{Item, get_plan, insert_plan, is_disabled, plan_of}
use Rattle.moka_hist.specs.Plan as plan
use Rattle.moka_hist.specs.Next.{Next, goes, answers, waits}
use Rattle.moka_hist.specs.Tables.{answer_of, written}
use Rattle.moka_hist.specs.Visits.{is_seen}
use Rattle.moka_hist.specs.Step.{Step}
use Rattle.moka_hist.specs.Run.{Goings, Any, started, fresh_call}
use Rattle.moka_hist.specs.declared.accesses.Turn.{Turn}
use Rattle.moka_hist.specs.declared.accesses.Turn.TheVariants as turn
use Rattle.moka_hist.specs.declared.events.Start.TheVariants as start
use Rattle.moka_hist.specs.declared.records.Mode.TheVariants as mode
use Rattle.moka_hist.specs.declared.records.Stored.{Stored}
use Rattle.moka_hist.specs.declared.replies.Answer.{Answer}
use Rattle.moka_hist.specs.declared.replies.Answer.TheVariants as answer
use Rattle.moka_laws.specs.Alone.{AnswersAlone, InsertThenGet}
use Rattle.moka_laws.proofs.Counting.{some_same, put_here}
use Rattle.moka_laws.proofs.Rules.{put_plans}
use Rattle.moka_laws.proofs.Steady.{goings_rules, step_rules}
use Rattle.moka_laws.proofs.StepCases.{OnStep, step_cases}
use Rattle.moka_laws.proofs.Outcomes.{outcomes, on_desk}

same_answer : {K V E : Type 0} (a b : Answer K V E) → ◌≡◌ {A = Turn K V E} (turn.Answer a)
    (turn.Answer b) → a ≡ b
same_answer a b e = cc

-- what is stored by key
abbrev Map : Type 0 → Type 0 → Type 0
Map K V = K → Option (K × Stored V)

module _ {K V E : Type 0} where
  -- the item neither looks a key up nor stores anything: it takes owed writes up, posts one, or has
  -- part in a lock or a notice
  abbrev IsPosting : Item K V E → Type 0
  IsPosting (plan.Ended number) = Unit {0}
  IsPosting (plan.Lock key) = Unit {0}
  IsPosting (plan.Unlock wrote) = Unit {0}
  IsPosting (plan.Notice key old cause upsert) = Unit {0}
  IsPosting plan.Heard = Unit {0}
  IsPosting plan.Drain = Unit {0}
  IsPosting (plan.Post write) = Unit {0}
  IsPosting plan.Turn = Unit {0}
  IsPosting plan.Apply = Unit {0}
  IsPosting plan.End = Unit {0}
  IsPosting _ = ⊥

  -- the plan has such items, and then is this one
  data Before (last : List (Item K V E)) : List (Item K V E) → Type 0 where
    Here : Before last last
    Then : (item : Item K V E) (rest : List (Item K V E)) → IsPosting item → Before last rest → Before last (item ∷ rest)

  before_reply : (last : List (Item K V E)) (a : Answer K V E) (p : List (Item K V E)) →
      p ≡ plan.Reply a ∷ [] → Before last p → last ≡ plan.Reply a ∷ []
  before_reply last a p e Here = e
  before_reply last a p e (Then plan.Drain rest i b) = cc
  before_reply last a p e (Then (plan.Post write) rest i b) = cc
  before_reply last a p e (Then plan.Turn rest i b) = cc
  before_reply last a p e (Then plan.Apply rest i b) = cc
  before_reply last a p e (Then plan.End rest i b) = cc
  before_reply last a p e (Then (plan.Ended number) rest i b) = cc
  before_reply last a p e (Then (plan.Lock key) rest i b) = cc
  before_reply last a p e (Then (plan.Unlock wrote) rest i b) = cc
  before_reply last a p e (Then (plan.Notice key old cause upsert) rest i b) = cc
  before_reply last a p e (Then plan.Heard rest i b) = cc
  before_reply last a p e (Then _ rest i b) = absurd i

  module _ (Phase : Map K V → List (Item K V E) → Type 0)
      (Ends : World K V E → Map K V → Answer K V E → Type 0) where
    -- How a call goes on from a world: in a phase, or with an end.
    record Goes (old new : World K V E) (next : Next K V E) : Type 0 where
      going : next.turn ≡ turn.Going → (c : Call K V E) × (next.left ≡ Some c) × Phase new.table.stored c.plan
      ends : (a : Answer K V E) → next.turn ≡ turn.Answer a → Ends old new.table.stored a

    on : (old w : World K V E) (c : Call K V E) (rest : List (Item K V E)) → Phase w.table.stored rest →
        Goes old w (record { left = Some (record c { mode = mode.Mid; plan = rest }); turn = turn.Going })
    on old w c rest p = record { going = λ e. (record c { mode = mode.Mid; plan = rest }, refl, p); ends = λ a e. cc }

    parks : (old w : World K V E) (c : Call K V E) → Goes old w (waits c)
    parks old w c = record { going = λ e. cc; ends = λ a e. cc }

    ended : (old w : World K V E) (a : Answer K V E) → Ends old w.table.stored a → Goes old w (answers a)
    ended old w a h = record { going = λ e. cc; ends = λ b e. subst (Ends old w.table.stored) (same_answer a b e) h }

    goes_cases : (old w : World K V E) (c : Call K V E) (rest : List (Item K V E)) →
        ((a : Answer K V E) → rest ≡ plan.Reply a ∷ [] → Ends old w.table.stored a) →
        Phase w.table.stored rest → Goes old w (goes c rest)
    goes_cases old w c (plan.Reply a ∷ []) h p = ended old w a (h a refl)
    goes_cases old w c (plan.Reply a ∷ x ∷ rest) h p = on old w c (plan.Reply a ∷ x ∷ rest) p
    goes_cases old w c [] h p = on old w c [] p
    goes_cases old w c (item ∷ rest) h p = on old w c (item ∷ rest) p

    -- while the plan takes up and posts writes it stays before its last part, and nothing is stored
    module _ (eq : K → K → Bool) (w : World K V E) (n : ℕ) (c : Call K V E) (last : List (Item K V E))
        (phase : (p : List (Item K V E)) → Before last p → Phase w.table.stored p)
        (end : (a : Answer K V E) → last ≡ plan.Reply a ∷ [] → Ends w w.table.stored a) where
      follows : (d : DeskPart K V E) (rest : List (Item K V E)) → Before last rest → Goes w (on_desk eq w d) (goes c rest)
      follows d rest b = goes_cases w (on_desk eq w d) c rest (λ a e. end a (before_reply last a rest e b)) (phase rest b)

      before_step : (p : List (Item K V E)) → OnStep eq (Goes w) w n c last → Before last p → OnStep eq (Goes w) w n c p
      before_step p here Here = here
      before_step p here (Then plan.Drain rest i b) = outcomes eq (Goes w) w n c plan.Drain rest (
        (λ e. follows w.desk rest b),
        λ x xs e. on w (on_desk eq w _) c (plan.Post x ∷ plan.Drain ∷ rest) (phase _ (Then (plan.Post x) (plan.Drain ∷ rest) tt (Then plan.Drain rest tt b))),
        λ x number xs e. on w (on_desk eq w _) c (plan.Ended number ∷ plan.Post x ∷ plan.Drain ∷ rest)
            (phase _ (Then (plan.Ended number) _ tt (Then (plan.Post x) (plan.Drain ∷ rest) tt (Then plan.Drain rest tt b)))),
      )
      before_step p here (Then (plan.Ended number) rest i b) = outcomes eq (Goes w) w n c (plan.Ended number) rest ((λ e. follows w.desk rest b), λ e. parks w w c)
      before_step p here (Then (plan.Lock key) rest i b) = outcomes eq (Goes w) w n c (plan.Lock key) rest ((λ e. follows _ rest b), λ e. parks w w c)
      before_step p here (Then (plan.Unlock wrote) rest i b) = outcomes eq (Goes w) w n c
          (plan.Unlock wrote) rest (follows _ rest b)
      before_step p here (Then (plan.Notice key old cause upsert) rest i b) = outcomes eq (Goes w) w n c
          (plan.Notice key old cause upsert) rest
          ((λ e. follows _ rest b), λ e. record { going = λ f. cc; ends = λ a f. cc })
      before_step p here (Then plan.Heard rest i b) = outcomes eq (Goes w) w n c plan.Heard rest ((λ e. follows w.desk rest b), λ e. parks w w c)
      before_step p here (Then (plan.Post write) rest i b) = outcomes eq (Goes w) w n c (plan.Post write) rest (
        (λ e. follows _ rest b),
        λ e. on w (on_desk eq w _) c (plan.Turn ∷ plan.Apply ∷ plan.End ∷ plan.Post write ∷ rest)
            (phase _ (Then plan.Turn _ tt (Then plan.Apply _ tt (Then plan.End _ tt (Then (plan.Post write) rest tt b))))),
      )
      before_step p here (Then plan.Turn rest i b) = outcomes eq (Goes w) w n c plan.Turn rest ((λ e. follows _ rest b), λ e. parks w w c)
      before_step p here (Then plan.Apply rest i b) = outcomes eq (Goes w) w n c plan.Apply rest (
        (λ e. follows w.desk rest b),
        λ x xs e. on w (on_desk eq w _) c (plan.Apply ∷ rest) (phase _ (Then plan.Apply rest tt b)),
      )
      before_step p here (Then plan.End rest i b) = outcomes eq (Goes w) w n c plan.End rest (follows _ rest b)
      before_step p here (Then _ rest i b) = absurd i

    module _ (eq : K → K → Bool) (n : ℕ) (steps : (w : World K V E) (c : Call K V E) → Phase w.table.stored c.plan → OnStep eq (Goes w) w n c c.plan) where
      -- the live call is in the phase
      abbrev In : State K V E → Type 0
      In s = (c : Call K V E) × (s.calls n ≡ Some c) × Phase s.world.table.stored c.plan

      -- each step leaves it in the phase, or ends it
      one_step : (s t : State K V E) (r : Turn K V E) → In s → Step eq s n r t →
          (r ≡ turn.Going → In t) × ((a : Answer K V E) → r ≡ turn.Answer a →
          Ends s.world t.world.table.stored a)
      one_step s t r i step =
          let is : i.0 ≡ step.call = some_same (sym i.1 ∙ step.live) in
          step_cases eq (Goes s.world) (λ v r. (r ≡ turn.Going → In v) × ((a : Answer K V E) →
          r ≡ turn.Answer a → Ends s.world v.world.table.stored a)) s t n r step
          (steps s.world step.call (subst (λ (d : Call K V E). Phase s.world.table.stored d.plan) is i.2))
          (λ w next g. ((λ e. let d = g.going e in (d.0, put_here s.calls n next.left ∙ d.1, d.2)), g.ends))

      more_steps : (k : ℕ) (s t : State K V E) → In s → Goings eq Any k s n t → In t
      unfolding Goings
      more_steps zero s t i going = subst In (sym going) i
      more_steps (suc k) s t i going = (one_step going.0 t turn.Going (more_steps k s going.0 i going.1) going.2).0 refl

      in_end : (s t : State K V E) (a : Answer K V E) → In s → (alone : AnswersAlone eq s n a t) →
          Ends alone.mid.world t.world.table.stored a
      in_end s t a i alone = (one_step alone.mid t (turn.Answer a) (more_steps alone.going s alone.mid i alone.goes) alone.last).1 a refl

module _ {K V : Type 0} where
  -- the value is stored at the key
  abbrev Has : K → V → Map K V → Type 0
  Has q value stored = (k : K) × (seen : Stored V) × (stored q ≡ Some (k, seen)) × (seen.value ≡ value)

module _ {K V E : Type 0} (eq : K → K → Bool) (key q : K) (value : V) (same : eq key q ≡ true) where
  -- ---- the insert

  done : List (Item K V E)
  done = plan.Reply answer.Done ∷ []

  data Inserts (stored : Map K V) : List (Item K V E) → Type 0 where
    Early : (p : List (Item K V E)) → Before (plan.Moment (plan.To_store key value) ∷
        plan.Reply answer.Done ∷ []) p → Inserts stored p
    Writing : (moment : ℕ) → Inserts stored (plan.Write key value moment ∷ plan.Reply answer.Done ∷ [])
    Late : (p : List (Item K V E)) → Has q value stored → Before (plan.Reply answer.Done ∷ []) p → Inserts stored p

  abbrev Inserted : World K V E → Map K V → Answer K V E → Type 0
  Inserted old stored a = Has q value stored

  inserts : (n : ℕ) (w : World K V E) (c : Call K V E) (p : List (Item K V E)) → c.plan ≡ p → Inserts w.table.stored p → OnStep eq (Goes Inserts Inserted w) w n c p
  inserts n w c p e (Early q b) =
      before_step Inserts Inserted eq w n c (plan.Moment (plan.To_store key value) ∷
      plan.Reply answer.Done ∷ []) (λ r d. Early r d) (λ a f. cc) p
      (outcomes eq (Goes Inserts Inserted w) w n c (plan.Moment (plan.To_store key value))
      (plan.Reply answer.Done ∷ [])
      (on Inserts Inserted w (on_desk eq w _) c _ (Writing w.desk.clock))) b
  inserts n w c p e (Writing moment) = outcomes eq (Goes Inserts Inserted w) w n c (plan.Write key value moment) (plan.Reply answer.Done ∷ []) (
    (λ more. record { going = λ f. (record c { mode = mode.Mid }, refl, subst (Inserts w.table.stored) (sym e) (Writing moment)); ends = λ a f. cc }),
    λ off old. on Inserts Inserted w _ c _ (Late _ has (Then (plan.Post _) _ tt Here)),
    λ l. on Inserts Inserted w _ c _ (Late _ has (Then (plan.Unlock true) _ tt
        (Then (plan.Post _) _ tt Here))),
    λ k old l some. on Inserts Inserted w _ c _
        (Late _ has (Then (plan.Notice key old None true) _ tt
        (Then (plan.Unlock true) _ tt (Then (plan.Post _) _ tt Here)))),
  )
    where
      has : Has q value (written eq n w.table key (record { value = value; stamp = n; modified = moment })).stored
      has = (
        key,
        record { value = value; stamp = n; modified = moment },
        ap (λ b. cond b (Some (key, record { value = value; stamp = n; modified = moment })) (w.table.stored q)) same,
        refl,
      )
  inserts n w c p e (Late q has b) =
      before_step Inserts Inserted eq w n c (plan.Reply answer.Done ∷ []) (λ r d. Late r has d) (λ a f. has) p
      (outcomes eq (Goes Inserts Inserted w) w n c (plan.Reply answer.Done) []
      (ended Inserts Inserted w _ answer.Done has)) b

  -- ---- the get

  data Looks (stored : Map K V) : List (Item K V E) → Type 0 where
    Seeking : (p : List (Item K V E)) → Has q value stored → Before (plan.Get (plan.To_show plan.As_value) q ∷ []) p → Looks stored p
    Judging : (k : K) (seen : Stored V) → stored q ≡ Some (k, seen) → seen.value ≡ value →
        Looks stored (plan.Judge (plan.To_show plan.As_value) k seen ∷ [])

  -- the record at the key is visible in the world
  abbrev Shows : World K V E → Type 0
  Shows w = (k : K) (seen : Stored V) → w.table.stored q ≡ Some (k, seen) →
      is_seen w.desk None k seen ≡ true

  abbrev Finds : World K V E → Map K V → Answer K V E → Type 0
  Finds old stored a = Shows old → a ≡ answer.Found (Some value)

  looks : (n : ℕ) (w : World K V E) (c : Call K V E) (p : List (Item K V E)) → c.plan ≡ p → Looks w.table.stored p → OnStep eq (Goes Looks Finds w) w n c p
  looks n w c p e (Seeking r has b) =
      before_step Looks Finds eq w n c (plan.Get (plan.To_show plan.As_value) q ∷ []) (λ v d. Seeking v has d) (λ a f. cc) p (
        (λ more. record { going = λ f. (record c { mode = mode.Mid }, refl, subst (Looks w.table.stored) (sym e) (Seeking r has b)); ends = λ a f. cc }),
        λ found t o.
            rw (o.1, o.0 ∙ ap answer_of has.2) (on Looks Finds w _ c (plan.Judge (plan.To_show plan.As_value) has.0 has.1 ∷ []) (Judging has.0 has.1 has.2 has.3)),
      ) b
  looks n w c p e (Judging k seen at is) = outcomes eq (Goes Looks Finds w) w n c (plan.Judge (plan.To_show plan.As_value) k seen) [] (
    (λ sees. ended Looks Finds w _ (answer.Found (Some seen.value)) (λ shows. ap (λ v. answer.Found (Some v)) is)),
    λ unseen. ended Looks Finds w _ (answer.Found None)
        (λ shows. absurd (false≢true (sym unseen ∙ shows k seen at))),
  )

  -- ---- both

  found : (s t u : State K V E) (n : ℕ) (a : Answer K V E) →
      is_disabled s.world.desk.rules ≡ false →
      s.calls n ≡ Some (fresh_call s.world.table.division.parts s.world.desk.rules (start.Insert key value)) →
      AnswersAlone eq s n answer.Done t →
      (got : AnswersAlone eq (started t (start.Get q)) (t.world.desk.last + 1) a u) →
      Shows got.mid.world → a ≡ answer.Found (Some value)
  found s t u n a able live inserted got shows =
      let has : Has q value t.world.table.stored =
      in_end Inserts Inserted eq n (λ w c p. inserts n w c c.plan refl p) s t answer.Done
      (fresh_call s.world.table.division.parts s.world.desk.rules (start.Insert key value), live, early) inserted in
      in_end Looks Finds eq (t.world.desk.last + 1) (λ w c p. looks (t.world.desk.last + 1) w c c.plan refl p) (started t (start.Get q)) u a (
        fresh_call t.world.table.division.parts t.world.desk.rules (start.Get q),
        put_here t.calls (t.world.desk.last + 1)
            (Some (fresh_call t.world.table.division.parts t.world.desk.rules (start.Get q))),
        seeking has,
      ) got shows
    where
      early : Inserts s.world.table.stored (plan_of {E = E} s.world.table.division.parts s.world.desk.rules (start.Insert key value))
      early = subst (λ b. Inserts s.world.table.stored (insert_plan {E = E} b s.world.desk.rules key value))
          (sym able)
          (put_plans (Inserts s.world.table.stored) s.world.desk.rules key value
          (plan.Reply answer.Done ∷ [])
          (Early _ (Then plan.Drain _ tt Here))
          (Early _ (Then plan.Drain _ tt (Then (plan.Lock key) _ tt Here))))

      -- the rules are those of the insert
      rules : t.world.desk.rules ≡ s.world.desk.rules
      rules = step_rules eq inserted.mid t n _ inserted.last ∙
          goings_rules eq Any inserted.going s inserted.mid n inserted.goes

      seeking : Has q value t.world.table.stored → Looks t.world.table.stored
          (plan_of {E = E} t.world.table.division.parts t.world.desk.rules (start.Get q))
      seeking has = subst (λ b. Looks t.world.table.stored (get_plan {E = E} b q))
          (sym (ap is_disabled rules ∙ able))
          (Seeking _ has (Then plan.Drain _ tt Here))

module _ {K V E : Type 0} (eq : K → K → Bool) where
  pub inserted_is_found : InsertThenGet K V E eq
  inserted_is_found s t u n key q value a h able live inserted same got shows =
      found eq key q value same s t u n a able live inserted got shows
