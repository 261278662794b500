-- When a step waits.
use Rattle.std.proofs.Common.{◌≡◌, ◌≢◌, ◌↔◌, ℕ, ◌+◌, ◌==◌, Bool, true, false, List, [], ◌∷◌, Option, Some, None, IsNone, is_some, refl, sym, ap, ◌∙◌, subst, map, ◌++◌}
use Rattle.std.proofs.lemmas.Bool.{false≢true}
use Rattle.moka_hist.specs.declared.replies.Answer.TheVariants as reply
use Rattle.moka_hist.specs.State.{World, Call}
use Rattle.moka_hist.specs.Plan.{Item, Aim, told_on, lists_from}
use Rattle.moka_hist.specs.Plan as plan
use Rattle.moka_hist.specs.Next.{Next, goes, waits}
use Rattle.moka_hist.specs.Looking.{hits, misses, keeps, finds_pair}
use Rattle.moka_hist.specs.Loading.{after_read, after_told, after_abort, retries}
use Rattle.moka_hist.specs.Missing.{IsMissing}
use Rattle.moka_hist.specs.Step.{takes_of}
use Rattle.moka_hist.specs.Telling.{does_take}
use Rattle.moka_hist.specs.declared.records.Mode.TheVariants as mode
use Rattle.moka_hist.specs.declared.records.Stored.{Stored}
use Rattle.moka_hist.specs.declared.loads.Load.{Load}
use Rattle.moka_hist.specs.declared.loads.Sought.{Sought}
use Rattle.moka_hist.specs.declared.events.Told.{Told}
use Rattle.moka_hist.specs.declared.events.Told.TheVariants as answer
use Rattle.moka_hist.specs.declared.visits.Settled.{Settled}
use Rattle.moka_hist.specs.declared.visits.Settled.TheVariants as settled
use Rattle.moka_hist.specs.declared.visits.Found.TheVariants as found
use Rattle.moka_hist.specs.declared.accesses.Turn.TheVariants as turn
use Rattle.moka_laws.specs.Waiting.{WaitsByCause, WaitsFor}
use Rattle.moka_laws.proofs.Counting.{none_some}
use Rattle.moka_laws.proofs.Rules.{put_plans, loaded_plans, kept_next, chosen_next, told_op_next_by, IsLoad, IsComputes}
use Rattle.moka_laws.proofs.Plans.{IsLook, IsTail, Answering, IsDrained, Looking, IsPosted, Draining, Ended, IsPlan, Posted, Drained, Judging, calls_known, Walking}
use Rattle.moka_laws.proofs.StepCases.{OnStep, step_cases}
use Rattle.moka_laws.proofs.Outcomes.{Outcomes, outcomes}
use Rattle.moka_laws.proofs.Answering.{HasAnswers, answering, settlement_ready}
use Rattle.moka_laws.proofs.TakesFit.{AllTake, ToldFits, in_taking, load_takes_no_op, compute_loses_none}
use Rattle.moka_laws.proofs.Asking.{AsksWhole, ask_open, ask_closed, op_open, op_closed, in_asking, whole}
use Rattle.moka_hist.specs.declared.loads.Compute.{Compute}
use Rattle.moka_hist.specs.Computing.{after_told_op, after_read_key}
use Rattle.moka_laws.proofs.Walks.{IsWalk, Ends}
use Rattle.moka_hist.specs.Maintenance.{carrying}

not_none : {A : Type 0} {a : A} (o : Option A) → o ≡ Some a → ¬ IsNone o
not_none None e = λ h. none_some e
not_none (Some a) e = λ h. false≢true (sym h)

module _ {K V E : Type 0} where
  -- the step doesn't wait
  abbrev GoesOnThen : Next K V E → Type 0
  GoesOnThen next = next.turn ≢ turn.Wait

  goes_on : (c : Call K V E) (rest : List (Item K V E)) → GoesOnThen (goes c rest)
  goes_on c (plan.Reply a ∷ []) = λ e. cc
  goes_on c _ = λ e. cc

  keeps_on : (c : Call K V E) → GoesOnThen (keeps c)
  keeps_on c = kept_next GoesOnThen c (λ off e. cc) (λ on e. cc)

  misses_on : (c : Call K V E) (aim : Aim K V) → GoesOnThen (misses c aim)
  misses_on c (plan.To_insert key value) =
      let after : List (Item K V E) = plan.Reply (reply.Loaded value true) ∷ [] in
      put_plans (λ p. GoesOnThen (goes c p)) c.rules key value after
      (goes_on c (plan.Drain ∷ plan.Moment (plan.To_store key value) ∷ after))
      (goes_on c (plan.Drain ∷ plan.Lock key ∷ plan.Moment (plan.To_store key value) ∷ after))
  misses_on c (plan.To_evict key stamp cause) = keeps_on c
  misses_on c _ = λ e. cc

  finds_on : (c : Call K V E) (aim : Aim K V) (k : K) (stored : Stored V) →
      GoesOnThen (finds_pair c aim k stored)
  finds_on c (plan.To_evict key stamp cause) k stored =
      chosen_next GoesOnThen c key stamp cause k stored (λ off e. cc) (λ on e. cc) (λ e. cc)
  finds_on c _ k stored = λ e. cc

  hits_on : (c : Call K V E) (aim : Aim K V) (there : K) (value : V) → IsLook aim →
      GoesOnThen (hits c aim there value)
  hits_on c (plan.To_evict key stamp cause) there value l = absurd l
  hits_on c _ there value l = λ e. cc

  read_on : (c : Call K V E) (sought : Sought K) (with : Settled V E) → Some with ≢ Some settled.NotYet →
      GoesOnThen (after_read c sought (found.ReadSettled with))
  read_on c sought settled.NotYet h = absurd (h refl)
  read_on c sought settled.Aborted h = by (c.aborts + 1 == retries) refl
    where
      by : (b : Bool) → (c.aborts + 1 == retries) ≡ b → GoesOnThen (after_abort c sought)
      by true e = rw e (λ e. cc)
      by false e = rw e (λ e. cc)
  read_on c sought _ h = λ e. cc

  read_key_on : (c : Call K V E) (compute : Compute K) (with : Settled V E) →
      Some with ≢ Some settled.NotYet → GoesOnThen (after_read_key c compute (found.ReadSettled with))
  read_key_on c compute settled.NotYet h = absurd (h refl)
  read_key_on c compute _ h = λ e. cc

  tells_on : (c : Call K V E) (load : Load K) (given : Told V E) → IsLoad load.kind →
      does_take (takes_of load.kind) given ≡ true →
      GoesOnThen (after_told c load (found.TakeTold (Some given)))
  tells_on c load (answer.Value value) one is =
      let after : List (Item K V E) = told_on value in
      loaded_plans (λ p. GoesOnThen (goes c p)) c.rules load value (goes_on c after)
      (goes_on c (plan.Drain ∷ plan.Moment (plan.To_store load.key value) ∷ after))
      (goes_on c (plan.Drain ∷ plan.Lock load.key ∷ plan.Moment (plan.To_store load.key value)
      ∷ after))
  tells_on c load answer.Done one is = absurd (false≢true is)
  tells_on c load (answer.Op op) one is = absurd (load_takes_no_op load.kind one is)
  tells_on c load answer.Off one is = absurd (false≢true is)
  tells_on c load _ one is = λ e. cc

  tells_on_op : (c : Call K V E) (compute : Compute K) (pair : Option (K × V)) (given : Told V E) →
      IsComputes compute.takes → does_take compute.takes given ≡ true →
      GoesOnThen (after_told_op c compute pair (found.TakeTold (Some given)))
  tells_on_op c compute pair given one is = told_op_next_by GoesOnThen c compute pair given
      (λ e. cc)
      (λ error f e. cc)
      (λ value off e. cc)
      (λ value able off e. cc)
      (λ value able on e. cc)
      (λ off e. cc)
      (λ on e. cc)
      (λ lost. absurd (compute_loses_none compute.takes given one is lost))

  -- what the plan judges first, if anything, may be seen
  abbrev Judges : List (Item K V E) → Type 0
  Judges (plan.Judge aim key stored ∷ rest) = IsLook aim
  Judges _ = Unit {0}

  tail_judges : (p : List (Item K V E)) → IsTail p → Judges p
  tail_judges p (Answering a) = tt
  tail_judges p _ = tt

  drained_judges : (p : List (Item K V E)) → IsDrained p → Judges p
  drained_judges p (Looking aim key l) = tt
  drained_judges p _ = tt

  posted_judges : (p : List (Item K V E)) → IsPosted p → Judges p
  posted_judges p (Draining rest d) = tt
  posted_judges p (Ended rest t) = tail_judges rest t

  walk_judges : (p : List (Item K V E)) → IsWalk p → Judges p
  walk_judges p Ends = tt
  walk_judges p _ = tt

  plan_judges : (p : List (Item K V E)) → IsPlan p → Judges p
  plan_judges p (Judging aim key stored l) = l
  plan_judges p (Posted rest d) = posted_judges rest d
  plan_judges p (Drained rest d) = drained_judges rest d
  plan_judges p (Walking rest walk) = walk_judges rest walk
  plan_judges p _ = tt

  -- what a step has to show: it waits where Q holds, and then it changes nothing
  record Waits (w : World K V E) (c : Call K V E) (Q : Type 0) (new : World K V E) (next : Next K V E) : Type 0 where
    cause : (next.turn ≡ turn.Wait) ↔ Q
    world : next.turn ≡ turn.Wait → new ≡ w
    left : next.turn ≡ turn.Wait → next.left ≡ Some (record c { mode = mode.Parked })

  module _ (w : World K V E) (c : Call K V E) where
    never : {Q : Type 0} {new : World K V E} {next : Next K V E} → ¬ Q → GoesOnThen next → Waits w c Q new next
    never not g = record { cause = (λ e. absurd (g e), λ q. absurd (not q)); world = λ e. absurd (g e); left = λ e. absurd (g e) }

    always : {Q : Type 0} → Q → Waits w c Q w (waits c)
    always q = record { cause = (λ e. q, λ q. refl); world = λ e. refl; left = λ e. refl }

  module _ (eq : K → K → Bool) (w : World K V E) (n : ℕ) (c : Call K V E) (has : HasAnswers w.desk) (asked : AsksWhole w.desk n c.plan) where
    on_item : (item : Item K V E) (rest : List (Item K V E)) → c.plan ≡ item ∷ rest →
        AllTake (w.desk.asks n) (w.desk.told n) (item ∷ rest) → Judges (item ∷ rest) →
        Outcomes eq (Waits w c (IsMissing w.desk n item)) w n c item rest
    on_item plan.Drain rest p t l = (
      λ e. never w c (λ q. q) (goes_on c rest),
      λ x xs e. never w c (λ q. q) (λ e. cc),
      λ x number xs e. never w c (λ q. q) (λ e. cc),
    )
    on_item (plan.Ended number) rest p t l =
        (λ e. never w c (λ q. false≢true (sym e ∙ q)) (goes_on c rest), λ e. always w c e)
    on_item plan.Heard rest p t l =
        (λ e. never w c (λ q. false≢true (sym e ∙ q)) (goes_on c rest), λ e. always w c e)
    on_item (plan.Lock key) rest p t l =
        (λ e. never w c (λ q. false≢true (sym q ∙ e)) (goes_on c rest), λ e. always w c e)
    on_item (plan.Notice key old cause upsert) rest p t l =
        (λ e. never w c (λ q. q) (goes_on c rest), λ e. never w c (λ q. q) (λ e. cc))
    on_item (plan.Post write) rest p t l =
        (λ e. never w c (λ q. q) (goes_on c rest), λ e. never w c (λ q. q) (λ e. cc))
    on_item plan.Turn rest p t l =
        (λ e. never w c (λ q. false≢true (sym q ∙ e)) (goes_on c rest), λ e. always w c e)
    on_item plan.Apply rest p t l =
        (λ e. never w c (λ q. q) (goes_on c rest), λ x xs e. never w c (λ q. q) (λ e. cc))
    on_item (plan.Get aim key) rest p t l = (
      (λ more. never w c (λ q. q) (λ e. cc)),
      (λ none. never w c (λ q. q) (misses_on c aim)),
      λ k stored some. never w c (λ q. q) (finds_on c aim k stored),
    )
    on_item (plan.Judge aim key stored) rest p t l = (
      (λ seen. never w c (λ q. q) (hits_on c aim key stored.value l)),
      λ unseen. never w c (λ q. q) (misses_on c aim),
    )
    on_item (plan.Own sought) rest p t l = (
      (λ able e. never w c (λ q. q) (λ e. cc)),
      (λ not e. never w c (λ q. q) (λ e. cc)),
      λ owner e. never w c (λ q. q) (λ e. cc),
    )
    on_item (plan.Own_key compute) rest p t l = (
      ((λ able e. never w c (λ q. q) (λ e. cc)), λ not e. never w c (λ q. q) (λ e. cc)),
      λ owner e. never w c (λ q. q) (λ e. cc),
    )
    on_item (plan.Own_alone key) rest p t l = (
      ((λ able e. never w c (λ q. q) (λ e. cc)), λ not e. never w c (λ q. q) (λ e. cc)),
      λ owner e. (
        (λ able. never w c (λ q. q) (λ e. cc)),
        λ not. never w c (λ q. q)
            (λ e. cc),
      ),
    )
    on_item (plan.Read sought) rest p t l = (
      λ e. always w c (ap is_some e),
      λ with e. never w c (not_none _ e) (read_on c sought with (settlement_ready w.desk n with has e)),
    )
    on_item (plan.Read_key compute) rest p t l = (
      λ e. always w c (ap is_some e),
      λ with e. never w c (not_none _ e)
          (read_key_on c compute with (settlement_ready w.desk n with has e)),
    )
    on_item (plan.Ask load) rest p t l = never w c (λ q. q) (λ e. cc)
    on_item (plan.Ask_op compute pair) rest p t l = never w c (λ q. q) (λ e. cc)
    on_item (plan.Told load) rest p t l = (
      λ e. always w c (ask_open w.desk n load rest (subst (AsksWhole w.desk n) p asked) (ap is_some e)),
      λ given e. never w c (ask_closed w.desk n load rest (subst (AsksWhole w.desk n) p asked)
          (ap is_some e))
          (tells_on c load given t.0.0 (subst (ToldFits (takes_of load.kind)) e t.0.2)),
    )
    on_item (plan.Told_op compute pair) rest p t l = (
      λ e. always w c (op_open w.desk n compute pair rest (subst (AsksWhole w.desk n) p asked)
          (ap is_some e)),
      λ given e. never w c (op_closed w.desk n compute pair rest (subst (AsksWhole w.desk n) p asked)
          (ap is_some e))
          (tells_on_op c compute pair given t.0.0 (subst (ToldFits compute.takes) e t.0.2)),
    )
    on_item (plan.Holds key stamp cause there stored) rest p t l =
        ((λ e. never w c (λ q. q) (λ f. cc)), λ e. never w c (λ q. q) (keeps_on c))
    on_item (plan.Moment (plan.To_store key value)) rest p t l = never w c (λ q. q) (λ e. cc)
    on_item (plan.Moment (plan.To_take_out removal key)) rest p t l = never w c (λ q. q) (λ e. cc)
    on_item (plan.Write key value moment) rest p t l = (
      λ more. never w c (λ q. q) (λ e. cc),
      λ off old. never w c (λ q. q) (λ e. cc),
      λ on. never w c (λ q. q) (λ e. cc),
      λ k old on some. never w c (λ q. q) (λ e. cc),
    )
    on_item (plan.Out removal key) rest p t l = (
      (λ more. never w c (λ q. q) (λ e. cc)),
      (λ off none. never w c (λ q. q) (λ e. cc)),
      (λ on none. never w c (λ q. q) (λ e. cc)),
      (λ k old off some. never w c (λ q. q) (λ e. cc)),
      λ k old on some. never w c (λ q. q) (λ e. cc),
    )
    on_item (plan.List_keys part) rest p t l = (
      (λ more. never w c (λ q. q) (λ e. cc)),
      λ listed keys e gives. never w c (λ q. q) (goes_on c (map plan.Find keys ++ rest)),
    )
    on_item (plan.Find key) rest p t l = (
      (λ more. never w c (λ q. q) (λ e. cc)),
      (λ none. never w c (λ q. q) (goes_on c rest)),
      (λ k stored some none. never w c (λ q. q) (λ e. cc)),
      λ k stored ids some is. never w c (λ q. q) (λ e. cc),
    )
    on_item (plan.Scan there stored) rest p t l =
        ((λ seen. never w c (λ q. q) (λ e. cc)), λ unseen. never w c (λ q. q) (goes_on c rest))
    on_item (plan.Register test) rest p t l = never w c (λ q. q) (λ e. cc)
    on_item (plan.Candidates parts) rest p t l = (
      (λ none. never w c (λ q. q) (λ e. cc)),
      λ id more some. never w c (λ q. q) (goes_on (carrying c (id ∷ more)) (lists_from 0 parts (plan.Retire ∷ []))),
    )
    on_item (plan.Strike there stored) rest p t l = never w c (λ q. q) (goes_on (carrying c _) rest)
    on_item plan.Retire rest p t l = never w c (λ q. q) (λ e. cc)
    on_item (plan.Reply answer) rest p t l = never w c (λ q. q) (λ e. cc)
    on_item _ rest p t l = never w c (λ q. q) (goes_on c rest)

module _ {K V E : Type 0} (eq : K → K → Bool) where
  -- a call that a look-up gives is the one that another gives
  one_call : {o : Option (Call K V E)} (a b : Call K V E) → o ≡ Some a → o ≡ Some b → a ≡ b
  one_call a b e f = cc

  pub by_cause : WaitsByCause K V E eq
  by_cause s t n c item rest reply h live e step =
      let M : World K V E → Next K V E → Type 0 = Waits s.world c (IsMissing s.world.desk n item) in
      let on_plan : OnStep eq M s.world n c c.plan =
      subst (λ p. OnStep eq M s.world n c p) (sym e)
      (outcomes eq M s.world n c item rest
      (on_item eq s.world n c (answering eq s h).desk (whole s (in_asking eq s h) n c live)
      item rest e (subst (AllTake _ _) e ((in_taking eq s h).take n c live))
      (subst Judges e (plan_judges c.plan (calls_known eq s h n c live).plan)))) in
      step_cases eq M (λ v r. WaitsFor s n c item r v) s t n reply step
      (subst (λ v. OnStep eq M s.world n v v.plan) (one_call c step.call live step.live) on_plan)
      (λ w next m. record {
        cause = m.cause;
        parks = λ waited. rw (m.world waited, m.left waited) refl;
      })
