-- A load, or a compute, that took what it was told answers that, by the step that settles it.
use Rattle.std.proofs.Common.{◌≡◌, ℕ, ◌≤◌, Bool, true, false, List, [], ◌∷◌, Option, Some, None, refl, sym, ap, ◌∙◌, subst, arith}
use Rattle.moka_hist.specs.State.{State, World, Call}
use Rattle.moka_hist.specs.Computing.{after_told_op, end_compute, put_told}
use Rattle.moka_hist.specs.Entries.{put_answer}
use Rattle.moka_hist.specs.Plan.{Item, end_load, is_disabled}
use Rattle.moka_hist.specs.Plan as plan
use Rattle.moka_hist.specs.Next.{Next, goes}
use Rattle.moka_hist.specs.Loading.{after_told}
use Rattle.moka_hist.specs.Step.{Step}
use Rattle.moka_hist.specs.Visits.{took_told}
use Rattle.moka_hist.specs.declared.accesses.Turn.{Turn}
use Rattle.moka_hist.specs.declared.accesses.Turn.TheVariants as turn
use Rattle.moka_hist.specs.declared.events.Told.{Told}
use Rattle.moka_hist.specs.declared.events.Told.TheVariants as told
use Rattle.moka_hist.specs.declared.events.Op.TheVariants as op
use Rattle.moka_hist.specs.declared.loads.Compute.{Compute}
use Rattle.moka_hist.specs.declared.loads.Load.{Load}
use Rattle.moka_hist.specs.declared.replies.Answer.{Answer}
use Rattle.moka_hist.specs.declared.replies.Answer.TheVariants as answer
use Rattle.moka_hist.specs.declared.visits.Found.TheVariants as found
use Rattle.moka_hist.specs.declared.visits.Settled.{Settled}
use Rattle.moka_hist.specs.declared.visits.Settled.TheVariants as settled
use Rattle.moka_laws.specs.Computes.{TakesOp}
use Rattle.moka_laws.specs.Loads.{TakesTold}
use Rattle.moka_laws.specs.Starting.{Leads}
use Rattle.moka_laws.proofs.Alongside.{HoldsIf}
use Rattle.moka_laws.proofs.Counting.{none_some, put_here, some_same}
use Rattle.moka_laws.proofs.Following.{follow, no_leads}
use Rattle.moka_laws.proofs.Outcomes.{Outcomes, outcomes}
use Rattle.moka_laws.proofs.Rules.{loaded_plans, put_plans}
use Rattle.moka_laws.proofs.Served.{in_served}
use Rattle.moka_laws.proofs.Steady.{step_last}
use Rattle.moka_laws.proofs.StepCases.{OnStep, step_cases}
use Rattle.moka_callers.specs.Computing.{ComputesAnswerAsTold}
use Rattle.moka_callers.specs.Computing.{answer_told as answer_as_told}
use Rattle.moka_callers.specs.Loading.{LoadsAnswerTold, end_told}
use Rattle.moka_callers.proofs.Since.{IsSo, so_followed}

module _ {K V E : Type 0} (with : Settled V E) (said : Answer K V E) where
  -- an item that comes between the told value and the end of the load
  abbrev IsStoring : Item K V E → Type 0
  IsStoring plan.Drain = Unit {0}
  IsStoring (plan.Ended number) = Unit {0}
  IsStoring (plan.Post write) = Unit {0}
  IsStoring plan.Turn = Unit {0}
  IsStoring plan.Apply = Unit {0}
  IsStoring plan.End = Unit {0}
  IsStoring (plan.Lock key) = Unit {0}
  IsStoring (plan.Unlock wrote) = Unit {0}
  IsStoring (plan.Notice key old cause upsert) = Unit {0}
  IsStoring plan.Heard = Unit {0}
  IsStoring (plan.Moment (plan.To_store key value)) = Unit {0}
  IsStoring (plan.Write key value moment) = Unit {0}
  IsStoring _ = ⊥

  -- the plan ends the load so, after such items, and answers this
  abbrev EndsSo : List (Item K V E) → Type 0
  EndsSo [] = ⊥
  EndsSo (plan.Settle end ∷ rest) = (end ≡ with) × (rest ≡ plan.Reply said ∷ [])
  EndsSo (item ∷ rest) = IsStoring item × EndsSo rest

  abbrev Of : Option (Call K V E) → Type 0
  Of None = Unit {0}
  Of (Some d) = EndsSo d.plan

  module _ (eq : K → K → Bool) (w : World K V E) (n : ℕ) (c : Call K V E) where
    -- what an answer has to be
    abbrev Says : Turn K V E → Type 0
    Says (turn.Answer a) = (a ≡ said) × (c.plan ≡ end_load with said)
    Says _ = Unit {0}

    abbrev After : World K V E → Next K V E → Type 0
    After new next = Of next.left × Says next.turn

    module _ (ends : EndsSo c.plan) where
      goes_so : (rest : List (Item K V E)) → EndsSo rest →
          Of (goes c rest).left × Says (goes c rest).turn
      goes_so (plan.Reply a ∷ []) h = absurd h.0
      goes_so rest h = (h, tt)

      on_item : (item : Item K V E) (rest : List (Item K V E)) → c.plan ≡ item ∷ rest →
          EndsSo (item ∷ rest) → Outcomes eq After w n c item rest
      on_item plan.Drain rest is f = (
        λ none. goes_so rest f.1,
        λ x xs some. ((tt, f), tt),
        λ x number xs some. ((tt, (tt, f)), tt),
      )
      on_item (plan.Ended number) rest is f = (λ off. goes_so rest f.1, λ on. (ends, tt))
      on_item (plan.Post write) rest is f =
          (λ room. goes_so rest f.1, λ full. ((tt, (tt, (tt, f))), tt))
      on_item plan.Turn rest is f = (λ free. goes_so rest f.1, λ taken. (ends, tt))
      on_item plan.Apply rest is f = (λ none. goes_so rest f.1, λ y ys some. (f, tt))
      on_item plan.End rest is f = goes_so rest f.1
      on_item (plan.Lock key) rest is f = (λ free. goes_so rest f.1, λ held. (ends, tt))
      on_item (plan.Unlock wrote) rest is f = goes_so rest f.1
      on_item (plan.Notice key old cause upsert) rest is f =
          (λ off. goes_so rest f.1, λ on. ((tt, f.1), tt))
      on_item plan.Heard rest is f = (λ off. goes_so rest f.1, λ on. (ends, tt))
      on_item (plan.Moment (plan.To_store key value)) rest is f = ((tt, f.1), tt)
      on_item (plan.Write key value moment) rest is f = (
        λ more. (ends, tt),
        λ off old. ((tt, f.1), tt),
        λ on. ((tt, (tt, f.1)), tt),
        λ k old on some. ((tt, (tt, (tt, f.1))), tt),
      )
      on_item (plan.Settle end) rest is f = answers rest f.1 is
        where
          answers : (rest : List (Item K V E)) → rest ≡ plan.Reply said ∷ [] →
              c.plan ≡ plan.Settle end ∷ rest → Of (goes c rest).left × Says (goes c rest).turn
          answers rest last is = subst (λ p. Of (goes c p).left × Says (goes c p).turn) (sym last) (
            tt,
            (
              refl,
              is ∙ ap (λ v. plan.Settle v ∷ rest) f.0 ∙
                  ap (λ p. plan.Settle with ∷ p) last,
            ),
          )
      on_item _ rest is f = absurd f.0

      on_plan : (p : List (Item K V E)) → c.plan ≡ p → EndsSo p → OnStep eq After w n c p
      on_plan [] is f = absurd f
      on_plan (item ∷ rest) is f = outcomes eq After w n c item rest (on_item item rest is f)

  module _ (eq : K → K → Bool) (n : ℕ) where
    abbrev Ends : State K V E → Call K V E → Type 0
    Ends s c = EndsSo c.plan

    held : (s v : State K V E) (o : Option (Call K V E)) → HoldsIf Ends s o → Of o
    held s v None h = tt
    held s v (Some c) h = h

    holds : (s : State K V E) (o : Option (Call K V E)) → Of o → HoldsIf Ends s o
    holds s None h = tt
    holds s (Some c) h = h

    step_so : (s t : State K V E) (r : Turn K V E) → Of (s.calls n) → (step : Step eq s n r t) →
        Of (t.calls n) × Says eq s.world n step.call r
    step_so s t r h step =
        let c : Call K V E = step.call in
        let ends : EndsSo c.plan = subst Of step.live h in
        step_cases eq (After eq s.world n c) (λ v q. Of (v.calls n) × Says eq s.world n c q) s t n r
        step (on_plan eq s.world n c ends c.plan refl ends)
        (λ w next so. (subst Of (sym (put_here s.calls n next.left)) so.0, so.1))

    ends_on : (s v : State K V E) (c : Call K V E) → Leads eq s v →
        v.world.desk.rules ≡ s.world.desk.rules → Ends s c → Ends v c
    ends_on s v c led rules h = h

    module _ (b : State K V E) where
      ends_step : (s t : State K V E) (r : Turn K V E) → Leads eq b s →
          HoldsIf Ends s (s.calls n) → Step eq s n r t → HoldsIf Ends t (t.calls n)
      ends_step s t r led h step =
          holds t (t.calls n) (step_so s t r (held s s (s.calls n) h) step).0

      -- from a state on where the plan ends so
      answers_so : (u v : State K V E) (a : Answer K V E) → n ≤ b.world.desk.last →
          Of (b.calls n) → Leads eq b u → (step : Step eq u n (turn.Answer a) v) →
          (a ≡ said) × (step.call.plan ≡ end_load with said)
      answers_so u v a born first led step =
          let now : IsSo eq b n Ends ends_on ends_step u =
          follow eq (IsSo eq b n Ends ends_on ends_step) (so_followed eq b n Ends ends_on ends_step)
          b u led.events led.replies
          (record { led = no_leads eq b; born = born; so = holds b (b.calls n) first }) led.run in
          (step_so u v (turn.Answer a) (held u u (u.calls n) now.so) step).1

module _ {K V E : Type 0} (eq : K → K → Bool) where
  pair_same : (x y : Settled V E × Answer K V E) → Some x ≡ Some y → x ≡ y
  pair_same x y e = some_same e

  -- a compute that puts ends so
  puts : (c : Call K V E) (compute : Compute K) (pair : Option (K × V)) (value : V) →
      Of settled.Nothing (put_answer compute.key pair value)
      (goes c (put_told (is_disabled c.rules) c compute.key pair value)).left
  puts c compute pair value = by (is_disabled c.rules)
    where
      by : (b : Bool) → Of settled.Nothing (put_answer compute.key pair value)
          (goes c (put_told b c compute.key pair value)).left
      by true = (refl, refl)
      by false = put_plans (λ p. Of settled.Nothing (put_answer compute.key pair value) (goes c p).left)
          c.rules compute.key value (end_compute (put_answer compute.key pair value))
          (tt, (tt, (refl, refl))) (tt, (tt, (tt, (refl, refl))))

  -- what the told answer makes of the call
  told_ends : (c : Call K V E) (load : Load K) (given : Told V E) (with : Settled V E)
      (said : Answer K V E) → end_told given ≡ Some (with, said) →
      Of with said (after_told c load (found.TakeTold (Some given))).left
  told_ends c load (told.Value value) with said e =
      subst (λ (p : Settled V E × Answer K V E). Of p.0 p.1
      (after_told c load (found.TakeTold (Some (told.Value value)))).left)
      (pair_same (settled.Ready value, answer.Loaded value true) (with, said) e)
      (loaded_plans (λ p. Of (settled.Ready value) (answer.Loaded value true) (goes c p).left)
      c.rules load value (refl, refl) (tt, (tt, (refl, refl))) (tt, (tt, (tt, (refl, refl)))))
  told_ends c load told.Nothing with said e =
      subst (λ (p : Settled V E × Answer K V E). Of p.0 p.1
      (after_told c load (found.TakeTold (Some told.Nothing))).left)
      (pair_same (settled.Nothing, answer.Nothing) (with, said) e) (refl, refl)
  told_ends c load (told.Err error) with said e =
      subst (λ (p : Settled V E × Answer K V E). Of p.0 p.1
      (after_told c load (found.TakeTold (Some (told.Err error)))).left)
      (pair_same (settled.Err error, answer.InitErr error) (with, said) e) (refl, refl)
  told_ends c load _ with said e = absurd (none_some e)

  -- so the step that takes it
  taken_ends : (s t : State K V E) (n : ℕ) (c : Call K V E) (given : Told V E) (r : Turn K V E)
      (with : Settled V E) (said : Answer K V E) → s.calls n ≡ Some c → TakesTold s n c given →
      Step eq s n r t → end_told given ≡ Some (with, said) → Of with said (t.calls n)
  taken_ends s t n c given r with said live takes step e =
      step_cases eq Left (λ v q. Of with said (v.calls n)) s t n r step
      (subst (λ p. OnStep eq Left s.world n step.call p)
      (sym (ap (λ (v : Call K V E). v.plan) (some_same (sym step.live ∙ live)) ∙ takes.telling))
      (outcomes eq Left s.world n step.call (plan.Told takes.load) [] on_told))
      (λ w next so. subst (Of with said) (sym (put_here s.calls n next.left)) so)
    where
      Left : World K V E → Next K V E → Type 0
      Left new next = Of with said next.left

      on_told : Outcomes eq Left s.world n step.call (plan.Told takes.load) []
      on_told = (
        λ none. absurd (none_some (sym none ∙ takes.told)),
        λ other some. subst
            (λ v. Left (record s.world { desk = took_told s.world.desk n })
            (after_told step.call takes.load (found.TakeTold (Some v))))
            (some_same (sym takes.told ∙ some))
            (told_ends step.call takes.load given with said e),
      )

  pub answer_told : LoadsAnswerTold K V E eq
  answer_told s t u v n c d given with said a r h live takes step e led lives last =
      let so = answers_so with said eq n t u v a (omega (
        arith,
        (in_served eq s h).balanced.numbered n c live,
        step_last eq s t n r step,
      )) (taken_ends s t n c given r with said live takes step e) led last in
      (so.0, ap (λ (x : Call K V E). x.plan) (some_same (sym lives ∙ last.live)) ∙ so.1)

  -- so of a compute
  op_ends : (c : Call K V E) (compute : Compute K) (pair : Option (K × V)) (given : Told V E)
      (said : Answer K V E) → answer_as_told compute.key pair given ≡ Some said →
      Of settled.Nothing said (after_told_op c compute pair (found.TakeTold (Some given))).left
  op_ends c compute pair (told.Op op.Nop) said e =
      subst (λ a. Of settled.Nothing a
      (after_told_op c compute pair (found.TakeTold (Some (told.Op op.Nop)))).left)
      (some_same e) (refl, refl)
  op_ends c compute pair (told.Op (op.Put value)) said e =
      subst (λ a. Of settled.Nothing a
      (after_told_op c compute pair (found.TakeTold (Some (told.Op (op.Put value))))).left)
      (some_same e) (puts c compute pair value)
  op_ends c compute pair (told.Value value) said e =
      subst (λ a. Of settled.Nothing a
      (after_told_op c compute pair (found.TakeTold (Some (told.Value value)))).left)
      (some_same e) (puts c compute pair value)
  op_ends c compute pair (told.Err error) said e =
      subst (λ a. Of settled.Nothing a
      (after_told_op c compute pair (found.TakeTold (Some (told.Err error)))).left)
      (some_same e) (refl, refl)
  op_ends c compute pair _ said e = absurd (none_some e)

  taken_op_ends : (s t : State K V E) (n : ℕ) (c : Call K V E) (compute : Compute K)
      (pair : Option (K × V)) (given : Told V E) (r : Turn K V E) (said : Answer K V E) →
      s.calls n ≡ Some c → TakesOp n compute pair given s c r t → Step eq s n r t →
      answer_as_told compute.key pair given ≡ Some said → Of settled.Nothing said (t.calls n)
  taken_op_ends s t n c compute pair given r said live takes step e =
      step_cases eq Left (λ v q. Of settled.Nothing said (v.calls n)) s t n r step
      (subst (λ p. OnStep eq Left s.world n step.call p)
      (sym (ap (λ (v : Call K V E). v.plan) (some_same (sym step.live ∙ live)) ∙ takes.telling))
      (outcomes eq Left s.world n step.call (plan.Told_op compute pair) [] on_told))
      (λ w next so. subst (Of settled.Nothing said) (sym (put_here s.calls n next.left)) so)
    where
      Left : World K V E → Next K V E → Type 0
      Left new next = Of settled.Nothing said next.left

      on_told : Outcomes eq Left s.world n step.call (plan.Told_op compute pair) []
      on_told = (
        λ none. absurd (none_some (sym none ∙ takes.told)),
        λ other some. subst
            (λ v. Left (record s.world { desk = took_told s.world.desk n })
            (after_told_op step.call compute pair (found.TakeTold (Some v))))
            (some_same (sym takes.told ∙ some))
            (op_ends step.call compute pair given said e),
      )

  pub answer_as : ComputesAnswerAsTold K V E eq
  answer_as s t u v n c d compute pair given said a r h live takes step e led lives last =
      let so = answers_so settled.Nothing said eq n t u v a (omega (
        arith,
        (in_served eq s h).balanced.numbered n c live,
        step_last eq s t n r step,
      )) (taken_op_ends s t n c compute pair given r said live takes step e) led last in
      (so.0, ap (λ (x : Call K V E). x.plan) (some_same (sym lives ∙ last.live)) ∙ so.1)
