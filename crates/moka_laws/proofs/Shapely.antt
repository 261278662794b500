-- A call that asks nobody answers as what it was started for may, whatever it is given.
use Rattle.std.proofs.Common.{◌≡◌, ℕ, Bool, true, List, [], ◌∷◌, Some, refl, sym, subst}
use Rattle.std.proofs.lemmas.Bool.{false≢true}
use Rattle.moka_hist.specs.State.{World, Call}
use Rattle.moka_hist.specs.Step.{next_of}
use Rattle.moka_hist.specs.Run.{fresh_call}
use Rattle.moka_hist.specs.declared.accesses.Got.{Got}
use Rattle.moka_hist.specs.declared.entries.CompResult.TheVariants as result
use Rattle.moka_hist.specs.declared.entries.CompResult.{CompResult}
use Rattle.moka_hist.specs.declared.events.Start.{Start}
use Rattle.moka_hist.specs.declared.events.Start.TheVariants as start
use Rattle.moka_hist.specs.declared.loads.Kind.{Kind}
use Rattle.moka_hist.specs.declared.replies.Answer.TheVariants as answer
use Rattle.moka_laws.specs.Starts.{asks_nobody, may_answer}
use Rattle.moka_laws.specs.Shapes.{MayBeGiven, MayLead, ShapesFit}
use Rattle.moka_laws.proofs.AnswersFit.{kind_of, AllSuit, Leaves, ReadsFit, on_plan, fresh_suits}
use Rattle.moka_laws.proofs.Counting.{none_some}
use Rattle.moka_laws.proofs.Owning.{plan_left}
use Rattle.moka_laws.proofs.StepCases.{by_plan}

-- it loads nothing
loads_nothing : {K V : Type 0} (begin : Start K V) (k : Kind) → asks_nobody begin ≡ true →
    kind_of begin ≡ Some k → ⊥
loads_nothing (start.GetWith key replace) k nobody e = false≢true nobody
loads_nothing (start.Optional key) k nobody e = false≢true nobody
loads_nothing (start.Try key) k nobody e = false≢true nobody
loads_nothing _ k nobody e = none_some e

-- and answers no compute
computes_nothing : {K V : Type 0} (E : Type 0) (begin : Start K V) (done : CompResult K V) →
    asks_nobody begin ≡ true → may_answer {E = E} begin (answer.Computed done) ≡ true → ⊥
computes_nothing E (start.Compute key) done nobody may = false≢true nobody
computes_nothing E (start.TryCompute key) done nobody may = false≢true nobody
computes_nothing E (start.ComputeAlone key) done nobody may = false≢true nobody
computes_nothing E (start.Upsert key) done nobody may = false≢true nobody
computes_nothing E _ done nobody may = false≢true may

module _ {K V E : Type 0} (eq : K → K → Bool) (begin : Start K V)
    (nobody : asks_nobody begin ≡ true) where
  -- so it reads no owner's end, and is told nothing
  reads_none : (w : World K V E) (n : ℕ) (c : Call K V E) → AllSuit begin c.plan →
      ReadsFit begin w n c
  reads_none w n c suits = record {
    ends = λ sought with rest e some.
        let s = subst (AllSuit begin) e suits in
        absurd (loads_nothing begin sought.load.kind nobody s.0);
    loads = λ load given rest e some.
        let s = subst (AllSuit begin) e suits in
        absurd (loads_nothing begin load.kind nobody s.0);
    computes = λ compute pair given rest e some.
        let s = subst (AllSuit begin) e suits in
        absurd (computes_nothing E begin (result.StillNone compute.key) nobody (s.0.0 _));
  }

  -- one step, whatever is given
  step_suits : (n : ℕ) (c : Call K V E) (given : Got K V E) → AllSuit begin c.plan →
      MayBeGiven eq n c given → Leaves begin (next_of n c given)
  step_suits n c given suits gives =
      by_plan eq (λ w next. Leaves begin next) gives.world n c.rules c.mode c.plan c.aborts c.carried given
      gives.after gives.gets
      (on_plan begin eq gives.world n c suits (reads_none gives.world n c suits) c.plan refl suits)

  path_suits : (n : ℕ) (path : List (Got K V E)) (c d : Call K V E) → AllSuit begin c.plan →
      MayLead eq n c path d → AllSuit begin d.plan
  path_suits n [] c d suits led = subst (λ (v : Call K V E). AllSuit begin v.plan) (sym led) suits
  path_suits n (given ∷ more) c d suits led =
      let next = step_suits n c given suits led.1 in
      path_suits n more led.0 d
      (subst (λ v. AllSuit begin (plan_left v)) led.2 next.suits) led.3

pub shapes_fit : {K V E : Type 0} (eq : K → K → Bool) → ShapesFit K V E eq
shapes_fit {K} {V} {E} eq parts rules begin n nobody path c given a led gives answers =
    let suits = path_suits eq begin nobody n path (fresh_call parts rules begin) c
    (fresh_suits E parts rules begin) led in
    (step_suits eq begin nobody n c given suits gives).now a answers
