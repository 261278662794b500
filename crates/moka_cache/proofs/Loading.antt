-- A load answers what follows from what it is told or reads, so its state tells of each answer.
use Rattle.std.proofs.Common.{◌≡◌, ◌⊎◌, ℕ, Bool, true, false, List, [], ◌∷◌, ◌++◌, Option, Some, None, IsSome, IsSomeAnd, Result, Contains, refl, sym, ap, subst}
use Rattle.std.proofs.lemmas.Bool.{false≢true}
use Rattle.moka_hist.specs.Next.{Next, answers}
use Rattle.moka_hist.specs.Run.{fresh_call}
use Rattle.moka_hist.specs.State.{Call}
use Rattle.moka_hist.specs.Step.{Access}
use Rattle.moka_hist.specs.declared.accesses.Got.{Got}
use Rattle.moka_hist.specs.declared.events.Start.{Start}
use Rattle.moka_hist.specs.declared.events.Start.TheVariants as begins
use Rattle.moka_hist.specs.declared.events.Told.{Told}
use Rattle.moka_hist.specs.declared.events.Told.TheVariants as told
use Rattle.moka_hist.specs.declared.loads.Kind.{Kind}
use Rattle.moka_hist.specs.declared.loads.Kind.TheVariants as kind
use Rattle.moka_hist.specs.declared.records.Stored.{Stored}
use Rattle.moka_hist.specs.declared.replies.Answer.{Answer}
use Rattle.moka_hist.specs.declared.replies.Answer.TheVariants as answer
use Rattle.moka_hist.specs.declared.rules.Rules.{Rules}
use Rattle.moka_hist.specs.declared.visits.Settled.{Settled}
use Rattle.moka_hist.specs.declared.visits.Settled.TheVariants as settled
use Rattle.moka_laws.specs.Starts.{kind_loaded, may_answer}
use Rattle.moka_laws.proofs.Counting.{none_some, some_same}
use Rattle.moka_shapes.specs.Computes.{taken}
use Rattle.moka_shapes.specs.Loads.{FollowsEnd, FollowsTold, LoadsTell, MayGiveLoad, MayLeadLoad, judged, looked, read}
use Rattle.moka_kept.specs.Facts.{Facts, plain}
use Rattle.moka_kept.specs.Paths.{EndedWith, GivenSo, LeadsWith}
use Rattle.moka_kept.specs.Taking.{Answered, Taken}
use Rattle.moka_cache.specs.Asked.{TellsOption, TellsResult, TellsValue, ToldSuch}
use Rattle.moka_cache.specs.Entries.{loaded_entry_in, optionally_loaded_entry_in, try_loaded_entry_in}
use Rattle.moka_cache.specs.Inits.{GivesOption, GivesResult, GivesValue}
use Rattle.moka_cache.specs.Loaded.{loaded_in, optionally_loaded_in, try_loaded_in}
use Rattle.moka_cache.specs.Stages.{AnswersWith}
use Rattle.moka_cache.specs.Starts.{called}
use Rattle.moka_cache.specs.Suits.{Tells}
use Rattle.moka_cache.specs.declared.by_init.ByInit.{ByInit}
use Rattle.moka_cache.specs.declared.by_init.ByOptionalInit.{ByOptionalInit}
use Rattle.moka_cache.specs.declared.by_init.ByTryInit.{ByTryInit}
use Rattle.moka_cache.specs.declared.stage.Stage.{Stage}
use Rattle.moka_cache.specs.declared.stage.Stage.TheVariants as stage
use Rattle.moka_cache.proofs.Suiting.{what_gave}
use Rattle.moka_cache.proofs.Telling.{either, such_told}

-- ---- a way of a load

module _ {K V E : Type 0} (f : Facts K V) (such : Taken V E → Type 0) (n : ℕ) where
  may_give_load : (c : Call K V E) (given : Got K V E) → GivenSo f n c given → MayGiveLoad f.eq n c given
  may_give_load c given by = record { gives = record { world = by.gave.world; after = by.gave.after; gets = by.gave.gets }; ends = by.gave.ends }

  may_lead_load : (c : Call K V E) (path : List (Access K V E × Got K V E)) (d : Call K V E) → LeadsWith f such n c path d → MayLeadLoad f.eq n c (what_gave path) d
  may_lead_load c [] d led = led
  may_lead_load c (made ∷ more) d led = (led.0, may_give_load c made.1 led.2, led.3, may_lead_load led.0 more d led.5)

-- ---- what a load may answer

-- P holds of all that a load of this kind may answer that is told such
record Holds {K V E : Type 0} (kind : Kind) (such : Told V E → Type 0) (P : Answer K V E → Type 0) : Type 0 where
  told : (t : Told V E) (said : Answer K V E) → such t → FollowsTold t said → P said
  ended : (with : Settled V E) (said : Answer K V E) → FollowsEnd kind with said → P said
  found : (value : V) → P (answer.Loaded value false)
  gave_up : P answer.RetriesExhausted

-- so it holds of its answer
module _ {K V E : Type 0} (f : Facts K V) (law : LoadsTell K V E f.eq) (such : Taken V E → Type 0) (rules : Rules) (begin : Start K V) (kind : Kind)
    (loads : kind_loaded begin ≡ Some kind) (P : Answer K V E → Type 0) (holds : Holds kind (λ t. such (Answered t)) P) (n : ℕ) (said : Answer K V E) where
  answers_so : EndedWith f such n (fresh_call 1 rules begin) (answers said) → P said
  answers_so end =
      let path : List (Got K V E) = what_gave end.came.0 in
      let whole : List (Got K V E) = path ++ end.given ∷ [] in
      either ((t : Told V E) × Contains whole (taken t) × FollowsTold t said)
      (((with : Settled V E) × Contains whole (read with) × FollowsEnd kind with said) ⊎ ((there : K) × (stored : Stored V) × Contains whole (looked there stored) × Contains whole judged × (said ≡ answer.Loaded stored.value false))
      ⊎ (Contains whole (read settled.Aborted) × (said ≡ answer.RetriesExhausted))) (P said)
      (λ by. holds.told by.0 said (such_told f such n (fresh_call 1 rules begin) (answers said) end by.0 by.1) by.2)
      (either ((with : Settled V E) × Contains whole (read with) × FollowsEnd kind with said)
      (((there : K) × (stored : Stored V) × Contains whole (looked there stored) × Contains whole judged × (said ≡ answer.Loaded stored.value false)) ⊎ (Contains whole (read settled.Aborted) × (said ≡ answer.RetriesExhausted))) (P said)
      (λ by. holds.ended by.0 said by.2)
      (either ((there : K) × (stored : Stored V) × Contains whole (looked there stored) × Contains whole judged × (said ≡ answer.Loaded stored.value false)) (Contains whole (read settled.Aborted) × (said ≡ answer.RetriesExhausted)) (P said)
      (λ by. subst P (sym by.4) (holds.found by.1.value)) (λ by. subst P (sym by.1) holds.gave_up)))
      (law 1 rules begin kind n path end.call end.given said loads (may_lead_load f such n (fresh_call 1 rules begin) end.came.0 end.call end.came.1)
      (may_give_load f such n end.call end.given end.last) (sym (ap (λ (x : Next K V E). x.turn) end.follows)))

-- an initializer that gives something is there
gives_some : {I R : Type 0} (P : I → Type 0) (init : Option I) → ((i : I) → P i → R) → IsSomeAnd init P → R
gives_some P (Some i) f gives = f i gives
gives_some P None f gives = absurd gives

module _ {K V E : Type 0} (key : K) (said : Answer K V E) where
  -- the load of a value answers no more than its start may
  abbrev Loads : Start K V → Type 0
  Loads begin = may_answer begin said ≡ true

  value_told : (replace : Option ℕ) (such : V → Type 0) (t : Told V E) → TellsValue such t → FollowsTold t said → Loads (begins.GetWith key replace)
  value_told replace such (told.Value value) tells by = subst (λ a. may_answer (begins.GetWith key replace) a ≡ true) (sym by) refl
  value_told replace such (told.Err error) tells by = absurd tells
  value_told replace such told.Nothing tells by = absurd tells
  value_told replace such (told.Op op) tells by = absurd tells
  value_told replace such told.Done tells by = absurd tells
  value_told replace such told.Off tells by = absurd tells

  value_ended : (replace : Option ℕ) (with : Settled V E) → FollowsEnd kind.GetWith with said → Loads (begins.GetWith key replace)
  value_ended replace (settled.Ready value) by = subst (λ a. may_answer (begins.GetWith key replace) a ≡ true) (some_same by.1) refl
  value_ended replace (settled.Err error) by = absurd (false≢true by.0)
  value_ended replace settled.Nothing by = absurd (false≢true by.0)
  value_ended replace settled.NotYet by = absurd (false≢true by.0)
  value_ended replace settled.Aborted by = absurd (none_some by.1)

  -- one that may find nothing
  option_told : (such : Option V → Type 0) (t : Told V E) → TellsOption such t → FollowsTold t said → Loads (begins.Optional key)
  option_told such (told.Value value) tells by = subst (λ a. may_answer (begins.Optional key) a ≡ true) (sym by) refl
  option_told such told.Nothing tells by = subst (λ a. may_answer (begins.Optional key) a ≡ true) (sym by) refl
  option_told such (told.Err error) tells by = absurd tells
  option_told such (told.Op op) tells by = absurd tells
  option_told such told.Done tells by = absurd tells
  option_told such told.Off tells by = absurd tells

  option_ended : (with : Settled V E) → FollowsEnd kind.Optional with said → Loads (begins.Optional key)
  option_ended (settled.Ready value) by = subst (λ a. may_answer (begins.Optional key) a ≡ true) (some_same by.1) refl
  option_ended settled.Nothing by = subst (λ a. may_answer (begins.Optional key) a ≡ true) (some_same by.1) refl
  option_ended (settled.Err error) by = absurd (false≢true by.0)
  option_ended settled.NotYet by = absurd (false≢true by.0)
  option_ended settled.Aborted by = absurd (none_some by.1)

  -- and one that may fail
  result_told : (such : Result V E → Type 0) (t : Told V E) → TellsResult such t → FollowsTold t said → Loads (begins.Try key)
  result_told such (told.Value value) tells by = subst (λ a. may_answer (begins.Try key) a ≡ true) (sym by) refl
  result_told such (told.Err error) tells by = subst (λ a. may_answer (begins.Try key) a ≡ true) (sym by) refl
  result_told such told.Nothing tells by = absurd tells
  result_told such (told.Op op) tells by = absurd tells
  result_told such told.Done tells by = absurd tells
  result_told such told.Off tells by = absurd tells

  result_ended : (with : Settled V E) → FollowsEnd kind.Try with said → Loads (begins.Try key)
  result_ended (settled.Ready value) by = subst (λ a. may_answer (begins.Try key) a ≡ true) (some_same by.1) refl
  result_ended (settled.Err error) by = subst (λ a. may_answer (begins.Try key) a ≡ true) (some_same by.1) refl
  result_ended settled.Nothing by = absurd (false≢true by.0)
  result_ended settled.NotYet by = absurd (false≢true by.0)
  result_ended settled.Aborted by = absurd (none_some by.1)

-- ---- of states

module _ {A K V E O : Type 0} (eq : K → K → Bool) (law : LoadsTell K V E eq) (rules : Rules) (key : A → K) (output : Option K → Answer K V E → Option O) where
  -- a state tells of each answer that a load which starts so may give
  abbrev pub Outputs : (A → Start K V) → Type 0
  Outputs start = (begin : A) (named : Option K) (said : Answer K V E) → may_answer (start begin) said ≡ true → IsSome (output named said)

  module _ (such : Told V E → Type 0) (start : A → Start K V) (kind : Kind) (loads : (begin : A) → kind_loaded (start begin) ≡ Some kind)
      (outputs : Outputs start) (holds : (begin : A) → Holds kind such (λ said. may_answer (start begin) said ≡ true)) where
    load_tells : (made : Stage A K V E) (begin : A) → made ≡ stage.Fresh begin → Tells eq such (called rules start) output made
    load_tells made begin is named said by =
        let ended : AnswersWith (plain V eq) (ToldSuch such) (called rules start) (stage.Fresh begin) said = subst (λ s. AnswersWith (plain V eq) (ToldSuch such) (called rules start) s said) is by in
        outputs begin named said
        (answers_so (plain V eq) law (ToldSuch such) rules (start begin) kind (loads begin) (λ a. may_answer (start begin) a ≡ true) (holds begin) ended.0 said ended.1)

  pub value_tells : {I : Type 0} (gives : I → V → Type 0) (asked : ByInit I) (replace : A → Option ℕ)
      → Outputs (λ it. begins.GetWith (key it) (replace it)) → (made : Stage A K V E) (begin : A) → made ≡ stage.Fresh begin
      → Tells eq (GivesValue gives asked) (called rules (λ it. begins.GetWith (key it) (replace it))) output made
  value_tells gives asked replace outputs =
      load_tells (GivesValue gives asked) (λ it. begins.GetWith (key it) (replace it)) kind.GetWith (λ it. refl) outputs (λ it. record {
        told = λ t said tells by. gives_some (λ init. TellsValue (gives init) t) asked.init
            (λ init one. value_told (key it) said (replace it) (gives init) t one by) tells;
        ended = λ with said by. value_ended (key it) said (replace it) with by;
        found = λ value. refl;
        gave_up = refl;
      })

  pub option_tells : {I : Type 0} (gives : I → Option V → Type 0) (asked : ByOptionalInit I)
      → Outputs (λ it. begins.Optional (key it)) → (made : Stage A K V E) (begin : A) → made ≡ stage.Fresh begin
      → Tells eq (GivesOption gives asked) (called rules (λ it. begins.Optional (key it))) output made
  option_tells gives asked outputs =
      load_tells (GivesOption gives asked) (λ it. begins.Optional (key it)) kind.Optional (λ it. refl) outputs (λ it. record {
        told = λ t said tells by. gives_some (λ init. TellsOption (gives init) t) asked.init
            (λ init one. option_told (key it) said (gives init) t one by) tells;
        ended = λ with said by. option_ended (key it) said with by;
        found = λ value. refl;
        gave_up = refl;
      })

  pub result_tells : {I : Type 0} (gives : I → Result V E → Type 0) (asked : ByTryInit I)
      → Outputs (λ it. begins.Try (key it)) → (made : Stage A K V E) (begin : A) → made ≡ stage.Fresh begin
      → Tells eq (GivesResult gives asked) (called rules (λ it. begins.Try (key it))) output made
  result_tells gives asked outputs =
      load_tells (GivesResult gives asked) (λ it. begins.Try (key it)) kind.Try (λ it. refl) outputs (λ it. record {
        told = λ t said tells by. gives_some (λ init. TellsResult (gives init) t) asked.init
            (λ init one. result_told (key it) said (gives init) t one by) tells;
        ended = λ with said by. result_ended (key it) said with by;
        found = λ value. refl;
        gave_up = refl;
      })

-- ---- what each state tells

module _ {K V E : Type 0} (key : K) (named : Option K) where
  pub loaded : (replace : Option ℕ) (said : Answer K V E) → may_answer (begins.GetWith key replace) said ≡ true → IsSome (loaded_in said)
  loaded replace (answer.Loaded value fresh) may = refl
  loaded replace answer.RetriesExhausted may = refl
  loaded replace _ may = absurd (false≢true may)

  pub loaded_entry : (replace : Option ℕ) (said : Answer K V E) → may_answer (begins.GetWith key replace) said ≡ true → IsSome (loaded_entry_in named said)
  loaded_entry replace (answer.Loaded value fresh) may = refl
  loaded_entry replace answer.RetriesExhausted may = refl
  loaded_entry replace _ may = absurd (false≢true may)

  pub optionally : (said : Answer K V E) → may_answer (begins.Optional key) said ≡ true → IsSome (optionally_loaded_in said)
  optionally (answer.Loaded value fresh) may = refl
  optionally answer.Nothing may = refl
  optionally answer.RetriesExhausted may = refl
  optionally _ may = absurd (false≢true may)

  pub optional_entry : (said : Answer K V E) → may_answer (begins.Optional key) said ≡ true → IsSome (optionally_loaded_entry_in named said)
  optional_entry (answer.Loaded value fresh) may = refl
  optional_entry answer.Nothing may = refl
  optional_entry answer.RetriesExhausted may = refl
  optional_entry _ may = absurd (false≢true may)

  pub tried : (said : Answer K V E) → may_answer (begins.Try key) said ≡ true → IsSome (try_loaded_in said)
  tried (answer.Loaded value fresh) may = refl
  tried (answer.InitErr error) may = refl
  tried answer.RetriesExhausted may = refl
  tried _ may = absurd (false≢true may)

  pub tried_entry : (said : Answer K V E) → may_answer (begins.Try key) said ≡ true → IsSome (try_loaded_entry_in named said)
  tried_entry (answer.Loaded value fresh) may = refl
  tried_entry (answer.InitErr error) may = refl
  tried_entry answer.RetriesExhausted may = refl
  tried_entry _ may = absurd (false≢true may)
