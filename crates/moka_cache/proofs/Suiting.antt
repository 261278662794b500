-- A call that asks nobody answers as what it was started for may, over all its polls.
use Rattle.std.proofs.Common.{◌≡◌, ℕ, Bool, true, List, [], ◌∷◌, ◌++◌, map, Option, IsSome, Result, Ok, OnOk, refl, sym, ap, subst}
use Rattle.std.proofs.lemmas.Bool.{false≢true}
use Rattle.moka_hist.specs.Next.{Next, answers}
use Rattle.moka_hist.specs.Run.{fresh_call}
use Rattle.moka_hist.specs.State.{Call}
use Rattle.moka_hist.specs.Step.{Access}
use Rattle.moka_hist.specs.declared.accesses.Got.{Got}
use Rattle.moka_hist.specs.declared.events.Start.{Start}
use Rattle.moka_hist.specs.declared.events.Start.TheVariants as begins
use Rattle.moka_hist.specs.declared.events.Told.{Told}
use Rattle.moka_hist.specs.declared.replies.Answer.{Answer}
use Rattle.moka_hist.specs.declared.replies.Answer.TheVariants as answer
use Rattle.moka_hist.specs.declared.rules.Rules.{Rules}
use Rattle.moka_init.specs.FlowPlan.{call_of}
use Rattle.moka_laws.specs.Starts.{asks_nobody, may_answer}
use Rattle.moka_laws.specs.Shapes.{Fits, MayBeGiven, MayLead, ShapesFit}
use Rattle.moka_kept.specs.Paths.{CameWith, EndedWith, IsGiven, LeadsWith}
use Rattle.moka_kept.specs.Taking.{Answered, NoAnswer, Taken, Tested}
use Rattle.moka_cache.specs.Asked.{Accords, ToldSuch}
use Rattle.moka_cache.specs.Entries.{entry_in}
use Rattle.moka_cache.specs.Stages.{AnswersWith, CameOnWith}
use Rattle.moka_cache.specs.Starts.{called}
use Rattle.moka_cache.specs.Suits.{IsAnswerOf, Suits, Tells}
use Rattle.moka_kept.specs.Facts.{Facts, plain}
use Rattle.moka_kept.proofs.Ways.{came_plain, came_weaker, ended_on, ended_plain, ended_weaker}
use Rattle.moka_cache.specs.declared.stage.Stage.{Stage}
use Rattle.moka_cache.specs.declared.stage.Stage.TheVariants as stage

-- what the accesses of a way gave
abbrev pub what_gave : {K V E : Type 0} → List (Access K V E × Got K V E) → List (Got K V E)
what_gave path = map (λ made. made.1) path

module _ {K V E : Type 0} (eq : K → K → Bool) (n : ℕ) where
  lead_on : (c : Call K V E) (path : List (Got K V E)) (d : Call K V E) (more : List (Got K V E)) (e : Call K V E)
      → MayLead eq n c path d → MayLead eq n d more e → MayLead eq n c (path ++ more) e
  lead_on c [] d more e first then = subst (λ (x : Call K V E). MayLead eq n x more e) first then
  lead_on c (given ∷ path) d more e first then = (first.0, first.1, first.2, lead_on first.0 path d more e first.3 then)

  pub may_give : (c : Call K V E) (given : Got K V E) → IsGiven eq n c given → MayBeGiven eq n c given
  may_give c given by = record { world = by.world; after = by.after; gets = by.gets }

module _ {K V E : Type 0} (f : Facts K V) (such : Taken V E → Type 0) (n : ℕ) where
  pub may_lead : (c : Call K V E) (path : List (Access K V E × Got K V E)) (d : Call K V E) → LeadsWith f such n c path d → MayLead f.eq n c (what_gave path) d
  may_lead c [] d led = led
  may_lead c (made ∷ more) d led = (led.0, may_give f.eq n c made.1 led.2.gave, led.3, may_lead led.0 more d led.5)

  -- on its way the call keeps fitting
  fits_on : (begin : Start K V) (c d : Call K V E) → Fits f.eq n begin c → CameWith f such n c d → Fits f.eq n begin d
  fits_on begin c d fits came path e given a led gives answers =
      fits (what_gave came.0 ++ path) e given a (lead_on f.eq n c (what_gave came.0) d path e (may_lead c came.0 d came.1) led) gives answers

  -- and so it answers
  fits_end : (begin : Start K V) (c : Call K V E) (a : Answer K V E) → Fits f.eq n begin c → EndedWith f such n c (answers a) → may_answer begin a ≡ true
  fits_end begin c a fits end =
      fits (what_gave end.came.0) end.call end.given a (may_lead c end.came.0 end.call end.came.1)
      (may_give f.eq n end.call end.given end.last.gave) (sym (ap (λ (x : Next K V E). x.turn) end.follows))

module _ {A K V E : Type 0} (f : Facts K V) (law : ShapesFit K V E f.eq) (such : Taken V E → Type 0) (rules : Rules) (start : A → Start K V) where
  pub suits_on : (old new : Stage A K V E) → CameOnWith f such (called rules start) old new → Suits f.eq start old → Suits f.eq start new
  suits_on (stage.Fresh begin) (stage.Fresh kept) came suits = subst (λ b. asks_nobody (start b) ≡ true) (sym came) suits
  suits_on (stage.Fresh begin) (stage.Running flow) came suits =
      (begin, fits_on f such flow.call (start begin) (fresh_call 1 rules (start begin)) (call_of flow) (law 1 rules (start begin) flow.call suits) came)
  suits_on (stage.Running old) (stage.Running new) came suits =
      (suits.0, subst (λ n. Fits f.eq n (start suits.0) (call_of new)) (sym came.0) (fits_on f such old.call (start suits.0) (call_of old) (call_of new) suits.1 came.1))
  suits_on stage.Spent stage.Spent came suits = tt
  suits_on (stage.Fresh begin) stage.Spent came suits = tt
  suits_on (stage.Fresh begin) stage.Answered came suits = tt
  suits_on (stage.Running old) (stage.Fresh kept) came suits = absurd came
  suits_on (stage.Running old) stage.Spent came suits = tt
  suits_on (stage.Running old) stage.Answered came suits = tt
  suits_on stage.Spent (stage.Fresh kept) came suits = absurd came
  suits_on stage.Spent (stage.Running new) came suits = absurd came
  suits_on stage.Spent stage.Answered came suits = tt
  suits_on stage.Answered (stage.Fresh kept) came suits = absurd came
  suits_on stage.Answered (stage.Running new) came suits = absurd came
  suits_on stage.Answered stage.Spent came suits = tt
  suits_on stage.Answered stage.Answered came suits = tt

  pub suits_answer : (old : Stage A K V E) (answer : Answer K V E) → AnswersWith f such (called rules start) old answer → Suits f.eq start old → IsAnswerOf start answer
  suits_answer (stage.Fresh begin) answer by suits =
      (begin, fits_end f such by.0 (start begin) (fresh_call 1 rules (start begin)) answer (law 1 rules (start begin) by.0 suits) by.1)
  suits_answer (stage.Running old) answer by suits = (suits.0, fits_end f such old.call (start suits.0) (call_of old) answer suits.1 by)
  suits_answer stage.Spent answer by suits = absurd by
  suits_answer stage.Answered answer by suits = absurd by

-- ---- what is told of answers

module _ {V E : Type 0} where
  -- who is asked may give less
  told_weaker : (told other : Told V E → Type 0) → ((t : Told V E) → told t → other t) → (taken : Taken V E) → ToldSuch told taken → ToldSuch other taken
  told_weaker told other weaker (Answered t) h = weaker t h
  told_weaker told other weaker (Tested value replaced) h = h

  -- nothing is said of the test
  pub accords_told : (told : Told V E → Type 0) (so : V → Bool → Type 0) (taken : Taken V E) → Accords told so taken → ToldSuch told taken
  accords_told told so (Answered t) h = h
  accords_told told so (Tested value replaced) h = tt

module _ {A K V E : Type 0} (f : Facts K V) (such other : Taken V E → Type 0) (weaker : (taken : Taken V E) → such taken → other taken) (begins : A → Call K V E) where
  -- an answer of which less is said
  pub answers_weaker : (old : Stage A K V E) (answer : Answer K V E) → AnswersWith f such begins old answer → AnswersWith f other begins old answer
  answers_weaker (stage.Fresh begin) answer by = (by.0, ended_weaker f such other weaker by.0 (begins begin) (answers answer) by.1)
  answers_weaker (stage.Running old) answer by = ended_weaker f such other weaker old.call (call_of old) (answers answer) by
  answers_weaker stage.Spent answer by = absurd by
  answers_weaker stage.Answered answer by = absurd by

-- an answer of a cache with a fact is one of a cache without
pub answers_plain : {A K V E : Type 0} (f : Facts K V) (such : Taken V E → Type 0) (begins : A → Call K V E) (old : Stage A K V E) (answer : Answer K V E)
    → AnswersWith f such begins old answer → AnswersWith (plain V f.eq) such begins old answer
answers_plain f such begins (stage.Fresh begin) answer by = (by.0, ended_plain f such by.0 (begins begin) (answers answer) by.1)
answers_plain f such begins (stage.Running old) answer by = ended_plain f such old.call (call_of old) (answers answer) by
answers_plain f such begins stage.Spent answer by = absurd by
answers_plain f such begins stage.Answered answer by = absurd by

module _ {A K V E O : Type 0} (f : Facts K V) (such : Taken V E → Type 0) (told other : Told V E → Type 0) (weaker : (t : Told V E) → told t → other t)
    (taken : (t : Taken V E) → such t → ToldSuch other t) (begins : A → Call K V E) (output : Option K → Answer K V E → Option O) where
  less : (n : ℕ) (c : Call K V E) (answer : Answer K V E) → EndedWith (plain V f.eq) (ToldSuch told) n c (answers answer) → EndedWith (plain V f.eq) (ToldSuch other) n c (answers answer)
  less n c answer end = ended_weaker (plain V f.eq) (ToldSuch told) (ToldSuch other) (told_weaker told other weaker) n c (answers answer) end

  on : (n : ℕ) (c d : Call K V E) (answer : Answer K V E) → CameWith f such n c d → EndedWith (plain V f.eq) (ToldSuch other) n d (answers answer) → EndedWith (plain V f.eq) (ToldSuch other) n c (answers answer)
  on n c d answer came end = ended_on (plain V f.eq) (ToldSuch other) n c d (answers answer) (came_plain f (ToldSuch other) n c d (came_weaker f such (ToldSuch other) taken n c d came)) end

  -- A state still tells of each answer that its call may come to. By then who is asked may give less.
  pub tells_on : (old new : Stage A K V E) → CameOnWith f such begins old new → Tells f.eq other begins output old → Tells f.eq told begins output new
  tells_on (stage.Fresh begin) (stage.Fresh kept) came tells named answer by =
      tells named answer (by.0, less by.0 (begins begin) answer (subst (λ b. EndedWith (plain V f.eq) (ToldSuch told) by.0 (begins b) (answers answer)) came by.1))
  tells_on (stage.Fresh begin) (stage.Running flow) came tells named answer by =
      tells named answer (flow.call, on flow.call (begins begin) (call_of flow) answer came (less flow.call (call_of flow) answer by))
  tells_on (stage.Running old) (stage.Running new) came tells named answer by =
      tells named answer
      (on old.call (call_of old) (call_of new) answer came.1
      (less old.call (call_of new) answer (subst (λ n. EndedWith (plain V f.eq) (ToldSuch told) n (call_of new) (answers answer)) came.0 by)))
  tells_on (stage.Running old) (stage.Fresh kept) came tells named answer by = absurd came
  tells_on stage.Spent (stage.Fresh kept) came tells named answer by = absurd came
  tells_on stage.Spent (stage.Running new) came tells named answer by = absurd came
  tells_on stage.Answered (stage.Fresh kept) came tells named answer by = absurd came
  tells_on stage.Answered (stage.Running new) came tells named answer by = absurd came
  tells_on old stage.Spent came tells named answer by = absurd by
  tells_on old stage.Answered came tells named answer by = absurd by

-- one that has answered has nothing to tell
pub tells_over : {A K V E O : Type 0} (eq : K → K → Bool) (such : Told V E → Type 0) (begins : A → Call K V E) (output : Option K → Answer K V E → Option O) (new : Stage A K V E) → new ≡ stage.Answered
    → Tells eq such begins output new
tells_over {A} {K} {V} eq such begins output new over named answer by = absurd (subst (λ s. AnswersWith (plain V eq) (ToldSuch such) begins s answer) over by)

-- what stores a value where there is none answers an entry
pub or_inserts : {A K V E : Type 0} (key : A → K) (value : A → V) (named : Option K) (given : Answer K V E) → IsAnswerOf (λ begin. begins.OrInsert (key begin) (value begin)) given
    → IsSome (entry_in named given)
or_inserts key value named (answer.Loaded v fresh) is = refl
or_inserts key value named _ is = absurd (false≢true is.1)

-- so a state of it tells of each answer
pub or_inserts_tell : {A K V E : Type 0} (eq : K → K → Bool) (law : ShapesFit K V E eq) (rules : Rules) (key : A → K) (value : A → V) (made : Stage A K V E) (begin : A) → made ≡ stage.Fresh begin
    → Tells eq NoAnswer (called rules (λ it. begins.OrInsert (key it) (value it))) entry_in made
or_inserts_tell {A} {K} {V} {E} eq law rules key value made begin is named given by =
    let start : A → Start K V = λ it. begins.OrInsert (key it) (value it) in
    let such : Taken V E → Type 0 = ToldSuch NoAnswer in
    or_inserts key value named given (suits_answer (plain V eq) law such rules start (stage.Fresh begin) given (subst (λ s. AnswersWith (plain V eq) such (called rules start) s given) is by) refl)

-- what an answer leaves
pub when_ok : {A F : Type 0} (P : Type 0) (r : Result A F) (a : A) → r ≡ Ok a → OnOk r P → P
when_ok P r a is h = subst (λ x. OnOk x P) is h
