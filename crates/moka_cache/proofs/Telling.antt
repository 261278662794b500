-- A compute answers what follows from what it is told, so its state tells of each answer.
use Rattle.std.proofs.Common.{◌≡◌, ◌⊎◌, ℕ, Bool, true, false, List, [], ◌∷◌, ◌++◌, Option, Some, None, IsOk, IsSome, Result, Err, Contains, inl, inr, refl, sym, ap, ◌∙◌, subst, arith}
use Rattle.std.proofs.lemmas.Bool.{false≢true}
use Rattle.std.proofs.lemmas.List.Elements.{Contains-append_cases, Contains-push_cases}
use Rattle.moka_hist.specs.Entries.{put_answer, removed_value, unchanged}
use Rattle.moka_hist.specs.Next.{Next, answers}
use Rattle.moka_hist.specs.Run.{fresh_call}
use Rattle.moka_hist.specs.State.{Call, DeskPart, World}
use Rattle.moka_hist.specs.Step.{Access, Gets, On_table, On_desk, access_of}
use Rattle.moka_hist.specs.Visits.{finds}
use Rattle.moka_hist.specs.declared.accesses.Got.{Got}
use Rattle.moka_hist.specs.declared.events.Op.{Op}
use Rattle.moka_hist.specs.declared.events.Op.TheVariants as op
use Rattle.moka_hist.specs.declared.events.Start.{Start}
use Rattle.moka_hist.specs.declared.events.Start.TheVariants as begins
use Rattle.moka_hist.specs.declared.events.Told.{Told}
use Rattle.moka_hist.specs.declared.events.Told.TheVariants as told
use Rattle.moka_hist.specs.declared.replies.Answer.{Answer}
use Rattle.moka_hist.specs.declared.rules.Rules.{Rules}
use Rattle.moka_hist.specs.declared.visits.Found.{Found}
use Rattle.moka_hist.specs.declared.visits.Found.TheVariants as found
use Rattle.moka_hist.specs.declared.visits.Visit.{Visit}
use Rattle.moka_hist.specs.declared.visits.Visit.TheVariants as visit
use Rattle.moka_shapes.specs.Computes.{ComputesTell, Follows, other_goes, taken}
use Rattle.moka_laws.specs.Starts.{computed_key, is_alone}
use Rattle.moka_kept.specs.Facts.{Facts, plain}
use Rattle.moka_kept.specs.Paths.{EndedWith, LeadsWith}
use Rattle.moka_kept.specs.Taking.{Answered, Taken, TookBy, TookSuch}
use Rattle.moka_cache.specs.Asked.{TellsDone, TellsPut, ToldSuch}
use Rattle.moka_cache.specs.Computes.{MayGive}
use Rattle.moka_cache.specs.Entries.{computed_in, stored_in, try_computed_in}
use Rattle.moka_cache.specs.Stages.{AnswersWith}
use Rattle.moka_cache.specs.Starts.{called}
use Rattle.moka_cache.specs.Suits.{Tells}
use Rattle.moka_cache.specs.declared.by_compute.ByCompute.{ByCompute}
use Rattle.moka_cache.specs.declared.by_compute.ComputeStage.TheVariants as compute
use Rattle.moka_cache.specs.declared.stage.Stage.{Stage}
use Rattle.moka_cache.specs.declared.stage.Stage.TheVariants as stage
use Rattle.moka_cache.proofs.Suiting.{may_give, may_lead, what_gave}

-- what follows from either
pub either : (P Q R : Type 0) → (P → R) → (Q → R) → P ⊎ Q → R
either P Q R f g (inl p) = f p
either P Q R f g (inr q) = g q

contains_none : {A : Type 0} (x : A) → Contains [] x → ⊥
contains_none x h = omega (arith, h.1)

contains_one : {A : Type 0} (x y : A) → Contains (x ∷ []) y → x ≡ y
contains_one x y h = either (Contains [] y) (x ≡ y) (x ≡ y) (λ none. absurd (contains_none y none)) (λ e. e) (Contains-push_cases [] x y h)

-- ---- what was told on a way

-- an answer to an own ask was found
abbrev is_told : {V E : Type 0} → Found V E → Bool
is_told (found.TakeTold told) = true
is_told _ = false

module _ {K V E : Type 0} (such : Taken V E → Type 0) where
  -- only the visit that takes it finds it
  such_found : (w : DeskPart K V E) (made : Visit K V E) (t : Told V E) → finds w made ≡ found.TakeTold (Some t) → TookSuch made (found.TakeTold (Some t)) such → such (Answered t)
  such_found w (visit.TakeTold n) t is took = took
  such_found w _ t is took = absurd (false≢true (ap is_told is))

  module _ (f : Facts K V) (n : ℕ) where
    is_such : (a : Access K V E) (w after : World K V E) (given : Got K V E) (t : Told V E) → Gets f.eq n w a given after → TookBy a given such → given ≡ taken t → such (Answered t)
    is_such a w after given t gets took is = now a (subst (λ (g : Got K V E). Gets f.eq n w a g after) is gets) (subst (λ (g : Got K V E). TookBy a g such) is took) where
      now : (a : Access K V E) → Gets f.eq n w a (taken t) after → TookBy a (taken t) such → such (Answered t)
      now (On_table operation) gets took = absurd gets
      now (On_desk made) gets took = such_found w.desk made t (sym gets.0) took

    such_on : (c : Call K V E) (path : List (Access K V E × Got K V E)) (d : Call K V E) → LeadsWith f such n c path d → (t : Told V E) → Contains (what_gave path) (taken t) → such (Answered t)
    such_on c [] d led t there = absurd (contains_none (taken t) there)
    such_on c (made ∷ more) d led t there =
        either (Contains (made.1 ∷ []) (taken t)) (Contains (what_gave more) (taken t)) (such (Answered t))
        (λ first. is_such made.0 led.2.gave.world led.2.gave.after made.1 t (subst (λ (a : Access K V E). Gets f.eq n led.2.gave.world a made.1 led.2.gave.after) (sym led.1) led.2.gave.gets) led.4 (contains_one made.1 (taken t) first))
        (λ later. such_on led.0 more d led.5 t later)
        (Contains-append_cases (made.1 ∷ []) (what_gave more) (taken t) there)

-- A compute of this start and key answers so that is told such: it follows from something that is
-- such, or is what the key has, where it goes alone.
abbrev AnswersSuch : {K V E : Type 0} → (Told V E → Type 0) → Start K V → K → Answer K V E → Type 0
AnswersSuch {K} {V} {E} such begin key said =
    ((t : Told V E) × such t × Follows key t said) ⊎ ((is_alone begin ≡ true) × ((pair : Option (K × V)) × (said ≡ unchanged key pair)))

module _ {K V E : Type 0} (f : Facts K V) (such : Taken V E → Type 0) (n : ℕ) (c : Call K V E) (next : Next K V E) where
  -- what is told on a way to an answer is such
  pub such_told : (end : EndedWith f such n c next) (t : Told V E) → Contains (what_gave end.came.0 ++ end.given ∷ []) (taken t) → such (Answered t)
  such_told end t there =
      let path : List (Got K V E) = what_gave end.came.0 in
      either (Contains path (taken t)) (Contains (end.given ∷ []) (taken t)) (such (Answered t))
      (λ before. such_on such f n c end.came.0 end.call end.came.1 t before)
      (λ last. is_such such f n (access_of n end.call) end.last.gave.world end.last.gave.after end.given t end.last.gave.gets end.took (contains_one end.given (taken t) last))
      (Contains-append_cases path (end.given ∷ []) (taken t) there)

module _ {K V E : Type 0} (f : Facts K V) (law : ComputesTell K V E f.eq) (such : Taken V E → Type 0) (rules : Rules) (begin : Start K V) (key : K)
    (computes : computed_key begin ≡ Some key) (n : ℕ) (said : Answer K V E) where
  answers_such : EndedWith f such n (fresh_call 1 rules begin) (answers said) → AnswersSuch (λ t. such (Answered t)) begin key said
  answers_such end =
      let path : List (Got K V E) = what_gave end.came.0 in
      either ((t : Told V E) × Contains (path ++ end.given ∷ []) (taken t) × Follows key t said)
      ((is_alone begin ≡ true) × Contains (path ++ end.given ∷ []) other_goes × ((pair : Option (K × V)) × (said ≡ unchanged key pair)))
      (AnswersSuch (λ t. such (Answered t)) begin key said) (λ by. inl (by.0, such_told f such n (fresh_call 1 rules begin) (answers said) end by.0 by.1, by.2)) (λ alone. inr (alone.0, alone.2))
      (law 1 rules begin key n path end.call end.given said computes (may_lead f such n (fresh_call 1 rules begin) end.came.0 end.call end.came.1)
      (may_give f.eq n end.call end.given end.last.gave) (sym (ap (λ (x : Next K V E). x.turn) end.follows)))

-- ---- what is stated of each answer

-- P holds of all that a compute does which is told what is to be done
record Does {K V E : Type 0} (key : K) (P : Answer K V E → Type 0) : Type 0 where
  kept : (pair : Option (K × V)) → P (unchanged key pair)
  put : (pair : Option (K × V)) (value : V) → P (put_answer key pair value)
  out : (value : V) → P (removed_value key value)

-- so it holds of what follows from that
does_follow : {K V E : Type 0} (key : K) (P : Answer K V E → Type 0) (done : Op V) (said : Answer K V E) → Does key P → Follows key (told.Op done) said → P said
does_follow key P (op.Put value) said does by = subst P (sym by.1) (does.put by.0 value)
does_follow key P op.Nop said does by = subst P (sym by.1) (does.kept by.0)
does_follow {K} {V} {E} key P op.Remove said does by =
    either ((value : V) × (said ≡ removed_value key value)) (said ≡ unchanged key None) (P said)
    (λ out. subst P (sym out.1) (does.out out.0)) (λ none. subst P (sym none) (does.kept None)) by

module _ {K : Type 0} (V E : Type 0) (key : K) where
  computed_kept : (pair : Option (K × V)) → IsSome (computed_in {E = E} (unchanged key pair))
  computed_kept None = refl
  computed_kept (Some pair) = refl

  computed_put : (pair : Option (K × V)) (value : V) → IsSome (computed_in {E = E} (put_answer key pair value))
  computed_put None value = refl
  computed_put (Some pair) value = refl

  does_computed : Does {V = V} {E = E} key (λ a. IsSome (computed_in a))
  does_computed = record { kept = computed_kept; put = computed_put; out = λ value. refl }

  tried_kept : (pair : Option (K × V)) → IsSome (try_computed_in {E = E} (unchanged key pair))
  tried_kept None = refl
  tried_kept (Some pair) = refl

  tried_put : (pair : Option (K × V)) (value : V) → IsSome (try_computed_in {E = E} (put_answer key pair value))
  tried_put None value = refl
  tried_put (Some pair) value = refl

  does_tried : Does {V = V} {E = E} key (λ a. IsSome (try_computed_in a))
  does_tried = record { kept = tried_kept; put = tried_put; out = λ value. refl }

  stored_put : (pair : Option (K × V)) (value : V) → IsSome (stored_in {E = E} (put_answer key pair value))
  stored_put None value = refl
  stored_put (Some pair) value = refl

module _ {K V E : Type 0} (such : Result (Op V) E → Type 0) (key : K) (said : Answer K V E) where
  -- one that is told no error has done something
  computed : ((r : Result (Op V) E) → such r → IsOk r) → (t : Told V E) → TellsDone such t → Follows key t said → IsSome (computed_in said)
  computed fine (told.Op done) tells by = does_follow key (λ a. IsSome (computed_in a)) done said (does_computed V E key) by
  computed fine (told.Err error) tells by = absurd (false≢true (fine (Err error) tells))
  computed fine (told.Value value) tells by = absurd tells
  computed fine told.Nothing tells by = absurd tells
  computed fine told.Done tells by = absurd tells
  computed fine told.Off tells by = absurd tells

  -- one that may be has done something, or failed
  tried : (t : Told V E) → TellsDone such t → Follows key t said → IsSome (try_computed_in said)
  tried (told.Op done) tells by = does_follow key (λ a. IsSome (try_computed_in a)) done said (does_tried V E key) by
  tried (told.Err error) tells by = subst (λ a. IsSome (try_computed_in a)) (sym by) refl
  tried (told.Value value) tells by = absurd tells
  tried told.Nothing tells by = absurd tells
  tried told.Done tells by = absurd tells
  tried told.Off tells by = absurd tells

  -- and one that is told a value has stored it
  stored : (t : Told V E) → TellsPut such t → Follows key t said → IsSome (stored_in said)
  stored (told.Value value) tells by = subst (λ a. IsSome (stored_in a)) (sym by.1) (stored_put V E key by.0 value)
  stored (told.Op done) tells by = absurd tells
  stored (told.Err error) tells by = absurd tells
  stored told.Nothing tells by = absurd tells
  stored told.Done tells by = absurd tells
  stored told.Off tells by = absurd tells

-- ---- of states

module _ {A K V E O : Type 0} (eq : K → K → Bool) (law : ComputesTell K V E eq) (such : Told V E → Type 0) (rules : Rules) (start : A → Start K V) (key : A → K)
    (computes : (begin : A) → computed_key (start begin) ≡ Some (key begin)) (output : Option K → Answer K V E → Option O)
    (states : (begin : A) (named : Option K) (said : Answer K V E) → AnswersSuch such (start begin) (key begin) said → IsSome (output named said)) where
  tells_such : (made : Stage A K V E) (begin : A) → made ≡ stage.Fresh begin → Tells eq such (called rules start) output made
  tells_such made begin is named said by =
      let ended : AnswersWith (plain V eq) (ToldSuch such) (called rules start) (stage.Fresh begin) said = subst (λ s. AnswersWith (plain V eq) (ToldSuch such) (called rules start) s said) is by in
      states begin named said (answers_such (plain V eq) law (ToldSuch such) rules (start begin) (key begin) (computes begin) ended.0 said ended.1)

-- one that goes with others was told something
was_told : {K V E P : Type 0} (begin : Start K V) (under : K) (said : Answer K V E) (tells : Told V E → Type 0) → is_alone begin ≡ false → ((t : Told V E) → tells t → Follows under t said → P)
    → AnswersSuch tells begin under said → P
was_told {K} {V} {E} {P} begin under said tells others follows by =
    either ((t : Told V E) × tells t × Follows under t said) ((is_alone begin ≡ true) × ((pair : Option (K × V)) × (said ≡ unchanged under pair))) P
    (λ one. follows one.0 one.1 one.2) (λ alone. absurd (false≢true (sym others ∙ alone.0))) by

module _ {A K V E : Type 0} (eq : K → K → Bool) (law : ComputesTell K V E eq) (such : Result (Op V) E → Type 0) (rules : Rules) (key : A → K) where
  pub compute_tells : ((r : Result (Op V) E) → such r → IsOk r) → (made : Stage A K V E) (begin : A) → made ≡ stage.Fresh begin
      → Tells eq (TellsDone such) (called rules (λ it. begins.Compute (key it))) (λ named said. computed_in said) made
  compute_tells fine = tells_such eq law (TellsDone such) rules (λ it. begins.Compute (key it)) key (λ begin. refl) (λ named said. computed_in said)
      (λ begin named said by. was_told (begins.Compute (key begin)) (key begin) said (TellsDone such) refl (computed such (key begin) said fine) by)

  pub try_tells : (made : Stage A K V E) (begin : A) → made ≡ stage.Fresh begin
      → Tells eq (TellsDone such) (called rules (λ it. begins.TryCompute (key it))) (λ named said. try_computed_in said) made
  try_tells = tells_such eq law (TellsDone such) rules (λ it. begins.TryCompute (key it)) key (λ begin. refl) (λ named said. try_computed_in said)
      (λ begin named said by. was_told (begins.TryCompute (key begin)) (key begin) said (TellsDone such) refl (tried such (key begin) said) by)

  pub alone_tells : (made : Stage A K V E) (begin : A) → made ≡ stage.Fresh begin
      → Tells eq (TellsDone such) (called rules (λ it. begins.ComputeAlone (key it))) (λ named said. try_computed_in said) made
  alone_tells = tells_such eq law (TellsDone such) rules (λ it. begins.ComputeAlone (key it)) key (λ begin. refl) (λ named said. try_computed_in said)
      (λ begin named said by.
      either ((t : Told V E) × TellsDone such t × Follows (key begin) t said) ((is_alone {K = K} {V = V} (begins.ComputeAlone (key begin)) ≡ true) × ((pair : Option (K × V)) × (said ≡ unchanged (key begin) pair)))
      (IsSome (try_computed_in said)) (λ one. tried such (key begin) said one.0 one.1 one.2)
      (λ alone. subst (λ a. IsSome (try_computed_in a)) (sym alone.1.1) (tried_kept V E (key begin) alone.1.0)) by)

  pub upsert_tells : (made : Stage A K V E) (begin : A) → made ≡ stage.Fresh begin
      → Tells eq (TellsPut such) (called rules (λ it. begins.Upsert (key it))) (λ named said. stored_in said) made
  upsert_tells = tells_such eq law (TellsPut such) rules (λ it. begins.Upsert (key it)) key (λ begin. refl) (λ named said. stored_in said)
      (λ begin named said by. was_told (begins.Upsert (key begin)) (key begin) said (TellsPut such) refl (stored such (key begin) said) by)

-- a compute that gives no error gives none while it is fresh
pub fresh_fine : {C V E : Type 0} (gives : C → Result (Op V) E → Type 0) (asked : ByCompute C) (fresh : C) → asked.stage ≡ compute.Fresh fresh → ((r : Result (Op V) E) → gives fresh r → IsOk r)
    → (r : Result (Op V) E) → MayGive gives asked.stage r → IsOk r
fresh_fine gives asked fresh is fine r may = fine r (subst (λ s. MayGive gives s r) is may)
