-- How a step leaves its call goes by what it replies.
use Rattle.std.proofs.Common.{◌≡◌, ℕ, zero, suc, ◌+◌, ◌==◌, Bool, true, false, List, [], ◌∷◌, ◌++◌, map, Option, Some, None, is_some, refl, sym, ap, ◌∙◌}
use Rattle.moka_hist.specs.State.{State, World, Call}
use Rattle.moka_hist.specs.Plan.{Item, Aim, lists_from}
use Rattle.moka_hist.specs.Plan as plan
use Rattle.moka_hist.specs.Next.{Next, goes}
use Rattle.moka_hist.specs.Looking.{hits, misses, keeps, finds_pair}
use Rattle.moka_hist.specs.Loading.{after_abort, after_read, after_told, retries}
use Rattle.moka_hist.specs.Computing.{after_read_key, after_told_op}
use Rattle.moka_hist.specs.Maintenance.{carrying}
use Rattle.moka_hist.specs.Step.{Step, next_of}
use Rattle.moka_hist.specs.Run.{Any, Goings}
use Rattle.moka_hist.specs.declared.accesses.Turn.{Turn}
use Rattle.moka_hist.specs.declared.accesses.Turn.TheVariants as turn
use Rattle.moka_hist.specs.declared.events.Told.{Told}
use Rattle.moka_hist.specs.declared.events.Told.TheVariants as answer
use Rattle.moka_hist.specs.declared.loads.Compute.{Compute}
use Rattle.moka_hist.specs.declared.loads.Load.{Load}
use Rattle.moka_hist.specs.declared.loads.Sought.{Sought}
use Rattle.moka_hist.specs.declared.records.Stored.{Stored}
use Rattle.moka_hist.specs.declared.replies.Answer.TheVariants as said
use Rattle.moka_hist.specs.declared.visits.Found.TheVariants as found
use Rattle.moka_hist.specs.declared.visits.Settled.{Settled}
use Rattle.moka_hist.specs.declared.visits.Settled.TheVariants as settled
use Rattle.moka_laws.proofs.Counting.{put_here, put_there}
use Rattle.moka_laws.proofs.Outcomes.{Outcomes, outcomes, passes_by}
use Rattle.moka_laws.proofs.Rules.{chosen_by, kept_next, loaded_plans, put_plans, read_key_next, told_op_next}
use Rattle.moka_laws.proofs.StepCases.{OnStep, step_cases}
use Rattle.moka_callers.specs.Living.{ModesByReplies, mode_left, mode_of}

module _ {K V E : Type 0} where
  -- the step doesn't answer
  abbrev pub goes_on : Turn K V E → Bool
  goes_on turn.Going = true
  goes_on turn.Wait = true
  goes_on (turn.Ask ask) = true
  goes_on (turn.Answer answer) = false
  goes_on (turn.Item key value) = true

  abbrev Fits : Next K V E → Type 0
  Fits next = mode_of next.left ≡ mode_left next.turn

  goes_fit : (c : Call K V E) (rest : List (Item K V E)) → Fits (goes c rest)
  goes_fit c (plan.Reply a ∷ []) = refl
  goes_fit c _ = refl

  module _ (c : Call K V E) where
    keeps_fit : Fits (keeps c)
    keeps_fit = kept_next Fits c (λ off. refl) (λ on. refl)

    misses_fit : (aim : Aim K V) → Fits (misses c aim)
    misses_fit (plan.To_show form) = refl
    misses_fit (plan.To_insert key value) =
        put_plans (λ p. Fits (goes c p)) c.rules key value
        (plan.Reply (said.Loaded value true) ∷ []) refl refl
    misses_fit (plan.To_evict key stamp cause) = keeps_fit
    misses_fit _ = refl

    finds_fit : (aim : Aim K V) (there : K) (stored : Stored V) → Fits (finds_pair c aim there stored)
    finds_fit (plan.To_evict key stamp cause) there stored =
        chosen_by Fits c key stamp cause there stored (λ other. keeps_fit) (λ same. refl)
    finds_fit _ there stored = refl

    hits_fit : (aim : Aim K V) (there : K) (value : V) → Fits (hits c aim there value)
    hits_fit (plan.To_own sought) there value = refl
    hits_fit (plan.To_compute compute) there value = refl
    hits_fit (plan.To_evict key stamp cause) there value = refl
    hits_fit _ there value = refl

    read_fits : (sought : Sought K) (with : Settled V E) →
        Fits (after_read c sought (found.ReadSettled with))
    read_fits sought settled.Aborted = by (c.aborts + 1 == retries) refl
      where
        by : (b : Bool) → (c.aborts + 1 == retries) ≡ b → Fits (after_abort c sought)
        by true e = rw e refl
        by false e = rw e refl
    read_fits sought _ = refl

    read_key_fits : (compute : Compute K) (with : Settled V E) →
        Fits (after_read_key c compute (found.ReadSettled with))
    read_key_fits compute with = read_key_next Fits c compute with refl refl

    told_fits : (load : Load K) (given : Told V E) →
        Fits (after_told c load (found.TakeTold (Some given)))
    told_fits load (answer.Value value) =
        loaded_plans (λ p. Fits (goes c p)) c.rules load value refl refl refl
    told_fits load _ = refl

    told_op_fits : (compute : Compute K) (pair : Option (K × V)) (given : Told V E) →
        Fits (after_told_op c compute pair (found.TakeTold (Some given)))
    told_op_fits compute pair given =
        told_op_next Fits c compute pair given (λ a. refl) (λ value able off. refl)
        (λ value able on. refl) (λ off. refl) (λ on. refl) refl

  module _ (eq : K → K → Bool) (w : World K V E) (n : ℕ) (c : Call K V E) where
    abbrev After : World K V E → Next K V E → Type 0
    After new next = Fits next

    on_item : (item : Item K V E) (rest : List (Item K V E)) → Outcomes eq After w n c item rest
    on_item plan.Drain rest = (λ none. goes_fit c rest, λ x xs some. refl, λ x number xs some. refl)
    on_item (plan.Notice key old cause upsert) rest = (λ off. goes_fit c rest, λ on. refl)
    on_item (plan.Post write) rest = (λ room. goes_fit c rest, λ full. refl)
    on_item plan.Apply rest = (λ none. goes_fit c rest, λ y ys some. refl)
    on_item (plan.Get aim key) rest =
        (λ more. refl, λ none. misses_fit c aim, λ k stored some. finds_fit c aim k stored)
    on_item (plan.Judge aim key stored) rest =
        (λ seen. hits_fit c aim key stored.value, λ unseen. misses_fit c aim)
    on_item (plan.Own sought) rest =
        (λ able none. refl, λ disabled none. refl, λ owner some. refl)
    on_item (plan.Own_key compute) rest =
        ((λ able none. refl, λ disabled none. refl), λ owner some. refl)
    on_item (plan.Own_alone key) rest =
        ((λ able none. refl, λ disabled none. refl), λ owner some. (λ able. refl, λ disabled. refl))
    on_item (plan.Read sought) rest = (λ none. refl, λ with some. read_fits c sought with)
    on_item (plan.Read_key compute) rest =
        (λ none. refl, λ with some. read_key_fits c compute with)
    on_item (plan.Settle with) rest = goes_fit c rest
    on_item (plan.Ask load) rest = refl
    on_item (plan.Ask_op compute pair) rest = refl
    on_item (plan.Told load) rest = (λ none. refl, λ given some. told_fits c load given)
    on_item (plan.Told_op compute pair) rest =
        (λ none. refl, λ given some. told_op_fits c compute pair given)
    on_item (plan.Holds key stamp cause there stored) rest = (λ holds. refl, λ not. keeps_fit c)
    on_item (plan.Moment (plan.To_store key value)) rest = refl
    on_item (plan.Moment (plan.To_take_out removal key)) rest = refl
    on_item (plan.Write key value moment) rest =
        (λ more. refl, λ off old. refl, λ on. refl, λ k old on some. refl)
    on_item (plan.Out removal key) rest = (
      λ more. refl,
      λ off none. refl,
      λ on none. refl,
      λ k old off some. refl,
      λ k old on some. refl,
    )
    on_item (plan.Register test) rest = refl
    on_item (plan.List_keys part) rest =
        (λ more. refl, λ listed keys is gives. goes_fit c (map plan.Find keys ++ rest))
    on_item (plan.Find key) rest = (
      λ more. refl,
      λ none. goes_fit c rest,
      λ k stored some none. refl,
      λ k stored ids some is. refl,
    )
    on_item (plan.Scan there stored) rest = (λ seen. refl, λ unseen. goes_fit c rest)
    on_item (plan.Candidates parts) rest = (
      λ none. refl,
      λ id more some. goes_fit (carrying c (id ∷ more)) (lists_from 0 parts (plan.Retire ∷ [])),
    )
    on_item (plan.Strike there stored) rest = goes_fit (carrying c _) rest
    on_item plan.Retire rest = refl
    on_item (plan.Reply a) rest = refl
    on_item item rest = passes_by eq After w n c item rest tt (λ d a. goes_fit c rest) refl

    on_plan : (plan : List (Item K V E)) → OnStep eq After w n c plan
    on_plan [] = refl
    on_plan (item ∷ rest) = outcomes eq After w n c item rest (on_item item rest)

module _ {K V E : Type 0} (eq : K → K → Bool) where
  -- what the call that made the step is then goes by the reply
  pub modes_so : ModesByReplies K V E eq
  modes_so s t n turn step = step_cases eq (After eq s.world n step.call)
      (λ v r. mode_of (v.calls n) ≡ mode_left r) s t n turn step
      (on_plan eq s.world n step.call step.call.plan)
      (λ w next fits. ap mode_of (put_here s.calls n next.left) ∙ fits)

  mode_some : (o : Option (Call K V E)) → is_some (mode_of o) ≡ is_some o
  mode_some None = refl
  mode_some (Some c) = refl

  goes_mode : (turn : Turn K V E) → is_some (mode_left turn) ≡ goes_on turn
  goes_mode turn.Going = refl
  goes_mode turn.Wait = refl
  goes_mode (turn.Ask ask) = refl
  goes_mode (turn.Answer answer) = refl
  goes_mode (turn.Item key value) = refl

  -- so it is live exactly where it didn't answer
  pub live_still : (s t : State K V E) (n : ℕ) (turn : Turn K V E) → Step eq s n turn t →
      is_some (t.calls n) ≡ goes_on turn
  live_still s t n turn step =
      sym (mode_some (t.calls n)) ∙ ap is_some (modes_so s t n turn step) ∙ goes_mode turn

  -- and the others are as they were
  pub others_still : (s t : State K V E) (n m : ℕ) (turn : Turn K V E) → (n == m) ≡ false →
      Step eq s n turn t → t.calls m ≡ s.calls m
  others_still s t n m turn other step =
      ap (λ (v : State K V E). v.calls m) step.after ∙
      put_there s.calls n (next_of n step.call step.given).left m other

  pub others_going : (k : ℕ) (s t : State K V E) (n m : ℕ) → (n == m) ≡ false →
      Goings eq Any k s n t → t.calls m ≡ s.calls m
  unfolding Goings
  others_going zero s t n m other going = ap (λ (v : State K V E). v.calls m) going
  others_going (suc k) s t n m other going =
      others_still going.0 t n m _ other going.2 ∙ others_going k s going.0 n m other going.1
