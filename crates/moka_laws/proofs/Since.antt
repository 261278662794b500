-- What a call has done since it was started: how often it read that an owner was dropped, and asked its
-- replace test.
use Rattle.std.proofs.Common.{◌≡◌, ℕ, zero, suc, ◌+◌, ◌≤◌, ◌==◌, nat_lt, Bool, true, false, cond, ◌&&◌, List, [], ◌∷◌, Option, Some, None, is_some, MatchBool, MatchOption, ◌⊎◌, inl, inr, refl, sym, ap, ◌∙◌, subst, arith, map, ◌++◌, unwrap_or}
use Rattle.std.specs.Option.{option_map_or}
use Rattle.moka_hist.specs.Dropping.{dropped}
use Rattle.moka_hist.specs.State.{State, World, Call, DeskPart}
use Rattle.moka_hist.specs.Plan.{Item, Aim, plan_of, put, loaded, lists_from}
use Rattle.moka_hist.specs.Plan as plan
use Rattle.moka_hist.specs.Next.{Next, goes, waits}
use Rattle.moka_hist.specs.Looking.{hits, misses, keeps, kept_rest, finds_pair}
use Rattle.moka_hist.specs.Loading.{after_read, after_abort, after_told, retries}
use Rattle.moka_hist.specs.Step.{Step, replace_of}
use Rattle.moka_hist.specs.Telling.{is_asked}
use Rattle.moka_hist.specs.Telling.{told as tells}
use Rattle.moka_hist.specs.Visits.{is_seen, settlement_for, struck}
use Rattle.moka_hist.specs.Run.{Goings, Steps, Polls, Happens, Any, IsReached, Refuses, Becomes, Drops, at_moment, started, with_desk, last_call, fresh_call}
use Rattle.moka_hist.specs.declared.accesses.Turn.{Turn}
use Rattle.moka_hist.specs.declared.accesses.Turn.TheVariants as turn
use Rattle.moka_hist.specs.declared.events.Event.{Event}
use Rattle.moka_hist.specs.declared.events.Event.TheVariants as event
use Rattle.moka_hist.specs.declared.events.Start.{Start}
use Rattle.moka_hist.specs.declared.events.Told.{Told}
use Rattle.moka_hist.specs.declared.events.Told.TheVariants as told
use Rattle.moka_hist.specs.declared.loads.Load.{Load}
use Rattle.moka_hist.specs.declared.loads.Sought.{Sought}
use Rattle.moka_hist.specs.declared.records.Mode.{Mode}
use Rattle.moka_hist.specs.declared.records.Mode.TheVariants as mode
use Rattle.moka_hist.specs.declared.records.Stored.{Stored}
use Rattle.moka_hist.specs.declared.replies.Answer.TheVariants as answer
use Rattle.moka_hist.specs.declared.replies.Reply.{Reply}
use Rattle.moka_hist.specs.declared.replies.Reply.TheVariants as reply
use Rattle.moka_hist.specs.declared.replies.Refusal.{Refusal}
use Rattle.moka_hist.specs.declared.rules.Rules.{Rules}
use Rattle.moka_hist.specs.declared.visits.Settled.{Settled}
use Rattle.moka_hist.specs.declared.visits.Settled.TheVariants as settled
use Rattle.moka_hist.specs.declared.visits.Found.TheVariants as found
use Rattle.moka_laws.specs.Loads.{is_aborted, is_reading, reads_aborted, test_asked, asks_test, AbortsAreCounted, TestsAreTwo}
use Rattle.moka_laws.specs.Starting.{LeavesAlone, Leads, Way, WasStarted}
use Rattle.moka_laws.specs.Starting as way
use Rattle.moka_laws.proofs.Counting.{none_some, some_same, put_here, put_there, differ}
use Rattle.moka_hist.specs.Writing.{said, nothing_answer, removed_answer}
use Rattle.moka_hist.specs.declared.replies.Answer.{Answer}
use Rattle.moka_laws.proofs.Weights.{weigh, weigh_call, weigh_goes, weigh_said}
use Rattle.moka_laws.proofs.Following.{no_leads}
use Rattle.moka_laws.proofs.Rules.{put_plans, loaded_plans, kept_next, chosen_by, chosen_next, IsFresh, Disabled, fresh_plan, read_key_next, told_op_next, Walks_over}
use Rattle.moka_laws.proofs.Starting.{begins_so}
use Rattle.moka_laws.proofs.Steady.{step_calls, step_last}
use Rattle.moka_laws.proofs.StepCases.{OnStep, step_cases}
use Rattle.moka_laws.proofs.Outcomes.{Outcomes, outcomes, passes_on}
use Rattle.moka_hist.specs.declared.loads.Compute.{Compute}
use Rattle.moka_hist.specs.Computing.{after_told_op, after_read_key}
use Rattle.moka_laws.proofs.Walks.{weigh_walk, weigh_finds, walk_is_walk, weigh_retiring}
use Rattle.moka_hist.specs.Maintenance.{carrying}

-- ---- how often the test may still be asked

abbrev look_tests : {K V : Type 0} → Aim K V → ℕ
look_tests (plan.To_load sought) = 2
look_tests (plan.To_own sought) = 1
look_tests _ = 0

-- a test is asked at most once by a look
test_once : (o : Option ℕ) → cond {A = ℕ} (is_some o) 1 0 ≤ 1
test_once None = omega arith
test_once (Some test) = omega arith

module _ {K V E : Type 0} where
  abbrev tests : Item K V E → ℕ
  tests (plan.Get aim key) = look_tests aim
  tests (plan.Judge aim key stored) = look_tests aim
  tests (plan.Own sought) = 1
  tests (plan.Read sought) = 1
  tests _ = 0

  keeps_tests : (c : Call K V E) → weigh_call tests (keeps c).left ≡ 0
  keeps_tests c = kept_next (λ v. weigh_call tests v.left ≡ 0) c (λ off. refl) (λ on. refl)

  misses_tests : (c : Call K V E) (aim : Aim K V) → weigh_call tests (misses c aim).left ≤ look_tests aim
  misses_tests c (plan.To_insert key value) =
      put_plans (λ p. weigh_call tests (goes c p).left ≤ 0) c.rules key value _ (omega arith)
      (omega arith)
  misses_tests c (plan.To_evict key stamp cause) = omega (arith, keeps_tests c)
  misses_tests c _ = omega arith

  unseen_tests : (c : Call K V E) (d : DeskPart K V E) (aim : Aim K V) (key : K) (stored : Stored V) →
      is_seen d (replace_of aim) key stored ≡ false →
      weigh_call tests (misses c aim).left + cond (is_some (replace_of aim)) 1 0 ≤ look_tests aim
  unseen_tests c d (plan.To_load sought) key stored e = omega (arith, test_once sought.replace)
  unseen_tests c d (plan.To_own sought) key stored e = omega (arith, test_once sought.replace)
  unseen_tests c d aim key stored e = omega (arith, misses_tests c aim)

  finds_tests : (c : Call K V E) (aim : Aim K V) (there : K) (stored : Stored V) →
      weigh_call tests (finds_pair c aim there stored).left ≤ look_tests aim
  finds_tests c (plan.To_evict key stamp cause) there stored =
      chosen_next (λ v. weigh_call tests v.left ≤ 0) c key stamp cause there stored
      (λ off. omega arith) (λ on. omega arith) (omega arith)
  finds_tests c _ there stored = omega arith

  read_tests : (c : Call K V E) (sought : Sought K) (with : Settled V E) → 1 ≤ weigh tests c.plan →
      weigh_call tests (after_read c sought (found.ReadSettled with)).left ≤ weigh tests c.plan
  read_tests c sought settled.Aborted h = by (c.aborts + 1 == retries) refl
    where
      by : (b : Bool) → (c.aborts + 1 == retries) ≡ b →
          weigh_call tests (after_abort c sought).left ≤ weigh tests c.plan
      by true is = rw is (omega arith)
      by false is = rw is (omega (arith, h))
  read_tests c sought _ h = omega arith

  read_key_tests : (c : Call K V E) (compute : Compute K) (with : Settled V E) →
      weigh_call tests (after_read_key c compute (found.ReadSettled with)).left ≤ weigh tests c.plan
  read_key_tests c compute with =
      read_key_next (λ v. weigh_call tests v.left ≤ weigh tests c.plan) c compute with
      (omega arith) (omega arith)

  told_tests : (c : Call K V E) (load : Load K) (given : Told V E) →
      weigh_call tests (after_told c load (found.TakeTold (Some given))).left ≤ weigh tests c.plan
  told_tests c load (told.Value value) =
      loaded_plans (λ p. weigh_call tests (goes c p).left ≤ weigh tests c.plan) c.rules load value
      (omega arith) (omega arith) (omega arith)
  told_tests c load _ = omega arith

  told_op_tests : (c : Call K V E) (compute : Compute K) (pair : Option (K × V))
      (given : Told V E) →
      weigh_call tests (after_told_op c compute pair (found.TakeTold (Some given))).left ≤ weigh tests c.plan
  told_op_tests c compute pair given =
      told_op_next (λ v. weigh_call tests v.left ≤ weigh tests c.plan) c compute pair given
      (λ a. omega arith)
      (λ value able off. (omega arith))
      (λ value able on. (omega arith))
      (λ off. (omega arith))
      (λ on. (omega arith))
      (omega arith)

  fresh_tests : (rules : Rules) (p : List (Item K V E)) → IsFresh rules p → weigh tests p ≤ 2
  fresh_tests rules p (Disabled a d plain) = omega arith
  fresh_tests rules p (Walks_over parts able) = omega (arith, weigh_walk tests (record { list = λ part. refl; find = λ key. refl; scan = λ there stored. refl; end = refl; choose = λ parts. refl; strike = λ there stored. refl; retire = refl }) p (walk_is_walk 0 parts))
  fresh_tests rules p _ = omega arith

  -- a call that goes on with the rest may ask no more than that
  goes_tests : (c : Call K V E) (rest : List (Item K V E)) → weigh_call tests (goes c rest).left ≡ weigh tests rest
  goes_tests c rest = weigh_goes tests c rest (λ a. refl)

  module _ (eq : K → K → Bool) (w : World K V E) (n : ℕ) (c : Call K V E) where
    -- what is asked with the step, and what may be asked later, is no more than before
    abbrev Fewer : List (Item K V E) → World K V E → Next K V E → Type 0
    Fewer p new next = weigh_call tests next.left + test_asked p ≤ weigh tests p

    asks_fewer : (item : Item K V E) (rest : List (Item K V E)) → c.plan ≡ item ∷ rest →
        Outcomes eq (Fewer (item ∷ rest)) w n c item rest
    asks_fewer plan.Drain rest e =
        (λ f. omega (arith, goes_tests c rest), λ x xs f. omega arith, λ x number xs f. omega arith)
    asks_fewer (plan.Notice key old cause upsert) rest e =
        (λ f. omega (arith, goes_tests c rest), λ f. omega arith)
    asks_fewer (plan.Post write) rest e = (λ f. omega (arith, goes_tests c rest), λ f. omega arith)
    asks_fewer plan.Apply rest e = (λ f. omega (arith, goes_tests c rest), λ x xs f. omega arith)
    asks_fewer (plan.Get aim key) rest e = (
      (λ more. omega (arith, ap (weigh tests) e)),
      (λ none. omega (arith, misses_tests c aim)),
      λ k stored some. omega (arith, finds_tests c aim k stored),
    )
    asks_fewer (plan.Judge aim key stored) rest e = (
      (λ seen. by_hit aim e),
      λ unseen. omega (arith, unseen_tests c w.desk aim key stored unseen),
    )
      where
        by_hit : (aim : Aim K V) → c.plan ≡ plan.Judge aim key stored ∷ rest →
            Fewer (plan.Judge aim key stored ∷ rest) w (hits c aim key stored.value)
        by_hit (plan.To_load sought) e = omega (arith, test_once sought.replace)
        by_hit (plan.To_own sought) e = omega (arith, test_once sought.replace)
        by_hit (plan.To_evict there stamp cause) e = omega (arith, ap (weigh tests) e)
        by_hit _ e = omega arith
    asks_fewer (plan.Own sought) rest e =
        (λ able none. omega arith, λ disabled none. omega arith, λ owner some. omega arith)
    asks_fewer (plan.Own_key compute) rest e =
        ((λ able none. omega arith, λ disabled none. omega arith), λ owner some. omega arith)
    asks_fewer (plan.Own_alone key) rest e = (
      (λ able none. omega arith, λ disabled none. omega arith),
      λ owner some. (λ able. omega arith, λ not. omega arith),
    )
    asks_fewer (plan.Read sought) rest e = (
      λ none. omega (arith, ap (weigh tests) e),
      λ with some.
          let same = ap (weigh tests) e in
          omega (arith, same, read_tests c sought with (omega (arith, same))),
    )
    asks_fewer (plan.Read_key compute) rest e = (
      λ none. omega (arith, ap (weigh tests) e),
      λ with some. omega (arith, ap (weigh tests) e, read_key_tests c compute with),
    )
    asks_fewer (plan.Ask load) rest e = omega arith
    asks_fewer (plan.Ask_op compute pair) rest e = omega arith
    asks_fewer (plan.Told load) rest e = (
      λ none. omega (arith, ap (weigh tests) e),
      λ given some. omega (arith, ap (weigh tests) e, told_tests c load given),
    )
    asks_fewer (plan.Told_op compute pair) rest e = (
      λ none. omega (arith, ap (weigh tests) e),
      λ given some. omega (arith, ap (weigh tests) e, told_op_tests c compute pair given),
    )
    asks_fewer (plan.Holds key stamp cause there stored) rest e =
        (λ f. omega arith, λ f. omega (arith, keeps_tests c))
    asks_fewer (plan.Moment (plan.To_store key value)) rest e = omega arith
    asks_fewer (plan.Moment (plan.To_take_out removal key)) rest e = omega arith
    asks_fewer (plan.Write key value moment) rest e = (
      (λ more. omega (arith, ap (weigh tests) e)),
      (λ off old. omega arith),
      (λ on. omega arith),
      λ k old on some. omega arith,
    )
    asks_fewer (plan.Out removal key) rest e = (
      (λ more. omega (arith, ap (weigh tests) e)),
      (λ off none. omega (arith, out (nothing_answer removal))),
      (λ on none. omega (arith, out (nothing_answer removal))),
      (λ k old off some. omega (arith, out (removed_answer removal old.value))),
      λ k old on some. omega (arith, out (removed_answer removal old.value)),
    )
      where
        out : (a : Answer K V E) → weigh tests (said removal a) ≡ 0
        out a = weigh_said tests removal a refl refl
    asks_fewer (plan.List_keys part) rest e = (
      (λ more. omega (arith, ap (weigh tests) e)),
      λ listed keys is gives. omega
          (arith, goes_tests c (map plan.Find keys ++ rest), weigh_finds {E = E} tests (λ key. refl) keys rest),
    )
    asks_fewer (plan.Find key) rest e = (
      (λ more. omega (arith, ap (weigh tests) e)),
      (λ none. omega (arith, goes_tests c rest)),
      (λ k stored some none. omega arith),
      λ k stored ids some is. omega arith,
    )
    asks_fewer (plan.Scan there stored) rest e =
        ((λ seen. omega arith), λ unseen. omega (arith, goes_tests c rest))
    asks_fewer (plan.Register test) rest e = omega arith
    asks_fewer (plan.Candidates parts) rest e = (
      (λ none. omega arith),
      λ id more some. omega (
        arith,
        goes_tests (carrying c (id ∷ more)) (lists_from 0 parts (plan.Retire ∷ [])),
        weigh_retiring {K = K} {V = V} {E = E} tests (λ part. refl) refl parts,
      ),
    )
    asks_fewer (plan.Strike there stored) rest e = omega (arith, goes_tests (carrying c (struck w.desk (unwrap_or c.carried []) there stored)) rest)
    asks_fewer plan.Retire rest e = omega arith
    asks_fewer (plan.Reply a) rest e = omega arith
    asks_fewer item rest e = passes_on eq (Fewer (item ∷ rest)) w n c item rest tt
        (λ d. omega (arith, goes_tests c rest)) (omega (arith, ap (weigh tests) e))

    tests_fewer : (p : List (Item K V E)) → c.plan ≡ p → OnStep eq (Fewer p) w n c p
    tests_fewer [] e = omega (arith, ap (weigh tests) e)
    tests_fewer (item ∷ rest) e = outcomes eq (Fewer (item ∷ rest)) w n c item rest (asks_fewer item rest e)

  -- ---- how often the call has read that its owner was dropped

  -- the call, if it goes on, has read that as often as before, and so many times more
  abbrev CountsLeft : Call K V E → ℕ → Option (Call K V E) → Type 0
  CountsLeft c more left = (d : Call K V E) → left ≡ Some d → d.aborts ≡ c.aborts + more

  abbrev Counts : Call K V E → ℕ → Next K V E → Type 0
  Counts c more next = CountsLeft c more next.left

  as_often : (c b : Call K V E) (left : Option (Call K V E)) → left ≡ Some b → b.aborts ≡ c.aborts →
      CountsLeft c 0 left
  as_often c b left is same d e =
      let one : b ≡ d = some_same (sym is ∙ e) in
      omega (arith, same, ap (λ (v : Call K V E). v.aborts) one)

  goes_counts : (c : Call K V E) (rest : List (Item K V E)) → Counts c 0 (goes c rest)
  goes_counts c (plan.Reply a ∷ []) = λ d e. absurd (none_some e)
  goes_counts c _ = as_often c _ _ refl refl

  misses_count : (c : Call K V E) (aim : Aim K V) → Counts c 0 (misses c aim)
  misses_count c (plan.To_show form) = λ d e. absurd (none_some e)
  misses_count c (plan.To_load sought) = goes_counts c (plan.Own sought ∷ [])
  misses_count c (plan.To_own sought) = goes_counts c (plan.Ask sought.load ∷ [])
  misses_count c (plan.To_compute compute) = goes_counts c (plan.Ask_op compute None ∷ [])
  misses_count c (plan.To_insert key value) =
      goes_counts c (put c.rules key value (plan.Reply (answer.Loaded value true) ∷ []))
  misses_count c (plan.To_evict key stamp cause) = goes_counts c (kept_rest c.rules.listener)

  finds_count : (c : Call K V E) (aim : Aim K V) (there : K) (stored : Stored V) →
      Counts c 0 (finds_pair c aim there stored)
  finds_count c (plan.To_evict key stamp cause) there stored =
      chosen_by (Counts c 0) c key stamp cause there stored
      (λ other. goes_counts c (kept_rest c.rules.listener)) (λ same. as_often c _ _ refl refl)
  finds_count c _ there stored = as_often c _ _ refl refl

  hits_count : (c : Call K V E) (aim : Aim K V) (there : K) (value : V) →
      Counts c 0 (hits c aim there value)
  hits_count c (plan.To_own sought) there value = as_often c _ _ refl refl
  hits_count c (plan.To_compute compute) there value = as_often c _ _ refl refl
  hits_count c (plan.To_evict key stamp cause) there value = as_often c _ _ refl refl
  hits_count c _ there value = λ d e. absurd (none_some e)

  told_count : (c : Call K V E) (load : Load K) (given : Told V E) →
      Counts c 0 (after_told c load (found.TakeTold (Some given)))
  told_count c load (told.Value value) = goes_counts c (loaded c.rules load value)
  told_count c load _ = as_often c _ _ refl refl

  told_op_count : (c : Call K V E) (compute : Compute K) (pair : Option (K × V))
      (given : Told V E) → Counts c 0 (after_told_op c compute pair (found.TakeTold (Some given)))
  told_op_count c compute pair given = told_op_next (Counts c 0) c compute pair given
      (λ a. as_often c _ _ refl refl)
      (λ value able off. as_often c _ _ refl refl)
      (λ value able on. as_often c _ _ refl refl)
      (λ off. as_often c _ _ refl refl)
      (λ on. as_often c _ _ refl refl)
      (as_often c _ _ refl refl)

  -- an owner that was dropped is counted, and no other
  read_counts : (c : Call K V E) (sought : Sought K) (with : Settled V E) →
      Counts c (cond (is_aborted with) 1 0) (after_read c sought (found.ReadSettled with))
  read_counts c sought settled.NotYet = as_often c _ _ refl refl
  read_counts c sought settled.Aborted = by (c.aborts + 1 == retries) refl
    where
      by : (b : Bool) → (c.aborts + 1 == retries) ≡ b → Counts c 1 (after_abort c sought)
      by true is = rw is (λ d e. absurd (none_some e))
      by false is = rw is (λ d e. sym (ap (λ (v : Call K V E). v.aborts) (some_same e)))
  read_counts c sought _ = λ d e. absurd (none_some e)

  -- a compute counts none
  read_key_counts : (c : Call K V E) (compute : Compute K) (with : Settled V E) →
      Counts c 0 (after_read_key c compute (found.ReadSettled with))
  read_key_counts c compute with = read_key_next (Counts c 0) c compute with
      (as_often c _ _ refl refl) (as_often c _ _ refl refl)

  module _ (eq : K → K → Bool) (w : World K V E) (n : ℕ) (c : Call K V E) where
    -- how often it reads so with this plan
    abbrev more : List (Item K V E) → ℕ
    more p = cond (is_reading p && option_map_or is_aborted (settlement_for w.desk n) false) 1 0

    abbrev Counted : List (Item K V E) → World K V E → Next K V E → Type 0
    Counted p new next = Counts c (more p) next

    counts : (item : Item K V E) (rest : List (Item K V E)) → Outcomes eq (Counted (item ∷ rest)) w n c item rest
    counts plan.Drain rest = (
      λ e. goes_counts c rest,
      λ x xs e. as_often c _ _ refl refl,
      λ x number xs e. as_often c _ _ refl refl,
    )
    counts plan.Apply rest = (λ e. goes_counts c rest, λ x xs e. as_often c _ _ refl refl)
    counts (plan.Get aim key) rest = (
      (λ more. as_often c _ _ refl refl),
      (λ none. misses_count c aim),
      λ k stored some. finds_count c aim k stored,
    )
    counts (plan.Judge aim key stored) rest =
        (λ seen. hits_count c aim key stored.value, λ unseen. misses_count c aim)
    counts (plan.Own sought) rest = (
      λ able none. as_often c _ _ refl refl,
      λ disabled none. as_often c _ _ refl refl,
      λ owner some. as_often c _ _ refl refl,
    )
    counts (plan.Own_key compute) rest = (
      (λ able none. as_often c _ _ refl refl, λ disabled none. as_often c _ _ refl refl),
      λ owner some. as_often c _ _ refl refl,
    )
    counts (plan.Own_alone key) rest = (
      (λ able none. as_often c _ _ refl refl, λ disabled none. as_often c _ _ refl refl),
      λ owner some. (λ able. as_often c _ _ refl refl, λ not. as_often c _ _ refl refl),
    )
    counts (plan.Read sought) rest = (
      λ none. subst (λ o. Counts c (cond (option_map_or is_aborted o false) 1 0) (waits c)) (sym none)
          (as_often c _ _ refl refl),
      λ with some. subst (λ o. Counts c (cond (option_map_or is_aborted o false) 1 0)
          (after_read c sought (found.ReadSettled with))) (sym some) (read_counts c sought with),
    )
    counts (plan.Read_key compute) rest =
        (λ none. as_often c _ _ refl refl, λ with some. read_key_counts c compute with)
    counts (plan.Ask load) rest = as_often c _ _ refl refl
    counts (plan.Ask_op compute pair) rest = as_often c _ _ refl refl
    counts (plan.Told load) rest =
        (λ none. as_often c _ _ refl refl, λ given some. told_count c load given)
    counts (plan.Told_op compute pair) rest =
        (λ none. as_often c _ _ refl refl, λ given some. told_op_count c compute pair given)
    counts (plan.Holds key stamp cause there stored) rest =
        (λ e. as_often c _ _ refl refl, λ e. goes_counts c (kept_rest c.rules.listener))
    counts (plan.Moment (plan.To_store key value)) rest = as_often c _ _ refl refl
    counts (plan.Moment (plan.To_take_out removal key)) rest = as_often c _ _ refl refl
    counts (plan.Write key value moment) rest = (
      (λ more. as_often c _ _ refl refl),
      (λ off old. as_often c _ _ refl refl),
      (λ on. as_often c _ _ refl refl),
      λ k old on some. as_often c _ _ refl refl,
    )
    counts (plan.Out removal key) rest = (
      (λ more. as_often c _ _ refl refl),
      (λ off none. as_often c _ _ refl refl),
      (λ on none. as_often c _ _ refl refl),
      (λ k old off some. as_often c _ _ refl refl),
      λ k old on some. as_often c _ _ refl refl,
    )
    counts (plan.List_keys part) rest =
        ((λ more. as_often c _ _ refl refl), λ listed keys is gives. goes_counts c (map plan.Find keys ++ rest))
    counts (plan.Find key) rest = (
      (λ more. as_often c _ _ refl refl),
      (λ none. goes_counts c rest),
      (λ k stored some none. as_often c _ _ refl refl),
      λ k stored ids some is. as_often c _ _ refl refl,
    )
    counts (plan.Scan there stored) rest = ((λ seen. as_often c _ _ refl refl), λ unseen. goes_counts c rest)
    counts (plan.Register test) rest = λ d e. absurd (none_some e)
    counts (plan.Candidates parts) rest = (
      (λ none d e. absurd (none_some e)),
      λ id more some. goes_counts (carrying c (id ∷ more)) (lists_from 0 parts (plan.Retire ∷ [])),
    )
    counts (plan.Strike there stored) rest = goes_counts (carrying c (struck w.desk (unwrap_or c.carried []) there stored)) rest
    counts plan.Retire rest = λ d e. absurd (none_some e)
    counts (plan.Reply a) rest = λ d e. absurd (none_some e)
    counts (plan.Notice key old cause upsert) rest =
        (λ e. goes_counts c rest, λ e. as_often c _ _ refl refl)
    counts (plan.Post write) rest = (λ e. goes_counts c rest, λ e. as_often c _ _ refl refl)
    counts item rest = passes_on eq (Counted (item ∷ rest)) w n c item rest tt
        (λ d. goes_counts c rest) (as_often c _ _ refl refl)

    counts_plan : (p : List (Item K V E)) → OnStep eq (Counted p) w n c p
    counts_plan [] = as_often c _ _ refl refl
    counts_plan (item ∷ rest) = outcomes eq (Counted (item ∷ rest)) w n c item rest (counts item rest)

-- ---- a step, and what leaves the call alone

module _ {K V E : Type 0} (eq : K → K → Bool) where
  step_tests : (s t : State K V E) (n : ℕ) (c : Call K V E) (reply : Turn K V E) → s.calls n ≡ Some c →
      Step eq s n reply t → weigh_call tests (t.calls n) + asks_test s c ≤ weigh tests c.plan
  step_tests s t n c reply live step =
      let is : step.call ≡ c = some_same (sym step.live ∙ live) in
      subst (λ (v : Call K V E). weigh_call tests (t.calls n) + test_asked v.plan ≤ weigh tests v.plan) is
      (step_cases eq (Fewer eq s.world n step.call step.call.plan)
      (λ v r. weigh_call tests (v.calls n) + test_asked step.call.plan ≤ weigh tests step.call.plan)
      s t n reply step (tests_fewer eq s.world n step.call step.call.plan refl)
      (λ w next l. omega (arith, l, ap (weigh_call tests) (put_here s.calls n next.left))))

  step_counts : (s t : State K V E) (n : ℕ) (c d : Call K V E) (reply : Turn K V E) → s.calls n ≡ Some c →
      Step eq s n reply t → t.calls n ≡ Some d → d.aborts ≡ c.aborts + reads_aborted n s c
  step_counts s t n c d reply live step left =
      let is : step.call ≡ c = some_same (sym step.live ∙ live) in
      subst (λ (v : Call K V E). d.aborts ≡ v.aborts + more eq s.world n v v.plan) is
      (step_cases eq (Counted eq s.world n step.call step.call.plan)
      (λ v r. v.calls n ≡ Some d → d.aborts ≡ step.call.aborts + more eq s.world n step.call step.call.plan)
      s t n reply step (counts_plan eq s.world n step.call step.call.plan)
      (λ w next l e. l d (sym (put_here s.calls n next.left) ∙ e)) left)

  -- what leaves the call alone leaves it as it is, or ends it; and numbers are given out in order
  record Alone (n : ℕ) (u v : State K V E) : Type 0 where
    call : (v.calls n ≡ u.calls n) ⊎ (v.calls n ≡ None)
    last : u.world.desk.last ≤ v.world.desk.last

  no_change : (n : ℕ) (u : State K V E) → Alone n u u
  no_change n u = record { call = inl refl; last = omega arith }

  refused_alone : (n : ℕ) (u v : State K V E) (why : Refusal) (r : Reply K V E) → Refuses u why r v → Alone n u v
  refused_alone n u v why r h = subst (Alone n u) (sym h.same) (no_change n u)

  becomes_alone : (n : ℕ) (u next v : State K V E) (a r : Reply K V E) → Alone n u next → Becomes next a r v →
      Alone n u v
  becomes_alone n u next v a r l h = subst (Alone n u) (sym h.after) l

  step_alone : (n m : ℕ) (u v : State K V E) (reply : Turn K V E) → (m == n) ≡ false → Step eq u m reply v →
      Alone n u v
  step_alone n m u v reply apart step = record {
    call = inl (step_calls eq u v m n reply apart step);
    last = omega (arith, step_last eq u v m reply step);
  }

  alone_more : (n : ℕ) (s u v : State K V E) → Alone n s u → Alone n u v → Alone n s v
  alone_more n s u v a b = record { call = by a.call b.call; last = omega (arith, a.last, b.last) }
    where
      by : (u.calls n ≡ s.calls n) ⊎ (u.calls n ≡ None) → (v.calls n ≡ u.calls n) ⊎ (v.calls n ≡ None) →
          (v.calls n ≡ s.calls n) ⊎ (v.calls n ≡ None)
      by (inl e) (inl f) = inl (f ∙ e)
      by (inr e) (inl f) = inr (f ∙ e)
      by x (inr f) = inr f

  goings_alone : (n m k : ℕ) (u v : State K V E) → (m == n) ≡ false → Goings eq Any k u m v → Alone n u v
  unfolding Goings
  goings_alone n m zero u v apart going = subst (Alone n u) (sym going) (no_change n u)
  goings_alone n m (suc k) u v apart going = alone_more n u going.0 v
      (goings_alone n m k u going.0 apart going.1) (step_alone n m going.0 v turn.Going apart going.2)

  drops_alone : (n m : ℕ) (u v : State K V E) (c : Call K V E) (how : Mode) (r : Reply K V E) →
      Drops u m c how r v → Alone n u v
  drops_alone n m u v c how r h = by how h
    where
      gone : Alone n u (dropped u m c)
      gone = record { call = of (m == n) refl; last = omega arith }
        where
          of : (b : Bool) → (m == n) ≡ b → (cond b None (u.calls n) ≡ u.calls n) ⊎ (cond b None (u.calls n) ≡ None)
          of true e = inr refl
          of false e = inl refl

      by : (how : Mode) → Drops u m c how r v → Alone n u v
      by mode.Mid h = refused_alone n u v _ r h
      by _ h = becomes_alone n u (dropped u m c) v _ r gone h

  -- of a test, or of a call's look-up, either answer leaves it alone
  either_alone : (n : ℕ) (u v : State K V E) (b : Bool) (P Q : Type 0) → (P → Alone n u v) → (Q → Alone n u v) →
      MatchBool b P Q → Alone n u v
  either_alone n u v true P Q on_true on_false h = on_true h
  either_alone n u v false P Q on_true on_false h = on_false h

  looked_alone : (n : ℕ) (u v : State K V E) (o : Option (Call K V E)) (P : Type 0) (Q : Call K V E → Type 0) →
      (P → Alone n u v) → ((c : Call K V E) → Q c → Alone n u v) → MatchOption o P Q → Alone n u v
  looked_alone n u v None P Q none some h = none h
  looked_alone n u v (Some c) P Q none some h = some c h

  event_alone : (n : ℕ) (u v : State K V E) (e : Event K V E) (r : Reply K V E) → n ≤ u.world.desk.last →
      LeavesAlone n e → Happens eq Any u e r v → Alone n u v
  event_alone n u v (event.At moment) r l alone h =
      either_alone n u v (nat_lt moment u.world.desk.clock) _ _ (refused_alone n u v _ r)
      (becomes_alone n u (at_moment u moment) v _ r (record { call = inl refl; last = omega arith })) h
  event_alone n u v (event.Start start) r l alone h =
      either_alone n u v (u.world.desk.last == last_call) _ _ (refused_alone n u v _ r)
      (becomes_alone n u (started u start) v _ r (record {
        call = inl (put_there u.calls (u.world.desk.last + 1) _ n
            (differ (u.world.desk.last + 1) n (λ e. omega (arith, e, l))));
        last = omega arith;
      })) h
  event_alone n u v (event.Step m) r l alone h =
      looked_alone n u v (u.calls m) _ (λ _. Steps eq u m r v) (refused_alone n u v _ r)
      (λ c steps. step_alone n m u v steps.turn (differ m n alone) steps.step) h
  event_alone n u v (event.Poll m) r l alone h =
      looked_alone n u v (u.calls m) _ (λ _. Polls eq Any u m r v) (refused_alone n u v _ r)
      (λ c polls. alone_more n u polls.mid v
      (goings_alone n m polls.going u polls.mid (differ m n alone) polls.goes)
      (step_alone n m polls.mid v polls.last.turn (differ m n alone) polls.last.step)) h
  event_alone n u v (event.Tell m given) r l alone h =
      either_alone n u v (is_asked u.world.desk m given) _ _
      (becomes_alone n u (with_desk u (tells u.world.desk m given)) v _ r (telling given))
      (refused_alone n u v _ r) h
    where
      telling : (given : Told V E) → Alone n u (with_desk u (tells u.world.desk m given))
      telling told.Off = record { call = inl refl; last = omega arith }
      telling _ = record { call = inl refl; last = omega arith }
  event_alone n u v (event.Drop m) r l alone h =
      looked_alone n u v (u.calls m) _ (λ c. Drops u m c c.mode r v) (refused_alone n u v _ r)
      (λ c d. drops_alone n m u v c c.mode r d) h

  -- ---- along the way

  -- the way so far, and what the call may still ask
  way_tests : (n k : ℕ) (s t : State K V E) → Way eq n asks_test k s t → n ≤ s.world.desk.last →
      weigh_call tests (s.calls n) ≤ 2 → (n ≤ t.world.desk.last) × (weigh_call tests (t.calls n) + k ≤ 2)
  way_tests n k s t (way.Begins v) l few = (l, omega (arith, few))
  way_tests n k s t (way.Steps j a u v c reply w live step) l few =
      let i = way_tests n j a u w l few in
      let now = step_tests u v n c reply live step in (
        omega (arith, i.0, step_last eq u v n reply step),
        omega (arith, i.1, now, ap (weigh_call tests) live),
      )
  way_tests n k s t (way.Others j a u v e r w alone h) l few =
      let i = way_tests n j a u w l few in
      let b = event_alone n u v e r i.0 alone h in
      (omega (arith, i.0, b.last), by b.call i.1)
    where
      by : (v.calls n ≡ u.calls n) ⊎ (v.calls n ≡ None) → weigh_call tests (u.calls n) + j ≤ 2 →
          weigh_call tests (v.calls n) + j ≤ 2
      by (inl f) m = omega (arith, ap (weigh_call tests) f, m)
      by (inr f) m = omega (arith, ap (weigh_call tests) f, m)

  way_counts : (n k : ℕ) (s t : State K V E) → Way eq n (reads_aborted n) k s t → n ≤ s.world.desk.last →
      ((c : Call K V E) → s.calls n ≡ Some c → c.aborts ≡ 0) →
      (n ≤ t.world.desk.last) × ((c : Call K V E) → t.calls n ≡ Some c → c.aborts ≡ k)
  way_counts n k s t (way.Begins v) l first = (l, first)
  way_counts n k s t (way.Steps j a u v c reply w live step) l first =
      let i = way_counts n j a u w l first in (
        omega (arith, i.0, step_last eq u v n reply step),
        λ d left. omega (arith, i.1 c live, step_counts u v n c d reply live step left),
      )
  way_counts n k s t (way.Others j a u v e r w alone h) l first =
      let i = way_counts n j a u w l first in
      let b = event_alone n u v e r i.0 alone h in
      (omega (arith, i.0, b.last), λ c live. i.1 c (by b.call c live))
    where
      by : (v.calls n ≡ u.calls n) ⊎ (v.calls n ≡ None) → (c : Call K V E) → v.calls n ≡ Some c →
          u.calls n ≡ Some c
      by (inl f) c live = sym f ∙ live
      by (inr f) c live = absurd (none_some (sym f ∙ live))

  -- ---- what follows

  abbrev was_started : (s begun : State K V E) (start : Start K V) (n : ℕ) → IsReached eq s →
      Happens eq Any s (event.Start start) (reply.Call n) begun → WasStarted eq start n begun
  was_started s begun start n h begins =
      record { before = s; reached = h; begun = begun; begins = begins; led = no_leads eq begun }

  -- what the call is as it was started
  begun_so : (s begun : State K V E) (start : Start K V) (n : ℕ) → IsReached eq s →
      Happens eq Any s (event.Start start) (reply.Call n) begun →
      (n ≤ begun.world.desk.last) × (begun.calls n ≡ Some (fresh_call s.world.table.division.parts s.world.desk.rules start))
  begun_so s begun start n h begins =
      let so = begins_so eq start n begun (was_started s begun start n h begins) in
      subst (λ (v : State K V E). (n ≤ v.world.desk.last) × (v.calls n ≡ Some (fresh_call s.world.table.division.parts s.world.desk.rules start)))
      (sym so.1) (
        omega (arith, so.0),
        ap (λ m. (started s start).calls m) so.0 ∙ put_here s.calls (s.world.desk.last + 1) _,
      )

  pub aborts_counted : AbortsAreCounted K V E eq
  aborts_counted s begun t start n k c h begins w live =
      let so = begun_so s begun start n h begins in
      (way_counts n k begun t w so.0
      (λ d first. ap (λ (v : Call K V E). v.aborts) (some_same (sym first ∙ so.1)))).1 c live

  pub tests_two : TestsAreTwo K V E eq
  tests_two s begun t start n k h begins w =
      let so = begun_so s begun start n h begins in
      let parts : ℕ = s.world.table.division.parts in
      let rules : Rules = s.world.desk.rules in
      let few : weigh tests (plan_of {E = E} parts rules start) ≤ 2 =
      fresh_tests rules (plan_of {E = E} parts rules start) (fresh_plan parts rules start) in
      let i = way_tests n k begun t w so.0 (omega (arith, few, ap (weigh_call tests) so.1)) in
      omega (arith, i.1)
