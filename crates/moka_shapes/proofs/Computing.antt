-- A compute answers what follows from what it was told, whatever it is given.
use Rattle.std.proofs.Common.{◌≡◌, ℕ, Bool, true, false, List, [], ◌∷◌, ◌++◌, Option, Some, None, Contains, inl, inr, refl, sym, ap, ◌∙◌, subst}
use Rattle.std.specs.Option.{is_some}
use Rattle.std.proofs.lemmas.List.Elements.{Contains-append_left, Contains-append_right, Contains-push}
use Rattle.moka_hist.specs.State.{World, Call}
use Rattle.moka_hist.specs.Computing.{after_told_op, end_compute, put_told}
use Rattle.moka_hist.specs.Entries.{put_answer, removed_value, unchanged}
use Rattle.moka_hist.specs.Looking.{finds_pair, hits, misses, shown}
use Rattle.moka_hist.specs.Next.{Next, goes, waits}
use Rattle.moka_hist.specs.Plan.{Aim, Item, Removal, is_disabled, plan_of, take_out, under_lock}
use Rattle.moka_hist.specs.Plan as plan
use Rattle.moka_hist.specs.Run.{fresh_call}
use Rattle.moka_hist.specs.Step.{Gets, access_of, next_of}
use Rattle.moka_hist.specs.Writing.{nothing_answer, removed_answer, said}
use Rattle.moka_hist.specs.declared.accesses.Got.{Got}
use Rattle.moka_hist.specs.declared.accesses.Got.TheVariants as got
use Rattle.moka_hist.specs.declared.events.Op.TheVariants as op
use Rattle.moka_hist.specs.declared.events.Start.{Start}
use Rattle.moka_hist.specs.declared.events.Start.TheVariants as start
use Rattle.moka_hist.specs.declared.events.Told.{Told}
use Rattle.moka_hist.specs.declared.events.Told.TheVariants as told
use Rattle.moka_hist.specs.declared.loads.Compute.{Compute}
use Rattle.moka_hist.specs.declared.records.Stored.{Stored}
use Rattle.moka_hist.specs.declared.replies.Answer.{Answer}
use Rattle.moka_hist.specs.declared.rules.Rules.{Rules}
use Rattle.moka_hist.specs.declared.visits.Found.TheVariants as found
use Rattle.moka_laws.specs.Shapes.{MayBeGiven, MayLead}
use Rattle.moka_laws.proofs.Counting.{none_some, some_same}
use Rattle.moka_laws.proofs.Outcomes.{Outcomes, computes_of, outcomes}
use Rattle.moka_laws.proofs.Owning.{plan_left}
use Rattle.moka_laws.proofs.Rules.{put_plans, read_key_next}
use Rattle.moka_laws.proofs.StepCases.{OnStep, by_plan}
use Rattle.moka_shapes.specs.Computes.{ComputeAnswers, ComputesTell, Follows, other_goes, taken}
use Rattle.moka_laws.specs.Starts.{computed_key}
use Rattle.moka_shapes.proofs.Leaving.{AllSuit, Leaves, answers_so, goes_suits, on}

-- ---- what suits a compute of the key, which is told such, and may answer so

module _ {K V E : Type 0} (key : K) (Other : Type 0) (May : Answer K V E → Type 0) where
  -- a removal for this answers as the compute may
  abbrev SuitsRemoval : Removal K → Type 0
  SuitsRemoval removal = ((value : V) → May (removed_answer removal value)) × May (nothing_answer removal)

  -- a look for this goes on as the compute may
  abbrev SuitsAim : Aim K V → Type 0
  SuitsAim (plan.To_compute compute) = compute.key ≡ key
  SuitsAim (plan.To_show form) = (pair : Option (K × V)) → May (shown form pair)
  SuitsAim _ = ⊥

  -- the item answers as the compute may, and is no other call's
  abbrev Suits : Item K V E → Type 0
  Suits (plan.Get aim under) = SuitsAim aim
  Suits (plan.Judge aim under stored) = SuitsAim aim
  Suits (plan.Own sought) = ⊥
  Suits (plan.Read sought) = ⊥
  Suits (plan.Ask load) = ⊥
  Suits (plan.Told load) = ⊥
  Suits (plan.Own_key compute) = compute.key ≡ key
  Suits (plan.Own_alone under) = (under ≡ key) × ((pair : Option (K × V)) → Other → May (unchanged under pair))
  Suits (plan.Read_key compute) = compute.key ≡ key
  Suits (plan.Ask_op compute pair) = compute.key ≡ key
  Suits (plan.Told_op compute pair) = compute.key ≡ key
  Suits (plan.Holds under stamp cause there stored) = ⊥
  Suits (plan.Moment (plan.To_take_out removal under)) = SuitsRemoval removal
  Suits (plan.Out removal under) = SuitsRemoval removal
  Suits (plan.Register test) = ⊥
  Suits (plan.List_keys part) = ⊥
  Suits (plan.Find under) = ⊥
  Suits (plan.Scan there stored) = ⊥
  Suits (plan.Candidates parts) = ⊥
  Suits (plan.Strike there stored) = ⊥
  Suits plan.Retire = ⊥
  Suits (plan.Reply a) = May a
  Suits _ = Unit {0}

  -- so does what is left of a removal
  said_suits : (removal : Removal K) (a : Answer K V E) → May a → AllSuit Suits (said removal a)
  said_suits (plan.To_remove_as_told under) a may = (tt, (may, tt))
  said_suits _ a may = (may, tt)

  module _ (c : Call K V E) where
    misses_suit : (aim : Aim K V) → SuitsAim aim → Leaves Suits May (misses c aim)
    misses_suit (plan.To_compute compute) s = on Suits May _ (λ b e. cc) (s, tt)
    misses_suit (plan.To_show form) s = answers_so Suits May (shown form None) _ refl refl (s None)
    misses_suit _ s = absurd s

    hits_suit : (aim : Aim K V) (there : K) (value : V) → SuitsAim aim → Leaves Suits May (hits c aim there value)
    hits_suit (plan.To_compute compute) there value s = on Suits May _ (λ b e. cc) (s, tt)
    hits_suit (plan.To_show form) there value s = answers_so Suits May (shown form (Some (there, value))) _ refl refl (s (Some (there, value)))
    hits_suit _ there value s = absurd s

    finds_suit : (aim : Aim K V) (there : K) (stored : Stored V) → SuitsAim aim → Leaves Suits May (finds_pair c aim there stored)
    finds_suit (plan.To_compute compute) there stored s = on Suits May _ (λ b e. cc) (s, tt)
    finds_suit (plan.To_show form) there stored s = on Suits May _ (λ b e. cc) (s, tt)
    finds_suit _ there stored s = absurd s

    puts_suit : (under : K) (pair : Option (K × V)) (value : V) → May (put_answer under pair value) → Leaves Suits May (goes c (put_told (is_disabled c.rules) c under pair value))
    puts_suit under pair value may = by (is_disabled c.rules)
      where
        by : (b : Bool) → Leaves Suits May (goes c (put_told b c under pair value))
        by true = on Suits May _ (λ b e. cc) (tt, (may, tt))
        by false = put_plans (λ p. Leaves Suits May (goes c p)) c.rules under value (end_compute (put_answer under pair value))
            (on Suits May _ (λ b e. cc) (tt, (tt, (tt, (may, tt))))) (on Suits May _ (λ b e. cc) (tt, (tt, (tt, (tt, (may, tt))))))

    out_suits : (under : K) → SuitsRemoval (plan.To_remove_as_told under) → Leaves Suits May (goes c (take_out c.rules (plan.To_remove_as_told under) under))
    out_suits under s = by c.rules.listener
      where
        by : (b : Bool) → Leaves Suits May (goes c (plan.Drain ∷ under_lock b under (plan.Moment (plan.To_take_out (plan.To_remove_as_told under) under) ∷ [])))
        by true = on Suits May _ (λ b e. cc) (tt, (tt, (s, tt)))
        by false = on Suits May _ (λ b e. cc) (tt, (s, tt))

module _ {K V E : Type 0} (key : K) (Other : Type 0) (May : Answer K V E → Type 0) (such : Told V E → Type 0)
    (follows : (given : Told V E) (a : Answer K V E) → such given → Follows key given a → May a) (c : Call K V E) where
  -- what follows from what it was told
  told_suits : (compute : Compute K) (pair : Option (K × V)) (given : Told V E) → AllSuit (Suits key Other May) c.plan → compute.key ≡ key → such given
      → Leaves (Suits key Other May) May (after_told_op c compute pair (found.TakeTold (Some given)))
  told_suits compute pair (told.Value value) p is tells =
      puts_suit key Other May c compute.key pair value (follows (told.Value value) _ tells (pair, ap (λ k. put_answer k pair value) is))
  told_suits compute pair (told.Op (op.Put value)) p is tells =
      puts_suit key Other May c compute.key pair value (follows (told.Op (op.Put value)) _ tells (pair, ap (λ k. put_answer k pair value) is))
  told_suits compute pair (told.Op op.Nop) p is tells =
      on (Suits key Other May) May _ (λ b e. cc) (tt, (follows (told.Op op.Nop) _ tells (pair, ap (λ k. unchanged k pair) is), tt))
  told_suits compute pair (told.Op op.Remove) p is tells =
      out_suits key Other May c compute.key (
        λ value. follows (told.Op op.Remove) _ tells (inl (value, ap (λ k. removed_value k value) is)),
        follows (told.Op op.Remove) _ tells (inr (ap (λ k. unchanged k None) is)),
      )
  told_suits compute pair (told.Err error) p is tells =
      on (Suits key Other May) May _ (λ b e. cc) (tt, (follows (told.Err error) _ tells refl, tt))
  told_suits compute pair _ p is tells = on (Suits key Other May) May _ (λ b e. cc) p

  module _ (eq : K → K → Bool) (w : World K V E) (n : ℕ) (p : AllSuit (Suits key Other May) c.plan)
      (reads : (compute : Compute K) (pair : Option (K × V)) (rest : List (Item K V E)) (given : Told V E) → c.plan ≡ plan.Told_op compute pair ∷ rest → w.desk.told n ≡ Some given → such given)
      (owns : (under : K) (rest : List (Item K V E)) (owner : ℕ) → c.plan ≡ plan.Own_alone under ∷ rest → w.desk.owners (computes_of under) ≡ Some owner → Other) where
    abbrev After : World K V E → Next K V E → Type 0
    After new next = Leaves (Suits key Other May) May next

    parks : Leaves (Suits key Other May) May (waits c)
    parks = on (Suits key Other May) May _ (λ b e. cc) p

    on_item : (item : Item K V E) (rest : List (Item K V E)) → c.plan ≡ item ∷ rest → AllSuit (Suits key Other May) (item ∷ rest) → Outcomes eq After w n c item rest
    on_item plan.Drain rest e q = (
      λ f. goes_suits (Suits key Other May) May (λ a may. may) c rest q.1,
      λ x xs f. on (Suits key Other May) May _ (λ b g. cc) (tt, q),
      λ x number xs f. on (Suits key Other May) May _ (λ b g. cc) (tt, (tt, q)),
    )
    on_item (plan.Ended number) rest e q = (λ f. goes_suits (Suits key Other May) May (λ a may. may) c rest q.1, λ f. parks)
    on_item plan.Heard rest e q = (λ f. goes_suits (Suits key Other May) May (λ a may. may) c rest q.1, λ f. parks)
    on_item (plan.Lock under) rest e q = (λ f. goes_suits (Suits key Other May) May (λ a may. may) c rest q.1, λ f. parks)
    on_item (plan.Notice under old cause upsert) rest e q =
        (λ f. goes_suits (Suits key Other May) May (λ a may. may) c rest q.1, λ f. on (Suits key Other May) May _ (λ b g. cc) (tt, q.1))
    on_item (plan.Post write) rest e q =
        (λ f. goes_suits (Suits key Other May) May (λ a may. may) c rest q.1, λ f. on (Suits key Other May) May _ (λ b g. cc) (tt, (tt, (tt, q))))
    on_item plan.Turn rest e q = (λ f. goes_suits (Suits key Other May) May (λ a may. may) c rest q.1, λ f. parks)
    on_item plan.Apply rest e q = (λ f. goes_suits (Suits key Other May) May (λ a may. may) c rest q.1, λ x xs f. on (Suits key Other May) May _ (λ b g. cc) q)
    on_item (plan.Get aim under) rest e q = (
      (λ more. on (Suits key Other May) May _ (λ b g. cc) p),
      (λ none. misses_suit key Other May c aim q.0),
      λ k stored some. finds_suit key Other May c aim k stored q.0,
    )
    on_item (plan.Judge aim under stored) rest e q =
        ((λ seen. hits_suit key Other May c aim under stored.value q.0), λ unseen. misses_suit key Other May c aim q.0)
    on_item (plan.Own sought) rest e q = absurd q.0
    on_item (plan.Own_key compute) rest e q = (
      (
        (λ able none. on (Suits key Other May) May _ (λ b g. cc) (tt, (q.0, tt))),
        λ disabled none. on (Suits key Other May) May _ (λ b g. cc) (tt, (q.0, tt)),
      ),
      λ owner some. on (Suits key Other May) May _ (λ b g. cc) (q.0, tt),
    )
    on_item (plan.Own_alone under) rest e q = (
      (
        (λ able none. on (Suits key Other May) May _ (λ b g. cc) (tt, (q.0.0, tt))),
        λ disabled none. on (Suits key Other May) May _ (λ b g. cc) (tt, (q.0.0, tt)),
      ),
      λ owner some. (
        (λ able. on (Suits key Other May) May _ (λ b g. cc) (tt, ((λ pair. q.0.1 pair (owns under rest owner e some)), tt))),
        λ not. on (Suits key Other May) May _ (λ b g. cc) (tt, (q.0.1 None (owns under rest owner e some), tt)),
      ),
    )
    on_item (plan.Read sought) rest e q = absurd q.0
    on_item (plan.Read_key compute) rest e q = (
      λ none. parks,
      λ with some. read_key_next (Leaves (Suits key Other May) May) c compute with parks (on (Suits key Other May) May _ (λ b g. cc) (q.0, tt)),
    )
    on_item (plan.Ask load) rest e q = absurd q.0
    on_item (plan.Ask_op compute pair) rest e q = on (Suits key Other May) May _ (λ b g. cc) (q.0, tt)
    on_item (plan.Told load) rest e q = absurd q.0
    on_item (plan.Told_op compute pair) rest e q = (
      λ none. parks,
      λ given some. told_suits compute pair given p q.0 (reads compute pair rest given e some),
    )
    on_item (plan.Holds under stamp cause there stored) rest e q = absurd q.0
    on_item (plan.Moment (plan.To_store under value)) rest e q = on (Suits key Other May) May _ (λ b g. cc) (tt, q.1)
    on_item (plan.Moment (plan.To_take_out removal under)) rest e q = on (Suits key Other May) May _ (λ b g. cc) q
    on_item (plan.Write under value moment) rest e q = (
      (λ more. on (Suits key Other May) May _ (λ b g. cc) p),
      (λ off old. on (Suits key Other May) May _ (λ b g. cc) (tt, q.1)),
      (λ is_on. on (Suits key Other May) May _ (λ b g. cc) (tt, (tt, q.1))),
      λ k old is_on some. on (Suits key Other May) May _ (λ b g. cc) (tt, (tt, (tt, q.1))),
    )
    on_item (plan.Out removal under) rest e q = (
      (λ more. on (Suits key Other May) May _ (λ b g. cc) p),
      (λ off none. on (Suits key Other May) May _ (λ b g. cc) (tt, said_suits key Other May removal _ q.0.1)),
      (λ is_on none. on (Suits key Other May) May _ (λ b g. cc) (tt, said_suits key Other May removal _ q.0.1)),
      (λ k old off some. on (Suits key Other May) May _ (λ b g. cc) (tt, said_suits key Other May removal _ (q.0.0 old.value))),
      λ k old is_on some. on (Suits key Other May) May _ (λ b g. cc) (tt, (tt, (tt, said_suits key Other May removal _ (q.0.0 old.value)))),
    )
    on_item (plan.Register test) rest e q = absurd q.0
    on_item (plan.List_keys part) rest e q = absurd q.0
    on_item (plan.Find under) rest e q = absurd q.0
    on_item (plan.Scan there stored) rest e q = absurd q.0
    on_item (plan.Candidates parts) rest e q = absurd q.0
    on_item (plan.Strike there stored) rest e q = absurd q.0
    on_item plan.Retire rest e q = absurd q.0
    on_item (plan.Reply a) rest e q = answers_so (Suits key Other May) May a _ refl refl q.0
    on_item _ rest e q = goes_suits (Suits key Other May) May (λ a may. may) c rest q.1

    on_plan : (q : List (Item K V E)) → c.plan ≡ q → AllSuit (Suits key Other May) q → OnStep eq After w n c q
    on_plan [] e q = parks
    on_plan (item ∷ rest) e q = outcomes eq After w n c item rest (on_item item rest e q)

-- ---- along a way

module _ {K V E : Type 0} (eq : K → K → Bool) (n : ℕ) where
  -- what a call takes that takes the answer to its own ask
  took : (w after : World K V E) (c : Call K V E) (compute : Compute K) (pair : Option (K × V)) (rest : List (Item K V E)) (given : Got K V E) (told : Told V E)
      → c.plan ≡ plan.Told_op compute pair ∷ rest → w.desk.told n ≡ Some told → Gets eq n w (access_of n c) given after → given ≡ taken told
  took w after c compute pair rest given told is some gets =
      by given (subst (λ p. Gets eq n w (access_of n (record c { plan = p })) given after) is gets)
    where
      by : (given : Got K V E) → Gets eq n w (access_of n (record c { plan = plan.Told_op compute pair ∷ rest })) given after → given ≡ taken told
      by (got.Desk f) gets = ap got.Desk (gets.0 ∙ ap found.TakeTold some)
      by (got.Table turn) gets = absurd gets

  -- and what it finds that would go alone, where another compute of the key goes
  found_other : (w after : World K V E) (c : Call K V E) (under : K) (rest : List (Item K V E)) (owner : ℕ) (given : Got K V E)
      → c.plan ≡ plan.Own_alone under ∷ rest → w.desk.owners (computes_of under) ≡ Some owner → Gets eq n w (access_of n c) given after → given ≡ other_goes
  found_other w after c under rest owner given is some gets =
      by given (subst (λ p. Gets eq n w (access_of n (record c { plan = p })) given after) is gets)
    where
      by : (given : Got K V E) → Gets eq n w (access_of n (record c { plan = plan.Own_alone under ∷ rest })) given after → given ≡ other_goes
      by (got.Desk f) gets = ap got.Desk (gets.0 ∙ ap (λ o. found.OwnAlone (is_some o)) some)
      by (got.Table turn) gets = absurd gets

module _ {K V E : Type 0} (eq : K → K → Bool) (key : K) (Other : Type 0) (May : Answer K V E → Type 0) (such : Told V E → Type 0)
    (follows : (given : Told V E) (a : Answer K V E) → such given → Follows key given a → May a) (n : ℕ) where
  -- one step
  step_suits : (c : Call K V E) (given : Got K V E) → AllSuit (Suits key Other May) c.plan → MayBeGiven eq n c given → ((t : Told V E) → given ≡ taken t → such t)
      → (given ≡ other_goes → Other) → Leaves (Suits key Other May) May (next_of n c given)
  step_suits c given suits gives tells others =
      by_plan eq (λ w next. Leaves (Suits key Other May) May next) gives.world n c.rules c.mode c.plan c.aborts c.carried given gives.after gives.gets
      (on_plan key Other May such follows c eq gives.world n suits
      (λ compute pair rest t is some. tells t (took eq n gives.world gives.after c compute pair rest given t is some gives.gets))
      (λ under rest owner is some. others (found_other eq n gives.world gives.after c under rest owner given is some gives.gets)) c.plan refl suits)

  path_suits : (path : List (Got K V E)) (c d : Call K V E) → AllSuit (Suits key Other May) c.plan → MayLead eq n c path d → ((given : Got K V E) → Contains path given → (t : Told V E) → given ≡ taken t → such t)
      → ((given : Got K V E) → Contains path given → given ≡ other_goes → Other) → AllSuit (Suits key Other May) d.plan
  path_suits [] c d suits led tells others = subst (λ (v : Call K V E). AllSuit (Suits key Other May) v.plan) (sym led) suits
  path_suits (given ∷ more) c d suits led tells others =
      let next = step_suits c given suits led.1 (tells given (Contains-append_left (given ∷ []) more given (Contains-push [] given)))
      (others given (Contains-append_left (given ∷ []) more given (Contains-push [] given))) in
      path_suits more led.0 d (subst (λ v. AllSuit (Suits key Other May) (plan_left v)) led.2 next.suits) led.3
      (λ other there. tells other (Contains-append_right (given ∷ []) more other there))
      (λ other there. others other (Contains-append_right (given ∷ []) more other there))

-- ---- as a compute is started

module _ {K V E : Type 0} (eq : K → K → Bool) (parts : ℕ) (rules : Rules) (key : K) (path : List (Got K V E)) where
  fresh_suits : (begin : Start K V) → computed_key begin ≡ Some key → AllSuit (Suits key (Contains path other_goes) (ComputeAnswers begin key path)) (plan_of parts rules begin)
  fresh_suits (start.Compute under) is = (some_same is, tt)
  fresh_suits (start.TryCompute under) is = (some_same is, tt)
  fresh_suits (start.Upsert under) is = (some_same is, tt)
  fresh_suits (start.ComputeAlone under) is =
      ((some_same is, λ pair there. inr (refl, there, (pair, ap (λ k. unchanged k pair) (some_same is)))), tt)
  fresh_suits _ is = absurd (none_some is)

pub computes_tell : {K V E : Type 0} (eq : K → K → Bool) → ComputesTell K V E eq
computes_tell {K} {V} {E} eq parts rules begin key n path d given a computes led gives answers =
    let whole : List (Got K V E) = path ++ given ∷ [] in
    let such : Told V E → Type 0 = λ t. Contains whole (taken t) in
    let follows : (t : Told V E) (said : Answer K V E) → such t → Follows key t said → ComputeAnswers begin key whole said = λ t said tells is. inl (t, tells, is) in
    let suits = path_suits eq key (Contains whole other_goes) (ComputeAnswers begin key whole) such follows n path (fresh_call parts rules begin) d (fresh_suits eq parts rules key whole begin computes) led
    (λ g there t is. subst (Contains whole) is (Contains-append_left path (given ∷ []) g there))
    (λ g there is. subst (Contains whole) is (Contains-append_left path (given ∷ []) g there)) in
    (step_suits eq key (Contains whole other_goes) (ComputeAnswers begin key whole) such follows n d given suits gives
    (λ t is. subst (Contains whole) is (Contains-append_right path (given ∷ []) given (Contains-push [] given)))
    (λ is. subst (Contains whole) is (Contains-append_right path (given ∷ []) given (Contains-push [] given)))).now a answers
