-- A load answers what follows from what it was told or read, whatever it is given.
use Rattle.std.proofs.Common.{◌≡◌, ◌⊎◌, ℕ, ◌+◌, ◌==◌, Bool, true, false, List, [], ◌∷◌, ◌++◌, Some, None, IfSome, Contains, inl, inr, refl, sym, ap, ◌∙◌, subst}
use Rattle.std.proofs.lemmas.Bool.{false≢true}
use Rattle.std.proofs.lemmas.List.Elements.{Contains-append_left, Contains-append_right, Contains-push}
use Rattle.std.specs.Option.{unwrap_or}
use Rattle.moka_hist.specs.State.{World, Call}
use Rattle.moka_hist.specs.Conditions.{may_end}
use Rattle.moka_hist.specs.Loading.{after_abort, after_read, after_told, retries}
use Rattle.moka_hist.specs.Looking.{finds_pair, hits, misses}
use Rattle.moka_hist.specs.Next.{Next, goes, waits}
use Rattle.moka_hist.specs.Plan.{Aim, Item, is_disabled, load_plan, plan_of, seek}
use Rattle.moka_hist.specs.Plan as plan
use Rattle.moka_hist.specs.Run.{fresh_call}
use Rattle.moka_hist.specs.Step.{Gets, access_of, next_of, replace_of}
use Rattle.moka_hist.specs.Visits.{is_seen, settlement_for}
use Rattle.moka_hist.specs.declared.accesses.Got.{Got}
use Rattle.moka_hist.specs.declared.accesses.Got.TheVariants as got
use Rattle.moka_hist.specs.declared.events.Start.{Start}
use Rattle.moka_hist.specs.declared.events.Start.TheVariants as start
use Rattle.moka_hist.specs.declared.events.Told.{Told}
use Rattle.moka_hist.specs.declared.events.Told.TheVariants as told
use Rattle.moka_hist.specs.declared.loads.Kind.{Kind}
use Rattle.moka_hist.specs.declared.loads.Kind.TheVariants as kind
use Rattle.moka_hist.specs.declared.loads.Load.{Load}
use Rattle.moka_hist.specs.declared.loads.Sought.{Sought}
use Rattle.moka_hist.specs.declared.records.Stored.{Stored}
use Rattle.moka_hist.specs.declared.replies.Answer.{Answer}
use Rattle.moka_hist.specs.declared.replies.Answer.TheVariants as answer
use Rattle.moka_hist.specs.declared.rules.Rules.{Rules}
use Rattle.moka_hist.specs.declared.tables.TableAnswer.TheVariants as table
use Rattle.moka_hist.specs.declared.tables.TableTurn.TheVariants as look
use Rattle.moka_hist.specs.declared.visits.Found.TheVariants as found
use Rattle.moka_hist.specs.declared.visits.Settled.{Settled}
use Rattle.moka_hist.specs.declared.visits.Settled.TheVariants as settled
use Rattle.moka_laws.proofs.Counting.{none_some, some_same}
use Rattle.moka_laws.proofs.Outcomes.{Outcomes, outcomes}
use Rattle.moka_laws.proofs.Owning.{plan_left}
use Rattle.moka_laws.proofs.Rules.{loaded_plans}
use Rattle.moka_laws.proofs.StepCases.{OnStep, by_plan}
use Rattle.moka_needs.specs.Reads.{EndedAs, ReadsItsKind, kind_read}
use Rattle.moka_shapes.specs.Computes.{taken}
use Rattle.moka_shapes.specs.Loads.{FollowsEnd, FollowsTold, LoadAnswers, LoadsTell, MayGiveLoad, MayLeadLoad, judged, looked, read}
use Rattle.moka_laws.specs.Starts.{kind_loaded}
use Rattle.moka_shapes.proofs.Leaving.{AllSuit, Leaves, answers_so, goes_suits, on}

-- what a load of this kind may answer that is given this
record Says {K V E : Type 0} (kind : Kind) (given : Got K V E) (Judged : Type 0) (May : Answer K V E → Type 0) : Type 0 where
  told : (gave : Told V E) (a : Answer K V E) → given ≡ taken gave → FollowsTold gave a → May a
  ended : (with : Settled V E) (a : Answer K V E) → given ≡ read with → FollowsEnd kind with a → May a
  gives_up : given ≡ read settled.Aborted → May answer.RetriesExhausted
  finds : (there : K) (stored : Stored V) → given ≡ looked there stored → Judged → May (answer.Loaded stored.value false)
  judges : given ≡ judged → Judged

-- ---- what begins with a look

module _ {K V E : Type 0} where
  abbrev is_look : Item K V E → Bool
  is_look (plan.Get aim key) = true
  is_look _ = false

  abbrev looks_first : List (Item K V E) → Bool
  looks_first [] = false
  looks_first (item ∷ rest) = is_look item

  abbrev Looks : List (Item K V E) → Type 0
  Looks p = (aim : Aim K V) × (key : K) × (rest : List (Item K V E)) × (p ≡ plan.Get aim key ∷ rest)

  item_looks : (item : Item K V E) (rest : List (Item K V E)) → Looks (item ∷ rest) ⊎ (is_look item ≡ false)
  item_looks (plan.Get aim key) rest = inl (aim, key, rest, refl)
  item_looks _ rest = inr refl

  -- a plan begins with a look, or doesn't
  looks_or_not : (p : List (Item K V E)) → Looks p ⊎ (looks_first p ≡ false)
  looks_or_not [] = inr refl
  looks_or_not (item ∷ rest) = item_looks item rest

-- ---- what suits a load of this kind, which may answer so

module _ {K V E : Type 0} (kind : Kind) (Judged : Type 0) (May : Answer K V E → Type 0) where
  -- a look for this goes on as the load may
  abbrev SuitsAim : Aim K V → Type 0
  SuitsAim (plan.To_load sought) = sought.load.kind ≡ kind
  SuitsAim (plan.To_own sought) = sought.load.kind ≡ kind
  SuitsAim _ = ⊥

  -- the item answers as the load may, and is no other call's
  abbrev Suits : Item K V E → Type 0
  Suits (plan.Get aim key) = SuitsAim aim
  Suits (plan.Judge aim key stored) = SuitsAim aim × (Judged → May (answer.Loaded stored.value false))
  Suits (plan.Own sought) = sought.load.kind ≡ kind
  Suits (plan.Read sought) = sought.load.kind ≡ kind
  Suits (plan.Own_key compute) = ⊥
  Suits (plan.Own_alone key) = ⊥
  Suits (plan.Read_key compute) = ⊥
  Suits (plan.Ask_op compute pair) = ⊥
  Suits (plan.Told_op compute pair) = ⊥
  Suits (plan.Holds key stamp cause there stored) = ⊥
  Suits (plan.Moment (plan.To_take_out removal key)) = ⊥
  Suits (plan.Out removal key) = ⊥
  Suits (plan.Register test) = ⊥
  Suits (plan.List_keys part) = ⊥
  Suits (plan.Find under) = ⊥
  Suits (plan.Scan there stored) = ⊥
  Suits (plan.Candidates parts) = ⊥
  Suits (plan.Strike there stored) = ⊥
  Suits plan.Retire = ⊥
  Suits (plan.Reply a) = May a
  Suits _ = Unit {0}

  module _ (c : Call K V E) where
    misses_suit : (aim : Aim K V) → SuitsAim aim → Leaves Suits May (misses c aim)
    misses_suit (plan.To_load sought) s = on Suits May _ (λ b e. cc) (s, tt)
    misses_suit (plan.To_own sought) s = on Suits May _ (λ b e. cc) (tt, tt)
    misses_suit _ s = absurd s

    finds_suit : (aim : Aim K V) (there : K) (stored : Stored V) → (Judged → May (answer.Loaded stored.value false)) → SuitsAim aim → Leaves Suits May (finds_pair c aim there stored)
    finds_suit (plan.To_load sought) there stored may s = on Suits May _ (λ b e. cc) ((s, may), tt)
    finds_suit (plan.To_own sought) there stored may s = on Suits May _ (λ b e. cc) ((s, may), tt)
    finds_suit _ there stored may s = absurd s

    hits_suit : (aim : Aim K V) (there : K) (value : V) → May (answer.Loaded value false) → SuitsAim aim → Leaves Suits May (hits c aim there value)
    hits_suit (plan.To_load sought) there value may s = answers_so Suits May (answer.Loaded value false) _ refl refl may
    hits_suit (plan.To_own sought) there value may s = on Suits May _ (λ b e. cc) (tt, (may, tt))
    hits_suit _ there value may s = absurd s

module _ {K V E : Type 0} (kind : Kind) (Judged : Type 0) (May : Answer K V E → Type 0) (given : Got K V E) (says : Says kind given Judged May) (c : Call K V E) where
  -- what follows from what it was told
  told_suits : (load : Load K) (gave : Told V E) → AllSuit (Suits kind Judged May) c.plan → given ≡ taken gave → Leaves (Suits kind Judged May) May (after_told c load (found.TakeTold (Some gave)))
  told_suits load (told.Value value) p is =
      let may : May (answer.Loaded value true) = says.told (told.Value value) _ is refl in
      loaded_plans (λ q. Leaves (Suits kind Judged May) May (goes c q)) c.rules load value
      (on (Suits kind Judged May) May _ (λ b e. cc) (tt, (may, tt))) (on (Suits kind Judged May) May _ (λ b e. cc) (tt, (tt, (tt, (may, tt)))))
      (on (Suits kind Judged May) May _ (λ b e. cc) (tt, (tt, (tt, (tt, (may, tt))))))
  told_suits load (told.Err error) p is = on (Suits kind Judged May) May _ (λ b e. cc) (tt, (says.told (told.Err error) _ is refl, tt))
  told_suits load told.Nothing p is = on (Suits kind Judged May) May _ (λ b e. cc) (tt, (says.told told.Nothing _ is refl, tt))
  told_suits load _ p is = on (Suits kind Judged May) May _ (λ b e. cc) p

  -- what follows from how its owner ended
  read_suits : (sought : Sought K) (with : Settled V E) → AllSuit (Suits kind Judged May) c.plan → sought.load.kind ≡ kind → given ≡ read with → may_end kind with ≡ true
      → Leaves (Suits kind Judged May) May (after_read c sought (found.ReadSettled with))
  read_suits sought (settled.Ready value) p same is may = answers_so (Suits kind Judged May) May (answer.Loaded value false) _ refl refl (says.ended (settled.Ready value) _ is (may, refl))
  read_suits sought (settled.Err error) p same is may = answers_so (Suits kind Judged May) May (answer.InitErr error) _ refl refl (says.ended (settled.Err error) _ is (may, refl))
  read_suits sought settled.Nothing p same is may = answers_so (Suits kind Judged May) May answer.Nothing _ refl refl (says.ended settled.Nothing _ is (may, refl))
  read_suits sought settled.NotYet p same is may = on (Suits kind Judged May) May _ (λ b e. cc) p
  read_suits sought settled.Aborted p same is may = by (c.aborts + 1 == retries) refl
    where
      by : (b : Bool) → (c.aborts + 1 == retries) ≡ b → Leaves (Suits kind Judged May) May (after_abort c sought)
      by true e = rw e (answers_so (Suits kind Judged May) May answer.RetriesExhausted _ refl refl (says.gives_up is))
      by false e = rw e (on (Suits kind Judged May) May _ (λ b e. cc) (same, tt))

  -- what follows from a look
  look_suits : (n : ℕ) (aim : Aim K V) (key : K) (rest : List (Item K V E)) → AllSuit (Suits kind Judged May) (plan.Get aim key ∷ rest)
      → Leaves (Suits kind Judged May) May (next_of n (record c { plan = plan.Get aim key ∷ rest }) given)
  look_suits n aim key rest p = by given (λ k stored is. says.finds k stored is)
    where
      by : (g : Got K V E) → ((k : K) (stored : Stored V) → g ≡ looked k stored → Judged → May (answer.Loaded stored.value false))
          → Leaves (Suits kind Judged May) May (next_of n (record c { plan = plan.Get aim key ∷ rest }) g)
      by (got.Table (look.Decided table.None)) finds = misses_suit kind Judged May (record c { plan = plan.Get aim key ∷ rest }) aim p.0
      by (got.Table (look.Decided (table.Some k stored))) finds =
          finds_suit kind Judged May (record c { plan = plan.Get aim key ∷ rest }) aim k stored (finds k stored refl) p.0
      by _ finds = on (Suits kind Judged May) May _ (λ b e. cc) p

  module _ (eq : K → K → Bool) (w : World K V E) (n : ℕ) (p : AllSuit (Suits kind Judged May) c.plan)
      (acts : looks_first c.plan ≡ false)
      (tells : (load : Load K) (rest : List (Item K V E)) (gave : Told V E) → c.plan ≡ plan.Told load ∷ rest → w.desk.told n ≡ Some gave → given ≡ taken gave)
      (sees : (aim : Aim K V) (key : K) (stored : Stored V) (rest : List (Item K V E)) → c.plan ≡ plan.Judge aim key stored ∷ rest → is_seen w.desk (replace_of aim) key stored ≡ true → Judged)
      (reads : (sought : Sought K) (rest : List (Item K V E)) (with : Settled V E) → c.plan ≡ plan.Read sought ∷ rest → settlement_for w.desk n ≡ Some with
      → (given ≡ read with) × (may_end sought.load.kind with ≡ true)) where
    abbrev After : World K V E → Next K V E → Type 0
    After new next = Leaves (Suits kind Judged May) May next

    parks : Leaves (Suits kind Judged May) May (waits c)
    parks = on (Suits kind Judged May) May _ (λ b e. cc) p

    on_item : (item : Item K V E) (rest : List (Item K V E)) → c.plan ≡ item ∷ rest → AllSuit (Suits kind Judged May) (item ∷ rest) → Outcomes eq After w n c item rest
    on_item plan.Drain rest e q = (
      λ f. goes_suits (Suits kind Judged May) May (λ a may. may) c rest q.1,
      λ x xs f. on (Suits kind Judged May) May _ (λ b g. cc) (tt, q),
      λ x number xs f. on (Suits kind Judged May) May _ (λ b g. cc) (tt, (tt, q)),
    )
    on_item (plan.Ended number) rest e q = (λ f. goes_suits (Suits kind Judged May) May (λ a may. may) c rest q.1, λ f. parks)
    on_item plan.Heard rest e q = (λ f. goes_suits (Suits kind Judged May) May (λ a may. may) c rest q.1, λ f. parks)
    on_item (plan.Lock key) rest e q = (λ f. goes_suits (Suits kind Judged May) May (λ a may. may) c rest q.1, λ f. parks)
    on_item (plan.Notice key old cause upsert) rest e q =
        (λ f. goes_suits (Suits kind Judged May) May (λ a may. may) c rest q.1, λ f. on (Suits kind Judged May) May _ (λ b g. cc) (tt, q.1))
    on_item (plan.Post write) rest e q =
        (λ f. goes_suits (Suits kind Judged May) May (λ a may. may) c rest q.1, λ f. on (Suits kind Judged May) May _ (λ b g. cc) (tt, (tt, (tt, q))))
    on_item plan.Turn rest e q = (λ f. goes_suits (Suits kind Judged May) May (λ a may. may) c rest q.1, λ f. parks)
    on_item plan.Apply rest e q = (λ f. goes_suits (Suits kind Judged May) May (λ a may. may) c rest q.1, λ x xs f. on (Suits kind Judged May) May _ (λ b g. cc) q)
    on_item (plan.Get aim key) rest e q = absurd (false≢true (sym acts ∙ ap looks_first e))
    on_item (plan.Judge aim key stored) rest e q =
        ((λ seen. hits_suit kind Judged May c aim key stored.value (q.0.1 (sees aim key stored rest e seen)) q.0.0), λ unseen. misses_suit kind Judged May c aim q.0.0)
    on_item (plan.Own sought) rest e q = (
      λ able none. on (Suits kind Judged May) May _ (λ b g. cc) (q.0, tt),
      λ disabled none. on (Suits kind Judged May) May _ (λ b g. cc) (tt, tt),
      λ owner some. on (Suits kind Judged May) May _ (λ b g. cc) (q.0, tt),
    )
    on_item (plan.Own_key compute) rest e q = absurd q.0
    on_item (plan.Own_alone key) rest e q = absurd q.0
    on_item (plan.Read sought) rest e q = (
      λ none. parks,
      λ with some. let ends = reads sought rest with e some in
          read_suits sought with p q.0 ends.0 (subst (λ k. may_end k with ≡ true) q.0 ends.1),
    )
    on_item (plan.Read_key compute) rest e q = absurd q.0
    on_item (plan.Ask load) rest e q = on (Suits kind Judged May) May _ (λ b g. cc) (tt, tt)
    on_item (plan.Ask_op compute pair) rest e q = absurd q.0
    on_item (plan.Told load) rest e q = (λ none. parks, λ gave some. told_suits load gave p (tells load rest gave e some))
    on_item (plan.Told_op compute pair) rest e q = absurd q.0
    on_item (plan.Holds key stamp cause there stored) rest e q = absurd q.0
    on_item (plan.Moment (plan.To_store key value)) rest e q = on (Suits kind Judged May) May _ (λ b g. cc) (tt, q.1)
    on_item (plan.Moment (plan.To_take_out removal key)) rest e q = absurd q.0
    on_item (plan.Write key value moment) rest e q = (
      (λ more. on (Suits kind Judged May) May _ (λ b g. cc) p),
      (λ off old. on (Suits kind Judged May) May _ (λ b g. cc) (tt, q.1)),
      (λ is_on. on (Suits kind Judged May) May _ (λ b g. cc) (tt, (tt, q.1))),
      λ k old is_on some. on (Suits kind Judged May) May _ (λ b g. cc) (tt, (tt, (tt, q.1))),
    )
    on_item (plan.Out removal key) rest e q = absurd q.0
    on_item (plan.Register test) rest e q = absurd q.0
    on_item (plan.List_keys part) rest e q = absurd q.0
    on_item (plan.Find under) rest e q = absurd q.0
    on_item (plan.Scan there stored) rest e q = absurd q.0
    on_item (plan.Candidates parts) rest e q = absurd q.0
    on_item (plan.Strike there stored) rest e q = absurd q.0
    on_item plan.Retire rest e q = absurd q.0
    on_item (plan.Reply a) rest e q = answers_so (Suits kind Judged May) May a _ refl refl q.0
    on_item _ rest e q = goes_suits (Suits kind Judged May) May (λ a may. may) c rest q.1

    on_plan : (q : List (Item K V E)) → c.plan ≡ q → AllSuit (Suits kind Judged May) q → OnStep eq After w n c q
    on_plan [] e q = parks
    on_plan (item ∷ rest) e q = outcomes eq After w n c item rest (on_item item rest e q)

-- ---- along a way

module _ {K V E : Type 0} (eq : K → K → Bool) (n : ℕ) (w after : World K V E) (c : Call K V E) (given : Got K V E) (gets : Gets eq n w (access_of n c) given after) where
  -- what a call takes that takes the answer to its own ask
  took : (load : Load K) (rest : List (Item K V E)) (gave : Told V E) → c.plan ≡ plan.Told load ∷ rest → w.desk.told n ≡ Some gave → given ≡ taken gave
  took load rest gave is some = by given (subst (λ p. Gets eq n w (access_of n (record c { plan = p })) given after) is gets)
    where
      by : (given : Got K V E) → Gets eq n w (access_of n (record c { plan = plan.Told load ∷ rest })) given after → given ≡ taken gave
      by (got.Desk f) gets = ap got.Desk (gets.0 ∙ ap found.TakeTold some)
      by (got.Table turn) gets = absurd gets

  -- what it finds that judges what was found
  did_judge : (aim : Aim K V) (key : K) (stored : Stored V) (rest : List (Item K V E)) → c.plan ≡ plan.Judge aim key stored ∷ rest
      → is_seen w.desk (replace_of aim) key stored ≡ true → given ≡ judged
  did_judge aim key stored rest is seen = by given (subst (λ p. Gets eq n w (access_of n (record c { plan = p })) given after) is gets)
    where
      by : (given : Got K V E) → Gets eq n w (access_of n (record c { plan = plan.Judge aim key stored ∷ rest })) given after → given ≡ judged
      by (got.Desk f) gets = ap got.Desk (gets.0 ∙ ap found.Judge seen)
      by (got.Table turn) gets = absurd gets

  -- and what it reads that reads how its owner ended
  did_read : (sought : Sought K) (rest : List (Item K V E)) (with : Settled V E) → c.plan ≡ plan.Read sought ∷ rest → settlement_for w.desk n ≡ Some with → given ≡ read with
  did_read sought rest with is some = by given (subst (λ p. Gets eq n w (access_of n (record c { plan = p })) given after) is gets)
    where
      by : (given : Got K V E) → Gets eq n w (access_of n (record c { plan = plan.Read sought ∷ rest })) given after → given ≡ read with
      by (got.Desk f) gets = ap got.Desk (gets.0 ∙ ap (λ end. found.ReadSettled (unwrap_or end settled.NotYet)) some)
      by (got.Table turn) gets = absurd gets

module _ {K V E : Type 0} (n : ℕ) (w : World K V E) (c : Call K V E) where
  -- it ended as one of the kind may
  ends_so : (sought : Sought K) (rest : List (Item K V E)) (with : Settled V E) → ReadsItsKind w.desk n c → c.plan ≡ plan.Read sought ∷ rest → settlement_for w.desk n ≡ Some with
      → may_end sought.load.kind with ≡ true
  ends_so sought rest with ends is some =
      let reads : EndedAs w.desk n sought.load.kind = subst (λ p. IfSome (kind_read p) (EndedAs w.desk n)) is ends in
      subst (λ end. IfSome end (λ v. may_end sought.load.kind v ≡ true)) some reads

module _ {K V E : Type 0} (eq : K → K → Bool) (kind : Kind) (Judged : Type 0) (May : Answer K V E → Type 0) (n : ℕ) where
  -- one step
  step_suits : (c : Call K V E) (given : Got K V E) → Says kind given Judged May → AllSuit (Suits kind Judged May) c.plan → MayGiveLoad eq n c given → Leaves (Suits kind Judged May) May (next_of n c given)
  step_suits c given says suits by = split (looks_or_not c.plan)
    where
      split : Looks c.plan ⊎ (looks_first c.plan ≡ false) → Leaves (Suits kind Judged May) May (next_of n c given)
      split (inl looks) =
          subst (λ q. Leaves (Suits kind Judged May) May (next_of n (record c { plan = q }) given)) (sym looks.3)
          (look_suits kind Judged May given says c n looks.0 looks.1 looks.2 (subst (AllSuit (Suits kind Judged May)) looks.3 suits))
      split (inr acts) =
          by_plan eq (λ w next. Leaves (Suits kind Judged May) May next) by.gives.world n c.rules c.mode c.plan c.aborts c.carried given by.gives.after by.gives.gets
          (on_plan kind Judged May given says c eq by.gives.world n suits acts (took eq n by.gives.world by.gives.after c given by.gives.gets)
          (λ aim key stored rest is seen. says.judges (did_judge eq n by.gives.world by.gives.after c given by.gives.gets aim key stored rest is seen))
          (λ sought rest with is some. (did_read eq n by.gives.world by.gives.after c given by.gives.gets sought rest with is some, ends_so n by.gives.world c sought rest with by.ends is some)) c.plan refl suits)

  path_suits : (path : List (Got K V E)) (c d : Call K V E) → ((given : Got K V E) → Contains path given → Says kind given Judged May) → AllSuit (Suits kind Judged May) c.plan → MayLeadLoad eq n c path d
      → AllSuit (Suits kind Judged May) d.plan
  path_suits [] c d says suits led = subst (λ (v : Call K V E). AllSuit (Suits kind Judged May) v.plan) (sym led) suits
  path_suits (given ∷ more) c d says suits led =
      let next = step_suits c given (says given (Contains-append_left (given ∷ []) more given (Contains-push [] given))) suits led.1 in
      path_suits more led.0 d (λ other there. says other (Contains-append_right (given ∷ []) more other there)) (subst (λ v. AllSuit (Suits kind Judged May) (plan_left v)) led.2 next.suits) led.3

-- ---- as a load is started

module _ {K V E : Type 0} (Judged : Type 0) (May : Answer K V E → Type 0) where
  load_suits : (b : Bool) (sought : Sought K) (kind : Kind) → sought.load.kind ≡ kind → AllSuit (Suits kind Judged May) (load_plan b sought)
  load_suits true sought kind is = (tt, (is, tt))
  load_suits false sought kind is = (tt, (is, tt))

  fresh_suits : (parts : ℕ) (rules : Rules) (begin : Start K V) (k : Kind) → kind_loaded begin ≡ Some k → AllSuit (Suits k Judged May) (plan_of parts rules begin)
  fresh_suits parts rules (start.GetWith key replace) k is = load_suits (is_disabled rules) (seek kind.GetWith key replace) k (some_same is)
  fresh_suits parts rules (start.Optional key) k is = load_suits (is_disabled rules) (seek kind.Optional key None) k (some_same is)
  fresh_suits parts rules (start.Try key) k is = load_suits (is_disabled rules) (seek kind.Try key None) k (some_same is)
  fresh_suits parts _ _ k is = absurd (none_some is)

-- an access of the way says what the load may answer
says_of : {K V E : Type 0} (kind : Kind) (path : List (Got K V E)) (given : Got K V E) → Contains path given → Says kind given (Contains path judged) (LoadAnswers kind path)
says_of kind path given there = record {
  told = λ gave a is follows. inl (gave, subst (Contains path) is there, follows);
  ended = λ with a is follows. inr (inl (with, subst (Contains path) is there, follows));
  gives_up = λ is. inr (inr (inr (subst (Contains path) is there, refl)));
  finds = λ k stored is seen. inr (inr (inl (k, stored, subst (Contains path) is there, seen, refl)));
  judges = λ is. subst (Contains path) is there;
}

pub loads_tell : {K V E : Type 0} (eq : K → K → Bool) → LoadsTell K V E eq
loads_tell {K} {V} {E} eq parts rules begin kind n path d given said loads led gives answers =
    let whole : List (Got K V E) = path ++ given ∷ [] in
    let May : Answer K V E → Type 0 = LoadAnswers kind whole in
    let Judged : Type 0 = Contains whole judged in
    let suits = path_suits eq kind Judged May n path (fresh_call parts rules begin) d
    (λ other there. says_of kind whole other (Contains-append_left path (given ∷ []) other there)) (fresh_suits Judged May parts rules begin kind loads) led in
    (step_suits eq kind Judged May n d given (says_of kind whole given (Contains-append_right path (given ∷ []) given (Contains-push [] given))) suits gives).now said answers
