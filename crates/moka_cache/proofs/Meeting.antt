-- A call that brings what meets the fact, and is told nothing else, stores, tells and answers what
-- meets it.
use Rattle.std.proofs.Common.{◌≡◌, ℕ, Bool, true, List, [], ◌∷◌, Option, Some, None, IfSome, refl, sym, ap, ◌∙◌, subst}
use Rattle.std.proofs.lemmas.Option.{none-some, same_Some}
use Rattle.std.specs.Prelude.{unwrap_or}
use Rattle.std.specs.Option.{option_map}
use Rattle.moka_hist.specs.Next.{Next, answers}
use Rattle.moka_hist.specs.Plan.{Item}
use Rattle.moka_hist.specs.Plan as plan
use Rattle.moka_hist.specs.Run.{fresh_call}
use Rattle.moka_hist.specs.State.{Call, World}
use Rattle.moka_hist.specs.Step.{Access, Gets, access_of, next_of, replace_of}
use Rattle.moka_hist.specs.declared.accesses.Got.{Got}
use Rattle.moka_hist.specs.declared.accesses.Got.TheVariants as got
use Rattle.moka_hist.specs.declared.accesses.Turn.{Turn}
use Rattle.moka_hist.specs.declared.accesses.Turn.TheVariants as turn
use Rattle.moka_hist.specs.declared.events.Start.{Start}
use Rattle.moka_hist.specs.declared.events.Told.{Told}
use Rattle.moka_hist.specs.declared.replies.Answer.{Answer}
use Rattle.moka_hist.specs.declared.replies.Ask.TheVariants as ask
use Rattle.moka_hist.specs.declared.rules.Rules.{Rules}
use Rattle.moka_hist.specs.declared.visits.Found.{Found}
use Rattle.moka_init.specs.FlowPlan.{call_of, key_read, tested_in}
use Rattle.moka_init.specs.declared.flow.Flow.{Flow}
use Rattle.moka_laws.specs.Fair.{CallFair, NextFair, PlanFair, ToldFair, TurnFair}
use Rattle.moka_laws.specs.Given.{value_in, value_of}
use Rattle.moka_laws.specs.Starts.{key_started}
use Rattle.moka_laws.proofs.FactSteps.{access_meets, fresh_meets, untold_meets}
use Rattle.moka_kept.specs.Facts.{Facts, MakesSo, TellsSo, ended_by, facts, pair_by}
use Rattle.moka_kept.specs.Meets.{CallMeets, FlowMeets}
use Rattle.moka_kept.specs.Paths.{CameWith, EndedWith, GivenSo, LeadsWith}
use Rattle.moka_kept.specs.Taking.{Answered, Taken, TookBy}
use Rattle.moka_kept.proofs.Ways.{came_on, came_weaker, ended_on, ended_weaker}
use Rattle.moka_cache.specs.Asked.{Accords}
use Rattle.moka_cache.specs.Meets.{BringsSo, CameIn, EndsIn, IsOwnKey, StageMeets, TellsKey}
use Rattle.moka_cache.specs.Stages.{CameOnWith, IsNamed, name_in}
use Rattle.moka_cache.specs.declared.stage.Stage.{Stage}
use Rattle.moka_cache.specs.declared.stage.Stage.TheVariants as stage

-- ---- a call, access by access

module _ {K V E : Type 0} (eq : K → K → Bool) (holds : K → V → Type 0)
    (alike : (a b : K) (value : V) → eq a b ≡ true → holds a value → holds b value) (q : K)
    (such : Taken V E → Type 0) (tells : (told : Told V E) (value : V) → such (Answered told) → value_in told ≡ Some value → holds q value) where
  -- what was told meets the fact, where the call takes it next
  told_so : (key : K) → key ≡ q → (told : Option (Told V E)) → IfSome told (λ t. such (Answered t)) → ToldFair holds key told
  told_so key is None took given value e f = absurd (none-some given e)
  told_so key is (Some t) took given value e f =
      subst (λ k. holds k value) (sym is) (tells t value took (ap value_in (same_Some t given e) ∙ f))

  told_meets : (w after : World K V E) (n : ℕ) (c : Call K V E) (given : Got K V E) → Gets eq n w (access_of n c) given after → TookBy (access_of n c) given such
      → PlanFair holds holds q None c.plan → PlanFair holds holds q (w.desk.told n) c.plan
  told_meets w after n c given gets took fair = by c.plan given gets took fair
    where
      by : (items : List (Item K V E)) (g : Got K V E) → Gets eq n w (access_of n (record c { plan = items })) g after
          → TookBy (access_of n (record c { plan = items })) g such → PlanFair holds holds q None items → PlanFair holds holds q (w.desk.told n) items
      by [] g gets took fair = fair
      by (plan.Told load ∷ rest) (got.Table t) gets took fair = absurd gets
      by (plan.Told load ∷ rest) (got.Desk d) gets took fair =
          ((fair.0.0, told_so load.key fair.0.0 (w.desk.told n) (subst (λ (x : Found V E). TookBy (access_of n (record c { plan = plan.Told load ∷ rest })) (got.Desk x) such) gets.0 took)), fair.1)
      by (plan.Told_op compute pair ∷ rest) (got.Table t) gets took fair = absurd gets
      by (plan.Told_op compute pair ∷ rest) (got.Desk d) gets took fair = (
        (
          fair.0.0,
          fair.0.1,
          told_so compute.key fair.0.0 (w.desk.told n)
              (subst (λ (x : Found V E). TookBy (access_of n (record c { plan = plan.Told_op compute pair ∷ rest })) (got.Desk x) such) gets.0 took),
        ),
        fair.1,
      )
      by (item ∷ rest) g gets took fair = fair

  -- each access leaves it so
  next_meets : (n : ℕ) (c : Call K V E) (given : Got K V E) → GivenSo (facts eq holds) n c given → TookBy (access_of n c) given such → PlanFair holds holds q None c.plan
      → (t : Option (Told V E)) × NextFair holds holds q t (next_of n c given)
  next_meets n c given so took fair =
      let w : World K V E = so.gave.world in (
        so.gave.after.desk.told n,
        (access_meets holds q eq alike w n c so.stored
            (λ sought rest is with reads value ended.
            subst (λ k. holds k value) (subst (PlanFair holds holds q None) is fair).0
            (so.reads sought.load.key with value (ap key_read is) reads ended))
            (told_meets w so.gave.after n c given so.gave.gets took fair) given so.gave.after so.gave.gets).1,
      )

  leads_meet : (n : ℕ) (c : Call K V E) (path : List (Access K V E × Got K V E)) (d : Call K V E) → LeadsWith (facts eq holds) such n c path d → PlanFair holds holds q None c.plan
      → PlanFair holds holds q None d.plan
  leads_meet n c [] d led fair = subst (λ (x : Call K V E). PlanFair holds holds q None x.plan) (sym led) fair
  leads_meet n c (made ∷ more) d led fair =
      leads_meet n led.0 more d led.5
      (left (next_meets n c made.1 led.2 (subst (λ (a : Access K V E). TookBy a made.1 such) led.1 led.4) fair) led.3)
    where
      left : (t : Option (Told V E)) × NextFair holds holds q t (next_of n c made.1) → (next_of n c made.1).left ≡ Some led.0 → PlanFair holds holds q None led.0.plan
      left next is = by (next_of n c made.1).left is next.1.0
        where
          by : (o : Option (Call K V E)) → o ≡ Some led.0 → CallFair holds holds q next.0 o → PlanFair holds holds q None led.0.plan
          by None e h = absurd (none-some led.0 e)
          by (Some x) e h = subst (λ (y : Call K V E). PlanFair holds holds q None y.plan) (same_Some x led.0 e) (untold_meets holds q next.0 x.plan h)

  -- ---- what it stores, tells and answers

  turn_tells : (t : Turn K V E) → TurnFair holds holds q t → TellsSo (facts eq holds) t
  turn_tells turn.Going fair pair is = absurd (none-some pair is)
  turn_tells turn.Wait fair pair is = absurd (none-some pair is)
  turn_tells (turn.Ask ask.Init) fair pair is = absurd (none-some pair is)
  turn_tells (turn.Ask (ask.Compute pairs)) fair pair is = (fair pair is).0
  turn_tells (turn.Ask (ask.Listener key value cause)) fair pair is =
      subst (λ (p : K × V). holds p.0 p.1) (same_Some (key, value) pair is) (subst (λ k. holds k value) (sym fair.0) fair.1)
  turn_tells (turn.Answer answer) fair pair is = absurd (none-some pair is)
  turn_tells (turn.Item key value) fair pair is = absurd (none-some pair is)

  makes_meet : (own : Option K) → ((key : K) → own ≡ Some key → key ≡ q) → (n : ℕ) (d : Call K V E) → PlanFair holds holds q None d.plan → MakesSo (facts eq holds) own (access_of n d)
  makes_meet own mine n d fair = (put d.plan fair, ended d.plan fair)
    where
      put : (items : List (Item K V E)) → PlanFair holds holds q None items → (pair : K × V) → pair_by (access_of n (record d { plan = items })) ≡ Some pair → holds pair.0 pair.1
      put [] fair pair is = absurd (none-some pair is)
      put (plan.Judge aim key found ∷ rest) fair pair is = subst (λ (p : K × V). holds p.0 p.1) (same_Some (key, found.value) pair is) fair.0.0.0
      put (plan.Write key value moment ∷ rest) fair pair is = subst (λ (p : K × V). holds p.0 p.1) (same_Some (key, value) pair is) fair.0.0
      put (_ ∷ rest) fair pair is = absurd (none-some pair is)

      ended : (items : List (Item K V E)) → PlanFair holds holds q None items → (key : K) (value : V) → own ≡ Some key → ended_by (access_of n (record d { plan = items })) ≡ Some value
          → holds key value
      ended [] fair key value keeps is = absurd (none-some value is)
      ended (plan.Settle with ∷ rest) fair key value keeps is = subst (λ k. holds k value) (sym (mine key keeps)) (fair.0 value is)
      ended (_ ∷ rest) fair key value keeps is = absurd (none-some value is)

  module _ (own : Option K) (mine : (key : K) → own ≡ Some key → key ≡ q) (n : ℕ) (c : Call K V E) (fair : PlanFair holds holds q None c.plan) where
    ended_meets : (next : Next K V E) → EndedWith (facts eq holds) such n c next → TurnFair holds holds q next.turn
    ended_meets next end =
        subst (λ (x : Next K V E). TurnFair holds holds q x.turn) (sym end.follows)
        (next_meets n end.call end.given end.last end.took (leads_meet n c end.came.0 end.call end.came.1 fair)).1.1

    pub call_meets : CallMeets (facts eq holds) own such n c
    call_meets = (
      λ d came. makes_meet own mine n d (leads_meet n c came.0 d came.1 fair),
      λ next end. turn_tells next.turn (ended_meets next end),
    )

    pub answer_meets : (answer : Answer K V E) (value : V) → EndedWith (facts eq holds) such n c (answers answer) → value_of answer ≡ Some value → holds q value
    answer_meets answer value end is = ended_meets (answers answer) end value is

-- the value on which a call's replace test is to be asked is one of a pair that is so
pub tested_meets : {K V E : Type 0} (f : Facts K V) (own : Option K) (n : ℕ) (c : Call K V E) → MakesSo f own (access_of n c) → (value : V) → tested_in c.plan ≡ Some value
    → (key : K) × f.holds key value
tested_meets {K} {V} {E} f own n c makes value is = by c.plan makes.0 is
  where
    same : (v : V) (o : Option ℕ) → option_map (λ test. v) o ≡ Some value → v ≡ value
    same v None e = absurd (none-some value e)
    same v (Some test) e = same_Some v value e

    by : (items : List (Item K V E)) → ((pair : K × V) → pair_by (access_of n (record c { plan = items })) ≡ Some pair → f.holds pair.0 pair.1) → tested_in items ≡ Some value → (key : K) × f.holds key value
    by [] so e = absurd (none-some value e)
    by (plan.Judge aim key found ∷ rest) so e = (key, subst (λ v. f.holds key v) (same found.value (replace_of aim) e) (so (key, found.value) refl))
    by (_ ∷ rest) so e = absurd (none-some value e)

-- ---- a fresh call

module _ {K V E : Type 0} (eq : K → K → Bool) (holds : K → V → Type 0)
    (alike : (a b : K) (value : V) → eq a b ≡ true → holds a value → holds b value) (gives : Told V E → Type 0) (tests : V → Bool → Type 0)
    (rules : Rules) (start : Start K V) (own : Option K) (brings : BringsSo holds start) (names : IsOwnKey start own) (tells : TellsKey holds start gives) where
  told_of : (q : K) → key_started start ≡ Some q → (told : Told V E) (value : V) → Accords gives tests (Answered told) → value_in told ≡ Some value → holds q value
  told_of q is told value given e = tells told q value given is e

  fresh_fair : (q : K) → key_started start ≡ Some q → PlanFair holds holds q None (fresh_call {E = E} 1 rules start).plan
  fresh_fair q is = subst (λ o. PlanFair holds holds (unwrap_or o q) None (fresh_call {E = E} 1 rules start).plan) is (fresh_meets E holds 1 rules start None q brings)

  own_is : (q : K) → key_started start ≡ Some q → (key : K) → own ≡ Some key → key ≡ q
  own_is q is key keeps = same_Some key q (sym (names key keeps) ∙ is)

  pub fresh_call_meets : (q : K) → key_started start ≡ Some q → (n : ℕ) → CallMeets (facts eq holds) own (Accords gives tests) n (fresh_call 1 rules start)
  fresh_call_meets q is n =
      call_meets eq holds alike q (Accords gives tests) (told_of q is) own (own_is q is) n (fresh_call 1 rules start) (fresh_fair q is)

  pub fresh_answer_meets : (q : K) → key_started start ≡ Some q → (n : ℕ) (answer : Answer K V E) (value : V)
      → EndedWith (facts eq holds) (Accords gives tests) n (fresh_call 1 rules start) (answers answer) → value_of answer ≡ Some value → holds q value
  fresh_answer_meets q is n answer value end =
      answer_meets eq holds alike q (Accords gives tests) (told_of q is) own (own_is q is) n (fresh_call 1 rules start) (fresh_fair q is) answer value end

-- ---- a state

module _ {A K V E : Type 0} (f : Facts K V) (own : Option K) (such : Taken V E → Type 0) (begins : A → Call K V E) where
  -- one that begins such a call
  pub fresh_stage : (begin : A) → ((n : ℕ) → CallMeets f own such n (begins begin)) → StageMeets f own such begins (stage.Fresh begin)
  fresh_stage begin meets = (λ n d came. (meets n).0 d came, λ n next end. (meets n).1 next end)

  -- one that has answered
  pub over_stage : (s : Stage A K V E) → s ≡ stage.Answered → StageMeets f own such begins s
  over_stage s over = subst (λ x. StageMeets f own such begins x) (sym over) (λ n d came. absurd came, λ n next end. absurd end)

  pub running_meets : (flow : Flow K V E) → StageMeets f own such begins (stage.Running flow) → FlowMeets f own such flow
  running_meets flow meets = (λ d way. meets.0 flow.call d (refl, way), λ next end. meets.1 flow.call next (refl, end))

module _ {A K V E : Type 0} (f : Facts K V) (such : Taken V E → Type 0) (begins : A → Call K V E) (names : A → Option K) where
  module _ (later : Taken V E → Type 0) (weaker : (taken : Taken V E) → later taken → such taken) where
    came_in_on : (old new : Stage A K V E) (n : ℕ) (d : Call K V E) → CameOnWith f such begins old new → CameIn f later begins new n d → CameIn f such begins old n d
    came_in_on (stage.Fresh a) (stage.Fresh b) n d came way = subst (λ x. CameWith f such n (begins x) d) came (came_weaker f later such weaker n (begins b) d way)
    came_in_on (stage.Fresh a) (stage.Running g) n d came way =
        subst (λ m. CameWith f such m (begins a) d) (sym way.0)
        (came_on f such g.call (begins a) (call_of g) d came (subst (λ m. CameWith f such m (call_of g) d) way.0 (came_weaker f later such weaker n (call_of g) d way.1)))
    came_in_on (stage.Running e) (stage.Running g) n d came way = (
      way.0 ∙ came.0,
      subst (λ m. CameWith f such m (call_of e) d) (sym (way.0 ∙ came.0))
          (came_on f such e.call (call_of e) (call_of g) d came.1
          (subst (λ m. CameWith f such m (call_of g) d) (way.0 ∙ came.0) (came_weaker f later such weaker n (call_of g) d way.1))),
    )
    came_in_on (stage.Running e) (stage.Fresh b) n d came way = absurd came
    came_in_on stage.Spent (stage.Fresh b) n d came way = absurd came
    came_in_on stage.Spent (stage.Running g) n d came way = absurd came
    came_in_on stage.Answered (stage.Fresh b) n d came way = absurd came
    came_in_on stage.Answered (stage.Running g) n d came way = absurd came
    came_in_on old stage.Spent n d came way = absurd way
    came_in_on old stage.Answered n d came way = absurd way

    ends_in_on : (old new : Stage A K V E) (n : ℕ) (next : Next K V E) → CameOnWith f such begins old new → EndsIn f later begins new n next → EndsIn f such begins old n next
    ends_in_on (stage.Fresh a) (stage.Fresh b) n next came end = subst (λ x. EndedWith f such n (begins x) next) came (ended_weaker f later such weaker n (begins b) next end)
    ends_in_on (stage.Fresh a) (stage.Running g) n next came end =
        subst (λ m. EndedWith f such m (begins a) next) (sym end.0)
        (ended_on f such g.call (begins a) (call_of g) next came (subst (λ m. EndedWith f such m (call_of g) next) end.0 (ended_weaker f later such weaker n (call_of g) next end.1)))
    ends_in_on (stage.Running e) (stage.Running g) n next came end = (
      end.0 ∙ came.0,
      subst (λ m. EndedWith f such m (call_of e) next) (sym (end.0 ∙ came.0))
          (ended_on f such e.call (call_of e) (call_of g) next came.1
          (subst (λ m. EndedWith f such m (call_of g) next) (end.0 ∙ came.0) (ended_weaker f later such weaker n (call_of g) next end.1))),
    )
    ends_in_on (stage.Running e) (stage.Fresh b) n next came end = absurd came
    ends_in_on stage.Spent (stage.Fresh b) n next came end = absurd came
    ends_in_on stage.Spent (stage.Running g) n next came end = absurd came
    ends_in_on stage.Answered (stage.Fresh b) n next came end = absurd came
    ends_in_on stage.Answered (stage.Running g) n next came end = absurd came
    ends_in_on old stage.Spent n next came end = absurd end
    ends_in_on old stage.Answered n next came end = absurd end

    own_on : (old new : Stage A K V E) (before after : Option K) (n : ℕ) (d : Call K V E) → IsNamed names old before new after → CameIn f later begins new n d
        → name_in names new after ≡ name_in names old before
    own_on old (stage.Fresh b) before after n d named way = named
    own_on old (stage.Running g) before after n d named way = named
    own_on old stage.Spent before after n d named way = absurd way
    own_on old stage.Answered before after n d named way = absurd way

    -- and still does after a poll
    pub meets_since : (old new : Stage A K V E) (before after : Option K) → CameOnWith f such begins old new → IsNamed names old before new after
        → StageMeets f (name_in names old before) such begins old → StageMeets f (name_in names new after) later begins new
    meets_since old new before after came named meets = (
      λ n d way. subst (λ o. MakesSo f o (access_of n d)) (sym (own_on old new before after n d named way)) (meets.0 n d (came_in_on old new n d came way)),
      λ n next end. meets.1 n next (ends_in_on old new n next came end),
    )
