-- A get that follows an insert undisturbed finds its value.
use Rattle.std.proofs.Common.{◌≡◌, ◌⊎◌, inl, inr, ℕ, ◌+◌, ◌≤◌, Bool, true, false, cond, List, [], ◌∷◌, All, Option, Some, None, is_some, refl, sym, ap, ◌∙◌, subst, arith}
use Rattle.std.proofs.lemmas.List.Elements.{All-head, All-tail}
use Rattle.moka_hist.specs.Finite.{put_key}
use Rattle.moka_hist.specs.State.{State, World, Call}
use Rattle.moka_hist.specs.Plan.{Item, get_plan, insert_plan, is_disabled}
use Rattle.moka_hist.specs.Plan as plan
use Rattle.moka_hist.specs.Next.{Next, goes}
use Rattle.moka_hist.specs.Step.{Step}
use Rattle.moka_hist.specs.Run.{Any, Run, fresh_call, started}
use Rattle.moka_hist.specs.declared.accesses.Turn.{Turn}
use Rattle.moka_hist.specs.declared.accesses.Turn.TheVariants as turn
use Rattle.moka_hist.specs.declared.events.Event.{Event}
use Rattle.moka_hist.specs.declared.events.Start.{Start}
use Rattle.moka_hist.specs.declared.events.Start.TheVariants as start
use Rattle.moka_hist.specs.declared.records.Stored.{Stored}
use Rattle.moka_hist.specs.declared.replies.Answer.{Answer}
use Rattle.moka_hist.specs.declared.replies.Answer.TheVariants as answer
use Rattle.moka_hist.specs.declared.replies.Reply.{Reply}
use Rattle.moka_laws.specs.Alone.{IsVisibleAt}
use Rattle.moka_laws.specs.Looks.{is_visible_in}
use Rattle.moka_laws.proofs.Counting.{none_some, put_here, some_same}
use Rattle.moka_laws.proofs.Outcomes.{Outcomes, outcomes}
use Rattle.moka_laws.proofs.Rules.{put_plans}
use Rattle.moka_laws.proofs.Steady.{step_last, step_rules}
use Rattle.moka_laws.proofs.StepCases.{OnStep, step_cases}
use Rattle.moka_callers.specs.Changing.{ChangesBy, MakesNoStep}
use Rattle.moka_callers.specs.Inserting.{record_of}
use Rattle.moka_callers.specs.Undisturbed.{AnswersUndisturbed, InsertedIsFound}
use Rattle.moka_callers.proofs.Changed.{by_writes}
use Rattle.moka_callers.proofs.Began.{gives}
use Rattle.moka_callers.proofs.Inserted.{After, AreInserting, LeftSo, on_plan, puts_ahead}
use Rattle.moka_callers.proofs.Turning.{live_still}
use Rattle.moka_callers.proofs.Quiet.{Quiet, follow_alone, quiet}

not_both : (b : Bool) → b ≡ true → b ≡ false → ⊥
not_both b e f = cc

same_answer : {K V E : Type 0} (x y : Answer K V E) →
    ◌≡◌ {A = Turn K V E} (turn.Answer x) (turn.Answer y) → x ≡ y
same_answer x y e = cc

module _ {K V E : Type 0} (P : Call K V E → Type 0) where
  -- it holds of the call, if that lives
  abbrev Of : Option (Call K V E) → Type 0
  Of None = Unit {0}
  Of (Some c) = P c

  -- so once it is the same or none
  of_quiet : (old new : Option (Call K V E)) → (new ≡ old) ⊎ (new ≡ None) → Of old → Of new
  of_quiet old new (inl same) h = subst Of (sym same) h
  of_quiet old new (inr none) h = subst Of (sym none) tt

module _ {K V E : Type 0} (eq : K → K → Bool) (begin : Start K V)
    (P : Call K V E → Type 0) where
  -- what holds of the call as it is started
  given_first : (s b : State K V E) (m : ℕ) → (m ≡ s.world.desk.last + 1) × (b ≡ started s begin) →
      P (fresh_call s.world.table.division.parts s.world.desk.rules begin) → Of P (b.calls m)
  given_first s b m is p = subst (λ (v : State K V E). Of P (v.calls m)) (sym is.1)
      (subst (Of P) (sym (ap (λ k. (started s begin).calls k) is.0 ∙
      put_here s.calls (s.world.desk.last + 1) _)) p)

  given_born : (s b : State K V E) (m : ℕ) → (m ≡ s.world.desk.last + 1) × (b ≡ started s begin) →
      m ≤ b.world.desk.last
  given_born s b m is = omega (arith, is.0, ap (λ (v : State K V E). v.world.desk.last) is.1)

-- ---- the insert

module _ {K V : Type 0} (eq : K → K → Bool) (key q : K) (value : V) (n : ℕ) where
  -- the inserted value stands under the equal key
  abbrev HasIt : (K → Option (K × Stored V)) → Type 0
  HasIt stored = (moment : ℕ) × (stored q ≡ Some (key, record_of n value moment))

  put_has : eq key q ≡ true → (old : K → Option (K × Stored V)) (moment : ℕ) →
      HasIt (put_key eq old key (Some (key, record_of n value moment)))
  put_has alike old moment =
      (moment, ap (λ b. cond b (Some (key, record_of n value moment)) (old q)) alike)

module _ {K V E : Type 0} (eq : K → K → Bool) (key q : K) (value : V) (n : ℕ)
    (alike : eq key q ≡ true) where
  -- no item of an insert makes it leave
  keeps_it : (p : List (Item K V E)) (old new : K → Option (K × Stored V)) →
      AreInserting key value p → ChangesBy eq n p old new → HasIt eq key q value n old → HasIt eq key q value n new
  keeps_it [] old new are is has = subst (HasIt eq key q value n) (sym is) has
  keeps_it (plan.Write at v moment ∷ rest) old new are (inl is) has = subst (HasIt eq key q value n) (sym is) has
  keeps_it (plan.Write at v moment ∷ rest) old new are (inr is) has =
      subst (HasIt eq key q value n) (sym (is ∙
      ap (λ k. put_key eq old k (Some (k, record_of n v moment))) are.0.0 ∙
      ap (λ x. put_key eq old key (Some (key, record_of n x moment))) are.0.1))
      (put_has eq key q value n alike old moment)
  keeps_it (plan.Out removal at ∷ rest) old new are is has = absurd are.0
  keeps_it (item ∷ rest) old new are is has = subst (HasIt eq key q value n) (sym is) has

  abbrev Inserts : State K V E → Call K V E → Type 0
  Inserts s c = AreInserting key value c.plan ×
      ((puts_ahead key value c.plan ≡ true) ⊎ HasIt eq key q value n s.world.table.stored)

  -- where the insert stands
  record Inserting (s : State K V E) : Type 0 where
    born : n ≤ s.world.desk.last
    able : is_disabled s.world.desk.rules ≡ false
    so : Of (Inserts s) (s.calls n)

  inserts_same : (s t : State K V E) → t.world.table ≡ s.world.table →
      (o : Option (Call K V E)) → Of (Inserts s) o → Of (Inserts t) o
  inserts_same s t same None h = tt
  inserts_same s t same (Some c) (are, inl ahead) = (are, inl ahead)
  inserts_same s t same (Some c) (are, inr has) =
      (are, inr (subst (λ x. HasIt eq key q value n x) (ap (λ x. x.stored) (sym same)) has))

  inserting_on : (s t : State K V E) → Quiet eq n s t → Inserting s → Inserting t
  inserting_on s t still i = record {
    born = omega (arith, i.born, still.last);
    able = ap is_disabled still.rules ∙ i.able;
    so = inserts_same s t still.table (t.calls n)
        (of_quiet (Inserts s) (s.calls n) (t.calls n) (still.call i.born) i.so);
  }

  -- where it is left by its step: it answers only once the value stands
  insert_left : (s t : State K V E) (turn : Turn K V E) → Inserting s →
      (step : Step eq s n turn t) →
      LeftSo key value eq n s.world step.call (HasIt eq key q value n t.world.table.stored) t.world.table.stored
      (t.calls n)
  insert_left s t turn i step =
      let c : Call K V E = step.call in
      let now : Inserts s c = subst (Of (Inserts s)) step.live i.so in
      let Made : Type 0 = HasIt eq key q value n t.world.table.stored in
      step_cases eq (After key value eq n s.world c Made)
      (λ v r. LeftSo key value eq n s.world c Made v.world.table.stored (v.calls n)) s t n turn step
      (on_plan key value eq n s.world c Made now.0 (more c now step.live) c.plan refl)
      (λ w next left. subst (LeftSo key value eq n s.world c Made w.table.stored)
      (sym (put_here s.calls n next.left)) left)
    where
      more : (c : Call K V E) → Inserts s c → s.calls n ≡ Some c →
          (puts_ahead key value c.plan ≡ true) ⊎ HasIt eq key q value n t.world.table.stored
      more c (are, inl ahead) live = inl ahead
      more c (are, inr has) live = inr (keeps_it c.plan s.world.table.stored t.world.table.stored are
          (by_writes eq s t n c turn live step) has)

  inserting_step : (s t : State K V E) (turn : Turn K V E) → Inserting s → Step eq s n turn t →
      Inserting t
  inserting_step s t turn i step = record {
    born = omega (arith, i.born, step_last eq s t n turn step);
    able = ap is_disabled (step_rules eq s t n turn step) ∙ i.able;
    so = by (t.calls n) (insert_left s t turn i step);
  }
    where
      by : (o : Option (Call K V E)) →
          LeftSo key value eq n s.world step.call (HasIt eq key q value n t.world.table.stored) t.world.table.stored o →
          Of (Inserts t) o
      by None left = tt
      by (Some d) (are, inl ahead) = (are, inl ahead)
      by (Some d) (are, inr (inl has)) = (are, inr has)
      by (Some d) (are, inr (inr now)) =
          (are, inr (subst (HasIt eq key q value n) (sym now.3) (put_has eq key q value n alike s.world.table.stored now.0)))

  insert_begins : (s : State K V E) → is_disabled s.world.desk.rules ≡ false →
      Inserts (started s (start.Insert key value))
      (fresh_call s.world.table.division.parts s.world.desk.rules (start.Insert key value))
  insert_begins s able = subst Begins (sym able) on
    where
      Plan : List (Item K V E) → Type 0
      Plan p = AreInserting key value p ×
          ((puts_ahead key value p ≡ true) ⊎ HasIt eq key q value n s.world.table.stored)

      Begins : Bool → Type 0
      Begins b = Plan (insert_plan b s.world.desk.rules key value)

      on : Begins false
      on = put_plans Plan s.world.desk.rules key value (plan.Reply answer.Done ∷ [])
          ((tt, ((refl, refl), refl)), inl refl) ((tt, (tt, ((refl, refl), refl))), inl refl)

  -- the value stands once it has answered, and the cache is not disabled then
  inserted : (s t : State K V E) (a : Answer K V E) → is_disabled s.world.desk.rules ≡ false →
      AnswersUndisturbed eq (start.Insert key value) n a s t →
      HasIt eq key q value n t.world.table.stored × (is_disabled t.world.desk.rules ≡ false)
  inserted s t a able one = (
    by (t.calls n) refl (insert_left one.mid t (turn.Answer a) now one.last),
    ap is_disabled (step_rules eq one.mid t n (turn.Answer a) one.last) ∙ now.able,
  )
    where
      is : (n ≡ s.world.desk.last + 1) × (one.begun ≡ started s (start.Insert key value))
      is = gives eq s one.begun n (start.Insert key value) one.begins

      first : Inserting one.begun
      first = record {
        born = given_born {E = E} eq (start.Insert key value) (λ c. Unit {0}) s one.begun n is;
        able = ap (λ (v : State K V E). is_disabled v.world.desk.rules) is.1 ∙ able;
        so = subst (λ (v : State K V E). Of (Inserts v) (v.calls n)) (sym is.1)
            (given_first eq (start.Insert key value) (Inserts (started s (start.Insert key value))) s
            (started s (start.Insert key value)) n (is.0, refl) (insert_begins s able));
      }

      now : Inserting one.mid
      now = follow_alone eq n Inserting inserting_on inserting_step one.begun one.mid one.events
          one.replies one.undisturbed first one.run

      by : (o : Option (Call K V E)) → t.calls n ≡ o →
          LeftSo key value eq n one.mid.world one.last.call (HasIt eq key q value n t.world.table.stored)
          t.world.table.stored o → HasIt eq key q value n t.world.table.stored
      by None is has = has
      by (Some d) is left = absurd (not_both true refl
          (sym (ap is_some is) ∙ live_still eq one.mid t n (turn.Answer a) one.last))

-- ---- what makes no step

module _ {K V E : Type 0} (eq : K → K → Bool) where
  still_same : (s t : State K V E) (es : List (Event K V E)) (rs : List (Reply K V E)) →
      All MakesNoStep es → Run eq Any s es rs t →
      (t.world.table ≡ s.world.table) × (t.world.desk.rules ≡ s.world.desk.rules)
  still_same s t [] [] none run =
      (ap (λ (v : State K V E). v.world.table) run, ap (λ (v : State K V E). v.world.desk.rules) run)
  still_same s t (e ∷ es) (r ∷ rs) none run =
      let one = quiet eq 0 s run.0 e r (All-head MakesNoStep e es none) run.1 in
      let rest = still_same run.0 t es rs (All-tail MakesNoStep e es none) run.3 in
      (rest.0 ∙ one.table, rest.1 ∙ one.rules)
  still_same s t [] (r ∷ rs) none run = absurd run
  still_same s t (e ∷ es) [] none run = absurd run

-- ---- the get

module _ {K V E : Type 0} (eq : K → K → Bool) (q there : K) (stored : Stored V) (m : ℕ) where
  -- an item of a get of the key
  abbrev IsGetting : Item K V E → Type 0
  IsGetting plan.Drain = Unit {0}
  IsGetting (plan.Ended number) = Unit {0}
  IsGetting (plan.Post write) = Unit {0}
  IsGetting plan.Turn = Unit {0}
  IsGetting plan.Apply = Unit {0}
  IsGetting plan.End = Unit {0}
  IsGetting (plan.Get (plan.To_show plan.As_value) at) = at ≡ q
  IsGetting (plan.Judge (plan.To_show plan.As_value) at found) = (at ≡ there) × (found ≡ stored)
  IsGetting _ = ⊥

  abbrev AreGetting : List (Item K V E) → Type 0
  AreGetting [] = Unit {0}
  AreGetting (item ∷ rest) = IsGetting item × AreGetting rest

  abbrev Gets : Call K V E → Type 0
  Gets c = AreGetting c.plan

  abbrev Says : State K V E → Turn K V E → Type 0
  Says s (turn.Answer a) =
      is_visible_in s there stored ≡ true → a ≡ answer.Found (Some stored.value)
  Says s _ = Unit {0}

  -- where the get stands
  record Getting (s : State K V E) : Type 0 where
    born : m ≤ s.world.desk.last
    has : s.world.table.stored q ≡ Some (there, stored)
    so : Of Gets (s.calls m)

  getting_on : (s t : State K V E) → Quiet eq m s t → Getting s → Getting t
  getting_on s t still i = record {
    born = omega (arith, i.born, still.last);
    has = ap (λ x. x.stored q) still.table ∙ i.has;
    so = of_quiet Gets (s.calls m) (t.calls m) (still.call i.born) i.so;
  }

  module _ (s : State K V E) (c : Call K V E) (are : AreGetting c.plan)
      (has : s.world.table.stored q ≡ Some (there, stored)) where
    abbrev Then : World K V E → Next K V E → Type 0
    Then new next = Of Gets next.left × Says s next.turn

    goes_so : (rest : List (Item K V E)) → AreGetting rest →
        Of Gets (goes c rest).left × Says s (goes c rest).turn
    goes_so (plan.Reply a ∷ []) h = absurd h.0
    goes_so rest h = (h, tt)

    same_pair : (x y : K × Stored V) → Some x ≡ Some y → (x.0 ≡ y.0) × (x.1 ≡ y.1)
    same_pair x y e = (ap (λ p. p.0) (some_same e), ap (λ p. p.1) (some_same e))

    on_item : (item : Item K V E) (rest : List (Item K V E)) → AreGetting (item ∷ rest) →
        Outcomes eq Then s.world m c item rest
    on_item plan.Drain rest f = (
      λ none. goes_so rest f.1,
      λ x xs some. ((tt, f), tt),
      λ x number xs some. ((tt, (tt, f)), tt),
    )
    on_item (plan.Ended number) rest f = (λ off. goes_so rest f.1, λ on. (are, tt))
    on_item (plan.Post write) rest f =
        (λ room. goes_so rest f.1, λ full. ((tt, (tt, (tt, f))), tt))
    on_item plan.Turn rest f = (λ free. goes_so rest f.1, λ taken. (are, tt))
    on_item plan.Apply rest f = (λ none. goes_so rest f.1, λ y ys some. (f, tt))
    on_item plan.End rest f = goes_so rest f.1
    on_item (plan.Get (plan.To_show plan.As_value) at) rest f = (
      λ more. (are, tt),
      λ none. absurd (none_some (sym none ∙ ap s.world.table.stored f.0 ∙ has)),
      λ k found some. (
        (
          same_pair (k, found) (there, stored)
              (sym some ∙ ap s.world.table.stored f.0 ∙ has),
          tt,
        ),
        tt,
      ),
    )
    on_item (plan.Judge (plan.To_show plan.As_value) at found) rest f = (
      λ seen. (tt, λ shows. ap (λ (x : Stored V). answer.Found (Some x.value)) f.0.1),
      λ unseen. (
        tt,
        λ shows. absurd (not_both (is_visible_in s there stored) shows
            (ap (λ k. is_visible_in s k stored) (sym f.0.0) ∙
            ap (λ x. is_visible_in s at x) (sym f.0.1) ∙ unseen)),
      ),
    )
    on_item _ rest f = absurd f.0

    gets_on : (p : List (Item K V E)) → AreGetting p → OnStep eq Then s.world m c p
    gets_on [] f = (are, tt)
    gets_on (item ∷ rest) f = outcomes eq Then s.world m c item rest (on_item item rest f)

  -- no step of it changes what stands
  keeps_all : (p : List (Item K V E)) (old new : K → Option (K × Stored V)) → AreGetting p →
      ChangesBy eq m p old new → new ≡ old
  keeps_all [] old new are is = is
  keeps_all (plan.Write at v moment ∷ rest) old new are is = absurd are.0
  keeps_all (plan.Out removal at ∷ rest) old new are is = absurd are.0
  keeps_all (item ∷ rest) old new are is = is

  get_step : (s t : State K V E) (turn : Turn K V E) → Getting s → (step : Step eq s m turn t) →
      Of Gets (t.calls m) × Says s turn × (t.world.table.stored ≡ s.world.table.stored)
  get_step s t turn i step =
      let c : Call K V E = step.call in
      let are : AreGetting c.plan = subst (Of Gets) step.live i.so in
      let left = step_cases eq (Then s c are i.has) (λ v r. Of Gets (v.calls m) × Says s r) s t m
      turn step (gets_on s c are i.has c.plan are)
      (λ w next so. (subst (Of Gets) (sym (put_here s.calls m next.left)) so.0, so.1)) in (
        left.0,
        left.1,
        keeps_all c.plan s.world.table.stored t.world.table.stored are
            (by_writes eq s t m c turn step.live step),
      )

  getting_step : (s t : State K V E) (turn : Turn K V E) → Getting s → Step eq s m turn t → Getting t
  getting_step s t turn i step =
      let now = get_step s t turn i step in
      record {
        born = omega (arith, i.born, step_last eq s t m turn step);
        has = ap (λ f. f q) now.2 ∙ i.has;
        so = now.0;
      }

  found : (s t : State K V E) (a : Answer K V E) → is_disabled s.world.desk.rules ≡ false →
      s.world.table.stored q ≡ Some (there, stored) →
      (one : AnswersUndisturbed eq (start.Get q) m a s t) → IsVisibleAt one.mid q →
      a ≡ answer.Found (Some stored.value)
  found s t a able has one visible =
      (get_step one.mid t (turn.Answer a) now one.last).1 (visible there stored now.has)
    where
      is : (m ≡ s.world.desk.last + 1) × (one.begun ≡ started s (start.Get q))
      is = gives eq s one.begun m (start.Get q) one.begins

      Begins : Bool → Type 0
      Begins b = AreGetting (get_plan b q)

      first : Getting one.begun
      first = record {
        born = given_born {E = E} eq (start.Get q) (λ c. Unit {0}) s one.begun m is;
        has = ap (λ (v : State K V E). v.world.table.stored q) is.1 ∙ has;
        so = given_first eq (start.Get q) Gets s one.begun m is
            (subst Begins (sym able) (tt, (refl, tt)));
      }

      now : Getting one.mid
      now = follow_alone eq m Getting getting_on getting_step one.begun one.mid one.events
          one.replies one.undisturbed first one.run

-- ---- both

module _ {K V E : Type 0} (eq : K → K → Bool) where
  pub is_found : InsertedIsFound K V E eq
  is_found s t u v n m key q value done a able one still alike got visible =
      let has = inserted eq key q value n alike s t done able one in
      let same = still_same eq t u still.events still.replies still.still still.run in
      found eq q key (record_of n value has.0.0) m u v a (ap is_disabled same.1 ∙ has.1)
      (ap (λ x. x.stored q) same.0 ∙ has.0.1) got visible
