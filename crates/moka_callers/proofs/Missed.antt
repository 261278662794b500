-- A removal that took nothing out has seen why, since its start.
use Rattle.std.proofs.Common.{◌≡◌, ◌≢◌, ℕ, ◌+◌, ◌≤◌, ◌==◌, Bool, true, false, cond, List, [], ◌∷◌, Option, Some, None, refl, sym, ap, ◌∙◌, subst, arith}
use Rattle.std.proofs.lemmas.Bool.{false≢true, eq-eqb}
use Rattle.moka_hist.specs.State.{State, Call}
use Rattle.moka_hist.specs.Plan.{Item, look, plan_of, take_out, under_lock}
use Rattle.moka_hist.specs.Plan as plan
use Rattle.moka_hist.specs.Next.{Next, goes}
use Rattle.moka_hist.specs.Causes.{chosen_holds}
use Rattle.moka_hist.specs.Looking.{keeps}
use Rattle.moka_hist.specs.Visits.{is_hit, times_at}
use Rattle.moka_hist.specs.Step.{Step}
use Rattle.moka_hist.specs.Tables.{taken_by}
use Rattle.moka_hist.specs.Run.{Any, Happens, Run, started}
use Rattle.moka_hist.specs.declared.accesses.Turn.{Turn}
use Rattle.moka_hist.specs.declared.accesses.Turn.TheVariants as turn
use Rattle.moka_hist.specs.declared.events.Event.{Event}
use Rattle.moka_hist.specs.declared.events.Event.TheVariants as event
use Rattle.moka_hist.specs.declared.events.Start.{Start}
use Rattle.moka_hist.specs.declared.events.Start.TheVariants as start
use Rattle.moka_hist.specs.declared.records.Stored.{Stored}
use Rattle.moka_hist.specs.declared.replies.Answer.{Answer}
use Rattle.moka_hist.specs.declared.replies.Answer.TheVariants as answer
use Rattle.moka_hist.specs.declared.replies.Reply.{Reply}
use Rattle.moka_hist.specs.declared.replies.Reply.TheVariants as reply
use Rattle.moka_hist.specs.declared.rules.Cause.{Cause}
use Rattle.moka_laws.specs.Starting.{Leads}
use Rattle.moka_laws.proofs.Alongside.{HoldsIf}
use Rattle.moka_laws.proofs.Counting.{none_some, put_here}
use Rattle.moka_laws.proofs.Following.{follow, leads_more, no_leads, step_leads}
use Rattle.moka_laws.proofs.Outcomes.{Outcomes, outcomes}
use Rattle.moka_laws.proofs.Rules.{chosen_by, kept_next}
use Rattle.moka_laws.proofs.StepCases.{OnStep, step_cases}
use Rattle.moka_callers.specs.Missing.{EvictsKeptSeen, Gone, KeptSince, RemovesFoundNone, Replaced, Spared}
use Rattle.moka_callers.specs.Reading.{Between}
use Rattle.moka_callers.proofs.Began.{gives}
use Rattle.moka_callers.proofs.Since.{IsSo, so_followed}

-- a state between two, from the first to a later one
abbrev between_on : {K V E : Type 0} (eq : K → K → Bool) (b s v : State K V E) → Leads eq s v →
    Between eq b s → Between eq b v
between_on eq b s v led look =
    record { at = look.at; since = look.since; until = leads_more eq look.at s v look.until led }

-- ---- any removal that a call is started for, of which one answer says that nothing was taken out

module _ {K V E : Type 0} (eq : K → K → Bool) (b : State K V E) (begin : Start K V)
    (nothing : Answer K V E) (Seen : State K V E → Type 0)
    (seen_on : (s v : State K V E) → Leads eq s v → Seen s → Seen v)
    (IsOf : State K V E → Item K V E → Type 0)
    (of_on : (s v : State K V E) → Leads eq s v → (item : Item K V E) → IsOf s item → IsOf v item) where
  -- what is to be done of the removal, before it answers
  abbrev AreOf : State K V E → List (Item K V E) → Type 0
  AreOf s [] = Unit {0}
  AreOf s (plan.Reply a ∷ rest) = a ≡ nothing → Seen s
  AreOf s (item ∷ rest) = IsOf s item × AreOf s rest

  abbrev LeftAt : State K V E → Option (Call K V E) → Type 0
  LeftAt s None = Unit {0}
  LeftAt s (Some d) = AreOf s d.plan

  abbrev SaysAt : State K V E → Turn K V E → Type 0
  SaysAt s (turn.Answer a) = a ≡ nothing → Seen s
  SaysAt s _ = Unit {0}

  abbrev NextAt : State K V E → Next K V E → Type 0
  NextAt s next = LeftAt s next.left × SaysAt s next.turn

  are_on : (s v : State K V E) → Leads eq s v → (p : List (Item K V E)) → AreOf s p → AreOf v p
  are_on s v led [] h = tt
  are_on s v led (plan.Reply a ∷ rest) h = λ is. seen_on s v led (h is)
  are_on s v led (item ∷ rest) h = (of_on s v led item h.0, are_on s v led rest h.1)

  goes_on : (s : State K V E) (c : Call K V E) (rest : List (Item K V E)) → AreOf s rest →
      NextAt s (goes c rest)
  goes_on s c (plan.Reply a ∷ []) h = (tt, h)
  goes_on s c _ h = (h, tt)

  module _ (n : ℕ)
      (on_item : (s : State K V E) → Leads eq b s → (c : Call K V E) → AreOf s c.plan →
      (item : Item K V E) (rest : List (Item K V E)) → c.plan ≡ item ∷ rest →
      AreOf s (item ∷ rest) → Outcomes eq (λ new next. NextAt s next) s.world n c item rest) where
    on_plan : (s : State K V E) → Leads eq b s → (c : Call K V E) → AreOf s c.plan →
        (p : List (Item K V E)) → c.plan ≡ p → AreOf s p →
        OnStep eq (λ new next. NextAt s next) s.world n c p
    on_plan s led c are [] is f = (are, tt)
    on_plan s led c are (item ∷ rest) is f =
        outcomes eq (λ new next. NextAt s next) s.world n c item rest
        (on_item s led c are item rest is f)

    abbrev IsAt : State K V E → Call K V E → Type 0
    IsAt s c = AreOf s c.plan

    at_on : (s v : State K V E) (c : Call K V E) → Leads eq s v →
        v.world.desk.rules ≡ s.world.desk.rules → IsAt s c → IsAt v c
    at_on s v c led rules h = are_on s v led c.plan h

    step_so : (s t : State K V E) (turn : Turn K V E) → Leads eq b s → HoldsIf IsAt s (s.calls n) →
        Step eq s n turn t → LeftAt s (t.calls n) × SaysAt s turn
    step_so s t turn led h step =
        let c : Call K V E = step.call in
        let are : AreOf s c.plan = subst (HoldsIf IsAt s) step.live h in
        step_cases eq (λ new next. NextAt s next) (λ v r. LeftAt s (v.calls n) × SaysAt s r)
        s t n turn step (on_plan s led c are c.plan refl are)
        (λ w next so. (subst (LeftAt s) (sym (put_here s.calls n next.left)) so.0, so.1))

    at_step : (s t : State K V E) (turn : Turn K V E) → Leads eq b s →
        HoldsIf IsAt s (s.calls n) → Step eq s n turn t → HoldsIf IsAt t (t.calls n)
    at_step s t turn led h step = by (t.calls n) (step_so s t turn led h step).0
      where
        by : (o : Option (Call K V E)) → LeftAt s o → HoldsIf IsAt t o
        by None left = tt
        by (Some d) left = are_on s t (step_leads eq s t n turn step) d.plan left

    -- what the call answers in the end
    pub seen_in_end : (s t u : State K V E) (es : List (Event K V E)) (rs : List (Reply K V E)) →
        Happens eq Any s (event.Start begin) (reply.Call n) b →
        AreOf b (plan_of s.world.table.division.parts s.world.desk.rules begin) →
        Run eq Any b es rs t → Step eq t n (turn.Answer nothing) u → Seen t
    seen_in_end s t u es rs begun first run step =
        let is = gives eq s b n begin begun in
        let now : IsSo eq b n IsAt at_on at_step t =
        follow eq (IsSo eq b n IsAt at_on at_step) (so_followed eq b n IsAt at_on at_step) b t es rs
        (record { led = no_leads eq b; born = born is; so = starts is }) run in
        (step_so t u (turn.Answer nothing) now.led now.so step).1 refl
      where
        Is : Type 0
        Is = (n ≡ s.world.desk.last + 1) × (b ≡ started s begin)

        born : Is → n ≤ b.world.desk.last
        born is = omega (arith, is.0, ap (λ (v : State K V E). v.world.desk.last) is.1)

        starts : Is → HoldsIf IsAt b (b.calls n)
        starts is = subst (HoldsIf IsAt b) (sym (ap (λ (v : State K V E). v.calls n) is.1 ∙
            ap (λ k. (started s begin).calls k) is.0 ∙
            put_here s.calls (s.world.desk.last + 1) _)) first

-- ---- a remove

not_none : {K V E : Type 0} (value : V) →
    ◌≡◌ {A = Answer K V E} (answer.Found (Some value)) (answer.Found None) → ⊥
not_none value e = cc

nothing_stood : {K V : Type 0} (o : Option (K × Stored V)) → taken_by None o ≡ None → o ≡ None
nothing_stood None e = refl
nothing_stood (Some pair) e = e

module _ {K V E : Type 0} (eq : K → K → Bool) (key : K) (b : State K V E) where
  abbrev Nothing : State K V E → Type 0
  Nothing s = (look : Between eq b s) × (look.at.world.table.stored key ≡ None)

  nothing_on : (s v : State K V E) → Leads eq s v → Nothing s → Nothing v
  nothing_on s v led h = (between_on eq b s v led h.0, h.1)

  -- an item of a remove of the key
  abbrev IsRemoving : State K V E → Item K V E → Type 0
  IsRemoving s plan.Drain = Unit {0}
  IsRemoving s (plan.Ended number) = Unit {0}
  IsRemoving s (plan.Post write) = Unit {0}
  IsRemoving s plan.Turn = Unit {0}
  IsRemoving s plan.Apply = Unit {0}
  IsRemoving s plan.End = Unit {0}
  IsRemoving s (plan.Lock at) = Unit {0}
  IsRemoving s (plan.Unlock wrote) = Unit {0}
  IsRemoving s (plan.Notice at old cause upsert) = Unit {0}
  IsRemoving s plan.Heard = Unit {0}
  IsRemoving s plan.Idle = Unit {0}
  IsRemoving s (plan.Moment (plan.To_take_out plan.To_remove at)) = at ≡ key
  IsRemoving s (plan.Out plan.To_remove at) = at ≡ key
  IsRemoving s _ = ⊥

  removing_on : (s v : State K V E) → Leads eq s v → (item : Item K V E) → IsRemoving s item →
      IsRemoving v item
  removing_on s v led _ h = h

  abbrev Are : State K V E → List (Item K V E) → Type 0
  Are = AreOf eq b (start.Remove key) (answer.Found None) Nothing nothing_on IsRemoving removing_on

  abbrev Nexts : State K V E → Next K V E → Type 0
  Nexts = NextAt eq b (start.Remove key) (answer.Found None) Nothing nothing_on IsRemoving removing_on

  rest_so : (s : State K V E) (c : Call K V E) (rest : List (Item K V E)) → Are s rest →
      Nexts s (goes c rest)
  rest_so = goes_on eq b (start.Remove key) (answer.Found None) Nothing nothing_on IsRemoving
      removing_on

  on_remove : (n : ℕ) (s : State K V E) → Leads eq b s → (c : Call K V E) → Are s c.plan →
      (item : Item K V E) (rest : List (Item K V E)) → c.plan ≡ item ∷ rest →
      Are s (item ∷ rest) → Outcomes eq (λ new next. Nexts s next) s.world n c item rest
  on_remove n s led c are plan.Drain rest is f = (
    λ none. rest_so s c rest f.1,
    λ x xs some. rest_so s c (plan.Post x ∷ plan.Drain ∷ rest) (tt, f),
    λ x number xs some.
        rest_so s c (plan.Ended number ∷ plan.Post x ∷ plan.Drain ∷ rest) (tt, (tt, f)),
  )
  on_remove n s led c are (plan.Ended number) rest is f =
      (λ off. rest_so s c rest f.1, λ on. (are, tt))
  on_remove n s led c are (plan.Post write) rest is f = (
    λ room. rest_so s c rest f.1,
    λ full. rest_so s c (plan.Turn ∷ plan.Apply ∷ plan.End ∷ plan.Post write ∷ rest)
        (tt, (tt, (tt, f))),
  )
  on_remove n s led c are plan.Turn rest is f =
      (λ free. rest_so s c rest f.1, λ taken. (are, tt))
  on_remove n s led c are plan.Apply rest is f =
      (λ none. rest_so s c rest f.1, λ y ys some. rest_so s c (plan.Apply ∷ rest) f)
  on_remove n s led c are plan.End rest is f = rest_so s c rest f.1
  on_remove n s led c are (plan.Lock at) rest is f =
      (λ free. rest_so s c rest f.1, λ held. (are, tt))
  on_remove n s led c are (plan.Unlock wrote) rest is f = rest_so s c rest f.1
  on_remove n s led c are (plan.Notice at old cause upsert) rest is f =
      (λ off. rest_so s c rest f.1, λ on. ((tt, f.1), tt))
  on_remove n s led c are plan.Heard rest is f =
      (λ off. rest_so s c rest f.1, λ on. (are, tt))
  on_remove n s led c are plan.Idle rest is f = rest_so s c rest f.1
  on_remove n s led c are (plan.Moment (plan.To_take_out plan.To_remove at)) rest is f = (f, tt)
  on_remove n s led c are (plan.Out plan.To_remove at) rest is f = (
    λ more. (are, tt),
    λ off none. ((tt, λ same. seen none), tt),
    λ on none. ((tt, λ same. seen none), tt),
    λ k old off some. ((tt, λ same. absurd (not_none {K = K} {E = E} old.value same)), tt),
    λ k old on some.
        ((tt, (tt, (tt, λ same. absurd (not_none {K = K} {E = E} old.value same)))), tt),
  )
    where
      seen : taken_by None (s.world.table.stored at) ≡ None → Nothing s
      seen none = (
        record { at = s; since = led; until = no_leads eq s },
        ap s.world.table.stored (sym f.0) ∙ nothing_stood (s.world.table.stored at) none,
      )
  on_remove n s led c are (plan.Reply a) rest is f = (tt, f)
  on_remove n s led c are _ rest is f = absurd f.0

module _ {K V E : Type 0} (eq : K → K → Bool) where
  pub found_none : RemovesFoundNone K V E eq
  found_none s b t u m key es rs reached begun run step =
      seen_in_end eq b (start.Remove key) (answer.Found None) (Nothing eq key b)
      (nothing_on eq key b) (IsRemoving eq key b) (removing_on eq key b) m (on_remove eq key b m)
      s t u es rs begun (first s.world.desk.rules.listener) run step
    where
      first : (x : Bool) → Are eq key b b (plan.Drain ∷
          under_lock x key (plan.Moment (plan.To_take_out plan.To_remove key) ∷ []))
      first true = (tt, (tt, (refl, tt)))
      first false = (tt, (refl, tt))

-- ---- an evict

other_stamp : (a b : ℕ) → (a == b) ≡ false → a ≢ b
other_stamp a b off e = false≢true (sym off ∙ eq-eqb a b e)

not_kept : {K V E : Type 0} →
    ◌≡◌ {A = Answer K V E} answer.Evicted answer.Kept → ⊥
not_kept e = cc

module _ {K V E : Type 0} (eq : K → K → Bool) (key : K) (stamp : ℕ) (cause : Cause)
    (b : State K V E) where
  abbrev Kept : State K V E → Type 0
  Kept s = KeptSince eq key stamp cause b s

  kept_on : (s v : State K V E) → Leads eq s v → Kept s → Kept v
  kept_on s v led (Gone look none) = Gone (between_on eq b s v led look) none
  kept_on s v led (Replaced look there stored stood other) =
      Replaced (between_on eq b s v led look) there stored stood other
  kept_on s v led (Spared look judge there stored stood same off) =
      Spared (between_on eq b s v led look) (between_on eq b s v led judge) there stored stood same off

  -- the chosen record stood under the key, in a state since the start
  abbrev Stood : State K V E → K → Stored V → Type 0
  Stood s there stored =
      (look : Between eq b s) × (look.at.world.table.stored key ≡ Some (there, stored)) ×
      (stored.stamp ≡ stamp)

  -- an item of an evict of that record
  abbrev IsEvicting : State K V E → Item K V E → Type 0
  IsEvicting s plan.Drain = Unit {0}
  IsEvicting s (plan.Ended number) = Unit {0}
  IsEvicting s (plan.Post write) = Unit {0}
  IsEvicting s plan.Turn = Unit {0}
  IsEvicting s plan.Apply = Unit {0}
  IsEvicting s plan.End = Unit {0}
  IsEvicting s (plan.Lock at) = Unit {0}
  IsEvicting s (plan.Unlock wrote) = Unit {0}
  IsEvicting s (plan.Notice at old why upsert) = Unit {0}
  IsEvicting s plan.Heard = Unit {0}
  IsEvicting s plan.Idle = Unit {0}
  IsEvicting s (plan.Get (plan.To_evict own chosen for) at) =
      (at ≡ key) × (own ≡ key) × (chosen ≡ stamp) × (for ≡ cause)
  IsEvicting s (plan.Holds own chosen for there stored) =
      (own ≡ key) × (chosen ≡ stamp) × (for ≡ cause) × Stood s there stored
  IsEvicting s (plan.Moment (plan.To_take_out (plan.To_evict_chosen chosen for) at)) =
      (at ≡ key) × (chosen ≡ stamp)
  IsEvicting s (plan.Out (plan.To_evict_chosen chosen for) at) = (at ≡ key) × (chosen ≡ stamp)
  IsEvicting s _ = ⊥

  evicting_on : (s v : State K V E) → Leads eq s v → (item : Item K V E) → IsEvicting s item →
      IsEvicting v item
  evicting_on s v led (plan.Holds own chosen for there stored) h =
      (h.0, h.1, h.2, (between_on eq b s v led h.3.0, h.3.1, h.3.2))
  evicting_on s v led _ h = h

  abbrev Evicts : State K V E → List (Item K V E) → Type 0
  Evicts = AreOf eq b (start.Evict key stamp cause) answer.Kept Kept kept_on IsEvicting evicting_on

  abbrev Goes_on : State K V E → Next K V E → Type 0
  Goes_on =
      NextAt eq b (start.Evict key stamp cause) answer.Kept Kept kept_on IsEvicting evicting_on

  on_so : (s : State K V E) (c : Call K V E) (rest : List (Item K V E)) → Evicts s rest →
      Goes_on s (goes c rest)
  on_so = goes_on eq b (start.Evict key stamp cause) answer.Kept Kept kept_on IsEvicting evicting_on

  -- the record is kept, for a cause that was seen
  keeps_so : (s : State K V E) (c : Call K V E) → Kept s → Goes_on s (keeps c)
  keeps_so s c kept = kept_next (Goes_on s) c (λ off. (tt, λ same. kept))
      (λ on. ((tt, λ same. kept), tt))

  on_evict : (n : ℕ) (s : State K V E) → Leads eq b s → (c : Call K V E) → Evicts s c.plan →
      (item : Item K V E) (rest : List (Item K V E)) → c.plan ≡ item ∷ rest →
      Evicts s (item ∷ rest) → Outcomes eq (λ new next. Goes_on s next) s.world n c item rest
  on_evict n s led c are plan.Drain rest is f = (
    λ none. on_so s c rest f.1,
    λ x xs some. on_so s c (plan.Post x ∷ plan.Drain ∷ rest) (tt, f),
    λ x number xs some.
        on_so s c (plan.Ended number ∷ plan.Post x ∷ plan.Drain ∷ rest) (tt, (tt, f)),
  )
  on_evict n s led c are (plan.Ended number) rest is f =
      (λ off. on_so s c rest f.1, λ on. (are, tt))
  on_evict n s led c are (plan.Post write) rest is f = (
    λ room. on_so s c rest f.1,
    λ full. on_so s c (plan.Turn ∷ plan.Apply ∷ plan.End ∷ plan.Post write ∷ rest)
        (tt, (tt, (tt, f))),
  )
  on_evict n s led c are plan.Turn rest is f = (λ free. on_so s c rest f.1, λ taken. (are, tt))
  on_evict n s led c are plan.Apply rest is f =
      (λ none. on_so s c rest f.1, λ y ys some. on_so s c (plan.Apply ∷ rest) f)
  on_evict n s led c are plan.End rest is f = on_so s c rest f.1
  on_evict n s led c are (plan.Lock at) rest is f =
      (λ free. on_so s c rest f.1, λ held. (are, tt))
  on_evict n s led c are (plan.Unlock wrote) rest is f = on_so s c rest f.1
  on_evict n s led c are (plan.Notice at old why upsert) rest is f =
      (λ off. on_so s c rest f.1, λ on. ((tt, f.1), tt))
  on_evict n s led c are plan.Heard rest is f = (λ off. on_so s c rest f.1, λ on. (are, tt))
  on_evict n s led c are plan.Idle rest is f = on_so s c rest f.1
  on_evict n s led c are (plan.Get (plan.To_evict own chosen for) at) rest is f = (
    λ more. (are, tt),
    λ none. keeps_so s c (Gone here (ap s.world.table.stored (sym f.0.0) ∙ none)),
    λ there stored some. chosen_by (Goes_on s) c own chosen for there stored
        (λ other. keeps_so s c (Replaced here there stored (stood there stored some)
        (λ same. other_stamp stored.stamp chosen other (same ∙ sym f.0.2))))
        (λ same. ((((f.0.1, f.0.2, f.0.3, (here, stood there stored some, same ∙ f.0.2)), tt)), tt)),
  )
    where
      here : Between eq b s
      here = record { at = s; since = led; until = no_leads eq s }

      stood : (there : K) (stored : Stored V) → s.world.table.stored at ≡ Some (there, stored) →
          s.world.table.stored key ≡ Some (there, stored)
      stood there stored some = ap s.world.table.stored (sym f.0.0) ∙ some
  on_evict n s led c are (plan.Holds own chosen for there stored) rest is f = (
    λ holds. (((f.0.0, f.0.1), tt), tt),
    λ off. keeps_so s c (Spared f.0.3.0 (record { at = s; since = led; until = no_leads eq s })
        there stored f.0.3.1 f.0.3.2
        (ap (λ why. chosen_holds s.world.desk.rules
        (times_at s.world.desk stored.stamp stored.modified)
        (is_hit s.world.desk there stored) why) (sym f.0.2) ∙ off)),
  )
  on_evict n s led c are (plan.Moment (plan.To_take_out (plan.To_evict_chosen chosen for) at)) rest is
      f = (f, tt)
  on_evict n s led c are (plan.Out (plan.To_evict_chosen chosen for) at) rest is f = (
    λ more. (are, tt),
    λ off none. ((tt, λ same. seen (s.world.table.stored key) refl (at_key none)), tt),
    λ on none. ((tt, λ same. seen (s.world.table.stored key) refl (at_key none)), tt),
    λ k old off some. ((tt, λ same. absurd (not_kept {K = K} {V = V} {E = E} same)), tt),
    λ k old on some.
        ((tt, (tt, (tt, λ same. absurd (not_kept {K = K} {V = V} {E = E} same)))), tt),
  )
    where
      here : Between eq b s
      here = record { at = s; since = led; until = no_leads eq s }

      at_key : taken_by (Some chosen) (s.world.table.stored at) ≡ None →
          taken_by (Some stamp) (s.world.table.stored key) ≡ None
      at_key none =
          ap (λ k. taken_by (Some k) (s.world.table.stored key)) (sym f.0.1) ∙
          ap (λ k. taken_by (Some chosen) (s.world.table.stored k)) (sym f.0.0) ∙ none

      seen : (o : Option (K × Stored V)) → s.world.table.stored key ≡ o → taken_by (Some stamp) o ≡ None →
          Kept s
      seen None stands none = Gone here stands
      seen (Some pair) stands none = by (pair.1.stamp == stamp) refl none
        where
          by : (x : Bool) → (pair.1.stamp == stamp) ≡ x → cond x (Some pair) None ≡ None → Kept s
          by true e none = absurd (none_some (sym none))
          by false e none = Replaced here pair.0 pair.1 stands (other_stamp pair.1.stamp stamp e)
  on_evict n s led c are (plan.Reply a) rest is f = (tt, f)
  on_evict n s led c are _ rest is f = absurd f.0

module _ {K V E : Type 0} (eq : K → K → Bool) where
  pub kept_seen : EvictsKeptSeen K V E eq
  kept_seen s b t u m key stamp cause es rs reached begun run step =
      seen_in_end eq b (start.Evict key stamp cause) answer.Kept (Kept eq key stamp cause b)
      (kept_on eq key stamp cause b) (IsEvicting eq key stamp cause b)
      (evicting_on eq key stamp cause b) m (on_evict eq key stamp cause b m)
      s t u es rs begun (first s.world.desk.rules.listener) run step
    where
      first : (x : Bool) → Evicts eq key stamp cause b b
          (under_lock x key (look (plan.To_evict key stamp cause) key))
      first true = (tt, ((refl, refl, refl, refl), tt))
      first false = ((refl, refl, refl, refl), tt)
