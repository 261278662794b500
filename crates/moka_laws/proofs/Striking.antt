-- While maintenance carries a predicate, each record that it hides is still to be found.
use Rattle.std.proofs.Common.{◌≡◌, ◌≢◌, ℕ, zero, suc, ◌+◌, ◌<◌, ◌≤◌, ◌==◌, nat_lt, nat_le, Bool, true, false, not, ◌&&◌, ◌||◌, List, [], ◌∷◌, ◌++◌, map, filter, Option, Some, None, is_some, IsSome, unwrap_or, ◌⊎◌, inl, inr, refl, sym, ap, ◌∙◌, subst, arith}
use Rattle.std.specs.Cmp.{IsEquivalence}
use Rattle.std.specs.List.{list_any}
use Rattle.std.specs.Option.{option_map_or}
use Rattle.std.proofs.lemmas.Bool.{eqb-true, false≢true}
use Rattle.std.proofs.lemmas.Bool.Decides.{nat_tests}
use Rattle.moka_hist.specs.Dropping.{dropped}
use Rattle.moka_hist.specs.Finite.{put_at}
use Rattle.moka_hist.specs.Maintenance.{carrying}
use Rattle.moka_hist.specs.Next.{Next, goes}
use Rattle.moka_hist.specs.Plan.{Item, lists_from}
use Rattle.moka_hist.specs.Plan as plan
use Rattle.moka_hist.specs.Run.{IsReached, at_moment, fresh_call, started}
use Rattle.moka_hist.specs.State.{Call, DeskPart, Division, Listed, State, TablePart, World, fresh}
use Rattle.moka_hist.specs.Step.{Access, On_desk, On_table, Step, access_of}
use Rattle.moka_hist.specs.Tables.{begun}
use Rattle.moka_hist.specs.Telling.{heard, told_call}
use Rattle.moka_hist.specs.Visits.{candidates, does_hit, does_strike, is_candidate, is_named, is_pending_by, named_of, next_free, pending_of, registered_by, some_pending_by, struck}
use Rattle.moka_hist.specs.declared.accesses.Turn.{Turn}
use Rattle.moka_hist.specs.declared.events.Start.{Start}
use Rattle.moka_hist.specs.declared.predicates.Registered.{Registered}
use Rattle.moka_hist.specs.declared.records.Stored.{Stored}
use Rattle.moka_hist.specs.declared.tables.TableOp.TheVariants as op
use Rattle.moka_hist.specs.declared.visits.Visit.TheVariants as visit
use Rattle.moka_laws.specs.Predicates.{Carries, ComesTo, HiddenAreAhead, IsAhead, IsSpent, LeavingAreSpent}
use Rattle.moka_laws.specs.Starting.{Leads}
use Rattle.moka_laws.proofs.Bearing.{Bears, lets_go, plan_lets, put_quiet, step_bears, step_stood, step_strikes, strikes_early, strikes_in, tests_after}
use Rattle.moka_laws.proofs.Counted.{reached_counted}
use Rattle.moka_laws.proofs.Counting.{differ_not, none_some, put_here, put_there, same_number, some_same}
use Rattle.moka_laws.proofs.Following.{IsFollowed, follow}
use Rattle.moka_laws.proofs.Laden.{Carrying, Choosing, Coming, Finding, Free, IsRetiring, Laden, LadenIf, Listing, Retiring, Showing, Striking, Tending, finds_retire, fresh_laden, laden_on, lists_retire}
use Rattle.moka_laws.proofs.Naming.{IsIn, and_first, and_second, any_found, any_holds, contains_in, filter_in, in_contains, in_filter, in_front, in_map}
use Rattle.moka_laws.proofs.NoWalks.{CarriesSame, on_carries, walking}
use Rattle.moka_laws.proofs.Outcomes.{outcomes}
use Rattle.moka_laws.proofs.Pending.{write_pends}
use Rattle.moka_laws.proofs.Reached.{fresh_reached, run_reached}
use Rattle.moka_laws.proofs.Safe.{in_well, pending_started}
use Rattle.moka_laws.proofs.StepCases.{OnStep, more_step, step_cases}
use Rattle.moka_laws.proofs.Steady.{SameBase, accessed_after, step_base, step_calls, valid_from}
use Rattle.moka_laws.proofs.WalkPlans.{BeginsWith}
use Rattle.moka_laws.proofs.Walkers.{BegunBy, begun_named, division_stays, in_walking, none_begun, part_begun}
use Rattle.moka_laws.proofs.Walks.{Comes, Comes_not, Comes_on, Comes_to, IsComing, IsShowing, Applies, Applies_first, Ends_first, Ends_turn, Gathers, Hears, Posts, ShowsIf, Takes_turn, Turns, on_coming, on_shows}
use Rattle.moka_laws.proofs.WalksKeep.{MustGive, ToLook, begun_must, finds_later, finds_now, look_from, nothing_begun, step_must}
use Rattle.moka_laws.proofs.Weights.{weigh}

not_true : (a : Bool) → not a ≡ true → a ≡ false
not_true true h = absurd (false≢true h)
not_true false h = refl

-- a predicate goes by its own id and moment alone
abbrev pair_up : ℕ → ℕ → ℕ × ℕ
pair_up a b = (a, b)

named_same : (r : Registered) (named : ℕ × ℕ) → is_named named r ≡ true → named ≡ named_of r
named_same r named h =
    let id : r.id ≡ named.0 = eqb-true r.id named.0 (and_first (r.id == named.0) (r.moment == named.1) h) in
    let moment : r.moment ≡ named.1 = eqb-true r.moment named.1 (and_second (r.id == named.0) (r.moment == named.1) h) in
    ap (λ v. pair_up v named.1) (sym id) ∙ ap (λ v. pair_up r.id v) (sym moment)

named_own : (r : Registered) → is_named (named_of r) r ≡ true
named_own r = subst (λ b. (b && (r.moment == r.moment)) ≡ true) (sym (same_number r.id)) (same_number r.moment)

module _ {K V E : Type 0} (eq : K → K → Bool) where
  -- the plan strikes this record next
  abbrev ToStrike : List (Item K V E) → K → Stored V → Type 0
  ToStrike p there stored = (rest : List (Item K V E)) × (p ≡ plan.Strike there stored ∷ rest)

  -- the record that stands under the key is still to be found, or is struck next
  abbrev ToFind : TablePart K V → ℕ → List (Item K V E) → K → K → Stored V → Type 0
  ToFind t n p key there stored =
      ToStrike p there stored ⊎ (ToLook {K = K} {V = V} {E = E} eq n key t.division p × MustGive {K = K} {V = V} eq n key t)

  -- The predicate of this id and moment, which the call with this plan carries: its moment is past,
  -- each that is pending is later, and each record that it hides is still to be found.
  record KeptIn (d : DeskPart K V E) (t : TablePart K V) (n : ℕ) (p : List (Item K V E)) (named : ℕ × ℕ) : Type 0 where
    past : named.1 < d.clock
    alone : (x taken : ℕ) → pending_of d x ≡ Some taken → named.1 < taken
    comes : (key there : K) (stored : Stored V) → t.stored key ≡ Some (there, stored) → does_strike d there stored named ≡ true →
        ToFind t n p key there stored

  abbrev KeptIf : DeskPart K V E → TablePart K V → ℕ → Option (Call K V E) → Type 0
  KeptIf d t n None = Unit {0}
  KeptIf d t n (Some c) = (ids : List (ℕ × ℕ)) (named : ℕ × ℕ) → c.carried ≡ Some ids → IsIn ids named → KeptIn d t n c.plan named

  -- ---- what keeps it for one plan

  -- a desk that judges by the same, later
  kept_still : (d new : DeskPart K V E) (t : TablePart K V) → d.clock ≤ new.clock →
      ((x taken : ℕ) → pending_of new x ≡ Some taken → pending_of d x ≡ Some taken) → new.registered ≡ d.registered →
      new.predicates ≡ d.predicates → (n : ℕ) (left : Option (Call K V E)) → KeptIf d t n left → KeptIf new t n left
  kept_still d new t on pends same tests n None k = tt
  kept_still d new t on pends same tests n (Some c) k = λ ids named e m. let i = k ids named e m in record {
    past = omega (arith, on, i.past);
    alone = λ x taken f. i.alone x taken (pends x taken f);
    comes = λ key there stored f strikes. i.comes key there stored f
        (subst (λ rs. list_any (strikes_in there stored named d.predicates) rs ≡ true) same
        (subst (λ holds. list_any (strikes_in there stored named holds) new.registered ≡ true) tests strikes));
  }

  -- a step of any call
  kept_by_step : (s t : State K V E) (m : ℕ) (turn : Turn K V E) → IsReached eq s → Step eq s m turn t → (n : ℕ) (p : List (Item K V E)) (named : ℕ × ℕ) →
      KeptIn s.world.desk s.world.table n p named → KeptIn t.world.desk t.world.table n p named
  kept_by_step s t m turn h step n p named k = record {
    past = subst (λ v. named.1 < v) (sym base.clock) k.past;
    alone = λ x taken e. later x taken (bears.pending x taken e);
    comes = λ key there stored e strikes.
        by key there stored e (step_strikes eq s t m turn step there stored named k.past strikes) (step_stood eq s t m turn step key there stored e);
  }
    where
      base : SameBase (accessed_after s.world (access_of m step.call)) (valid_from s.world (access_of m step.call)) s.world.desk t.world.desk
      base = step_base eq s t m turn step

      bears : Bears (tests_after s.world (access_of m step.call)) s.world.desk t.world.desk
      bears = step_bears eq s t m turn step

      later : (x taken : ℕ) → (pending_of s.world.desk x ≡ Some taken) ⊎ (taken ≡ s.world.desk.clock) → named.1 < taken
      later x taken (inl was) = k.alone x taken was
      later x taken (inr now) = subst (λ v. named.1 < v) (sym now) k.past

      on : (key there : K) (stored : Stored V) → s.world.table.stored key ≡ Some (there, stored) → t.world.table.stored key ≡ Some (there, stored) →
          ToFind s.world.table n p key there stored → ToFind t.world.table n p key there stored
      on key there stored was e (inl next) = inl next
      on key there stored was e (inr look) = inr (
        subst (λ d. ToLook {K = K} {V = V} {E = E} eq n key d p) (sym (division_stays eq s t m turn step)) look.0,
        step_must eq n key s t m turn step (ap is_some was) (ap is_some e) look.1,
      )

      by : (key there : K) (stored : Stored V) → t.world.table.stored key ≡ Some (there, stored) → does_strike s.world.desk there stored named ≡ true →
          (s.world.table.stored key ≡ Some (there, stored)) ⊎
          ((at : K) × (value : V) × (rest : List (Item K V E)) × (step.call.plan ≡ plan.Write at value stored.modified ∷ rest)) →
          ToFind t.world.table n p key there stored
      by key there stored e strikes (inl was) = on key there stored was e (k.comes key there stored was strikes)
      by key there stored e strikes (inr new) =
          let low : stored.modified ≤ named.1 = strikes_early there stored named s.world.desk.predicates s.world.desk.registered strikes in
          let high : named.1 < stored.modified =
          k.alone m stored.modified (write_pends eq s m step.call new.0 new.1 stored.modified new.2 h step.live new.3) in
          absurd (omega (arith, low, high))

  -- ---- a step of the call itself

  none_if : (d : DeskPart K V E) (t : TablePart K V) (n : ℕ) (left : Option (Call K V E)) (c : Call K V E) → c.carried ≡ None → CarriesSame c left →
      KeptIf d t n left
  none_if d t n None c none same = tt
  none_if d t n (Some b) c none same = λ ids named e h. absurd (none_some (sym (same ∙ none) ∙ e))

  shown_if : (d : DeskPart K V E) (t : TablePart K V) (n : ℕ) (left : Option (Call K V E)) → ShowsIf left → KeptIf d t n left
  shown_if d t n None h = tt
  shown_if d t n (Some b) h = λ ids named e k. absurd (none_some (sym h.free ∙ e))

  goes_none : (d : DeskPart K V E) (t : TablePart K V) (n : ℕ) (c : Call K V E) (parts : ℕ) → c.carried ≡ None → (p : List (Item K V E)) →
      IsComing parts p → KeptIf d t n (goes c p).left
  goes_none d t n c parts none p Gathers = λ ids named e k. absurd (none_some (sym none ∙ e))
  goes_none d t n c parts none p (Hears number held) = λ ids named e k. absurd (none_some (sym none ∙ e))
  goes_none d t n c parts none p (Posts held) = λ ids named e k. absurd (none_some (sym none ∙ e))
  goes_none d t n c parts none p (Takes_turn held) = λ ids named e k. absurd (none_some (sym none ∙ e))
  goes_none d t n c parts none p (Applies_first held) = λ ids named e k. absurd (none_some (sym none ∙ e))
  goes_none d t n c parts none p (Ends_first held) = λ ids named e k. absurd (none_some (sym none ∙ e))
  goes_none d t n c parts none p Turns = λ ids named e k. absurd (none_some (sym none ∙ e))
  goes_none d t n c parts none p Applies = λ ids named e k. absurd (none_some (sym none ∙ e))
  goes_none d t n c parts none p Ends_turn = λ ids named e k. absurd (none_some (sym none ∙ e))

  comes_none : (d : DeskPart K V E) (t : TablePart K V) (n : ℕ) (c : Call K V E) (parts : ℕ) → c.carried ≡ None → (next : Next K V E) →
      Comes parts c next → KeptIf d t n next.left
  comes_none d t n c parts none next (Comes_on rest more) = goes_none d t n c parts none rest more
  comes_none d t n c parts none next Comes_to = λ ids named e k. absurd (none_some (sym none ∙ e))
  comes_none d t n c parts none next Comes_not = λ ids named e k. absurd (none_some (sym none ∙ e))

  -- a plan that goes on to let predicates go keeps those that it carries, where it keeps each
  goes_kept : (d : DeskPart K V E) (t : TablePart K V) (n : ℕ) (c : Call K V E) (ids : List (ℕ × ℕ)) → c.carried ≡ Some ids →
      (p : List (Item K V E)) → IsRetiring p → ((named : ℕ × ℕ) → IsIn ids named → KeptIn d t n p named) → KeptIf d t n (goes c p).left
  goes_kept d t n c ids is p Retiring each = λ more named e h. each named (subst (λ v. IsIn v named) (some_same (sym e ∙ is)) h)
  goes_kept d t n c ids is p (Listing part rest r) each = λ more named e h. each named (subst (λ v. IsIn v named) (some_same (sym e ∙ is)) h)
  goes_kept d t n c ids is p (Finding key rest r) each = λ more named e h. each named (subst (λ v. IsIn v named) (some_same (sym e ∙ is)) h)
  goes_kept d t n c ids is p (Striking there found rest r) each =
      λ more named e h. each named (subst (λ v. IsIn v named) (some_same (sym e ∙ is)) h)

  strike_same : (there at : K) (stored found : Stored V) (rest more : List (Item K V E)) →
      (plan.Strike there stored ∷ rest) ≡ (plan.Strike at found ∷ more) → (there ≡ at) × (stored ≡ found)
  strike_same there at stored found rest more e = (ap of_key e, ap of_stored e)
    where
      of_key : List (Item K V E) → K
      of_key (plan.Strike a b ∷ more) = a
      of_key _ = there

      of_stored : List (Item K V E) → Stored V
      of_stored (plan.Strike a b ∷ more) = b
      of_stored _ = stored

  -- ---- which predicates are chosen

  module _ (d : DeskPart K V E) where
    -- where the search finds none, no call up to its last has taken a moment by then
    none_pends : (moment last : ℕ) → some_pending_by d moment last ≡ false → (x : ℕ) → x ≤ last → is_pending_by d moment x ≡ false
    none_pends moment zero e x low = subst (λ v. is_pending_by d moment v ≡ false) (omega (arith, low)) e
    none_pends moment (suc last) e x low = by (x == suc last) refl
        (none_pends moment last (second (is_pending_by d moment (suc last)) (some_pending_by d moment last) e) x)
      where
        first : (a b : Bool) → (a || b) ≡ false → a ≡ false
        first true b h = h
        first false b h = refl

        second : (a b : Bool) → (a || b) ≡ false → b ≡ false
        second true b h = absurd (false≢true (sym h))
        second false b h = h

        by : (b : Bool) → (x == suc last) ≡ b → (x ≤ last → is_pending_by d moment x ≡ false) → is_pending_by d moment x ≡ false
        by true same more = subst (λ v. is_pending_by d moment v ≡ false) (sym (eqb-true x (suc last) same))
            (first (is_pending_by d moment (suc last)) (some_pending_by d moment last) e)
        by false other more = let differs : x ≢ suc last = differ_not x (suc last) other in more (omega (arith, low, differs))

    -- so the moment of each that has taken one is later
    pends_later : (moment x taken : ℕ) → is_pending_by d moment x ≡ false → pending_of d x ≡ Some taken → moment < taken
    pends_later moment x taken e is =
        let off : nat_le taken moment ≡ false = sym (ap (λ o. option_map_or (λ v. nat_le v moment) o false) is) ∙ e in
        grind (arith, nat_tests, off)

    -- what is chosen is registered, and may leave
    chosen_named : (named : ℕ × ℕ) → IsIn (candidates d) named → (r : Registered) × (named_of r ≡ named) × (is_candidate d r ≡ true)
    chosen_named named h =
        let of = in_map named_of (filter (is_candidate d) d.registered) named h in
        (of.0, of.2, (in_filter (is_candidate d) d.registered of.0 of.1).1)

  module _ (laws : IsEquivalence eq) (s : State K V E) (h : IsReached eq s) (n : ℕ) (c : Call K V E)
      (begins : BegunBy (part_begun s.world.table n) (Some c)) where
    abbrev After : World K V E → Next K V E → Type 0
    After new next = KeptIf new.desk new.table n next.left

    -- what is chosen is kept, where no list is begun yet
    fresh_kept : (parts : ℕ) → parts ≡ s.world.table.division.parts → part_begun s.world.table n ≡ None → (named : ℕ × ℕ) →
        IsIn (candidates s.world.desk) named → KeptIn s.world.desk s.world.table n (lists_from 0 parts (plan.Retire ∷ [])) named
    fresh_kept parts same none named chosen =
        let of = chosen_named s.world.desk named chosen in
        let r : Registered = of.0 in
        let moment : r.moment ≡ named.1 = ap (λ (v : ℕ × ℕ). v.1) of.1 in
        let past : nat_lt r.moment s.world.desk.clock ≡ true =
        and_first (nat_lt r.moment s.world.desk.clock) (not (some_pending_by s.world.desk r.moment s.world.desk.last)) of.2 in
        let off : some_pending_by s.world.desk r.moment s.world.desk.last ≡ false =
        not_true (some_pending_by s.world.desk r.moment s.world.desk.last)
        (and_second (nat_lt r.moment s.world.desk.clock) (not (some_pending_by s.world.desk r.moment s.world.desk.last)) of.2) in
        record {
          past = subst (λ v. v < s.world.desk.clock) moment (grind (arith, nat_tests, past));
          alone = λ x taken e. subst (λ v. v < taken) moment (pends_later s.world.desk r.moment x taken
              (none_pends s.world.desk r.moment s.world.desk.last off x (pending_started eq s (in_well eq s h) x taken e)) e);
          comes = λ key there stored e strikes. inr (
            look_from {K = K} {V = V} {E = E} eq n key s.world.table.division (plan.Retire ∷ []) 0 parts (omega arith)
                (omega (arith, same, (in_walking eq laws s h).divides.part key)),
            nothing_begun eq n key s.world.table none,
          );
        }

    -- what stands under an equal key stands there
    same_there : (other key : K) → eq other key ≡ true → s.world.table.stored other ≡ s.world.table.stored key
    same_there other key e = (reached_counted eq laws s h).alike other key e

    -- a list that is begun
    begun_kept : (part : ℕ) (p : List (Item K V E)) (named : ℕ × ℕ) → KeptIn s.world.desk s.world.table n p named →
        KeptIn s.world.desk (begun s.world.table n (op.Keys part)) n p named
    begun_kept part p named k = record {
      past = k.past;
      alone = k.alone;
      comes = λ key there stored e strikes. by key there stored e (k.comes key there stored e strikes);
    }
      where
        by : (key there : K) (stored : Stored V) → s.world.table.stored key ≡ Some (there, stored) → ToFind s.world.table n p key there stored →
            ToFind (begun s.world.table n (op.Keys part)) n p key there stored
        by key there stored e (inl next) = inl next
        by key there stored e (inr look) = inr (look.0, begun_must eq n key n s.world.table look.1 (op.Keys part) (ap is_some e))

    -- a list that is made: its keys are to be looked up
    listed_kept : (part : ℕ) (rest : List (Item K V E)) (listed : Listed K) (keys : List K) → c.plan ≡ plan.List_keys part ∷ rest →
        (begun s.world.table n (op.Keys part)).listings n ≡ Some listed → ((q : K) → listed.must q ≡ true → list_any (eq q) keys ≡ true) →
        (named : ℕ × ℕ) → KeptIn s.world.desk s.world.table n (plan.List_keys part ∷ rest) named →
        KeptIn s.world.desk (record (begun s.world.table n (op.Keys part)) { listings = put_at (begun s.world.table n (op.Keys part)).listings n None }) n
        (map plan.Find keys ++ rest) named
    listed_kept part rest listed keys e is whole named k = record {
      past = k.past;
      alone = k.alone;
      comes = λ key there stored f strikes. inr (by key there stored f (k.comes key there stored f strikes), over key);
    }
      where
        over : (key : K) →
            MustGive eq n key (record (begun s.world.table n (op.Keys part)) { listings = put_at (begun s.world.table n (op.Keys part)).listings n None })
        over key l f of = absurd (none_some (sym (put_here (begun s.world.table n (op.Keys part)).listings n None) ∙ f))

        look : (key : K) → IsSome (s.world.table.stored key) → MustGive eq n key s.world.table →
            (s.world.table.division.part_of key ≡ part) ⊎ ToLook {K = K} {V = V} {E = E} eq n key s.world.table.division rest →
            ToLook {K = K} {V = V} {E = E} eq n key s.world.table.division (map plan.Find keys ++ rest)
        look key stands must (inl of) = finds_now eq n key laws s.world.table.division keys rest
            (whole key (begun_must eq n key n s.world.table must (op.Keys part) stands listed is
            (of ∙ sym (begun_named s.world.table n c part rest e begins listed is))))
        look key stands must (inr later) = finds_later eq n key s.world.table.division keys rest later

        by : (key there : K) (stored : Stored V) → s.world.table.stored key ≡ Some (there, stored) →
            ToFind s.world.table n (plan.List_keys part ∷ rest) key there stored →
            ToLook {K = K} {V = V} {E = E} eq n key s.world.table.division (map plan.Find keys ++ rest)
        by key there stored f (inl next) = absurd (not_list next.0 next.1)
          where
            not_list : (more : List (Item K V E)) → (plan.List_keys part ∷ rest) ≡ (plan.Strike there stored ∷ more) → ⊥
            not_list more e = cc
        by key there stored f (inr h) = look key (ap is_some f) h.1 h.0

    -- nothing stands under the key that was looked up
    missed_kept : (other : K) (rest : List (Item K V E)) → s.world.table.stored other ≡ None → (named : ℕ × ℕ) →
        KeptIn s.world.desk s.world.table n (plan.Find other ∷ rest) named → KeptIn s.world.desk s.world.table n rest named
    missed_kept other rest none named k = record {
      past = k.past;
      alone = k.alone;
      comes = λ key there stored e strikes. by key there stored e (k.comes key there stored e strikes);
    }
      where
        look : (key there : K) (stored : Stored V) → s.world.table.stored key ≡ Some (there, stored) →
            (eq other key ≡ true) ⊎ ToLook {K = K} {V = V} {E = E} eq n key s.world.table.division rest →
            ToLook {K = K} {V = V} {E = E} eq n key s.world.table.division rest
        look key there stored e (inl f) = absurd (none_some (sym none ∙ same_there other key f ∙ e))
        look key there stored e (inr later) = later

        by : (key there : K) (stored : Stored V) → s.world.table.stored key ≡ Some (there, stored) →
            ToFind s.world.table n (plan.Find other ∷ rest) key there stored → ToFind s.world.table n rest key there stored
        by key there stored e (inl next) = absurd (not_find next.0 next.1)
          where
            not_find : (more : List (Item K V E)) → (plan.Find other ∷ rest) ≡ (plan.Strike there stored ∷ more) → ⊥
            not_find more e = cc
        by key there stored e (inr h) = inr (look key there stored e h.0, h.1)

    -- a record stands there: it is struck next
    found_kept : (other at : K) (found : Stored V) (rest : List (Item K V E)) → s.world.table.stored other ≡ Some (at, found) → (named : ℕ × ℕ) →
        KeptIn s.world.desk s.world.table n (plan.Find other ∷ rest) named → KeptIn s.world.desk s.world.table n (plan.Strike at found ∷ rest) named
    found_kept other at found rest some named k = record {
      past = k.past;
      alone = k.alone;
      comes = λ key there stored e strikes. by key there stored e (k.comes key there stored e strikes);
    }
      where
        look : (key there : K) (stored : Stored V) → s.world.table.stored key ≡ Some (there, stored) → MustGive eq n key s.world.table →
            (eq other key ≡ true) ⊎ ToLook {K = K} {V = V} {E = E} eq n key s.world.table.division rest →
            ToFind s.world.table n (plan.Strike at found ∷ rest) key there stored
        look key there stored e must (inl f) =
            let same : (at, found) ≡ (there, stored) = some_same (sym some ∙ same_there other key f ∙ e) in
            inl (rest, ap (λ (v : K × Stored V). plan.Strike v.0 v.1 ∷ rest) same)
        look key there stored e must (inr later) = inr (later, must)

        by : (key there : K) (stored : Stored V) → s.world.table.stored key ≡ Some (there, stored) →
            ToFind s.world.table n (plan.Find other ∷ rest) key there stored → ToFind s.world.table n (plan.Strike at found ∷ rest) key there stored
        by key there stored e (inl next) = absurd (not_find next.0 next.1)
          where
            not_find : (more : List (Item K V E)) → (plan.Find other ∷ rest) ≡ (plan.Strike there stored ∷ more) → ⊥
            not_find more e = cc
        by key there stored e (inr h) = look key there stored e h.1 h.0

    -- the record is struck: a predicate that is still carried doesn't hide it
    struck_kept : (at : K) (found : Stored V) (rest : List (Item K V E)) (named : ℕ × ℕ) → does_strike s.world.desk at found named ≡ false →
        KeptIn s.world.desk s.world.table n (plan.Strike at found ∷ rest) named → KeptIn s.world.desk s.world.table n rest named
    struck_kept at found rest named off k = record {
      past = k.past;
      alone = k.alone;
      comes = λ key there stored e strikes. by key there stored strikes (k.comes key there stored e strikes);
    }
      where
        by : (key there : K) (stored : Stored V) → does_strike s.world.desk there stored named ≡ true →
            ToFind s.world.table n (plan.Strike at found ∷ rest) key there stored → ToFind s.world.table n rest key there stored
        by key there stored strikes (inl next) =
            let same = strike_same at there found stored rest next.0 next.1 in
            absurd (false≢true (sym off ∙ ap (λ v. does_strike s.world.desk v found named) same.0 ∙
            ap (λ v. does_strike s.world.desk there v named) same.1 ∙ strikes))
        by key there stored strikes (inr h) = inr h

    kept_on : (ids : List (ℕ × ℕ)) → c.carried ≡ Some ids → (p : List (Item K V E)) → c.plan ≡ p → IsRetiring p →
        ((named : ℕ × ℕ) → IsIn ids named → KeptIn s.world.desk s.world.table n p named) → OnStep eq After s.world n c p
    kept_on ids is p e Retiring each = outcomes eq After s.world n c plan.Retire [] tt
    kept_on ids is p e (Listing part rest r) each = outcomes eq After s.world n c (plan.List_keys part) rest (
      λ more others named f m. subst (λ q. KeptIn s.world.desk (begun s.world.table n (op.Keys part)) n q named) (sym e)
          (begun_kept part (plan.List_keys part ∷ rest) named (each named (subst (λ v. IsIn v named) (some_same (sym f ∙ is)) m))),
      λ listed keys made gives. goes_kept s.world.desk
          (record (begun s.world.table n (op.Keys part)) { listings = put_at (begun s.world.table n (op.Keys part)).listings n None }) n c ids is
          (map plan.Find keys ++ rest) (finds_retire keys rest r)
          (λ named m. listed_kept part rest listed keys e made gives.whole named (each named m)),
    )
    kept_on ids is p e (Finding other rest r) each = outcomes eq After s.world n c (plan.Find other) rest (
      λ more others named f m. subst (λ q. KeptIn s.world.desk s.world.table n q named) (sym e)
          (each named (subst (λ v. IsIn v named) (some_same (sym f ∙ is)) m)),
      λ none. goes_kept s.world.desk s.world.table n c ids is rest r (λ named m. missed_kept other rest none named (each named m)),
      λ there stored some none. absurd (none_some (sym none ∙ is)),
      λ there stored same some carries others named f m.
          found_kept other there stored rest some named (each named (subst (λ v. IsIn v named) (some_same (sym f ∙ is)) m)),
    )
    kept_on ids is p e (Striking there found rest r) each = outcomes eq After s.world n c (plan.Strike there found) rest
        (goes_kept s.world.desk s.world.table n (carrying c (struck s.world.desk (unwrap_or c.carried []) there found))
        (struck s.world.desk (unwrap_or c.carried []) there found) refl rest r (λ named m. by named
        (in_filter (λ of. not (does_strike s.world.desk there found of)) (unwrap_or c.carried []) named m)))
      where
        by : (named : ℕ × ℕ) → IsIn (unwrap_or c.carried []) named × (not (does_strike s.world.desk there found named) ≡ true) →
            KeptIn s.world.desk s.world.table n rest named
        by named h = struck_kept there found rest named (not_true (does_strike s.world.desk there found named) h.1)
            (each named (subst (λ (o : Option (List (ℕ × ℕ))). IsIn (unwrap_or o []) named) is h.0))

    -- maintenance that is to choose predicates has begun no list
    none_chosen : (parts : ℕ) → c.plan ≡ plan.Candidates parts ∷ [] → part_begun s.world.table n ≡ None
    none_chosen parts is = none_begun (part_begun s.world.table n) c (λ part b. subst (BeginsWith part) is b) begins

    kept_own : Laden s.world.table.division c → KeptIf s.world.desk s.world.table n (Some c) → OnStep eq After s.world n c c.plan
    kept_own (Free calm none) kept = more_step eq (λ (new : World K V E) (next : Next K V E). CarriesSame c next.left) After
        (λ new next same. none_if new.desk new.table n next.left c none same) s.world n c c.plan (on_carries eq s.world n c c.plan refl calm)
    kept_own (Showing shows) kept = more_step eq (λ (new : World K V E) (next : Next K V E). ShowsIf next.left) After
        (λ new next k. shown_if new.desk new.table n next.left k) s.world n c c.plan (on_shows eq s.world n c shows)
    kept_own (Tending (Coming parts coming same none)) kept = on_coming eq After s.world n c parts c.plan coming
        (λ d spares next comes. comes_none d s.world.table n c parts none next comes)
    kept_own (Tending (Choosing parts is same none)) kept =
        subst (OnStep eq After s.world n c) (sym is) (outcomes eq After s.world n c (plan.Candidates parts) [] (
          λ over. tt,
          λ id more some. goes_kept s.world.desk s.world.table n (carrying c (id ∷ more)) (id ∷ more) refl (lists_from 0 parts (plan.Retire ∷ []))
              (lists_retire 0 parts)
              (λ named m. fresh_kept parts same (none_chosen parts is) named (subst (λ v. IsIn v named) (sym some) m)),
        ))
    kept_own (Tending (Carrying ids is r)) kept = kept_on ids is c.plan refl r (λ named m. kept ids named is m)

  -- ---- of a state

  record AreKept (s : State K V E) : Type 0 where
    reached : IsReached eq s
    laden : (n : ℕ) → LadenIf s.world.table.division (s.calls n)
    kept : (n : ℕ) → KeptIf s.world.desk s.world.table n (s.calls n)

  module _ (laws : IsEquivalence eq) where
    kept_step : (s t : State K V E) (m : ℕ) (turn : Turn K V E) → Leads eq s t → AreKept s → Step eq s m turn t → AreKept t
    kept_step s t m turn led i step = record {
      reached = run_reached eq s t led.events led.replies i.reached led.run;
      laden = λ n. laden_by n (m == n) refl;
      kept = λ n. kept_by n (m == n) refl;
    }
      where
        laden : Laden s.world.table.division step.call
        laden = subst (LadenIf s.world.table.division) step.live (i.laden m)

        divides : t.world.table.division ≡ s.world.table.division
        divides = division_stays eq s t m turn step

        begins : BegunBy (part_begun s.world.table m) (Some step.call)
        begins = subst (BegunBy (part_begun s.world.table m)) step.live ((in_walking eq laws s i.reached).begun m)

        own_laden : LadenIf s.world.table.division (t.calls m)
        own_laden = step_cases eq (λ new next. LadenIf s.world.table.division next.left) (λ v _. LadenIf s.world.table.division (v.calls m)) s t m turn step
            (laden_on eq s.world.table.division s.world m step.call laden)
            (λ w next k. subst (LadenIf s.world.table.division) (sym (put_here s.calls m next.left)) k)

        laden_by : (n : ℕ) (b : Bool) → (m == n) ≡ b → LadenIf t.world.table.division (t.calls n)
        laden_by n true e = subst (λ v. LadenIf t.world.table.division (t.calls v)) (eqb-true m n e)
            (subst (λ v. LadenIf v (t.calls m)) (sym divides) own_laden)
        laden_by n false e = subst (LadenIf t.world.table.division) (sym (step_calls eq s t m n turn e step))
            (subst (λ v. LadenIf v (s.calls n)) (sym divides) (i.laden n))

        own_kept : KeptIf t.world.desk t.world.table m (t.calls m)
        own_kept = step_cases eq (λ new next. KeptIf new.desk new.table m next.left) (λ v _. KeptIf v.world.desk v.world.table m (v.calls m)) s t m turn step
            (kept_own laws s i.reached m step.call begins laden (subst (KeptIf s.world.desk s.world.table m) step.live (i.kept m)))
            (λ w next k. subst (KeptIf w.desk w.table m) (sym (put_here s.calls m next.left)) k)

        others : (n : ℕ) (left : Option (Call K V E)) → KeptIf s.world.desk s.world.table n left → KeptIf t.world.desk t.world.table n left
        others n None k = tt
        others n (Some c) k = λ ids named e h. kept_by_step s t m turn i.reached step n c.plan named (k ids named e h)

        kept_by : (n : ℕ) (b : Bool) → (m == n) ≡ b → KeptIf t.world.desk t.world.table n (t.calls n)
        kept_by n true e = subst (λ v. KeptIf t.world.desk t.world.table v (t.calls v)) (eqb-true m n e) own_kept
        kept_by n false e = subst (KeptIf t.world.desk t.world.table n) (sym (step_calls eq s t m n turn e step)) (others n (s.calls n) (i.kept n))

    kept_followed : IsFollowed eq AreKept
    kept_followed = record {
      at = λ s moment on led i. record {
        reached = run_reached eq s _ led.events led.replies i.reached led.run;
        laden = i.laden;
        kept = λ n. kept_still s.world.desk (at_moment s moment).world.desk s.world.table (grind (arith, nat_tests, on)) (λ x taken e. e) refl refl n (s.calls n)
            (i.kept n);
      };
      start = λ s begin fits led i. record {
        reached = run_reached eq s _ led.events led.replies i.reached led.run;
        laden = λ n. start_laden s begin i n (s.world.desk.last + 1 == n) refl;
        kept = λ n. start_kept s begin i n (s.world.desk.last + 1 == n) refl;
      };
      step = kept_step;
      tell = λ s m given asked led i. record {
        reached = run_reached eq s _ led.events led.replies i.reached led.run;
        laden = i.laden;
        kept = λ n. kept_still s.world.desk (told_call s.world.desk m given) s.world.table (omega arith) (λ x taken e. e) refl refl n (s.calls n) (i.kept n);
      };
      hear = λ s m off running led i. record {
        reached = run_reached eq s _ led.events led.replies i.reached led.run;
        laden = i.laden;
        kept = λ n. kept_still s.world.desk (heard s.world.desk m off) s.world.table (omega arith) (λ x taken e. e) refl refl n (s.calls n) (i.kept n);
      };
      drop = λ s m c live between led i. record {
        reached = run_reached eq s _ led.events led.replies i.reached led.run;
        laden = λ n. drop_laden s i m n (m == n) refl;
        kept = λ n. drop_kept s m c i n (m == n) refl;
      };
    }
      where
        start_laden : (s : State K V E) (begin : Start K V) → AreKept s → (n : ℕ) (b : Bool) → (s.world.desk.last + 1 == n) ≡ b →
            LadenIf s.world.table.division ((started s begin).calls n)
        start_laden s begin i n true e =
            subst (λ v. LadenIf s.world.table.division ((started s begin).calls v)) (eqb-true (s.world.desk.last + 1) n e)
            (subst (LadenIf s.world.table.division) (sym (put_here s.calls (s.world.desk.last + 1) _))
            (fresh_laden {K = K} {V = V} {E = E} s.world.table.division s.world.desk.rules begin))
        start_laden s begin i n false e =
            subst (LadenIf s.world.table.division) (sym (put_there s.calls (s.world.desk.last + 1) _ n e)) (i.laden n)

        start_kept : (s : State K V E) (begin : Start K V) → AreKept s → (n : ℕ) (b : Bool) → (s.world.desk.last + 1 == n) ≡ b →
            KeptIf (started s begin).world.desk s.world.table n ((started s begin).calls n)
        start_kept s begin i n true e =
            subst (λ v. KeptIf (started s begin).world.desk s.world.table v ((started s begin).calls v)) (eqb-true (s.world.desk.last + 1) n e)
            (subst (KeptIf (started s begin).world.desk s.world.table (s.world.desk.last + 1)) (sym (put_here s.calls (s.world.desk.last + 1)
            (Some (fresh_call s.world.table.division.parts s.world.desk.rules begin)))) (λ ids named f h. absurd (none_some f)))
        start_kept s begin i n false e =
            subst (KeptIf (started s begin).world.desk s.world.table n) (sym (put_there s.calls (s.world.desk.last + 1) _ n e))
            (kept_still s.world.desk (started s begin).world.desk s.world.table (omega arith) (λ x taken f. f) refl refl n (s.calls n) (i.kept n))

        drop_laden : (s : State K V E) → AreKept s → (m n : ℕ) (b : Bool) → (m == n) ≡ b → LadenIf s.world.table.division (put_at s.calls m None n)
        drop_laden s i m n true e = subst (λ v. LadenIf s.world.table.division (put_at s.calls m None v)) (eqb-true m n e)
            (subst (LadenIf s.world.table.division) (sym (put_here s.calls m None)) tt)
        drop_laden s i m n false e = subst (LadenIf s.world.table.division) (sym (put_there s.calls m None n e)) (i.laden n)

        drop_kept : (s : State K V E) (m : ℕ) (c : Call K V E) → AreKept s → (n : ℕ) (b : Bool) → (m == n) ≡ b →
            KeptIf (dropped s m c).world.desk s.world.table n (put_at s.calls m None n)
        drop_kept s m c i n true e = subst (λ v. KeptIf (dropped s m c).world.desk s.world.table v (put_at s.calls m None v)) (eqb-true m n e)
            (subst (KeptIf (dropped s m c).world.desk s.world.table m) (sym (put_here s.calls m None)) tt)
        drop_kept s m c i n false e = subst (KeptIf (dropped s m c).world.desk s.world.table n) (sym (put_there s.calls m None n e))
            (kept_still s.world.desk (dropped s m c).world.desk s.world.table (omega arith)
            (λ x taken f. put_quiet s.world.desk.holding m None refl x taken f) refl refl n (s.calls n) (i.kept n))

    in_kept : (s : State K V E) → IsReached eq s → AreKept s
    in_kept s h = follow eq AreKept kept_followed (fresh K V E h.division h.rules h.size h.handed) s h.events h.replies (record {
      reached = fresh_reached eq h.division h.divides h.rules h.size h.handed h.has_log;
      laden = λ n. tt;
      kept = λ n. tt;
    }) h.run

  -- ---- which predicates leave

  -- what is registered stays so, or the access lets it go
  left_by : (w : World K V E) (r : Registered) (a : Access K V E) → IsIn w.desk.registered r →
      IsIn (tests_after w a) r ⊎ ((ids : List (ℕ × ℕ)) × (lets_go a ≡ Some ids) × (list_any (λ named. is_named named r) ids ≡ true))
  left_by w r (On_desk (visit.Register test)) h = inl (by w.desk.rules.closures (next_free w.desk))
    where
      by : (b : Bool) (free : Option ℕ) → IsIn (registered_by w.desk test b free) r
      by false free = h
      by true None = h
      by true (Some number) = in_front w.desk.registered r _ h
  left_by w r (On_desk (visit.Retire ids)) h = by (list_any (λ named. is_named named r) ids) refl
    where
      by : (b : Bool) → list_any (λ named. is_named named r) ids ≡ b →
          IsIn (filter (λ v. not (list_any (λ named. is_named named v) ids)) w.desk.registered) r ⊎
          ((gone : List (ℕ × ℕ)) × (Some ids ≡ Some gone) × (list_any (λ named. is_named named r) gone ≡ true))
      by true e = inr (ids, refl, e)
      by false e = inl (filter_in (λ v. not (list_any (λ named. is_named named v) ids)) w.desk.registered r h (ap not e))
  left_by w r (On_desk _) h = inl h
  left_by w r (On_table operation) h = inl h

  -- a plan that lets predicates go first does nothing after that, and carries some
  retires_last : (d : Division K) (c : Call K V E) (rest : List (Item K V E)) → c.plan ≡ plan.Retire ∷ rest → Laden d c →
      (c.plan ≡ plan.Retire ∷ []) × (ids : List (ℕ × ℕ)) × (c.carried ≡ Some ids)
  retires_last d c rest e (Free calm none) =
      let heavy : weigh walking (plan.Retire ∷ rest) ≡ 0 = sym (ap (weigh walking) e) ∙ calm in absurd (omega (arith, heavy))
  retires_last d c rest e (Showing shows) = absurd (not_shown (subst IsShowing e shows.walk))
    where
      not_shown : IsShowing (plan.Retire ∷ rest) → ⊥
      not_shown w = elim w [ ]
  retires_last d c rest e (Tending (Coming parts coming same none)) = absurd (not_coming (subst (IsComing parts) e coming))
    where
      not_coming : IsComing parts (plan.Retire ∷ rest) → ⊥
      not_coming w = elim w [ ]
  retires_last d c rest e (Tending (Choosing parts is same none)) = absurd (not_chosen (sym is ∙ e))
    where
      not_chosen : (plan.Candidates parts ∷ []) ≡ (plan.Retire ∷ rest) → ⊥
      not_chosen f = cc
  retires_last d c rest e (Tending (Carrying ids is r)) = (e ∙ ends rest (subst IsRetiring e r), ids, is)
    where
      ends : (more : List (Item K V E)) → IsRetiring (plan.Retire ∷ more) → (plan.Retire ∷ more) ≡ (plan.Retire ∷ [])
      ends more Retiring = refl

  strikes_hit : (d : DeskPart K V E) (there : K) (stored : Stored V) (r : Registered) → IsIn d.registered r → does_hit d there stored r ≡ true →
      does_strike d there stored (named_of r) ≡ true
  strikes_hit d there stored r in_list hits = any_holds (strikes_in there stored (named_of r) d.predicates) d.registered r in_list
      (subst (λ b. (b && does_hit d there stored r) ≡ true) (sym (named_own r)) hits)

  -- what is carried when nothing is to be found any more is spent
  spent : (s : State K V E) (n : ℕ) (r : Registered) → IsIn s.world.desk.registered r →
      KeptIn s.world.desk s.world.table n (plan.Retire ∷ []) (named_of r) → IsSpent s r
  spent s n r in_list k = record {
    past = k.past;
    alone = k.alone;
    hides = λ key there stored e. by key there stored e (does_hit s.world.desk there stored r) refl;
  }
    where
      nothing : (key there : K) (stored : Stored V) → ToFind s.world.table n (plan.Retire ∷ []) key there stored → ⊥
      nothing key there stored (inl next) = not_strike next.0 next.1
        where
          not_strike : (more : List (Item K V E)) → (plan.Retire ∷ []) ≡ (plan.Strike there stored ∷ more) → ⊥
          not_strike more e = cc
      nothing key there stored (inr look) = look.0

      by : (key there : K) (stored : Stored V) → s.world.table.stored key ≡ Some (there, stored) → (b : Bool) → does_hit s.world.desk there stored r ≡ b →
          does_hit s.world.desk there stored r ≡ false
      by key there stored e true hits =
          absurd (nothing key there stored (k.comes key there stored e (strikes_hit s.world.desk there stored r in_list hits)))
      by key there stored e false off = off

  -- a predicate that is registered stays so, or the step is the last one of maintenance that carries
  -- it, and it is spent
  pub stays_or_spent : IsEquivalence eq → (s t : State K V E) (n : ℕ) (reply : Turn K V E) (r : Registered) → IsReached eq s →
      (step : Step eq s n reply t) → IsIn s.world.desk.registered r →
      IsIn t.world.desk.registered r ⊎ ((step.call.plan ≡ plan.Retire ∷ []) × Carries step.call r × IsSpent s r)
  stays_or_spent laws s t n reply r h step in_list = by (left_by s.world r (access_of n step.call) in_list)
    where
      i : AreKept s
      i = in_kept laws s h

      by : IsIn (tests_after s.world (access_of n step.call)) r ⊎
          ((ids : List (ℕ × ℕ)) × (lets_go (access_of n step.call) ≡ Some ids) × (list_any (λ named. is_named named r) ids ≡ true)) →
          IsIn t.world.desk.registered r ⊎ ((step.call.plan ≡ plan.Retire ∷ []) × Carries step.call r × IsSpent s r)
      by (inl stays) = inl (subst (λ rs. IsIn rs r) (sym (step_bears eq s t n reply step).registered) stays)
      by (inr out) =
          let lets = plan_lets n step.call.rules step.call.mode step.call.plan step.call.aborts step.call.carried out.0 out.1 in
          let last = retires_last s.world.table.division step.call lets.0 lets.1 (subst (LadenIf s.world.table.division) step.live (i.laden n)) in
          let found = any_found (λ named. is_named named r) out.0 out.2 in
          let carried : IsIn last.1 (named_of r) =
          subst (λ (o : Option (List (ℕ × ℕ))). IsIn (unwrap_or o []) (named_of r)) last.2
          (subst (λ v. IsIn v (named_of r)) lets.2 (subst (IsIn out.0) (named_same r found.0 found.2) found.1)) in
          let kept : KeptIn s.world.desk s.world.table n step.call.plan (named_of r) =
          subst (KeptIf s.world.desk s.world.table n) step.live (i.kept n) last.1 (named_of r) last.2 carried in
          inr (
            last.0,
            (last.1, last.2, in_contains last.1 (named_of r) carried),
            spent s n r in_list (subst (λ p. KeptIn s.world.desk s.world.table n p (named_of r)) last.0 kept),
          )

  pub leaving_spent : IsEquivalence eq → LeavingAreSpent K V E eq
  leaving_spent laws s t n c reply r h live step was gone =
      by (stays_or_spent laws s t n reply r h step (contains_in s.world.desk.registered r was))
    where
      by : IsIn t.world.desk.registered r ⊎ ((step.call.plan ≡ plan.Retire ∷ []) × Carries step.call r × IsSpent s r) →
          (c.plan ≡ plan.Retire ∷ []) × Carries c r × IsSpent s r
      by (inl stays) = absurd (gone (in_contains t.world.desk.registered r stays))
      by (inr out) = subst (λ (v : Call K V E). (v.plan ≡ plan.Retire ∷ []) × Carries v r × IsSpent s r) (some_same (sym step.live ∙ live)) out

  -- ---- what is still to be found

  comes_to : (d : Division K) (n : ℕ) (key : K) (p : List (Item K V E)) → ToLook {K = K} {V = V} {E = E} eq n key d p → ComesTo eq d key p
  comes_to d n key [] h = absurd h
  comes_to d n key (plan.List_keys part ∷ rest) (inl here) = inl here
  comes_to d n key (plan.List_keys part ∷ rest) (inr later) = inr (comes_to d n key rest later)
  comes_to d n key (plan.Find other ∷ rest) (inl here) = inl here
  comes_to d n key (plan.Find other ∷ rest) (inr later) = inr (comes_to d n key rest later)
  comes_to d n key (_ ∷ rest) h = comes_to d n key rest h

  pub hidden_ahead : IsEquivalence eq → HiddenAreAhead K V E eq
  hidden_ahead laws s n c r key there stored h live carries was stands hits = ahead
      (kept.comes key there stored stands (strikes_hit s.world.desk there stored r (contains_in s.world.desk.registered r was) hits))
    where
      kept : KeptIn s.world.desk s.world.table n c.plan (named_of r)
      kept = subst (KeptIf s.world.desk s.world.table n) live ((in_kept laws s h).kept n) carries.0 (named_of r) carries.1
          (contains_in carries.0 (named_of r) carries.2)

      ahead : ToFind s.world.table n c.plan key there stored → IsAhead eq s n c key there stored
      ahead (inl next) = inl next
      ahead (inr look) = inr (comes_to s.world.table.division n key c.plan look.0, look.1)
