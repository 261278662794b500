-- Each whole event leaves a calm cache calm.
use Rattle.std.specs.Option.{option_map, option_to_list}
use Rattle.std.proofs.Common.{◌≡◌, ◌==◌, ◌+◌, ◌++◌, nat_lt, ℕ, zero, suc, Bool, true, false, cond, List, [], ◌∷◌, Option, Some, None, MatchBool, MatchOption, refl, sym, ap, ◌∙◌, subst, inl, inr}
use Rattle.moka_hist.specs.Finite.{put_at}
use Rattle.moka_hist.specs.State.{State, Call, DeskPart}
use Rattle.moka_hist.specs.Plan.{Item, get_plan, held_by, insert_plan, is_disabled, iter_plan, load_plan, look, or_insert_plan, plan_of, seek, under_lock, walk_from, pending_plan}
use Rattle.moka_hist.specs.Plan as plan
use Rattle.moka_hist.specs.Dropping.{dropped, owed_with}
use Rattle.moka_hist.specs.Telling.{is_asked, told}
use Rattle.moka_hist.specs.Run.{Any, Becomes, Drops, Happens, Refuses, fresh_call, last_call, started, with_desk}
use Rattle.moka_hist.specs.declared.events.Event.{Event}
use Rattle.moka_hist.specs.declared.events.Event.TheVariants as event
use Rattle.moka_hist.specs.declared.events.Start.{Start}
use Rattle.moka_hist.specs.declared.events.Start.TheVariants as start
use Rattle.moka_hist.specs.declared.events.Told.{Told}
use Rattle.moka_hist.specs.declared.events.Told.TheVariants as answers
use Rattle.moka_hist.specs.declared.loads.Sought.{Sought}
use Rattle.moka_hist.specs.declared.loads.Kind.TheVariants as kind
use Rattle.moka_hist.specs.declared.records.Mode.{Mode}
use Rattle.moka_hist.specs.declared.records.Mode.TheVariants as mode
use Rattle.moka_hist.specs.declared.replies.Answer.TheVariants as answer
use Rattle.moka_hist.specs.declared.replies.Refusal.{Refusal}
use Rattle.moka_hist.specs.declared.replies.Refusal.TheVariants as refusal
use Rattle.moka_hist.specs.declared.replies.Reply.{Reply}
use Rattle.moka_hist.specs.declared.rules.Rules.{Rules}
use Rattle.moka_hist.specs.declared.writes.Write.{Write}
use Rattle.moka_laws.proofs.Counting.{some_same}
use Rattle.moka_polls.specs.Calm.{HoldsNothing, IsAtRest, IsCalm, IsWhole, CalmIsQuiet, FreshIsCalm, StaysCalm, RestsWith}
use Rattle.moka_polls.proofs.Phases.{poll_ends}
use Rattle.moka_polls.proofs.Calming.{Phase, Fin, Rests, calm_steps, put_holds, take_out_holds, Gathering, Maintains, Plans}

pub fresh_calm : {K V E : Type 0} → FreshIsCalm K V E
fresh_calm division rules size built unheard = record {
  unheard = unheard;
  free = refl;
  owes = refl;
  rest = λ n c e. absurd (cc);
}

pub calm_quiet : {K V E : Type 0} → CalmIsQuiet K V E
calm_quiet s calm stores = record {
  plain = record { unheard = calm.unheard; stores = stores };
  free = calm.free;
  owes = calm.owes;
}

module _ {K V E : Type 0} where
  -- a call that holds nothing holds no write
  no_write : (p : List (Item K V E)) → HoldsNothing p → held_by p ≡ None
  no_write [] h = refl
  no_write (plan.Post write ∷ rest) h = absurd h.0
  no_write (_ ∷ rest) h = no_write rest h.1

-- the plan of a call that was just started holds nothing, where no listener is set
get_holds : {K : Type 0} (V E : Type 0) (b : Bool) (key : K) → HoldsNothing (get_plan {V = V} {E = E} b key)
get_holds V E true key = (tt, tt)
get_holds V E false key = (tt, (tt, tt))

insert_holds : {K V : Type 0} (E : Type 0) (b : Bool) (rules : Rules) (key : K) (value : V) →
    rules.listener ≡ false → HoldsNothing (insert_plan {E = E} b rules key value)
insert_holds E true rules key value unheard = (tt, tt)
insert_holds E false rules key value unheard =
    put_holds {E = E} rules key value (plan.Reply answer.Done ∷ []) unheard (tt, tt)

load_holds : {K : Type 0} (V E : Type 0) (b : Bool) (sought : Sought K) →
    HoldsNothing (load_plan {V = V} {E = E} b sought)
load_holds V E true sought = (tt, (tt, tt))
load_holds V E false sought = (tt, (tt, tt))

or_insert_holds : {K V : Type 0} (E : Type 0) (b : Bool) (key : K) (value : V) →
    HoldsNothing (or_insert_plan {E = E} b key value)
or_insert_holds E true key value = (tt, (tt, tt))
or_insert_holds E false key value = (tt, (tt, tt))

walk_holds : (K V E : Type 0) (part left : ℕ) → HoldsNothing (walk_from {K = K} {V = V} {E = E} part left)
walk_holds K V E part zero = (tt, tt)
walk_holds K V E part (suc left) = (tt, walk_holds K V E (part + 1) left)

iter_holds : (K V E : Type 0) (b : Bool) (parts : ℕ) → HoldsNothing (iter_plan {K = K} {V = V} {E = E} b parts)
iter_holds K V E true parts = (tt, tt)
iter_holds K V E false parts = walk_holds K V E 0 parts

rests_no_write : {K V E : Type 0} (p : List (Item K V E)) → RestsWith p → held_by p ≡ None
rests_no_write p (inl h) = no_write p h
rests_no_write p (inr h) = ap held_by h.1

begun_holds : {K V : Type 0} (E : Type 0) (parts : ℕ) (rules : Rules) (begun : Start K V) →
    rules.listener ≡ false → RestsWith (plan_of {E = E} parts rules begun)
begun_holds {K = K} {V = V} E parts rules (start.Get key) unheard =
    inl (get_holds V E (is_disabled rules) key)
begun_holds {K = K} {V = V} E parts rules (start.Insert key value) unheard =
    inl (insert_holds E (is_disabled rules) rules key value unheard)
begun_holds {K = K} {V = V} E parts rules (start.GetWith key replace) unheard =
    inl (load_holds V E (is_disabled rules) (seek kind.GetWith key replace))
begun_holds {K = K} {V = V} E parts rules (start.Optional key) unheard =
    inl (load_holds V E (is_disabled rules) (seek kind.Optional key None))
begun_holds {K = K} {V = V} E parts rules (start.Try key) unheard =
    inl (load_holds V E (is_disabled rules) (seek kind.Try key None))
begun_holds {K = K} {V = V} E parts rules (start.OrInsert key value) unheard =
    inl (or_insert_holds E (is_disabled rules) key value)
begun_holds {K = K} {V = V} E parts rules (start.Invalidate key) unheard =
    inl (take_out_holds V E rules plan.To_invalidate key unheard)
begun_holds {K = K} {V = V} E parts rules (start.Remove key) unheard =
    inl (take_out_holds V E rules plan.To_remove key unheard)
begun_holds {K = K} {V = V} E parts rules (start.Evict key stamp cause) unheard =
    inl (subst (λ b. HoldsNothing (under_lock {V = V} {E = E} b key (look (plan.To_evict key stamp cause) key))) (sym unheard) (tt, tt))
begun_holds {K = K} {V = V} E parts rules start.InvalidateAll unheard =
    inl ((tt, (tt, tt)))
begun_holds {K = K} {V = V} E parts rules (start.InvalidateIf test) unheard =
    inl ((tt, tt))
begun_holds {K = K} {V = V} E parts rules start.Iter unheard =
    inl (iter_holds K V E (is_disabled rules) parts)
begun_holds {K = K} {V = V} E parts rules start.Pending unheard = by (is_disabled rules)
  where
    by : (b : Bool) → RestsWith {K = K} {V = V} {E = E} (pending_plan b parts)
    by true = inl (tt, tt)
    by false = inr (parts, refl)
begun_holds {K = K} {V = V} E parts rules _ unheard =
    inl ((tt, tt))

module _ {K V E : Type 0} (s : State K V E) (calm : IsCalm s) where
  abbrev rules : Rules
  rules = s.world.desk.rules

  -- the calls are those of s, but with this in the place of one
  others : (calls : ℕ → Option (Call K V E)) (n : ℕ) (left : Option (Call K V E)) →
      calls ≡ put_at s.calls n left →
      ((c : Call K V E) → left ≡ Some c → IsAtRest rules c) →
      (m : ℕ) (c : Call K V E) → calls m ≡ Some c → IsAtRest rules c
  others calls n left are rest m c live = by (n == m) (sym (ap (λ f. f m) are) ∙ live)
    where
      by : (b : Bool) → cond b left (s.calls m) ≡ Some c → IsAtRest rules c
      by true e = rest c e
      by false e = calm.rest m c e

  -- a desk that differs in nothing that counts here
  with_such : (d : DeskPart K V E) → d.rules ≡ rules → d.turn ≡ s.world.desk.turn →
      d.owed ≡ s.world.desk.owed → IsCalm (with_desk s d)
  with_such d these turn owed = record {
    unheard = ap (λ v. v.listener) these ∙ calm.unheard;
    free = turn ∙ calm.free;
    owes = owed ∙ calm.owes;
    rest = λ n c e. subst (λ v. IsAtRest v c) (sym these) (calm.rest n c e);
  }

  as_told : (n : ℕ) (given : Told V E) → IsCalm (with_desk s (told s.world.desk n given))
  as_told n (answers.Value value) = with_such _ refl refl refl
  as_told n answers.Nothing = with_such _ refl refl refl
  as_told n (answers.Err error) = with_such _ refl refl refl
  as_told n (answers.Op op) = with_such _ refl refl refl
  as_told n answers.Done = with_such _ refl refl refl
  as_told n answers.Off = with_such _ refl refl refl

  as_started : (begun : Start K V) → IsCalm (started s begun)
  as_started begun = record {
    unheard = calm.unheard;
    free = calm.free;
    owes = calm.owes;
    rest = others (started s begun).calls (s.world.desk.last + 1)
        (Some (fresh_call s.world.table.division.parts rules begun)) refl
        (λ c e. subst (IsAtRest rules) (some_same e) (record {
          rules = refl;
          mode = λ f. cc;
          plan = begun_holds E s.world.table.division.parts rules begun calm.unheard;
        }));
  }

  as_dropped : (n : ℕ) (c : Call K V E) → s.calls n ≡ Some c → IsCalm (dropped s n c)
  as_dropped n c live = record {
    unheard = calm.unheard;
    free = calm.free;
    owes = ap (λ o. o ++ option_to_list (option_map (owed_with s.world.desk) (held_by c.plan)))
        calm.owes ∙ ap (λ h. option_to_list (option_map (owed_with s.world.desk) h))
        (rests_no_write c.plan (calm.rest n c live).plan);
    rest = others (dropped s n c).calls n None refl (λ d e. absurd (cc));
  }

  refused : (new : State K V E) (why : Refusal) (r : Reply K V E) → Refuses s why r new → IsCalm new
  refused new why r h = subst IsCalm (sym h.same) calm

  became : (new next : State K V E) (a r : Reply K V E) → Becomes next a r new → IsCalm next →
      IsCalm new
  became new next a r h is = subst IsCalm (sym h.after) is

  by_test : (b : Bool) (X Y : Type 0) (new : State K V E) → (X → IsCalm new) → (Y → IsCalm new) →
      MatchBool b X Y → IsCalm new
  by_test true X Y new f g h = f h
  by_test false X Y new f g h = g h

  by_mode : (m : Mode) (n : ℕ) (c : Call K V E) (r : Reply K V E) (new : State K V E) →
      s.calls n ≡ Some c → Drops s n c m r new → IsCalm new
  by_mode mode.Mid n c r new live h = refused new _ r h
  by_mode mode.Fresh n c r new live h = became new _ _ r h (as_dropped n c live)
  by_mode mode.Parked n c r new live h = became new _ _ r h (as_dropped n c live)

  by_call : (n : ℕ) (r : Reply K V E) (new : State K V E) (o : Option (Call K V E)) →
      s.calls n ≡ o → MatchOption o (Refuses s refusal.UnknownCall r new)
      (λ c. Drops s n c c.mode r new) → IsCalm new
  by_call n r new None e h = refused new _ r h
  by_call n r new (Some c) e h = by_mode c.mode n c r new e h

  module _ (eq : K → K → Bool) where
    rests_in : (n : ℕ) (p : List (Item K V E)) → RestsWith p → Plans eq n rules calm.unheard s.world p
    rests_in n p (inl h) = Rests p h refl calm.free calm.owes
    rests_in n p (inr h) = subst (Plans eq n rules calm.unheard s.world) (sym h.1)
        (Maintains h.0 _ (Gathering (record { of_these = refl; free = calm.free; owes = calm.owes })))

    as_polled : (new : State K V E) (n : ℕ) (r : Reply K V E) (c : Call K V E) →
        s.calls n ≡ Some c → Happens eq Any s (event.Poll n) r new → IsCalm new
    as_polled new n r c live happens =
        let at_rest : IsAtRest rules c = calm.rest n c live in
        let e = poll_ends (Phase eq n rules calm.unheard) (Fin eq n rules calm.unheard) eq n
        (calm_steps eq n rules calm.unheard) s new c r live
        (at_rest.rules, rests_in n c.plan at_rest.plan) happens in
        record {
          unheard = ap (λ v. v.listener) e.3.still.of_these ∙ calm.unheard;
          free = e.3.still.free;
          owes = e.3.still.owes;
          rest = λ m d is. subst (λ v. IsAtRest v d) (sym e.3.still.of_these)
              (others new.calls n e.0.left e.2 e.3.rest m d is);
        }

    polled : (new : State K V E) (n : ℕ) (r : Reply K V E) (o : Option (Call K V E)) →
        s.calls n ≡ o → Happens eq Any s (event.Poll n) r new → IsCalm new
    polled new n r None e h = refused new _ r (rw e at h)
    polled new n r (Some c) e h = as_polled new n r c e h

    stays : (new : State K V E) (e : Event K V E) (r : Reply K V E) → IsWhole e →
        Happens eq Any s e r new → IsCalm new
    stays new (event.At moment) r whole h = by_test (nat_lt moment s.world.desk.clock) _ _ new
        (λ x. refused new _ r x) (λ x. became new _ _ r x (with_such _ refl refl refl)) h
    stays new (event.Start begun) r whole h = by_test (s.world.desk.last == last_call) _ _ new
        (λ x. refused new _ r x) (λ x. became new _ _ r x (as_started begun)) h
    stays new (event.Step n) r whole h = absurd whole
    stays new (event.Poll n) r whole h = polled new n r (s.calls n) refl h
    stays new (event.Tell n given) r whole h = by_test (is_asked s.world.desk n given) _ _ new
        (λ x. became new _ _ r x (as_told n given)) (λ x. refused new _ r x) h
    stays new (event.Drop n) r whole h = by_call n r new (s.calls n) refl h

pub stays_calm : {K V E : Type 0} (eq : K → K → Bool) → StaysCalm K V E eq
stays_calm eq s new e r calm whole happens = stays s calm eq new e r whole happens
