-- Whatever is stored and handed out was given. What is fair here, of a plan, a desk or a table, is
-- to store only what was given, and to hand out only what was given for an equal key.
use Rattle.std.proofs.Common.{◌≡◌, ℕ, ◌+◌, ◌==◌, Bool, true, false, cond, ◌&&◌, nat_lt, is_some, List, [], ◌∷◌, Option, Some, None, MatchOption, ◌⊎◌, inl, inr, refl, sym, ap, ◌∙◌, subst}
use Rattle.std.specs.Cmp.{IsEquivalence}
use Rattle.std.specs.Prelude.{IsSomeAnd, unwrap_or}
use Rattle.std.proofs.lemmas.Bool.{eqb-true}
use Rattle.std.specs.Option.{option_and_then}
use Rattle.moka_hist.specs.Dropping.{dropped}
use Rattle.moka_hist.specs.Finite.{load_eq, put_at, put_key}
use Rattle.moka_hist.specs.Visits.{owners_without, registering, settled_with, settled_without, settlement_for}
use Rattle.moka_hist.specs.State.{State, World, Call, DeskPart, fresh, Division, Handed}
use Rattle.moka_hist.specs.Plan.{Item, plan_of, is_disabled, iter_plan, pending_plan}
use Rattle.moka_hist.specs.Plan as plan
use Rattle.moka_hist.specs.Next.{Next, goes}
use Rattle.moka_hist.specs.Step.{Step}
use Rattle.moka_hist.specs.Telling.{told_call}
use Rattle.moka_hist.specs.declared.replies.Answer.TheVariants as answer
use Rattle.moka_hist.specs.Run.{Any, Happens, Polls, Refuses, Run, Steps, started, with_desk, fresh_call, reply_of}
use Rattle.moka_hist.specs.declared.accesses.Turn.{Turn}
use Rattle.moka_hist.specs.declared.events.Event.{Event}
use Rattle.moka_hist.specs.declared.events.Event.TheVariants as event
use Rattle.moka_hist.specs.declared.events.Start.{Start}
use Rattle.moka_hist.specs.declared.events.Start.TheVariants as start
use Rattle.moka_hist.specs.declared.events.Told.{Told}
use Rattle.moka_hist.specs.declared.loads.Load.{Load}
use Rattle.moka_hist.specs.declared.replies.Refusal.TheVariants as refusal
use Rattle.moka_hist.specs.declared.replies.Reply.{Reply}
use Rattle.moka_hist.specs.declared.replies.Reply.TheVariants as reply
use Rattle.moka_hist.specs.declared.rules.Rules.{Rules}
use Rattle.moka_hist.specs.declared.visits.Settled.{Settled}
use Rattle.moka_hist.specs.declared.visits.Settled.TheVariants as settled
use Rattle.moka_laws.specs.Given.{HandedIsGiven, SteppedIsGiven, StoredIsGiven, HasStarted, WasGiven, handed, asked_key}
use Rattle.moka_laws.specs.Starts.{brought, key_started}
use Rattle.moka_laws.proofs.Counting.{none_some, some_same, put_cases, put_here, put_there}
use Rattle.moka_laws.proofs.Owning.{and_left, plan_left}
use Rattle.moka_laws.proofs.Outcomes.{outcomes}
use Rattle.moka_laws.proofs.StartedOnce.{started_once}
use Rattle.moka_laws.proofs.Giving.{GivesOnly, IsKeptGiving, along, goings}
use Rattle.moka_laws.proofs.Walks.{Ends, Finds, IsWalk, Lists, Scans, Walks, Walks_giving, Walks_on, Walks_still, on_walk, walk_is_walk, Applies, Applies_first, Chooses, Comes, Comes_not, Comes_on, Comes_to, Ends_first, Ends_turn, Gathers, Hears, IsComing, Posts, Retires, Strikes, Takes_turn, Turns, Walks_carrying, Walks_free, on_coming}
use Rattle.moka_hist.specs.Maintenance.{carrying}
use Rattle.moka_laws.proofs.StepCases.{OnStep, step_cases}
use Rattle.moka_laws.specs.Fair.{CallFair, KeepsLoads, Leads, PlanFair, RestFair, TableFair, ValueFair, ready}
use Rattle.moka_laws.proofs.FairSteps.{Leaves, answered_fair, fresh_fair, on_plan, out_was, registered_says, rest_fair, turn_hands}

-- a settlement is the new one of this call, or was kept
with_was : {K V E : Type 0} (d : DeskPart K V E) (n o : ℕ) (with other : Settled V E)
    (kept : ℕ → Option (Settled V E)) (A : Type 0) → settled_with d n with kept o ≡ Some other →
    (n ≡ o → with ≡ other → A) → (kept o ≡ Some other → A) → A
with_was d n o with other kept A e new old =
    by (is_some (d.owning n)) (nat_lt 0 (d.readers n)) (n == o) refl e
  where
    by : (x y z : Bool) → (n == o) ≡ z → cond (x && y && z) (Some with) (kept o) ≡ Some other → A
    by true true true is e = new (eqb-true n o is) (some_same e)
    by true true false is e = old e
    by true false z is e = old e
    by false y z is e = old e

-- the call of this number is of a key equal to k
abbrev KeyAt : {K : Type 0} → (ℕ → K → Type 0) → (K → K → Bool) → ℕ → K → Type 0
KeyAt {K} Q eq o k = (a : K) × Q o a × (eq a k ≡ true)

-- P is of pairs that were given, R of values that a call of the key may hand out, and Q of the keys
-- of calls: what was given may be handed out for an equal key, and so may what a call of an equal
-- key may hand out
record Ties {K V : Type 0} (P R : K → V → Type 0) (Q : ℕ → K → Type 0) (eq : K → K → Bool) : Type 0
  where
    own : (k : K) (value : V) → P k value → R k value
    near : (k q : K) (value : V) → P k value → eq k q ≡ true → R q value
    read : (n o : ℕ) (q r a b : K) (value : V) → Q n q → Q n r → Q o b → eq b r ≡ true → Q o a →
        R a value → R q value

-- Owners own loads of their own keys; who waits, waits for an owner of an equal key; and an owner
-- ends with a value that it may hand out.
record DeskFair {K V E : Type 0} (R : K → V → Type 0) (Q : ℕ → K → Type 0) (eq : K → K → Bool)
    (owned : Load K → Option ℕ) (waits : ℕ → Option ℕ) (ended : ℕ → Option (Settled V E)) : Type 0
  where
    owners : (load : Load K) (o : ℕ) → owned load ≡ Some o → KeyAt Q eq o load.key
    joined : (n o : ℕ) → waits n ≡ Some o → (q : K) × Q n q × KeyAt Q eq o q
    settled : (o : ℕ) (with : Settled V E) (value : V) → ended o ≡ Some with → ready with ≡ Some value →
        (a : K) × Q o a × R a value

module _ {K V E : Type 0} (P R : K → V → Type 0) (q : K) (Q : ℕ → K → Type 0) (eq : K → K → Bool)
    (ties : Ties P R Q eq) where
  module _ (d : DeskPart K V E) (n : ℕ) (has : Q n q) (c : Call K V E)
      (desk : DeskFair R Q eq d.owners d.joined d.settled) where
    -- the call owns a load of its key, or waits for the owner
    owned : (load : Load K) → load.key ≡ q →
        DeskFair R Q eq (put_key (load_eq eq) d.owners load (Some n)) d.joined
        d.settled
    owned load is = record {
      owners = λ other o e. by other o (load_eq eq load other) refl e;
      joined = desk.joined;
      settled = desk.settled;
    }
      where
        by : (other : Load K) (o : ℕ) (b : Bool) → load_eq eq load other ≡ b →
            cond b (Some n) (d.owners other) ≡ Some o → KeyAt Q eq o other.key
        by other o true same e = (
          q,
          subst (λ v. Q v q) (some_same e) has,
          subst (λ k. eq k other.key ≡ true) is (and_left (eq load.key other.key) _ same),
        )
        by other o false same e = desk.owners other o e

    joins : (load : Load K) (owner : ℕ) → load.key ≡ q → d.owners load ≡ Some owner →
        DeskFair R Q eq d.owners (put_at d.joined n (Some owner)) d.settled
    joins load owner is some = record {
      owners = desk.owners;
      joined = λ m o e.
          put_cases d.joined n (Some owner) m (Some o) ((r : K) × Q m r × KeyAt Q eq o r) e
          (λ here same. subst (λ v. (r : K) × Q v r × KeyAt Q eq o r) here (
            q,
            has,
            subst (λ v. KeyAt Q eq v q) (some_same same)
                (subst (λ k. KeyAt Q eq owner k) is (desk.owners load owner some)),
          ))
          (λ there same. desk.joined m o same);
      settled = desk.settled;
    }

    was_read : DeskFair R Q eq d.owners (put_at d.joined n None)
        (settled_without d n)
    was_read = record {
      owners = desk.owners;
      joined = λ m o e. desk.joined m o (out_was (n == m) o (d.joined m) e);
      settled = λ o with value e f. desk.settled o with value (out_was _ with (d.settled o) e) f;
    }

    reads : (with : Settled V E) → settlement_for d n ≡ Some with →
        ValueFair R q (ready with)
    reads with e value f = by (d.joined n) refl e
      where
        by : (o : Option ℕ) → d.joined n ≡ o → option_and_then d.settled o ≡ Some with →
            R q value
        by None is g = absurd (none_some g)
        by (Some o) is g =
            let j = desk.joined n o is in
            let s = desk.settled o with value g f in
            ties.read n o q j.0 s.0 j.2.0 value has j.1 j.2.1 j.2.2 s.1 s.2

    settles : (with : Settled V E) → ValueFair R q (ready with) →
        DeskFair R Q eq (owners_without d n) d.joined
        (settled_with d n with d.settled)
    settles with r = record {
      owners = λ load o e. desk.owners load o (out_was _ o (d.owners load) e);
      joined = desk.joined;
      settled = λ o other value e f.
          with_was d n o with other d.settled ((a : K) × Q o a × R a value) e
          (λ same is. (
            q,
            subst (λ v. Q v q) same has,
            r value (ap ready is ∙ f),
          )) (λ was. desk.settled o other value was f);
    }

    kept_loads : KeepsLoads R q eq (DeskFair R Q eq) d n c
    kept_loads = record {
      now = desk;
      owned = owned;
      joins = joins;
      was_read = was_read;
      reads = λ sought rest is. reads;
      settles = λ with rest is. settles with;
    }

led : {K V : Type 0} (P R : K → V → Type 0) (Q : ℕ → K → Type 0) (eq : K → K → Bool) →
    Ties P R Q eq → Leads P R eq
led P R Q eq ties = record { own = ties.own; near = ties.near }

-- the plan is that of a call without a key: it hides all, registers a predicate, or walks
abbrev IsKeyless : {K V E : Type 0} → List (Item K V E) → Type 0
IsKeyless rest =
    (rest ≡ plan.Invalidate_all ∷ plan.Reply answer.Done ∷ [])
    ⊎ (((test : ℕ) × (rest ≡ plan.Register test ∷ [])) ⊎ (IsWalk rest ⊎ (((parts : ℕ) × IsComing parts rest)
    ⊎ (rest ≡ plan.Reply answer.Done ∷ []))))

-- a call that is started for no key has such a plan
keyless_plan : {K V : Type 0} (E : Type 0) (parts : ℕ) (rules : Rules) (begin : Start K V) →
    key_started begin ≡ None →
    IsKeyless (plan_of {E = E} parts rules begin)
keyless_plan E parts rules start.InvalidateAll e = inl refl
keyless_plan E parts rules (start.InvalidateIf test) e = inr (inl (test, refl))
keyless_plan {K} {V} E parts rules start.Iter e = by (is_disabled rules)
  where
    by : (b : Bool) → IsKeyless (iter_plan {K = K} {V = V} {E = E} b parts)
    by true = inr (inr (inl Ends))
    by false = inr (inr (inl (walk_is_walk 0 parts)))
keyless_plan {K} {V} E parts rules start.Pending e = by (is_disabled rules)
  where
    by : (b : Bool) → IsKeyless (pending_plan {K = K} {V = V} {E = E} b parts)
    by true = inr (inr (inr (inr refl)))
    by false = inr (inr (inr (inl (parts, Gathers))))
keyless_plan E parts rules _ e = absurd (none_some (sym e))

module _ {K V E : Type 0} (P R : K → V → Type 0) where
  module _ (Q : ℕ → K → Type 0) (eq : K → K → Bool) where
    -- the call of this number is fair for its key, if it has one
    abbrev CallIsFair : Option (Told V E) → ℕ → List (Item K V E) → Type 0
    CallIsFair told n rest = ((q : K) × Q n q × PlanFair P R q told rest) ⊎ IsKeyless rest

    record IsFair (s : State K V E) : Type 0 where
      table : TableFair P eq s.world.table.stored
      desk : DeskFair R Q eq s.world.desk.owners s.world.desk.joined s.world.desk.settled
      plans : (n : ℕ) (c : Call K V E) → s.calls n ≡ Some c →
          CallIsFair (s.world.desk.told n) n c.plan

    -- what the step hands out is fair for the call's key
    abbrev pub TurnIsFair : ℕ → Turn K V E → Type 0
    TurnIsFair n turn =
        ((q : K) × Q n q × ValueFair R q (handed (reply_of turn))) ⊎
        (handed (reply_of turn) ≡ None)

    -- the call, if it isn't gone, has still no key, has handed nothing out, and nothing has changed that is fair
    record Gone (s : State K V E) (w : World K V E) (next : Next K V E) : Type 0 where
      table : w.table.stored ≡ s.world.table.stored
      owners : w.desk.owners ≡ s.world.desk.owners
      joined : w.desk.joined ≡ s.world.desk.joined
      settled : w.desk.settled ≡ s.world.desk.settled
      told : w.desk.told ≡ s.world.desk.told
      left : (c : Call K V E) → next.left ≡ Some c → IsKeyless c.plan
      says : handed (reply_of next.turn) ≡ None

    module _ (ties : Ties P R Q eq) where
      keyed_fair : (s t : State K V E) (n : ℕ) (turn : Turn K V E) → IsFair s →
          (step : Step eq s n turn t) →
          (q : K) × Q n q × PlanFair P R q (s.world.desk.told n) step.call.plan →
          IsFair t × TurnIsFair n turn
      keyed_fair s t n turn i step own =
          step_cases eq (Leaves P R own.0 eq (led P R Q eq ties) (DeskFair R Q eq) s.world.desk n)
          (λ v turn. IsFair v × TurnIsFair n turn) s t n turn step
          (on_plan P R own.0 eq (led P R Q eq ties) (DeskFair R Q eq) s.world n step.call i.table
          (kept_loads P R own.0 Q eq ties s.world.desk n own.1 step.call i.desk) own.2
          step.call.plan refl)
          (λ w next l. (
            record {
              table = l.table;
              desk = l.desk;
              plans = λ m c live.
                  put_cases s.calls n next.left m (Some c) (CallIsFair (w.desk.told m) m c.plan)
                  live
                  (λ here is. subst (λ v. CallIsFair (w.desk.told v) v c.plan) here
                  (inl (own.0, own.1, subst (CallFair P R own.0 (w.desk.told n)) is l.fair.0)))
                  (λ there is. subst (λ v. CallIsFair v m c.plan) (sym (l.told m there))
                  (i.plans m c is));
            },
            inl (own.0, own.1, turn_hands P R own.0 next.turn l.fair.1),
          ))

      walk_says : (c : Call K V E) (rest : List (Item K V E)) → IsWalk rest → handed (reply_of (goes c rest).turn) ≡ None
      walk_says c rest Ends = refl
      walk_says c rest Retires = refl
      walk_says c rest (Chooses parts) = refl
      walk_says c rest (Strikes there stored more walk) = refl
      walk_says c rest (Lists part more walk) = refl
      walk_says c rest (Finds key more walk) = refl
      walk_says c rest (Scans there stored more walk) = refl

      walk_left : (c d : Call K V E) (rest : List (Item K V E)) → IsWalk rest → (goes c rest).left ≡ Some d → IsWalk d.plan
      walk_left c d rest Ends e = absurd (none_some e)
      walk_left c d rest Retires e = subst (λ (v : Call K V E). IsWalk v.plan) (some_same e) Retires
      walk_left c d rest (Chooses parts) e = subst (λ (v : Call K V E). IsWalk v.plan) (some_same e) (Chooses parts)
      walk_left c d rest (Strikes there stored more walk) e =
          subst (λ (v : Call K V E). IsWalk v.plan) (some_same e) (Strikes there stored more walk)
      walk_left c d rest (Lists part more walk) e = subst (λ (v : Call K V E). IsWalk v.plan) (some_same e) (Lists part more walk)
      walk_left c d rest (Finds key more walk) e = subst (λ (v : Call K V E). IsWalk v.plan) (some_same e) (Finds key more walk)
      walk_left c d rest (Scans there stored more walk) e =
          subst (λ (v : Call K V E). IsWalk v.plan) (some_same e) (Scans there stored more walk)

      -- so before maintenance walks
      comes_left : (parts : ℕ) (c d : Call K V E) → IsComing parts c.plan → (next : Next K V E) → Comes parts c next → next.left ≡ Some d → IsKeyless d.plan
      comes_left parts c d was next (Comes_on rest Gathers) e = inr (inr (inr (inl (parts, subst (λ (v : Call K V E). IsComing parts v.plan) (some_same e) Gathers))))
      comes_left parts c d was next (Comes_on rest (Hears number x)) e = inr (inr (inr (inl (parts, subst (λ (v : Call K V E). IsComing parts v.plan) (some_same e) (Hears number x)))))
      comes_left parts c d was next (Comes_on rest (Posts x)) e = inr (inr (inr (inl (parts, subst (λ (v : Call K V E). IsComing parts v.plan) (some_same e) (Posts x)))))
      comes_left parts c d was next (Comes_on rest (Takes_turn x)) e = inr (inr (inr (inl (parts, subst (λ (v : Call K V E). IsComing parts v.plan) (some_same e) (Takes_turn x)))))
      comes_left parts c d was next (Comes_on rest (Applies_first x)) e = inr (inr (inr (inl (parts, subst (λ (v : Call K V E). IsComing parts v.plan) (some_same e) (Applies_first x)))))
      comes_left parts c d was next (Comes_on rest (Ends_first x)) e = inr (inr (inr (inl (parts, subst (λ (v : Call K V E). IsComing parts v.plan) (some_same e) (Ends_first x)))))
      comes_left parts c d was next (Comes_on rest Turns) e = inr (inr (inr (inl (parts, subst (λ (v : Call K V E). IsComing parts v.plan) (some_same e) Turns))))
      comes_left parts c d was next (Comes_on rest Applies) e = inr (inr (inr (inl (parts, subst (λ (v : Call K V E). IsComing parts v.plan) (some_same e) Applies))))
      comes_left parts c d was next (Comes_on rest Ends_turn) e = inr (inr (inr (inl (parts, subst (λ (v : Call K V E). IsComing parts v.plan) (some_same e) Ends_turn))))
      comes_left parts c d was next Comes_to e = inr (inr (inl (subst (λ (v : Call K V E). IsWalk v.plan) (some_same e) (Chooses parts))))
      comes_left parts c d was next Comes_not e = inr (inr (inr (inl (parts, subst (λ (v : Call K V E). IsComing parts v.plan) (some_same e) was))))

      comes_say : (parts : ℕ) (c : Call K V E) (next : Next K V E) → Comes parts c next → handed (reply_of next.turn) ≡ None
      comes_say parts c next (Comes_on rest Gathers) = refl
      comes_say parts c next (Comes_on rest (Hears number x)) = refl
      comes_say parts c next (Comes_on rest (Posts x)) = refl
      comes_say parts c next (Comes_on rest (Takes_turn x)) = refl
      comes_say parts c next (Comes_on rest (Applies_first x)) = refl
      comes_say parts c next (Comes_on rest (Ends_first x)) = refl
      comes_say parts c next (Comes_on rest Turns) = refl
      comes_say parts c next (Comes_on rest Applies) = refl
      comes_say parts c next (Comes_on rest Ends_turn) = refl
      comes_say parts c next Comes_to = refl
      comes_say parts c next Comes_not = refl

      -- so of each step of a walk
      walks_left : (c d : Call K V E) → IsWalk c.plan → (next : Next K V E) → Walks c next → next.left ≡ Some d → IsWalk d.plan
      walks_left c d was next (Walks_on rest walk) e = walk_left c d rest walk e
      walks_left c d was next Walks_still e = subst (λ (v : Call K V E). IsWalk v.plan) (some_same e) was
      walks_left c d was next (Walks_giving key value rest walk) e = subst (λ (v : Call K V E). IsWalk v.plan) (some_same e) walk
      walks_left c d was next (Walks_carrying ids rest walk) e = walk_left (carrying c ids) d rest walk e
      walks_left c d was next Walks_free e = absurd (none_some e)

      walks_say : (c : Call K V E) (next : Next K V E) → Walks c next → handed (reply_of next.turn) ≡ None
      walks_say c next (Walks_on rest walk) = walk_says c rest walk
      walks_say c next Walks_still = refl
      walks_say c next (Walks_giving key value rest walk) = refl
      walks_say c next (Walks_carrying ids rest walk) = walk_says (carrying c ids) rest walk
      walks_say c next Walks_free = refl

      keyless_cases : (s : State K V E) (n : ℕ) (c : Call K V E) → IsKeyless c.plan → OnStep eq (Gone s) s.world n c c.plan
      keyless_cases s n c (inl hiding) =
          subst (λ p. OnStep eq (Gone s) s.world n c p) (sym hiding)
          (outcomes eq (Gone s) s.world n c plan.Invalidate_all
          (plan.Reply answer.Done ∷ []) (record {
            table = refl;
            owners = refl;
            joined = refl;
            settled = refl;
            told = refl;
            left = λ d e. absurd (none_some e);
            says = refl;
          }))
      keyless_cases s n c (inr (inl (test, registers))) =
          subst (λ p. OnStep eq (Gone s) s.world n c p) (sym registers)
          (outcomes eq (Gone s) s.world n c (plan.Register test) [] (record {
            table = refl;
            owners = refl;
            joined = refl;
            settled = refl;
            told = refl;
            left = λ d e. absurd (none_some e);
            says = registered_says K V E (registering s.world.desk);
          }))
      keyless_cases s n c (inr (inr (inl walk))) = on_walk eq (Gone s) s.world n c c.plan walk
          (λ listings stay next on. record {
            table = refl;
            owners = refl;
            joined = refl;
            settled = refl;
            told = refl;
            left = λ d e. inr (inr (inl (walks_left c d walk next on e)));
            says = walks_say c next on;
          })
          (record {
            table = refl;
            owners = refl;
            joined = refl;
            settled = refl;
            told = refl;
            left = λ d e. absurd (none_some e);
            says = refl;
          })
          (λ ids. record {
            table = refl;
            owners = refl;
            joined = refl;
            settled = refl;
            told = refl;
            left = λ d e. absurd (none_some e);
            says = refl;
          })
      keyless_cases s n c (inr (inr (inr (inr over)))) =
          subst (λ p. OnStep eq (Gone s) s.world n c p) (sym over)
          (outcomes eq (Gone s) s.world n c (plan.Reply answer.Done) [] (record {
            table = refl;
            owners = refl;
            joined = refl;
            settled = refl;
            told = refl;
            left = λ d e. absurd (none_some e);
            says = refl;
          }))
      keyless_cases s n c (inr (inr (inr (inl coming)))) = on_coming eq (Gone s) s.world n c coming.0 c.plan coming.1
          (λ d spares next comes. record {
            table = refl;
            owners = spares.owners;
            joined = spares.joined;
            settled = spares.settled;
            told = spares.told;
            left = λ a e. comes_left coming.0 c a coming.1 next comes e;
            says = comes_say coming.0 c next comes;
          })

      -- a call without a key hands nothing out, and has no key after its step
      keyless_fair : (s t : State K V E) (n : ℕ) (turn : Turn K V E) → IsFair s →
          (step : Step eq s n turn t) → IsKeyless step.call.plan → IsFair t × TurnIsFair n turn
      keyless_fair s t n turn i step keyless =
          step_cases eq (Gone s) (λ v r. IsFair v × TurnIsFair n r) s t n turn step
          (keyless_cases s n step.call keyless)
          (λ w next g. (
            record {
              table = subst (λ f. TableFair P eq f) (sym g.table) i.table;
              desk = rw (g.owners, g.joined, g.settled) i.desk;
              plans = λ m c live.
                  put_cases s.calls n next.left m (Some c) (CallIsFair (w.desk.told m) m c.plan)
                  live
                  (λ here is. inr (g.left c is))
                  (λ there is. subst (λ f. CallIsFair (f m) m c.plan) (sym g.told)
                  (i.plans m c is));
            },
            inr g.says,
          ))

      step_fair : (s t : State K V E) (n : ℕ) (turn : Turn K V E) → IsFair s →
          Step eq s n turn t → IsFair t × TurnIsFair n turn
      step_fair s t n turn i step = by (i.plans n step.call step.live)
        where
          by : CallIsFair (s.world.desk.told n) n step.call.plan → IsFair t × TurnIsFair n turn
          by (inl own) = keyed_fair s t n turn i step own
          by (inr keyless) = keyless_fair s t n turn i step keyless

      start_fair : (s : State K V E) (start : Start K V) → IsFair s →
          ((key : K) (value : V) → brought start ≡ Some (key, value) → P key value) →
          ((key : K) → key_started start ≡ Some key → Q (s.world.desk.last + 1) key) →
          IsFair (started s start)
      start_fair s start i gave has = record {
        table = i.table;
        desk = i.desk;
        plans = λ m c live.
            put_cases s.calls (s.world.desk.last + 1) (Some (fresh_call s.world.table.division.parts s.world.desk.rules start)) m
            (Some c) (CallIsFair (s.world.desk.told m) m c.plan) live
            (λ here is. subst (CallIsFair (s.world.desk.told m) m) (ap plan_left is)
            (subst (λ v. CallIsFair (s.world.desk.told m) v (plan_of s.world.table.division.parts s.world.desk.rules start)) here
            (by (s.world.desk.told m) (key_started start) refl)))
            (λ there is. i.plans m c is);
      }
        where
          by : (told : Option (Told V E)) (o : Option K) → key_started start ≡ o →
              CallIsFair told (s.world.desk.last + 1) (plan_of s.world.table.division.parts s.world.desk.rules start)
          by told None e = inr (keyless_plan E s.world.table.division.parts s.world.desk.rules start e)
          by told (Some key) e = inl (
            key,
            has key e,
            rest_fair P R key told _
                (subst (λ o. RestFair P R (unwrap_or o key) (plan_of {E = E} s.world.table.division.parts s.world.desk.rules start)) e
                (fresh_fair E P R ties.own s.world.table.division.parts s.world.desk.rules start gave key)),
          )

      drop_fair : (s : State K V E) (n : ℕ) (c : Call K V E) → IsFair s → IsFair (dropped s n c)
      drop_fair s n c i = record {
        table = i.table;
        desk = record {
          owners = λ load o e.
              i.desk.owners load o (out_was _ o (s.world.desk.owners load) e);
          joined = λ m o e. i.desk.joined m o (out_was (n == m) o (s.world.desk.joined m) e);
          settled = λ o with value e f.
              with_was s.world.desk n o settled.Aborted with (settled_without s.world.desk n)
              ((a : K) × Q o a × R a value) e
              (λ same is. absurd (none_some (ap ready is ∙ f)))
              (λ was. i.desk.settled o with value
              (out_was _ with (s.world.desk.settled o) was) f);
        };
        plans = λ m d live.
            put_cases s.calls n None m (Some d)
            (CallIsFair (put_at s.world.desk.told n None m) m d.plan) live
            (λ here is. absurd (none_some is))
            (λ there is. subst (λ v. CallIsFair v m d.plan)
            (sym (put_there s.world.desk.told n None m there)) (i.plans m d is));
      }

      tell_fair : (s : State K V E) (n : ℕ) (given : Told V E) → IsFair s →
          GivesOnly P Q s (event.Tell n given) reply.Told →
          IsFair (with_desk s (told_call s.world.desk n given))
      tell_fair s n given i gave = record {
        table = i.table;
        desk = i.desk;
        plans = λ m c live. by m c live (n == m) refl;
      }
        where
          answered : (c : Call K V E) → s.calls n ≡ Some c →
              CallIsFair (s.world.desk.told n) n c.plan → CallIsFair (Some given) n c.plan
          answered c live (inr keyless) = inr keyless
          answered c live (inl own) = inl (
            own.0,
            own.1,
            answered_fair P R own.0 (s.world.desk.told n) given c.plan
                (λ key value f g. gave key value
                (ap (λ o. option_and_then (λ d. asked_key d.plan) o) live ∙ f, g)) own.2,
          )

          by : (m : ℕ) (c : Call K V E) → s.calls m ≡ Some c → (b : Bool) → (n == m) ≡ b →
              CallIsFair (put_at s.world.desk.told n (Some given) m) m c.plan
          by m c live false e =
              subst (λ v. CallIsFair v m c.plan)
              (sym (put_there s.world.desk.told n (Some given) m e)) (i.plans m c live)
          by m c live true e =
              let live_ : s.calls n ≡ Some c = ap s.calls (eqb-true n m e) ∙ live in
              subst (λ v. CallIsFair (put_at s.world.desk.told n (Some given) v) v c.plan)
              (eqb-true n m e)
              (subst (λ v. CallIsFair v n c.plan) (sym (put_here s.world.desk.told n (Some given)))
              (answered c live_ (i.plans n c live_)))

      fair_kept : IsKeptGiving P Q eq IsFair
      fair_kept = record {
        at = λ s moment i. record { table = i.table; desk = i.desk; plans = i.plans };
        start = start_fair;
        step = λ s t n turn i step. (step_fair s t n turn i step).0;
        tell = tell_fair;
        hear = λ s n off i. record { table = i.table; desk = i.desk; plans = i.plans };
        drop = λ s n c live i. drop_fair s n c i;
      }

      -- what a run leaves of a fresh cache is fair, if it gives and starts only what is P and Q
      run_fair : (division : Division K) (rules : Rules) (size : ℕ) (built : Handed K V) (s : State K V E)
          (es : List (Event K V E)) (rs : List (Reply K V E))
          (run : Run eq Any (fresh K V E division rules size built) es rs s) →
          ((key : K) (value : V) →
          WasGiven eq (fresh K V E division rules size built) es rs s run key value → P key value) →
          ((n : ℕ) (start : Start K V) (key : K) → HasStarted n es rs start →
          key_started start ≡ Some key → Q n key) → IsFair s
      run_fair division rules size built s es rs run gave begun =
          along P Q eq IsFair fair_kept (fresh K V E division rules size built) s es rs run gave begun
          (record {
            table = λ q p e. absurd (none_some e);
            desk = record {
              owners = λ load o e. absurd (none_some e);
              joined = λ n o e. absurd (none_some e);
              settled = λ o with value e f. absurd (none_some e);
            };
            plans = λ n c live. absurd (none_some live);
          })

pub stored_given : {K V E : Type 0} (eq : K → K → Bool) → StoredIsGiven K V E eq
stored_given {K} {V} {E} eq division rules size built s es rs run q p is =
    let given : K → V → Type 0 =
    WasGiven eq (fresh K V E division rules size built) es rs s run in
    let ties : Ties given (λ _ _. Unit {0}) (λ _ _. Unit {0}) eq = record {
      own = λ k value h. tt;
      near = λ k r value h e. tt;
      read = λ n o r r1 a b value h1 h2 h3 e h4 h5. tt;
    } in
    let fair : IsFair given (λ _ _. Unit {0}) (λ _ _. Unit {0}) eq s =
    run_fair given (λ _ _. Unit {0}) (λ _ _. Unit {0}) eq ties division rules size built s es rs run
    (λ key value h. h) (λ n start key h is. tt) in
    (fair.table q p is).0

module _ {K V E : Type 0} (eq : K → K → Bool) (laws : IsEquivalence eq) (division : Division K) (rules : Rules) (size : ℕ)
    (built : Handed K V) (s : State K V E) (es : List (Event K V E)) (rs : List (Reply K V E))
    (run : Run eq Any (fresh K V E division rules size built) es rs s) where
  abbrev Given : K → V → Type 0
  Given = WasGiven eq (fresh K V E division rules size built) es rs s run

  -- it was given for an equal key
  abbrev Near : K → V → Type 0
  Near q v = (key : K) × Given key v × (eq key q ≡ true)

  -- the run has started the call for this key
  abbrev StartedFor : ℕ → K → Type 0
  StartedFor n k = (start : Start K V) × HasStarted n es rs start × (key_started start ≡ Some k)

  -- it was given for a key equal to that of the start
  abbrev NearStart : Start K V → V → Type 0
  NearStart start v =
      (key : K) × Given key v × IsSomeAnd (key_started start) (λ own. eq key own ≡ true)

  one_key : (n : ℕ) (a b : K) → StartedFor n a → StartedFor n b → a ≡ b
  one_key n a b x y = some_same (sym x.2 ∙
      ap key_started (started_once eq (fresh K V E division rules size built) s es rs n x.0 y.0 run x.1 y.1) ∙ y.2)

  given_ties : Ties Given Near StartedFor eq
  given_ties = record {
    own = λ k v h. (k, h, laws.refl k);
    near = λ k q v h e. (k, h, e);
    read = λ n o q r a b v has has_r at_b e at_a h. (
      h.0,
      h.1,
      subst (λ x. eq h.0 x ≡ true) (one_key n r q has_r has)
          (laws.congr h.0 b r (subst (λ x. eq h.0 x ≡ true) (one_key o a b at_a at_b) h.2) ∙ e),
    );
  }

  given_fair : IsFair Given Near StartedFor eq s
  given_fair = run_fair Given Near StartedFor eq given_ties division rules size built s es rs run
      (λ key v h. h) (λ n start key b is. (start, b, is))

  -- what a call may hand out was given for a key equal to its own
  given_near : (n : ℕ) (turn : Turn K V E) (start : Start K V) (value : V) →
      HasStarted n es rs start → TurnIsFair Given Near StartedFor eq n turn →
      handed (reply_of turn) ≡ Some value → NearStart start value
  given_near n turn start value began (inl fair) is =
      let near : Near fair.0 value = fair.2 value is in
      (near.0, near.1, subst (λ o. IsSomeAnd o (λ own. eq near.0 own ≡ true)) (key start began fair.0 fair.1) near.2)
    where
      key : (start : Start K V) → HasStarted n es rs start → (q : K) → StartedFor n q →
          Some q ≡ key_started start
      key start began q for = sym for.2 ∙ ap key_started
          (started_once eq (fresh K V E division rules size built) s es rs n for.0 start run for.1 began)
  given_near n turn start value began (inr none) is = absurd (none_some (sym none ∙ is))

  -- as it is stepped or polled
  on_event : (t : State K V E) (n : ℕ) (e : Event K V E) (r : Reply K V E) (start : Start K V)
      (value : V) → HasStarted n es rs start → (e ≡ event.Step n) ⊎ (e ≡ event.Poll n) →
      Happens eq Any s e r t → handed r ≡ Some value → NearStart start value
  on_event t n e r start value began (inl is) h v =
      stepped (s.calls n) (subst (λ x. Happens eq Any s x r t) is h)
    where
      stepped : (o : Option (Call K V E)) →
          MatchOption o (Refuses s refusal.UnknownCall r t) (λ _. Steps eq s n r t) →
          NearStart start value
      stepped None h = absurd (none_some (sym (ap handed h.reply) ∙ v))
      stepped (Some c) h = given_near n h.turn start value began
          (step_fair Given Near StartedFor eq given_ties s t n h.turn given_fair h.step).1
          (sym (ap handed h.reply) ∙ v)
  on_event t n e r start value began (inr is) h v =
      polled (s.calls n) (subst (λ x. Happens eq Any s x r t) is h)
    where
      polled : (o : Option (Call K V E)) →
          MatchOption o (Refuses s refusal.UnknownCall r t) (λ _. Polls eq Any s n r t) →
          NearStart start value
      polled None h = absurd (none_some (sym (ap handed h.reply) ∙ v))
      polled (Some c) h =
          let fair : IsFair Given Near StartedFor eq h.mid =
          goings Given StartedFor eq (IsFair Given Near StartedFor eq)
          (fair_kept Given Near StartedFor eq given_ties) h.going s h.mid n given_fair h.goes in
          given_near n h.last.turn start value began
          (step_fair Given Near StartedFor eq given_ties h.mid t n h.last.turn fair h.last.step).1
          (sym (ap handed h.last.reply) ∙ v)

module _ {K V E : Type 0} (eq : K → K → Bool) (laws : IsEquivalence eq) where
  pub handed_given : HandedIsGiven K V E eq
  handed_given division rules size built s t es rs run n e r start value began is h v =
      on_event eq laws division rules size built s es rs run t n e r start value began is h v

  pub stepped_given : SteppedIsGiven K V E eq
  stepped_given division rules size built s t es rs run n turn start value began step v =
      given_near eq laws division rules size built s es rs run n turn start value began
      (step_fair _ _ _ eq (given_ties eq laws division rules size built s es rs run) s t n turn
      (given_fair eq laws division rules size built s es rs run) step).1 v
