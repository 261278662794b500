-- The walk of maintenance to its end.
use Rattle.std.proofs.Common.{◌≡◌, ℕ, zero, suc, Bool, true, false, List, [], ◌∷◌, ◌++◌, map, Option, Some, None, inl, inr, refl, sym, ap, ◌∙◌, subst}
use Rattle.std.specs.Cmp.{IsEquivalence}
use Rattle.moka_hist.specs.Finite.{put_at}
use Rattle.moka_hist.specs.Maintenance.{after_retire, after_strike, carrying}
use Rattle.moka_hist.specs.Next.{Next, answers, goes}
use Rattle.moka_hist.specs.Plan.{Item}
use Rattle.moka_hist.specs.Plan as plan
use Rattle.moka_hist.specs.Run.{IsReached, reply_of}
use Rattle.moka_hist.specs.State.{Call, DeskPart, Listed, State, TablePart, World}
use Rattle.moka_hist.specs.Step.{Gets, access_of, going_as, next_of}
use Rattle.moka_hist.specs.Tables.{answer_of}
use Rattle.moka_hist.specs.Visits.{does_hit, named_of, retired, struck}
use Rattle.moka_hist.specs.Walking.{after_find, after_list}
use Rattle.moka_hist.specs.declared.accesses.Got.{Got}
use Rattle.moka_hist.specs.declared.accesses.Got.TheVariants as got
use Rattle.moka_hist.specs.declared.accesses.Turn.{Turn}
use Rattle.moka_hist.specs.declared.accesses.Turn.TheVariants as turn
use Rattle.moka_hist.specs.declared.records.Mode.{Mode}
use Rattle.moka_hist.specs.declared.records.Mode.TheVariants as mode
use Rattle.moka_hist.specs.declared.records.Stored.{Stored}
use Rattle.moka_hist.specs.declared.replies.Answer.TheVariants as answer
use Rattle.moka_hist.specs.declared.replies.Reply.{Reply}
use Rattle.moka_hist.specs.declared.replies.Reply.TheVariants as reply
use Rattle.moka_hist.specs.declared.rules.Rules.{Rules}
use Rattle.moka_hist.specs.declared.tables.TableTurn.TheVariants as table
use Rattle.moka_laws.specs.Predicates.{IsAhead}
use Rattle.moka_laws.proofs.Counting.{put_here, some_same}
use Rattle.moka_laws.proofs.Naming.{in_contains}
use Rattle.moka_laws.proofs.Outcomes.{put_same}
use Rattle.moka_laws.proofs.Reached.{step_reached}
use Rattle.moka_laws.proofs.Striking.{hidden_ahead}
use Rattle.moka_same.proofs.Deciding.{Decides, IsSure, Rolls, as_step, put_twice}
use Rattle.moka_same.proofs.Quiet.{Finds, IsSeeking, Lists, Retires, finds_seek}
use Rattle.moka_same.proofs.Retiring.{AreSpent, Carried, Thins, carried_closed, thins_both, thins_none, thins_struck}

-- the table once the call of this number has made a list
abbrev pub closed : {K V : Type 0} → ℕ → TablePart K V → TablePart K V
closed n t = record t { listings = put_at t.listings n None }

module _ {K V E : Type 0} where
  -- how far the walk is: it seeks, or has found a record, which stands
  pub data Stage (t : TablePart K V) : List (Item K V E) → Type 0 where
    Seeks : (p : List (Item K V E)) → IsSeeking p → Stage t p
    Strikes : (key there : K) (stored : Stored V) (rest : List (Item K V E)) →
        t.stored key ≡ Some (there, stored) → IsSeeking rest →
        Stage t (plan.Strike there stored ∷ rest)

  -- it goes on with what it seeks
  pub goes_seeking : (c : Call K V E) (p : List (Item K V E)) → IsSeeking p →
      goes c p ≡ going_as (record c { mode = mode.Mid; plan = p })
  goes_seeking c p Retires = refl
  goes_seeking c p (Lists part rest r) = refl
  goes_seeking c p (Finds key rest r) = refl

  -- How the walk, which carries these predicates, goes on by a step that decides: it does, with what
  -- it carries then; or it ends.
  data Moves (w : World K V E) (ids : List (ℕ × ℕ)) (p : List (Item K V E)) (new : World K V E)
      (next : Next K V E) : Type 0 where
    Goes : (d : Call K V E) (more : List (ℕ × ℕ)) → next ≡ going_as d → d.carried ≡ Some more →
        Stage w.table d.plan → Thins w.desk w.table ids more → new.table ≡ w.table →
        new.desk ≡ w.desk → Moves w ids p new next
    Ends_so : p ≡ plan.Retire ∷ [] → next ≡ answers answer.Done → new.table ≡ w.table →
        new.desk ≡ retired w.desk ids → Moves w ids p new next

  -- the call goes on with what it seeks, and the world stays
  goes_on : (w : World K V E) (ids : List (ℕ × ℕ)) (p : List (Item K V E)) (new : World K V E)
      (next : Next K V E) (c : Call K V E) (q : List (Item K V E)) → c.carried ≡ Some ids →
      next ≡ goes c q → IsSeeking q → new.table ≡ w.table → new.desk ≡ w.desk →
      Moves w ids p new next
  goes_on w ids p new next c q is same seeks table desk =
      Goes (record c { mode = mode.Mid; plan = q }) ids (same ∙ goes_seeking c q seeks) is
      (Seeks q seeks) (thins_none w.desk w.table ids) table desk

module _ {K V E : Type 0} (eq : K → K → Bool) (n : ℕ) where
  -- how a walk goes on by a step that lists keys and decides
  record GoesFromList (w : World K V E) (ids : List (ℕ × ℕ)) (new : World K V E) (next : Next K V E)
      : Type 0 where
    going : Call K V E
    goes : next ≡ going_as going
    carried : going.carried ≡ Some ids
    seeks : IsSeeking going.plan
    table : new.table ≡ closed n w.table
    desk : new.desk ≡ w.desk

  lists_so : (w new : World K V E) (rules : Rules) (m : Mode) (aborts : ℕ) (ids : List (ℕ × ℕ))
      (part : ℕ) (rest : List (Item K V E)) → IsSeeking rest → (g : Got K V E) →
      let c : Call K V E = record {
        rules = rules;
        mode = m;
        plan = plan.List_keys part ∷ rest;
        aborts = aborts;
        carried = Some ids;
      } in
      IsSure g → Gets eq n w (access_of n c) g new → GoesFromList w ids new (next_of n c g)
  lists_so w new rules m aborts ids part rest r (got.Table (table.Decided said)) sure h = record {
    going = record c { mode = mode.Mid; plan = map plan.Find h.1.1 ++ rest };
    goes = ap (λ v. after_list c rest (table.Decided v)) h.1.4 ∙
        goes_seeking c (map plan.Find h.1.1 ++ rest) (finds_seek h.1.1 rest r);
    carried = refl;
    seeks = finds_seek h.1.1 rest r;
    table = ap (λ (v : World K V E). v.table) h.2 ∙ h.1.5 ∙
        ap (λ (l : ℕ → Option (Listed K)). record w.table { listings = l })
        (put_twice w.table.listings n _ None);
    desk = ap (λ (v : World K V E). v.desk) h.2;
  }
    where
      c : Call K V E
      c = record {
        rules = rules;
        mode = m;
        plan = plan.List_keys part ∷ rest;
        aborts = aborts;
        carried = Some ids;
      }
  lists_so w new rules m aborts ids part rest r (got.Table table.Going) sure h = absurd sure
  lists_so w new rules m aborts ids part rest r (got.Desk f) sure h = absurd h

  module _ (w new : World K V E) (rules : Rules) (m : Mode) (aborts : ℕ) (ids : List (ℕ × ℕ))
      (none : w.table.listings n ≡ None) where
    -- the call with this plan
    abbrev with_plan : List (Item K V E) → Call K V E
    with_plan p = record { rules = rules; mode = m; plan = p; aborts = aborts; carried = Some ids }

    -- how it goes on with the plan where its access gave this
    abbrev MovesBy : List (Item K V E) → Got K V E → Type 0
    MovesBy p g =
        IsSure g → Gets eq n w (access_of n (with_plan p)) g new →
        Moves w ids p new (next_of n (with_plan p) g)

    retires : (g : Got K V E) → MovesBy (plan.Retire ∷ []) g
    retires (got.Desk f) sure h = Ends_so refl
        (ap (λ v. after_retire (with_plan (plan.Retire ∷ [])) v) h.0)
        (ap (λ (v : World K V E). v.table) h.1) (ap (λ (v : World K V E). v.desk) h.1)
    retires (got.Table t) sure h = absurd h

    lists : (part : ℕ) (rest : List (Item K V E)) → IsSeeking rest → (g : Got K V E) →
        MovesBy (plan.List_keys part ∷ rest) g
    lists part rest r g sure h = by (lists_so w new rules m aborts ids part rest r g sure h)
      where
        by : GoesFromList w ids new (next_of n (with_plan (plan.List_keys part ∷ rest)) g) →
            Moves w ids (plan.List_keys part ∷ rest) new
            (next_of n (with_plan (plan.List_keys part ∷ rest)) g)
        by l = Goes l.going ids l.goes l.carried (Seeks l.going.plan l.seeks)
            (thins_none w.desk w.table ids)
            (l.table ∙ ap (λ (f : ℕ → Option (Listed K)). record w.table { listings = f })
            (put_same w.table.listings n None none)) l.desk

    finds : (key : K) (rest : List (Item K V E)) → IsSeeking rest → (g : Got K V E) →
        MovesBy (plan.Find key ∷ rest) g
    finds key rest r (got.Table (table.Decided said)) sure h = by (w.table.stored key) refl h.1.0
      where
        c : Call K V E
        c = with_plan (plan.Find key ∷ rest)

        same_table : new.table ≡ w.table
        same_table = ap (λ (v : World K V E). v.table) h.2 ∙ h.1.1

        same_desk : new.desk ≡ w.desk
        same_desk = ap (λ (v : World K V E). v.desk) h.2

        by : (o : Option (K × Stored V)) → w.table.stored key ≡ o → said ≡ answer_of o →
            Moves w ids (plan.Find key ∷ rest) new (after_find c rest (table.Decided said))
        by None e says = goes_on w ids (plan.Find key ∷ rest) new
            (after_find c rest (table.Decided said)) c rest refl
            (ap (λ v. after_find c rest (table.Decided v)) says) r same_table same_desk
        by (Some found) e says = Goes
            (record c { mode = mode.Mid; plan = plan.Strike found.0 found.1 ∷ rest }) ids
            (ap (λ v. after_find c rest (table.Decided v)) says) refl
            (Strikes key found.0 found.1 rest e r) (thins_none w.desk w.table ids) same_table
            same_desk
    finds key rest r (got.Table table.Going) sure h = absurd sure
    finds key rest r (got.Desk f) sure h = absurd h

    strikes : (key there : K) (stored : Stored V) (rest : List (Item K V E)) →
        w.table.stored key ≡ Some (there, stored) → IsSeeking rest → (g : Got K V E) →
        MovesBy (plan.Strike there stored ∷ rest) g
    strikes key there stored rest stands r (got.Desk f) sure h = Goes
        (record (carrying c (struck w.desk ids there stored)) { mode = mode.Mid; plan = rest })
        (struck w.desk ids there stored)
        (ap (λ v. after_strike c rest v) h.0 ∙
        goes_seeking (carrying c (struck w.desk ids there stored)) rest r) refl (Seeks rest r)
        (thins_struck w.desk w.table ids key there stored stands)
        (ap (λ (v : World K V E). v.table) h.1) (ap (λ (v : World K V E). v.desk) h.1)
      where
        c : Call K V E
        c = with_plan (plan.Strike there stored ∷ rest)
    strikes key there stored rest stands r (got.Table t) sure h = absurd h

    -- so whatever its plan is
    moves : (p : List (Item K V E)) → Stage w.table p → (g : Got K V E) → MovesBy p g
    moves p (Seeks q Retires) g sure h = retires g sure h
    moves p (Seeks q (Lists part rest r)) g sure h = lists part rest r g sure h
    moves p (Seeks q (Finds key rest r)) g sure h = finds key rest r g sure h
    moves p (Strikes key there stored rest stands r) g sure h =
        strikes key there stored rest stands r g sure h

  -- ---- to its end

  -- a poll that begins within the walk: it ends, and these predicates leave
  pub record Walked (s : State K V E) (ids : List (ℕ × ℕ)) (r : Reply K V E) (t : State K V E)
      : Type 0 where
    pub last : List (ℕ × ℕ)
    pub carried : Carried s.world.desk s.world.table ids last
    pub says : r ≡ reply.Answer answer.Done
    pub table : t.world.table ≡ s.world.table
    pub desk : t.world.desk ≡ retired s.world.desk last
    pub calls : t.calls ≡ put_at s.calls n None

  module _ (laws : IsEquivalence eq) where
    -- what is carried when nothing is left to seek hides no stored record
    spent : (s : State K V E) (c : Call K V E) (ids : List (ℕ × ℕ)) → IsReached eq s →
        s.calls n ≡ Some c → c.carried ≡ Some ids → c.plan ≡ plan.Retire ∷ [] →
        AreSpent s.world.desk s.world.table ids
    spent s c ids reached live is e r in_list named key there stored stands =
        by (does_hit s.world.desk there stored r) refl
      where
        ahead : IsAhead eq s n (record c { plan = plan.Retire ∷ [] }) key there stored → ⊥
        ahead (inl next) = not_strike next.0 next.1
          where
            not_strike : (more : List (Item K V E)) →
                (plan.Retire ∷ []) ≡ (plan.Strike there stored ∷ more) → ⊥
            not_strike more e = cc
        ahead (inr look) = look.0

        by : (b : Bool) → does_hit s.world.desk there stored r ≡ b → b ≡ false
        by false hits = refl
        by true hits = absurd (ahead
            (subst (λ p. IsAhead eq s n (record c { plan = p }) key there stored) e
            (hidden_ahead eq laws s n c r key there stored reached live
            (ids, is, in_contains ids (named_of r) named)
            (in_contains s.world.desk.registered r in_list) stands hits)))

    -- one step of it, on a state
    moved : (s m : State K V E) (c : Call K V E) (ids : List (ℕ × ℕ)) (said : Turn K V E) →
        c.carried ≡ Some ids → Stage s.world.table c.plan → s.world.table.listings n ≡ None →
        (h : Decides eq n s c said m) →
        Moves s.world ids c.plan h.world (next_of n c h.given)
    moved s m c ids said is stage none h =
        subst (λ (v : Call K V E). Moves s.world ids c.plan h.world (next_of n v h.given))
        (sym own) (moves s.world h.world c.rules c.mode c.aborts ids none c.plan stage h.given
        h.sure (subst (λ (v : Call K V E). Gets eq n s.world (access_of n v) h.given h.world) own
        h.gets))
      where
        own : c ≡ record c { carried = Some ids }
        own = ap (λ (o : Option (List (ℕ × ℕ))). record c { carried = o }) is

    -- the walk ends with this step
    ended : (s t : State K V E) (c : Call K V E) (ids : List (ℕ × ℕ)) (said : Turn K V E)
        (r : Reply K V E) → IsReached eq s → c.carried ≡ Some ids → r ≡ reply_of said →
        (h : Decides eq n s c said t) → c.plan ≡ plan.Retire ∷ [] →
        next_of n c h.given ≡ answers answer.Done → h.world.table ≡ s.world.table →
        h.world.desk ≡ retired s.world.desk ids → Walked s ids r t
    ended s t c ids said r reached is says h e next table desk = record {
      last = ids;
      carried = record {
        thins = thins_none s.world.desk s.world.table ids;
        spent = spent s c ids reached h.live is e;
      };
      says = says ∙ ap reply_of (h.turns ∙ ap (λ (v : Next K V E). v.turn) next);
      table = ap (λ (v : State K V E). v.world.table) h.after ∙ table;
      desk = ap (λ (v : State K V E). v.world.desk) h.after ∙ desk;
      calls = ap (λ (v : State K V E). v.calls) h.after ∙
          ap (λ (v : Next K V E). put_at s.calls n v.left) next;
    }

    -- what is walked from the next state on is walked from this one
    walked_on : (s m t : State K V E) (d : Call K V E) (ids more : List (ℕ × ℕ)) (r : Reply K V E) →
        Thins s.world.desk s.world.table ids more → m.world.table ≡ s.world.table →
        m.world.desk ≡ s.world.desk → m.calls ≡ put_at s.calls n (Some d) → Walked m more r t →
        Walked s ids r t
    walked_on s m t d ids more r thins table desk calls h = record {
      last = h.last;
      carried = record {
        thins = thins_both s.world.desk s.world.table ids more h.last thins here.thins;
        spent = here.spent;
      };
      says = h.says;
      table = h.table ∙ table;
      desk = h.desk ∙ ap (λ (v : DeskPart K V E). retired v h.last) desk;
      calls = h.calls ∙ ap (λ f. put_at f n None) calls ∙ put_twice s.calls n (Some d) None;
    }
      where
        here : Carried s.world.desk s.world.table more h.last
        here = subst (λ (v : DeskPart K V E). Carried v s.world.table more h.last) desk
            (subst (λ (v : TablePart K V). Carried m.world.desk v more h.last) table h.carried)

    -- a poll of a call that walks, with no list begun, walks to the end
    pub walks : (k : ℕ) (s t : State K V E) (c : Call K V E) (ids : List (ℕ × ℕ)) (r : Reply K V E) →
        IsReached eq s → s.calls n ≡ Some c → c.carried ≡ Some ids → Stage s.world.table c.plan →
        s.world.table.listings n ≡ None → Rolls eq n k s r t → Walked s ids r t
    unfolding Rolls
    walks zero s t c ids r reached live is stage none h =
        by (moved s t c ids h.said is stage none own)
      where
        own : Decides eq n s c h.said t
        own = subst (λ v. Decides eq n s v h.said t)
            (some_same (sym h.decides.live ∙ live)) h.decides

        by : Moves s.world ids c.plan own.world (next_of n c own.given) → Walked s ids r t
        by (Goes d more next carried on thins table desk) = absurd (h.ends (h.says ∙
            ap reply_of (own.turns ∙ ap (λ (v : Next K V E). v.turn) next)))
        by (Ends_so e next table desk) =
            ended s t c ids h.said r reached is h.says own e next table desk
    walks (suc k) s t c ids r reached live is stage none h =
        by (moved s h.0 c ids turn.Going is stage none own) (walks k h.0 t)
      where
        own : Decides eq n s c turn.Going h.0
        own = subst (λ v. Decides eq n s v turn.Going h.0)
            (some_same (sym h.2.live ∙ live)) h.2

        not_over : ◌≡◌ {A = Turn K V E} turn.Going (turn.Answer answer.Done) → ⊥
        not_over e = cc

        by : Moves s.world ids c.plan own.world (next_of n c own.given) →
            ((d : Call K V E) (more : List (ℕ × ℕ)) (r : Reply K V E) → IsReached eq h.0 →
            h.0.calls n ≡ Some d → d.carried ≡ Some more → Stage h.0.world.table d.plan →
            h.0.world.table.listings n ≡ None → Rolls eq n k h.0 r t → Walked h.0 more r t) →
            Walked s ids r t
        by (Ends_so e next table desk) on_from = absurd (not_over
            (own.turns ∙ ap (λ (v : Next K V E). v.turn) next))
        by (Goes d more next carried on thins table desk) on_from =
            walked_on s h.0 t d ids more r thins same_table same_desk same_calls
            (on_from d more r
            (step_reached eq s h.0 n turn.Going reached (as_step eq n s h.0 c turn.Going own))
            (ap (λ f. f n) same_calls ∙ put_here s.calls n (Some d)) carried
            (subst (λ (v : TablePart K V). Stage v d.plan) (sym same_table) on)
            (ap (λ (v : TablePart K V). v.listings n) same_table ∙ none) h.3)
          where
            same_table : h.0.world.table ≡ s.world.table
            same_table = ap (λ (v : State K V E). v.world.table) own.after ∙ table

            same_desk : h.0.world.desk ≡ s.world.desk
            same_desk = ap (λ (v : State K V E). v.world.desk) own.after ∙ desk

            same_calls : h.0.calls ≡ put_at s.calls n (Some d)
            same_calls = ap (λ (v : State K V E). v.calls) own.after ∙
                ap (λ (v : Next K V E). put_at s.calls n v.left) next

    -- ---- from a list on

    -- the step lists keys, on a state
    listed : (s m : State K V E) (c : Call K V E) (ids : List (ℕ × ℕ)) (said : Turn K V E)
        (part : ℕ) (rest : List (Item K V E)) → c.carried ≡ Some ids →
        c.plan ≡ plan.List_keys part ∷ rest → IsSeeking rest → (h : Decides eq n s c said m) →
        GoesFromList s.world ids h.world (next_of n c h.given)
    listed s m c ids said part rest is e seeks h =
        subst (λ (v : Call K V E). GoesFromList s.world ids h.world (next_of n v h.given)) (sym own)
        (lists_so s.world h.world c.rules c.mode c.aborts ids part rest seeks h.given h.sure
        (subst (λ (v : Call K V E). Gets eq n s.world (access_of n v) h.given h.world) own h.gets))
      where
        own : c ≡ record c { plan = plan.List_keys part ∷ rest; carried = Some ids }
        own = ap (λ (o : Option (List (ℕ × ℕ))). record c { carried = o }) is ∙
            ap (λ (p : List (Item K V E)). record c { plan = p; carried = Some ids }) e

    -- a poll that begins with a list: it ends, and these predicates leave
    pub record WalkedFromList (s : State K V E) (ids : List (ℕ × ℕ)) (r : Reply K V E) (t : State K V E)
        : Type 0 where
      pub last : List (ℕ × ℕ)
      pub carried : Carried s.world.desk s.world.table ids last
      pub says : r ≡ reply.Answer answer.Done
      pub table : t.world.table ≡ closed n s.world.table
      pub desk : t.world.desk ≡ retired s.world.desk last
      pub calls : t.calls ≡ put_at s.calls n None

    walked_out : (s m t : State K V E) (d : Call K V E) (ids : List (ℕ × ℕ)) (r : Reply K V E) →
        m.world.table ≡ closed n s.world.table → m.world.desk ≡ s.world.desk →
        m.calls ≡ put_at s.calls n (Some d) → Walked m ids r t → WalkedFromList s ids r t
    walked_out s m t d ids r table desk calls h = record {
      last = h.last;
      carried = record { thins = here.thins; spent = here.spent };
      says = h.says;
      table = h.table ∙ table;
      desk = h.desk ∙ ap (λ (v : DeskPart K V E). retired v h.last) desk;
      calls = h.calls ∙ ap (λ f. put_at f n None) calls ∙ put_twice s.calls n (Some d) None;
    }
      where
        closed_carried : Carried s.world.desk (closed n s.world.table) ids h.last
        closed_carried = subst
            (λ (v : DeskPart K V E). Carried v (closed n s.world.table) ids h.last) desk
            (subst (λ (v : TablePart K V). Carried m.world.desk v ids h.last) table h.carried)

        here : Carried s.world.desk s.world.table ids h.last
        here = carried_closed s.world.desk s.world.table ids h.last
            (put_at s.world.table.listings n None) closed_carried

    pub lists_out : (k : ℕ) (s t : State K V E) (c : Call K V E) (ids : List (ℕ × ℕ)) (part : ℕ)
        (rest : List (Item K V E)) (r : Reply K V E) → IsReached eq s → s.calls n ≡ Some c →
        c.carried ≡ Some ids → c.plan ≡ plan.List_keys part ∷ rest → IsSeeking rest →
        Rolls eq n k s r t → WalkedFromList s ids r t
    unfolding Rolls
    lists_out zero s t c ids part rest r reached live is e seeks h = absurd (h.ends (h.says ∙
        ap reply_of (own.turns ∙ ap (λ (v : Next K V E). v.turn)
        (listed s t c ids h.said part rest is e seeks own).goes)))
      where
        own : Decides eq n s c h.said t
        own = subst (λ v. Decides eq n s v h.said t)
            (some_same (sym h.decides.live ∙ live)) h.decides
    lists_out (suc k) s t c ids part rest r reached live is e seeks h =
        walked_out s h.0 t so.going ids r same_table same_desk same_calls
        (walks k h.0 t so.going ids r
        (step_reached eq s h.0 n turn.Going reached (as_step eq n s h.0 c turn.Going own))
        (ap (λ f. f n) same_calls ∙ put_here s.calls n (Some so.going)) so.carried
        (Seeks so.going.plan so.seeks)
        (ap (λ (v : TablePart K V). v.listings n) same_table ∙
        put_here s.world.table.listings n None) h.3)
      where
        own : Decides eq n s c turn.Going h.0
        own = subst (λ v. Decides eq n s v turn.Going h.0)
            (some_same (sym h.2.live ∙ live)) h.2

        so : GoesFromList s.world ids own.world (next_of n c own.given)
        so = listed s h.0 c ids turn.Going part rest is e seeks own

        same_table : h.0.world.table ≡ closed n s.world.table
        same_table = ap (λ (v : State K V E). v.world.table) own.after ∙ so.table

        same_desk : h.0.world.desk ≡ s.world.desk
        same_desk = ap (λ (v : State K V E). v.world.desk) own.after ∙ so.desk

        same_calls : h.0.calls ≡ put_at s.calls n (Some so.going)
        same_calls = ap (λ (v : State K V E). v.calls) own.after ∙
            ap (λ (v : Next K V E). put_at s.calls n v.left) so.goes
