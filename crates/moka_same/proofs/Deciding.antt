-- Steps that decide, and polls that are made of these alone.
use Rattle.std.proofs.Common.{◌≡◌, ◌≢◌, ℕ, zero, suc, ◌==◌, Bool, true, false, cond, List, [], ◌∷◌, ◌++◌, map, Option, Some, unwrap_or, refl, sym, ap, ◌∙◌, subst}
use Rattle.moka_hist.specs.Bound.{stayed}
use Rattle.moka_hist.specs.Finite.{put_at}
use Rattle.moka_hist.specs.State.{Call, Listed, State, TablePart, World}
use Rattle.moka_hist.specs.Looking.{chosen_or_not, finds_pair, kept_rest, misses}
use Rattle.moka_hist.specs.Next.{Next, goes, stays}
use Rattle.moka_hist.specs.Plan.{Aim, Item, put}
use Rattle.moka_hist.specs.Plan as plan
use Rattle.moka_hist.specs.Run.{Any, Goings, Polls, reply_of}
use Rattle.moka_hist.specs.Step.{Gets, On_table, Step, access_of, after_table, next_of, state_after}
use Rattle.moka_hist.specs.Tables.{Operates, begun}
use Rattle.moka_hist.specs.Walking.{judging}
use Rattle.moka_hist.specs.Writing.{nothing_rest, old_stamp, once_told, removed_rest, stamp_asked}
use Rattle.moka_hist.specs.declared.accesses.Got.{Got}
use Rattle.moka_hist.specs.declared.accesses.Got.TheVariants as got
use Rattle.moka_hist.specs.declared.accesses.Turn.{Turn}
use Rattle.moka_hist.specs.declared.accesses.Turn.TheVariants as turn
use Rattle.moka_hist.specs.declared.records.Mode.{Mode}
use Rattle.moka_hist.specs.declared.records.Mode.TheVariants as mode
use Rattle.moka_hist.specs.declared.records.Stored.{Stored}
use Rattle.moka_hist.specs.declared.replies.Answer.TheVariants as answer
use Rattle.moka_hist.specs.declared.replies.Reply.{Reply}
use Rattle.moka_hist.specs.declared.replies.Reply.TheVariants as reply
use Rattle.moka_hist.specs.declared.rules.Cause.{Cause}
use Rattle.moka_hist.specs.declared.rules.Rules.{Rules}
use Rattle.moka_hist.specs.declared.tables.TableAnswer.{TableAnswer}
use Rattle.moka_hist.specs.declared.tables.TableAnswer.TheVariants as found
use Rattle.moka_hist.specs.declared.tables.TableOp.{TableOp}
use Rattle.moka_hist.specs.declared.tables.TableOp.TheVariants as op
use Rattle.moka_hist.specs.declared.tables.TableTurn.TheVariants as table
use Rattle.moka_hist.specs.declared.writes.Write.TheVariants.{Upsert}
use Rattle.moka_laws.proofs.Counting.{put_here, some_same}

-- what was put twice at a number was put there once
pub put_twice : {A : Type 0} (f : ℕ → A) (n : ℕ) (a b : A) → put_at (put_at f n a) n b ≡ put_at f n b
put_twice f n a b = λ i m. (at m (n == m)) i
  where
    at : (m : ℕ) (here : Bool) → cond here b (cond here a (f m)) ≡ cond here b (f m)
    at m true = refl
    at m false = refl

module _ {K V : Type 0} where
  -- to begin an operation again changes nothing
  begun_twice : (t : TablePart K V) (n : ℕ) (operation : TableOp K V) →
      begun (begun t n operation) n operation ≡ begun t n operation
  begun_twice t n (op.Get key) = refl
  begun_twice t n (op.InsertOrModify key stored) = refl
  begun_twice t n (op.InsertIfAbsent key stored) = refl
  begun_twice t n (op.RemoveIf key stamp) = refl
  begun_twice t n (op.Keys part) =
      ap (λ (l : ℕ → Option (Listed K)). record t { listings = l }) (by _ _)
    where
      by : (l d : Listed K) →
          put_at (put_at t.listings n (Some l)) n
          (Some (unwrap_or (put_at t.listings n (Some l) n) d)) ≡ put_at t.listings n (Some l)
      by l d = ap (λ o. put_at (put_at t.listings n (Some l)) n (Some (unwrap_or o d)))
          (put_here t.listings n (Some l)) ∙ put_twice t.listings n (Some l) (Some l)

module _ {K V E : Type 0} where
  -- the access decided
  abbrev pub IsSure : Got K V E → Type 0
  IsSure (got.Table table.Going) = ⊥
  IsSure (got.Table (table.Decided answer)) = Unit {0}
  IsSure (got.Desk f) = Unit {0}

  -- ---- how a call goes on doesn't depend on its mode

  abbrev in_mode : Call K V E → Mode → Call K V E
  in_mode c m = record c { mode = m }

  goes_so : (c : Call K V E) (m : Mode) (p : List (Item K V E)) → goes (in_mode c m) p ≡ goes c p
  goes_so c m (plan.Reply a ∷ []) = refl
  goes_so c m _ = refl

  misses_so : (c : Call K V E) (m : Mode) (aim : Aim K V) → misses (in_mode c m) aim ≡ misses c aim
  misses_so c m (plan.To_insert key value) =
      goes_so c m (put c.rules key value (plan.Reply (answer.Loaded value true) ∷ []))
  misses_so c m (plan.To_evict key stamp cause) = goes_so c m (kept_rest c.rules.listener)
  misses_so c m _ = refl

  chosen_so : (c : Call K V E) (m : Mode) (b : Bool) (key : K) (stamp : ℕ) (cause : Cause) (there : K)
      (stored : Stored V) → chosen_or_not (in_mode c m) b key stamp cause there stored ≡
      chosen_or_not c b key stamp cause there stored
  chosen_so c m true key stamp cause there stored = refl
  chosen_so c m false key stamp cause there stored = goes_so c m (kept_rest c.rules.listener)

  finds_so : (c : Call K V E) (m : Mode) (aim : Aim K V) (there : K) (stored : Stored V) →
      finds_pair (in_mode c m) aim there stored ≡ finds_pair c aim there stored
  finds_so c m (plan.To_evict key stamp cause) there stored =
      chosen_so c m (stored.stamp == stamp) key stamp cause there stored
  finds_so c m _ there stored = refl

  table_so : (n : ℕ) (c : Call K V E) (m : Mode) (item : Item K V E) (rest : List (Item K V E))
      (answer : TableAnswer K V) → after_table n (in_mode c m) item rest (table.Decided answer) ≡
      after_table n c item rest (table.Decided answer)
  table_so n c m (plan.Get aim key) rest found.None = misses_so c m aim
  table_so n c m (plan.Get aim key) rest (found.Some there stored) = finds_so c m aim there stored
  table_so n c m (plan.Get aim key) rest (found.Keys keys) = refl
  table_so n c m (plan.Write key value moment) rest answer = goes_so c m
      (once_told c.rules.listener key answer (plan.Post (Upsert n (old_stamp answer)) ∷ rest))
  table_so n c m (plan.Out removal key) rest found.None =
      goes_so c m (nothing_rest c.rules.listener removal)
  table_so n c m (plan.Out removal key) rest (found.Some there stored) =
      goes_so c m (removed_rest c.rules.listener n removal key stored)
  table_so n c m (plan.Out removal key) rest (found.Keys keys) = refl
  table_so n c m (plan.List_keys part) rest found.None = refl
  table_so n c m (plan.List_keys part) rest (found.Some there stored) = refl
  table_so n c m (plan.List_keys part) rest (found.Keys keys) =
      goes_so c m (map plan.Find keys ++ rest)
  table_so n c m (plan.Find key) rest found.None = goes_so c m rest
  table_so n c m (plan.Find key) rest (found.Some there stored) =
      goes_so c m (judging c.carried there stored ∷ rest)
  table_so n c m (plan.Find key) rest (found.Keys keys) = refl
  table_so n c m _ rest answer = refl

module _ {K V E : Type 0} (eq : K → K → Bool) (n : ℕ) where
  -- an operation that stayed undecided decides then what it can decide at once
  again : (operation : TableOp K V) (w mid : World K V E) (g : Got K V E) (new : World K V E) →
      mid ≡ record w { table = begun w.table n operation; stay = stayed w.stay n } → IsSure g →
      Gets eq n mid (On_table operation) g new → Gets eq n w (On_table operation) g new
  again operation w mid (got.Table (table.Decided answer)) new is sure h =
      let k = subst (λ v. Gets eq n v (On_table operation) (got.Table (table.Decided answer)) new)
      is h in
      (k.0, subst (λ b. Operates eq n b operation answer k.0) (begun_twice w.table n operation) k.1, k.2)
  again operation w mid (got.Table table.Going) new is sure h = absurd sure
  again operation w mid (got.Desk f) new is sure h = absurd h

  -- What an undecided step leaves of a call: it goes on as before, and what it then decides, and
  -- how it goes on, is as if the step hadn't been.
  record Waits (w mid : World K V E) (c : Call K V E) : Type 0 where
    still : next_of n c (got.Table table.Going) ≡ stays c
    gets : (g : Got K V E) (new : World K V E) → IsSure g →
        Gets eq n mid (access_of n (in_mode c mode.Mid)) g new → Gets eq n w (access_of n c) g new
    goes : (g : Got K V E) (new : World K V E) → IsSure g →
        Gets eq n mid (access_of n (in_mode c mode.Mid)) g new →
        next_of n (in_mode c mode.Mid) g ≡ next_of n c g

  -- how an item with a table operation goes on
  table_goes : (mid : World K V E) (c : Call K V E) (item : Item K V E) (rest : List (Item K V E))
      (operation : TableOp K V) (g : Got K V E) (new : World K V E) → IsSure g →
      Gets eq n mid (On_table operation) g new →
      next_of n (record c { mode = mode.Mid; plan = item ∷ rest }) g ≡
      next_of n (record c { plan = item ∷ rest }) g
  table_goes mid c item rest operation (got.Table (table.Decided answer)) new sure h =
      table_so n (record c { plan = item ∷ rest }) mode.Mid item rest answer
  table_goes mid c item rest operation (got.Table table.Going) new sure h = absurd sure
  table_goes mid c item rest operation (got.Desk f) new sure h = absurd h

  waits_by : (w mid : World K V E) (rules : Rules) (m : Mode) (p : List (Item K V E)) (aborts : ℕ)
      (ids : Option (List (ℕ × ℕ))) →
      let c : Call K V E = record { rules = rules; mode = m; plan = p; aborts = aborts; carried = ids } in
      Gets eq n w (access_of n c) (got.Table table.Going) mid → Waits w mid c
  waits_by w mid rules m (plan.Get aim key ∷ rest) aborts ids h = record {
    still = refl;
    gets = λ g new sure k. again (op.Get key) w mid g new h.1 sure k;
    goes = λ g new sure k. table_goes mid
        (record { rules = rules; mode = m; plan = []; aborts = aborts; carried = ids })
        (plan.Get aim key) rest
        (op.Get key) g new sure k;
  }
  waits_by w mid rules m (plan.Write key value moment ∷ rest) aborts ids h = record {
    still = refl;
    gets = λ g new sure k. again (op.InsertOrModify key (record { value = value; stamp = n; modified = moment })) w mid g new h.1 sure k;
    goes = λ g new sure k. table_goes mid
        (record { rules = rules; mode = m; plan = []; aborts = aborts; carried = ids })
        (plan.Write key value moment) rest
        (op.InsertOrModify key (record { value = value; stamp = n; modified = moment })) g new sure k;
  }
  waits_by w mid rules m (plan.Out removal key ∷ rest) aborts ids h = record {
    still = refl;
    gets = λ g new sure k. again (op.RemoveIf key (stamp_asked removal)) w mid g new h.1 sure k;
    goes = λ g new sure k. table_goes mid
        (record { rules = rules; mode = m; plan = []; aborts = aborts; carried = ids })
        (plan.Out removal key) rest
        (op.RemoveIf key (stamp_asked removal)) g new sure k;
  }
  waits_by w mid rules m (plan.List_keys part ∷ rest) aborts ids h = record {
    still = refl;
    gets = λ g new sure k. again (op.Keys part) w mid g new h.1 sure k;
    goes = λ g new sure k. table_goes mid
        (record { rules = rules; mode = m; plan = []; aborts = aborts; carried = ids })
        (plan.List_keys part) rest
        (op.Keys part) g new sure k;
  }
  waits_by w mid rules m (plan.Find key ∷ rest) aborts ids h = record {
    still = refl;
    gets = λ g new sure k. again (op.Get key) w mid g new h.1 sure k;
    goes = λ g new sure k. table_goes mid
        (record { rules = rules; mode = m; plan = []; aborts = aborts; carried = ids })
        (plan.Find key) rest
        (op.Get key) g new sure k;
  }
  waits_by w mid rules m [] aborts ids h = absurd h
  waits_by w mid rules m (_ ∷ rest) aborts ids h = absurd h

  -- ---- steps that decide

  -- the call's step decides, if it is one of a table operation
  pub record Decides (s : State K V E) (c : Call K V E) (turn : Turn K V E) (t : State K V E)
      : Type 0 where
    pub live : s.calls n ≡ Some c
    pub given : Got K V E
    pub sure : IsSure given
    pub world : World K V E
    pub gets : Gets eq n s.world (access_of n c) given world
    pub turns : turn ≡ (next_of n c given).turn
    pub after : t ≡ state_after s n world (next_of n c given)

  pub as_step : (s t : State K V E) (c : Call K V E) (said : Turn K V E) → Decides s c said t →
      Step eq s n said t
  as_step s t c said h = record {
    call = c;
    live = h.live;
    given = h.given;
    world = h.world;
    gets = h.gets;
    turns = h.turns;
    after = h.after;
  }

  -- an undecided step before one that decides can be left out
  skip : (s m t : State K V E) (c d : Call K V E) (mid : World K V E) (said : Turn K V E) →
      s.calls n ≡ Some c → Gets eq n s.world (access_of n c) (got.Table table.Going) mid →
      m ≡ state_after s n mid (next_of n c (got.Table table.Going)) → Decides m d said t →
      Decides s c said t
  skip s m t c d mid said live gets after k = record {
    live = live;
    given = decides.given;
    sure = decides.sure;
    world = decides.world;
    gets = waits.gets decides.given decides.world decides.sure decides.gets;
    turns = decides.turns ∙ ap (λ (v : Next K V E). v.turn) same;
    after = decides.after ∙
        ap (λ f. record { world = decides.world; calls = f })
        (put_twice s.calls n (Some going) (next_of n going decides.given).left) ∙
        ap (λ (v : Next K V E). state_after s n decides.world v) same;
  }
    where
      going : Call K V E
      going = in_mode c mode.Mid

      waits : Waits s.world mid c
      waits = waits_by s.world mid c.rules c.mode c.plan c.aborts c.carried gets

      there : State K V E
      there = state_after s n mid (stays c)

      is : m ≡ there
      is = after ∙ ap (λ (v : Next K V E). state_after s n mid v) waits.still

      moved : Decides there d said t
      moved = subst (λ v. Decides v d said t) is k

      decides : Decides there going said t
      decides = subst (λ v. Decides there v said t)
          (some_same (sym moved.live ∙ put_here s.calls n (Some going))) moved

      same : next_of n going decides.given ≡ next_of n c decides.given
      same = waits.goes decides.given decides.world decides.sure decides.gets

  -- ---- polls of steps that decide

  pub record Ends (s : State K V E) (r : Reply K V E) (t : State K V E) : Type 0 where
    pub call : Call K V E
    pub said : Turn K V E
    pub decides : Decides s call said t
    pub says : r ≡ reply_of said
    pub ends : r ≢ reply.Going

  -- so many such steps that leave the call going, and one that doesn't
  unfoldable pub Rolls : ℕ → State K V E → Reply K V E → State K V E → Type 0
  Rolls zero s r t = Ends s r t
  Rolls (suc k) s r t =
      (m : State K V E) × (c : Call K V E) × Decides s c turn.Going m × Rolls k m r t

  -- such a poll may as well begin an undecided step before
  skips : (k : ℕ) (s m t : State K V E) (c : Call K V E) (mid : World K V E) (r : Reply K V E) →
      s.calls n ≡ Some c → Gets eq n s.world (access_of n c) (got.Table table.Going) mid →
      m ≡ state_after s n mid (next_of n c (got.Table table.Going)) → Rolls k m r t → Rolls k s r t
  unfolding Rolls
  skips zero s m t c mid r live gets after h = record {
    call = c;
    said = h.said;
    decides = skip s m t c h.call mid h.said live gets after h.decides;
    says = h.says;
    ends = h.ends;
  }
  skips (suc k) s m t c mid r live gets after h =
      (h.0, c, skip s m h.0 c h.1 mid turn.Going live gets after h.2, h.3)

  -- a step that decides, as one
  sure_step : (s t : State K V E) (said : Turn K V E) (step : Step eq s n said t) →
      IsSure step.given → Decides s step.call said t
  sure_step s t said step sure = record {
    live = step.live;
    given = step.given;
    sure = sure;
    world = step.world;
    gets = step.gets;
    turns = step.turns;
    after = step.after;
  }

  -- it may begin a step before
  before : (k : ℕ) (s m t : State K V E) (r : Reply K V E) → Step eq s n turn.Going m →
      Rolls k m r t → (j : ℕ) × Rolls j s r t
  unfolding Rolls
  before k s m t r step h = by step.given refl
    where
      by : (g : Got K V E) → step.given ≡ g → (j : ℕ) × Rolls j s r t
      by (got.Table table.Going) is = (
        k,
        skips k s m t step.call step.world r step.live
            (subst (λ v. Gets eq n s.world (access_of n step.call) v step.world) is step.gets)
            (step.after ∙ ap (λ v. state_after s n step.world (next_of n step.call v)) is) h,
      )
      by (got.Table (table.Decided answer)) is =
          (suc k, (m, step.call, sure_step s m turn.Going step (subst IsSure (sym is) tt), h))
      by (got.Desk f) is =
          (suc k, (m, step.call, sure_step s m turn.Going step (subst IsSure (sym is) tt), h))

  befores : (going k : ℕ) (s m t : State K V E) (r : Reply K V E) → Goings eq Any going s n m →
      Rolls k m r t → (j : ℕ) × Rolls j s r t
  unfolding Goings
  befores zero k s m t r goings h = (k, subst (λ v. Rolls k v r t) goings h)
  befores (suc going) k s m t r goings h =
      let b = before k goings.0 m t r goings.2 h in
      befores going b.0 s goings.0 t r goings.1 b.1

  -- a poll's last step decides
  last_rolls : (s t : State K V E) (said : Turn K V E) (r : Reply K V E) → Step eq s n said t →
      r ≡ reply_of said → r ≢ reply.Going → Ends s r t
  last_rolls s t said r step is ends = record {
    call = step.call;
    said = said;
    decides = sure_step s t said step (by step.given refl);
    says = is;
    ends = ends;
  }
    where
      by : (g : Got K V E) → step.given ≡ g → IsSure step.given
      by (got.Table table.Going) e = absurd (ends (is ∙ ap reply_of (step.turns ∙
          ap (λ (v : Got K V E). (next_of n step.call v).turn) e ∙ ap (λ (v : Next K V E). v.turn)
          (waits_by s.world step.world step.call.rules step.call.mode step.call.plan
          step.call.aborts step.call.carried
          (subst (λ v. Gets eq n s.world (access_of n step.call) v step.world) e step.gets)).still)))
      by (got.Table (table.Decided answer)) e = subst IsSure (sym e) tt
      by (got.Desk f) e = subst IsSure (sym e) tt

  -- each poll is made of steps that decide
  pub rolled : (s t : State K V E) (r : Reply K V E) → Polls eq Any s n r t → (k : ℕ) × Rolls k s r t
  unfolding Rolls
  rolled s t r h = befores h.going zero s h.mid t r h.goes
      (last_rolls h.mid t h.last.turn r h.last.step h.last.reply h.ends)
