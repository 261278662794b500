-- A step that decides is determined by the state, but for how long operations have stayed undecided;
-- all but one that lists keys.
use Rattle.std.proofs.Common.{◌≡◌, ℕ, Bool, List, [], ◌∷◌, Option, Some, sym, ap, ◌∙◌, subst}
use Rattle.moka_hist.specs.Finite.{put_at}
use Rattle.moka_hist.specs.Next.{Next}
use Rattle.moka_hist.specs.Plan.{Item}
use Rattle.moka_hist.specs.Plan as plan
use Rattle.moka_hist.specs.State.{Call, DeskPart, State, Stay, TablePart, World}
use Rattle.moka_hist.specs.Step.{Access, Gets, On_desk, On_table, access_of, next_of}
use Rattle.moka_hist.specs.Tables.{Operates, begun}
use Rattle.moka_hist.specs.declared.accesses.Got.{Got}
use Rattle.moka_hist.specs.declared.accesses.Got.TheVariants as got
use Rattle.moka_hist.specs.declared.accesses.Turn.{Turn}
use Rattle.moka_hist.specs.declared.records.Mode.{Mode}
use Rattle.moka_hist.specs.declared.rules.Rules.{Rules}
use Rattle.moka_hist.specs.declared.tables.TableAnswer.{TableAnswer}
use Rattle.moka_hist.specs.declared.tables.TableOp.{TableOp}
use Rattle.moka_hist.specs.declared.tables.TableOp.TheVariants as op
use Rattle.moka_hist.specs.declared.tables.TableTurn.TheVariants as table
use Rattle.moka_laws.proofs.Counting.{some_same}
use Rattle.moka_same.specs.Alike.{Alike}
use Rattle.moka_same.proofs.Deciding.{Decides, IsSure}

module _ {K V : Type 0} where
  -- the operation lists keys
  abbrev IsList : TableOp K V → Type 0
  IsList (op.Keys part) = Unit {0}
  IsList _ = ⊥

  -- any other is a function of the table
  operates_once : (eq : K → K → Bool) (n : ℕ) (t : TablePart K V) (operation : TableOp K V)
      (a b : TableAnswer K V) (x y : TablePart K V) → (IsList operation → ⊥) →
      Operates eq n t operation a x → Operates eq n t operation b y → (b ≡ a) × (y ≡ x)
  operates_once eq n t (op.Get key) a b x y apart h k = (k.0 ∙ sym h.0, k.1 ∙ sym h.1)
  operates_once eq n t (op.InsertOrModify key stored) a b x y apart h k =
      (k.0 ∙ sym h.0, k.1 ∙ sym h.1)
  operates_once eq n t (op.InsertIfAbsent key stored) a b x y apart h k =
      (k.0 ∙ sym h.0, k.1 ∙ sym h.1)
  operates_once eq n t (op.RemoveIf key stamp) a b x y apart h k = (k.0 ∙ sym h.0, k.1 ∙ sym h.1)
  operates_once eq n t (op.Keys part) a b x y apart h k = absurd (apart tt)

module _ {K V E : Type 0} where
  abbrev pub ListsKeys : Access K V E → Type 0
  ListsKeys (On_table operation) = IsList operation
  ListsKeys (On_desk made) = ⊥

  -- the plan lists keys next
  abbrev pub ListsNext : List (Item K V E) → Type 0
  ListsNext (plan.List_keys part ∷ rest) = Unit {0}
  ListsNext _ = ⊥

  pub no_list : (n : ℕ) (rules : Rules) (m : Mode) (p : List (Item K V E)) (aborts : ℕ)
      (ids : Option (List (ℕ × ℕ))) → (ListsNext p → ⊥) →
      ListsKeys (access_of n (record
      { rules = rules; mode = m; plan = p; aborts = aborts; carried = ids })) → ⊥
  no_list n rules m (plan.List_keys part ∷ rest) aborts ids apart h = apart tt
  no_list n rules m [] aborts ids apart h = h
  no_list n rules m (_ ∷ rest) aborts ids apart h = h

  -- what two accesses gave is the same, and so are what they left of the table and of the desk
  record GotSame (g h : Got K V E) (new newer : World K V E) : Type 0 where
    given : h ≡ g
    table : newer.table ≡ new.table
    desk : newer.desk ≡ new.desk

  -- a world, where how long an operation has stayed undecided is this
  abbrev restayed : World K V E → Stay → World K V E
  restayed w stay = record { table = w.table; desk = w.desk; stay = stay }

  alike_world : (s u : State K V E) → Alike s u → u.world ≡ restayed s.world u.world.stay
  alike_world s u h =
      ap (λ (t : TablePart K V). record { table = t; desk = u.world.desk; stay = u.world.stay })
      h.table ∙ ap (λ (d : DeskPart K V E). record
      { table = s.world.table; desk = d; stay = u.world.stay }) h.desk

  -- the state, where how long an operation has stayed undecided is this
  abbrev pub with_stay : State K V E → Stay → State K V E
  with_stay s stay = record { world = restayed s.world stay; calls = s.calls }

  pub alike_state : (s u : State K V E) → Alike s u → u ≡ with_stay s u.world.stay
  alike_state s u h =
      ap (λ (w : World K V E). record { world = w; calls = u.calls }) (alike_world s u h) ∙
      ap (λ f. record { world = restayed s.world u.world.stay; calls = f }) h.calls

module _ {K V E : Type 0} (eq : K → K → Bool) (n : ℕ) where
  gets_same : (w : World K V E) (stay : Stay) (a : Access K V E) (g h : Got K V E)
      (new newer : World K V E) → (ListsKeys a → ⊥) → IsSure g → IsSure h → Gets eq n w a g new →
      Gets eq n (restayed w stay) a h newer → GotSame g h new newer
  gets_same w stay (On_desk made) (got.Desk f) (got.Desk e) new newer apart _ _ h k = record {
    given = ap (λ v. got.Desk v) (k.0 ∙ sym h.0);
    table = ap (λ (v : World K V E). v.table) k.1 ∙ sym (ap (λ (v : World K V E). v.table) h.1);
    desk = ap (λ (v : World K V E). v.desk) k.1 ∙ sym (ap (λ (v : World K V E). v.desk) h.1);
  }
  gets_same w stay (On_table operation) (got.Table (table.Decided a)) (got.Table (table.Decided b))
      new newer apart _ _ h k =
      let same = operates_once eq n (begun w.table n operation) operation a b h.0 k.0 apart h.1 k.1 in
      record {
        given = ap (λ v. got.Table (table.Decided v)) same.0;
        table = ap (λ (v : World K V E). v.table) k.2 ∙ same.1 ∙
            sym (ap (λ (v : World K V E). v.table) h.2);
        desk = ap (λ (v : World K V E). v.desk) k.2 ∙
            sym (ap (λ (v : World K V E). v.desk) h.2);
      }
  gets_same w stay a (got.Table table.Going) e new newer apart sure _ h k = absurd sure
  gets_same w stay a g (got.Table table.Going) new newer apart _ sure h k = absurd sure
  gets_same w stay (On_desk made) (got.Table turn) e new newer apart _ _ h k = absurd h
  gets_same w stay (On_table operation) (got.Desk f) e new newer apart _ _ h k = absurd h
  gets_same w stay (On_desk made) g (got.Table turn) new newer apart _ _ h k = absurd k
  gets_same w stay (On_table operation) g (got.Desk f) new newer apart _ _ h k = absurd k

  -- in alike states the call is the same
  pub same_call : (s u : State K V E) (c d : Call K V E) → Alike s u → s.calls n ≡ Some c →
      u.calls n ≡ Some d → d ≡ c
  same_call s u c d alike h k = some_same (sym k ∙ ap (λ f. f n) alike.calls ∙ h)

  -- two such steps from alike states reply the same, and leave alike states
  pub step_same : (s u t v : State K V E) (c d : Call K V E) (x y : Turn K V E) → Alike s u →
      (ListsNext c.plan → ⊥) → Decides eq n s c x t → Decides eq n u d y v → (y ≡ x) × Alike t v
  step_same s u t v c d x y alike apart h k = (
    own.turns ∙ ap (λ (a : Next K V E). a.turn) next ∙ sym h.turns,
    record {
      table = ap (λ (a : State K V E). a.world.table) own.after ∙ same.table ∙
          sym (ap (λ (a : State K V E). a.world.table) h.after);
      desk = ap (λ (a : State K V E). a.world.desk) own.after ∙ same.desk ∙
          sym (ap (λ (a : State K V E). a.world.desk) h.after);
      calls = ap (λ (a : State K V E). a.calls) own.after ∙
          ap (λ f. put_at f n (next_of n c own.given).left) alike.calls ∙
          ap (λ (a : Next K V E). put_at s.calls n a.left) next ∙
          sym (ap (λ (a : State K V E). a.calls) h.after);
    },
  )
    where
      own : Decides eq n u c y v
      own = subst (λ a. Decides eq n u a y v) (same_call s u c d alike h.live k.live) k

      same : GotSame h.given own.given h.world own.world
      same = gets_same s.world u.world.stay (access_of n c) h.given own.given h.world own.world
          (no_list n c.rules c.mode c.plan c.aborts c.carried apart) h.sure own.sure h.gets
          (subst (λ a. Gets eq n a (access_of n c) own.given own.world) (alike_world s u alike)
          own.gets)

      next : next_of n c own.given ≡ next_of n c h.given
      next = ap (λ g. next_of n c g) same.given
