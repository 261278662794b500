-- A step that leaves a flow going lowers how many it may still make.
use Rattle.std.proofs.Common.{◌≡◌, ℕ, zero, suc, ◌+◌, ◌*◌, ◌<◌, ◌≤◌, Bool, List, [], ◌∷◌, Option, Some, None, refl, sym, ap, subst, ◌∙◌, arith}
use Rattle.moka_hist.specs.State.{Call, World}
use Rattle.moka_hist.specs.Plan.{Item}
use Rattle.moka_hist.specs.Plan as plan
use Rattle.moka_hist.specs.Step.{Access, Gets, May, access_for, access_of, next_of}
use Rattle.moka_hist.specs.Step as step
use Rattle.moka_hist.specs.Tables.{answer_of}
use Rattle.moka_hist.specs.declared.visits.Visit.{Visit}
use Rattle.moka_hist.specs.declared.visits.Visit.TheVariants as visit
use Rattle.moka_hist.specs.declared.accesses.Got.{Got}
use Rattle.moka_hist.specs.declared.accesses.Got.TheVariants as got
use Rattle.moka_hist.specs.declared.accesses.Turn.{Turn}
use Rattle.moka_hist.specs.declared.accesses.Turn.TheVariants as turn
use Rattle.moka_hist.specs.declared.records.Mode.{Mode}
use Rattle.moka_hist.specs.declared.records.Stored.{Stored}
use Rattle.moka_hist.specs.declared.rules.Rules.{Rules}
use Rattle.moka_hist.specs.declared.tables.TableAnswer.TheVariants as answer
use Rattle.moka_hist.specs.declared.tables.TableOp.{TableOp}
use Rattle.moka_hist.specs.declared.tables.TableOp.TheVariants as op
use Rattle.moka_hist.specs.declared.tables.TableTurn.TheVariants as table
use Rattle.moka_bound.specs.Ahead.{ahead}
use Rattle.moka_bound.specs.Falling.{Counts, Shortens, keys_in, raised}
use Rattle.moka_bound.proofs.Falls.{going_falls}
use Rattle.moka_init.specs.declared.flow.Flow.{Flow}
use Rattle.moka_init.specs.FlowPlan.{call_of, next_in}
use Rattle.moka_init.specs.Grounds.{Account, Accesses, access_at, lists_in, work_for}
use Rattle.moka_init.proofs.Begun.{left_going}
use Rattle.moka_init.proofs.Lists.{adds_none, left_lists, listed_fewer, step_few}

-- ---- how many keys a step's lists may still give

product_le : (a b c d : ℕ) → a ≤ b → c ≤ d → a * c ≤ b * d
product_le a b c d h k = grind arith

no_product : (a b : ℕ) → a ≡ 0 → a * b ≡ 0
no_product a b e = rw e (omega arith)

-- as many lists as before give no more keys than before, and one list fewer gives so many fewer
lists_kept : (new old most was given : ℕ) → new ≤ old → most ≤ was → given ≡ 0 → new * most + given ≤ old * was
lists_kept new old most was given h m none =
    let p : new * most ≤ old * was = product_le new old most was h m in omega (arith, p, none)

lists_less : (new rest old most was given : ℕ) → new ≤ rest → old ≡ rest + 1 → most ≤ was → given ≤ was → new * most + given ≤ old * was
lists_less new rest old most was given h e m few =
    let p : new * most ≤ rest * was = product_le new rest most was h m in
    let all : old * was ≡ (rest + 1) * was = ap (λ k. k * was) e in
    omega (arith, p, all, few)

lists_none : (new old most was given : ℕ) → new ≤ old → old ≡ 0 → given ≡ 0 → new * most + given ≤ old * was
lists_none new old most was given h none e =
    let n : new ≡ 0 = omega (arith, h, none) in
    let p : new * most ≡ 0 * most = ap (λ k. k * most) n in omega (arith, p, e)

-- a stored pair's answer gives no keys
pair_gives_none : {K V : Type 0} (E : Type 0) (o : Option (K × Stored V)) → keys_in {K = K} {V = V} {E = E} (got.Table (table.Decided (answer_of o))) ≡ 0
pair_gives_none E None = refl
pair_gives_none E (Some pair) = refl

module _ {K V E : Type 0} (eq : K → K → Bool) where
  -- an operation that isn't a list gives no keys
  pub lists_nothing : (n : ℕ) (w new : World K V E) (o : TableOp K V) (given : Got K V E) → Gets eq n w (step.On_table o) given new →
      ((part : ℕ) → o ≡ op.Keys part → ⊥) → keys_in given ≡ 0
  lists_nothing n w new o (got.Desk f) gets free = refl
  lists_nothing n w new o (got.Table table.Going) gets free = refl
  lists_nothing n w new (op.Get key) (got.Table (table.Decided a)) gets free =
      ap (λ b. keys_in {E = E} (got.Table (table.Decided b))) gets.1.0 ∙ pair_gives_none E _
  lists_nothing n w new (op.InsertOrModify key stored) (got.Table (table.Decided a)) gets free =
      ap (λ b. keys_in {E = E} (got.Table (table.Decided b))) gets.1.0 ∙ pair_gives_none E _
  lists_nothing n w new (op.InsertIfAbsent key stored) (got.Table (table.Decided a)) gets free =
      ap (λ b. keys_in {E = E} (got.Table (table.Decided b))) gets.1.0 ∙ pair_gives_none E _
  lists_nothing n w new (op.RemoveIf key stamp) (got.Table (table.Decided a)) gets free =
      ap (λ b. keys_in {E = E} (got.Table (table.Decided b))) gets.1.0 ∙ pair_gives_none E _
  lists_nothing n w new (op.Keys part) (got.Table (table.Decided a)) gets free = absurd (free part refl)

  desk_lists_nothing : (given : Got K V E) (n : ℕ) (w new : World K V E) (made : Visit K V E) → Gets eq n w (step.On_desk made) given new → keys_in given ≡ 0
  desk_lists_nothing (got.Desk f) n w new made gets = refl
  desk_lists_nothing (got.Table t) n w new made gets = absurd gets

  -- an access that isn't a list
  access_lists_nothing : (a : Access K V E) (n : ℕ) (w new : World K V E) (given : Got K V E) → Gets eq n w a given new →
      ((part : ℕ) → a ≡ step.On_table (op.Keys part) → ⊥) → keys_in given ≡ 0
  access_lists_nothing (step.On_table o) n w new given gets free =
      lists_nothing n w new o given gets (λ part e. free part (ap (λ (v : TableOp K V). step.On_table v) e))
  access_lists_nothing (step.On_desk made) n w new given gets free = desk_lists_nothing given n w new made gets

  item_no_list : (item : Item K V E) (n : ℕ) (ids : Option (List (ℕ × ℕ))) (part : ℕ) → ((p : ℕ) → item ≡ plan.List_keys p → ⊥) → access_for n ids item ≡ step.On_table (op.Keys part) → ⊥
  item_no_list (plan.List_keys p) n ids part free e = free p refl
  item_no_list _ n ids part free e = cc

  -- an item that lists nothing
  item_lists_nothing : (item : Item K V E) (n : ℕ) (ids : Option (List (ℕ × ℕ))) (w new : World K V E) (given : Got K V E) →
      Gets eq n w (access_for n ids item) given new → ((part : ℕ) → item ≡ plan.List_keys part → ⊥) → keys_in given ≡ 0
  item_lists_nothing item n ids w new given gets free =
      access_lists_nothing (access_for n ids item) n w new given gets (λ part e. item_no_list item n ids part free e)

  -- it leaves as many lists as there were, or adds a key where there are none
  item_shortens : (n : ℕ) (r : Rules) (m : Mode) (item : Item K V E) (rest : List (Item K V E)) (aborts : ℕ) (ids : Option (List (ℕ × ℕ))) (w new : World K V E)
      (given : Got K V E) (most was : ℕ) → Gets eq n w (access_for n ids item) given new → most ≤ was + raised (access_for n ids item) given →
      (0 < raised (access_for n ids item) given → lists_in (item ∷ rest) ≡ 0) → ((part : ℕ) → item ≡ plan.List_keys part → ⊥) →
      left_lists (next_of n (record { rules = r; mode = m; plan = item ∷ rest; aborts = aborts; carried = ids }) given).left * most + keys_in given ≤ lists_in (item ∷ rest) * was
  item_shortens n r m item rest aborts ids w new given most was gets more none free = by (raised (access_for n ids item) given) refl
    where
      by : (k : ℕ) → raised (access_for n ids item) given ≡ k →
          left_lists (next_of n (record { rules = r; mode = m; plan = item ∷ rest; aborts = aborts; carried = ids }) given).left * most + keys_in given ≤ lists_in (item ∷ rest) * was
      by zero flat = lists_kept _ _ most was _ (step_few n r m (item ∷ rest) aborts ids given) (omega (arith, more, flat)) (item_lists_nothing item n ids w new given gets free)
      by (suc k) adds = lists_none _ _ most was _ (step_few n r m (item ∷ rest) aborts ids given) (none (omega (arith, adds))) (item_lists_nothing item n ids w new given gets free)

  -- the lists that are left may give as many keys less as this one gave
  pub lists_shorten : (n : ℕ) (r : Rules) (m : Mode) (items : List (Item K V E)) (aborts : ℕ) (ids : Option (List (ℕ × ℕ))) (w new : World K V E) (given : Got K V E) (most was : ℕ) →
      let c : Call K V E = record { rules = r; mode = m; plan = items; aborts = aborts; carried = ids } in
      Gets eq n w (access_of n c) given new → most ≤ was + raised (access_of n c) given → keys_in given ≤ was → (0 < raised (access_of n c) given → lists_in items ≡ 0) →
      left_lists (next_of n c given).left * most + keys_in given ≤ lists_in items * was
  lists_shorten n r m [] aborts ids w new given most was gets more few none =
      lists_none _ 0 most was _ (step_few n r m [] aborts ids given) refl (desk_lists_nothing given n w new (visit.Clock n) gets)
  lists_shorten n r m (plan.List_keys part ∷ rest) aborts ids w new (got.Table (table.Decided (answer.Keys keys))) most was gets more few none =
      lists_less _ (lists_in rest) _ most was _ (listed_fewer (record { rules = r; mode = m; plan = plan.List_keys part ∷ rest; aborts = aborts; carried = ids }) rest keys)
      (omega arith) (omega (arith, more)) few
  lists_shorten n r m (plan.List_keys part ∷ rest) aborts ids w new given most was gets more few none =
      lists_kept _ _ most was _ (step_few n r m (plan.List_keys part ∷ rest) aborts ids given) (omega (arith, more)) refl
  lists_shorten n r m (item ∷ rest) aborts ids w new given most was gets more few none =
      item_shortens n r m item rest aborts ids w new given most was gets more none (λ part e. cc)

  -- ---- a step

  counts_for : (n : ℕ) (w : World K V E) (account : Account K V E) (flow : Flow K V E) → Counts n w account.work → Counts n w (work_for account flow)
  counts_for n w account flow is = record { owed = is.owed; logged = is.logged; size = is.size; ended = is.ended }

  shortens_for : (old new : Flow K V E) (t : Turn K V E) (w after : World K V E) (given : Got K V E) (before then : Account K V E) →
      Gets eq old.call w (access_at old) given after → next_in t new ≡ next_of old.call (call_of old) given → t ≡ turn.Going →
      Accesses before (access_at old) given then → Shortens (work_for before old) (work_for then new) (access_at old) given
  shortens_for old new t w after given before then gets next going told =
      let s = told.shortens 0 in
      let left : (next_of old.call (call_of old) given).left ≡ Some (call_of new) =
      ap (λ v. v.left) (sym next) ∙ ap (λ (u : Turn K V E). (next_in u new).left) going in
      let all = lists_shorten old.call old.rules old.mode (call_of old).plan old.aborts (call_of old).carried w after given then.work.most before.work.most gets s.raises told.lists
      (adds_none K V E old given) in
      record {
        within = s.within;
        raises = s.raises;
        going = s.going;
        keys = subst (λ o. left_lists o * then.work.most + keys_in given ≤ lists_in (call_of old).plan * before.work.most) left all;
      }

  pub near : (old new : Flow K V E) (t : Turn K V E) (w after : World K V E) (given : Got K V E) (before then : Account K V E) →
      0 < before.work.size → May w (access_at old) → Gets eq old.call w (access_at old) given after → next_in t new ≡ next_of old.call (call_of old) given → t ≡ turn.Going →
      Counts old.call w before.work → Counts old.call after then.work → Accesses before (access_at old) given then →
      ahead (work_for then new) (call_of new) < ahead (work_for before old) (call_of old)
  near old new t w after given before then has_log may gets next going was is told =
      let turns : (next_of old.call (call_of old) given).turn ≡ turn.Going = ap (λ v. v.turn) (sym next) ∙ going in
      let none : 0 < raised (access_at old) given → (work_for before old).keys ≡ 0 =
      λ adds. no_product _ before.work.most (adds_none K V E old given adds) in
      let falls = going_falls eq old.call (call_of old) w after given (work_for before old) (work_for then new) old.few has_log none may gets
      (counts_for old.call w before old was) (counts_for old.call after then new is)
      (shortens_for old new t w after given before then gets next going told) turns in
      let left : call_of new ≡ falls.0 = left_going t new falls.0 (next ∙ falls.1) in
      subst (λ d. ahead (work_for then new) d < ahead (work_for before old) (call_of old)) (sym left) falls.2
