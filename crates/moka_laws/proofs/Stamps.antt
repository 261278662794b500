-- Stamps of stored records: each is that of a committed write, and stands under one key.
use Rattle.std.proofs.Common.{◌≡◌, ℕ, ◌+◌, ◌<◌, ◌≤◌, Bool, true, false, cond, List, [], ◌∷◌, ◌++◌, Option, Some, None, refl, sym, ap, ◌∙◌, subst, arith}
use Rattle.std.proofs.lemmas.Bool.{false≢true}
use Rattle.std.specs.Cmp.{IsEquivalence}
use Rattle.std.specs.Prelude.{IsSomeAnd}
use Rattle.moka_hist.specs.Finite.{put_key, times}
use Rattle.moka_hist.specs.State.{State, World, Call, TablePart}
use Rattle.moka_hist.specs.Plan.{Item}
use Rattle.moka_hist.specs.Plan as plan
use Rattle.moka_hist.specs.Step.{Access, On_table, On_desk, access_for, access_of, Gets, Step}
use Rattle.moka_hist.specs.Tables.{Operates, by_pair, removed, taken_by, written, begun}
use Rattle.moka_hist.specs.declared.accesses.Got.{Got}
use Rattle.moka_hist.specs.declared.accesses.Got.TheVariants as got
use Rattle.moka_hist.specs.declared.accesses.Turn.{Turn}
use Rattle.moka_hist.specs.declared.records.Mode.{Mode}
use Rattle.moka_hist.specs.declared.records.Stored.{Stored}
use Rattle.moka_hist.specs.declared.rules.Rules.{Rules}
use Rattle.moka_hist.specs.declared.tables.TableAnswer.{TableAnswer}
use Rattle.moka_hist.specs.declared.tables.TableOp.{TableOp}
use Rattle.moka_hist.specs.declared.tables.TableOp.TheVariants as op
use Rattle.moka_hist.specs.declared.tables.TableTurn.TheVariants as table
use Rattle.moka_laws.specs.Removals.{StampsAreOne}
use Rattle.moka_laws.proofs.Counting.{none_some, some_same, same_number}
use Rattle.moka_laws.proofs.Balance.{IsBalanced, times_last}
use Rattle.moka_laws.proofs.Balanced.{balanced_kept}
use Rattle.moka_laws.proofs.Posts.{may_write}
use Rattle.moka_laws.proofs.Weights.{weigh}
use Rattle.moka_laws.proofs.Kept.{IsInvariant, in_reached}

more_times : (x n : ℕ) (xs : List ℕ) → 0 < times x xs → 0 < times x (xs ++ n ∷ [])
more_times x n xs h = omega (arith, h, times_last x n xs)

pub now_times : (n : ℕ) (xs : List ℕ) → 0 < times n (xs ++ n ∷ [])
now_times n xs = omega (arith, times_last n n xs, ap (λ b. cond {A = ℕ} b 1 0) (same_number n))

module _ {K V : Type 0} where
  -- what an operation needs: a write's record has the number of its call, which has committed none
  abbrev Suits : ℕ → TablePart K V → TableOp K V → Type 0
  Suits n t (op.InsertOrModify key stored) = (stored.stamp ≡ n) × (times n t.committed ≡ 0)
  Suits n t (op.InsertIfAbsent key stored) = ⊥
  Suits n t _ = Unit {0}

  -- it needs as much once it was begun
  begun_suits : (n : ℕ) (t : TablePart K V) (o : TableOp K V) → Suits n t o → Suits n (begun t n o) o
  begun_suits n t (op.Get key) f = f
  begun_suits n t (op.InsertOrModify key stored) f = f
  begun_suits n t (op.InsertIfAbsent key stored) f = f
  begun_suits n t (op.RemoveIf key stamp) f = f
  begun_suits n t (op.Keys part) f = f

module _ {K V E : Type 0} where
  -- what an access needs
  abbrev pub Fits : ℕ → TablePart K V → Access K V E → Type 0
  Fits n t (On_table o) = Suits n t o
  Fits n t (On_desk made) = Unit {0}

  item_fits : (n : ℕ) (t : TablePart K V) (ids : Option (List (ℕ × ℕ))) (item : Item K V E) (rest : List (Item K V E)) →
      times n t.committed + weigh may_write (item ∷ rest) ≤ 1 → Fits n t (access_for n ids item)
  item_fits n t ids (plan.Write key value moment) rest h = (refl, omega (arith, h))
  item_fits n t ids _ rest h = tt

  plan_fits : (n : ℕ) (t : TablePart K V) (rules : Rules) (mode : Mode) (p : List (Item K V E))
      (aborts : ℕ) (ids : Option (List (ℕ × ℕ))) →
      times n t.committed + weigh may_write p ≤ 1 →
      Fits n t (access_of n (record { rules = rules; mode = mode; plan = p; aborts = aborts; carried = ids }))
  plan_fits n t rules mode [] aborts ids h = tt
  plan_fits n t rules mode (item ∷ rest) aborts ids h = item_fits n t ids item rest h

  pub step_fits : (s : State K V E) (n : ℕ) (c : Call K V E) → IsBalanced s → s.calls n ≡ Some c →
      Fits n s.world.table (access_of n c)
  step_fits s n c b live = plan_fits n s.world.table c.rules c.mode c.plan c.aborts c.carried
      (b.unspent n c live)

module _ {K V : Type 0} (eq : K → K → Bool) where
  -- each stamp was committed, and stands under one key
  record Stamped (t : TablePart K V) : Type 0 where
    named : (q : K) (p : K × Stored V) → t.stored q ≡ Some p → 0 < times p.1.stamp t.committed
    one : (q r : K) (p o : K × Stored V) → t.stored q ≡ Some p → t.stored r ≡ Some o → p.1.stamp ≡
        o.1.stamp → eq q r ≡ true

  -- what a key has once something was put at one
  pub key_cases : (f : K → Option (K × Stored V)) (k : K) (v : Option (K × Stored V)) (q : K)
      (p : K × Stored V) (P : Type 0) →
      put_key eq f k v q ≡ Some p → (eq k q ≡ true → v ≡ Some p → P) →
      (eq k q ≡ false → f q ≡ Some p → P) → P
  key_cases f k v q p P e here there = by (eq k q) refl e
    where
      by : (b : Bool) → eq k q ≡ b → cond b v (f q) ≡ Some p → P
      by true is e = here is e
      by false is e = there is e

  -- the pair that stands so
  pub pair_of : (o : Option (K × Stored V)) (stamp : ℕ) → IsSomeAnd o (λ p. p.1.stamp ≡ stamp) →
      (p : K × Stored V) × (o ≡ Some p) × (p.1.stamp ≡ stamp)
  pair_of None stamp h = absurd h
  pair_of (Some p) stamp h = (p, refl, h)

  -- the stamp was committed, and no record of it is stored any more
  pub record IsPast (x : ℕ) (t : TablePart K V) : Type 0 where
    pub was : 0 < times x t.committed
    pub gone : (q : K) (p : K × Stored V) → t.stored q ≡ Some p → p.1.stamp ≡ x → ⊥

  module _ (laws : IsEquivalence eq) (n : ℕ) (t : TablePart K V) (i : Stamped t) where
    written_stamped : (key : K) (stored : Stored V) → stored.stamp ≡ n → times n t.committed ≡ 0 →
        Stamped (written eq n t key stored)
    written_stamped key stored is none = record {
      named = λ q p e. key_cases t.stored key (Some (key, stored)) q p
          (0 < times p.1.stamp (t.committed ++ n ∷ [])) e
          (λ here f. subst (λ v. 0 < times v (t.committed ++ n ∷ [])) (sym (own p f))
          (now_times n t.committed))
          (λ there f. more_times p.1.stamp n t.committed (i.named q p f));
      one = λ q r p o e f same. key_cases t.stored key (Some (key, stored)) q p (eq q r ≡ true) e
          (λ here g. key_cases t.stored key (Some (key, stored)) r o (eq q r ≡ true) f
          (λ also k. sym (laws.congr key q r here) ∙ also)
          (λ there k. absurd (fresh r o k (sym same ∙ own p g))))
          (λ apart g. key_cases t.stored key (Some (key, stored)) r o (eq q r ≡ true) f
          (λ here k. absurd (fresh q p g (same ∙ own o k))) (λ there k. i.one q r p o g k same));
    }
      where
        own : (p : K × Stored V) → Some (key, stored) ≡ Some p → p.1.stamp ≡ n
        own p e = ap (λ (v : K × Stored V). v.1.stamp) (sym (some_same e)) ∙ is

        fresh : (q : K) (p : K × Stored V) → t.stored q ≡ Some p → p.1.stamp ≡ n → ⊥
        fresh q p e f = let k = i.named q p e in omega
            (arith, k, none, ap (λ v. times v t.committed) f)

    removed_stamped : (key : K) → Stamped (removed eq n t key)
    removed_stamped key = record {
      named = λ q p e. key_cases t.stored key None q p
          (0 < times p.1.stamp (t.committed ++ n ∷ [])) e (λ here f. absurd (none_some f))
          (λ there f. more_times p.1.stamp n t.committed (i.named q p f));
      one = λ q r p o e f same. key_cases t.stored key None q p (eq q r ≡ true) e
          (λ here g. absurd (none_some g))
          (λ apart g. key_cases t.stored key None r o (eq q r ≡ true) f
          (λ here k. absurd (none_some k)) (λ there k. i.one q r p o g k same));
    }

    operation_stamped : (o : TableOp K V) (answer : TableAnswer K V) (new : TablePart K V) →
        Operates eq n t o answer new →
        Suits n t o → Stamped new
    operation_stamped (op.Get key) answer new h f = subst Stamped (sym h.1) i
    operation_stamped (op.InsertOrModify key stored) answer new h f = subst Stamped (sym h.1)
        (written_stamped key stored f.0 f.1)
    operation_stamped (op.InsertIfAbsent key stored) answer new h f = absurd f
    operation_stamped (op.Keys part) answer new h f = subst Stamped (sym h.5) (record { named = i.named; one = i.one })
    operation_stamped (op.RemoveIf key stamp) answer new h f = subst Stamped (sym h.1)
        (by (taken_by stamp (t.stored key)))
      where
        by : (out : Option (K × Stored V)) → Stamped (by_pair out (removed eq n t key) t)
        by None = i
        by (Some pair) = removed_stamped key

  past_operation : (n x : ℕ) (t : TablePart K V) (i : IsPast x t) (o : TableOp K V)
      (answer : TableAnswer K V) (new : TablePart K V) →
      Operates eq n t o answer new → Suits n t o → IsPast x new
  past_operation n x t i (op.Get key) answer new h f = subst (IsPast x) (sym h.1) i
  past_operation n x t i (op.InsertOrModify key stored) answer new h f = subst (IsPast x) (sym h.1)
      (record {
        was = more_times x n t.committed i.was;
        gone = λ q p e same. key_cases t.stored key (Some (key, stored)) q p ⊥ e
            (λ here g.
            let is : n ≡ x = sym f.0 ∙ ap (λ (v : K × Stored V). v.1.stamp) (some_same g) ∙ same in
            omega (arith, i.was, f.1, ap (λ v. times v t.committed) is))
            (λ there g. i.gone q p g same);
      })
  past_operation n x t i (op.InsertIfAbsent key stored) answer new h f = absurd f
  past_operation n x t i (op.Keys part) answer new h f = subst (IsPast x) (sym h.5) (record { was = i.was; gone = i.gone })
  past_operation n x t i (op.RemoveIf key stamp) answer new h f = subst (IsPast x) (sym h.1)
      (by (taken_by stamp (t.stored key)))
    where
      by : (out : Option (K × Stored V)) → IsPast x (by_pair out (removed eq n t key) t)
      by None = i
      by (Some pair) = record {
        was = more_times x n t.committed i.was;
        gone = λ q p e same. key_cases t.stored key None q p ⊥ e (λ here g. none_some g)
            (λ there g. i.gone q p g same);
      }

module _ {K V E : Type 0} (eq : K → K → Bool) where
  access_stamped : IsEquivalence eq → (n : ℕ) (w new : World K V E) (a : Access K V E) (g : Got K V E) →
      Gets eq n w a g new →
      Fits n w.table a → Stamped eq w.table → Stamped eq new.table
  access_stamped laws n w new (On_table o) (got.Table table.Going) gets f i = subst
      (λ (v : World K V E). Stamped eq v.table) (sym gets.1) (record { named = i.named; one = i.one })
  access_stamped laws n w new (On_table o) (got.Table (table.Decided answer)) gets f i =
      subst (λ (v : World K V E). Stamped eq v.table) (sym gets.2)
      (operation_stamped eq laws n (begun w.table n o) (record { named = i.named; one = i.one }) o answer gets.0 gets.1
      (begun_suits n w.table o f))
  access_stamped laws n w new (On_desk made) (got.Desk g) gets f i = subst
      (λ (v : World K V E). Stamped eq v.table) (sym gets.1) i
  access_stamped laws n w new (On_table o) (got.Desk g) gets f i = absurd gets
  access_stamped laws n w new (On_desk made) (got.Table turn) gets f i = absurd gets

  -- ---- of a state

  pub record IsStamped (s : State K V E) : Type 0 where
    pub balanced : IsBalanced s
    stamped : Stamped eq s.world.table

  pub stamped_kept : IsEquivalence eq → IsInvariant eq IsStamped
  stamped_kept laws = record {
    fresh = λ division divides rules size built has_log. record {
      balanced = (balanced_kept eq).fresh division divides rules size built has_log;
      stamped = record {
        named = λ q p e. absurd (none_some e);
        one = λ q r p o e f same. absurd
            (none_some e);
      };
    };
    at = λ s moment i. record {
      balanced = (balanced_kept eq).at s moment i.balanced;
      stamped =
          i.stamped;
    };
    start = λ s start i. record {
      balanced = (balanced_kept eq).start s start i.balanced;
      stamped =
          i.stamped;
    };
    step = λ s t n turn i step. record {
      balanced = (balanced_kept eq).step s t n turn i.balanced step;
      stamped = subst (λ (v : State K V E). Stamped eq v.world.table) (sym step.after)
          (access_stamped laws n s.world step.world (access_of n step.call) step.given step.gets
          (step_fits s n step.call i.balanced step.live) i.stamped);
    };
    tell = λ s n given asked i. record
        { balanced = (balanced_kept eq).tell s n given asked i.balanced; stamped = i.stamped };
    hear = λ s n off running i. record
        { balanced = (balanced_kept eq).hear s n off running i.balanced; stamped = i.stamped };
    drop = λ s n c live between i. record
        { balanced = (balanced_kept eq).drop s n c live between i.balanced; stamped = i.stamped };
  }

  pub stamps_one : IsEquivalence eq → StampsAreOne K V E eq
  stamps_one laws s stamp q r h a b =
      let i : IsStamped s = in_reached eq IsStamped (stamped_kept laws) s h in
      let p = pair_of eq (s.world.table.stored q) stamp a in
      let o = pair_of eq (s.world.table.stored r) stamp b in
      i.stamped.one q r p.0 o.0 p.1 o.1 (p.2 ∙ sym o.2)

  -- ---- a record that was taken out

  -- so is it for the pair that a removal takes out
  pub removed_past : (s : State K V E) (n : ℕ) (key : K) (pair : K × Stored V) → IsStamped s →
      s.world.table.stored key ≡ Some pair →
      IsPast eq pair.1.stamp (removed eq n s.world.table key)
  removed_past s n key pair i e = record {
    was = more_times pair.1.stamp n s.world.table.committed (i.stamped.named key pair e);
    gone = λ q p f same. key_cases eq s.world.table.stored key None q p ⊥ f (λ here g. none_some g)
        (λ there g. false≢true (sym there ∙ i.stamped.one key q pair p e g (sym same)));
  }

  past_access : (n x : ℕ) (w new : World K V E) (a : Access K V E) (g : Got K V E) → Gets eq n w a g new →
      Fits n w.table a → IsPast eq x w.table →
      IsPast eq x new.table
  past_access n x w new (On_table o) (got.Table table.Going) gets f i = subst
      (λ (v : World K V E). IsPast eq x v.table) (sym gets.1) (record { was = i.was; gone = i.gone })
  past_access n x w new (On_table o) (got.Table (table.Decided answer)) gets f i =
      subst (λ (v : World K V E). IsPast eq x v.table) (sym gets.2)
      (past_operation eq n x (begun w.table n o) (record { was = i.was; gone = i.gone }) o answer gets.0 gets.1
      (begun_suits n w.table o f))
  past_access n x w new (On_desk made) (got.Desk g) gets f i = subst
      (λ (v : World K V E). IsPast eq x v.table) (sym gets.1) i
  past_access n x w new (On_table o) (got.Desk g) gets f i = absurd gets
  past_access n x w new (On_desk made) (got.Table turn) gets f i = absurd gets

  -- and it stays so
  pub past_step : (s t : State K V E) (n x : ℕ) (turn : Turn K V E) → IsBalanced s →
      IsPast eq x s.world.table → Step eq s n turn t → IsPast eq x t.world.table
  past_step s t n x turn b i step =
      subst (λ (v : State K V E). IsPast eq x v.world.table) (sym step.after)
      (past_access n x s.world step.world (access_of n step.call) step.given step.gets
      (step_fits s n step.call b step.live) i)
