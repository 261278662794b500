-- The count of stored keys: no list of different stored keys is longer.
use Rattle.std.proofs.Common.{◌≡◌, ℕ, suc, ◌+◌, ◌≤◌, Bool, true, false, cond, List, [], ◌∷◌, length, Option, Some, None, is_some, IsSome, refl, sym, ap, ◌∙◌, subst, arith}
use Rattle.std.specs.Cmp.{IsEquivalence}
use Rattle.std.specs.List.{AllByRecursion, IsDistinct}
use Rattle.std.proofs.lemmas.Bool.{false≢true}
use Rattle.moka_hist.specs.Finite.{put_key}
use Rattle.moka_hist.specs.State.{State, World, TablePart}
use Rattle.moka_hist.specs.Run.{IsReached}
use Rattle.moka_hist.specs.Step.{Access, Gets, Step, access_of}
use Rattle.moka_hist.specs.Step as step
use Rattle.moka_hist.specs.Tables.{Operates, begun, by_pair, removed, taken_by, written}
use Rattle.moka_hist.specs.declared.accesses.Got.{Got}
use Rattle.moka_hist.specs.declared.accesses.Got.TheVariants as got
use Rattle.moka_hist.specs.declared.accesses.Turn.{Turn}
use Rattle.moka_hist.specs.declared.records.Stored.{Stored}
use Rattle.moka_hist.specs.declared.tables.TableAnswer.{TableAnswer}
use Rattle.moka_hist.specs.declared.tables.TableOp.{TableOp}
use Rattle.moka_hist.specs.declared.tables.TableOp.TheVariants as op
use Rattle.moka_hist.specs.declared.tables.TableTurn.TheVariants as table
use Rattle.moka_laws.specs.OwnKeys.{StoredAreCounted}
use Rattle.moka_laws.proofs.Counting.{none_some}
use Rattle.moka_laws.proofs.Kept.{IsInvariant, in_reached}

module _ {K : Type 0} where
  pub all_more : (P Q : K → Type 0) → ((q : K) → P q → Q q) → (ks : List K) → AllByRecursion P ks → AllByRecursion Q ks
  all_more P Q f [] h = tt
  all_more P Q f (k ∷ ks) h = (f k h.0, all_more P Q f ks h.1)

  pub all_both : (P Q : K → Type 0) (ks : List K) → AllByRecursion P ks → AllByRecursion Q ks → AllByRecursion (λ q. P q × Q q) ks
  all_both P Q [] h i = tt
  all_both P Q (k ∷ ks) h i = ((h.0, i.0), all_both P Q ks h.1 i.1)

module _ {K : Type 0} (eq : K → K → Bool) (laws : IsEquivalence eq) (key : K) where
  -- the keys but for those that equal this one
  unfoldable without : List K → List K
  without [] = []
  without (x ∷ xs) = cond (eq key x) (without xs) (x ∷ without xs)

  all_without : (P : K → Type 0) (ks : List K) → AllByRecursion P ks → AllByRecursion P (without ks)
  unfolding without
  all_without P [] h = tt
  all_without P (x ∷ xs) h = by (eq key x) (all_without P xs h.1)
    where
      by : (b : Bool) → AllByRecursion P (without xs) → AllByRecursion P (cond b (without xs) (x ∷ without xs))
      by true rest = rest
      by false rest = (h.0, rest)

  distinct_without : (ks : List K) → IsDistinct eq ks → IsDistinct eq (without ks)
  unfolding without IsDistinct
  distinct_without [] d = tt
  distinct_without (x ∷ xs) d = by (eq key x) (distinct_without xs d.1)
    where
      by : (b : Bool) → IsDistinct eq (without xs) → IsDistinct eq (cond b (without xs) (x ∷ without xs))
      by true rest = rest
      by false rest = (all_without (λ y. eq x y ≡ false) xs d.0, rest)

  -- none of them equals it
  other_without : (ks : List K) → AllByRecursion (λ q. eq key q ≡ false) (without ks)
  unfolding without
  other_without [] = tt
  other_without (x ∷ xs) = by (eq key x) refl (other_without xs)
    where
      by : (b : Bool) → eq key x ≡ b → AllByRecursion (λ q. eq key q ≡ false) (without xs) →
          AllByRecursion (λ q. eq key q ≡ false) (cond b (without xs) (x ∷ without xs))
      by true e rest = rest
      by false e rest = (e, rest)

  -- where none equals it, all are left
  none_without : (ks : List K) → AllByRecursion (λ q. eq key q ≡ false) ks → length ks ≤ length (without ks)
  unfolding without
  none_without [] h = omega arith
  none_without (x ∷ xs) h = by (eq key x) h.0 (none_without xs h.1)
    where
      by : (b : Bool) → b ≡ false → length xs ≤ length (without xs) → suc (length xs) ≤ length (cond b (without xs) (x ∷ without xs))
      by true e rest = absurd (false≢true (sym e))
      by false e rest = omega (arith, rest)

  -- a key that equals the one differs from those from which an equal one differs
  alike_differs : (x : K) → eq key x ≡ true → (q : K) → eq x q ≡ false → eq key q ≡ false
  alike_differs x e q d = laws.congr key x q e ∙ d

  one_without : (ks : List K) → IsDistinct eq ks → length ks ≤ length (without ks) + 1
  unfolding without IsDistinct
  one_without [] d = omega arith
  one_without (x ∷ xs) d = by (eq key x) refl (one_without xs d.1)
    where
      by : (b : Bool) → eq key x ≡ b → length xs ≤ length (without xs) + 1 → suc (length xs) ≤ length (cond b (without xs) (x ∷ without xs)) + 1
      by true e rest = let m = none_without xs (all_more (λ y. eq x y ≡ false) (λ y. eq key y ≡ false) (alike_differs x e) xs d.0) in omega (arith, m)
      by false e rest = omega (arith, rest)

module _ {K V : Type 0} (eq : K → K → Bool) where
  -- keys that are stored
  abbrev pub AreStored : TablePart K V → List K → Type 0
  AreStored t ks = AllByRecursion (λ q. IsSome (t.stored q)) ks

  -- equal keys have one record, and the table counts its keys
  pub record IsCounted (t : TablePart K V) : Type 0 where
    pub alike : (a b : K) → eq a b ≡ true → t.stored a ≡ t.stored b
    pub counts : (ks : List K) → IsDistinct eq ks → AreStored t ks → length ks ≤ t.keys

module _ {K V : Type 0} (eq : K → K → Bool) (laws : IsEquivalence eq) (n : ℕ) (t : TablePart K V) (i : IsCounted eq t) where
  -- what stands under equal keys once something was put under one
  put_alike : (key : K) (v : Option (K × Stored V)) (a b : K) → eq a b ≡ true → put_key eq t.stored key v a ≡ put_key eq t.stored key v b
  put_alike key v a b e =
      let same : eq key a ≡ eq key b = laws.symm key a ∙ laws.congr a b key e ∙ laws.symm b key in
      by (eq key a) (eq key b) same
    where
      by : (x y : Bool) → x ≡ y → cond x v (t.stored a) ≡ cond y v (t.stored b)
      by true true h = refl
      by false false h = i.alike a b e
      by true false h = absurd (false≢true (sym h))
      by false true h = absurd (false≢true h)

  -- what is stored then and doesn't equal the key was stored before
  other_stored : (key : K) (v : Option (K × Stored V)) (q : K) → IsSome (put_key eq t.stored key v q) × (eq key q ≡ false) → IsSome (t.stored q)
  other_stored key v q h = subst (λ b. IsSome (cond b v (t.stored q))) h.1 h.0

  written_counted : (key : K) (stored : Stored V) → IsCounted eq (written eq n t key stored)
  written_counted key stored = record { alike = put_alike key (Some (key, stored)); counts = λ ks d h. by (t.stored key) refl ks d h }
    where
      there : IsSome (t.stored key) → (q : K) → IsSome (put_key eq t.stored key (Some (key, stored)) q) → IsSome (t.stored q)
      there some q h = equal (eq key q) refl h
        where
          equal : (b : Bool) → eq key q ≡ b → IsSome (cond b (Some (key, stored)) (t.stored q)) → IsSome (t.stored q)
          equal true e h = subst IsSome (i.alike key q e) some
          equal false e h = h

      by : (o : Option (K × Stored V)) → t.stored key ≡ o → (ks : List K) → IsDistinct eq ks →
          AllByRecursion (λ q. IsSome (put_key eq t.stored key (Some (key, stored)) q)) ks → length ks ≤ cond (is_some o) t.keys (t.keys + 1)
      by (Some pair) e ks d h = i.counts ks d (all_more _ _ (there (ap is_some e)) ks h)
      by None e ks d h =
          let left = i.counts (without eq laws key ks) (distinct_without eq laws key ks d)
          (all_more _ _ (other_stored key (Some (key, stored))) (without eq laws key ks)
          (all_both _ _ (without eq laws key ks) (all_without eq laws key _ ks h) (other_without eq laws key ks))) in
          omega (arith, left, one_without eq laws key ks d)

  removed_counted : (key : K) → IsSome (t.stored key) → IsCounted eq (removed eq n t key)
  unfolding IsDistinct
  removed_counted key some = record {
    alike = put_alike key None;
    counts = λ ks d h. let more = i.counts (key ∷ ks) (differ ks d h) (some, all_more _ _ (was key) ks h) in omega (arith, more);
  }
    where
      was : (key q : K) → IsSome (put_key eq t.stored key None q) → IsSome (t.stored q)
      was key q h = by (eq key q) h
        where
          by : (b : Bool) → IsSome (cond b None (t.stored q)) → IsSome (t.stored q)
          by true h = absurd (false≢true h)
          by false h = h

      apart : (q : K) → IsSome (put_key eq t.stored key None q) → eq key q ≡ false
      apart q h = by (eq key q) refl h
        where
          by : (b : Bool) → eq key q ≡ b → IsSome (cond b None (t.stored q)) → eq key q ≡ false
          by true e h = absurd (false≢true h)
          by false e h = e

      differ : (ks : List K) → IsDistinct eq ks → AllByRecursion (λ q. IsSome (put_key eq t.stored key None q)) ks → IsDistinct eq (key ∷ ks)
      differ ks d h = (all_more _ _ apart ks h, d)

  operation_counted : (o : TableOp K V) (answer : TableAnswer K V) (new : TablePart K V) → Operates eq n t o answer new → IsCounted eq new
  operation_counted (op.Get key) answer new h = subst (IsCounted eq) (sym h.1) i
  operation_counted (op.InsertOrModify key stored) answer new h = subst (IsCounted eq) (sym h.1) (written_counted key stored)
  operation_counted (op.InsertIfAbsent key stored) answer new h = subst (IsCounted eq) (sym h.1) (by (t.stored key))
    where
      by : (o : Option (K × Stored V)) → IsCounted eq (by_pair o t (written eq n t key stored))
      by None = written_counted key stored
      by (Some pair) = i
  operation_counted (op.RemoveIf key stamp) answer new h = subst (IsCounted eq) (sym h.1) (by (taken_by stamp (t.stored key)) refl)
    where
      there : (o : Option (K × Stored V)) (pair : K × Stored V) → taken_by stamp o ≡ Some pair → IsSome o
      there None pair e = absurd (none_some e)
      there (Some found) pair e = refl

      by : (o : Option (K × Stored V)) → taken_by stamp (t.stored key) ≡ o → IsCounted eq (by_pair o (removed eq n t key) t)
      by None e = i
      by (Some pair) e = removed_counted key (there (t.stored key) pair e)
  operation_counted (op.Keys part) answer new h = subst (IsCounted eq) (sym h.5) (record { alike = i.alike; counts = i.counts })

module _ {K V E : Type 0} (eq : K → K → Bool) (laws : IsEquivalence eq) where
  access_counted : (n : ℕ) (w new : World K V E) (a : Access K V E) (g : Got K V E) → Gets eq n w a g new → IsCounted eq w.table → IsCounted eq new.table
  access_counted n w new (step.On_table o) (got.Table table.Going) gets i =
      subst (λ (v : World K V E). IsCounted eq v.table) (sym gets.1) (record { alike = i.alike; counts = i.counts })
  access_counted n w new (step.On_table o) (got.Table (table.Decided answer)) gets i =
      subst (λ (v : World K V E). IsCounted eq v.table) (sym gets.2)
      (operation_counted eq laws n (begun w.table n o) (record { alike = i.alike; counts = i.counts }) o answer gets.0 gets.1)
  access_counted n w new (step.On_desk made) (got.Desk found) gets i = subst (λ (v : World K V E). IsCounted eq v.table) (sym gets.1) i
  access_counted n w new _ _ gets i = absurd gets

  step_counted : (s t : State K V E) (n : ℕ) (turn : Turn K V E) → IsCounted eq s.world.table → Step eq s n turn t → IsCounted eq t.world.table
  step_counted s t n turn i h =
      subst (λ (v : State K V E). IsCounted eq v.world.table) (sym h.after)
      (access_counted n s.world h.world (access_of n h.call) h.given h.gets i)

  counted_kept : IsInvariant {K = K} {V = V} {E = E} eq (λ s. IsCounted eq s.world.table)
  counted_kept = record {
    fresh = λ division divides rules size built has_log. record { alike = λ a b e. refl; counts = none };
    at = λ s moment i. i;
    start = λ s start i. i;
    step = step_counted;
    tell = λ s n answer asked i. i;
    hear = λ s n off running i. i;
    drop = λ s n c live between i. i;
  }
    where
      none : (ks : List K) → IsDistinct eq ks → AllByRecursion (λ q. IsSome {T = K × Stored V} None) ks → length ks ≤ 0
      none [] d h = omega arith
      none (k ∷ ks) d h = absurd (false≢true h.0)

  pub reached_counted : (s : State K V E) → IsReached eq s → IsCounted eq s.world.table
  reached_counted s h = in_reached eq (λ v. IsCounted eq v.world.table) counted_kept s h

  pub stored_counted : StoredAreCounted K V E eq
  stored_counted s keys h distinct stored = (reached_counted s h).counts keys distinct stored
