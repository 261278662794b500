-- The node that is present under a key, and what becomes of it.
use Rattle.std.proofs.Common.{◌≡◌, ℕ, ◌<◌, Bool, true, false, cond, List, [], ◌∷◌, length, Option, Some, None, zero, suc, refl, sym, ap, subst, ◌∙◌, arith}
use Rattle.std.proofs.lemmas.Bool.{false≢true}
use Rattle.std.specs.List.{find, Contains, slice_index_or}
use Rattle.std.proofs.lemmas.List.Sorted.{IsPermutation-sym, Contains-permutation}
use Rattle.moka_words.specs.Later.{IsOwn}
use Rattle.moka_words.specs.Effect.{Memory, root, words_of}
use Rattle.moka_words.proofs.Laying.{stored_contains, contains_stored}
use Rattle.moka_growth.specs.Maps.{present_nodes, IsPresent, KeepsMap, Finds, ChangesMap}

some_one : {A : Type 0} {y x : A} → Some y ≡ Some x → y ≡ x
some_one d = cc

not_none : {A : Type 0} {x : A} → None ≡ Some x → ⊥
not_none d = cc

-- what is found is in the list and passes; where nothing is found, nothing passes
pub find_some : {A : Type 0} (test : A → Bool) (xs : List A) (x : A) → find test xs ≡ Some x → Contains xs x × (test x ≡ true)
find_some test [] x e = absurd (not_none e)
find_some {A} test (y ∷ ys) x e = by (find_some test ys x) (test y) refl e
  where
    by : (find test ys ≡ Some x → Contains ys x × (test x ≡ true)) → (b : Bool) → test y ≡ b → cond b (Some y) (find test ys) ≡ Some x → Contains (y ∷ ys) x × (test x ≡ true)
    by rest true is d = ((0, omega arith, some_one d), subst (λ z. test z ≡ true) (some_one d) is)
    by rest false is d = let later = rest d in ((suc later.0.0, omega (arith, later.0.1), later.0.2), later.1)

pub find_none : {A : Type 0} (test : A → Bool) (xs : List A) (x : A) → find test xs ≡ None → Contains xs x → test x ≡ false
find_none test [] x e (k, within, is) = absurd (omega arith)
find_none {A} test (y ∷ ys) x e (k, within, is) = by (find_none test ys x) (test y) refl e k within is
  where
    by : (find test ys ≡ None → Contains ys x → test x ≡ false) → (b : Bool) → test y ≡ b → cond b (Some y) (find test ys) ≡ None → (k : ℕ) → k < length (y ∷ ys) →
        slice_index_or (y ∷ ys) k x ≡ x → test x ≡ false
    by rest true nay d k h there = absurd (not_none (sym d))
    by rest false nay d zero h there = sym (ap test there) ∙ nay
    by rest false nay d (suc k) h there = rest d (k, omega (arith, h), there)

-- the node that the table finds is the one present
pub found_finds : (own : ℕ → Bool) (m : Memory) → Finds own m (find own (present_nodes m))
found_finds own m = by (find own (present_nodes m)) refl
  where
    by : (o : Option ℕ) → find own (present_nodes m) ≡ o → Finds own m o
    by None e = λ n p. find_none own (present_nodes m) n e (stored_contains (words_of m (root m)) p.0 n p.1)
    by (Some n) e = let is = find_some own (present_nodes m) n e in (contains_stored (words_of m (root m)) n is.0, is.1)

-- one alone is
pub finds_one : (same : ℕ → ℕ → Bool) (own : ℕ → Bool) (m : Memory) → IsOwn same own →
    ((n k : ℕ) → IsPresent m n → IsPresent m k → same n k ≡ true → n ≡ k) → (o p : Option ℕ) → Finds own m o → Finds own m p → o ≡ p
finds_one same own m one alone None None f g = refl
finds_one same own m one alone None (Some k) f g = absurd (false≢true (sym (f k g.0) ∙ g.1))
finds_one same own m one alone (Some n) None f g = absurd (false≢true (sym (g n f.0) ∙ f.1))
finds_one same own m one alone (Some n) (Some k) f g = ap Some (alone n k f.0 g.0 (one.one n k f.1 g.1))

present_kept : (old new : Memory) (n : ℕ) → KeepsMap old new → IsPresent old n → IsPresent new n
present_kept old new n keeps p = contains_stored (words_of new (root new)) n
    (Contains-permutation (present_nodes old) (present_nodes new) n keeps (stored_contains (words_of old (root old)) p.0 n p.1))

-- it stays where the map is kept
pub finds_kept : (own : ℕ → Bool) (old new : Memory) (o : Option ℕ) → KeepsMap old new → Finds own old o → Finds own new o
finds_kept own old new None keeps f = λ n p. f n (present_kept new old n (IsPermutation-sym (present_nodes old) (present_nodes new) keeps) p)
finds_kept own old new (Some n) keeps f = (present_kept old new n keeps f.0, f.1)

-- and where another key's is changed
pub finds_other : (own other : ℕ → Bool) (before after : Option ℕ) (old new : Memory) (o : Option ℕ) → ((n : ℕ) → other n ≡ true → own n ≡ false) →
    ChangesMap own before after old new → Finds other old o → Finds other new o
finds_other own other before after old new (Some n) apart changes f = ((changes.others n (apart n f.1)).0 f.0, f.1)
finds_other own other before after old new None apart changes f = λ n p. by n p (other n) refl
  where
    by : (n : ℕ) → IsPresent new n → (b : Bool) → other n ≡ b → other n ≡ false
    by n p false e = e
    by n p true e = absurd (false≢true (sym (f n ((changes.others n (apart n e)).1 p)) ∙ e))
