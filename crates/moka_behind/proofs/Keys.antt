-- The list of the stored keys as keys come and go.
use Rattle.std.proofs.Common.{◌≡◌, ◌≢◌, ℕ, ◌==◌, nat_eq, Bool, true, false, not, cond, ◌&&◌, ◌||◌, List, [], ◌∷◌, ◌++◌, Option, Some, None, is_some, refl, sym, ap, ◌∙◌}
use Rattle.std.proofs.lemmas.Bool.{eq-eqb, eqb-true, false≢true}
use Rattle.std.proofs.lemmas.List.Folds.{list_any-append}
use Rattle.std.proofs.lemmas.List.Kept.{AllPairs-filter}
use Rattle.std.proofs.lemmas.Map.Keys.{IsDistinct-push}
use Rattle.std.proofs.lemmas.Map.Made.{AllPairs-from_IsDistinct, IsDistinct-from_AllPairs, is_member-filter}
use Rattle.std.specs.Cmp.{nat_eq_equiv, unsigned_Decides}
use Rattle.std.specs.List.{IsDistinct, filter}
use Rattle.std.specs.Set.{is_member}
use Rattle.moka_behind.specs.Stored.{keys_after, keys_found, with_key, without_key}

-- whichever way round two numbers are compared
pub flip : (a b : ℕ) → (a == b) ≡ (b == a)
flip a b = by (a == b) (b == a) refl refl
  where
    by : (x y : Bool) → (a == b) ≡ x → (b == a) ≡ y → x ≡ y
    by true true e f = refl
    by false false e f = refl
    by true false e f = absurd (false≢true (sym f ∙ eq-eqb b a (sym (eqb-true a b e))))
    by false true e f = absurd (false≢true (sym e ∙ eq-eqb a b (sym (eqb-true b a f))))

added : (known : Bool) (key : ℕ) (keys : List ℕ) → is_member nat_eq keys key ≡ known →
    IsDistinct nat_eq keys → IsDistinct nat_eq (cond known keys (keys ++ key ∷ []))
added true key keys e d = d
added false key keys e d = IsDistinct-push nat_eq_equiv keys key d e

pub with_key-distinct : (key : ℕ) (keys : List ℕ) → IsDistinct nat_eq keys → IsDistinct nat_eq (with_key key keys)
with_key-distinct key keys d = added (is_member nat_eq keys key) key keys refl d

or_none : (b c : Bool) → (b || (c || false)) ≡ cond c true b
or_none true true = refl
or_none true false = refl
or_none false true = refl
or_none false false = refl

known_at : (b m : Bool) → (b ≡ true → m ≡ true) → m ≡ cond b true m
known_at true m h = h refl
known_at false m h = refl

members : (known : Bool) (key : ℕ) (keys : List ℕ) (q : ℕ) → is_member nat_eq keys key ≡ known →
    is_member nat_eq (cond known keys (keys ++ key ∷ [])) q ≡ cond (key == q) true (is_member nat_eq keys q)
members true key keys q e =
    known_at (key == q) (is_member nat_eq keys q) (λ h. ap (λ (k : ℕ). is_member nat_eq keys k) (sym (eqb-true key q h)) ∙ e)
members false key keys q e =
    list_any-append (nat_eq q) keys (key ∷ [])
    ∙ or_none (is_member nat_eq keys q) (q == key)
    ∙ ap (λ (b : Bool). cond b true (is_member nat_eq keys q)) (flip q key)

-- the key is among them, and so are the others
pub with_key-members : (key : ℕ) (keys : List ℕ) (q : ℕ) →
    is_member nat_eq (with_key key keys) q ≡ cond (key == q) true (is_member nat_eq keys q)
with_key-members key keys q = members (is_member nat_eq keys key) key keys q refl

pub without_key-distinct : (key : ℕ) (keys : List ℕ) → IsDistinct nat_eq keys → IsDistinct nat_eq (without_key key keys)
without_key-distinct key keys d =
    IsDistinct-from_AllPairs unsigned_Decides (filter (λ other. not (key == other)) keys)
    (AllPairs-filter (λ x y. x ≢ y) (λ other. not (key == other)) keys (AllPairs-from_IsDistinct unsigned_Decides keys d))

and_not : (b c : Bool) → (b && not c) ≡ cond c false b
and_not true true = refl
and_not true false = refl
and_not false true = refl
and_not false false = refl

-- the key isn't among them, and the others are
pub without_key-members : (key : ℕ) (keys : List ℕ) (q : ℕ) →
    is_member nat_eq (without_key key keys) q ≡ cond (key == q) false (is_member nat_eq keys q)
without_key-members key keys q =
    is_member-filter nat_eq_equiv (λ other. not (key == other)) q
    (λ x e. ap (λ (k : ℕ). not (key == k)) (eqb-true q x e)) keys
    ∙ and_not (is_member nat_eq keys q) (key == q)

pub keys_after-distinct : (key : ℕ) (value : Option ℕ) (keys : List ℕ) → IsDistinct nat_eq keys → IsDistinct nat_eq (keys_after key value keys)
keys_after-distinct key None keys d = without_key-distinct key keys d
keys_after-distinct key (Some value) keys d = with_key-distinct key keys d

some_at : (b : Bool) (v : ℕ) (o : Option ℕ) → is_some (cond b (Some v) o) ≡ cond b true (is_some o)
some_at true v o = refl
some_at false v o = refl

none_at : (b : Bool) (o : Option ℕ) → is_some (cond b None o) ≡ cond b false (is_some o)
none_at true o = refl
none_at false o = refl

-- the keys after a write are those of the map after it
pub keys_after-same : (key : ℕ) (value : Option ℕ) (keys : List ℕ) (q : ℕ) (had : Option ℕ) → is_some had ≡ is_member nat_eq keys q →
    is_some (cond (key == q) value had) ≡ is_member nat_eq (keys_after key value keys) q
keys_after-same key None keys q had e =
    none_at (key == q) had ∙ ap (λ (b : Bool). cond (key == q) false b) e ∙ sym (without_key-members key keys q)
keys_after-same key (Some value) keys q had e =
    some_at (key == q) value had ∙ ap (λ (b : Bool). cond (key == q) true b) e ∙ sym (with_key-members key keys q)

-- and after a get of a key that wasn't stored
pub keys_found-distinct : (key : ℕ) (found : Option ℕ) (keys : List ℕ) → IsDistinct nat_eq keys → IsDistinct nat_eq (keys_found key found keys)
keys_found-distinct key None keys d = d
keys_found-distinct key (Some value) keys d = with_key-distinct key keys d

absent_at : (b : Bool) (had : Option ℕ) (m : Bool) → (b ≡ true → had ≡ None) → is_some had ≡ m → is_some (cond b None had) ≡ m
absent_at true had m absent e = sym (ap is_some (absent refl)) ∙ e
absent_at false had m absent e = e

pub keys_found-same : (key : ℕ) (found : Option ℕ) (keys : List ℕ) (q : ℕ) (had : Option ℕ) → ((key == q) ≡ true → had ≡ None) →
    is_some had ≡ is_member nat_eq keys q →
    is_some (cond (key == q) found had) ≡ is_member nat_eq (keys_found key found keys) q
keys_found-same key None keys q had absent e = absent_at (key == q) had (is_member nat_eq keys q) absent e
keys_found-same key (Some value) keys q had absent e =
    some_at (key == q) value had ∙ ap (λ (b : Bool). cond (key == q) true b) e ∙ sym (with_key-members key keys q)
