-- When an insert answers what.
use Rattle.std.proofs.Common.{◌≡◌, ◌≢◌, ℕ, ◌<◌, Bool, true, false, cond, List, [], ◌∷◌, length, Option, Some, None, IsSome, is_some, Result, Ok, Err, IfOk, refl, sym, ap, ◌∙◌, subst}
use Rattle.std.specs.Prelude.{◌↔◌}
use Rattle.std.proofs.lemmas.Bool.{false≢true}
use Rattle.std.specs.Cmp.{IsEquivalence}
use Rattle.std.specs.Option.{option_or}
use Rattle.std.specs.declared.alloc.AllocError.{AllocError}
use Rattle.moka_words.specs.declared.words.Word.{Word}
use Rattle.moka_words.specs.declared.words.Word.TheVariants.{Empty, Live}
use Rattle.moka_words.specs.Words.{node_of, stored_in, word_at}
use Rattle.moka_words.specs.Arrays.{bucket_at}
use Rattle.moka_words.proofs.Probes.{comes_to_each}
use Rattle.moka_cht.specs.declared.node.Node.{Node}
use Rattle.moka_cht.specs.declared.insertion.Insertion.{Insertion}
use Rattle.moka_cht.specs.declared.insertion.Insertion.TheVariants.{Inserted, ReplacedTombstone, AlreadyPresent, NoFree}
use Rattle.moka_cht.specs.Nodes.{hash_in, node_at, own_key, pair_in}
use Rattle.moka_cht.specs.Probes.{AtPlace, PassesAll}
use Rattle.moka_cht.specs.Buckets.{Buckets, HasNoEmpty, IsHashOf, IsTable, at_key, filled, first_of, hash_for, pair_for, stored}
use denote.Ref.{Bor}
use Rattle.std.specs.Fn.{Mut}
use Rattle.moka_cht.specs.declared.probe.Aim.{Aim}
use Rattle.moka_cht.specs.declared.probe.Probe.{Probe}
use Rattle.moka_cht.specs.Calls.{AnswersPair, Exchanges, Inserts, KeepsPresent, Modifies, NeverPresent, Puts}
use Rattle.moka_cht.proofs.Lookups.{filled_none, passes_absent, stored_named, within_words}

option_none : {B : Type 0} (o p : Option B) → option_or o p ≡ None → (o ≡ None) × (p ≡ None)
option_none None p e = (refl, e)
option_none (Some x) p e = absurd cc

none_from : {A B C : Type 0} (f : A → Option B) (g : A → Option C) → ((x : A) → g x ≡ None → f x ≡ None) → (xs : List A) → first_of g xs ≡ None → first_of f xs ≡ None
none_from f g each [] e = refl
none_from f g each (x ∷ xs) e =
    let parts = option_none (g x) (first_of g xs) e in
    ap (λ o. option_or o (first_of f xs)) (each x parts.0) ∙ none_from f g each xs parts.1

module _ {K V : Type 0} (eq : K → K → Bool) where
  -- what has no bucket is not stored
  stored_filled : (b : Buckets K V) (q : K) → filled eq b q ≡ None → stored eq b q ≡ None
  stored_filled b q = none_from (pair_for eq b.nodes q) (hash_for eq b.nodes q) (λ w e. by w (stored_in w) refl e) b.words
    where
      by : (w : Word) (o : Option ℕ) → stored_in w ≡ o → hash_for eq b.nodes q w ≡ None → pair_for eq b.nodes q w ≡ None
      by w None is e = ap (at_key eq b.nodes q pair_in) is
      by w (Some n) is e = ap (at_key eq b.nodes q pair_in) is ∙ other (own_key eq b.nodes q n) refl
        where
          here : cond (own_key eq b.nodes q n) (Some (hash_in (node_at b.nodes n))) None ≡ None
          here = sym (ap (at_key eq b.nodes q (λ node. Some (hash_in node))) (stored_named w n is)) ∙ e

          other : (c : Bool) → own_key eq b.nodes q n ≡ c → cond (own_key eq b.nodes q n) (pair_in (node_at b.nodes n)) None ≡ None
          other false apart = ap (λ c. cond c (pair_in (node_at b.nodes n)) None) apart
          other true own = let some = sym (ap (λ c. cond c (Some (hash_in (node_at b.nodes n))) None) own) ∙ here in absurd cc

  -- a full array has neither a bucket of the key nor an Empty one
  abbrev IsFull : Buckets K V → K → Type 0
  IsFull old key = (filled eq old key ≡ None) × HasNoEmpty old

  abbrev IsDead : Buckets K V → K → Type 0
  IsDead old key = IsSome (filled eq old key) × (stored eq old key ≡ None)

  module _ (hash : ℕ) (key : K) (value : V) (present : K × V → V → Buckets K V → Type 0) (old new : Buckets K V) where
    exactly_full : (r : Insertion V) → Inserts eq hash key value present old r new → ((v : V) × (r ≡ NoFree v)) ↔ IsFull old key
    exactly_full Inserted (none, puts, (n, exchanges)) =
        (λ (v, e). absurd cc, λ (absent, full). absurd (full exchanges.index (within_words old.words exchanges.index Empty exchanges.effect.0 (λ e. cc)) exchanges.effect.0))
    exactly_full ReplacedTombstone (some, none, rest, more) = (λ (v, e). absurd cc, λ (absent, full). absurd (false≢true (sym (ap is_some absent) ∙ some)))
    exactly_full (AlreadyPresent x) (pair, is, rest) = (λ (v, e). absurd cc, λ (absent, full). absurd (let none = stored_filled old key absent in cc))
    exactly_full (NoFree x) (none, full, is, same) = (λ e. (none, full), λ e. (x, refl))

    exactly_dead : (r : Insertion V) → Inserts eq hash key value present old r new → (r ≡ ReplacedTombstone) ↔ IsDead old key
    exactly_dead Inserted (none, puts, (n, exchanges)) = (λ e. absurd cc, λ (some, none_stored). absurd (false≢true (sym (ap is_some none) ∙ some)))
    exactly_dead ReplacedTombstone (some, none, rest, more) = (λ e. (some, none), λ e. refl)
    exactly_dead (AlreadyPresent x) (pair, is, rest) = (λ e. absurd cc, λ (some, none_stored). absurd cc)
    exactly_dead (NoFree x) (none, full, is, same) = (λ e. absurd cc, λ (some, none_stored). absurd (false≢true (sym (ap is_some none) ∙ some)))

    pub full_ok : (r : Result (Insertion V) AllocError) → IfOk r (λ x. Inserts eq hash key value present old x new) → IfOk r (λ x. ((v : V) × (x ≡ NoFree v)) ↔ IsFull old key)
    full_ok (Ok x) h = exactly_full x h
    full_ok (Err e) h = h

    pub dead_ok : (r : Result (Insertion V) AllocError) → IfOk r (λ x. Inserts eq hash key value present old x new) → IfOk r (λ x. (x ≡ ReplacedTombstone) ↔ IsDead old key)
    dead_ok (Ok x) h = exactly_dead x h
    dead_ok (Err e) h = h

  -- a probe that has passed all buckets found none of the key, and none without a key
  pub passes_full : IsEquivalence eq → (b : Buckets K V) (words : List Word) (nodes : List (Node K V)) → record { words = words; nodes = nodes } ≡ b → (ws : List Word) → ws ≡ words → (ns : List (Node K V)) → ns ≡ nodes →
      IsTable eq words nodes → (q : K) (h : ℕ) → IsHashOf eq b q h → PassesAll (own_key eq ns q) ws h → IsFull b q
  passes_full laws b words nodes view ws words_are ns nodes_are table q h hashed passes =
      subst (λ x. IsFull x q) view
      (filled_none eq laws words nodes q (passes_absent eq laws words nodes table.array q h (subst (λ x. IsHashOf eq x q h) (sym view) hashed) here), no_empty)
    where
      here : PassesAll (own_key eq nodes q) words h
      here = subst (λ x. PassesAll (own_key eq x q) words h) nodes_are (subst (λ x. PassesAll (own_key eq ns q) x h) words_are passes)

      no_empty : (i : ℕ) → i < length words → word_at words i ≢ Empty
      no_empty i below empty =
          let (n, within, there) = comes_to_each (length words) h i below in
          let (m, named, other) = here n within in
          let none = ap node_of (ap (word_at words) there ∙ empty) in cc

  -- an insert that finds the key absent is one whatever it does of a present one
  pub absent_ok : (hash : ℕ) (key : K) (value : V) (present : K × V → V → Buckets K V → Type 0) (old new : Buckets K V) (r : Result (Insertion V) AllocError) →
      IfOk r (λ x. Inserts eq hash key value NeverPresent old x new) → IfOk r (λ x. Inserts eq hash key value present old x new)
  absent_ok hash key value present old new (Ok Inserted) h = h
  absent_ok hash key value present old new (Ok ReplacedTombstone) h = h
  absent_ok hash key value present old new (Ok (AlreadyPresent v)) h = absurd h.2
  absent_ok hash key value present old new (Ok (NoFree v)) h = h
  absent_ok hash key value present old new (Err e) h = h

  -- the insert that keeps what is present
  pub keeps_ok : (hash : ℕ) (key : K) (value : V) (is_clone : V → V → Type 0) (old : Buckets K V) (node : Node K V) → ((pair : K × V) → pair_in node ≡ Some pair → stored eq old key ≡ Some pair) → (r : Result (Insertion V) AllocError) →
      IfOk r (λ x. (pair : K × V) × (v : V) × (pair_in node ≡ Some pair) × is_clone pair.1 v × (x ≡ AlreadyPresent v)) →
      IfOk r (λ x. Inserts eq hash key value (KeepsPresent is_clone old) old x old)
  keeps_ok hash key value is_clone old node found (Ok x) (pair, v, pair_is, clone, is) = subst (λ y. Inserts eq hash key value (KeepsPresent is_clone old) old y old) (sym is) (pair, found pair pair_is, (clone, refl))
  keeps_ok hash key value is_clone old node found (Err e) h = h

  -- the one that stores what the modifier makes of it
  pub modifies_ok : {F : Type 0} (g : Mut F (Bor K × (Bor V × Unit {0})) V) (f : F) (hash : ℕ) (key : K) (value modified : V) (old new : Buckets K V) (stands : K × V) → stored eq old key ≡ Some stands → AnswersPair g f stands.0 stands.1 modified →
      (r : Result (Insertion V) AllocError) →
      IfOk r (λ x. (pair : K × V) × (stored eq old key ≡ Some pair) × (x ≡ AlreadyPresent pair.1) × Puts eq hash key modified old new × ((m n : ℕ) × Exchanges eq key (Live m) (Live n) old new)) →
      IfOk r (λ x. Inserts eq hash key value (Modifies g f eq hash key old) old x new)
  modifies_ok g f hash key value modified old new stands here answers (Ok x) (pair, pair_is, is, puts, exchanges) =
      let same : stands ≡ pair = cc in
      subst (λ y. Inserts eq hash key value (Modifies g f eq hash key old) old y new) (sym is)
      (pair, pair_is, (refl, (modified, subst (λ p. AnswersPair g f p.0 p.1 modified) same answers, puts), exchanges))
  modifies_ok g f hash key value modified old new stands here answers (Err e) h = h

  -- the place, in the array as it is seen
  pub place_seen : (b : Buckets K V) (words : List Word) (nodes : List (Node K V)) → record { words = words; nodes = nodes } ≡ b → (ws : List Word) → ws ≡ words → (ns : List (Node K V)) → ns ≡ nodes →
      (q : K) (aim : Aim) (h : ℕ) (p : Probe) → AtPlace (own_key eq ns q) ws aim h p → AtPlace (own_key eq b.nodes q) b.words aim h p
  place_seen b words nodes view ws words_are ns nodes_are q aim h p place =
      subst (λ x. AtPlace (own_key eq x.nodes q) x.words aim h p) view
      (subst (λ x. AtPlace (own_key eq x q) words aim h p) nodes_are (subst (λ x. AtPlace (own_key eq ns q) x aim h p) words_are place))
