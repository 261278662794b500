-- Lists of keys, and what becomes of them as a call goes on.
use Rattle.std.proofs.Common.{◌≡◌, ℕ, Bool, true, false, List, [], ◌∷◌, ◌++◌, Option, None, Some, zero, suc, if◌then◌else◌, inl, inr, Result, Ok, Err, OnErr, refl, sym, ap, subst, ◌∙◌, ◌||◌, arith}
use Rattle.std.specs.Prelude.{All}
use Rattle.std.proofs.lemmas.Bool.{cases_eq}
use Rattle.std.proofs.lemmas.Grind.{flat_map-append}
use Rattle.std.proofs.lemmas.List.Elements.{All-cons, All-nil}
use Rattle.std.specs.List.{slice_get, list_any, IsDistinct, AllByRecursion}
use Rattle.std.specs.Option.{option_map, option_map_or, option_to_list}
use Rattle.std.specs.declared.alloc.AllocError.{AllocError}
use Rattle.moka_hist.specs.declared.records.Stored.{Stored}
use Rattle.moka_words.specs.declared.accesses.Access.{Access}
use Rattle.moka_words.specs.declared.words.Word.{Word}
use Rattle.moka_words.specs.Words.{is_sealed, stored_in}
use Rattle.moka_words.specs.Effect.{Memory}
use Rattle.moka_buckets.specs.declared.keys_call.KeysCall.{KeysCall}
use Rattle.moka_buckets.specs.declared.node.Node.{Node}
use Rattle.moka_buckets.specs.declared.part.Part.{Part}
use Rattle.moka_buckets.specs.Accesses.{GrowsByOne, IsAsBefore, MovesOnce}
use Rattle.moka_buckets.specs.Keys.{FitsKeys, keys_in, nodes_of, word_over}
use Rattle.moka_buckets.specs.Listed.{keys_at}
use Rattle.moka_buckets.specs.Nodes.{key_in, pair_at}
use Rattle.moka_buckets.specs.Parts.{memory_at, peak_at}
use Rattle.moka_buckets.specs.Walks.{AreNodes, carried, listed_by, node_next}
use Rattle.moka_buckets.proofs.Elsewhere.{named_by}
use Rattle.moka_buckets.proofs.Kept.{key_more}

no_item : {A : Type 0} {x : A} → None ≡ Some x → ⊥
no_item e = cc

one_item : {A : Type 0} {x y : A} → Some x ≡ Some y → x ≡ y
one_item e = cc

module _ {A : Type 0} where
  pub all_at : (P : A → Type 0) (xs : List A) → ((x : ℕ) (a : A) → slice_get xs x ≡ Some a → P a) → All P xs
  all_at P [] f = All-nil P
  all_at P (a ∷ xs) f = All-cons P a xs (f 0 a refl) (all_at P xs (λ x b e. f (suc x) b e))

  all_rec : (P : A → Type 0) (xs : List A) → ((x : ℕ) (a : A) → slice_get xs x ≡ Some a → P a) → AllByRecursion P xs
  all_rec P [] f = tt
  all_rec P (a ∷ xs) f = (f 0 a refl, all_rec P xs (λ x b e. f (suc x) b e))

  pub any_at : (p : A → Bool) (xs : List A) (x : ℕ) (a : A) → slice_get xs x ≡ Some a → p a ≡ true → list_any p xs ≡ true
  any_at p [] x a e t = absurd (no_item e)
  any_at p (y ∷ ys) zero a e t = ap (λ b. b || list_any p ys) (ap p (one_item e) ∙ t)
  any_at p (y ∷ ys) (suc x) a e t = by (p y) (any_at p ys x a e t)
    where
      by : (b : Bool) → list_any p ys ≡ true → (b || list_any p ys) ≡ true
      by true f = refl
      by false f = f

  -- no two of them are equal, if those at two places aren't
  pub distinct_at : (eq : A → A → Bool) (ks : List A) →
      ((x y : ℕ) (k l : A) → slice_get ks x ≡ Some k → slice_get ks y ≡ Some l → eq k l ≡ true → x ≡ y) → IsDistinct eq ks
  unfolding IsDistinct
  distinct_at eq [] differ = tt
  distinct_at eq (k ∷ ks) differ = (
    all_rec (λ l. eq k l ≡ false) ks (λ y l e. apart y l e (eq k l) refl),
    distinct_at eq ks (λ x y a b e f same. let next = differ (suc x) (suc y) a b e f same in omega (arith, next)),
  )
    where
      apart : (y : ℕ) (l : A) → slice_get ks y ≡ Some l → (t : Bool) → eq k l ≡ t → eq k l ≡ false
      apart y l e false same = same
      apart y l e true same = let next = differ 0 (suc y) k l refl e same in absurd (omega (arith, next))

  front : (xs ys : List A) (n : ℕ) (x : A) → slice_get xs n ≡ Some x → slice_get (xs ++ ys) n ≡ Some x
  front [] ys n x e = absurd (no_item e)
  front (y ∷ xs) ys zero x e = e
  front (y ∷ xs) ys (suc n) x e = front xs ys n x e

module _ {K V : Type 0} (nodes : List (Node K V)) where
  node_keys : (o : Option ℕ) → keys_in nodes (option_to_list o) ≡ option_to_list (option_map (λ p. p.0) (pair_at nodes o))
  node_keys None = refl
  node_keys (Some n) = by (slice_get nodes n)
    where
      by : (x : Option (Node K V)) → (option_to_list (option_map (λ node. node.key) x) ++ []) ≡
          option_to_list (option_map (λ p. p.0) (option_map {U = K × Stored V} (λ node. (node.key, node.stored)) x))
      by None = refl
      by (Some node) = refl

  -- the keys of a list after a step
  pub keys_carried : (ns : List ℕ) (word : Option Word) →
      keys_in nodes (carried ns word (node_next word)) ≡ carried (keys_in nodes ns) word (option_map_or (keys_at nodes) word [])
  keys_carried ns None = refl
  keys_carried ns (Some w) = by (is_sealed w)
    where
      by : (b : Bool) → keys_in nodes (if b then [] else ns ++ option_to_list (stored_in w)) ≡ (if b then [] else keys_in nodes ns ++ keys_at nodes w)
      by true = refl
      by false = flat_map-append (λ n. option_to_list (key_in nodes n)) ns (option_to_list (stored_in w))
          ∙ ap (λ ks. keys_in nodes ns ++ ks) (node_keys (stored_in w))

-- the keys of a list after a step, by the word that it listed
pub follows : {K V : Type 0} (old new : List (Part K V)) (before call : KeysCall) → call.segment ≡ before.segment → ((i : ℕ) → nodes_of new i ≡ nodes_of old i) →
    (word : Option Word) → word ≡ word_over old before → (key : Option K) →
    option_to_list key ≡ option_map_or (keys_at (nodes_of old before.segment)) word [] →
    listed_by call.table ≡ carried (listed_by before.table) (word_over old before) (node_next (word_over old before)) →
    (had : List K) → had ≡ keys_in (nodes_of old before.segment) (listed_by before.table) → (has : List K) → has ≡ carried had word (option_to_list key) →
    has ≡ keys_in (nodes_of new call.segment) (listed_by call.table)
follows old new before call segment nodes word word_is key key_is adds had had_is has is =
    let ns = nodes_of old before.segment in
    let listed = listed_by before.table in
    is ∙ (ap (λ ks. carried ks word (option_to_list key)) had_is
    ∙ (ap (λ ks. carried (keys_in ns listed) word ks) key_is
    ∙ (sym (keys_carried ns listed word)
    ∙ (ap (λ w. keys_in ns (carried listed w (node_next w))) word_is
    ∙ (sym (ap (keys_in ns) adds)
    ∙ (ap (λ xs. keys_in xs (listed_by call.table)) (sym (nodes before.segment))
    ∙ ap (λ i. keys_in (nodes_of new i) (listed_by call.table)) (sym segment)))))))

module _ {K V : Type 0} (eq : K → K → Bool) (hash : K → ℕ) where
  -- nodes that are made change no key that was listed
  keys_more : (nodes more : List (Node K V)) → GrowsByOne nodes more → (ns : List ℕ) → AreNodes nodes ns → keys_in more ns ≡ keys_in nodes ns
  keys_more nodes more grows [] named = refl
  keys_more nodes more grows (n ∷ ns) named =
      ap (λ o. option_to_list o ++ keys_in more ns) (key_more eq hash nodes more longer n (named 0 n refl))
      ∙ ap (λ ks. option_to_list (key_in nodes n) ++ ks) (keys_more nodes more grows ns (λ x m e. named (suc x) m e))
    where
      longer : (m : ℕ) (node : Node K V) → slice_get nodes m ≡ Some node → slice_get more m ≡ Some node
      longer m node e = ap (λ xs. slice_get xs m) grows.added ∙ front nodes grows.more m node e

  module _ {A : Type 0} (key : Option K) (wanted : Option Access) (segment : ℕ) (old new : List (Part K V)) where
    -- the keys that other calls have listed stay
    pub keys_kept : (gives : Result A AllocError) → MovesOnce eq hash key wanted segment gives old new → (c : KeysCall) → FitsKeys eq hash old c →
        keys_in (nodes_of new c.segment) (listed_by c.table) ≡ keys_in (nodes_of old c.segment) (listed_by c.table)
    keys_kept gives moves c (inr f) = ap (keys_in (nodes_of new c.segment)) none ∙ sym (ap (keys_in (nodes_of old c.segment)) none)
      where
        none : listed_by c.table ≡ []
        none = elim f.empty [ inl going ↦ ap listed_by going | inr done ↦ ap listed_by done ]
    keys_kept gives moves c (inl f) = elim (cases_eq c.segment segment) [
      | inl d ↦
          let own = moves.own f.part (subst (λ i. slice_get old i ≡ Some f.part) d f.there) in
          ap (λ o. keys_in (option_map_or (λ p. p.nodes.items) o []) (listed_by c.table)) (ap (slice_get new) d ∙ own.1)
          ∙ (keys_more f.part.nodes.items own.0.nodes.items own.2.grows (listed_by c.table) (named_by eq hash f.part c.table f.walks)
          ∙ sym (ap (λ o. keys_in (option_map_or (λ p. p.nodes.items) o []) (listed_by c.table)) f.there))
      | inr d ↦ ap (λ o. keys_in (option_map_or (λ p. p.nodes.items) o []) (listed_by c.table)) (moves.others c.segment d)
    ]

    -- without memory no segment has changed
    pub same_at : (gives : Result A AllocError) → MovesOnce eq hash key wanted segment gives old new →
        OnErr gives ((F : Memory → ℕ → ℕ) (i : ℕ) (p : Part K V) → slice_get old i ≡ Some p →
        option_map_or (λ x. F (memory_at x) (peak_at x)) (slice_get new i) 0 ≡ option_map_or (λ x. F (memory_at x) (peak_at x)) (slice_get old i) 0)
    same_at (Ok a) moves = tt
    same_at (Err e) moves = λ F i p there. elim (cases_eq i segment) [
      | inl d ↦
          let own = moves.own p (subst (λ j. slice_get old j ≡ Some p) d there) in
          let q = own.0 in
          let stays : IsAsBefore p q = own.2.err in
          ap (λ o. option_map_or (λ x. F (memory_at x) (peak_at x)) o 0) (ap (slice_get new) d ∙ own.1)
          ∙ (ap (λ m. F m (peak_at q)) stays.memory ∙ (ap (λ k. F (memory_at p) k) stays.peak
          ∙ sym (ap (λ o. option_map_or (λ x. F (memory_at x) (peak_at x)) o 0) there)))
      | inr d ↦ ap (λ o. option_map_or (λ x. F (memory_at x) (peak_at x)) o 0) (moves.others i d)
    ]
