-- The book of a table that was just opened keeps the rule.
use Rattle.std.proofs.Common.{◌≡◌, ◌⊎◌, ℕ, ◌+◌, ◌-◌, ◌*◌, ◌^◌, ◌<◌, ◌≤◌, Bool, true, false, if◌then◌else◌, cond, List, [], ◌∷◌, ◌++◌, map, length, replicate, Option, Some, None, zero, suc, inl, inr, refl, sym, ap, subst, ◌∙◌, arith, length-append}
use Rattle.std.proofs.lemmas.Bool.{cases_lt, eq-eqb, false≢true, le-ltb}
use Rattle.std.specs.Int.{IsPowerOfTwo}
use Rattle.std.specs.List.{slice_get, find, range_with_len}
use mathlib.Core.List.{IsPrefix}
use Rattle.moka_words.specs.declared.words.Word.{Word}
use Rattle.moka_words.specs.declared.words.Word.TheVariants.{Empty}
use Rattle.moka_words.specs.Words.{is_sealed, node_of, word_at}
use Rattle.moka_growth.specs.Maps.{present_nodes}
use Rattle.moka_pairs.specs.Keys.{hash_by, same_by, mine_by, own_by}
use Rattle.moka_pairs.specs.Pairs.{pair_at}
use Rattle.moka_history.specs.declared.note.Note.{Note}
use Rattle.moka_history.specs.declared.note.Note.TheVariants.{Opened}
use Rattle.moka_history.specs.States.{Owner, Door, Bucket, Ticket, Array, Row, Next, Root, State, first_keys, first_nexts, first_roots, memory_of, word_in, words_in}
use Rattle.moka_history.specs.Logs.{entries_of, state_of}
use Rattle.logbook.specs.Pages.{Cell}
use Rattle.moka_history.specs.Cells.{cell_of}
use Rattle.moka_history.specs.Rules.{keys_of, AreLinked, IsOwned, IsDrawn, IsGood, Lasts, IsFront, IsKept, Holds}
use Rattle.moka_history.specs.Keeping.{IsDivided}
use Rattle.moka_history.proofs.Beginning.{first_at, opened_is, placed, range_at, row_end, words_are}
use Rattle.moka_history.proofs.Lists.{no_item, one_item, first_get, front_get, prefix_more, prefix_through, unmap_get}
use Rattle.moka_history.proofs.Owners.{array_not_bucket, door_not_array, door_not_next, door_not_row, next_is_next, next_not_array, next_not_bucket, next_not_row, next_not_ticket, row_not_bucket}
use Rattle.moka_history.proofs.Resting.{lasts_same}
use Rattle.moka_history.proofs.Swung.{root_is_root, root_not_array, root_not_bucket, root_not_door, root_not_next, root_not_row, root_not_ticket}

door_not_bucket : {w : Word} → Bucket w ≡ Door → ⊥
door_not_bucket e = absurd (cc (e))

bucket_not_ticket : {w : Word} {n : ℕ} {b : Bool} → Bucket w ≡ Ticket n b → ⊥
bucket_not_ticket e = absurd (cc (e))

door_not_ticket : {n : ℕ} {b : Bool} → Door ≡ Ticket n b → ⊥
door_not_ticket e = absurd (cc (e))

bucket_not_array : {w : Word} {n : ℕ} {b : Bool} → Bucket w ≡ Array n b → ⊥
bucket_not_array e = array_not_bucket (sym e)

bucket_not_row : {w : Word} {n : ℕ} {b : Bool} → Bucket w ≡ Row n b → ⊥
bucket_not_row e = row_not_bucket (sym e)

-- the cells of buckets, and those after them
alike_at : {A : Type 0} (n k : ℕ) (x y : A) (more : List A) → slice_get (replicate n x ++ more) k ≡ Some y →
    (x ≡ y) ⊎ ((j : ℕ) × (k ≡ n + j) × (slice_get more j ≡ Some y))
alike_at zero k x y more e = inr (k, omega arith, e)
alike_at (suc n) zero x y more e = inl (one_item e)
alike_at (suc n) (suc k) x y more e = elim (alike_at n k x y more e) [
  | inl p ↦ inl p
  | inr p ↦ inr (p.0, (let at = p.1 in omega (arith, at)), p.2)
]

-- each of these names the array after a segment's first one: none
next_at : (segments j : ℕ) (o : Owner) → slice_get (first_nexts segments) j ≡ Some o → (j < segments) × (o ≡ Next (suc j) 0)
next_at segments j o e =
    let (i, at, is) = unmap_get (λ i. Next (suc i) 0) (range_with_len 0 segments) j o e in
    let (same, below) = range_at 0 segments j i at in
    let index : i ≡ j = omega (arith, same) in
    (below, is ∙ ap (λ m. Next (suc m) 0) index)

-- and each of these its root
root_at : (segments j : ℕ) (o : Owner) → slice_get (first_roots segments) j ≡ Some o → (j < segments) × (o ≡ Root j 0)
root_at segments j o e =
    let (i, at, is) = unmap_get (λ i. Root i 0) (range_with_len 0 segments) j o e in
    let (same, below) = range_at 0 segments j i at in
    let index : i ≡ j = omega (arith, same) in
    (below, is ∙ ap (λ m. Root m 0) index)

-- one of the first list, or of the second
either_at : {A : Type 0} (xs ys : List A) (k : ℕ) (x : A) → slice_get (xs ++ ys) k ≡ Some x →
    (slice_get xs k ≡ Some x) ⊎ ((j : ℕ) × (k ≡ length xs + j) × (slice_get ys j ≡ Some x))
either_at [] ys k x e = inr (k, omega arith, e)
either_at (y ∷ xs) ys zero x e = inl e
either_at (y ∷ xs) ys (suc k) x e = elim (either_at xs ys k x e) [
  | inl p ↦ inl p
  | inr p ↦ inr (p.0, (let at = p.1 in omega (arith, at)), p.2)
]

alike_there : {A : Type 0} (n k : ℕ) (x : A) → k < n → slice_get (replicate n x) k ≡ Some x
alike_there zero k x below = absurd (omega arith)
alike_there (suc n) zero x below = refl
alike_there (suc n) (suc k) x below = alike_there n k x (omega arith)

empty_nexts : (a n d : ℕ) → map (cell_of d) (map (λ i. Next (suc i) 0) (range_with_len a n)) ≡ replicate n (0, true)
empty_nexts a zero d = refl
empty_nexts a (suc n) d = ap (λ cs. (0, true) ∷ cs) (empty_nexts (a + 1) n d)

empty_roots : (a n d : ℕ) → map (cell_of d) (map (λ i. Root i 0) (range_with_len a n)) ≡ replicate n (0, true)
empty_roots a zero d = refl
empty_roots a (suc n) d = ap (λ cs. (0, true) ∷ cs) (empty_roots (a + 1) n d)

map_append : {A B : Type 0} (f : A → B) (xs ys : List A) → map f (xs ++ ys) ≡ map f xs ++ map f ys
map_append f [] ys = refl
map_append f (x ∷ xs) ys = ap (λ zs. f x ∷ zs) (map_append f xs ys)

-- such cells before others
empty_before : (xs ys : List Owner) (n m d : ℕ) → map (cell_of d) xs ≡ replicate n (0, true) → map (cell_of d) ys ≡ replicate m (0, true) →
    map (cell_of d) (xs ++ ys) ≡ replicate (n + m) (0, true)
empty_before xs ys n m d first second = map_append (cell_of d) xs ys
    ∙ (ap (λ cs. cs ++ map (cell_of d) ys) first ∙ (ap (λ cs. zeros n ++ cs) second ∙ replicate_more n m))
  where
    zeros : ℕ → List Cell
    zeros k = replicate k (0, true)

    replicate_more : (k l : ℕ) → zeros k ++ zeros l ≡ zeros (k + l)
    replicate_more zero l = let all : l ≡ 0 + l = omega arith in ap zeros all
    replicate_more (suc k) l =
        let all : suc (k + l) ≡ suc k + l = omega arith in
        ap (λ cs. (0, true) ∷ cs) (replicate_more k l) ∙ ap zeros all

empty_cells : (n m d : ℕ) → map (cell_of d) (replicate n (Bucket Empty) ++ (first_nexts m ++ first_roots m)) ≡ replicate (n + (m + m)) (0, true)
empty_cells zero m d =
    let all : m + m ≡ 0 + (m + m) = omega arith in
    empty_before (first_nexts m) (first_roots m) m m d (empty_nexts 0 m d) (empty_roots 0 m d) ∙ ap (λ k. replicate k (0, true)) all
empty_cells (suc n) m d =
    let all : suc (n + (m + m)) ≡ suc n + (m + m) = omega arith in
    ap (λ cs. (0, true) ∷ cs) (empty_cells n m d) ∙ ap (λ k. replicate k (0, true)) all

no_node : (n k : ℕ) → node_of (word_at (replicate n Empty) k) ≡ None
no_node zero k = refl
no_node (suc n) zero = refl
no_node (suc n) (suc k) = no_node n k

no_seal : (n k : ℕ) → is_sealed (word_at (replicate n Empty) k) ≡ false
no_seal zero k = refl
no_seal (suc n) zero = refl
no_seal (suc n) (suc k) = no_seal n k

no_pair : {K V : Type 0} (o : Option ℕ) → None ≡ pair_at {K = K} {V = V} (λ n. None) o
no_pair None = refl
no_pair (Some n) = refl

only_front : {A : Type 0} (x : A) (front : List A) → 0 < length front → IsPrefix front (x ∷ []) → front ≡ x ∷ []
only_front x front some begins = elim (prefix_more front [] x begins) [
  | inl p ↦ absurd (let none = ap (λ l. length l) p.1 in let long = length-append front p.0 in omega (arith, some, none, long))
  | inr e ↦ e
]

module _ {K : Type 0} (V : Type 0) {S : Type 0} (eq : K → K → Bool) (hash : S → K → ℕ) (place : S → ℕ → K → ℕ) (divided : IsDivided eq hash place)
    (segments size : ℕ) (hasher : S) (few : segments ≤ 2 ^ 60) (power : IsPowerOfTwo size) where
  abbrev first : List (Note K V S)
  first = Opened segments size hasher ∷ []

  abbrev opened : State K V
  opened = state_of first

  abbrev Place : K → ℕ
  Place = place hasher segments

  cell_at_suc : (k : ℕ) (o : Owner) → slice_get opened.cells (suc k) ≡ Some o →
      (Bucket Empty ≡ o) ⊎ (((j : ℕ) × (k ≡ segments * size + j) × (j < segments) × (o ≡ Next (suc j) 0))
      ⊎ ((j : ℕ) × (k ≡ segments * size + (length (first_nexts segments) + j)) × (j < segments) × (o ≡ Root j 0)))
  cell_at_suc k o at = elim (alike_at (segments * size) k (Bucket Empty) o (first_nexts segments ++ first_roots segments) at) [
    | inl p ↦ inl p
    | inr p ↦ elim (either_at (first_nexts segments) (first_roots segments) p.0 o p.2) [
      | inl q ↦ (let (below, is) = next_at segments p.0 o q in inr (inl (p.0, p.1, below, is)))
      | inr q ↦ (let (below, is) = root_at segments q.0 o q.2 in inr (inr (q.0, p.1 ∙ ap (λ n. segments * size + n) q.1, below, is)))
    ]
  ]

  -- an owner of another sort has no such cell
  no_other : (o : Owner) → (Bucket Empty ≡ o → ⊥) → ((a t : ℕ) → o ≡ Next a t → ⊥) → ((i t : ℕ) → o ≡ Root i t → ⊥) → (k : ℕ) →
      slice_get opened.cells (suc k) ≡ Some o → ⊥
  no_other o no_bucket no_next no_root k at = elim (cell_at_suc k o at) [
    | inl p ↦ no_bucket p
    | inr p ↦ elim p [
      | inl q ↦ no_next (suc q.0) 0 q.3
      | inr q ↦ no_root q.0 0 q.3
    ]
  ]

  only_door : (k : ℕ) → slice_get opened.cells k ≡ Some Door → k ≡ 0
  only_door zero at = refl
  only_door (suc k) at = absurd (no_other Door door_not_bucket (λ a t e. door_not_next e) (λ i t e. root_not_door (sym e)) k at)

  no_ticket : (k n : ℕ) (b : Bool) → slice_get opened.cells k ≡ Some (Ticket n b) → ⊥
  no_ticket zero n b at = door_not_ticket (one_item at)
  no_ticket (suc k) n b at = no_other (Ticket n b) bucket_not_ticket (λ a t e. next_not_ticket (sym e)) (λ i t e. root_not_ticket (sym e)) k at

  bucket_there : (k : ℕ) → 1 ≤ k → k < suc (segments * size) → slice_get opened.cells k ≡ Some (Bucket Empty)
  bucket_there zero low below = absurd (omega arith)
  bucket_there (suc k) low below = front_get (replicate (segments * size) (Bucket Empty)) (first_nexts segments ++ first_roots segments) k (Bucket Empty)
      (alike_there (segments * size) k (Bucket Empty) (omega (arith, below)))

  no_array : (k n : ℕ) (b : Bool) → slice_get opened.cells k ≡ Some (Array n b) → ⊥
  no_array zero n b at = door_not_array (one_item at)
  no_array (suc k) n b at = no_other (Array n b) bucket_not_array (λ a t e. next_not_array (sym e)) (λ i t e. root_not_array (sym e)) k at

  no_row : (k n : ℕ) (b : Bool) → slice_get opened.cells k ≡ Some (Row n b) → ⊥
  no_row zero n b at = door_not_row (one_item at)
  no_row (suc k) n b at = no_other (Row n b) bucket_not_row (λ a t e. next_not_row (sym e)) (λ i t e. root_not_row (sym e)) k at

  -- the cells that name the array after a first one
  next_there : (k a t : ℕ) → slice_get opened.cells k ≡ Some (Next a t) →
      (j : ℕ) × (k ≡ suc (segments * size + j)) × (j < segments) × (a ≡ suc j) × (t ≡ 0)
  next_there zero a t at = absurd (door_not_next (one_item at))
  next_there (suc k) a t at = elim (cell_at_suc k (Next a t) at) [
    | inl p ↦ absurd (next_not_bucket (sym p))
    | inr p ↦ elim p [
      | inl q ↦ (let (array_is, none) = next_is_next q.3 in (q.0, ap suc q.1, q.2, array_is, none))
      | inr q ↦ absurd (root_not_next (sym q.3))
    ]
  ]

  -- and those that name roots
  root_there : (k i t : ℕ) → slice_get opened.cells k ≡ Some (Root i t) →
      (k ≡ suc (segments * size + (length (first_nexts segments) + i))) × (i < segments) × (t ≡ 0)
  root_there zero i t at = absurd (root_not_door (sym (one_item at)))
  root_there (suc k) i t at = elim (cell_at_suc k (Root i t) at) [
    | inl p ↦ absurd (root_not_bucket (sym p))
    | inr p ↦ elim p [
      | inl q ↦ absurd (root_not_next q.3)
      | inr q ↦ (
          let (same, none) = root_is_root q.3 in
          (ap suc q.1 ∙ ap (λ n. suc (segments * size + (length (first_nexts segments) + n))) (sym same), subst (λ n. n < segments) (sym same) q.2, none)
          )
    ]
  ]

  no_words : (n : ℕ) → segments < n → first_keys segments size n ≡ []
  no_words zero high = refl
  no_words (suc i) high = ap (λ b. if b then range_with_len (1 + i * size) size else []) (le-ltb i segments (omega (arith, high)))

  -- no word is sealed
  bare : (a index : ℕ) → is_sealed (word_at (words_in opened a) index) ≡ true → ⊥
  bare a index sealed = by a (words_in opened a) refl sealed
    where
      none_there : (i : ℕ) → segments ≤ i → words_in opened (suc i) ≡ []
      none_there i more = ap (λ b. map (word_in opened.cells) (if b then range_with_len (1 + i * size) size else [])) (le-ltb i segments more)

      by : (b : ℕ) (ws : List Word) → words_in opened b ≡ ws → is_sealed (word_at ws index) ≡ true → ⊥
      by zero ws is h = false≢true (ap (λ xs. is_sealed (word_at xs index)) is ∙ h)
      by (suc i) ws is h = elim (cases_lt i segments) [
        | inl below ↦ false≢true (sym (no_seal size index) ∙ (ap (λ xs. is_sealed (word_at xs index)) (sym (words_are K V segments size hasher i below) ∙ is) ∙ h))
        | inr more ↦ false≢true (ap (λ xs. is_sealed (word_at xs index)) (sym (none_there i more) ∙ is) ∙ h)
      ]

  owned : IsOwned opened
  owned = record {
    door = λ k. (only_door k, λ e. subst (λ j. slice_get opened.cells j ≡ Some Door) (sym e) refl);
    buckets = λ a i k e.
        let (r, is, below, at, inside) = first_at segments size a i k e in
        let rows = row_end r segments size below in
        (Empty, bucket_there k (omega (arith, at)) (omega (arith, at, inside, rows)));
    places = placed K V segments size hasher;
    tickets = λ j k n b c e f. absurd (no_ticket j n b e);
    arrays = λ j k n b c e f. absurd (no_array j n b e);
    nexts = λ j k a t u e f.
        let (p, at, below, is, none) = next_there j a t e in
        let (q, at_yet, below_yet, is_yet, none_yet) = next_there k a u f in
        omega (arith, at, at_yet, is, is_yet);
    roots = λ j k i t u e f. (root_there j i t e).0 ∙ sym (root_there k i u f).0;
  }

  linked : AreLinked opened
  linked = record {
    numbers = λ k n home at. absurd (no_array k n home at);
    home = λ i p a at. absurd (no_item at);
    planned = λ i p a at. absurd (no_item at);
    unmade = λ k n at. absurd (no_array k n false at);
    past = λ n high. no_words n high;
    nexts = λ k a t at. (
        let (j, key_is, below, is, none) = next_there k a t at in
        (j, 0, below, ap Some (sym is), none ∙ sym (ap (λ b. cond b 0 1) (eq-eqb a (suc j) is))));
    roots = λ k i t at. ((root_there k i t at).1, (root_there k i t at).2);
    some = λ i low. omega arith;
    rise = one_place;
    grown = λ n g plan at names. absurd (no_item at);
  }
    where
      -- a segment has one array
      one_place : (i p q a b : ℕ) → i < segments → p < q → slice_get (suc i ∷ []) p ≡ Some a → slice_get (suc i ∷ []) q ≡ Some b → a < b
      one_place i p zero a b low less at there = absurd (omega (arith, less))
      one_place i p (suc q) a b low less at there = absurd (no_item there)

  drawn : IsDrawn opened []
  drawn = record {
    first = omega arith;
    last = few;
    cells = λ k n home at. absurd (no_ticket k n home at);
    pairs = λ n high. refl;
    entries = λ n high. refl;
    once = λ n. omega arith;
    announced = λ k n home at. absurd (no_array k n home at);
    rows = λ k n home at. absurd (no_row k n home at);
    planned = λ n high. refl;
  }

  good : IsGood eq (hash hasher) Place opened []
  good = record {
    owned = owned;
    drawn = drawn;
    linked = linked;
    sound = λ i below keys agrees. (opened_is K V segments size hasher (hash_by (hash hasher) keys) (same_by eq keys) (mine_by keys) i power below).0;
    puts = λ i a index n p r named at.
        let first_is : a ≡ suc i = first_get (suc i) [] r.rooted.place a r.rooted.before r.rooted.there in
        let words = ap (words_in opened) first_is ∙ words_are K V segments size hasher i r.within in
        absurd (no_item (sym (ap (λ ws. node_of (word_at ws index)) words ∙ no_node size index) ∙ named));
    legal = λ n e at. absurd (no_item at);
    map_is = λ q below. no_pair (find (own_by eq (keys_of Place opened (Place q)) q) (present_nodes (memory_of opened (Place q))));
  }

  kept : IsKept eq hash place first
  kept = record {
    segments = segments;
    size = size;
    hasher = hasher;
    opened = ([], refl);
    good = λ front is. subst (λ l. IsGood eq (hash hasher) Place (state_of l) (entries_of l)) (sym (alone front is)) good;
    lasts = λ front next is begins.
        let front_is = alone front (record { some = is.some; begins = prefix_through front next first is.begins begins }) in
        let next_is = alone next (record { some = longer front next is; begins = begins }) in
        subst (λ l. Lasts eq Place (state_of front) (state_of l)) (front_is ∙ sym next_is)
        (lasts_same eq divided.laws (hash hasher) Place (divided.hashed hasher) (state_of front));
    still = λ front next is begins equal i a index r.
        let front_is = alone front (record { some = is.some; begins = prefix_through front next first is.begins begins }) in
        let next_is = alone next (record { some = longer front next is; begins = begins }) in
        inl (ap (λ l. word_at (words_in (state_of l) a) index) (next_is ∙ sym front_is));
    seals = λ front is array index sealed. absurd (bare array index (ap (λ l. is_sealed (word_at (words_in (state_of l) array) index)) (sym (alone front is)) ∙ sealed));
  }
    where
      alone : (front : List (Note K V S)) → IsFront front first → front ≡ first
      alone front is = only_front (Opened segments size hasher) front is.some is.begins

      longer : (front next : List (Note K V S)) → IsFront front next → 0 < length next
      longer front next is =
          let all = ap (λ l. length l) is.begins.1 in
          let long = length-append front is.begins.0 in
          let some = is.some in
          omega (arith, all, long, some)

  pub opening_holds : Holds eq hash place (replicate (suc (segments * size + (segments + segments))) (0, true)) first
  opening_holds = (
    ap (λ cs. (0, true) ∷ cs) (sym (empty_cells (segments * size) segments (segments - segments)))
        ∙ ap (λ d. (d, true) ∷ map (cell_of (segments - segments)) (replicate (segments * size) (Bucket Empty) ++ (first_nexts segments ++ first_roots segments))) none,
    kept,
  )
    where
      none : 0 ≡ segments - segments
      none = omega arith
