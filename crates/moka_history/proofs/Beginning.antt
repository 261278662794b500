-- A table that was just opened.
use Rattle.std.proofs.Common.{◌≡◌, ℕ, ◌+◌, ◌*◌, ◌<◌, ◌≤◌, Bool, true, false, List, [], ◌∷◌, ◌++◌, map, length, length-append, replicate, Some, zero, suc, inl, inr, refl, sym, ap, subst, ◌∙◌, arith, ltb, if◌then◌else◌}
use Rattle.std.proofs.lemmas.List.{length-replicate}
use Rattle.std.proofs.Math.Nat.{mul-le-mul_right, suc-mul}
use Rattle.std.proofs.lemmas.Bool.{cases_lt, lt-ltb, ltb-true}
use Rattle.std.specs.Int.{IsPowerOfTwo}
use Rattle.std.specs.List.{slice_get, range_with_len}
use Rattle.std.specs.Option.{option_map}
use Rattle.moka_words.specs.declared.words.Word.{Word}
use Rattle.moka_words.specs.declared.words.Word.TheVariants.{Empty}
use Rattle.moka_growth.specs.Sound.{IsSound, IsRoot}
use Rattle.moka_growth.proofs.Making.{empty_is_root, one_is_sound}
use Rattle.moka_history.proofs.Lists.{front_get, map_get, no_item, one_item}
use Rattle.moka_history.specs.declared.note.Note.TheVariants.{Opened}
use Rattle.moka_history.specs.States.{Owner, Door, Bucket, Next, Root, State, IsPlaced, after, first_keys, first_nexts, first_roots, memory_of, unopened, word_in, words_in}

-- rows of one length end where the next one begins
pub row_end : (i n length : ℕ) → i < n → i * length + length ≤ n * length
row_end i n length below =
    let one = suc-mul i length in
    let more = mul-le-mul_right {m = suc i} {n = n} length (omega (arith, below)) in
    omega (arith, one, more)

pub range_at : (a n i k : ℕ) → slice_get (range_with_len a n) i ≡ Some k → (k ≡ a + i) × (i < n)
range_at a zero i k e = absurd (no_item e)
range_at a (suc n) zero k e = let same = one_item e in (omega (arith, same), omega arith)
range_at a (suc n) (suc i) k e =
    let rest = range_at (a + 1) n i k e in
    let is = rest.0 in
    let below = rest.1 in
    (omega (arith, is), omega (arith, below))

-- the key of a bucket's cell
pub first_at : (segments length a i k : ℕ) → slice_get (first_keys segments length a) i ≡ Some k →
    (r : ℕ) × (a ≡ suc r) × (r < segments) × (k ≡ 1 + r * length + i) × (i < length)
first_at segments length zero i k e = absurd (no_item e)
first_at segments length (suc r) i k e = by (ltb r segments) refl e
  where
    by : (b : Bool) → ltb r segments ≡ b → slice_get (if b then range_with_len (1 + r * length) length else []) i ≡ Some k →
        (q : ℕ) × (suc r ≡ suc q) × (q < segments) × (k ≡ 1 + q * length + i) × (i < length)
    by true is f = let at = range_at (1 + r * length) length i k f in (r, refl, ltb-true r segments is, at.0, at.1)
    by false is f = absurd (no_item f)

range_there : (a n k : ℕ) → k < n → slice_get (range_with_len a n) k ≡ Some (a + k)
range_there a zero k low = absurd (omega arith)
range_there a (suc n) zero low = ap Some (omega arith)
range_there a (suc n) (suc k) low = range_there (a + 1) n k (omega arith) ∙ ap Some (omega arith)

-- what stands behind so many buckets
behind : (n k i : ℕ) (more : List Owner) → k ≡ n + i → slice_get (replicate n (Bucket Empty) ++ more) k ≡ slice_get more i
behind zero k i more at = ap (slice_get more) (omega (arith, at))
behind (suc n) zero i more at = absurd (omega (arith, at))
behind (suc n) (suc k) i more at = behind n k i more (omega (arith, at))

-- the cell that names the array after the first one of a segment
pub first_next : (segments length i : ℕ) → i < segments →
    slice_get (Door ∷ (replicate (segments * length) (Bucket Empty) ++ (first_nexts segments ++ first_roots segments))) (1 + segments * length + i) ≡ Some (Next (suc i) 0)
first_next segments length i below =
    let at : 1 + segments * length + i ≡ suc (segments * length + i) = omega arith in
    ap (slice_get (Door ∷ (replicate (segments * length) (Bucket Empty) ++ (first_nexts segments ++ first_roots segments)))) at
    ∙ (behind (segments * length) (segments * length + i) i (first_nexts segments ++ first_roots segments) refl
    ∙ front_get (first_nexts segments) (first_roots segments) i (Next (suc i) 0) (map_get (λ j. Next (suc j) 0) (range_with_len 0 segments) i
    ∙ (ap (option_map (λ j. Next (suc j) 0)) (range_there 0 segments i below) ∙ ap (λ m. Some (Next (suc m) 0)) same)))
  where
    same : 0 + i ≡ i
    same = omega arith

-- so many cells name arrays after first ones
nexts_long : (a n : ℕ) → length (map (λ j. Next (suc j) 0) (range_with_len a n)) ≡ n
nexts_long a zero = refl
nexts_long a (suc n) = ap suc (nexts_long (a + 1) n)

past_get : {A : Type 0} (xs ys : List A) (k i : ℕ) → k ≡ length xs + i → slice_get (xs ++ ys) k ≡ slice_get ys i
past_get [] ys k i at = ap (slice_get ys) (omega (arith, at))
past_get (x ∷ xs) ys zero i at = absurd (omega (arith, at))
past_get (x ∷ xs) ys (suc k) i at = past_get xs ys k i (omega (arith, at))

-- the cell that names the root of a segment
pub first_root : (segments length i : ℕ) → i < segments →
    slice_get (Door ∷ (replicate (segments * length) (Bucket Empty) ++ (first_nexts segments ++ first_roots segments)))
    (1 + segments * length + segments + i) ≡ Some (Root i 0)
first_root segments length i below =
    let at : 1 + segments * length + segments + i ≡ suc (segments * length + (segments + i)) = omega arith in
    ap (slice_get (Door ∷ (replicate (segments * length) (Bucket Empty) ++ (first_nexts segments ++ first_roots segments)))) at
    ∙ (behind (segments * length) (segments * length + (segments + i)) (segments + i) (first_nexts segments ++ first_roots segments) refl
    ∙ (past_get (first_nexts segments) (first_roots segments) (segments + i) i (ap (λ n. n + i) (sym (nexts_long 0 segments)))
    ∙ (map_get (λ j. Root j 0) (range_with_len 0 segments) i
    ∙ (ap (option_map (λ j. Root j 0)) (range_there 0 segments i below) ∙ ap (λ m. Some (Root m 0)) same))))
  where
    same : 0 + i ≡ i
    same = omega arith

bucket_empty : (more : List Owner) (n k : ℕ) → k < n → word_in (replicate n (Bucket Empty) ++ more) k ≡ Empty
bucket_empty more zero k below = absurd (omega arith)
bucket_empty more (suc n) zero below = refl
bucket_empty more (suc n) (suc k) below = bucket_empty more n k (omega arith)

cell_empty : (more : List Owner) (n k : ℕ) → 1 ≤ k → k < 1 + n → word_in (Door ∷ (replicate n (Bucket Empty) ++ more)) k ≡ Empty
cell_empty more n zero some below = absurd (omega arith)
cell_empty more n (suc k) some below = bucket_empty more n k (omega arith)

all_empty : (f : ℕ → Word) (a n : ℕ) → ((k : ℕ) → a ≤ k → k < a + n → f k ≡ Empty) → map f (range_with_len a n) ≡ replicate n Empty
all_empty f a zero h = refl
all_empty f a (suc n) h = ap (λ w. w ∷ map f (range_with_len (a + 1) n)) (h a (omega arith) (omega arith))
    ∙ ap (λ ws. Empty ∷ ws) (all_empty f (a + 1) n (λ k low high. h k (omega (arith, low)) (omega (arith, high))))

module _ (K V : Type 0) {S : Type 0} (segments length_is : ℕ) (hasher : S) where
  abbrev pub opened : State K V
  opened = after {S = S} unopened (Opened segments length_is hasher)

  abbrev others : List Owner
  others = first_nexts segments ++ first_roots segments

  many : length (opened.cells) ≡ suc (segments * length_is + length others)
  many = ap suc (length-append (replicate (segments * length_is) (Bucket Empty)) others
      ∙ ap (λ n. n + length others) (length-replicate (segments * length_is) (Bucket Empty)))

  pub words_are : (i : ℕ) → i < segments → words_in opened (suc i) ≡ replicate length_is Empty
  words_are i below =
      let rows = row_end i segments length_is below in
      ap (λ b. map (word_in opened.cells) (if b then range_with_len (1 + i * length_is) length_is else [])) (lt-ltb i segments below)
      ∙ all_empty (word_in opened.cells) (1 + i * length_is) length_is
      (λ k low high. cell_empty others (segments * length_is) k (omega (arith, low)) (omega (arith, high, rows)))

  -- rows are apart
  apart : (r q i j : ℕ) → i < length_is → j < length_is → 1 + r * length_is + i ≡ 1 + q * length_is + j → r ≡ q
  apart r q i j low high same = elim (cases_lt r q) [
    | inl less ↦ absurd (let rows = row_end r q length_is less in omega (arith, rows, low, same))
    | inr more ↦ elim (cases_lt q r) [
      | inl less ↦ absurd (let rows = row_end q r length_is less in omega (arith, rows, high, same))
      | inr equal ↦ omega (arith, more, equal)
    ]
  ]

  pub placed : IsPlaced opened
  placed = record {
    within = λ a i k e.
        let (r, is, below, at, inside) = first_at segments length_is a i k e in
        let rows = row_end r segments length_is below in
        let long = many in omega (arith, at, inside, rows, long);
    one = λ a b i j k e f.
        let (r, is, below, at, inside) = first_at segments length_is a i k e in
        let (q, is_q, below_q, at_q, inside_q) = first_at segments length_is b j k f in
        let same = apart r q i j inside inside_q (sym at ∙ at_q) in
        let row : r * length_is ≡ q * length_is = ap (λ n. n * length_is) same in
        (is ∙ (ap suc same ∙ sym is_q), omega (arith, at, at_q, row));
  }

  pub opened_is : (hash : ℕ → ℕ) (same : ℕ → ℕ → Bool) (mine : ℕ → Bool) (i : ℕ) → IsPowerOfTwo length_is → i < segments →
      IsSound hash same mine (memory_of opened i) × IsPlaced opened
  opened_is hash same mine i power below = (
    one_is_sound hash same mine (memory_of opened i) (suc i) refl refl (omega (arith, below))
        (subst (λ n. IsPowerOfTwo n) (sym (ap (λ ws. length ws) (words_are i below) ∙ length-replicate length_is Empty)) power)
        (subst (λ ws. IsRoot hash same mine ws) (sym (words_are i below)) (empty_is_root hash same mine length_is)),
    placed,
  )
