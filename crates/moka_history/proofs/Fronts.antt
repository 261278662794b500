-- Kept logs: their fronts, their words, and what calls find after them.
use Rattle.std.proofs.Common.{◌≡◌, ◌≢◌, ◌⊎◌, ℕ, ◌+◌, ◌*◌, ◌^◌, ◌<◌, ◌≤◌, ◌==◌, Bool, true, false, cond, List, [], ◌∷◌, ◌++◌, map, length, Option, Some, None, zero, suc, inl, inr, refl, sym, ap, subst, ◌∙◌, arith, if◌then◌else◌}
use Rattle.std.proofs.lemmas.Bool.{cases_lt, eq-eqb, false≢true, lt-ltb}
use Rattle.std.proofs.lemmas.List.{length-replicate}
use Rattle.std.specs.List.{slice_get, range_with_len}
use Rattle.std.specs.Prelude.{IsSome}
use Rattle.std.specs.Option.{option_map}
use mathlib.Core.List.{IsPrefix}
use Rattle.logbook.specs.Pages.{Cell, cell}
use Rattle.moka_hist.specs.Finite.{times}
use Rattle.moka_words.specs.declared.words.Word.TheVariants.{Empty}
use Rattle.moka_words.specs.Words.{is_sealed, node_of, word_at}
use Rattle.moka_words.specs.Effect.{Memory}
use Rattle.moka_growth.specs.Calls.{Call}
use Rattle.moka_growth.specs.Fits.{Rests}
use Rattle.moka_growth.specs.Maps.{Finds}
use Rattle.moka_pairs.specs.Keys.{Agrees, is_one_key, own_by}
use Rattle.moka_pairs.specs.Pairs.{pair_at}
use Rattle.moka_pairs.specs.Segments.{FitsAll, IsHashed}
use Rattle.moka_pairs.proofs.Divided.{segment_grows, segment_has}
use Rattle.moka_pairs.proofs.Grown.{fits_grown, sound_grown}
use Rattle.moka_pairs.proofs.Mapped.{map_found}
use Rattle.moka_pairs.proofs.Names.{agrees_now}
use Rattle.moka_pairs.proofs.Steps.{fits_last}
use Rattle.moka_history.specs.declared.note.Note.{Note}
use Rattle.moka_history.specs.declared.note.Note.TheVariants.{Opened}
use Rattle.moka_history.specs.Entries.{Entry, map_after}
use Rattle.moka_history.specs.States.{Door, Bucket, Next, Root, Ticket, State, first_keys, memory_of, word_in, word_of, words_in}
use Rattle.moka_history.specs.Logs.{entries_of, state_of}
use Rattle.moka_history.specs.Cells.{cell_of, cells_of, drawn, number_of}
use Rattle.moka_history.specs.Rules.{made_on, keys_of, IsGood, IsRooted, Lasts, IsOpenedFor, IsFront, NamesSeal, IsKept}
use Rattle.moka_history.specs.Keeping.{ArePut, IsDivided}
use Rattle.moka_history.proofs.Beginning.{first_next, first_root, words_are}
use Rattle.moka_history.proofs.Folds.{entries_begin, entries_grow}
use Rattle.moka_history.proofs.Named.{array_is, word_names}
use Rattle.moka_history.proofs.Lists.{no_item, one_item, get_below, get_or, map_get, prefix_self, prefix_through}

head_same : {A : Type 0} {x y : A} {xs ys : List A} → x ∷ xs ≡ y ∷ ys → x ≡ y
head_same e = cc (e)

module _ {K V S : Type 0} where
  -- a front was opened as the log was
  front_opened : (segments size : ℕ) (hasher : S) (front log : List (Note K V S)) → IsOpenedFor segments size hasher log → 0 < length front →
      IsPrefix front log → IsOpenedFor segments size hasher front
  front_opened segments size hasher [] log opened some begins = absurd (omega arith)
  front_opened segments size hasher (x ∷ front) log opened some begins =
      (front, ap (λ y. y ∷ front) (head_same (begins.1 ∙ opened.1)))

times_grow : (n : ℕ) (xs ys : List ℕ) → times n xs ≤ times n (xs ++ ys)
times_grow n [] ys = omega arith
times_grow n (x ∷ xs) ys = let more = times_grow n xs ys in by (n == x) (times n xs) (times n (xs ++ ys)) more
  where
    by : (b : Bool) (m k : ℕ) → m ≤ k → cond b (m + 1) m ≤ cond b (k + 1) k
    by true m k low = omega (arith, low)
    by false m k low = low

map_append : {A B : Type 0} (f : A → B) (xs ys : List A) → map f (xs ++ ys) ≡ map f xs ++ map f ys
map_append f [] ys = refl
map_append f (x ∷ xs) ys = ap (λ v. f x ∷ v) (map_append f xs ys)

-- an item stands at each place of a list
item_at : {A : Type 0} (xs : List A) (k : ℕ) → k < length xs → (x : A) × (slice_get xs k ≡ Some x)
item_at [] k below = absurd (omega arith)
item_at (x ∷ xs) zero below = (x, refl)
item_at (x ∷ xs) (suc k) below = item_at xs k (omega arith)

-- an entry on a ticket is one of those made on it
made_some : {K V : Type 0} (n : ℕ) (es : List (Entry K V)) (k : ℕ) (e : Entry K V) → slice_get es k ≡ Some e → e.ticket ≡ n → 1 ≤ made_on n es
made_some n [] k e at is = absurd (no_item at)
made_some n (x ∷ es) zero e at is =
    let there : (n == x.ticket) ≡ true = eq-eqb n x.ticket (sym is ∙ ap (λ y. y.ticket) (sym (one_item at))) in
    subst (λ b. 1 ≤ cond b (made_on n es + 1) (made_on n es)) (sym there) (omega arith)
made_some n (x ∷ es) (suc k) e at is = let rest = made_some n es k e at is in by (n == x.ticket) (made_on n es) rest
  where
    by : (b : Bool) (m : ℕ) → 1 ≤ m → 1 ≤ cond b (m + 1) m
    by true m low = omega (arith, low)
    by false m low = low

-- the key of an array's row at a place
row_at : (segments size i index : ℕ) → i < segments → index < size → slice_get (first_keys segments size (suc i)) index ≡ Some (1 + i * size + index)
row_at segments size i index below inside =
    ap (λ b. slice_get (if b then range_with_len (1 + i * size) size else []) index) (lt-ltb i segments below) ∙ in_range (1 + i * size) size index inside
  where
    in_range : (a n k : ℕ) → k < n → slice_get (range_with_len a n) k ≡ Some (a + k)
    in_range a zero k low = absurd (omega arith)
    in_range a (suc n) zero low = ap Some (omega arith)
    in_range a (suc n) (suc k) low = in_range (a + 1) n k (omega arith) ∙ ap Some (omega arith)

module _ {K V S : Type 0} (eq : K → K → Bool) (hash : S → K → ℕ) (place : S → ℕ → K → ℕ) (log : List (Note K V S)) (kept : IsKept eq hash place log) where
  abbrev Place : K → ℕ
  Place = place kept.hasher kept.segments

  -- the log is a front of itself
  whole : IsFront log log
  whole = record {
    some = subst (λ l. 0 < length l) (sym kept.opened.1) (omega arith);
    begins = prefix_self log;
  }

  -- it names each seal
  pub seals_now : (array index : ℕ) → is_sealed (word_at (words_in (state_of log) array) index) ≡ true →
      NamesSeal array index (word_at (words_in (state_of log) array) index) log
  seals_now = kept.seals log whole

  pub good_now : IsGood eq (hash kept.hasher) Place (state_of log) (entries_of log)
  good_now = kept.good log whole

  first_front : IsFront (Opened kept.segments kept.size kept.hasher ∷ []) log
  first_front = record { some = omega arith; begins = (kept.opened.0, sym kept.opened.1) }

  first_lasts : Lasts eq Place (state_of (Opened kept.segments kept.size kept.hasher ∷ [])) (state_of log)
  first_lasts = kept.lasts (Opened kept.segments kept.size kept.hasher ∷ []) log first_front (prefix_self log)

  pub segments_are : (state_of log).segments ≡ kept.segments
  segments_are = first_lasts.segments

  module _ (i : ℕ) (below : i < kept.segments) where
    below_now : i < (state_of log).segments
    below_now = subst (λ m. i < m) (sym segments_are) below

    -- the row of an array
    pub row_now : (index : ℕ) → index < kept.size → slice_get ((state_of log).arrays (suc i)) index ≡ Some (1 + i * kept.size + index)
    row_now index inside = first_lasts.arrays (suc i) index (1 + i * kept.size + index) (row_at kept.segments kept.size i index below inside)

    -- the cell that names the array after the segment's first one
    pub next_now : (a : ℕ) × (slice_get (state_of log).cells (1 + kept.segments * kept.size + i) ≡ Some (Next (suc i) a))
    next_now = first_lasts.nexts (1 + kept.segments * kept.size + i) (suc i) 0 (first_next kept.segments kept.size i below)

    pub length_now : length (words_in (state_of log) (suc i)) ≡ kept.size
    length_now =
        ((first_lasts.later i below (keys_of Place (state_of log) i) (agrees_now (keys_of Place (state_of log) i))).words 0 (suc i) refl
        (omega (arith, below))).length_stays
        ∙ (ap (λ ws. length ws) (words_are K V kept.segments kept.size kept.hasher i below) ∙ length-replicate kept.size Empty)

    -- the cell that names its root
    pub root_now : (a : ℕ) × (slice_get (state_of log).cells (1 + kept.segments * kept.size + kept.segments + i) ≡ Some (Root i a))
    root_now = first_lasts.roots (1 + kept.segments * kept.size + kept.segments + i) i 0 (first_root kept.segments kept.size i below)

  -- an array that is a root, or was one
  module _ (i a : ℕ) (r : IsRooted (state_of log) i a) where
    pub words_have_pairs : (index n : ℕ) → node_of (word_at (words_in (state_of log) a) index) ≡ Some n →
        (p : K × V) × ((state_of log).pairs n ≡ Some p) × (Place p.0 ≡ i) × (n ≤ 2 ^ 60)
    words_have_pairs index n named =
        let (p, there, is) = word_names eq (hash kept.hasher) Place (state_of log) (entries_of log) good_now i a r index n named in
        (p, there, is, low there)
      where
        low : {p : K × V} → (state_of log).pairs n ≡ Some p → n ≤ 2 ^ 60
        low there = elim (cases_lt (state_of log).last n) [
          | inl less ↦ absurd (no_item (sym (good_now.drawn.pairs n less) ∙ there))
          | inr more ↦ (let last = good_now.drawn.last in omega (arith, more, last))
        ]

    -- an array without a free word was filled by puts
    module _ (full : (index : ℕ) → index < length (words_in (state_of log) a) → IsSome (node_of (word_at (words_in (state_of log) a) index))) where
      abbrev size : ℕ
      size = length (words_in (state_of log) a)

      some_is : {A : Type 0} (o : Option A) → IsSome o → (x : A) × (o ≡ Some x)
      some_is None e = absurd (false≢true e)
      some_is (Some x) e = (x, refl)

      node_there : (index : ℕ) → index < size → (n : ℕ) × (node_of (word_at (words_in (state_of log) a) index) ≡ Some n)
      node_there index inside = some_is (node_of (word_at (words_in (state_of log) a) index)) (full index inside)

      pair_there : (index : ℕ) (inside : index < size) → (p : K × V) × ((state_of log).pairs (node_there index inside).0 ≡ Some p) × (Place p.0 ≡ i)
      pair_there index inside = word_names eq (hash kept.hasher) Place (state_of log) (entries_of log) good_now i a r index
          (node_there index inside).0 (node_there index inside).1

      known_there : (index : ℕ) (inside : index < size) → keys_of Place (state_of log) i (node_there index inside).0 ≡ Some (pair_there index inside).0.0
      known_there index inside = segment_has (λ k. Place k == i) (state_of log).pairs (node_there index inside).0 (pair_there index inside).0
          (pair_there index inside).1 (eq-eqb (Place (pair_there index inside).0.0) i (pair_there index inside).2)

      pub full_put : ArePut eq Place (entries_of log) i size
      full_put = record {
        key = λ n b. (pair_there n b).0.0;
        own = λ n b. (pair_there n b).2;
        put = λ n b. good_now.puts i a n (node_there n b).0 (pair_there n b).0 r (node_there n b).1 (pair_there n b).1;
        differ = λ n m b d same. (array_is eq (hash kept.hasher) Place (state_of log) (entries_of log) good_now i a r).array.one n m
            (node_there n b).0 (node_there m d).0 (node_there n b).1 (node_there m d).1
            (ap (λ o. is_one_key eq o (keys_of Place (state_of log) i (node_there m d).0)) (known_there n b)
            ∙ (ap (λ o. is_one_key eq (Some (pair_there n b).0.0) o) (known_there m d) ∙ same));
      }

  -- what a call found is the history's
  pub found_now : IsDivided eq hash place → (key : K) (found : Option ℕ) → Place key < kept.segments →
      Finds (own_by eq (keys_of Place (state_of log) (Place key)) key) (memory_of (state_of log) (Place key)) found →
      map_after eq (entries_of log) key ≡ pair_at (state_of log).pairs found
  found_now divided key found below finds =
      let within = subst (λ m. Place key < m) (sym segments_are) below in
      good_now.map_is key within
      ∙ map_found eq divided.laws (hash kept.hasher) (divided.hashed kept.hasher) (keys_of Place (state_of log) (Place key)) (state_of log).pairs
      (memory_of (state_of log) (Place key)) (good_now.sound (Place key) within) key found finds

  module _ (front : List (Note K V S)) (is : IsFront front log) where
    pub opened_too : IsOpenedFor kept.segments kept.size kept.hasher front
    opened_too = front_opened kept.segments kept.size kept.hasher front log kept.opened is.some is.begins

    pub kept_too : IsKept eq hash place front
    kept_too = record {
      segments = kept.segments;
      size = kept.size;
      hasher = kept.hasher;
      opened = opened_too;
      good = λ first at. kept.good first (record { some = at.some; begins = prefix_through first front log at.begins is.begins });
      lasts = λ first next at begins. kept.lasts first next at (prefix_through next front log begins is.begins);
      still = λ first next at begins. kept.still first next at (prefix_through next front log begins is.begins);
      seals = λ first at. kept.seals first (record { some = at.some; begins = prefix_through first front log at.begins is.begins });
    }

    pub lasts_now : Lasts eq Place (state_of front) (state_of log)
    lasts_now = kept.lasts front log is (prefix_self log)

    abbrev rest : IsPrefix (entries_of front) (entries_of log)
    rest = entries_begin front log is.begins

    pub made_still : (ticket : ℕ) → made_on ticket (entries_of front) ≡ 1 → made_on ticket (entries_of log) ≡ 1
    made_still ticket one =
        let grown = times_grow ticket (map (λ e. e.ticket) (entries_of front)) (map (λ e. e.ticket) rest.0) in
        let all = ap (times ticket) (sym (map_append (λ e. e.ticket) (entries_of front) rest.0) ∙ ap (map (λ e. e.ticket)) rest.1) in
        let once = good_now.drawn.once ticket in
        omega (arith, one, grown, all, once)

    -- a word of an array that was a root, and isn't as it was, is sealed, or has an entry
    pub entry_between : (i a index : ℕ) → IsRooted (state_of front) i a →
        word_at (words_in (state_of log) a) index ≢ word_at (words_in (state_of front) a) index →
        (is_sealed (word_at (words_in (state_of log) a) index) ≡ true)
        ⊎ ((e : Entry K V) × (slice_get (entries_of log) (length (entries_of front)) ≡ Some e)
        × ((own ticket : ℕ) → slice_get (state_of log).cells own ≡ Some (Ticket ticket false) → e.ticket ≢ ticket))
    entry_between i a index r differs = elim (cases_lt (length (entries_of front)) (length (entries_of log))) [
      | inl less ↦ inr (let (e, at) = item_at (entries_of log) (length (entries_of front)) less in (
        e,
        at,
        λ own ticket there same.
            let some = made_some ticket (entries_of log) (length (entries_of front)) e at same in
            let none = (good_now.drawn.cells own ticket false there).1 in
            omega (arith, some, none),
      ))
      | inr more ↦ elim (kept.still front log is (prefix_self log)
          (let grown = entries_grow front log is.begins in omega (arith, more, grown)) i a index r) [
            | inl same ↦ absurd (differs same)
            | inr sealed ↦ inl sealed
          ]
    ]

    -- a call that fitted fits
    module _ (i : ℕ) (below : i < kept.segments) (key : Option K) (c : Call) where
      abbrev was : ℕ → Option K
      was = keys_of Place (state_of front) i

      abbrev known : ℕ → Option K
      known = keys_of Place (state_of log) i

      grows : Agrees known was
      grows = segment_grows (λ k. Place k == i) (state_of log).pairs (state_of front).pairs lasts_now.pairs

      within : i < (state_of front).segments
      within = subst (λ m. i < m) (sym segments_are ∙ lasts_now.segments) below

      pub fits_more : (m : Memory) → FitsAll eq (hash kept.hasher) was key m c → FitsAll eq (hash kept.hasher) known key m c
      fits_more m fits = fits_grown eq (hash kept.hasher) was known grows key m c fits

      pub fits_still : IsDivided eq hash place → IsHashed (hash kept.hasher) key c → Rests c.point →
          FitsAll eq (hash kept.hasher) known key (memory_of (state_of front) i) c → FitsAll eq (hash kept.hasher) known key (memory_of (state_of log) i) c
      fits_still divided hashed rests fits =
          fits_last eq divided.laws (hash kept.hasher) (divided.hashed kept.hasher) known key c (memory_of (state_of front) i) (memory_of (state_of log) i)
          (sound_grown eq (hash kept.hasher) was known grows (memory_of (state_of front) i) ((kept.good front is).sound i within))
          (lasts_now.later i within) hashed rests fits

  -- the cells
  module _ (cells : List Cell) (are : cells ≡ cells_of (state_of log)) where
    abbrev now : State K V
    now = state_of log

    cell_there : (k : ℕ) (o : _) → slice_get now.cells k ≡ Some o → slice_get (cells_of now) k ≡ Some (cell_of (drawn now) o)
    cell_there k o at = map_get (cell_of (drawn now)) now.cells k ∙ ap (option_map (cell_of (drawn now))) at

    pub cell_now : (k : ℕ) (o : _) → slice_get now.cells k ≡ Some o → (k < length cells) × (cell cells k ≡ cell_of (drawn now) o)
    cell_now k o at = (
      subst (λ cs. k < length cs) (sym are) (get_below (cells_of now) k (cell_of (drawn now) o) (cell_there k o at)),
      ap (λ cs. cell cs k) are ∙ get_or (cells_of now) k (cell_of (drawn now) o) (0, false) (cell_there k o at),
    )

    door_now : (0 < length cells) × (cell cells 0 ≡ (drawn now, true))
    door_now = cell_now 0 Door ((good_now.owned.door 0).1 refl)

    word_now : (array index k : ℕ) → slice_get (now.arrays array) index ≡ Some k →
        (k < length cells) × (cell cells k ≡ (number_of (word_at (words_in now array) index), true))
    word_now array index k at =
        let (w, there) = good_now.owned.buckets array index k at in
        let here = cell_now k (Bucket w) there in
        let word : word_at (words_in now array) index ≡ w =
        get_or (words_in now array) index (word_in now.cells k) _ (map_get (word_in now.cells) (now.arrays array) index ∙ ap (option_map (word_in now.cells)) at)
        ∙ ap word_of (get_or now.cells k (Bucket w) Door there) in
        (here.0, here.1 ∙ ap (λ v. (number_of v, true)) (sym word))

    pub cells_now : ((0 < length cells) × (cell cells 0 ≡ (drawn now, true)))
        × ((array index k : ℕ) → slice_get (now.arrays array) index ≡ Some k →
        (k < length cells) × (cell cells k ≡ (number_of (word_at (words_in now array) index), true)))
        × ((k n : ℕ) (home : Bool) → slice_get now.cells k ≡ Some (Ticket n home) → (k < length cells) × (cell cells k ≡ (0, home)))
    cells_now = (door_now, word_now, λ k n home at. cell_now k (Ticket n home) at)
