-- What a load of a bucket reads.
use Rattle.std.proofs.Common.{◌≡◌, ℕ, ◌+◌, ◌*◌, ◌<◌, Bool, false, List, [], ◌∷◌, ◌++◌, length, Some, suc, refl, sym, ap, subst, ◌∙◌, arith}
use Rattle.std.specs.List.{slice_get}
use mathlib.Core.List.{IsPrefix}
use Rattle.moka_words.specs.declared.words.Word.{Word}
use Rattle.moka_words.specs.Words.{is_sealed, node_of, word_at}
use Rattle.moka_words.specs.Arrays.{bucket_at}
use Rattle.moka_growth.specs.Fits.{HasBeenRoot}
use Rattle.moka_growth.proofs.Mapped.{bare_is_root}
use Rattle.moka_pairs.proofs.Names.{agrees_now}
use Rattle.moka_history.specs.declared.note.Note.{Note}
use Rattle.moka_history.specs.declared.note.Note.TheVariants.{Opened}
use Rattle.moka_history.specs.States.{memory_of, words_in}
use Rattle.moka_history.specs.Logs.{entries_of, state_of}
use Rattle.moka_history.specs.Cells.{cells_of, number_of}
use Rattle.moka_history.specs.Rules.{IsFront, IsGood, IsKept, IsOpenedFor, IsRooted, IsSameOrSealed, Lasts, keys_of}
use Rattle.moka_history.specs.Keeping.{IsSmall}
use Rattle.moka_history.proofs.Fronts.{cells_now, good_now, length_now, row_now, segments_are, words_have_pairs}
use Rattle.moka_history.proofs.Lists.{prefix_through}
use Rattle.moka_shared.specs.Hashing.{segment_of}
use Rattle.moka_shared.specs.Probing.{GoesOn, IsFirstRoot, IsLogOf, Loads, ReadsAt, ReadsNode}
use Rattle.moka_shared.specs.Steps.{Sees}
use Rattle.moka_shared.specs.Tables.{Table}

-- a log was opened in one way
same_opening : {K V S : Type 0} (n m a b : ℕ) (s u : S) (log : List (Note K V S)) → IsOpenedFor n a s log → IsOpenedFor m b u log →
    (n ≡ m) × (a ≡ b) × (s ≡ u)
same_opening n m a b s u log p q = (cc (p.1, q.1), cc (p.1, q.1), cc (p.1, q.1))

-- a log that goes on was opened as before
pub opened_more : {K V S : Type 0} (n a : ℕ) (s : S) (old new : List (Note K V S)) → IsOpenedFor n a s old → IsPrefix old new → IsOpenedFor n a s new
opened_more n a s old new p more = (p.0 ++ more.0, sym more.1 ∙ ap (λ l. l ++ more.0) p.1)

-- a log that goes on from a book's beginning
pub opened_by : {K V S : Type 0} (n a : ℕ) (s : S) (start log : List (Note K V S)) → start ≡ Opened n a s ∷ [] → IsPrefix start log → IsOpenedFor n a s log
opened_by n a s start log begun more = (more.0, sym more.1 ∙ ap (λ l. l ++ more.0) begun)

-- it has its first note
pub opened_some : {K V S : Type 0} (n a : ℕ) (s : S) (log : List (Note K V S)) → IsOpenedFor n a s log → 0 < length log
opened_some n a s log p = subst (λ l. 0 < length l) (sym p.1) (omega arith)

module _ {K V S : Type 0} (eq : K → K → Bool) (hash : S → K → ℕ) (place : S → ℕ → K → ℕ) (t : Table S) where
  module _ (log : List (Note K V S)) (x : IsLogOf eq hash place t log) where
    same : (x.kept.segments ≡ t.segments) × (x.kept.size ≡ t.size) × (x.kept.hasher ≡ t.hasher)
    same = same_opening x.kept.segments t.segments x.kept.size t.size x.kept.hasher t.hasher log x.kept.opened x.opened

    pub good_as : (front : List (Note K V S)) → IsFront front log →
        IsGood eq (hash t.hasher) (place t.hasher t.segments) (state_of front) (entries_of front)
    good_as front at =
        subst (λ n. IsGood eq (hash t.hasher) (place t.hasher n) (state_of front) (entries_of front)) same.0
        (subst (λ s. IsGood eq (hash s) (place s x.kept.segments) (state_of front) (entries_of front)) same.2 (x.kept.good front at))

    pub lasts_as : (front next : List (Note K V S)) → IsFront front next → IsPrefix next log →
        Lasts eq (place t.hasher t.segments) (state_of front) (state_of next)
    lasts_as front next at begins =
        subst (λ n. Lasts eq (place t.hasher n) (state_of front) (state_of next)) same.0
        (subst (λ s. Lasts eq (place s x.kept.segments) (state_of front) (state_of next)) same.2 (x.kept.lasts front next at begins))

    pub still_as : (front next : List (Note K V S)) → IsFront front next → IsPrefix next log → length (entries_of next) ≡ length (entries_of front) →
        (i a index : ℕ) → IsRooted (state_of front) i a →
        IsSameOrSealed (word_at (words_in (state_of front) a) index) (word_at (words_in (state_of next) a) index)
    still_as = x.kept.still

    -- it is kept as one of the table
    abbrev pub kept_as : IsKept eq hash place log
    kept_as = record {
      segments = t.segments;
      size = t.size;
      hasher = t.hasher;
      opened = x.opened;
      good = good_as;
      lasts = lasts_as;
      still = still_as;
      seals = x.kept.seals;
    }

    -- the first array of a segment is its root, or was it
    pub first_rooted : (segment : ℕ) → segment < t.segments → IsRooted (state_of log) segment (suc segment)
    first_rooted segment below =
        let low = subst (λ n. segment < n) (sym (segments_are eq hash place log kept_as)) below in
        record { within = low; rooted = record { place = 0; before = (good_now eq hash place log kept_as).linked.some segment low; there = refl } }

    pub first_was : (segment : ℕ) → segment < t.segments → HasBeenRoot (memory_of (state_of log) segment) (suc segment)
    first_was segment below = (first_rooted segment below).rooted

    module _ (segment index : ℕ) (below : segment < t.segments) (inside : index < t.size) where
      -- it is the root where one of its words isn't sealed
      pub bare_first : is_sealed (word_at (words_in (state_of log) (suc segment)) index) ≡ false → IsFirstRoot segment log
      bare_first bare =
          let good = good_now eq hash place log kept_as in
          let low = (first_rooted segment below).within in
          let long = length_now eq hash place log kept_as segment below in
          let known = keys_of (place t.hasher t.segments) (state_of log) segment in
          bare_is_root (memory_of (state_of log) segment) (memory_of (state_of log) segment) (good.sound segment low known (agrees_now known))
          (suc segment) index (first_was segment below) (omega (arith, inside, long)) bare

      pub row_is : slice_get ((state_of log).arrays (suc segment)) index ≡ Some (1 + (segment * t.size + index))
      row_is = row_now eq hash place log kept_as segment below index inside ∙ ap Some (omega arith)

  -- what is seen after a log
  module _ (old new : List (Note K V S)) (x : IsLogOf eq hash place t old) (segment index : ℕ) (below : segment < t.segments) (inside : index < t.size)
      (found : ℕ) (sees : Sees eq hash place (1 + (segment * t.size + index)) found old new) where
    new_log : IsLogOf eq hash place t new
    new_log = record { kept = sees.kept; opened = opened_more t.segments t.size t.hasher old new x.opened sees.begins; some = x.some }

    abbrev read : Word
    read = word_at (words_in (state_of new) (suc segment)) index

    pub found_is : found ≡ number_of read
    found_is = ap (λ y. y.0)
        (sym sees.holds ∙ ((cells_now eq hash place new (kept_as new new_log) (cells_of (state_of new)) refl).1 (suc segment) index (1 + (segment * t.size + index))
        (row_is new new_log segment index below inside)).1)

    read_small : IsSmall read
    read_small n named = (words_have_pairs eq hash place new (kept_as new new_log) segment (suc segment) (first_rooted new new_log segment below) index n named).3

    pub loaded : (word : Word) → ((w : Word) → IsSmall w → found ≡ number_of w → word ≡ w) → Loads eq hash place t segment index word old new
    loaded word told =
        let is : word ≡ read = told read read_small found_is in
        record {
          goes_on = record { begins = sees.begins; is_log = new_log };
          there = sym is;
          small = subst IsSmall (sym is) read_small;
        }

  -- a log that goes on goes on further
  pub goes_through : (a b c : List (Note K V S)) → GoesOn eq hash place t a b → GoesOn eq hash place t b c → GoesOn eq hash place t a c
  goes_through a b c x y = record { begins = prefix_through a b c x.begins y.begins; is_log = y.is_log }

  -- where a word was read
  pub reads_at : (old new : List (Note K V S)) (segment index : ℕ) (word : Word) → Loads eq hash place t segment index word old new → (h passed : ℕ) →
      segment ≡ segment_of t.segments h → index ≡ bucket_at t.size h passed → passed < t.size → ReadsAt t h passed word new
  reads_at old new segment index word loads h passed is at inside = record {
    within = inside;
    there = ap (λ s. word_at (words_in (state_of new) (suc s)) (bucket_at t.size h passed)) (sym is)
        ∙ (ap (λ k. word_at (words_in (state_of new) (suc segment)) k) (sym at) ∙ loads.there);
  }

  -- the word that an exchange met where the hash leads
  pub found_there : (old new : List (Note K V S)) → IsLogOf eq hash place t old → (h passed segment index there found : ℕ) → segment ≡ segment_of t.segments h →
      index ≡ bucket_at t.size h passed → segment < t.segments → index < t.size → there ≡ 1 + (segment * t.size + index) → passed < t.size →
      Sees eq hash place there found old new → (word : Word) → ((w : Word) → IsSmall w → found ≡ number_of w → word ≡ w) → ReadsAt t h passed word new
  found_there old new x h passed segment index there found is at below inside there_is within sees word told =
      let sees_there = subst (λ k. Sees eq hash place k found old new) there_is sees in
      reads_at old new segment index word (loaded old new x segment index below inside found sees_there word told) h passed is at within

  -- a node that was read has a pair
  pub pair_read : (log : List (Note K V S)) → IsLogOf eq hash place t log → (h n : ℕ) → segment_of t.segments h < t.segments → ReadsNode t h n log →
      (p : K × V) × ((state_of log).pairs n ≡ Some p)
  pair_read log x h n below reads =
      let pair = words_have_pairs eq hash place log (kept_as log x) (segment_of t.segments h) (suc (segment_of t.segments h)) (first_rooted log x (segment_of t.segments h) below)
      (bucket_at t.size h reads.passed) n
      (ap node_of reads.reads.there ∙ reads.names) in
      (pair.0, pair.1)
