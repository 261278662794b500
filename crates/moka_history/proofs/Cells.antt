-- What notes make of the cells, and of the words of arrays.
use Rattle.std.proofs.Common.{◌≡◌, ◌≢◌, ℕ, ◌<◌, List, [], ◌∷◌, ◌++◌, map, length, Option, Some, zero, suc, refl, sym, ap, subst, ◌∙◌, arith, set, slice_index_or, length-append, false}
use Rattle.std.specs.List.{slice_get}
use Rattle.moka_words.specs.declared.words.Word.{Word}
use Rattle.moka_words.specs.Effect.{SetsWord}
use Rattle.moka_history.specs.declared.note.Note.{Note}
use Rattle.moka_history.specs.declared.note.Note.TheVariants.{Announced, Changed, Sealed, Copied}
use Rattle.moka_history.specs.States.{Owner, Door, Bucket, Ticket, Array, Row, Next, Root, State, IsPlaced, after, key_at, memory_of, spent, word_in, words_in}

one_item : {A : Type 0} {x y : A} → Some x ≡ Some y → x ≡ y
one_item e = cc

-- a ticket that is spent changes no word
word_spent : (ticket : ℕ) (cells : List Owner) (k : ℕ) → word_in (map (spent ticket) cells) k ≡ word_in cells k
word_spent ticket [] k = refl
word_spent ticket (Door ∷ cells) zero = refl
word_spent ticket (Bucket w ∷ cells) zero = refl
word_spent ticket (Ticket n home ∷ cells) zero = refl
word_spent ticket (Array n home ∷ cells) zero = refl
word_spent ticket (Row n home ∷ cells) zero = refl
word_spent ticket (Next a to ∷ cells) zero = refl
word_spent ticket (Root segment to ∷ cells) zero = refl
word_spent ticket (x ∷ cells) (suc k) = word_spent ticket cells k

spent_length : (ticket : ℕ) (cells : List Owner) → length (map (spent ticket) cells) ≡ length cells
spent_length ticket [] = refl
spent_length ticket (x ∷ cells) = ap suc (spent_length ticket cells)

pub set_length : (cells : List Owner) (k : ℕ) (x : Owner) → length (set cells k x) ≡ length cells
set_length [] k x = refl
set_length (y ∷ cells) zero x = refl
set_length (y ∷ cells) (suc k) x = ap suc (set_length cells k x)

-- a cell that is set has its word, and others have theirs
pub word_set : (cells : List Owner) (k : ℕ) (w : Word) → k < length cells → word_in (set cells k (Bucket w)) k ≡ w
word_set [] k w within = absurd (omega arith)
word_set (x ∷ cells) zero w within = refl
word_set (x ∷ cells) (suc k) w within = word_set cells k w (omega arith)

-- a cell that is set to whatever leaves the others
pub word_beside : (cells : List Owner) (k j : ℕ) (x : Owner) → j ≢ k → word_in (set cells k x) j ≡ word_in cells j
word_beside [] k j x other = refl
word_beside (y ∷ cells) zero zero x other = absurd (other refl)
word_beside (y ∷ cells) zero (suc j) x other = refl
word_beside (y ∷ cells) (suc k) zero x other = refl
word_beside (y ∷ cells) (suc k) (suc j) x other = word_beside cells k j x (λ e. other (ap suc e))

pub word_front : (cells more : List Owner) (k : ℕ) → k < length cells → word_in (cells ++ more) k ≡ word_in cells k
word_front [] more k within = absurd (omega arith)
word_front (x ∷ cells) more zero within = refl
word_front (x ∷ cells) more (suc k) within = word_front cells more k (omega arith)

-- words of the same keys
pub words_same : (f g : ℕ → Word) (keys : List ℕ) → ((i k : ℕ) → slice_get keys i ≡ Some k → f k ≡ g k) → map f keys ≡ map g keys
words_same f g [] same = refl
words_same f g (k ∷ keys) same = ap (λ w. w ∷ map f keys) (same 0 k refl) ∙ ap (λ ws. g k ∷ ws) (words_same f g keys (λ i j e. same (suc i) j e))

pub words_set : (f g : ℕ → Word) (keys : List ℕ) (i : ℕ) (w : Word) → i < length keys → ((k : ℕ) → slice_get keys i ≡ Some k → g k ≡ w) →
    ((j k : ℕ) → j ≢ i → slice_get keys j ≡ Some k → g k ≡ f k) → map g keys ≡ set (map f keys) i w
words_set f g [] i w within here other = absurd (omega arith)
words_set f g (k ∷ keys) zero w within here other = ap (λ v. v ∷ map g keys) (here k refl)
    ∙ ap (λ ws. w ∷ ws) (words_same g f keys (λ j m e. other (suc j) m (λ d. omega (arith, d)) e))
words_set f g (k ∷ keys) (suc i) w within here other = ap (λ v. v ∷ map g keys) (other 0 k (λ d. omega (arith, d)) refl)
    ∙ ap (λ ws. f k ∷ ws) (words_set f g keys i w (omega arith) here (λ j m d e. other (suc j) m (λ x. d (omega (arith, x))) e))

pub key_there : (keys : List ℕ) (i : ℕ) → i < length keys → slice_get keys i ≡ Some (slice_index_or keys i 0)
key_there [] i within = absurd (omega arith)
key_there (k ∷ keys) zero within = refl
key_there (k ∷ keys) (suc i) within = key_there keys i (omega arith)

module _ {K V : Type 0} (S : Type 0) (s : State K V) (placed : IsPlaced s) where
  -- a ticket more
  module _ (ticket : ℕ) (pair : Option (K × V)) where
    abbrev pub announced : State K V
    announced = after {S = S} s (Announced ticket pair)

    announced_words : (a : ℕ) → words_in announced a ≡ words_in s a
    announced_words a = words_same (word_in announced.cells) (word_in s.cells) (s.arrays a)
        (λ i k e. word_front s.cells (Ticket ticket false ∷ []) k (placed.within a i k e))

    announced_placed : IsPlaced announced
    announced_placed = record {
      within = λ a i k e. let below = placed.within a i k e in let long = length-append s.cells (Ticket ticket false ∷ []) in omega (arith, below, long);
      one = placed.one;
    }

    pub announced_keeps : (note : Note K V S) → note ≡ Announced ticket pair → ((a : ℕ) → words_in (after s note) a ≡ words_in s a) × IsPlaced (after s note)
    announced_keeps note is = subst (λ x. ((a : ℕ) → words_in (after s x) a ≡ words_in s a) × IsPlaced (after s x)) (sym is) (announced_words, announced_placed)

  -- a change
  module _ (ticket array index : ℕ) (to : Word) (within : index < length (s.arrays array)) where
    abbrev pub changed : State K V
    changed = after {S = S} s (Changed ticket array index to)

    abbrev pub key : ℕ
    key = key_at s array index

    there : slice_get (s.arrays array) index ≡ Some (key_at s array index)
    there = key_there (s.arrays array) index within

    below : key_at s array index < length s.cells
    below = placed.within array index (key_at s array index) there

    word_here : (k : ℕ) → slice_get (s.arrays array) index ≡ Some k → word_in changed.cells k ≡ to
    word_here k e = word_spent ticket (set s.cells key (Bucket to)) k
        ∙ (ap (word_in (set s.cells key (Bucket to))) (one_item (sym e ∙ there)) ∙ word_set s.cells key to below)

    word_elsewhere : (k : ℕ) → k ≢ key_at s array index → word_in changed.cells k ≡ word_in s.cells k
    word_elsewhere k other = word_spent ticket (set s.cells key (Bucket to)) k ∙ word_beside s.cells key k (Bucket to) other

    words_here : words_in changed array ≡ set (words_in s array) index to
    words_here = words_set (word_in s.cells) (word_in changed.cells) (s.arrays array) index to within word_here
        (λ j k other e. word_elsewhere k (λ d. other (placed.one array array j index k e (there ∙ ap Some (sym d))).1))

    words_elsewhere : (a : ℕ) → a ≢ array → words_in changed a ≡ words_in s a
    words_elsewhere a other = words_same (word_in changed.cells) (word_in s.cells) (s.arrays a)
        (λ i k e. word_elsewhere k (λ d. other (placed.one a array i index k e (there ∙ ap Some (sym d))).0))

    changed_placed : IsPlaced changed
    changed_placed = record {
      within = λ a i k e. subst (λ n. k < n) (sym (spent_length ticket (set s.cells key (Bucket to)) ∙ set_length s.cells key (Bucket to))) (placed.within a i k e);
      one = placed.one;
    }

    pub changed_sets : (note : Note K V S) → note ≡ Changed ticket array index to → (segment : ℕ) →
        SetsWord array index to (memory_of s segment) (memory_of (after s note) segment) × IsPlaced (after s note)
    changed_sets note is segment =
        subst (λ x. SetsWord array index to (memory_of s segment) (memory_of (after s x) segment) × IsPlaced (after s x)) (sym is)
        ((words_here, words_elsewhere, record { arrays = refl; rooted = refl; fresh = refl }), changed_placed)

  -- a seal
  module _ (array index : ℕ) (to : Word) (within : index < length (s.arrays array)) where
    abbrev pub sealed_state : State K V
    sealed_state = after {S = S} s (Sealed array index to)

    abbrev sealed_key : ℕ
    sealed_key = key_at s array index

    sealed_there : slice_get (s.arrays array) index ≡ Some sealed_key
    sealed_there = key_there (s.arrays array) index within

    sealed_word : (k : ℕ) → slice_get (s.arrays array) index ≡ Some k → word_in sealed_state.cells k ≡ to
    sealed_word k e = ap (word_in (set s.cells sealed_key (Bucket to))) (one_item (sym e ∙ sealed_there))
        ∙ word_set s.cells sealed_key to (placed.within array index sealed_key sealed_there)

    sealed_here : words_in sealed_state array ≡ set (words_in s array) index to
    sealed_here = words_set (word_in s.cells) (word_in sealed_state.cells) (s.arrays array) index to within sealed_word
        (λ j k other e. word_beside s.cells sealed_key k (Bucket to) (λ d. other (placed.one array array j index k e (sealed_there ∙ ap Some (sym d))).1))

    sealed_elsewhere : (a : ℕ) → a ≢ array → words_in sealed_state a ≡ words_in s a
    sealed_elsewhere a other = words_same (word_in sealed_state.cells) (word_in s.cells) (s.arrays a)
        (λ i k e. word_beside s.cells sealed_key k (Bucket to) (λ d. other (placed.one a array i index k e (sealed_there ∙ ap Some (sym d))).0))

    sealed_placed : IsPlaced sealed_state
    sealed_placed = record {
      within = λ a i k e. subst (λ n. k < n) (sym (set_length s.cells sealed_key (Bucket to))) (placed.within a i k e);
      one = placed.one;
    }

    pub sealed_sets : (note : Note K V S) → note ≡ Sealed array index to → (segment : ℕ) →
        SetsWord array index to (memory_of s segment) (memory_of (after s note) segment) × IsPlaced (after s note)
    sealed_sets note is segment =
        subst (λ x. SetsWord array index to (memory_of s segment) (memory_of (after s x) segment) × IsPlaced (after s x)) (sym is)
        ((sealed_here, sealed_elsewhere, record { arrays = refl; rooted = refl; fresh = refl }), sealed_placed)

    -- a copy sets its word as a seal does
    pub copied_sets : (note : Note K V S) → note ≡ Copied array index to → (segment : ℕ) →
        SetsWord array index to (memory_of s segment) (memory_of (after s note) segment) × IsPlaced (after s note)
    copied_sets note is segment =
        subst (λ x. SetsWord array index to (memory_of s segment) (memory_of (after s x) segment) × IsPlaced (after s x)) (sym is)
        ((sealed_here, sealed_elsewhere, record { arrays = refl; rooted = refl; fresh = refl }), sealed_placed)
