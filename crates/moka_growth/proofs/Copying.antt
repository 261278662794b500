-- Links, copies and swings keep a segment sound.
use Rattle.std.proofs.Common.{◌≡◌, ◌≢◌, ◌⊎◌, ℕ, ◌+◌, ◌*◌, ◌<◌, ◌≤◌, Bool, true, false, List, [], ◌∷◌, ◌++◌, length, replicate, Option, Some, None, zero, suc, inl, inr, refl, sym, ap, subst, ◌∙◌, arith, set, ltb, if◌then◌else◌}
use Rattle.std.specs.Int.{IsPowerOfTwo}
use Rattle.std.specs.List.{slice_get}
use Rattle.std.proofs.Math.Nat.{pow-succ'}
use Rattle.std.proofs.lemmas.Bool.{cases_eq, cases_lt}
use Rattle.std.proofs.lemmas.List.{length-set, length-replicate, length-append, get_or-replicate, get_or_past, ext_get_or}
use Rattle.std.proofs.lemmas.Option.{slice_get_within, slice_get-get_or}
use Rattle.moka_words.specs.declared.words.Word.{Word}
use Rattle.moka_words.specs.declared.words.Word.TheVariants.{Unset}
use Rattle.moka_words.specs.Words.{node_of, stored_in, word_at, NamesKeys}
use Rattle.moka_words.specs.Arrays.{IsArray}
use Rattle.moka_words.specs.Layout.{IsEmptyOrLive, stored_nodes, layout}
use Rattle.moka_words.specs.Effect.{Memory, array_at, array_before, root, words_of, SetsWord, Links, Swings}
use Rattle.moka_words.proofs.Lasts.{set_cases}
use Rattle.moka_words.proofs.Laying.{layout_array, layout_stores, stored_is_key}
use Rattle.moka_words.proofs.Placing.{layout_is_filled, layout_length}
use Rattle.moka_growth.specs.Growing.{IsSealed, next_size}
use Rattle.moka_growth.specs.Sound.{IsRoot, IsNext, IsSound}
use Rattle.moka_growth.specs.Fits.{IsLeft}
use Rattle.moka_growth.proofs.Places.{root_at, two_numbers, no_number, same_number}
use Rattle.moka_growth.proofs.Sounding.{words_sound}

-- each word past the end is unset
pub unset_past : (words : List Word) (i : ℕ) → length words ≤ i → word_at words i ≡ Unset
unset_past words i h = get_or_past words i Unset h

pub all_unset : (size i : ℕ) → word_at (replicate size Unset) i ≡ Unset
all_unset size i = elim (cases_lt i size) [
  | inl h ↦ get_or-replicate size i Unset Unset h
  | inr h ↦ let long = length-replicate size Unset in unset_past (replicate size Unset) i (omega arith)
]

-- an array that follows another one is as long, or twice as long, or 128 words long
pub next_power : (before : Option ℕ) (size stored : ℕ) → (before ≡ None ⊎ IsPowerOfTwo size) →
    IsPowerOfTwo (next_size before size stored)
next_power None size stored h = (7, refl)
next_power (Some a) size stored (inl h) = absurd (cc h)
next_power (Some a) size stored (inr h) = by (ltb (7 * size) (10 * stored))
  where
    by : (b : Bool) → IsPowerOfTwo (if b then 2 * size else size)
    by true = (suc h.0, ap (λ n. 2 * n) h.1 ∙ sym (pow-succ' 2 h.0))
    by false = h

pub next_longer : (before : Option ℕ) (size stored : ℕ) → (before ≡ None → size ≡ 0) → size ≤ next_size before size stored
next_longer None size stored h = let none = h refl in omega arith
next_longer (Some a) size stored h = by (ltb (7 * size) (10 * stored))
  where
    by : (b : Bool) → size ≤ (if b then 2 * size else size)
    by true = omega arith
    by false = omega arith

-- a list with one more number at its end
pub one_more_cases : (xs : List ℕ) (y p a : ℕ) → slice_get (xs ++ y ∷ []) p ≡ Some a →
    (slice_get xs p ≡ Some a) ⊎ ((p ≡ length xs) × (a ≡ y))
one_more_cases [] y zero a e = inr (refl, sym (same_number e))
one_more_cases [] y (suc p) a e = absurd (cc e)
one_more_cases (x ∷ xs) y zero a e = inl e
one_more_cases (x ∷ xs) y (suc p) a e = by (one_more_cases xs y p a e)
  where
    by : (slice_get xs p ≡ Some a) ⊎ ((p ≡ length xs) × (a ≡ y)) →
        (slice_get xs p ≡ Some a) ⊎ ((suc p ≡ length (x ∷ xs)) × (a ≡ y))
    by (inl d) = inl d
    by (inr d) = inr (let last = d.0 in omega arith, d.1)

pub one_more_at : (xs : List ℕ) (y : ℕ) → slice_get (xs ++ y ∷ []) (length xs) ≡ Some y
one_more_at [] y = refl
one_more_at (x ∷ xs) y = one_more_at xs y

pub one_more_before : (xs : List ℕ) (y p : ℕ) → p < length xs → slice_get (xs ++ y ∷ []) p ≡ slice_get xs p
one_more_before [] y p h = absurd (omega arith)
one_more_before (x ∷ xs) y zero h = refl
one_more_before (x ∷ xs) y (suc p) h = one_more_before xs y p (omega arith)

-- the words of an array that stands before others, where only those of another one have changed
pub before_words : (old new : Memory) (a : ℕ) → ((b : ℕ) → b ≢ a → new.words b ≡ old.words b) → (p : ℕ) →
    ((q b : ℕ) → q < p → array_at old q ≡ Some b → b ≢ a) →
    words_of new (array_before old p) ≡ words_of old (array_before old p)
before_words old new a others zero other = refl
before_words old new a others (suc q) other = by (array_at old q) refl
  where
    by : (o : Option ℕ) → array_at old q ≡ o → words_of new o ≡ words_of old o
    by None e = refl
    by (Some b) e = others b (other q b (omega arith) e)

-- a next array whose words are all set is laid out as the array before it
pub set_is_laid : {hash : ℕ → ℕ} (before : Option ℕ) (left_words words : List Word) → IsNext hash before left_words words →
    ((i : ℕ) → i < length words → word_at words i ≢ Unset) → words ≡ layout hash left_words (length words)
set_is_laid {hash} before left_words words next set_ = ext_get_or Unset words (layout hash left_words (length words))
    (sym (layout_length hash left_words (length words))) (λ i h. by i h (next.laid i))
  where
    by : (i : ℕ) → i < length words → (word_at words i ≡ Unset) ⊎ (word_at words i ≡ word_at (layout hash left_words (length words)) i) →
        word_at words i ≡ word_at (layout hash left_words (length words)) i
    by i h (inl e) = absurd (set_ i h e)
    by i h (inr e) = e

-- the next array has room for what the array before it stores
pub next_has_room : {hash : ℕ → ℕ} (m : Memory) (a : ℕ) → IsNext hash (root m) (words_of m (root m)) (m.words a) →
    length (words_of m (root m)) ≤ length (m.words a)
next_has_room {hash} m a next = subst (λ n. length (words_of m (root m)) ≤ n) (sym next.size)
    (next_longer (root m) (length (words_of m (root m))) (length (stored_nodes (words_of m (root m)))) (none (root m)))
  where
    none : (o : Option ℕ) → o ≡ None → length (words_of m o) ≡ 0
    none None e = refl
    none (Some b) e = absurd (cc e)

-- a link leaves what stands before an old place
pub links_before : (size : ℕ) (old new : Memory) → Links size old new → (q : ℕ) → q ≤ length old.arrays →
    array_before new q ≡ array_before old q
links_before size old new links zero h = refl
links_before size old new links (suc q) h = ap (λ xs. slice_get xs q) links.arrays ∙
    one_more_before old.arrays old.fresh q (omega arith)

pub links_before_words : (size : ℕ) (old new : Memory) → Links size old new → ((p a : ℕ) → array_at old p ≡ Some a → a < old.fresh) →
    (q : ℕ) → words_of new (array_before old q) ≡ words_of old (array_before old q)
links_before_words size old new links numbered zero = refl
links_before_words size old new links numbered (suc q) = by (array_at old q) refl
  where
    by : (o : Option ℕ) → array_at old q ≡ o → words_of new o ≡ words_of old o
    by None e = refl
    by (Some b) e = links.others b (λ d. let below = numbered q b e in absurd (omega arith))

module _ {hash : ℕ → ℕ} {same : ℕ → ℕ → Bool} {mine : ℕ → Bool} where
  -- an array that has been root has no unset word
  pub rooted_set : (m : Memory) → IsSound hash same mine m → (p a : ℕ) → p < m.rooted → array_at m p ≡ Some a → (i : ℕ) →
      i < length (m.words a) → word_at (m.words a) i ≢ Unset
  rooted_set m sound p a before there i within = (sound.roots p a before there).set i within

  -- the words of the root are an array, with keys of the segment
  pub root_is_array : (m : Memory) → IsSound hash same mine m →
      IsArray hash same (words_of m (root m)) × ((i n : ℕ) → node_of (word_at (words_of m (root m)) i) ≡ Some n → mine n ≡ true)
  root_is_array m sound = by m.rooted refl
    where
      Is : Option ℕ → Type 0
      Is o = IsArray hash same (words_of m o) × ((i n : ℕ) → node_of (word_at (words_of m o) i) ≡ Some n → mine n ≡ true)

      none : Is None
      none = (record { one = λ i j n k d e alike. absurd (cc d); reached = λ i n d. absurd (cc d) }, λ i n d. absurd (cc d))

      some : (p : ℕ) → suc p ≡ m.rooted → (o : Option ℕ) → array_at m p ≡ o → Is o
      some p e None d = none
      some p e (Some a) d = let is_root = sound.roots p a (omega arith) d in (is_root.array, is_root.keys)

      by : (r : ℕ) → r ≡ m.rooted → Is (array_before m r)
      by zero e = none
      by (suc p) e = some p e (array_at m p) refl

  -- an array with an unset word that stands at most where the next one does is the next one
  pub unset_is_next : (m : Memory) → IsSound hash same mine m → (p a i : ℕ) → p ≤ m.rooted → array_at m p ≡ Some a →
      i < length (m.words a) → word_at (m.words a) i ≡ Unset → p ≡ m.rooted
  unset_is_next m sound p a i rooted there within unset = elim (cases_lt p m.rooted) [
    | inl h ↦ absurd (rooted_set m sound p a h there i within unset)
    | inr h ↦ omega arith
  ]

  pub copy_sound : (old new : Memory) → IsSound hash same mine old → (p : ℕ) (from : Option ℕ) (a i : ℕ) (w : Word) →
      IsLeft old p from → array_at old p ≡ Some a → i < length (old.words a) → word_at (old.words a) i ≡ Unset →
      w ≡ word_at (layout hash (words_of old from) (length (old.words a))) i → SetsWord a i w old new →
      IsSound hash same mine new
  copy_sound old new sound p from a i w left_ there within unset w_is sets =
      words_sound old new sets.2 sound lengths left roots follows
    where
      place : p ≡ old.rooted
      place = unset_is_next old sound p a i left_.rooted there within unset

      other : (q b : ℕ) → q < old.rooted → array_at old q ≡ Some b → b ≢ a
      other q b h e d = let one = sound.one q p b e (there ∙ ap Some (sym d)) in let at = place in absurd (omega arith)

      lengths : (q b : ℕ) → array_at old q ≡ Some b → length (new.words b) ≡ length (old.words b)
      lengths q b e = elim (cases_eq b a) [
        | inl d ↦ subst (λ x. length (new.words x) ≡ length (old.words x)) (sym d)
            (ap (λ ws. length ws) sets.0 ∙ length-set (old.words a) i w)
        | inr d ↦ ap (λ ws. length ws) (sets.1 b d)
      ]

      left : (q b : ℕ) → suc q < old.rooted → array_at old q ≡ Some b → new.words b ≡ old.words b
      left q b h e = sets.1 b (other q b (omega arith) e)

      roots : (q b : ℕ) → q < old.rooted → array_at old q ≡ Some b → IsRoot hash same mine (new.words b)
      roots q b h e = subst (λ ws. IsRoot hash same mine ws) (sym (sets.1 b (other q b h e))) (sound.roots q b h e)

      from_is : root old ≡ from
      from_is = ap (λ r. array_before old r) (sym place) ∙ left_.stands.there

      long : length (set (old.words a) i w) ≡ length (old.words a)
      long = length-set (old.words a) i w

      set_next : IsNext hash (root old) (words_of old (root old)) (old.words a) →
          IsNext hash (root old) (words_of old (root old)) (set (old.words a) i w)
      set_next next = record {
        sealed = next.sealed;
        size = long ∙ next.size;
        laid = λ j. subst
            (λ l. (word_at (set (old.words a) i w) j ≡ Unset) ⊎ (word_at (set (old.words a) i w) j ≡ word_at (layout hash (words_of old (root old)) l) j))
            (sym long)
            (set_cases (λ v. (v ≡ Unset) ⊎ (v ≡ word_at (layout hash (words_of old (root old)) (length (old.words a))) j)) (old.words a)
            i w j (next.laid j)
            (λ e. inr (w_is ∙ (ap (λ o. word_at (layout hash (words_of old o) (length (old.words a))) i) (sym from_is)
            ∙ ap (λ k. word_at (layout hash (words_of old (root old)) (length (old.words a))) k) (sym e)))));
      }

      follows : (b : ℕ) → array_at old old.rooted ≡ Some b →
          IsNext hash (root old) (words_of new (root old)) (new.words b)
      follows b e =
          let array : b ≡ a = two_numbers e (ap (λ q. array_at old q) (sym place) ∙ there) in
          subst (λ ws. IsNext hash (root old) ws (new.words b)) (sym (before_words old new a sets.1 old.rooted other))
          (subst (λ x. IsNext hash (root old) (words_of old (root old)) (new.words x)) (sym array)
          (subst (λ ws. IsNext hash (root old) (words_of old (root old)) ws) (sym sets.0)
          (set_next (subst (λ x. IsNext hash (root old) (words_of old (root old)) (old.words x)) array (sound.follows b e)))))

  pub link_sound : (old new : Memory) → IsSound hash same mine old → (p : ℕ) (array : Option ℕ) (size : ℕ) → IsLeft old p array →
      array_at old p ≡ None →
      size ≡ next_size array (length (words_of old array)) (length (stored_nodes (words_of old array))) →
      Links size old new → IsSound hash same mine new
  link_sound old new sound p array size left_ free size_is links =
      record {
        one = one;
        numbered = numbered;
        power = power;
        linked = let r = links.rooted in let n = counted in let w = sound.linked in omega arith;
        waits = let r = links.rooted in let n = counted in let l = last in let q = place in omega arith;
        left = left;
        roots = roots;
        follows = follows;
      }
    where
      counted : length new.arrays ≡ length old.arrays + 1
      counted = ap (λ xs. length xs) links.arrays ∙ length-append old.arrays (old.fresh ∷ [])

      -- there is no array here: it is the place of the next one
      last : p ≡ length old.arrays
      last = elim (cases_lt p (length old.arrays)) [
        | inl h ↦ absurd (no_number free (slice_get-get_or old.arrays p 0 h))
        | inr h ↦ let within = left_.stands.within in omega arith
      ]

      place : p ≡ old.rooted
      place = let at = last in let rooted = left_.rooted in let linked = sound.linked in omega arith

      cases : (q b : ℕ) → array_at new q ≡ Some b → (array_at old q ≡ Some b) ⊎ ((q ≡ length old.arrays) × (b ≡ old.fresh))
      cases q b e = one_more_cases old.arrays old.fresh q b (ap (λ xs. slice_get xs q) (sym links.arrays) ∙ e)

      old_words : (q b : ℕ) → array_at old q ≡ Some b → new.words b ≡ old.words b
      old_words q b e = links.others b (λ d. let below = sound.numbered q b e in absurd (omega arith))

      old_place : (q b : ℕ) → q < old.rooted → array_at new q ≡ Some b → array_at old q ≡ Some b
      old_place q b h e = elim (cases q b e) [
        | inl d ↦ d
        | inr d ↦ let at = last in let next = place in let here = d.0 in absurd (omega arith)
      ]

      one : (q r b : ℕ) → array_at new q ≡ Some b → array_at new r ≡ Some b → q ≡ r
      one q r b d e = by (cases q b d) (cases r b e)
        where
          by : (array_at old q ≡ Some b) ⊎ ((q ≡ length old.arrays) × (b ≡ old.fresh)) →
              (array_at old r ≡ Some b) ⊎ ((r ≡ length old.arrays) × (b ≡ old.fresh)) → q ≡ r
          by (inl x) (inl y) = sound.one q r b x y
          by (inl x) (inr y) = let below = sound.numbered q b x in let new_one = y.1 in absurd (omega arith)
          by (inr x) (inl y) = let below = sound.numbered r b y in let new_one = x.1 in absurd (omega arith)
          by (inr x) (inr y) = x.0 ∙ sym y.0

      numbered : (q b : ℕ) → array_at new q ≡ Some b → b < new.fresh
      numbered q b e = let given = links.fresh in elim (cases q b e) [
        | inl d ↦ let below = sound.numbered q b d in omega arith
        | inr d ↦ let new_one = d.1 in omega arith
      ]

      size_power : IsPowerOfTwo size
      size_power = subst (λ n. IsPowerOfTwo n) (sym size_is)
          (next_power array (length (words_of old array)) (length (stored_nodes (words_of old array)))
          (by p left_.stands.there))
        where
          some : (q : ℕ) (o : Option ℕ) → array_at old q ≡ o → (o ≡ None) ⊎ IsPowerOfTwo (length (words_of old o))
          some q None e = inl refl
          some q (Some b) e = inr (sound.power q b e)

          by : (q : ℕ) → array_before old q ≡ array → (array ≡ None) ⊎ IsPowerOfTwo (length (words_of old array))
          by zero e = inl (sym e)
          by (suc q) e = some q array e

      power : (q b : ℕ) → array_at new q ≡ Some b → IsPowerOfTwo (length (new.words b))
      power q b e = elim (cases q b e) [
        | inl d ↦ subst (λ ws. IsPowerOfTwo (length ws)) (sym (old_words q b d)) (sound.power q b d)
        | inr d ↦ subst (λ x. IsPowerOfTwo (length (new.words x))) (sym d.1)
            (subst (λ ws. IsPowerOfTwo (length ws)) (sym links.unset)
            (subst (λ n. IsPowerOfTwo n) (sym (length-replicate size Unset)) size_power))
      ]

      left : (q b : ℕ) → suc q < new.rooted → array_at new q ≡ Some b → IsSealed (new.words b)
      left q b h e = let r = links.rooted in let d = old_place q b (omega arith) e in
          subst (λ ws. IsSealed ws) (sym (old_words q b d)) (sound.left q b (omega arith) d)

      roots : (q b : ℕ) → q < new.rooted → array_at new q ≡ Some b → IsRoot hash same mine (new.words b)
      roots q b h e = let r = links.rooted in let d = old_place q b (omega arith) e in
          subst (λ ws. IsRoot hash same mine ws) (sym (old_words q b d)) (sound.roots q b (omega arith) d)

      root_is : root new ≡ array
      root_is = ap (λ r. array_before new r) (links.rooted ∙ sym place) ∙
          (links_before size old new links p left_.stands.within ∙ left_.stands.there)

      root_words_are : words_of new (root new) ≡ words_of old array
      root_words_are = ap (words_of new) (root_is ∙ sym left_.stands.there) ∙
          (links_before_words size old new links sound.numbered p ∙ ap (words_of old) left_.stands.there)

      follows : (b : ℕ) → array_at new new.rooted ≡ Some b → IsNext hash (root new) (words_of new (root new)) (new.words b)
      follows b e =
          let at : new.rooted ≡ length old.arrays = let r = links.rooted in let l = last in let q = place in omega arith in
          let fresh : b ≡ old.fresh = two_numbers e (ap (λ r. array_at new r) at ∙
          (ap (λ xs. slice_get xs (length old.arrays)) links.arrays ∙ one_more_at old.arrays old.fresh)) in
          subst (λ x. IsNext hash (root new) (words_of new (root new)) (new.words x)) (sym fresh)
          (subst (λ ws. IsNext hash (root new) (words_of new (root new)) ws) (sym links.unset)
          (subst (λ ws. IsNext hash (root new) ws (replicate size Unset)) (sym root_words_are)
          (subst (λ o. IsNext hash o (words_of old array) (replicate size Unset)) (sym root_is)
          (record {
            sealed = left_.sealed;
            size = length-replicate size Unset ∙ size_is;
            laid = λ i. inl (all_unset size i);
          }))))

  laid_root : (names : NamesKeys hash same) (left_words : List Word) (size : ℕ) → length left_words ≤ size →
      IsArray hash same left_words → ((i n : ℕ) → node_of (word_at left_words i) ≡ Some n → mine n ≡ true) →
      IsRoot hash same mine (layout hash left_words size)
  laid_root names left_words size room array keys = record {
    array = layout_array hash same names left_words size array;
    set = λ i h. unset i (filled i h);
    keys = keys_laid;
  }
    where
      filled : (i : ℕ) → i < length (layout hash left_words size) → IsEmptyOrLive (word_at (layout hash left_words size) i)
      filled i h = (layout_is_filled hash left_words size).1 i (subst (λ l. i < l) (layout_length hash left_words size) h)

      unset : (i : ℕ) → IsEmptyOrLive (word_at (layout hash left_words size) i) → word_at (layout hash left_words size) i ≢ Unset
      unset i (inl e) = λ d. cc (sym e ∙ d)
      unset i (inr e) = λ d. cc (sym e.1 ∙ d)

      stored : (i n : ℕ) → IsEmptyOrLive (word_at (layout hash left_words size) i) → node_of (word_at (layout hash left_words size) i) ≡ Some n →
          stored_in (word_at (layout hash left_words size) i) ≡ Some n
      stored i n (inl e) d = absurd (cc (sym (ap node_of e) ∙ d))
      stored i n (inr e) d = ap stored_in e.1 ∙ (sym (ap node_of e.1) ∙ d)

      keys_laid : (i n : ℕ) → node_of (word_at (layout hash left_words size) i) ≡ Some n → mine n ≡ true
      keys_laid i n e = elim (cases_lt i (length (layout hash left_words size))) [
        | inl h ↦ let was = (layout_stores hash left_words size n room).1 (i, stored i n (filled i h) e) in
            keys was.0 n (stored_is_key (word_at left_words was.0) n was.1)
        | inr h ↦ absurd (cc (sym (ap node_of (unset_past (layout hash left_words size) i h)) ∙ e))
      ]

  pub swing_sound : (old new : Memory) → NamesKeys hash same → IsSound hash same mine old → (a : ℕ) →
      array_at old old.rooted ≡ Some a → ((i : ℕ) → i < length (old.words a) → word_at (old.words a) i ≢ Unset) →
      Swings old new → IsSound hash same mine new
  swing_sound old new names sound a there set_ swings =
      let r = swings.rooted in
      let f = swings.fresh in
      let counted : length new.arrays ≡ length old.arrays = ap (λ xs. length xs) swings.arrays in
      let waits = sound.waits in
      let within = slice_get_within old.arrays old.rooted a there in
      record {
        one = λ p q b d e. sound.one p q b (at p ∙ d) (at q ∙ e);
        numbered = λ p b d. let below = sound.numbered p b (at p ∙ d) in omega arith;
        power = λ p b d. subst (λ ws. IsPowerOfTwo (length ws)) (sym (swings.words b)) (sound.power p b (at p ∙ d));
        linked = omega arith;
        waits = omega arith;
        left = λ p b h d. subst (λ ws. IsSealed ws) (sym (swings.words b)) (left p b (omega arith) (at p ∙ d));
        roots = λ p b h d. subst (λ ws. IsRoot hash same mine ws) (sym (swings.words b)) (roots p b (omega arith) (at p ∙ d));
        follows = λ b d. let past = slice_get_within new.arrays new.rooted b d in absurd (omega arith);
      }
    where
      at : (p : ℕ) → array_at old p ≡ array_at new p
      at p = ap (λ xs. slice_get xs p) (sym swings.arrays)

      next : IsNext hash (root old) (words_of old (root old)) (old.words a)
      next = sound.follows a there

      left : (p b : ℕ) → p < old.rooted → array_at old p ≡ Some b → IsSealed (old.words b)
      left p b h e = elim (cases_lt (suc p) old.rooted) [
        | inl before ↦ sound.left p b before e
        | inr last ↦ subst (λ o. IsSealed (words_of old o)) (root_at old p (omega arith) ∙ e) next.sealed
      ]

      swung : (p b : ℕ) → p ≡ old.rooted → array_at old p ≡ Some b → IsRoot hash same mine (old.words b)
      swung p b h e =
          let array : b ≡ a = two_numbers e (ap (λ q. array_at old q) h ∙ there) in
          let was = root_is_array old sound in
          subst (λ x. IsRoot hash same mine (old.words x)) (sym array)
          (subst (λ ws. IsRoot hash same mine ws) (sym (set_is_laid (root old) (words_of old (root old)) (old.words a) next set_))
          (laid_root names (words_of old (root old)) (length (old.words a)) (next_has_room old a next) was.0 was.1))

      roots : (p b : ℕ) → p ≤ old.rooted → array_at old p ≡ Some b → IsRoot hash same mine (old.words b)
      roots p b h e = elim (cases_lt p old.rooted) [
        | inl before ↦ sound.roots p b before e
        | inr last ↦ swung p b (omega arith) e
      ]
