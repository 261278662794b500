-- Each access of a fitting call keeps its segment sound, and leaves a later memory.
use Rattle.std.proofs.Common.{◌≡◌, ℕ, ◌<◌, Bool, false, List, length, Option, Some, None, inl, inr, refl, sym, ap, subst, ◌∙◌, set}
use Rattle.std.proofs.lemmas.List.{length-map}
use Rattle.moka_words.specs.declared.words.Word.{Word}
use Rattle.moka_words.specs.declared.accesses.Seen.{Seen}
use Rattle.moka_words.specs.declared.accesses.Seen.TheVariants as seen
use Rattle.moka_words.specs.Words.{is_sealed, word_at, NamesKeys}
use Rattle.moka_words.specs.Arrays.{bucket_at}
use Rattle.moka_words.specs.Layout.{stored_nodes}
use Rattle.moka_words.specs.Effect.{Memory, array_at, words_of, StandsBefore, SetsWord, Linked, Effect, IsForLater, LaterMemory}
use Rattle.moka_words.proofs.Effects.{effect_later}
use Rattle.moka_growth.specs.Growing.{seal_of, next_size, with_hashes}
use Rattle.moka_growth.specs.Sound.{IsRoot, IsSound}
use Rattle.moka_growth.specs.Calls.{Point, Call, wanted, access_of}
use Rattle.moka_growth.specs.Calls as call
use Rattle.moka_growth.specs.Fits.{IsKey, HasBeenRoot, IsProbing, IsChange, IsSealing, IsLeft, IsKept, FitsAt}
use Rattle.moka_growth.specs.Laws.{Makes}
use Rattle.moka_growth.proofs.Places.{before_one}
use Rattle.moka_growth.proofs.Exchanging.{change_bare, change_later, change_root, seal_later, seal_root, bucket_within}
use Rattle.moka_growth.proofs.Sounding.{unchanged_sound, exchange_sound}
use Rattle.moka_growth.proofs.Copying.{copy_sound, link_sound, swing_sound}

-- how many nodes are kept
pub kept_count : (hash : ℕ → ℕ) (kept : List (ℕ × ℕ)) (nodes : List ℕ) → kept ≡ with_hashes hash nodes → length kept ≡ length nodes
kept_count hash kept nodes e = ap (λ ps. length ps) e ∙ length-map nodes (λ n. (n, hash n))

-- an array that is left stands where the access says
pub left_at : {hash : ℕ → ℕ} {same : ℕ → ℕ → Bool} {mine : ℕ → Bool} (m : Memory) → IsSound hash same mine m →
    (p q : ℕ) (array : Option ℕ) → IsLeft m p array → StandsBefore m q array → IsLeft m q array
left_at m sound p q array left stands = subst (λ r. IsLeft m r array) (before_one m sound p q array left.stands stands) left

module _ {hash : ℕ → ℕ} {same : ℕ → ℕ → Bool} {mine own : ℕ → Bool} {h : ℕ} (names : NamesKeys hash same)
    (key : IsKey hash same mine own h) (old new : Memory) (sound : IsSound hash same mine old) where
  -- the array of a word that is not sealed is the root
  pub bare_root : (a i : ℕ) → HasBeenRoot old a → i < length (old.words a) → is_sealed (word_at (old.words a) i) ≡ false →
      IsRoot hash same mine (old.words a)
  bare_root a i r within bare = sound.roots r.place a r.before r.there

  change_sound : (a size passed : ℕ) (from to : Word) → IsProbing own h old a size passed → IsChange own from to →
      word_at (old.words a) (bucket_at size h passed) ≡ from → SetsWord a (bucket_at size h passed) to old new →
      IsSound hash same mine new
  change_sound a size passed from to probing change there sets =
      exchange_sound old new sound a (bucket_at size h passed) to probing.rooted within bare sets
      (subst (λ l. IsRoot hash same mine (set (old.words a) (bucket_at l h passed) to)) (sym probing.size_is)
      (change_root names key (old.words a) (bare_root a (bucket_at size h passed) probing.rooted within bare) passed from to
      probing.passed_are (subst (λ l. passed < l) probing.size_is probing.more)
      (subst (λ l. word_at (old.words a) (bucket_at l h passed) ≡ from) probing.size_is there) change))
    where
      within : bucket_at size h passed < length (old.words a)
      within = subst (λ l. bucket_at size h passed < l) probing.size_is (bucket_within size h passed probing.more)

      bare : is_sealed (word_at (old.words a) (bucket_at size h passed)) ≡ false
      bare = ap is_sealed there ∙ change_bare own from to change

  close_sound : (a size i : ℕ) (w : Word) (kept : List (ℕ × ℕ)) → IsSealing hash old a size i kept → is_sealed w ≡ false →
      word_at (old.words a) i ≡ w → SetsWord a i (seal_of w) old new → IsSound hash same mine new
  close_sound a size i w kept sealing bare there sets =
      exchange_sound old new sound a i (seal_of w) sealing.rooted within unsealed sets
      (seal_root names key (old.words a) (bare_root a i sealing.rooted within unsealed) i w there bare)
    where
      within : i < length (old.words a)
      within = subst (λ l. i < l) sealing.size_is sealing.more

      unsealed : is_sealed (word_at (old.words a) i) ≡ false
      unsealed = ap is_sealed there ∙ bare

  link_kept_sound : (q : ℕ) (array : Option ℕ) (size next length_ : ℕ) (kept : List (ℕ × ℕ)) → IsKept hash old array size kept →
      StandsBefore old q array → (o : Option ℕ) → array_at old q ≡ o → Linked o (next_size array size (length kept)) next length_ old new →
      IsSound hash same mine new
  link_kept_sound q array size next length_ kept is_kept stands None free linked =
      link_sound old new sound q array (next_size array size (length kept)) (left_at old sound is_kept.place q array is_kept.left stands)
      free
      (ap (λ l. next_size array l (length kept)) is_kept.size_is ∙
      ap (λ n. next_size array (length (words_of old array)) n) (kept_count hash kept (stored_nodes (words_of old array)) is_kept.kept_are))
      linked.2
  link_kept_sound q array size next length_ kept is_kept stands (Some a) there linked = unchanged_sound old new sound linked.2

  pub point_sound : (p : Point) (s : Seen) → FitsAt hash own h old p → Effect hash own (wanted h p) s old new →
      IsSound hash same mine new
  point_sound (call.Root met) (seen.Root a l t k) fits e = unchanged_sound old new sound e.4
  point_sound (call.Probe a l v) (seen.Word w x same_) fits e = unchanged_sound old new sound e.3
  point_sound (call.Choose a l v w) (seen.Chosen choice) fits e = unchanged_sound old new sound e
  point_sound (call.Change a l v from to) (seen.Exchanged None) fits e = change_sound a l v from to fits.0 fits.1 e.0 e.1
  point_sound (call.Change a l v from to) (seen.Exchanged (Some met)) fits e = unchanged_sound old new sound e.2
  point_sound (call.Walk a l i nodes) (seen.Word w x same_) fits e = unchanged_sound old new sound e.3
  point_sound (call.Seal a l i kept) (seen.Word w x same_) fits e = unchanged_sound old new sound e.3
  point_sound (call.Close a l i w x kept) (seen.Exchanged None) fits e = close_sound a l i w kept fits.0 fits.1 e.0 e.1
  point_sound (call.Close a l i w x kept) (seen.Exchanged (Some met)) fits e = unchanged_sound old new sound e.2
  point_sound (call.Next array l kept) (seen.Next next k) fits e = unchanged_sound old new sound e.4
  point_sound (call.Link array l kept) (seen.Linked next k) fits e =
      link_kept_sound e.0 array l next k kept fits e.1 (array_at old e.0) refl e.2
  point_sound (call.Copy from a i laid) seen.Copied fits (inl e) =
      copy_sound old new sound fits.place from a i (word_at laid i) fits.left fits.there fits.more e.0
      (ap (λ ws. word_at ws i) fits.laid_is) e.1
  point_sound (call.Copy from a i laid) seen.Copied fits (inr e) = unchanged_sound old new sound e.1
  point_sound (call.Swing from a) seen.Swung fits (inl e) = swing_sound old new names sound a e.1 fits.set e.2
  point_sound (call.Swing from a) seen.Swung fits (inr e) = unchanged_sound old new sound e.1
  point_sound p s fits e = absurd e

-- what a fitting call exchanges it exchanges for a later word
point_for_later : {hash : ℕ → ℕ} (same : ℕ → ℕ → Bool) {mine own : ℕ → Bool} {h : ℕ} → NamesKeys hash same →
    IsKey hash same mine own h → (m : Memory) (p : Point) → FitsAt hash own h m p → IsForLater same (wanted h p)
point_for_later same {mine} {own} names key m (call.Change a l v from to) fits = change_later same own from to key.one fits.1
point_for_later same names key m (call.Close a l i w x kept) fits = seal_later same w names fits.1
point_for_later same names key m (call.Root met) fits = tt
point_for_later same names key m (call.Probe a l v) fits = tt
point_for_later same names key m (call.Choose a l v w) fits = tt
point_for_later same names key m (call.Walk a l i nodes) fits = tt
point_for_later same names key m (call.Seal a l i kept) fits = tt
point_for_later same names key m (call.Next array l kept) fits = tt
point_for_later same names key m (call.Link array l kept) fits = tt
point_for_later same names key m (call.Copy from a i laid) fits = tt
point_for_later same names key m (call.Swing from a) fits = tt

pub access_keeps_sound : (hash : ℕ → ℕ) (same : ℕ → ℕ → Bool) (mine own : ℕ → Bool) (c : Call) (s : Seen) (old new : Memory) →
    Makes hash same mine own c s old new → IsSound hash same mine new
access_keeps_sound hash same mine own c s old new m = point_sound m.names m.key old new m.sound c.point s m.fits m.effect

pub access_is_later : (hash : ℕ → ℕ) (same : ℕ → ℕ → Bool) (mine own : ℕ → Bool) (c : Call) (s : Seen) (old new : Memory) →
    Makes hash same mine own c s old new → LaterMemory same old new
access_is_later hash same mine own c s old new m =
    effect_later hash same own (access_of c) s old new m.names (point_for_later same m.names m.key old c.point m.fits) m.effect
