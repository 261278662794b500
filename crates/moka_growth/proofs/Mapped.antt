-- Which accesses keep the map.
use Rattle.std.proofs.Common.{◌≡◌, ◌≢◌, ℕ, ◌<◌, Bool, false, List, length, Option, Some, None, inl, inr, sym, ap, subst, ◌∙◌, arith, set}
use Rattle.std.specs.List.{slice_get}
use Rattle.std.specs.List.Sorted.{IsPermutation}
use Rattle.std.proofs.lemmas.List.Sorted.{IsPermutation-refl}
use Rattle.moka_words.specs.declared.words.Word.{Word}
use Rattle.moka_words.specs.declared.words.Word.TheVariants.{Unset}
use Rattle.moka_words.specs.declared.accesses.Seen.{Seen}
use Rattle.moka_words.specs.declared.accesses.Seen.TheVariants as seen
use Rattle.moka_words.specs.Words.{stored_in, is_sealed, word_at}
use Rattle.moka_words.specs.Layout.{stored_nodes, layout}
use Rattle.moka_words.specs.Effect.{Memory, array_at, array_before, root, words_of, SetsWord, IsUnchanged, Linked, Swings, Effect}
use Rattle.moka_words.proofs.Placing.{layout_has_all}
use Rattle.moka_growth.specs.Growing.{seal_of, next_size}
use Rattle.moka_growth.specs.Sound.{IsNext, IsSound}
use Rattle.moka_growth.specs.Calls.{Point, wanted}
use Rattle.moka_growth.specs.Calls as call
use Rattle.moka_growth.specs.Fits.{HasBeenRoot, IsSealing, IsCopying, FitsAt}
use Rattle.moka_growth.specs.Maps.{present_nodes, KeepsMap}
use Rattle.moka_growth.proofs.Places.{root_same, root_at, words_same, unsealed_in_root}
use Rattle.moka_growth.proofs.Exchanging.{seal_stored}
use Rattle.moka_growth.proofs.Storing.{stored_set_same}
use Rattle.moka_growth.proofs.Copying.{unset_is_next, before_words, links_before, links_before_words, next_has_room, set_is_laid}

-- the root stores the same
pub keeps_nodes : (old new : Memory) → present_nodes new ≡ present_nodes old → KeepsMap old new
keeps_nodes old new e = subst (λ ns. IsPermutation (present_nodes old) ns) (sym e) (IsPermutation-refl (present_nodes old))

pub unchanged_map : (old new : Memory) → IsUnchanged old new → KeepsMap old new
unchanged_map old new stays = keeps_nodes old new
    (ap (λ ws. stored_nodes ws) (ap (words_of new) (root_same old new stays.1) ∙ words_same old new stays.0 (root old)))

module _ {hash : ℕ → ℕ} {same : ℕ → ℕ → Bool} {mine : ℕ → Bool} (old new : Memory) (sound : IsSound hash same mine old) where
  -- an array that has been root and has a word that is not sealed is the root
  pub bare_is_root : (a i : ℕ) → HasBeenRoot old a → i < length (old.words a) → is_sealed (word_at (old.words a) i) ≡ false →
      root old ≡ Some a
  bare_is_root a i r within bare = root_at old r.place (unsealed_in_root old sound a i r within bare) ∙ r.there

  -- the words of the root, after one of them was set
  pub set_root_words : (a i : ℕ) (w : Word) → root old ≡ Some a → SetsWord a i w old new →
      words_of new (root new) ≡ set (old.words a) i w
  set_root_words a i w is_root sets = ap (words_of new) (root_same old new sets.2 ∙ is_root) ∙ sets.0

  close_map : (a size i : ℕ) (w : Word) (kept : List (ℕ × ℕ)) → IsSealing hash old a size i kept → is_sealed w ≡ false →
      word_at (old.words a) i ≡ w → SetsWord a i (seal_of w) old new → KeepsMap old new
  close_map a size i w kept sealing bare there sets = keeps_nodes old new
      (ap (λ ws. stored_nodes ws) (set_root_words a i (seal_of w) is_root sets) ∙
      (stored_set_same (old.words a) i (seal_of w) within (seal_stored w ∙ ap stored_in (sym there)) ∙
      ap (λ o. stored_nodes (words_of old o)) (sym is_root)))
    where
      within : i < length (old.words a)
      within = subst (λ l. i < l) sealing.size_is sealing.more

      is_root : root old ≡ Some a
      is_root = bare_is_root a i sealing.rooted within (ap is_sealed there ∙ bare)

  copy_map : (from : Option ℕ) (a i : ℕ) (laid : List Word) (w : Word) → IsCopying hash old from a i laid → word_at (old.words a) i ≡ Unset →
      SetsWord a i w old new → KeepsMap old new
  copy_map from a i laid w copying unset sets = keeps_nodes old new
      (ap (λ ws. stored_nodes ws) (ap (words_of new) (root_same old new sets.2) ∙ before_words old new a sets.1 old.rooted other))
    where
      place : copying.place ≡ old.rooted
      place = unset_is_next old sound copying.place a i copying.left.rooted copying.there copying.more unset

      other : (q b : ℕ) → q < old.rooted → array_at old q ≡ Some b → b ≢ a
      other q b h e d = let one = sound.one q copying.place b e (copying.there ∙ ap Some (sym d)) in let at = place in absurd (omega arith)

  link_map : (o : Option ℕ) (asked next size : ℕ) → Linked o asked next size old new → KeepsMap old new
  link_map None asked next size linked = keeps_nodes old new
      (ap (λ ws. stored_nodes ws) (ap (words_of new) (ap (λ r. array_before new r) linked.2.rooted ∙
      links_before asked old new linked.2 old.rooted sound.linked) ∙
      links_before_words asked old new linked.2 sound.numbered old.rooted))
  link_map (Some a) asked next size linked = unchanged_map old new linked.2

  swing_map : (a : ℕ) → array_at old old.rooted ≡ Some a → ((i : ℕ) → i < length (old.words a) → word_at (old.words a) i ≢ Unset) →
      Swings old new → KeepsMap old new
  swing_map a there set_ swings =
      subst (λ ws. IsPermutation (present_nodes old) (stored_nodes ws)) (sym words_are)
      (layout_has_all hash (words_of old (root old)) (length (old.words a)) (next_has_room old a next))
    where
      next : IsNext hash (root old) (words_of old (root old)) (old.words a)
      next = sound.follows a there

      root_is : root new ≡ Some a
      root_is = ap (λ r. array_before new r) swings.rooted ∙ (ap (λ xs. slice_get xs old.rooted) swings.arrays ∙ there)

      words_are : words_of new (root new) ≡ layout hash (words_of old (root old)) (length (old.words a))
      words_are = ap (words_of new) root_is ∙ (swings.words a ∙ set_is_laid (root old) (words_of old (root old)) (old.words a) next set_)

-- what an access leaves of the map; of an exchange that changes a key it is said elsewhere
abbrev pub KeepsUnlessExchanged : (old new : Memory) → Point → Seen → Type 0
KeepsUnlessExchanged old new (call.Change a l v from to) (seen.Exchanged None) = Unit {0}
KeepsUnlessExchanged old new p s = KeepsMap old new

pub point_keeps_map : {hash : ℕ → ℕ} {same : ℕ → ℕ → Bool} {mine : ℕ → Bool} (own : ℕ → Bool) (h : ℕ) (old new : Memory) →
    IsSound hash same mine old → (p : Point) (s : Seen) → FitsAt hash own h old p → Effect hash own (wanted h p) s old new →
    KeepsUnlessExchanged old new p s
point_keeps_map own h old new sound (call.Root met) (seen.Root a l t k) fits e = unchanged_map old new e.4
point_keeps_map own h old new sound (call.Probe a l v) (seen.Word w x same_) fits e = unchanged_map old new e.3
point_keeps_map own h old new sound (call.Choose a l v w) (seen.Chosen choice) fits e = unchanged_map old new e
point_keeps_map own h old new sound (call.Change a l v from to) (seen.Exchanged None) fits e = tt
point_keeps_map own h old new sound (call.Change a l v from to) (seen.Exchanged (Some met)) fits e = unchanged_map old new e.2
point_keeps_map own h old new sound (call.Walk a l i nodes) (seen.Word w x same_) fits e = unchanged_map old new e.3
point_keeps_map own h old new sound (call.Seal a l i kept) (seen.Word w x same_) fits e = unchanged_map old new e.3
point_keeps_map own h old new sound (call.Close a l i w x kept) (seen.Exchanged None) fits e =
    close_map old new sound a l i w kept fits.0 fits.1 e.0 e.1
point_keeps_map own h old new sound (call.Close a l i w x kept) (seen.Exchanged (Some met)) fits e = unchanged_map old new e.2
point_keeps_map own h old new sound (call.Next array l kept) (seen.Next next k) fits e = unchanged_map old new e.4
point_keeps_map own h old new sound (call.Link array l kept) (seen.Linked next k) fits e =
    link_map old new sound (array_at old e.0) (next_size array l (length kept)) next k e.2
point_keeps_map own h old new sound (call.Copy from a i laid) seen.Copied fits (inl e) =
    copy_map old new sound from a i laid (word_at laid i) fits e.0 e.1
point_keeps_map own h old new sound (call.Copy from a i laid) seen.Copied fits (inr e) = unchanged_map old new e.1
point_keeps_map own h old new sound (call.Swing from a) seen.Swung fits (inl e) = swing_map old new sound a e.1 fits.set e.2
point_keeps_map own h old new sound (call.Swing from a) seen.Swung fits (inr e) = unchanged_map old new e.1
point_keeps_map own h old new sound p s fits e = absurd e
