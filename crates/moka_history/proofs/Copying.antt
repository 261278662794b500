-- A word is copied into an array that was linked, and all stays good.
use Rattle.std.proofs.Common.{◌≡◌, ◌≢◌, ℕ, ◌<◌, Bool, true, false, List, map, length, set, Option, Some, inl, inr, refl, sym, ap, subst, ◌∙◌, arith}
use Rattle.std.proofs.lemmas.List.{length-map}
use Rattle.std.specs.Cmp.{IsEquivalence}
use Rattle.std.specs.List.{slice_get}
use Rattle.moka_words.specs.declared.words.Word.{Word}
use Rattle.moka_words.specs.declared.words.Word.TheVariants.{Unset}
use Rattle.moka_words.specs.declared.accesses.Seen.TheVariants as seen
use Rattle.moka_words.specs.Words.{is_sealed, node_of, word_at}
use Rattle.moka_words.specs.Layout.{IsEmptyOrLive}
use Rattle.moka_words.specs.Effect.{Memory, Effect, SetsWord, words_of}
use Rattle.moka_words.proofs.Placing.{layout_is_filled}
use Rattle.moka_growth.specs.Calls.{Call, access_of, wanted}
use Rattle.moka_growth.specs.Calls as call
use Rattle.moka_growth.specs.Fits.{FitsAt, IsCopying}
use Rattle.moka_growth.specs.Maps.{KeepsMap}
use Rattle.moka_growth.specs.Sound.{IsSound}
use Rattle.moka_growth.proofs.Copying.{unset_is_next}
use Rattle.moka_growth.proofs.Mapped.{point_keeps_map}
use Rattle.moka_pairs.specs.Keys.{Respects, hash_by, mine_by, own_for, same_by}
use Rattle.moka_pairs.specs.Segments.{EffectAll, LaterAll, Sees, SoundAll}
use Rattle.moka_pairs.proofs.Names.{agrees_now}
use Rattle.moka_pairs.proofs.Steps.{later_after, sound_after}
use Rattle.moka_history.specs.declared.note.Note.{Note}
use Rattle.moka_history.specs.declared.note.Note.TheVariants.{Copied}
use Rattle.moka_history.specs.Entries.{Entry}
use Rattle.moka_history.specs.States.{State, after, chain, key_at, memory_of, word_in, words_in}
use Rattle.moka_history.specs.Cells.{cell_of, number_of}
use Rattle.moka_history.specs.Rules.{keys_of, IsGood, IsRooted, IsSameOrSealed, Lasts}
use Rattle.moka_history.specs.Keeping.{StandsAt}
use Rattle.moka_history.proofs.Chains.{chain_one, place_one}
use Rattle.moka_history.proofs.Lists.{get_or, set_get}
use Rattle.moka_history.proofs.Sealing.{IsNoNewSeal}
use Rattle.moka_history.proofs.Setting.{set_cells, set_good, set_lasts, sets, word_by}

-- an empty or a live word isn't sealed, and is set
filled_bare : (w : Word) → IsEmptyOrLive w → is_sealed w ≡ false
filled_bare w (inl e) = ap is_sealed e
filled_bare w (inr e) = ap is_sealed e.1

filled_set : (w : Word) → IsEmptyOrLive w → w ≢ Unset
filled_set w (inl e) = λ d. cc (sym e ∙ d)
filled_set w (inr e) = λ d. cc (sym e.1 ∙ d)

module _ {K V : Type 0} (S : Type 0) (eq : K → K → Bool) (laws : IsEquivalence eq) (hash place : K → ℕ) (respects : Respects eq hash)
    (s : State K V) (es : List (Entry K V)) (good : IsGood eq hash place s es) (segment array index : ℕ) (from : Option ℕ) (laid : List Word)
    (key : Option K) (c : Call) (x : StandsAt eq hash place s segment key c (call.Copy from array index laid))
    (unset : word_at (words_in s array) index ≡ Unset) where
  abbrev pub to : Word
  to = word_at laid index

  abbrev pub note : Note K V S
  note = Copied array index to

  abbrev pub copied_state : State K V
  copied_state = after {S = S} s note

  abbrev known : ℕ → Option K
  known = keys_of place s segment

  abbrev old : Memory
  old = memory_of s segment

  abbrev new : Memory
  new = memory_of copied_state segment

  -- what the call knows
  copying : IsCopying (hash_by hash known) old from array index laid
  copying = subst (λ p. FitsAt (hash_by hash known) (own_for eq known key) c.hash old p) x.stands (x.fits known (agrees_now known))

  sound : IsSound (hash_by hash known) (same_by eq known) (mine_by known) old
  sound = good.sound segment x.within known (agrees_now known)

  place_is : copying.place ≡ s.rooted segment
  place_is = unset_is_next old sound copying.place array index copying.left.rooted copying.there copying.more unset

  -- so the array is the one that was linked after the root
  at_link : slice_get (chain s segment) (s.rooted segment) ≡ Some array
  at_link = subst (λ p. slice_get (chain s segment) p ≡ Some array) place_is copying.there

  within : index < length (s.arrays array)
  within = let inside = copying.more in let long = length-map (s.arrays array) (word_in s.cells) in omega (arith, inside, long)

  sets_here : SetsWord array index to old new
  sets_here = (sets S eq laws hash place respects s es good array index to within segment).0

  root_other : (i a : ℕ) → IsRooted s i a → a ≢ array
  root_other i a r same =
      let copied_at : slice_get (chain s segment) (s.rooted segment) ≡ Some a = at_link ∙ ap Some (sym same) in
      let own : i ≡ segment = chain_one s good.linked i segment r.rooted.place (s.rooted segment) a r.within x.within r.rooted.there copied_at in
      let here : slice_get (chain s segment) r.rooted.place ≡ Some a = subst (λ j. slice_get (chain s j) r.rooted.place ≡ Some a) own r.rooted.there in
      let one = place_one s good.linked segment r.rooted.place (s.rooted segment) a x.within here copied_at in
      let before = r.rooted.before in
      let count = ap s.rooted own in
      absurd (omega (arith, one, before, count))

  root_words : (i a : ℕ) → IsRooted s i a → words_in copied_state a ≡ words_in s a
  root_words i a r = sets_here.1 a (root_other i a r)

  pub copied_effect : EffectAll eq hash known key (access_of c) seen.Copied old new
  copied_effect keys agrees = subst (λ a. Effect (hash_by hash keys) (own_for eq keys key) a seen.Copied old new) (sym (ap (wanted c.hash) x.stands))
      (inl (unset, sets_here))

  sees : Sees eq hash known key c seen.Copied old new
  sees = record { hashed = x.hashed; fits = x.fits; effect = copied_effect; choice = λ keys agrees. tt }

  sound_here : SoundAll eq hash known new
  sound_here = sound_after eq laws hash respects known key c seen.Copied old new (good.sound segment x.within) sees

  later_here : LaterAll eq known old new
  later_here = later_after eq laws hash respects known key c seen.Copied old new (good.sound segment x.within) sees

  keeps_here : KeepsMap old new
  keeps_here = point_keeps_map (own_for eq known key) c.hash old new sound (call.Copy from array index laid) seen.Copied copying (inl (unset, sets_here))

  alone : (i p a : ℕ) → i < s.segments → i ≢ segment → slice_get (chain s i) p ≡ Some a → a ≢ array
  alone i p a low other at same = other (chain_one s good.linked i segment p (s.rooted segment) a low x.within at (at_link ∙ ap Some (sym same)))

  node_same : (i a j : ℕ) → IsRooted s i a → node_of (word_at (words_in copied_state a) j) ≡ node_of (word_at (words_in s a) j)
  node_same i a j r = ap (λ ws. node_of (word_at ws j)) (root_words i a r)

  pub copied_words : (i a j : ℕ) → IsRooted s i a → IsSameOrSealed (word_at (words_in s a) j) (word_at (words_in copied_state a) j)
  copied_words i a j r = inl (ap (λ ws. word_at ws j) (root_words i a r))

  is_filled : IsEmptyOrLive to
  is_filled = subst (λ ws. IsEmptyOrLive (word_at ws index)) (sym copying.laid_is)
      ((layout_is_filled (hash_by hash known) (words_of old from) (length (words_in s array))).1 index copying.more)

  copied_bare : is_sealed to ≡ false
  copied_bare = filled_bare to is_filled

  -- the word is set then
  pub copied_there : word_at (words_in copied_state array) index ≡ to
  copied_there = ap (λ ws. word_at ws index) sets_here.0 ∙ get_or (set (words_in s array) index to) index to Unset (set_get (words_in s array) index to copying.more)

  pub copied_set : to ≢ Unset
  copied_set = filled_set to is_filled

  pub copied_note : (a j : ℕ) → IsNoNewSeal a j (word_at (words_in s a) j) (word_at (words_in copied_state a) j) note
  copied_note a j = word_by S eq laws hash place respects s es good array index to within
      (λ b k w. IsNoNewSeal b k (word_at (words_in s b) k) w note) a j (inl refl) (inr (inl copied_bare))

  pub copied_good : IsGood eq hash place copied_state es
  copied_good = set_good S eq laws hash place respects s es good array index to within segment alone sound_here later_here keeps_here node_same

  pub copied_lasts : Lasts eq place s copied_state
  copied_lasts = set_lasts S eq laws hash place respects s es good array index to within segment alone sound_here later_here keeps_here node_same

  pub copied_cells : (d : ℕ) → set (map (cell_of d) s.cells) (key_at s array index) (number_of to, true) ≡ map (cell_of d) copied_state.cells
  copied_cells d = set_cells S eq laws hash place respects s es good array index to within d

-- a word that is set is left
pub copy_there : {K V : Type 0} (eq : K → K → Bool) (hash : K → ℕ) (s : State K V) (known : ℕ → Option K) (segment array index : ℕ) (from : Option ℕ)
    (laid : List Word) (key : Option K) (c : Call) → c.point ≡ call.Copy from array index laid → word_at (words_in s array) index ≢ Unset →
    EffectAll eq hash known key (access_of c) seen.Copied (memory_of s segment) (memory_of s segment)
copy_there eq hash s known segment array index from laid key c stands is_set keys agrees =
    subst (λ a. Effect (hash_by hash keys) (own_for eq keys key) a seen.Copied (memory_of s segment) (memory_of s segment)) (sym (ap (wanted c.hash) stands))
    (inr (is_set, (λ a. refl, record { arrays = refl; rooted = refl; fresh = refl })))
