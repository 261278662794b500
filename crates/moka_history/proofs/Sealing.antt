-- A word is sealed, and all stays good.
use Rattle.std.proofs.Common.{◌≡◌, ◌≢◌, ◌⊎◌, ℕ, ◌<◌, Bool, true, false, List, map, length, set, Option, Some, None, inl, inr, refl, sym, ap, subst, ◌∙◌, arith}
use Rattle.std.proofs.lemmas.List.{length-map}
use Rattle.std.specs.Cmp.{IsEquivalence}
use Rattle.std.specs.List.{slice_get}
use Rattle.moka_words.specs.declared.words.Word.{Word}
use Rattle.moka_words.specs.Words.{NamesKeys, is_sealed, node_of, stored_in, word_at}
use Rattle.moka_words.specs.Later.{Later}
use Rattle.moka_words.specs.Layout.{stored_nodes}
use Rattle.moka_words.specs.Effect.{Memory, SetsWord, root, words_of}
use Rattle.moka_words.proofs.Effects.{set_word_later}
use Rattle.moka_growth.specs.declared.kinds.CallKind.TheVariants as kind
use Rattle.moka_growth.specs.Calls.{call_from}
use Rattle.moka_growth.specs.Fits.{IsKey}
use Rattle.moka_growth.specs.Growing.{seal_of}
use Rattle.moka_growth.specs.Maps.{KeepsMap}
use Rattle.moka_growth.proofs.Exchanging.{seal_later, seal_node, seal_root, seal_sealed, seal_stored}
use Rattle.moka_growth.proofs.Mapped.{bare_is_root, keeps_nodes, set_root_words}
use Rattle.moka_growth.proofs.Sounding.{exchange_sound}
use Rattle.moka_growth.proofs.Storing.{stored_set_same}
use Rattle.moka_pairs.specs.Keys.{Respects, hash_by, mine_by, own_for, same_by}
use Rattle.moka_pairs.specs.Segments.{LaterAll, SoundAll}
use Rattle.moka_pairs.proofs.Names.{agrees_now, is_key_for, names_keys}
use Rattle.moka_history.specs.declared.note.Note.{Note}
use Rattle.moka_history.specs.declared.note.Note.TheVariants.{Sealed}
use Rattle.moka_history.specs.Entries.{Entry}
use Rattle.moka_history.specs.States.{State, after, chain, key_at, memory_of, word_in, words_in}
use Rattle.moka_history.specs.Cells.{cell_of, number_of}
use Rattle.moka_history.specs.Rules.{keys_of, IsGood, IsRooted, IsSameOrSealed, Lasts}
use Rattle.moka_history.specs.Keeping.{IsBare}
use Rattle.moka_history.proofs.Chains.{chain_one}
use Rattle.moka_history.proofs.Lists.{no_item}
use Rattle.moka_history.proofs.Setting.{set_cells, set_good, set_lasts, sets, word_by}

-- no seal came to the word but by the note
abbrev pub IsNoNewSeal : {K V S : Type 0} → (array index : ℕ) → (old new : Word) → Note K V S → Type 0
IsNoNewSeal array index old new note = (new ≡ old) ⊎ ((is_sealed new ≡ false) ⊎ (note ≡ Sealed array index new))

module _ {K V : Type 0} (S : Type 0) (eq : K → K → Bool) (laws : IsEquivalence eq) (hash place : K → ℕ) (respects : Respects eq hash)
    (s : State K V) (es : List (Entry K V)) (good : IsGood eq hash place s es) (segment array index : ℕ) (word : Word)
    (x : IsBare s segment array index word) where
  abbrev pub to : Word
  to = seal_of word

  abbrev pub note : Note K V S
  note = Sealed array index to

  abbrev pub sealed_state : State K V
  sealed_state = after {S = S} s note

  abbrev known : ℕ → Option K
  known = keys_of place s segment

  abbrev old : Memory
  old = memory_of s segment

  abbrev new : Memory
  new = memory_of sealed_state segment

  within : index < length (s.arrays array)
  within = let inside = x.inside in let long = length-map (s.arrays array) (word_in s.cells) in omega (arith, inside, long)

  sets_here : SetsWord array index to old new
  sets_here = (sets S eq laws hash place respects s es good array index to within segment).0

  names : (keys : ℕ → Option K) → NamesKeys (hash_by hash keys) (same_by eq keys)
  names keys = names_keys eq laws hash respects keys

  no_key : (keys : ℕ → Option K) → IsKey (hash_by hash keys) (same_by eq keys) (mine_by keys) (own_for eq keys None) 0
  no_key keys = is_key_for eq laws hash respects keys None (call_from kind.Get 0) (λ k e. absurd (no_item e))

  bare : is_sealed (word_at (old.words array) index) ≡ false
  bare = ap is_sealed x.there ∙ x.bare

  sound_here : SoundAll eq hash known new
  sound_here keys agrees =
      let sound = good.sound segment x.within keys agrees in
      exchange_sound old new sound array index to x.rooted x.inside bare sets_here
      (seal_root (names keys) (no_key keys) (words_in s array) (sound.roots x.rooted.place array x.rooted.before x.rooted.there) index word x.there x.bare)

  later_here : LaterAll eq known old new
  later_here keys agrees = set_word_later (same_by eq keys) (names keys) array index to old new
      (subst (λ w. Later (same_by eq keys) w to) (sym x.there) (seal_later (same_by eq keys) word (names keys) x.bare)) sets_here

  keeps_here : KeepsMap old new
  keeps_here =
      let sound = good.sound segment x.within known (agrees_now known) in
      let at_root : root old ≡ Some array = bare_is_root old new sound array index x.rooted x.inside bare in
      keeps_nodes old new
      (ap (λ ws. stored_nodes ws) (set_root_words old new sound array index to at_root sets_here)
      ∙ (stored_set_same (words_in s array) index to x.inside (seal_stored word ∙ ap stored_in (sym x.there))
      ∙ ap (λ o. stored_nodes (words_of old o)) (sym at_root)))

  alone : (i p a : ℕ) → i < s.segments → i ≢ segment → slice_get (chain s i) p ≡ Some a → a ≢ array
  alone i p a low other at same = other (chain_one s good.linked i segment p x.rooted.place a low x.within at (x.rooted.there ∙ ap Some (sym same)))

  by : (P : ℕ → ℕ → Word → Type 0) → (a j : ℕ) → P a j (word_at (words_in s a) j) → P array index to → P a j (word_at (words_in sealed_state a) j)
  by = word_by S eq laws hash place respects s es good array index to within

  node_same : (i a j : ℕ) → IsRooted s i a → node_of (word_at (words_in sealed_state a) j) ≡ node_of (word_at (words_in s a) j)
  node_same i a j r = by (λ b k w. node_of w ≡ node_of (word_at (words_in s b) k)) a j refl (seal_node word ∙ sym (ap node_of x.there))

  pub sealed_words : (a j : ℕ) → IsSameOrSealed (word_at (words_in s a) j) (word_at (words_in sealed_state a) j)
  sealed_words a j = by (λ b k w. IsSameOrSealed (word_at (words_in s b) k) w) a j (inl refl) (inr (seal_sealed word))

  pub sealed_note : (a j : ℕ) → IsNoNewSeal a j (word_at (words_in s a) j) (word_at (words_in sealed_state a) j) note
  sealed_note a j = by (λ b k w. IsNoNewSeal b k (word_at (words_in s b) k) w note) a j (inl refl) (inr (inr refl))

  pub sealed_good : IsGood eq hash place sealed_state es
  sealed_good = set_good S eq laws hash place respects s es good array index to within segment alone sound_here later_here keeps_here node_same

  pub sealed_lasts : Lasts eq place s sealed_state
  sealed_lasts = set_lasts S eq laws hash place respects s es good array index to within segment alone sound_here later_here keeps_here node_same

  pub sealed_cells : (d : ℕ) → set (map (cell_of d) s.cells) (key_at s array index) (number_of to, true) ≡ map (cell_of d) sealed_state.cells
  sealed_cells d = set_cells S eq laws hash place respects s es good array index to within d
