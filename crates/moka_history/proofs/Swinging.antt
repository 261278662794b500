-- The root of a segment becomes the array after it, and all stays good.
use Rattle.std.proofs.Common.{◌≡◌, ◌≢◌, ◌⊎◌, ℕ, ◌<◌, ◌≤◌, ◌==◌, Bool, true, false, cond, List, [], ◌∷◌, map, length, set, Option, Some, None, zero, suc, inl, inr, refl, sym, ap, subst, ◌∙◌, arith, slice_index_or}
use Rattle.std.proofs.lemmas.Bool.{eq-eqb}
use Rattle.std.proofs.lemmas.Bool.Decides.{eqb_tells}
use Rattle.std.specs.Cmp.{IsEquivalence}
use Rattle.std.specs.List.{slice_get}
use Rattle.moka_words.specs.declared.words.Word.{Word}
use Rattle.moka_words.specs.declared.accesses.Seen.TheVariants as seen
use Rattle.moka_words.specs.Words.{node_of, stored_in, word_at}
use Rattle.moka_words.specs.Layout.{IsEmptyOrLive, layout}
use Rattle.moka_words.specs.Effect.{Memory, Effect, IsUnchanged, Swings, array_at, array_before, root, words_of}
use Rattle.moka_words.proofs.Laying.{layout_stores, stored_is_key}
use Rattle.moka_words.proofs.Placing.{layout_is_filled}
use Rattle.moka_growth.specs.Calls.{Call, access_of, wanted}
use Rattle.moka_growth.specs.Calls as call
use Rattle.moka_growth.specs.Fits.{FitsAt, IsFilled}
use Rattle.moka_growth.specs.Maps.{KeepsMap, IsElsewhere}
use Rattle.moka_growth.specs.Sound.{IsNext, IsSound}
use Rattle.moka_growth.proofs.Copying.{next_has_room, set_is_laid}
use Rattle.moka_growth.proofs.Mapped.{point_keeps_map}
use Rattle.moka_pairs.specs.Keys.{Respects, hash_by, mine_by, own_for, same_by}
use Rattle.moka_pairs.specs.Segments.{EffectAll, LaterAll, Sees, SoundAll}
use Rattle.moka_pairs.proofs.Mapped.{map_kept}
use Rattle.moka_pairs.proofs.Names.{agrees_now}
use Rattle.moka_pairs.proofs.Steps.{later_after, sound_after}
use Rattle.moka_history.specs.declared.note.Note.{Note}
use Rattle.moka_history.specs.declared.note.Note.TheVariants.{Swung}
use Rattle.moka_history.specs.Entries.{Entry}
use Rattle.moka_history.specs.States.{Owner, Door, Bucket, Ticket, Array, Row, Next, Root, State, IsPlaced, after, chain, memory_of, root_number, swung, word_in, words_in}
use Rattle.moka_history.specs.Cells.{cell_of}
use Rattle.moka_history.specs.Rules.{keys_of, pair_in, AreLinked, IsOwned, IsDrawn, IsGood, IsRooted, IsSameOrSealed, Lasts, WasPut, root_named}
use Rattle.moka_history.specs.Keeping.{StandsAt}
use Rattle.moka_history.proofs.Cells.{words_same}
use Rattle.moka_history.proofs.Chains.{link_high}
use Rattle.moka_history.proofs.Lists.{no_item, one_item, get_or, map_length, unmap_get}
use Rattle.moka_history.proofs.Resting.{rests_later, rests_map, rests_sound}
use Rattle.moka_history.proofs.Sealing.{IsNoNewSeal}
use Rattle.moka_history.proofs.Swung.{root_not_array, root_not_door, root_not_next, root_not_row, root_not_ticket, swung_cells, there_swung, unswung, unswung_root, word_swung}

-- the state after it, whatever it was
module _ {K V : Type 0} (S : Type 0) (s : State K V) (segment from to : ℕ) (placed : IsPlaced s) where
  abbrev moved : State K V
  moved = after {S = S} s (Swung segment from to)

  moved_words : (a : ℕ) → words_in moved a ≡ words_in s a
  moved_words a = words_same (word_in moved.cells) (word_in s.cells) (s.arrays a) (λ i k e. word_swung segment to s.cells k)

  moves : Swings (memory_of s segment) (memory_of moved segment)
      × ((i : ℕ) → i ≢ segment → IsUnchanged (memory_of s i) (memory_of moved i)) × IsPlaced moved
  moves = (
    record {
      words = moved_words;
      arrays = refl;
      rooted = ap (λ b. cond b (suc (s.rooted segment)) (s.rooted segment)) (eq-eqb segment segment refl);
      fresh = refl;
    },
    λ i other. (moved_words, record { arrays = refl; rooted = stays i other; fresh = refl }),
    record {
      within = λ a i k e. subst (λ n. k < n) (sym (map_length (swung segment to) s.cells)) (placed.within a i k e);
      one = placed.one;
    },
  )
    where
      stays : (i : ℕ) → i ≢ segment → moved.rooted i ≡ s.rooted i
      stays i other = elim (eqb_tells segment i) [
        | inl p ↦ absurd (other (sym p.1))
        | inr p ↦ ap (λ b. cond b (suc (s.rooted segment)) (s.rooted i)) p.0
      ]

  pub root_moves : (note : Note K V S) → note ≡ Swung segment from to →
      Swings (memory_of s segment) (memory_of (after s note) segment)
      × ((i : ℕ) → i ≢ segment → IsUnchanged (memory_of s i) (memory_of (after s note) i)) × IsPlaced (after s note)
  root_moves note is = subst (λ x. Swings (memory_of s segment) (memory_of (after s x) segment)
      × ((i : ℕ) → i ≢ segment → IsUnchanged (memory_of s i) (memory_of (after s x) i)) × IsPlaced (after s x)) (sym is) moves

-- one array has one place in a segment
before_one : {hash : ℕ → ℕ} {same : ℕ → ℕ → Bool} {mine : ℕ → Bool} (m : Memory) → IsSound hash same mine m → (p q a : ℕ) →
    array_before m p ≡ Some a → array_before m q ≡ Some a → p ≡ q
before_one m sound zero q a e f = absurd (no_item e)
before_one m sound (suc p) zero a e f = absurd (no_item f)
before_one m sound (suc p) (suc q) a e f = ap suc (sound.one p q a e f)

-- a filled array's words store what those of the array before it stored
filled_node : (w : Word) (n : ℕ) → IsEmptyOrLive w → node_of w ≡ Some n → stored_in w ≡ Some n
filled_node w n (inl e) names = absurd (no_item (sym (ap node_of e) ∙ names))
filled_node w n (inr e) names = ap stored_in e.1 ∙ (sym (ap node_of e.1) ∙ names)

-- the number by which a root is named tells it
module _ {K V : Type 0} (s : State K V) (linked : AreLinked s) (i from : ℕ) (low : i < s.segments) (some : 0 < from) where
  number_is : (n : ℕ) → root_number i from ≡ n → 0 < n → from ≡ n
  number_is n is high = elim (eqb_tells from (suc i)) [
    | inl p ↦ absurd (let none = sym is ∙ ap (λ b. cond b 0 from) p.0 in omega (arith, none, high))
    | inr p ↦ sym (ap (λ b. cond b 0 from) p.0) ∙ is
  ]

  first_is : root_number i from ≡ 0 → from ≡ suc i
  first_is is = elim (eqb_tells from (suc i)) [
    | inl p ↦ p.1
    | inr p ↦ absurd (let none = sym (ap (λ b. cond b 0 from) p.0) ∙ is in omega (arith, none, some))
  ]

  -- where the root was linked
  linked_is : (p : ℕ) (o : Option ℕ) → slice_get (s.links i) p ≡ o → p < length (s.links i) → root_number i from ≡ slice_index_or (s.links i) p 0 →
      slice_get (s.links i) p ≡ Some from
  linked_is p None at below is = absurd (none_within (s.links i) p below at)
    where
      none_within : (xs : List ℕ) (k : ℕ) → k < length xs → slice_get xs k ≡ None → ⊥
      none_within [] k h e = absurd (omega (arith, h))
      none_within (x ∷ xs) zero h e = no_item (sym e)
      none_within (x ∷ xs) (suc k) h e = none_within xs k (omega (arith, h)) e
  linked_is p (Some b) at below is =
      let high = (link_high s linked i p b at).0 in
      at ∙ ap Some (sym (number_is b (is ∙ get_or (s.links i) p b 0 at) (omega (arith, high))))

  root_tells : (r : ℕ) → root_number i from ≡ root_named (s.links i) r → 0 < r → r ≤ length (chain s i) → array_before (memory_of s i) r ≡ Some from
  root_tells zero is high within = absurd (omega (arith, high))
  root_tells (suc zero) is high within = ap Some (sym (first_is is))
  root_tells (suc (suc p)) is high within = linked_is p (slice_get (s.links i) p) refl (omega (arith, within)) is

  -- and it names it
  root_names : (r : ℕ) → array_before (memory_of s i) r ≡ Some from → root_number i from ≡ root_named (s.links i) r
  root_names zero at = absurd (no_item at)
  root_names (suc zero) at = ap (λ b. cond b 0 from) (eq-eqb from (suc i) (sym (one_item at)))
  root_names (suc (suc p)) at =
      let high = (link_high s linked i p from at).0 in
      elim (eqb_tells from (suc i)) [
        | inl q ↦ absurd (let is = q.1 in omega (arith, is, high, low))
        | inr q ↦ ap (λ b. cond b 0 from) q.0 ∙ sym (get_or (s.links i) p from 0 at)
      ]

module _ {K V : Type 0} (S : Type 0) (eq : K → K → Bool) (laws : IsEquivalence eq) (hash place : K → ℕ) (respects : Respects eq hash)
    (s : State K V) (es : List (Entry K V)) (good : IsGood eq hash place s es) (segment from to : ℕ) (key : Option K) (c : Call)
    (x : StandsAt eq hash place s segment key c (call.Swing (Some from) to)) (at_root : ℕ)
    (root_there : slice_get s.cells at_root ≡ Some (Root segment (root_number segment from))) where
  abbrev pub note : Note K V S
  note = Swung segment from to

  abbrev pub then : State K V
  then = after {S = S} s note

  abbrev known : ℕ → Option K
  known = keys_of place s segment

  abbrev old : Memory
  old = memory_of s segment

  abbrev new : Memory
  new = memory_of then segment

  owned : IsOwned s
  owned = good.owned

  drawn : IsDrawn s es
  drawn = good.drawn

  -- what the call knows
  filled : IsFilled old (Some from) to
  filled = subst (λ p. FitsAt (hash_by hash known) (own_for eq known key) c.hash old p) x.stands (x.fits known (agrees_now known))

  sound : IsSound (hash_by hash known) (same_by eq known) (mine_by known) old
  sound = good.sound segment x.within known (agrees_now known)

  -- the array has a number
  some_number : (p : ℕ) → array_before old p ≡ Some from → 0 < from
  some_number zero at = absurd (no_item at)
  some_number (suc zero) at = let is = one_item at in omega (arith, is)
  some_number (suc (suc p)) at = let high = (link_high s good.linked segment p from at).0 in omega (arith, high)

  pub root_is : root old ≡ Some from
  root_is = root_tells s good.linked segment from x.within (some_number filled.place filled.left.stands.there) (s.rooted segment)
      (good.linked.roots at_root segment (root_number segment from) root_there).1 (good.linked.some segment x.within) sound.linked

  place_is : filled.place ≡ s.rooted segment
  place_is = before_one old sound filled.place (s.rooted segment) from filled.left.stands.there root_is

  next_at : array_at old (s.rooted segment) ≡ Some to
  next_at = subst (λ p. array_at old p ≡ Some to) place_is filled.there

  rooted_here : then.rooted segment ≡ suc (s.rooted segment)
  rooted_here = ap (λ b. cond b (suc (s.rooted segment)) (s.rooted segment)) (eq-eqb segment segment refl)

  rooted_other : (i : ℕ) → segment ≢ i → then.rooted i ≡ s.rooted i
  rooted_other i other = elim (eqb_tells segment i) [
    | inl p ↦ absurd (other p.1)
    | inr p ↦ ap (λ b. cond b (suc (s.rooted segment)) (s.rooted i)) p.0
  ]

  words_then : (a : ℕ) → words_in then a ≡ words_in s a
  words_then a = words_same (word_in then.cells) (word_in s.cells) (s.arrays a) (λ i k e. word_swung segment to s.cells k)

  swings : Swings old new
  swings = record { words = words_then; arrays = refl; rooted = rooted_here; fresh = refl }

  pub swung_effect : EffectAll eq hash known key (access_of c) seen.Swung old new
  swung_effect ks agrees = subst (λ a. Effect (hash_by hash ks) (own_for eq ks key) a seen.Swung old new) (sym (ap (wanted c.hash) x.stands))
      (inl (root_is, next_at, swings))

  sees : Sees eq hash known key c seen.Swung old new
  sees = record { hashed = x.hashed; fits = x.fits; effect = swung_effect; choice = λ ks agrees. tt }

  sound_here : SoundAll eq hash known new
  sound_here = sound_after eq laws hash respects known key c seen.Swung old new (good.sound segment x.within) sees

  later_here : LaterAll eq known old new
  later_here = later_after eq laws hash respects known key c seen.Swung old new (good.sound segment x.within) sees

  keeps_here : KeepsMap old new
  keeps_here = point_keeps_map (own_for eq known key) c.hash old new sound (call.Swing (Some from) to) seen.Swung filled (inl (root_is, next_at, swings))

  map_here : (q : K) → pair_in eq place then segment q ≡ pair_in eq place s segment q
  map_here q = map_kept eq laws hash respects known s.pairs old new sound_here keeps_here q

  -- other segments
  elsewhere : (i : ℕ) → i ≢ segment → IsElsewhere (memory_of s i) (memory_of then i)
  elsewhere i other = record {
    words = λ p a e. words_then a;
    arrays = refl;
    rooted = rooted_other i (λ same. other (sym same));
    fresh = omega arith;
  }

  all_sound : (i : ℕ) → i < s.segments → SoundAll eq hash (keys_of place then i) (memory_of then i)
  all_sound i low = elim (eqb_tells i segment) [
    | inl p ↦ subst (λ j. SoundAll eq hash (keys_of place then j) (memory_of then j)) (sym p.1) sound_here
    | inr p ↦ rests_sound eq laws hash place respects s then (agrees_now s.pairs) i (good.sound i low) (elsewhere i p.1)
  ]

  all_later : (i : ℕ) → i < s.segments → LaterAll eq (keys_of place then i) (memory_of s i) (memory_of then i)
  all_later i low = elim (eqb_tells i segment) [
    | inl p ↦ subst (λ j. LaterAll eq (keys_of place then j) (memory_of s j) (memory_of then j)) (sym p.1) later_here
    | inr p ↦ rests_later eq laws hash place respects s then (agrees_now s.pairs) i (good.sound i low) (elsewhere i p.1)
  ]

  all_map : (i : ℕ) (q : K) → i < s.segments → pair_in eq place then i q ≡ pair_in eq place s i q
  all_map i q low = elim (eqb_tells i segment) [
    | inl p ↦ subst (λ j. pair_in eq place then j q ≡ pair_in eq place s j q) (sym p.1) (map_here q)
    | inr p ↦ rests_map eq laws hash place respects s then (agrees_now s.pairs) i (good.sound i low) (elsewhere i p.1) q
  ]

  -- no word changes
  pub swung_words : (a j : ℕ) → IsSameOrSealed (word_at (words_in s a) j) (word_at (words_in then a) j)
  swung_words a j = inl (ap (λ ws. word_at ws j) (words_then a))

  pub swung_note : (a j : ℕ) → IsNoNewSeal a j (word_at (words_in s a) j) (word_at (words_in then a) j) note
  swung_note a j = inl (ap (λ ws. word_at ws j) (words_then a))

  -- the new root is as its layout has it, so its words name nodes of the old one
  next : IsNext (hash_by hash known) (root old) (words_of old (root old)) (words_in s to)
  next = sound.follows to next_at

  laid : words_in s to ≡ layout (hash_by hash known) (words_of old (root old)) (length (words_in s to))
  laid = set_is_laid (root old) (words_of old (root old)) (words_in s to) next filled.set

  -- a place past the words names no node
  within_to : (j n : ℕ) → node_of (word_at (words_in s to) j) ≡ Some n → j < length (words_in s to)
  within_to j n names = named_within (words_in s to) j n names
    where
      named_within : (ws : List Word) (k n : ℕ) → node_of (word_at ws k) ≡ Some n → k < length ws
      named_within [] k n e = absurd (no_item e)
      named_within (w ∷ ws) zero n e = omega arith
      named_within (w ∷ ws) (suc k) n e = let low = named_within ws k n e in omega (arith, low)

  filled_word : (j : ℕ) → j < length (words_in s to) → IsEmptyOrLive (word_at (words_in s to) j)
  filled_word j low = subst (λ ws. IsEmptyOrLive (word_at ws j)) (sym laid)
      ((layout_is_filled (hash_by hash known) (words_of old (root old)) (length (words_in s to))).1 j low)

  came : (j n : ℕ) → node_of (word_at (words_in s to) j) ≡ Some n → (k : ℕ) × (node_of (word_at (words_in s from) k) ≡ Some n)
  came j n names =
      let low = within_to j n names in
      let stored = filled_node (word_at (words_in s to) j) n (filled_word j low) names in
      let (k, was) = (layout_stores (hash_by hash known) (words_of old (root old)) (length (words_in s to)) n (next_has_room old to next)).1
      (j, subst (λ ws. stored_in (word_at ws j) ≡ Some n) laid stored) in
      (k, stored_is_key (word_at (words_in s from) k) n (subst (λ o. stored_in (word_at (words_of old o) k) ≡ Some n) root_is was))

  from_rooted : IsRooted s segment from
  from_rooted = by (s.rooted segment) refl root_is
    where
      by : (r : ℕ) → s.rooted segment ≡ r → array_before old r ≡ Some from → IsRooted s segment from
      by zero is at = absurd (no_item at)
      by (suc p) is at = record { within = x.within; rooted = record { place = p; before = omega (arith, is); there = at } }

  -- and the other array is one
  pub swung_rooted : IsRooted then segment to
  swung_rooted = record {
    within = x.within;
    rooted = record { place = s.rooted segment; before = let more = rooted_here in omega (arith, more); there = next_at };
  }

  -- a root is the new one, or was one before
  was_rooted : (i a : ℕ) → IsRooted then i a → IsRooted s i a ⊎ ((i ≡ segment) × (a ≡ to))
  was_rooted i a r = elim (eqb_tells segment i) [
    | inl p ↦ at_segment p.1
    | inr p ↦ inl (record {
      within = r.within;
      rooted = record { place = r.rooted.place; before = subst (λ n. r.rooted.place < n) (rooted_other i p.1) r.rooted.before; there = r.rooted.there };
    })
  ]
    where
      at_segment : segment ≡ i → IsRooted s i a ⊎ ((i ≡ segment) × (a ≡ to))
      at_segment same = elim (eqb_tells r.rooted.place (s.rooted segment)) [
        | inl q ↦ inr (
          sym same,
          one_item (sym r.rooted.there ∙ (ap (λ j. slice_get (chain s j) r.rooted.place) (sym same)
              ∙ (ap (λ p. slice_get (chain s segment) p) q.1 ∙ next_at))),
        )
        | inr q ↦ inl (record {
          within = r.within;
          rooted = record {
            place = r.rooted.place;
            before =
                let low = subst (λ n. r.rooted.place < n) (ap then.rooted (sym same) ∙ rooted_here) r.rooted.before in
                let other = q.1 in
                subst (λ j. r.rooted.place < s.rooted j) same (omega (arith, low, other));
            there = r.rooted.there;
          };
        })
      ]

  -- the cells
  was : (k : ℕ) (o : Owner) → slice_get then.cells k ≡ Some o → (p : Owner) × (slice_get s.cells k ≡ Some p) × (o ≡ swung segment to p)
  was k o at = unmap_get (swung segment to) s.cells k o at

  is_then : (k : ℕ) (o : Owner) → slice_get s.cells k ≡ Some o → slice_get then.cells k ≡ Some (swung segment to o)
  is_then k o at = there_swung segment to s.cells k o at

  was_same : (k : ℕ) (o : Owner) → ((j u : ℕ) → o ≡ Root j u → ⊥) → slice_get then.cells k ≡ Some o → slice_get s.cells k ≡ Some o
  was_same k o other at = let (p, old_at, is) = was k o at in old_at ∙ ap Some (unswung segment to p o other is)

  was_door : (k : ℕ) → slice_get then.cells k ≡ Some Door → slice_get s.cells k ≡ Some Door
  was_door k at = was_same k Door (λ j u e. root_not_door (sym e)) at

  was_ticket : (k n : ℕ) (b : Bool) → slice_get then.cells k ≡ Some (Ticket n b) → slice_get s.cells k ≡ Some (Ticket n b)
  was_ticket k n b at = was_same k (Ticket n b) (λ j u e. root_not_ticket (sym e)) at

  was_array : (k n : ℕ) (b : Bool) → slice_get then.cells k ≡ Some (Array n b) → slice_get s.cells k ≡ Some (Array n b)
  was_array k n b at = was_same k (Array n b) (λ j u e. root_not_array (sym e)) at

  was_row : (k n : ℕ) (b : Bool) → slice_get then.cells k ≡ Some (Row n b) → slice_get s.cells k ≡ Some (Row n b)
  was_row k n b at = was_same k (Row n b) (λ j u e. root_not_row (sym e)) at

  was_next : (k a t : ℕ) → slice_get then.cells k ≡ Some (Next a t) → slice_get s.cells k ≡ Some (Next a t)
  was_next k a t at = was_same k (Next a t) (λ j u e. root_not_next (sym e)) at

  was_root : (k i u : ℕ) → slice_get then.cells k ≡ Some (Root i u) →
      (v : ℕ) × (slice_get s.cells k ≡ Some (Root i v)) × (u ≡ cond (i == segment) to v)
  was_root k i u at =
      let (p, old_at, is) = was k (Root i u) at in
      let (v, root_was, names) = unswung_root segment to p i u is in
      (v, old_at ∙ ap Some root_was, names)

  then_placed : IsPlaced then
  then_placed = record {
    within = λ a i k e. subst (λ n. k < n) (sym (map_length (swung segment to) s.cells)) (owned.places.within a i k e);
    one = owned.places.one;
  }

  then_owned : IsOwned then
  then_owned = record {
    door = λ k. (λ e. (owned.door k).0 (was_door k e), λ e. is_then k Door ((owned.door k).1 e));
    buckets = λ a i k e. (let (w, at) = owned.buckets a i k e in (w, is_then k (Bucket w) at));
    places = then_placed;
    tickets = λ j k n b d e f. owned.tickets j k n b d (was_ticket j n b e) (was_ticket k n d f);
    arrays = λ j k n b d e f. owned.arrays j k n b d (was_array j n b e) (was_array k n d f);
    nexts = λ j k a t u e f. owned.nexts j k a t u (was_next j a t e) (was_next k a u f);
    roots = λ j k i t u e f. owned.roots j k i (was_root j i t e).0 (was_root k i u f).0 (was_root j i t e).1 (was_root k i u f).1;
  }

  then_drawn : IsDrawn then es
  then_drawn = record {
    first = drawn.first;
    last = drawn.last;
    cells = λ k n b e. drawn.cells k n b (was_ticket k n b e);
    pairs = drawn.pairs;
    entries = drawn.entries;
    once = drawn.once;
    announced = λ k n b e. drawn.announced k n b (was_array k n b e);
    rows = λ k n b e. drawn.rows k n b (was_row k n b e);
    planned = drawn.planned;
  }

  -- the cell names the new root
  to_named : root_named (s.links segment) (suc (s.rooted segment)) ≡ to
  to_named = by (s.rooted segment) (good.linked.some segment x.within) next_at
    where
      by : (r : ℕ) → 0 < r → array_at old r ≡ Some to → root_named (s.links segment) (suc r) ≡ to
      by zero high at = absurd (omega (arith, high))
      by (suc p) high at = get_or (s.links segment) p to 0 at

  then_roots : (k i t : ℕ) → slice_get then.cells k ≡ Some (Root i t) → (i < s.segments) × (t ≡ root_named (s.links i) (then.rooted i))
  then_roots k i t e =
      let (v, at, names) = was_root k i t e in
      let (low, is) = good.linked.roots k i v at in (
        low,
        elim (eqb_tells i segment) [
          | inl p ↦ names ∙ (ap (λ b. cond b to v) p.0 ∙ (sym to_named
              ∙ (ap (root_named (s.links segment)) (sym rooted_here) ∙ ap (λ j. root_named (s.links j) (then.rooted j)) (sym p.1))))
          | inr p ↦ names ∙ (ap (λ b. cond b to v) p.0 ∙ (is ∙ ap (root_named (s.links i)) (sym (rooted_other i (λ same. p.1 (sym same))))))
        ],
      )

  then_linked : AreLinked then
  then_linked = record {
    numbers = λ k n b e. good.linked.numbers k n b (was_array k n b e);
    home = λ i p a at. (let (k, there) = good.linked.home i p a at in (k, is_then k (Array a true) there));
    planned = good.linked.planned;
    unmade = λ k n e. good.linked.unmade k n (was_array k n false e);
    past = good.linked.past;
    nexts = λ k a t e. good.linked.nexts k a t (was_next k a t e);
    roots = then_roots;
    some = λ i low. elim (eqb_tells segment i) [
      | inl p ↦ subst (λ j. 0 < then.rooted j) p.1 (let more = rooted_here in omega (arith, more))
      | inr p ↦ subst (λ n. 0 < n) (sym (rooted_other i p.1)) (good.linked.some i low)
    ];
    rise = good.linked.rise;
    grown = good.linked.grown;
  }

  -- nodes were put
  then_puts : (i a j n : ℕ) (p : K × V) → IsRooted then i a → node_of (word_at (words_in then a) j) ≡ Some n → s.pairs n ≡ Some p → WasPut eq es p.0
  then_puts i a j n p r names at = elim (was_rooted i a r) [
    | inl before ↦ good.puts i a j n p before named_before at
    | inr here ↦ (let (k, named) = came j n (ap (λ b. node_of (word_at (words_in s b) j)) (sym here.1) ∙ named_before) in
        good.puts segment from k n p from_rooted named at)
  ]
    where
      named_before : node_of (word_at (words_in s a) j) ≡ Some n
      named_before = sym (ap (λ ws. node_of (word_at ws j)) (words_then a)) ∙ names

  pub swung_good : IsGood eq hash place then es
  swung_good = record {
    owned = then_owned;
    drawn = then_drawn;
    linked = then_linked;
    sound = all_sound;
    puts = then_puts;
    legal = good.legal;
    map_is = λ q low. good.map_is q low ∙ sym (all_map (place q) q low);
  }

  pub swung_lasts : Lasts eq place s then
  swung_lasts = record {
    segments = refl;
    last = omega arith;
    arrays = λ a i k e. e;
    tickets = λ k n b e. (b, is_then k (Ticket n b) e, λ h. h);
    announced = λ k n b e. (b, is_then k (Array n b) e, λ h. h);
    rows = λ k n b e. inl (b, is_then k (Row n b) e, λ h. h);
    buckets = λ k w e. (w, is_then k (Bucket w) e);
    nexts = λ k a t e. (t, is_then k (Next a t) e);
    roots = λ k i t e. (cond (i == segment) to t, is_then k (Root i t) e);
    pairs = agrees_now s.pairs;
    plans = agrees_now s.plans;
    later = all_later;
  }

  pub swung_holds : (d : ℕ) → set (map (cell_of d) s.cells) at_root (to, true) ≡ map (cell_of d) then.cells
  swung_holds d = swung_cells d segment to s.cells at_root (root_number segment from) root_there
      (λ k u e. owned.roots k at_root segment u (root_number segment from) e root_there)

-- where the root is another one, the call leaves all as it is
module _ {K V : Type 0} (eq : K → K → Bool) (hash place : K → ℕ) (s : State K V) (es : List (Entry K V)) (good : IsGood eq hash place s es)
    (segment from to : ℕ) (key : Option K) (c : Call) (x : StandsAt eq hash place s segment key c (call.Swing (Some from) to)) (at_root number : ℕ)
    (root_there : slice_get s.cells at_root ≡ Some (Root segment number)) (other : number ≢ root_number segment from) where
  abbrev m : Memory
  m = memory_of s segment

  pub root_other : root m ≢ Some from
  root_other is = other ((good.linked.roots at_root segment number root_there).1 ∙ sym (root_names s good.linked segment from x.within (high (s.rooted segment) is) (s.rooted segment) is))
    where
      high : (r : ℕ) → array_before m r ≡ Some from → 0 < from
      high zero at = absurd (no_item at)
      high (suc zero) at = let is = one_item at in omega (arith, is)
      high (suc (suc p)) at = let up = (link_high s good.linked segment p from at).0 in omega (arith, up)

  pub swing_there : EffectAll eq hash (keys_of place s segment) key (access_of c) seen.Swung m m
  swing_there ks agrees = subst (λ a. Effect (hash_by hash ks) (own_for eq ks key) a seen.Swung m m) (sym (ap (wanted c.hash) x.stands))
      (inr (root_other, (λ a. refl, record { arrays = refl; rooted = refl; fresh = refl })))
