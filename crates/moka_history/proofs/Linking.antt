-- An array is linked, and all stays good.
use Rattle.std.proofs.Common.{◌≡◌, ◌≢◌, ◌⊎◌, ℕ, ◌<◌, ◌≤◌, ◌==◌, Bool, true, false, cond, List, [], ◌∷◌, ◌++◌, map, length, replicate, set, Option, Some, None, zero, suc, inl, inr, refl, sym, ap, subst, ◌∙◌, arith, slice_index_or}
use Rattle.std.proofs.lemmas.Bool.{cases_eq, eq-eqb, false≢true}
use Rattle.std.proofs.lemmas.Bool.Decides.{eqb_tells}
use Rattle.std.proofs.lemmas.Option.{slice_get_within}
use Rattle.std.specs.Cmp.{IsEquivalence}
use Rattle.std.specs.List.{slice_get}
use Rattle.std.specs.Option.{option_map}
use Rattle.moka_words.specs.declared.words.Word.{Word}
use Rattle.moka_words.specs.declared.words.Word.TheVariants.{Unset}
use Rattle.moka_words.specs.declared.accesses.Seen.TheVariants as seen
use Rattle.moka_words.specs.Words.{is_sealed, node_of, word_at}
use Rattle.moka_words.specs.Layout.{stored_nodes}
use Rattle.moka_words.specs.Effect.{Memory, Effect, Linked, Links, array_at, array_before, words_of}
use Rattle.moka_growth.specs.Calls.{Call, access_of, wanted}
use Rattle.moka_growth.specs.Calls as call
use Rattle.moka_growth.specs.Fits.{FitsAt, IsKept as HasKept}
use Rattle.moka_growth.specs.Growing.{next_size}
use Rattle.moka_growth.specs.Maps.{KeepsMap, IsElsewhere}
use Rattle.moka_growth.proofs.Copying.{all_unset}
use Rattle.moka_growth.proofs.Mapped.{keeps_nodes}
use Rattle.moka_pairs.specs.Keys.{Respects, hash_by, own_for}
use Rattle.moka_pairs.specs.Segments.{EffectAll, FitsAll, LaterAll, Sees, SoundAll}
use Rattle.moka_pairs.proofs.Mapped.{map_kept}
use Rattle.moka_pairs.proofs.Names.{agrees_now}
use Rattle.moka_pairs.proofs.Steps.{later_after, sound_after}
use Rattle.moka_history.specs.declared.note.Note.{Note}
use Rattle.moka_history.specs.declared.note.Note.TheVariants.{ArrayLinked}
use Rattle.moka_history.specs.Entries.{Entry}
use Rattle.moka_history.specs.States.{Owner, Door, Bucket, Ticket, Array, Row, Next, Root, State, IsPlaced, after, chain, joined, memory_of, no_next, numbered, word_in, word_of, words_in}
use Rattle.moka_history.specs.Cells.{cell_of}
use Rattle.moka_history.specs.Laws.{AreMade}
use Rattle.moka_history.specs.Rules.{keys_of, pair_in, AreLinked, IsOwned, IsDrawn, IsGood, IsRooted, IsRowStill, IsSameOrSealed, Lasts, WasPut, named, root_named}
use Rattle.moka_history.specs.Keeping.{IsReady, StandsAt}
use Rattle.moka_history.proofs.Cells.{words_same}
use Rattle.moka_history.proofs.Chains.{chain_one, place_one, unlinked}
use Rattle.moka_history.proofs.Joined.{joined_cells, own_array, own_row, row_joined, there_joined, unjoined_array, unjoined_door, unjoined_next, unjoined_root, unjoined_row, unjoined_ticket, word_joined}
use Rattle.moka_history.proofs.Lists.{no_item, one_item, front_get, get_below, get_or, map_get, map_length, map_set, more_get, other_get, set_from, set_get, unmap_get}
use Rattle.moka_history.proofs.Owners.{array_is_array, array_not_row, door_not_next, door_not_row, next_is_next, next_not_array, next_not_row, next_not_ticket, row_is_row, row_not_bucket, row_not_ticket}
use Rattle.moka_history.proofs.Renumbered.{AreBelow, kept_at, later_at, sound_at}
use Rattle.moka_history.proofs.Resting.{rests_later, rests_map, rests_sound}
use Rattle.moka_history.proofs.Sealing.{IsNoNewSeal}
use Rattle.moka_history.proofs.Swung.{root_not_next, root_not_row}

words_alike : (f : ℕ → Word) (keys : List ℕ) (w : Word) → ((i k : ℕ) → slice_get keys i ≡ Some k → f k ≡ w) → map f keys ≡ replicate (length keys) w
words_alike f [] w same = refl
words_alike f (k ∷ keys) w same = ap (λ v. v ∷ map f keys) (same 0 k refl) ∙ ap (λ vs. w ∷ vs) (words_alike f keys w (λ i j e. same (suc i) j e))

-- a cell that held no word names the next array
word_beside : (os : List Owner) (k j a u : ℕ) → word_in os k ≡ Unset → word_in (set os k (Next a u)) j ≡ word_in os j
word_beside [] k j a u e = refl
word_beside (o ∷ os) zero zero a u e = sym e
word_beside (o ∷ os) zero (suc j) a u e = refl
word_beside (o ∷ os) (suc k) zero a u e = refl
word_beside (o ∷ os) (suc k) (suc j) a u e = word_beside os k j a u e

-- an item is set that is there
set_there : {A : Type 0} (xs : List A) (k : ℕ) (x : A) → slice_get xs k ≡ Some x → set xs k x ≡ xs
set_there [] k x e = refl
set_there (y ∷ xs) zero x e = ap (λ z. z ∷ xs) (sym (one_item e))
set_there (y ∷ xs) (suc k) x e = ap (λ zs. y ∷ zs) (set_there xs k x e)

set_long : {A : Type 0} (xs : List A) (k : ℕ) (x : A) → length (set xs k x) ≡ length xs
set_long [] k x = refl
set_long (y ∷ xs) zero x = refl
set_long (y ∷ xs) (suc k) x = ap suc (set_long xs k x)

-- what stands behind the last item
past_none : {A : Type 0} (xs : List A) (k : ℕ) → slice_get xs k ≡ None → length xs ≤ k
past_none [] k e = omega arith
past_none (x ∷ xs) zero e = absurd (no_item (sym e))
past_none (x ∷ xs) (suc k) e = let rest = past_none xs k e in omega (arith, rest)

last_get : {A : Type 0} (xs : List A) (x : A) (k : ℕ) → k ≡ length xs → slice_get (xs ++ x ∷ []) k ≡ Some x
last_get [] x zero e = refl
last_get [] x (suc k) e = absurd (omega (arith, e))
last_get (y ∷ xs) x zero e = absurd (omega (arith, e))
last_get (y ∷ xs) x (suc k) e = last_get xs x k (omega (arith, e))

past_get : {A : Type 0} (xs : List A) (x : A) (k : ℕ) → k ≡ suc (length xs) → slice_get (xs ++ x ∷ []) k ≡ None
past_get [] x zero e = absurd (omega (arith, e))
past_get [] x (suc k) e = refl
past_get (y ∷ xs) x zero e = absurd (omega (arith, e))
past_get (y ∷ xs) x (suc k) e = past_get xs x k (omega (arith, e))

-- the state after it
module _ {K V : Type 0} (S : Type 0) (s : State K V) (ticket segment : ℕ) (grown : Option ℕ) (keys : List ℕ) (behind : ℕ)
    (made : AreMade s ticket keys behind) where
  abbrev pub linked_state : State K V
  linked_state = after {S = S} s (ArrayLinked ticket segment grown keys behind)

  pub word_linked : (k : ℕ) → word_in linked_state.cells k ≡ word_in s.cells k
  word_linked k = word_beside (map (joined ticket grown) s.cells) behind k ticket 1
      (word_joined ticket grown s.cells behind ∙ ap word_of (get_or s.cells behind (Row ticket true) Door made.last)) ∙ word_joined ticket grown s.cells k

  pub keys_other : (a : ℕ) → ticket ≢ a → linked_state.arrays a ≡ s.arrays a
  keys_other a other = elim (eqb_tells ticket a) [
    | inl p ↦ absurd (other p.1)
    | inr p ↦ ap (λ b. cond b keys (s.arrays a)) p.0
  ]

  pub keys_here : linked_state.arrays ticket ≡ keys
  keys_here = ap (λ b. cond b keys (s.arrays ticket)) (eq-eqb ticket ticket refl)

  pub links_other : (i : ℕ) → segment ≢ i → linked_state.links i ≡ s.links i
  links_other i other = elim (eqb_tells segment i) [
    | inl p ↦ absurd (other p.1)
    | inr p ↦ ap (λ b. cond b (s.links segment ++ ticket ∷ []) (s.links i)) p.0
  ]

  pub links_here : linked_state.links segment ≡ s.links segment ++ ticket ∷ []
  links_here = ap (λ b. cond b (s.links segment ++ ticket ∷ []) (s.links segment)) (eq-eqb segment segment refl)

  pub words_other : (a : ℕ) → a ≢ ticket → words_in linked_state a ≡ words_in s a
  words_other a other = words_same (word_in linked_state.cells) (word_in s.cells) (linked_state.arrays a) (λ i k e. word_linked k)
      ∙ ap (map (word_in s.cells)) (keys_other a (λ same. other (sym same)))

  pub words_new : words_in linked_state ticket ≡ replicate (length keys) Unset
  words_new = ap (map (word_in linked_state.cells)) keys_here ∙ words_alike (word_in linked_state.cells) keys Unset
      (λ i k e. word_linked k ∙ ap word_of (get_or s.cells k (Row ticket true) Door (made.home i k e)))

  pub link_adds : Links (length keys) (numbered ticket (memory_of s segment)) (numbered (suc ticket) (memory_of linked_state segment))
  link_adds = record {
    unset = words_new;
    others = words_other;
    arrays = ap (λ xs. suc segment ∷ xs) links_here;
    rooted = refl;
    fresh = refl;
  }

  pub link_adds_by : (note : Note K V S) → note ≡ ArrayLinked ticket segment grown keys behind →
      Links (length keys) (numbered ticket (memory_of s segment)) (numbered (suc ticket) (memory_of (after s note) segment))
  link_adds_by note is = subst (λ x. Links (length keys) (numbered ticket (memory_of s segment)) (numbered (suc ticket) (memory_of (after s x) segment))) (sym is) link_adds

module _ {K V : Type 0} (S : Type 0) (eq : K → K → Bool) (laws : IsEquivalence eq) (hash place : K → ℕ) (respects : Respects eq hash)
    (s : State K V) (es : List (Entry K V)) (good : IsGood eq hash place s es) (segment before size : ℕ) (kept : List (ℕ × ℕ)) (key : Option K) (c : Call)
    (x : StandsAt eq hash place s segment key c (call.Link (Some before) size kept)) (own ticket next : ℕ) (keys : List ℕ) (behind : ℕ)
    (r : IsReady s segment before own ticket next keys behind) (long : length keys ≡ next_size (Some before) size (length kept)) where
  abbrev pub grown : Option ℕ
  grown = Some before

  abbrev pub note : Note K V S
  note = ArrayLinked ticket segment grown keys behind

  abbrev pub then : State K V
  then = after {S = S} s note

  abbrev known : ℕ → Option K
  known = keys_of place s segment

  abbrev old : Memory
  old = memory_of s segment

  abbrev new : Memory
  new = memory_of then segment

  owned : IsOwned s
  owned = good.owned

  drawn : IsDrawn s es
  drawn = good.drawn

  numbers : (s.segments < ticket) × (ticket ≤ s.last)
  numbers = good.linked.numbers own ticket false r.there

  -- the array that is grown is the last one
  has_kept : HasKept (hash_by hash known) old (Some before) size kept
  has_kept = subst (λ p. FitsAt (hash_by hash known) (own_for eq known key) c.hash old p) x.stands (x.fits known (agrees_now known))

  stands : (p : ℕ) × (slice_get (chain s segment) p ≡ Some before)
  stands = by has_kept.place has_kept.left.stands.there
    where
      by : (p : ℕ) → array_before old p ≡ Some before → (q : ℕ) × (slice_get (chain s segment) q ≡ Some before)
      by zero e = absurd (no_item e)
      by (suc p) e = (p, e)

  none : slice_get (s.links segment) stands.0 ≡ None
  none = unlinked s good.linked next segment stands.0 before x.within stands.1 r.free

  last_place : stands.0 ≡ length (s.links segment)
  last_place =
      let low = slice_get_within (chain s segment) stands.0 before stands.1 in
      let high = past_none (s.links segment) stands.0 none in
      omega (arith, low, high)

  others : (a : ℕ) → a ≢ ticket → words_in then a ≡ words_in s a
  others = words_other S s ticket segment grown keys behind r.made

  -- the ticket isn't home: no segment has the array
  home_not : (k : ℕ) → slice_get s.cells k ≡ Some (Array ticket true) → ⊥
  home_not k at =
      let same = owned.arrays k own ticket true false at r.there in
      false≢true (sym (array_is_array (one_item (sym at ∙ (ap (slice_get s.cells) same ∙ r.there)))).1)

  not_ticket : (i p a : ℕ) → i < s.segments → slice_get (chain s i) p ≡ Some a → a ≢ ticket
  not_ticket i zero a low at same = absurd (let is = one_item at in let high = numbers.0 in omega (arith, is, high, low, same))
  not_ticket i (suc p) a low at same = home_not (good.linked.home i p a at).0
      ((good.linked.home i p a at).1 ∙ ap (λ n. Some (Array n true)) same)

  -- its own segment
  below : AreBelow s segment ticket
  below p a at = elim (cases_eq p stands.0) [
    | inl same ↦ (let is = one_item (sym at ∙ (ap (slice_get (chain s segment)) same ∙ stands.1)) in let high = before_low in omega (arith, is, high))
    | inr other ↦ (let within = slice_get_within (chain s segment) p a at in
        let is_last = last_place in
        let rise = good.linked.rise segment p stands.0 a before x.within (omega (arith, within, is_last, other)) at stands.1 in
        let high = before_low in
        omega (arith, rise, high))
  ]
    where
      before_low : before < ticket
      before_low = good.linked.grown ticket before (record { segment = segment; size = length keys; grown = Some before }) r.planned refl

  adds : Links (length keys) (numbered ticket old) (numbered (suc ticket) new)
  adds = link_adds S s ticket segment grown keys behind r.made

  at_none : array_at (numbered ticket old) (suc stands.0) ≡ None
  at_none = none

  pub linked_effect : EffectAll eq hash known key (access_of c) (seen.Linked ticket (length keys)) (numbered ticket old) (numbered (suc ticket) new)
  linked_effect ks agrees = subst
      (λ a. Effect (hash_by hash ks) (own_for eq ks key) a (seen.Linked ticket (length keys)) (numbered ticket old) (numbered (suc ticket) new))
      (sym (ap (wanted c.hash) x.stands)) (
        suc stands.0,
        record { there = stands.1; within = let low = slice_get_within (chain s segment) stands.0 before stands.1 in omega (arith, low) },
        subst (λ o. Linked o (next_size grown size (length kept)) ticket (length keys) (numbered ticket old) (numbered (suc ticket) new)) (sym at_none)
            (refl, long, subst (λ n. Links n (numbered ticket old) (numbered (suc ticket) new)) long adds),
      )

  fits_then : FitsAll eq hash known key (numbered ticket old) c
  fits_then ks agrees = subst (λ p. FitsAt (hash_by hash ks) (own_for eq ks key) c.hash (numbered ticket old) p) (sym x.stands)
      (kept_at s segment (suc s.last) ticket before size kept
      (subst (λ p. FitsAt (hash_by hash ks) (own_for eq ks key) c.hash old p) x.stands (x.fits ks agrees)))

  sound_was : SoundAll eq hash known (numbered ticket old)
  sound_was ks agrees = sound_at s segment (suc s.last) ticket (good.sound segment x.within ks agrees) below

  sees : Sees eq hash known key c (seen.Linked ticket (length keys)) (numbered ticket old) (numbered (suc ticket) new)
  sees = record { hashed = x.hashed; fits = fits_then; effect = linked_effect; choice = λ ks agrees. tt }

  sound_then : SoundAll eq hash known (numbered (suc ticket) new)
  sound_then = sound_after eq laws hash respects known key c (seen.Linked ticket (length keys)) (numbered ticket old) (numbered (suc ticket) new) sound_was sees

  sound_here : SoundAll eq hash known new
  sound_here ks agrees = sound_at then segment (suc ticket) (suc s.last) (sound_then ks agrees)
      (λ p a e. let low = (sound_then ks agrees).numbered p a e in let last = numbers.1 in omega (arith, low, last))

  later_here : LaterAll eq known old new
  later_here ks agrees = later_at s then segment ticket (suc ticket) (suc s.last) (suc s.last)
      (later_after eq laws hash respects known key c (seen.Linked ticket (length keys)) (numbered ticket old) (numbered (suc ticket) new) sound_was sees ks agrees)
      below (omega arith)

  -- arrays keep their places
  chain_then : (i p a : ℕ) → slice_get (chain s i) p ≡ Some a → slice_get (chain then i) p ≡ Some a
  chain_then i p a at = elim (cases_eq segment i) [
    | inl same ↦ subst (λ j. slice_get (chain s j) p ≡ Some a → slice_get (chain then j) p ≡ Some a) same
        (λ e. ap (λ xs. slice_get (suc segment ∷ xs) p) (links_here S s ticket segment grown keys behind r.made)
        ∙ front_get (suc segment ∷ s.links segment) (ticket ∷ []) p a e) at
    | inr other ↦ ap (λ xs. slice_get (suc i ∷ xs) p) (links_other S s ticket segment grown keys behind r.made i other) ∙ at
  ]

  -- and the root its words
  none_within : (xs : List ℕ) (k : ℕ) → k < length xs → slice_get xs k ≡ None → ⊥
  none_within xs k low e = let high = past_none xs k e in absurd (omega (arith, low, high))

  before_then : (p : ℕ) → p ≤ length (chain s segment) → words_of new (array_before new p) ≡ words_of old (array_before old p)
  before_then zero low = refl
  before_then (suc p) low = by (slice_get (chain s segment) p) refl
    where
      by : (o : Option ℕ) → slice_get (chain s segment) p ≡ o → words_of new (array_before new (suc p)) ≡ words_of old (array_before old (suc p))
      by None at = absurd (none_within (chain s segment) p (omega (arith, low)) at)
      by (Some a) at = ap (words_of new) (chain_then segment p a at) ∙ (others a (not_ticket segment p a x.within at) ∙ sym (ap (words_of old) at))

  keeps_here : KeepsMap old new
  keeps_here = keeps_nodes old new (ap (λ ws. stored_nodes ws)
      (before_then (s.rooted segment) ((good.sound segment x.within known (agrees_now known)).linked)))

  map_here : (q : K) → pair_in eq place then segment q ≡ pair_in eq place s segment q
  map_here q = map_kept eq laws hash respects known s.pairs old new sound_here keeps_here q

  -- other segments
  elsewhere : (i : ℕ) → i < s.segments → i ≢ segment → IsElsewhere (memory_of s i) (memory_of then i)
  elsewhere i low other = record {
    words = λ p a e. others a (not_ticket i p a low e);
    arrays = ap (λ xs. suc i ∷ xs) (links_other S s ticket segment grown keys behind r.made i (λ same. other (sym same)));
    rooted = refl;
    fresh = omega arith;
  }

  all_sound : (i : ℕ) → i < s.segments → SoundAll eq hash (keys_of place then i) (memory_of then i)
  all_sound i low = elim (eqb_tells i segment) [
    | inl p ↦ subst (λ j. SoundAll eq hash (keys_of place then j) (memory_of then j)) (sym p.1) sound_here
    | inr p ↦ rests_sound eq laws hash place respects s then (agrees_now s.pairs) i (good.sound i low) (elsewhere i low p.1)
  ]

  all_later : (i : ℕ) → i < s.segments → LaterAll eq (keys_of place then i) (memory_of s i) (memory_of then i)
  all_later i low = elim (eqb_tells i segment) [
    | inl p ↦ subst (λ j. LaterAll eq (keys_of place then j) (memory_of s j) (memory_of then j)) (sym p.1) later_here
    | inr p ↦ rests_later eq laws hash place respects s then (agrees_now s.pairs) i (good.sound i low) (elsewhere i low p.1)
  ]

  all_map : (i : ℕ) (q : K) → i < s.segments → pair_in eq place then i q ≡ pair_in eq place s i q
  all_map i q low = elim (eqb_tells i segment) [
    | inl p ↦ subst (λ j. pair_in eq place then j q ≡ pair_in eq place s j q) (sym p.1) (map_here q)
    | inr p ↦ rests_map eq laws hash place respects s then (agrees_now s.pairs) i (good.sound i low) (elsewhere i low p.1) q
  ]

  -- words of other arrays stay, and no word is sealed
  rooted_words : (i a : ℕ) → IsRooted s i a → words_in then a ≡ words_in s a
  rooted_words i a k = others a (not_ticket i k.rooted.place a k.within k.rooted.there)

  pub linked_words : (i a j : ℕ) → IsRooted s i a → IsSameOrSealed (word_at (words_in s a) j) (word_at (words_in then a) j)
  linked_words i a j k = inl (ap (λ ws. word_at ws j) (rooted_words i a k))

  pub linked_note : (a j : ℕ) → IsNoNewSeal a j (word_at (words_in s a) j) (word_at (words_in then a) j) note
  linked_note a j = elim (eqb_tells a ticket) [
    | inl p ↦ inr (inl (ap (λ b. is_sealed (word_at (words_in then b) j)) p.1
        ∙ (ap (λ ws. is_sealed (word_at ws j)) (words_new S s ticket segment grown keys behind r.made) ∙ ap is_sealed (all_unset (length keys) j))))
    | inr p ↦ inl (ap (λ ws. word_at ws j) (others a p.1))
  ]

  -- the cells
  behind_below : behind < length (map (joined ticket grown) s.cells)
  behind_below =
      let low = get_below s.cells behind (Row ticket true) r.made.last in
      let long_is = map_length (joined ticket grown) s.cells in
      omega (arith, low, long_is)

  was_or : (k : ℕ) (o : Owner) → slice_get then.cells k ≡ Some o →
      ((k ≡ behind) × (o ≡ Next ticket 1)) ⊎ ((p : Owner) × (slice_get s.cells k ≡ Some p) × (o ≡ joined ticket grown p))
  was_or k o at = elim (set_from (map (joined ticket grown) s.cells) behind (Next ticket 1) behind_below k o at) [
    | inl made ↦ inl made
    | inr old_one ↦ inr (unmap_get (joined ticket grown) s.cells k o old_one.1)
  ]

  was : (k : ℕ) (o : Owner) → ((a u : ℕ) → o ≡ Next a u → ⊥) → slice_get then.cells k ≡ Some o →
      (p : Owner) × (slice_get s.cells k ≡ Some p) × (o ≡ joined ticket grown p)
  was k o other at = elim (was_or k o at) [ inl made ↦ absurd (other ticket 1 made.1) | inr old_one ↦ old_one ]

  is_beside : (k : ℕ) (o : Owner) → k ≢ behind → slice_get s.cells k ≡ Some o → slice_get then.cells k ≡ Some (joined ticket grown o)
  is_beside k o other at = other_get (map (joined ticket grown) s.cells) behind k (Next ticket 1) other ∙ there_joined ticket grown s.cells k o at

  is_then : (k : ℕ) (o : Owner) → ((n : ℕ) (b : Bool) → o ≡ Row n b → ⊥) → slice_get s.cells k ≡ Some o → slice_get then.cells k ≡ Some (joined ticket grown o)
  is_then k o other at = is_beside k o (λ same. other ticket true (one_item (sym at ∙ (ap (slice_get s.cells) same ∙ r.made.last)))) at

  was_door : (k : ℕ) → slice_get then.cells k ≡ Some Door → slice_get s.cells k ≡ Some Door
  was_door k at = let (p, old_at, is) = was k Door (λ a u e. door_not_next e) at in old_at ∙ ap Some (unjoined_door ticket grown p is)

  was_ticket : (k n : ℕ) (b : Bool) → slice_get then.cells k ≡ Some (Ticket n b) → slice_get s.cells k ≡ Some (Ticket n b)
  was_ticket k n b at = let (p, old_at, is) = was k (Ticket n b) (λ a u e. next_not_ticket (sym e)) at in old_at ∙ ap Some (unjoined_ticket ticket grown p n b is)

  was_row : (k n : ℕ) (b : Bool) → slice_get then.cells k ≡ Some (Row n b) → slice_get s.cells k ≡ Some (Row n b)
  was_row k n b at = let (p, old_at, is) = was k (Row n b) (λ a u e. next_not_row (sym e)) at in old_at ∙ ap Some (unjoined_row ticket grown p n b is)

  was_array : (k n : ℕ) (b : Bool) → slice_get then.cells k ≡ Some (Array n b) →
      (d : Bool) × (slice_get s.cells k ≡ Some (Array n d)) × (b ≡ cond (n == ticket) true d)
  was_array k n b at =
      let (p, old_at, is) = was k (Array n b) (λ a u e. next_not_array (sym e)) at in
      let (d, array_is, home) = unjoined_array ticket grown p n b is in
      (d, old_at ∙ ap Some array_is, home)

  was_root : (k i u : ℕ) → slice_get then.cells k ≡ Some (Root i u) → slice_get s.cells k ≡ Some (Root i u)
  was_root k i u at =
      let (p, old_at, is) = was k (Root i u) (λ a t e. root_not_next e) at in
      old_at ∙ ap Some (unjoined_root ticket grown p i u is)

  was_next : (k a u : ℕ) → slice_get then.cells k ≡ Some (Next a u) →
      ((k ≡ behind) × (a ≡ ticket) × (u ≡ 1)) ⊎ ((v : ℕ) × (slice_get s.cells k ≡ Some (Next a v)) × (u ≡ cond (a == before) ticket v))
  was_next k a u at = elim (was_or k (Next a u) at) [
    | inl made ↦ inl (made.0, (next_is_next made.1).0, (next_is_next made.1).1)
    | inr old_one ↦ inr (
        let (p, old_at, is) = old_one in
        let (v, next_is, names) = unjoined_next ticket grown p a u is in
        (v, old_at ∙ ap Some next_is, names))
  ]

  -- no cell named the array after it before
  no_next_before : (k v : ℕ) → slice_get s.cells k ≡ Some (Next ticket v) → ⊥
  no_next_before k v at =
      let (i, p, low, there, names) = good.linked.nexts k ticket v at in
      not_ticket i p ticket low there refl

  next_one : (j k a t u : ℕ) → slice_get then.cells j ≡ Some (Next a t) → slice_get then.cells k ≡ Some (Next a u) → j ≡ k
  next_one j k a t u e f = elim (was_next j a t e) [
    | inl made ↦ elim (was_next k a u f) [
      | inl made_too ↦ made.0 ∙ sym made_too.0
      | inr old_one ↦ absurd (no_next_before k old_one.0 (old_one.1 ∙ ap (λ n. Some (Next n old_one.0)) made.1))
    ]
    | inr old_one ↦ elim (was_next k a u f) [
      | inl made ↦ absurd (no_next_before j old_one.0 (old_one.1 ∙ ap (λ n. Some (Next n old_one.0)) made.1))
      | inr old_too ↦ owned.nexts j k a old_one.0 old_too.0 old_one.1 old_too.1
    ]
  ]

  own_then : slice_get then.cells own ≡ Some (Array ticket true)
  own_then = is_then own (Array ticket false) (λ n b e. array_not_row e) r.there ∙ ap Some (own_array ticket grown false)

  -- an item of the array's row
  key_then : (i k : ℕ) → slice_get keys i ≡ Some k → slice_get then.cells k ≡ Some (Bucket Unset)
  key_then i k at = is_beside k (Row ticket true) (r.made.apart i k at) (r.made.home i k at) ∙ ap Some (own_row ticket grown)

  -- an item of an array is one of its row, or was one before
  item : (a i k : ℕ) → slice_get (then.arrays a) i ≡ Some k →
      ((a ≡ ticket) × (slice_get keys i ≡ Some k)) ⊎ ((a ≢ ticket) × (slice_get (s.arrays a) i ≡ Some k))
  item a i k e = elim (eqb_tells a ticket) [
    | inl p ↦ inl (p.1, ap (λ xs. slice_get xs i) (sym (keys_here S s ticket segment grown keys behind r.made)) ∙ (ap (λ b. slice_get (then.arrays b) i) (sym p.1) ∙ e))
    | inr p ↦ inr (p.1, ap (λ xs. slice_get xs i) (sym (keys_other S s ticket segment grown keys behind r.made a (λ same. p.1 (sym same)))) ∙ e)
  ]

  -- no array had it before
  row_apart : (a i j k : ℕ) → slice_get keys i ≡ Some k → slice_get (s.arrays a) j ≡ Some k → ⊥
  row_apart a i j k at there =
      let (w, bucket_at) = owned.buckets a j k there in
      row_not_bucket (one_item (sym (r.made.home i k at) ∙ bucket_at))

  then_placed : IsPlaced then
  then_placed = record {
    within = λ a i k e. subst (λ n. k < n) (sym (set_long (map (joined ticket grown) s.cells) behind (Next ticket 1) ∙ map_length (joined ticket grown) s.cells)) (elim (item a i k e) [
      | inl p ↦ row_below k (r.made.home i k p.1)
      | inr p ↦ owned.places.within a i k p.1
    ]);
    one = λ a b i j k e f. elim (item a i k e) [
      | inl p ↦ elim (item b j k f) [
        | inl q ↦ (p.0 ∙ sym q.0, r.made.differ i j k p.1 q.1)
        | inr q ↦ absurd (row_apart b i j k p.1 q.1)
      ]
      | inr p ↦ elim (item b j k f) [
        | inl q ↦ absurd (row_apart a j i k q.1 p.1)
        | inr q ↦ owned.places.one a b i j k p.1 q.1
      ]
    ];
  }
    where
      row_below : (k : ℕ) → slice_get s.cells k ≡ Some (Row ticket true) → k < length s.cells
      row_below k at = get_below s.cells k (Row ticket true) at

  then_owned : IsOwned then
  then_owned = record {
    door = λ k. (λ e. (owned.door k).0 (was_door k e), λ e. is_then k Door (λ n b d. door_not_row d) ((owned.door k).1 e));
    buckets = λ a i k e. elim (item a i k e) [
      | inl p ↦ (Unset, key_then i k p.1)
      | inr p ↦ (let (w, at) = owned.buckets a i k p.1 in (w, is_then k (Bucket w) (λ n b d. row_not_bucket (sym d)) at))
    ];
    places = then_placed;
    tickets = λ j k n b d e f. owned.tickets j k n b d (was_ticket j n b e) (was_ticket k n d f);
    arrays = λ j k n b d e f. owned.arrays j k n (was_array j n b e).0 (was_array k n d f).0 (was_array j n b e).1 (was_array k n d f).1;
    nexts = next_one;
    roots = λ j k i t u e f. owned.roots j k i t u (was_root j i t e) (was_root k i u f);
  }

  then_drawn : IsDrawn then es
  then_drawn = record {
    first = drawn.first;
    last = drawn.last;
    cells = λ k n b e. drawn.cells k n b (was_ticket k n b e);
    pairs = drawn.pairs;
    entries = drawn.entries;
    once = drawn.once;
    announced = λ k n b e. drawn.announced k n (was_array k n b e).0 (was_array k n b e).1;
    rows = λ k n b e. drawn.rows k n b (was_row k n b e);
    planned = drawn.planned;
  }

  -- what was linked in a segment
  link_was : (i p a : ℕ) → slice_get (then.links i) p ≡ Some a → (slice_get (s.links i) p ≡ Some a) ⊎ ((i ≡ segment) × (a ≡ ticket))
  link_was i p a at = elim (eqb_tells i segment) [
    | inl q ↦ elim (more_get (s.links segment) ticket p a (ap (λ xs. slice_get xs p) (sym (links_here S s ticket segment grown keys behind r.made))
        ∙ (ap (λ j. slice_get (then.links j) p) (sym q.1) ∙ at))) [
          | inl old_one ↦ inl (ap (λ j. slice_get (s.links j) p) q.1 ∙ old_one)
          | inr new_one ↦ inr (q.1, new_one.1)
        ]
    | inr q ↦ inl (ap (λ xs. slice_get xs p) (sym (links_other S s ticket segment grown keys behind r.made i (λ same. q.1 (sym same)))) ∙ at)
  ]

  array_then : (k n : ℕ) → slice_get s.cells k ≡ Some (Array n true) → slice_get then.cells k ≡ Some (Array n true)
  array_then k n at = is_then k (Array n true) (λ m b e. array_not_row e) at ∙ ap (λ b. Some (Array n b)) (always (n == ticket))
    where
      always : (b : Bool) → cond b true true ≡ true
      always true = refl
      always false = refl

  -- the array that was linked is the last one
  new_place : slice_get (chain then segment) (suc stands.0) ≡ Some ticket
  new_place = ap (λ xs. slice_get xs stands.0) (links_here S s ticket segment grown keys behind r.made) ∙ last_get (s.links segment) ticket stands.0 last_place

  -- an array of the segment is the new one, or had its place
  place_was : (i p a : ℕ) → slice_get (chain then i) p ≡ Some a →
      (slice_get (chain s i) p ≡ Some a) ⊎ ((i ≡ segment) × (p ≡ suc stands.0) × (a ≡ ticket))
  place_was i zero a at = inl at
  place_was i (suc p) a at = elim (link_was i p a at) [
    | inl old_one ↦ inl old_one
    | inr new_one ↦ elim (cases_eq p stands.0) [
      | inl same ↦ inr (new_one.0, ap suc same, new_one.1)
      | inr other ↦ inl (earlier new_one.0 other)
    ]
  ]
    where
      earlier : i ≡ segment → p ≢ stands.0 → slice_get (s.links i) p ≡ Some a
      earlier same other = subst (λ j. slice_get (then.links j) p ≡ Some a → slice_get (s.links j) p ≡ Some a) (sym same)
          (λ e. elim (more_get (s.links segment) ticket p a (ap (λ xs. slice_get xs p) (sym (links_here S s ticket segment grown keys behind r.made)) ∙ e)) [
            | inl old_one ↦ old_one
            | inr new_one ↦ absurd (let high = slice_get_within (s.links segment ++ ticket ∷ []) p a
                (ap (λ xs. slice_get xs p) (sym (links_here S s ticket segment grown keys behind r.made)) ∙ e) in
                other (new_one.0 ∙ sym last_place))
          ]) at

  -- what follows an array follows it still, unless it is the one that is grown
  follows_then : (i p a : ℕ) → i < s.segments → slice_get (chain s i) p ≡ Some a → a ≢ before → slice_get (then.links i) p ≡ slice_get (s.links i) p
  follows_then i p a low at other = elim (cases_eq segment i) [
    | inl same ↦ by same (slice_get (s.links i) p) refl
    | inr apart ↦ ap (λ xs. slice_get xs p) (links_other S s ticket segment grown keys behind r.made i apart)
  ]
    where
      by : segment ≡ i → (o : Option ℕ) → slice_get (s.links i) p ≡ o → slice_get (then.links i) p ≡ slice_get (s.links i) p
      by same (Some b) next_at = chain_then i (suc p) b next_at ∙ sym next_at
      by same None next_at = absurd (
          let low_place = slice_get_within (chain s i) p a at in
          let high = past_none (s.links i) p next_at in
          let is_last = last_place in
          let count = ap (λ j. length (s.links j)) same in
          let one : p ≡ stands.0 = omega (arith, low_place, high, is_last, count) in
          other (one_item (sym at ∙ (ap (λ j. slice_get (chain s j) p) (sym same) ∙ (ap (slice_get (chain s segment)) one ∙ stands.1)))))

  then_nexts : (k a t : ℕ) → slice_get then.cells k ≡ Some (Next a t) →
      (i p : ℕ) × (i < s.segments) × (slice_get (chain then i) p ≡ Some a) × (t ≡ named (no_next i a) (slice_get (then.links i) p))
  then_nexts k a t e = elim (was_next k a t e) [
    | inl made ↦ (segment, suc stands.0, x.within, new_place ∙ ap Some (sym made.1), made.2 ∙ new_none made.1)
    | inr old_one ↦ old_next old_one
  ]
    where
      new_none : a ≡ ticket → 1 ≡ named (no_next segment a) (slice_get (then.links segment) (suc stands.0))
      new_none same = sym (ap (named (no_next segment a)) (ap (λ xs. slice_get xs (suc stands.0)) (links_here S s ticket segment grown keys behind r.made)
          ∙ past_get (s.links segment) ticket (suc stands.0) (ap suc last_place)) ∙ elim (eqb_tells a (suc segment)) [
            | inl p ↦ absurd (let is = p.1 in let high = numbers.0 in let low = x.within in omega (arith, is, same, high, low))
            | inr p ↦ ap (λ b. cond b 0 1) p.0
          ])

      grown_next : (i p : ℕ) → i < s.segments → slice_get (chain s i) p ≡ Some a → a ≡ before → ticket ≡ named (no_next i a) (slice_get (then.links i) p)
      grown_next i p low there same =
          let here : slice_get (chain s segment) stands.0 ≡ Some a = stands.1 ∙ ap Some (sym same) in
          let own : i ≡ segment = chain_one s good.linked i segment p stands.0 a low x.within there here in
          let one : p ≡ stands.0 = place_one s good.linked segment p stands.0 a x.within (subst (λ j. slice_get (chain s j) p ≡ Some a) own there) here in
          sym (ap (λ j. named (no_next j a) (slice_get (then.links j) p)) own
          ∙ (ap (λ q. named (no_next segment a) (slice_get (then.links segment) q)) one ∙ ap (named (no_next segment a)) new_place))

      old_next : (v : ℕ) × (slice_get s.cells k ≡ Some (Next a v)) × (t ≡ cond (a == before) ticket v) →
          (i p : ℕ) × (i < s.segments) × (slice_get (chain then i) p ≡ Some a) × (t ≡ named (no_next i a) (slice_get (then.links i) p))
      old_next (v, at, names) =
          let (i, p, low, there, is) = good.linked.nexts k a v at in (
            i,
            p,
            low,
            chain_then i p a there,
            elim (eqb_tells a before) [
              | inl q ↦ names ∙ (ap (λ b. cond b ticket v) q.0 ∙ grown_next i p low there q.1)
              | inr q ↦ names ∙ (ap (λ b. cond b ticket v) q.0 ∙ (is ∙ ap (named (no_next i a)) (sym (follows_then i p a low there q.1))))
            ],
          )

  -- a root is named as before
  then_roots : (k i t : ℕ) → slice_get then.cells k ≡ Some (Root i t) → (i < s.segments) × (t ≡ root_named (then.links i) (s.rooted i))
  then_roots k i t e =
      let (low, is) = good.linked.roots k i t (was_root k i t e) in
      (low, is ∙ by low (s.rooted i) ((good.sound i low (keys_of place s i) (agrees_now (keys_of place s i))).linked))
    where
      by : i < s.segments → (p : ℕ) → p ≤ length (chain s i) → root_named (s.links i) p ≡ root_named (then.links i) p
      by low zero high = refl
      by low (suc zero) high = refl
      by low (suc (suc p)) high = at p (slice_get (s.links i) p) refl (omega (arith, high))
        where
          at : (q : ℕ) (o : Option ℕ) → slice_get (s.links i) q ≡ o → q < length (s.links i) → slice_index_or (s.links i) q 0 ≡ slice_index_or (then.links i) q 0
          at q None there below_end = absurd (none_within (s.links i) q below_end there)
          at q (Some a) there below_end = get_or (s.links i) q a 0 there ∙ sym (get_or (then.links i) q a 0 (chain_then i (suc q) a there))

  then_rise : (i p q a b : ℕ) → i < s.segments → p < q → slice_get (chain then i) p ≡ Some a → slice_get (chain then i) q ≡ Some b → a < b
  then_rise i p q a b low less at there = elim (place_was i q b there) [
    | inl old_too ↦ elim (place_was i p a at) [
      | inl old_one ↦ good.linked.rise i p q a b low less old_one old_too
      | inr new_one ↦ absurd (let high = slice_get_within (chain s i) q b old_too in let is_last = last_place in
          let count = ap (λ j. length (s.links j)) new_one.0 in let here = new_one.1 in omega (arith, high, is_last, count, here, less))
    ]
    | inr new_one ↦ elim (place_was i p a at) [
      | inl old_one ↦ (let lower = below p a (subst (λ j. slice_get (chain s j) p ≡ Some a) new_one.0 old_one) in let is = new_one.2 in omega (arith, lower, is))
      | inr new_too ↦ absurd (let here = new_one.1 in let there_too = new_too.1 in omega (arith, here, there_too, less))
    ]
  ]

  then_linked : AreLinked then
  then_linked = record {
    numbers = λ k n b e. good.linked.numbers k n (was_array k n b e).0 (was_array k n b e).1;
    home = λ i p a at. elim (link_was i p a at) [
      | inl old_one ↦ (let (k, there) = good.linked.home i p a old_one in (k, array_then k a there))
      | inr new_one ↦ (own, own_then ∙ ap (λ n. Some (Array n true)) (sym new_one.1))
    ];
    planned = λ i p a at. elim (link_was i p a at) [
      | inl old_one ↦ good.linked.planned i p a old_one
      | inr new_one ↦ (
        record { segment = segment; size = length keys; grown = grown },
        ap s.plans new_one.1 ∙ r.planned,
        sym new_one.0,
      )
    ];
    unmade = λ k n e. unmade_by k n (was_array k n false e);
    past = λ n high. keys_other S s ticket segment grown keys behind r.made n (λ same. let low = numbers.1 in absurd (omega (arith, low, high, same))) ∙ good.linked.past n high;
    nexts = then_nexts;
    roots = then_roots;
    some = good.linked.some;
    rise = then_rise;
    grown = good.linked.grown;
  }
    where
      unmade_by : (k n : ℕ) → (d : Bool) × (slice_get s.cells k ≡ Some (Array n d)) × (false ≡ cond (n == ticket) true d) → then.arrays n ≡ []
      unmade_by k n (d, at, home) = elim (eqb_tells n ticket) [
        | inl p ↦ absurd (false≢true (home ∙ ap (λ b. cond b true d) p.0))
        | inr p ↦ keys_other S s ticket segment grown keys behind r.made n (λ same. p.1 (sym same))
            ∙ good.linked.unmade k n (at ∙ ap (λ b. Some (Array n b)) (sym (home ∙ ap (λ b. cond b true d) p.0)))
      ]

  -- roots are what they were
  root_was : (i a : ℕ) → IsRooted then i a → IsRooted s i a
  root_was i a k = elim (place_was i k.rooted.place a k.rooted.there) [
    | inl there ↦ record { within = k.within; rooted = record { place = k.rooted.place; before = k.rooted.before; there = there } }
    | inr new_one ↦ absurd (
        let few = (good.sound i k.within (keys_of place s i) (agrees_now (keys_of place s i))).linked in
        let low = k.rooted.before in
        let here = new_one.1 in
        let is_last = last_place in
        let count = ap (λ j. length (s.links j)) new_one.0 in
        omega (arith, few, low, here, is_last, count))
  ]

  then_puts : (i a j n : ℕ) (p : K × V) → IsRooted then i a → node_of (word_at (words_in then a) j) ≡ Some n → s.pairs n ≡ Some p → WasPut eq es p.0
  then_puts i a j n p k names at =
      let root = root_was i a k in
      good.puts i a j n p root (sym (ap (λ ws. node_of (word_at ws j)) (rooted_words i a root)) ∙ names) at

  pub linked_good : IsGood eq hash place then es
  linked_good = record {
    owned = then_owned;
    drawn = then_drawn;
    linked = then_linked;
    sound = all_sound;
    puts = then_puts;
    legal = good.legal;
    map_is = λ q low. good.map_is q low ∙ sym (all_map (place q) q low);
  }

  row_lasts : (k n : ℕ) (b : Bool) → slice_get s.cells k ≡ Some (Row n b) → IsRowStill then k n b
  row_lasts k n b at = elim (cases_eq k behind) [
    | inl same ↦ inr (
      Next ticket 1,
      ap (slice_get then.cells) same ∙ set_get (map (joined ticket grown) s.cells) behind (Next ticket 1) behind_below,
      tt,
      (own, own_then ∙ ap (λ m. Some (Array m true)) (sym (row_is_row (one_item (sym at ∙ (ap (slice_get s.cells) same ∙ r.made.last)))).0)),
    )
    | inr other ↦ elim (row_joined ticket grown n b) [
      | inl same ↦ inl (b, is_beside k (Row n b) other at ∙ ap Some same, λ h. h)
      | inr made ↦ inr (Bucket Unset, is_beside k (Row n b) other at ∙ ap Some made.1, tt, (own, own_then ∙ ap (λ m. Some (Array m true)) (sym made.0)))
    ]
  ]

  pub linked_lasts : Lasts eq place s then
  linked_lasts = record {
    segments = refl;
    last = omega arith;
    arrays = λ a i k e. elim (eqb_tells a ticket) [
      | inl p ↦ absurd (no_item (ap (λ xs. slice_get xs i) (sym (ap s.arrays p.1 ∙ good.linked.unmade own ticket r.there)) ∙ e))
      | inr p ↦ ap (λ xs. slice_get xs i) (keys_other S s ticket segment grown keys behind r.made a (λ same. p.1 (sym same))) ∙ e
    ];
    tickets = λ k n b e. (b, is_then k (Ticket n b) (λ m d f. row_not_ticket (sym f)) e, λ h. h);
    announced = λ k n b e. (cond (n == ticket) true b, is_then k (Array n b) (λ m d f. array_not_row f) e, home_by (n == ticket) b);
    rows = row_lasts;
    buckets = λ k w e. (w, is_then k (Bucket w) (λ m d f. row_not_bucket (sym f)) e);
    nexts = λ k a t e. (cond (a == before) ticket t, is_then k (Next a t) (λ m d f. next_not_row f) e);
    roots = λ k i t e. (t, is_then k (Root i t) (λ m d f. root_not_row f) e);
    pairs = agrees_now s.pairs;
    plans = agrees_now s.plans;
    later = all_later;
  }
    where
      home_by : (x y : Bool) → y ≡ true → cond x true y ≡ true
      home_by true y e = refl
      home_by false y e = e

  pub linked_cells : (d : ℕ) → set (set (map (cell_of d) s.cells) next (ticket, true)) own (0, true) ≡ map (cell_of d) then.cells
  linked_cells d = joined_cells d ticket before s.cells next own (no_next segment before) r.free r.there
      (λ k u e. owned.nexts k next before u (no_next segment before) e r.free) (λ k b e. owned.arrays k own ticket b false e r.there)
      ∙ (sym (set_there (map (cell_of d) (map (joined ticket grown) s.cells)) behind (1, true) held) ∙ sym (map_set (cell_of d) (map (joined ticket grown) s.cells) behind (Next ticket 1)))
    where
      -- the cell behind the words held an unset word
      held : slice_get (map (cell_of d) (map (joined ticket grown) s.cells)) behind ≡ Some (1, true)
      held = map_get (cell_of d) (map (joined ticket grown) s.cells) behind
          ∙ ap (option_map (cell_of d)) (there_joined ticket grown s.cells behind (Row ticket true) r.made.last ∙ ap Some (own_row ticket grown))
