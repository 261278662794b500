-- A word is exchanged by a call, and all stays good.
use Rattle.std.proofs.Common.{◌≡◌, ◌≢◌, ◌⊎◌, ℕ, ◌+◌, ◌<◌, ◌≤◌, ◌==◌, Bool, true, false, cond, List, [], ◌∷◌, ◌++◌, map, length, set, Option, Some, None, inl, inr, refl, sym, ap, subst, ◌∙◌, arith}
use Rattle.std.proofs.lemmas.Bool.{eqb-true, false≢true}
use Rattle.std.proofs.lemmas.Bool.Decides.{eqb_tells}
use Rattle.std.proofs.lemmas.List.{get_or-set_other, length-map}
use Rattle.std.specs.Cmp.{IsEquivalence}
use Rattle.std.specs.List.{slice_get}
use Rattle.std.specs.Option.{is_some, option_map, option_map_or}
use Rattle.moka_hist.specs.Finite.{put_key, times}
use Rattle.moka_words.specs.declared.words.Word.{Word}
use Rattle.moka_words.specs.declared.words.Word.TheVariants.{Empty, Live, Tomb}
use Rattle.moka_words.specs.declared.accesses.Seen.{Seen}
use Rattle.moka_words.specs.declared.accesses.Seen.TheVariants as seen
use Rattle.moka_words.proofs.Lasts.{set_cases}
use Rattle.moka_words.specs.Words.{is_sealed, node_of, stored_in, word_at}
use Rattle.moka_words.specs.Arrays.{bucket_at}
use Rattle.moka_words.specs.Effect.{Memory, Effect, SetsWord}
use Rattle.moka_growth.specs.Calls.{Call, Changed as ends_changed, access_of, next_at, wanted}
use Rattle.moka_growth.specs.Fits.{FitsAt, IsProbing, IsChange}
use Rattle.moka_growth.specs.Maps.{Finds, ChangesMap, IsElsewhere, stores}
use Rattle.moka_growth.proofs.Exchanging.{bucket_within, change_node, change_own}
use Rattle.moka_pairs.specs.Keys.{Respects, hash_by, own_by, own_for}
use Rattle.moka_pairs.specs.Pairs.{pair_at}
use Rattle.moka_pairs.specs.Segments.{SoundAll, LaterAll, EffectAll, Sees}
use Rattle.moka_pairs.proofs.Names.{agrees_now, hashed_by}
use Rattle.moka_pairs.proofs.Divided.{segment_are}
use Rattle.moka_pairs.proofs.Steps.{ends_after, later_after, sound_after}
use Rattle.moka_history.specs.declared.note.Note.TheVariants.{Changed}
use Rattle.moka_history.specs.Entries.{Entry, map_after, pair_put}
use Rattle.moka_history.specs.States.{Owner, Door, Bucket, Ticket, Array, Row, Next, Root, State, IsPlaced, after, key_at, memory_of, spent, word_in, words_in}
use Rattle.moka_history.specs.Logs.{entry_of, entry_with}
use Rattle.moka_history.specs.Cells.{cell_of, number_of}
use Rattle.moka_history.specs.Rules.{WasPut, AreLinked, made_on, keys_of, pair_in, IsOwned, IsDrawn, IsGood, IsRooted, Lasts}
use Rattle.moka_history.specs.Keeping.{Exchanges}
use Rattle.moka_history.proofs.Cells.{changed_sets, key_there}
use Rattle.moka_history.proofs.Chains.{chain_one, links_stay}
use Rattle.moka_history.proofs.Lists.{one_item, front_get, get_below, get_or, last_get, set_get, map_more as maps_more, times_more}
use Rattle.moka_history.proofs.Maps.{change_is, legal_more, map_more, named_pair}
use Rattle.moka_history.proofs.Owners.{bucket_is_no_ticket, changed_cells, door_is_no_bucket, changed_here, changed_other, changed_from, unspent_array, unspent_door, unspent_next, unspent_root, unspent_row, unspent_ticket, array_not_bucket, next_not_bucket, row_not_bucket}
use Rattle.moka_history.proofs.Resting.{rests_sound, rests_later, rests_map}
use Rattle.moka_history.proofs.Rooted.{was_rooted}
use Rattle.moka_history.proofs.Swung.{root_not_bucket}

not_door : {w : Word} → Door ≡ Bucket w → ⊥
not_door e = absurd (cc (e))

not_ticket : {w : Word} {n : ℕ} {b : Bool} → Ticket n b ≡ Bucket w → ⊥
not_ticket e = absurd (cc (e))

-- a key that a number has
key_named : {K : Type 0} (test : K → Bool) (o : Option K) → option_map_or test o false ≡ true → (k : K) × (o ≡ Some k) × (test k ≡ true)
key_named test None e = absurd (false≢true e)
key_named test (Some k) e = (k, refl, e)

-- equal keys are equal to the same keys
same_own : {K : Type 0} (eq : K → K → Bool) → IsEquivalence eq → (key k : K) → eq key k ≡ true → (o : Option K) →
    option_map_or (eq key) o false ≡ option_map_or (eq k) o false
same_own eq laws key k same None = refl
same_own eq laws key k same (Some l) = laws.congr key k l same

-- a node that a change names is stored by it, or its bucket had the node
change_stores : (own : ℕ → Bool) (from to : Word) → IsChange own from to → (n : ℕ) → node_of to ≡ Some n → (stored_in to ≡ Some n) ⊎ (node_of from ≡ Some n)
change_stores own Empty (Live k) h n e = inl e
change_stores own (Tomb m) (Live k) h n e = inl e
change_stores own (Live m) (Live k) h n e = inl e
change_stores own (Live m) (Tomb k) h n e = inr (ap Some h.1 ∙ e)
change_stores own from to h n e = absurd h

-- and it isn't sealed
change_open : (own : ℕ → Bool) (from to : Word) → IsChange own from to → is_sealed to ≡ false
change_open own Empty (Live k) h = refl
change_open own (Tomb m) (Live k) h = refl
change_open own (Live m) (Live k) h = refl
change_open own (Live m) (Tomb k) h = refl
change_open own from to h = absurd h

module _ {K V : Type 0} (S : Type 0) (eq : K → K → Bool) (laws : IsEquivalence eq) (hash place : K → ℕ) (respects : Respects eq hash)
    (alike : Respects eq place) (s : State K V) (es : List (Entry K V)) (good : IsGood eq hash place s es) (key : K) (c : Call)
    (array size passed : ℕ) (from to : Word) (x : Exchanges eq hash place s key c array size passed from to)
    (own ticket : ℕ) (there : slice_get s.cells own ≡ Some (Ticket ticket false)) where
  abbrev pub index : ℕ
  index = bucket_at size c.hash passed

  abbrev pub changed_state : State K V
  changed_state = after {S = S} s (Changed ticket array index to)

  abbrev pub here : ℕ
  here = place key

  abbrev pub known : ℕ → Option K
  known = keys_of place s here

  abbrev pub old : Memory
  old = memory_of s here

  abbrev pub new : Memory
  new = memory_of changed_state here

  abbrev pub saw : Seen
  saw = seen.Exchanged None

  pub owned : IsOwned s
  owned = good.owned

  pub drawn : IsDrawn s es
  drawn = good.drawn

  -- what the call knows of the bucket
  pub fits : IsProbing (own_by eq known key) c.hash old array size passed × IsChange (own_by eq known key) from to
  fits = subst (λ p. FitsAt (hash_by hash known) (own_for eq known (Some key)) c.hash old p) x.call.comes (x.call.fits known (agrees_now known))

  -- the array is the root, or was it
  pub is_rooted : IsRooted s here array
  is_rooted = record { within = x.call.within; rooted = fits.0.rooted }

  pub within : index < length (s.arrays array)
  within =
      let inside = bucket_within size c.hash passed fits.0.more in
      let size_is = fits.0.size_is in
      let long = length-map (s.arrays array) (word_in s.cells) in
      omega (arith, inside, size_is, long)

  pub sets : (i : ℕ) → SetsWord array index to (memory_of s i) (memory_of changed_state i) × IsPlaced changed_state
  sets i = changed_sets S s owned.places ticket array index to within (Changed ticket array index to) refl i

  -- its own segment
  pub effect : EffectAll eq hash known (Some key) (access_of c) saw old new
  effect keys agrees = subst (λ a. Effect (hash_by hash keys) (own_for eq keys (Some key)) a saw old new) (sym (ap (wanted c.hash) x.call.comes))
      (x.found, (sets here).0)

  pub sees : Sees eq hash known (Some key) c saw old new
  sees = record { hashed = hashed_by hash key c x.call.hashed; fits = x.call.fits; effect = effect; choice = λ keys agrees. tt }

  pub sound_here : SoundAll eq hash known new
  sound_here = sound_after eq laws hash respects known (Some key) c saw old new (good.sound here x.call.within) sees

  pub later_here : LaterAll eq known old new
  later_here = later_after eq laws hash respects known (Some key) c saw old new (good.sound here x.call.within) sees

  pub ends : Finds (own_by eq known key) old (stored_in from) × ChangesMap (own_by eq known key) (stored_in from) (stored_in to) old new
  ends =
      let e = ends_after eq laws hash respects known (Some key) c saw old new (good.sound here x.call.within) sees (ends_changed (stored_in from))
      (ap (λ p. next_at c p saw) x.call.comes) in
      (e.0, subst (λ p. ChangesMap (own_by eq known key) (stored_in from) (stores p) old new) x.call.comes e.1)

  -- the node of the new word, and its key
  pub node : (n : ℕ) × (node_of to ≡ Some n)
  node = change_node (own_by eq known key) from to fits.1

  pub named : (k : K) × (known node.0 ≡ Some k) × (eq key k ≡ true)
  named = key_named (eq key) (known node.0) (change_own (own_by eq known key) from to fits.1 node.0 node.1)

  abbrev pub own_key : K
  own_key = named.0

  own_is : own_by eq known key ≡ own_by eq known own_key
  own_is = λ i n. same_own eq laws key own_key named.2 (known n) i

  in_place : here ≡ place own_key
  in_place = alike key own_key named.2

  abbrev pub entry : Entry K V
  entry = entry_with s.pairs ticket from to own_key

  change : (entry.former ≡ pair_in eq place s here own_key)
      × ((q : K) → pair_in eq place changed_state here q ≡ put_key eq (pair_in eq place s here) own_key (pair_put entry) q)
  change = change_is eq laws hash respects known s.pairs (segment_are (λ k. place k == here) s.pairs) old new (good.sound here x.call.within) sound_here ticket
      from to node.0 own_key node.1 named.1 (subst (λ f. Finds f old (stored_in from)) own_is ends.0)
      (subst (λ f. ChangesMap f (stored_in from) (stored_in to) old new) own_is ends.1)

  pair_is : (v : V) × (pair_at s.pairs (node_of to) ≡ Some (own_key, v))
  pair_is =
      let (v, filled) = named_pair known s.pairs (segment_are (λ k. place k == here) s.pairs) node.0 own_key named.1 in
      (v, ap (pair_at s.pairs) node.1 ∙ filled)

  pub key_is : option_map (λ p. p.0) (pair_at s.pairs (node_of to)) ≡ Some own_key
  key_is = ap (option_map (λ p. p.0)) pair_is.1

  pub key_equal : eq key own_key ≡ true
  key_equal = named.2

  pub entry_is : entry_of {S = S} s (Changed ticket array index to) ≡ Some entry
  entry_is = ap (option_map (λ p. entry_with s.pairs ticket (word_at (words_in s array) index) to p.0)) pair_is.1
      ∙ ap (λ w. Some (entry_with s.pairs ticket w to own_key)) x.found

  -- other segments
  elsewhere : (i : ℕ) → i < s.segments → i ≢ here → IsElsewhere (memory_of s i) (memory_of changed_state i)
  elsewhere i low other = record {
    words = λ p a e. (sets i).0.1 a (λ same. other
        (chain_one s good.linked i here p fits.0.rooted.place a low x.call.within e (fits.0.rooted.there ∙ ap Some (sym same))));
    arrays = refl;
    rooted = refl;
    fresh = omega arith;
  }

  there_sound : (i : ℕ) → i < s.segments → SoundAll eq hash (keys_of place changed_state i) (memory_of changed_state i)
  there_sound i below = elim (eqb_tells i here) [
    | inl p ↦ subst (λ j. SoundAll eq hash (keys_of place changed_state j) (memory_of changed_state j)) (sym p.1) sound_here
    | inr p ↦ rests_sound eq laws hash place respects s changed_state (agrees_now s.pairs) i (good.sound i below) (elsewhere i below p.1)
  ]

  there_later : (i : ℕ) → i < s.segments → LaterAll eq (keys_of place changed_state i) (memory_of s i) (memory_of changed_state i)
  there_later i below = elim (eqb_tells i here) [
    | inl p ↦ subst (λ j. LaterAll eq (keys_of place changed_state j) (memory_of s j) (memory_of changed_state j)) (sym p.1) later_here
    | inr p ↦ rests_later eq laws hash place respects s changed_state (agrees_now s.pairs) i (good.sound i below) (elsewhere i below p.1)
  ]

  -- the map
  abbrev pub longer : List (Entry K V)
  longer = es ++ entry ∷ []

  pub former_is : entry.former ≡ map_after eq es own_key
  former_is = change.0 ∙ (ap (λ i. pair_in eq place s i own_key) in_place
      ∙ sym (good.map_is own_key (subst (λ i. i < s.segments) in_place x.call.within)))

  map_here : (q : K) → place q ≡ here → place q < s.segments → put_key eq (map_after eq es) own_key (pair_put entry) q ≡ pair_in eq place changed_state (place q) q
  map_here q is below =
      ap (λ o. cond (eq own_key q) (pair_put entry) o) (good.map_is q below ∙ ap (λ i. pair_in eq place s i q) is)
      ∙ (sym (change.1 q) ∙ ap (λ i. pair_in eq place changed_state i q) (sym is))

  map_there : (q : K) → place q ≢ here → place q < s.segments → put_key eq (map_after eq es) own_key (pair_put entry) q ≡ pair_in eq place changed_state (place q) q
  map_there q other below = by (eq own_key q) refl
    where
      by : (b : Bool) → eq own_key q ≡ b → cond b (pair_put entry) (map_after eq es q) ≡ pair_in eq place changed_state (place q) q
      by true same = absurd (other (sym (in_place ∙ alike own_key q same)))
      by false apart = good.map_is q below
          ∙ sym (rests_map eq laws hash place respects s changed_state (agrees_now s.pairs) (place q) (good.sound (place q) below) (elsewhere (place q) below other) q)

  map_longer : (q : K) → place q < s.segments → map_after eq longer q ≡ pair_in eq place changed_state (place q) q
  map_longer q below = map_more eq (λ k. None) es entry q ∙ elim (eqb_tells (place q) here) [
    | inl p ↦ map_here q p.1 below
    | inr p ↦ map_there q p.1 below
  ]

  -- the keys that were put
  put_before : (k : K) → WasPut eq es k → WasPut eq longer k
  put_before k (n, e, at, same, some) = (n, e, front_get es (entry ∷ []) n e at, same, some)

  put_now : (n : ℕ) (p : K × V) → node_of to ≡ Some n → s.pairs n ≡ Some p → stored_in to ≡ Some n → WasPut eq longer p.0
  put_now n p names at stored =
      let same : p ≡ (own_key, pair_is.0) = one_item (sym at ∙ (ap (pair_at s.pairs) (sym names) ∙ pair_is.1)) in (
        length es,
        entry,
        last_get es entry,
        ap (eq own_key) (ap (λ x. x.0) same) ∙ laws.refl own_key,
        ap (λ o. is_some (option_map (λ x. x.1) (pair_at s.pairs o))) stored ∙ ap (λ o. is_some (option_map (λ x. x.1) o)) at,
      )

  put_here : (n : ℕ) (p : K × V) → node_of to ≡ Some n → s.pairs n ≡ Some p → WasPut eq longer p.0
  put_here n p names at = elim (change_stores (own_by eq known key) from to fits.1 n names) [
    | inl stored ↦ put_now n p names at stored
    | inr had ↦ put_before p.0 (good.puts here array index n p is_rooted (ap node_of x.found ∙ had) at)
  ]

  puts : (i a j n : ℕ) (p : K × V) → IsRooted changed_state i a → node_of (word_at (words_in changed_state a) j) ≡ Some n → s.pairs n ≡ Some p →
      WasPut eq longer p.0
  puts i a j n p r names at = elim (eqb_tells a array) [
    | inl q ↦ elim (eqb_tells j index) [
      | inl l ↦ put_here n p (sym (word_here a j q.1 l.1) ∙ names) at
      | inr l ↦ put_before p.0 (good.puts i a j n p root (sym (word_beside a j q.1 l.1) ∙ names) at)
    ]
    | inr q ↦ put_before p.0 (good.puts i a j n p root (sym (ap (λ ws. node_of (word_at ws j)) ((sets here).0.1 a q.1)) ∙ names) at)
  ]
    where
      root : IsRooted s i a
      root = was_rooted s changed_state i a refl refl refl r

      inside : index < length (words_in s array)
      inside = let long = length-map (s.arrays array) (word_in s.cells) in let below = within in omega (arith, long, below)

      word_here : (b l : ℕ) → b ≡ array → l ≡ index → node_of (word_at (words_in changed_state b) l) ≡ node_of to
      word_here b l is same = ap (λ d. node_of (word_at (words_in changed_state d) l)) is
          ∙ (ap (λ ws. node_of (word_at ws l)) (sets here).0.0
          ∙ (ap (λ m. node_of (word_at (set (words_in s array) index to) m)) same
          ∙ ap node_of (get_or (set (words_in s array) index to) index to _ (set_get (words_in s array) index to inside))))

      word_beside : (b l : ℕ) → b ≡ array → l ≢ index → node_of (word_at (words_in changed_state b) l) ≡ node_of (word_at (words_in s b) l)
      word_beside b l is other = ap (λ d. node_of (word_at (words_in changed_state d) l)) is
          ∙ (ap (λ ws. node_of (word_at ws l)) (sets here).0.0
          ∙ (ap node_of (get_or-set_other (words_in s array) index l to _ other)
          ∙ ap (λ d. node_of (word_at (words_in s d) l)) (sym is)))

  -- the cells
  abbrev pub bucket : ℕ
  bucket = key_at s array index

  bucket_there : slice_get (s.arrays array) index ≡ Some bucket
  bucket_there = key_there (s.arrays array) index within

  bucket_is : (w : Word) × (slice_get s.cells bucket ≡ Some (Bucket w))
  bucket_is = owned.buckets array index bucket bucket_there

  pub bucket_below : bucket < length s.cells
  bucket_below = get_below s.cells bucket (Bucket bucket_is.0) bucket_is.1

  pub ticket_apart : (k n : ℕ) (b : Bool) → slice_get s.cells k ≡ Some (Ticket n b) → k ≢ bucket
  ticket_apart k n b at same = bucket_is_no_ticket (sym bucket_is.1 ∙ (ap (slice_get s.cells) (sym same) ∙ at))

  door_apart : (k : ℕ) → slice_get s.cells k ≡ Some Door → k ≢ bucket
  door_apart k at same = door_is_no_bucket (sym at ∙ (ap (slice_get s.cells) same ∙ bucket_is.1))

  pub ticket_only : (k : ℕ) (b : Bool) → slice_get s.cells k ≡ Some (Ticket ticket b) → k ≡ own
  ticket_only k b at = owned.tickets k own ticket b false at there

  no_bucket : (k : ℕ) (o : Owner) → slice_get s.cells k ≡ Some o → ((w : Word) → o ≡ Bucket w → ⊥) → k ≢ bucket
  no_bucket k o at other same = other bucket_is.0 (one_item (sym at ∙ (ap (slice_get s.cells) same ∙ bucket_is.1)))

  from_cell : (k : ℕ) (o : Owner) → slice_get changed_state.cells k ≡ Some o → o ≢ Bucket to → (p : Owner) × (slice_get s.cells k ≡ Some p) × (o ≡ spent ticket p)
  from_cell k o at other = elim (changed_from ticket bucket to s.cells bucket_below k o at) [
    | inl p ↦ absurd (other p.1)
    | inr p ↦ p
  ]

  from_ticket : (k n : ℕ) (b : Bool) → slice_get changed_state.cells k ≡ Some (Ticket n b) →
      (a : Bool) × (slice_get s.cells k ≡ Some (Ticket n a)) × (b ≡ cond (n == ticket) true a)
  from_ticket k n b at =
      let (p, was, is) = from_cell k (Ticket n b) at (λ e. not_ticket e) in
      let (a, ticket_is, home) = unspent_ticket ticket p n b is in
      (a, was ∙ ap Some ticket_is, home)

  from_array : (k n : ℕ) (b : Bool) → slice_get changed_state.cells k ≡ Some (Array n b) → slice_get s.cells k ≡ Some (Array n b)
  from_array k n b at =
      let (p, was, is) = from_cell k (Array n b) at (λ e. array_not_bucket e) in
      was ∙ ap Some (unspent_array ticket p n b is)

  from_row : (k n : ℕ) (b : Bool) → slice_get changed_state.cells k ≡ Some (Row n b) → slice_get s.cells k ≡ Some (Row n b)
  from_row k n b at =
      let (p, was, is) = from_cell k (Row n b) at (λ e. row_not_bucket e) in
      was ∙ ap Some (unspent_row ticket p n b is)

  from_next : (k a t : ℕ) → slice_get changed_state.cells k ≡ Some (Next a t) → slice_get s.cells k ≡ Some (Next a t)
  from_next k a t at =
      let (p, was, is) = from_cell k (Next a t) at (λ e. next_not_bucket e) in
      was ∙ ap Some (unspent_next ticket p a t is)

  from_root : (k i t : ℕ) → slice_get changed_state.cells k ≡ Some (Root i t) → slice_get s.cells k ≡ Some (Root i t)
  from_root k i t at =
      let (p, was, is) = from_cell k (Root i t) at (λ e. root_not_bucket e) in
      was ∙ ap Some (unspent_root ticket p i t is)

  stays_array : (k n : ℕ) (b : Bool) → slice_get s.cells k ≡ Some (Array n b) → slice_get changed_state.cells k ≡ Some (Array n b)
  stays_array k n b at = changed_other ticket bucket to s.cells k (Array n b) (no_bucket k (Array n b) at (λ w e. array_not_bucket e)) at

  changed_bucket : (k : ℕ) (w : Word) → slice_get s.cells k ≡ Some (Bucket w) → (v : Word) × (slice_get changed_state.cells k ≡ Some (Bucket v))
  changed_bucket k w at = elim (eqb_tells k bucket) [
    | inl p ↦ (to, ap (slice_get changed_state.cells) p.1 ∙ changed_here ticket bucket to s.cells bucket_below)
    | inr p ↦ (w, changed_other ticket bucket to s.cells k (Bucket w) p.1 at)
  ]

  later_owned : IsOwned changed_state
  later_owned = record {
    door = λ k. (
      λ at. (let (p, was, is) = from_cell k Door at (λ e. not_door e) in
          (owned.door k).0 (was ∙ ap Some (unspent_door ticket p is))),
      λ e. (let at = (owned.door k).1 e in changed_other ticket bucket to s.cells k Door (door_apart k at) at),
    );
    buckets = λ a i k e. (let (w, at) = owned.buckets a i k e in changed_bucket k w at);
    places = (sets here).1;
    tickets = λ j k n b d e f. owned.tickets j k n (from_ticket j n b e).0 (from_ticket k n d f).0 (from_ticket j n b e).1 (from_ticket k n d f).1;
    arrays = λ j k n b d e f. owned.arrays j k n b d (from_array j n b e) (from_array k n d f);
    nexts = λ j k a t u e f. owned.nexts j k a t u (from_next j a t e) (from_next k a u f);
    roots = λ j k i t u e f. owned.roots j k i t u (from_root j i t e) (from_root k i u f);
  }

  later_linked : AreLinked changed_state
  later_linked = links_stay s good.linked changed_state refl (omega arith) drawn.first (λ i. refl) (λ a. refl) (agrees_now s.plans)
      (λ k n b e. (b, stays_array k n b e, λ h. h)) (λ k n b e. inl (from_array k n b e)) from_next from_root (λ i. refl) good.linked.grown

  -- the entries of tickets
  made : (n : ℕ) → made_on n longer ≡ cond (n == ticket) (made_on n es + 1) (made_on n es)
  made n = ap (times n) (maps_more (λ e. e.ticket) es entry) ∙ times_more n (map (λ e. e.ticket) es) ticket

  ticket_low : ticket ≤ s.last
  ticket_low = (drawn.cells own ticket false there).0

  unmade : made_on ticket es ≡ 0
  unmade = (drawn.cells own ticket false there).1

  later_drawn : IsDrawn changed_state longer
  later_drawn = record {
    first = drawn.first;
    last = drawn.last;
    cells = λ k n home at. (
        let (a, was, is) = from_ticket k n home at in
        ((drawn.cells k n a was).0, made n ∙ (cells_by k n a home was is (n == ticket) refl))
        );
    pairs = drawn.pairs;
    entries = λ n high. made n ∙ elim (eqb_tells n ticket) [
      | inl p ↦ absurd (let same = p.1 in let low = ticket_low in omega (arith, same, low, high))
      | inr p ↦ ap (λ b. cond b (made_on n es + 1) (made_on n es)) p.0 ∙ drawn.entries n high
    ];
    once = λ n. subst (λ m. m ≤ 1) (sym (made n)) (elim (eqb_tells n ticket) [
      | inl p ↦ subst (λ b. cond b (made_on n es + 1) (made_on n es) ≤ 1) (sym p.0)
          (let none = ap (λ m. made_on m es) p.1 ∙ unmade in omega (arith, none))
      | inr p ↦ subst (λ b. cond b (made_on n es + 1) (made_on n es) ≤ 1) (sym p.0) (drawn.once n)
    ]);
    announced = λ k n home at. drawn.announced k n home (from_array k n home at);
    rows = λ k n home at. drawn.rows k n home (from_row k n home at);
    planned = drawn.planned;
  }
    where
      cells_by : (k n : ℕ) (a home : Bool) → slice_get s.cells k ≡ Some (Ticket n a) → home ≡ cond (n == ticket) true a → (b : Bool) → (n == ticket) ≡ b →
          cond (n == ticket) (made_on n es + 1) (made_on n es) ≡ cond home 1 0
      cells_by k n a home was is true e =
          let same = eqb-true n ticket e in
          let none = ap (λ m. made_on m es) same ∙ unmade in
          ap (λ b. cond b (made_on n es + 1) (made_on n es)) e
          ∙ (ap (λ m. m + 1) none ∙ sym (ap (λ b. cond b 1 0) (is ∙ ap (λ b. cond b true a) e)))
      cells_by k n a home was is false e =
          ap (λ b. cond b (made_on n es + 1) (made_on n es)) e
          ∙ ((drawn.cells k n a was).1 ∙ sym (ap (λ b. cond b 1 0) (is ∙ ap (λ b. cond b true a) e)))

  pub changed_good : IsGood eq hash place changed_state longer
  changed_good = record {
    owned = later_owned;
    drawn = later_drawn;
    linked = later_linked;
    sound = there_sound;
    puts = puts;
    legal = legal_more eq (λ k. None) es entry good.legal former_is;
    map_is = map_longer;
  }

  pub changed_lasts : Lasts eq place s changed_state
  changed_lasts = record {
    segments = refl;
    last = omega arith;
    arrays = λ a i k e. e;
    tickets = λ k n b at. (
      cond (n == ticket) true b,
      changed_other ticket bucket to s.cells k (Ticket n b) (ticket_apart k n b at) at,
      λ home. home_by (n == ticket) b home,
    );
    announced = λ k n b at. (b, stays_array k n b at, λ h. h);
    rows = λ k n b at. inl (b, changed_other ticket bucket to s.cells k (Row n b) (no_bucket k (Row n b) at (λ w e. row_not_bucket e)) at, λ h. h);
    buckets = changed_bucket;
    nexts = λ k a t at. (t, changed_other ticket bucket to s.cells k (Next a t) (no_bucket k (Next a t) at (λ w e. next_not_bucket e)) at);
    roots = λ k i t at. (t, changed_other ticket bucket to s.cells k (Root i t) (no_bucket k (Root i t) at (λ w e. root_not_bucket e)) at);
    pairs = agrees_now s.pairs;
    plans = agrees_now s.plans;
    later = there_later;
  }
    where
      home_by : (x y : Bool) → y ≡ true → cond x true y ≡ true
      home_by true y e = refl
      home_by false y e = e

  -- a word after it is as it was, or isn't sealed
  pub changed_words : (a j : ℕ) → (word_at (words_in changed_state a) j ≡ word_at (words_in s a) j) ⊎ (is_sealed (word_at (words_in changed_state a) j) ≡ false)
  changed_words a j = elim (eqb_tells a array) [
    | inl p ↦ subst (λ b. (word_at (words_in changed_state b) j ≡ word_at (words_in s b) j) ⊎ (is_sealed (word_at (words_in changed_state b) j) ≡ false))
        (sym p.1) here_words
    | inr p ↦ inl (ap (λ ws. word_at ws j) ((sets here).0.1 a p.1))
  ]
    where
      here_words : (word_at (words_in changed_state array) j ≡ word_at (words_in s array) j) ⊎ (is_sealed (word_at (words_in changed_state array) j) ≡ false)
      here_words = subst (λ ws. (word_at ws j ≡ word_at (words_in s array) j) ⊎ (is_sealed (word_at ws j) ≡ false)) (sym (sets here).0.0)
          (set_cases (λ v. (v ≡ word_at (words_in s array) j) ⊎ (is_sealed v ≡ false)) (words_in s array) index to j (inl refl)
          (λ e. inr (change_open (own_by eq known key) from to fits.1)))

  -- all of it: the key of the new word's node, its entry, what is good and lasts, and the cells
  pub exchanged : (k : K) × (option_map (λ p. p.0) (pair_at s.pairs (node_of to)) ≡ Some k) × (eq key k ≡ true)
      × (entry_of {S = S} s (Changed ticket array index to) ≡ Some (entry_with s.pairs ticket from to k))
      × IsGood eq hash place changed_state (es ++ entry_with s.pairs ticket from to k ∷ []) × Lasts eq place s changed_state
      × ((d : ℕ) → set (set (map (cell_of d) s.cells) bucket (number_of to, true)) own (0, true) ≡ map (cell_of d) changed_state.cells)
  exchanged = (
    own_key,
    key_is,
    key_equal,
    entry_is,
    changed_good,
    changed_lasts,
    λ d. changed_cells ticket bucket to s.cells d own there (ticket_apart own ticket false there) ticket_only bucket_below,
  )
