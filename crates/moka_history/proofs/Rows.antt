-- An array is announced, and its row gets cells: all stays good.
use Rattle.std.proofs.Common.{◌≡◌, ◌≢◌, ℕ, ◌^◌, ◌<◌, ◌≤◌, Bool, true, false, cond, List, [], ◌∷◌, ◌++◌, length, set, Option, Some, IsSome, zero, suc, inl, inr, refl, sym, ap, subst, ◌∙◌, arith, length-append}
use Rattle.std.proofs.lemmas.Bool.{eq-eqb, false≢true}
use Rattle.std.proofs.lemmas.Bool.Decides.{eqb_tells}
use Rattle.std.specs.Cmp.{IsEquivalence}
use Rattle.std.specs.List.{slice_get}
use Rattle.std.specs.Option.{is_some}
use Rattle.moka_hist.specs.Finite.{put_at}
use Rattle.moka_pairs.specs.Keys.{Agrees, Respects}
use Rattle.moka_pairs.proofs.Names.{agrees_now}
use Rattle.moka_history.specs.declared.note.Note.{Note}
use Rattle.moka_history.specs.declared.note.Note.TheVariants.{Opened, Announced, Changed, ArrayAnnounced, CellAdded, CellHome, Sealed, ArrayLinked, Copied, Swung}
use Rattle.moka_history.specs.Entries.{Entry}
use Rattle.moka_history.specs.States.{Owner, Door, Bucket, Ticket, Array, Row, Next, Root, Plan, State, IsPlaced, after, word_in, words_in}
use Rattle.moka_history.specs.Laws.{IsOfRow}
use Rattle.moka_history.specs.Rules.{AreLinked, IsOwned, IsDrawn, IsGood, Lasts}
use Rattle.moka_history.proofs.Cells.{set_length, word_beside, word_front, words_same}
use Rattle.moka_history.proofs.Lists.{no_item, one_item, front_get, get_below, more_get, other_get, set_from, set_get}
use Rattle.moka_history.proofs.Chains.{links_stay}
use Rattle.moka_history.proofs.Owners.{Stays, array_is_array, array_not_row, array_not_ticket, door_not_array, door_not_row, next_not_array, next_not_row, row_is_row, row_not_bucket, row_not_ticket}
use Rattle.moka_history.proofs.Quiet.{quiet, quiet_good, quiet_lasts}
use Rattle.moka_history.proofs.Swung.{root_not_array, root_not_row}

-- a cell that holds an owner is another one than a cell that holds another
apart_at : {A : Type 0} (xs : List A) (j k : ℕ) (x y : A) → slice_get xs j ≡ Some x → slice_get xs k ≡ Some y → (x ≡ y → ⊥) → j ≢ k
apart_at xs j k x y at there other same = other (one_item (sym at ∙ (ap (slice_get xs) same ∙ there)))

-- what notes of rows make of the words
module _ {K V : Type 0} (s : State K V) (placed : IsPlaced s) (last : ℕ) (plans : ℕ → Option Plan) where
  -- one cell more
  pub grown_words : (x : Owner) (a : ℕ) → words_in (quiet s last plans (s.cells ++ x ∷ [])) a ≡ words_in s a
  grown_words x a = words_same (word_in (s.cells ++ x ∷ [])) (word_in s.cells) (s.arrays a)
      (λ i k e. word_front s.cells (x ∷ []) k (placed.within a i k e))

  pub grown_placed : (x : Owner) → IsPlaced (quiet s last plans (s.cells ++ x ∷ []))
  grown_placed x = record {
    within = λ a i k e. let below = placed.within a i k e in let long = length-append s.cells (x ∷ []) in omega (arith, below, long);
    one = placed.one;
  }

  -- a cell of a row comes home
  module _ (key ticket : ℕ) (at : slice_get s.cells key ≡ Some (Row ticket false)) where
    word_then : (k : ℕ) → word_in (set s.cells key (Row ticket true)) k ≡ word_in s.cells k
    word_then k = elim (eqb_tells k key) [
      | inl p ↦ subst (λ j. word_in (set s.cells key (Row ticket true)) j ≡ word_in s.cells j) (sym p.1) (row_word s.cells key at)
      | inr p ↦ word_beside s.cells key k (Row ticket true) p.1
    ]
      where
        row_word : (cells : List Owner) (j : ℕ) → slice_get cells j ≡ Some (Row ticket false) → word_in (set cells j (Row ticket true)) j ≡ word_in cells j
        row_word [] j e = absurd (no_item e)
        row_word (o ∷ cells) zero e = ap (λ x. word_in (x ∷ cells) 0) (sym (one_item e))
        row_word (o ∷ cells) (suc j) e = row_word cells j e

    pub home_words : (a : ℕ) → words_in (quiet s last plans (set s.cells key (Row ticket true))) a ≡ words_in s a
    home_words a = words_same (word_in (set s.cells key (Row ticket true))) (word_in s.cells) (s.arrays a) (λ i k e. word_then k)

    pub home_placed : IsPlaced (quiet s last plans (set s.cells key (Row ticket true)))
    home_placed = record {
      within = λ a i k e. subst (λ n. k < n) (sym (set_length s.cells key (Row ticket true))) (placed.within a i k e);
      one = placed.one;
    }

pub rows_keep : {K V S : Type 0} (s : State K V) (note : Note K V S) → IsPlaced s → IsOfRow s note →
    ((a : ℕ) → words_in (after s note) a ≡ words_in s a) × IsPlaced (after s note)
rows_keep s (ArrayAnnounced ticket segment size grown) placed is = (
  grown_words s placed ticket (put_at s.plans ticket (Some (record { segment = segment; size = size; grown = grown }))) (Array ticket false),
  grown_placed s placed ticket (put_at s.plans ticket (Some (record { segment = segment; size = size; grown = grown }))) (Array ticket false),
)
rows_keep s (CellAdded ticket) placed is = (grown_words s placed s.last s.plans (Row ticket false), grown_placed s placed s.last s.plans (Row ticket false))
rows_keep s (CellHome ticket cell) placed is = (home_words s placed s.last s.plans cell ticket is, home_placed s placed s.last s.plans cell ticket is)
rows_keep s (Opened segments size hasher) placed is = absurd is
rows_keep s (Announced ticket pair) placed is = absurd is
rows_keep s (Changed ticket array index to) placed is = absurd is
rows_keep s (Sealed array index to) placed is = absurd is
rows_keep s (ArrayLinked ticket segment grown keys behind) placed is = absurd is
rows_keep s (Copied array index to) placed is = absurd is
rows_keep s (Swung segment from to) placed is = absurd is

module _ {K V : Type 0} (S : Type 0) (eq : K → K → Bool) (laws : IsEquivalence eq) (hash place : K → ℕ) (respects : Respects eq hash)
    (s : State K V) (es : List (Entry K V)) (good : IsGood eq hash place s es) where
  owned : IsOwned s
  owned = good.owned

  drawn : IsDrawn s es
  drawn = good.drawn

  -- one cell more
  module _ (x : Owner) where
    was : (o : Owner) → (o ≡ x → ⊥) → (k : ℕ) → slice_get (s.cells ++ x ∷ []) k ≡ Some o → slice_get s.cells k ≡ Some o
    was o other k at = elim (more_get s.cells x k o at) [
      | inl old ↦ old
      | inr new ↦ absurd (other new.1)
    ]

    stays : (o : ℕ → Bool → Owner) → Stays o s.cells (s.cells ++ x ∷ [])
    stays o k n b e = (b, front_get s.cells (x ∷ []) k (o n b) e, λ h. h)

    grown_lasts : (last : ℕ) (plans : ℕ → Option Plan) → s.last ≤ last → Agrees plans s.plans → Lasts eq place s (quiet s last plans (s.cells ++ x ∷ []))
    grown_lasts last plans low grows = quiet_lasts eq laws hash place respects s es good last plans (s.cells ++ x ∷ []) (grown_words s owned.places last plans x)
        low grows (stays Ticket) (stays Array) (λ k n b e. inl (stays Row k n b e)) (λ k w e. (w, front_get s.cells (x ∷ []) k (Bucket w) e))
        (λ k a t e. (t, front_get s.cells (x ∷ []) k (Next a t) e)) (λ k i t e. (t, front_get s.cells (x ∷ []) k (Root i t) e))

    grown_owned : (last : ℕ) (plans : ℕ → Option Plan) → (Door ≡ x → ⊥) → ((n : ℕ) (b : Bool) → Ticket n b ≡ x → ⊥) → ((a t : ℕ) → Next a t ≡ x → ⊥) → ((i t : ℕ) → Root i t ≡ x → ⊥) →
        ((j k n : ℕ) (b c : Bool) → slice_get (s.cells ++ x ∷ []) j ≡ Some (Array n b) → slice_get (s.cells ++ x ∷ []) k ≡ Some (Array n c) → j ≡ k) →
        IsOwned (quiet s last plans (s.cells ++ x ∷ []))
    grown_owned last plans no_door no_ticket no_next no_root arrays = record {
      door = λ k. (λ at. (owned.door k).0 (was Door no_door k at), λ e. front_get s.cells (x ∷ []) k Door ((owned.door k).1 e));
      buckets = λ a i k e. (let (w, at) = owned.buckets a i k e in (w, front_get s.cells (x ∷ []) k (Bucket w) at));
      places = grown_placed s owned.places last plans x;
      tickets = λ j k n b c e f. owned.tickets j k n b c (was (Ticket n b) (no_ticket n b) j e) (was (Ticket n c) (no_ticket n c) k f);
      arrays = arrays;
      nexts = λ j k a t u e f. owned.nexts j k a t u (was (Next a t) (no_next a t) j e) (was (Next a u) (no_next a u) k f);
      roots = λ j k i t u e f. owned.roots j k i t u (was (Root i t) (no_root i t) j e) (was (Root i u) (no_root i u) k f);
    }

  -- the next ticket is drawn for an array
  module _ (ticket segment size : ℕ) (before : Option ℕ) (is : ticket ≡ suc s.last) (small : ticket ≤ 2 ^ 60)
      (low_number : (g : ℕ) → before ≡ Some g → g ≤ s.last) where
    abbrev plan : Plan
    plan = record { segment = segment; size = size; grown = before }

    abbrev plans : ℕ → Option Plan
    plans = put_at s.plans ticket (Some plan)

    abbrev cell : Owner
    cell = Array ticket false

    abbrev pub planned_state : State K V
    planned_state = after {S = S} s (ArrayAnnounced ticket segment size before)

    plans_grow : Agrees plans s.plans
    plans_grow n a e = elim (eqb_tells ticket n) [
      | inl p ↦ absurd (no_item (sym (drawn.planned n (omega (arith, is, p.1))) ∙ e))
      | inr p ↦ ap (λ b. cond b (Some plan) (s.plans n)) p.0 ∙ e
    ]

    pub plan_there : planned_state.plans ticket ≡ Some plan
    plan_there = ap (λ b. cond b (Some plan) (s.plans ticket)) (eq-eqb ticket ticket refl)

    still_planned : (n : ℕ) → IsSome (s.plans n) → IsSome (plans n)
    still_planned n has = elim (eqb_tells ticket n) [
      | inl p ↦ ap (λ b. is_some (cond b (Some plan) (s.plans n))) p.0
      | inr p ↦ ap (λ b. is_some (cond b (Some plan) (s.plans n))) p.0 ∙ has
    ]

    past : (k n : ℕ) (b : Bool) → slice_get s.cells k ≡ Some (Array n b) → n ≡ ticket → ⊥
    past k n b at same = false≢true (ap is_some (sym (drawn.planned n (omega (arith, is, same)))) ∙ drawn.announced k n b at)

    one_array : (j k n : ℕ) (b c : Bool) → slice_get (s.cells ++ cell ∷ []) j ≡ Some (Array n b) → slice_get (s.cells ++ cell ∷ []) k ≡ Some (Array n c) → j ≡ k
    one_array j k n b c e f = elim (more_get s.cells cell j (Array n b) e) [
      | inl old ↦ elim (more_get s.cells cell k (Array n c) f) [
        | inl old_yet ↦ owned.arrays j k n b c old old_yet
        | inr new ↦ absurd (past j n b old (array_is_array new.1).0)
      ]
      | inr new ↦ elim (more_get s.cells cell k (Array n c) f) [
        | inl old ↦ absurd (past k n c old (array_is_array new.1).0)
        | inr new_yet ↦ new.0 ∙ sym new_yet.0
      ]
    ]

    planned_owned : IsOwned planned_state
    planned_owned = grown_owned cell ticket plans (λ e. door_not_array e) (λ n b e. array_not_ticket (sym e)) (λ a t e. next_not_array e)
        (λ i t e. root_not_array e) one_array

    planned_linked : AreLinked planned_state
    planned_linked = links_stay s good.linked planned_state refl (omega (arith, is)) drawn.first (λ i. refl) (λ a. refl) plans_grow (stays cell Array)
        (λ k n b e. elim (more_get s.cells cell k (Array n b) e) [
          | inl old ↦ inl old
          | inr new ↦ inr (let same = (array_is_array new.1).0 in (omega (arith, is, same), omega (arith, same)))
        ])
        (λ k a t e. was cell (Next a t) (λ d. next_not_array d) k e) (λ k i t e. was cell (Root i t) (λ d. root_not_array d) k e) (λ i. refl) grown_low
      where
        grown_low : (n g : ℕ) (p : Plan) → plans n ≡ Some p → p.grown ≡ Some g → g < n
        grown_low n g p at grows = elim (eqb_tells ticket n) [
          | inl q ↦ (
              let is_plan : plan ≡ p = one_item (sym (ap (λ b. cond b (Some plan) (s.plans n)) q.0) ∙ at) in
              let low = low_number g (ap (λ x. x.grown) is_plan ∙ grows) in
              let same = q.1 in
              omega (arith, is, low, same)
              )
          | inr q ↦ good.linked.grown n g p (sym (ap (λ b. cond b (Some plan) (s.plans n)) q.0) ∙ at) grows
        ]

    planned_drawn : IsDrawn planned_state es
    planned_drawn = record {
      first = let low = drawn.first in omega (arith, low, is);
      last = small;
      cells = λ k n home e. (
          let (low, made) = drawn.cells k n home (was cell (Ticket n home) (λ d. array_not_ticket (sym d)) k e) in (omega (arith, low, is), made)
          );
      pairs = λ n high. drawn.pairs n (omega (arith, is, high));
      entries = λ n high. drawn.entries n (omega (arith, is, high));
      once = drawn.once;
      announced = λ k n home e. elim (more_get s.cells cell k (Array n home) e) [
        | inl old ↦ still_planned n (drawn.announced k n home old)
        | inr new ↦ ap (λ m. is_some (plans m)) (array_is_array new.1).0 ∙ ap is_some plan_there
      ];
      rows = λ k n home e. still_planned n (drawn.rows k n home (was cell (Row n home) (λ d. array_not_row (sym d)) k e));
      planned = λ n high. elim (eqb_tells ticket n) [
        | inl p ↦ absurd (let same = p.1 in omega (arith, same, high))
        | inr p ↦ ap (λ b. cond b (Some plan) (s.plans n)) p.0 ∙ drawn.planned n (omega (arith, is, high))
      ];
    }

    planned_words : (a : ℕ) → words_in planned_state a ≡ words_in s a
    planned_words = grown_words s owned.places ticket plans cell

    pub planned_good : IsGood eq hash place planned_state es
    planned_good = quiet_good eq laws hash place respects s es good ticket plans (s.cells ++ cell ∷ []) planned_words (omega (arith, is)) planned_owned
        planned_drawn planned_linked

    pub planned_lasts : Lasts eq place s planned_state
    planned_lasts = grown_lasts cell ticket plans (omega (arith, is)) plans_grow

  -- a cell is added to a row
  module _ (ticket : ℕ) (has : IsSome (s.plans ticket)) where
    abbrev pub added_state : State K V
    added_state = after {S = S} s (CellAdded ticket)

    added_owned : IsOwned added_state
    added_owned = grown_owned (Row ticket false) s.last s.plans (λ e. door_not_row e) (λ n b e. row_not_ticket (sym e)) (λ a t e. next_not_row e) (λ i t e. root_not_row e)
        (λ j k n b c e f. owned.arrays j k n b c (was (Row ticket false) (Array n b) (λ d. array_not_row d) j e) (was (Row ticket false) (Array n c) (λ d. array_not_row d) k f))

    added_drawn : IsDrawn added_state es
    added_drawn = record {
      first = drawn.first;
      last = drawn.last;
      cells = λ k n home e. drawn.cells k n home (was (Row ticket false) (Ticket n home) (λ d. row_not_ticket (sym d)) k e);
      pairs = drawn.pairs;
      entries = drawn.entries;
      once = drawn.once;
      announced = λ k n home e. drawn.announced k n home (was (Row ticket false) (Array n home) (λ d. array_not_row d) k e);
      rows = λ k n home e. elim (more_get s.cells (Row ticket false) k (Row n home) e) [
        | inl old ↦ drawn.rows k n home old
        | inr new ↦ ap (λ m. is_some (s.plans m)) (row_is_row new.1).0 ∙ has
      ];
      planned = drawn.planned;
    }

    added_linked : AreLinked added_state
    added_linked = links_stay s good.linked added_state refl (omega arith) drawn.first (λ i. refl) (λ a. refl) (agrees_now s.plans) (stays (Row ticket false) Array)
        (λ k n b e. inl (was (Row ticket false) (Array n b) (λ d. array_not_row d) k e)) (λ k a t e. was (Row ticket false) (Next a t) (λ d. next_not_row d) k e)
        (λ k i t e. was (Row ticket false) (Root i t) (λ d. root_not_row d) k e) (λ i. refl) good.linked.grown

    pub added_good : IsGood eq hash place added_state es
    added_good = quiet_good eq laws hash place respects s es good s.last s.plans (s.cells ++ Row ticket false ∷ [])
        (grown_words s owned.places s.last s.plans (Row ticket false)) (omega arith) added_owned added_drawn added_linked

    pub added_lasts : Lasts eq place s added_state
    added_lasts = grown_lasts (Row ticket false) s.last s.plans (omega arith) (agrees_now s.plans)

  -- it comes home
  module _ (ticket key : ℕ) (at : slice_get s.cells key ≡ Some (Row ticket false)) where
    abbrev pub home_state : State K V
    home_state = after {S = S} s (CellHome ticket key)

    abbrev home : Owner
    home = Row ticket true

    below : key < length s.cells
    below = get_below s.cells key (Row ticket false) at

    pub home_there : slice_get home_state.cells key ≡ Some home
    home_there = set_get s.cells key home below

    before : (o : Owner) → (o ≡ home → ⊥) → (k : ℕ) → slice_get home_state.cells k ≡ Some o → slice_get s.cells k ≡ Some o
    before o other k e = elim (set_from s.cells key home below k o e) [
      | inl new ↦ absurd (other new.1)
      | inr old ↦ old.1
    ]

    still : (o : Owner) → (o ≡ Row ticket false → ⊥) → (k : ℕ) → slice_get s.cells k ≡ Some o → slice_get home_state.cells k ≡ Some o
    still o other k e = other_get s.cells key k home (apart_at s.cells k key o (Row ticket false) e at other) ∙ e

    home_owned : IsOwned home_state
    home_owned = record {
      door = λ k. (λ e. (owned.door k).0 (before Door (λ d. door_not_row d) k e), λ e. still Door (λ d. door_not_row d) k ((owned.door k).1 e));
      buckets = λ a i k e. (let (w, there) = owned.buckets a i k e in (w, still (Bucket w) (λ d. row_not_bucket (sym d)) k there));
      places = home_placed s owned.places s.last s.plans key ticket at;
      tickets = λ j k n b c e f. owned.tickets j k n b c (before (Ticket n b) (λ d. row_not_ticket (sym d)) j e) (before (Ticket n c) (λ d. row_not_ticket (sym d)) k f);
      arrays = λ j k n b c e f. owned.arrays j k n b c (before (Array n b) (λ d. array_not_row d) j e) (before (Array n c) (λ d. array_not_row d) k f);
      nexts = λ j k a t u e f. owned.nexts j k a t u (before (Next a t) (λ d. next_not_row d) j e) (before (Next a u) (λ d. next_not_row d) k f);
      roots = λ j k i t u e f. owned.roots j k i t u (before (Root i t) (λ d. root_not_row d) j e) (before (Root i u) (λ d. root_not_row d) k f);
    }

    array_stays : Stays Array s.cells home_state.cells
    array_stays k n b e = (b, still (Array n b) (λ d. array_not_row d) k e, λ h. h)

    home_linked : AreLinked home_state
    home_linked = links_stay s good.linked home_state refl (omega arith) drawn.first (λ i. refl) (λ a. refl) (agrees_now s.plans) array_stays
        (λ k n b e. inl (before (Array n b) (λ d. array_not_row d) k e)) (λ k a t e. before (Next a t) (λ d. next_not_row d) k e)
        (λ k i t e. before (Root i t) (λ d. root_not_row d) k e) (λ i. refl) good.linked.grown

    home_drawn : IsDrawn home_state es
    home_drawn = record {
      first = drawn.first;
      last = drawn.last;
      cells = λ k n b e. drawn.cells k n b (before (Ticket n b) (λ d. row_not_ticket (sym d)) k e);
      pairs = drawn.pairs;
      entries = drawn.entries;
      once = drawn.once;
      announced = λ k n b e. drawn.announced k n b (before (Array n b) (λ d. array_not_row d) k e);
      rows = λ k n b e. elim (set_from s.cells key home below k (Row n b) e) [
        | inl new ↦ ap (λ m. is_some (s.plans m)) (row_is_row new.1).0 ∙ drawn.rows key ticket false at
        | inr old ↦ drawn.rows k n b old.1
      ];
      planned = drawn.planned;
    }

    row_stays : Stays Row s.cells home_state.cells
    row_stays k n b e = elim (eqb_tells k key) [
      | inl p ↦ (
          let same = row_is_row (one_item (sym e ∙ (ap (slice_get s.cells) p.1 ∙ at))) in
          (true, ap (slice_get home_state.cells) p.1 ∙ (home_there ∙ ap (λ m. Some (Row m true)) (sym same.0)), λ h. refl)
          )
      | inr p ↦ (b, other_get s.cells key k home p.1 ∙ e, λ h. h)
    ]

    pub home_good : IsGood eq hash place home_state es
    home_good = quiet_good eq laws hash place respects s es good s.last s.plans (set s.cells key home)
        (home_words s owned.places s.last s.plans key ticket at) (omega arith) home_owned home_drawn home_linked

    pub home_lasts : Lasts eq place s home_state
    home_lasts = quiet_lasts eq laws hash place respects s es good s.last s.plans (set s.cells key home)
        (home_words s owned.places s.last s.plans key ticket at) (omega arith) (agrees_now s.plans)
        (λ k n b e. (b, still (Ticket n b) (λ d. row_not_ticket (sym d)) k e, λ h. h)) array_stays (λ k n b e. inl (row_stays k n b e))
        (λ k w e. (w, still (Bucket w) (λ d. row_not_bucket (sym d)) k e)) (λ k a t e. (t, still (Next a t) (λ d. next_not_row d) k e))
        (λ k i t e. (t, still (Root i t) (λ d. root_not_row d) k e))
