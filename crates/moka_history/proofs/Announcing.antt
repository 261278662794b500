-- A ticket is drawn, and all stays good.
use Rattle.std.proofs.Common.{◌≡◌, ℕ, ◌^◌, ◌≤◌, Bool, false, cond, List, [], ◌∷◌, Option, Some, suc, inl, inr, refl, sym, ap, subst, ◌∙◌, arith}
use Rattle.std.proofs.lemmas.Bool.Decides.{eqb_tells}
use Rattle.std.specs.Cmp.{IsEquivalence}
use Rattle.std.specs.List.{slice_get}
use Rattle.moka_words.specs.Words.{node_of, word_at}
use Rattle.moka_growth.specs.Maps.{IsElsewhere}
use Rattle.moka_pairs.specs.Keys.{Agrees, Respects}
use Rattle.moka_history.specs.declared.note.Note.TheVariants.{Announced}
use Rattle.moka_history.specs.Entries.{Entry}
use Rattle.moka_history.specs.States.{Door, Bucket, Ticket, Array, Row, Next, Root, State, IsPlaced, after, memory_of, words_in}
use Rattle.moka_history.specs.Rules.{WasPut, AreLinked, IsOwned, IsDrawn, IsGood, Lasts}
use Rattle.moka_history.proofs.Cells.{announced_keeps}
use Rattle.moka_history.proofs.Lists.{no_item, one_item, front_get, more_get}
use Rattle.moka_history.proofs.Named.{word_names}
use Rattle.moka_history.proofs.Chains.{links_stay}
use Rattle.moka_history.proofs.Owners.{array_not_ticket, next_not_ticket, row_not_ticket}
use Rattle.moka_pairs.proofs.Names.{agrees_now}
use Rattle.moka_history.proofs.Rooted.{was_rooted}
use Rattle.moka_history.proofs.Swung.{root_not_ticket}
use Rattle.moka_history.proofs.Resting.{rests_sound, rests_later, rests_map}

door_not_ticket : {n : ℕ} {b : Bool} → Door ≡ Ticket n b → ⊥
door_not_ticket e = absurd (cc (e))

ticket_number : {n m : ℕ} {b c : Bool} → Ticket n b ≡ Ticket m c → n ≡ m
ticket_number e = cc (e)

ticket_home : {n m : ℕ} {b c : Bool} → Ticket n b ≡ Ticket m c → b ≡ c
ticket_home e = cc (e)

module _ {K V : Type 0} (S : Type 0) (eq : K → K → Bool) (laws : IsEquivalence eq) (hash place : K → ℕ) (respects : Respects eq hash)
    (s : State K V) (es : List (Entry K V)) (good : IsGood eq hash place s es) (ticket : ℕ) (pair : Option (K × V)) (is : ticket ≡ suc s.last)
    (small : ticket ≤ 2 ^ 60) where
  abbrev pub drawn_state : State K V
  drawn_state = after {S = S} s (Announced ticket pair)

  owned : IsOwned s
  owned = good.owned

  drawn : IsDrawn s es
  drawn = good.drawn

  words : ((a : ℕ) → words_in drawn_state a ≡ words_in s a) × IsPlaced drawn_state
  words = announced_keeps S s owned.places ticket pair (Announced ticket pair) refl

  grows : Agrees drawn_state.pairs s.pairs
  grows n a e = elim (eqb_tells ticket n) [
    | inl p ↦ absurd (no_item (sym (drawn.pairs n (omega (arith, is, p.1))) ∙ e))
    | inr p ↦ ap (λ b. cond b pair (s.pairs n)) p.0 ∙ e
  ]

  elsewhere : (i : ℕ) → IsElsewhere (memory_of s i) (memory_of drawn_state i)
  elsewhere i = record { words = λ p a e. words.0 a; arrays = refl; rooted = refl; fresh = omega (arith, is) }

  array_was : (k n : ℕ) (b : Bool) → slice_get drawn_state.cells k ≡ Some (Array n b) → slice_get s.cells k ≡ Some (Array n b)
  array_was k n b at = elim (more_get s.cells (Ticket ticket false) k (Array n b) at) [
    | inl old ↦ old
    | inr new ↦ absurd (array_not_ticket new.1)
  ]

  row_was : (k n : ℕ) (b : Bool) → slice_get drawn_state.cells k ≡ Some (Row n b) → slice_get s.cells k ≡ Some (Row n b)
  row_was k n b at = elim (more_get s.cells (Ticket ticket false) k (Row n b) at) [
    | inl old ↦ old
    | inr new ↦ absurd (row_not_ticket new.1)
  ]

  next_was : (k a t : ℕ) → slice_get drawn_state.cells k ≡ Some (Next a t) → slice_get s.cells k ≡ Some (Next a t)
  next_was k a t at = elim (more_get s.cells (Ticket ticket false) k (Next a t) at) [
    | inl old ↦ old
    | inr new ↦ absurd (next_not_ticket new.1)
  ]

  root_was : (k i t : ℕ) → slice_get drawn_state.cells k ≡ Some (Root i t) → slice_get s.cells k ≡ Some (Root i t)
  root_was k i t at = elim (more_get s.cells (Ticket ticket false) k (Root i t) at) [
    | inl old ↦ old
    | inr new ↦ absurd (root_not_ticket new.1)
  ]

  later_owned : IsOwned drawn_state
  later_owned = record {
    door = λ k. (
      λ at. elim (more_get s.cells (Ticket ticket false) k Door at) [
        | inl old ↦ (owned.door k).0 old
        | inr new ↦ absurd (door_not_ticket new.1)
      ],
      λ e. front_get s.cells (Ticket ticket false ∷ []) k Door ((owned.door k).1 e),
    );
    buckets = λ a i k e. (let (w, at) = owned.buckets a i k e in (w, front_get s.cells (Ticket ticket false ∷ []) k (Bucket w) at));
    places = words.1;
    tickets = λ j k n b c e f. elim (more_get s.cells (Ticket ticket false) j (Ticket n b) e) [
      | inl old ↦ elim (more_get s.cells (Ticket ticket false) k (Ticket n c) f) [
        | inl old_yet ↦ owned.tickets j k n b c old old_yet
        | inr new ↦ absurd (past n j b old (ticket_number new.1))
      ]
      | inr new ↦ elim (more_get s.cells (Ticket ticket false) k (Ticket n c) f) [
        | inl old ↦ absurd (past n k c old (ticket_number new.1))
        | inr new_yet ↦ new.0 ∙ sym new_yet.0
      ]
    ];
    arrays = λ j k n b c e f. owned.arrays j k n b c (array_was j n b e) (array_was k n c f);
    nexts = λ j k a t u e f. owned.nexts j k a t u (next_was j a t e) (next_was k a u f);
    roots = λ j k i t u e f. owned.roots j k i t u (root_was j i t e) (root_was k i u f);
  }
    where
      past : (n k : ℕ) (b : Bool) → slice_get s.cells k ≡ Some (Ticket n b) → n ≡ ticket → ⊥
      past n k b at same = let low = (drawn.cells k n b at).0 in absurd (omega (arith, low, same, is))

  later_drawn : IsDrawn drawn_state es
  later_drawn = record {
    first = let low = drawn.first in omega (arith, low, is);
    last = small;
    cells = λ k n home e. elim (more_get s.cells (Ticket ticket false) k (Ticket n home) e) [
      | inl old ↦ (let (low, made) = drawn.cells k n home old in (omega (arith, low, is), made))
      | inr new ↦ (let same = ticket_number new.1 in (
        omega (arith, same),
        drawn.entries n (omega (arith, same, is)) ∙ sym (ap (λ b. cond b 1 0) (ticket_home new.1)),
      ))
    ];
    pairs = λ n high. elim (eqb_tells ticket n) [
      | inl p ↦ absurd (let same = p.1 in omega (arith, same, high))
      | inr p ↦ ap (λ b. cond b pair (s.pairs n)) p.0 ∙ drawn.pairs n (omega (arith, is, high))
    ];
    entries = λ n high. drawn.entries n (omega (arith, is, high));
    once = drawn.once;
    announced = λ k n home at. drawn.announced k n home (array_was k n home at);
    rows = λ k n home at. drawn.rows k n home (row_was k n home at);
    planned = λ n high. drawn.planned n (omega (arith, is, high));
  }

  later_linked : AreLinked drawn_state
  later_linked = links_stay s good.linked drawn_state refl (omega (arith, is)) drawn.first (λ i. refl) (λ a. refl) (agrees_now s.plans)
      (λ k n b e. (b, front_get s.cells (Ticket ticket false ∷ []) k (Array n b) e, λ h. h)) (λ k n b e. inl (array_was k n b e)) next_was root_was
      (λ i. refl) good.linked.grown

  pub announced_good : IsGood eq hash place drawn_state es
  announced_good = record {
    owned = later_owned;
    drawn = later_drawn;
    linked = later_linked;
    sound = λ i below. rests_sound eq laws hash place respects s drawn_state grows i (good.sound i below) (elsewhere i);
    puts = λ i a index n p r named at. (
        let root = was_rooted s drawn_state i a refl refl refl r in
        let (q, was, mine) = word_names eq hash place s es good i a root index n (sym (ap (λ ws. node_of (word_at ws index)) (words.0 a)) ∙ named) in
        subst (λ x. WasPut eq es x.0) (one_item (sym (grows n q was) ∙ at))
        (good.puts i a index n q root (sym (ap (λ ws. node_of (word_at ws index)) (words.0 a)) ∙ named) was)
        );
    legal = good.legal;
    map_is = λ q below. good.map_is q below
        ∙ sym (rests_map eq laws hash place respects s drawn_state grows (place q) (good.sound (place q) below) (elsewhere (place q)) q);
  }

  pub announced_words : (array : ℕ) → words_in drawn_state array ≡ words_in s array
  announced_words = words.0

  pub announced_lasts : Lasts eq place s drawn_state
  announced_lasts = record {
    segments = refl;
    last = omega (arith, is);
    arrays = λ a i k e. e;
    tickets = λ k n b e. (b, front_get s.cells (Ticket ticket false ∷ []) k (Ticket n b) e, λ h. h);
    announced = λ k n b e. (b, front_get s.cells (Ticket ticket false ∷ []) k (Array n b) e, λ h. h);
    rows = λ k n b e. inl (b, front_get s.cells (Ticket ticket false ∷ []) k (Row n b) e, λ h. h);
    buckets = λ k w e. (w, front_get s.cells (Ticket ticket false ∷ []) k (Bucket w) e);
    nexts = λ k a t e. (t, front_get s.cells (Ticket ticket false ∷ []) k (Next a t) e);
    roots = λ k i t e. (t, front_get s.cells (Ticket ticket false ∷ []) k (Root i t) e);
    pairs = grows;
    plans = agrees_now s.plans;
    later = λ i below. rests_later eq laws hash place respects s drawn_state grows i (good.sound i below) (elsewhere i);
  }
