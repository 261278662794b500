-- What a link makes of the owners of cells, and of words.
use Rattle.std.proofs.Common.{◌≡◌, ◌≢◌, ◌⊎◌, ℕ, ◌<◌, ◌==◌, Bool, true, false, cond, List, [], ◌∷◌, map, length, set, Option, Some, None, zero, suc, inl, inr, refl, sym, ap, ◌∙◌, arith}
use Rattle.std.proofs.lemmas.Bool.{eq-eqb}
use Rattle.std.proofs.lemmas.Bool.Decides.{eqb_tells}
use Rattle.std.specs.List.{slice_get}
use Rattle.std.specs.Option.{option_map}
use Rattle.moka_words.specs.declared.words.Word.{Word}
use Rattle.moka_words.specs.declared.words.Word.TheVariants.{Unset}
use Rattle.moka_history.specs.States.{Owner, Door, Bucket, Ticket, Array, Row, Next, Root, is_grown, joined, word_in, word_of}
use Rattle.moka_history.specs.Cells.{cell_of}
use Rattle.moka_history.proofs.Lists.{one_item, get_below, list_is, map_get, map_length, other_get, set_get}
use Rattle.moka_history.proofs.Swung.{root_not_array, root_not_bucket, root_not_door, root_not_next, root_not_row, root_not_ticket}
use Rattle.moka_history.proofs.Owners.{array_is_array, array_not_bucket, array_not_row, array_not_ticket, door_not_array, door_not_next, door_not_row, next_is_next, next_not_array, next_not_bucket, next_not_row, next_not_ticket, row_not_bucket, row_not_ticket}

door_not_bucket : {w : Word} → Door ≡ Bucket w → ⊥
door_not_bucket e = absurd (cc (e))

door_not_ticket : {n : ℕ} {b : Bool} → Door ≡ Ticket n b → ⊥
door_not_ticket e = absurd (cc (e))

ticket_not_bucket : {n : ℕ} {b : Bool} {w : Word} → Ticket n b ≡ Bucket w → ⊥
ticket_not_bucket e = absurd (cc (e))

module _ (t : ℕ) (g : Option ℕ) where
  -- a row's cell that is home is one still, or a bucket
  home_row : (o : Owner) (n : ℕ) (b : Bool) → o ≡ cond b (Bucket Unset) (Row n true) → (o ≡ Bucket Unset) ⊎ (o ≡ Row n true)
  home_row o n true e = inl e
  home_row o n false e = inr e

  pub unjoined_door : (o : Owner) → Door ≡ joined t g o → o ≡ Door
  unjoined_door Door e = refl
  unjoined_door (Bucket w) e = absurd (door_not_bucket e)
  unjoined_door (Ticket n b) e = absurd (door_not_ticket e)
  unjoined_door (Array n b) e = absurd (door_not_array e)
  unjoined_door (Row n false) e = absurd (door_not_row e)
  unjoined_door (Row n true) e = elim (home_row Door n (n == t) e) [ inl d ↦ absurd (door_not_bucket d) | inr d ↦ absurd (door_not_row d) ]
  unjoined_door (Next a u) e = absurd (door_not_next e)
  unjoined_door (Root i u) e = absurd (root_not_door (sym e))

  pub unjoined_ticket : (o : Owner) (n : ℕ) (b : Bool) → Ticket n b ≡ joined t g o → o ≡ Ticket n b
  unjoined_ticket Door n b e = absurd (door_not_ticket (sym e))
  unjoined_ticket (Bucket w) n b e = absurd (ticket_not_bucket e)
  unjoined_ticket (Ticket m c) n b e = sym e
  unjoined_ticket (Array m c) n b e = absurd (array_not_ticket (sym e))
  unjoined_ticket (Row m false) n b e = absurd (row_not_ticket (sym e))
  unjoined_ticket (Row m true) n b e = elim (home_row (Ticket n b) m (m == t) e) [
    | inl d ↦ absurd (ticket_not_bucket d)
    | inr d ↦ absurd (row_not_ticket (sym d))
  ]
  unjoined_ticket (Next a u) n b e = absurd (next_not_ticket (sym e))
  unjoined_ticket (Root i u) n b e = absurd (root_not_ticket (sym e))

  pub unjoined_array : (o : Owner) (n : ℕ) (b : Bool) → Array n b ≡ joined t g o → (c : Bool) × (o ≡ Array n c) × (b ≡ cond (n == t) true c)
  unjoined_array Door n b e = absurd (door_not_array (sym e))
  unjoined_array (Bucket w) n b e = absurd (array_not_bucket e)
  unjoined_array (Ticket m c) n b e = absurd (array_not_ticket e)
  unjoined_array (Array m c) n b e =
      let (same, is) = array_is_array e in
      (c, ap (λ k. Array k c) (sym same), is ∙ ap (λ k. cond (k == t) true c) (sym same))
  unjoined_array (Row m false) n b e = absurd (array_not_row e)
  unjoined_array (Row m true) n b e = elim (home_row (Array n b) m (m == t) e) [ inl d ↦ absurd (array_not_bucket d) | inr d ↦ absurd (array_not_row d) ]
  unjoined_array (Next a u) n b e = absurd (next_not_array (sym e))
  unjoined_array (Root i u) n b e = absurd (root_not_array (sym e))

  pub unjoined_row : (o : Owner) (n : ℕ) (b : Bool) → Row n b ≡ joined t g o → o ≡ Row n b
  unjoined_row Door n b e = absurd (door_not_row (sym e))
  unjoined_row (Bucket w) n b e = absurd (row_not_bucket e)
  unjoined_row (Ticket m c) n b e = absurd (row_not_ticket e)
  unjoined_row (Array m c) n b e = absurd (array_not_row (sym e))
  unjoined_row (Row m false) n b e = sym e
  unjoined_row (Row m true) n b e = elim (home_row (Row n b) m (m == t) e) [ inl d ↦ absurd (row_not_bucket d) | inr d ↦ sym d ]
  unjoined_row (Next a u) n b e = absurd (next_not_row (sym e))
  unjoined_row (Root i u) n b e = absurd (root_not_row (sym e))

  pub unjoined_next : (o : Owner) (a u : ℕ) → Next a u ≡ joined t g o → (v : ℕ) × (o ≡ Next a v) × (u ≡ cond (is_grown g a) t v)
  unjoined_next Door a u e = absurd (door_not_next (sym e))
  unjoined_next (Bucket w) a u e = absurd (next_not_bucket e)
  unjoined_next (Ticket m c) a u e = absurd (next_not_ticket e)
  unjoined_next (Array m c) a u e = absurd (next_not_array e)
  unjoined_next (Row m false) a u e = absurd (next_not_row e)
  unjoined_next (Row m true) a u e = elim (home_row (Next a u) m (m == t) e) [ inl d ↦ absurd (next_not_bucket d) | inr d ↦ absurd (next_not_row d) ]
  unjoined_next (Next b v) a u e =
      let (same, is) = next_is_next e in
      (v, ap (λ k. Next k v) (sym same), is ∙ ap (λ k. cond (is_grown g k) t v) (sym same))
  unjoined_next (Root i v) a u e = absurd (root_not_next (sym e))

  pub unjoined_root : (o : Owner) (i u : ℕ) → Root i u ≡ joined t g o → o ≡ Root i u
  unjoined_root Door i u e = absurd (root_not_door e)
  unjoined_root (Bucket w) i u e = absurd (root_not_bucket e)
  unjoined_root (Ticket m c) i u e = absurd (root_not_ticket e)
  unjoined_root (Array m c) i u e = absurd (root_not_array e)
  unjoined_root (Row m false) i u e = absurd (root_not_row e)
  unjoined_root (Row m true) i u e = elim (home_row (Root i u) m (m == t) e) [ inl d ↦ absurd (root_not_bucket d) | inr d ↦ absurd (root_not_row d) ]
  unjoined_root (Next a v) i u e = absurd (root_not_next e)
  unjoined_root (Root j v) i u e = sym e

  -- a row stays one, or is of the ticket and home
  pub row_joined : (n : ℕ) (b : Bool) → (joined t g (Row n b) ≡ Row n b) ⊎ ((n ≡ t) × (joined t g (Row n b) ≡ Bucket Unset))
  row_joined n false = inl refl
  row_joined n true = elim (eqb_tells n t) [
    | inl p ↦ inr (p.1, ap (λ b. cond b (Bucket Unset) (Row n true)) p.0)
    | inr p ↦ inl (ap (λ b. cond b (Bucket Unset) (Row n true)) p.0)
  ]

  pub own_row : joined t g (Row t true) ≡ Bucket Unset
  own_row = ap (λ b. cond b (Bucket Unset) (Row t true)) (eq-eqb t t refl)

  pub own_array : (b : Bool) → joined t g (Array t b) ≡ Array t true
  own_array b = ap (λ c. Array t (cond c true b)) (eq-eqb t t refl)

  -- no word changes
  same_word : (o : Owner) → word_of (joined t g o) ≡ word_of o
  same_word Door = refl
  same_word (Bucket w) = refl
  same_word (Ticket n b) = refl
  same_word (Array n b) = refl
  same_word (Row n false) = refl
  same_word (Row n true) = by (n == t)
    where
      by : (b : Bool) → word_of (cond b (Bucket Unset) (Row n true)) ≡ Unset
      by true = refl
      by false = refl
  same_word (Next a u) = refl
  same_word (Root i u) = refl

  pub word_joined : (cells : List Owner) (k : ℕ) → word_in (map (joined t g) cells) k ≡ word_in cells k
  word_joined [] k = refl
  word_joined (o ∷ cells) zero = same_word o
  word_joined (o ∷ cells) (suc k) = word_joined cells k

  pub there_joined : (cells : List Owner) (k : ℕ) (o : Owner) → slice_get cells k ≡ Some o → slice_get (map (joined t g) cells) k ≡ Some (joined t g o)
  there_joined cells k o at = map_get (joined t g) cells k ∙ ap (option_map (joined t g)) at

-- the cells hold the number of the array that was linked, and its ticket is home
module _ (d t first : ℕ) where
  abbrev grown : Option ℕ
  grown = Some first

  abbrev joins : Owner → Owner
  joins = joined t grown

  -- other cells hold what they held
  cell_rests : (o : Owner) → ((b : Bool) → o ≡ Array t b → ⊥) → ((u : ℕ) → o ≡ Next first u → ⊥) → cell_of d (joins o) ≡ cell_of d o
  cell_rests Door no_array no_next = refl
  cell_rests (Bucket w) no_array no_next = refl
  cell_rests (Ticket n b) no_array no_next = refl
  cell_rests (Array n b) no_array no_next = elim (eqb_tells n t) [
    | inl p ↦ absurd (no_array b (ap (λ m. Array m b) p.1))
    | inr p ↦ ap (λ c. cell_of d (Array n (cond c true b))) p.0
  ]
  cell_rests (Row n false) no_array no_next = refl
  cell_rests (Row n true) no_array no_next = by (n == t)
    where
      by : (b : Bool) → cell_of d (cond b (Bucket Unset) (Row n true)) ≡ (1, true)
      by true = refl
      by false = refl
  cell_rests (Next a u) no_array no_next = elim (eqb_tells a first) [
    | inl p ↦ absurd (no_next u (ap (λ m. Next m u) p.1))
    | inr p ↦ ap (λ c. cell_of d (Next a (cond c t u))) p.0
  ]
  cell_rests (Root i u) no_array no_next = refl

  module _ (os : List Owner) (next own v : ℕ) (free : slice_get os next ≡ Some (Next first v)) (there : slice_get os own ≡ Some (Array t false))
      (one_next : (k u : ℕ) → slice_get os k ≡ Some (Next first u) → k ≡ next) (one_array : (k : ℕ) (b : Bool) → slice_get os k ≡ Some (Array t b) → k ≡ own) where
    abbrev held : List (ℕ × Bool)
    held = map (cell_of d) os

    own_below : own < length held
    own_below = let low = get_below os own (Array t false) there in let long = map_length (cell_of d) os in omega (arith, low, long)

    next_below : next < length held
    next_below = let low = get_below os next (Next first v) free in let long = map_length (cell_of d) os in omega (arith, low, long)

    apart : next ≢ own
    apart same = next_not_array (one_item (sym free ∙ (ap (slice_get os) same ∙ there)))

    then : (k : ℕ) → slice_get (map (cell_of d) (map joins os)) k ≡ option_map (cell_of d) (option_map joins (slice_get os k))
    then k = map_get (cell_of d) (map joins os) k ∙ ap (option_map (cell_of d)) (map_get joins os k)

    was : (k : ℕ) → slice_get held k ≡ option_map (cell_of d) (slice_get os k)
    was k = map_get (cell_of d) os k

    rests : (k : ℕ) → k ≢ own → k ≢ next → (o : Option Owner) → slice_get os k ≡ o → option_map (cell_of d) o ≡ option_map (cell_of d) (option_map joins o)
    rests k not_own not_next None at = refl
    rests k not_own not_next (Some o) at = ap Some (sym (cell_rests o (λ b e. not_own (one_array k b (at ∙ ap Some e))) (λ u e. not_next (one_next k u (at ∙ ap Some e)))))

    each : (k : ℕ) → slice_get (set (set held next (t, true)) own (0, true)) k ≡ slice_get (map (cell_of d) (map joins os)) k
    each k = elim (eqb_tells k own) [
      | inl p ↦ ap (slice_get (set (set held next (t, true)) own (0, true))) p.1
          ∙ (set_get (set held next (t, true)) own (0, true) (let low = own_below in let long = set_long held next (t, true) in omega (arith, low, long))
          ∙ (sym (ap (λ o. Some (cell_of d o)) (own_array t grown false))
          ∙ (sym (ap (λ o. option_map (cell_of d) (option_map joins o)) there)
          ∙ (sym (then own) ∙ ap (slice_get (map (cell_of d) (map joins os))) (sym p.1)))))
      | inr p ↦ other_get (set held next (t, true)) own k (0, true) p.1 ∙ elim (eqb_tells k next) [
        | inl q ↦ ap (slice_get (set held next (t, true))) q.1
            ∙ (set_get held next (t, true) next_below
            ∙ (sym (ap (λ c. Some (cond c t v, true)) (eq-eqb first first refl))
            ∙ (sym (ap (λ o. option_map (cell_of d) (option_map joins o)) free)
            ∙ (sym (then next) ∙ ap (slice_get (map (cell_of d) (map joins os))) (sym q.1)))))
        | inr q ↦ other_get held next k (t, true) q.1 ∙ (was k ∙ (rests k p.1 q.1 (slice_get os k) refl ∙ sym (then k)))
      ]
    ]
      where
        set_long : (xs : List (ℕ × Bool)) (j : ℕ) (y : ℕ × Bool) → length (set xs j y) ≡ length xs
        set_long [] j y = refl
        set_long (x ∷ xs) zero y = refl
        set_long (x ∷ xs) (suc j) y = ap suc (set_long xs j y)

    pub joined_cells : set (set held next (t, true)) own (0, true) ≡ map (cell_of d) (map joins os)
    joined_cells = list_is (set (set held next (t, true)) own (0, true)) (map (cell_of d) (map joins os)) each
