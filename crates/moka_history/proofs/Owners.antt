-- What notes make of the owners of cells.
use Rattle.std.proofs.Common.{◌≡◌, ◌≢◌, ◌⊎◌, ℕ, ◌<◌, ◌==◌, Bool, true, false, cond, List, [], ◌∷◌, map, length, set, Some, zero, suc, inl, inr, refl, sym, ap, ◌∙◌, arith}
use Rattle.std.proofs.lemmas.Bool.{eq-eqb}
use Rattle.std.proofs.lemmas.Bool.Decides.{eqb_tells}
use Rattle.std.specs.List.{slice_get}
use Rattle.std.specs.Option.{option_map}
use Rattle.logbook.specs.Pages.{Cell, cell}
use Rattle.moka_words.specs.declared.words.Word.{Word}
use Rattle.moka_history.specs.States.{Owner, Door, Bucket, Ticket, Array, Row, Next, Root, spent}
use Rattle.moka_history.specs.Cells.{number_of, cell_of}
use Rattle.moka_history.proofs.Lists.{no_item, one_item, set_get, other_get, unmap_get, map_get, map_set}
use Rattle.moka_history.proofs.Swung.{root_not_array, root_not_bucket, root_not_door, root_not_next, root_not_row, root_not_ticket}

-- a cell of this owner stays, and stays home
abbrev pub Stays : (ℕ → Bool → Owner) → (old new : List Owner) → Type 0
Stays o old new = (k n : ℕ) (b : Bool) → slice_get old k ≡ Some (o n b) → (c : Bool) × (slice_get new k ≡ Some (o n c)) × (b ≡ true → c ≡ true)

-- a word that is left as it is
pub set_same : (cells : List Cell) (k : ℕ) → (cell cells k).1 ≡ true → set cells k ((cell cells k).0, true) ≡ cells
set_same [] k home = refl
set_same (c ∷ cells) zero home = ap (λ b. (c.0, b) ∷ cells) (sym home)
set_same (c ∷ cells) (suc k) home = ap (λ cs. c ∷ cs) (set_same cells k home)

not_ticket : {w : Word} {n : ℕ} {b : Bool} → Bucket w ≡ Ticket n b → ⊥
not_ticket e = absurd (cc (e))

door_not_ticket : {n : ℕ} {b : Bool} → Door ≡ Ticket n b → ⊥
door_not_ticket e = absurd (cc (e))

door_not_bucket : {w : Word} → Door ≡ Bucket w → ⊥
door_not_bucket e = absurd (cc (e))

pub door_not_array : {n : ℕ} {b : Bool} → Door ≡ Array n b → ⊥
door_not_array e = absurd (cc (e))

pub door_not_row : {n : ℕ} {b : Bool} → Door ≡ Row n b → ⊥
door_not_row e = absurd (cc (e))

pub array_not_bucket : {w : Word} {n : ℕ} {b : Bool} → Array n b ≡ Bucket w → ⊥
array_not_bucket e = absurd (cc (e))

pub row_not_bucket : {w : Word} {n : ℕ} {b : Bool} → Row n b ≡ Bucket w → ⊥
row_not_bucket e = absurd (cc (e))

pub array_not_ticket : {n m : ℕ} {b c : Bool} → Array n b ≡ Ticket m c → ⊥
array_not_ticket e = absurd (cc (e))

pub row_not_ticket : {n m : ℕ} {b c : Bool} → Row n b ≡ Ticket m c → ⊥
row_not_ticket e = absurd (cc (e))

pub array_not_row : {n m : ℕ} {b c : Bool} → Array n b ≡ Row m c → ⊥
array_not_row e = absurd (cc (e))

pub door_not_next : {a t : ℕ} → Door ≡ Next a t → ⊥
door_not_next e = absurd (cc (e))

pub next_not_bucket : {w : Word} {a t : ℕ} → Next a t ≡ Bucket w → ⊥
next_not_bucket e = absurd (cc (e))

pub next_not_ticket : {a t n : ℕ} {b : Bool} → Next a t ≡ Ticket n b → ⊥
next_not_ticket e = absurd (cc (e))

pub next_not_array : {a t n : ℕ} {b : Bool} → Next a t ≡ Array n b → ⊥
next_not_array e = absurd (cc (e))

pub next_not_row : {a t n : ℕ} {b : Bool} → Next a t ≡ Row n b → ⊥
next_not_row e = absurd (cc (e))

pub next_is_next : {a b t u : ℕ} → Next a t ≡ Next b u → (a ≡ b) × (t ≡ u)
next_is_next e = (cc (e), cc (e))

pub row_is_row : {n m : ℕ} {b c : Bool} → Row n b ≡ Row m c → (n ≡ m) × (b ≡ c)
row_is_row e = (cc (e), cc (e))

pub array_is_array : {n m : ℕ} {b c : Bool} → Array n b ≡ Array m c → (n ≡ m) × (b ≡ c)
array_is_array e = (cc (e), cc (e))

pub bucket_is_no_ticket : {w : Word} {n : ℕ} {b : Bool} → Some (Bucket w) ≡ Some (Ticket n b) → ⊥
bucket_is_no_ticket e = not_ticket (one_item e)

pub door_is_no_ticket : {n : ℕ} {b : Bool} → Some Door ≡ Some (Ticket n b) → ⊥
door_is_no_ticket e = door_not_ticket (one_item e)

pub door_is_no_bucket : {w : Word} → Some Door ≡ Some (Bucket w) → ⊥
door_is_no_bucket e = door_not_bucket (one_item e)

-- the cells of owners none of which is the door, whatever it counts
others_stay : (os : List Owner) (d e : ℕ) → ((k : ℕ) → slice_get os k ≡ Some Door → ⊥) → map (cell_of d) os ≡ map (cell_of e) os
others_stay [] d e none = refl
others_stay (Door ∷ os) d e none = absurd (none 0 refl)
others_stay (Bucket w ∷ os) d e none = ap (λ cs. (number_of w, true) ∷ cs) (others_stay os d e (λ k. none (suc k)))
others_stay (Ticket n b ∷ os) d e none = ap (λ cs. (0, b) ∷ cs) (others_stay os d e (λ k. none (suc k)))
others_stay (Array n b ∷ os) d e none = ap (λ cs. (0, b) ∷ cs) (others_stay os d e (λ k. none (suc k)))
others_stay (Row n b ∷ os) d e none = ap (λ cs. (cond b 1 0, b) ∷ cs) (others_stay os d e (λ k. none (suc k)))
others_stay (Next a t ∷ os) d e none = ap (λ cs. (t, true) ∷ cs) (others_stay os d e (λ k. none (suc k)))
others_stay (Root i t ∷ os) d e none = ap (λ cs. (t, true) ∷ cs) (others_stay os d e (λ k. none (suc k)))

-- the door's cell counts another number
pub door_counts : (os : List Owner) (d e : ℕ) → slice_get os 0 ≡ Some Door → ((k : ℕ) → slice_get os k ≡ Some Door → k ≡ 0) →
    set (map (cell_of d) os) 0 (e, true) ≡ map (cell_of e) os
door_counts [] d e first only = absurd (no_item first)
door_counts (o ∷ os) d e first only =
    ap (λ cs. (e, true) ∷ cs) (others_stay os d e (λ k at. let same = only (suc k) at in absurd (omega (arith, same))))
    ∙ ap (λ x. cell_of e x ∷ map (cell_of e) os) (sym (one_item first))

module _ (t : ℕ) where
  spent_other : (o : Owner) → ((b : Bool) → o ≡ Ticket t b → ⊥) → spent t o ≡ o
  spent_other Door other = refl
  spent_other (Bucket w) other = refl
  spent_other (Ticket n b) other = elim (eqb_tells n t) [
    | inl p ↦ absurd (other b (ap (λ m. Ticket m b) p.1))
    | inr p ↦ ap (λ x. Ticket n (cond x true b)) p.0
  ]
  spent_other (Array n b) other = refl
  spent_other (Row n b) other = refl
  spent_other (Next a u) other = refl
  spent_other (Root i u) other = refl

  all_other : (os : List Owner) → ((k : ℕ) (b : Bool) → slice_get os k ≡ Some (Ticket t b) → ⊥) → map (spent t) os ≡ os
  all_other [] none = refl
  all_other (o ∷ os) none = ap (λ x. x ∷ map (spent t) os) (spent_other o (λ b e. none 0 b (ap Some e)))
      ∙ ap (λ xs. o ∷ xs) (all_other os (λ k. none (suc k)))

  -- the cell of the ticket comes home, and no other one
  pub ticket_spent : (d : ℕ) (os : List Owner) (own : ℕ) → slice_get os own ≡ Some (Ticket t false) →
      ((k : ℕ) (b : Bool) → slice_get os k ≡ Some (Ticket t b) → k ≡ own) →
      set (map (cell_of d) os) own (0, true) ≡ map (cell_of d) (map (spent t) os)
  ticket_spent d [] own there only = absurd (no_item there)
  ticket_spent d (o ∷ os) zero there only =
      ap (λ xs. (0, true) ∷ map (cell_of d) xs) (sym (all_other os (λ k b at. let same = only (suc k) b at in absurd (omega (arith, same)))))
      ∙ (ap (λ b. (0, cond b true false) ∷ map (cell_of d) (map (spent t) os)) (sym (eq-eqb t t refl))
      ∙ ap (λ x. cell_of d (spent t x) ∷ map (cell_of d) (map (spent t) os)) (sym (one_item there)))
  ticket_spent d (o ∷ os) (suc own) there only =
      ap (λ cs. cell_of d o ∷ cs) (ticket_spent d os own there (λ k b at. let same = only (suc k) b at in omega (arith, same)))
      ∙ ap (λ x. cell_of d x ∷ map (cell_of d) (map (spent t) os))
      (sym (spent_other o (λ b e. let same = only 0 b (ap Some e) in absurd (omega (arith, same)))))

  pub unspent_door : (o : Owner) → Door ≡ spent t o → o ≡ Door
  unspent_door Door e = refl
  unspent_door (Bucket w) e = absurd (door_not_bucket e)
  unspent_door (Ticket n b) e = absurd (door_not_ticket e)
  unspent_door (Array n b) e = absurd (door_not_array e)
  unspent_door (Row n b) e = absurd (door_not_row e)
  unspent_door (Next a u) e = absurd (door_not_next e)
  unspent_door (Root i u) e = absurd (root_not_door (sym e))

  pub unspent_ticket : (o : Owner) (n : ℕ) (b : Bool) → Ticket n b ≡ spent t o → (c : Bool) × (o ≡ Ticket n c) × (b ≡ cond (n == t) true c)
  unspent_ticket Door n b e = absurd (door_not_ticket (sym e))
  unspent_ticket (Bucket w) n b e = absurd (not_ticket (sym e))
  unspent_ticket (Array m c) n b e = absurd (array_not_ticket (sym e))
  unspent_ticket (Row m c) n b e = absurd (row_not_ticket (sym e))
  unspent_ticket (Next a u) n b e = absurd (next_not_ticket (sym e))
  unspent_ticket (Root i u) n b e = absurd (root_not_ticket (sym e))
  unspent_ticket (Ticket m c) n b e = by (cc (e)) (cc (e))
    where
      by : n ≡ m → b ≡ cond (m == t) true c → (c' : Bool) × (Ticket m c ≡ Ticket n c') × (b ≡ cond (n == t) true c')
      by same is = (c, ap (λ x. Ticket x c) (sym same), is ∙ ap (λ x. cond (x == t) true c) (sym same))

  pub unspent_array : (o : Owner) (n : ℕ) (b : Bool) → Array n b ≡ spent t o → o ≡ Array n b
  unspent_array Door n b e = absurd (door_not_array (sym e))
  unspent_array (Bucket w) n b e = absurd (array_not_bucket e)
  unspent_array (Ticket m c) n b e = absurd (array_not_ticket e)
  unspent_array (Array m c) n b e = sym e
  unspent_array (Row m c) n b e = absurd (array_not_row e)
  unspent_array (Next a u) n b e = absurd (next_not_array (sym e))
  unspent_array (Root i u) n b e = absurd (root_not_array (sym e))

  pub unspent_row : (o : Owner) (n : ℕ) (b : Bool) → Row n b ≡ spent t o → o ≡ Row n b
  unspent_row Door n b e = absurd (door_not_row (sym e))
  unspent_row (Bucket w) n b e = absurd (row_not_bucket e)
  unspent_row (Ticket m c) n b e = absurd (row_not_ticket e)
  unspent_row (Array m c) n b e = absurd (array_not_row (sym e))
  unspent_row (Row m c) n b e = sym e
  unspent_row (Next a u) n b e = absurd (next_not_row (sym e))
  unspent_row (Root i u) n b e = absurd (root_not_row (sym e))

  pub unspent_next : (o : Owner) (a u : ℕ) → Next a u ≡ spent t o → o ≡ Next a u
  unspent_next Door a u e = absurd (door_not_next (sym e))
  unspent_next (Bucket w) a u e = absurd (next_not_bucket e)
  unspent_next (Ticket m c) a u e = absurd (next_not_ticket e)
  unspent_next (Array m c) a u e = absurd (next_not_array e)
  unspent_next (Row m c) a u e = absurd (next_not_row e)
  unspent_next (Next b v) a u e = sym e
  unspent_next (Root i v) a u e = absurd (root_not_next (sym e))

  pub unspent_root : (o : Owner) (i u : ℕ) → Root i u ≡ spent t o → o ≡ Root i u
  unspent_root Door i u e = absurd (root_not_door e)
  unspent_root (Bucket w) i u e = absurd (root_not_bucket e)
  unspent_root (Ticket m c) i u e = absurd (root_not_ticket e)
  unspent_root (Array m c) i u e = absurd (root_not_array e)
  unspent_root (Row m c) i u e = absurd (root_not_row e)
  unspent_root (Next a v) i u e = absurd (root_not_next e)
  unspent_root (Root j v) i u e = sym e

-- the owners after a change of the bucket k
module _ (t k : ℕ) (to : Word) (os : List Owner) where
  abbrev pub Changes : List Owner
  Changes = map (spent t) (set os k (Bucket to))

  pub changed_here : k < length os → slice_get Changes k ≡ Some (Bucket to)
  changed_here below = map_get (spent t) (set os k (Bucket to)) k ∙ ap (option_map (spent t)) (set_get os k (Bucket to) below)

  pub changed_other : (j : ℕ) (o : Owner) → j ≢ k → slice_get os j ≡ Some o → slice_get Changes j ≡ Some (spent t o)
  changed_other j o other at = map_get (spent t) (set os k (Bucket to)) j ∙ ap (option_map (spent t)) (other_get os k j (Bucket to) other ∙ at)

  -- what stands in a cell then
  pub changed_from : k < length os → (j : ℕ) (o : Owner) → slice_get Changes j ≡ Some o →
      ((j ≡ k) × (o ≡ Bucket to)) ⊎ ((p : Owner) × (slice_get os j ≡ Some p) × (o ≡ spent t p))
  changed_from below j o at = elim (eqb_tells j k) [
    | inl p ↦ inl (p.1, one_item (sym at ∙ (ap (slice_get Changes) p.1 ∙ changed_here below)))
    | inr p ↦ (let (x, there, is) = unmap_get (spent t) (set os k (Bucket to)) j o at in
        inr (x, sym (other_get os k j (Bucket to) p.1) ∙ there, is))
  ]

  -- the cells hold the word, and the ticket is home
  pub changed_cells : (d own : ℕ) → slice_get os own ≡ Some (Ticket t false) → own ≢ k →
      ((j : ℕ) (b : Bool) → slice_get os j ≡ Some (Ticket t b) → j ≡ own) → k < length os →
      set (set (map (cell_of d) os) k (number_of to, true)) own (0, true) ≡ map (cell_of d) Changes
  changed_cells d own there other only below =
      ap (λ cs. set cs own (0, true)) (sym (map_set (cell_of d) os k (Bucket to)))
      ∙ ticket_spent t d (set os k (Bucket to)) own (other_get os k own (Bucket to) other ∙ there)
      (λ j b at. elim (eqb_tells j k) [
        | inl p ↦ absurd (bucket_is_no_ticket (sym (set_get os k (Bucket to) below) ∙ (ap (slice_get (set os k (Bucket to))) (sym p.1) ∙ at)))
        | inr p ↦ only j b (sym (other_get os k j (Bucket to) p.1) ∙ at)
      ])
