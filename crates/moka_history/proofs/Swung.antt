-- What a swing makes of the owners of cells, and of words.
use Rattle.std.proofs.Common.{◌≡◌, ◌≢◌, ◌⊎◌, ℕ, ◌<◌, ◌==◌, Bool, true, cond, List, [], ◌∷◌, map, length, set, Option, Some, None, zero, suc, inl, inr, refl, sym, ap, ◌∙◌, arith}
use Rattle.std.proofs.lemmas.Bool.{eq-eqb}
use Rattle.std.proofs.lemmas.Bool.Decides.{eqb_tells}
use Rattle.std.specs.List.{slice_get}
use Rattle.std.specs.Option.{option_map}
use Rattle.moka_words.specs.declared.words.Word.{Word}
use Rattle.moka_history.specs.States.{Owner, Door, Bucket, Ticket, Array, Row, Next, Root, swung, word_in, word_of}
use Rattle.moka_history.specs.Cells.{cell_of}
use Rattle.moka_history.proofs.Lists.{get_below, list_is, map_get, map_length, other_get, set_get}

pub root_not_door : {i t : ℕ} → Root i t ≡ Door → ⊥
root_not_door e = absurd (cc (e))

pub root_not_bucket : {i t : ℕ} {w : Word} → Root i t ≡ Bucket w → ⊥
root_not_bucket e = absurd (cc (e))

pub root_not_ticket : {i t n : ℕ} {b : Bool} → Root i t ≡ Ticket n b → ⊥
root_not_ticket e = absurd (cc (e))

pub root_not_array : {i t n : ℕ} {b : Bool} → Root i t ≡ Array n b → ⊥
root_not_array e = absurd (cc (e))

pub root_not_row : {i t n : ℕ} {b : Bool} → Root i t ≡ Row n b → ⊥
root_not_row e = absurd (cc (e))

pub root_not_next : {i t a u : ℕ} → Root i t ≡ Next a u → ⊥
root_not_next e = absurd (cc (e))

pub root_is_root : {i j t u : ℕ} → Root i t ≡ Root j u → (i ≡ j) × (t ≡ u)
root_is_root e = (cc (e), cc (e))

module _ (i t : ℕ) where
  -- an owner stays, or is that of a root
  swung_is : (o : Owner) → (swung i t o ≡ o) ⊎ ((j u : ℕ) × (o ≡ Root j u) × (swung i t o ≡ Root j (cond (j == i) t u)))
  swung_is Door = inl refl
  swung_is (Bucket w) = inl refl
  swung_is (Ticket n b) = inl refl
  swung_is (Array n b) = inl refl
  swung_is (Row n b) = inl refl
  swung_is (Next a u) = inl refl
  swung_is (Root j u) = inr (j, u, refl, refl)

  pub unswung : (o x : Owner) → ((j u : ℕ) → x ≡ Root j u → ⊥) → x ≡ swung i t o → o ≡ x
  unswung o x other e = elim (swung_is o) [
    | inl same ↦ sym (e ∙ same)
    | inr r ↦ (let (j, u, is, then) = r in absurd (other j (cond (j == i) t u) (e ∙ then)))
  ]

  pub unswung_root : (o : Owner) (j u : ℕ) → Root j u ≡ swung i t o → (v : ℕ) × (o ≡ Root j v) × (u ≡ cond (j == i) t v)
  unswung_root Door j u e = absurd (root_not_door e)
  unswung_root (Bucket w) j u e = absurd (root_not_bucket e)
  unswung_root (Ticket n b) j u e = absurd (root_not_ticket e)
  unswung_root (Array n b) j u e = absurd (root_not_array e)
  unswung_root (Row n b) j u e = absurd (root_not_row e)
  unswung_root (Next a w) j u e = absurd (root_not_next e)
  unswung_root (Root k v) j u e =
      let (same, is) = root_is_root e in
      (v, ap (λ n. Root n v) (sym same), is ∙ ap (λ n. cond (n == i) t v) (sym same))

  -- no word changes
  same_word : (o : Owner) → word_of (swung i t o) ≡ word_of o
  same_word Door = refl
  same_word (Bucket w) = refl
  same_word (Ticket n b) = refl
  same_word (Array n b) = refl
  same_word (Row n b) = refl
  same_word (Next a u) = refl
  same_word (Root j u) = refl

  pub word_swung : (cells : List Owner) (k : ℕ) → word_in (map (swung i t) cells) k ≡ word_in cells k
  word_swung [] k = refl
  word_swung (o ∷ cells) zero = same_word o
  word_swung (o ∷ cells) (suc k) = word_swung cells k

  pub there_swung : (cells : List Owner) (k : ℕ) (o : Owner) → slice_get cells k ≡ Some o → slice_get (map (swung i t) cells) k ≡ Some (swung i t o)
  there_swung cells k o at = map_get (swung i t) cells k ∙ ap (option_map (swung i t)) at

-- the cell of the root holds the number of the other array
module _ (d i t : ℕ) where
  abbrev swings : Owner → Owner
  swings = swung i t

  -- other cells hold what they held
  cell_rests : (o : Owner) → ((u : ℕ) → o ≡ Root i u → ⊥) → cell_of d (swings o) ≡ cell_of d o
  cell_rests Door other = refl
  cell_rests (Bucket w) other = refl
  cell_rests (Ticket n b) other = refl
  cell_rests (Array n b) other = refl
  cell_rests (Row n b) other = refl
  cell_rests (Next a u) other = refl
  cell_rests (Root j u) other = elim (eqb_tells j i) [
    | inl p ↦ absurd (other u (ap (λ n. Root n u) p.1))
    | inr p ↦ ap (λ c. cell_of d (Root j (cond c t u))) p.0
  ]

  module _ (os : List Owner) (root v : ℕ) (there : slice_get os root ≡ Some (Root i v))
      (one : (k u : ℕ) → slice_get os k ≡ Some (Root i u) → k ≡ root) where
    abbrev held : List (ℕ × Bool)
    held = map (cell_of d) os

    below : root < length held
    below = let low = get_below os root (Root i v) there in let long = map_length (cell_of d) os in omega (arith, low, long)

    then : (k : ℕ) → slice_get (map (cell_of d) (map swings os)) k ≡ option_map (cell_of d) (option_map swings (slice_get os k))
    then k = map_get (cell_of d) (map swings os) k ∙ ap (option_map (cell_of d)) (map_get swings os k)

    rests : (k : ℕ) → k ≢ root → (o : Option Owner) → slice_get os k ≡ o → option_map (cell_of d) o ≡ option_map (cell_of d) (option_map swings o)
    rests k other None at = refl
    rests k other (Some o) at = ap Some (sym (cell_rests o (λ u e. other (one k u (at ∙ ap Some e)))))

    each : (k : ℕ) → slice_get (set held root (t, true)) k ≡ slice_get (map (cell_of d) (map swings os)) k
    each k = elim (eqb_tells k root) [
      | inl p ↦ ap (slice_get (set held root (t, true))) p.1
          ∙ (set_get held root (t, true) below
          ∙ (sym (ap (λ c. Some (cond c t v, true)) (eq-eqb i i refl))
          ∙ (sym (ap (λ o. option_map (cell_of d) (option_map swings o)) there)
          ∙ (sym (then root) ∙ ap (slice_get (map (cell_of d) (map swings os))) (sym p.1)))))
      | inr p ↦ other_get held root k (t, true) p.1 ∙ (map_get (cell_of d) os k ∙ (rests k p.1 (slice_get os k) refl ∙ sym (then k)))
    ]

    pub swung_cells : set held root (t, true) ≡ map (cell_of d) (map swings os)
    swung_cells = list_is (set held root (t, true)) (map (cell_of d) (map swings os)) each
