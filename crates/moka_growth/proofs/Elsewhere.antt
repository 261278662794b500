-- A segment to which no access is made, and what its map is.
use Rattle.std.proofs.Common.{◌≡◌, ℕ, Bool, true, length, Option, Some, None, zero, suc, refl, sym, ap, subst, ◌∙◌, arith}
use Rattle.std.specs.Int.{IsPowerOfTwo}
use Rattle.std.specs.List.{slice_get}
use Rattle.std.specs.List.Sorted.{IsPermutation}
use Rattle.std.proofs.lemmas.List.Sorted.{IsPermutation-refl}
use Rattle.moka_words.specs.Words.{stored_in, word_at, NamesKeys}
use Rattle.moka_words.specs.Later.{LaterWords}
use Rattle.moka_words.specs.Layout.{stored_nodes}
use Rattle.moka_words.specs.Effect.{Memory, array_at, array_before, root, words_of, LaterMemory}
use Rattle.moka_words.proofs.Lasts.{words_itself}
use Rattle.moka_words.proofs.Laying.{stored_is_key}
use Rattle.moka_growth.specs.Growing.{IsSealed}
use Rattle.moka_growth.specs.Sound.{IsRoot, IsNext, IsSound}
use Rattle.moka_growth.specs.Maps.{IsPresent, KeepsMap, IsElsewhere}
use Rattle.moka_growth.proofs.Copying.{root_is_array}

one_node : {o : Option ℕ} {n m : ℕ} → o ≡ Some n → o ≡ Some m → n ≡ m
one_node a b = cc

pub present_is_one : (hash : ℕ → ℕ) (same : ℕ → ℕ → Bool) (mine : ℕ → Bool) (m : Memory) (n k : ℕ) → IsSound hash same mine m →
    IsPresent m n → IsPresent m k → same n k ≡ true → n ≡ k
present_is_one hash same mine m n k sound a b alike =
    let words = words_of m (root m) in
    let one : a.0 ≡ b.0 = (root_is_array m sound).0.one a.0 b.0 n k (stored_is_key (word_at words a.0) n a.1)
    (stored_is_key (word_at words b.0) k b.1) alike in
    one_node a.1 (ap (λ i. stored_in (word_at words i)) one ∙ b.1)

pub present_is_mine : (hash : ℕ → ℕ) (same : ℕ → ℕ → Bool) (mine : ℕ → Bool) (m : Memory) (n : ℕ) → IsSound hash same mine m →
    IsPresent m n → mine n ≡ true
present_is_mine hash same mine m n sound p =
    (root_is_array m sound).1 p.0 n (stored_is_key (word_at (words_of m (root m)) p.0) n p.1)

module _ {hash : ℕ → ℕ} (same : ℕ → ℕ → Bool) {mine : ℕ → Bool} (old new : Memory) (names : NamesKeys hash same)
    (sound : IsSound hash same mine old) (elsewhere : IsElsewhere old new) where
  at : (p : ℕ) → array_at old p ≡ array_at new p
  at p = ap (λ xs. slice_get xs p) (sym elsewhere.arrays)

  before : (p : ℕ) → array_before new p ≡ array_before old p
  before zero = refl
  before (suc p) = sym (at p)

  before_words : (p : ℕ) → words_of new (array_before old p) ≡ words_of old (array_before old p)
  before_words zero = refl
  before_words (suc p) = by (array_at old p) refl
    where
      by : (o : Option ℕ) → array_at old p ≡ o → words_of new o ≡ words_of old o
      by None e = refl
      by (Some a) e = elsewhere.words p a e

  root_is : root new ≡ root old
  root_is = ap (λ r. array_before new r) elsewhere.rooted ∙ before old.rooted

  root_words : words_of new (root new) ≡ words_of old (root old)
  root_words = ap (words_of new) root_is ∙ before_words old.rooted

  pub elsewhere_sound : IsSound hash same mine new
  elsewhere_sound =
      let rooted = elsewhere.rooted in
      let counted : length new.arrays ≡ length old.arrays = ap (λ xs. length xs) elsewhere.arrays in
      let fresh = elsewhere.fresh in
      let linked = sound.linked in
      let waits = sound.waits in
      record {
        one = λ p q a d e. sound.one p q a (at p ∙ d) (at q ∙ e);
        numbered = λ p a d. let below = sound.numbered p a (at p ∙ d) in omega arith;
        power = λ p a d. subst (λ ws. IsPowerOfTwo (length ws)) (sym (elsewhere.words p a (at p ∙ d))) (sound.power p a (at p ∙ d));
        linked = omega arith;
        waits = omega arith;
        left = λ p a h d. subst (λ ws. IsSealed ws) (sym (elsewhere.words p a (at p ∙ d))) (sound.left p a (omega arith) (at p ∙ d));
        roots = λ p a h d. subst (λ ws. IsRoot hash same mine ws) (sym (elsewhere.words p a (at p ∙ d)))
            (sound.roots p a (omega arith) (at p ∙ d));
        follows = λ a d. let e = at old.rooted ∙ (ap (λ r. array_at new r) (sym rooted) ∙ d) in
            subst (λ ws. IsNext hash (root new) (words_of new (root new)) ws) (sym (elsewhere.words old.rooted a e))
            (subst (λ ws. IsNext hash (root new) ws (old.words a)) (sym root_words)
            (subst (λ o. IsNext hash o (words_of old (root old)) (old.words a)) (sym root_is) (sound.follows a e)));
      }

  pub elsewhere_later : LaterMemory same old new
  elsewhere_later =
      let rooted = elsewhere.rooted in
      let counted : length new.arrays ≡ length old.arrays = ap (λ xs. length xs) elsewhere.arrays in
      record {
        words = λ p a d h. subst (λ ws. LaterWords same (old.words a) ws) (sym (elsewhere.words p a d)) (words_itself same names (old.words a));
        arrays = λ p a d. sym (at p) ∙ d;
        longer = omega arith;
        rooted = omega arith;
        fresh = elsewhere.fresh;
      }

  pub elsewhere_map : KeepsMap old new
  elsewhere_map = subst (λ ws. IsPermutation (stored_nodes (words_of old (root old))) (stored_nodes ws)) (sym root_words)
      (IsPermutation-refl (stored_nodes (words_of old (root old))))

pub elsewhere_keeps_sound : (hash : ℕ → ℕ) (same : ℕ → ℕ → Bool) (mine : ℕ → Bool) (old new : Memory) → NamesKeys hash same →
    IsSound hash same mine old → IsElsewhere old new → IsSound hash same mine new × LaterMemory same old new × KeepsMap old new
elsewhere_keeps_sound hash same mine old new names sound e =
    (elsewhere_sound same old new names sound e, elsewhere_later same old new names sound e, elsewhere_map same old new names sound e)
