-- Words of a book, one after the other.
use Rattle.std.proofs.Common.{◌≡◌, ℕ, ◌+◌, ◌<◌, List, [], ◌∷◌, ◌++◌, length, slice_index_or, inl, inr, refl, sym, ap, subst, ◌∙◌, suc}
use Rattle.std.proofs.lemmas.Option.{slice_get_read}
use Rattle.logbook.specs.Pages.{Book, Named}
use Rattle.moka_history.proofs.Lists.{more_get, no_item}
use Rattle.moka_shared.specs.Tables.{AreWords, word_named}

pub no_words : (b : Book) (first : ℕ) (words : List Named) → words ≡ [] → AreWords b first 0 words
no_words b first words none = subst (λ (ws : List Named). AreWords b first 0 ws) (sym none) record {
  count_is = refl;
  each = λ i w e. absurd (no_item e);
}

length_more : (words : List Named) (w : Named) → length (words ++ w ∷ []) ≡ suc (length words)
length_more [] w = refl
length_more (x ∷ words) w = ap suc (length_more words w)

-- one more
pub words_more : (b : Book) (first count : ℕ) (words : List Named) (w : Named) → AreWords b first count words → w ≡ word_named b (first + count) →
    AreWords b first (suc count) (words ++ w ∷ [])
words_more b first count words w are is = record {
  count_is = length_more words w ∙ ap suc are.count_is;
  each = λ i v e. elim (more_get words w i v e) [
    | inl at ↦ are.each i v at
    | inr last ↦ last.1 ∙ (is ∙ ap (λ n. word_named b (first + n)) (sym are.count_is ∙ sym last.0))
  ];
}

-- the word that was read at a place
pub word_read : (b : Book) (first count : ℕ) (words : List Named) (place at : ℕ) (w : Named) → AreWords b first count words → place < count → place ≡ at →
    w ≡ slice_index_or words place w → w ≡ word_named b (first + at)
word_read b first count words place at w are inside at_is is =
    are.each place w (slice_get_read words (length words) place w refl (subst (λ n. place < n) (sym are.count_is) inside) is)
    ∙ ap (λ n. word_named b (first + n)) at_is
