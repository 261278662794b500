-- Words by their numbers.
use Rattle.std.proofs.Common.{◌≡◌, ℕ, ◌+◌, ◌*◌, ◌^◌, ◌≤◌, zero, suc, refl, ap, sym, ◌∙◌, arith}
use Rattle.moka_words.specs.declared.words.Word.{Word}
use Rattle.moka_words.specs.declared.words.Word.TheVariants.{Unset, Empty, Live, Tomb, SealedEmpty, SealedLive, SealedTomb}
use Rattle.moka_history.specs.Cells.{number_of}
use Rattle.moka_history.specs.Keeping.{IsSmall}

-- the kind of a word: numbers of another kind are another 2^61
kind : Word → ℕ
kind Empty = 0
kind Unset = 0
kind SealedEmpty = 0
kind (Live n) = 1
kind (Tomb n) = 2
kind (SealedLive n) = 3
kind (SealedTomb n) = 4

-- what the number adds to that of its kind
rest : Word → ℕ
rest Empty = 0
rest Unset = 1
rest SealedEmpty = 2
rest (Live n) = n
rest (Tomb n) = n
rest (SealedLive n) = n
rest (SealedTomb n) = n

number_is : (w : Word) → number_of w ≡ kind w * 2 ^ 61 + rest w
unfolding kind rest
number_is Empty = refl
number_is Unset = refl
number_is SealedEmpty = refl
number_is (Live n) = refl
number_is (Tomb n) = refl
number_is (SealedLive n) = refl
number_is (SealedTomb n) = refl

rest_small : (w : Word) → IsSmall w → rest w ≤ 2 ^ 60
unfolding rest
rest_small Empty small = omega arith
rest_small Unset small = omega arith
rest_small SealedEmpty small = omega arith
rest_small (Live n) small = small n refl
rest_small (Tomb n) small = small n refl
rest_small (SealedLive n) small = small n refl
rest_small (SealedTomb n) small = small n refl

-- kind and rest tell the word
word_by : (kind rest : ℕ) → Word
word_by zero zero = Empty
word_by zero (suc zero) = Unset
word_by zero (suc (suc n)) = SealedEmpty
word_by (suc zero) n = Live n
word_by (suc (suc zero)) n = Tomb n
word_by (suc (suc (suc zero))) n = SealedLive n
word_by (suc (suc (suc (suc k)))) n = SealedTomb n

word_is : (w : Word) → word_by (kind w) (rest w) ≡ w
unfolding word_by kind rest
word_is Empty = refl
word_is Unset = refl
word_is SealedEmpty = refl
word_is (Live n) = refl
word_is (Tomb n) = refl
word_is (SealedLive n) = refl
word_is (SealedTomb n) = refl

module _ (v w : Word) (small : IsSmall v) (few : IsSmall w) (same : number_of v ≡ number_of w) where
  sums : kind v * 2 ^ 61 + rest v ≡ kind w * 2 ^ 61 + rest w
  sums = sym (number_is v) ∙ (same ∙ number_is w)

  kinds : kind v ≡ kind w
  kinds = let e = sums in let low = rest_small v small in let high = rest_small w few in omega (arith, e, low, high)

  rests : rest v ≡ rest w
  rests = let e = sums in let k = kinds in omega (arith, e, k)

  pub numbers_tell : v ≡ w
  numbers_tell = sym (word_is v) ∙ (ap (λ k. word_by k (rest v)) kinds ∙ (ap (word_by (kind w)) rests ∙ word_is w))

-- 1 is the number of an unset word alone
pub one_is_unset : (w : Word) → number_of w ≡ 1 → w ≡ Unset
one_is_unset Empty e = absurd (omega (arith, e))
one_is_unset Unset e = refl
one_is_unset SealedEmpty e = absurd (omega (arith, e))
one_is_unset (Live n) e = absurd (omega (arith, e))
one_is_unset (Tomb n) e = absurd (omega (arith, e))
one_is_unset (SealedLive n) e = absurd (omega (arith, e))
one_is_unset (SealedTomb n) e = absurd (omega (arith, e))
