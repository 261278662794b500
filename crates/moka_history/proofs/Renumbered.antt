-- The memory of a segment, whatever number its next array gets.
use Rattle.std.proofs.Common.{◌≡◌, ℕ, ◌<◌, ◌≤◌, Bool, List, Option, None, Some, zero, suc, refl, subst, ◌∙◌}
use Rattle.std.specs.List.{slice_get}
use Rattle.moka_words.specs.Effect.{Memory, LaterMemory, array_before, words_of}
use Rattle.moka_growth.specs.Fits.{IsKept as HasKept}
use Rattle.moka_growth.specs.Sound.{IsNext, IsSound}
use Rattle.moka_history.specs.States.{State, chain, memory_of, numbered, words_in}

module _ {K V : Type 0} (s : State K V) (segment : ℕ) where
  abbrev at : (fresh : ℕ) → Memory
  at fresh = numbered fresh (memory_of s segment)

  -- the arrays of the segment have lower numbers than this
  abbrev pub AreBelow : (fresh : ℕ) → Type 0
  AreBelow fresh = (p a : ℕ) → slice_get (chain s segment) p ≡ Some a → a < fresh

  before_at : (f g p : ℕ) → array_before (at f) p ≡ array_before (at g) p
  before_at f g zero = refl
  before_at f g (suc p) = refl

  words_at : (f g : ℕ) (o : Option ℕ) → words_of (at f) o ≡ words_of (at g) o
  words_at f g None = refl
  words_at f g (Some a) = refl

  pub sound_at : {hash : ℕ → ℕ} {same : ℕ → ℕ → Bool} {mine : ℕ → Bool} (f g : ℕ) → IsSound hash same mine (at f) → AreBelow g → IsSound hash same mine (at g)
  sound_at {hash} f g sound below = record {
    one = sound.one;
    numbered = below;
    power = sound.power;
    linked = sound.linked;
    waits = sound.waits;
    roots = sound.roots;
    left = sound.left;
    follows = λ a e. subst (λ o. IsNext hash o (words_of (at g) o) (words_in s a)) (before_at f g (s.rooted segment))
        (subst (λ ws. IsNext hash (array_before (at f) (s.rooted segment)) ws (words_in s a)) (words_at f g (array_before (at f) (s.rooted segment)))
        (sound.follows a e));
  }

  -- what a call knows that has kept the nodes of an array
  pub kept_at : {hash : ℕ → ℕ} (f g array size : ℕ) (kept : List (ℕ × ℕ)) → HasKept hash (at f) (Some array) size kept → HasKept hash (at g) (Some array) size kept
  kept_at f g array size kept k = record {
    place = k.place;
    left = record {
      stands = record { there = before_at g f k.place ∙ k.left.stands.there; within = k.left.stands.within };
      rooted = k.left.rooted;
      sealed = k.left.sealed;
    };
    size_is = k.size_is;
    kept_are = k.kept_are;
  }

-- a later memory is so by other numbers too
pub later_at : {K V : Type 0} {same : ℕ → ℕ → Bool} (old new : State K V) (segment f g x y : ℕ) →
    LaterMemory same (numbered f (memory_of old segment)) (numbered g (memory_of new segment)) → AreBelow old segment f → x ≤ y →
    LaterMemory same (numbered x (memory_of old segment)) (numbered y (memory_of new segment))
later_at old new segment f g x y later below low = record {
  words = λ p a e h. later.words p a e (below p a e);
  arrays = later.arrays;
  longer = later.longer;
  rooted = later.rooted;
  fresh = low;
}
