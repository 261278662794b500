-- Words of a good state name pairs of their segment.
use Rattle.std.proofs.Common.{◌≡◌, ℕ, ◌==◌, Bool, true, false, List, Option, Some, None, refl, if◌then◌else◌}
use Rattle.std.proofs.lemmas.Bool.{eqb-true, false≢true}
use Rattle.std.specs.Option.{is_some}
use Rattle.moka_words.specs.Words.{node_of, word_at}
use Rattle.moka_growth.specs.Sound.{IsRoot}
use Rattle.moka_pairs.specs.Keys.{hash_by, same_by, mine_by}
use Rattle.moka_pairs.specs.Pairs.{key_if}
use Rattle.moka_pairs.proofs.Names.{agrees_now}
use Rattle.moka_history.specs.Entries.{Entry}
use Rattle.moka_history.specs.States.{State, words_in}
use Rattle.moka_history.specs.Rules.{keys_of, IsGood, IsRooted}

-- the pair of a number whose key is one of the segment
pair_of_own : {K V : Type 0} (place : K → ℕ) (i : ℕ) (o : Option (K × V)) → is_some (key_if (λ k. place k == i) o) ≡ true →
    (p : K × V) × (o ≡ Some p) × (place p.0 ≡ i)
pair_of_own place i None e = absurd (false≢true e)
pair_of_own {K} {V} place i (Some p) e = (p, refl, by (place p.0 == i) refl e)
  where
    by : (b : Bool) → (place p.0 == i) ≡ b → is_some (if b then Some p.0 else None) ≡ true → place p.0 ≡ i
    by true is f = eqb-true (place p.0) i is
    by false is f = absurd (false≢true f)

module _ {K V : Type 0} (eq : K → K → Bool) (hash place : K → ℕ) (s : State K V) (es : List (Entry K V)) (good : IsGood eq hash place s es) (i a : ℕ)
    (r : IsRooted s i a) where
  abbrev known : ℕ → Option K
  known = keys_of place s i

  -- an array of the segment that is its root, or was it
  pub array_is : IsRoot (hash_by hash known) (same_by eq known) (mine_by known) (words_in s a)
  array_is = (good.sound i r.within known (agrees_now known)).roots r.rooted.place a r.rooted.before r.rooted.there

  pub word_names : (index n : ℕ) → node_of (word_at (words_in s a) index) ≡ Some n → (p : K × V) × (s.pairs n ≡ Some p) × (place p.0 ≡ i)
  word_names index n named = pair_of_own place i (s.pairs n) (array_is.keys index n named)
