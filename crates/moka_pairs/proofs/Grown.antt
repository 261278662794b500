-- More numbers have pairs, and what stays as it is.
use Rattle.std.proofs.Common.{◌≡◌, ℕ, Bool, false, Option, Some, None, IsSome, refl, sym, ap, ◌∙◌}
use Rattle.std.proofs.lemmas.Bool.{false≢true}
use Rattle.std.specs.Cmp.{IsEquivalence}
use Rattle.std.specs.List.{find}
use Rattle.std.specs.Option.{option_map_or}
use Rattle.moka_words.specs.Effect.{Memory}
use Rattle.moka_growth.specs.Calls.{Call}
use Rattle.moka_growth.specs.Maps.{present_nodes, IsPresent, Finds}
use Rattle.moka_pairs.specs.Keys.{Agrees, Respects, own_by}
use Rattle.moka_pairs.specs.Pairs.{AreKeysOf, map_of, pair_at}
use Rattle.moka_pairs.specs.Segments.{SoundAll, FitsAll}
use Rattle.moka_pairs.proofs.Names.{agrees_through}
use Rattle.moka_pairs.proofs.Found.{found_finds}
use Rattle.moka_pairs.proofs.Mapped.{map_found, present_known, present_pair}

-- what there was is as it was
pub grown_same : {A : Type 0} (more known : ℕ → Option A) → Agrees more known → (n : ℕ) → IsSome (known n) → more n ≡ known n
grown_same {A} more known grows n has = by (known n) refl has
  where
    by : (o : Option A) → known n ≡ o → IsSome o → more n ≡ known n
    by None e f = absurd (false≢true f)
    by (Some a) e f = grows n a e ∙ sym e

module _ {K : Type 0} (eq : K → K → Bool) (hash : K → ℕ) (known more : ℕ → Option K) (grows : Agrees more known) where
  pub sound_grown : (m : Memory) → SoundAll eq hash known m → SoundAll eq hash more m
  sound_grown m sound keys agrees = sound keys (agrees_through keys more known agrees grows)

  pub fits_grown : (key : Option K) (m : Memory) (c : Call) → FitsAll eq hash known key m c → FitsAll eq hash more key m c
  fits_grown key m c fits keys agrees = fits keys (agrees_through keys more known agrees grows)

-- the map is that of the pairs before
pub map_grown : {K V : Type 0} (eq : K → K → Bool) (laws : IsEquivalence eq) (hash : K → ℕ) (respects : Respects eq hash) (known : ℕ → Option K)
    (pairs : ℕ → Option (K × V)) (are : AreKeysOf known pairs) (more : ℕ → Option K) (more_pairs : ℕ → Option (K × V)) → Agrees more known →
    Agrees more_pairs pairs → (m : Memory) → SoundAll eq hash known m → (q : K) → map_of eq m more more_pairs q ≡ map_of eq m known pairs q
map_grown eq laws hash respects known pairs are more more_pairs grows grows_pairs m sound q =
    map_found eq laws hash respects more more_pairs m (sound_grown eq hash known more grows m sound) q found (finds found was) ∙ same found was
  where
    found : Option ℕ
    found = find (own_by eq known q) (present_nodes m)

    was : Finds (own_by eq known q) m found
    was = found_finds (own_by eq known q) m

    own_same : (n : ℕ) → IsPresent m n → own_by eq more q n ≡ own_by eq known q n
    own_same n p = ap (λ o. option_map_or (eq q) o false) (grown_same more known grows n (present_known eq laws hash respects known m sound n p))

    finds : (o : Option ℕ) → Finds (own_by eq known q) m o → Finds (own_by eq more q) m o
    finds None f = λ n p. own_same n p ∙ f n p
    finds (Some n) f = (f.0, own_same n f.0 ∙ f.1)

    same : (o : Option ℕ) → Finds (own_by eq known q) m o → pair_at more_pairs o ≡ pair_at pairs o
    same None f = refl
    same (Some n) f = grown_same more_pairs pairs grows_pairs n (present_pair eq laws hash respects known pairs are m sound n f.0)
