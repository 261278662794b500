-- What a table means: a finite map from keys to stored pairs, and keys that are divided into parts.
use Rattle.std.specs.Prelude.{◌≡◌, ◌≤◌, ◌⊎◌, ℕ, ◌+◌, ◌-◌, ◌*◌, Bool, true, cond, List, All, length, Option, IsSome, is_some}
use Rattle.std.specs.List.{IsDistinct, list_any}
use Rattle.std.specs.Map.{values_of}
use Rattle.moka_hist.specs.Finite.{Lists}
use Rattle.moka_hist.specs.Tables.{answer_of, stored_with, taken_by}
use Rattle.moka_hist.specs.declared.records.Stored.{Stored}
use Rattle.moka_hist.specs.declared.tables.TableOp.{TableOp}
use Rattle.moka_hist.specs.declared.tables.TableOp.TheVariants as op
use Rattle.moka_hist.specs.declared.tables.TableAnswer.{TableAnswer}
use Rattle.moka_hist.specs.declared.tables.TableAnswer.TheVariants as found
use Rattle.moka_hist.specs.declared.tables.TableTurn.{TableTurn}
use Rattle.moka_hist.specs.declared.tables.TableTurn.TheVariants as turn

-- the stored pair of each key, as a table has it
abbrev pub Pairs : (K V : Type 0) → Type 0
Pairs K V = K → Option (K × Stored V)

-- no array is longer on a table whose first one was so long and that never had more keys at once
abbrev pub longest : ℕ → ℕ → ℕ
longest first peak = first + 3 * peak

-- at most so many steps an operation makes by itself there
abbrev pub most_steps : ℕ → ℕ → ℕ
most_steps first peak = 16 * longest first peak + 32

module _ {K V : Type 0} where
  -- two maps are one
  abbrev pub SameMap : Pairs K V → Pairs K V → Type 0
  SameMap old new = (q : K) → new q ≡ old q

  -- What the operation answers: the pair at its key, or, of a removal, the one that it takes out; of
  -- a part some keys, of which `IsList` says more.
  abbrev pub Answers : Pairs K V → TableOp K V → TableAnswer K V → Type 0
  Answers map (op.Get key) answer = answer ≡ answer_of (map key)
  Answers map (op.InsertOrModify key stored) answer = answer ≡ answer_of (map key)
  Answers map (op.InsertIfAbsent key stored) answer = answer ≡ answer_of (map key)
  Answers map (op.RemoveIf key stamp) answer = answer ≡ answer_of (taken_by stamp (map key))
  Answers map (op.Keys part) answer = (keys : List K) × (answer ≡ found.Keys keys)

  -- how many keys there are after the operation
  abbrev pub keys_after : Pairs K V → ℕ → TableOp K V → ℕ
  keys_after map keys (op.Get key) = keys
  keys_after map keys (op.InsertOrModify key stored) = cond (is_some (map key)) keys (keys + 1)
  keys_after map keys (op.InsertIfAbsent key stored) = cond (is_some (map key)) keys (keys + 1)
  keys_after map keys (op.RemoveIf key stamp) =
      cond (is_some (taken_by stamp (map key))) (keys - 1) keys
  keys_after map keys (op.Keys part) = keys

  -- What one step of an operation gives, and what the map and its count are after it: it stays
  -- undecided, which changes nothing, or it answers by the map and makes its change.
  abbrev pub Moves : (K → K → Bool) → TableOp K V → Pairs K V → ℕ → TableTurn K V → Pairs K V → ℕ →
      Type 0
  Moves eq operation old keys turn.Going new count = SameMap old new × (count ≡ keys)
  Moves eq operation old keys (turn.Decided answer) new count =
      Answers old operation answer
      × ((q : K) → new q ≡ stored_with eq old operation q)
      × (count ≡ keys_after old keys operation)

  -- the pairs are those of the map, each once, in some order of its keys
  pub record ListsPairs (eq : K → K → Bool) (pairs : List (K × Stored V)) (map : Pairs K V)
      : Type 0 where
    pub entries : List (K × (K × Stored V))
    pub lists : Lists eq entries map
    pub are : pairs ≡ values_of entries

module _ {K V : Type 0} where
  -- A step of a call that lists a part left it undecided: a key that it has listed since was there, and
  -- of the part; and a key of the part that is there it goes on to cover.
  pub record GoesOnListing (map : Pairs K V) (OfPart OldListed Listed OldCovers Covers
      : K → Type 0) : Type 0 where
    pub lists : (q : K) → Listed q → OldListed q ⊎ (IsSome (map q) × OfPart q)
    pub covers : (q : K) → OfPart q → IsSome (map q) → OldCovers q → Covers q

  -- Its last step gave these keys: no two are equal, each is of the part, and was listed or is there;
  -- each key of the part is among them that is there and that the call covered; and they are no more
  -- than an array is long.
  pub record IsList (eq : K → K → Bool) (map : Pairs K V) (OfPart Listed Covers : K → Type 0)
      (most : ℕ) (keys : List K) : Type 0 where
    pub distinct : IsDistinct eq keys
    pub of_part : All OfPart keys
    pub within : All (λ q. Listed q ⊎ (IsSome (map q) × OfPart q)) keys
    pub whole : (q : K) → OfPart q → IsSome (map q) → Covers q →
        list_any (eq q) keys ≡ true
    pub few : length keys ≤ most
