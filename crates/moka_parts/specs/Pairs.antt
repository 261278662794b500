-- The pairs of a hash map, and of what it lends.
use Rattle.std.specs.Prelude.{◌≡◌, Bool, cond, List, Option, IfSome}
use Rattle.std.specs.HashMap.{HashMap}
use Rattle.std.specs.Map.{lookup_entry}
use Rattle.std.specs.Option.{option_map, unwrap_or}
use Rattle.moka_parts.specs.declared.held.Held.{Held}
use denote.Ref.{Bor}

module _ {K V : Type 0} where
  -- the pair of an entry: its newer key, if it has one, and its value
  abbrev pub pair_of : K × Held K V → K × V
  pair_of e = (unwrap_or e.1.newer e.0, e.1.value)

  -- the pair that these entries have at the key
  abbrev pub pair_in : (K → K → Bool) → List (K × Held K V) → K → Option (K × V)
  pair_in eq entries q = option_map pair_of (lookup_entry (eq q) entries)

  -- two lists of entries have one pair at each key
  abbrev pub SamePairs : (K → K → Bool) → List (K × Held K V) → List (K × Held K V) → Type 0
  SamePairs eq old new = (q : K) → pair_in eq new q ≡ pair_in eq old q

  -- the entries have this at the keys that are equal to the key, and else what they had
  abbrev pub PutsAt : (K → K → Bool) → K → Option (K × V) → List (K × Held K V) → List (K × Held K V) → Type 0
  PutsAt eq key now old new = (q : K) → pair_in eq new q ≡ cond (eq key q) now (pair_in eq old q)

  -- each pair that is found meets the fact, under the key by which it is found
  abbrev pub MeetsFact : (K → K → Bool) → (K → V → Type 0) → List (K × Held K V) → Type 0
  MeetsFact eq holds entries = (q : K) → IfSome (pair_in eq entries q) (λ p. holds q p.1)

  -- the stored pair at the key
  abbrev pub pair_at : {S : Type 0} → (K → K → Bool) → HashMap K (Held K V) S → K → Option (K × V)
  pair_at eq map q = pair_in eq map.entries q

  -- the pair behind two references
  abbrev pub lent : Option (Bor K × Bor V) → Option (K × V)
  lent pair = option_map (λ p. (p.0.now, p.1.now)) pair

-- the entry of a map at the key
abbrev pub entry_at : {K X S : Type 0} → (K → K → Bool) → HashMap K X S → K → Option (K × X)
entry_at eq map q = lookup_entry (eq q) map.entries
