-- What a change of a pair that stands there answers, and its removal.
use Rattle.std.specs.Prelude.{◌≡◌, ℕ, Bool, true, Option, None}
use Rattle.std.specs.Option.{option_map}
use denote.Ref.{Bor}
use Rattle.moka_history.specs.Entries.{map_after}
use Rattle.moka_history.specs.Logs.{entries_of}
use Rattle.moka_shared.specs.declared.answers.TryChange.{TryChange}
use Rattle.moka_shared.specs.declared.answers.TryChange.TheVariants as change
use Rattle.moka_shared.specs.declared.seat.Seat.{Seat}
use Rattle.moka_shared.specs.Changes.{IsReason, Makes, MakesNone, Stays, entry_for}
use Rattle.moka_shelf.specs.Looks.{Hiding}
use Rattle.moka_shared.specs.Tables.{Table}

-- the value that is to be put; None is a removal
abbrev pub value_of : {V : Type 0} → Option (Bor V) → Option V
value_of put = option_map (λ v. v.now) put

-- the fact holds of the value that stood there
abbrev pub IsTakenSo : {V : Type 0} → (V → Type 0) → TryChange V → Type 0
IsTakenSo holds (change.Changed former) = holds former
IsTakenSo holds change.Absent = Unit {0}
IsTakenSo holds (change.Again missed) = Unit {0}
IsTakenSo holds change.Memory = Unit {0}

module _ {K V S H D : Type 0} (eq : K → K → Bool) (key : K) (put : Option V)
    (old new : Seat K V S H D) where
  -- In place of a pair of an equal key, which had this value, another value was put, or none, under a
  -- ticket that was drawn in this call, and is the caller's.
  pub record Replaces (former : V) : Type 0 where
    pub pair : K × V
    pub same : eq key pair.0 ≡ true
    pub value_is : former ≡ pair.1
    pub makes : Makes old new (λ n. entry_for n key put pair)

module _ {K V S H D : Type 0} (eq : K → K → Bool) (place : S → ℕ → K → ℕ) (looked : H → Hiding)
    (t : Table S) (hash : ℕ) (key : K) (put : Option V) (old new : Seat K V S H D) where
  -- what a change answers
  abbrev pub Changes : TryChange V → Type 0
  Changes (change.Changed former) = Replaces eq key put old new former
  Changes change.Absent = Stays old new × (map_after eq (entries_of new.front.log) key ≡ None)
  Changes (change.Again missed) = MakesNone old new × IsReason eq place looked t hash old new missed
  Changes change.Memory = MakesNone old new
