-- The lists of keys that calls have begun on a table, and those of the reference's.
use Rattle.std.specs.Prelude.{◌≡◌, ◌⊎◌, ℕ, true, Option, Some, None, IsSome}
use Rattle.moka_hist.specs.State.{Listed, TablePart}
use Rattle.moka_hist.specs.declared.tables.TableOp.{TableOp}
use Rattle.moka_hist.specs.declared.tables.TableOp.TheVariants as op
use Rattle.moka_table.specs.declared.table.Table as Table

-- the key is stored, and of the part
abbrev pub IsStoredIn : {K V : Type 0} → TablePart K V → ℕ → K → Type 0
IsStoredIn t part q = IsSome (t.stored q) × (t.division.part_of q ≡ part)

-- What a list has to give its call covers, and what the call has listed the list may give. What it has
-- to give is stored in its part, and what is stored there it may give.
pub record ListsAs {K V T C : Type 0} (t : Table.Ghosts T K V C) (table : T) (call : C)
    (part : TablePart K V) (listed : Listed K) : Type 0 where
  pub covers : (q : K) → listed.must q ≡ true → t.covers table call q
  pub may : (q : K) → t.listed table call q → listed.may q ≡ true
  pub must : (q : K) → listed.must q ≡ true → IsStoredIn part listed.part q
  pub stored : (q : K) → IsStoredIn part listed.part q → listed.may q ≡ true

module _ {K V T C : Type 0} where
  -- a call that was begun for this operation has the list of its part, or none
  abbrev pub ListsFor : Table.Ghosts T K V C → T → C → TablePart K V → Option (Listed K)
      → TableOp K V → Type 0
  ListsFor t table call part listing (op.Get key) = listing ≡ None
  ListsFor t table call part listing (op.InsertOrModify key stored) = listing ≡ None
  ListsFor t table call part listing (op.InsertIfAbsent key stored) = listing ≡ None
  ListsFor t table call part listing (op.RemoveIf key stamp) = listing ≡ None
  ListsFor t table call part listing (op.Keys p) =
      (listed : Listed K) × (listing ≡ Some listed) × (listed.part ≡ p)
      × ListsAs t table call part listed

  -- the same of what a call has begun, if anything
  abbrev pub ListingIs : Table.Ghosts T K V C → T → Option C → TablePart K V → Option (Listed K)
      → Type 0
  ListingIs t table None part listing = listing ≡ None
  ListingIs t table (Some call) part listing =
      (o : TableOp K V) → t.operation_of call ≡ Some o → ListsFor t table call part listing o

-- How the list of a call goes on where another call has changed the table: what it has to give then it
-- had to give before, and it is still stored; what it could give it may, and what is stored since.
pub record ListedFollows {K V : Type 0} (part after : TablePart K V) (listed on : Listed K)
    : Type 0 where
  pub of_part : on.part ≡ listed.part
  pub must : (q : K) → on.must q ≡ true → (listed.must q ≡ true) × IsSome (after.stored q)
  pub may : (q : K) → listed.may q ≡ true → on.may q ≡ true
  pub stored : (q : K) → IsSome (after.stored q) → IsSome (part.stored q) ⊎ (on.may q ≡ true)

module _ {K : Type 0} where
  -- there is none, or it goes on so
  abbrev pub ListingFollows : (Listed K → Listed K → Type 0) → Option (Listed K)
      → Option (Listed K) → Type 0
  ListingFollows Follows None on = on ≡ None
  ListingFollows Follows (Some listed) on =
      (more : Listed K) × (on ≡ Some more) × Follows listed more
