-- The operations of a table, on one key or on a part, and how its calls stand.
use Rattle.std.specs.Prelude.{◌≡◌, ◌⊎◌, ℕ, ◌-◌, ◌<◌, ◌≤◌, max, min, Bool, true, false, nat_lt, List, length, Option, Some, IsSome, if◌then◌else◌, Result, IfOk, OnErr}
use Rattle.std.specs.Hash.{HashWrites}
use Rattle.std.specs.declared.alloc.AllocError.{AllocError}
use Rattle.std.specs.declared.hash.Hasher as hasher
use Rattle.std.specs.declared.hash.BuildHasher as builder
use Rattle.moka_hist.specs.declared.tables.TableOp.{TableOp}
use Rattle.moka_hist.specs.declared.tables.TableOp.TheVariants as op
use Rattle.moka_hist.specs.declared.tables.TableAnswer.TheVariants as found
use Rattle.moka_hist.specs.declared.tables.TableTurn.{TableTurn}
use Rattle.moka_hist.specs.declared.tables.TableTurn.TheVariants as turn
use Rattle.moka_calls.specs.Standing.{IsGoing}
use Rattle.moka_table.specs.Map.{GoesOnListing, IsList, Moves, SameMap, longest, most_steps}
use Rattle.moka_table.specs.declared.table.Table as Table
use Rattle.moka_buckets.specs.KeyOps.{op_of}
use Rattle.moka_buckets.specs.declared.list_call.ListCall.{ListCall}
use Rattle.moka_buckets.specs.declared.op_call.OpCall.{OpCall}
use Rattle.moka_buckets.specs.declared.op_call.OpCall.TheVariants as any
use Rattle.moka_buckets.specs.Views.{Buckets, count_of, covers_in, first_of, fits_in, fits_keys_in, keys_listed, left_keys_of, left_of, lists_in, map_in, peak_of, segment_for}

-- what the call was begun for
abbrev pub operation_for : {K V : Type 0} → OpCall K V → Option (TableOp K V)
operation_for (any.Key c) = Some (op_of c.operation)
operation_for (any.Keys l) = Some (op.Keys l.call.segment)

module _ {K V S : Type 0} where
  -- A table has more than 64 segments: then they all are one part, and else each of them is one.
  abbrev pub is_joined : Buckets K V S → Bool
  is_joined t = nat_lt 64 (length t.parts)

  abbrev pub segment_parts : Buckets K V S → ℕ
  segment_parts t = min 64 (max 1 (length t.parts))

  abbrev pub parts_in : Buckets K V S → ℕ
  parts_in t = if is_joined t then 1 else segment_parts t

  -- how many steps a call has left
  abbrev pub left_for : Buckets K V S → OpCall K V → ℕ
  left_for t (any.Key c) = left_of t c
  left_for t (any.Keys l) = left_keys_of t l.call

  -- a call that lists keys has listed this one
  abbrev pub listed_for : Buckets K V S → OpCall K V → K → Type 0
  listed_for t (any.Key c) key = ⊥
  listed_for t (any.Keys l) key = lists_in t l.call key

  -- It lists this key, if the key stays. Where all segments are one part it lists them at once.
  abbrev pub covers_for : (K → K → Bool) → Buckets K V S → OpCall K V → K → Type 0
  covers_for eq t (any.Key c) key = Unit {0}
  covers_for eq t (any.Keys l) key = (is_joined t ≡ true) ⊎ covers_in eq t l.call key

  module _ {H : Type 0} (b : builder.Ghosts S H) (h : hasher.Ghosts H) (eq : K → K → Bool)
      (input : K → HashWrites) where
    -- the part of a key: its segment, where each is one
    abbrev pub part_for : Buckets K V S → K → ℕ
    part_for t key = if is_joined t then 0 else
        min (segment_for b h eq input t key) (segment_parts t - 1)

    -- A call that lists keys goes on, and has clones of those that it has listed.
    abbrev pub fits_list : Buckets K V S → ListCall K → Type 0
    fits_list t l = fits_keys_in b h eq input t l.call × IsGoing l.call.table
        × (l.keys.items ≡ keys_listed t l.call)

    -- the call was begun on this table, and has not decided
    abbrev pub fits_for : Buckets K V S → OpCall K V → Type 0
    fits_for t (any.Key c) = fits_in b h eq input t c
    fits_for t (any.Keys l) = fits_list t l

    -- what contracts see of a table of buckets
    abbrev pub bucket_table : Table.Ghosts (Buckets K V S) K V (OpCall K V)
    bucket_table =
        record {
          map = map_in b h eq input;
          count = count_of;
          peak = peak_of;
          first = first_of;
          operation_of = operation_for;
          fits = fits_for;
          left = left_for;
          divided = parts_in;
          part_of = part_for;
          listed = listed_for;
          covers = covers_for eq;
        }

-- what holds in both cases holds of what a test chooses
pub in_both : (P : ℕ → ℕ → Type 0) (b : Bool) (x y v w : ℕ) → P x v → P y w →
    P (if b then x else y) (if b then v else w)
in_both P true x y v w p q = p
in_both P false x y v w p q = q

-- what one step of a call does, as the contract of tables tells it
pub record StepsTable {K V T C : Type 0} (t : Table.Ghosts T K V C) (eq : K → K → Bool)
    (old : T) (before : C) (given : Result (TableTurn K V) AllocError) (new : T) (after : C)
    : Type 0 where
  pub moves : IfOk given (λ x. (o : TableOp K V) → t.operation_of before ≡ Some o
      → Moves eq o (t.map old) (t.count old) x (t.map new) (t.count new))
  pub peak : t.peak new ≡ max (t.peak old) (t.count new)
  pub first : t.first new ≡ t.first old
  pub parts : (t.divided new ≡ t.divided old) × ((q : K) → t.part_of new q ≡ t.part_of old q)
  pub lists : IfOk given (λ x. (part : ℕ) → t.operation_of before ≡ Some (op.Keys part)
      → x ≡ turn.Going → GoesOnListing (t.map old) (λ q. t.part_of old q ≡ part)
      (t.listed old before) (t.listed new after) (t.covers old before) (t.covers new after))
  pub gives : IfOk given (λ x. (part : ℕ) → (keys : List K)
      → t.operation_of before ≡ Some (op.Keys part) → x ≡ turn.Decided (found.Keys keys)
      → IsList eq (t.map old) (λ q. t.part_of old q ≡ part) (t.listed old before)
      (t.covers old before) (longest (t.first old) (t.peak old)) keys)
  pub undecided : IfOk given (λ x. x ≡ turn.Going
      → (t.operation_of after ≡ t.operation_of before) × t.fits new after)
  pub nears : IfOk given (λ x. x ≡ turn.Going → t.left new after < t.left old before)
  pub others : (other : C) → t.fits old other → t.fits new other
  pub others_left : (other : C) → t.fits old other
      → t.left new other ≤ most_steps (t.first new) (t.peak new)
  pub others_listed : (other : C) → t.fits old other
      → (q : K) → t.listed new other q → t.listed old other q
  pub others_cover : (other : C) (part : ℕ) → t.fits old other
      → t.operation_of other ≡ Some (op.Keys part) → (q : K) → t.part_of old q ≡ part
      → IsSome (t.map old q) → IsSome (t.map new q) → t.covers old other q → t.covers new other q
  pub err_map : OnErr given (SameMap (t.map old) (t.map new))
  pub err_count : OnErr given (t.count new ≡ t.count old)
  pub err_call : OnErr given ((t.operation_of after ≡ t.operation_of before) × t.fits new after
      × (t.left new after ≡ t.left old before))
  pub err_listed : OnErr given ((q : K) → (t.listed new after q → t.listed old before q)
      × (t.covers old before q → t.covers new after q))
  pub err_others : OnErr given ((other : C) → t.fits old other → t.left new other ≤ t.left old other)
