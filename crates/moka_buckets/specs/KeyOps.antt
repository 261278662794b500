-- Operations on one key, and what one does to a map.
use Rattle.std.specs.Prelude.{◌≡◌, ℕ, Bool, Option}
use Rattle.moka_hist.specs.Tables as table
use Rattle.moka_hist.specs.declared.records.Stored.{Stored}
use Rattle.moka_hist.specs.declared.tables.TableOp.{TableOp}
use Rattle.moka_hist.specs.declared.tables.TableOp.TheVariants as op
use Rattle.moka_hist.specs.declared.tables.TableTurn.{TableTurn}
use Rattle.moka_hist.specs.declared.tables.TableTurn.TheVariants as turn
use Rattle.moka_table.specs.Map.{Pairs, SameMap}
use Rattle.moka_table.specs.Map as map
use Rattle.moka_buckets.specs.declared.key_op.KeyOp.{KeyOp}
use Rattle.moka_buckets.specs.declared.key_op.KeyOp.TheVariants as one

module _ {K V : Type 0} where
  -- the operation of a table that it is
  abbrev pub op_of : KeyOp K V → TableOp K V
  op_of (one.Get key) = op.Get key
  op_of (one.InsertOrModify key stored) = op.InsertOrModify key stored
  op_of (one.InsertIfAbsent key stored) = op.InsertIfAbsent key stored
  op_of (one.RemoveIf key stamp) = op.RemoveIf key stamp

  -- its key
  abbrev pub key_of : KeyOp K V → K
  key_of (one.Get key) = key
  key_of (one.InsertOrModify key stored) = key
  key_of (one.InsertIfAbsent key stored) = key
  key_of (one.RemoveIf key stamp) = key

  -- the pair that it answers: what is at its key, or, of a removal, what it takes out
  abbrev pub pair_answered : Pairs K V → KeyOp K V → Option (K × Stored V)
  pair_answered map (one.Get key) = map key
  pair_answered map (one.InsertOrModify key stored) = map key
  pair_answered map (one.InsertIfAbsent key stored) = map key
  pair_answered map (one.RemoveIf key stamp) = table.taken_by stamp (map key)

  -- the map after it, and how many keys there are then
  abbrev pub stored_with : (K → K → Bool) → Pairs K V → KeyOp K V → Pairs K V
  stored_with eq f o = table.stored_with eq f (op_of o)

  abbrev pub keys_after : Pairs K V → ℕ → KeyOp K V → ℕ
  keys_after f keys o = map.keys_after f keys (op_of o)

  -- What one step of it gives, and what the map and its count are after it: it stays undecided, which
  -- changes nothing, or it answers its pair and makes its change.
  abbrev pub MovesKey : (K → K → Bool) → KeyOp K V → Pairs K V → ℕ → TableTurn K V → Pairs K V →
      ℕ → Type 0
  MovesKey eq o old keys turn.Going new count = SameMap old new × (count ≡ keys)
  MovesKey eq o old keys (turn.Decided answer) new count =
      (answer ≡ table.answer_of (pair_answered old o))
      × ((q : K) → new q ≡ stored_with eq old o q)
      × (count ≡ keys_after old keys o)
