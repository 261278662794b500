-- What a table is that was just made.
use Rattle.std.specs.Prelude.{◌≡◌, None}
use Rattle.moka_table.specs.declared.table.Table as Table

-- It has no keys and never had one, and its first array is no longer than the least.
pub record IsEmptyTable {K V T C : Type 0} (t : Table.Ghosts T K V C) (table : T) : Type 0 where
  pub map : (q : K) → t.map table q ≡ None
  pub count : t.count table ≡ 0
  pub peak : t.peak table ≡ 0
  pub first : t.first table ≡ 128
