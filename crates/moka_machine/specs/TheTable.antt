-- The table of a machine. Nothing but this, the two types of `machine.rt` and `Machine::build` says
-- which one it is, and which hasher its maps have.
use Rattle.std.specs.Prelude.{Bool}
use Rattle.std.specs.declared.cmp.PartialEq as PartialEq
use Rattle.std.specs.declared.hash.BuildHasher as BuildHasher
use Rattle.std.specs.declared.hash.BuildHasherDefault.{BuildHasherDefault}
use Rattle.std.specs.declared.hash.FoldHasher.{FoldHasher}
use Rattle.std.specs.declared.hash.Hash as Hash
use Rattle.std.specs.declared.hash.Hasher as Hasher
use Rattle.std.specs.Hash.FoldHasher as folding
use Rattle.std.specs.Hash.BuildHasherDefault.{initial_hasher}
use Rattle.moka_desk.specs.declared.state.Desk.{Desk}
use Rattle.moka_hist.specs.State.{Division}
use Rattle.moka_layers.specs.declared.layers.Layers.{Layers}
use Rattle.moka_table.specs.Plain.{plain_part, plain_parts, plain_table}
use Rattle.moka_table.specs.declared.plain.PlainCall.{PlainCall}
use Rattle.moka_table.specs.declared.plain.PlainTable.{PlainTable}
use Rattle.moka_table.specs.declared.table.Table as Table

-- what makes the hashers of its maps by key: that of std's, of fixed seed
abbrev pub FixedSeed : Type 0
FixedSeed = BuildHasherDefault FoldHasher

-- and what contracts see of it, and of its hashers
abbrev pub the_builder : BuildHasher.Ghosts FixedSeed FoldHasher
the_builder = record { build_hasher = initial_hasher }

abbrev pub the_hasher : Hasher.Ghosts FoldHasher
the_hasher = record { write = folding.write; finish = folding.finish }

-- the table, and an operation that was begun on it
abbrev pub TheTable : (K V : Type 0) → Type 0
TheTable K V = PlainTable K V FixedSeed FoldHasher

abbrev pub TheCall : (K V : Type 0) → Type 0
TheCall K V = PlainCall K V

-- what contracts see of it
abbrev pub the_table : {K V : Type 0} → (K → K → Bool)
    → Table.Ghosts (TheTable K V) K V (TheCall K V)
the_table eq = plain_table eq

-- how it divides its keys: all are of one part
abbrev pub the_division : (K : Type 0) → Division K
the_division K = record { parts = plain_parts; part_of = plain_part }

-- the desk beside it, and both as a call reaches them
abbrev pub TheDesk : (K V E : Type 0) → PartialEq.Ghosts K → Hash.Ghosts K → Type 0
TheDesk K V E same hash = Desk K V E FixedSeed FoldHasher same hash the_builder the_hasher

abbrev pub TheLayers : (K V E T : Type 0) → PartialEq.Ghosts K → Hash.Ghosts K → Type 0
TheLayers K V E T same hash =
    Layers K V E (TheTable K V) (TheCall K V) T FixedSeed FoldHasher same hash the_builder
    the_hasher
