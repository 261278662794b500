-- Which moments a desk without a history forgets.
use Rattle.std.specs.Prelude.{ℕ, ◌==◌, Bool, false, not, ◌&&◌, ◌||◌, cond, None, is_some, nat_eq}
use Rattle.std.specs.HashMap.{get}
use Rattle.std.specs.HashSet.{contains}
use Rattle.std.specs.List.{list_any}
use Rattle.std.specs.Option.{option_map_or}
use Rattle.moka_hist.specs.State.{DeskPart}
use Rattle.moka_hist.specs.Visits.{number_of, old_of}
use Rattle.moka_hist.specs.declared.writes.Write.{Write}
use Rattle.moka_desk.specs.declared.writes.Writes.{Writes}

-- the write makes the record of this stamp, or lets it go
abbrev pub names : ℕ → Write → Bool
names n write = number_of write == n || option_map_or (λ old. old == n) (old_of write) false

-- the record of this stamp may still be seen: it stands by the applied writes, or its write is held,
-- owed or logged
abbrev pub is_kept : Writes → ℕ → Bool
is_kept writes n =
    contains nat_eq writes.applied.records.standing n
    || (is_some (get nat_eq writes.held.holders n) || contains nat_eq writes.posted n)

-- the record of this stamp has left, by the writes that were applied lately: one of them made it or
-- let it go, and it may be seen no longer. Of a history nothing is forgotten.
abbrev pub has_left : Writes → ℕ → Bool
has_left writes n =
    not writes.applied.history
    && (list_any (names n) writes.applied.writes.items && not (is_kept writes n))

-- the state, once it is forgotten when these records were seen
abbrev pub forgotten : {K V E : Type 0} → (ℕ → Bool) → DeskPart K V E → DeskPart K V E
forgotten gone w = record w { accessed = λ n. cond (gone n) None (w.accessed n) }
