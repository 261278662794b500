-- What the kept writes stand for.
use Rattle.std.specs.Prelude.{◌≡◌, ◌≢◌, ◌≤◌, ℕ, ◌+◌, ◌||◌, cond, List, ◌++◌, map, nat_eq, Option, Some, is_some}
use Rattle.std.specs.HashMap.{get}
use Rattle.std.specs.HashSet.{contains}
use Rattle.moka_hist.specs.Conditions.{held_number}
use Rattle.moka_hist.specs.Finite.{times}
use Rattle.moka_hist.specs.State.{DeskPart}
use Rattle.moka_hist.specs.declared.writes.Holding.{Holding}
use Rattle.moka_hist.specs.declared.writes.Owed.{Owed}
use Rattle.moka_hist.specs.Visits.{number_of}
use Rattle.moka_hist.specs.declared.writes.Write.{Write}
use Rattle.moka_desk.specs.Applied.{AppliedAre}
use Rattle.moka_desk.specs.Held.{held_by}
use Rattle.moka_desk.specs.declared.writes.Writes.{Writes}

-- What the desk's part says of writes.
pub record WritePart : Type 0 where
  pub holding : ℕ → Option Holding
  pub owed : List Owed
  pub log : List Write
  pub applied : List Write
  pub size : ℕ

-- that part of it
abbrev pub write_part : {K V E : Type 0} → DeskPart K V E → WritePart
write_part w =
    record { holding = w.holding; owed = w.owed; log = w.log; applied = w.applied; size = w.size }

-- how many writes of this number have a place or are logged: one, where there is such a write
abbrev pub coming : Writes → ℕ → ℕ
coming writes n =
    cond (is_some (get nat_eq writes.held.holders n) || contains nat_eq writes.posted n) 1 0

-- Each call holds what is kept of it, the lists are those that are kept, and each number is that of
-- one write: it has its place, is logged, or was applied, once.
pub record WritesAre (writes : Writes) (p : WritePart) : Type 0 where
  pub holding : (n : ℕ) → held_by writes.held.holdings n ≡ p.holding n
  pub owed : writes.owed.items ≡ p.owed
  pub log : writes.log.items ≡ p.log
  pub applied : AppliedAre writes.applied p.applied
  pub once : (n : ℕ) → coming writes n + times n (map number_of p.applied) ≤ 1
  pub size : writes.size ≡ p.size

-- the writes change as the part does, whatever they stand for
abbrev pub WritesBecome : Writes → (WritePart → WritePart) → Writes → Type 0
WritesBecome old change new = (p : WritePart) → WritesAre old p → WritesAre new (change p)

-- the same, of each part that meets the condition
abbrev pub WritesBecomeIf : Writes → (WritePart → Type 0) → (WritePart → WritePart) → Writes →
    Type 0
WritesBecomeIf old P change new = (p : WritePart) → WritesAre old p → P p → WritesAre new (change p)

-- no write of the number is owed, logged, applied or held
pub record IsUnusedIn (p : WritePart) (number : ℕ) : Type 0 where
  pub stands : times number (map number_of (map (λ o. o.write) p.owed ++ p.log ++ p.applied)) ≡ 0
  pub held : (n : ℕ) (h : Holding) → p.holding n ≡ Some h → held_number n h ≢ number

-- the writes stand for the part also with other applied writes, where no write of the number is
pub record ForgetsIn (writes : Writes) (p : WritePart) (number : ℕ) : Type 0 where
  pub others : List Write
  pub stand : WritesAre writes (record p { applied = others })
  pub unused : IsUnusedIn (record p { applied = others }) number
