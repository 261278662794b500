-- What is kept of the writes that are held or owed.
use Rattle.std.specs.Prelude.{ℕ, zero, suc, ◌+◌, ◌==◌, nat_le, Bool, false, not, ◌&&◌, ◌||◌, cond, List, length, map, Option, is_some, nat_eq, vec_capacity}
use Rattle.std.specs.Option.{option_and_then, option_map, option_map_or}
use Rattle.std.specs.List.{filter}
use Rattle.std.specs.Map.{lookup}
use Rattle.std.specs.HashMap.{get, hash_map_len}
use Rattle.moka_hist.specs.Visits.{moment_of, number_of, without_moment}
use Rattle.moka_hist.specs.Conditions.{held_number}
use Rattle.moka_hist.specs.declared.writes.Holding.{Holding}
use Rattle.moka_hist.specs.declared.writes.Owed.{Owed}
use Rattle.moka_desk.specs.Notices.{either}
use Rattle.moka_desk.specs.declared.holdings.Holdings.{Holdings}

-- what is held but by this call
abbrev pub others_of : ℕ → List (ℕ × Holding) → List (ℕ × Holding)
others_of call held = filter (λ h. not (h.0 == call)) held

-- what the call holds: what the map has of it, or else the rest
abbrev pub held_by : Holdings → ℕ → Option Holding
held_by holdings n = either (get nat_eq holdings.by_call n) (lookup (nat_eq n) holdings.rest.items)

-- how many calls hold something, and how many may without memory
abbrev pub held_count : Holdings → ℕ
held_count holdings = hash_map_len holdings.by_call + length holdings.rest.items

abbrev pub holding_room : Holdings → ℕ
holding_room holdings = vec_capacity holdings.rest

-- what the call holds once its write is decided
abbrev pub decided_holding : Option Holding → Option Holding
decided_holding held = option_map without_moment held

-- the call has a moment pending at or before this one
abbrev pub pends_by : Holdings → ℕ → ℕ → Bool
pends_by holdings moment call =
    option_map_or (λ taken. nat_le taken moment)
    (option_and_then moment_of (held_by holdings call)) false

-- and its number is no greater than this
abbrev pub pends_up_to : Holdings → ℕ → ℕ → ℕ → Bool
pends_up_to holdings last moment call = nat_le call last && pends_by holdings moment call

-- some call up to this number has one
unfoldable pub some_pends_by : Holdings → ℕ → ℕ → Bool
some_pends_by holdings moment zero = pends_by holdings moment 0
some_pends_by holdings moment (suc call) =
    pends_by holdings moment (suc call) || some_pends_by holdings moment call

-- this call is the one that holds the write
abbrev pub is_holder : Option (Option ℕ) → ℕ → Bool
is_holder place call = option_map_or (λ p. option_map_or (λ holder. holder == call) p false) place false

-- what the call holds is the write of this number, or its place
abbrev pub holds_number : ℕ → ℕ → Option Holding → Bool
holds_number call number held = option_map_or (λ h. held_number call h == number) held false

-- how often the write is owed: once where nobody holds it
abbrev pub owed_at : Option (Option ℕ) → ℕ
owed_at place = option_map_or (λ p. cond (is_some p) 0 1) place 0

-- the numbers of the owed writes
abbrev pub owed_numbers : List Owed → List ℕ
owed_numbers owed = map number_of (map (λ o. o.write) owed)
