-- What the registered predicates stand for, and what a predicate's registration comes to.
use Rattle.std.specs.Prelude.{◌≡◌, ◌≤◌, ◌<◌, ◌+◌, ◌==◌, ℕ, Bool, false, List, [], ◌∷◌, ◌++◌, map, filter, Option, Some, None, cond, Result, Ok, Err, vec_len, vec_capacity, nat_eq, nat_le, nat_lt, not, ◌&&◌}
use Rattle.std.specs.List.{AllByRecursion, find, list_any}
use Rattle.std.specs.Option.{option_and_then, option_map_or}
use Rattle.std.specs.HashMap.{get, spare}
use Rattle.moka_hist.specs.Finite.{times}
use Rattle.moka_hist.specs.State.{DeskPart}
use Rattle.moka_hist.specs.Visits.{is_named}
use Rattle.moka_hist.specs.declared.predicates.PredicateError.{PredicateError}
use Rattle.moka_hist.specs.declared.predicates.PredicateError.TheVariants as refused
use Rattle.moka_hist.specs.declared.predicates.Registered.{Registered}
use Rattle.moka_desk.specs.declared.predicates.Predicates.{Predicates}

-- What the desk's part says of them.
pub record PredicatePart : Type 0 where
  pub clock : ℕ
  pub registered : List Registered

-- that part of it
abbrev pub predicate_part : {K V E : Type 0} → DeskPart K V E → PredicatePart
predicate_part w = record { clock = w.clock; registered = w.registered }

-- none is of an earlier moment than one before it, and none of a later one than this
abbrev pub AreTimely : ℕ → List Registered → Type 0
AreTimely clock [] = Unit {0}
AreTimely clock (r ∷ rest) =
    (r.moment ≤ clock) × AllByRecursion (λ later. r.moment ≤ later.moment) rest × AreTimely clock rest

-- the predicate that is registered under this id, if one is
abbrev pub registered_under : List Registered → ℕ → Option Registered
registered_under registered id = find (λ r. r.id == id) registered

-- no id stands twice
abbrev pub HaveOwnIds : List Registered → Type 0
HaveOwnIds registered = (id : ℕ) → times id (map (λ r. r.id) registered) ≤ 1

-- The list is the one that is kept, each predicate is also found by its id, which is its own, and
-- they are in the order of moments.
pub record PredicatesAre (kept : Predicates) (p : PredicatePart) : Type 0 where
  pub registered : kept.registered.items ≡ p.registered
  pub ids : (id : ℕ) → get nat_eq kept.ids id ≡ registered_under p.registered id
  pub once : HaveOwnIds p.registered
  pub timely : AreTimely p.clock p.registered

-- there is room for one more, and its id
pub record HasPlace (kept : Predicates) : Type 0 where
  pub registered : vec_len kept.registered < vec_capacity kept.registered
  pub ids : 0 < spare kept.ids

-- the part, where this one was registered at its clock's moment
abbrev pub with_registered : PredicatePart → Registered → PredicatePart
with_registered p one = record p { registered = p.registered ++ one ∷ [] }

-- the predicate, by what each number answers, hits a record of this key and value, last written at
-- the moment
abbrev pub hit_by : {K V : Type 0} → (ℕ → K → V → Bool) → K → V → ℕ → Registered → Bool
hit_by answers key value modified r = nat_le modified r.moment && answers r.test key value

-- a predicate of this moment was found that hits such a record
abbrev pub strikes_as : {K V : Type 0} → (ℕ → K → V → Bool) → K → V → ℕ → ℕ → Option Registered → Bool
strikes_as answers key value modified moment entry =
    option_map_or (λ r. r.moment == moment && hit_by answers key value modified r) entry false

-- the predicate is of an earlier moment than the clock's and the earliest one that is pending, if
-- any is
abbrev pub is_over_by : ℕ → Option ℕ → Registered → Bool
is_over_by clock pending r =
    nat_lt r.moment clock && not (option_map_or (λ taken. nat_le taken r.moment) pending false)

-- what is left of an entry, where the predicates of these ids and moments leave, or that of one
abbrev pub left_by_all : List (ℕ × ℕ) → Option Registered → Option Registered
left_by_all leaving entry =
    option_and_then (λ r. cond (list_any (λ named. is_named named r) leaving) None (Some r)) entry

abbrev pub left_by : ℕ → ℕ → ℕ → Option Registered → Option Registered
left_by id moment key entry =
    option_and_then (λ r. cond (key == id && r.moment == moment) None (Some r)) entry

-- the part, where the predicates of these ids and moments have left
abbrev pub without_named : PredicatePart → List (ℕ × ℕ) → PredicatePart
without_named p leaving = record p {
  registered = filter (λ r. not (list_any (λ named. is_named named r) leaving)) p.registered;
}

-- the ids that this stream still gives are those that the state is to draw
abbrev pub Draws : {K V E : Type 0} → (ℕ → ℕ) → DeskPart K V E → Type 0
Draws stream w = (n : ℕ) → stream n ≡ w.ids (w.drawn + n)

-- this holds, unless memory was wanting to register a predicate
abbrev pub UnlessMemory : Result ℕ PredicateError → Type 0 → Type 0
UnlessMemory (Err refused.Memory) Holds = Unit {0}
UnlessMemory (Err refused.NoId) Holds = Holds
UnlessMemory (Err refused.InvalidationClosuresDisabled) Holds = Holds
UnlessMemory (Ok id) Holds = Holds

-- this holds, where memory was wanting to register one
abbrev pub OnMemory : Result ℕ PredicateError → Type 0 → Type 0
OnMemory (Err refused.Memory) Holds = Holds
OnMemory (Err refused.NoId) Holds = Unit {0}
OnMemory (Err refused.InvalidationClosuresDisabled) Holds = Unit {0}
OnMemory (Ok id) Holds = Unit {0}
