-- Which records are to leave, in which order, and why.
use Rattle.std.specs.Prelude.{◌≡◌, ℕ, ◌+◌, ◌-◌, ◌≤◌, ◌||◌, List, ◌++◌, length, take, map, filter, Option, None, Some, is_none, IfSome, if◌then◌else◌}
use Rattle.std.specs.Option.{option_map}
use Rattle.std.specs.List.{filter_map}
use Rattle.std.specs.List.Sorted.{IsPermutation, IsSortedByKey, IsStableByKey}
use Rattle.std.specs.Ordering.{nat_cmp, ordering_then}
use Rattle.std.specs.declared.cmp.Ordering.{Ordering}
use Rattle.moka_hist.specs.Visible.{is_expired, is_hidden}
use Rattle.moka_hist.specs.declared.rules.Rules.{Rules}
use Rattle.moka_hist.specs.declared.rules.Cause.{Cause}
use Rattle.moka_hist.specs.declared.rules.Cause.TheVariants.{Expired, Explicit, Size}
use Rattle.moka_engine.specs.declared.known.Known.{Known}
use Rattle.moka_engine.specs.declared.known.Named.{Named}

-- how many records are more than the capacity, where one is set
abbrev pub surplus_of : Option ℕ → ℕ → ℕ
surplus_of None count = 0
surplus_of (Some capacity) count = count - capacity

-- ages by their moment of access, and of equal ones by their stamp
abbrev pub age_cmp : ℕ × ℕ → ℕ × ℕ → Ordering
age_cmp x y = ordering_then (nat_cmp x.0 y.0) (nat_cmp x.1 y.1)

-- where a capacity is set, no more than that are left of so many records when so many leave
abbrev pub KeepsCapacity : Option ℕ → ℕ → ℕ → Type 0
KeepsCapacity capacity count leaving = IfSome capacity (λ most. count ≤ leaving + most)

module _ {K : Type 0} where
  -- why the record leaves whatever the capacity: expired, or else hidden or hit by an invalidation
  abbrev pub cause_on_sight : Rules → Known K → Option Cause
  cause_on_sight rules known =
      if is_expired rules known.times then Some Expired
      else (if is_hidden known.times || known.hit then Some Explicit else None)

  -- the record, named to leave for this cause
  abbrev pub named_for : Cause → Known K → Named K
  named_for cause known = record { key = known.key; stamp = known.stamp; cause = cause }

  -- the records that leave whatever the capacity, in their order
  abbrev pub named_on_sight : Rules → List (Known K) → List (Named K)
  named_on_sight rules known =
      filter_map (λ k. option_map (λ cause. named_for cause k) (cause_on_sight rules k)) known

  -- the other records, in their order
  abbrev pub staying : Rules → List (Known K) → List (Known K)
  staying rules known = filter (λ k. is_none (cause_on_sight rules k)) known

  -- a record's last access and its stamp
  abbrev pub age_of : Known K → ℕ × ℕ
  age_of k = (k.times.accessed, k.stamp)

  -- the same records by age, those of equal age as they stood
  pub record IsOldestFirst (records order : List (Known K)) : Type 0 where
    pub same : IsPermutation records order
    pub sorted : IsSortedByKey age_of age_cmp order
    pub stable : IsStableByKey age_of age_cmp records order

  -- these are the records that leave on sight, and then the oldest of the others, as many as are
  -- more than the capacity
  pub record IsChoice (rules : Rules) (known : List (Known K)) (names : List (Named K))
      : Type 0 where
    pub order : List (Known K)
    pub oldest_first : IsOldestFirst (staying rules known) order
    pub chosen : names ≡ named_on_sight rules known
        ++ map (named_for Size) (take (surplus_of rules.max_capacity (length order)) order)
