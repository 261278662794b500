-- What the kept stamps of records say of the applied writes.
use Rattle.std.specs.Prelude.{◌≡◌, ℕ, ◌==◌, Bool, false, not, ◌&&◌, ◌||◌, cond, List, count_by, nat_eq, Option}
use Rattle.std.specs.Option.{option_map_or}
use Rattle.std.specs.List.{list_any}
use Rattle.std.specs.HashSet.{contains, hash_set_len}
use Rattle.moka_hist.specs.Visits.{number_of, is_upsert}
use Rattle.moka_hist.specs.declared.writes.Write.{Write}
use Rattle.moka_desk.specs.declared.records.Records.{Records}

-- one of the writes made the record of this stamp
abbrev pub is_made : List Write → ℕ → Bool
is_made writes stamp = list_any (λ w. is_upsert w && number_of w == stamp) writes

-- how many of the writes made it
abbrev pub count_of : ℕ → List Write → ℕ
count_of stamp writes = count_by (λ w. is_upsert w && number_of w == stamp) writes

-- how many of the writes made records that aren't gone
abbrev pub standing_but : (ℕ → Bool) → List Write → ℕ
standing_but gone writes = count_by (λ w. is_upsert w && not (gone (number_of w))) writes

-- the stamps whose records are gone, once that of one more is, if there is one
abbrev pub and_this : (ℕ → Bool) → Option ℕ → ℕ → Bool
and_this gone old n = gone n || option_map_or (λ stamp. stamp == n) old false

-- Where these writes were applied, each of which made another record, and these records are gone:
-- those stand that were made and are not gone, and as many; and of those that were not made yet it
-- is known which are gone.
pub record RecordsAre (records : Records) (writes : List Write) (gone : ℕ → Bool) : Type 0 where
  pub standing : (n : ℕ) → contains nat_eq records.standing n ≡
      (is_made writes n && not (gone n))
  pub early : (n : ℕ) → is_made writes n ≡ false → contains nat_eq records.early n ≡ gone n
  pub count : hash_set_len records.standing ≡ standing_but gone writes
  pub once : (n : ℕ) → count_of n writes ≡ cond (is_made writes n) 1 0

-- nothing has changed of what they say
abbrev pub RecordsStay : Records → Records → Type 0
RecordsStay old new =
    (writes : List Write) (gone : ℕ → Bool) → RecordsAre old writes gone →
    RecordsAre new writes gone
