-- What a draw of a ticket tells.
use Rattle.std.proofs.Common.{◌≡◌, ◌≢◌, ℕ, ◌+◌, ◌-◌, ◌^◌, ◌<◌, ◌≤◌, Bool, List, [], ◌∷◌, Option, cond, inl, inr, refl, sym, ap, ◌∙◌, arith}
use Rattle.std.proofs.lemmas.Bool.{cases_lt, eq-eqb}
use mathlib.Core.List.{IsPrefix}
use Rattle.moka_history.specs.declared.note.Note.{Note}
use Rattle.moka_history.specs.declared.note.Note.TheVariants.{Announced}
use Rattle.moka_history.specs.States.{unopened}
use Rattle.moka_history.specs.Logs.{state_of}
use Rattle.moka_history.specs.Cells.{cells_of}
use Rattle.moka_history.proofs.Folds.{state_more}
use Rattle.moka_history.proofs.Fronts.{cells_now, good_now, lasts_now, segments_are}
use Rattle.moka_history.proofs.Lists.{prefix_through}
use Rattle.moka_shared.specs.Probing.{GoesOn, IsLogOf}
use Rattle.moka_shared.specs.Steps.{Sees, Writes}
use Rattle.moka_shared.specs.Tables.{Table}
use Rattle.moka_shared.proofs.Loading.{kept_as, opened_more, opened_some}

-- a number that is not less than another, and differs from it, is more
pub above_other : (m n : ℕ) → m ≤ n → n ≢ m → m < n
above_other m n low other = elim (cases_lt m n) [ inl less ↦ less | inr more ↦ absurd (other (omega (arith, low, more))) ]

module _ {K V S : Type 0} (eq : K → K → Bool) (hash : S → K → ℕ) (place : S → ℕ → K → ℕ) (t : Table S) where
  module _ (log : List (Note K V S)) (x : IsLogOf eq hash place t log) where
    pub segments_now : (state_of log).segments ≡ t.segments
    segments_now = segments_are eq hash place log (kept_as eq hash place t log x)

    pub last_small : (state_of log).last ≤ 2 ^ 60
    last_small = (good_now eq hash place log (kept_as eq hash place t log x)).drawn.last

    -- the number of a segment's first array was drawn
    pub first_drawn : (segment : ℕ) → segment < t.segments → segment + 1 ≤ (state_of log).last
    first_drawn segment below =
        let least = (good_now eq hash place log (kept_as eq hash place t log x)).drawn.first in
        let is = segments_now in
        omega (arith, least, is, below)

  -- the last ticket rises
  pub last_rises : (old new : List (Note K V S)) → IsLogOf eq hash place t old → IsLogOf eq hash place t new → IsPrefix old new →
      (state_of old).last ≤ (state_of new).last
  last_rises old new y x begins =
      (lasts_now eq hash place new (kept_as eq hash place t new x) old
      (record { some = opened_some t.segments t.size t.hasher old y.opened; begins = begins })).last

  -- the log that was seen, in which the door holds what was found
  module _ (old new : List (Note K V S)) (x : IsLogOf eq hash place t old) (found : ℕ) (sees : Sees eq hash place 0 found old new) where
    pub door_seen : GoesOn eq hash place t old new
    door_seen = record {
      begins = sees.begins;
      is_log = record { kept = sees.kept; opened = opened_more t.segments t.size t.hasher old new x.opened sees.begins; some = x.some };
    }

    pub last_seen : t.segments + found ≡ (state_of new).last
    last_seen =
        let kept = kept_as eq hash place t new door_seen.is_log in
        let door = (cells_now eq hash place new kept (cells_of (state_of new)) refl).0.1 in
        let found_is : found ≡ (state_of new).last - (state_of new).segments = ap (λ y. y.0) (sym sees.holds ∙ door) in
        let segments = segments_now new door_seen.is_log in
        let first = (good_now eq hash place new kept).drawn.first in
        omega (arith, found_is, segments, first)

    pub sum_small : t.segments + found ≤ 2 ^ 60
    sum_small = let most = last_small new door_seen.is_log in let is = last_seen in omega (arith, most, is)

  -- the log in which the pair was named
  module _ (old new : List (Note K V S)) (x : IsLogOf eq hash place t old) (found ticket : ℕ) (pair : Option (K × V))
      (writes : Writes eq hash place 0 found (Announced ticket pair) old new) where
    pub drawn_log : GoesOn eq hash place t old new
    drawn_log =
        let begins = prefix_through old writes.log new writes.begins (Announced ticket pair ∷ [], sym writes.more) in
        record {
          begins = begins;
          is_log = record { kept = writes.kept; opened = opened_more t.segments t.size t.hasher old new x.opened begins; some = x.some };
        }

    pub pair_named : (state_of new).pairs ticket ≡ pair
    pair_named =
        ap (λ l. (state_of l).pairs ticket) writes.more
        ∙ ap (λ s. s.pairs ticket) (state_more unopened writes.log (Announced ticket pair))
        ∙ ap (λ b. cond b pair ((state_of writes.log).pairs ticket)) (eq-eqb ticket ticket refl)
