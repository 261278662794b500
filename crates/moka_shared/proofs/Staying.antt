-- Where a word is another one by now, the ticket whose cell the pen writes isn't home.
use Rattle.std.proofs.Common.{◌≡◌, ◌≢◌, ◌==◌, ℕ, ◌<◌, zero, suc, Bool, true, false, List, [], ◌∷◌, ◌++◌, length, Option, Some, refl, sym, ap, ◌∙◌, arith}
use Rattle.std.proofs.lemmas.Bool.{eqb-true, false≢true}
use Rattle.std.specs.Prelude.{MatchBool, slice_set}
use mathlib.Core.List.{IsPrefix}
use Rattle.logbook.specs.Pages.{Act, Cell, Moves, Nib, Right, View, adds, cell, cells_after, gives, keeps, may_make, may_write, nib_after, no_right, right_number, step}
use Rattle.moka_history.specs.declared.note.Note.{Note}
use Rattle.moka_history.specs.States.{Ticket}
use Rattle.moka_history.specs.Rules.{Holds}
use Rattle.moka_history.specs.Moving.{Changes, moved, shown}
use Rattle.moka_history.proofs.Fronts.{cell_now, lasts_now}
use Rattle.moka_history.proofs.Lists.{prefix_through}
use Rattle.moka_shared.specs.Steps.{ChangesOrStays, StaysAway}

-- a cell stays as another one is set
cell_other : (cs : List Cell) (k j : ℕ) (x : Cell) → j ≢ k → cell (slice_set cs k x) j ≡ cell cs j
cell_other [] k j x other = refl
cell_other (y ∷ cs) zero zero x other = absurd (other refl)
cell_other (y ∷ cs) zero (suc j) x other = refl
cell_other (y ∷ cs) (suc k) zero x other = refl
cell_other (y ∷ cs) (suc k) (suc j) x other = cell_other cs k j x (λ e. other (ap suc e))

unequal : (m n : ℕ) → m ≢ n → (m == n) ≡ false
unequal m n other = by (m == n) refl
  where
    by : (b : Bool) → (m == n) ≡ b → b ≡ false
    by true e = absurd (other (eqb-true m n e))
    by false e = refl

not_made : (A B : Type 0) (b : Bool) → b ≡ false → MatchBool b A B → B
not_made A B = elim [ true ↦ (λ e h. absurd (false≢true (sym e))) | false ↦ (λ e h. h) ]

-- a pen that writes isn't one that may do nothing, or make a word
no_writer : (r : Right) → r ≡ may_write → r ≡ no_right → ⊥
no_writer r writes rests = let two : right_number may_write ≡ right_number no_right = ap right_number (sym writes ∙ rests) in absurd (omega (arith, two))

no_maker : (r : Right) → r ≡ may_write → r ≡ may_make → ⊥
no_maker r writes makes = let two : right_number may_write ≡ right_number may_make = ap right_number (sym writes ∙ makes) in absurd (omega (arith, two))

module _ {K V S : Type 0} (eq : K → K → Bool) (hash : S → K → ℕ) (place : S → ℕ → K → ℕ) (front : List (Note K V S)) (some : 0 < length front)
    (pen : Nib) (writes : pen.right ≡ may_write) (state : Option ℕ) (bucket from to : ℕ) (ask : Note K V S) where
  abbrev before : View (Note K V S) ℕ
  before = (front, (pen, state))

  module _ (cs : List Cell) (log : List (Note K V S)) (pre : IsPrefix front log) (away : (cell cs pen.key).1 ≡ false)
      (home : (cell cs bucket).1 ≡ true) (x : Cell) (more : List (Note K V S)) (then : Option ℕ) (begins : IsPrefix front (log ++ more)) where
    apart : pen.key ≢ bucket
    apart e = false≢true (sym away ∙ (ap (λ k. (cell cs k).1) e ∙ home))

    stays : (a : Act) → Holds eq hash place (cells_after a pen (slice_set cs bucket x)) (log ++ more) →
        Changes eq hash place (step bucket from to ask) before (cell cs bucket).0 (log ++ more, (nib_after a pen cs, then)) →
        StaysAway (step bucket from to ask) before (cell cs bucket).0 (log ++ more, (nib_after a pen cs, then))
    stays keeps holds told differs ticket was at =
        let (c, there, later) = (lasts_now eq hash place (log ++ more) holds.1 front (record { some = some; begins = begins })).tickets pen.key ticket was at in
        let held = cell_now eq hash place (log ++ more) holds.1 (slice_set cs bucket x) holds.0 pen.key (Ticket ticket c) there in
        let is_away : c ≡ false = sym (ap (λ y. y.1) held.1) ∙ (ap (λ y. y.1) (cell_other cs bucket pen.key x apart) ∙ away) in
        there ∙ ap (λ b. Some (Ticket ticket b)) is_away
    stays gives holds told differs ticket was at =
        absurd (no_writer pen.right writes (sym (ap (λ p. p.right) (not_made _ _ ((cell cs bucket).0 == from) (unequal (cell cs bucket).0 from differs) told).2)))
    stays adds holds told differs ticket was at =
        absurd (no_maker pen.right writes (sym (ap (λ p. p.right) (not_made _ _ ((cell cs bucket).0 == from) (unequal (cell cs bucket).0 from differs) told).2)))

  pub moves_more : (f : ℕ → ℕ) →
      Moves (Holds eq hash place) shown moved bucket before f (Changes eq hash place (step bucket from to ask) before) →
      Moves (Holds eq hash place) shown moved bucket before f (ChangesOrStays eq hash place (step bucket from to ask) before)
  moves_more f moves cs log holds pre away =
      let m = moves cs log holds pre away in
      let begins : IsPrefix front (log ++ m.2.1) = prefix_through front log (log ++ m.2.1) pre (m.2.1, refl) in (
        m.0,
        m.1,
        (
          m.2.0,
          m.2.1,
          m.2.2,
          m.2.3,
          m.2.4,
          m.2.5,
          (m.2.6, stays cs log pre (away writes).1 m.1 (f (cell cs bucket).0, true) m.2.1 m.2.2 begins m.2.0 m.2.4 m.2.6),
        ),
      )
