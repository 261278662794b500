-- The notices of a report, joined.
use Rattle.std.proofs.Common.{◌≡◌, ℕ, List, [], ◌∷◌, ◌++◌, length, Option, Some, None, refl, sym, ap, ◌∙◌, arith}
use Rattle.std.proofs.lemmas.List.{append_assoc, append-nil}
use Rattle.std.specs.List.{filter_map, cons_option}
use Rattle.moka_hist.specs.State.{Call, State}
use Rattle.moka_hist.specs.declared.notices.Notice.{Notice}
use Rattle.moka_hist.specs.declared.visits.Visit.{Visit}
use Rattle.moka_machine.specs.Calls.{opening_of}
use Rattle.moka_machine.specs.Listed.{waiting, all_notices}

-- the two lists, one after the other, are all notices
pub notices_joined : {K V E : Type 0} (calls : List (ℕ × Call K V E)) (s : State K V E) (none first second : List (Notice K V)) (numbers : List ℕ) (due : List (Visit K V E))
    → none ≡ [] → first ≡ none ++ filter_map s.world.desk.notices numbers → numbers ≡ s.world.desk.opened
    → second ≡ first ++ filter_map (waiting s.world.desk) due → due ≡ filter_map opening_of calls
    → second ≡ all_notices calls s
notices_joined calls s none first second numbers due en e1 eo e2 ed = rw (e2, e1, en, eo, ed) refl

module _ {A B : Type 0} (f : A → Option B) where
  -- what the first of those that are left gives was pushed
  pub pushed : (have new all : List B) (rest left : List A) (x : A) (y : B) → rest ≡ x ∷ left → f x ≡ Some y → new ≡ have ++ y ∷ []
      → have ++ filter_map f rest ≡ all → new ++ filter_map f left ≡ all
  pushed have new all rest left x y er ex en e =
      ap (λ l. l ++ filter_map f left) en ∙ append_assoc have (y ∷ []) (filter_map f left)
      ∙ ap (λ o. have ++ cons_option o (filter_map f left)) (sym ex) ∙ ap (λ l. have ++ filter_map f l) (sym er) ∙ e

  -- it gives nothing
  pub skipped : (have all : List B) (rest left : List A) (x : A) → rest ≡ x ∷ left → f x ≡ None
      → have ++ filter_map f rest ≡ all → have ++ filter_map f left ≡ all
  skipped have all rest left x er ex e =
      ap (λ o. have ++ cons_option o (filter_map f left)) (sym ex) ∙ ap (λ l. have ++ filter_map f l) (sym er) ∙ e

  -- none is left
  pub all_pushed : (have all : List B) (rest : List A) → length rest ≡ 0 → have ++ filter_map f rest ≡ all → have ≡ all
  all_pushed have all [] none e = sym (append-nil have) ∙ e
  all_pushed have all (x ∷ rest) none e = absurd (omega (arith, none))
