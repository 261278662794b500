-- What an exchange tells, where its word was found as it should be.
use Rattle.std.proofs.Common.{◌≡◌, ◌==◌, ℕ, Bool, true, false, sym, subst}
use Rattle.std.proofs.lemmas.Bool.{true≢false, eq-eqb}
use Rattle.std.specs.Prelude.{MatchBool}
use Rattle.logbook.specs.Pages.{View, step}
use Rattle.moka_history.specs.declared.note.Note.{Note}
use Rattle.moka_history.specs.Moving.{Added, Changes}
use Rattle.moka_shared.specs.Steps.{Spends, Writes}

pub was_made : (A B : Type 0) (b : Bool) → b ≡ true → MatchBool b A B → A
was_made A B = elim [ true ↦ (λ e h. h) | false ↦ (λ e h. absurd (true≢false (sym e))) ]

module _ {K V S : Type 0} (eq : K → K → Bool) (hash : S → K → ℕ) (place : S → ℕ → K → ℕ) (key from to found : ℕ) (ask : Note K V S)
    (v w : View (Note K V S) ℕ) where
  abbrev writes : Added eq hash place (step key from to ask) v found w → Writes eq hash place key found ask v.0 w.0
  writes added = record { log = added.log; begins = added.begins; was_kept = added.was_kept; holds = added.there; more = added.more; kept = added.kept }

  pub was_changed : (note : Note K V S) → ask ≡ note → Changes eq hash place (step key from to ask) v found w → found ≡ from →
      Spends eq hash place key from note v.0 w.0
  was_changed note asks told same =
      let made = was_made _ _ (found == from) (eq-eqb found from same) told in
      let spends : Spends eq hash place key found ask v.0 w.0 = record { writes = writes made.0; entry = made.1; is = made.2; entries = made.3 } in
      subst (λ (n : ℕ). Spends eq hash place key n note v.0 w.0) same (subst (λ (n : Note K V S). Spends eq hash place key found n v.0 w.0) asks spends)
