-- What a caller has of its own once its change was added.
use Rattle.std.proofs.Common.{◌≡◌, ℕ, List, [], ◌∷◌, ◌++◌, ap, sym, subst, ◌∙◌}
use mathlib.Core.List.{IsPrefix}
use Rattle.moka_parts.specs.declared.change.Change.{Change}
use Rattle.moka_parts.specs.declared.note.Note.{Note}
use Rattle.moka_parts.specs.declared.note.Note.TheVariants.{Changed}
use Rattle.moka_parts.specs.Changes.{made_with, ticket_after, IsUnspent}
use Rattle.moka_parts.specs.Logs.{changes_in}
use Rattle.moka_parts.proofs.Prefixes.{prefix_trans}
use Rattle.moka_parts.proofs.Histories.{changes_in-prefix, changes_in-more}
use Rattle.moka_parts.proofs.Tickets.{made_more}

module _ {K V S : Type 0} (t k : ℕ) (last v log new : List (Note K V S)) (c : Change K V) (held : ticket_after t (changes_in last) ≡ k) (spends : c.spent ≡ k)
    (from : IsPrefix last v) (pre : IsPrefix v log) (free : IsUnspent k (changes_in log)) (is : new ≡ log ++ Changed c ∷ []) where
  both : (made_with t (changes_in new) ≡ made_with t (changes_in last) ++ c ∷ []) × (ticket_after t (changes_in new) ≡ c.next)
  both =
      made_more t (changes_in last) (changes_in log) (changes_in-prefix last log (prefix_trans last v log from pre)) (subst (λ (n : ℕ). IsUnspent n (changes_in log)) (sym held) free)
      c (spends ∙ sym held) (changes_in new) (ap changes_in is ∙ changes_in-more log c)

  -- the change is one more
  pub one_more_made : made_with t (changes_in new) ≡ made_with t (changes_in last) ++ c ∷ []
  one_more_made = both.0

  -- the next ticket has the place of the one that was spent
  pub next_ticket : ticket_after t (changes_in new) ≡ c.next
  next_ticket = both.1
