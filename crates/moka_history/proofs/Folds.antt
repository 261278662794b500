-- Logs that get one note more.
use Rattle.std.proofs.Common.{◌≡◌, ◌≤◌, List, [], ◌∷◌, ◌++◌, length, refl, sym, ap, ◌∙◌, append_assoc, arith, length-append}
use Rattle.std.proofs.lemmas.List.{append-nil}
use Rattle.std.specs.Option.{option_to_list}
use mathlib.Core.List.{IsPrefix}
use Rattle.moka_history.specs.declared.note.Note.{Note}
use Rattle.moka_history.specs.States.{State, after, unopened}
use Rattle.moka_history.specs.Logs.{entries_from, entries_of, entry_of, state_from, state_of}

module _ {K V S : Type 0} where
  pub state_more : (s : State K V) (log : List (Note K V S)) (note : Note K V S) → state_from s (log ++ note ∷ []) ≡ after (state_from s log) note
  state_more s [] note = refl
  state_more s (x ∷ log) note = state_more (after s x) log note

  pub entries_more : (s : State K V) (log : List (Note K V S)) (note : Note K V S) →
      entries_from s (log ++ note ∷ []) ≡ entries_from s log ++ option_to_list (entry_of (state_from s log) note)
  entries_more s [] note = append-nil (option_to_list (entry_of s note))
  entries_more s (x ∷ log) note = ap (λ es. option_to_list (entry_of s x) ++ es) (entries_more (after s x) log note)
      ∙ sym (append_assoc (option_to_list (entry_of s x)) (entries_from (after s x) log) (option_to_list (entry_of (state_from (after s x) log) note)))

  -- the entries of a log that goes on
  pub entries_append : (s : State K V) (log more : List (Note K V S)) →
      entries_from s (log ++ more) ≡ entries_from s log ++ entries_from (state_from s log) more
  entries_append s [] more = refl
  entries_append s (x ∷ log) more = ap (λ es. option_to_list (entry_of s x) ++ es) (entries_append (after s x) log more)
      ∙ sym (append_assoc (option_to_list (entry_of s x)) (entries_from (after s x) log) (entries_from (state_from (after s x) log) more))

  pub entries_begin : (front log : List (Note K V S)) → IsPrefix front log → IsPrefix (entries_of front) (entries_of log)
  entries_begin front log begins = (entries_from (state_of front) begins.0, sym (entries_append unopened front begins.0) ∙ ap entries_of begins.1)

  pub entries_grow : (front log : List (Note K V S)) → IsPrefix front log → length (entries_of front) ≤ length (entries_of log)
  entries_grow front log begins =
      let rest = entries_begin front log begins in
      let all = ap (λ es. length es) rest.1 in
      let long = length-append (entries_of front) rest.0 in
      omega (arith, all, long)
