-- What became of the look, where a word names a node.
use Rattle.std.proofs.Common.{◌≡◌, ℕ, List, Some, ap, subst, sym, ◌∙◌}
use Rattle.moka_words.specs.declared.words.Word.{Word}
use Rattle.moka_words.specs.Words.{node_of}
use Rattle.moka_history.proofs.Lists.{one_item}
use Rattle.moka_shelf.specs.Looks.{Hiding}
use Rattle.moka_shared.specs.declared.answers.TryGet.{TryGet}
use Rattle.moka_shared.specs.declared.answers.TryGet.TheVariants as get
use Rattle.moka_shared.specs.declared.probe.Met.{Met}
use Rattle.moka_shared.specs.declared.probe.Met.TheVariants as met
use Rattle.moka_history.specs.declared.note.Note.{Note}
use Rattle.moka_shared.specs.Looks.{HasCause, IsFound}
use Rattle.moka_shared.specs.Meeting.{Hides, IsShown, Shows, Stops}
use Rattle.moka_shared.specs.Nodes.{NodeView}
use Rattle.moka_shared.specs.Tables.{Table}

pub stops_shown : {K V S : Type 0} (names : List ℕ) (w : Word) (n : ℕ) → node_of w ≡ Some n → (old new : Hiding) (m : Met (NodeView K V S)) →
    Shows names n old new m → Stops names w old new m
stops_shown names w n named old new (met.Open item) shows = (shows.0, λ k e. subst (λ j. IsShown names j item) (one_item (sym named ∙ e)) shows.1)
stops_shown names w n named old new met.Other shows = shows
stops_shown names w n named old new (met.Hidden k) shows = (named ∙ ap Some (sym shows.0), subst (λ j. Hides j old new) (sym shows.0) shows.1)
stops_shown names w n named old new met.Sealed shows = absurd shows

-- what is found has no reason to be looked for again
pub found_cause : {K V S A : Type 0} (t : Table S) (h : ℕ) (log : List (Note K V S)) (old new : Hiding) → new ≡ old → (got : TryGet A) → IsFound got →
    HasCause t h log old new got
found_cause t h log old new same (get.Found v) found = same
found_cause t h log old new same (get.Again m) found = absurd found
