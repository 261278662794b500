-- What a whole log gives: the state, and the entries of its changes.
use Rattle.std.specs.Prelude.{ℕ, List, [], ◌∷◌, ◌++◌, Option, None}
use Rattle.std.specs.Option.{option_map, option_to_list}
use Rattle.moka_words.specs.declared.words.Word.{Word}
use Rattle.moka_words.specs.Words.{node_of, stored_in, word_at}
use Rattle.moka_pairs.specs.Pairs.{pair_at}
use Rattle.moka_history.specs.declared.note.Note.{Note}
use Rattle.moka_history.specs.declared.note.Note.TheVariants.{Opened, Announced, Changed, ArrayAnnounced, CellAdded, CellHome, Sealed, ArrayLinked, Copied, Swung}
use Rattle.moka_history.specs.Entries.{Entry}
use Rattle.moka_history.specs.States.{State, after, unopened, words_in}

module _ {K V : Type 0} where
  -- The entry of a change of one word for another: the key is that of the node that the new word
  -- names, the value is put that it stores, and the former pair is that of what the old one stored.
  abbrev pub entry_with : (pairs : ℕ → Option (K × V)) → (ticket : ℕ) → (from to : Word) → K →
      Entry K V
  entry_with pairs ticket from to key =
      record {
        ticket = ticket;
        key = key;
        put = option_map (λ p. p.1) (pair_at pairs (stored_in to));
        former = pair_at pairs (stored_in from);
      }

module _ {K V S : Type 0} where
  -- the entry of a note in this state, if it is that of a change
  abbrev pub entry_of : State K V → Note K V S → Option (Entry K V)
  entry_of s (Opened segments length hasher) = None
  entry_of s (Announced ticket pair) = None
  entry_of s (Changed ticket array index to) =
      option_map (λ p. entry_with s.pairs ticket (word_at (words_in s array) index) to p.0)
      (pair_at s.pairs (node_of to))
  entry_of s (ArrayAnnounced ticket segment length grown) = None
  entry_of s (CellAdded ticket) = None
  entry_of s (CellHome ticket cell) = None
  entry_of s (Sealed array index to) = None
  entry_of s (ArrayLinked ticket segment grown keys behind) = None
  entry_of s (Copied array index to) = None
  entry_of s (Swung segment from to) = None

  abbrev pub state_from : State K V → List (Note K V S) → State K V
  state_from s [] = s
  state_from s (note ∷ log) = state_from (after s note) log

  abbrev pub entries_from : State K V → List (Note K V S) → List (Entry K V)
  entries_from s [] = []
  entries_from s (note ∷ log) = option_to_list (entry_of s note) ++ entries_from (after s note) log

  abbrev pub state_of : List (Note K V S) → State K V
  state_of log = state_from unopened log

  abbrev pub entries_of : List (Note K V S) → List (Entry K V)
  entries_of log = entries_from unopened log
