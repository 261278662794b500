-- What contracts see of a node.
use Rattle.std.specs.Prelude.{◌≡◌, ℕ, ◌<◌, List, length, Some}
use Rattle.moka_history.specs.declared.note.Note.{Note}
use Rattle.moka_history.specs.Logs.{state_of}

-- its number, its pair, the names of its book, and what it has seen of the history
pub record NodeView (K V S : Type 0) : Type 0 where
  pub number : ℕ
  pub pair : K × V
  pub names : List ℕ
  pub log : List (Note K V S)

-- what it has seen names its pair under its number, and the pair meets the fact
pub record IsNode {K V S : Type 0} (holds : K → V → Type 0) (n : NodeView K V S) : Type 0 where
  pub some : 0 < length n.log
  pub named : (state_of n.log).pairs n.number ≡ Some n.pair
  pub fact : holds n.pair.0 n.pair.1
