-- What a look for a key answers, and why it has to be made again.
use Rattle.std.specs.Prelude.{◌≡◌, ℕ, Bool, true, List, Option, Some, IfSome}
use denote.Ref.{Bor}
use Rattle.std.specs.Fn.{Mut, ComputesKey}
use Rattle.std.specs.Option.{option_map}
use Rattle.moka_words.specs.declared.words.Word.{Word}
use Rattle.moka_words.specs.Words.{is_sealed, word_at}
use Rattle.moka_shelf.specs.Looks.{Hiding}
use Rattle.moka_history.specs.declared.note.Note.{Note}
use Rattle.moka_history.specs.States.{words_in}
use Rattle.moka_history.specs.Logs.{state_of}
use Rattle.moka_history.specs.Rules.{NamesSeal}
use Rattle.moka_shared.specs.declared.answers.Missed.{Missed}
use Rattle.moka_shared.specs.declared.answers.Missed.TheVariants as missed
use Rattle.moka_shared.specs.declared.answers.TryGet.{TryGet}
use Rattle.moka_shared.specs.declared.answers.TryGet.TheVariants as get
use Rattle.moka_shared.specs.Meeting.{Hides}
use Rattle.moka_shared.specs.Probing.{ReadsNode}
use Rattle.moka_shared.specs.Tables.{Table}

-- the test is true of the keys equal to q and of no others, and the hash is that of q
pub record Asks {F K : Type 0} (g : Mut F (Bor K × Unit {0}) Bool) (eq : K → K → Bool)
    (by : K → ℕ) (hash : ℕ) (f : F) (q : K) : Type 0 where
  pub computes : ComputesKey g (eq q) f
  pub hashed : hash ≡ by q

-- the answer is the value of the pair that the map has
abbrev pub Finds : {K V : Type 0} → Option (K × V) → TryGet V → Type 0
Finds pair (get.Found value) = value ≡ option_map (λ p. p.1) pair
Finds pair (get.Again missed) = Unit {0}

-- it is no reason to look again
abbrev pub IsFound : {V : Type 0} → TryGet V → Type 0
IsFound (get.Found value) = Unit {0}
IsFound (get.Again missed) = ⊥

-- the fact holds of what was found
abbrev pub IsSo : {V : Type 0} → (V → Type 0) → TryGet V → Type 0
IsSo holds (get.Found value) = IfSome value holds
IsSo holds (get.Again missed) = Unit {0}

-- the word stands there after this log, which names it as a seal
pub record IsSealedIn {K V S : Type 0} (word : Word) (array index : ℕ) (log : List (Note K V S))
    : Type 0 where
  pub there : word_at (words_in (state_of log) array) index ≡ word
  pub sealed : is_sealed word ≡ true
  pub named : NamesSeal array index word log

module _ {K V S : Type 0} (t : Table S) (hash : ℕ) (log : List (Note K V S)) (old new : Hiding)
  where
    -- The node was hidden from the look in this pass, as the last of all. A word that was read names
    -- it, and the history its pair.
    pub record IsNodeHidden (number : ℕ) : Type 0 where
      pub reads : ReadsNode t hash number log
      pub pair : K × V
      pub named : (state_of log).pairs number ≡ Some pair
      pub hides : Hides number old new

    -- why a look has to be made again
    abbrev pub IsCause : Missed → Type 0
    IsCause (missed.Sealed word array index) =
        IsSealedIn word array index log × (new ≡ old)
    IsCause (missed.NodeHidden number) = IsNodeHidden number
    IsCause (missed.ArrayHidden array) = ⊥
    IsCause (missed.Lost word) = ⊥
    IsCause (missed.Ticket ticket) = ⊥
    IsCause (missed.NoFree length) = ⊥
    IsCause missed.Spent = ⊥

    abbrev pub HasCause : {A : Type 0} → TryGet A → Type 0
    HasCause (get.Found value) = new ≡ old
    HasCause (get.Again missed) = IsCause missed
