-- What a call that changes the table does, and why it has to be made again.
use Rattle.std.specs.Prelude.{◌≡◌, ◌≢◌, ◌⊎◌, ℕ, suc, ◌^◌, ◌<◌, ◌≤◌, Bool, true, List, [], ◌∷◌, ◌++◌, length, Option, Some, None}
use Rattle.std.specs.List.{slice_get}
use Rattle.std.specs.Option.{option_map}
use mathlib.Core.List.{IsPrefix}
use Rattle.logbook.specs.Pages.{Nib}
use Rattle.moka_words.specs.declared.words.Word.{Word}
use Rattle.moka_words.specs.Words.{node_of, word_at}
use Rattle.moka_words.specs.Arrays.{bucket_at}
use Rattle.moka_growth.specs.Fits.{IsChange}
use Rattle.moka_pairs.specs.Keys.{Agrees, own_for}
use Rattle.moka_pairs.specs.Pairs.{pair_at}
use Rattle.moka_history.specs.declared.note.Note.{Note}
use Rattle.moka_history.specs.Entries.{Entry, map_after}
use Rattle.moka_history.specs.States.{words_in}
use Rattle.moka_history.specs.Logs.{entries_of, entry_with, state_of}
use Rattle.moka_history.specs.Rules.{made_on}
use Rattle.moka_history.specs.Keeping.{ArePut, IsSmall}
use Rattle.moka_shared.specs.declared.answers.Missed.{Missed}
use Rattle.moka_shared.specs.declared.answers.Missed.TheVariants as missed
use Rattle.moka_shared.specs.declared.answers.Put.{Put}
use Rattle.moka_shared.specs.declared.answers.Put.TheVariants as put
use Rattle.moka_shared.specs.declared.seat.Seat.{Seat}
use Rattle.moka_shared.specs.declared.standing.Standing.{Standing}
use Rattle.moka_shared.specs.declared.standing.Standing.TheVariants as standing
use Rattle.moka_shelf.specs.Looks.{Hiding}
use Rattle.moka_shared.specs.Hashing.{segment_of}
use Rattle.moka_shared.specs.Looks.{IsNodeHidden, IsSealedIn}
use Rattle.moka_shared.specs.Probing.{EndsAt, IsLogOf, own_keys}
use Rattle.moka_shared.specs.Steps.{Pens}
use Rattle.moka_shared.specs.Tables.{Table}

-- each of these tickets has one entry
abbrev pub AreMade : {K V : Type 0} → List ℕ → List (Entry K V) → Type 0
AreMade [] es = Unit {0}
AreMade (n ∷ ns) es = (made_on n es ≡ 1) × AreMade ns es

-- the entry of a pair that is put in place of what stood there
abbrev pub entry_put : {K V : Type 0} → (ticket : ℕ) → K → V → (former : Option (K × V)) →
    Entry K V
entry_put ticket key value former =
    record { ticket = ticket; key = key; put = Some value; former = former }

-- the entry of a pair's removal
abbrev pub entry_taken : {K V : Type 0} → (ticket : ℕ) → K × V → Entry K V
entry_taken ticket pair =
    record { ticket = ticket; key = pair.0; put = None; former = Some pair }

-- the entry of what is put in place of this pair; None is its removal
abbrev pub entry_for : {K V : Type 0} → (ticket : ℕ) → K → Option V → K × V → Entry K V
entry_for ticket key (Some value) pair = entry_put ticket key value (Some pair)
entry_for ticket key None pair = entry_taken ticket pair

-- Past what had been seen the history has entries of others, and then this one last. No other entry
-- is of its ticket.
pub record Adds {K V S : Type 0} (e : Entry K V) (old new : List (Note K V S)) : Type 0 where
  pub between : List (Entry K V)
  pub entries : entries_of new ≡ (entries_of old ++ between) ++ e ∷ []
  pub once : made_on e.ticket (entries_of new) ≡ 1

-- the ticket was drawn after what had been seen, and the history names this under it
pub record IsDrawnFor {K V S : Type 0} (pair : Option (K × V)) (ticket : ℕ) (pen : Nib)
    (old new : List (Note K V S)) : Type 0 where
  pub late : (state_of old).last < ticket
  pub pens : Pens ticket pen new
  pub named : (state_of new).pairs ticket ≡ pair

-- why no ticket was drawn
abbrev pub IsUndrawn : {K V S : Type 0} → (old new : List (Note K V S)) → Missed → Type 0
IsUndrawn old new (missed.Ticket ticket) =
    ((state_of old).last < ticket) × ((state_of new).last ≡ ticket)
IsUndrawn old new missed.Spent = (state_of new).last ≡ 2 ^ 60
IsUndrawn old new (missed.Sealed word array index) = ⊥
IsUndrawn old new (missed.NodeHidden number) = ⊥
IsUndrawn old new (missed.ArrayHidden array) = ⊥
IsUndrawn old new (missed.Lost word) = ⊥
IsUndrawn old new (missed.NoFree count) = ⊥

-- another word was met there: an entry of another ticket came after the front
pub record IsMet {K V S : Type 0} (t : Table S) (hash passed ticket : ℕ)
    (front : List (Note K V S)) (word : Word) (new : List (Note K V S)) : Type 0 where
  pub entry : Entry K V
  pub there : slice_get (entries_of new) (length (entries_of front)) ≡ Some entry
  pub other : entry.ticket ≢ ticket
  pub met : word_at (words_in (state_of new) (suc (segment_of t.segments hash)))
      (bucket_at t.size hash passed) ≡ word

-- After this front of the log a probe for the key ended at a word. An exchange of it on the ticket is
-- a change of the key, and has this entry, whatever numbers are still to come.
pub record CanChange {K V S : Type 0} (eq : K → K → Bool) (hash : S → K → ℕ)
    (place : S → ℕ → K → ℕ) (t : Table S) (h passed : ℕ) (from to : Word) (ticket : ℕ) (key : K)
    (e : Entry K V) (front log : List (Note K V S)) : Type 0 where
  pub hashed : h ≡ hash t.hasher key
  pub was : IsLogOf eq hash place t front
  pub begins : IsPrefix front log
  pub ends : EndsAt eq place t key h front passed from
  pub small : IsSmall from × IsSmall to
  pub changes : (keys : ℕ → Option K) → Agrees keys (own_keys place t key log) →
      IsChange (own_for eq keys (Some key)) from to
  pub is : (pairs : ℕ → Option (K × V)) → Agrees pairs (state_of log).pairs →
      option_map (λ p. entry_with pairs ticket from to p.0) (pair_at pairs (node_of to)) ≡ Some e

-- what an exchange met instead
abbrev pub IsMetBy : {K V S : Type 0} → (t : Table S) → (hash passed ticket : ℕ) →
    (front new : List (Note K V S)) → Missed → Type 0
IsMetBy t hash passed ticket front new (missed.Lost word) =
    IsMet t hash passed ticket front word new
IsMetBy t hash passed ticket front new (missed.Sealed word array index) =
    IsSealedIn word array index new
IsMetBy t hash passed ticket front new (missed.NodeHidden number) = ⊥
IsMetBy t hash passed ticket front new (missed.ArrayHidden array) = ⊥
IsMetBy t hash passed ticket front new (missed.Ticket n) = ⊥
IsMetBy t hash passed ticket front new (missed.NoFree count) = ⊥
IsMetBy t hash passed ticket front new missed.Spent = ⊥

-- what became of a change on a ticket that was drawn
abbrev pub PutsOn : {K V S H D : Type 0} → (t : Table S) → (hash passed ticket : ℕ) → Entry K V →
    (front : List (Note K V S)) → (old new : Seat K V S H D) → Put V → Type 0
PutsOn t hash passed ticket e front old new put.Done =
    Adds e old.front.log new.front.log × (new.mine.numbers ≡ ticket ∷ old.mine.numbers)
PutsOn t hash passed ticket e front old new (put.There found) = ⊥
PutsOn t hash passed ticket e front old new (put.Missed missed) =
    (new.mine ≡ old.mine) × (made_on ticket (entries_of new.front.log) ≡ 0)
    × IsMetBy t hash passed ticket front new.front.log missed
PutsOn t hash passed ticket e front old new put.Memory =
    (new.mine ≡ old.mine) × (made_on ticket (entries_of new.front.log) ≡ 0)

module _ {K V S H D : Type 0} (old new : Seat K V S H D) where
  -- no ticket was drawn
  abbrev pub Stays : Type 0
  Stays = (new.mine ≡ old.mine) × (new.drawn ≡ old.drawn)

  -- a ticket was drawn in this call, and has no entry
  pub record IsVain : Type 0 where
    pub ticket : ℕ
    pub late : (state_of old.front.log).last < ticket
    pub drawn : new.drawn.numbers ≡ ticket ∷ old.drawn.numbers
    pub none : made_on ticket (entries_of new.front.log) ≡ 0

  -- This call made no entry: it drew no ticket, or one that has none.
  pub record MakesNone : Type 0 where
    pub mine : new.mine ≡ old.mine
    pub none : (new.drawn ≡ old.drawn) ⊎ IsVain

  -- The entry was made under a ticket that was drawn in this call, and is the caller's. `e` is the
  -- entry by its ticket.
  pub record Makes (e : ℕ → Entry K V) : Type 0 where
    pub ticket : ℕ
    pub late : (state_of old.front.log).last < ticket
    pub adds : Adds (e ticket) old.front.log new.front.log
    pub drawn : new.drawn.numbers ≡ ticket ∷ old.drawn.numbers
    pub mine : new.mine.numbers ≡ ticket ∷ old.mine.numbers

-- `looked` is how many items were hidden from a look, and the last of them
module _ {K V S H D : Type 0} (eq : K → K → Bool) (place : S → ℕ → K → ℕ) (looked : H → Hiding)
    (t : Table S) (hash : ℕ) (old new : Seat K V S H D) where
  -- the exchange met this word: past what had been seen the history has an entry of another ticket
  -- than that of this call, which was drawn in it
  pub record IsLost (word : Word) : Type 0 where
    pub ticket : ℕ
    pub late : (state_of old.front.log).last < ticket
    pub drawn : new.drawn.numbers ≡ ticket ∷ old.drawn.numbers
    pub passed : ℕ
    pub front : List (Note K V S)
    pub past : length (entries_of old.front.log) ≤ length (entries_of front)
    pub met : IsMet t hash passed ticket front word new.front.log

  -- why a change has to be made again
  abbrev pub IsReason : Missed → Type 0
  IsReason (missed.Sealed word array index) =
      IsSealedIn word array index new.front.log × (looked new.hidden ≡ looked old.hidden)
  IsReason (missed.NodeHidden number) =
      IsNodeHidden t hash new.front.log (looked old.hidden) (looked new.hidden) number
  IsReason (missed.ArrayHidden array) = ⊥
  IsReason (missed.Lost word) = IsLost word
  IsReason (missed.Ticket ticket) =
      IsUndrawn old.front.log new.front.log (missed.Ticket ticket)
  IsReason (missed.NoFree count) = (count ≡ t.size)
      × ArePut eq (place t.hasher t.segments) (entries_of new.front.log)
      (segment_of t.segments hash) count
  IsReason missed.Spent = IsUndrawn old.front.log new.front.log missed.Spent

  -- What became of what was to be put: `done` holds where it was, and `there` of a value that stands
  -- there.
  abbrev pub Puts : (done : Type 0) → (there : V → Type 0) → Put V → Type 0
  Puts done there put.Done = done
  Puts done there (put.There found) = Stays old new × there found
  Puts done there (put.Missed missed) = MakesNone old new × IsReason missed
  Puts done there put.Memory = MakesNone old new

-- this value stands under the key: the node of the number is of an equal key, and has it
pub record IsHere {K V S : Type 0} (eq : K → K → Bool) (key : K) (number : ℕ)
    (log : List (Note K V S)) (value : V) : Type 0 where
  pub pair : K × V
  pub named : (state_of log).pairs number ≡ Some pair
  pub map_is : map_after eq (entries_of log) key ≡ Some pair
  pub same : eq key pair.0 ≡ true
  pub value_is : value ≡ pair.1

-- what is known of the value of a node under which the key stands
abbrev pub Stands : {K V S : Type 0} → (K → K → Bool) → K → (number : ℕ) →
    (log : List (Note K V S)) → Standing V → Type 0
Stands eq key number log (standing.Here value) = IsHere eq key number log value
Stands eq key number log standing.Memory = Unit {0}

-- it is a copy, or memory was wanting
abbrev pub IsCopy : {V : Type 0} → V → Standing V → Type 0
IsCopy value (standing.Here copy) = copy ≡ value
IsCopy value standing.Memory = Unit {0}

-- the fact holds of it
abbrev pub HereSo : {V : Type 0} → (V → Type 0) → Standing V → Type 0
HereSo holds (standing.Here value) = holds value
HereSo holds standing.Memory = Unit {0}
