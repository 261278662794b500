-- Steps of any number of calls, in any order.
use Rattle.std.specs.Prelude.{◌≡◌, ◌≢◌, ◌⊎◌, ℕ, Bool, List, [], ◌∷◌, Option, Some, None}
use Rattle.moka_words.specs.declared.words.Word.{Word}
use Rattle.moka_words.specs.declared.accesses.Choice.{Choice}
use Rattle.moka_words.specs.declared.accesses.Seen.{Seen}
use Rattle.moka_words.specs.declared.accesses.Seen.TheVariants as seen
use Rattle.moka_words.specs.Effect.{Memory, IsUnchanged, Effect}
use Rattle.moka_growth.specs.declared.kinds.CallKind.{CallKind}
use Rattle.moka_growth.specs.Sound.{IsSound}
use Rattle.moka_growth.specs.Calls.{Call, Ending, Step, Going, Decided, Choose, access_of, next_of, chosen, goes, call_from}
use Rattle.moka_growth.specs.Fits.{IsKey, Fits, Rests}
use Rattle.moka_growth.specs.Maps.{IsChoice, IsElsewhere}

-- what holds of a step: of the call that goes on, or of how it ended
abbrev pub Leads : Step → (Call → Type 0) → (Ending → Type 0) → Type 0
Leads (Going d) G E = G d
Leads (Decided e) G E = E e

-- a step after which the call rests, if it goes on
abbrev pub IsRested : Step → Type 0
IsRested (Going d) = Rests d.point
IsRested (Decided e) = Unit {0}

-- an access that leads to this step, and to no question
pub record Plainly (hash : ℕ → ℕ) (own : ℕ → Bool) (c : Call) (old : Memory) (step : Step)
    (new : Memory) : Type 0 where
  pub saw : Seen
  pub effect : Effect hash own (access_of c) saw old new
  pub leads : next_of c saw ≡ step
  pub rested : IsRested step

-- a load after which the call asks what is to be done, and the answer; a node to be stored has the
-- call's key
pub record Asking (hash : ℕ → ℕ) (own : ℕ → Bool) (c : Call) (old : Memory) (step : Step)
    (new : Memory) : Type 0 where
  pub saw : Seen
  pub mid : Memory
  pub effect : Effect hash own (access_of c) saw old mid
  pub array : ℕ
  pub size : ℕ
  pub passed : ℕ
  pub found : Word
  pub asks : next_of c saw ≡ goes c (Choose array size passed found)
  pub answer : Choice
  pub choice : IsChoice own (seen.Chosen answer)
  pub stays : IsUnchanged mid new
  pub leads : chosen c array size passed found answer ≡ step

-- one step of a call
abbrev pub Turn : (hash : ℕ → ℕ) (own : ℕ → Bool) → Call → (old : Memory) → Step → (new : Memory) →
    Type 0
Turn hash own c old step new = Plainly hash own c old step new ⊎ Asking hash own c old step new

-- the memory of a segment, and the calls under way there, by number; `keys` says which nodes have
-- each one's key
pub record Scene : Type 0 where
  pub memory : Memory
  pub calls : ℕ → Option Call
  pub keys : ℕ → ℕ → Bool

-- the segment is sound, and each call fits
pub record IsGood (hash : ℕ → ℕ) (same : ℕ → ℕ → Bool) (mine : ℕ → Bool) (s : Scene) : Type 0 where
  pub sound : IsSound hash same mine s.memory
  pub key : (n : ℕ) (c : Call) → s.calls n ≡ Some c → IsKey hash same mine (s.keys n) c.hash
  pub fits : (n : ℕ) (c : Call) → s.calls n ≡ Some c → Fits hash (s.keys n) s.memory c
  pub rests : (n : ℕ) (c : Call) → s.calls n ≡ Some c → Rests c.point

-- the calls and keys of all numbers but one are as they were
pub record KeepsOthers (n : ℕ) (old new : Scene) : Type 0 where
  pub calls : (k : ℕ) → k ≢ n → new.calls k ≡ old.calls k
  pub keys : (k : ℕ) → k ≢ n → new.keys k ≡ old.keys k

-- a call begins
pub record Begins (hash : ℕ → ℕ) (same : ℕ → ℕ → Bool) (mine : ℕ → Bool) (n : ℕ) (old new : Scene)
    : Type 0 where
  pub kind : CallKind
  pub h : ℕ
  pub memory : new.memory ≡ old.memory
  pub begun : new.calls n ≡ Some (call_from kind h)
  pub key : IsKey hash same mine (new.keys n) h
  pub others : KeepsOthers n old new

-- what becomes of a call's place
abbrev pub goes_to : Step → Option Call
goes_to (Going d) = Some d
goes_to (Decided e) = None

-- a call makes a step
pub record Moves (hash : ℕ → ℕ) (n : ℕ) (old new : Scene) : Type 0 where
  pub call : Call
  pub there : old.calls n ≡ Some call
  pub step : Step
  pub turn : Turn hash (old.keys n) call old.memory step new.memory
  pub gone : new.calls n ≡ goes_to step
  pub same_key : new.keys n ≡ old.keys n
  pub others : KeepsOthers n old new

-- a call makes a step in another segment
pub record Aside (old new : Scene) : Type 0 where
  pub elsewhere : IsElsewhere old.memory new.memory
  pub calls : (k : ℕ) → new.calls k ≡ old.calls k
  pub keys : (k : ℕ) → new.keys k ≡ old.keys k

-- one thing happens
pub data Happens (hash : ℕ → ℕ) (same : ℕ → ℕ → Bool) (mine : ℕ → Bool) (old new : Scene)
    : Type 0 where
  Begun : (n : ℕ) → Begins hash same mine n old new → Happens hash same mine old new
  Moved : (n : ℕ) → Moves hash n old new → Happens hash same mine old new
  Passed : Aside old new → Happens hash same mine old new

-- one after the other, in any order
abbrev pub Happen : (hash : ℕ → ℕ) (same : ℕ → ℕ → Bool) (mine : ℕ → Bool) → Scene → List Scene →
    Type 0
Happen hash same mine old [] = Unit {0}
Happen hash same mine old (new ∷ more) =
    Happens hash same mine old new × Happen hash same mine new more

abbrev pub AreGood : (hash : ℕ → ℕ) (same : ℕ → ℕ → Bool) (mine : ℕ → Bool) → List Scene → Type 0
AreGood hash same mine [] = Unit {0}
AreGood hash same mine (s ∷ more) = IsGood hash same mine s × AreGood hash same mine more
