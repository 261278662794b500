-- The accesses of a pass: those that a call of `moka_growth` wants, in order.
use Rattle.std.specs.Prelude.{◌≡◌, ◌≢◌, ◌⊎◌, ℕ, zero, suc, Bool, true, false, List, [], ◌∷◌, Option, Some, None}
use Rattle.std.specs.Option.{option_map}
use mathlib.Core.List.{IsPrefix}
use Rattle.moka_words.specs.declared.words.Word.{Word}
use Rattle.moka_words.specs.declared.words.Word.TheVariants.{Live, Tomb}
use Rattle.moka_words.specs.declared.accesses.Seen.{Seen}
use Rattle.moka_words.specs.Words.{stored_in, word_at}
use Rattle.moka_words.specs.Arrays.{bucket_at}
use Rattle.moka_words.specs.Effect.{Memory, SetsWord}
use Rattle.moka_growth.specs.declared.kinds.CallKind.{CallKind}
use Rattle.moka_growth.specs.declared.kinds.CallKind.TheVariants as kind
use Rattle.moka_growth.specs.Calls.{Call, Kept, Changed, Step, Going, Decided, Probe, access_of, next_of, call_from, missed, past, past_all, probed}
use Rattle.moka_pairs.specs.Pairs.{pair_at}
use Rattle.moka_pairs.specs.Segments.{EffectAll}
use Rattle.moka_history.specs.declared.note.Note.{Note}
use Rattle.moka_history.specs.States.{memory_of, words_in}
use Rattle.moka_history.specs.Logs.{state_of}
use Rattle.moka_shared.specs.declared.answers.Missed.{Missed}
use Rattle.moka_shared.specs.declared.answers.Missed.TheVariants as again
use Rattle.moka_shared.specs.declared.answers.Put.{Put}
use Rattle.moka_shared.specs.declared.answers.Put.TheVariants as put
use Rattle.moka_shared.specs.declared.answers.TryChange.{TryChange}
use Rattle.moka_shared.specs.declared.answers.TryChange.TheVariants as change
use Rattle.moka_shared.specs.declared.answers.TryInsert.{TryInsert}
use Rattle.moka_shared.specs.declared.answers.TryInsert.TheVariants as insert
use Rattle.moka_shared.specs.declared.answers.TryGet.{TryGet}
use Rattle.moka_shared.specs.declared.answers.TryGet.TheVariants as get
use Rattle.moka_shared.specs.declared.probe.Ended.{Ended}
use Rattle.moka_shared.specs.declared.probe.Ended.TheVariants as ended
use Rattle.moka_shared.specs.Hashing.{segment_of}
use Rattle.moka_shared.specs.Probing.{own_keys}
use Rattle.moka_shared.specs.Tables.{Table}

-- an access: the history at which it was made, what it saw, and the history that it left
pub record Accessed (K V S : Type 0) : Type 0 where
  pub found : List (Note K V S)
  pub saw : Seen
  pub left : List (Note K V S)

-- a call of one key
abbrev pub HasKey : CallKind → Type 0
HasKey kind.Get = Unit {0}
HasKey kind.Insert = Unit {0}
HasKey kind.Remove = Unit {0}
HasKey kind.Keys = ⊥

module _ {K V S : Type 0} (eq : K → K → Bool) (hash : S → K → ℕ) (place : S → ℕ → K → ℕ)
    (t : Table S) (key : K) where
  -- the memory of the key's segment
  abbrev pub own_memory : List (Note K V S) → Memory
  own_memory log = memory_of (state_of log) (place t.hasher t.segments key)

  -- the access that the call wants saw this and left this memory, whatever keys are still to come
  pub record IsAnswered (c : Call) (a : Accessed K V S) : Type 0 where
    pub goes_on : IsPrefix a.found a.left
    pub effect : EffectAll eq (hash t.hasher) (own_keys place t key a.found) (Some key)
        (access_of c) a.saw (own_memory a.found) (own_memory a.left)

  -- A call of this kind began at the old log, made these accesses, the last one first, each at a log
  -- that goes on from the one before left, and has come to the step by the new log.
  abbrev pub Course : CallKind → (h : ℕ) → (old : List (Note K V S)) →
      List (Accessed K V S) → Step → (new : List (Note K V S)) → Type 0
  Course k h old [] step new = IsPrefix old new × (step ≡ Going (call_from k h))
  Course k h old (a ∷ before) step new =
      (c : Call) × Course k h old before (Going c) a.found × IsAnswered c a
      × (step ≡ next_of c a.saw) × IsPrefix a.left new

  -- a call came so to such a step
  pub record HasCome (k : CallKind) (h : ℕ) (old new : List (Note K V S)) (such : Step → Type 0)
      : Type 0 where
    pub accesses : List (Accessed K V S)
    pub step : Step
    pub course : Course k h old accesses step new
    pub is : such step

-- a call that has passed so many buckets of the array of this segment
abbrev pub probing : (size segment : ℕ) → CallKind → (h passed : ℕ) → Call
probing size segment k h passed =
    record { kind = k; hash = h; spent = false; point = Probe (suc segment) size passed }

-- where a call stands that has passed so many buckets: past the last one it looks no further
abbrev pub stands : (size segment : ℕ) → CallKind → (h passed : ℕ) → Step
stands size segment k h zero = Going (probing size segment k h 0)
stands size segment k h (suc passed) =
    past (probing size segment k h passed) (suc segment) size passed

-- to which step a call comes whose probe ended so
abbrev pub EndsSo : {N : Type 0} → (size segment : ℕ) → CallKind → (h : ℕ) → Ended N → Step →
    Type 0
EndsSo size segment k h (ended.At passed word shown) step =
    step ≡ probed (probing size segment k h passed) (suc segment) size passed word true
EndsSo size segment k h ended.Full step =
    (passed : ℕ) × (step ≡ past_all k (probing size segment k h passed) (suc segment) size)
EndsSo size segment k h (ended.Hidden number) step = Unit {0}
EndsSo size segment k h (ended.Sealed passed word) step = Unit {0}

-- A call ended with the node whose value is answered, or with none. A pass that has to be made again
-- breaks its call off.
abbrev pub FoundSo : {K V : Type 0} → (pairs : ℕ → Option (K × V)) → TryGet V → Step → Type 0
FoundSo pairs (get.Found value) step = (found : Option ℕ) × (step ≡ Decided (Kept found))
    × (value ≡ option_map (λ p. p.1) (pair_at pairs found))
FoundSo pairs (get.Again m) step = Unit {0}

-- A call whose exchange met another word goes on from that one. All other passes break it off.
abbrev pub MissedSo : (size segment : ℕ) → Missed → Step → Type 0
MissedSo size segment (again.Lost met) step =
    (c : Call) × (passed : ℕ) × (step ≡ missed c (suc segment) size passed met)
MissedSo size segment (again.Sealed word array index) step = Unit {0}
MissedSo size segment (again.NodeHidden number) step = Unit {0}
MissedSo size segment (again.ArrayHidden array) step = Unit {0}
MissedSo size segment (again.Ticket ticket) step = Unit {0}
MissedSo size segment (again.NoFree count) step = Unit {0}
MissedSo size segment again.Spent step = Unit {0}

-- a call that stores a node where the key is absent
abbrev pub StoredSo : {V : Type 0} → (size segment : ℕ) → Put V → Step → Type 0
StoredSo size segment put.Done step = step ≡ Decided (Changed None)
StoredSo size segment (put.There value) step = (n : ℕ) × (step ≡ Decided (Kept (Some n)))
StoredSo size segment (put.Missed m) step = MissedSo size segment m step
StoredSo size segment put.Memory step = Unit {0}

abbrev pub InsertedSo : {K V : Type 0} → (size segment : ℕ) → TryInsert K V → Step → Type 0
InsertedSo size segment insert.Inserted step = step ≡ Decided (Changed None)
InsertedSo size segment (insert.Present found key value) step =
    (n : ℕ) × (step ≡ Decided (Kept (Some n)))
InsertedSo size segment (insert.Again m key value) step = MissedSo size segment m step
InsertedSo size segment (insert.Memory key value) step = Unit {0}

-- a call that changes or removes the node that stands under its key
abbrev pub ChangedSo : {V : Type 0} → (size segment : ℕ) → TryChange V → Step → Type 0
ChangedSo size segment (change.Changed former) step =
    (n : ℕ) × (step ≡ Decided (Changed (Some n)))
ChangedSo size segment change.Absent step = step ≡ Decided (Kept None)
ChangedSo size segment (change.Again m) step = MissedSo size segment m step
ChangedSo size segment change.Memory step = Unit {0}

-- what a choice puts in place of a word: a node, or the tombstone of the one that is stored there
abbrev pub IsChosen : (from to : Word) → Type 0
IsChosen from to = ((n : ℕ) × (to ≡ Live n)) ⊎ ((n : ℕ) × (stored_in from ≡ Some n) × (to ≡ Tomb n))

module _ {K V S : Type 0} (segment index : ℕ) (from : Word) where
  -- at a history between, the word of the bucket was exchanged
  pub record Exchanged (to : Word) (old new : List (Note K V S)) : Type 0 where
    pub found : List (Note K V S)
    pub begins : IsPrefix old found
    pub goes_on : IsPrefix found new
    pub there : word_at (words_in (state_of found) (suc segment)) index ≡ from
    pub sets : SetsWord (suc segment) index to (memory_of (state_of found) segment)
        (memory_of (state_of new) segment)

  -- it is another one
  pub record IsOther (met : Word) (log : List (Note K V S)) : Type 0 where
    pub there : word_at (words_in (state_of log) (suc segment)) index ≡ met
    pub other : met ≢ from

module _ {K V S : Type 0} (t : Table S) (hash passed : ℕ) (from : Word) (old new : List (Note K V S))
  where
    -- the exchange of the bucket where a probe ended, for a word that was chosen
    abbrev pub Exchanges : Type 0
    Exchanges = (to : Word) × IsChosen from to × Exchanged (segment_of t.segments hash)
        (bucket_at t.size hash passed) from to old new

    abbrev pub MissesBy : Missed → Type 0
    MissesBy (again.Lost met) = (to : Word) × IsChosen from to
        × IsOther (segment_of t.segments hash) (bucket_at t.size hash passed) from met new
    MissesBy (again.Sealed word array index) = Unit {0}
    MissesBy (again.NodeHidden number) = Unit {0}
    MissesBy (again.ArrayHidden array) = Unit {0}
    MissesBy (again.Ticket ticket) = Unit {0}
    MissesBy (again.NoFree count) = Unit {0}
    MissesBy again.Spent = Unit {0}

    abbrev pub PutsBy : {W : Type 0} → Put W → Type 0
    PutsBy put.Done = Exchanges
    PutsBy (put.There value) = Unit {0}
    PutsBy (put.Missed m) = MissesBy m
    PutsBy put.Memory = Unit {0}

    -- how a put went where the word stores nothing, or has the node that is present
    abbrev pub StoresBy : {W : Type 0} → Put W → Type 0
    StoresBy put.Done = Exchanges × (stored_in from ≡ None)
    StoresBy (put.There value) = (n : ℕ) × (stored_in from ≡ Some n)
    StoresBy (put.Missed m) = MissesBy m × (stored_in from ≡ None)
    StoresBy put.Memory = Unit {0}

    -- how a change went
    abbrev pub ChangesBy : {W : Type 0} → TryChange W → Type 0
    ChangesBy (change.Changed former) = Exchanges × ((n : ℕ) × (stored_in from ≡ Some n))
    ChangesBy change.Absent = stored_in from ≡ None
    ChangesBy (change.Again m) = MissesBy m × ((n : ℕ) × (stored_in from ≡ Some n))
    ChangesBy change.Memory = Unit {0}
