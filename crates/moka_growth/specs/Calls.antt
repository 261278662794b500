-- The course of a call: which access it wants, and how it goes on from what that saw.
use Rattle.std.specs.Prelude.{ℕ, suc, ◌^◌, min, Bool, true, false, nat_lt, nat_eq, List, [], ◌++◌, length, Option, Some, None, if◌then◌else◌}
use Rattle.std.specs.Option.{option_eq, option_map, option_to_list}
use Rattle.moka_words.specs.declared.words.Word.{Word}
use Rattle.moka_words.specs.declared.words.Word.TheVariants.{Unset, Empty, Live, Tomb, SealedEmpty, SealedLive, SealedTomb}
use Rattle.moka_words.specs.declared.accesses.Access.{Access}
use Rattle.moka_words.specs.declared.accesses.Access.TheVariants as access
use Rattle.moka_words.specs.declared.accesses.Choice.{Choice}
use Rattle.moka_words.specs.declared.accesses.Choice.TheVariants as choice
use Rattle.moka_words.specs.declared.accesses.Seen.{Seen}
use Rattle.moka_words.specs.declared.accesses.Seen.TheVariants as seen
use Rattle.moka_words.specs.declared.rehash.RehashOp.{RehashOp}
use Rattle.moka_words.specs.declared.rehash.RehashOp.TheVariants as rehash
use Rattle.moka_words.specs.Words.{stored_in, is_sealed, word_at}
use Rattle.moka_words.specs.Arrays.{bucket_at}
use Rattle.moka_words.specs.Rehash.{rehash_op}
use Rattle.moka_growth.specs.declared.kinds.CallKind.{CallKind}
use Rattle.moka_growth.specs.declared.kinds.CallKind.TheVariants as kind
use Rattle.moka_growth.specs.Growing.{seal_of, next_size, laid_out}

-- Where a call stands. `met` is the array in which it just met a sealed word; `passed` counts the
-- buckets that its probe has passed; `kept` are the nodes found in sealed words so far, with their
-- hashes.
pub data Point : Type 0 where
  Root : (met : Option ℕ) → Point
  Probe : (array size passed : ℕ) → Point
  -- asks what is to be done, having found this word
  Choose : (array size passed : ℕ) (found : Word) → Point
  Change : (array size passed : ℕ) (from to : Word) → Point
  -- lists the nodes of the segment
  Walk : (array size index : ℕ) (nodes : List ℕ) → Point
  -- looks whether a word is sealed, and seals the word that it found
  Seal : (array size index : ℕ) (kept : List (ℕ × ℕ)) → Point
  Close : (array size index : ℕ) (word : Word) (hash : ℕ) (kept : List (ℕ × ℕ)) → Point
  Next : (array : Option ℕ) (size : ℕ) (kept : List (ℕ × ℕ)) → Point
  Link : (array : Option ℕ) (size : ℕ) (kept : List (ℕ × ℕ)) → Point
  -- copies the words laid out into the array after this one
  Copy : (from : Option ℕ) (array index : ℕ) (laid : List Word) → Point
  Swing : (from : Option ℕ) (array : ℕ) → Point

-- a call; `spent` says whether it has grown its array by the hint
pub record Call : Type 0 where
  pub kind : CallKind
  pub hash : ℕ
  pub spent : Bool
  pub point : Point

-- how a call ends: by what it found under its key, as it found it or changed by its own exchange,
-- or with the nodes of the segment
pub data Ending : Type 0 where
  Kept : (present : Option ℕ) → Ending
  Changed : (present : Option ℕ) → Ending
  Nodes : (nodes : List ℕ) → Ending

-- what a step leaves: a call that goes on, or how it ended
pub data Step : Type 0 where
  Going : (call : Call) → Step
  Decided : (ending : Ending) → Step

-- the access that a call wants at a point, and what it wants
abbrev pub wanted : (hash : ℕ) → Point → Access
wanted hash (Root met) = access.LoadRoot
wanted hash (Probe array size passed) = access.LoadWord array (bucket_at size hash passed)
wanted hash (Choose array size passed found) = access.Choose (stored_in found)
wanted hash (Change array size passed from to) =
    access.Exchange array (bucket_at size hash passed) from to
wanted hash (Walk array size index nodes) = access.LoadWord array index
wanted hash (Seal array size index kept) = access.LoadWord array index
wanted hash (Close array size index word own kept) = access.Exchange array index word (seal_of word)
wanted hash (Next array size kept) = access.LoadNext array
wanted hash (Link array size kept) = access.Link array (next_size array size (length kept))
wanted hash (Copy from array index laid) = access.Copy array index (word_at laid index)
wanted hash (Swing from array) = access.Swing from array

abbrev pub access_of : Call → Access
access_of c = wanted c.hash c.point

abbrev pub goes : Call → Point → Step
goes c p = Going (record c { point = p })

-- a count as the hint takes it
abbrev pub counted : ℕ → ℕ
counted n = min n (2 ^ 60)

abbrev pub is_due_by : RehashOp → Bool
is_due_by rehash.Expand = true
is_due_by rehash.Shrink = true
is_due_by rehash.GcOnly = true
is_due_by rehash.Skip = false

-- the call is to grow the root by the hint: an update does so once
abbrev pub is_due : CallKind → (spent : Bool) → (size tombstones len : ℕ) → Bool
is_due kind.Get spent size tombstones len = false
is_due kind.Keys spent size tombstones len = false
is_due kind.Insert spent size tombstones len =
    if spent then false else is_due_by (rehash_op (counted size) (counted tombstones) (counted len))
is_due kind.Remove spent size tombstones len =
    if spent then false else is_due_by (rehash_op (counted size) (counted tombstones) (counted len))

-- where a call begins in the root
abbrev pub start_of : CallKind → (array size : ℕ) → Point
start_of kind.Get array size = Probe array size 0
start_of kind.Insert array size = Probe array size 0
start_of kind.Remove array size = Probe array size 0
start_of kind.Keys array size = Walk array size 0 []

-- without a root an insert links the first array; the others find nothing
abbrev pub without_root : CallKind → Call → Step
without_root kind.Get c = Decided (Kept None)
without_root kind.Insert c = goes c (Next None 0 [])
without_root kind.Remove c = Decided (Kept None)
without_root kind.Keys c = Decided (Nodes [])

-- a call that just met a sealed word of the root helps to grow it
abbrev pub in_root : Call → (met : Option ℕ) → (array size tombstones len : ℕ) → Step
in_root c met array size tombstones len =
    if option_eq nat_eq met (Some array) then goes c (Seal array size 0 [])
    else (if is_due c.kind c.spent size tombstones len then Going
    (record c { spent = true; point = Seal array size 0 [] })
    else goes c (start_of c.kind array size))

-- no bucket is left: an insert grows the array
abbrev pub past_all : CallKind → Call → (array size : ℕ) → Step
past_all kind.Get c array size = Decided (Kept None)
past_all kind.Insert c array size = goes c (Seal array size 0 [])
past_all kind.Remove c array size = Decided (Kept None)
past_all kind.Keys c array size = Decided (Kept None)

-- the bucket has another key
abbrev pub past : Call → (array size passed : ℕ) → Step
past c array size passed =
    if nat_lt (suc passed) size then goes c
    (Probe array size (suc passed)) else past_all c.kind c array size

-- the key is absent; an insert chooses
abbrev pub absent : CallKind → Call → (array size passed : ℕ) → (found : Word) → Step
absent kind.Get c array size passed found = Decided (Kept None)
absent kind.Insert c array size passed found = goes c (Choose array size passed found)
absent kind.Remove c array size passed found = Decided (Kept None)
absent kind.Keys c array size passed found = Decided (Kept None)

-- the key is present; an update chooses
abbrev pub present : CallKind → Call → (array size passed node : ℕ) → Step
present kind.Get c array size passed node = Decided (Kept (Some node))
present kind.Insert c array size passed node = goes c (Choose array size passed (Live node))
present kind.Remove c array size passed node = goes c (Choose array size passed (Live node))
present kind.Keys c array size passed node = Decided (Kept (Some node))

-- the word of a probe's bucket; `same` says whether its key is the call's
abbrev pub probed : Call → (array size passed : ℕ) → Word → (same : Bool) → Step
probed c array size passed Unset same = past c array size passed
probed c array size passed Empty same = absent c.kind c array size passed Empty
probed c array size passed (Live n) same =
    if same then present c.kind c array size passed n else past c array size passed
probed c array size passed (Tomb n) same =
    if same then absent c.kind c array size passed (Tomb n) else past c array size passed
probed c array size passed SealedEmpty same = goes c (Root (Some array))
probed c array size passed (SealedLive n) same = goes c (Root (Some array))
probed c array size passed (SealedTomb n) same = goes c (Root (Some array))

-- a live node is removed by a tombstone in its place
abbrev pub removed : Call → (array size passed : ℕ) → (found : Word) → Step
removed c array size passed Unset = Decided (Kept None)
removed c array size passed Empty = Decided (Kept None)
removed c array size passed (Live n) = goes c (Change array size passed (Live n) (Tomb n))
removed c array size passed (Tomb n) = Decided (Kept None)
removed c array size passed SealedEmpty = Decided (Kept None)
removed c array size passed (SealedLive n) = Decided (Kept None)
removed c array size passed (SealedTomb n) = Decided (Kept None)

abbrev pub chosen : Call → (array size passed : ℕ) → (found : Word) → Choice → Step
chosen c array size passed found choice.Keep = Decided (Kept (stored_in found))
chosen c array size passed found (choice.Put node) =
    goes c (Change array size passed found (Live node))
chosen c array size passed found choice.Remove = removed c array size passed found

-- a change that met another word
abbrev pub missed : Call → (array size passed : ℕ) → (met : Word) → Step
missed c array size passed met =
    if is_sealed met then goes c (Root (Some array)) else goes c (Probe array size passed)

abbrev pub walked : Call → (array size index : ℕ) → (nodes : List ℕ) → Step
walked c array size index nodes =
    if nat_lt (suc index) size then goes c (Walk array size (suc index) nodes) else Decided
    (Nodes nodes)

-- a sealed word: its node is kept
abbrev pub sealed : Call → (array size index : ℕ) → Word → (hash : ℕ) → (kept : List (ℕ × ℕ)) → Step
sealed c array size index word hash kept =
    let more : List (ℕ × ℕ) =
    kept ++ option_to_list (option_map (λ n. (n, hash)) (stored_in word)) in
    if nat_lt (suc index) size then goes c (Seal array size (suc index) more) else goes c
    (Next (Some array) size more)

-- the array to copy into, and how long it is
abbrev pub copies : Call → (from : Option ℕ) → (array size : ℕ) → (kept : List (ℕ × ℕ)) → Step
copies c from array size kept =
    if nat_lt 0 size then goes c (Copy from array 0 (laid_out kept size)) else goes c
    (Swing from array)

-- how the call goes on at a point, from what its access saw
abbrev pub next_at : Call → Point → Seen → Step
next_at c (Root met) (seen.Root None size tombstones len) = without_root c.kind c
next_at c (Root met) (seen.Root (Some array) size tombstones len) =
    in_root c met array size tombstones len
next_at c (Probe array size passed) (seen.Word word hash same) =
    probed c array size passed word same
next_at c (Choose array size passed found) (seen.Chosen choice) =
    chosen c array size passed found choice
next_at c (Change array size passed from to) (seen.Exchanged None) =
    Decided (Changed (stored_in from))
next_at c (Change array size passed from to) (seen.Exchanged (Some met)) =
    missed c array size passed met
next_at c (Walk array size index nodes) (seen.Word word hash same) =
    if is_sealed word then goes c (Root (Some array)) else walked c array size index
    (nodes ++ option_to_list (stored_in word))
next_at c (Seal array size index kept) (seen.Word word hash same) =
    if is_sealed word then sealed c array size index word hash kept else goes c
    (Close array size index word hash kept)
next_at c (Close array size index word hash kept) (seen.Exchanged None) =
    sealed c array size index (seal_of word) hash kept
next_at c (Close array size index word hash kept) (seen.Exchanged (Some met)) =
    goes c (Seal array size index kept)
next_at c (Next array size kept) (seen.Next None length) = goes c (Link array size kept)
next_at c (Next array size kept) (seen.Next (Some next) length) = copies c array next length kept
next_at c (Link array size kept) (seen.Linked next length) = copies c array next length kept
next_at c (Copy from array index laid) seen.Copied =
    if nat_lt (suc index) (length laid) then goes c (Copy from array (suc index) laid) else goes c
    (Swing from array)
next_at c (Swing from array) seen.Swung = goes c (Root None)
next_at c p seen = Going c

abbrev pub next_of : Call → Seen → Step
next_of c seen = next_at c c.point seen

-- a call begins at the root
abbrev pub call_from : CallKind → (hash : ℕ) → Call
call_from k hash = record { kind = k; hash = hash; spent = false; point = Root None }
