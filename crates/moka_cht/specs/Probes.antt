-- A call on its way through the buckets of one array: its next access, and what it knows of them.
use Rattle.std.specs.Prelude.{◌≡◌, ◌≢◌, ℕ, ◌<◌, ◌≤◌, ◌^◌, Bool, true, false, List, length, Option, Some, None, IsSome, ◌⊎◌}
use Rattle.std.specs.Option.{option_map_or}
use Rattle.std.specs.Int.{IsPowerOfTwo}
use Rattle.moka_words.specs.Words.{node_of, word_at}
use Rattle.moka_words.specs.Arrays.{bucket_at}
use Rattle.moka_words.specs.Later.{HasPassed}
use Rattle.moka_words.specs.declared.words.Word.{Word}
use Rattle.moka_words.specs.declared.words.Word.TheVariants as word
use Rattle.moka_words.specs.declared.accesses.Access.{Access}
use Rattle.moka_words.specs.declared.accesses.Access.TheVariants as access
use Rattle.moka_words.specs.declared.accesses.Choice.{Choice}
use Rattle.moka_words.specs.declared.accesses.Choice.TheVariants as choice
use Rattle.moka_words.specs.declared.accesses.Seen.{Seen}
use Rattle.moka_words.specs.declared.accesses.Seen.TheVariants as seen
use Rattle.moka_cht.specs.declared.probe.Aim.{Aim}
use Rattle.moka_cht.specs.declared.probe.Aim.TheVariants as aim
use Rattle.moka_cht.specs.declared.probe.Place.{Place}
use Rattle.moka_cht.specs.declared.probe.Place.TheVariants as place
use Rattle.moka_cht.specs.declared.probe.Point.{Point}
use Rattle.moka_cht.specs.declared.probe.Point.TheVariants as point
use Rattle.moka_cht.specs.declared.probe.Probe.{Probe}
use Rattle.moka_cht.specs.declared.probe.Ending.{Ending}
use Rattle.moka_cht.specs.declared.probe.Ending.TheVariants as ending
use Rattle.moka_cht.specs.declared.probe.Step.{Step}
use Rattle.moka_cht.specs.declared.probe.Step.TheVariants as step

-- the word of such a bucket
abbrev pub word_of : Place → Word
word_of place.Free = word.Empty
word_of (place.Dead n) = word.Tomb n
word_of (place.Stored n) = word.Live n

-- the live node of the call's key
abbrev pub present_of : Place → Option ℕ
present_of place.Free = None
present_of (place.Dead n) = None
present_of (place.Stored n) = Some n

-- the bucket that it is at
abbrev pub bucket_of : Probe → ℕ
bucket_of p = bucket_at p.length p.hash p.passed

-- the access of each point
abbrev pub access_at : (array index : ℕ) → Point → Access
access_at array index point.Load = access.LoadWord array index
access_at array index (point.Choose at) = access.Choose (present_of at)
access_at array index (point.Put at node) =
    access.Exchange array index (word_of at) (word.Live node)
access_at array index (point.Remove node) =
    access.Exchange array index (word.Live node) (word.Tomb node)

-- its next access
abbrev pub access_of : Probe → Access
access_of p = access_at p.array (bucket_of p) p.point

-- it is at a bucket of an array
pub record IsOn (p : Probe) : Type 0 where
  pub power : IsPowerOfTwo p.length
  pub small : p.length ≤ 2 ^ 60
  pub within : p.passed < p.length

-- it is the same call in the same array
pub record Follows (p q : Probe) : Type 0 where
  pub aim_stays : q.aim ≡ p.aim
  pub array_stays : q.array ≡ p.array
  pub length_stays : q.length ≡ p.length
  pub hash_stays : q.hash ≡ p.hash

-- the node at the place has the call's key
abbrev pub IsOwnPlace : (ℕ → Bool) → Place → Type 0
IsOwnPlace own place.Free = Unit {0}
IsOwnPlace own (place.Dead n) = own n ≡ true
IsOwnPlace own (place.Stored n) = own n ≡ true

abbrev pub IsOwnPoint : (ℕ → Bool) → Point → Type 0
IsOwnPoint own point.Load = Unit {0}
IsOwnPoint own (point.Choose at) = IsOwnPlace own at
IsOwnPoint own (point.Put at node) = IsOwnPlace own at
IsOwnPoint own (point.Remove node) = own node ≡ true

-- What it keeps from access to access; all of it lasts, whoever exchanges words: the buckets that
-- it passed have other keys, and the node that it found has its own.
pub record Stands (own : ℕ → Bool) (words : List Word) (p : Probe) : Type 0 where
  pub long : length words ≡ p.length
  pub passed : HasPassed own words p.hash p.passed
  pub found : IsOwnPoint own p.point

-- the probe under this hash ends at a bucket that is such a place
pub record EndsAt (own : ℕ → Bool) (words : List Word) (hash n : ℕ) (at : Place) : Type 0 where
  pub within : n < length words
  pub passed : HasPassed own words hash n
  pub there : word_at words (bucket_at (length words) hash n) ≡ word_of at
  pub own_place : IsOwnPlace own at

-- the probe under this hash passes all buckets
abbrev pub PassesAll : (ℕ → Bool) → List Word → ℕ → Type 0
PassesAll own words hash = HasPassed own words hash (length words)

-- the word is Empty, Live or Tomb
abbrev pub is_open : Word → Bool
is_open word.Unset = false
is_open word.Empty = true
is_open (word.Live n) = true
is_open (word.Tomb n) = true
is_open word.SealedEmpty = false
is_open (word.SealedLive n) = false
is_open (word.SealedTomb n) = false

-- a call of this aim has to ask what to do at such a place
abbrev pub Chooses : Aim → Place → Type 0
Chooses aim.Get at = ⊥
Chooses aim.Insert at = Unit {0}
Chooses aim.Remove place.Free = ⊥
Chooses aim.Remove (place.Dead n) = ⊥
Chooses aim.Remove (place.Stored n) = Unit {0}

-- what may be chosen there
abbrev pub MayChoose : Aim → Place → Choice → Type 0
MayChoose aim.Insert at choice.Keep = Unit {0}
MayChoose aim.Insert at (choice.Put n) = Unit {0}
MayChoose aim.Remove at choice.Keep = Unit {0}
MayChoose aim.Remove (place.Stored n) choice.Remove = Unit {0}
MayChoose aim at choice = ⊥

-- what may be seen at each point
abbrev pub Fits : Aim → Point → Seen → Type 0
Fits aim point.Load (seen.Word word hash same) = Unit {0}
Fits aim (point.Choose at) (seen.Chosen choice) = MayChoose aim at choice
Fits aim (point.Put at node) (seen.Exchanged met) = Unit {0}
Fits aim (point.Remove node) (seen.Exchanged met) = Unit {0}
Fits aim point seen = ⊥

-- what an ending at a load tells of the words
abbrev pub Tells : (ℕ → Bool) → List Word → Aim → ℕ → Ending → Type 0
Tells own words a hash (ending.Kept present) =
    (a ≢ aim.Insert)
    × (((n : ℕ) × (at : Place) × EndsAt own words hash n at × (present ≡ present_of at) ×
    ¬ Chooses a at)
    ⊎ (PassesAll own words hash × (present ≡ None)))
Tells own words a hash (ending.Changed at) = ⊥
Tells own words a hash ending.NoFree = (a ≡ aim.Insert) × PassesAll own words hash
Tells own words a hash ending.Closed =
    (i : ℕ) × (i < length words) × (is_open (word_at words i) ≡ false)

-- after a load it is further on, or it chooses at the bucket that it has loaded
abbrev pub IsNearer : List Word → Probe → Probe → Point → Type 0
IsNearer words p q point.Load = p.passed < q.passed
IsNearer words p q (point.Choose at) =
    (q.passed ≡ p.passed) × (word_at words (bucket_of q) ≡ word_of at) × Chooses q.aim at
IsNearer words p q (point.Put at node) = ⊥
IsNearer words p q (point.Remove node) = ⊥

pub record Goes (own : ℕ → Bool) (words : List Word) (p q : Probe) : Type 0 where
  pub follows : Follows p q
  pub on : IsOn q
  pub stands : Stands own words q
  pub nearer : IsNearer words p q q.point

-- what comes of a load
abbrev pub AfterLoad : (ℕ → Bool) → List Word → Probe → Step → Type 0
AfterLoad own words p (step.On q) = Goes own words p q
AfterLoad own words p (step.Ended e) = Tells own words p.aim p.hash e

-- it has loaded the bucket at which it is, and asks what to do there
abbrev pub IsChoice : List Word → Probe → Point → Type 0
IsChoice words p (point.Choose at) = (word_at words (bucket_of p) ≡ word_of at) × Chooses p.aim at
IsChoice words p point.Load = ⊥
IsChoice words p (point.Put at node) = ⊥
IsChoice words p (point.Remove node) = ⊥

-- what comes of all loads: the probe asks what to do, or the call has ended
abbrev pub AfterLoads : (ℕ → Bool) → List Word → Probe → Step → Type 0
AfterLoads own words p (step.On q) =
    Follows p q × IsOn q × Stands own words q × IsChoice words q q.point
AfterLoads own words p (step.Ended e) = Tells own words p.aim p.hash e

-- a call of this aim asks what to do, with all that it knows
pub record AtPlace (own : ℕ → Bool) (words : List Word) (aim : Aim) (hash : ℕ) (p : Probe)
    : Type 0 where
  pub aim_is : p.aim ≡ aim
  pub array_is : p.array ≡ 0
  pub hash_is : p.hash ≡ hash
  pub on : IsOn p
  pub stands : Stands own words p
  pub choice : IsChoice words p p.point

-- it exchanges a word
abbrev pub IsExchange : Point → Type 0
IsExchange point.Load = ⊥
IsExchange (point.Choose at) = ⊥
IsExchange (point.Put at node) = Unit {0}
IsExchange (point.Remove node) = Unit {0}

-- the place of its exchange
abbrev pub IsPlaceOf : Point → Place → Type 0
IsPlaceOf point.Load at = ⊥
IsPlaceOf (point.Choose at') at = ⊥
IsPlaceOf (point.Put at' node) at = at' ≡ at
IsPlaceOf (point.Remove node) at = place.Stored node ≡ at

-- what comes of each access, by what it saw
abbrev pub Takes : Probe → Point → Seen → Step → Type 0
Takes p point.Load (seen.Word w hash same) r =
    (own : ℕ → Bool) (words : List Word) → Stands own words p → w ≡ word_at words (bucket_of p)
    → same ≡ option_map_or own (node_of w) false → AfterLoad own words p r
Takes p (point.Choose at) (seen.Chosen choice.Keep) r = r ≡ step.Ended (ending.Kept (present_of at))
Takes p (point.Choose at) (seen.Chosen (choice.Put n)) r =
    r ≡ step.On (record p { point = point.Put at n })
Takes p (point.Choose (place.Stored n)) (seen.Chosen choice.Remove) r =
    r ≡ step.On (record p { point = point.Remove n })
Takes p (point.Put at n) (seen.Exchanged None) r = r ≡ step.Ended (ending.Changed at)
Takes p (point.Put at n) (seen.Exchanged (Some met)) r =
    r ≡ step.On (record p { point = point.Load })
Takes p (point.Remove n) (seen.Exchanged None) r = r ≡ step.Ended (ending.Changed (place.Stored n))
Takes p (point.Remove n) (seen.Exchanged (Some met)) r =
    r ≡ step.On (record p { point = point.Load })
Takes p point seen r = ⊥
