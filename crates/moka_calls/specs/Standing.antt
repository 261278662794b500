-- What a call of the code stands for, what it may see, and when it may want memory.
use Rattle.std.specs.Prelude.{◌≡◌, ◌≢◌, ℕ, ◌<◌, ◌≤◌, ◌^◌, Bool, true, false, List, length, Option, Some, None}
use Rattle.std.specs.Vec.{vec_capacity}
use Rattle.std.specs.Int.{IsPowerOfTwo}
use Rattle.moka_words.specs.declared.words.Word.{Word}
use Rattle.moka_words.specs.declared.accesses.Access.{Access}
use Rattle.moka_words.specs.declared.accesses.Access.TheVariants as access
use Rattle.moka_words.specs.declared.accesses.Seen.{Seen}
use Rattle.moka_words.specs.declared.accesses.Seen.TheVariants as seen
use Rattle.moka_growth.specs.Growing.{laid_out, next_size}
use Rattle.moka_growth.specs.Calls.{Call, Ending, Step, Going, Decided, access_of, next_of}
use Rattle.moka_growth.specs.Calls as call
use Rattle.moka_calls.specs.declared.decision.Decision.{Decision}
use Rattle.moka_calls.specs.declared.decision.Decision.TheVariants as decision
use Rattle.moka_calls.specs.declared.course.Point.{Point}
use Rattle.moka_calls.specs.declared.course.Point.TheVariants as point
use Rattle.moka_calls.specs.declared.course.Spot.{Spot}
use Rattle.moka_calls.specs.declared.course.Course.{Course}

-- the point, with what the call has gathered
abbrev pub point_of : (nodes : List ℕ) (kept : List (ℕ × ℕ)) (laid : List Word) → Point → call.Point
point_of nodes kept laid (point.Root met) = call.Root met
point_of nodes kept laid (point.Probe spot) = call.Probe spot.array spot.size spot.passed
point_of nodes kept laid (point.Choose spot found) =
    call.Choose spot.array spot.size spot.passed found
point_of nodes kept laid (point.Change spot from to) =
    call.Change spot.array spot.size spot.passed from to
point_of nodes kept laid (point.Walk spot) = call.Walk spot.array spot.size spot.passed nodes
point_of nodes kept laid (point.Seal spot) = call.Seal spot.array spot.size spot.passed kept
point_of nodes kept laid (point.Close spot word hash) =
    call.Close spot.array spot.size spot.passed word hash kept
point_of nodes kept laid (point.Next array size) = call.Next array size kept
point_of nodes kept laid (point.Link array size) = call.Link array size kept
point_of nodes kept laid (point.Copy from array index) = call.Copy from array index laid
point_of nodes kept laid (point.Swing from array) = call.Swing from array

abbrev pub course_call : Course → Call
course_call c =
    record {
      kind = c.kind;
      hash = c.hash;
      spent = c.spent;
      point = point_of c.nodes.items c.kept.items c.laid.items c.point;
    }

abbrev pub ending_of : Decision → Ending
ending_of (decision.Kept found) = call.Kept found
ending_of (decision.Changed found) = call.Changed found
ending_of (decision.Nodes nodes) = call.Nodes nodes

-- the call that goes on, or how it ended
abbrev pub standing : Option Decision → Call → Step
standing None c = Going c
standing (Some d) c = Decided (ending_of d)

abbrev pub step_of : Course → Step
step_of c = standing c.decision (course_call c)

abbrev pub ending_in : Step → Option Ending
ending_in (Going c) = None
ending_in (Decided e) = Some e

-- arrays are this long
pub record IsSize (size : ℕ) : Type 0 where
  pub power : IsPowerOfTwo size
  pub small : size ≤ 2 ^ 60

abbrev pub IsSizeOf : Option ℕ → (size : ℕ) → Type 0
IsSizeOf None size = Unit {0}
IsSizeOf (Some array) size = IsSize size

-- it has not passed all words of the array
pub record IsIn (spot : Spot) : Type 0 where
  pub size_is : IsSize spot.size
  pub within : spot.passed < spot.size

-- what was laid out for the array that is to be linked
pub record IsReady (array : Option ℕ) (size : ℕ) (kept : List (ℕ × ℕ)) (laid : List Word)
    : Type 0 where
  pub size_is : IsSizeOf array size
  pub laid_is : laid ≡ laid_out kept (next_size array size (length kept))
  pub long : length laid ≡ next_size array size (length kept)

-- what the code keeps at each point; `spare` says how many nodes there is room for
abbrev pub IsOnAt : (kept : List (ℕ × ℕ)) (spare : ℕ) (laid : List Word) → Point → Type 0
IsOnAt kept spare laid (point.Root met) = Unit {0}
IsOnAt kept spare laid (point.Probe spot) = IsIn spot
IsOnAt kept spare laid (point.Choose spot found) = IsIn spot
IsOnAt kept spare laid (point.Change spot from to) = IsIn spot
IsOnAt kept spare laid (point.Walk spot) = IsIn spot
IsOnAt kept spare laid (point.Seal spot) = IsIn spot
IsOnAt kept spare laid (point.Close spot word hash) = IsIn spot × (length kept < spare)
IsOnAt kept spare laid (point.Next array size) = IsSizeOf array size
IsOnAt kept spare laid (point.Link array size) = IsReady array size kept laid
IsOnAt kept spare laid (point.Copy from array index) = index < length laid
IsOnAt kept spare laid (point.Swing from array) = Unit {0}

abbrev pub IsOn : Course → Type 0
IsOn c = IsOnAt c.kept.items (vec_capacity c.kept) c.laid.items c.point

-- what an access may see: the lengths of arrays are powers of two, and at most 2^60
abbrev pub MaySee : Access → Seen → Type 0
MaySee access.LoadRoot (seen.Root array size tombstones len) = IsSizeOf array size
MaySee (access.LoadWord array index) (seen.Word word hash same) = Unit {0}
MaySee (access.Choose present) (seen.Chosen choice) = Unit {0}
MaySee (access.Exchange array index from to) (seen.Exchanged met) = Unit {0}
MaySee (access.LoadNext array) (seen.Next next size) = IsSizeOf next size
MaySee (access.Link array asked) (seen.Linked next size) = IsSize size
MaySee (access.Copy array index to) seen.Copied = Unit {0}
MaySee (access.Swing from to) seen.Swung = Unit {0}
MaySee access saw = ⊥

-- memory may be wanted after a word was loaded, or the next array, or where an array was linked of
-- another length than the call asked for
abbrev pub MayWant : Access → Seen → Type 0
MayWant (access.LoadWord array index) saw = Unit {0}
MayWant (access.LoadNext array) saw = Unit {0}
MayWant (access.Link array asked) (seen.Linked next size) = size ≢ asked
MayWant access saw = ⊥

-- a call that goes on awaits what its access saw
abbrev pub Awaits : Step → Seen → Type 0
Awaits (Going c) saw = MaySee (access_of c) saw
Awaits (Decided e) saw = ⊥

abbrev pub IsGoing : Step → Type 0
IsGoing (Going c) = Unit {0}
IsGoing (Decided e) = ⊥

-- and may want memory for it
abbrev pub WantsMemory : Step → Seen → Type 0
WantsMemory (Going c) saw = MayWant (access_of c) saw
WantsMemory (Decided e) saw = ⊥

-- the next access of a call that goes on
abbrev pub Wants : Step → Access → Type 0
Wants (Going c) access = access ≡ access_of c
Wants (Decided e) access = ⊥

-- how it goes on, or ends, by what its access saw
abbrev pub after : Step → Seen → Step
after (Going c) saw = next_of c saw
after (Decided e) saw = Decided e

-- a call that goes on loads a bucket of its probe next
abbrev pub is_probe : call.Point → Bool
is_probe (call.Root met) = false
is_probe (call.Probe array size passed) = true
is_probe (call.Choose array size passed found) = false
is_probe (call.Change array size passed from to) = false
is_probe (call.Walk array size index nodes) = false
is_probe (call.Seal array size index kept) = false
is_probe (call.Close array size index word hash kept) = false
is_probe (call.Next array size kept) = false
is_probe (call.Link array size kept) = false
is_probe (call.Copy from array index laid) = false
is_probe (call.Swing from array) = false

abbrev pub is_probing : Step → Bool
is_probing (Going c) = is_probe c.point
is_probing (Decided e) = false

-- where the word is that a call that goes on lists next: its array, and its index there
abbrev pub place_at : call.Point → Option (ℕ × ℕ)
place_at (call.Root met) = None
place_at (call.Probe array size passed) = None
place_at (call.Choose array size passed found) = None
place_at (call.Change array size passed from to) = None
place_at (call.Walk array size index nodes) = Some (array, index)
place_at (call.Seal array size index kept) = None
place_at (call.Close array size index word hash kept) = None
place_at (call.Next array size kept) = None
place_at (call.Link array size kept) = None
place_at (call.Copy from array index laid) = None
place_at (call.Swing from array) = None

abbrev pub listed_next : Step → Option (ℕ × ℕ)
listed_next (Going c) = place_at c.point
listed_next (Decided e) = None
