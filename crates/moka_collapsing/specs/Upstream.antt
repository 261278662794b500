-- The upstream side of the gateway: what is stored, and who waits for an open upstream request.
use Rattle.std.specs.Prelude.{ℕ, ◌+◌, ◌==◌, Bool, List, [], ◌∷◌, ◌++◌, length, map, Option, Some, None}
use Rattle.std.specs.declared.result.Result.{Result}
use Rattle.std.specs.declared.result.Result.TheVariants.{Ok, Err}
use Rattle.std.specs.Map.{remove_entry}
use Rattle.std.specs.BTreeMap.{is_at}
use Rattle.std.specs.Ordering.{nat_cmp}
use Rattle.moka_hist.specs.Finite.{put_at}
use Rattle.moka_collapsing.specs.declared.answer.Answer.{Answer}
use Rattle.moka_collapsing.specs.declared.answer.Answer.TheVariants as answer
use Rattle.moka_collapsing.specs.declared.slot.Given.{Given}
use Rattle.moka_collapsing.specs.declared.slot.Asked.{Asked}
use Rattle.moka_collapsing.specs.declared.slot.Place.{Place}
use Rattle.moka_collapsing.specs.declared.slot.Slot.{Slot}
use Rattle.moka_collapsing.specs.declared.slot.Slot.TheVariants.{Waits, Answered}

-- a request `get K` that waits: its number, and its place among those of its client
abbrev pub Waiter : Type 0
Waiter = ℕ × Place

pub record Upstream : Type 0 where
  -- the value that is stored under the key, if one is
  pub stored : ℕ → Option ℕ
  -- the requests that wait for the upstream request of the key, in the order in which they came:
  -- none where no upstream request of it is open
  pub waiting : ℕ → List Waiter
  -- how many requests `get K` have come, of which each has the next number
  pub last : ℕ

-- nothing is stored, and no request has come
abbrev pub no_requests : Upstream
no_requests = record { stored = λ key. None; waiting = λ key. []; last = 0 }

-- ---- a request comes

-- one request more has come
abbrev pub counted : Upstream → Upstream
counted u = record u { last = u.last + 1 }

-- it waits at the end of the list
abbrev pub joined : Upstream → ℕ → Place → Upstream
joined u key place =
    record (counted u) { waiting = put_at u.waiting key (u.waiting key ++ (u.last + 1, place) ∷ []) }

-- the first on a list opens the upstream request
abbrev pub fetch_of : List Waiter → ℕ → Option ℕ
fetch_of [] key = Some key
fetch_of (waiter ∷ waiters) key = None

-- How a request for the key stands, and which upstream request it opens: one for a stored key has
-- that value; else it waits with those that ask for the key, and opens the upstream request where
-- nobody did.
abbrev pub asked_at : Option ℕ → Upstream → ℕ → Place → Asked × Upstream
asked_at (Some value) u key place =
    (record { slot = Answered (answer.Value value); fetch = None }, counted u)
asked_at None u key place = (
  record { slot = Waits key (u.last + 1); fetch = fetch_of (u.waiting key) key },
  joined u key place,
)

abbrev pub asked : Upstream → ℕ → Place → Asked × Upstream
asked u key place = asked_at (u.stored key) u key place

-- ---- the upstream request brings something

-- the answer to those that wait
abbrev pub answer_of : Result ℕ ℕ → Answer
answer_of (Ok value) = answer.Value value
answer_of (Err error) = answer.Error error

-- a value is stored, an error is not
abbrev pub keeps : (ℕ → Option ℕ) → ℕ → Answer → ℕ → Option ℕ
keeps stored key (answer.Value value) = put_at stored key (Some value)
keeps stored key (answer.Error error) = stored
keeps stored key answer.Bad = stored

-- the list of the key has ended with this answer
abbrev pub ended : Upstream → ℕ → Answer → Upstream
ended u key answer =
    record u { stored = keeps u.stored key answer; waiting = put_at u.waiting key [] }

-- a request that waited has this answer
abbrev pub given_to : Answer → Waiter → Given
given_to answer waiter = record { place = waiter.1; answer = answer }

-- the requests that waited, each with its answer: none where no upstream request was open
abbrev pub given_at : Answer → List Waiter → Option (List Given)
given_at answer [] = None
given_at answer (waiter ∷ waiters) =
    Some (map (given_to answer) (waiter ∷ waiters))

-- nothing changes where none was open
abbrev pub settled_at : Upstream → ℕ → Answer → List Waiter → Upstream
settled_at u key answer [] = u
settled_at u key answer (waiter ∷ waiters) = ended u key answer

abbrev pub settled : Upstream → ℕ → Answer → Upstream
settled u key answer = settled_at u key answer (u.waiting key)

-- ---- requests leave

-- nobody waits for the key
abbrev pub is_left : Upstream → ℕ → Bool
is_left u key = length (u.waiting key) == 0

-- the list without the request of this number
abbrev pub without : ℕ → List Waiter → List Waiter
without number waiters = remove_entry (is_at (nat_cmp number)) waiters

-- a request leaves the list of its key, if it waits
abbrev pub left : Upstream → Slot → Upstream
left u (Waits key number) =
    record u { waiting = put_at u.waiting key (without number (u.waiting key)) }
left u (Answered answer) = u
