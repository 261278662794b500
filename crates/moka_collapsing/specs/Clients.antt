-- A client of the gateway: its unfinished bytes and its requests.
use Rattle.std.specs.Prelude.{ℕ, ◌+◌, ◌-◌, List, [], ◌∷◌, ◌++◌, length, drop, Option, Some, None, slice_set, flat_map}
use Rattle.moka_requests.specs.Requests.{Unfinished, nothing_yet}
use Rattle.moka_collapsing.specs.declared.answer.Answer.{Answer}
use Rattle.moka_collapsing.specs.declared.slot.Slot.{Slot}
use Rattle.moka_collapsing.specs.declared.slot.Slot.TheVariants.{Waits, Answered}
use Rattle.moka_collapsing.specs.Texts.{reply_text}

pub record Client : Type 0 where
  -- what it sent of a line that hasn't ended
  pub unfinished : Unfinished
  -- how many of its requests were answered and have left
  pub sent : ℕ
  -- its other requests, in the order in which they came: each with its answer, or waiting
  pub requests : List Slot

-- a client that has sent nothing yet
abbrev pub new_client : Client
new_client = record { unfinished = nothing_yet; sent = 0; requests = [] }

-- how many requests the client has made
abbrev pub made : Client → ℕ
made client = client.sent + length client.requests

-- it has made one request more
abbrev pub with_request : Client → Slot → Client
with_request client slot = record client { requests = client.requests ++ slot ∷ [] }

-- its request of this index has this answer; they are counted from its first, from 0
abbrev pub with_answer : Client → ℕ → Answer → Client
with_answer client index answer =
    record client { requests = slice_set client.requests (index - client.sent) (Answered answer) }

-- the answer of the first request, if it has one
abbrev pub front_answer : List Slot → Option Answer
front_answer [] = None
front_answer (Answered answer ∷ slots) = Some answer
front_answer (Waits key number ∷ slots) = None

-- the answers of the requests at the front that have one
abbrev pub due_answers : List Slot → List Answer
due_answers [] = []
due_answers (Answered answer ∷ slots) = answer ∷ due_answers slots
due_answers (Waits key number ∷ slots) = []

-- the bytes that may be sent, and the client once they are: those requests have left
abbrev pub due_bytes : Client → List ℕ
due_bytes client = flat_map reply_text (due_answers client.requests)

abbrev pub flushed : Client → Client
flushed client =
    let count : ℕ = length (due_answers client.requests) in
    record client { sent = client.sent + count; requests = drop count client.requests }
