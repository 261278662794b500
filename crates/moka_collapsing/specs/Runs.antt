-- Whole runs of the reference gateway: what happens to it, and what it comes to.
use Rattle.std.specs.Prelude.{ℕ, ◌==◌, cond, List, [], ◌∷◌, ◌++◌, flat_map, Option, Some, None, Result}
use Rattle.moka_hist.specs.Finite.{put_at}
use Rattle.moka_collapsing.specs.declared.out.Out.{Out}
use Rattle.moka_collapsing.specs.declared.out.Out.TheVariants.{Fetch, Cancel, To}
use Rattle.moka_collapsing.specs.Clients.{Client}
use Rattle.moka_collapsing.specs.Folds.{folded}
use Rattle.moka_collapsing.specs.Reference.{Reference, closes, feeds, fresh, opens, replies}

-- what happens to a gateway
pub data Event : Type 0 where
  Open : Event
  Feed : (client : ℕ) (bytes : List ℕ) → Event
  Reply : (key : ℕ) (brought : Result ℕ ℕ) → Event
  Close : (client : ℕ) → Event

-- what a call says is to be done: nothing where it is refused
abbrev pub outs_of : Option (List Out) → List Out
outs_of (Some outs) = outs
outs_of None = []

-- what an event brings about, and the gateway afterwards
abbrev pub brought_by : Reference → Event → List Out × Reference
brought_by g Open = ([], (opens g).1)
brought_by g (Feed client bytes) =
    (outs_of (feeds g client bytes).0, (feeds g client bytes).1)
brought_by g (Reply key brought) = (outs_of (replies g key brought).0, (replies g key brought).1)
brought_by g (Close client) = (outs_of (closes g client).0, (closes g client).1)

-- the key that is fetched
abbrev pub fetch_in : Out → List ℕ
fetch_in (Fetch key) = key ∷ []
fetch_in (Cancel key) = []
fetch_in (To client bytes) = []

-- the bytes that the client is sent
abbrev pub bytes_in : ℕ → Out → List ℕ
bytes_in client (Fetch key) = []
bytes_in client (Cancel key) = []
bytes_in client (To number bytes) = cond (number == client) bytes []

-- what a run has come to
pub record Run : Type 0 where
  pub gateway : Reference
  -- by client, the bytes that it has sent while it was open, and those that it was sent
  pub fed : ℕ → List ℕ
  pub sent : ℕ → List ℕ

-- nothing has happened yet
abbrev pub begun_run : Run
begun_run = record { gateway = fresh; fed = λ client. []; sent = λ client. [] }

-- the bytes that are taken from a client: none where it is not open
abbrev pub taken : Option Client → List ℕ → List ℕ
taken None bytes = []
taken (Some client) bytes = bytes

-- what each client has sent, once this has happened
abbrev pub fed_by : Run → Event → ℕ → List ℕ
fed_by r Open = r.fed
fed_by r (Feed client bytes) =
    put_at r.fed client (r.fed client ++ taken (r.gateway.clients client) bytes)
fed_by r (Reply key brought) = r.fed
fed_by r (Close client) = r.fed

-- an event happens
abbrev pub happens : Run → Event → Run
happens r event =
    let it : List Out × Reference = brought_by r.gateway event in
    record {
      gateway = it.1;
      fed = fed_by r event;
      sent = λ client. r.sent client ++ flat_map (bytes_in client) it.0;
    }

-- what events come to that happen to a new gateway, one after the other
abbrev pub run_of : List Event → Run
run_of events = folded happens begun_run events
