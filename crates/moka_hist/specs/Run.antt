-- Runs of the reference cache on events.
use Rattle.std.specs.Prelude.{◌<◌, ◌≤◌, ◌≡◌, ◌≢◌, ℕ, zero, suc, ◌+◌, ◌^◌, ◌-◌, ◌==◌, nat_lt, Bool, true, MatchBool, List, [], ◌∷◌, Some, None, MatchOption}
use Rattle.moka_hist.specs.Finite.{put_at}
use Rattle.moka_hist.specs.State.{Call, DeskPart, Division, Handed, State, fresh}
use Rattle.moka_hist.specs.Plan.{plan_of}
use Rattle.moka_hist.specs.Step.{Step}
use Rattle.moka_hist.specs.Dropping.{dropped}
use Rattle.moka_hist.specs.Telling.{is_asked, told}
use Rattle.moka_hist.specs.declared.records.Mode.{Mode}
use Rattle.moka_hist.specs.declared.records.Mode.TheVariants as mode
use Rattle.moka_hist.specs.declared.rules.Rules.{Rules}
use Rattle.moka_hist.specs.declared.events.Start.{Start}
use Rattle.moka_hist.specs.declared.events.Event.{Event}
use Rattle.moka_hist.specs.declared.events.Event.TheVariants as event
use Rattle.moka_hist.specs.declared.replies.Refusal.{Refusal}
use Rattle.moka_hist.specs.declared.replies.Refusal.TheVariants as refusal
use Rattle.moka_hist.specs.declared.replies.Reply.{Reply}
use Rattle.moka_hist.specs.declared.replies.Reply.TheVariants as reply
use Rattle.moka_hist.specs.declared.accesses.Turn.{Turn}
use Rattle.moka_hist.specs.declared.accesses.Turn.TheVariants as turn

-- the greatest call number
abbrev pub last_call : ℕ
last_call = 2 ^ 64 - 1

-- keys are divided into 1 to 64 parts, and equal keys are of one part
pub record Divides {K : Type 0} (eq : K → K → Bool) (division : Division K) : Type 0 where
  pub some : 0 < division.parts
  pub few : division.parts ≤ 64
  pub part : (q : K) → division.part_of q < division.parts
  pub alike : (a b : K) → eq a b ≡ true → division.part_of a ≡ division.part_of b

module _ {K V E : Type 0} where
  -- a step's reply
  abbrev pub reply_of : Turn K V E → Reply K V E
  reply_of turn.Going = reply.Going
  reply_of turn.Wait = reply.Wait
  reply_of (turn.Ask ask) = reply.Ask ask
  reply_of (turn.Answer answer) = reply.Answer answer
  reply_of (turn.Item key value) = reply.Item key value

module _ {K V E : Type 0} where
  -- the call as it is started, where the table has so many parts
  abbrev pub fresh_call : ℕ → Rules → Start K V → Call K V E
  fresh_call parts rules start =
      record {
        rules = rules;
        mode = mode.Fresh;
        plan = plan_of parts rules start;
        aborts = 0;
        carried = None;
      }

  -- the state with this desk
  abbrev pub with_desk : State K V E → DeskPart K V E → State K V E
  with_desk s desk = record s { world = record s.world { desk = desk } }

  -- the clock has moved on
  abbrev pub at_moment : State K V E → ℕ → State K V E
  at_moment s moment = with_desk s (record s.world.desk { clock = moment })

  -- a call was given the next number
  abbrev pub started : State K V E → Start K V → State K V E
  started s start =
      let n : ℕ = s.world.desk.last + 1 in
      record {
        world = record s.world { desk = record s.world.desk { last = n } };
        calls = put_at s.calls n
            (Some (fresh_call s.world.table.division.parts s.world.desk.rules start));
      }

  -- refused for this reason, and nothing has changed
  pub record Refuses (s : State K V E) (why : Refusal) (r : Reply K V E) (new : State K V E)
      : Type 0 where
    pub reply : r ≡ reply.Refused why
    pub same : new ≡ s

  -- carried out with this reply, and this is the state then
  pub record Becomes (next : State K V E) (answer : Reply K V E) (r : Reply K V E)
      (new : State K V E) : Type 0 where
    pub reply : r ≡ answer
    pub after : new ≡ next

  -- k steps of the call, each of which leaves it going, through states that meet P
  unfoldable pub Goings : (K → K → Bool) → (State K V E → Type 0) → ℕ → State K V E → ℕ →
      State K V E → Type 0
  Goings eq P zero s n new = new ≡ s
  Goings eq P (suc k) s n new =
      (mid : State K V E) × Goings eq P k s n mid × Step eq mid n turn.Going new × P new

  -- one step of the live call, with its reply
  pub record Steps (eq : K → K → Bool) (s : State K V E) (n : ℕ) (r : Reply K V E)
      (new : State K V E) : Type 0 where
    pub turn : Turn K V E
    pub step : Step eq s n turn new
    pub reply : r ≡ reply_of turn

  -- steps of the live call, all Going but the last, whose reply is the event's
  pub record Polls (eq : K → K → Bool) (P : State K V E → Type 0) (s : State K V E) (n : ℕ)
      (r : Reply K V E) (new : State K V E) : Type 0 where
    pub going : ℕ
    pub mid : State K V E
    pub goes : Goings eq P going s n mid
    pub last : Steps eq mid n r new
    pub ends : r ≢ reply.Going

  -- a call is dropped but between two steps
  abbrev pub Drops : State K V E → ℕ → Call K V E → Mode → Reply K V E → State K V E → Type 0
  Drops s n c mode.Mid r new = Refuses s refusal.NotParked r new
  Drops s n c mode.Fresh r new = Becomes (dropped s n c) reply.Dropped r new
  Drops s n c mode.Parked r new = Becomes (dropped s n c) reply.Dropped r new

  -- what an event may reply, and the state then
  abbrev pub Happens : (K → K → Bool) → (State K V E → Type 0) → State K V E → Event K V E →
      Reply K V E → State K V E → Type 0
  Happens eq P s (event.At moment) r new =
      MatchBool (nat_lt moment s.world.desk.clock)
      (Refuses s refusal.ClockBack r new)
      (Becomes (at_moment s moment) reply.At r new)
  Happens eq P s (event.Start start) r new =
      MatchBool (s.world.desk.last == last_call)
      (Refuses s refusal.CallsSpent r new)
      (Becomes (started s start) (reply.Call (s.world.desk.last + 1)) r new)
  Happens eq P s (event.Step n) r new =
      MatchOption (s.calls n) (Refuses s refusal.UnknownCall r new) (λ _. Steps eq s n r new)
  Happens eq P s (event.Poll n) r new =
      MatchOption (s.calls n) (Refuses s refusal.UnknownCall r new) (λ _. Polls eq P s n r new)
  Happens eq P s (event.Tell n answer) r new =
      MatchBool (is_asked s.world.desk n answer)
      (Becomes (with_desk s (told s.world.desk n answer)) reply.Told r new)
      (Refuses s refusal.NotAsked r new)
  Happens eq P s (event.Drop n) r new =
      MatchOption (s.calls n) (Refuses s refusal.UnknownCall r new) (λ c. Drops s n c c.mode r new)

  -- the events one after the other, each with its reply, through states that meet P
  abbrev pub Run : (K → K → Bool) → (State K V E → Type 0) → State K V E → List (Event K V E) →
      List (Reply K V E) → State K V E → Type 0
  Run eq P s [] [] new = new ≡ s
  Run eq P s (e ∷ es) (r ∷ rs) new =
      (mid : State K V E) × Happens eq P s e r mid × P mid × Run eq P mid es rs new
  Run eq P s [] (r ∷ rs) new = ⊥
  Run eq P s (e ∷ es) [] new = ⊥

  -- whatever holds of a state
  abbrev pub Any : State K V E → Type 0
  Any s = Unit {0}

  -- the state comes after some events on a fresh cache of some division of its keys, some rules and
  -- what it was handed, with a log of some size, at least of one write
  pub record IsReached (eq : K → K → Bool) (s : State K V E) : Type 0 where
    pub division : Division K
    pub divides : Divides eq division
    pub rules : Rules
    pub size : ℕ
    pub handed : Handed K V
    pub has_log : 0 < size
    pub events : List (Event K V E)
    pub replies : List (Reply K V E)
    pub run : Run eq Any (fresh K V E division rules size handed) events replies s
