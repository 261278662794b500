-- The state of the reference cache, by layer.
use Rattle.std.specs.Prelude.{ℕ, Bool, false, List, [], Option, None}
use Rattle.moka_hist.specs.declared.loads.Load.{Load}
use Rattle.moka_hist.specs.declared.notices.Notice.{Notice}
use Rattle.moka_hist.specs.declared.predicates.Registered.{Registered}
use Rattle.moka_hist.specs.declared.records.Mode.{Mode}
use Rattle.moka_hist.specs.declared.records.Stored.{Stored}
use Rattle.moka_hist.specs.declared.rules.Rules.{Rules}
use Rattle.moka_hist.specs.declared.events.Told.{Told}
use Rattle.moka_hist.specs.declared.visits.Settled.{Settled}
use Rattle.moka_hist.specs.declared.visits.Takes.{Takes}
use Rattle.moka_hist.specs.declared.writes.Holding.{Holding}
use Rattle.moka_hist.specs.declared.writes.Owed.{Owed}
use Rattle.moka_hist.specs.declared.writes.Write.{Write}
use Rattle.moka_hist.specs.Plan.{Item}

-- How a table divides its keys: into how many parts, and which part each key is of, from 0.
pub record Division (K : Type 0) : Type 0 where
  pub parts : ℕ
  pub part_of : K → ℕ

-- A list of the keys of a part, from its first step until it is given: those that it has to give, as
-- they were stored all the while, and those that it may give, as they were stored at some time.
pub record Listed (K : Type 0) : Type 0 where
  pub part : ℕ
  pub must : K → Bool
  pub may : K → Bool

-- What is stored.
pub record TablePart (K V : Type 0) : Type 0 where
  pub division : Division K
  -- the list that a call has begun
  pub listings : ℕ → Option (Listed K)
  -- the stored pair of a key
  pub stored : K → Option (K × Stored V)
  -- how many keys are stored, and the most that ever were
  pub keys : ℕ
  pub peak : ℕ
  -- the numbers of the calls whose write changed the map, oldest first
  pub committed : List ℕ

-- What a cache is handed with its rules: what the replace test of each number answers of a key and
-- its value, what the predicate of each number answers, and the ids that are to be drawn, by number
-- from 0.
pub record Handed (K V : Type 0) : Type 0 where
  pub tests : ℕ → K → V → Bool
  pub predicates : ℕ → K → V → Bool
  pub ids : ℕ → ℕ

-- What the desk keeps.
pub record DeskPart (K V E : Type 0) : Type 0 where
  -- what the cache was built with: its rules, and what it was handed with them
  pub rules : Rules
  pub tests : ℕ → K → V → Bool
  pub predicates : ℕ → K → V → Bool
  pub ids : ℕ → ℕ
  pub clock : ℕ
  -- the moment of the latest invalidation of all, if there was one: what was written before is hidden
  pub valid_after : Option ℕ
  -- the predicates that are registered, oldest first, and how many ids were drawn for them
  pub registered : List Registered
  pub drawn : ℕ
  -- the moment at which a stamp's record was last seen, where it was since its write
  pub accessed : ℕ → Option ℕ
  -- what a call holds: the place of a write of its own, or an owed write that it took up
  pub holding : ℕ → Option Holding
  -- the writes that dropped calls left, with the notices that ran then; the log; and what was
  -- applied; oldest first
  pub owed : List Owed
  pub log : List Write
  pub applied : List Write
  -- the call that has the maintenance turn
  pub turn : Option ℕ
  -- how many applied upserts stood unreplaced as the last turn ended
  pub published : ℕ
  -- how many writes the log has room for
  pub size : ℕ
  -- the greatest call number given out
  pub last : ℕ
  -- the owner of a load, and the load that a call owns
  pub owners : Load K → Option ℕ
  pub owning : ℕ → Option (Load K)
  -- the owner that a call waits for, and how many wait for an owner
  pub joined : ℕ → Option ℕ
  pub readers : ℕ → ℕ
  -- how an owner ended, as long as somebody has still to read it
  pub settled : ℕ → Option (Settled V E)
  -- the number under which a key's lock is held; the key whose lock a live call holds; and the key
  -- whose lock the running notice of this dropped call keeps
  pub locks : K → Option ℕ
  pub locked : ℕ → Option K
  pub kept : ℕ → Option K
  -- the notices that were opened, and their numbers, oldest first
  pub notices : ℕ → Option (Notice K V)
  pub opened : List ℕ
  -- the listener has answered Off: it hears of no further record
  pub off : Bool
  -- what an open ask takes, and what was told to one that is closed and not taken yet
  pub asks : ℕ → Option Takes
  pub told : ℕ → Option (Told V E)

-- What a live call is to the reference: how far it is, what it has still to do, how often it has
-- read that an owner was dropped, and the predicates that it carries, by id and moment, where it is
-- maintenance that walks; beside them the rules of its cache.
pub record Call (K V E : Type 0) : Type 0 where
  pub rules : Rules
  pub mode : Mode
  pub plan : List (Item K V E)
  pub aborts : ℕ
  pub carried : Option (List (ℕ × ℕ))

-- How often in a row the table operation of one call has stayed undecided.
pub record Stay : Type 0 where
  -- the call that made the last step on the table
  pub call : ℕ
  -- how many of its steps there in a row, up to that one, left its operation undecided
  pub times : ℕ

pub record World (K V E : Type 0) : Type 0 where
  pub table : TablePart K V
  pub desk : DeskPart K V E
  pub stay : Stay

pub record State (K V E : Type 0) : Type 0 where
  pub world : World K V E
  pub calls : ℕ → Option (Call K V E)

abbrev pub empty_table : (K V : Type 0) → Division K → TablePart K V
empty_table K V division =
    record {
      division = division;
      listings = λ _. None;
      stored = λ _. None;
      keys = 0;
      peak = 0;
      committed = [];
    }

-- a desk by these rules, with a log of this size and what it was handed, where nothing has happened
abbrev pub fresh_desk : (K V E : Type 0) → Rules → ℕ → Handed K V → DeskPart K V E
fresh_desk K V E rules size handed =
    record {
      rules = rules;
      tests = handed.tests;
      predicates = handed.predicates;
      ids = handed.ids;
      clock = 0;
      valid_after = None;
      registered = [];
      drawn = 0;
      accessed = λ _. None;
      holding = λ _. None;
      owed = [];
      log = [];
      applied = [];
      turn = None;
      published = 0;
      size = size;
      last = 0;
      owners = λ _. None;
      owning = λ _. None;
      joined = λ _. None;
      readers = λ _. 0;
      settled = λ _. None;
      locks = λ _. None;
      locked = λ _. None;
      kept = λ _. None;
      notices = λ _. None;
      opened = [];
      off = false;
      asks = λ _. None;
      told = λ _. None;
    }

-- nothing is stored, no call was started, and the clock is 0
abbrev pub fresh : (K V E : Type 0) → Division K → Rules → ℕ → Handed K V → State K V E
fresh K V E division rules size handed =
    record {
      world = record {
        table = empty_table K V division;
        desk = fresh_desk K V E rules size handed;
        stay = record { call = 0; times = 0 };
      };
      calls = λ _. None;
    }
