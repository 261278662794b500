-- The worlds of an empty cache, on which tests poll.
use Rattle.std.specs.Prelude.{◌≡◌, ℕ, ◌+◌, ◌≤◌, Bool, List, [], ◌∷◌, ◌++◌, map, length, Option}
use Rattle.std.specs.Prelude.{Some, None, false, is_some}
use Rattle.std.specs.Option.{option_and_then}
use Rattle.moka_hist.specs.Bound.{most_undecided}
use Rattle.moka_hist.specs.State.{World}
use Rattle.moka_hist.specs.Step.{Access, Gets}
use Rattle.moka_hist.specs.Step as step
use Rattle.moka_hist.specs.declared.accesses.Got.{Got}
use Rattle.moka_hist.specs.declared.accesses.Want.{Want}
use Rattle.moka_hist.specs.declared.accesses.Want.TheVariants as want
use Rattle.moka_hist.specs.declared.tables.TableOp.{TableOp}
use Rattle.moka_hist.specs.declared.visits.Visit.TheVariants as visit
use Rattle.std.proofs.Common.{ap, sym}
use Rattle.moka_hist.specs.Next.{Next}
use Rattle.moka_hist.specs.Run.{fresh_call}
use Rattle.moka_hist.specs.declared.rules.Rules.{Rules}
use Rattle.moka_hist.specs.declared.events.Start.TheVariants as start
use Rattle.moka_bound.specs.Falling.{Counts, Shortens, keys_in}
use Rattle.moka_init.specs.Forms.{HasForm}
use Rattle.moka_init.specs.Grounds.{Account, MayWant, still_begun}
use Rattle.moka_init.specs.Telling.{Made, TellsPoll}
use Rattle.moka_bound.specs.Ahead.{Work}

-- nothing is stored, no write is owed or logged, and an operation may stay undecided for so many
-- steps more
pub record IsBare {K V E : Type 0} (left : ℕ) (w : World K V E) : Type 0 where
  -- no dropped call has left a write
  pub owed : w.desk.owed ≡ []
  -- no call holds one
  pub holding : (n : ℕ) → w.desk.holding n ≡ None
  -- none is logged, and the log has room for one
  pub log : w.desk.log ≡ []
  pub size : w.desk.size ≡ 1
  -- no call waits for an owner
  pub joined : (n : ℕ) → w.desk.joined n ≡ None
  -- no key has a record
  pub stored : (q : K) → w.table.stored q ≡ None
  -- so many more steps are no more than an operation may stay undecided for
  pub patient : w.stay.times + left ≤ most_undecided w.table

-- the work that there is before a look on an empty cache
abbrev pub bare_work : ℕ → Work
bare_work left =
    record { owed = 0; logged = 0; size = 1; left = left; most = left; ended = false; keys = 0 }

module _ {K V E : Type 0} where
  -- on each empty cache, whichever call it is, the access may give this, and leaves an empty cache
  abbrev pub BareGives : (K → K → Bool) → ℕ → Access K V E → Got K V E → ℕ → Type 0
  BareGives eq left access given after =
      (call : ℕ) (w : World K V E) → IsBare left w
      → (new : World K V E) × Gets eq call w access given new × IsBare after new

  -- an access that is noted with what it gave, as it is first wanted
  abbrev pub noted : Want K V E × Got K V E → Made K V E
  noted (want.Begin operation, given) = (step.On_table operation, given)
  noted (want.Desk made, given) = (step.On_desk made, given)
  noted (want.Table, given) = (step.On_desk (visit.Clock 0), given)

  -- what is told on an empty cache, for this call: with what it has begun, what was noted, and for
  -- how long it may stay undecided
  abbrev pub bare_account : ℕ → Option (TableOp K V) → List (Want K V E × Got K V E) → ℕ → Account K V E
  bare_account call begun notes left =
      record { call = call; begun = begun; made = Some (map noted notes); work = bare_work left }

  -- an empty cache allows what is wanted
  abbrev pub BareAllows : ℕ → Option (TableOp K V) → Want K V E → Type 0
  BareAllows left begun wish = (w : World K V E) × IsBare left w × MayWant w begun wish

  -- nothing was begun, noted or decided
  abbrev pub AsBefore : Option (TableOp K V) → List (Want K V E × Got K V E) → ℕ → Option (TableOp K V)
      → List (Want K V E × Got K V E) → ℕ → Type 0
  AsBefore begun notes left begun_now notes_now left_now =
      (begun_now ≡ begun) × (notes_now ≡ notes) × (left_now ≡ left)

  -- an empty cache served this access, which was noted as this want
  pub record BareServes (eq : K → K → Bool) (before : List (Want K V E × Got K V E)) (left : ℕ)
      (access : Access K V E) (wish : Want K V E) (given : Got K V E)
      (begun : Option (TableOp K V)) (now : List (Want K V E × Got K V E)) (left_now : ℕ) : Type 0 where
    pub gives : BareGives eq left access given left_now
    pub form : HasForm access given
    pub begins : begun ≡ still_begun access given
    pub lists : keys_in given ≤ left
    pub shortens : (keys : ℕ) → Shortens (record (bare_work left) { keys = keys_in given + keys })
        (record (bare_work left_now) { keys = keys }) access given
    pub notes : now ≡ before ++ (wish, given) ∷ []
    pub is_noted : noted (wish, given) ≡ (access, given)

  -- no world, where others make accesses meanwhile
  abbrev pub NoWorld : World K V E → Type 0
  NoWorld w = ⊥

  -- whatever is wanted
  abbrev pub AnyWant : Want K V E → Type 0
  AnyWant wish = Unit {0}

  -- just one access was noted
  abbrev pub NotesOne : List (Want K V E × Got K V E) → List (Want K V E × Got K V E) → Type 0
  NotesOne old new = length new ≡ length old + 1

  -- the accesses of a whole poll of a fresh get were noted, and nothing else
  abbrev pub NotesPoll : K → List (Want K V E × Got K V E) → List (Want K V E × Got K V E) → Type 0
  NotesPoll key old new =
      (parts : ℕ) × (rules : Rules) × (next : Next K V E)
      × TellsPoll 1 (fresh_call parts rules (start.Get key)) next (map noted old)
      (Some (map noted new))

  -- what is told of owed and logged writes, and of the owner that the call waits for
  pub bare_counts : (call left : ℕ) (w : World K V E) → IsBare left w → Counts call w (bare_work left)
  bare_counts call left w bare =
      record {
        owed = sym (ap length bare.owed);
        logged = sym (ap length bare.log);
        size = sym bare.size;
        ended = sym (ap (λ j. is_some (option_and_then w.desk.settled j)) (bare.joined call));
      }
