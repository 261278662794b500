-- What claims stand for.
use Rattle.std.specs.Prelude.{◌≡◌, ◌≢◌, ◌⊎◌, ℕ, nat_eq, Bool, true, false, cond, List, Option, Some, None, is_some}
use Rattle.std.specs.HashMap.{get, HashMap}
use Rattle.std.specs.Option.{option_map}
use Rattle.std.specs.declared.hash.FoldHasher.{FoldHasher}
use Rattle.std.specs.declared.hash.BuildHasherDefault.{BuildHasherDefault}
use Rattle.moka_evaluator.specs.Claimed.{Claimed}
use Rattle.moka_hist.specs.Finite.{put_at}
use Rattle.moka_hist.specs.declared.events.Start.TheVariants as start
use Rattle.moka_hist.specs.declared.loads.Kind.TheVariants as kind
use Rattle.moka_hist.specs.declared.loads.Load.{Load}
use Rattle.moka_polled.specs.Polled.{IsPolled}
use Rattle.moka_small.specs.Polled.{value_under}
use Rattle.moka_small.specs.Small.{End, With_value, Stand, Begun, Asks, Was_told, Waits, Small}
use Rattle.moka_claims.specs.declared.claims.Claims.{Claims}
use Rattle.moka_claims.specs.declared.claims.Seat.{Seat}
use Rattle.moka_claims.specs.declared.look.Look.{Look}
use Rattle.moka_claims.specs.declared.look.Look.TheVariants as look

-- a look at a rule that has this value, if it is known
abbrev pub looked_at : Claimed → ℕ → ℕ → Bool → Option ℕ → Look × Claimed
looked_at claimed q r waits (Some value) =
    (look.Value value, record claimed { seeks = put_at claimed.seeks q None })
looked_at claimed q r waits None =
    cond (claimed.held r)
    (look.Waits waits, record claimed { seeks = put_at claimed.seeks q (Some (r, true)) }) (
      look.Holds,
      record claimed { held = put_at claimed.held r true; seeks = put_at claimed.seeks q None },
    )

-- what a look of the query at the rule that it seeks comes to
abbrev pub looked : Claimed → ℕ → ℕ → Bool → Look × Claimed
looked claimed q r waits = looked_at claimed q r waits (claimed.known r)

-- ---- over a cache

-- the load of a rule
abbrev pub load_of : ℕ → Load ℕ
load_of r = record { key = r; kind = kind.GetWith }

-- where a call stands that seeks the rule: it waits for this owner, or has begun
abbrev pub stand_by : Bool → ℕ → ℕ → Stand ℕ ℕ (Unit {0})
stand_by true r owner = Waits owner (load_of r)
stand_by false r owner = Begun (start.GetWith r None)

-- where the call of a seat stands
abbrev pub stand_of : Seat → ℕ → Stand ℕ ℕ (Unit {0})
stand_of seat owner = stand_by seat.waits seat.rule owner

-- The calls that hold rules, and those of seats, are those of the small state.
pub record Fits (calls : ℕ → Option ℕ) (seats : ℕ → Option Seat) (m : Small ℕ ℕ (Unit {0})) : Type 0 where
  pub holds : (r n : ℕ) → calls r ≡ Some n → m.stands n ≡ Some (Asks (load_of r))
  pub seated : (q : ℕ) (seat : Seat) → seats q ≡ Some seat →
      (owner : ℕ) × (m.stands seat.call ≡ Some (stand_of seat owner))
  pub asks : (n : ℕ) (load : Load ℕ) → m.stands n ≡ Some (Asks load) →
      (load ≡ load_of load.key) × (calls load.key ≡ Some n)
  pub untold : (n : ℕ) (load : Load ℕ) (end : End ℕ (Unit {0})) → m.stands n ≢ Some (Was_told load end)
  pub waits : (n o : ℕ) (load : Load ℕ) → m.stands n ≡ Some (Waits o load) →
      (q : ℕ) × (seat : Seat) × (seats q ≡ Some seat) × (seat.call ≡ n)
  -- an owner that has ended gave the value that is known
  pub ended : (n o : ℕ) (load : Load ℕ) (end : End ℕ (Unit {0})) → m.stands n ≡ Some (Waits o load) →
      m.ends o ≡ Some end → (v : ℕ) × (end ≡ With_value v) × (value_under m load.key ≡ Some v)
  pub one : (p q : ℕ) (a b : Seat) → seats p ≡ Some a → seats q ≡ Some b → a.call ≡ b.call → p ≡ q
  -- a rule that is known isn't held
  pub closed : (r v : ℕ) → value_under m r ≡ Some v → calls r ≡ None

-- what a seat says of its query
abbrev pub sought : Seat → ℕ × Bool
sought seat = (seat.rule, seat.waits)

-- what claims are kept in
abbrev pub Calls : Type 0
Calls = HashMap ℕ ℕ (BuildHasherDefault FoldHasher)

abbrev pub Seats : Type 0
Seats = HashMap ℕ Seat (BuildHasherDefault FoldHasher)

pub record IsClaims (claims : Claims) (claimed : Claimed) : Type 0 where
  pub small : Small ℕ ℕ (Unit {0})
  pub polled : IsPolled nat_eq claims.cache small
  pub fits : Fits (get nat_eq claims.calls) (get nat_eq claims.seats) small
  pub known : (r : ℕ) → value_under small r ≡ claimed.known r
  pub held : (r : ℕ) → is_some (get nat_eq claims.calls r) ≡ claimed.held r
  pub seeks : (q : ℕ) → option_map sought (get nat_eq claims.seats q) ≡ claimed.seeks q

-- it stands for claims of which P holds
abbrev pub IsStanding : Claims → (Claimed → Type 0) → Type 0
IsStanding claims P = (claimed : Claimed) × IsClaims claims claimed × P claimed

-- at most one call of the cache asks for the value of a rule
abbrev pub AsksOnce : Small ℕ ℕ (Unit {0}) → Type 0
AsksOnce m =
    (n k : ℕ) (a b : Load ℕ) → m.stands n ≡ Some (Asks a) → m.stands k ≡ Some (Asks b) → a.key ≡ b.key → n ≡ k
