-- The desk stands for a state where one part of it changes.
use Rattle.std.proofs.Common.{ℕ, Bool, true, false, if◌then◌else◌, Option, Some, None}
use Rattle.std.specs.declared.cmp.PartialEq as PartialEq
use Rattle.std.specs.declared.hash.Hash as Hash
use Rattle.std.specs.declared.hash.Hasher as Hasher
use Rattle.std.specs.declared.hash.BuildHasher as BuildHasher
use Rattle.moka_hist.specs.Finite.{put_at}
use Rattle.moka_hist.specs.State.{DeskPart}
use Rattle.moka_hist.specs.Telling.{told_call}
use Rattle.moka_hist.specs.Visits.{claimed, claimed_alone}
use Rattle.moka_hist.specs.declared.events.Told.{Told}
use Rattle.moka_hist.specs.declared.loads.Load.{Load}
use Rattle.moka_desk.specs.Asks.{ask_part, AsksAre}
use Rattle.moka_desk.specs.Loads.{load_part, LoadsAre}
use Rattle.moka_desk.specs.StandsFor.{StandsFor}
use Rattle.moka_desk.specs.Waits.{WaitersAreListed, joined_to, settlement_line}
use Rattle.moka_desk.specs.declared.asks.Asks.{Asks}
use Rattle.moka_desk.specs.declared.lines.Lines.{Lines}
use Rattle.moka_desk.specs.declared.loads.Loads.{Loads}
use Rattle.moka_desk.specs.declared.state.Desk.{Desk}
use Rattle.moka_desk.proofs.Waiters.{owns_listed}

-- the loads and the lists change as a call joins an owner
pub join_stands : {K V E S H : Type 0} {same : PartialEq.Ghosts K} {hash : Hash.Ghosts K} {build : BuildHasher.Ghosts S H} {hasher : Hasher.Ghosts H} (eq : K → K → Bool) (desk : Desk K V E S H same hash build hasher) (w : DeskPart K V E) → StandsFor eq desk w →
    (call owner : ℕ) (loads : Loads K V E S H same hash build hasher) (settlements : Lines) → LoadsAre eq loads (load_part (joined_to w call owner)) →
    WaitersAreListed (record desk { loads = loads; waits = record desk.waits { settlements = settlements } }) (joined_to w call owner) →
    StandsFor eq (record desk { loads = loads; waits = record desk.waits { settlements = settlements } }) (joined_to w call owner)
join_stands eq desk w h call owner loads settlements are listed = record {
  rules = h.rules;
  clock = h.clock;
  valid_after = h.valid_after;
  predicates = h.predicates;
  accessed = h.accessed;
  turn = h.turn;
  published = h.published;
  last = h.last;
  writes = h.writes;
  loads = are;
  locks = h.locks;
  notices = h.notices;
  asks = h.asks;
  listed = listed;
}

-- the loads change as a call comes to own
pub own_stands : {K V E S H : Type 0} {same : PartialEq.Ghosts K} {hash : Hash.Ghosts K} {build : BuildHasher.Ghosts S H} {hasher : Hasher.Ghosts H} (eq : K → K → Bool) (desk : Desk K V E S H same hash build hasher) (w : DeskPart K V E) → StandsFor eq desk w →
    (call : ℕ) (load : Load K) (loads : Loads K V E S H same hash build hasher) → LoadsAre eq loads (load_part (claimed eq w call load None)) →
    StandsFor eq (record desk { loads = loads }) (claimed eq w call load None)
own_stands eq desk w h call load loads are = record {
  rules = h.rules;
  clock = h.clock;
  valid_after = h.valid_after;
  predicates = h.predicates;
  accessed = h.accessed;
  turn = h.turn;
  published = h.published;
  last = h.last;
  writes = h.writes;
  loads = are;
  locks = h.locks;
  notices = h.notices;
  asks = h.asks;
  listed = owns_listed (settlement_line desk) w.joined w.settled w.owning h.listed call load;
}

-- the loads change as a claim does that waits for nobody
pub alone_stands : {K V E S H : Type 0} {same : PartialEq.Ghosts K} {hash : Hash.Ghosts K} {build : BuildHasher.Ghosts S H} {hasher : Hasher.Ghosts H} (eq : K → K → Bool) (desk : Desk K V E S H same hash build hasher) (w : DeskPart K V E) → StandsFor eq desk w →
    (call : ℕ) (load : Load K) (owner : Option ℕ) (loads : Loads K V E S H same hash build hasher) → LoadsAre eq loads (load_part (claimed_alone eq w call load owner)) →
    StandsFor eq (record desk { loads = loads }) (claimed_alone eq w call load owner)
alone_stands eq desk w h call load None loads are = own_stands eq desk w h call load loads are
alone_stands eq desk w h call load (Some owner) loads are = record {
  rules = h.rules;
  clock = h.clock;
  valid_after = h.valid_after;
  predicates = h.predicates;
  accessed = h.accessed;
  turn = h.turn;
  published = h.published;
  last = h.last;
  writes = h.writes;
  loads = are;
  locks = h.locks;
  notices = h.notices;
  asks = h.asks;
  listed = h.listed;
}

-- the asks change as one is told its answer, or not at all
pub told_stands : {K V E S H : Type 0} {same : PartialEq.Ghosts K} {hash : Hash.Ghosts K} {build : BuildHasher.Ghosts S H} {hasher : Hasher.Ghosts H} (eq : K → K → Bool) (desk : Desk K V E S H same hash build hasher) (w : DeskPart K V E) → StandsFor eq desk w →
    (call : ℕ) (answer : Told V E) (asks : Asks V E) (b : Bool) → AsksAre asks (if b then record { asks = put_at w.asks call None; told = put_at w.told call (Some answer) } else ask_part w) →
    StandsFor eq (record desk { asks = asks }) (if b then told_call w call answer else w)
told_stands eq desk w h call answer asks true are = record {
  rules = h.rules;
  clock = h.clock;
  valid_after = h.valid_after;
  predicates = h.predicates;
  accessed = h.accessed;
  turn = h.turn;
  published = h.published;
  last = h.last;
  writes = h.writes;
  loads = h.loads;
  locks = h.locks;
  notices = h.notices;
  asks = are;
  listed = h.listed;
}
told_stands eq desk w h call answer asks false are = record {
  rules = h.rules;
  clock = h.clock;
  valid_after = h.valid_after;
  predicates = h.predicates;
  accessed = h.accessed;
  turn = h.turn;
  published = h.published;
  last = h.last;
  writes = h.writes;
  loads = h.loads;
  locks = h.locks;
  notices = h.notices;
  asks = are;
  listed = h.listed;
}
