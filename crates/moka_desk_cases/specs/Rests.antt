-- A desk between the visits of these tests.
use Rattle.std.specs.Prelude.{◌≡◌, ℕ, false, List, [], Option, Some, None, IsNone, nat_eq}
use Rattle.std.specs.declared.cmp.PartialEq as PartialEq
use Rattle.std.specs.declared.hash.Hash as Hash
use Rattle.std.specs.declared.hash.Hasher as Hasher
use Rattle.std.specs.declared.hash.BuildHasher as BuildHasher
use Rattle.moka_hist.specs.State.{DeskPart, Handed, fresh_desk}
use Rattle.moka_hist.specs.declared.rules.Rules.{Rules}
use Rattle.moka_hist.specs.declared.writes.Write.{Write}
use Rattle.moka_desk.specs.StandsFor.{StandsFor}
use Rattle.moka_desk.specs.declared.state.Desk.{Desk}

-- no test and no predicate holds, and the ids are the numbers from 0
abbrev pub none_handed : {K V : Type 0} → Handed K V
none_handed = record {
  tests = λ test key value. false;
  predicates = λ test key value. false;
  ids = λ number. number;
}

-- the state by these rules, with a log of four writes, where nothing has happened
abbrev pub untouched : Rules → DeskPart ℕ ℕ ℕ
untouched rules = fresh_desk ℕ ℕ ℕ rules 4 none_handed

-- nothing has happened on the desk
abbrev pub IsNew : {S H : Type 0} {same : PartialEq.Ghosts ℕ} {hash : Hash.Ghosts ℕ}
    {build : BuildHasher.Ghosts S H} {hasher : Hasher.Ghosts H} →
    Desk ℕ ℕ ℕ S H same hash build hasher → Type 0
IsNew desk = (rules : Rules) × StandsFor nat_eq desk (untouched rules)

-- the state where nobody holds a write or has the turn, nothing is owed or logged in a log of four,
-- and these writes were applied
abbrev pub resting : DeskPart ℕ ℕ ℕ → List Write → DeskPart ℕ ℕ ℕ
resting w writes = record w {
  holding = λ _. None;
  owed = [];
  log = [];
  applied = writes;
  turn = None;
  size = 4;
}

-- the desk stands for such a state
abbrev pub RestsOnDesk : {S H : Type 0} {same : PartialEq.Ghosts ℕ} {hash : Hash.Ghosts ℕ}
    {build : BuildHasher.Ghosts S H} {hasher : Hasher.Ghosts H} →
    Desk ℕ ℕ ℕ S H same hash build hasher →
    List Write → Type 0
RestsOnDesk desk writes = (w : DeskPart ℕ ℕ ℕ) × StandsFor nat_eq desk (resting w writes)

-- the desk stands for a state where nobody holds a write
abbrev pub NobodyHolds : {S H : Type 0} {same : PartialEq.Ghosts ℕ} {hash : Hash.Ghosts ℕ}
    {build : BuildHasher.Ghosts S H} {hasher : Hasher.Ghosts H} →
    Desk ℕ ℕ ℕ S H same hash build hasher → Type 0
NobodyHolds desk =
    (w : DeskPart ℕ ℕ ℕ) × StandsFor nat_eq desk (record w { holding = λ _. None })

-- the desk stands for a state where this call, if any, has the turn
abbrev pub HasTurn : {S H : Type 0} {same : PartialEq.Ghosts ℕ} {hash : Hash.Ghosts ℕ}
    {build : BuildHasher.Ghosts S H} {hasher : Hasher.Ghosts H} →
    Desk ℕ ℕ ℕ S H same hash build hasher →
    Option ℕ → Type 0
HasTurn desk call = (w : DeskPart ℕ ℕ ℕ) × StandsFor nat_eq desk (record w { turn = call })

-- the desk stands for a state where the lock of the key 5 is held under the number 1, and none under
-- the number 2
abbrev pub LockIsFirsts : {S H : Type 0} {same : PartialEq.Ghosts ℕ} {hash : Hash.Ghosts ℕ}
    {build : BuildHasher.Ghosts S H} {hasher : Hasher.Ghosts H} →
    Desk ℕ ℕ ℕ S H same hash build hasher → Type 0
LockIsFirsts desk =
    (w : DeskPart ℕ ℕ ℕ) × StandsFor nat_eq desk w
    × (w.locks 5 ≡ Some 1) × IsNone (w.locked 2) × IsNone (w.kept 2)
