-- The predicate is registered as the reference's visit does it, or memory was wanting.
use Rattle.std.proofs.Common.{◌≡◌, ◌≢◌, ℕ, Bool, true, refl, sym, ap, subst, ◌∙◌}
use Rattle.std.specs.Prelude.{Result, Ok, Err, IfOk, OnErr, MatchResult}
use Rattle.std.specs.declared.cmp.PartialEq as PartialEq
use Rattle.std.specs.declared.hash.Hash as Hash
use Rattle.std.specs.declared.hash.Hasher as Hasher
use Rattle.std.specs.declared.hash.BuildHasher as BuildHasher
use Rattle.moka_hist.specs.State.{DeskPart, Handed}
use Rattle.moka_hist.specs.Visits.{registered_with, registering}
use Rattle.moka_hist.specs.declared.predicates.PredicateError.{PredicateError}
use Rattle.moka_hist.specs.declared.predicates.PredicateError.TheVariants as refused
use Rattle.moka_hist.specs.declared.visits.Found.{Found}
use Rattle.moka_hist.specs.declared.visits.Found.TheVariants as found
use Rattle.moka_hist.specs.declared.visits.Visit.TheVariants as visit
use Rattle.moka_desk.specs.Predicates.{Draws, OnMemory, UnlessMemory}
use Rattle.moka_desk.specs.StandsFor.{StandsFor}
use Rattle.moka_desk.specs.declared.state.Desk.{Desk}
use Rattle.moka_layers.specs.Handing.{ids_of}
use Rattle.moka_layers.specs.Visiting.{DeskStays, VisitBy, VisitLacks}
use Rattle.moka_layers.proofs.visits.register.Goals as goal

unless_memory : (why : PredicateError) (Holds : Type 0) → why ≢ refused.Memory → UnlessMemory (Err why) Holds → Holds
unless_memory refused.Memory Holds other h = absurd (other refl)
unless_memory refused.NoId Holds other h = h
unless_memory refused.InvalidationClosuresDisabled Holds other h = h

on_memory : (why : PredicateError) (Holds : Type 0) → why ≡ refused.Memory → OnMemory (Err why) Holds → Holds
on_memory refused.Memory Holds is h = h
on_memory refused.NoId Holds is h = absurd (cc)
on_memory refused.InvalidationClosuresDisabled Holds is h = absurd (cc)

module _ {V E F : Type 0} (why : PredicateError) where
  found_so : (r : Result (Found V E) F) (P : Found V E → Type 0)
      → MatchResult r (λ f. (f ≡ found.Register (Err why)) × (why ≢ refused.Memory)) (λ _. why ≡ refused.Memory)
      → (why ≢ refused.Memory → P (found.Register (Err why))) → IfOk r P
  found_so (Ok f) P is there = subst P (sym is.0) (there is.1)
  found_so (Err e) P is there = tt

  wanted_so : (r : Result (Found V E) F) (P : Type 0)
      → MatchResult r (λ f. (f ≡ found.Register (Err why)) × (why ≢ refused.Memory)) (λ _. why ≡ refused.Memory)
      → (why ≡ refused.Memory → P) → OnErr r P
  wanted_so (Ok f) P is there = tt
  wanted_so (Err e) P is there = there is

module _ {K V E S H : Type 0} {same : PartialEq.Ghosts K} {hash : Hash.Ghosts K} {build : BuildHasher.Ghosts S H} {hasher : Hasher.Ghosts H} where
  abbrev Finds : (K → K → Bool) → Desk K V E S H same hash build hasher → (ℕ → ℕ) → Result ℕ PredicateError → Type 0
  Finds eq old before r = (w : DeskPart K V E) → StandsFor eq old w → Draws before w → r ≡ registering w

  abbrev Makes : (K → K → Bool) → Desk K V E S H same hash build hasher → (ℕ → ℕ) → ℕ → Desk K V E S H same hash build hasher → Type 0
  Makes eq old before test new = (w : DeskPart K V E) → StandsFor eq old w → Draws before w → StandsFor eq new (registered_with w test)

  abbrev Leaves : (K → K → Bool) → Desk K V E S H same hash build hasher → (ℕ → ℕ) → ℕ → (ℕ → ℕ) → Type 0
  Leaves eq old before test left = (w : DeskPart K V E) → StandsFor eq old w → Draws before w → Draws left (registered_with w test)

  abbrev Registers : (K → K → Bool) → Desk K V E S H same hash build hasher → (ℕ → ℕ) → ℕ → Desk K V E S H same hash build hasher → (ℕ → ℕ) → Found V E → Type 0
  Registers eq old before test new left f =
      (handed : Handed K V) → VisitBy eq (record handed { ids = before }) old (visit.Register test) f new (record handed { ids = left })

  registers_so : (eq : K → K → Bool) (old : Desk K V E S H same hash build hasher) (before : ℕ → ℕ) (test : ℕ) (new : Desk K V E S H same hash build hasher) (left : ℕ → ℕ) (r : Result ℕ PredicateError)
      → Finds eq old before r → Makes eq old before test new → Leaves eq old before test left → Registers eq old before test new left (found.Register r)
  registers_so eq old before test new left r finds makes leaves handed = record {
    form = (r, refl);
    made = λ w h is may. (
      ap found.Register (finds w h is.ids),
      makes w h is.ids,
      record { tests = is.tests; predicates = is.predicates; ids = leaves w h is.ids },
    );
  }

pub returns-in-Ok-clause-ok : goal.returns-in-Ok-clause-ok
returns-in-Ok-clause-ok g c =
    let is = c.in-Ok.ensures in
    let eq = g.K.PartialEq.eq in
    let old = c.args.desk.now in
    let before = ids_of c.args.ids.now in
    let left = ids_of c.register.new.ids in
    subst (λ id. Registers eq old before c.args.test c.register.new.self left (found.Register (Ok id))) (sym c.new.ensures)
    (registers_so eq old before c.args.test c.register.new.self left (Ok c.in-Ok.id) is.finds is.makes is.draws)

pub returns-in-Err-clause-ok : goal.returns-in-Err-clause-ok
returns-in-Err-clause-ok g c =
    let why = c.in-Err.why in
    let is = c.in-Err.ensures in
    let eq = g.K.PartialEq.eq in
    let old = c.args.desk.now in
    let new = c.register.new.self in
    let test = c.args.test in
    let before = ids_of c.args.ids.now in
    let left = ids_of c.register.new.ids in
    found_so why c.unregistered.result (Registers eq old before test new left) c.unregistered.ensures (λ other.
    registers_so eq old before test new left (Err why)
    (unless_memory why (Finds eq old before (Err why)) other is.finds)
    (unless_memory why (Makes eq old before test new) other is.makes)
    (unless_memory why (Leaves eq old before test left) other is.draws))

pub returns-in-Err-clause-err : goal.returns-in-Err-clause-err
returns-in-Err-clause-err g c =
    let stays = DeskStays g.K.PartialEq.eq c.args.desk.now c.register.new.self in
    wanted_so c.in-Err.why c.unregistered.result stays c.unregistered.ensures (λ is. on_memory c.in-Err.why stays is c.in-Err.ensures.err)

pub returns-in-Err-clause-err_ids : goal.returns-in-Err-clause-err_ids
returns-in-Err-clause-err_ids g c =
    wanted_so c.in-Err.why c.unregistered.result (ids_of c.register.new.ids ≡ ids_of c.args.ids.now) c.unregistered.ensures (λ is.
    ap ids_of (on_memory c.in-Err.why (c.register.new.ids ≡ c.args.ids.now) is c.in-Err.ensures.undrawn))

pub returns-in-Err-clause-err_needs : goal.returns-in-Err-clause-err_needs
returns-in-Err-clause-err_needs g c =
    wanted_so c.in-Err.why c.unregistered.result ((handed : Handed g.row.K.Denot g.row.V.Denot) → VisitLacks g.K.PartialEq.eq handed c.args.desk.now (visit.Register c.args.test)) c.unregistered.ensures (λ is handed w h so.
    ap (λ r. r.closures) (sym h.rules) ∙ on_memory c.in-Err.why (c.args.desk.now.rules.closures ≡ true) is c.in-Err.ensures.needs)
