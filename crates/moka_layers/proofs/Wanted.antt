-- Which access is wanted, and what it finds begun.
use Rattle.std.proofs.Common.{◌≡◌, ◌≢◌, ◌≤◌, ℕ, ◌+◌, Bool, true, false, cond, Option, Some, None, IfSome, IsSome, is_some, refl, sym, ap, subst, ◌∙◌, arith}
use Rattle.std.specs.declared.cmp.PartialEq as PartialEq
use Rattle.std.specs.declared.hash.Hash as Hash
use Rattle.std.specs.declared.hash.Hasher as Hasher
use Rattle.std.specs.declared.hash.BuildHasher as BuildHasher
use Rattle.moka_hist.specs.Bound.{stayed, times_of, most_undecided}
use Rattle.moka_hist.specs.Conditions.{MayVisit}
use Rattle.moka_hist.specs.Finite.{put_at}
use Rattle.moka_hist.specs.State.{DeskPart, Listed, TablePart, World}
use Rattle.moka_hist.specs.Step.{Access, Gets, May}
use Rattle.moka_hist.specs.Tables.{Operates, begun, listings_begun}
use Rattle.moka_hist.specs.Step as step
use Rattle.moka_hist.specs.Visits.{makes, claimed, claimed_alone, is_unlocked_for, locked_by, settlement_for, readers_without, settled_without}
use Rattle.moka_hist.specs.declared.tables.TableOp.{TableOp}
use Rattle.moka_hist.specs.declared.tables.TableOp.TheVariants as op
use Rattle.moka_hist.specs.declared.tables.TableTurn.TheVariants as table
use Rattle.moka_hist.specs.declared.loads.Kind.TheVariants as kind
use Rattle.moka_hist.specs.declared.visits.Visit.{Visit}
use Rattle.moka_hist.specs.declared.visits.Visit.TheVariants as visit
use Rattle.moka_hist.specs.declared.visits.Found.{Found}
use Rattle.moka_hist.specs.declared.accesses.Want.{Want}
use Rattle.moka_hist.specs.declared.accesses.Want.TheVariants as want
use Rattle.moka_hist.specs.declared.accesses.Got.{Got}
use Rattle.moka_hist.specs.declared.accesses.Got.TheVariants as got
use Rattle.moka_init.specs.Grounds.{Accesses, MayWant, wanted}
use Rattle.moka_hist.specs.declared.record_tests.Tests as Tests
use Rattle.moka_ids.specs.declared.pcg_ids.PcgIds.{PcgIds}
use Rattle.moka_table.specs.declared.table.Table as Table
use Rattle.moka_desk.specs.declared.state.Desk.{Desk}
use Rattle.moka_layers.specs.Layers.{BegunIs, GroundIs, LayersStay, OthersStay, Serves, account_of, left_in, most_on, operation_in}
use Rattle.moka_layers.specs.Listings.{ListingIs, ListsFor}
use Rattle.moka_layers.proofs.Listings.{begun_other, begun_twice, lists_back, lists_begin, lists_there}
use Rattle.moka_layers.specs.Handing.{IsHanded, handed_by, ids_of}
use Rattle.moka_layers.specs.Visiting.{DeskStays, VisitBy}
use Rattle.moka_layers.specs.declared.layers.Layers.{Layers}

module _ {K V E : Type 0} where
  one : (a b : Access K V E) → Some a ≡ Some b → a ≡ b
  one a b e = cc

  -- a world allows what is to begin, or a visit, where nothing is begun
  pub begin_may : (w : World K V E) (begun : Option (TableOp K V)) (wish : Want K V E) (o : TableOp K V) → wish ≡ want.Begin o → MayWant w begun wish → begun ≡ None
  begin_may w begun wish o is may = by begun (subst (λ (v : Want K V E). MayWant w begun v) is may)
    where
      by : (b : Option (TableOp K V)) → MayWant w b (want.Begin o) → b ≡ None
      by None may = refl
      by (Some x) may = absurd may

  pub visit_may : (w : World K V E) (begun : Option (TableOp K V)) (wish : Want K V E) (v : Visit K V E) → wish ≡ want.Desk v → MayWant w begun wish
      → (begun ≡ None) × MayVisit w.desk v
  visit_may w begun wish v is may = by begun (subst (λ (x : Want K V E). MayWant w begun x) is may)
    where
      by : (b : Option (TableOp K V)) → MayWant w b (want.Desk v) → (b ≡ None) × MayVisit w.desk v
      by None may = (refl, may)
      by (Some x) may = absurd may

  -- one that is gone on with was begun
  pub table_may : (w : World K V E) (begun : Option (TableOp K V)) (wish : Want K V E) → wish ≡ want.Table → MayWant w begun wish → IsSome begun
  table_may w begun wish is may = by begun (subst (λ (v : Want K V E). MayWant w begun v) is may)
    where
      by : (b : Option (TableOp K V)) → MayWant w b want.Table → IsSome b
      by None may = absurd may
      by (Some x) may = refl

  -- what is wanted then
  pub wanted_begin : (begun : Option (TableOp K V)) (wish : Want K V E) (access : Access K V E) (o : TableOp K V) → wish ≡ want.Begin o → wanted begun wish ≡ Some access
      → step.On_table o ≡ access
  wanted_begin begun wish access o is e = by begun (subst (λ (v : Want K V E). wanted begun v ≡ Some access) is e)
    where
      by : (b : Option (TableOp K V)) → wanted b (want.Begin o) ≡ Some access → step.On_table o ≡ access
      by None e = one _ _ e
      by (Some x) e = absurd (cc)

  pub wanted_visit : (begun : Option (TableOp K V)) (wish : Want K V E) (access : Access K V E) (v : Visit K V E) → wish ≡ want.Desk v → wanted begun wish ≡ Some access
      → step.On_desk v ≡ access
  wanted_visit begun wish access v is e = by begun (subst (λ (x : Want K V E). wanted begun x ≡ Some access) is e)
    where
      by : (b : Option (TableOp K V)) → wanted b (want.Desk v) ≡ Some access → step.On_desk v ≡ access
      by None e = one _ _ e
      by (Some x) e = absurd (cc)

  pub wanted_table : (begun : Option (TableOp K V)) (wish : Want K V E) (access : Access K V E) → wish ≡ want.Table → wanted begun wish ≡ Some access
      → (o : TableOp K V) × (begun ≡ Some o) × (step.On_table o ≡ access)
  wanted_table begun wish access is e = by begun (subst (λ (v : Want K V E). wanted begun v ≡ Some access) is e)
    where
      by : (b : Option (TableOp K V)) → wanted b want.Table ≡ Some access → (o : TableOp K V) × (b ≡ Some o) × (step.On_table o ≡ access)
      by None e = absurd (cc)
      by (Some o) e = (o, refl, one _ _ e)

  -- no visit gives a call number out
  pub last_same : (eq : K → K → Bool) (w : DeskPart K V E) (v : Visit K V E) → (makes eq w v).last ≡ w.last
  last_same eq w (visit.WaitOrOwn n key kind) = by (w.owners (record { key = key; kind = kind }))
    where
      by : (o : Option ℕ) → (claimed eq w n (record { key = key; kind = kind }) o).last ≡ w.last
      by None = refl
      by (Some owner) = refl
  last_same eq w (visit.OwnAlone n key) = by (w.owners (record { key = key; kind = kind.Compute }))
    where
      by : (o : Option ℕ) → (claimed_alone eq w n (record { key = key; kind = kind.Compute }) o).last ≡ w.last
      by None = refl
      by (Some owner) = refl
  last_same eq w (visit.ReadSettled n) = by (is_some (settlement_for w n))
    where
      by : (b : Bool) → (cond b (record w { joined = put_at w.joined n None; readers = readers_without w n; settled = settled_without w n }) w).last ≡ w.last
      by true = refl
      by false = refl
  last_same eq w (visit.LockKey n key) = by (is_unlocked_for w n key)
    where
      by : (b : Bool) → (locked_by eq w n key b).last ≡ w.last
      by true = refl
      by false = refl
  last_same eq w _ = refl

module _ {K V T C : Type 0} (t : Table.Ghosts T K V C) where
  -- an operation that was begun is of something
  pub none_begun : (table : T) (begun : Option C) → IfSome begun (λ c. t.fits table c × IsSome (t.operation_of c)) → operation_in t begun ≡ None → begun ≡ None
  none_begun table None fits e = refl
  none_begun table (Some c) fits e = let none : false ≡ true = subst (λ (o : Option (TableOp K V)). IsSome o) e fits.1 in absurd (cc)

  pub some_begun : (begun : Option C) → IsSome (operation_in t begun) → IsSome begun
  some_begun None e = e
  some_begun (Some c) e = refl

-- the world where the list is begun of a call that begins this operation
abbrev pub with_list : {K V E : Type 0} → World K V E → ℕ → TableOp K V → World K V E
with_list w n o = record w { table = begun w.table n o }

one_operation : {K V : Type 0} {a b : TableOp K V} → Some a ≡ Some b → a ≡ b
one_operation e = cc

module _ {K V E : Type 0} (eq : K → K → Bool) where
  -- what is given where the list was begun is given where it begins
  pub gets_begun : (n : ℕ) (o : TableOp K V) (w : World K V E) (given : Got K V E) (after : World K V E) → Gets eq n (with_list w n o) (step.On_table o) given after
      → Gets eq n w (step.On_table o) given after
  gets_begun n o w (got.Table table.Going) after gets = (
    gets.0,
    gets.1 ∙ ap (λ (p : TablePart K V). record w { table = p; stay = stayed w.stay n }) (begun_twice w.table n o),
  )
  gets_begun n o w (got.Table (table.Decided answer)) after gets =
      (gets.0, subst (λ (p : TablePart K V). Operates eq n p o answer gets.0) (begun_twice w.table n o) gets.1, gets.2)
  gets_begun n o w (got.Desk f) after gets = gets

module _ {K V E T C : Type 0} (t : Table.Ghosts T K V C) where
  -- what another call has begun is there in both worlds
  there : (table : T) (w : World K V E) (n m : ℕ) (o : TableOp K V) (b : Option C) → n ≢ m → BegunIs t table m b w.table w.stay
      → BegunIs t table m b (begun w.table n o) w.stay
  there table w n m o None apart was = record {
    fits = was.fits;
    within = was.within;
    patient = was.patient;
    listing = begun_other w.table n m o apart ∙ was.listing;
  }
  there table w n m o (Some c) apart was = record {
    fits = was.fits;
    within = was.within;
    patient = was.patient;
    listing = λ a is_a.
        lists_there t table c w.table n o a (listings_begun w.table n o m)
        (subst (λ (l : Option (Listed K)). ListsFor t table c w.table l a) (sym (begun_other w.table n m o apart)) (was.listing a is_a));
  }

  back : (table : T) (w : World K V E) (n m : ℕ) (o : TableOp K V) (b : Option C) → n ≢ m → BegunIs t table m b (begun w.table n o) w.stay
      → BegunIs t table m b w.table w.stay
  back table w n m o None apart was = record {
    fits = was.fits;
    within = was.within;
    patient = was.patient;
    listing = sym (begun_other w.table n m o apart) ∙ was.listing;
  }
  back table w n m o (Some c) apart was = record {
    fits = was.fits;
    within = was.within;
    patient = was.patient;
    listing = λ a is_a.
        subst (λ (l : Option (Listed K)). ListsFor t table c w.table l a) (begun_other w.table n m o apart)
        (lists_back t table c w.table n o a (listings_begun w.table n o m) (was.listing a is_a));
  }

module _ {K V E T C Q S H : Type 0} {same : PartialEq.Ghosts K} {hash : Hash.Ghosts K} {build : BuildHasher.Ghosts S H} {hasher : Hasher.Ghosts H} (t : Table.Ghosts T K V C) (q : Tests.Ghosts Q K V) (eq : K → K → Bool) where
  -- the calls of others are there as they were
  pub others_begun : (layers new : Layers K V E T C Q S H same hash build hasher) (begun_call : Option C) (o : TableOp K V) (w after : World K V E)
      → OthersStay t (record layers { begun = begun_call }) (with_list w layers.call o) new after → OthersStay t layers w new after
  others_begun layers new begun_call o w after stay = λ m b apart was.
      stay m b apart (there t layers.table w layers.call m o b apart was)

  -- and where nothing was begun after all
  pub others_still : (layers new : Layers K V E T C Q S H same hash build hasher) (begun_call : Option C) (o : TableOp K V) (w : World K V E)
      → OthersStay t (record layers { begun = begun_call }) (with_list w layers.call o) new (with_list w layers.call o) → OthersStay t layers w new w
  others_still layers new begun_call o w stay = λ m b apart was.
      back t new.table w layers.call m o b apart (stay m b apart (there t layers.table w layers.call m o b apart was))

  -- the layers for a call that begins an operation
  -- in the world where its list is begun, too
  pub begins : (layers : Layers K V E T C Q S H same hash build hasher) (c : C) (o : TableOp K V) (w : World K V E) → layers.begun ≡ None → t.operation_of c ≡ Some o → t.fits layers.table c
      → t.left layers.table c ≤ most_on t layers.table
      → ((p : ℕ) → o ≡ op.Keys p → (q : K) → t.listed layers.table c q → ⊥)
      → ((p : ℕ) → o ≡ op.Keys p → (q : K) → t.part_of layers.table q ≡ p → t.covers layers.table c q)
      → GroundIs eq t q layers w → GroundIs eq t q (record layers { begun = Some c }) (with_list w layers.call o)
  begins layers c o w none is_o fits left no_key all h =
      let patient : times_of w.stay layers.call + most_on t layers.table ≤ most_undecided w.table =
      subst (λ (b : Option C). times_of w.stay layers.call + left_in t layers.table b ≤ most_undecided w.table) none h.begun.patient in
      let unlisted : w.table.listings layers.call ≡ None =
      subst (λ (b : Option C). ListingIs t layers.table b w.table (w.table.listings layers.call)) none h.begun.listing in
      let is = h.world.table in
      record {
        world = record {
          table = record { map = is.map; keys = is.keys; peak = is.peak; first = is.first; parts = is.parts; part_of = is.part_of };
          desk = h.world.desk;
          handed = h.world.handed;
          stay = h.world.stay;
        };
        begun = record {
          fits = (fits, subst (λ (x : Option (TableOp K V)). IsSome x) (sym is_o) refl);
          within = left;
          patient = omega (arith, patient, left);
          listing = λ a is_a.
              subst (λ (x : TableOp K V). ListsFor t layers.table c (begun w.table layers.call o) (listings_begun w.table layers.call o layers.call) x)
              (one_operation (sym is_o ∙ is_a)) (lists_begin t layers.table c w.table layers.call o is.part_of unlisted no_key all);
        };
        given = h.given;
      }

  -- the layers where the operation ends that was begun without memory: none is begun, as before
  pub begins_none : (old new : Layers K V E T C Q S H same hash build hasher) (w : World K V E) → old.begun ≡ None → new.call ≡ old.call → most_on t new.table ≡ most_on t old.table
      → (o : TableOp K V) → GroundIs eq t q old w → GroundIs eq t q new (with_list w old.call o) → GroundIs eq t q (record new { begun = None }) w
  begins_none old new w none call most o was h =
      let patient : times_of w.stay old.call + most_on t old.table ≤ most_undecided w.table =
      subst (λ (b : Option C). times_of w.stay old.call + left_in t old.table b ≤ most_undecided w.table) none was.begun.patient in
      let is = h.world.table in
      record {
        world = record {
          table = record { map = is.map; keys = is.keys; peak = is.peak; first = is.first; parts = is.parts; part_of = is.part_of };
          desk = h.world.desk;
          handed = h.world.handed;
          stay = h.world.stay;
        };
        begun = record {
          fits = tt;
          within = omega arith;
          patient = rw (call, most) patient;
          listing = ap (λ n. w.table.listings n) call
              ∙ subst (λ (b : Option C). ListingIs t old.table b w.table (w.table.listings old.call)) none was.begun.listing;
        };
        given = h.given;
      }

  pub begin_tells : (layers : Layers K V E T C Q S H same hash build hasher) (c : C) (o : TableOp K V) (given : Got K V E) (new : Layers K V E T C Q S H same hash build hasher) → layers.begun ≡ None
      → t.left layers.table c ≤ most_on t layers.table
      → Accesses (account_of t (record layers { begun = Some c })) (step.On_table o) given (account_of t new)
      → Accesses (account_of t layers) (step.On_table o) given (account_of t new)
  begin_tells layers c o given new none left told =
      let most : left_in t layers.table layers.begun ≡ most_on t layers.table = ap (λ b. left_in t layers.table b) none in
      record {
        form = told.form;
        call = told.call;
        begun = told.begun;
        tells = told.tells;
        lists = told.lists;
        shortens = λ keys. record {
          within = (told.shortens keys).within;
          raises = (told.shortens keys).raises;
          going = λ e. let less = (told.shortens keys).going e in omega (arith, less, left, most);
          keys = (told.shortens keys).keys;
        };
      }

  -- the layers of a call that goes on with its operation
  pub with_begun : (layers : Layers K V E T C Q S H same hash build hasher) (c : C) → layers.begun ≡ Some c → record layers { begun = Some c } ≡ layers
  with_begun layers c e = ap (λ b. record layers { begun = b }) (sym e)

  -- a visit, where nothing is begun
  pub visit_serves : (table : T) (tests : Q) (ids left : PcgIds) (old new : Desk K V E S H same hash build hasher) (n : ℕ) (begun : Option C) (v : Visit K V E) (f : Found V E) → begun ≡ None
      → VisitBy eq (handed_by q tests (ids_of ids)) old v f new (handed_by q tests (ids_of left))
      → Serves eq t q (record { table = table; desk = old; tests = tests; ids = ids; call = n; begun = begun }) (step.On_desk v) (got.Desk f)
      (record { table = table; desk = new; tests = tests; ids = left; call = n; begun = begun })
  visit_serves table tests ids left old new n begun v f none is =
      subst (λ (b : Option C). Serves eq t q (record { table = table; desk = old; tests = tests; ids = ids; call = n; begun = begun }) (step.On_desk v) (got.Desk f)
      (record { table = table; desk = new; tests = tests; ids = left; call = n; begun = b })) (sym none) serves
    where
      serves : Serves eq t q (record { table = table; desk = old; tests = tests; ids = ids; call = n; begun = begun }) (step.On_desk v) (got.Desk f)
          (record { table = table; desk = new; tests = tests; ids = left; call = n; begun = None })
      serves = λ w h may.
          let m = is.made w.desk h.world.desk h.world.handed may in
          let last = last_same eq w.desk v in
          let stay = h.world.stay in
          let given = h.given in
          let patient : times_of w.stay n + most_on t table ≤ most_undecided w.table =
          subst (λ (b : Option C). times_of w.stay n + left_in t table b ≤ most_undecided w.table) none h.begun.patient in (
            record w { desk = makes eq w.desk v },
            (m.0, refl),
            record {
              world = record { table = h.world.table; desk = m.1; handed = m.2; stay = omega (arith, stay, last) };
              begun = record {
                fits = tt;
                within = omega arith;
                patient = patient;
                listing = subst (λ (b : Option C). ListingIs t table b w.table (w.table.listings n)) none h.begun.listing;
              };
              given = omega (arith, given, last);
            },
            (λ m begun apart stays. stays),
          )

  -- ids that are to come alike leave the layers what they stood for
  pub ids_stay : (table : T) (tests : Q) (ids left : PcgIds) (old new : Desk K V E S H same hash build hasher) (n : ℕ) (begun : Option C) → ids_of left ≡ ids_of ids → DeskStays eq old new
      → LayersStay eq t q (record { table = table; desk = old; tests = tests; ids = ids; call = n; begun = begun })
      (record { table = table; desk = new; tests = tests; ids = left; call = n; begun = begun })
  ids_stay table tests ids left old new n begun alike stays = λ w h. (
    record {
      world = record {
        table = h.world.table;
        desk = stays w.desk h.world.desk;
        handed = subst (λ (i : ℕ → ℕ). IsHanded (handed_by q tests i) w.desk) (sym alike) h.world.handed;
        stay = h.world.stay;
      };
      begun = h.begun;
      given = h.given;
    },
    (λ m begun apart was. was),
  )
