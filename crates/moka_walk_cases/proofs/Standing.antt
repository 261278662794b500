-- Layers stand for some world after each access of a walk, and after a change that is made beside it.
use Rattle.std.proofs.Common.{◌≡◌, ◌≤◌, ℕ, ◌==◌, nat_eq, Bool, true, false, cond, Option, Some, None, IsSome, IfSome, Result, Ok, Err, IfOk, OnErr, refl, sym, subst, ◌∙◌, arith}
use Rattle.std.specs.declared.cmp.PartialEq as PartialEq
use Rattle.std.specs.declared.hash.Hash as Hash
use Rattle.std.specs.declared.hash.Hasher as Hasher
use Rattle.std.specs.declared.hash.BuildHasher as BuildHasher
use Rattle.moka_hist.specs.Bound.{times_of}
use Rattle.moka_hist.specs.State.{Listed, TablePart, World}
use Rattle.moka_hist.specs.Step.{Access, May}
use Rattle.moka_hist.specs.declared.accesses.Got.{Got}
use Rattle.moka_hist.specs.declared.accesses.Want.{Want}
use Rattle.moka_hist.specs.declared.tables.TableOp.{TableOp}
use Rattle.moka_hist.specs.declared.tables.TableOp.TheVariants as op
use Rattle.moka_init.specs.Grounds.{OfWanted, wanted}
use Rattle.moka_table.specs.Map.{most_steps}
use Rattle.moka_table.specs.declared.table.Table as Table
use Rattle.moka_layers.specs.Layers.{LayersStay, Serves, account_of, left_in, most_on, operation_in}
use Rattle.moka_layers.specs.Listings.{ListingIs, ListsFor}
use Rattle.moka_layers.specs.declared.layers.Layers.{Layers}
use Rattle.moka_walk_cases.specs.Standing.{MayGoOn, Stands, no_tests}
use Rattle.moka_walk_cases.specs.declared.no_tests.NoTests.{NoTests}

-- a list of which nothing is asked
abbrev listing_of : Option (TableOp ℕ ℕ) → Option (Listed ℕ)
listing_of None = None
listing_of (Some (op.Get key)) = None
listing_of (Some (op.InsertOrModify key stored)) = None
listing_of (Some (op.InsertIfAbsent key stored)) = None
listing_of (Some (op.RemoveIf key stamp)) = None
listing_of (Some (op.Keys p)) = Some (record { part = p; must = λ q. false; may = λ q. true })

no_times : (b : Bool) → ◌≡◌ {A = ℕ} (cond b 0 0) 0
no_times true = refl
no_times false = refl

module _ {T C : Type 0} (t : Table.Ghosts T ℕ ℕ C) where
  -- a call that was begun has an operation
  some_op : (o : Option (TableOp ℕ ℕ)) → IsSome o → (found : TableOp ℕ ℕ) × (o ≡ Some found)
  some_op (Some o) s = (o, refl)
  some_op None s = absurd (cc)

  pub begun_op : (table : T) (begun : Option C) → IsSome begun → IfSome begun (λ c. t.fits table c × IsSome (t.operation_of c))
      → (o : TableOp ℕ ℕ) × (operation_in t begun ≡ Some o)
  begun_op table None some fits = absurd (cc)
  begun_op table (Some c) some fits = some_op (t.operation_of c) fits.1

  -- what was begun goes on where another's step was made
  pub goes_on : (old new : T) (begun : Option C) → ((other : C) → t.fits old other → t.fits new other)
      → ((other : C) → t.fits old other → t.left new other ≤ most_steps (t.first new) (t.peak new))
      → MayGoOn t old begun → MayGoOn t new begun
  goes_on old new None fits left goes = goes
  goes_on old new (Some c) fits left goes = (fits c goes.0, left c goes.0)

  -- a list of which nothing is asked is that of any call
  lists_so : (table : T) (call : C) (part : TablePart ℕ ℕ) (o : TableOp ℕ ℕ) → ListsFor t table call part (listing_of (Some o)) o
  lists_so table call part (op.Get key) = refl
  lists_so table call part (op.InsertOrModify key stored) = refl
  lists_so table call part (op.InsertIfAbsent key stored) = refl
  lists_so table call part (op.RemoveIf key stamp) = refl
  lists_so table call part (op.Keys p) = (
    record { part = p; must = λ q. false; may = λ q. true },
    refl,
    refl,
    record {
      covers = λ q (no : false ≡ true). absurd (cc);
      may = λ q l. refl;
      must = λ q (no : false ≡ true). absurd (cc);
      stored = λ q s. refl;
    },
  )

  listing_so : (table : T) (begun : Option C) (part : TablePart ℕ ℕ) → ListingIs t table begun part (listing_of (operation_in t begun))
  listing_so table None part = refl
  listing_so table (Some c) part = λ o is.
      subst (λ (x : Option (TableOp ℕ ℕ)). ListsFor t table c part (listing_of x) o) (sym is) (lists_so table c part o)

  fits_so : (old new : T) (begun : Option C) → IfSome begun (λ c. t.fits old c × IsSome (t.operation_of c)) → MayGoOn t new begun
      → IfSome begun (λ c. t.fits new c × IsSome (t.operation_of c))
  fits_so old new None fits goes = fits
  fits_so old new (Some c) fits goes = (goes.0, fits.1)

  within_so : (table : T) (begun : Option C) → MayGoOn t table begun → left_in t table begun ≤ most_on t table
  within_so table None goes = omega arith
  within_so table (Some c) goes = goes.1

  may_so : (table : T) (begun : Option C) → IfSome begun (λ c. t.fits table c × IsSome (t.operation_of c)) → left_in t table begun ≤ most_on t table
      → MayGoOn t table begun
  may_so table None fits within = fits
  may_so table (Some c) fits within = (fits.0, within)

module _ {T C S H : Type 0} {same : PartialEq.Ghosts ℕ} {hash : Hash.Ghosts ℕ} {build : BuildHasher.Ghosts S H} {hasher : Hasher.Ghosts H} (t : Table.Ghosts T ℕ ℕ C) where
  -- after an access that any world allows
  pub stands_then : {F : Type 0} (r : Result (Got ℕ ℕ ℕ) F) (old new : Layers ℕ ℕ ℕ T C NoTests S H same hash build hasher) (wish : Want ℕ ℕ ℕ) (access : Access ℕ ℕ ℕ)
      → wanted (operation_in t old.begun) wish ≡ Some access → ((w : World ℕ ℕ ℕ) → May w access)
      → IfOk r (λ given. OfWanted (account_of t old) wish (λ a. Serves nat_eq t no_tests old a given new))
      → OnErr r (LayersStay nat_eq t no_tests old new) → Stands t old → Stands t new
  stands_then (Ok given) old new wish access is may serves err stands =
      let served = serves access is stands.0 stands.1 (may stands.0) in (served.0, served.2)
  stands_then (Err e) old new wish access is may serves err stands = (stands.0, (err stands.0 stands.1).0)

  -- what was begun may go on
  pub may_go_on : (layers : Layers ℕ ℕ ℕ T C NoTests S H same hash build hasher) → Stands t layers → MayGoOn t layers.table layers.begun
  may_go_on layers stands = may_so t layers.table layers.begun stands.1.begun.fits stands.1.begun.within

  -- after changes of the table, beside which what was begun may go on
  pub stands_after : (old : Layers ℕ ℕ ℕ T C NoTests S H same hash build hasher) (after : T) → Stands t old → MayGoOn t after old.begun
      → t.first after ≡ t.first old.table → t.divided after ≡ t.divided old.table
      → ((q : ℕ) → t.part_of after q ≡ t.part_of old.table q) → Stands t (record old { table = after })
  stands_after old after stands goes first parts part_of =
      let w : World ℕ ℕ ℕ = stands.0 in
      let there = stands.1.world in
      let part : TablePart ℕ ℕ = record {
        division = w.table.division;
        listings = λ n. listing_of (operation_in t old.begun);
        stored = t.map after;
        keys = t.count after;
        peak = t.peak after;
        committed = w.table.committed;
      } in
      let began : t.first after ≡ 128 = first ∙ there.table.first in
      let none : ◌≡◌ {A = ℕ} (times_of (record { call = old.call; times = 0 }) old.call) 0 = no_times (old.call == old.call) in
      let within : left_in t after old.begun ≤ most_on t after = within_so t after old.begun goes in (
        record { table = part; desk = w.desk; stay = record { call = old.call; times = 0 } },
        record {
          world = record {
            table = record {
              map = λ q. refl;
              keys = refl;
              peak = omega arith;
              first = began;
              parts = parts ∙ there.table.parts;
              part_of = λ q. part_of q ∙ there.table.part_of q;
            };
            desk = there.desk;
            handed = there.handed;
            stay = stands.1.given;
          };
          begun = record {
            fits = fits_so t old.table after old.begun stands.1.begun.fits goes;
            within = within;
            patient = omega (arith, none, within, began);
            listing = listing_so t after old.begun part;
          };
          given = stands.1.given;
        },
      )
