-- Those that wait for an owner are counted, and nothing is kept that nobody has still to read.
use Rattle.std.proofs.Common.{◌≡◌, ℕ, zero, suc, ◌+◌, ◌-◌, ◌<◌, ◌==◌, nat_lt, Bool, true, false, cond, ◌&&◌, List, Option, Some, None, is_some, IsSome, ◌⊎◌, inl, inr, refl, sym, ap, ◌∙◌, subst, arith}
use Rattle.std.proofs.lemmas.Bool.{eqb-true, false≢true}
use Rattle.std.proofs.lemmas.Bool.Decides.{nat_tests}
use Rattle.std.specs.Option.{option_map_or}
use Rattle.moka_hist.specs.Finite.{put_at}
use Rattle.moka_hist.specs.State.{State, World, Call, DeskPart}
use Rattle.moka_hist.specs.Plan.{Item, held_by}
use Rattle.moka_hist.specs.Visits.{claimed_alone, claimed, is_reader_of, is_unlocked_for, locked_by, makes, readers_without, settled_as, settled_with, settled_without, settlement_for}
use Rattle.moka_hist.specs.Step.{Access, On_table, On_desk, Gets, access_of}
use Rattle.moka_hist.specs.Dropping.{left}
use Rattle.moka_hist.specs.declared.accesses.Got.{Got}
use Rattle.moka_hist.specs.declared.accesses.Got.TheVariants as got
use Rattle.moka_hist.specs.declared.loads.Load.{Load}
use Rattle.moka_hist.specs.declared.tables.TableTurn.TheVariants as table
use Rattle.moka_hist.specs.declared.visits.Settled.{Settled}
use Rattle.moka_hist.specs.declared.visits.Settled.TheVariants as settled
use Rattle.moka_hist.specs.declared.visits.Visit.{Visit}
use Rattle.moka_hist.specs.declared.visits.Visit.TheVariants as visit
use Rattle.moka_hist.specs.declared.writes.Write.{Write}
use Rattle.moka_laws.specs.Readers.{how_many, ReadersAreCounted, NothingUnreadIsKept}
use Rattle.moka_laws.proofs.Sums.{sum_to, sum_has, sum_zero, sum_suc}
use Rattle.moka_laws.proofs.Kept.{IsInvariant, in_reached}
use Rattle.moka_laws.proofs.Weights.{weigh}
use Rattle.moka_laws.proofs.Owning.{plan_left}
use Rattle.moka_laws.proofs.Outcomes.{computes_of}
use Rattle.moka_laws.proofs.Plans.{Reading_key, IsTail, Answering, Settling, IsDrained, Putting, IsPosted, Draining, Ended, Locking, IsPlan, Posted, Drained, Posting, Hearing, Noticing, Listening, Unlocking, Turning, Applying, Ending, Reading, Writing, Freeing, Idling, Walking}
use Rattle.moka_laws.proofs.Reading.{joins, reader_joins}
use Rattle.moka_laws.proofs.Roles.{Fits, awaited, owners, walk_awaits}
use Rattle.moka_laws.proofs.Safe.{IsWell, well_kept, in_well}
use Rattle.moka_laws.proofs.Served.{joined_live}

module _ {K V E : Type 0} where
  -- what is kept somebody has still to read
  abbrev Awaited : DeskPart K V E → Type 0
  Awaited d = (o : ℕ) → IsSome (d.settled o) → 0 < d.readers o

  -- ---- what a visit keeps

  -- one more waits for an owner
  joins_awaited : (d : DeskPart K V E) (owner : ℕ) → Awaited d → (o : ℕ) → IsSome (d.settled o) → 0 < put_at d.readers owner (d.readers owner + 1) o
  joins_awaited d owner a o some = by (owner == o)
    where
      by : (b : Bool) → 0 < cond b (d.readers owner + 1) (d.readers o)
      by true = omega arith
      by false = a o some

  -- one fewer waits for an owner, and the last takes away what is kept
  reads_awaited : (d : DeskPart K V E) (call : ℕ) → Awaited d → (o : ℕ) → IsSome (settled_without d call o) → 0 < readers_without d call o
  reads_awaited d call a o some = by (is_reader_of d call o) (d.readers o == 1) refl some
    where
      by : (x y : Bool) → (d.readers o == 1) ≡ y → is_some (cond (x && y) None (d.settled o)) ≡ true → 0 < cond x (d.readers o - 1) (d.readers o)
      by false y e some = a o some
      by true true e some = absurd (false≢true some)
      by true false e some = let more = a o some in grind (arith, nat_tests)

  -- an owner ends, and that is kept where somebody waits for it
  ends_awaited : (d : DeskPart K V E) (call : ℕ) (with : Settled V E) (kept : ℕ → Option (Settled V E)) (o : ℕ) → IsSome (settled_with d call with kept o) →
      (is_some (d.owning call) ≡ true) × ((call ≡ o) × (0 < d.readers o)) ⊎ IsSome (kept o)
  ends_awaited d call with kept o some = by (is_some (d.owning call)) (nat_lt 0 (d.readers call)) (call == o) refl refl refl some
    where
      by : (x y z : Bool) → is_some (d.owning call) ≡ x → nat_lt 0 (d.readers call) ≡ y → (call == o) ≡ z →
          is_some (cond (x && y && z) (Some with) (kept o)) ≡ true → (is_some (d.owning call) ≡ true) × ((call ≡ o) × (0 < d.readers o)) ⊎ IsSome (kept o)
      by true true true e f g some =
          let is : call ≡ o = eqb-true call o g in
          let more : 0 < d.readers call = grind (arith, nat_tests) in
          inl (e, (is, subst (λ v. 0 < d.readers v) is more))
      by true true false e f g some = inr some
      by true false z e f g some = inr some
      by false y z e f g some = inr some

  claimed_awaited : (eq : K → K → Bool) (d : DeskPart K V E) (call : ℕ) (load : Load K) (owner : Option ℕ) → Awaited d → Awaited (claimed eq d call load owner)
  claimed_awaited eq d call load None a = a
  claimed_awaited eq d call load (Some owner) a = joins_awaited d owner a

  settled_awaited : (d : DeskPart K V E) (call : ℕ) (with : Settled V E) → Awaited d → Awaited (settled_as d call with)
  settled_awaited d call with a o some = by (ends_awaited d call with d.settled o some)
    where
      by : (is_some (d.owning call) ≡ true) × ((call ≡ o) × (0 < d.readers o)) ⊎ IsSome (d.settled o) → 0 < d.readers o
      by (inl h) = h.1.1
      by (inr h) = a o h

  visit_awaited : (eq : K → K → Bool) (d : DeskPart K V E) (made : Visit K V E) → Awaited d → Awaited (makes eq d made)
  visit_awaited eq d (visit.WaitOrOwn call key kind) a = claimed_awaited eq d call _ _ a
  visit_awaited eq d (visit.OwnAlone call key) a = by (d.owners (computes_of key))
    where
      by : (o : Option ℕ) → Awaited (claimed_alone eq d call (computes_of key) o)
      by None = a
      by (Some owner) = a
  visit_awaited eq d (visit.ReadSettled call) a = by (is_some (settlement_for d call)) refl
    where
      by : (b : Bool) → is_some (settlement_for d call) ≡ b → Awaited (makes eq d (visit.ReadSettled call))
      by true e = rw e (reads_awaited d call a)
      by false e = rw e a
  visit_awaited eq d (visit.Settle call with) a = settled_awaited d call with a
  visit_awaited eq d (visit.LockKey call key) a = by (is_unlocked_for d call key)
    where
      by : (b : Bool) → Awaited (locked_by eq d call key b)
      by true = a
      by false = a
  visit_awaited eq d _ a = a

  -- a call that leaves owns nothing or waits for nobody
  left_awaited : (d : DeskPart K V E) (call : ℕ) (held : Option Write) → (is_some (d.owning call) ≡ true → is_some (d.joined call) ≡ false) → Awaited d →
      Awaited (left d call held)
  left_awaited d call held alone a o some = by (ends_awaited d call settled.Aborted (settled_without d call) o some)
    where
      same : (j : Option ℕ) → is_some j ≡ false → cond (option_map_or (λ v. v == o) j false) (d.readers o - 1) (d.readers o) ≡ d.readers o
      same None e = refl
      same (Some v) e = absurd (false≢true (sym e))

      by : (is_some (d.owning call) ≡ true) × ((call ≡ o) × (0 < d.readers o)) ⊎ IsSome (settled_without d call o) → 0 < readers_without d call o
      by (inl h) = omega (arith, h.1.1, same (d.joined call) (alone h.0))
      by (inr h) = reads_awaited d call a o h

  -- ---- plans of owners and of those that wait

  -- no plan is one of both
  abbrev OneRole : List (Item K V E) → Type 0
  OneRole p = (weigh owners p ≡ 0) ⊎ (awaited p ≡ None)

  pub tail_role : (p : List (Item K V E)) → IsTail p → awaited p ≡ None
  tail_role p (Answering a) = refl
  tail_role p (Settling with a) = refl

  pub drained_role : (p : List (Item K V E)) → IsDrained p → awaited p ≡ None
  drained_role p (Putting key value rest t) = tail_role rest t
  drained_role p (Locking key value rest t) = tail_role rest t
  drained_role p _ = refl

  pub posted_role : (p : List (Item K V E)) → IsPosted p → awaited p ≡ None
  posted_role p (Draining rest d) = drained_role rest d
  posted_role p (Ended rest t) = tail_role rest t

  plan_role : (p : List (Item K V E)) → IsPlan p → OneRole p
  plan_role p (Reading sought) = inl refl
  plan_role p (Posted rest d) = inr (posted_role rest d)
  plan_role p (Drained rest d) = inr (drained_role rest d)
  plan_role p (Posting x rest d) = inr (posted_role rest d)
  plan_role p (Hearing number x rest d) = inr (posted_role rest d)
  plan_role p (Noticing key old cause upsert x rest t) = inr (tail_role rest t)
  plan_role p (Listening x rest t) = inr (tail_role rest t)
  plan_role p (Unlocking x rest t) = inr (tail_role rest t)
  plan_role p (Turning x rest d) = inr (posted_role rest d)
  plan_role p (Applying x rest d) = inr (posted_role rest d)
  plan_role p (Ending x rest d) = inr (posted_role rest d)
  plan_role p (Reading_key compute) = inl refl
  plan_role p (Freeing rest t) = inr (tail_role rest t)
  plan_role p (Idling rest t) = inr (tail_role rest t)
  plan_role p (Writing key value moment rest t) = inr (tail_role rest t)
  plan_role p (Walking rest walk) = inr (walk_awaits p walk)
  plan_role p _ = inr refl

  role_alone : (o : Option (Load K)) (j : Option ℕ) (p : List (Item K V E)) → Fits o j p → OneRole p → is_some o ≡ true → is_some j ≡ false
  role_alone o j p f (inl none) own = let one = ap (λ b. cond {A = ℕ} b 1 0) own in absurd (omega (arith, f.owning))
  role_alone o j p f (inr none) own = f.waiting ∙ ap is_some none

module _ {K V E : Type 0} (eq : K → K → Bool) where
  record IsAwaited (s : State K V E) : Type 0 where
    well : IsWell eq s
    awaited : Awaited s.world.desk

  access_awaited : (n : ℕ) (w new : World K V E) (a : Access K V E) (g : Got K V E) → Gets eq n w a g new → Awaited w.desk → Awaited new.desk
  access_awaited n w new (On_table o) (got.Table table.Going) gets h = subst (λ (v : World K V E). Awaited v.desk) (sym gets.1) h
  access_awaited n w new (On_table o) (got.Table (table.Decided answer)) gets h = subst (λ (v : World K V E). Awaited v.desk) (sym gets.2) h
  access_awaited n w new (On_desk made) (got.Desk f) gets h = subst (λ (v : World K V E). Awaited v.desk) (sym gets.1) (visit_awaited eq w.desk made h)
  access_awaited n w new (On_table o) (got.Desk f) gets h = absurd gets
  access_awaited n w new (On_desk made) (got.Table turn) gets h = absurd gets

  -- a live call that owns waits for nobody
  alone_live : (s : State K V E) (n : ℕ) (c : Call K V E) → IsWell eq s → s.calls n ≡ Some c → is_some (s.world.desk.owning n) ≡ true → is_some (s.world.desk.joined n) ≡ false
  alone_live s n c well live =
      role_alone (s.world.desk.owning n) (s.world.desk.joined n) c.plan
      (subst (λ v. Fits (s.world.desk.owning n) (s.world.desk.joined n) (plan_left v)) live (well.served.fits n)) (plan_role c.plan (well.asking.known n c live).plan)

  awaited_kept : IsInvariant eq IsAwaited
  awaited_kept = record {
    fresh = λ division divides rules size built has_log. record { well = (well_kept eq).fresh division divides rules size built has_log; awaited = λ o some. absurd (false≢true some) };
    at = λ s moment i. record { well = (well_kept eq).at s moment i.well; awaited = i.awaited };
    start = λ s start i. record { well = (well_kept eq).start s start i.well; awaited = i.awaited };
    step = λ s t n turn i step. record {
      well = (well_kept eq).step s t n turn i.well step;
      awaited = subst (λ (v : State K V E). Awaited v.world.desk) (sym step.after)
          (access_awaited n s.world step.world (access_of n step.call) step.given step.gets i.awaited);
    };
    tell = λ s n given asked i. record { well = (well_kept eq).tell s n given asked i.well; awaited = i.awaited };
    hear = λ s n off running i. record { well = (well_kept eq).hear s n off running i.well; awaited = i.awaited };
    drop = λ s n c live between i. record {
      well = (well_kept eq).drop s n c live between i.well;
      awaited = left_awaited s.world.desk n (held_by c.plan) (alone_live s n c i.well live) i.awaited;
    };
  }

  -- ---- the count

  same_count : (d : DeskPart K V E) (k o : ℕ) → how_many k (λ n. is_reader_of d n o) ≡ sum_to k (λ m. joins o (d.joined m))
  same_count d zero o = omega (arith, reader_joins d 0 o, sum_zero (λ m. joins o (d.joined m)))
  same_count d (suc k) o = let less = same_count d k o in omega (arith, reader_joins d (suc k) o, sum_suc k (λ m. joins o (d.joined m)))

  pub readers_counted : ReadersAreCounted K V E eq
  readers_counted s owner h =
      let i = (in_well eq s h).served in
      record {
        count = i.counted owner ∙ sym (same_count s.world.desk s.world.desk.last owner);
        live = λ n e. let c = joined_live eq (s.calls n) (s.world.desk.owning n) (s.world.desk.joined n) owner (i.fits n) e in ap is_some c.1;
        numbered = λ n e. let c = joined_live eq (s.calls n) (s.world.desk.owning n) (s.world.desk.joined n) owner (i.fits n) e in i.balanced.numbered n c.0 c.1;
      }

  pub unread_kept : NothingUnreadIsKept K V E eq
  unread_kept s owner h some =
      let i = in_reached eq IsAwaited awaited_kept s h in
      let more = sum_has s.world.desk.last (λ m. joins owner (s.world.desk.joined m)) (omega (arith, i.well.served.counted owner, i.awaited owner some)) in
      (more.0, by (s.world.desk.joined more.0) more.1)
    where
      reads : (v : ℕ) (b : Bool) → (v == owner) ≡ b → 0 < cond {A = ℕ} b 1 0 → Some v ≡ Some owner
      reads v true e h = ap Some (eqb-true v owner e)
      reads v false e h = absurd (omega arith)

      by : (j : Option ℕ) → 0 < joins owner j → j ≡ Some owner
      by None h = absurd (omega arith)
      by (Some v) h = reads v (v == owner) refl h
