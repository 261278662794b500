-- What an access leaves of the table, and of how owners ended, meets the fact.
use Rattle.std.proofs.Common.{◌≡◌, ℕ, ◌==◌, ◌&&◌, Bool, true, false, cond, nat_lt, is_some, Option, Some, None, refl, sym, ap, ◌∙◌, subst}
use Rattle.std.proofs.lemmas.Bool.{eqb-true}
use Rattle.std.proofs.lemmas.Option.{none-some, same_Some}
use Rattle.std.specs.Option.{option_and_then}
use Rattle.moka_hist.specs.Finite.{put_at, put_key}
use Rattle.moka_hist.specs.State.{Call, DeskPart, TablePart, World}
use Rattle.moka_hist.specs.Step.{Access, Gets, On_desk, On_table}
use Rattle.moka_hist.specs.Tables.{Operates, begun, by_pair, removed, taken_by, written}
use Rattle.moka_hist.specs.Visits.{claimed, claimed_alone, is_unlocked_for, locked_by, makes, read, readers_without, settled_with, settled_without, settlement_for}
use Rattle.moka_hist.specs.Dropping.{left}
use Rattle.moka_hist.specs.declared.accesses.Got.{Got}
use Rattle.moka_hist.specs.declared.accesses.Got.TheVariants as got
use Rattle.moka_hist.specs.declared.loads.Kind.TheVariants as kind
use Rattle.moka_hist.specs.declared.loads.Load.{Load}
use Rattle.moka_hist.specs.declared.records.Stored.{Stored}
use Rattle.moka_hist.specs.declared.tables.TableAnswer.{TableAnswer}
use Rattle.moka_hist.specs.declared.tables.TableOp.{TableOp}
use Rattle.moka_hist.specs.declared.tables.TableOp.TheVariants as op
use Rattle.moka_hist.specs.declared.tables.TableTurn.TheVariants as table
use Rattle.moka_hist.specs.declared.visits.Settled.{Settled}
use Rattle.moka_hist.specs.declared.visits.Settled.TheVariants as settled
use Rattle.moka_hist.specs.declared.visits.Visit.{Visit}
use Rattle.moka_hist.specs.declared.visits.Visit.TheVariants as visit
use Rattle.moka_hist.specs.declared.writes.Write.{Write}
use Rattle.moka_laws.specs.Fair.{TableFair, ready}
use Rattle.moka_init.specs.FlowPlan.{key_read}
use Rattle.moka_kept.specs.Facts.{EndIsNoted, EndsMeet, ReadsSo, pair_by}

-- what is taken out is gone, and what is left was there
out_was : {A : Type 0} (b : Bool) (p : A) (old : Option A) → cond b None old ≡ Some p → old ≡ Some p
out_was true p old is = absurd (none-some p is)
out_was false p old is = is

module _ {K V : Type 0} (eq : K → K → Bool) (holds : K → V → Type 0) where
  put_meets : (stored : K → Option (K × Stored V)) (key : K) (new : Stored V) → holds key new.value
      → TableFair holds eq stored → TableFair holds eq (put_key eq stored key (Some (key, new)))
  put_meets stored key new so fair q p e = by (eq key q) refl e
    where
      by : (b : Bool) → eq key q ≡ b → cond b (Some (key, new)) (stored q) ≡ Some p → holds p.0 p.1.value × (eq p.0 q ≡ true)
      by true is e = subst (λ v. holds v.0 v.1.value × (eq v.0 q ≡ true)) (same_Some (key, new) p e) (so, is)
      by false is e = fair q p e

  out_meets : (stored : K → Option (K × Stored V)) (key : K) → TableFair holds eq stored → TableFair holds eq (put_key eq stored key None)
  out_meets stored key fair q p e = fair q p (out_was (eq key q) p (stored q) e)

  absent_meets : (o : Option (K × Stored V)) (t written : TablePart K V) → TableFair holds eq t.stored → TableFair holds eq written.stored
      → TableFair holds eq (by_pair o t written).stored
  absent_meets None t written there new = new
  absent_meets (Some pair) t written there new = there

  operates_meets : (E : Type 0) (n : ℕ) (t : TablePart K V) (o : TableOp K V) (answer : TableAnswer K V) (new : TablePart K V) → Operates eq n t o answer new
      → ((pair : K × V) → pair_by {E = E} (On_table o) ≡ Some pair → holds pair.0 pair.1) → TableFair holds eq t.stored → TableFair holds eq new.stored
  operates_meets E n t (op.Get key) answer new made so fair = subst (λ (x : TablePart K V). TableFair holds eq x.stored) (sym made.1) fair
  operates_meets E n t (op.InsertOrModify key stored) answer new made so fair =
      subst (λ (x : TablePart K V). TableFair holds eq x.stored) (sym made.1) (put_meets t.stored key stored (so (key, stored.value) refl) fair)
  operates_meets E n t (op.InsertIfAbsent key stored) answer new made so fair =
      subst (λ (x : TablePart K V). TableFair holds eq x.stored) (sym made.1)
      (absent_meets (t.stored key) t (written eq n t key stored) fair (put_meets t.stored key stored (so (key, stored.value) refl) fair))
  operates_meets E n t (op.RemoveIf key stamp) answer new made so fair =
      subst (λ (x : TablePart K V). TableFair holds eq x.stored) (sym made.1)
      (absent_meets (taken_by stamp (t.stored key)) (removed eq n t key) t (out_meets t.stored key fair) fair)
  operates_meets E n t (op.Keys part) answer new made so fair = subst (λ (x : TablePart K V). TableFair holds eq x.stored) (sym made.5) fair

module _ {K V E : Type 0} (eq : K → K → Bool) (holds : K → V → Type 0) where
  -- an access that stores what is so leaves a table of which all is
  pub table_meets : (n : ℕ) (w : World K V E) (access : Access K V E) (given : Got K V E) (after : World K V E) → Gets eq n w access given after
      → ((pair : K × V) → pair_by access ≡ Some pair → holds pair.0 pair.1) → TableFair holds eq w.table.stored → TableFair holds eq after.table.stored
  table_meets n w (On_table o) (got.Table table.Going) after gets so fair =
      subst (λ (x : World K V E). TableFair holds eq x.table.stored) (sym gets.1) fair
  table_meets n w (On_table o) (got.Table (table.Decided answer)) after gets so fair =
      subst (λ (x : World K V E). TableFair holds eq x.table.stored) (sym gets.2)
      (operates_meets eq holds E n (begun w.table n o) o answer gets.0 gets.1 (λ pair is. so pair is) fair)
  table_meets n w (On_table o) (got.Desk f) after gets so fair = absurd gets
  table_meets n w (On_desk made) (got.Table turn) after gets so fair = absurd gets
  table_meets n w (On_desk made) (got.Desk f) after gets so fair =
      subst (λ (x : World K V E). TableFair holds eq x.table.stored) (sym gets.1) fair

module _ {K V E : Type 0} (eq : K → K → Bool) (holds : K → V → Type 0) (ends : ℕ → Option K) where
  locked_ends : (w : DeskPart K V E) (call : ℕ) (key : K) (b : Bool) → EndsMeet holds ends w.settled → EndsMeet holds ends (locked_by eq w call key b).settled
  locked_ends w call key true h = h
  locked_ends w call key false h = h

  claimed_ends : (w : DeskPart K V E) (call : ℕ) (load : Load K) (o : Option ℕ) → EndsMeet holds ends w.settled → EndsMeet holds ends (claimed eq w call load o).settled
  claimed_ends w call load None h = h
  claimed_ends w call load (Some owner) h = h

  alone_ends : (w : DeskPart K V E) (call : ℕ) (load : Load K) (o : Option ℕ) → EndsMeet holds ends w.settled → EndsMeet holds ends (claimed_alone eq w call load o).settled
  alone_ends w call load None h = h
  alone_ends w call load (Some owner) h = h

  -- what a reader leaves was there
  without_ends : (w : DeskPart K V E) (call : ℕ) → EndsMeet holds ends w.settled → EndsMeet holds ends (settled_without w call)
  without_ends w call h owner with value is ended = h owner with value (out_was _ with (w.settled owner) is) ended

  read_ends : (w : DeskPart K V E) (call : ℕ) → EndsMeet holds ends w.settled → EndsMeet holds ends (read w call).settled
  read_ends w call h = by (is_some (settlement_for w call))
    where
      by : (b : Bool) → EndsMeet holds ends (cond b (record w { joined = put_at w.joined call None; readers = readers_without w call; settled = settled_without w call }) w).settled
      by true = without_ends w call h
      by false = h

  -- an end with a value is noted where somebody waits for it
  settled_ends : (w : DeskPart K V E) (call : ℕ) (with : Settled V E) (kept : ℕ → Option (Settled V E)) → EndsMeet holds ends kept
      → ((value : V) → nat_lt 0 (w.readers call) ≡ true → ready with ≡ Some value → (key : K) × (ends call ≡ Some key) × holds key value)
      → EndsMeet holds ends (settled_with w call with kept)
  settled_ends w call with kept h noted owner other value is ended =
      by (is_some (w.owning call)) (nat_lt 0 (w.readers call)) (call == owner) refl refl is
    where
      by : (x y z : Bool) → nat_lt 0 (w.readers call) ≡ y → (call == owner) ≡ z → cond (x && y && z) (Some with) (kept owner) ≡ Some other
          → (key : K) × (ends owner ≡ Some key) × holds key value
      by true true true waits here e =
          subst (λ n. (key : K) × (ends n ≡ Some key) × holds key value) (eqb-true call owner here)
          (noted value waits (ap ready (same_Some with other e) ∙ ended))
      by true true false waits here e = h owner other value e ended
      by true false z waits here e = h owner other value e ended
      by false y z waits here e = h owner other value e ended

  visit_ends : (w : DeskPart K V E) (made : Visit K V E) → EndIsNoted holds ends w (On_desk made) → EndsMeet holds ends w.settled
      → EndsMeet holds ends (makes eq w made).settled
  visit_ends w (visit.LockKey call key) noted h = locked_ends w call key (is_unlocked_for w call key) h
  visit_ends w (visit.WaitOrOwn call key kind) noted h =
      let load : Load K = record { key = key; kind = kind } in claimed_ends w call load (w.owners load) h
  visit_ends w (visit.OwnAlone call key) noted h =
      let load : Load K = record { key = key; kind = kind.Compute } in alone_ends w call load (w.owners load) h
  visit_ends w (visit.ReadSettled call) noted h = read_ends w call h
  visit_ends w (visit.Settle call with) noted h = settled_ends w call with w.settled h (λ value waits ended. noted call with value refl waits ended)
  visit_ends w (visit.Clock call) noted h = h
  visit_ends w (visit.TakeOwed call) noted h = h
  visit_ends w (visit.NoticeEnded call number) noted h = h
  visit_ends w (visit.UnlockKey call wrote) noted h = h
  visit_ends w (visit.OpenNotice call key value stamp modified cause upsert) noted h = h
  visit_ends w (visit.StampMoment call) noted h = h
  visit_ends w (visit.Judge replace key stored) noted h = h
  visit_ends w (visit.Scan key stored) noted h = h
  visit_ends w (visit.Holds key stored cause) noted h = h
  visit_ends w (visit.OpenAsk call takes) noted h = h
  visit_ends w (visit.TakeTold call) noted h = h
  visit_ends w (visit.PostWrite call write) noted h = h
  visit_ends w (visit.TakeTurn call) noted h = h
  visit_ends w (visit.ApplyOne call) noted h = h
  visit_ends w (visit.EndTurn call) noted h = h
  visit_ends w visit.InvalidateAll noted h = h
  visit_ends w (visit.Register test) noted h = h
  visit_ends w visit.Candidates noted h = h
  visit_ends w (visit.Strike ids key stored) noted h = h
  visit_ends w (visit.Retire ids) noted h = h

  -- an access that notes its end leaves noted ends
  pub ends_meet : (n : ℕ) (w : World K V E) (access : Access K V E) (given : Got K V E) (after : World K V E) → Gets eq n w access given after
      → EndIsNoted holds ends w.desk access → EndsMeet holds ends w.desk.settled → EndsMeet holds ends after.desk.settled
  ends_meet n w (On_table o) (got.Table table.Going) after gets noted h = subst (λ (x : World K V E). EndsMeet holds ends x.desk.settled) (sym gets.1) h
  ends_meet n w (On_table o) (got.Table (table.Decided answer)) after gets noted h =
      subst (λ (x : World K V E). EndsMeet holds ends x.desk.settled) (sym gets.2) h
  ends_meet n w (On_table o) (got.Desk f) after gets noted h = absurd gets
  ends_meet n w (On_desk made) (got.Table turn) after gets noted h = absurd gets
  ends_meet n w (On_desk made) (got.Desk f) after gets noted h =
      subst (λ (x : World K V E). EndsMeet holds ends x.desk.settled) (sym gets.1) (visit_ends w.desk made noted h)

  -- a call that leaves ends with no value
  pub left_ends : (w : DeskPart K V E) (call : ℕ) (held : Option Write) → EndsMeet holds ends w.settled → EndsMeet holds ends (left w call held).settled
  left_ends w call held h =
      settled_ends w call settled.Aborted (settled_without w call) (without_ends w call h) (λ value waits ended. absurd (none-some value ended))

  -- a key is noted of an owner of which no end is kept
  pub noted_ends : (settled : ℕ → Option (Settled V E)) (call : ℕ) (key : K) (new : ℕ → Option K) → settled call ≡ None
      → ((n : ℕ) → new n ≡ cond (call == n) (Some key) (ends n)) → EndsMeet holds ends settled → EndsMeet holds new settled
  noted_ends settled call key new none is h owner with value there ended = by (call == owner) refl (h owner with value there ended)
    where
      by : (b : Bool) → (call == owner) ≡ b → (k : K) × (ends owner ≡ Some k) × holds k value → (k : K) × (new owner ≡ Some k) × holds k value
      by true here old = absurd (none-some with (sym none ∙ ap settled (eqb-true call owner here) ∙ there))
      by false apart old = (old.0, is owner ∙ ap (λ b. cond b (Some key) (ends owner)) apart ∙ old.1, old.2)

  -- what is noted of an owner is forgotten where its end isn't kept
  pub forgot_ends : (settled : ℕ → Option (Settled V E)) (call : ℕ) (new : ℕ → Option K) → settled call ≡ None
      → ((n : ℕ) → new n ≡ cond (call == n) None (ends n)) → EndsMeet holds ends settled → EndsMeet holds new settled
  forgot_ends settled call new none is h owner with value there ended = by (call == owner) refl (h owner with value there ended)
    where
      by : (b : Bool) → (call == owner) ≡ b → (k : K) × (ends owner ≡ Some k) × holds k value → (k : K) × (new owner ≡ Some k) × holds k value
      by true here old = absurd (none-some with (sym none ∙ ap settled (eqb-true call owner here) ∙ there))
      by false apart old = (old.0, is owner ∙ ap (λ b. cond b None (ends owner)) apart ∙ old.1, old.2)

-- what is read of an end is so for the key that is sought, where that equals the one that is noted of
-- the owner
pub reads_meet : {K V E : Type 0} (eq : K → K → Bool) (holds : K → V → Type 0) (ends : ℕ → Option K)
    → ((a b : K) (value : V) → eq a b ≡ true → holds a value → holds b value) → (w : DeskPart K V E) (n : ℕ) (c : Call K V E)
    → ((own noted : K) (owner : ℕ) → key_read c.plan ≡ Some own → w.joined n ≡ Some owner → ends owner ≡ Some noted → eq noted own ≡ true)
    → EndsMeet holds ends w.settled → ReadsSo holds w n c
reads_meet {K} {V} {E} eq holds ends alike w n c same h own with value seeks is ended = by (w.joined n) refl is
  where
    by : (o : Option ℕ) → w.joined n ≡ o → option_and_then w.settled o ≡ Some with → holds own value
    by None joined e = absurd (none-some with e)
    by (Some owner) joined e =
        let met = h owner with value e ended in
        alike met.0 own value (same own met.0 owner seeks joined met.1) met.2
