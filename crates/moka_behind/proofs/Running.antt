-- What whole calls leave of a cache of pairs.
use Rattle.std.proofs.Common.{◌≡◌, ◌+◌, ℕ, ◌==◌, nat_eq, Bool, true, false, cond, Option, Some, None, IsSome, refl, sym, ap, ◌∙◌, subst}
use Rattle.std.proofs.lemmas.Bool.{eq-eqb}
use Rattle.std.specs.declared.cmp.PartialEq as PartialEq
use Rattle.std.specs.declared.hash.Hash as Hash
use Rattle.moka_hist.specs.Finite.{put_at}
use Rattle.moka_hist.specs.declared.events.Start.{Start}
use Rattle.moka_hist.specs.declared.events.Start.TheVariants as start
use Rattle.moka_hist.specs.declared.events.Told.{Told}
use Rattle.moka_small.specs.declared.outcome.Outcome.{Outcome}
use Rattle.moka_small.specs.Laws.{may_end}
use Rattle.moka_small.specs.Seen.{answer_of}
use Rattle.moka_small.specs.Small.{Begun, Small, Stand, Was_told, is_plain_start, started, with_stand}
use Rattle.moka_small.specs.Polled.{gone_waiter, polled, value_under}
use Rattle.moka_polled.specs.Polled.{IsPolled, MayDrop, Takes}
use Rattle.moka_polled.specs.declared.machine.PolledMachine.{PolledMachine}
use Rattle.moka_keepers.specs.declared.write.Write.{Write}
use Rattle.moka_keepers.specs.Writes.{Pairs, made}
use Rattle.moka_behind.specs.Holding.{HasRun, Holds, HoldsAsking, IsAsking, Runs, load_of, run_of, start_by}
use Rattle.moka_behind.specs.Looking.{Looks, end_of, looked_by}
use Rattle.moka_behind.proofs.Smalls.{answered-idle, answered-values, asks_here, dropped-idle, none_waits, run_insert-idle, run_insert-values, run_invalidate-idle, run_invalidate-values, run_optional-asks, run_optional-found, told_here}

-- each write starts plainly
pub start_by-plain : (key : ℕ) (value : Option ℕ) → is_plain_start (start_by key value) ≡ true
start_by-plain key None = refl
start_by-plain key (Some value) = refl

-- the call that was started stands at its beginning
pub begun_here : {E : Type 0} (m : Small ℕ ℕ E) (begin : Start ℕ ℕ) (call : ℕ) → call ≡ m.last + 1 →
    (started m begin).stands call ≡ Some (Begun begin)
begun_here m begin call is =
    ap (λ (b : Bool). cond b (Some (Begun begin)) (m.stands call)) (eq-eqb (m.last + 1) call (sym is))

pub begun_live : {E : Type 0} (m : Small ℕ ℕ E) (begin : Start ℕ ℕ) (call : ℕ) → call ≡ m.last + 1 →
    IsSome ((started m begin).stands call)
begun_live {E} m begin call is =
    subst (λ (o : Option (Stand ℕ ℕ E)). IsSome o) (sym (begun_here m begin call is)) refl

-- how any load of a key may end
pub may_end_so : (E : Type 0) (key : ℕ) (found : Option ℕ) → may_end {V = ℕ} {E = E} (load_of key) (end_of found) ≡ true
may_end_so E key None = refl
may_end_so E key (Some value) = refl

put_same : (b : Bool) (v o p : Option ℕ) → o ≡ p → cond b v o ≡ cond b v p
put_same true v o p e = refl
put_same false v o p e = e

module _ {E : Type 0} {same : PartialEq.Ghosts ℕ} {hash : Hash.Ghosts ℕ} (new : PolledMachine ℕ ℕ E same hash) where
  -- what a poll says, of a call that was just started
  abbrev pub PollsAt : PolledMachine ℕ ℕ E same hash → ℕ → Outcome ℕ E → Type 0
  PollsAt mid call came =
      (m : Small ℕ ℕ E) (stand : Stand ℕ ℕ E) → IsPolled nat_eq mid m → m.stands call ≡ Some stand →
      (came ≡ (polled nat_eq m call stand).0) × IsPolled nat_eq new (polled nat_eq m call stand).1

  pub has_run : (mid : PolledMachine ℕ ℕ E same hash) (m : Small ℕ ℕ E) (begin : Start ℕ ℕ) (call : ℕ) (came : Outcome ℕ E) →
      call ≡ m.last + 1 → IsPolled nat_eq mid (started m begin) → PollsAt mid call came → HasRun m begin call came new
  has_run mid m begin call came is stands polls =
      let r = polls (started m begin) (Begun begin) stands (begun_here m begin call is) in
      record {
        number = is;
        came = r.0 ∙ ap (λ (n : ℕ). (polled nat_eq (started m begin) n (Begun begin)).0) is;
        stands = subst (λ (n : ℕ). IsPolled nat_eq new (polled nat_eq (started m begin) n (Begun begin)).1) is r.1;
      }

  made_by : (old : PolledMachine ℕ ℕ E same hash) (key : ℕ) (value : Option ℕ) (pairs : Pairs) (call : ℕ) (came : Outcome ℕ E) →
      Runs old (start_by key value) call came new → Holds old pairs → Holds new (put_at pairs key value)
  made_by old key None pairs call came runs h =
      let ran = runs h.small h.stands in
      record {
        small = (run_of h.small (start.Invalidate key)).1;
        stands = ran.stands;
        such = run_invalidate-idle h.small h.such key;
        values = λ q. run_invalidate-values h.small h.such key q
            ∙ put_same (key == q) None (value_under h.small q) (pairs q) (h.values q);
      }
  made_by old key (Some value) pairs call came runs h =
      let ran = runs h.small h.stands in
      record {
        small = (run_of h.small (start.Insert key value)).1;
        stands = ran.stands;
        such = run_insert-idle h.small h.such key value;
        values = λ q. run_insert-values h.small h.such key value q
            ∙ put_same (key == q) (Some value) (value_under h.small q) (pairs q) (h.values q);
      }

  -- a write was made
  pub made_holds : (old : PolledMachine ℕ ℕ E same hash) (w : Write) (begin : Start ℕ ℕ) (pairs : Pairs) (call : ℕ) (came : Outcome ℕ E) →
      begin ≡ start_by w.key w.value → Runs old begin call came new → Holds old pairs → Holds new (made pairs w)
  made_holds old w begin pairs call came is runs h =
      made_by old w.key w.value pairs call came (subst (λ (b : Start ℕ ℕ). Runs old b call came new) is runs) h

  looks_by : (old : PolledMachine ℕ ℕ E same hash) (key : ℕ) (pairs : Pairs) (call : ℕ) (came : Outcome ℕ E) (h : Holds old pairs) →
      HasRun h.small (start.Optional key) call came new → (had : Option ℕ) → value_under h.small key ≡ had →
      Looks (looked_by call came) key pairs new
  looks_by old key pairs call came h ran (Some value) e =
      let r = run_optional-found h.small h.such key value e in
      let found : Holds new pairs = record {
        small = (run_of h.small (start.Optional key)).1;
        stands = ran.stands;
        such = r.1;
        values = λ q. r.2 q ∙ h.values q;
      } in
      subst (λ (o : Outcome ℕ E). Looks (looked_by call o) key pairs new) (sym (ran.came ∙ r.0))
      (sym (h.values key) ∙ e, found)
  looks_by old key pairs call came h ran None e =
      let r = run_optional-asks h.small h.such key e in
      let asking : HoldsAsking new call key pairs = record {
        small = (run_of h.small (start.Optional key)).1;
        stands = ran.stands;
        such = subst (λ (n : ℕ). IsAsking n key (run_of h.small (start.Optional key)).1) (sym ran.number) r.1;
        values = λ q. r.2 q ∙ h.values q;
      } in
      subst (λ (o : Outcome ℕ E). Looks (looked_by call o) key pairs new) (sym (ran.came ∙ r.0))
      (sym (h.values key) ∙ e, asking)

  -- a look came to this
  pub looks : (old : PolledMachine ℕ ℕ E same hash) (key : ℕ) (pairs : Pairs) (call : ℕ) (came : Outcome ℕ E) →
      Runs old (start.Optional key) call came new → Holds old pairs → Looks (looked_by call came) key pairs new
  looks old key pairs call came runs h =
      looks_by old key pairs call came h (runs h.small h.stands) (value_under h.small key) refl

  answered_by : (call key : ℕ) (m : Small ℕ ℕ E) (asking : IsAsking call key m) (pairs : Pairs) →
      ((q : ℕ) → value_under m q ≡ pairs q) → (found : Option ℕ) →
      IsPolled nat_eq new (polled nat_eq (with_stand m call (Some (Was_told (load_of key) (end_of found)))) call (Was_told (load_of key) (end_of found))).1 →
      Holds new (put_at pairs key found)
  answered_by call key m asking pairs values found stands = record {
    small = (polled nat_eq (with_stand m call (Some (Was_told (load_of key) (end_of found)))) call (Was_told (load_of key) (end_of found))).1;
    stands = stands;
    such = answered-idle m call key asking found;
    values = λ q. answered-values m call key asking found q ∙ put_same (key == q) found (value_under m q) (pairs q) (values q);
  }

  -- the call that asks was told what its key has, and polled
  pub answered : (mid : PolledMachine ℕ ℕ E same hash) (call key : ℕ) (m : Small ℕ ℕ E) (asking : IsAsking call key m) (pairs : Pairs) →
      ((q : ℕ) → value_under m q ≡ pairs q) → (found : Option ℕ) (came : Outcome ℕ E) →
      IsPolled nat_eq mid (with_stand m call (Some (Was_told (load_of key) (end_of found)))) → PollsAt mid call came →
      Holds new (put_at pairs key found)
  answered mid call key m asking pairs values found came stands polls =
      answered_by call key m asking pairs values found
      (polls (with_stand m call (Some (Was_told (load_of key) (end_of found)))) (Was_told (load_of key) (end_of found)) stands
      (told_here m call key asking (end_of found))).1

  -- it was dropped
  pub dropped : (call key : ℕ) (m : Small ℕ ℕ E) (asking : IsAsking call key m) (pairs : Pairs) →
      ((q : ℕ) → value_under m q ≡ pairs q) → IsPolled nat_eq new (gone_waiter m call) → Holds new pairs
  dropped call key m asking pairs values stands = record {
    small = gone_waiter m call;
    stands = stands;
    such = dropped-idle m call key asking;
    values = values;
  }

-- a call that asks may be dropped, and takes what its key has
pub may_drop : {E : Type 0} (call key : ℕ) (m : Small ℕ ℕ E) → IsAsking call key m → MayDrop call m
may_drop {E} call key m asking = record {
  live = subst (λ (o : Option (Stand ℕ ℕ E)). IsSome o) (sym (asks_here m call key asking)) refl;
  alone = none_waits m call key asking;
}

pub takes_so : {E : Type 0} (call key : ℕ) (m : Small ℕ ℕ E) (found : Option ℕ) (given : Told ℕ E) → IsAsking call key m →
    given ≡ answer_of (end_of found) → Takes call given (load_of key) (end_of found) m
takes_so {E} call key m found given asking is = record {
  asks = asks_here m call key asking;
  is = is;
  fits = may_end_so E key found;
}

pub told_live : {E : Type 0} (call key : ℕ) (m : Small ℕ ℕ E) (found : Option ℕ) → IsAsking call key m →
    IsSome ((with_stand m call (Some (Was_told (load_of key) (end_of found)))).stands call)
told_live {E} call key m found asking =
    subst (λ (o : Option (Stand ℕ ℕ E)). IsSome o) (sym (told_here m call key asking (end_of found))) refl
