-- What a call owns has it as its owner, so one call owns the computes of equal keys.
use Rattle.std.proofs.Common.{◌≡◌, ℕ, ◌==◌, Bool, true, false, cond, Option, Some, None, is_some, refl, sym, ap, ◌∙◌, subst}
use Rattle.std.specs.Option.{option_map_or}
use Rattle.std.specs.Cmp.{IsEquivalence}
use Rattle.moka_hist.specs.Finite.{put_at, put_key, load_eq}
use Rattle.moka_hist.specs.State.{DeskPart, State, World, fresh}
use Rattle.moka_hist.specs.Visits.{claimed, claimed_alone, is_unlocked_for, locked_by, makes, owners_without, read, settlement_for}
use Rattle.moka_hist.specs.Step.{Access, On_table, On_desk, access_of, Gets, Step}
use Rattle.moka_hist.specs.Run.{IsReached}
use Rattle.moka_hist.specs.declared.accesses.Got.{Got}
use Rattle.moka_hist.specs.declared.accesses.Got.TheVariants as got
use Rattle.moka_hist.specs.declared.accesses.Turn.{Turn}
use Rattle.moka_hist.specs.declared.loads.Load.{Load}
use Rattle.moka_hist.specs.declared.tables.TableTurn.TheVariants as table
use Rattle.moka_hist.specs.declared.visits.Visit.{Visit}
use Rattle.moka_hist.specs.declared.visits.Visit.TheVariants as visit
use Rattle.moka_laws.specs.Computes.{ComputesAreOne}
use Rattle.moka_laws.specs.Starting.{Leads}
use Rattle.moka_laws.proofs.Counting.{none_some, other_number, put_cases, some_same}
use Rattle.moka_laws.proofs.Following.{IsFollowed, follow}
use Rattle.moka_laws.proofs.Outcomes.{computes_of}
use Rattle.moka_laws.proofs.Owning.{OneOwner, in_owned, loads_self}
use Rattle.moka_laws.proofs.Reached.{fresh_reached, run_reached}

module _ {K : Type 0} where
  -- who owns a load is its owner
  abbrev OwnersOwn : (Load K → Option ℕ) → (ℕ → Option (Load K)) → Type 0
  OwnersOwn owners owning = (n : ℕ) (load : Load K) → owning n ≡ Some load → owners load ≡ Some n

module _ {K V E : Type 0} (eq : K → K → Bool) (laws : IsEquivalence eq) where
  module _ (d : DeskPart K V E) (call : ℕ) (own : OwnersOwn d.owners d.owning) where
    claims_own : (load : Load K) → OneOwner eq d.owners → d.owners load ≡ None →
        OwnersOwn (put_key (load_eq eq) d.owners load (Some call))
        (put_at d.owning call (Some load))
    claims_own load one none n l e =
        put_cases d.owning call (Some load) n (Some l)
        (put_key (load_eq eq) d.owners load (Some call) l ≡ Some n) e
        (λ here is. subst (λ v. put_key (load_eq eq) d.owners load (Some call) l ≡ Some v) here
        (subst (λ v. put_key (load_eq eq) d.owners load (Some call) v ≡ Some call) (some_same is)
        (ap (λ b. cond b (Some call) (d.owners load)) (loads_self eq laws load))))
        (λ there is. by (load_eq eq load l) refl (own n l is))
      where
        by : (b : Bool) → load_eq eq load l ≡ b → d.owners l ≡ Some n →
            cond b (Some call) (d.owners l) ≡ Some n
        by true same e = absurd (none_some (sym none ∙ one load l same ∙ e))
        by false same e = e

    ends_own : OwnersOwn (owners_without d call) (put_at d.owning call None)
    ends_own n l e = put_cases d.owning call None n (Some l) (owners_without d call l ≡ Some n) e
        (λ here is. absurd (none_some is))
        (λ there is. ap (λ o. cond (option_map_or (λ v. v == call) o false) None o) (own n l is) ∙
        ap (λ b. cond {A = Option ℕ} b None (Some n)) (other_number call n there))

  visit_owns : (d : DeskPart K V E) (made : Visit K V E) → OneOwner eq d.owners →
      OwnersOwn d.owners d.owning → OwnersOwn (makes eq d made).owners (makes eq d made).owning
  visit_owns d (visit.WaitOrOwn call key kind) one own =
      by (d.owners (record { key = key; kind = kind })) refl
    where
      load : Load K
      load = record { key = key; kind = kind }

      by : (o : Option ℕ) → d.owners load ≡ o →
          OwnersOwn (claimed eq d call load o).owners (claimed eq d call load o).owning
      by None e = claims_own d call own load one e
      by (Some owner) e = own
  visit_owns d (visit.OwnAlone call key) one own = by (d.owners (computes_of key)) refl
    where
      by : (o : Option ℕ) → d.owners (computes_of key) ≡ o →
          OwnersOwn (claimed_alone eq d call (computes_of key) o).owners
          (claimed_alone eq d call (computes_of key) o).owning
      by None e = claims_own d call own (computes_of key) one e
      by (Some owner) e = own
  visit_owns d (visit.Settle call with) one own = ends_own d call own
  visit_owns d (visit.LockKey call key) one own = by (is_unlocked_for d call key)
    where
      by : (b : Bool) → OwnersOwn (locked_by eq d call key b).owners
          (locked_by eq d call key b).owning
      by true = own
      by false = own
  visit_owns d (visit.ReadSettled call) one own = by (is_some (settlement_for d call)) refl
    where
      by : (b : Bool) → is_some (settlement_for d call) ≡ b →
          OwnersOwn (read d call).owners (read d call).owning
      by true e = rw e own
      by false e = rw e own
  visit_owns d _ one own = own

  access_owns : (n : ℕ) (w new : World K V E) (a : Access K V E) (g : Got K V E) →
      Gets eq n w a g new → OneOwner eq w.desk.owners → OwnersOwn w.desk.owners w.desk.owning →
      OwnersOwn new.desk.owners new.desk.owning
  access_owns n w new (On_table o) (got.Table table.Going) gets one own =
      subst (λ (v : World K V E). OwnersOwn v.desk.owners v.desk.owning) (sym gets.1) own
  access_owns n w new (On_table o) (got.Table (table.Decided answer)) gets one own =
      subst (λ (v : World K V E). OwnersOwn v.desk.owners v.desk.owning) (sym gets.2) own
  access_owns n w new (On_desk made) (got.Desk f) gets one own =
      subst (λ (v : World K V E). OwnersOwn v.desk.owners v.desk.owning) (sym gets.1)
      (visit_owns w.desk made one own)
  access_owns n w new (On_table o) (got.Desk f) gets one own = absurd gets
  access_owns n w new (On_desk made) (got.Table turn) gets one own = absurd gets

  record AreOwners (s : State K V E) : Type 0 where
    reached : IsReached eq s
    own : OwnersOwn s.world.desk.owners s.world.desk.owning

  on_reached : (s t : State K V E) → Leads eq s t → IsReached eq s → IsReached eq t
  on_reached s t led h = run_reached eq s t led.events led.replies h led.run

  owners_step : (s t : State K V E) (n : ℕ) (turn : Turn K V E) → Leads eq s t → AreOwners s →
      Step eq s n turn t → AreOwners t
  owners_step s t n turn led i step = record {
    reached = on_reached s t led i.reached;
    own = subst (λ (v : State K V E). OwnersOwn v.world.desk.owners v.world.desk.owning)
        (sym step.after)
        (access_owns n s.world step.world (access_of n step.call) step.given step.gets
        (in_owned eq laws s i.reached).one_owner i.own);
  }

  owners_followed : IsFollowed eq AreOwners
  owners_followed = record {
    at = λ s moment on led i. record { reached = on_reached s _ led i.reached; own = i.own };
    start = λ s start fits led i. record { reached = on_reached s _ led i.reached; own = i.own };
    step = owners_step;
    tell = λ s n given asked led i. record { reached = on_reached s _ led i.reached; own = i.own };
    hear = λ s n off running led i. record { reached = on_reached s _ led i.reached; own = i.own };
    drop = λ s n c live between led i. record {
      reached = on_reached s _ led i.reached;
      own = ends_own s.world.desk n i.own;
    };
  }

  pub owners_own : (s : State K V E) → IsReached eq s →
      OwnersOwn s.world.desk.owners s.world.desk.owning
  owners_own s h = (follow eq AreOwners owners_followed (fresh K V E h.division h.rules h.size h.handed) s
      h.events h.replies (record {
        reached = fresh_reached eq h.division h.divides h.rules h.size h.handed h.has_log;
        own = λ n load e. absurd (none_some e);
      }) h.run).own

  pub computes_one : ComputesAreOne K V E eq
  computes_one s n m a b h x y e =
      let own = owners_own s h in
      let same : load_eq eq (computes_of a) (computes_of b) ≡ true = rw e refl in
      some_same (sym (own n (computes_of a) x) ∙
      (in_owned eq laws s h).one_owner (computes_of a) (computes_of b) same ∙
      own m (computes_of b) y)
