-- A step tells nobody anything: it takes what was told, or leaves it.
use Rattle.std.proofs.Common.{◌≡◌, ℕ, Bool, true, false, Option, Some, None, is_some, refl, sym, ap, ◌∙◌}
use Rattle.moka_hist.specs.Finite.{put_at}
use Rattle.moka_hist.specs.State.{State, World, DeskPart}
use Rattle.moka_hist.specs.Step.{Access, Gets, On_desk, On_table, Step, access_of}
use Rattle.moka_hist.specs.Visits.{claimed, claimed_alone, is_unlocked_for, locked_by, makes, read, settlement_for}
use Rattle.moka_hist.specs.declared.accesses.Got.{Got}
use Rattle.moka_hist.specs.declared.accesses.Got.TheVariants as got
use Rattle.moka_hist.specs.declared.accesses.Turn.{Turn}
use Rattle.moka_hist.specs.declared.events.Told.{Told}
use Rattle.moka_hist.specs.declared.tables.TableTurn.TheVariants as table
use Rattle.moka_hist.specs.declared.visits.Visit.{Visit}
use Rattle.moka_hist.specs.declared.visits.Visit.TheVariants as visit
use Rattle.moka_laws.proofs.Counting.{none_some, put_cases}
use Rattle.moka_laws.proofs.Outcomes.{computes_of}

module _ {K V E : Type 0} (eq : K → K → Bool) where
  -- what is told there was told before
  abbrev Fewer : DeskPart K V E → DeskPart K V E → Type 0
  Fewer d new = (m : ℕ) (given : Told V E) → new.told m ≡ Some given → d.told m ≡ Some given

  taken : (d : DeskPart K V E) (n m : ℕ) (given : Told V E) →
      put_at d.told n None m ≡ Some given → d.told m ≡ Some given
  taken d n m given is = put_cases d.told n None m (Some given) (d.told m ≡ Some given) is
      (λ here same. absurd (none_some same)) (λ there same. same)

  visit_told : (d : DeskPart K V E) (made : Visit K V E) → Fewer d (makes eq d made)
  visit_told d (visit.LockKey call key) = by (is_unlocked_for d call key)
    where
      by : (b : Bool) → Fewer d (locked_by eq d call key b)
      by true m given is = is
      by false m given is = is
  visit_told d (visit.WaitOrOwn call key kind) = by (d.owners (record { key = key; kind = kind }))
    where
      by : (o : Option ℕ) → Fewer d (claimed eq d call (record { key = key; kind = kind }) o)
      by None m given is = is
      by (Some owner) m given is = is
  visit_told d (visit.OwnAlone call key) = by (d.owners (computes_of key))
    where
      by : (o : Option ℕ) → Fewer d (claimed_alone eq d call (computes_of key) o)
      by None m given is = is
      by (Some owner) m given is = is
  visit_told d (visit.ReadSettled call) = by (is_some (settlement_for d call)) refl
    where
      by : (b : Bool) → is_some (settlement_for d call) ≡ b → Fewer d (read d call)
      by true e = rw e (λ m given is. is)
      by false e = rw e (λ m given is. is)
  visit_told d (visit.OpenAsk call takes) = λ m given is. taken d call m given is
  visit_told d (visit.TakeTold call) = λ m given is. taken d call m given is
  visit_told d _ = λ m given is. is

  access_told : (n : ℕ) (w new : World K V E) (a : Access K V E) (g : Got K V E) →
      Gets eq n w a g new → Fewer w.desk new.desk
  access_told n w new (On_table o) (got.Table table.Going) gets = rw gets.1 (λ m given is. is)
  access_told n w new (On_table o) (got.Table (table.Decided answer)) gets =
      rw gets.2 (λ m given is. is)
  access_told n w new (On_desk made) (got.Desk f) gets = rw gets.1 (visit_told w.desk made)
  access_told n w new (On_table o) (got.Desk f) gets = absurd gets
  access_told n w new (On_desk made) (got.Table turn) gets = absurd gets

  pub step_told : (s t : State K V E) (n : ℕ) (turn : Turn K V E) → Step eq s n turn t →
      (m : ℕ) (given : Told V E) → t.world.desk.told m ≡ Some given →
      s.world.desk.told m ≡ Some given
  step_told s t n turn step m given is =
      access_told n s.world step.world (access_of n step.call) step.given step.gets m given
      (sym (ap (λ (v : State K V E). v.world.desk.told m) step.after) ∙ is)
