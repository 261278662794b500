-- The machine as the ground of the call that was taken out: the other calls are as they were.
use Rattle.std.proofs.Common.{◌≡◌, ◌≢◌, ◌≤◌, ℕ, Bool, Some, None, sym, ap, subst, ◌∙◌}
use Rattle.std.specs.declared.cmp.PartialEq as PartialEq
use Rattle.std.specs.declared.hash.Hash as Hash
use Rattle.moka_hist.specs.State.{World}
use Rattle.moka_hist.specs.Step.{Access, Gets}
use Rattle.moka_hist.specs.Step as step
use Rattle.moka_hist.specs.declared.tables.TableTurn.TheVariants as table
use Rattle.moka_hist.specs.declared.accesses.Got.{Got}
use Rattle.moka_hist.specs.declared.accesses.Got.TheVariants as got
use Rattle.moka_hist.specs.declared.record_tests.Tests as Tests
use Rattle.moka_desk.specs.History.{KeepsAsBefore}
use Rattle.moka_layers.specs.Layers.{GroundIs, OthersStay}
use Rattle.moka_layers.proofs.Wanted.{last_same}
use Rattle.moka_machine.specs.Calls.{running_at}
use Rattle.moka_machine.specs.Machine.{Reaches}
use Rattle.moka_machine.specs.TheTable.{TheLayers, the_table}
use Rattle.moka_machine.specs.declared.calls.Calls.{Calls}

module _ {K V E : Type 0} (eq : K → K → Bool) where
  -- no access gives a call number out
  pub gets_last : (n : ℕ) (w new : World K V E) (a : Access K V E) (g : Got K V E) → Gets eq n w a g new → new.desk.last ≡ w.desk.last
  gets_last n w new (step.On_table o) (got.Table table.Going) gets = ap (λ v. v.desk.last) gets.1
  gets_last n w new (step.On_table o) (got.Table (table.Decided answer)) gets = ap (λ v. v.desk.last) gets.2
  gets_last n w new (step.On_desk made) (got.Desk found) gets = ap (λ v. v.desk.last) gets.1 ∙ last_same eq w.desk made
  gets_last n w new _ _ gets = absurd gets

module _ {K V E T : Type 0} {same : PartialEq.Ghosts K} {hash : Hash.Ghosts K} (eq : K → K → Bool) (q : Tests.Ghosts T K V) where
  -- where no call number was given out, and the others may go on with what they have begun
  pub still_reaches : (old new : TheLayers K V E T same hash) (calls : Calls K V E) (w after : World K V E) → new.call ≡ old.call
      → after.desk.last ≡ w.desk.last → GroundIs eq (the_table eq) q new after → OthersStay (the_table eq) old w new after → KeepsAsBefore old.desk new.desk
      → Reaches eq q (record { layers = old; calls = calls }) w → Reaches eq q (record { layers = new; calls = calls }) after
  still_reaches old new calls w after call last layers stay kept h =
      record {
        layers = layers;
        out = subst (λ (n : ℕ). running_at calls n ≡ None) (sym call) h.out;
        each = λ k x e.
            let is = h.each k x e in
            let none : running_at calls old.call ≡ None = h.out in
            let apart : old.call ≢ k = λ f. let there : running_at calls old.call ≡ Some x = subst (λ (n : ℕ). running_at calls n ≡ Some x) (sym f) e in absurd (cc) in
            record {
              number = is.number;
              live = is.live;
              on = is.on;
              begun = stay k x.begun apart is.begun;
              given = subst (λ (n : ℕ). k ≤ n) (sym last) is.given;
            };
        used = λ k ne. h.used k (λ e. ne (call ∙ e));
        history = kept ∙ h.history;
      }
