-- All was sent, or some was, and the keeper failed.
use Rattle.std.proofs.Common.{◌≡◌, ℕ, ◌-◌, ◌<◌, ◌++◌, length, take, refl, sym, ap, ◌∙◌, subst}
use Rattle.moka_keepers.specs.Owing.{Owes, taken_off}
use Rattle.moka_behind.specs.Behind.{IsBehind}
use Rattle.moka_behind_run.specs.Playing.{unsent}
use Rattle.moka_behind.specs.declared.behind_error.BehindError.TheVariants.{Fault}
use Rattle.moka_behind_run.proofs.Serving.{err_is, fewer_off, ok_no_err, owes_none, sent_all, unsent_is}
use Rattle.moka_behind_run.proofs.playing.drain_all.Goals as goal

pub returns-in-Ok-clause-serves : goal.returns-in-Ok-clause-serves
returns-in-Ok-clause-serves g c = λ s stands.
    let drained = c.in-Ok.ensures.drained s.truth s.stored s.sent stands in
    let all = sent_all _ _ s.truth s.stored _ drained.0 (c.drain.ensures.sent s.truth s.stored s.sent stands) in
    record {
      after = record s { sent = s.truth.writes };
      replies =
          record {
            faults = c.in-Ok.ensures.calm (λ e. ok_no_err c.in-Ok.count Fault e);
            all = c.in-Ok.ensures.count ∙ ap length (sym (unsent_is s _ stands.owes.writes));
            owes = owes_none _ _ s.truth s.stored (c.in-Ok.ensures.all (λ e. ok_no_err c.in-Ok.count Fault e)) all;
            is_true = drained.1;
            after = refl;
          };
      stands = all;
    }

pub returns-in-Err-Fault-clause-serves : goal.returns-in-Err-Fault-clause-serves
returns-in-Err-Fault-clause-serves g c = λ s stands.
    let old = c.args.behind.now.unsent in
    let new = c.drain.new.self.unsent in
    let left = unsent_is s old stands.owes.writes in
    let same : taken_off old new ≡ take (length old - length new) (unsent s) = ap (take (length old - length new)) (sym left) in
    let is = err_is ℕ c.in-Err-Fault.field-0 Fault c.in-Err-Fault.field-0-is in
    let after = record s { sent = s.sent ++ take (length old - length new) (unsent s) } in
    let sent = subst (λ more. IsBehind c.drain.new.self (g.Kp.Keeper.told c.drain.new.keeper) s.truth s.stored (s.sent ++ more)) same (c.drain.ensures.sent s.truth s.stored s.sent stands) in
    record {
      after = after;
      replies =
          record {
            fault = c.in-Err-Fault.ensures.fault is;
            count = length old - length new;
            fewer = subst (λ us. length old - length new < length us) (sym left) (fewer_off old new c.drain.ensures.front (c.in-Err-Fault.ensures.first is));
            owes = subst (λ us. Owes us (g.Kp.Keeper.told c.drain.new.keeper) s.truth after.sent) (sym (unsent_is after new sent.owes.writes)) sent.owes;
            after = refl;
          };
      stands = sent;
    }
