-- A look tells the truth, or the keeper failed.
use Rattle.std.proofs.Common.{ℕ, Option, refl}
use Rattle.moka_behind.specs.declared.behind_error.BehindError.TheVariants.{Fault}
use Rattle.moka_behind_run.proofs.Serving.{err_is, ok_no_err, own, same_seen}
use Rattle.moka_behind.specs.Stored.{keys_found}
use Rattle.moka_behind_run.proofs.playing.get_key.Goals as goal

pub returns-in-Ok-clause-serves : goal.returns-in-Ok-clause-serves
returns-in-Ok-clause-serves g c = λ s stands.
    let got = c.in-Ok.ensures.got s.truth s.stored s.sent stands in
    record {
      after = record s { stored = keys_found c.args.key c.in-Ok.found s.stored };
      replies = record { keeper = same_seen _ _ _ _ c.get.ensures.told (c.in-Ok.ensures.calm (λ e. ok_no_err c.in-Ok.found Fault e)); value = got.1; after = refl };
      stands = got.0;
    }

pub returns-in-Err-Fault-clause-serves : goal.returns-in-Err-Fault-clause-serves
returns-in-Err-Fault-clause-serves g c = λ s stands.
    let told = g.Kp.Keeper.told c.args.keeper.now in
    let is = err_is (Option ℕ) c.in-Err-Fault.field-0 Fault c.in-Err-Fault.field-0-is in
    record {
      after = s;
      replies =
          record {
            told = c.get.ensures.told;
            fault = c.in-Err-Fault.ensures.fault is;
            asked = λ held.
                (c.in-Err-Fault.ensures.own told s.truth s.stored s.sent stands
                (own c.args.behind.now s c.args.key stands.owes.writes held)).1 is;
            after = refl;
          };
      stands = c.in-Err-Fault.ensures.dropped is s.truth s.stored s.sent stands;
    }
