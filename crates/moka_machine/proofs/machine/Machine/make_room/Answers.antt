-- The calls are as they were.
use Rattle.std.proofs.Common.{Option, sym, ap, subst, ◌∙◌}
use Rattle.std.specs.Option.{option_map}
use Rattle.moka_machine.specs.Calls.{IsUsed, runs_in}
use Rattle.moka_machine.specs.Machine.{call_in}
use Rattle.moka_machine.specs.declared.call_places.Running.{Running}
use Rattle.moka_machine.proofs.machine.Machine.make_room.Goals as goal

pub returns-clause-same : goal.returns-clause-same
returns-clause-same g c = λ s h.
    record {
      world = h.world;
      calls = λ k. ap (λ p. option_map call_in (runs_in p)) (c.reserve.ensures.same k) ∙ h.calls k;
      each = λ k x e. h.each k x (sym (ap runs_in (c.reserve.ensures.same k)) ∙ e);
      used = λ k. subst (λ (p : Option (Option (Running g.row.K.Denot g.row.V.Denot g.row.E.Denot))). IsUsed p) (sym (c.reserve.ensures.same k)) (h.used k);
      history = h.history;
    }
