-- The call is out of its place, and its operation with the layers.
use Rattle.std.proofs.Common.{◌≡◌, ℕ, Option, Some, None, refl, sym, ap, subst, ◌∙◌}
use Rattle.std.specs.Option.{option_map}
use Rattle.moka_hist.specs.Finite.{put_at}
use Rattle.moka_init.specs.declared.flow.Flow.{Flow}
use Rattle.moka_machine.specs.declared.machine.Machine.{Machine}
use Rattle.moka_machine.specs.Calls.{IsUsed, emptied, place_at, running_at, runs_in}
use Rattle.moka_machine.specs.declared.call_places.Running.{Running}
use Rattle.moka_machine.specs.Machine.{TakenOut, IsOut, IsOf, call_in}
use Rattle.moka_machine.proofs.Places.{none_runs, other_at, runs_at, set_at, set_each, untaken}
use Rattle.moka_machine.proofs.machine.Machine.take_out.Goals as goal

pub returns-in-Some-clause-some : goal.returns-in-Some-clause-some
returns-in-Some-clause-some g c = λ s h.
    let eq = g.K.PartialEq.eq in
    let places = place_at c.args.self.now.calls in
    let old = running_at c.args.self.now.calls in
    let n = c.args.call in
    let r = c.in-Some.running in
    let taken : (k : ℕ) → running_at c.take.new.self k ≡ put_at old n None k =
    λ k. runs_at places (place_at c.take.new.self) n (emptied (places n)) c.take.ensures.rest k ∙ ap (λ o. put_at old n o k) (none_runs (places n)) in
    let there : old n ≡ Some r = sym c.in-Some.ensures.taken in
    let is = h.each n r there in
    let m : Machine g.row.K.Denot g.row.V.Denot g.row.E.Denot g.row.T.Denot g.K.PartialEq g.K.Hash =
    record { layers = record c.args.self.now.layers { call = n; begun = r.begun }; calls = c.take.new.self } in
    let out : TakenOut eq g.T.Tests m n r.flow.value s × IsOut eq m r.flow.value = (
      record {
        live = sym (h.calls n) ∙ ap (option_map call_in) there;
        rest = record {
          reaches = record {
            layers = record {
              world = record { table = h.world.table; desk = h.world.desk; handed = h.world.handed; stay = h.world.stay };
              begun = is.begun;
              given = is.given;
            };
            out = taken n ∙ set_at old n None;
            each = set_each (IsOf eq m.layers.table s.world.table s.world.stay s.world.desk.last) old (running_at c.take.new.self) n None (λ x e. absurd (cc)) taken h.each;
            used = λ k ne. subst (λ (p : Option (Option (Running g.row.K.Denot g.row.V.Denot g.row.E.Denot))). IsUsed p)
                (sym (c.take.ensures.rest k ∙ other_at places n (emptied (places n)) k ne)) (h.used k);
            history = h.history;
          };
          number = refl;
          calls = λ k ne. ap (option_map call_in) (taken k ∙ other_at old n None k ne) ∙ h.calls k;
        };
      },
      record { on = record { call = sym is.number; begun = is.on }; live = is.live },
    ) in
    subst (λ (v : Machine g.row.K.Denot g.row.V.Denot g.row.E.Denot g.row.T.Denot g.K.PartialEq g.K.Hash). TakenOut eq g.T.Tests v n c.lend.result.value s × IsOut eq v c.lend.result.value) (sym c.lend.ensures.machine)
    (subst (λ (f : Flow g.row.K.Denot g.row.V.Denot g.row.E.Denot). TakenOut eq g.T.Tests m n f s × IsOut eq m f) (sym c.lend.ensures.flow) out)

pub returns-in-None-clause-same : goal.returns-in-None-clause-same
returns-in-None-clause-same g c = λ s h.
    let same = untaken (place_at c.args.self.now.calls) (place_at c.take.new.self) c.args.call (sym c.in-None.ensures.taken) (h.used c.args.call) c.take.ensures.rest in
    record {
      world = h.world;
      calls = λ k. ap (λ p. option_map call_in (runs_in p)) (same k) ∙ h.calls k;
      each = λ k x e. h.each k x (sym (ap runs_in (same k)) ∙ e);
      used = λ k. subst (λ (p : Option (Option (Running g.row.K.Denot g.row.V.Denot g.row.E.Denot))). IsUsed p) (sym (same k)) (h.used k);
      history = h.history;
    }
