use Rattle.std.proofs.Common.{◌==◌, Some, None, cond, ap, sym, ◌≡◌, ◌∙◌}
use Rattle.std.specs.HashMap.{get}
use Rattle.moka_hist.specs.Finite.{load_eq}
use Rattle.moka_desk.proofs.SameLoads.{load_same, get_same, get_alike}
use Rattle.moka_hist.proofs.Owners.{owns_fewer, owned_fewer, but_none, but_one}
use Rattle.moka_desk.proofs.loads.Loads.disown.Goals as goal

pub returns-in-Some-clause-makes : goal.returns-in-Some-clause-makes
returns-in-Some-clause-makes g c = λ w h.
    let eq = g.K.PartialEq.eq in
    let same = load_eq eq in
    let call = c.args.call in
    let load = c.in-Some.load in
    let old = c.args.self.now.owners in
    let one : w.owning call ≡ Some load = sym (h.owning call) ∙ sym c.remove.ensures.value ∙ c.in-Some.is in
    record {
      owners = λ l.
          get_same eq c.remove-in-Some.new.self l ∙ c.remove-in-Some.ensures.updates.0 l
          ∙ sym (ap (λ e. cond (e load l) None (get e old l)) (load_same eq))
          ∙ ap (λ o. cond (same load l) None o) (h.owners l)
          ∙ but_one same w.owners w.owning call load h.owns h.owned one (λ k s. sym (h.owners load) ∙ get_alike eq g.met.K.Eq.laws old load k s ∙ h.owners k) l;
      owning = λ n. c.remove.ensures.updates.0 n ∙ ap (λ o. cond (call == n) None o) (h.owning n);
      joined = h.joined;
      readers = h.readers;
      settled = h.settled;
      owns = owns_fewer same w.owners w.owning call h.owns;
      owned = owned_fewer same w.owners w.owning call h.owned;
    }

pub returns-in-None-clause-makes : goal.returns-in-None-clause-makes
returns-in-None-clause-makes g c = λ w h.
    let same = load_eq g.K.PartialEq.eq in
    let call = c.args.call in
    let none : w.owning call ≡ None = sym (h.owning call) ∙ sym c.remove.ensures.value ∙ c.in-None.is in
    record {
      owners = λ l. h.owners l ∙ but_none same w.owners w.owning call h.owns none l;
      owning = λ n. c.remove.ensures.updates.0 n ∙ ap (λ o. cond (call == n) None o) (h.owning n);
      joined = h.joined;
      readers = h.readers;
      settled = h.settled;
      owns = owns_fewer same w.owners w.owning call h.owns;
      owned = owned_fewer same w.owners w.owning call h.owned;
    }
