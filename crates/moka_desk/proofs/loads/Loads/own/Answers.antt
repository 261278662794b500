use Rattle.std.proofs.Common.{◌==◌, Some, None, cond, ap, sym, ◌≡◌, ◌∙◌}
use Rattle.std.specs.HashMap.{get}
use Rattle.moka_hist.specs.Finite.{load_eq}
use Rattle.moka_desk.proofs.SameLoads.{derived, load_same, get_same, get_alike, load_laws}
use Rattle.moka_hist.proofs.Owners.{owns_more, owned_more}
use Rattle.moka_desk.proofs.loads.Loads.own.Goals as goal

pub returns-clause-ok : goal.returns-clause-ok
returns-clause-ok g c = λ p h.
    let room = c.make_room.ensures.same p h in
    let same = load_eq g.K.PartialEq.eq in
    let eq = g.K.PartialEq.eq in
    let load = c.args.load in
    let mid = c.make_room.new.self.owners in
    let copy : c.in_ok-own.own ≡ load = c.in_ok-own.ensures in
    let none : p.owning c.args.call ≡ None = sym (h.owning c.args.call) ∙ c.requires.idle in
    let free : p.owners load ≡ None = sym (h.owners load) ∙ c.requires.free in
    record {
      owners = λ l.
          get_same eq c.put.new.map l ∙ c.put.ensures.updates.0 l
          ∙ ap (λ k. cond (derived eq k l) (Some c.args.call) (get (derived eq) mid l)) copy
          ∙ sym (ap (λ e. cond (e load l) (Some c.args.call) (get e mid l)) (load_same eq))
          ∙ ap (λ o. cond (load_eq eq load l) (Some c.args.call) o) (room.owners l);
      owning = λ n. c.put-2.ensures.updates.0 n ∙ ap (λ o. cond (c.args.call == n) (Some load) o) (room.owning n);
      joined = room.joined;
      readers = room.readers;
      settled = room.settled;
      owns = owns_more same p.owners p.owning c.args.call load none h.owns;
      owned = owned_more same p.owners p.owning c.args.call load ((load_laws g.K.PartialEq.eq g.met.K.Eq.laws).refl load) free
          (λ l s. sym (h.owners load) ∙ get_alike g.K.PartialEq.eq g.met.K.Eq.laws c.args.self.now.owners load l s ∙ h.owners l) h.owned;
    }
