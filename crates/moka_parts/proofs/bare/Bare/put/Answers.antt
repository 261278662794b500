use Rattle.std.proofs.Common.{Option, Some, cond, ap, subst, ◌∙◌}
use Rattle.std.proofs.lemmas.Result.{IfOk-from_err}
use Rattle.moka_parts.specs.Calls.{Shown}
use Rattle.moka_parts.specs.Pairs.{PutsAt}
use Rattle.moka_parts.proofs.Holding.{may_lend, meets_same, meets_put}
use Rattle.moka_parts.proofs.Refusing.{on_refused, on_err}
use Rattle.moka_parts.proofs.bare.Bare.put.Goals as goal

pub invariant_of-self : goal.invariant_of-self
invariant_of-self g c = meets_same g.K.PartialEq.eq g.F.Fact.holds c.self.inside.map.entries c.make_room.new.map.entries c.self.invariant c.make_room.ensures.map

pub returns-then-is_err-clause-shown : goal.returns-then-is_err-clause-shown
returns-then-is_err-clause-shown g c = IfOk-from_err c.refused.result.0 _ c.refused.ensures

pub returns-then-is_err-clause-map : goal.returns-then-is_err-clause-map
returns-then-is_err-clause-map g c = on_refused c.refused.result.0 _ c.refused.ensures

pub returns-then-is_err-clause-err : goal.returns-then-is_err-clause-err
returns-then-is_err-clause-err g c = on_err c.refused.result.0 _ (rw (← c.self.view_is) c.make_room.ensures.map)

pub returns-then-is_err-clause-fact : goal.returns-then-is_err-clause-fact
returns-then-is_err-clause-fact g c = on_refused c.refused.result.0 _ c.refused.ensures

pub replace-given-requires-clause-callable : goal.replace-given-requires-clause-callable
replace-given-requires-clause-callable g c = λ shown same.
    c.requires.callable shown (may_lend (g.F.Fact.holds c.args.key) shown _ (same ∙ c.make_room.ensures.map c.args.key) (c.self.invariant c.args.key))

pub invariant_of-self-2 : goal.invariant_of-self-2
invariant_of-self-2 g c =
    let eq = g.K.PartialEq.eq in
    let key = c.args.key in
    let now : Option (g.row.K.Denot × g.row.V.Denot) = Some (key, c.args.value) in
    let made : PutsAt eq key now c.self.inside.map.entries c.replace-given.new.map.entries = λ q.
    c.replace-given.ensures.map q ∙ ap (λ (o : Option (g.row.K.Denot × g.row.V.Denot)). cond (eq key q) now o) (c.make_room.ensures.map q) in
    meets_put eq g.F.Fact.holds key now c.self.inside.map.entries c.replace-given.new.map.entries c.self.invariant made (λ q e. g.met.F.Fact.alike key q c.args.value e c.requires.fact)

pub returns-clause-shown : goal.returns-clause-shown
returns-clause-shown g c = rw (← c.self.view_is)
    (subst (λ (o : Option (g.row.K.Denot × g.row.V.Denot)). Shown g.W.FnOnce c.args.with o c.replace-given.result.0) (c.make_room.ensures.map c.args.key) c.replace-given.ensures.shown)

pub returns-clause-map : goal.returns-clause-map
returns-clause-map g c = rw (← c.self.view_is)
    (λ q. c.replace-given.ensures.map q
    ∙ ap (λ (o : Option (g.row.K.Denot × g.row.V.Denot)). cond (g.K.PartialEq.eq c.args.key q) (Some (c.args.key, c.args.value)) o) (c.make_room.ensures.map q))

pub returns-clause-fact : goal.returns-clause-fact
returns-clause-fact g c = rw (← c.self.view_is) (c.self.invariant c.args.key)
