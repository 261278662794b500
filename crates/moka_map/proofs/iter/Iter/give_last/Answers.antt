use Rattle.std.proofs.Common.{Some, Ok, is_some, ap, subst, sym, ◌∙◌}
use Rattle.std.proofs.lemmas.Bool.{false≢true}
use Rattle.moka_map.specs.Coming.{AreListed, Coming, GivesNext}
use Rattle.moka_map.proofs.Arriving.{init_kept, last_given, last_some}
use Rattle.moka_map.proofs.iter.Iter.give_last.Goals as goal

pub invariant_of-self : goal.invariant_of-self
invariant_of-self g c =
    let it = c.self.inside in
    init_kept g.S.BuildHasher g.S.Hasher.Hasher g.K.PartialEq.eq g.K.Hash.hash_input g.met.K.Eq.laws g.met.K.Hash.respects_eq it.map.now it.segment c.pop.new.self.items c.in-Some.key
    (subst (λ ks. AreListed g.S.BuildHasher g.S.Hasher.Hasher g.K.PartialEq.eq g.K.Hash.hash_input (record { map = it.map.now; segment = it.segment; keys = ks }))
    c.in-Some.ensures.items c.self.invariant)

pub invariant_of-self-2 : goal.invariant_of-self-2
invariant_of-self-2 g c =
    let it = c.self.inside in
    init_kept g.S.BuildHasher g.S.Hasher.Hasher g.K.PartialEq.eq g.K.Hash.hash_input g.met.K.Eq.laws g.met.K.Hash.respects_eq it.map.now it.segment c.pop.new.self.items c.in-Some.key
    (subst (λ ks. AreListed g.S.BuildHasher g.S.Hasher.Hasher g.K.PartialEq.eq g.K.Hash.hash_input (record { map = it.map.now; segment = it.segment; keys = ks }))
    c.in-Some.ensures.items c.self.invariant)

pub unreachable-requires-in-Ok-None : goal.unreachable-requires-in-Ok-None
unreachable-requires-in-Ok-None g c =
    let it = c.self.inside in
    let some = last_some g.S.BuildHasher g.S.Hasher.Hasher g.K.PartialEq.eq g.K.Hash.hash_input g.met.K.Eq.laws g.met.K.Hash.respects_eq it.map.now it.segment c.pop.new.self.items c.in-Some.key
    (subst (λ ks. AreListed g.S.BuildHasher g.S.Hasher.Hasher g.K.PartialEq.eq g.K.Hash.hash_input (record { map = it.map.now; segment = it.segment; keys = ks }))
    c.in-Some.ensures.items c.self.invariant) in
    false≢true (ap is_some (sym c.in-Ok-None.field-0-is ∙ c.in-Ok-None.ensures) ∙ some)

pub returns-clause-gives : goal.returns-clause-gives
returns-clause-gives g c =
    let it = c.self.inside in
    let new : Coming g.row.K.Denot g.row.V.Denot g.row.S.Denot = record { map = it.map.now; segment = it.segment; keys = c.pop.new.self.items } in
    let given = Some (Ok c.in-Ok-Some.pair) in
    subst (λ s. GivesNext g.S.BuildHasher g.S.Hasher.Hasher g.K.PartialEq.eq g.K.Hash.hash_input s given new) c.self.view_is
    (subst (λ ks. GivesNext g.S.BuildHasher g.S.Hasher.Hasher g.K.PartialEq.eq g.K.Hash.hash_input (record { map = it.map.now; segment = it.segment; keys = ks }) given new)
    (sym c.in-Some.ensures.items)
    (last_given g.S.BuildHasher g.S.Hasher.Hasher g.K.PartialEq.eq g.K.Hash.hash_input g.met.K.Eq.laws g.met.K.Hash.respects_eq it.map.now it.segment c.pop.new.self.items c.in-Some.key
    (subst (λ ks. AreListed g.S.BuildHasher g.S.Hasher.Hasher g.K.PartialEq.eq g.K.Hash.hash_input (record { map = it.map.now; segment = it.segment; keys = ks }))
    c.in-Some.ensures.items c.self.invariant) c.in-Ok-Some.pair (sym c.in-Ok-Some.ensures ∙ c.in-Ok-Some.field-0-is)))
