use Rattle.std.proofs.Common.{◌+◌, sym, ap, subst, ◌∙◌, arith}
use Rattle.moka_words.specs.Effect.{StandsBefore}
use Rattle.moka_buckets.specs.Arrays.{memory_of}
use Rattle.moka_buckets.proofs.Placed.{placed_before, one_place, few_arrays}
use Rattle.moka_buckets.proofs.array.Arrays.place_after.Goals as goal

pub unreachable-requires : goal.unreachable-requires
unreachable-requires c =
    let there = placed_before c.args.self.now c.in-Some.array c.requires.stands.0 c.requires.placed
    (subst (StandsBefore (memory_of c.args.self.now) c.requires.stands.0) c.in-Some.is c.requires.stands.1) in
    let at = there.3 in
    let e = c.place_of.ensures in
    let f = c.in-None-place_of.is in
    cc (sym f ∙ (e ∙ at))

pub overflow_add-result : goal.overflow_add-result
overflow_add-result c =
    let there = placed_before c.args.self.now c.in-Some.array c.requires.stands.0 c.requires.placed
    (subst (StandsBefore (memory_of c.args.self.now) c.requires.stands.0) c.in-Some.is c.requires.stands.1) in
    let is = one_place (sym c.in-Some-place_of.is ∙ (c.place_of.ensures ∙ there.3)) in
    let within = there.2 in
    let few = few_arrays c.args.self.now in
    omega arith

pub returns-in-Some-place_of : goal.returns-in-Some-place_of
returns-in-Some-place_of c =
    let there = placed_before c.args.self.now c.in-Some.array c.requires.stands.0 c.requires.placed
    (subst (StandsBefore (memory_of c.args.self.now) c.requires.stands.0) c.in-Some.is c.requires.stands.1) in
    let is = one_place (sym c.in-Some-place_of.is ∙ (c.place_of.ensures ∙ there.3)) in
    subst (λ p. StandsBefore (memory_of c.args.self.now) p c.args.array) (there.1 ∙ ap (λ q. q + 1) (sym is)) c.requires.stands.1
