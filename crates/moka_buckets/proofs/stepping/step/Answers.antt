use Rattle.std.proofs.Common.{◌≡◌, Result, Ok, Err, OnErr, refl, sym, ap, subst, ◌∙◌}
use Rattle.std.specs.declared.alloc.AllocError.{AllocError}
use Rattle.moka_hist.specs.Tables.{answer_of}
use Rattle.moka_words.specs.Effect.{Effect}
use Rattle.moka_buckets.specs.KeyOps.{key_of}
use Rattle.moka_pairs.specs.Keys.{hash_by, own_by}
use Rattle.moka_buckets.specs.Nodes.{key_in, pair_at, Agrees, AreHashed}
use Rattle.moka_buckets.specs.Arrays.{memory_of}
use Rattle.moka_buckets.specs.Making.{CanMake}
use Rattle.moka_buckets.specs.Tables.{choose, found_by}
use Rattle.moka_buckets.specs.Steps.{Places, answered, Done}
use Rattle.moka_buckets.proofs.Spared.{lacks_wants}
use Rattle.moka_buckets.proofs.Stepped.{accessed, awaits, can_make_it, stepped, wants_may}
use Rattle.moka_buckets.proofs.stepping.step.Goals as goal

on_err : {A P : Type 0} (r : Result A AllocError) → P → OnErr r P
on_err (Ok a) p = tt
on_err (Err e) p = p

pub make-requires-clause-can : goal.make-requires-clause-can
make-requires-clause-can g c =
    let (hash, first, peak, can) = c.requires.can in
    subst (λ xs. CanMake (memory_of c.args.arrays.now) xs c.want-access.result) (sym c.as_slice-before.ensures.value)
    (can_make_it g.K.PartialEq.eq g.met.K.Eq.laws hash first peak c.args.arrays.now c.args.nodes.now.items c.args.call.now can c.want-access.result c.want-access.ensures)

pub take-requires : goal.take-requires
take-requires g c =
    let (hash, first, peak, can) = c.requires.can in
    let value = c.as_slice-before.ensures.value in
    awaits g.K.PartialEq.eq g.met.K.Eq.laws hash first peak c.args.arrays.now c.args.nodes.now.items c.args.call.now can c.want-access.result c.want-access.ensures
    c.make.new.arrays c.in_ok-saw.saw
    (λ keys agrees. subst (λ k. Effect (hash_by hash keys) (own_by g.K.PartialEq.eq keys k) c.want-access.result c.in_ok-saw.saw
    (memory_of c.args.arrays.now) (memory_of c.make.new.arrays)) c.key_of.ensures (c.in_ok-saw.ensures.effect hash keys
    (subst (λ xs. AreHashed hash xs) (sym value) can.well.hashed) (subst (λ xs. Agrees keys xs) (sym value) agrees))) c.in_ok-saw.ensures.counts

pub returns-in_err-node-clause-err : goal.returns-in_err-node-clause-err
returns-in_err-node-clause-err g c = on_err c.from_residual-in_err-node.result (
  c.in_ok-saw.ensures.same (lacks_wants c.args.call.now c.want-access.result c.in_ok-saw.saw c.want-access.ensures c.in_err-node.ensures.err),
  c.in_err-node.ensures.items,
  refl,
)

pub returns-in_err-take-clause-err : goal.returns-in_err-take-clause-err
returns-in_err-take-clause-err g c =
    let err = c.in_err-take.ensures.err in
    on_err c.from_residual-in_err-take.result (
      c.in_ok-saw.ensures.same (wants_may c.args.call.now.table c.want-access.result c.in_ok-saw.saw c.want-access.ensures err.1),
      c.in_ok-node.ensures.items,
      ap (λ t. record c.args.call.now { table = t }) err.0,
    )

pub returns-clause-done : goal.returns-clause-done
returns-clause-done g c = λ hash first peak can.
    let eq = g.K.PartialEq.eq in
    let b = c.args.call.now in
    let nodes = c.args.nodes.now.items in
    let more = c.place.new.nodes.items in
    let m = memory_of c.args.arrays.now in
    let n = memory_of c.make.new.arrays in
    let last = c.answer.new.call in
    let value = c.as_slice-before.ensures.value in
    subst (λ t. Done eq hash first peak m nodes b (Ok t) n more last) (sym c.turn_of.ensures)
    (stepped eq g.met.K.Eq.laws hash first peak c.args.arrays.now nodes b can c.want-access.result c.want-access.ensures c.make.new.arrays c.in_ok-saw.saw
    (λ keys agrees. subst (λ k. Effect (hash_by hash keys) (own_by eq keys k) c.want-access.result c.in_ok-saw.saw m n) c.key_of.ensures
    (c.in_ok-saw.ensures.effect hash keys (subst (λ xs. AreHashed hash xs) (sym value) can.well.hashed) (subst (λ xs. Agrees keys xs) (sym value) agrees)))
    c.in_ok-saw.ensures.counts more c.in_ok-node.node c.in_ok-node.ensures.spare c.take.new.self c.in_ok-take.ensures.ok c.place.new.call last
    (subst (λ xs. Places xs more (record b { table = c.take.new.self }) c.in_ok-node.node c.place.new.call) c.in_ok-node.ensures.items c.place.ensures.places)
    c.answer.ensures.operation c.answer.ensures.hash c.answer.ensures.node
    (subst (λ xs. last.table ≡ answered (choose xs c.place.new.call.operation c.place.new.call.node) c.place.new.call.table) c.as_slice.ensures.value c.answer.ensures.table)
    c.in_ok-pair.pair
    (subst (λ xs. c.in_ok-pair.pair ≡ answer_of (pair_at xs (found_by b.operation (own_by eq (key_in xs) (key_of b.operation)) m c.want-access.result))) value
    (c.in_ok-pair.ensures ∙ ap (λ x. answer_of (pair_at c.as_slice-before.result.now x)) c.found.ensures)))

pub returns-clause-accesses : goal.returns-clause-accesses
returns-clause-accesses g c = λ hash first peak can.
    let eq = g.K.PartialEq.eq in
    let b = c.args.call.now in
    let nodes = c.args.nodes.now.items in
    let more = c.place.new.nodes.items in
    let m = memory_of c.args.arrays.now in
    let n = memory_of c.make.new.arrays in
    let last = c.answer.new.call in
    let value = c.as_slice-before.ensures.value in
    accessed eq g.met.K.Eq.laws hash first peak c.args.arrays.now nodes b can c.want-access.result c.want-access.ensures c.make.new.arrays c.in_ok-saw.saw
    (λ keys agrees. subst (λ k. Effect (hash_by hash keys) (own_by eq keys k) c.want-access.result c.in_ok-saw.saw m n) c.key_of.ensures
    (c.in_ok-saw.ensures.effect hash keys (subst (λ xs. AreHashed hash xs) (sym value) can.well.hashed) (subst (λ xs. Agrees keys xs) (sym value) agrees)))
    c.in_ok-saw.ensures.counts more c.in_ok-node.node c.in_ok-node.ensures.spare c.take.new.self c.in_ok-take.ensures.ok c.place.new.call last
    (subst (λ xs. Places xs more (record b { table = c.take.new.self }) c.in_ok-node.node c.place.new.call) c.in_ok-node.ensures.items c.place.ensures.places)
    c.answer.ensures.operation c.answer.ensures.hash c.answer.ensures.node
    (subst (λ xs. last.table ≡ answered (choose xs c.place.new.call.operation c.place.new.call.node) c.place.new.call.table) c.as_slice.ensures.value c.answer.ensures.table)
