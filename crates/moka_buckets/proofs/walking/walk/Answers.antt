use Rattle.std.proofs.Common.{subst}
use Rattle.moka_words.specs.Effect.{Effect}
use Rattle.moka_pairs.specs.Keys.{hash_by, own_for}
use Rattle.moka_buckets.specs.Arrays.{memory_of}
use Rattle.moka_buckets.proofs.Once.{wanted_is}
use Rattle.moka_buckets.proofs.Walks.{can_walk, walk_takes, step_led}
use Rattle.moka_buckets.proofs.walking.walk.Goals as goal

pub want-access-requires : goal.want-access-requires
want-access-requires g c = c.requires.can.3.going

pub make-requires-clause-can : goal.make-requires-clause-can
make-requires-clause-can g c =
    let (hash, first, peak, can) = c.requires.can in
    can_walk g.K.PartialEq.eq g.met.K.Eq.laws hash can.respects c.args.nodes.now first peak c.args.arrays.now can.well c.args.table.now
    c.want-access.result can.going can.walks c.want-access.ensures

pub take-requires : goal.take-requires
take-requires g c =
    let (hash, first, peak, can) = c.requires.can in
    walk_takes g.K.PartialEq.eq g.met.K.Eq.laws hash can.respects c.args.nodes.now first peak c.args.arrays.now can.well c.make.new.arrays c.in_ok-saw.saw
    c.args.table.now c.want-access.result can.going can.walks c.want-access.ensures
    (λ keys agrees. subst (λ k. Effect (hash_by hash keys) (own_for g.K.PartialEq.eq keys k) c.want-access.result c.in_ok-saw.saw
    (memory_of c.args.arrays.now) (memory_of c.make.new.arrays)) c.no_key.ensures (c.in_ok-saw.ensures.effect hash keys can.well.hashed agrees)) c.in_ok-saw.ensures.counts

pub returns-clause-lead : goal.returns-clause-lead
returns-clause-lead g c = λ hash first peak can.
    step_led g.K.PartialEq.eq g.met.K.Eq.laws hash can.respects c.args.nodes.now first peak c.args.arrays.now can.well c.make.new.arrays c.in_ok-saw.saw
    c.args.table.now c.want-access.result can.going can.walks c.want-access.ensures
    (λ keys agrees. subst (λ k. Effect (hash_by hash keys) (own_for g.K.PartialEq.eq keys k) c.want-access.result c.in_ok-saw.saw
    (memory_of c.args.arrays.now) (memory_of c.make.new.arrays)) c.no_key.ensures (c.in_ok-saw.ensures.effect hash keys can.well.hashed agrees)) c.in_ok-saw.ensures.counts c.take.new.self c.in_ok-take.ensures.ok

pub returns-clause-accesses : goal.returns-clause-accesses
returns-clause-accesses g c = λ hash first peak can. record {
  access = c.want-access.result;
  is = wanted_is c.args.table.now c.want-access.result c.want-access.ensures;
  saw = c.in_ok-saw.saw;
  effect = λ keys agrees. subst (λ k. Effect (hash_by hash keys) (own_for g.K.PartialEq.eq keys k) c.want-access.result c.in_ok-saw.saw
      (memory_of c.args.arrays.now) (memory_of c.make.new.arrays)) c.no_key.ensures (c.in_ok-saw.ensures.effect hash keys can.well.hashed agrees);
  counts = c.in_ok-saw.ensures.counts;
}
