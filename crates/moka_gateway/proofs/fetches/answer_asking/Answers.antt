-- The call that asks takes what was brought, and answers it.
use Rattle.std.proofs.Common.{ap}
use Rattle.std.proofs.lemmas.Result.{IfOk-weaker}
use Rattle.moka_collapsing.specs.Settling.{end_of}
use Rattle.moka_collapsing.specs.Standing.{load_of}
use Rattle.moka_collapsing.specs.Upstream.{answer_of}
use Rattle.moka_collapsing.specs.Waiting.{Waiting}
use Rattle.moka_gateway.proofs.Answering.{asking_ends, asking_has, takes_so, told_small}
use Rattle.moka_gateway.proofs.fetches.answer_asking.Goals as goal

pub tell-requires : goal.tell-requires
tell-requires c =
    let s = c.requires in
    let at = ap (λ (w : Waiting). w.asking) c.list.view_is in
    record {
      asks = λ unspent. (
        s.small,
        s.polled,
        (load_of s.key, end_of c.args.brought, takes_so c.args.cache.now c.args.list.now c.args.brought s c.list.inside.asking at c.told_of.result c.told_of.ensures),
      );
    }

pub answered-requires : goal.answered-requires
answered-requires c =
    let s = c.requires in
    let at = ap (λ (w : Waiting). w.asking) c.list.view_is in
    record {
      small = told_small c.args.cache.now c.args.list.now c.args.brought s c.list.inside.asking at;
      polled = c.in_ok-tell.ensures.told s.small (load_of s.key) (end_of c.args.brought) s.polled
          (takes_so c.args.cache.now c.args.list.now c.args.brought s c.list.inside.asking at c.told_of.result c.told_of.ensures);
      given = answer_of c.args.brought;
      has = asking_has c.args.cache.now c.args.list.now c.args.brought s c.list.inside.asking at c.lists_are_answered.ensures;
    }

pub returns : goal.returns
returns c =
    let at = ap (λ (w : Waiting). w.asking) c.list.view_is in
    IfOk-weaker c.answered.result _ _ (λ a it s.
    let has = asking_has c.args.cache.now c.args.list.now c.args.brought s c.list.inside.asking at c.lists_are_answered.ensures in
    let t = it (told_small c.args.cache.now c.args.list.now c.args.brought s c.list.inside.asking at) (answer_of c.args.brought) has
    (c.in_ok-tell.ensures.told s.small (load_of s.key) (end_of c.args.brought) s.polled
    (takes_so c.args.cache.now c.args.list.now c.args.brought s c.list.inside.asking at c.told_of.result c.told_of.ensures)) in
    (t.0, asking_ends c.args.cache.now c.args.list.now c.args.brought s c.list.inside.asking at c.lists_are_answered.ensures c.answered.new.cache t.1))
    c.answered.ensures
