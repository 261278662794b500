-- Nothing was asked.
use Rattle.std.proofs.Common.{false, refl}
use Rattle.moka_evaluator.specs.Evaluator.{fresh}
use Rattle.moka_memo.proofs.Asking.{fresh_is}
use Rattle.moka_memo.proofs.memo.Memo.new.Goals as goal

pub returns-clause-fresh : goal.returns-clause-fresh
returns-clause-fresh c =
    fresh_is (record {
      alloc = c.args.alloc;
      rules = c.args.rules;
      claims = c.in_ok-claims.claims;
      places = c.new-places.result;
      queries = c.new-queries.result;
      last = 0;
      known = 0;
      spent = false;
    })
    c.args.rules.items (c.calls_keep_sound.ensures.fresh c.args.rules.items c.requires.acyclic)
    (c.claims_follow.ensures.fresh c.args.rules.items) refl refl c.new-places.ensures.owner c.new-places.ensures.line
    c.new-queries.ensures.stacks c.new-queries.ensures.count refl refl c.in_ok-claims.ensures

pub returns-clause-usable : goal.returns-clause-usable
returns-clause-usable c = λ unspent. (fresh c.args.rules.items, (returns-clause-fresh c, tt))
