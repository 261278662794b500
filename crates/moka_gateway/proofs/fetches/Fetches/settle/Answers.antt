-- Those on the list are answered.
use Rattle.std.proofs.Common.{◌∙◌, refl, sym}
use Rattle.moka_collapsing.specs.Upstream.{answer_of}
use Rattle.moka_gateway.proofs.Answering.{all_settled, list_in, nothing_settled}
use Rattle.moka_gateway.proofs.fetches.Fetches.settle.Goals as goal

pub answer_all-requires : goal.answer_all-requires
answer_all-requires c = list_in c.args.self.now c.args.key c.requires.0 c.requires.1 c.in-Some.list (sym c.remove.ensures.value ∙ c.in-Some.is)

pub returns-in_default-clause-ended : goal.returns-in_default-clause-ended
returns-in_default-clause-ended c = λ u f.
    nothing_settled c.args.self.now c.args.key u f (sym c.remove.ensures.value ∙ c.in_default.is) (answer_of c.args.brought)
    (record { alloc = c.args.self.now.alloc; cache = c.args.self.now.cache; lists = c.remove.new.self }) refl c.in_default.ensures.unchanged

pub returns-clause-ended : goal.returns-clause-ended
returns-clause-ended c = λ u f.
    let at = sym c.remove.ensures.value ∙ c.in-Some.is in
    all_settled c.args.self.now c.args.key u f c.in-Some.list at c.lists_are_answered.ensures c.args.brought
    (record { alloc = c.args.self.now.alloc; cache = c.answer_all.new.cache; lists = c.remove.new.self })
    (c.in_ok-given.ensures.ended (list_in c.args.self.now c.args.key u f c.in-Some.list at)) c.remove.ensures.updates.0
