-- The first of the list has the call that asks.
use Rattle.std.proofs.Common.{◌<◌, ◌∙◌, length, sym, ap, subst}
use Rattle.std.proofs.lemmas.Bool.{false≢true}
use Rattle.moka_collapsing.specs.Waiting.{Waiting}
use Rattle.moka_gateway.proofs.Answering.{all_listed, ends_after, is_ending}
use Rattle.moka_gateway.proofs.fetches.answer_all.Goals as goal

pub unreachable-requires : goal.unreachable-requires
unreachable-requires c =
    let s = c.requires in
    let some = (s.serves.listed s.key c.args.list s.on).some in
    false≢true (c.in_default.ensures.variant.1 (subst (λ (w : Waiting). 0 < length w.requests) (sym c.list.view_is) some))

pub answer_rest-requires : goal.answer_rest-requires
answer_rest-requires c =
    let s = c.requires in
    is_ending c.answer_asking.new.cache s.small s.key c.args.list.asking c.args.brought c.pop_first.new.self.entries
    (ends_after c.answer_asking.new.cache s.small s.key c.args.list c.args.brought c.list.inside.requests.entries c.pop_first.new.self.entries _
    (ap (λ (w : Waiting). w.requests) c.list.view_is) c.in-Some.ensures.removal (c.in_ok-answer.ensures s).1)

pub returns-clause-given : goal.returns-clause-given
returns-clause-given c =
    let s = c.requires in
    let ending = is_ending c.answer_asking.new.cache s.small s.key c.args.list.asking c.args.brought c.pop_first.new.self.entries
    (ends_after c.answer_asking.new.cache s.small s.key c.args.list c.args.brought c.list.inside.requests.entries c.pop_first.new.self.entries _
    (ap (λ (w : Waiting). w.requests) c.list.view_is) c.in-Some.ensures.removal (c.in_ok-answer.ensures s).1) in
    all_listed c.args.brought _ c.pop_first.new.self.entries c.args.list.requests c.new-given.result.items c.push.new.self.items
    c.answer_rest.new.given.items c.in_ok-answer.answer
    (sym (ap (λ (w : Waiting). w.requests) c.list.view_is) ∙ c.in-Some.ensures.removal)
    (c.in_ok-answer.ensures s).0 c.new-given.ensures.items c.in_ok-push.ensures.items (c.in_ok-answer_rest.ensures ending).0

pub returns-clause-ended : goal.returns-clause-ended
returns-clause-ended c = λ s.
    let ending = is_ending c.answer_asking.new.cache s.small s.key c.args.list.asking c.args.brought c.pop_first.new.self.entries
    (ends_after c.answer_asking.new.cache s.small s.key c.args.list c.args.brought c.list.inside.requests.entries c.pop_first.new.self.entries _
    (ap (λ (w : Waiting). w.requests) c.list.view_is) c.in-Some.ensures.removal (c.in_ok-answer.ensures s).1) in
    (c.in_ok-answer_rest.ensures ending).1
