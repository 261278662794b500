-- Each round polls the call of the first request that is left.
use Rattle.std.proofs.Common.{◌≡◌, [], ◌∷◌}
use Rattle.std.proofs.lemmas.Bool.{false≢true}
use Rattle.moka_collapsing.specs.Upstream.{answer_of, given_to}
use Rattle.moka_gateway.proofs.Answering.{more_given, still_ends, waiting_answers, waiting_ends, waiting_has}
use Rattle.moka_gateway.proofs.Beginning.{all_given, nobody_left}
use Rattle.moka_gateway.proofs.fetches.answer_rest.Goals as goal

pub answered-requires : goal.answered-requires
answered-requires c =
    let s = c.requires in
    let e = still_ends c.loop-number.cache s.base s.key s.asking s.brought c.loop-number.rest.entries
    ((c.in-Some.number, c.in-Some.place) ∷ c.pop_first.new.self.entries) c.in-Some.ensures.removal (c.loop-number.invariant s).0 in
    waiting_answers c.lists_are_answered.ensures c.waiters_are_served.ensures.served c.loop-number.cache s.base s.key s.asking s.brought
    (c.in-Some.number, c.in-Some.place) c.pop_first.new.self.entries e

pub loop-number-preserved : goal.loop-number-preserved
loop-number-preserved c = λ s.
    let e = still_ends c.loop-number.cache s.base s.key s.asking s.brought c.loop-number.rest.entries
    ((c.in-Some.number, c.in-Some.place) ∷ c.pop_first.new.self.entries) c.in-Some.ensures.removal (c.loop-number.invariant s).0 in
    let has = waiting_has c.lists_are_answered.ensures c.waiters_are_served.ensures.served c.loop-number.cache s.base s.key s.asking s.brought
    (c.in-Some.number, c.in-Some.place) c.pop_first.new.self.entries e in
    let it = c.in_ok-answer.ensures e.small (answer_of s.brought) has e.polled in (
      waiting_ends c.lists_are_answered.ensures c.waiters_are_served.ensures.served c.loop-number.cache s.base s.key s.asking s.brought
          (c.in-Some.number, c.in-Some.place) c.pop_first.new.self.entries e c.answered.new.cache it.1,
      more_given s.brought (c.in-Some.number, c.in-Some.place) c.pop_first.new.self.entries c.loop-number.rest.entries c.loop-number.given.items
          c.push.new.self.items _ c.in_ok-answer.answer c.in-Some.ensures.removal it.0 c.in_ok-push.ensures.items (c.loop-number.invariant s).1,
    )

pub returns : goal.returns
returns c = λ s.
    let none : c.loop-number.rest.entries ≡ [] = nobody_left c.loop-number.rest.entries (λ h. false≢true (c.in_default.ensures.variant.1 h)) in (
      all_given (given_to (answer_of s.brought)) c.loop-number.rest.entries c.loop-number.given.items _ none (c.loop-number.invariant s).1,
      still_ends c.loop-number.cache s.base s.key s.asking s.brought c.loop-number.rest.entries [] none (c.loop-number.invariant s).0,
    )
