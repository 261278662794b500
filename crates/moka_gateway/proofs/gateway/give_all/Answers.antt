-- Each round gives the first of the answers that are left.
use Rattle.std.proofs.Common.{◌<◌, ◌≤◌, ◌+◌, ◌∙◌, drop, length, map, nat_eq, refl, sym, ap, arith}
use Rattle.std.proofs.lemmas.List.{at_drop_all, at_drop_more}
use Rattle.std.specs.BTreeSet.{insert_key}
use Rattle.std.specs.HashMap.{get}
use Rattle.std.specs.Ordering.{nat_cmp}
use Rattle.moka_collapsing.specs.Folds.{folded}
use Rattle.moka_gateway.specs.Folds.{gives_one}
use Rattle.moka_gateway.proofs.Rows.{giving_done, one_given}
use Rattle.moka_gateway.proofs.gateway.give_all.Goals as goal

pub loop-it-init : goal.loop-it-init
loop-it-init c = record {
  numbers = ap (λ l. folded (insert_key nat_cmp) l (map (λ it. it.place.client) c.args.given.now)) c.new-numbers.ensures.empty;
  given = λ cs same. record { mid = cs; same = same; comes = refl };
  count = refl;
}

pub loop-it-preserved : goal.loop-it-preserved
loop-it-preserved c =
    let given = c.args.given.now in
    let i = c.loop-it.it-index in
    let within : i < length given = omega arith in
    record {
      numbers = ap (λ l. folded (insert_key nat_cmp) l (map (λ it. it.place.client) (drop (i + 1) given))) c.in_ok-insert.ensures.keys
          ∙ sym (at_drop_more (λ l. folded (insert_key nat_cmp) c.loop-it.numbers.keys (map (λ it. it.place.client) l)) given i _ within)
          ∙ c.loop-it.invariant.numbers;
      given = λ cs same. one_given given i _ within (get nat_eq c.loop-it.clients) (get nat_eq c.give.new.clients) (folded gives_one cs given)
          c.give.ensures.given (c.loop-it.invariant.given cs same);
      count = c.give.ensures.count ∙ c.loop-it.invariant.count;
    }

pub returns-clause-numbers : goal.returns-clause-numbers
returns-clause-numbers c =
    let all : length c.args.given.now ≤ c.loop-it.it-index = omega arith in
    sym (at_drop_all (λ l. folded (insert_key nat_cmp) c.loop-it.numbers.keys (map (λ it. it.place.client) l)) c.args.given.now c.loop-it.it-index all)
    ∙ c.loop-it.invariant.numbers

pub returns-clause-given : goal.returns-clause-given
returns-clause-given c = λ cs same n.
    let all : length c.args.given.now ≤ c.loop-it.it-index = omega arith in
    giving_done (get nat_eq c.loop-it.clients) c.args.given.now c.loop-it.it-index (folded gives_one cs c.args.given.now) all (c.loop-it.invariant.given cs same) n
