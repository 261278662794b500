use Rattle.std.proofs.Common.{◌≡◌, ◌+◌, ◌-◌, ℕ, suc, true, false, Some, is_some, arith, sym, ap, ◌∙◌}
use Rattle.std.specs.Option.{option_map, option_map_or}
use Rattle.moka_hist.specs.Visits.{free_id, is_registered}
use Rattle.moka_desk.proofs.FreeIds.{free_here, free_later}
use Rattle.moka_desk.proofs.OwnIds.{is_found, none_is}
use Rattle.moka_desk.proofs.predicates.Predicates.draw.Goals as goal

-- the id that was drawn is the next of those that there were
drawn : (old left : ℕ → ℕ) (counter id : ℕ) → ((n : ℕ) → left n ≡ old (counter + n)) → id ≡ left 0 → id ≡ old counter
drawn old left counter id are first = first ∙ are 0 ∙ ap old here where
  here : counter + 0 ≡ counter
  here = omega arith

pub returns-then-not-contains_key-clause-free : goal.returns-then-not-contains_key-clause-free
returns-then-not-contains_key-clause-free g c = λ p h.
    let old = g.G.Ids.stream c.args.ids.now in
    let id : c.next_id-id.result ≡ old c.loop.counter = drawn old (g.G.Ids.stream c.loop.ids) c.loop.counter c.next_id-id.result c.loop.invariant.left c.next_id-id.ensures.first in
    let free : is_registered p.registered (old c.loop.counter) ≡ false =
    ap (is_registered p.registered) (sym id) ∙ is_found p.registered c.next_id-id.result ∙ ap is_some (sym (h.ids c.next_id-id.result)) ∙ sym c.contains_key.ensures ∙ c.if-not-contains_key.true in
    let first : free_id p.registered old 0 c.args.most ≡ Some c.loop.counter =
    c.loop.invariant.taken p h ∙ free_here p.registered old c.loop.counter (c.args.most - c.loop.counter) (omega arith) free in
    ap Some id ∙ ap (option_map old) (sym first)

pub returns-then-not-contains_key-clause-others : goal.returns-then-not-contains_key-clause-others
returns-then-not-contains_key-clause-others g c = λ p h n.
    let old = g.G.Ids.stream c.args.ids.now in
    let id : c.next_id-id.result ≡ old c.loop.counter = drawn old (g.G.Ids.stream c.loop.ids) c.loop.counter c.next_id-id.result c.loop.invariant.left c.next_id-id.ensures.first in
    let free : is_registered p.registered (old c.loop.counter) ≡ false =
    ap (is_registered p.registered) (sym id) ∙ is_found p.registered c.next_id-id.result ∙ ap is_some (sym (h.ids c.next_id-id.result)) ∙ sym c.contains_key.ensures ∙ c.if-not-contains_key.true in
    let first : free_id p.registered old 0 c.args.most ≡ Some c.loop.counter =
    c.loop.invariant.taken p h ∙ free_here p.registered old c.loop.counter (c.args.most - c.loop.counter) (omega arith) free in
    let next : c.loop.counter + suc n ≡ suc c.loop.counter + n = omega arith in
    c.next_id-id.ensures.others n ∙ c.loop.invariant.left (suc n) ∙ ap old next ∙ ap (λ o. old (option_map_or suc o c.args.most + n)) (sym first)

pub loop-preserved : goal.loop-preserved
loop-preserved g c =
    let old = g.G.Ids.stream c.args.ids.now in
    let id : c.next_id-id.result ≡ old c.loop.counter = drawn old (g.G.Ids.stream c.loop.ids) c.loop.counter c.next_id-id.result c.loop.invariant.left c.next_id-id.ensures.first in
    record {
      taken = λ p h.
          let taken : is_registered p.registered (old c.loop.counter) ≡ true =
          ap (is_registered p.registered) (sym id) ∙ is_found p.registered c.next_id-id.result ∙ ap is_some (sym (h.ids c.next_id-id.result)) ∙ sym c.contains_key.ensures ∙ c.if-not-contains_key.false in
          let rest : c.args.most - c.loop.counter - 1 ≡ c.args.most - (c.loop.counter + 1) = omega arith in
          c.loop.invariant.taken p h ∙ free_later p.registered old c.loop.counter (c.args.most - c.loop.counter) (omega arith) taken
          ∙ ap (free_id p.registered old (c.loop.counter + 1)) rest;
      left = λ n.
          let next : c.loop.counter + suc n ≡ c.loop.counter + 1 + n = omega arith in
          c.next_id-id.ensures.others n ∙ c.loop.invariant.left (suc n) ∙ ap old next;
    }

pub returns-then-not-contains_key-clause-unused : goal.returns-then-not-contains_key-clause-unused
returns-then-not-contains_key-clause-unused g c = none_is _ (sym c.contains_key.ensures ∙ c.if-not-contains_key.true)
