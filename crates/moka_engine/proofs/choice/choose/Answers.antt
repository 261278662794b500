-- All of the surplus are named.
use Rattle.std.proofs.Common.{length, map, arith, ap, ◌≡◌, ◌∙◌, sym, take, refl}
use Rattle.std.proofs.lemmas.List.{length-map}
use Rattle.moka_engine.specs.Choice.{surplus_of, IsChoice}
use Rattle.moka_engine.proofs.Naming.{named_front, KeepsCapacity-from_choice}
use Rattle.moka_engine.proofs.choice.choose.Given as given
use Rattle.moka_engine.proofs.choice.choose.Goals as goal

-- the names are a choice
choice : (g : given.Over) (c : goal.After-drop-order-2 g) → IsChoice c.args.rules.now c.args.known.now c.from_vec.result
choice g c =
    let order = c.in_ok-order.order in
    let capacity = c.args.rules.now.max_capacity in
    let n = c.surplus-surplus.result in
    let records = map (λ x. x.now) order.items in
    let long : n ≡ surplus_of capacity (length records) =
    c.surplus-surplus.ensures ∙ ap (surplus_of capacity) (c.len.ensures ∙ order.ok.0 ∙ sym (length-map order.items (λ x. x.now))) in
    let front = named_front order.items (take n c.deref.result.now) n c.loop-record.record-index (ap (take n) c.deref.ensures.value) (omega arith) in
    record {
      order = records;
      oldest_first = c.in_ok-order.ensures;
      chosen = rw (c.from_vec.ensures, c.loop-record.invariant, c.in_ok-names.ensures, front, long) refl;
    }

pub returns-clause-chosen : goal.returns-clause-chosen
returns-clause-chosen g c = choice g c

pub returns-clause-capacity : goal.returns-clause-capacity
returns-clause-capacity g c = KeepsCapacity-from_choice c.args.rules.now c.args.known.now c.from_vec.result (choice g c)
