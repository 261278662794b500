use Rattle.std.proofs.Common.{◌≡◌, ℕ, ◌==◌, cond, Some, sym, ap, ◌∙◌, nat_eq}
use Rattle.std.specs.HashMap.{get}
use Rattle.moka_sync.specs.Waiting.{waits}
use Rattle.moka_desk.specs.Lines.{line_at}
use Rattle.moka_desk.proofs.Listed.{listed, listed_already, listed_is, listed_placed}
use Rattle.moka_desk.proofs.Woken.{out_already, out_listed}
use Rattle.moka_desk.proofs.lines.Lines.wait.Goals as goal

lines_then : (c : goal.After-put) → (n : ℕ) → line_at c.move_off.new.lists n ≡ listed (line_at c.args.self.now.lists) (get nat_eq c.args.self.now.places) c.args.self.now.placed c.args.number c.args.call n
lines_then c =
    let s = c.args.self.now in
    let was : c.copied-before.result ≡ get nat_eq s.places c.args.call = c.copied-before.ensures ∙ c.at.ensures in
    listed_is (line_at s.lists) (get nat_eq s.places) s.placed c.args.number c.args.call (line_at c.add_to.new.lists) (line_at c.move_off.new.lists) c.copied-before.result was
    c.in_ok-add_to.ensures.ok c.move_off.ensures

pub invariant_of-self-2 : goal.invariant_of-self-2
invariant_of-self-2 c = record {
  placed = λ n call is.
      let s = c.args.self.now in
      c.put.ensures.updates.0 call ∙ ap (λ o. cond (c.args.call == call) (Some c.args.number) o) (c.reserve.ensures.entries.2 call)
      ∙ listed_placed (line_at s.lists) (get nat_eq s.places) s.placed c.args.number c.args.call n call (sym (ap (waits call) (lines_then c n)) ∙ is);
}

pub returns-clause-ok : goal.returns-clause-ok
returns-clause-ok c =
    let s = c.args.self.now in
    let was : c.copied-before.result ≡ get nat_eq s.places c.args.call = c.copied-before.ensures ∙ c.at.ensures in
    listed_is (line_at s.lists) (get nat_eq s.places) s.placed c.args.number c.args.call (line_at c.add_to.new.lists) (line_at c.move_off.new.lists) c.copied-before.result was
    c.in_ok-add_to.ensures.ok c.move_off.ensures

pub returns-clause-back : goal.returns-clause-back
returns-clause-back c =
    let s = c.args.self.now in
    let number = c.args.number in
    let call = c.args.call in
    let was : c.copied-before.result ≡ get nat_eq s.places call =
    c.copied-before.ensures ∙ c.at.ensures in
    out_listed (line_at s.lists) (get nat_eq s.places) s.placed number call
    (line_at c.move_off.new.lists) (get nat_eq c.put.new.map)
    (listed_is (line_at s.lists) (get nat_eq s.places) s.placed number call
    (line_at c.add_to.new.lists) (line_at c.move_off.new.lists) c.copied-before.result was
    c.in_ok-add_to.ensures.ok c.move_off.ensures)
    (λ k. c.put.ensures.updates.0 k
    ∙ ap (λ o. cond (call == k) (Some number) o) (c.reserve.ensures.entries.2 k))

pub returns-then-is_listed_at-clause-ok : goal.returns-then-is_listed_at-clause-ok
returns-then-is_listed_at-clause-ok c = λ n.
    let s = c.args.self.now in
    listed_already (line_at s.lists) (get nat_eq s.places) s.placed c.args.number c.args.call (sym c.is_listed_at.ensures ∙ c.if-is_listed_at.true) n

pub returns-then-is_listed_at-clause-back : goal.returns-then-is_listed_at-clause-back
returns-then-is_listed_at-clause-back c = λ k.
    let s = c.args.self.now in
    out_already (line_at s.lists) (get nat_eq s.places) s.placed c.args.number c.args.call (sym c.is_listed_at.ensures ∙ c.if-is_listed_at.true) k
