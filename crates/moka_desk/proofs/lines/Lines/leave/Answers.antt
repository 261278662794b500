use Rattle.std.proofs.Common.{◌≡◌, ℕ, cond, Some, None, sym, ap, ◌∙◌, nat_eq}
use Rattle.std.specs.HashMap.{get}
use Rattle.moka_sync.specs.Waiting.{waits, without}
use Rattle.moka_desk.specs.Lines.{line_at, is_at}
use Rattle.moka_desk.proofs.Listed.{off, off_none, left_placed, nobody_placed}
use Rattle.moka_desk.proofs.LockParts.{out_of_none}
use Rattle.moka_desk.proofs.Woken.{out_absent, out_at, out_left}
use Rattle.moka_desk.proofs.lines.Lines.leave.Goals as goal

pub returns-in-Some-clause-off : goal.returns-in-Some-clause-off
returns-in-Some-clause-off c = λ n.
    let s = c.args.self.now in
    let call = c.args.call in
    let here : get nat_eq s.places call ≡ Some c.in-Some.number = sym c.remove.ensures.value ∙ c.in-Some.is in
    c.remove_from.ensures n ∙ ap (λ o. cond (is_at o n) (without call (line_at s.lists n)) (line_at s.lists n)) (sym here) ∙ off (line_at s.lists) (get nat_eq s.places) s.placed call n

pub invariant_of-self : goal.invariant_of-self
invariant_of-self c = record {
  placed = λ n call is.
      let s = c.args.self.now in
      let here : get nat_eq s.places c.args.call ≡ Some c.in-Some.number = sym c.remove.ensures.value ∙ c.in-Some.is in
      let lines = c.remove_from.ensures n ∙ ap (λ o. cond (is_at o n) (without c.args.call (line_at s.lists n)) (line_at s.lists n)) (sym here) ∙ off (line_at s.lists) (get nat_eq s.places) s.placed c.args.call n in
      c.remove.ensures.updates.0 call ∙ left_placed (line_at s.lists) (get nat_eq s.places) s.placed c.args.call n call (sym (ap (waits call) lines) ∙ is);
}

pub returns-in_default-clause-off : goal.returns-in_default-clause-off
returns-in_default-clause-off c = λ n.
    let s = c.args.self.now in
    let none : get nat_eq s.places c.args.call ≡ None = sym c.remove.ensures.value ∙ c.in_default.is in
    off_none (line_at s.lists) (get nat_eq s.places) s.placed c.args.call none n

pub returns-in-Some-clause-back : goal.returns-in-Some-clause-back
returns-in-Some-clause-back c =
    let s = c.args.self.now in
    let call = c.args.call in
    let here : get nat_eq s.places call ≡ Some c.in-Some.number =
    sym c.remove.ensures.value ∙ c.in-Some.is in
    let lines : (n : ℕ) → line_at c.remove_from.new.lists n ≡ without call (line_at s.lists n) = λ n.
    c.remove_from.ensures n
    ∙ ap (λ o. cond (is_at o n) (without call (line_at s.lists n)) (line_at s.lists n)) (sym here)
    ∙ off (line_at s.lists) (get nat_eq s.places) s.placed call n in
    out_left (line_at s.lists) (get nat_eq s.places) s.placed call (line_at c.remove_from.new.lists)
    (get nat_eq c.remove.new.self) lines c.remove.ensures.updates.0

pub returns-in_default-clause-back : goal.returns-in_default-clause-back
returns-in_default-clause-back c = λ k.
    let s = c.args.self.now in
    let none : get nat_eq s.places c.args.call ≡ None =
    sym c.remove.ensures.value ∙ c.in_default.is in
    let same : get nat_eq c.remove.new.self k ≡ get nat_eq s.places k =
    c.remove.ensures.updates.0 k ∙ out_of_none (get nat_eq s.places) c.args.call k none in
    ap (λ o. out_at (line_at s.lists) o k) same
    ∙ out_absent (line_at s.lists) (get nat_eq s.places) c.args.call none k

pub returns-then-is_empty-clause-off : goal.returns-then-is_empty-clause-off
returns-then-is_empty-clause-off c = λ n.
    let s = c.args.self.now in
    off_none (line_at s.lists) (get nat_eq s.places) s.placed c.args.call (nobody_placed s.places (c.is_empty.ensures.0 c.if-is_empty.true) c.args.call) n
