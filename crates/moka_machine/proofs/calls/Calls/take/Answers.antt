-- The call is taken out of its place, which is that of the newest call or another.
use Rattle.std.proofs.Common.{◌≡◌, ◌==◌, nat_eq, cond, sym, ap, ◌∙◌}
use Rattle.std.specs.HashMap.{get}
use Rattle.moka_machine.specs.Calls.{emptied, runs_in}
use Rattle.moka_desk.proofs.WhoHolds.{same_number}
use Rattle.moka_machine.proofs.Newest.{left_some, newest_has, other_has, set_beside, set_newest}
use Rattle.moka_machine.proofs.calls.Calls.take.Goals as goal

pub returns-then-call-self-clause-taken : goal.returns-then-call-self-clause-taken
returns-then-call-self-clause-taken g c =
    let s = c.args.self.now in
    c.take_newest.ensures.taken ∙ ap runs_in (sym (newest_has s.last c.args.call s.newest (get nat_eq s.places c.args.call) c.if-call-self.true))

pub returns-then-call-self-clause-rest : goal.returns-then-call-self-clause-rest
returns-then-call-self-clause-rest g c = λ n.
    let s = c.args.self.now in
    let call = c.args.call in
    let is = c.if-call-self.true in
    let before = get nat_eq s.places n in
    ap (λ o. cond (s.last == n) o before) c.take_newest.ensures.left
    ∙ set_newest s.last call n (emptied s.newest) s.newest before is
    ∙ ap (λ o. cond (call == n) (emptied o) (cond (s.last == n) s.newest before)) (sym (newest_has s.last call s.newest (get nat_eq s.places call) is))

pub returns-then-call-self-clause-place : goal.returns-then-call-self-clause-place
returns-then-call-self-clause-place g c =
    let s = c.args.self.now in
    left_some s.newest (cond (s.last == c.args.call) c.take_newest.new.newest (get nat_eq s.places c.args.call)) c.take_newest.result c.take_newest.ensures.taken
    (newest_has s.last c.args.call c.take_newest.new.newest (get nat_eq s.places c.args.call) c.if-call-self.true ∙ c.take_newest.ensures.left)

pub returns-else-call-self-clause-taken : goal.returns-else-call-self-clause-taken
returns-else-call-self-clause-taken g c =
    let s = c.args.self.now in
    c.take_among.ensures.taken ∙ ap runs_in (sym (other_has s.last c.args.call s.newest (get nat_eq s.places c.args.call) c.if-call-self.false))

pub returns-else-call-self-clause-rest : goal.returns-else-call-self-clause-rest
returns-else-call-self-clause-rest g c = λ n.
    let s = c.args.self.now in
    let call = c.args.call in
    let apart = c.if-call-self.false in
    let before = get nat_eq s.places n in
    let there = get nat_eq s.places call in
    ap (λ o. cond (s.last == n) s.newest o) (c.take_among.ensures.rest n)
    ∙ set_beside s.last call n s.newest (emptied there) before apart
    ∙ ap (λ o. cond (call == n) (emptied o) (cond (s.last == n) s.newest before)) (sym (other_has s.last call s.newest there apart))

pub returns-else-call-self-clause-place : goal.returns-else-call-self-clause-place
returns-else-call-self-clause-place g c =
    let s = c.args.self.now in
    left_some (get nat_eq s.places c.args.call) (cond (s.last == c.args.call) s.newest (get nat_eq c.take_among.new.places c.args.call)) c.take_among.result c.take_among.ensures.taken
    (other_has s.last c.args.call s.newest (get nat_eq c.take_among.new.places c.args.call) c.if-call-self.false ∙ own)
  where
    own : get nat_eq c.take_among.new.places c.args.call ≡ emptied (get nat_eq c.args.self.now.places c.args.call)
    own = c.take_among.ensures.rest c.args.call
        ∙ ap (λ b. cond b (emptied (get nat_eq c.args.self.now.places c.args.call)) (get nat_eq c.args.self.now.places c.args.call)) (same_number c.args.call)
