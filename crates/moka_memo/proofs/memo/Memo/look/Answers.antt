-- The look told the rule's value, or that the query holds it, or that it waits.
use Rattle.std.proofs.Common.{◌++◌, ◌∷◌, [], cond, Some, is_some, sym, ap, ◌∙◌, subst}
use Rattle.std.proofs.lemmas.Result.{IfOk-weaker}
use Rattle.moka_hist.specs.Finite.{put_at}
use Rattle.moka_evaluator.specs.Evaluator.{is_owner}
use Rattle.moka_evaluator.specs.Steps.{seeks}
use Rattle.moka_evaluator.specs.declared.turns.Turned.TheVariants as turn
use Rattle.moka_stacks.specs.Places.{line_at, owner_at}
use Rattle.moka_memo.specs.Memo.{Turns}
use Rattle.moka_memo.proofs.Passed.{its_claim, take_turns, value_turns, wait_turns, waits_held}
use Rattle.moka_memo.proofs.memo.Memo.look.Goals as goal

pub look-requires : goal.look-requires
look-requires c =
    let e = c.requires.0 in
    let is = c.requires.1.0 in
    let s = c.requires.1.1 in (
      is.claimed,
      is.claims,
      ap is_some (its_claim c.args.self.now e is c.args.query s.0 s.1.0 s.1.1.1.0
          (ap (is_owner e c.args.query) s.1.1.0 ∙ s.1.1.1.1)).1,
    )

pub come_off-requires : goal.come_off-requires
come_off-requires c =
    let is = c.requires.1.0 in
    let s = c.requires.1.1 in
    ap is_some (is.stack c.args.query ∙ s.1.0)

pub wait-requires : goal.wait-requires
wait-requires c =
    let e = c.requires.0 in
    let is = c.requires.1.0 in
    let s = c.requires.1.1 in
    let other = ap (is_owner e c.args.query) s.1.1.0 ∙ s.1.1.1.1 in
    let claim = its_claim c.args.self.now e is c.args.query s.0 s.1.0 s.1.1.1.0 other in
    let came = c.in_ok-seen.ensures is.claimed s.0.top.rule claim.0 is.claims claim.1 in
    ap (λ r. is_some (owner_at c.args.self.now.places r)) (sym s.1.1.0) ∙
    waits_held c.args.self.now e is c.args.query s.0 s.1.0 s.1.1.1.0 other c.in-Waits.before (sym c.in-Waits.is ∙ came.0)

pub returns-in-Value : goal.returns-in-Value
returns-in-Value c = λ e s is at same isnt owned.
    let other = ap (is_owner e c.args.query) same ∙ owned in
    let claim = its_claim c.args.self.now e is c.args.query s at isnt other in
    let came = c.in_ok-seen.ensures is.claimed s.top.rule claim.0 is.claims claim.1 in
    value_turns c.args.self.now e is c.args.query s at isnt other c.in-Value.value c.look.new.self (sym c.in-Value.is ∙ came.0, came.1)
    c.come_off.new.self c.come_off.result c.come_off.ensures.reply c.come_off.ensures.stacks c.come_off.ensures.count

pub returns-in-Holds : goal.returns-in-Holds
returns-in-Holds c = IfOk-weaker c.take.result _ _ (λ said did e s is at same isnt owned.
    let other = ap (is_owner e c.args.query) same ∙ owned in
    let claim = its_claim c.args.self.now e is c.args.query s at isnt other in
    let came = c.in_ok-seen.ensures is.claimed s.top.rule claim.0 is.claims claim.1 in
    subst (λ t. Turns c.take.new.self t (seeks e c.args.query s (e.known s.top.rule))) (sym did.0)
    (subst (λ m. Turns m turn.Moved (seeks e c.args.query s (e.known s.top.rule))) (sym did.5)
    (take_turns c.args.self.now e is c.args.query s at isnt other c.look.new.self (sym c.in-Holds.is ∙ came.0, came.1) c.take.new.self.places
    (λ r. did.1 r ∙ ap (λ k. put_at (owner_at c.args.self.now.places) k (Some c.args.query) r) (sym same))
    (λ r. did.2 r ∙ ap (λ k. put_at (line_at c.args.self.now.places) k [] r) (sym same)) c.take.new.self.queries did.3 did.4)))
    c.take.ensures

pub returns-in-Waits : goal.returns-in-Waits
returns-in-Waits c = IfOk-weaker c.wait.result _ _ (λ said did e s is at same isnt owned.
    let other = ap (is_owner e c.args.query) same ∙ owned in
    let claim = its_claim c.args.self.now e is c.args.query s at isnt other in
    let came = c.in_ok-seen.ensures is.claimed s.top.rule claim.0 is.claims claim.1 in
    subst (λ t. Turns c.wait.new.self t (seeks e c.args.query s (e.known s.top.rule))) (sym (did.0 ∙ ap turn.Waits (sym same)))
    (subst (λ m. Turns m (turn.Waits s.top.rule) (seeks e c.args.query s (e.known s.top.rule))) (sym did.3)
    (wait_turns c.args.self.now e is c.args.query s at isnt other c.in-Waits.before c.look.new.self (sym c.in-Waits.is ∙ came.0, came.1)
    c.wait.new.self.places did.1
    (λ r. did.2 r ∙ ap (λ k. put_at (line_at c.args.self.now.places) k
    (cond c.in-Waits.before (line_at c.args.self.now.places k) (line_at c.args.self.now.places k ++ c.args.query ∷ [])) r) (sym same)))))
    c.wait.ensures
