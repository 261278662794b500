-- What is read is its own line, and what is read as no call spells none.
use Rattle.std.proofs.Common.{◌≡◌, List, Option, Some, None, IfSome, IfNone, refl, sym, ◌∙◌, subst}
use Rattle.moka_lines.proofs.Parts.{known, weaker}
use Rattle.moka_behind_run.specs.Calls.{Fits, call_line}
use Rattle.moka_behind_run.specs.declared.calls.Call.{Call}
use Rattle.moka_behind_run.proofs.Spelled.{call_is, call_none}
use Rattle.moka_behind_run.proofs.calls.CallsGrammarCall.read.Goals as goal

pub returns-clause-spelled : goal.returns-clause-spelled
returns-clause-spelled c =
    subst (λ o. IfSome o (λ l. c.args.bytes.now ≡ call_line l)) (sym c.line_of.ensures)
    (weaker _ (λ l. c.args.bytes.now ≡ call_line l) _ (call_is c.args.bytes.now) (λ l h. h.0))

pub returns-clause-fits : goal.returns-clause-fits
returns-clause-fits c =
    subst (λ o. IfSome o (λ l. (before : List Call) → Unit {0} → Fits l)) (sym c.line_of.ensures)
    (weaker _ (λ l. (before : List Call) → Unit {0} → Fits l) _ (call_is c.args.bytes.now) (λ l h before u. h.1))

pub returns-clause-goes_on : goal.returns-clause-goes_on
returns-clause-goes_on c = known _ c.line_of.result (λ l e before u. tt)

-- what holds where there is none
unless_some : {X P : Type 0} (o : Option X) → (o ≡ None → P) → IfNone o P
unless_some None h = h refl
unless_some (Some x) h = tt

pub returns-clause-none : goal.returns-clause-none
returns-clause-none c = unless_some c.line_of.result (λ e before u l fits is. call_none c.args.bytes.now (sym c.line_of.ensures ∙ e) l fits is)
