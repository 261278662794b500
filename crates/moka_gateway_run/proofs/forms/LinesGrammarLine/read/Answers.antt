-- What is read is its own line, and what is read as no line spells none.
use Rattle.std.proofs.Common.{◌≡◌, List, Option, Some, None, IfSome, IfNone, refl, sym, ◌∙◌, subst}
use Rattle.std.proofs.lemmas.Result.{IfOk-weaker}
use Rattle.moka_lines.proofs.Parts.{known, weaker}
use Rattle.moka_gateway_run.specs.Lines.{LineFits, line_words}
use Rattle.moka_gateway_run.specs.declared.lines.Line.{Line}
use Rattle.moka_gateway_run.proofs.Spelled.{line_is, line_none}
use Rattle.moka_gateway_run.proofs.forms.LinesGrammarLine.read.Goals as goal

pub returns-clause-spelled : goal.returns-clause-spelled
returns-clause-spelled c =
    IfOk-weaker c.line_of.result _ (λ o. IfSome o (λ l. c.args.bytes.now ≡ line_words l)) (λ o is.
    subst (λ o. IfSome o (λ l. c.args.bytes.now ≡ line_words l)) (sym is) (weaker _ (λ l. c.args.bytes.now ≡ line_words l) _ (line_is c.args.bytes.now) (λ l h. h.0)))
    c.line_of.ensures

pub returns-clause-fits : goal.returns-clause-fits
returns-clause-fits c =
    IfOk-weaker c.line_of.result _ (λ o. IfSome o (λ l. (before : List Line) → Unit {0} → LineFits l)) (λ o is.
    subst (λ o. IfSome o (λ l. (before : List Line) → Unit {0} → LineFits l)) (sym is)
    (weaker _ (λ l. (before : List Line) → Unit {0} → LineFits l) _ (line_is c.args.bytes.now) (λ l h before u. h.1)))
    c.line_of.ensures

pub returns-clause-goes_on : goal.returns-clause-goes_on
returns-clause-goes_on c =
    IfOk-weaker c.line_of.result _ (λ o. IfSome o (λ l. (before : List Line) → Unit {0} → Unit {0})) (λ o is. known _ o (λ l e before u. tt)) c.line_of.ensures

-- what holds where there is none
unless_some : {X P : Type 0} (o : Option X) → (o ≡ None → P) → IfNone o P
unless_some None h = h refl
unless_some (Some x) h = tt

pub returns-clause-none : goal.returns-clause-none
returns-clause-none c =
    IfOk-weaker c.line_of.result _ (λ o. IfNone o ((before : List Line) → Unit {0} → (l : Line) → LineFits l → c.args.bytes.now ≡ line_words l → ⊥)) (λ o is.
    unless_some o (λ e before u l fits spelled. line_none c.args.bytes.now (sym is ∙ e) l fits spelled))
    c.line_of.ensures
