-- What is read is its own spelling, and may come there; nothing else may.
use Rattle.std.proofs.Common.{◌≡◌, Some, None, IfSome, sym, ap, ◌∙◌, subst}
use Rattle.moka_memo_run.specs.Lines.{Fits, MayCome, line_words}
use Rattle.moka_memo_run.specs.Forms.{line_of}
use Rattle.moka_memo_run.specs.Places.{next}
use Rattle.moka_memo_run.proofs.Placed.{GoesOn, goes_on, refused}
use Rattle.moka_memo_run.proofs.Spelled.{line_none, line_same, line_was}
use Rattle.moka_memo_run.proofs.places.LinesGrammarLine.read.Goals as goal

pub returns-in_default-clause-none : goal.returns-in_default-clause-none
returns-in_default-clause-none c = λ before h l fits is. line_none c.args.bytes.now (sym c.line_of.ensures ∙ c.in_default.is) l fits.0 is

pub returns-in_default-next-clause-none : goal.returns-in_default-next-clause-none
returns-in_default-next-clause-none c = λ before h l fits is.
    let same : l ≡ c.in-Some.line = line_same c.args.bytes.now c.in-Some.line l (sym c.line_of.ensures ∙ c.in-Some.is) fits.0 is in
    refused c.args.self.now c.in-Some.line before h (sym c.next.ensures ∙ c.in_default-next.is) (subst (λ m. MayCome before m) same fits.1)

pub returns-clause-spelled : goal.returns-clause-spelled
returns-clause-spelled c = (line_was c.args.bytes.now c.in-Some.line (sym c.line_of.ensures ∙ c.in-Some.is)).0

pub returns-clause-fits : goal.returns-clause-fits
returns-clause-fits c = λ before h.
    let goes = subst (λ o. IfSome o (GoesOn before c.in-Some.line)) (sym c.next.ensures ∙ c.in-Some-next.is) (goes_on c.args.self.now c.in-Some.line before h) in
    ((line_was c.args.bytes.now c.in-Some.line (sym c.line_of.ensures ∙ c.in-Some.is)).1, goes.0)

pub returns-clause-goes_on : goal.returns-clause-goes_on
returns-clause-goes_on c = λ before h.
    let goes = subst (λ o. IfSome o (GoesOn before c.in-Some.line)) (sym c.next.ensures ∙ c.in-Some-next.is) (goes_on c.args.self.now c.in-Some.line before h) in
    goes.1
