-- Replies to lines, one after the other.
use Rattle.std.proofs.Common.{◌≡◌, ℕ, ◌+◌, ◌<◌, List, [], ◌∷◌, ◌++◌, length, take, get_or, refl, sym, ap, ◌∙◌, subst, append-nil, append_assoc}
use Rattle.std.proofs.lemmas.List.{take_more}
use Rattle.moka_evaluator.specs.Evaluator.{Evaluator}
use Rattle.moka_evaluator.specs.declared.rules.Rule.{Rule}
use Rattle.moka_memo.specs.Memo.{IsMemo}
use Rattle.moka_memo.specs.declared.memo.Memo.{Memo}
use Rattle.moka_memo_run.specs.Playing.{Replies, replied, replied_all, rules_in}
use Rattle.moka_memo_run.specs.declared.lines.Line.{Line}
use Rattle.moka_memo_run.specs.declared.lines.Line.TheVariants as line

-- ---- rules

-- the rules of one line
abbrev pub rules_of : Line → List Rule
rules_of l = rules_in (l ∷ [])

rules_more : (before : List Line) (l : Line) → rules_in (before ++ l ∷ []) ≡ rules_in before ++ rules_of l
rules_more [] l = refl
rules_more (line.Rule r ∷ before) l = ap (λ rules. r ∷ rules) (rules_more before l)
rules_more (line.Ask r ∷ before) l = rules_more before l
rules_more (line.Turn q ∷ before) l = rules_more before l
rules_more (line.Drop q ∷ before) l = rules_more before l
rules_more (line.Finish ∷ before) l = rules_more before l

pub rules_next : (lines : List Line) (i : ℕ) (d : Line) → i < length lines →
    rules_in (take (i + 1) lines) ≡ rules_in (take i lines) ++ rules_of (get_or lines i d)
rules_next lines i d less = ap rules_in (take_more lines i d less) ∙ rules_more (take i lines) (get_or lines i d)

-- rules that grew by those of the line that stands there
pub rules_grow : (lines : List Line) (i : ℕ) (d : Line) (old new : List Rule) → i < length lines → old ≡ rules_in (take i lines) →
    new ≡ old ++ rules_of (get_or lines i d) → new ≡ rules_in (take (i + 1) lines)
rules_grow lines i d old new less was is =
    is ∙ ap (λ rules. rules ++ rules_of (get_or lines i d)) was ∙ sym (rules_next lines i d less)

-- ---- replies

-- one more line is replied to
abbrev pub one_more : List ℕ × Evaluator → Line → List ℕ × Evaluator
one_more came l = (came.0 ++ (replied came.1 l).0, (replied came.1 l).1)

replied_more : (before : List Line) (e : Evaluator) (l : Line) → replied_all e (before ++ l ∷ []) ≡ one_more (replied_all e before) l
replied_more [] e l = λ i. (append-nil (replied e l).0 i, (replied e l).1)
replied_more (x ∷ before) e l =
    let rest = replied_more before (replied e x).1 l in
    (λ i. ((replied e x).0 ++ (rest i).0, (rest i).1)) ∙
    (λ i. (
      sym (append_assoc (replied e x).0 (replied_all (replied e x).1 before).0 (replied (replied_all (replied e x).1 before).1 l).0) i,
      (replied (replied_all (replied e x).1 before).1 l).1,
    ))

-- the text and the memo are those of these replies
abbrev pub Came : Memo → List ℕ → List ℕ × Evaluator → Type 0
Came memo text came = (text ≡ came.0) × IsMemo memo came.1

pub next_came : (e : Evaluator) (text more : List ℕ) (old new : Memo) (lines : List Line) (i : ℕ) (d : Line) → i < length lines →
    Came old text (replied_all e (take i lines)) →
    ((f : Evaluator) → IsMemo old f → (more ≡ text ++ (replied f (get_or lines i d)).0) × IsMemo new (replied f (get_or lines i d)).1) →
    Came new more (replied_all e (take (i + 1) lines))
next_came e text more old new lines i d less came replies =
    let after = replied_all e (take i lines) in
    let reply = replies after.1 came.1 in
    subst (Came new more) (sym (ap (replied_all e) (take_more lines i d less) ∙ replied_more (take i lines) e (get_or lines i d)))
    (reply.0 ∙ ap (λ t. t ++ (replied after.1 (get_or lines i d)).0) came.0, reply.1)
