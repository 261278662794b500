-- The turns are the number that is read, where that is in its range.
use Rattle.std.proofs.Common.{◌^◌, sym, ◌∙◌, arith}
use Rattle.moka_lines.proofs.Numbers.{number_found}
use Rattle.moka_make.proofs.Spelled.{turns_read, unread}
use Rattle.moka_make.proofs.words.turns_in.Goals as goal

pub returns-in_default-clause-none : goal.returns-in_default-clause-none
returns-in_default-clause-none c = λ turns is.
    let few = is.few in
    unread (2 ^ 32) c.args.digits.now turns (omega arith) (sym c.u32_in.ensures ∙ c.in_default.is)
    (omega arith) is.spelled

pub returns-then-turns-eq0-clause-none : goal.returns-then-turns-eq0-clause-none
returns-then-turns-eq0-clause-none c = λ turns is.
    let same = turns_read c.args.digits.now c.in-Some.turns turns (sym c.in-Some.is ∙ c.u32_in.ensures) is in
    let some = is.some in
    let none = c.if-turns-eq0.true in
    absurd (omega arith)

pub returns-then-turns-gt-MOST_TURNS-clause-none :
    goal.returns-then-turns-gt-MOST_TURNS-clause-none
returns-then-turns-gt-MOST_TURNS-clause-none c = λ turns is.
    let same = turns_read c.args.digits.now c.in-Some.turns turns (sym c.in-Some.is ∙ c.u32_in.ensures) is in
    let few = is.few in
    let more = c.if-turns-gt-MOST_TURNS.true in
    absurd (omega arith)

pub returns-clause-found : goal.returns-clause-found
returns-clause-found c = record {
  spelled = (number_found (2 ^ 32) c.in-Some.turns c.args.digits.now (sym c.u32_in.ensures ∙ c.in-Some.is)).0;
  some = omega (arith, c.if-turns-eq0.false);
  few = omega (arith, c.if-turns-gt-MOST_TURNS.false);
}
