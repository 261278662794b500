-- The rule goes to the first of its line, or is free.
use Rattle.std.proofs.Common.{sym, ap, ◌∙◌}
use Rattle.moka_hist.specs.Finite.{put_at}
use Rattle.moka_stacks.specs.Places.{owner_at}
use Rattle.moka_memo.proofs.Letting.{freed_is, heir_is, its_heir_seeks, its_held, its_unawaited}
use Rattle.moka_memo.proofs.memo.Memo.pass.Goals as goal

pub leave-requires : goal.leave-requires
leave-requires c =
    let is = c.requires.4 in (
      is.passing.claimed,
      is.passing.claims,
      its_heir_seeks c.args.self.now c.requires.0 c.requires.1 c.args.rule c.requires.2 c.requires.3 is
          c.in-Some.heir (sym c.pass.ensures.heir ∙ c.in-Some.is),
    )

pub free-requires : goal.free-requires
free-requires c =
    let is = c.requires.4 in
    let none = sym c.pass.ensures.heir ∙ c.in-None.is in (
      is.passing.claimed,
      is.passing.claims,
      (
        its_held c.args.self.now c.requires.0 c.requires.1 c.args.rule c.requires.2 c.requires.3 is none,
        its_unawaited c.args.self.now c.requires.0 c.requires.1 c.args.rule c.requires.2 c.requires.3 is none,
      ),
    )

pub returns-in-Some : goal.returns-in-Some
returns-in-Some c = λ e q f fs is.
    let first = sym c.pass.ensures.heir ∙ c.in-Some.is in
    heir_is c.args.self.now e q c.args.rule f fs is c.in-Some.heir first c.leave.new.self
    (c.leave.ensures is.passing.claimed is.passing.claims (its_heir_seeks c.args.self.now e q c.args.rule f fs is c.in-Some.heir first))
    c.pass.new.self
    (λ x. c.pass.ensures.owner x ∙ ap (λ o. put_at (owner_at c.args.self.now.places) c.args.rule o x) c.in-Some.is)
    c.pass.ensures.line

pub returns-in-None : goal.returns-in-None
returns-in-None c = λ e q f fs is.
    let none = sym c.pass.ensures.heir ∙ c.in-None.is in
    freed_is c.args.self.now e q c.args.rule f fs is none c.free.new.self
    (c.free.ensures is.passing.claimed is.passing.claims (its_held c.args.self.now e q c.args.rule f fs is none)
    (its_unawaited c.args.self.now e q c.args.rule f fs is none))
    c.pass.new.self
    (λ x. c.pass.ensures.owner x ∙ ap (λ o. put_at (owner_at c.args.self.now.places) c.args.rule o x) c.in-None.is)
    c.pass.ensures.line
