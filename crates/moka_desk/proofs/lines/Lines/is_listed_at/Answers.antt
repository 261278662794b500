-- A call is on no list but that of its place.
use Rattle.std.proofs.Common.{sym, ap, nat_eq, ◌∙◌}
use Rattle.std.specs.HashMap.{get}
use Rattle.moka_desk.specs.Lines.{is_at, line_at}
use Rattle.moka_desk.proofs.Listed.{elsewhere}
use Rattle.moka_desk.proofs.lines.Lines.is_listed_at.Goals as goal

pub returns : goal.returns
returns c =
    let s = c.args.self.now in
    sym (elsewhere (line_at s.lists) (get nat_eq s.places) s.placed c.args.call c.args.number
    (ap (λ o. is_at o c.args.number) (sym c.requires) ∙ sym c.is_at.ensures ∙ c.if-is_at.false))
