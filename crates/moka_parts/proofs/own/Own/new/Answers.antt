use Rattle.std.proofs.Common.{sym, subst, ◌∙◌}
use Rattle.moka_parts.specs.Changes.{IsUnspent}
use Rattle.moka_parts.specs.Logs.{changes_in}
use Rattle.moka_parts.proofs.Tickets.{nothing_made}
use Rattle.moka_parts.proofs.own.Own.new.Goals as goal

pub invariant_of-result : goal.invariant_of-result
invariant_of-result g c =
    let named = c.requires.named in
    let history = changes_in c.args.last in (
      c.requires.ticket.0,
      c.requires.ticket.1,
      (nothing_made c.args.first.key history (subst (λ (t : _). IsUnspent t history) (sym named) c.requires.unspent)).1 ∙ named,
    )

pub returns : goal.returns
returns g c =
    let history = changes_in c.args.last in
    (nothing_made c.args.first.key history (subst (λ (t : _). IsUnspent t history) (sym c.requires.named) c.requires.unspent)).0
