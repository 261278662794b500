-- The closure may be called with what was found, and the future that it gave for that may be polled.
use Rattle.std.proofs.Common.{refl, sym, ◌∙◌, subst}
use Rattle.std.specs.Option.{option_copied}
use Rattle.moka_cache.specs.Calls.{CanCall}
use Rattle.moka_cache.specs.declared.calling.Calling.{Calling}
use Rattle.moka_cache.proofs.calling.Calling.call.Goals as goal

pub f-requires : goal.f-requires
f-requires g c =
    (subst (λ (calling : Calling g.row.F.Denot g.row.G.Denot). CanCall (λ f found. goal.F-pre g f found) (λ f found future. goal.F-post g f found future) g.G.Future.can_poll calling (option_copied c.args.found))
    (sym c.replace.ensures.value ∙ c.in-Uncalled.is) c.requires c.args.found refl).0

pub returns-clause-ready : goal.returns-clause-ready
returns-clause-ready g c =
    (subst (λ (calling : Calling g.row.F.Denot g.row.G.Denot). CanCall (λ f found. goal.F-pre g f found) (λ f found future. goal.F-post g f found future) g.G.Future.can_poll calling (option_copied c.args.found))
    (sym c.replace.ensures.value ∙ c.in-Uncalled.is) c.requires c.args.found refl).1 c.f.result c.f.ensures
