-- The look that was begun is what is wanted further.
use Rattle.std.proofs.lemmas.Result.{IfOk-weaker}
use Rattle.std.proofs.Common.{subst}
use Rattle.moka_hist.specs.Step.{Access}
use Rattle.moka_hist.specs.declared.accesses.Want.TheVariants as want
use Rattle.moka_desk_cases.specs.EmptyCache.{BareServes}
use Rattle.moka_desk_cases.proofs.EmptyCache.{wanted_table}
use Rattle.moka_desk_cases.proofs.flows.bare.Bare.give.Goals as goal

pub returns-in-Table-clause-serves : goal.returns-in-Table-clause-serves
returns-in-Table-clause-serves g c =
    IfOk-weaker c.resume.result _ _ (λ given serves access is.
    let o = wanted_table c.args.self.now.begun c.args.want access c.in-Table.is is in (
      want.Begin o.0,
      subst (λ (a : Access g.row.K.Denot g.row.V.Denot g.row.E.Denot). BareServes g.K.PartialEq.eq c.args.self.now.notes.items c.args.self.now.undecided a (want.Begin o.0) given
          c.resume.new.self.begun c.resume.new.self.notes.items c.resume.new.self.undecided) o.2 (serves o.0 o.1),
    ))
    c.resume.ensures.serves
