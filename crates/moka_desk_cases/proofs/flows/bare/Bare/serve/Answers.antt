-- What was served is given and told.
use Rattle.std.proofs.lemmas.Result.{IfOk-weaker}
use Rattle.moka_desk_cases.proofs.EmptyCache.{serves_tell}
use Rattle.moka_desk_cases.proofs.flows.bare.Bare.serve.Goals as goal

pub returns-clause-gives : goal.returns-clause-gives
returns-clause-gives g c =
    IfOk-weaker c.give.result _ _ (λ given serves access is. (serves access is).1.gives) c.give.ensures.serves

pub returns-clause-tells : goal.returns-clause-tells
returns-clause-tells g c =
    let old = c.args.self.now in
    let new = c.give.new.self in
    IfOk-weaker c.give.result _ _ (λ given serves access is.
    let s = serves access is in
    serves_tell g.K.PartialEq.eq old.call new.call old.begun new.begun old.notes.items new.notes.items old.undecided new.undecided access s.0 given c.give.ensures.call s.1)
    c.give.ensures.serves
