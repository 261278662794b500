-- The call is new, and so is the seat.
use Rattle.std.proofs.Common.{refl, sym, ◌∙◌}
use Rattle.moka_claims.proofs.Standing.{seek_is}
use Rattle.moka_claims.proofs.claims.Claims.seek.Goals as goal

pub start-requires-clause-usable : goal.start-requires-clause-usable
start-requires-clause-usable c = λ unspent. (c.requires.1.small, c.requires.1.polled, tt)

pub returns : goal.returns
returns c = λ claimed is.
    let began = c.in_ok-call.ensures.started is.small is.polled in
    seek_is c.args.self.now claimed is
    (record { cache = c.start.new.self; calls = c.args.self.now.calls; seats = c.insert.new.self })
    c.args.query c.args.rule c.in_ok-call.call (sym (is.seeks c.args.query) ∙ c.requires.1.seeks c.args.query ∙ c.requires.2)
    began.0 began.1 (λ k. refl) c.in_ok-insert.ensures.updates.0
