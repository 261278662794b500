-- What the call of a request came to is what the reference says.
use Rattle.std.proofs.lemmas.Result.{IfOk-weaker}
use Rattle.moka_gateway.proofs.Fetching.{asks_ok, loaded_ok, waits_ok}
use Rattle.moka_gateway.proofs.fetches.Fetches.ask.Goals as goal

pub returns-in-Loaded : goal.returns-in-Loaded
returns-in-Loaded c = λ u f.
    loaded_ok c.requests_come.ensures c.args.self.now c.begin.new.self c.args.key c.args.place c.in_ok-begun.begun.number c.in_ok-begun.begun.outcome
    c.in_ok-begun.ensures.begun c.in_ok-begun.ensures.lists u f c.in-Loaded.value c.in-Loaded.fresh c.in-Loaded.is c.stored.result c.stored.ensures

pub returns-in-Asks : goal.returns-in-Asks
returns-in-Asks c = IfOk-weaker c.open.result _ _ (λ a opened u f.
    asks_ok c.requests_come.ensures c.args.self.now c.begin.new.self c.args.key c.args.place c.in_ok-begun.begun.number c.in_ok-begun.begun.outcome
    c.in_ok-begun.ensures.begun c.in_ok-begun.ensures.lists u f c.in-Asks.is c.open.new.self opened.2 opened.1 a opened.0)
    c.open.ensures

pub returns-in-Waits : goal.returns-in-Waits
returns-in-Waits c = IfOk-weaker c.join.result _ _ (λ a joined u f.
    waits_ok c.requests_come.ensures c.args.self.now c.begin.new.self c.args.key c.args.place c.in_ok-begun.begun.number c.in_ok-begun.begun.outcome
    c.in_ok-begun.ensures.begun c.in_ok-begun.ensures.lists u f c.in-Waits.is c.join.new.self joined.2 joined.1 a joined.0)
    c.join.ensures
