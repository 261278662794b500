-- Nobody waits for the call.
use Rattle.moka_behind.proofs.Running.{dropped, may_drop}
use Rattle.moka_behind.proofs.pairs.give_up.Goals as goal

pub drop_call-requires : goal.drop_call-requires
drop_call-requires c =
    let h = c.requires.1.1 in
    record { alone = λ unspent. (h.small, h.stands, may_drop c.args.call c.requires.0 h.small h.such) }

pub returns : goal.returns
returns c = λ key ps h.
    dropped c.drop_call.new.self c.args.call key h.small h.such ps h.values
    (c.drop_call.ensures.gone h.small h.stands (may_drop c.args.call key h.small h.such))
