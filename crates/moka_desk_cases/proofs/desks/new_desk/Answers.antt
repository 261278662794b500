use Rattle.moka_desk.proofs.Outcomes.{if_ok_then}
use Rattle.moka_desk_cases.specs.Rests.{none_handed}
use Rattle.moka_desk_cases.proofs.desks.new_desk.Goals as goal

pub returns : goal.returns
returns c = if_ok_then c.new.result c.new.ensures.stands (λ desk stands. (c.args.rules, stands none_handed))
