-- The end that is tested is the one that the call would read.
use Rattle.std.proofs.Common.{nat_eq, ap, sym, ◌∙◌}
use Rattle.std.specs.HashMap.{get}
use Rattle.std.specs.Option.{option_map}
use Rattle.moka_needs.specs.Needs.{ending_of}
use Rattle.moka_desk.proofs.Needing.{ended_none, ended_some, joined_end}
use Rattle.moka_desk.proofs.state.Desk.ended_as.Goals as goal

pub returns-in-Some : goal.returns-in-Some
returns-in-Some g c = λ w s.
    let loads = c.args.self.now.loads in
    let call = c.args.call in
    let same = joined_end (λ n. get nat_eq loads.settled n) w.settled s.loads.settled (get nat_eq loads.joined call) (w.joined call) (s.loads.joined call) in
    ended_some w call c.args.kind c.in-Some.with c.may_end_so.result c.may_end_so.ensures
    (ap (option_map ending_of) (sym same) ∙ sym c.ending_for.ensures ∙ c.in-Some.is)

pub returns-in-None : goal.returns-in-None
returns-in-None g c = λ w s.
    let loads = c.args.self.now.loads in
    let call = c.args.call in
    let same = joined_end (λ n. get nat_eq loads.settled n) w.settled s.loads.settled (get nat_eq loads.joined call) (w.joined call) (s.loads.joined call) in
    ended_none w call c.args.kind
    (ap (option_map ending_of) (sym same) ∙ sym c.ending_for.ensures ∙ c.in-None.is)
