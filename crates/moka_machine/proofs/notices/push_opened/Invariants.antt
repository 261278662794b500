-- What was pushed, with the notices of the numbers that are left, are all.
use Rattle.std.proofs.Common.{◌≡◌, ◌++◌, true, drop}
use Rattle.std.specs.List.{filter_map}
use Rattle.moka_hist.specs.State.{DeskPart}
use Rattle.moka_desk.specs.History.{keeps_history}
use Rattle.moka_desk.specs.StandsFor as desk
use Rattle.moka_machine.proofs.notices.push_opened.Given as goal

abbrev pub invariant-loop-number : goal.invariant-loop-number
invariant-loop-number g l =
    keeps_history l.desk ≡ true → (w : DeskPart g.row.K.Denot g.row.V.Denot g.row.E.Denot) → desk.StandsFor g.K.PartialEq.eq l.desk w
    → l.notices.items ++ filter_map w.notices (drop l.number-index l.numbers) ≡ l.initial.notices.items ++ filter_map w.notices l.numbers
