-- The text is read both ways, which can't be.
use Rattle.moka_run.proofs.laws.says_or_is_bad.Goals as goal

pub returns : goal.returns
returns c = λ text log settings events line says bad.
    let ok = c.schedule_text_round_trip.ensures.text text log settings events says in
    let err = c.schedule_text_round_trip.ensures.bad_line text line bad in
    cc
