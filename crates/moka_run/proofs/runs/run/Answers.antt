-- The lists of the report are those of the last state; where they find no memory all events were done.
use Rattle.std.proofs.Common.{◌≡◌, List, take, length, refl, sym, subst}
use Rattle.std.proofs.Math.Seq.{take-length}
use Rattle.moka_hist.specs.Places.{IsLawful}
use Rattle.moka_hist.specs.Run.{Run}
use Rattle.moka_hist.specs.declared.events.Event.{Event}
use Rattle.moka_hist.specs.declared.replies.Reply.{Reply}
use Rattle.moka_run.specs.declared.report.Memory.{Memory}
use Rattle.moka_run.specs.declared.report.Report.{Report}
use Rattle.moka_run.specs.Report.{Reports}
use Rattle.moka_run.specs.Running.{Answers, For_lists}
use Rattle.moka_run.proofs.Stopping.{stops_between}
use Rattle.moka_run.proofs.runs.run.Goals as goal

pub returns-in-Ok-clause-run : goal.returns-in-Ok-clause-run
returns-in-Ok-clause-run g c = λ s h reached.
    let a = c.in_ok-replies.ensures.run s h reached in
    let same : c.in_ok-replies.replies.items ≡ c.from_vec-replies.result = sym c.from_vec-replies.ensures in
    let answers : Answers g.K.PartialEq.eq g.T.Tests c.args.events.now c.from_vec-replies.result c.run_events.new.cache s =
    record {
      final = a.final;
      run = subst (λ (rs : List (Reply g.row.K.Denot g.row.V.Denot g.row.E.Denot)). Run g.K.PartialEq.eq (IsLawful g.K.PartialEq.eq) s c.args.events.now rs a.final) same a.run;
      stands = a.stands;
    } in
    subst (λ (r : Report g.row.K.Denot g.row.V.Denot g.row.E.Denot).
    (b : Answers g.K.PartialEq.eq g.T.Tests c.args.events.now r.replies c.run_events.new.cache s) × Reports g.K.PartialEq.eq r.entries r.places r.notices r.tests b.final)
    (sym c.report_of.ensures) (answers, c.in-Ok.ensures a.final a.stands)

pub returns-in-Err-clause-memory : goal.returns-in-Err-clause-memory
returns-in-Err-clause-memory g c = λ s h reached.
    let a = c.in_ok-replies.ensures.run s h reached in
    let events = c.args.events.now in
    let same : c.in_ok-replies.replies.items ≡ c.from_vec-replies.result = sym c.from_vec-replies.ensures in
    let stop : Memory g.row.K.Denot g.row.V.Denot g.row.E.Denot = record { done = length events; steps = 0; replies = c.from_vec-replies.result } in
    stops_between g.K.PartialEq.eq g.T.Tests c.run_events.new.cache events stop (length events) c.from_vec-replies.result s a.final refl
    (subst (λ (rs : List (Reply g.row.K.Denot g.row.V.Denot g.row.E.Denot)). Run g.K.PartialEq.eq (IsLawful g.K.PartialEq.eq) s (take (length events) events) rs a.final) same
    (subst (λ (es : List (Event g.row.K.Denot g.row.V.Denot g.row.E.Denot)). Run g.K.PartialEq.eq (IsLawful g.K.PartialEq.eq) s es c.in_ok-replies.replies.items a.final) (sym (take-length events)) a.run))
    a.stands
    (For_lists refl refl)
