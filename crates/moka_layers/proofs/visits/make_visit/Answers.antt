-- The desk makes what the reference's visit makes.
use Rattle.std.proofs.Common.{refl}
use Rattle.std.proofs.lemmas.Result.{IfOk-weaker, on_err_weaker}
use Rattle.moka_hist.specs.declared.visits.Found.TheVariants as found
use Rattle.moka_hist.specs.declared.visits.Visit.TheVariants as visit
use Rattle.moka_layers.specs.Handing.{handed_by, ids_of}
use Rattle.moka_layers.specs.Visiting.{VisitIs}
use Rattle.moka_layers.proofs.Visited.{by_desk, by_handed, form_by, may_be_handed, may_have_form, may_lack, may_lack_handed, may_make, may_want}
use Rattle.moka_layers.proofs.visits.make_visit.Goals as goal

pub returns-in-Clock-clause-ok : goal.returns-in-Clock-clause-ok
returns-in-Clock-clause-ok g c =
    let made = c.read_clock in
    let is : VisitIs g.K.PartialEq.eq c.args.desk.now (visit.Clock c.in-Clock.call) (found.Clock made.result) made.new.self =
    record { form = (made.result, refl); made = λ w h may. (made.ensures.finds w h may, made.ensures.makes w h may) } in
    by_desk g.K.PartialEq.eq c.args.desk.now _ _ c.in-Clock.is (handed_by g.Q.Tests c.args.tests.now (ids_of c.args.ids.now)) made.new.self (found.Clock made.result) refl is

pub returns-in-TakeOwed-clause-ok : goal.returns-in-TakeOwed-clause-ok
returns-in-TakeOwed-clause-ok g c =
    let made = c.take_owed in
    let is : VisitIs g.K.PartialEq.eq c.args.desk.now (visit.TakeOwed c.in-TakeOwed.call) (found.TakeOwed made.result) made.new.self =
    record { form = (made.result, refl); made = λ w h may. (made.ensures.finds w h may, made.ensures.makes w h may) } in
    by_desk g.K.PartialEq.eq c.args.desk.now _ _ c.in-TakeOwed.is (handed_by g.Q.Tests c.args.tests.now (ids_of c.args.ids.now)) made.new.self (found.TakeOwed made.result) refl is

pub returns-in-NoticeEnded-clause-ok : goal.returns-in-NoticeEnded-clause-ok
returns-in-NoticeEnded-clause-ok g c = may_make g.K.PartialEq.eq c.args.desk.now _ _ c.in-NoticeEnded.is (handed_by g.Q.Tests c.args.tests.now (ids_of c.args.ids.now)) c.notice_ended.new.desk c.notice_ended.result refl c.notice_ended.ensures.ok

pub returns-in-LockKey-clause-ok : goal.returns-in-LockKey-clause-ok
returns-in-LockKey-clause-ok g c = may_make g.K.PartialEq.eq c.args.desk.now _ _ c.in-LockKey.is (handed_by g.Q.Tests c.args.tests.now (ids_of c.args.ids.now)) c.lock_key.new.desk c.lock_key.result refl c.lock_key.ensures.ok

pub returns-in-UnlockKey-clause-ok : goal.returns-in-UnlockKey-clause-ok
returns-in-UnlockKey-clause-ok g c = by_desk g.K.PartialEq.eq c.args.desk.now _ _ c.in-UnlockKey.is (handed_by g.Q.Tests c.args.tests.now (ids_of c.args.ids.now)) c.unlock_key.new.desk c.unlock_key.result refl c.unlock_key.ensures.visit

pub returns-in-OpenNotice-clause-ok : goal.returns-in-OpenNotice-clause-ok
returns-in-OpenNotice-clause-ok g c = may_make g.K.PartialEq.eq c.args.desk.now _ _ c.in-OpenNotice.is (handed_by g.Q.Tests c.args.tests.now (ids_of c.args.ids.now)) c.open_notice.new.desk c.open_notice.result refl c.open_notice.ensures.ok

pub returns-in-StampMoment-clause-ok : goal.returns-in-StampMoment-clause-ok
returns-in-StampMoment-clause-ok g c = may_make g.K.PartialEq.eq c.args.desk.now _ _ c.in-StampMoment.is (handed_by g.Q.Tests c.args.tests.now (ids_of c.args.ids.now)) c.stamp_moment.new.desk c.stamp_moment.result refl c.stamp_moment.ensures.ok

pub returns-in-WaitOrOwn-clause-ok : goal.returns-in-WaitOrOwn-clause-ok
returns-in-WaitOrOwn-clause-ok g c = may_make g.K.PartialEq.eq c.args.desk.now _ _ c.in-WaitOrOwn.is (handed_by g.Q.Tests c.args.tests.now (ids_of c.args.ids.now)) c.wait_or_own.new.desk c.wait_or_own.result refl c.wait_or_own.ensures.ok

pub returns-in-OwnAlone-clause-ok : goal.returns-in-OwnAlone-clause-ok
returns-in-OwnAlone-clause-ok g c = may_make g.K.PartialEq.eq c.args.desk.now _ _ c.in-OwnAlone.is (handed_by g.Q.Tests c.args.tests.now (ids_of c.args.ids.now)) c.own_alone.new.desk c.own_alone.result refl c.own_alone.ensures.ok

pub returns-in-ReadSettled-clause-ok : goal.returns-in-ReadSettled-clause-ok
returns-in-ReadSettled-clause-ok g c = may_make g.K.PartialEq.eq c.args.desk.now _ _ c.in-ReadSettled.is (handed_by g.Q.Tests c.args.tests.now (ids_of c.args.ids.now)) c.read_settled.new.desk c.read_settled.result refl c.read_settled.ensures.ok

pub returns-in-Settle-clause-ok : goal.returns-in-Settle-clause-ok
returns-in-Settle-clause-ok g c = by_desk g.K.PartialEq.eq c.args.desk.now _ _ c.in-Settle.is (handed_by g.Q.Tests c.args.tests.now (ids_of c.args.ids.now)) c.settle.new.desk c.settle.result refl c.settle.ensures.visit

pub returns-in-OpenAsk-clause-ok : goal.returns-in-OpenAsk-clause-ok
returns-in-OpenAsk-clause-ok g c = may_make g.K.PartialEq.eq c.args.desk.now _ _ c.in-OpenAsk.is (handed_by g.Q.Tests c.args.tests.now (ids_of c.args.ids.now)) c.open_ask.new.desk c.open_ask.result refl c.open_ask.ensures.ok

pub returns-in-TakeTold-clause-ok : goal.returns-in-TakeTold-clause-ok
returns-in-TakeTold-clause-ok g c =
    let made = c.take_told in
    let is : VisitIs g.K.PartialEq.eq c.args.desk.now (visit.TakeTold c.in-TakeTold.call) (found.TakeTold made.result) made.new.self =
    record { form = (made.result, refl); made = λ w h may. (made.ensures.finds w h may, made.ensures.makes w h may) } in
    by_desk g.K.PartialEq.eq c.args.desk.now _ _ c.in-TakeTold.is (handed_by g.Q.Tests c.args.tests.now (ids_of c.args.ids.now)) made.new.self (found.TakeTold made.result) refl is

pub returns-in-PostWrite-clause-ok : goal.returns-in-PostWrite-clause-ok
returns-in-PostWrite-clause-ok g c =
    let made = c.post_write in
    let is : VisitIs g.K.PartialEq.eq c.args.desk.now (visit.PostWrite c.in-PostWrite.call c.in-PostWrite.write) (found.PostWrite made.result) made.new.self =
    record { form = (made.result, refl); made = λ w h may. (made.ensures.finds w h may, made.ensures.makes w h may) } in
    by_desk g.K.PartialEq.eq c.args.desk.now _ _ c.in-PostWrite.is (handed_by g.Q.Tests c.args.tests.now (ids_of c.args.ids.now)) made.new.self (found.PostWrite made.result) refl is

pub returns-in-TakeTurn-clause-ok : goal.returns-in-TakeTurn-clause-ok
returns-in-TakeTurn-clause-ok g c = may_make g.K.PartialEq.eq c.args.desk.now _ _ c.in-TakeTurn.is (handed_by g.Q.Tests c.args.tests.now (ids_of c.args.ids.now)) c.take_turn.new.desk c.take_turn.result refl c.take_turn.ensures.ok

pub returns-in-ApplyOne-clause-ok : goal.returns-in-ApplyOne-clause-ok
returns-in-ApplyOne-clause-ok g c =
    let made = c.apply_one in
    let is : VisitIs g.K.PartialEq.eq c.args.desk.now (visit.ApplyOne c.in-ApplyOne.call) (found.ApplyOne made.result) made.new.self =
    record { form = (made.result, refl); made = λ w h may. (made.ensures.finds w h may, made.ensures.makes w h may) } in
    by_desk g.K.PartialEq.eq c.args.desk.now _ _ c.in-ApplyOne.is (handed_by g.Q.Tests c.args.tests.now (ids_of c.args.ids.now)) made.new.self (found.ApplyOne made.result) refl is

pub returns-in-InvalidateAll-clause-ok : goal.returns-in-InvalidateAll-clause-ok
returns-in-InvalidateAll-clause-ok g c = by_desk g.K.PartialEq.eq c.args.desk.now _ _ c.in-InvalidateAll.is (handed_by g.Q.Tests c.args.tests.now (ids_of c.args.ids.now)) c.invalidate_all.new.desk c.invalidate_all.result refl c.invalidate_all.ensures.visit

pub returns-in-EndTurn-clause-ok : goal.returns-in-EndTurn-clause-ok
returns-in-EndTurn-clause-ok g c = by_desk g.K.PartialEq.eq c.args.desk.now _ _ c.in-EndTurn.is (handed_by g.Q.Tests c.args.tests.now (ids_of c.args.ids.now)) c.end_turn.new.desk c.end_turn.result refl c.end_turn.ensures.visit

pub returns-in-Judge-clause-ok : goal.returns-in-Judge-clause-ok
returns-in-Judge-clause-ok g c =
    let handed = handed_by g.Q.Tests c.args.tests.now (ids_of c.args.ids.now) in
    may_be_handed g.K.PartialEq.eq c.args.desk.now _ _ c.in-Judge.is handed c.judge.new.desk c.judge.result handed
    (IfOk-weaker c.judge.result _ _ (λ f made. made (ids_of c.args.ids.now)) c.judge.ensures.ok)

pub returns-in-Scan-clause-ok : goal.returns-in-Scan-clause-ok
returns-in-Scan-clause-ok g c =
    let handed = handed_by g.Q.Tests c.args.tests.now (ids_of c.args.ids.now) in
    by_handed g.K.PartialEq.eq c.args.desk.now _ _ c.in-Scan.is handed c.scan.new.desk c.scan.result handed (c.scan.ensures.visit (ids_of c.args.ids.now))

pub returns-in-Holds-clause-ok : goal.returns-in-Holds-clause-ok
returns-in-Holds-clause-ok g c =
    let handed = handed_by g.Q.Tests c.args.tests.now (ids_of c.args.ids.now) in
    by_handed g.K.PartialEq.eq c.args.desk.now _ _ c.in-Holds.is handed c.holds.new.desk c.holds.result handed (c.holds.ensures.visit (ids_of c.args.ids.now))

pub returns-in-Register-clause-ok : goal.returns-in-Register-clause-ok
returns-in-Register-clause-ok g c =
    let handed = handed_by g.Q.Tests c.args.tests.now (ids_of c.args.ids.now) in
    may_be_handed g.K.PartialEq.eq c.args.desk.now _ _ c.in-Register.is handed c.register.new.desk c.register.result
    (handed_by g.Q.Tests c.args.tests.now (ids_of c.register.new.ids))
    (IfOk-weaker c.register.result _ _ (λ f made. made handed) c.register.ensures.ok)

pub returns-in-Candidates-clause-ok : goal.returns-in-Candidates-clause-ok
returns-in-Candidates-clause-ok g c = may_make g.K.PartialEq.eq c.args.desk.now _ _ c.in-Candidates.is (handed_by g.Q.Tests c.args.tests.now (ids_of c.args.ids.now)) c.candidates.new.desk c.candidates.result refl c.candidates.ensures.ok

pub returns-in-Strike-clause-ok : goal.returns-in-Strike-clause-ok
returns-in-Strike-clause-ok g c =
    let handed = handed_by g.Q.Tests c.args.tests.now (ids_of c.args.ids.now) in
    by_handed g.K.PartialEq.eq c.args.desk.now _ _ c.in-Strike.is handed c.strike.new.desk c.strike.result handed (c.strike.ensures.visit (ids_of c.args.ids.now))

pub returns-in-Retire-clause-ok : goal.returns-in-Retire-clause-ok
returns-in-Retire-clause-ok g c = by_desk g.K.PartialEq.eq c.args.desk.now _ _ c.in-Retire.is (handed_by g.Q.Tests c.args.tests.now (ids_of c.args.ids.now)) c.retire.new.desk c.retire.result refl c.retire.ensures.visit

pub returns-in-Judge-clause-form : goal.returns-in-Judge-clause-form
returns-in-Judge-clause-form g c =
    let handed = handed_by g.Q.Tests c.args.tests.now (ids_of c.args.ids.now) in
    may_have_form g.K.PartialEq.eq c.args.desk.now _ _ c.in-Judge.is handed c.judge.new.desk c.judge.result handed
    (IfOk-weaker c.judge.result _ _ (λ f made. made (ids_of c.args.ids.now)) c.judge.ensures.ok)

pub returns-in-Scan-clause-form : goal.returns-in-Scan-clause-form
returns-in-Scan-clause-form g c =
    let handed = handed_by g.Q.Tests c.args.tests.now (ids_of c.args.ids.now) in
    form_by g.K.PartialEq.eq c.args.desk.now _ _ c.in-Scan.is handed c.scan.new.desk c.scan.result handed (c.scan.ensures.visit (ids_of c.args.ids.now))

pub returns-in-Holds-clause-form : goal.returns-in-Holds-clause-form
returns-in-Holds-clause-form g c =
    let handed = handed_by g.Q.Tests c.args.tests.now (ids_of c.args.ids.now) in
    form_by g.K.PartialEq.eq c.args.desk.now _ _ c.in-Holds.is handed c.holds.new.desk c.holds.result handed (c.holds.ensures.visit (ids_of c.args.ids.now))

pub returns-in-Register-clause-form : goal.returns-in-Register-clause-form
returns-in-Register-clause-form g c =
    let handed = handed_by g.Q.Tests c.args.tests.now (ids_of c.args.ids.now) in
    may_have_form g.K.PartialEq.eq c.args.desk.now _ _ c.in-Register.is handed c.register.new.desk c.register.result
    (handed_by g.Q.Tests c.args.tests.now (ids_of c.register.new.ids))
    (IfOk-weaker c.register.result _ _ (λ f made. made handed) c.register.ensures.ok)

pub returns-in-Strike-clause-form : goal.returns-in-Strike-clause-form
returns-in-Strike-clause-form g c =
    let handed = handed_by g.Q.Tests c.args.tests.now (ids_of c.args.ids.now) in
    form_by g.K.PartialEq.eq c.args.desk.now _ _ c.in-Strike.is handed c.strike.new.desk c.strike.result handed (c.strike.ensures.visit (ids_of c.args.ids.now))

pub returns-in-NoticeEnded-clause-err_needs : goal.returns-in-NoticeEnded-clause-err_needs
returns-in-NoticeEnded-clause-err_needs g c = may_lack g.K.PartialEq.eq c.args.desk.now _ _ c.in-NoticeEnded.is (handed_by g.Q.Tests c.args.tests.now (ids_of c.args.ids.now)) c.notice_ended.result c.notice_ended.ensures.err_needs

pub returns-in-OwnAlone-clause-err_needs : goal.returns-in-OwnAlone-clause-err_needs
returns-in-OwnAlone-clause-err_needs g c = may_lack g.K.PartialEq.eq c.args.desk.now _ _ c.in-OwnAlone.is (handed_by g.Q.Tests c.args.tests.now (ids_of c.args.ids.now)) c.own_alone.result c.own_alone.ensures.err_needs

pub returns-in-ReadSettled-clause-err_needs : goal.returns-in-ReadSettled-clause-err_needs
returns-in-ReadSettled-clause-err_needs g c = may_lack g.K.PartialEq.eq c.args.desk.now _ _ c.in-ReadSettled.is (handed_by g.Q.Tests c.args.tests.now (ids_of c.args.ids.now)) c.read_settled.result c.read_settled.ensures.err_needs

pub returns-in-TakeTurn-clause-err_needs : goal.returns-in-TakeTurn-clause-err_needs
returns-in-TakeTurn-clause-err_needs g c = may_lack g.K.PartialEq.eq c.args.desk.now _ _ c.in-TakeTurn.is (handed_by g.Q.Tests c.args.tests.now (ids_of c.args.ids.now)) c.take_turn.result c.take_turn.ensures.err_needs

pub returns-in-Register-clause-err_needs : goal.returns-in-Register-clause-err_needs
returns-in-Register-clause-err_needs g c = may_lack g.K.PartialEq.eq c.args.desk.now _ _ c.in-Register.is (handed_by g.Q.Tests c.args.tests.now (ids_of c.args.ids.now)) c.register.result c.register.ensures.err_needs

pub returns-in-Judge-clause-err_needs : goal.returns-in-Judge-clause-err_needs
returns-in-Judge-clause-err_needs g c =
    may_lack_handed g.K.PartialEq.eq c.args.desk.now _ _ c.in-Judge.is (handed_by g.Q.Tests c.args.tests.now (ids_of c.args.ids.now)) c.judge.result
    (on_err_weaker c.judge.result (λ any. any (ids_of c.args.ids.now)) c.judge.ensures.err_needs)

pub returns-in-LockKey-clause-err_needs : goal.returns-in-LockKey-clause-err_needs
returns-in-LockKey-clause-err_needs g c = may_want g.K.PartialEq.eq c.args.desk.now _ _ c.in-LockKey.is (handed_by g.Q.Tests c.args.tests.now (ids_of c.args.ids.now)) c.lock_key.result (λ w. tt)

pub returns-in-OpenNotice-clause-err_needs : goal.returns-in-OpenNotice-clause-err_needs
returns-in-OpenNotice-clause-err_needs g c = may_want g.K.PartialEq.eq c.args.desk.now _ _ c.in-OpenNotice.is (handed_by g.Q.Tests c.args.tests.now (ids_of c.args.ids.now)) c.open_notice.result (λ w. tt)

pub returns-in-StampMoment-clause-err_needs : goal.returns-in-StampMoment-clause-err_needs
returns-in-StampMoment-clause-err_needs g c = may_want g.K.PartialEq.eq c.args.desk.now _ _ c.in-StampMoment.is (handed_by g.Q.Tests c.args.tests.now (ids_of c.args.ids.now)) c.stamp_moment.result (λ w. tt)

pub returns-in-WaitOrOwn-clause-err_needs : goal.returns-in-WaitOrOwn-clause-err_needs
returns-in-WaitOrOwn-clause-err_needs g c = may_want g.K.PartialEq.eq c.args.desk.now _ _ c.in-WaitOrOwn.is (handed_by g.Q.Tests c.args.tests.now (ids_of c.args.ids.now)) c.wait_or_own.result (λ w. tt)

pub returns-in-OpenAsk-clause-err_needs : goal.returns-in-OpenAsk-clause-err_needs
returns-in-OpenAsk-clause-err_needs g c = may_want g.K.PartialEq.eq c.args.desk.now _ _ c.in-OpenAsk.is (handed_by g.Q.Tests c.args.tests.now (ids_of c.args.ids.now)) c.open_ask.result (λ w. tt)

pub returns-in-Candidates-clause-err_needs : goal.returns-in-Candidates-clause-err_needs
returns-in-Candidates-clause-err_needs g c = may_want g.K.PartialEq.eq c.args.desk.now _ _ c.in-Candidates.is (handed_by g.Q.Tests c.args.tests.now (ids_of c.args.ids.now)) c.candidates.result (λ w. tt)
