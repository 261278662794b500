-- What is tested is what the need says.
use Rattle.moka_desk.proofs.NeedTests.{tests_as}
use Rattle.moka_desk.proofs.state.Desk.meets.Goals as goal

pub returns-in-Clock : goal.returns-in-Clock
returns-in-Clock g c = λ w h.
    tests_as g.K.PartialEq.eq c.args.self.now w c.args.call _ _ _ c.in-Clock.is (c.holds_no_write.ensures w h)

pub returns-in-TakeOwed : goal.returns-in-TakeOwed
returns-in-TakeOwed g c = λ w h.
    tests_as g.K.PartialEq.eq c.args.self.now w c.args.call _ _ _ c.in-TakeOwed.is (c.holds_nothing.ensures w h)

pub returns-in-LockKey : goal.returns-in-LockKey
returns-in-LockKey g c = λ w h.
    tests_as g.K.PartialEq.eq c.args.self.now w c.args.call _ _ _ c.in-LockKey.is (c.locked_nothing.ensures w h)

pub returns-in-UnlockKey : goal.returns-in-UnlockKey
returns-in-UnlockKey g c = λ w h.
    tests_as g.K.PartialEq.eq c.args.self.now w c.args.call _ _ _ c.in-UnlockKey.is (c.may_unlock.ensures w h)

pub returns-in-StampMoment : goal.returns-in-StampMoment
returns-in-StampMoment g c = λ w h.
    tests_as g.K.PartialEq.eq c.args.self.now w c.args.call _ _ _ c.in-StampMoment.is (c.may_stamp.ensures w h)

pub returns-in-WaitOrOwn : goal.returns-in-WaitOrOwn
returns-in-WaitOrOwn g c = λ w h.
    tests_as g.K.PartialEq.eq c.args.self.now w c.args.call _ _ _ c.in-WaitOrOwn.is (c.may_claim.ensures w h)

pub returns-in-OwnAlone : goal.returns-in-OwnAlone
returns-in-OwnAlone g c = λ w h.
    tests_as g.K.PartialEq.eq c.args.self.now w c.args.call _ _ _ c.in-OwnAlone.is (c.loads_nothing.ensures w h)

pub returns-in-Settle : goal.returns-in-Settle
returns-in-Settle g c = λ w h.
    tests_as g.K.PartialEq.eq c.args.self.now w c.args.call _ _ _ c.in-Settle.is (c.may_settle.ensures w h)

pub returns-in-OpenNotice : goal.returns-in-OpenNotice
returns-in-OpenNotice g c = λ w h.
    tests_as g.K.PartialEq.eq c.args.self.now w c.args.call _ _ _ c.in-OpenNotice.is (c.opened_none.ensures w h)

pub returns-in-PostWrite : goal.returns-in-PostWrite
returns-in-PostWrite g c = λ w h.
    tests_as g.K.PartialEq.eq c.args.self.now w c.args.call _ _ _ c.in-PostWrite.is (c.holds_write.ensures w h)
