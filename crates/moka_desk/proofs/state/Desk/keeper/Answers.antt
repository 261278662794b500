use Rattle.std.proofs.Common.{◌≡◌, Some, None, sym, ◌∙◌}
use Rattle.moka_desk.specs.Locks.{is_kept, lock_part, lock_under}
use Rattle.moka_desk.proofs.LockParts.{keeper_is, keeper_none, keeping_at}
use Rattle.moka_desk.proofs.state.Desk.keeper.Goals as goal

pub returns-in-Some : goal.returns-in-Some
returns-in-Some g c = λ w h.
    let key = c.args.key.now in
    let locks = c.args.self.now.locks in
    let holder = c.in-Some.holder in
    let held : w.locks key ≡ Some holder = sym (h.locks.holders key) ∙ sym c.holder.ensures ∙ c.in-Some.is in
    c.if_kept.ensures ∙ keeper_is w key holder (is_kept (lock_under locks holder)) held (keeping_at g.K.PartialEq.eq locks (lock_part w) h.locks holder)

pub returns-in-None : goal.returns-in-None
returns-in-None g c = λ w h.
    let free : w.locks c.args.key.now ≡ None = sym (h.locks.holders c.args.key.now) ∙ sym c.holder.ensures ∙ c.in-None.is in
    keeper_none w c.args.key.now free
