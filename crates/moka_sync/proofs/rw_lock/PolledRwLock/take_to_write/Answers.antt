-- No other call reads, so nobody does once the call is off.
use Rattle.std.proofs.Common.{◌≡◌, ◌∙◌, ap, [], min}
use Rattle.moka_sync.specs.Waiting.{Waiting, without}
use Rattle.moka_sync.specs.Holders.{RwState, is_others, has_others}
use Rattle.moka_sync.proofs.Others.{right-false, without-alone, RwState-same}
use Rattle.moka_sync.proofs.rw_lock.PolledRwLock.take_to_write.Goals as goal
use Rattle.moka_sync.proofs.rw_lock.PolledRwLock.take_to_write.Goals.{After-remove-2}

-- nobody reads any more
alone : (c : After-remove-2) → c.remove.new.self.calls ≡ []
alone c =
    let s = c.args.self.now in
    ap (λ (v : Waiting). v.calls) c.remove.ensures
    ∙ ap (λ (v : RwState). without c.args.call v.readers) c.self.view_is
    ∙ without-alone c.args.call s.readers (right-false (is_others s.writer c.args.call) (has_others c.args.call s.readers) c.requires)

pub invariant_of-self : goal.invariant_of-self
invariant_of-self c = λ q e. alone c

pub returns : goal.returns
returns c =
    RwState-same _ _ _ _ _ _ _ (alone c)
    (ap (λ (v : Waiting). v.calls) c.remove-2.ensures ∙ ap (λ (v : RwState). without c.args.call v.waiting) c.self.view_is)
    (ap (λ (v : Waiting). min v.room c.remove-2.new.self.room) c.remove.ensures
    ∙ ap (λ (v : Waiting). min c.self.inside.readers.room v.room) c.remove-2.ensures
    ∙ ap (λ (v : RwState). v.room) c.self.view_is)
