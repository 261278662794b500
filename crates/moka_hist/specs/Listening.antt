-- Holding a key's lock, and telling the listener of a record that was replaced.
use Rattle.std.specs.Prelude.{List, ◌∷◌, true, false, Some, None}
use Rattle.moka_hist.specs.State.{Call}
use Rattle.moka_hist.specs.Plan.{Item}
use Rattle.moka_hist.specs.Plan as plan
use Rattle.moka_hist.specs.Next.{Next, goes, waits, asks}
use Rattle.moka_hist.specs.declared.records.Stored.{Stored}
use Rattle.moka_hist.specs.declared.replies.Ask.TheVariants as ask
use Rattle.moka_hist.specs.declared.visits.Found.{Found}
use Rattle.moka_hist.specs.declared.visits.Found.TheVariants as found
use Rattle.moka_hist.specs.declared.visits.LockTaken.TheVariants as taken

module _ {K V E : Type 0} where
  -- the lock is waited for while another call holds it, or the notice of one keeps it
  abbrev pub after_lock : Call K V E → List (Item K V E) → Found V E → Next K V E
  after_lock c rest (found.LockKey taken.Taken) = goes c rest
  after_lock c rest (found.LockKey taken.Held) = waits c
  after_lock c rest (found.LockKey (taken.Kept notice)) = waits c
  after_lock c rest _ = waits c

  abbrev pub after_unlock : Call K V E → List (Item K V E) → Found V E → Next K V E
  after_unlock c rest found.UnlockKey = goes c rest
  after_unlock c rest _ = waits c

  -- the listener is asked, and heard; where it is off it hears nothing
  abbrev pub after_notice : Call K V E → K → Stored V → List (Item K V E) → Found V E → Next K V E
  after_notice c key old rest (found.OpenNotice None) = goes c rest
  after_notice c key old rest (found.OpenNotice (Some cause)) =
      asks c (ask.Listener key old.value cause) (plan.Heard ∷ rest)
  after_notice c key old rest _ = waits c

  -- a notice that runs is waited for
  abbrev pub after_hearing : Call K V E → List (Item K V E) → Found V E → Next K V E
  after_hearing c rest (found.NoticeEnded true) = goes c rest
  after_hearing c rest (found.NoticeEnded false) = waits c
  after_hearing c rest _ = waits c
