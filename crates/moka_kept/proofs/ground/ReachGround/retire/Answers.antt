-- The visit decides, and keeps the world sound.
use Rattle.std.proofs.Common.{ℕ, Ok, refl}
use Rattle.moka_hist.specs.declared.accesses.Want.TheVariants as want
use Rattle.moka_hist.specs.declared.visits.Visit.TheVariants as visit
use Rattle.moka_kept.proofs.Reached.{gives_all, none_then}
use Rattle.moka_kept.proofs.ground.ReachGround.retire.Goals as goal

pub retire-requires : goal.retire-requires
retire-requires g c = record { allows = (c.requires.fits.0, c.requires.fits.1.ground, c.requires.fits.2) }

pub returns-clause-gives : goal.returns-clause-gives
returns-clause-gives g c =
    gives_all g.K.PartialEq.eq {F = ℕ} c.visits_keep_sound.ensures.sound c.args.self.now.layers c.retire.new.self (want.Desk (visit.Retire c.args.ids.now)) (Ok c.retire.result)
    c.retire.ensures.serves c.retire.ensures.decides

pub returns-clause-keeps : goal.returns-clause-keeps
returns-clause-keeps g c =
    let fits = c.requires.fits in (
      c.retire.ensures.call,
      none_then g.K.PartialEq.eq {F = ℕ} (Ok c.retire.result) c.args.self.now.layers c.retire.new.self (fits.0, fits.1.ground) c.retire.ensures.decides tt tt,
      refl,
    )
