-- Each access decides, and keeps the world sound.
use Rattle.std.proofs.Common.{refl}
use Rattle.std.proofs.lemmas.Result.{on_err_weaker}
use Rattle.moka_kept.proofs.Reached.{gives_all, none_then, stays_reach}
use Rattle.moka_kept.proofs.ground.ReachGround.access.Goals as goal

pub access_waking-requires : goal.access_waking-requires
access_waking-requires g c = record { allows = (c.requires.fits.0, c.requires.fits.1.ground, c.requires.fits.2) }

pub returns-clause-gives : goal.returns-clause-gives
returns-clause-gives g c =
    gives_all g.K.PartialEq.eq c.visits_keep_sound.ensures.sound c.args.self.now.layers c.access_waking.new.self c.args.want c.access_waking.result
    c.access_waking.ensures.serves c.access_waking.ensures.decides

pub returns-clause-keeps : goal.returns-clause-keeps
returns-clause-keeps g c =
    let fits = c.requires.fits in (
      c.access_waking.ensures.call,
      none_then g.K.PartialEq.eq c.access_waking.result c.args.self.now.layers c.access_waking.new.self (fits.0, fits.1.ground) c.access_waking.ensures.decides c.access_waking.ensures.err
          c.access_waking.ensures.err_account,
      refl,
    )

pub returns-clause-err_stands : goal.returns-clause-err_stands
returns-clause-err_stands g c =
    on_err_weaker c.access_waking.result (λ stays w reach. stays_reach g.K.PartialEq.eq c.args.self.now.layers c.access_waking.new.self stays w reach) c.access_waking.ensures.err

pub returns-clause-err_needs : goal.returns-clause-err_needs
returns-clause-err_needs g c =
    on_err_weaker c.access_waking.result (λ needs access is w reach may. needs access is w reach.ground may) c.access_waking.ensures.err_needs
