-- The desk of every reached state is sound.
use Rattle.std.proofs.Common.{◌≡◌, ℕ, Bool, Option, Some, None, refl, sym, subst}
use Rattle.std.specs.Cmp.{IsEquivalence}
use Rattle.moka_hist.specs.State.{State, World, Call}
use Rattle.moka_hist.specs.Plan.{held_by}
use Rattle.moka_hist.specs.Conditions.{MayLeave}
use Rattle.moka_hist.specs.SoundDesk.{SoundDesk}
use Rattle.moka_hist.specs.Step.{Access, On_table, On_desk, Gets, May, access_of}
use Rattle.moka_hist.specs.declared.accesses.Got.{Got}
use Rattle.moka_hist.specs.declared.accesses.Got.TheVariants as got
use Rattle.moka_hist.specs.declared.tables.TableTurn.TheVariants as table
use Rattle.moka_hist.specs.declared.writes.Write.{Write}
use Rattle.moka_laws.specs.Sound.{ReachedIsSound}
use Rattle.moka_laws.proofs.Kept.{IsInvariant, in_reached}
use Rattle.moka_laws.proofs.Holding.{known_held, none_left}
use Rattle.moka_laws.proofs.Safe.{IsWell, well_kept, may_step}
use Rattle.moka_laws.proofs.Soundness.{fresh_sound, visit_sound, left_sound, told_call_sound, heard_sound, entered_sound, clock_sound}

module _ {K V E : Type 0} (eq : K → K → Bool) where
  -- What the calls know of the desk, and that it is sound.
  pub record IsSound (s : State K V E) : Type 0 where
    pub well : IsWell eq s
    pub sound : SoundDesk eq s.world.desk

module _ {K V E : Type 0} (eq : K → K → Bool) (laws : IsEquivalence eq) where
  -- an access that the world allows leaves the desk sound
  access_sound : (n : ℕ) (w new : World K V E) (a : Access K V E) (g : Got K V E) → Gets eq n w a g new → May w a → SoundDesk eq w.desk → SoundDesk eq new.desk
  access_sound n w new (On_table o) (got.Table table.Going) gets may h = subst (λ (v : World K V E). SoundDesk eq v.desk) (sym gets.1) h
  access_sound n w new (On_table o) (got.Table (table.Decided answer)) gets may h = subst (λ (v : World K V E). SoundDesk eq v.desk) (sym gets.2) h
  access_sound n w new (On_desk made) (got.Desk f) gets may h =
      subst (λ (v : World K V E). SoundDesk eq v.desk) (sym gets.1) (visit_sound eq laws w.desk made h may)
  access_sound n w new (On_table o) (got.Desk f) gets may h = absurd gets
  access_sound n w new (On_desk made) (got.Table turn) gets may h = absurd gets

  -- a live call leaves no write but one that it holds
  may_leave : (s : State K V E) (n : ℕ) (c : Call K V E) → IsWell eq s → s.calls n ≡ Some c → (o : Option Write) → held_by c.plan ≡ o →
      MayLeave s.world.desk n o
  may_leave s n c well live None e = none_left eq s well.holding n c live e
  may_leave s n c well live (Some write) e = known_held eq s well.holding n c write live e

  pub sound_kept : IsInvariant {K = K} {V = V} {E = E} eq (IsSound eq)
  sound_kept = record {
    fresh = λ division divides rules size built has_log. record { well = (well_kept eq).fresh division divides rules size built has_log; sound = fresh_sound eq rules size built };
    at = λ s moment i. record { well = (well_kept eq).at s moment i.well; sound = clock_sound eq s.world.desk moment i.sound };
    start = λ s start i. record { well = (well_kept eq).start s start i.well; sound = entered_sound eq s.world.desk _ i.sound };
    step = λ s t n turn i step. record {
      well = (well_kept eq).step s t n turn i.well step;
      sound = subst (λ (v : State K V E). SoundDesk eq v.world.desk) (sym step.after)
          (access_sound n s.world step.world (access_of n step.call) step.given step.gets (may_step eq s i.well n step.call step.live) i.sound);
    };
    tell = λ s n given asked i. record { well = (well_kept eq).tell s n given asked i.well; sound = told_call_sound eq s.world.desk n given i.sound };
    hear = λ s n off running i.
        record { well = (well_kept eq).hear s n off running i.well; sound = heard_sound eq s.world.desk n off i.sound };
    drop = λ s n c live between i. record {
      well = (well_kept eq).drop s n c live between i.well;
      sound = left_sound eq s.world.desk n (held_by c.plan) i.sound (may_leave s n c i.well live (held_by c.plan) refl);
    };
  }

  pub reached_sound : ReachedIsSound K V E eq
  reached_sound s h = (in_reached eq (IsSound eq) sound_kept s h).sound
