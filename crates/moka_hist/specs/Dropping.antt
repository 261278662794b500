-- Dropping a call where it stands.
use Rattle.std.specs.Prelude.{ℕ, cond, ◌++◌, Option, Some, None}
use Rattle.std.specs.Option.{option_to_list, option_map}
use Rattle.moka_hist.specs.Finite.{put_at}
use Rattle.moka_hist.specs.State.{Call, DeskPart, State}
use Rattle.moka_hist.specs.Plan.{held_by}
use Rattle.moka_hist.specs.Visits.{is_running, key_under, number_of, locks_without, owners_without, settled_without, settled_with, readers_without}
use Rattle.moka_hist.specs.declared.writes.Owed.{Owed}
use Rattle.moka_hist.specs.declared.writes.Write.{Write}
use Rattle.moka_hist.specs.declared.visits.Settled.TheVariants as settled

module _ {K V E : Type 0} where
  -- the write's notice, which has its number, where that runs
  abbrev pub running_of : DeskPart K V E → Write → Option ℕ
  running_of w write = cond (is_running w (number_of write)) (Some (number_of write)) None

  -- a write as it is owed once its call has left: with its notice, where that runs
  abbrev pub owed_with : DeskPart K V E → Write → Owed
  owed_with w write = record { write = write; notice = running_of w write }

  -- The call leaves the desk: its ask is closed; those that wait for it read that it was dropped;
  -- it waits for nobody; its lock is kept by its own notice where that still runs, and else it is
  -- free; and a write that it held is owed from then on. A listener that was asked is still asked.
  abbrev pub left : DeskPart K V E → ℕ → Option Write → DeskPart K V E
  left w call held = record w {
    holding = put_at w.holding call None;
    owed = w.owed ++ option_to_list (option_map (owed_with w) held);
    owners = owners_without w call;
    owning = put_at w.owning call None;
    joined = put_at w.joined call None;
    readers = readers_without w call;
    settled = settled_with w call settled.Aborted (settled_without w call);
    locks = cond (is_running w call) w.locks (locks_without w call);
    locked = put_at w.locked call None;
    kept = put_at w.kept call (cond (is_running w call) (key_under w call) None);
    asks = put_at w.asks call None;
    told = put_at w.told call None;
  }

  abbrev pub dropped : State K V E → ℕ → Call K V E → State K V E
  dropped s n c = record {
    world = record s.world { desk = left s.world.desk n (held_by c.plan) };
    calls = put_at s.calls n None;
  }
