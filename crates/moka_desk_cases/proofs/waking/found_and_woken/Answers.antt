use Rattle.std.proofs.Common.{◌≡◌, ◌==◌, ℕ, Bool, true, false, None, IsNone, is_some, nat_eq, if◌then◌else◌, ap, subst}
use Rattle.std.specs.Option.{option_map_or}
use Rattle.std.specs.declared.cmp.PartialEq as PartialEq
use Rattle.std.specs.declared.hash.Hash as Hash
use Rattle.std.specs.declared.hash.Hasher as Hasher
use Rattle.std.specs.declared.hash.BuildHasher as BuildHasher
use Rattle.moka_hist.specs.State.{DeskPart}
use Rattle.moka_hist.specs.Telling.{told}
use Rattle.moka_hist.specs.Visits.{is_unlocked_for, locked_by}
use Rattle.moka_hist.specs.declared.events.Told.TheVariants as answer
use Rattle.moka_desk.specs.StandsFor.{StandsFor}
use Rattle.moka_desk.specs.declared.state.Desk.{Desk}
use Rattle.moka_desk_cases.proofs.waking.found_and_woken.Goals as goal

-- no lock is held under the number 2, whether the notice was told its end or not
not_locked : {S H : Type 0} {same : PartialEq.Ghosts ℕ} {hash : Hash.Ghosts ℕ} {build : BuildHasher.Ghosts S H} {hasher : Hasher.Ghosts H}
    (desk : Desk ℕ ℕ ℕ S H same hash build hasher) (w : DeskPart ℕ ℕ ℕ) → IsNone (w.locked 2) → IsNone (w.kept 2) → (b : Bool) →
    StandsFor nat_eq desk (if b then told w 1 answer.Done else w) → (v : DeskPart ℕ ℕ ℕ) × StandsFor nat_eq desk v × (IsNone (v.locked 2) × IsNone (v.kept 2))
not_locked desk w none unkept true stands = (told w 1 answer.Done, stands, (none, unkept))
not_locked desk w none unkept false stands = (w, stands, (none, unkept))

pub lock_key-requires : goal.lock_key-requires
lock_key-requires c = record { free = (c.requires.0, c.requires.1, (c.requires.3, c.requires.4)) }

pub lock_key-requires-2 : goal.lock_key-requires-2
lock_key-requires-2 c =
    let w = c.requires.0 in
    let other : is_unlocked_for w 2 5 ≡ false = ap (λ o. option_map_or (λ h. h == 2) o true) c.requires.2 in
    let waits = subst (λ b. StandsFor nat_eq c.lock_key.new.self (locked_by nat_eq w 2 5 b)) other
    (c.in_ok-kept.ensures.makes w c.requires.1 (c.requires.3, c.requires.4)) in
    record { free = not_locked c.tell.new.self w c.requires.3 c.requires.4 (is_some c.tell.result) (c.tell.ensures.makes w waits) }
