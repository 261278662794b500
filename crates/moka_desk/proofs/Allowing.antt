-- States that a desk stands for beside another.
use Rattle.std.proofs.Common.{◌≡◌, ℕ, ◌==◌, Bool, true, false, cond, None, IsNone, is_some, nat_eq, refl, sym, ap, ◌∙◌}
use Rattle.std.specs.HashMap.{get}
use Rattle.std.specs.declared.cmp.PartialEq as PartialEq
use Rattle.std.specs.declared.hash.Hash as Hash
use Rattle.std.specs.declared.hash.Hasher as Hasher
use Rattle.std.specs.declared.hash.BuildHasher as BuildHasher
use Rattle.std.proofs.lemmas.Bool.{eqb-false, eqb-true}
use Rattle.std.specs.Option.{option_map_or}
use Rattle.moka_hist.specs.Conditions.{IsUnused}
use Rattle.moka_hist.specs.Finite.{put_at}
use Rattle.moka_hist.specs.State.{DeskPart}
use Rattle.moka_hist.specs.Visits.{is_running, runs}
use Rattle.moka_hist.proofs.Owners.{is_none_of}
use Rattle.moka_desk.specs.Past.{AllowsAlike}
use Rattle.moka_desk.specs.StandsFor.{StandsFor}
use Rattle.moka_desk.specs.Writes.{ForgetsIn, write_part}
use Rattle.moka_desk.specs.declared.state.Desk.{Desk}
use Rattle.moka_desk.proofs.Noticed.{unopened_heard, unopened_past, unopened_runs}
use Rattle.moka_desk.proofs.Sounding.{sound_apart, sound_holder, sound_once}

module _ {K V E S H : Type 0} {same : PartialEq.Ghosts K} {hash : Hash.Ghosts K} {build : BuildHasher.Ghosts S H} {hasher : Hasher.Ghosts H} (eq : K → K → Bool) (desk : Desk K V E S H same hash build hasher) (w : DeskPart K V E) (h : StandsFor eq desk w) where
  -- the state itself
  pub alike_same : (P : DeskPart K V E → Type 0) → P w → AllowsAlike eq desk w P
  alike_same P holds = record { applied = w.applied; notices = w.notices; stands = h; sound = λ s. s; holds = holds }

  -- one whose applied writes have none of the number
  pub alike_unused : (call : ℕ) → IsNone (w.holding call) → ForgetsIn desk.writes (write_part w) call → AllowsAlike eq desk w (λ v. IsNone (v.holding call) × IsUnused v call)
  alike_unused call none f = record {
    applied = f.others;
    notices = w.notices;
    stands = record {
      rules = h.rules;
      clock = h.clock;
      valid_after = h.valid_after;
      predicates = h.predicates;
      accessed = h.accessed;
      turn = h.turn;
      published = h.published;
      last = h.last;
      writes = f.stand;
      loads = h.loads;
      locks = h.locks;
      notices = h.notices;
      asks = h.asks;
      listed = h.listed;
    };
    sound = λ s. record {
      once = sound_once desk.writes (record (write_part w) { applied = f.others }) f.stand;
      held_apart = sound_apart desk.writes (record (write_part w) { applied = f.others }) f.stand;
      one_holder = sound_holder desk.writes (record (write_part w) { applied = f.others }) f.stand;
      one_owner = s.one_owner;
      owns = s.owns;
      owned = s.owned;
      one_locker = s.one_locker;
      locks = s.locks;
      locked = s.locked;
      keeps = s.keeps;
      apart = s.apart;
      one_id = s.one_id;
    };
    holds = (none, record { stands = f.unused.stands; held = f.unused.held });
  }

  -- one where no notice of the number was opened
  pub alike_unopened : (call : ℕ) → IsNone (get nat_eq desk.notices.running call) → (desk.notices.history ≡ true → IsNone (get nat_eq desk.notices.past call)) →
      AllowsAlike eq desk w (λ v. IsNone (v.notices call))
  alike_unopened call quiet over = record {
    applied = w.applied;
    notices = put_at w.notices call None;
    stands = record {
      rules = h.rules;
      clock = h.clock;
      valid_after = h.valid_after;
      predicates = h.predicates;
      accessed = h.accessed;
      turn = h.turn;
      published = h.published;
      last = h.last;
      writes = h.writes;
      loads = h.loads;
      locks = h.locks;
      notices = record {
        running = unopened_runs (get nat_eq desk.notices.running) w.notices call h.notices.running (is_none_of _ quiet);
        heard = λ whole. unopened_heard (get nat_eq desk.notices.running) w.notices call (h.notices.heard whole) (is_none_of _ quiet);
        past = λ whole. unopened_past (get nat_eq desk.notices.past) w.notices (h.notices.past whole) call (is_none_of _ (over whole));
        opened = h.notices.opened;
        off = h.notices.off;
      };
      asks = h.asks;
      listed = h.listed;
    };
    sound = λ s. record {
      once = s.once;
      held_apart = s.held_apart;
      one_holder = s.one_holder;
      one_owner = s.one_owner;
      owns = s.owns;
      owned = s.owned;
      one_locker = s.one_locker;
      locks = s.locks;
      locked = s.locked;
      keeps = λ n is. still n (call == n) refl (s.keeps n is);
      apart = s.apart;
      one_id = s.one_id;
    };
    holds = by (call == call) refl;
  } where
    by : (b : Bool) → (call == call) ≡ b → is_some (cond b None (w.notices call)) ≡ false
    by true e = refl
    by false e = absurd (eqb-false call call e refl)

    -- a notice that runs is another's
    still : (n : ℕ) (b : Bool) → (call == n) ≡ b → is_running w n ≡ true → option_map_or (λ x. runs x.state) (cond b None (w.notices n)) false ≡ true
    still n true e is =
        let no : false ≡ true =
        sym quiet ∙ ap (λ m. is_some (get nat_eq desk.notices.running m)) (eqb-true call n e)
        ∙ h.notices.running n ∙ is in
        cc
    still n false e is = is

  -- what follows from it
  pub alike_also : (P Q : DeskPart K V E → Type 0) → ((v : DeskPart K V E) → P v → Q v) → AllowsAlike eq desk w P → AllowsAlike eq desk w Q
  alike_also P Q also a = record { applied = a.applied; notices = a.notices; stands = a.stands; sound = a.sound; holds = also (record w { applied = a.applied; notices = a.notices }) a.holds }
