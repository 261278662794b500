-- What the kept notices stand for.
use Rattle.std.specs.Prelude.{◌≡◌, ◌<◌, ℕ, Bool, true, false, cond, List, Option, Some, None, is_some, nat_eq, vec_capacity, vec_len}
use Rattle.std.specs.Option.{option_map, option_map_or}
use Rattle.std.specs.HashMap.{get, hash_map_len, spare}
use Rattle.moka_hist.specs.State.{DeskPart}
use Rattle.moka_hist.specs.Visits.{runs}
use Rattle.moka_hist.specs.declared.notices.Notice.{Notice}
use Rattle.moka_hist.specs.declared.notices.NoticeState.TheVariants as state
use Rattle.moka_desk.specs.declared.notices.Heard.{Heard}
use Rattle.moka_desk.specs.declared.notices.Notices.{Notices}

-- What the desk's part says of notices.
pub record NoticePart (K V : Type 0) : Type 0 where
  pub notices : ℕ → Option (Notice K V)
  pub opened : List ℕ
  pub off : Bool

-- that part of it
abbrev pub notice_part : {K V E : Type 0} → DeskPart K V E → NoticePart K V
notice_part w = record { notices = w.notices; opened = w.opened; off = w.off }

-- what is kept, where something stands and it is
abbrev pub kept_in : {A : Type 0} → Option (Option A) → Option A
kept_in (Some kept) = kept
kept_in None = None

module _ {K V : Type 0} where
  -- the running notice of this number by which the listener hears this
  abbrev pub running : ℕ → Heard K V → Notice K V
  running number heard =
      record {
        number = number;
        key = heard.key;
        value = heard.value;
        cause = heard.cause;
        state = state.Running;
      }

  -- the running notice of this number by what is kept of it, if something is
  abbrev pub heard_in : ℕ → Option (Option (Heard K V)) → Option (Notice K V)
  heard_in number kept = option_map (running number) (kept_in kept)

  -- the notice runs, if there is one
  abbrev pub runs_in : Option (Notice K V) → Bool
  runs_in o = option_map_or (λ x. runs x.state) o false

  -- the notice, where it runs, and where it doesn't
  abbrev pub if_running : Option (Notice K V) → Option (Notice K V)
  if_running o = cond (option_map_or (λ x. runs x.state) o false) o None

  abbrev pub if_past : Option (Notice K V) → Option (Notice K V)
  if_past o = cond (option_map_or (λ x. runs x.state) o false) None o

-- the first of two, where there is one, and else the second
abbrev pub either : {A : Type 0} → Option A → Option A → Option A
either (Some x) other = Some x
either None other = other

-- The notices that run stand in one map. With a history it is kept there what the listener hears by
-- them, the others stand in the other map, and the numbers of all are listed.
pub record NoticesAre {K V : Type 0} (notices : Notices K V) (p : NoticePart K V) : Type 0 where
  pub running : (n : ℕ) → is_some (get nat_eq notices.running n) ≡ runs_in (p.notices n)
  pub heard : notices.history ≡ true → (n : ℕ) → heard_in n (get nat_eq notices.running n) ≡
      if_running (p.notices n)
  pub past : notices.history ≡ true → (n : ℕ) → get nat_eq notices.past n ≡ if_past (p.notices n)
  pub opened : notices.history ≡ true → notices.opened.items ≡ p.opened
  pub off : notices.off ≡ p.off

-- the notices change as the part does, whatever they stand for
abbrev pub NoticesBecome : {K V : Type 0} → Notices K V → (NoticePart K V → NoticePart K V) →
    Notices K V → Type 0
NoticesBecome {K} {V} old change new =
    (p : NoticePart K V) → NoticesAre old p → NoticesAre new (change p)

-- the history has room for one more notice
abbrev pub HasRoom : {K V : Type 0} → Notices K V → Type 0
HasRoom notices =
    (vec_len notices.opened < vec_capacity notices.opened)
    × (hash_map_len notices.running < spare notices.past)
