-- What becomes of the cache and of the lists where requests come, leave and are answered.
use Rattle.std.specs.Prelude.{◌≡◌, ◌⊎◌, ℕ, ◌+◌, ◌<◌, Bool, true, List, [], ◌∷◌, drop, Option, Some, None, IsSome, nat_eq}
use Rattle.std.specs.Option.{option_map, option_and_then}
use Rattle.std.specs.declared.result.Result.{Result}
use Rattle.moka_hist.specs.Finite.{put_at}
use Rattle.moka_small.specs.declared.outcome.Outcome.{Outcome}
use Rattle.moka_small.specs.declared.outcome.Outcome.TheVariants as outcome
use Rattle.moka_small.specs.Small.{End, Waits, Was_told, with_stand}
use Rattle.moka_small.specs.Polled.{gone_waiter, owns, polled}
use Rattle.moka_collapsing.specs.declared.answer.Answer.TheVariants as answer
use Rattle.moka_collapsing.specs.declared.slot.Place.{Place}
use Rattle.moka_collapsing.specs.declared.slot.Slot.TheVariants as slot
use Rattle.moka_collapsing.specs.Upstream.{Upstream, Waiter, answer_of, asked, ended, left}
use Rattle.moka_collapsing.specs.Waiting.{Waiting, freed, with_waiter, without_waiter}
use Rattle.moka_collapsing.specs.Standing.{Cache, IsFree, Serves, begun, load_of}
use Rattle.moka_collapsing.specs.Settling.{HasAnswer, IsAnswered, end_of}

-- no call has a number that was not given out
abbrev pub AreNumbered : Cache → Type 0
AreNumbered m = (n : ℕ) → m.last < n → m.stands n ≡ None

-- What the call of a request comes to, and what the cache serves then: the value of a stored key;
-- the call asks, and its list is begun; or it waits, and joins a list.
pub record Comes (m m1 : Cache) (lists : ℕ → Option Waiting) (u : Upstream) (key : ℕ)
    (place : Place) (out : Outcome ℕ ℕ) : Type 0 where
  pub loaded : (value : ℕ) (fresh : Bool) → out ≡ outcome.Loaded value fresh →
      (record { slot = slot.Answered (answer.Value value); fetch = None }
      ≡ (asked u key place).0) × Serves m1 lists (asked u key place).1
  pub asks : out ≡ outcome.Asks → (lists1 : ℕ → Option Waiting) →
      ((k : ℕ) → lists1 k ≡ put_at lists key
      (Some (record { asking = m.last + 1; requests = (m.last + 1, place) ∷ [] })) k) →
      (record { slot = slot.Waits key (m.last + 1); fetch = Some key }
      ≡ (asked u key place).0) × Serves m1 lists1 (asked u key place).1
  pub waits : out ≡ outcome.Waits → (lists1 : ℕ → Option Waiting) →
      ((k : ℕ) → lists1 k
      ≡ put_at lists key (option_map (with_waiter (m.last + 1) place) (lists key)) k) →
      (record { slot = slot.Waits key (m.last + 1); fetch = None }
      ≡ (asked u key place).0) × Serves m1 lists1 (asked u key place).1
  pub others : (out ≡ outcome.Asks → ⊥) → (out ≡ outcome.Waits → ⊥) →
      ((value : ℕ) (fresh : Bool) → out ≡ outcome.Loaded value fresh → ⊥) → ⊥

abbrev pub RequestsCome : Type 0
RequestsCome =
    (m : Cache) (lists : ℕ → Option Waiting) (u : Upstream) (key : ℕ) (place : Place) →
    Serves m lists u → AreNumbered m →
    Comes m (begun m key).1 lists u key place (begun m key).0

-- Once a request has left its list, a call is free that may be dropped, or none is: the cache serves
-- the lists then.
pub record IsLeft (m : Cache) (lists1 : ℕ → Option Waiting) (v : Upstream) (free : Option ℕ)
    : Type 0 where
  pub stays : free ≡ None → Serves m lists1 v
  pub drops : (call : ℕ) → free ≡ Some call →
      IsFree m call × Serves (gone_waiter m call) lists1 v

abbrev pub RequestsLeave : Type 0
RequestsLeave =
    (m : Cache) (lists lists1 : ℕ → Option Waiting) (u : Upstream) (key number : ℕ) →
    Serves m lists u →
    ((k : ℕ) → lists1 k
    ≡ put_at lists key (option_and_then (without_waiter number) (lists key)) k) →
    IsLeft m lists1 (left u (slot.Waits key number))
    (option_and_then (λ w. freed w number) (lists key))

-- the call that asks for a list was told what was brought
abbrev pub told : Cache → ℕ → ℕ → Result ℕ ℕ → Cache
told m key asking brought =
    with_stand m asking (Some (Was_told (load_of key) (end_of brought)))

-- how owners ended is kept only once they are gone
abbrev pub AreGone : Cache → Type 0
AreGone m = (n : ℕ) (end : End ℕ ℕ) → m.ends n ≡ Some end → m.stands n ≡ None

-- how the owner of a waiting call's load ended is kept, or it has not ended
abbrev pub IsServedBy : Cache → ℕ → ℕ → Type 0
IsServedBy m asking key =
    (owns nat_eq (m.stands asking) (load_of key) ≡ true) ⊎ IsSome (m.ends asking)

-- The calls of a list answer one after the other: first the one that asks, once it is told; then each
-- that waits for it. The cache serves the other lists when all have answered.
pub record ListsAreAnswered : Type 0 where
  pub asker : (m : Cache) (lists : ℕ → Option Waiting) (u : Upstream) (key : ℕ) (w : Waiting)
      (brought : Result ℕ ℕ) → Serves m lists u → lists key ≡ Some w → AreGone m →
      HasAnswer w.asking (answer_of brought) (told m key w.asking brought)
      × IsAnswered m (polled nat_eq (told m key w.asking brought) w.asking
      (Was_told (load_of key) (end_of brought))).1
      key w.asking brought (drop 1 w.requests)
  pub waiter : (m0 m : Cache) (key asking : ℕ) (brought : Result ℕ ℕ) (first : Waiter)
      (rest : List Waiter) → IsAnswered m0 m key asking brought (first ∷ rest) →
      IsServedBy m asking key →
      HasAnswer first.0 (answer_of brought) m
      × IsAnswered m0 (polled nat_eq m first.0 (Waits asking (load_of key))).1
      key asking brought rest
  pub all : (m0 m : Cache) (lists lists1 : ℕ → Option Waiting) (u : Upstream) (key asking : ℕ)
      (brought : Result ℕ ℕ) → Serves m0 lists u →
      IsAnswered m0 m key asking brought [] →
      ((k : ℕ) → lists1 k ≡ put_at lists key None k) →
      Serves m lists1 (ended u key (answer_of brought))
