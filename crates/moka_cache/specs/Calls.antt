-- How far a compute by a closure to a future is, and what it may give.
use Rattle.std.specs.Prelude.{◌≡◌, Option, Result, Ok}
use Rattle.std.specs.Borrow.{Bor}
use Rattle.std.specs.Option.{option_copied}
use Rattle.moka_hist.specs.declared.entries.Entry.{Entry}
use Rattle.moka_hist.specs.declared.events.Op.{Op}
use Rattle.moka_hist.specs.declared.events.Op.TheVariants as op
use Rattle.moka_cache.specs.declared.calling.Calling.{Calling}
use Rattle.moka_cache.specs.declared.calling.Calling.TheVariants as calling

module _ {F G : Type 0} where
  -- The closure may be called with what was found, and the future that it gives may be polled.
  abbrev pub CanCall : {K V : Type 0} → (F → Option (Bor (Entry K V)) → Type 0)
      → (F → Option (Bor (Entry K V)) → G → Type 0) → (G → Type 0) → Calling F G
      → Option (Entry K V) → Type 0
  CanCall {K} {V} pre post can_poll (calling.Uncalled f) found =
      (lent : Option (Bor (Entry K V))) → option_copied lent ≡ found
      → pre f lent × ((future : G) → post f lent future → can_poll future)
  CanCall pre post can_poll _ found = ⊥

  -- the closure was called, and its future may be polled
  abbrev pub CanGoOn : (G → Type 0) → Calling F G → Type 0
  CanGoOn can_poll (calling.Going future) = can_poll future
  CanGoOn can_poll _ = ⊥

module _ {K V F G X : Type 0} (post : F → Option (Bor (Entry K V)) → G → Type 0)
    (gives : G → X → Type 0) where
  -- It may give this: its future may, or one that its closure may give for something found.
  abbrev pub CallsTo : Calling F G → X → Type 0
  CallsTo (calling.Uncalled f) output =
      (found : Option (Bor (Entry K V))) × ((future : G) × post f found future × gives future output)
  CallsTo (calling.Going future) output = gives future output
  CallsTo calling.Over output = ⊥

  -- It was called with this: its future gives nothing but what one may that such a closure gave for
  -- what was found.
  abbrev pub WasCalled : Calling F G → Option (Entry K V) → Type 0
  WasCalled (calling.Going future) found =
      (f : F) × ((lent : Option (Bor (Entry K V))) × ((first : G)
      × (option_copied lent ≡ found) × post f lent first
      × ((output : X) → gives future output → gives first output)))
  WasCalled _ found = ⊥

-- the result of a compute is to store such a value
abbrev pub PutsSuch : {V E : Type 0} → (V → Type 0) → Result (Op V) E → Type 0
PutsSuch such (Ok (op.Put value)) = such value
PutsSuch such _ = ⊥
