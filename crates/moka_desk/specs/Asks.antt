-- What the kept asks and told answers stand for.
use Rattle.std.specs.Prelude.{◌≡◌, ℕ, ◌==◌, Bool, cond, List, [], ◌∷◌, Option, is_some, nat_eq}
use Rattle.std.specs.HashMap.{HashMap, get}
use Rattle.std.specs.Option.{option_map, option_map_or}
use Rattle.moka_hist.specs.State.{DeskPart}
use Rattle.moka_hist.specs.declared.events.Told.{Told}
use Rattle.moka_hist.specs.declared.visits.Takes.{Takes}
use Rattle.moka_desk.specs.declared.asks.Asks.{Asks}
use Rattle.moka_desk.specs.declared.asks.OpenAsk.{OpenAsk}

-- What the desk's part says of asks.
pub record AskPart (V E : Type 0) : Type 0 where
  pub asks : ℕ → Option Takes
  pub told : ℕ → Option (Told V E)

-- that part of it
abbrev pub ask_part : {K V E : Type 0} → DeskPart K V E → AskPart V E
ask_part w = record { asks = w.asks; told = w.told }

-- The maps are those that are kept.
pub record AsksAre {V E : Type 0} (asks : Asks V E) (p : AskPart V E) : Type 0 where
  pub open_asks : (n : ℕ) → option_map (λ a. a.takes) (get nat_eq asks.open_asks n) ≡ p.asks n
  pub told : (n : ℕ) → option_map (λ a. a.told) (get nat_eq asks.told n) ≡ p.told n

-- the asks change as the part does, whatever they stand for
abbrev pub AsksBecome : {V E : Type 0} → Asks V E → (AskPart V E → AskPart V E) → Asks V E → Type 0
AsksBecome {V} {E} old change new = (p : AskPart V E) → AsksAre old p → AsksAre new (change p)

-- the ask of this number is open
abbrev pub is_open : {S : Type 0} → HashMap ℕ OpenAsk S → ℕ → Bool
is_open asks number = is_some (get nat_eq asks number)

-- the call, where it waits for the answer to its own ask
abbrev pub asker_at : {S : Type 0} → HashMap ℕ OpenAsk S → ℕ → List ℕ
asker_at asks number =
    option_map_or (λ a. cond a.place (number ∷ []) []) (get nat_eq asks number) []

-- who waits for the answer to the ask of this number, once the call waits for its own where it asks
abbrev pub asks_if : Bool → ℕ → ℕ → List ℕ → List ℕ
asks_if asks call n calls = cond (call == n) (cond asks (call ∷ []) []) calls
