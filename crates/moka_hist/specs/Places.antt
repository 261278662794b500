-- What a user is promised of every state of a run.
use Rattle.std.specs.Prelude.{◌≡◌, ℕ, ◌≤◌, ◌<◌, Bool, true, List, [], ◌∷◌, map, Some, IsSome, Contains}
use Rattle.moka_hist.specs.Finite.{load_eq, times}
use Rattle.moka_hist.specs.State.{Call, State}
use Rattle.moka_hist.specs.Plan.{Item, held_by}
use Rattle.moka_hist.specs.Plan as plan
use Rattle.moka_hist.specs.Notices.{NoticesAreSettled}
use Rattle.moka_hist.specs.Visits.{number_of}
use Rattle.moka_hist.specs.Conditions.{HoldsWrite}
use Rattle.moka_hist.specs.declared.loads.Load.{Load}
use Rattle.moka_hist.specs.declared.loads.Kind.TheVariants as kind
use Rattle.moka_hist.specs.declared.writes.Write.{Write}
use Rattle.moka_hist.specs.declared.writes.Place.{Place}
use Rattle.moka_hist.specs.declared.writes.Place.TheVariants as place

module _ {K V E : Type 0} where
  -- the live call holds the write of this number
  pub record Holds (s : State K V E) (n : ℕ) (number : ℕ) : Type 0 where
    pub call : Call K V E
    pub live : s.calls n ≡ Some call
    pub write : Write
    pub held : held_by call.plan ≡ Some write
    pub named : number_of write ≡ number

  -- the write of this number stands there
  abbrev pub StandsAt : State K V E → Place → ℕ → Type 0
  StandsAt s place.Held number = (n : ℕ) × Holds s n number
  StandsAt s place.Owed number = 0 < times number (map (λ o. number_of o.write) s.world.desk.owed)
  StandsAt s place.Logged number = 0 < times number (map number_of s.world.desk.log)
  StandsAt s place.Applied number = 0 < times number (map number_of s.world.desk.applied)

  -- the committed write of this number stands in exactly one place, and there once
  pub record StandsOnce (s : State K V E) (number : ℕ) : Type 0 where
    pub place : Place
    pub stands : StandsAt s place number
    pub only : (other : Place) → StandsAt s other number → other ≡ place
    pub one_holder : (n m : ℕ) → Holds s n number → Holds s m number → n ≡ m
    pub once_owed : times number (map (λ o. number_of o.write) s.world.desk.owed) ≤ 1
    pub once_logged : times number (map number_of s.world.desk.log) ≤ 1
    pub once_applied : times number (map number_of s.world.desk.applied) ≤ 1

  -- the plan waits for the answer to an ask of the load: these two items alone do
  abbrev pub AsksFor : List (Item K V E) → Load K → Type 0
  AsksFor (plan.Told asked ∷ []) load = load ≡ asked
  AsksFor (plan.Told_op compute found ∷ []) load =
      load ≡ record { key = compute.key; kind = kind.Compute }
  AsksFor _ load = ⊥

  -- the live call has an open initializer of the load, or is a compute whose ask is open
  pub record Initializes (s : State K V E) (n : ℕ) (load : Load K) : Type 0 where
    pub call : Call K V E
    pub live : s.calls n ≡ Some call
    pub asked : AsksFor call.plan load
    pub opened : IsSome (s.world.desk.asks n)

  -- the desk knows each write that a live call holds
  abbrev pub HeldAreKnown : State K V E → Type 0
  HeldAreKnown s =
      (n : ℕ) (c : Call K V E) (write : Write) → s.calls n ≡ Some c → held_by c.plan ≡ Some write →
      HoldsWrite s.world.desk n write

  -- What holds in every state of a run: no number commits twice, each committed write stands in
  -- exactly one place, no other write stands anywhere, each record that was replaced or taken out
  -- under a listener has its notice, and no key and kind has two open initializers.
  pub record IsLawful (eq : K → K → Bool) (s : State K V E) : Type 0 where
    pub commits_once : (number : ℕ) → times number s.world.table.committed ≤ 1
    pub one_place : (number : ℕ) → Contains s.world.table.committed number → StandsOnce s number
    pub committed : (number : ℕ) (place : Place) → StandsAt s place number →
        Contains s.world.table.committed number
    pub notices : NoticesAreSettled s
    pub one_initializer : (n m : ℕ) (a b : Load K) → Initializes s n a → Initializes s m b →
        load_eq eq a b ≡ true → n ≡ m
