-- What the steps of a flow do to the worlds that its ground stands for.
use Rattle.std.specs.Prelude.{◌≡◌, ◌⊎◌, ◌<◌, ℕ, Bool, List, Some}
use Rattle.moka_hist.specs.Bound.{as_told}
use Rattle.moka_hist.specs.Next.{Next}
use Rattle.moka_hist.specs.State.{World}
use Rattle.moka_hist.specs.Step.{Access, MovesOn, Polled, IsSafe, May, next_of}
use Rattle.moka_hist.specs.declared.accesses.Got.{Got}
use Rattle.moka_bound.specs.Ahead.{ahead}
use Rattle.moka_init.specs.FlowPlan.{call_of}
use Rattle.moka_init.specs.Forms.{HasForm}
use Rattle.moka_init.specs.Grounds.{Account, Gives, TakesCopies, access_at, work_for}
use Rattle.moka_init.specs.Telling.{Made, TellsSteps}
use Rattle.moka_init.specs.declared.flow.Flow.{Flow}

-- the worlds that a ground stands for
abbrev pub Worlds : (K V E : Type 0) → Type 1
Worlds K V E = World K V E → Type 0

module _ {K V E : Type 0} where
  -- The call moves by one step: its access gave this, from which it follows how the call goes on.
  -- Each of these worlds that has what the step needs gave it so.
  abbrev pub MovesThere : (K → K → Bool) → Worlds K V E → Flow K V E → Next K V E → Worlds K V E → Type 0
  MovesThere eq stood flow next stands =
      (given : Got K V E) × HasForm (access_at flow) given
      × (next ≡ next_of flow.call (call_of flow) given)
      × Gives eq flow.call stood (access_at flow) given stands

  -- it moves up to the first turn that isn't Going, in each of these worlds that has what its steps
  -- need
  abbrev pub PolledThere : (K → K → Bool) → Worlds K V E → Flow K V E → Next K V E → Worlds K V E → Type 0
  PolledThere eq stood flow next stands =
      (w : World K V E) → stood w → IsSafe eq flow.call (call_of flow) w
      → (new : World K V E) × Polled eq flow.call (call_of flow) w next new × stands new

  -- it moves by so many steps, each of which leaves it going
  abbrev pub GoesThere : (K → K → Bool) → ℕ → Worlds K V E → Flow K V E → Flow K V E → Worlds K V E → Type 0
  GoesThere eq steps stood flow on stands =
      (w : World K V E) → stood w → IsSafe eq flow.call (call_of flow) w
      → (new : World K V E) × MovesOn eq steps flow.call (call_of flow) w (call_of on) new
      × stands new

  -- memory may be wanting for the flow's next access in the world: for its copies, or on the ground
  abbrev pub MayLack : (World K V E → Access K V E → Type 0) → World K V E → Flow K V E → Type 0
  MayLack needs w flow = TakesCopies (access_at flow) ⊎ needs w (access_at flow)

  -- it moves by so many steps, each of which leaves it going, up to one for which memory may be
  -- wanting
  abbrev pub StopsThere : (K → K → Bool) → ℕ → Worlds K V E → Flow K V E → Flow K V E → Worlds K V E
      → (World K V E → Access K V E → Type 0) → Type 0
  StopsThere eq steps stood flow on stands needs =
      (w : World K V E) → stood w → IsSafe eq flow.call (call_of flow) w
      → (new : World K V E) × MovesOn eq steps flow.call (call_of flow) w (call_of on) new
      × stands new × MayLack needs new on

  -- so many steps were made, as it is told, each of which left the call going, and just these are
  -- told; and memory may be wanting for the next one
  abbrev pub Unended : (K → K → Bool) → ℕ → Worlds K V E → Account K V E → Flow K V E → Flow K V E
      → Worlds K V E → Account K V E
      → (World K V E → Access K V E → Type 0) → Type 0
  Unended eq told stood old flow on stands new needs =
      (steps : ℕ) × (told ≡ as_told steps) × StopsThere eq steps stood flow on stands needs
      × ((before : List (Made K V E)) → old.made ≡ Some before
      → TellsSteps steps flow.call (call_of flow) (call_of on) before new.made)

  -- the call may still make fewer steps, in each of these worlds that has what the step needed and
  -- whose log has room for a write at all
  abbrev pub Nears : Worlds K V E → Account K V E → Flow K V E → Account K V E → Flow K V E → Type 0
  Nears stood old flow new on =
      (w : World K V E) → stood w → May w (access_at flow) → 0 < w.desk.size
      → ahead (work_for new on) (call_of on) < ahead (work_for old flow) (call_of flow)
