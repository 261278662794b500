-- What a call takes of who is asked. A call takes no answer of a form that its relation has no row for.
use Rattle.std.specs.Prelude.{◌≡◌, Bool, false, List, [], ◌∷◌, Option, Some, None, IfSome, Result, Ok, Err}
use Rattle.moka_hist.specs.declared.entries.Entry.{Entry}
use Rattle.moka_hist.specs.declared.events.Op.{Op}
use Rattle.moka_hist.specs.declared.events.Op.TheVariants as op
use Rattle.moka_hist.specs.declared.events.Told.{Told}
use Rattle.moka_hist.specs.declared.events.Told.TheVariants as answer
use Rattle.moka_kept.specs.Taking.{Answered, Taken, Tested}
use Rattle.moka_kept.specs.declared.brought.Brought.{Brought}
use Rattle.moka_kept.specs.declared.brought.Brought.TheVariants as brought
use Rattle.moka_kept.specs.declared.stop.OwnAsk.{OwnAsk}
use Rattle.moka_kept.specs.declared.stop.OwnAsk.TheVariants as own
use Rattle.moka_kept.specs.declared.stop.Stop.{Stop}
use Rattle.moka_kept.specs.declared.stop.Stop.TheVariants as stop

module _ {V E : Type 0} where
  -- the answer is a value that is such
  abbrev pub TellsValue : (V → Type 0) → Told V E → Type 0
  TellsValue such (answer.Value value) = such value
  TellsValue such _ = ⊥

  -- the answer tells such an option: its value, or that there is none
  abbrev pub TellsOption : (Option V → Type 0) → Told V E → Type 0
  TellsOption such (answer.Value value) = such (Some value)
  TellsOption such answer.Nothing = such None
  TellsOption such _ = ⊥

  -- the answer tells such a result: its value, or its error
  abbrev pub TellsResult : (Result V E → Type 0) → Told V E → Type 0
  TellsResult such (answer.Value value) = such (Ok value)
  TellsResult such (answer.Err error) = such (Err error)
  TellsResult such _ = ⊥

  -- the answer tells such a result of a compute: what is to be done, or an error
  abbrev pub TellsDone : (Result (Op V) E → Type 0) → Told V E → Type 0
  TellsDone such (answer.Op done) = such (Ok done)
  TellsDone such (answer.Err error) = such (Err error)
  TellsDone such _ = ⊥

  -- the result of a compute is to store a value
  abbrev pub IsPut : Result (Op V) E → Type 0
  IsPut (Ok (op.Put value)) = Unit {0}
  IsPut _ = ⊥

  -- the answer tells the value that is to be stored by such a result
  abbrev pub TellsPut : (Result (Op V) E → Type 0) → Told V E → Type 0
  TellsPut such (answer.Value value) = such (Ok (op.Put value))
  TellsPut such _ = ⊥

  -- the answer to the own ask is such, or that of the replace test on a value
  abbrev pub Accords : (Told V E → Type 0) → (V → Bool → Type 0) → Taken V E → Type 0
  Accords such so (Answered told) = such told
  Accords such so (Tested value replaced) = so value replaced

  -- the answer to the own ask is such; that of the replace test may be any
  abbrev pub ToldSuch : (Told V E → Type 0) → Taken V E → Type 0
  ToldSuch such (Answered told) = such told
  ToldSuch such (Tested value replaced) = Unit {0}

-- what a look found, as a compute is started with it: the stored key, and neither flag
abbrev pub entry_of : {K V : Type 0} → Option (K × V) → Option (Entry K V)
entry_of None = None
entry_of (Some pair) =
    Some (record { key = Some pair.0; value = pair.1; fresh = false; replaced = false })

-- what a look found, if it found something, is so
abbrev pub FoundSo : {K V : Type 0} → (K → V → Type 0) → Option (Entry K V) → Type 0
FoundSo holds found = IfSome found (λ entry. IfSome entry.key (λ key. holds key entry.value))

module _ {K V Q : Type 0} where
  -- who is asked was begun where a compute asks, with what its look found, and else is as it was
  abbrev pub BegunFor : (Q → Option (Entry K V) → Q → Type 0) → OwnAsk K V → Q → Q → Type 0
  BegunFor begins (own.Compute found) old new = begins old (entry_of found) new
  BegunFor begins _ old new = new ≡ old

  -- the same by how a hold of the lock left the call
  abbrev pub BegunBy : {E : Type 0} → (Q → Option (Entry K V) → Q → Type 0) → Stop K V E → Q → Q
      → Type 0
  BegunBy begins (stop.Asks asks) old new = BegunFor begins asks old new
  BegunBy begins _ old new = new ≡ old

-- without a replace test nothing is replaced
abbrev pub Untested : {V : Type 0} → V → Bool → Type 0
Untested value replaced = replaced ≡ false

-- and who is asked stays as it was
abbrev pub AsksNothing : {Q V : Type 0} → Q → V → Bool → Q → Type 0
AsksNothing old value replaced new = (replaced ≡ false) × (new ≡ old)

-- Of a call whose next visit asks its replace test on this value, if it does: who is asked was
-- asked that once, and this is brought of it; or it is as it was, and nothing is.
abbrev pub IsAskedFor : {Q V E : Type 0} → (Q → V → Bool → Q → Type 0) → Option V → Q → Brought V E
    → Q → Type 0
IsAskedFor asks (Some value) old (brought.Tested replaced) new = asks old value replaced new
IsAskedFor asks (Some value) old (brought.Told told) new = ⊥
IsAskedFor asks (Some value) old brought.Nothing new = ⊥
IsAskedFor asks None old (brought.Tested replaced) new = ⊥
IsAskedFor asks None old (brought.Told told) new = ⊥
IsAskedFor asks None old brought.Nothing new = new ≡ old

module _ {F V : Type 0} (calls : F → V → Bool → F → Type 0) where
  -- calls of a test, each on a value and with its answer, led it from one state to another
  abbrev pub CallsTo : F → List (V × Bool) → F → Type 0
  CallsTo first [] last = last ≡ first
  CallsTo first (made ∷ more) last =
      (mid : F) × calls first made.0 made.1 mid × CallsTo mid more last

  -- it may be called, after some calls of it or none, on each value that is so of some key
  abbrev pub CanTest : {K : Type 0} → (K → V → Type 0) → (F → V → Type 0) → F → Type 0
  CanTest {K} holds takes first =
      (made : List (V × Bool)) (state : F) (key : K) (value : V)
      → CallsTo first made state → holds key value → takes state value

  -- the test may answer so on the value, after some calls of it or none
  pub record MayAnswer (first : F) (value : V) (replaced : Bool) : Type 0 where
    pub made : List (V × Bool)
    pub before : F
    pub came : CallsTo first made before
    pub after : F
    pub answers : calls before value replaced after
