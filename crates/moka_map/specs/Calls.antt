-- What closures that were handed in are lent, and what they give.
use Rattle.std.specs.Prelude.{◌≡◌, Bool, false, Option, Some, None, ⊤}
use denote.Ref.{Bor}
use Rattle.std.specs.Fn.{Once, Mut, Called}

-- a call of the closure, which was lent the pair, gave this
pub record Gives {F K V T : Type 0} (g : Once F (Bor K × (Bor V × Unit {0})) T) (f : F)
    (p : K × V) (given : T) : Type 0 where
  pub key : Bor K
  pub value : Bor V
  pub shows : (key.now ≡ p.0) × (value.now ≡ p.1)
  pub met : g.post f (key, (value, tt)) given

-- such a call of a closure that may be called again
pub record Makes {F K V T : Type 0} (g : Mut F (Bor K × (Bor V × Unit {0})) T) (f : F)
    (p : K × V) (given : T) : Type 0 where
  pub key : Bor K
  pub value : Bor V
  pub left : F
  pub shows : (key.now ≡ p.0) × (value.now ≡ p.1)
  pub called : Called g f (key, (value, tt)) given left

-- what the closure gave of the pair, where there is one
abbrev pub GivesOf : {F K V T : Type 0} → Once F (Bor K × (Bor V × Unit {0})) T → F
    → Option (K × V) → Option T → Type 0
GivesOf g f None None = ⊤
GivesOf g f None (Some t) = ⊥
GivesOf g f (Some p) None = ⊥
GivesOf g f (Some p) (Some t) = Gives g f p t

-- and where the closure itself gives an option: None where there is no pair
abbrev pub GivesThen : {F K V T : Type 0} → Once F (Bor K × (Bor V × Unit {0})) (Option T) → F
    → Option (K × V) → Option T → Type 0
GivesThen g f None given = given ≡ None
GivesThen g f (Some p) given = Gives g f p given

-- the value is what the one closure makes where there is no pair, or the other of the pair
abbrev pub IsMade : {F G K V : Type 0} → Mut F (Unit {0}) V → F
    → Mut G (Bor K × (Bor V × Unit {0})) V → G → Option (K × V) → V → Type 0
IsMade {F} g on_insert h on_modify None v = (left : F) × Called g on_insert tt v left
IsMade g on_insert h on_modify (Some p) v = Makes h on_modify p v

-- there is no pair, or the condition doesn't hold of it
abbrev pub Spares : {F K V : Type 0} → Mut F (Bor K × (Bor V × Unit {0})) Bool → F
    → Option (K × V) → Type 0
Spares g condition None = ⊤
Spares g condition (Some p) = Makes g condition p false
