-- What calls of a table do, and what their closures are shown.
use Rattle.std.specs.Prelude.{◌≡◌, Bool, true, false, List, Option, None, Some, MatchOption, ⊤}
use denote.Ref.{Bor}
use denote.Param.Members.{Once}
use Rattle.moka_parts.specs.declared.note.Note.{Note}
use Rattle.moka_parts.specs.Pairs.{lent}
use Rattle.moka_parts.specs.Hands.{Hand}
use Rattle.moka_parts.specs.Parts.{EndsBy}

-- a call of the condition at the pair answered so
pub record Judged {F K V : Type 0} (g : Once F (Bor K × (Bor V × Unit {0})) Bool) (f : F)
    (p : K × V) (answer : Bool) : Type 0 where
  pub key : Bor K
  pub value : Bor V
  pub shows : (key.now ≡ p.0) × (value.now ≡ p.1)
  pub met : g.post f (key, (value, tt)) answer

-- a call of the closure, which was lent the pair, gave this
pub record Shown {F K V T : Type 0} (g : Once F (Option (Bor K × Bor V) × Unit {0}) T) (f : F)
    (pair : Option (K × V)) (given : T) : Type 0 where
  pub shown : Option (Bor K × Bor V)
  pub shows : lent shown ≡ pair
  pub met : g.post f (shown, tt) given

-- a call of the closure, which was lent a pair of which this holds, or none, gave this
abbrev pub ShownSome : {F K V T : Type 0} → Once F (Option (Bor K × Bor V) × Unit {0}) T → F
    → (Option (K × V) → Type 0) → T → Type 0
ShownSome {F} {K} {V} g f so given = (found : Option (K × V)) × so found × Shown g f found given

-- nothing stands there, or the condition doesn't hold of it
abbrev pub Stays : {F K V : Type 0} → Once F (Bor K × (Bor V × Unit {0})) Bool → F
    → Option (K × V) → Type 0
Stays g condition found = MatchOption found ⊤ (λ p. Judged g condition p false)

-- what was taken out, by a change of the caller's own with which the new log ends; or nothing was,
-- and the caller made no change
abbrev pub TakesOut : {F K V S : Type 0} → Once F (Bor K × (Bor V × Unit {0})) Bool → F → K
    → Option (K × V) → Option (K × V) → Hand K V → Hand K V → List (Note K V S)
    → List (Note K V S) → Type 0
TakesOut g condition key found taken own own' old new =
    MatchOption taken (Stays g condition found × (own' ≡ own))
    (λ p. EndsBy key None (Some p) own own' old new × Judged g condition p true)
