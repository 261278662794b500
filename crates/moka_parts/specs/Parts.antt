-- What lies under the lock of a part.
use Rattle.std.specs.Prelude.{◌≡◌, ℕ, ◌<◌, ◌==◌, Bool, cond, List, Option, None, IfSome, ◌++◌, ◌∷◌, []}
use Rattle.std.specs.HashMap.{HashMap}
use mathlib.Core.List.{IsPrefix}
use Rattle.logbook.specs.Pages.{Book, Named}
use Rattle.moka_parts.specs.declared.change.Change.{Change}
use Rattle.moka_parts.specs.declared.held.Held.{Held}
use Rattle.moka_parts.specs.declared.note.Note.{Note}
use Rattle.moka_parts.specs.declared.note.Note.TheVariants.{Changed}
use Rattle.moka_parts.specs.Changes.{map_after}
use Rattle.moka_parts.specs.Hands.{Hand, Makes, change_by}
use Rattle.moka_parts.specs.Logs.{changes_in, IsOpenedFor, Counts}
use Rattle.moka_parts.specs.Pairs.{pair_at}
use Rattle.moka_parts.specs.Rules.{word_of}

module _ {K V S : Type 0} (eq : K → K → Bool) (part : S → K → ℕ) (holds : K → V → Type 0) where
  -- each pair that is found meets the fact, under the key by which it is found
  abbrev pub Meets : HashMap K (Held K V) S → Type 0
  Meets map = (q : K) → IfSome (pair_at eq map q) (λ p. holds q p.1)

  -- the map has at the keys of its part what stands there after the changes that its front has
  -- seen; the front's count of these changes is the part's
  pub record IsPart (book : Book) (number count : ℕ) (word : Named) (front : List (Note K V S))
      (map : HashMap K (Held K V) S) : Type 0 where
    pub hasher : S
    pub small : number < 64
    pub word_is : word ≡ word_of book number
    pub counts : Counts eq part hasher number count front
    pub same : (q : K) → pair_at eq map q
        ≡ cond (part hasher q == number) (map_after eq (changes_in front) q) None
    pub meets : Meets map

  -- the key is of this part, by the hash builder that the log was opened for
  abbrev pub IsIn : ℕ → K → List (Note K V S) → Type 0
  IsIn number key log = (s : S) × IsOpenedFor s log × (part s key ≡ number)

-- the new log goes on from the old one, and ends with the change
abbrev pub EndsWith : {K V S : Type 0} → Change K V → List (Note K V S) → List (Note K V S) → Type 0
EndsWith {K} {V} {S} c old new =
    (log : List (Note K V S)) × IsPrefix old log × (new ≡ log ++ Changed c ∷ [])

-- the caller has made this change: it ends the new log, and is one more of its own
abbrev pub EndsBy : {K V S : Type 0} → K → Option V → Option (K × V) → Hand K V → Hand K V
    → List (Note K V S) → List (Note K V S) → Type 0
EndsBy key put before own own' old new =
    EndsWith (change_by own own' key put before) old new
    × Makes (change_by own own' key put before) own own' (changes_in new)
