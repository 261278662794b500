-- The three words of a make.
use Rattle.std.proofs.Common.{◌≡◌, ℕ, ◌<◌, ◌≤◌, Bool, false, not, List, [], ◌∷◌, map, length, get_or, Option, Some, None, IfSome, sym, ◌∙◌, arith}
use Rattle.std.specs.Prelude.{codes}
use Rattle.std.specs.Str.{bytes_eq}
use Rattle.std.specs.String.{string_bytes}
use Rattle.std.specs.declared.string.String.{String}
use Rattle.std.specs.declared.alloc.Global.{Global}
use Rattle.std.proofs.lemmas.Bool.{not-false}
use Rattle.std.proofs.lemmas.Slice.Eq.{bytes_eq-Decides}
use Rattle.moka_make.specs.Words.{AsksFor, IsSeed, IsTurns}
use Rattle.moka_make.specs.declared.words.Wanted.{Wanted}

-- the map of a list whose three items are known
pub map_of_three : {A B : Type 0} (f : A → B) (xs : List A) (x y z : A) → 3 ≤ length xs
    → length xs < 4 → x ≡ get_or xs 0 x → y ≡ get_or xs 1 y → z ≡ get_or xs 2 z
    → map f xs ≡ f x ∷ f y ∷ f z ∷ []
map_of_three f [] x y z least most a b c = absurd (omega arith)
map_of_three f (p ∷ []) x y z least most a b c = absurd (omega arith)
map_of_three f (p ∷ q ∷ []) x y z least most a b c = absurd (omega arith)
map_of_three f (p ∷ q ∷ r ∷ []) x y z least most a b c =
    λ i. f (sym a i) ∷ f (sym b i) ∷ f (sym c i) ∷ []
map_of_three f (p ∷ q ∷ r ∷ s ∷ xs) x y z least most a b c = absurd (omega arith)

-- a word that doesn't differ is the same
pub same_word : (differs : Bool) (shown word : List ℕ) → differs ≡ not (bytes_eq shown word)
    → differs ≡ false → shown ≡ word
same_word differs shown word is unlike =
    (bytes_eq-Decides shown word).0 (not-false (bytes_eq shown word) (sym is ∙ unlike))

-- what the two other words spell is asked for
pub asked : (words : List (String Global)) (turns seed : List ℕ) (r : Option Wanted)
    → map string_bytes words ≡ codes "make" ∷ turns ∷ seed ∷ []
    → IfSome r (λ w. IsTurns turns w.turns) → IfSome r (λ w. IsSeed seed w.seed)
    → IfSome r (λ w. AsksFor words w.turns w.seed)
asked words turns seed (Some w) split t s = record {
  spelled = split ∙ (λ i. codes "make" ∷ t.spelled i ∷ s.spelled i ∷ []);
  some = t.some;
  few = t.few;
  fits = s.fits;
}
asked words turns seed None split t s = tt
