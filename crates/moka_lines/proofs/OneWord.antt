-- Lists of one word.
use Rattle.std.proofs.Common.{◌≡◌, ℕ, ◌<◌, ◌≤◌, Bool, IsTrue, List, [], ◌∷◌, map, length, get_or, sym, ap, ◌∙◌, arith}
use Rattle.std.specs.Str.{bytes_eq}
use Rattle.std.proofs.lemmas.Slice.Eq.{bytes_eq-Decides}

-- the map of a list whose one item is known
pub map_of_one : {A B : Type 0} (f : A → B) (xs : List A) (x : A) → 1 ≤ length xs → length xs < 2 → x ≡ get_or xs 0 x → map f xs ≡ f x ∷ []
map_of_one f [] x least most is = absurd (omega arith)
map_of_one f (y ∷ []) x least most is = ap (λ z. f z ∷ []) (sym is)
map_of_one f (y ∷ z ∷ ys) x least most is = absurd (omega arith)

-- a list of one word is the list of another exactly where a comparison of the two says so
pub one_word_tells : (r : Bool) (words : List (List ℕ)) (text shown word : List ℕ) → words ≡ text ∷ [] → shown ≡ text → r ≡ bytes_eq shown word
    → (IsTrue r → words ≡ word ∷ []) × (words ≡ word ∷ [] → IsTrue r)
one_word_tells r words text shown word one is e =
    let d = bytes_eq-Decides shown word in
    (λ h. one ∙ ap (λ w. w ∷ []) (sym is ∙ d.0 (sym e ∙ h)), λ h. e ∙ d.1 (cc))
