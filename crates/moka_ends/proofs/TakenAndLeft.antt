-- Bytes taken off the front of what is left, and put after what was written, one piece after another.
use Rattle.std.proofs.Common.{◌≡◌, ℕ, ◌+◌, List, [], ◌++◌, Option, None, Some, refl, sym, ap, ◌∙◌, append_assoc, append-nil, arith, take, drop, Result, Ok, Err, OnErr}
use Rattle.std.proofs.lemmas.List.{drop-drop, take-append-drop}
use Rattle.moka_ends.specs.Bytes.{with_front, Gives, GivesAll, GivesSome, IsSpent, with_end, Extends}

-- two pieces taken one after another
pub with_front-append : (xs ys : List ℕ) (o : Option (List ℕ)) → with_front (xs ++ ys) o ≡ with_front xs (with_front ys o)
with_front-append xs ys None = refl
with_front-append xs ys (Some zs) = ap Some (append_assoc xs ys zs)

-- nothing taken
pub with_front-nothing : (o : Option (List ℕ)) → with_front [] o ≡ o
with_front-nothing None = refl
with_front-nothing (Some zs) = refl

-- all is given where what is given was at the front, and nothing is left
pub GivesAll-from_spent : (old : Option (List ℕ)) (bytes : List ℕ) (new : Option (List ℕ)) → Gives old bytes new → IsSpent new → GivesAll old bytes new
GivesAll-from_spent None bytes None e s = refl
GivesAll-from_spent None bytes (Some xs) e s = cc
GivesAll-from_spent (Some xs) bytes None e s = cc
GivesAll-from_spent (Some xs) bytes (Some ys) e s = grind (arith, append-nil)

-- what gives some after a piece gives some
pub GivesSome-after : (old mid new : Option (List ℕ)) (bytes : List ℕ) → Gives old bytes mid → GivesSome mid new → GivesSome old new
GivesSome-after old mid new bytes e (more, f) = (bytes ++ more, e ∙ ap (with_front bytes) f ∙ sym (with_front-append bytes more new))

-- what is put after two pieces
pub with_end-append : (o : Option (List ℕ)) (xs ys : List ℕ) → with_end (with_end o xs) ys ≡ with_end o (xs ++ ys)
with_end-append None xs ys = refl
with_end-append (Some zs) xs ys = ap Some (append_assoc zs xs ys)

-- nothing put
pub Extends-nothing : (o : Option (List ℕ)) → Extends o [] o
Extends-nothing None = tt
Extends-nothing (Some zs) = ap Some (append-nil zs)

-- one piece put after another
pub Extends-append : (a b c : Option (List ℕ)) (xs ys : List ℕ) → Extends a xs b → Extends b ys c → Extends a (xs ++ ys) c
Extends-append a b None xs ys e f = tt
Extends-append a None (Some zs) xs ys e f = cc
Extends-append a (Some us) (Some zs) xs ys e f = sym (with_end-append a xs ys) ∙ ap (λ o. with_end o ys) e ∙ f

-- the front that was copied, and what is left after it
pub drop-taken : (xs copied : List ℕ) (i n : ℕ) → copied ≡ take n (drop i xs) → drop i xs ≡ copied ++ drop (i + n) xs
drop-taken xs copied i n e =
    rw (e, ← drop-drop n i xs) (sym (take-append-drop n (drop i xs)))

-- what always holds, holds of an error
pub OnErr-always : {T E P : Type 0} (r : Result T E) → P → OnErr r P
OnErr-always (Ok x) p = tt
OnErr-always (Err e) p = p
