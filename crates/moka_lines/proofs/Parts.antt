-- The parts of a line: what is read is spelled so, and what is spelled is read.
use Rattle.std.proofs.Common.{◌≡◌, ℕ, ◌+◌, ◌<◌, ◌≤◌, ◌^◌, Bool, true, false, cond, eqb, List, [], ◌∷◌, ◌++◌, length, get_or, take, drop, length-drop, Option, Some, None, IfSome, refl, sym, ap, ◌∙◌, subst, arith}
use Rattle.std.specs.Fmt.{decimal}
use Rattle.std.specs.Option.{option_map, option_and_then}
use Rattle.std.specs.List.{AllByRecursion, position_or_len}
use Rattle.std.proofs.lemmas.List.Sums.{split_at_first, passes_at_first}
use Rattle.std.specs.Str.{bytes_eq}
use Rattle.std.specs.Str.Parse.{AllDigits}
use Rattle.std.proofs.lemmas.Fmt.{digits_decimal, decimal_nonempty}
use Rattle.std.proofs.lemmas.List.{take-append-drop}
use Rattle.std.proofs.lemmas.Bool.Decides.{nat_tests, Decides-eqb}
use Rattle.std.proofs.lemmas.Slice.Eq.{bytes_eq-Decides}
use Rattle.std.proofs.lemmas.Option.{cond_some}
use Rattle.std.proofs.lemmas.Str.Parse.{digit_from_value}
use Rattle.moka_lines.specs.Words.{number_in, u64_in, u32_in, after, before_byte, after_byte, on_front}
use Rattle.moka_lines.proofs.Numbers.{own, number_some, number_found}
use Rattle.moka_lines.proofs.Splitting.{before_here, before_later, after_here, after_later}

-- what holds of the value of each part holds of the value of the whole
pub mapped : {X Y : Type 0} (P : Y → Type 0) (f : X → Y) (o : Option X) → IfSome o (λ x. P (f x)) → IfSome (option_map f o) P
mapped P f (Some x) h = h
mapped P f None h = h

pub bound : {X Y : Type 0} (P : X → Type 0) (Q : Y → Type 0) (f : X → Option Y) (o : Option X) → IfSome o P → ((x : X) → P x → IfSome (f x) Q) → IfSome (option_and_then f o) Q
bound P Q f (Some x) h k = k x h
bound P Q f None h k = h

pub weaker : {X : Type 0} (P Q : X → Type 0) (o : Option X) → IfSome o P → ((x : X) → P x → Q x) → IfSome o Q
weaker P Q (Some x) h k = k x h
weaker P Q None h k = h

pub known : {X : Type 0} (P : X → Type 0) (o : Option X) → ((x : X) → o ≡ Some x → P x) → IfSome o P
known P (Some x) h = h x refl
known P None h = tt

-- what follows the front of a line
pub after_is : (front line : List ℕ) → IfSome (after front line) (λ rest. line ≡ front ++ rest)
after_is front line = known (λ rest. line ≡ front ++ rest) (after front line) (λ rest e.
    let parts = cond_some _ (drop (length front) line) rest e in
    let same = (bytes_eq-Decides (take (length front) line) front).0 parts.0 in
    sym (take-append-drop (length front) line) ∙ ap (λ t. t ++ drop (length front) line) same ∙ ap (λ t. front ++ t) parts.1)

pub number_is : (limit : ℕ) (bytes : List ℕ) → IfSome (number_in limit bytes) (λ n. (bytes ≡ decimal n) × (n < limit))
number_is limit bytes = known _ (number_in limit bytes) (λ n e. number_found limit n bytes e)

pub self : (n : ℕ) → eqb n n ≡ true
self n = (Decides-eqb n n).1 refl

-- the first mark is the one after a front that has none
pub cut_at : (front rest : List ℕ) (mark : ℕ) → AllByRecursion (λ b. eqb b mark ≡ false) front → (before_byte mark (front ++ mark ∷ rest) ≡ front) × (after_byte mark (front ++ mark ∷ rest) ≡ rest)
cut_at [] rest mark h = (before_here mark mark rest (self mark), after_here mark mark rest (self mark))
cut_at (b ∷ front) rest mark h =
    let later = cut_at front rest mark h.1 in
    (before_later mark b (front ++ mark ∷ rest) h.0 ∙ ap (λ t. b ∷ t) later.0, after_later mark b (front ++ mark ∷ rest) h.0 ∙ later.1)

-- a word has no space
abbrev pub HasNoSpace : List ℕ → Type 0
HasNoSpace = AllByRecursion (λ b. eqb b 32 ≡ false)

-- a digit is no space
pub no_space : (ds : List ℕ) → AllDigits 10 ds → AllByRecursion (λ b. eqb b 32 ≡ false) ds
no_space [] h = tt
no_space (b ∷ ds) h = (let d = digit_from_value b h.0 in grind (arith, nat_tests), no_space ds h.1)

pub spaced : (n : ℕ) (rest : List ℕ) → n < 2 ^ 64 → (before_byte 32 (decimal n ++ 32 ∷ rest) ≡ decimal n) × (after_byte 32 (decimal n ++ 32 ∷ rest) ≡ rest)
spaced n rest h = cut_at (decimal n) rest 32 (no_space (decimal n) (digits_decimal own n h))

-- what stands before a space and after it, where something does
pub rejoined : (bytes front rest : List ℕ) → before_byte 32 bytes ≡ front → after_byte 32 bytes ≡ rest → 0 < length rest → bytes ≡ front ++ 32 ∷ rest
rejoined bytes front rest e f some =
    let p : ℕ → Bool = λ b. eqb b 32 in
    let l : 0 < length (after_byte 32 bytes) = subst (λ r. 0 < length r) (sym f) some in
    let inside : position_or_len p bytes < length bytes = omega (arith, length-drop (position_or_len p bytes + 1) bytes) in
    let mark : get_or bytes (position_or_len p bytes) 0 ≡ 32 = (Decides-eqb _ 32).0 (passes_at_first p bytes 0 inside) in
    split_at_first p bytes 0 inside ∙ ap (λ b. before_byte 32 bytes ++ b ∷ after_byte 32 bytes) mark ∙ ap (λ t. t ++ 32 ∷ after_byte 32 bytes) e ∙ ap (λ t. front ++ 32 ∷ t) f

-- what holds of either choice
pub chosen : {X : Type 0} (P : X → Type 0) (b : Bool) (x y : Option X) → (b ≡ true → IfSome x P) → IfSome y P → IfSome (cond b x y) P
chosen P true x y h k = h refl
chosen P false x y h k = k

-- where what follows a line's first word is spelled so, so is the line
pub after_word : {X Y : Type 0} (words : X → List ℕ) (Fits : X → Type 0) (P : Y → Type 0) (f : X → Y) (name bytes : List ℕ) (o : Option X) → ((x : X) → Fits x → 0 < length (words x)) → IfSome o (λ x. (after_byte 32 bytes ≡ words x) × Fits x) → ((x : X) → bytes ≡ name ++ 32 ∷ words x → Fits x → P (f x)) → bytes_eq (before_byte 32 bytes) name ≡ true → IfSome (option_map f o) P
after_word words Fits P f name bytes o some is so word =
    mapped P f o (weaker _ (λ x. P (f x)) o is (λ x h. so x (rejoined bytes name (words x) ((bytes_eq-Decides (before_byte 32 bytes) name).0 word) h.0 (some x h.1)) h.1))

pub number_after : {Y : Type 0} (limit : ℕ) (P : Y → Type 0) (f : ℕ → Y) (name bytes : List ℕ) → limit ≤ 2 ^ 64 → ((n : ℕ) → bytes ≡ name ++ 32 ∷ decimal n → n < limit → P (f n)) → bytes_eq (before_byte 32 bytes) name ≡ true → IfSome (option_map f (number_in limit (after_byte 32 bytes))) P
number_after limit P f name bytes low so =
    after_word decimal (λ n. n < limit) P f name bytes (number_in limit (after_byte 32 bytes)) (λ n h. decimal_nonempty n (omega arith)) (number_is limit (after_byte 32 bytes)) so

-- bytes that have this front are it and what follows
pub parted : (front bytes rest : List ℕ) → after front bytes ≡ Some rest → bytes ≡ front ++ rest
parted front bytes rest e = subst (λ o. IfSome o (λ r. bytes ≡ front ++ r)) e (after_is front bytes)

pub unless : {X : Type 0} (P : X → Type 0) (o : Option X) → IfSome o P → ((x : X) → P x → ⊥) → o ≡ None
unless P (Some x) h never = absurd (never x h)
unless P None h never = refl

pub u64_some : (n : ℕ) → n < 2 ^ 64 → u64_in (decimal n) ≡ Some n
u64_some n h = number_some (2 ^ 64) n (decimal n) h (omega arith) refl

pub u32_some : (n : ℕ) → n < 2 ^ 32 → u32_in (decimal n) ≡ Some n
u32_some n h = number_some (2 ^ 32) n (decimal n) h (omega arith) refl

-- what holds of what is read after a front, and of what is read otherwise
pub fronted : {X : Type 0} (P : X → Type 0) (front line : List ℕ) (read : List ℕ → Option X) (other : Option X) → ((rest : List ℕ) → line ≡ front ++ rest → IfSome (read rest) P) → IfSome other P → IfSome (on_front (after front line) read other) P
fronted {X} P front line read other some none = by (after front line) (after_is front line) where
  by : (o : Option (List ℕ)) → IfSome o (λ rest. line ≡ front ++ rest) → IfSome (on_front o read other) P
  by (Some rest) e = some rest e
  by None e = none
