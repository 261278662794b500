-- What is read is spelled so, and each spelling is read.
use Rattle.std.proofs.Common.{◌≡◌, ℕ, ◌<◌, ◌^◌, List, ◌∷◌, ◌++◌, length, length-append, Option, Some, None, IfSome, refl, sym, ap, ◌∙◌, subst, arith}
use Rattle.std.specs.Prelude.{codes}
use Rattle.std.specs.Fmt.{decimal}
use Rattle.std.specs.Option.{option_map, option_and_then}
use Rattle.std.specs.Str.{bytes_eq}
use Rattle.std.proofs.lemmas.Fmt.{decimal_nonempty}
use Rattle.std.proofs.lemmas.Option.{none-some, same_Some}
use Rattle.std.proofs.lemmas.Slice.Eq.{bytes_eq-Decides}
use Rattle.moka_evaluator.specs.declared.rules.Rule.{Rule}
use Rattle.moka_evaluator.specs.declared.rules.Rule.TheVariants as rule
use Rattle.moka_lines.specs.Words.{after, after_byte, before_byte, number_in, u32_in}
use Rattle.moka_lines.proofs.Parts.{bound, chosen, fronted, mapped, number_is, rejoined, spaced, u32_some, u64_some, weaker}
use Rattle.moka_memo_run.specs.Lines.{LineFits, RuleFits, line_words, rule_words, three_words, two_words}
use Rattle.moka_memo_run.specs.Forms.{line_of, pair_of, rule_of, three_of}
use Rattle.moka_memo_run.specs.declared.lines.Line.{Line}
use Rattle.moka_memo_run.specs.declared.lines.Line.TheVariants as line

pair_read : (a b : ℕ) → a < 2 ^ 32 → b < 2 ^ 32 → pair_of (two_words a b) ≡ Some (a, b)
unfolding pair_of
pair_read a b h j = let cut = spaced a (decimal b) (omega arith) in rw (cut.0, cut.1, u32_some a h, u32_some b j) refl

three_read : (a b c : ℕ) → a < 2 ^ 32 → b < 2 ^ 32 → c < 2 ^ 32 → three_of (three_words a b c) ≡ Some (a, (b, c))
unfolding three_of
three_read a b c h j k = let cut = spaced a (two_words b c) (omega arith) in rw (cut.0, cut.1, u32_some a h, pair_read b c j k) refl

rule_read : (r : Rule) → RuleFits r → rule_of (rule_words r) ≡ Some r
unfolding rule_of
rule_read (rule.Const n) h = rw (u32_some n h) refl
rule_read (rule.Add a b) h = rw (pair_read a b h.0 h.1) refl
rule_read (rule.Mul a b) h = rw (pair_read a b h.0 h.1) refl
rule_read (rule.Min a b) h = rw (pair_read a b h.0 h.1) refl
rule_read (rule.Max a b) h = rw (pair_read a b h.0 h.1) refl
rule_read (rule.If a b c) h = rw (three_read a b c h.0 h.1 h.2) refl

-- each line's own spelling is read as that line
pub line_read : (l : Line) → LineFits l → line_of (line_words l) ≡ Some l
unfolding line_of
line_read (line.Rule r) h = rw (rule_read r h) refl
line_read (line.Ask n) h = rw (u32_some n h) refl
line_read (line.Turn n) h = rw (u64_some n h) refl
line_read (line.Drop n) h = rw (u64_some n h) refl
line_read line.Finish h = refl

-- what was read as two numbers, or three
abbrev IsTwo : List ℕ → ℕ × ℕ → Type 0
IsTwo bytes p = (bytes ≡ two_words p.0 p.1) × ((p.0 < 2 ^ 32) × (p.1 < 2 ^ 32))

abbrev IsThree : List ℕ → ℕ × (ℕ × ℕ) → Type 0
IsThree bytes t = (bytes ≡ three_words t.0 t.1.0 t.1.1) × ((t.0 < 2 ^ 32) × (t.1.0 < 2 ^ 32) × (t.1.1 < 2 ^ 32))

pair_is : (bytes : List ℕ) → IfSome (pair_of bytes) (IsTwo bytes)
unfolding pair_of
pair_is bytes =
    bound _ _ (λ a. option_and_then (λ b. Some (a, b)) (u32_in (after_byte 32 bytes))) (u32_in (before_byte 32 bytes)) (number_is (2 ^ 32) (before_byte 32 bytes)) (λ a h.
    bound _ _ (λ b. Some (a, b)) (u32_in (after_byte 32 bytes)) (number_is (2 ^ 32) (after_byte 32 bytes)) (λ b j.
    (rejoined bytes (decimal a) (decimal b) h.0 j.0 (decimal_nonempty b (omega arith)), (h.1, j.1))))

some_two : (a b : ℕ) → 0 < length (two_words a b)
some_two a b = omega (arith, length-append (decimal a) (32 ∷ decimal b))

three_is : (bytes : List ℕ) → IfSome (three_of bytes) (IsThree bytes)
unfolding three_of
three_is bytes =
    bound _ _ (λ a. option_and_then (λ p. Some (a, p)) (pair_of (after_byte 32 bytes))) (u32_in (before_byte 32 bytes)) (number_is (2 ^ 32) (before_byte 32 bytes)) (λ a h.
    bound _ _ (λ p. Some (a, p)) (pair_of (after_byte 32 bytes)) (pair_is (after_byte 32 bytes)) (λ p j.
    (rejoined bytes (decimal a) (two_words p.0 p.1) h.0 j.0 (some_two p.0 p.1), (h.1, j.1.0, j.1.1))))

abbrev IsRuleOf : List ℕ → Rule → Type 0
IsRuleOf bytes r = (bytes ≡ rule_words r) × RuleFits r

-- a rule of two operands, by its front
two_after : (front bytes : List ℕ) (f : ℕ × ℕ → Rule) → ((p : ℕ × ℕ) → rule_words (f p) ≡ front ++ two_words p.0 p.1) → ((p : ℕ × ℕ) → (p.0 < 2 ^ 32) × (p.1 < 2 ^ 32) → RuleFits (f p))
    → (rest : List ℕ) → bytes ≡ front ++ rest → IfSome (option_map f (pair_of rest)) (IsRuleOf bytes)
two_after front bytes f words fits rest e =
    mapped (IsRuleOf bytes) f (pair_of rest) (weaker _ _ (pair_of rest) (pair_is rest) (λ p h. (e ∙ ap (λ t. front ++ t) h.0 ∙ sym (words p), fits p h.1)))

rule_is : (bytes : List ℕ) → IfSome (rule_of bytes) (IsRuleOf bytes)
unfolding rule_of
rule_is bytes =
    let P : Rule → Type 0 = IsRuleOf bytes in
    fronted P (codes "const ") bytes _ _ (λ rest e.
    mapped P rule.Const (u32_in rest) (weaker _ _ (u32_in rest) (number_is (2 ^ 32) rest) (λ n h. (e ∙ ap (λ t. codes "const " ++ t) h.0, h.1))))
    (fronted P (codes "add ") bytes _ _ (two_after (codes "add ") bytes (λ p. rule.Add p.0 p.1) (λ p. refl) (λ p h. h))
    (fronted P (codes "mul ") bytes _ _ (two_after (codes "mul ") bytes (λ p. rule.Mul p.0 p.1) (λ p. refl) (λ p h. h))
    (fronted P (codes "min ") bytes _ _ (two_after (codes "min ") bytes (λ p. rule.Min p.0 p.1) (λ p. refl) (λ p h. h))
    (fronted P (codes "max ") bytes _ _ (two_after (codes "max ") bytes (λ p. rule.Max p.0 p.1) (λ p. refl) (λ p h. h))
    (fronted P (codes "if ") bytes _ _ (λ rest e.
    mapped P (λ t. rule.If t.0 t.1.0 t.1.1) (three_of rest) (weaker _ _ (three_of rest) (three_is rest) (λ t h. (e ∙ ap (λ s. codes "if " ++ s) h.0, h.1)))) tt)))))

abbrev pub IsLineOf : List ℕ → Line → Type 0
IsLineOf bytes l = (bytes ≡ line_words l) × LineFits l

-- a line of one number, by its front
one_after : (limit : ℕ) (front bytes : List ℕ) (f : ℕ → Line) → ((n : ℕ) → line_words (f n) ≡ front ++ decimal n) → ((n : ℕ) → n < limit → LineFits (f n))
    → (rest : List ℕ) → bytes ≡ front ++ rest → IfSome (option_map f (number_in limit rest)) (IsLineOf bytes)
one_after limit front bytes f words fits rest e =
    mapped (IsLineOf bytes) f (number_in limit rest) (weaker _ _ (number_in limit rest) (number_is limit rest) (λ n h. (e ∙ ap (λ t. front ++ t) h.0 ∙ sym (words n), fits n h.1)))

-- what is read as a line is its own spelling
pub line_is : (bytes : List ℕ) → IfSome (line_of bytes) (IsLineOf bytes)
unfolding line_of
line_is bytes =
    let P : Line → Type 0 = IsLineOf bytes in
    fronted P (codes "turn ") bytes _ _ (one_after (2 ^ 64) (codes "turn ") bytes line.Turn (λ n. refl) (λ n h. h))
    (fronted P (codes "rule ") bytes _ _ (λ rest e.
    mapped P line.Rule (rule_of rest) (weaker _ _ (rule_of rest) (rule_is rest) (λ r h. (e ∙ ap (λ t. codes "rule " ++ t) h.0, h.1))))
    (fronted P (codes "ask ") bytes _ _ (one_after (2 ^ 32) (codes "ask ") bytes line.Ask (λ n. refl) (λ n h. h))
    (fronted P (codes "drop ") bytes _ _ (one_after (2 ^ 64) (codes "drop ") bytes line.Drop (λ n. refl) (λ n h. h))
    (chosen P (bytes_eq bytes (codes "finish")) _ _ (λ h. ((bytes_eq-Decides bytes (codes "finish")).0 h, tt)) tt))))

-- what is read as no line spells none
pub line_none : (bytes : List ℕ) → line_of bytes ≡ None → (l : Line) → LineFits l → bytes ≡ line_words l → ⊥
line_none bytes none l fits is = none-some l (sym none ∙ ap line_of is ∙ line_read l fits)

-- lines of one spelling are the same
pub lines_apart : (a b : Line) → LineFits a → LineFits b → line_words a ≡ line_words b → a ≡ b
lines_apart a b f g e = same_Some a b (sym (line_read a f) ∙ ap line_of e ∙ line_read b g)

-- a line that was read, and another of that spelling
pub line_same : (bytes : List ℕ) (l m : Line) → line_of bytes ≡ Some l → LineFits m → bytes ≡ line_words m → m ≡ l
line_same bytes l m read fits is = same_Some m l (sym (line_read m fits) ∙ ap line_of (sym is) ∙ read)

pub line_was : (bytes : List ℕ) (l : Line) → line_of bytes ≡ Some l → IsLineOf bytes l
line_was bytes l read = subst (λ o. IfSome o (IsLineOf bytes)) read (line_is bytes)
