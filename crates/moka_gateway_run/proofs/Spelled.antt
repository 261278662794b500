-- What is read is spelled so, and each spelling is read.
use Rattle.std.proofs.Common.{◌≡◌, ℕ, ◌<◌, ◌^◌, List, ◌∷◌, ◌++◌, length, Some, None, IfSome, Result, Ok, Err, refl, sym, ap, ◌∙◌, arith}
use Rattle.std.specs.Prelude.{codes}
use Rattle.std.specs.Fmt.{decimal}
use Rattle.std.specs.Option.{option_map}
use Rattle.std.specs.Str.{bytes_eq}
use Rattle.std.proofs.lemmas.List.{length-map}
use Rattle.std.proofs.lemmas.Option.{none-some, same_Some}
use Rattle.std.proofs.lemmas.Slice.Eq.{bytes_eq-Decides}
use Rattle.moka_lines.specs.Words.{after_byte, before_byte, u32_in, u64_in}
use Rattle.moka_lines.proofs.Parts.{bound, chosen, fronted, mapped, number_is, rejoined, spaced, u32_some, u64_some, weaker}
use Rattle.moka_gateway_run.specs.Pieces.{IsPiece, piece_in, shown, shown_byte}
use Rattle.moka_gateway_run.specs.Lines.{AnswerFits, LineFits, answer_words, line_words}
use Rattle.moka_gateway_run.specs.Forms.{answer_of, feed_of, line_of, reply_of}
use Rattle.moka_gateway_run.specs.declared.lines.Line.{Line}
use Rattle.moka_gateway_run.specs.declared.lines.Line.TheVariants as line
use Rattle.moka_gateway_run.proofs.Shown.{piece_is, piece_read}

feed_read : (client : ℕ) (bytes : List ℕ) → client < 2 ^ 64 → IsPiece bytes → feed_of (decimal client ++ 32 ∷ shown bytes) ≡ Some (line.Feed client bytes)
unfolding feed_of
feed_read client bytes h j = let cut = spaced client (shown bytes) h in rw (cut.0, cut.1, u64_some client h, piece_read bytes j) refl

answer_read : (a : Result ℕ ℕ) → AnswerFits a → answer_of (answer_words a) ≡ Some a
unfolding answer_of
answer_read (Ok value) h = rw (u32_some value h) refl
answer_read (Err error) h = rw (u32_some error h) refl

reply_read : (key : ℕ) (a : Result ℕ ℕ) → key < 2 ^ 32 → AnswerFits a → reply_of (decimal key ++ 32 ∷ answer_words a) ≡ Some (line.Reply key a)
unfolding reply_of
reply_read key a h j = let cut = spaced key (answer_words a) (omega arith) in rw (cut.0, cut.1, u32_some key h, answer_read a j) refl

-- each line's own spelling is read as that line
pub line_read : (l : Line) → LineFits l → line_of (line_words l) ≡ Some l
unfolding line_of
line_read line.Open h = refl
line_read (line.Feed client bytes) h = rw (feed_read client bytes h.0 h.1) refl
line_read (line.Reply key answer) h = rw (reply_read key answer h.0 h.1) refl
line_read (line.Close client) h = rw (u64_some client h) refl

abbrev pub IsLineOf : List ℕ → Line → Type 0
IsLineOf bytes l = (bytes ≡ line_words l) × LineFits l

some_shown : (bytes : List ℕ) → 0 < length bytes → 0 < length (shown bytes)
some_shown bytes h = omega (arith, h, length-map bytes shown_byte)

feed_is : (bytes rest : List ℕ) → bytes ≡ codes "feed " ++ rest → IfSome (feed_of rest) (IsLineOf bytes)
unfolding feed_of
feed_is bytes rest e =
    bound _ _ (λ client. option_map (line.Feed client) (piece_in (after_byte 32 rest))) (u64_in (before_byte 32 rest)) (number_is (2 ^ 64) (before_byte 32 rest)) (λ client h.
    mapped (IsLineOf bytes) (line.Feed client) (piece_in (after_byte 32 rest)) (weaker _ _ (piece_in (after_byte 32 rest)) (piece_is (after_byte 32 rest)) (λ piece j.
    (e ∙ ap (λ t. codes "feed " ++ t) (rejoined rest (decimal client) (shown piece) h.0 j.0 (some_shown piece j.1.0)), (h.1, j.1)))))

answer_is : (bytes : List ℕ) → IfSome (answer_of bytes) (λ a. (bytes ≡ answer_words a) × AnswerFits a)
unfolding answer_of
answer_is bytes =
    let P : Result ℕ ℕ → Type 0 = λ a. (bytes ≡ answer_words a) × AnswerFits a in
    fronted P (codes "value ") bytes _ _ (λ rest e.
    mapped P Ok (u32_in rest) (weaker _ _ (u32_in rest) (number_is (2 ^ 32) rest) (λ n h. (e ∙ ap (λ t. codes "value " ++ t) h.0, h.1))))
    (fronted P (codes "error ") bytes _ _ (λ rest e.
    mapped P Err (u32_in rest) (weaker _ _ (u32_in rest) (number_is (2 ^ 32) rest) (λ n h. (e ∙ ap (λ t. codes "error " ++ t) h.0, h.1)))) tt)

some_answer : (a : Result ℕ ℕ) → 0 < length (answer_words a)
some_answer (Ok value) = omega arith
some_answer (Err error) = omega arith

reply_is : (bytes rest : List ℕ) → bytes ≡ codes "reply " ++ rest → IfSome (reply_of rest) (IsLineOf bytes)
unfolding reply_of
reply_is bytes rest e =
    bound _ _ (λ key. option_map (line.Reply key) (answer_of (after_byte 32 rest))) (u32_in (before_byte 32 rest)) (number_is (2 ^ 32) (before_byte 32 rest)) (λ key h.
    mapped (IsLineOf bytes) (line.Reply key) (answer_of (after_byte 32 rest)) (weaker _ _ (answer_of (after_byte 32 rest)) (answer_is (after_byte 32 rest)) (λ a j.
    (e ∙ ap (λ t. codes "reply " ++ t) (rejoined rest (decimal key) (answer_words a) h.0 j.0 (some_answer a)), (h.1, j.1)))))

-- what is read as a line is its own spelling
pub line_is : (bytes : List ℕ) → IfSome (line_of bytes) (IsLineOf bytes)
unfolding line_of
line_is bytes =
    let P : Line → Type 0 = IsLineOf bytes in
    fronted P (codes "feed ") bytes _ _ (feed_is bytes)
    (fronted P (codes "reply ") bytes _ _ (reply_is bytes)
    (fronted P (codes "close ") bytes _ _ (λ rest e.
    mapped P line.Close (u64_in rest) (weaker _ _ (u64_in rest) (number_is (2 ^ 64) rest) (λ n h. (e ∙ ap (λ t. codes "close " ++ t) h.0, h.1))))
    (chosen P (bytes_eq bytes (codes "open")) _ _ (λ h. ((bytes_eq-Decides bytes (codes "open")).0 h, tt)) tt)))

-- what is read as no line spells none
pub line_none : (bytes : List ℕ) → line_of bytes ≡ None → (l : Line) → LineFits l → bytes ≡ line_words l → ⊥
line_none bytes none l fits is = none-some l (sym none ∙ ap line_of is ∙ line_read l fits)

-- lines of one spelling are the same
pub lines_apart : (a b : Line) → LineFits a → LineFits b → line_words a ≡ line_words b → a ≡ b
lines_apart a b f g e = same_Some a b (sym (line_read a f) ∙ ap line_of e ∙ line_read b g)
