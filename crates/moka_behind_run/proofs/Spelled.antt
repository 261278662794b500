-- What is read is spelled so, and each spelling is read.
use Rattle.std.proofs.Common.{◌≡◌, ℕ, ◌<◌, ◌^◌, List, ◌∷◌, ◌++◌, Some, None, IfSome, refl, sym, ap, ◌∙◌, arith}
use Rattle.std.specs.Prelude.{codes}
use Rattle.std.specs.Fmt.{decimal}
use Rattle.std.specs.Option.{option_and_then}
use Rattle.std.specs.Str.{bytes_eq}
use Rattle.std.proofs.lemmas.Fmt.{decimal_nonempty}
use Rattle.std.proofs.lemmas.Option.{none-some, same_Some}
use Rattle.std.proofs.lemmas.Slice.Eq.{bytes_eq-Decides}
use Rattle.moka_lines.specs.Words.{after_byte, before_byte, u32_in}
use Rattle.moka_lines.proofs.Parts.{bound, chosen, fronted, mapped, number_is, rejoined, spaced, u32_some, weaker}
use Rattle.moka_behind_run.specs.Calls.{Fits, call_line}
use Rattle.moka_behind_run.specs.Reading.{alone, line_of, pair_of}
use Rattle.moka_behind_run.specs.declared.calls.Call.{Call}
use Rattle.moka_behind_run.specs.declared.calls.Call.TheVariants as call

pair_read : (k v : ℕ) → k < 2 ^ 32 → v < 2 ^ 32 → pair_of (decimal k ++ 32 ∷ decimal v) ≡ Some (k, v)
unfolding pair_of
pair_read k v h j = let cut = spaced k (decimal v) (omega arith) in rw (cut.0, cut.1, u32_some k h, u32_some v j) refl

-- each call's own line is read as that call
pub call_read : (c : Call) → Fits c → line_of (call_line c) ≡ Some c
unfolding alone
call_read (call.Set key value) h = rw (pair_read key value h.0 h.1) refl
call_read (call.Del key) h = rw (u32_some key h) refl
call_read (call.Get key) h = rw (u32_some key h) refl
call_read call.Shed h = refl
call_read call.Drain h = refl

pair_is : (bytes : List ℕ) → IfSome (pair_of bytes) (λ p. (bytes ≡ decimal p.0 ++ 32 ∷ decimal p.1) × ((p.0 < 2 ^ 32) × (p.1 < 2 ^ 32)))
unfolding pair_of
pair_is bytes =
    bound _ _ (λ key. option_and_then (λ value. Some (key, value)) (u32_in (after_byte 32 bytes))) (u32_in (before_byte 32 bytes)) (number_is (2 ^ 32) (before_byte 32 bytes)) (λ key h.
    bound _ _ (λ value. Some (key, value)) (u32_in (after_byte 32 bytes)) (number_is (2 ^ 32) (after_byte 32 bytes)) (λ value j.
    (rejoined bytes (decimal key) (decimal value) h.0 j.0 (decimal_nonempty value (omega arith)), (h.1, j.1))))

-- what a call that was read is
abbrev pub IsRead : List ℕ → Call → Type 0
IsRead line c = (line ≡ call_line c) × Fits c

alone_is : (line : List ℕ) → IfSome (alone line) (IsRead line)
unfolding alone
alone_is line =
    let P : Call → Type 0 = IsRead line in
    chosen P (bytes_eq line (codes "shed")) _ _ (λ h. ((bytes_eq-Decides line (codes "shed")).0 h, tt))
    (chosen P (bytes_eq line (codes "drain")) _ _ (λ h. ((bytes_eq-Decides line (codes "drain")).0 h, tt)) tt)

-- what is read as a call is its own line
pub call_is : (line : List ℕ) → IfSome (line_of line) (IsRead line)
call_is line =
    let P : Call → Type 0 = IsRead line in
    fronted P (codes "set ") line _ _ (λ rest e.
    mapped P (λ p. call.Set p.0 p.1) (pair_of rest) (weaker _ _ (pair_of rest) (pair_is rest) (λ p h. (e ∙ ap (λ t. codes "set " ++ t) h.0, h.1))))
    (fronted P (codes "get ") line _ _ (λ rest e.
    mapped P call.Get (u32_in rest) (weaker _ _ (u32_in rest) (number_is (2 ^ 32) rest) (λ n h. (e ∙ ap (λ t. codes "get " ++ t) h.0, h.1))))
    (fronted P (codes "del ") line _ _ (λ rest e.
    mapped P call.Del (u32_in rest) (weaker _ _ (u32_in rest) (number_is (2 ^ 32) rest) (λ n h. (e ∙ ap (λ t. codes "del " ++ t) h.0, h.1))))
    (alone_is line)))

-- what is read as no call spells none
pub call_none : (line : List ℕ) → line_of line ≡ None → (c : Call) → Fits c → line ≡ call_line c → ⊥
call_none line none c fits is = none-some c (sym none ∙ ap line_of is ∙ call_read c fits)

-- calls of one spelling are the same
pub calls_apart : (a b : Call) → Fits a → Fits b → call_line a ≡ call_line b → a ≡ b
calls_apart a b f g e = same_Some a b (sym (call_read a f) ∙ ap line_of e ∙ call_read b g)
