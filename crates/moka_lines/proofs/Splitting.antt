-- The lines of a text, taken off one by one.
use Rattle.std.proofs.Common.{◌≡◌, ℕ, suc, ◌+◌, ◌<◌, Bool, true, false, cond, eqb, List, [], ◌∷◌, length, take, drop, refl, sym, ap, ◌∙◌, arith}
use Rattle.std.specs.List.{position_or_len, onto_first}
use Rattle.moka_lines.specs.Words.{before_byte, after_byte}
use Rattle.moka_lines.specs.Lines.{lines}

-- the mark stands first
pub place_here : (m b : ℕ) (bs : List ℕ) → eqb b m ≡ true → position_or_len (λ x. eqb x m) (b ∷ bs) ≡ 0
place_here m b bs e = rw e refl

pub before_here : (m b : ℕ) (bs : List ℕ) → eqb b m ≡ true → before_byte m (b ∷ bs) ≡ []
before_here m b bs e = ap (λ n. take n (b ∷ bs)) (place_here m b bs e)

pub after_here : (m b : ℕ) (bs : List ℕ) → eqb b m ≡ true → after_byte m (b ∷ bs) ≡ bs
after_here m b bs e = ap (λ n. drop (n + 1) (b ∷ bs)) (place_here m b bs e)

-- another byte stands first
pub place_later : (m b : ℕ) (bs : List ℕ) → eqb b m ≡ false → position_or_len (λ x. eqb x m) (b ∷ bs) ≡ suc (position_or_len (λ x. eqb x m) bs)
place_later m b bs e = rw e (omega arith)

pub before_later : (m b : ℕ) (bs : List ℕ) → eqb b m ≡ false → before_byte m (b ∷ bs) ≡ b ∷ before_byte m bs
before_later m b bs e = ap (λ n. take n (b ∷ bs)) (place_later m b bs e)

pub after_later : (m b : ℕ) (bs : List ℕ) → eqb b m ≡ false → after_byte m (b ∷ bs) ≡ after_byte m bs
after_later m b bs e =
    let next : position_or_len (λ x. eqb x m) (b ∷ bs) + 1 ≡ suc (position_or_len (λ x. eqb x m) bs + 1) = omega (arith, place_later m b bs e) in
    ap (λ n. drop n (b ∷ bs)) next

both : {A : Type 0} (a b : A) (c d : List A) → a ≡ b → c ≡ d → a ∷ c ≡ b ∷ d
both a b c d e f = cc

line_step : (b : ℕ) (bs : List ℕ) → (0 < length bs → lines bs ≡ before_byte 10 bs ∷ lines (after_byte 10 bs)) → (r : Bool) → eqb b 10 ≡ r → lines (b ∷ bs) ≡ before_byte 10 (b ∷ bs) ∷ lines (after_byte 10 (b ∷ bs))
line_step b bs rest true e =
    ap (λ t. cond t ([] ∷ lines bs) (onto_first b (lines bs))) e ∙ both _ _ _ _ (sym (before_here 10 b bs e)) (ap lines (sym (after_here 10 b bs e)))
line_step b [] rest false e =
    ap (λ t. cond t ([] ∷ []) ((b ∷ []) ∷ [])) e ∙ both _ _ _ _ (sym (before_later 10 b [] e)) (ap lines (sym (after_later 10 b [] e)))
line_step b (x ∷ xs) rest false e =
    ap (λ t. cond t ([] ∷ lines (x ∷ xs)) (onto_first b (lines (x ∷ xs)))) e
    ∙ ap (onto_first b) (rest (omega arith))
    ∙ both _ _ _ _ (sym (before_later 10 b (x ∷ xs) e)) (ap lines (sym (after_later 10 b (x ∷ xs) e)))

-- a text that isn't empty is its first line, and then the lines after the first byte 10
pub lines_cut : (bytes : List ℕ) → 0 < length bytes → lines bytes ≡ before_byte 10 bytes ∷ lines (after_byte 10 bytes)
lines_cut [] h = absurd (omega arith)
lines_cut (b ∷ bs) h = line_step b bs (lines_cut bs) (eqb b 10) refl
