-- Lines that may come after those before them, taken off a text one by one.
use Rattle.std.proofs.Common.{◌≡◌, ℕ, ◌+◌, ◌<◌, List, [], ◌∷◌, ◌++◌, length, map, append_assoc, append-nil, Option, Some, None, IfSome, IfNone, refl, sym, ap, ◌∙◌, subst}
use Rattle.std.proofs.lemmas.Option.{none-some, same_Some}
use Rattle.moka_lines.specs.Words.{before_byte, after_byte}
use Rattle.moka_lines.specs.Lines.{AreInPlace, IsFirstBad, SpellsNone, lines}
use Rattle.moka_lines.proofs.Splitting.{lines_cut}

-- one more line at the end
more_fit : {L : Type 0} (Fits : List L → L → Type 0) (before said : List L) (l : L) → AreInPlace Fits before said → Fits (before ++ said) l → AreInPlace Fits before (said ++ l ∷ [])
more_fit Fits before [] l fit last = (subst (λ b. Fits b l) (append-nil before) last, tt)
more_fit Fits before (x ∷ said) l fit last =
    (fit.0, more_fit Fits (before ++ x ∷ []) said l fit.1 (subst (λ b. Fits b l) (sym (append_assoc before (x ∷ []) said)) last))

more_spelled : {L : Type 0} (spell : L → List ℕ) (said : List L) (l : L) (rest : List (List ℕ)) → map spell (said ++ l ∷ []) ++ rest ≡ map spell said ++ spell l ∷ rest
more_spelled spell [] l rest = refl
more_spelled spell (x ∷ said) l rest = ap (λ t. spell x ∷ t) (more_spelled spell said l rest)

module _ {L : Type 0} (spell : L → List ℕ) (Fits : List L → L → Type 0) (text rest front : List ℕ) (said : List L) (split : lines text ≡ map spell said ++ lines rest) (some : 0 < length rest) (cut : front ≡ before_byte 10 rest) where
  -- what is left begins with this line
  first_cut : lines text ≡ map spell said ++ front ∷ lines (after_byte 10 rest)
  first_cut = split ∙ ap (λ t. map spell said ++ t) (lines_cut rest some) ∙ ap (λ b. map spell said ++ b ∷ lines (after_byte 10 rest)) (sym cut)

  -- which spells a line
  pub more_said : (l : L) (later : List ℕ) → later ≡ after_byte 10 rest → front ≡ spell l → lines text ≡ map spell (said ++ l ∷ []) ++ lines later
  more_said l later next spelled =
      first_cut ∙ ap (λ b. map spell said ++ b ∷ lines (after_byte 10 rest)) spelled
      ∙ ap (λ t. map spell said ++ spell l ∷ lines t) (sym next) ∙ sym (more_spelled spell said l (lines later))

  -- or none that may come here
  pub is_bad : (number bad : ℕ) → number ≡ length said + 1 → bad ≡ number → AreInPlace Fits [] said → SpellsNone spell Fits said front → IsFirstBad spell Fits text bad
  is_bad number bad place same fit none =
      record { said = said; bad = record { line = front; rest = lines (after_byte 10 rest); split = first_cut; fit = fit; none = none }; place = same ∙ place }

pub one_more : {L : Type 0} (Fits : List L → L → Type 0) (said : List L) (l : L) → AreInPlace Fits [] said → Fits said l → AreInPlace Fits [] (said ++ l ∷ [])
one_more Fits said l fit last = more_fit Fits [] said l fit last

-- what holds where there is none, and what holds of the one that there is
pub none_of : {X P : Type 0} (o : Option X) → o ≡ None → IfNone o P → P
none_of None e h = h
none_of (Some x) e h = absurd cc

pub some_of : {X : Type 0} (P : X → Type 0) (o : Option X) (x : X) → o ≡ Some x → IfSome o P → P x
some_of P (Some y) x e h = subst P (same_Some y x e) h
some_of P None x e h = absurd (none-some x e)
