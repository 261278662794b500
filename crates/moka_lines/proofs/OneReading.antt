-- A text is read in one way.
use Rattle.std.proofs.Common.{◌≡◌, ℕ, List, [], ◌∷◌, ◌++◌, map, length, append_assoc, append-nil, refl, sym, ap, ◌∙◌, subst, arith}
use Rattle.moka_lines.specs.Lines.{AreInPlace, SpellsNone, AreSpelledApart, AreReadOneWay}

head_of : {X : Type 0} {a b : X} {xs ys : List X} → a ∷ xs ≡ b ∷ ys → a ≡ b
head_of {X} {a} {b} {xs} {ys} e = cc

tail_of : {X : Type 0} {a b : X} {xs ys : List X} → a ∷ xs ≡ b ∷ ys → xs ≡ ys
tail_of {X} {a} {b} {xs} {ys} e = cc

module _ {L : Type 0} (spell : L → List ℕ) (Fits : List L → L → Type 0) (apart : AreSpelledApart spell Fits) where
  -- lines of one spelling are the same
  same_said : (before a b : List L) → map spell a ≡ map spell b → AreInPlace Fits before a → AreInPlace Fits before b → a ≡ b
  same_said before [] [] e f g = refl
  same_said before [] (y ∷ b) e f g = absurd cc
  same_said before (x ∷ a) [] e f g = absurd cc
  same_said before (x ∷ a) (y ∷ b) e f g =
      let one : x ≡ y = apart before x y f.0 g.0 (head_of e) in
      let others : a ≡ b = same_said (before ++ x ∷ []) a b (tail_of e) f.1 (subst (λ z. AreInPlace Fits (before ++ z ∷ []) b) (sym one) g.1) in
      ap (λ z. z ∷ a) one ∙ ap (λ t. y ∷ t) others

  -- what holds after these holds after those before them and these
  later : (before said : List L) (x : L) (line : List ℕ) → SpellsNone spell Fits (before ++ x ∷ said) line → SpellsNone spell Fits ((before ++ x ∷ []) ++ said) line
  later before said x line none = subst (λ b. SpellsNone spell Fits b line) (sym (append_assoc before (x ∷ []) said)) none

  clash : (before a b : List L) (line : List ℕ) (rest : List (List ℕ)) → map spell a ≡ map spell b ++ line ∷ rest → AreInPlace Fits before a → AreInPlace Fits before b → SpellsNone spell Fits (before ++ b) line → ⊥
  clash before [] [] line rest e f g none = absurd cc
  clash before [] (y ∷ b) line rest e f g none = absurd cc
  clash before (x ∷ a) [] line rest e f g none = none x (subst (λ t. Fits t x) (sym (append-nil before)) f.0) (sym (head_of e))
  clash before (x ∷ a) (y ∷ b) line rest e f g none =
      let one : y ≡ x = apart before y x g.0 f.0 (sym (head_of e)) in
      clash (before ++ x ∷ []) a b line rest (tail_of e) f.1 (subst (λ z. AreInPlace Fits (before ++ z ∷ []) b) one g.1)
      (later before b x line (subst (λ z. SpellsNone spell Fits (before ++ z ∷ b) line) one none))

  same_place : (before a b : List L) (l m : List ℕ) (r s : List (List ℕ)) → map spell a ++ l ∷ r ≡ map spell b ++ m ∷ s → AreInPlace Fits before a → AreInPlace Fits before b → SpellsNone spell Fits (before ++ a) l → SpellsNone spell Fits (before ++ b) m → length a ≡ length b
  same_place before [] [] l m r s e f g none other = refl
  same_place before [] (y ∷ b) l m r s e f g none other = absurd (none y (subst (λ t. Fits t y) (sym (append-nil before)) g.0) (head_of e))
  same_place before (x ∷ a) [] l m r s e f g none other = absurd (other x (subst (λ t. Fits t x) (sym (append-nil before)) f.0) (sym (head_of e)))
  same_place before (x ∷ a) (y ∷ b) l m r s e f g none other =
      let one : y ≡ x = apart before y x g.0 f.0 (sym (head_of e)) in
      let rest =
      same_place (before ++ x ∷ []) a b l m r s (tail_of e) f.1 (subst (λ z. AreInPlace Fits (before ++ z ∷ []) b) one g.1) (later before a x l none)
      (later before b x m (subst (λ z. SpellsNone spell Fits (before ++ z ∷ b) m) one other)) in
      omega (arith, rest)

  pub read_one_way : AreReadOneWay spell Fits
  read_one_way =
      record {
        said = λ text a b s t. same_said [] a b (sym s.split ∙ t.split) s.fit t.fit;
        good = λ text said line s bad. clash [] said bad.said bad.bad.line bad.bad.rest (sym s.split ∙ bad.bad.split) s.fit bad.bad.fit bad.bad.none;
        bad = λ text a b s t.
            let same =
            same_place [] s.said t.said s.bad.line t.bad.line s.bad.rest t.bad.rest (sym s.bad.split ∙ t.bad.split) s.bad.fit t.bad.fit s.bad.none t.bad.none in
            omega (arith, same, s.place, t.place);
      }
