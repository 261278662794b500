-- Changes of a history, the pairs after them, and how many a part has.
use Rattle.std.proofs.Common.{◌≡◌, ℕ, ◌+◌, ◌==◌, Bool, true, false, cond, inl, inr, List, [], ◌∷◌, ◌++◌, map, refl, ap, sym, subst, ◌∙◌, arith, Option, None}
use Rattle.std.proofs.lemmas.Bool.{eq-eqb}
use mathlib.Core.List.{IsPrefix}
use Rattle.moka_parts.specs.declared.change.Change.{Change}
use Rattle.moka_parts.specs.declared.note.Note.{Note}
use Rattle.moka_parts.specs.declared.note.Note.TheVariants.{Opened, Changed, Nothing}
use Rattle.moka_parts.specs.Changes.{pair_put, pair_after, map_after, IsLegal, count_of}
use Rattle.moka_parts.specs.Logs.{changes_in, IsOpenedFor}
use Rattle.moka_parts.specs.Hands.{Hand, change_by}
use Rattle.moka_parts.specs.Parts.{EndsBy}
use Rattle.moka_parts.specs.Tables.{Adds}
use Rattle.moka_parts.proofs.Prefixes.{prefix_either, snoc_cases}

module _ {K V : Type 0} where
  pub pair_after-append : (eq : K → K → Bool) (q : K) (found : Option (K × V)) (xs ys : List (Change K V))
      → pair_after eq q found (xs ++ ys) ≡ pair_after eq q (pair_after eq q found xs) ys
  pair_after-append eq q found [] ys = refl
  pair_after-append eq q found (x ∷ xs) ys = pair_after-append eq q (cond (eq x.key q) (pair_put x) found) xs ys

  pub count_of-append : (part : K → ℕ) (n : ℕ) (xs ys : List (Change K V)) → count_of part n (xs ++ ys) ≡ count_of part n xs + count_of part n ys
  count_of-append part n [] ys = omega arith
  count_of-append part n (x ∷ xs) ys =
      let by : (b : Bool) → cond b (count_of part n (xs ++ ys) + 1) (count_of part n (xs ++ ys)) ≡ cond b (count_of part n xs + 1) (count_of part n xs) + count_of part n ys =
      elim [ true ↦ (let h = count_of-append part n xs ys in omega arith) | false ↦ count_of-append part n xs ys ] in
      by (part x.key == n)

  -- one more change
  pub count_of-more : (part : K → ℕ) (n : ℕ) (xs : List (Change K V)) (c : Change K V)
      → count_of part n (xs ++ c ∷ []) ≡ cond (part c.key == n) (count_of part n xs + 1) (count_of part n xs)
  count_of-more part n xs c =
      let h = count_of-append part n xs (c ∷ []) in
      let by : (b : Bool) → count_of part n xs + cond b (0 + 1) 0 ≡ cond b (count_of part n xs + 1) (count_of part n xs) = elim [ true ↦ omega arith | false ↦ omega arith ] in
      h ∙ by (part c.key == n)

  -- a history is legal with one more change that names what stood there
  pub legal_more : (eq : K → K → Bool) (xs : List (Change K V)) (c : Change K V) → IsLegal eq xs → c.before ≡ map_after eq xs c.key → IsLegal eq (xs ++ c ∷ [])
  legal_more eq xs c legal now before d after e =
      let l : (xs ≡ before) × (c ≡ d) → d.before ≡ map_after eq before d.key =
      λ (p : (xs ≡ before) × (c ≡ d)). subst (λ (t : Change K V). t.before ≡ map_after eq before t.key) p.1 (subst (λ (ys : List (Change K V)). c.before ≡ map_after eq ys c.key) p.0 now) in
      let m : (rest : List (Change K V)) × (xs ≡ before ++ d ∷ rest) → d.before ≡ map_after eq before d.key =
      λ (p : (rest : List (Change K V)) × (xs ≡ before ++ d ∷ rest)). legal before d p.0 p.1 in
      elim (snoc_cases xs c before d after e) [ inl p ↦ l p | inr p ↦ m p ]

  module _ (eq : K → K → Bool) (part : K → ℕ) (alike : (x y : K) → eq x y ≡ true → part x ≡ part y) where
    -- changes of other parts leave the pair
    untouched : (n : ℕ) (q : K) (found : Option (K × V)) (xs : List (Change K V)) → part q ≡ n → count_of part n xs ≡ 0 → pair_after eq q found xs ≡ found
    untouched n q found [] at none = refl
    untouched n q found (x ∷ xs) at none =
        let other : (b : Bool) → (part x.key == n) ≡ b → cond b (count_of part n xs + 1) (count_of part n xs) ≡ 0 → pair_after eq q (cond (eq x.key q) (pair_put x) found) xs ≡ found =
        elim [
          | true ↦ (λ h c. absurd (omega arith))
          | false ↦ (λ h c.
              let same : (b : Bool) → eq x.key q ≡ b → pair_after eq q (cond b (pair_put x) found) xs ≡ found =
              elim [
                | true ↦ (λ t. absurd (let e = eq-eqb (part x.key) n (alike x.key q t ∙ at) in cc))
                | false ↦ (λ t. untouched n q found xs at c)
              ] in
              same (eq x.key q) refl)
        ] in
        other (part x.key == n) refl none

    -- a part's pairs stay while its count does
    pub part_stays : (n : ℕ) (q : K) (xs ys : List (Change K V)) → IsPrefix xs ys → part q ≡ n → count_of part n ys ≡ count_of part n xs → map_after eq ys q ≡ map_after eq xs q
    part_stays n q xs ys p at same =
        let zs = p.0 in
        let more = count_of-append part n xs zs in
        let all : count_of part n (xs ++ zs) ≡ count_of part n ys = ap (count_of part n) p.1 in
        let none : count_of part n zs ≡ 0 = omega arith in
        sym (ap (pair_after eq q None) p.1) ∙ (pair_after-append eq q None xs zs ∙ untouched n q (map_after eq xs q) zs at none)

    -- two beginnings of one history with the same count of a part have its pairs
    pub parts_agree : (n : ℕ) (q : K) (xs ys zs : List (Change K V)) → IsPrefix xs zs → IsPrefix ys zs → part q ≡ n → count_of part n ys ≡ count_of part n xs
        → map_after eq ys q ≡ map_after eq xs q
    parts_agree n q xs ys zs p r at same =
        elim (prefix_either xs ys zs p r) [ inl b ↦ part_stays n q xs ys b at same | inr b ↦ sym (part_stays n q ys xs b at (sym same)) ]

module _ {K V S : Type 0} where
  pub changes_in-append : (xs ys : List (Note K V S)) → changes_in (xs ++ ys) ≡ changes_in xs ++ changes_in ys
  changes_in-append [] ys = refl
  changes_in-append (Opened s ∷ xs) ys = changes_in-append xs ys
  changes_in-append (Changed c ∷ xs) ys = ap (λ cs. c ∷ cs) (changes_in-append xs ys)
  changes_in-append (Nothing ∷ xs) ys = changes_in-append xs ys

  -- a beginning of a log has a beginning of the history
  pub changes_in-prefix : (xs ys : List (Note K V S)) → IsPrefix xs ys → IsPrefix (changes_in xs) (changes_in ys)
  changes_in-prefix xs ys p = (changes_in p.0, sym (changes_in-append xs p.0) ∙ ap changes_in p.1)

  -- a change of the caller's own with which a log ends stands at the end of what was seen
  pub adds : (key : K) (put : Option V) (before : Option (K × V)) (own own' : Hand K V) (old new : List (Note K V S)) → EndsBy key put before own own' old new
      → Adds key put before (changes_in old, own) (changes_in new, own')
  adds key put before own own' old new e =
      let c = change_by own own' key put before in
      let log = e.0.0 in
      let p = changes_in-prefix old log e.0.1 in
      record {
        between = p.0;
        ends = ap changes_in e.0.2 ∙ (changes_in-append log (Changed c ∷ []) ∙ ap (λ (l : List (Change K V)). l ++ c ∷ []) (sym p.1));
        makes = e.1;
      }

  map_more : (cs : List (Change K V)) (c : Change K V) → map {B = Note K V S} Changed (cs ++ c ∷ []) ≡ map Changed cs ++ Changed c ∷ []
  map_more [] c = refl
  map_more (x ∷ xs) c = ap (λ t. Changed x ∷ t) (map_more xs c)

  pub changes_in-more : (log : List (Note K V S)) (c : Change K V) → changes_in (log ++ Changed c ∷ []) ≡ changes_in log ++ c ∷ []
  changes_in-more log c = changes_in-append log (Changed c ∷ [])

  pub opened_more : (s : S) (log : List (Note K V S)) (c : Change K V) → IsOpenedFor s log → IsOpenedFor s (log ++ Changed c ∷ [])
  opened_more s log c o =
      let h : log ++ Changed c ∷ [] ≡ Opened s ∷ (map Changed (changes_in log) ++ Changed c ∷ []) = ap (λ l. l ++ Changed c ∷ []) o in
      h ∙ ap (λ t. Opened s ∷ t) (sym (map_more (changes_in log) c) ∙ ap (map Changed) (sym (changes_in-more log c)))

  -- two logs of which one begins the other were opened for one hash builder
  pub opened_same : (s t : S) (xs ys : List (Note K V S)) → IsPrefix xs ys → IsOpenedFor s xs → IsOpenedFor t ys → s ≡ t
  opened_same s t xs ys p o r =
      let e : Opened s ∷ (map Changed (changes_in xs) ++ p.0) ≡ Opened t ∷ map Changed (changes_in ys) = sym (ap (λ l. l ++ p.0) o) ∙ (p.1 ∙ r) in
      cc (e)
