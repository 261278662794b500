-- What the map of a part has is what the history says.
use Rattle.std.proofs.Common.{◌≡◌, ℕ, ◌+◌, ◌<◌, ◌==◌, Bool, true, false, cond, List, [], ◌∷◌, ◌++◌, refl, ap, sym, subst, ◌∙◌, arith, Option, None, IfSome}
use Rattle.std.proofs.lemmas.Bool.{eq-eqb, eqb-true}
use Rattle.std.specs.HashMap.{HashMap}
use mathlib.Core.List.{IsPrefix}
use Rattle.logbook.specs.Pages.{Book, Named, Nib, nib, may_make_home}
use Rattle.moka_parts.specs.declared.change.Change.{Change}
use Rattle.moka_parts.specs.declared.held.Held.{Held}
use Rattle.moka_parts.specs.declared.note.Note.{Note}
use Rattle.moka_parts.specs.declared.note.Note.TheVariants.{Opened, Changed}
use Rattle.moka_parts.specs.Changes.{pair_put, pair_after, map_after, count_of}
use Rattle.moka_parts.specs.Logs.{changes_in, IsOpenedFor, Counts, Grows}
use Rattle.moka_parts.specs.Pairs.{pair_at, pair_in}
use Rattle.moka_parts.specs.Parts.{IsPart, IsIn}
use Rattle.moka_parts.specs.Rules.{word_of}
use Rattle.moka_parts.proofs.Prefixes.{prefix_trans}
use Rattle.moka_parts.proofs.Histories.{pair_after-append, count_of-more, part_stays, changes_in-prefix, changes_in-more, opened_same}
use Rattle.moka_parts.proofs.Steps.{nothing_is_legal}

-- the word that was made with the pen of this number
pub word_made : (word : Named) (pen : Nib) (of book : Book) (number : ℕ) → word ≡ record { tracked = true; key = pen.key; book = of } → of ≡ book → pen ≡ nib may_make_home number 0
    → word ≡ word_of book number
word_made word pen of book number is of_is pen_is = is ∙ (λ i. record { tracked = true; key = (pen_is i).key; book = of_is i })

-- a part without pairs, whose front has no change
pub just_made : {K V S : Type 0} (eq : K → K → Bool) (part : S → K → ℕ) (holds : K → V → Type 0) (book : Book) (number : ℕ) (word : Named) (front : List (Note K V S))
    (map : HashMap K (Held K V) S) → number < 64 → word ≡ word_of book number → (s : S) → front ≡ Opened s ∷ [] → map.entries ≡ []
    → IsPart eq part holds book number 0 word front map
just_made {K} {V} {S} eq part holds book number word front map small word_is s opened none =
    let first : Counts {V = V} eq part s number 0 (Opened s ∷ []) = record { opened = refl; count_is = refl; legal = nothing_is_legal eq } in
    let no_pair : (q : K) → pair_at eq map q ≡ None = λ q. ap (λ (es : List (K × Held K V)). pair_in eq es q) none in
    let none_after : (q : K) (b : Bool) → None ≡ cond b (map_after eq (changes_in front) q) None =
    λ q. elim [ true ↦ sym (ap (λ (l : List (Note K V S)). map_after eq (changes_in l) q) opened) | false ↦ refl ] in
    record {
      hasher = s;
      small = small;
      word_is = word_is;
      counts = subst (λ (l : List (Note K V S)). Counts eq part s number 0 l) (sym opened) first;
      same = λ q. no_pair q ∙ none_after q (part s q == number);
      meets = λ q. subst (λ (o : Option (K × V)). IfSome o (λ x. holds q x.1)) (sym (no_pair q)) tt;
    }

module _ {K V S : Type 0} (eq : K → K → Bool) (part : S → K → ℕ) (holds : K → V → Type 0)
    (alike : (s : S) (x y : K) → eq x y ≡ true → part s x ≡ part s y) where
  -- the key is of the part by the part's own hash builder, too
  pub is_here : (number : ℕ) (key : K) (h : S) (start front new : List (Note K V S)) → IsIn eq part holds number key start
      → IsPrefix start new → IsPrefix front new → (t : S) → IsOpenedFor t new → IsOpenedFor h front → part h key ≡ number
  is_here number key h start front new here p r t all opened =
      let a : here.0 ≡ t = opened_same here.0 t start new p here.1 all in
      let b : h ≡ t = opened_same h t front new r opened all in
      subst (λ (u : S). part u key ≡ number) (a ∙ sym b) here.2

  module _ (book : Book) (number count : ℕ) (word : Named) (front : List (Note K V S)) (map : HashMap K (Held K V) S) (p : IsPart eq part holds book number count word front map) where
    -- a map with the same pairs will do
    pub with_pairs : (m : HashMap K (Held K V) S) → ((q : K) → pair_at eq m q ≡ pair_at eq map q) → IsPart eq part holds book number count word front m
    with_pairs m same =
        record {
          hasher = p.hasher;
          small = p.small;
          word_is = p.word_is;
          counts = p.counts;
          same = λ q. same q ∙ p.same q;
          meets = λ q. subst (λ (o : Option (K × V)). IfSome o (λ x. holds q x.1)) (sym (same q)) (p.meets q);
        }

    -- the map has at a key of the part what its front says
    pub front_says : (key : K) → part p.hasher key ≡ number → pair_at eq map key ≡ map_after eq (changes_in front) key
    front_says key here = p.same key ∙ ap (λ (b : Bool). cond b (map_after eq (changes_in front) key) None) (eq-eqb (part p.hasher key) number here)

    -- and what each later history says that has as many changes of the part
    pub map_says : (key : K) (new : List (Note K V S)) (t : S) → part p.hasher key ≡ number → IsPrefix front new → Counts eq part t number count new
        → pair_at eq map key ≡ map_after eq (changes_in new) key
    map_says key new t here begins seen =
        let h : p.hasher ≡ t = opened_same p.hasher t front new begins p.counts.opened seen.opened in
        let many : count_of (part p.hasher) number (changes_in new) ≡ count = sym (subst (λ (u : S). count ≡ count_of (part u) number (changes_in new)) (sym h) seen.count_is) in
        front_says key here ∙ sym (part_stays eq (part p.hasher) (alike p.hasher) number key (changes_in front) (changes_in new) (changes_in-prefix front new begins) here (many ∙ p.counts.count_is))

    -- what a look finds, by the number and the count that it compared
    pub find_says : (asked found : ℕ) → number ≡ asked → found ≡ count → (key : K) (start new : List (Note K V S)) → IsIn eq part holds asked key start
        → IsPrefix start new → IsPrefix front new → (t : S) → Counts eq part t asked found new → pair_at eq map key ≡ map_after eq (changes_in new) key
    find_says asked found same counted key start new here r begins t seen =
        let at : part p.hasher key ≡ number = is_here asked key p.hasher start front new here r begins t seen.opened p.counts.opened ∙ sym same in
        let seen' : Counts eq part t number count new = subst (λ (n : ℕ). Counts eq part t n count new) (sym same) (subst (λ (n : ℕ). Counts eq part t asked n new) counted seen) in
        map_says key new t at begins seen'

    -- what a listing finds at each key
    pub keys_say : (asked found : ℕ) → number ≡ asked → found ≡ count → (start new : List (Note K V S)) (s : S) → IsOpenedFor s start
        → IsPrefix start new → IsPrefix front new → (t : S) → Counts eq part t asked found new
        → (q : K) → pair_at eq map q ≡ cond (part s q == asked) (map_after eq (changes_in new) q) None
    keys_say asked found same counted start new s opened r begins t seen q =
        let h : p.hasher ≡ s = opened_same p.hasher t front new begins p.counts.opened seen.opened ∙ sym (opened_same s t start new r opened seen.opened) in
        let seen' : Counts eq part t number count new = subst (λ (n : ℕ). Counts eq part t n count new) (sym same) (subst (λ (n : ℕ). Counts eq part t asked n new) counted seen) in
        let by : (b : Bool) → (part p.hasher q == number) ≡ b → pair_at eq map q ≡ cond b (map_after eq (changes_in new) q) None =
        elim [
          | true ↦ (λ e. map_says q new t (eqb-true (part p.hasher q) number e) begins seen')
          | false ↦ (λ e. p.same q ∙ ap (λ (b : Bool). cond b (map_after eq (changes_in front) q) None) e)
        ] in
        let here = by (part p.hasher q == number) refl in
        subst (λ (u : S). pair_at eq map q ≡ cond (part u q == asked) (map_after eq (changes_in new) q) None) h
        (subst (λ (n : ℕ). pair_at eq map q ≡ cond (part p.hasher q == n) (map_after eq (changes_in new) q) None) same here)

    module _ (c : Change K V) (me new : List (Note K V S)) (here : part p.hasher c.key ≡ number) (begins : IsPrefix front me) (grows : Grows eq part number (count + 1) c me new) where
      later : IsPrefix front grows.log
      later = prefix_trans front me grows.log begins grows.begins

      whole : IsPrefix front new
      whole = prefix_trans front grows.log new later (Changed c ∷ [], sym grows.new_is)

      one : p.hasher ≡ grows.hasher
      one = opened_same p.hasher grows.hasher front new whole p.counts.opened grows.counts.opened

      counted : count_of (part p.hasher) number (changes_in grows.log) ≡ count
      counted =
          let t = part p.hasher in
          let a : count + 1 ≡ count_of t number (changes_in new) = subst (λ (u : S). count + 1 ≡ count_of (part u) number (changes_in new)) (sym one) grows.counts.count_is in
          let b : changes_in new ≡ changes_in grows.log ++ c ∷ [] = ap changes_in grows.new_is ∙ changes_in-more grows.log c in
          let d = count_of-more t number (changes_in grows.log) c in
          let e : cond (t c.key == number) (count_of t number (changes_in grows.log) + 1) (count_of t number (changes_in grows.log)) ≡ count_of t number (changes_in grows.log) + 1 =
          ap (λ (b : Bool). cond b (count_of t number (changes_in grows.log) + 1) (count_of t number (changes_in grows.log))) (eq-eqb (t c.key) number here) in
          let f : count + 1 ≡ count_of t number (changes_in grows.log) + 1 = a ∙ (ap (count_of t number) b ∙ (d ∙ e)) in
          omega arith

      -- the map after the change is what the longer history says
      pub map_follows : (new_map : HashMap K (Held K V) S) → ((q : K) → pair_at eq new_map q ≡ cond (eq c.key q) (pair_put c) (pair_at eq map q))
          → (q : K) → pair_at eq new_map q ≡ cond (part grows.hasher q == number) (map_after eq (changes_in new) q) None
      map_follows new_map made q =
          let t = part p.hasher in
          let b : changes_in new ≡ changes_in grows.log ++ c ∷ [] = ap changes_in grows.new_is ∙ changes_in-more grows.log c in
          let after : map_after eq (changes_in new) q ≡ cond (eq c.key q) (pair_put c) (map_after eq (changes_in grows.log) q) =
          ap (pair_after eq q None) b ∙ pair_after-append eq q None (changes_in grows.log) (c ∷ []) in
          let by : (b : Bool) → eq c.key q ≡ b → cond b (pair_put c) (pair_at eq map q) ≡ cond (t q == number) (cond b (pair_put c) (map_after eq (changes_in grows.log) q)) None =
          elim [
            | true ↦ (λ e. sym (ap (λ (d : Bool). cond d (pair_put c) None) (eq-eqb (t q) number (sym (alike p.hasher c.key q e) ∙ here))))
            | false ↦ (λ e.
                let in_part : (d : Bool) → (t q == number) ≡ d → cond d (map_after eq (changes_in front) q) None ≡ cond d (map_after eq (changes_in grows.log) q) None =
                elim [
                  | true ↦ (λ f. sym (part_stays eq t (alike p.hasher) number q (changes_in front) (changes_in grows.log) (changes_in-prefix front grows.log later) (eqb-true (t q) number f) (counted ∙ p.counts.count_is)))
                  | false ↦ (λ f. refl)
                ] in
                p.same q ∙ in_part (t q == number) refl)
          ] in
          let all : pair_at eq new_map q ≡ cond (t q == number) (map_after eq (changes_in new) q) None =
          made q ∙ (by (eq c.key q) refl ∙ ap (λ (o : Option (K × V)). cond (t q == number) o None) (sym after)) in
          subst (λ (u : S). pair_at eq new_map q ≡ cond (part u q == number) (map_after eq (changes_in new) q) None) one all

      -- the part after the change
      pub part_follows : (new_map : HashMap K (Held K V) S) → ((q : K) → pair_at eq new_map q ≡ cond (eq c.key q) (pair_put c) (pair_at eq map q))
          → ((q : K) → eq c.key q ≡ true → IfSome (pair_put c) (λ p. holds q p.1))
          → IsPart eq part holds book number (count + 1) word new new_map
      part_follows new_map made owes =
          let meets : (q : K) → IfSome (pair_at eq new_map q) (λ p. holds q p.1) =
          λ q.
          let by : (b : Bool) → eq c.key q ≡ b → IfSome (cond b (pair_put c) (pair_at eq map q)) (λ p. holds q p.1) =
          elim [ true ↦ (λ e. owes q e) | false ↦ (λ e. p.meets q) ] in
          subst (λ (o : Option (K × V)). IfSome o (λ p. holds q p.1)) (sym (made q)) (by (eq c.key q) refl) in
          record { hasher = grows.hasher; small = p.small; word_is = p.word_is; counts = grows.counts; same = map_follows new_map made; meets = meets }
