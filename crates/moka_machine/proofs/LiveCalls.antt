-- The live calls, listed by the places of a machine's calls.
use Rattle.std.proofs.Common.{◌≡◌, ℕ, Bool, true, false, cond, List, [], ◌∷◌, Option, Some, None, nat_eq, refl, sym, ap, subst, ◌∙◌}
use Rattle.std.specs.Cmp.{nat_eq_equiv}
use Rattle.std.specs.List.{IsDistinct, AllByRecursion, filter_map, cons_option}
use Rattle.std.specs.Map.{lookup, keys_of, values_of}
use Rattle.std.specs.Option.{option_map, option_and_then}
use Rattle.std.proofs.lemmas.Map.{lookup-none}
use Rattle.std.proofs.lemmas.Map.Entries.{none_past_head}
use Rattle.moka_hist.specs.State.{Call}
use Rattle.moka_hist.specs.declared.visits.Visit.{Visit}
use Rattle.moka_init.specs.FlowPlan.{opening}
use Rattle.moka_machine.specs.Calls.{held_in, due_in, opening_of, AreDue, AreNumbered}
use Rattle.moka_machine.specs.Machine.{call_in}
use Rattle.moka_machine.specs.Listed.{held_number, AreHeld}
use Rattle.moka_machine.specs.declared.call_places.Running.{Running}

module _ {K V E : Type 0} where
  -- the live call of a place
  abbrev live : ℕ × Option (Running K V E) → Option (ℕ × Call K V E)
  live p = option_map (λ r. (p.0, call_in r)) p.1

  -- a place of the map, as a live call
  abbrev at_key : Option (Option (Running K V E)) → Option (Call K V E)
  at_key found = option_map call_in (option_and_then (λ place. place) found)

  -- a key that none of the places has is none of a live call
  apart : (n : ℕ) (es : List (ℕ × Option (Running K V E))) → AllByRecursion (λ y. nat_eq n y ≡ false) (keys_of es)
      → AllByRecursion (λ y. nat_eq n y ≡ false) (keys_of (filter_map live es))
  apart n [] h = h
  apart n ((k, None) ∷ es) h = apart n es h.1
  apart n ((k, Some r) ∷ es) h = (h.0, apart n es h.1)

  distinct : (es : List (ℕ × Option (Running K V E))) → IsDistinct nat_eq (keys_of es) → IsDistinct nat_eq (keys_of (filter_map live es))
  unfolding IsDistinct
  distinct [] h = h
  distinct ((k, None) ∷ es) h = distinct es h.1
  distinct ((k, Some r) ∷ es) h = (apart k es h.0, distinct es h.1)

  tail : (e : ℕ × Option (Running K V E)) (es : List (ℕ × Option (Running K V E))) → IsDistinct nat_eq (keys_of (e ∷ es)) → IsDistinct nat_eq (keys_of es)
  unfolding IsDistinct
  tail e es h = h.1

  -- a look-up past a place of no call
  past : (q k : ℕ) (es : List (ℕ × Option (Running K V E))) → IsDistinct nat_eq (keys_of ((k, None) ∷ es)) → (b : Bool) → nat_eq q k ≡ b
      → at_key (lookup (nat_eq q) es) ≡ at_key (cond b (Some None) (lookup (nat_eq q) es))
  past q k es h true e = ap at_key (lookup-none (nat_eq q) es (none_past_head nat_eq_equiv q (k, None) es h e))
  past q k es h false e = refl

  -- a look-up that begins at a live call
  first : (r : Running K V E) (found : Option (Call K V E)) (rest : Option (Option (Running K V E))) → found ≡ at_key rest → (b : Bool)
      → cond b (Some (call_in r)) found ≡ at_key (cond b (Some (Some r)) rest)
  first r found rest e true = refl
  first r found rest e false = e

  looked_up : (q : ℕ) (es : List (ℕ × Option (Running K V E))) → IsDistinct nat_eq (keys_of es)
      → lookup (nat_eq q) (filter_map live es) ≡ at_key (lookup (nat_eq q) es)
  looked_up q [] h = refl
  looked_up q ((k, None) ∷ es) h = looked_up q es (tail (k, None) es h) ∙ past q k es h (nat_eq q k) refl
  looked_up q ((k, Some r) ∷ es) h = first r (lookup (nat_eq q) (filter_map live es)) (lookup (nat_eq q) es) (looked_up q es (tail (k, Some r) es h)) (nat_eq q k)

  same_numbers : (es : List (ℕ × Option (Running K V E))) → filter_map held_in (values_of es) ≡ filter_map held_number (filter_map live es)
  same_numbers [] = refl
  same_numbers ((k, None) ∷ es) = same_numbers es
  same_numbers ((k, Some r) ∷ es) = ap (cons_option (held_number (k, call_in r))) (same_numbers es)

  -- the numbers that the places hold are those of the live calls
  pub live_hold : (es : List (ℕ × Option (Running K V E))) → IsDistinct nat_eq (keys_of es) → (numbers : List ℕ) → numbers ≡ filter_map held_in (values_of es)
      → AreHeld numbers (λ n. at_key (lookup (nat_eq n) es))
  live_hold es unique numbers e =
      record {
        calls = filter_map live es;
        lists = record { distinct = distinct es unique; same = λ q. looked_up q es unique };
        are = e ∙ same_numbers es;
      }

  -- each running call of the places is of its number
  abbrev Numbered : List (ℕ × Option (Running K V E)) → Type 0
  Numbered es = AreNumbered (λ n. option_and_then (λ place. place) (lookup (nat_eq n) es))

  tail_numbered : (k : ℕ) (p : Option (Running K V E)) (es : List (ℕ × Option (Running K V E))) → IsDistinct nat_eq (keys_of ((k, p) ∷ es)) → Numbered ((k, p) ∷ es) → Numbered es
  tail_numbered k p es h numbered n r e = by (nat_eq n k) refl
    where
      by : (b : Bool) → nat_eq n k ≡ b → r.flow.value.call ≡ n
      by true f =
          let none : None ≡ Some r = sym (ap (option_and_then (λ place. place)) (lookup-none (nat_eq n) es (none_past_head nat_eq_equiv n (k, p) es h f))) ∙ e in
          absurd (cc)
      by false f = numbered n r (subst (λ (b : Bool). option_and_then (λ place. place) (cond b (Some p) (lookup (nat_eq n) es)) ≡ Some r) (sym f) e)

  -- the visits that open the notices of the places are those of the live calls
  same_due : (es : List (ℕ × Option (Running K V E))) → IsDistinct nat_eq (keys_of es) → Numbered es
      → filter_map due_in (values_of es) ≡ filter_map opening_of (filter_map live es)
  same_due [] h numbered = refl
  same_due ((k, None) ∷ es) h numbered = same_due es (tail (k, None) es h) (tail_numbered k None es h numbered)
  same_due ((k, Some r) ∷ es) h numbered =
      let itself : nat_eq k k ≡ true = nat_eq_equiv.refl k in
      let own : r.flow.value.call ≡ k =
      numbered k r (subst (λ (b : Bool). option_and_then (λ place. place) (cond b (Some (Some r)) (lookup (nat_eq k) es)) ≡ Some r) (sym itself) refl) in
      ap (λ m. cons_option (opening m (call_in r).plan) (filter_map due_in (values_of es))) own
      ∙ ap (cons_option (opening_of (k, call_in r))) (same_due es (tail (k, Some r) es h) (tail_numbered k (Some r) es h numbered))

  pub live_due : (es : List (ℕ × Option (Running K V E))) → IsDistinct nat_eq (keys_of es) → (visits : List (Visit K V E)) → visits ≡ filter_map due_in (values_of es) → Numbered es
      → AreDue visits (λ n. at_key (lookup (nat_eq n) es))
  live_due es unique visits e numbered =
      record {
        calls = filter_map live es;
        lists = record { distinct = distinct es unique; same = λ q. looked_up q es unique };
        are = e ∙ same_due es unique numbered;
      }
