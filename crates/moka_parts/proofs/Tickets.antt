-- Which changes were made with a ticket.
use Rattle.std.proofs.Common.{◌≡◌, ℕ, ◌==◌, Bool, true, false, cond, inl, inr, List, [], ◌∷◌, ◌++◌, refl, ap, sym, subst, ◌∙◌}
use Rattle.std.proofs.lemmas.Bool.{eq-eqb, true≢false}
use Rattle.std.proofs.lemmas.Bool.Decides.{eqb_tells}
use Rattle.std.proofs.lemmas.List.{append-nil}
use mathlib.Core.List.{IsPrefix}
use Rattle.logbook.specs.Pages.{Cell, cell}
use Rattle.moka_parts.specs.declared.change.Change.{Change}
use Rattle.moka_parts.specs.Changes.{made_with, ticket_after, IsUnspent}
use Rattle.moka_parts.specs.Rules.{AreSpent}

module _ {K V : Type 0} where
  -- changes that don't spend the ticket are made with none that took its place
  made_with-unspent : (t : ℕ) (ys : List (Change K V)) → IsUnspent t ys → made_with t ys ≡ []
  made_with-unspent t [] h = refl
  made_with-unspent t (y ∷ ys) h = ap (λ (b : Bool). cond b (y ∷ made_with y.next ys) (made_with t ys)) h.0 ∙ made_with-unspent t ys h.1

  ticket_after-unspent : (t : ℕ) (ys : List (Change K V)) → IsUnspent t ys → ticket_after t ys ≡ t
  ticket_after-unspent t [] h = refl
  ticket_after-unspent t (y ∷ ys) h = ap (λ (b : Bool). ticket_after (cond b y.next t) ys) h.0 ∙ ticket_after-unspent t ys h.1

  made_with-append : (t : ℕ) (xs ys : List (Change K V)) → made_with t (xs ++ ys) ≡ made_with t xs ++ made_with (ticket_after t xs) ys
  made_with-append t [] ys = refl
  made_with-append t (x ∷ xs) ys =
      let by : (b : Bool) → cond b (x ∷ made_with x.next (xs ++ ys)) (made_with t (xs ++ ys)) ≡ cond b (x ∷ made_with x.next xs) (made_with t xs) ++ made_with (ticket_after (cond b x.next t) xs) ys =
      elim [ true ↦ ap (λ cs. x ∷ cs) (made_with-append x.next xs ys) | false ↦ made_with-append t xs ys ] in
      by (x.spent == t)

  ticket_after-append : (t : ℕ) (xs ys : List (Change K V)) → ticket_after t (xs ++ ys) ≡ ticket_after (ticket_after t xs) ys
  ticket_after-append t [] ys = refl
  ticket_after-append t (x ∷ xs) ys = ticket_after-append (cond (x.spent == t) x.next t) xs ys

  unspent_rest : (t : ℕ) (xs ys : List (Change K V)) → IsUnspent t (xs ++ ys) → IsUnspent t ys
  unspent_rest t [] ys h = h
  unspent_rest t (x ∷ xs) ys h = unspent_rest t xs ys h.1

  -- what was unspent in a longer history was so in its beginning
  pub unspent_before : (t : ℕ) (xs ys : List (Change K V)) → IsUnspent t (xs ++ ys) → IsUnspent t xs
  unspent_before t [] ys h = tt
  unspent_before t (x ∷ xs) ys h = (h.0, unspent_before t xs ys h.1)

  -- with a ticket that nobody has spent nothing was made
  pub nothing_made : (t : ℕ) (xs : List (Change K V)) → IsUnspent t xs → (made_with t xs ≡ []) × (ticket_after t xs ≡ t)
  nothing_made t xs h = (made_with-unspent t xs h, ticket_after-unspent t xs h)

  module _ (t : ℕ) (xs zs : List (Change K V)) (pre : IsPrefix xs zs) (free : IsUnspent (ticket_after t xs) zs) where
    abbrev rest : List (Change K V)
    rest = pre.0

    rest_free : IsUnspent (ticket_after t xs) rest
    rest_free = unspent_rest (ticket_after t xs) xs rest (subst (IsUnspent (ticket_after t xs)) (sym pre.1) free)

    -- what was made with a ticket stays while nobody spends the one that has its place
    made_stays : made_with t zs ≡ made_with t xs ++ []
    made_stays = ap (made_with t) (sym pre.1) ∙ (made_with-append t xs rest ∙ ap (λ (cs : List (Change K V)). made_with t xs ++ cs) (made_with-unspent (ticket_after t xs) rest rest_free))

    ticket_stays : ticket_after t zs ≡ ticket_after t xs
    ticket_stays = ap (ticket_after t) (sym pre.1) ∙ (ticket_after-append t xs rest ∙ ticket_after-unspent (ticket_after t xs) rest rest_free)

    -- one more change, on which that one is spent
    pub made_more : (c : Change K V) → c.spent ≡ ticket_after t xs → (ws : List (Change K V)) → ws ≡ zs ++ c ∷ []
        → (made_with t ws ≡ made_with t xs ++ c ∷ []) × (ticket_after t ws ≡ c.next)
    made_more c spends ws is =
        let b : (c.spent == ticket_after t zs) ≡ true = eq-eqb c.spent (ticket_after t zs) (spends ∙ sym ticket_stays) in
        let one : made_with (ticket_after t zs) (c ∷ []) ≡ c ∷ [] = ap (λ (b : Bool). cond b (c ∷ []) []) b in
        let now : ticket_after (ticket_after t zs) (c ∷ []) ≡ c.next = ap (λ (b : Bool). cond b c.next (ticket_after t zs)) b in
        let nil : made_with t zs ≡ made_with t xs = made_stays ∙ append-nil (made_with t xs) in (
          ap (made_with t) is ∙ (made_with-append t zs (c ∷ []) ∙ (ap (λ (cs : List (Change K V)). made_with t zs ++ cs) one ∙ ap (λ (cs : List (Change K V)). cs ++ c ∷ []) nil)),
          ap (ticket_after t) is ∙ (ticket_after-append t zs (c ∷ []) ∙ now),
        )

  -- words at home stay so
  pub are_spent_still : (cs ds : List Cell) → ((n : ℕ) → (cell cs n).1 ≡ true → (cell ds n).1 ≡ true) → (xs : List (Change K V)) → AreSpent cs xs → AreSpent ds xs
  are_spent_still cs ds stay [] h = tt
  are_spent_still cs ds stay (x ∷ xs) h = (stay x.spent h.0, are_spent_still cs ds stay xs h.1)

  pub are_spent_more : (cs : List Cell) (xs : List (Change K V)) (c : Change K V) → AreSpent cs xs → (cell cs c.spent).1 ≡ true → AreSpent cs (xs ++ c ∷ [])
  are_spent_more cs [] c h one = (one, tt)
  are_spent_more cs (x ∷ xs) c h one = (h.0, are_spent_more cs xs c h.1 one)

  -- a ticket whose word isn't at home was not spent
  pub unspent_away : (cs : List Cell) (t : ℕ) → (cell cs t).1 ≡ false → (xs : List (Change K V)) → AreSpent cs xs → IsUnspent t xs
  unspent_away cs t away [] h = tt
  unspent_away cs t away (x ∷ xs) h =
      let apart : (x.spent == t) ≡ false = elim (eqb_tells x.spent t) [
        | inl p ↦ absurd (true≢false (sym h.0 ∙ (ap (λ (n : ℕ). (cell cs n).1) p.1 ∙ away)))
        | inr p ↦ p.0
      ] in
      (apart, unspent_away cs t away xs h.1)
