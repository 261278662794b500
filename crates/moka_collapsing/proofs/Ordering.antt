-- Replies go in the order of the requests.
use Rattle.std.proofs.Common.{◌≡◌, ℕ, List, [], ◌∷◌, ◌++◌, map, drop, length, Option, Some, None, IfSome, refl, sym, ap, subst, arith, length-append}
use Rattle.std.proofs.lemmas.List.{length-map}
use Rattle.moka_collapsing.specs.declared.slot.Slot.{Slot}
use Rattle.moka_collapsing.specs.declared.slot.Slot.TheVariants.{Waits, Answered}
use Rattle.moka_collapsing.specs.declared.slot.Place.{Place}
use Rattle.moka_collapsing.specs.Clients.{Client, due_answers, front_answer}
use Rattle.moka_collapsing.specs.Laws.{IsSentInOrder, OpensOne}
use Rattle.moka_collapsing.specs.Upstream.{Upstream, Waiter, asked_at, fetch_of}

pub front_split : (slots : List Slot) → slots ≡ map Answered (due_answers slots) ++ drop (length (due_answers slots)) slots
front_split [] = refl
front_split (Answered a ∷ slots) = ap (λ l. Answered a ∷ l) (front_split slots)
front_split (Waits key number ∷ slots) = refl

pub front_stops : (slots : List Slot) → front_answer (drop (length (due_answers slots)) slots) ≡ None
front_stops [] = refl
front_stops (Answered a ∷ slots) = front_stops slots
front_stops (Waits key number ∷ slots) = refl

pub in_order : (client : Client) → IsSentInOrder client
in_order client = record {
  front = front_split client.requests;
  stops = front_stops client.requests;
  counted = omega (arith, ap length (front_split client.requests), length-append (map Answered (due_answers client.requests)) (drop (length (due_answers client.requests)) client.requests), length-map (due_answers client.requests) Answered);
}

opens_first : (u : Upstream) (key : ℕ) → u.stored key ≡ None → (ws : List Waiter) → u.waiting key ≡ ws →
    IfSome (fetch_of ws key) (λ k. (k ≡ key) × (u.stored key ≡ None) × (u.waiting key ≡ []))
opens_first u key e [] f = (refl, e, f)
opens_first u key e (w ∷ ws) f = tt

pub opens_one : (u : Upstream) (key : ℕ) (place : Place) → OpensOne u key place
opens_one u key place = by (u.stored key) refl
  where
    by : (x : Option ℕ) → u.stored key ≡ x → OpensOne u key place
    by (Some value) e = subst (λ x. IfSome (asked_at x u key place).0.fetch (λ k. (k ≡ key) × (u.stored key ≡ None) × (u.waiting key ≡ []))) (sym e) tt
    by None e = subst (λ x. IfSome (asked_at x u key place).0.fetch (λ k. (k ≡ key) × (u.stored key ≡ None) × (u.waiting key ≡ []))) (sym e) (opens_first u key e (u.waiting key) refl)
