-- What holds stays so while the requests of a client leave.
use Rattle.std.proofs.Common.{◌≡◌, ◌≢◌, ℕ, suc, ◌+◌, ◌≤◌, List, [], ◌∷◌, length, Option, Some, slice_get, refl, sym, ap, ◌∙◌, subst}
use Rattle.moka_hist.specs.Finite.{put_at}
use Rattle.moka_laws.proofs.Counting.{put_cases}
use Rattle.moka_requests.specs.declared.request.Request.{Request}
use Rattle.moka_collapsing.specs.declared.slot.Slot.{Slot}
use Rattle.moka_collapsing.specs.declared.slot.Slot.TheVariants.{Waits, Answered}
use Rattle.moka_collapsing.specs.Clients.{Client}
use Rattle.moka_collapsing.specs.Folds.{folded}
use Rattle.moka_collapsing.specs.Runs.{Event}
use Rattle.moka_collapsing.specs.Served.{IsAmong, place_at}
use Rattle.moka_collapsing.specs.Upstream.{Upstream, Waiter, left, without}
use Rattle.moka_collapsing.proofs.Holding.{HoldsAt, HoldsClient, HoldsGone, Upholds, moved}
use Rattle.moka_collapsing.proofs.Lawful.{left_stored}
use Rattle.moka_collapsing.proofs.Slots.{among_stays, among_without, answered_at, get_after}

left_last : (slots : List Slot) (u : Upstream) → (folded left u slots).last ≡ u.last
left_last [] u = refl
left_last (Waits key n ∷ slots) u = left_last slots (left u (Waits key n))
left_last (Answered a ∷ slots) u = left_last slots u

-- who waits then has waited before
left_back : (slots : List Slot) (u : Upstream) (k : ℕ) (w : Waiter) → IsAmong w ((folded left u slots).waiting k) → IsAmong w (u.waiting k)
left_back [] u k w on = on
left_back (Waits key n ∷ slots) u k w on = one (left_back slots (left u (Waits key n)) k w on)
  where
    one : IsAmong w (put_at u.waiting key (without n (u.waiting key)) k) → IsAmong w (u.waiting k)
    one here = put_cases u.waiting key (without n (u.waiting key)) k _ (IsAmong w (u.waiting k)) refl
        (λ same is. subst (λ j. IsAmong w (u.waiting j)) same (among_without n (u.waiting key) w (subst (λ l. IsAmong w l) (sym is) here)))
        (λ other is. subst (λ l. IsAmong w l) (sym is) here)
left_back (Answered a ∷ slots) u k w on = left_back slots u k w on

-- who isn't one of these waits further on
left_stays : (slots : List Slot) (u : Upstream) (k : ℕ) (w : Waiter) → ((i : ℕ) → slice_get slots i ≡ Some (Waits k w.0) → ⊥) →
    IsAmong w (u.waiting k) → IsAmong w ((folded left u slots).waiting k)
left_stays [] u k w none on = on
left_stays (Waits key n ∷ slots) u k w none on = left_stays slots (left u (Waits key n)) k w (λ i e. none (suc i) e) one
  where
    not_it : key ≡ k → n ≡ w.0 → ⊥
    not_it same e = none 0 (ap (λ j. Some (Waits j n)) same ∙ ap (λ m. Some (Waits k m)) e)

    one : IsAmong w (put_at u.waiting key (without n (u.waiting key)) k)
    one = put_cases u.waiting key (without n (u.waiting key)) k _ (IsAmong w (put_at u.waiting key (without n (u.waiting key)) k)) refl
        (λ same is. subst (λ l. IsAmong w l) is (among_stays n (u.waiting key) w (not_it same) (subst (λ j. IsAmong w (u.waiting j)) (sym same) on)))
        (λ other is. subst (λ l. IsAmong w l) is on)
left_stays (Answered a ∷ slots) u k w none on = left_stays slots u k w (λ i e. none (suc i) e) on

module _ (events : List Event) (u : Upstream) (top number : ℕ) (requests : List Request) (bytes : List ℕ) (client : Client)
    (up : Upholds events u top) (h : HoldsClient events u.waiting number requests bytes client) where
  abbrev after : Upstream
  after = folded left u client.requests

  pub up_closed : Upholds events after top
  up_closed = record {
    stored = λ key value e. up.stored key value (sym (left_stored u client.requests key) ∙ e);
    numbered = λ k w on. subst (λ n. w.0 ≤ n) (sym (left_last client.requests u)) (up.numbered k w (left_back client.requests u k w on));
    known = λ k w on. up.known k w (left_back client.requests u k w on);
    unique = λ k w v onw onv. up.unique k w v (left_back client.requests u k w onw) (left_back client.requests u k v onv);
  }

  pub gone : HoldsGone events number requests bytes
  gone = record {
    answers = h.answers;
    sent = h.sent;
    answered = λ i a e. h.stands i (Answered a) (answered_at h.answers client.requests i a e);
  }

  none_here : (n k m i : ℕ) → number ≢ n → IsAmong (m, place_at n i) (u.waiting k) → (j : ℕ) → slice_get client.requests j ≡ Some (Waits k m) → ⊥
  none_here n k m i other on j e =
      let t = h.stands (length h.answers + j) (Waits k m) (get_after h.answers client.requests j ∙ e) in
      other (ap (λ p. p.client) (up.unique k (m, place_at number (length h.answers + j)) (m, place_at n i) t.2.1 on refl))

  pub others_closed : (n : ℕ) → number ≢ n → (asked : List Request) (sent : List ℕ) (it : Option Client) → HoldsAt events u.waiting n asked sent it → HoldsAt events after.waiting n asked sent it
  others_closed n other asked sent it hold = moved events u.waiting after.waiting n
      (λ k m i on. left_stays client.requests u k (m, place_at n i) (none_here n k m i other on) on)
      (λ k m i on. left_back client.requests u k (m, place_at n i) on)
      asked sent it hold
