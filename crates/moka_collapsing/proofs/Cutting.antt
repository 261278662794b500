-- A client that is fed two pieces brings about what it does with one.
use Rattle.std.proofs.Common.{◌≡◌, ℕ, suc, ◌+◌, List, [], ◌∷◌, ◌++◌, map, drop, flat_map, length, refl, sym, ap, ◌∙◌, subst, arith, append_assoc, length-append}
use Rattle.std.specs.Option.{option_to_list}
use Rattle.std.proofs.lemmas.List.{append-nil, length-map}
use Rattle.moka_requests.specs.Requests.{Unfinished, new_requests, unfinished_after}
use Rattle.moka_requests.specs.declared.request.Request.{Request}
use Rattle.moka_requests.specs.declared.request.Request.TheVariants.{Get, Bad}
use Rattle.moka_requests.proofs.Pieces.{in_pieces}
use Rattle.moka_collapsing.specs.declared.answer.Answer.{Answer}
use Rattle.moka_collapsing.specs.declared.answer.Answer.TheVariants as answer
use Rattle.moka_collapsing.specs.declared.slot.Place.{Place}
use Rattle.moka_collapsing.specs.declared.slot.Slot.{Slot}
use Rattle.moka_collapsing.specs.declared.slot.Slot.TheVariants.{Answered}
use Rattle.moka_collapsing.specs.Clients.{Client, due_answers, due_bytes, flushed, made}
use Rattle.moka_collapsing.specs.Folds.{folded}
use Rattle.moka_collapsing.specs.Laws.{IsSameInPieces, second}
use Rattle.moka_collapsing.specs.Reference.{Come, Reference, all_come, comes}
use Rattle.moka_collapsing.specs.Texts.{reply_text}
use Rattle.moka_collapsing.specs.Upstream.{asked}
use Rattle.moka_collapsing.proofs.Ordering.{front_split}

-- one has all that the other has, and these answers before, which the other has sent; and these
-- fetches before
record IsAhead (answers : List Answer) (before : List ℕ) (c d : Come) : Type 0 where
  pub upstream : c.upstream ≡ d.upstream
  pub requests : c.client.requests ≡ map Answered answers ++ d.client.requests
  pub sent : c.client.sent + length answers ≡ d.client.sent
  pub fetches : c.fetches ≡ before ++ d.fetches

ahead_made : (answers : List Answer) (before : List ℕ) (c d : Come) → IsAhead answers before c d → made c.client ≡ made d.client
ahead_made answers before c d is =
    omega (arith, is.sent, ap length is.requests, length-append (map Answered answers) d.client.requests, length-map answers Answered)

ahead_step : (answers : List Answer) (before : List ℕ) (number : ℕ) (r : Request) (c d : Come) → IsAhead answers before c d →
    IsAhead answers before (comes number c r) (comes number d r)
ahead_step answers before number Bad c d is = record {
  upstream = is.upstream;
  requests = ap (λ l. l ++ Answered answer.Bad ∷ []) is.requests ∙ append_assoc (map Answered answers) d.client.requests (Answered answer.Bad ∷ []);
  sent = is.sent;
  fetches = is.fetches;
}
ahead_step answers before number (Get key) c d is =
    let place : ℕ → Place = λ n. record { client = number; index = n } in
    let same : asked c.upstream key (place (made c.client)) ≡ asked d.upstream key (place (made d.client)) =
    ap (λ u. asked u key (place (made c.client))) is.upstream ∙ ap (λ n. asked d.upstream key (place n)) (ahead_made answers before c d is) in
    record {
      upstream = ap (λ p. p.1) same;
      requests = ap (λ p. c.client.requests ++ p.0.slot ∷ []) same
          ∙ ap (λ l. l ++ (asked d.upstream key (place (made d.client))).0.slot ∷ []) is.requests
          ∙ append_assoc (map Answered answers) d.client.requests ((asked d.upstream key (place (made d.client))).0.slot ∷ []);
      sent = is.sent;
      fetches = ap (λ p. c.fetches ++ option_to_list p.0.fetch) same
          ∙ ap (λ l. l ++ option_to_list (asked d.upstream key (place (made d.client))).0.fetch) is.fetches
          ∙ append_assoc before d.fetches (option_to_list (asked d.upstream key (place (made d.client))).0.fetch);
    }

ahead_all : (answers : List Answer) (before : List ℕ) (number : ℕ) (rs : List Request) (c d : Come) → IsAhead answers before c d →
    IsAhead answers before (folded (comes number) c rs) (folded (comes number) d rs)
ahead_all answers before number [] c d is = is
ahead_all answers before number (r ∷ rs) c d is = ahead_all answers before number rs (comes number c r) (comes number d r) (ahead_step answers before number r c d is)

-- a row in two
pub folded_append : {A B : Type 0} (step : A → B → A) (s : A) (xs ys : List B) → folded step s (xs ++ ys) ≡ folded step (folded step s xs) ys
folded_append step s [] ys = refl
folded_append step s (x ∷ xs) ys = folded_append step (step s x) xs ys

-- what is unfinished stays while requests come
pub keeps_unfinished : (number : ℕ) (rs : List Request) (c : Come) → (folded (comes number) c rs).client.unfinished ≡ c.client.unfinished
keeps_unfinished number [] c = refl
keeps_unfinished number (Bad ∷ rs) c = keeps_unfinished number rs (comes number c Bad)
keeps_unfinished number (Get key ∷ rs) c = keeps_unfinished number rs (comes number c (Get key))

-- ---- what is due, once some answers were sent

due_more : (answers : List Answer) (slots : List Slot) → due_answers (map Answered answers ++ slots) ≡ answers ++ due_answers slots
due_more [] slots = refl
due_more (a ∷ answers) slots = ap (λ l. a ∷ l) (due_more answers slots)

pub flat_append : (xs ys : List Answer) → flat_map reply_text (xs ++ ys) ≡ flat_map reply_text xs ++ flat_map reply_text ys
flat_append [] ys = refl
flat_append (x ∷ xs) ys = ap (λ l. reply_text x ++ l) (flat_append xs ys) ∙ sym (append_assoc (reply_text x) (flat_map reply_text xs) (flat_map reply_text ys))

drop_more : (answers : List Answer) (slots : List Slot) (n : ℕ) → drop (length answers + n) (map Answered answers ++ slots) ≡ drop n slots
drop_more [] slots n = ap (λ k. drop k slots) (omega arith)
drop_more (a ∷ answers) slots n =
    let sum : length (a ∷ answers) + n ≡ suc (length answers + n) = omega arith in
    ap (λ k. drop k (Answered a ∷ (map Answered answers ++ slots))) sum ∙ drop_more answers slots n

abbrev with_rest : Unfinished → ℕ → List Slot → Client
with_rest u sent slots = record { unfinished = u; sent = sent; requests = slots }

module _ (answers : List Answer) (before : List ℕ) (c d : Come) (is : IsAhead answers before c d) where
  ahead_due : due_answers c.client.requests ≡ answers ++ due_answers d.client.requests
  ahead_due = ap due_answers is.requests ∙ due_more answers d.client.requests

  ahead_bytes : due_bytes c.client ≡ flat_map reply_text answers ++ due_bytes d.client
  ahead_bytes = ap (flat_map reply_text) ahead_due ∙ flat_append answers (due_answers d.client.requests)

  ahead_flushed : c.client.unfinished ≡ d.client.unfinished → flushed c.client ≡ flushed d.client
  ahead_flushed same =
      let n = length (due_answers d.client.requests) in
      let count : length (due_answers c.client.requests) ≡ length answers + n = ap length ahead_due ∙ length-append answers (due_answers d.client.requests) in
      let total : c.client.sent + length (due_answers c.client.requests) ≡ d.client.sent + n = omega (arith, count, is.sent) in
      let rest : drop (length (due_answers c.client.requests)) c.client.requests ≡ drop n d.client.requests =
      ap (λ k. drop k c.client.requests) count ∙ ap (λ l. drop (length answers + n) l) is.requests ∙ drop_more answers d.client.requests n in
      ap (λ u. with_rest u (c.client.sent + length (due_answers c.client.requests)) (drop (length (due_answers c.client.requests)) c.client.requests)) same
      ∙ ap (λ s. with_rest d.client.unfinished s (drop (length (due_answers c.client.requests)) c.client.requests)) total
      ∙ ap (λ r. with_rest d.client.unfinished (d.client.sent + n) r) rest

-- ---- two pieces

module _ (g : Reference) (number : ℕ) (client : Client) (front back : List ℕ) where
  abbrev u : Unfinished
  u = client.unfinished

  abbrev start : Unfinished → Come
  start v = record { upstream = g.upstream; client = record client { unfinished = v }; fetches = [] }

  abbrev first_rs : List Request
  first_rs = new_requests u front

  abbrev next_rs : List Request
  next_rs = new_requests (unfinished_after u front) back

  -- the whole, after the requests of the first piece, and the first piece alone
  abbrev whole : Come
  whole = folded (comes number) (start (unfinished_after u (front ++ back))) first_rs

  abbrev one : Come
  one = all_come g number client front

  alike : IsAhead [] [] whole one
  alike = ahead_all [] [] number first_rs (start (unfinished_after u (front ++ back))) (start (unfinished_after u front))
      (record { upstream = refl; requests = refl; sent = omega arith; fetches = refl })

  abbrev sent_first : List Answer
  sent_first = due_answers one.client.requests

  -- what the second begins with, once the first was sent
  abbrev two_start : Come
  two_start = record { upstream = one.upstream; client = record (flushed one.client) { unfinished = unfinished_after (flushed one.client).unfinished back }; fetches = [] }

  ahead_start : IsAhead sent_first one.fetches whole two_start
  ahead_start = record {
    upstream = alike.upstream;
    requests = alike.requests ∙ front_split one.client.requests;
    sent = omega (arith, alike.sent);
    fetches = alike.fetches ∙ sym (append-nil one.fetches);
  }

  same_rest : (flushed one.client).unfinished ≡ unfinished_after u front
  same_rest = keeps_unfinished number first_rs (start (unfinished_after u front))

  ahead_end : IsAhead sent_first one.fetches (folded (comes number) whole next_rs) (second g number client front back)
  ahead_end = subst (λ v. IsAhead sent_first one.fetches (folded (comes number) whole next_rs) (folded (comes number) two_start (new_requests v back))) (sym same_rest)
      (ahead_all sent_first one.fetches number next_rs whole two_start ahead_start)

  whole_is : all_come g number client (front ++ back) ≡ folded (comes number) whole next_rs
  whole_is = ap (folded (comes number) (start (unfinished_after u (front ++ back)))) (in_pieces u front back).requests
      ∙ folded_append (comes number) (start (unfinished_after u (front ++ back))) first_rs next_rs

  ends_alike : (folded (comes number) whole next_rs).client.unfinished ≡ (second g number client front back).client.unfinished
  ends_alike =
      keeps_unfinished number next_rs whole ∙ keeps_unfinished number first_rs (start (unfinished_after u (front ++ back)))
      ∙ (in_pieces u front back).unfinished
      ∙ ap (λ v. unfinished_after v back) (sym same_rest)
      ∙ sym (keeps_unfinished number (new_requests (flushed one.client).unfinished back) two_start)

  pub same_in_pieces : IsSameInPieces g number client front back
  same_in_pieces = record {
    fetches = ap (λ c. c.fetches) whole_is ∙ ahead_end.fetches;
    bytes = ap (λ c. due_bytes c.client) whole_is ∙ ahead_bytes sent_first one.fetches (folded (comes number) whole next_rs) (second g number client front back) ahead_end;
    left = ap (λ c. flushed c.client) whole_is ∙ ahead_flushed sent_first one.fetches (folded (comes number) whole next_rs) (second g number client front back) ahead_end ends_alike;
    upstream = ap (λ c. c.upstream) whole_is ∙ ahead_end.upstream;
  }
