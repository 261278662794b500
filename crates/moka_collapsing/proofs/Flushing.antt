-- The requests at the front leave one by one.
use Rattle.std.proofs.Common.{◌≡◌, ℕ, suc, ◌+◌, List, [], ◌∷◌, ◌++◌, drop, flat_map, length, Some, None, refl, sym, ap, ◌∙◌, arith}
use Rattle.moka_laws.proofs.Counting.{none_some, some_same}
use Rattle.moka_collapsing.specs.declared.answer.Answer.{Answer}
use Rattle.moka_collapsing.specs.declared.slot.Slot.{Slot}
use Rattle.moka_collapsing.specs.declared.slot.Slot.TheVariants.{Waits, Answered}
use Rattle.moka_collapsing.specs.Clients.{Client, due_answers, due_bytes, flushed, front_answer}
use Rattle.moka_collapsing.specs.Texts.{reply_text}

-- the client without its first request
abbrev pub without_first : Client → Client
without_first client = record client { sent = client.sent + 1; requests = drop 1 client.requests }

-- the first has its answer: the rest is due after it
pub first_due : (slots : List Slot) (a : Answer) → front_answer slots ≡ Some a → due_answers slots ≡ a ∷ due_answers (drop 1 slots)
first_due [] a e = absurd (none_some e)
first_due (Answered b ∷ slots) a e = ap (λ x. x ∷ due_answers slots) (some_same e)
first_due (Waits key number ∷ slots) a e = absurd (none_some e)

pub none_due : (slots : List Slot) → front_answer slots ≡ None → due_answers slots ≡ []
none_due [] e = refl
none_due (Answered b ∷ slots) e = absurd (none_some (sym e))
none_due (Waits key number ∷ slots) e = refl

pub first_bytes : (client : Client) (a : Answer) → front_answer client.requests ≡ Some a →
    due_bytes client ≡ reply_text a ++ due_bytes (without_first client)
first_bytes client a e = ap (flat_map reply_text) (first_due client.requests a e)

pub some_requests : (slots : List Slot) (a : Answer) → front_answer slots ≡ Some a → length slots ≡ length (drop 1 slots) + 1
some_requests [] a e = absurd (none_some e)
some_requests (slot ∷ slots) a e = omega arith

some_first : (slots : List Slot) (a : Answer) → front_answer slots ≡ Some a → (n : ℕ) → drop (suc n) slots ≡ drop n (drop 1 slots)
some_first [] a e n = absurd (none_some e)
some_first (slot ∷ slots) a e n = refl

abbrev with_rest : Client → ℕ → List Slot → Client
with_rest client sent slots = record client { sent = sent; requests = slots }

pub first_left : (client : Client) (a : Answer) → front_answer client.requests ≡ Some a → flushed client ≡ flushed (without_first client)
first_left client a e =
    let n = length (due_answers (drop 1 client.requests)) in
    let count : length (due_answers client.requests) ≡ suc n = ap length (first_due client.requests a e) in
    let sum : client.sent + suc n ≡ client.sent + 1 + n = omega arith in
    ap (λ k. with_rest client (client.sent + k) (drop k client.requests)) count
    ∙ ap (λ s. with_rest client s (drop (suc n) client.requests)) sum
    ∙ ap (λ r. with_rest client (client.sent + 1 + n) r) (some_first client.requests a e n)

pub none_left : (client : Client) → front_answer client.requests ≡ None → flushed client ≡ client
none_left client e =
    let count : length (due_answers client.requests) ≡ 0 = ap length (none_due client.requests e) in
    let sum : client.sent + 0 ≡ client.sent = omega arith in
    ap (λ k. with_rest client (client.sent + k) (drop k client.requests)) count
    ∙ ap (λ s. with_rest client s client.requests) sum
