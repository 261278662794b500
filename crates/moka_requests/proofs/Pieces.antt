-- Bytes in pieces make the requests that they make in one.
use Rattle.std.proofs.Common.{◌≡◌, ℕ, ◌+◌, ◌<◌, List, [], ◌∷◌, ◌++◌, length, take, get_or, refl, sym, ap, ◌∙◌, append_assoc}
use Rattle.std.specs.Option.{option_to_list}
use Rattle.std.proofs.lemmas.List.{append-nil, take_more}
use Rattle.moka_requests.specs.Laws.{IsSameInPieces}
use Rattle.moka_requests.specs.Requests.{Unfinished, due, new_requests, unfinished_after, with_byte}

pub in_pieces : (u : Unfinished) (front back : List ℕ) → IsSameInPieces u front back
in_pieces u [] back = record { requests = refl; unfinished = refl }
in_pieces u (byte ∷ front) back =
    let rest = in_pieces (with_byte u byte) front back in
    let first = option_to_list (due u byte) in
    record {
      requests = ap (λ l. first ++ l) rest.requests ∙ sym (append_assoc first (new_requests (with_byte u byte) front) (new_requests (unfinished_after (with_byte u byte) front) back));
      unfinished = rest.unfinished;
    }

-- one byte more
pub one_more : (u : Unfinished) (bytes : List ℕ) (i : ℕ) → i < length bytes →
    new_requests u (take (i + 1) bytes) ≡ new_requests u (take i bytes) ++ option_to_list (due (unfinished_after u (take i bytes)) (get_or bytes i 0))
one_more u bytes i less =
    let both = in_pieces u (take i bytes) (get_or bytes i 0 ∷ []) in
    let next = unfinished_after u (take i bytes) in
    ap (new_requests u) (take_more bytes i 0 less) ∙ both.requests ∙ ap (λ l. new_requests u (take i bytes) ++ l) (append-nil (option_to_list (due next (get_or bytes i 0))))

pub one_further : (u : Unfinished) (bytes : List ℕ) (i : ℕ) → i < length bytes →
    unfinished_after u (take (i + 1) bytes) ≡ with_byte (unfinished_after u (take i bytes)) (get_or bytes i 0)
one_further u bytes i less = ap (unfinished_after u) (take_more bytes i 0 less) ∙ (in_pieces u (take i bytes) (get_or bytes i 0 ∷ [])).unfinished
