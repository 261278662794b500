-- Counting one more reply.
use Rattle.std.proofs.Common.{◌≡◌, ℕ, ◌+◌, Bool, List, [], ◌∷◌, ◌++◌, length, ap, ◌∙◌, sym, arith}
use Rattle.std.proofs.lemmas.List.{length-append}
use Rattle.moka_hist.specs.declared.replies.Reply.{Reply}
use Rattle.moka_summary.specs.Counts.{Counts, CountsOn, count, is_answer, is_ask, is_call, is_refused, is_wait, one, tally}

pub count_next : (test : Reply ℕ ℕ ℕ → Bool) (rs : List (Reply ℕ ℕ ℕ)) (r : Reply ℕ ℕ ℕ)
    → count test (rs ++ r ∷ []) ≡ count test rs + one (test r)
count_next test [] r = omega arith
count_next test (x ∷ rs) r =
    ap (λ n. one (test x) + n) (count_next test rs r) ∙ omega arith

-- a count that goes on is that of one more
kind_next : (test : Reply ℕ ℕ ℕ → Bool) (rs : List (Reply ℕ ℕ ℕ)) (r : Reply ℕ ℕ ℕ) (old new : ℕ)
    → old ≡ count test rs → new ≡ old + one (test r) → new ≡ count test (rs ++ r ∷ [])
kind_next test rs r old new is next =
    next ∙ ap (λ n. n + one (test r)) is ∙ sym (count_next test rs r)

-- counts that go on are those of one more
pub tally_next : (rs : List (Reply ℕ ℕ ℕ)) (r : Reply ℕ ℕ ℕ) (old new : Counts)
    → CountsOn old r new → old ≡ tally rs → new ≡ tally (rs ++ r ∷ [])
tally_next rs r old new next is =
    let kind : (test : Reply ℕ ℕ ℕ → Bool) (a b : ℕ) → a ≡ count test rs → b ≡ a + one (test r)
    → b ≡ count test (rs ++ r ∷ []) = λ test a b. kind_next test rs r a b
    in
    let events : new.events ≡ length (rs ++ r ∷ []) =
    next.events ∙ ap (λ c. c.events + 1) is ∙ sym (length-append rs (r ∷ []))
    in
    let calls = kind is_call old.calls new.calls (ap (λ c. c.calls) is) next.calls in
    let answers = kind is_answer old.answers new.answers (ap (λ c. c.answers) is) next.answers in
    let asks = kind is_ask old.asks new.asks (ap (λ c. c.asks) is) next.asks in
    let waits = kind is_wait old.waits new.waits (ap (λ c. c.waits) is) next.waits in
    let refused = kind is_refused old.refused new.refused (ap (λ c. c.refused) is) next.refused in
    λ i. record {
      events = events i;
      calls = calls i;
      answers = answers i;
      asks = asks i;
      waits = waits i;
      refused = refused i;
    }
