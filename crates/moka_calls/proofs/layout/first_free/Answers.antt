use Rattle.std.proofs.Common.{◌∙◌, ◌≡◌, ◌+◌, ◌-◌, sym, ap, subst, cond, Some, false, length, is_none}
use Rattle.moka_words.specs.Words.{node_of, word_at}
use Rattle.moka_words.specs.Arrays.{bucket_at}
use Rattle.moka_calls.proofs.Laying.{free_after, free_next}
use Rattle.moka_calls.proofs.layout.first_free.Goals as goal

pub loop-passed-preserved : goal.loop-passed-preserved
loop-passed-preserved c =
    let words = c.args.words.now in
    let passed = c.loop-passed.passed in
    let bucket = bucket_at (length words) c.args.hash passed in
    let taken : is_none (node_of (word_at words bucket)) ≡ false =
    subst (λ i. is_none (node_of (word_at words i)) ≡ false) c.bucket_at-bucket.ensures.bucket (sym c.is_free.ensures ∙ c.if-is_free.false) in
    c.loop-passed.invariant
    ∙ free_next words c.args.hash passed c.loop-passed-test.true
    ∙ ap (λ free. cond free (Some bucket) (free_after words c.args.hash (passed + 1) (length words - (passed + 1)))) taken
