use Rattle.std.proofs.Common.{ℕ, Bool, arith, subst, sym, ◌∙◌}
use Rattle.moka_words.specs.Words.{word_at}
use Rattle.moka_words.specs.Later.{HasOther}
use Rattle.moka_growth.proofs.Leading.{passed_more}
use Rattle.moka_pairs.specs.Keys.{own_by}
use Rattle.moka_buckets.specs.Nodes.{key_in}
use Rattle.moka_buckets.proofs.Sought.{passes}
use Rattle.moka_buckets.proofs.looking.seek.Goals as goal

pub loop-passed-preserved : goal.loop-passed-preserved
loop-passed-preserved g c = record {
  callable = c.is_end.ensures.callable;
  knows = λ key computes.
      let own : ℕ → Bool = own_by g.K.PartialEq.eq (key_in c.args.nodes.now) key in
      let words = c.args.words.now in
      let known = c.loop-passed.invariant.knows key computes in
      let ended = c.is_end.ensures.end key known.0 in (
        ended.0,
        λ k below. passed_more own words c.args.hash c.loop-passed.passed known.1
            (subst (λ i. HasOther own (word_at words i)) c.bucket_at.ensures.bucket
            (passes own (word_at words c.bucket_at.result) (sym ended.1 ∙ c.if-is_end.false))) k (omega (arith, below)),
      );
}
