-- What a step leaves of the nodes: at most one more, which has the operation's hash.
use Rattle.std.proofs.Common.{List, [], ◌∷◌, inl, inr, sym, ap, ◌∙◌, arith}
use Rattle.std.specs.List.{slice_get}
use Rattle.moka_buckets.specs.declared.node.Node.{Node}
use Rattle.moka_buckets.specs.declared.bucket_call.BucketCall.{BucketCall}
use Rattle.moka_buckets.specs.Accesses.{GrowsByOne}
use Rattle.moka_buckets.specs.Putting.{Stays}
use Rattle.moka_buckets.specs.Steps.{Adds}
use Rattle.moka_buckets.proofs.Growing.{made_from}
use Rattle.moka_buckets.proofs.Once.{grows_same}
use Rattle.moka_buckets.proofs.Placed.{get-back}

module _ {K V : Type 0} (old new : List (Node K V)) (before after : BucketCall K V) where
  pub adds_stayed : Stays old new before after → Adds before.hash old new
  adds_stayed (inl e) = λ n node there. inl (ap (λ xs. slice_get xs n) (sym e.0) ∙ there)
  adds_stayed (inr (x, none, is, grown, named, puts)) = λ n node there.
      elim (get-back old x node n (ap (λ xs. slice_get xs n) (sym grown) ∙ there)) [
        | inl d ↦ inl d
        | inr d ↦ inr (ap (λ y. y.hash) d.1 ∙ sym (ap (λ y. y.hash) (made_from before.operation before.hash x is).3))
      ]

  pub grows_stayed : Stays old new before after → GrowsByOne old new
  grows_stayed (inl e) = grows_same old new e.0
  grows_stayed (inr (x, none, is, grown, named, puts)) = record { more = x ∷ []; added = grown; one = omega arith }
