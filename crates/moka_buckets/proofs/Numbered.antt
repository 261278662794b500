-- Nodes are numbered by their places.
use Rattle.std.proofs.Common.{◌≡◌, ℕ, ◌+◌, ◌<◌, List, [], ◌∷◌, ◌++◌, take, length, suc, sym, ap, ◌∙◌, arith, get_or}
use Rattle.std.proofs.lemmas.List.{take_more, length-take}
use Rattle.moka_buckets.specs.declared.node.Node.{Node}
use Rattle.moka_buckets.specs.Compacting.{numbered}

module _ {K V : Type 0} where
  numbered_more : (n : ℕ) (xs : List (Node K V)) (x : Node K V) → numbered n (xs ++ x ∷ []) ≡ numbered n xs ++ (n + length xs, x.hash) ∷ []
  numbered_more n [] x = let same : n ≡ n + 0 = omega arith in ap (λ k. (k, x.hash) ∷ []) same
  numbered_more n (y ∷ ys) x =
      let same : n + 1 + length ys ≡ n + suc (length ys) = omega arith in
      ap (λ ps. (n, y.hash) ∷ ps) (numbered_more (n + 1) ys x ∙ ap (λ k. numbered (n + 1) ys ++ (k, x.hash) ∷ []) same)

  -- one node more
  pub one_numbered : (xs : List (Node K V)) (i : ℕ) (x : Node K V) → i < length xs → x ≡ get_or xs i x →
      numbered 0 (take (i + 1) xs) ≡ numbered 0 (take i xs) ++ (i, x.hash) ∷ []
  one_numbered xs i x within is =
      let long = length-take i xs in
      let same : 0 + length (take i xs) ≡ i = omega (arith, long, within) in
      ap (λ ys. numbered 0 ys) (take_more xs i x within ∙ ap (λ y. take i xs ++ y ∷ []) (sym is))
      ∙ (numbered_more 0 (take i xs) x ∙ ap (λ k. numbered 0 (take i xs) ++ (k, x.hash) ∷ []) same)
