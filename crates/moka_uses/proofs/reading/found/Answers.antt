-- The last of two replies is the second.
use Rattle.std.proofs.Common.{◌≡◌, ℕ, length, List, [], ◌∷◌, sym, ap, arith, get_or}
use Rattle.std.proofs.lemmas.Result.{IfOk-weaker}
use Rattle.moka_hist.specs.declared.replies.Reply.{Reply}
use Rattle.moka_uses.specs.ReadBack.{found_in}
use Rattle.moka_uses.proofs.reading.found.Goals as goal

-- a list of two is its first and its second
two_of : {A : Type 0} (xs : List A) → length xs ≡ 2 → (y : A) → y ≡ get_or xs 1 y → (x : A) × (xs ≡ x ∷ y ∷ [])
two_of [] two y is = absurd (omega arith)
two_of (x ∷ []) two y is = absurd (omega arith)
two_of (x ∷ z ∷ []) two y is = (x, ap (λ w. x ∷ w ∷ []) (sym is))
two_of (x ∷ z ∷ v ∷ rest) two y is = absurd (omega arith)

pub returns : goal.returns
returns g c =
    let last = c.index-replies-1.result in
    let both = two_of c.args.replies.now c.requires.two last c.index-replies-1.is in
    IfOk-weaker c.found_by_reply.result _ (λ found. (call : Reply g.row.K.Denot g.row.V.Denot ℕ) × (last : Reply g.row.K.Denot g.row.V.Denot ℕ) × (c.args.replies.now ≡ call ∷ last ∷ []) × (found ≡ found_in last))
    (λ found is. (both.0, last, both.1, is)) c.found_by_reply.ensures
