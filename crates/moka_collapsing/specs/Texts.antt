-- The bytes of a reply.
use Rattle.std.specs.Prelude.{ℕ, List, [], ◌∷◌, ◌++◌, codes, decimal}
use Rattle.moka_collapsing.specs.declared.answer.Answer.{Answer}
use Rattle.moka_collapsing.specs.declared.answer.Answer.TheVariants as answer

-- the reply to a request, and the byte that ends it
abbrev pub reply_text : Answer → List ℕ
reply_text (answer.Value value) = codes "value " ++ decimal value ++ 10 ∷ []
reply_text (answer.Error error) = codes "error " ++ decimal error ++ 10 ∷ []
reply_text answer.Bad = codes "bad" ++ 10 ∷ []
