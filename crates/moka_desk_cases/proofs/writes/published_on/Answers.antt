use Rattle.std.proofs.Common.{◌+◌, cond, [], ◌∷◌, refl, ap}
use Rattle.moka_desk_cases.specs.Rests.{untouched}
use Rattle.moka_desk_cases.proofs.writes.published_on.Goals as goal

pub published_after-requires : goal.published_after-requires
published_after-requires c = ([], (untouched c.requires.new.0, c.requires.new.1), refl)

pub published_after-requires-2 : goal.published_after-requires-2
published_after-requires-2 c = (
  c.args.first ∷ [],
  c.in_ok-after_first.ensures [] (untouched c.requires.new.0, c.requires.new.1) refl,
  ap (λ b. cond b 1 0) c.requires.second,
)

pub published_after-requires-3 : goal.published_after-requires-3
published_after-requires-3 c = (
  c.args.first ∷ c.args.second ∷ [],
  c.in_ok-after_second.ensures (c.args.first ∷ [])
      (c.in_ok-after_first.ensures [] (untouched c.requires.new.0, c.requires.new.1) refl) (ap (λ b. cond b 1 0) c.requires.second),
  λ i. cond (c.requires.third i) (cond (c.requires.third_too i) 1 0 + 1) (cond (c.requires.third_too i) 1 0),
)
