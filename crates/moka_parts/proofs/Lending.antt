-- What is lent meets the fact.
use Rattle.std.proofs.Common.{◌≡◌, Option, None, Some, IfSome, MatchOption, refl}
use Rattle.std.specs.Prelude.{Result, Ok, Err, IfOk}
use Rattle.std.specs.Option.{option_map}
use denote.Ref.{Bor}
use Rattle.moka_parts.specs.Pairs.{lent}

pub lent_meets : {K V : Type 0} (so : V → Type 0) (o : Option (Bor K × Bor V)) → IfSome o (λ p. so p.1.now) → IfSome (lent o) (λ p. so p.1)
lent_meets so None h = h
lent_meets so (Some p) h = h

-- an answer of `put_if_absent` of which the fact alone is known
pub answer_meets : {K V E : Type 0} (so : V → Type 0) (key : K) (r : Result (Option V) E) → IfOk r (λ there. IfSome there so)
    → IfOk r (λ there. MatchOption there (Unit {0}) (λ v. so v × Unit {0} × ((found : Option (K × V)) × Unit {0} × (option_map (λ p. p.1) found ≡ Some v))))
answer_meets so key (Ok None) h = tt
answer_meets so key (Ok (Some v)) h = (h, tt, (Some (key, v), tt, refl))
answer_meets so key (Err e) h = tt
