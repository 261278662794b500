-- What holds of results and options, one by one.
use Rattle.std.proofs.Common.{◌≡◌, ℕ, ◌<◌, ◌≤◌, ◌^◌, Option, Some, None, Result, Ok, Err, IfOk, zero, suc, arith}
use Rattle.std.proofs.Math.Pow.{pow_mono}
use Rattle.std.specs.Int.{IsNextPowerOfTwo}
use Rattle.std.specs.Option.{MatchOption}

pub ok_weaker : {A E : Type 0} (P Q : A → Type 0) (r : Result A E) → ((x : A) → P x → Q x) → IfOk r P → IfOk r Q
ok_weaker P Q (Ok x) f p = f x p
ok_weaker P Q (Err e) f p = tt

pub ok_both : {A E : Type 0} (P Q : A → Type 0) (r : Result A E) → IfOk r P → IfOk r Q → IfOk r (λ x. P x × Q x)
ok_both P Q (Ok x) p q = (p, q)
ok_both P Q (Err e) p q = tt

pub match_weaker : {A : Type 0} (N : Type 0) (P Q : A → Type 0) (o : Option A) → ((x : A) → P x → Q x) → MatchOption o N P → MatchOption o N Q
match_weaker N P Q None f p = p
match_weaker N P Q (Some x) f p = f x p

-- 64 is a power of two
sixty_four : (k p : ℕ) → p ≡ 2 ^ k → 64 ≤ p → p < 128 → p ≡ 64
sixty_four zero p e l u = let f : p ≡ 1 = e in absurd (omega (arith, f, l))
sixty_four (suc zero) p e l u = let f : p ≡ 2 = e in absurd (omega (arith, f, l))
sixty_four (suc (suc zero)) p e l u = let f : p ≡ 4 = e in absurd (omega (arith, f, l))
sixty_four (suc (suc (suc zero))) p e l u = let f : p ≡ 8 = e in absurd (omega (arith, f, l))
sixty_four (suc (suc (suc (suc zero)))) p e l u = let f : p ≡ 16 = e in absurd (omega (arith, f, l))
sixty_four (suc (suc (suc (suc (suc zero))))) p e l u = let f : p ≡ 32 = e in absurd (omega (arith, f, l))
sixty_four (suc (suc (suc (suc (suc (suc zero)))))) p e l u = e
sixty_four (suc (suc (suc (suc (suc (suc (suc k))))))) p e l u =
    let more : 128 ≤ 2 ^ (suc (suc (suc (suc (suc (suc (suc k))))))) = pow_mono {i = 7} {j = suc (suc (suc (suc (suc (suc (suc k))))))} (omega arith) in absurd (omega (arith, e, more, u))

pub is_sixty_four : (p : ℕ) → IsNextPowerOfTwo 64 p → p ≡ 64
is_sixty_four p h = let l = h.1 in let u = h.2 in sixty_four h.0.0 p h.0.1 l (omega (arith, u))
