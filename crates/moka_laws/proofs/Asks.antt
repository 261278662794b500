-- No number has two open asks.
use Rattle.std.proofs.Common.{◌≡◌, ℕ, ◌<◌, ◌≤◌, Bool, true, false, cond, List, [], ◌∷◌, Option, Some, None, is_some, refl, ap, arith}
use Rattle.std.proofs.lemmas.Bool.{false≢true}
use Rattle.std.specs.Option.{option_map_or}
use Rattle.moka_hist.specs.State.{Call}
use Rattle.moka_hist.specs.Plan.{Item}
use Rattle.moka_hist.specs.Plan as plan
use Rattle.moka_hist.specs.Visits.{runs}
use Rattle.moka_hist.specs.declared.notices.Notice.{Notice}
use Rattle.moka_laws.specs.Listening.{AsksAreOne}
use Rattle.moka_laws.proofs.Weights.{weigh, weigh_call}
use Rattle.moka_laws.proofs.Posts.{may_write}
use Rattle.moka_laws.proofs.Asking.{in_asking, takes_told}
use Rattle.moka_laws.proofs.Replacing.{in_replacing, told_once, opened_committed}

module _ {K V E : Type 0} where
  -- a call that is to take an answer may still write
  takes_may : (p : List (Item K V E)) → weigh takes_told p ≤ weigh may_write p
  takes_may [] = omega arith
  takes_may (plan.Told_op compute pair ∷ rest) = let e = takes_may rest in omega arith
  takes_may (_ ∷ rest) = let e = takes_may rest in omega arith

  call_may : (o : Option (Call K V E)) → 0 < weigh_call takes_told o → (c : Call K V E) × (o ≡ Some c) × (0 < weigh may_write c.plan)
  call_may None h = absurd (omega arith)
  call_may (Some c) h = (c, refl, omega (arith, takes_may c.plan))

module _ {K V : Type 0} where
  -- a notice that runs was opened
  runs_there : (o : Option (Notice K V)) → option_map_or (λ x. runs x.state) o false ≡ true → told_once o ≡ 1
  runs_there None h = absurd (false≢true h)
  runs_there (Some x) h = refl

module _ {K V E : Type 0} (eq : K → K → Bool) where
  pub asks_one : AsksAreOne K V E eq
  asks_one s n h some run =
      let a = in_asking eq s h in
      let i = in_replacing eq s h in
      let one : cond {A = ℕ} (is_some (s.world.desk.asks n)) 1 0 ≡ 1 = ap (λ b. cond {A = ℕ} b 1 0) some in
      let may = call_may (s.calls n) (omega (arith, a.asked n)) in
      omega (arith, i.balanced.unspent n may.0 may.1, may.2, opened_committed s i n, runs_there (s.world.desk.notices n) run)
