-- A plan takes no fewer steps where more is owed, where operations may stay undecided for longer, or where the log is full.
use Rattle.std.proofs.Common.{ℕ, ◌+◌, ◌*◌, ◌≤◌, Bool, true, false, cond, List, [], ◌∷◌, arith}
use Rattle.std.proofs.Math.Nat.{mul-le-mul_right}
use Rattle.moka_hist.specs.Plan.{Item, Aim}
use Rattle.moka_hist.specs.Plan as plan
use Rattle.moka_bound.specs.Ahead.{growth, post_steps, judge_steps, read_key_steps, retire_steps, steps_of}

-- a full log costs most
pub post_worst : (room : Bool) → post_steps room ≤ post_steps false
post_worst true = omega arith
post_worst false = omega arith

pub judge_more : {K V : Type 0} (o o' m m' aborts : ℕ) (aim : Aim K V) → o ≤ o' → m ≤ m' → judge_steps o m aborts aim ≤ judge_steps o' m' aborts aim
judge_more o o' m m' aborts (plan.To_evict key stamp cause) p h = omega (arith, h)
judge_more o o' m m' aborts _ p h = omega arith

-- an owner that has ended costs most, since the call then begins anew
abbrev pub ended_steps : Bool → ℕ
ended_steps ended = cond ended 1 0

pub ended_worst : (ended : Bool) → ended_steps ended ≤ ended_steps true
ended_worst true = omega arith
ended_worst false = omega arith

same_end : (ended : Bool) → ended_steps ended ≤ ended_steps ended
same_end ended = omega arith

read_key_more : (o o' m m' : ℕ) (e e' : Bool) → o ≤ o' → m ≤ m' → ended_steps e ≤ ended_steps e' → read_key_steps e o m ≤ read_key_steps e' o' m'
read_key_more o o' m m' true true ho hm he = omega (arith, ho, hm)
read_key_more o o' m m' true false ho hm he = absurd (omega (arith, he))
read_key_more o o' m m' false true ho hm he = omega arith
read_key_more o o' m m' false false ho hm he = omega arith

retire_more : (parts m m' : ℕ) → m ≤ m' → retire_steps m parts ≤ retire_steps m' parts
retire_more parts m m' h =
    let p : (m + 1) * parts ≤ (m' + 1) * parts = mul-le-mul_right parts (omega (arith, h)) in omega (arith, p)

same_room : (room : Bool) → post_steps room ≤ post_steps room
same_room room = omega arith

module _ {K V E : Type 0} where
  pub more : (p : List (Item K V E)) (o o' m m' aborts l l' : ℕ) (r r' e e' : Bool) → o ≤ o' → m ≤ m' → l ≤ l' → post_steps r ≤ post_steps r' →
      ended_steps e ≤ ended_steps e' → steps_of o m aborts r l e p ≤ steps_of o' m' aborts r' l' e' p
  more [] o o' m m' aborts l l' r r' e e' ho hm hl hr he = omega arith
  more (plan.Drain ∷ rest) o o' m m' aborts l l' r r' e e' ho hm hl hr he =
      let h = more rest o o' m m' aborts m m' false false true true ho hm hm (same_room false) (same_end true) in omega (arith, h, ho)
  more (plan.Post write ∷ rest) o o' m m' aborts l l' r r' e e' ho hm hl hr he =
      let h = more rest o o' m m' aborts m m' false false true true ho hm hm (same_room false) (same_end true) in omega (arith, h, hr)
  more (plan.Turn ∷ rest) o o' m m' aborts l l' r r' e e' ho hm hl hr he =
      let h = more rest o o' m m' aborts m m' r r' true true ho hm hm hr (same_end true) in omega (arith, h)
  more (plan.Apply ∷ rest) o o' m m' aborts l l' r r' e e' ho hm hl hr he =
      let h = more rest o o' m m' aborts m m' true true true true ho hm hm (same_room true) (same_end true) in omega (arith, h)
  more (plan.End ∷ rest) o o' m m' aborts l l' r r' e e' ho hm hl hr he =
      let h = more rest o o' m m' aborts m m' r r' true true ho hm hm hr (same_end true) in omega (arith, h)
  more (plan.Get aim key ∷ rest) o o' m m' aborts l l' r r' e e' ho hm hl hr he =
      let h = judge_more o o' m m' aborts aim ho hm in omega (arith, h, hl)
  more (plan.Judge aim key stored ∷ rest) o o' m m' aborts l l' r r' e e' ho hm hl hr he = judge_more o o' m m' aborts aim ho hm
  more (plan.Own load ∷ rest) o o' m m' aborts l l' r r' e e' ho hm hl hr he = omega (arith, hm)
  more (plan.Read load ∷ rest) o o' m m' aborts l l' r r' e e' ho hm hl hr he = omega (arith, hm)
  more (plan.Ask load ∷ rest) o o' m m' aborts l l' r r' e e' ho hm hl hr he = omega arith
  more (plan.Told load ∷ rest) o o' m m' aborts l l' r r' e e' ho hm hl hr he = omega (arith, ho, hm)
  more (plan.Own_key compute ∷ rest) o o' m m' aborts l l' r r' e e' ho hm hl hr he = omega (arith, ho, hm)
  more (plan.Own_alone key ∷ rest) o o' m m' aborts l l' r r' e e' ho hm hl hr he = omega (arith, ho, hm)
  more (plan.Read_key compute ∷ rest) o o' m m' aborts l l' r r' e e' ho hm hl hr he = read_key_more o o' m m' e e' ho hm he
  more (plan.Ask_op compute found ∷ rest) o o' m m' aborts l l' r r' e e' ho hm hl hr he = omega arith
  more (plan.Told_op compute found ∷ rest) o o' m m' aborts l l' r r' e e' ho hm hl hr he = omega (arith, ho, hm)
  more (plan.Moment (plan.To_store key value) ∷ rest) o o' m m' aborts l l' r r' e e' ho hm hl hr he =
      let h = more rest o o' (m + growth) (m' + growth) aborts (m + growth) (m' + growth) false false true true ho (omega (arith, hm)) (omega (arith, hm)) (same_room false) (same_end true)
      in omega (arith, h, hm)
  more (plan.Write key value moment ∷ rest) o o' m m' aborts l l' r r' e e' ho hm hl hr he =
      let h = more rest o o' (m + growth) (m' + growth) aborts (m + growth) (m' + growth) false false true true ho (omega (arith, hm)) (omega (arith, hm)) (same_room false) (same_end true)
      in omega (arith, h, hl)
  more (plan.Moment (plan.To_take_out removal key) ∷ rest) o o' m m' aborts l l' r r' e e' ho hm hl hr he = omega (arith, hm)
  more (plan.Holds key stamp cause there found ∷ rest) o o' m m' aborts l l' r r' e e' ho hm hl hr he = omega (arith, hm)
  more (plan.Out removal key ∷ rest) o o' m m' aborts l l' r r' e e' ho hm hl hr he = omega (arith, hl)
  more (plan.List_keys part ∷ rest) o o' m m' aborts l l' r r' e e' ho hm hl hr he =
      let h = more rest o o' m m' aborts m m' false false true true ho hm hm (same_room false) (same_end true) in omega (arith, h, hl)
  more (plan.Find key ∷ rest) o o' m m' aborts l l' r r' e e' ho hm hl hr he =
      let h = more rest o o' m m' aborts m m' false false true true ho hm hm (same_room false) (same_end true) in omega (arith, h, hl)
  more (plan.Candidates parts ∷ rest) o o' m m' aborts l l' r r' e e' ho hm hl hr he = retire_more parts m m' hm
  more (plan.Retire ∷ rest) o o' m m' aborts l l' r r' e e' ho hm hl hr he = omega arith
  more (plan.Reply answer ∷ rest) o o' m m' aborts l l' r r' e e' ho hm hl hr he = omega arith
  more (_ ∷ rest) o o' m m' aborts l l' r r' e e' ho hm hl hr he =
      let h = more rest o o' m m' aborts m m' false false true true ho hm hm (same_room false) (same_end true) in omega (arith, h)
