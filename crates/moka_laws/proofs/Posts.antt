-- Which writes a plan posts, and whether it may still make one.
use Rattle.std.proofs.Common.{◌≡◌, ℕ, ◌≤◌, ◌==◌, cond, List, [], ◌∷◌, map, Option, Some, None, refl, arith}
use Rattle.std.specs.Option.{option_to_list}
use Rattle.moka_hist.specs.Finite.{times}
use Rattle.moka_hist.specs.State.{Call}
use Rattle.moka_hist.specs.Plan.{Item, Aim, held_by, plan_of}
use Rattle.moka_hist.specs.Plan as plan
use Rattle.moka_hist.specs.Visits.{number_of}
use Rattle.moka_hist.specs.Next.{goes}
use Rattle.moka_hist.specs.Looking.{hits, misses, keeps, finds_pair}
use Rattle.moka_hist.specs.Loading.{after_read, after_told}
use Rattle.moka_hist.specs.Run.{fresh_call}
use Rattle.moka_hist.specs.declared.writes.Write.{Write}
use Rattle.moka_hist.specs.declared.records.Stored.{Stored}
use Rattle.moka_hist.specs.declared.rules.Rules.{Rules}
use Rattle.moka_hist.specs.declared.writes.Owed.{Owed}
use Rattle.moka_hist.specs.declared.loads.Load.{Load}
use Rattle.moka_hist.specs.declared.loads.Sought.{Sought}
use Rattle.moka_hist.specs.declared.events.Start.{Start}
use Rattle.moka_hist.specs.declared.events.Told.{Told}
use Rattle.moka_hist.specs.declared.events.Told.TheVariants as answer
use Rattle.moka_hist.specs.declared.visits.Settled.{Settled}
use Rattle.moka_hist.specs.declared.visits.Settled.TheVariants as settled
use Rattle.moka_hist.specs.declared.visits.Found.TheVariants as found
use Rattle.moka_laws.proofs.Rules.{abort_next, put_plans, loaded_plans, kept_next, chosen_next, IsFresh, Disabled, fresh_plan, read_key_next, told_op_next, Walks_over}
use Rattle.moka_laws.proofs.Weights.{weigh, weigh_call}
use Rattle.moka_hist.specs.declared.loads.Compute.{Compute}
use Rattle.moka_hist.specs.Computing.{after_told_op, after_read_key}
use Rattle.moka_laws.proofs.Walks.{weigh_walk, walk_is_walk}

-- 1 where two numbers are one, and else 0
abbrev pub once : ℕ → ℕ → ℕ
once x y = cond (x == y) 1 0

-- how often a number stands among the numbers of the writes
abbrev pub among : ℕ → List Write → ℕ
among x writes = times x (map number_of writes)

-- how often it stands among those of the owed writes
abbrev pub among_owed : ℕ → List Owed → ℕ
among_owed x owed = times x (map (λ o. number_of o.write) owed)

module _ {K V E : Type 0} where
  -- the item posts a write; it posts the write of this number
  abbrev pub any_post : Item K V E → ℕ
  any_post (plan.Post write) = 1
  any_post _ = 0

  abbrev pub post_of : ℕ → Item K V E → ℕ
  post_of x (plan.Post write) = once x (number_of write)
  post_of x _ = 0

  -- the item makes a write, or may lead to one
  abbrev pub may_write : Item K V E → ℕ
  may_write plan.Drain = 0
  may_write (plan.Post write) = 0
  may_write plan.Turn = 0
  may_write plan.Apply = 0
  may_write plan.End = 0
  may_write (plan.Ended notice) = 0
  may_write (plan.Lock key) = 0
  may_write (plan.Unlock wrote) = 0
  may_write (plan.Notice key old cause upsert) = 0
  may_write plan.Heard = 0
  may_write plan.Idle = 0
  may_write (plan.List_keys part) = 0
  may_write (plan.Find key) = 0
  may_write (plan.Scan there found) = 0
  may_write (plan.Candidates parts) = 0
  may_write (plan.Strike there found) = 0
  may_write plan.Retire = 0
  may_write (plan.Settle with) = 0
  may_write (plan.Reply answer) = 0
  may_write _ = 1

  -- how many posts stand behind where the plan's one post may stand: the front, or behind the items of a turn
  -- or of a notice
  abbrev pub late : List (Item K V E) → ℕ
  late [] = 0
  late (plan.Turn ∷ rest) = late rest
  late (plan.Apply ∷ rest) = late rest
  late (plan.End ∷ rest) = late rest
  late (plan.Ended number ∷ rest) = late rest
  late (plan.Notice key old cause upsert ∷ rest) = late rest
  late (plan.Heard ∷ rest) = late rest
  late (plan.Unlock wrote ∷ rest) = late rest
  late (_ ∷ rest) = weigh any_post rest

  abbrev pub late_call : Option (Call K V E) → ℕ
  late_call None = 0
  late_call (Some c) = late c.plan

  pub late_goes : (c : Call K V E) (rest : List (Item K V E)) → late_call (goes c rest).left ≡ late rest
  late_goes c (plan.Reply a ∷ []) = refl
  late_goes c _ = refl

  -- where no write is posted none is posted late
  pub late_none : (rest : List (Item K V E)) → weigh any_post rest ≡ 0 → late rest ≡ 0
  late_none [] h = refl
  late_none (plan.Turn ∷ rest) h = late_none rest (omega arith)
  late_none (plan.Apply ∷ rest) h = late_none rest (omega arith)
  late_none (plan.End ∷ rest) h = late_none rest (omega arith)
  late_none (plan.Ended number ∷ rest) h = late_none rest (omega arith)
  late_none (plan.Notice key old cause upsert ∷ rest) h = late_none rest (omega arith)
  late_none (plan.Heard ∷ rest) h = late_none rest (omega arith)
  late_none (plan.Unlock wrote ∷ rest) h = late_none rest (omega arith)
  late_none (_ ∷ rest) h = omega arith

  -- where no write is posted the write of no number is
  pub posts_none : (x : ℕ) (rest : List (Item K V E)) → weigh any_post rest ≡ 0 → weigh (post_of x) rest ≡ 0
  posts_none x [] h = refl
  posts_none x (plan.Post write ∷ rest) h = absurd (omega arith)
  posts_none x (_ ∷ rest) h = let e = posts_none x rest (omega arith) in omega arith

  -- a call posts the one write that it holds
  pub posts_held : (x : ℕ) (plan : List (Item K V E)) → late plan ≡ 0 → weigh (post_of x) plan ≡ among x (option_to_list (held_by plan))
  posts_held x [] h = refl
  posts_held x (plan.Turn ∷ rest) h = let e = posts_held x rest h in omega arith
  posts_held x (plan.Apply ∷ rest) h = let e = posts_held x rest h in omega arith
  posts_held x (plan.End ∷ rest) h = let e = posts_held x rest h in omega arith
  posts_held x (plan.Ended number ∷ rest) h = let e = posts_held x rest h in omega arith
  posts_held x (plan.Notice key old cause upsert ∷ rest) h = let e = posts_held x rest h in omega arith
  posts_held x (plan.Heard ∷ rest) h = let e = posts_held x rest h in omega arith
  posts_held x (plan.Unlock wrote ∷ rest) h = let e = posts_held x rest h in omega arith
  posts_held x (plan.Post write ∷ rest) h = let e = posts_none x rest h in omega arith
  posts_held x (_ ∷ rest) h = let e = posts_held x rest (late_none rest h) in omega arith

  -- ---- what is left after an item

  -- a call that may have ended posts no write, none late, and may make at most one
  pub record IsClear (left : Option (Call K V E)) : Type 0 where
    pub late : late_call left ≡ 0
    pub posts : (x : ℕ) → weigh_call (post_of x) left ≡ 0
    pub may : weigh_call may_write left ≤ 1

  -- the plan posts no write, none late, and may make at most one
  record IsClearPlan (p : List (Item K V E)) : Type 0 where
    late : late p ≡ 0
    posts : (x : ℕ) → weigh (post_of x) p ≡ 0
    may : weigh may_write p ≤ 1

  fresh_form : (rules : Rules) (p : List (Item K V E)) → IsFresh rules p → IsClearPlan p
  fresh_form rules p (Disabled a d plain) = record { late = refl; posts = λ x. refl; may = omega arith }
  fresh_form rules p (Walks_over parts able) = record {
    late = late_none p (weigh_walk any_post (record { list = λ part. refl; find = λ key. refl; scan = λ there stored. refl; end = refl; choose = λ parts. refl; strike = λ there stored. refl; retire = refl }) p (walk_is_walk 0 parts));
    posts = λ x. weigh_walk (post_of x) (record { list = λ part. refl; find = λ key. refl; scan = λ there stored. refl; end = refl; choose = λ parts. refl; strike = λ there stored. refl; retire = refl }) p (walk_is_walk 0 parts);
    may = omega
        (arith, weigh_walk may_write (record { list = λ part. refl; find = λ key. refl; scan = λ there stored. refl; end = refl; choose = λ parts. refl; strike = λ there stored. refl; retire = refl }) p (walk_is_walk 0 parts));
  }
  fresh_form rules p _ = record { late = refl; posts = λ x. refl; may = omega arith }

  pub fresh_clear : (parts : ℕ) (rules : Rules) (start : Start K V) → IsClear (Some (fresh_call parts rules start))
  fresh_clear parts rules start =
      let f = fresh_form rules (plan_of parts rules start) (fresh_plan parts rules start) in
      record { late = f.late; posts = f.posts; may = f.may }

  pub keeps_clear : (c : Call K V E) → IsClear (keeps c).left
  keeps_clear c = kept_next (λ v. IsClear v.left) c
      (λ off. record { late = refl; posts = λ x. refl; may = omega arith })
      (λ on. record { late = refl; posts = λ x. refl; may = omega arith })

  pub misses_clear : (c : Call K V E) (aim : Aim K V) → IsClear (misses c aim).left
  misses_clear c (plan.To_insert key value) =
      put_plans (λ p. IsClear (goes c p).left) c.rules key value _
      (record { late = refl; posts = λ x. refl; may = omega arith })
      (record { late = refl; posts = λ x. refl; may = omega arith })
  misses_clear c (plan.To_evict key stamp cause) = keeps_clear c
  misses_clear c _ = record { late = refl; posts = λ x. refl; may = omega arith }

  pub finds_clear : (c : Call K V E) (aim : Aim K V) (there : K) (stored : Stored V) →
      IsClear (finds_pair c aim there stored).left
  finds_clear c (plan.To_evict key stamp cause) there stored =
      chosen_next (λ v. IsClear v.left) c key stamp cause there stored
      (λ off. record { late = refl; posts = λ x. refl; may = omega arith })
      (λ on. record { late = refl; posts = λ x. refl; may = omega arith })
      (record { late = refl; posts = λ x. refl; may = omega arith })
  finds_clear c _ there stored = record { late = refl; posts = λ x. refl; may = omega arith }

  pub hits_clear : (c : Call K V E) (aim : Aim K V) (there : K) (value : V) → IsClear (Some c) →
      IsClear (hits c aim there value).left
  hits_clear c (plan.To_evict key stamp cause) there value h =
      record { late = h.late; posts = h.posts; may = h.may }
  hits_clear c _ there value h =
      record { late = refl; posts = λ x. refl; may = omega arith }

  pub read_clear : (c : Call K V E) (sought : Sought K) (with : Settled V E) → IsClear (Some c) →
      IsClear (after_read c sought (found.ReadSettled with)).left
  read_clear c sought settled.NotYet h = record { late = h.late; posts = h.posts; may = h.may }
  read_clear c sought settled.Aborted h =
      abort_next (λ v. IsClear v.left) c sought (record { late = refl; posts = λ x. refl; may = omega arith })
      (record { late = refl; posts = λ x. refl; may = omega arith })
  read_clear c sought _ h = record { late = refl; posts = λ x. refl; may = omega arith }

  pub told_clear : (c : Call K V E) (load : Load K) (given : Told V E) → IsClear (Some c) →
      IsClear (after_told c load (found.TakeTold (Some given))).left
  told_clear c load (answer.Value value) h =
      loaded_plans (λ p. IsClear (goes c p).left) c.rules load value
      (record { late = refl; posts = λ x. refl; may = omega arith })
      (record { late = refl; posts = λ x. refl; may = omega arith })
      (record { late = refl; posts = λ x. refl; may = omega arith })
  told_clear c load answer.Nothing h = record { late = refl; posts = λ x. refl; may = omega arith }
  told_clear c load (answer.Err error) h =
      record { late = refl; posts = λ x. refl; may = omega arith }
  told_clear c load _ h = record { late = h.late; posts = h.posts; may = h.may }

  pub read_key_clear : (c : Call K V E) (compute : Compute K) (with : Settled V E) →
      IsClear (Some c) →
      IsClear (after_read_key c compute (found.ReadSettled with)).left
  read_key_clear c compute with h = read_key_next (λ v. IsClear v.left) c compute with
      (record { late = h.late; posts = h.posts; may = h.may })
      (record { late = refl; posts = λ x. refl; may = omega arith })

  pub told_op_clear : (c : Call K V E) (compute : Compute K) (pair : Option (K × V))
      (given : Told V E) → IsClear (Some c) →
      IsClear (after_told_op c compute pair (found.TakeTold (Some given))).left
  told_op_clear c compute pair given h = told_op_next (λ v. IsClear v.left) c compute pair given
      (λ a. record { late = refl; posts = λ x. refl; may = omega arith })
      (λ value able off. record { late = refl; posts = λ x. refl; may = omega arith })
      (λ value able on. record { late = refl; posts = λ x. refl; may = omega arith })
      (λ off. record { late = refl; posts = λ x. refl; may = omega arith })
      (λ on. record { late = refl; posts = λ x. refl; may = omega arith })
      (record { late = h.late; posts = h.posts; may = h.may })
