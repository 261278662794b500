-- What a walk lists first, and that it holds no write.
use Rattle.std.proofs.Common.{◌≡◌, ℕ, zero, suc, ◌+◌, ◌-◌, List, [], ◌∷◌, ◌++◌, map, None, refl, ap, ◌∙◌, arith}
use Rattle.moka_hist.specs.Plan.{Item, held_by, lists_from, walk_from}
use Rattle.moka_hist.specs.Plan as plan
use Rattle.moka_hist.specs.declared.replies.Answer.TheVariants as answer
use Rattle.moka_init.specs.declared.flow.Flow.{Flow}
use Rattle.moka_init.specs.declared.points.Maintenance.{Maintenance}
use Rattle.moka_init.specs.declared.points.Maintenance.TheVariants as maintenance
use Rattle.moka_init.specs.declared.points.PartKeys.{PartKeys}
use Rattle.moka_init.specs.declared.points.Point.TheVariants as point
use Rattle.moka_init.specs.declared.points.Walk.{Walk}
use Rattle.moka_init.specs.declared.points.Walk.TheVariants as walk
use Rattle.moka_init.specs.FlowPlan.{call_of}
use Rattle.moka_init.specs.PointPlan.{keys_rest, keys_to_retire, later_parts, later_to_retire, maintaining_plan, walking_plan}

module _ (K V E : Type 0) where
  -- a walk over some parts lists the first of them first
  pub first_part : (parts last : ℕ) → parts ≡ last + 1 →
      walking_plan {K = K} {V = V} {E = E} (walk.List (record { number = 0; last = last })) ≡ walk_from 0 parts
  first_part parts last e =
      let more : suc last ≡ parts = omega (arith, e) in
      let all : last - 0 ≡ last = omega arith in
      ap (λ k. walk_from {K = K} {V = V} {E = E} 0 (suc k)) all ∙ ap (λ n. walk_from {K = K} {V = V} {E = E} 0 n) more

  listed_hold : (part left : ℕ) (rest : List (Item K V E)) → held_by rest ≡ None → held_by (lists_from part left rest) ≡ None
  listed_hold part zero rest h = h
  listed_hold part (suc left) rest h = listed_hold (part + 1) left rest h

  later_hold : (part left : ℕ) → held_by (walk_from {K = K} {V = V} {E = E} part left) ≡ None
  later_hold part left = listed_hold part left (plan.Reply answer.End ∷ []) refl

  finds_hold : (keys : List K) (rest : List (Item K V E)) → held_by rest ≡ None → held_by (map plan.Find keys ++ rest) ≡ None
  finds_hold [] rest h = h
  finds_hold (key ∷ keys) rest h = finds_hold keys rest h

  rest_holds : (rest : PartKeys K) → held_by {V = V} {E = E} (keys_rest rest) ≡ None
  rest_holds rest = finds_hold rest.keys (later_parts rest.part) (later_hold (rest.part.number + 1) (rest.part.last - rest.part.number))

  walk_holds : (w : Walk K V) → held_by {E = E} (walking_plan w) ≡ None
  walk_holds (walk.List part) = later_hold (part.number + 1) (part.last - part.number)
  walk_holds (walk.Find key rest) = rest_holds rest
  walk_holds (walk.Scan key stored rest) = rest_holds rest

  pub holds_none : (flow : Flow K V E) (w : Walk K V) → flow.point ≡ point.Walking w → None ≡ held_by (call_of flow).plan
  holds_none flow w stands = rw (stands, walk_holds w) refl

  -- ---- maintenance

  -- a walk over some parts lists the first of them first
  pub first_to_retire : (parts last : ℕ) (ids : List (ℕ × ℕ)) → parts ≡ last + 1 →
      maintaining_plan {K = K} {V = V} {E = E} (maintenance.List (record { number = 0; last = last }) ids) ≡ lists_from 0 parts (plan.Retire ∷ [])
  first_to_retire parts last ids e =
      let more : suc last ≡ parts = omega (arith, e) in
      let all : last - 0 ≡ last = omega arith in
      ap (λ k. lists_from {K = K} {V = V} {E = E} 0 (suc k) (plan.Retire ∷ [])) all ∙ ap (λ n. lists_from {K = K} {V = V} {E = E} 0 n (plan.Retire ∷ [])) more

  to_retire_holds : (rest : PartKeys K) → held_by {V = V} {E = E} (keys_to_retire rest) ≡ None
  to_retire_holds rest = finds_hold rest.keys (later_to_retire rest.part)
      (listed_hold (rest.part.number + 1) (rest.part.last - rest.part.number) (plan.Retire ∷ []) refl)

  maintenance_holds : (m : Maintenance K V) → held_by {E = E} (maintaining_plan m) ≡ None
  maintenance_holds (maintenance.List part ids) = listed_hold (part.number + 1) (part.last - part.number) (plan.Retire ∷ []) refl
  maintenance_holds (maintenance.Find key rest ids) = to_retire_holds rest
  maintenance_holds (maintenance.Strike key stored rest ids) = to_retire_holds rest
  maintenance_holds _ = refl

  pub maintenance_holds_none : (flow : Flow K V E) (m : Maintenance K V) → flow.point ≡ point.Maintaining m → None ≡ held_by (call_of flow).plan
  maintenance_holds_none flow m stands = rw (stands, maintenance_holds m) refl
