-- One access a step, in the segment of the call and among all segments.
use Rattle.std.proofs.Common.{◌≡◌, ℕ, ◌≤◌, Bool, List, [], ◌∷◌, ◌++◌, length, Option, Some, Result, Err, inl, refl, sym, ap, subst, ◌∙◌, arith, set}
use Rattle.std.proofs.lemmas.Option.{slice_get_within}
use Rattle.std.specs.List.{slice_get}
use Rattle.std.specs.declared.alloc.AllocError.{AllocError}
use Rattle.moka_words.specs.declared.accesses.Access.{Access}
use Rattle.moka_growth.specs.Calls.{Step, Going, Decided}
use Rattle.moka_calls.specs.Standing.{Wants}
use Rattle.moka_buckets.specs.declared.node.Node.{Node}
use Rattle.moka_buckets.specs.declared.part.Part.{Part}
use Rattle.moka_buckets.specs.declared.bucket_call.BucketCall.{BucketCall}
use Rattle.moka_buckets.specs.Accesses.{wanted_by, GrowsByOne, IsAsBefore, MovesOnce, StaysThere, StepsOnce}
use Rattle.moka_buckets.specs.Putting.{Stays}
use Rattle.moka_buckets.proofs.Placed.{get-set-same, get-set-other}

pub wanted_is : (step : Step) (a : Access) → Wants step a → wanted_by step ≡ Some a
wanted_is (Going c) a wants = ap Some (sym wants)
wanted_is (Decided e) a wants = absurd wants

one_item : {A : Type 0} {x y : A} → Some x ≡ Some y → x ≡ y
one_item e = cc

all_front : {A : Type 0} (xs : List A) → xs ≡ xs ++ []
all_front [] = refl
all_front (x ∷ xs) = ap (λ ys. x ∷ ys) (all_front xs)

module _ {K V : Type 0} where
  pub grows_none : (nodes : List (Node K V)) → GrowsByOne nodes nodes
  grows_none nodes = record { more = []; added = all_front nodes; one = omega arith }

  pub grows_same : (nodes more : List (Node K V)) → more ≡ nodes → GrowsByOne nodes more
  grows_same nodes more same = subst (λ xs. GrowsByOne nodes xs) (sym same) (grows_none nodes)

  pub as_it_was : (p : Part K V) → IsAsBefore p p
  as_it_was p = record { memory = refl; nodes = refl; peak = refl }

  module _ {A : Type 0} (eq : K → K → Bool) (hash : K → ℕ) (key : Option K) (wanted : Option Access) (gives : Result A AllocError) where
    -- among all segments a step changes its own
    pub moves_once : (old new : List (Part K V)) (i : ℕ) (p q : Part K V) → slice_get old i ≡ Some p → new ≡ set old i q →
        StepsOnce eq hash key wanted gives p q → MovesOnce eq hash key wanted i gives old new
    moves_once old new i p q there is once = subst (λ ps. MovesOnce eq hash key wanted i gives old ps) (sym is) (record {
      others = λ j other. get-set-other old i j q other;
      own = λ r at. (
        q,
        get-set-same old i q (slice_get_within old i p there),
        subst (λ x. StepsOnce eq hash key wanted gives x q) (one_item (sym there ∙ at)) once,
      );
    })

    -- a step to a segment that isn't there changes none
    pub moves_nowhere : (parts : List (Part K V)) (i : ℕ) → length parts ≤ i → MovesOnce eq hash key wanted i gives parts parts
    moves_nowhere parts i past = record {
      others = λ j other. refl;
      own = λ p at. absurd (let within = slice_get_within parts i p at in omega (arith, within, past));
    }

  -- without memory no segment has changed
  pub moves_none : {A : Type 0} (eq : K → K → Bool) (hash : K → ℕ) (key : Option K) (wanted : Option Access) (parts : List (Part K V)) (i : ℕ) (e : AllocError) →
      MovesOnce {A = A} eq hash key wanted i (Err e) parts parts
  moves_none eq hash key wanted parts i e = record {
    others = λ j other. refl;
    own = λ p at. (p, at, record { accesses = tt; grows = grows_none p.nodes.items; err = as_it_was p });
  }

module _ {K V : Type 0} (before after : BucketCall K V) where
  -- a step leaves the nodes so in its own segment
  pub stays_there : (old new : List (Part K V)) (i : ℕ) (p q : Part K V) → slice_get old i ≡ Some p → new ≡ set old i q →
      Stays p.nodes.items q.nodes.items before after → StaysThere i old new before after
  stays_there old new i p q there is stays = subst (λ ps. StaysThere i old ps before after) (sym is) (λ r at. (
    q,
    get-set-same old i q (slice_get_within old i p there),
    subst (λ x. Stays x.nodes.items q.nodes.items before after) (one_item (sym there ∙ at)) stays,
  ))

  -- a step that hasn't been made leaves them all
  pub stays_all : (parts : List (Part K V)) (i : ℕ) → after ≡ before → StaysThere i parts parts before after
  stays_all parts i same p at = (p, at, inl (refl, ap (λ c. c.node) same))
