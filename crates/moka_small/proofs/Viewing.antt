-- What a poll leaves is seen as the small state with the same changed.
use Rattle.std.proofs.Common.{◌≡◌, ℕ, Option, Some, None, sym, ap, ◌∙◌}
use Rattle.std.specs.Option.{option_map, option_and_then}
use Rattle.moka_hist.specs.Finite.{put_at}
use Rattle.moka_hist.specs.State.{Call, DeskPart, State, TablePart}
use Rattle.moka_hist.specs.declared.replies.Reply.{Reply}
use Rattle.moka_polls.specs.Polls.{PollGives}
use Rattle.moka_small.specs.Small.{End, Stand, Small, load_at, owner_at}
use Rattle.moka_small.specs.Seen.{IsOrderly, Views, rules_of, call_at, takes_at, told_at, settled_as, small_record}
use Rattle.moka_small.proofs.Places.{both_put, left_put, right_put}

-- the desk has what the stands and the ends say
pub record DeskIs {K V E : Type 0} (was desk : DeskPart K V E) (stands : ℕ → Option (Stand K V E))
    (ends : ℕ → Option (End V E)) : Type 0 where
  pub rules : desk.rules ≡ was.rules
  pub valid : desk.valid_after ≡ was.valid_after
  pub registered : desk.registered ≡ was.registered
  pub last : desk.last ≡ was.last
  pub owning : (k : ℕ) → desk.owning k ≡ option_and_then load_at (stands k)
  pub joined : (k : ℕ) → desk.joined k ≡ option_and_then owner_at (stands k)
  pub asks : (k : ℕ) → desk.asks k ≡ option_and_then takes_at (stands k)
  pub told : (k : ℕ) → desk.told k ≡ option_and_then told_at (stands k)
  pub settled : (k : ℕ) → desk.settled k ≡ option_map settled_as (ends k)

module _ {K V E : Type 0} (s new : State K V E) (m : Small K V E) (n : ℕ) (views : Views s m) where
  -- the call goes elsewhere, or is gone
  pub after : (stored : K → Option (V × ℕ)) (x : Option (Stand K V E)) (ends : ℕ → Option (End V E))
      (r reply : Reply K V E) (left : Option (Call K V E)) (table : TablePart K V) (desk : DeskPart K V E) →
      DeskIs s.world.desk desk (put_at m.stands n x) ends →
      left ≡ option_map (call_at (rules_of m.capacity)) x →
      ((key : K) → option_map small_record (table.stored key) ≡ stored key) →
      IsOrderly (record { stored = stored; stands = put_at m.stands n x; ends = ends; last = m.last; capacity = m.capacity }) →
      PollGives s n reply left table desk r new →
      Views new (record { stored = stored; stands = put_at m.stands n x; ends = ends; last = m.last; capacity = m.capacity })
  after stored x ends r reply left table desk is left_is stored_is orderly gives = record {
    rules = ap (λ d. d.rules) gives.keeps ∙ is.rules ∙ views.rules;
    stores = views.stores;
    valid = ap (λ d. d.valid_after) gives.keeps ∙ is.valid ∙ views.valid;
    unhit = ap (λ d. d.registered) gives.keeps ∙ is.registered ∙ views.unhit;
    last = ap (λ d. d.last) gives.keeps ∙ is.last ∙ views.last;
    stored = λ key. ap (λ t. option_map small_record (t.stored key)) gives.stores ∙ stored_is key;
    calls = λ k. ap (λ f. f k) gives.leaves ∙
        both_put s.calls m.stands (option_map (call_at (rules_of m.capacity))) views.calls n left x left_is k;
    owning = λ k. ap (λ d. d.owning k) gives.keeps ∙ is.owning k;
    joined = λ k. ap (λ d. d.joined k) gives.keeps ∙ is.joined k;
    asks = λ k. ap (λ d. d.asks k) gives.keeps ∙ is.asks k;
    told = λ k. ap (λ d. d.told k) gives.keeps ∙ is.told k;
    settled = λ k. ap (λ d. d.settled k) gives.keeps ∙ is.settled k;
    orderly = orderly;
  }

  -- the call stays where it is, and nothing changes
  pub after_waiting : (r reply : Reply K V E) (left : Option (Call K V E)) →
      left ≡ option_map (call_at (rules_of m.capacity)) (m.stands n) →
      PollGives s n reply left s.world.table s.world.desk r new → Views new m
  after_waiting r reply left left_is gives = record {
    rules = ap (λ d. d.rules) gives.keeps ∙ views.rules;
    stores = views.stores;
    valid = ap (λ d. d.valid_after) gives.keeps ∙ views.valid;
    unhit = ap (λ d. d.registered) gives.keeps ∙ views.unhit;
    last = ap (λ d. d.last) gives.keeps ∙ views.last;
    stored = λ key. ap (λ t. option_map small_record (t.stored key)) gives.stores ∙ views.stored key;
    calls = λ k. ap (λ f. f k) gives.leaves ∙
        left_put s.calls m.stands (option_map (call_at (rules_of m.capacity))) views.calls n left left_is k;
    owning = λ k. ap (λ d. d.owning k) gives.keeps ∙ views.owning k;
    joined = λ k. ap (λ d. d.joined k) gives.keeps ∙ views.joined k;
    asks = λ k. ap (λ d. d.asks k) gives.keeps ∙ views.asks k;
    told = λ k. ap (λ d. d.told k) gives.keeps ∙ views.told k;
    settled = λ k. ap (λ d. d.settled k) gives.keeps ∙ views.settled k;
    orderly = views.orderly;
  }

module _ {K V E A : Type 0} (m : Small K V E) (n : ℕ) (stand : Stand K V E) (live : m.stands n ≡ Some stand)
    (f : ℕ → Option A) (h : Stand K V E → Option A) (all : (k : ℕ) → f k ≡ option_and_then h (m.stands k)) where
  -- what a part has for the call that stands there
  pub part_at : f n ≡ h stand
  part_at = all n ∙ ap (option_and_then h) live

  -- it has nothing for the call, before and after
  pub still_none : (x : Option (Stand K V E)) → h stand ≡ None → option_and_then h x ≡ None → (k : ℕ) →
      f k ≡ option_and_then h (put_at m.stands n x k)
  still_none x before then_none = right_put f m.stands (option_and_then h) all n x (part_at ∙ before ∙ sym then_none)

  -- it is given something for the call
  pub is_put : (v : Option A) (x : Option (Stand K V E)) → v ≡ option_and_then h x → (k : ℕ) →
      put_at f n v k ≡ option_and_then h (put_at m.stands n x k)
  is_put v x e = both_put f m.stands (option_and_then h) all n v x e
