-- Registered predicates stand by moment.
use Rattle.std.proofs.Common.{◌≡◌, ◌<◌, ◌≤◌, ◌-◌, ◌&&◌, ◌||◌, ℕ, zero, suc, Bool, false, List, [], ◌∷◌, ◌++◌, length, get_or, take, arith, sym, ap, ◌∙◌, subst}
use Rattle.std.specs.List.{list_any, AllByRecursion}
use Rattle.std.proofs.lemmas.Bool.{lt-leb}
use Rattle.moka_hist.specs.declared.predicates.Registered.{Registered}
use Rattle.moka_desk.specs.Predicates.{hit_by, AreTimely}

-- what all have the one at a place has
all_there : (P : Registered → Type 0) (rs : List Registered) (n : ℕ) (d : Registered) → AllByRecursion P rs → n < length rs → P (get_or rs n d)
all_there P [] n d all below = absurd (omega arith)
all_there P (r ∷ rest) zero d all below = all.0
all_there P (r ∷ rest) (suc n) d all below = all_there P rest n d all.1 (omega arith)

-- what all have and one more has, all have then
all_push : (P : Registered → Type 0) (rs : List Registered) (one : Registered) → AllByRecursion P rs → P one → AllByRecursion P (rs ++ one ∷ [])
all_push P [] one all p = (p, tt)
all_push P (r ∷ rest) one all p = (all.0, all_push P rest one all.1 p)

-- one that is registered now is the latest
pub timely_push : (clock : ℕ) (rs : List Registered) (one : Registered) → AreTimely clock rs → one.moment ≡ clock → AreTimely clock (rs ++ one ∷ [])
timely_push clock [] one timely now = (omega arith, tt, tt)
timely_push clock (r ∷ rest) one timely now =
    let before : r.moment ≤ clock = timely.0 in
    (before, all_push (λ later. r.moment ≤ later.moment) rest one timely.1 (omega arith), timely_push clock rest one timely.2 now)

-- they are timely once the clock has gone on
pub timely_on : (clock moment : ℕ) (rs : List Registered) → clock ≤ moment → AreTimely clock rs → AreTimely moment rs
timely_on clock moment [] later timely = tt
timely_on clock moment (r ∷ rest) later timely =
    let before : r.moment ≤ clock = timely.0 in
    (omega arith, timely.1, timely_on clock moment rest later timely.2)

module _ {K V : Type 0} (answers : ℕ → K → V → Bool) (key : K) (value : V) (modified : ℕ) where
  -- a predicate that is earlier than the record doesn't hit it
  early_misses : (r : Registered) → r.moment < modified → hit_by answers key value modified r ≡ false
  early_misses r early = ap (λ b. b && answers r.test key value) (lt-leb modified r.moment early)

  -- nor do those before it
  pub earlier_miss : (clock : ℕ) (rs : List Registered) (n : ℕ) (d : Registered) → AreTimely clock rs → n < length rs → (get_or rs n d).moment < modified →
      list_any (hit_by answers key value modified) (take (suc n) rs) ≡ false
  earlier_miss clock [] n d timely below early = absurd (omega arith)
  earlier_miss clock (r ∷ rest) zero d timely below early = ap (λ b. b || false) (early_misses r early)
  earlier_miss clock (r ∷ rest) (suc n) d timely below early =
      let first : r.moment ≤ (get_or rest n d).moment = all_there (λ later. r.moment ≤ later.moment) rest n d timely.1 (omega arith) in
      ap (λ b. b || list_any (hit_by answers key value modified) (take (suc n) rest)) (early_misses r (omega arith))
      ∙ earlier_miss clock rest n d timely.2 (omega arith) early

  abbrev hits : List Registered → Bool
  hits = list_any (hit_by answers key value modified)

  -- so where those after a place miss, and the one before it is early, all miss
  pub none_hits : (clock : ℕ) (rs items : List Registered) (place : ℕ) (latest : Registered) → items ≡ rs → AreTimely clock rs → 0 < place → place ≤ length items →
      latest ≡ get_or items (place - 1) latest → latest.moment < modified →
      list_any (hit_by answers key value modified) items ≡ list_any (hit_by answers key value modified) (take place items) → false ≡ list_any (hit_by answers key value modified) rs
  none_hits clock rs items place latest same timely some within there early after = sym (ap hits (sym same) ∙ after ∙ ap (λ n. hits (take n items)) more ∙ before) where
    more : place ≡ suc (place - 1)
    more = omega arith

    in_order : AreTimely clock items
    in_order = subst (AreTimely clock) (sym same) timely

    before : hits (take (suc (place - 1)) items) ≡ false
    before = earlier_miss clock items (place - 1) latest in_order (omega arith) (subst (λ r. r.moment < modified) there early)
