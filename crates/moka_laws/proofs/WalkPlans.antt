-- What a walk has still to do: few lists and few looks, and no key twice; and which lists are begun.
use Rattle.std.proofs.Common.{◌≡◌, ℕ, zero, suc, ◌+◌, ◌<◌, ◌≤◌, Bool, true, false, List, [], ◌∷◌, ◌++◌, map, length, All, refl, sym, ◌∙◌, subst, arith}
use Rattle.std.specs.Cmp.{IsEquivalence}
use Rattle.std.specs.List.{AllByRecursion, IsDistinct}
use Rattle.moka_hist.specs.Bound.{array_bound}
use Rattle.moka_hist.specs.State.{Division, Listed, TablePart}
use Rattle.moka_hist.specs.Plan.{Item, lists_from, walk_from}
use Rattle.moka_hist.specs.Plan as plan
use Rattle.moka_hist.specs.Run.{Divides}
use Rattle.moka_hist.specs.Tables.{GivesKeys}
use Rattle.moka_hist.specs.declared.records.Stored.{Stored}
use Rattle.moka_hist.specs.declared.replies.Answer.TheVariants as answer
use Rattle.moka_laws.proofs.Walks.{weigh_finds}
use Rattle.moka_laws.proofs.Weights.{weigh}

-- what holds of each element by its place holds of each in turn
pub all_in_turn : {A : Type 0} (P : A → Type 0) (xs : List A) → All P xs → AllByRecursion P xs
all_in_turn P [] h = tt
all_in_turn P (x ∷ xs) h = (h 0 x (omega arith), all_in_turn P xs (λ k d l. h (suc k) d (omega arith)))

-- keys of different parts differ
pub parts_differ : {K : Type 0} (eq : K → K → Bool) (division : Division K) → Divides eq division → (a b : K) → division.part_of a < division.part_of b →
    eq a b ≡ false
parts_differ eq division divides a b less = by (eq a b) refl
  where
    by : (v : Bool) → eq a b ≡ v → v ≡ false
    by false e = refl
    by true e = absurd (omega (arith, less, divides.alike a b e))

module _ {K V E : Type 0} where
  -- how many lists the item makes, or will lead to; it looks a listed key up or judges what was found
  abbrev pub list_of : Item K V E → ℕ
  list_of (plan.List_keys part) = 1
  list_of (plan.Candidates parts) = parts
  list_of _ = 0

  abbrev pub look_of : Item K V E → ℕ
  look_of (plan.Find key) = 1
  look_of (plan.Scan there found) = 1
  look_of (plan.Strike there found) = 1
  look_of _ = 0

  -- how many looks stand behind a list
  abbrev pub late_looks : List (Item K V E) → ℕ
  late_looks (plan.List_keys part ∷ rest) = weigh look_of rest
  late_looks (plan.Find key ∷ rest) = late_looks rest
  late_looks (plan.Scan there found ∷ rest) = late_looks rest
  late_looks (plan.Strike there found ∷ rest) = late_looks rest
  late_looks _ = 0

  pub late_none : (p : List (Item K V E)) → weigh look_of p ≡ 0 → late_looks p ≡ 0
  late_none (plan.List_keys part ∷ rest) h = omega arith
  late_none (plan.Find key ∷ rest) h = absurd (omega arith)
  late_none (plan.Scan there found ∷ rest) h = absurd (omega arith)
  late_none (plan.Strike there found ∷ rest) h = absurd (omega arith)
  late_none [] h = refl
  late_none (_ ∷ rest) h = refl

  pub late_finds : (keys : List K) (rest : List (Item K V E)) → late_looks (map plan.Find keys ++ rest) ≡ late_looks rest
  late_finds [] rest = refl
  late_finds (key ∷ keys) rest = late_finds keys rest

  pub count_finds : (keys : List K) (rest : List (Item K V E)) → weigh look_of (map plan.Find keys ++ rest) ≡ length keys + weigh look_of rest
  count_finds [] rest = omega arith
  count_finds (key ∷ keys) rest = let h = count_finds keys rest in omega arith

  -- each list that the plan has still to make is of a part past this one
  abbrev pub Above : ℕ → List (Item K V E) → Type 0
  Above part [] = Unit {0}
  Above part (plan.List_keys q ∷ rest) = (part < q) × Above part rest
  Above part (plan.Candidates parts ∷ rest) = ⊥
  Above part (_ ∷ rest) = Above part rest

  pub above_finds : (part : ℕ) (keys : List K) (rest : List (Item K V E)) → Above part rest → Above part (map plan.Find keys ++ rest)
  above_finds part [] rest h = h
  above_finds part (key ∷ keys) rest h = above_finds part keys rest h

  -- the plan begins with the list of this part
  abbrev pub BeginsWith : ℕ → List (Item K V E) → Type 0
  BeginsWith part (plan.List_keys q ∷ rest) = part ≡ q
  BeginsWith part _ = ⊥

-- of the plan that lists so many parts, from one on
module _ {K V E : Type 0} (end : List (Item K V E)) where
  pub above_from : ((below : ℕ) → Above below end) → (below part left : ℕ) → below < part → Above below (lists_from part left end)
  above_from over below part zero h = over below
  above_from over below part (suc left) h = (h, above_from over below (part + 1) left (omega arith))

  pub few_from : (part left : ℕ) → weigh list_of (lists_from part left end) ≡ left + weigh list_of end
  few_from part zero = omega arith
  few_from part (suc left) = let h = few_from (part + 1) left in omega arith

  pub no_looks_from : (part left : ℕ) → weigh look_of end ≡ 0 → weigh look_of (lists_from part left end) ≡ 0
  no_looks_from part zero none = none
  no_looks_from part (suc left) none = let h = no_looks_from (part + 1) left none in omega arith

module _ {K V E : Type 0} (eq : K → K → Bool) (division : Division K) where
  -- the walk comes to no key that equals this one: it neither looks it up nor judges its record, and
  -- all parts that it has still to list are past that of the key
  abbrev pub Past : K → List (Item K V E) → Type 0
  Past key [] = Unit {0}
  Past key (plan.List_keys q ∷ rest) = (division.part_of key < q) × Past key rest
  Past key (plan.Candidates parts ∷ rest) = ⊥
  Past key (plan.Find other ∷ rest) = (eq key other ≡ false) × Past key rest
  Past key (plan.Scan there found ∷ rest) = (eq key there ≡ false) × Past key rest
  Past key (plan.Strike there found ∷ rest) = (eq key there ≡ false) × Past key rest
  Past key (_ ∷ rest) = Past key rest

  -- it comes to no key twice
  abbrev pub Apart : List (Item K V E) → Type 0
  Apart [] = Unit {0}
  Apart (plan.List_keys q ∷ rest) = Above q rest × Apart rest
  Apart (plan.Find key ∷ rest) = Past key rest × Apart rest
  Apart (plan.Scan there found ∷ rest) = Past there rest × Apart rest
  Apart (plan.Strike there found ∷ rest) = Past there rest × Apart rest
  Apart (_ ∷ rest) = Apart rest

  -- where no key is to be looked up, a list's key is past what has only later parts to list
  past_lists : (key : K) (part : ℕ) (p : List (Item K V E)) → division.part_of key ≡ part → weigh look_of p ≡ 0 → Above part p → Past key p
  past_lists key part [] is none above = tt
  past_lists key part (plan.List_keys q ∷ rest) is none above = (omega (arith, is, above.0), past_lists key part rest is (omega (arith, none)) above.1)
  past_lists key part (plan.Find other ∷ rest) is none above = absurd (omega (arith, none))
  past_lists key part (plan.Scan there found ∷ rest) is none above = absurd (omega (arith, none))
  past_lists key part (plan.Candidates parts ∷ rest) is none above = absurd above
  past_lists key part (plan.Strike there found ∷ rest) is none above = absurd (omega (arith, none))
  past_lists key part (_ ∷ rest) is none above = past_lists key part rest is (omega (arith, none)) above

  pub past_finds : (key : K) (keys : List K) (rest : List (Item K V E)) → AllByRecursion (λ q. eq key q ≡ false) keys → Past key rest →
      Past key (map plan.Find keys ++ rest)
  past_finds key [] rest other h = h
  past_finds key (k ∷ keys) rest other h = (other.0, past_finds key keys rest other.1 h)

  -- the listed keys come to be looked up
  pub apart_finds : (part : ℕ) (keys : List K) (rest : List (Item K V E)) → IsDistinct eq keys →
      AllByRecursion (λ q. division.part_of q ≡ part) keys → weigh look_of rest ≡ 0 → Above part rest → Apart rest →
      Apart (map plan.Find keys ++ rest)
  unfolding IsDistinct
  apart_finds part [] rest distinct of none above apart = apart
  apart_finds part (key ∷ keys) rest distinct of none above apart = (
    past_finds key keys rest distinct.0 (past_lists key part rest of.0 none above),
    apart_finds part keys rest distinct.1 of.1 none above apart,
  )

  -- what is past a key is past each that equals it
  pub past_alike : IsEquivalence eq → Divides eq division → (a b : K) → eq a b ≡ true → (p : List (Item K V E)) → Past b p → Past a p
  past_alike laws divides a b e [] h = tt
  past_alike laws divides a b e (plan.List_keys q ∷ rest) h =
      (omega (arith, h.0, divides.alike a b e), past_alike laws divides a b e rest h.1)
  past_alike laws divides a b e (plan.Find other ∷ rest) h = (laws.congr a b other e ∙ h.0, past_alike laws divides a b e rest h.1)
  past_alike laws divides a b e (plan.Scan there found ∷ rest) h = (laws.congr a b there e ∙ h.0, past_alike laws divides a b e rest h.1)
  past_alike laws divides a b e (plan.Candidates parts ∷ rest) h = absurd h
  past_alike laws divides a b e (plan.Strike there found ∷ rest) h = (laws.congr a b there e ∙ h.0, past_alike laws divides a b e rest h.1)
  past_alike laws divides a b e (_ ∷ rest) h = past_alike laws divides a b e rest h

-- the plan that lists each part once comes to no key twice
pub apart_from : {K V E : Type 0} (eq : K → K → Bool) (division : Division K) (end : List (Item K V E)) → ((below : ℕ) → Above below end) →
    Apart eq division end → (part left : ℕ) → Apart eq division (lists_from part left end)
apart_from eq division end over apart part zero = apart
apart_from eq division end over apart part (suc left) =
    (above_from end over part (part + 1) left (omega arith), apart_from eq division end over apart (part + 1) left)

module _ {K V E : Type 0} (eq : K → K → Bool) where
  -- What a walk has still to do with this table: few lists and few looks, none of these behind a
  -- list, and no key twice.
  pub record Orderly (t : TablePart K V) (p : List (Item K V E)) : Type 0 where
    pub lists : weigh list_of p ≤ 64
    pub looks : weigh look_of p ≤ array_bound t
    pub early : late_looks p ≡ 0
    pub apart : Apart eq t.division p

  -- so it is with a table of the same division that has had as many keys, or more
  pub orderly_on : (t u : TablePart K V) (p : List (Item K V E)) → u.division ≡ t.division → t.peak ≤ u.peak → Orderly t p → Orderly u p
  orderly_on t u p same more o = record {
    lists = o.lists;
    looks = omega (arith, o.looks, more);
    early = o.early;
    apart = subst (λ d. Apart eq d p) (sym same) o.apart;
  }

  module _ (t : TablePart K V) where
    pub orderly_list : (part : ℕ) (keys : List K) (rest : List (Item K V E)) (listed : Listed K) → listed.part ≡ part →
        Orderly t (plan.List_keys part ∷ rest) → GivesKeys eq t listed keys → Orderly t (map plan.Find keys ++ rest)
    orderly_list part keys rest listed is o gives = record {
      lists = omega (arith, o.lists, weigh_finds {E = E} list_of (λ key. refl) keys rest);
      looks = omega (arith, o.early, count_finds {E = E} keys rest, gives.few);
      early = late_finds keys rest ∙ late_none rest o.early;
      apart = apart_finds eq t.division part keys rest gives.distinct
          (subst (λ v. AllByRecursion (λ q. t.division.part_of q ≡ v) keys) is (all_in_turn _ keys gives.of_part)) o.early o.apart.0 o.apart.1;
    }

    pub orderly_find : (key : K) (rest : List (Item K V E)) → Orderly t (plan.Find key ∷ rest) → Orderly t rest
    orderly_find key rest o = record {
      lists = omega (arith, o.lists);
      looks = omega (arith, o.looks);
      early = o.early;
      apart = o.apart.1;
    }

    pub orderly_found : IsEquivalence eq → Divides eq t.division → (key there : K) (found : Stored V) (rest : List (Item K V E)) →
        eq there key ≡ true → Orderly t (plan.Find key ∷ rest) → Orderly t (plan.Scan there found ∷ rest)
    orderly_found laws divides key there found rest e o = record {
      lists = omega (arith, o.lists);
      looks = omega (arith, o.looks);
      early = o.early;
      apart = (past_alike eq t.division laws divides there key e rest o.apart.0, o.apart.1);
    }

    -- so where the record is struck by
    pub orderly_to_strike : (there : K) (found : Stored V) (rest : List (Item K V E)) →
        Orderly t (plan.Scan there found ∷ rest) → Orderly t (plan.Strike there found ∷ rest)
    orderly_to_strike there found rest o = record { lists = o.lists; looks = o.looks; early = o.early; apart = o.apart }

    pub orderly_strike : (there : K) (found : Stored V) (rest : List (Item K V E)) → Orderly t (plan.Strike there found ∷ rest) → Orderly t rest
    orderly_strike there found rest o = record {
      lists = omega (arith, o.lists);
      looks = omega (arith, o.looks);
      early = o.early;
      apart = o.apart.1;
    }

    pub orderly_choose : (parts : ℕ) → parts ≤ 64 → Orderly t (plan.Candidates parts ∷ [])
    orderly_choose parts few = record { lists = omega (arith, few); looks = omega arith; early = refl; apart = tt }

    -- all parts are to be listed, for the predicates that are carried
    pub orderly_chosen : (parts : ℕ) → Orderly t (plan.Candidates parts ∷ []) →
        Orderly t (lists_from 0 parts (plan.Retire ∷ []))
    orderly_chosen parts o = record {
      lists = omega (arith, o.lists, few_from {K = K} {V = V} {E = E} (plan.Retire ∷ []) 0 parts);
      looks = omega (arith, no_looks_from {K = K} {V = V} {E = E} (plan.Retire ∷ []) 0 parts refl);
      early = late_none (lists_from 0 parts (plan.Retire ∷ [])) (no_looks_from (plan.Retire ∷ []) 0 parts refl);
      apart = apart_from eq t.division (plan.Retire ∷ []) (λ below. tt) tt 0 parts;
    }

    pub orderly_scan : (there : K) (found : Stored V) (rest : List (Item K V E)) → Orderly t (plan.Scan there found ∷ rest) → Orderly t rest
    orderly_scan there found rest o = record {
      lists = omega (arith, o.lists);
      looks = omega (arith, o.looks);
      early = o.early;
      apart = o.apart.1;
    }

    pub orderly_from : Divides eq t.division → Orderly t (walk_from 0 t.division.parts)
    orderly_from divides = record {
      lists = omega (arith, divides.few, few_from {K = K} {V = V} {E = E} (plan.Reply answer.End ∷ []) 0 t.division.parts);
      looks = omega (arith, no_looks_from {K = K} {V = V} {E = E} (plan.Reply answer.End ∷ []) 0 t.division.parts refl);
      early = late_none (walk_from 0 t.division.parts) (no_looks_from (plan.Reply answer.End ∷ []) 0 t.division.parts refl);
      apart = apart_from eq t.division (plan.Reply answer.End ∷ []) (λ below. tt) tt 0 t.division.parts;
    }
