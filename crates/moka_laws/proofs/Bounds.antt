-- Steps of one call that leave it going are few.
use Rattle.std.proofs.Common.{◌≡◌, ℕ, zero, suc, ◌+◌, ◌-◌, ◌*◌, ◌<◌, ◌≤◌, ◌==◌, nat_lt, Bool, true, false, ◌&&◌, List, [], ◌∷◌, ◌++◌, map, length, replicate, Option, Some, None, IsSome, is_some, unwrap_or, MatchOption, ◌⊎◌, inl, inr, refl, sym, ap, ◌∙◌, subst, arith}
use Rattle.std.proofs.Math.Nat.{mul-le-mul_right}
use Rattle.std.proofs.lemmas.List.{length-append}
use Rattle.std.specs.Cmp.{IsEquivalence}
use Rattle.std.specs.Option.{option_map_or}
use Rattle.std.specs.List.{AllByRecursion, IsDistinct}
use Rattle.moka_hist.specs.Bound.{array_bound, does_walk, most_undecided, step_bound, table_share, times_of}
use Rattle.moka_hist.specs.Finite.{put_at}
use Rattle.moka_hist.specs.Next.{Next, goes, answers, waits}
use Rattle.moka_hist.specs.Places.{IsLawful}
use Rattle.moka_hist.specs.Plan.{Item, walks, lists_from}
use Rattle.moka_hist.specs.Plan as plan
use Rattle.moka_hist.specs.Run.{Any, Divides, Goings, Happens, IsReached, Refuses, Run, Steps, reply_of}
use Rattle.moka_hist.specs.State.{Call, Division, Listed, State, TablePart, World}
use Rattle.moka_hist.specs.Step.{Gets, Step, access_for, access_of, next_of}
use Rattle.moka_hist.specs.Tables.{GivesKeys, Operates, answer_of, begun, listed_now, taken_by}
use Rattle.moka_hist.specs.Visits.{is_seen, settlement_for, candidates, struck}
use Rattle.moka_hist.specs.Walking.{after_find, after_list, after_scan, judging}
use Rattle.moka_hist.specs.Writing.{stamp_asked}
use Rattle.moka_hist.specs.declared.accesses.Got.{Got}
use Rattle.moka_hist.specs.declared.accesses.Got.TheVariants as got
use Rattle.moka_hist.specs.declared.accesses.Turn.{Turn}
use Rattle.moka_hist.specs.declared.accesses.Turn.TheVariants as turn
use Rattle.moka_hist.specs.declared.events.Event.TheVariants as event
use Rattle.moka_hist.specs.declared.records.Mode.{Mode}
use Rattle.moka_hist.specs.declared.records.Stored.{Stored}
use Rattle.moka_hist.specs.declared.replies.Refusal.TheVariants as refusal
use Rattle.moka_hist.specs.declared.replies.Answer.TheVariants as said
use Rattle.moka_hist.specs.declared.replies.Reply.TheVariants as reply
use Rattle.moka_hist.specs.declared.rules.Rules.{Rules}
use Rattle.moka_hist.specs.declared.tables.TableAnswer.{TableAnswer}
use Rattle.moka_hist.specs.declared.tables.TableAnswer.TheVariants as answer
use Rattle.moka_hist.specs.declared.tables.TableOp.TheVariants as op
use Rattle.moka_hist.specs.declared.tables.TableTurn.TheVariants as table
use Rattle.moka_hist.specs.declared.visits.Found.TheVariants as found
use Rattle.moka_bound.specs.Ahead.{ahead, steps_of, work_in}
use Rattle.moka_bound.specs.Falling.{keys_in}
use Rattle.moka_laws.specs.Bounded.{StepsAreBounded, StepEventsAreBounded}
use Rattle.moka_laws.proofs.Counted.{AreStored, IsCounted, all_more, reached_counted}
use Rattle.moka_laws.proofs.Counting.{none_some, put_here, some_same}
use Rattle.moka_laws.proofs.NoWalks.{on_calm, walking}
use Rattle.moka_laws.proofs.Reached.{steps_reached}
use Rattle.moka_laws.proofs.StepCases.{step_cases, by_plan}
use Rattle.moka_laws.proofs.WalkPlans.{Above, Apart, Orderly, above_finds, all_in_turn, list_of, look_of, parts_differ}
use Rattle.moka_laws.proofs.Walkers.{AreWalking, BegunBy, GoesWell, LeftWell, begun_named, in_walking, orderly_apart, part_begun}
use Rattle.moka_laws.proofs.Walks.{Ends, Finds, IsWalk, Lists, Scans, finds_walk, Applies, Applies_first, Chooses, Comes, Comes_not, Comes_on, Comes_to, Ends_first, Ends_turn, Gathers, Hears, IsComing, Posts, Retires, Strikes, Takes_turn, Turns, coming_walks, on_coming, retiring_walk}
use Rattle.moka_laws.proofs.Ways.{calm_bounded, keys_peak, step_falls}
use Rattle.moka_laws.proofs.Weights.{weigh, weigh_call}
use Rattle.moka_hist.specs.Maintenance.{after_candidates, after_retire, after_strike, carrying}
use Rattle.moka_bound.proofs.More.{post_worst}
use Rattle.moka_laws.proofs.Outcomes.{on_desk}

-- ---- lists of different keys

module _ {K : Type 0} where
  all_append : (P : K → Type 0) (xs ys : List K) → AllByRecursion P xs → AllByRecursion P ys → AllByRecursion P (xs ++ ys)
  all_append P [] ys h i = i
  all_append P (x ∷ xs) ys h i = (h.0, all_append P xs ys h.1 i)

  distinct_append : (eq : K → K → Bool) (xs ys : List K) → IsDistinct eq xs → IsDistinct eq ys →
      AllByRecursion (λ x. AllByRecursion (λ y. eq x y ≡ false) ys) xs → IsDistinct eq (xs ++ ys)
  unfolding IsDistinct
  distinct_append eq [] ys d e h = e
  distinct_append eq (x ∷ xs) ys d e h = (all_append (λ y. eq x y ≡ false) xs ys d.0 h.0, distinct_append eq xs ys d.1 e h.1)

  no_keys : (eq : K → K → Bool) → IsDistinct eq []
  unfolding IsDistinct
  no_keys eq = tt

-- a stored pair's answer gives no keys
no_keys_of : {K V : Type 0} (E : Type 0) (o : Option (K × Stored V)) → keys_in {K = K} {V = V} {E = E} (got.Table (table.Decided (answer_of o))) ≡ 0
no_keys_of E None = refl
no_keys_of E (Some pair) = refl

-- ---- how far a walk is, and what its lists may still give

module _ {K V E : Type 0} (owed most aborts : ℕ) where
  -- each list and each look takes as many steps as its operation may stay undecided, and one or two
  walk_steps : (room : Bool) (l : ℕ) (ended : Bool) (p : List (Item K V E)) → IsWalk p → l ≤ most →
      steps_of owed most aborts room l ended p ≤ weigh list_of p * (most + 1) + weigh look_of p * (most + 2) + 2
  walk_steps room l ended p Ends h = omega arith
  walk_steps room l ended p Retires h = omega arith
  walk_steps room l ended p (Chooses parts) h = omega arith
  walk_steps room l ended p (Strikes there found rest walk) h = omega (arith, h, walk_steps false most true rest walk (omega arith))
  walk_steps room l ended p (Lists part rest walk) h = omega (arith, h, walk_steps false most true rest walk (omega arith))
  walk_steps room l ended p (Finds key rest walk) h = omega (arith, h, walk_steps false most true rest walk (omega arith))
  walk_steps room l ended p (Scans there found rest walk) h = omega (arith, h, walk_steps false most true rest walk (omega arith))

  -- so it takes what comes before
  coming_steps : (parts : ℕ) (room : Bool) (l : ℕ) (ended : Bool) (p : List (Item K V E)) → IsComing parts p →
      steps_of owed most aborts room l ended p ≤ parts * (most + 1) + 8 * owed + 24
  coming_steps parts room l ended p Gathers = omega (arith, post_worst room)
  coming_steps parts room l ended p (Hears number held) = omega (arith, post_worst room)
  coming_steps parts room l ended p (Posts held) = omega (arith, post_worst room)
  coming_steps parts room l ended p (Takes_turn held) = omega (arith, post_worst room)
  coming_steps parts room l ended p (Applies_first held) = omega (arith, post_worst room)
  coming_steps parts room l ended p (Ends_first held) = omega (arith, post_worst room)
  coming_steps parts room l ended p Turns = omega (arith, post_worst room)
  coming_steps parts room l ended p Applies = omega (arith, post_worst room)
  coming_steps parts room l ended p Ends_turn = omega (arith, post_worst room)

module _ {K V : Type 0} where
  -- what the list in progress gives is counted: it stood begun in the first state, and may give as
  -- many keys as an array is long, or it gives keys that were stored there
  abbrev Listing : TablePart K V → ℕ → Option (Listed K) → Type 0
  Listing s old None = Unit {0}
  Listing s old (Some l) = (old ≡ array_bound s) ⊎ ((q : K) → l.may q ≡ true → IsSome (s.stored q))

module _ {K V E : Type 0} (eq : K → K → Bool) where
  -- By steps of its own alone a walk has come from a state with this table to one with that: nothing
  -- is stored or removed, and lists may still give so many keys. Those that were begun since have
  -- given different keys, which are stored, and of parts that are listed.
  record Budget (s : TablePart K V) (n : ℕ) (t : TablePart K V) (p : List (Item K V E)) (budget : ℕ) : Type 0 where
    stored : t.stored ≡ s.stored
    keys : t.keys ≡ s.keys
    peak : t.peak ≡ s.peak
    division : t.division ≡ s.division
    given : List K
    distinct : IsDistinct eq given
    known : AreStored eq s given
    above : AllByRecursion (λ q. Above (s.division.part_of q) p) given
    old : ℕ
    listing : Listing s old (t.listings n)
    sum : budget + length given ≡ old + s.keys

  -- as the walk is in the first state
  first_budget : (s : TablePart K V) (n : ℕ) (p : List (Item K V E)) → Budget s n s p (array_bound s + s.keys)
  first_budget s n p = record {
    stored = refl;
    keys = refl;
    peak = refl;
    division = refl;
    given = [];
    distinct = no_keys eq;
    known = tt;
    above = tt;
    old = array_bound s;
    listing = by (s.listings n);
    sum = omega arith;
  }
    where
      by : (o : Option (Listed K)) → Listing s (array_bound s) o
      by None = tt
      by (Some l) = inl refl

  module _ (s : TablePart K V) (n : ℕ) (t : TablePart K V) (counted : IsCounted eq s) (divides : Divides eq s.division) where
    -- the plan goes on with what makes no list that the one before didn't
    same_budget : (p q : List (Item K V E)) (budget : ℕ) → ((part : ℕ) → Above part p → Above part q) → Budget s n t p budget → Budget s n t q budget
    same_budget p q budget f b = record {
      stored = b.stored;
      keys = b.keys;
      peak = b.peak;
      division = b.division;
      given = b.given;
      distinct = b.distinct;
      known = b.known;
      above = all_more _ _ (λ k. f (s.division.part_of k)) b.given b.above;
      old = b.old;
      listing = b.listing;
      sum = b.sum;
    }

    -- a list begins, or goes on
    begun_budget : (part : ℕ) (p : List (Item K V E)) (budget : ℕ) → Budget s n t p budget → Budget s n (begun t n (op.Keys part)) p budget
    begun_budget part p budget b = record {
      stored = b.stored;
      keys = b.keys;
      peak = b.peak;
      division = b.division;
      given = b.given;
      distinct = b.distinct;
      known = b.known;
      above = b.above;
      old = b.old;
      listing = subst (Listing s b.old) (sym (put_here t.listings n _)) (by (t.listings n) b.listing);
      sum = b.sum;
    }
      where
        now : (q : K) (x y : Bool) → is_some (t.stored q) ≡ x → (x && y) ≡ true → IsSome (s.stored q)
        now q true y e h = subst (λ (f : K → Option (K × Stored V)). IsSome (f q)) b.stored e
        now q false y e h = absurd (by_false h)
          where
            by_false : false ≡ true → ⊥
            by_false f = cc

        by : (o : Option (Listed K)) → Listing s b.old o → Listing s b.old (Some (unwrap_or o (listed_now t part)))
        by None h = inr (λ q may. now q (is_some (t.stored q)) (t.division.part_of q == part) refl may)
        by (Some l) h = h

    -- it gives keys
    given_budget : (part : ℕ) (keys : List K) (rest : List (Item K V E)) (budget : ℕ) (listed : Listed K) →
        Budget s n t (plan.List_keys part ∷ rest) budget → t.listings n ≡ Some listed → listed.part ≡ part → GivesKeys eq t listed keys →
        Above part rest →
        (left : ℕ) × Budget s n (record t { listings = put_at t.listings n None }) (map plan.Find keys ++ rest) left × (left + length keys ≤ budget)
    given_budget part keys rest budget listed b is named gives later = by (subst (Listing s b.old) is b.listing)
      where
        -- the keys given before are at most those that are stored
        before : length b.given ≤ s.keys
        before = counted.counts b.given b.distinct b.known

        of_part : AllByRecursion (λ q. s.division.part_of q ≡ part) keys
        of_part = subst (λ (d : Division K). AllByRecursion (λ q. d.part_of q ≡ part) keys) b.division
            (subst (λ v. AllByRecursion (λ q. t.division.part_of q ≡ v) keys) named (all_in_turn _ keys gives.of_part))

        above_keys : AllByRecursion (λ q. Above (s.division.part_of q) (map plan.Find keys ++ rest)) keys
        above_keys = all_more _ _ (λ q e. above_finds (s.division.part_of q) keys rest (subst (λ v. Above v rest) (sym e) later)) keys of_part

        above_given : AllByRecursion (λ q. Above (s.division.part_of q) (map plan.Find keys ++ rest)) b.given
        above_given = all_more _ _ (λ q h. above_finds (s.division.part_of q) keys rest h.1) b.given b.above

        apart : AllByRecursion (λ g. AllByRecursion (λ q. eq g q ≡ false) keys) b.given
        apart = all_more _ _ (λ g h. all_more _ _
            (λ q e. parts_differ eq s.division divides g q (omega (arith, h.0, e))) keys of_part) b.given b.above

        by : (b.old ≡ array_bound s) ⊎ ((q : K) → listed.may q ≡ true → IsSome (s.stored q)) →
            (left : ℕ) × Budget s n (record t { listings = put_at t.listings n None }) (map plan.Find keys ++ rest) left × (left + length keys ≤ budget)
        by (inl first) = (
          s.keys - length b.given,
          record {
            stored = b.stored;
            keys = b.keys;
            peak = b.peak;
            division = b.division;
            given = b.given;
            distinct = b.distinct;
            known = b.known;
            above = above_given;
            old = 0;
            listing = subst (Listing s 0) (sym (put_here t.listings n None)) tt;
            sum = omega (arith, before);
          },
          omega (arith, before, first, b.sum, gives.few, b.peak),
        )
        by (inr may) =
            let all : AreStored eq s keys = all_more _ _ may keys (all_in_turn _ keys gives.within) in
            let together : IsDistinct eq (b.given ++ keys) = distinct_append eq b.given keys b.distinct gives.distinct apart in
            let known : AreStored eq s (b.given ++ keys) = all_append _ b.given keys b.known all in
            let few : length (b.given ++ keys) ≤ s.keys = counted.counts (b.given ++ keys) together known in (
              budget - length keys,
              record {
                stored = b.stored;
                keys = b.keys;
                peak = b.peak;
                division = b.division;
                given = b.given ++ keys;
                distinct = together;
                known = known;
                above = all_append _ b.given keys above_given above_keys;
                old = b.old;
                listing = subst (Listing s b.old) (sym (put_here t.listings n None)) tt;
                sum = omega (arith, few, b.sum, length-append b.given keys);
              },
              omega (arith, few, b.sum, length-append b.given keys),
            )

-- before its walk maintenance lists no part past any
coming_above : {K V E : Type 0} (parts part : ℕ) (p : List (Item K V E)) → IsComing parts p → Above part p → ⊥
coming_above parts part p Gathers h = h
coming_above parts part p (Hears number held) h = h
coming_above parts part p (Posts held) h = h
coming_above parts part p (Takes_turn held) h = h
coming_above parts part p (Applies_first held) h = h
coming_above parts part p (Ends_first held) h = h
coming_above parts part p Turns h = h
coming_above parts part p Applies h = h
coming_above parts part p Ends_turn h = h

-- ---- a step of a walk that leaves it going

-- the plan walks, or will once it has applied the log
data IsGoing {K V E : Type 0} (p : List (Item K V E)) : Type 0 where
  Goes_walk : IsWalk p → IsGoing p
  Goes_to : (parts : ℕ) → IsComing parts p → IsGoing p

module _ {K V E : Type 0} (eq : K → K → Bool) where
  -- what it leaves of a walk with this plan, where lists may then give so many keys
  record Leaves (s : TablePart K V) (n : ℕ) (p : List (Item K V E)) (new : World K V E) (given : Got K V E) (budget : ℕ) (next : Next K V E)
      : Type 0 where
    walked : walks p ≡ true
    call : Call K V E
    live : next.left ≡ Some call
    walk : IsGoing call.plan
    left : ℕ
    counts : Budget eq s n new.table call.plan left
    less : left + keys_in given ≤ budget

  module _ (s : TablePart K V) (n : ℕ) (counted : IsCounted eq s) (divides : Divides eq s.division) (w : World K V E) where
    -- the call goes on with a walk; where that is an answer alone, it doesn't
    goes_leaves : (was : List (Item K V E)) → walks was ≡ true → (c : Call K V E) (new : World K V E) (given : Got K V E) (budget left : ℕ)
        (p : List (Item K V E)) → IsWalk p → Budget eq s n new.table p left → left + keys_in given ≤ budget → (goes c p).turn ≡ turn.Going →
        Leaves s n was new given budget (goes c p)
    goes_leaves was walked c new given budget left p Ends b less going = absurd (over going)
      where
        over : (goes c (plan.Reply said.End ∷ [])).turn ≡ turn.Going → ⊥
        over e = cc
    goes_leaves was walked c new given budget left p (Lists part rest walk) b less going =
        record { walked = walked; call = _; live = refl; walk = Goes_walk (Lists part rest walk); left = left; counts = b; less = less }
    goes_leaves was walked c new given budget left p (Finds key rest walk) b less going =
        record { walked = walked; call = _; live = refl; walk = Goes_walk (Finds key rest walk); left = left; counts = b; less = less }
    goes_leaves was walked c new given budget left p (Scans there stored rest walk) b less going =
        record { walked = walked; call = _; live = refl; walk = Goes_walk (Scans there stored rest walk); left = left; counts = b; less = less }
    goes_leaves was walked c new given budget left p Retires b less going =
        record { walked = walked; call = _; live = refl; walk = Goes_walk Retires; left = left; counts = b; less = less }
    goes_leaves was walked c new given budget left p (Chooses parts) b less going =
        record { walked = walked; call = _; live = refl; walk = Goes_walk (Chooses parts); left = left; counts = b; less = less }
    goes_leaves was walked c new given budget left p (Strikes there stored rest walk) b less going =
        record { walked = walked; call = _; live = refl; walk = Goes_walk (Strikes there stored rest walk); left = left; counts = b; less = less }

    -- an operation gives keys
    list_leaves : (c : Call K V E) (part : ℕ) (rest : List (Item K V E)) → IsWalk rest → (budget : ℕ) →
        Budget eq s n w.table (plan.List_keys part ∷ rest) budget → Above part rest →
        ((l : Listed K) → (begun w.table n (op.Keys part)).listings n ≡ Some l → l.part ≡ part) →
        (answer : TableAnswer K V) (t : TablePart K V) → Operates eq n (begun w.table n (op.Keys part)) (op.Keys part) answer t →
        (new : World K V E) → new.table ≡ t → (after_list c rest (table.Decided answer)).turn ≡ turn.Going →
        Leaves s n (plan.List_keys part ∷ rest) new (got.Table (table.Decided answer)) budget (after_list c rest (table.Decided answer))
    list_leaves c part rest walk budget b later named answer.None t o new is going = absurd (never o.4)
      where
        never : {keys : List K} → ◌≡◌ {A = TableAnswer K V} answer.None (answer.Keys keys) → ⊥
        never e = cc
    list_leaves c part rest walk budget b later named (answer.Some there stored) t o new is going = absurd (never o.4)
      where
        never : {keys : List K} → ◌≡◌ {A = TableAnswer K V} (answer.Some there stored) (answer.Keys keys) → ⊥
        never e = cc
    list_leaves c part rest walk budget b later named (answer.Keys ks) t o new is going =
        let same : o.1 ≡ ks = the_keys o.1 o.4 in
        let begun_by : Budget eq s n (begun w.table n (op.Keys part)) (plan.List_keys part ∷ rest) budget =
        begun_budget eq s n w.table counted divides part (plan.List_keys part ∷ rest) budget b in
        let g = given_budget eq s n (begun w.table n (op.Keys part)) counted divides part o.1 rest budget o.0 begun_by o.2 (named o.0 o.2) o.3 later in
        goes_leaves (plan.List_keys part ∷ rest) refl c new (got.Table (table.Decided (answer.Keys ks))) budget g.0 (map plan.Find ks ++ rest)
        (finds_walk ks rest walk)
        (subst (λ v. Budget eq s n v (map plan.Find ks ++ rest) g.0) (sym (is ∙ o.5))
        (subst (λ v. Budget eq s n (record w.table { listings = put_at (begun w.table n (op.Keys part)).listings n None }) (map plan.Find v ++ rest) g.0) same g.1))
        (subst (λ v. g.0 + length v ≤ budget) same g.2) going
      where
        the_keys : (keys : List K) → ◌≡◌ {A = TableAnswer K V} (answer.Keys ks) (answer.Keys keys) → keys ≡ ks
        the_keys keys e = cc

    -- a look decides
    find_leaves : (c : Call K V E) (key : K) (rest : List (Item K V E)) → IsWalk rest → (budget : ℕ) →
        Budget eq s n w.table (plan.Find key ∷ rest) budget → (answer : TableAnswer K V) (new : World K V E) → new.table ≡ w.table →
        (after_find c rest (table.Decided answer)).turn ≡ turn.Going →
        Leaves s n (plan.Find key ∷ rest) new (got.Table (table.Decided answer)) budget (after_find c rest (table.Decided answer))
    find_leaves c key rest walk budget b answer.None new is going =
        goes_leaves (plan.Find key ∷ rest) refl c new (got.Table (table.Decided answer.None)) budget budget rest walk
        (subst (λ v. Budget eq s n v rest budget) (sym is) (same_budget eq s n w.table counted divides (plan.Find key ∷ rest) rest budget (λ part h. h) b))
        (omega arith) going
    find_leaves c key rest walk budget b (answer.Some there stored) new is going = by c.carried going
      where
        given : Got K V E
        given = got.Table (table.Decided (answer.Some there stored))

        by : (ids : Option (List (ℕ × ℕ))) → (goes c (judging ids there stored ∷ rest)).turn ≡ turn.Going →
            Leaves s n (plan.Find key ∷ rest) new given budget (goes c (judging ids there stored ∷ rest))
        by None e = goes_leaves (plan.Find key ∷ rest) refl c new given budget budget (plan.Scan there stored ∷ rest) (Scans there stored rest walk)
            (subst (λ v. Budget eq s n v (plan.Scan there stored ∷ rest) budget) (sym is)
            (same_budget eq s n w.table counted divides (plan.Find key ∷ rest) (plan.Scan there stored ∷ rest) budget (λ part h. h) b))
            (omega arith) e
        by (Some ids) e = goes_leaves (plan.Find key ∷ rest) refl c new given budget budget (plan.Strike there stored ∷ rest) (Strikes there stored rest walk)
            (subst (λ v. Budget eq s n v (plan.Strike there stored ∷ rest) budget) (sym is)
            (same_budget eq s n w.table counted divides (plan.Find key ∷ rest) (plan.Strike there stored ∷ rest) budget (λ part h. h) b))
            (omega arith) e
    find_leaves c key rest walk budget b (answer.Keys keys) new is going = absurd (over going)
      where
        over : (after_find c rest (table.Decided (answer.Keys keys))).turn ≡ turn.Going → ⊥
        over e = cc

    -- a record is judged, and isn't given
    scan_leaves : (c : Call K V E) (there : K) (stored : Stored V) (rest : List (Item K V E)) → IsWalk rest → (budget : ℕ) →
        Budget eq s n w.table (plan.Scan there stored ∷ rest) budget → (seen : Bool) (new : World K V E) → new.table ≡ w.table →
        (after_scan c there stored rest (found.Scan seen)).turn ≡ turn.Going →
        Leaves s n (plan.Scan there stored ∷ rest) new (got.Desk (found.Scan seen)) budget (after_scan c there stored rest (found.Scan seen))
    scan_leaves c there stored rest walk budget b true new is going = absurd (over going)
      where
        over : (after_scan c there stored rest (found.Scan true)).turn ≡ turn.Going → ⊥
        over e = cc
    scan_leaves c there stored rest walk budget b false new is going =
        goes_leaves (plan.Scan there stored ∷ rest) refl c new (got.Desk (found.Scan false)) budget budget rest walk
        (subst (λ v. Budget eq s n v rest budget) (sym is)
        (same_budget eq s n w.table counted divides (plan.Scan there stored ∷ rest) rest budget (λ part h. h) b))
        (omega arith) going

    -- the predicates were chosen
    choose_leaves : (c : Call K V E) (parts budget : ℕ) → Budget {E = E} eq s n w.table (plan.Candidates parts ∷ []) budget → (ids : List (ℕ × ℕ)) (new : World K V E) →
        new.table ≡ w.table → (after_candidates c parts (found.Candidates ids)).turn ≡ turn.Going →
        Leaves s n (plan.Candidates parts ∷ []) new (got.Desk (found.Candidates ids)) budget (after_candidates c parts (found.Candidates ids))
    choose_leaves c parts budget b [] new is going = absurd (over going)
      where
        over : (after_candidates c parts (found.Candidates [])).turn ≡ turn.Going → ⊥
        over e = cc
    choose_leaves c parts budget b (id ∷ more) new is going =
        goes_leaves (plan.Candidates parts ∷ []) refl (carrying c (id ∷ more)) new (got.Desk (found.Candidates (id ∷ more))) budget budget
        (lists_from 0 parts (plan.Retire ∷ [])) (retiring_walk parts)
        (subst (λ v. Budget {E = E} eq s n v (lists_from 0 parts (plan.Retire ∷ [])) budget) (sym is)
        (same_budget eq s n w.table counted divides (plan.Candidates parts ∷ []) (lists_from 0 parts (plan.Retire ∷ [])) budget (λ part h. absurd h) b))
        (omega arith) going

    -- what a step that leaves the walk going leaves
    walk_leaves : (rules : Rules) (how : Mode) (p : List (Item K V E)) (aborts : ℕ) (ids : Option (List (ℕ × ℕ))) (given : Got K V E) (new : World K V E) (budget : ℕ) →
        let c : Call K V E = record { rules = rules; mode = how; plan = p; aborts = aborts; carried = ids } in
        IsWalk p → Apart eq w.table.division p → BegunBy (part_begun w.table n) (Some c) → Budget eq s n w.table p budget →
        Gets eq n w (access_of n c) given new → (next_of n c given).turn ≡ turn.Going → Leaves s n p new given budget (next_of n c given)
    walk_leaves rules how p aborts ids (got.Desk f) new budget Ends apart begins b gets going = absurd (over going)
      where
        over : (goes {K = K} {V = V} {E = E} (record { rules = rules; mode = how; plan = plan.Reply said.End ∷ []; aborts = aborts; carried = ids })
            (plan.Reply said.End ∷ [])).turn ≡ turn.Going → ⊥
        over e = cc
    walk_leaves rules how p aborts ids (got.Table turned) new budget Ends apart begins b gets going = absurd gets
    walk_leaves rules how p aborts ids (got.Table table.Going) new budget (Lists part rest walk) apart begins b gets going = record {
      walked = refl;
      call = _;
      live = refl;
      walk = Goes_walk (Lists part rest walk);
      left = budget;
      counts = subst (λ (v : World K V E). Budget eq s n v.table (plan.List_keys part ∷ rest) budget) (sym gets.1)
          (begun_budget eq s n w.table counted divides part (plan.List_keys part ∷ rest) budget b);
      less = omega arith;
    }
    walk_leaves rules how p aborts ids (got.Table (table.Decided answer)) new budget (Lists part rest walk) apart begins b gets going =
        let c : Call K V E = record { rules = rules; mode = how; plan = plan.List_keys part ∷ rest; aborts = aborts; carried = ids } in
        list_leaves c part rest walk budget b apart.0 (begun_named w.table n c part rest refl begins) answer gets.0 gets.1 new
        (ap (λ (v : World K V E). v.table) gets.2) going
    walk_leaves rules how p aborts ids (got.Desk f) new budget (Lists part rest walk) apart begins b gets going = absurd gets
    walk_leaves rules how p aborts ids (got.Table table.Going) new budget (Finds key rest walk) apart begins b gets going = record {
      walked = refl;
      call = _;
      live = refl;
      walk = Goes_walk (Finds key rest walk);
      left = budget;
      counts = subst (λ (v : World K V E). Budget eq s n v.table (plan.Find key ∷ rest) budget) (sym gets.1) b;
      less = omega arith;
    }
    walk_leaves rules how p aborts ids (got.Table (table.Decided answer)) new budget (Finds key rest walk) apart begins b gets going =
        find_leaves (record { rules = rules; mode = how; plan = plan.Find key ∷ rest; aborts = aborts; carried = ids }) key rest walk budget b answer new
        (ap (λ (v : World K V E). v.table) gets.2 ∙ gets.1.1) going
    walk_leaves rules how p aborts ids (got.Desk f) new budget (Finds key rest walk) apart begins b gets going = absurd gets
    walk_leaves rules how p aborts ids (got.Desk f) new budget (Scans there stored rest walk) apart begins b gets going =
        let c : Call K V E = record { rules = rules; mode = how; plan = plan.Scan there stored ∷ rest; aborts = aborts; carried = ids } in
        subst (λ v. Leaves s n (plan.Scan there stored ∷ rest) new (got.Desk v) budget (after_scan c there stored rest v)) (sym gets.0)
        (scan_leaves c there stored rest walk budget b (is_seen w.desk None there stored) new (ap (λ (v : World K V E). v.table) gets.1)
        (subst (λ v. (after_scan c there stored rest v).turn ≡ turn.Going) gets.0 going))
    walk_leaves rules how p aborts ids (got.Table turned) new budget (Scans there stored rest walk) apart begins b gets going = absurd gets
    walk_leaves rules how p aborts ids (got.Desk f) new budget Retires apart begins b gets going =
        absurd (over (subst (λ v. (after_retire {K = K} {V = V} {E = E} (record { rules = rules; mode = how; plan = plan.Retire ∷ []; aborts = aborts; carried = ids }) v).turn ≡ turn.Going) gets.0 going))
      where
        over : (answers {K = K} {V = V} {E = E} said.Done).turn ≡ turn.Going → ⊥
        over e = cc
    walk_leaves rules how p aborts ids (got.Table turned) new budget Retires apart begins b gets going = absurd gets
    walk_leaves rules how p aborts ids (got.Desk f) new budget (Chooses parts) apart begins b gets going =
        let c : Call K V E = record { rules = rules; mode = how; plan = plan.Candidates parts ∷ []; aborts = aborts; carried = ids } in
        subst (λ v. Leaves s n (plan.Candidates parts ∷ []) new (got.Desk v) budget (after_candidates c parts v)) (sym gets.0)
        (choose_leaves c parts budget b (candidates w.desk) new (ap (λ (v : World K V E). v.table) gets.1)
        (subst (λ v. (after_candidates c parts v).turn ≡ turn.Going) gets.0 going))
    walk_leaves rules how p aborts ids (got.Table turned) new budget (Chooses parts) apart begins b gets going = absurd gets
    walk_leaves rules how p aborts ids (got.Desk f) new budget (Strikes there stored rest walk) apart begins b gets going =
        let c : Call K V E = record { rules = rules; mode = how; plan = plan.Strike there stored ∷ rest; aborts = aborts; carried = ids } in
        let left : List (ℕ × ℕ) = struck w.desk (unwrap_or ids []) there stored in
        subst (λ v. Leaves s n (plan.Strike there stored ∷ rest) new (got.Desk v) budget (after_strike c rest v)) (sym gets.0)
        (goes_leaves (plan.Strike there stored ∷ rest) refl (carrying c left) new (got.Desk (found.Strike left)) budget budget rest walk
        (subst (λ v. Budget eq s n v rest budget) (sym (ap (λ (v : World K V E). v.table) gets.1))
        (same_budget eq s n w.table counted divides (plan.Strike there stored ∷ rest) rest budget (λ part h. h) b))
        (omega arith) (subst (λ v. (after_strike c rest v).turn ≡ turn.Going) gets.0 going))
    walk_leaves rules how p aborts ids (got.Table turned) new budget (Strikes there stored rest walk) apart begins b gets going = absurd gets

    -- maintenance comes closer to its walk
    comes_leaves : (parts : ℕ) (c : Call K V E) → IsComing parts c.plan → (given : Got K V E) → keys_in given ≡ 0 → (new : World K V E) (budget : ℕ) →
        Budget eq s n new.table c.plan budget → (next : Next K V E) → Comes parts c next → next.turn ≡ turn.Going → Leaves s n c.plan new given budget next
    comes_leaves parts c coming given none new budget b next (Comes_on rest more) going = by more
      where
        on : (q : List (Item K V E)) → IsComing parts q → Budget eq s n new.table q budget
        on q to = same_budget eq s n new.table counted divides c.plan q budget (λ part h. absurd (coming_above parts part c.plan coming h)) b

        by : {q : List (Item K V E)} → IsComing parts q → Leaves s n c.plan new given budget (goes c q)
        by Gathers = record { walked = coming_walks parts c.plan coming; call = _; live = refl; walk = Goes_to parts Gathers; left = budget; counts = on _ Gathers; less = omega (arith, none) }
        by (Hears number held) = record { walked = coming_walks parts c.plan coming; call = _; live = refl; walk = Goes_to parts (Hears number held); left = budget; counts = on _ (Hears number held); less = omega (arith, none) }
        by (Posts held) = record { walked = coming_walks parts c.plan coming; call = _; live = refl; walk = Goes_to parts (Posts held); left = budget; counts = on _ (Posts held); less = omega (arith, none) }
        by (Takes_turn held) = record { walked = coming_walks parts c.plan coming; call = _; live = refl; walk = Goes_to parts (Takes_turn held); left = budget; counts = on _ (Takes_turn held); less = omega (arith, none) }
        by (Applies_first held) = record { walked = coming_walks parts c.plan coming; call = _; live = refl; walk = Goes_to parts (Applies_first held); left = budget; counts = on _ (Applies_first held); less = omega (arith, none) }
        by (Ends_first held) = record { walked = coming_walks parts c.plan coming; call = _; live = refl; walk = Goes_to parts (Ends_first held); left = budget; counts = on _ (Ends_first held); less = omega (arith, none) }
        by Turns = record { walked = coming_walks parts c.plan coming; call = _; live = refl; walk = Goes_to parts Turns; left = budget; counts = on _ Turns; less = omega (arith, none) }
        by Applies = record { walked = coming_walks parts c.plan coming; call = _; live = refl; walk = Goes_to parts Applies; left = budget; counts = on _ Applies; less = omega (arith, none) }
        by Ends_turn = record { walked = coming_walks parts c.plan coming; call = _; live = refl; walk = Goes_to parts Ends_turn; left = budget; counts = on _ Ends_turn; less = omega (arith, none) }
    comes_leaves parts c coming given none new budget b next Comes_to going = record {
      walked = coming_walks parts c.plan coming;
      call = _;
      live = refl;
      walk = Goes_walk (Chooses parts);
      left = budget;
      counts = same_budget eq s n new.table counted divides c.plan (plan.Candidates parts ∷ []) budget
          (λ part h. absurd (coming_above parts part c.plan coming h)) b;
      less = omega (arith, none);
    }
    comes_leaves parts c coming given none new budget b next Comes_not going = absurd (over going)
      where
        over : (waits c).turn ≡ turn.Going → ⊥
        over e = cc

-- ---- all steps

few_ahead : (lists looks keys peak owed log steps : ℕ) → lists ≤ 64 → looks ≤ 128 + 3 * peak → keys ≤ peak →
    steps ≤ lists * (16 * (128 + 3 * peak) + 32 + 1) + looks * (16 * (128 + 3 * peak) + 32 + 2) + 8 * owed + 24 →
    (128 + 3 * peak + keys) * (16 * (128 + 3 * peak) + 32 + 2) + (log + steps) <
    64 * (4 + (64 * (128 + 3 * peak) + (128 + 3 * peak) * (128 + 3 * peak)) + owed + log)
few_ahead lists looks keys peak owed log steps few look most is =
    let a : lists * (16 * (128 + 3 * peak) + 32 + 1) ≤ 64 * (16 * (128 + 3 * peak) + 32 + 1) =
    mul-le-mul_right (16 * (128 + 3 * peak) + 32 + 1) few in
    let b : looks * (16 * (128 + 3 * peak) + 32 + 2) ≤ (128 + 3 * peak) * (16 * (128 + 3 * peak) + 32 + 2) =
    mul-le-mul_right (16 * (128 + 3 * peak) + 32 + 2) look in
    let c : keys * (16 * (128 + 3 * peak) + 32 + 2) ≤ peak * (16 * (128 + 3 * peak) + 32 + 2) =
    mul-le-mul_right (16 * (128 + 3 * peak) + 32 + 2) most in
    omega arith

module _ {K V E : Type 0} where
  walks_some : (p : List (Item K V E)) → walks p ≡ true → 0 < weigh walking p
  walks_some (plan.List_keys part ∷ rest) h = omega arith
  walks_some (plan.Find key ∷ rest) h = omega arith
  walks_some (plan.Scan there stored ∷ rest) h = omega arith
  walks_some (plan.Candidates parts ∷ rest) h = omega arith
  walks_some (plan.Strike there stored ∷ rest) h = omega arith
  walks_some (plan.Retire ∷ rest) h = omega arith
  walks_some (plan.Drain ∷ rest) h = let e = walks_some rest h in omega (arith, e)
  walks_some (plan.Ended number ∷ rest) h = let e = walks_some rest h in omega (arith, e)
  walks_some (plan.Post write ∷ rest) h = let e = walks_some rest h in omega (arith, e)
  walks_some (plan.Turn ∷ rest) h = let e = walks_some rest h in omega (arith, e)
  walks_some (plan.Apply ∷ rest) h = let e = walks_some rest h in omega (arith, e)
  walks_some (plan.End ∷ rest) h = let e = walks_some rest h in omega (arith, e)
  walks_some [] h = absurd (by h)
    where
      by : false ≡ true → ⊥
      by e = cc
  walks_some (_ ∷ rest) h = absurd (by h)
    where
      by : false ≡ true → ⊥
      by e = cc

  -- a walk that lists, looks up and judges nothing has no item of a walk
  over_calm : (p : List (Item K V E)) → IsWalk p → walks p ≡ false → weigh walking p ≡ 0
  over_calm p Ends h = refl
  over_calm p Retires h = absurd (by h)
    where
      by : true ≡ false → ⊥
      by e = cc
  over_calm p (Chooses parts) h = absurd (by h)
    where
      by : true ≡ false → ⊥
      by e = cc
  over_calm p (Strikes there stored rest walk) h = absurd (by h)
    where
      by : true ≡ false → ⊥
      by e = cc
  over_calm p (Lists part rest walk) h = absurd (by h)
    where
      by : true ≡ false → ⊥
      by e = cc
  over_calm p (Finds key rest walk) h = absurd (by h)
    where
      by : true ≡ false → ⊥
      by e = cc
  over_calm p (Scans there stored rest walk) h = absurd (by h)
    where
      by : true ≡ false → ⊥
      by e = cc

module _ {K V E : Type 0} (eq : K → K → Bool) where
  calm_plan : (t : TablePart K V) (p : List (Item K V E)) → GoesWell eq t p → walks p ≡ false → weigh walking p ≡ 0
  calm_plan t p (inl calm) h = calm
  calm_plan t p (inr (inl walk)) h = over_calm p walk.0 h
  calm_plan t p (inr (inr coming)) h = absurd (both (sym (coming_walks coming.0 p coming.1) ∙ h))
    where
      both : true ≡ false → ⊥
      both e = cc

  -- few lists and few looks are to come
  data Walking (t : TablePart K V) (p : List (Item K V E)) : Type 0 where
    Now : IsWalk p → Orderly eq t p → Walking t p
    Later : (parts : ℕ) → IsComing parts p → parts ≡ t.division.parts → Walking t p

  walk_plan : (t : TablePart K V) (p : List (Item K V E)) → GoesWell eq t p → walks p ≡ true → Walking t p
  walk_plan t p (inl calm) h = absurd (omega (arith, calm, walks_some p h))
  walk_plan t p (inr (inl walk)) h = Now walk.0 walk.1
  walk_plan t p (inr (inr coming)) h = Later coming.0 coming.1 coming.2

  goes_by : (t : TablePart K V) (p : List (Item K V E)) → Walking t p → IsGoing p
  goes_by t p (Now walk o) = Goes_walk walk
  goes_by t p (Later parts coming same) = Goes_to parts coming

  -- an access that lists nothing gives no keys
  gives_none : (n : ℕ) (ids : Option (List (ℕ × ℕ))) (w new : World K V E) (item : Item K V E) (g : Got K V E) → walking item ≡ 0 →
      Gets eq n w (access_for n ids item) g new → keys_in g ≡ 0
  gives_none n ids w new item (got.Desk f) none gets = refl
  gives_none n ids w new item (got.Table table.Going) none gets = refl
  gives_none n ids w new (plan.Get aim key) (got.Table (table.Decided answer)) none gets =
      subst (λ v. keys_in {E = E} (got.Table (table.Decided v)) ≡ 0) (sym gets.1.0) (no_keys_of E (w.table.stored key))
  gives_none n ids w new (plan.Write key value moment) (got.Table (table.Decided answer)) none gets =
      subst (λ v. keys_in {E = E} (got.Table (table.Decided v)) ≡ 0) (sym gets.1.0) (no_keys_of E (w.table.stored key))
  gives_none n ids w new (plan.Out removal key) (got.Table (table.Decided answer)) none gets =
      subst (λ v. keys_in {E = E} (got.Table (table.Decided v)) ≡ 0) (sym gets.1.0) (no_keys_of E (taken_by (stamp_asked removal) (w.table.stored key)))
  gives_none n ids w new (plan.List_keys part) (got.Table (table.Decided answer)) none gets = absurd (omega (arith, none))
  gives_none n ids w new (plan.Find key) (got.Table (table.Decided answer)) none gets = absurd (omega (arith, none))
  gives_none n ids w new _ (got.Table (table.Decided answer)) none gets = absurd gets

  calm_gives : (n : ℕ) (w new : World K V E) (rules : Rules) (how : Mode) (p : List (Item K V E)) (aborts : ℕ) (ids : Option (List (ℕ × ℕ))) (g : Got K V E) → weigh walking p ≡ 0 →
      Gets eq n w (access_of n (record { rules = rules; mode = how; plan = p; aborts = aborts; carried = ids })) g new → keys_in g ≡ 0
  calm_gives n w new rules how [] aborts ids (got.Desk f) calm gets = refl
  calm_gives n w new rules how [] aborts ids (got.Table turned) calm gets = absurd gets
  calm_gives n w new rules how (item ∷ rest) aborts ids g calm gets = gives_none n ids w new item g (omega (arith, calm)) gets

  coming_gives : (n parts : ℕ) (w new : World K V E) (rules : Rules) (how : Mode) (p : List (Item K V E)) (aborts : ℕ) (ids : Option (List (ℕ × ℕ)))
      (g : Got K V E) → IsComing parts p → Gets eq n w (access_of n (record { rules = rules; mode = how; plan = p; aborts = aborts; carried = ids })) g new →
      keys_in g ≡ 0
  coming_gives n parts w new rules how p aborts ids g Gathers gets = gives_none n ids w new plan.Drain g refl gets
  coming_gives n parts w new rules how p aborts ids g (Hears number held) gets = gives_none n ids w new (plan.Ended number) g refl gets
  coming_gives n parts w new rules how p aborts ids g (Posts held) gets = gives_none n ids w new (plan.Post held) g refl gets
  coming_gives n parts w new rules how p aborts ids g (Takes_turn held) gets = gives_none n ids w new plan.Turn g refl gets
  coming_gives n parts w new rules how p aborts ids g (Applies_first held) gets = gives_none n ids w new plan.Apply g refl gets
  coming_gives n parts w new rules how p aborts ids g (Ends_first held) gets = gives_none n ids w new plan.End g refl gets
  coming_gives n parts w new rules how p aborts ids g Turns gets = gives_none n ids w new plan.Turn g refl gets
  coming_gives n parts w new rules how p aborts ids g Applies gets = gives_none n ids w new plan.Apply g refl gets
  coming_gives n parts w new rules how p aborts ids g Ends_turn gets = gives_none n ids w new plan.End g refl gets

  module _ (laws : IsEquivalence eq) where
    -- ---- a call that doesn't walk

    calm_step : (s t : State K V E) (n : ℕ) (reply : Turn K V E) (c : Call K V E) → s.calls n ≡ Some c → weigh walking c.plan ≡ 0 → Step eq s n reply t →
        weigh_call walking (t.calls n) ≡ 0
    calm_step s t n reply c live calm st =
        step_cases eq (λ new next. weigh_call walking next.left ≡ 0) (λ v _. weigh_call walking (v.calls n) ≡ 0) s t n reply st
        (on_calm eq s.world n st.call st.call.plan refl (subst (λ (v : Call K V E). weigh walking v.plan ≡ 0) (some_same (sym live ∙ st.live)) calm))
        (λ w next h. ap (weigh_call walking) (put_here s.calls n next.left) ∙ h)

    calm_going : (k : ℕ) (s t : State K V E) (n : ℕ) (c : Call K V E) → IsReached eq s → s.calls n ≡ Some c → weigh walking c.plan ≡ 0 →
        Goings eq Any k s n t →
        (d : Call K V E) × (t.calls n ≡ Some d) × (weigh walking d.plan ≡ 0) × (k + ahead (work_in n 0 t.world) d ≤ ahead (work_in n 0 s.world) c)
    unfolding Goings
    calm_going zero s t n c h live calm going = rw going (c, live, calm, omega arith)
    calm_going (suc k) s t n c h live calm going =
        let before = calm_going k s going.0 n c h live calm going.1 in
        let st : Step eq going.0 n turn.Going t = going.2 in
        let same : before.0 ≡ st.call = some_same (sym before.1 ∙ st.live) in
        let quiet : weigh walking st.call.plan ≡ 0 = subst (λ (v : Call K V E). weigh walking v.plan ≡ 0) same before.2 in
        let none : keys_in st.given ≡ 0 =
        calm_gives n going.0.world st.world st.call.rules st.call.mode st.call.plan st.call.aborts st.call.carried st.given quiet st.gets in
        let last = step_falls eq going.0 t n 0 0 before.0 (steps_reached eq Any k s going.0 n h going.1) before.1 st (λ e. refl) (omega (arith, none)) in (
          last.0,
          last.1,
          sym (ap (weigh_call walking) last.1) ∙ calm_step going.0 t n turn.Going before.0 before.1 before.2 st,
          omega (arith, before.3, last.2),
        )

    -- ---- a walk

    -- what a step of a call with such a plan leaves
    going_leaves : (s mid t : State K V E) (n budget : ℕ) → IsReached eq s → IsReached eq mid → (st : Step eq mid n turn.Going t) → IsGoing st.call.plan →
        Budget eq s.world.table n mid.world.table st.call.plan budget →
        Leaves eq s.world.table n st.call.plan st.world st.given budget (next_of n st.call st.given)
    going_leaves s mid t n budget h reached st (Goes_walk walk) b =
        let i : AreWalking eq mid = in_walking eq laws mid reached in
        walk_leaves eq s.world.table n (reached_counted eq laws s h) (in_walking eq laws s h).divides mid.world
        st.call.rules st.call.mode st.call.plan st.call.aborts st.call.carried st.given st.world budget walk
        (orderly_apart eq mid.world.table st.call.plan walk (live_well mid.world.table (mid.calls n) st.call st.live (i.well n)))
        (subst (BegunBy (part_begun mid.world.table n)) st.live (i.begun n)) b st.gets (sym st.turns)
      where
        live_well : (u : TablePart K V) (o : Option (Call K V E)) (d : Call K V E) → o ≡ Some d → LeftWell eq u o → GoesWell eq u d.plan
        live_well u o d e h = subst (LeftWell eq u) e h
    going_leaves s mid t n budget h reached st (Goes_to parts coming) b =
        by_plan eq (λ v next. next.turn ≡ turn.Going → Leaves eq s.world.table n st.call.plan v st.given budget next) mid.world n
        st.call.rules st.call.mode st.call.plan st.call.aborts st.call.carried st.given st.world st.gets
        (on_coming eq (λ v next. next.turn ≡ turn.Going → Leaves eq s.world.table n st.call.plan v st.given budget next) mid.world n st.call parts
        st.call.plan coming
        (λ d spares next comes. comes_leaves eq s.world.table n (reached_counted eq laws s h) (in_walking eq laws s h).divides mid.world parts st.call
        coming st.given
        (coming_gives n parts mid.world st.world st.call.rules st.call.mode st.call.plan st.call.aborts st.call.carried st.given coming st.gets)
        (on_desk eq mid.world d) budget b next comes))
        (sym st.turns)

    -- the call that a step leaves is the one that is live after it
    same_left : (mid t : State K V E) (n : ℕ) (st : Step eq mid n turn.Going t) (b d : Call K V E) →
        (next_of n st.call st.given).left ≡ Some b → t.calls n ≡ Some d → b ≡ d
    same_left mid t n st b d left live =
        some_same (sym left ∙ sym (put_here mid.calls n (next_of n st.call st.given).left) ∙ sym (ap (λ (v : State K V E). v.calls n) st.after) ∙ live)

    walk_going : (k : ℕ) (s t : State K V E) (n : ℕ) (c : Call K V E) → IsReached eq s → s.calls n ≡ Some c → IsGoing c.plan →
        Goings eq Any k s n t →
        (d : Call K V E) × (b : ℕ) × (t.calls n ≡ Some d) × IsGoing d.plan × Budget eq s.world.table n t.world.table d.plan b ×
        (k + ahead (work_in n b t.world) d ≤ ahead (work_in n (array_bound s.world.table + s.world.table.keys) s.world) c)
    unfolding Goings
    walk_going zero s t n c h live walk going =
        rw going (c, array_bound s.world.table + s.world.table.keys, live, walk, first_budget eq s.world.table n c.plan, omega arith)
    walk_going (suc k) s t n c h live walk going =
        let before = walk_going k s going.0 n c h live walk going.1 in
        let mid : State K V E = going.0 in
        let reached : IsReached eq mid = steps_reached eq Any k s mid n h going.1 in
        let st : Step eq mid n turn.Going t = going.2 in
        let same : before.0 ≡ st.call = some_same (sym before.2 ∙ st.live) in
        let l : Leaves eq s.world.table n st.call.plan st.world st.given before.1 (next_of n st.call st.given) =
        going_leaves s mid t n before.1 h reached st (subst (λ (v : Call K V E). IsGoing v.plan) same before.3)
        (subst (λ (v : Call K V E). Budget eq s.world.table n mid.world.table v.plan before.1) same before.4) in
        let last = step_falls eq mid t n before.1 l.left before.0 reached before.2 st
        (λ e. absurd (true_not (sym l.walked ∙ ap (λ (v : Call K V E). walks v.plan) (sym same) ∙ e))) l.less in
        let left : l.call ≡ last.0 = same_left mid t n st l.call last.0 l.live last.1 in (
          last.0,
          l.left,
          last.1,
          subst (λ (v : Call K V E). IsGoing v.plan) left l.walk,
          subst (λ (v : Call K V E). Budget eq s.world.table n t.world.table v.plan l.left) left
              (subst (λ (v : State K V E). Budget eq s.world.table n v.world.table l.call.plan l.left) (sym st.after) l.counts),
          omega (arith, before.5, last.2),
        )
      where
        true_not : true ≡ false → ⊥
        true_not e = cc

    walk_bounded : (s : State K V E) (n : ℕ) (c : Call K V E) → IsReached eq s → s.calls n ≡ Some c → Walking s.world.table c.plan →
        ahead (work_in n (array_bound s.world.table + s.world.table.keys) s.world) c <
        64 * (4 + table_share s.world.table true + length s.world.desk.owed + length s.world.desk.log)
    walk_bounded s n c h live walking = by walking
      where
        most : ℕ
        most = most_undecided s.world.table

        takes : ℕ
        takes = steps_of (length s.world.desk.owed) most c.aborts (nat_lt (length s.world.desk.log) s.world.desk.size)
            (most - times_of s.world.stay n) (is_some (settlement_for s.world.desk n)) c.plan

        by : Walking s.world.table c.plan → ahead (work_in n (array_bound s.world.table + s.world.table.keys) s.world) c <
            64 * (4 + table_share s.world.table true + length s.world.desk.owed + length s.world.desk.log)
        by (Now walk o) =
            let few = walk_steps (length s.world.desk.owed) most c.aborts (nat_lt (length s.world.desk.log) s.world.desk.size)
            (most - times_of s.world.stay n) (is_some (settlement_for s.world.desk n)) c.plan walk (omega arith) in
            few_ahead (weigh list_of c.plan) (weigh look_of c.plan) s.world.table.keys s.world.table.peak (length s.world.desk.owed) (length s.world.desk.log)
            takes o.lists o.looks (keys_peak eq s h) (omega (arith, few))
        by (Later parts coming same) =
            let few = coming_steps (length s.world.desk.owed) most c.aborts parts (nat_lt (length s.world.desk.log) s.world.desk.size)
            (most - times_of s.world.stay n) (is_some (settlement_for s.world.desk n)) c.plan coming in
            few_ahead parts 0 s.world.table.keys s.world.table.peak (length s.world.desk.owed) (length s.world.desk.log)
            takes (omega (arith, same, (in_walking eq laws s h).divides.few)) (omega arith) (keys_peak eq s h) (omega (arith, few))

    none_left : (k : ℕ) (s t : State K V E) (n : ℕ) → s.calls n ≡ None → Goings eq Any k s n t → k ≡ 0
    unfolding Goings
    none_left zero s t n none going = refl
    none_left (suc k) s t n none going = by k going.1 (none_left k s going.0 n none going.1)
      where
        by : (j : ℕ) → Goings eq Any j s n going.0 → j ≡ 0 → suc k ≡ 0
        by zero g e = absurd (none_some (sym none ∙ ap (λ (v : State K V E). v.calls n) (sym g) ∙ going.2.live))
        by (suc j) g e = absurd (omega (arith, e))

    pub steps_bounded : StepsAreBounded K V E eq
    steps_bounded k s t n h going = by (s.calls n) refl
      where
        does : (c : Call K V E) → s.calls n ≡ Some c → does_walk s n ≡ walks c.plan
        does c e = ap (λ (o : Option (Call K V E)). option_map_or (λ d. walks d.plan) o false) e

        so : (c : Call K V E) → s.calls n ≡ Some c → (b : Bool) → walks c.plan ≡ b →
            k < 64 * (4 + table_share s.world.table b + length s.world.desk.owed + length s.world.desk.log + length s.world.desk.registered)
        so c e false w =
            let calm = calm_plan s.world.table c.plan (subst (LeftWell eq s.world.table) e ((in_walking eq laws s h).well n)) w in
            omega (arith, (calm_going k s t n c h e calm going).3, calm_bounded eq s n c h e w)
        so c e true w =
            let walk = walk_plan s.world.table c.plan (subst (LeftWell eq s.world.table) e ((in_walking eq laws s h).well n)) w in
            omega (arith, (walk_going k s t n c h e (goes_by s.world.table c.plan walk) going).5, walk_bounded s n c h e walk)

        by : (o : Option (Call K V E)) → s.calls n ≡ o → k < step_bound s n
        by None e = omega (arith, none_left k s t n e going)
        by (Some c) e = subst
            (λ b. k < 64 * (4 + table_share s.world.table b + length s.world.desk.owed + length s.world.desk.log + length s.world.desk.registered))
            (sym (does c e)) (so c e (walks c.plan) refl)

    -- ---- events

    is_going : (t : Turn K V E) → reply.Going ≡ reply_of t → t ≡ turn.Going
    is_going turn.Going e = refl
    is_going _ e = cc

    -- the event was a step of the live call, which leaves it going
    going_event : (s t : State K V E) (n : ℕ) → Happens eq (IsLawful eq) s (event.Step n) reply.Going t → Step eq s n turn.Going t
    going_event s t n h = by (s.calls n) refl h
      where
        refused : Refuses s refusal.UnknownCall reply.Going t → ⊥
        refused r = let e = r.reply in cc

        by : (o : Option (Call K V E)) → s.calls n ≡ o → MatchOption o (Refuses s refusal.UnknownCall reply.Going t) (λ _. Steps eq s n reply.Going t) →
            Step eq s n turn.Going t
        by None e r = absurd (refused r)
        by (Some c) e steps = subst (λ v. Step eq s n v t) (is_going steps.turn steps.reply) steps.step

    -- one more step before the others
    one_more : (k : ℕ) (s m t : State K V E) (n : ℕ) → Step eq s n turn.Going m → Goings eq Any k m n t → Goings eq Any (suc k) s n t
    unfolding Goings
    one_more zero s m t n st going = (s, refl, subst (λ v. Step eq s n turn.Going v) (sym going) st, tt)
    one_more (suc k) s m t n st going = (going.0, one_more k s m going.0 n st going.1, going.2, going.3)

    events_go : (k : ℕ) (s t : State K V E) (n : ℕ) → Run eq (IsLawful eq) s (replicate k (event.Step n)) (replicate k reply.Going) t →
        Goings eq Any k s n t
    unfolding Goings
    events_go zero s t n run = run
    events_go (suc k) s t n run = one_more k s run.0 t n (going_event s run.0 n run.1) (events_go k run.0 t n run.3)

    pub step_events_bounded : StepEventsAreBounded K V E eq
    step_events_bounded k s t n h run = steps_bounded k s t n h (events_go k s t n run)
