-- A walk that nobody disturbs gives each visible record once, and nothing else.
use Rattle.std.proofs.Common.{◌≡◌, ◌≢◌, ℕ, zero, suc, ◌+◌, ◌<◌, ◌≤◌, ◌==◌, Bool, true, false, ◌&&◌, ◌||◌, List, [], ◌∷◌, ◌++◌, map, Option, Some, None, is_some, unwrap_or, MatchBool, MatchOption, ◌⊎◌, inl, inr, refl, sym, ap, ◌∙◌, subst, arith}
use Rattle.std.specs.Cmp.{IsEquivalence}
use Rattle.std.specs.List.{AllByRecursion, Contains, IsDistinct, list_any}
use Rattle.std.specs.Map.{keys_of}
use Rattle.std.specs.Option.{option_map}
use Rattle.std.proofs.lemmas.Bool.{eq-eqb, eqb-true, false≢true}
use Rattle.std.proofs.lemmas.List.Elements.{Contains-append_left, Contains-append_right, Contains-push}
use Rattle.moka_hist.specs.Dropping.{dropped}
use Rattle.moka_hist.specs.Next.{Next, gives, goes, stays, answers}
use Rattle.moka_hist.specs.Plan.{Item, is_disabled, iter_plan, walk_from}
use Rattle.moka_hist.specs.Plan as plan
use Rattle.moka_hist.specs.Run.{Any, Becomes, Drops, Happens, IsReached, Refuses, fresh_call, last_call, started, with_desk}
use Rattle.moka_hist.specs.State.{Call, Division, Listed, State, TablePart, World}
use Rattle.moka_hist.specs.Step.{Step, state_after}
use Rattle.moka_hist.specs.Tables.{GivesKeys, begun, listed_now}
use Rattle.moka_hist.specs.Telling.{is_asked}
use Rattle.moka_hist.specs.Telling.{told as tells}
use Rattle.moka_hist.specs.Visible.{is_visible}
use Rattle.moka_hist.specs.Visits.{is_hit, times_at}
use Rattle.moka_hist.specs.declared.accesses.Turn.{Turn}
use Rattle.moka_hist.specs.declared.accesses.Turn.TheVariants as turn
use Rattle.moka_hist.specs.declared.events.Event.{Event}
use Rattle.moka_hist.specs.declared.events.Event.TheVariants as event
use Rattle.moka_hist.specs.declared.events.Start.TheVariants as start
use Rattle.moka_hist.specs.declared.events.Told.{Told}
use Rattle.moka_hist.specs.declared.events.Told.TheVariants as told
use Rattle.moka_hist.specs.declared.records.Mode.{Mode}
use Rattle.moka_hist.specs.declared.records.Mode.TheVariants as mode
use Rattle.moka_hist.specs.declared.records.Stored.{Stored}
use Rattle.moka_hist.specs.declared.replies.Answer.TheVariants as answer
use Rattle.moka_hist.specs.declared.replies.Refusal.{Refusal}
use Rattle.moka_hist.specs.declared.replies.Reply.{Reply}
use Rattle.moka_hist.specs.declared.tables.TableOp.TheVariants as op
use Rattle.moka_laws.specs.Looks.{is_visible_in}
use Rattle.moka_laws.specs.Walks.{AreVisible, IsQuiet, UndisturbedShow, WalksAlone}
use Rattle.moka_laws.specs.Walks as alone
use Rattle.moka_laws.proofs.Balanced.{in_balance}
use Rattle.moka_laws.proofs.Counted.{all_more, reached_counted}
use Rattle.moka_laws.proofs.Counting.{differ, none_some, put_here, put_there, some_same}
use Rattle.moka_laws.proofs.Outcomes.{outcomes}
use Rattle.moka_laws.proofs.OwnKeysKept.{under_own_keys}
use Rattle.moka_laws.proofs.Reached.{event_reached, step_reached}
use Rattle.moka_laws.proofs.StepCases.{OnStep, step_cases}
use Rattle.moka_laws.proofs.WalkPlans.{Apart, Past, all_in_turn, parts_differ}
use Rattle.moka_laws.proofs.Walkers.{AreWalking, BegunBy, begun_named, in_walking, part_begun}
use Rattle.moka_laws.proofs.Walks.{IsShowing, Shows_end, Shows_find, Shows_list, Shows_scan, finds_show, shows_walk, walk_shows}
use Rattle.moka_laws.proofs.WalksGive.{live_apart}
use Rattle.moka_laws.proofs.WalksKeep.{and_true, past_part}

module _ {K V : Type 0} where
  -- a list of the part that gives what is stored there, and nothing else
  abbrev list_by : (K → Option (K × Stored V)) → Division K → ℕ → Listed K
  list_by stored division part = record {
    part = part;
    must = λ q. is_some (stored q) && division.part_of q == part;
    may = λ q. is_some (stored q) && division.part_of q == part;
  }

  listed_by : (t : TablePart K V) (stored : K → Option (K × Stored V)) (division : Division K) (part : ℕ) → t.stored ≡ stored → t.division ≡ division →
      listed_now t part ≡ list_by stored division part
  listed_by t stored division part e f = ap (λ v. list_by v t.division part) e ∙ ap (λ v. list_by stored v part) f

module _ {K V E : Type 0} where
  -- the record is visible in the world
  abbrev visible_by : World K V E → K → Stored V → Bool
  visible_by w k x = is_visible w.desk.rules (times_at w.desk x.stamp x.modified) (is_hit w.desk k x)

  -- a walk that goes on leaves the call live with its plan, and one that ends has no more to do
  goes_going : (c : Call K V E) (p : List (Item K V E)) → IsShowing p → turn.Going ≡ (goes c p).turn →
      (d : Call K V E) × ((goes c p).left ≡ Some d) × (d.plan ≡ p) × (d.carried ≡ c.carried)
  goes_going c p Shows_end e = absurd (never e)
    where
      never : turn.Going ≡ (goes c (plan.Reply answer.End ∷ [])).turn → ⊥
      never f = cc
  goes_going c p (Shows_list part rest walk) e = (_, refl, refl, refl)
  goes_going c p (Shows_find key rest walk) e = (_, refl, refl, refl)
  goes_going c p (Shows_scan there stored rest walk) e = (_, refl, refl, refl)

  -- a walk gives no record as it goes on
  goes_silent : (c : Call K V E) (p : List (Item K V E)) → IsShowing p → (key : K) (value : V) → turn.Item key value ≡ (goes c p).turn → ⊥
  goes_silent c p Shows_end key value e = cc
  goes_silent c p (Shows_list part rest walk) key value e = cc
  goes_silent c p (Shows_find other rest walk) key value e = cc
  goes_silent c p (Shows_scan there stored rest walk) key value e = cc

  same_given : (a b : K) (x y : V) → ◌≡◌ {A = Turn K V E} (turn.Item a x) (turn.Item b y) → (a ≡ b) × (x ≡ y)
  same_given a b x y e = (cc, cc)

module _ {K V E : Type 0} (eq : K → K → Bool) (laws : IsEquivalence eq) (s : State K V E) (n : ℕ) (base : IsReached eq s) where
  -- this stands under the key in the first state
  abbrev stands : K → Option (K × Stored V)
  stands = s.world.table.stored

  abbrev divided : Division K
  divided = s.world.table.division

  walkers : AreWalking eq s
  walkers = in_walking eq laws s base

  alike : (a b : K) → eq a b ≡ true → stands a ≡ stands b
  alike = (reached_counted eq laws s base).alike

  -- equal to one of two equal keys is equal to the other
  through : (a b q : K) → eq a b ≡ true → eq b q ≡ true → eq a q ≡ true
  through a b q e f = laws.congr a b q e ∙ f

  -- ---- what a plan comes to

  -- it lists the key's part, looks an equal key up, or judges the record of one
  abbrev Comes : K → List (Item K V E) → Type 0
  Comes q [] = ⊥
  Comes q (plan.List_keys part ∷ rest) = (s.world.table.division.part_of q ≡ part) ⊎ Comes q rest
  Comes q (plan.Find other ∷ rest) = (eq other q ≡ true) ⊎ Comes q rest
  Comes q (plan.Scan there stored ∷ rest) = (eq there q ≡ true) ⊎ Comes q rest
  Comes q (_ ∷ rest) = Comes q rest

  -- the records that it judges stand there
  abbrev Stand : List (Item K V E) → Type 0
  Stand [] = Unit {0}
  Stand (plan.Scan there stored ∷ rest) = (s.world.table.stored there ≡ Some (there, stored)) × Stand rest
  Stand (_ ∷ rest) = Stand rest

  stand_finds : (keys : List K) (rest : List (Item K V E)) → Stand rest → Stand (map plan.Find keys ++ rest)
  stand_finds [] rest h = h
  stand_finds (k ∷ keys) rest h = stand_finds keys rest h

  stand_from : (part left : ℕ) → Stand (walk_from part left)
  stand_from part zero = tt
  stand_from part (suc left) = stand_from (part + 1) left

  comes_from : (q : K) (part left : ℕ) → part ≤ s.world.table.division.part_of q → s.world.table.division.part_of q < part + left → Comes q (walk_from part left)
  comes_from q part zero low high = absurd (omega (arith, low, high))
  comes_from q part (suc left) low high =
      by (s.world.table.division.part_of q == part) refl (λ more. comes_from q (part + 1) left more (omega (arith, high)))
    where
      by : (b : Bool) → (s.world.table.division.part_of q == part) ≡ b →
          (part + 1 ≤ s.world.table.division.part_of q → Comes q (walk_from (part + 1) left)) → Comes q (walk_from part (suc left))
      by true e later = inl (eqb-true (s.world.table.division.part_of q) part e)
      by false e later = inr (later (past_part (s.world.table.division.part_of q) part low e))

  comes_later : (q : K) (keys : List K) (rest : List (Item K V E)) → Comes q rest → Comes q (map plan.Find keys ++ rest)
  comes_later q [] rest h = h
  comes_later q (k ∷ keys) rest h = inr (comes_later q keys rest h)

  comes_now : (q : K) (keys : List K) (rest : List (Item K V E)) → list_any (eq q) keys ≡ true → Comes q (map plan.Find keys ++ rest)
  comes_now q [] rest h = absurd (false≢true h)
  comes_now q (k ∷ keys) rest h = by (eq q k) refl h (comes_now q keys rest)
    where
      by : (b : Bool) → eq q k ≡ b → (b || list_any (eq q) keys) ≡ true →
          (list_any (eq q) keys ≡ true → Comes q (map plan.Find keys ++ rest)) → Comes q (map plan.Find (k ∷ keys) ++ rest)
      by true e f later = inl (laws.symm k q ∙ e)
      by false e f later = inr (later f)

  -- what it comes to once it has listed a part was of that part, or it comes to it later
  comes_back : (q : K) (part : ℕ) (keys : List K) (rest : List (Item K V E)) → AllByRecursion (λ k. s.world.table.division.part_of k ≡ part) keys →
      Comes q (map plan.Find keys ++ rest) → (s.world.table.division.part_of q ≡ part) ⊎ Comes q rest
  comes_back q part [] rest of h = inr h
  comes_back q part (k ∷ keys) rest of (inl e) = inl (sym (walkers.divides.alike k q e) ∙ of.0)
  comes_back q part (k ∷ keys) rest of (inr h) = comes_back q part keys rest of.1 h

  -- a key that it comes to differs from one that it is past
  past_comes : (a q : K) (p : List (Item K V E)) → Past eq s.world.table.division a p → Comes q p → eq a q ≡ false
  past_comes a q [] past h = absurd h
  past_comes a q (plan.List_keys part ∷ rest) past (inl of) =
      parts_differ eq s.world.table.division walkers.divides a q (omega (arith, past.0, of))
  past_comes a q (plan.List_keys part ∷ rest) past (inr h) = past_comes a q rest past.1 h
  past_comes a q (plan.Find other ∷ rest) past (inl e) = apart (eq a q) refl
    where
      apart : (b : Bool) → eq a q ≡ b → b ≡ false
      apart false f = refl
      apart true f = absurd (false≢true (sym past.0 ∙ laws.congr a q other f ∙ laws.symm q other ∙ e))
  past_comes a q (plan.Find other ∷ rest) past (inr h) = past_comes a q rest past.1 h
  past_comes a q (plan.Scan there stored ∷ rest) past (inl e) = apart (eq a q) refl
    where
      apart : (b : Bool) → eq a q ≡ b → b ≡ false
      apart false f = refl
      apart true f = absurd (false≢true (sym past.0 ∙ laws.congr a q there f ∙ laws.symm q there ∙ e))
  past_comes a q (plan.Scan there stored ∷ rest) past (inr h) = past_comes a q rest past.1 h
  past_comes a q (plan.Candidates parts ∷ rest) past h = absurd past
  past_comes a q (plan.Strike there stored ∷ rest) past h = past_comes a q rest past.1 h
  past_comes a q (_ ∷ rest) past h = past_comes a q rest past h

  -- ---- what stays the same

  record Same (w : World K V E) : Type 0 where
    stored : w.table.stored ≡ s.world.table.stored
    division : w.table.division ≡ s.world.table.division
    seen : (k : K) (x : Stored V) → visible_by w k x ≡ is_visible_in s k x
    lists : (l : Listed K) → w.table.listings n ≡ Some l → l ≡ list_by s.world.table.stored s.world.table.division l.part

  record Walking (v : State K V E) (c : Call K V E) : Type 0 where
    reached : IsReached eq v
    live : v.calls n ≡ Some c
    walk : IsShowing c.plan
    free : c.carried ≡ None
    stand : Stand c.plan
    same : Same v.world

  -- a visible record stands under the key
  record IsSeen (q : K) : Type 0 where
    there : K
    record_there : Stored V
    stood : s.world.table.stored q ≡ Some (there, record_there)
    visible : is_visible_in s there record_there ≡ true

  -- ---- a step

  -- the plan that the walk goes on with comes to what the one before came to, as far as that is
  -- visible, and to nothing else
  data After (c : Call K V E) (p : List (Item K V E)) (new : World K V E) : Next K V E → Type 0 where
    On : (q : List (Item K V E)) → IsShowing q → Stand q → ((k : K) → IsSeen k → Comes k p → Comes k q) → ((k : K) → Comes k q → Comes k p) →
        Same new → After c p new (goes c q)
    Still : Same new → After c p new (stays c)
    Gave : (there : K) (stored : Stored V) (rest : List (Item K V E)) → p ≡ plan.Scan there stored ∷ rest → IsShowing rest → Stand rest →
        s.world.table.stored there ≡ Some (there, stored) → is_visible_in s there stored ≡ true → Same new → After c p new (gives c there stored.value rest)
    Over : ((k : K) → Comes k p → ⊥) → After c p new (answers answer.End)

  module _ (v : State K V E) (c : Call K V E) (i : Walking v c) where
    v_walkers : AreWalking eq v
    v_walkers = in_walking eq laws v i.reached

    begins : BegunBy (part_begun v.world.table n) (Some c)
    begins = subst (BegunBy (part_begun v.world.table n)) i.live (v_walkers.begun n)

    -- the list that begins, or goes on, gives what is stored
    begun_list : (part : ℕ) (l : Listed K) → (begun v.world.table n (op.Keys part)).listings n ≡ Some l →
        l ≡ list_by s.world.table.stored s.world.table.division l.part
    begun_list part l is = by (v.world.table.listings n) refl (some_same (sym (put_here v.world.table.listings n _) ∙ is))
      where
        by : (o : Option (Listed K)) → v.world.table.listings n ≡ o → unwrap_or o (listed_now v.world.table part) ≡ l →
            l ≡ list_by s.world.table.stored s.world.table.division l.part
        by None e f =
            subst (λ (x : Listed K). x ≡ list_by s.world.table.stored s.world.table.division x.part) f
            (listed_by v.world.table s.world.table.stored s.world.table.division part i.same.stored i.same.division)
        by (Some x) e f = subst (λ (y : Listed K). y ≡ list_by s.world.table.stored s.world.table.division y.part) f (i.same.lists x e)

    stood_here : (k : K) (o : Option (K × Stored V)) → v.world.table.stored k ≡ o → s.world.table.stored k ≡ o
    stood_here k o e = subst (λ (f : K → Option (K × Stored V)). f k ≡ o) i.same.stored e

    own_key : (k : K) (pair : K × Stored V) → v.world.table.stored k ≡ Some pair → eq pair.0 k ≡ true
    own_key = under_own_keys eq v i.reached

    on_step : (p : List (Item K V E)) → c.plan ≡ p → IsShowing p → Stand p → OnStep eq (After c p) v.world n c p
    on_step p e Shows_end stand = outcomes eq (After c p) v.world n c (plan.Reply answer.End) [] (Over (λ k h. h))
    on_step p e (Shows_list part rest walk) stand = outcomes eq (After c p) v.world n c (plan.List_keys part) rest (
      λ more. Still (record { stored = i.same.stored; division = i.same.division; seen = i.same.seen; lists = begun_list part }),
      λ listed keys is gives. On (map plan.Find keys ++ rest) (finds_show keys rest walk) (stand_finds keys rest stand)
          (λ k seen. forward listed keys is gives.whole k seen)
          (λ k. comes_back k part keys rest (of_part listed keys is gives))
          (record {
            stored = i.same.stored;
            division = i.same.division;
            seen = i.same.seen;
            lists = λ l f. absurd (none_some (sym (put_here (begun v.world.table n (op.Keys part)).listings n None) ∙ f));
          }),
    )
      where
        forward : (listed : Listed K) (keys : List K) → (begun v.world.table n (op.Keys part)).listings n ≡ Some listed →
            ((q : K) → listed.must q ≡ true → list_any (eq q) keys ≡ true) → (k : K) → IsSeen k →
            (s.world.table.division.part_of k ≡ part) ⊎ Comes k rest → Comes k (map plan.Find keys ++ rest)
        forward listed keys is whole k seen (inl of) = comes_now k keys rest (whole k
            (subst (λ (x : Listed K). x.must k ≡ true) (sym (begun_list part listed is))
            (and_true (is_some (s.world.table.stored k)) (s.world.table.division.part_of k == listed.part) (ap is_some seen.stood)
            (eq-eqb (s.world.table.division.part_of k) listed.part (of ∙ sym (begun_named v.world.table n c part rest e begins listed is))))))
        forward listed keys is whole k seen (inr h) = comes_later k keys rest h

        of_part : (listed : Listed K) (keys : List K) → (begun v.world.table n (op.Keys part)).listings n ≡ Some listed →
            GivesKeys eq (begun v.world.table n (op.Keys part)) listed keys → AllByRecursion (λ k. s.world.table.division.part_of k ≡ part) keys
        of_part listed keys is gives =
            subst (λ (d : Division K). AllByRecursion (λ k. d.part_of k ≡ part) keys) i.same.division
            (subst (λ x. AllByRecursion (λ k. v.world.table.division.part_of k ≡ x) keys) (begun_named v.world.table n c part rest e begins listed is)
            (all_in_turn _ keys gives.of_part))
    on_step p e (Shows_find other rest walk) stand = outcomes eq (After c p) v.world n c (plan.Find other) rest (
      λ more. Still (record { stored = i.same.stored; division = i.same.division; seen = i.same.seen; lists = i.same.lists }),
      λ none. On rest walk stand (gone (stood_here other None none)) (λ k h. inr h)
          (record { stored = i.same.stored; division = i.same.division; seen = i.same.seen; lists = i.same.lists }),
      λ there stored some free. On (plan.Scan there stored ∷ rest) (Shows_scan there stored rest walk)
          (alike there other (own_key other (there, stored) some) ∙ stood_here other (Some (there, stored)) some, stand)
          (found there (own_key other (there, stored) some)) (found_back there (own_key other (there, stored) some))
          (record { stored = i.same.stored; division = i.same.division; seen = i.same.seen; lists = i.same.lists }),
      λ there stored ids some is. absurd (none_some (sym i.free ∙ is)),
    )
      where
        gone : s.world.table.stored other ≡ None → (k : K) → IsSeen k → (eq other k ≡ true) ⊎ Comes k rest → Comes k rest
        gone none k seen (inl f) = absurd (none_some (sym none ∙ alike other k f ∙ seen.stood))
        gone none k seen (inr h) = h

        found : (there : K) → eq there other ≡ true → (k : K) → IsSeen k → (eq other k ≡ true) ⊎ Comes k rest → (eq there k ≡ true) ⊎ Comes k rest
        found there own k seen (inl f) = inl (through there other k own f)
        found there own k seen (inr h) = inr h

        found_back : (there : K) → eq there other ≡ true → (k : K) → (eq there k ≡ true) ⊎ Comes k rest → (eq other k ≡ true) ⊎ Comes k rest
        found_back there own k (inl f) = inl (through other there k (laws.symm other there ∙ own) f)
        found_back there own k (inr h) = inr h
    on_step p e (Shows_scan there stored rest walk) stand = outcomes eq (After c p) v.world n c (plan.Scan there stored) rest (
      λ seen. Gave there stored rest refl walk stand.1 stand.0 (sym (i.same.seen there stored) ∙ seen)
          (record { stored = i.same.stored; division = i.same.division; seen = i.same.seen; lists = i.same.lists }),
      λ unseen. On rest walk stand.1 (hidden (sym (i.same.seen there stored) ∙ unseen)) (λ k h. inr h)
          (record { stored = i.same.stored; division = i.same.division; seen = i.same.seen; lists = i.same.lists }),
    )
      where
        hidden : is_visible_in s there stored ≡ false → (k : K) → IsSeen k → (eq there k ≡ true) ⊎ Comes k rest → Comes k rest
        hidden unseen k seen (inr h) = h
        hidden unseen k seen (inl f) =
            absurd (false≢true (sym unseen ∙
            ap (λ (x : K × Stored V). is_visible_in s x.0 x.1) (some_same (sym stand.0 ∙ alike there k f ∙ seen.stood)) ∙ seen.visible))

    -- what the step was
    record Stepped (t : State K V E) (reply : Turn K V E) : Type 0 where
      world : World K V E
      next : Next K V E
      after : After c c.plan world next
      is : t ≡ state_after v n world next
      turns : reply ≡ next.turn

    stepped : (t : State K V E) (reply : Turn K V E) → Step eq v n reply t → Stepped t reply
    stepped t reply st =
        step_cases eq (After c c.plan) Stepped v t n reply st
        (subst (λ (d : Call K V E). OnStep eq (After c c.plan) v.world n d d.plan) (some_same (sym i.live ∙ st.live))
        (on_step c.plan refl i.walk i.stand))
        (λ w next m. record { world = w; next = next; after = m; is = refl; turns = refl })

    -- the walk goes on from there
    goes_walking : (t : State K V E) (reply : Turn K V E) → Step eq v n reply t → (w : World K V E) (next : Next K V E) → t ≡ state_after v n w next →
        Same w → (d : Call K V E) → next.left ≡ Some d → IsShowing d.plan → d.carried ≡ None → Stand d.plan → Walking t d
    goes_walking t reply st w next is same d left walk free stand = record {
      reached = step_reached eq v t n reply i.reached st;
      live = ap (λ (u : State K V E). u.calls n) is ∙ put_here v.calls n next.left ∙ left;
      walk = walk;
      free = free;
      stand = stand;
      same = subst (λ (u : State K V E). Same u.world) (sym is) same;
    }

  -- ---- what the whole walk gives

  abbrev Good : List (Item K V E) → K × V → Type 0
  Good p item =
      Comes item.0 p × ((stored : Stored V) × (s.world.table.stored item.0 ≡ Some (item.0, stored)) × (stored.value ≡ item.1) ×
      (is_visible_in s item.0 stored ≡ true))

  record Shown (p : List (Item K V E)) (items : List (K × V)) : Type 0 where
    once : IsDistinct eq (keys_of items)
    all : (k : K) (seen : IsSeen k) → Comes k p → Contains items (seen.there, seen.record_there.value)
    only : AllByRecursion (Good p) items

  nothing_shown : (p : List (Item K V E)) → ((k : K) → IsSeen k → Comes k p → ⊥) → Shown p []
  unfolding IsDistinct
  nothing_shown p free = record { once = tt; all = λ k seen h. absurd (free k seen h); only = tt }

  more_shown : (p q : List (Item K V E)) (items : List (K × V)) → ((k : K) → IsSeen k → Comes k p → Comes k q) → ((k : K) → Comes k q → Comes k p) →
      Shown q items → Shown p items
  more_shown p q items forward back h = record {
    once = h.once;
    all = λ k seen comes. h.all k seen (forward k seen comes);
    only = all_more (Good q) (Good p) (λ item g. (back item.0 g.0, g.1)) items h.only;
  }

  -- the keys of what is given later differ from one that the walk is past
  keys_differ : (a : K) (p : List (Item K V E)) (items : List (K × V)) → Past eq s.world.table.division a p → AllByRecursion (Good p) items →
      AllByRecursion (λ q. eq a q ≡ false) (keys_of items)
  keys_differ a p [] past h = tt
  keys_differ a p (item ∷ items) past h = (past_comes a item.0 p past h.0.0, keys_differ a p items past h.1)

  given_shown : (there : K) (stored : Stored V) (rest : List (Item K V E)) (items : List (K × V)) → s.world.table.stored there ≡ Some (there, stored) →
      is_visible_in s there stored ≡ true → Past eq s.world.table.division there rest → Shown rest items →
      Shown (plan.Scan there stored ∷ rest) ((there, stored.value) ∷ items)
  unfolding IsDistinct
  given_shown there stored rest items stood visible past h = record {
    once = (keys_differ there rest items past h.only, h.once);
    all = by;
    only = (
      (inl (laws.refl there), (stored, stood, refl, visible)),
      all_more (Good rest) (Good (plan.Scan there stored ∷ rest)) (λ item g. (inr g.0, g.1)) items h.only,
    );
  }
    where
      by : (k : K) (seen : IsSeen k) → (eq there k ≡ true) ⊎ Comes k rest → Contains ((there, stored.value) ∷ items) (seen.there, seen.record_there.value)
      by k seen (inr later) =
          Contains-append_right ((there, stored.value) ∷ []) items (seen.there, seen.record_there.value) (h.all k seen later)
      by k seen (inl f) =
          subst (λ (x : K × Stored V). Contains ((there, stored.value) ∷ items) (x.0, x.1.value))
          (some_same (sym stood ∙ alike there k f ∙ seen.stood))
          (Contains-append_left ((there, stored.value) ∷ []) items (there, stored.value) (Contains-push [] (there, stored.value)))

  -- ---- events that are no steps

  refused_walking : (v t : State K V E) (c : Call K V E) (why : Refusal) (r : Reply K V E) → Walking v c → Refuses v why r t → Walking t c
  refused_walking v t c why r i h = subst (λ u. Walking u c) (sym h.same) i

  became_walking : (next t : State K V E) (c : Call K V E) (said r : Reply K V E) → Walking next c → Becomes next said r t → Walking t c
  became_walking next t c said r i h = subst (λ u. Walking u c) (sym h.after) i

  either_walking : (t : State K V E) (c : Call K V E) (b : Bool) (X Y : Type 0) → (X → Walking t c) → (Y → Walking t c) → MatchBool b X Y → Walking t c
  either_walking t c true X Y on_true on_false h = on_true h
  either_walking t c false X Y on_true on_false h = on_false h

  looked_walking : (t : State K V E) (c : Call K V E) (o : Option (Call K V E)) (X : Type 0) (Y : Call K V E → Type 0) → (X → Walking t c) →
      ((d : Call K V E) → o ≡ Some d → Y d → Walking t c) → MatchOption o X Y → Walking t c
  looked_walking t c None X Y none some h = none h
  looked_walking t c (Some d) X Y none some h = some d refl h

  module _ (v : State K V E) (c : Call K V E) (i : Walking v c) where
    told_walking : (m : ℕ) (given : Told V E) → IsReached eq (with_desk v (tells v.world.desk m given)) →
        Walking (with_desk v (tells v.world.desk m given)) c
    told_walking m told.Done h = record {
      reached = h;
      live = i.live;
      walk = i.walk;
      free = i.free;
      stand = i.stand;
      same = record {
        stored = i.same.stored;
        division = i.same.division;
        seen = i.same.seen;
        lists = i.same.lists;
      };
    }
    told_walking m told.Off h = record {
      reached = h;
      live = i.live;
      walk = i.walk;
      free = i.free;
      stand = i.stand;
      same = record {
        stored = i.same.stored;
        division = i.same.division;
        seen = i.same.seen;
        lists = i.same.lists;
      };
    }
    told_walking m _ h = record {
      reached = h;
      live = i.live;
      walk = i.walk;
      free = i.free;
      stand = i.stand;
      same = record {
        stored = i.same.stored;
        division = i.same.division;
        seen = i.same.seen;
        lists = i.same.lists;
      };
    }

    drops_walking : (t : State K V E) (m : ℕ) (d : Call K V E) (how : Mode) (r : Reply K V E) → m ≢ n → IsReached eq t → Drops v m d how r t → Walking t c
    drops_walking t m d mode.Mid r other h drop = refused_walking v t c _ r i drop
    drops_walking t m d _ r other h drop = became_walking (dropped v m d) t c _ r (record {
      reached = subst (IsReached eq) drop.after h;
      live = put_there v.calls m None n (differ m n other) ∙ i.live;
      walk = i.walk;
      free = i.free;
      stand = i.stand;
      same = record { stored = i.same.stored; division = i.same.division; seen = i.same.seen; lists = i.same.lists };
    }) drop

    quiet_walking : (t : State K V E) (e : Event K V E) (r : Reply K V E) → IsQuiet n e → Happens eq Any v e r t → Walking t c
    quiet_walking t (event.Step m) r quiet h = absurd quiet
    quiet_walking t (event.Poll m) r quiet h = absurd quiet
    quiet_walking t (event.At moment) r quiet h = absurd quiet
    quiet_walking t (event.Start begin) r quiet h =
        either_walking t c (v.world.desk.last == last_call) _ _ (refused_walking v t c _ r i)
        (λ b. became_walking (started v begin) t c _ r (record {
          reached = subst (IsReached eq) b.after (event_reached eq v t (event.Start begin) r i.reached h);
          live = put_there v.calls (v.world.desk.last + 1) _ n (differ (v.world.desk.last + 1) n (λ e. omega (arith, e, born))) ∙ i.live;
          walk = i.walk;
          free = i.free;
          stand = i.stand;
          same = record { stored = i.same.stored; division = i.same.division; seen = i.same.seen; lists = i.same.lists };
        }) b) h
      where
        born : n ≤ v.world.desk.last
        born = (in_balance eq v i.reached).numbered n c i.live
    quiet_walking t (event.Tell m given) r quiet h =
        either_walking t c (is_asked v.world.desk m given) _ _
        (λ b. became_walking (with_desk v (tells v.world.desk m given)) t c _ r
        (told_walking m given (subst (IsReached eq) b.after (event_reached eq v t (event.Tell m given) r i.reached h))) b)
        (refused_walking v t c _ r i) h
    quiet_walking t (event.Drop m) r quiet h =
        looked_walking t c (v.calls m) _ (λ d. Drops v m d d.mode r t) (refused_walking v t c _ r i)
        (λ d e drop. drops_walking t m d d.mode r quiet (event_reached eq v t (event.Drop m) r i.reached h) drop) h

  -- ---- all steps

  past_rest : (v : State K V E) (c : Call K V E) → Walking v c → (there : K) (stored : Stored V) (rest : List (Item K V E)) →
      c.plan ≡ plan.Scan there stored ∷ rest → Past eq s.world.table.division there rest
  past_rest v c i there stored rest e =
      let apart : Apart eq s.world.table.division (plan.Scan there stored ∷ rest) =
      subst (λ d. Apart eq d (plan.Scan there stored ∷ rest)) i.same.division
      (subst (Apart eq v.world.table.division) e (live_apart eq laws v n c i.reached i.live (shows_walk c.plan i.walk))) in
      apart.0

  module _ (v t : State K V E) (c : Call K V E) (i : Walking v c) where
    -- the walk ended
    ended : (w : World K V E) (next : Next K V E) → After c c.plan w next → turn.Answer answer.End ≡ next.turn → Shown c.plan []
    ended w next (On q walk stand forward back same) e = nothing_shown c.plan (λ k seen h. over q walk e k (forward k seen h))
      where
        over : (p : List (Item K V E)) → IsShowing p → turn.Answer answer.End ≡ (goes c p).turn → (k : K) → Comes k p → ⊥
        over p Shows_end f k h = h
        over p (Shows_list part rest more) f k h = cc
        over p (Shows_find key rest more) f k h = cc
        over p (Shows_scan there stored rest more) f k h = cc
    ended w next (Still same) e = absurd (never e)
      where
        never : turn.Answer answer.End ≡ (stays c).turn → ⊥
        never f = cc
    ended w next (Gave there stored rest is walk stand stood visible same) e = absurd (never e)
      where
        never : turn.Answer answer.End ≡ (gives c there stored.value rest).turn → ⊥
        never f = cc
    ended w next (Over free) e = nothing_shown c.plan (λ k seen h. free k h)

    -- it went on
    went : (items : List (K × V)) → Step eq v n turn.Going t → ((d : Call K V E) → Walking t d → Shown d.plan items) →
        (w : World K V E) (next : Next K V E) → After c c.plan w next → t ≡ state_after v n w next → turn.Going ≡ next.turn → Shown c.plan items
    went items st on w next (On q walk stand forward back same) is e =
        let g = goes_going c q walk e in
        more_shown c.plan q items forward back
        (subst (λ p. Shown p items) g.2
        (on g.0 (goes_walking v c i t turn.Going st w next is same g.0 g.1 (subst IsShowing (sym g.2) walk) (g.3 ∙ i.free) (subst Stand (sym g.2) stand))))
    went items st on w next (Still same) is e =
        on (record c { mode = mode.Mid }) (goes_walking v c i t turn.Going st w next is same (record c { mode = mode.Mid }) refl i.walk i.free i.stand)
    went items st on w next (Gave there stored rest f walk stand stood visible same) is e = absurd (never e)
      where
        never : turn.Going ≡ (gives c there stored.value rest).turn → ⊥
        never f = cc
    went items st on w next (Over free) is e = absurd (never e)
      where
        never : ◌≡◌ {A = Turn K V E} turn.Going (turn.Answer answer.End) → ⊥
        never f = cc

    -- it gave a record
    gave : (key : K) (value : V) (items : List (K × V)) → Step eq v n (turn.Item key value) t → ((d : Call K V E) → Walking t d → Shown d.plan items) →
        (w : World K V E) (next : Next K V E) → After c c.plan w next → t ≡ state_after v n w next → turn.Item key value ≡ next.turn →
        Shown c.plan ((key, value) ∷ items)
    gave key value items st on w next (On q walk stand forward back same) is e = absurd (goes_silent c q walk key value e)
    gave key value items st on w next (Still same) is e = absurd (never e)
      where
        never : turn.Item key value ≡ (stays c).turn → ⊥
        never f = cc
    gave key value items st on w next (Gave there stored rest f walk stand stood visible same) is e =
        let item = same_given {E = E} key there value stored.value e in
        let d : Call K V E = record c { mode = mode.Parked; plan = rest } in
        subst (λ p. Shown p ((key, value) ∷ items)) (sym f)
        (subst (λ k. Shown (plan.Scan there stored ∷ rest) ((k, value) ∷ items)) (sym item.0)
        (subst (λ x. Shown (plan.Scan there stored ∷ rest) ((there, x) ∷ items)) (sym item.1)
        (given_shown there stored rest items stood visible (past_rest v c i there stored rest f)
        (on d (goes_walking v c i t (turn.Item key value) st w next is same d refl walk i.free stand)))))
    gave key value items st on w next (Over free) is e = absurd (never e)
      where
        never : ◌≡◌ {A = Turn K V E} (turn.Item key value) (turn.Answer answer.End) → ⊥
        never f = cc

  all_shown : (v t : State K V E) (c : Call K V E) (items : List (K × V)) → Walking v c → WalksAlone eq n v items t → Shown c.plan items
  all_shown v t c items i (alone.Ends a b st) =
      let x = stepped v c i b _ st in ended v b c i x.world x.next x.after x.turns
  all_shown v t c items i (alone.Goes a b d more st rest) =
      let x = stepped v c i b _ st in
      went v b c i more st (λ e j. all_shown b d e more j rest) x.world x.next x.after x.is x.turns
  all_shown v t c items i (alone.Gives a b d key value more st rest) =
      let x = stepped v c i b _ st in
      gave v b c i key value more st (λ e j. all_shown b d e more j rest) x.world x.next x.after x.is x.turns
  all_shown v t c items i (alone.Others a b d e r more quiet h rest) =
      all_shown b d c more (quiet_walking v c i b e r quiet h) rest

module _ {K V E : Type 0} (eq : K → K → Bool) (laws : IsEquivalence eq) where
  pub undisturbed_show : UndisturbedShow K V E eq
  undisturbed_show s t n items h able live walks = record {
    once = shown.once;
    all = λ key there stored stood visible. shown.all key
        (record { there = there; record_there = stored; stood = stood; visible = visible }) (comes key);
    only = all_more _ _ (λ item g. g.1) items shown.only;
  }
    where
      first : Call K V E
      first = fresh_call s.world.table.division.parts s.world.desk.rules start.Iter

      of_state : AreWalking eq s
      of_state = in_walking eq laws s h

      plan_is : first.plan ≡ walk_from 0 s.world.table.division.parts
      plan_is = ap (λ b. iter_plan b s.world.table.division.parts) able

      comes : (key : K) → Comes eq laws s n h key first.plan
      comes key = subst (Comes eq laws s n h key) (sym plan_is)
          (comes_from eq laws s n h key 0 s.world.table.division.parts (omega arith) (omega (arith, of_state.divides.part key)))

      not_mid : mode.Fresh ≡ mode.Mid → ⊥
      not_mid e = cc

      none : (o : Option ℕ) → BegunBy o (Some first) → o ≡ None
      none None b = refl
      none (Some part) b = absurd (not_mid b.0)

      no_list : (o : Option (Listed K)) → option_map {T = Listed K} (λ v. v.part) o ≡ None → (l : Listed K) → o ≡ Some l → ⊥
      no_list None e l f = none_some f
      no_list (Some x) e l f = none_some (sym e)

      begins : Walking eq laws s n h s first
      begins = record {
        reached = h;
        live = live;
        walk = subst IsShowing (sym plan_is) (walk_shows 0 s.world.table.division.parts);
        free = refl;
        stand = subst (Stand eq laws s n h) (sym plan_is) (stand_from eq laws s n h 0 s.world.table.division.parts);
        same = record {
          stored = refl;
          division = refl;
          seen = λ k x. refl;
          lists = λ l is. absurd (no_list (s.world.table.listings n)
              (none (part_begun s.world.table n) (subst (BegunBy (part_begun s.world.table n)) live (of_state.begun n))) l is);
        };
      }

      shown : Shown eq laws s n h first.plan items
      shown = all_shown eq laws s n h s t first items begins walks
