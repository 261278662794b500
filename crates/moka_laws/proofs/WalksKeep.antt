-- A key that is stored as long as a walk lasts is looked up, found and judged.
use Rattle.std.proofs.Common.{◌≡◌, ◌≢◌, ℕ, zero, suc, ◌+◌, ◌<◌, ◌≤◌, ◌==◌, Bool, true, false, not, ◌&&◌, ◌||◌, cond, List, [], ◌∷◌, ◌++◌, map, Option, Some, None, is_some, IsSome, unwrap_or, ◌⊎◌, inl, inr, refl, sym, ap, ◌∙◌, subst, arith}
use Rattle.std.specs.Cmp.{IsEquivalence}
use Rattle.std.specs.List.{list_any}
use Rattle.std.specs.Option.{option_map}
use Rattle.std.proofs.lemmas.Bool.{eq-eqb, eqb-true, false≢true}
use Rattle.moka_hist.specs.Finite.{put_at}
use Rattle.moka_hist.specs.Next.{Next, goes}
use Rattle.moka_hist.specs.Plan.{Item, is_disabled, iter_plan, lists_from}
use Rattle.moka_hist.specs.Plan as plan
use Rattle.moka_hist.specs.Run.{IsReached, fresh_call}
use Rattle.moka_hist.specs.State.{Call, Division, Listed, State, TablePart, World}
use Rattle.moka_hist.specs.Step.{Access, Gets, Step, access_of}
use Rattle.moka_hist.specs.Step as step
use Rattle.moka_hist.specs.Tables.{Operates, begun, by_pair, listed_now, removed, taken_by, written}
use Rattle.moka_hist.specs.declared.accesses.Got.{Got}
use Rattle.moka_hist.specs.declared.accesses.Got.TheVariants as got
use Rattle.moka_hist.specs.declared.accesses.Turn.{Turn}
use Rattle.moka_hist.specs.declared.accesses.Turn.TheVariants as turn
use Rattle.moka_hist.specs.declared.events.Start.TheVariants as start
use Rattle.moka_hist.specs.declared.records.Mode.TheVariants as mode
use Rattle.moka_hist.specs.declared.records.Stored.{Stored}
use Rattle.moka_hist.specs.declared.replies.Answer.{Answer}
use Rattle.moka_hist.specs.declared.replies.Answer.TheVariants as answer
use Rattle.moka_hist.specs.declared.tables.TableAnswer.{TableAnswer}
use Rattle.moka_hist.specs.declared.tables.TableOp.{TableOp}
use Rattle.moka_hist.specs.declared.tables.TableOp.TheVariants as op
use Rattle.moka_hist.specs.declared.tables.TableTurn.TheVariants as table
use Rattle.moka_laws.specs.Starting.{HasMade, Leads}
use Rattle.moka_laws.specs.Walks.{FindsListed, JudgesFound, ListsAreStarted, StoredAreFound}
use Rattle.moka_laws.proofs.Balanced.{in_balance}
use Rattle.moka_laws.proofs.Counted.{reached_counted}
use Rattle.moka_laws.proofs.Counting.{differ, differ_not, none_some, put_cases, put_here, put_there, some_same}
use Rattle.moka_laws.proofs.Following.{made_on, no_leads, step_leads}
use Rattle.moka_laws.proofs.FollowingIn.{Changes, By_clock, By_start, By_step, By_told, By_heard, By_drop, follow_in}
use Rattle.moka_laws.proofs.Outcomes.{outcomes}
use Rattle.moka_laws.proofs.Reached.{run_reached}
use Rattle.moka_laws.proofs.StepCases.{OnStep, step_cases}
use Rattle.moka_laws.proofs.Steady.{step_calls, step_last}
use Rattle.moka_laws.proofs.Walkers.{AreWalking, BegunBy, begun_named, division_stays, in_walking, part_begun}
use Rattle.moka_laws.proofs.Walks.{IsShowing, Shows, ShowsIf, Shows_end, Shows_find, Shows_list, Shows_scan, on_shows, walk_shows}
use Rattle.moka_laws.proofs.WalksGive.{scans_show}

pub and_true : (a b : Bool) → a ≡ true → b ≡ true → (a && b) ≡ true
and_true true true h k = refl
and_true true false h k = k
and_true false b h k = h

-- a number that isn't below another, and differs from it, is past it
pub past_part : (a b : ℕ) → b ≤ a → (a == b) ≡ false → b + 1 ≤ a
past_part a b low e = let other : a ≢ b = differ_not a b e in omega (arith, low, other)

module _ {K V : Type 0} (eq : K → K → Bool) (n : ℕ) (key : K) where
  -- the list of the key's part that the call has begun, if it has, must give the key
  abbrev pub MustGive : TablePart K V → Type 0
  MustGive t = (l : Listed K) → t.listings n ≡ Some l → t.division.part_of key ≡ l.part → l.must key ≡ true

  -- where none is begun none has to
  pub nothing_begun : (t : TablePart K V) → part_begun t n ≡ None → MustGive t
  nothing_begun t none l is of = absurd (by (t.listings n) none is)
    where
      by : (o : Option (Listed K)) → option_map {T = Listed K} (λ v. v.part) o ≡ None → o ≡ Some l → ⊥
      by None e f = none_some f
      by (Some v) e f = none_some (sym e)

  module _ (m : ℕ) (t : TablePart K V) (must : MustGive t) where
    -- a list that was changed so that it must still give the key
    changed_must : (f : Listed K → Listed K) → ((v : Listed K) → (f v).part ≡ v.part) →
        ((v : Listed K) → v.must key ≡ true → (f v).must key ≡ true) → (l : Listed K) →
        (o : Option (Listed K)) → t.listings n ≡ o → option_map {T = Listed K} f o ≡ Some l → t.division.part_of key ≡ l.part → l.must key ≡ true
    changed_must f same gives l None e is of = absurd (none_some is)
    changed_must f same gives l (Some v) e is of =
        let now : f v ≡ l = some_same is in
        subst (λ (x : Listed K). x.must key ≡ true) now
        (gives v (must v e (of ∙ ap (λ (x : Listed K). x.part) (sym now) ∙ same v)))

    written_must : (other : K) (stored : Stored V) → MustGive (written eq m t other stored)
    written_must other stored l is of =
        changed_must (λ (v : Listed K). record v { may = λ q. v.may q || eq other q }) (λ v. refl) (λ v h. h) l (t.listings n) refl is of

    -- where the key still stands another was taken out
    differs : (b : Bool) → IsSome (cond b None (t.stored key)) → not b ≡ true
    differs true h = h
    differs false h = refl

    removed_must : (other : K) → IsSome ((removed eq m t other).stored key) → MustGive (removed eq m t other)
    removed_must other stands l is of =
        changed_must (λ (v : Listed K). record v { must = λ q. v.must q && not (eq other q) }) (λ v. refl)
        (λ v h. and_true (v.must key) (not (eq other key)) h (differs (eq other key) stands)) l (t.listings n) refl is of

    either_must : (o : Option (K × Stored V)) (a b : TablePart K V) → (IsSome (a.stored key) → MustGive a) → (IsSome (b.stored key) → MustGive b) →
        IsSome ((by_pair o a b).stored key) → MustGive (by_pair o a b)
    either_must None a b f g stands = g stands
    either_must (Some pair) a b f g stands = f stands

    operation_must : (o : TableOp K V) (answer : TableAnswer K V) (new : TablePart K V) → Operates eq m t o answer new → IsSome (new.stored key) → MustGive new
    operation_must (op.Get other) answer new h stands = subst MustGive (sym h.1) must
    operation_must (op.InsertOrModify other stored) answer new h stands = subst MustGive (sym h.1) (written_must other stored)
    operation_must (op.InsertIfAbsent other stored) answer new h stands = subst MustGive (sym h.1)
        (either_must (t.stored other) t (written eq m t other stored) (λ k. must) (λ k. written_must other stored)
        (subst (λ (v : TablePart K V). IsSome (v.stored key)) h.1 stands))
    operation_must (op.RemoveIf other stamp) answer new h stands = subst MustGive (sym h.1)
        (either_must (taken_by stamp (t.stored other)) (removed eq m t other) t (removed_must other) (λ k. must)
        (subst (λ (v : TablePart K V). IsSome (v.stored key)) h.1 stands))
    operation_must (op.Keys part) answer new h stands = subst MustGive (sym h.5) over
      where
        over : MustGive (record t { listings = put_at t.listings m None })
        over l is of = put_cases t.listings m None n (Some l) (l.must key ≡ true) is (λ e f. absurd (none_some f)) (λ e f. must l f of)

    keys_must : (part : ℕ) → IsSome (t.stored key) → MustGive (begun t m (op.Keys part))
    keys_must part stands l is of =
        put_cases t.listings m (Some (unwrap_or (t.listings m) (listed_now t part))) n (Some l) (l.must key ≡ true) is here (λ e f. must l f of)
      where
        now : (v : Listed K) → v ≡ l → v ≡ listed_now t part → l.must key ≡ true
        now v same is =
            subst (λ (x : Listed K). x.must key ≡ true) (sym is ∙ same) (and_true (is_some (t.stored key)) (t.division.part_of key == part) stands
            (eq-eqb (t.division.part_of key) part (of ∙ ap (λ (x : Listed K). x.part) (sym same ∙ is))))

        by : (o : Option (Listed K)) → t.listings n ≡ o → unwrap_or o (listed_now t part) ≡ l → l.must key ≡ true
        by None e f = now (listed_now t part) f refl
        by (Some v) e f = subst (λ (x : Listed K). x.must key ≡ true) f (must v e (of ∙ ap (λ (x : Listed K). x.part) (sym f)))

        here : m ≡ n → Some (unwrap_or (t.listings m) (listed_now t part)) ≡ Some l → l.must key ≡ true
        here same f = by (t.listings n) refl (ap (λ k. unwrap_or (t.listings k) (listed_now t part)) (sym same) ∙ some_same f)

    pub begun_must : (o : TableOp K V) → IsSome (t.stored key) → MustGive (begun t m o)
    begun_must (op.Get other) stands = must
    begun_must (op.InsertOrModify other stored) stands = must
    begun_must (op.InsertIfAbsent other stored) stands = must
    begun_must (op.RemoveIf other stamp) stands = must
    begun_must (op.Keys part) stands = keys_must part stands

module _ {K V E : Type 0} (eq : K → K → Bool) (n : ℕ) (key : K) where
  access_must : (m : ℕ) (w new : World K V E) (a : Access K V E) (g : Got K V E) → Gets eq m w a g new → IsSome (w.table.stored key) →
      IsSome (new.table.stored key) → MustGive eq n key w.table → MustGive eq n key new.table
  access_must m w new (step.On_table o) (got.Table table.Going) gets was is must =
      subst (λ (v : World K V E). MustGive eq n key v.table) (sym gets.1) (begun_must eq n key m w.table must o was)
  access_must m w new (step.On_table o) (got.Table (table.Decided answer)) gets was is must =
      subst (λ (v : World K V E). MustGive eq n key v.table) (sym gets.2)
      (operation_must eq n key m (begun w.table m o) (begun_must eq n key m w.table must o was) o answer gets.0 gets.1
      (subst (λ (v : World K V E). IsSome (v.table.stored key)) gets.2 is))
  access_must m w new (step.On_desk made) (got.Desk found) gets was is must =
      subst (λ (v : World K V E). MustGive eq n key v.table) (sym gets.1) must
  access_must m w new _ _ gets was is must = absurd gets

  pub step_must : (s t : State K V E) (m : ℕ) (turn : Turn K V E) → Step eq s m turn t → IsSome (s.world.table.stored key) →
      IsSome (t.world.table.stored key) → MustGive eq n key s.world.table → MustGive eq n key t.world.table
  step_must s t m turn st was is must =
      subst (λ (v : State K V E). MustGive eq n key v.world.table) (sym st.after)
      (access_must m s.world st.world (access_of m st.call) st.given st.gets was
      (subst (λ (v : State K V E). IsSome (v.world.table.stored key)) st.after is) must)

  -- ---- what the plan has still to do for the key

  -- it lists the key's part, or looks an equal key up
  abbrev pub ToLook : Division K → List (Item K V E) → Type 0
  ToLook d [] = ⊥
  ToLook d (plan.List_keys part ∷ rest) = (d.part_of key ≡ part) ⊎ ToLook d rest
  ToLook d (plan.Find other ∷ rest) = (eq other key ≡ true) ⊎ ToLook d rest
  ToLook d (_ ∷ rest) = ToLook d rest

  pub finds_later : (d : Division K) (keys : List K) (rest : List (Item K V E)) → ToLook d rest → ToLook d (map plan.Find keys ++ rest)
  finds_later d [] rest h = h
  finds_later d (k ∷ keys) rest h = inr (finds_later d keys rest h)

  pub finds_now : IsEquivalence eq → (d : Division K) (keys : List K) (rest : List (Item K V E)) → list_any (eq key) keys ≡ true →
      ToLook d (map plan.Find keys ++ rest)
  finds_now laws d [] rest h = absurd (false≢true h)
  finds_now laws d (k ∷ keys) rest h = by (eq key k) refl h (finds_now laws d keys rest)
    where
      by : (b : Bool) → eq key k ≡ b → (b || list_any (eq key) keys) ≡ true →
          (list_any (eq key) keys ≡ true → ToLook d (map plan.Find keys ++ rest)) → ToLook d (map plan.Find (k ∷ keys) ++ rest)
      by true e f later = inl (laws.symm k key ∙ e)
      by false e f later = inr (later f)

-- the plan that lists each part comes to the key
pub look_from : {K V E : Type 0} (eq : K → K → Bool) (n : ℕ) (key : K) (d : Division K) (last : List (Item K V E)) (part left : ℕ) →
    part ≤ d.part_of key → d.part_of key < part + left → ToLook eq n key d (lists_from part left last)
look_from eq n key d last part zero low high = absurd (omega (arith, low, high))
look_from {K} {V} {E} eq n key d last part (suc left) low high =
    by (d.part_of key == part) refl (λ more. look_from eq n key d last (part + 1) left more (omega (arith, high)))
  where
    by : (b : Bool) → (d.part_of key == part) ≡ b →
        (part + 1 ≤ d.part_of key → ToLook {K = K} {V = V} {E = E} eq n key d (lists_from (part + 1) left last)) →
        ToLook {K = K} {V = V} {E = E} eq n key d (lists_from part (suc left) last)
    by true e later = inl (eqb-true (d.part_of key) part e)
    by false e later = inr (later (past_part (d.part_of key) part low e))

not_mid : mode.Fresh ≡ mode.Mid → ⊥
not_mid e = cc

module _ {K V E : Type 0} (eq : K → K → Bool) (n : ℕ) (key : K) where
  -- such a plan isn't over, and the call goes on with it
  goes_looks : (d : Division K) (c : Call K V E) (p : List (Item K V E)) → ToLook eq n key d p →
      ((a : Answer K V E) → (goes c p).turn ≡ turn.Answer a → ⊥) × (next : Call K V E) × ((goes c p).left ≡ Some next) × (next.plan ≡ p)
  goes_looks d c [] h = absurd h
  goes_looks d c (plan.Reply a ∷ []) h = absurd h
  goes_looks d c (item ∷ rest) h = ((λ a e. cc), _, refl, refl)

  -- ---- how far the walk has come

  abbrev Looked : State K V E → K → K → Stored V → Type 0
  Looked v listed there stored = (eq listed key ≡ true) × HasMade eq v n (FindsListed n listed (Some (there, stored)))

  data Stage (v : State K V E) (p : List (Item K V E)) : Type 0 where
    Coming : ToLook eq n key v.world.table.division p → Stage v p
    Judging : (listed there : K) (stored : Stored V) (rest : List (Item K V E)) → p ≡ plan.Scan there stored ∷ rest →
        Looked v listed there stored → Stage v p
    Judged : (listed there : K) (stored : Stored V) → Looked v listed there stored → HasMade eq v n (JudgesFound there stored) → Stage v p

  abbrev StageIf : State K V E → Option (Call K V E) → Type 0
  StageIf v None = Unit {0}
  StageIf v (Some c) = Stage v c.plan

  looked_on : (v w : State K V E) → Leads eq v w → (listed there : K) (stored : Stored V) → Looked v listed there stored → Looked w listed there stored
  looked_on v w led listed there stored h = (h.0, made_on eq v w n _ led h.1)

  stage_on : (v w : State K V E) → Leads eq v w → w.world.table.division ≡ v.world.table.division → (o : Option (Call K V E)) → StageIf v o → StageIf w o
  stage_on v w led same None h = tt
  stage_on v w led same (Some c) (Coming h) = Coming (subst (λ d. ToLook eq n key d c.plan) (sym same) h)
  stage_on v w led same (Some c) (Judging listed there stored rest e h) = Judging listed there stored rest e (looked_on v w led listed there stored h)
  stage_on v w led same (Some c) (Judged listed there stored h made) =
      Judged listed there stored (looked_on v w led listed there stored h) (made_on eq v w n _ led made)

  record Follows (v : State K V E) : Type 0 where
    reached : IsReached eq v
    born : n ≤ v.world.desk.last
    stands : IsSome (v.world.table.stored key)
    must : MustGive eq n key v.world.table
    shows : ShowsIf (v.calls n)
    stage : StageIf v (v.calls n)

  module _ (laws : IsEquivalence eq) where
    -- ---- a step of a walk that has still to look the key up

    -- it has still to, or has found what stands under an equal key
    data Left (s : State K V E) (c : Call K V E) (d : Call K V E) : Type 0 where
      Still : ToLook eq n key s.world.table.division d.plan → Left s c d
      Found : (listed there : K) (stored : Stored V) (rest : List (Item K V E)) → c.plan ≡ plan.Find listed ∷ rest → eq listed key ≡ true →
          s.world.table.stored listed ≡ Some (there, stored) → d.plan ≡ plan.Scan there stored ∷ rest → Left s c d

    record Went (s : State K V E) (c : Call K V E) (next : Next K V E) : Type 0 where
      silent : (a : Answer K V E) → next.turn ≡ turn.Answer a → ⊥
      call : Call K V E
      live : next.left ≡ Some call
      left : Left s c call

    went_on : (s : State K V E) (c : Call K V E) (p : List (Item K V E)) → ToLook eq n key s.world.table.division p → Went s c (goes c p)
    went_on s c p h =
        let g = goes_looks s.world.table.division c p h in
        record { silent = g.0; call = g.1; live = g.2; left = Still (subst (ToLook eq n key s.world.table.division) (sym g.3) h) }

    module _ (s : State K V E) (c : Call K V E) (i : Follows s) (begins : BegunBy (part_begun s.world.table n) (Some c)) where
      abbrev After : World K V E → Next K V E → Type 0
      After new next = Went s c next

      -- what stands under an equal key stands there
      same_there : (other : K) → eq other key ≡ true → s.world.table.stored other ≡ s.world.table.stored key
      same_there other e = (reached_counted eq laws s i.reached).alike other key e

      went : (p : List (Item K V E)) → c.plan ≡ p → c.carried ≡ None → IsShowing p → ToLook eq n key s.world.table.division p →
          OnStep eq After s.world n c p
      went p e free Shows_end h = absurd h
      went p e free (Shows_list part rest walk) h = outcomes eq After s.world n c (plan.List_keys part) rest (
        λ more. record { silent = λ a f. cc; call = _; live = refl; left = Still (subst (ToLook eq n key s.world.table.division) (sym e) h) },
        λ listed keys is gives. went_on s c (map plan.Find keys ++ rest) (by listed keys (begun_named s.world.table n c part rest e begins listed is) is
            gives.whole h),
      )
        where
          by : (listed : Listed K) (keys : List K) → listed.part ≡ part → (begun s.world.table n (op.Keys part)).listings n ≡ Some listed →
              ((q : K) → listed.must q ≡ true → list_any (eq q) keys ≡ true) →
              (s.world.table.division.part_of key ≡ part) ⊎ ToLook eq n key s.world.table.division rest →
              ToLook eq n key s.world.table.division (map plan.Find keys ++ rest)
          by listed keys named is whole (inl of) = finds_now eq n key laws s.world.table.division keys rest
              (whole key (begun_must eq n key n s.world.table i.must (op.Keys part) i.stands listed is (of ∙ sym named)))
          by listed keys named is whole (inr later) = finds_later eq n key s.world.table.division keys rest later
      went p e free (Shows_find other rest walk) h = outcomes eq After s.world n c (plan.Find other) rest (
        λ more. record { silent = λ a f. cc; call = _; live = refl; left = Still (subst (ToLook eq n key s.world.table.division) (sym e) h) },
        λ none. by_none none h,
        λ there stored some none. record { silent = λ a f. cc; call = _; live = refl; left = by_some there stored some h },
        λ there stored ids some is. absurd (none_some (sym free ∙ is)),
      )
        where
          by_none : s.world.table.stored other ≡ None → (eq other key ≡ true) ⊎ ToLook eq n key s.world.table.division rest → Went s c (goes c rest)
          by_none none (inl f) = absurd (false≢true (ap is_some (sym none ∙ same_there other f) ∙ i.stands))
          by_none none (inr later) = went_on s c rest later

          by_some : (there : K) (stored : Stored V) → s.world.table.stored other ≡ Some (there, stored) →
              (eq other key ≡ true) ⊎ ToLook eq n key s.world.table.division rest → Left s c (record c { mode = mode.Mid; plan = plan.Scan there stored ∷ rest })
          by_some there stored some (inl f) = Found other there stored rest e f some refl
          by_some there stored some (inr later) = Still later
      went p e free (Shows_scan there stored rest walk) h = outcomes eq After s.world n c (plan.Scan there stored) rest (
        λ seen. record { silent = λ a f. cc; call = _; live = refl; left = Still h },
        λ unseen. went_on s c rest h,
      )

    -- so is each step of it
    abbrev LeftSo : State K V E → Call K V E → State K V E → Turn K V E → Type 0
    LeftSo s c v r = ((a : Answer K V E) → r ≡ turn.Answer a → ⊥) × (d : Call K V E) × (v.calls n ≡ Some d) × Left s c d

    own_went : (s t : State K V E) (reply : Turn K V E) → Follows s → (st : Step eq s n reply t) → ToLook eq n key s.world.table.division st.call.plan →
        ((a : Answer K V E) → reply ≡ turn.Answer a → ⊥) × (d : Call K V E) × (t.calls n ≡ Some d) × Left s st.call d
    own_went s t reply i st h =
        step_cases eq (After s st.call i begins) (LeftSo s st.call) s t n reply st (went s st.call i begins st.call.plan refl shows.free shows.walk h)
        (λ w next k. (k.silent, k.call, put_here s.calls n next.left ∙ k.live, k.left))
      where
        walkers : AreWalking eq s
        walkers = in_walking eq laws s i.reached

        begins : BegunBy (part_begun s.world.table n) (Some st.call)
        begins = subst (BegunBy (part_begun s.world.table n)) st.live (walkers.begun n)

        shows : Shows st.call
        shows = subst ShowsIf st.live i.shows

    scan_left : (p q : List (Item K V E)) (listed there : K) (stored : Stored V) (rest more : List (Item K V E)) → p ≡ plan.Find listed ∷ rest →
        q ≡ plan.Scan there stored ∷ more → q ≡ p → ⊥
    scan_left p q listed there stored rest more e f g = cc

    -- the step has judged what was found
    judged_now : (s t : State K V E) (reply : Turn K V E) → IsReached eq s → (st : Step eq s n reply t) → (there : K) (stored : Stored V)
        (rest : List (Item K V E)) → st.call.plan ≡ plan.Scan there stored ∷ rest → HasMade eq t n (JudgesFound there stored)
    judged_now s t reply h st there stored rest e = record {
      before = s;
      reached = h;
      call = st.call;
      live = st.live;
      turn = reply;
      after = t;
      step = st;
      what = record { judges = (rest, e); shows = scans_show eq s t n st.call there stored reply st.live (rest, e) st };
      led = no_leads eq t;
    }

    own_stage : (s t : State K V E) (reply : Turn K V E) → Leads eq s t → Follows s → Step eq s n reply t → StageIf t (t.calls n)
    own_stage s t reply led i st = by (subst (StageIf s) st.live i.stage)
      where
        judged : (o : Option (Call K V E)) (listed there : K) (stored : Stored V) → Looked t listed there stored →
            HasMade eq t n (JudgesFound there stored) → StageIf t o
        judged None listed there stored h made = tt
        judged (Some c) listed there stored h made = Judged listed there stored h made

        went_so : (d : Call K V E) → t.calls n ≡ Some d → Left s st.call d → Stage t d.plan
        went_so d live (Still h) = Coming (subst (λ v. ToLook eq n key v d.plan) (sym (division_stays eq s t n reply st)) h)
        went_so d live (Found listed there stored rest looks f stood is) = Judging listed there stored rest is (
          f,
          record {
            before = s;
            reached = i.reached;
            call = st.call;
            live = st.live;
            turn = reply;
            after = t;
            step = st;
            what = record {
              looks = (rest, looks);
              stood = stood;
              decided = λ e on same. scan_left st.call.plan d.plan listed there stored rest rest looks is
                  (ap (λ (v : Call K V E). v.plan) (some_same (sym live ∙ on)) ∙ same);
            };
            led = no_leads eq t;
          },
        )

        by : Stage s st.call.plan → StageIf t (t.calls n)
        by (Coming h) =
            let o = own_went s t reply i st h in
            subst (StageIf t) (sym o.2) (went_so o.1 o.2 o.3)
        by (Judging listed there stored rest e h) =
            judged (t.calls n) listed there stored (looked_on s t led listed there stored h) (judged_now s t reply i.reached st there stored rest e)
        by (Judged listed there stored h made) =
            judged (t.calls n) listed there stored (looked_on s t led listed there stored h) (made_on eq s t n _ led made)

    -- ---- all changes

    follows_step : (s t : State K V E) (m : ℕ) (reply : Turn K V E) → Leads eq s t → IsSome (t.world.table.stored key) → Follows s →
        Step eq s m reply t → Follows t
    follows_step s t m reply led stands i st = record {
      reached = run_reached eq s t led.events led.replies i.reached led.run;
      born = omega (arith, i.born, step_last eq s t m reply st);
      stands = stands;
      must = step_must eq n key s t m reply st i.stands stands i.must;
      shows = shown (m == n) refl;
      stage = by (m == n) refl;
    }
      where
        own_shows : Step eq s n reply t → ShowsIf (t.calls n)
        own_shows own =
            step_cases eq (λ new next. ShowsIf next.left) (λ v _. ShowsIf (v.calls n)) s t n reply own
            (on_shows eq s.world n own.call (subst ShowsIf own.live i.shows))
            (λ w next h. subst ShowsIf (sym (put_here s.calls n next.left)) h)

        shown : (b : Bool) → (m == n) ≡ b → ShowsIf (t.calls n)
        shown true e = own_shows (subst (λ v. Step eq s v reply t) (eqb-true m n e) st)
        shown false e = subst ShowsIf (sym (step_calls eq s t m n reply e st)) i.shows

        by : (b : Bool) → (m == n) ≡ b → StageIf t (t.calls n)
        by true e = own_stage s t reply led i (subst (λ v. Step eq s v reply t) (eqb-true m n e) st)
        by false e = subst (StageIf t) (sym (step_calls eq s t m n reply e st))
            (stage_on s t led (division_stays eq s t m reply st) (s.calls n) i.stage)

    follows_kept : (s t : State K V E) → Changes eq s t → Leads eq s t → IsSome (t.world.table.stored key) → Follows s → Follows t
    follows_kept s t (By_clock v moment) led stands i = record {
      reached = run_reached eq s t led.events led.replies i.reached led.run;
      born = i.born;
      stands = i.stands;
      must = i.must;
      shows = i.shows;
      stage = stage_on s t led refl (s.calls n) i.stage;
    }
    follows_kept s t (By_start v begin) led stands i = record {
      reached = run_reached eq s t led.events led.replies i.reached led.run;
      born = omega (arith, i.born);
      stands = i.stands;
      must = i.must;
      shows = subst ShowsIf (sym (put_there s.calls (s.world.desk.last + 1) _ n (differ (s.world.desk.last + 1) n (λ e. omega (arith, e, i.born))))) i.shows;
      stage = subst (StageIf t)
          (sym (put_there s.calls (s.world.desk.last + 1) _ n (differ (s.world.desk.last + 1) n (λ e. omega (arith, e, i.born)))))
          (stage_on s t led refl (s.calls n) i.stage);
    }
    follows_kept s t (By_step v w m reply st) led stands i = follows_step s t m reply led stands i st
    follows_kept s t (By_told v m given) led stands i = record {
      reached = run_reached eq s t led.events led.replies i.reached led.run;
      born = i.born;
      stands = i.stands;
      must = i.must;
      shows = i.shows;
      stage = stage_on s t led refl (s.calls n) i.stage;
    }
    follows_kept s t (By_heard v m off) led stands i = record {
      reached = run_reached eq s t led.events led.replies i.reached led.run;
      born = i.born;
      stands = i.stands;
      must = i.must;
      shows = i.shows;
      stage = stage_on s t led refl (s.calls n) i.stage;
    }
    follows_kept s t (By_drop v m c live between) led stands i = record {
      reached = run_reached eq s t led.events led.replies i.reached led.run;
      born = i.born;
      stands = i.stands;
      must = i.must;
      shows = shown (m == n) refl;
      stage = by (m == n) refl;
    }
      where
        shown : (b : Bool) → (m == n) ≡ b → ShowsIf (cond b None (s.calls n))
        shown true e = tt
        shown false e = i.shows

        by : (b : Bool) → (m == n) ≡ b → StageIf t (cond b None (s.calls n))
        by true e = tt
        by false e = stage_on s t led refl (s.calls n) i.stage

    -- ---- the whole walk

    fresh_follows : (s : State K V E) → IsReached eq s → is_disabled s.world.desk.rules ≡ false →
        s.calls n ≡ Some (fresh_call s.world.table.division.parts s.world.desk.rules start.Iter) → IsSome (s.world.table.stored key) → Follows s
    fresh_follows s h able live stands = record {
      reached = h;
      born = (in_balance eq s h).numbered n _ live;
      stands = stands;
      must = nothing_begun eq n key s.world.table
          (none (part_begun s.world.table n) (subst (BegunBy (part_begun s.world.table n)) live (walkers.begun n)));
      shows = subst ShowsIf (sym live) (record {
        walk = subst (λ b. IsShowing {K = K} {V = V} {E = E} (iter_plan b s.world.table.division.parts)) (sym able)
            (walk_shows 0 s.world.table.division.parts);
        free = refl;
      });
      stage = subst (StageIf s) (sym live) (Coming
          (subst (λ b. ToLook {K = K} {V = V} {E = E} eq n key s.world.table.division (iter_plan b s.world.table.division.parts)) (sym able)
          (look_from {K = K} {V = V} {E = E} eq n key s.world.table.division (plan.Reply answer.End ∷ []) 0 s.world.table.division.parts (omega arith) (omega (arith, walkers.divides.part key)))));
    }
      where
        walkers : AreWalking eq s
        walkers = in_walking eq laws s h

        none : (o : Option ℕ) → BegunBy o (Some (fresh_call {K = K} {V = V} {E = E} s.world.table.division.parts s.world.desk.rules start.Iter)) → o ≡ None
        none None b = refl
        none (Some part) b = absurd (not_mid b.0)

    ended : (t u : State K V E) → Follows t → (st : Step eq t n (turn.Answer answer.End) u) →
        (listed : K) × (there : K) × (stored : Stored V) × (eq listed key ≡ true) ×
        HasMade eq u n (FindsListed n listed (Some (there, stored))) × HasMade eq u n (JudgesFound there stored)
    ended t u i st = by (subst (StageIf t) st.live i.stage)
      where
        led : Leads eq t u
        led = step_leads eq t u n _ st

        by : Stage t st.call.plan → (listed : K) × (there : K) × (stored : Stored V) × (eq listed key ≡ true) ×
            HasMade eq u n (FindsListed n listed (Some (there, stored))) × HasMade eq u n (JudgesFound there stored)
        by (Coming h) = absurd ((own_went t u (turn.Answer answer.End) i st h).0 answer.End refl)
        by (Judging listed there stored rest e h) =
            (listed, there, stored, h.0, made_on eq t u n _ led h.1, judged_now t u _ i.reached st there stored rest e)
        by (Judged listed there stored h made) = (listed, there, stored, h.0, made_on eq t u n _ led h.1, made_on eq t u n _ led made)

module _ {K V E : Type 0} (eq : K → K → Bool) (laws : IsEquivalence eq) where
  pub stored_found : StoredAreFound K V E eq
  stored_found s t u n key events replies h able live stands run st =
      ended eq n key laws t u
      (follow_in eq (λ v. IsSome (v.world.table.stored key)) (Follows eq n key)
      (λ v w change led now i. follows_kept eq n key laws v w change led now i) s t events replies
      (fresh_follows eq n key laws s h able live stands) run) st

  -- a call that wasn't started has begun no list
  pub lists_started : ListsAreStarted K V E eq
  lists_started s n h later = by (s.calls n) refl (s.world.table.listings n) refl
    where
      by : (left : Option (Call K V E)) → s.calls n ≡ left → (o : Option (Listed K)) → s.world.table.listings n ≡ o → o ≡ None
      by (Some c) live o e = absurd (omega (arith, (in_balance eq s h).numbered n c live, later))
      by None gone None e = refl
      by None gone (Some l) e = absurd
          (subst (λ v. BegunBy {K = K} {V = V} {E = E} v None) (ap (λ (o : Option (Listed K)). option_map {T = Listed K} (λ v. v.part) o) e)
          (subst (λ v. BegunBy (part_begun s.world.table n) v) gone ((in_walking eq laws s h).begun n)))
