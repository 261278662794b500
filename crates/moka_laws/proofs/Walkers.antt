-- In every reached state each walk is orderly, and each list that is begun is one that a call makes between two steps.
use Rattle.std.proofs.Common.{◌≡◌, ◌≢◌, ℕ, ◌+◌, ◌≤◌, ◌==◌, Bool, true, false, List, [], ◌∷◌, ◌++◌, map, Option, Some, None, unwrap_or, ◌⊎◌, inl, inr, refl, sym, ap, ◌∙◌, subst, arith}
use Rattle.std.specs.Cmp.{IsEquivalence}
use Rattle.std.specs.Option.{option_map}
use Rattle.std.proofs.lemmas.Bool.{eqb-true}
use Rattle.moka_hist.specs.Finite.{put_at}
use Rattle.moka_hist.specs.State.{Call, Listed, State, TablePart, World, fresh, Division}
use Rattle.moka_hist.specs.Plan.{Item, Removal, get_plan, insert_plan, is_disabled, iter_plan, load_plan, or_insert_plan, plan_of, seek, under_lock, lists_from, pending_plan}
use Rattle.moka_hist.specs.Plan as plan
use Rattle.moka_hist.specs.Next.{Next, gives, goes, stays}
use Rattle.moka_hist.specs.Dropping.{dropped}
use Rattle.moka_hist.specs.Run.{Divides, IsReached, started}
use Rattle.moka_hist.specs.Step.{Access, Gets, Step, access_for, access_of}
use Rattle.moka_hist.specs.Step as step
use Rattle.moka_hist.specs.Tables.{Operates, begun, by_pair, listed_now, removed, taken_by, written}
use Rattle.moka_hist.specs.declared.accesses.Got.{Got}
use Rattle.moka_hist.specs.declared.accesses.Got.TheVariants as got
use Rattle.moka_hist.specs.declared.accesses.Turn.{Turn}
use Rattle.moka_hist.specs.declared.events.Start.{Start}
use Rattle.moka_hist.specs.declared.events.Start.TheVariants as start
use Rattle.moka_hist.specs.declared.loads.Kind.TheVariants as kind
use Rattle.moka_hist.specs.declared.loads.Sought.{Sought}
use Rattle.moka_hist.specs.declared.records.Mode.{Mode}
use Rattle.moka_hist.specs.declared.records.Mode.TheVariants as mode
use Rattle.moka_hist.specs.declared.replies.Answer.TheVariants as answer
use Rattle.moka_hist.specs.declared.records.Stored.{Stored}
use Rattle.moka_hist.specs.declared.rules.Rules.{Rules}
use Rattle.moka_hist.specs.declared.tables.TableAnswer.{TableAnswer}
use Rattle.moka_hist.specs.declared.tables.TableOp.{TableOp}
use Rattle.moka_hist.specs.declared.tables.TableOp.TheVariants as op
use Rattle.moka_hist.specs.declared.tables.TableTurn.TheVariants as table
use Rattle.moka_laws.specs.Starting.{Leads}
use Rattle.moka_laws.proofs.Balanced.{in_balance, next_free}
use Rattle.moka_laws.proofs.Counting.{put_here, put_there, some_same}
use Rattle.moka_laws.proofs.Following.{IsFollowed, follow}
use Rattle.moka_laws.proofs.NoWalks.{on_calm, walking}
use Rattle.moka_laws.proofs.Outcomes.{outcomes}
use Rattle.moka_laws.proofs.OwnKeysKept.{under_own_keys}
use Rattle.moka_laws.proofs.Reached.{fresh_reached, run_reached}
use Rattle.moka_laws.proofs.Rules.{put_plans}
use Rattle.moka_laws.proofs.StepCases.{OnStep, step_cases}
use Rattle.moka_laws.proofs.Steady.{step_calls}
use Rattle.moka_laws.proofs.WalkPlans.{Apart, BeginsWith, Orderly, orderly_find, orderly_found, orderly_from, orderly_list, orderly_on, orderly_scan, orderly_choose, orderly_chosen, orderly_strike, orderly_to_strike}
use Rattle.moka_laws.proofs.Walks.{Ends, Finds, IsWalk, Lists, Scans, finds_walk, walk_is_walk, Applies, Applies_first, Chooses, Comes, Comes_not, Comes_on, Comes_to, Ends_first, Ends_turn, Gathers, Hears, IsComing, Posts, Retires, Strikes, Takes_turn, Turns, on_coming, retiring_walk}
use Rattle.moka_laws.proofs.Weights.{weigh, weigh_call}
use Rattle.moka_hist.specs.Maintenance.{carrying}

-- ---- what an access does to the lists that are begun

changed_part : {K : Type 0} (o : Option (Listed K)) (f : Listed K → Listed K) → ((l : Listed K) → (f l).part ≡ l.part) →
    option_map {T = Listed K} (λ l. l.part) (option_map {T = Listed K} f o) ≡ option_map {T = Listed K} (λ l. l.part) o
changed_part None f same = refl
changed_part (Some l) f same = ap Some (same l)

module _ {K V : Type 0} where
  -- the part of the list that the call of this number has begun
  abbrev pub part_begun : TablePart K V → ℕ → Option ℕ
  part_begun t n = option_map {T = Listed K} (λ l. l.part) (t.listings n)

  -- the operation lists keys
  abbrev IsList : TableOp K V → Type 0
  IsList (op.Keys part) = Unit {0}
  IsList _ = ⊥

  -- a step of it leaves the lists of other calls begun as they were, and those of its own, if it
  -- isn't a list
  record SameLists (n : ℕ) (o : TableOp K V) (t new : TablePart K V) : Type 0 where
    division : new.division ≡ t.division
    peak : t.peak ≤ new.peak
    others : (m : ℕ) → (n == m) ≡ false → part_begun new m ≡ part_begun t m
    own : (IsList o → ⊥) → part_begun new n ≡ part_begun t n

  module _ (eq : K → K → Bool) (n : ℕ) where
    same_lists : (o : TableOp K V) (t : TablePart K V) → SameLists n o t t
    same_lists o t = record { division = refl; peak = omega arith; others = λ m d. refl; own = λ no. refl }

    written_lists : (o : TableOp K V) (t : TablePart K V) (key : K) (stored : Stored V) → SameLists n o t (written eq n t key stored)
    written_lists o t key stored = record {
      division = refl;
      peak = omega arith;
      others = λ m d. changed_part (t.listings m) _ (λ l. refl);
      own = λ no. changed_part (t.listings n) _ (λ l. refl);
    }

    removed_lists : (o : TableOp K V) (t : TablePart K V) (key : K) → SameLists n o t (removed eq n t key)
    removed_lists o t key = record {
      division = refl;
      peak = omega arith;
      others = λ m d. changed_part (t.listings m) _ (λ l. refl);
      own = λ no. changed_part (t.listings n) _ (λ l. refl);
    }

    either_lists : (o : TableOp K V) (t a b : TablePart K V) (out : Option (K × Stored V)) → SameLists n o t a → SameLists n o t b → SameLists n o t (by_pair out a b)
    either_lists o t a b None h k = k
    either_lists o t a b (Some pair) h k = h

    begun_lists : (o : TableOp K V) (t : TablePart K V) → SameLists n o t (begun t n o)
    begun_lists (op.Get key) t = record { division = refl; peak = omega arith; others = λ m d. refl; own = λ no. refl }
    begun_lists (op.InsertOrModify key stored) t = record { division = refl; peak = omega arith; others = λ m d. refl; own = λ no. refl }
    begun_lists (op.InsertIfAbsent key stored) t = record { division = refl; peak = omega arith; others = λ m d. refl; own = λ no. refl }
    begun_lists (op.RemoveIf key stamp) t = record { division = refl; peak = omega arith; others = λ m d. refl; own = λ no. refl }
    begun_lists (op.Keys part) t = record {
      division = refl;
      peak = omega arith;
      others = λ m d. ap (option_map {T = Listed K} (λ l. l.part)) (put_there t.listings n _ m d);
      own = λ no. absurd (no tt);
    }

    operation_lists : (o : TableOp K V) (answer : TableAnswer K V) (t new : TablePart K V) → Operates eq n t o answer new → SameLists n o t new
    operation_lists (op.Get key) answer t new h = subst (SameLists n (op.Get key) t) (sym h.1) (same_lists _ t)
    operation_lists (op.InsertOrModify key stored) answer t new h =
        subst (SameLists n (op.InsertOrModify key stored) t) (sym h.1) (written_lists _ t key stored)
    operation_lists (op.InsertIfAbsent key stored) answer t new h = subst (SameLists n (op.InsertIfAbsent key stored) t) (sym h.1)
        (either_lists _ t t (written eq n t key stored) (t.stored key) (same_lists _ t) (written_lists _ t key stored))
    operation_lists (op.RemoveIf key stamp) answer t new h = subst (SameLists n (op.RemoveIf key stamp) t) (sym h.1)
        (either_lists _ t (removed eq n t key) t (taken_by stamp (t.stored key)) (removed_lists _ t key) (same_lists _ t))
    operation_lists (op.Keys part) answer t new h = subst (SameLists n (op.Keys part) t) (sym h.5) (record {
      division = refl;
      peak = omega arith;
      others = λ m d. ap (option_map {T = Listed K} (λ l. l.part)) (put_there t.listings n None m d);
      own = λ no. absurd (no tt);
    })

    both_lists : (o : TableOp K V) (t u v : TablePart K V) → SameLists n o t u → SameLists n o u v → SameLists n o t v
    both_lists o t u v h k = record {
      division = k.division ∙ h.division;
      peak = omega (arith, h.peak, k.peak);
      others = λ m d. k.others m d ∙ h.others m d;
      own = λ no. k.own no ∙ h.own no;
    }

module _ {K V E : Type 0} where
  -- the access lists keys
  abbrev ListsKeys : Access K V E → Type 0
  ListsKeys (step.On_table o) = IsList o
  ListsKeys (step.On_desk made) = ⊥

module _ {K V E : Type 0} (eq : K → K → Bool) where
  record Lets (n : ℕ) (a : Access K V E) (t new : TablePart K V) : Type 0 where
    division : new.division ≡ t.division
    peak : t.peak ≤ new.peak
    others : (m : ℕ) → (n == m) ≡ false → part_begun new m ≡ part_begun t m
    own : (ListsKeys a → ⊥) → part_begun new n ≡ part_begun t n

  lets : (n : ℕ) (o : TableOp K V) (t new : TablePart K V) → SameLists n o t new → Lets n (step.On_table o) t new
  lets n o t new h = record { division = h.division; peak = h.peak; others = h.others; own = h.own }

  access_lets : (n : ℕ) (w new : World K V E) (a : Access K V E) (g : Got K V E) → Gets eq n w a g new → Lets n a w.table new.table
  access_lets n w new (step.On_table o) (got.Table table.Going) gets =
      subst (λ (v : World K V E). Lets n (step.On_table o) w.table v.table) (sym gets.1)
      (lets n o w.table (begun w.table n o) (begun_lists eq n o w.table))
  access_lets n w new (step.On_table o) (got.Table (table.Decided answer)) gets =
      subst (λ (v : World K V E). Lets n (step.On_table o) w.table v.table) (sym gets.2)
      (lets n o w.table gets.0 (both_lists eq n o w.table (begun w.table n o) gets.0 (begun_lists eq n o w.table)
      (operation_lists eq n o answer (begun w.table n o) gets.0 gets.1)))
  access_lets n w new (step.On_desk made) (got.Desk found) gets =
      subst (λ (v : World K V E). Lets n (step.On_desk made) w.table v.table) (sym gets.1)
      (record { division = refl; peak = omega arith; others = λ m d. refl; own = λ no. refl })
  access_lets n w new _ _ gets = absurd gets

module _ {K V E : Type 0} where
  -- ---- of a call

  -- a list of this part, if one is begun, is one that the call makes between two steps
  abbrev pub BegunBy : Option ℕ → Option (Call K V E) → Type 0
  BegunBy None left = Unit {0}
  BegunBy (Some part) None = ⊥
  BegunBy (Some part) (Some c) = (c.mode ≡ mode.Mid) × BeginsWith part c.plan

  -- a plan without a list has none begun
  pub none_begun : (o : Option ℕ) (c : Call K V E) → ((part : ℕ) → BeginsWith part c.plan → ⊥) → BegunBy o (Some c) → o ≡ None
  none_begun None c other h = refl
  none_begun (Some part) c other h = absurd (other part h.1)

  -- a list that is begun or goes on is of the part that is first to list
  pub begun_named : (t : TablePart K V) (n : ℕ) (c : Call K V E) (part : ℕ) (rest : List (Item K V E)) → c.plan ≡ plan.List_keys part ∷ rest →
      BegunBy (part_begun t n) (Some c) → (l : Listed K) → (begun t n (op.Keys part)).listings n ≡ Some l → l.part ≡ part
  begun_named t n c part rest e begins l is =
      ap (λ (v : Listed K). v.part) (some_same (sym is ∙ put_here t.listings n _)) ∙ by (t.listings n) begins
    where
      by : (o : Option (Listed K)) → BegunBy (option_map {T = Listed K} (λ v. v.part) o) (Some c) → (unwrap_or o (listed_now t part)).part ≡ part
      by None h = refl
      by (Some v) h = subst (BeginsWith v.part) e h.1

  calm_begins : (p : List (Item K V E)) → weigh walking p ≡ 0 → (part : ℕ) → BeginsWith part p → ⊥
  calm_begins (plan.List_keys q ∷ rest) none part h = omega (arith, none)
  calm_begins [] none part h = h
  calm_begins (_ ∷ rest) none part h = h

module _ {K V E : Type 0} (eq : K → K → Bool) where
  -- the call doesn't walk, or its walk is orderly, or it is to come
  abbrev pub GoesWell : TablePart K V → List (Item K V E) → Type 0
  GoesWell t p =
      (weigh walking p ≡ 0) ⊎ ((IsWalk p × Orderly eq t p) ⊎ ((parts : ℕ) × IsComing parts p × (parts ≡ t.division.parts)))

  abbrev pub LeftWell : TablePart K V → Option (Call K V E) → Type 0
  LeftWell t None = Unit {0}
  LeftWell t (Some c) = GoesWell t c.plan

  well_on : (t u : TablePart K V) (p : List (Item K V E)) → u.division ≡ t.division → t.peak ≤ u.peak → GoesWell t p → GoesWell u p
  well_on t u p same more (inl calm) = inl calm
  well_on t u p same more (inr (inl h)) = inr (inl (h.0, orderly_on eq t u p same more h.1))
  well_on t u p same more (inr (inr h)) = inr (inr (h.0, h.1, h.2 ∙ ap (λ (d : Division K). d.parts) (sym same)))

  goes_well : (t : TablePart K V) (c : Call K V E) (p : List (Item K V E)) → IsWalk p → Orderly eq t p → LeftWell t (goes c p).left
  goes_well t c p Ends o = tt
  goes_well t c p Retires o = inr (inl (Retires, o))
  goes_well t c p (Chooses parts) o = inr (inl (Chooses parts, o))
  goes_well t c p (Lists part rest walk) o = inr (inl (Lists part rest walk, o))
  goes_well t c p (Finds key rest walk) o = inr (inl (Finds key rest walk, o))
  goes_well t c p (Scans there found rest walk) o = inr (inl (Scans there found rest walk, o))
  goes_well t c p (Strikes there found rest walk) o = inr (inl (Strikes there found rest walk, o))

  -- what is to come isn't a walk yet
  coming_not : (parts : ℕ) (p : List (Item K V E)) → IsComing parts p → IsWalk p → ⊥
  coming_not parts p Gathers w = elim w [ ]
  coming_not parts p (Hears number held) w = elim w [ ]
  coming_not parts p (Posts held) w = elim w [ ]
  coming_not parts p (Takes_turn held) w = elim w [ ]
  coming_not parts p (Applies_first held) w = elim w [ ]
  coming_not parts p (Ends_first held) w = elim w [ ]
  coming_not parts p Turns w = elim w [ ]
  coming_not parts p Applies w = elim w [ ]
  coming_not parts p Ends_turn w = elim w [ ]

  pub orderly_apart : (t : TablePart K V) (p : List (Item K V E)) → IsWalk p → GoesWell t p → Apart eq t.division p
  orderly_apart t p Ends h = tt
  orderly_apart t p Retires h = tt
  orderly_apart t p (Chooses parts) h = tt
  orderly_apart t p (Strikes there stored rest walk) (inl calm) = absurd (omega (arith, calm))
  orderly_apart t p (Lists part rest walk) (inl calm) = absurd (omega (arith, calm))
  orderly_apart t p (Finds key rest walk) (inl calm) = absurd (omega (arith, calm))
  orderly_apart t p (Scans there stored rest walk) (inl calm) = absurd (omega (arith, calm))
  orderly_apart t p walk (inr (inl h)) = h.1.apart
  orderly_apart t p walk (inr (inr h)) = absurd (coming_not h.0 p h.1 walk)

  calm_well : (t : TablePart K V) (left : Option (Call K V E)) → weigh_call walking left ≡ 0 → LeftWell t left
  calm_well t None h = tt
  calm_well t (Some c) h = inl h

  -- ---- what a step makes of it

  module _ (laws : IsEquivalence eq) (w : World K V E) (n : ℕ) (c : Call K V E) (divides : Divides eq w.table.division)
      (under : (q : K) (p : K × Stored V) → w.table.stored q ≡ Some p → eq p.0 q ≡ true)
      (begins : BegunBy (part_begun w.table n) (Some c)) where
    -- where no list is begun, whatever is left of the call does
    no_list : (left : Option (Call K V E)) (o : Option ℕ) → o ≡ None → BegunBy o left
    no_list left o e = subst (λ v. BegunBy v left) (sym e) tt

    record Made (new : World K V E) (next : Next K V E) : Type 0 where
      left : LeftWell new.table next.left
      begun : BegunBy (part_begun new.table n) next.left

    -- a walk that looks up or judges has no list begun
    not_begun : (item : Item K V E) (rest : List (Item K V E)) → c.plan ≡ item ∷ rest → ((part : ℕ) → BeginsWith part (item ∷ rest) → ⊥) →
        part_begun w.table n ≡ None
    not_begun item rest e other = none_begun (part_begun w.table n) c (λ part h. other part (subst (BeginsWith part) e h)) begins

    on_walk : (p : List (Item K V E)) → c.plan ≡ p → IsWalk p → Orderly eq w.table p → OnStep eq Made w n c p
    on_walk p e Ends o = outcomes eq Made w n c (plan.Reply answer.End) [] (record {
      left = tt;
      begun = no_list None (part_begun w.table n) (not_begun (plan.Reply answer.End) [] e (λ part h. h));
    })
    on_walk p e (Lists part rest walk) o = outcomes eq Made w n c (plan.List_keys part) rest (
      λ more. record {
        left = inr (inl (subst IsWalk (sym e) (Lists part rest walk), subst (Orderly eq _) (sym e) (orderly_on eq w.table _ p refl (omega arith) o)));
        begun = subst (λ v. BegunBy v (stays c).left)
            (sym (ap (option_map {T = Listed K} (λ l. l.part)) (put_here w.table.listings n _) ∙
            ap Some (begun_named w.table n c part rest e begins (unwrap_or (w.table.listings n) (listed_now w.table part)) (put_here w.table.listings n _))))
            (refl, subst (BeginsWith part) (sym e) refl);
      },
      λ listed keys is gives. record {
        left = goes_well _ c (map plan.Find keys ++ rest) (finds_walk keys rest walk)
            (orderly_on eq (begun w.table n (op.Keys part)) _ (map plan.Find keys ++ rest) refl (omega arith)
            (orderly_list eq (begun w.table n (op.Keys part)) part keys rest listed (begun_named w.table n c part rest e begins listed is)
            (orderly_on eq w.table _ p refl (omega arith) o) gives));
        begun = subst (λ v. BegunBy v (goes c (map plan.Find keys ++ rest)).left)
            (sym (ap (option_map {T = Listed K} (λ l. l.part)) (put_here (begun w.table n (op.Keys part)).listings n None))) tt;
      },
    )
    on_walk p e (Finds key rest walk) o =
        let none : part_begun w.table n ≡ None = not_begun (plan.Find key) rest e (λ part h. h) in
        outcomes eq Made w n c (plan.Find key) rest (
          λ more. record {
            left = inr (inl (subst IsWalk (sym e) (Finds key rest walk), subst (Orderly eq _) (sym e) (orderly_on eq w.table _ p refl (omega arith) o)));
            begun = no_list (stays c).left (part_begun w.table n) none;
          },
          λ gone. record {
            left = goes_well w.table c rest walk (orderly_find eq w.table key rest o);
            begun = no_list (goes c rest).left (part_begun w.table n) none;
          },
          λ there stored some free. record {
            left = inr (inl (Scans there stored rest walk, orderly_found eq w.table laws divides key there stored rest (under key (there, stored) some) o));
            begun = no_list (goes c (plan.Scan there stored ∷ rest)).left (part_begun w.table n) none;
          },
          λ there stored ids some is. record {
            left = inr (inl (
              Strikes there stored rest walk,
              orderly_to_strike eq w.table there stored rest
                  (orderly_found eq w.table laws divides key there stored rest (under key (there, stored) some) o),
            ));
            begun = no_list (goes c (plan.Strike there stored ∷ rest)).left (part_begun w.table n) none;
          },
        )
    on_walk p e (Scans there found rest walk) o =
        let none : part_begun w.table n ≡ None = not_begun (plan.Scan there found) rest e (λ part h. h) in
        outcomes eq Made w n c (plan.Scan there found) rest (
          λ seen. record {
            left = inr (inl (walk, orderly_scan eq w.table there found rest o));
            begun = no_list (gives c there found.value rest).left (part_begun w.table n) none;
          },
          λ unseen. record {
            left = goes_well w.table c rest walk (orderly_scan eq w.table there found rest o);
            begun = no_list (goes c rest).left (part_begun w.table n) none;
          },
        )
    on_walk p e Retires o = outcomes eq Made w n c plan.Retire [] (record {
      left = tt;
      begun = no_list None (part_begun w.table n) (not_begun plan.Retire [] e (λ part h. h));
    })
    on_walk p e (Chooses parts) o =
        let none : part_begun w.table n ≡ None = not_begun (plan.Candidates parts) [] e (λ part h. h) in
        outcomes eq Made w n c (plan.Candidates parts) [] (
          λ over. record { left = tt; begun = no_list None (part_begun w.table n) none },
          λ id more some. record {
            left = goes_well w.table (carrying c (id ∷ more)) (lists_from 0 parts (plan.Retire ∷ [])) (retiring_walk parts)
                (orderly_chosen eq w.table parts o);
            begun = no_list (goes (carrying c (id ∷ more)) (lists_from 0 parts (plan.Retire ∷ []))).left (part_begun w.table n) none;
          },
        )
    on_walk p e (Strikes there found rest walk) o =
        let none : part_begun w.table n ≡ None = not_begun (plan.Strike there found) rest e (λ part h. h) in
        outcomes eq Made w n c (plan.Strike there found) rest (record {
          left = goes_well w.table (carrying c _) rest walk (orderly_strike eq w.table there found rest o);
          begun = no_list (goes (carrying c _) rest).left (part_begun w.table n) none;
        })

    -- maintenance that is to walk lists nothing yet
    comes_well : (parts : ℕ) (p : List (Item K V E)) → c.plan ≡ p → IsComing parts p → parts ≡ w.table.division.parts → (next : Next K V E) →
        Comes parts c next → LeftWell w.table next.left
    comes_well parts p e coming same next (Comes_on rest more) = on more
      where
        on : {q : List (Item K V E)} → IsComing parts q → LeftWell w.table (goes c q).left
        on Gathers = inr (inr (parts, Gathers, same))
        on (Hears number held) = inr (inr (parts, Hears number held, same))
        on (Posts held) = inr (inr (parts, Posts held, same))
        on (Takes_turn held) = inr (inr (parts, Takes_turn held, same))
        on (Applies_first held) = inr (inr (parts, Applies_first held, same))
        on (Ends_first held) = inr (inr (parts, Ends_first held, same))
        on Turns = inr (inr (parts, Turns, same))
        on Applies = inr (inr (parts, Applies, same))
        on Ends_turn = inr (inr (parts, Ends_turn, same))
    comes_well parts p e coming same next Comes_to = inr (inl (Chooses parts, orderly_choose eq w.table parts (omega (arith, same, divides.few))))
    comes_well parts p e coming same next Comes_not = inr (inr (parts, subst (IsComing parts) (sym e) coming, same))

    coming_begins : (parts : ℕ) (p : List (Item K V E)) → IsComing parts p → (part : ℕ) → BeginsWith part p → ⊥
    coming_begins parts p Gathers part h = h
    coming_begins parts p (Hears number held) part h = h
    coming_begins parts p (Posts held) part h = h
    coming_begins parts p (Takes_turn held) part h = h
    coming_begins parts p (Applies_first held) part h = h
    coming_begins parts p (Ends_first held) part h = h
    coming_begins parts p Turns part h = h
    coming_begins parts p Applies part h = h
    coming_begins parts p Ends_turn part h = h

    on_coming_well : (parts : ℕ) (p : List (Item K V E)) → c.plan ≡ p → IsComing parts p → parts ≡ w.table.division.parts → OnStep eq Made w n c p
    on_coming_well parts p e coming same =
        let none : part_begun w.table n ≡ None =
        none_begun (part_begun w.table n) c (λ part h. coming_begins parts p coming part (subst (BeginsWith part) e h)) begins in
        on_coming eq Made w n c parts p coming (λ d spares next comes. record {
          left = comes_well parts p e coming same next comes;
          begun = no_list next.left (part_begun w.table n) none;
        })

-- ---- fresh calls

module _ {K V E : Type 0} (eq : K → K → Bool) (t : TablePart K V) where
  loads_well : (b : Bool) (sought : Sought K) → GoesWell {E = E} eq t (load_plan b sought)
  loads_well true sought = inl refl
  loads_well false sought = inl refl

  out_well : (b : Bool) (removal : Removal K) (key : K) →
      GoesWell {E = E} eq t (plan.Drain ∷ under_lock b key (plan.Moment (plan.To_take_out removal key) ∷ []))
  out_well true removal key = inl refl
  out_well false removal key = inl refl

  iter_well : Divides eq t.division → (b : Bool) → GoesWell {E = E} eq t (iter_plan b t.division.parts)
  iter_well divides true = inl refl
  iter_well divides false = inr (inl (walk_is_walk 0 t.division.parts, orderly_from eq t divides))

  fresh_well : Divides eq t.division → (rules : Rules) (s : Start K V) → GoesWell {E = E} eq t (plan_of t.division.parts rules s)
  fresh_well divides rules (start.Get key) = by (is_disabled rules)
    where
      by : (b : Bool) → GoesWell {E = E} eq t (get_plan b key)
      by true = inl refl
      by false = inl refl
  fresh_well divides rules (start.Insert key value) = by (is_disabled rules)
    where
      by : (b : Bool) → GoesWell {E = E} eq t (insert_plan b rules key value)
      by true = inl refl
      by false = put_plans (GoesWell {E = E} eq t) rules key value (plan.Reply answer.Done ∷ []) (inl refl) (inl refl)
  fresh_well divides rules (start.GetWith key replace) = loads_well (is_disabled rules) (seek kind.GetWith key replace)
  fresh_well divides rules (start.Optional key) = loads_well (is_disabled rules) (seek kind.Optional key None)
  fresh_well divides rules (start.Try key) = loads_well (is_disabled rules) (seek kind.Try key None)
  fresh_well divides rules (start.OrInsert key value) = by (is_disabled rules)
    where
      by : (b : Bool) → GoesWell {E = E} eq t (or_insert_plan b key value)
      by true = inl refl
      by false = inl refl
  fresh_well divides rules (start.Invalidate key) = out_well rules.listener plan.To_invalidate key
  fresh_well divides rules (start.Remove key) = out_well rules.listener plan.To_remove key
  fresh_well divides rules (start.Evict key stamp cause) = by rules.listener
    where
      by : (b : Bool) → GoesWell {E = E} eq t (under_lock b key (plan.Get (plan.To_evict key stamp cause) key ∷ []))
      by true = inl refl
      by false = inl refl
  fresh_well divides rules start.Iter = iter_well divides (is_disabled rules)
  fresh_well divides rules start.Pending = by (is_disabled rules)
    where
      by : (b : Bool) → GoesWell {E = E} eq t (pending_plan b t.division.parts)
      by true = inl refl
      by false = inr (inr (t.division.parts, Gathers, refl))
  fresh_well divides rules _ = inl refl

-- ---- of a state

-- what isn't live has no list begun
none_left : (K V E : Type 0) (o : Option ℕ) → BegunBy {K = K} {V = V} {E = E} o None → o ≡ None
none_left K V E None h = refl
none_left K V E (Some part) h = absurd h

module _ {K V E : Type 0} (eq : K → K → Bool) where
  pub record AreWalking (s : State K V E) : Type 0 where
    pub reached : IsReached eq s
    pub divides : Divides eq s.world.table.division
    pub begun : (n : ℕ) → BegunBy (part_begun s.world.table n) (s.calls n)
    pub well : (n : ℕ) → LeftWell eq s.world.table (s.calls n)

  no_item_lists : (n : ℕ) (ids : Option (List (ℕ × ℕ))) (item : Item K V E) → walking item ≡ 0 → ListsKeys (access_for n ids item) → ⊥
  no_item_lists n ids (plan.List_keys part) none h = omega (arith, none)
  no_item_lists n ids _ none h = h

  no_plan_lists : (n : ℕ) (rules : Rules) (how : Mode) (p : List (Item K V E)) (aborts : ℕ) (ids : Option (List (ℕ × ℕ))) → weigh walking p ≡ 0 →
      ListsKeys (access_of n (record { rules = rules; mode = how; plan = p; aborts = aborts; carried = ids })) → ⊥
  no_plan_lists n rules how [] aborts ids none h = h
  no_plan_lists n rules how (item ∷ rest) aborts ids none h = no_item_lists n ids item (omega (arith, none)) h

  -- nor does maintenance before it walks
  coming_lists : (n parts : ℕ) (rules : Rules) (how : Mode) (p : List (Item K V E)) (aborts : ℕ) (ids : Option (List (ℕ × ℕ))) → IsComing parts p →
      ListsKeys (access_of n (record { rules = rules; mode = how; plan = p; aborts = aborts; carried = ids })) → ⊥
  coming_lists n parts rules how p aborts ids Gathers h = h
  coming_lists n parts rules how p aborts ids (Hears number held) h = h
  coming_lists n parts rules how p aborts ids (Posts held) h = h
  coming_lists n parts rules how p aborts ids (Takes_turn held) h = h
  coming_lists n parts rules how p aborts ids (Applies_first held) h = h
  coming_lists n parts rules how p aborts ids (Ends_first held) h = h
  coming_lists n parts rules how p aborts ids Turns h = h
  coming_lists n parts rules how p aborts ids Applies h = h
  coming_lists n parts rules how p aborts ids Ends_turn h = h

  -- no step changes how the table divides its keys
  pub division_stays : (s t : State K V E) (n : ℕ) (turn : Turn K V E) → Step eq s n turn t → t.world.table.division ≡ s.world.table.division
  division_stays s t n turn step =
      ap (λ (v : State K V E). v.world.table.division) step.after ∙
      (access_lets eq n s.world step.world (access_of n step.call) step.given step.gets).division

  module _ (laws : IsEquivalence eq) where
    -- what a step leaves of its own call
    own_step : (s t : State K V E) (n : ℕ) (turn : Turn K V E) → AreWalking s → Step eq s n turn t →
        LeftWell eq t.world.table (t.calls n) × BegunBy (part_begun t.world.table n) (t.calls n)
    own_step s t n turn i step = by (subst (LeftWell eq s.world.table) step.live (i.well n))
      where
        begins : BegunBy (part_begun s.world.table n) (Some step.call)
        begins = subst (BegunBy (part_begun s.world.table n)) step.live (i.begun n)

        let_by : Lets eq n (access_of n step.call) s.world.table t.world.table
        let_by = subst (λ (v : State K V E). Lets eq n (access_of n step.call) s.world.table v.world.table) (sym step.after)
            (access_lets eq n s.world step.world (access_of n step.call) step.given step.gets)

        by : GoesWell eq s.world.table step.call.plan → LeftWell eq t.world.table (t.calls n) × BegunBy (part_begun t.world.table n) (t.calls n)
        by (inl calm) =
            let left : weigh_call walking (t.calls n) ≡ 0 =
            step_cases eq (λ new next. weigh_call walking next.left ≡ 0) (λ v _. weigh_call walking (v.calls n) ≡ 0) s t n turn step
            (on_calm eq s.world n step.call step.call.plan refl calm)
            (λ w next h. ap (weigh_call walking) (put_here s.calls n next.left) ∙ h) in
            let none : part_begun t.world.table n ≡ None =
            let_by.own (no_plan_lists n step.call.rules step.call.mode step.call.plan step.call.aborts step.call.carried calm) ∙
            none_begun (part_begun s.world.table n) step.call (calm_begins step.call.plan calm) begins in
            (calm_well eq t.world.table (t.calls n) left, subst (λ v. BegunBy v (t.calls n)) (sym none) tt)
        by (inr (inl walk)) =
            step_cases eq (Made eq laws s.world n step.call i.divides (under_own_keys eq s i.reached) begins)
            (λ v _. LeftWell eq v.world.table (v.calls n) × BegunBy (part_begun v.world.table n) (v.calls n)) s t n turn step
            (on_walk eq laws s.world n step.call i.divides (under_own_keys eq s i.reached) begins step.call.plan refl walk.0 walk.1)
            (λ w next m. (
              subst (LeftWell eq w.table) (sym (put_here s.calls n next.left)) m.left,
              subst (BegunBy (part_begun w.table n)) (sym (put_here s.calls n next.left)) m.begun,
            ))
        by (inr (inr coming)) =
            step_cases eq (Made eq laws s.world n step.call i.divides (under_own_keys eq s i.reached) begins)
            (λ v _. LeftWell eq v.world.table (v.calls n) × BegunBy (part_begun v.world.table n) (v.calls n)) s t n turn step
            (on_coming_well eq laws s.world n step.call i.divides (under_own_keys eq s i.reached) begins coming.0 step.call.plan refl coming.1 coming.2)
            (λ w next m. (
              subst (LeftWell eq w.table) (sym (put_here s.calls n next.left)) m.left,
              subst (BegunBy (part_begun w.table n)) (sym (put_here s.calls n next.left)) m.begun,
            ))

    walking_step : (s t : State K V E) (n : ℕ) (turn : Turn K V E) → Leads eq s t → AreWalking s → Step eq s n turn t → AreWalking t
    walking_step s t n turn led i step = record {
      reached = run_reached eq s t led.events led.replies i.reached led.run;
      divides = subst (Divides eq) (sym let_by.division) i.divides;
      begun = λ m. begun_by m (n == m) refl;
      well = λ m. well_by m (n == m) refl;
    }
      where
        let_by : Lets eq n (access_of n step.call) s.world.table t.world.table
        let_by = subst (λ (v : State K V E). Lets eq n (access_of n step.call) s.world.table v.world.table) (sym step.after)
            (access_lets eq n s.world step.world (access_of n step.call) step.given step.gets)

        begun_by : (m : ℕ) (b : Bool) → (n == m) ≡ b → BegunBy (part_begun t.world.table m) (t.calls m)
        begun_by m true e = subst (λ v. BegunBy (part_begun t.world.table v) (t.calls v)) (eqb-true n m e) (own_step s t n turn i step).1
        begun_by m false e =
            subst (λ v. BegunBy v (t.calls m)) (sym (let_by.others m e))
            (subst (BegunBy (part_begun s.world.table m)) (sym (step_calls eq s t n m turn e step)) (i.begun m))

        still : (o : Option (Call K V E)) → LeftWell eq s.world.table o → LeftWell eq t.world.table o
        still None h = tt
        still (Some c) h = well_on eq s.world.table t.world.table c.plan let_by.division let_by.peak h

        well_by : (m : ℕ) (b : Bool) → (n == m) ≡ b → LeftWell eq t.world.table (t.calls m)
        well_by m true e = subst (λ v. LeftWell eq t.world.table (t.calls v)) (eqb-true n m e) (own_step s t n turn i step).0
        well_by m false e = subst (LeftWell eq t.world.table) (sym (step_calls eq s t n m turn e step)) (still (s.calls m) (i.well m))

    walking_followed : IsFollowed eq AreWalking
    walking_followed = record {
      at = λ s moment on led i. record {
        reached = run_reached eq s _ led.events led.replies i.reached led.run;
        divides = i.divides;
        begun = i.begun;
        well = i.well;
      };
      start = λ s begin fits led i. record {
        reached = run_reached eq s _ led.events led.replies i.reached led.run;
        divides = i.divides;
        begun = λ m. start_begun s begin i m (s.world.desk.last + 1 == m) refl;
        well = λ m. start_well s begin i m (s.world.desk.last + 1 == m) refl;
      };
      step = walking_step;
      tell = λ s n given asked led i. record {
        reached = run_reached eq s _ led.events led.replies i.reached led.run;
        divides = i.divides;
        begun = i.begun;
        well = i.well;
      };
      hear = λ s n off running led i. record {
        reached = run_reached eq s _ led.events led.replies i.reached led.run;
        divides = i.divides;
        begun = i.begun;
        well = i.well;
      };
      drop = λ s n c live between led i. record {
        reached = run_reached eq s _ led.events led.replies i.reached led.run;
        divides = i.divides;
        begun = λ m. drop_begun s n c live between i m (n == m) refl;
        well = λ m. drop_well s n i m (n == m) refl;
      };
    }
      where
        start_begun : (s : State K V E) (begin : Start K V) → AreWalking s → (m : ℕ) (b : Bool) → (s.world.desk.last + 1 == m) ≡ b →
            BegunBy (part_begun s.world.table m) ((started s begin).calls m)
        start_begun s begin i m true e =
            let free : s.calls m ≡ None = ap s.calls (sym (eqb-true (s.world.desk.last + 1) m e)) ∙ next_free s (in_balance eq s i.reached) in
            let none : part_begun s.world.table m ≡ None = none_left K V E (part_begun s.world.table m) (subst (BegunBy (part_begun s.world.table m)) free (i.begun m)) in
            subst (λ v. BegunBy v ((started s begin).calls m)) (sym none) tt
        start_begun s begin i m false e =
            subst (BegunBy (part_begun s.world.table m)) (sym (put_there s.calls (s.world.desk.last + 1) _ m e)) (i.begun m)

        start_well : (s : State K V E) (begin : Start K V) → AreWalking s → (m : ℕ) (b : Bool) → (s.world.desk.last + 1 == m) ≡ b →
            LeftWell eq s.world.table ((started s begin).calls m)
        start_well s begin i m true e =
            subst (λ v. LeftWell eq s.world.table ((started s begin).calls v)) (eqb-true (s.world.desk.last + 1) m e)
            (subst (LeftWell eq s.world.table) (sym (put_here s.calls (s.world.desk.last + 1) _))
            (fresh_well eq s.world.table i.divides s.world.desk.rules begin))
        start_well s begin i m false e =
            subst (LeftWell eq s.world.table) (sym (put_there s.calls (s.world.desk.last + 1) _ m e)) (i.well m)

        -- a call with a list begun is between two steps, and can't be dropped
        parked : (o : Option ℕ) (c : Call K V E) → c.mode ≢ mode.Mid → BegunBy o (Some c) → BegunBy {K = K} {V = V} {E = E} o None
        parked None c between h = tt
        parked (Some part) c between h = absurd (between h.0)

        drop_begun : (s : State K V E) (n : ℕ) (c : Call K V E) → s.calls n ≡ Some c → c.mode ≢ mode.Mid → AreWalking s →
            (m : ℕ) (b : Bool) → (n == m) ≡ b → BegunBy (part_begun s.world.table m) ((dropped s n c).calls m)
        drop_begun s n c live between i m true e =
            subst (λ v. BegunBy (part_begun s.world.table v) ((dropped s n c).calls v)) (eqb-true n m e)
            (subst (BegunBy (part_begun s.world.table n)) (sym (put_here s.calls n None))
            (parked (part_begun s.world.table n) c between (subst (BegunBy (part_begun s.world.table n)) live (i.begun n))))
        drop_begun s n c live between i m false e =
            subst (BegunBy (part_begun s.world.table m)) (sym (put_there s.calls n None m e)) (i.begun m)

        drop_well : (s : State K V E) (n : ℕ) → AreWalking s → (m : ℕ) (b : Bool) → (n == m) ≡ b →
            LeftWell eq s.world.table (put_at s.calls n None m)
        drop_well s n i m true e =
            subst (λ v. LeftWell eq s.world.table (put_at s.calls n None v)) (eqb-true n m e)
            (subst (LeftWell eq s.world.table) (sym (put_here s.calls n None)) tt)
        drop_well s n i m false e = subst (LeftWell eq s.world.table) (sym (put_there s.calls n None m e)) (i.well m)

    pub in_walking : (s : State K V E) → IsReached eq s → AreWalking s
    in_walking s h = follow eq AreWalking walking_followed (fresh K V E h.division h.rules h.size h.handed) s h.events h.replies (record {
      reached = fresh_reached eq h.division h.divides h.rules h.size h.handed h.has_log;
      divides = h.divides;
      begun = λ n. tt;
      well = λ n. tt;
    }) h.run
