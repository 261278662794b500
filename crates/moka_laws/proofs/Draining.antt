-- Maintenance that runs alone leaves nothing owed, and applies what was owed.
use Rattle.std.proofs.Common.{◌≡◌, ℕ, ◌+◌, ◌<◌, ◌≤◌, ◌==◌, Bool, true, false, cond, nat_lt, List, [], ◌∷◌, ◌++◌, map, Option, Some, None, MatchBool, ◌⊎◌, inl, inr, refl, sym, ap, ◌∙◌, subst, arith}
use Rattle.std.specs.Cmp.{IsEquivalence}
use Rattle.std.specs.Option.{option_map_or}
use Rattle.std.proofs.lemmas.Bool.{eqb-true, false≢true}
use Rattle.std.proofs.lemmas.List.{map-append}
use Rattle.moka_hist.specs.Conditions.{numbers_of}
use Rattle.moka_hist.specs.Finite.{times}
use Rattle.moka_hist.specs.Maintenance.{carrying}
use Rattle.moka_hist.specs.Next.{Next, goes}
use Rattle.moka_hist.specs.Plan.{Item, is_disabled, pending_plan}
use Rattle.moka_hist.specs.Plan as plan
use Rattle.moka_hist.specs.Run.{Any, Becomes, Happens, IsReached, Refuses, at_moment, last_call, started, with_desk}
use Rattle.moka_hist.specs.State.{Call, DeskPart, State, World}
use Rattle.moka_hist.specs.Step.{Step}
use Rattle.moka_hist.specs.Telling.{is_asked}
use Rattle.moka_hist.specs.Telling.{told as tells}
use Rattle.moka_hist.specs.Visits.{number_of}
use Rattle.moka_hist.specs.declared.accesses.Turn.{Turn}
use Rattle.moka_hist.specs.declared.accesses.Turn.TheVariants as turn
use Rattle.moka_hist.specs.declared.events.Event.{Event}
use Rattle.moka_hist.specs.declared.events.Event.TheVariants as event
use Rattle.moka_hist.specs.declared.events.Told.{Told}
use Rattle.moka_hist.specs.declared.events.Told.TheVariants as told
use Rattle.moka_hist.specs.declared.replies.Answer.{Answer}
use Rattle.moka_hist.specs.declared.replies.Answer.TheVariants as answer
use Rattle.moka_hist.specs.declared.replies.Refusal.{Refusal}
use Rattle.moka_hist.specs.declared.replies.Reply.{Reply}
use Rattle.moka_hist.specs.declared.writes.Owed.{Owed}
use Rattle.moka_hist.specs.declared.writes.Write.{Write}
use Rattle.moka_laws.specs.Maintaining.{IsAside, MaintenanceDrains, RunsAlone}
use Rattle.moka_laws.specs.Maintaining as alone
use Rattle.moka_laws.proofs.Balanced.{in_balance}
use Rattle.moka_laws.proofs.Disabled.{disabled_nothing}
use Rattle.moka_laws.proofs.Lawfully.{lawfully}
use Rattle.moka_laws.proofs.Counting.{differ, put_here, put_there, times_append, times_same}
use Rattle.moka_laws.proofs.Naming.{IsIn, contains_in, in_front, in_last}
use Rattle.moka_laws.proofs.Outcomes.{outcomes}
use Rattle.moka_laws.proofs.Reached.{event_reached, step_reached}
use Rattle.moka_laws.proofs.SoundReached.{reached_sound}
use Rattle.moka_laws.proofs.StepCases.{OnStep, step_cases}
use Rattle.moka_laws.proofs.Steady.{step_last}
use Rattle.moka_laws.proofs.Walks.{Chooses, Ends, Finds, IsWalk, Lists, Retires, Scans, Strikes, Walks, Walks_carrying, Walks_free, Walks_giving, Walks_on, Walks_still, on_walk, walked}

abbrev writes_of : List Owed → List Write
writes_of owed = map (λ o. o.write) owed

-- the write is logged or applied, or owed as well
abbrev Stands : List Write → List Write → Write → Type 0
Stands log applied x = IsIn log x ⊎ IsIn applied x

abbrev Waits : List Owed → List Write → List Write → Write → Type 0
Waits owed log applied x = IsIn (writes_of owed) x ⊎ Stands log applied x

moved_on : (log rest applied : List Write) (y : Write) → log ≡ y ∷ rest → (x : Write) → Stands log applied x → Stands rest (applied ++ y ∷ []) x
moved_on log rest applied y e x (inl l) = by (subst (λ v. IsIn v x) e l)
  where
    by : IsIn (y ∷ rest) x → Stands rest (applied ++ y ∷ []) x
    by (inl same) = inr (in_last applied x y same)
    by (inr later) = inl later
moved_on log rest applied y e x (inr a) = inr (in_front applied x y a)

module _ (all : List Write) where
  abbrev AllWait : List Owed → List Write → List Write → Type 0
  AllWait owed log applied = (x : Write) → IsIn all x → Waits owed log applied x

  -- or it is this one, which the call holds
  abbrev AllWaitOr : Write → List Owed → List Write → List Write → Type 0
  AllWaitOr held owed log applied = (x : Write) → IsIn all x → Waits owed log applied x ⊎ (held ≡ x)

  abbrev AllStand : List Write → List Write → Type 0
  AllStand log applied = (x : Write) → IsIn all x → Stands log applied x

  abbrev AllApplied : List Write → Type 0
  AllApplied applied = (x : Write) → IsIn all x → IsIn applied x

  abbrev Finished : List Owed → List Write → Type 0
  Finished owed applied = (owed ≡ []) × AllApplied applied

  -- ---- what each item does to the writes

  none_owed : (owed : List Owed) (log applied : List Write) → owed ≡ [] → AllWait owed log applied → AllStand log applied
  none_owed owed log applied none waits x i = by (waits x i)
    where
      by : Waits owed log applied x → Stands log applied x
      by (inl o) = absurd (subst (λ v. IsIn (writes_of v) x) none o)
      by (inr stands) = stands

  took_up : (owed rest : List Owed) (log applied : List Write) (held : Write) (number : Option ℕ) → owed ≡ record { write = held; notice = number } ∷ rest →
      AllWait owed log applied → AllWaitOr held rest log applied
  took_up owed rest log applied held number e waits x i = by (waits x i)
    where
      first : IsIn (held ∷ writes_of rest) x → Waits rest log applied x ⊎ (held ≡ x)
      first (inl same) = inr same
      first (inr o) = inl (inl o)

      by : Waits owed log applied x → Waits rest log applied x ⊎ (held ≡ x)
      by (inl o) = first (subst (λ v. IsIn (writes_of v) x) e o)
      by (inr stands) = inl (inr stands)

  has_posted : (owed : List Owed) (log applied : List Write) (held : Write) → AllWaitOr held owed log applied → AllWait owed (log ++ held ∷ []) applied
  has_posted owed log applied held waits x i = by (waits x i)
    where
      by : Waits owed log applied x ⊎ (held ≡ x) → Waits owed (log ++ held ∷ []) applied x
      by (inl (inl o)) = inl o
      by (inl (inr (inl l))) = inr (inl (in_front log x held l))
      by (inl (inr (inr a))) = inr (inr a)
      by (inr same) = inr (inl (in_last log x held same))

  moved_or : (held : Write) (owed : List Owed) (log rest applied : List Write) (y : Write) → log ≡ y ∷ rest → AllWaitOr held owed log applied →
      AllWaitOr held owed rest (applied ++ y ∷ [])
  moved_or held owed log rest applied y e waits x i = by (waits x i)
    where
      by : Waits owed log applied x ⊎ (held ≡ x) → Waits owed rest (applied ++ y ∷ []) x ⊎ (held ≡ x)
      by (inl (inl o)) = inl (inl o)
      by (inl (inr stands)) = inl (inr (moved_on log rest applied y e x stands))
      by (inr same) = inr same

  all_applied : (log applied : List Write) → log ≡ [] → AllStand log applied → AllApplied applied
  all_applied log applied none stand x i = by (stand x i)
    where
      by : Stands log applied x → IsIn applied x
      by (inl l) = absurd (subst (λ v. IsIn v x) none l)
      by (inr a) = a

module _ {K V E : Type 0} (parts : ℕ) (all : List Write) where
  -- how far maintenance has come with these writes
  data Drains (owed : List Owed) (log applied : List Write) : List (Item K V E) → Type 0 where
    Gathering : AllWait all owed log applied → Drains owed log applied (pending_plan false parts)
    Hearing : (number : ℕ) (held : Write) → AllWaitOr all held owed log applied →
        Drains owed log applied (plan.Ended number ∷ plan.Post held ∷ pending_plan false parts)
    Posting : (held : Write) → AllWaitOr all held owed log applied → Drains owed log applied (plan.Post held ∷ pending_plan false parts)
    Turning_first : (held : Write) → AllWaitOr all held owed log applied →
        Drains owed log applied (plan.Turn ∷ plan.Apply ∷ plan.End ∷ plan.Post held ∷ pending_plan false parts)
    Applying_first : (held : Write) → AllWaitOr all held owed log applied →
        Drains owed log applied (plan.Apply ∷ plan.End ∷ plan.Post held ∷ pending_plan false parts)
    Ending_first : (held : Write) → AllWaitOr all held owed log applied →
        Drains owed log applied (plan.End ∷ plan.Post held ∷ pending_plan false parts)
    Turning : owed ≡ [] → AllStand all log applied → Drains owed log applied (plan.Turn ∷ plan.Apply ∷ plan.End ∷ plan.Candidates parts ∷ [])
    Applying : owed ≡ [] → AllStand all log applied → Drains owed log applied (plan.Apply ∷ plan.End ∷ plan.Candidates parts ∷ [])
    Ending : Finished all owed applied → Drains owed log applied (plan.End ∷ plan.Candidates parts ∷ [])
    Over : Finished all owed applied → (p : List (Item K V E)) → IsWalk p → Drains owed log applied p
    -- the cache is disabled, so that nothing was owed
    Idling : Finished all owed applied → Drains owed log applied (plan.Reply answer.Done ∷ [])

  abbrev DrainsIf : DeskPart K V E → Option (Call K V E) → Type 0
  DrainsIf d None = Finished all d.owed d.applied
  DrainsIf d (Some c) = Drains d.owed d.log d.applied c.plan

  -- ---- a step of it

  record Went (new : World K V E) (next : Next K V E) : Type 0 where
    over : (a : Answer K V E) → next.turn ≡ turn.Answer a → next.left ≡ None
    left : DrainsIf new.desk next.left

  goes_over : (new : World K V E) (c : Call K V E) (p : List (Item K V E)) → IsWalk p → Finished all new.desk.owed new.desk.applied → Went new (goes c p)
  goes_over new c p Ends done = record { over = λ a e. refl; left = done }
  goes_over new c p Retires done = record { over = λ a e. cc; left = Over done _ Retires }
  goes_over new c p (Chooses most) done = record { over = λ a e. cc; left = Over done _ (Chooses most) }
  goes_over new c p (Lists part rest walk) done = record { over = λ a e. cc; left = Over done _ (Lists part rest walk) }
  goes_over new c p (Finds key rest walk) done = record { over = λ a e. cc; left = Over done _ (Finds key rest walk) }
  goes_over new c p (Scans there found rest walk) done = record { over = λ a e. cc; left = Over done _ (Scans there found rest walk) }
  goes_over new c p (Strikes there found rest walk) done = record { over = λ a e. cc; left = Over done _ (Strikes there found rest walk) }

  walks_over : (new : World K V E) (c : Call K V E) → IsWalk c.plan → Finished all new.desk.owed new.desk.applied → (next : Next K V E) → Walks c next →
      Went new next
  walks_over new c walk done next (Walks_on rest more) = goes_over new c rest more done
  walks_over new c walk done next Walks_still = record { over = λ a e. cc; left = Over done _ walk }
  walks_over new c walk done next (Walks_giving key value rest more) = record { over = λ a e. cc; left = Over done _ more }
  walks_over new c walk done next (Walks_carrying ids rest more) = goes_over new (carrying c ids) rest more done
  walks_over new c walk done next Walks_free = record { over = λ a e. refl; left = done }

  module _ (eq : K → K → Bool) (w : World K V E) (n : ℕ) (c : Call K V E) where
    abbrev At : List (Item K V E) → Type 0
    At p = Drains w.desk.owed w.desk.log w.desk.applied p

    on_drains : (p : List (Item K V E)) → c.plan ≡ p → At p → OnStep eq Went w n c p
    on_drains p e (Gathering waits) =
        outcomes eq Went w n c plan.Drain (plan.Turn ∷ plan.Apply ∷ plan.End ∷ plan.Candidates parts ∷ []) (
          λ none. record { over = λ a f. cc; left = Turning none (none_owed all w.desk.owed w.desk.log w.desk.applied none waits) },
          λ y ys is. record { over = λ a f. cc; left = Posting y (took_up all w.desk.owed ys w.desk.log w.desk.applied y None is waits) },
          λ y number ys is.
              record { over = λ a f. cc; left = Hearing number y (took_up all w.desk.owed ys w.desk.log w.desk.applied y (Some number) is waits) },
        )
    on_drains p e (Hearing number held waits) = outcomes eq Went w n c (plan.Ended number) (plan.Post held ∷ pending_plan false parts) (
      λ ended. record { over = λ a f. cc; left = Posting held waits },
      λ runs. record { over = λ a f. cc; left = subst At (sym e) (Hearing number held waits) },
    )
    on_drains p e (Posting held waits) = outcomes eq Went w n c (plan.Post held) (pending_plan false parts) (
      λ room. record { over = λ a f. cc; left = Gathering (has_posted all w.desk.owed w.desk.log w.desk.applied held waits) },
      λ full. record { over = λ a f. cc; left = Turning_first held waits },
    )
    on_drains p e (Turning_first held waits) =
        outcomes eq Went w n c plan.Turn (plan.Apply ∷ plan.End ∷ plan.Post held ∷ pending_plan false parts) (
          λ free. record { over = λ a f. cc; left = Applying_first held waits },
          λ busy. record { over = λ a f. cc; left = subst At (sym e) (Turning_first held waits) },
        )
    on_drains p e (Applying_first held waits) = outcomes eq Went w n c plan.Apply (plan.End ∷ plan.Post held ∷ pending_plan false parts) (
      λ none. record { over = λ a f. cc; left = Ending_first held waits },
      λ y ys is. record { over = λ a f. cc; left = Applying_first held (moved_or all held w.desk.owed w.desk.log ys w.desk.applied y is waits) },
    )
    on_drains p e (Ending_first held waits) = outcomes eq Went w n c plan.End (plan.Post held ∷ pending_plan false parts)
        (record { over = λ a f. cc; left = Posting held waits })
    on_drains p e (Turning none stand) = outcomes eq Went w n c plan.Turn (plan.Apply ∷ plan.End ∷ plan.Candidates parts ∷ []) (
      λ free. record { over = λ a f. cc; left = Applying none stand },
      λ busy. record { over = λ a f. cc; left = subst At (sym e) (Turning none stand) },
    )
    on_drains p e (Applying none stand) = outcomes eq Went w n c plan.Apply (plan.End ∷ plan.Candidates parts ∷ []) (
      λ empty. record { over = λ a f. cc; left = Ending (none, all_applied all w.desk.log w.desk.applied empty stand) },
      λ y ys is. record { over = λ a f. cc; left = Applying none (λ x i. moved_on w.desk.log ys w.desk.applied y is x (stand x i)) },
    )
    on_drains p e (Ending done) = outcomes eq Went w n c plan.End (plan.Candidates parts ∷ [])
        (record { over = λ a f. cc; left = Over done _ (Chooses parts) })
    on_drains p e (Over done q walk) = on_walk eq Went w n c q walk
        (λ listings stay next walks. walks_over (walked w listings stay) c (subst IsWalk (sym e) walk) done next walks)
        (record { over = λ a f. refl; left = done }) (λ ids. record { over = λ a f. refl; left = done })
    on_drains p e (Idling done) =
        outcomes eq Went w n c (plan.Reply answer.Done) [] (record { over = λ a f. refl; left = done })

  -- ---- all that happens meanwhile

  module _ (eq : K → K → Bool) (n : ℕ) where
    record IsOn (v : State K V E) : Type 0 where
      reached : IsReached eq v
      born : n ≤ v.world.desk.last
      drains : DrainsIf v.world.desk (v.calls n)

    -- what a step of the call makes of it, and that it is over where it answers
    stepped : (v t : State K V E) (reply : Turn K V E) → IsOn v → Step eq v n reply t →
        ((a : Answer K V E) → reply ≡ turn.Answer a → t.calls n ≡ None) × DrainsIf t.world.desk (t.calls n)
    stepped v t reply i step = step_cases eq Went
        (λ u r. ((a : Answer K V E) → r ≡ turn.Answer a → u.calls n ≡ None) × DrainsIf u.world.desk (u.calls n)) v t n reply step
        (on_drains eq v.world n step.call step.call.plan refl (subst (DrainsIf v.world.desk) step.live i.drains))
        (λ w next k. (
          λ a e. put_here v.calls n next.left ∙ k.over a e,
          subst (DrainsIf w.desk) (sym (put_here v.calls n next.left)) k.left,
        ))

    on_step : (v t : State K V E) (reply : Turn K V E) → IsOn v → Step eq v n reply t → IsOn t
    on_step v t reply i step = record {
      reached = step_reached eq v t n reply i.reached step;
      born = omega (arith, i.born, step_last eq v t n reply step);
      drains = (stepped v t reply i step).1;
    }

    refused : (v t : State K V E) (why : Refusal) (r : Reply K V E) → IsOn v → Refuses v why r t → IsOn t
    refused v t why r i h = subst IsOn (sym h.same) i

    becomes : (v next t : State K V E) (answer r : Reply K V E) → IsReached eq t → (IsReached eq next → IsOn next) → Becomes next answer r t → IsOn t
    becomes v next t answer r reached f h = subst IsOn (sym h.after) (f (subst (IsReached eq) h.after reached))

    either : (t : State K V E) (b : Bool) (X Y : Type 0) → (X → IsOn t) → (Y → IsOn t) → MatchBool b X Y → IsOn t
    either t true X Y on_true on_false h = on_true h
    either t false X Y on_true on_false h = on_false h

    told_on : (v : State K V E) (m : ℕ) (given : Told V E) → IsOn v → IsReached eq (with_desk v (tells v.world.desk m given)) →
        IsOn (with_desk v (tells v.world.desk m given))
    told_on v m told.Done i reached = record { reached = reached; born = i.born; drains = still (v.calls n) i.drains }
      where
        still : (left : Option (Call K V E)) → DrainsIf v.world.desk left → DrainsIf (tells v.world.desk m told.Done) left
        still None h = h
        still (Some c) h = h
    told_on v m told.Off i reached = record { reached = reached; born = i.born; drains = still (v.calls n) i.drains }
      where
        still : (left : Option (Call K V E)) → DrainsIf v.world.desk left → DrainsIf (tells v.world.desk m told.Off) left
        still None h = h
        still (Some c) h = h
    told_on v m (told.Value value) i reached = record { reached = reached; born = i.born; drains = still (v.calls n) i.drains }
      where
        still : (left : Option (Call K V E)) → DrainsIf v.world.desk left → DrainsIf (tells v.world.desk m (told.Value value)) left
        still None h = h
        still (Some c) h = h
    told_on v m told.Nothing i reached = record { reached = reached; born = i.born; drains = still (v.calls n) i.drains }
      where
        still : (left : Option (Call K V E)) → DrainsIf v.world.desk left → DrainsIf (tells v.world.desk m told.Nothing) left
        still None h = h
        still (Some c) h = h
    told_on v m (told.Err error) i reached = record { reached = reached; born = i.born; drains = still (v.calls n) i.drains }
      where
        still : (left : Option (Call K V E)) → DrainsIf v.world.desk left → DrainsIf (tells v.world.desk m (told.Err error)) left
        still None h = h
        still (Some c) h = h
    told_on v m (told.Op op) i reached = record { reached = reached; born = i.born; drains = still (v.calls n) i.drains }
      where
        still : (left : Option (Call K V E)) → DrainsIf v.world.desk left → DrainsIf (tells v.world.desk m (told.Op op)) left
        still None h = h
        still (Some c) h = h

    aside : (v t : State K V E) (e : Event K V E) (r : Reply K V E) → IsAside e → IsOn v → Happens eq Any v e r t → IsOn t
    aside v t (event.Step m) r quiet i h = absurd quiet
    aside v t (event.Poll m) r quiet i h = absurd quiet
    aside v t (event.Drop m) r quiet i h = absurd quiet
    aside v t (event.At moment) r quiet i h =
        either t (nat_lt moment v.world.desk.clock) _ _ (λ b. refused v t _ r i b)
        (λ b. becomes v (at_moment v moment) t _ r (event_reached eq v t (event.At moment) r i.reached h)
        (λ reached. record { reached = reached; born = i.born; drains = still (v.calls n) i.drains }) b) h
      where
        still : (left : Option (Call K V E)) → DrainsIf v.world.desk left → DrainsIf (at_moment v moment).world.desk left
        still None h = h
        still (Some c) h = h
    aside v t (event.Start begin) r quiet i h =
        either t (v.world.desk.last == last_call) _ _ (λ b. refused v t _ r i b)
        (λ b. becomes v (started v begin) t _ r (event_reached eq v t (event.Start begin) r i.reached h)
        (λ reached. record {
          reached = reached;
          born = omega (arith, i.born);
          drains = subst (DrainsIf (started v begin).world.desk)
              (sym (put_there v.calls (v.world.desk.last + 1) _ n (differ (v.world.desk.last + 1) n (λ e. omega (arith, e, i.born)))))
              (still (v.calls n) i.drains);
        }) b) h
      where
        still : (left : Option (Call K V E)) → DrainsIf v.world.desk left → DrainsIf (started v begin).world.desk left
        still None h = h
        still (Some c) h = h
    aside v t (event.Tell m given) r quiet i h =
        either t (is_asked v.world.desk m given) _ _
        (λ b. becomes v (with_desk v (tells v.world.desk m given)) t _ r (event_reached eq v t (event.Tell m given) r i.reached h)
        (λ reached. told_on v m given i reached) b) (λ b. refused v t _ r i b) h

    -- so it is finished when it answers
    finished : (v t : State K V E) → IsOn v → RunsAlone eq n v t → Finished all t.world.desk.owed t.world.desk.applied × IsReached eq t
    finished v t i (alone.Answers s u a step) =
        let k = stepped v t (turn.Answer a) i step in
        (subst (DrainsIf t.world.desk) (k.0 a refl) k.1, step_reached eq v t n (turn.Answer a) i.reached step)
    finished v t i (alone.Goes s u w reply step more) = finished u t (on_step v u reply i step) more
    finished v t i (alone.Others s u w e r quiet h more) = finished u t (aside v u e r quiet i h) more

-- ---- once

in_times : (xs : List Write) (x : Write) → IsIn xs x → 0 < times (number_of x) (map number_of xs)
in_times [] x h = absurd h
in_times (y ∷ ys) x (inl e) =
    subst (λ v. 0 < times (number_of x) (number_of v ∷ map number_of ys)) (sym e) (omega (arith, times_same (number_of x) (map number_of ys)))
in_times (y ∷ ys) x (inr h) = grows (number_of x == number_of y) (in_times ys x h)
  where
    grows : (b : Bool) → 0 < times (number_of x) (map number_of ys) →
        0 < cond b (times (number_of x) (map number_of ys) + 1) (times (number_of x) (map number_of ys))
    grows true h = omega arith
    grows false h = h

-- a cache that is disabled is of capacity 0
capacity_none : (most : Option ℕ) → option_map_or (λ m. m == 0) most false ≡ true → most ≡ Some 0
capacity_none None e = absurd (false≢true e)
capacity_none (Some m) e = ap Some (eqb-true m 0 e)

module _ {K V E : Type 0} (eq : K → K → Bool) (laws : IsEquivalence eq) where
  -- a disabled cache owes nothing
  disabled_owes : (s : State K V E) → IsReached eq s → is_disabled s.world.desk.rules ≡ true → s.world.desk.owed ≡ []
  disabled_owes s h off =
      (disabled_nothing eq (lawfully eq laws) s h (capacity_none s.world.desk.rules.max_capacity off)).owed

  -- no number is applied twice
  applied_once : (s : State K V E) → IsReached eq s → (x : ℕ) → times x (map number_of s.world.desk.applied) ≤ 1
  applied_once s h x =
      let d : DeskPart K V E = s.world.desk in
      let owed : List Write = map (λ o. o.write) d.owed in
      let once : times x (numbers_of d) ≤ 1 = (reached_sound eq laws s h).once x in
      let parts : times x (map number_of (owed ++ d.log ++ d.applied)) ≡ times x (map number_of (owed ++ d.log)) + times x (map number_of d.applied) =
      ap (times x) (map-append number_of (owed ++ d.log) d.applied) ∙ times_append x (map number_of (owed ++ d.log)) (map number_of d.applied) in
      omega (arith, once, parts)

  pub maintenance_drains : MaintenanceDrains K V E eq
  maintenance_drains s t n h live runs = (
    end.0.0,
    λ write was. exactly write (end.0.1 write (contains_in (map (λ o. o.write) s.world.desk.owed) write was)),
  )
    where
      all : List Write
      all = map (λ o. o.write) s.world.desk.owed

      by : (off : Bool) → is_disabled s.world.desk.rules ≡ off →
          Drains {K = K} {V = V} {E = E} s.world.table.division.parts all s.world.desk.owed s.world.desk.log s.world.desk.applied
          (pending_plan off s.world.table.division.parts)
      by true off = let none : s.world.desk.owed ≡ [] = disabled_owes s h off in
          Idling (none, λ x i. absurd (subst (λ v. IsIn (writes_of v) x) none i))
      by false on = Gathering (λ x i. inl i)

      begins : IsOn {K = K} {V = V} {E = E} s.world.table.division.parts all eq n s
      begins = record {
        reached = h;
        born = (in_balance eq s h).numbered n _ live;
        drains = subst (DrainsIf {K = K} {V = V} {E = E} s.world.table.division.parts all s.world.desk) (sym live)
            (by (is_disabled s.world.desk.rules) refl);
      }

      end : Finished all t.world.desk.owed t.world.desk.applied × IsReached eq t
      end = finished s.world.table.division.parts all eq n s t begins runs

      exactly : (write : Write) → IsIn t.world.desk.applied write → times (number_of write) (map number_of t.world.desk.applied) ≡ 1
      exactly write i =
          let some = in_times t.world.desk.applied write i in
          let most = applied_once t end.1 (number_of write) in
          omega (arith, some, most)
