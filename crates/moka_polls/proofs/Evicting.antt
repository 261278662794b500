-- The poll of an eviction.
use Rattle.std.specs.Option.{option_map_or}
use Rattle.std.proofs.Common.{◌≡◌, ℕ, ◌==◌, ◌&&◌, Bool, true, false, cond, List, [], ◌∷◌, Option, Some, None, refl, sym, ap, ◌∙◌, subst}
use Rattle.moka_hist.specs.State.{State, World, Call, DeskPart, TablePart}
use Rattle.moka_hist.specs.Plan.{Item, Removal, look, under_lock, plan_of}
use Rattle.moka_hist.specs.Plan as plan
use Rattle.moka_hist.specs.Causes.{chosen_holds}
use Rattle.moka_hist.specs.Visits.{is_hit, times_at}
use Rattle.moka_hist.specs.Tables.{removed, taken_by}
use Rattle.moka_hist.specs.Next.{goes}
use Rattle.moka_hist.specs.Looking.{kept_rest, chosen_or_not}
use Rattle.moka_hist.specs.Run.{fresh_call}
use Rattle.moka_hist.specs.declared.events.Start.TheVariants as start
use Rattle.moka_hist.specs.declared.records.Mode.{Mode}
use Rattle.moka_hist.specs.declared.records.Mode.TheVariants as mode
use Rattle.moka_hist.specs.declared.records.Stored.{Stored}
use Rattle.moka_hist.specs.declared.replies.Answer.TheVariants as answer
use Rattle.moka_hist.specs.declared.replies.Reply.{Reply}
use Rattle.moka_hist.specs.declared.replies.Reply.TheVariants as reply
use Rattle.moka_hist.specs.declared.rules.Cause.{Cause}
use Rattle.moka_laws.proofs.Outcomes.{outcomes, done}
use Rattle.moka_polls.specs.Polls.{IsQuiet, without_writes}
use Rattle.moka_polls.specs.Removals.{EvictPoll, has_to_leave}
use Rattle.moka_polls.proofs.Phases.{IsAsIt, IsAt, End, Ends, Goes, Steps, along, on, stops, poll_gives}
use Rattle.moka_polls.proofs.Taking.{Takes, Stamps, out_of, takes_steps}

module _ {K V E : Type 0} (eq : K → K → Bool) (s : State K V E) (n : ℕ) (key : K) (stamp : ℕ)
    (cause : Cause) (quiet : IsQuiet s.world.desk) where
  abbrev Begun : Call K V E
  Begun = fresh_call s.world.table.division.parts s.world.desk.rules (start.Evict key stamp cause)

  abbrev t : TablePart K V
  t = s.world.table

  abbrev chosen : Bool
  chosen = has_to_leave s key stamp cause

  -- the cause holds of the record
  abbrev holds : DeskPart K V E → K → Stored V → Bool
  holds d there found =
      chosen_holds d.rules (times_at d found.stamp found.modified) (is_hit d there found) cause

  -- whether what is stored has to leave
  abbrev chosen_of : Option (K × Stored V) → Bool
  chosen_of pair = option_map_or (λ p. p.1.stamp == stamp && holds s.world.desk p.0 p.1) pair false

  -- the end, where the record is evicted or not
  abbrev replied : Bool → Reply K V E
  replied b = reply.Answer (cond b answer.Evicted answer.Kept)

  abbrev left_by : Bool → TablePart K V
  left_by b = cond b (removed eq n t key) t

  abbrev end : End K V E
  end = record {
    reply = replied chosen;
    left = None;
    table = left_by chosen;
    desk = s.world.desk;
  }

  abbrev removal : Removal K
  removal = plan.To_evict_chosen stamp cause

  data Phase (w : World K V E) : List (Item K V E) → Type 0 where
    Seeks : IsAsIt s.world.table s.world.desk w →
        Phase w (plan.Get (plan.To_evict key stamp cause) key ∷ [])
    Holds : (there : K) (found : Stored V) → s.world.table.stored key ≡ Some (there, found) →
        (found.stamp == stamp) ≡ true → IsAsIt s.world.table s.world.desk w →
        Phase w (plan.Holds key stamp cause there found ∷ [])
    Taking : (there : K) (found : Stored V) → s.world.table.stored key ≡ Some (there, found) →
        (found.stamp == stamp) ≡ true → has_to_leave s key stamp cause ≡ true →
        (p : List (Item K V E)) →
        Takes eq s.world.table s.world.desk n (plan.To_evict_chosen stamp cause) key w p → Phase w p

  -- it ends so, where the record has to leave or not
  ends : (b : Bool) → chosen ≡ b → (w : World K V E) → IsAt (left_by b) s.world.desk w →
      IsAt end.table end.desk w
  ends b is w at = record { table = at.table ∙ ap left_by (sym is); desk = at.desk }

  -- the record stays
  stays : chosen ≡ false → (w : World K V E) (b : Call K V E) →
      b.rules.listener ≡ false → IsAsIt t s.world.desk w →
      Goes Begun Phase (Ends end) w (goes b (kept_rest b.rules.listener))
  stays is w b unheard at = subst (λ l. Goes Begun Phase (Ends end) w (goes b (kept_rest l))) (sym unheard)
      (stops Begun Phase (Ends end) _ _ (λ f. cc) (record {
        replies = ap replied (sym is);
        leaves = refl;
        found = ends false is w (record { table = at.table; desk = ap without_writes at.desk });
      }))

  -- the record under the key is the one that was chosen, or another
  chooses : (there : K) (found : Stored V) → t.stored key ≡ Some (there, found) → (b : Bool) →
      (found.stamp == stamp) ≡ b → (w : World K V E) (m : Mode) (p : List (Item K V E)) →
      IsAsIt t s.world.desk w →
      Goes Begun Phase (Ends end) w (chosen_or_not (along Begun m p) b key stamp cause there found)
  chooses there found e true is w m p at =
      on Begun Phase (Ends end) w mode.Mid _ (Holds there found e is at)
  chooses there found e false is w m p at =
      stays (ap chosen_of e ∙ ap (λ b. b && holds s.world.desk there found) is) w (along Begun m p)
      quiet.plain.unheard at

  steps : Steps Begun Phase (Ends end) eq n
  steps w m p (Seeks at) =
      outcomes eq (Goes Begun Phase (Ends end)) w n (along Begun m p)
      (plan.Get (plan.To_evict key stamp cause) key) [] (
        λ more. on Begun Phase (Ends end) _ mode.Mid _
            (Seeks (record { table = at.table; desk = at.desk })),
        λ none. stays (ap chosen_of (here ∙ none)) (done eq w n) (along Begun m p)
            quiet.plain.unheard (record { table = at.table; desk = at.desk }),
        λ there found some. chooses there found (here ∙ some) (found.stamp == stamp) refl
            (done eq w n) m p (record { table = at.table; desk = at.desk }),
      )
    where
      here : t.stored key ≡ w.table.stored key
      here = sym (ap (λ v. v.stored key) at.table)
  steps w m p (Holds there found e is at) =
      outcomes eq (Goes Begun Phase (Ends end)) w n (along Begun m p)
      (plan.Holds key stamp cause there found) [] (
        λ leaves. on Begun Phase (Ends end) w mode.Mid _ (Taking there found e is (here true leaves) _
            (Stamps (record { table = at.table; desk = ap without_writes at.desk }))),
        λ remains. stays (here false remains) w (along Begun m p) quiet.plain.unheard at,
      )
    where
      here : (b : Bool) → holds w.desk there found ≡ b → chosen ≡ b
      here b it = ap chosen_of e ∙ ap (λ v. v && holds s.world.desk there found) is ∙
          sym (ap (λ d. holds d there found) at.desk) ∙ it
  steps w m p (Taking there found e is leaves q takes) =
      takes_steps eq n Begun Phase (Ends end) t s.world.desk quiet.free quiet.owes quiet.plain.unheard
      removal key (λ v r i. Taking there found e is leaves r i)
      (λ v k r none at. absurd (cc out))
      (λ v k r other old some at. stops Begun Phase (Ends end) _ _ (λ f. cc) (record {
        replies = ap replied (sym leaves);
        leaves = refl;
        found = ends true leaves v at;
      })) w m p takes
    where
      out : out_of t removal key ≡ Some (there, found)
      out = ap (taken_by (Some stamp)) e ∙ ap (λ b. cond b (Some (there, found)) None) is

  begins : Phase s.world (plan_of s.world.table.division.parts s.world.desk.rules (start.Evict key stamp cause))
  begins = subst
      (λ b. Phase s.world (under_lock b key (look (plan.To_evict key stamp cause) key)))
      (sym quiet.plain.unheard) (Seeks (record { table = refl; desk = refl }))

module _ {K V E : Type 0} (eq : K → K → Bool) where
  pub evicts : EvictPoll K V E eq
  evicts s new n key stamp cause r quiet begun happens =
      poll_gives (Begun eq s n key stamp cause quiet) (Phase eq s n key stamp cause quiet)
      (end eq s n key stamp cause quiet) eq n (steps eq s n key stamp cause quiet) s new mode.Fresh
      (plan_of s.world.table.division.parts s.world.desk.rules (start.Evict key stamp cause)) r begun
      (begins eq s n key stamp cause quiet) happens
