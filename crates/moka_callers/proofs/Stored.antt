-- What stands in the table was put there by the call of its stamp.
use Rattle.std.proofs.Common.{◌≡◌, inl, inr, ℕ, ◌<◌, ◌==◌, Bool, true, false, cond, List, [], ◌∷◌, ◌++◌, Some, None, refl, sym, ap, ◌∙◌, subst, arith}
use Rattle.std.proofs.lemmas.Bool.{eqb-true}
use Rattle.moka_hist.specs.Finite.{put_key, times}
use Rattle.moka_hist.specs.State.{State, fresh}
use Rattle.moka_hist.specs.Plan.{Item, Removal}
use Rattle.moka_hist.specs.Plan as plan
use Rattle.moka_hist.specs.Step.{Step}
use Rattle.moka_hist.specs.Run.{IsReached}
use Rattle.moka_hist.specs.declared.accesses.Turn.{Turn}
use Rattle.moka_hist.specs.declared.records.Stored.{Stored}
use Rattle.moka_laws.specs.Starting.{HasMade, Leads}
use Rattle.moka_laws.proofs.Balance.{times_last}
use Rattle.moka_laws.proofs.Begun.{live_started}
use Rattle.moka_laws.proofs.Counting.{none_some, some_same}
use Rattle.moka_laws.proofs.Following.{IsFollowed, follow, made_on, no_leads}
use Rattle.moka_laws.proofs.OnePlace.{contains_times}
use Rattle.moka_laws.proofs.Reached.{fresh_reached, run_reached}
use Rattle.moka_callers.specs.Changing.{ChangesBy}
use Rattle.moka_callers.specs.Contents.{ChangesTable, CommitsAreMade, PutsOwn, RecordsAreOfCalls}
use Rattle.moka_callers.proofs.Changed.{by_writes}
use Rattle.moka_callers.proofs.Parts.{CommitsBy, step_commits}
use Rattle.moka_callers.proofs.Values.{writes_own}

module _ {K V E : Type 0} (eq : K → K → Bool) where
  reaches : (s t : State K V E) → Leads eq s t → IsReached eq s → IsReached eq t
  reaches s t led h = run_reached eq s t led.events led.replies h led.run

  -- a step that writes puts in what is the call's own
  puts_own : (s t : State K V E) (n : ℕ) (turn : Turn K V E) → IsReached eq s →
      (step : Step eq s n turn t) → (key : K) (value : V) (moment : ℕ)
      (rest : List (Item K V E)) → step.call.plan ≡ plan.Write key value moment ∷ rest →
      t.world.table.stored ≡ put_key eq s.world.table.stored key
      (Some (key, record { value = value; stamp = n; modified = moment })) →
      PutsOwn eq n key (record { value = value; stamp = n; modified = moment }) s step.call turn t
  puts_own s t n turn reached step key value moment rest is put =
      let begun = live_started eq s n step.call reached step.live in
      record {
        puts = record { rest = rest; writing = is; put = put };
        stamp = refl;
        start = begun.0;
        was = begun.1;
        value = writes_own eq begun.0 n s step.call key value moment rest begun.1 step.live is;
      }

  -- ---- records

  -- the state is reached, and each stored record was put in by the call of its stamp
  record AreOfCalls (s : State K V E) : Type 0 where
    reached : IsReached eq s
    made : (q : K) (p : K × Stored V) → s.world.table.stored q ≡ Some p →
        HasMade eq s p.1.stamp (PutsOwn eq p.1.stamp p.0 p.1)

  on_calls : (s v : State K V E) → Leads eq s v →
      v.world.table.stored ≡ s.world.table.stored → AreOfCalls s → AreOfCalls v
  on_calls s v led same i = record {
    reached = reaches s v led i.reached;
    made = λ q p is. made_on eq s v p.1.stamp (PutsOwn eq p.1.stamp p.0 p.1) led
        (i.made q p (sym (ap (λ f. f q) same) ∙ is));
  }

  calls_step : (s t : State K V E) (n : ℕ) (turn : Turn K V E) → Leads eq s t → AreOfCalls s →
      Step eq s n turn t → AreOfCalls t
  calls_step s t n turn led i step =
      by step.call.plan refl (by_writes eq s t n step.call turn step.live step)
    where
      old : (q : K) (p : K × Stored V) → s.world.table.stored q ≡ Some p →
          HasMade eq t p.1.stamp (PutsOwn eq p.1.stamp p.0 p.1)
      old q p is = made_on eq s t p.1.stamp (PutsOwn eq p.1.stamp p.0 p.1) led (i.made q p is)

      by : (now : List (Item K V E)) → step.call.plan ≡ now →
          ChangesBy eq n now s.world.table.stored t.world.table.stored → AreOfCalls t
      by (plan.Write key value moment ∷ rest) is (inl same) = on_calls s t led same i
      by (plan.Write key value moment ∷ rest) is (inr put) = record {
        reached = reaches s t led i.reached;
        made = λ q p has. here q p (eq key q) (sym (ap (λ f. f q) put) ∙ has);
      }
        where
          new : Stored V
          new = record { value = value; stamp = n; modified = moment }

          made : HasMade eq t n (PutsOwn eq n key new)
          made = record {
            before = s;
            reached = i.reached;
            call = step.call;
            live = step.live;
            turn = turn;
            after = t;
            step = step;
            what = puts_own s t n turn i.reached step key value moment rest is put;
            led = no_leads eq t;
          }

          here : (q : K) (p : K × Stored V) (b : Bool) →
              cond b (Some (key, new)) (s.world.table.stored q) ≡ Some p →
              HasMade eq t p.1.stamp (PutsOwn eq p.1.stamp p.0 p.1)
          here q p true e = subst (λ (v : K × Stored V). HasMade eq t v.1.stamp
              (PutsOwn eq v.1.stamp v.0 v.1)) (some_same e) made
          here q p false e = old q p e
      by (plan.Out removal key ∷ rest) is (inl same) = on_calls s t led same i
      by (plan.Out removal key ∷ rest) is (inr out) = record {
        reached = reaches s t led i.reached;
        made = λ q p has. left q p (eq key q) (sym (ap (λ f. f q) out.2) ∙ has);
      }
        where
          left : (q : K) (p : K × Stored V) (b : Bool) →
              cond b None (s.world.table.stored q) ≡ Some p →
              HasMade eq t p.1.stamp (PutsOwn eq p.1.stamp p.0 p.1)
          left q p true e = absurd (none_some e)
          left q p false e = old q p e
      by _ is same = on_calls s t led same i

  calls_followed : IsFollowed eq AreOfCalls
  calls_followed = record {
    at = λ s moment on led i. on_calls s _ led refl i;
    start = λ s start fits led i. on_calls s _ led refl i;
    step = calls_step;
    tell = λ s n given asked led i. on_calls s _ led refl i;
    hear = λ s n off running led i. on_calls s _ led refl i;
    drop = λ s n c live between led i. on_calls s _ led refl i;
  }

  pub of_calls : RecordsAreOfCalls K V E eq
  of_calls s q key stored h is =
      let first : AreOfCalls (fresh K V E h.division h.rules h.size h.handed) = record {
        reached = fresh_reached eq h.division h.divides h.rules h.size h.handed h.has_log;
        made = λ q p has. absurd (none_some has);
      } in
      let now : AreOfCalls s = follow eq AreOfCalls calls_followed
      (fresh K V E h.division h.rules h.size h.handed) s h.events h.replies first h.run in
      now.made q (key, stored) is

-- ---- commits

module _ {K V E : Type 0} (eq : K → K → Bool) where
  -- the state is reached, and each committed number has changed the table
  record AreMade (s : State K V E) : Type 0 where
    reached : IsReached eq s
    made : (x : ℕ) → 0 < times x s.world.table.committed → HasMade eq s x (ChangesTable eq x)

  on_made : (s v : State K V E) → Leads eq s v →
      v.world.table.committed ≡ s.world.table.committed → AreMade s → AreMade v
  on_made s v led same i = record {
    reached = reaches eq s v led i.reached;
    made = λ x has. made_on eq s v x (ChangesTable eq x) led
        (i.made x (subst (λ xs. 0 < times x xs) same has));
  }

  -- one number more was committed, by this step
  one_made : (s t : State K V E) (n : ℕ) (turn : Turn K V E) → Leads eq s t → AreMade s →
      (step : Step eq s n turn t) → t.world.table.committed ≡ s.world.table.committed ++ n ∷ [] →
      ChangesTable eq n s step.call turn t → AreMade t
  one_made s t n turn led i step more what = record {
    reached = reaches eq s t led i.reached;
    made = λ x has. by x (x == n) refl (subst (λ xs. 0 < times x xs) more has);
  }
    where
      now : HasMade eq t n (ChangesTable eq n)
      now = record {
        before = s;
        reached = i.reached;
        call = step.call;
        live = step.live;
        turn = turn;
        after = t;
        step = step;
        what = what;
        led = no_leads eq t;
      }

      by : (x : ℕ) (b : Bool) → (x == n) ≡ b →
          0 < times x (s.world.table.committed ++ n ∷ []) → HasMade eq t x (ChangesTable eq x)
      by x true e has = subst (λ k. HasMade eq t k (ChangesTable eq k)) (sym (eqb-true x n e)) now
      by x false e has = made_on eq s t x (ChangesTable eq x) led
          (i.made x (omega (
            arith,
            has,
            times_last x n s.world.table.committed,
            ap (λ b. cond {A = ℕ} b 1 0) e,
          )))

  made_step : (s t : State K V E) (n : ℕ) (turn : Turn K V E) → Leads eq s t → AreMade s →
      Step eq s n turn t → AreMade t
  made_step s t n turn led i step = by step.call.plan refl (step_commits eq s t n turn step)
    where
      by : (now : List (Item K V E)) → step.call.plan ≡ now → CommitsBy eq s.world n now t.world →
          AreMade t
      by (plan.Write key value moment ∷ rest) is (inl same) = on_made s t led same.0 i
      by (plan.Write key value moment ∷ rest) is (inr h) =
          one_made s t n turn led i step h.0 (inl (
            key,
            record { value = value; stamp = n; modified = moment },
            puts_own eq s t n turn i.reached step key value moment rest is h.1,
          ))
      by (plan.Out removal key ∷ rest) is (inl same) = on_made s t led same.0 i
      by (plan.Out removal key ∷ rest) is (inr h) =
          one_made s t n turn led i step h.1 (inr (
            key,
            h.0,
            record { removal = removal; rest = rest; taking = is; stood = h.2; out = h.3 },
          ))
      by _ is same = on_made s t led same i

  made_followed : IsFollowed eq AreMade
  made_followed = record {
    at = λ s moment on led i. on_made s _ led refl i;
    start = λ s start fits led i. on_made s _ led refl i;
    step = made_step;
    tell = λ s n given asked led i. on_made s _ led refl i;
    hear = λ s n off running led i. on_made s _ led refl i;
    drop = λ s n c live between led i. on_made s _ led refl i;
  }

  pub are_made : CommitsAreMade K V E eq
  are_made s n h committed =
      let first : AreMade (fresh K V E h.division h.rules h.size h.handed) = record {
        reached = fresh_reached eq h.division h.divides h.rules h.size h.handed h.has_log;
        made = λ x has. absurd (omega (arith, has));
      } in
      let now : AreMade s = follow eq AreMade made_followed
      (fresh K V E h.division h.rules h.size h.handed) s h.events h.replies first h.run in
      now.made n (contains_times n s.world.table.committed committed)
