-- A record that was replaced under a listener, and the lookup that follows: by the law of gets that
-- follow an insert undisturbed.
use Rattle.std.proofs.Common.{◌≡◌, ◌≢◌, ℕ, zero, suc, ◌+◌, ◌≤◌, ◌<◌, ◌==◌, nat_lt, Bool, true, false, cond, ◌||◌, List, [], ◌∷◌, ◌++◌, replicate, All, Option, Some, None, is_some, MatchBool, refl, sym, ap, ◌∙◌, subst, arith}
use Rattle.std.proofs.lemmas.Bool.{eqb-true}
use Rattle.std.proofs.lemmas.List.Elements.{All-cons, All-nil}
use Rattle.std.specs.Option.{option_map, option_map_or}
use Rattle.moka_hist.specs.Plan.{is_disabled, plan_of}
use Rattle.moka_hist.specs.Plan as plan
use Rattle.moka_hist.specs.State.{Call, Division, Handed, State, fresh}
use Rattle.moka_hist.specs.Step.{Step}
use Rattle.moka_hist.specs.Telling.{told, with_end}
use Rattle.moka_hist.specs.Visits.{is_keeping, is_running, locks_without, runs}
use Rattle.moka_hist.specs.Run.{Any, Becomes, Goings, Happens, Refuses, Run, fresh_call, last_call, reply_of, started, with_desk}
use Rattle.moka_hist.specs.declared.accesses.Turn.{Turn}
use Rattle.moka_hist.specs.declared.accesses.Turn.TheVariants as turn
use Rattle.moka_hist.specs.declared.events.Event.{Event}
use Rattle.moka_hist.specs.declared.events.Event.TheVariants as event
use Rattle.moka_hist.specs.declared.events.Start.{Start}
use Rattle.moka_hist.specs.declared.events.Start.TheVariants as start
use Rattle.moka_hist.specs.declared.events.Told.TheVariants as answers
use Rattle.moka_hist.specs.declared.notices.Notice.{Notice}
use Rattle.moka_hist.specs.declared.records.Stored.{Stored}
use Rattle.moka_hist.specs.declared.replies.Answer.{Answer}
use Rattle.moka_hist.specs.declared.replies.Answer.TheVariants as answer
use Rattle.moka_hist.specs.declared.replies.Ask.TheVariants as ask
use Rattle.moka_hist.specs.declared.replies.Refusal.TheVariants as refusal
use Rattle.moka_hist.specs.declared.replies.Reply.{Reply}
use Rattle.moka_hist.specs.declared.replies.Reply.TheVariants as reply
use Rattle.moka_hist.specs.declared.rules.Cause.TheVariants as cause
use Rattle.moka_hist.specs.declared.writes.Write.{Write}
use Rattle.moka_laws.proofs.Counting.{none_some, put_here, some_same}
use Rattle.moka_callers.specs.Changing.{MakesNoStep}
use Rattle.moka_callers.specs.Inserting.{record_of}
use Rattle.moka_callers.specs.Undisturbed.{AnswersUndisturbed, InsertedIsFound, StepsNoOther}
use Rattle.moka_callers.proofs.Runs.{goings_run}
use Rattle.moka_uses.specs.Replaced.{listening_rules, looking_again, replaced, replacing}
use Rattle.moka_uses.proofs.Listened.{Answered, Asked, At_drain, At_heard, Calm, Getting, Got, In, Inserted, Inserting, PollsTo, Said, To_drain, calm_visible, get_polled, insert_polled, not_got, not_over}

-- a small number is not the greatest
not_last : (n : ℕ) → n ≤ 9 → n ≢ last_call
not_last n small e = omega (arith, small, e)

module _ {K V E : Type 0} (n : ℕ) where
  abbrev own_step : Event K V E
  own_step = event.Step n

  -- steps of this call step no other
  own_steps : (k : ℕ) → All (StepsNoOther n) (replicate k (own_step) ++ [])
  own_steps zero = All-nil (StepsNoOther n)
  own_steps (suc k) = All-cons (StepsNoOther n) (event.Step n) _ refl (own_steps k)

module _ {K V E : Type 0} (eq : K → K → Bool) where
  -- a start gives the next number
  starts : (s t : State K V E) (r : Reply K V E) (begin : Start K V) (calls writes : ℕ) →
      Calm calls writes s.world.desk → calls ≤ 9 → Happens eq Any s (event.Start begin) r t →
      (r ≡ reply.Call (calls + 1)) × (t ≡ started s begin)
  starts s t r begin calls writes i small h = by (s.world.desk.last == last_call) refl h
    where
      by : (b : Bool) → (s.world.desk.last == last_call) ≡ b →
          MatchBool b (Refuses s refusal.CallsSpent r t)
          (Becomes (started s begin) (reply.Call (s.world.desk.last + 1)) r t) →
          (r ≡ reply.Call (calls + 1)) × (t ≡ started s begin)
      by true e h = absurd (not_last calls small (sym i.last ∙ eqb-true s.world.desk.last last_call e))
      by false e h = (h.reply ∙ ap (λ k. reply.Call (k + 1)) i.last, h.after)

  started_calm : (s : State K V E) (begin : Start K V) (calls writes : ℕ) →
      Calm calls writes s.world.desk → Calm (calls + 1) writes (started s begin).world.desk
  started_calm s begin calls writes i = record {
    rules = i.rules;
    last = ap (λ k. k + 1) i.last;
    owed = i.owed;
    logged = i.logged;
    size = i.size;
    hears = i.hears;
    valid = i.valid;
    none = i.none;
    kept = i.kept;
  }

  -- a listener's answer to a notice that runs is taken
  tells : (s t : State K V E) (r : Reply K V E) (n : ℕ) → is_running s.world.desk n ≡ true →
      Happens eq Any s (event.Tell n answers.Done) r t →
      (r ≡ reply.Told) × (t ≡ with_desk s (told s.world.desk n answers.Done))
  tells s t r n running h = by (is_running s.world.desk n) running h
    where
      by : (b : Bool) → b ≡ true →
          MatchBool b (Becomes (with_desk s (told s.world.desk n answers.Done)) reply.Told r t)
          (Refuses s refusal.NotAsked r t) →
          (r ≡ reply.Told) × (t ≡ with_desk s (told s.world.desk n answers.Done))
      by true e h = (h.reply, h.after)
      by false e h = absurd cc

  -- and then it runs no more
  stopped : (s : State K V E) (n : ℕ) →
      is_running (told s.world.desk n answers.Done) n ≡ false
  stopped s n =
      ap (λ x. option_map_or (λ (v : Notice K V). runs v.state) x false)
      (put_here s.world.desk.notices n (option_map with_end (s.world.desk.notices n))) ∙
      by (s.world.desk.notices n)
    where
      by : (o : Option (Notice K V)) →
          option_map_or (λ (v : Notice K V). runs v.state) (option_map with_end o) false ≡ false
      by None = refl
      by (Some x) = refl

-- ---- one insert

module _ {K V E : Type 0} (eq : K → K → Bool) (key : K) (same : eq key key ≡ true) (value : V)
    (n writes : ℕ) (room : nat_lt writes 8 ≡ true) where
  -- the insert stands in a stage, where this stood under the key as it looked
  abbrev Live : Option (K × Stored V) → State K V E → Type 0
  Live o s = In eq n (Inserting eq key value n n writes o same room)
      (Inserted eq key value n n writes o same room) (not_over eq key value n n writes o same room) s

  abbrev Polled : Option (K × Stored V) → State K V E → Reply K V E → State K V E → Type 0
  Polled o s r t = PollsTo eq n (Inserting eq key value n n writes o same room)
      (Inserted eq key value n n writes o same room) (not_over eq key value n n writes o same room)
      s r t

  begins : (s : State K V E) (calls : ℕ) (o : Option (K × Stored V)) → n ≡ calls + 1 →
      Calm calls writes s.world.desk → s.world.desk.locks key ≡ None →
      s.world.table.stored key ≡ o → Live o (started s (start.Insert key value))
  begins s calls o is i free stood = record {
    call = fresh_call s.world.table.division.parts s.world.desk.rules (start.Insert key value);
    live = ap (λ k. (started s (start.Insert key value)).calls k) (is ∙ ap (λ k. k + 1) (sym i.last))
        ∙ put_here s.calls (s.world.desk.last + 1) _;
    rules = i.rules;
    stage = subst (λ r. Inserting eq key value n n writes o same room
        (started s (start.Insert key value)).world
        (plan_of s.world.table.division.parts r (start.Insert key value))) (sym i.rules)
        (At_drain (subst (λ k. Calm k writes (started s (start.Insert key value)).world.desk)
        (sym is) (started_calm eq s (start.Insert key value) calls writes i)) free stood);
  }

  -- a poll by which it is done
  record IsDone (s : State K V E) (r : Reply K V E) (t : State K V E) : Type 0 where
    reply : r ≡ reply.Answer answer.Done
    going : ℕ
    mid : State K V E
    goes : Goings eq Any going s n mid
    step : Step eq mid n (turn.Answer answer.Done) t
    calm : Calm n (writes + 1) t.world.desk
    free : t.world.desk.locks key ≡ None
    moment : ℕ
    has : t.world.table.stored key ≡ Some (key, record_of n value moment)

  done_so : (s t : State K V E) (r : Reply K V E) → Polled None s r t → IsDone s r t
  done_so s t r p = by p.turn p.reply p.step p.over
    where
      by : (q : Turn K V E) → r ≡ reply_of q → Step eq p.mid n q t →
          Inserted eq key value n n writes None same room p.mid.world t.world (t.calls n) q →
          IsDone s r t
      by q is step (Answered none calm free has) = record {
        reply = is;
        going = p.going;
        mid = p.mid;
        goes = p.goes;
        step = step;
        calm = calm;
        free = free;
        moment = has.0;
        has = has.1;
      }
      by q is step (Asked there stood post some calm held has runs c left ruled plan why so) =
          absurd (none_some some)

  -- a poll by which it asks the listener
  record IsAsking (stood : Stored V) (s : State K V E) (r : Reply K V E) (t : State K V E)
      : Type 0 where
    reply : r ≡ reply.Ask (ask.Listener key stood.value cause.Replaced)
    calm : Calm n writes t.world.desk
    held : t.world.desk.locks key ≡ Some n
    moment : ℕ
    has : t.world.table.stored key ≡ Some (key, record_of n value moment)
    runs : is_running t.world.desk n ≡ true
    call : Call K V E
    live : t.calls n ≡ Some call
    rules : call.rules ≡ listening_rules
    post : Write
    plan : call.plan ≡ plan.Heard ∷ plan.Unlock true ∷ plan.Post post ∷
        plan.Reply answer.Done ∷ []

  asks_so : (there : K) (old : Stored V) (s t : State K V E) (r : Reply K V E) →
      Polled (Some (there, old)) s r t → IsAsking old s r t
  asks_so there old s t r p = by p.turn p.reply p.over
    where
      by : (q : Turn K V E) → r ≡ reply_of q →
          Inserted eq key value n n writes (Some (there, old)) same room p.mid.world t.world
          (t.calls n) q → IsAsking old s r t
      by q is (Answered none calm free has) = absurd (none_some (sym none))
      by q is (Asked at stood post some calm held has runs c left ruled plan why so) = record {
        reply = is ∙ ap (λ x. reply.Ask (ask.Listener key stood.value x)) so ∙
            ap (λ (v : K × Stored V). reply.Ask (ask.Listener key v.1.value cause.Replaced))
            (sym (some_same some));
        calm = calm;
        held = held;
        moment = has.0;
        has = has.1;
        runs = runs;
        call = c;
        live = left;
        rules = ruled;
        post = post;
        plan = plan;
      }

  -- once its listener is told to have ended
  goes_on : (old : Stored V) (s u t : State K V E) (r : Reply K V E) (i : IsAsking old u r s) →
      t ≡ with_desk s (told s.world.desk n answers.Done) → Live None t
  goes_on old s u t r i is = subst (λ v. Live None v) (sym is) (record {
    call = i.call;
    live = i.live;
    rules = i.rules;
    stage = subst (λ p. Inserting eq key value n n writes None same room
        (with_desk s (told s.world.desk n answers.Done)).world p) (sym i.plan)
        (At_heard i.post refl (record {
          rules = i.calm.rules;
          last = i.calm.last;
          owed = i.calm.owed;
          logged = i.calm.logged;
          size = i.calm.size;
          hears = ap (λ b. b || false) i.calm.hears;
          valid = i.calm.valid;
          none = i.calm.none;
          kept = λ m. out (n == m) (i.calm.kept m);
        }) (held (i.calm.kept n)) (i.moment, i.has) (stopped eq s n));
  })
    where
      out : {o : Option K} (b : Bool) → o ≡ None → cond b None o ≡ None
      out true none = refl
      out false none = none

      -- the notice kept no lock, so the call's is not free
      held : s.world.desk.kept n ≡ None → cond (is_keeping s.world.desk n) (locks_without s.world.desk n) s.world.desk.locks key ≡ Some n
      held none = ap (λ o. cond (is_some o) (locks_without s.world.desk n) s.world.desk.locks key) none ∙ i.held

-- ---- the lookup

module _ {K V E : Type 0} (eq : K → K → Bool) (key : K) (n writes : ℕ) where
  abbrev Seeking : State K V E → Type 0
  Seeking s = In eq n (Getting eq key n n writes) (Got eq key n n writes) (not_got eq key n n writes) s

  seeks : (s : State K V E) (calls : ℕ) → n ≡ calls + 1 → Calm calls writes s.world.desk →
      Seeking (started s (start.Get key))
  seeks s calls is i = record {
    call = fresh_call s.world.table.division.parts s.world.desk.rules (start.Get key);
    live = ap (λ k. (started s (start.Get key)).calls k) (is ∙ ap (λ k. k + 1) (sym i.last))
        ∙ put_here s.calls (s.world.desk.last + 1) _;
    rules = i.rules;
    stage = subst (λ r. Getting eq key n n writes (started s (start.Get key)).world
        (plan_of s.world.table.division.parts r (start.Get key))) (sym i.rules)
        (To_drain (subst (λ k. Calm k writes (started s (start.Get key)).world.desk) (sym is)
        (started_calm eq s (start.Get key) calls writes i)));
  }

  -- a poll by which it answers
  record IsSaid (s : State K V E) (r : Reply K V E) (t : State K V E) : Type 0 where
    said : Answer K V E
    reply : r ≡ reply.Answer said
    going : ℕ
    mid : State K V E
    goes : Goings eq Any going s n mid
    step : Step eq mid n (turn.Answer said) t
    calm : Calm n writes mid.world.desk

  said_so : (s t : State K V E) (r : Reply K V E) → Seeking s →
      Happens eq Any s (event.Poll n) r t → IsSaid s r t
  said_so s t r i h = by p.turn p.reply p.step p.over
    where
      p : PollsTo eq n (Getting eq key n n writes) (Got eq key n n writes)
          (not_got eq key n n writes) s r t
      p = get_polled eq key n n writes s t r i h

      by : (q : Turn K V E) → r ≡ reply_of q → Step eq p.mid n q t →
          Got eq key n n writes p.mid.world t.world (t.calls n) q → IsSaid s r t
      by q is step (Said a calm) = record {
        said = a;
        reply = is;
        going = p.going;
        mid = p.mid;
        goes = p.goes;
        step = step;
        calm = calm;
      }

-- ---- both runs

module _ {K V : Type 0} (eq : K → K → Bool) (key : K) (first value : V) (same : eq key key ≡ true)
    (division : Division K) (handed : Handed K V) (law : InsertedIsFound K V ℕ eq) where
  abbrev begun : State K V ℕ
  begun = fresh K V ℕ division listening_rules 8 handed

  calm : Calm 0 0 begun.world.desk
  calm = record {
    rules = refl;
    last = refl;
    owed = refl;
    logged = refl;
    size = refl;
    hears = refl;
    valid = refl;
    none = refl;
    kept = λ n. refl;
  }

  -- the first insert, from its start until it is done
  record IsFirst (a b : Reply K V ℕ) (s t : State K V ℕ) : Type 0 where
    call : a ≡ reply.Call 1
    done : IsDone eq key same first 1 0 refl s b t

  first_so : (a b : Reply K V ℕ) (s t : State K V ℕ) →
      Happens eq Any begun (event.Start (start.Insert key first)) a s →
      Happens eq Any s (event.Poll 1) b t → IsFirst a b s t
  first_so a b s t h p =
      let one = starts eq begun s a (start.Insert key first) 0 0 calm (omega arith) h in
      record {
        call = one.0;
        done = done_so eq key same first 1 0 refl s t b
            (insert_polled eq key first 1 1 0 None same refl s t b
            (subst (λ v. Live eq key same first 1 0 refl None v) (sym one.1)
            (begins eq key same first 1 0 refl begun 0 None refl calm refl refl)) p);
      }

  -- the second, which asks the listener of what the first has stored
  record IsSecond (old : Stored V) (c d : Reply K V ℕ) (s t : State K V ℕ) : Type 0 where
    call : c ≡ reply.Call 2
    asks : IsAsking eq key same value 2 1 refl old s d t

  second_so : (a b c d : Reply K V ℕ) (u v s t : State K V ℕ) (i : IsFirst a b u v) →
      Happens eq Any v (event.Start (start.Insert key value)) c s →
      Happens eq Any s (event.Poll 2) d t → IsSecond (record_of 1 first i.done.moment) c d s t
  second_so a b c d u v s t i h p =
      let two = starts eq v s c (start.Insert key value) 1 1 i.done.calm (omega arith) h in
      let old : Stored V = record_of 1 first i.done.moment in
      record {
        call = two.0;
        asks = asks_so eq key same value 2 1 refl key old s t d
            (insert_polled eq key value 2 2 1 (Some (key, old)) same refl s t d
            (subst (λ x. Live eq key same value 2 1 refl (Some (key, old)) x) (sym two.1)
            (begins eq key same value 2 1 refl v 1 (Some (key, old)) refl i.done.calm i.done.free
            i.done.has)) p);
      }

  -- and which goes on once its listener is told
  record IsThird (e f : Reply K V ℕ) (s t : State K V ℕ) : Type 0 where
    told : e ≡ reply.Told
    done : IsDone eq key same value 2 1 refl s f t

  third_so : (old : Stored V) (c d e f : Reply K V ℕ) (u v s t : State K V ℕ) →
      IsSecond old c d u v → Happens eq Any v (event.Tell 2 answers.Done) e s →
      Happens eq Any s (event.Poll 2) f t → IsThird e f s t
  third_so old c d e f u v s t i h p =
      let ended = tells eq v s e 2 i.asks.runs h in
      record {
        told = ended.0;
        done = done_so eq key same value 2 1 refl s t f
            (insert_polled eq key value 2 2 1 None same refl s t f
            (goes_on eq key same value 2 1 refl old v u s d i.asks ended.1) p);
      }

  -- Once both inserts are done: the second one, undisturbed; and the cache.
  record AreStored (replies : List (Reply K V ℕ)) (s : State K V ℕ) : Type 0 where
    told : replies ≡ replaced key first
    before : State K V ℕ
    able : is_disabled before.world.desk.rules ≡ false
    inserted : AnswersUndisturbed eq (start.Insert key value) 2 answer.Done before s
    calm : Calm 2 2 s.world.desk

  list_of : (a b c d e f : Reply K V ℕ) → a ≡ reply.Call 1 → b ≡ reply.Answer answer.Done →
      c ≡ reply.Call 2 → d ≡ reply.Ask (ask.Listener key first cause.Replaced) →
      e ≡ reply.Told → f ≡ reply.Answer answer.Done →
      a ∷ b ∷ c ∷ d ∷ e ∷ f ∷ [] ≡ replaced key first
  list_of a b c d e f p q r t u v = cc

  stored_so : (replies : List (Reply K V ℕ)) (s : State K V ℕ) →
      Run eq Any begun (replacing key first value) replies s → AreStored replies s
  stored_so (a ∷ b ∷ c ∷ d ∷ e ∷ f ∷ []) s (
    s₁,
    h₁,
    t₁,
    (
      s₂,
      h₂,
      t₂,
      (
        s₃,
        h₃,
        t₃,
        (
          s₄,
          h₄,
          t₄,
          (s₅, h₅, t₅, (s₆, h₆, t₆, is)),
        ),
      ),
    ),
  ) =
      let one : IsFirst a b s₁ s₂ = first_so a b s₁ s₂ h₁ h₂ in
      let old : Stored V = record_of 1 first one.done.moment in
      let two : IsSecond old c d s₃ s₄ = second_so a b c d s₁ s₂ s₃ s₄ one h₃ h₄ in
      let three : IsThird e f s₅ s₆ = third_so old c d e f s₃ s₄ s₅ s₆ two h₅ h₆ in
      let going : ℕ = three.done.going in
      let mid : State K V ℕ = three.done.mid in
      subst (λ v. AreStored (a ∷ b ∷ c ∷ d ∷ e ∷ f ∷ []) v) (sym is) (record {
        told = list_of a b c d e f one.call one.done.reply two.call two.asks.reply three.told
            three.done.reply;
        before = s₂;
        able = ap is_disabled one.done.calm.rules;
        inserted = record {
          begun = s₃;
          begins = subst (λ r. Happens eq Any s₂ (event.Start (start.Insert key value)) r s₃)
              two.call h₃;
          events = event.Poll 2 ∷ event.Tell 2 answers.Done ∷ replicate going (event.Step 2) ++ [];
          replies = d ∷ e ∷ replicate going reply.Going ++ [];
          mid = mid;
          run = (
            s₄,
            h₄,
            tt,
            (s₅, h₅, tt, goings_run eq going s₅ mid mid 2 [] [] three.done.goes refl),
          );
          undisturbed = All-cons (StepsNoOther 2) (event.Poll 2)
              (event.Tell 2 answers.Done ∷ replicate going (event.Step 2) ++ []) refl
              (All-cons (StepsNoOther 2) (event.Tell 2 answers.Done)
              (replicate going (event.Step 2) ++ []) tt (own_steps 2 going));
          last = three.done.step;
        };
        calm = three.done.calm;
      })
  stored_so [] s run = absurd run
  stored_so (a ∷ []) s run = absurd run.3
  stored_so (a ∷ b ∷ []) s run = absurd run.3.3
  stored_so (a ∷ b ∷ c ∷ []) s run = absurd run.3.3.3
  stored_so (a ∷ b ∷ c ∷ d ∷ []) s run = absurd run.3.3.3.3
  stored_so (a ∷ b ∷ c ∷ d ∷ e ∷ []) s run = absurd run.3.3.3.3.3
  stored_so (a ∷ b ∷ c ∷ d ∷ e ∷ f ∷ g ∷ rest) s run = absurd run.3.3.3.3.3.3

  pub read_again : (replies : List (Reply K V ℕ)) (mid final : State K V ℕ)
      (call last : Reply K V ℕ) → Run eq Any begun (replacing key first value) replies mid →
      Run eq Any mid (looking_again key) (call ∷ last ∷ []) final →
      (replies ≡ replaced key first) × (last ≡ reply.Answer (answer.Found (Some value)))
  read_again replies mid final call last stores (s₁, h₁, t₁, (s₂, h₂, t₂, is)) =
      let i : AreStored replies mid = stored_so replies mid stores in
      let one = starts eq mid s₁ call (start.Get key) 2 2 i.calm (omega arith) h₁ in
      let said : IsSaid eq key 3 2 s₁ last s₂ = said_so eq key 3 2 s₁ s₂ last
      (subst (λ v. Seeking eq key 3 2 v) (sym one.1) (seeks eq key 3 2 mid 2 refl i.calm)) h₂ in
      let going : ℕ = said.going in (
        i.told,
        said.reply ∙ ap (λ a. reply.Answer a)
            (law i.before mid mid s₂ 2 3 key key value answer.Done said.said i.able i.inserted
            (record { events = []; replies = []; run = refl; still = All-nil MakesNoStep }) same
            (record {
              begun = s₁;
              begins = subst (λ r. Happens eq Any mid (event.Start (start.Get key)) r s₁) one.0 h₁;
              events = replicate going (event.Step 3) ++ [];
              replies = replicate going reply.Going ++ [];
              mid = said.mid;
              run = goings_run eq going s₁ said.mid said.mid 3 [] [] said.goes refl;
              undisturbed = own_steps 3 going;
              last = said.step;
            }) (λ there stored stands. calm_visible 3 2 said.mid said.calm there stored)),
      )
