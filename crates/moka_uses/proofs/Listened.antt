-- Inserts and gets under a listener, each polled with no other call beside it.
use Rattle.std.proofs.Common.{◌≡◌, ◌≢◌, ◌⊎◌, inl, inr, ℕ, zero, suc, ◌+◌, ◌<◌, ◌≤◌, ◌==◌, Bool, true, false, cond, nat_lt, List, [], ◌∷◌, ◌++◌, length, Option, Some, None, MatchOption, refl, sym, ap, ◌∙◌, subst, arith}
use Rattle.std.proofs.lemmas.Bool.{eqb-true, false≢true}
use Rattle.std.proofs.lemmas.List.{length-append}
use Rattle.std.specs.List.{list_any}
use Rattle.std.specs.Option.{option_map, option_map_or}
use Rattle.moka_hist.specs.Causes.{upsert_cause}
use Rattle.moka_hist.specs.Finite.{put_at, put_key}
use Rattle.moka_hist.specs.State.{Call, DeskPart, State, World}
use Rattle.moka_hist.specs.Plan.{Item, plan_of}
use Rattle.moka_hist.specs.Plan as plan
use Rattle.moka_hist.specs.Next.{Next, goes}
use Rattle.moka_hist.specs.Step.{Step}
use Rattle.moka_hist.specs.Run.{Any, Goings, Happens, Polls, Refuses, reply_of}
use Rattle.moka_hist.specs.Tables.{answer_of, begun, written}
use Rattle.moka_hist.specs.Visible.{is_visible}
use Rattle.moka_hist.specs.Visits.{accessed_at, cause_of, does_hit, has_room, is_hit, is_running, is_unlocked_for, runs, times_at}
use Rattle.moka_hist.specs.Writing.{after_write, once_told}
use Rattle.moka_hist.specs.Bound.{decided_by}
use Rattle.moka_hist.specs.Looking.{after_get}
use Rattle.moka_hist.specs.declared.accesses.Turn.{Turn}
use Rattle.moka_hist.specs.declared.accesses.Turn.TheVariants as turn
use Rattle.moka_hist.specs.declared.events.Event.TheVariants as event
use Rattle.moka_hist.specs.declared.notices.Notice.{Notice}
use Rattle.moka_hist.specs.declared.records.Mode.TheVariants as mode
use Rattle.moka_hist.specs.declared.records.Stored.{Stored}
use Rattle.moka_hist.specs.declared.replies.Answer.{Answer}
use Rattle.moka_hist.specs.declared.replies.Answer.TheVariants as answer
use Rattle.moka_hist.specs.declared.replies.Ask.TheVariants as ask
use Rattle.moka_hist.specs.declared.replies.Refusal.TheVariants as refusal
use Rattle.moka_hist.specs.declared.replies.Reply.{Reply}
use Rattle.moka_hist.specs.declared.replies.Reply.TheVariants as reply
use Rattle.moka_hist.specs.declared.notices.NoticeState.TheVariants as notice
use Rattle.moka_hist.specs.declared.rules.Cause.{Cause}
use Rattle.moka_hist.specs.declared.rules.Cause.TheVariants as cause
use Rattle.moka_hist.specs.declared.rules.Rules.{Rules}
use Rattle.moka_hist.specs.declared.tables.TableAnswer.TheVariants as table
use Rattle.moka_hist.specs.declared.tables.TableTurn.TheVariants as table_turn
use Rattle.moka_hist.specs.declared.writes.Write.{Write}
use Rattle.moka_hist.specs.declared.writes.Write.TheVariants.{Upsert}
use Rattle.moka_laws.specs.Looks.{is_visible_in}
use Rattle.moka_laws.proofs.Counting.{none_some, put_here, same_number, some_same}
use Rattle.moka_laws.proofs.Outcomes.{outcomes, was_opened}
use Rattle.moka_laws.proofs.StepCases.{OnStep, step_cases}
use Rattle.moka_callers.specs.Inserting.{record_of}
use Rattle.moka_uses.specs.Replaced.{listening_rules}

-- ---- a poll, by stages

module _ {K V E : Type 0} (eq : K → K → Bool) (n : ℕ) (Stage : World K V E → List (Item K V E) → Type 0)
    (Over : World K V E → World K V E → Option (Call K V E) → Turn K V E → Type 0)
    (ends : (old w : World K V E) (o : Option (Call K V E)) → Over old w o turn.Going → ⊥) where
  -- the call goes on in a stage, or its poll is over
  pub data Goes (old new : World K V E) (next : Next K V E) : Type 0 where
    On : (c : Call K V E) → next.turn ≡ turn.Going → next.left ≡ Some c →
        c.rules ≡ listening_rules → Stage new c.plan → Goes old new next
    Ends : Over old new next.left next.turn → Goes old new next

  -- the live call is in a stage
  pub record In (s : State K V E) : Type 0 where
    pub call : Call K V E
    pub live : s.calls n ≡ Some call
    pub rules : call.rules ≡ listening_rules
    pub stage : Stage s.world call.plan

  -- how a poll is over: from a state in a stage, by the step that ends it
  pub record PollsTo (s : State K V E) (r : Reply K V E) (t : State K V E) : Type 0 where
    pub going : ℕ
    pub mid : State K V E
    pub goes : Goings eq Any going s n mid
    pub there : In mid
    pub turn : Turn K V E
    pub step : Step eq mid n turn t
    pub reply : r ≡ reply_of turn
    pub over : Over mid.world t.world (t.calls n) turn

  module _ (steps : (w : World K V E) (c : Call K V E) → c.rules ≡ listening_rules →
      (p : List (Item K V E)) → c.plan ≡ p → Stage w p → OnStep eq (Goes w) w n c p) where
    one_step : (s t : State K V E) (r : Turn K V E) → In s → Step eq s n r t →
        ((r ≡ turn.Going) × In t) ⊎ Over s.world t.world (t.calls n) r
    one_step s t r i step =
        let same : step.call ≡ i.call = some_same (sym step.live ∙ i.live) in
        step_cases eq (Goes s.world)
        (λ v q. ((q ≡ turn.Going) × In v) ⊎ Over s.world v.world (v.calls n) q) s t n r step
        (steps s.world step.call (ap (λ (c : Call K V E). c.rules) same ∙ i.rules) step.call.plan
        refl (subst (λ (c : Call K V E). Stage s.world c.plan) (sym same) i.stage)) by
      where
        by : (w : World K V E) (next : Next K V E) → Goes s.world w next →
            ((next.turn ≡ turn.Going) × In (record { world = w; calls = put_at s.calls n next.left })) ⊎
            Over s.world w (put_at s.calls n next.left n) next.turn
        by w next (On c going left rules stage) = inl (
          going,
          record {
            call = c;
            live = put_here s.calls n next.left ∙ left;
            rules = rules;
            stage = stage;
          },
        )
        by w next (Ends over) = inr (subst (λ o. Over s.world w o next.turn)
            (sym (put_here s.calls n next.left)) over)

    goings : (k : ℕ) (s t : State K V E) → In s → Goings eq Any k s n t → In t
    unfolding Goings
    goings zero s t i going = subst In (sym going) i
    goings (suc k) s t i going = by
        (one_step going.0 t turn.Going (goings k s going.0 i going.1) going.2)
      where
        by : (◌≡◌ {A = Turn K V E} turn.Going turn.Going × In t) ⊎
            Over going.0.world t.world (t.calls n) turn.Going → In t
        by (inl on) = on.1
        by (inr over) = absurd (ends going.0.world t.world (t.calls n) over)

    pub polled : (s t : State K V E) (r : Reply K V E) → In s →
        Happens eq Any s (event.Poll n) r t → PollsTo s r t
    polled s t r i h =
        let p : Polls eq Any s n r t = live_one (s.calls n) i.live h in
        let there : In p.mid = goings p.going s p.mid i p.goes in
        record {
          going = p.going;
          mid = p.mid;
          goes = p.goes;
          there = there;
          turn = p.last.turn;
          step = p.last.step;
          reply = p.last.reply;
          over = by p.mid p.last.turn p.last.reply p.ends
              (one_step p.mid t p.last.turn there p.last.step);
        }
      where
        live_one : (o : Option (Call K V E)) → o ≡ Some i.call →
            MatchOption o (Refuses s refusal.UnknownCall r t) (λ _. Polls eq Any s n r t) →
            Polls eq Any s n r t
        live_one None e h = absurd (none_some e)
        live_one (Some c) e h = h

        by : (u : State K V E) (q : Turn K V E) → r ≡ reply_of q → r ≢ reply.Going →
            ((q ≡ turn.Going) × In t) ⊎ Over u.world t.world (t.calls n) q →
            Over u.world t.world (t.calls n) q
        by u q is not (inl on) = absurd (not (is ∙ ap reply_of on.0))
        by u q is not (inr over) = over

-- ---- what is known of the cache

module _ {K V E : Type 0} where
  -- So many calls were started, and so many writes logged. Nothing is owed or hidden, no notice keeps
  -- a lock, and the listener isn't off.
  pub record Calm (calls writes : ℕ) (d : DeskPart K V E) : Type 0 where
    pub rules : d.rules ≡ listening_rules
    pub last : d.last ≡ calls
    pub owed : d.owed ≡ []
    pub logged : length d.log ≡ writes
    pub size : d.size ≡ 8
    pub hears : d.off ≡ false
    pub valid : d.valid_after ≡ None
    pub none : d.registered ≡ []
    pub kept : (n : ℕ) → d.kept n ≡ None

  -- so of a desk that is like it in these
  pub calm_like : (calls writes : ℕ) (d e : DeskPart K V E) → e.rules ≡ d.rules →
      e.last ≡ d.last → e.owed ≡ d.owed → e.log ≡ d.log → e.size ≡ d.size → e.off ≡ d.off →
      e.valid_after ≡ d.valid_after → e.registered ≡ d.registered → e.kept ≡ d.kept →
      Calm calls writes d → Calm calls writes e
  calm_like calls writes d e rules last owed log size off valid none kept i = record {
    rules = rules ∙ i.rules;
    last = last ∙ i.last;
    owed = owed ∙ i.owed;
    logged = ap length log ∙ i.logged;
    size = size ∙ i.size;
    hears = off ∙ i.hears;
    valid = valid ∙ i.valid;
    none = none ∙ i.none;
    kept = λ n. ap (λ f. f n) kept ∙ i.kept n;
  }

  -- no rule hides a record
  pub calm_visible : (calls writes : ℕ) (s : State K V E) → Calm calls writes s.world.desk →
      (key : K) (stored : Stored V) → is_visible_in s key stored ≡ true
  calm_visible calls writes s i key stored =
      ap (λ r. is_visible r (times_at s.world.desk stored.stamp stored.modified)
      (is_hit s.world.desk key stored)) i.rules ∙
      ap (λ v. is_visible listening_rules (record {
        clock = s.world.desk.clock;
        valid_after = v;
        modified = stored.modified;
        accessed = accessed_at s.world.desk stored.stamp stored.modified;
      }) (is_hit s.world.desk key stored)) i.valid ∙
      ap (λ b. is_visible listening_rules (record {
        clock = s.world.desk.clock;
        valid_after = None;
        modified = stored.modified;
        accessed = accessed_at s.world.desk stored.stamp stored.modified;
      }) b) (ap (list_any (does_hit s.world.desk key stored)) i.none)

  -- a record that leaves for a write does so since that takes its place
  calm_cause : (calls writes : ℕ) (d : DeskPart K V E) → Calm calls writes d →
      (stamp modified : ℕ) → cause_of d stamp modified None true ≡ cause.Replaced
  calm_cause calls writes d i stamp modified =
      ap (λ r. upsert_cause r (times_at d stamp modified)) i.rules ∙
      ap (λ v. upsert_cause listening_rules (record {
        clock = d.clock;
        valid_after = v;
        modified = modified;
        accessed = accessed_at d stamp modified;
      })) i.valid

no_cons : {A : Type 0} (x : A) (xs ys : List A) → ys ≡ x ∷ xs → ys ≡ [] → ⊥
no_cons x xs ys e f = cc

not_both : (b : Bool) → b ≡ true → b ≡ false → ⊥
not_both b e f = cc

-- ---- an insert

module _ {K V E : Type 0} (eq : K → K → Bool) (key : K) (value : V) (n calls writes : ℕ)
    (o : Option (K × Stored V)) (same : eq key key ≡ true) (room : nat_lt writes 8 ≡ true) where
  abbrev Quiet : World K V E → Type 0
  Quiet w = Calm calls writes w.desk

  -- the inserted record stands under the key
  abbrev Has : World K V E → Type 0
  Has w = (moment : ℕ) × (w.table.stored key ≡ Some (key, record_of n value moment))

  abbrev Free : World K V E → Type 0
  Free w = w.desk.locks key ≡ None

  abbrev Held : World K V E → Type 0
  Held w = w.desk.locks key ≡ Some n

  abbrev done : List (Item K V E)
  done = plan.Reply answer.Done ∷ []

  abbrev posts : Write → List (Item K V E)
  posts post = plan.Unlock true ∷ plan.Post post ∷ done

  abbrev moments : List (Item K V E)
  moments = plan.Moment (plan.To_store key value) ∷ done

  -- Where the insert stands: before it has written, where this stood under the key; once it has, and
  -- nothing stood there, or it has heard of that.
  pub data Inserting (w : World K V E) : List (Item K V E) → Type 0 where
    At_drain : Quiet w → Free w → w.table.stored key ≡ o →
        Inserting w (plan.Drain ∷ plan.Lock key ∷ moments)
    At_lock : Quiet w → Free w → w.table.stored key ≡ o → Inserting w (plan.Lock key ∷ moments)
    At_moment : Quiet w → Held w → w.table.stored key ≡ o → Inserting w moments
    At_write : (moment : ℕ) → Quiet w → Held w → w.table.stored key ≡ o →
        Inserting w (plan.Write key value moment ∷ done)
    At_notice : (there : K) (old : Stored V) (post : Write) → o ≡ Some (there, old) → Quiet w →
        Held w → Has w → Inserting w (plan.Notice key old None true ∷ posts post)
    At_heard : (post : Write) → o ≡ None → Quiet w → Held w → Has w →
        is_running w.desk n ≡ false → Inserting w (plan.Heard ∷ posts post)
    At_unlock : (post : Write) → o ≡ None → Quiet w → Held w → Has w → Inserting w (posts post)
    At_post : (post : Write) → o ≡ None → Quiet w → Free w → Has w →
        Inserting w (plan.Post post ∷ done)

  -- How a poll of it is over: it answers, or it asks the listener of what stood there.
  pub data Inserted (old new : World K V E) (left : Option (Call K V E)) : Turn K V E → Type 0 where
    Answered : o ≡ None → Calm calls (writes + 1) new.desk → Free new → Has new →
        Inserted old new left (turn.Answer answer.Done)
    Asked : (there : K) (stood : Stored V) (post : Write) → o ≡ Some (there, stood) → Quiet new →
        Held new → Has new → is_running new.desk n ≡ true → (c : Call K V E) → left ≡ Some c →
        c.rules ≡ listening_rules → c.plan ≡ plan.Heard ∷ posts post → (why : Cause) →
        why ≡ cause.Replaced → Inserted old new left (turn.Ask (ask.Listener key stood.value why))

  over_turn : (old w : World K V E) (left : Option (Call K V E)) (r : Turn K V E) →
      Inserted old w left r → r ≡ turn.Going → ⊥
  over_turn old w left r (Answered none calm free has) e = cc
  over_turn old w left r (Asked there stood post some calm held has runs c is ruled plan why so) e = cc

  pub not_over : (old w : World K V E) (left : Option (Call K V E)) →
      Inserted old w left turn.Going → ⊥
  not_over old w left over = over_turn old w left turn.Going over refl

  abbrev Moves : World K V E → World K V E → Next K V E → Type 0
  Moves = Goes eq n Inserting Inserted not_over

  has_now : (w : World K V E) (moment : ℕ) →
      Has (record w { table = written eq n w.table key (record_of n value moment) })
  has_now w moment = (
    moment,
    ap (λ b. cond b (Some (key, record_of n value moment)) (w.table.stored key)) same,
  )

  module _ (w : World K V E) (c : Call K V E) (ruled : c.rules ≡ listening_rules) where
    -- the world once it has written
    abbrev now : ℕ → World K V E
    now moment = record w {
      table = written eq n w.table key (record_of n value moment);
      stay = decided_by n;
    }

    -- what the write leaves, by what stood under the key
    wrote : (moment : ℕ) → Quiet w → Held w → (found : Option (K × Stored V)) → o ≡ found →
        Moves w (now moment) (after_write n c key done (table_turn.Decided (answer_of found)))
    wrote moment i held None is =
        subst (λ b. Moves w (now moment)
        (goes c (once_told b key table.None (plan.Post (Upsert n None) ∷ done))))
        (sym (ap (λ r. r.listener) ruled))
        (On _ refl refl ruled (At_unlock (Upsert n None) is i held (has_now w moment)))
    wrote moment i held (Some pair) is =
        subst (λ b. Moves w (now moment) (goes c (once_told b key (table.Some pair.0 pair.1)
        (plan.Post (Upsert n (Some pair.1.stamp)) ∷ done))))
        (sym (ap (λ r. r.listener) ruled))
        (On _ refl refl ruled (At_notice pair.0 pair.1 (Upsert n (Some pair.1.stamp)) is i
        held (has_now w moment)))

    steps : (p : List (Item K V E)) → c.plan ≡ p → Inserting w p →
        OnStep eq (Moves w) w n c p
    steps p e (At_drain i free stood) =
        outcomes eq (Moves w) w n c plan.Drain (plan.Lock key ∷ moments) (
          λ none. On _ refl refl ruled (At_lock i free stood),
          λ x xs some. absurd (no_cons _ xs w.desk.owed some i.owed),
          λ x number xs some. absurd (no_cons _ xs w.desk.owed some i.owed),
        )
    steps p e (At_lock i free stood) =
        outcomes eq (Moves w) w n c (plan.Lock key) moments (
          λ unlocked. On _ refl refl ruled (At_moment
              (calm_like calls writes w.desk _ refl refl refl refl refl refl refl refl refl i)
              (ap (λ b. cond b (Some n) (w.desk.locks key)) same) stood),
          λ held. absurd (not_both (is_unlocked_for w.desk n key)
              (ap (λ h. option_map_or (λ holder. holder == n) h true) free) held),
        )
    steps p e (At_moment i held stood) =
        outcomes eq (Moves w) w n c (plan.Moment (plan.To_store key value)) done
        (On _ refl refl ruled (At_write w.desk.clock
        (calm_like calls writes w.desk _ refl refl refl refl refl refl refl refl refl i) held stood))
    steps p e (At_write moment i held stood) = (
      λ more. On _ refl refl ruled (subst (Inserting _) (sym e) (At_write moment i held stood)),
      λ found t h. subst (λ x. Moves w (record w { table = x; stay = decided_by n })
          (after_write n c key done (table_turn.Decided found))) (sym h.1)
          (subst (λ a. Moves w (now moment)
          (after_write n c key done (table_turn.Decided a))) (sym (h.0 ∙ ap answer_of stood))
          (wrote moment i held o refl)),
    )
    steps p e (At_notice there old post some i held has) =
        outcomes eq (Moves w) w n c (plan.Notice key old None true) (posts post) (
          λ off. absurd (not_both w.desk.off off i.hears),
          λ on. Ends (Asked there old post some
              (calm_like calls writes w.desk
              (was_opened eq w.desk n key old None true notice.Running)
              refl refl refl refl refl refl refl refl refl i) held has
              (ap (λ x. option_map_or (λ (v : Notice K V). runs v.state) x false)
              (put_here w.desk.notices n (Some (told old)))) left refl ruled refl
              (cause_of w.desk old.stamp old.modified None true)
              (calm_cause calls writes w.desk i old.stamp old.modified)),
        )
      where
        told : Stored V → Notice K V
        told old = record {
          number = n;
          key = key;
          value = old.value;
          cause = cause_of w.desk old.stamp old.modified None true;
          state = notice.Running;
        }

        left : Call K V E
        left = record c { mode = mode.Parked; plan = plan.Heard ∷ posts post }
    steps p e (At_heard post none i held has over) =
        outcomes eq (Moves w) w n c plan.Heard (posts post) (
          λ off. On _ refl refl ruled (At_unlock post none i held has),
          λ on. absurd (not_both (is_running w.desk n) on over),
        )
    steps p e (At_unlock post none i held has) =
        outcomes eq (Moves w) w n c (plan.Unlock true) (plan.Post post ∷ done)
        (On _ refl refl ruled (At_post post none
        (calm_like calls writes w.desk _ refl refl refl refl refl refl refl refl refl i)
        (ap (λ h. cond (option_map_or (λ holder. holder == n) h false) None h) held ∙
        ap (λ b. cond b None (Some n)) (same_number n)) has))
    steps p e (At_post post none i free has) =
        outcomes eq (Moves w) w n c (plan.Post post) done (
          λ more. Ends (Answered none (record {
            rules = i.rules;
            last = i.last;
            owed = i.owed;
            logged = length-append w.desk.log (post ∷ []) ∙ ap (λ k. k + 1) i.logged;
            size = i.size;
            hears = i.hears;
            valid = i.valid;
            none = i.none;
            kept = i.kept;
          }) free has),
          λ full. absurd (not_both (has_room w.desk)
              (ap (λ k. nat_lt k w.desk.size) i.logged ∙ ap (λ k. nat_lt writes k) i.size ∙ room)
              full),
        )

  pub insert_polled : (s t : State K V E) (r : Reply K V E) → In eq n Inserting Inserted not_over s →
      Happens eq Any s (event.Poll n) r t → PollsTo eq n Inserting Inserted not_over s r t
  insert_polled s t r i h =
      polled eq n Inserting Inserted not_over (λ w c ruled p e stage. steps w c ruled p e stage)
      s t r i h

-- ---- a get

module _ {K V E : Type 0} (eq : K → K → Bool) (key : K) (n calls writes : ℕ) where
  abbrev Still : World K V E → Type 0
  Still w = Calm calls writes w.desk

  pub data Getting (w : World K V E) : List (Item K V E) → Type 0 where
    To_drain : Still w →
        Getting w (plan.Drain ∷ plan.Get (plan.To_show plan.As_value) key ∷ [])
    To_get : Still w → Getting w (plan.Get (plan.To_show plan.As_value) key ∷ [])
    To_judge : (there : K) (stored : Stored V) → Still w →
        Getting w (plan.Judge (plan.To_show plan.As_value) there stored ∷ [])

  -- a poll of it is over as it answers
  pub data Got (old new : World K V E) (left : Option (Call K V E)) : Turn K V E → Type 0 where
    Said : (a : Answer K V E) → Still old → Got old new left (turn.Answer a)

  got_turn : (old w : World K V E) (left : Option (Call K V E)) (r : Turn K V E) →
      Got old w left r → r ≡ turn.Going → ⊥
  got_turn old w left r (Said a calm) e = cc

  pub not_got : (old w : World K V E) (left : Option (Call K V E)) → Got old w left turn.Going → ⊥
  not_got old w left over = got_turn old w left turn.Going over refl

  abbrev Looks : World K V E → World K V E → Next K V E → Type 0
  Looks = Goes eq n Getting Got not_got

  module _ (w : World K V E) (c : Call K V E) (ruled : c.rules ≡ listening_rules) where
    gets : (p : List (Item K V E)) → c.plan ≡ p → Getting w p → OnStep eq (Looks w) w n c p
    gets p e (To_drain i) =
        outcomes eq (Looks w) w n c plan.Drain (plan.Get (plan.To_show plan.As_value) key ∷ []) (
          λ none. On _ refl refl ruled (To_get i),
          λ x xs some. absurd (no_cons _ xs w.desk.owed some i.owed),
          λ x number xs some. absurd (no_cons _ xs w.desk.owed some i.owed),
        )
    gets p e (To_get i) =
        outcomes eq (Looks w) w n c (plan.Get (plan.To_show plan.As_value) key) [] (
          λ more. On _ refl refl ruled (subst (Getting _) (sym e) (To_get i)),
          λ none. Ends (Said _ i),
          λ there stored some. On _ refl refl ruled (To_judge there stored i),
        )
    gets p e (To_judge there stored i) =
        outcomes eq (Looks w) w n c (plan.Judge (plan.To_show plan.As_value) there stored) []
        (λ seen. Ends (Said _ i), λ unseen. Ends (Said _ i))

  pub get_polled : (s t : State K V E) (r : Reply K V E) → In eq n Getting Got not_got s →
      Happens eq Any s (event.Poll n) r t → PollsTo eq n Getting Got not_got s r t
  get_polled s t r i h =
      polled eq n Getting Got not_got (λ w c ruled p e stage. gets w c ruled p e stage) s t r i h
