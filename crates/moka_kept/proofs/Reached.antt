-- What lies under the lock, as a call reaches it.
use Rattle.std.proofs.Common.{◌≡◌, ◌≢◌, ◌≤◌, ◌<◌, ◌+◌, ◌==◌, ℕ, Bool, true, false, cond, [], Option, Some, None, Result, Ok, Err, IfOk, OnOk, OnErr, MatchOption, refl, sym, ap, ◌∙◌, subst, arith}
use Rattle.std.specs.declared.cmp.PartialEq as PartialEq
use Rattle.std.specs.declared.hash.Hash as Hash
use Rattle.std.specs.declared.hash.Hasher as Hasher
use Rattle.std.specs.declared.hash.BuildHasher as BuildHasher
use Rattle.moka_hist.specs.Bound.{most_undecided, times_of}
use Rattle.moka_hist.specs.Next.{Next}
use Rattle.moka_hist.specs.SoundDesk.{SoundDesk}
use Rattle.moka_hist.specs.State.{Call, DeskPart, Stay, World}
use Rattle.moka_hist.specs.Step.{Access, Gets, May, On_table, On_desk, access_of, want_for}
use Rattle.moka_hist.specs.declared.accesses.Got.{Got}
use Rattle.moka_hist.specs.declared.accesses.Got.TheVariants as got
use Rattle.moka_hist.specs.declared.accesses.Want.{Want}
use Rattle.moka_hist.specs.declared.tables.TableTurn.TheVariants as table
use Rattle.moka_bound.proofs.Size.{access_size}
use Rattle.moka_init.specs.FlowPlan.{StandsStill, call_of}
use Rattle.moka_init.specs.Grounds.{Gives, HasBegun, IsOn, MayWant, OfWanted, access_at, wanted, wish_of}
use Rattle.moka_init.specs.Steps.{MovesThere}
use Rattle.moka_init.specs.declared.flow.Flow.{Flow}
use Rattle.moka_desk.specs.Past.{AllowsAlike, with_past}
use Rattle.moka_laws.specs.Sound.{VisitsKeepSound}
use Rattle.moka_layers.specs.Layers.{AlwaysDecides, BegunIs, Decides, GroundIs, LayersStay, Serves, account_of, most_on, operation_in}
use Rattle.moka_layers.proofs.Listings.{none_listed}
use Rattle.moka_layers.proofs.Wanted.{none_begun}
use Rattle.moka_table.specs.Plain.{plain_left, plain_table}
use Rattle.moka_table.specs.declared.plain.PlainCall.{PlainCall}
use Rattle.moka_needs.specs.Reads.{ReadsItsKind}
use Rattle.moka_laws.specs.Fair.{TableFair}
use Rattle.moka_kept.specs.Facts.{EndIsNoted, EndsMeet, ReadsSo, facts, pair_by}
use Rattle.moka_kept.proofs.Meeting.{ends_meet, table_meets}
use Rattle.moka_kept.specs.Kept.{CacheLayers, IsKept, MayMake, MayReach, ReachIs, in_hand}
use Rattle.moka_kept.specs.Taking.{Taken, TookBy}
use Rattle.moka_kept.specs.Paths.{EndedWith}

none_so_often : (stay : Stay) (call : ℕ) → stay.times ≡ 0 → times_of stay call ≡ 0
none_so_often stay call e = by (stay.call == call) where
  by : (b : Bool) → cond b stay.times 0 ≡ 0
  by true = e
  by false = refl

-- a flow that stands still has none begun where it had none
pub still_none : {K V E : Type 0} (old new : Flow K V E) → StandsStill old new → HasBegun None old → HasBegun None new
still_none {K} {V} {E} old new stands has =
    let stood : Bool → ℕ → Call K V E → Type 0 =
    λ b n c. wanted None (want_for b (access_of n c)) ≡ Some (access_of n c) in
    subst (λ b. stood b new.call (call_of new)) (sym stands.begun)
    (subst (λ n. stood old.begun n (call_of new)) (sym stands.number)
    (subst (λ (c : Call K V E). stood old.begun old.call c) (sym stands.call) has))

-- a fresh flow has none begun
pub fresh_none : {K V E : Type 0} (flow : Flow K V E) → flow.begun ≡ false → HasBegun None flow
fresh_none {K} {V} {E} flow none = subst (λ b. wanted None (want_for b (access_at flow)) ≡ Some (access_at flow)) (sym none) (by (access_at flow)) where
  by : (a : Access K V E) → wanted None (want_for false a) ≡ Some a
  by (On_table operation) = refl
  by (On_desk made) = refl

-- a plain table decides at each step
pub plain_decides : {K V S H : Type 0} (eq : K → K → Bool) → AlwaysDecides (plain_table {K = K} {V = V} {S = S} {H = H} eq)
plain_decides eq = (plain_left, λ t c. refl)

-- what the desk allows the flow it may want
may_want : {K V E : Type 0} (S H : Type 0) (eq : K → K → Bool) (begun : Option (PlainCall K V)) (flow : Flow K V E) (w : World K V E) → begun ≡ None → HasBegun None flow → May w (access_at flow)
    → MayWant w (operation_in (plain_table {S = S} {H = H} eq) begun) (wish_of flow)
may_want {K} {V} {E} S H eq begun flow w none has may =
    subst (λ (b : Option (PlainCall K V)). MayWant w (operation_in (plain_table {S = S} {H = H} eq) b) (wish_of flow)) (sym none)
    (subst (λ (o : Option (Access K V E)). MatchOption o ⊥ (λ access. May w access)) (sym has) may)

module _ {K V E S H : Type 0} {same : PartialEq.Ghosts K} {hash : Hash.Ghosts K} {build : BuildHasher.Ghosts S H} {hasher : Hasher.Ghosts H} (eq : K → K → Bool) where
  -- an access keeps all of it
  pub gives_reach : VisitsKeepSound K V E eq → (old new : CacheLayers K V E S H same hash build hasher) (access : Access K V E) (given : Got K V E)
      → Serves eq (plain_table eq) in_hand old access given new → given ≢ got.Table table.Going
      → (w : World K V E) → ReachIs eq old w → May w access
      → (after : World K V E) × Gets eq old.call w access given after × ReachIs eq new after
  gives_reach law old new access given serves decided w reach may =
      let served = serves w reach.ground may in
      let size = access_size eq old.call w served.0 access given served.1 in (
        served.0,
        served.1,
        record {
          ground = served.2;
          sound = sound access given may served.0 served.1 decided;
          log = subst (λ n. 0 < n) (sym size) reach.log;
          decided = settled access given served.0 served.1 decided;
          unlisted = unlisted access given served.0 served.1 decided;
        },
      )
    where
      sound : (a : Access K V E) (g : Got K V E) → May w a → (after : World K V E) → Gets eq old.call w a g after → g ≢ got.Table table.Going → SoundDesk eq after.desk
      sound (On_table o) (got.Table table.Going) may after gets apart = absurd (apart refl)
      sound (On_table o) (got.Table (table.Decided answer)) may after gets apart = subst (λ (x : World K V E). SoundDesk eq x.desk) (sym gets.2) reach.sound
      sound (On_table o) (got.Desk f) may after gets apart = absurd gets
      sound (On_desk v) (got.Table t) may after gets apart = absurd gets
      sound (On_desk v) (got.Desk f) may after gets apart = subst (λ (x : World K V E). SoundDesk eq x.desk) (sym gets.1) (law w.desk v reach.sound may)

      settled : (a : Access K V E) (g : Got K V E) → (after : World K V E) → Gets eq old.call w a g after → g ≢ got.Table table.Going → after.stay.times ≡ 0
      settled (On_table o) (got.Table table.Going) after gets apart = absurd (apart refl)
      settled (On_table o) (got.Table (table.Decided answer)) after gets apart = ap (λ (x : World K V E). x.stay.times) gets.2
      settled (On_table o) (got.Desk f) after gets apart = absurd gets
      settled (On_desk v) (got.Table t) after gets apart = absurd gets
      settled (On_desk v) (got.Desk f) after gets apart = ap (λ (x : World K V E). x.stay.times) gets.1 ∙ reach.decided

      unlisted : (a : Access K V E) (g : Got K V E) → (after : World K V E) → Gets eq old.call w a g after → g ≢ got.Table table.Going → (n : ℕ) → after.table.listings n ≡ None
      unlisted (On_table o) (got.Table table.Going) after gets apart n = absurd (apart refl)
      unlisted (On_table o) (got.Table (table.Decided answer)) after gets apart n =
          ap (λ (x : World K V E). x.table.listings n) gets.2 ∙ none_listed eq old.call w.table gets.0 o answer gets.1 reach.unlisted n
      unlisted (On_table o) (got.Desk f) after gets apart n = absurd gets
      unlisted (On_desk v) (got.Table t) after gets apart n = absurd gets
      unlisted (On_desk v) (got.Desk f) after gets apart n = ap (λ (x : World K V E). x.table.listings n) gets.1 ∙ reach.unlisted n

  pub gives_all : {F : Type 0} → VisitsKeepSound K V E eq → (old new : CacheLayers K V E S H same hash build hasher) (wish : Want K V E) (r : Result (Got K V E) F)
      → IfOk r (λ given. OfWanted (account_of (plain_table eq) old) wish (λ access. Serves eq (plain_table eq) in_hand old access given new))
      → IfOk r (λ given. Decides (plain_table eq) given new)
      → IfOk r (λ given. OfWanted (account_of (plain_table eq) old) wish (λ access. Gives eq old.call (ReachIs eq old) access given (ReachIs eq new)))
  gives_all law old new wish (Ok given) serves decides = λ access is w reach may.
      gives_reach law old new access given (serves access is) (decides (plain_decides eq)).0 w reach may
  gives_all law old new wish (Err e) serves decides = tt

  -- so does want of memory
  pub stays_reach : (old new : CacheLayers K V E S H same hash build hasher) → LayersStay eq (plain_table eq) in_hand old new → (w : World K V E) → ReachIs eq old w → ReachIs eq new w
  stays_reach old new stays w reach = record { ground = (stays w reach.ground).0; sound = reach.sound; log = reach.log; decided = reach.decided; unlisted = reach.unlisted }

  -- nothing is begun then where nothing was
  pub none_then : {F : Type 0} (r : Result (Got K V E) F) (old new : CacheLayers K V E S H same hash build hasher) → ((w : World K V E) × GroundIs eq (plain_table eq) in_hand old w)
      → IfOk r (λ given. Decides (plain_table eq) given new) → OnErr r (LayersStay eq (plain_table eq) in_hand old new)
      → OnErr r (account_of (plain_table eq) new ≡ account_of (plain_table eq) old) → old.begun ≡ None → new.begun ≡ None
  none_then (Ok given) old new some decides stays account none = (decides (plain_decides {S = S} {H = H} eq)).1
  none_then (Err e) old new some decides stays account none =
      none_begun (plain_table eq) new.table new.begun (stays some.0 some.1).0.begun.fits
      (ap (λ a. a.begun) account ∙ ap (operation_in (plain_table {S = S} {H = H} eq)) none)

  -- the ground is that of the flow, and serves what it wants
  pub is_on : (layers : CacheLayers K V E S H same hash build hasher) (call : ℕ) (flow : Flow K V E) → call ≡ flow.call → layers.begun ≡ None → HasBegun None flow
      → IsOn (account_of (plain_table eq) (record layers { call = call })) flow
  is_on layers call flow number none has = record {
    call = number;
    begun = subst (λ (b : Option (PlainCall K V)). HasBegun (operation_in (plain_table {S = S} {H = H} eq) b) flow) (sym none) has;
  }

  -- the flow has none begun after the step either
  pub none_on : {A F : Type 0} (r : Result A F) (new : CacheLayers K V E S H same hash build hasher) (flow on : Flow K V E) → HasBegun None flow → new.begun ≡ None
      → OnOk r (IsOn (account_of (plain_table eq) new) on) → OnErr r (StandsStill flow on) → HasBegun None on
  none_on (Ok a) new flow on has none is stands = subst (λ (b : Option (PlainCall K V)). HasBegun (operation_in (plain_table {S = S} {H = H} eq) b) on) none is.begun
  none_on (Err e) new flow on has none is stands = still_none flow on stands has

module _ {K V E S H : Type 0} {same : PartialEq.Ghosts K} {hash : Hash.Ghosts K} {build : BuildHasher.Ghosts S H} {hasher : Hasher.Ghosts H} (eq : K → K → Bool) (holds : K → V → Type 0) (ends : ℕ → Option K) where
  -- the world, as the call of a number that was given out reaches it
  pub reached_by : (layers : CacheLayers K V E S H same hash build hasher) (call : ℕ) (kept : IsKept eq holds ends layers) → call ≤ kept.world.desk.last
      → ReachIs eq (record layers { call = call }) kept.world
  reached_by layers call kept given =
      let t = plain_table {K = K} {V = V} {S = S} {H = H} eq in
      let peak = kept.stands.table.peak in
      let never = none_so_often kept.world.stay call kept.decided in
      let patient : times_of kept.world.stay call + most_on t layers.table ≤ most_undecided kept.world.table = omega (arith, peak, never) in
      record {
        ground = record {
          world = record { table = kept.stands.table; desk = kept.stands.desk; handed = kept.stands.handed; stay = kept.stands.stay };
          begun = subst (λ (b : Option (PlainCall K V)). BegunIs t layers.table call b kept.world.table kept.world.stay) (sym kept.none_begun)
              (record { fits = tt; within = omega arith; patient = patient; listing = kept.unlisted call });
          given = given;
        };
        sound = kept.sound;
        log = kept.log;
        decided = kept.decided;
        unlisted = kept.unlisted;
      }

  -- the world, with a state of the desk that allows what is wanted
  abbrev pub allowing : (layers : CacheLayers K V E S H same hash build hasher) (kept : IsKept eq holds ends layers) (P : DeskPart K V E → Type 0) → AllowsAlike eq layers.desk kept.world.desk P → IsKept eq holds ends layers
  allowing layers kept P alike = record {
    world = record kept.world { desk = with_past kept.world.desk alike.applied alike.notices };
    stands = record { table = kept.stands.table; desk = alike.stands; handed = kept.stands.handed; stay = kept.stands.stay };
    sound = alike.sound kept.sound;
    log = kept.log;
    decided = kept.decided;
    none_begun = kept.none_begun;
    unlisted = kept.unlisted;
    stored = kept.stored;
    ended = kept.ended;
  }

  -- such a world where nothing is begun is kept
  pub kept_of : (layers : CacheLayers K V E S H same hash build hasher) (w : World K V E) → ReachIs eq layers w → layers.begun ≡ None
      → TableFair holds eq w.table.stored → EndsMeet holds ends w.desk.settled → IsKept eq holds ends layers
  kept_of layers w reach none stored ended =
      record { world = w; stands = reach.ground.world; sound = reach.sound; log = reach.log; decided = reach.decided; none_begun = none; unlisted = reach.unlisted; stored = stored; ended = ended }

  pub fits_on : (layers : CacheLayers K V E S H same hash build hasher) (call : ℕ) (flow : Flow K V E) (kept : IsKept eq holds ends layers) → call ≤ kept.world.desk.last → HasBegun None flow
      → May kept.world (access_at flow) → MayReach eq (record layers { call = call }) (wish_of flow)
  fits_on layers call flow kept given has may = (kept.world, reached_by layers call kept given, may_want S H eq layers.begun flow kept.world kept.none_begun has may)

  -- the step of a flow, in a world that the ground stands for
  pub step_ends : (such : Taken V E → Type 0) (old new : CacheLayers K V E S H same hash build hasher) (flow : Flow K V E) (next : Next K V E) (w : World K V E) → TableFair holds eq w.table.stored
      → ReadsSo holds w.desk flow.call (call_of flow) → ReachIs eq old w → ReadsItsKind w.desk flow.call (call_of flow) → May w (access_at flow)
      → ((given : Got K V E) (after : World K V E) → Gets eq flow.call w (access_at flow) given after → TookBy (access_at flow) given such)
      → MovesThere eq (ReachIs eq old) flow next (ReachIs eq new) → EndedWith (facts eq holds) such flow.call (call_of flow) next
  step_ends such old new flow next w stored reads reach kind may took moves =
      let m = moves.3 w reach may in record {
        call = call_of flow;
        came = ([], refl);
        given = moves.0;
        last = record {
          gave = record { world = w; after = m.0; sound = reach.sound; ends = kind; may = may; gets = m.1 };
          stored = stored;
          reads = reads;
        };
        took = took moves.0 m.0 m.1;
        follows = moves.2;
      }

  pub step_keeps : {A F : Type 0} (r : Result A F) (next : A → Next K V E) (old new : CacheLayers K V E S H same hash build hasher) (flow : Flow K V E) (w : World K V E) → TableFair holds eq w.table.stored
      → EndsMeet holds ends w.desk.settled → ((pair : K × V) → pair_by (access_at flow) ≡ Some pair → holds pair.0 pair.1)
      → EndIsNoted holds ends w.desk (access_at flow) → ReachIs eq old w → May w (access_at flow)
      → IfOk r (λ a. MovesThere eq (ReachIs eq old) flow (next a) (ReachIs eq new))
      → OnErr r ((w : World K V E) → ReachIs eq old w → ReachIs eq new w) → new.begun ≡ None → IsKept eq holds ends new
  step_keeps (Ok a) next old new flow w stored ended so noted reach may moves stays none =
      let m = moves.3 w reach may in
      kept_of new m.0 m.2 none (table_meets eq holds flow.call w (access_at flow) moves.0 m.0 m.1 so stored)
      (ends_meet eq holds ends flow.call w (access_at flow) moves.0 m.0 m.1 noted ended)
  step_keeps (Err e) next old new flow w stored ended so noted reach may moves stays none = kept_of new w (stays w reach) none stored ended

-- what a visit needs of the desk, its world has
pub may_of : {K V E : Type 0} (w : World K V E) (access : Access K V E) → MayMake w.desk access → May w access
may_of w (On_table operation) may = may
may_of w (On_desk made) may = may
