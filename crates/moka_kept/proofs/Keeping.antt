-- What happens to the desk alone leaves a world that is kept.
use Rattle.std.proofs.Common.{◌≡◌, ◌≤◌, ◌<◌, ◌+◌, ◌==◌, ℕ, Bool, true, false, cond, nat_lt, Option, Some, None, MatchOption, IfNone, OnSome, is_some, refl, sym, ap, ◌∙◌, subst, arith}
use Rattle.std.specs.declared.cmp.PartialEq as PartialEq
use Rattle.std.specs.declared.hash.Hash as Hash
use Rattle.std.specs.declared.hash.Hasher as Hasher
use Rattle.std.specs.declared.hash.BuildHasher as BuildHasher
use Rattle.std.proofs.lemmas.Bool.{ltb-true}
use Rattle.moka_hist.specs.Conditions.{MayLeave, MayVisit}
use Rattle.moka_hist.specs.Visits.{makes}
use Rattle.moka_hist.specs.declared.visits.Visit.TheVariants as visit
use Rattle.moka_desk.specs.Forgetting.{forgotten}
use Rattle.moka_hist.specs.Dropping.{left}
use Rattle.moka_hist.specs.Run.{last_call}
use Rattle.moka_hist.specs.SoundDesk.{SoundDesk}
use Rattle.moka_hist.specs.State.{DeskPart, Handed}
use Rattle.moka_hist.specs.declared.writes.Write.{Write}
use Rattle.moka_desk.specs.StandsFor.{StandsFor}
use Rattle.moka_desk.specs.declared.state.Desk.{Desk}
use Rattle.moka_hist.specs.Telling.{told}
use Rattle.moka_hist.specs.declared.events.Told.{Told}
use Rattle.moka_hist.specs.declared.events.Told.TheVariants as tells
use Rattle.std.proofs.lemmas.Bool.{eqb-true, false≢true}
use Rattle.std.proofs.lemmas.Option.{none-some}
use Rattle.moka_laws.specs.Sound.{ClockKeepsSound, EnteringKeepsSound, LeavingKeepsSound, TellingKeepsSound, VisitsKeepSound}
use Rattle.moka_laws.proofs.Counting.{put_here}
use Rattle.moka_kept.specs.Taking.{is_of_call}
use Rattle.moka_layers.specs.Handing.{HandedAlike, handed_by, handed_to, ids_of}
use Rattle.moka_kept.specs.Facts.{EndsMeet}
use Rattle.moka_kept.proofs.Meeting.{left_ends}
use Rattle.moka_kept.specs.Kept.{CacheLayers, IsKept, IsToldTo, in_hand}

-- what a call was told is there to be taken
there_at : {K V E : Type 0} (w : DeskPart K V E) (call : ℕ) (answer : Told V E) → is_of_call answer ≡ true → (told w call answer).told call ≡ Some answer
there_at w call (tells.Value value) own = put_here w.told call (Some (tells.Value value))
there_at w call tells.Nothing own = put_here w.told call (Some tells.Nothing)
there_at w call (tells.Err error) own = put_here w.told call (Some (tells.Err error))
there_at w call (tells.Op op) own = put_here w.told call (Some (tells.Op op))
there_at w call tells.Done own = absurd (false≢true own)
there_at w call tells.Off own = absurd (false≢true own)

module _ {K V E S H : Type 0} {same : PartialEq.Ghosts K} {hash : Hash.Ghosts K} {build : BuildHasher.Ghosts S H} {hasher : Hasher.Ghosts H} (eq : K → K → Bool) (holds : K → V → Type 0) (ends : ℕ → Option K) where
  -- the world with a sound desk that the new one stands for is kept
  with_desk_at : (layers : CacheLayers K V E S H same hash build hasher) (desk : Desk K V E S H same hash build hasher) (w : DeskPart K V E) (kept : IsKept eq holds ends layers) → StandsFor eq desk w → SoundDesk eq w → w.size ≡ kept.world.desk.size → handed_to kept.world.desk ≡ handed_to w
      → kept.world.desk.last ≤ w.last → (EndsMeet holds ends kept.world.desk.settled → EndsMeet holds ends w.settled) → (after : IsKept eq holds ends (record layers { desk = desk })) × (after.world.desk ≡ w)
  with_desk_at layers desk w kept stands sound size handed last ended =
      let stay = kept.stands.stay in (
        record {
          world = record kept.world { desk = w };
          stands = record { table = kept.stands.table; desk = stands; handed = subst (λ (these : Handed K V). HandedAlike (handed_by in_hand layers.tests (ids_of layers.ids)) these) handed kept.stands.handed; stay = omega (arith, stay, last) };
          sound = sound;
          log = subst (λ n. 0 < n) (sym size) kept.log;
          decided = kept.decided;
          none_begun = kept.none_begun;
          unlisted = kept.unlisted;
          stored = kept.stored;
          ended = ended kept.ended;
        },
        refl,
      )

  pub with_desk : (layers : CacheLayers K V E S H same hash build hasher) (desk : Desk K V E S H same hash build hasher) (w : DeskPart K V E) (kept : IsKept eq holds ends layers) → StandsFor eq desk w → SoundDesk eq w → w.size ≡ kept.world.desk.size → handed_to kept.world.desk ≡ handed_to w
      → kept.world.desk.last ≤ w.last → (EndsMeet holds ends kept.world.desk.settled → EndsMeet holds ends w.settled) → IsKept eq holds ends (record layers { desk = desk })
  with_desk layers desk w kept stands sound size handed last ended = (with_desk_at layers desk w kept stands sound size handed last ended).0

  -- the clock moves on, or stays
  pub kept_at : (layers : CacheLayers K V E S H same hash build hasher) (desk : Desk K V E S H same hash build hasher) (moment : ℕ) → ClockKeepsSound K V E eq
      → ((w : DeskPart K V E) → StandsFor eq layers.desk w → StandsFor eq desk (cond (nat_lt moment w.clock) w (record w { clock = moment })))
      → IsKept eq holds ends layers → IsKept eq holds ends (record layers { desk = desk })
  kept_at layers desk moment law makes kept = by (nat_lt moment kept.world.desk.clock) (makes kept.world.desk kept.stands.desk) where
    by : (b : Bool) → StandsFor eq desk (cond b kept.world.desk (record kept.world.desk { clock = moment })) → IsKept eq holds ends (record layers { desk = desk })
    by true stands = with_desk layers desk kept.world.desk kept stands kept.sound refl refl (omega arith) (λ h. h)
    by false stands = with_desk layers desk (record kept.world.desk { clock = moment }) kept stands (law kept.world.desk moment kept.sound) refl refl (omega arith) (λ h. h)

  -- it is forgotten when some records were seen
  pub kept_forgot : (layers : CacheLayers K V E S H same hash build hasher) (desk : Desk K V E S H same hash build hasher) (gone : ℕ → Bool)
      → ((w : DeskPart K V E) → StandsFor eq layers.desk w → StandsFor eq desk (forgotten gone w))
      → IsKept eq holds ends layers → IsKept eq holds ends (record layers { desk = desk })
  kept_forgot layers desk gone makes kept =
      let sound = kept.sound in
      with_desk layers desk (forgotten gone kept.world.desk) kept (makes kept.world.desk kept.stands.desk)
      (record {
        once = sound.once;
        held_apart = sound.held_apart;
        one_holder = sound.one_holder;
        one_owner = sound.one_owner;
        owns = sound.owns;
        owned = sound.owned;
        one_locker = sound.one_locker;
        locks = sound.locks;
        locked = sound.locked;
        keeps = sound.keeps;
        apart = sound.apart;
        one_id = sound.one_id;
      }) refl refl (omega arith) (λ h. h)

  -- all is invalidated
  pub kept_hidden : (layers : CacheLayers K V E S H same hash build hasher) (desk : Desk K V E S H same hash build hasher) → VisitsKeepSound K V E eq
      → ((w : DeskPart K V E) → StandsFor eq layers.desk w → MayVisit w visit.InvalidateAll → StandsFor eq desk (makes eq w visit.InvalidateAll))
      → IsKept eq holds ends layers → IsKept eq holds ends (record layers { desk = desk })
  kept_hidden layers desk law hides kept =
      with_desk layers desk (makes eq kept.world.desk visit.InvalidateAll) kept (hides kept.world.desk kept.stands.desk tt)
      (law kept.world.desk visit.InvalidateAll kept.sound tt) refl refl (omega arith) (λ h. h)

  -- it is at the moment or later then
  pub clock_at : (layers : CacheLayers K V E S H same hash build hasher) (desk : Desk K V E S H same hash build hasher) (moment : ℕ)
      → ((w : DeskPart K V E) → StandsFor eq layers.desk w → StandsFor eq desk (cond (nat_lt moment w.clock) w (record w { clock = moment })))
      → IsKept eq holds ends layers → (w : DeskPart K V E) → StandsFor eq desk w → moment ≤ w.clock
  clock_at layers desk moment makes kept w stands = by (nat_lt moment kept.world.desk.clock) refl (makes kept.world.desk kept.stands.desk) where
    by : (b : Bool) → nat_lt moment kept.world.desk.clock ≡ b → StandsFor eq desk (cond b kept.world.desk (record kept.world.desk { clock = moment })) → moment ≤ w.clock
    by true e at = let is : kept.world.desk.clock ≡ w.clock = sym at.clock ∙ stands.clock in let before = ltb-true moment kept.world.desk.clock e in omega (arith, before, is)
    by false e at = let is : moment ≡ w.clock = sym at.clock ∙ stands.clock in omega (arith, is)

  -- a number is given out, or none is left
  pub kept_entered : (layers : CacheLayers K V E S H same hash build hasher) (desk : Desk K V E S H same hash build hasher) (r : Option ℕ) → EnteringKeepsSound K V E eq
      → ((w : DeskPart K V E) → StandsFor eq layers.desk w → r ≡ cond (w.last == last_call) None (Some (w.last + 1)))
      → ((w : DeskPart K V E) → StandsFor eq layers.desk w → MatchOption r (StandsFor eq desk w) (λ n. StandsFor eq desk (record w { last = n })))
      → IsKept eq holds ends layers → IsKept eq holds ends (record layers { desk = desk })
  kept_entered layers desk None law finds makes kept = with_desk layers desk kept.world.desk kept (makes kept.world.desk kept.stands.desk) kept.sound refl refl (omega arith) (λ h. h)
  kept_entered layers desk (Some n) law finds makes kept =
      with_desk layers desk (record kept.world.desk { last = n }) kept (makes kept.world.desk kept.stands.desk) (law kept.world.desk n kept.sound) refl refl
      (next (kept.world.desk.last == last_call) (finds kept.world.desk kept.stands.desk)) (λ h. h)
    where
      next : (b : Bool) → Some n ≡ cond b None (Some (kept.world.desk.last + 1)) → kept.world.desk.last ≤ n
      next true e = absurd (cc)
      next false e = let is : n ≡ kept.world.desk.last + 1 = cc in omega (arith, is)

  -- the number that is given out is the next
  pub next_entered : (layers : CacheLayers K V E S H same hash build hasher) (desk : Desk K V E S H same hash build hasher) (n m : ℕ) → m ≡ n
      → ((w : DeskPart K V E) → StandsFor eq layers.desk w → Some n ≡ cond (w.last == last_call) None (Some (w.last + 1)))
      → ((w : DeskPart K V E) → StandsFor eq layers.desk w → StandsFor eq desk (record w { last = n }))
      → (w : DeskPart K V E) → StandsFor eq layers.desk w → (m ≡ w.last + 1) × StandsFor eq desk (record w { last = m })
  next_entered layers desk n m is finds makes w stands =
      (is ∙ next (w.last == last_call) (finds w stands), subst (λ x. StandsFor eq desk (record w { last = x })) (sym is) (makes w stands))
    where
      next : (b : Bool) → Some n ≡ cond b None (Some (w.last + 1)) → n ≡ w.last + 1
      next true e = absurd (cc)
      next false e = cc

  -- some sound desk has given it out last
  -- and none is 0
  pub first_entered : (layers : CacheLayers K V E S H same hash build hasher) (n m : ℕ) → m ≡ n
      → ((w : DeskPart K V E) → StandsFor eq layers.desk w → Some n ≡ cond (w.last == last_call) None (Some (w.last + 1)))
      → IsKept eq holds ends layers → 0 < m
  first_entered layers n m is finds kept = subst (λ x. 0 < x) (sym is) (first (kept.world.desk.last == last_call) (finds kept.world.desk kept.stands.desk)) where
    first : (b : Bool) → Some n ≡ cond b None (Some (kept.world.desk.last + 1)) → 0 < n
    first true e = absurd (cc)
    first false e = let is : n ≡ kept.world.desk.last + 1 = cc in omega (arith, is)

  -- where none is left, the greatest was given out
  pub spent_entered : (layers : CacheLayers K V E S H same hash build hasher) (r : Option ℕ)
      → ((w : DeskPart K V E) → StandsFor eq layers.desk w → r ≡ cond (w.last == last_call) None (Some (w.last + 1)))
      → IfNone r ((w : DeskPart K V E) → StandsFor eq layers.desk w → w.last ≡ last_call)
  spent_entered layers (Some n) finds = tt
  spent_entered layers None finds = λ w stands. by w (w.last == last_call) refl (finds w stands) where
    by : (w : DeskPart K V E) (b : Bool) → (w.last == last_call) ≡ b → None ≡ cond b None (Some (w.last + 1)) → w.last ≡ last_call
    by w true is found = eqb-true w.last last_call is
    by w false is found = absurd (none-some (w.last + 1) found)

  -- a call leaves
  pub kept_left : (layers : CacheLayers K V E S H same hash build hasher) (desk : Desk K V E S H same hash build hasher) (call : ℕ) (held : Option Write) → LeavingKeepsSound K V E eq
      → ((w : DeskPart K V E) → StandsFor eq layers.desk w → MayLeave w call held → StandsFor eq desk (left w call held))
      → (kept : IsKept eq holds ends layers) → MayLeave kept.world.desk call held → IsKept eq holds ends (record layers { desk = desk })
  kept_left layers desk call held law makes kept may =
      with_desk layers desk (left kept.world.desk call held) kept (makes kept.world.desk kept.stands.desk may) (law kept.world.desk call held kept.sound may) refl refl (omega arith)
      (left_ends eq holds ends kept.world.desk call held)

  -- a call is told an answer, and it is there to be taken then
  told_at : (layers : CacheLayers K V E S H same hash build hasher) (desk : Desk K V E S H same hash build hasher) (call : ℕ) (answer : Told V E) → TellingKeepsSound K V E eq
      → (kept : IsKept eq holds ends layers) → StandsFor eq desk (told kept.world.desk call answer)
      → (after : IsKept eq holds ends (record layers { desk = desk })) × (after.world.desk ≡ told kept.world.desk call answer)
  told_at layers desk call answer law kept stands = by answer stands (law kept.world.desk call answer kept.sound) where
    by : (t : Told V E) → StandsFor eq desk (told kept.world.desk call t) → SoundDesk eq (told kept.world.desk call t)
        → (after : IsKept eq holds ends (record layers { desk = desk })) × (after.world.desk ≡ told kept.world.desk call t)
    by (tells.Value value) stands sound = with_desk_at layers desk (told kept.world.desk call (tells.Value value)) kept stands sound refl refl (omega arith) (λ h. h)
    by tells.Nothing stands sound = with_desk_at layers desk (told kept.world.desk call tells.Nothing) kept stands sound refl refl (omega arith) (λ h. h)
    by (tells.Err error) stands sound = with_desk_at layers desk (told kept.world.desk call (tells.Err error)) kept stands sound refl refl (omega arith) (λ h. h)
    by (tells.Op op) stands sound = with_desk_at layers desk (told kept.world.desk call (tells.Op op)) kept stands sound refl refl (omega arith) (λ h. h)
    by tells.Done stands sound = with_desk_at layers desk (told kept.world.desk call tells.Done) kept stands sound refl refl (omega arith) (λ h. h)
    by tells.Off stands sound = with_desk_at layers desk (told kept.world.desk call tells.Off) kept stands sound refl refl (omega arith) (λ h. h)

  pub kept_told : {A : Type 0} (layers : CacheLayers K V E S H same hash build hasher) (desk : Desk K V E S H same hash build hasher) (call : ℕ) (answer : Told V E) (r : Option A) → TellingKeepsSound K V E eq
      → ((w : DeskPart K V E) → StandsFor eq layers.desk w → StandsFor eq desk (cond (is_some r) (told w call answer) w))
      → IsKept eq holds ends layers → IsKept eq holds ends (record layers { desk = desk })
  kept_told layers desk call answer (Some a) law makes kept = (told_at layers desk call answer law kept (makes kept.world.desk kept.stands.desk)).0
  kept_told layers desk call answer None law makes kept = with_desk layers desk kept.world.desk kept (makes kept.world.desk kept.stands.desk) kept.sound refl refl (omega arith) (λ h. h)

  pub told_there : {A : Type 0} (layers : CacheLayers K V E S H same hash build hasher) (desk : Desk K V E S H same hash build hasher) (call : ℕ) (answer : Told V E) (r : Option A) → TellingKeepsSound K V E eq
      → ((w : DeskPart K V E) → StandsFor eq layers.desk w → StandsFor eq desk (cond (is_some r) (told w call answer) w))
      → IsKept eq holds ends layers → is_of_call answer ≡ true → OnSome r (IsToldTo eq holds ends (record layers { desk = desk }) call answer)
  told_there layers desk call answer (Some a) law makes kept own =
      let after = told_at layers desk call answer law kept (makes kept.world.desk kept.stands.desk) in record {
        kept = after.0;
        there = ap (λ (w : DeskPart K V E). w.told call) after.1 ∙ there_at kept.world.desk call answer own;
      }
  told_there layers desk call answer None law makes kept own = tt
