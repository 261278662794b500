-- What a load answers, whatever worlds it meets, by what it was told and what it read.
use Rattle.std.specs.Prelude.{◌≡◌, ◌⊎◌, ℕ, Bool, true, false, List, [], ◌∷◌, ◌++◌, Some, Contains}
use Rattle.moka_hist.specs.State.{Call}
use Rattle.moka_hist.specs.Conditions.{may_end}
use Rattle.moka_hist.specs.Step.{next_of}
use Rattle.moka_hist.specs.Run.{fresh_call}
use Rattle.moka_laws.specs.Starts.{kind_loaded}
use Rattle.moka_hist.specs.declared.accesses.Got.{Got}
use Rattle.moka_hist.specs.declared.accesses.Got.TheVariants as got
use Rattle.moka_hist.specs.declared.accesses.Turn.TheVariants as turn
use Rattle.moka_hist.specs.declared.events.Start.{Start}
use Rattle.moka_hist.specs.declared.events.Told.{Told}
use Rattle.moka_hist.specs.declared.events.Told.TheVariants as told
use Rattle.moka_hist.specs.declared.loads.Kind.{Kind}
use Rattle.moka_hist.specs.declared.records.Stored.{Stored}
use Rattle.moka_hist.specs.declared.replies.Answer.{Answer}
use Rattle.moka_hist.specs.declared.replies.Answer.TheVariants as answer
use Rattle.moka_hist.specs.declared.rules.Rules.{Rules}
use Rattle.moka_hist.specs.declared.tables.TableAnswer.TheVariants as table
use Rattle.moka_hist.specs.declared.tables.TableTurn.TheVariants as look
use Rattle.moka_hist.specs.declared.visits.Found.TheVariants as found
use Rattle.moka_hist.specs.declared.visits.Settled.{Settled}
use Rattle.moka_hist.specs.declared.visits.Settled.TheVariants as settled
use Rattle.moka_laws.specs.Loads.{said_of}
use Rattle.moka_laws.specs.Shapes.{MayBeGiven}
use Rattle.moka_needs.specs.Reads.{ReadsItsKind}
use Rattle.moka_shapes.specs.Computes.{taken}

module _ {K V E : Type 0} where
  -- what an access gave by which a call reads that its owner ended so
  abbrev pub read : Settled V E → Got K V E
  read with = got.Desk (found.ReadSettled with)

  -- what an access gave where the table answered with this pair: a look found it, or a write took
  -- its place
  abbrev pub looked : K → Stored V → Got K V E
  looked there stored = got.Table (look.Decided (table.Some there stored))

  -- what an access gave by which it judges that what a look found may be seen
  abbrev pub judged : Got K V E
  judged = got.Desk (found.Judge true)

  -- A load that was told this answers so.
  abbrev pub FollowsTold : Told V E → Answer K V E → Type 0
  FollowsTold (told.Value value) said = said ≡ answer.Loaded value true
  FollowsTold (told.Err error) said = said ≡ answer.InitErr error
  FollowsTold told.Nothing said = said ≡ answer.Nothing
  FollowsTold (told.Op op) said = ⊥
  FollowsTold told.Done said = ⊥
  FollowsTold told.Off said = ⊥

  -- A load of this kind whose owner ended so answers so: an owner of the kind may end so.
  abbrev pub FollowsEnd : Kind → Settled V E → Answer K V E → Type 0
  FollowsEnd kind with said = (may_end kind with ≡ true) × (said_of with false ≡ Some said)

  -- A load of this kind answers what follows from what one of its accesses told it, or from the end
  -- that one of them read; or the value of a pair that the table gave one of them, where one judged
  -- that what was found may be seen; or that it gave up, where it read that an owner was dropped.
  abbrev pub LoadAnswers : Kind → List (Got K V E) → Answer K V E → Type 0
  LoadAnswers kind path said =
      ((given : Told V E) × Contains path (taken given) × FollowsTold given said)
      ⊎ ((with : Settled V E) × Contains path (read with) × FollowsEnd kind with said)
      ⊎ ((there : K) × (stored : Stored V) × Contains path (looked there stored)
      × Contains path judged × (said ≡ answer.Loaded stored.value false))
      ⊎ (Contains path (read settled.Aborted) × (said ≡ answer.RetriesExhausted))

-- some world may give the load of this number this for its next access; an end that it reads by
-- that is one that its kind may have
pub record MayGiveLoad {K V E : Type 0} (eq : K → K → Bool) (n : ℕ) (c : Call K V E)
    (given : Got K V E) : Type 0 where
  pub gives : MayBeGiven eq n c given
  pub ends : ReadsItsKind gives.world.desk n c

-- such worlds may give the load these for its accesses, which lead it from c to d
abbrev pub MayLeadLoad : {K V E : Type 0} → (K → K → Bool) → ℕ → Call K V E → List (Got K V E) →
    Call K V E → Type 0
MayLeadLoad eq n c [] d = d ≡ c
MayLeadLoad {K} {V} {E} eq n c (given ∷ more) d =
    (mid : Call K V E) × MayGiveLoad eq n c given × ((next_of n c given).left ≡ Some mid)
    × MayLeadLoad eq n mid more d

-- each load answers so, from its fresh call on
abbrev pub LoadsTell : (K V E : Type 0) → (K → K → Bool) → Type 0
LoadsTell K V E eq =
    (parts : ℕ) (rules : Rules) (begin : Start K V) (kind : Kind) (n : ℕ)
    (path : List (Got K V E))
    (d : Call K V E) (given : Got K V E) (said : Answer K V E) → kind_loaded begin ≡ Some kind →
    MayLeadLoad eq n (fresh_call parts rules begin) path d → MayGiveLoad eq n d given →
    (next_of n d given).turn ≡ turn.Answer said → LoadAnswers kind (path ++ given ∷ []) said
