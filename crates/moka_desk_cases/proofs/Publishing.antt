-- The states that a write comes through which is posted, applied and published.
use Rattle.std.proofs.Common.{◌≡◌, ℕ, ◌==◌, Bool, true, false, cond, List, [], ◌∷◌, ◌++◌, map, Some, None, nat_eq, refl, sym, subst}
use Rattle.std.proofs.lemmas.Bool.{eqb-false}
use Rattle.std.specs.declared.cmp.PartialEq as PartialEq
use Rattle.std.specs.declared.hash.Hash as Hash
use Rattle.std.specs.declared.hash.Hasher as Hasher
use Rattle.std.specs.declared.hash.BuildHasher as BuildHasher
use Rattle.moka_hist.specs.Conditions.{HoldsWrite, IsPlaceOf, MayVisit}
use Rattle.moka_hist.specs.Finite.{times}
use Rattle.moka_hist.specs.State.{DeskPart}
use Rattle.moka_hist.specs.Visits.{applied_one, ended_turn, number_of, posted, stamped, standing, took_turn}
use Rattle.moka_hist.specs.declared.visits.Visit.TheVariants as visit
use Rattle.moka_hist.specs.declared.writes.Holding.TheVariants as holding
use Rattle.moka_hist.specs.declared.writes.Write.{Write}
use Rattle.moka_desk.specs.StandsFor.{StandsFor}
use Rattle.moka_desk.specs.declared.state.Desk.{Desk}
use Rattle.moka_desk_cases.specs.Rests.{resting, RestsOnDesk}
use Rattle.moka_desk_cases.proofs.Steps.{put_back}

abbrev pub once_stamped : DeskPart ℕ ℕ ℕ → List Write → ℕ → DeskPart ℕ ℕ ℕ
once_stamped w writes call = stamped (resting w writes) call

abbrev pub once_posted : DeskPart ℕ ℕ ℕ → List Write → ℕ → Write → DeskPart ℕ ℕ ℕ
once_posted w writes call write = posted (once_stamped w writes call) call write

abbrev pub once_taken : DeskPart ℕ ℕ ℕ → List Write → ℕ → Write → DeskPart ℕ ℕ ℕ
once_taken w writes call write = took_turn (once_posted w writes call write) call

abbrev pub once_applied : DeskPart ℕ ℕ ℕ → List Write → ℕ → Write → DeskPart ℕ ℕ ℕ
once_applied w writes call write = applied_one (once_taken w writes call write)

pub may_stamp : (w : DeskPart ℕ ℕ ℕ) (writes : List Write) (call : ℕ) (write : Write) → call ≡ number_of write →
    times (number_of write) (map number_of writes) ≡ 0 → MayVisit (resting w writes) (visit.StampMoment call)
may_stamp w writes call write is unused = (
  refl,
  record {
    stands = subst (λ n. times n (map number_of writes) ≡ 0) (sym is) unused;
    held = λ n h e. cc;
  },
)

pub may_post : (w : DeskPart ℕ ℕ ℕ) (writes : List Write) (call : ℕ) (write : Write) → call ≡ number_of write → HoldsWrite (once_stamped w writes call) call write
may_post w writes call write is = by (call == call) refl where
  by : (b : Bool) → (call == call) ≡ b → IsPlaceOf (cond b (Some (holding.Own (Some w.clock))) None) call write
  by true e = sym is
  by false e = absurd (eqb-false call call e refl)

pub rests : {S H : Type 0} {same : PartialEq.Ghosts ℕ} {hash : Hash.Ghosts ℕ} {build : BuildHasher.Ghosts S H} {hasher : Hasher.Ghosts H} (w : DeskPart ℕ ℕ ℕ) (writes : List Write) (call : ℕ) (write : Write) (desk : Desk ℕ ℕ ℕ S H same hash build hasher) →
    StandsFor nat_eq desk (ended_turn (once_applied w writes call write)) → RestsOnDesk desk (writes ++ write ∷ [])
rests w writes call write desk stands =
    let last : DeskPart ℕ ℕ ℕ = record w { published = standing (writes ++ write ∷ []) } in
    (last, subst (λ h. StandsFor nat_eq desk (record (resting last (writes ++ write ∷ [])) { holding = h })) (put_back call None (Some (holding.Own (Some w.clock)))) stands)
