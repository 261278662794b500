-- The number of the write is unused, in a state where the desk rests.
use Rattle.std.proofs.Common.{◌≡◌, map, refl, subst}
use Rattle.moka_hist.specs.Finite.{times}
use Rattle.moka_hist.specs.Visits.{number_of}
use Rattle.moka_hist.specs.declared.visits.Visit.TheVariants as visit
use Rattle.moka_desk_cases.specs.Rests.{resting}
use Rattle.moka_desk_cases.proofs.orders.are_counted.Goals as goal

pub published_after-requires : goal.published_after-requires
published_after-requires c =
    let rest = c.loop-done.invariant in
    let w = rest.1.0 in
    let alike = c.has.ensures.alike c.if-not-has.false (resting w rest.0) (visit.StampMoment c.number.result) rest.1.1 refl refl in
    (alike.applied, (record w { notices = alike.notices }, alike.stands), subst (λ n. times n (map number_of alike.applied) ≡ 0) c.number.ensures alike.holds.1.stands)

pub loop-done-preserved : goal.loop-done-preserved
loop-done-preserved c =
    let rest = c.loop-done.invariant in
    let w = rest.1.0 in
    let alike = c.has.ensures.alike c.if-not-has.false (resting w rest.0) (visit.StampMoment c.number.result) rest.1.1 refl refl in (
      _,
      c.in_ok-published.ensures alike.applied (record w { notices = alike.notices }, alike.stands)
          (subst (λ n. times n (map number_of alike.applied) ≡ 0) c.number.ensures alike.holds.1.stands),
    )
