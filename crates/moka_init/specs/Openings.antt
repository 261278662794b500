-- With what a notice is opened.
use Rattle.std.specs.Prelude.{Option, Some, None}
use Rattle.moka_hist.specs.Step.{Access, On_table, On_desk}
use Rattle.moka_hist.specs.declared.visits.Visit.{Visit}
use Rattle.moka_hist.specs.declared.visits.Visit.TheVariants as visit
use Rattle.moka_init.specs.declared.opening.Opening.{Opening}

module _ {K V E : Type 0} where
  -- with what the visit opens a notice, if it opens one
  abbrev pub opening_made : Visit K V E → Option Opening
  opening_made (visit.OpenNotice n key value stamp modified cause upsert) =
      Some (record { stamp = stamp; modified = modified; cause = cause; upsert = upsert })
  opening_made _ = None

  -- the same of the access
  abbrev pub opening_of : Access K V E → Option Opening
  opening_of (On_desk made) = opening_made made
  opening_of (On_table operation) = None
