-- What holds of the place of one call.
use Rattle.std.specs.Prelude.{◌≡◌, length}
use Rattle.moka_sync.specs.declared.wait_place.WaitPlace.TheInside.{Inside}

-- there is one node
pub record HasNode (p : Inside) : Type 0 where
  pub one : length p.node ≡ 1
