-- What lines bring about, however the bytes of a client are cut.
use Rattle.std.specs.Prelude.{◌≡◌, ℕ, List, [], ◌∷◌, ◌++◌, flat_map}
use Rattle.moka_collapsing.specs.declared.out.Out.{Out}
use Rattle.moka_collapsing.specs.declared.out.Out.TheVariants.{Fetch, Cancel, To}
use Rattle.moka_collapsing.specs.Reference.{Reference}
use Rattle.moka_collapsing.specs.Runs.{brought_by, bytes_in, fetch_in}
use Rattle.moka_gateway_run.specs.Playing.{event_of}
use Rattle.moka_gateway_run.specs.declared.lines.Line.{Line}
use Rattle.moka_gateway_run.specs.declared.lines.Line.TheVariants as line

-- what a line brings about, and the gateway afterwards
abbrev pub brought : Reference → Line → List Out × Reference
brought g l = brought_by g (event_of l)

-- and lines, one after the other
abbrev pub brought_all : Reference → List Line → List Out × Reference
brought_all g [] = ([], g)
brought_all g (l ∷ lines) =
    let first : List Out × Reference = brought g l in
    let others : List Out × Reference = brought_all first.1 lines in
    (first.0 ++ others.0, others.1)

-- the key whose upstream request is given up
abbrev pub cancel_in : Out → List ℕ
cancel_in (Fetch key) = []
cancel_in (Cancel key) = key ∷ []
cancel_in (To client bytes) = []

-- the fetches in order, the cancels in order, the bytes of each client and the gateway are the same
pub record IsAlike (a b : List Out × Reference) : Type 0 where
  pub fetches : flat_map fetch_in a.0 ≡ flat_map fetch_in b.0
  pub cancels : flat_map cancel_in a.0 ≡ flat_map cancel_in b.0
  pub bytes : (client : ℕ) → flat_map (bytes_in client) a.0 ≡ flat_map (bytes_in client) b.0
  pub gateway : a.1 ≡ b.1

-- a feed among other lines brings about what two do that one client is fed in a row
abbrev pub CutsMakeNoDifference : Type 0
CutsMakeNoDifference =
    (g : Reference) (before after : List Line) (client : ℕ) (front back : List ℕ) →
    IsAlike (brought_all g (before ++ line.Feed client (front ++ back) ∷ after))
    (brought_all g (before ++ line.Feed client front ∷ line.Feed client back ∷ after))
