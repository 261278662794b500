-- What is true where writes wait to be sent to a keeper.
use Rattle.std.specs.Prelude.{◌≡◌, ◌⊎◌, ◌-◌, List, [], ◌∷◌, ◌++◌, length, take, None, IfSome, unwrap_or}
use Rattle.moka_keepers.specs.declared.write.Write.{Write}
use Rattle.moka_keepers.specs.Keeping.{Kept}
use Rattle.moka_keepers.specs.Writes.{Pairs, after}

-- The truth after a list of sets and dels: the keeper's map at the start, with each of them made, in
-- their order. The keeper may have answered puts before the start.
pub record Truth : Type 0 where
  pub start : Pairs
  pub puts : List Write
  pub writes : List Write

-- the map that is true
abbrev pub true_pairs : Truth → Pairs
true_pairs truth = after truth.start truth.writes

-- the truth at the start, over a keeper that tells this
abbrev pub truth_of : Kept → Truth
truth_of kept =
    record {
      start = unwrap_or kept.pairs (λ key. None);
      puts = unwrap_or kept.puts [];
      writes = [];
    }

-- the truth once the write was made
abbrev pub with_write : Truth → Write → Truth
with_write truth write = record truth { writes = truth.writes ++ write ∷ [] }

-- The writes are a beginning, which was sent, and the rest, which is unsent. Where the keeper tells
-- them, its puts are those before the start and what was sent, each once; and its map is that of
-- the start with what was sent made, and perhaps the first of the unsent, whose put may have failed
-- and made its change.
pub record Owes (unsent : List Write) (kept : Kept) (truth : Truth) (sent : List Write) : Type 0 where
  pub writes : truth.writes ≡ sent ++ unsent
  pub puts : IfSome kept.puts (λ puts. puts ≡ truth.puts ++ sent)
  pub pairs : IfSome kept.pairs (λ pairs. (pairs ≡ after truth.start sent)
      ⊎ (pairs ≡ after truth.start (sent ++ take 1 unsent)))

-- the writes that are off the front
abbrev pub taken_off : List Write → List Write → List Write
taken_off old new = take (length old - length new) old
