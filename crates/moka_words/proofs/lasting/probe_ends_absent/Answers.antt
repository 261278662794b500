use Rattle.moka_words.proofs.Passing.{ends_absent}
use Rattle.moka_words.proofs.lasting.probe_ends_absent.Goals as goal

pub returns : goal.returns
returns c = record { absent = ends_absent }
