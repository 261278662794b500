-- The text of what a gateway does.
use Rattle.std.specs.Prelude.{ℕ, List, ◌∷◌, ◌++◌, Option, Some, None, codes, decimal}
use Rattle.moka_lines.specs.Texts.{ended}
use Rattle.moka_gateway_run.specs.Pieces.{shown}

-- what an open is told
abbrev pub client_line : Option ℕ → List ℕ
client_line (Some client) = ended (codes "client " ++ decimal client)
client_line None = ended (codes "refused")

-- a request goes upstream, or is cancelled
abbrev pub fetch_line : ℕ → List ℕ
fetch_line key = ended (codes "up fetch " ++ decimal key)

abbrev pub cancel_line : ℕ → List ℕ
cancel_line key = ended (codes "up cancel " ++ decimal key)

-- a client is sent bytes
abbrev pub to_line : ℕ → List ℕ → List ℕ
to_line client bytes = ended (codes "to " ++ (decimal client ++ 32 ∷ shown bytes))
