-- What a user wants to know of the requests of bytes.
use Rattle.std.specs.Prelude.{◌≡◌, ℕ, List, ◌++◌}
use Rattle.moka_requests.specs.Requests.{Unfinished, new_requests, nothing_yet, requests_of, unfinished_after}

-- the requests that came one after the other are those of all that was sent
abbrev pub AreOfAllBytes : Type 0
AreOfAllBytes = (sent : List ℕ) → new_requests nothing_yet sent ≡ requests_of sent

-- bytes that come in two pieces make the requests that they make in one, and leave as much
pub record IsSameInPieces (u : Unfinished) (front back : List ℕ) : Type 0 where
  pub requests : new_requests u (front ++ back)
      ≡ new_requests u front ++ new_requests (unfinished_after u front) back
  pub unfinished : unfinished_after u (front ++ back)
      ≡ unfinished_after (unfinished_after u front) back

-- what was sent before stays: further bytes only add requests
abbrev pub OnlyAdds : Type 0
OnlyAdds = (sent more : List ℕ) →
    requests_of (sent ++ more)
    ≡ requests_of sent ++ new_requests (unfinished_after nothing_yet sent) more
