-- The bytes that a client is sent by what is to be done.
use Rattle.std.proofs.Common.{◌≡◌, ℕ, ◌==◌, cond, Bool, true, false, List, [], ◌∷◌, ◌++◌, map, flat_map, refl, sym, ap, ◌∙◌, append_assoc}
use Rattle.std.proofs.lemmas.List.{append-nil}
use Rattle.moka_collapsing.specs.declared.out.Out.{Out}
use Rattle.moka_collapsing.specs.declared.out.Out.TheVariants.{Fetch, Cancel}
use Rattle.moka_collapsing.specs.Clients.{due_bytes}
use Rattle.moka_collapsing.specs.Reference.{Come, to_client}
use Rattle.moka_collapsing.specs.Runs.{bytes_in, fetch_in}

pub outs_append : (f : Out → List ℕ) (xs ys : List Out) → flat_map f (xs ++ ys) ≡ flat_map f xs ++ flat_map f ys
outs_append f [] ys = refl
outs_append f (x ∷ xs) ys = ap (λ l. f x ++ l) (outs_append f xs ys) ∙ sym (append_assoc (f x) (flat_map f xs) (flat_map f ys))

none_sent : (client : ℕ) (keys : List ℕ) → flat_map (bytes_in client) (map Fetch keys) ≡ []
none_sent client [] = refl
none_sent client (k ∷ keys) = none_sent client keys

pub none_cancelled_to : (client : ℕ) (keys : List ℕ) → flat_map (bytes_in client) (map Cancel keys) ≡ []
none_cancelled_to client [] = refl
none_cancelled_to client (k ∷ keys) = none_cancelled_to client keys

cond_nil : (b : Bool) → ◌≡◌ {A = List ℕ} [] (cond b [] [])
cond_nil true = refl
cond_nil false = refl

pub to_bytes : (client number : ℕ) (bytes : List ℕ) → flat_map (bytes_in client) (to_client number bytes) ≡ cond (number == client) bytes []
to_bytes client number [] = cond_nil (number == client)
to_bytes client number (b ∷ bytes) = append-nil (cond (number == client) (b ∷ bytes) [])

-- what a feed is to have done
abbrev pub outs_at : ℕ → Come → List Out
outs_at number come = map Fetch come.fetches ++ to_client number (due_bytes come.client)

pub bytes_at : (client number : ℕ) (come : Come) → flat_map (bytes_in client) (outs_at number come) ≡ cond (number == client) (due_bytes come.client) []
bytes_at client number come =
    outs_append (bytes_in client) (map Fetch come.fetches) (to_client number (due_bytes come.client))
    ∙ ap (λ l. l ++ flat_map (bytes_in client) (to_client number (due_bytes come.client))) (none_sent client come.fetches)
    ∙ to_bytes client number (due_bytes come.client)

-- ---- the keys that are fetched

fetched : (keys : List ℕ) → flat_map fetch_in (map Fetch keys) ≡ keys
fetched [] = refl
fetched (k ∷ keys) = ap (λ l. k ∷ l) (fetched keys)

to_fetches : (number : ℕ) (bytes : List ℕ) → flat_map fetch_in (to_client number bytes) ≡ []
to_fetches number [] = refl
to_fetches number (b ∷ bytes) = refl

pub fetches_at : (number : ℕ) (come : Come) → flat_map fetch_in (outs_at number come) ≡ come.fetches
fetches_at number come =
    outs_append fetch_in (map Fetch come.fetches) (to_client number (due_bytes come.client))
    ∙ ap (λ l. l ++ flat_map fetch_in (to_client number (due_bytes come.client))) (fetched come.fetches)
    ∙ ap (λ l. come.fetches ++ l) (to_fetches number (due_bytes come.client))
    ∙ append-nil come.fetches
