-- The keys that are stored in a cache before a keeper, each once.
use Rattle.std.specs.Prelude.{ℕ, ◌==◌, nat_eq, not, cond, List, [], ◌∷◌, ◌++◌, Option, Some, None}
use Rattle.std.specs.List.{filter}
use Rattle.std.specs.Set.{is_member}

-- the keys with this one among them
abbrev pub with_key : ℕ → List ℕ → List ℕ
with_key key keys = cond (is_member nat_eq keys key) keys (keys ++ key ∷ [])

-- the keys without this one
abbrev pub without_key : ℕ → List ℕ → List ℕ
without_key key keys = filter (λ other. not (key == other)) keys

-- the keys once a write was made: a set adds its key, a del takes it out
abbrev pub keys_after : ℕ → Option ℕ → List ℕ → List ℕ
keys_after key None keys = without_key key keys
keys_after key (Some value) keys = with_key key keys

-- the keys once a get answered this: what it found is stored
abbrev pub keys_found : ℕ → Option ℕ → List ℕ → List ℕ
keys_found key None keys = keys
keys_found key (Some value) keys = with_key key keys
