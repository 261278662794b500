-- What is pending of a key: how many unsent writes it has, and what the last of them leaves.
use Rattle.std.specs.Prelude.{ℕ, ◌+◌, ◌-◌, nat_lt, cond, List, Option, Some, None}
use Rattle.std.specs.Option.{option_map}
use Rattle.moka_keepers.specs.declared.write.Write.{Write}
use Rattle.moka_keepers.specs.declared.unsent.Pending.{Pending}
use Rattle.moka_keepers.specs.Writes.{count_of, last_of}

-- what is pending of the key where these writes are unsent: nothing where none is of it
abbrev pub pending_of : ℕ → List Write → Option Pending
pending_of key writes =
    option_map (λ last. record { count = count_of key writes; last = last }) (last_of key writes)

-- what is pending of a key once one more write of it leaves this
abbrev pub noted : Option Pending → Option ℕ → Pending
noted None last = record { count = 1; last = last }
noted (Some known) last = record { count = known.count + 1; last = last }

-- what is pending of a key once its oldest write was sent
abbrev pub less : Option Pending → Option Pending
less None = None
less (Some known) = cond (nat_lt 1 known.count) (Some (record known { count = known.count - 1 })) None
