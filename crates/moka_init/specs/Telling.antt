-- What a ground that tells its accesses has told after a poll.
use Rattle.std.specs.Prelude.{◌≡◌, ℕ, List, [], ◌∷◌, ◌++◌, length, Option, Some}
use Rattle.moka_hist.specs.State.{Call}
use Rattle.moka_hist.specs.Next.{Next}
use Rattle.moka_hist.specs.Step.{Access, LeadsAlong, access_of, next_of}
use Rattle.moka_hist.specs.declared.accesses.Got.{Got}

-- an access with what it gave
abbrev pub Made : (K V E : Type 0) → Type 0
Made K V E = Access K V E × Got K V E

module _ {K V E : Type 0} where
  -- beside what was told before, the one access of a step, from whose answer the turn and the call
  -- that is left follow
  abbrev pub TellsStep : ℕ → Call K V E → Next K V E → List (Made K V E) → Option (List (Made K V E))
      → Type 0
  TellsStep n c next before after =
      (given : Got K V E) × (next ≡ next_of n c given)
      × (after ≡ Some (before ++ (access_of n c, given) ∷ []))

  -- beside what was told before, the accesses of k steps by which the call goes on from c to d
  pub record TellsSteps (k n : ℕ) (c d : Call K V E) (before : List (Made K V E))
      (after : Option (List (Made K V E))) : Type 0 where
    -- the accesses of the steps, in order
    pub path : List (Made K V E)
    -- one for each step
    pub steps : length path ≡ k
    -- each is the access that the call stood at, and it left the call going
    pub leads : LeadsAlong n c path d
    -- they are told after what was told before, and nothing else is
    pub told : after ≡ Some (before ++ path)

  -- beside what was told before, the accesses of the steps that left the call going, and that of
  -- the last step
  pub record TellsPoll (n : ℕ) (c : Call K V E) (next : Next K V E) (before : List (Made K V E))
      (after : Option (List (Made K V E))) : Type 0 where
    -- the accesses of the steps that left the call going, in order
    pub path : List (Made K V E)
    -- the call at its last step
    pub call : Call K V E
    -- each access is the one that the call stood at, and it left the call going
    pub leads : LeadsAlong n c path call
    -- what the last access gave
    pub given : Got K V E
    -- the turn and the call that is left follow from it
    pub turns : next ≡ next_of n call given
    -- all are told after what was told before, and nothing else is
    pub told : after ≡ Some ((before ++ path) ++ (access_of n call, given) ∷ [])
