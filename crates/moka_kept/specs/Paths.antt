-- The accesses that a poll makes.
use Rattle.std.specs.Prelude.{◌≡◌, ℕ, Bool, List, [], ◌∷◌, Some}
use Rattle.moka_laws.specs.Fair.{TableFair}
use Rattle.moka_kept.specs.Facts.{Facts, ReadsSo}
use Rattle.moka_hist.specs.Next.{Next}
use Rattle.moka_hist.specs.SoundDesk.{SoundDesk}
use Rattle.moka_hist.specs.State.{Call, World}
use Rattle.moka_hist.specs.Step.{Access, Gets, May, access_of, next_of}
use Rattle.moka_hist.specs.declared.accesses.Got.{Got}
use Rattle.moka_hist.specs.declared.accesses.Turn.{Turn}
use Rattle.moka_needs.specs.Reads.{ReadsItsKind}
use Rattle.moka_kept.specs.Taking.{Taken, TookBy}

module _ {K V E : Type 0} where
  -- Some sound world gave the call of this number this for its next access, and allowed it. An
  -- owner's end that the call reads by it is one of the kind that the call waits for.
  pub record IsGiven (eq : K → K → Bool) (n : ℕ) (c : Call K V E) (given : Got K V E)
      : Type 0 where
    pub world : World K V E
    pub after : World K V E
    pub sound : SoundDesk eq world.desk
    pub ends : ReadsItsKind world.desk n c
    pub may : May world (access_of n c)
    pub gets : Gets eq n world (access_of n c) given after

  -- The world that gave it meets the fact: each pair that its table stores, and what the call reads of
  -- an owner's end by that access, if it reads one.
  pub record GivenSo (f : Facts K V) (n : ℕ) (c : Call K V E) (given : Got K V E) : Type 0 where
    pub gave : IsGiven f.eq n c given
    pub stored : TableFair f.holds f.eq gave.world.table.stored
    pub reads : ReadsSo f.holds gave.world.desk n c

  -- The accesses with what they gave lead the call of this number from c to d: each is the one at
  -- which the call stood, and was given so, by a world that meets the fact; what it gave left the call
  -- as the next one finds it, going, waiting or asking; and each answer to its own ask, or of its
  -- replace test on a value, that the call took by them is such.
  abbrev pub LeadsWith : Facts K V → (Taken V E → Type 0) → ℕ → Call K V E
      → List (Access K V E × Got K V E) → Call K V E → Type 0
  LeadsWith f such n c [] d = d ≡ c
  LeadsWith f such n c (made ∷ more) d =
      (mid : Call K V E) × (made.0 ≡ access_of n c) × GivenSo f n c made.1
      × ((next_of n c made.1).left ≡ Some mid) × TookBy made.0 made.1 such
      × LeadsWith f such n mid more d

  -- a poll that answers nothing yet led the call so, by some accesses or none
  abbrev pub CameWith : Facts K V → (Taken V E → Type 0) → ℕ → Call K V E → Call K V E → Type 0
  CameWith f such n c d =
      (path : List (Access K V E × Got K V E)) × LeadsWith f such n c path d

  -- it led the call up to an access after which this follows
  pub record EndedWith (f : Facts K V) (such : Taken V E → Type 0) (n : ℕ) (c : Call K V E)
      (next : Next K V E) : Type 0 where
    pub call : Call K V E
    pub came : CameWith f such n c call
    pub given : Got K V E
    pub last : GivenSo f n call given
    pub took : TookBy (access_of n call) given such
    pub follows : next ≡ next_of n call given

  -- The call's last access left it so, with this turn: waiting, where something was missing in the
  -- world that gave it; or asking this.
  pub record LeftWith (eq : K → K → Bool) (n : ℕ) (left : Call K V E) (turn : Turn K V E)
      : Type 0 where
    pub call : Call K V E
    pub given : Got K V E
    pub last : IsGiven eq n call given
    pub follows : record { left = Some left; turn = turn } ≡ next_of n call given
