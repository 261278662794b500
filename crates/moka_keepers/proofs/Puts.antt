-- Puts that fail.
use Rattle.std.proofs.Common.{◌≡◌, ◌⊎◌, inl, inr, ℕ, nat_eq, Option, Some, None, IfSome, IsSome, refl, sym, ap, ◌∙◌, subst}
use Rattle.std.proofs.lemmas.Bool.{false≢true}
use Rattle.moka_keepers.specs.declared.write.Write.{Write}
use Rattle.std.specs.HashMap.{get}
use Rattle.moka_keepers.specs.declared.map_keeper.MapKeeper.{MapKeeper}
use Rattle.moka_keepers.specs.Counts.{next_in_64}
use Rattle.moka_keepers.specs.MapKept.{told_all}
use Rattle.moka_keepers.specs.Keeping.{HasFailed, HasPut, Kept, pairs_with}
use Rattle.moka_keepers.specs.Writes.{Pairs}

same_or : {A : Type 0} (o : Option A) (P : A → Type 0) → IfSome o (λ now. (o ≡ Some now) ⊎ P now)
same_or None P = tt
same_or (Some x) P = inl refl

same_one : {A : Type 0} (o : Option A) → IfSome o (λ now. o ≡ Some now)
same_one None = tt
same_one (Some x) = refl

-- a put that left all failed
pub failed_left : (old : Kept) (w : Write) (new : Kept) → new ≡ old → HasFailed old w new
failed_left old w new e =
    subst (λ (k : Kept). HasFailed old w k) (sym e)
    (record {
      pairs = same_or old.pairs (λ now. pairs_with old.pairs w ≡ Some now);
      puts = same_one old.puts;
    })

put_from : (o n : Option Pairs) (w : Write) → IfSome n (λ now. pairs_with o w ≡ Some now) → IsSome n → IsSome o
put_from o None w e h = absurd (false≢true h)
put_from None (Some now) w e h = absurd (cc)
put_from (Some before) (Some now) w e h = refl

failed_from : (o n : Option Pairs) (w : Write) → IfSome n (λ now. (o ≡ Some now) ⊎ (pairs_with o w ≡ Some now)) → IsSome n → IsSome o
failed_from o None w e h = absurd (false≢true h)
failed_from None (Some now) w (inl e) h = absurd (cc)
failed_from None (Some now) w (inr e) h = absurd (cc)
failed_from (Some before) (Some now) w e h = refl

-- a keeper that tells its map after a put told it before
pub put_tells : (before : Kept) (w : Write) (after : Kept) → HasPut before w after → IsSome after.pairs → IsSome before.pairs
put_tells before w after put h = put_from before.pairs after.pairs w put.pairs h

pub failed_tells : (before : Kept) (w : Write) (after : Kept) → HasFailed before w after → IsSome after.pairs → IsSome before.pairs
failed_tells before w after failed h = failed_from before.pairs after.pairs w failed.pairs h

-- a keeper of the same pairs and puts tells the same
pub told_same : (new old k : MapKeeper) → new ≡ record k { faults = next_in_64 k.faults } →
    ((q : ℕ) → get nat_eq k.pairs q ≡ get nat_eq old.pairs q) → k.puts.items ≡ old.puts.items → told_all new ≡ told_all old
told_same new old k is pairs puts =
    ap told_all is ∙ (λ i. record { pairs = Some (λ q. pairs q i); puts = Some (puts i) })

pub failed_so : (new old k : MapKeeper) (w : Write) → new ≡ record k { faults = next_in_64 k.faults } →
    ((q : ℕ) → get nat_eq k.pairs q ≡ get nat_eq old.pairs q) → k.puts.items ≡ old.puts.items →
    HasFailed (told_all old) w (told_all new)
failed_so new old k w is pairs puts = failed_left (told_all old) w (told_all new) (told_same new old k is pairs puts)
