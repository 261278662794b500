use Rattle.std.proofs.Common.{◌≡◌, ◌&&◌, ℕ, not, cond, None, nat_eq, drop}
use Rattle.std.specs.HashMap.{get}
use Rattle.std.specs.List.{list_any}
use Rattle.moka_desk.specs.Forgetting.{is_kept, names}
use Rattle.moka_desk.proofs.moments.forget_named.Given as goal

-- what the writes that are left make of the moments is what all make of those at the beginning
abbrev pub invariant-loop-write : goal.invariant-loop-write
invariant-loop-write l = (n : ℕ) →
    cond (list_any (names n) (drop l.write-index l.named) && not (is_kept l.writes n)) None (get nat_eq l.accessed n)
    ≡ cond (list_any (names n) l.named && not (is_kept l.writes n)) None (get nat_eq l.initial.accessed n)
