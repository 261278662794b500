-- What a step of a fitting call leaves.
use Rattle.std.proofs.Common.{◌≡◌, ℕ, Bool, None, sym, subst}
use Rattle.moka_words.specs.declared.accesses.Seen.{Seen}
use Rattle.moka_words.specs.declared.accesses.Seen.TheVariants as seen
use Rattle.moka_words.specs.Effect.{Memory}
use Rattle.moka_growth.specs.Calls.{Point, Call, Ending, Step, Going, Decided, Changed, next_at, next_of, call_from}
use Rattle.moka_growth.specs.Calls as call
use Rattle.moka_growth.specs.Fits.{Fits}
use Rattle.moka_growth.specs.Maps.{KeepsMap, Ends}
use Rattle.moka_growth.specs.Laws.{Makes}
use Rattle.moka_growth.proofs.Accessing.{access_is_later}
use Rattle.moka_growth.proofs.Mapped.{KeepsUnlessExchanged, point_keeps_map}
use Rattle.moka_growth.specs.Turns.{Leads}
use Rattle.moka_growth.proofs.Leading.{point_leads}

never : {e : Ending} {d : Call} → Decided e ≡ Going d → ⊥
never e = cc

-- a step after which the call goes on isn't an exchange that changes a key
going_keeps : (old new : Memory) (c d : Call) (p : Point) (s : Seen) → KeepsUnlessExchanged old new p s → next_at c p s ≡ Going d → KeepsMap old new
going_keeps old new c d (call.Change a l v from to) (seen.Exchanged None) keeps e = absurd (never e)
going_keeps old new c d p s keeps e = keeps

pub step_leads : (hash : ℕ → ℕ) (same : ℕ → ℕ → Bool) (mine own : ℕ → Bool) (c : Call) (s : Seen) (old new : Memory) →
    Makes hash same mine own c s old new → Leads (next_of c s) (λ d. Fits hash own new d) (λ e. Ends own c.point e old new)
step_leads hash same mine own c s old new m =
    point_leads m.names c m.key old new m.sound (access_is_later hash same mine own c s old new m) c.point s m.fits m.effect m.choice

pub fits_goes_on : (hash : ℕ → ℕ) (same : ℕ → ℕ → Bool) (mine own : ℕ → Bool) (c d : Call) (s : Seen) (old new : Memory) →
    Makes hash same mine own c s old new → next_of c s ≡ Going d → Fits hash own new d
fits_goes_on hash same mine own c d s old new m e =
    subst (λ step. Leads step (λ d. Fits hash own new d) (λ x. Ends own c.point x old new)) e
    (step_leads hash same mine own c s old new m)

pub ending_is_maps : (hash : ℕ → ℕ) (same : ℕ → ℕ → Bool) (mine own : ℕ → Bool) (c : Call) (x : Ending) (s : Seen) (old new : Memory) →
    Makes hash same mine own c s old new → next_of c s ≡ Decided x → Ends own c.point x old new
ending_is_maps hash same mine own c x s old new m e =
    subst (λ step. Leads step (λ d. Fits hash own new d) (λ x. Ends own c.point x old new)) e
    (step_leads hash same mine own c s old new m)

pub going_keeps_map : (hash : ℕ → ℕ) (same : ℕ → ℕ → Bool) (mine own : ℕ → Bool) (c d : Call) (s : Seen) (old new : Memory) →
    Makes hash same mine own c s old new → next_of c s ≡ Going d → KeepsMap old new
going_keeps_map hash same mine own c d s old new m e =
    going_keeps old new c d c.point s (point_keeps_map own c.hash old new m.sound c.point s m.fits m.effect) e

pub call_fits : (hash : ℕ → ℕ) (own : ℕ → Bool) (m : Memory) (c : Call) → c ≡ call_from c.kind c.hash → Fits hash own m c
call_fits hash own m c e = subst (λ d. Fits hash own m d) (sym e) tt
