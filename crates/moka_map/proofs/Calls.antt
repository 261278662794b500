-- Calls of closures that were handed in, which are lent a pair.
use Rattle.std.proofs.Common.{refl}
use denote.Ref.{Bor}
use Rattle.std.specs.Fn.{Once, Mut, Called}
use Rattle.moka_map.specs.Calls.{Gives, Makes}

pub gives : {F K V T : Type 0} (g : Once F (Bor K × (Bor V × Unit {0})) T) (f : F) (x : Bor K) (y : Bor V) (t : T) → g.post f (x, (y, tt)) t → Gives g f (x.now, y.now) t
gives g f x y t e = record { key = x; value = y; shows = (refl, refl); met = e }

pub makes : {F K V T : Type 0} (g : Mut F (Bor K × (Bor V × Unit {0})) T) (f f' : F) (x : Bor K) (y : Bor V) (t : T) → Called g f (x, (y, tt)) t f' → Makes g f (x.now, y.now) t
makes g f f' x y t e = record { key = x; value = y; left = f'; shows = (refl, refl); called = e }
