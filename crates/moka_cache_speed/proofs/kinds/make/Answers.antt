-- A listener is of no borrow's lifetime, so each is within that of the rounds.
use mathlib.Core.List.{not-mem-nil}
use Rattle.moka_cache_speed.proofs.kinds.make.Goals as goal

pub make_so-requires-lives-bound-11 : goal.make_so-requires-lives-bound-11
make_so-requires-lives-bound-11 g c κs within = λ a there. absurd (not-mem-nil (c.type_bounds.static-L a there))

pub make_so-requires-in-Insert-lives-bound-11 : goal.make_so-requires-in-Insert-lives-bound-11
make_so-requires-in-Insert-lives-bound-11 g c κs within = λ a there. absurd (not-mem-nil (c.type_bounds.static-L a there))

pub make_so-requires-in-Remove-lives-bound-11 : goal.make_so-requires-in-Remove-lives-bound-11
make_so-requires-in-Remove-lives-bound-11 g c κs within = λ a there. absurd (not-mem-nil (c.type_bounds.static-L a there))

pub make_so-requires-in-GetWith-lives-bound-11 : goal.make_so-requires-in-GetWith-lives-bound-11
make_so-requires-in-GetWith-lives-bound-11 g c κs within = λ a there. absurd (not-mem-nil (c.type_bounds.static-L a there))

pub make_so-requires-in-OptionallyGetWith-lives-bound-11 : goal.make_so-requires-in-OptionallyGetWith-lives-bound-11
make_so-requires-in-OptionallyGetWith-lives-bound-11 g c κs within = λ a there. absurd (not-mem-nil (c.type_bounds.static-L a there))

pub make_so-requires-in-TryGetWith-lives-bound-11 : goal.make_so-requires-in-TryGetWith-lives-bound-11
make_so-requires-in-TryGetWith-lives-bound-11 g c κs within = λ a there. absurd (not-mem-nil (c.type_bounds.static-L a there))

pub make_so-requires-in-OrInsert-lives-bound-11 : goal.make_so-requires-in-OrInsert-lives-bound-11
make_so-requires-in-OrInsert-lives-bound-11 g c κs within = λ a there. absurd (not-mem-nil (c.type_bounds.static-L a there))

pub make_so-requires-in-Compute-lives-bound-11 : goal.make_so-requires-in-Compute-lives-bound-11
make_so-requires-in-Compute-lives-bound-11 g c κs within = λ a there. absurd (not-mem-nil (c.type_bounds.static-L a there))

pub make_so-requires-in-TryCompute-lives-bound-11 : goal.make_so-requires-in-TryCompute-lives-bound-11
make_so-requires-in-TryCompute-lives-bound-11 g c κs within = λ a there. absurd (not-mem-nil (c.type_bounds.static-L a there))

pub make_so-requires-in-Upsert-lives-bound-11 : goal.make_so-requires-in-Upsert-lives-bound-11
make_so-requires-in-Upsert-lives-bound-11 g c κs within = λ a there. absurd (not-mem-nil (c.type_bounds.static-L a there))
