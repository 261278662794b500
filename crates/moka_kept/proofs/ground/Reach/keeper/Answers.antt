-- The key is that whose lock the flow's call takes next.
use Rattle.std.proofs.Common.{sym, ap, ◌∙◌}
use Rattle.std.specs.Option.{option_map}
use Rattle.moka_kept.proofs.ground.Reach.keeper.Goals as goal

pub keeper_of-requires : goal.keeper_of-requires
keeper_of-requires g c = record {
  kept = c.requires;
  next = sym c.locking.ensures ∙ ap (option_map (λ k. k.now)) c.in-Some.is;
}
