use Rattle.std.proofs.Common.{subst}
use Rattle.moka_buckets.specs.Views.{IsFirst}
use Rattle.moka_map.specs.Maps.{segments_in}
use Rattle.moka_map.proofs.Outcomes.{ok_weaker, ok_both, is_sixty_four}
use Rattle.moka_map.proofs.hash_map.HashMap.with_capacity.Goals as goal

pub returns-clause-segments : goal.returns-clause-segments
returns-clause-segments g c =
    let made = c.with_num_segments_capacity_and_hasher in
    ok_weaker _ _ made.result (λ m is. is_sixty_four (segments_in m) is) made.ensures.segments

pub returns-clause-first : goal.returns-clause-first
returns-clause-first g c =
    let made = c.with_num_segments_capacity_and_hasher in
    ok_weaker _ _ made.result (λ m both. subst (λ n. IsFirst c.args.capacity n m.first) (is_sixty_four (segments_in m) both.0) both.1) (ok_both _ _ made.result made.ensures.segments made.ensures.first)
