use Rattle.std.proofs.Common.{refl}
use Rattle.moka_desk_cases.specs.Rests.{resting}
use Rattle.moka_desk_cases.proofs.Publishing.{once_stamped, once_posted, once_taken, once_applied, may_stamp, may_post, rests}
use Rattle.moka_desk_cases.proofs.writes.published_after.Goals as goal

pub post_write-requires : goal.post_write-requires
post_write-requires c =
    let writes = c.requires.0 in
    let w = c.requires.1.0 in
    let call = c.number-call.result in
    let write = c.args.write in
    let is = c.number-call.ensures in (
      once_stamped w writes call,
      c.in_ok-stamp_moment.ensures.makes (resting w writes) c.requires.1.1 (may_stamp w writes call write is c.requires.2),
      may_post w writes call write is,
    )

pub take_turn-requires : goal.take_turn-requires
take_turn-requires c =
    let writes = c.requires.0 in
    let w = c.requires.1.0 in
    let call = c.number-call.result in
    let write = c.args.write in
    let is = c.number-call.ensures in (
      once_posted w writes call write,
      c.post_write.ensures.makes (once_stamped w writes call)
          (c.in_ok-stamp_moment.ensures.makes (resting w writes) c.requires.1.1 (may_stamp w writes call write is c.requires.2)) (may_post w writes call write is),
      λ e. cc,
    )

pub apply_one-requires : goal.apply_one-requires
apply_one-requires c =
    let writes = c.requires.0 in
    let w = c.requires.1.0 in
    let call = c.number-call.result in
    let write = c.args.write in
    let is = c.number-call.ensures in (
      once_taken w writes call write,
      c.in_ok-take_turn.ensures.makes (once_posted w writes call write)
          (c.post_write.ensures.makes (once_stamped w writes call)
          (c.in_ok-stamp_moment.ensures.makes (resting w writes) c.requires.1.1 (may_stamp w writes call write is c.requires.2)) (may_post w writes call write is)) (λ e. cc),
      refl,
    )

pub end_turn-requires : goal.end_turn-requires
end_turn-requires c =
    let writes = c.requires.0 in
    let w = c.requires.1.0 in
    let call = c.number-call.result in
    let write = c.args.write in
    let is = c.number-call.ensures in (
      once_applied w writes call write,
      c.apply_one.ensures.makes (once_taken w writes call write)
          (c.in_ok-take_turn.ensures.makes (once_posted w writes call write)
          (c.post_write.ensures.makes (once_stamped w writes call)
          (c.in_ok-stamp_moment.ensures.makes (resting w writes) c.requires.1.1 (may_stamp w writes call write is c.requires.2)) (may_post w writes call write is)) (λ e. cc))
          refl,
      refl,
    )

pub returns : goal.returns
returns c = λ writes rest unused.
    let w = rest.0 in
    let call = c.number-call.result in
    let write = c.args.write in
    let is = c.number-call.ensures in
    rests w writes call write c.end_turn.new.self
    (c.end_turn.ensures.makes (once_applied w writes call write)
    (c.apply_one.ensures.makes (once_taken w writes call write)
    (c.in_ok-take_turn.ensures.makes (once_posted w writes call write)
    (c.post_write.ensures.makes (once_stamped w writes call)
    (c.in_ok-stamp_moment.ensures.makes (resting w writes) rest.1 (may_stamp w writes call write is unused)) (may_post w writes call write is))
    (λ e. cc))
    refl)
    refl)
