use Rattle.std.proofs.Common.{◌≤◌, ◌^◌, arith, pow_mono}
use Rattle.moka_shelf.proofs.once.OnceShelf.lay_group.Goals as goal

pub new_slots-requires : goal.new_slots-requires
new_slots-requires g c =
    let group = c.requires.group in
    let le : c.args.group ≤ 47 = omega arith in
    let few : 2 ^ c.args.group ≤ 140737488355328 = pow_mono le in
    record { fit = omega arith }
