use Rattle.std.proofs.Common.{◌≤◌, ◌^◌, arith, pow_mono}
use Rattle.moka_shelf.proofs.rows.first_length.Goals as goal

pub returns-clause-small : goal.returns-clause-small
returns-clause-small c =
    let row = c.requires.row in
    let le : c.args.row ≤ 11 = omega arith in
    let few : 2 ^ c.args.row ≤ 2048 = pow_mono le in
    omega arith
