use Rattle.moka_buckets.specs.Views.{key_for, segment_in, want_of}
use Rattle.moka_buckets.proofs.TableSteps.{key_steps}
use Rattle.moka_buckets.proofs.bucket_table.BucketTable.step_one.Goals as goal

pub returns : goal.returns
returns g c =
    let it = c.step_key.ensures in
    let old = c.args.self.now in
    let before = c.args.call.now in
    key_steps g.S.BuildHasher g.S.Hasher.Hasher g.K.PartialEq.eq g.K.Hash.hash_input old c.step_key.new.self it.first it.segments it.hasher
    before c.step_key.new.call (want_of before) c.step_key.result it.moves it.peak it.undecided it.nears it.err_map it.err_count it.err_call
    (key_for before) (segment_in old before) it.one it.others it.others_left it.keys it.keys_left it.keys_lists it.keys_covers
