use Rattle.std.proofs.Common.{refl, subst, sym, ◌∙◌}
use Rattle.std.proofs.lemmas.Result.{err_from_is_err_and}
use Rattle.moka_buckets.specs.Ops.{StepsTable, bucket_table}
use Rattle.moka_buckets.specs.Views.{keys_want_of}
use Rattle.moka_buckets.specs.declared.op_call.OpCall.TheVariants as any
use Rattle.moka_buckets.proofs.ListedKeys.{follows}
use Rattle.moka_buckets.proofs.TableSteps.{list_done, list_fails, list_stands}
use Rattle.moka_buckets.proofs.bucket_table.BucketTable.list_next.Goals as goal

pub returns-in_err-key : goal.returns-in_err-key
returns-in_err-key g c =
    let list = c.args.list.now in
    let p = err_from_is_err_and c.from_residual.result c.from_residual.ensures.1 in
    subst (λ r. StepsTable (bucket_table g.S.BuildHasher g.S.Hasher.Hasher g.K.PartialEq.eq g.K.Hash.hash_input) g.K.PartialEq.eq c.args.self.now (any.Keys list) r
    c.args.self.now (any.Keys list)) (sym p.1)
    (list_stands g.S.BuildHasher g.S.Hasher.Hasher g.K.PartialEq.eq g.K.Hash.hash_input c.args.self.now c.is_well.ensures.left
    list c.requires.fits p.0 list refl refl)

pub returns-in_err-make_room : goal.returns-in_err-make_room
returns-in_err-make_room g c =
    let list = c.args.list.now in
    let p = err_from_is_err_and c.from_residual-in_err-make_room.result c.from_residual-in_err-make_room.ensures.1 in
    subst (λ r. StepsTable (bucket_table g.S.BuildHasher g.S.Hasher.Hasher g.K.PartialEq.eq g.K.Hash.hash_input) g.K.PartialEq.eq c.args.self.now (any.Keys list) r
    c.args.self.now (any.Keys (record { call = list.call; keys = c.make_room.new.keys }))) (sym p.1)
    (list_stands g.S.BuildHasher g.S.Hasher.Hasher g.K.PartialEq.eq g.K.Hash.hash_input c.args.self.now c.is_well.ensures.left
    list c.requires.fits p.0 (record { call = list.call; keys = c.make_room.new.keys }) refl c.in_err-make_room.ensures.same)

pub returns-in_err-done : goal.returns-in_err-done
returns-in_err-done g c =
    let it = c.in_err-done.ensures in
    let list = c.args.list.now in
    let p = err_from_is_err_and c.from_residual-in_err-done.result c.from_residual-in_err-done.ensures.1 in
    subst (λ r. StepsTable (bucket_table g.S.BuildHasher g.S.Hasher.Hasher g.K.PartialEq.eq g.K.Hash.hash_input) g.K.PartialEq.eq c.args.self.now (any.Keys list) r
    c.step_keys.new.self (any.Keys (record { call = c.step_keys.new.call; keys = c.make_room.new.keys }))) (sym p.1)
    (list_fails g.S.BuildHasher g.S.Hasher.Hasher g.K.PartialEq.eq g.K.Hash.hash_input c.args.self.now c.step_keys.new.self it.first it.segments it.hasher
    list c.step_keys.new.call (keys_want_of list.call) c.requires.fits it.map it.count it.peak it.segment it.fits it.own
    it.others it.others_left it.keys it.keys_left it.keys_lists it.keys_covers p.0 it.one it.err.0 it.err.1
    (record { call = c.step_keys.new.call; keys = c.make_room.new.keys }) refl c.in_ok-make_room.ensures.same)

pub returns : goal.returns
returns g c =
    let it = c.in_ok-done.ensures in
    let t = c.args.self.now in
    let list = c.args.list.now in
    let new = c.step_keys.new.self in
    let call = c.step_keys.new.call in
    let keys = c.follow.new.keys.items in
    let are = follows t.parts new.parts list.call call it.segment it.nodes c.word_next-word.result c.word_next-word.ensures
    c.in_ok-key.key c.in_ok-key.ensures it.adds c.make_room.new.keys.items (c.in_ok-make_room.ensures.same ∙ c.requires.fits.2) keys c.follow.ensures in
    list_done g.S.BuildHasher g.S.Hasher.Hasher g.K.PartialEq.eq g.K.Hash.hash_input t new it.first it.segments it.hasher
    list call (keys_want_of list.call) c.requires.fits it.map it.count it.peak it.segment it.fits it.own
    it.others it.others_left it.keys it.keys_left it.keys_lists it.keys_covers c.requires.apart c.in_ok-done.done it.one it.lists it.covers
    (record { call = call; keys = c.give.new.keys }) refl it.ended it.nears it.listing it.few keys are c.give.result c.give.ensures.gives c.give.ensures.goes
