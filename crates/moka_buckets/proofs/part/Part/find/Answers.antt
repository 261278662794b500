use Rattle.std.proofs.Common.{◌<◌, length, ap, subst, sym, ◌∙◌}
use Rattle.std.specs.Int.{IsPowerOfTwo}
use Rattle.std.specs.List.{slice_get}
use Rattle.std.specs.Option.{option_map}
use Rattle.moka_hist.specs.declared.records.Stored.{Stored}
use Rattle.moka_pairs.specs.Keys.{own_by}
use Rattle.moka_buckets.specs.Nodes.{key_in, pair_at}
use Rattle.moka_buckets.specs.Looking.{Seeks}
use Rattle.moka_buckets.specs.Parts.{memory_at, peak_at}
use Rattle.moka_pairs.proofs.Names.{agrees_now}
use Rattle.moka_buckets.proofs.Sought.{root_power, seek_is_map}
use Rattle.moka_buckets.proofs.part.Part.find.Goals as goal

pub seek-requires-clause-power : goal.seek-requires-clause-power
seek-requires-clause-power g c =
    let (key, by, first, can) = c.requires.can in
    let p = c.args.self.now in
    subst (λ xs. 0 < length xs → IsPowerOfTwo (length xs)) (sym c.root_words.ensures)
    (root_power (memory_at p) (can.well.sound (key_in p.nodes.items) (agrees_now (key_in p.nodes.items))))

pub returns-in-None : goal.returns-in-None
returns-in-None g c = λ key by first computes can.
    let p = c.args.self.now in
    let nodes = p.nodes.items in
    let m = memory_at p in
    let eq = g.K.PartialEq.eq in
    ap (pair_at nodes) (sym c.in-None.is) ∙
    seek_is_map eq g.met.K.Eq.laws by can.respects nodes m first (peak_at p) can.well c.args.hash key can.hashed c.seek.result
    (subst (λ ws. Seeks (own_by eq (key_in nodes) key) ws c.args.hash c.seek.result) c.root_words.ensures
    (subst (λ xs. Seeks (own_by eq (key_in xs) key) c.root_words.result.now c.args.hash c.seek.result) c.as_slice-nodes.ensures.value (c.seek.ensures key computes)))

pub returns-in-Some : goal.returns-in-Some
returns-in-Some g c = λ key by first computes can.
    let p = c.args.self.now in
    let nodes = p.nodes.items in
    let m = memory_at p in
    let eq = g.K.PartialEq.eq in
    ap (option_map {U = g.row.K.Denot × Stored g.row.V.Denot} (λ node. (node.key, node.stored)))
    (c.node_at.ensures ∙ ap (λ xs. slice_get xs c.in-Some.number) c.as_slice-nodes.ensures.value) ∙
    (ap (pair_at nodes) (sym c.in-Some.is) ∙
    seek_is_map eq g.met.K.Eq.laws by can.respects nodes m first (peak_at p) can.well c.args.hash key can.hashed c.seek.result
    (subst (λ ws. Seeks (own_by eq (key_in nodes) key) ws c.args.hash c.seek.result) c.root_words.ensures
    (subst (λ xs. Seeks (own_by eq (key_in xs) key) c.root_words.result.now c.args.hash c.seek.result) c.as_slice-nodes.ensures.value (c.seek.ensures key computes))))
