use Rattle.std.proofs.Common.{subst, ◌≡◌, IfOk, []}
use Rattle.std.specs.Option.{option_map_or, option_to_list}
use Rattle.moka_buckets.specs.Keys.{nodes_of}
use Rattle.moka_buckets.specs.Listed.{keys_at}
use Rattle.moka_buckets.proofs.bucket_table.BucketTable.key_next.Goals as goal

pub returns : goal.returns
returns g c = subst (λ o. IfOk c.next_key.result (λ key. option_to_list key ≡
    option_map_or (keys_at (nodes_of o.parts c.args.call.now.segment)) c.args.word [])) c.self.view_is
    (subst (λ ps. IfOk c.next_key.result (λ key. option_to_list key ≡ option_map_or (keys_at (nodes_of ps c.args.call.now.segment)) c.args.word [])) c.deref.ensures.value
    (subst (λ ns. IfOk c.next_key.result (λ key. option_to_list key ≡ option_map_or (keys_at ns) c.args.word [])) c.nodes_of.ensures c.next_key.ensures))
