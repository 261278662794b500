use Rattle.std.proofs.Common.{◌≡◌, ◌∙◌, ◌<◌, ap, subst, sym, true}
use Rattle.moka_words.specs.Arrays.{bucket_at}
use Rattle.moka_words.specs.Words.{node_of}
use Rattle.moka_words.proofs.Laying.{stored_is_key}
use Rattle.moka_pairs.specs.Pairs.{pair_at}
use Rattle.moka_history.specs.Logs.{state_of}
use Rattle.moka_history.proofs.Lists.{prefix_self}
use Rattle.moka_shared.specs.Changes.{IsHere}
use Rattle.moka_shared.specs.Hashing.{hash_in, place_in, segment_of}
use Rattle.moka_shared.specs.Meeting.{IsShown}
use Rattle.moka_shared.specs.Tables.{names_of}
use Rattle.moka_shared.proofs.Divided.{divided}
use Rattle.moka_shared.proofs.Probed.{ended_is_history, pair}
use Rattle.moka_shared.proofs.Putting.{is_own}
use Rattle.moka_shared.proofs.Since.{copy_so, copy_stands}
use Rattle.moka_shared.proofs.table.HashMap.standing.Goals as goal

pub returns-clause-stands : goal.returns-clause-stands
returns-clause-stands g c =
    let eq = g.K.PartialEq.eq in
    let hash = hash_in g.S.BuildHasher g.S.Hasher.Hasher g.K.Hash.hash_input in
    let place = place_in g.S.BuildHasher g.S.Hasher.Hasher g.K.Hash.hash_input in
    let t = c.args.self.now in
    let equals = divided g.S.BuildHasher g.S.Hasher.Hasher g.K.Hash.hash_input eq g.met.K.Eq.laws g.met.K.Hash.respects_eq in
    let log = c.args.front.now.log in
    let gap = c.args.gap.now in
    let key = c.args.key.now in
    let named_by = stored_is_key gap.word c.args.number c.requires.stored in
    let own_below : place t.hasher t.segments key < t.segments = subst (λ n. segment_of t.segments n < t.segments) c.requires.hash c.requires.below in
    let there = pair eq hash place equals t key own_below gap.hash c.requires.hash log c.requires.log (bucket_at t.size gap.hash gap.passed) c.args.number
    (ap node_of c.requires.ends.there ∙ named_by) in
    let shown = subst (IsShown (names_of t.book) c.args.number) c.in-Some.is c.requires.node in
    let node_is = c.is_named.ensures.pair there.0 (ap (λ n. (state_of log).pairs n) shown.0 ∙ there.1) in
    let value_is : c.value.result.now ≡ there.0.1 = c.value.ensures ∙ ap (λ q. q.1) (sym node_is) in
    let here : IsHere eq key c.args.number log c.value.result.now = record {
      pair = there.0;
      named = there.1;
      map_is = ended_is_history eq hash place equals t key own_below gap.hash c.requires.hash log c.requires.log gap.passed gap.word c.requires.ends
          ∙ (ap (pair_at (state_of log).pairs) c.requires.stored ∙ there.1);
      same = is_own eq hash place equals t key own_below gap.hash c.requires.hash log log c.requires.log c.requires.log (prefix_self log) gap.passed gap.word
          c.requires.ends c.args.number c.requires.stored there.0 there.1;
      value_is = value_is;
    } in
    copy_stands eq key c.args.number log c.value.result.now here c.copy_of.result c.copy_of.ensures

pub returns-clause-fact : goal.returns-clause-fact
returns-clause-fact g c =
    let eq = g.K.PartialEq.eq in
    let hash = hash_in g.S.BuildHasher g.S.Hasher.Hasher g.K.Hash.hash_input in
    let place = place_in g.S.BuildHasher g.S.Hasher.Hasher g.K.Hash.hash_input in
    let t = c.args.self.now in
    let equals = divided g.S.BuildHasher g.S.Hasher.Hasher g.K.Hash.hash_input eq g.met.K.Eq.laws g.met.K.Hash.respects_eq in
    let log = c.args.front.now.log in
    let gap = c.args.gap.now in
    let key = c.args.key.now in
    let named_by = stored_is_key gap.word c.args.number c.requires.stored in
    let own_below : place t.hasher t.segments key < t.segments = subst (λ n. segment_of t.segments n < t.segments) c.requires.hash c.requires.below in
    let there = pair eq hash place equals t key own_below gap.hash c.requires.hash log c.requires.log (bucket_at t.size gap.hash gap.passed) c.args.number
    (ap node_of c.requires.ends.there ∙ named_by) in
    let shown = subst (IsShown (names_of t.book) c.args.number) c.in-Some.is c.requires.node in
    let node_is = c.is_named.ensures.pair there.0 (ap (λ n. (state_of log).pairs n) shown.0 ∙ there.1) in
    let value_is : c.value.result.now ≡ there.0.1 = c.value.ensures ∙ ap (λ q. q.1) (sym node_is) in
    let same : eq key there.0.0 ≡ true = is_own eq hash place equals t key own_below gap.hash c.requires.hash log log c.requires.log c.requires.log (prefix_self log)
    gap.passed gap.word c.requires.ends c.args.number c.requires.stored there.0 there.1 in
    let so : g.P.Fact.holds there.0.0 c.value.result.now =
    subst (λ v. g.P.Fact.holds there.0.0 v) (sym value_is) (subst (λ q. g.P.Fact.holds q.0 q.1) (sym node_is) c.is_named.ensures.fact) in
    copy_so (g.P.Fact.holds key) c.value.result.now (g.met.P.Fact.alike there.0.0 key c.value.result.now (equals.laws.symm there.0.0 key ∙ same) so)
    c.copy_of.result c.copy_of.ensures
