use Rattle.std.proofs.Common.{rules, ◌≡◌, ◌∙◌, ◌+◌, ◌*◌, arith, subst}
use Rattle.moka_shared.specs.Hashing.{hash_in, place_in}
use Rattle.moka_shared.specs.Tables.{AreWords}
use Rattle.moka_shared.proofs.Beginning.{opens}
use Rattle.moka_shared.proofs.Divided.{divided}
use Rattle.moka_shared.proofs.table.HashMap.opened.Goals as goal

pub open_row-start-requires : goal.open_row-start-requires
open_row-start-requires g c =
    let eq = g.K.PartialEq.eq in
    let hash = hash_in g.S.BuildHasher g.S.Hasher.Hasher g.K.Hash.hash_input in
    let place = place_in g.S.BuildHasher g.S.Hasher.Hasher g.K.Hash.hash_input in
    let equals = divided g.S.BuildHasher g.S.Hasher.Hasher g.K.Hash.hash_input eq g.met.K.Eq.laws g.met.K.Hash.respects_eq in
    let plan = c.args.plan in (
      opens _ eq hash place equals plan.segments plan.size plan.hasher c.requires.few c.requires.power c.in_ok-count.count c.in_ok-count.ensures.count,
      (λ log. tt),
      c.alone.ensures.1,
    )

pub invariant_of-result : goal.invariant_of-result
invariant_of-result g c =
    let t = c.args.plan in
    let row = c.open_row-start.ensures in
    let pens = c.take.new.self in
    let rest = c.take.ensures.rest in
    let book : pens.book ≡ c.open_row-start.result.0.book = rest.0 ∙ row.2 in
    let one = rest.1 in
    let zero = row.3 in
    let next : pens.next ≡ 1 = omega (arith, one, zero) in
    let buckets = c.in_ok-buckets.buckets.items in
    let more = c.make_words.new.pens in
    let more_book : more.book ≡ c.open_row-start.result.0.book = c.in_ok-buckets.ensures.book ∙ book in
    let past = c.in_ok-buckets.ensures.next in
    let count = c.in_ok-count.ensures.count in
    let more_next : more.next ≡ 1 + t.segments * t.size = omega (arith, past, next, count) in
    let nexts = c.in_ok-nexts.nexts.items in
    let last = c.make_words-2.new.pens in
    let last_book : last.book ≡ c.open_row-start.result.0.book = c.in_ok-nexts.ensures.book ∙ more_book in
    let past_nexts = c.in_ok-nexts.ensures.next in
    let last_next : last.next ≡ 1 + t.segments * t.size + t.segments = omega (arith, past_nexts, more_next) in
    let roots = c.in_ok-roots.roots.items in
    record {
      begun = row.1;
      some = c.requires.some;
      power = c.requires.power;
      short = c.requires.short;
      door_is = search rules;
      buckets_are = subst (λ b. AreWords b 1 (t.segments * t.size) buckets) book
          (subst (λ n. AreWords pens.book n (t.segments * t.size) buckets) next
          (subst (λ n. AreWords pens.book pens.next n buckets) count c.in_ok-buckets.ensures.words));
      nexts_are = subst (λ b. AreWords b (1 + t.segments * t.size) t.segments nexts) more_book
          (subst (λ n. AreWords more.book n t.segments nexts) more_next c.in_ok-nexts.ensures.words);
      roots_are = subst (λ b. AreWords b (1 + t.segments * t.size + t.segments) t.segments roots) last_book
          (subst (λ n. AreWords last.book n t.segments roots) last_next c.in_ok-roots.ensures.words);
      owner_is = search rules;
    }
