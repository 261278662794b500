use Rattle.std.proofs.Common.{[], ◌∷◌, ◌++◌, refl, sym, subst, ◌∙◌, append_assoc, of_calls}
use Rattle.std.proofs.lemmas.List.{drop_all, append-nil}
use Rattle.std.specs.Map.{keys_of}
use Rattle.moka_buckets.specs.Asking.{CallsEach}
use Rattle.moka_buckets.specs.Listed.{listed_in}
use Rattle.moka_buckets.proofs.OwnKeys.{key_first, key_none, keys_from}
use Rattle.moka_buckets.proofs.part_keys.list_words.Goals as goal

pub loop-word-preserved : goal.loop-word-preserved
loop-word-preserved g c =
    let words = c.args.words.now in
    let nodes = c.args.nodes.now in
    let known = c.loop-word.invariant in
    let from = keys_from nodes words c.loop-word.word-index c.loop-word-test.true ∙ key_first _ c.in-Some.key.now _ c.in-Some.ensures in
    record {
      callable = search of_calls;
      goes_on = λ more last calls.
          let r = c.with_key.result in
          subst (λ x. CallsEach g.F.FnMut c.args.with_key (keys_of (listed_in nodes words)) (x ++ more) last) (sym c.in_ok-push.ensures.items)
          (rw append_assoc
          (known.goes_on (r ∷ more) last
          (subst (λ x. CallsEach g.F.FnMut c.loop-word.with_key x (r ∷ more) last) (sym from) (c.in-Some.key, c.with_key.new.self, refl, c.with_key.ensures, calls))));
    }

pub loop-word-preserved-in_default : goal.loop-word-preserved-in_default
loop-word-preserved-in_default g c =
    let words = c.args.words.now in
    let nodes = c.args.nodes.now in
    let known = c.loop-word.invariant in
    let from = keys_from nodes words c.loop-word.word-index c.loop-word-test.true ∙ key_none _ _ c.in_default.ensures in
    record {
      callable = known.callable;
      goes_on = λ more last calls. known.goes_on more last (subst (λ x. CallsEach g.F.FnMut c.loop-word.with_key x more last) (sym from) calls);
    }

pub returns : goal.returns
returns g c =
    let words = c.args.words.now in
    let nodes = c.args.nodes.now in
    let items = c.loop-word.list.items in
    let f = c.loop-word.with_key in
    let end = drop_all c.loop-word.word-index words c.loop-word-test.false in
    let done = c.loop-word.invariant.goes_on [] f (subst (λ x. CallsEach g.F.FnMut f (keys_of (listed_in nodes x)) [] f) (sym end) refl) in
    (f, subst (λ x. CallsEach g.F.FnMut c.args.with_key (keys_of (listed_in nodes words)) x f) (append-nil items) done)
