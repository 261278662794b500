use Rattle.std.proofs.Common.{◌≡◌, ap, sym, ◌∙◌, arith}
use Rattle.moka_words.specs.Words.{node_of}
use Rattle.moka_cht.specs.declared.probe.Place.TheVariants.{Free, Dead, Stored}
use Rattle.moka_cht.specs.Probes.{is_open, bucket_of}
use Rattle.moka_cht.proofs.Passing.{seen_key, other_key, ends_at, closed}
use Rattle.moka_cht.proofs.probe.Probe.loaded.Goals as goal

pub returns-in-Empty : goal.returns-in-Empty
returns-in-Empty c own words s loaded seen =
    c.found.ensures own words s (ends_at own words c.args.self Free c.args.word c.requires.on s loaded c.in-Empty.is tt)

pub returns-in-Live : goal.returns-in-Live
returns-in-Live c own words s loaded seen =
    let n = c.in-Live.node in
    let own_key = sym (seen_key own c.args.word n c.args.same (ap node_of c.in-Live.is) seen) ∙ c.if-same.true in
    c.found-in-Live.ensures own words s (ends_at own words c.args.self (Stored n) c.args.word c.requires.on s loaded c.in-Live.is own_key)

pub returns-in-Tomb : goal.returns-in-Tomb
returns-in-Tomb c own words s loaded seen =
    let n = c.in-Tomb.node in
    let own_key = sym (seen_key own c.args.word n c.args.same (ap node_of c.in-Tomb.is) seen) ∙ c.if-same-2.true in
    c.found-in-Tomb.ensures own words s (ends_at own words c.args.self (Dead n) c.args.word c.requires.on s loaded c.in-Tomb.is own_key)

pub returns-in-Live-2 : goal.returns-in-Live-2
returns-in-Live-2 c own words s loaded seen =
    c.passes.ensures own words s (other_key own c.args.word _ c.in-Live.node c.args.same loaded (ap node_of c.in-Live.is) seen c.if-same.false)

pub returns-in-Tomb-2 : goal.returns-in-Tomb-2
returns-in-Tomb-2 c own words s loaded seen =
    c.passes-in-Tomb-2.ensures own words s (other_key own c.args.word _ c.in-Tomb.node c.args.same loaded (ap node_of c.in-Tomb.is) seen c.if-same-2.false)

pub returns-in_default : goal.returns-in_default
returns-in_default c own words s loaded seen =
    let p = c.args.self in
    let long = s.long in
    let within = c.requires.on.within in
    (bucket_of p, omega arith, ap is_open (sym loaded) ∙ closed c.args.word c.in_default.not-Empty c.in_default.not-Live c.in_default.not-Tomb)
