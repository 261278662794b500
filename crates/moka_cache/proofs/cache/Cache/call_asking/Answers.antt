-- A fresh call stores, tells and answers what meets the fact.
use Rattle.std.proofs.Common.{◌≡◌, Option, Some, None, IsSome, refl}
use Rattle.std.proofs.lemmas.Bool.{false≢true}
use Rattle.moka_kept.specs.Facts.{facts}
use Rattle.moka_laws.specs.Starts.{key_started}
use Rattle.moka_cache.specs.Asked.{Accords}
use Rattle.moka_cache.specs.Settings.{rules_of}
use Rattle.moka_cache.specs.Starts.{called}
use Rattle.moka_cache.proofs.Meeting.{fresh_answer_meets, fresh_call_meets, fresh_stage}
use Rattle.moka_cache.proofs.cache.Cache.call_asking.Goals as goal

-- what is there
there : {A P : Type 0} (o : Option A) → IsSome o → ((a : A) → o ≡ Some a → P) → P
there (Some a) is so = so a refl
there None is so = absurd (false≢true is)

pub returns-clause-so : goal.returns-clause-so
returns-clause-so g c =
    let gives = g.Q.Asked.gives c.args.asked in
    let tests = g.Q.Asked.tests c.args.asked in
    let rules = rules_of c.args.self.now in
    let start = g.A.Begin.start c.args.begin in
    let own = g.A.Begin.named c.args.begin in
    fresh_stage (facts g.K.PartialEq.eq g.P.Fact.holds) own (Accords gives tests) (called rules g.A.Begin.start) c.args.begin (λ n.
    there (key_started start) c.requires.keyed (λ q is.
    fresh_call_meets g.K.PartialEq.eq g.P.Fact.holds g.met.P.Fact.alike gives tests rules start own c.requires.brings c.requires.names c.requires.gives q is n))

pub returns-clause-answers : goal.returns-clause-answers
returns-clause-answers g c = λ key answer value is by e.
    let start = g.A.Begin.start c.args.begin in
    fresh_answer_meets g.K.PartialEq.eq g.P.Fact.holds g.met.P.Fact.alike (g.Q.Asked.gives c.args.asked) (g.Q.Asked.tests c.args.asked) (rules_of c.args.self.now) start
    (g.A.Begin.named c.args.begin) c.requires.brings c.requires.names c.requires.gives key is by.0 answer value by.1 e
