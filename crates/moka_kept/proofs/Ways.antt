-- How the accesses of polls follow one another.
use Rattle.std.proofs.Common.{◌≡◌, ℕ, List, [], ◌∷◌, ◌++◌, Option, Some, None, IfSome, refl, sym, ap, ◌∙◌, subst}
use Rattle.moka_hist.specs.Next.{Next}
use Rattle.moka_hist.specs.State.{Call}
use Rattle.moka_hist.specs.Step.{Access, On_desk, On_table, access_of, next_of}
use Rattle.moka_hist.specs.declared.accesses.Got.{Got}
use Rattle.moka_hist.specs.declared.accesses.Got.TheVariants as got
use Rattle.moka_hist.specs.declared.visits.Found.{Found}
use Rattle.moka_hist.specs.declared.visits.Visit.{Visit}
use Rattle.moka_hist.specs.declared.visits.Visit.TheVariants as visit
use Rattle.moka_kept.specs.Taking.{Answered, Taken, Tested, TestedSuch, TookBy, TookSuch, tested_made, told_found}
use Rattle.moka_kept.specs.Facts.{Facts, plain}
use Rattle.moka_kept.specs.Paths.{CameWith, EndedWith, GivenSo, LeadsWith}

module _ {K V E : Type 0} (f : Facts K V) (such : Taken V E → Type 0) (n : ℕ) where
  leads_on : (c : Call K V E) (path : List (Access K V E × Got K V E)) (d : Call K V E) (more : List (Access K V E × Got K V E)) (e : Call K V E)
      → LeadsWith f such n c path d → LeadsWith f such n d more e → LeadsWith f such n c (path ++ more) e
  leads_on c [] d more e first then = subst (λ (x : Call K V E). LeadsWith f such n x more e) first then
  leads_on c (made ∷ path) d more e first then = (first.0, first.1, first.2, first.3, first.4, leads_on first.0 path d more e first.5 then)

  -- one way after another
  pub came_on : (c d e : Call K V E) → CameWith f such n c d → CameWith f such n d e → CameWith f such n c e
  came_on c d e before after = (before.0 ++ after.0, leads_on c before.0 d after.0 e before.1 after.1)

  -- a call is where it is
  pub came_same : (c d : Call K V E) → d ≡ c → CameWith f such n c d
  came_same c d e = ([], e)

  -- an end after a way
  pub ended_on : (c d : Call K V E) (next : Next K V E) → CameWith f such n c d → EndedWith f such n d next → EndedWith f such n c next
  ended_on c d next before end = record {
    call = end.call;
    came = came_on c d end.call before end.came;
    given = end.given;
    last = end.last;
    took = end.took;
    follows = end.follows;
  }

  -- what the last access leaves of the call is where it came
  pub ended_came : (c : Call K V E) (next : Next K V E) (d : Call K V E) → EndedWith f such n c next → next.left ≡ Some d → CameWith f such n c d
  ended_came c next d end left =
      let made : Access K V E × Got K V E = (access_of n end.call, end.given) in
      let leads : (next_of n end.call end.given).left ≡ Some d = sym (ap (λ (x : Next K V E). x.left) end.follows) ∙ left in
      came_on c end.call d end.came (made ∷ [], (d, refl, end.last, leads, end.took, refl))

some_weaker : {A : Type 0} {P Q : A → Type 0} (o : Option A) → ((a : A) → P a → Q a) → IfSome o P → IfSome o Q
some_weaker (Some a) h p = h a p
some_weaker None h p = tt

module _ {K V E : Type 0} (f : Facts K V) (such other : Taken V E → Type 0) (weaker : (taken : Taken V E) → such taken → other taken) (n : ℕ) where
  took_weaker : (made : Visit K V E) (d : Found V E) → TookSuch made d such → TookSuch made d other
  took_weaker (visit.TakeTold m) d took = some_weaker (told_found d) (λ told. weaker (Answered told)) took
  took_weaker made d took = some_weaker {P = TestedSuch d such} {Q = TestedSuch d other} (tested_made made) (λ value p. (p.0, weaker (Tested value p.0) p.1, p.2)) took

  by_weaker : (a : Access K V E) (given : Got K V E) → TookBy a given such → TookBy a given other
  by_weaker (On_desk made) (got.Desk d) took = took_weaker made d took
  by_weaker (On_desk made) (got.Table turn) took = tt
  by_weaker (On_table operation) given took = tt

  leads_weaker : (c : Call K V E) (path : List (Access K V E × Got K V E)) (d : Call K V E) → LeadsWith f such n c path d → LeadsWith f other n c path d
  leads_weaker c [] d leads = leads
  leads_weaker c (made ∷ path) d leads =
      (leads.0, leads.1, leads.2, leads.3, by_weaker made.0 made.1 leads.4, leads_weaker leads.0 path d leads.5)

  -- a way on which less is known of the answers that are taken
  pub came_weaker : (c d : Call K V E) → CameWith f such n c d → CameWith f other n c d
  came_weaker c d came = (came.0, leads_weaker c came.0 d came.1)

  pub ended_weaker : (c : Call K V E) (next : Next K V E) → EndedWith f such n c next → EndedWith f other n c next
  ended_weaker c next end = record {
    call = end.call;
    came = came_weaker c end.call end.came;
    given = end.given;
    last = end.last;
    took = by_weaker (access_of n end.call) end.given end.took;
    follows = end.follows;
  }

module _ {K V E : Type 0} (f : Facts K V) (such : Taken V E → Type 0) (n : ℕ) where
  -- what a world gave that meets the fact, one gave of which nothing is asked
  so_plain : (c : Call K V E) (given : Got K V E) → GivenSo f n c given → GivenSo (plain V f.eq) n c given
  so_plain c given so = record { gave = so.gave; stored = λ q p is. (tt, (so.stored q p is).1); reads = λ own with value seeks is ended. tt }

  leads_plain : (c : Call K V E) (path : List (Access K V E × Got K V E)) (d : Call K V E) → LeadsWith f such n c path d → LeadsWith (plain V f.eq) such n c path d
  leads_plain c [] d leads = leads
  leads_plain c (made ∷ path) d leads = (leads.0, leads.1, so_plain c made.1 leads.2, leads.3, leads.4, leads_plain leads.0 path d leads.5)

  pub came_plain : (c d : Call K V E) → CameWith f such n c d → CameWith (plain V f.eq) such n c d
  came_plain c d came = (came.0, leads_plain c came.0 d came.1)

  pub ended_plain : (c : Call K V E) (next : Next K V E) → EndedWith f such n c next → EndedWith (plain V f.eq) such n c next
  ended_plain c next end = record {
    call = end.call;
    came = came_plain c end.call end.came;
    given = end.given;
    last = so_plain end.call end.given end.last;
    took = end.took;
    follows = end.follows;
  }
