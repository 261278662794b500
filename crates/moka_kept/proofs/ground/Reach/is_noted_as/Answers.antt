-- The key that is noted of the owner is the one that was compared.
use Rattle.std.proofs.Common.{◌≡◌, ℕ, Bool, true, false, Option, Some, nat_eq, sym, ap, ◌∙◌}
use Rattle.std.specs.Bool.{OnTrue}
use Rattle.std.specs.HashMap.{get}
use Rattle.std.specs.Option.{option_map_or}
use Rattle.moka_laws.proofs.Counting.{some_same}
use Rattle.moka_kept.proofs.ground.Reach.is_noted_as.Goals as goal

-- what was compared is what is noted of each call that is the owner
compared : {K : Type 0} (eq : K → K → Bool) (own : K) (ends : ℕ → Option K) (owner : Option ℕ) (load : ℕ) (same : Bool) → owner ≡ Some load → same ≡ option_map_or (λ noted. eq noted own) (ends load) true → OnTrue same ((noted : K) (o : ℕ) → owner ≡ Some o → ends o ≡ Some noted → eq noted own ≡ true)
compared eq own ends owner load false is came = tt
compared eq own ends owner load true is came = λ noted o named at.
    let one : load ≡ o = some_same (sym is ∙ named) in
    ap (λ n. option_map_or (λ k. eq k own) n true) (sym at)
    ∙ ap (λ n. option_map_or (λ k. eq k own) (ends n) true) (sym one) ∙ sym came

pub returns-in-Some : goal.returns-in-Some
returns-in-Some g c =
    compared g.K.PartialEq.eq c.args.own.now (get nat_eq c.args.self.now.ends) c.args.owner c.in-Some.load c.equals_noted.result c.in-Some.is c.equals_noted.ensures
