-- Lines that are played one after the other, and the text of them.
use Rattle.std.proofs.Common.{◌≡◌, ℕ, ◌+◌, ◌<◌, ◌≤◌, List, ◌++◌, length, drop, get_or, sym, ap, ◌∙◌}
use Rattle.std.proofs.lemmas.List.{append-nil, append_assoc, at_drop_all, at_drop_more}
use Rattle.moka_collapsing.specs.Reference.{Reference}
use Rattle.moka_gateway.specs.declared.gateway.Gateway.{Gateway}
use Rattle.moka_gateway.specs.Gateway.{IsGateway, IsUsable}
use Rattle.moka_gateway_run.specs.Playing.{Plays, played, played_all}
use Rattle.moka_gateway_run.specs.declared.lines.Line.{Line}

-- so far the text is that of some lines, and these are left
pub record Playing (gateway : Gateway) (text : List ℕ) (rest : List Line) (whole : List ℕ) : Type 0 where
  pub reference : Reference
  pub stands : IsGateway gateway reference
  pub comes : text ++ played_all reference rest ≡ whole

pub is_usable : (gateway : Gateway) (text : List ℕ) (rest : List Line) (whole : List ℕ) → Playing gateway text rest whole → IsUsable gateway
is_usable gateway text rest whole p = λ unspent. (p.reference, p.stands)

pub one_played : (old new : Gateway) (text text1 whole : List ℕ) (lines : List Line) (i : ℕ) (d : Line) → i < length lines →
    ((g : Reference) → IsGateway old g → Plays new text text1 (played g (get_or lines i d))) →
    Playing old text (drop i lines) whole → Playing new text1 (drop (i + 1) lines) whole
one_played old new text text1 whole lines i d within is p =
    let it = is p.reference p.stands in
    let here : Reference × List ℕ = ((played p.reference (get_or lines i d)).1, (played p.reference (get_or lines i d)).0) in
    record {
      reference = here.0;
      stands = it.1;
      comes = ap (λ t. t ++ played_all here.0 (drop (i + 1) lines)) it.0
          ∙ append_assoc text here.1 (played_all here.0 (drop (i + 1) lines))
          ∙ ap (λ t. text ++ t) (sym (at_drop_more (λ l. played_all p.reference l) lines i d within))
          ∙ p.comes;
    }

pub all_played : (gateway : Gateway) (text whole : List ℕ) (lines : List Line) (i : ℕ) → length lines ≤ i → Playing gateway text (drop i lines) whole → text ≡ whole
all_played gateway text whole lines i all p =
    sym (append-nil text) ∙ ap (λ t. text ++ t) (sym (at_drop_all (λ l. played_all p.reference l) lines i all)) ∙ p.comes
