-- What a taking out answers.
use Rattle.std.proofs.Common.{◌≡◌, Bool, true, false, List, Option, None, Some, IfSome, MatchOption, refl, sym, subst, ◌∙◌}
use Rattle.std.proofs.lemmas.Bool.{true≢false, false≢true}
use Rattle.std.specs.Prelude.{⊤, Result, Ok, Err, IfOk, OnOk, OnErr, IsErr}
use Rattle.std.specs.Option.{option_map}
use denote.Ref.{Bor}
use denote.Param.Members.{Once}
use Rattle.moka_parts.specs.declared.note.Note.{Note}
use Rattle.moka_parts.specs.Calls.{Judged, Stays, TakesOut}
use Rattle.moka_parts.specs.Hands.{Hand}
use Rattle.moka_parts.specs.Logs.{changes_in}
use Rattle.moka_parts.specs.Tables.{Adds}
use Rattle.moka_parts.proofs.Histories.{adds}

module _ {P : Type 0} where
  -- where nothing is found or the condition fails, nothing goes
  pub stays : (J : P → Type 0) (b : Bool) (o now : Option P) → o ≡ now → MatchOption o (b ≡ false) J → MatchOption now ⊤ J
  stays J b o now same h =
      let by : (o : Option P) → MatchOption o (b ≡ false) J → MatchOption o ⊤ J = elim [ None ↦ (λ h. tt) | Some p ↦ (λ h. h) ] in
      subst (λ (o : Option P). MatchOption o ⊤ J) same (by o h)

  -- where the condition holds, what is found is taken out
  pub takes : (J X : P → Type 0) (N : Type 0) (E : Option P → Type 0) (o taken : Option P) → taken ≡ o → MatchOption o (true ≡ false) J → E o
      → ((p : P) → E (Some p) → J p → X p) → MatchOption taken N X
  takes J X N E o taken same h e to =
      let by : (o : Option P) → MatchOption o (true ≡ false) J → E o → MatchOption o N X = elim [ None ↦ (λ h e. absurd (true≢false h)) | Some p ↦ (λ h e. to p e h) ] in
      subst (λ (o : Option P). MatchOption o N X) (sym same) (by o h e)

-- what a taking out answers, as the caller's seat shows it
pub taken_seen : {F K V S E : Type 0} (g : Once F (Bor K × (Bor V × Unit {0})) Bool) (condition : F) (so : V → Type 0) (key : K) (found : Option (K × V)) (own own' : Hand K V) (old new : List (Note K V S))
    (r : Result (Option (K × V)) E) → IfOk r (λ taken. TakesOut g condition key found taken own own' old new) → IfOk r (λ taken. IfSome taken (λ p. so p.1))
    → IfOk r (λ taken. MatchOption taken ((own' ≡ own) × ((stood : Option (K × V)) × (stood ≡ found) × Stays g condition stood))
    (λ p. Adds key None (Some p) (changes_in old, own) (changes_in new, own') × Judged g condition p true × so p.1))
taken_seen g condition so key found own own' old new (Ok None) h f = (h.1, (found, refl, h.0))
taken_seen g condition so key found own own' old new (Ok (Some p)) h f = (adds key None (Some p) own own' old new h.0, h.1, f)
taken_seen g condition so key found own own' old new (Err e) h f = tt

-- a pair without a value is none
pub no_value : {K V : Type 0} (o : Option (K × V)) → option_map (λ p. p.1) o ≡ None → o ≡ None
no_value None h = refl
no_value (Some p) h = absurd (cc)

-- where nothing stood, what was put is the change of an absent key
pub absent_put : {P V E A T : Type 0} (put : Result T E) (answer : Result (Option V) A) (Ends : Option P → Type 0) (X : V → Type 0) (now : Option P)
    → OnOk put (answer ≡ Ok None) → OnErr put (IsErr answer) → IfOk put (λ t. (found : Option P) × Ends found × (found ≡ now)) → now ≡ None
    → IfOk answer (λ there. MatchOption there (Ends None) X)
absent_put {P} {V} {E} {A} (Ok t) answer Ends X now ok err ends none =
    let e : Ends None = subst Ends (ends.2 ∙ none) ends.1 in
    subst (λ (r : Result (Option V) A). IfOk r (λ there. MatchOption there (Ends None) X)) (sym ok) e
absent_put (Err x) (Ok there) Ends X now ok err ends none = absurd (false≢true err)
absent_put (Err x) (Err y) Ends X now ok err ends none = tt

-- an answer of `put_if_absent`, as the caller's seat shows it
pub put_seen : {K V E : Type 0} (r : Result (Option V) E) (A B N : Type 0) (so : V → Type 0) (now : Option (K × V)) → (A → B)
    → IfOk r (λ there. MatchOption there A (λ v. (option_map (λ p. p.1) now ≡ Some v) × N)) → IfOk r (λ there. IfSome there so)
    → IfOk r (λ there. MatchOption there B (λ v. so v × N × ((found : Option (K × V)) × (found ≡ now) × (option_map (λ p. p.1) found ≡ Some v))))
put_seen (Ok None) A B N so now to h f = to h
put_seen (Ok (Some v)) A B N so now to h f = (f, h.1, (now, refl, h.0))
put_seen (Err e) A B N so now to h f = tt
