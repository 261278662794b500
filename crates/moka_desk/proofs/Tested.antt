-- What tests of a desk's maps say of conditions of visits.
use Rattle.std.proofs.Common.{◌≡◌, ◌≢◌, ℕ, ◌==◌, Bool, true, false, not, Option, Some, None, is_some, IsNone, IsTrue, refl, sym, ap, ◌∙◌, subst}
use Rattle.std.specs.Prelude.{◌↔◌}
use Rattle.std.proofs.lemmas.Bool.{eqb-true, eq-eqb, false≢true}
use Rattle.moka_hist.specs.Conditions.{IsPlaceOf}
use Rattle.moka_hist.specs.Visits.{number_of}
use Rattle.moka_hist.specs.declared.writes.Holding.{Holding}
use Rattle.moka_hist.specs.declared.writes.Holding.TheVariants as holding
use Rattle.moka_hist.specs.declared.writes.Write.{Write}

-- none is found
none_found : {A : Type 0} (b : Bool) (found : Option A) → is_some found ≡ not b → IsTrue b ↔ IsNone found
none_found true found e = ((λ h. e), (λ h. refl))
none_found false found e = ((λ h. absurd (false≢true h)), (λ h. absurd (false≢true (sym h ∙ e))))

pub none_is : {A : Type 0} (b : Bool) (found o : Option A) → is_some found ≡ not b → found ≡ o → IsTrue b ↔ IsNone o
none_is b found o e f = subst (λ x. IsTrue b ↔ IsNone x) f (none_found b found e)

-- whether a call that holds this took a write up
pub took_one : (o : Option Holding) (write : Write) → o ≡ Some (holding.TookUp write) → IsTrue false ↔ ((u : Write) → o ≢ Some (holding.TookUp u))
took_one o write e = ((λ h. absurd (false≢true h)), (λ h. absurd (h write e)))

pub own_not_taken : (o : Option Holding) (pending : Option ℕ) → o ≡ Some (holding.Own pending) → IsTrue true ↔ ((u : Write) → o ≢ Some (holding.TookUp u))
own_not_taken o pending e = ((λ h u f. cc), (λ h. refl))

pub none_not_taken : (o : Option Holding) → o ≡ None → IsTrue true ↔ ((u : Write) → o ≢ Some (holding.TookUp u))
none_not_taken o e = ((λ h u f. cc), (λ h. refl))

-- whether what a call holds is the place of the write
pub own_place : (o : Option Holding) (pending : Option ℕ) (call : ℕ) (write : Write) (number : ℕ) → o ≡ Some (holding.Own pending) → number ≡ number_of write → IsTrue (number == call) ↔ IsPlaceOf o call write
own_place o pending call write number e n =
    subst (λ x. IsTrue (number == call) ↔ IsPlaceOf x call write) (sym e) ((λ h. sym n ∙ eqb-true number call h), (λ h. eq-eqb number call (n ∙ h)))

pub taken_place : (o : Option Holding) (held : Write) (call : ℕ) (write : Write) (b : Bool) → o ≡ Some (holding.TookUp held) → (IsTrue b ↔ (write ≡ held)) → IsTrue b ↔ IsPlaceOf o call write
taken_place o held call write b e t = subst (λ x. IsTrue b ↔ IsPlaceOf x call write) (sym e) t

pub no_place : (o : Option Holding) (call : ℕ) (write : Write) → o ≡ None → IsTrue false ↔ IsPlaceOf o call write
no_place o call write e = subst (λ x. IsTrue false ↔ IsPlaceOf x call write) (sym e) ((λ h. absurd (false≢true h)), (λ h. absurd h))

-- the owner, if there is one, has not settled
pub one_unsettled : {A : Type 0} (owners : Option ℕ) (owner : ℕ) (settled : ℕ → Option A) (b : Bool) → owners ≡ Some owner → b ≡ is_some (settled owner) → IsTrue (not b) ↔ ((n : ℕ) → owners ≡ Some n → IsNone (settled n))
one_unsettled {A} owners owner settled b e f = (there, back)
  where
    no : (x : Bool) → IsTrue (not x) → x ≡ false
    no true h = absurd (false≢true h)
    no false h = refl

    yes : (x : Bool) → x ≡ false → IsTrue (not x)
    yes true h = absurd (false≢true (sym h))
    yes false h = refl

    same : (n : ℕ) → owners ≡ Some n → owner ≡ n
    same n g = let h = sym e ∙ g in cc

    there : IsTrue (not b) → (n : ℕ) → owners ≡ Some n → IsNone (settled n)
    there h n g = ap (λ m. is_some (settled m)) (sym (same n g)) ∙ sym f ∙ no b h

    back : ((n : ℕ) → owners ≡ Some n → IsNone (settled n)) → IsTrue (not b)
    back h = yes b (f ∙ h owner e)

pub none_unsettled : {A : Type 0} (owners : Option ℕ) (settled : ℕ → Option A) → owners ≡ None → IsTrue true ↔ ((n : ℕ) → owners ≡ Some n → IsNone (settled n))
none_unsettled owners settled e = ((λ h n g. absurd (apart n (sym e ∙ g))), (λ h. refl))
  where
    apart : (n : ℕ) → None ≡ Some n → ⊥
    apart n h = cc
