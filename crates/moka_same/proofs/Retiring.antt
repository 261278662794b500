-- Which predicates leave by the walk of maintenance: those that hide no stored record, in whatever
-- order it finds the keys.
use Rattle.std.proofs.Common.{◌≡◌, ℕ, Bool, true, false, not, ◌&&◌, ◌==◌, List, [], ◌∷◌, filter, cond, Option, Some, ◌⊎◌, inl, inr, refl, sym, ap, ◌∙◌, subst}
use Rattle.std.specs.List.{list_any}
use Rattle.std.proofs.lemmas.Bool.{eqb-true, false≢true}
use Rattle.moka_hist.specs.State.{DeskPart, Listed, TablePart}
use Rattle.moka_hist.specs.Visits.{does_hit, does_strike, is_named, named_of, retired, struck}
use Rattle.moka_hist.specs.declared.predicates.Registered.{Registered}
use Rattle.moka_hist.specs.declared.records.Stored.{Stored}
use Rattle.moka_laws.proofs.Naming.{IsIn, and_first, and_second, any_found, any_holds, filter_in, in_filter}

abbrev pair : ℕ → ℕ → ℕ × ℕ
pair a b = (a, b)

-- a predicate goes by its own id and moment alone
named_same : (r : Registered) (named : ℕ × ℕ) → is_named named r ≡ true → named ≡ named_of r
named_same r named h =
    let id : r.id ≡ named.0 = eqb-true r.id named.0 (and_first (r.id == named.0) (r.moment == named.1) h) in
    let moment : r.moment ≡ named.1 = eqb-true r.moment named.1 (and_second (r.id == named.0) (r.moment == named.1) h) in
    ap (λ v. pair v named.1) (sym id) ∙ ap (λ v. pair r.id v) (sym moment)

-- two tests are one where each holds if the other does
iff_same : (a b : Bool) → (a ≡ true → b ≡ true) → (b ≡ true → a ≡ true) → a ≡ b
iff_same true b f g = sym (f refl)
iff_same false true f g = g refl
iff_same false false f g = refl

filter_same : {A : Type 0} (f g : A → Bool) (xs : List A) → ((x : A) → IsIn xs x → f x ≡ g x) →
    filter f xs ≡ filter g xs
filter_same f g [] h = refl
filter_same {A = A} f g (x ∷ xs) h =
    ap (λ b. cond b (x ∷ filter f xs) (filter f xs)) (h x (inl refl)) ∙
    ap (λ (ys : List A). cond (g x) (x ∷ ys) ys) (filter_same f g xs (λ y i. h y (inr i)))

module _ {K V E : Type 0} (d : DeskPart K V E) (t : TablePart K V) where
  -- a predicate of this name hides a stored record
  pub record Hides (named : ℕ × ℕ) : Type 0 where
    pub key : K
    pub there : K
    pub stored : Stored V
    pub stands : t.stored key ≡ Some (there, stored)
    pub strikes : does_strike d there stored named ≡ true

  -- some names are struck out, each since such a predicate hides a stored record
  pub record Thins (ids more : List (ℕ × ℕ)) : Type 0 where
    pub from : (named : ℕ × ℕ) → IsIn more named → IsIn ids named
    pub rest : (named : ℕ × ℕ) → IsIn ids named → IsIn more named ⊎ Hides named

  pub thins_none : (ids : List (ℕ × ℕ)) → Thins ids ids
  thins_none ids = record { from = λ named h. h; rest = λ named h. inl h }

  pub thins_both : (a b c : List (ℕ × ℕ)) → Thins a b → Thins b c → Thins a c
  thins_both a b c h k = record {
    from = λ named i. h.from named (k.from named i);
    rest = λ named i. by named (h.rest named i);
  }
    where
      by : (named : ℕ × ℕ) → IsIn b named ⊎ Hides named → IsIn c named ⊎ Hides named
      by named (inl i) = k.rest named i
      by named (inr hides) = inr hides

  -- those are struck out that hide this record, which stands under the key
  pub thins_struck : (ids : List (ℕ × ℕ)) (key there : K) (stored : Stored V) →
      t.stored key ≡ Some (there, stored) → Thins ids (struck d ids there stored)
  thins_struck ids key there stored stands = record {
    from = λ named i. (in_filter keeps ids named i).0;
    rest = λ named i. by named i (does_strike d there stored named) refl;
  }
    where
      keeps : ℕ × ℕ → Bool
      keeps named = not (does_strike d there stored named)

      by : (named : ℕ × ℕ) → IsIn ids named → (b : Bool) → does_strike d there stored named ≡ b →
          IsIn (struck d ids there stored) named ⊎ Hides named
      by named i true e = inr (record
          { key = key; there = there; stored = stored; stands = stands; strikes = e })
      by named i false e = inl (filter_in keeps ids named i (ap not e))

  -- no registered predicate of these names hides a stored record
  abbrev pub AreSpent : List (ℕ × ℕ) → Type 0
  AreSpent ids =
      (r : Registered) → IsIn d.registered r → IsIn ids (named_of r) → (key there : K)
      (stored : Stored V) → t.stored key ≡ Some (there, stored) → does_hit d there stored r ≡ false

  -- what is carried to the end, of what was carried
  pub record Carried (ids last : List (ℕ × ℕ)) : Type 0 where
    pub thins : Thins ids last
    pub spent : AreSpent last

  module _ (ids : List (ℕ × ℕ)) where
    -- a predicate that leaves so leaves any other way too
    leaves_too : (a b : List (ℕ × ℕ)) → Carried ids a → Carried ids b → (r : Registered) →
        list_any (λ named. is_named named r) a ≡ true →
        list_any (λ named. is_named named r) b ≡ true
    leaves_too a b h k r some = by (k.thins.rest named.0 (h.thins.from named.0 named.1))
      where
        named : (x : ℕ × ℕ) × IsIn a x × (is_named x r ≡ true)
        named = any_found (λ x. is_named x r) a some

        by : IsIn b named.0 ⊎ Hides named.0 → list_any (λ x. is_named x r) b ≡ true
        by (inl i) = any_holds (λ x. is_named x r) b named.0 i named.2
        by (inr hides) = absurd (false≢true (sym off ∙ on))
          where
            other : (x : Registered) × IsIn d.registered x ×
                ((is_named named.0 x && does_hit d hides.there hides.stored x) ≡ true)
            other = any_found (λ x. is_named named.0 x && does_hit d hides.there hides.stored x)
                d.registered hides.strikes

            on : does_hit d hides.there hides.stored other.0 ≡ true
            on = and_second (is_named named.0 other.0) (does_hit d hides.there hides.stored other.0) other.2

            off : does_hit d hides.there hides.stored other.0 ≡ false
            off = h.spent other.0 other.1
                (subst (λ x. IsIn a x) (named_same other.0 named.0
                (and_first (is_named named.0 other.0)
                (does_hit d hides.there hides.stored other.0) other.2)) named.1)
                hides.key hides.there hides.stored hides.stands

    -- so the same leave
    pub same_left : (a b : List (ℕ × ℕ)) → Carried ids a → Carried ids b →
        retired d b ≡ retired d a
    same_left a b h k = ap (λ rs. record d { registered = rs })
        (filter_same (λ r. not (list_any (λ named. is_named named r) b))
        (λ r. not (list_any (λ named. is_named named r) a)) d.registered
        (λ r i. ap not (iff_same _ _ (leaves_too b a k h r) (leaves_too a b h k r))))

-- which lists are begun doesn't matter to it
pub carried_closed : {K V E : Type 0} (d : DeskPart K V E) (t : TablePart K V)
    (ids last : List (ℕ × ℕ)) (listings : ℕ → Option (Listed K)) →
    Carried d (record t { listings = listings }) ids last → Carried d t ids last
carried_closed d t ids last listings h = record {
  thins = record { from = h.thins.from; rest = λ named i. by named (h.thins.rest named i) };
  spent = h.spent;
}
  where
    by : (named : ℕ × ℕ) → IsIn last named ⊎ Hides d (record t { listings = listings }) named →
        IsIn last named ⊎ Hides d t named
    by named (inl i) = inl i
    by named (inr h) = inr (record {
      key = h.key;
      there = h.there;
      stored = h.stored;
      stands = h.stands;
      strikes = h.strikes;
    })
