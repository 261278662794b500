-- The lists that a plain table gives.
use Rattle.std.proofs.Common.{◌≡◌, ℕ, Bool, List, [], length, inr, refl, sym, subst, ◌∙◌, arith}
use Rattle.std.specs.Prelude.{All, is_some}
use Rattle.std.specs.List.{IsDistinct}
use Rattle.std.specs.HashMap.{ContainsKey, IsUnique, get, hash_map_len, keys}
use Rattle.std.specs.Set.{is_member}
use Rattle.std.proofs.lemmas.List.Elements.{All-nil}
use Rattle.moka_table.specs.Plain.{IsOfPart, IsPlainList}
use Rattle.moka_table.specs.declared.plain.PlainTable.{PlainTable}

module _ {K V S H : Type 0} (eq : K → K → Bool) (t : PlainTable K V S H) where
  -- its keys are the list of its one part
  pub keys_listed : (listed : List K) → listed ≡ keys t.pairs → IsUnique eq t.pairs
      → All (ContainsKey eq t.pairs) (keys t.pairs)
      → ((q : K) → is_some (get eq t.pairs q) ≡ is_member eq (keys t.pairs) q)
      → length (keys t.pairs) ≡ hash_map_len t.pairs → IsPlainList eq t 0 listed
  keys_listed listed are unique found has counted =
      subst (λ (ks : List K). IsPlainList eq t 0 ks) (sym are)
      (record {
        distinct = unique;
        of_part = λ k d below. refl;
        within = λ k d below. inr (found k d below, refl);
        whole = λ q of_part there covers. sym (has q) ∙ there;
        few = omega (arith, counted);
      })

  -- and any other part has none
  pub none_listed : (part : ℕ) → (0 ≡ part → ⊥) → IsPlainList eq t part []
  unfolding IsDistinct
  none_listed part other = record {
    distinct = tt;
    of_part = All-nil (IsOfPart part);
    within = All-nil _;
    whole = λ q of_part there covers. absurd (other of_part);
    few = omega arith;
  }
