-- A notice is opened that is due.
use Rattle.std.proofs.Common.{◌≡◌, ℕ, Bool, true, false, [], Option, Some, None, refl, sym, ap, ◌∙◌, subst, arith}
use Rattle.std.proofs.lemmas.Option.{none-some, same_Some}
use Rattle.std.specs.declared.cmp.PartialEq as PartialEq
use Rattle.std.specs.declared.hash.Hash as Hash
use Rattle.std.specs.declared.hash.Hasher as Hasher
use Rattle.std.specs.declared.hash.BuildHasher as BuildHasher
use Rattle.moka_hist.specs.Conditions.{MayVisit}
use Rattle.moka_hist.specs.Next.{Next}
use Rattle.moka_hist.specs.State.{World}
use Rattle.moka_hist.specs.Step.{Access, Gets, On_table, On_desk, next_of}
use Rattle.moka_hist.specs.Visits.{makes}
use Rattle.moka_hist.specs.declared.accesses.Got.{Got}
use Rattle.moka_hist.specs.declared.accesses.Got.TheVariants as got
use Rattle.moka_hist.specs.declared.rules.Cause.{Cause}
use Rattle.moka_hist.specs.declared.visits.Found.TheVariants as found
use Rattle.moka_hist.specs.declared.visits.Visit.{Visit}
use Rattle.moka_hist.specs.declared.visits.Visit.TheVariants as visit
use Rattle.moka_desk.specs.StandsFor.{Finds, Makes, Stays}
use Rattle.moka_desk.specs.declared.state.Desk.{Desk}
use Rattle.moka_init.specs.FlowPlan.{call_of}
use Rattle.moka_init.specs.Forms.{HasForm}
use Rattle.moka_init.specs.Grounds.{access_at}
use Rattle.moka_init.specs.Openings.{opening_of}
use Rattle.moka_init.specs.declared.flow.Flow.{Flow}
use Rattle.moka_init.specs.declared.opening.Opening.{Opening}
use Rattle.moka_laws.specs.Sound.{VisitsKeepSound}
use Rattle.moka_needs.specs.Reads.{ReadsItsKind}
use Rattle.moka_kept.specs.Facts.{ReadsSo, facts}
use Rattle.moka_kept.specs.Kept.{CacheLayers, IsKept, MayMake}
use Rattle.moka_kept.specs.Paths.{EndedWith}
use Rattle.moka_kept.specs.Taking.{NoAnswer, TookBy, is_taking, tested_by}
use Rattle.moka_kept.proofs.Keeping.{with_desk}
use Rattle.moka_kept.proofs.Reached.{may_of}
use Rattle.moka_kept.proofs.Wanting.{OfCall}

-- what can't be so isn't
pub not_so : (b : Bool) → (b ≡ true → ⊥) → b ≡ false
not_so true cannot = absurd (cannot refl)
not_so false cannot = refl

-- The access opens the notice of the call of this number so, of some key and value.
pub record Opens {K V E : Type 0} (n : ℕ) (access : Access K V E) (opening : Opening) : Type 0 where
  pub key : K
  pub value : V
  pub is : access ≡ On_desk (visit.OpenNotice n key value opening.stamp opening.modified opening.cause opening.upsert)

module _ {K V E : Type 0} where
  opens_made : (n m : ℕ) (made : Visit K V E) (o : Opening) → opening_of (On_desk made) ≡ Some o → OfCall n (On_desk made) → m ≡ n → Opens m (On_desk made) o
  opens_made n m (visit.OpenNotice k key value stamp modified cause upsert) o is own same = record {
    key = key;
    value = value;
    is = ap (λ (j : ℕ). On_desk (visit.OpenNotice j key value stamp modified cause upsert)) (own ∙ sym same)
        ∙ ap (λ (x : Opening). On_desk (visit.OpenNotice m key value x.stamp x.modified x.cause x.upsert)) (same_Some _ o is);
  }
  opens_made n m _ o is own same = absurd (none-some o is)

  pub opens : (n m : ℕ) (access : Access K V E) (o : Opening) → opening_of access ≡ Some o → OfCall n access → m ≡ n → Opens m access o
  opens n m (On_table operation) o is own same = absurd (none-some o is)
  opens n m (On_desk made) o is own same = opens_made n m made o is own same

  -- it takes no answer to the call's own ask, and asks no test
  pub opens_untaking : (n : ℕ) (access : Access K V E) (o : Opening) → Opens n access o → is_taking access ≡ false
  opens_untaking n access o opens = ap is_taking opens.is

  pub opens_untested : (n : ℕ) (access : Access K V E) (o : Opening) → Opens n access o → tested_by access ≡ None
  opens_untested n access o opens = ap tested_by opens.is

  -- what is found then is of its form
  pub opens_form : (n : ℕ) (access : Access K V E) (o : Opening) (told : Option Cause) → Opens n access o → HasForm access (got.Desk (found.OpenNotice told))
  opens_form n access o told opens = subst (λ (a : Access K V E). HasForm a (got.Desk (found.OpenNotice told))) (sym opens.is) (told, refl)

module _ {K V E S H : Type 0} {same : PartialEq.Ghosts K} {hash : Hash.Ghosts K} {build : BuildHasher.Ghosts S H} {hasher : Hasher.Ghosts H} (eq : K → K → Bool) (holds : K → V → Type 0) (ends : ℕ → Option K) where
  -- the notice is opened in the world that is kept
  pub kept_opened : (layers : CacheLayers K V E S H same hash build hasher) (desk : Desk K V E S H same hash build hasher) (n : ℕ) (access : Access K V E) (o : Opening) (opens : Opens n access o) → VisitsKeepSound K V E eq
      → Makes eq layers.desk (visit.OpenNotice n opens.key opens.value o.stamp o.modified o.cause o.upsert) desk
      → (kept : IsKept eq holds ends layers) → MayMake kept.world.desk access → IsKept eq holds ends (record layers { desk = desk })
  kept_opened layers desk n access o opens law made kept may =
      let made_so : Visit K V E = visit.OpenNotice n opens.key opens.value o.stamp o.modified o.cause o.upsert in
      let may_visit : MayVisit kept.world.desk made_so = subst (λ (a : Access K V E). MayMake kept.world.desk a) opens.is may in
      with_desk eq holds ends layers desk (makes eq kept.world.desk made_so) kept (made kept.world.desk kept.stands.desk may_visit) (law kept.world.desk made_so kept.sound may_visit) refl refl (omega arith) (λ ended. ended)

  -- it stays as it is kept
  pub kept_unopened : (layers : CacheLayers K V E S H same hash build hasher) (desk : Desk K V E S H same hash build hasher) → Stays eq layers.desk desk → IsKept eq holds ends layers → IsKept eq holds ends (record layers { desk = desk })
  kept_unopened layers desk stays kept = with_desk eq holds ends layers desk kept.world.desk kept (stays kept.world.desk kept.stands.desk) kept.sound refl refl (omega arith) (λ ended. ended)

  -- the call goes on from it
  pub opened_ends : (layers : CacheLayers K V E S H same hash build hasher) (flow : Flow K V E) (n : ℕ) (o : Opening) (opens : Opens n (access_at flow) o) (told : Option Cause) (next : Next K V E)
      → (kept : IsKept eq holds ends layers) → ReadsItsKind kept.world.desk flow.call (call_of flow) → ReadsSo holds kept.world.desk flow.call (call_of flow) → MayMake kept.world.desk (access_at flow)
      → Finds eq layers.desk (visit.OpenNotice n opens.key opens.value o.stamp o.modified o.cause o.upsert) (found.OpenNotice told)
      → next ≡ next_of flow.call (call_of flow) (got.Desk (found.OpenNotice told)) → EndedWith (facts eq holds) NoAnswer flow.call (call_of flow) next
  opened_ends layers flow n o opens told next kept kind reads may finds follows =
      let made_so : Visit K V E = visit.OpenNotice n opens.key opens.value o.stamp o.modified o.cause o.upsert in
      let given : Got K V E = got.Desk (found.OpenNotice told) in
      let after : World K V E = record kept.world { desk = makes eq kept.world.desk made_so } in
      let may_visit : MayVisit kept.world.desk made_so = subst (λ (a : Access K V E). MayMake kept.world.desk a) opens.is may in record {
        call = call_of flow;
        came = ([], refl);
        given = given;
        last = record {
          gave = record {
            world = kept.world;
            after = after;
            sound = kept.sound;
            ends = kind;
            may = may_of kept.world (access_at flow) may;
            gets = subst (λ (a : Access K V E). Gets eq flow.call kept.world a given after) (sym opens.is) (finds kept.world.desk kept.stands.desk may_visit, refl);
          };
          stored = kept.stored;
          reads = reads;
        };
        took = subst (λ (a : Access K V E). TookBy a given NoAnswer) (sym opens.is) tt;
        follows = follows;
      }
