-- What a call knows after its loads.
use Rattle.std.proofs.Common.{◌≡◌, ℕ, ◌<◌, Bool, true, false, List, length, refl, sym, subst, ap, ◌∙◌}
use Rattle.std.specs.Option.{option_map_or}
use Rattle.std.proofs.lemmas.Bool.{false≢true}
use Rattle.moka_words.specs.declared.words.Word.{Word}
use Rattle.moka_words.specs.declared.words.Word.TheVariants.{Unset, Empty, Live, Tomb, SealedEmpty, SealedLive, SealedTomb}
use Rattle.moka_words.specs.declared.accesses.Access.TheVariants as access
use Rattle.moka_words.specs.declared.accesses.Seen.{Seen}
use Rattle.moka_words.specs.declared.accesses.Seen.TheVariants as seen
use Rattle.moka_words.specs.Words.{node_of, word_at}
use Rattle.moka_words.specs.Effect.{Effect, alone}
use Rattle.moka_cht.specs.declared.probe.Point.TheVariants.{Load}
use Rattle.moka_cht.specs.declared.probe.Probe.{Probe}
use Rattle.moka_cht.specs.declared.probe.Step.{Step}
use Rattle.moka_cht.specs.declared.probe.Step.TheVariants.{On, Ended}
use Rattle.moka_cht.specs.declared.probe.Ending.{Ending}
use Rattle.moka_cht.specs.declared.probe.Ending.TheVariants.{Kept, Changed, NoFree, Closed}
use Rattle.moka_cht.specs.declared.probe.Aim.{Aim}
use Rattle.moka_cht.specs.declared.probe.Aim.TheVariants.{Insert}
use Rattle.moka_cht.specs.declared.node.Node.{Node}
use Rattle.moka_cht.specs.Nodes.{AllKept, IsKept}
use Rattle.moka_cht.specs.Probes.{AfterLoad, AfterLoads, AtPlace, Follows, PassesAll, Stands, Takes, Tells, access_of, bucket_of, is_open}
use Rattle.moka_cht.proofs.Points.{load_is}

pub follows_on : (p q r : Probe) → Follows p q → Follows q r → Follows p r
follows_on p q r a b = record { aim_stays = b.aim_stays ∙ a.aim_stays; array_stays = b.array_stays ∙ a.array_stays; length_stays = b.length_stays ∙ a.length_stays; hash_stays = b.hash_stays ∙ a.hash_stays }

-- the words tell what comes of a load
pub takes_load : (hash : ℕ → ℕ) (own : ℕ → Bool) (words : List Word) (p : Probe) (a i : ℕ) (s : Seen) (r : Step) →
    access.LoadWord a i ≡ access_of p → (h : ℕ) × (same : Bool) × (s ≡ seen.Word (word_at words i) h same) →
    Effect hash own (access.LoadWord 0 i) s (alone words) (alone words) → Stands own words p → Takes p p.point s r → AfterLoad own words p r
takes_load hash own words p a i s r named shape effect stands takes =
    let (at_point, at_index) = load_is p.array (bucket_of p) a i p.point (sym named) in
    let here = subst (λ t. Takes p t s r) at_point takes in
    let told = subst (λ t. Takes p Load t r) shape.2 here in
    let (w, h, same, stays) = subst (λ t. Effect hash own (access.LoadWord 0 i) t (alone words) (alone words)) shape.2 effect in
    told own words stands (ap (word_at words) (sym at_index)) same

-- what is told after all loads, of the call as it was begun
pub tells_after : (own : ℕ → Bool) (words : List Word) (p : Probe) (r : Step) (e f : Ending) (aim : Aim) (hash : ℕ) → p.aim ≡ aim → p.hash ≡ hash → r ≡ Ended e → e ≡ f →
    AfterLoads own words p r → Tells own words aim hash f
tells_after own words p r e f aim hash aim_is hash_is ended is after =
    subst (λ x. Tells own words aim hash x) is
    (subst (λ x. Tells own words x hash e) aim_is (subst (λ x. Tells own words p.aim x e) hash_is (subst (AfterLoads own words p) ended after)))

-- the probe that asks what to do
pub place_after : (own : ℕ → Bool) (words : List Word) (p q : Probe) (r : Step) (aim : Aim) (hash : ℕ) → p.aim ≡ aim → p.array ≡ 0 → p.hash ≡ hash → r ≡ On q →
    AfterLoads own words p r → AtPlace own words aim hash q
place_after own words p q r aim hash aim_is array_is hash_is on after =
    let (follows, is_on, stands, choice) = subst (AfterLoads own words p) on after in
    record { aim_is = follows.aim_stays ∙ aim_is; array_is = follows.array_stays ∙ array_is; hash_is = follows.hash_stays ∙ hash_is; on = is_on; stands = stands; choice = choice }

-- the words of an array in use are open
pub open_word : {K V : Type 0} (nodes : List (Node K V)) (w : Word) → IsKept nodes w → is_open w ≡ true
open_word nodes Unset h = absurd h
open_word nodes Empty h = refl
open_word nodes (Live n) h = refl
open_word nodes (Tomb n) h = refl
open_word nodes SealedEmpty h = absurd h
open_word nodes (SealedLive n) h = absurd h
open_word nodes (SealedTomb n) h = absurd h

-- so an insert that ends at its loads has passed all buckets
pub insert_ends : {K V : Type 0} (own : ℕ → Bool) (words : List Word) (nodes : List (Node K V)) (hash : ℕ) (e : Ending) → AllKept nodes words → Tells own words Insert hash e → PassesAll own words hash
insert_ends own words nodes hash (Kept present) kept told = absurd (told.0 refl)
insert_ends own words nodes hash (Changed at) kept told = absurd told
insert_ends own words nodes hash NoFree kept told = told.1
insert_ends own words nodes hash Closed kept told = absurd (false≢true (sym told.2 ∙ open_word nodes _ (kept told.0 told.1)))
