-- Where a probe stands, by its access.
use Rattle.std.proofs.Common.{◌≡◌, ℕ, ◌+◌, ◌-◌, ◌*◌, ◌<◌, Bool, List, length, Option, Some, None, refl, arith, ap, subst}
use Rattle.moka_words.specs.declared.words.Word.{Word}
use Rattle.moka_words.specs.declared.accesses.Access.{Access}
use Rattle.moka_words.specs.declared.accesses.Access.TheVariants as access
use Rattle.moka_words.specs.declared.accesses.Choice.TheVariants as choice
use Rattle.moka_words.specs.declared.accesses.Seen.TheVariants.{Chosen}
use Rattle.moka_cht.specs.declared.probe.Place.{Place}
use Rattle.moka_cht.specs.declared.probe.Place.TheVariants.{Free, Dead, Stored}
use Rattle.moka_cht.specs.declared.probe.Aim.TheVariants as aim
use Rattle.moka_cht.specs.declared.probe.Step.TheVariants.{On}
use Rattle.moka_cht.specs.declared.probe.Point.{Point}
use Rattle.moka_cht.specs.declared.probe.Point.TheVariants.{Load, Choose, Put, Remove}
use Rattle.moka_cht.specs.declared.probe.Probe.{Probe}
use Rattle.moka_cht.specs.Probes.{Chooses, Goes, IsChoice, IsNearer, Takes, access_at, access_of, bucket_of, present_of}

-- only a load loads
pub load_is : (array index a i : ℕ) (p : Point) → access_at array index p ≡ access.LoadWord a i → (p ≡ Load) × (index ≡ i)
load_is array index a i Load e = (refl, cc)
load_is array index a i (Choose at) e = absurd cc
load_is array index a i (Put at n) e = absurd cc
load_is array index a i (Remove n) e = absurd cc

-- how many accesses a probe may still make before it asks what to do, or has ended
abbrev pub at_load : Point → ℕ
at_load Load = 1
at_load (Choose at) = 0
at_load (Put at n) = 0
at_load (Remove n) = 0

abbrev pub loads_left : Probe → ℕ
loads_left p = 2 * (p.length - p.passed) + at_load p.point

-- what a probe does at a point at which it may stand between loads
abbrev pub IsBetween : List Word → Probe → Point → Type 0
IsBetween words p Load = Unit {0}
IsBetween words p (Choose at) = IsChoice words p (Choose at)
IsBetween words p (Put at n) = ⊥
IsBetween words p (Remove n) = ⊥

pub between : (words : List Word) (p q : Probe) (t : Point) → q.point ≡ t → IsNearer words p q t → IsBetween words q t
between words p q Load e h = tt
between words p q (Choose at) e h = (h.1, h.2)
between words p q (Put at n) e h = h
between words p q (Remove n) e h = h

-- what does not load chooses
pub chooses : (words : List Word) (array index : ℕ) (p : Probe) (t : Point) → IsBetween words p t → ((a i : ℕ) → access_at array index t ≡ access.LoadWord a i → ⊥) → IsChoice words p t
chooses words array index p Load h no_load = absurd (no_load array index refl)
chooses words array index p (Choose at) h no_load = h
chooses words array index p (Put at n) h no_load = h
chooses words array index p (Remove n) h no_load = h

fewer_at : (words : List Word) (p q : Probe) (t : Point) → p.passed < p.length → q.length ≡ p.length → IsNearer words p q t → 2 * (q.length - q.passed) + at_load t < 2 * (p.length - p.passed) + 1
fewer_at words p q Load within same h = omega arith
fewer_at words p q (Choose at) within same h = let stays : q.passed ≡ p.passed = h.0 in omega arith
fewer_at words p q (Put at n) within same h = absurd h
fewer_at words p q (Remove n) within same h = absurd h

-- each load leaves fewer of them
pub fewer_left : (own : ℕ → Bool) (words : List Word) (p q : Probe) → p.point ≡ Load → p.passed < p.length → Goes own words p q → loads_left q < loads_left p
fewer_left own words p q load within goes =
    rw (ap at_load load) (fewer_at words p q q.point within goes.follows.length_stays goes.nearer)

-- what chooses is at a place
pub place_is : (words : List Word) (p : Probe) (t : Point) → IsChoice words p t → (at : Place) × (t ≡ Choose at)
place_is words p Load h = absurd h
place_is words p (Choose at) h = (at, refl)
place_is words p (Put at n) h = absurd h
place_is words p (Remove n) h = absurd h

-- a node that is put goes on to its exchange
pub put_goes : (p q : Probe) (at : Place) (n : ℕ) → p.point ≡ Choose at → Takes p p.point (Chosen (choice.Put n)) (On q) → q ≡ record p { point = Put at n }
put_goes p q at n is takes = let goes = subst (λ t. Takes p t (Chosen (choice.Put n)) (On q)) is takes in cc

-- and so does a removal
pub remove_goes : (p q : Probe) (n : ℕ) → p.point ≡ Choose (Stored n) → Takes p p.point (Chosen choice.Remove) (On q) → q ≡ record p { point = Remove n }
remove_goes p q n is takes = let goes = subst (λ t. Takes p t (Chosen choice.Remove) (On q)) is takes in cc

-- what a removal asks of is live
pub live_choice : (words : List Word) (p : Probe) (t : Point) (r : Option ℕ) → p.aim ≡ aim.Remove → IsChoice words p t → ((at : Place) → t ≡ Choose at → r ≡ present_of at) →
    (n : ℕ) × (t ≡ Choose (Stored n)) × (r ≡ Some n)
live_choice words p Load r is choice tells = absurd choice
live_choice words p (Put at n) r is choice tells = absurd choice
live_choice words p (Remove n) r is choice tells = absurd choice
live_choice words p (Choose Free) r is choice tells = absurd (subst (λ a. Chooses a Free) is choice.1)
live_choice words p (Choose (Dead n)) r is choice tells = absurd (subst (λ a. Chooses a (Dead n)) is choice.1)
live_choice words p (Choose (Stored n)) r is choice tells = (n, refl, tells (Stored n) refl)

-- what an insert asks of, by what it found
pub vacant_choice : (words : List Word) (p : Probe) (t : Point) (r : Option ℕ) → IsChoice words p t → ((at : Place) → t ≡ Choose at → r ≡ present_of at) → r ≡ None →
    (n : ℕ) → t ≡ Choose (Stored n) → ⊥
vacant_choice words p t r choice tells none n is = let some = tells (Stored n) is in cc

pub stored_choice : (words : List Word) (p : Probe) (t : Point) (r : Option ℕ) (n : ℕ) → IsChoice words p t → ((at : Place) → t ≡ Choose at → r ≡ present_of at) → r ≡ Some n → t ≡ Choose (Stored n)
stored_choice words p Load r n choice tells some = absurd choice
stored_choice words p (Put at m) r n choice tells some = absurd choice
stored_choice words p (Remove m) r n choice tells some = absurd choice
stored_choice words p (Choose Free) r n choice tells some = let none = tells Free refl in absurd cc
stored_choice words p (Choose (Dead m)) r n choice tells some = let none = tells (Dead m) refl in absurd cc
stored_choice words p (Choose (Stored m)) r n choice tells some = let there = tells (Stored m) refl in let same : m ≡ n = cc in ap (λ x. Choose (Stored x)) same
