-- The plans of walks, and how a walk goes on. Maintenance walks too, once it chooses predicates.
use Rattle.std.proofs.Common.{◌≡◌, ℕ, zero, suc, ◌+◌, Bool, false, List, [], ◌∷◌, ◌++◌, map, Option, unwrap_or, refl, ◌∙◌, arith, None, Some, true, sym}
use Rattle.moka_hist.specs.State.{Call, DeskPart, Listed, Stay, World}
use Rattle.moka_hist.specs.Maintenance.{carrying}
use Rattle.moka_hist.specs.Plan.{Item, lists_from, pending_plan, walk_from, walks}
use Rattle.moka_hist.specs.Plan as plan
use Rattle.moka_hist.specs.Next.{Next, answers, gives, goes, stays, waits}
use Rattle.moka_hist.specs.Visits.{gave_back, retired}
use Rattle.moka_hist.specs.declared.records.Stored.{Stored}
use Rattle.moka_hist.specs.declared.replies.Answer.{Answer}
use Rattle.moka_hist.specs.declared.replies.Answer.TheVariants as answer
use Rattle.moka_hist.specs.declared.writes.Write.{Write}
use Rattle.moka_laws.proofs.Outcomes.{on_desk, outcomes}
use Rattle.moka_laws.proofs.StepCases.{OnStep}
use Rattle.moka_laws.proofs.Weights.{weigh, weigh_call, weigh_goes}
use Rattle.moka_laws.proofs.Counting.{none_some}

module _ {K V E : Type 0} where
  -- what a walk has still to do: to list parts, to look keys up, to judge a record, and to end; or,
  -- for the predicates that it carries, to strike them, and to let them go
  pub data IsWalk : List (Item K V E) → Type 0 where
    Ends : IsWalk (plan.Reply answer.End ∷ [])
    Retires : IsWalk (plan.Retire ∷ [])
    Chooses : (parts : ℕ) → IsWalk (plan.Candidates parts ∷ [])
    Strikes : (there : K) (found : Stored V) (rest : List (Item K V E)) → IsWalk rest →
        IsWalk (plan.Strike there found ∷ rest)
    Lists : (part : ℕ) (rest : List (Item K V E)) → IsWalk rest → IsWalk (plan.List_keys part ∷ rest)
    Finds : (key : K) (rest : List (Item K V E)) → IsWalk rest → IsWalk (plan.Find key ∷ rest)
    Scans : (there : K) (found : Stored V) (rest : List (Item K V E)) → IsWalk rest →
        IsWalk (plan.Scan there found ∷ rest)

  pub lists_walk : (part left : ℕ) (rest : List (Item K V E)) → IsWalk rest → IsWalk (lists_from part left rest)
  lists_walk part zero rest walk = walk
  lists_walk part (suc left) rest walk = Lists part _ (lists_walk (part + 1) left rest walk)

  pub walk_is_walk : (part left : ℕ) → IsWalk (walk_from part left)
  walk_is_walk part left = lists_walk part left (plan.Reply answer.End ∷ []) Ends

  -- the walk of maintenance that carries some
  pub retiring_walk : (parts : ℕ) → IsWalk (lists_from 0 parts (plan.Retire ∷ []))
  retiring_walk parts = lists_walk 0 parts (plan.Retire ∷ []) Retires

  pub finds_walk : (keys : List K) (rest : List (Item K V E)) → IsWalk rest → IsWalk (map plan.Find keys ++ rest)
  finds_walk [] rest w = w
  finds_walk (key ∷ keys) rest w = Finds key _ (finds_walk keys rest w)

  -- what a walk has still to do that gives records
  pub data IsShowing : List (Item K V E) → Type 0 where
    Shows_end : IsShowing (plan.Reply answer.End ∷ [])
    Shows_list : (part : ℕ) (rest : List (Item K V E)) → IsShowing rest → IsShowing (plan.List_keys part ∷ rest)
    Shows_find : (key : K) (rest : List (Item K V E)) → IsShowing rest → IsShowing (plan.Find key ∷ rest)
    Shows_scan : (there : K) (found : Stored V) (rest : List (Item K V E)) → IsShowing rest →
        IsShowing (plan.Scan there found ∷ rest)

  pub walk_shows : (part left : ℕ) → IsShowing (walk_from part left)
  walk_shows part zero = Shows_end
  walk_shows part (suc left) = Shows_list part _ (walk_shows (part + 1) left)

  pub finds_show : (keys : List K) (rest : List (Item K V E)) → IsShowing rest → IsShowing (map plan.Find keys ++ rest)
  finds_show [] rest w = w
  finds_show (key ∷ keys) rest w = Shows_find key _ (finds_show keys rest w)

  pub shows_walk : (p : List (Item K V E)) → IsShowing p → IsWalk p
  shows_walk p Shows_end = Ends
  shows_walk p (Shows_list part rest walk) = Lists part rest (shows_walk rest walk)
  shows_walk p (Shows_find key rest walk) = Finds key rest (shows_walk rest walk)
  shows_walk p (Shows_scan there found rest walk) = Scans there found rest (shows_walk rest walk)

  -- the call walks so, and carries no predicates
  pub record Shows (c : Call K V E) : Type 0 where
    pub walk : IsShowing c.plan
    pub free : c.carried ≡ None

  abbrev pub ShowsIf : Option (Call K V E) → Type 0
  ShowsIf None = Unit {0}
  ShowsIf (Some c) = Shows c

  pub goes_show : (c : Call K V E) (p : List (Item K V E)) → c.carried ≡ None → IsShowing p → ShowsIf (goes c p).left
  goes_show c p free Shows_end = tt
  goes_show c p free (Shows_list part rest walk) = record { walk = Shows_list part rest walk; free = free }
  goes_show c p free (Shows_find key rest walk) = record { walk = Shows_find key rest walk; free = free }
  goes_show c p free (Shows_scan there found rest walk) = record { walk = Shows_scan there found rest walk; free = free }

  -- What maintenance has still to do before it chooses predicates, of a table with so many parts: to
  -- take up and post what is owed, to apply the log, and to end the turn.
  pub data IsComing (parts : ℕ) : List (Item K V E) → Type 0 where
    Gathers : IsComing parts (pending_plan false parts)
    Hears : (number : ℕ) (held : Write) → IsComing parts (plan.Ended number ∷ plan.Post held ∷ pending_plan false parts)
    Posts : (held : Write) → IsComing parts (plan.Post held ∷ pending_plan false parts)
    Takes_turn : (held : Write) →
        IsComing parts (plan.Turn ∷ plan.Apply ∷ plan.End ∷ plan.Post held ∷ pending_plan false parts)
    Applies_first : (held : Write) → IsComing parts (plan.Apply ∷ plan.End ∷ plan.Post held ∷ pending_plan false parts)
    Ends_first : (held : Write) → IsComing parts (plan.End ∷ plan.Post held ∷ pending_plan false parts)
    Turns : IsComing parts (plan.Turn ∷ plan.Apply ∷ plan.End ∷ plan.Candidates parts ∷ [])
    Applies : IsComing parts (plan.Apply ∷ plan.End ∷ plan.Candidates parts ∷ [])
    Ends_turn : IsComing parts (plan.End ∷ plan.Candidates parts ∷ [])

  -- until then it is a walk that is to come, without a look
  pub coming_walks : (parts : ℕ) (p : List (Item K V E)) → IsComing parts p → walks p ≡ true
  coming_walks parts p Gathers = refl
  coming_walks parts p (Hears number held) = refl
  coming_walks parts p (Posts held) = refl
  coming_walks parts p (Takes_turn held) = refl
  coming_walks parts p (Applies_first held) = refl
  coming_walks parts p (Ends_first held) = refl
  coming_walks parts p Turns = refl
  coming_walks parts p Applies = refl
  coming_walks parts p Ends_turn = refl

  -- what it leaves alone of the desk until then
  pub record Spares (old new : DeskPart K V E) : Type 0 where
    pub owners : new.owners ≡ old.owners
    pub joined : new.joined ≡ old.joined
    pub settled : new.settled ≡ old.settled
    pub told : new.told ≡ old.told
    pub registered : new.registered ≡ old.registered
    pub clock : new.clock ≡ old.clock

  -- how it goes on until then
  pub data Comes (parts : ℕ) (c : Call K V E) : Next K V E → Type 0 where
    Comes_on : (rest : List (Item K V E)) → IsComing parts rest → Comes parts c (goes c rest)
    Comes_to : Comes parts c (goes c (plan.Candidates parts ∷ []))
    Comes_not : Comes parts c (waits c)

  -- the looks for listed keys weigh nothing, if none does
  pub weigh_finds : (f : Item K V E → ℕ) → ((key : K) → f (plan.Find key) ≡ 0) → (keys : List K) (rest : List (Item K V E)) →
      weigh f (map plan.Find keys ++ rest) ≡ weigh f rest
  weigh_finds f none [] rest = refl
  weigh_finds f none (key ∷ keys) rest = let e = none key in let h = weigh_finds f none keys rest in omega arith

  -- so do the lists of a walk that carries predicates
  pub weigh_retiring : (f : Item K V E → ℕ) → ((part : ℕ) → f (plan.List_keys part) ≡ 0) → f plan.Retire ≡ 0 → (parts : ℕ) →
      weigh f (lists_from 0 parts (plan.Retire ∷ [])) ≡ 0
  weigh_retiring f none over parts = from 0 parts
    where
      from : (part left : ℕ) → weigh f (lists_from part left (plan.Retire ∷ [])) ≡ 0
      from part zero = omega (arith, over)
      from part (suc left) = let e = none part in let h = from (part + 1) left in omega (arith, e, h)

  -- the items of a walk weigh nothing
  pub record IsLight (f : Item K V E → ℕ) : Type 0 where
    pub list : (part : ℕ) → f (plan.List_keys part) ≡ 0
    pub find : (key : K) → f (plan.Find key) ≡ 0
    pub scan : (there : K) (found : Stored V) → f (plan.Scan there found) ≡ 0
    pub end : f (plan.Reply answer.End) ≡ 0
    pub choose : (parts : ℕ) → f (plan.Candidates parts) ≡ 0
    pub strike : (there : K) (found : Stored V) → f (plan.Strike there found) ≡ 0
    pub retire : f plan.Retire ≡ 0

  -- so its plan weighs nothing
  pub weigh_walk : (f : Item K V E → ℕ) → IsLight f → (p : List (Item K V E)) → IsWalk p → weigh f p ≡ 0
  weigh_walk f light p Ends = let e = light.end in omega arith
  weigh_walk f light p Retires = let e = light.retire in omega arith
  weigh_walk f light p (Chooses parts) = let e = light.choose parts in omega arith
  weigh_walk f light p (Strikes there found rest w) =
      let e = light.strike there found in let h = weigh_walk f light rest w in omega arith
  weigh_walk f light p (Lists part rest w) = let e = light.list part in let h = weigh_walk f light rest w in omega arith
  weigh_walk f light p (Finds key rest w) = let e = light.find key in let h = weigh_walk f light rest w in omega arith
  weigh_walk f light p (Scans there found rest w) =
      let e = light.scan there found in let h = weigh_walk f light rest w in omega arith

  -- how a walk goes on: with what it has left, where it was, or parked once it gave a record; or with
  -- the predicates that it carries from now on, and over where it carries none at all
  pub data Walks (c : Call K V E) : Next K V E → Type 0 where
    Walks_on : (rest : List (Item K V E)) → IsWalk rest → Walks c (goes c rest)
    Walks_still : Walks c (stays c)
    Walks_giving : (key : K) (value : V) (rest : List (Item K V E)) → IsWalk rest → Walks c (gives c key value rest)
    Walks_carrying : (ids : List (ℕ × ℕ)) (rest : List (Item K V E)) → IsWalk rest → Walks c (goes (carrying c ids) rest)
    Walks_free : Walks c (answers answer.Done)

  -- it weighs nothing then either
  pub walks_weigh : (f : Item K V E → ℕ) → IsLight f → ((a : Answer K V E) → f (plan.Reply a) ≡ 0) → (c : Call K V E) → weigh f c.plan ≡ 0 →
      (next : Next K V E) → Walks c next → weigh_call f next.left ≡ 0
  walks_weigh f light none c z next (Walks_on rest walk) = weigh_goes f c rest none ∙ weigh_walk f light rest walk
  walks_weigh f light none c z next Walks_still = z
  walks_weigh f light none c z next (Walks_giving key value rest walk) = weigh_walk f light rest walk
  walks_weigh f light none c z next (Walks_carrying ids rest walk) =
      weigh_goes f (carrying c ids) rest none ∙ weigh_walk f light rest walk
  walks_weigh f light none c z next Walks_free = refl

  -- a step of a walk changes the lists that were begun and nothing else of the table, and the desk
  -- only as it ends
  abbrev pub walked : World K V E → (ℕ → Option (Listed K)) → Stay → World K V E
  walked w listings stay = record w { table = record w.table { listings = listings }; stay = stay }

module _ {K V E : Type 0} (eq : K → K → Bool) (M : World K V E → Next K V E → Type 0) (w : World K V E) (n : ℕ) (c : Call K V E) where
  -- what holds however a walk goes on, as it ends, and as it lets predicates go, holds of each step
  -- of it
  pub on_walk : (p : List (Item K V E)) → IsWalk p →
      ((listings : ℕ → Option (Listed K)) (stay : Stay) (next : Next K V E) → Walks c next → M (walked w listings stay) next) →
      M (on_desk eq w (gave_back w.desk n)) (answers answer.End) →
      ((ids : List (ℕ × ℕ)) → M (on_desk eq w (retired w.desk ids)) (answers answer.Done)) → OnStep eq M w n c p
  on_walk p Ends on ends retires = outcomes eq M w n c (plan.Reply answer.End) [] ends
  on_walk p Retires on ends retires = outcomes eq M w n c plan.Retire [] (retires (unwrap_or c.carried []))
  on_walk p (Chooses parts) on ends retires = outcomes eq M w n c (plan.Candidates parts) [] (
    (λ none. on _ _ _ Walks_free),
    λ id more some. on _ _ _ (Walks_carrying (id ∷ more) _ (retiring_walk parts)),
  )
  on_walk p (Strikes there stored rest t) on ends retires =
      outcomes eq M w n c (plan.Strike there stored) rest (on _ _ _ (Walks_carrying _ rest t))
  on_walk p (Lists part rest t) on ends retires = outcomes eq M w n c (plan.List_keys part) rest (
    (λ more. on _ _ _ Walks_still),
    λ listed keys e gives. on _ _ _ (Walks_on _ (finds_walk keys rest t)),
  )
  on_walk p (Finds key rest t) on ends retires = outcomes eq M w n c (plan.Find key) rest (
    (λ more. on _ _ _ Walks_still),
    (λ none. on _ _ _ (Walks_on rest t)),
    (λ k stored some none. on _ _ _ (Walks_on _ (Scans k stored rest t))),
    λ k stored ids some is. on _ _ _ (Walks_on _ (Strikes k stored rest t)),
  )
  on_walk p (Scans there found rest t) on ends retires = outcomes eq M w n c (plan.Scan there found) rest (
    (λ seen. on _ _ _ (Walks_giving there found.value rest t)),
    λ unseen. on _ _ _ (Walks_on rest t),
  )

  -- what holds however maintenance goes on until it chooses predicates holds of each step of it: none
  -- of these changes the table
  pub on_coming : (parts : ℕ) (p : List (Item K V E)) → IsComing parts p →
      ((d : DeskPart K V E) → Spares w.desk d → (next : Next K V E) → Comes parts c next → M (on_desk eq w d) next) → OnStep eq M w n c p
  on_coming parts p Gathers on = outcomes eq M w n c plan.Drain (plan.Turn ∷ plan.Apply ∷ plan.End ∷ plan.Candidates parts ∷ []) (
    (λ none. on w.desk (record { owners = refl; joined = refl; settled = refl; told = refl; registered = refl; clock = refl }) _ (Comes_on _ Turns)),
    (λ x xs e. on _ (record { owners = refl; joined = refl; settled = refl; told = refl; registered = refl; clock = refl }) _ (Comes_on _ (Posts x))),
    λ x number xs e. on _ (record { owners = refl; joined = refl; settled = refl; told = refl; registered = refl; clock = refl }) _ (Comes_on _ (Hears number x)),
  )
  on_coming parts p (Hears number x) on = outcomes eq M w n c (plan.Ended number) (plan.Post x ∷ pending_plan false parts)
      ((λ e. on w.desk (record { owners = refl; joined = refl; settled = refl; told = refl; registered = refl; clock = refl }) _ (Comes_on _ (Posts x))), λ e. on w.desk (record { owners = refl; joined = refl; settled = refl; told = refl; registered = refl; clock = refl }) _ Comes_not)
  on_coming parts p (Posts x) on = outcomes eq M w n c (plan.Post x) (pending_plan false parts)
      ((λ e. on _ (record { owners = refl; joined = refl; settled = refl; told = refl; registered = refl; clock = refl }) _ (Comes_on _ Gathers)), λ e. on _ (record { owners = refl; joined = refl; settled = refl; told = refl; registered = refl; clock = refl }) _ (Comes_on _ (Takes_turn x)))
  on_coming parts p (Takes_turn x) on = outcomes eq M w n c plan.Turn (plan.Apply ∷ plan.End ∷ plan.Post x ∷ pending_plan false parts)
      ((λ e. on _ (record { owners = refl; joined = refl; settled = refl; told = refl; registered = refl; clock = refl }) _ (Comes_on _ (Applies_first x))), λ e. on w.desk (record { owners = refl; joined = refl; settled = refl; told = refl; registered = refl; clock = refl }) _ Comes_not)
  on_coming parts p (Applies_first x) on = outcomes eq M w n c plan.Apply (plan.End ∷ plan.Post x ∷ pending_plan false parts)
      ((λ e. on w.desk (record { owners = refl; joined = refl; settled = refl; told = refl; registered = refl; clock = refl }) _ (Comes_on _ (Ends_first x))), λ y ys e. on _ (record { owners = refl; joined = refl; settled = refl; told = refl; registered = refl; clock = refl }) _ (Comes_on _ (Applies_first x)))
  on_coming parts p (Ends_first x) on = outcomes eq M w n c plan.End (plan.Post x ∷ pending_plan false parts) (on _ (record { owners = refl; joined = refl; settled = refl; told = refl; registered = refl; clock = refl }) _ (Comes_on _ (Posts x)))
  on_coming parts p Turns on = outcomes eq M w n c plan.Turn (plan.Apply ∷ plan.End ∷ plan.Candidates parts ∷ [])
      ((λ e. on _ (record { owners = refl; joined = refl; settled = refl; told = refl; registered = refl; clock = refl }) _ (Comes_on _ Applies)), λ e. on w.desk (record { owners = refl; joined = refl; settled = refl; told = refl; registered = refl; clock = refl }) _ Comes_not)
  on_coming parts p Applies on = outcomes eq M w n c plan.Apply (plan.End ∷ plan.Candidates parts ∷ [])
      ((λ e. on w.desk (record { owners = refl; joined = refl; settled = refl; told = refl; registered = refl; clock = refl }) _ (Comes_on _ Ends_turn)), λ y ys e. on _ (record { owners = refl; joined = refl; settled = refl; told = refl; registered = refl; clock = refl }) _ (Comes_on _ Applies))
  on_coming parts p Ends_turn on = outcomes eq M w n c plan.End (plan.Candidates parts ∷ []) (on _ (record { owners = refl; joined = refl; settled = refl; told = refl; registered = refl; clock = refl }) _ Comes_to)

module _ {K V E : Type 0} (eq : K → K → Bool) (w : World K V E) (n : ℕ) (c : Call K V E) where
  -- a walk that gives records goes on so
  pub on_shows : Shows c → OnStep eq (λ (new : World K V E) (next : Next K V E). ShowsIf next.left) w n c c.plan
  on_shows shows = by c.plan refl shows.walk
    where
      by : (p : List (Item K V E)) → c.plan ≡ p → IsShowing p → OnStep eq (λ (new : World K V E) (next : Next K V E). ShowsIf next.left) w n c p
      by p e Shows_end = outcomes eq (λ (new : World K V E) (next : Next K V E). ShowsIf next.left) w n c (plan.Reply answer.End) [] tt
      by p e (Shows_list part rest walk) = outcomes eq (λ (new : World K V E) (next : Next K V E). ShowsIf next.left) w n c (plan.List_keys part) rest (
        λ more. record { walk = shows.walk; free = shows.free },
        λ listed keys is gives. goes_show c (map plan.Find keys ++ rest) shows.free (finds_show keys rest walk),
      )
      by p e (Shows_find key rest walk) = outcomes eq (λ (new : World K V E) (next : Next K V E). ShowsIf next.left) w n c (plan.Find key) rest (
        λ more. record { walk = shows.walk; free = shows.free },
        λ none. goes_show c rest shows.free walk,
        λ there stored some none. record { walk = Shows_scan there stored rest walk; free = shows.free },
        λ there stored ids some is. absurd (none_some (sym shows.free ∙ is)),
      )
      by p e (Shows_scan there stored rest walk) = outcomes eq (λ (new : World K V E) (next : Next K V E). ShowsIf next.left) w n c (plan.Scan there stored) rest (
        λ seen. record { walk = walk; free = shows.free },
        λ unseen. goes_show c rest shows.free walk,
      )
