-- A record that leaves is named by the write that its call holds, and told of by its notice.
use Rattle.std.proofs.Common.{◌≡◌, ◌≢◌, ℕ, Bool, true, false, List, [], ◌∷◌, Option, Some, None, refl, sym, ap, ◌∙◌, subst}
use Rattle.std.proofs.lemmas.Bool.{false≢true}
use Rattle.std.specs.Prelude.{IsSomeAnd}
use Rattle.std.specs.Option.{option_map}
use Rattle.moka_hist.specs.Finite.{put_at}
use Rattle.moka_hist.specs.State.{State, World, Call}
use Rattle.moka_hist.specs.Plan.{Item, Removal, held_by}
use Rattle.moka_hist.specs.Plan as plan
use Rattle.moka_hist.specs.Bound.{decided_by}
use Rattle.moka_hist.specs.Next.{Next, goes}
use Rattle.moka_hist.specs.Run.{IsReached}
use Rattle.moka_hist.specs.Tables.{answer_of, taken_by, written}
use Rattle.moka_hist.specs.Writing.{cause_handed, old_stamp, once_told, stamp_asked}
use Rattle.moka_hist.specs.declared.accesses.Turn.TheVariants as turn
use Rattle.moka_hist.specs.declared.records.Stored.{Stored}
use Rattle.moka_hist.specs.declared.replies.Ask.{Ask}
use Rattle.moka_hist.specs.declared.writes.Write.TheVariants.{Remove, Upsert}
use Rattle.moka_laws.specs.Leaving.{AsksListener, NoticesAsk, RemovalsNameOld, ReplacedAreTold, TakenAreTold, TellsNext, UpsertsNameOld, stamp_under}
use Rattle.moka_laws.proofs.Counting.{none_some, put_here, some_same}
use Rattle.moka_laws.proofs.FirstItem.{call_cases}
use Rattle.moka_laws.proofs.Locking.{in_locking}
use Rattle.moka_laws.proofs.Outcomes.{Undecided, outcomes}
use Rattle.moka_laws.proofs.Removing.{taken_was}
use Rattle.moka_laws.proofs.StepCases.{OnStep}

module _ {K V E : Type 0} (eq : K → K → Bool) where
  -- what a write may make: M holds where its operation stays undecided, and where it decides
  write_cases : (M : World K V E → Next K V E → Type 0) (w : World K V E) (n : ℕ)
      (c : Call K V E) (key : K) (value : V) (moment : ℕ) (rest : List (Item K V E)) →
      Undecided eq M w n c →
      M (record w {
        table = written eq n w.table key (record { value = value; stamp = n; modified = moment });
        stay = decided_by n;
      })
      (goes c (once_told c.rules.listener key (answer_of (w.table.stored key))
      (plan.Post (Upsert n (old_stamp (answer_of (w.table.stored key)))) ∷ rest))) →
      OnStep eq M w n c (plan.Write key value moment ∷ rest)
  write_cases M w n c key value moment rest more m = (more, λ answer t h. rw (h.1, h.0) m)

module _ {K V E : Type 0} (s : State K V E) (n : ℕ) (c : Call K V E) (key : K) where
  -- ---- a write

  -- what a write that changes the map leaves
  record Wrote (next : Next K V E) : Type 0 where
    named : IsSomeAnd next.left
        (λ d. held_by d.plan ≡ Some (Upsert n (stamp_under s.world.table key)))
    told : (pair : K × Stored V) → c.rules.listener ≡ true →
        s.world.table.stored key ≡ Some pair →
        IsSomeAnd next.left (λ d. TellsNext d.plan key pair.1 None true)

  abbrev Writes : World K V E → Next K V E → Type 0
  Writes w next = w.table ≢ s.world.table → Wrote next

  -- a call goes on so from its write on, by whether there is a listener and by what stood there
  abbrev left_by : Bool → Option (K × Stored V) → List (Item K V E) → Option (Call K V E)
  left_by b o rest = (goes c (once_told b key (answer_of o)
      (plan.Post (Upsert n (old_stamp (answer_of o))) ∷ rest))).left

  names : (b : Bool) (o : Option (K × Stored V)) (rest : List (Item K V E)) →
      IsSomeAnd (left_by b o rest)
      (λ d. held_by d.plan ≡ Some (Upsert n (option_map (λ pair. pair.1.stamp) o)))
  names false None rest = refl
  names false (Some pair) rest = refl
  names true None rest = refl
  names true (Some pair) rest = refl

  tells : (b : Bool) (o : Option (K × Stored V)) (rest : List (Item K V E))
      (pair : K × Stored V) → b ≡ true → o ≡ Some pair →
      IsSomeAnd (left_by b o rest) (λ d. TellsNext d.plan key pair.1 None true)
  tells true (Some there) rest pair on e =
      ap (λ v. plan.Notice key v.1 None true) (some_same e)
  tells true None rest pair on e = absurd (none_some e)
  tells false o rest pair on e = absurd (false≢true on)

  module _ (eq : K → K → Bool) where
    on_write : (value : V) (moment : ℕ) (rest : List (Item K V E)) →
        OnStep eq Writes s.world n c (plan.Write key value moment ∷ rest)
    on_write value moment rest = write_cases eq Writes s.world n c key value moment rest
        (λ more changed. absurd (changed refl))
        (λ changed. record {
          named = names c.rules.listener (s.world.table.stored key) rest;
          told = λ pair on some.
              tells c.rules.listener (s.world.table.stored key) rest pair on some;
        })

    -- ---- a removal

    module _ (removal : Removal K) where
      -- what a removal that changes the map leaves
      record Took (next : Next K V E) : Type 0 where
        pair : K × Stored V
        stood : s.world.table.stored key ≡ Some pair
        named : IsSomeAnd next.left (λ d. held_by d.plan ≡ Some (Remove n pair.1.stamp))
        told : c.rules.listener ≡ true →
            IsSomeAnd next.left (λ d. TellsNext d.plan key pair.1 (cause_handed removal) false)

      abbrev Takes : World K V E → Next K V E → Type 0
      Takes w next = w.table ≢ s.world.table → Took next

      there_was : (pair : K × Stored V) →
          taken_by (stamp_asked removal) (s.world.table.stored key) ≡ Some pair →
          s.world.table.stored key ≡ Some pair
      there_was pair some =
          (taken_was (stamp_asked removal) (s.world.table.stored key) pair some).0

      on_out : (rest : List (Item K V E)) →
          OnStep eq Takes s.world n c (plan.Out removal key ∷ rest)
      on_out rest = outcomes eq Takes s.world n c (plan.Out removal key) rest (
        λ more changed. absurd (changed refl),
        λ off none changed. absurd (changed refl),
        λ on none changed. absurd (changed refl),
        λ k old off some changed. record {
          pair = (k, old);
          stood = there_was (k, old) some;
          named = refl;
          told = λ on. absurd (false≢true (sym off ∙ on));
        },
        λ k old on some changed. record {
          pair = (k, old);
          stood = there_was (k, old) some;
          named = refl;
          told = λ is. refl;
        },
      )

module _ {K V E : Type 0} where
  -- a call that goes on asks nobody by that
  goes_asks : (c : Call K V E) (rest : List (Item K V E)) (a : Ask K V) →
      (goes c rest).turn ≢ turn.Ask a
  goes_asks c [] a e = cc
  goes_asks c (plan.Reply said ∷ []) a e = cc
  goes_asks c _ a e = cc

  -- what is so of the call that is left is so of the call that lives then
  lives : (calls : ℕ → Option (Call K V E)) (n : ℕ) (left : Option (Call K V E))
      (P : Call K V E → Type 0) → IsSomeAnd left P → IsSomeAnd (put_at calls n left n) P
  lives calls n left P h = subst (λ o. IsSomeAnd o P) (sym (put_here calls n left)) h

module _ {K V E : Type 0} (eq : K → K → Bool) where
  on_reached : (s : State K V E) (n : ℕ) (c : Call K V E) → IsReached eq s →
      s.calls n ≡ Some c → s.world.desk.rules.listener ≡ true → c.rules.listener ≡ true
  on_reached s n c h live on = ap (λ r. r.listener) ((in_locking eq s h).rules n c live) ∙ on

  pub upserts_name_old : UpsertsNameOld K V E eq
  upserts_name_old s t n c key value moment rest reply live e step =
      call_cases eq (Writes s n c key)
      (λ v _. v.world.table ≢ s.world.table → IsSomeAnd (v.calls n)
      (λ d. held_by d.plan ≡ Some (Upsert n (stamp_under s.world.table key))))
      s t n c (plan.Write key value moment ∷ rest) reply live e step
      (on_write s n c key eq value moment rest)
      (λ w next o changed. lives s.calls n next.left _ (o changed).named)

  pub removals_name_old : RemovalsNameOld K V E eq
  removals_name_old s t n c removal key rest reply live e step =
      call_cases eq (Takes s n c key eq removal)
      (λ v _. v.world.table ≢ s.world.table → IsSomeAnd (stamp_under s.world.table key)
      (λ stamp. IsSomeAnd (v.calls n) (λ d. held_by d.plan ≡ Some (Remove n stamp))))
      s t n c (plan.Out removal key ∷ rest) reply live e step
      (on_out s n c key eq removal rest)
      (λ w next o changed. stands w next (o changed))
    where
      stands : (w : World K V E) (next : Next K V E) → Took s n c key eq removal next →
          IsSomeAnd (stamp_under s.world.table key)
          (λ stamp. IsSomeAnd (put_at s.calls n next.left n)
          (λ d. held_by d.plan ≡ Some (Remove n stamp)))
      stands w next o = subst (λ v. IsSomeAnd (option_map (λ pair. pair.1.stamp) v)
          (λ stamp. IsSomeAnd (put_at s.calls n next.left n)
          (λ d. held_by d.plan ≡ Some (Remove n stamp)))) (sym o.stood)
          (lives s.calls n next.left _ o.named)

  pub replaced_are_told : ReplacedAreTold K V E eq
  replaced_are_told s t n c key there old value moment rest reply h on live e stood step =
      call_cases eq (Writes s n c key)
      (λ v _. v.world.table ≢ s.world.table → IsSomeAnd (v.calls n)
      (λ d. TellsNext d.plan key old None true))
      s t n c (plan.Write key value moment ∷ rest) reply live e step
      (on_write s n c key eq value moment rest)
      (λ w next o changed. lives s.calls n next.left _
      ((o changed).told (there, old) (on_reached s n c h live on) stood))

  pub taken_are_told : TakenAreTold K V E eq
  taken_are_told s t n c removal key there old rest reply h on live e stood step =
      call_cases eq (Takes s n c key eq removal)
      (λ v _. v.world.table ≢ s.world.table → IsSomeAnd (v.calls n)
      (λ d. TellsNext d.plan key old (cause_handed removal) false))
      s t n c (plan.Out removal key ∷ rest) reply live e step
      (on_out s n c key eq removal rest)
      (λ w next o changed. lives s.calls n next.left _ (of_it next (o changed)))
    where
      of_it : (next : Next K V E) → Took s n c key eq removal next →
          IsSomeAnd next.left (λ d. TellsNext d.plan key old (cause_handed removal) false)
      of_it next o = subst (λ (v : K × Stored V). IsSomeAnd next.left
          (λ d. TellsNext d.plan key v.1 (cause_handed removal) false))
          (some_same (sym o.stood ∙ stood)) (o.told (on_reached s n c h live on))

  pub notices_ask : NoticesAsk K V E eq
  notices_ask s t n c key old cause upsert rest reply live e step =
      call_cases eq (λ w next. AsksListener s key old cause upsert next.turn)
      (λ v r. AsksListener s key old cause upsert r)
      s t n c (plan.Notice key old cause upsert ∷ rest) reply live e step
      (outcomes eq (λ w next. AsksListener s key old cause upsert next.turn) s.world n c
      (plan.Notice key old cause upsert) rest (
        λ off. record {
          asks = λ on. absurd (false≢true (sym on ∙ off));
          off = λ a is. goes_asks c rest a;
        },
        λ on. record {
          asks = λ is. refl;
          off = λ a off. absurd (false≢true (sym on ∙ off));
        },
      ))
      (λ w next o. o)
