-- Calls that are made one after the other, on a cache that stands for what is so.
use Rattle.std.proofs.Common.{◌≡◌, ℕ, ◌+◌, ◌-◌, ◌<◌, List, [], ◌∷◌, ◌++◌, length, length-append, get_or, take, drop, append_assoc, append-nil, IsSome, IsErrOf, refl, sym, ap, ◌∙◌, subst, inl, inr, arith}
use Rattle.std.proofs.lemmas.List.{take_more}
use Rattle.std.specs.Prelude.{flat_map}
use Rattle.std.specs.declared.result.Result.TheVariants.{Ok, Err}
use Rattle.moka_keepers.specs.declared.write.Write.{Write}
use Rattle.moka_keepers.specs.Keeping.{Kept}
use Rattle.moka_keepers.specs.Owing.{Owes, Truth, taken_off, truth_of}
use Rattle.moka_keepers.specs.Writes.{last_of}
use Rattle.moka_behind.specs.declared.behind.Behind.{Behind}
use Rattle.moka_behind.specs.Behind.{IsBehind, IsOwn}
use Rattle.moka_behind_run.specs.Playing.{Behaves, IsHeld, Replies, Runs, Seen, Serves, SoFar, Standing, first, unsent}
use Rattle.moka_behind_run.specs.Replies.{reply_line, unsent_line}
use Rattle.moka_behind_run.specs.declared.calls.Call.{Call}
use Rattle.moka_behind_run.specs.declared.replies.Reply.{Reply}

pub drop_front : {X : Type 0} (xs ys : List X) → drop (length xs) (xs ++ ys) ≡ ys
drop_front [] ys = refl
drop_front (x ∷ xs) ys = drop_front xs ys

-- what is unsent follows what was sent
pub unsent_is : (s : Standing) (rest : List Write) → s.truth.writes ≡ s.sent ++ rest → unsent s ≡ rest
unsent_is s rest e = ap (drop (length s.sent)) e ∙ drop_front s.sent rest

pub same_seen : (a b : Kept) (m n : ℕ) → a ≡ b → m ≡ n → ◌≡◌ {A = Seen} (record { told = a; faults = m }) (record { told = b; faults = n })
same_seen a b m n e f = cc

-- what is held is the cache's own
pub own : (b : Behind) (s : Standing) (key : ℕ) → s.truth.writes ≡ s.sent ++ b.unsent → IsHeld s key → IsOwn b s.stored key
own b s key e (inl stored) = inl stored
own b s key e (inr some) = inr (subst (λ ws. IsSome (last_of key ws)) (unsent_is s b.unsent e) some)

-- a run goes on by one call
pub run_more : (old : Seen) (s : Standing) (calls : List Call) (replies : List Reply) (mid : Seen) (u : Standing) (c : Call) (r : Reply) (new : Seen) (t : Standing)
    → Runs old s calls replies mid u → Replies mid u c r new t → Runs old s (calls ++ c ∷ []) (replies ++ r ∷ []) new t
run_more old s [] [] mid u c r new t run step =
    (new, t, subst (λ k. Replies k s c r new t) run.0 (subst (λ v. Replies mid v c r new t) run.1 step), (refl, refl))
run_more old s [] (x ∷ replies) mid u c r new t run step = absurd run
run_more old s (x ∷ calls) [] mid u c r new t run step = absurd run
run_more old s (x ∷ calls) (y ∷ replies) mid u c r new t run step =
    (run.0, run.1, run.2, run_more run.0 run.1 calls replies mid u c r new t run.3 step)

lines_more : (replies : List Reply) (r : Reply) → flat_map reply_line (replies ++ r ∷ []) ≡ flat_map reply_line replies ++ reply_line r
lines_more [] r = append-nil (reply_line r)
lines_more (x ∷ replies) r = ap (λ t. reply_line x ++ t) (lines_more replies r) ∙ sym (append_assoc (reply_line x) (flat_map reply_line replies) (reply_line r))

-- one more call was replied to
pub so_far_more : (old mid new : Seen) (calls : List Call) (lines : List ℕ) (before after : Behind) (c : Call) (r : Reply)
    → SoFar old calls lines mid before → Serves mid before c r new after → SoFar old (calls ++ c ∷ []) (lines ++ reply_line r) new after
so_far_more old mid new calls lines before after c r so serves =
    let next = serves so.last so.stands in
    record {
      replies = so.replies ++ r ∷ [];
      last = next.after;
      run = run_more old (first old.told) calls so.replies mid so.last c r new next.after so.run next.replies;
      is = ap (λ t. t ++ reply_line r) so.is ∙ sym (lines_more so.replies r);
      stands = next.stands;
    }

-- all was sent
pub sent_all : (b : Behind) (kept : Kept) (truth : Truth) (stored : List ℕ) (sent : List Write) → sent ≡ truth.writes → IsBehind b kept truth stored sent → IsBehind b kept truth stored truth.writes
sent_all b kept truth stored sent e stands = subst (IsBehind b kept truth stored) e stands

owes_nothing : (us : List Write) (kept : Kept) (truth : Truth) (sent : List Write) → us ≡ [] → Owes us kept truth sent → Owes [] kept truth sent
owes_nothing us kept truth sent e owes = subst (λ ws. Owes ws kept truth sent) e owes

pub owes_none : (b : Behind) (kept : Kept) (truth : Truth) (stored : List ℕ) → b.unsent ≡ [] → IsBehind b kept truth stored truth.writes → Owes [] kept truth truth.writes
owes_none b kept truth stored e stands = owes_nothing b.unsent kept truth truth.writes e stands.owes

-- fewer were taken off than there were, where some are left
pub fewer_off : (old new : List Write) → old ≡ taken_off old new ++ new → 0 < length new → length old - length new < length old
fewer_off old new front some =
    let all = ap length front in
    let both = length-append (taken_off old new) new in
    omega (arith, all, both, some)

-- at first
pub so_far_none : (old : Seen) (lines : List ℕ) (behind : Behind) → lines ≡ []
    → IsBehind behind old.told (truth_of old.told) [] [] → SoFar old [] lines old behind
so_far_none old lines behind is stands = record {
  replies = [];
  last = first old.told;
  run = (refl, refl);
  is = is;
  stands = stands;
}

-- the calls up to one more
pub so_far_next : (old mid new : Seen) (calls : List Call) (i : ℕ) (d : Call) (lines text : List ℕ) (before after : Behind) (r : Reply)
    → i < length calls → SoFar old (take i calls) lines mid before → Serves mid before (get_or calls i d) r new after
    → text ≡ lines ++ reply_line r → SoFar old (take (i + 1) calls) text new after
so_far_next old mid new calls i d lines text before after r within so serves is =
    subst (λ (t : List ℕ). SoFar old (take (i + 1) calls) t new after) (sym is)
    (subst (λ (cs : List Call). SoFar old cs (lines ++ reply_line r) new after) (sym (take_more calls i d within))
    (so_far_more old mid new (take i calls) lines before after (get_or calls i d) r so serves))

-- the text of all replies, and of what is unsent then
pub behaves_so : (old new : Seen) (calls : List Call) (lines text : List ℕ) (behind : Behind) (count : ℕ)
    → SoFar old calls lines new behind → count ≡ length behind.unsent → text ≡ lines ++ unsent_line count
    → Behaves old calls text new
behaves_so old new calls lines text behind count so counted is = record {
  replies = so.replies;
  last = so.last;
  run = so.run;
  is = is ∙ ap (λ (t : List ℕ). t ++ unsent_line count) so.is
      ∙ ap (λ (n : ℕ). flat_map reply_line so.replies ++ unsent_line n)
      (counted ∙ ap length (sym (unsent_is so.last behind.unsent so.stands.owes.writes)));
}

-- ---- answers and errors

pub ok_no_err : {T E : Type 0} (x : T) (e : E) → IsErrOf {T = T} {E = E} (Ok x) e → ⊥
ok_no_err x e is = absurd (cc)

pub err_is : (T : Type 0) {E : Type 0} (x y : E) → x ≡ y → IsErrOf {T = T} {E = E} (Err x) y
err_is T {E} x y is = ap (λ (z : E). Err z) is
