-- What an event brings about is due.
use Rattle.std.proofs.Common.{ℕ, List, [], ◌∷◌, map, flat_map, Option, Some, None, IfSome, nat_eq, sym, subst}
use Rattle.std.specs.List.{AllByRecursion, IsDistinct}
use Rattle.moka_collapsing.specs.declared.out.Out.{Out}
use Rattle.moka_collapsing.specs.declared.out.Out.TheVariants.{Fetch, Cancel, To}
use Rattle.moka_collapsing.specs.Clients.{Client, due_bytes}
use Rattle.moka_collapsing.specs.Laws.{IsLeftCancel, IsOpened, IsTo}
use Rattle.moka_collapsing.specs.Reference.{Reference, all_come, closed, closes_at, fed, feeds_at, replies, to_client}
use Rattle.moka_collapsing.specs.Runs.{Event, Open, Feed, Reply, Close, brought_by, fetch_in, outs_of}
use Rattle.moka_collapsing.specs.Served.{IsDue, IsDueAll}
use Rattle.moka_collapsing.specs.Upstream.{Upstream}
use Rattle.moka_collapsing.proofs.Lawful.{all_append, closes_lawful, feeds_lawful, none_left, replies_lawful}
use Rattle.moka_collapsing.proofs.Sending.{fetches_at}

-- what is due of outs that a state is left with
record DueOuts (g after : Reference) (outs : List Out) : Type 0 where
  pub due : AllByRecursion (IsDue g after) outs
  pub once : IsDistinct nat_eq (flat_map fetch_in outs)

nothing_due : (g after : Reference) → DueOuts g after []
unfolding IsDistinct
nothing_due g after = record { due = tt; once = tt }

-- ---- a feed

opened_due : (g after : Reference) (u : Upstream) (keys : List ℕ) → AllByRecursion (IsOpened g.upstream u) keys → AllByRecursion (IsDue g after) (map Fetch keys)
opened_due g after u [] h = tt
opened_due g after u (k ∷ keys) h = ((h.0.unknown, h.0.none), opened_due g after u keys h.1)

to_due : (g after : Reference) (number : ℕ) (bytes : List ℕ) → AllByRecursion (IsDue g after) (to_client number bytes)
to_due g after number [] = tt
to_due g after number (b ∷ bytes) = (tt, tt)

feed_due : (g : Reference) (number : ℕ) (bytes : List ℕ) (x : Option Client) → DueOuts g (feeds_at g number x bytes).1 (outs_of (feeds_at g number x bytes).0)
feed_due g number bytes None = nothing_due g g
feed_due g number bytes (Some client) =
    let come = all_come g number client bytes in
    let lawful = feeds_lawful g number client bytes in
    record {
      due = all_append (IsDue g (fed g number come).1) (map Fetch come.fetches) (to_client number (due_bytes come.client))
          (opened_due g (fed g number come).1 come.upstream come.fetches lawful.opened)
          (to_due g (fed g number come).1 number (due_bytes come.client));
      once = subst (IsDistinct nat_eq) (sym (fetches_at number come)) lawful.once;
    }

-- ---- a reply

sent_due : (g after : Reference) (outs : List Out) → AllByRecursion IsTo outs → DueOuts g after outs
sent_due g after [] h = nothing_due g after
sent_due g after (Fetch key ∷ outs) h = absurd h.0
sent_due g after (Cancel key ∷ outs) h = absurd h.0
sent_due g after (To client bytes ∷ outs) h = let rest = sent_due g after outs h.1 in record { due = (tt, rest.due); once = rest.once }

reply_due : (g after : Reference) (it : Option (List Out)) → IfSome it (λ outs. AllByRecursion IsTo outs) → DueOuts g after (outs_of it)
reply_due g after None h = nothing_due g after
reply_due g after (Some outs) h = sent_due g after outs h

-- ---- a close

cancels_due : (g after : Reference) (outs : List Out) → AllByRecursion (IsLeftCancel after.upstream) outs → DueOuts g after outs
cancels_due g after [] h = nothing_due g after
cancels_due g after (Fetch key ∷ outs) h = absurd h.0
cancels_due g after (Cancel key ∷ outs) h = let rest = cancels_due g after outs h.1 in record { due = (none_left (after.upstream.waiting key) h.0, rest.due); once = rest.once }
cancels_due g after (To client bytes ∷ outs) h = absurd h.0

close_due : (g : Reference) (number : ℕ) (x : Option Client) → DueOuts g (closes_at g number x).1 (outs_of (closes_at g number x).0)
close_due g number None = nothing_due g g
close_due g number (Some client) = cancels_due g (closed g number client).1 (outs_of (closed g number client).0) (closes_lawful g number client).cancels

-- ---- any event

due_of : (g : Reference) (event : Event) → DueOuts g (brought_by g event).1 (brought_by g event).0
due_of g Open = nothing_due g (brought_by g Open).1
due_of g (Feed number bytes) = feed_due g number bytes (g.clients number)
due_of g (Reply key brought) = reply_due g (replies g key brought).1 (replies g key brought).0 (replies_lawful g key brought).sends
due_of g (Close number) = close_due g number (g.clients number)

pub all_due : (g : Reference) (event : Event) → IsDueAll g event
all_due g event = let it = due_of g event in record { due = it.due; once = it.once }
