-- What a user wants to know of the reference gateway.
use Rattle.std.specs.Prelude.{◌≡◌, ◌⊎◌, ℕ, List, [], ◌++◌, map, Some, None, IfSome, false, true, nat_eq}
use Rattle.std.specs.List.{AllByRecursion, IsDistinct}
use Rattle.std.specs.declared.result.Result.{Result}
use Rattle.std.specs.declared.result.Result.TheVariants.{Ok}
use Rattle.moka_collapsing.specs.declared.out.Out.{Out}
use Rattle.moka_collapsing.specs.declared.out.Out.TheVariants.{Fetch, Cancel, To}
use Rattle.moka_collapsing.specs.declared.slot.Place.{Place}
use Rattle.moka_collapsing.specs.declared.slot.Slot.TheVariants.{Answered}
use Rattle.moka_collapsing.specs.Clients.{Client, due_answers, due_bytes, flushed, front_answer, made}
use Rattle.moka_collapsing.specs.Reference.{Come, Reference, all_come, closed, fed, replies}
use Rattle.moka_collapsing.specs.Upstream.{Upstream, asked, is_left}

-- A client is sent the replies to the requests at its front, in order: they leave, and the first that
-- stays has no answer yet. No request is forgotten.
pub record IsSentInOrder (client : Client) : Type 0 where
  pub front : client.requests
      ≡ map Answered (due_answers client.requests) ++ (flushed client).requests
  pub stops : front_answer (flushed client).requests ≡ None
  pub counted : made (flushed client) ≡ made client

-- A request opens an upstream request only for its own key, where that is not stored and no upstream
-- request of it is open.
abbrev pub OpensOne : Upstream → ℕ → Place → Type 0
OpensOne u key place =
    IfSome (asked u key place).0.fetch
    (λ k. (k ≡ key) × (u.stored key ≡ None) × (u.waiting key ≡ []))

-- the state after the client of this number was fed, and where its requests stood
abbrev pub after_feed : Reference → ℕ → Client → List ℕ → Reference
after_feed g number client bytes = (fed g number (all_come g number client bytes)).1

-- what the second of two pieces brings about, once the first was fed
abbrev pub second : Reference → ℕ → Client → List ℕ → List ℕ → Come
second g number client front back =
    all_come (after_feed g number client front) number
    (flushed (all_come g number client front).client) back

-- A client that is fed two pieces, one after the other, brings about what it does with one: the same
-- fetches in order, the same bytes to it, and the same state.
pub record IsSameInPieces (g : Reference) (number : ℕ) (client : Client) (front back : List ℕ)
    : Type 0 where
  pub fetches : (all_come g number client (front ++ back)).fetches
      ≡ (all_come g number client front).fetches ++ (second g number client front back).fetches
  pub bytes : due_bytes (all_come g number client (front ++ back)).client
      ≡ due_bytes (all_come g number client front).client
      ++ due_bytes (second g number client front back).client
  pub left : flushed (all_come g number client (front ++ back)).client
      ≡ flushed (second g number client front back).client
  pub upstream : (all_come g number client (front ++ back)).upstream
      ≡ (second g number client front back).upstream

-- ---- what a user may rely on at each call

-- An upstream request of this key is opened: its value wasn't stored and no upstream request of it
-- was open, and then one is.
pub record IsOpened (before after : Upstream) (key : ℕ) : Type 0 where
  pub unknown : before.stored key ≡ None
  pub none : before.waiting key ≡ []
  pub awaited : is_left after key ≡ false

-- A client is fed. It is sent the replies to its first requests, in order; two pieces make no
-- difference; upstream requests are opened only so, for no key twice; what is stored stays.
pub record FeedIsLawful (g : Reference) (number : ℕ) (client : Client) (bytes : List ℕ) : Type 0
  where
    pub in_order : IsSentInOrder (all_come g number client bytes).client
    pub in_pieces : (front back : List ℕ) → bytes ≡ front ++ back →
        IsSameInPieces g number client front back
    pub opened : AllByRecursion
        (IsOpened g.upstream (all_come g number client bytes).upstream)
        (all_come g number client bytes).fetches
    pub once : IsDistinct nat_eq (all_come g number client bytes).fetches
    pub stored : (key : ℕ) →
        (all_come g number client bytes).upstream.stored key ≡ g.upstream.stored key

-- a client is sent bytes
abbrev pub IsTo : Out → Type 0
IsTo (To client bytes) = Unit {0}
IsTo (Fetch key) = ⊥
IsTo (Cancel key) = ⊥

-- An upstream request brings something. What is stored then was stored before, or it was brought for
-- its key; nobody waits for the key any more; bytes are sent, and nothing else is to be done.
pub record ReplyIsLawful (g : Reference) (key : ℕ) (brought : Result ℕ ℕ) : Type 0 where
  pub stored : (k v : ℕ) → (replies g key brought).1.upstream.stored k ≡ Some v →
      (g.upstream.stored k ≡ Some v) ⊎ ((k ≡ key) × (brought ≡ Ok v))
  pub ended : (replies g key brought).1.upstream.waiting key ≡ []
  pub sends : IfSome (replies g key brought).0 (λ outs. AllByRecursion IsTo outs)

-- the upstream request of a key is given up for which nobody waits
abbrev pub IsLeftCancel : Upstream → Out → Type 0
IsLeftCancel after (Cancel key) = is_left after key ≡ true
IsLeftCancel after (Fetch key) = ⊥
IsLeftCancel after (To client bytes) = ⊥

-- A client closes. Only upstream requests for which nobody waits are given up, and nothing else is
-- to be done; what is stored stays.
pub record CloseIsLawful (g : Reference) (number : ℕ) (client : Client) : Type 0 where
  pub cancels : IfSome (closed g number client).0
      (λ outs. AllByRecursion (IsLeftCancel (closed g number client).1.upstream) outs)
  pub stored : (key : ℕ) →
      (closed g number client).1.upstream.stored key ≡ g.upstream.stored key
