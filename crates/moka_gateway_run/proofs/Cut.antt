-- A client's bytes that are cut.
use Rattle.std.proofs.Common.{◌≡◌, ℕ, ◌==◌, cond, Bool, true, false, List, [], ◌∷◌, ◌++◌, map, flat_map, Option, Some, None, refl, sym, ap, ◌∙◌, subst, append_assoc}
use Rattle.std.proofs.Math.Path.{fun_ext}
use Rattle.moka_hist.specs.Finite.{put_at}
use Rattle.moka_laws.proofs.Counting.{put_here}
use Rattle.moka_collapsing.specs.declared.out.Out.{Out}
use Rattle.moka_collapsing.specs.declared.out.Out.TheVariants.{Fetch}
use Rattle.moka_collapsing.specs.Clients.{Client, due_bytes, flushed}
use Rattle.moka_collapsing.specs.Laws.{IsSameInPieces, after_feed, second}
use Rattle.moka_collapsing.specs.Reference.{Come, Reference, all_come, fed, feeds, feeds_at, to_client}
use Rattle.moka_collapsing.specs.Upstream.{Upstream}
use Rattle.moka_collapsing.proofs.Cutting.{same_in_pieces}
use Rattle.moka_collapsing.specs.Runs.{bytes_in, fetch_in, outs_of}
use Rattle.moka_collapsing.proofs.Sending.{bytes_at, fetches_at, outs_append, outs_at}
use Rattle.moka_gateway_run.specs.Cutting.{IsAlike, brought, brought_all, cancel_in, CutsMakeNoDifference}
use Rattle.moka_gateway_run.specs.declared.lines.Line.{Line}
use Rattle.moka_gateway_run.specs.declared.lines.Line.TheVariants as line

-- ---- what one feed brings about

none_cancelled : (keys : List ℕ) → flat_map cancel_in (map Fetch keys) ≡ []
none_cancelled [] = refl
none_cancelled (k ∷ keys) = none_cancelled keys

to_cancels : (number : ℕ) (bytes : List ℕ) → flat_map cancel_in (to_client number bytes) ≡ []
to_cancels number [] = refl
to_cancels number (b ∷ bytes) = refl

cancels_at : (number : ℕ) (come : Come) → flat_map cancel_in (outs_at number come) ≡ []
cancels_at number come =
    outs_append cancel_in (map Fetch come.fetches) (to_client number (due_bytes come.client))
    ∙ ap (λ l. l ++ flat_map cancel_in (to_client number (due_bytes come.client))) (none_cancelled come.fetches)
    ∙ to_cancels number (due_bytes come.client)

cond_append : (b : Bool) (xs ys : List ℕ) → cond b (xs ++ ys) [] ≡ cond b xs [] ++ cond b ys []
cond_append true xs ys = refl
cond_append false xs ys = refl

-- ---- one feed and two

abbrev Came : Type 0
Came = Option (List Out) × Reference

abbrev after_one : List Line → Came → List Out × Reference
after_one after p = (outs_of p.0 ++ (brought_all p.1 after).0, (brought_all p.1 after).1)

abbrev after_two : List Line → Came → Came → List Out × Reference
after_two after p q = (outs_of p.0 ++ (outs_of q.0 ++ (brought_all q.1 after).0), (brought_all q.1 after).1)

module _ (g : Reference) (number : ℕ) (client : Client) (front back : List ℕ) where
  abbrev whole : Come
  whole = all_come g number client (front ++ back)

  abbrev one : Come
  one = all_come g number client front

  abbrev two : Come
  two = second g number client front back

  abbrev mid : Reference
  mid = after_feed g number client front

  same : IsSameInPieces g number client front back
  same = same_in_pieces g number client front back

  cut_clients : (k : ℕ) → put_at g.clients number (Some (flushed whole.client)) k ≡ put_at mid.clients number (Some (flushed two.client)) k
  cut_clients k = by (number == k)
    where
      by : (b : Bool) → cond b (Some (flushed whole.client)) (g.clients k) ≡ cond b (Some (flushed two.client)) (cond b (Some (flushed one.client)) (g.clients k))
      by true = ap Some same.left
      by false = refl

  abbrev with_parts : Upstream → (ℕ → Option Client) → Reference
  with_parts u clients = record g { upstream = u; clients = clients }

  cut_state : (fed g number whole).1 ≡ (fed mid number two).1
  cut_state =
      ap (λ u. with_parts u (put_at g.clients number (Some (flushed whole.client)))) same.upstream
      ∙ ap (with_parts two.upstream) (fun_ext cut_clients)

  module _ (after : List Line) where
    abbrev rest : List Out × Reference
    rest = brought_all (fed mid number two).1 after

    parted : (f : Out → List ℕ) → flat_map f (outs_at number one ++ (outs_at number two ++ rest.0))
        ≡ flat_map f (outs_at number one) ++ (flat_map f (outs_at number two) ++ flat_map f rest.0)
    parted f = outs_append f (outs_at number one) (outs_at number two ++ rest.0) ∙ ap (λ l. flat_map f (outs_at number one) ++ l) (outs_append f (outs_at number two) rest.0)

    joined : (f : Out → List ℕ) → flat_map f (outs_at number whole) ≡ flat_map f (outs_at number one) ++ flat_map f (outs_at number two) →
        flat_map f (outs_at number whole ++ rest.0) ≡ flat_map f (outs_at number one ++ (outs_at number two ++ rest.0))
    joined f e = outs_append f (outs_at number whole) rest.0 ∙ ap (λ l. l ++ flat_map f rest.0) e
        ∙ append_assoc (flat_map f (outs_at number one)) (flat_map f (outs_at number two)) (flat_map f rest.0) ∙ sym (parted f)

    both : {X Y : List ℕ} (f : Out → List ℕ) → flat_map f (outs_at number one) ≡ X → flat_map f (outs_at number two) ≡ Y → X ++ Y ≡ flat_map f (outs_at number one) ++ flat_map f (outs_at number two)
    both {X} f e h = ap (λ l. X ++ l) (sym h) ∙ ap (λ l. l ++ flat_map f (outs_at number two)) (sym e)

    pub fed_alike : IsAlike (outs_at number whole ++ rest.0, rest.1) (outs_at number one ++ (outs_at number two ++ rest.0), rest.1)
    fed_alike = record {
      fetches = joined fetch_in (fetches_at number whole ∙ same.fetches ∙ both fetch_in (fetches_at number one) (fetches_at number two));
      cancels = joined cancel_in (cancels_at number whole ∙ both cancel_in (cancels_at number one) (cancels_at number two));
      bytes = λ c. joined (bytes_in c) (bytes_at c number whole ∙ ap (λ l. cond (number == c) l []) same.bytes
          ∙ cond_append (number == c) (due_bytes one.client) (due_bytes two.client)
          ∙ both (bytes_in c) (bytes_at c number one) (bytes_at c number two));
      gateway = refl;
    }

    abbrev with_rest : Reference → List Out × Reference
    with_rest r = (outs_at number whole ++ (brought_all r after).0, (brought_all r after).1)

    one_is : after_one after (fed g number whole) ≡ (outs_at number whole ++ rest.0, rest.1)
    one_is = ap with_rest cut_state

    pub open_alike : g.clients number ≡ Some client →
        IsAlike (after_one after (feeds g number (front ++ back))) (after_two after (feeds g number front) (feeds (feeds g number front).1 number back))
    open_alike at =
        let first : feeds g number (front ++ back) ≡ fed g number whole = ap (λ x. feeds_at g number x (front ++ back)) at in
        let begins : feeds g number front ≡ fed g number one = ap (λ x. feeds_at g number x front) at in
        let last : feeds mid number back ≡ fed mid number two = ap (λ x. feeds_at mid number x back) (put_here g.clients number (Some (flushed one.client))) in
        subst (λ a. IsAlike a (after_two after (feeds g number front) (feeds (feeds g number front).1 number back))) (sym (ap (after_one after) first ∙ one_is))
        (subst (λ b. IsAlike (outs_at number whole ++ rest.0, rest.1) b) (sym (ap (λ p. after_two after p (feeds p.1 number back)) begins ∙ ap (after_two after (fed g number one)) last)) fed_alike)

closed_alike : (g : Reference) (number : ℕ) (front back : List ℕ) (after : List Line) → g.clients number ≡ None →
    IsAlike (after_one after (feeds g number (front ++ back))) (after_two after (feeds g number front) (feeds (feeds g number front).1 number back))
closed_alike g number front back after at =
    let none : (bytes : List ℕ) → feeds g number bytes ≡ (None, g) = λ bytes. ap (λ x. feeds_at g number x bytes) at in
    subst (λ a. IsAlike a (after_two after (feeds g number front) (feeds (feeds g number front).1 number back))) (sym (ap (after_one after) (none (front ++ back))))
    (subst (λ b. IsAlike (after_one after (None, g)) b) (sym (ap (λ p. after_two after p (feeds p.1 number back)) (none front) ∙ ap (after_two after (None, g)) (none back)))
    (record { fetches = refl; cancels = refl; bytes = λ c. refl; gateway = refl }))

cut_first : (g : Reference) (number : ℕ) (front back : List ℕ) (after : List Line) →
    IsAlike (brought_all g (line.Feed number (front ++ back) ∷ after)) (brought_all g (line.Feed number front ∷ line.Feed number back ∷ after))
cut_first g number front back after = by (g.clients number) refl
  where
    by : (x : Option Client) → g.clients number ≡ x →
        IsAlike (after_one after (feeds g number (front ++ back))) (after_two after (feeds g number front) (feeds (feeds g number front).1 number back))
    by (Some client) at = open_alike g number client front back after at
    by None at = closed_alike g number front back after at

-- ---- among other lines

alike_after : (outs : List Out) (a b : List Out × Reference) → IsAlike a b → IsAlike (outs ++ a.0, a.1) (outs ++ b.0, b.1)
alike_after outs a b is = record {
  fetches = outs_append fetch_in outs a.0 ∙ ap (λ l. flat_map fetch_in outs ++ l) is.fetches ∙ sym (outs_append fetch_in outs b.0);
  cancels = outs_append cancel_in outs a.0 ∙ ap (λ l. flat_map cancel_in outs ++ l) is.cancels ∙ sym (outs_append cancel_in outs b.0);
  bytes = λ c. outs_append (bytes_in c) outs a.0 ∙ ap (λ l. flat_map (bytes_in c) outs ++ l) (is.bytes c) ∙ sym (outs_append (bytes_in c) outs b.0);
  gateway = is.gateway;
}

pub cut : CutsMakeNoDifference
cut g [] after client front back = cut_first g client front back after
cut g (l ∷ before) after client front back =
    alike_after (brought g l).0 (brought_all (brought g l).1 (before ++ line.Feed client (front ++ back) ∷ after))
    (brought_all (brought g l).1 (before ++ line.Feed client front ∷ line.Feed client back ∷ after))
    (cut (brought g l).1 before after client front back)
