-- The count of keys stays right.
use Rattle.std.proofs.Common.{◌≡◌, ℕ, Bool, length, Some, None, sym, ap, ◌∙◌, arith}
use Rattle.std.specs.Option.{option_to_list}
use Rattle.std.proofs.lemmas.List.Sorted.{length_permutation}
use Rattle.moka_words.specs.declared.accesses.Seen.{Seen}
use Rattle.moka_words.specs.declared.accesses.Seen.TheVariants as seen
use Rattle.moka_words.specs.Effect.{Memory, Effect}
use Rattle.moka_growth.specs.Calls.{Point, Call, Step, Decided, Changed, wanted, access_of, next_at}
use Rattle.moka_growth.specs.Calls as call
use Rattle.moka_growth.specs.Fits.{Fits}
use Rattle.moka_growth.specs.Maps.{present_nodes, KeepsMap, Ends}
use Rattle.moka_growth.specs.Counts.{Recounts, IsCounted}
use Rattle.moka_growth.specs.Laws.{Makes}
use Rattle.moka_growth.proofs.Exchanging.{seal_stored}
use Rattle.moka_growth.proofs.Mapped.{KeepsUnlessExchanged, point_keeps_map}
use Rattle.moka_growth.specs.Turns.{Leads}
use Rattle.moka_growth.proofs.Stepping.{step_leads}

kept_counted : (old new : Memory) → KeepsMap old new → new.len ≡ old.len → IsCounted old → IsCounted new
kept_counted old new keeps same counted =
    let count = length_permutation (present_nodes old) (present_nodes new) keeps in same ∙ (counted ∙ sym count)

count_stays_at : (own : ℕ → Bool) (h : ℕ) (hash : ℕ → ℕ) (c : Call) (old new : Memory) (p : Point) (s : Seen) → KeepsUnlessExchanged old new p s →
    Effect hash own (wanted h p) s old new → Recounts (wanted h p) s old new →
    Leads (next_at c p s) (λ d. Fits hash own new d) (λ e. Ends own p e old new) → IsCounted old → IsCounted new
count_stays_at own h hash c old new (call.Root met) (seen.Root a l t k) keeps e r leads counted = kept_counted old new keeps r.0 counted
count_stays_at own h hash c old new (call.Probe a l v) (seen.Word w x s) keeps e r leads counted = kept_counted old new keeps r.0 counted
count_stays_at own h hash c old new (call.Choose a l v w) (seen.Chosen x) keeps e r leads counted = kept_counted old new keeps r.0 counted
count_stays_at own h hash c old new (call.Change a l v from to) (seen.Exchanged None) keeps e r leads counted =
    let recount = r.0 in let change = leads.1.count in omega arith
count_stays_at own h hash c old new (call.Change a l v from to) (seen.Exchanged (Some met)) keeps e r leads counted =
    kept_counted old new keeps r.0 counted
count_stays_at own h hash c old new (call.Walk a l i nodes) (seen.Word w x s) keeps e r leads counted = kept_counted old new keeps r.0 counted
count_stays_at own h hash c old new (call.Seal a l i kept) (seen.Word w x s) keeps e r leads counted = kept_counted old new keeps r.0 counted
count_stays_at own h hash c old new (call.Close a l i w x kept) (seen.Exchanged None) keeps e r leads counted =
    let recount = r.0 in
    let sealed = ap (λ o. length (option_to_list o)) (seal_stored w) in
    kept_counted old new keeps (omega arith) counted
count_stays_at own h hash c old new (call.Close a l i w x kept) (seen.Exchanged (Some met)) keeps e r leads counted =
    kept_counted old new keeps r.0 counted
count_stays_at own h hash c old new (call.Next array l kept) (seen.Next next k) keeps e r leads counted = kept_counted old new keeps r.0 counted
count_stays_at own h hash c old new (call.Link array l kept) (seen.Linked next k) keeps e r leads counted =
    kept_counted old new keeps r.0 counted
count_stays_at own h hash c old new (call.Copy from a i laid) seen.Copied keeps e r leads counted = kept_counted old new keeps r.0 counted
count_stays_at own h hash c old new (call.Swing from a) seen.Swung keeps e r leads counted = kept_counted old new keeps r.0 counted
count_stays_at own h hash c old new p s keeps e r leads counted = absurd e

pub count_stays : (hash : ℕ → ℕ) (same : ℕ → ℕ → Bool) (mine own : ℕ → Bool) (c : Call) (s : Seen) (old new : Memory) →
    Makes hash same mine own c s old new → Recounts (access_of c) s old new → IsCounted old → IsCounted new
count_stays hash same mine own c s old new m r counted =
    count_stays_at own c.hash hash c old new c.point s (point_keeps_map own c.hash old new m.sound c.point s m.fits m.effect) m.effect r
    (step_leads hash same mine own c s old new m) counted
