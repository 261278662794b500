-- A workload comes to one summary.
use Rattle.std.proofs.Common.{◌≡◌, ℕ, false, Option, Some, None, nat_eq, refl, sym, ap, ◌∙◌, subst, arith}
use Rattle.std.specs.Duration.{as_nanos}
use Rattle.std.specs.Option.{option_map}
use Rattle.std.specs.declared.time.Duration.{Duration}
use Rattle.moka_hist.specs.Places.{IsLawful}
use Rattle.moka_hist.specs.Run.{IsReached, Run}
use Rattle.moka_hist.specs.Settings.{AreRulesOf}
use Rattle.moka_hist.specs.State.{State, Stay}
use Rattle.moka_hist.specs.declared.rules.Rules.{Rules}
use Rattle.moka_hist.specs.declared.writes.Place.TheVariants as place
use Rattle.moka_laws.specs.Lawful.{RunIsLawful}
use Rattle.moka_laws.proofs.Counting.{none_some, some_same}
use Rattle.moka_run.specs.Report.{Reports}
use Rattle.moka_run.specs.declared.report.Report.{Report}
use Rattle.moka_same.specs.Alike.{Alike}
use Rattle.moka_same.specs.Determined.{EndsAlike, RunsAreDetermined}
use Rattle.moka_same.proofs.Same.{alike_state, with_stay}
use Rattle.moka_summary.specs.Counts.{tally}
use Rattle.moka_workload.specs.Workload.{workload}
use Rattle.moka_make.specs.Summing.{WorkloadsComeToOne, is_applied, is_logged, is_owed, made_on, summary_of}
use Rattle.moka_make.proofs.Listings.{entries_same, notices_same, places_count}
use Rattle.moka_make.proofs.Summed.{first_reached, made_first}
use Rattle.moka_make.proofs.Whole.{workload_whole}

-- ---- the settings say one cache

-- a length of 2000 nanoseconds is one duration
one_duration : (d e : Duration) → as_nanos d ≡ 2000 → as_nanos e ≡ 2000 → d ≡ e
one_duration d e a b =
    let secs : d.secs ≡ e.secs = omega arith in
    let nanos : d.nanos ≡ e.nanos = omega arith in
    λ i. record { secs = secs i; nanos = nanos i }

one_live : (t u : Option Duration) → option_map as_nanos t ≡ Some 2000 →
    option_map as_nanos u ≡ Some 2000 → t ≡ u
one_live None u a b = absurd (none_some a)
one_live (Some d) None a b = absurd (none_some b)
one_live (Some d) (Some e) a b = ap (λ v. Some v) (one_duration d e (some_same a) (some_same b))

no_idle : (t : Option Duration) → option_map as_nanos t ≡ None → t ≡ None
no_idle None a = refl
no_idle (Some d) a = absurd (none_some (sym a))

one_cache : (r q : Rules) → AreRulesOf made_on r → AreRulesOf made_on q → r ≡ q
one_cache r q h k =
    let capacity = h.capacity ∙ sym k.capacity in
    let live = one_live r.time_to_live q.time_to_live h.live k.live in
    let idle = no_idle r.time_to_idle h.idle ∙ sym (no_idle q.time_to_idle k.idle) in
    let listener = h.listener ∙ sym k.listener in
    let closures = h.closures ∙ sym k.closures in
    λ i. record {
      max_capacity = capacity i;
      time_to_live = live i;
      time_to_idle = idle i;
      listener = listener i;
      closures = closures i;
    }

-- ---- the summary of what is alike

owed_apart : (n : ℕ) → is_owed (n, place.Held) ≡ false
owed_apart n = refl

logged_apart : (n : ℕ) → is_logged (n, place.Held) ≡ false
logged_apart n = refl

applied_apart : (n : ℕ) → is_applied (n, place.Held) ≡ false
applied_apart n = refl

-- what reports on a state reports on each that is alike
stay_reports : (s : State ℕ ℕ ℕ) (stay : Stay) (x : Report ℕ ℕ ℕ) →
    Reports nat_eq x.entries x.places x.notices x.tests (with_stay s stay) →
    Reports nat_eq x.entries x.places x.notices x.tests s
stay_reports s stay x h = record {
  entries = h.entries;
  places = record {
    calls = h.places.calls;
    live = h.places.live;
    all = h.places.all;
    ascending = h.places.ascending;
  };
  notices = record {
    calls = h.notices.calls;
    live = h.notices.live;
    all = h.notices.all;
    ascending = h.notices.ascending;
  };
  tests = h.tests;
}

reports_as : (s t : State ℕ ℕ ℕ) (x : Report ℕ ℕ ℕ) → Alike s t →
    Reports nat_eq x.entries x.places x.notices x.tests t →
    Reports nat_eq x.entries x.places x.notices x.tests s
reports_as s t x alike h = stay_reports s t.world.stay x
    (subst (λ v. Reports nat_eq x.entries x.places x.notices x.tests v) (alike_state s t alike) h)

-- two reports of the same replies on one state have one summary
sums_same : (turns : ℕ) (s : State ℕ ℕ ℕ) (x y : Report ℕ ℕ ℕ) → y.replies ≡ x.replies →
    Reports nat_eq x.entries x.places x.notices x.tests s →
    Reports nat_eq y.entries y.places y.notices y.tests s → summary_of turns x ≡ summary_of turns y
sums_same turns s x y same h k =
    let entries = entries_same s.world.table.stored x.entries y.entries h.entries k.entries in
    let owed = places_count is_owed owed_apart s x.places h.places ∙
    sym (places_count is_owed owed_apart s y.places k.places) in
    let logged = places_count is_logged logged_apart s x.places h.places ∙
    sym (places_count is_logged logged_apart s y.places k.places) in
    let applied = places_count is_applied applied_apart s x.places h.places ∙
    sym (places_count is_applied applied_apart s y.places k.places) in
    let notices = notices_same s x.notices y.notices h.notices k.notices in
    λ i. record {
      turns = turns;
      replies = tally (sym same i);
      entries = entries i;
      owed = owed i;
      logged = logged i;
      applied = applied i;
      notices = notices i;
    }

pub workloads_one : RunIsLawful ℕ ℕ ℕ nat_eq → RunsAreDetermined ℕ ℕ ℕ nat_eq →
    WorkloadsComeToOne
workloads_one any determined turns seed a b h k =
    h.is ∙ sums_same turns h.runs.final h.report k.report ends.replies h.runs.reports
    (reports_as h.runs.final k.runs.final k.report ends.states k.runs.reports) ∙ sym k.is
  where
    first : State ℕ ℕ ℕ
    first = made_first h.runs.rules

    other : Run nat_eq (IsLawful nat_eq) first (workload turns seed) k.report.replies k.runs.final
    other = subst (λ rules. Run nat_eq (IsLawful nat_eq) (made_first rules) (workload turns seed)
        k.report.replies k.runs.final)
        (one_cache k.runs.rules h.runs.rules k.runs.ruled h.runs.ruled) k.runs.run

    reached : IsReached nat_eq first
    reached = first_reached h.runs.rules

    ends : EndsAlike h.report.replies h.runs.final k.report.replies k.runs.final
    ends = determined first h.runs.final k.runs.final (workload turns seed) h.report.replies
        k.report.replies reached (λ n c live was. none_some live) (workload_whole turns seed)
        ((any first h.runs.final (workload turns seed) h.report.replies reached).1 h.runs.run)
        ((any first k.runs.final (workload turns seed) k.report.replies reached).1 other)
