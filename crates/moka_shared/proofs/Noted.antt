-- What one book says, by whoever has seen it.
use Rattle.std.proofs.Common.{◌≡◌, ℕ, ◌<◌, Bool, List, length, Some, ◌∷◌, sym, ◌∙◌}
use mathlib.Core.List.{IsPrefix}
use Rattle.logbook.specs.Pages.{Book}
use Rattle.moka_history.specs.declared.note.Note.{Note}
use Rattle.moka_history.specs.Logs.{state_of}
use Rattle.moka_history.specs.Rules.{IsFront, IsKept}
use Rattle.moka_history.proofs.Fronts.{lasts_now}
use Rattle.moka_history.proofs.Lists.{one_item}
use Rattle.moka_shared.specs.Tables.{names_of}

first_same : {A : Type 0} {x y : A} {xs ys : List A} → x ∷ xs ≡ y ∷ ys → x ≡ y
first_same e = cc (e)

rest_same : {A : Type 0} {x y : A} {xs ys : List A} → x ∷ xs ≡ y ∷ ys → xs ≡ ys
rest_same e = cc (e)

-- the names tell the book
pub books_are : (b c : Book) → names_of b ≡ names_of c → b ≡ c
books_are b c e =
    let number : b.number ≡ c.number = first_same e in
    let log : b.log_name ≡ c.log_name = first_same (rest_same e) in
    let cells : b.cells_name ≡ c.cells_name = first_same (rest_same (rest_same e)) in
    λ k. record { number = number k; log_name = log k; cells_name = cells k }

-- a number names one pair in all that was seen of a book
pub names_one : {K V S : Type 0} (eq : K → K → Bool) (hash : S → K → ℕ) (place : S → ℕ → K → ℕ) (log front node : List (Note K V S)) → IsKept eq hash place log →
    IsPrefix front log → 0 < length front → IsPrefix node log → 0 < length node → (n : ℕ) (p q : K × V) →
    (state_of front).pairs n ≡ Some p → (state_of node).pairs n ≡ Some q → p ≡ q
names_one eq hash place log front node kept front_begins front_some node_begins node_some n p q at there =
    let f : IsFront front log = record { some = front_some; begins = front_begins } in
    let m : IsFront node log = record { some = node_some; begins = node_begins } in
    one_item (sym ((lasts_now eq hash place log kept front f).pairs n p at) ∙ (lasts_now eq hash place log kept node m).pairs n q there)
