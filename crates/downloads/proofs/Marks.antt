-- Marks of an arrival record.
use Rattle.std.proofs.Common.{◌≡◌, ℕ, ◌+◌, ◌-◌, ◌≤◌, false, not, ◌&&◌, ◌||◌, ltb, leb, List, length, take, replicate, sym, ap, ◌∙◌, inl, inr, arith, take_at}
use lib.ListN.{length-replicate, get_or-replicate, get_or-eq_default, replicate-append-replicate}
use Rattle.std.proofs.lemmas.Bool.{cases_Bool, cases_lt, lt-ltb, le-ltb, le-leb, lt-leb}
use Rattle.downloads.specs.declared.arrivals.Arrival.{Arrival}
use Rattle.downloads.specs.declared.arrivals.Arrival.TheVariants.{Missing, Arrived}
use Rattle.downloads.specs.Marks.{has_arrived, arrived_at, marked_from}
use Rattle.downloads.specs.Copies.{lacks, copies_in}
use Rattle.downloads.proofs.Parts.{put_below, put_in, put_above}

-- a block past the marks has not arrived
pub past_marks : (marks : List Arrival) (k : ℕ) → length marks ≤ k → arrived_at marks k ≡ false
past_marks marks k h = ap has_arrived (get_or-eq_default marks Missing h)

-- the front of a list of equal marks
pub take_equal : {A : Type 0} (c n : ℕ) (x : A) → c ≤ n → take c (replicate n x) ≡ replicate c x
take_equal {A} c n x h =
    let e : c + (n - c) ≡ n = omega arith in
    ap (λ (k : ℕ). take c (replicate k x)) (sym e)
    ∙ (ap (take c) (sym (replicate-append-replicate c (n - c) x)) ∙ take_at (replicate c x) (replicate (n - c) x) c (length-replicate c x))

-- the blocks that were marked have arrived, and the others are as they were
pub marked_at : (f m : ℕ) (marks : List Arrival) → f + m ≤ length marks → (k : ℕ) → arrived_at (marked_from f m marks) k ≡ ((leb f k && ltb k (f + m)) || arrived_at marks k)
marked_at f m marks h k =
    let new : List Arrival = replicate m Arrived in
    let long : length new ≡ m = length-replicate m Arrived in
    elim (cases_lt k f) [
      | inl low ↦ rw (lt-leb f k low) (ap has_arrived (put_below f new marks k Missing low (omega arith)))
      | inr high ↦ elim (cases_lt k (f + m)) [
        | inl inside ↦ rw (le-leb f k high, lt-ltb k (f + m) inside)
            (ap has_arrived (put_in f new marks k Missing high (omega arith) (omega arith) ∙ get_or-replicate m (k - f) Arrived Missing (omega arith)))
        | inr past ↦ rw (le-leb f k high, le-ltb k (f + m) past) (ap has_arrived (put_above f new marks k Missing (omega arith) (omega arith)))
      ]
    ]

-- a block lacks a copy if it has not arrived
pub lacks_is : (n : ℕ) (body : List ℕ) (marks : List Arrival) (k : ℕ) → lacks (copies_in n body marks) k ≡ not (arrived_at marks k)
unfolding copies_in
lacks_is n body marks k = elim (cases_Bool (arrived_at marks k)) [ inl t ↦ rw t | inr t ↦ rw t ]

pub lacks_are : (n : ℕ) (body : List ℕ) (marks : List Arrival) → lacks (copies_in n body marks) ≡ (λ k. not (arrived_at marks k))
lacks_are n body marks = λ i k. lacks_is n body marks k i
