-- The arrival record: one mark a block.
use Rattle.std.specs.Prelude.{ℕ, zero, suc, ◌+◌, Bool, true, false, cond, not, List, ◌++◌, length, take, drop, replicate, Some, None, Ok, Err, Option, Result, nat_le, slice_index_or}
use Rattle.refusals.specs.declared.Reason.TheVariants.{WrongBuffer}
use Rattle.refusals.specs.declared.Layer.TheVariants.{Download}
use Rattle.refusals.specs.Codes.{Code, refuse}
use Rattle.downloads.specs.declared.arrivals.Arrival.{Arrival}
use Rattle.downloads.specs.declared.arrivals.Arrival.TheVariants.{Missing, Arrived}
use Rattle.downloads.specs.declared.arrivals.ArrivalRecord.{ArrivalRecord}

abbrev pub has_arrived : Arrival → Bool
has_arrived Missing = false
has_arrived Arrived = true

-- block k has arrived
abbrev pub arrived_at : List Arrival → ℕ → Bool
arrived_at marks k = has_arrived (slice_index_or marks k Missing)

-- the marks of a record, one for each block
abbrev pub marks_in : ArrivalRecord → List Arrival
marks_in r = take r.count r.marks

-- a record of so many blocks, none of which has arrived; there is room for 2,048
abbrev pub new_record : ℕ → Result (List Arrival) Code
new_record blocks = cond (nat_le blocks 2048) (Ok (replicate blocks Missing)) (Err (refuse WrongBuffer 0 Download))

-- the lowest number from k on, of m numbers, that passes a test
abbrev pub lowest : (ℕ → Bool) → ℕ → ℕ → Option ℕ
lowest test k zero = None
lowest test k (suc m) = cond (test k) (Some k) (lowest test (suc k) m)

-- the lowest block from k on, of m blocks, that has not arrived
abbrev pub missing_from : List Arrival → ℕ → ℕ → Option ℕ
missing_from marks k m = lowest (λ i. not (arrived_at marks i)) k m

-- a part of a list replaced, and nothing else of it
abbrev pub put_at : {A : Type 0} → ℕ → List A → List A → List A
put_at at part was = take at was ++ (part ++ drop (at + length part) was)

-- m blocks from block f on have arrived
abbrev pub marked_from : ℕ → ℕ → List Arrival → List Arrival
marked_from f m marks = put_at f (replicate m Arrived) marks
