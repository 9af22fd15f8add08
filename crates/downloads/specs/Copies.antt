-- Received copies: for each cipher block of a body one copy or none.
use Rattle.std.specs.Prelude.{◌≡◌, ℕ, Bool, cond, not, List, [], is_some, Some, None, Ok, Err, Option, Result}
use Rattle.std.specs.Option.{unwrap_or}
use Rattle.refusals.specs.declared.Reason.{Reason}
use Rattle.refusals.specs.declared.Reason.TheVariants.{WrongBuffer}
use Rattle.refusals.specs.declared.Layer.TheVariants.{Download}
use Rattle.refusals.specs.Codes.{Code, refuse}
use Rattle.blocks.specs.Bytes.{block}
use Rattle.downloads.specs.declared.arrivals.Arrival.{Arrival}
use Rattle.downloads.specs.Marks.{arrived_at}

abbrev pub Copies : Type 0
Copies = ℕ → Option (List ℕ)

-- at first there is none
abbrev pub no_copies : Copies
no_copies k = None

-- block k has a copy
abbrev pub Has : Copies → ℕ → Type 0
Has copies k = (b : List ℕ) × (copies k ≡ Some b)

abbrev pub lacks : Copies → ℕ → Bool
lacks copies k = not (is_some (copies k))

-- the copy of block k, where there is one
abbrev pub copy_at : Copies → ℕ → List ℕ
copy_at copies k = unwrap_or (copies k) []

-- what a body and its arrival record hold, in blocks of n bytes
unfoldable pub copies_in : ℕ → List ℕ → List Arrival → Copies
copies_in n body marks k = cond (arrived_at marks k) (Some (block n k body)) None

-- refused at the block that was found, if any was
abbrev pub refused_at : Reason → Option ℕ → Result Unit Code
refused_at why None = Ok tt
refused_at why (Some k) = Err (refuse why k Download)

-- refused unless every buffer is as long as it must be, else as what follows says
abbrev pub sized : {X : Type 0} → Bool → Result X Code → Result X Code
sized right rest = cond right rest (Err (refuse WrongBuffer 0 Download))
