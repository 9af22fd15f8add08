-- The numbers of refusals. Every contract that speaks of a refusal does so by these.
use Rattle.std.specs.Prelude.{ℕ, List, ◌++◌, Ok, Err, codes, decimal, Result}
use Rattle.refusals.specs.declared.Reason.{Reason}
use Rattle.refusals.specs.declared.Reason.TheVariants.{MalformedLine, RepeatedLine, MissingPart, WrongSize, BadField, BadLength, BadPages, BodiesEnd, WrongBuffer, BadBlock, Conflict, MissingBlock, NoSuchPage, LockedPage, NotReady}
use Rattle.refusals.specs.declared.Layer.{Layer}
use Rattle.refusals.specs.declared.Layer.TheVariants.{Description, File, Download, Target}
use Rattle.refusals.specs.declared.Refusal.{Refusal}

-- the number of each reason
abbrev pub number : Reason → ℕ
number MalformedLine = 1
number RepeatedLine = 2
number MissingPart = 3
number WrongSize = 4
number BadField = 5
number BadLength = 6
number BadPages = 7
number BodiesEnd = 8
number WrongBuffer = 9
number BadBlock = 10
number Conflict = 11
number MissingBlock = 12
number NoSuchPage = 13
number LockedPage = 14
number NotReady = 15

-- the number of each layer
abbrev pub layer_number : Layer → ℕ
layer_number Description = 1
layer_number File = 2
layer_number Download = 3
layer_number Target = 4

-- a refusal as it is known outside: number, place, layer
pub record Code : Type 0 where
  pub number : ℕ
  pub place : ℕ
  pub layer : ℕ

abbrev pub refuse : Reason → ℕ → Layer → Code
refuse why place layer = record { number = number why; place = place; layer = layer_number layer }

abbrev pub code_of : Refusal → Code
code_of e = refuse e.reason e.place e.layer

-- what a call answers: the meaning of its value, or the code of its refusal
abbrev pub answer : {X Y : Type 0} → (X → Y) → Result X Refusal → Result Y Code
answer meaning (Ok x) = Ok (meaning x)
answer meaning (Err e) = Err (code_of e)

-- the same where the value says nothing
abbrev pub outcome : Result Unit Refusal → Result Unit Code
outcome r = answer (λ u. u) r

-- a call after another one, whose refusal is the answer to both
abbrev pub then : {X Y : Type 0} → Result X Code → (X → Result Y Code) → Result Y Code
then (Ok x) next = next x
then (Err e) next = Err e

-- a refusal changes nothing: what was stays, else there is what the call makes
abbrev pub unless : {X Y : Type 0} → Result X Code → Y → Y → Y
unless (Ok x) was made = made
unless (Err e) was made = was

-- the printed form
abbrev pub refusal_text : Refusal → List ℕ
refusal_text e = codes "refused " ++ (decimal (number e.reason) ++ (codes " " ++ (decimal e.place ++ (codes " " ++ decimal (layer_number e.layer)))))
