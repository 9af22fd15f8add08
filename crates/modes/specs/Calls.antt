-- What the calls on texts and blocks answer, and what they leave.
use Rattle.std.specs.Prelude.{ℕ, ◌%◌, Bool, true, false, cond, List, ◌++◌, length, take, drop, replicate, Some, None, Ok, Err, Option, Result, ◌==◌, nat_lt}
use Rattle.refusals.specs.declared.Reason.TheVariants.{BadField, BadLength, WrongBuffer, BadBlock}
use Rattle.refusals.specs.declared.Layer.TheVariants.{File, Download}
use Rattle.refusals.specs.Codes.{Code, refuse}
use Rattle.blocks.specs.Bytes.{bytes_of, block}
use Rattle.blocks.specs.Ciphers.{BlockMap}
use Rattle.modes.specs.declared.mode.Mode.{Mode}
use Rattle.modes.specs.declared.mode.Mode.TheVariants.{Codebook, Counter, Feedback}
use Rattle.modes.specs.declared.mode.Sync.{Sync}
use Rattle.modes.specs.Modes.{Chaining, block_count, enciphered, plain_block}

-- the bytes of a sync, the lowest of each word first: a cipher of eight bytes uses the first word alone;
-- codebook has no sync and reads none
abbrev pub sync_bytes : ℕ → Option Sync → List ℕ
sync_bytes n None = replicate n 0
sync_bytes n (Some s) = take n (bytes_of 8 s.first ++ bytes_of 8 s.second)

abbrev pub chaining : BlockMap → Mode → Option Sync → Chaining
chaining c mode sync = record { cipher = c; mode = mode; sync = sync_bytes c.size sync }

-- codebook has no sync, the others have one, and counter needs blocks of eight bytes
abbrev pub agrees : ℕ → Mode → Option Sync → Bool
agrees n Codebook None = true
agrees n Codebook (Some s) = false
agrees n Counter None = false
agrees n Counter (Some s) = n == 8
agrees n Feedback None = false
agrees n Feedback (Some s) = true

-- codebook takes whole blocks only
abbrev pub whole_in : Mode → ℕ → ℕ → Bool
whole_in Codebook n bytes = bytes % n == 0
whole_in Counter n bytes = true
whole_in Feedback n bytes = true

abbrev pub mode_answer : ℕ → Mode → Option Sync → ℕ → Result Unit Code
mode_answer n mode sync bytes =
    cond (agrees n mode sync) (cond (whole_in mode n bytes) (Ok tt) (Err (refuse BadLength 0 File))) (Err (refuse BadField 0 File))

-- a refusal changes nothing
abbrev pub unless : {X Y : Type 0} → Result X Code → Y → Y → Y
unless (Ok x) was is = is
unless (Err e) was is = was

abbrev pub text_after : BlockMap → Mode → Option Sync → List ℕ → List ℕ
text_after c mode sync text = unless (mode_answer c.size mode sync (length text)) text (enciphered (chaining c mode sync) text)

-- plain block i of a body
abbrev pub plain_of : BlockMap → Mode → Option Sync → List ℕ → ℕ → List ℕ
plain_of c mode sync body i = plain_block (chaining c mode sync) (λ k. block c.size k body) i

abbrev pub then : {X Y : Type 0} → Result X Code → Result Y Code → Result Y Code
then (Ok x) next = next
then (Err e) next = Err e

-- deciphering block i of a body into a buffer of n bytes: how many bytes the block has
abbrev pub block_answer : ℕ → Mode → Option Sync → List ℕ → ℕ → ℕ → Result ℕ Code
block_answer n mode sync body i room =
    cond (room == n)
    (then (mode_answer n mode sync (length body))
    (cond (nat_lt i (block_count n (length body))) (Ok (length (block n i body))) (Err (refuse BadBlock i Download))))
    (Err (refuse WrongBuffer 0 Download))

-- the plain block at the front, the rest of the buffer kept
abbrev pub front : List ℕ → List ℕ → List ℕ
front bytes was = bytes ++ drop (length bytes) was

abbrev pub buffer_after : BlockMap → Mode → Option Sync → List ℕ → ℕ → List ℕ → List ℕ
buffer_after c mode sync body i was =
    unless (block_answer c.size mode sync body i (length was)) was (front (plain_of c mode sync body i) was)
