-- What every trace of a download promises, over the list of its calls and the list of their answers.
use Rattle.std.specs.Prelude.{◌≡◌, ℕ, zero, suc, ◌+◌, ◌-◌, ◌*◌, ◌%◌, ◌<◌, ◌≤◌, Bool, true, false, cond, ◌≢◌, ◌⊎◌, List, [], ◌∷◌, length, take, Some, None, Ok}
use Rattle.refusals.specs.Codes.{Code}
use Rattle.blocks.specs.Bytes.{block}
use Rattle.blocks.specs.Ciphers.{Lawful}
use Rattle.modes.specs.declared.mode.Mode.TheVariants.{Codebook, Counter, Feedback}
use Rattle.modes.specs.Modes.{Depends, cipher_block}
use Rattle.modes.specs.Calls.{mode_answer}
use Rattle.modes.specs.Laws.{Text, SameBits}
use Rattle.sections.specs.Files.{pages_end}
use Rattle.sections.specs.Seals.{chaining_of}
use Rattle.targets.specs.State.{TargetState, is_locked, is_ready, WellFormed}
use Rattle.downloads.specs.Copies.{Copies, no_copies, Has, copy_at}
use Rattle.downloads.specs.Frames.{block_of, blocks_of, block_in, with_frame}
use Rattle.downloads.specs.Blocks.{plain_from}
use Rattle.downloads.specs.Verdicts.{image_on, value_of_image, first_off}
use Rattle.traces.specs.Traces.{Setting, Call, frame, give, erase, program, close, reopen, verify, Answer, done, plain, verdict, refused, not_built, standing, begun, run, answers_of, with_erased, with_programmed, AllOfBytes}

-- ---- what the calls and their answers say

-- at place k stands this call, with this answer
abbrev pub Asked : ℕ → List Call → List Answer → Call → Answer → Type 0
Asked k [] answers c a = ⊥
Asked k (x ∷ calls) [] c a = ⊥
Asked zero (x ∷ calls) (y ∷ answers) c a = (x ≡ c) × (y ≡ a)
Asked (suc k) (x ∷ calls) (y ∷ answers) c a = Asked k calls answers c a

abbrev pub is_done : Answer → Bool
is_done done = true
is_done (plain out) = false
is_done (verdict good) = false
is_done (refused e) = false
is_done not_built = false

-- the received copies: a frame answered `done` puts in its copy of each block that it covers, and
-- nothing else changes them
abbrev pub copies_by : Setting → Copies → Call → Answer → Copies
copies_by w copies (frame f bytes) a = cond (is_done a) (with_frame (block_of w.section) copies f bytes) copies
copies_by w copies (give i) a = copies
copies_by w copies (erase p) a = copies
copies_by w copies (program j) a = copies
copies_by w copies close a = copies
copies_by w copies reopen a = copies
copies_by w copies verify a = copies

abbrev pub received_from : Setting → Copies → List Call → List Answer → Copies
received_from w copies [] answers = copies
received_from w copies (c ∷ calls) [] = copies
received_from w copies (c ∷ calls) (a ∷ answers) = received_from w (copies_by w copies c a) calls answers

-- for each block one copy or none, at first none
abbrev pub received : Setting → List Call → List Answer → Copies
received w calls answers = received_from w no_copies calls answers

-- whether the download is closed: `close` answered `done` closes it, `reopen` opens it, and nothing else
-- changes it
abbrev pub closed_by : Bool → Call → Answer → Bool
closed_by closed (frame f bytes) a = closed
closed_by closed (give i) a = closed
closed_by closed (erase p) a = closed
closed_by closed (program j) a = closed
closed_by closed close a = cond (is_done a) true closed
closed_by closed reopen a = cond (is_done a) false closed
closed_by closed verify a = closed

abbrev pub closed_from : Bool → List Call → List Answer → Bool
closed_from closed [] answers = closed
closed_from closed (c ∷ calls) [] = closed
closed_from closed (c ∷ calls) (a ∷ answers) = closed_from (closed_by closed c a) calls answers

-- at first it is receiving
abbrev pub closed_after : List Call → List Answer → Bool
closed_after calls answers = closed_from false calls answers

-- the target: an erase or program answered `done` does what it does, and nothing else changes it
abbrev pub target_by : Setting → Copies → TargetState → Call → Answer → TargetState
target_by w copies t (frame f bytes) a = t
target_by w copies t (give i) a = t
target_by w copies t (erase p) a = cond (is_done a) (with_erased t p) t
target_by w copies t (program j) a = cond (is_done a) (with_programmed w t copies j) t
target_by w copies t close a = t
target_by w copies t reopen a = t
target_by w copies t verify a = t

abbrev pub target_from : Setting → Copies → TargetState → List Call → List Answer → TargetState
target_from w copies t [] answers = t
target_from w copies t (c ∷ calls) [] = t
target_from w copies t (c ∷ calls) (a ∷ answers) = target_from w (copies_by w copies c a) (target_by w copies t c a) calls answers

abbrev pub target_after : Setting → TargetState → List Call → List Answer → TargetState
target_after w t calls answers = target_from w no_copies t calls answers

-- the copies, whether it is closed, and the target, before place k
abbrev pub copies_at : Setting → List Call → List Answer → ℕ → Copies
copies_at w calls answers k = received w (take k calls) (take k answers)

abbrev pub closed_at : List Call → List Answer → ℕ → Bool
closed_at calls answers k = closed_after (take k calls) (take k answers)

abbrev pub target_at : Setting → TargetState → List Call → List Answer → ℕ → TargetState
target_at w t calls answers k = target_after w t (take k calls) (take k answers)

-- the call erases or programs target page p
abbrev pub Alters : Setting → ℕ → Call → Type 0
Alters w p (frame f bytes) = ⊥
Alters w p (give i) = ⊥
Alters w p (erase q) = q ≡ p
Alters w p (program j) = w.section.first_page + j ≡ p
Alters w p close = ⊥
Alters w p reopen = ⊥
Alters w p verify = ⊥

-- target page p was last programmed: a programming of it was answered `done`, and no later erase or
-- program of it was
pub record LastProgrammed (w : Setting) (calls : List Call) (answers : List Answer) (p : ℕ) : Type 0 where
  -- where in the trace, and with which image page
  pub place : ℕ
  pub page : ℕ
  -- which goes to target page p
  pub here : w.section.first_page + page ≡ p
  -- it was programmed there
  pub programmed : Asked place calls answers (program page) done
  -- and no call after that altered page p
  pub last : (m : ℕ) (c : Call) → place < m → Asked m calls answers c done → Alters w p c → ⊥

-- a refusal of the download's layer, 3
abbrev pub refused_with : ℕ → ℕ → Answer
refused_with number place = refused (record { number = number; place = place; layer = 3 })

-- k is the lowest number that a property holds of
pub record Lowest (P : ℕ → Type 0) (k : ℕ) : Type 0 where
  -- it holds of k
  pub holds : P k
  -- and of no lower one
  pub least : (j : ℕ) → P j → k ≤ j

-- ---- frames

-- a frame of so many bytes from block f on covers block i
abbrev pub Covers : ℕ → ℕ → ℕ → ℕ → Type 0
Covers n f bytes i = (f ≤ i) × (n * (i - f) < bytes)

-- the copies are those of the frames answered `done`, and no others
pub record CopiesOf (w : Setting) (calls : List Call) (answers : List Answer) (copies : Copies) : Type 0 where
  -- each copy is that of an accepted frame
  pub from : (i : ℕ) (b : List ℕ) → copies i ≡ Some b →
      (k f : ℕ) × (bytes : List ℕ) × Asked k calls answers (frame f bytes) done × Covers (block_of w.section) f (length bytes) i × (b ≡ block_in (block_of w.section) f bytes i)
  -- each copy of an accepted frame is there, whatever came later
  pub all : (k f : ℕ) (bytes : List ℕ) → Asked k calls answers (frame f bytes) done →
      (i : ℕ) → Covers (block_of w.section) f (length bytes) i → copies i ≡ Some (block_in (block_of w.section) f bytes i)

-- not empty, not past the body, and whole blocks unless it ends where the body ends
abbrev pub GoodFrame : Setting → ℕ → ℕ → Type 0
GoodFrame w f bytes =
    (0 < bytes) × (block_of w.section * f + bytes ≤ w.section.length)
    × ((bytes % block_of w.section ≡ 0) ⊎ (block_of w.section * f + bytes ≡ w.section.length))

-- the frame covers block i, which has another copy
abbrev pub Conflicts : Setting → Copies → ℕ → List ℕ → ℕ → Type 0
Conflicts w copies f bytes i =
    Covers (block_of w.section) f (length bytes) i × (b : List ℕ) × (copies i ≡ Some b) × (b ≢ block_in (block_of w.section) f bytes i)

pub record FrameAnswer (w : Setting) (copies : Copies) (closed : Bool) (f : ℕ) (bytes : List ℕ) (a : Answer) : Type 0 where
  -- accepted only when the download is receiving, the frame's shape is good, and no block conflicts
  pub only : a ≡ done → (closed ≡ false) × GoodFrame w f (length bytes) × ((i : ℕ) → Conflicts w copies f bytes i → ⊥)
  -- and always then
  pub accepted : closed ≡ false → GoodFrame w f (length bytes) → ((i : ℕ) → Conflicts w copies f bytes i → ⊥) → a ≡ done
  -- a bad shape is refused at the first block
  pub shape : closed ≡ false → (GoodFrame w f (length bytes) → ⊥) → a ≡ refused_with 10 f
  -- any other refusal is at the lowest block that conflicts
  pub conflict : closed ≡ false → GoodFrame w f (length bytes) → a ≢ done → (i : ℕ) × (a ≡ refused_with 11 i) × Lowest (Conflicts w copies f bytes) i
  -- a closed download takes none
  pub late : closed ≡ true → a ≡ not_built

-- ---- plain blocks

-- a wanted block that has no copy
abbrev pub Missing : (ℕ → Type 0) → Copies → ℕ → Type 0
Missing Wanted copies k = Wanted k × (copies k ≡ None)

pub record BlockAnswer (w : Setting) (copies : Copies) (i : ℕ) (a : Answer) : Type 0 where
  -- handed over only when each cipher block that it depends on has a copy
  pub only : (out : List ℕ) → a ≡ plain out → (k : ℕ) → Depends w.section.mode i k → Has copies k
  -- and always then
  pub handed : ((k : ℕ) → Depends w.section.mode i k → Has copies k) → (out : List ℕ) × (a ≡ plain out)
  -- what is handed over is the plain block of the copies
  pub is : (out : List ℕ) → a ≡ plain out → out ≡ plain_from w.cipher w.section copies i
  -- else it is refused at the lowest that has none
  pub missing : ((out : List ℕ) → a ≢ plain out) → (k : ℕ) × (a ≡ refused_with 12 k) × Lowest (Missing (Depends w.section.mode i) copies) k

-- ---- what was sent

-- an image that may have been sent, and its cipher blocks
abbrev pub Sent : Setting → List ℕ → Type 0
Sent w image = Text w.section.length image

abbrev pub sent_block : Setting → List ℕ → ℕ → List ℕ
sent_block w image k = cipher_block (chaining_of w.cipher w.section) image k

abbrev pub sent_plain : Setting → List ℕ → ℕ → List ℕ
sent_plain w image i = block (block_of w.section) i image

-- block k has a copy, and it is the sent block
abbrev pub Unaltered : Setting → List ℕ → Copies → ℕ → Type 0
Unaltered w image copies k = copies k ≡ Some (sent_block w image k)

-- it has another copy
abbrev pub Altered : Setting → List ℕ → Copies → ℕ → Type 0
Altered w image copies k = (b : List ℕ) × (copies k ≡ Some b) × (b ≢ sent_block w image k)

-- block i was handed over as `out`, and this image was sent
pub record Reach (w : Setting) (image : List ℕ) (copies : Copies) (i : ℕ) (out : List ℕ) : Type 0 where
  -- a block that depends on unaltered ones only is the sent one
  pub unaltered : ((k : ℕ) → Depends w.section.mode i k → Unaltered w image copies k) → out ≡ sent_plain w image i
  -- codebook: an altered block differs
  pub codebook : w.section.mode ≡ Codebook → Altered w image copies i → out ≢ sent_plain w image i
  -- counter: the block differs in exactly the altered bits
  pub counter : w.section.mode ≡ Counter → SameBits out (sent_plain w image i) (copy_at copies i) (sent_block w image i)
  -- feedback: it differs in exactly the altered bits, if i is 0 or the block before is unaltered
  pub feedback : w.section.mode ≡ Feedback → ((k : ℕ) → suc k ≡ i → Unaltered w image copies k) → SameBits out (sent_plain w image i) (copy_at copies i) (sent_block w image i)
  -- feedback: the block after an altered one differs, if it is whole and unaltered
  pub next : w.section.mode ≡ Feedback → (k : ℕ) → suc k ≡ i → Altered w image copies k → Unaltered w image copies i →
      block_of w.section * i + block_of w.section ≤ w.section.length → out ≢ sent_plain w image i
  -- feedback: if block k alone is altered, every block but k and k + 1 is the sent one
  pub alone : w.section.mode ≡ Feedback → (k : ℕ) → ((j : ℕ) → Altered w image copies j → j ≡ k) → i ≢ k → i ≢ suc k → out ≡ sent_plain w image i

-- ---- pages

-- a block that lies in image page j, on pages of P bytes, depends on cipher block k
abbrev pub Needs : Setting → ℕ → ℕ → ℕ → Type 0
Needs w P j k =
    (i : ℕ) × (i < blocks_of w.section) × (j * P ≤ block_of w.section * i) × (block_of w.section * i < j * P + P) × Depends w.section.mode i k

pub record PageAnswer (w : Setting) (P : ℕ) (copies : Copies) (t : TargetState) (j : ℕ) (a : Answer) : Type 0 where
  -- accepted or refused
  pub either : (a ≡ done) ⊎ ((e : Code) × (a ≡ refused e))
  -- accepted if the buffer has a page's length, the image and the target have the page, each block that it
  -- needs has a copy, and the page is not locked and ready
  pub accepted : w.room ≡ P → j * P < w.section.length → w.section.first_page + j < t.page_count → ((k : ℕ) → Needs w P j k → Has copies k) →
      is_locked t (w.section.first_page + j) ≡ false → is_ready t (w.section.first_page + j) ≡ true → a ≡ done
  -- accepted only if each block that the page needs has a copy
  pub only : a ≡ done → (k : ℕ) → Needs w P j k → Has copies k
  -- a refusal with the number 12 names the lowest that has none
  pub missing : (e : Code) → a ≡ refused e → e.number ≡ 12 → (e.layer ≡ 3) × Lowest (Missing (Needs w P j) copies) e.place

-- ---- verdicts

-- the imitovstavka of the image bytes on a target
abbrev pub value_on : Setting → TargetState → ℕ
value_on w t = value_of_image w.rows w.key w.section (image_on w.section t)

pub record VerifyAnswer (w : Setting) (t : TargetState) (closed : Bool) (a : Answer) : Type 0 where
  -- good exactly when that value is the section's tag
  pub good : a ≡ verdict true → value_on w t ≡ w.section.tag
  -- and not good exactly when it is not
  pub bad : a ≡ verdict false → value_on w t ≢ w.section.tag
  -- a verdict only when the download is closed, the page buffer has a page's length, and the image's
  -- pages are on the target
  pub only : (good : Bool) → a ≡ verdict good → (closed ≡ true) × (w.room ≡ t.page_length) × (pages_end t.page_length w.section ≤ t.page_count)
  -- and always then
  pub judges : closed ≡ true → w.room ≡ t.page_length → pages_end t.page_length w.section ≤ t.page_count → (good : Bool) × (a ≡ verdict good)
  -- a page buffer of another length is refused
  pub buffer : closed ≡ true → w.room ≢ t.page_length → a ≡ refused_with 9 0
  -- image pages off the target are refused at the lowest
  pub off : closed ≡ true → w.room ≡ t.page_length → t.page_count < pages_end t.page_length w.section → a ≡ refused_with 13 (first_off w.section t)
  -- a download that is receiving is not verified
  pub early : closed ≡ false → a ≡ not_built

-- ---- the promise

-- of the calls of a trace, from target t on, and their answers: each answer is judged by the calls
-- before its place and their answers
-- ---- erasing, closing and reopening

pub record EraseAnswer (t : TargetState) (p : ℕ) (a : Answer) : Type 0 where
  -- accepted only if the target has the page and it is not locked
  pub only : a ≡ done → (p < t.page_count) × (is_locked t p ≡ false)
  -- and always then
  pub accepted : p < t.page_count → is_locked t p ≡ false → a ≡ done

pub record CloseAnswer (w : Setting) (copies : Copies) (closed : Bool) (a : Answer) : Type 0 where
  -- accepted only while receiving, and if every block has a copy
  pub only : a ≡ done → (closed ≡ false) × ((k : ℕ) → k < blocks_of w.section → Has copies k)
  -- and always then
  pub accepted : closed ≡ false → ((k : ℕ) → k < blocks_of w.section → Has copies k) → a ≡ done
  -- else refused at the lowest block that has none
  pub missing : closed ≡ false → a ≢ done → (k : ℕ) × (a ≡ refused_with 12 k) × Lowest (Missing (λ i. i < blocks_of w.section) copies) k
  -- a closed download is not closed again
  pub late : closed ≡ true → a ≡ not_built

pub record ReopenAnswer (closed : Bool) (a : Answer) : Type 0 where
  pub accepted : closed ≡ true → a ≡ done
  pub early : closed ≡ false → a ≡ not_built

pub record Promise (w : Setting) (t : TargetState) (calls : List Call) (answers : List Answer) : Type 0 where
  -- every call is answered
  pub each : length answers ≡ length calls
  -- the copies are those of the accepted frames
  pub copies : (k : ℕ) → CopiesOf w (take k calls) (take k answers) (copies_at w calls answers k)
  -- when a frame is accepted
  pub frames : (k f : ℕ) (bytes : List ℕ) (a : Answer) → Asked k calls answers (frame f bytes) a →
      FrameAnswer w (copies_at w calls answers k) (closed_at calls answers k) f bytes a
  -- when a block is handed over
  pub blocks : (k i : ℕ) (a : Answer) → Asked k calls answers (give i) a → i < blocks_of w.section →
      BlockAnswer w (copies_at w calls answers k) i a
  -- a block that there is not is refused
  pub no_block : (k i : ℕ) (a : Answer) → Asked k calls answers (give i) a → blocks_of w.section ≤ i → a ≡ refused_with 10 i
  -- what a block that is handed over is, whatever image was sent
  pub reach : (k i : ℕ) (out : List ℕ) → Asked k calls answers (give i) (plain out) → (image : List ℕ) → Sent w image →
      Reach w image (copies_at w calls answers k) i out
  -- what programming needs
  pub pages : (k j : ℕ) (a : Answer) → Asked k calls answers (program j) a →
      PageAnswer w t.page_length (copies_at w calls answers k) (target_at w t calls answers k) j a
  -- when a page is erased
  pub erasing : (k p : ℕ) (a : Answer) → Asked k calls answers (erase p) a → EraseAnswer (target_at w t calls answers k) p a
  -- when the download is closed, and reopened
  pub closing : (k : ℕ) (a : Answer) → Asked k calls answers close a → CloseAnswer w (copies_at w calls answers k) (closed_at calls answers k) a
  pub reopening : (k : ℕ) (a : Answer) → Asked k calls answers reopen a → ReopenAnswer (closed_at calls answers k) a
  -- what a verdict says
  pub verdicts : (k : ℕ) (a : Answer) → Asked k calls answers verify a →
      VerifyAnswer w (target_at w t calls answers k) (closed_at calls answers k) a
  -- targets that hold the same image bytes get the same verdict, whatever else they and the traces
  -- differ in
  pub alike : (k : ℕ) (good : Bool) → Asked k calls answers verify (verdict good) →
      (w' : Setting) (t' : TargetState) (calls' : List Call) (k' : ℕ) (good' : Bool) →
      w'.section ≡ w.section → w'.rows ≡ w.rows → w'.key ≡ w.key →
      Asked k' calls' (answers_of w' (begun t') calls') verify (verdict good') →
      image_on w.section (target_at w' t' calls' (answers_of w' (begun t') calls') k') ≡ image_on w.section (target_at w t calls answers k) → good' ≡ good
  -- good if every block is unaltered, each image page was last programmed, and the section's tag is the
  -- sent image's imitovstavka
  pub sound : (k : ℕ) (good : Bool) → Asked k calls answers verify (verdict good) → (image : List ℕ) → Sent w image →
      ((i : ℕ) → i < blocks_of w.section → Unaltered w image (copies_at w calls answers k) i) →
      ((j : ℕ) → j * t.page_length < w.section.length → LastProgrammed w (take k calls) (take k answers) (w.section.first_page + j)) →
      w.section.tag ≡ value_of_image w.rows w.key w.section image → good ≡ true

-- what an opened download and its target keep
pub record Fit (w : Setting) (t : TargetState) : Type 0 where
  -- the cipher keeps its law
  pub lawful : Lawful w.cipher
  -- its blocks are as long as the section's
  pub sized : w.cipher.size ≡ block_of w.section
  -- the section's mode takes its sync and its length
  pub mode : mode_answer (block_of w.section) w.section.mode w.section.sync w.section.length ≡ Ok tt
  -- the target keeps its law
  pub target : WellFormed t

-- every trace keeps the promise
abbrev pub PromiseHolds : Type 0
PromiseHolds = (w : Setting) (t : TargetState) (calls : List Call) → Fit w t → AllOfBytes calls → Promise w t calls (answers_of w (begun t) calls)

-- where a trace stands is told by its calls and answers
abbrev pub StandsAsTold : Type 0
StandsAsTold =
    (w : Setting) (t : TargetState) (calls : List Call) →
    run w (begun t) calls
    ≡ standing (received w calls (answers_of w (begun t) calls)) (closed_after calls (answers_of w (begun t) calls)) (target_after w t calls (answers_of w (begun t) calls))
