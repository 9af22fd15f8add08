-- Two traces worked out. They meet what the promise asks for, so it speaks of something.
use Rattle.std.specs.Prelude.{◌≡◌, ℕ, ◌+◌, ◌*◌, ◌<◌, true, false, List, [], ◌∷◌, map, take, replicate, Some, Option, bit_xor}
use Rattle.blocks.specs.Ciphers.{BlockMap}
use Rattle.modes.specs.declared.mode.Mode.TheVariants.{Feedback}
use Rattle.modes.specs.declared.mode.Sync.{Sync}
use Rattle.gost.specs.Tables.{Rows}
use Rattle.gost.specs.Cipher.{gost}
use Rattle.sections.specs.declared.kind.CipherKind.TheVariants.{Gost}
use Rattle.sections.specs.Entries.{Described}
use Rattle.targets.specs.State.{TargetState}
use Rattle.downloads.specs.Frames.{blocks_of}
use Rattle.downloads.specs.Verdicts.{value_of_image}
use Rattle.traces.specs.Traces.{Setting, Call, frame, give, erase, program, close, reopen, verify, Answer, done, plain, verdict, refused, not_built, begun, answers_of, AllOfBytes}
use Rattle.traces.specs.Promise.{Fit, Sent, sent_block, Unaltered, Altered, LastProgrammed, copies_at, refused_with}

-- zeros for table, key and sync
abbrev pub zeros : Rows
zeros = replicate 8 (replicate 16 0)

abbrev pub zero_key : List ℕ
zero_key = replicate 8 0

abbrev pub zero_sync : Option Sync
zero_sync = Some (record { first = 0; second = 0 })

-- a section in feedback, from page 1 on
abbrev pub section : ℕ → ℕ → Described
section length tag = record { cipher = Gost; mode = Feedback; bits = 32; first_page = 1; length = length; sync = zero_sync; tag = tag; offset = 36 }

-- flash of four pages of 16 bytes with fill 255, the first one locked
abbrev pub flash : TargetState
flash = record {
  page_length = 16;
  page_count = 4;
  fill = 255;
  pages = replicate 4 (replicate 16 255);
  locked = true ∷ false ∷ false ∷ false ∷ [];
  ready = replicate 4 false;
  rewritable = false;
}

abbrev pub target_refused : ℕ → ℕ → Answer
target_refused number page = refused (record { number = number; place = page; layer = 4 })

-- ---- a sound download of nine bytes, the blocks in reverse order

abbrev pub nine : List ℕ
nine = 0x01 ∷ 0x02 ∷ 0x03 ∷ 0x04 ∷ 0x05 ∷ 0x06 ∷ 0x07 ∷ 0x08 ∷ 0x11 ∷ []

abbrev pub sound_setting : Setting
sound_setting = record { cipher = gost zeros zero_key; section = section 9 0x04030210; rows = zeros; key = zero_key; room = 16 }

abbrev pub sound_calls : List Call
sound_calls =
    frame 1 (0x14 ∷ [])
    ∷ give 1
    ∷ program 0
    ∷ frame 0 (take 8 nine)
    ∷ give 0
    ∷ give 1
    ∷ give 2
    ∷ program 0
    ∷ erase 0
    ∷ erase 1
    ∷ program 0
    ∷ verify
    ∷ close
    ∷ verify
    ∷ frame 0 (take 8 nine)
    ∷ reopen
    ∷ frame 0 (replicate 8 0)
    ∷ frame 1 (0 ∷ 0 ∷ [])
    ∷ close
    ∷ erase 1
    ∷ verify
    ∷ []

abbrev pub sound_answers : List Answer
sound_answers =
    done
    ∷ refused_with 12 0
    ∷ refused_with 12 0
    ∷ done
    ∷ plain (take 8 nine)
    ∷ plain (0x11 ∷ [])
    ∷ refused_with 10 2
    ∷ target_refused 15 1
    ∷ target_refused 14 0
    ∷ done
    ∷ done
    ∷ not_built
    ∷ done
    ∷ verdict true
    ∷ not_built
    ∷ done
    ∷ refused_with 11 0
    ∷ refused_with 10 1
    ∷ done
    ∷ done
    ∷ verdict false
    ∷ []

pub record SoundTrace : Type 0 where
  pub fit : Fit sound_setting flash
  pub bytes : AllOfBytes sound_calls
  pub answers : answers_of sound_setting (begun flash) sound_calls ≡ sound_answers
  -- at the first verdict, at place 13: every block is unaltered, each image page was last programmed,
  -- and the tag is the image's imitovstavka
  pub sent : Sent sound_setting nine
  pub unaltered : (i : ℕ) → i < blocks_of sound_setting.section → Unaltered sound_setting nine (copies_at sound_setting sound_calls sound_answers 13) i
  pub programmed : (j : ℕ) → j * flash.page_length < sound_setting.section.length → LastProgrammed sound_setting (take 13 sound_calls) (take 13 sound_answers) (sound_setting.section.first_page + j)
  pub tag : sound_setting.section.tag ≡ value_of_image sound_setting.rows sound_setting.key sound_setting.section nine

-- ---- one altered bit in feedback, with a cipher that xors each byte with 90

abbrev pub xors90 : BlockMap
xors90 = record { size = 8; enciphered = map (λ x. bit_xor x 90); deciphered = map (λ x. bit_xor x 90) }

abbrev pub counted : ℕ → List ℕ
counted k = (k + 1) ∷ (k + 2) ∷ (k + 3) ∷ (k + 4) ∷ (k + 5) ∷ (k + 6) ∷ (k + 7) ∷ (k + 8) ∷ []

abbrev pub thirty_two : List ℕ
thirty_two =
    1 ∷ 2 ∷ 3 ∷ 4 ∷ 5 ∷ 6 ∷ 7 ∷ 8 ∷ 9 ∷ 10 ∷ 11 ∷ 12 ∷ 13 ∷ 14 ∷ 15 ∷ 16 ∷ 17 ∷ 18 ∷ 19 ∷ 20 ∷ 21 ∷ 22 ∷ 23 ∷ 24 ∷ 25 ∷ 26 ∷ 27 ∷ 28 ∷ 29 ∷ 30 ∷ 31 ∷ 32 ∷ []

-- a table whose rows leave each number as it is
abbrev pub identity : Rows
identity = replicate 8 (0 ∷ 1 ∷ 2 ∷ 3 ∷ 4 ∷ 5 ∷ 6 ∷ 7 ∷ 8 ∷ 9 ∷ 10 ∷ 11 ∷ 12 ∷ 13 ∷ 14 ∷ 15 ∷ [])

abbrev pub altered_section : Described
altered_section = section 32 (value_of_image identity zero_key (section 32 0) thirty_two)

abbrev pub altered_setting : Setting
altered_setting = record { cipher = xors90; section = altered_section; rows = identity; key = zero_key; room = 16 }

-- a sent block with its first bit changed
abbrev pub flipped : List ℕ → List ℕ
flipped [] = []
flipped (b ∷ bs) = bit_xor b 1 ∷ bs

abbrev pub sent_at : ℕ → List ℕ
sent_at k = sent_block altered_setting thirty_two k

abbrev pub altered_calls : List Call
altered_calls =
    frame 3 (sent_at 3)
    ∷ frame 2 (sent_at 2)
    ∷ frame 1 (flipped (sent_at 1))
    ∷ frame 0 (sent_at 0)
    ∷ frame 1 (sent_at 1)
    ∷ give 0
    ∷ give 1
    ∷ give 2
    ∷ give 3
    ∷ erase 1
    ∷ program 0
    ∷ erase 2
    ∷ program 1
    ∷ close
    ∷ verify
    ∷ []

-- block 1 comes with that bit changed, block 2 with the same bit, and the others as they were sent
abbrev pub altered_answers : List Answer
altered_answers =
    done
    ∷ done
    ∷ done
    ∷ done
    ∷ refused_with 11 1
    ∷ plain (counted 0)
    ∷ plain (flipped (counted 8))
    ∷ plain (flipped (counted 16))
    ∷ plain (counted 24)
    ∷ done
    ∷ done
    ∷ done
    ∷ done
    ∷ done
    ∷ verdict false
    ∷ []

pub record AlteredTrace : Type 0 where
  pub fit : Fit altered_setting flash
  pub bytes : AllOfBytes altered_calls
  pub answers : answers_of altered_setting (begun flash) altered_calls ≡ altered_answers
  -- block 1 alone is altered
  pub sent : Sent altered_setting thirty_two
  pub altered : Altered altered_setting thirty_two (copies_at altered_setting altered_calls altered_answers 5) 1
  pub alone : (j : ℕ) → Altered altered_setting thirty_two (copies_at altered_setting altered_calls altered_answers 5) j → j ≡ 1

abbrev pub ExamplesHold : Type 0
ExamplesHold = SoundTrace × AlteredTrace
