-- Files as they are written: what is written for good sections is listed as those sections.
use Rattle.std.specs.Prelude.{◌≡◌, ℕ, ◌+◌, ◌^◌, ◌<◌, ◌≤◌, true, ◌⊎◌, List, [], ◌∷◌, ◌++◌, map, length, take, drop, replicate, Some, None, Ok, Option}
use Rattle.std.specs.List.{AllByRecursion}
use Rattle.blocks.specs.Bytes.{bytes_of}
use Rattle.modes.specs.declared.mode.Mode.{Mode}
use Rattle.modes.specs.declared.mode.Mode.TheVariants.{Codebook, Counter, Feedback}
use Rattle.modes.specs.declared.mode.Sync.{Sync}
use Rattle.modes.specs.Calls.{agrees, whole_in}
use Rattle.sections.specs.declared.kind.CipherKind.{CipherKind}
use Rattle.sections.specs.declared.kind.CipherKind.TheVariants.{Gost, Kuznyechik}
use Rattle.sections.specs.Images.{block_length}
use Rattle.sections.specs.Entries.{Described}
use Rattle.sections.specs.Files.{pages_end, bodies_from, listed}

-- a section and its body
pub record Part : Type 0 where
  pub section : Described
  pub body : List ℕ

abbrev pub cipher_byte : CipherKind → ℕ
cipher_byte Gost = 1
cipher_byte Kuznyechik = 2

abbrev pub mode_byte : Mode → ℕ
mode_byte Codebook = 1
mode_byte Counter = 2
mode_byte Feedback = 3

abbrev pub sync_field : Option Sync → List ℕ
sync_field None = replicate 16 0
sync_field (Some s) = bytes_of 8 s.first ++ bytes_of 8 s.second

abbrev pub entry_bytes : Described → List ℕ
entry_bytes s =
    cipher_byte s.cipher ∷ mode_byte s.mode ∷ s.bits ∷ 0
    ∷ (bytes_of 2 s.first_page ++ (0 ∷ 0 ∷ (bytes_of 4 s.length ++ (sync_field s.sync ++ bytes_of 4 s.tag))))

abbrev pub entries : List Part → List ℕ
entries [] = []
entries (p ∷ ps) = entry_bytes p.section ++ entries ps

abbrev pub bodies : List Part → List ℕ
bodies [] = []
bodies (p ∷ ps) = p.body ++ bodies ps

-- the header, the entries, the bodies
abbrev pub written : List Part → List ℕ
written ps = 1 ∷ length ps ∷ 0 ∷ 0 ∷ (entries ps ++ bodies ps)

-- a sync of two words; with blocks of eight bytes the second is zero
abbrev pub SyncFits : CipherKind → Option Sync → Type 0
SyncFits cipher None = Unit {0}
SyncFits cipher (Some s) = (s.first < 256 ^ 8) × (s.second < 256 ^ 8) × (cipher ≡ Gost → s.second ≡ 0)

-- the pages of one end before those of the other begin
abbrev pub Apart : ℕ → Described → Described → Type 0
Apart page_length s t = (pages_end page_length s ≤ t.first_page) ⊎ (pages_end page_length t ≤ s.first_page)

-- a good section for a target, whose body lies at an offset, after the earlier sections
pub record Good (page_length page_count offset : ℕ) (earlier : List Described) (p : Part) : Type 0 where
  pub bits : (1 ≤ p.section.bits) × (p.section.bits ≤ 32)
  pub tag : p.section.tag < 2 ^ p.section.bits
  pub page : p.section.first_page < 65536
  pub allowed : (9 ≤ p.section.length) × (p.section.length ≤ 16384)
  pub agreed : agrees (block_length p.section.cipher) p.section.mode p.section.sync ≡ true
  pub whole : whole_in p.section.mode (block_length p.section.cipher) p.section.length ≡ true
  pub sync : SyncFits p.section.cipher p.section.sync
  pub body : length p.body ≡ p.section.length
  pub place : p.section.offset ≡ offset
  pub target : pages_end page_length p.section ≤ page_count
  pub apart : AllByRecursion (λ t. Apart page_length p.section t) earlier

-- the bodies lie one after the other from an offset on
abbrev pub Laid : ℕ → ℕ → ℕ → List Described → List Part → Type 0
Laid page_length page_count offset earlier [] = Unit {0}
Laid page_length page_count offset earlier (p ∷ ps) =
    Good page_length page_count offset earlier p × Laid page_length page_count (offset + p.section.length) (earlier ++ p.section ∷ []) ps

-- the body of a section in its file
abbrev pub body_of : Described → List ℕ → List ℕ
body_of s file = take s.length (drop s.offset file)

-- listing what was written for 1 to 8 good sections gives them back, with their bodies one after the
-- other from the table to the file's end, each where its section says
abbrev pub ListsWritten : Type 0
ListsWritten =
    (page_length page_count : ℕ) (ps : List Part) → 0 < page_length → 1 ≤ length ps → length ps ≤ 8 → length (written ps) ≤ 65536 →
    Laid page_length page_count (bodies_from (length ps)) [] ps →
    (listed page_length page_count (written ps) ≡ Ok (map (λ p. p.section) ps)) × AllByRecursion (λ p. body_of p.section (written ps) ≡ p.body) ps
