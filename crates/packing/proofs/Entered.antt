-- The bytes of an entry.
use Rattle.std.proofs.Common.{◌≡◌, ℕ, List, set, replicate, refl}
use borrow.Rule.Slice.PartMut.{put_mid}
use Rattle.blocks.specs.Bytes.{bytes_of}
use Rattle.modes.specs.declared.mode.Sync.{Sync}
use Rattle.sections.specs.declared.kind.CipherKind.{CipherKind}
use Rattle.sections.specs.Written.{cipher_byte, mode_byte, entry_bytes}
use Rattle.packing.specs.declared.plan.PlannedMode.{PlannedMode}
use Rattle.packing.specs.declared.plan.PlannedMode.TheVariants.{Codebook, Counter, Feedback}
use Rattle.packing.specs.declared.plan.Plan.{Plan}
use Rattle.packing.specs.Plans.{mode_in, sync_words, section_of}

-- an entry from its parts: the first page, the length, and the words of the sync, as bytes
abbrev pub laid : ℕ → ℕ → ℕ → List ℕ → List ℕ → List ℕ → List ℕ → List ℕ
laid c m bits p n f s =
    put_mid 20 8 (put_mid 12 8 (put_mid 8 4 (put_mid 4 2 (set (set (set (replicate 32 0) 0 c) 1 m) 2 bits) p) n) f) s

by_mode : (cipher : CipherKind) (mode : PlannedMode) (bits page n : ℕ) →
    laid (cipher_byte cipher) (mode_byte (mode_in mode)) bits (bytes_of 2 page) (bytes_of 4 n) (bytes_of 8 (sync_words mode).first) (bytes_of 8 (sync_words mode).second)
    ≡ entry_bytes (section_of (record { cipher = cipher; mode = mode; bits = bits; first_page = page }) n 0 0)
by_mode cipher Codebook bits page n = refl
by_mode cipher (Counter s) bits page n = refl
by_mode cipher (Feedback s) bits page n = refl

pub entry_is : (plan : Plan) (n c m : ℕ) (sync : Sync) (ps ns fs ss : List ℕ) → c ≡ cipher_byte plan.cipher → m ≡ mode_byte (mode_in plan.mode) → sync ≡ sync_words plan.mode →
    ps ≡ bytes_of 2 plan.first_page → ns ≡ bytes_of 4 n → fs ≡ bytes_of 8 sync.first → ss ≡ bytes_of 8 sync.second →
    laid c m plan.bits ps ns fs ss ≡ entry_bytes (section_of plan n 0 0)
entry_is plan n c m sync ps ns fs ss a b d e f g h =
    rw (a, b, e, f, g, h, d) (by_mode plan.cipher plan.mode plan.bits plan.first_page n)
