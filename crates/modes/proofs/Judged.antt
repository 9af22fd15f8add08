-- What a mode that was accepted keeps.
use Rattle.std.proofs.Common.{◌≡◌, ℕ, zero, suc, ◌<◌, Bool, true, false, cond, ◌⊎◌, ◌++◌, replicate, Some, None, Ok, Err, Option, Result, sym, refl, subst, ⊎_elim, arith}
use Rattle.std.proofs.ByRecursion.{All-append, All-take}
use Rattle.std.proofs.lemmas.Bool.{eqb-true}
use Rattle.refusals.specs.Codes.{Code}
use Rattle.blocks.specs.Bytes.{Bytes, Block, bytes_of}
use Rattle.blocks.specs.Ciphers.{BlockMap, Lawful}
use Rattle.blocks.proofs.Words.{bytes_of_bytes}
use Rattle.modes.specs.declared.mode.Mode.{Mode}
use Rattle.modes.specs.declared.mode.Mode.TheVariants.{Codebook, Counter, Feedback}
use Rattle.modes.specs.declared.mode.Sync.{Sync}
use Rattle.modes.specs.Calls.{sync_bytes, chaining, agrees, whole_in, mode_answer}
use Rattle.modes.specs.Laws.{Sound}
use Rattle.modes.proofs.Texts.{sound}

both : (a b : Bool) (e f : Code) → ◌≡◌ {A = Result (Unit {0}) Code} (cond a (cond b (Ok tt) (Err e)) (Err f)) (Ok tt) → (a ≡ true) × (b ≡ true)
both true true e f h = (refl, refl)
both true false e f h = absurd (let z : ◌≡◌ {A = ℕ} 0 1 = cc in omega arith)
both false b e f h = absurd (let z : ◌≡◌ {A = ℕ} 0 1 = cc in omega arith)

pub judged-agrees : (n : ℕ) (mode : Mode) (sync : Option Sync) (bytes : ℕ) → mode_answer n mode sync bytes ≡ Ok tt → agrees n mode sync ≡ true
judged-agrees n mode sync bytes h = (both (agrees n mode sync) (whole_in mode n bytes) _ _ h).0

pub judged_whole : (n : ℕ) (mode : Mode) (sync : Option Sync) (bytes : ℕ) → mode_answer n mode sync bytes ≡ Ok tt → whole_in mode n bytes ≡ true
judged_whole n mode sync bytes h = (both (agrees n mode sync) (whole_in mode n bytes) _ _ h).1

pub agrees_eight : (n : ℕ) (mode : Mode) (sync : Option Sync) → agrees n mode sync ≡ true → mode ≡ Counter → n ≡ 8
agrees_eight n Codebook sync h e = absurd (let z : ◌≡◌ {A = ℕ} 0 1 = cc in omega arith)
agrees_eight n Counter None h e = absurd (let z : ◌≡◌ {A = ℕ} 0 1 = cc in omega arith)
agrees_eight n Counter (Some s) h e = eqb-true n 8 h
agrees_eight n Feedback sync h e = absurd (let z : ◌≡◌ {A = ℕ} 0 1 = cc in omega arith)

zeros : (n : ℕ) → Bytes (replicate n 0)
zeros zero = tt
zeros (suc n) = (omega arith, zeros n)

sync_of_lem : (s : Sync) → Bytes (bytes_of 8 s.first ++ bytes_of 8 s.second)
sync_of_lem s = All-append (λ x. x < 256) (bytes_of 8 s.first) (bytes_of 8 s.second) (bytes_of_bytes 8 s.first) (bytes_of_bytes 8 s.second)

sync_eight : (sync : Option Sync) → Block 8 (sync_bytes 8 sync)
sync_eight None = (refl, zeros 8)
sync_eight (Some s) = (refl, All-take (λ x. x < 256) 8 (bytes_of 8 s.first ++ bytes_of 8 s.second) (sync_of_lem s))

sync_sixteen : (sync : Option Sync) → Block 16 (sync_bytes 16 sync)
sync_sixteen None = (refl, zeros 16)
sync_sixteen (Some s) = (refl, All-take (λ x. x < 256) 16 (bytes_of 8 s.first ++ bytes_of 8 s.second) (sync_of_lem s))

-- a sync is a block
pub sync_block : (n : ℕ) (sync : Option Sync) → (n ≡ 8) ⊎ (n ≡ 16) → Block n (sync_bytes n sync)
sync_block n sync h =
    ⊎_elim (λ (e : n ≡ 8). subst (λ (m : ℕ). Block m (sync_bytes m sync)) (sym e) (sync_eight sync)) (λ (e : n ≡ 16). subst (λ (m : ℕ). Block m (sync_bytes m sync)) (sym e) (sync_sixteen sync)) h

pub agreed_sound : (c : BlockMap) (mode : Mode) (sync : Option Sync) (bytes : ℕ) → Lawful c → agrees c.size mode sync ≡ true → whole_in mode c.size bytes ≡ true → Sound (chaining c mode sync) bytes
agreed_sound c mode sync bytes law agreed whole = sound (chaining c mode sync) bytes law (sync_block c.size sync law.sized) (agrees_eight c.size mode sync agreed) whole

pub judged_sound : (c : BlockMap) (mode : Mode) (sync : Option Sync) (bytes : ℕ) → Lawful c → mode_answer c.size mode sync bytes ≡ Ok tt → Sound (chaining c mode sync) bytes
judged_sound c mode sync bytes law h = agreed_sound c mode sync bytes law (judged-agrees c.size mode sync bytes h) (judged_whole c.size mode sync bytes h)
