-- The worked traces.
use Rattle.std.proofs.Common.{◌≡◌, ℕ, zero, suc, ◌+◌, ◌*◌, ◌<◌, List, [], ◌∷◌, map, get_or, take, drop, Some, sym, refl, ap, ◌∙◌, subst, ap₂, inl, arith}
use lib.Bits.{bit_xor, xor_assoc, xor_self, xor_zero_r, xor_lt}
use lib.ListN.{length-map}
use Rattle.blocks.specs.Bytes.{Bytes}
use Rattle.blocks.specs.Ciphers.{Lawful}
use Rattle.gost.specs.Rounds.{mixed, round, last_round, forward}
use Rattle.gost.specs.Cipher.{registers, block_of, enciphered, sixteen}
use Rattle.gost.specs.law.Undoing.{gost_lawful}
use Rattle.imitovstavka.specs.Chain.{absorbed, imitovstavka}
use Rattle.targets.specs.State.{WellFormed}
use Rattle.downloads.specs.Copies.{Copies}
use Rattle.downloads.specs.Frames.{with_frame}
use Rattle.downloads.specs.Pages.{prepared}
use Rattle.downloads.specs.Verdicts.{image_on}
use Rattle.traces.specs.Traces.{Setting, Call, Answer, done, Standing, begun, run, step, answer_to}
use Rattle.traces.specs.Promise.{Asked, Alters, LastProgrammed, Fit, Altered, Unaltered, sent_block, copies_at}
use Rattle.traces.specs.Examples.{zeros, zero_key, flash, nine, sound_setting, sound_calls, sound_answers, SoundTrace, xors90, thirty_two, altered_setting, altered_calls, altered_answers, AlteredTrace, ExamplesHold}
use Rattle.traces.proofs.Told.{stands_at}
use Rattle.traces.proofs.Promised.{lasting}

flash_formed : WellFormed flash
flash_formed = record { sized = refl; counted = omega arith; filled = omega arith; paged = refl; held = search arith; lock_marks = refl; ready_marks = refl }

-- the first numbers, one by one
below_two : (P : ℕ → Type 0) → P 0 → P 1 → (j : ℕ) → j < 2 → P j
below_two P a b zero l = a
below_two P a b (suc zero) l = b
below_two P a b (suc (suc j)) l = absurd (omega arith)

below_four : (P : ℕ → Type 0) → P 0 → P 1 → P 2 → P 3 → (j : ℕ) → j < 4 → P j
below_four P a b c d zero l = a
below_four P a b c d (suc zero) l = b
below_four P a b c d (suc (suc zero)) l = c
below_four P a b c d (suc (suc (suc zero))) l = d
below_four P a b c d (suc (suc (suc (suc j)))) l = absurd (omega arith)

-- ---- last programmed, by what comes after

abbrev pub Untouched : Setting → ℕ → List Call → List Answer → Type 0
Untouched w p [] answers = Unit {0}
Untouched w p (c ∷ calls) [] = Unit {0}
Untouched w p (c ∷ calls) (a ∷ answers) = (a ≡ done → Alters w p c → ⊥) × Untouched w p calls answers

untouched_at : (w : Setting) (p m : ℕ) (calls : List Call) (answers : List Answer) (c : Call) → Untouched w p calls answers → Asked m calls answers c done → Alters w p c → ⊥
untouched_at w p m [] answers c h q a = q
untouched_at w p m (x ∷ calls) [] c h q a = q
untouched_at w p zero (x ∷ calls) (y ∷ answers) c h q a = h.0 q.1 (subst (Alters w p) (sym q.0) a)
untouched_at w p (suc m) (x ∷ calls) (y ∷ answers) c h q a = untouched_at w p m calls answers c h.1 q a

pub untouched_last : (w : Setting) (p k : ℕ) (calls : List Call) (answers : List Answer) → Untouched w p (drop (suc k) calls) (drop (suc k) answers) →
    (m : ℕ) (c : Call) → k < m → Asked m calls answers c done → Alters w p c → ⊥
untouched_last w p k [] answers h m c l q a = q
untouched_last w p k (x ∷ calls) [] h m c l q a = q
untouched_last w p k (x ∷ calls) (y ∷ answers) h zero c l q a = omega arith
untouched_last w p zero (x ∷ calls) (y ∷ answers) h (suc m) c l q a = untouched_at w p m calls answers c h q a
untouched_last w p (suc k) (x ∷ calls) (y ∷ answers) h (suc m) c l q a = untouched_last w p k calls answers h m c (omega arith) q a

-- ---- a sound download

sound_programmed : (j : ℕ) → j * 16 < 9 → LastProgrammed sound_setting (take 13 sound_calls) (take 13 sound_answers) (1 + j)
sound_programmed j l =
    record {
      place = 10;
      page = 0;
      here = omega arith;
      programmed = (refl, refl);
      last = untouched_last sound_setting (1 + j) 10 (take 13 sound_calls) (take 13 sound_answers) (λ e h. h, (λ e h. h, tt));
    }

sound_trace : SoundTrace
unfolding mixed round last_round forward registers block_of enciphered sixteen absorbed imitovstavka with_frame prepared image_on step answer_to
sound_trace =
    record {
      fit = record { lawful = gost_lawful zeros (refl, refl) zero_key; sized = refl; mode = refl; target = flash_formed };
      bytes = search arith;
      answers = refl;
      sent = (refl, search arith);
      unaltered = below_two (λ i. Unaltered sound_setting nine (copies_at sound_setting sound_calls sound_answers 13) i) refl refl;
      programmed = sound_programmed;
      tag = refl;
    }

-- ---- one altered bit in feedback

xor_undo : (x k : ℕ) → bit_xor (bit_xor x k) k ≡ x
xor_undo x k = xor_assoc x k k ∙ (ap (bit_xor x) (xor_self k) ∙ xor_zero_r x)

undone : (k : ℕ) (b : List ℕ) → map (λ x. bit_xor x k) (map (λ x. bit_xor x k) b) ≡ b
undone k [] = refl
undone k (x ∷ xs) = ap₂ (λ (h : ℕ) (t : List ℕ). h ∷ t) (xor_undo x k) (undone k xs)

bytes_stay : (k : ℕ) → k < 256 → (b : List ℕ) → Bytes b → Bytes (map (λ x. bit_xor x k) b)
bytes_stay k h [] a = tt
bytes_stay k h (x ∷ xs) a = (xor_lt 8 x k a.0 h, bytes_stay k h xs a.1)

xors_lawful : Lawful xors90
xors_lawful =
    let h : 90 < 256 = omega arith in
    record {
      sized = inl refl;
      forward = record {
        stays = λ b w. (length-map b _ ∙ w.0, bytes_stay 90 h b w.1);
        apart = λ a b v w e. sym (undone 90 a) ∙ (ap (map (λ x. bit_xor x 90)) e ∙ undone 90 b);
      };
      inverse = record {
        stays = λ b w. (length-map b _ ∙ w.0, bytes_stay 90 h b w.1);
        back = λ b w. undone 90 b;
        forth = λ b w. undone 90 b;
      };
    }

altered_fit : Fit altered_setting flash
altered_fit = record { lawful = xors_lawful; sized = refl; mode = refl; target = flash_formed }

-- an unaltered block is not altered
not_both : (w : Setting) (image : List ℕ) (copies : Copies) (k : ℕ) → Unaltered w image copies k → Altered w image copies k → ⊥
not_both w image copies k u a = a.2 (let r : Some a.0 ≡ Some (sent_block w image k) = sym a.1 ∙ u in cc)

altered_copies : Copies
altered_copies = copies_at altered_setting altered_calls altered_answers 5

altered_trace : AlteredTrace
unfolding mixed round last_round forward registers block_of enciphered sixteen absorbed imitovstavka with_frame prepared image_on step answer_to altered_copies
altered_trace =
    let copies = altered_copies in
    let P : ℕ → Type 0 = λ j. Altered altered_setting thirty_two copies j → j ≡ 1 in
    let there : (run altered_setting (begun flash) (take 5 altered_calls)).copies ≡ copies = ap (λ (s : Standing). s.copies) (stands_at altered_setting flash altered_calls 5) in
    let low : (j : ℕ) → Altered altered_setting thirty_two copies j → j < 4 =
    λ j a. ((lasting altered_setting flash altered_fit (take 5 altered_calls) (search arith)).fits j a.0 (ap (λ (c : Copies). c j) there ∙ a.1)).0 in
    record {
      fit = altered_fit;
      bytes = search arith;
      answers = refl;
      sent = (refl, search arith);
      altered = (_, refl, λ e. absurd (let z : 9 ≡ 8 = ap (λ (b : List ℕ). get_or b 0 0) e in omega arith));
      alone = λ j a.
          below_four P (λ a. absurd (not_both altered_setting thirty_two copies 0 refl a)) (λ a. refl) (λ a. absurd (not_both altered_setting thirty_two copies 2 refl a)) (λ a. absurd (not_both altered_setting thirty_two copies 3 refl a)) j
          (low j a) a;
    }

pub examples_hold : ExamplesHold
examples_hold = (sound_trace, altered_trace)
