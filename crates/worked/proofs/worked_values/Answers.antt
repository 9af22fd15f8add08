use Rattle.std.proofs.Common.{◌≡◌, ℕ, List, Ok, refl, ap, ◌∙◌, ap₂}
use Rattle.gost.specs.Tables.{Rows}
use Rattle.gost.specs.Rounds.{mixed, round, last_round, forward}
use Rattle.gost.specs.Keyed.{rows_in, words_in}
use Rattle.gost.specs.Cipher.{registers, block_of, enciphered, sixteen}
use Rattle.modes.specs.Counters.{third_step, fourth_step}
use Rattle.modes.specs.Modes.{gamma, enciphered as body}
use Rattle.imitovstavka.specs.Chain.{absorbed, imitovstavka, imitovstavka_answer}
use Rattle.worked.specs.Values.{WorkedValues, zeros, zero_key, nine}
use Rattle.worked.proofs.worked_values.Goals as goal

worked : WorkedValues
unfolding mixed round last_round forward registers block_of enciphered sixteen third_step fourth_step gamma body absorbed imitovstavka
worked = ((refl, refl, refl), refl, (refl, refl, refl, refl, refl), refl, (refl, refl, refl, refl), (refl, refl))

pub returns : goal.returns
returns c =
    let rows : rows_in c.new-cipher.result ≡ zeros = c.new-cipher.ensures.table ∙ cc c.in_ok-table.ensures in
    let key : words_in c.new-cipher.result ≡ zero_key = c.new-cipher.ensures.key in
    let bits : c.in_ok-bits.bits.bits ≡ 32 = cc c.in_ok-bits.ensures in
    record {
      values = worked;
      image = c.imitovstavka.ensures
          ∙ (ap₂ (λ (t : Rows) (k : List ℕ). imitovstavka_answer t k c.in_ok-bits.bits.bits nine) rows key
          ∙ (ap (λ (l : ℕ). imitovstavka_answer zeros zero_key l nine) bits ∙ ap (λ (v : ℕ). Ok v) worked.4.2));
    }
