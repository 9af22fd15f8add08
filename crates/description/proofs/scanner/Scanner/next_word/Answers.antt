use Rattle.std.proofs.Common.{◌≡◌, ◌-◌, length, take, drop, Some, sym, ap, ◌∙◌, subst, arith, tests, ltb-false, leb-false}
use Rattle.std.proofs.lemmas.List.{take_rest}
use Rattle.description.specs.Words.{Token}
use Rattle.description.specs.Scan.{blank_len, word_len, rest_of, line_at, Next}
use Rattle.description.proofs.Ahead.{line_end, word_next, drop_none}
use Rattle.description.proofs.Steps.{blank_prefix, word_prefix}
use Rattle.description.proofs.scanner.Scanner.next_word.Goals as goal
use Rattle.description.proofs.scanner.Scanner.next_word.Goals.{in_default, in-len1-up}

pub returns-then-len-eq0 : goal.returns-then-len-eq0
returns-then-len-eq0 c =
    let xs = c.args.self.now.rest.now in
    let r = take_rest xs c.blanks-skip.result in
    let from = take (length xs - c.blanks-skip.result) (drop c.blanks-skip.result xs) in
    let s : c.blanks-skip.result ≡ blank_len xs = c.blanks-skip.ensures.value ∙ blank_prefix xs in
    let w : c.word_len-len.result ≡ word_len from = c.word_len-len.ensures.value ∙ word_prefix from in
    let none : word_len (drop (blank_len xs) xs) ≡ 0 = cc c.if-len-eq0.true in
    let ends = line_end xs none in
    elim c.if-from-lt1.branch [
      | in_default v ↦
          let e = ap rest_of v.self-is in
          let empty : length from ≡ 0 = omega (arith, tests, ltb-false, leb-false) in
          let d = drop_none from empty in
          (ends.0, cc, λ h. absurd (omega (arith, ap length e)))
      | in-len1-up v ↦
          let e = ap rest_of v.self-is in
          let d = take_rest from 1 in
          (ends.0, cc, λ h. ap line_at v.self-is)
    ]

pub returns : goal.returns
returns c =
    let xs = c.args.self.now.rest.now in
    let r = take_rest xs c.blanks-skip.result in
    let from = take (length xs - c.blanks-skip.result) (drop c.blanks-skip.result xs) in
    let s : c.blanks-skip.result ≡ blank_len xs = c.blanks-skip.ensures.value ∙ blank_prefix xs in
    let w : c.word_len-len.result ≡ word_len from = c.word_len-len.ensures.value ∙ word_prefix from in
    let some : word_len (drop (blank_len xs) xs) ≡ 0 → ⊥ = λ e. c.if-len-eq0.false (cc) in
    let next = word_next xs some in
    let f = c.split_at.ensures.front in
    let g = c.split_at.ensures.back in
    let P : Token → Type 0 = λ t. Next (Some t) xs c.args.self.now.line c.split_at.result.1.now c.args.self.now.line in
    subst P (sym c.class.ensures) (cc, cc, cc)
