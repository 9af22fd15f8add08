use Rattle.std.proofs.Common.{◌≡◌, ℕ, zero, suc, ◌-◌, ◌≤◌, List, map, length, Some, None, Ok, Err, Option, Result, Bor, sym, refl, ap, ◌∙◌, arith}
use Rattle.std.specs.List.{slice_get}
use Rattle.std.specs.Option.{SomeIff, ok_or, option_copied, option_map}
use Rattle.std.specs.Slice.{IsItemAt}
use Rattle.std.proofs.lemmas.Bool.{ltb-true, ltb-false}
use Rattle.std.proofs.lemmas.Option.{slice_get-get_or, slice_get_past, slice_get-map}
use Rattle.std.proofs.lemmas.Result.{err_from_is_err_and}
use Rattle.refusals.specs.declared.Reason.TheVariants.{BadField}
use Rattle.refusals.specs.declared.Layer.TheVariants.{File}
use Rattle.refusals.specs.declared.Refusal.{Refusal}
use Rattle.refusals.specs.Codes.{answer}
use Rattle.sections.specs.declared.section.Section.{Section}
use Rattle.sections.specs.Entries.{Described}
use Rattle.sections.specs.Files.{section_at, asked}
use Rattle.sections.specs.Meaning.{meaning_of}
use Rattle.sections.proofs.listing.Listing.section.Goals as goal

got : (xs : List Section) (i : ℕ) (r : Option (Bor Section)) → IsItemAt xs i r → option_copied r ≡ slice_get xs i
got xs i None h = sym (slice_get_past xs i (ltb-false i (length xs) (sym h.0)))
got xs i (Some x) h = sym (slice_get-get_or xs i x.now (ltb-true i (length xs) (sym h.0)) ∙ ap (λ (s : Section). Some s) (sym h.1))

none_under : (n : ℕ) (r : Option ℕ) (e bad : Refusal) → SomeIff r (1 ≤ n) (n - 1) → Err e ≡ ok_or r bad → (n ≡ 0) × (e ≡ bad)
none_under zero None e bad h k = (refl, cc)
none_under (suc n) None e bad h k = absurd (h (omega arith))
none_under n (Some x) e bad h k = absurd cc

over : (n at : ℕ) (r : Option ℕ) (bad : Refusal) → SomeIff r (1 ≤ n) (n - 1) → Ok at ≡ ok_or r bad → n ≡ suc at
over n at None bad h k = absurd cc
over n at (Some x) bad h k = let e : at ≡ x = cc in omega (arith, h.0, h.1)

told : (o : Option Section) (n : ℕ) → answer meaning_of (ok_or o (record { reason = BadField; place = n; layer = File })) ≡ asked n (option_map meaning_of o)
told None n = refl
told (Some s) n = refl

pub returns-in_err-at : goal.returns-in_err-at
returns-in_err-at c =
    let z = none_under c.args.number c.checked_sub.result c.in_err-at.field-0.0 c.new-bad.result c.checked_sub.ensures c.in_err-at.ensures.value in
    let r = err_from_is_err_and c.from_residual.result c.from_residual.ensures.1 in
    rw (r.1, r.2, z.1, c.new-bad.ensures, z.0) refl

pub returns : goal.returns
returns c =
    let ss = map meaning_of c.sections.result.now in
    let n : c.args.number ≡ suc c.in_ok-at.at = over c.args.number c.in_ok-at.at c.checked_sub.result c.new-bad.result c.checked_sub.ensures c.in_ok-at.ensures.value in
    let item = c.copied.ensures ∙ got c.sections.result.now c.in_ok-at.at c.get.result c.get.ensures.lookup in
    let mapped = slice_get-map meaning_of c.sections.result.now c.in_ok-at.at in
    let at : section_at c.args.number ss ≡ option_map meaning_of c.copied.result = ap (λ (k : ℕ). section_at k ss) n ∙ (mapped ∙ ap (λ (o : Option Section). option_map meaning_of o) (sym item)) in
    ap (λ (r : Result Section Refusal). answer meaning_of r) (c.ok_or-2.ensures.value ∙ ap (λ (e : Refusal). ok_or c.copied.result e) c.new-bad.ensures)
    ∙ (told c.copied.result c.args.number
    ∙ (ap (λ (o : Option Described). asked c.args.number o) (sym at) ∙ ap (λ (ds : List Described). asked c.args.number (section_at c.args.number ds)) c.sections.ensures))
