-- What sealing a planned section comes to.
use Rattle.std.proofs.Common.{◌≡◌, ℕ, ◌<◌, ◌≤◌, Bool, true, false, cond, leb, List, length, take, Ok, Err, vec_items, Result, sym, refl, ap, ◌∙◌, subst, ap₂, inl, inr, arith, length-take}
use Rattle.std.proofs.lemmas.List.{take_all}
use Rattle.std.proofs.lemmas.Bool.{cases_Bool, cases_lt, and_parts, leb-true, lt-leb, and_left, and_right, false≢true}
use Rattle.std.specs.Result.{MatchResult, IsErrAnd, is_ok}
use Rattle.refusals.specs.declared.Reason.TheVariants.{BadField, BadLength}
use Rattle.refusals.specs.declared.Layer.TheVariants.{File}
use Rattle.refusals.specs.declared.Refusal.{Refusal}
use Rattle.refusals.specs.Codes.{Code, refuse, code_of, outcome}
use Rattle.imitovstavka.specs.Chain.{imitovstavka}
use Rattle.modes.specs.declared.mode.Mode.{Mode}
use Rattle.modes.specs.Calls.{whole_in}
use Rattle.modes.specs.Modes.{enciphered}
use Rattle.sections.specs.declared.kind.CipherKind.{CipherKind}
use Rattle.sections.specs.Images.{block_length, allowed_image}
use Rattle.sections.specs.Entries.{Described, good_length}
use Rattle.sections.specs.Seals.{seal_answer, done, after, tagged, chaining_of}
use Rattle.sections.specs.Written.{entry_bytes}
use Rattle.packing.specs.declared.plan.Plan.{Plan}
use Rattle.packing.specs.declared.section.Sealed.{Sealed}
use Rattle.packing.specs.Plans.{Work, mode_in, section_of}
use Rattle.packing.specs.Sealing.{Means, good_plan, fitting, sealed_section, sealed_body, map_of}
use Rattle.packing.specs.Steps.{PlanFits, SealedBy, SealedAs}
use Rattle.packing.proofs.Drafted.{drafted, sealing_is, judged_back, narrow, tag_put}
use Rattle.packing.proofs.Tags.{tag_below}

-- ---- the part of an image that is judged

abbrev part : Work → List ℕ
part w = take 16385 w.image

part_short : (w : Work) → length (part w) < 4294967296
part_short w = simp length-take (omega arith)

-- an image that is too long, and its part
not_long : (c : CipherKind) (m : Mode) (n : ℕ) → 16384 < n → good_length c m n ≡ false
not_long c m n h =
    and_left (allowed_image n) (whole_in m (block_length c) n) (and_right (leb 9 n) (leb n 16384) (lt-leb n 16384 h))

same_judged : (c : CipherKind) (m : Mode) (w : Work) → good_length c m (length (part w)) ≡ good_length c m (length w.image)
same_judged c m w =
    elim (cases_lt 16384 (length w.image)) [
      | inl long ↦ (let h : 16384 < length (part w) = simp length-take (omega arith) in not_long c m (length (part w)) h ∙ sym (not_long c m (length w.image) long))
      | inr short ↦ ap (λ (xs : List ℕ). good_length c m (length xs)) (take_all 16385 w.image (omega arith))
    ]

part_whole : (c : CipherKind) (m : Mode) (w : Work) → good_length c m (length (part w)) ≡ true → part w ≡ w.image
part_whole c m w g =
    let n : ℕ = length (part w) in
    let a = and_parts (allowed_image n) (whole_in m (block_length c) n) g in
    let b = leb-true n 16384 (and_parts (leb 9 n) (leb n 16384) a.0).1 in
    let e : length w.image ≤ 16385 = omega (arith, b, length-take 16385 w.image) in
    take_all 16385 w.image e

-- ---- refused

abbrev placed : ℕ → Result Unit Code → Result Unit Code
placed place (Ok u) = Ok u
placed place (Err e) = Err (record { number = e.number; place = place; layer = e.layer })

by_tests : (place n : ℕ) (s : Described) (a b : Bool) →
    cond a (cond b (Ok tt) (Err (refuse BadLength place File))) (Err (refuse BadField place File))
    ≡ placed place (done (cond a (cond b (Ok s) (Err (refuse BadLength 0 File))) (Err (refuse BadField 0 File))))
by_tests place n s true true = refl
by_tests place n s true false = refl
by_tests place n s false true = refl
by_tests place n s false false = refl

fit_placed : (place : ℕ) (w : Work) → fitting place w ≡ placed place (done (drafted w.plan (length (part w))))
unfolding fitting
fit_placed place w =
    let p = w.plan in
    ap (λ (b : Bool). cond (good_plan p) (cond b (Ok tt) (Err (refuse BadLength place File))) (Err (refuse BadField place File))) (sym (same_judged p.cipher (mode_in p.mode) w))
    ∙ by_tests place 0 (section_of p (length (part w)) 0 0) (good_plan p) (good_length p.cipher (mode_in p.mode) (length (part w)))

-- ---- what went into sealing

pub record Given (w : Work) (image entry body : List ℕ) : Type 0 where
  pub image_is : image ≡ take 16385 w.image
  pub entry_is : entry ≡ entry_bytes (section_of w.plan (length image) 0 0)
  pub body_is : body ≡ image
  pub fits : PlanFits w.plan

answer_is : (w : Work) (image entry body : List ℕ) → Given w image entry body →
    seal_answer (block_length w.plan.cipher) entry (length image) (length body) ≡ drafted w.plan (length (part w))
answer_is w image entry body g =
    let n : ℕ = length image in
    let short : n < 4294967296 = rw g.image_is (part_short w) in
    ap₂ (λ (e b : List ℕ). seal_answer (block_length w.plan.cipher) e n (length b)) g.entry_is g.body_is
    ∙ (sealing_is w.plan n g.fits short ∙ ap (λ (xs : List ℕ). drafted w.plan (length xs)) g.image_is)

pub refused_as : (place : ℕ) (w : Work) (image entry body : List ℕ) (e f : Refusal) → Given w image entry body →
    Err (code_of e) ≡ done (seal_answer (block_length w.plan.cipher) entry (length image) (length body)) →
    f ≡ record { reason = e.reason; place = place; layer = e.layer } → fitting place w ≡ Err (code_of f)
refused_as place w image entry body e f g h k =
    fit_placed place w
    ∙ (ap (λ (r : Result Described Code). placed place (done r)) (sym (answer_is w image entry body g))
    ∙ (ap (λ (r : Result Unit Code). placed place r) (sym h) ∙ ap (λ (x : Refusal). Err (code_of x)) (sym k)))

-- what a refusal was before it got its place
pub placed_from : (r m : Result Unit Refusal) (Q : Refusal → Refusal → Type 0) (place : ℕ) (f : Refusal) → m ≡ Err f → MatchResult r (λ u. m ≡ Ok u) (λ e. IsErrAnd m (Q e)) →
    ((e z : Refusal) → Q e z → z ≡ record { reason = e.reason; place = place; layer = e.layer }) →
    (e : Refusal) × (r ≡ Err e) × (f ≡ record { reason = e.reason; place = place; layer = e.layer })
placed_from (Ok u) m Q place f is h q = absurd (cc (is, h))
placed_from (Err e) m Q place f is h q = (e, refl, q e f (subst (λ (x : Result Unit Refusal). IsErrAnd x (Q e)) is h))

-- ---- sealed

pub unrefused : (r : Result Unit Refusal) → true ≡ is_ok r → r ≡ Ok tt
unrefused (Ok u) h = refl
unrefused (Err e) h = absurd (false≢true (sym h))

record Passed (plan : Plan) (n : ℕ) : Type 0 where
  pub good_plan_lem : good_plan plan ≡ true
  pub fit_length : good_length plan.cipher (mode_in plan.mode) n ≡ true

passed : (plan : Plan) (n : ℕ) → Ok tt ≡ done (drafted plan n) → Passed plan n
passed plan n h =
    elim (cases_Bool (good_plan plan)) [
      | inl g ↦ elim (cases_Bool (good_length plan.cipher (mode_in plan.mode) n)) [
        | inl l ↦ record { good_plan_lem = g; fit_length = l }
        | inr l ↦ absurd (let k = rw (g, l) at h in cc)
      ]
      | inr g ↦ absurd (let k = rw g at h in cc)
    ]

drafted_ok : (plan : Plan) (n : ℕ) → Passed plan n → drafted plan n ≡ Ok (section_of plan n 0 0)
drafted_ok plan n p = rw (p.good_plan_lem, p.fit_length)

pub sealed_as : (m : Means) (place : ℕ) (w : Work) (image entry body : List ℕ) (r : Result Unit Refusal) (entry_new body_new : List ℕ) (s : Sealed) → Given w image entry body → r ≡ Ok tt →
    SealedBy (map_of m w) (block_length w.plan.cipher) m.rows m.keys.tag image entry body r entry_new body_new → length body_new ≡ length body →
    s.entry ≡ entry_new → vec_items s.body ≡ body_new → SealedAs m place w s
unfolding fitting sealed_section sealed_body
sealed_as m place w image entry body r entry_new body_new s g ok_r h l e b =
    let plan = w.plan in
    let made = answer_is w image entry body g in
    let p = passed plan (length (part w)) (sym (ap outcome ok_r) ∙ (h.answer ∙ ap done made)) in
    let whole : part w ≡ w.image = part_whole plan.cipher (mode_in plan.mode) w p.fit_length in
    let same : image ≡ w.image = g.image_is ∙ whole in
    let n : ℕ = length w.image in
    let good : good_length plan.cipher (mode_in plan.mode) n ≡ true = sym (same_judged plan.cipher (mode_in plan.mode) w) ∙ p.fit_length in
    let ok : seal_answer (block_length plan.cipher) entry (length image) (length body) ≡ Ok (section_of plan n 0 0)
    = made ∙ (drafted_ok plan (length (part w)) p ∙ ap (λ (xs : List ℕ). Ok (section_of plan (length xs) 0 0)) whole) in
    let tag : ℕ = imitovstavka m.rows m.keys.tag plan.bits w.image in
    let body-made : body_new ≡ enciphered (chaining_of (map_of m w) (section_of plan n tag 0)) w.image
    = h.body_sealed
    ∙ (ap (λ (r : Result Described Code). after r (λ t. enciphered (chaining_of (map_of m w) t) image) body) ok
    ∙ ap (λ (xs : List ℕ). enciphered (chaining_of (map_of m w) (section_of plan n tag 0)) xs) same) in
    let entry-made : entry_new ≡ entry_bytes (section_of plan n tag 0)
    = h.entry_sealed
    ∙ (ap (λ (r : Result Described Code). after r (λ t. tagged (imitovstavka m.rows m.keys.tag t.bits image) entry) entry) ok
    ∙ (ap₂ (λ (xs y : List ℕ). tagged (imitovstavka m.rows m.keys.tag plan.bits xs) y) same (g.entry_is ∙ ap (λ (xs : List ℕ). entry_bytes (section_of plan (length xs) 0 0)) same)
    ∙ tag_put plan n tag)) in
    let opened = (h.undo (section_of plan n 0 0) (sym ok)).opens in
    record {
      fits = rw (p.good_plan_lem, good);
      entry = e ∙ entry-made;
      body = b ∙ body-made;
      kept = record {
        judged = judged_back plan n tag g.fits (subst (λ (xs : List ℕ). length xs < 4294967296) whole (part_short w)) (tag_below m.rows m.keys.tag w.image plan.bits (narrow plan p.good_plan_lem)) p.good_plan_lem good;
        long = ap length (sym body-made) ∙ (l ∙ (ap length g.body_is ∙ ap length same));
        opens = rw (← body-made) (opened ∙ same);
      };
    }
