-- What the calls answer, by cases.
use Rattle.std.proofs.Common.{◌≡◌, ℕ, ◌%◌, ◌<◌, ◌≤◌, Bool, true, false, cond, ◌&&◌, eqb, leb, List, length, Ok, Err, Option, Result, refl, ap, arith}
use Rattle.std.proofs.lemmas.Bool.{and_parts, eqb-true, leb-true}
use Rattle.refusals.specs.declared.Reason.{Reason}
use Rattle.refusals.specs.declared.Reason.TheVariants.{WrongBuffer, BadBlock, Conflict, MissingBlock}
use Rattle.refusals.specs.declared.Layer.{Layer}
use Rattle.refusals.specs.declared.Layer.TheVariants.{Download}
use Rattle.refusals.specs.declared.Refusal.{Refusal}
use Rattle.refusals.specs.Codes.{Code, refuse, code_of}
use Rattle.description.specs.Limits.{allowed_length}
use Rattle.sections.specs.declared.kind.CipherKind.{CipherKind}
use Rattle.sections.specs.declared.kind.CipherKind.TheVariants.{Gost, Kuznyechik}
use Rattle.sections.specs.Images.{block_length, allowed_image}
use Rattle.sections.specs.Entries.{Described}
use Rattle.downloads.specs.Marks.{lowest}
use Rattle.downloads.specs.Copies.{Copies, lacks, refused_at, sized}
use Rattle.downloads.specs.Frames.{block_of, blocks_of, good_store, good_frame, conflicts, frame_judged, frame_answer, close_answer}

-- a refusal as it is known outside
pub told : {X : Type 0} (e : Refusal) (why : Reason) (place : ℕ) (layer : Layer) → e ≡ record { reason = why; place = place; layer = layer } → ◌≡◌ {A = Result X Code} (Err (code_of e)) (Err (refuse why place layer))
told {X} e why place layer h = ap (λ (r : Refusal). Err (code_of r)) h

pub block_some : (k : CipherKind) → 0 < block_length k
block_some Gost = omega arith
block_some Kuznyechik = omega arith

pub block_small : (k : CipherKind) → block_length k ≤ 16
block_small Gost = omega arith
block_small Kuznyechik = omega arith

pub image_small : (L : ℕ) → allowed_image L ≡ true → L ≤ 16384
image_small L h = leb-true L 16384 (and_parts (leb 9 L) (leb L 16384) h).1

pub image_some : (L : ℕ) → allowed_image L ≡ true → 0 < L
image_some L h = omega (arith, leb-true 9 L (and_parts (leb 9 L) (leb L 16384) h).0)

pub page_parts : (P : ℕ) → allowed_length P ≡ true → (16 ≤ P) × ((P ≤ 4096) × (P % 16 ≡ 0))
page_parts P h =
    let p = and_parts (leb 16 P) (leb P 4096 && eqb (P % 16) 0) h in
    let q = and_parts (leb P 4096) (eqb (P % 16) 0) p.1 in
    (leb-true 16 P p.0, (leb-true P 4096 q.0, eqb-true (P % 16) 0 q.1))

pub store_parts : (s : Described) (body marks : ℕ) → good_store s body marks ≡ true → (body ≡ s.length) × (marks ≡ blocks_of s)
store_parts s body marks h =
    let p = and_parts (eqb body s.length) (eqb marks (blocks_of s)) h in
    (eqb-true body s.length p.0, eqb-true marks (blocks_of s) p.1)

-- buffers that are compared first
pub refused_first : (right : Bool) (e : Code) → ◌≡◌ {A = Result Unit Code} (Err e) (sized right (Ok tt)) → (right ≡ false) × (e ≡ refuse WrongBuffer 0 Download)
refused_first true e h = let z : ◌≡◌ {A = ℕ} 0 1 = cc in absurd (omega arith)
refused_first false e h = (refl, cc)

pub passed_first : (right : Bool) → ◌≡◌ {A = Result Unit Code} (Ok tt) (sized right (Ok tt)) → right ≡ true
passed_first true h = refl
passed_first false h = let z : ◌≡◌ {A = ℕ} 0 1 = cc in absurd (omega arith)

-- an answer that is no refusal
pub ok_sized : {X : Type 0} (right : Bool) (rest : Result X Code) (x : X) → sized right rest ≡ Ok x → (right ≡ true) × (rest ≡ Ok x)
ok_sized true rest x e = (refl, e)
ok_sized false rest x e = let z : ◌≡◌ {A = ℕ} 0 1 = cc in absurd (omega arith)

pub ok_cond : {X : Type 0} (right : Bool) (rest : Result X Code) (code : Code) (x : X) → cond right rest (Err code) ≡ Ok x → (right ≡ true) × (rest ≡ Ok x)
ok_cond true rest code x e = (refl, e)
ok_cond false rest code x e = let z : ◌≡◌ {A = ℕ} 0 1 = cc in absurd (omega arith)

module _ (s : Described) (body marks : ℕ) (copies : Copies) (f : ℕ) (frame : List ℕ) where
  pub frame_unsized : false ≡ good_store s body marks → Err (refuse WrongBuffer 0 Download) ≡ frame_answer s body marks copies f frame
  unfolding frame_answer
  frame_unsized h = rw (← h)

  pub frame_bad : true ≡ good_store s body marks → false ≡ good_frame (block_of s) s.length f (length frame) → Err (refuse BadBlock f Download) ≡ frame_answer s body marks copies f frame
  unfolding frame_answer
  frame_bad h k = rw (← h, ← k)

  pub frame_found : (o : Option ℕ) → true ≡ good_store s body marks → true ≡ good_frame (block_of s) s.length f (length frame) →
      o ≡ lowest (conflicts (block_of s) copies f frame) 0 (blocks_of s) → refused_at Conflict o ≡ frame_answer s body marks copies f frame
  unfolding frame_answer
  frame_found o h k e = rw (← h, ← k) (ap (refused_at Conflict) e)

  pub frame_granted : frame_answer s body marks copies f frame ≡ Ok tt → (good_store s body marks ≡ true) × (good_frame (block_of s) s.length f (length frame) ≡ true)
  unfolding frame_answer
  frame_granted e =
      let a = ok_sized (good_store s body marks) (frame_judged s copies f frame) tt e in
      (a.0, (ok_cond (good_frame (block_of s) s.length f (length frame)) _ _ tt a.1).0)

  pub close_unsized : false ≡ good_store s body marks → Err (refuse WrongBuffer 0 Download) ≡ close_answer s body marks copies
  unfolding close_answer
  close_unsized h = rw (← h)

  pub close_found : (o : Option ℕ) → true ≡ good_store s body marks → o ≡ lowest (lacks copies) 0 (blocks_of s) → refused_at MissingBlock o ≡ close_answer s body marks copies
  unfolding close_answer
  close_found o h e = rw (← h) (ap (refused_at MissingBlock) e)
