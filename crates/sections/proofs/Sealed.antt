-- What a section that may be sealed keeps.
use Rattle.std.proofs.Common.{◌≡◌, ℕ, true, ◌&&◌, eqb, List, ◌++◌, length, take, Some, None, Ok, Option, Result, sym, refl, ap, ◌∙◌, subst, inl, inr, append-nil}
use borrow.Rule.Slice.PartMut.{put_mid}
use Rattle.std.proofs.lemmas.Bool.{and_parts, eqb-true, cases_Bool}
use Rattle.refusals.specs.Codes.{Code}
use Rattle.blocks.specs.Bytes.{Bytes}
use Rattle.blocks.specs.Ciphers.{BlockMap}
use Rattle.blocks.proofs.Spelled.{spelled_all}
use Rattle.modes.specs.declared.mode.Mode.{Mode}
use Rattle.modes.specs.Modes.{enciphered, deciphered}
use Rattle.modes.specs.Calls.{mode_answer, whole_in, text_after}
use Rattle.modes.specs.Laws.{Text, Undo}
use Rattle.sections.specs.declared.kind.CipherKind.{CipherKind}
use Rattle.sections.specs.declared.fields.Fields.{Fields}
use Rattle.sections.specs.Images.{block_length, allowed_image}
use Rattle.sections.specs.Entries.{Described, fields_of, cipher_named, mode_named, good_fields, good_length, named, described, judged_as, judged_fields}
use Rattle.sections.specs.Seals.{untagged, sized, good_buffers, seal_answer, chaining_of, Opens}
use Rattle.sections.proofs.Judged.{kept_from, mode_ok}

-- fields that were accepted name a cipher and a mode, and are good
pub record Accepted (place offset : ℕ) (f : Fields) (s : Described) : Type 0 where
  pub cipher : CipherKind
  pub mode : Mode
  pub named_as : Some cipher ≡ cipher_named f.cipher
  pub same : s ≡ described cipher mode f offset
  pub fields : good_fields cipher mode f ≡ true
  pub length : good_length cipher mode f.length ≡ true

as_good : (place offset : ℕ) (f : Fields) (s : Described) (cipher : CipherKind) (mode : Mode) → Some cipher ≡ cipher_named f.cipher → Ok s ≡ judged_as cipher mode place offset f → Accepted place offset f s
as_good place offset f s cipher mode n h =
    elim (cases_Bool (good_fields cipher mode f)) [
      | inl g ↦ elim (cases_Bool (good_length cipher mode f.length)) [
        | inl l ↦ (let k = rw (g, l) at h in record { cipher = cipher; mode = mode; named_as = n; same = cc; fields = g; length = l })
        | inr l ↦ absurd (let k = rw (g, l) at h in cc)
      ]
      | inr g ↦ absurd (let k = rw g at h in cc)
    ]

by_names : (place offset : ℕ) (f : Fields) (s : Described) (a : Option CipherKind) (b : Option Mode) → a ≡ cipher_named f.cipher →
    Ok s ≡ named place a (λ cipher. named place b (λ mode. judged_as cipher mode place offset f)) → Accepted place offset f s
by_names place offset f s None b e h = absurd cc
by_names place offset f s (Some cipher) None e h = absurd cc
by_names place offset f s (Some cipher) (Some mode) e h = as_good place offset f s cipher mode e h

pub accepted : (place offset : ℕ) (f : Fields) (s : Described) → Ok s ≡ judged_fields place offset f → Accepted place offset f s
unfolding judged_fields
accepted place offset f s h = by_names place offset f s (cipher_named f.cipher) (mode_named f.mode) refl h

-- the buffers are as long as the section, and its mode is accepted
pub record Ready (n : ℕ) (entry : List ℕ) (image body : ℕ) (s : Described) : Type 0 where
  pub entry_long : length entry ≡ 32
  pub body_long : body ≡ image
  pub agreed : mode_answer n s.mode s.sync image ≡ Ok tt

sized_is : (n : ℕ) (cipher : CipherKind) (o : Option CipherKind) → Some cipher ≡ o → sized n o ≡ true → n ≡ block_length cipher
sized_is n cipher o e h = eqb-true n (block_length cipher) (rw (← e) at h)

ready_from : (n : ℕ) (entry : List ℕ) (image body : ℕ) (s : Described) → length entry ≡ 32 → good_buffers n (fields_of entry) image body ≡ true →
    Accepted 0 0 (untagged (fields_of entry)) s → Ready n entry image body s
ready_from n entry image body s l g a =
    let f = fields_of entry in
    let p = and_parts (eqb image f.length) (eqb body f.length && sized n (cipher_named f.cipher)) g in
    let q = and_parts (eqb body f.length) (sized n (cipher_named f.cipher)) p.1 in
    let i : image ≡ f.length = eqb-true image f.length p.0 in
    let b : body ≡ f.length = eqb-true body f.length q.0 in
    let size : n ≡ block_length a.cipher = sized_is n a.cipher (cipher_named f.cipher) a.named_as q.1 in
    let whole = (and_parts (allowed_image f.length) (whole_in a.mode (block_length a.cipher) f.length) a.length).1 in
    let d = described a.cipher a.mode (untagged f) 0 in
    let ok : mode_answer (block_length a.cipher) d.mode d.sync f.length ≡ Ok tt
    = mode_ok (block_length a.cipher) d.mode d.sync f.length (kept_from a.cipher a.mode (untagged f) a.fields).agrees_with whole in
    record { entry_long = l; body_long = b ∙ sym i; agreed = rw (a.same, size, i) ok }

pub ready : (n : ℕ) (entry : List ℕ) (image body : ℕ) (s : Described) → Ok s ≡ seal_answer n entry image body → Ready n entry image body s
unfolding seal_answer
ready n entry image body s h =
    elim (cases_Bool (eqb (length entry) 32)) [
      | inl l ↦ elim (cases_Bool (good_buffers n (fields_of entry) image body)) [
        | inl g ↦ (let k = rw (l, g) at h in ready_from n entry image body s (eqb-true (length entry) 32 l) g (accepted 0 0 (untagged (fields_of entry)) s k))
        | inr g ↦ absurd (let k = rw (l, g) at h in cc)
      ]
      | inr l ↦ absurd (let k = rw l at h in cc)
    ]

-- ---- the tag in its place

pub tag_put : (e t : List ℕ) → length e ≡ 32 → put_mid 28 4 e t ≡ take 28 e ++ t
tag_put e t h = subst (λ (x : List ℕ). put_mid 28 4 x t ≡ take 28 x ++ t) (spelled_all 32 e h) (rw (append-nil t))

-- ---- what sealing leaves

pub made_is : (map : BlockMap) (entry image was : List ℕ) (s : Described) (text made : List ℕ) → Ok s ≡ seal_answer map.size entry (length image) (length was) →
    text ≡ image → made ≡ text_after map s.mode s.sync text → made ≡ enciphered (chaining_of map s) image
made_is map entry image was s text made ok e h =
    let agreed = (ready map.size entry (length image) (length was) s ok).agreed in h ∙ (ap (λ (x : List ℕ). text_after map s.mode s.sync x) e ∙ rw agreed)

pub opened : (map : BlockMap) (s : Described) (image : List ℕ) → Bytes image → Undo (chaining_of map s) (length image) → (body : List ℕ) → body ≡ enciphered (chaining_of map s) image → Opens (chaining_of map s) image body
opened map s image b u body e = record {
  opens = ap (λ (x : List ℕ). deciphered (chaining_of map s) x) e ∙ u.opens image (refl, b);
  seals = u.seals body (subst (λ (x : List ℕ). Text (length image) x) (sym e) (u.body image (refl, b)));
}

pub one_section : (r : Result Described Code) (s t : Described) → Ok s ≡ r → Ok t ≡ r → s ≡ t
one_section r s t h k = cc
