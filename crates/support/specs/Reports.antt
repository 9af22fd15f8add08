-- What support is told of an image.
use Rattle.std.specs.Prelude.{ℕ, cond, List, length, drop, Ok, Err, Result, ◌==◌, nat_le}
use Rattle.refusals.specs.declared.Reason.TheVariants.{WrongBuffer, BadLength, BadPages}
use Rattle.refusals.specs.declared.Layer.TheVariants.{File}
use Rattle.refusals.specs.Codes.{Code, refuse, then}
use Rattle.blocks.specs.Bytes.{words}
use Rattle.imitovstavka.specs.Chain.{imitovstavka}
use Rattle.description.specs.Judge.{Described, judged}
use Rattle.description.specs.Meaning.{meaning_of}
use Rattle.support.specs.declared.report.Report.{Report}
use Rattle.support.specs.Images.{allowed_image, pages_for, paged}

pub record Reported : Type 0 where
  pub target : Described
  pub image_length : ℕ
  pub image_pages : ℕ
  -- the imitovstavka of the image at 32 bits
  pub value : ℕ
  -- the wrong reading: what comes out when the fill bytes of the last page are taken in
  pub wrong : ℕ

abbrev pub report_of : Report → Reported
report_of r = record { target = meaning_of r.target; image_length = r.image_length; image_pages = r.image_pages; value = r.value; wrong = r.wrong }

-- the tag key is the second 32 bytes of the keys
abbrev pub tag_key : List ℕ → List ℕ
tag_key keys = words 8 (drop 32 keys)

abbrev pub report : Described → List ℕ → List ℕ → Reported
report d key image = record {
  target = d;
  image_length = length image;
  image_pages = pages_for d.page_length (length image);
  value = imitovstavka d.rows key 32 image;
  wrong = imitovstavka d.rows key 32 (paged d.page_length d.fill image);
}

-- the keys have 64 bytes
abbrev pub key_answer : List ℕ → Result (List ℕ) Code
key_answer keys = cond (length keys == 64) (Ok (tag_key keys)) (Err (refuse WrongBuffer 0 File))

-- the image has an allowed length and fits the target
abbrev pub pages_answer : ℕ → ℕ → ℕ → Result ℕ Code
pages_answer page_length page_count n =
    cond (allowed_image n)
    (cond (nat_le (pages_for page_length n) page_count) (Ok (pages_for page_length n)) (Err (refuse BadPages 0 File)))
    (Err (refuse BadLength 0 File))

-- the description is judged first, then the keys, then the image
abbrev pub support_answer : List ℕ → List ℕ → List ℕ → Result Reported Code
support_answer text keys image =
    then (judged text) (λ d. then (key_answer keys) (λ key. then (pages_answer d.page_length d.page_count (length image)) (λ pages. Ok (report d key image))))
