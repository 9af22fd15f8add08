-- What a frame that is taken leaves.
use Rattle.std.proofs.Common.{◌≡◌, ℕ, ◌+◌, ◌-◌, ◌*◌, ◌≤◌, true, List, ◌++◌, length, take, drop, Ok, Result, sym, ap, ◌∙◌, subst, ap₂, zero-add, arith, length-drop}
use borrow.Rule.Slice.PartMut.{put_mid}
use Rattle.std.proofs.lemmas.List.{append-nil, drop-drop, drop_all, take_all}
use Rattle.std.specs.Int.{div_ceil}
use Rattle.refusals.specs.Codes.{Code, unless}
use Rattle.modes.specs.Modes.{block_count}
use Rattle.sections.specs.Entries.{Described}
use Rattle.modes.proofs.Joined.{count_ceil}
use Rattle.downloads.specs.declared.arrivals.Arrival.{Arrival}
use Rattle.downloads.specs.Marks.{put_at, marked_from}
use Rattle.downloads.specs.Copies.{copies_in}
use Rattle.downloads.specs.Frames.{block_of, blocks_of, good_store, good_frame, frame_answer, with_frame, body_after, marks_after}
use Rattle.downloads.proofs.Framing.{Framed, framed, blocks_within, copies_taken}
use Rattle.downloads.proofs.Answered.{store_parts, block_some, frame_granted}

-- a part from a place to the end, with other bytes at its front
pub put_rest : (a : ℕ) (body frame part : List ℕ) → a + length frame ≤ length body → part ≡ put_at 0 frame (take (length body - a) (drop a body)) →
    put_mid a (length body - a) body part ≡ put_at a frame body
put_rest a body frame part h e =
    let long : length (drop a body) ≤ length body - a = simp length-drop (omega arith) in
    let rest : take (length body - a) (drop a body) ≡ drop a body = take_all (length body - a) (drop a body) long in
    let new : part ≡ frame ++ drop (a + length frame) body =
    e ∙ ap (λ (xs : List ℕ). frame ++ xs) (ap₂ (λ (k : ℕ) (xs : List ℕ). drop k xs) (zero-add (length frame)) rest ∙ drop-drop (length frame) a body) in
    ap (λ (xs : List ℕ). take a body ++ (part ++ xs)) (drop_all (length body - a) (drop a body) long)
    ∙ ap (λ (xs : List ℕ). take a body ++ xs) (append-nil part ∙ new)

module _ (s : Described) (body : List ℕ) (marks : List Arrival) (f : ℕ) (frame : List ℕ) (n : ℕ) (size : n ≡ block_of s)
    (granted : Ok tt ≡ frame_answer s (length body) (length marks) (copies_in (block_of s) body marks) f frame) where
  good : (good_store s (length body) (length marks) ≡ true) × (good_frame (block_of s) s.length f (length frame) ≡ true)
  good = frame_granted s (length body) (length marks) (copies_in (block_of s) body marks) f frame (sym granted)

  store : (length body ≡ s.length) × (length marks ≡ blocks_of s)
  store = store_parts s (length body) (length marks) good.0

  inside : Framed (block_of s) (length body) f (length frame)
  inside = framed (block_of s) (length body) f (length frame) (ap (λ (L : ℕ). good_frame (block_of s) L f (length frame)) store.0 ∙ good.1)

  counted : length marks ≡ block_count (block_of s) (length body)
  counted = store.1 ∙ ap (block_count (block_of s)) (sym store.0)

  pub lies : n * f + length frame ≤ length body
  lies = subst (λ (k : ℕ). k * f + length frame ≤ length body) (sym size) inside.within

  ceil : (m : ℕ) → m ≡ div_ceil (length frame) n → m ≡ block_count (block_of s) (length frame)
  ceil m e = e ∙ count_ceil n (block_of s) (length frame) size (block_some s.cipher)

  pub room : (m : ℕ) → m ≡ div_ceil (length frame) n → f + m ≤ length marks
  room m e = omega (arith, blocks_within (block_of s) (length body) f (length frame) (block_some s.cipher) inside.within inside.some, counted, ceil m e)

  abbrev said : Result Unit Code
  said = frame_answer s (length body) (length marks) (copies_in (block_of s) body marks) f frame

  body_is : (part : List ℕ) → part ≡ put_at 0 frame (take (length body - n * f) (drop (n * f) body)) → put_mid (n * f) (length body - n * f) body part ≡ body_after (block_of s) f frame body
  body_is part e = put_rest (n * f) body frame part lies e ∙ ap (λ (k : ℕ). put_at (k * f) frame body) size

  marks_are : (m : ℕ) → m ≡ div_ceil (length frame) n → (now : List Arrival) → now ≡ marked_from f m marks → now ≡ marks_after (block_of s) f frame marks
  marks_are m e now h = h ∙ ap (λ (k : ℕ). marked_from f k marks) (ceil m e)

  pub taken : (m : ℕ) → m ≡ div_ceil (length frame) n → (part : List ℕ) (now : List Arrival) → part ≡ put_at 0 frame (take (length body - n * f) (drop (n * f) body)) → now ≡ marked_from f m marks →
      copies_in (block_of s) (put_mid (n * f) (length body - n * f) body part) now ≡ unless said (copies_in (block_of s) body marks) (with_frame (block_of s) (copies_in (block_of s) body marks) f frame)
  taken m c part now e h =
      ap₂ (λ (b : List ℕ) (a : List Arrival). copies_in (block_of s) b a) (body_is part e) (marks_are m c now h)
      ∙ (copies_taken (block_of s) f body frame marks (block_some s.cipher) counted inside
      ∙ ap (λ r. unless r (copies_in (block_of s) body marks) (with_frame (block_of s) (copies_in (block_of s) body marks) f frame)) granted)
