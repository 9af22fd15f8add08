-- What a call leaves behind.
use Rattle.std.proofs.Common.{◌≡◌, ℕ, ◌-◌, ◌*◌, ◌+◌, ◌<◌, ◌≤◌, Bool, List, [], length, get_or, take, drop, set, Ok, Result, sym, ap, ◌∙◌, ap₂, mul-le-mul_left, arith}
use lib.Seq.{take-set-lt}
use borrow.Rule.Slice.PartMut.{put_mid}
use Rattle.refusals.specs.Codes.{Code}
use Rattle.targets.specs.State.{TargetState}
use Rattle.targets.specs.Calls.{after, with_page}
use Rattle.targets.specs.Paged.{laid_out, pages_in}
use Rattle.targets.proofs.Pages.{pages_put, page_at}

after-granted : {X : Type 0} {r : Result Unit Code} (was made : X) → Ok tt ≡ r → made ≡ after r was made
after-granted was made e = ap (λ (r : Result Unit Code). after r was made) e

-- a page that is there lies in memory
within : (n count p : ℕ) (memory : List ℕ) → p < count → length memory ≡ n * count → p * n + n ≤ length memory
within n count p memory l e = grind (arith, mul-le-mul_left n l)

-- what a granted call leaves: bytes written from `start` to `end`, over page p
pub written : (rewritable : Bool) (n count fill p start end : ℕ) (memory ys : List ℕ) (locked ready : List Bool) (mark : Bool) {r : Result Unit Code} →
    start ≡ p * n → end ≡ p * n + n → p < count → length memory ≡ n * count → length ys ≡ n → Ok tt ≡ r →
    laid_out rewritable n count fill (put_mid start (end - start) memory ys) locked (set ready p mark)
    ≡ after r (laid_out rewritable n count fill memory locked ready) (with_page (laid_out rewritable n count fill memory locked ready) p ys mark)
written rewritable n count fill p start end memory ys locked ready mark a b there exact long granted =
    let was = laid_out rewritable n count fill memory locked ready in
    let made : List (List ℕ) → List Bool → TargetState = λ pages marks. record {
      page_length = n;
      page_count = count;
      fill = fill;
      pages = pages;
      locked = take count locked;
      ready = marks;
      rewritable = rewritable;
    } in
    let long_enough : end - start ≡ n = omega arith in
    let pages : pages_in n count (put_mid start (end - start) memory ys) ≡ set (pages_in n count memory) p ys =
    rw (long_enough, a) (pages_put n count memory ys p there (within n count p memory there exact) long) in
    ap₂ made pages (take-set-lt count ready p mark there)
    ∙ after-granted was (with_page was p ys mark) granted

-- page p as it is read out
pub read_out_lem : (n count p start end : ℕ) (memory out : List ℕ) {r : Result Unit Code} → start ≡ p * n → end ≡ p * n + n → p < count → Ok tt ≡ r →
    take (end - start) (drop start memory) ≡ after r out (get_or (pages_in n count memory) p [])
read_out_lem n count p start end memory out a b there granted =
    let long : end - start ≡ n = omega arith in
    rw (long, a) (sym (page_at n count memory p there) ∙ after-granted out _ granted)
