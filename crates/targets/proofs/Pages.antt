-- Pages of one length in memory, in turn.
use Rattle.std.proofs.Common.{◌≡◌, ℕ, zero, suc, ◌+◌, ◌*◌, ◌<◌, ◌≤◌, List, [], length, get_or, take, drop, set, refl, arith, rules}
use borrow.Rule.Slice.PartMut.{put_mid}
use Rattle.std.specs.List.{AllByRecursion}
use Rattle.std.proofs.ByRecursion.{All-take, All-drop}
use Rattle.std.proofs.lemmas.Grind.{common_steps}
use Rattle.std.proofs.lemmas.List.{drop-append-le, drop-take, drop-drop, length-take-le, length-drop}
use Rattle.std.proofs.lemmas.Slice.{take-put_mid_below}
use Rattle.blocks.specs.Bytes.{Bytes, Block}
use Rattle.targets.specs.Paged.{pages_in}

shift : (n b : ℕ) (memory ys : List ℕ) → n + b ≤ length memory → drop n (put_mid (n + b) n memory ys) ≡ put_mid b n (drop n memory) ys
shift n b memory ys h = search (rules, drop-append-le, drop-take, drop-drop, length-take-le)

-- a page written over
pub pages_put : (n count : ℕ) (memory ys : List ℕ) (p : ℕ) → p < count → p * n + n ≤ length memory → length ys ≡ n →
    pages_in n count (put_mid (p * n) n memory ys) ≡ set (pages_in n count memory) p ys
pages_put n zero memory ys p l h e = absurd (omega arith)
pages_put n (suc count) memory ys zero l h e = grind (arith, common_steps)
pages_put n (suc count) memory ys (suc q) l h e = grind (arith, common_steps, shift, take-put_mid_below, pages_put n count (drop n memory) ys q)

-- a page read
pub page_at : (n count : ℕ) (memory : List ℕ) (p : ℕ) → p < count → get_or (pages_in n count memory) p [] ≡ take n (drop (p * n) memory)
page_at n zero memory p l = absurd (omega arith)
page_at n (suc count) memory zero l = grind (arith, common_steps)
page_at n (suc count) memory (suc q) l = grind (arith, common_steps, page_at n count (drop n memory) q (omega arith))
