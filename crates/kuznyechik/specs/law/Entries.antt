-- What holds of Pi' and its inverse at every byte: one test over the tables, computed, and carried to
-- each byte.
use Rattle.std.proofs.Common.{◌≡◌, ℕ, zero, suc, ◌<◌, Bool, true, ◌&&◌, eqb, ltb, List, get_or, refl, inl, inr, arith}
use Rattle.std.proofs.lemmas.Bool.{eqb-true, ltb-true, and_parts, cases_lt}
use Rattle.kuznyechik.specs.Pi.{pi, pi⁻¹}

-- whether a test passes at each number below n
abbrev passes : (ℕ → Bool) → ℕ → Bool
passes test zero = true
passes test (suc n) = test n && passes test n

passed : (test : ℕ → Bool) (n : ℕ) → passes test n ≡ true → (k : ℕ) → k < n → test k ≡ true
passed test zero h k l = absurd (omega arith)
passed test (suc n) h k l =
    let parts = and_parts (test n) (passes test n) h in
    elim (cases_lt k n) [ inl below ↦ passed test n parts.1 k below | inr above ↦ let e : k ≡ n = omega arith in rw e parts.0 ]

-- each table holds bytes, and undoes the other
abbrev test : List ℕ → List ℕ → ℕ → Bool
test xs ys b = ltb (get_or xs b 0) 256 && eqb (get_or ys (get_or xs b 0) 0) b

pub record Entry (xs ys : List ℕ) (b : ℕ) : Type 0 where
  pub byte : get_or xs b 0 < 256
  pub back : get_or ys (get_or xs b 0) 0 ≡ b

entry : (xs ys : List ℕ) (b : ℕ) → test xs ys b ≡ true → Entry xs ys b
entry xs ys b h =
    let x = get_or xs b 0 in
    let parts = and_parts (ltb x 256) (eqb (get_or ys x 0) b) h in
    record { byte = ltb-true x 256 parts.0; back = eqb-true (get_or ys x 0) b parts.1 }

both : ℕ → Bool
both b = test pi pi⁻¹ b && test pi⁻¹ pi b

all_pass : passes both 256 ≡ true
unfolding pi pi⁻¹ both
all_pass = refl

at : (b : ℕ) → b < 256 → (test pi pi⁻¹ b ≡ true) × (test pi⁻¹ pi b ≡ true)
unfolding both
at b h = and_parts (test pi pi⁻¹ b) (test pi⁻¹ pi b) (passed both 256 all_pass b h)

pub replaced : (b : ℕ) → b < 256 → Entry pi pi⁻¹ b
replaced b h = entry pi pi⁻¹ b (at b h).0

pub put_back : (b : ℕ) → b < 256 → Entry pi⁻¹ pi b
put_back b h = entry pi⁻¹ pi b (at b h).1
