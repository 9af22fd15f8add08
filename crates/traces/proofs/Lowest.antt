-- The lowest number that passes a test.
use Rattle.std.proofs.Common.{◌≡◌, ℕ, ◌+◌, ◌<◌, ◌≤◌, Bool, true, false, is_some, Some, None, Option, refl}
use Rattle.std.proofs.lemmas.Bool.{both_ways}
use Rattle.downloads.specs.Marks.{lowest}
use Rattle.downloads.proofs.Lowest.{found, none_found}

-- one that passes is found
found_by : (test : ℕ → Bool) (m j i : ℕ) (o : Option ℕ) → lowest test j m ≡ o → j ≤ i → i < j + m → test i ≡ true → is_some o ≡ true
found_by test m j i None e a b t = absurd (both_ways (test i) (none_found test m j e i a b) t)
found_by test m j i (Some k) e a b t = refl

pub lowest_found : (test : ℕ → Bool) (m j i : ℕ) → j ≤ i → i < j + m → test i ≡ true → is_some (lowest test j m) ≡ true
lowest_found test m j i a b t = found_by test m j i (lowest test j m) refl a b t

-- what was found passes
which_by : (test : ℕ → Bool) (m j : ℕ) (o : Option ℕ) → lowest test j m ≡ o → is_some o ≡ true → (i : ℕ) × (j ≤ i) × (i < j + m) × (test i ≡ true)
which_by test m j None e h = absurd (both_ways false refl h)
which_by test m j (Some k) e h = let f = found test m j k e in (k, f.from, f.to, f.passes)

pub lowest_which : (test : ℕ → Bool) (m j : ℕ) → is_some (lowest test j m) ≡ true → (i : ℕ) × (j ≤ i) × (i < j + m) × (test i ≡ true)
lowest_which test m j h = which_by test m j (lowest test j m) refl h
