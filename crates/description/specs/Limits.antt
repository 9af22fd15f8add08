-- What the parts of a description may be.
use Rattle.std.specs.Prelude.{◌≡◌, ℕ, ◌*◌, ◌%◌, ◌<◌, ◌≤◌, Bool, true, false, ◌&&◌, List, length, Some, None, Option, ◌==◌, nat_le, nat_lt, slice_index_or}
use Rattle.std.specs.List.{list_all}
use Rattle.gost.specs.Tables.{narrow_row}

-- a page length: a multiple of 16 from 16 to 4,096
abbrev pub allowed_length : ℕ → Bool
allowed_length n = nat_le 16 n && (nat_le n 4096 && n % 16 == 0)

-- a page count: 1 to 1,024
abbrev pub allowed_count : ℕ → Bool
allowed_count n = nat_le 1 n && nat_le n 1024

-- page length times page count: at most 65,536
abbrev pub fits : ℕ → ℕ → Bool
fits page_length page_count = nat_le (page_length * page_count) 65536

-- the same where the other factor may not be given yet
abbrev pub fits_count : ℕ → Option ℕ → Bool
fits_count page_length None = true
fits_count page_length (Some count) = fits page_length count

abbrev pub fits_length : ℕ → Option ℕ → Bool
fits_length count None = true
fits_length count (Some page_length) = fits page_length count

-- a page of the target, whose page count comes earlier
abbrev pub below : ℕ → Option ℕ → Bool
below page None = false
below page (Some count) = nat_lt page count

-- ---- what every accepted description keeps

abbrev pub AllowedPages : ℕ → ℕ → Type 0
AllowedPages page_length page_count = (16 ≤ page_length) × (page_length ≤ 4096) × (page_length % 16 ≡ 0) × (1 ≤ page_count) × (page_count ≤ 1024)

-- locked has one mark for each page that a target can have, and marks pages of the target alone
abbrev pub OnTarget : List Bool → ℕ → Type 0
OnTarget locked page_count = (length locked ≡ 1024) × ((page : ℕ) → slice_index_or locked page false ≡ true → page < page_count)

-- ---- what the parts given so far keep

abbrev pub sound_length : Option ℕ → Bool
sound_length None = true
sound_length (Some n) = allowed_length n

abbrev pub sound_count : Option ℕ → Option ℕ → Bool
sound_count page_length None = true
sound_count page_length (Some n) = allowed_count n && fits_length n page_length

abbrev pub sound_row : Option (List ℕ) → Bool
sound_row None = true
sound_row (Some row) = narrow_row row

abbrev pub Sound : Option ℕ → Option ℕ → List Bool → List (Option (List ℕ)) → Type 0
Sound page_length page_count locked rows =
    (sound_length page_length ≡ true) × (sound_count page_length page_count ≡ true)
    × ((page : ℕ) → slice_index_or locked page false ≡ true → below page page_count ≡ true)
    × (length rows ≡ 8) × (list_all sound_row rows ≡ true)
