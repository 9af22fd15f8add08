-- Images on the pages of a target.
use Rattle.std.specs.Prelude.{ℕ, ◌+◌, ◌-◌, ◌*◌, ◌/◌, Bool, ◌&&◌, List, ◌++◌, length, replicate, nat_le}

-- an image has 9 to 16,384 bytes
abbrev pub allowed_image : ℕ → Bool
allowed_image n = nat_le 9 n && nat_le n 16384

-- how many pages an image of n bytes takes
abbrev pub pages_for : ℕ → ℕ → ℕ
pages_for page_length n = (n + page_length - 1) / page_length

-- what its pages hold: the image, and fill to the end of the last one
abbrev pub paged : ℕ → ℕ → List ℕ → List ℕ
paged page_length fill image = image ++ replicate (page_length * pages_for page_length (length image) - length image) fill
