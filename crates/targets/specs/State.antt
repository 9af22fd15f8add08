-- What a target means: its pages, and what may be done with each.
use Rattle.std.specs.Prelude.{◌≡◌, ℕ, ◌<◌, ◌≤◌, Bool, true, false, List, [], length, slice_index_or}
use Rattle.std.specs.List.{AllByRecursion}
use Rattle.blocks.specs.Bytes.{Block}
use Rattle.description.specs.Limits.{allowed_length}

pub record TargetState : Type 0 where
  -- bytes in a page
  pub page_length : ℕ
  pub page_count : ℕ
  -- the byte of an erased place
  pub fill : ℕ
  -- what each page holds
  pub pages : List (List ℕ)
  -- one mark a page: it is never altered
  pub locked : List Bool
  -- one mark a page: it may be programmed
  pub ready : List Bool
  -- whether a page that was programmed may be programmed again
  pub rewritable : Bool

-- what page p holds
abbrev pub page_of : TargetState → ℕ → List ℕ
page_of t p = slice_index_or t.pages p []

abbrev pub is_locked : TargetState → ℕ → Bool
is_locked t p = slice_index_or t.locked p false

abbrev pub is_ready : TargetState → ℕ → Bool
is_ready t p = slice_index_or t.ready p false

-- what every target keeps
pub record WellFormed (t : TargetState) : Type 0 where
  pub sized : allowed_length t.page_length ≡ true
  pub counted : t.page_count ≤ 1024
  pub filled : t.fill < 256
  pub paged : length t.pages ≡ t.page_count
  pub held : AllByRecursion (Block t.page_length) t.pages
  pub lock_marks : length t.locked ≡ t.page_count
  pub ready_marks : length t.ready ≡ t.page_count
