-- What a packed file holds, in the words of listing and sealing.
use Rattle.std.specs.Prelude.{◌≡◌, ℕ, ◌+◌, List, [], ◌∷◌, map, length, Ok}
use Rattle.modes.specs.Modes.{deciphered}
use Rattle.sections.specs.Files.{bodies_from, listed}
use Rattle.sections.specs.Seals.{chaining_of}
use Rattle.sections.specs.Written.{body_of}
use Rattle.description.specs.Judge.{Described as Target}
use Rattle.packing.specs.Plans.{Work}
use Rattle.keys.specs.Keys.{spread}
use Rattle.packing.specs.Sealing.{Means, sealed_section, map_of}
use Rattle.packing.specs.Packed.{parts, means_of}

-- the body of each section in the file deciphers to its image
abbrev pub Opened : Means → ℕ → List ℕ → List Work → Type 0
Opened m offset file [] = Unit {0}
Opened m offset file (w ∷ ws) =
    (deciphered (chaining_of (map_of m w) (sealed_section m offset w)) (body_of (sealed_section m offset w) file) ≡ w.image)
    × Opened m (offset + length w.image) file ws

-- listing gives back the planned sections in order, each with the imitovstavka of its image as its tag
pub record HoldsFor (page_length page_count : ℕ) (m : Means) (ws : List Work) (file : List ℕ) : Type 0 where
  pub lists : listed page_length page_count file ≡ Ok (map (λ p. p.section) (parts m (bodies_from (length ws)) ws))
  pub opens : Opened m (bodies_from (length ws)) file ws

abbrev pub Holds : Target → List ℕ → List Work → List ℕ → Type 0
Holds target keys ws file = HoldsFor target.page_length target.page_count (means_of target (spread keys)) ws file
