-- What the methods of a lawful cipher do to a block: each gives its image, which the other turns back.
use Rattle.std.proofs.Common.{◌≡◌, ℕ, List, length, ◌∙◌}
use Rattle.std.proofs.lemmas.Bool.{eq-eqb}
use Rattle.blocks.specs.Bytes.{Block}
use Rattle.blocks.specs.Ciphers.{BlockMap, Lawful, replaced}

replaced_is : (n : ℕ) (map : List ℕ → List ℕ) (part : List ℕ) → length part ≡ n → replaced n map part ≡ map part
replaced_is n map part h = rw (eq-eqb (length part) n h)

module _ (c : BlockMap) (law : Lawful c) (part : List ℕ) (b : Block c.size part) where
  pub there : (replaced c.size c.enciphered part ≡ c.enciphered part) × (replaced c.size c.deciphered (c.enciphered part) ≡ part)
  there = (replaced_is c.size c.enciphered part b.0, replaced_is c.size c.deciphered (c.enciphered part) (law.forward.stays part b).0 ∙ law.inverse.back part b)

  pub back : (replaced c.size c.deciphered part ≡ c.deciphered part) × (replaced c.size c.enciphered (c.deciphered part) ≡ part)
  back = (replaced_is c.size c.deciphered part b.0, replaced_is c.size c.enciphered (c.deciphered part) (law.inverse.stays part b).0 ∙ law.inverse.forth part b)
