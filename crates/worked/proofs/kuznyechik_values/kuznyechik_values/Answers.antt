use Rattle.std.proofs.Common.{◌≡◌, ℕ, List, Ok, refl, ap, ◌∙◌}
use Rattle.kuznyechik.specs.Pi.{pi, pi⁻¹}
use Rattle.kuznyechik.specs.Field.{product}
use Rattle.kuznyechik.specs.Steps.{X, S, S⁻¹, factors, ℓ, R, R⁻¹, L, L⁻¹, LSX, XS⁻¹L⁻¹}
use Rattle.kuznyechik.specs.Keys.{C, F, round_keys}
use Rattle.kuznyechik.specs.Cipher.{enciphered, deciphered}
use Rattle.worked.specs.Kuznyechik.{KuznyechikValues, Substitutions, Shifts, Mixes, Constants, key, plain, cipher, example_keys}
use Rattle.worked.proofs.kuznyechik_values.kuznyechik_values.Goals as goal

substitutions : Substitutions
unfolding pi S
substitutions = (refl, refl, refl, refl)

shifts : Shifts
unfolding product factors ℓ R
shifts = (refl, refl, refl, refl)

mixes : Mixes
unfolding product factors ℓ R L
mixes = (refl, refl, refl, refl)

constants : Constants
unfolding product factors ℓ R L C
constants = refl

keys : round_keys key ≡ example_keys
unfolding pi product X S factors ℓ R L LSX C F round_keys
keys = refl

there : enciphered example_keys plain ≡ cipher
unfolding pi product X S factors ℓ R L LSX
there = refl

back : deciphered example_keys cipher ≡ plain
unfolding pi⁻¹ product X S⁻¹ factors ℓ R⁻¹ L⁻¹ XS⁻¹L⁻¹
back = refl

worked : KuznyechikValues
worked = (substitutions, shifts, mixes, constants, keys, ap (λ (ks : List (List ℕ)). enciphered ks plain) keys ∙ there, ap (λ (ks : List (List ℕ)). deciphered ks cipher) keys ∙ back)

pub returns : goal.returns
returns c =
    let spread : c.new.result.keys.now ≡ example_keys = c.new.ensures ∙ (c.spread_key.ensures.keys ∙ keys) in
    let with : List (List ℕ) → List ℕ = λ ks. enciphered ks plain in
    let made : c.encipher.new.block ≡ with c.new.result.keys.now = c.encipher.ensures.block in
    record { values = worked; block = ap (λ (b : List ℕ). Ok b) (made ∙ (ap with spread ∙ there)) }
