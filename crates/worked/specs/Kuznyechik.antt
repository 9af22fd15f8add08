-- The examples that come with GOST R 34.12-2015, for blocks of 128 bits.
use Rattle.std.specs.Prelude.{◌≡◌, ℕ, List, [], ◌∷◌, map, reverse}
use Rattle.blocks.specs.Bytes.{bytes_of}
use Rattle.kuznyechik.specs.Steps.{S, R, L}
use Rattle.kuznyechik.specs.Keys.{C, round_keys}
use Rattle.kuznyechik.specs.Cipher.{enciphered, deciphered}

-- sixteen bytes, and a key, as the standard writes them: the highest byte first
abbrev pub block : ℕ → List ℕ
block n = reverse (bytes_of 16 n)

abbrev pub key : List ℕ
key = reverse (bytes_of 32 0x8899aabbccddeeff0011223344556677fedcba98765432100123456789abcdef)

abbrev pub plain : List ℕ
plain = block 0x1122334455667700ffeeddccbbaa9988

abbrev pub cipher : List ℕ
cipher = block 0x7f679d90bebc24305a468d42b9d4edcd

abbrev pub Substitutions : Type 0
Substitutions =
    (S (block 0xffeeddccbbaa99881122334455667700) ≡ block 0xb66cd8887d38e8d77765aeea0c9a7efc)
    × (S (block 0xb66cd8887d38e8d77765aeea0c9a7efc) ≡ block 0x559d8dd7bd06cbfe7e7b262523280d39)
    × (S (block 0x559d8dd7bd06cbfe7e7b262523280d39) ≡ block 0x0c3322fed531e4630d80ef5c5a81c50b)
    × (S (block 0x0c3322fed531e4630d80ef5c5a81c50b) ≡ block 0x23ae65633f842d29c5df529c13f5acda)

abbrev pub Shifts : Type 0
Shifts =
    (R (block 0x00000000000000000000000000000100) ≡ block 0x94000000000000000000000000000001)
    × (R (block 0x94000000000000000000000000000001) ≡ block 0xa5940000000000000000000000000000)
    × (R (block 0xa5940000000000000000000000000000) ≡ block 0x64a59400000000000000000000000000)
    × (R (block 0x64a59400000000000000000000000000) ≡ block 0x0d64a594000000000000000000000000)

abbrev pub Mixes : Type 0
Mixes =
    (L (block 0x64a59400000000000000000000000000) ≡ block 0xd456584dd0e3e84cc3166e4b7fa2890d)
    × (L (block 0xd456584dd0e3e84cc3166e4b7fa2890d) ≡ block 0x79d26221b87b584cd42fbc4ffea5de9a)
    × (L (block 0x79d26221b87b584cd42fbc4ffea5de9a) ≡ block 0x0e93691a0cfc60408b7b68f66b513c13)
    × (L (block 0x0e93691a0cfc60408b7b68f66b513c13) ≡ block 0xe6a8094fee0aa204fd97bcb0b44b8580)

abbrev pub Constants : Type 0
Constants =
    map C (1 ∷ 2 ∷ 3 ∷ 4 ∷ 5 ∷ 6 ∷ 7 ∷ 8 ∷ [])
    ≡ block 0x6ea276726c487ab85d27bd10dd849401
    ∷ block 0xdc87ece4d890f4b3ba4eb92079cbeb02
    ∷ block 0xb2259a96b4d88e0be7690430a44f7f03
    ∷ block 0x7bcd1b0b73e32ba5b79cb140f2551504
    ∷ block 0x156f6d791fab511deabb0c502fd18105
    ∷ block 0xa74af7efab73df160dd208608b9efe06
    ∷ block 0xc9e8819dc73ba5ae50f5b570561a6a07
    ∷ block 0xf6593616e6055689adfba18027aa2a08
    ∷ []

abbrev pub example_keys : List (List ℕ)
example_keys =
    block 0x8899aabbccddeeff0011223344556677
    ∷ block 0xfedcba98765432100123456789abcdef
    ∷ block 0xdb31485315694343228d6aef8cc78c44
    ∷ block 0x3d4553d8e9cfec6815ebadc40a9ffd04
    ∷ block 0x57646468c44a5e28d3e59246f429f1ac
    ∷ block 0xbd079435165c6432b532e82834da581b
    ∷ block 0x51e640757e8745de705727265a0098b1
    ∷ block 0x5a7925017b9fdd3ed72a91a22286f984
    ∷ block 0xbb44e25378c73123a5f32f73cdb6e517
    ∷ block 0x72e9dd7416bcf45b755dbaa88e4a4043
    ∷ []

abbrev pub KuznyechikValues : Type 0
KuznyechikValues =
    Substitutions × Shifts × Mixes × Constants
    × (round_keys key ≡ example_keys)
    × (enciphered (round_keys key) plain ≡ cipher)
    × (deciphered (round_keys key) cipher ≡ plain)
