-- The keys of a download: 32 bytes of body key, then 32 bytes of tag key.
use Rattle.std.specs.Prelude.{ℕ, cond, List, length, take, drop, Ok, Err, Result, ◌==◌}
use Rattle.refusals.specs.declared.Reason.TheVariants.{WrongBuffer}
use Rattle.refusals.specs.declared.Layer.TheVariants.{File}
use Rattle.refusals.specs.Codes.{Code, refuse}
use Rattle.blocks.specs.Bytes.{words}
use Rattle.kuznyechik.specs.Keys.{round_keys}
use Rattle.keys.specs.declared.SpreadKeys.{SpreadKeys}

-- the body key as each cipher takes it, and the tag key
pub record Spread : Type 0 where
  pub words : List ℕ
  pub rounds : List (List ℕ)
  pub tag : List ℕ

abbrev pub spread_in : SpreadKeys → Spread
spread_in k = record { words = k.words; rounds = k.rounds; tag = k.tag }

abbrev pub spread : List ℕ → Spread
spread keys = record { words = words 8 (take 32 keys); rounds = round_keys (take 32 keys); tag = words 8 (drop 32 keys) }

abbrev pub keys_answer : List ℕ → Result Spread Code
keys_answer keys = cond (length keys == 64) (Ok (spread keys)) (Err (refuse WrongBuffer 0 File))
