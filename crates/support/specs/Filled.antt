-- What an image that is followed by fill is made of.
use Rattle.std.specs.Prelude.{ℕ, List}
use Rattle.support.specs.declared.filled.FilledImage.{FilledImage}

abbrev pub image_in : FilledImage → List ℕ
image_in f = f.image.now

abbrev pub fill_in : FilledImage → ℕ
fill_in f = f.fill
