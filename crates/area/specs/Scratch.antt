-- A scratch block as it is made. Assumes nothing.
use Rattle.std.specs.Prelude.{List, ℕ, replicate}

-- a scratch block of s bytes as it is made: shut, so that no goal writes its elements out
unfoldable pub blank : ℕ → List ℕ
blank s = replicate s 0

-- a whole one, and a small one for blocks of at most 256 bytes
abbrev pub blank_scratch : List ℕ
blank_scratch = blank 4096

abbrev pub blank_small : List ℕ
blank_small = blank 256
