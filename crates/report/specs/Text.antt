-- FORMAT §19; document 01, the shape program: the text that it reads and the text that it prints, as lists of bytes. Assumes nothing.
use Rattle.std.specs.Prelude.{List, [], ◌∷◌, ◌++◌, ℕ, zero, suc, ◌+◌, ◌-◌, ◌/◌, ◌%◌, ltb, eqb}
use Rattle.base.specs.Tests.{if}
use Rattle.layout.specs.declared.Shape.{Shape}
use Rattle.layout.specs.Ranges.{shape_refusal}
use Rattle.layout.specs.Counts.{kept, dissolved, straight_stripes, all_transfers}

-- the digits of m, most significant first: those of m / 10, where there are any, and then the last; 48 is the digit 0.
-- The first argument only bounds the recursion: m has at most m + 1 digits
unfoldable pub decimal_with : ℕ → ℕ → List ℕ
decimal_with zero m = []
decimal_with (suc fuel) m = (if (ltb m 10) [] (decimal_with fuel (m / 10))) ++ ((48 + m % 10) ∷ [])

unfoldable pub decimal : ℕ → List ℕ
decimal m = decimal_with (suc m) m

-- the bytes 32 and 10
abbrev pub space : List ℕ
space = 32 ∷ []

abbrev pub newline : List ℕ
newline = 10 ∷ []

-- the words, letter by letter, each with its spaces: `shape `, `kept `, ` dissolved `, `straight `, ` swapped `, `moved `, `refused `
abbrev pub shape_word : List ℕ
shape_word = 115 ∷ 104 ∷ 97 ∷ 112 ∷ 101 ∷ 32 ∷ []

abbrev pub kept_word : List ℕ
kept_word = 107 ∷ 101 ∷ 112 ∷ 116 ∷ 32 ∷ []

abbrev pub dissolved_word : List ℕ
dissolved_word = 32 ∷ 100 ∷ 105 ∷ 115 ∷ 115 ∷ 111 ∷ 108 ∷ 118 ∷ 101 ∷ 100 ∷ 32 ∷ []

abbrev pub straight_word : List ℕ
straight_word = 115 ∷ 116 ∷ 114 ∷ 97 ∷ 105 ∷ 103 ∷ 104 ∷ 116 ∷ 32 ∷ []

abbrev pub swapped_word : List ℕ
swapped_word = 32 ∷ 115 ∷ 119 ∷ 97 ∷ 112 ∷ 112 ∷ 101 ∷ 100 ∷ 32 ∷ []

abbrev pub moved_word : List ℕ
moved_word = 109 ∷ 111 ∷ 118 ∷ 101 ∷ 100 ∷ 32 ∷ []

abbrev pub refused_word : List ℕ
refused_word = 114 ∷ 101 ∷ 102 ∷ 117 ∷ 115 ∷ 101 ∷ 100 ∷ 32 ∷ []

-- `4 2 1` and a newline: what is read, and what follows the word `shape `
unfoldable pub line : ℕ → ℕ → ℕ → List ℕ
line n k s = decimal n ++ space ++ decimal k ++ space ++ decimal s ++ newline

-- `kept 40 dissolved 20`: two words, each with its number
unfoldable pub pair : List ℕ → ℕ → List ℕ → ℕ → List ℕ
pair word a next b = word ++ decimal a ++ next ++ decimal b ++ newline

-- `moved 80`, `refused 5`: one word with its number
unfoldable pub single : List ℕ → ℕ → List ℕ
single word a = word ++ decimal a ++ newline

unfoldable pub refused_text : ℕ → List ℕ
refused_text refusal = single refused_word refusal

-- the numbers of stripes; the kept ones that are not straight are swapped; the transfers of the whole growth
unfoldable pub kept_line : Shape → List ℕ
kept_line z = pair kept_word (kept z) dissolved_word (dissolved z)

unfoldable pub straight_line : Shape → List ℕ
straight_line z = pair straight_word (straight_stripes z) swapped_word (kept z - straight_stripes z)

unfoldable pub moved_line : Shape → List ℕ
moved_line z = single moved_word (all_transfers z)

-- the four lines of a shape
unfoldable pub shape_text : Shape → List ℕ
shape_text z = shape_word ++ line z.n z.k z.s ++ kept_line z ++ straight_line z ++ moved_line z

-- the shape of the three numbers; b counts as 1
abbrev pub shape_of : ℕ → ℕ → ℕ → Shape
shape_of n k s = record { n = n; k = k; s = s; b = 1 }

-- what is printed for the line `n k s`
unfoldable pub answer_text : ℕ → ℕ → ℕ → List ℕ
answer_text n k s =
    let z = shape_of n k s in
    if (eqb (shape_refusal z) 0) (shape_text z) (refused_text (shape_refusal z))
