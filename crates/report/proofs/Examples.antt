-- Document 01's example of the shape program, byte for byte, and a refusal of each kind. Assumes nothing.
use mathlib.Core.Path.{◌≡◌, refl}
use mathlib.Core.List.{[], ◌∷◌}
use Rattle.layout.specs.Ranges.{shape_refusal}
use Rattle.layout.specs.Counts.{kept, dissolved, straight_stripes, transfers, all_transfers}
use Rattle.report.specs.Text.{decimal_with, decimal, line, pair, single, refused_text, kept_line, straight_line, moved_line, shape_text}
use Rattle.report.specs.Text.{answer_text}

-- `4 2 1`
read : line 4 2 1 ≡ 52 ∷ 32 ∷ 50 ∷ 32 ∷ 49 ∷ 10 ∷ []
unfolding line decimal decimal_with
read = refl

-- `shape 4 2 1`, `kept 40 dissolved 20`, `straight 24 swapped 16`, `moved 80`
printed : answer_text 4 2 1 ≡
    115 ∷ 104 ∷ 97 ∷ 112 ∷ 101 ∷ 32 ∷ 52 ∷ 32 ∷ 50 ∷ 32 ∷ 49 ∷ 10 ∷
    107 ∷ 101 ∷ 112 ∷ 116 ∷ 32 ∷ 52 ∷ 48 ∷ 32 ∷ 100 ∷ 105 ∷ 115 ∷ 115 ∷ 111 ∷ 108 ∷ 118 ∷ 101 ∷ 100 ∷ 32 ∷ 50 ∷ 48 ∷ 10 ∷
    115 ∷ 116 ∷ 114 ∷ 97 ∷ 105 ∷ 103 ∷ 104 ∷ 116 ∷ 32 ∷ 50 ∷ 52 ∷ 32 ∷ 115 ∷ 119 ∷ 97 ∷ 112 ∷ 112 ∷ 101 ∷ 100 ∷ 32 ∷ 49 ∷ 54 ∷ 10 ∷
    109 ∷ 111 ∷ 118 ∷ 101 ∷ 100 ∷ 32 ∷ 56 ∷ 48 ∷ 10 ∷ []
unfolding answer_text shape_text kept_line straight_line moved_line line pair single decimal decimal_with shape_refusal kept dissolved
    straight_stripes
    all_transfers transfers
printed = refl

-- `999 1 3`: `refused 1`; `4 1 3`: `refused 2`
large : answer_text 999 1 3 ≡ 114 ∷ 101 ∷ 102 ∷ 117 ∷ 115 ∷ 101 ∷ 100 ∷ 32 ∷ 49 ∷ 10 ∷ []
unfolding answer_text refused_text single decimal decimal_with shape_refusal
large = refl

crowded : answer_text 4 1 3 ≡ 114 ∷ 101 ∷ 102 ∷ 117 ∷ 115 ∷ 101 ∷ 100 ∷ 32 ∷ 50 ∷ 10 ∷ []
unfolding answer_text refused_text single decimal decimal_with shape_refusal
crowded = refl
