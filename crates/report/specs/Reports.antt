-- FORMAT §19; document 01, the shape program: what is printed for what is read. Assumes nothing.
use Rattle.std.specs.Prelude.{◌≡◌, List, ℕ, ◌<◌}
use Rattle.report.specs.Text.{line, answer_text, refused_text}

-- the input is the one line `n k s`, three numbers of at most 3 digits
pub record IsLine (input : List ℕ) (n k s : ℕ) : Type 0 where
  pub n_short : n < 1000
  pub k_short : k < 1000
  pub s_short : s < 1000
  pub text : input ≡ line n k s

-- such a line is answered; any other text is refused by number 5
pub data Reports (input : List ℕ) : List ℕ → Type 0 where
  shape : (n k s : ℕ) → IsLine input n k s → Reports input (answer_text n k s)
  other : ((n k s : ℕ) → IsLine input n k s → ⊥) → Reports input (refused_text 5)
