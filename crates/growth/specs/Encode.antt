-- FORMAT §13; document 01, "Calls": encode writes all old parity cells and nothing else. Assumes nothing.
use Rattle.std.specs.Prelude.{false, List, [], ◌∷◌, ℕ, length}
use Rattle.base.specs.Folds.{run}
use Rattle.base.specs.Refusals.{Refusal, first, or_else}
use Rattle.answer.specs.Answers.{Answer, answer_for, on_done}
use Rattle.layout.specs.declared.Shape.{Shape}
use Rattle.layout.specs.Ranges.{rows, shape_refusal}
use Rattle.layout.specs.Counts.{stripes}
use Rattle.layout.specs.Addresses.{area_length}
use Rattle.layout.specs.Nodes.{row_node}
use Rattle.growth.specs.Cells.{put_cell, parity_of}
use Rattle.growth.specs.Shared.{wrong_length}

-- ---- the answer

abbrev pub encode_refusals : Shape → ℕ → List Refusal
encode_refusals z area_bytes = wrong_length area_bytes (area_length z) ∷ []

unfoldable pub encode_refusal : Shape → ℕ → ℕ
encode_refusal z area_bytes = or_else (shape_refusal z) (first (encode_refusals z area_bytes))

-- ---- the area

-- rows 0 to r - 1 of stripe g, as the columns of the lent area give them
unfoldable pub encode_stripe : Shape → List ℕ → ℕ → List ℕ → List ℕ
encode_stripe z lent g area = run (λ j a. put_cell z a (row_node z g j) g (parity_of z lent g j)) 0 (rows z) area

-- all stripes, kept and dissolved
unfoldable pub encoded_area : Shape → List ℕ → List ℕ
encoded_area z area = run (encode_stripe z area) 0 (stripes z) area

pub record EncodeOutcome : Type 0 where
  pub answer : Answer
  pub area : List ℕ

unfoldable pub encode : Shape → List ℕ → EncodeOutcome
encode z area =
    let a = answer_for (encode_refusal z (length area)) false in
    record { answer = a; area = on_done a (encoded_area z area) area }
