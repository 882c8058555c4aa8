-- FORMAT §13; document 01, "Calls": read g, d hands back the block as a stretch of the caller's cells, wherever it now is. Locate tells
-- where that stretch starts. Assumes nothing.
use Rattle.std.specs.Prelude.{Bool, ◌&&◌, List, [], ◌∷◌, ◌++◌, ℕ, zero, suc, ◌*◌, ltb, leb, length}
use Rattle.base.specs.Refusals.{Refusal, first, or_else}
use Rattle.answer.specs.Located.{Located}
use Rattle.answer.specs.Located.{At, Refused}
use Rattle.area.specs.Area.{block}
use Rattle.layout.specs.declared.Shape.{Shape}
use Rattle.layout.specs.Ranges.{shape_refusal}
use Rattle.layout.specs.Counts.{kept, stripes}
use Rattle.layout.specs.Addresses.{address}
use Rattle.layout.specs.Columns.{new_stripe, standing_node, standing_slot}
use Rattle.records.specs.Records.{is_released}
use Rattle.records.specs.Conditions.{progress_ok}
use Rattle.journal.specs.Journal.{header_of, record_at}
use Rattle.growth.specs.Shared.{damaged_header, damaged_word, out_of_range, store_refusals}

-- ---- the answer; in every state, so never 13

-- a dissolved block in range has a touched word: kind 11 of its w
abbrev pub touches_word : Shape → ℕ → ℕ → Bool
touches_word z g d = leb (kept z) g && (ltb g (stripes z) && ltb d z.k)

abbrev pub read_refusals : Shape → ℕ → List ℕ → ℕ → ℕ → List Refusal
read_refusals z area_bytes journal g d =
    store_refusals z area_bytes (length journal)
    ++ (damaged_header z (header_of journal)
    ∷ damaged_word (touches_word z g d) (progress_ok z (record_at journal (new_stripe z g d)).progress)
    ∷ out_of_range g (stripes z)
    ∷ out_of_range d z.k
    ∷ [])

unfoldable pub read_refusal : Shape → ℕ → List ℕ → ℕ → ℕ → ℕ
read_refusal z area_bytes journal g d = or_else (shape_refusal z) (first (read_refusals z area_bytes journal g d))

-- ---- the place

-- which stripes are released
abbrev pub released_by : List ℕ → ℕ → Bool
released_by journal w = is_released (record_at journal w)

-- a dissolved block is in its new place once its w is released
unfoldable pub offset_of : Shape → List ℕ → ℕ → ℕ → ℕ
offset_of z journal g d = address z (standing_node z (released_by journal) g d) (standing_slot z (released_by journal) g d) * z.b

abbrev pub at_or : ℕ → ℕ → Located
at_or zero offset = At offset
at_or (suc x) offset = Refused (suc x)

unfoldable pub locate : Shape → ℕ → List ℕ → ℕ → ℕ → Located
locate z area_bytes journal g d = at_or (read_refusal z area_bytes journal g d) (offset_of z journal g d)

-- the stretch of the area: B bytes from there on; none where locate refuses
abbrev pub stretch_at : Shape → List ℕ → Located → List ℕ
stretch_at z area (At offset) = block area offset z.b
stretch_at z area (Refused x) = []

unfoldable pub read : Shape → List ℕ → List ℕ → ℕ → ℕ → List ℕ
read z area journal g d = stretch_at z area (locate z (length area) journal g d)
