-- A store of shape (4,1,2) with blocks of one byte: T = 0, so that every stripe is swapped. P = 24, G = 72, r = 3, four transfers a
-- stripe: the changes of rows 1 and 2, then the blocks to nodes 4 and 5. Assumes nothing.
use Rattle.std.specs.Prelude.{◌≡◌, Bool, true, List, ◌∷◌, ◌++◌, ℕ, ◌+◌, ◌*◌, ◌%◌, replicate}
use Rattle.base.specs.Tests.{every}
use Rattle.base.specs.Folds.{table}
use Rattle.area.specs.Area.{zeros, same_bytes}
use Rattle.answer.specs.Answers.{Answer, already, done}
use Rattle.layout.specs.declared.Shape.{Shape}
use Rattle.layout.specs.Ranges.{rows}
use Rattle.layout.specs.Counts.{kept, dissolved, stripes, straight_stripes, transfers}
use Rattle.layout.specs.Addresses.{area_length}
use Rattle.layout.specs.Sources.{source_node, source_slot}
use Rattle.layout.specs.Closed.{swap_index, new_node}
use Rattle.journal.specs.Journal.{journal_length}
use Rattle.journal.specs.Status.{status}
use Rattle.journal.specs.StatusAnswer.{State}
use Rattle.growth.specs.Cells.{cell}
use Rattle.growth.specs.ClosedArea.{new_stripe_block, closed_area}
use Rattle.scenarios.specs.Walks.{Walk, computes, sends, delivers, receipts, releases, passes, begun, closed}

abbrev pub wide : Shape
wide = record { n = 4; k = 1; s = 2; b = 1 }

-- 3 g + 1 in slot g of each old node, so that the 72 data blocks are all different and none is zero
unfoldable pub wide_lent : List ℕ
wide_lent = table 336 (λ p. p % 72 * 3 + 1)

pub record WideSizes : Type 0 where
  pub kept_stripes : kept wide ≡ 24
  pub dissolved_stripes : dissolved wide ≡ 48
  pub all_stripes : stripes wide ≡ 72
  pub straight_stripes_law : straight_stripes wide ≡ 0
  pub area_bytes : area_length wide ≡ 336
  pub journal_words : journal_length wide ≡ 52
  pub parity_rows : rows wide ≡ 3
  pub stripe_transfers : transfers wide ≡ 4

-- ---- stripes 0 and 1, whose y are 0 and 1; the change of row 1 comes in twice

-- all calls of w, the first deliver made again before its receipt
unfoldable pub grows_with_repeat : ℕ → Walk → Walk
grows_with_repeat w c =
    let twice = delivers wide w 0 (delivers wide w 0 (sends wide w 0 (computes wide w c))) in
    releases wide w (passes wide w 3 (passes wide w 2 (passes wide w 1 (receipts wide w twice))))

unfoldable pub two_stripes : Walk
two_stripes = grows_with_repeat 1 (grows_with_repeat 0 (begun wide wide_lent))

-- compute, send, deliver, deliver, receipt, three times send, deliver and receipt, release
abbrev pub repeat_answers : List Answer
repeat_answers = done ∷ done ∷ done ∷ already ∷ replicate 11 done

-- each of the six blocks of new stripe w stands where the closed layout has it: rows 0 to 2, then the kept and the two new columns
unfoldable pub stands_closed : (begun_area area : List ℕ) → ℕ → Bool
stands_closed begun_area area w = every 6 (λ e. same_bytes (cell wide area (new_node wide w e) w) (new_stripe_block wide begun_area w e))

-- the dissolved cells that its new blocks came from are zero
unfoldable pub sources_zero : (area : List ℕ) → ℕ → Bool
sources_zero area w = every 2 (λ t. same_bytes (cell wide area (source_node wide w) (source_slot wide w t)) (zeros 1))

pub record TwoSwapped : Type 0 where
  pub turns : (swap_index wide 0 ≡ 0) × (swap_index wide 1 ≡ 1)
  pub answers : two_stripes.answers ≡ done ∷ done ∷ (repeat_answers ++ repeat_answers)
  pub stands : every 2 (stands_closed (begun wide wide_lent).area two_stripes.area) ≡ true
  pub sources : every 2 (sources_zero two_stripes.area) ≡ true
  -- a repeat is not counted
  pub tells : status wide two_stripes.journal ≡ State 1 8

-- ---- all 24 stripes, from encode to close

pub record SwappedGrowth : Type 0 where
  -- encode, begin, 14 calls for each stripe, close: every call answers done
  pub answers : (closed wide wide_lent).answers ≡ replicate 339 done
  -- the area is the closed layout of the one that begin left
  pub layout : (closed wide wide_lent).area ≡ closed_area wide (begun wide wide_lent).area
  pub tells : status wide (closed wide wide_lent).journal ≡ State 2 96
