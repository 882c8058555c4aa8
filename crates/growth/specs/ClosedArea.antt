-- FORMAT §7; document 01, "Layout" and "Runs of calls": the whole area after a close, from the area `begun` that begin accepted; only the
-- cells of old nodes are looked at, which begin leaves as they are. Assumes nothing.
use Rattle.std.specs.Prelude.{List, ℕ, ◌+◌, ◌-◌, ltb}
use Rattle.base.specs.Tests.{if}
use Rattle.base.specs.Folds.{run}
use Rattle.area.specs.Area.{zeros}
use Rattle.code.specs.Rows.{parity_row}
use Rattle.layout.specs.declared.Shape.{Shape}
use Rattle.layout.specs.Ranges.{rows}
use Rattle.layout.specs.Counts.{kept}
use Rattle.layout.specs.Addresses.{area_length}
use Rattle.layout.specs.Closed.{new_node}
use Rattle.layout.specs.Columns.{old_stripe, old_column}
use Rattle.growth.specs.Cells.{put_cell, column, multiplier}

-- column c of new stripe w: the old block that it comes from
unfoldable pub new_stripe_column : Shape → List ℕ → ℕ → ℕ → List ℕ
new_stripe_column z begun w c = column z begun (old_stripe z w c) (old_column z w c)

-- row j of new stripe w: fresh encoding over the k + s columns
unfoldable pub new_stripe_row : Shape → List ℕ → ℕ → ℕ → List ℕ
new_stripe_row z begun w j = parity_row (multiplier z) z.b (z.k + z.s) j (new_stripe_column z begun w)

-- the n + s blocks of new stripe w, its r rows and then its k + s columns
unfoldable pub new_stripe_block : Shape → List ℕ → ℕ → ℕ → List ℕ
new_stripe_block z begun w e = if (ltb e (rows z)) (new_stripe_row z begun w e) (new_stripe_column z begun w (e - rows z))

-- each on its node of the closed layout, in slot w
unfoldable pub put_stripe : Shape → List ℕ → ℕ → List ℕ → List ℕ
put_stripe z begun w area = run (λ e a. put_cell z a (new_node z w e) w (new_stripe_block z begun w e)) 0 (z.n + z.s) area

-- in slots below P the blocks of the new stripes; all other cells zero
unfoldable pub closed_area : Shape → List ℕ → List ℕ
closed_area z begun = run (put_stripe z begun) 0 (kept z) (zeros (area_length z))
