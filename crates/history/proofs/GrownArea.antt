-- A closed growth, over bytes: its area is the closed area, its parity is fresh, each old block is there once, each transfer was accepted
-- once. Assumes nothing.
use mathlib.Core.Path.{◌≡◌, sym, ap₂, ◌∙◌}
use mathlib.Core.Bool.{false, and-false}
use mathlib.Core.List.{List}
use Prim.Native.Nat.{ℕ, ◌<◌}
use native.Mathlib.Decide.{dec_lt}
use native.Mathlib.Omega.{arith}
use lib.Dec.{ltb}
use borrow.Author.Tests.{lt-ltb, le-ltb}
use Rattle.base.specs.Tests.{if}
use Rattle.layout.specs.declared.Shape.{Shape}
use Rattle.layout.specs.Ranges.{rows}
use Rattle.layout.specs.Counts.{kept, stripes, transfers}
use Rattle.layout.specs.Columns.{new_stripe, new_column}
use Rattle.layout.proofs.ColumnLaws.{becomes, comes}
use Rattle.layout.proofs.Evenness.{even_parity, even_data}
use Rattle.protocol.specs.Transfers.{occurrences}
use Rattle.protocol.specs.Invariant.{Invariant}
use Rattle.protocol.specs.Claims as Protocol
use Rattle.growth.specs.Cells.{column}
use Rattle.growth.specs.Begin.{begun_area}
use Rattle.growth.specs.ClosedArea.{new_stripe_column}
use Rattle.growth.proofs.NewStripes.{column_there, rows_fresh}
use Rattle.growth.proofs.ClosedOnly.{closed_only}
use Rattle.history.specs.Contents.{Contents, accepted_of}
use Rattle.history.specs.Grown.{ThereOnce, FreshParity, Grown}
use Rattle.history.proofs.Growths.{cells_of, growth_of, view_of, Fit}
use Rattle.history.proofs.StripeCounts.{n_of_stripe}
use Rattle.history.specs.Begun.{Begun}
use Rattle.history.proofs.GrownCells.{ended, grown_cells}

module _ (z : Shape) (begun : List ℕ) (number : ℕ) (f : Begun z begun number) (area : List ℕ)
    (cells : Protocol.ClosedCells (growth_of z (begun_area z begun)) (cells_of z area)) where
  fresh_parity : (w j : ℕ) → w < kept z → j < rows z → FreshParity z area w j
  fresh_parity w j l m = rows_fresh z f.in_ranges begun area w l (ended z begun number f area cells w l) j m

  -- the column that an old block becomes, and no other
  there_once : (g d : ℕ) → g < stripes z → d < z.k → ThereOnce z begun area g d
  unfolding new_stripe_column
  there_once g d l m =
      let b = becomes z f.in_ranges g d l m in
      let w = new_stripe z g d in
      record {
        stripe = w;
        place = new_column z g d;
        stripe_lt = b.stripe;
        place_lt = b.column;
        is_column = (b.back_stripe, b.back_column);
        only = λ w c lw lc is.
            let back = comes z f.in_ranges w c lw lc in
            (sym back.back_stripe ∙ ap₂ (new_stripe z) is.0 is.1, sym back.back_column ∙ ap₂ (new_column z) is.0 is.1);
        bytes =
            column_there z f.in_ranges begun area w b.stripe (ended z begun number f area cells w b.stripe)
            (new_column z g d) b.column
            ∙ ap₂ (column z begun) b.back_stripe b.back_column;
      }

module _ (z : Shape) (start : List ℕ) (c : Contents) (I : Invariant (growth_of z start) (view_of z start c))
    (closed : Protocol.Closed (growth_of z start) (view_of z start c)) where
  -- out of range nothing is marked
  accepted_once : (w e : ℕ) → w < kept z → occurrences w e (accepted_of c.trace) ≡ if (ltb e (transfers z)) 1 0
  accepted_once w e l = go (dec_lt e (transfers z))
    where
      go : Dec (e < transfers z) → occurrences w e (accepted_of c.trace) ≡ if (ltb e (transfers z)) 1 0
      go (yes m) = rw (lt-ltb e (transfers z) m) (closed.once_each w e l m)
      go (no m) =
          let out : ltb e (transfers z) ≡ false = le-ltb e (transfers z) (omega arith) in
          rw out (rw (out, and-false (ltb w (kept z))) at (I.delivered w e))

pub grown_area : (z : Shape) (begun : List ℕ) (number : ℕ) → Begun z begun number
    → (c : Contents) → Fit z number c → Invariant (growth_of z (begun_area z begun)) (view_of z (begun_area z begun) c)
    → Protocol.Closed (growth_of z (begun_area z begun)) (view_of z (begun_area z begun) c) → Grown z begun c.area c.trace
unfolding transfers
grown_area z begun number f c fit I closed =
    let cells = closed.cells_are in
    record {
      area_is = closed_only z f.in_ranges begun c.area (grown_cells z begun number f c.area cells fit.area_long);
      parity = fresh_parity z begun number f c.area cells;
      there_once = there_once z begun number f c.area cells;
      even_data = even_data z f.in_ranges;
      even_parity = even_parity z f.in_ranges;
      accepted_blocks = λ w l.
          n_of_stripe (transfers z) w (accepted_of c.trace) (λ e. accepted_once z (begun_area z begun) c I closed w e l);
      accepted_once = accepted_once z (begun_area z begun) c I closed;
    }
