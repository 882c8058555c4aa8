-- Of a grown store's stripe, whatever is lost: rebuild gives exactly its blocks if the present ones fix the data, else answers 11. Assumes
-- nothing.
use mathlib.Core.Path.{◌≡◌, sym, ◌∙◌}
use mathlib.Core.List.{List}
use mathlib.Core.Logic.{inl, inr}
use Prim.Native.Nat.{ℕ, ◌+◌, ◌-◌, ◌*◌, ◌<◌}
use native.Mathlib.Decide.{dec_lt}
use native.Mathlib.Omega.{arith}
use lib.ListN.{length, get_or}
use borrow.Author.Tests.{lt-ltb, le-ltb, leb-true}
use Rattle.area.specs.Area.{slot}
use Rattle.area.proofs.Slots.{length_slot}
use Rattle.code.specs.Rows.{coefficient}
use Rattle.code.specs.Agreement.{stripe_block, Agrees}
use Rattle.code.proofs.Laws.{parity_row_same}
use Rattle.solver.specs.Claims.{SolverClaims}
use Rattle.solver.proofs.SolverHolds.{solver_holds}
use Rattle.recovery.specs.Rebuild.{is_flag, Encodes}
use Rattle.recovery.proofs.Vectors.{block_ext, vector_bytes, data_of, length_data, data_byte, data_bytes}
use Rattle.recovery.proofs.Passed.{Passed, unrefused, solvable}
use Rattle.recovery.proofs.TrueData.{of_true_holds}
use Rattle.layout.specs.declared.Shape.{Shape}
use Rattle.layout.specs.Ranges.{rows, InRanges}
use Rattle.layout.specs.Counts.{kept}
use Rattle.layout.specs.Closed.{new_data_node}
use Rattle.layout.proofs.ClosedLaws.{block_column}
use Rattle.growth.specs.Cells.{cell, column, multiplier}
use Rattle.growth.specs.ClosedArea.{new_stripe_column, new_stripe_block}
use Rattle.growth.proofs.CellLaws.{length_cell}
use Rattle.growth.proofs.ClosedCells.{closed_cells}
use Rattle.history.specs.Contents.{Trace}
use Rattle.history.specs.Grown.{Grown}
use Rattle.history.specs.Lost.{stripe_node, Gathered, Restored, Losses, Rebuilt}

-- ---- nothing refuses the call

module _ (z : Shape) (ok : InRanges z) (losses stripe : List ℕ) (lost : Losses z losses) (long : length stripe ≡ (z.n + z.s) * z.b) where
  accepted : Passed (z.n + z.s) (z.k + z.s) z.b losses stripe
  unfolding is_flag
  accepted =
      record {
        some_column = omega (arith, ok.some_data);
        columns = omega (arith, ok.some_rows);
        blocks = ok.few_nodes;
        rows = omega (arith, ok.few_rows);
        some_byte = ok.some_bytes;
        small = ok.few_bytes;
        size = long;
        loss_bytes = lost.long;
        flags = λ p h. leb-true (get_or losses p 0) 1 (lost.flags p h);
      }

  claims : SolverClaims (coefficient (multiplier z)) (z.n + z.s) (z.k + z.s) losses
  claims =
      solver_holds (coefficient (multiplier z)) (z.n + z.s) (z.k + z.s) losses
      (solvable (multiplier z) (λ j h. omega arith) (z.n + z.s) (z.k + z.s) z.b losses stripe accepted)

-- ---- the true data: the k + s columns of new stripe w

module _ (z : Shape) (ok : InRanges z) (old area : List ℕ) (t : Trace) (grown : Grown z old area t) (w : ℕ) (l : w < kept z) where
  abbrev dataset : List ℕ
  dataset = data_of (z.k + z.s) z.b (λ i c. get_or (new_stripe_column z old w c) i 0)

  -- they are the old blocks that begin accepted
  column_there : (c : ℕ) → c < z.k + z.s → cell z area (new_data_node z w c) w ≡ new_stripe_column z old w c
  unfolding new_stripe_block
  column_there c h =
      let e : rows z + c - rows z ≡ c = omega arith in
      rw (grown.area_is, ← block_column z ok w c)
      ((closed_cells z ok old).stripe w (rows z + c) l (omega (arith, ok.some_rows)) ∙ rw (le-ltb (rows z + c) (rows z) (omega arith), e))

  slot_there : (c : ℕ) → c < z.k + z.s → slot dataset z.b c ≡ cell z area (new_data_node z w c) w
  slot_there c h =
      block_ext z.b _ _ (length_slot dataset z.b c) (length_cell z area _ w)
      (λ i m. data_byte (z.k + z.s) z.b (λ i c. get_or (new_stripe_column z old w c) i 0) c i h m ∙ rw (column_there c h))

  -- block p of the stripe, its columns and then its rows, is the one that they encode
  encoded_there : (p : ℕ) → p < z.n + z.s → cell z area (stripe_node z w p) w ≡ stripe_block (multiplier z) z.b (z.k + z.s) dataset p
  unfolding stripe_node stripe_block
  encoded_there p h = go (dec_lt p (z.k + z.s))
    where
      go : Dec (p < z.k + z.s) → cell z area (stripe_node z w p) w ≡ stripe_block (multiplier z) z.b (z.k + z.s) dataset p
      go (yes m) = rw (lt-ltb p (z.k + z.s) m) (sym (slot_there p m))
      go (no m) =
          rw (le-ltb p (z.k + z.s) (omega arith))
          (grown.parity w (p - (z.k + z.s)) l (omega (arith, ok.some_rows))
          ∙ parity_row_same (multiplier z) z.b (z.k + z.s) (p - (z.k + z.s)) _ (slot dataset z.b) (λ c m. sym (slot_there c m)))

  module _ (bytes : (i : ℕ) → get_or old i 0 < 256) where
    column_bytes : (c i : ℕ) → get_or (new_stripe_column z old w c) i 0 < 256
    unfolding new_stripe_column column cell
    column_bytes c i = vector_bytes z.b old bytes i _

    module _ (losses stripe : List ℕ) (lost : Losses z losses) (gathered : Gathered z area w losses stripe) where
      agrees : Agrees (multiplier z) (z.n + z.s) (z.k + z.s) z.b losses stripe dataset
      agrees = record {
        size = length_data (z.k + z.s) z.b _;
        bytes = data_bytes (z.k + z.s) z.b _ (λ i m c. column_bytes c i);
        present = λ p h e. gathered.present p h e ∙ encoded_there p h;
      }

      restored : (out : List ℕ) → Encodes (multiplier z) (z.n + z.s) (z.k + z.s) z.b dataset out → Restored z area w out
      restored out e = record { long = e.size; blocks = λ p h. e.blocks p h ∙ sym (encoded_there p h) }

      pub rebuilt : Rebuilt z area w losses stripe
      rebuilt a out r =
          let e = unrefused _ _ _ losses stripe (accepted z ok losses stripe lost gathered.long) in
          let told =
          (of_true_holds (multiplier z) _ _ _ losses stripe e dataset agrees (claims z ok losses stripe lost gathered.long)).answers a
          out r in
          elim told [ inl x ↦ inl (x.0, x.1, restored out x.2) | inr x ↦ inr x ]
