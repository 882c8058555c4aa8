-- Once a growth is closed: its cells, and each transfer accepted once. What an old block reads as. Assumes nothing.
use mathlib.Core.Path.{◌≡◌, ap, ◌∙◌}
use mathlib.Core.Bool.{true, false}
use Prim.Native.Nat.{ℕ, ◌<◌}
use Rattle.base.proofs.Choice.{if_cases}
use Rattle.base.proofs.Tests.{clash, off}
use Rattle.protocol.specs.Parts.{Growth, Promises}
use Rattle.protocol.specs.World.{is_closed, World}
use Rattle.protocol.specs.Image.{moved_row0, new_row0, new_target, cells_for}
use Rattle.protocol.specs.Invariant.{Invariant}
use Rattle.protocol.specs.Reading.{OldBlock, kept_column, new_block, Exists, end_of, reads, held}
use Rattle.protocol.specs.Claims.{Closed}

module _ (G : Growth) where
  open G use {Block, zero_block, stripes, transfers, new_blocks, is_delta, ends_in_row0, carrier, start}

  module _ (s : World G) (I : Invariant G s) where
    -- ---- the cells of a released stripe
    released_accepted : (w e : ℕ) → s.journal.released w ≡ true → e < transfers → s.journal.accepted w e ≡ true
    released_accepted w e re le = I.ordered.receipted_accepted w e (I.ordered.released_receipted w re e le)

    row0_released : (w : ℕ) → s.journal.released w ≡ true → s.cells.row0 w ≡ moved_row0 G w
    unfolding cells_for
    row0_released w re = ap (λ c. c.row0 w) I.cells_are ∙ rw re

    target_released : (w e : ℕ) → s.journal.released w ≡ true → e < transfers → s.cells.target w e ≡ new_target G w e
    unfolding cells_for
    target_released w e re le = ap (λ c. c.target w e) I.cells_are ∙ rw (released_accepted w e re le)

    module _ (L : Promises G) where
      -- ---- reading
      at_end : (w t : ℕ) → w < stripes → t < new_blocks → s.journal.released w ≡ true → end_of G s.cells w t ≡ start.source w t
      at_end w t lw lt re = if_cases (λ x. x ≡ start.source w t) (ends_in_row0 w t) _ _
          (λ p. row0_released w re ∙ L.moved w t lw lt p (start.source w) (new_row0 G w))
          (λ p. let b = L.brought w t lw lt p in
          target_released w (carrier t) re b.carrier_lt ∙ rw b.stored (b.block (start.source w) (new_row0 G w)))

      at_source : (w t : ℕ) → w < stripes → s.journal.released w ≡ false → s.cells.source w t ≡ start.source w t
      unfolding cells_for
      at_source w t lw re = ap (λ c. c.source w t) I.cells_are ∙ rw (off (λ cl. clash (I.closed_released cl w lw) re), re)

      pub reads_held : (b : OldBlock) → Exists G b → reads G s b ≡ held G b
      unfolding reads cells_for
      reads_held (kept_column w d) h = ap (λ c. c.column w d) I.cells_are
      reads_held (new_block w t) h = if_cases (λ x. x ≡ start.source w t) (s.journal.released w) _ _
          (λ p. at_end w t h.0 h.1 p) (λ p. at_source w t h.0 p)

      -- ---- closed
      pub when_closed : is_closed s.journal.state ≡ true → Closed G s
      unfolding cells_for
      when_closed cl = record {
        cells_are = record {
          columns = λ w d. ap (λ c. c.column w d) I.cells_are;
          rows0 = λ w l. row0_released w (re w l);
          targets = λ w e l k. target_released w e (re w l) k;
          sources = λ w t. ap (λ c. c.source w t) I.cells_are ∙ rw cl;
          dissolved_rows = λ g j. ap (λ c. c.dissolved_row g j) I.cells_are ∙ rw cl;
          new_blocks_end = λ w t l k. at_end w t l k (re w l);
        };
        once_each = λ w e l k. I.delivered w e ∙ rw (released_accepted w e (re w l) k);
      }
        where
          re : (w : ℕ) → w < stripes → s.journal.released w ≡ true
          re = I.closed_released cl
