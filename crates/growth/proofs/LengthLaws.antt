-- What the growth's own steps write is as long as what was there. Assumes nothing.
use mathlib.Core.Path.{◌≡◌, refl, ◌∙◌}
use mathlib.Core.List.{List}
use Prim.Native.Nat.{ℕ}
use lib.ListN.{length}
use Rattle.base.proofs.Choice.{if_cases}
use Rattle.layout.specs.declared.Shape.{Shape}
use Rattle.layout.specs.Sources.{source_node}
use Rattle.layout.specs.Closed.{swapped}
use Rattle.wire.specs.Headers.{message_header, message}
use Rattle.wire.proofs.ByteLaws.{length_after}
use Rattle.journal.proofs.PutLaws.{put_length}
use Rattle.growth.specs.Compute.{computed_area, computed_journal}
use Rattle.growth.specs.Send.{message_length, payload}
use Rattle.growth.specs.Deliver.{delivered_area}
use Rattle.growth.specs.Receipt.{receipted_journal}
use Rattle.growth.specs.Release.{moved_area, zero_sources, released_area, released_journal}
use Rattle.growth.proofs.CellLaws.{length_put_cell}
use Rattle.growth.proofs.BlockLaws.{length_payload}
use Rattle.growth.proofs.RunLaws.{length_puts}

module _ (z : Shape) where
  pub length_computed : (area : List ℕ) (w : ℕ) → length (computed_area z area w) ≡ length area
  unfolding computed_area
  length_computed area w = length_put_cell z area _ _ _

  pub length_delivered : (area : List ℕ) (node w e : ℕ) (bytes : List ℕ) → length (delivered_area z area node w e bytes) ≡ length area
  unfolding delivered_area
  length_delivered area node w e bytes = length_put_cell z area _ _ _

  pub length_moved : (area : List ℕ) (w : ℕ) → length (moved_area z area w) ≡ length area
  unfolding moved_area
  length_moved area w =
      if_cases (λ (x : List ℕ). length x ≡ length area) (swapped z w) _ _ (λ p. length_put_cell z area (source_node z w) w _) (λ p. refl)

  pub length_released : (area : List ℕ) (w : ℕ) → length (released_area z area w) ≡ length area
  unfolding released_area zero_sources
  length_released area w = length_puts z _ _ _ _ _ (moved_area z area w) ∙ length_moved area w

  pub length_message : (area : List ℕ) (w e number : ℕ) → length (message z w e number (payload z area w e)) ≡ message_length z
  unfolding message
  length_message area w e number = length_after (message_header z w e number) (payload z area w e) ∙ rw (length_payload z area w e)

-- ---- journals

pub length_computed_journal : (journal : List ℕ) (w : ℕ) → length (computed_journal journal w) ≡ length journal
unfolding computed_journal
length_computed_journal journal w = put_length journal _ _

pub length_released_journal : (journal : List ℕ) (w : ℕ) → length (released_journal journal w) ≡ length journal
unfolding released_journal
length_released_journal journal w = put_length journal _ _

pub length_receipted_journal : (journal : List ℕ) (w e : ℕ) → length (receipted_journal journal w e) ≡ length journal
unfolding receipted_journal
length_receipted_journal journal w e = put_length journal _ _
