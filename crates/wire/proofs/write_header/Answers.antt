-- `wire::write_header` meets its contract. Assumes nothing.
use mathlib.Core.Path.{◌∙◌}
use native.Mathlib.Nat.{add-zero, add_assoc}
use Rattle.area.specs.Area.{put, writes}
use Rattle.wire.specs.Headers.{header_bytes}
use Rattle.wire.proofs.write_header.Goals as goal

pub returns : goal.returns
unfolding header_bytes put writes
returns c = c.put_word-4.ensures ∙ rw (c.put_word-3.ensures, c.put_word-2.ensures, c.put_word.ensures) (simp (add-zero, add_assoc))
