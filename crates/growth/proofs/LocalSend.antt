-- Send depends on the header, its node's cells and its word alone. Assumes nothing.
use mathlib.Core.Path.{◌≡◌, refl}
use mathlib.Core.Bool.{false}
use mathlib.Core.List.{List}
use Prim.Native.Nat.{ℕ, ◌+◌, ◌<◌}
use native.Mathlib.Omega.{arith}
use lib.Dec.{eqb}
use lib.ListN.{length}
use Rattle.base.proofs.Choice.{if_both}
use Rattle.answer.specs.Answers.{done}
use Rattle.answer.proofs.Answers.{answered_done, done_both}
use Rattle.layout.specs.declared.Shape.{Shape}
use Rattle.layout.specs.Ranges.{InRanges}
use Rattle.layout.specs.Counts.{kept, transfers}
use Rattle.layout.specs.Transfers.{new_node_of, sender, transfer_kind}
use Rattle.journal.specs.Journal.{header_of, record_at}
use Rattle.growth.specs.Send.{payload_from, payload, send}
use Rattle.growth.specs.Local.{SameCells, SameProgress, SendLocal}
use Rattle.growth.proofs.Allowed.{SendAllowed, send_allowed}
use Rattle.growth.proofs.LocalCells.{row0_same, news_same, deltas_same}

module _ (z : Shape) (w e : ℕ) (space : List ℕ) where
  -- a transfer that is no delta brings the block of a new node
  new_node_lt : InRanges z → e < transfers z → new_node_of z e < z.s
  unfolding transfers
  new_node_lt ok l = omega (arith, ok.some_new, ok.some_rows)

  same_payload : InRanges z → w < kept z → e < transfers z → (a b : List ℕ) → SameCells z (sender z w) a b
      → payload z a w e ≡ payload z b w e
  unfolding payload payload_from
  same_payload ok lw le a b s = if_both ◌≡◌ (eqb (transfer_kind z w e) 1) _ _ _ _ (λ p. deltas_same z ok w lw a b s (e + 1))
      (λ p. if_both ◌≡◌ (eqb (transfer_kind z w e) 3) _ _ _ _ (λ q. row0_same z ok w lw a b s)
      (λ q. news_same z ok w lw a b s (new_node_of z e) (new_node_lt ok le)))

  send_done : (a i : List ℕ) → (send z a i w e space).answer ≡ done
      → SendAllowed z (length a) (length i) (length space) (header_of i) (record_at i w).progress w e
  unfolding send
  send_done a i q = send_allowed z _ _ _ _ _ w e (answered_done _ false q).0

  send_same : (a b i j : List ℕ) → SameCells z (sender z w) a b → SameProgress w i j
      → (send z a i w e space).answer ≡ (send z b j w e space).answer
  unfolding send
  send_same a b i j s t = rw (s.long, t.long, t.header, t.word)

  pub send_local : SendLocal z w e space
  unfolding send
  send_local = record {
    answer = send_same;
    space = λ a b i j s t. done_both ◌≡◌ (send z a i w e space).answer (send z b j w e space).answer _ _ _ _ (send_same a b i j s t)
        (λ q. let m = send_done a i q in rw (t.header, same_payload m.ok m.stripe m.transfer a b s)) refl;
  }
