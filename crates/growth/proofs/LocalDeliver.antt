-- Deliver depends on the header, its node's cells, its word and the message alone, and changes nothing else. Assumes nothing.
use mathlib.Core.Path.{◌≡◌, ap}
use mathlib.Core.List.{List}
use Prim.Native.Nat.{ℕ, ◌+◌, ◌*◌, ◌<◌}
use native.Mathlib.Omega.{arith}
use lib.ListN.{length}
use Rattle.answer.specs.Answers.{done, unless_refused}
use Rattle.answer.proofs.Answers.{answered_done, done_cases, done_both}
use Rattle.area.proofs.Blocks.{length_block}
use Rattle.layout.specs.declared.Shape.{Shape}
use Rattle.layout.specs.Counts.{kept}
use Rattle.layout.specs.Addresses.{node_slots}
use Rattle.layout.proofs.AddressLaws.{kept_slots}
use Rattle.wire.specs.Words.{bit}
use Rattle.wire.specs.Headers.{header_at, header_bytes, stripe_of, transfer_of, receipt_of}
use Rattle.wire.proofs.FormLaws.{message_is}
use Rattle.journal.specs.Journal.{header_of, record_at}
use Rattle.journal.proofs.PutLaws.{pair_inside}
use Rattle.growth.specs.Deliver.{delivered_area, deliver}
use Rattle.growth.specs.Local.{SameCells, SameAccepted, OnlyCells, OnlyAccepted, DeliverLocal}
use Rattle.growth.proofs.BlockLaws.{length_received}
use Rattle.growth.proofs.Allowed.{DeliverAllowed, deliver_allowed}
use Rattle.growth.proofs.LocalCells.{same_put, only_put, only_none}
use Rattle.growth.proofs.LocalWords.{only_accepted_none, same_delivered, only_delivered}

module _ (z : Shape) (node : ℕ) (message space : List ℕ) where
  w : ℕ
  w = stripe_of (header_at message 0)

  e : ℕ
  e = transfer_of (header_at message 0)

  Allowed : (a i : List ℕ) → Type 0
  Allowed a i =
      DeliverAllowed z (length a) (length i) (length message) (length space) (header_of i) (record_at i w).accepted node
      (header_at message 0)

  deliver_done : (a i : List ℕ) → (deliver z a i node message space).answer ≡ done → Allowed a i
  unfolding deliver w e Allowed
  deliver_done a i q = deliver_allowed z _ _ _ _ _ _ node _ (answered_done _ (bit (record_at i w).accepted e) q).0

  deliver_same : (a b i j : List ℕ) → SameCells z node a b → SameAccepted w i j
      → (deliver z a i node message space).answer ≡ (deliver z b j node message space).answer
  unfolding deliver w e
  deliver_same a b i j s t = rw (s.long, t.long, t.header, t.word)

  module _ (a i : List ℕ) (m : Allowed a i) where
    stripe_lt : w < kept z
    unfolding w Allowed
    stripe_lt = (message_is z (header_at message 0) m.form).transfer.stripe

    slot_there : w < node_slots z node
    slot_there = let k = kept_slots z node in let l = stripe_lt in omega arith

    same_area : (b : List ℕ) → SameCells z node a b
        → SameCells z node (delivered_area z a node w e message) (delivered_area z b node w e message)
    unfolding delivered_area Allowed
    same_area b s = same_put z node a b w _ _ (rw (s.cells w slot_there)) (length_received z e _ _ (length_block message 16 z.b))
        m.area_long m.node_there slot_there s

    only_area : OnlyCells z node a (delivered_area z a node w e message)
    unfolding delivered_area
    only_area = only_put z node a w _ (length_received z e _ _ (length_block message 16 z.b)) slot_there

    pair_there : 5 + 2 * w < length i
    unfolding Allowed
    pair_there = pair_inside z i w m.journal_long stripe_lt

  pub deliver_local : DeliverLocal z node message space
  unfolding deliver w e
  deliver_local = record {
    answer = deliver_same;
    area =
        λ a b i j s t. done_both (SameCells z node) (deliver z a i node message space).answer (deliver z b j node message space).answer _
        _ _ _ (deliver_same a b i j s t)
        (λ q. same_area a i (deliver_done a i q) b s) s;
    journal =
        λ a b i j s t. done_both (SameAccepted w) (deliver z a i node message space).answer (deliver z b j node message space).answer _ _
        _ _ (deliver_same a b i j s t)
        (λ q. same_delivered w i j e (pair_there a i (deliver_done a i q)) t) t;
    receipt = λ a b i j s t. ap (λ x. unless_refused x (header_bytes (receipt_of (header_at message 0))) space) (deliver_same a b i j s t);
    only_cells =
        λ a i. done_cases (OnlyCells z node a) (deliver z a i node message space).answer _ _ (λ q. only_area a i (deliver_done a i q))
        (only_none z node a);
    only_word = λ a i. done_cases (OnlyAccepted w i) (deliver z a i node message space).answer _ _
        (λ q. only_delivered w i e (pair_there a i (deliver_done a i q))) (only_accepted_none w i);
  }
