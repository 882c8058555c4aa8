-- What a call at one node leaves, put back into the area and the journal. Assumes nothing.
use mathlib.Core.Path.{◌≡◌, refl, ap, ◌∙◌}
use mathlib.Core.List.{List}
use Prim.Native.Nat.{ℕ, ◌+◌, ◌-◌, ◌*◌}
use borrow.Rule.Slice.PartMut.{put_mid, mid_of, put_same}
use Rattle.answer.specs.Answers.{Answer, done, on_done}
use Rattle.answer.proofs.Answers.{done_both}
use Rattle.layout.specs.declared.Shape.{Shape}
use Rattle.layout.specs.Addresses.{node_slots, node_start}
use Rattle.records.specs.declared.StripeRecord.{StripeRecord}
use Rattle.journal.specs.declared.headers.JournalHeader.{JournalHeader}
use Rattle.journal.specs.Journal.{header_of, record_at, put_record}
use Rattle.growth.specs.Shared.{Outcome}
use Rattle.parts.specs.Own.{part_of, with_part}
use Rattle.parts.specs.AtNode.{NodeOutcome, at_node}
use Rattle.parts.proofs.Parts.{lent, handed_back}

-- a part that the call changed only if it was done
pub part_on_done : (z : Shape) (v : ℕ) (area : List ℕ) (a : Answer) (new whole : List ℕ) → (a ≡ done → with_part z v area new ≡ whole)
    → with_part z v area (on_done a new (part_of z v area)) ≡ on_done a whole area
part_on_done z v area a new whole h =
    done_both (λ own x. with_part z v area own ≡ x) a a new (part_of z v area) whole area refl h
    (put_same (node_start z v * z.b) (node_slots z v * z.b) area)

-- the part of node v was lent from byte s to byte e, and the call was given the header and the record that the journal has
pub put_back : (z : Shape) (v : ℕ) (area journal : List ℕ) (w : ℕ) (call : List ℕ → JournalHeader → StripeRecord → ℕ → NodeOutcome)
    {y : Shape} {u s e : ℕ} {h : JournalHeader} {r : StripeRecord}
    → y ≡ z → u ≡ v → s ≡ node_start y u * y.b → e ≡ node_start y u * y.b + node_slots y u * y.b → h ≡ header_of journal
    → r ≡ record_at journal w → {a : Answer} {own i : List ℕ} {p : StripeRecord}
    → ◌≡◌ {A = NodeOutcome} (record { answer = a; own = own; stripe = p }) (call (mid_of s (e - s) area) h r u)
    → i ≡ on_done a (put_record journal w p) journal
    → ◌≡◌ {A = Outcome} (record { answer = a; area = put_mid s (e - s) area own; journal = i })
    (at_node z v area journal w (λ own h r. call own h r v))
unfolding at_node
put_back z v area journal w call {y} {u} {s} {e} {h} {r} layout node from to header pair {a} {own} {i} {p} left written =
    let start : s ≡ node_start z u * z.b = rw layout at from in
    let end : e ≡ node_start z u * z.b + node_slots z u * z.b = rw layout at to in
    let given : call (mid_of s (e - s) area) h r u ≡ call (part_of z v area) (header_of journal) (record_at journal w) v =
    rw (lent z u area start end, node, header, pair) in
    let q = left ∙ given in
    rw (written, handed_back z u area start end own, node, ap (λ x. x.answer) q, ap (λ x. x.own) q, ap (λ x. x.stripe) q)
