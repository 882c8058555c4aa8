-- A well-formed header is that of the transfer that it names, and the header of a transfer is well-formed and names it. Assumes nothing.
use mathlib.Core.Path.{◌≡◌, refl, sym, ap, ◌∙◌}
use mathlib.Core.Bool.{Bool, true, false, ◌&&◌}
use mathlib.Core.List.{[], ◌∷◌}
use Prim.Native.Nat.{ℕ, ◌+◌, ◌≤◌, ◌<◌}
use native.Mathlib.Omega.{arith}
use lib.Dec.{eqb, ltb}
use borrow.Author.Tests.{ltb-true, eqb-true, lt-ltb}
use Rattle.base.specs.Tests.{if}
use Rattle.base.proofs.Tests.{all_true, off, eqb_same}
use Rattle.layout.specs.declared.Shape.{Shape}
use Rattle.layout.specs.Ranges.{InRanges}
use Rattle.layout.specs.Counts.{kept, transfers}
use Rattle.layout.specs.Transfers.{is_delta, new_node_of, sender, receiver, transfer_kind}
use Rattle.layout.specs.Closed.{swapped, swap_index}
use Rattle.layout.proofs.Bounds.{kept_le, transfers_le}
use Rattle.layout.proofs.NodeLaws.{row_node_lt}
use Rattle.layout.proofs.TransferLaws.{sender_row_0, brings}
use Rattle.wire.specs.declared.Header.{Header}
use Rattle.wire.specs.Words.{stripe_word, route_word}
use Rattle.wire.specs.Headers.{header_for, message_header, stripe_of, transfer_of, number_of, receipt_of}
use Rattle.wire.specs.Forms.{same_words, well_formed, is_message, is_receipt}
use Rattle.wire.specs.WordClaims.{RouteFields}
use Rattle.wire.specs.Claims.{Words32, Names, Transfer, Formed}
use Rattle.wire.proofs.WordLaws.{stripe_word_law, rest_lt, stripe_rest, stripe_back, route_back, growth_back, size_back}
use Rattle.wire.proofs.ByteLaws.{same_header}

same_words_law : (h g : Header) → same_words h g ≡ true → h ≡ g
unfolding same_words
same_words_law h g e =
    let p =
    all_true (eqb h.stripe g.stripe ∷ eqb h.route g.route ∷ eqb h.growth g.growth ∷ eqb h.size g.size ∷ []) e in
    same_header h g (eqb-true _ _ p.0) (eqb-true _ _ p.1.0) (eqb-true _ _ p.1.1.0) (eqb-true _ _ p.1.1.1.0)

own_words : (h : Header) → same_words h h ≡ true
unfolding same_words
own_words h = simp eqb_same

item_lt : (h : Header) → number_of h < 268435456
unfolding number_of
item_lt h = rest_lt h.growth

-- a well-formed header is that of the transfer that it names
pub formed : (z : Shape) (kind : ℕ) (h : Header) → well_formed z kind h ≡ true → Formed z kind h
unfolding well_formed
formed z kind h e =
    let g : Header = header_for z kind (stripe_of h) (transfer_of h) (number_of h) in
    let p = all_true (ltb (stripe_of h) (kept z) ∷ ltb (transfer_of h) (transfers z) ∷ same_words h g ∷ []) e in
    record {
      transfer = record { stripe = ltb-true _ _ p.0; transfer = ltb-true _ _ p.1.0; growth = item_lt h };
      header = same_words_law h g p.1.1.0;
    }

pub formed_well : (z : Shape) (kind : ℕ) (h : Header) → Formed z kind h → well_formed z kind h ≡ true
unfolding well_formed
formed_well z kind h f =
    rw (
      lt-ltb (stripe_of h) (kept z) f.transfer.stripe,
      lt-ltb (transfer_of h) (transfers z) f.transfer.transfer,
      ap (same_words h) (sym f.header) ∙ own_words h,
    )

pub message_is : (z : Shape) (h : Header) → is_message z h ≡ true → Formed z (transfer_kind z (stripe_of h) (transfer_of h)) h
unfolding is_message
message_is z h e = formed z (transfer_kind z (stripe_of h) (transfer_of h)) h e

pub receipt_is : (z : Shape) (h : Header) → is_receipt z h ≡ true → Formed z 4 h
unfolding is_receipt
receipt_is z h e = formed z 4 h e

-- a header with given names
named : (z : Shape) (kind w e number : ℕ) (h : Header) → Formed z kind h → Names w e number h → h ≡ header_for z kind w e number
named z kind w e number h f n = f.header ∙ rw (n.stripe, n.transfer, n.growth) refl

pub message_named : (z : Shape) (w e number : ℕ) (h : Header) → is_message z h ≡ true → Names w e number h → h ≡ message_header z w e number
message_named z w e number h m n =
    named z (transfer_kind z (stripe_of h) (transfer_of h)) w e number h (message_is z h m) n ∙ rw (n.stripe, n.transfer) refl

pub receipt_named : (z : Shape) (w e number : ℕ) (h : Header) → is_receipt z h ≡ true → Names w e number h → h ≡ header_for z 4 w e number
receipt_named z w e number h r n = named z 4 w e number h (receipt_is z h r) n

-- a message's kind is 1, 2 or 3
pub kind_le : (z : Shape) (w e : ℕ) → transfer_kind z w e ≤ 3
unfolding transfer_kind
kind_le z w e = go (is_delta z e) (swapped z w && eqb (new_node_of z e) (swap_index z w))
  where
    go : (delta parity : Bool) → if delta 1 (if parity 3 2) ≤ 3
    go true parity = omega arith
    go false true = omega arith
    go false false = omega arith

-- no message is a receipt: the kind would be 4
pub message_no_receipt : (z : Shape) (h : Header) → is_message z h ≡ true → is_receipt z h ≡ false
unfolding header_for
message_no_receipt z h m =
    off (λ r.
    let w : ℕ = stripe_of h in
    let k : ℕ = transfer_kind z w (transfer_of h) in
    let p : h.stripe ≡ stripe_word k w = ap (λ (x : Header). x.stripe) (message_is z h m).header in
    let q : h.stripe ≡ stripe_word 4 w = ap (λ (x : Header). x.stripe) (receipt_is z h r).header in
    absurd (omega (arith, stripe_word_law k w, stripe_word_law 4 w, kind_le z w (transfer_of h))))

module _ (z : Shape) (ok : InRanges z) where
  -- ---- the fields of a transfer's header fit

  pub sender_lt : (w : ℕ) → sender z w < z.n
  sender_lt w = rw (sender_row_0 z ok w) (row_node_lt z ok w 0)

  pub receiver_lt : (w e : ℕ) → e < transfers z → receiver z w e < z.n + z.s
  receiver_lt w e l = (brings z ok w e l).node

  stripe_lt : (w : ℕ) → w < kept z → w < 268435456
  stripe_lt w l = omega (arith, kept_le z ok)

  transfer_lt : (e : ℕ) → e < transfers z → e < 256
  transfer_lt e l = omega (arith, transfers_le z ok)

  route_fields : (w e : ℕ) → e < transfers z → RouteFields (sender z w) (receiver z w e) e (route_word (sender z w) (receiver z w e) e)
  route_fields w e l =
      route_back (sender z w) (receiver z w e) e (omega (arith, sender_lt w)) (omega (arith, receiver_lt w e l)) (transfer_lt e l)

  -- ---- the header of a transfer

  pub header_words : (kind w e number : ℕ) → kind < 16 → Transfer z w e number → Words32 (header_for z kind w e number)
  unfolding header_for
  header_words kind w e number k t = record {
    stripe = (stripe_back kind w k (stripe_lt w t.stripe)).fits;
    route = (route_fields w e t.transfer).fits;
    growth = (growth_back number t.growth).fits;
    size = (size_back z (omega arith)).fits;
  }

  pub message_words : (w e number : ℕ) → Transfer z w e number → Words32 (message_header z w e number)
  message_words w e number t = header_words (transfer_kind z w e) w e number (omega (arith, kind_le z w e)) t

  pub header_names : (kind w e number : ℕ) → Transfer z w e number → Names w e number (header_for z kind w e number)
  unfolding header_for stripe_of transfer_of number_of
  header_names kind w e number t = record {
    stripe = stripe_rest kind w (stripe_lt w t.stripe);
    transfer = (route_fields w e t.transfer).transfer;
    growth = (growth_back number t.growth).rest;
  }

  pub header_formed : (kind w e number : ℕ) → Transfer z w e number → well_formed z kind (header_for z kind w e number) ≡ true
  header_formed kind w e number t =
      let h : Header = header_for z kind w e number in
      let n : Names w e number h = header_names kind w e number t in
      formed_well z kind h (record {
        transfer = rw (n.stripe, n.transfer, n.growth) t;
        header =
            rw (n.stripe, n.transfer, n.growth) refl;
      })

  pub message_formed : (w e number : ℕ) → Transfer z w e number → is_message z (message_header z w e number) ≡ true
  unfolding is_message
  message_formed w e number t =
      let n : Names w e number (message_header z w e number) = header_names (transfer_kind z w e) w e number t in
      rw (n.stripe, n.transfer) (header_formed (transfer_kind z w e) w e number t)

  pub receipt_formed : (w e number : ℕ) → Transfer z w e number → is_receipt z (header_for z 4 w e number) ≡ true
  unfolding is_receipt
  receipt_formed w e number t = header_formed 4 w e number t

  -- ---- the receipt of a message

  pub receipt_of_law : (kind w e number : ℕ) → Transfer z w e number → receipt_of (header_for z kind w e number) ≡ header_for z 4 w e number
  unfolding receipt_of header_for
  receipt_of_law kind w e number t = same_header _ _ (ap (stripe_word 4) (header_names kind w e number t).stripe) refl refl refl

  pub receipt_of_message : (h : Header) → is_message z h ≡ true → receipt_of h ≡ header_for z 4 (stripe_of h) (transfer_of h) (number_of h)
  receipt_of_message h m =
      let f = message_is z h m in
      ap receipt_of f.header ∙ receipt_of_law (transfer_kind z (stripe_of h) (transfer_of h)) (stripe_of h) (transfer_of h) (number_of h)
      f.transfer

  pub receipt_of_formed : (h : Header) → is_message z h ≡ true → is_receipt z (receipt_of h) ≡ true
  receipt_of_formed h m = rw (receipt_of_message h m)
      (receipt_formed (stripe_of h) (transfer_of h) (number_of h) (message_is z h m).transfer)

  pub receipt_of_names : (h : Header) → is_message z h ≡ true → Names (stripe_of h) (transfer_of h) (number_of h) (receipt_of h)
  receipt_of_names h m = rw (receipt_of_message h m)
      (header_names 4 (stripe_of h) (transfer_of h) (number_of h) (message_is z h m).transfer)
