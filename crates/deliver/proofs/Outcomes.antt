-- What deliver leaves at the node that makes it, and that this, put back, is what the call leaves. Assumes nothing.
use mathlib.Core.Path.{◌≡◌, refl, sym, ap, ◌∙◌}
use mathlib.Core.Bool.{Bool, true, false, not}
use mathlib.Core.List.{List}
use Prim.Native.Nat.{ℕ, ◌+◌, ◌-◌, ◌*◌, ◌≤◌, ◌<◌}
use native.Mathlib.Omega.{arith}
use lib.Dec.{ltb}
use lib.ListN.{length}
use borrow.Author.Tests.{eq-eqb, eqb-true, ltb-true, not-false}
use borrow.Rule.Slice.PartMut.{put_mid, mid_of}
use Rattle.base.specs.Refusals.{first, or_else}
use Rattle.base.specs.Tests.{only_if}
use Rattle.base.proofs.Refusals.{first_zero, or_else_zero, or_else_pass}
use Rattle.base.proofs.Tests.{and_right, if_only}
use Rattle.answer.specs.declared.Refusal.{Refusal}
use Rattle.answer.specs.Numbers as Numbers
use Rattle.answer.specs.Answers.{Answer, refused, already, done, answer_for, is_refused, on_done, unless_refused}
use Rattle.answer.proofs.Answers.{answered_refuses, answered_repeats, answered_acts, answered_done, or_unrefused, done_cases, done_both}
use Rattle.answer.proofs.Exits as Exits
use Rattle.layout.specs.declared.Shape.{Shape}
use Rattle.layout.specs.Ranges.{InRanges, shape_refusal}
use Rattle.layout.specs.Counts.{kept, all_transfers}
use Rattle.layout.specs.Addresses.{node_slots, node_start}
use Rattle.layout.proofs.Bounds.{all_transfers_le}
use Rattle.layout.proofs.RangeLaws.{in_ranges, accepted}
use Rattle.wire.specs.declared.Header.{Header}
use Rattle.wire.specs.Words.{bit}
use Rattle.wire.specs.Headers.{header_bytes, header_at, stripe_of, transfer_of, receipt_of}
use Rattle.wire.proofs.FormLaws.{message_is}
use Rattle.records.specs.declared.StripeRecord.{StripeRecord}
use Rattle.records.specs.Records as Records
use Rattle.records.specs.Conditions.{accepted_ok}
use Rattle.journal.specs.declared.headers.JournalHeader.{JournalHeader}
use Rattle.journal.specs.Journal.{header_of, put_header, count_of, record_at, put_record}
use Rattle.growth.specs.Shared.{Outcome}
use Rattle.growth.specs.Deliver.{room_for, deliver_refusal, delivered_area, counted_up, delivered_journal, DeliverOutcome, deliver}
use Rattle.growth.proofs.Allowed.{deliver_allowed}
use Rattle.lent.specs.Checks.{store_refusal}
use Rattle.lent.proofs.StoreLaws.{StoreLent, store_lent}
use Rattle.lent.proofs.WhenDone.{on_done_once}
use Rattle.parts.specs.Own.{part_of, with_part}
use Rattle.parts.proofs.Parts.{lent, handed_back, length_part}
use Rattle.parts.proofs.HandedOn.{part_on_done}
use Rattle.deliver.specs.Arrival.{message_refusal}
use Rattle.deliver.specs.Own.{receiver_refusals, receiver_refusal, own_refusal, own_delivered, AcceptedAtNode, accept_at_node}
use Rattle.deliver.specs.Own.{DeliveredAtNode, deliver_at_node}
use Rattle.deliver.specs.Acceptance.{acceptance}
use Rattle.deliver.proofs.InParts.{bit_there, store_first, arrived_allowed}
use Rattle.deliver.proofs.OwnLaws.{slot_fits, delivered_part}

-- ---- at the node: what nothing refuses

pub record ReceiverLent (z : Shape) (node ownBytes : ℕ) : Type 0 where
  pub ok : InRanges z
  pub own_long : ownBytes ≡ node_slots z node * z.b

pub receiver_lent : (z : Shape) (node ownBytes : ℕ) → receiver_refusal z node ownBytes ≡ 0 → ReceiverLent z node ownBytes
unfolding receiver_refusal
receiver_lent z node ownBytes e =
    let (s, f) = or_else_zero (shape_refusal z) (first (receiver_refusals z node ownBytes)) e in
    record { ok = in_ranges z s; own_long = eqb-true _ _ (not-false _ (first_zero (receiver_refusals z node ownBytes) (tt, tt) f).0) }

receiver_passes : (z : Shape) (node ownBytes : ℕ) → InRanges z → ownBytes ≡ node_slots z node * z.b → receiver_refusal z node ownBytes ≡ 0
unfolding receiver_refusal
receiver_passes z node ownBytes ok e = rw (accepted z ok, eq-eqb _ _ e)

pub record OwnAllowed (z : Shape) (ownBytes messageBytes spaceBytes : ℕ) (h : JournalHeader) (word node : ℕ) (m : Header) : Type 0 where
  pub ok : InRanges z
  pub own_long : ownBytes ≡ node_slots z node * z.b
  pub message_long : messageBytes ≡ 16 + z.b
  pub space_long : spaceBytes ≡ 16
  pub stripe : stripe_of m < kept z
  pub transfer : transfer_of m < 32
  -- the count is below its total where a mark is missing
  pub count : bit word (transfer_of m) ≡ false → count_of h < 26880

count_small : (z : Shape) → InRanges z → (h : JournalHeader) (word e : ℕ) → room_for z h word e ≡ true → bit word e ≡ false
    → count_of h < 26880
unfolding room_for
count_small z ok h word e room unmarked =
    let few : Bool = ltb (count_of h) (all_transfers z) in
    let missing : not (bit word e) ≡ true = rw unmarked in
    let below =
    ltb-true (count_of h) (all_transfers z) (if_only (not (bit word e)) few
    (and_right (accepted_ok z word) (only_if (not (bit word e)) few) room) missing) in
    omega (arith, all_transfers_le z ok)

pub own_allowed : (z : Shape) (ownBytes messageBytes spaceBytes : ℕ) (h : JournalHeader) (word node : ℕ) (m : Header)
    → own_refusal z ownBytes messageBytes spaceBytes h word node m ≡ 0 → OwnAllowed z ownBytes messageBytes spaceBytes h word node m
unfolding own_refusal
own_allowed z ownBytes messageBytes spaceBytes h word node m e =
    let (p, q) = or_else_zero (receiver_refusal z node ownBytes) (message_refusal z messageBytes spaceBytes h word node m) e in
    let l = receiver_lent z node ownBytes p in
    let a = arrived_allowed z l.ok messageBytes spaceBytes h word node m q in
    record {
      ok = l.ok;
      own_long = l.own_long;
      message_long = a.message_long;
      space_long = a.space_long;
      stripe = (message_is z m a.form).transfer.stripe;
      transfer = bit_there z l.ok m a.form;
      count = count_small z l.ok h word (transfer_of m) a.room;
    }

-- ---- at the node: what it leaves

module _ (z : Shape) (own : List ℕ) (h : JournalHeader) (r : StripeRecord) (node : ℕ) (message : List ℕ) (spaceBytes : ℕ) where
  abbrev number_here : ℕ
  number_here = own_refusal z (length own) (length message) spaceBytes h r.accepted node (header_at message 0)

  -- of a call that is done, and of one that is not refused
  pub done_allowed : {a : Answer} {o : List ℕ} {i : JournalHeader} {p : StripeRecord}
      → ◌≡◌ {A = AcceptedAtNode} (record { answer = a; own = o; header = i; stripe = p }) (accept_at_node z own h r node message spaceBytes)
      → a ≡ done → OwnAllowed z (length own) (length message) spaceBytes h r.accepted node (header_at message 0)
  unfolding accept_at_node
  done_allowed q d =
      own_allowed z _ _ _ h _ node _ (answered_done number_here (bit r.accepted (transfer_of (header_at message 0)))
      (sym (ap (λ x. x.answer) q) ∙ d)).0

  pub has_space : {a : Answer} {o : List ℕ} {i : JournalHeader} {p : StripeRecord}
      → ◌≡◌ {A = AcceptedAtNode} (record { answer = a; own = o; header = i; stripe = p }) (accept_at_node z own h r node message spaceBytes)
      → is_refused a ≡ false → spaceBytes ≡ 16
  unfolding accept_at_node
  has_space q u = (own_allowed z _ _ _ h _ node _ (or_unrefused number_here _ (ap is_refused (sym (ap (λ x. x.answer) q)) ∙ u))).space_long

  -- the message's words, as the code looked at them
  module _ {m : Header} (words : m ≡ header_at message 0) where
    abbrev refusal : ℕ
    refusal = own_refusal z (length own) (length message) spaceBytes h r.accepted node m

    pub refuses : (x : Refusal) → Numbers.number x ≡ refusal
        → ◌≡◌ {A = AcceptedAtNode} (record { answer = refused (Numbers.number x); own = own; header = h; stripe = r })
        (accept_at_node z own h r node message spaceBytes)
    unfolding accept_at_node
    refuses x e =
        rw (
          sym words,
          ap (λ n. answer_for n (bit r.accepted (transfer_of m))) (sym e)
              ∙ answered_refuses (Numbers.number x) (bit r.accepted (transfer_of m)) (Exits.number_some x),
        )

    -- and the transfer that they name
    module _ {e : ℕ} (names : e ≡ transfer_of m) where
      left : (a : Answer) → answer_for refusal (Records.is_accepted r e) ≡ a
          → ◌≡◌ {A = AcceptedAtNode} (record {
            answer = a;
            own = on_done a (own_delivered z own (stripe_of m) e message) own;
            header = on_done a (counted_up h) h;
            stripe = on_done a (Records.accept r e) r;
          }) (accept_at_node z own h r node message spaceBytes)
      unfolding accept_at_node Records.is_accepted
      left a q = rw (sym words, sym names, q)

      allowed : 0 ≡ refusal → OwnAllowed z (length own) (length message) spaceBytes h r.accepted node m
      allowed none = own_allowed z _ _ _ h _ node m (sym none)

      pub slot_ready : 0 ≡ refusal → {w : ℕ} → w ≡ stripe_of m
          → (w < kept z) × (w * z.b + z.b ≤ length own) × (length message ≡ 16 + z.b)
      slot_ready none {w} named =
          let ok = allowed none in
          let there : w < kept z = omega (arith, named, ok.stripe) in
          (there, slot_fits z node w there (length own) ok.own_long, ok.message_long)

      pub bit_small : 0 ≡ refusal → e < 32
      bit_small none = omega (arith, names, (allowed none).transfer)

      pub count_low : 0 ≡ refusal → Records.is_accepted r e ≡ false → count_of h < 26880
      unfolding Records.is_accepted
      count_low none unmarked = (allowed none).count (rw names at unmarked)

      pub repeats : 0 ≡ refusal → Records.is_accepted r e ≡ true
          → ◌≡◌ {A = AcceptedAtNode} (record { answer = already; own = own; header = h; stripe = r })
          (accept_at_node z own h r node message spaceBytes)
      repeats none marked = left already (answered_repeats refusal (Records.is_accepted r e) (sym none) marked)

      pub acts : 0 ≡ refusal → Records.is_accepted r e ≡ false → {w : ℕ} {o : List ℕ} {i : JournalHeader} {p : StripeRecord}
          → w ≡ stripe_of m → o ≡ own_delivered z own w e message → i ≡ counted_up h → p ≡ Records.accept r e
          → ◌≡◌ {A = AcceptedAtNode} (record { answer = done; own = o; header = i; stripe = p })
          (accept_at_node z own h r node message spaceBytes)
      acts none unmarked ew eo ei ep =
          rw (eo, ew, ei, ep) (left done (answered_acts refusal (Records.is_accepted r e) (sym none) unmarked))

-- of the record only the receivers' word counts; the sender's comes back as it was
pub accept_other_word : (z : Shape) (own : List ℕ) (h : JournalHeader) (word node : ℕ) (message : List ℕ) (spaceBytes x y : ℕ)
    → let a = accept_at_node z own h (record { accepted = word; progress = x }) node message spaceBytes in
    let b = accept_at_node z own h (record { accepted = word; progress = y }) node message spaceBytes in
    (a.answer ≡ b.answer) × (a.own ≡ b.own) × (a.header ≡ b.header) × (a.stripe.accepted ≡ b.stripe.accepted)
    × (a.stripe.progress ≡ x)
unfolding accept_at_node Records.accept
accept_other_word z own h word node message spaceBytes x y =
    let m = header_at message 0 in
    let e = transfer_of m in
    let a = answer_for (own_refusal z (length own) (length message) spaceBytes h word node m) (bit word e) in
    let p : StripeRecord = record { accepted = word; progress = x } in
    let q : StripeRecord = record { accepted = word; progress = y } in (
      refl,
      refl,
      refl,
      done_both (λ s t. s.accepted ≡ t.accepted) a a (Records.accept p e) p (Records.accept q e) q refl (λ d. refl) refl,
      done_cases (λ s. s.progress ≡ x) a (Records.accept p e) p (λ d. refl) refl,
    )

-- ---- over area and journal

module _ (z : Shape) (area journal : List ℕ) (node : ℕ) (message : List ℕ) (spaceBytes : ℕ) where
  abbrev words : Header
  words = header_at message 0

  abbrev stripe : ℕ
  stripe = stripe_of words

  abbrev pair : StripeRecord
  pair = record_at journal stripe

  abbrev marked : Bool
  marked = bit pair.accepted (transfer_of words)

  abbrev number : ℕ
  number = deliver_refusal z (length area) (length journal) (length message) spaceBytes (header_of journal) pair.accepted node words

  called : (a : Answer) → answer_for number marked ≡ a
      → ◌≡◌ {A = Outcome} (record {
        answer = a;
        area = on_done a (delivered_area z area node stripe (transfer_of words) message) area;
        journal = on_done a (delivered_journal journal stripe (transfer_of words)) journal;
      }) (acceptance z area journal node message spaceBytes)
  unfolding acceptance
  called a e = rw e

  refused_by : (x : ℕ) → number ≡ x → (x ≡ 0 → ⊥)
      → ◌≡◌ {A = Outcome} (record { answer = refused x; area = area; journal = journal })
      (acceptance z area journal node message spaceBytes)
  refused_by x e some = called (refused x) (ap (λ y. answer_for y marked) e ∙ answered_refuses x marked some)

  in_two : number ≡ or_else (store_refusal z (length area) (length journal))
      (message_refusal z (length message) spaceBytes (header_of journal) pair.accepted node words)
  in_two = store_first z (length area) (length journal) (length message) spaceBytes (header_of journal) pair.accepted node words

  -- refused for the shape or a length of the store
  pub stops : (x : Refusal) → Numbers.number x ≡ store_refusal z (length area) (length journal)
      → ◌≡◌ {A = Outcome} (record { answer = refused (Numbers.number x); area = area; journal = journal })
      (acceptance z area journal node message spaceBytes)
  stops x e = refused_by (Numbers.number x) (in_two ∙ sym (Exits.stops x _ _ e)) (Exits.number_some x)

  module _ (right : store_refusal z (length area) (length journal) ≡ 0) where
    has : StoreLent z (length area) (length journal)
    has = store_lent z (length area) (length journal) right

    -- a node that is not there has no part
    pub no_part : {h : JournalHeader} {m : Header} {w : ℕ} {r : StripeRecord} → h ≡ header_of journal → m ≡ header_at message 0
        → w ≡ stripe_of m → r ≡ record_at journal w → (x : Refusal)
        → Numbers.number x ≡ message_refusal z (length message) spaceBytes h r.accepted node m
        → ◌≡◌ {A = Outcome} (record { answer = refused (Numbers.number x); area = area; journal = journal })
        (acceptance z area journal node message spaceBytes)
    no_part {h} {m} {w} {r} header words_are named pair_is x e =
        let q : Numbers.number x ≡ message_refusal z (length message) spaceBytes (header_of journal) pair.accepted node words =
        e ∙ rw (pair_is, named, words_are, header) refl in
        refused_by (Numbers.number x) (in_two ∙ or_else_pass _ _ right ∙ sym q) (Exits.number_some x)

    module _ (there : node < z.n + z.s) where
      abbrev part : List ℕ
      part = part_of z node area

      same_number : own_refusal z (length part) (length message) spaceBytes (header_of journal) pair.accepted node words ≡ number
      unfolding own_refusal
      same_number =
          or_else_pass _ _ (receiver_passes z node _ has.ok (length_part z node there area has.area_long))
          ∙ sym (or_else_pass _ _ right) ∙ sym in_two

      -- the call is the node's own, handed on
      pub accept_handed_on : let left = accept_at_node z part (header_of journal) pair node message spaceBytes in
          ◌≡◌ {A = Outcome} (record {
            answer = left.answer;
            area = with_part z node area left.own;
            journal = on_done left.answer (put_header (put_record journal stripe left.stripe) left.header) journal;
          }) (acceptance z area journal node message spaceBytes)
      unfolding accept_at_node delivered_journal
      accept_handed_on =
          let e = transfer_of words in
          let h = header_of journal in
          let a = answer_for (own_refusal z (length part) (length message) spaceBytes h pair.accepted node words) marked in
          let moved : (d : a ≡ done) → with_part z node area (own_delivered z part stripe e message)
          ≡ delivered_area z area node stripe e message
          =
          λ d. delivered_part z node there area has.area_long stripe
          (own_allowed z _ _ _ h _ node words (answered_done _ marked d).0).stripe e message in
          rw (
            part_on_done z node area a (own_delivered z part stripe e message) (delivered_area z area node stripe e message) moved,
            on_done_once a (λ x. put_header (put_record journal stripe x) (on_done a (counted_up h) h)) (Records.accept pair e) pair
                journal,
            on_done_once a (put_header (put_record journal stripe (Records.accept pair e))) (counted_up h) h journal,
          )
          (called a (ap (λ x. answer_for x marked) (sym same_number)))

      -- the part was lent from byte s to byte t, and the node was given the header and the record that the journal has
      pub put_back : {y : Shape} → y ≡ z → {s t : ℕ} → s ≡ node_start y node * y.b → t ≡ node_start y node * y.b + node_slots y node * y.b
          → {h : JournalHeader} {m : Header} {w : ℕ} {r : StripeRecord} → h ≡ header_of journal → m ≡ header_at message 0 → w ≡ stripe_of m
          → r ≡ record_at journal w → {a : Answer} {own j : List ℕ} {i : JournalHeader} {p : StripeRecord}
          → ◌≡◌ {A = AcceptedAtNode} (record { answer = a; own = own; header = i; stripe = p })
          (accept_at_node z (mid_of s (t - s) area) h r node message spaceBytes)
          → j ≡ on_done a (put_header (put_record journal w p) i) journal
          → ◌≡◌ {A = Outcome} (record { answer = a; area = put_mid s (t - s) area own; journal = j })
          (acceptance z area journal node message spaceBytes)
      put_back layout {s} {t} from to {h} {m} {w} {r} header words_are named pair_is {a} {own} {j} {i} {p} leaves written =
          let start : s ≡ node_start z node * z.b = rw layout at from in
          let end : t ≡ node_start z node * z.b + node_slots z node * z.b = rw layout at to in
          let given : accept_at_node z (mid_of s (t - s) area) h r node message spaceBytes
          ≡ accept_at_node z part (header_of journal) pair node message spaceBytes
          = rw (lent z node area start end, header, pair_is, named, words_are) in
          let q = leaves ∙ given in
          rw (
            written,
            named,
            words_are,
            handed_back z node area start end own,
            ap (λ x. x.answer) q,
            ap (λ x. x.own) q,
            ap (λ x. x.header) q,
            ap (λ x. x.stripe) q,
          )
          accept_handed_on

-- ---- and the receipt

-- at the node
pub receipted_at_node : (z : Shape) (own : List ℕ) (h : JournalHeader) (r : StripeRecord) (node : ℕ) (message space : List ℕ) {a : Answer}
    {o out : List ℕ} {i : JournalHeader} {p : StripeRecord}
    → ◌≡◌ {A = AcceptedAtNode} (record {
      answer = a;
      own = o;
      header = i;
      stripe = p;
    }) (accept_at_node z own h r node message (length space))
    → {m : Header} → m ≡ header_at message 0 → out ≡ unless_refused a (header_bytes (receipt_of m)) space
    → ◌≡◌ {A = DeliveredAtNode} (record { answer = a; own = o; header = i; stripe = p; receipt = out })
    (deliver_at_node z own h r node message space)
unfolding deliver_at_node
receipted_at_node z own h r node message space {a} {o} {out} {i} {p} q words e =
    rw (e, words) (ap
    (λ (l : AcceptedAtNode). record {
      answer = l.answer;
      own = l.own;
      header = l.header;
      stripe = l.stripe;
      receipt = unless_refused l.answer (header_bytes (receipt_of (header_at message 0))) space;
    })
    q)

-- `accept_other_word` again, and one receipt
pub other_word : (z : Shape) (own : List ℕ) (h : JournalHeader) (word node : ℕ) (message space : List ℕ) (x y : ℕ)
    → let a = deliver_at_node z own h (record { accepted = word; progress = x }) node message space in
    let b = deliver_at_node z own h (record { accepted = word; progress = y }) node message space in
    (a.answer ≡ b.answer) × (a.own ≡ b.own) × (a.header ≡ b.header) × (a.stripe.accepted ≡ b.stripe.accepted)
    × (a.stripe.progress ≡ x) × (a.receipt ≡ b.receipt)
unfolding deliver_at_node
other_word z own h word node message space x y =
    let (answer, own', header, accepted', sent') = accept_other_word z own h word node message (length space) x y in
    (answer, own', header, accepted', sent', ap (λ a. unless_refused a (header_bytes (receipt_of (header_at message 0))) space) answer)

-- over area and journal
module _ (z : Shape) (area journal : List ℕ) (node : ℕ) (message space : List ℕ) where
  -- where nothing refuses, the receipt has its 16 bytes of space
  pub space_long : {a : Answer} {o j : List ℕ}
      → ◌≡◌ {A = Outcome} (record { answer = a; area = o; journal = j }) (acceptance z area journal node message (length space))
      → is_refused a ≡ false → length space ≡ 16
  unfolding acceptance
  space_long q u =
      (deliver_allowed z _ _ _ _ _ _ _ _ (or_unrefused _ _ (ap is_refused (sym (ap (λ (o : Outcome). o.answer) q)) ∙ u))).space_long

  pub receipted : {a : Answer} {o j out : List ℕ}
      → ◌≡◌ {A = Outcome} (record { answer = a; area = o; journal = j }) (acceptance z area journal node message (length space))
      → {m : Header} → m ≡ header_at message 0 → out ≡ unless_refused a (header_bytes (receipt_of m)) space
      → ◌≡◌ {A = DeliverOutcome} (record { answer = a; area = o; journal = j; receipt = out }) (deliver z area journal node message space)
  unfolding acceptance deliver
  receipted q words e =
      rw (e, words) (ap
      (λ (l : Outcome). record {
        answer = l.answer;
        area = l.area;
        journal = l.journal;
        receipt = unless_refused l.answer (header_bytes (receipt_of (header_at message 0))) space;
      })
      q)

  -- the call is the node's own, handed on
  pub handed_on : store_refusal z (length area) (length journal) ≡ 0 → node < z.n + z.s
      → let w = stripe_of (header_at message 0) in
      let left = deliver_at_node z (part_of z node area) (header_of journal) (record_at journal w) node message space in
      ◌≡◌ {A = DeliverOutcome} (record {
        answer = left.answer;
        area = with_part z node area left.own;
        journal = on_done left.answer (put_header (put_record journal w left.stripe) left.header) journal;
        receipt = left.receipt;
      }) (deliver z area journal node message space)
  unfolding deliver_at_node
  handed_on right there = receipted (accept_handed_on z area journal node message (length space) right there) refl refl
