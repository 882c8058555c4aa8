-- What a call may rely on where nothing refuses it. Assumes nothing.
use mathlib.Core.Path.{◌≡◌}
use mathlib.Core.Bool.{Bool, true, false, not, ◌&&◌}
use mathlib.Core.List.{List}
use Prim.Native.Nat.{ℕ, ◌+◌, ◌^◌, ◌<◌}
use lib.Dec.{eqb, ltb}
use lib.ListN.{length}
use borrow.Author.Tests.{eqb-true, ltb-true, not-false}
use Rattle.base.specs.Tests.{every}
use Rattle.base.specs.Refusals.{Refusal, first, or_else}
use Rattle.base.proofs.Refusals.{NoneApplies, Numbered, first_zero, or_else_zero}
use Rattle.layout.specs.declared.Shape.{Shape}
use Rattle.layout.specs.Ranges.{InRanges, shape_refusal}
use Rattle.layout.specs.Counts.{kept, transfers, stripes}
use Rattle.layout.specs.Addresses.{area_length}
use Rattle.layout.proofs.RangeLaws.{in_ranges}
use Rattle.wire.specs.declared.Header.{Header}
use Rattle.wire.specs.Words.{bit}
use Rattle.wire.specs.Headers.{transfer_of}
use Rattle.wire.specs.Forms.{is_message, is_receipt, for_another_node, of_another_growth}
use Rattle.records.specs.Records.{computed_in, released_in}
use Rattle.records.specs.Conditions.{progress_ok}
use Rattle.journal.specs.declared.headers.JournalHeader.{JournalHeader}
use Rattle.journal.specs.States.{counts_as_open, ended_refusal}
use Rattle.journal.specs.Journal.{header_of, state_of, number_of, header_ok, journal_length}
use Rattle.journal.specs.Whole.{whole_ok}
use Rattle.growth.specs.Begin.{begin_refusals, begin_refusal}
use Rattle.growth.specs.Compute.{compute_refusals, compute_refusal}
use Rattle.growth.specs.Send.{message_length, send_refusals, send_refusal}
use Rattle.growth.specs.Deliver.{receipt_length, room_for, deliver_refusals, deliver_refusal}
use Rattle.growth.specs.Receipt.{receipt_refusals, receipt_refusal}
use Rattle.growth.specs.Release.{release_refusals, release_refusal}
use Rattle.growth.specs.Close.{close_refusals, close_refusal}
use Rattle.growth.specs.Drive.{drive_refusals, drive_refusal}
use Rattle.growth.specs.Read.{read_refusals, read_refusal}

-- ---- single tests that did not refuse

exact : {lent wanted : ℕ} → not (eqb lent wanted) ≡ false → lent ≡ wanted
exact {lent} {wanted} e = eqb-true lent wanted (not-false _ e)

inside : {x bound : ℕ} → not (ltb x bound) ≡ false → x < bound
inside {x} {bound} e = ltb-true x bound (not-false _ e)

-- a touched word that is there
touched : (isThere isOk : Bool) → isThere && not isOk ≡ false → isThere ≡ true → isOk ≡ true
touched isThere isOk e t = not-false isOk (rw t at e)

-- shape first, then the list
unrefused : (z : Shape) (rs : List Refusal) → Numbered rs → or_else (shape_refusal z) (first rs) ≡ 0 → InRanges z × NoneApplies rs
unrefused z rs n e = let (s, f) = or_else_zero (shape_refusal z) (first rs) e in (in_ranges z s, first_zero rs n f)

-- ---- compute

pub record ComputeAllowed (z : Shape) (area_bytes journalWords : ℕ) (h : JournalHeader) (word w : ℕ) : Type 0 where
  pub ok : InRanges z
  pub area_long : area_bytes ≡ area_length z
  pub journal_long : journalWords ≡ journal_length z
  pub header : header_ok z h ≡ true
  pub word_ok : progress_ok z word ≡ true
  pub opened : counts_as_open (state_of h) ≡ true
  pub stripe : w < kept z

pub compute_allowed : (z : Shape) (area_bytes journalWords : ℕ) (h : JournalHeader) (word w : ℕ)
    → compute_refusal z area_bytes journalWords h word w ≡ 0 → ComputeAllowed z area_bytes journalWords h word w
unfolding compute_refusal ended_refusal
compute_allowed z area_bytes journalWords h word w e =
    let (ok, p) = unrefused z (compute_refusals z area_bytes journalWords h word w) (tt, (tt, (tt, (tt, (tt, (tt, tt)))))) e in
    record {
      ok = ok;
      area_long = exact p.0;
      journal_long = exact p.1.0;
      header = not-false _ p.1.1.0;
      word_ok = touched (ltb w (kept z)) (progress_ok z word) p.1.1.1.0 (not-false _ p.1.1.1.1.1.0);
      opened = not-false _ p.1.1.1.1.0;
      stripe = inside p.1.1.1.1.1.0;
    }

-- ---- send

pub record SendAllowed (z : Shape) (area_bytes journalWords spaceBytes : ℕ) (h : JournalHeader) (word w e : ℕ) : Type 0 where
  pub ok : InRanges z
  pub area_long : area_bytes ≡ area_length z
  pub journal_long : journalWords ≡ journal_length z
  pub space_long : spaceBytes ≡ message_length z
  pub header : header_ok z h ≡ true
  pub word_ok : progress_ok z word ≡ true
  pub opened : counts_as_open (state_of h) ≡ true
  pub stripe : w < kept z
  pub transfer : e < transfers z
  pub computed : computed_in word ≡ true
  pub unreleased : released_in word ≡ false

pub send_allowed : (z : Shape) (area_bytes journalWords spaceBytes : ℕ) (h : JournalHeader) (word w e : ℕ)
    → send_refusal z area_bytes journalWords spaceBytes h word w e ≡ 0 → SendAllowed z area_bytes journalWords spaceBytes h word w e
unfolding send_refusal ended_refusal
send_allowed z area_bytes journalWords spaceBytes h word w e n =
    let (ok, p) = unrefused z (send_refusals z area_bytes journalWords spaceBytes h word w e)
    (tt, (tt, (tt, (tt, (tt, (tt, (tt, (tt, (tt, (tt, tt)))))))))) n in
    record {
      ok = ok;
      area_long = exact p.0;
      journal_long = exact p.1.0;
      space_long = exact p.1.1.0;
      header = not-false _ p.1.1.1.0;
      word_ok = touched (ltb w (kept z)) (progress_ok z word) p.1.1.1.1.0 (not-false _ p.1.1.1.1.1.1.0);
      opened = not-false _ p.1.1.1.1.1.0;
      stripe = inside p.1.1.1.1.1.1.0;
      transfer = inside p.1.1.1.1.1.1.1.0;
      computed = not-false _ p.1.1.1.1.1.1.1.1.0;
      unreleased = p.1.1.1.1.1.1.1.1.1.0;
    }

-- ---- deliver

pub record DeliverAllowed (z : Shape) (area_bytes journalWords messageBytes spaceBytes : ℕ) (h : JournalHeader) (word node : ℕ) (m : Header)
    : Type 0 where
  pub ok : InRanges z
  pub area_long : area_bytes ≡ area_length z
  pub journal_long : journalWords ≡ journal_length z
  pub message_long : messageBytes ≡ message_length z
  pub space_long : spaceBytes ≡ receipt_length
  pub header : header_ok z h ≡ true
  pub form : is_message z m ≡ true
  pub room : room_for z h word (transfer_of m) ≡ true
  pub opened : counts_as_open (state_of h) ≡ true
  pub node_there : node < z.n + z.s
  pub for_node : for_another_node z node m ≡ false
  pub of_growth : of_another_growth (number_of h) m ≡ false

pub deliver_allowed : (z : Shape) (area_bytes journalWords messageBytes spaceBytes : ℕ) (h : JournalHeader) (word node : ℕ) (m : Header)
    → deliver_refusal z area_bytes journalWords messageBytes spaceBytes h word node m ≡ 0
    → DeliverAllowed z area_bytes journalWords messageBytes spaceBytes h word node m
unfolding deliver_refusal ended_refusal
deliver_allowed z area_bytes journalWords messageBytes spaceBytes h word node m n =
    let (ok, p) = unrefused z (deliver_refusals z area_bytes journalWords messageBytes spaceBytes h word node m)
    (tt, (tt, (tt, (tt, (tt, (tt, (tt, (tt, (tt, (tt, (tt, tt))))))))))) n in
    let form : is_message z m ≡ true = not-false _ p.1.1.1.1.1.1.1.1.0 in
    record {
      ok = ok;
      area_long = exact p.0;
      journal_long = exact p.1.0;
      message_long = exact p.1.1.0;
      space_long = exact p.1.1.1.0;
      header = not-false _ p.1.1.1.1.0;
      form = form;
      room = touched (is_message z m) (room_for z h word (transfer_of m)) p.1.1.1.1.1.0 form;
      opened = not-false _ p.1.1.1.1.1.1.0;
      node_there = inside p.1.1.1.1.1.1.1.0;
      for_node = p.1.1.1.1.1.1.1.1.1.0;
      of_growth = p.1.1.1.1.1.1.1.1.1.1.0;
    }

-- ---- receipt

pub record ReceiptAllowed (z : Shape) (journalWords receipt_bytes : ℕ) (h : JournalHeader) (word node : ℕ) (m : Header) : Type 0 where
  pub ok : InRanges z
  pub journal_long : journalWords ≡ journal_length z
  pub receipt_long : receipt_bytes ≡ receipt_length
  pub header : header_ok z h ≡ true
  pub form : is_receipt z m ≡ true
  pub word_ok : progress_ok z word ≡ true
  pub opened : counts_as_open (state_of h) ≡ true
  pub node_there : node < z.n + z.s
  pub of_growth : of_another_growth (number_of h) m ≡ false
  pub computed : computed_in word ≡ true

pub receipt_allowed : (z : Shape) (journalWords receipt_bytes : ℕ) (h : JournalHeader) (word node : ℕ) (m : Header)
    → receipt_refusal z journalWords receipt_bytes h word node m ≡ 0 → ReceiptAllowed z journalWords receipt_bytes h word node m
unfolding receipt_refusal ended_refusal
receipt_allowed z journalWords receipt_bytes h word node m n =
    let (ok, p) = unrefused z (receipt_refusals z journalWords receipt_bytes h word node m)
    (tt, (tt, (tt, (tt, (tt, (tt, (tt, (tt, (tt, (tt, tt)))))))))) n in
    let form : is_receipt z m ≡ true = not-false _ p.1.1.1.1.1.1.0 in
    record {
      ok = ok;
      journal_long = exact p.0;
      receipt_long = exact p.1.0;
      header = not-false _ p.1.1.0;
      form = form;
      word_ok = touched (is_receipt z m) (progress_ok z word) p.1.1.1.0 form;
      opened = not-false _ p.1.1.1.1.0;
      node_there = inside p.1.1.1.1.1.0;
      of_growth = p.1.1.1.1.1.1.1.1.0;
      computed = not-false _ p.1.1.1.1.1.1.1.1.1.0;
    }

-- ---- release

pub record ReleaseAllowed (z : Shape) (area_bytes journalWords : ℕ) (h : JournalHeader) (word w : ℕ) : Type 0 where
  pub ok : InRanges z
  pub area_long : area_bytes ≡ area_length z
  pub journal_long : journalWords ≡ journal_length z
  pub header : header_ok z h ≡ true
  pub word_ok : progress_ok z word ≡ true
  pub opened : counts_as_open (state_of h) ≡ true
  pub stripe : w < kept z
  pub computed : computed_in word ≡ true
  pub receipted : every (transfers z) (bit word) ≡ true

pub release_allowed : (z : Shape) (area_bytes journalWords : ℕ) (h : JournalHeader) (word w : ℕ)
    → release_refusal z area_bytes journalWords h word w ≡ 0 → ReleaseAllowed z area_bytes journalWords h word w
unfolding release_refusal ended_refusal
release_allowed z area_bytes journalWords h word w n =
    let (ok, p) = unrefused z (release_refusals z area_bytes journalWords h word w) (tt, (tt, (tt, (tt, (tt, (tt, (tt, (tt, tt)))))))) n in
    record {
      ok = ok;
      area_long = exact p.0;
      journal_long = exact p.1.0;
      header = not-false _ p.1.1.0;
      word_ok = touched (ltb w (kept z)) (progress_ok z word) p.1.1.1.0 (not-false _ p.1.1.1.1.1.0);
      opened = not-false _ p.1.1.1.1.0;
      stripe = inside p.1.1.1.1.1.0;
      computed = not-false _ p.1.1.1.1.1.1.0;
      receipted = not-false _ p.1.1.1.1.1.1.1.0;
    }

-- ---- calls on the whole store

pub record BeginAllowed (z : Shape) (area_bytes journalWords number : ℕ) : Type 0 where
  pub ok : InRanges z
  pub area_long : area_bytes ≡ area_length z
  pub journal_long : journalWords ≡ journal_length z
  pub number_there : number < 2 ^ 28

pub begin_allowed : (z : Shape) (area : List ℕ) (journalWords number : ℕ) → begin_refusal z area journalWords number ≡ 0
    → BeginAllowed z (length area) journalWords number
unfolding begin_refusal
begin_allowed z area journalWords number n =
    let (ok, p) = unrefused z (begin_refusals z area journalWords number) (tt, (tt, (tt, (tt, tt)))) n in
    record { ok = ok; area_long = exact p.0; journal_long = exact p.1.0; number_there = inside p.1.1.0 }

pub record WholeAllowed (z : Shape) (area_bytes : ℕ) (journal : List ℕ) : Type 0 where
  pub ok : InRanges z
  pub area_long : area_bytes ≡ area_length z
  pub journal_long : length journal ≡ journal_length z
  pub whole : whole_ok z journal ≡ true
  pub opened : counts_as_open (state_of (header_of journal)) ≡ true

pub close_allowed : (z : Shape) (area_bytes : ℕ) (journal : List ℕ) → close_refusal z area_bytes journal ≡ 0
    → WholeAllowed z area_bytes journal
unfolding close_refusal ended_refusal
close_allowed z area_bytes journal n =
    let (ok, p) = unrefused z (close_refusals z area_bytes journal) (tt, (tt, (tt, (tt, (tt, tt))))) n in
    record {
      ok = ok;
      area_long = exact p.0;
      journal_long = exact p.1.0;
      whole = not-false _ p.1.1.0;
      opened = not-false _ p.1.1.1.0;
    }

pub drive_allowed : (z : Shape) (area_bytes : ℕ) (journal : List ℕ) (spaceBytes : ℕ) → drive_refusal z area_bytes journal spaceBytes ≡ 0
    → WholeAllowed z area_bytes journal × (spaceBytes ≡ message_length z + receipt_length)
unfolding drive_refusal ended_refusal
drive_allowed z area_bytes journal spaceBytes n =
    let (ok, p) = unrefused z (drive_refusals z area_bytes journal spaceBytes) (tt, (tt, (tt, (tt, (tt, tt))))) n in (
      record {
        ok = ok;
        area_long = exact p.0;
        journal_long = exact p.1.0;
        whole = not-false _ p.1.1.1.0;
        opened = not-false _ p.1.1.1.1.0;
      },
      exact p.1.1.0,
    )

-- ---- locate

pub record ReadAllowed (z : Shape) (area_bytes : ℕ) (journal : List ℕ) (g d : ℕ) : Type 0 where
  pub ok : InRanges z
  pub area_long : area_bytes ≡ area_length z
  pub journal_long : length journal ≡ journal_length z
  pub header : header_ok z (header_of journal) ≡ true
  pub stripe : g < stripes z
  pub column : d < z.k

pub read_allowed : (z : Shape) (area_bytes : ℕ) (journal : List ℕ) (g d : ℕ) → read_refusal z area_bytes journal g d ≡ 0
    → ReadAllowed z area_bytes journal g d
unfolding read_refusal
read_allowed z area_bytes journal g d n =
    let (ok, p) = unrefused z (read_refusals z area_bytes journal g d) (tt, (tt, (tt, (tt, (tt, (tt, tt)))))) n in
    record {
      ok = ok;
      area_long = exact p.0;
      journal_long = exact p.1.0;
      header = not-false _ p.1.1.0;
      stripe = inside p.1.1.1.1.0;
      column = inside p.1.1.1.1.1.0;
    }
