-- All that is claimed of words, messages and receipts, for every shape in range. Assumes nothing.
use mathlib.Core.Path.{sym, ◌∙◌}
use mathlib.Core.List.{List}
use Prim.Native.Nat.{ℕ}
use Rattle.layout.specs.declared.Shape.{Shape}
use Rattle.layout.specs.Ranges.{InRanges}
use Rattle.layout.specs.Transfers.{transfer_kind}
use Rattle.wire.specs.Headers.{message_header, message}
use Rattle.wire.specs.Claims.{Transfer, Written, WireClaims}
use Rattle.wire.proofs.WordLaws.{words_hold}
use Rattle.wire.proofs.ByteLaws.{word_back, header_back, header_put, length_after, drop_header}
use Rattle.wire.proofs.FormLaws.{message_is, receipt_is, message_named, receipt_named, message_no_receipt, message_words}
use Rattle.wire.proofs.FormLaws.{header_names, message_formed, receipt_formed, receipt_of_law, receipt_of_formed, receipt_of_names}

module _ (z : Shape) (ok : InRanges z) where
  written : (w e number : ℕ) (payload : List ℕ) → Transfer z w e number → Written z w e number payload
  unfolding message
  written w e number payload t = record {
    long = length_after (message_header z w e number) payload;
    header = header_back (message_header z w e number) payload (message_words z ok w e number t);
    body = drop_header (message_header z w e number) payload;
    form = message_formed z ok w e number t;
    names = header_names z ok (transfer_kind z w e) w e number t;
    receipt = receipt_of_law z ok (transfer_kind z w e) w e number t;
    receipt_form = receipt_formed z ok w e number t;
    receipt_names = header_names z ok 4 w e number t;
  }

  pub wire_holds : WireClaims z
  wire_holds = record {
    words = words_hold;
    word_back = word_back;
    header_back = header_back;
    put_back = header_put;
    written = written;
    message_is = message_is z;
    receipt_is = receipt_is z;
    same_message = λ w e number h g p q m n. message_named z w e number h p m ∙ sym (message_named z w e number g q n);
    same_receipt = λ w e number h g p q m n. receipt_named z w e number h p m ∙ sym (receipt_named z w e number g q n);
    receipted = λ h m. record { form = receipt_of_formed z ok h m; names = receipt_of_names z ok h m };
    apart = message_no_receipt z;
  }
