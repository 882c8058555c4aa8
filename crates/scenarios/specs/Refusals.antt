-- Document 01, "Who can cause a no": every number of every call, reached on the small store: fresh, part of the way (stripe 0 released,
-- stripe 1 accepted and not receipted, the others fresh), closed, or damaged. Assumes nothing.
use Rattle.std.specs.Prelude.{◌≡◌, [], ◌^◌}
use Rattle.answer.specs.Answers.{refused}
use Rattle.answer.specs.Located as Locate
use Rattle.journal.specs.Status.{status}
use Rattle.journal.specs.StatusAnswer as Tell
use Rattle.growth.specs.Encode.{encode}
use Rattle.growth.specs.Begin.{begin}
use Rattle.growth.specs.Compute.{compute}
use Rattle.growth.specs.Send.{send}
use Rattle.growth.specs.Deliver.{deliver}
use Rattle.growth.specs.Receipt.{receipt}
use Rattle.growth.specs.Release.{release}
use Rattle.growth.specs.Close.{close}
use Rattle.growth.specs.Read.{locate}
use Rattle.growth.specs.Drive.{drive}
use Rattle.scenarios.specs.Small.{small, lent_bytes, begun_bytes, fresh_words, part_bytes, part_words, part_message, part_receipt}
use Rattle.scenarios.specs.Small.{closed_bytes, closed_words}
use Rattle.scenarios.specs.Rebuilt.{RebuildRefusals}
use Rattle.scenarios.specs.Refused.{no_parity, many_new, message_space, receipt_space, drive_space, other_size, wrong_kind, unlisted_state}
use Rattle.scenarios.specs.Refused.{other_shape, closed_other_size, accepted_unnamed, progress_unnamed, count_full, released_uncomputed}
use Rattle.scenarios.specs.Refused.{change_kind, zero_bit_set, stripe_six, other_growth, change_other_growth, data_kind_receipt}
use Rattle.scenarios.specs.Refused.{other_growth_receipt, early_receipt, early_other_growth}

pub record EncodeRefusals : Type 0 where
  pub ranges : (encode no_parity lent_bytes).answer ≡ refused 1
  pub new_nodes : (encode many_new lent_bytes).answer ≡ refused 2
  pub area_length_law : (encode small []).answer ≡ refused 3

pub record BeginRefusals : Type 0 where
  pub ranges : (begin no_parity begun_bytes fresh_words 5).answer ≡ refused 1
  pub new_nodes : (begin many_new begun_bytes fresh_words 5).answer ≡ refused 2
  pub area_length_law : (begin small [] fresh_words 5).answer ≡ refused 3
  pub journal_length_law : (begin small begun_bytes [] 5).answer ≡ refused 3
  pub growth_number : (begin small begun_bytes fresh_words (2 ^ 28)).answer ≡ refused 5
  -- the area before it was encoded
  pub parity : (begin small lent_bytes fresh_words 5).answer ≡ refused 12

pub record ComputeRefusals : Type 0 where
  pub ranges : (compute no_parity begun_bytes fresh_words 0).answer ≡ refused 1
  pub new_nodes : (compute many_new begun_bytes fresh_words 0).answer ≡ refused 2
  pub area_length_law : (compute small [] fresh_words 0).answer ≡ refused 3
  pub journal_length_law : (compute small begun_bytes [] 0).answer ≡ refused 3
  pub other_size_law : (compute small begun_bytes other_size 0).answer ≡ refused 4
  pub wrong_kind_law : (compute small begun_bytes wrong_kind 0).answer ≡ refused 4
  pub unlisted_state_law : (compute small begun_bytes unlisted_state 0).answer ≡ refused 4
  pub other_shape_law : (compute small begun_bytes other_shape 0).answer ≡ refused 4
  pub touched_word : (compute small part_bytes progress_unnamed 1).answer ≡ refused 4
  pub closed : (compute small closed_bytes closed_words 0).answer ≡ refused 13
  pub stripe : (compute small begun_bytes fresh_words 6).answer ≡ refused 5

pub record SendRefusals : Type 0 where
  pub ranges : (send no_parity part_bytes part_words 1 0 message_space).answer ≡ refused 1
  pub new_nodes : (send many_new part_bytes part_words 1 0 message_space).answer ≡ refused 2
  pub area_length_law : (send small [] part_words 1 0 message_space).answer ≡ refused 3
  pub journal_length_law : (send small part_bytes [] 1 0 message_space).answer ≡ refused 3
  pub space_length : (send small part_bytes part_words 1 0 receipt_space).answer ≡ refused 3
  pub header : (send small begun_bytes other_size 1 0 message_space).answer ≡ refused 4
  pub touched_word : (send small part_bytes progress_unnamed 1 0 message_space).answer ≡ refused 4
  pub closed : (send small closed_bytes closed_words 1 0 message_space).answer ≡ refused 13
  pub stripe : (send small part_bytes part_words 6 0 message_space).answer ≡ refused 5
  pub item : (send small part_bytes part_words 1 1 message_space).answer ≡ refused 5
  pub not_computed : (send small part_bytes part_words 2 0 message_space).answer ≡ refused 6
  pub released : (send small part_bytes part_words 0 0 message_space).answer ≡ refused 7

pub record DeliverRefusals : Type 0 where
  pub ranges : (deliver no_parity part_bytes part_words 2 part_message receipt_space).answer ≡ refused 1
  pub new_nodes : (deliver many_new part_bytes part_words 2 part_message receipt_space).answer ≡ refused 2
  pub area_length_law : (deliver small [] part_words 2 part_message receipt_space).answer ≡ refused 3
  pub journal_length_law : (deliver small part_bytes [] 2 part_message receipt_space).answer ≡ refused 3
  pub message_length_law : (deliver small part_bytes part_words 2 part_receipt receipt_space).answer ≡ refused 3
  pub space_length : (deliver small part_bytes part_words 2 part_message message_space).answer ≡ refused 3
  pub header : (deliver small begun_bytes other_size 2 part_message receipt_space).answer ≡ refused 4
  pub touched_word : (deliver small part_bytes accepted_unnamed 2 part_message receipt_space).answer ≡ refused 4
  pub count_at_total : (deliver small begun_bytes count_full 2 part_message receipt_space).answer ≡ refused 4
  pub closed : (deliver small closed_bytes closed_words 2 part_message receipt_space).answer ≡ refused 13
  pub node : (deliver small part_bytes part_words 3 part_message receipt_space).answer ≡ refused 5
  pub kind : (deliver small part_bytes part_words 2 change_kind receipt_space).answer ≡ refused 9
  pub zero_bit : (deliver small part_bytes part_words 2 zero_bit_set receipt_space).answer ≡ refused 9
  pub stripe : (deliver small part_bytes part_words 2 stripe_six receipt_space).answer ≡ refused 9
  pub another_node : (deliver small part_bytes part_words 0 part_message receipt_space).answer ≡ refused 9
  pub another_growth : (deliver small part_bytes part_words 2 other_growth receipt_space).answer ≡ refused 10

pub record ReceiptRefusals : Type 0 where
  pub ranges : (receipt no_parity part_words 1 part_receipt).answer ≡ refused 1
  pub new_nodes : (receipt many_new part_words 1 part_receipt).answer ≡ refused 2
  pub journal_length_law : (receipt small [] 1 part_receipt).answer ≡ refused 3
  pub receipt_length_law : (receipt small part_words 1 part_message).answer ≡ refused 3
  pub header : (receipt small other_size 1 part_receipt).answer ≡ refused 4
  pub touched_word : (receipt small progress_unnamed 1 part_receipt).answer ≡ refused 4
  pub closed : (receipt small closed_words 1 part_receipt).answer ≡ refused 13
  pub node : (receipt small part_words 3 part_receipt).answer ≡ refused 5
  pub kind : (receipt small part_words 1 data_kind_receipt).answer ≡ refused 9
  pub another_sender : (receipt small part_words 0 part_receipt).answer ≡ refused 9
  pub another_growth : (receipt small part_words 1 other_growth_receipt).answer ≡ refused 10
  pub not_computed : (receipt small part_words 0 early_receipt).answer ≡ refused 6

pub record ReleaseRefusals : Type 0 where
  pub ranges : (release no_parity part_bytes part_words 1).answer ≡ refused 1
  pub new_nodes : (release many_new part_bytes part_words 1).answer ≡ refused 2
  pub area_length_law : (release small [] part_words 1).answer ≡ refused 3
  pub journal_length_law : (release small part_bytes [] 1).answer ≡ refused 3
  pub header : (release small begun_bytes other_size 1).answer ≡ refused 4
  pub touched_word : (release small part_bytes progress_unnamed 1).answer ≡ refused 4
  pub closed : (release small closed_bytes closed_words 1).answer ≡ refused 13
  pub stripe : (release small part_bytes part_words 6).answer ≡ refused 5
  pub not_computed : (release small part_bytes part_words 2).answer ≡ refused 6
  pub unreceipted : (release small part_bytes part_words 1).answer ≡ refused 8

pub record CloseRefusals : Type 0 where
  pub ranges : (close no_parity part_bytes part_words).answer ≡ refused 1
  pub new_nodes : (close many_new part_bytes part_words).answer ≡ refused 2
  pub area_length_law : (close small [] part_words).answer ≡ refused 3
  pub journal_length_law : (close small part_bytes []).answer ≡ refused 3
  pub header : (close small begun_bytes other_size).answer ≡ refused 4
  pub word : (close small part_bytes progress_unnamed).answer ≡ refused 4
  pub count : (close small begun_bytes count_full).answer ≡ refused 4
  pub closed : (close small closed_bytes closed_words).answer ≡ refused 13
  pub unreleased : (close small part_bytes part_words).answer ≡ refused 8

-- 13 is not for status and read
pub record StatusRefusals : Type 0 where
  pub ranges : status no_parity part_words ≡ Tell.Refused 1
  pub new_nodes : status many_new part_words ≡ Tell.Refused 2
  pub journal_length_law : status small [] ≡ Tell.Refused 3
  pub header : status small other_size ≡ Tell.Refused 4
  pub word : status small progress_unnamed ≡ Tell.Refused 4
  pub count : status small count_full ≡ Tell.Refused 4

-- block (6, 0) becomes new block 0 of stripe 1
pub record ReadRefusals : Type 0 where
  pub ranges : locate no_parity 30 part_words 6 0 ≡ Locate.Refused 1
  pub new_nodes : locate many_new 30 part_words 6 0 ≡ Locate.Refused 2
  pub area_length_law : locate small 29 part_words 6 0 ≡ Locate.Refused 3
  pub journal_length_law : locate small 30 [] 6 0 ≡ Locate.Refused 3
  pub header : locate small 30 other_size 0 0 ≡ Locate.Refused 4
  pub touched_word : locate small 30 progress_unnamed 6 0 ≡ Locate.Refused 4
  pub stripe : locate small 30 part_words 12 0 ≡ Locate.Refused 5
  pub column : locate small 30 part_words 6 1 ≡ Locate.Refused 5

pub record DriveRefusals : Type 0 where
  pub ranges : (drive no_parity part_bytes part_words drive_space 6).answer ≡ refused 1
  pub new_nodes : (drive many_new part_bytes part_words drive_space 6).answer ≡ refused 2
  pub area_length_law : (drive small [] part_words drive_space 6).answer ≡ refused 3
  pub journal_length_law : (drive small part_bytes [] drive_space 6).answer ≡ refused 3
  pub space_length : (drive small part_bytes part_words message_space 6).answer ≡ refused 3
  pub header : (drive small begun_bytes other_size drive_space 6).answer ≡ refused 4
  pub word : (drive small part_bytes progress_unnamed drive_space 6).answer ≡ refused 4
  pub count : (drive small begun_bytes count_full drive_space 6).answer ≡ refused 4
  pub closed : (drive small closed_bytes closed_words drive_space 6).answer ≡ refused 13

-- where two apply: first that applies of 1, 2, 3, 4, 13, 5, 9, 10, 6, 7, 8, 11, 12
pub record FirstThatApplies : Type 0 where
  pub length_before_header : (compute small [] other_size 0).answer ≡ refused 3
  pub header_before_closed : (compute small closed_bytes closed_other_size 0).answer ≡ refused 4
  pub closed_before_stripe : (compute small closed_bytes closed_words 6).answer ≡ refused 13
  pub node_before_form : (deliver small part_bytes part_words 3 change_kind receipt_space).answer ≡ refused 5
  pub form_before_growth : (deliver small part_bytes part_words 2 change_other_growth receipt_space).answer ≡ refused 9
  pub growth_before_stage : (receipt small part_words 0 early_other_growth).answer ≡ refused 10
  pub uncomputed_before_released : (send small part_bytes released_uncomputed 2 0 message_space).answer ≡ refused 6
  pub uncomputed_before_unreceipted : (release small begun_bytes fresh_words 0).answer ≡ refused 6
  pub number_before_parity : (begin small lent_bytes fresh_words (2 ^ 28)).answer ≡ refused 5
  -- a touched word there is only for a well-formed message
  pub malformed_touches_none : (deliver small part_bytes accepted_unnamed 2 change_kind receipt_space).answer ≡ refused 9

pub record Refusals : Type 0 where
  pub encodes : EncodeRefusals
  pub begins : BeginRefusals
  pub computes : ComputeRefusals
  pub sends : SendRefusals
  pub delivers : DeliverRefusals
  pub receipts : ReceiptRefusals
  pub releases : ReleaseRefusals
  pub closes : CloseRefusals
  pub tells : StatusRefusals
  pub reads : ReadRefusals
  pub drives : DriveRefusals
  pub rebuilds : RebuildRefusals
  pub order : FirstThatApplies
