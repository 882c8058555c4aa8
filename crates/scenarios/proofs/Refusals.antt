-- Every line of the refusal tables, by computation. Assumes nothing.
use mathlib.Core.Path.{refl}
use Rattle.scenarios.specs.Refusals.{EncodeRefusals, BeginRefusals, ComputeRefusals, SendRefusals, DeliverRefusals, ReceiptRefusals}
use Rattle.scenarios.specs.Refusals.{ReleaseRefusals, CloseRefusals, StatusRefusals, ReadRefusals, DriveRefusals, FirstThatApplies}
use Rattle.scenarios.specs.Refusals.{Refusals}
use Rattle.scenarios.proofs.Rebuilt.{rebuild_refusals}
use Rattle.scenarios.proofs.Opened.{blocks, layout, words, calls}

encode_refusals_law : EncodeRefusals
unfolding blocks layout words calls
encode_refusals_law =
    record {
      ranges = refl;
      new_nodes = refl;
      area_length_law = refl;
    }

begin_refusals_law : BeginRefusals
unfolding blocks layout words calls
begin_refusals_law =
    record {
      ranges = refl;
      new_nodes = refl;
      area_length_law = refl;
      journal_length_law = refl;
      growth_number = refl;
      parity = refl;
    }

compute_refusals_law : ComputeRefusals
unfolding blocks layout words calls
compute_refusals_law =
    record {
      ranges = refl;
      new_nodes = refl;
      area_length_law = refl;
      journal_length_law = refl;
      other_size_law = refl;
      wrong_kind_law = refl;
      unlisted_state_law = refl;
      other_shape_law = refl;
      touched_word = refl;
      closed = refl;
      stripe = refl;
    }

send_refusals_law : SendRefusals
unfolding blocks layout words calls
send_refusals_law =
    record {
      ranges = refl;
      new_nodes = refl;
      area_length_law = refl;
      journal_length_law = refl;
      space_length = refl;
      header = refl;
      touched_word = refl;
      closed = refl;
      stripe = refl;
      item = refl;
      not_computed = refl;
      released = refl;
    }

deliver_refusals_law : DeliverRefusals
unfolding blocks layout words calls
deliver_refusals_law =
    record {
      ranges = refl;
      new_nodes = refl;
      area_length_law = refl;
      journal_length_law = refl;
      message_length_law = refl;
      space_length = refl;
      header = refl;
      touched_word = refl;
      count_at_total = refl;
      closed = refl;
      node = refl;
      kind = refl;
      zero_bit = refl;
      stripe = refl;
      another_node = refl;
      another_growth = refl;
    }

receipt_refusals_law : ReceiptRefusals
unfolding blocks layout words calls
receipt_refusals_law =
    record {
      ranges = refl;
      new_nodes = refl;
      journal_length_law = refl;
      receipt_length_law = refl;
      header = refl;
      touched_word = refl;
      closed = refl;
      node = refl;
      kind = refl;
      another_sender = refl;
      another_growth = refl;
      not_computed = refl;
    }

release_refusals_law : ReleaseRefusals
unfolding blocks layout words calls
release_refusals_law =
    record {
      ranges = refl;
      new_nodes = refl;
      area_length_law = refl;
      journal_length_law = refl;
      header = refl;
      touched_word = refl;
      closed = refl;
      stripe = refl;
      not_computed = refl;
      unreceipted = refl;
    }

close_refusals_law : CloseRefusals
unfolding blocks layout words calls
close_refusals_law =
    record {
      ranges = refl;
      new_nodes = refl;
      area_length_law = refl;
      journal_length_law = refl;
      header = refl;
      word = refl;
      count = refl;
      closed = refl;
      unreleased = refl;
    }

status_refusals_law : StatusRefusals
unfolding blocks layout words calls
status_refusals_law =
    record {
      ranges = refl;
      new_nodes = refl;
      journal_length_law = refl;
      header = refl;
      word = refl;
      count = refl;
    }

read_refusals_law : ReadRefusals
unfolding blocks layout words calls
read_refusals_law =
    record {
      ranges = refl;
      new_nodes = refl;
      area_length_law = refl;
      journal_length_law = refl;
      header = refl;
      touched_word = refl;
      stripe = refl;
      column = refl;
    }

drive_refusals_law : DriveRefusals
unfolding blocks layout words calls
drive_refusals_law =
    record {
      ranges = refl;
      new_nodes = refl;
      area_length_law = refl;
      journal_length_law = refl;
      space_length = refl;
      header = refl;
      word = refl;
      count = refl;
      closed = refl;
    }

first_that_applies : FirstThatApplies
unfolding blocks layout words calls
first_that_applies =
    record {
      length_before_header = refl;
      header_before_closed = refl;
      closed_before_stripe = refl;
      node_before_form = refl;
      form_before_growth = refl;
      growth_before_stage = refl;
      uncomputed_before_released = refl;
      uncomputed_before_unreceipted = refl;
      number_before_parity = refl;
      malformed_touches_none = refl;
    }

pub refusals : Refusals
refusals =
    record {
      encodes = encode_refusals_law;
      begins = begin_refusals_law;
      computes = compute_refusals_law;
      sends = send_refusals_law;
      delivers = deliver_refusals_law;
      receipts = receipt_refusals_law;
      releases = release_refusals_law;
      closes = close_refusals_law;
      tells = status_refusals_law;
      reads = read_refusals_law;
      drives = drive_refusals_law;
      rebuilds = rebuild_refusals;
      order = first_that_applies;
    }
