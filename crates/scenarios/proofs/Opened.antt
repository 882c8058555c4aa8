-- All definitions that a call is computed through, under one name a layer: to unfold the name is to unfold them. Assumes nothing.
use Rattle.base.specs.Folds.{run, sum, total, table, filter_range, count_range, find}
use Rattle.base.specs.Tests.{below, every, some}
use Rattle.gf256.specs.Field.{xtime, mul_bits, mul, pow, xor_sum}
use Rattle.area.specs.Area.{block, writes, put, zeros, same_bytes, slot, put_slot, xor_blocks}
use Rattle.combine.specs.Combination.{combination}
use Rattle.code.specs.Rows.{coefficient, parity_row, delta}
use Rattle.layout.specs.Addresses.{node_slots, node_start, address, area_slots, area_length}
use Rattle.layout.specs.Closed.{swapped, swap_index, new_row_node, new_block_node, new_data_node, new_node}
use Rattle.layout.specs.Columns.{new_stripe, new_column, old_stripe, old_column, has_moved, standing_node, standing_slot}
use Rattle.layout.specs.Counts.{kept, dissolved, stripes, straight_stripes, transfers, all_transfers}
use Rattle.layout.specs.Nodes.{row_node, data_node, has_data, column_on}
use Rattle.layout.specs.Ranges.{shape_refusal}
use Rattle.layout.specs.Sources.{listing, source_node, source_rank, source_slot, source_column, block_rank, target_stripe, target_index}
use Rattle.layout.specs.Transfers.{sender, receiver, transfer_kind}
use Rattle.wire.specs.Words.{word_at, stripe_word, route_word, state_word, size_word, growth_word, accepted_word, progress_word, count_word}
use Rattle.wire.specs.Words.{bit}
use Rattle.wire.specs.Forms.{same_words, well_formed, is_message, is_receipt, for_another_node, for_another_sender, of_another_growth}
use Rattle.wire.specs.Headers.{header_for, header_bytes, message, header_at, stripe_of, transfer_of, number_of, receipt_of}
use Rattle.records.specs.Conditions.{only_named, accepted_ok, progress_ok, record_ok}
use Rattle.records.specs.Records.{is_accepted, is_receipted, is_computed, is_released, set_bit, accept, receipt as receiptMark}
use Rattle.records.specs.Records.{compute as computeMark, release as releaseMark}
use Rattle.journal.specs.Fresh.{fresh_pairs, fresh_journal}
use Rattle.journal.specs.Journal.{header_of, put_header, state_of, number_of as growth_of, count_of, header_ok, journal_length, record_at}
use Rattle.journal.specs.Journal.{put_record}
use Rattle.journal.specs.States.{listed_state, counts_as_open, is_closed, ended_refusal}
use Rattle.journal.specs.Status.{status_refusal, status}
use Rattle.journal.specs.Whole.{marks, whole_ok}
use Rattle.protocol.specs.Drive.{drive_transfer, drive_transfers, drive_stripe, drive_stripes, driven}
use Rattle.growth.specs.Cells.{cell, put_cell, zero_cells, column, row, parity_of, new_block, delta_of}
use Rattle.growth.specs.Encode.{encode_refusal, encode_stripe, encoded_area, encode}
use Rattle.growth.specs.Begin.{stripe_holds, begin_refusal, begun_area, begin}
use Rattle.growth.specs.Compute.{compute_refusal, computed_area, computed_journal, compute}
use Rattle.growth.specs.Send.{send_refusal, payload_from, payload, send}
use Rattle.growth.specs.Deliver.{room_for, deliver_refusal, received, delivered_area, counted_up, delivered_journal, deliver}
use Rattle.growth.specs.Receipt.{receipt_refusal, receipted_journal, receipt}
use Rattle.growth.specs.Release.{release_refusal, moved_area, zero_sources, released_area, released_journal, release}
use Rattle.growth.specs.Close.{close_refusal, cleared_area, closed_header, close}
use Rattle.growth.specs.Read.{read_refusal, offset_of, locate, read}
use Rattle.growth.specs.Drive.{drive_refusal, compute_on, send_on, deliver_on, receipt_on, pass_on, release_on, driven_store, drive}
use Rattle.growth.specs.ClosedArea.{new_stripe_column, new_stripe_row, new_stripe_block, put_stripe, closed_area}
use Rattle.scenarios.specs.Walks.{encodes, begins, computes, sends, delivers, receipts, releases, closes, passes, moves, grows}
use Rattle.scenarios.specs.Walks.{lends, begun, grown, closed}

-- bytes and blocks, sums and parity rows
unfoldable pub blocks : Unit {0}
unfolding run sum total table below every some xtime mul_bits mul pow xor_sum block writes put zeros same_bytes slot put_slot
    xor_blocks combination coefficient parity_row delta
blocks = tt

-- where blocks stand, before and after, and which transfers there are
unfoldable pub layout : Unit {0}
unfolding node_slots node_start address area_slots area_length swapped swap_index new_row_node new_block_node new_data_node new_node
    new_stripe
    new_column old_stripe old_column has_moved standing_node standing_slot kept dissolved stripes straight_stripes transfers all_transfers
    filter_range count_range find row_node data_node has_data column_on shape_refusal listing source_node source_rank source_slot
    source_column block_rank target_stripe target_index sender receiver transfer_kind
layout = tt

-- words, messages and the journal
unfoldable pub words : Unit {0}
unfolding word_at same_words well_formed is_message is_receipt for_another_node for_another_sender of_another_growth header_for
    header_bytes message header_at stripe_of transfer_of number_of receipt_of stripe_word route_word state_word size_word growth_word
    accepted_word progress_word count_word bit only_named accepted_ok progress_ok record_ok is_accepted is_receipted is_computed is_released
    set_bit accept receiptMark computeMark releaseMark fresh_pairs fresh_journal header_of put_header state_of growth_of count_of
    header_ok journal_length record_at put_record listed_state counts_as_open is_closed ended_refusal status_refusal status marks
    whole_ok
words = tt

-- the calls of a growth, and the closed area
unfoldable pub calls : Unit {0}
unfolding cell put_cell zero_cells column row parity_of new_block delta_of encode_refusal encode_stripe encoded_area encode stripe_holds
    begin_refusal begun_area begin compute_refusal computed_area computed_journal compute send_refusal payload_from payload send room_for
    deliver_refusal received delivered_area counted_up delivered_journal deliver receipt_refusal receipted_journal receipt
    release_refusal moved_area zero_sources released_area released_journal release close_refusal cleared_area closed_header close
    read_refusal offset_of locate read drive_transfer drive_transfers drive_stripe drive_stripes driven drive_refusal compute_on send_on
    deliver_on receipt_on pass_on release_on driven_store drive new_stripe_column new_stripe_row new_stripe_block put_stripe closed_area
calls = tt

-- the walks through them
unfoldable pub walks : Unit {0}
unfolding encodes begins computes sends delivers receipts releases closes passes moves grows lends begun grown closed
walks = tt
