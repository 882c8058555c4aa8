-- The small store's growth, by computation. Each walk is computed from the store that the one before it left. Assumes nothing.
use mathlib.Core.Path.{◌≡◌, refl, ap, ◌∙◌}
use Prim.Native.Nat.{ℕ}
use lib.ListN.{replicate}
use Rattle.base.specs.Folds.{run}
use Rattle.answer.specs.Answers.{done}
use Rattle.layout.specs.Counts.{kept}
use Rattle.journal.specs.Status.{status}
use Rattle.journal.specs.StatusAnswer.{State}
use Rattle.growth.specs.ClosedArea.{closed_area}
use Rattle.scenarios.specs.Walks.{Walk, computes, sends, delivers, moves, grows, closes, begun, grown, closed}
use Rattle.scenarios.specs.Small.{small, lent_bytes, begun_bytes, fresh_words, part_bytes, part_words, part_message, part_receipt}
use Rattle.scenarios.specs.Small.{moved_bytes, receipted_words, accepted_words, last_message, last_receipt, released_bytes, released_words}
use Rattle.scenarios.specs.Small.{closed_bytes, closed_words}
use Rattle.scenarios.specs.SmallGrowth.{SmallSizes, SmallGrowth, SmallStages, SmallReads, partly, all_receipted, all_accepted}
use Rattle.scenarios.proofs.Opened.{blocks, layout, words, calls, walks}

pub small_sizes : SmallSizes
unfolding blocks layout words calls
small_sizes =
    record {
      kept_stripes = refl;
      dissolved_stripes = refl;
      all_stripes = refl;
      area_bytes = refl;
      journal_words = refl;
      parity_rows = refl;
      stripe_transfers = refl;
    }

-- ---- from encode to close

-- encode and begin
abbrev begun_walk : Walk
begun_walk =
    record { area = begun_bytes; journal = fresh_words; message = replicate 17 0; receipt = replicate 16 0; answers = replicate 2 done }

begun_is : begun small lent_bytes ≡ begun_walk
unfolding blocks layout words calls walks
begun_is = refl

-- and all calls of all stripes
abbrev grown_walk : Walk
grown_walk =
    record { area = released_bytes; journal = released_words; message = last_message; receipt = last_receipt; answers = replicate 32 done }

grows_on : run (grows small) 0 (kept small) begun_walk ≡ grown_walk
unfolding blocks layout words calls walks
grows_on = refl

grown_is : grown small lent_bytes ≡ grown_walk
unfolding grown
grown_is = ap (run (grows small) 0 (kept small)) begun_is ∙ grows_on

-- and close
abbrev closed_walk : Walk
closed_walk =
    record { area = closed_bytes; journal = closed_words; message = last_message; receipt = last_receipt; answers = replicate 33 done }

closes_on : closes small grown_walk ≡ closed_walk
unfolding blocks layout words calls walks
closes_on = refl

closed_is : closed small lent_bytes ≡ closed_walk
unfolding closed
closed_is = ap (closes small) grown_is ∙ closes_on

as_layout : closed_bytes ≡ closed_area small begun_bytes
unfolding blocks layout words calls
as_layout = refl

all_told : status small closed_words ≡ State 2 6
unfolding blocks layout words calls
all_told = refl

pub small_growth : SmallGrowth
small_growth =
    record {
      begins = begun_is;
      grows = grown_is;
      closes = closed_is;
      layout = rw (closed_is, begun_is) as_layout;
      tells = rw closed_is all_told;
    }

-- ---- on the way

-- stripe 0 released, stripe 1 accepted
abbrev part_walk : Walk
part_walk = record { area = part_bytes; journal = part_words; message = part_message; receipt = part_receipt; answers = replicate 10 done }

abbrev goes_partly : Walk → Walk
goes_partly c = delivers small 1 0 (sends small 1 0 (computes small 1 (grows small 0 c)))

part_on : goes_partly begun_walk ≡ part_walk
unfolding blocks layout words calls walks
part_on = refl

part_is : partly ≡ part_walk
unfolding partly
part_is = ap goes_partly begun_is ∙ part_on

-- every stripe receipted
abbrev receipted_walk : Walk
receipted_walk =
    record { area = moved_bytes; journal = receipted_words; message = last_message; receipt = last_receipt; answers = replicate 26 done }

receipted_on : run (moves small) 0 6 begun_walk ≡ receipted_walk
unfolding blocks layout words calls walks
receipted_on = refl

receipted_is : all_receipted ≡ receipted_walk
unfolding all_receipted
receipted_is = ap (run (moves small) 0 6) begun_is ∙ receipted_on

-- every stripe accepted
abbrev accepted_walk : Walk
accepted_walk =
    record { area = moved_bytes; journal = accepted_words; message = last_message; receipt = last_receipt; answers = replicate 20 done }

abbrev accepts : ℕ → Walk → Walk
accepts w c = delivers small w 0 (sends small w 0 (computes small w c))

accepted_on : run accepts 0 6 begun_walk ≡ accepted_walk
unfolding blocks layout words calls walks
accepted_on = refl

accepted_is : all_accepted ≡ accepted_walk
unfolding all_accepted
accepted_is = ap (run accepts 0 6) begun_is ∙ accepted_on

pub small_stages : SmallStages
unfolding blocks layout words calls
small_stages = record { part = part_is; receipted = receipted_is; accepted = accepted_is; repeat = refl }

pub small_reads : SmallReads
unfolding blocks layout words calls
small_reads = record { unreleased = refl; released = refl; moved = refl; at_first = refl; meanwhile = refl; at_last = refl }
