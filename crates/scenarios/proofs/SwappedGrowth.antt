-- The growth of the store with swapped stripes, by computation. Both walks are computed from the store that begin left. Assumes nothing.
use mathlib.Core.Path.{◌≡◌, refl, ap, ◌∙◌}
use mathlib.Core.Bool.{true}
use mathlib.Core.List.{List, ◌∷◌, ◌++◌}
use Prim.Native.Nat.{ℕ}
use lib.ListN.{replicate}
use Rattle.base.specs.Folds.{run}
use Rattle.base.specs.Tests.{every}
use Rattle.answer.specs.Answers.{Answer, done}
use Rattle.layout.specs.Counts.{kept}
use Rattle.layout.specs.Closed.{swap_index}
use Rattle.journal.specs.Fresh.{fresh_journal}
use Rattle.journal.specs.Status.{status}
use Rattle.journal.specs.StatusAnswer.{State}
use Rattle.journal.specs.StatusAnswer.{StatusAnswer}
use Rattle.growth.specs.ClosedArea.{closed_area}
use Rattle.scenarios.specs.Walks.{Walk, grows, closes, begun, grown, closed}
use Rattle.scenarios.specs.SwappedGrowth.{WideSizes, TwoSwapped, SwappedGrowth, wide, wide_lent, repeat_answers, grows_with_repeat}
use Rattle.scenarios.specs.SwappedGrowth.{two_stripes, stands_closed, sources_zero}
use Rattle.scenarios.proofs.Opened.{blocks, layout, words, calls, walks}
use Rattle.scenarios.proofs.WideBytes.{begun_bytes, two_bytes, closed_bytes}

pub wide_sizes : WideSizes
unfolding blocks layout words calls
wide_sizes =
    record {
      kept_stripes = refl;
      dissolved_stripes = refl;
      all_stripes = refl;
      straight_stripes_law = refl;
      area_bytes = refl;
      journal_words = refl;
      parity_rows = refl;
      stripe_transfers = refl;
    }

-- ---- each walk, computed once

-- encode and begin
abbrev begun_walk : Walk
begun_walk = record {
  area = begun_bytes;
  journal = fresh_journal wide 5;
  message = replicate 17 0;
  receipt = replicate 16 0;
  answers = replicate 2 done;
}

begun_is : begun wide wide_lent ≡ begun_walk
unfolding blocks layout words calls walks wide_lent
begun_is = refl

-- what the examples look at in a store on its walk
record Seen : Type 0 where
  area : List ℕ
  answers : List Answer
  tells : StatusAnswer

unfoldable seen : Walk → Seen
seen c = record { area = c.area; answers = c.answers; tells = status wide c.journal }

-- and stripes 0 and 1
abbrev two_seen : Seen
two_seen = record { area = two_bytes; answers = done ∷ done ∷ (repeat_answers ++ repeat_answers); tells = State 1 8 }

abbrev grows_two : Walk → Walk
grows_two c = grows_with_repeat 1 (grows_with_repeat 0 c)

two_on : seen (grows_two begun_walk) ≡ two_seen
unfolding blocks layout words calls walks grows_with_repeat seen
two_on = refl

two_is : seen two_stripes ≡ two_seen
unfolding two_stripes
two_is = ap (λ (c : Walk). seen (grows_two c)) begun_is ∙ two_on

-- and all stripes, and close
abbrev closed_seen : Seen
closed_seen = record { area = closed_bytes; answers = replicate 339 done; tells = State 2 96 }

abbrev grows_all : Walk → Walk
grows_all c = closes wide (run (grows wide) 0 (kept wide) c)

closed_on : seen (grows_all begun_walk) ≡ closed_seen
unfolding blocks layout words calls walks seen
closed_on = refl

closed_is : seen (closed wide wide_lent) ≡ closed_seen
unfolding closed grown
closed_is = ap (λ (c : Walk). seen (grows_all c)) begun_is ∙ closed_on

-- ---- the tests, on their bytes

both_turns : (swap_index wide 0 ≡ 0) × (swap_index wide 1 ≡ 1)
unfolding layout
both_turns = (refl, refl)

both_stand : every 2 (stands_closed begun_bytes two_bytes) ≡ true
unfolding blocks layout words calls stands_closed
both_stand = refl

both_zero : every 2 (sources_zero two_bytes) ≡ true
unfolding blocks layout words calls sources_zero
both_zero = refl

as_layout : closed_bytes ≡ closed_area wide begun_bytes
unfolding blocks layout words calls
as_layout = refl

-- ---- so the walks' own areas pass them

two_area : two_stripes.area ≡ two_bytes
unfolding seen
two_area = ap (λ (s : Seen). s.area) two_is

closed_area_law : (closed wide wide_lent).area ≡ closed_bytes
unfolding seen
closed_area_law = ap (λ (s : Seen). s.area) closed_is

two_stand : every 2 (stands_closed (begun wide wide_lent).area two_stripes.area) ≡ true
two_stand = rw (begun_is, two_area) both_stand

two_zero : every 2 (sources_zero two_stripes.area) ≡ true
two_zero = rw two_area both_zero

closed_layout : (closed wide wide_lent).area ≡ closed_area wide (begun wide wide_lent).area
closed_layout = rw (closed_area_law, begun_is) as_layout

-- ---- the two growths

pub two_swapped : TwoSwapped
unfolding seen
two_swapped =
    record {
      turns = both_turns;
      answers = ap (λ (s : Seen). s.answers) two_is;
      stands = two_stand;
      sources = two_zero;
      tells = ap (λ (s : Seen). s.tells) two_is;
    }

pub swapped_growth : SwappedGrowth
unfolding seen
swapped_growth =
    record {
      answers = ap (λ (s : Seen). s.answers) closed_is;
      layout = closed_layout;
      tells = ap (λ (s : Seen). s.tells) closed_is;
    }
