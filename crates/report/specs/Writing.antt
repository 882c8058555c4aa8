-- What a report holds (the contract of `report` uses `written`), and for the code's inner functions what it is to append to it and to
-- compare it. Assumes nothing.
use Rattle.std.specs.Prelude.{◌≡◌, Bool, true, false, List, ◌++◌, ℕ, ◌+◌, ◌≤◌, length, take}
use Rattle.report.specs.declared.text.Report.{Report}

-- the text of a report: the first `length` of its 128 bytes
unfoldable pub written : Report → List ℕ
written r = take r.length r.text

-- a report has room for so many bytes more
pub record Room (r : Report) (bytes : ℕ) : Type 0 where
  pub whole : length r.text ≡ 128
  pub fits : r.length + bytes ≤ 128

-- q is r with the bytes appended
pub record Appends (r : Report) (bytes : List ℕ) (q : Report) : Type 0 where
  pub text : written q ≡ written r ++ bytes
  pub longer : q.length ≡ r.length + length bytes
  pub fits : q.length ≤ 128
  pub whole : length q.text ≡ 128

-- r is a report of the bytes
pub record Holds (bytes : List ℕ) (r : Report) : Type 0 where
  pub text : written r ≡ bytes
  pub fits : r.length ≤ 128
  pub whole : length r.text ≡ 128

-- the answer of a comparison of two texts
pub record Compares (a b : List ℕ) (answer : Bool) : Type 0 where
  pub same : answer ≡ true → a ≡ b
  pub differ : answer ≡ false → a ≡ b → ⊥
