-- What `==` and `starts_with` say of two texts. Assumes nothing.
use mathlib.Core.Path.{◌≡◌, sym, ap}
use mathlib.Core.Bool.{Bool, false}
use mathlib.Core.List.{List}
use Prim.Native.Nat.{ℕ, ◌≤◌}
use lib.Dec.{eqb}
use lib.ListN.{length}
use lib.Seq.{take_all}
use Rattle.std.specs.List.{starts_with}
use Rattle.std.specs.Str.{bytes_eq}
use Rattle.std.proofs.lemmas.Slice.Eq.{slice_eq-Decides}
use Rattle.std.proofs.lemmas.Bool.Decides.{Decides-eqb, not_from_Decides}
use Rattle.report.specs.Writing.{Compares}

pub compares : (a b : List ℕ) (answer : Bool) → answer ≡ bytes_eq a b → Compares a b answer
compares a b answer e =
    let d = slice_eq-Decides Decides-eqb a b answer e in record { same = d.0; differ = not_from_Decides answer d }

-- b starts with a, and is no longer
pub starts_compares : (a b : List ℕ) (answer : Bool) → length b ≤ length a → answer ≡ starts_with eqb b a → Compares a b answer
starts_compares a b answer short e = compares a b answer (rw (take_all (length a) b short) at e)

pub lengths_differ : (a b : List ℕ) → (length b ≡ length a → ⊥) → Compares a b false
lengths_differ a b h = record { same = λ e. cc; differ = λ e same. h (ap length (sym same)) }
