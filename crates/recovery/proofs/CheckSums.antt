-- The solver's checks vanish on a stripe exactly if some data agree with it. Assumes nothing.
use mathlib.Core.Path.{◌≡◌, refl, sym, ap, ◌∙◌}
use mathlib.Core.List.{List}
use mathlib.Core.Bool.{Bool, true, false}
use mathlib.Core.Logic.{◌⊎◌, inl, inr}
use Prim.Native.Nat.{ℕ, ◌<◌}
use native.Mathlib.Omega.{arith}
use lib.ListN.{get_or}
use Rattle.base.specs.Tests.{every}
use Rattle.base.proofs.Tests.{clash, every_at, every_intro}
use Rattle.area.specs.Area.{zeros, same_bytes, slot}
use Rattle.area.proofs.Blocks.{length_zeros, same_bytes_eq, same_bytes_refl}
use Rattle.combine.specs.Combination.{combination}
use Rattle.combine.proofs.Laws.{length_combination}
use Rattle.code.specs.Rows.{coefficient}
use Rattle.code.specs.Agreement.{Agrees}
use Rattle.elimination.specs.Matrix.{weighted}
use Rattle.elimination.proofs.RowLaws.{ByteList}
use Rattle.solver.specs.Losses.{OverPresent}
use Rattle.code.specs.Fixing.{encoded, Matches}
use Rattle.solver.specs.Solution.{solved, check_row}
use Rattle.solver.specs.Claims.{Solvable, SolverClaims}
use Rattle.solver.proofs.Encodings.{encoded_byte, over_same}
use Rattle.solver.proofs.LossLaws.{present_byte}
use Rattle.recovery.specs.Rebuild.{None}
use Rattle.recovery.proofs.Vectors.{vector, vector_bytes, zeros_byte, block_ext, data_of, combination_byte}
use Rattle.recovery.proofs.Agreements.{agrees_matches, matches_agrees}

-- check i, summed over the stripe's blocks
abbrev pub check_sum : (ℕ → ℕ) → ℕ → ℕ → ℕ → List ℕ → List ℕ → ℕ → List ℕ
check_sum m n k b losses stripe i = combination b n (λ p. get_or (check_row losses k (solved (coefficient m) n k losses) i) p 0)
    (slot stripe b)

module _ (m : ℕ → ℕ) (n k b : ℕ) (losses stripe : List ℕ) (bytes : ByteList stripe) (fit : Solvable (coefficient m) n k losses) where
  -- a combination of the present blocks is that of the encoding of data that agree
  pub over_agreeing : (u : ℕ → ℕ) → OverPresent n losses u → (d : List ℕ) → Agrees m n k b losses stripe d → (a : ℕ) → a < b
      → weighted n u (vector b stripe a) ≡ weighted n u (encoded (coefficient m) k (vector b d a))
  over_agreeing u over d agrees a h =
      let e = agrees_matches m n k b losses stripe d agrees a h in
      over_same n losses u over (vector b stripe a) (encoded (coefficient m) k (vector b d a)) (λ p l. vector_bytes b stripe bytes a p)
      (λ p l. encoded_byte (coefficient m) k fit.coefficients (vector b d a) e.bytes p (omega (arith, fit.rows)))
      (λ p l f. sym (e.present p l (present_byte losses p (fit.flags p l) f)))

  module _ (claims : SolverClaims (coefficient m) n k losses) where
    -- where data agree, every check vanishes
    pub agrees_zero : (d : List ℕ) → Agrees m n k b losses stripe d → (i : ℕ) → i < 4 → check_sum m n k b losses stripe i ≡ zeros b
    agrees_zero d agrees i l =
        block_ext b (check_sum m n k b losses stripe i) (zeros b) (length_combination b n _ (slot stripe b)) (length_zeros b) (λ a h.
        combination_byte b n _ stripe a
        ∙ over_agreeing _ (claims.checks.over i l) d agrees a h
        ∙ claims.checks.vanish i l (vector b d a) (agrees_matches m n k b losses stripe d agrees a h).bytes
        ∙ sym (zeros_byte b a))

    -- where every check vanishes there are data at each byte
    at_byte : ((i : ℕ) → i < 4 → check_sum m n k b losses stripe i ≡ zeros b) → (a : ℕ) → (y : ℕ → ℕ)
        × Matches (coefficient m) n k losses (vector b stripe a) y
    at_byte t a =
        claims.checks.enough (vector b stripe a) (vector_bytes b stripe bytes a) (λ i l.
        sym (combination_byte b n _ stripe a) ∙ ap (λ (x : List ℕ). get_or x a 0) (t i l) ∙ zeros_byte b a)

    -- and so data that agree
    pub found : ((i : ℕ) → i < 4 → check_sum m n k b losses stripe i ≡ zeros b) → List ℕ
    found t = data_of k b (λ a. (at_byte t a).0)

    pub found_agrees : (t : (i : ℕ) → i < 4 → check_sum m n k b losses stripe i ≡ zeros b) → Agrees m n k b losses stripe (found t)
    unfolding found
    found_agrees t = matches_agrees m n k b losses stripe (λ a. (at_byte t a).0) (λ a h. (at_byte t a).1)

    -- some data agree, or none do
    pub some_or_none : ((d : List ℕ) × Agrees m n k b losses stripe d) ⊎ None m n k b losses stripe
    some_or_none = go (every 4 vanishes) refl
      where
        vanishes : ℕ → Bool
        vanishes i = same_bytes (zeros b) (check_sum m n k b losses stripe i)

        all : every 4 vanishes ≡ true → (i : ℕ) → i < 4 → check_sum m n k b losses stripe i ≡ zeros b
        all t i l = sym (same_bytes_eq (zeros b) (check_sum m n k b losses stripe i) (every_at 4 vanishes t i l))

        go : (t : Bool) → every 4 vanishes ≡ t → ((d : List ℕ) × Agrees m n k b losses stripe d) ⊎ None m n k b losses stripe
        go true e = inl (found (all e), found_agrees (all e))
        go false e = inr (λ d agrees. clash (every_intro 4 vanishes (λ i l. rw (agrees_zero d agrees i l) (same_bytes_refl (zeros b)))) e)
