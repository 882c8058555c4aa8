-- A run of puts, byte by byte: what is in a block that was put, and what is in none. Assumes nothing.
use mathlib.Core.Path.{◌≡◌, sym, ◌∙◌}
use mathlib.Core.List.{List}
use mathlib.Core.Logic.{⊎_elim, ◌⊎◌, inl, inr}
use Prim.Native.Nat.{ℕ, zero, suc, ◌+◌, ◌-◌, ◌≤◌, ◌<◌}
use native.Mathlib.Nat.{eq-or-lt_of_le, zero-add}
use native.Mathlib.Decide.{dec_lt}
use native.Mathlib.Omega.{arith}
use lib.ListN.{length, get_or}
use Rattle.base.specs.Folds.{run}
use Rattle.base.proofs.Runs.{run_keeps}
use Rattle.area.specs.Area.{put}
use Rattle.area.proofs.Blocks.{length_put, put_below, put_above, put_in}

-- byte p is none of the b bytes from t on
abbrev pub Outside : ℕ → ℕ → ℕ → Type 0
Outside b p t = (p < t) ⊎ (t + b ≤ p)

-- or it is one of them
placed : (b p t : ℕ) → ((t ≤ p) × (p < t + b)) ⊎ Outside b p t
placed b p t = go (dec_lt p t) (dec_lt p (t + b))
  where
    go : Dec (p < t) → Dec (p < t + b) → ((t ≤ p) × (p < t + b)) ⊎ Outside b p t
    go (yes l) h = inr (inl l)
    go (no l) (yes h) = inl (omega arith, h)
    go (no l) (no h) = inr (inr (omega arith))

put_out : (d : List ℕ) (t b : ℕ) (bs : List ℕ) (p : ℕ) → length bs ≡ b → Outside b p t → get_or (put d t bs) p 0 ≡ get_or d p 0
put_out d t b bs p e (inl h) = put_below d t bs p h
put_out d t b bs p e (inr h) = put_above d t bs p (omega arith)

module _ (to : ℕ → ℕ) (bs : ℕ → List ℕ) (b : ℕ) (size : (q : ℕ) → length (bs q) ≡ b) (d : List ℕ) where
  abbrev pub puts : ℕ → List ℕ
  puts n = run (λ q a. put a (to q) (bs q)) 0 n d

  pub length_puts : (n : ℕ) → length (puts n) ≡ length d
  length_puts n = run_keeps _ length 0 n d (λ q e l u. length_put e (to q) (bs q))

  puts_last : (n p : ℕ) → get_or (puts (suc n)) p 0 ≡ get_or (put (puts n) (to n) (bs n)) p 0
  unfolding run
  puts_last n p = rw (zero-add n)

  puts_new : (n i : ℕ) → i < b → to n + b ≤ length d → get_or (puts (suc n)) (to n + i) 0 ≡ get_or (bs n) i 0
  puts_new n i l f =
      puts_last n (to n + i) ∙ put_in (puts n) (to n) (bs n) i (omega (arith, size n)) (omega (arith, size n, length_puts n))

  puts_old : (n p : ℕ) → Outside b p (to n) → get_or (puts (suc n)) p 0 ≡ get_or (puts n) p 0
  puts_old n p h = puts_last n p ∙ put_out (puts n) (to n) b (bs n) p (size n) h

  -- a byte of none of the blocks
  pub puts_out : (n p : ℕ) → ((q : ℕ) → q < n → Outside b p (to q)) → get_or (puts n) p 0 ≡ get_or d p 0
  puts_out n p h = run_keeps _ (λ e. get_or e p 0) 0 n d (λ q e l u. put_out e (to q) b (bs q) p (size q) (h q (omega arith)))

  -- a byte of block j that no other block has
  pub puts_in : (n j i : ℕ) → j < n → i < b → to j + b ≤ length d → ((q : ℕ) → q < n → (q ≡ j → ⊥) → Outside b (to j + i) (to q))
      → get_or (puts n) (to j + i) 0 ≡ get_or (bs j) i 0
  puts_in zero j i l u f h = absurd (omega arith)
  puts_in (suc n) j i l u f h =
      ⊎_elim
      (λ (e : j ≡ n). rw e (puts_new n i u (rw e at f)))
      (λ (o : j < n). puts_old n (to j + i) (h n (omega arith) (λ e. omega arith)) ∙ puts_in n j i o u f (λ q v. h q (omega arith)))
      (eq-or-lt_of_le {m = n} (omega arith))

  -- an area with these bytes in the blocks, and elsewhere as it was, is what the run leaves
  pub puts_are : (n : ℕ) (e : List ℕ) → ((q : ℕ) → q < n → to q + b ≤ length d)
      → ((q i : ℕ) → q < n → i < b → get_or e (to q + i) 0 ≡ get_or (bs q) i 0)
      → (p : ℕ) → (((q : ℕ) → q < n → Outside b p (to q)) → get_or e p 0 ≡ get_or d p 0) → get_or e p 0 ≡ get_or (puts n) p 0
  unfolding run
  puts_are zero e f there p kept = kept (λ q l. absurd (omega arith))
  puts_are (suc n) e f there p kept =
      ⊎_elim
      (λ (l : (to n ≤ p) × (p < to n + b)). inside (p - to n) (omega arith) (omega arith))
      (λ (o : Outside b p (to n)). puts_are n e (λ q l. f q (omega arith)) (λ q i l. there q i (omega arith)) p
      (λ h. kept (λ q l. all h o q l))
      ∙ sym (puts_old n p o))
      (placed b p (to n))
    where
      inside : (i : ℕ) → to n + i ≡ p → i < b → get_or e p 0 ≡ get_or (puts (suc n)) p 0
      inside i h l = rw (← h) (there n i (omega arith) l ∙ sym (puts_new n i l (f n (omega arith))))

      all : ((q : ℕ) → q < n → Outside b p (to q)) → Outside b p (to n) → (q : ℕ) → q < suc n → Outside b p (to q)
      all h o q l = ⊎_elim (λ (w : q ≡ n). rw w o) (λ (w : q < n). h q w) (eq-or-lt_of_le {m = n} (omega arith))
