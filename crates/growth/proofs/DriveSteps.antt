-- Along a drive the store stays in order, the marks are those of its start and as many more as it accepted, and every stripe that it
-- has come past is released. Assumes nothing.
use mathlib.Core.Path.{◌≡◌, refl, sym, ◌∙◌, subst}
use mathlib.Core.Logic.{⊎_elim}
use mathlib.Core.Bool.{true, false}
use mathlib.Core.List.{List, ◌++◌}
use Prim.Native.Nat.{ℕ, suc, ◌+◌, ◌<◌}
use native.Mathlib.Nat.{add-zero, eq-or-lt_of_le}
use native.Mathlib.Omega.{arith}
use Rattle.base.proofs.Choice.{if_cases}
use Rattle.base.proofs.Tests.{clash}
use Rattle.layout.specs.declared.Shape.{Shape}
use Rattle.layout.specs.Ranges.{InRanges}
use Rattle.layout.specs.Counts.{kept, transfers}
use Rattle.layout.proofs.Bounds.{transfers_le}
use Rattle.records.specs.declared.StripeRecord.{StripeRecord}
use Rattle.records.specs.Records as Records
use Rattle.records.specs.Records.{is_accepted, is_receipted, is_computed, is_released}
use Rattle.records.proofs.StepLaws.{steps_hold}
use Rattle.journal.specs.Journal.{header_of, number_of, record_at}
use Rattle.journal.specs.Whole.{marks}
use Rattle.protocol.specs.Drive.{Progress, goes_on, step_on, has_room, drive_transfer}
use Rattle.growth.specs.Claims.{Left}
use Rattle.growth.specs.Drive.{Store, compute_on, pass_on, release_on, store_drive}
use Rattle.growth.proofs.RecordSteps.{accept_receipted, accept_computed, receipt_kept, receipt_computed}
use Rattle.growth.proofs.TransfersInOrder.{new_mark}
use Rattle.growth.proofs.Stores.{SoundStore, StoreStep, compute_step, release_step}
use Rattle.growth.proofs.PassedOn.{pass_step}

-- the growth number of a store, and its two spaces, one after the other
abbrev pub growth_of : Store → ℕ
growth_of c = number_of (header_of c.journal)

abbrev pub space_of : Store → List ℕ
space_of c = c.message ++ c.receipt

-- a store that a drive came to from the store `before`, with so many newly accepted
pub record Reached (z : Shape) (before : Store) (accepted : ℕ) (c : Store) : Type 0 where
  pub sound : SoundStore z c
  pub growth : growth_of c ≡ growth_of before
  pub counted : marks z c.journal ≡ marks z before.journal + accepted

-- of a drive: unless it has stopped, the first n stripes are released; if it has, a transfer is left
pub record Along (z : Shape) (before : Store) (n : ℕ) (r : Progress Store) : Type 0 where
  pub reached : Reached z before r.accepted r.contents
  pub released : r.stopped ≡ false → (v : ℕ) → v < n → is_released (record_at r.contents.journal v) ≡ true
  pub left : r.stopped ≡ true → Left z r.contents.journal

-- in stripe w: unless the drive has stopped, it is computed and its first n transfers are receipted
pub record Within (z : Shape) (before : Store) (w n : ℕ) (r : Progress Store) : Type 0 where
  pub along : Along z before w r
  pub computed : r.stopped ≡ false → is_computed (record_at r.contents.journal w) ≡ true
  pub receipted : r.stopped ≡ false → (f : ℕ) → f < n → is_receipted (record_at r.contents.journal w) f ≡ true

-- one number more
below_suc : (P : ℕ → Type 0) (n : ℕ) → P n → ((f : ℕ) → f < n → P f) → (f : ℕ) → f < suc n → P f
below_suc P n here rest f l =
    ⊎_elim (λ (q : f ≡ n). subst P (sym q) here) (λ (k : f < n). rest f k) (eq-or-lt_of_le {m = n} (omega arith))

module _ (z : Shape) (ok : InRanges z) (before : Store) (limit : ℕ) where
  -- a drive that has stopped
  halted : (w n : ℕ) (r : Progress Store) → r.stopped ≡ true → Along z before w r → Within z before w n r
  halted w n r p a = record { along = a; computed = λ q. absurd (clash p q); receipted = λ q. absurd (clash p q) }

  -- a step that adds no mark
  reached_step : (accepted w : ℕ) {o : StripeRecord} (c d : Store) → Reached z before accepted c
      → StoreStep z c.journal w o (marks z c.journal) d → Reached z before accepted d
  reached_step accepted w c d a t = record {
    sound = t.sound;
    growth = t.journals.number ∙ a.growth;
    counted = t.journals.marked ∙ a.counted;
  }

  -- a step at stripe w leaves the stripes before it released
  still_released : (w : ℕ) {o : StripeRecord} {count : ℕ} (r : Progress Store) (c : Store) → r.stopped ≡ false → Along z before w r
      → StoreStep z r.contents.journal w o count c → (v : ℕ) → v < w → is_released (record_at c.journal v) ≡ true
  still_released w r c p a t v l = rw (t.journals.other v (λ q. omega arith)) (a.released p v l)

  pub enter : (w : ℕ) → w < kept z → (r : Progress Store) → Along z before w r → Within z before w 0 (step_on (compute_on z w) r)
  enter w l r a = if_cases (Within z before w 0) r.stopped r (goes_on (compute_on z w r.contents) r.accepted)
      (λ p. halted w 0 r p a)
      (λ p.
      let t = compute_step z ok r.contents a.reached.sound w l in
      record {
        along = record {
          reached = reached_step r.accepted w r.contents _ a.reached t;
          released = λ q. still_released w r _ p a t;
          left = λ q. absurd (clash q refl);
        };
        computed = λ q. rw t.journals.own (steps_hold z ok (record_at r.contents.journal w)).computes;
        receipted = λ q f k. absurd (omega arith);
      })

  pub leave : (w : ℕ) → w < kept z → (r : Progress Store) → Within z before w (transfers z) r
      → Along z before (suc w) (step_on (release_on z w) r)
  leave w l r h = if_cases (Along z before (suc w)) r.stopped r (goes_on (release_on z w r.contents) r.accepted)
      (λ p. record { reached = h.along.reached; released = λ q. absurd (clash p q); left = h.along.left })
      (λ p.
      let t = release_step z ok r.contents h.along.reached.sound w l (h.computed p) (h.receipted p) in
      record {
        reached = reached_step r.accepted w r.contents _ h.along.reached t;
        released = λ q. below_suc (λ v. is_released (record_at (release_on z w r.contents).journal v) ≡ true) w
            (rw t.journals.own (steps_hold z ok (record_at r.contents.journal w)).releases)
            (still_released w r _ p h.along t);
        left = λ q. absurd (clash q refl);
      })

  -- ---- one transfer

  module _ (w e : ℕ) (l : w < kept z) (m : e < transfers z) (r : Progress Store) (h : Within z before w e r) where
    -- passed on, where so many are new
    passed : (new : ℕ) → r.stopped ≡ false → is_receipted (record_at r.contents.journal w) e ≡ false
        → new_mark (record_at r.contents.journal w) e ≡ new → (count : ℕ) → count ≡ r.accepted + new
        → Within z before w (suc e) (goes_on (pass_on z w e r.contents) count)
    passed new p q k count n =
        let was = record_at r.contents.journal w in
        let co = h.computed p in
        let a = h.along.reached in
        let t = pass_step z ok w e l m r.contents a.sound co q in
        record {
          along = record {
            reached = record {
              sound = t.sound;
              growth = t.journals.number ∙ a.growth;
              counted = omega (arith, t.journals.marked, a.counted, k, n);
            };
            released = λ s. still_released w r _ p h.along t;
            left = λ s. absurd (clash s refl);
          };
          computed = λ s. rw t.journals.own
              (receipt_computed (Records.accept was e) e (omega (arith, transfers_le z ok)) ∙ accept_computed was e ∙ co);
          receipted = λ s. below_suc (λ f. is_receipted (record_at (pass_on z w e r.contents).journal w) f ≡ true) e
              (rw t.journals.own ((steps_hold z ok (Records.accept was e)).receipts e))
              (λ f b. rw t.journals.own
              (receipt_kept (Records.accept was e) e f (accept_receipted was e f ∙ h.receipted p f b)));
        }

    pub next : Within z before w (suc e) (drive_transfer (store_drive z) limit w e r)
    unfolding drive_transfer
    next =
        let was = record_at r.contents.journal w in
        let go : ℕ → Progress Store = goes_on (pass_on z w e r.contents) in
        if_cases (Within z before w (suc e)) r.stopped r _ (λ p. halted w (suc e) r p h.along)
        (λ p. if_cases (Within z before w (suc e)) (is_receipted was e) r _
        (λ q. record {
          along = h.along;
          computed = h.computed;
          receipted = λ s. below_suc (λ f. is_receipted was f ≡ true) e q (h.receipted p);
        })
        (λ q. if_cases (Within z before w (suc e)) (is_accepted was e) (go r.accepted) _
        (λ a. passed 0 p q (rw a) r.accepted (sym (add-zero r.accepted)))
        (λ a. if_cases (Within z before w (suc e)) (has_room (store_drive z) limit r) (go (r.accepted + 1)) _
        (λ b. passed 1 p q (rw a) (r.accepted + 1) refl)
        (λ b. halted w (suc e) _ refl
        (record { reached = h.along.reached; released = λ s. absurd (clash refl s); left = λ s. (w, e, l, m, a) })))))

-- the start
pub start_along : (z : Shape) (c : Store) → SoundStore z c → Along z c 0 (goes_on c 0)
start_along z c s = record {
  reached = record { sound = s; growth = refl; counted = sym (add-zero (marks z c.journal)) };
  released = λ q v l. absurd (omega arith);
  left = λ q. absurd (clash q refl);
}
