-- Along a drive the spaces are as they were lent, or have the message and the receipt of the last transfer that it sent; and how far a
-- whole drive comes. Assumes nothing.
use mathlib.Core.Path.{◌≡◌, refl, sym, ap, ap₂, ◌∙◌, subst}
use mathlib.Core.Logic.{◌⊎◌, inl, inr}
use mathlib.Core.Bool.{true, false}
use mathlib.Core.List.{List, ◌++◌}
use Prim.Native.Nat.{ℕ, suc, ◌+◌, ◌≤◌, ◌<◌}
use native.Mathlib.Decide.{dec_le, dec_lt, ℕ_discrete}
use native.Mathlib.Omega.{arith}
use Rattle.base.proofs.Choice.{if_cases}
use Rattle.base.proofs.Tests.{clash}
use Rattle.layout.specs.declared.Shape.{Shape}
use Rattle.layout.specs.Ranges.{InRanges}
use Rattle.layout.specs.Counts.{kept, transfers}
use Rattle.layout.proofs.Bounds.{transfers_le}
use Rattle.wire.specs.Headers.{header_for, header_bytes, message}
use Rattle.records.specs.Records as Records
use Rattle.records.specs.Records.{is_accepted, is_receipted, is_computed}
use Rattle.records.proofs.StepLaws.{steps_hold}
use Rattle.journal.specs.Journal.{record_at}
use Rattle.journal.specs.Whole.{marks}
use Rattle.protocol.specs.Drive.{Progress, goes_on, step_on, has_room, drive_transfer, drive_transfers, drive_stripe, drive_stripes, driven}
use Rattle.protocol.proofs.DriveRule.{between_stripes}
use Rattle.growth.specs.Claims.{SentBetween, NoLater, area_at, with_receipt, LastSent, none_sent, last_sent}
use Rattle.growth.specs.Send.{payload}
use Rattle.growth.specs.Drive.{Store, compute_on, pass_on, release_on, store_drive, driven_store}
use Rattle.growth.proofs.RecordSteps.{compute_receipted, release_receipted, accept_receipted, receipt_other}
use Rattle.growth.proofs.TransfersInOrder.{new_mark}
use Rattle.growth.proofs.Stores.{SoundStore, StoreStep, compute_step, release_step}
use Rattle.growth.proofs.PassedOn.{pass_step, pass_writes}
use Rattle.growth.proofs.DriveSteps.{growth_of, space_of, Along, Within, enter, next, leave, start_along}

-- transfer f of v is transfer n of w or comes after it
abbrev NotBefore : (w n v f : ℕ) → Type 0
NotBefore w n v f = (w < v) ⊎ ((v ≡ w) × (n ≤ f))

-- a store that a drive came to before transfer n of w
record Spaced (z : Shape) (limit : ℕ) (before : Store) (w n : ℕ) (c : Store) : Type 0 where
  last : LastSent z limit before c.journal (space_of before) (space_of c)
  -- what is still to come is receipted as before
  ahead : (v f : ℕ) → f < transfers z → NotBefore w n v f
      → is_receipted (record_at c.journal v) f ≡ is_receipted (record_at before.journal v) f

-- the same transfers are receipted in two journals
abbrev SameReceipts : Shape → List ℕ → List ℕ → Type 0
SameReceipts z c d = (v f : ℕ) → f < transfers z → is_receipted (record_at d v) f ≡ is_receipted (record_at c v) f

last_same : (z : Shape) (limit : ℕ) (before : Store) (c d lent : List ℕ) {space : List ℕ} → SameReceipts z c d
    → LastSent z limit before c lent space → LastSent z limit before d lent space
last_same z limit before c d lent same (none_sent none) = none_sent (λ w e l m s. none w e l m (s.0, sym (same w e m) ∙ s.1))
last_same z limit before c d lent same (last_sent w e l m sent rest) =
    last_sent w e l m (sent.0, same w e m ∙ sent.1) (λ v f k h s. rest v f k h (s.0, sym (same v f h) ∙ s.1))

-- the transfers of the next stripe come after all of this one
next_stripe : (z : Shape) (w v f : ℕ) → f < transfers z → NotBefore (suc w) 0 v f → NotBefore w (transfers z) v f
next_stripe z w v f k (inl n) = inl (omega arith)
next_stripe z w v f k (inr n) = inl (omega (arith, n.0))

module _ (z : Shape) (ok : InRanges z) (limit : ℕ) (before : Store) where
  -- a step that writes to neither space and receipts nothing
  step_spaced : (w n x m : ℕ) (c d : Store) → SameReceipts z c.journal d.journal → space_of d ≡ space_of c
      → ((v f : ℕ) → f < transfers z → NotBefore x m v f → NotBefore w n v f) → Spaced z limit before w n c → Spaced z limit before x m d
  step_spaced w n x m c d same e later s = record {
    last = rw e (last_same z limit before c.journal d.journal (space_of before) same s.last);
    ahead = λ v f k h. same v f k ∙ s.ahead v f k (later v f k h);
  }

  one_further : (w e v f : ℕ) → NotBefore w (suc e) v f → NotBefore w e v f
  one_further w e v f (inl h) = inl h
  one_further w e v f (inr h) = inr (h.0, omega (arith, h.1))

  -- the store stays
  stay_spaced : (w e : ℕ) (c : Store) → Spaced z limit before w e c → Spaced z limit before w (suc e) c
  stay_spaced w e c s = step_spaced w e w (suc e) c c (λ v f h. refl) refl (λ v f k h. one_further w e v f h) s

  computed_spaced : (w : ℕ) → w < kept z → (c : Store) → SoundStore z c → Spaced z limit before w 0 c
      → Spaced z limit before w 0 (compute_on z w c)
  unfolding compute_on
  computed_spaced w l c s h = step_spaced w 0 w 0 c (compute_on z w c) same refl (λ v f k n. n) h
    where
      same : SameReceipts z c.journal (compute_on z w c).journal
      same v f k =
          let t = compute_step z ok c s w l in
          elim (ℕ_discrete v w) [
            | yes q ↦ rw (q, t.journals.own) (compute_receipted (record_at c.journal w) f (omega (arith, transfers_le z ok)))
            | no d ↦ ap (λ r. is_receipted r f) (t.journals.other v d)
          ]

  released_spaced : (w : ℕ) → w < kept z → (c : Store) → SoundStore z c → is_computed (record_at c.journal w) ≡ true
      → ((f : ℕ) → f < transfers z → is_receipted (record_at c.journal w) f ≡ true)
      → Spaced z limit before w (transfers z) c → Spaced z limit before (suc w) 0 (release_on z w c)
  unfolding release_on
  released_spaced w l c sound co re s = step_spaced w (transfers z) (suc w) 0 c (release_on z w c) same refl (next_stripe z w) s
    where
      same : SameReceipts z c.journal (release_on z w c).journal
      same v f k =
          let t = release_step z ok c sound w l co re in
          elim (ℕ_discrete v w) [
            | yes q ↦ rw (q, t.journals.own) (release_receipted (record_at c.journal w) f (omega (arith, transfers_le z ok)))
            | no d ↦ ap (λ r. is_receipted r f) (t.journals.other v d)
          ]

  -- ---- one transfer passed on

  module _ (w e : ℕ) (l : w < kept z) (m : e < transfers z) (c : Store) (sound : SoundStore z c) (growth : growth_of c ≡ growth_of before)
      (co : is_computed (record_at c.journal w) ≡ true) (q : is_receipted (record_at c.journal w) e ≡ false)
      (here : c.area ≡ area_at z limit before w e) (s : Spaced z limit before w e c) where
    abbrev passed : Store
    passed = pass_on z w e c

    step : StoreStep z c.journal w (Records.receipt (Records.accept (record_at c.journal w) e) e)
        (marks z c.journal + new_mark (record_at c.journal w) e) passed
    step = pass_step z ok w e l m c sound co q

    -- the transfers after it are receipted as before the drive
    rest_ahead : (v f : ℕ) → f < transfers z → NotBefore w (suc e) v f
        → is_receipted (record_at passed.journal v) f ≡ is_receipted (record_at before.journal v) f
    rest_ahead v f n (inl a) = ap (λ r. is_receipted r f) (step.journals.other v (λ x. omega arith)) ∙ s.ahead v f n (inl a)
    rest_ahead v f n (inr a) =
        ap (λ v. is_receipted (record_at passed.journal v) f) a.0
        ∙ ap (λ r. is_receipted r f) step.journals.own
        ∙ receipt_other (Records.accept (record_at c.journal w) e) e f (λ x. omega (arith, a.1))
        ∙ accept_receipted (record_at c.journal w) e f
        ∙ ap (λ v. is_receipted (record_at c.journal v) f) (sym a.0)
        ∙ s.ahead v f n (inr (a.0, omega (arith, a.1)))

    passed_sent : SentBetween before.journal passed.journal w e
    passed_sent = (
      sym (s.ahead w e m (inr (refl, omega arith))) ∙ q,
      ap (λ r. is_receipted r e) step.journals.own ∙ (steps_hold z ok (Records.accept (record_at c.journal w) e)).receipts e,
    )

    -- so none of those is sent
    none_later : (v f : ℕ) → f < transfers z → SentBetween before.journal passed.journal v f → NotBefore w (suc e) v f → ⊥
    none_later v f n t a = clash (sym (rest_ahead v f n a) ∙ t.1) t.0

    passed_bytes : space_of passed ≡ with_receipt z w e (growth_of before) (payload z (area_at z limit before w e) w e)
    passed_bytes =
        let (sent, told) = pass_writes z ok w e l m c sound co q in
        ap₂ ◌++◌ (sent ∙ ap₂ (λ g a. message z w e g (payload z a w e)) growth here)
        (told ∙ ap (λ g. header_bytes (header_for z 4 w e g)) growth)

    passed_last : LastSent z limit before passed.journal (space_of before) (space_of passed)
    passed_last =
        subst (LastSent z limit before passed.journal (space_of before)) (sym passed_bytes)
        (last_sent w e l m passed_sent (λ v f n o t. order v f o t (dec_lt v w) (ℕ_discrete v w) (dec_le f e)))
      where
        order : (v f : ℕ) → f < transfers z → SentBetween before.journal passed.journal v f
            → Dec (v < w) → Dec (v ≡ w) → Dec (f ≤ e) → NoLater v f w e
        order v f o t (yes a) b d = inl a
        order v f o t (no a) (yes b) (yes d) = inr (b, d)
        order v f o t (no a) (yes b) (no d) = absurd (none_later v f o t (inr (b, omega arith)))
        order v f o t (no a) (no b) d = absurd (none_later v f o t (inl (omega arith)))

    passed_spaced : Spaced z limit before w (suc e) passed
    passed_spaced = record { last = passed_last; ahead = rest_ahead }

-- ---- the whole drive

-- how far a drive has come between stripes, and before transfer n of w
abbrev between : Shape → (limit : ℕ) → Store → ℕ → Progress Store
between z limit c n = drive_stripes (store_drive z) limit (transfers z) n (goes_on c 0)

abbrev inside : Shape → (limit : ℕ) → Store → (w n : ℕ) → Progress Store
inside z limit c w n = drive_transfers (store_drive z) limit w n (step_on (compute_on z w) (between z limit c w))

record AlongSpaced (z : Shape) (limit : ℕ) (before : Store) (n : ℕ) (r : Progress Store) : Type 0 where
  is : r ≡ between z limit before n
  along : Along z before n r
  spaced : Spaced z limit before n 0 r.contents

record WithinSpaced (z : Shape) (limit : ℕ) (before : Store) (w n : ℕ) (r : Progress Store) : Type 0 where
  is : r ≡ inside z limit before w n
  within : Within z before w n r
  spaced : Spaced z limit before w n r.contents

module _ (z : Shape) (ok : InRanges z) (limit : ℕ) (before : Store) where
  enters : (w : ℕ) → w < kept z → (r : Progress Store) → AlongSpaced z limit before w r
      → WithinSpaced z limit before w 0 (step_on (compute_on z w) r)
  unfolding drive_transfers
  enters w l r a = record {
    is = ap (step_on (compute_on z w)) a.is;
    within = enter z ok before limit w l r a.along;
    spaced = if_cases (λ r. Spaced z limit before w 0 r.contents) r.stopped r _ (λ p. a.spaced)
        (λ p. computed_spaced z ok limit before w l r.contents a.along.reached.sound a.spaced);
  }

  leaves : (w : ℕ) → w < kept z → (r : Progress Store) → WithinSpaced z limit before w (transfers z) r
      → AlongSpaced z limit before (suc w) (step_on (release_on z w) r)
  unfolding drive_stripes drive_stripe
  leaves w l r h = record {
    is = ap (step_on (release_on z w)) h.is;
    along = leave z ok before limit w l r h.within;
    spaced = if_cases (λ r. Spaced z limit before (suc w) 0 r.contents) r.stopped r _
        (λ p. over w r.contents h.spaced)
        (λ p. released_spaced z ok limit before w l r.contents
        h.within.along.reached.sound (h.within.computed p) (h.within.receipted p) h.spaced);
  }
    where
      over : (w : ℕ) (c : Store) → Spaced z limit before w (transfers z) c → Spaced z limit before (suc w) 0 c
      over w c s = step_spaced z ok limit before w (transfers z) (suc w) 0 c c (λ v f k. refl) refl (next_stripe z w) s

  -- the spaces and receipts alone
  abbrev Here : (w n : ℕ) → Progress Store → Type 0
  Here w n r = Spaced z limit before w n r.contents

  further : (w e : ℕ) → w < kept z → e < transfers z → (r : Progress Store) → WithinSpaced z limit before w e r
      → Here w (suc e) (drive_transfer (store_drive z) limit w e r)
  unfolding drive_transfer
  further w e l m r h =
      let was = record_at r.contents.journal w in
      if_cases (Here w (suc e)) r.stopped r _ (λ p. stays)
      (λ p. if_cases (Here w (suc e)) (is_receipted was e) r _ (λ q. stays)
      (λ q. if_cases (Here w (suc e)) (is_accepted was e) _ _ (λ a. passes p q)
      (λ a. if_cases (Here w (suc e)) (has_room (store_drive z) limit r) _ _ (λ b. passes p q) (λ b. stays))))
    where
      stays : Here w (suc e) r
      stays = stay_spaced z ok limit before w e r.contents h.spaced

      passes : r.stopped ≡ false → is_receipted (record_at r.contents.journal w) e ≡ false
          → Spaced z limit before w (suc e) (pass_on z w e r.contents)
      passes p q =
          let a = h.within.along.reached in
          passed_spaced z ok limit before w e l m r.contents a.sound a.growth (h.within.computed p) q
          (ap (λ s. s.contents.area) h.is) h.spaced

  goes : (w e : ℕ) → w < kept z → e < transfers z → (r : Progress Store) → WithinSpaced z limit before w e r
      → WithinSpaced z limit before w (suc e) (drive_transfer (store_drive z) limit w e r)
  unfolding drive_transfers
  goes w e l m r h = record {
    is = ap (drive_transfer (store_drive z) limit w e) h.is;
    within = next z ok before limit w e l m r h.within;
    spaced = further w e l m r h;
  }

module _ (z : Shape) (ok : InRanges z) (limit : ℕ) (c : Store) (s : SoundStore z c) where
  start_spaced : Spaced z limit c 0 0 c
  start_spaced = record { last = none_sent (λ w e l m t. clash t.1 t.0); ahead = λ v f k h. refl }

  both : AlongSpaced z limit c (kept z) (driven_store z limit c)
  unfolding driven_store driven drive_stripes
  both =
      between_stripes (store_drive z) limit (AlongSpaced z limit c) (WithinSpaced z limit c) (kept z) (transfers z)
      (λ w l r a. enters z ok limit c w l r a)
      (λ w e l m r h. goes z ok limit c w e l m r h)
      (λ w l r h. leaves z ok limit c w l r h)
      (kept z) (omega arith) _ (record { is = refl; along = start_along z c s; spaced = start_spaced })

  pub driven_along : Along z c (kept z) (driven_store z limit c)
  driven_along = both.along

  pub driven_last : LastSent z limit c (driven_store z limit c).contents.journal (space_of c) (space_of (driven_store z limit c).contents)
  driven_last = both.spaced.last
