-- FORMAT §11; document 01, "Words and messages" and "Calls": a stripe's pair of words, kinds 10 and 11, and its stages. Assumes nothing.
use Rattle.std.specs.Prelude.{Bool, ℕ, ◌+◌, ◌^◌}
use Rattle.base.specs.Tests.{if}
use Rattle.wire.specs.Words.{bit}
use Rattle.records.specs.declared.StripeRecord.{StripeRecord}

-- kind 10, bit e set: transfer e accepted
unfoldable pub is_accepted : StripeRecord → ℕ → Bool
is_accepted r e = bit r.accepted e

-- kind 11, bit e: transfer e receipted; bit 26 computed; bit 27 released
unfoldable pub is_receipted : StripeRecord → ℕ → Bool
is_receipted r e = bit r.progress e

abbrev pub computed_in : ℕ → Bool
computed_in word = bit word 26

abbrev pub released_in : ℕ → Bool
released_in word = bit word 27

unfoldable pub is_computed : StripeRecord → Bool
is_computed r = computed_in r.progress

unfoldable pub is_released : StripeRecord → Bool
is_released r = released_in r.progress

-- ---- what the calls do to a record

-- the word with bit e set
unfoldable pub set_bit : ℕ → ℕ → ℕ
set_bit x e = if (bit x e) x (x + 2 ^ e)

unfoldable pub accept : StripeRecord → ℕ → StripeRecord
accept r e = record { accepted = set_bit r.accepted e; progress = r.progress }

unfoldable pub receipt : StripeRecord → ℕ → StripeRecord
receipt r e = record { accepted = r.accepted; progress = set_bit r.progress e }

unfoldable pub compute : StripeRecord → StripeRecord
compute r = record { accepted = r.accepted; progress = set_bit r.progress 26 }

unfoldable pub release : StripeRecord → StripeRecord
release r = record { accepted = r.accepted; progress = set_bit r.progress 27 }
