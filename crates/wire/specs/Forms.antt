-- FORMAT §10; document 01, "Who can cause a no", the carrier: malformed, addressed elsewhere, of another growth. Assumes nothing.
use Rattle.std.specs.Prelude.{Bool, not, [], ◌∷◌, ℕ, eqb, ltb}
use Rattle.base.specs.Tests.{all}
use Rattle.layout.specs.declared.Shape.{Shape}
use Rattle.layout.specs.Counts.{kept, transfers}
use Rattle.layout.specs.Transfers.{sender, receiver, transfer_kind}
use Rattle.wire.specs.declared.Header.{Header}
use Rattle.wire.specs.Headers.{header_for, stripe_of, transfer_of, number_of}

-- two headers have the same words
unfoldable pub same_words : Header → Header → Bool
same_words h g = all (eqb h.stripe g.stripe ∷ eqb h.route g.route ∷ eqb h.growth g.growth ∷ eqb h.size g.size ∷ [])

-- every word has the kind, w, item, sender, receiver, zero bits and B that table and layout give;
-- the node that gets it, and which growth's number it has, are no part of it
unfoldable pub well_formed : Shape → ℕ → Header → Bool
well_formed z kind h =
    all
    (ltb (stripe_of h) (kept z) ∷
    ltb (transfer_of h) (transfers z) ∷
    same_words h (header_for z kind (stripe_of h) (transfer_of h) (number_of h)) ∷
    [])

-- a message's kind is its transfer's, a receipt's is 4
unfoldable pub is_message : Shape → Header → Bool
is_message z h = well_formed z (transfer_kind z (stripe_of h) (transfer_of h)) h

unfoldable pub is_receipt : Shape → Header → Bool
is_receipt z h = well_formed z 4 h

-- a message for another node; a receipt for another sender
unfoldable pub for_another_node : Shape → ℕ → Header → Bool
for_another_node z node h = not (eqb node (receiver z (stripe_of h) (transfer_of h)))

unfoldable pub for_another_sender : Shape → ℕ → Header → Bool
for_another_sender z node h = not (eqb node (sender z (stripe_of h)))

-- another growth's number than the given one
unfoldable pub of_another_growth : ℕ → Header → Bool
of_another_growth number h = not (eqb (number_of h) number)
