-- FORMAT §10; document 01, "Words and messages": messages and receipts. Assumes nothing.
use Rattle.std.specs.Prelude.{List, ◌++◌, ℕ, ◌+◌}
use Rattle.layout.specs.declared.Shape.{Shape}
use Rattle.layout.specs.Transfers.{sender, receiver, transfer_kind}
use Rattle.wire.specs.declared.Header.{Header}
use Rattle.wire.specs.Words.{stripe_word, route_word, growth_word, size_word, field_at, rest_of, bytes_of, word_at}

-- the four words of transfer e of stripe w in the growth of a number: a kind with w, and kinds 5, 9 and 8
unfoldable pub header_for : Shape → ℕ → ℕ → ℕ → ℕ → Header
header_for z kind w e number = record {
  stripe = stripe_word kind w;
  route = route_word (sender z w) (receiver z w e) e;
  growth = growth_word number;
  size = size_word z;
}

-- a message starts with kind 1, 2 or 3, as the layout has it
abbrev pub message_header : Shape → ℕ → ℕ → ℕ → Header
message_header z w e number = header_for z (transfer_kind z w e) w e number

-- the words, little-endian, one after the other
unfoldable pub header_bytes : Header → List ℕ
header_bytes h = bytes_of h.stripe ++ (bytes_of h.route ++ (bytes_of h.growth ++ bytes_of h.size))

-- a message is its words, then B bytes
unfoldable pub message : Shape → ℕ → ℕ → ℕ → List ℕ → List ℕ
message z w e number payload = header_bytes (message_header z w e number) ++ payload

-- ---- reading

-- the four words from a place on
unfoldable pub header_at : List ℕ → ℕ → Header
header_at bytes at =
    record { stripe = word_at bytes at; route = word_at bytes (at + 4); growth = word_at bytes (at + 8); size = word_at bytes (at + 12) }

-- the stripe, the transfer and the growth number that four words name
unfoldable pub stripe_of : Header → ℕ
stripe_of h = rest_of h.stripe

unfoldable pub transfer_of : Header → ℕ
transfer_of h = field_at 4 8 h.route

unfoldable pub number_of : Header → ℕ
number_of h = rest_of h.growth

-- a receipt is kind 4 and the message's other three words
unfoldable pub receipt_of : Header → Header
receipt_of h = record { stripe = stripe_word 4 (stripe_of h); route = h.route; growth = h.growth; size = h.size }
