-- What is claimed of words, messages and receipts: what was written is read back, and well-formed means written so. Assumes nothing.
use Rattle.std.specs.Prelude.{◌≡◌, true, false, List, ◌++◌, ℕ, ◌+◌, ◌≤◌, ◌<◌, length, drop}
use Rattle.area.specs.Area.{put}
use Rattle.layout.specs.declared.Shape.{Shape}
use Rattle.layout.specs.Counts.{kept, transfers}
use Rattle.layout.specs.Transfers.{transfer_kind}
use Rattle.wire.specs.declared.Header.{Header}
use Rattle.wire.specs.Words.{bytes_of, word_at}
use Rattle.wire.specs.Headers.{header_for, message_header, header_bytes, message, header_at, stripe_of, transfer_of, number_of, receipt_of}
use Rattle.wire.specs.Forms.{is_message, is_receipt}
use Rattle.wire.specs.WordClaims.{WordClaims}

-- each word fits in 32 bits
pub record Words32 (h : Header) : Type 0 where
  pub stripe : h.stripe < 4294967296
  pub route : h.route < 4294967296
  pub growth : h.growth < 4294967296
  pub size : h.size < 4294967296

-- the stripe, transfer and growth number that a header names are these
pub record Names (w e number : ℕ) (h : Header) : Type 0 where
  pub stripe : stripe_of h ≡ w
  pub transfer : transfer_of h ≡ e
  pub growth : number_of h ≡ number

-- a transfer of the shape's, and a growth number that fits its word
pub record Transfer (z : Shape) (w e number : ℕ) : Type 0 where
  pub stripe : w < kept z
  pub transfer : e < transfers z
  pub growth : number < 268435456

-- the message of a transfer: well-formed, of 16 bytes and its payload, and it gives back what it was made of; so does its receipt
pub record Written (z : Shape) (w e number : ℕ) (payload : List ℕ) : Type 0 where
  pub long : length (message z w e number payload) ≡ 16 + length payload
  pub header : header_at (message z w e number payload) 0 ≡ message_header z w e number
  pub body : drop 16 (message z w e number payload) ≡ payload
  pub form : is_message z (message_header z w e number) ≡ true
  pub names : Names w e number (message_header z w e number)
  pub receipt : receipt_of (message_header z w e number) ≡ header_for z 4 w e number
  pub receipt_form : is_receipt z (header_for z 4 w e number) ≡ true
  pub receipt_names : Names w e number (header_for z 4 w e number)

-- a well-formed header is that of the transfer that it names
pub record Formed (z : Shape) (kind : ℕ) (h : Header) : Type 0 where
  pub transfer : Transfer z (stripe_of h) (transfer_of h) (number_of h)
  pub header : h ≡ header_for z kind (stripe_of h) (transfer_of h) (number_of h)

-- the receipt of a well-formed message is a well-formed receipt for the same transfer of the same growth
pub record Receipted (z : Shape) (h : Header) : Type 0 where
  pub form : is_receipt z (receipt_of h) ≡ true
  pub names : Names (stripe_of h) (transfer_of h) (number_of h) (receipt_of h)

pub record WireClaims (z : Shape) : Type 0 where
  -- reading back what was written
  pub words : WordClaims
  pub word_back : (x : ℕ) (rest : List ℕ) → x < 4294967296 → word_at (bytes_of x ++ rest) 0 ≡ x
  pub header_back : (h : Header) (rest : List ℕ) → Words32 h → header_at (header_bytes h ++ rest) 0 ≡ h
  pub put_back : (bytes : List ℕ) (at : ℕ) (h : Header) → at + 16 ≤ length bytes → Words32 h
      → header_at (put bytes at (header_bytes h)) at ≡ h
  pub written : (w e number : ℕ) (payload : List ℕ) → Transfer z w e number → Written z w e number payload
  -- well-formed is the header of a transfer, and so two with the same names are the same words
  pub message_is : (h : Header) → is_message z h ≡ true → Formed z (transfer_kind z (stripe_of h) (transfer_of h)) h
  pub receipt_is : (h : Header) → is_receipt z h ≡ true → Formed z 4 h
  pub same_message : (w e number : ℕ) (h g : Header) → is_message z h ≡ true → is_message z g ≡ true → Names w e number h
      → Names w e number g
      → h ≡ g
  pub same_receipt : (w e number : ℕ) (h g : Header) → is_receipt z h ≡ true → is_receipt z g ≡ true → Names w e number h
      → Names w e number g
      → h ≡ g
  pub receipted : (h : Header) → is_message z h ≡ true → Receipted z h
  -- no message is taken for a receipt
  pub apart : (h : Header) → is_message z h ≡ true → is_receipt z h ≡ false
