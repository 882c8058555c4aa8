-- What was written is read back: a word from its four bytes, a header from its sixteen. Assumes nothing.
use mathlib.Core.Path.{◌≡◌, refl, ◌∙◌}
use mathlib.Core.List.{List, [], ◌++◌}
use Prim.Native.Nat.{ℕ, ◌+◌, ◌*◌, ◌/◌, ◌%◌, ◌≤◌, ◌<◌}
use native.Mathlib.Nat.{add-zero, zero-add, add_assoc}
use native.Mathlib.Omega.{arith}
use lib.ListN.{length, get_or, drop, length-append, get_or-append}
use lib.Seq.{drop_at, get_or-append-add}
use Rattle.area.specs.Area.{put}
use Rattle.area.proofs.Blocks.{put_in}
use Rattle.wire.specs.declared.Header.{Header}
use Rattle.wire.specs.Words.{bytes_of, word_at}
use Rattle.wire.specs.Headers.{header_bytes, header_at}
use Rattle.wire.specs.Claims.{Words32}

-- a header is its four words
pub same_header : (h g : Header) → h.stripe ≡ g.stripe → h.route ≡ g.route → h.growth ≡ g.growth → h.size ≡ g.size → h ≡ g
same_header h g a b c d = λ i. record { stripe = a i; route = b i; growth = c i; size = d i }

-- ---- bytes that stand at a place of others

abbrev StandAt : List ℕ → List ℕ → ℕ → Type 0
StandAt bs bytes at = (i : ℕ) → i < length bs → get_or bytes (at + i) 0 ≡ get_or bs i 0

starts : (a b : List ℕ) → StandAt a (a ++ b) 0
starts a b i l = rw zero-add (get_or-append a b 0 i l)

first_part : (a b bytes : List ℕ) (at : ℕ) → StandAt (a ++ b) bytes at → StandAt a bytes at
first_part a b bytes at h i l = h i (rw length-append (omega arith)) ∙ get_or-append a b 0 i l

second_part : (a b bytes : List ℕ) (at : ℕ) → StandAt (a ++ b) bytes at → StandAt b bytes (at + length a)
second_part a b bytes at h i l = rw add_assoc (h (length a + i) (rw length-append (omega arith)) ∙ get_or-append-add a b i 0)

-- ---- words

four_bytes : (x : ℕ) → x < 4294967296 → x % 256 + x / 256 % 256 * 256 + x / 65536 % 256 * 65536 + x / 16777216 % 256 * 16777216 ≡ x
four_bytes x l =
    let a : x / 65536 ≡ x / 256 / 256 = omega arith in
    let b : x / 16777216 ≡ x / 65536 / 256 = omega arith in
    let c : x / 16777216 % 256 ≡ x / 16777216 = omega arith in
    omega arith

word_here : (x : ℕ) (bytes : List ℕ) (at : ℕ) → StandAt (bytes_of x) bytes at → x < 4294967296 → word_at bytes at ≡ x
unfolding word_at
word_here x bytes at h l =
    let a : get_or bytes at 0 ≡ x % 256 = rw add-zero at (h 0 (omega arith)) in
    rw (a, h 1 (omega arith), h 2 (omega arith), h 3 (omega arith)) (four_bytes x l)

word_after : (a : List ℕ) (x : ℕ) (b bytes : List ℕ) (at : ℕ) → StandAt (a ++ (bytes_of x ++ b)) bytes at → x < 4294967296
    → word_at bytes (at + length a) ≡ x
word_after a x b bytes at h l =
    word_here x bytes (at + length a) (first_part (bytes_of x) b bytes (at + length a) (second_part a (bytes_of x ++ b) bytes at h)) l

pub word_back : (x : ℕ) (rest : List ℕ) → x < 4294967296 → word_at (bytes_of x ++ rest) 0 ≡ x
word_back x rest l = word_here x (bytes_of x ++ rest) 0 (starts (bytes_of x) rest) l

-- ---- headers

header_here : (h : Header) (bytes : List ℕ) (at : ℕ) → StandAt (header_bytes h) bytes at → Words32 h → header_at bytes at ≡ h
unfolding header_bytes header_at
header_here h bytes at s f =
    let a : List ℕ = bytes_of h.stripe in
    let b : List ℕ = bytes_of h.route in
    let c : List ℕ = bytes_of h.growth in
    let d : List ℕ = bytes_of h.size in
    same_header (header_at bytes at) h
    (word_here h.stripe bytes at (first_part a (b ++ (c ++ d)) bytes at s) f.stripe)
    (word_after a h.route (c ++ d) bytes at s f.route)
    (word_after (a ++ b) h.growth d bytes at s f.growth)
    (word_after (a ++ (b ++ c)) h.size [] bytes at s f.size)

pub header_back : (h : Header) (rest : List ℕ) → Words32 h → header_at (header_bytes h ++ rest) 0 ≡ h
header_back h rest f = header_here h (header_bytes h ++ rest) 0 (starts (header_bytes h) rest) f

-- sixteen bytes hold the header that they were made of
pub header_alone : (h : Header) → Words32 h → header_at (header_bytes h) 0 ≡ h
unfolding header_bytes
header_alone h f = header_back h [] f

pub length_header : (h : Header) → length (header_bytes h) ≡ 16
unfolding header_bytes
length_header h = refl

pub header_put : (bytes : List ℕ) (at : ℕ) (h : Header) → at + 16 ≤ length bytes → Words32 h
    → header_at (put bytes at (header_bytes h)) at ≡ h
header_put bytes at h l f =
    header_here h (put bytes at (header_bytes h)) at (λ i m. put_in bytes at (header_bytes h) i m (rw length_header l)) f

-- a header, and a payload behind it
pub length_after : (h : Header) (payload : List ℕ) → length (header_bytes h ++ payload) ≡ 16 + length payload
length_after h payload = rw (length-append, length_header)

pub drop_header : (h : Header) (payload : List ℕ) → drop 16 (header_bytes h ++ payload) ≡ payload
drop_header h payload = drop_at (header_bytes h) payload 16 (length_header h)
