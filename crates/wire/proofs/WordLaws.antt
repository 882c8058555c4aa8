-- Each word made of fields as a number, and its fields read back where they fit. Assumes nothing.
use mathlib.Core.Path.{◌≡◌}
use Prim.Native.Nat.{ℕ, ◌+◌, ◌*◌, ◌<◌}
use native.Mathlib.Omega.{arith}
use Rattle.layout.specs.declared.Shape.{Shape}
use Rattle.wire.specs.Words.{stripe_word, route_word, state_word, size_word, growth_word, accepted_word, progress_word, count_word, rest_of}
use Rattle.wire.specs.WordClaims.{KindRest, RouteFields, StateFields, ProgressFields, WordClaims}

-- ---- words as numbers

pub stripe_word_law : (kind w : ℕ) → stripe_word kind w ≡ kind * 268435456 + w
unfolding stripe_word
stripe_word_law kind w = omega arith

pub route_word_law : (s r e : ℕ) → route_word s r e ≡ 1342177280 + s * 1048576 + r * 4096 + e * 16
unfolding route_word
route_word_law s r e = omega arith

pub state_word_law : (state : ℕ) (z : Shape) → state_word state z ≡ 1879048192 + state * 16777216 + z.n * 65536 + z.k * 256 + z.s
unfolding state_word
state_word_law state z = omega arith

pub size_word_law : (z : Shape) → size_word z ≡ 2147483648 + z.b
unfolding size_word
size_word_law z = omega arith

pub growth_word_law : (number : ℕ) → growth_word number ≡ 2415919104 + number
unfolding growth_word
growth_word_law number = omega arith

pub accepted_word_law : (accepted : ℕ) → accepted_word accepted ≡ 2684354560 + accepted
unfolding accepted_word
accepted_word_law accepted = omega arith

pub progress_word_law : (released computed receipted : ℕ)
    → progress_word released computed receipted ≡ 2952790016 + released * 134217728 + computed * 67108864 + receipted
unfolding progress_word
progress_word_law released computed receipted = omega arith

pub count_word_law : (count : ℕ) → count_word count ≡ 3221225472 + count
unfolding count_word
count_word_law count = omega arith

-- ---- fields read back

pub rest_lt : (x : ℕ) → rest_of x < 268435456
rest_lt x = omega arith

-- whatever the kind
pub stripe_rest : (kind w : ℕ) → w < 268435456 → rest_of (stripe_word kind w) ≡ w
stripe_rest kind w l = rw stripe_word_law (omega arith)

pub stripe_back : (kind w : ℕ) → kind < 16 → w < 268435456 → KindRest kind w (stripe_word kind w)
stripe_back kind w k l = rw stripe_word_law (omega arith)

pub route_back : (s r e : ℕ) → s < 256 → r < 256 → e < 256 → RouteFields s r e (route_word s r e)
route_back s r e k l m = rw route_word_law (omega arith)

pub state_back : (state : ℕ) (z : Shape) → state < 16 → z.n < 256 → z.k < 256 → z.s < 256 → StateFields state z (state_word state z)
state_back state z a n k s = rw state_word_law (omega arith)

pub size_back : (z : Shape) → z.b < 268435456 → KindRest 8 z.b (size_word z)
size_back z l = rw size_word_law (omega arith)

pub growth_back : (number : ℕ) → number < 268435456 → KindRest 9 number (growth_word number)
growth_back number l = rw growth_word_law (omega arith)

pub accepted_back : (accepted : ℕ) → accepted < 268435456 → KindRest 10 accepted (accepted_word accepted)
accepted_back accepted l = rw accepted_word_law (omega arith)

pub sent_back : (released computed receipted : ℕ) → released < 2 → computed < 2 → receipted < 67108864
    → ProgressFields released computed receipted (progress_word released computed receipted)
sent_back released computed receipted a b c = rw progress_word_law (omega arith)

pub count_back : (count : ℕ) → count < 268435456 → KindRest 12 count (count_word count)
count_back count l = rw count_word_law (omega arith)

pub words_hold : WordClaims
words_hold = record {
  stripe = stripe_back;
  route = route_back;
  state = state_back;
  size = size_back;
  growth = growth_back;
  accepted = accepted_back;
  progress = sent_back;
  count = count_back;
}
