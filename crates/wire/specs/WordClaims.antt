-- What is claimed of the words: each fits in 32 bits and gives back the fields that it was made of. Assumes nothing.
use Rattle.std.specs.Prelude.{◌≡◌, ℕ, ◌<◌}
use Rattle.layout.specs.declared.Shape.{Shape}
use Rattle.wire.specs.Words.{stripe_word, route_word, state_word, size_word, growth_word, accepted_word, progress_word, count_word}
use Rattle.wire.specs.Words.{field_at}
use Rattle.wire.specs.Words.{kind_of, rest_of}

-- of a kind and 28 bits
pub record KindRest (k v x : ℕ) : Type 0 where
  pub fits : x < 4294967296
  pub kind : kind_of x ≡ k
  pub rest : rest_of x ≡ v

-- of kind 5
pub record RouteFields (s r e x : ℕ) : Type 0 where
  pub fits : x < 4294967296
  pub kind : kind_of x ≡ 5
  pub sender : field_at 20 8 x ≡ s
  pub receiver : field_at 12 8 x ≡ r
  pub transfer : field_at 4 8 x ≡ e
  pub zeros : field_at 0 4 x ≡ 0

-- of kind 7
pub record StateFields (t : ℕ) (z : Shape) (x : ℕ) : Type 0 where
  pub fits : x < 4294967296
  pub kind : kind_of x ≡ 7
  pub state : field_at 24 4 x ≡ t
  pub nodes : field_at 16 8 x ≡ z.n
  pub data_columns : field_at 8 8 x ≡ z.k
  pub new_nodes : field_at 0 8 x ≡ z.s

-- of kind 11
pub record ProgressFields (r c e x : ℕ) : Type 0 where
  pub fits : x < 4294967296
  pub kind : kind_of x ≡ 11
  pub released : field_at 27 1 x ≡ r
  pub computed : field_at 26 1 x ≡ c
  pub receipted : field_at 0 26 x ≡ e

pub record WordClaims : Type 0 where
  pub stripe : (kind w : ℕ) → kind < 16 → w < 268435456 → KindRest kind w (stripe_word kind w)
  pub route : (sender receiver item : ℕ) → sender < 256 → receiver < 256 → item < 256
      → RouteFields sender receiver item (route_word sender receiver item)
  pub state : (state : ℕ) (z : Shape) → state < 16 → z.n < 256 → z.k < 256 → z.s < 256 → StateFields state z (state_word state z)
  pub size : (z : Shape) → z.b < 268435456 → KindRest 8 z.b (size_word z)
  pub growth : (number : ℕ) → number < 268435456 → KindRest 9 number (growth_word number)
  pub accepted : (accepted : ℕ) → accepted < 268435456 → KindRest 10 accepted (accepted_word accepted)
  pub progress : (released computed receipted : ℕ) → released < 2 → computed < 2 → receipted < 67108864
      → ProgressFields released computed receipted (progress_word released computed receipted)
  pub count : (count : ℕ) → count < 268435456 → KindRest 12 count (count_word count)
