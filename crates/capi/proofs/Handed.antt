-- A function that makes the shape, hands on to a call and answers with the number of its answer, leaves what the call leaves. Assumes
-- nothing.
use mathlib.Core.Path.{◌≡◌, ap, ◌∙◌}
use Prim.Native.Nat.{ℕ}
use Rattle.layout.specs.declared.Shape.{Shape}
use Rattle.capi.specs.Calls.{Left}

pub handed : {A : Type 0} (left : A → Left) (call : Shape → A) (number : ℕ) (o : A) (made wanted : Shape)
    → number ≡ (left o).answer → o ≡ call made → made ≡ wanted
    → ◌≡◌ {A = Left} (record { answer = number; buffers = (left o).buffers }) (left (call wanted))
handed left call number o made wanted told same shaped =
    ap {B = Left} (λ x. record { answer = x; buffers = (left o).buffers }) told ∙ ap left (same ∙ ap call shaped)

-- the same of a call that is lent nothing to write
pub handed_number : {A : Type 0} (coded : A → ℕ) (call : Shape → A) (number : ℕ) (o : A) (made wanted : Shape)
    → number ≡ coded o → o ≡ call made → made ≡ wanted → number ≡ coded (call wanted)
handed_number coded call number o made wanted told same shaped = told ∙ ap coded (same ∙ ap call shaped)
