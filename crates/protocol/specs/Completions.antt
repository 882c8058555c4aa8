-- Document 01, "Runs of calls", not stranded: the completions that the paper allows. Assumes nothing.
use Rattle.std.specs.Prelude.{◌≡◌, Bool, not, ◌&&◌, List, [], ◌∷◌, ◌++◌, map, ℕ, zero, suc}
use Rattle.base.specs.Tests.{if, below}
use Rattle.protocol.specs.Transfers.{times, Transfer, occurrences}
use Rattle.protocol.specs.Parts.{Message, Growth}
use Rattle.protocol.specs.World.{Journal}
use Rattle.protocol.specs.Steps.{Step, compute, send, deliver, receipt, release, close}
use Rattle.protocol.specs.Calls.{Call, step}
use Rattle.protocol.specs.Image.{payload_of}

module _ (G : Growth) where
  open G use {Block, stripes, transfers, sender, receiver}

  -- the list names each stripe that lacks the mark once, in any order, and nothing else
  unfoldable pub NamesOnce : (ℕ → Bool) → List ℕ → Type 0
  NamesOnce mark ws = (w : ℕ) → times w ws ≡ if (below w stripes && not (mark w)) 1 0

  -- the list names each transfer that lacks the mark three times, in any order, and nothing else
  unfoldable pub NamesThrice : (ℕ → ℕ → Bool) → List Transfer → Type 0
  NamesThrice mark is = (w e : ℕ) → occurrences w e is ≡ if (below w stripes && (below e transfers && not (mark w e))) 3 0

  -- the one message of a transfer
  abbrev pub message_of : Transfer → Message Block
  message_of i = record { transfer = i; payload = payload_of G i.stripe i.item }

  -- a transfer that is named for the first time is sent, for the second time delivered at its receiver; for the third time its sender
  -- gets its receipt. The number says how often it is still named after this.
  unfoldable pub leg_of : ℕ → Transfer → Step Block
  leg_of zero i = receipt (sender i.stripe) i
  leg_of (suc zero) i = deliver (receiver i.stripe i.item) (message_of i)
  leg_of (suc (suc k)) i = send i.stripe i.item

  unfoldable pub legs : List Transfer → List (Step Block)
  legs [] = []
  legs (i ∷ is) = leg_of (occurrences i.stripe i.item is) i ∷ legs is

  -- the order in which stripes are computed, transfers taken and stripes released
  pub record Order : Type 0 where
    pub computing : List ℕ
    pub transferring : List Transfer
    pub releasing : List ℕ

  -- it names what is left to do, by the marks
  pub record Completes (j : Journal) (o : Order) : Type 0 where
    pub uncomputed : NamesOnce j.computed o.computing
    pub unreceipted : NamesThrice j.receipted o.transferring
    pub unreleased : NamesOnce j.released o.releasing

  unfoldable pub completion : Order → List (Call Block)
  completion o = map step (map compute o.computing ++ (legs o.transferring ++ map release o.releasing))

  abbrev pub closing : List (Call Block)
  closing = step close ∷ []
