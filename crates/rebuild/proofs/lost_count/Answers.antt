-- `rebuild::lost_count` meets its contract. Assumes nothing.
use mathlib.Core.Path.{◌≡◌, ◌∙◌}
use lib.Dec.{eqb}
use lib.ListN.{take}
use borrow.Author.Rules.{rules}
use Rattle.std.specs.List.{count_by}
use Rattle.rebuild.proofs.ReadLaws.{lost_counted}
use Rattle.rebuild.proofs.lost_count.Goals as goal

pub returns : goal.returns
returns c =
    let args = c.args in
    let counted : c.count.result ≡ count_by (λ x. eqb x 1) (take args.n args.losses.now) = search rules in
    counted ∙ lost_counted args.losses.now args.n (search rules)
