-- A completion makes the calls that are made for a completion of the growth without bytes. Assumes nothing.
use mathlib.Core.Path.{◌≡◌, refl, ap, ap₂, ◌∙◌}
use mathlib.Core.Bool.{Bool, true, false, ◌&&◌}
use mathlib.Core.List.{List, [], ◌∷◌, ◌++◌, map}
use mathlib.Core.Logic.{inl, inr}
use Prim.Native.Nat.{ℕ, zero, suc, ◌+◌, ◌<◌}
use native.Mathlib.Omega.{arith}
use lib.Dec.{eqb, ltb}
use lib.ListN.{length}
use borrow.Author.Tests.{ltb-true}
use Rattle.base.specs.Tests.{if}
use Rattle.layout.specs.declared.Shape.{Shape}
use Rattle.layout.specs.Counts.{kept, transfers}
use Rattle.protocol.specs.Transfers.{Among, Transfer, occurrences}
use Rattle.protocol.specs.Parts.{Growth}
use Rattle.protocol.specs.Steps as P
use Rattle.protocol.specs.Calls as Calls
use Rattle.protocol.specs.Completions as Protocol
use Rattle.protocol.proofs.Lists.{occurrences_pos}
use Rattle.growth.specs.Begin.{begun_area}
use Rattle.growth.specs.Send.{message_length}
use Rattle.growth.specs.Deliver.{receipt_length}
use Rattle.history.specs.Contents.{Contents, receipted_of}
use Rattle.history.specs.Begun.{Begun}
use Rattle.history.specs.Steps.{Step, compute, release}
use Rattle.history.specs.Calls.{Call, step}
use Rattle.history.specs.Completions.{Order, NamesThrice, Completes, Spaces, leg_of, legs, completion, closing}
use Rattle.history.proofs.Growths.{growth_of}
use Rattle.history.proofs.MessagesOne.{message_one}
use Rattle.history.proofs.Refining.{make_step, make}
use Rattle.history.proofs.LeftToDo.{as_order}

module _ (z : Shape) (area : List ℕ) (number : ℕ) (b : Begun z area number) (spaces : Spaces z)
    (space : List ℕ) (room : length space ≡ message_length z + receipt_length) where
  abbrev G : Growth
  G = growth_of z (begun_area z area)

  abbrev made : P.Step (List ℕ) → Call
  made x = make_step z number spaces space room x

  abbrev There : Transfer → Type 0
  There i = (i.stripe < kept z) × (i.item < transfers z)

  -- each call is the one that is made for the growth's
  turn_made : (n : ℕ) (i : Transfer) → There i → made (Protocol.leg_of G n i) ≡ step (leg_of z area number spaces n i)
  unfolding leg_of Protocol.leg_of
  turn_made zero i l = refl
  turn_made (suc zero) i l = rw (message_one z area number b i.stripe i.item l.0 l.1)
  turn_made (suc (suc k)) i l = refl

  releases_made : (ws : List ℕ) → map made (map P.release ws) ≡ map step (map (λ w. release z w) ws)
  releases_made [] = refl
  releases_made (w ∷ ws) = ap (λ list. step (release z w) ∷ list) (releases_made ws)

  turns_made : (is : List Transfer) → ((i : Transfer) → Among i is → There i) → (xs : List (P.Step (List ℕ))) (ys : List Step)
      → map made xs ≡ map step ys → map made (Protocol.legs G is ++ xs) ≡ map step (legs z area number spaces is ++ ys)
  unfolding legs Protocol.legs
  turns_made [] h xs ys e = e
  turns_made (i ∷ is) h xs ys e =
      ap₂ ◌∷◌ (turn_made (occurrences i.stripe i.item is) i (h i (inl refl))) (turns_made is (λ j a. h j (inr a)) xs ys e)

  computes_made : (ws : List ℕ) (xs : List (P.Step (List ℕ))) (ys : List Step) → map made xs ≡ map step ys
      → map made (map P.compute ws ++ xs) ≡ map step (map (λ w. compute z w) ws ++ ys)
  computes_made [] xs ys e = e
  computes_made (w ∷ ws) xs ys e = ap (λ list. step (compute z w) ∷ list) (computes_made ws xs ys e)

  closing_made : (xs : List (P.Step (List ℕ)))
      → map (make z number spaces space room) (map Calls.step xs ++ Protocol.closing G) ≡ map made xs ++ closing z
  closing_made [] = refl
  closing_made (x ∷ xs) = ap (λ list. made x ∷ list) (closing_made xs)

  -- what is named at all is there
  named_there : (i : Transfer) (is : List Transfer) (rest : Bool) → Among i is
      → occurrences i.stripe i.item is ≡ if (ltb i.stripe (kept z) && (ltb i.item (transfers z) && rest)) 3 0 → There i
  named_there i is rest a = go (ltb i.stripe (kept z)) (ltb i.item (transfers z)) refl refl
    where
      some_times : 0 < occurrences i.stripe i.item is
      some_times = occurrences_pos i is a

      go : (t u : Bool) → ltb i.stripe (kept z) ≡ t → ltb i.item (transfers z) ≡ u
          → occurrences i.stripe i.item is ≡ if (t && (u && rest)) 3 0 → There i
      go true true p q n = (ltb-true i.stripe (kept z) p, ltb-true i.item (transfers z) q)
      go true false p q n = let l = some_times in absurd (omega arith)
      go false u p q n = let l = some_times in absurd (omega arith)

  pub completion_made : (c : Contents) (o : Order) → Completes z c.trace o
      → map (make z number spaces space room) (Protocol.completion G (as_order z (begun_area z area) o) ++ Protocol.closing G)
      ≡ completion z area number spaces o ++ closing z
  unfolding completion Protocol.completion NamesThrice
  completion_made c o h =
      let released = map P.release o.releasing in
      let middle = Protocol.legs G o.transferring ++ released in
      let releases = map (λ w. release z w) o.releasing in
      let onward = legs z area number spaces o.transferring ++ releases in
      let there : (i : Transfer) → Among i o.transferring → There i
      = λ i a. named_there i o.transferring (eqb (occurrences i.stripe i.item (receipted_of c.trace)) 0) a
      (h.unreceipted i.stripe i.item) in
      closing_made (map P.compute o.computing ++ middle)
      ∙ ap (λ list. list ++ closing z)
      (computes_made o.computing middle onward (turns_made o.transferring there released releases (releases_made o.releasing)))
