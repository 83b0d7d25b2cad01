-- One type more is taken.
use Rattle.std.proofs.Common.{◌≡◌, ℕ, List, [], ◌∷◌, ◌++◌, All, length, map, sym, ap, ◌∙◌, subst, arith, append_assoc, length-append}
use Rattle.std.proofs.lemmas.List.{map-append}
use Rattle.std.proofs.lemmas.List.Elements.{All-push}
use Rattle.dm_type.specs.CTypes.{CType}
use Rattle.dm_type.specs.Tables.{Table, type_of, IsId}
use Rattle.dm_type.specs.Composing.{stacked}
use Rattle.dm_type.proofs.ComposingLemmas.{turned-push}
use Rattle.dm_type.proofs.SoundLemmas.{all-parts}
use Rattle.dm_type.proofs.types.Types.last_ones.Goals as goal

pub loop-preserved : goal.loop-preserved
loop-preserved c =
    let table : Table = c.args.self.now in
    let f : ℕ → CType = type_of table in
    let taken : List ℕ = c.loop.taken.items in
    let left : List ℕ = c.last_of.new.made.items in
    let one : ℕ = c.last_of.result in
    let pushed : c.push.new.self.items ≡ taken ++ one ∷ [] = c.in_ok-push.ensures.items in
    let split : c.loop.made.items ≡ left ++ one ∷ [] = c.last_of.ensures in
    let parts = all-parts (IsId table) left one (subst (All (IsId table)) split c.loop.invariant.3) in
    let counted = c.loop.invariant.1 in
    let room = c.loop.invariant.2 in
    let more : length c.push.new.self.items ≡ length (taken ++ one ∷ []) = ap length pushed in
    let one_more = length-append taken (one ∷ []) in
    let less : length c.loop.made.items ≡ length (left ++ one ∷ []) = ap length split in
    let one_less = length-append left (one ∷ []) in (
      c.loop.invariant.0
          ∙ ap (λ ids. map f taken ++ stacked table ids) split
          ∙ ap (λ ts. map f taken ++ ts) (turned-push f left one)
          ∙ sym (append_assoc (map f taken) (f one ∷ []) (stacked table left))
          ∙ ap (λ ts. ts ++ stacked table left) (sym (map-append f taken (one ∷ [])))
          ∙ ap (λ ids. map f ids ++ stacked table left) (sym pushed),
      omega (arith, counted, more, one_more),
      omega (arith, room, less, one_less),
      parts.0,
      subst (All (IsId table)) (sym pushed) (All-push (IsId table) taken one c.loop.invariant.4 parts.1),
    )
