-- What an edit adds to a unit, and what the code has of it.
use Rattle.std.proofs.Common.{◌≡◌, ◌+◌, ℕ, suc, true, List, [], ◌∷◌, get_or, Option, Some, None, sym, ap, ◌∙◌, subst, arith}
use Rattle.std.specs.Prelude.{IfNone}
use Rattle.dm_align.specs.declared.insertion.Inserted.{Inserted}
use Rattle.dm_align.specs.Insertions.{Fits, IsOfKind, number_of, put_in}
use Rattle.dm_align.specs.Units.{Insertion}
use Rattle.dm_agree.specs.Agreement.{Added}
use Rattle.dm_edit.specs.declared.change.As.{As}
use Rattle.dm_edit.specs.declared.change.Change.{Change}
use Rattle.dm_names.specs.declared.identifier.Entered.{Entered}
use Rattle.dm_reading.specs.declared.reading.Reading.{Reading}
use Rattle.dm_rules.specs.Uses.{reads}
use Rattle.dm_alignment.specs.Insertions.{IsInserted}
use Rattle.dm_alignment.specs.Readings.{DeclaresAlone, IsInsertion, entered_alone, entries_behind}

-- one name has one number
number_in : List Entered → ℕ
number_in [] = 0
number_in (one ∷ others) = one.number

pub one-number : (reading : Reading) (k : ℕ) (name : List ℕ) (c d : ℕ) → DeclaresAlone reading k name c → DeclaresAlone reading k name d → c ≡ d
unfolding DeclaresAlone number_in
one-number reading k name c d one other = ap number_in (sym one ∙ other)

same-count : (a b c n : ℕ) → a ≡ b → a + c ≡ b + n → c ≡ n
same-count a b c n same sum = omega (arith, same, sum)

module _ (old new : Reading) (change : Change) (it : Inserted) (inserted : IsInserted old new change it) where
  -- what is added there is an insertion
  pub as-insertion : reads change.definition old ≡ true → (added : Added) → Fits it added → IsInsertion old new change (put_in it added)
  as-insertion read added fits = record {
    read = read;
    external = inserted.external;
    first = inserted.first;
    behind = inserted.behind;
    name = inserted.name;
    kind = subst (λ (kind : As). IsOfKind kind added) inserted.kind fits.0;
    counted = inserted.counted;
    plain = inserted.plain;
    alone = subst (DeclaresAlone new it.external it.name.now) (sym fits.1) inserted.alone;
  }

  module _ (put : Insertion) (is : IsInsertion old new change put) where
    same-external : put.external ≡ it.external
    same-external = is.external ∙ sym inserted.external

    same-first : put.first ≡ it.first
    same-first = is.first ∙ ap (entries_behind new) same-external ∙ sym inserted.first

    count-is : put.count ≡ it.count
    count-is =
        same-count put.first it.first put.count it.count same-first
        (is.behind ∙ ap (λ (k : ℕ). entries_behind new (suc k)) same-external ∙ sym inserted.behind)

    same-name : put.name ≡ it.name.now
    same-name = is.name ∙ sym inserted.name

    same-number : number_of put.added ≡ it.number
    same-number =
        one-number new it.external it.name.now (number_of put.added) it.number
        (subst (λ (k : ℕ). DeclaresAlone new k it.name.now (number_of put.added)) same-external
        (subst (λ (name : List ℕ). DeclaresAlone new put.external name (number_of put.added)) same-name is.alone))
        inserted.alone

    -- each insertion is the one that the code has
    pub fits-inserted : Fits it put.added
    fits-inserted = (subst (λ (kind : As). IsOfKind kind put.added) (sym inserted.kind) is.kind, same-number)

    pub is-inserted : put ≡ put_in it put.added
    is-inserted =
        ap (λ (k : ℕ). record put { external = k }) same-external
        ∙ ap (λ (k : ℕ). record put { external = it.external; first = k }) same-first
        ∙ ap (λ (k : ℕ). record put { external = it.external; first = it.first; count = k }) count-is
        ∙ ap (λ (name : List ℕ). record put { external = it.external; first = it.first; count = it.count; name = name }) same-name

-- what the one item isn't, a list of it isn't
pub not-only : (entered : List Entered) (one : Entered) (found : Option ℕ) (name : List ℕ) → one ≡ get_or entered 0 one → IfNone found ((number : ℕ) → ¬ (one ≡ entered_alone name number))
    → IfNone found ((number : ℕ) → ¬ (entered ≡ entered_alone name number ∷ []))
not-only entered one None name is none = λ number same. none number (is ∙ ap (λ (xs : List Entered). get_or xs 0 one) same)
not-only entered one (Some found) name is none = tt
