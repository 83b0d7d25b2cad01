-- Members.
use Rattle.std.specs.Prelude.{◌≡◌, ℕ, suc, ◌+◌, Bool, true, false, not, if◌then◌else◌, IsTrue, List, [], ◌∷◌, Option, Some, None, option_and_then, option_map, slice_get, bytes_eq, refl, IfSome, IsSome}
use Rattle.std.proofs.Common.{sym, ap, ◌∙◌, subst, arith, zero-add}
use Rattle.dm_type.specs.declared.shape.Member.{Member}
use Rattle.dm_type.specs.CTypes.{CType, void, integer, pointer, array, struct, function as function_type, const, bare, is_const, with_const}
use Rattle.dm_type.specs.Tables.{Table, type_of, members_of}
use Rattle.dm_syn.specs.Sources.{spelling_at}
use Rattle.dm_tree.specs.Trees.{Tree, kind_of, trees}
use Rattle.dm_tree.specs.Trees as label
use Rattle.dm_tree.specs.Scenes.{is_lvalue, is_array, member_type}
use Rattle.dm_tree.specs.Operands.{FitsMember}
use Rattle.dm_typing.specs.declared.extent.Extent.{Extent}
use Rattle.dm_typing.specs.Known.{Known, Setting}
use Rattle.dm_typing.specs.Conversions.{made, complete_target}
use Rattle.dm_typing.specs.Rules.{found_in, member_of_struct, member_in, member_by_name}
use Rattle.dm_typing.specs.Typing.{typed_member, typed_arrow}
use Rattle.dm_typing.specs.Sound.{IsProper, HasProperTypes, IsSound, IsSoundValue, Gives}
use Rattle.dm_typing.proofs.ConversionLemmas.{given-if, bare-again, bare-proper}
use Rattle.dm_typing.proofs.RuleLemmas.{follow-sound}

-- ---- types

pub with-const-proper : (type : CType) → IsProper type → IsProper (with_const type)
with-const-proper void p = (refl, p)
with-const-proper (integer kind) p = (refl, p)
with-const-proper (pointer type) p = (refl, p)
with-const-proper (array type n) p = with-const-proper type p
with-const-proper (struct at) p = (refl, p)
with-const-proper (function_type result parameters) p = (refl, p)
with-const-proper (const type) p = p

-- ---- a member by its name

-- the type of a member of a list
type_in : Table → List Member → ℕ → Option CType
type_in table members n = option_map (λ (one : Member). type_of table one.kind) (slice_get members n)

found-type : (table : Table) (name : List ℕ) (before : ℕ) (members : List Member) (one : ℕ × CType) → found_in table name before members ≡ Some one
    → (n : ℕ) × (one.0 ≡ before + n) × (type_in table members n ≡ Some one.1)
unfolding type_in
found-type table name before [] one h = absurd (cc)
found-type table name before (member ∷ members) one h =
    go (λ h. found-type table name (before + 1) members one h) (bytes_eq member.name name) h
  where
    go : (found_in table name (before + 1) members ≡ Some one → (n : ℕ) × (one.0 ≡ before + 1 + n) × (type_in table members n ≡ Some one.1))
        → (test : Bool) → (if test then Some (before, type_of table member.kind) else found_in table name (before + 1) members) ≡ Some one
        → (n : ℕ) × (one.0 ≡ before + n) × (type_in table (member ∷ members) n ≡ Some one.1)
    go rest true h =
        let same : (before, type_of table member.kind) ≡ one = cc in
        let number : before ≡ one.0 = ap (λ (it : ℕ × CType). it.0) same in
        (0, grind arith, ap (λ (it : ℕ × CType). Some it.1) same)
    go rest false h = let it = rest h in let number : one.0 ≡ before + 1 + it.0 = it.1 in (suc it.0, grind arith, it.2)

-- a member has the type that its number gives
named-member : (known : Known) (name : List ℕ) (whole : CType) (one : ℕ × CType) → member_of_struct known name whole ≡ Some one
    → member_type known.types whole one.0 ≡ Some one.1
unfolding type_in
named-member known name (struct at) one h = go (members_of known.types at) h
  where
    go : (found : Option (List Member)) → option_and_then (found_in known.types name 0) found ≡ Some one
        → option_and_then (λ members. type_in known.types members one.0) found ≡ Some one.1
    go (Some members) h =
        let it = found-type known.types name 0 members one h in
        let number : it.0 ≡ one.0 = sym (it.1 ∙ zero-add it.0) in
        subst (λ n. type_in known.types members n ≡ Some one.1) number it.2
    go None h = absurd (cc)
named-member known name whole one h = absurd (cc)

-- the members of a struct have proper types
member-proper : (table : Table) → HasProperTypes table → (whole : CType) (n : ℕ) (type : CType) → member_type table whole n ≡ Some type → IsProper type
member-proper table proper (struct at) n type h = go (members_of table at) h
  where
    by : (found : Option Member) → option_map (λ (one : Member). type_of table one.kind) found ≡ Some type → IsProper type
    by (Some one) h = let same : type_of table one.kind ≡ type = cc in subst IsProper same (proper one.kind)
    by None h = absurd (cc)

    go : (found : Option (List Member)) → option_and_then (λ members. option_map (λ (one : Member). type_of table one.kind) (slice_get members n)) found ≡ Some type → IsProper type
    go (Some members) h = by (slice_get members n) h
    go None h = absurd (cc)
member-proper table proper whole n type h = absurd (cc)

-- a member of an lvalue
lvalue-member : (table : Table) (whole : CType) (n : ℕ) (type : CType) → member_type table (bare whole) n ≡ Some type
    → FitsMember table true whole n (if is_const whole then with_const type else type)
lvalue-member table (const whole) n type h = (ap (option_map with_const) h, refl)
lvalue-member table (struct at) n type h = (h, refl)
lvalue-member table whole n type h = absurd (cc)

-- a member of a value
value-member : (table : Table) (whole : CType) (n : ℕ) (type : CType) → whole ≡ bare whole → member_type table (bare whole) n ≡ Some type → not (is_array type) ≡ true
    → FitsMember table false whole n (bare type)
value-member table whole n type plain h element =
    let is : member_type table whole n ≡ Some type = ap (λ one. member_type table one n) plain ∙ h in
    let P : Option CType → Type 0 = λ found. IfSome found (λ it. (bare type ≡ bare it) × IsTrue (not (is_array it))) × IsSome found in
    subst P (sym is) ((refl, element), refl)

module _ (setting : Setting) (known : Known) (span : Extent) (proper : HasProperTypes known.types) where
  IsMember : Tree → ℕ × CType → Type 0
  IsMember whole one = IsSound known (made setting.source span (label.member one.0) one.1 (whole ∷ []))

  member-in-sound : (whole : Tree) → IsSound known whole → (lvalue : Bool) → is_lvalue whole ≡ lvalue → (found one : ℕ × CType)
      → member_type known.types (bare (kind_of whole)) found.0 ≡ Some found.1
      → member_in lvalue (is_const (kind_of whole)) found ≡ Some one → IsMember whole one
  unfolding IsMember
  member-in-sound whole sound true e found one m h =
      let same : (found.0, if is_const (kind_of whole) then with_const found.1 else found.1) ≡ one = cc in
      subst (IsMember whole) same (
        refl,
        (λ no. let is : not true ≡ true = ap not (sym e) ∙ no in absurd (cc)),
        qualified (is_const (kind_of whole)),
        ((sound.0, subst (λ it. FitsMember known.types it (kind_of whole) found.0 (if is_const (kind_of whole) then with_const found.1 else found.1)) (sym e) (lvalue-member known.types (kind_of whole) found.0 found.1 m)), (sound.3, tt)),
      )
    where
      qualified : (test : Bool) → IsProper (if test then with_const found.1 else found.1)
      qualified true = with-const-proper found.1 (member-proper known.types proper (bare (kind_of whole)) found.0 found.1 m)
      qualified false = member-proper known.types proper (bare (kind_of whole)) found.0 found.1 m
  member-in-sound whole sound false e found one m h = go (is_array found.1) refl h
    where
      go : (test : Bool) → is_array found.1 ≡ test → (if test then None else Some (found.0, bare found.1)) ≡ Some one → IsMember whole one
      go true a h = absurd (cc)
      go false a h =
          let same : (found.0, bare found.1) ≡ one = cc in
          let fine = member-proper known.types proper (bare (kind_of whole)) found.0 found.1 m in
          subst (IsMember whole) same (
            refl,
            (λ no. sym (bare-again found.1 fine)),
            bare-proper found.1 fine,
            (
              (
                sound.0,
                subst (λ it. FitsMember known.types it (kind_of whole) found.0 (bare found.1)) (sym e)
                    (value-member known.types (kind_of whole) found.0 found.1 (sound.1 (ap not e)) m (ap not a)),
              ),
              (sound.3, tt),
            ),
          )

  by-name : (whole : Tree) (name : List ℕ) → IsSound known whole → (one : ℕ × CType) → member_by_name known name whole ≡ Some one → IsMember whole one
  by-name whole name sound one h = go (member_of_struct known name (bare (kind_of whole))) refl h
    where
      go : (found : Option (ℕ × CType)) → member_of_struct known name (bare (kind_of whole)) ≡ found
          → option_and_then (member_in (is_lvalue whole) (is_const (kind_of whole))) found ≡ Some one → IsMember whole one
      go (Some found) p h =
          member-in-sound whole sound (is_lvalue whole) refl found one (named-member known name (bare (kind_of whole)) found p) h
      go None p h = absurd (cc)

  pub member-gives : (name : ℕ) (whole : Tree) → IsSound known whole → Gives known IsSound (typed_member setting known span name whole)
  unfolding IsMember
  member-gives name whole sound =
      given-if known IsSound (member_by_name known (spelling_at setting.source name) whole) 12 span.inner.first _
      (λ one h. (refl, by-name whole (spelling_at setting.source name) sound one h))

  pub arrow-gives : (name : ℕ) (pointing : Tree) → IsSoundValue known pointing → Gives known IsSound (typed_arrow setting known span name pointing)
  arrow-gives name pointing sound =
      given-if known IsSound (complete_target known (kind_of pointing)) 12 span.inner.first _
      (λ to h. member-gives name (made setting.source span label.follow to (pointing ∷ [])) (follow-sound setting known span pointing to sound h))
