-- A unit comes to one typed unit, or to one refusal.
use Rattle.std.specs.Prelude.{◌≡◌, ℕ, ◌&&◌, List, [], ◌∷◌, map, Option, Some, None, option_map, Result, Ok, Err, refl}
use Rattle.std.specs.List.{list_all}
use Rattle.std.proofs.Common.{sym, ap, ap₂, ◌∙◌, subst, arith}
use Rattle.std.proofs.lemmas.Bool.{and_parts}
use Rattle.dm_token.specs.declared.stop.Refusal.{Refusal}
use Rattle.dm_token.specs.declared.stop.Stop.{Stop}
use Rattle.dm_token.specs.declared.stop.Stop.TheVariants as stop
use Rattle.dm_token.specs.declared.token.CToken.{CToken}
use Rattle.dm_type.specs.declared.shape.Content.{Content}
use Rattle.dm_type.specs.declared.shape.Member.{Member}
use Rattle.dm_type.specs.declared.shape.Shape.{Shape}
use Rattle.dm_type.specs.declared.shape.Struct.{Struct}
use Rattle.dm_type.specs.Structs.{shown_member, shown_content, shown_struct}
use Rattle.dm_type.specs.Tables.{Table, at, types_of, type_of}
use Rattle.dm_syn.specs.Trees.{External}
use Rattle.dm_tree.specs.declared.unit.CoreUnit.{CoreUnit}
use Rattle.dm_tree.specs.TypeNumbers.{entry_has_known}
use Rattle.dm_tree.specs.Units.{TypedUnit}
use Rattle.dm_tree.specs.Views.{view_of_unit}
use Rattle.dm_typing.specs.Known.{Outcome, given, broken}
use Rattle.dm_typing.specs.Views.{table_over, refusal_at}
use Rattle.dm_edecl.specs.Units.{unit_setting, typed_unit}
use Rattle.dm_reading.specs.Elaborated.{Elaborates}
use Rattle.dm_outcome.specs.Outcomes.{IsSameUnit, AreOneOutcome}
use Rattle.dm_outcome.proofs.Renumbered.{Renumbers, moved_member, moved_content, moved}
use Rattle.dm_outcome.proofs.ExpressionLemmas.{Both, gives, breaks}
use Rattle.dm_outcome.proofs.UnitLemmas.{unit-both}
use Rattle.dm_outcome.proofs.JoinLemmas.{joined, begins-joined, new_number, renumbers}
use Rattle.dm_outcome.proofs.PaddingLemmas.{padded, begins-padded, kinds-stay}
use Rattle.dm_outcome.proofs.SeenLemmas.{trees_below, struct_below, unit-bounded, unit-same, structs-same}

-- ---- what two answers with other numbers say of one another

abbrev Told : {A : Type 0} → (ℕ → ℕ) → Outcome A → Outcome A → Type 0
Told number (given known it) (given again more) = (more ≡ it) × (again.types.structs ≡ moved number known.types.structs)
Told number (broken rule at) (broken other place) = (other ≡ rule) × (place ≡ at)
Told number one other = ⊥

told : {A : Type 0} (one other : List Shape) (number : ℕ → ℕ) (x y : Outcome A) → Both one other number x y → Told number x y
told one other number x y (gives known it) = (refl, refl)
told one other number x y (breaks rule at) = (refl, refl)

-- ---- structs with other numbers

module _ (one other : List Shape) (number : ℕ → ℕ) (re : Renumbers one other number) where
  members-moved : (old new : Table) → old.shapes ≡ one → new.shapes ≡ other → (members : List Member) → map (shown_member new) (map (moved_member number) members) ≡ map (shown_member old) members
  members-moved old new first second [] = refl
  members-moved old new first second (member ∷ others) =
      let kind : type_of new (number member.kind) ≡ type_of old member.kind =
      ap (λ shapes. at (types_of shapes) (number member.kind)) second ∙ re.kinds member.kind ∙ sym (ap (λ shapes. at (types_of shapes) member.kind) first) in
      ap₂ (λ type rest. (member.name, type) ∷ rest) kind (members-moved old new first second others)

  content-moved : (old new : Table) → old.shapes ≡ one → new.shapes ≡ other → (content : Option Content)
      → option_map (shown_content new) (option_map (moved_content number) content) ≡ option_map (shown_content old) content
  content-moved old new first second None = refl
  content-moved old new first second (Some content) = ap (λ members. Some (members, content.layout)) (members-moved old new first second content.members)

  structs-moved : (old new : Table) → old.shapes ≡ one → new.shapes ≡ other → (entries : List Struct) → map (shown_struct new) (moved number entries) ≡ map (shown_struct old) entries
  structs-moved old new first second [] = refl
  structs-moved old new first second (entry ∷ others) =
      ap₂ (λ content rest. (entry.tag, content) ∷ rest) (content-moved old new first second entry.content) (structs-moved old new first second others)

-- ---- what two answers have in common

module _ (tokens : List CToken) (externals : List External) where
  both : (one other : List Shape) (x y : Outcome TypedUnit) → typed_unit (joined one other) tokens externals ≡ x → typed_unit (joined other one) tokens externals ≡ y → Told (new_number one other) x y
  both one other x y first second =
      told (joined one other) (joined other one) (new_number one other) x y
      (subst (λ it. Both (joined one other) (joined other one) (new_number one other) it y) first
      (subst (λ it. Both (joined one other) (joined other one) (new_number one other) (typed_unit (joined one other) tokens externals) it) second
      (unit-both (joined one other) (joined other one) (new_number one other) (renumbers one other) tokens externals)))

  -- two typed units are one
  one-unit : (one other : CoreUnit × Table) → Elaborates tokens externals (Ok one) → Elaborates tokens externals (Ok other) → IsSameUnit one other
  one-unit one other first second =
      let below = unit-bounded one in
      let under = unit-bounded other in
      let n = below.0 in
      let m = under.0 in
      let shapes = padded n one.1.shapes in
      let others = padded m other.1.shapes in
      let front = table_over (joined shapes others) one.1 in
      let back = table_over (joined others shapes) other.1 in
      let g = first (joined shapes others) (begins-padded n one.1.shapes others) in
      let k = second (joined others shapes) (begins-padded m other.1.shapes shapes) in
      let same = both shapes others (given g.0 (view_of_unit front one.0)) (given k.0 (view_of_unit back other.0)) g.2 k.2 in
      let here = and_parts (list_all (entry_has_known n) one.0.declared) (list_all (trees_below n) one.0.externals && list_all (struct_below n) one.1.structs) (below.1 n (omega arith)) in
      let there = and_parts (list_all (entry_has_known m) other.0.declared) (list_all (trees_below m) other.0.externals && list_all (struct_below m) other.1.structs) (under.1 m (omega arith)) in
      let in_here = and_parts (list_all (trees_below n) one.0.externals) (list_all (struct_below n) one.1.structs) here.1 in
      let in_there = and_parts (list_all (trees_below m) other.0.externals) (list_all (struct_below m) other.1.structs) there.1 in
      let stay_here = kinds-stay n one.1.shapes others in
      let stay_there = kinds-stay m other.1.shapes shapes in
      let structs : other.1.structs ≡ moved (new_number shapes others) one.1.structs =
      sym (ap (λ (types : Table). types.structs) k.1) ∙ same.1 ∙ ap (λ (types : Table). moved (new_number shapes others) types.structs) g.1 in
      record {
        unit = sym (unit-same m other.1 back stay_there other.0 there.0 in_there.0) ∙ same.0 ∙ unit-same n one.1 front stay_here one.0 here.0 in_here.0;
        structs = sym (structs-same m other.1 back stay_there other.1.structs in_there.1)
            ∙ ap (map (shown_struct back)) structs
            ∙ structs-moved (joined shapes others) (joined others shapes) (new_number shapes others) (renumbers shapes others) front back refl refl one.1.structs
            ∙ structs-same n one.1 front stay_here one.1.structs in_here.1;
      }

  -- a typed unit is not refused
  never-both : (one : CoreUnit × Table) (refusal : Refusal) → Elaborates tokens externals (Ok one) → Elaborates tokens externals (Err (stop.Refused refusal)) → ⊥
  never-both one refusal first second =
      let g = first (joined one.1.shapes second.0) (begins-joined one.1.shapes second.0) in
      let k = second.1 (joined second.0 one.1.shapes) (begins-joined second.0 one.1.shapes) in
      both one.1.shapes second.0 (given g.0 (view_of_unit (table_over (joined one.1.shapes second.0) one.1) one.0)) (broken k.0 k.1) g.2 k.2

  -- two refusals are one
  one-refusal : (one other : Refusal) → Elaborates tokens externals (Err (stop.Refused one)) → Elaborates tokens externals (Err (stop.Refused other)) → stop.Refused other ≡ stop.Refused one
  one-refusal one other first second =
      let g = first.1 (joined first.0 second.0) (begins-joined first.0 second.0) in
      let k = second.1 (joined second.0 first.0) (begins-joined second.0 first.0) in
      let same = both first.0 second.0 (broken g.0 g.1) (broken k.0 k.1) g.2 k.2 in
      let source = (unit_setting tokens externals).source in
      ap stop.Refused (k.3 ∙ ap₂ (refusal_at source) same.0 same.1 ∙ sym g.3)

  pub one-outcome : (one other : Result (CoreUnit × Table) Stop) → Elaborates tokens externals one → Elaborates tokens externals other → AreOneOutcome one other
  one-outcome (Ok one) (Ok other) first second = one-unit one other first second
  one-outcome (Ok one) (Err stop.Memory) first second = tt
  one-outcome (Ok one) (Err (stop.Refused refusal)) first second = never-both one refusal first second
  one-outcome (Ok one) (Err (stop.Limit limit)) first second = absurd second
  one-outcome (Ok one) (Err (stop.ReadFault file)) first second = absurd second
  one-outcome (Err stop.Memory) other first second = tt
  one-outcome (Err (stop.Refused refusal)) (Ok other) first second = never-both other refusal second first
  one-outcome (Err (stop.Refused refusal)) (Err stop.Memory) first second = tt
  one-outcome (Err (stop.Refused refusal)) (Err (stop.Refused again)) first second = one-refusal refusal again first second
  one-outcome (Err (stop.Refused refusal)) (Err (stop.Limit limit)) first second = absurd second
  one-outcome (Err (stop.Refused refusal)) (Err (stop.ReadFault file)) first second = absurd second
  one-outcome (Err (stop.Limit limit)) other first second = absurd first
  one-outcome (Err (stop.ReadFault file)) other first second = absurd first
