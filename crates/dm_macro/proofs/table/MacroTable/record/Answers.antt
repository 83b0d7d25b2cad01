use Rattle.std.proofs.Common.{◌≡◌, List, refl, ◌++◌, [], ◌∷◌, length, sym, ap, ◌∙◌, subst, is_some, not, rules}
use Rattle.std.specs.FinMap as map
use Rattle.dm_token.specs.declared.expansion.Definition.{Definition}
use Rattle.dm_macro.specs.declared.role.Roles as code_roles
use Rattle.dm_name_map.specs.Numbers.{Numbers}
use Rattle.dm_macro.specs.Tables.{table_of, with_name, IsSound}
use Rattle.dm_macro.specs.Roles.{AreAllRoles}
use Rattle.dm_macro.proofs.RoleLemmas.{all-more}
use Rattle.dm_macro.proofs.TableLemmas.{recorded_sound, with_new, with_old}
use Rattle.dm_macro.proofs.table.MacroTable.record.Goals as goal
use Rattle.dm_macro.proofs.table.MacroTable.record.Goals.{then-is_none+in_ok-copy+in_ok-insert, else-is_none}

-- the same definitions and names
kept : (before after : List Definition) (names later : Numbers) → after ≡ before → later ≡ names → IsSound (table_of before names) → IsSound (table_of after later)
kept before after names later read same sound = subst (λ ns. IsSound (table_of after ns)) (sym same) (subst (λ ds. IsSound (table_of ds names)) (sym read) sound)

-- the same definitions and what is kept of them
kept_roles : (before after : List Definition) (all later : List code_roles.Roles) → after ≡ before → later ≡ all → AreAllRoles before all → AreAllRoles after later
kept_roles before after all later read same are = subst (AreAllRoles after) (sym same) (subst (λ ds. AreAllRoles ds all) (sym read) are)

pub invariant_of-self : goal.invariant_of-self
invariant_of-self c = (
  kept c.self.inside.read.items c.reserve.new.self.items c.self.inside.names c.self.inside.names c.reserve.ensures.items refl c.self.invariant.0,
  kept_roles c.self.inside.read.items c.reserve.new.self.items c.self.inside.roles.items c.self.inside.roles.items c.reserve.ensures.items refl c.self.invariant.1,
)

pub invariant_of-self-in_err-reserve-2 : goal.invariant_of-self-in_err-reserve-2
invariant_of-self-in_err-reserve-2 c = (
  kept c.self.inside.read.items c.reserve.new.self.items c.self.inside.names c.self.inside.names c.reserve.ensures.items refl c.self.invariant.0,
  kept_roles c.self.inside.read.items c.reserve.new.self.items c.self.inside.roles.items c.reserve-2.new.self.items c.reserve.ensures.items c.reserve-2.ensures.items c.self.invariant.1,
)

pub invariant_of-self-in_err-copy : goal.invariant_of-self-in_err-copy
invariant_of-self-in_err-copy c = (
  kept c.self.inside.read.items c.reserve.new.self.items c.self.inside.names c.self.inside.names c.reserve.ensures.items refl c.self.invariant.0,
  kept_roles c.self.inside.read.items c.reserve.new.self.items c.self.inside.roles.items c.reserve-2.new.self.items c.reserve.ensures.items c.reserve-2.ensures.items c.self.invariant.1,
)

pub invariant_of-self-in_err-insert : goal.invariant_of-self-in_err-insert
invariant_of-self-in_err-insert c = (
  kept c.self.inside.read.items c.reserve.new.self.items c.self.inside.names c.insert.new.self c.reserve.ensures.items c.in_err-insert.ensures.err c.self.invariant.0,
  kept_roles c.self.inside.read.items c.reserve.new.self.items c.self.inside.roles.items c.reserve-2.new.self.items c.reserve.ensures.items c.reserve-2.ensures.items c.self.invariant.1,
)

-- the names after the definition
names_after : (c : goal.After-push_reserved-2) → c.if-is_none.self-inside.names ≡ with_name c.self.inside.names c.args.definition.name (length c.self.inside.read.items)
names_after c =
    let names = c.self.inside.names in
    let name = c.args.definition.name in
    let number = length c.self.inside.read.items in
    let counted : c.len-number.result ≡ number = search rules in
    elim c.if-is_none.branch [
      | then-is_none+in_ok-copy+in_ok-insert w ↦
          ap (λ inside. inside.names) w.self-inside-is
          ∙ w.in_ok-insert.ensures.ok
          ∙ (λ i. map.insert names (w.in_ok-copy.ensures i) (counted i))
          ∙ with_new names name number (ap is_some (sym c.get.ensures) ∙ c.is_none.ensures ∙ ap not w.if-is_none.true)
      | else-is_none w ↦
          ap (λ inside. inside.names) w.self-inside-is
          ∙ with_old names name number (ap is_some (sym c.get.ensures) ∙ c.is_none.ensures ∙ ap not w.if-is_none.false)
    ]

-- the definitions before it is added
read_before : (c : goal.After-push_reserved-2) → c.if-is_none.self-inside.read.items ≡ c.self.inside.read.items
read_before c = elim c.if-is_none.branch [
  | then-is_none+in_ok-copy+in_ok-insert w ↦ ap (λ inside. inside.read.items) w.self-inside-is ∙ c.reserve.ensures.items
  | else-is_none w ↦ ap (λ inside. inside.read.items) w.self-inside-is ∙ c.reserve.ensures.items
]

-- what is kept of the definitions before it is added
roles_before : (c : goal.After-push_reserved-2) → c.if-is_none.self-inside.roles.items ≡ c.self.inside.roles.items
roles_before c = elim c.if-is_none.branch [
  | then-is_none+in_ok-copy+in_ok-insert w ↦ ap (λ inside. inside.roles.items) w.self-inside-is ∙ c.reserve-2.ensures.items
  | else-is_none w ↦ ap (λ inside. inside.roles.items) w.self-inside-is ∙ c.reserve-2.ensures.items
]

pub invariant_of-self-2 : goal.invariant_of-self-2
invariant_of-self-2 c =
    let definition = c.args.definition in
    let before : List Definition = c.self.inside.read.items in
    let read = c.push_reserved.ensures.items ∙ ap (λ items. items ++ definition ∷ []) (read_before c) in
    let roles = c.push_reserved-2.ensures.items ∙ ap (λ items. items ++ c.args.roles ∷ []) (roles_before c) in (
      kept (before ++ definition ∷ []) c.push_reserved.new.self.items (with_name c.self.inside.names definition.name (length before)) c.if-is_none.self-inside.names read (names_after c) (recorded_sound before c.self.inside.names definition c.self.invariant.0),
      kept_roles (before ++ definition ∷ []) c.push_reserved.new.self.items (c.self.inside.roles.items ++ c.args.roles ∷ []) c.push_reserved-2.new.self.items read roles (all-more before c.self.inside.roles.items definition c.args.roles c.self.invariant.1 c.requires.roles),
    )
