-- Down the left operands of commas the form stays, as long as each right operand has it.
use Rattle.std.proofs.Common.{◌≡◌, ℕ, Bool, true, false, ◌&&◌, if◌then◌else◌, [], ◌∷◌, IsTrue, length, ap, refl, sym, subst, ◌∙◌, rules}
use Rattle.dm_type.specs.Tables.{Table, type_of}
use Rattle.dm_tree.specs.declared.tree.Core as q
use Rattle.dm_tree.specs.declared.tree.Core.{Core, out-Core}
use Rattle.dm_tree.specs.declared.tree.Form.TheVariants as form
use Rattle.dm_tree.specs.Trees as label
use Rattle.dm_tree.specs.Trees.{no_trees, more_trees}
use Rattle.dm_tree.specs.TypeNumbers.{are_known}
use Rattle.dm_tree.specs.Views.{opened, opened_form, view}
use Rattle.dm_tree.proofs.ViewLemmas.{known-form, known-first-Comma, known-second-Comma, known-later-Choose, opened-Binary, opened-Both, opened-Either, opened-Comma, opened-Choose}
use Rattle.dm_effect.specs.Entities.{is_named, object_first}
use Rattle.dm_effect.specs.Forms.{settled, by_parts, is_built}
use Rattle.dm_effect.specs.Safe.{safe_rule}
use Rattle.dm_stable.specs.Built.{is_built_form}
use Rattle.dm_stable.proofs.BuiltLemmas.{built-form, comma-fails, comma-left, two-built, three-built}
use Rattle.dm_stable.proofs.safety.+safe_form.Goals as goal

abbrev built : (ℕ → Bool) → Table → Core → Bool
built test types core = is_built (safe_rule test) (view types core)

pub has_safe_form-has_safe_form-requires : goal.has_safe_form-has_safe_form-requires
has_safe_form-has_safe_form-requires g t c = λ κs within. (
  search (rules, q.the_lemmas),
  (within, subst (λ x. IsTrue (are_known (length c.args.types.now.shapes) x)) (sym c.get.ensures) (known-second-Comma _ _ _ _ c.in-Comma.is (known-form _ _ c.loop-at.invariant.0))),
)

pub has_safe_form-returns-then-not-has_safe_form : goal.has_safe_form-returns-then-not-has_safe_form
has_safe_form-returns-then-not-has_safe_form g t c =
    let test = g.N.Names.test c.args.names.now in
    let types = c.args.types.now in
    let right : built test types c.in-Comma.right ≡ false = ap (built test types) (sym c.get.ensures) ∙ (sym c.has_safe_form.ensures ∙ c.if-not-has_safe_form.true) in
    sym (sym c.loop-at.invariant.1 ∙ comma-fails (safe_rule test) types (λ kind parts. refl) c.loop-at.at.now c.in-Comma.left c.in-Comma.right c.in-Comma.is right)

pub has_safe_form-loop-at-preserved : goal.has_safe_form-loop-at-preserved
has_safe_form-loop-at-preserved g t c =
    let test = g.N.Names.test c.args.names.now in
    let types = c.args.types.now in
    let right : built test types c.in-Comma.right ≡ true = ap (built test types) (sym c.get.ensures) ∙ (sym c.has_safe_form.ensures ∙ c.if-not-has_safe_form.false) in (
      subst (λ x. IsTrue (are_known (length types.shapes) x)) (sym c.get-at.ensures) (known-first-Comma _ _ _ _ c.in-Comma.is (known-form _ _ c.loop-at.invariant.0)),
      ap (built test types) c.get-at.ensures ∙ (sym (comma-left (safe_rule test) types (λ kind parts. refl) c.loop-at.at.now c.in-Comma.left c.in-Comma.right c.in-Comma.is right) ∙ c.loop-at.invariant.1),
      search (rules, q.the_lemmas),
    )

pub has_safe_form-returns : goal.has_safe_form-returns
has_safe_form-returns g t c =
    let test = g.N.Names.test c.args.names.now in
    let types = c.args.types.now in
    c.form_is_safe.ensures ∙ (sym (built-form (safe_rule test) types c.loop-at.at.now) ∙ c.loop-at.invariant.1)

-- ---- a form

opened-Read : (types : Table) (a : Core) → opened_form types (form.Read a) ≡ opened label.read (view types a ∷ [])
opened-Read types a = search (rules, q.the_lemmas)

pub form_is_safe-returns-in-Read : goal.form_is_safe-returns-in-Read
form_is_safe-returns-in-Read g t c =
    let test = g.N.Names.test c.args.names.now in
    let types = c.args.types.now in
    c.passes.ensures types no_trees
    ∙ (ap (λ (core : Core). is_named test (object_first (more_trees (view types core) no_trees))) c.get.ensures
    ∙ sym (ap (is_built_form (safe_rule test) (type_of types c.args.kind)) (ap (opened_form types) c.in-Read.is ∙ opened-Read types c.in-Read.a)))

pub form_is_safe-returns-then-has_safe_form : goal.form_is_safe-returns-then-has_safe_form
form_is_safe-returns-then-has_safe_form g t c =
    let test = g.N.Names.test c.args.names.now in
    let types = c.args.types.now in
    let kind = type_of types c.args.kind in
    let a = c.in-Binary.a in
    let b = c.in-Binary.b in
    let left : built test types a ≡ true = ap (built test types) (sym c.get-in-Binary.ensures) ∙ (sym c.has_safe_form-in-Binary.ensures ∙ c.if-has_safe_form.true) in
    c.has_safe_form-then-has_safe_form.ensures
    ∙ (ap (built test types) c.get-then-has_safe_form.ensures
    ∙ sym (two-built (safe_rule test) types kind c.args.form.now (form.Binary c.in-Binary.op a b) c.in-Binary.is (label.binary c.in-Binary.op) a b (opened-Binary types c.in-Binary.op a b) (ap (λ b. if b then by_parts else settled false) (sym c.is_safe_operator.ensures ∙ c.if-not-is_safe_operator.false)) left))

pub form_is_safe-returns-then-has_safe_form-2 : goal.form_is_safe-returns-then-has_safe_form-2
form_is_safe-returns-then-has_safe_form-2 g t c =
    let test = g.N.Names.test c.args.names.now in
    let types = c.args.types.now in
    let kind = type_of types c.args.kind in
    let a = c.in-Both.a in
    let b = c.in-Both.b in
    let left : built test types a ≡ true = ap (built test types) (sym c.get-in-Both.ensures) ∙ (sym c.has_safe_form-in-Both.ensures ∙ c.if-has_safe_form-2.true) in
    c.has_safe_form-then-has_safe_form-2.ensures
    ∙ (ap (built test types) c.get-then-has_safe_form-2.ensures
    ∙ sym (two-built (safe_rule test) types kind c.args.form.now (form.Both a b) c.in-Both.is label.both a b (opened-Both types a b) refl left))

pub form_is_safe-returns-then-has_safe_form-3 : goal.form_is_safe-returns-then-has_safe_form-3
form_is_safe-returns-then-has_safe_form-3 g t c =
    let test = g.N.Names.test c.args.names.now in
    let types = c.args.types.now in
    let kind = type_of types c.args.kind in
    let a = c.in-Either.a in
    let b = c.in-Either.b in
    let left : built test types a ≡ true = ap (built test types) (sym c.get-in-Either.ensures) ∙ (sym c.has_safe_form-in-Either.ensures ∙ c.if-has_safe_form-3.true) in
    c.has_safe_form-then-has_safe_form-3.ensures
    ∙ (ap (built test types) c.get-then-has_safe_form-3.ensures
    ∙ sym (two-built (safe_rule test) types kind c.args.form.now (form.Either a b) c.in-Either.is label.either a b (opened-Either types a b) refl left))

pub form_is_safe-returns-then-has_safe_form-4 : goal.form_is_safe-returns-then-has_safe_form-4
form_is_safe-returns-then-has_safe_form-4 g t c =
    let test = g.N.Names.test c.args.names.now in
    let types = c.args.types.now in
    let kind = type_of types c.args.kind in
    let a = c.in-Comma.a in
    let b = c.in-Comma.b in
    let left : built test types a ≡ true = ap (built test types) (sym c.get-in-Comma.ensures) ∙ (sym c.has_safe_form-in-Comma.ensures ∙ c.if-has_safe_form-4.true) in
    c.has_safe_form-then-has_safe_form-4.ensures
    ∙ (ap (built test types) c.get-then-has_safe_form-4.ensures
    ∙ sym (two-built (safe_rule test) types kind c.args.form.now (form.Comma a b) c.in-Comma.is label.comma a b (opened-Comma types a b) refl left))

-- ---- a choice

pub form_is_safe-has_safe_form-requires-then-has_safe_form-5 : goal.form_is_safe-has_safe_form-requires-then-has_safe_form-5
form_is_safe-has_safe_form-requires-then-has_safe_form-5 g t c = λ κs within. (
  search (rules, q.the_lemmas),
  (within, subst (λ x. IsTrue (are_known (length c.args.types.now.shapes) x)) (sym c.get-third.ensures) (known-later-Choose _ _ _ _ _ c.in-Choose.is c.requires.form).1),
)

pub form_is_safe-returns-then-has_safe_form-5 : goal.form_is_safe-returns-then-has_safe_form-5
form_is_safe-returns-then-has_safe_form-5 g t c =
    let test = g.N.Names.test c.args.names.now in
    let types = c.args.types.now in
    let a = c.in-Choose.a in
    let b = c.in-Choose.b in
    let third = c.in-Choose.c in
    let first : built test types a ≡ true = ap (built test types) (sym c.get-in-Choose.ensures) ∙ (sym c.has_safe_form-in-Choose.ensures ∙ c.if-not-has_safe_form.false) in
    let second : built test types b ≡ true = ap (built test types) (sym c.get-second.ensures) ∙ (sym c.has_safe_form-in-Choose-2.ensures ∙ c.if-has_safe_form-5.true) in
    c.has_safe_form-then-has_safe_form-5.ensures
    ∙ (ap (built test types) c.get-third.ensures
    ∙ sym (three-built (safe_rule test) types (type_of types c.args.kind) c.args.form.now (form.Choose a b third) c.in-Choose.is label.choose a b third (opened-Choose types a b third) refl first
    ∙ ap (λ p. p && built test types third) second))

pub form_is_safe-returns-else-has_safe_form-5 : goal.form_is_safe-returns-else-has_safe_form-5
form_is_safe-returns-else-has_safe_form-5 g t c =
    let test = g.N.Names.test c.args.names.now in
    let types = c.args.types.now in
    let a = c.in-Choose.a in
    let b = c.in-Choose.b in
    let third = c.in-Choose.c in
    let first : built test types a ≡ true = ap (built test types) (sym c.get-in-Choose.ensures) ∙ (sym c.has_safe_form-in-Choose.ensures ∙ c.if-not-has_safe_form.false) in
    let second : built test types b ≡ false = ap (built test types) (sym c.get-second.ensures) ∙ (sym c.has_safe_form-in-Choose-2.ensures ∙ c.if-has_safe_form-5.false) in
    c.if-has_safe_form-5.false
    ∙ sym (three-built (safe_rule test) types (type_of types c.args.kind) c.args.form.now (form.Choose a b third) c.in-Choose.is label.choose a b third (opened-Choose types a b third) refl first
    ∙ ap (λ p. p && built test types third) second)
