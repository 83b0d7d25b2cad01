-- By the object that is named, if one is.
use Rattle.std.proofs.Common.{◌≡◌, ℕ, Bool, [], ◌∷◌, inl, inr, ap, sym, ◌∙◌, rules}
use Rattle.dm_type.specs.CTypes.{CType}
use Rattle.dm_type.specs.Tables.{Table}
use Rattle.dm_tree.specs.declared.tree.Core as q
use Rattle.dm_tree.specs.declared.tree.Core.{Core}
use Rattle.dm_tree.specs.declared.tree.Form.{Form}
use Rattle.dm_tree.specs.declared.tree.Form.TheVariants as form
use Rattle.dm_tree.specs.Trees as label
use Rattle.dm_tree.specs.Trees.{no_trees, more_trees, trees}
use Rattle.dm_tree.specs.Views.{Opened, opened, opened_form, view}
use Rattle.dm_effect.specs.Entities.{is_named, object_first}
use Rattle.dm_effect.specs.Forms.{Ruling, settled}
use Rattle.dm_effect.specs.Stable.{steady_rule}
use Rattle.dm_stable.proofs.steady.settled.Goals as goal

opened-Read : (types : Table) (a : Core) → opened_form types (form.Read a) ≡ opened label.read (view types a ∷ [])
opened-Read types a = search (rules, q.the_lemmas)

opened-Address : (types : Table) (a : Core) → opened_form types (form.Address a) ≡ opened label.address (view types a ∷ [])
opened-Address types a = search (rules, q.the_lemmas)

opened-Decay : (types : Table) (a : Core) → opened_form types (form.Decay a) ≡ opened label.decay (view types a ∷ [])
opened-Decay types a = search (rules, q.the_lemmas)

abbrev ruled_as : (ℕ → Bool) → CType → Opened → Ruling
ruled_as test kind seen = steady_rule test seen.label kind (trees seen.parts)

pub returns-in-Read-clause-rule : goal.returns-in-Read-clause-rule
returns-in-Read-clause-rule g c types kind =
    let test = g.N.Names.test c.args.names.now in
    ap (ruled_as test kind) (ap (opened_form types) c.in-Read.is ∙ opened-Read types c.in-Read.a)
    ∙ ap settled (ap (λ (core : Core). is_named test (object_first (more_trees (view types core) no_trees))) (sym c.get.ensures) ∙ sym (c.passes.ensures types no_trees))

named : (test : ℕ → Bool) (types : Table) (kind : CType) (f other : Form) (seen : Opened) → f ≡ other → opened_form types other ≡ seen → ruled_as test kind (opened_form types f) ≡ ruled_as test kind seen
named test types kind f other seen is opens = ap (ruled_as test kind) (ap (opened_form types) is ∙ opens)

pub returns-in-Address-clause-rule : goal.returns-in-Address-clause-rule
returns-in-Address-clause-rule g c types kind =
    let test = g.N.Names.test c.args.names.now in
    let a = c.in-Address.a in
    let rest = ap (λ (core : Core). ruled_as test kind (opened label.address (view types core ∷ []))) (sym c.get-in-Address.ensures) ∙ c.settled_if_named.ensures types no_trees in
    elim c.in-Address.is [
      | inl w ↦ named test types kind c.args.form.now (form.Address a) (opened label.address (view types a ∷ [])) w (opened-Address types a) ∙ rest
      | inr w ↦ named test types kind c.args.form.now (form.Decay a) (opened label.decay (view types a ∷ [])) w (opened-Decay types a) ∙ rest
    ]
