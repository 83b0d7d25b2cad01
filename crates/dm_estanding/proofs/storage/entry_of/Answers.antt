-- The entry has what is said of it.
use Rattle.std.specs.Prelude.{option_map}
use Rattle.std.specs.Option.{option_copied}
use Rattle.std.proofs.Common.{sym, ap, ◌∙◌}
use Rattle.dm_tree.specs.Scenes.{is_function}
use Rattle.dm_tree.specs.Views.{view_of_declared}
use Rattle.dm_typing.specs.Known.{meaning_of}
use Rattle.dm_typing.specs.Typing.{is_file_scope}
use Rattle.dm_typing.specs.Views.{type_over, known_over, table_over}
use Rattle.dm_typing.proofs.LaterLemmas.{type-later}
use Rattle.dm_edecl.specs.Linkages.{linkage_of, sort_of}
use Rattle.dm_estanding.specs.Summaries.{storage_seen}
use Rattle.dm_estanding.proofs.SeenLemmas.{same-entry}
use Rattle.dm_estanding.proofs.storage.entry_of.Goals as goal

pub returns-clause-entry : goal.returns-clause-entry
returns-clause-entry c = λ later begins.
    let held = c.args.known.now in
    let known = known_over later held in
    let storage = storage_seen c.args.storage in
    let type = type_over later c.args.kind in
    let name = c.in_ok-name.ensures in
    let functional = c.is_function-is_function.ensures ∙ ap is_function (sym (type-later held.types.shapes later c.args.kind begins c.requires)) in
    let found = option_map (view_of_declared (table_over later held.types)) (option_copied c.meaning_of.result) in
    let linkage =
    c.linkage_of-linkage.ensures (table_over later held.types)
    ∙ ap (λ test. linkage_of storage test c.is_file_scope.result found) functional
    ∙ ap (λ test. linkage_of storage (is_function type) test found) c.is_file_scope.ensures
    ∙ ap (linkage_of storage (is_function type) (is_file_scope held.scopes)) (c.meaning_of.ensures.meaning later ∙ ap (meaning_of known) name) in
    let sort =
    c.sort_of.ensures ∙ ap (λ test. sort_of storage test c.linkage_of-linkage.result) functional ∙ ap (sort_of storage (is_function type)) linkage in
    same-entry type _ _ _ _ _ _ _ _ name sort linkage c.place.ensures
