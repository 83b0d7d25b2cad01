-- What tells whether objects are set where they are named doesn't depend on where the nodes of a tree stand.
use Rattle.std.specs.Prelude.{◌≡◌, refl, ℕ, Bool, true, List, [], ◌∷◌, ◌++◌, Option, Some, None, slice_get}
use Rattle.std.proofs.Common.{ap, sym, ◌∙◌, subst}
use Rattle.dm_tree.specs.Trees.{Label, convert, sizeof_kind, block, declare, switch, for_loop, Tree, Trees, node, no_trees, more_trees}
use Rattle.dm_meaning.specs.Among.{IsAmong}
use Rattle.dm_meaning.specs.Programs.{Definition, Program}
use Rattle.dm_meaning.specs.Statements.{is_automatic_declaration}
use Rattle.dm_effect.specs.Scoped.{Scope, declared_by, declared_here, scopes_in_order, same_scopes, scopes_of}
use Rattle.dm_initialised.specs.Settled.{NameIsSettled, declared_in_parts, AreNew, AreOthers, DeclaresSettled, IsSettled, AreSettled, IsSettledProgram}
use Rattle.dm_spans.specs.MovedPrograms.{IsMovedDefinition, IsMovedProgram}
use Rattle.dm_spans.specs.SameTrees.{IsSame, AreSame}
use Rattle.dm_spans.proofs.StatementLemmas.{moved_same}

same_declared : (tree other : Tree) → IsSame tree other → declared_by other ≡ declared_by tree
same_declared (node label kind spans parts) (node other other_kind other_spans others) h = ap declared_here h.0

same_in_parts : (trees others : Trees) → AreSame trees others → declared_in_parts others ≡ declared_in_parts trees
same_in_parts no_trees no_trees h = refl
same_in_parts no_trees (more_trees other others) h = absurd h
same_in_parts (more_trees first rest) no_trees h = absurd h
same_in_parts (more_trees first rest) (more_trees other others) h = ap (λ s. s ++ declared_in_parts others) (same_declared first other h.0) ∙ ap (λ s. declared_by first ++ s) (same_in_parts rest others h.1)

same_in_order : (scope : Scope) (trees others : Trees) → AreSame trees others → scopes_in_order scope others ≡ scopes_in_order scope trees
same_in_order scope no_trees no_trees h = refl
same_in_order scope no_trees (more_trees other others) h = absurd h
same_in_order scope (more_trees first rest) no_trees h = absurd h
same_in_order scope (more_trees first rest) (more_trees other others) h =
    ap (λ s. Some scope ∷ scopes_in_order (s ++ scope) others) (same_declared first other h.0) ∙ ap (λ s. Some scope ∷ s) (same_in_order (declared_by first ++ scope) rest others h.1)

same_for_each : (scope : Scope) (trees others : Trees) → AreSame trees others → same_scopes scope others ≡ same_scopes scope trees
same_for_each scope no_trees no_trees h = refl
same_for_each scope no_trees (more_trees other others) h = absurd h
same_for_each scope (more_trees first rest) no_trees h = absurd h
same_for_each scope (more_trees first rest) (more_trees other others) h = ap (λ s. Some scope ∷ s) (same_for_each scope rest others h.1)

same_scopes_of : (scope : Scope) (label : Label) (trees others : Trees) → AreSame trees others → scopes_of scope label others ≡ scopes_of scope label trees
same_scopes_of scope convert trees others h = refl
same_scopes_of scope (sizeof_kind type) trees others h = refl
same_scopes_of scope (declare lengths declarators) trees others h = refl
same_scopes_of scope block trees others h = same_in_order scope trees others h
same_scopes_of scope (for_loop first second third) trees others h = same_in_order scope trees others h
same_scopes_of scope label trees others h = same_for_each scope trees others h

module _ (needs : ℕ → Bool) where
  declares_too : (scope : Scope) (label : Label) (trees others : Trees) → AreSame trees others → DeclaresSettled needs scope label trees → DeclaresSettled needs scope label others
  declares_too scope (declare lengths declarators) trees others h d = d
  declares_too scope block trees others h d = subst (AreNew needs scope) (sym (same_in_parts trees others h)) d
  declares_too scope (for_loop first second third) trees others h d = subst (AreNew needs scope) (sym (same_in_parts trees others h)) d
  declares_too scope switch trees others h d = subst (AreOthers needs) (sym (same_in_parts trees others h)) d
  declares_too scope label trees others h d = tt

  mutual
    settled_too : (scope : Scope) (tree other : Tree) → IsSame tree other → IsSettled needs scope tree → IsSettled needs scope other
    settled_too scope (node label kind spans parts) (node other other_kind other_spans others) h s =
        subst (λ l. NameIsSettled needs scope l × DeclaresSettled needs scope l others × AreSettled needs (scopes_of scope l others) others) (sym h.0) (
          s.0,
          declares_too scope label parts others h.2 s.1,
          subst (λ scopes. AreSettled needs scopes others) (sym (same_scopes_of scope label parts others h.2)) (all_settled_too (scopes_of scope label parts) parts others h.2 s.2),
        )

    all_settled_too : (scopes : List (Option Scope)) (trees others : Trees) → AreSame trees others → AreSettled needs scopes trees → AreSettled needs scopes others
    all_settled_too scopes no_trees no_trees h s = tt
    all_settled_too scopes no_trees (more_trees other others) h s = absurd h
    all_settled_too scopes (more_trees first rest) no_trees h s = absurd h
    all_settled_too [] (more_trees first rest) (more_trees other others) h s = tt
    all_settled_too (None ∷ scopes) (more_trees first rest) (more_trees other others) h s = all_settled_too scopes rest others h.1 s
    all_settled_too (Some scope ∷ scopes) (more_trees first rest) (more_trees other others) h s = (settled_too scope first other h.0 s.0, all_settled_too scopes rest others h.1 s.1)

pub program_settled : (needs : ℕ → Bool) (program other : Program) → IsMovedProgram program other → IsSettledProgram needs program → IsSettledProgram needs other
program_settled needs program other moved s = record {
  automatic = λ d n. subst (λ o. is_automatic_declaration o ≡ true) (sym (ap (λ ds. slice_get ds d) moved.declared)) (s.automatic d n);
  functions = λ new among. function_settled new among (moved.functions new among);
}
  where
    function_settled : (new : Definition) → IsAmong new other.functions → (old : Definition) × IsAmong old program.functions × IsMovedDefinition old new → IsSettled needs new.parameters new.body
    function_settled new among one =
        subst (λ parameters. IsSettled needs parameters new.body) (sym one.2.parameters)
        (settled_too needs one.0.parameters one.0.body new.body (moved_same one.0.body new.body one.2.body) (s.functions one.0 one.1))
