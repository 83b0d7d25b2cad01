-- What is seen of the rest behind what is seen so far is what is seen of the whole.
use Rattle.std.proofs.Common.{◌≡◌, drop, map}
use Rattle.dm_syn.specs.Views as view
use Rattle.dm_names.specs.Seen as seen
use Rattle.dm_names.specs.Walks.{source_in}
use Rattle.dm_names.proofs.walk.Walk.+expressions.Given as goal

abbrev pub invariant-exprs-loop-expr : goal.invariant-exprs-loop-expr
invariant-exprs-loop-expr l = seen.exprs (source_in l.self) l.so_far (view.exprs (map view.expr (drop l.expr-index l.exprs))) ≡ seen.exprs (source_in l.self) l.fn.so_far (view.exprs (map view.expr l.exprs))

abbrev pub invariant-words-loop-word : goal.invariant-words-loop-word
invariant-words-loop-word l = seen.words (source_in l.self) l.alone l.so_far (view.words (map view.specifier (drop l.word-index l.words))) ≡ seen.words (source_in l.self) l.alone l.fn.so_far (view.words (map view.specifier l.words))

abbrev pub invariant-members-loop-member : goal.invariant-members-loop-member
invariant-members-loop-member l = seen.members (source_in l.self) l.so_far (view.members (map view.member_form (drop l.member-index l.members))) ≡ seen.members (source_in l.self) l.fn.so_far (view.members (map view.member_form l.members))

abbrev pub invariant-declarators-loop-declarator : goal.invariant-declarators-loop-declarator
invariant-declarators-loop-declarator l = seen.declarators (source_in l.self) l.so_far (view.declarators (map view.declarator (drop l.declarator-index l.declarators))) ≡ seen.declarators (source_in l.self) l.fn.so_far (view.declarators (map view.declarator l.declarators))

abbrev pub invariant-enumerators-loop-enumerator : goal.invariant-enumerators-loop-enumerator
invariant-enumerators-loop-enumerator l = seen.enumerators (source_in l.self) l.so_far (view.enumerators (map view.enum_item (drop l.enumerator-index l.enumerators))) ≡ seen.enumerators (source_in l.self) l.fn.so_far (view.enumerators (map view.enum_item l.enumerators))

abbrev pub invariant-parameters-loop-parameter : goal.invariant-parameters-loop-parameter
invariant-parameters-loop-parameter l = seen.parameters (source_in l.self) l.so_far (view.parameters (map view.parameter (drop l.parameter-index l.parameters))) ≡ seen.parameters (source_in l.self) l.fn.so_far (view.parameters (map view.parameter l.parameters))
