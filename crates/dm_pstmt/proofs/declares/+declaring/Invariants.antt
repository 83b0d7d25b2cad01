-- What the rest declare before what is declared so far is what all declare.
use Rattle.std.proofs.Common.{◌≡◌, ◌++◌, drop, map}
use Rattle.dm_syn.specs.Scopes.{exprs_declares, words_declares, members_declares, declarators_declares, enumerators_declares}
use Rattle.dm_syn.specs.Views as view
use Rattle.dm_pexpr.specs.Parts.{source_of}
use Rattle.dm_pstmt.proofs.declares.+declaring.Given as goal

abbrev pub invariant-in_exprs-loop-expr : goal.invariant-in_exprs-loop-expr
invariant-in_exprs-loop-expr l =
    exprs_declares (source_of l.reader) (view.exprs (map view.expr (drop l.expr-index l.exprs))) ++ l.scope ≡ exprs_declares (source_of l.reader) (view.exprs (map view.expr l.exprs)) ++ l.initial.scope

abbrev pub invariant-in_specifiers-loop-word : goal.invariant-in_specifiers-loop-word
invariant-in_specifiers-loop-word l =
    words_declares (source_of l.reader) (view.words (map view.specifier (drop l.word-index l.words))) ++ l.scope ≡ words_declares (source_of l.reader) (view.words (map view.specifier l.words)) ++ l.initial.scope

abbrev pub invariant-in_members-loop-member : goal.invariant-in_members-loop-member
invariant-in_members-loop-member l =
    members_declares (source_of l.reader) (view.members (map view.member_form (drop l.member-index l.members))) ++ l.scope ≡ members_declares (source_of l.reader) (view.members (map view.member_form l.members)) ++ l.initial.scope

abbrev pub invariant-in_declarators-loop-declarator : goal.invariant-in_declarators-loop-declarator
invariant-in_declarators-loop-declarator l =
    declarators_declares (source_of l.reader) (view.declarators (map view.declarator (drop l.declarator-index l.declarators))) ++ l.scope ≡ declarators_declares (source_of l.reader) (view.declarators (map view.declarator l.declarators)) ++ l.initial.scope

abbrev pub invariant-in_enumerators-loop-enumerator : goal.invariant-in_enumerators-loop-enumerator
invariant-in_enumerators-loop-enumerator l =
    enumerators_declares (source_of l.reader) (view.enumerators (map view.enum_item (drop l.enumerator-index l.enumerators))) ++ l.scope ≡ enumerators_declares (source_of l.reader) (view.enumerators (map view.enum_item l.enumerators)) ++ l.initial.scope
