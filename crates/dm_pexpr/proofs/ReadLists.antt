-- The kinds of lists that are read.
use Rattle.std.proofs.Common.{◌≡◌, ℕ, List, refl, lit≤}
use Rattle.dm_syn.specs.Sources.{Source}
use Rattle.dm_syn.specs.Trees as tree
use Rattle.dm_syn.specs.Heights.{exprs_height, highest_word, members_height, declarators_height, enumerators_height, parameters_height}
use Rattle.dm_syn.specs.Scopes.{exprs_declares, words_declares, members_declares, declarators_declares, enumerators_declares}
use Rattle.dm_pexpr.specs.Parsing.{prepend_expr, prepend_word, prepend_member, prepend_declarator, prepend_enumerator, prepend_parameter}
use Rattle.dm_pexpr.specs.Parts.{an_expr, a_specifier, a_member, a_declarator, an_enumerator, a_parameter, exprs_from, words_from, members_from, declarators_from, enumerators_from, parameters_from}
use Rattle.dm_pexpr.proofs.ListLemmas.{Lists}

pub expr-lists : (source : Source) → Lists (λ _. an_expr source) (exprs_from source) prepend_expr tree.no_exprs tree.more_exprs
unfolding exprs_height exprs_declares
expr-lists source = record {
  sees_none = λ at. refl;
  sees_more = λ at to by x xs. refl;
  high_none = λ at. refl;
  high_more = λ at to by x xs. refl;
  after_none = λ at. refl;
  after_more = λ at x xs. refl;
  declares_none = λ at. refl;
  declares_more = λ at to by x xs. refl;
  begins = λ at xs. refl;
  far = λ at to. lit≤ tt;
  prepends_none = λ x. refl;
  prepends = λ x xs. refl;
}

pub word-lists : (source : Source) → Lists (a_specifier source) (words_from source) prepend_word tree.no_words tree.more_words
unfolding highest_word words_declares
word-lists source = record {
  sees_none = λ at. refl;
  sees_more = λ at to by x xs. refl;
  high_none = λ at. refl;
  high_more = λ at to by x xs. refl;
  after_none = λ at. refl;
  after_more = λ at x xs. refl;
  declares_none = λ at. refl;
  declares_more = λ at to by x xs. refl;
  begins = λ at xs. refl;
  far = λ at to. lit≤ tt;
  prepends_none = λ x. refl;
  prepends = λ x xs. refl;
}

pub member-lists : (source : Source) → Lists (λ _. a_member source) (members_from source) prepend_member tree.no_members tree.more_members
unfolding members_height members_declares
member-lists source = record {
  sees_none = λ at. refl;
  sees_more = λ at to by x xs. refl;
  high_none = λ at. refl;
  high_more = λ at to by x xs. refl;
  after_none = λ at. refl;
  after_more = λ at x xs. refl;
  declares_none = λ at. refl;
  declares_more = λ at to by x xs. refl;
  begins = λ at xs. refl;
  far = λ at to. lit≤ tt;
  prepends_none = λ x. refl;
  prepends = λ x xs. refl;
}

pub declarator-lists : (source : Source) → Lists (λ _. a_declarator source) (declarators_from source) prepend_declarator tree.no_declarators tree.more_declarators
unfolding declarators_height declarators_declares
declarator-lists source = record {
  sees_none = λ at. refl;
  sees_more = λ at to by x xs. refl;
  high_none = λ at. refl;
  high_more = λ at to by x xs. refl;
  after_none = λ at. refl;
  after_more = λ at x xs. refl;
  declares_none = λ at. refl;
  declares_more = λ at to by x xs. refl;
  begins = λ at xs. refl;
  far = λ at to. lit≤ tt;
  prepends_none = λ x. refl;
  prepends = λ x xs. refl;
}

pub enumerator-lists : (source : Source) → Lists (λ _. an_enumerator source) (enumerators_from source) prepend_enumerator tree.no_enumerators tree.more_enumerators
unfolding enumerators_height enumerators_declares
enumerator-lists source = record {
  sees_none = λ at. refl;
  sees_more = λ at to by x xs. refl;
  high_none = λ at. refl;
  high_more = λ at to by x xs. refl;
  after_none = λ at. refl;
  after_more = λ at x xs. refl;
  declares_none = λ at. refl;
  declares_more = λ at to by x xs. refl;
  begins = λ at xs. refl;
  far = λ at to. lit≤ tt;
  prepends_none = λ x. refl;
  prepends = λ x xs. refl;
}

pub parameter-lists : (source : Source) → Lists (λ _. a_parameter source) (parameters_from source) prepend_parameter tree.no_parameters tree.more_parameters
unfolding parameters_height
parameter-lists source = record {
  sees_none = λ at. refl;
  sees_more = λ at to by x xs. refl;
  high_none = λ at. refl;
  high_more = λ at to by x xs. refl;
  after_none = λ at. refl;
  after_more = λ at x xs. refl;
  declares_none = λ at. refl;
  declares_more = λ at to by x xs. refl;
  begins = λ at xs. refl;
  far = λ at to. lit≤ tt;
  prepends_none = λ x. refl;
  prepends = λ x xs. refl;
}
