-- What reading type names and specifiers comes to, step by step.
use Rattle.std.proofs.Common.{◌≡◌, ◌<◌, ℕ, zero, suc, ◌+◌, ◌-◌, Bool, true, false, ◌&&◌, ◌⊎◌, ⊎_elim, not, List, [], ◌++◌, length, Option, Some, None, refl, sym, ap, ◌∙◌, subst, arith, rules, lit≤, append_assoc, if◌then◌else◌}
use Rattle.dm_syn.specs.declared.declared.Declared.{Declared}
use Rattle.dm_syn.specs.declared.symbol.Symbol.{Symbol}
use Rattle.dm_syn.specs.declared.symbol.Symbol.TheVariants as symbol
use Rattle.dm_syn.specs.declared.declaration.Specifiers.{Specifiers}
use Rattle.dm_syn.specs.declared.declaration.Specifier.{Specifier}
use Rattle.dm_syn.specs.declared.declaration.Specifier.TheVariants as specifier
use Rattle.dm_syn.specs.declared.expression.Expr as q
use Rattle.dm_syn.specs.declared.declaration.MemberForm.{MemberForm}
use Rattle.dm_syn.specs.declared.declaration.Declarator.{Declarator}
use Rattle.dm_syn.specs.declared.declaration.EnumItem.{EnumItem}
use Rattle.dm_syn.specs.Symbols.{is, is_identifier, begins_specifiers}
use Rattle.dm_syn.specs.Sources.{Source, symbol_in}
use Rattle.dm_syn.specs.Trees as tree
use Rattle.dm_syn.specs.Views as view
use Rattle.dm_syn.specs.Spans.{expr_span, specifiers_span, specifier_after, member_span, declarator_span, enumerator_span, members_after, declarators_after, enumerators_after}
use Rattle.dm_syn.specs.Heights.{specifier_height}
use Rattle.dm_syn.specs.Scopes.{specifiers_declares, specifier_declares, member_declares, members_declares, declarator_declares, enumerator_declares}
use Rattle.dm_syn.specs.Grammar.{Types, no_type, types_behind, tag_after}
use Rattle.dm_pexpr.specs.declared.part.Part.{Part}
use Rattle.dm_pexpr.specs.Parsing.{Parts, named, abstract, all_turns, lower, no_parts, type_name_of, type_name_from, type_name_with, specifiers_of, specifiers_from, words_of, words_from, prepend_word, word_kind, is_one_more, no_word, specifier_of, struct_word, enum_word, struct_of, struct_behind, struct_from, struct_tagged, tag_at, members_of, members_from, prepend_member, member_of, member_from, member_behind, member_with, more_declarators, more_declarators_from, prepend_declarator, enum_of, enum_behind, enum_from, enum_with, enum_tagged, enumerator_of, valued_from, more_enumerators, more_enumerators_from, prepend_enumerator, span_of}
use Rattle.dm_pexpr.specs.Parts.{IsPart, the_specifiers, a_specifier, a_member, a_declarator, an_enumerator, AreClosed}
use Rattle.dm_pexpr.proofs.Expressions.{if-true, if-false}
use Rattle.dm_pexpr.proofs.ReadExprs.{one-deeper, no-depth, less, not-the-end}

-- a type name
pub name-behind : (source : Source) (parts : Parts) (names now : List Declared) (at : ℕ) (specifiers : Part Specifiers)
    → IsPart (the_specifiers source) source names now specifiers (parts.specifiers names at)
    → type_name_with at (view.specifiers specifiers.tree) (parts.declarator abstract now specifiers.after) ≡ type_name_of source parts names at
unfolding type_name_of
name-behind source parts names now at specifiers k =
    let v : tree.Specifiers = view.specifiers specifiers.tree in
    ap (λ ns. type_name_with at v (parts.declarator abstract ns specifiers.after)) k.scoped
    ∙ ap (λ n. type_name_with at v (parts.declarator abstract (specifiers_declares source v ++ names) n)) k.ends
    ∙ sym (ap (type_name_from source parts names at) k.read)

pub no-name : (source : Source) (parts : Parts) (names : List Declared) (at : ℕ) → parts.specifiers names at ≡ None → type_name_of source parts names at ≡ None
unfolding type_name_of
no-name source parts names at nothing = ap (type_name_from source parts names at) nothing

-- specifiers
pub specifiers-deeper : (source : Source) (depth : ℕ) (names : List Declared) (at : ℕ) → (depth ≡ 0 → ⊥)
    → specifiers_from at (words_of source (lower source (depth - 1)) (all_turns source) names at no_type) ≡ (lower source depth).specifiers names at
unfolding specifiers_of
specifiers-deeper source depth names at some = sym (ap (λ (parts : Parts). parts.specifiers names at) (one-deeper source depth some))

no-specifier : (it : Symbol) → begins_specifiers it ≡ false → is_one_more no_type (word_kind it) ≡ false
no-specifier symbol.TypedefName h = absurd (cc)
no-specifier symbol.Const h = absurd (cc)
no-specifier symbol.Typedef h = absurd (cc)
no-specifier symbol.Storage h = absurd (cc)
no-specifier symbol.TypeWord h = absurd (cc)
no-specifier symbol.Struct h = absurd (cc)
no-specifier symbol.Enum h = absurd (cc)
no-specifier _ h = refl

pub words-end : (source : Source) (parts : Parts) (turns : ℕ) (names : List Declared) (at : ℕ) (types : Types) → is_one_more types (word_kind (symbol_in source names at)) ≡ false
    → words_of source parts turns names at types ≡ Some tree.no_words
unfolding words_of
words-end source parts zero names at types stands = if-false _ _ _ stands
words-end source parts (suc turns) names at types stands = if-false _ _ _ stands

pub no-specifiers : (source : Source) (depth : ℕ) (names : List Declared) (at : ℕ) → begins_specifiers (symbol_in source names at) ≡ false → (lower source depth).specifiers names at ≡ None
unfolding lower specifiers_of
no-specifiers source zero names at stands = refl
no-specifiers source (suc depth) names at stands =
    ap (specifiers_from at) (words-end source (lower source depth) (all_turns source) names at no_type (no-specifier (symbol_in source names at) stands))

-- one specifier behind another
pub words-away : (source : Source) (parts : Parts) (turns : ℕ) (names : List Declared) (at : ℕ) (types : Types) → is_one_more types (word_kind (symbol_in source names at)) ≡ true → turns ≡ 0
    → words_of source parts turns names at types ≡ None
unfolding words_of
words-away source parts turns names at types stands none = ap (λ n. words_of source parts n names at types) none ∙ if-true _ _ _ stands

words-on : (source : Source) (parts : Parts) (turns : ℕ) (names : List Declared) (at : ℕ) (types : Types) → (turns ≡ 0 → ⊥) → is_one_more types (word_kind (symbol_in source names at)) ≡ true
    → words_of source parts turns names at types ≡ words_from (λ first. words_of source parts (turns - 1) (specifier_declares source first ++ names) (specifier_after at first) (types_behind source at first types))
    (specifier_of source parts names at (word_kind (symbol_in source names at)))
unfolding words_of
words-on source parts turns names at types some stands = ap (λ n. words_of source parts n names at types) (less turns some) ∙ if-true _ _ _ stands

pub words-next : (source : Source) (parts : Parts) (turns : ℕ) (names now : List Declared) (at : ℕ) (types later : Types) (first : Part Specifier) → (turns ≡ 0 → ⊥)
    → is_one_more types (word_kind (symbol_in source names at)) ≡ true
    → IsPart (a_specifier source at) source names now first (specifier_of source parts names at (word_kind (symbol_in source names at))) → later ≡ types_behind source at (view.specifier first.tree) types
    → words_of source parts turns names at types ≡ prepend_word (view.specifier first.tree) (words_of source parts (turns - 1) now first.after later)
words-next source parts turns names now at types later first some stands k behind =
    let v : tree.Specifier = view.specifier first.tree in
    words-on source parts turns names at types some stands
    ∙ ap (words_from (λ first. words_of source parts (turns - 1) (specifier_declares source first ++ names) (specifier_after at first) (types_behind source at first types))) k.read
    ∙ ap (λ ns. prepend_word v (words_of source parts (turns - 1) ns (specifier_after at v) (types_behind source at v types))) (sym k.scoped)
    ∙ ap (λ n. prepend_word v (words_of source parts (turns - 1) now n (types_behind source at v types))) (sym k.ends)
    ∙ ap (λ t. prepend_word v (words_of source parts (turns - 1) now first.after t)) (sym behind)

pub words-stop : (source : Source) (parts : Parts) (turns : ℕ) (names : List Declared) (at : ℕ) (types : Types) → (turns ≡ 0 → ⊥) → is_one_more types (word_kind (symbol_in source names at)) ≡ true
    → specifier_of source parts names at (word_kind (symbol_in source names at)) ≡ None → words_of source parts turns names at types ≡ None
words-stop source parts turns names at types some stands nothing =
    words-on source parts turns names at types some stands
    ∙ ap (words_from (λ first. words_of source parts (turns - 1) (specifier_declares source first ++ names) (specifier_after at first) (types_behind source at first types))) nothing

-- `struct`
pub struct-inside : (source : Source) (parts : Parts) (names : List Declared) (at behind inside : ℕ) (tag : Option ℕ) → tag ≡ tag_at source names (at + 1) → behind ≡ tag_after (at + 1) tag
    → is (symbol_in source names behind) symbol.LeftBrace ≡ true → inside ≡ behind + 1
    → struct_from at tag inside (members_of source parts (all_turns source) names inside) ≡ struct_of source parts names at
unfolding struct_of
struct-inside source parts names at behind inside tag tagged after stands next =
    let far : inside ≡ tag_after (at + 1) tag + 1 = next ∙ ap (λ n. n + 1) after in
    ap (λ n. struct_from at tag n (members_of source parts (all_turns source) names n)) far
    ∙ sym (ap (struct_behind source parts names at) (sym tagged) ∙ if-true _ _ _ (ap (λ n. is (symbol_in source names n) symbol.LeftBrace) (sym after) ∙ stands))

pub struct-alone : (source : Source) (parts : Parts) (names : List Declared) (at behind : ℕ) (tag : Option ℕ) → tag ≡ tag_at source names (at + 1) → behind ≡ tag_after (at + 1) tag
    → is (symbol_in source names behind) symbol.LeftBrace ≡ false → struct_tagged at tag ≡ struct_of source parts names at
unfolding struct_of
struct-alone source parts names at behind tag tagged after stands =
    sym (ap (struct_behind source parts names at) (sym tagged) ∙ if-false _ _ _ (ap (λ n. is (symbol_in source names n) symbol.LeftBrace) (sym after) ∙ stands))

-- members up to the closing brace
pub members-end : (source : Source) (parts : Parts) (turns : ℕ) (names : List Declared) (at : ℕ) → 0 < turns → is (symbol_in source names at) symbol.RightBrace ≡ true
    → members_of source parts turns names at ≡ Some tree.no_members
unfolding members_of
members-end source parts turns names at some stands = ap (λ n. members_of source parts n names at) (less turns (λ none. omega (arith, none, some))) ∙ if-true _ _ _ stands

pub members-away : (source : Source) (parts : Parts) (turns : ℕ) (names : List Declared) (at : ℕ) → turns ≡ 0 → members_of source parts turns names at ≡ None
unfolding members_of
members-away source parts turns names at none = ap (λ n. members_of source parts n names at) none

members-on : (source : Source) (parts : Parts) (turns : ℕ) (names : List Declared) (at : ℕ) → 0 < turns → is (symbol_in source names at) symbol.RightBrace ≡ false
    → members_of source parts turns names at ≡ members_from (λ first. members_of source parts (turns - 1) (member_declares source first ++ names) (member_span first).after) (member_of source parts names at)
unfolding members_of
members-on source parts turns names at some stands = ap (λ n. members_of source parts n names at) (less turns (λ none. omega (arith, none, some))) ∙ if-false _ _ _ stands

pub members-next : (source : Source) (parts : Parts) (turns : ℕ) (names now : List Declared) (at : ℕ) (first : Part MemberForm) → 0 < turns → is (symbol_in source names at) symbol.RightBrace ≡ false
    → IsPart (a_member source) source names now first (member_of source parts names at)
    → members_of source parts turns names at ≡ prepend_member (view.member_form first.tree) (members_of source parts (turns - 1) now first.after)
members-next source parts turns names now at first some stands k =
    let v : tree.Member = view.member_form first.tree in
    members-on source parts turns names at some stands
    ∙ ap (members_from (λ first. members_of source parts (turns - 1) (member_declares source first ++ names) (member_span first).after)) k.read
    ∙ ap (λ ns. prepend_member v (members_of source parts (turns - 1) ns (member_span v).after)) (sym k.scoped)
    ∙ ap (λ n. prepend_member v (members_of source parts (turns - 1) now n)) (sym k.ends)

pub members-stop : (source : Source) (parts : Parts) (turns : ℕ) (names : List Declared) (at : ℕ) → 0 < turns → is (symbol_in source names at) symbol.RightBrace ≡ false
    → member_of source parts names at ≡ None → members_of source parts turns names at ≡ None
members-stop source parts turns names at some stands nothing =
    members-on source parts turns names at some stands
    ∙ ap (members_from (λ first. members_of source parts (turns - 1) (member_declares source first ++ names) (member_span first).after)) nothing

-- declarations of members
pub no-member : (source : Source) (parts : Parts) (names : List Declared) (at : ℕ) → parts.specifiers names at ≡ None → member_of source parts names at ≡ None
unfolding member_of
no-member source parts names at nothing = ap (member_from source parts names at) nothing

member-declarator : (source : Source) (parts : Parts) (names between : List Declared) (at : ℕ) (specifiers : Part Specifiers)
    → IsPart (the_specifiers source) source names between specifiers (parts.specifiers names at)
    → member_of source parts names at ≡ member_behind source parts between at (view.specifiers specifiers.tree) (parts.declarator named between specifiers.after)
unfolding member_of
member-declarator source parts names between at specifiers k =
    let v : tree.Specifiers = view.specifiers specifiers.tree in
    ap (member_from source parts names at) k.read
    ∙ ap (λ ns. member_behind source parts ns at v (parts.declarator named ns (specifiers_span v).after)) (sym k.scoped)
    ∙ ap (λ n. member_behind source parts between at v (parts.declarator named between n)) (sym k.ends)

pub no-member-declarator : (source : Source) (parts : Parts) (names between : List Declared) (at : ℕ) (specifiers : Part Specifiers)
    → IsPart (the_specifiers source) source names between specifiers (parts.specifiers names at) → parts.declarator named between specifiers.after ≡ None
    → member_of source parts names at ≡ None
no-member-declarator source parts names between at specifiers k nothing =
    member-declarator source parts names between at specifiers k ∙ ap (member_behind source parts between at (view.specifiers specifiers.tree)) nothing

pub member-declarators : (source : Source) (parts : Parts) (names between now : List Declared) (at : ℕ) (specifiers : Part Specifiers) (first : Part Declarator)
    → IsPart (the_specifiers source) source names between specifiers (parts.specifiers names at)
    → IsPart (a_declarator source) source between now first (parts.declarator named between specifiers.after)
    → member_of source parts names at
    ≡ member_with source now at (view.specifiers specifiers.tree) (view.declarator first.tree) (more_declarators source parts (all_turns source) now first.after)
member-declarators source parts names between now at specifiers first k d =
    let s : tree.Specifiers = view.specifiers specifiers.tree in
    let v : tree.Declarator = view.declarator first.tree in
    member-declarator source parts names between at specifiers k ∙ ap (member_behind source parts between at s) d.read
    ∙ ap (λ ns. member_with source ns at s v (more_declarators source parts (all_turns source) ns (declarator_span v).after)) (sym d.scoped)
    ∙ ap (λ n. member_with source now at s v (more_declarators source parts (all_turns source) now n)) (sym d.ends)

-- more declarators, each behind a comma
pub more-declarators-end : (source : Source) (parts : Parts) (turns : ℕ) (names : List Declared) (at : ℕ) → is (symbol_in source names at) symbol.Comma ≡ false
    → more_declarators source parts turns names at ≡ Some tree.no_declarators
unfolding more_declarators
more-declarators-end source parts zero names at stands = refl
more-declarators-end source parts (suc turns) names at stands = if-false _ _ _ stands

pub more-declarators-out : (source : Source) (parts : Parts) (turns : ℕ) (names : List Declared) (at : ℕ) → turns ≡ 0 → more_declarators source parts turns names at ≡ Some tree.no_declarators
unfolding more_declarators
more-declarators-out source parts turns names at none = ap (λ n. more_declarators source parts n names at) none

more-declarators-on : (source : Source) (parts : Parts) (turns : ℕ) (names : List Declared) (at next : ℕ) → 0 < turns → is (symbol_in source names at) symbol.Comma ≡ true → next ≡ at + 1
    → more_declarators source parts turns names at ≡ more_declarators_from (λ first. more_declarators source parts (turns - 1) (declarator_declares source first ++ names) (declarator_span first).after) (parts.declarator named names next)
unfolding more_declarators
more-declarators-on source parts turns names at next some stands after =
    ap (λ n. more_declarators source parts n names at) (less turns (λ none. omega (arith, none, some))) ∙ if-true _ _ _ stands
    ∙ ap (λ n. more_declarators_from (λ first. more_declarators source parts (turns - 1) (declarator_declares source first ++ names) (declarator_span first).after) (parts.declarator named names n)) (sym after)

pub more-declarators-next : (source : Source) (parts : Parts) (turns : ℕ) (names now : List Declared) (at next : ℕ) (first : Part Declarator) → 0 < turns → is (symbol_in source names at) symbol.Comma ≡ true → next ≡ at + 1
    → IsPart (a_declarator source) source names now first (parts.declarator named names next)
    → more_declarators source parts turns names at ≡ prepend_declarator (view.declarator first.tree) (more_declarators source parts (turns - 1) now first.after)
more-declarators-next source parts turns names now at next first some stands after k =
    let v : tree.Declarator = view.declarator first.tree in
    more-declarators-on source parts turns names at next some stands after
    ∙ ap (more_declarators_from (λ first. more_declarators source parts (turns - 1) (declarator_declares source first ++ names) (declarator_span first).after)) k.read
    ∙ ap (λ ns. prepend_declarator v (more_declarators source parts (turns - 1) ns (declarator_span v).after)) (sym k.scoped)
    ∙ ap (λ n. prepend_declarator v (more_declarators source parts (turns - 1) now n)) (sym k.ends)

pub more-declarators-stop : (source : Source) (parts : Parts) (turns : ℕ) (names : List Declared) (at next : ℕ) → 0 < turns → is (symbol_in source names at) symbol.Comma ≡ true → next ≡ at + 1
    → parts.declarator named names next ≡ None → more_declarators source parts turns names at ≡ None
more-declarators-stop source parts turns names at next some stands after nothing =
    more-declarators-on source parts turns names at next some stands after
    ∙ ap (more_declarators_from (λ first. more_declarators source parts (turns - 1) (declarator_declares source first ++ names) (declarator_span first).after)) nothing

-- `enum`
pub enum-alone : (source : Source) (parts : Parts) (names : List Declared) (at behind : ℕ) (tag : Option ℕ) → tag ≡ tag_at source names (at + 1) → behind ≡ tag_after (at + 1) tag
    → is (symbol_in source names behind) symbol.LeftBrace ≡ false → enum_tagged at tag ≡ enum_of source parts names at
unfolding enum_of
enum-alone source parts names at behind tag tagged after stands =
    sym (ap (enum_behind source parts names at) (sym tagged) ∙ if-false _ _ _ (ap (λ n. is (symbol_in source names n) symbol.LeftBrace) (sym after) ∙ stands))

enum-inside : (source : Source) (parts : Parts) (names : List Declared) (at behind inside : ℕ) (tag : Option ℕ) → tag ≡ tag_at source names (at + 1) → behind ≡ tag_after (at + 1) tag
    → is (symbol_in source names behind) symbol.LeftBrace ≡ true → inside ≡ behind + 1
    → enum_of source parts names at ≡ enum_from source parts names at tag (enumerator_of source parts names inside)
unfolding enum_of
enum-inside source parts names at behind inside tag tagged after stands next =
    let far : inside ≡ tag_after (at + 1) tag + 1 = next ∙ ap (λ n. n + 1) after in
    ap (enum_behind source parts names at) (sym tagged) ∙ if-true _ _ _ (ap (λ n. is (symbol_in source names n) symbol.LeftBrace) (sym after) ∙ stands)
    ∙ ap (λ n. enum_from source parts names at tag (enumerator_of source parts names n)) (sym far)

pub no-enumerators : (source : Source) (parts : Parts) (names : List Declared) (at behind inside : ℕ) (tag : Option ℕ) → tag ≡ tag_at source names (at + 1) → behind ≡ tag_after (at + 1) tag
    → is (symbol_in source names behind) symbol.LeftBrace ≡ true → inside ≡ behind + 1 → enumerator_of source parts names inside ≡ None
    → enum_of source parts names at ≡ None
no-enumerators source parts names at behind inside tag tagged after stands next nothing =
    enum-inside source parts names at behind inside tag tagged after stands next ∙ ap (enum_from source parts names at tag) nothing

pub enumerators-behind : (source : Source) (parts : Parts) (names now : List Declared) (at behind inside : ℕ) (tag : Option ℕ) (first : Part EnumItem) → tag ≡ tag_at source names (at + 1) → behind ≡ tag_after (at + 1) tag
    → is (symbol_in source names behind) symbol.LeftBrace ≡ true → inside ≡ behind + 1 → IsPart (an_enumerator source) source names now first (enumerator_of source parts names inside)
    → enum_of source parts names at ≡ enum_with source now at tag (view.enum_item first.tree) (more_enumerators source parts (all_turns source) now first.after)
enumerators-behind source parts names now at behind inside tag first tagged after stands next k =
    let v : tree.Enumerator = view.enum_item first.tree in
    enum-inside source parts names at behind inside tag tagged after stands next ∙ ap (enum_from source parts names at tag) k.read
    ∙ ap (λ ns. enum_with source ns at tag v (more_enumerators source parts (all_turns source) ns (enumerator_span v).after)) (sym k.scoped)
    ∙ ap (λ n. enum_with source now at tag v (more_enumerators source parts (all_turns source) now n)) (sym k.ends)

-- an enumerator
pub no-enumerator : (source : Source) (parts : Parts) (names : List Declared) (at : ℕ) → is_identifier (symbol_in source names at) ≡ false → enumerator_of source parts names at ≡ None
unfolding enumerator_of
no-enumerator source parts names at stands = if-false _ _ _ stands

pub bare-enumerator : (source : Source) (parts : Parts) (names : List Declared) (at behind : ℕ) → is_identifier (symbol_in source names at) ≡ true → behind ≡ at + 1
    → is (symbol_in source names behind) symbol.Equals ≡ false → Some (tree.bare (span_of at (at + 1)) at) ≡ enumerator_of source parts names at
unfolding enumerator_of
bare-enumerator source parts names at behind stands after equals =
    sym (if-true _ _ _ stands ∙ if-false _ _ _ (ap (λ n. is (symbol_in source names n) symbol.Equals) (sym after) ∙ equals))

pub valued-enumerator : (source : Source) (parts : Parts) (names : List Declared) (at behind next : ℕ) → is_identifier (symbol_in source names at) ≡ true → behind ≡ at + 1
    → is (symbol_in source names behind) symbol.Equals ≡ true → next ≡ behind + 1 → valued_from at (parts.expr 2 names next) ≡ enumerator_of source parts names at
unfolding enumerator_of
valued-enumerator source parts names at behind next stands after equals far =
    let two : next ≡ at + 2 = omega (arith, after, far) in
    ap (λ n. valued_from at (parts.expr 2 names n)) two
    ∙ sym (if-true _ _ _ stands ∙ if-true _ _ _ (ap (λ n. is (symbol_in source names n) symbol.Equals) (sym after) ∙ equals))

-- more enumerators, each behind a comma that no closing brace follows
pub more-enumerators-end : (source : Source) (parts : Parts) (turns : ℕ) (names : List Declared) (at : ℕ) → (is (symbol_in source names at) symbol.Comma && not (is (symbol_in source names (at + 1)) symbol.RightBrace)) ≡ false
    → more_enumerators source parts turns names at ≡ Some tree.no_enumerators
unfolding more_enumerators
more-enumerators-end source parts zero names at stands = refl
more-enumerators-end source parts (suc turns) names at stands = if-false _ _ _ stands

pub more-enumerators-out : (source : Source) (parts : Parts) (turns : ℕ) (names : List Declared) (at : ℕ) → turns ≡ 0 → more_enumerators source parts turns names at ≡ Some tree.no_enumerators
unfolding more_enumerators
more-enumerators-out source parts turns names at none = ap (λ n. more_enumerators source parts n names at) none

more-enumerators-on : (source : Source) (parts : Parts) (turns : ℕ) (names : List Declared) (at next : ℕ) → 0 < turns → (is (symbol_in source names at) symbol.Comma && not (is (symbol_in source names (at + 1)) symbol.RightBrace)) ≡ true → next ≡ at + 1
    → more_enumerators source parts turns names at ≡ more_enumerators_from (λ first. more_enumerators source parts (turns - 1) (enumerator_declares source first ++ names) (enumerator_span first).after) (enumerator_of source parts names next)
unfolding more_enumerators
more-enumerators-on source parts turns names at next some stands after =
    ap (λ n. more_enumerators source parts n names at) (less turns (λ none. omega (arith, none, some))) ∙ if-true _ _ _ stands
    ∙ ap (λ n. more_enumerators_from (λ first. more_enumerators source parts (turns - 1) (enumerator_declares source first ++ names) (enumerator_span first).after) (enumerator_of source parts names n)) (sym after)

pub more-enumerators-next : (source : Source) (parts : Parts) (turns : ℕ) (names now : List Declared) (at next : ℕ) (first : Part EnumItem) → 0 < turns → (is (symbol_in source names at) symbol.Comma && not (is (symbol_in source names (at + 1)) symbol.RightBrace)) ≡ true → next ≡ at + 1
    → IsPart (an_enumerator source) source names now first (enumerator_of source parts names next)
    → more_enumerators source parts turns names at ≡ prepend_enumerator (view.enum_item first.tree) (more_enumerators source parts (turns - 1) now first.after)
more-enumerators-next source parts turns names now at next first some stands after k =
    let v : tree.Enumerator = view.enum_item first.tree in
    more-enumerators-on source parts turns names at next some stands after
    ∙ ap (more_enumerators_from (λ first. more_enumerators source parts (turns - 1) (enumerator_declares source first ++ names) (enumerator_span first).after)) k.read
    ∙ ap (λ ns. prepend_enumerator v (more_enumerators source parts (turns - 1) ns (enumerator_span v).after)) (sym k.scoped)
    ∙ ap (λ n. prepend_enumerator v (more_enumerators source parts (turns - 1) now n)) (sym k.ends)

pub more-enumerators-stop : (source : Source) (parts : Parts) (turns : ℕ) (names : List Declared) (at next : ℕ) → 0 < turns → (is (symbol_in source names at) symbol.Comma && not (is (symbol_in source names (at + 1)) symbol.RightBrace)) ≡ true → next ≡ at + 1
    → enumerator_of source parts names next ≡ None → more_enumerators source parts turns names at ≡ None
more-enumerators-stop source parts turns names at next some stands after nothing =
    more-enumerators-on source parts turns names at next some stands after
    ∙ ap (more_enumerators_from (λ first. more_enumerators source parts (turns - 1) (enumerator_declares source first ++ names) (enumerator_span first).after)) nothing

-- members are followed by the closing brace
closed-prepend : (source : Source) (names : List Declared) (at : ℕ) (first : tree.Member) (others : Option tree.Members)
    → AreClosed source (member_declares source first ++ names) (member_span first).after others → AreClosed source names at (prepend_member first others)
unfolding members_declares
closed-prepend source names at first None h = tt
closed-prepend source names at first (Some others) h =
    ap (λ ns. is (symbol_in source ns (members_after (member_span first).after others)) symbol.RightBrace) (append_assoc (members_declares source others) (member_declares source first) names) ∙ h

closed-from : (source : Source) (names : List Declared) (at : ℕ) (others : tree.Member → Option tree.Members) (found : Option tree.Member)
    → ((first : tree.Member) → AreClosed source (member_declares source first ++ names) (member_span first).after (others first)) → AreClosed source names at (members_from others found)
closed-from source names at others None h = tt
closed-from source names at others (Some first) h = closed-prepend source names at first (others first) (h first)

closed-where : (source : Source) (names : List Declared) (at : ℕ) (test : Bool) (others : Option tree.Members) → is (symbol_in source names at) symbol.RightBrace ≡ test
    → AreClosed source names at others → AreClosed source names at (if test then Some tree.no_members else others)
unfolding members_declares
closed-where source names at true others stands h = stands
closed-where source names at false others stands h = h

pub members-closed : (source : Source) (parts : Parts) (turns : ℕ) (names : List Declared) (at : ℕ) → AreClosed source names at (members_of source parts turns names at)
unfolding members_of
members-closed source parts zero names at = tt
members-closed source parts (suc turns) names at =
    closed-where source names at (is (symbol_in source names at) symbol.RightBrace) _ refl
    (closed-from source names at (λ first. members_of source parts turns (member_declares source first ++ names) (member_span first).after) (member_of source parts names at)
    (λ first. members-closed source parts turns (member_declares source first ++ names) (member_span first).after))

-- a specifier of one token
word-read : (source : Source) (names : List Declared) (at : ℕ) (word : Part Specifier) (own : Specifier) (it : tree.Specifier) (wanted : Option tree.Specifier)
    → word ≡ record { tree = own; height = 1; after = at + 1 } → at < length source.tokens → view.specifier own ≡ it → wanted ≡ Some it
    → specifier_height it ≡ 1 → specifier_after at it ≡ at + 1 → specifier_declares source it ≡ [] → IsPart (a_specifier source at) source names names word wanted
word-read source names at word own it wanted is there seen wants high ends declares =
    subst (λ (w : Option tree.Specifier). IsPart (a_specifier source at) source names names word w) (sym wants)
    (subst (λ (word : Part Specifier). IsPart (a_specifier source at) source names names word (Some it)) (sym is)
    (record {
      read = ap Some (sym seen);
      starts = refl;
      high = sym high ∙ ap specifier_height (sym seen);
      low = lit≤ tt;
      ends = sym ends ∙ ap (specifier_after at) (sym seen);
      within = omega (arith, there);
      scoped = ap (λ those. those ++ names) (sym declares ∙ ap (specifier_declares source) (sym seen));
    }))

view-keyword : (at : ℕ) → view.specifier (specifier.Word at) ≡ tree.keyword at
view-keyword at = search (rules, q.the_lemmas)

view-typedef : (at : ℕ) → view.specifier (specifier.Typedef at) ≡ tree.typedef_name at
view-typedef at = search (rules, q.the_lemmas)

pub keyword-read : (source : Source) (names : List Declared) (at : ℕ) (word : Part Specifier) (wanted : Option tree.Specifier)
    → word ≡ record { tree = specifier.Word at; height = 1; after = at + 1 } → at < length source.tokens → wanted ≡ Some (tree.keyword at) → IsPart (a_specifier source at) source names names word wanted
unfolding specifier_height specifier_declares
keyword-read source names at word wanted is there wants = word-read source names at word (specifier.Word at) (tree.keyword at) wanted is there (view-keyword at) wants refl refl refl

pub typedef-read : (source : Source) (names : List Declared) (at : ℕ) (word : Part Specifier) (wanted : Option tree.Specifier)
    → word ≡ record { tree = specifier.Typedef at; height = 1; after = at + 1 } → at < length source.tokens → wanted ≡ Some (tree.typedef_name at) → IsPart (a_specifier source at) source names names word wanted
unfolding specifier_height specifier_declares
typedef-read source names at word wanted is there wants = word-read source names at word (specifier.Typedef at) (tree.typedef_name at) wanted is there (view-typedef at) wants refl refl refl

-- what a specifier is, by the symbol there
pub specifier-is : (source : Source) (parts : Parts) (names : List Declared) (at : ℕ) (it : Symbol) (wanted : Option tree.Specifier) → it ≡ symbol_in source names at
    → wanted ≡ specifier_of source parts names at (word_kind it) → wanted ≡ specifier_of source parts names at (word_kind (symbol_in source names at))
specifier-is source parts names at it wanted stands is = is ∙ ap (λ s. specifier_of source parts names at (word_kind s)) stands

pub keyword-kind : (it : Symbol) → (it ≡ symbol.Const) ⊎ ((it ≡ symbol.Typedef) ⊎ ((it ≡ symbol.Storage) ⊎ (it ≡ symbol.TypeWord))) → (source : Source) (parts : Parts) (names : List Declared) (at : ℕ)
    → Some (tree.keyword at) ≡ specifier_of source parts names at (word_kind it)
unfolding specifier_of
keyword-kind it h source parts names at =
    ⊎_elim (λ e. sym (ap (λ s. specifier_of source parts names at (word_kind s)) e))
    (λ more. ⊎_elim (λ e. sym (ap (λ s. specifier_of source parts names at (word_kind s)) e))
    (λ others. ⊎_elim (λ e. sym (ap (λ s. specifier_of source parts names at (word_kind s)) e)) (λ e. sym (ap (λ s. specifier_of source parts names at (word_kind s)) e)) others) more) h

pub keyword-there : (it : Symbol) → (it ≡ symbol.Const) ⊎ ((it ≡ symbol.Typedef) ⊎ ((it ≡ symbol.Storage) ⊎ (it ≡ symbol.TypeWord))) → it ≡ symbol.End → ⊥
keyword-there it h ends =
    ⊎_elim (λ e. differ symbol.Const e refl) (λ more. ⊎_elim (λ e. differ symbol.Typedef e refl) (λ others. ⊎_elim (λ e. differ symbol.Storage e refl) (λ e. differ symbol.TypeWord e refl) others) more) h
  where
    differ : (one : Symbol) → it ≡ one → is symbol.End one ≡ false → ⊥
    differ one e other = not-the-end one other (sym e ∙ ends)

pub no-word-kind : (it : Symbol) → (it ≡ symbol.Const → ⊥) → (it ≡ symbol.Typedef → ⊥) → (it ≡ symbol.Storage → ⊥) → (it ≡ symbol.TypeWord → ⊥) → (it ≡ symbol.TypedefName → ⊥)
    → (it ≡ symbol.Struct → ⊥) → (it ≡ symbol.Enum → ⊥) → word_kind it ≡ no_word
no-word-kind symbol.Const a b c d e f g = absurd (a refl)
no-word-kind symbol.Typedef a b c d e f g = absurd (b refl)
no-word-kind symbol.Storage a b c d e f g = absurd (c refl)
no-word-kind symbol.TypeWord a b c d e f g = absurd (d refl)
no-word-kind symbol.TypedefName a b c d e f g = absurd (e refl)
no-word-kind symbol.Struct a b c d e f g = absurd (f refl)
no-word-kind symbol.Enum a b c d e f g = absurd (g refl)
no-word-kind _ a b c d e f g = refl
