-- What trees declare, one after another.
use Rattle.std.proofs.Common.{◌≡◌, ◌+◌, ◌<◌, ◌≤◌, ℕ, List, [], ◌∷◌, ◌++◌, drop, length, get_or, map, false, sym, ap, ◌∙◌, append_assoc}
use Rattle.std.proofs.lemmas.List.{at_drop_more, at_drop_all}
use Rattle.dm_syn.specs.declared.declared.Declared.{Declared}
use Rattle.dm_syn.specs.declared.declaration.Specifier.{Specifier}
use Rattle.dm_syn.specs.declared.declaration.Parameter.{Parameter}
use Rattle.dm_syn.specs.Scopes.{declaration_of, declarator_name, words_declares, specifiers_declares, declarator_declares, parameter_declares}
use Rattle.dm_syn.specs.Sources.{Source}
use Rattle.dm_syn.specs.Views as view
use Rattle.dm_pstmt.proofs.ViewLemmas.{view-specifiers, view-parameter}

-- two
pub twice : (one two a b c : List Declared) → b ≡ one ++ a → c ≡ two ++ b → c ≡ (two ++ one) ++ a
twice one two a b c first second = second ∙ ap (λ those. two ++ those) first ∙ sym (append_assoc two one a)

-- one more of a list, where a function tells what a list declares
pub one-further : {A : Type 0} (of_all : List A → List Declared) (of_one : A → List Declared) (items : List A) (at : ℕ) (it : A) (old now behind : List Declared)
    → ((first : A) (others : List A) → of_all (first ∷ others) ≡ of_all others ++ of_one first)
    → at < length items → it ≡ get_or items at it → of_all (drop at items) ++ old ≡ behind → now ≡ of_one it ++ old
    → of_all (drop (at + 1) items) ++ now ≡ behind
one-further {A = A} of_all of_one items at it old now behind law there is so one =
    let rest : List A = drop (at + 1) items in
    ap (λ those. of_all rest ++ those) one ∙ sym (append_assoc (of_all rest) (of_one it) old) ∙ ap (λ those. those ++ old) (sym (law it rest))
    ∙ ap (λ first. of_all (first ∷ rest) ++ old) is ∙ sym (at_drop_more (λ those. of_all those ++ old) items at it there) ∙ so

-- all of them
pub all-done : {A : Type 0} (of_all : List A → List Declared) (items : List A) (at : ℕ) (now behind : List Declared) → of_all [] ≡ [] → length items ≤ at → of_all (drop at items) ++ now ≡ behind → now ≡ behind
all-done of_all items at now behind none past so = ap (λ those. those ++ now) (sym none) ∙ sym (at_drop_all (λ those. of_all those ++ now) items at past) ∙ so

-- a parameter
pub parameter-said : (source : Source) (it : Parameter) (words : List Specifier) (a b c d : List Declared) → words ≡ it.specifiers.words
    → b ≡ words_declares source (view.words (map view.specifier words)) ++ a → c ≡ declarator_declares source (view.declarator it.declarator) ++ b
    → d ≡ declaration_of source false (declarator_name (view.declarator it.declarator)) ++ c → d ≡ parameter_declares source (view.parameter it) ++ a
unfolding specifiers_declares
parameter-said source it words a b c d is first second third =
    let said : words_declares source (view.words (map view.specifier words)) ≡ specifiers_declares source (view.specifiers it.specifiers) =
    ap (λ those. words_declares source (view.words (map view.specifier those))) is ∙ ap (specifiers_declares source) (sym (view-specifiers it.specifiers)) in
    twice (declarator_declares source (view.declarator it.declarator) ++ specifiers_declares source (view.specifiers it.specifiers)) (declaration_of source false (declarator_name (view.declarator it.declarator))) a c d
    (twice (specifiers_declares source (view.specifiers it.specifiers)) (declarator_declares source (view.declarator it.declarator)) a b c (first ∙ ap (λ those. those ++ a) said) second) third
    ∙ ap (λ whole. parameter_declares source whole ++ a) (sym (view-parameter it))
