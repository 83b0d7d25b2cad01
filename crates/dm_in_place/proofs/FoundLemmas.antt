-- Arguments that can't be undefined pass the test where their full expressions stand.
use Rattle.std.specs.Prelude.{◌≡◌, refl, ℕ, ◌==◌, ◌<◌, ◌≤◌, ◌++◌, Bool, true, false, not, ◌&&◌, ◌||◌, nat_le, nat_lt, List, [], ◌∷◌, Option, Some, None, is_some, slice_get, if◌then◌else◌}
use Rattle.std.specs.List.{list_all, list_any}
use Rattle.std.proofs.Common.{ap, ap₂, sym, ◌∙◌, subst, arith, inl, inr}
use Rattle.std.proofs.lemmas.Bool.{false≢true}
use Rattle.dm_token.specs.declared.place.Span.{Span}
use Rattle.dm_type.specs.CTypes.{CType}
use Rattle.dm_type.specs.Tables.{Table}
use Rattle.dm_tree.specs.declared.unit.Sort.{Sort}
use Rattle.dm_tree.specs.declared.unit.Sort.TheVariants.{Object}
use Rattle.dm_tree.specs.Constants.{constant}
use Rattle.dm_tree.specs.Initialisers.{is_same_span}
use Rattle.dm_tree.specs.Paths.{all_in, all_in_trees}
use Rattle.dm_tree.specs.Scenes.{is_integer}
use Rattle.dm_tree.specs.Trees.{Label, number, enumerator, object, read, convert, unary, binary, both, either, choose, comma, Tree, Trees, node, no_trees, more_trees, label_of, spans_of}
use Rattle.dm_tree.specs.Typing.{IsWellTypedUnit}
use Rattle.dm_tree.specs.Units.{Declaration, External, ExternalForm, declares, defines_function, TypedUnit}
use Rattle.dm_meaning.specs.Among.{IsAmong}
use Rattle.dm_meaning.specs.Statements.{is_automatic_declaration, is_automatic_sort, Local}
use Rattle.dm_meaning.proofs.GrowLemmas.{equal_is, equal_of}
use Rattle.dm_meaning.proofs.OptionLemmas.{and_left, and_right}
use Rattle.dm_effect.specs.Entities.{is_named, is_store, locals_of_unit, object_first}
use Rattle.dm_effect.specs.Forms.{Ruling, settled, by_operand, by_parts, ruled, all_there, first_there, is_built, are_built}
use Rattle.dm_effect.specs.Safe.{converts_integer, has_parameter, holds, initialises_apart, is_initialised, is_parameter, is_safe, is_safe_operator, is_safe_sign, is_set, is_set_entry, is_set_sort, safe_rule}
use Rattle.dm_effect.specs.Scoped.{is_automatic, IsScopedUnit}
use Rattle.dm_effect.specs.Stable.{is_call, is_pure}
use Rattle.dm_initialised.specs.Once.{IsDeclaredOnce}
use Rattle.dm_initialised.specs.Units.{has_first_value}
use Rattle.dm_scoped.specs.Spans.{IsLaidOut, IsLaidOutUnit}
use Rattle.dm_sites.specs.Sites.{Site, site_of}
use Rattle.dm_spans.specs.SameTrees.{IsSame, AreSame}
use Rattle.dm_spans.proofs.FactLemmas.{same_constant, same_type}
use Rattle.dm_in_place.specs.InPlace.{has_value_at, initialises_by, is_safe_in_place, is_set_at, is_set_entry_at, tokens_of}
use Rattle.dm_in_place.proofs.InsideLemmas.{argument_inside, body_laid, external_laid, form_laid, has_tokens}
use Rattle.dm_in_place.proofs.OnceLemmas.{first_given, from_body, InBody, IsParameterOf, no_other, number_of, sole}
use Rattle.dm_in_place.proofs.SetLemmas.{any_found}

-- ---- trees that are the same but for where their nodes stand

and_both : (a b : Bool) → a ≡ true → b ≡ true → (a && b) ≡ true
and_both true b e f = f
and_both false b e f = absurd (false≢true e)

-- a test of labels alone
module _ (test : Label → Bool) where
  abbrev at_label : Tree → Bool
  at_label tree = test (label_of tree)

  any_append : (xs ys : List Tree) → list_any at_label (xs ++ ys) ≡ (list_any at_label xs || list_any at_label ys)
  any_append [] ys = refl
  any_append (x ∷ xs) ys = ap (λ b. at_label x || b) (any_append xs ys) ∙ or_through (at_label x) (list_any at_label xs) (list_any at_label ys)
    where
      or_through : (a b c : Bool) → (a || (b || c)) ≡ ((a || b) || c)
      or_through true b c = refl
      or_through false b c = refl

  mutual
    same_labels : (tree other : Tree) → IsSame tree other → list_any at_label (all_in other) ≡ list_any at_label (all_in tree)
    same_labels (node label kind spans parts) (node next other_kind other_spans others) h = ap₂ (λ (l : Label) (b : Bool). test l || b) h.0 (all_same_labels parts others h.2)

    all_same_labels : (trees others : Trees) → AreSame trees others → list_any at_label (all_in_trees others) ≡ list_any at_label (all_in_trees trees)
    all_same_labels no_trees no_trees h = refl
    all_same_labels no_trees (more_trees other others) h = absurd h
    all_same_labels (more_trees first rest) no_trees h = absurd h
    all_same_labels (more_trees first rest) (more_trees other others) h =
        any_append (all_in other) (all_in_trees others) ∙ (ap₂ (λ (a b : Bool). a || b) (same_labels first other h.0) (all_same_labels rest others h.1) ∙ sym (any_append (all_in first) (all_in_trees rest)))

same_pure : (tree other : Tree) → IsSame tree other → is_pure other ≡ is_pure tree
same_pure tree other h = ap not (same_labels (λ label. is_call label || is_store label) tree other h)

-- ---- safe trees

abbrev Weaker : (ℕ → Bool) → (ℕ → Bool) → Type 0
Weaker test more = (d : ℕ) → test d ≡ true → more d ≡ true

same_first : (trees others : Trees) → AreSame trees others → object_first others ≡ object_first trees
same_first no_trees no_trees h = refl
same_first no_trees (more_trees other others) h = absurd h
same_first (more_trees first rest) no_trees h = absurd h
same_first (more_trees (node label kind spans parts) rest) (more_trees (node next other_kind other_spans below) others) h = by_label label next h.0.0
  where
    by_label : (l m : Label) → m ≡ l → object_first (more_trees (node m other_kind other_spans below) others) ≡ object_first (more_trees (node l kind spans parts) rest)
    by_label l m e = subst (λ k. object_first (more_trees (node k other_kind other_spans below) others) ≡ object_first (more_trees (node l kind spans parts) rest)) (sym e) (at l)
      where
        at : (k : Label) → object_first (more_trees (node k other_kind other_spans below) others) ≡ object_first (more_trees (node k kind spans parts) rest)
        at (object d) = refl
        at k = refl

same_converts : (kind : CType) (trees others : Trees) → AreSame trees others → converts_integer kind others ≡ converts_integer kind trees
same_converts kind no_trees no_trees h = refl
same_converts kind no_trees (more_trees other others) h = absurd h
same_converts kind (more_trees first rest) no_trees h = absurd h
same_converts kind (more_trees first rest) (more_trees other others) h = ap (λ t. is_integer kind && is_integer t) (same_type first other h.0)

-- what passes for one list of parts passes for another
abbrev Follow : List Bool → List Bool → Type 0
Follow [] [] = Unit {0}
Follow (x ∷ xs) (y ∷ ys) = (x ≡ true → y ≡ true) × Follow xs ys
Follow xs ys = ⊥

each_follow : (xs ys : List Bool) → Follow xs ys → list_all (λ passed. passed) xs ≡ true → list_all (λ passed. passed) ys ≡ true
each_follow [] [] h e = refl
each_follow [] (y ∷ ys) h e = absurd h
each_follow (x ∷ xs) [] h e = absurd h
each_follow (x ∷ xs) (y ∷ ys) h e =
    and_both y (list_all (λ passed. passed) ys) (h.0 (and_left x (list_all (λ passed. passed) xs) e)) (each_follow xs ys h.1 (and_right x (list_all (λ passed. passed) xs) e))

all_follow : (xs ys : List Bool) → Follow xs ys → all_there xs ≡ true → all_there ys ≡ true
all_follow [] [] h e = e
all_follow [] (y ∷ ys) h e = absurd h
all_follow (x ∷ xs) [] h e = absurd h
all_follow (x ∷ xs) (y ∷ ys) h e = each_follow (x ∷ xs) (y ∷ ys) h e

first_follows : (xs ys : List Bool) → Follow xs ys → first_there xs ≡ true → first_there ys ≡ true
first_follows [] [] h e = e
first_follows [] (y ∷ ys) h e = absurd h
first_follows (x ∷ xs) [] h e = absurd h
first_follows (x ∷ xs) (y ∷ ys) h e = h.0 e

ruled_if : (b : Bool) (rule : Ruling) (xs : List Bool) → ruled (if b then rule else settled false) xs ≡ true → (b ≡ true) × (ruled rule xs ≡ true)
ruled_if true rule xs e = (refl, e)
ruled_if false rule xs e = absurd (false≢true e)

if_ruled : (b : Bool) (rule : Ruling) (xs : List Bool) → b ≡ true → ruled rule xs ≡ true → ruled (if b then rule else settled false) xs ≡ true
if_ruled true rule xs e f = f
if_ruled false rule xs e f = absurd (false≢true e)

named_follows : (test more : ℕ → Bool) → Weaker test more → (o : Option ℕ) → is_named test o ≡ true → is_named more o ≡ true
named_follows test more weaker None e = absurd (false≢true e)
named_follows test more weaker (Some d) e = weaker d e

module _ (test more : ℕ → Bool) (weaker : Weaker test more) where
  label_follows : (label : Label) (kind : CType) (parts others : Trees) → AreSame parts others → (xs ys : List Bool) → Follow xs ys → ruled (safe_rule test label kind parts) xs ≡ true → ruled (safe_rule more label kind others) ys ≡ true
  label_follows (number value) kind parts others h xs ys f e = refl
  label_follows (enumerator at) kind parts others h xs ys f e = refl
  label_follows read kind parts others h xs ys f e = ap (is_named more) (same_first parts others h) ∙ named_follows test more weaker (object_first parts) e
  label_follows convert kind parts others h xs ys f e =
      let there = ruled_if (converts_integer kind parts) by_operand xs e in
      if_ruled (converts_integer kind others) by_operand ys (same_converts kind parts others h ∙ there.0) (first_follows xs ys f there.1)
  label_follows (unary sign) kind parts others h xs ys f e =
      let there = ruled_if (is_safe_sign sign) by_parts xs e in
      if_ruled (is_safe_sign sign) by_parts ys there.0 (all_follow xs ys f there.1)
  label_follows (binary op) kind parts others h xs ys f e =
      let there = ruled_if (is_safe_operator op kind) by_parts xs e in
      if_ruled (is_safe_operator op kind) by_parts ys there.0 (all_follow xs ys f there.1)
  label_follows both kind parts others h xs ys f e = all_follow xs ys f e
  label_follows either kind parts others h xs ys f e = all_follow xs ys f e
  label_follows choose kind parts others h xs ys f e = all_follow xs ys f e
  label_follows comma kind parts others h xs ys f e = all_follow xs ys f e
  label_follows label kind parts others h xs ys f e = absurd (false≢true e)

  mutual
    built_follows : (tree other : Tree) → IsSame tree other → is_built (safe_rule test) tree ≡ true → is_built (safe_rule more) other ≡ true
    built_follows (node label kind spans parts) (node next other_kind other_spans others) h e =
        subst (λ (l : Label). ruled (safe_rule more l other_kind others) (are_built (safe_rule more) others) ≡ true) (sym h.0)
        (subst (λ (k : CType). ruled (safe_rule more label k others) (are_built (safe_rule more) others) ≡ true) (sym h.1)
        (label_follows label kind parts others h.2 (are_built (safe_rule test) parts) (are_built (safe_rule more) others) (parts_follow parts others h.2) e))

    parts_follow : (trees others : Trees) → AreSame trees others → Follow (are_built (safe_rule test) trees) (are_built (safe_rule more) others)
    parts_follow no_trees no_trees h = tt
    parts_follow no_trees (more_trees other others) h = absurd h
    parts_follow (more_trees first rest) no_trees h = absurd h
    parts_follow (more_trees first rest) (more_trees other others) h = (built_follows first other h.0, parts_follow rest others h.1)

-- ---- tokens

le_test : (m n : ℕ) → m ≤ n → nat_le m n ≡ true
le_test m n h = grind arith

lt_test : (m n : ℕ) → m < n → nat_lt m n ≡ true
lt_test m n h = grind arith

same_spans : (a b : Span) → is_same_span a b ≡ true → (a.first ≡ b.first) × (a.after ≡ b.after)
same_spans a b e = (equal_of a.first b.first (and_left (a.first == b.first) (a.after == b.after) e), equal_of a.after b.after (and_right (a.first == b.first) (a.after == b.after) e))

pub same_span : (a : Span) → is_same_span a a ≡ true
same_span a = and_both (a.first == a.first) (a.after == a.after) (equal_is a.first a.first refl) (equal_is a.after a.after refl)

not_false : (b : Bool) → (b ≡ true → ⊥) → not b ≡ true
not_false true h = absurd (h refl)
not_false false h = refl

pub was_false : (b : Bool) → not b ≡ true → b ≡ true → ⊥
was_false true e f = false≢true e
was_false false e f = false≢true f

pub any_there : {X : Type 0} (test : X → Bool) (x : X) (xs : List X) → IsAmong x xs → test x ≡ true → list_any test xs ≡ true
any_there test x [] a e = absurd a
any_there test x (first ∷ rest) (inl same) e = ap (λ b. b || list_any test rest) (ap test (sym same) ∙ e)
any_there test x (first ∷ rest) (inr a) e = or_right (test first) (any_there test x rest a e)
  where
    or_right : (a : Bool) → list_any test rest ≡ true → (a || list_any test rest) ≡ true
    or_right true f = refl
    or_right false f = f

-- ---- objects that are set

module _ (types : Table) (one : TypedUnit) (typed : IsWellTypedUnit types one) (scoped : IsScopedUnit one) (laid : IsLaidOutUnit one) (once : IsDeclaredOnce one) (span : Span) (argument : Site)
    (found : site_of one span ≡ Some argument) where
  abbrev tokens : Span
  tokens = (spans_of argument.full).inner

  in_a_form : (d : ℕ) (form : ExternalForm) → has_parameter d form ≡ true → IsParameterOf d form
  in_a_form d (declares declarators trees) e = absurd (false≢true e)
  in_a_form d (defines_function f parameters body) e = let there = any_found (λ c. c == d) parameters e in subst (λ c. IsAmong c parameters) (equal_of there.0 d there.2) there.1

  module _ (d : ℕ) (automatic : is_automatic one.declared d ≡ true) where
    -- its declarator's expressions stand in order
    expression_laid : (local : Local) → IsAmong local (locals_of_unit one) → number_of local ≡ d → (tree : Tree) → IsAmong tree local.expressions → IsLaidOut tree
    expression_laid local a e tree k = let from = from_body types one typed scoped once d automatic local a e in by_form from.0 from.1 from.0.form refl from.2
      where
        by_form : (external : External) → IsAmong external one.externals → (form : ExternalForm) → external.form ≡ form → InBody local form → IsLaidOut tree
        by_form external there (declares declarators trees) f body_is = absurd body_is
        by_form external there (defines_function g parameters body) f body_is =
            body_laid local tree k body (form_laid external.span external.form g parameters body f (external_laid 0 one.externals laid external there).1) body_is

    parameter_set : is_parameter one d ≡ true → has_value_at one tokens d (Object false) ≡ true
    parameter_set e =
        let there = any_found (λ (external : External). has_parameter d external.form) one.externals e in
        let none = no_other types one typed scoped once d automatic there.0 there.1 (in_a_form d there.0.form there.2) in
        and_both (has_first_value one d) (not (list_any (initialises_by tokens d) (locals_of_unit one)))
        (first_given types one typed scoped once d automatic (λ local a f. absurd (none local a f)))
        (not_false (list_any (initialises_by tokens d) (locals_of_unit one)) (λ f.
        let other = any_found (initialises_by tokens d) (locals_of_unit one) f in
        none other.0 other.1 (equal_of other.0.declarator.declared d (and_left (other.0.declarator.declared == d) (list_any (λ (it : Tree). is_same_span (spans_of it).inner tokens) other.0.expressions) other.2))))

    initialised_set : is_initialised one argument.tree d ≡ true → has_value_at one tokens d (Object false) ≡ true
    initialised_set e =
        let there = any_found (initialises_apart (spans_of argument.tree).inner.first d) (locals_of_unit one) e in
        let local = there.0 in
        let same = equal_of local.declarator.declared d (and_left (local.declarator.declared == d) (is_some local.declarator.initialiser && not (list_any (holds (spans_of argument.tree).inner.first) local.expressions)) there.2) in
        let rest = and_right (local.declarator.declared == d) (is_some local.declarator.initialiser && not (list_any (holds (spans_of argument.tree).inner.first) local.expressions)) there.2 in
        let initialised = and_left (is_some local.declarator.initialiser) (not (list_any (holds (spans_of argument.tree).inner.first) local.expressions)) rest in
        let apart = was_false (list_any (holds (spans_of argument.tree).inner.first) local.expressions) (and_right (is_some local.declarator.initialiser) (not (list_any (holds (spans_of argument.tree).inner.first) local.expressions)) rest) in
        and_both (has_first_value one d) (not (list_any (initialises_by tokens d) (locals_of_unit one)))
        (first_given types one typed scoped once d automatic (λ other a f. subst (λ (it : Local). is_some it.declarator.initialiser ≡ true) (sole types one typed scoped once d automatic local other there.1 a same f) initialised))
        (not_false (list_any (initialises_by tokens d) (locals_of_unit one)) (λ f.
        let other = any_found (initialises_by tokens d) (locals_of_unit one) f in
        let named = equal_of other.0.declarator.declared d (and_left (other.0.declarator.declared == d) (list_any (λ (it : Tree). is_same_span (spans_of it).inner tokens) other.0.expressions) other.2) in
        let full = any_found (λ (it : Tree). is_same_span (spans_of it).inner tokens) other.0.expressions
        (and_right (other.0.declarator.declared == d) (list_any (λ (it : Tree). is_same_span (spans_of it).inner tokens) other.0.expressions) other.2) in
        let its = subst (λ (it : Local). IsAmong full.0 it.expressions) (sym (sole types one typed scoped once d automatic local other.0 there.1 other.1 same named)) full.1 in
        apart (any_there (holds (spans_of argument.tree).inner.first) full.0 local.expressions its (held full.0 (expression_laid local there.1 same full.0 its) full.2))))
      where
        held : (full : Tree) → IsLaidOut full → is_same_span (spans_of full).inner tokens ≡ true → holds (spans_of argument.tree).inner.first full ≡ true
        held full laid_out equal_spans =
            let equal = same_spans (spans_of full).inner tokens equal_spans in
            let e0 = equal.0 in let e1 = equal.1 in
            let own = has_tokens full laid_out in
            let o0 = own.0 in let o2 = own.2 in
            let inside = argument_inside one laid span argument found in
            let i0 = inside.0 in let i1 = inside.1 in
            let first : (spans_of full).outer.first ≤ (spans_of argument.tree).inner.first = omega (arith, e0, o0, i0) in
            let after : (spans_of argument.tree).inner.first < (spans_of full).outer.after = omega (arith, e1, o2, i1) in
            and_both (nat_le (spans_of full).outer.first (spans_of argument.tree).inner.first) (nat_lt (spans_of argument.tree).inner.first (spans_of full).outer.after)
            (le_test (spans_of full).outer.first (spans_of argument.tree).inner.first first) (lt_test (spans_of argument.tree).inner.first (spans_of full).outer.after after)

  sort_set : (d : ℕ) (entry : Declaration) → slice_get one.declared d ≡ Some entry → (sort : Sort) → entry.sort ≡ sort → is_set_sort one argument.tree d sort ≡ true → has_value_at one tokens d sort ≡ true
  sort_set d entry there (Object true) is e = e
  sort_set d entry there (Object false) is e = by_either (is_parameter one d) refl e
    where
      automatic : is_automatic one.declared d ≡ true
      automatic = ap is_automatic_declaration there ∙ ap is_automatic_sort is

      by_either : (b : Bool) → is_parameter one d ≡ b → (b || is_initialised one argument.tree d) ≡ true → has_value_at one tokens d (Object false) ≡ true
      by_either true f g = parameter_set d automatic f
      by_either false f g = initialised_set d automatic g
  sort_set d entry there sort is e = absurd (false≢true e)

  entry_set : (d : ℕ) (o : Option Declaration) → slice_get one.declared d ≡ o → is_set_entry one argument.tree d o ≡ true → is_set_entry_at one tokens d o ≡ true
  entry_set d None there e = absurd (false≢true e)
  entry_set d (Some entry) there e =
      and_both (is_integer entry.kind) (has_value_at one tokens d entry.sort) (and_left (is_integer entry.kind) (is_set_sort one argument.tree d entry.sort) e)
      (sort_set d entry there entry.sort refl (and_right (is_integer entry.kind) (is_set_sort one argument.tree d entry.sort) e))

  pub found_safe : is_pure argument.tree ≡ true → is_safe types one argument.tree ≡ true → (tree : Tree) → IsSame argument.tree tree → tokens_of tree ≡ tokens → is_safe_in_place types one tree ≡ true
  found_safe pure safe tree same told =
      and_both (is_pure tree) (is_some (constant types one.declared tree) || is_built (safe_rule (is_set_at one tree)) tree) (same_pure argument.tree tree same ∙ pure)
      (by_form (is_some (constant types one.declared argument.tree)) refl safe)
    where
      weaker : Weaker (is_set one argument.tree) (is_set_at one tree)
      weaker d e = subst (λ (at : Span). is_set_entry_at one at d (slice_get one.declared d) ≡ true) (sym told) (entry_set d (slice_get one.declared d) refl e)

      or_right : (a b : Bool) → b ≡ true → (a || b) ≡ true
      or_right true b e = refl
      or_right false b e = e

      by_form : (b : Bool) → is_some (constant types one.declared argument.tree) ≡ b → (b || is_built (safe_rule (is_set one argument.tree)) argument.tree) ≡ true
          → (is_some (constant types one.declared tree) || is_built (safe_rule (is_set_at one tree)) tree) ≡ true
      by_form true e f = ap (λ b. b || is_built (safe_rule (is_set_at one tree)) tree) (ap is_some (same_constant types one.declared argument.tree tree same) ∙ e)
      by_form false e f =
          or_right (is_some (constant types one.declared tree)) (is_built (safe_rule (is_set_at one tree)) tree)
          (built_follows (is_set one argument.tree) (is_set_at one tree) weaker argument.tree tree same f)
