-- An expression stands among the tokens of its full expression, where the nodes of a unit stand in order.
--     IsWithin outer part      the tokens of a part, without its parentheses, are among those of another
--     body_laid      the trees of a body stand in order
--     argument_inside      what is found at a place begins among the tokens of its full expression
use Rattle.std.specs.Prelude.{◌≡◌, refl, ◌⊎◌, ℕ, zero, suc, ◌+◌, ◌<◌, ◌≤◌, Bool, true, false, not, if◌then◌else◌, List, [], ◌∷◌, ◌++◌, map, flat_map, take, drop, find, Some, cond}
use Rattle.std.specs.List.{AllByRecursion}
use Rattle.std.proofs.Common.{ap, sym, ◌∙◌, subst, arith, inl, inr}
use Rattle.std.proofs.lemmas.Bool.{true≢false, false≢true}
use Rattle.dm_token.specs.declared.place.Span.{Span}
use Rattle.dm_type.specs.CTypes.{CType}
use Rattle.dm_tree.specs.Trees.{Declarator, Label, convert, declare, case, is_statement, Spans, Tree, Trees, node, no_trees, more_trees, label_of, listed, spans_of}
use Rattle.dm_tree.specs.Units.{Declaration, External, ExternalForm, declares, defines_function, TypedUnit}
use Rattle.dm_meaning.specs.Among.{IsAmong}
use Rattle.dm_meaning.specs.Statements.{expressions_of, Local, with_expressions}
use Rattle.dm_meaning.proofs.AmongLemmas.{among_left, among_right, among_either}
use Rattle.dm_meaning.proofs.OptionLemmas.{none_is_some, some_is_some, and_left, and_right}
use Rattle.dm_effect.specs.Entities.{locals_here}
use Rattle.dm_scoped.specs.Spans.{AreInside, AreLaidOut, AreLaidOutFrom, EachInside, in_source_order, IsLaidOut, IsLaidOutExternal, IsLaidOutForm, IsLaidOutUnit, StandBetween}
use Rattle.dm_sites.specs.Sites.{Site, all_sites, declarator_sites, external_sites, form_sites, initial_sites, is_site_of, operand_sites, own_site, part_sites, site_of, sites_below, sites_in, sites_of_unit, statement_parts, whole}
use Rattle.dm_sites.specs.Standing.{is_extent, is_implied_conversion, is_value, stands}
use Rattle.dm_sites.proofs.LeadLemmas.{front-by, IsFront}
use Rattle.dm_sites.proofs.PlaceLemmas.{tree_of}
use Rattle.dm_in_place.proofs.LocalLemmas.{locals_below, locals_below_all}

-- ---- lists

among_take : {X : Type 0} (n : ℕ) (x : X) (xs : List X) → IsAmong x (take n xs) → IsAmong x xs
among_take zero x xs a = absurd a
among_take (suc n) x [] a = absurd a
among_take (suc n) x (first ∷ rest) (inl e) = inl e
among_take (suc n) x (first ∷ rest) (inr a) = inr (among_take n x rest a)

pub among_drop : {X : Type 0} (n : ℕ) (x : X) (xs : List X) → IsAmong x (drop n xs) → IsAmong x xs
among_drop zero x xs a = a
among_drop (suc n) x [] a = absurd a
among_drop (suc n) x (first ∷ rest) a = inr (among_drop n x rest a)

all_join : {X : Type 0} (P : X → Type 0) (front back : List X) → AllByRecursion P front → AllByRecursion P back → AllByRecursion P (front ++ back)
all_join P [] back h k = k
all_join P (x ∷ front) back h k = (h.0, all_join P front back h.1 k)

module _ {X : Type 0} (test : X → Bool) where
  found_has : (P : X → Type 0) (xs : List X) (x : X) → AllByRecursion P xs → find test xs ≡ Some x → P x × (test x ≡ true)
  found_has P [] x h e = absurd (none_is_some x e)
  found_has P (first ∷ rest) x h e = by_test (test first) refl e (found_has P rest x h.1)
    where
      by_test : (b : Bool) → test first ≡ b → (if b then Some first else find test rest) ≡ Some x → (find test rest ≡ Some x → P x × (test x ≡ true)) → P x × (test x ≡ true)
      by_test true is f later = let same = some_is_some first x f in (subst P same h.0, ap test (sym same) ∙ is)
      by_test false is f later = later f

-- an expression of a declarator is one of those of the declaration
pub with_one : (declarators : List Declarator) (trees : List Tree) (local : Local) (tree : Tree) → IsAmong local (with_expressions declarators trees) → IsAmong tree local.expressions → IsAmong tree trees
with_one [] trees local tree a k = absurd a
with_one (one ∷ others) trees local tree (inl e) k = among_take (expressions_of one.initialiser) tree trees (subst (λ (it : Local). IsAmong tree it.expressions) e k)
with_one (one ∷ others) trees local tree (inr a) k =
    among_drop (expressions_of one.initialiser) tree trees (with_one others (drop (expressions_of one.initialiser) trees) local tree a k)

-- ---- tokens

abbrev pub IsWithin : Spans → Spans → Type 0
IsWithin outer part = (outer.inner.first ≤ part.inner.first) × (part.inner.after ≤ outer.inner.after)

abbrev pub HasTokens : Spans → Type 0
HasTokens spans = (spans.outer.first ≤ spans.inner.first) × (spans.inner.first < spans.inner.after) × (spans.inner.after ≤ spans.outer.after)

pub has_tokens : (tree : Tree) → IsLaidOut tree → HasTokens (spans_of tree)
has_tokens (node label kind spans parts) laid = let first = laid.0 in let sum = laid.2 in let behind : spans.inner.after ≤ spans.outer.after = omega (arith, first, sum) in (first, laid.1, behind)

within_itself : (spans : Spans) → IsWithin spans spans
within_itself spans = let first : spans.inner.first ≤ spans.inner.first = omega arith in let after : spans.inner.after ≤ spans.inner.after = omega arith in (first, after)

within_through : (a b c : Spans) → IsWithin a b → IsWithin b c → IsWithin a c
within_through a b c f g =
    let f0 = f.0 in let f1 = f.1 in let g0 = g.0 in let g1 = g.1 in
    let first : a.inner.first ≤ c.inner.first = omega (arith, f0, g0) in
    let after : c.inner.after ≤ a.inner.after = omega (arith, f1, g1) in
    (first, after)

-- ---- parts of nodes

abbrev AllLaid : List Tree → Type 0
AllLaid trees = (tree : Tree) → IsAmong tree trees → IsLaidOut tree

pub each_laid : (trees : Trees) → AreLaidOut trees → AllLaid (listed trees)
each_laid no_trees laid tree a = absurd a
each_laid (more_trees first rest) laid tree (inl e) = subst IsLaidOut (sym e) laid.0
each_laid (more_trees first rest) laid tree (inr a) = each_laid rest laid.1 tree a

ends_inside : (label : Label) (spans : Spans) (at : ℕ) (trees : List Tree) → spans.inner.first < spans.inner.after → AllLaid trees → AreInside label spans at trees → at ≤ spans.inner.after
ends_inside label spans at [] some laid h = h
ends_inside label spans at (one ∷ others) some laid (inl h) = let before = h.1 in let end : at ≤ spans.inner.after = omega (arith, before, some) in end
ends_inside label spans at (one ∷ others) some laid (inr h) =
    let tokens = has_tokens one (laid one (inl refl)) in
    let t0 = tokens.0 in let t1 = tokens.1 in let t2 = tokens.2 in
    let before = h.0 in
    let rest = ends_inside label spans (spans_of one).outer.after others some (λ tree a. laid tree (inr a)) h.2 in
    let end : at ≤ spans.inner.after = omega (arith, t0, t1, t2, before, rest) in end

inside_one : (label : Label) (spans : Spans) (at : ℕ) (trees : List Tree) → spans.inner.first < spans.inner.after → AllLaid trees → spans.inner.first ≤ at → AreInside label spans at trees → (tree : Tree) → IsAmong tree trees
    → IsWithin spans (spans_of tree)
inside_one label spans at [] some laid from h tree a = absurd a
inside_one label spans at (one ∷ others) some laid from (inl h) tree (inl e) = subst (λ (it : Tree). IsWithin spans (spans_of it)) (sym e) (subst (IsWithin spans) (sym h.0) (within_itself spans))
inside_one label spans at (one ∷ others) some laid from (inl h) tree (inr a) =
    let next : spans.inner.first ≤ spans.inner.first + 1 = omega arith in
    inside_one label spans (spans.inner.first + 1) others some (λ it k. laid it (inr k)) next h.4 tree a
inside_one label spans at (one ∷ others) some laid from (inr h) tree (inl e) =
    let tokens = has_tokens one (laid one (inl refl)) in
    let t0 = tokens.0 in let t1 = tokens.1 in let t2 = tokens.2 in
    let before = h.0 in
    let rest = ends_inside label spans (spans_of one).outer.after others some (λ it a. laid it (inr a)) h.2 in
    let first : spans.inner.first ≤ (spans_of one).inner.first = omega (arith, t0, before, from) in
    let after : (spans_of one).inner.after ≤ spans.inner.after = omega (arith, t2, rest) in
    subst (λ (it : Tree). IsWithin spans (spans_of it)) (sym e) (first, after)
inside_one label spans at (one ∷ others) some laid from (inr h) tree (inr a) =
    let tokens = has_tokens one (laid one (inl refl)) in
    let t0 = tokens.0 in let t1 = tokens.1 in let t2 = tokens.2 in
    let before = h.0 in
    let next : spans.inner.first ≤ (spans_of one).outer.after = omega (arith, t0, t1, t2, before, from) in
    inside_one label spans (spans_of one).outer.after others some (λ it k. laid it (inr k)) next h.2 tree a

-- the parts of an expression stand within it
part_inside : (label : Label) (spans : Spans) (parts : List Tree) → is_statement label ≡ false → spans.inner.first < spans.inner.after → AllLaid parts → EachInside label spans (in_source_order label parts) → (tree : Tree) → IsAmong tree parts
    → IsWithin spans (spans_of tree)
part_inside convert spans [] e some laid h tree a = absurd a
part_inside convert spans (operand ∷ lengths) e some laid h tree a =
    let from : spans.inner.first ≤ spans.inner.first = omega arith in
    inside_one convert spans spans.inner.first (lengths ++ operand ∷ []) some (λ it k. laid it (turned it k)) from h.0 tree (moved a)
  where
    turned : (it : Tree) → IsAmong it (lengths ++ operand ∷ []) → IsAmong it (operand ∷ lengths)
    turned it k = pick (among_either it lengths (operand ∷ []) k)
      where
        pick : IsAmong it lengths ⊎ IsAmong it (operand ∷ []) → IsAmong it (operand ∷ lengths)
        pick (inl m) = inr m
        pick (inr (inl m)) = inl m
        pick (inr (inr m)) = absurd m

    moved : IsAmong tree (operand ∷ lengths) → IsAmong tree (lengths ++ operand ∷ [])
    moved (inl k) = among_right tree lengths (operand ∷ []) (inl k)
    moved (inr k) = among_left tree lengths (operand ∷ []) k
part_inside (declare lengths declarators) spans parts e some laid h tree a = absurd (true≢false e)
part_inside label spans parts e some laid h tree a =
    let from : spans.inner.first ≤ spans.inner.first = omega arith in
    inside_one label spans spans.inner.first parts some laid from h.0 tree a

-- ---- declarators

module _ (local : Local) (tree : Tree) (one_of : IsAmong tree local.expressions) where
  here_laid : (label : Label) (kind : CType) (spans : Spans) (parts : Trees) → AllLaid (listed parts) → IsAmong local (locals_here (node label kind spans parts)) → IsLaidOut tree
  here_laid (declare lengths declarators) kind spans parts laid a =
      laid tree (among_drop lengths tree (listed parts) (with_one declarators (drop lengths (listed parts)) local tree a one_of))
  here_laid label kind spans parts laid a = absurd a

  mutual
    pub body_laid : (body : Tree) → IsLaidOut body → IsAmong local (locals_below body) → IsLaidOut tree
    body_laid (node label kind spans parts) laid a =
        pick (among_either local (locals_here (node label kind spans parts)) (locals_below_all parts) a) (here_laid label kind spans parts (each_laid parts laid.4)) (bodies_laid parts laid.4)
      where
        pick : IsAmong local (locals_here (node label kind spans parts)) ⊎ IsAmong local (locals_below_all parts) → (IsAmong local (locals_here (node label kind spans parts)) → IsLaidOut tree)
            → (IsAmong local (locals_below_all parts) → IsLaidOut tree) → IsLaidOut tree
        pick (inl k) here below = here k
        pick (inr k) here below = below k

    bodies_laid : (trees : Trees) → AreLaidOut trees → IsAmong local (locals_below_all trees) → IsLaidOut tree
    bodies_laid no_trees laid a = absurd a
    bodies_laid (more_trees first rest) laid a = pick (among_either local (locals_below first) (locals_below_all rest) a) (body_laid first laid.0) (bodies_laid rest laid.1)
      where
        pick : IsAmong local (locals_below first) ⊎ IsAmong local (locals_below_all rest) → (IsAmong local (locals_below first) → IsLaidOut tree)
            → (IsAmong local (locals_below_all rest) → IsLaidOut tree) → IsLaidOut tree
        pick (inl k) here below = here k
        pick (inr k) here below = below k

-- ---- external declarations

between_laid : (at behind : ℕ) (trees : List Tree) → StandBetween at behind trees → AllLaid trees
between_laid at behind [] h tree a = absurd a
between_laid at behind (one ∷ others) h tree (inl e) = subst IsLaidOut (sym e) h.1
between_laid at behind (one ∷ others) h tree (inr a) = between_laid (spans_of one).outer.after behind others h.2 tree a

pub form_laid : (span : Span) (form : ExternalForm) (f : ℕ) (parameters : List ℕ) (body : Tree) → form ≡ defines_function f parameters body → IsLaidOutForm span form → IsLaidOut body
form_laid span form f parameters body e h = between_laid span.first span.after (body ∷ []) (subst (IsLaidOutForm span) e h) body (inl refl)

pub external_laid : (at : ℕ) (externals : List External) → AreLaidOutFrom at externals → (external : External) → IsAmong external externals → IsLaidOutExternal external
external_laid at [] h external a = absurd a
external_laid at (one ∷ others) h external (inl e) = subst IsLaidOutExternal (sym e) h.1
external_laid at (one ∷ others) h external (inr a) = external_laid one.span.after others h.2 external a

-- ---- places

-- its tree stands in order, and within the full expression
abbrev IsFine : Site → Type 0
IsFine site = IsLaidOut site.tree × (is_statement (label_of site.tree) ≡ false → IsWithin (spans_of site.full) (spans_of site.tree))

abbrev AreFine : List Site → Type 0
AreFine sites = AllByRecursion IsFine sites

wholes_fine : (constant fixed : Bool) (trees : List Tree) → AllLaid trees → AreFine (map (whole constant fixed) trees)
wholes_fine constant fixed [] laid = tt
wholes_fine constant fixed (tree ∷ trees) laid = ((laid tree (inl refl), λ e. within_itself (spans_of tree)), wholes_fine constant fixed trees (λ it a. laid it (inr a)))

declarators_fine : (declared : List Declaration) (locals : List Local) → ((local : Local) → IsAmong local locals → AllLaid local.expressions) → AreFine (declarator_sites declared locals)
declarators_fine declared [] laid = tt
declarators_fine declared (one ∷ locals) laid =
    all_join IsFine (initial_sites declared one) (declarator_sites declared locals) (wholes_fine false _ one.expressions (laid one (inl refl))) (declarators_fine declared locals (λ local a. laid local (inr a)))

statement_fine : (declared : List Declaration) (label : Label) (parts : List Tree) → AllLaid parts → AreFine (statement_parts declared label parts)
statement_fine declared (declare lengths declarators) parts laid =
    all_join IsFine (map (whole true false) (take lengths parts)) (declarator_sites declared (with_expressions declarators (drop lengths parts)))
    (wholes_fine true false (take lengths parts) (λ it a. laid it (among_take lengths it parts a)))
    (declarators_fine declared (with_expressions declarators (drop lengths parts)) (λ local a it k. laid it (among_drop lengths it parts (with_one declarators (drop lengths parts) local it a k))))
statement_fine declared case [] laid = tt
statement_fine declared case (value ∷ parts) laid = ((laid value (inl refl), λ e. within_itself (spans_of value)), wholes_fine false false parts (λ it a. laid it (inr a)))
statement_fine declared label parts laid = wholes_fine false false parts laid

operands_fine : (site : Site) (label : Label) (spans : Spans) (n : ℕ) (parts : List Tree) → AllLaid parts → ((tree : Tree) → IsAmong tree parts → IsWithin (spans_of site.full) (spans_of tree)) → AreFine (operand_sites site label spans n parts)
operands_fine site label spans n [] laid inside = tt
operands_fine site label spans n (part ∷ parts) laid inside =
    ((laid part (inl refl), λ e. inside part (inl refl)), operands_fine site label spans (suc n) parts (λ it a. laid it (inr a)) (λ it a. inside it (inr a)))

module _ (declared : List Declaration) where
  parts_fine : (site : Site) (label : Label) (kind : CType) (spans : Spans) (parts : Trees) → site.tree ≡ node label kind spans parts → IsFine site → (b : Bool) → is_statement label ≡ b
      → AreFine (cond b (statement_parts declared label (listed parts)) (operand_sites site label spans 0 (listed parts)))
  parts_fine site label kind spans parts same fine true e =
      let laid = subst IsLaidOut same fine.0 in
      statement_fine declared label (listed parts) (each_laid parts laid.4)
  parts_fine site label kind spans parts same fine false e =
      let laid = subst IsLaidOut same fine.0 in
      let here : IsWithin (spans_of site.full) spans = subst (λ (it : Tree). IsWithin (spans_of site.full) (spans_of it)) same (fine.1 (ap (λ (it : Tree). is_statement (label_of it)) same ∙ e)) in
      operands_fine site label spans 0 (listed parts) (each_laid parts laid.4)
      (λ tree a. within_through (spans_of site.full) spans (spans_of tree) here (part_inside label spans (listed parts) e laid.1 (each_laid parts laid.4) laid.3 tree a))

  own_fine : (label : Label) (site : Site) → IsFine site → (b : Bool) → AreFine (cond b [] (site ∷ []))
  own_fine label site fine true = tt
  own_fine label site fine false = (fine, tt)

  mutual
    sites_fine : (tree : Tree) (site : Site) → site.tree ≡ tree → IsFine site → AreFine (sites_in declared tree site)
    sites_fine (node label kind spans parts) site same fine =
        all_join IsFine (own_site label site) (sites_below declared parts (part_sites declared site label spans (listed parts))) (own_fine label site fine (is_statement label))
        (below_fine parts (part_sites declared site label spans (listed parts)) (front-by declared site label spans parts (is_statement label)) (parts_fine site label kind spans parts same fine (is_statement label) refl))

    below_fine : (trees : Trees) (sites : List Site) → IsFront (map tree_of sites) (listed trees) → AreFine sites → AreFine (sites_below declared trees sites)
    below_fine no_trees sites front fine = tt
    below_fine (more_trees first rest) [] front fine = tt
    below_fine (more_trees first rest) (site ∷ sites) front fine =
        let whole_list : site.tree ∷ (map tree_of sites ++ front.0) ≡ first ∷ listed rest = front.1 in
        let here : site.tree ≡ first = cc in
        let behind : map tree_of sites ++ front.0 ≡ listed rest = cc in
        all_join IsFine (sites_in declared first site) (sites_below declared rest sites) (sites_fine first site here fine.0) (below_fine rest sites (front.0, behind) fine.1)

  all_fine : (sites : List Site) → AreFine sites → AreFine (all_sites declared sites)
  all_fine [] fine = tt
  all_fine (site ∷ sites) fine = all_join IsFine (sites_in declared site.tree site) (all_sites declared sites) (sites_fine site.tree site refl fine.0) (all_fine sites fine.1)

  form_fine : (span : Span) (form : ExternalForm) → IsLaidOutForm span form → AreFine (form_sites declared form)
  form_fine span (declares declarators trees) h =
      declarators_fine declared (with_expressions declarators trees) (λ local a it k. between_laid span.first span.after trees h it (with_one declarators trees local it a k))
  form_fine span (defines_function f parameters body) h = ((between_laid span.first span.after (body ∷ []) h body (inl refl), λ e. within_itself (spans_of body)), tt)

  externals_fine : (at : ℕ) (externals : List External) → AreLaidOutFrom at externals → AreFine (flat_map (external_sites declared) externals)
  externals_fine at [] h = tt
  externals_fine at (one ∷ externals) h =
      all_join IsFine (external_sites declared one) (flat_map (external_sites declared) externals)
      (all_join IsFine (map (whole true false) one.constants) (form_sites declared one.form)
      (wholes_fine true false one.constants (between_laid one.span.first one.span.after one.constants h.1.0)) (form_fine one.span one.form h.1.1))
      (externals_fine one.span.after externals h.2)

no_statement : (b : Bool) → not b ≡ true → b ≡ false
no_statement true e = absurd (false≢true e)
no_statement false e = refl

-- an expression that is found begins among the tokens of its full expression
pub argument_inside : (one : TypedUnit) → IsLaidOutUnit one → (span : Span) (argument : Site) → site_of one span ≡ Some argument
    → ((spans_of argument.full).inner.first ≤ (spans_of argument.tree).inner.first) × ((spans_of argument.tree).inner.first < (spans_of argument.full).inner.after)
argument_inside one laid span argument found =
    let here = found_has (is_site_of span) IsFine (sites_of_unit one) argument
    (all_fine one.declared (flat_map (external_sites one.declared) one.externals) (externals_fine one.declared 0 one.externals laid)) found in
    let fine = here.0 in
    let value = and_left (is_value argument.tree) (is_extent span (spans_of argument.tree)) (and_right argument.apart (stands span argument.tree) here.1) in
    let inside = fine.1 (no_statement (is_statement (label_of argument.tree)) (and_left (not (is_statement (label_of argument.tree))) (not (is_implied_conversion argument.tree)) value)) in
    let tokens = has_tokens argument.tree fine.0 in
    let first = inside.0 in let after = inside.1 in let some = tokens.1 in
    let behind : (spans_of argument.tree).inner.first < (spans_of argument.full).inner.after = omega (arith, some, after) in
    (first, behind)
