-- The expression of the added function beside a run's tree, with the places of that.
--     Claim tree other site standing      a parameter isn't read in a tree, and no argument of it stands in the run's; or it is read once, at the
--         argument's place, and first if that is first
--     body_once      so it is of each tree of the expression
use Rattle.std.specs.Prelude.{◌≡◌, refl, ℕ, zero, suc, ◌+◌, Bool, true, false, not, ◌==◌, IsTrue, List, [], ◌∷◌, ◌++◌, drop, length, Option, Some, None, slice_get, if◌then◌else◌}
use Rattle.std.specs.List.{AllByRecursion}
use Rattle.std.proofs.Common.{ap, ap₂, sym, ◌∙◌, subst, arith, append_assoc, append-nil, inl, inr}
use Rattle.std.proofs.lemmas.Bool.{true≢false, false≢true, and_parts}
use Rattle.dm_token.specs.declared.place.Span.{Span}
use Rattle.dm_runs.specs.declared.run.Occurrence.{Occurrence}
use Rattle.dm_runs.specs.declared.run.Run.{Run}
use Rattle.dm_type.specs.CTypes.{CType}
use Rattle.dm_tree.specs.Paths.{Path, tree_in}
use Rattle.dm_tree.specs.Scenes.{Scene}
use Rattle.dm_tree.specs.Trees.{Label, object, function, read, convert, both, either, choose, comma, call, sizeof_tree, sizeof_kind, Spans, Tree, Trees, node, no_trees, more_trees, listed, is_statement}
use Rattle.dm_tree.specs.Typing.{Fits, FitsExpression, inside, IsWellTyped, AreWellTyped}
use Rattle.dm_tree.specs.Units.{TypedUnit}
use Rattle.dm_meaning.specs.CalledWithAll.{times_here, times_named, times_named_in}
use Rattle.dm_meaning.specs.Replaced.{relabelled}
use Rattle.dm_meaning.specs.Running.{Open, every, only_first, first_open, others_open, open_of}
use Rattle.dm_meaning.specs.Wholes.{is_expression, are_expressions}
use Rattle.dm_meaning.proofs.GrowLemmas.{equal_is}
use Rattle.dm_meaning.proofs.OptionLemmas.{none_is_some, some_is_some}
use Rattle.dm_effect.specs.Entities.{object_first, passes}
use Rattle.dm_effect.specs.Sequencing.{comes_first, is_first}
use Rattle.dm_sites.specs.Sites.{Site, operand_site, operand_sites, sites_in, sites_below, site_of}
use Rattle.dm_agree.specs.Agreement.{Rewriting, IsReadOf, here_below, Left, left_at, SameBody, SameBodies, standing_in, standing_below}
use Rattle.dm_central.specs.Arguments.{ReadsFirst, ReadsFirstBelow}
use Rattle.dm_told.specs.Told.{IsTold}
use Rattle.dm_standing.specs.Calls.{IsThere}
use Rattle.dm_standing.proofs.CallLemmas.{AllTold, own_and_parts}
use Rattle.dm_standing.proofs.RunLemmas.{all_front, all_back}
use Rattle.dm_steady.proofs.OccurrenceLemmas.{IsOnly, OccursAt, occurrences_stand_below}

not_true : (b : Bool) → not b ≡ true → b ≡ false
not_true true e = absurd (false≢true e)
not_true false e = refl

equal_nat : (a b : ℕ) → (a == b) ≡ true → a ≡ b
equal_nat a b e = grind (arith, e)

cancelled : {A : Type 0} (front one other : List A) → front ++ one ≡ front ++ other → one ≡ other
cancelled [] one other e = e
cancelled (x ∷ front) one other e = cancelled front one other (cc)

pub behind_front : {A : Type 0} (front rest : List A) → drop (length front) (front ++ rest) ≡ rest
behind_front [] [] = refl
behind_front [] (x ∷ rest) = refl
behind_front (y ∷ front) rest = behind_front front rest

same_head : (a b : ℕ) (xs ys : List ℕ) → a ∷ xs ≡ b ∷ ys → a ≡ b
same_head a b xs ys e = cc

-- ---- which operands may be evaluated

abbrev pub OpenAt : Open → ℕ → Type 0
OpenAt opens zero = IsTrue (first_open opens)
OpenAt opens (suc k) = OpenAt (others_open opens) k

every_open : (k : ℕ) → OpenAt every k
every_open zero = refl
every_open (suc k) = every_open k

first_alone : (k : ℕ) → (k == 0) ≡ true → OpenAt only_first k
first_alone zero e = refl
first_alone (suc k) e = let same = equal_nat (suc k) 0 e in absurd (omega (arith, same))

pub comes_open : (label : Label) (k : ℕ) → comes_first label k ≡ true → (label ≡ call → k ≡ 0 → ⊥) → OpenAt (open_of label) k
comes_open both k e unless = first_alone k e
comes_open either k e unless = first_alone k e
comes_open choose k e unless = first_alone k e
comes_open comma k e unless = first_alone k e
comes_open convert k e unless = first_alone k e
comes_open sizeof_tree k e unless = absurd (false≢true e)
comes_open (sizeof_kind type) k e unless = absurd (false≢true e)
comes_open call zero e unless = absurd (unless refl refl)
comes_open call (suc k) e unless = every_open k
comes_open label k e unless = every_open k

pub same_open : (rename : ℕ → ℕ) (label : Label) → open_of (relabelled rename label) ≡ open_of label
same_open rename both = refl
same_open rename label = refl

-- ---- reads of parameters

abbrev pub IsNamed : ℕ → CType → Trees → Type 0
IsNamed d kind parts = (named_kind : CType) × (named_spans : Spans) × (parts ≡ more_trees (node (object d) named_kind named_spans no_trees) no_trees)

pub read_parts : (scene : Scene) (kind : CType) (parts : Trees) (d : ℕ) → FitsExpression scene read kind (listed parts) → AreWellTyped (inside scene read (listed parts)) parts
    → object_first parts ≡ Some d → IsNamed d kind parts
read_parts scene kind (more_trees (node (object e) named_kind named_spans no_trees) no_trees) d fits typed first =
    (named_kind, named_spans, ap (λ (n : ℕ). more_trees (node (object n) named_kind named_spans no_trees) no_trees) (some_is_some e d first))
read_parts scene kind (more_trees (node (object e) named_kind named_spans (more_trees below others)) no_trees) d fits typed first = absurd typed.0.0
read_parts scene kind (more_trees (node (object e) named_kind named_spans below) (more_trees second rest)) d fits typed first = absurd fits
read_parts scene kind (more_trees (node label named_kind named_spans below) rest) d fits typed first = absurd (none_is_some d first)
read_parts scene kind no_trees d fits typed first = absurd (none_is_some d first)

-- the function's name in a call names no object
call_head : (p : ℕ) (scene : Scene) (kind : CType) (parts : Trees) (part : Tree) → FitsExpression scene call kind (listed parts) → tree_in parts 0 ≡ Some part → times_named p part ≡ 1 → ⊥
call_head p scene kind (more_trees (node (function at) type spans no_trees) rest) part fits is once =
    let same = some_is_some (node (function at) type spans no_trees) part is in
    let none : times_named p (node (function at) type spans no_trees) ≡ 0 = refl in
    let both : 0 ≡ 1 = sym none ∙ (ap (times_named p) same ∙ once) in omega (arith, both)
call_head p scene kind (more_trees (node (function at) type spans (more_trees below others)) rest) part fits is once = absurd fits
call_head p scene kind (more_trees (node label type spans below) rest) part fits is once = absurd fits
call_head p scene kind no_trees part fits is once = absurd fits

module _ (one : TypedUnit) (it : Rewriting) (parameters : List ℕ) (run : Run) (n p : ℕ) (parameter : slice_get parameters n ≡ Some p)
    (distinct : (m : ℕ) → slice_get parameters m ≡ Some p → m ≡ n) (only : Span) (argument : Site) (found : site_of one only ≡ Some argument)
    (apart : (d : ℕ) → it.rename d ≡ p → ⊥) (occurs : AllByRecursion (IsOnly n only) run.occurrences) where
  abbrev pub Occurring : Site → List Occurrence → Type 0
  Occurring site all = AllByRecursion (OccursAt (IsOnly n only) site.apart site.tree) all

  pub data Claim (tree other : Tree) (site : Site) (standing : List Left) : Type 0 where
    never : times_named p tree ≡ 0 → standing ≡ [] → Claim tree other site standing
    once : times_named p tree ≡ 1 → (way : Path) → argument.path ≡ site.path ++ way → (is_first way other ≡ true → ReadsFirst p tree) → Claim tree other site standing

  data Claims (trees others : Trees) (above : Site) (from : ℕ) (standing : List Left) : Type 0 where
    none : times_named_in p trees ≡ 0 → standing ≡ [] → Claims trees others above from standing
    in_one : times_named_in p trees ≡ 1 → (k : ℕ) → (way : Path) → (part part_other : Tree) → tree_in trees k ≡ Some part → times_named p part ≡ 1 → tree_in others k ≡ Some part_other
        → argument.path ≡ above.path ++ (from + k) ∷ way → ((opens : Open) → OpenAt opens k → is_first way part_other ≡ true → ReadsFirstBelow p opens trees) → Claims trees others above from standing

  -- ---- an occurrence

  other_object : (d : ℕ) → (it.rename d == p) ≡ false
  other_object d = by_test (it.rename d == p) refl
    where
      by_test : (b : Bool) → (it.rename d == p) ≡ b → (it.rename d == p) ≡ false
      by_test true e = absurd (apart d (equal_nat (it.rename d) p e))
      by_test false e = e

  times_moved : (label : Label) → times_here p (relabelled it.rename label) ≡ 0
  times_moved (object d) = ap (λ (b : Bool). if b then 1 else 0) (other_object d)
  times_moved label = refl

  named_of : (scene : Scene) (label : Label) (kind : CType) (parts : Trees) (d : ℕ) → label ≡ read → Fits scene label kind (listed parts) → AreWellTyped (inside scene label (listed parts)) parts
      → object_first parts ≡ Some d → IsNamed d kind parts
  named_of scene label kind parts d is fits typed first =
      read_parts scene kind parts d (subst (λ (l : Label). Fits scene l kind (listed parts)) is fits) (subst (λ (l : Label). AreWellTyped (inside scene l (listed parts)) parts) is typed) first

  abbrev reading : ℕ → CType → CType → Spans → Spans → Tree
  reading d kind named_kind spans named_spans = node read kind spans (more_trees (node (object d) named_kind named_spans no_trees) no_trees)

  times_read : (d : ℕ) (kind named_kind : CType) (spans named_spans : Spans) (b : Bool) → (d == p) ≡ b → times_named p (reading d kind named_kind spans named_spans) ≡ (if b then 1 else 0)
  times_read d kind named_kind spans named_spans b e =
      let inner : times_named p (reading d kind named_kind spans named_spans) ≡ (if d == p then 1 else 0) = omega arith in
      inner ∙ ap (λ (c : Bool). if c then 1 else 0) e

  not_here : (one_here : Occurrence) (runs : List Run) (other : Tree) → (one_here.parameter ≡ n → ⊥) → (b : Bool) → (one_here.parameter == n) ≡ b
      → ◌≡◌ {A = List Left} (if b then record { runs = runs; tree = other } ∷ [] else []) []
  not_here one_here runs other differs true e = absurd (differs (equal_nat one_here.parameter n e))
  not_here one_here runs other differs false e = refl

  at_object : (one_here : Occurrence) (others_here : List Occurrence) (runs : List Run) (tree other : Tree) (kind named_kind : CType) (spans named_spans : Spans) (below : List Left) (site : Site)
      → IsTold one site → Occurring site (one_here ∷ others_here) → (d : ℕ) → slice_get parameters one_here.parameter ≡ Some d → tree ≡ reading d kind named_kind spans named_spans
      → (b : Bool) → (d == p) ≡ b → Claim tree other site (left_at n (one_here ∷ others_here) runs other below)
  at_object one_here others_here runs tree other kind named_kind spans named_spans below site told here d is tree_is true e =
      let same = equal_nat d p e in
      let number = distinct one_here.parameter (is ∙ ap Some same) in
      let span = here.0.0 number in
      let place = some_is_some argument site (sym found ∙ (ap (site_of one) (sym span) ∙ told one_here.span here.0.1 here.0.2)) in
      once (ap (times_named p) tree_is ∙ times_read d kind named_kind spans named_spans true e) [] (ap (λ (s : Site). s.path) place ∙ sym (append-nil site.path))
      (λ first.
      subst (ReadsFirst p) (sym (tree_is ∙ ap (λ (m : ℕ). reading m kind named_kind spans named_spans) same))
      (inl (record { kind = kind; spans = spans; named_kind = named_kind; named_spans = named_spans; is = refl })))
  at_object one_here others_here runs tree other kind named_kind spans named_spans below site told here d is tree_is false e =
      never (ap (times_named p) tree_is ∙ times_read d kind named_kind spans named_spans false e)
      (not_here one_here runs other (λ number.
      let both = some_is_some d p (sym is ∙ (ap (slice_get parameters) number ∙ parameter)) in
      true≢false (sym (equal_is d p both) ∙ e)) (one_here.parameter == n) refl)

  at_read : (one_here : Occurrence) (others_here : List Occurrence) (runs : List Run) (label : Label) (kind : CType) (spans : Spans) (parts : Trees) (other : Tree) (below : List Left) (site : Site)
      (scene : Scene) → IsTold one site → Occurring site (one_here ∷ others_here) → Fits scene label kind (listed parts) → AreWellTyped (inside scene label (listed parts)) parts
      → (d : Option ℕ) → slice_get parameters one_here.parameter ≡ d → IsReadOf d label kind parts other
      → Claim (node label kind spans parts) other site (left_at n (one_here ∷ others_here) runs other below)
  at_read one_here others_here runs label kind spans parts other below site scene told here fits typed None is h = absurd h
  at_read one_here others_here runs label kind spans parts other below site scene told here fits typed (Some d) is h =
      let named = named_of scene label kind parts d h.0 fits typed h.2 in
      at_object one_here others_here runs (node label kind spans parts) other kind named.0 spans named.1 below site told here d is
      (ap₂ (λ (l : Label) (ps : Trees). node l kind spans ps) h.0 named.2) (d == p) refl

  -- ---- a node, by its parts

  at_node : (label other : Label) (kind other_kind : CType) (spans other_spans : Spans) (parts others : Trees) (site : Site) (scene : Scene) → label ≡ relabelled it.rename other
      → Fits scene label kind (listed parts) → (standing : List Left) → Claims parts others site 0 standing
      → Claim (node label kind spans parts) (node other other_kind other_spans others) site standing
  at_node label other kind other_kind spans other_spans parts others site scene e fits standing (none times nothing_stands) =
      let here : times_here p label ≡ 0 = ap (times_here p) e ∙ times_moved other in
      never (omega (arith, here, times)) nothing_stands
  at_node label other kind other_kind spans other_spans parts others site scene e fits standing (in_one times k way part part_other at at_once there path reads) =
      let here : times_here p label ≡ 0 = ap (times_here p) e ∙ times_moved other in
      let number : 0 + k ≡ k = omega arith in
      once (omega (arith, here, times)) (k ∷ way) (path ∙ ap (λ (m : ℕ). site.path ++ m ∷ way) number)
      (λ first.
      let both = and_parts (comes_first other k) (passes (is_first way) (tree_in others k)) first in
      let opens = comes_open other k both.0 (λ is zero_is.
      call_head p scene kind parts part (subst (λ (l : Label). Fits scene l kind (listed parts)) (e ∙ ap (relabelled it.rename) is) fits) (ap (tree_in parts) (sym zero_is) ∙ at) at_once) in
      inr (reads (open_of label) (subst (λ (o : Open). OpenAt o k) (sym (ap open_of e ∙ same_open it.rename other)) opens) (sym (ap (passes (is_first way)) there) ∙ both.1)))

  -- ---- parts one behind the other

  add_part : (first other : Tree) (rest others : Trees) (above : Site) (label : Label) (spans : Spans) (from : ℕ) (standing standing_behind : List Left)
      → Claim first other (operand_site above label spans from other) standing → Claims rest others above (suc from) standing_behind
      → Claims (more_trees first rest) (more_trees other others) above from (standing ++ standing_behind)
  add_part first other rest others above label spans from standing standing_behind (never times nothing_stands) (none times_behind nothing_behind) =
      none (omega (arith, times, times_behind)) (ap₂ (λ (a b : List Left). a ++ b) nothing_stands nothing_behind)
  add_part first other rest others above label spans from standing standing_behind (never times nothing_stands) (in_one times_behind k way part part_other at at_once there path reads) =
      let number : suc from + k ≡ from + suc k = omega arith in
      in_one (omega (arith, times, times_behind)) (suc k) way part part_other at at_once there (path ∙ ap (λ (m : ℕ). above.path ++ m ∷ way) number)
      (λ opens may first_is. inr (reads (others_open opens) may first_is))
  add_part first other rest others above label spans from standing standing_behind (once times way path reads) (none times_behind nothing_behind) =
      let number : from ≡ from + 0 = omega arith in
      in_one (omega (arith, times, times_behind)) 0 way first other refl times refl
      (path ∙ (append_assoc above.path (from ∷ []) way ∙ ap (λ (m : ℕ). above.path ++ m ∷ way) number))
      (λ opens may first_is. inl (may, reads first_is))
  add_part first other rest others above label spans from standing standing_behind (once times way path reads) (in_one times_behind k another part part_other at at_once there path_behind reads_behind) =
      let same = same_head from (suc from + k) way another
      (cancelled above.path (from ∷ way) ((suc from + k) ∷ another) (sym (path ∙ append_assoc above.path (from ∷ []) way) ∙ path_behind)) in
      absurd (omega (arith, same))

  -- ---- trees

  mutual
    pub body_once : (occurrences : List Occurrence) (runs : List Run) (tree other : Tree) (site : Site) (scene : Scene) → site.tree ≡ other → is_expression other ≡ true
        → AllTold one (sites_in one.declared other site) → Occurring site occurrences → IsWellTyped scene tree
        → SameBody it parameters run (record { occurrences = occurrences; runs = runs }) tree other
        → Claim tree other site (standing_in it run n (record { occurrences = occurrences; runs = runs }) other)
    body_once [] [] (node label kind spans parts) (node other other_kind other_spans others) site scene same expression told here typed h =
        let plain = and_parts (not (is_statement other)) (are_expressions others) expression in
        let places = own_and_parts one other other_kind other_spans others site (not_true (is_statement other) plain.0) told in
        at_node label other kind other_kind spans other_spans parts others site scene h.0.0 typed.0 (standing_below it run n other other_spans others)
        (bodies_once other other_spans site 0 parts others (inside scene label (listed parts)) plain.1 places.1 typed.1 h.1)
    body_once [] (another ∷ runs) (node label kind spans parts) (node other other_kind other_spans others) site scene same expression told here typed h = absurd h
    body_once (one_here ∷ others_here) runs (node label kind spans parts) (node other other_kind other_spans others) site scene same expression told here typed h =
        let plain = and_parts (not (is_statement other)) (are_expressions others) expression in
        let places = own_and_parts one other other_kind other_spans others site (not_true (is_statement other) plain.0) told in
        at_read one_here others_here runs label kind spans parts (node other other_kind other_spans others) (standing_below it run n other other_spans others) site scene places.0 here typed.0 typed.1
        (slice_get parameters one_here.parameter) refl h

    bodies_once : (label : Label) (spans : Spans) (above : Site) (from : ℕ) (trees others : Trees) (scene : Scene) → are_expressions others ≡ true
        → AllTold one (sites_below one.declared others (operand_sites above label spans from (listed others))) → AreWellTyped scene trees
        → SameBodies it parameters run label spans trees others → Claims trees others above from (standing_below it run n label spans others)
    bodies_once label spans above from no_trees no_trees scene expressions told typed h = none refl refl
    bodies_once label spans above from no_trees (more_trees other others) scene expressions told typed h = absurd h
    bodies_once label spans above from (more_trees first rest) no_trees scene expressions told typed h = absurd h
    bodies_once label spans above from (more_trees first rest) (more_trees other others) scene expressions told typed h =
        let plain = and_parts (is_expression other) (are_expressions others) expressions in
        let here = operand_site above label spans from other in
        let behind = sites_below one.declared others (operand_sites above label spans (suc from) (listed others)) in
        let below = here_below it run label spans other in
        add_part first other rest others above label spans from (standing_in it run n below other) (standing_below it run n label spans others)
        (body_once below.occurrences below.runs first other here scene refl plain.0 (all_front (IsTold one) (sites_in one.declared other here) behind told)
        (occurrences_stand_below (IsOnly n only) run.occurrences label spans other occurs) typed.0 h.0)
        (bodies_once label spans above (suc from) rest others scene plain.1 (all_back (IsTold one) (sites_in one.declared other here) behind told) typed.1 h.1)

  -- ---- the whole expression

  pub concluded : (tree other : Tree) (site : Site) (standing : List Left) → Claim tree other site standing → IsThere standing
      → is_first (drop (length site.path) argument.path) other ≡ true → (times_named p tree ≡ 1) × ReadsFirst p tree
  concluded tree other site standing (never times nothing_stands) there first = absurd (subst IsThere nothing_stands there)
  concluded tree other site standing (once times way path reads) there first =
      (times, reads (subst (λ (w : Path). is_first w other ≡ true) (ap (drop (length site.path)) path ∙ behind_front site.path way) first))
