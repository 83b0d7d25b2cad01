-- No address of an object is taken in the new unit, where none is taken in the old one.
--     NotAddressed d tree      no node is & of the object's name
--     expression_unaddressed      so it is of a tree that agrees with one at its place
--     statement_unaddressed      a statement is no address
use Rattle.std.specs.Prelude.{◌≡◌, refl, ℕ, suc, ◌+◌, Bool, true, false, not, ◌==◌, List, [], ◌∷◌, length, Option, Some, None}
use Rattle.std.specs.List.{list_any, AllByRecursion}
use Rattle.std.proofs.Common.{ap, sym, ◌∙◌, subst, arith}
use Rattle.std.proofs.lemmas.Bool.{true≢false, false≢true, and_parts}
use Rattle.dm_runs.specs.declared.run.Run.{Run}
use Rattle.dm_type.specs.CTypes.{CType}
use Rattle.dm_type.specs.Tables.{Table}
use Rattle.dm_tree.specs.Paths.{all_in}
use Rattle.dm_tree.specs.Scenes.{Scene}
use Rattle.dm_tree.specs.Trees.{Label, object, function, address, call, Spans, Tree, Trees, node, no_trees, more_trees, trees_of, listed, is_statement}
use Rattle.dm_tree.specs.Typing.{Fits, inside, IsWellTyped, AreWellTyped}
use Rattle.dm_tree.specs.Units.{Declaration, TypedUnit}
use Rattle.dm_meaning.specs.Replaced.{relabelled}
use Rattle.dm_meaning.specs.Wholes.{is_expression, are_expressions}
use Rattle.dm_meaning.proofs.GrowLemmas.{equal_is}
use Rattle.dm_meaning.proofs.OptionLemmas.{none_is_some, some_is_some}
use Rattle.dm_effect.specs.Entities.{object_first, is_this, addresses_here}
use Rattle.dm_sites.specs.Sites.{Site, operand_site, operand_sites, sites_in, sites_below}
use Rattle.dm_agree.specs.Standing.{runs_below}
use Rattle.dm_agree.specs.Agreement.{Added, added_function, Rewriting, Left, standing_for, AtRun, AllLeft, Agrees, AllAgree, Passes, PassesFrom}
use Rattle.dm_told.specs.Told.{IsTold}
use Rattle.dm_standing.specs.Calls.{IsThere}
use Rattle.dm_standing.proofs.ArityLemmas.{IsDefinedAs, NamesIt, named_parts}
use Rattle.dm_standing.proofs.CallLemmas.{AllTold, own_and_parts}
use Rattle.dm_standing.proofs.RunLemmas.{all_front, all_back, StandsAt, runs_stand_below}
use Rattle.dm_standing.proofs.TypedLemmas.{inside_declared}
use Rattle.dm_steady.proofs.MetLemmas.{Keeps, IsMet, Seat, seats, there_for}
use Rattle.dm_steady.proofs.PartLemmas.{IsPartOf, inherited}
use Rattle.dm_steady.proofs.StableLemmas.{not_false, nowhere}

abbrev mutual
  pub NotAddressed : ℕ → Tree → Type 0
  NotAddressed d (node label kind spans parts) = (addresses_here d (node label kind spans parts) ≡ false) × NoneAddressed d parts

  pub NoneAddressed : ℕ → Trees → Type 0
  NoneAddressed d no_trees = Unit {0}
  NoneAddressed d (more_trees first rest) = NotAddressed d first × NoneAddressed d rest

pub unaddressed_tree : (d : ℕ) (tree : Tree) → list_any (addresses_here d) (all_in tree) ≡ false → NotAddressed d tree
unaddressed_tree d = nowhere (addresses_here d) (NotAddressed d) (NoneAddressed d) tt (λ first rest h k. (h, k)) (λ label kind spans parts e h. (e, h))

unaddressed_opens : (d : ℕ) (tree : Tree) → NotAddressed d tree → NoneAddressed d (trees_of tree)
unaddressed_opens d (node label kind spans parts) h = h.1

unaddressed_part : (d : ℕ) (part whole : Tree) → IsPartOf part whole → NotAddressed d whole → NotAddressed d part
unaddressed_part d = inherited (NotAddressed d) (NoneAddressed d) (λ first rest h. h) (unaddressed_opens d)

-- ---- names

equal_nat : (a b : ℕ) → (a == b) ≡ true → a ≡ b
equal_nat a b e = grind (arith, e)

abbrev is_object : Label → Bool
is_object (object d) = true
is_object label = false

abbrev number_of : Label → ℕ
number_of (object d) = d
number_of label = 0

first_is : (a b : Tree) (rest others : Trees) → more_trees a rest ≡ more_trees b others → a ≡ b
first_is a b rest others e = cc

rest_is : (a b : Tree) (rest others : Trees) → more_trees a rest ≡ more_trees b others → rest ≡ others
rest_is a b rest others e = cc

module _ (types : Table) (one : TypedUnit) (it : Rewriting) (new_declared : List Declaration) (f : ℕ) (parameters : List ℕ) (body : Tree) (adds : it.added ≡ added_function f parameters body)
    (defined : IsDefinedAs new_declared f parameters) (injective : (c d : ℕ) → it.rename c ≡ it.rename d → c ≡ d) (keep : AllByRecursion (Keeps types one it (length parameters)) it.runs) where
  abbrev pub Standing : Site → List Run → Type 0
  Standing site runs = AllByRecursion (StandsAt (Keeps types one it (length parameters)) site.apart site.tree) runs

  -- the object that another one is named as
  abbrev IsRenamed : ℕ → Trees → Type 0
  IsRenamed c others = (e : ℕ) × (object_first others ≡ Some e) × (c ≡ it.rename e)

  name_agrees : (c : ℕ) (label : Label) (kind : CType) (spans : Spans) (parts rest : Trees) → object c ≡ relabelled it.rename label → IsRenamed c (more_trees (node label kind spans parts) rest)
  name_agrees c (object e) kind spans parts rest h = (e, refl, ap number_of h)
  name_agrees c label kind spans parts rest h = absurd (true≢false (ap is_object h))

  object_agrees : (standing : List Run) (c : ℕ) (kind : CType) (spans : Spans) (below : Trees) (other : Tree) (rest : Trees) → Agrees it standing (node (object c) kind spans below) other → IsRenamed c (more_trees other rest)
  object_agrees [] c kind spans below (node other other_kind other_spans others) rest h = name_agrees c other other_kind other_spans others rest h.0.0
  object_agrees (run ∷ inner) c kind spans below other rest h =
      let at = subst (λ (added : Added). AtRun it added run inner (object c) kind below other (Passes it below run inner other)) adds h in absurd (true≢false (ap is_object at.0.0))

  first_named : (label : Label) (spans : Spans) (parts others : Trees) → AllAgree it label spans parts others → (c : ℕ) → object_first parts ≡ Some c → IsRenamed c others
  first_named label spans no_trees others h c e = absurd (none_is_some c e)
  first_named label spans (more_trees first rest) no_trees h c e = absurd h
  first_named label spans (more_trees (node (object d) kind named_spans below) rest) (more_trees other others) h c e =
      subst (λ (n : ℕ). IsRenamed n (more_trees other others)) (some_is_some d c e) (object_agrees (runs_below it.runs label spans other) d kind named_spans below other others h.0)
  first_named label spans (more_trees (node first_label kind named_spans below) rest) (more_trees other others) h c e = absurd (none_is_some c e)

  unaddressed_here : (d : ℕ) (other : Label) (kind other_kind : CType) (spans other_spans : Spans) (parts others : Trees) → ((c : ℕ) → object_first parts ≡ Some c → IsRenamed c others)
      → addresses_here d (node other other_kind other_spans others) ≡ false → addresses_here (it.rename d) (node (relabelled it.rename other) kind spans parts) ≡ false
  unaddressed_here d address kind other_kind spans other_spans parts others names h = by_found (object_first parts) refl
    where
      by_test : (c : ℕ) → IsRenamed c others → (b : Bool) → (c == it.rename d) ≡ b → b ≡ false
      by_test c named true e =
          let same = injective named.0 d (sym named.2 ∙ equal_nat c (it.rename d) e) in
          absurd (true≢false (sym (equal_is named.0 d same) ∙ (sym (ap (is_this d) named.1) ∙ h)))
      by_test c named false e = refl

      by_found : (found : Option ℕ) → object_first parts ≡ found → is_this (it.rename d) found ≡ false
      by_found None e = refl
      by_found (Some c) e = by_test c (names c e) (c == it.rename d) refl
  unaddressed_here d other kind other_kind spans other_spans parts others names h = refl

  -- a call is no address
  call_unaddressed : (d : ℕ) (label : Label) (kind : CType) (spans : Spans) (parts : Trees) → label ≡ call → addresses_here d (node label kind spans parts) ≡ false
  call_unaddressed d label kind spans parts e = ap (λ (l : Label). addresses_here d (node l kind spans parts)) e

  -- ---- trees

  abbrev IsUnaddressed : List Run → Tree → Tree → Site → Scene → Type 0
  IsUnaddressed standing tree other site scene =
      scene.declared ≡ new_declared → site.tree ≡ other → is_expression other ≡ true → AllTold one (sites_in one.declared other site) → Standing site standing → IsWellTyped scene tree → Agrees it standing tree other
      → (d : ℕ) → NotAddressed d other → NotAddressed (it.rename d) tree

  -- an argument agrees with what stands at an occurrence
  argument_unaddressed : (run : Run) (inner : List Run) (other : Tree) (site : Site) (met : IsMet types one it parameters body keep run inner other site) (first : Tree) (scene : Scene)
      → ((standing : List Run) (was : Tree) (place : Site) → IsUnaddressed standing first was place scene) → scene.declared ≡ new_declared → IsWellTyped scene first
      → (d : ℕ) → NotAddressed d other → (n : ℕ) (lefts : List Left) → IsThere lefts → AllByRecursion (Seat types one it parameters body keep run inner other site met n) lefts
      → AllLeft (λ runs tree. Agrees it runs first tree) lefts → NotAddressed (it.rename d) first
  argument_unaddressed run inner other site met first scene into e typed d h n [] some seated agree = absurd some
  argument_unaddressed run inner other site met first scene into e typed d h n (left ∷ lefts) some seated agree =
      let seat = seated.0 in
      into left.runs left.tree seat.place e seat.same seat.expression seat.told seat.standing typed agree.0 d (unaddressed_part d left.tree other (record { way = seat.way; leads = seat.leads }) h)

  mutual
    pub expression_unaddressed : (standing : List Run) (tree other : Tree) (site : Site) (scene : Scene) → scene.declared ≡ new_declared → site.tree ≡ other → is_expression other ≡ true
        → AllTold one (sites_in one.declared other site) → Standing site standing → IsWellTyped scene tree → Agrees it standing tree other → (d : ℕ) → NotAddressed d other → NotAddressed (it.rename d) tree
    expression_unaddressed [] (node label kind spans parts) (node other other_kind other_spans others) site scene e same expression told stand typed h d none =
        let plain = and_parts (not (is_statement other)) (are_expressions others) expression in
        let places = own_and_parts one other other_kind other_spans others site (not_false (is_statement other) plain.0) told in (
          subst (λ (l : Label). addresses_here (it.rename d) (node l kind spans parts) ≡ false) (sym h.0.0)
              (unaddressed_here d other kind other_kind spans other_spans parts others (first_named other other_spans parts others h.1) none.0),
          parts_unaddressed other other_spans site 0 parts others (inside scene label (listed parts)) (inside_declared scene label (listed parts) ∙ e) plain.1 places.1 typed.1 h.1 d none.1,
        )
    expression_unaddressed (run ∷ inner) (node label kind spans parts) (node other other_kind other_spans others) site scene e same expression told stand typed h d none =
        let old = node other other_kind other_spans others in
        let plain = and_parts (not (is_statement other)) (are_expressions others) expression in
        let places = own_and_parts one other other_kind other_spans others site (not_false (is_statement other) plain.0) told in
        let at = subst (λ (added : Added). AtRun it added run inner label kind parts old (Passes it parts run inner old)) adds h in
        let names_it = named_parts new_declared f parameters defined scene e kind parts at.0.2
        (subst (λ (l : Label). Fits scene l kind (listed parts)) at.0.0 typed.0) (subst (λ (l : Label). AreWellTyped (inside scene l (listed parts)) parts) at.0.0 typed.1) in
        let met : IsMet types one it parameters body keep run inner old site =
        record { same = same; expression = expression; told = told; own = places.0; keeps = stand.0; inner_stand = stand.1; body_same = at.0.3 } in (
          call_unaddressed (it.rename d) label kind spans parts at.0.0,
          pass_unaddressed run inner old site met parts (inside scene label (listed parts)) (inside_declared scene label (listed parts) ∙ e) names_it typed.1 at.1 d none,
        )

    parts_unaddressed : (label : Label) (spans : Spans) (above : Site) (from : ℕ) (trees others : Trees) (scene : Scene) → scene.declared ≡ new_declared → are_expressions others ≡ true
        → AllTold one (sites_below one.declared others (operand_sites above label spans from (listed others))) → AreWellTyped scene trees → AllAgree it label spans trees others
        → (d : ℕ) → NoneAddressed d others → NoneAddressed (it.rename d) trees
    parts_unaddressed label spans above from no_trees others scene e expressions told typed h d none = tt
    parts_unaddressed label spans above from (more_trees first rest) no_trees scene e expressions told typed h d none = absurd h
    parts_unaddressed label spans above from (more_trees first rest) (more_trees other others) scene e expressions told typed h d none =
        let plain = and_parts (is_expression other) (are_expressions others) expressions in
        let here = operand_site above label spans from other in
        let behind = sites_below one.declared others (operand_sites above label spans (suc from) (listed others)) in (
          expression_unaddressed (runs_below it.runs label spans other) first other here scene e refl plain.0
              (all_front (IsTold one) (sites_in one.declared other here) behind told) (runs_stand_below (Keeps types one it (length parameters)) it.runs label spans other keep) typed.0 h.0 d none.0,
          parts_unaddressed label spans above (suc from) rest others scene e plain.1 (all_back (IsTold one) (sites_in one.declared other here) behind told) typed.1 h.1 d none.1,
        )

    pass_unaddressed : (run : Run) (inner : List Run) (other : Tree) (site : Site) (met : IsMet types one it parameters body keep run inner other site) (parts : Trees) (scene : Scene) → scene.declared ≡ new_declared
        → NamesIt f (length parameters) parts → AreWellTyped scene parts → Passes it parts run inner other → (d : ℕ) → NotAddressed d other → NoneAddressed (it.rename d) parts
    pass_unaddressed run inner other site met no_trees scene e names_it typed h d none = absurd h
    pass_unaddressed run inner other site met (more_trees named arguments) scene e names_it typed h d none =
        let name = node (function f) names_it.named_kind names_it.named_spans no_trees in
        let count = ap (λ (ts : Trees). length (listed ts)) (rest_is named name arguments names_it.arguments names_it.are) ∙ names_it.as_many in (
          subst (NotAddressed (it.rename d)) (sym (first_is named name arguments names_it.arguments names_it.are)) (refl, tt),
          passed_unaddressed run inner other site met 0 arguments (omega (arith, count)) scene e typed.1 h d none,
        )

    passed_unaddressed : (run : Run) (inner : List Run) (other : Tree) (site : Site) (met : IsMet types one it parameters body keep run inner other site) (n : ℕ) (trees : Trees)
        → n + length (listed trees) ≡ length parameters → (scene : Scene) → scene.declared ≡ new_declared → AreWellTyped scene trees → PassesFrom it n trees run inner other
        → (d : ℕ) → NotAddressed d other → NoneAddressed (it.rename d) trees
    passed_unaddressed run inner other site met n no_trees count scene e typed h d none = tt
    passed_unaddressed run inner other site met n (more_trees first rest) count scene e typed h d none =
        let more : length (first ∷ listed rest) ≡ suc (length (listed rest)) = refl in (
          argument_unaddressed run inner other site met first scene (λ standing was place. expression_unaddressed standing first was place scene) e typed.0 d none n (standing_for it run inner n other)
              (there_for types one it parameters body keep run inner other site met n (omega (arith, count, more))) (seats types one it parameters body keep run inner other site met n) h.0,
          passed_unaddressed run inner other site met (suc n) rest (omega (arith, count, more)) scene e typed.1 h.1 d none,
        )

-- ---- statements

pub statement_unaddressed : (rename : ℕ → ℕ) (d : ℕ) (label : Label) (kind : CType) (spans : Spans) (parts : Trees) → is_statement label ≡ true → addresses_here d (node (relabelled rename label) kind spans parts) ≡ false
statement_unaddressed rename d address kind spans parts e = absurd (false≢true e)
statement_unaddressed rename d label kind spans parts e = refl
