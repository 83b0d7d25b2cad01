-- The steps of the code through the external declarations of a unit.
use Rattle.std.specs.Prelude.{◌≡◌, true, List, [], ◌∷◌, ◌++◌, length, map, All, Ok, Err, slice_index_or, refl}
use Rattle.std.specs.List.{list_all}
use Rattle.std.proofs.Common.{sym, ap, ◌∙◌, append-nil, append_assoc}
use Rattle.std.proofs.lemmas.Bool.{and_from, and_parts}
use Rattle.std.proofs.lemmas.List.{map-append}
use Rattle.std.proofs.lemmas.List.Elements.{All-head, All-tail, All-push}
use Rattle.dm_token.specs.declared.place.Span.{Span}
use Rattle.dm_token.specs.declared.stop.Stop.{Stop}
use Rattle.dm_type.specs.declared.shape.Shape.{Shape}
use Rattle.dm_type.specs.Tables.{Table}
use Rattle.dm_syn.specs.declared.statement.External.{External as Node}
use Rattle.dm_syn.specs.Trees.{Declaration}
use Rattle.dm_syn.specs.Trees as tree
use Rattle.dm_syn.specs.Views as syntax
use Rattle.dm_tree.specs.declared.tree.Core.{Core}
use Rattle.dm_tree.specs.declared.tree.Local.{Local}
use Rattle.dm_tree.specs.declared.unit.CoreExternal.{CoreExternal}
use Rattle.dm_tree.specs.declared.unit.CoreExternalForm.{CoreExternalForm}
use Rattle.dm_tree.specs.declared.unit.CoreExternalForm.TheVariants.{Declaration as DeclarationForm, Function}
use Rattle.dm_tree.specs.TypeNumbers.{are_known, are_known_in_local, form_has_known}
use Rattle.dm_tree.specs.Units.{External, declares}
use Rattle.dm_typing.specs.Known.{Setting}
use Rattle.dm_typing.specs.Views.{Begins}
use Rattle.dm_typing.proofs.LaterLemmas.{known-later}
use Rattle.dm_edecl.specs.Standing.{Standing, Progress, goes_on, stops, further}
use Rattle.dm_edecl.specs.Declaring.{Declared, declarators_of, expressions_of, typed_declaration}
use Rattle.dm_edecl.specs.Units.{external_of, typed_external, typed_externals}
use Rattle.dm_estanding.specs.declared.standing.Standing.{Standing as Held}
use Rattle.dm_estanding.specs.Proceeding.{Proceeds}
use Rattle.dm_estanding.proofs.ProceedingLemmas.{Arrives, starts, restated, passes, fails, done}
use Rattle.dm_edeclaration.specs.declared.items.TypedLocals.{TypedLocals}
use Rattle.dm_edeclaration.specs.Steps.{LocalFits, Together, items_over, ItemsFit, summed}
use Rattle.dm_edeclaration.proofs.StepLemmas.{local-later}
use Rattle.dm_eunit.specs.Functions.{external_over, ExternalFits, externals_over, ExternalsFit}
use Rattle.dm_eunit.proofs.FunctionLemmas.{list-known}

-- ---- declarations

outside-is : (setting : Setting) (s : Standing) (span : Span) (declaration : Declaration)
    → typed_external setting s (tree.external span declaration)
    ≡ further (summed (typed_declaration setting s declaration)) (λ behind one. goes_on behind (external_of span one.constants (declares one.declarators one.expressions)))
outside-is setting s span declaration = go (typed_declaration setting s declaration)
  where
    go : (progress : Progress Declared)
        → further progress (λ behind one. goes_on behind (external_of span one.constants (declares (declarators_of one.locals) (expressions_of one.locals))))
        ≡ further (summed progress) (λ behind one. goes_on behind (external_of span one.constants (declares one.declarators one.expressions)))
    go (goes_on behind one) = refl
    go (stops rule at) = refl

locals-known : (types : Table) (locals : List Local) → All (LocalFits types) locals → list_all (are_known_in_local (length types.shapes)) locals ≡ true
locals-known types [] all = refl
locals-known types (local ∷ locals) all =
    and_from (are_known_in_local (length types.shapes) local) (list_all (are_known_in_local (length types.shapes)) locals) (All-head (LocalFits types) local locals all)
    (locals-known types locals (All-tail (LocalFits types) local locals all))

module _ (setting : Setting) (span : Span) (declaration : Declaration) (now new : Held) where
  abbrev pub outside-whole : List Shape → Standing → Progress External
  outside-whole later before = typed_external setting before (tree.external span declaration)

  abbrev outside-run : List Shape → Standing → Progress Together
  outside-run later before = summed (typed_declaration setting before declaration)

  abbrev outside-ends : List Shape → Standing → Together → Progress External
  outside-ends later behind one = goes_on behind (external_of span one.constants (declares one.declarators one.expressions))

  outside-starts : Arrives now now outside-whole (λ later behind. further (outside-run later behind) (outside-ends later))
  outside-starts = starts now outside-whole (λ later behind. further (outside-run later behind) (outside-ends later)) (λ later before stands lawful. outside-is setting before span declaration)

  pub outside-fails : (fault : Stop) → Proceeds ItemsFit items_over setting.source now new (Err fault) outside-run → Proceeds ExternalFits external_over setting.source now new (Err fault) outside-whole
  outside-fails fault p = fails ItemsFit items_over setting.source now now new outside-whole ExternalFits external_over outside-run outside-ends fault outside-starts p

  pub outside-made : (typed : TypedLocals) → Proceeds ItemsFit items_over setting.source now new (Ok typed) outside-run
      → Proceeds ExternalFits external_over setting.source now new (Ok (record { span = span; constants = typed.constants; form = DeclarationForm typed.locals })) outside-whole
  outside-made typed p =
      done ExternalFits external_over setting.source now new outside-whole (record { span = span; constants = typed.constants; form = DeclarationForm typed.locals })
      (passes ItemsFit items_over setting.source now now new outside-whole outside-run outside-ends typed outside-starts p)
      (and_from (list_all (are_known (length new.known.types.shapes)) typed.constants) (list_all (are_known_in_local (length new.known.types.shapes)) typed.locals)
      (list-known new.known.types typed.constants p.numbered.0) (locals-known new.known.types typed.locals p.numbered.1))

-- ---- one after another

abbrev pub rest_externals : Setting → List External → List tree.External → Standing → Progress (List External)
rest_externals setting front externals standing = further (typed_externals setting standing externals) (λ behind more. goes_on behind (front ++ more))

externals-more : (front : List External) (one : Progress External) (rest : Standing → Progress (List External))
    → further (further one (λ then_standing made. further (rest then_standing) (λ behind more. goes_on behind (made ∷ more)))) (λ behind more. goes_on behind (front ++ more))
    ≡ further one (λ then_standing made. further (rest then_standing) (λ behind more. goes_on behind ((front ++ made ∷ []) ++ more)))
externals-more front (stops rule at) rest = refl
externals-more front (goes_on then_standing made) rest = go (rest then_standing)
  where
    go : (progress : Progress (List External)) → further (further progress (λ behind more. goes_on behind (made ∷ more))) (λ behind more. goes_on behind (front ++ more))
        ≡ further progress (λ behind more. goes_on behind ((front ++ made ∷ []) ++ more))
    go (goes_on behind more) = ap (goes_on behind) (sym (append_assoc front (made ∷ []) more))
    go (stops rule at) = refl

module _ (setting : Setting) (externals : List Node) (start : Held) where
  abbrev pub externals-whole : List Shape → Standing → Progress (List External)
  externals-whole later before = typed_externals setting before (map syntax.external externals)

  abbrev pub externals-left : List CoreExternal → List Node → List Shape → Standing → Progress (List External)
  externals-left all rest later behind = rest_externals setting (externals_over later all) (map syntax.external rest) behind

  module _ (now : Held) (all : List CoreExternal) (node : Node) (rest others : List Node) (is : rest ≡ node ∷ others) (a : Arrives start now externals-whole (externals-left all rest)) where
    abbrev one-run : List Shape → Standing → Progress External
    one-run later behind = typed_external setting behind (syntax.external node)

    abbrev one-next : List Shape → Standing → External → Progress (List External)
    one-next later behind made = rest_externals setting (externals_over later all ++ made ∷ []) (map syntax.external others) behind

    one-starts : Arrives start now externals-whole (λ later behind. further (one-run later behind) (one-next later))
    one-starts =
        restated start now externals-whole (externals-left all rest) (λ later behind. further (one-run later behind) (one-next later)) a
        (λ later on behind stands lawful.
        ap (λ nodes. rest_externals setting (externals_over later all) (map syntax.external nodes) behind) is
        ∙ externals-more (externals_over later all) (typed_external setting behind (syntax.external node)) (λ then_standing. typed_externals setting then_standing (map syntax.external others)))

    pub externals-fail : (new : Held) (fault : Stop) → Proceeds ExternalFits external_over setting.source now new (Err fault) one-run
        → Proceeds ExternalsFit externals_over setting.source start new (Err fault) externals-whole
    externals-fail new fault p = fails ExternalFits external_over setting.source start now new externals-whole ExternalsFit externals_over one-run one-next fault one-starts p

    pub externals-on : (new : Held) (made : CoreExternal) → Proceeds ExternalFits external_over setting.source now new (Ok made) one-run
        → Arrives start new externals-whole (externals-left (all ++ made ∷ []) others)
    externals-on new made p =
        restated start new externals-whole (λ later behind. one-next later behind (external_over later made)) (externals-left (all ++ made ∷ []) others)
        (passes ExternalFits external_over setting.source start now new externals-whole one-run one-next made one-starts p)
        (λ later on behind stands lawful. ap (λ front. rest_externals setting front (map syntax.external others) behind) (sym (map-append (external_over later) all (made ∷ []))))

  pub externals-done : (new : Held) (all : List CoreExternal) (rest : List Node) → rest ≡ [] → Arrives start new externals-whole (externals-left all rest) → ExternalsFit new.known.types all
      → Proceeds ExternalsFit externals_over setting.source start new (Ok all) externals-whole
  externals-done new all rest none a fit =
      done ExternalsFit externals_over setting.source start new externals-whole all
      (restated start new externals-whole (externals-left all rest) (λ later behind. goes_on behind (externals_over later all)) a
      (λ later on behind stands lawful.
      ap (λ nodes. rest_externals setting (externals_over later all) (map syntax.external nodes) behind) none ∙ ap (goes_on behind) (append-nil (externals_over later all))))
      fit

-- ---- their types stay numbered

known-list : (old new : Table) → Begins old.shapes new.shapes → (trees : List Core) → list_all (are_known (length old.shapes)) trees ≡ true → list_all (are_known (length new.shapes)) trees ≡ true
known-list old new more [] h = refl
known-list old new more (tree ∷ trees) h =
    let parts = and_parts (are_known (length old.shapes) tree) (list_all (are_known (length old.shapes)) trees) h in
    and_from (are_known (length new.shapes) tree) (list_all (are_known (length new.shapes)) trees) (known-later old.shapes new.shapes tree more parts.0) (known-list old new more trees parts.1)

locals-list : (old new : Table) → Begins old.shapes new.shapes → (locals : List Local) → list_all (are_known_in_local (length old.shapes)) locals ≡ true
    → list_all (are_known_in_local (length new.shapes)) locals ≡ true
locals-list old new more [] h = refl
locals-list old new more (local ∷ locals) h =
    let parts = and_parts (are_known_in_local (length old.shapes) local) (list_all (are_known_in_local (length old.shapes)) locals) h in
    and_from (are_known_in_local (length new.shapes) local) (list_all (are_known_in_local (length new.shapes)) locals) (local-later old new local more parts.0) (locals-list old new more locals parts.1)

form-later : (old new : Table) → Begins old.shapes new.shapes → (form : CoreExternalForm) → form_has_known (length old.shapes) form ≡ true → form_has_known (length new.shapes) form ≡ true
form-later old new more (DeclarationForm locals) h = locals-list old new more locals h
form-later old new more (Function function parameters body) h = known-later old.shapes new.shapes body more h

external-later : (old new : Table) → Begins old.shapes new.shapes → (one : CoreExternal) → ExternalFits old one → ExternalFits new one
external-later old new more one h =
    let parts = and_parts (list_all (are_known (length old.shapes)) one.constants) (form_has_known (length old.shapes) one.form) h in
    and_from (list_all (are_known (length new.shapes)) one.constants) (form_has_known (length new.shapes) one.form) (known-list old new more one.constants parts.0) (form-later old new more one.form parts.1)

pub externals-later : (old new : Table) → Begins old.shapes new.shapes → (all : List CoreExternal) (one : CoreExternal) → ExternalsFit old all → ExternalFits new one → ExternalsFit new (all ++ one ∷ [])
externals-later old new more all one fit last = All-push (ExternalFits new) all one (λ k d inside. external-later old new more (slice_index_or all k d) (fit k d inside)) last
