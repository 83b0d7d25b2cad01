-- The steps of the code through the declarator of a function definition.
use Rattle.std.specs.Prelude.{◌≡◌, ℕ, ◌<◌, true, is_some, List, [], ◌∷◌, ◌++◌, length, map, drop, Result, Ok, Err, IfOk}
use Rattle.std.specs.FinMap as finite
use Rattle.std.proofs.Common.{sym, ap, ◌∙◌, subst}
use Rattle.std.proofs.Math.Seq.{drop-append_seam}
use Rattle.std.proofs.lemmas.List.{length-map}
use Rattle.dm_token.specs.declared.stop.Stop.{Stop}
use Rattle.dm_type.specs.declared.shape.Shape.{Shape}
use Rattle.dm_type.specs.CTypes.{CType}
use Rattle.dm_type.specs.Tables.{Table, IsId}
use Rattle.dm_scope.specs.Scopes.{number_of}
use Rattle.dm_name_map.specs.Numbers.{Numbers}
use Rattle.dm_syn.specs.Sources.{Source}
use Rattle.dm_syn.specs.Trees.{Declarator, Parameters}
use Rattle.dm_tree.specs.Units.{Declaration}
use Rattle.dm_tree.specs.Views.{entries_of}
use Rattle.dm_typing.specs.declared.known.Known.{Known as Held}
use Rattle.dm_typing.specs.declared.typer.Typer.{Typer}
use Rattle.dm_typing.specs.Known.{Known, Setting, Outcome, given, after, with_it}
use Rattle.dm_typing.specs.Typing.{Step, calling, without_void, entered, parameters_of, derived}
use Rattle.dm_typing.specs.Views.{Begins, type_over, table_over, known_over, source_of, setting_of, Gives, Grows}
use Rattle.dm_typing.proofs.LaterLemmas.{begins-itself}
use Rattle.dm_edeclarator.specs.declared.declarators.PlacedStep.{PlacedStep}
use Rattle.dm_edeclarator.specs.declared.declarators.TypedParameter.{TypedParameter as TypedHeld}
use Rattle.dm_edeclarator.specs.Steps.{parameter_over, parameters_over, ParametersFit, steps_over, StepsFit, SameBesideScopes, Follows}
use Rattle.dm_edeclarator.proofs.OpenLemmas.{scopes-over, enters, outside-open}
use Rattle.dm_edeclarator.proofs.ReachLemmas.{Reaches, begins, passes, passes-with, fails, fails-making, done}
use Rattle.dm_eexpr.proofs.KeepLemmas.{KeepsIn, parameters-keep}
use Rattle.dm_edecl.specs.Units.{defined_parameters, typed_heading, innermost, numbers_of}
use Rattle.dm_edecl.proofs.ParameterLemmas.{SameAs, list-same}
use Rattle.dm_eunit.specs.declared.heading.Begun.{Begun as BegunHeld}
use Rattle.dm_eunit.specs.declared.heading.Own.{Own as OwnHeld}
use Rattle.dm_eunit.specs.Headings.{begun_over, BegunFits, headed_over, HeadedFits}
use Rattle.dm_eunit.specs.Naming.{names_in, with_names}
use Rattle.dm_eunit.specs.Parts.{Begun, stepped, own_begun, declarator_begun, Headed, headed}
use Rattle.dm_eunit.proofs.HeadingLemmas.{heading-begun}
use Rattle.dm_eunit.proofs.SettingLemmas.{Declares}
use Rattle.dm_eunit.proofs.NamingLemmas.{parameters-declare, scope-again}

-- ---- other steps in front

module _ (source : Source) (old : Held) (whole first : List Shape → Outcome Begun) (second : List Shape → Known → List Step → Outcome (List Step))
    (e : (later : List Shape) → whole later ≡ after (first later) (λ behind begun. with_it (second later behind begun.steps) (λ then_known these. stepped begun these))) where
  pub first-fails : (new : Held) (fault : Stop) → Follows BegunFits begun_over source old new (Err fault) first → Follows BegunFits begun_over source old new (Err fault) whole
  first-fails new fault f =
      fails BegunFits begun_over source old old new whole BegunFits begun_over first (λ later behind begun. with_it (second later behind begun.steps) (λ then_known these. stepped begun these)) fault
      (begins old whole (λ later. after (first later) (λ behind begun. with_it (second later behind begun.steps) (λ then_known these. stepped begun these))) e) f

  module _ (mid new : Held) (begun : BegunHeld) (f : Follows BegunFits begun_over source old mid (Ok begun) first) where
    passed : Reaches old mid whole (λ later. with_it (second later (known_over later mid) (begun_over later begun).steps) (λ then_known these. stepped (begun_over later begun) these))
    passed =
        passes BegunFits begun_over source old old mid whole first (λ later behind one. with_it (second later behind one.steps) (λ then_known these. stepped one these)) begun
        (begins old whole (λ later. after (first later) (λ behind one. with_it (second later behind one.steps) (λ then_known these. stepped one these))) e) f

    pub second-fails : (fault : Stop) → Follows StepsFit steps_over source mid new (Err fault) (λ later. second later (known_over later mid) (steps_over later begun.steps))
        → Follows BegunFits begun_over source old new (Err fault) whole
    second-fails fault g =
        fails-making StepsFit steps_over source old mid new whole BegunFits begun_over (λ later. second later (known_over later mid) (steps_over later begun.steps))
        (λ later then_known these. stepped (begun_over later begun) these) fault passed g

    pub both-made : (steps : List PlacedStep) → Follows StepsFit steps_over source mid new (Ok steps) (λ later. second later (known_over later mid) (steps_over later begun.steps))
        → Follows BegunFits begun_over source old new (Ok (record { steps = steps; own = begun.own })) whole
    both-made steps g =
        done BegunFits begun_over source old new whole (record { steps = steps; own = begun.own })
        (passes-with StepsFit steps_over source old mid new whole (λ later. second later (known_over later mid) (steps_over later begun.steps))
        (λ later then_known these. stepped (begun_over later begun) these) steps passed g) g.numbered

-- ---- the definition's own parameters

module _ (typer : Typer) (parameters : Parameters) (here : ℕ) (old inside behind : Held) (opens : SameBesideScopes old inside) (opened : inside.scopes ≡ finite.empty ∷ old.scopes)
    (typed : List TypedHeld)
    (f : Follows ParametersFit parameters_over (source_of typer) inside behind (Ok typed) (λ later. defined_parameters (setting_of typer) true (known_over later inside) parameters)) where
  typed-so : (later : List Shape) → Begins behind.types.shapes later
      → defined_parameters (setting_of typer) true (entered (known_over later old)) parameters ≡ given (known_over later behind) (parameters_over later typed)
  typed-so later on = ap (λ known. defined_parameters (setting_of typer) true known parameters) (sym (enters later old inside opens opened)) ∙ f.gives later on

  typed-same : (later : List Shape) → Begins behind.types.shapes later
      → parameters_of (setting_of typer) true (known_over later inside) parameters ≡ given (known_over later behind) (parameters_over later typed)
  unfolding SameAs
  typed-same later on =
      let all : SameAs (defined_parameters (setting_of typer) true (known_over later inside) parameters) (parameters_of (setting_of typer) true (known_over later inside) parameters) =
      list-same (setting_of typer) true (known_over later inside) parameters in
      subst (λ outcome. SameAs outcome (parameters_of (setting_of typer) true (known_over later inside) parameters)) (f.gives later on) all

  outer-stays : drop 1 behind.scopes ≡ old.scopes
  outer-stays =
      let shapes = behind.types.shapes in
      let keeps = subst (KeepsIn (known_over shapes inside)) (typed-same shapes (begins-itself shapes)) (parameters-keep (setting_of typer) true (known_over shapes inside) parameters) in
      keeps.leads.adds.outer ∙ ap (drop 1) opened

  pub own-open : 0 < length old.scopes → 1 < length behind.scopes
  own-open some = outside-open behind.scopes old.scopes outer-stays some

  module _ (from : ℕ) (from_there : from ≡ length old.declared) (own : OwnHeld)
      (named : (types : Table) → own.names.items ≡ names_in (innermost behind.scopes) from (drop from (entries_of types behind.declared))) where
    own-scope : with_names finite.empty own.names.items ≡ innermost behind.scopes
    own-scope =
        let shapes = behind.types.shapes in
        let known = known_over shapes old in
        let all : Declares (entered known) (known_over shapes behind) =
        parameters-declare (source_of typer) (λ name. is_some (number_of typer.lacking.now name)) (entered known) (known_over shapes behind) parameters (parameters_over shapes typed)
        (typed-so shapes (begins-itself shapes)) in
        let count : from ≡ length known.declared = from_there ∙ sym (length-map old.declared _) in
        ap (with_names finite.empty)
        (named (table_over shapes behind.types)
        ∙ ap (λ (entries : List Declaration). names_in (innermost behind.scopes) from (drop from entries)) all.declared
        ∙ ap (λ n. names_in (innermost behind.scopes) n (drop n (known.declared ++ all.more))) count
        ∙ ap (names_in (innermost behind.scopes) (length known.declared)) (drop-append_seam known.declared all.more))
        ∙ scope-again known (known_over shapes behind) all

    pub own-made : (ended : Held) → SameBesideScopes behind ended → ended.scopes ≡ drop 1 behind.scopes
        → ((later : List Shape) → own.numbers ≡ numbers_of (map (parameter_over later) typed)) → (steps : List PlacedStep)
        → ((later : List Shape) → Begins ended.types.shapes later → steps_over later steps ≡ calling here (without_void (map (parameter_over later) typed)) ∷ [])
        → StepsFit ended.types steps
        → Follows BegunFits begun_over (source_of typer) old ended (Ok (record { steps = steps; own = own })) (λ later. own_begun (setting_of typer) (known_over later old) here parameters)
    own-made ended closes e numbers steps are fits = record {
      shapes = subst (λ (table : Table). Begins old.types.shapes table.shapes) (sym closes.types) (subst (λ (table : Table). Begins table.shapes behind.types.shapes) opens.types f.shapes);
      numbered = fits;
      gives = λ later on.
          let inner = subst (λ (table : Table). Begins table.shapes later) closes.types on in
          let kept : known_over later ended ≡ record (known_over later behind) { scopes = (known_over later old).scopes } =
          scopes-over later behind ended closes ∙ ap (λ scopes. record (known_over later behind) { scopes = scopes }) (e ∙ outer-stays) in
          let made : begun_over later (record { steps = steps; own = own })
          ≡ record { steps = calling here (without_void (parameters_over later typed)) ∷ []; numbers = numbers_of (parameters_over later typed); scope = innermost behind.scopes } =
          ap (λ (x : List Step). record { steps = x; numbers = own.numbers; scope = with_names finite.empty own.names.items }) (are later on)
          ∙ ap (λ (x : List ℕ). record { steps = calling here (without_void (parameters_over later typed)) ∷ []; numbers = x; scope = with_names finite.empty own.names.items }) (numbers later)
          ∙ ap (λ (x : Numbers). record { steps = calling here (without_void (parameters_over later typed)) ∷ []; numbers = numbers_of (parameters_over later typed); scope = x }) own-scope in
          ap (λ outcome. after {B = Begun} outcome (λ inside ones. given (record inside { scopes = (known_over later old).scopes })
          (record { steps = calling here (without_void ones) ∷ []; numbers = numbers_of ones; scope = innermost inside.scopes }))) (typed-so later inner)
          ∙ ap (λ known. given known (record { steps = calling here (without_void (parameters_over later typed)) ∷ []; numbers = numbers_of (parameters_over later typed); scope = innermost behind.scopes })) (sym kept)
          ∙ ap (given (known_over later ended)) (sym made);
    }

-- ---- the type

abbrev headed_of : Begun → CType → Headed
headed_of begun kind = record { kind = kind; numbers = begun.numbers; scope = begun.scope }

module _ (source : Source) (setting : Setting) (old mid : Held) (base : ℕ) (declarator : Declarator) where
  abbrev whole : List Shape → Outcome Headed
  whole later = headed (typed_heading setting (known_over later old) (type_over later base) declarator)

  abbrev first : List Shape → Outcome Begun
  first later = declarator_begun setting (known_over later old) declarator

  abbrev next : List Shape → Known → Begun → Outcome Headed
  next later behind begun = with_it (derived behind (type_over later base) begun.steps) (λ then_known kind. headed_of begun kind)

  starts : Reaches old old whole (λ later. after (first later) (next later))
  starts = begins old whole (λ later. after (first later) (next later)) (λ later. heading-begun setting (known_over later old) (type_over later base) declarator)

  pub heading-fails : (fault : Stop) → Follows BegunFits begun_over source old mid (Err fault) first → Follows HeadedFits headed_over source old mid (Err fault) whole
  heading-fails fault f = fails BegunFits begun_over source old old mid whole HeadedFits headed_over first next fault starts f

  module _ (begun : BegunHeld) (f : Follows BegunFits begun_over source old mid (Ok begun) first) (new : Held) (grows : Grows mid new) where
    typed-there : (result : Result ℕ Stop) → IfOk result (IsId new.types)
        → ((later : List Shape) → Begins new.types.shapes later → Gives (type_over later) source (known_over later new) result (derived (known_over later mid) (type_over later base) (steps_over later begun.steps)))
        → Follows IsId type_over source mid new result (λ later. derived (known_over later mid) (type_over later base) (steps_over later begun.steps))
    typed-there result numbered gives = record { shapes = grows.shapes; numbered = numbered; gives = gives }

    on-the-way : Reaches old mid whole (λ later. next later (known_over later mid) (begun_over later begun))
    on-the-way = passes BegunFits begun_over source old old mid whole first next begun starts f

    pub kind-fails : (fault : Stop)
        → ((later : List Shape) → Begins new.types.shapes later → Gives (type_over later) source (known_over later new) (Err fault) (derived (known_over later mid) (type_over later base) (steps_over later begun.steps)))
        → Follows HeadedFits headed_over source old new (Err fault) whole
    kind-fails fault gives =
        fails-making IsId type_over source old mid new whole HeadedFits headed_over (λ later. derived (known_over later mid) (type_over later base) (steps_over later begun.steps))
        (λ later then_known kind. headed_of (begun_over later begun) kind) fault on-the-way (typed-there (Err fault) tt gives)

    pub kind-made : (kind : ℕ) → IsId new.types kind
        → ((later : List Shape) → Begins new.types.shapes later → Gives (type_over later) source (known_over later new) (Ok kind) (derived (known_over later mid) (type_over later base) (steps_over later begun.steps)))
        → Follows HeadedFits headed_over source old new (Ok (record { kind = kind; own = begun.own })) whole
    kind-made kind inside gives =
        done HeadedFits headed_over source old new whole (record { kind = kind; own = begun.own })
        (passes-with IsId type_over source old mid new whole (λ later. derived (known_over later mid) (type_over later base) (steps_over later begun.steps))
        (λ later then_known kind. headed_of (begun_over later begun) kind) kind on-the-way (typed-there (Ok kind) inside gives)) inside
