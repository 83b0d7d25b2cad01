-- A small program whose argument is read behind a call meets the premises of the laws: no pointer leads to the object that it reads; and the function
-- that is called writes nothing.
use Rattle.std.specs.List.{list_all}
use Rattle.std.specs.Prelude.{◌≡◌, refl, ◌⊎◌, ℕ, zero, suc, ◌==◌, Bool, true, false, List, [], ◌∷◌, ◌++◌, Option, Some, None, option_map, is_some, if◌then◌else◌}
use Rattle.std.proofs.Common.{arith, true≢false, ap, sym, ◌∙◌, subst, inl, inr}
use Rattle.dm_int.specs.declared.Kind.TheVariants.{Int}
use Rattle.dm_type.specs.CTypes.{integer}
use Rattle.dm_tree.specs.Trees.{object, Tree, node, trees, parts_of}
use Rattle.dm_meaning.specs.Among.{IsAmong}
use Rattle.dm_meaning.specs.Called.{new_of}
use Rattle.dm_meaning.specs.Examples.{at, reading}
use Rattle.dm_meaning.specs.Operations.{Objects, object_named}
use Rattle.dm_meaning.specs.Programs.{Definition, declaration_of, definition_of}
use Rattle.dm_meaning.specs.Refinement.{Refines}
use Rattle.dm_meaning.specs.Replaced.{facts_of}
use Rattle.dm_meaning.specs.Running.{Run, begun}
use Rattle.dm_meaning.specs.Units.{machine_of}
use Rattle.dm_meaning.specs.Wholes.{is_whole}
use Rattle.dm_meaning.proofs.GrowLemmas.{equal_of, equal_is, differ_is}
use Rattle.dm_meaning.proofs.OptionLemmas.{none_is_some, some_is_some}
use Rattle.dm_meaning.proofs.RunLemmas.{OptionAgrees}
use Rattle.dm_rewrite.specs.Closed.{IsClosedIn, IsPlace}
use Rattle.dm_rewrite.specs.ClosedStates.{NamesOnly, ListNamesOnly, ProgramNamesOnly}
use Rattle.dm_rewrite.specs.Effects.{Effect, Stage, Hits, IsFree, effects_of}
use Rattle.dm_central.specs.Added.{IsAdded}
use Rattle.dm_central.specs.Agreement.{BegunOutside}
use Rattle.dm_central.specs.Arguments.{ReadsApart, at_once, untouched, ReadsParameter, ReadsFirst}
use Rattle.dm_central.specs.Bodies.{Known, closed_numbers, frame_stage, AreNamedOnce, DefinitionAgrees, CallsInPlace, IsWholeProgram}
use Rattle.dm_central.specs.ClosedPrograms.{known_where, known_closed, AreListed, AreOnlyNamed}
use Rattle.dm_central.specs.QuietFrames.{ReturnsQuietly, AreQuiet}
use Rattle.dm_central.specs.Examples.{calling, main_with, beyond_twice, around_of, around, giving_three, calling_around}
use Rattle.dm_central.proofs.ApartLemmas.{apart_by_names}
use Rattle.dm_central.proofs.NewNamesLemmas.{new_names}
use Rattle.dm_central.proofs.RefineLemmas.{known_calls_refine, closed_calls_refine}
use Rattle.dm_central.proofs.TwiceExample.{injective, not_twice, is_parameter, own}
use Rattle.dm_central.proofs.WholeLemmas.{no_statements}

-- ---- declarations

told : (d : ℕ) → option_map facts_of (declaration_of (new_of calling_around) (beyond_twice d)) ≡ option_map facts_of (declaration_of calling_around.old d)
told zero = refl
told (suc zero) = refl
told (suc (suc zero)) = refl
told (suc (suc (suc d))) = refl

-- no function has these numbers
none_new : (d : ℕ) → definition_of (new_of calling_around) (suc (suc (suc (suc (suc d))))) ≡ None
none_new d =
    ap (λ b. if b then Some around else (if 0 == suc (suc (suc (suc (suc d)))) then Some (main_with calling) else (if 4 == suc (suc (suc (suc (suc d)))) then Some (giving_three 4) else None))) (differ_is 2 (suc (suc (suc (suc (suc d))))) (λ e. omega (arith, e)))
    ∙ ap (λ b. if b then Some (main_with calling) else (if 4 == suc (suc (suc (suc (suc d)))) then Some (giving_three 4) else None)) (differ_is 0 (suc (suc (suc (suc (suc d))))) (λ e. omega (arith, e)))
    ∙ ap (λ b. if b then Some (giving_three 4) else None) (differ_is 4 (suc (suc (suc (suc (suc d))))) (λ e. omega (arith, e)))

none_old : (d : ℕ) → definition_of calling_around.old (suc (suc (suc d))) ≡ None
none_old d =
    ap (λ b. if b then Some (main_with (around_of 1 2)) else (if 2 == suc (suc (suc d)) then Some (giving_three 2) else None)) (differ_is 0 (suc (suc (suc d))) (λ e. omega (arith, e)))
    ∙ ap (λ b. if b then Some (giving_three 2) else None) (differ_is 2 (suc (suc (suc d))) (λ e. omega (arith, e)))

defined : (d : ℕ) → is_some (definition_of (new_of calling_around) (beyond_twice d)) ≡ is_some (definition_of calling_around.old d)
defined zero = refl
defined (suc zero) = refl
defined (suc (suc zero)) = refl
defined (suc (suc (suc d))) = ap is_some (none_new d) ∙ sym (ap is_some (none_old d))

added : IsAdded calling_around
added = record { told = told; defined = defined; found = refl; distinct = ((λ k. k), tt); own = own; gives = inl refl }

-- ---- trees

-- x is read where the old program reads y
reads_x : ReadsParameter calling_around (reading 3) (integer Int)
reads_x = record { parameter = 3; spans = _; named_kind = _; named_spans = _; is = refl; own = refl }

-- it is read first
first_read : ReadsFirst 3 (around_of 3 4)
first_read = inr (inl (refl, inr (inl (refl, inl (record { kind = _; spans = _; named_kind = _; named_spans = _; is = refl })))))

-- what is known: which objects are closed, and which functions quiet
module _ (closed quiet : ℕ → Bool) where
  abbrev known : Known
  known = known_where closed quiet

  abbrev here : Objects → Objects → Stage
  here statics objects = frame_stage calling_around known statics objects

  name : Run
  name = begun (node (object 1) (integer Int) (record { inner = record { first = 0; after = 0 }; outer = record { first = 0; after = 0 }; place = at 0 }) (trees []))

  -- y is only read
  y_closed : (objects : Objects) (n : ℕ) → IsClosedIn n objects (begun (reading 1))
  unfolding name
  y_closed objects n = (tt, (by_option (object_named objects 1) refl, tt))
    where
      by_number : (m : ℕ) (b : Bool) → (m == n) ≡ b → object_named objects 1 ≡ Some m → (object_named objects 1 ≡ Some n) ⊎ (object_named objects 1 ≡ Some n → ⊥)
      by_number m true f e = inl (e ∙ ap Some (equal_of m n f))
      by_number m false f e = inr (λ g. true≢false (sym (equal_is m n (some_is_some m n (sym e ∙ g))) ∙ f))

      by_name : (object_named objects 1 ≡ Some n) ⊎ (object_named objects 1 ≡ Some n → ⊥) → IsClosedIn n objects name ⊎ IsPlace n objects name
      by_name (inl e) = inr (inl (1, _, _, refl, e))
      by_name (inr other) = inl (other, tt)

      by_option : (o : Option ℕ) → object_named objects 1 ≡ o → IsClosedIn n objects name ⊎ IsPlace n objects name
      by_option None e = by_name (inr (λ f. none_is_some n (sym e ∙ f)))
      by_option (Some m) e = by_name (by_number m (m == n) refl e)

  -- the expression writes nothing that the argument reads
  abbrev IsCalm : Type 0
  IsCalm =
      (statics objects : Objects) → AreNamedOnce known statics objects → (tree : Tree) → IsAmong (untouched tree) (untouched (reading 1) ∷ [])
      → ReadsApart (here statics objects) (effects_of (here statics objects) (begun (around_of 1 2))) (begun tree)

  module _ (calm : IsCalm) where
    begun_call : (statics objects : Objects) → AreNamedOnce known statics objects → BegunOutside calling_around (here statics objects) known.safe [] calling (around_of 1 2)
    unfolding reads_x
    begun_call statics objects named = inr (
      trees (reading 1 ∷ []),
      record {
        is = refl;
        typed = refl;
        kinds = integer Int ∷ [];
        ways = untouched (reading 1) ∷ [];
        stands = inl (record {
          was = around_of 1 2;
          same = inl (refl, refl, refl, (inl (refl, refl, refl, (inr (reads_x, refl, inl refl), (inl (refl, refl, refl, (inl (refl, refl, refl, tt), tt)), tt))), (inr (reads_x, refl, inl refl), tt)));
          is = refl;
        });
        each = refl;
        once = λ d e. absurd (never (3 == d) e);
        untouched_ones = (refl, (refl, ((refl, tt), tt)), (λ later found e at among n f effect l. absurd l), tt);
        calm = calm statics objects named;
        late = λ tree among. inr (λ p e. subst (λ q. ReadsFirst q (around_of 3 4)) (is_parameter p tree (3 == p) refl e) first_read);
        closed = λ n among. (y_closed (statics ++ objects) n, tt);
      },
      (record { kind = _; place = _; is = refl }, ((refl, inl refl), refl, tt), (inl (refl, refl, (inl (refl, refl, tt), tt)), tt)),
    )
      where
        never : (b : Bool) → (if b then Some (untouched (reading 1)) else None) ≡ Some at_once → ⊥
        never true e = cc
        never false e = cc

    main_agrees : DefinitionAgrees calling_around known (main_with calling) (main_with (around_of 1 2))
    main_agrees = (
      refl,
      refl,
      (
        inl (refl, refl, refl, tt, (inr (refl, λ statics objects named. inl (refl, refl, tt)), tt)),
        (inl (refl, refl, refl, tt, (inr (refl, begun_call), tt)), tt),
      ),
    )

    three_agrees : DefinitionAgrees calling_around known (giving_three 4) (giving_three 2)
    three_agrees = (refl, refl, (inl (refl, refl, refl, tt, (inr (refl, λ statics objects named. inl (refl, refl, tt)), tt)), tt))

    functions : (g : ℕ) → OptionAgrees (DefinitionAgrees calling_around known) (definition_of (new_of calling_around) (beyond_twice g)) (definition_of calling_around.old g)
    functions zero = main_agrees
    functions (suc zero) = tt
    functions (suc (suc zero)) = three_agrees
    functions (suc (suc (suc d))) =
        subst (λ o. OptionAgrees (DefinitionAgrees calling_around known) o (definition_of calling_around.old (suc (suc (suc d))))) (sym (none_new d))
        (subst (OptionAgrees (DefinitionAgrees calling_around known) None) (sym (none_old d)) tt)

    in_place : CallsInPlace calling_around known
    in_place = record {
      injective = injective;
      apart = not_twice;
      added = added;
      functions = functions;
      mains = main_agrees;
      statics = tt;
      not_main = refl;
      return_kind = _;
      return_spans = _;
      returns = refl;
    }

pub whole_program : IsWholeProgram calling_around.old
whole_program definition (inl e) = ap (λ (d : Definition). list_all is_whole (parts_of d.body)) e
whole_program definition (inr (inl e)) = ap (λ (d : Definition). list_all is_whole (parts_of d.body)) e
whole_program definition (inr (inr k)) = absurd k

-- ---- no pointer leads to y

abbrev is_y : ℕ → Bool
is_y d = d == 1

closed_calm : IsCalm is_y (λ f. false)
closed_calm statics objects named tree (inl e) =
    subst (λ t. ReadsApart stage effects (begun t)) (sym (same_tree tree e)) (apart_by_names stage effects (reading 1) (y_free, ((tt, tt), tt)))
  where
    stage : Stage
    stage = frame_stage calling_around (known_closed is_y) statics objects

    effects : List Effect
    effects = effects_of (frame_stage calling_around (known_closed is_y) statics objects) (begun (around_of 1 2))

    -- the call has no effect on y
    y_free : (n : ℕ) → object_named (statics ++ objects) 1 ≡ Some n → IsFree (closed_numbers is_y objects) effects n
    y_free n f effect (inl k) hit = subst (λ x. Hits (closed_numbers is_y objects) x n) k hit (named.closed_ones 1 n refl f)
    y_free n f effect (inr k) hit = absurd k

    same_tree : (t : Tree) → untouched t ≡ untouched (reading 1) → t ≡ reading 1
    same_tree t f = cc
closed_calm statics objects named tree (inr l) = absurd l

pub closed_in_place : CallsInPlace calling_around (known_closed is_y)
closed_in_place = in_place is_y (λ f. false) closed_calm

reads_y : NamesOnly 1 (reading 1)
reads_y = (tt, (inr (_, _, refl), tt))

reads_other : NamesOnly 1 (reading 3)
reads_other = (tt, (inl ((λ e. omega (arith, e)), tt), tt))

three_names : (g : ℕ) → ListNamesOnly 1 (parts_of (giving_three g).body)
three_names g = ((tt, ((tt, tt), tt)), tt)

old_names : ProgramNamesOnly 1 calling_around.old
old_names definition (inl e) =
    subst (λ (d : Definition). ListNamesOnly 1 (parts_of d.body)) (sym e)
    ((tt, ((tt, tt), tt)), ((tt, ((tt, ((tt, (reads_y, ((tt, ((tt, tt), tt)), tt))), (reads_y, tt))), tt)), tt))
old_names definition (inr (inl e)) = subst (λ (d : Definition). ListNamesOnly 1 (parts_of d.body)) (sym e) (three_names 2)
old_names definition (inr (inr l)) = absurd l

-- the expression of the added function reads another object
body_names : NamesOnly 1 (around_of 3 4)
body_names = (tt, ((tt, (reads_other, ((tt, ((tt, tt), tt)), tt))), (reads_other, tt)))

pub listed : AreListed calling_around
listed definition (inl e) = inl e
listed definition (inr (inl e)) = inr (0, ap Some (sym e))
listed definition (inr (inr (inl e))) = inr (2, ap Some (sym e))
listed definition (inr (inr (inr l))) = absurd l

pub names_old : (d : ℕ) → is_y d ≡ true → ProgramNamesOnly d calling_around.old
names_old d picked = subst (λ n. ProgramNamesOnly n calling_around.old) (sym (equal_of d 1 picked)) old_names

pub names_body : (d : ℕ) → is_y d ≡ true → NamesOnly (beyond_twice d) (around_of 3 4)
names_body d picked = subst (λ n. NamesOnly (beyond_twice n) (around_of 3 4)) (sym (equal_of d 1 picked)) body_names

pub only_named : AreOnlyNamed calling_around is_y
only_named = record {
  local = λ d picked l. l;
  old = names_old;
  new = λ d picked. new_names calling_around (known_closed is_y) closed_in_place d picked listed (names_old d picked) (names_body d picked);
}

pub closed_refines : Refines (machine_of (new_of calling_around)) (machine_of calling_around.old)
closed_refines = closed_calls_refine calling_around is_y closed_in_place only_named (no_statements calling_around.old whole_program)

-- ---- or the function that is called writes nothing

abbrev is_g : ℕ → Bool
is_g f = f == 2

quiet_calm : IsCalm (λ d. false) is_g
quiet_calm statics objects named tree l world found e at among n f effect k = absurd k

pub quiet_in_place : CallsInPlace calling_around (known_where (λ d. false) is_g)
quiet_in_place = in_place (λ d. false) is_g quiet_calm

three_quiet : ReturnsQuietly calling_around.old is_g (giving_three 2)
three_quiet = record { kind = _; spans = _; value = _; returns_it = refl; quietly = λ objects effect l. l }

pub quiet_function : AreQuiet calling_around.old is_g
quiet_function definition (inl e) q = absurd (true≢false (sym q ∙ ap (λ (d : Definition). is_g d.function) e))
quiet_function definition (inr (inl e)) q = subst (ReturnsQuietly calling_around.old is_g) (sym e) three_quiet
quiet_function definition (inr (inr l)) q = absurd l

pub none_named : AreOnlyNamed calling_around (λ d. false)
none_named = record { local = λ d e. absurd (true≢false (sym e)); old = λ d e. absurd (true≢false (sym e)); new = λ d e. absurd (true≢false (sym e)) }

pub quiet_refines : Refines (machine_of (new_of calling_around)) (machine_of calling_around.old)
quiet_refines = known_calls_refine calling_around (λ d. false) is_g quiet_in_place none_named quiet_function (no_statements calling_around.old whole_program)
