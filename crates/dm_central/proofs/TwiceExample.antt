-- The calls of a small program meet the premises of the laws: the argument stands untouched in the old program, and is read twice there.
use Rattle.std.specs.List.{list_all}
use Rattle.std.specs.Prelude.{◌≡◌, refl, ℕ, zero, suc, ◌==◌, Bool, true, false, [], ◌∷◌, Some, None, option_map, is_some, if◌then◌else◌}
use Rattle.std.proofs.Common.{arith, true≢false, ap, sym, ◌∙◌, subst, inl, inr}
use Rattle.dm_int.specs.declared.Kind.TheVariants.{Int}
use Rattle.dm_type.specs.CTypes.{integer}
use Rattle.dm_tree.specs.Trees.{Tree, trees, parts_of}
use Rattle.dm_meaning.specs.Among.{IsAmong}
use Rattle.dm_meaning.specs.Programs.{declaration_of, definition_of}
use Rattle.dm_meaning.specs.Operations.{object_named}
use Rattle.dm_meaning.specs.Replaced.{facts_of}
use Rattle.dm_meaning.specs.Running.{Run, Hole, begun}
use Rattle.dm_meaning.specs.Expressions.{Move, moves}
use Rattle.dm_meaning.specs.Called.{new_of}
use Rattle.dm_meaning.proofs.OptionLemmas.{none_is_some}
use Rattle.dm_meaning.proofs.GrowLemmas.{equal_of, differ_is}
use Rattle.dm_meaning.specs.Examples.{reading}
use Rattle.dm_meaning.specs.Programs.{Definition}
use Rattle.dm_meaning.specs.Refinement.{Refines}
use Rattle.dm_meaning.specs.Units.{machine_of}
use Rattle.dm_meaning.specs.Wholes.{is_whole}
use Rattle.dm_meaning.proofs.RunLemmas.{OptionAgrees}
use Rattle.dm_rewrite.specs.Effects.{Stage}
use Rattle.dm_central.specs.Added.{IsAdded}
use Rattle.dm_central.specs.Bodies.{nothing_known, frame_stage, DefinitionAgrees, CallsInPlace, IsWholeProgram}
use Rattle.dm_central.proofs.RefineLemmas.{calls_refine}
use Rattle.dm_central.proofs.SteadyLemmas.{none_closed}
use Rattle.dm_central.proofs.WholeLemmas.{no_statements}
use Rattle.dm_central.specs.Agreement.{Mode, outside, inside, BegunOutside, RunAgrees}
use Rattle.dm_central.specs.Arguments.{at_once, untouched, ReadsParameter, ReadsFirst}
use Rattle.dm_central.specs.Examples.{sum, body, calling, twice, main_with, beyond_twice, calling_twice, objects, stage, nowhere_safe, in_main, world}
use Rattle.dm_central.specs.NodeSteps.{new_scene, MeanTheSame}
use Rattle.dm_central.specs.Outcomes.{Met}
use Rattle.dm_central.proofs.AgreementLemmas.{begun_agrees}
use Rattle.dm_central.proofs.DiagramLemmas.{run_matched}

told : (d : ℕ) → option_map facts_of (declaration_of (new_of calling_twice) (beyond_twice d)) ≡ option_map facts_of (declaration_of calling_twice.old d)
told zero = refl
told (suc zero) = refl
told (suc (suc d)) = refl

-- no function has these numbers
none_new : (d : ℕ) → definition_of (new_of calling_twice) (suc (suc (suc (suc d)))) ≡ None
none_new d =
    ap (λ b. if b then Some twice else (if 0 == suc (suc (suc (suc d))) then Some (main_with calling) else None)) (differ_is 2 (suc (suc (suc (suc d)))) (λ e. omega (arith, e)))
    ∙ ap (λ b. if b then Some (main_with calling) else None) (differ_is 0 (suc (suc (suc (suc d)))) (λ e. omega (arith, e)))

none_old : (d : ℕ) → definition_of calling_twice.old (suc (suc d)) ≡ None
none_old d = ap (λ b. if b then Some (main_with sum) else None) (differ_is 0 (suc (suc d)) (λ e. omega (arith, e)))

defined : (d : ℕ) → is_some (definition_of (new_of calling_twice) (beyond_twice d)) ≡ is_some (definition_of calling_twice.old d)
defined zero = refl
defined (suc zero) = refl
defined (suc (suc d)) = ap is_some (none_new d) ∙ sym (ap is_some (none_old d))

pub own : (p : ℕ) → IsAmong p (3 ∷ []) → (c : ℕ) → beyond_twice c ≡ p → ⊥
own p (inl e) zero f = omega (arith, e, f)
own p (inl e) (suc zero) f = omega (arith, e, f)
own p (inl e) (suc (suc c)) f = omega (arith, e, f)
own p (inr k) c f = absurd k

pub added : IsAdded calling_twice
added = record {
  told = told;
  defined = defined;
  found = refl;
  distinct = ((λ k. k), tt);
  own = own;
  gives = inl refl;
}

-- x is read where the old program reads y
reads_x : ReadsParameter calling_twice (reading 3) (integer Int)
reads_x = record { parameter = 3; spans = _; named_kind = _; named_spans = _; is = refl; own = refl }

-- it is read first
first_read : ReadsFirst 3 body
first_read = inr (inl (refl, inl (record { kind = _; spans = _; named_kind = _; named_spans = _; is = refl })))

pub is_parameter : (p : ℕ) (tree : Tree) (b : Bool) → (3 == p) ≡ b → (if b then Some (untouched (reading 1)) else None) ≡ Some (untouched tree) → 3 ≡ p
is_parameter p tree true e f = equal_of 3 p e
is_parameter p tree false e f = absurd (none_is_some (untouched tree) f)

pub begun_where : (at : Stage) → ((n : ℕ) → IsAmong n at.closed → ⊥) → BegunOutside calling_twice at nowhere_safe [] calling sum
unfolding reads_x
begun_where here none = inr (
  trees (reading 1 ∷ []),
  record {
    is = refl;
    typed = refl;
    kinds = integer Int ∷ [];
    ways = untouched (reading 1) ∷ [];
    stands = inl (record {
      was = sum;
      same = inl (refl, refl, refl, (inr (reads_x, refl, inl refl), (inr (reads_x, refl, inl refl), tt)));
      is = refl;
    });
    each = refl;
    once = λ d e. absurd (never (3 == d) e);
    untouched_ones = (refl, (refl, ((refl, tt), tt)), (λ later found e at among n f effect l. absurd l), tt);
    calm = λ tree among later found e at k n f effect l. absurd l;
    late = λ tree among. inr (λ p e. subst (λ q. ReadsFirst q body) (is_parameter p tree (3 == p) refl e) first_read);
    closed = λ n among. absurd (none n among);
  },
  (record { kind = _; place = _; is = refl }, ((refl, inl refl), refl, tt), (inl (refl, refl, (inl (refl, refl, tt), tt)), tt)),
)
  where
    never : (b : Bool) → (if b then Some (untouched (reading 1)) else None) ≡ Some at_once → ⊥
    never true e = cc
    never false e = cc

pub begun_call : BegunOutside calling_twice stage nowhere_safe [] calling sum
begun_call = begun_where stage (λ n among. among)

pub agrees : RunAgrees calling_twice stage in_main world [] (begun calling) (begun sum)
agrees = begun_agrees calling_twice stage nowhere_safe world [] calling sum begun_call

same_objects : MeanTheSame calling_twice in_main objects objects
same_objects zero stands = refl
same_objects (suc zero) stands = refl
same_objects (suc (suc d)) stands = nothing_named (suc (suc d)) (λ e. omega (arith, e)) ∙ sym (nothing_named d (λ e. omega (arith, e)))
  where
    nothing_named : (n : ℕ) → (1 ≡ suc (suc n) → ⊥) → object_named objects (suc (suc n)) ≡ None
    nothing_named n e = ap (λ b. if b then Some 1 else None) (differ_is 1 (suc (suc n)) e)

safe_in : Mode → Tree → Bool
safe_in (outside safe) tree = safe tree
safe_in (inside entries) tree = false

-- Each first step of the call is met in the sum.
pub steps : (move : Move Run Hole) → IsAmong move (moves (new_scene calling_twice objects) world [] (begun calling)) → Met calling_twice stage in_main world [] [] (begun sum) move
unfolding safe_in
steps move k =
    run_matched calling_twice added objects objects [] (λ f. false) in_main same_objects world [] [] (λ lock l. l) (λ entry l. absurd l) (λ n l. absurd l)
    [] (begun calling) (begun sum) agrees (λ safe e. (λ lock l. absurd l, λ tree f stands. absurd (true≢false (sym (ap (λ mode. safe_in mode tree) e ∙ f))))) (λ n l. absurd l) move k

-- ---- the programs

pub injective : (c d : ℕ) → beyond_twice c ≡ beyond_twice d → c ≡ d
injective zero zero e = refl
injective zero (suc zero) e = omega (arith, e)
injective zero (suc (suc d)) e = omega (arith, e)
injective (suc zero) zero e = omega (arith, e)
injective (suc zero) (suc zero) e = refl
injective (suc zero) (suc (suc d)) e = omega (arith, e)
injective (suc (suc c)) zero e = omega (arith, e)
injective (suc (suc c)) (suc zero) e = omega (arith, e)
injective (suc (suc c)) (suc (suc d)) e = omega (arith, e)

pub not_twice : (d : ℕ) → beyond_twice d ≡ 2 → ⊥
not_twice zero e = omega (arith, e)
not_twice (suc zero) e = omega (arith, e)
not_twice (suc (suc d)) e = omega (arith, e)

main_agrees : DefinitionAgrees calling_twice nothing_known (main_with calling) (main_with sum)
main_agrees = (
  refl,
  refl,
  (
    inl (refl, refl, refl, tt, (inr (refl, λ statics objects apart. inl (refl, refl, tt)), tt)),
    (inl (refl, refl, refl, tt, (inr (refl, λ statics objects apart. begun_where (frame_stage calling_twice nothing_known statics objects) (none_closed objects)), tt)), tt),
  ),
)

functions : (g : ℕ) → OptionAgrees (DefinitionAgrees calling_twice nothing_known) (definition_of (new_of calling_twice) (beyond_twice g)) (definition_of calling_twice.old g)
functions zero = main_agrees
functions (suc zero) = tt
functions (suc (suc d)) =
    subst (λ o. OptionAgrees (DefinitionAgrees calling_twice nothing_known) o (definition_of calling_twice.old (suc (suc d)))) (sym (none_new d))
    (subst (OptionAgrees (DefinitionAgrees calling_twice nothing_known) None) (sym (none_old d)) tt)

pub in_place : CallsInPlace calling_twice nothing_known
in_place = record {
  injective = injective;
  apart = not_twice;
  added = added;
  functions = functions;
  mains = main_agrees;
  statics = tt;
  not_main = refl;
  return_kind = _;
  return_spans = _;
  returns = refl;
}

pub whole_program : IsWholeProgram calling_twice.old
whole_program definition (inl e) = ap (λ (d : Definition). list_all is_whole (parts_of d.body)) e
whole_program definition (inr k) = absurd k

pub refines : Refines (machine_of (new_of calling_twice)) (machine_of calling_twice.old)
refines = calls_refine calling_twice in_place (no_statements calling_twice.old whole_program)
