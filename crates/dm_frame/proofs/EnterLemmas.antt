-- New objects for declarations, one after the other.
use Rattle.std.proofs.Common.{◌≡◌, ℕ, zero, suc, ◌+◌, List, [], ◌∷◌, ◌++◌, length, length-append, refl, ap, sym, ◌∙◌, arith}
use Rattle.dm_type.specs.CTypes.{CType}
use Rattle.dm_type.specs.Tables.{Table, type_of}
use Rattle.dm_tree.specs.declared.tree.Core.{Core, out-Core}
use Rattle.dm_tree.specs.declared.tree.Form.TheVariants as form
use Rattle.dm_tree.specs.declared.tree.Local.{Local}
use Rattle.dm_tree.specs.Views.{Opened, opened_form, view}
use Rattle.dm_layout.specs.LaidOut.{laid_out}
use Rattle.dm_memory.proofs.ChangedLemmas.{more-view}
use Rattle.dm_memory.specs.declared.blocks.Block.{Block}
use Rattle.dm_memory.specs.Blocks.{numbered_from, view_of_block, view_of_blocks, AreKnown}
use Rattle.dm_meaning.specs.Choices.{in_order}
use Rattle.dm_meaning.specs.Memory.{Memory, new_block}
use Rattle.dm_meaning.specs.Operations.{Objects}
use Rattle.dm_meaning.specs.Programs.{Program, layout}
use Rattle.dm_meaning.specs.Statements.{declared_by, declared_by_label, type_declared, named_from, made_from}
use Rattle.dm_program.proofs.FormLemmas.{opened-Block, opened-Break, opened-Case, opened-Continue, opened-Default, opened-Do, opened-For, opened-Full, opened-If, opened-Return, opened-Switch, opened-While}
use Rattle.dm_program.proofs.SortLemmas.{Sorted, is-Block, is-Declare, is-Full, is-If, is-Switch, is-Case, is-Default, is-While, is-Do, is-For, is-Break, is-Continue, is-Return, is-inert, sorted}
use Rattle.dm_frame.proofs.BeginLemmas.{seen-as}
use Rattle.dm_frame.specs.Entering.{named_on, made_on, IsEntered}

-- ---- numbers in order are those of new objects

length-from : (table : Table) (n : ℕ) (blocks : List Block) (older : Memory) → length (numbered_from table n blocks older) ≡ length blocks + length older
length-from table n [] older = omega arith
length-from table n (block ∷ blocks) older =
    let later = length-from table (suc n) blocks ((n, view_of_block table block) ∷ older) in omega (arith, later)

-- there are as many objects as the code keeps
pub length-view : (table : Table) (blocks : List Block) → length (view_of_blocks table blocks) ≡ length blocks
length-view table blocks = length-from table 0 blocks [] ∙ omega arith

pub named-order : (memory : Memory) (i n : ℕ) (ds : List ℕ) (objects : Objects) → length memory + i ≡ n → named_from (in_order memory) i ds objects ≡ named_on n ds objects
named-order memory i n [] objects e = refl
named-order memory i n (d ∷ ds) objects e =
    named-order memory (suc i) (suc n) ds ((d, length memory + i) ∷ objects) (omega (arith, e)) ∙ ap (λ k. named_on (suc n) ds ((d, k) ∷ objects)) e

pub made-order : (program : Program) (memory : Memory) (i n : ℕ) (ds : List ℕ) (after : Memory) → length memory + i ≡ n → made_from program (in_order memory) i ds after ≡ made_on program n ds after
made-order program memory i n [] after e = refl
made-order program memory i n (d ∷ ds) after e =
    made-order program memory (suc i) (suc n) ds ((length memory + i, new_block (layout program) (type_declared program d)) ∷ after) (omega (arith, e))
    ∙ ap (λ k. made_on program (suc n) ds ((k, new_block (layout program) (type_declared program d)) ∷ after)) e

-- ---- the newer objects stand in front

-- those that the declarations name, the newest first
abbrev pub newer_on : ℕ → List ℕ → Objects
newer_on n ds = named_on n ds []

named-front : (n : ℕ) (ds : List ℕ) (a b : Objects) → named_on n ds (a ++ b) ≡ named_on n ds a ++ b
named-front n [] a b = refl
named-front n (d ∷ ds) a b = named-front (suc n) ds ((d, n) ∷ a) b

pub newer-front : (n : ℕ) (ds : List ℕ) (objects : Objects) → named_on n ds objects ≡ newer_on n ds ++ objects
newer-front n ds objects = named-front n ds [] objects

-- ---- one declaration after the other

named-append : (n m : ℕ) (ds es : List ℕ) (objects : Objects) → m ≡ n + length ds → named_on n (ds ++ es) objects ≡ named_on m es (named_on n ds objects)
named-append n m [] es objects e = let same : n ≡ m = omega (arith, e) in ap (λ k. named_on k es objects) same
named-append n m (d ∷ ds) es objects e = named-append (suc n) m ds es ((d, n) ∷ objects) (omega (arith, e))

made-append : (program : Program) (n m : ℕ) (ds es : List ℕ) (memory : Memory) → m ≡ n + length ds → made_on program n (ds ++ es) memory ≡ made_on program m es (made_on program n ds memory)
made-append program n m [] es memory e = let same : n ≡ m = omega (arith, e) in ap (λ k. made_on program k es memory) same
made-append program n m (d ∷ ds) es memory e = made-append program (suc n) m ds es ((n, new_block (layout program) (type_declared program d)) ∷ memory) (omega (arith, e))

pub none-entered : (program : Program) (objects : Objects) (blocks : List Block) → AreKnown program.table blocks → IsEntered program [] objects blocks objects blocks
none-entered program objects blocks known = record { names = refl; memory = refl; count = omega arith; known = known }

pub both-entered : (program : Program) (ds es : List ℕ) (objects named other : Objects) (blocks made later : List Block)
    → IsEntered program ds objects blocks named made → IsEntered program es named made other later → IsEntered program (ds ++ es) objects blocks other later
both-entered program ds es objects named other blocks made later first second = record {
  names = second.names
      ∙ (ap (named_on (length made) es) first.names ∙ sym (named-append (length blocks) (length made) ds es objects first.count));
  memory = second.memory
      ∙ (ap (made_on program (length made) es) first.memory ∙ sym (made-append program (length blocks) (length made) ds es (view_of_blocks program.table blocks) first.count));
  count = let l : length (ds ++ es) ≡ length ds + length es = length-append ds es in omega (arith, first.count, second.count, l);
  known = second.known;
}

pub one-entered : (program : Program) (d kind : ℕ) (block : Block) (objects named : Objects) (blocks made : List Block) → type_declared program d ≡ type_of program.table kind
    → view_of_block program.table block ≡ new_block (laid_out program.table) (type_of program.table kind) → named ≡ (d, length blocks) ∷ objects → made ≡ blocks ++ block ∷ []
    → AreKnown program.table made → IsEntered program (d ∷ []) objects blocks named made
one-entered program d kind block objects named blocks made typed seen is makes known = record {
  names = is;
  memory = ap (view_of_blocks program.table) makes
      ∙ (more-view program.table blocks block
      ∙ ap (λ one. (length blocks, one) ∷ view_of_blocks program.table blocks) (seen ∙ ap (new_block (layout program)) (sym typed)));
  count = let l : length (blocks ++ block ∷ []) ≡ length blocks + 1 = length-append blocks (block ∷ []) in ap length makes ∙ omega (arith, l);
  known = known;
}

-- what the definition makes where its names are in order
pub in-order : (program : Program) (ds : List ℕ) (objects named : Objects) (blocks made : List Block) → IsEntered program ds objects blocks named made
    → (named_from (in_order (view_of_blocks program.table blocks)) 0 ds objects ≡ named)
    × (made_from program (in_order (view_of_blocks program.table blocks)) 0 ds (view_of_blocks program.table blocks) ≡ view_of_blocks program.table made)
in-order program ds objects named blocks made entered =
    let e : length (view_of_blocks program.table blocks) + 0 ≡ length blocks = let l = length-view program.table blocks in omega (arith, l) in (
      named-order (view_of_blocks program.table blocks) 0 (length blocks) ds objects e ∙ sym entered.names,
      made-order program (view_of_blocks program.table blocks) 0 (length blocks) ds (view_of_blocks program.table blocks) e ∙ sym entered.memory,
    )

-- ---- items that declare nothing

module _ (program : Program) (table : Table) (core : Core) (no-declaration : (lengths : List Core) (locals : List Local) → (out-Core core).form ≡ form.Declare lengths locals → ⊥) where
  plainly : (opening : Opened) → opened_form table (out-Core core).form ≡ opening → declared_by_label program opening.label ≡ [] → declared_by program (view table core) ≡ []
  plainly opening opens none = ap (declared_by program) (seen-as table core opening opens) ∙ none

  declared-sort : Sorted table (out-Core core).form → declared_by program (view table core) ≡ []
  declared-sort (is-Block items is) = plainly _ (ap (opened_form table) is ∙ opened-Block table items) refl
  declared-sort (is-Declare lengths locals is) = absurd (no-declaration lengths locals is)
  declared-sort (is-Full a is) = plainly _ (ap (opened_form table) is ∙ opened-Full table a) refl
  declared-sort (is-If a b c is) = plainly _ (ap (opened_form table) is ∙ opened-If table a b c) refl
  declared-sort (is-Switch a items is) = plainly _ (ap (opened_form table) is ∙ opened-Switch table a items) refl
  declared-sort (is-Case a b is) = plainly _ (ap (opened_form table) is ∙ opened-Case table a b) refl
  declared-sort (is-Default a is) = plainly _ (ap (opened_form table) is ∙ opened-Default table a) refl
  declared-sort (is-While a b is) = plainly _ (ap (opened_form table) is ∙ opened-While table a b) refl
  declared-sort (is-Do a b is) = plainly _ (ap (opened_form table) is ∙ opened-Do table a b) refl
  declared-sort (is-For a b c body is) = plainly _ (ap (opened_form table) is ∙ opened-For table a b c body) refl
  declared-sort (is-Break is) = plainly _ (ap (opened_form table) is ∙ opened-Break table) refl
  declared-sort (is-Continue is) = plainly _ (ap (opened_form table) is ∙ opened-Continue table) refl
  declared-sort (is-Return a is) = plainly _ (ap (opened_form table) is ∙ opened-Return table a) refl
  declared-sort (is-inert inert) = plainly _ refl (inert.declared program)

  pub declared-other : declared_by program (view table core) ≡ []
  declared-other = declared-sort (sorted table (out-Core core).form)

pub empty : {A : Type 0} (xs : List A) → length xs ≡ 0 → xs ≡ []
empty [] none = refl
empty (x ∷ xs) none = absurd (omega (arith, none))
