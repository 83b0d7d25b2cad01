-- Programs whose safe expressions come to a value wherever they stand in the full expression under evaluation.
--     IsSetDeclaration program needs d      the declaration is of an integer object that has a value where it is named
--     IsSafeTree program sets tree      an expression that is constant and has a value, or made of reads of such objects by operators that can't go
--         wrong
--     AreSafeTrees program needs sets safe      the safe expressions are such, and no expression takes an object for set in its own initialiser
use Rattle.std.specs.Prelude.{◌≡◌, ◌⊎◌, ℕ, Bool, true, false, Some, ℤ}
use Rattle.dm_tree.specs.Scenes.{is_integer}
use Rattle.dm_tree.specs.Trees.{Tree}
use Rattle.dm_tree.specs.Units.{Declaration}
use Rattle.dm_meaning.specs.Among.{IsAmong}
use Rattle.dm_meaning.specs.Called.{is_static_number}
use Rattle.dm_meaning.specs.Programs.{Definition, Program, constant_of, declaration_of}
use Rattle.dm_meaning.specs.Running.{begun}
use Rattle.dm_rewrite.specs.Computed.{IsPure}
use Rattle.dm_effect.specs.Forms.{is_built}
use Rattle.dm_effect.specs.Safe.{safe_rule}
use Rattle.dm_safe.specs.Spared.{TreeSpares}

-- it has static storage duration and is defined (6.7.9p10); or it is one of those that are set where they are named, which are automatic
pub record IsSetDeclaration (program : Program) (needs : ℕ → Bool) (d : ℕ) : Type 0 where
  pub entry : Declaration
  pub declared : declaration_of program d ≡ Some entry
  pub integer : is_integer entry.kind ≡ true
  pub set : (is_static_number program.statics d ≡ true) ⊎ ((needs d ≡ true) × (is_static_number program.statics d ≡ false))

-- by a test for what it takes for set
pub record IsSafeTree (program : Program) (sets : ℕ → Bool) (tree : Tree) : Type 0 where
  pub pure : IsPure (begun tree)
  pub form : ((z : ℤ) × (constant_of program tree ≡ Some z)) ⊎ (is_built (safe_rule sets) tree ≡ true)

pub record AreSafeTrees (program : Program) (needs : ℕ → Bool) (sets : Tree → ℕ → Bool) (safe : Tree → Bool) : Type 0 where
  pub trees : (tree : Tree) → safe tree ≡ true → IsSafeTree program (sets tree) tree
  pub objects : (tree : Tree) (d : ℕ) → sets tree d ≡ true → IsSetDeclaration program needs d
  pub initialisers : (definition : Definition) → IsAmong definition program.functions → TreeSpares needs sets definition.body
