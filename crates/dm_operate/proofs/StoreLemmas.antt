-- Where the value of an object is replaced, and where that is undefined.
use Rattle.std.proofs.Common.{◌≡◌, [], ◌∷◌, ◌++◌, List, Option, Some, None, sym, ap, ◌∙◌}
use Rattle.dm_type.specs.CTypes.{CType}
use Rattle.dm_meaning.specs.declared.cause.Cause.{Cause}
use Rattle.dm_meaning.specs.Causes.{earliest, update_causes}
use Rattle.dm_meaning.specs.Memory.{written}
use Rattle.dm_meaning.specs.Operations.{Did, Made, Scene, World, breaks, decided, gives, of_value, replace_at}
use Rattle.dm_meaning.specs.Programs.{layout}
use Rattle.dm_meaning.specs.Values.{At, Value}

module _ (scene : Scene) (world : World) (locks : List At) (kind : CType) (at : At) (meant : Made) where
  -- the first of its causes
  abbrev Is : Option Cause → Type 0
  Is cause = cause ≡ earliest (meant.causes ++ update_causes (layout scene.program) world.memory locks kind at)

  -- what is stored, and what is given
  abbrev stores : Value → Value → Did
  stores value given = gives (record world { memory = written world.memory at value }) (of_value given) (at ∷ [])

  pub replace-breaks : (found : Option Cause) (cause : Cause) (given : Value) → Is found → found ≡ Some cause → breaks cause ≡ replace_at scene world locks kind at meant given
  replace-breaks found cause given is some = ap (λ o. decided o (stores meant.value given)) (sym some ∙ is)

  pub replace-gives : (found : Option Cause) (value other given : Value) (did : Did) → Is found → found ≡ None → value ≡ meant.value → other ≡ given
      → did ≡ stores value other → did ≡ replace_at scene world locks kind at meant given
  replace-gives found value other given did is none same result e =
      e ∙ ap (λ v. stores v other) same ∙ ap (stores meant.value) result ∙ ap (λ o. decided o (stores meant.value given)) (sym none ∙ is)
