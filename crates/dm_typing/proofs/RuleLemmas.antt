-- What each rule gives on parts that are well typed is well typed.
use Rattle.std.specs.Prelude.{◌≡◌, ℕ, Bool, true, false, ◌&&◌, not, if◌then◌else◌, List, [], ◌∷◌, Option, Some, None, is_some, option_and_then, option_map, refl}
use Rattle.std.proofs.Common.{ap, subst}
use Rattle.dm_int.specs.declared.Kind.{Kind}
use Rattle.dm_int.specs.declared.Kind.TheVariants as k
use Rattle.dm_int.specs.declared.Op.{Op}
use Rattle.dm_int.specs.declared.Op.TheVariants as o
use Rattle.dm_int.specs.Kinds.{promote}
use Rattle.dm_type.specs.CTypes.{CType, integer}
use Rattle.dm_syn.specs.declared.symbol.Symbol.{Symbol}
use Rattle.dm_syn.specs.declared.symbol.Symbol.TheVariants as symbol
use Rattle.dm_tree.specs.declared.tree.Sign.{Sign}
use Rattle.dm_tree.specs.declared.tree.Sign.TheVariants as s
use Rattle.dm_tree.specs.Constants.{integer_kind}
use Rattle.dm_tree.specs.Trees.{Tree, label_of, kind_of, is_statement}
use Rattle.dm_tree.specs.Trees as label
use Rattle.dm_tree.specs.Scenes.{is_lvalue, is_integer, is_scalar}
use Rattle.dm_typing.specs.declared.extent.Extent.{Extent}
use Rattle.dm_typing.specs.Known.{Known, Setting}
use Rattle.dm_typing.specs.Operators.{row_at, operator_of_row, sign_of_row}
use Rattle.dm_typing.specs.Conversions.{made, is_complete, complete_target, promoted}
use Rattle.dm_typing.specs.Rules.{operated, rule_of, indexed, signed, signed_integer}
use Rattle.dm_typing.specs.Typing.{typed_operation, typed_logic, typed_binary, typed_follow, typed_address, typed_sizeof, typed_index, index_tree, typed_sign, comma_tree, comma_of}
use Rattle.dm_typing.specs.Sound.{IsProper, IsSound, IsSoundValue, AreSound, Gives}
use Rattle.dm_typing.proofs.KindLemmas.{promoted-again}
use Rattle.dm_typing.proofs.TypeLemmas.{both-hold}
use Rattle.dm_typing.proofs.ConversionLemmas.{obeyed, given-if, complete-of, pointer-value, as-kind-fits}
use Rattle.dm_typing.proofs.OperandLemmas.{operated-fits, indexed-fits}

-- a value is an expression
pub value-sound : (known : Known) (tree : Tree) → IsSoundValue known tree → IsSound known tree
value-sound known tree sound =
    ((both-hold (not (is_lvalue tree)) (not (is_statement (label_of tree))) sound.0).1, (λ h. sound.1), sound.2, sound.3)

module _ (setting : Setting) (known : Known) (span : Extent) where
  pub operation-gives : (a b : Tree) (found : Option Op) → IsSoundValue known a → IsSoundValue known b → Gives known IsSoundValue (typed_operation setting known span a b found)
  operation-gives a b None sound other = tt
  operation-gives a b (Some op) sound other =
      given-if known IsSoundValue (operated known op a b) (rule_of op) span.inner.first _
      (λ one h. let fits = operated-fits known op a b sound other one h in
      (refl, (refl, fits.3, fits.4, ((fits.0.0, fits.1.0, fits.2), (fits.0.3, (fits.1.3, tt))))))

  both-gives : (a b : Tree) → IsSoundValue known a → IsSoundValue known b → Gives known IsSoundValue (typed_logic setting known span label.both a b)
  both-gives a b sound other =
      obeyed known IsSoundValue (is_scalar (kind_of a) && is_scalar (kind_of b)) 26 span.inner.first _
      (λ h. let parts = both-hold (is_scalar (kind_of a)) (is_scalar (kind_of b)) h in
      (refl, (refl, refl, tt, (((sound.0, parts.0), (other.0, parts.1), refl), (sound.3, (other.3, tt))))))

  either-gives : (a b : Tree) → IsSoundValue known a → IsSoundValue known b → Gives known IsSoundValue (typed_logic setting known span label.either a b)
  either-gives a b sound other =
      obeyed known IsSoundValue (is_scalar (kind_of a) && is_scalar (kind_of b)) 26 span.inner.first _
      (λ h. let parts = both-hold (is_scalar (kind_of a)) (is_scalar (kind_of b)) h in
      (refl, (refl, refl, tt, (((sound.0, parts.0), (other.0, parts.1), refl), (sound.3, (other.3, tt))))))

  pub binary-gives : (operator : ℕ) (a b : Tree) (it : Symbol) → IsSoundValue known a → IsSoundValue known b
      → Gives known IsSoundValue (typed_binary setting known span operator a b it)
  binary-gives operator a b symbol.And sound other = both-gives a b sound other
  binary-gives operator a b symbol.Or sound other = either-gives a b sound other
  binary-gives operator a b it sound other = operation-gives a b (option_and_then operator_of_row (row_at setting.source operator)) sound other

  pub follow-sound : (operand : Tree) (to : CType) → IsSoundValue known operand → complete_target known (kind_of operand) ≡ Some to
      → IsSound known (made setting.source span label.follow to (operand ∷ []))
  follow-sound operand to sound h =
      let parts = complete-of known (kind_of operand) to h in
      let is = pointer-value (kind_of operand) to sound.1 parts.0 in
      (refl, (λ no. absurd (cc)), subst IsProper is sound.2, ((sound.0, is, parts.1), (sound.3, tt)))

  pub follow-gives : (operand : Tree) → IsSoundValue known operand → Gives known IsSound (typed_follow setting known span operand)
  follow-gives operand sound =
      given-if known IsSound (complete_target known (kind_of operand)) 15 span.inner.first _ (λ to h. (refl, follow-sound operand to sound h))

  pub address-gives : (operand : Tree) → IsSound known operand → Gives known IsSoundValue (typed_address setting known span operand)
  address-gives operand sound =
      obeyed known IsSoundValue (is_lvalue operand) 14 span.inner.first _ (λ h. (refl, (refl, refl, sound.2, ((h, refl), (sound.3, tt)))))

  pub sizeof-gives : (operand : Tree) → IsSound known operand → Gives known IsSoundValue (typed_sizeof setting known span operand)
  sizeof-gives operand sound =
      obeyed known IsSoundValue (is_complete known (kind_of operand)) 17 span.inner.first _
      (λ h. (refl, (refl, refl, tt, ((sound.0, h, refl), (sound.3, tt)))))

  indexed-sound : (a b : Tree) (type : CType) (found : Option CType) → IsSoundValue known a → IsSoundValue known b
      → complete_target known type ≡ found → indexed known (kind_of a) (kind_of b) ≡ Some type → IsSound known (index_tree setting span a b type found)
  indexed-sound a b type None sound other p h = value-sound known a sound
  indexed-sound a b type (Some to) sound other p h =
      let fits = indexed-fits known a b sound other type h in
      follow-sound (made setting.source span (label.binary o.Add) type (a ∷ b ∷ [])) to
      (refl, fits.3, fits.4, ((fits.0.0, fits.1.0, fits.2), (fits.0.3, (fits.1.3, tt)))) p

  pub index-gives : (a b : Tree) → IsSoundValue known a → IsSoundValue known b → Gives known IsSound (typed_index setting known span a b)
  index-gives a b sound other =
      given-if known IsSound (indexed known (kind_of a) (kind_of b)) 11 span.inner.first _
      (λ type h. (refl, indexed-sound a b type (complete_target known type) sound other refl h))

  promoted-sign : (sign : Sign) (operand : Tree) (one : Tree × CType)
      → ((kind : Kind) → IsSoundValue known operand → is_integer (kind_of operand) ≡ true
      → IsSoundValue known (made setting.source span (label.unary sign) (integer (promote kind)) (promoted kind operand ∷ [])))
      → IsSoundValue known operand → option_map (signed_integer operand) (integer_kind (kind_of operand)) ≡ Some one
      → IsSoundValue known (made setting.source span (label.unary sign) one.1 (one.0 ∷ []))
  promoted-sign sign operand one fits sound h = go (integer_kind (kind_of operand)) refl h
    where
      go : (found : Option Kind) → integer_kind (kind_of operand) ≡ found → option_map (signed_integer operand) found ≡ Some one
          → IsSoundValue known (made setting.source span (label.unary sign) one.1 (one.0 ∷ []))
      go (Some kind) e h =
          let same : (promoted kind operand, integer (promote kind)) ≡ one = cc in
          subst (λ (it : Tree × CType). IsSoundValue known (made setting.source span (label.unary sign) it.1 (it.0 ∷ []))) same (fits kind sound (ap is_some e))
      go None e h = absurd (cc)

  signed-sound : (sign : Sign) (operand : Tree) (one : Tree × CType) → IsSoundValue known operand → signed sign operand ≡ Some one
      → IsSoundValue known (made setting.source span (label.unary sign) one.1 (one.0 ∷ []))
  signed-sound s.Not operand one sound h = go (is_scalar (kind_of operand)) refl h
    where
      go : (test : Bool) → is_scalar (kind_of operand) ≡ test → (if test then Some (operand, integer k.Int) else None) ≡ Some one
          → IsSoundValue known (made setting.source span (label.unary s.Not) one.1 (one.0 ∷ []))
      go true e h =
          let same : (operand, integer k.Int) ≡ one = cc in
          subst (λ (it : Tree × CType). IsSoundValue known (made setting.source span (label.unary s.Not) it.1 (it.0 ∷ []))) same
          (refl, refl, tt, (((sound.0, e), refl), (sound.3, tt)))
      go false e h = absurd (cc)
  signed-sound sign operand one sound h =
      promoted-sign sign operand one
      (λ kind sound whole. let it = as-kind-fits known (promote kind) operand sound whole in
      (refl, refl, tt, ((it.0.0, it.1, promoted-again kind, refl), (it.0.3, tt)))) sound h

  pub sign-gives : (operator : ℕ) (operand : Tree) → IsSoundValue known operand → Gives known IsSoundValue (typed_sign setting known span operator operand)
  sign-gives operator operand sound =
      given-if known IsSoundValue (option_and_then sign_of_row (row_at setting.source operator)) 16 span.inner.first _
      (λ sign e. given-if known IsSoundValue (signed sign operand) 16 span.inner.first _ (λ one h. (refl, signed-sound sign operand one sound h)))

  comma-sound : (first : Tree) (others : List Tree) → IsSoundValue known first → AreSound known others → IsSoundValue known (comma_tree setting span first others)
  comma-sound first [] sound all = sound
  comma-sound first (second ∷ others) sound all =
      comma-sound (made setting.source span label.comma (kind_of second) (first ∷ second ∷ [])) others
      (refl, all.0.1, all.0.2, ((sound.0, all.0.0, refl), (sound.3, (all.0.3, tt)))) all.1

  pub comma-gives : (values : List Tree) → AreSound known values → (one : Tree) → comma_of setting span values ≡ Some one → IsSoundValue known one
  comma-gives [] all one h = absurd (cc)
  comma-gives (first ∷ others) all one h =
      let same : comma_tree setting span first others ≡ one = cc in subst (IsSoundValue known) same (comma-sound first others all.0 all.1)
