-- Typedef names, as the code finds them.
use Rattle.std.specs.Prelude.{◌≡◌, ℕ, Some, None}
use Rattle.std.proofs.Common.{sym, ◌∙◌}
use Rattle.dm_type.specs.CTypes.{CType}
use Rattle.dm_syn.specs.Sources.{spelling_at}
use Rattle.dm_tree.specs.Units.{Declaration}
use Rattle.dm_typing.specs.Known.{Known, Setting, given, broken, meaning_of}
use Rattle.dm_typing.specs.Specifiers.{Said, with_type}
use Rattle.dm_enames.specs.Tags.{type_meant}
use Rattle.dm_edeclarator.specs.Steps.{typedef_said}
use Rattle.dm_typing.proofs.GivesLemmas.{found-it, found-none}
use Rattle.dm_edeclarator.proofs.SpecifierLemmas.{if-mapped}

pub typedef-found : (setting : Setting) (known : Known) (said : Said) (at : ℕ) (kind : CType) → Some kind ≡ type_meant (meaning_of known (spelling_at setting.source at))
    → typedef_said setting known said at ≡ given known (with_type kind said)
typedef-found setting known said at kind h =
    if-mapped (λ (entry : Declaration). entry.kind) (meaning_of known (spelling_at setting.source at)) 1 at (λ (type : CType). given known (with_type type said))
    ∙ found-it (type_meant (meaning_of known (spelling_at setting.source at))) kind 1 at (λ (type : CType). given known (with_type type said)) (sym h)

pub typedef-none : (setting : Setting) (known : Known) (said : Said) (at : ℕ) → None ≡ type_meant (meaning_of known (spelling_at setting.source at)) → typedef_said setting known said at ≡ broken 1 at
typedef-none setting known said at h =
    if-mapped (λ (entry : Declaration). entry.kind) (meaning_of known (spelling_at setting.source at)) 1 at (λ (type : CType). given known (with_type type said))
    ∙ found-none (type_meant (meaning_of known (spelling_at setting.source at))) 1 at (λ (type : CType). given known (with_type type said)) (sym h)
