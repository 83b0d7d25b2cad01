-- Structs between where they begin and where they end.
use Rattle.std.specs.Prelude.{◌≡◌, ℕ, Bool, List, [], ◌∷◌, reverse, Option, Some, None, option_map, IfSome, Result, Ok, IfOk}
use Rattle.std.proofs.Common.{sym, ap, ◌∙◌, subst}
use Rattle.dm_token.specs.declared.place.Span.{Span}
use Rattle.dm_token.specs.declared.stop.Stop.{Stop}
use Rattle.dm_type.specs.declared.shape.Member.{Member}
use Rattle.dm_type.specs.declared.shape.Shape.{Shape}
use Rattle.dm_type.specs.CTypes.{CType}
use Rattle.dm_type.specs.Tables.{IsId}
use Rattle.dm_syn.specs.Trees.{Members}
use Rattle.dm_typing.specs.declared.known.Known.{Known as Held}
use Rattle.dm_typing.specs.declared.typer.Typer.{Typer}
use Rattle.dm_typing.specs.Known.{Known, Setting, Outcome, after}
use Rattle.dm_tree.specs.Units.{Declaration}
use Rattle.dm_enames.specs.Tags.{struct_at, IsInnermost}
use Rattle.dm_edeclarator.specs.Steps.{fields_over, FieldsFit, Follows}
use Rattle.dm_eexpr.specs.Parts.{begun_with, struct_with}
use Rattle.dm_typing.specs.Typing.{TypedMember, fields_of, struct_ended, struct_begun, beginning, with_new_struct, tag_inside}
use Rattle.dm_typing.specs.Views.{Begins, type_over, known_over, source_of, setting_of, Gives}
use Rattle.dm_edeclarator.proofs.ReachLemmas.{Reaches, passes, ends}
use Rattle.dm_eexpr.proofs.KeepLemmas.{KeepsIn, fields-keep}
use Rattle.dm_typing.proofs.LaterLemmas.{begins-itself, begins-on, type-later}
use Rattle.dm_eexpr.proofs.CloseLemmas.{new-begun}

-- the struct whose members follow is the innermost of those whose members are being read
begins-within : (setting : Setting) (known : Known) (tag : Option ℕ) (found : Option Declaration) (number : Option ℕ) → IfSome number (λ n. (beginning (with_new_struct setting known tag found) number).begun ≡ n ∷ known.begun)
begins-within setting known tag found None = tt
begins-within setting known tag found (Some n) = ap (λ others. n ∷ others) (new-begun setting known tag found)

with-same : (number : Option ℕ) (before behind outer : List ℕ) → behind ≡ before → IfSome number (λ n. before ≡ n ∷ outer) → IfSome number (λ n. behind ≡ n ∷ outer)
with-same None before behind outer same within = tt
with-same (Some n) before behind outer same within = same ∙ within

innermost-still : (old new : Held) (one : Option ℕ) → Begins old.types.shapes new.types.shapes → reverse new.begun.items ≡ reverse old.begun.items → IfSome one (IsId old.types) → IfSome one (IsInnermost old)
    → IfSome one (IsInnermost new)
innermost-still old new None more same inside innermost = tt
innermost-still old new (Some kind) more same inside innermost =
    (innermost.0, innermost.1, type-later old.types.shapes new.types.shapes kind more inside ∙ innermost.2, same ∙ innermost.3)

module _ (typer : Typer) (used : Bool) (span : Span) (tag : Option ℕ) (members : Members) (old begun behind : Held) (found : Option ℕ) (shapes : Begins old.types.shapes begun.types.shapes)
    (kind : (later : List Shape) → Begins begun.types.shapes later
    → option_map (type_over later) found ≡ struct_at (struct_begun (known_over later old) (tag_inside (setting_of typer) (known_over later old) tag)))
    (known : (later : List Shape) → Begins begun.types.shapes later → known_over later begun ≡ begun_with (setting_of typer) (known_over later old) tag) where
  abbrev struct-whole : List Shape → Outcome CType
  struct-whole later = struct_with (setting_of typer) used (known_over later old) span tag members

  abbrev number-in : List Shape → Option ℕ
  number-in later = struct_begun (known_over later old) (tag_inside (setting_of typer) (known_over later old) tag)

  abbrev fields-in : List Shape → Outcome (List TypedMember)
  fields-in later = fields_of (setting_of typer) used (known_over later begun) [] members

  abbrev struct-next : List Shape → Known → List TypedMember → Outcome CType
  struct-next later now typed = struct_ended now span (number-in later) (known_over later old).begun typed

  struct-reaches : Reaches old begun struct-whole (λ later. after (fields-in later) (struct-next later))
  struct-reaches = record {
    shapes = shapes;
    is = λ later on. ap (λ k. after (fields_of (setting_of typer) used k [] members) (struct-next later)) (sym (known later on));
  }

  module _ (fields : List Member) (f : Follows FieldsFit fields_over (source_of typer) begun behind (Ok fields) fields-in) where
    -- the structs whose members are being read are the same behind the members
    still-begun : (later : List Shape) → Begins behind.types.shapes later → reverse behind.begun.items ≡ reverse begun.begun.items
    still-begun later on =
        let keeps = subst (KeepsIn (known_over later begun)) (f.gives later on) (fields-keep (setting_of typer) used (known_over later begun) [] members) in keeps.leads.begun

    outer-begun : (later : List Shape) → Begins behind.types.shapes later → IfSome (number-in later) (λ number. reverse behind.begun.items ≡ number ∷ (known_over later old).begun)
    outer-begun later on =
        let before = begins-on begun.types.shapes behind.types.shapes later f.shapes on in
        with-same (number-in later) (begun_with (setting_of typer) (known_over later old) tag).begun (reverse behind.begun.items) (known_over later old).begun
        (still-begun later on ∙ ap (λ (k : Known). k.begun) (known later before))
        (begins-within (setting_of typer) (known_over later old) tag (tag_inside (setting_of typer) (known_over later old) tag) (number-in later))

    pub struct-innermost : IfSome found (IsId begun.types) → IfSome found (IsInnermost begun) → IfSome found (IsInnermost behind)
    struct-innermost inside innermost = innermost-still begun behind found f.shapes (still-begun behind.types.shapes (begins-itself behind.types.shapes)) inside innermost

    pub struct-made : (ended : Held) (result : Result ℕ Stop) → ended.types.shapes ≡ behind.types.shapes → IfOk result (IsId ended.types)
        → ((later : List Shape) → Begins ended.types.shapes later → (at : Option ℕ) (outer : List ℕ) → option_map (type_over later) found ≡ struct_at at
        → IfSome at (λ number. reverse behind.begun.items ≡ number ∷ outer)
        → Gives (type_over later) (source_of typer) (known_over later ended) result (struct_ended (known_over later behind) span at outer (fields_over later fields)))
        → Follows IsId type_over (source_of typer) old ended result struct-whole
    struct-made ended result same numbered gives =
        ends IsId type_over (source_of typer) old behind ended struct-whole (λ later. struct-next later (known_over later behind) (fields_over later fields))
        (passes FieldsFit fields_over (source_of typer) old begun behind struct-whole fields-in struct-next fields struct-reaches f)
        result
        (record {
          shapes = subst (Begins behind.types.shapes) (sym same) (begins-itself behind.types.shapes);
          numbered = numbered;
          gives = λ later on.
              let on_behind = subst (λ shapes. Begins shapes later) same on in
              gives later on (number-in later) (known_over later old).begun (kind later (begins-on begun.types.shapes behind.types.shapes later f.shapes on_behind)) (outer-begun later on_behind);
        })
