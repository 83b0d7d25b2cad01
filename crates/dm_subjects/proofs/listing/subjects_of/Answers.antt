-- One definition after another.
use Rattle.std.proofs.Common.{◌≡◌, ◌+◌, List, [], ◌∷◌, ◌++◌, map, take, sym, ap, ◌∙◌, Bor}
use Rattle.std.proofs.lemmas.List.{map-append, take_more}
use Rattle.dm_token.specs.declared.expansion.Definition.{Definition}
use Rattle.dm_subjects.specs.declared.subject.Subject.{Subject}
use Rattle.dm_subjects.specs.Subjects.{subject_of}
use Rattle.dm_subjects.proofs.listing.subjects_of.Goals as goal

pub loop-definition-preserved : goal.loop-definition-preserved
loop-definition-preserved c =
    let loaded = c.args.loader.now in
    let found : List (Bor Definition) = c.args.found.now in
    let at = c.loop-definition.definition-index in
    let one : Bor Definition = c.definition-item.result in
    let now : Bor Definition → Definition = λ other. other.now in
    let so_far : List Definition = map now (take at found) in
    let subject = c.in_ok-subject_of.ensures loaded c.in_ok-newlines.ensures.slots (c.items.ensures ∙ c.in_ok-newlines.ensures.newlines) in
    let more : take (at + 1) found ≡ take at found ++ one ∷ [] =
    take_more found at one c.loop-definition-test.true ∙ ap (λ (other : Bor Definition). take at found ++ other ∷ []) (sym c.definition-item.is) in
    let whole : map now (take (at + 1) found) ≡ so_far ++ one.now ∷ [] = ap (map now) more ∙ map-append now (take at found) (one ∷ []) in
    c.in_ok-push.ensures.ok ∙ ap (λ (subjects : List Subject). subjects ++ c.in_ok-subject_of.field-0 ∷ []) c.loop-definition.invariant
    ∙ ap (λ (other : Subject). map (subject_of loaded) so_far ++ other ∷ []) subject
    ∙ sym (ap (map (subject_of loaded)) whole ∙ map-append (subject_of loaded) so_far (one.now ∷ []))
