-- What is given for an external declaration.
use Rattle.std.specs.Prelude.{Result, Ok, Err, IfErr}
use Rattle.std.proofs.Common.{◌≡◌, ℕ, List, [], Option, Some, None, refl, sym, ap, ◌∙◌, subst, arith, append-nil}
use Rattle.std.specs.Prelude.{slice_get, MatchOption}
use Rattle.dm_token.specs.Refusals.{syntax}
use Rattle.dm_token.specs.declared.token.CToken.{CToken}
use Rattle.dm_token.specs.declared.stop.Refusal.{Refusal}
use Rattle.dm_token.specs.declared.stop.Stop.{Stop}
use Rattle.dm_token.specs.declared.stop.Stop.TheVariants.{Memory, Refused, Limit, ReadFault}
use Rattle.dm_token.specs.declared.place.Span.{Span}
use Rattle.dm_syn.specs.declared.declared.Declared.{Declared}
use Rattle.dm_syn.specs.declared.statement.External.{External}
use Rattle.dm_syn.specs.declared.statement.ExternalForm.{ExternalForm}
use Rattle.dm_syn.specs.declared.statement.ExternalForm.TheVariants as external_form
use Rattle.dm_syn.specs.Sources.{Source}
use Rattle.dm_syn.specs.Trees as tree
use Rattle.dm_syn.specs.Views as view
use Rattle.dm_syn.specs.Spans.{external_span}
use Rattle.dm_syn.specs.Scopes.{external_declares}
use Rattle.dm_pexpr.specs.declared.part.Part.{Part}
use Rattle.dm_pexpr.specs.Parsing.{span_of}
use Rattle.dm_pexpr.specs.Parts.{IsPart, Gives}
use Rattle.dm_pexpr.specs.NameMaps.{NameMap}
use Rattle.dm_pexpr.specs.Scoping.{known_with}
use Rattle.dm_pexpr.proofs.PartLemmas.{part-of}
use Rattle.dm_pexpr.proofs.Soundness.{inside}
use Rattle.dm_pexpr.proofs.ReadExprs.{nothing-of}
use Rattle.dm_pstmt.specs.Kinds.{an_external}
use Rattle.dm_pstmt.specs.Readings.{IsExternalAt, external_at}
use Rattle.dm_pstmt.specs.Answers.{IsExternalFound, Refuses, Keeps}
use Rattle.dm_pstmt.proofs.SoundExternals.{external-found}
use Rattle.dm_pstmt.proofs.CompleteExternals.{external-only}
use Rattle.dm_pstmt.proofs.Inside.{stands-inside}

-- the span of what a tree of the code stands for
span-of-form : (span : Span) (form : ExternalForm) → external_span (view.external_view span form) ≡ span
span-of-form span (external_form.Declaration declaration) = refl
span-of-form span (external_form.Function specifiers declarator body) = refl

-- an external declaration that is read
pub external-given : (source : Source) (now : List Declared) (at : ℕ) (part : Part External) → IsPart (an_external source) source [] now part (external_at source [] at) → IsExternalFound source at (part.tree, part.after)
external-given source now at part p =
    let v : tree.External = view.external part.tree in
    let formed : IsExternalAt source [] at v = external-found source [] at v p.read in
    let on = stands-inside source [] at v formed in
    let begins : (external_span v).first ≡ at = formed.begins in
    record {
      formed = formed;
      spans = sym (span-of-form part.tree.span part.tree.form) ∙ (λ i. span_of (begins i) (sym p.ends i));
      onward = (let e = on.0 in let f = p.ends in omega (arith, e, f));
      within = p.within;
    }

pub external-the-one : (source : Source) (now : List Declared) (at : ℕ) (part : Part External) (it : tree.External) → IsPart (an_external source) source [] now part (external_at source [] at) → IsExternalAt source [] at it → view.external part.tree ≡ it
external-the-one source now at part it p is = inside _ _ (sym p.read ∙ external-only source [] at it is)

pub external-none : (source : Source) (at : ℕ) (it : tree.External) → external_at source [] at ≡ None → IsExternalAt source [] at it → ⊥
external-none source at it none is = let both : None ≡ Some it = sym none ∙ external-only source [] at it is in cc

-- what is read where nothing is declared yet
pub external-part : (source : Source) (before now : List Declared) (at : ℕ) (found : Option (Part External)) (part : Part External) → before ≡ [] → found ≡ Some part
    → Gives (an_external source) source before now found (external_at source before at) → IsPart (an_external source) source [] now part (external_at source [] at)
external-part source before now at found part fresh there given =
    part-of (an_external source) source [] now found part (external_at source [] at) there (subst (λ ns. Gives (an_external source) source ns now found (external_at source ns at)) fresh given)

-- the refusal where nothing is read
abbrev refusal-at : CToken → Refusal
refusal-at token = record { number = syntax; detail = 0; place = token.place }

stands-there : (found : Option CToken) (token : CToken) → found ≡ Some token → MatchOption found ⊥ (λ it. refusal-at token ≡ refusal-at it)
stands-there found token is = subst (λ (o : Option CToken). MatchOption o ⊥ (λ it. refusal-at token ≡ refusal-at it)) (sym is) refl

pub external-refused : (source : Source) (before now : List Declared) (at : ℕ) (found : Option (Part External)) (token : CToken) (stop : Stop) → before ≡ [] → found ≡ None
    → Gives (an_external source) source before now found (external_at source before at) → slice_get source.tokens at ≡ Some token
    → stop ≡ Refused (record { number = syntax; detail = 0; place = token.place }) → Refuses source at stop
external-refused source before now at found token stop fresh there given stands is =
    let none : external_at source [] at ≡ None =
    nothing-of (an_external source) source [] now found (external_at source [] at) there (subst (λ ns. Gives (an_external source) source ns now found (external_at source ns at)) fresh given) in
    let refused : Refuses source at (Refused (refusal-at token)) = (λ it formed. external-none source at it none formed, stands-there (slice_get source.tokens at) token stands) in
    subst (Refuses source at) (sym is) refused

-- the names that are known behind it
pub known-behind : (source : Source) (now : List Declared) (at : ℕ) (part : Part External) (names known : NameMap) → IsPart (an_external source) source [] now part (external_at source [] at)
    → known ≡ known_with names now → known ≡ known_with names (external_declares source (view.external part.tree))
known-behind source now at part names known p is = is ∙ ap (known_with names) (p.scoped ∙ append-nil (external_declares source (view.external part.tree)))

-- names that stay
pub keeps-same : (names : NameMap) (stop : Stop) → Keeps names names stop
keeps-same names Memory = tt
keeps-same names (Refused given) = refl
keeps-same names (Limit given) = tt
keeps-same names (ReadFault file) = tt

pub keeps-all : {A : Type 0} (names : NameMap) (result : Result A Stop) → IfErr result (Keeps names names)
keeps-all names (Ok value) = tt
keeps-all names (Err stop) = keeps-same names stop
