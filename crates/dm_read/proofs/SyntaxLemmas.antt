-- External declarations that stand one behind the other.
use Rattle.std.proofs.Common.{◌≡◌, ℕ, ◌<◌, List, [], ◌∷◌, ◌++◌, length, refl, sym, ap, ◌∙◌, arith, subst}
use Rattle.dm_token.specs.declared.token.CToken.{CToken}
use Rattle.dm_syn.specs.Spans.{external_span}
use Rattle.dm_syn.specs.Trees.{External}
use Rattle.dm_token.specs.declared.place.Span.{Span}
use Rattle.dm_syn.specs.declared.statement.ExternalForm.{ExternalForm}
use Rattle.dm_syn.specs.declared.statement.ExternalForm.TheVariants as external_form
use Rattle.dm_syn.specs.Views as view
use Rattle.dm_pexpr.specs.Answers.{source_with}
use Rattle.dm_pexpr.specs.NameMaps.{NameMap}
use Rattle.dm_pstmt.specs.Readings.{IsExternalAt}
use Rattle.std.specs.FinMap as finite
use Rattle.dm_token.specs.declared.stop.Stop.{Stop}
use Rattle.dm_token.specs.declared.stop.Stop.TheVariants.{Memory, Refused, Limit, ReadFault}
use Rattle.dm_pstmt.specs.Answers as at_place
use Rattle.dm_reading.specs.Syntax.{Stand, Refuses, names_behind}

-- one more
pub stand-more : (tokens : List CToken) (names known : NameMap) (at to : ℕ) (before : List External) (it : External) → Stand tokens names at before to known
    → IsExternalAt (source_with tokens known) [] to it → Stand tokens names at (before ++ it ∷ []) (external_span it).after (names_behind tokens known it)
unfolding Stand
stand-more tokens names known at to [] it h is = (
  subst (λ (n : ℕ). IsExternalAt (source_with tokens names) [] n it) (sym h.0) (subst (λ (m : NameMap). IsExternalAt (source_with tokens m) [] to it) (sym h.1) is),
  (refl, ap (λ (m : NameMap). names_behind tokens m it) h.1),
)
stand-more tokens names known at to (first ∷ others) it h is =
    (h.0, stand-more tokens (names_behind tokens names first) known (external_span first).after to others it h.1 is)

-- a refusal behind those that stand is the unit's
pub refused-there : (tokens : List CToken) (before : List External) (known : NameMap) (at : ℕ) (stop : Stop) → Stand tokens finite.empty 0 before at known → at < length tokens
    → at_place.Refuses (source_with tokens known) at stop → Refuses tokens stop
refused-there tokens before known at Memory stand within r = tt
refused-there tokens before known at (Refused given) stand within r = (at, record { before = before; known = known; stand = stand; within = within; none = r.0 }, r.1)
refused-there tokens before known at (Limit given) stand within r = r
refused-there tokens before known at (ReadFault file) stand within r = r

-- where one more is read
pub stood : (tokens : List CToken) (known behind : NameMap) (at after : ℕ) (before now : List External) (it : External) → Stand tokens finite.empty 0 before at known
    → IsExternalAt (source_with tokens known) [] at it → (external_span it).after ≡ after → now ≡ before ++ it ∷ [] → behind ≡ names_behind tokens known it → Stand tokens finite.empty 0 now after behind
stood tokens known behind at after before now it stand is ends more names =
    subst (λ (xs : List External). Stand tokens finite.empty 0 xs after behind) (sym more)
    (subst (λ (m : NameMap). Stand tokens finite.empty 0 (before ++ it ∷ []) after m) (sym names)
    (subst (λ (n : ℕ). Stand tokens finite.empty 0 (before ++ it ∷ []) n (names_behind tokens known it)) ends (stand-more tokens finite.empty known 0 at before it stand is)))

-- the span of what an external declaration of the code stands for
pub span-of-form : (span : Span) (form : ExternalForm) → external_span (view.external_view span form) ≡ span
span-of-form span (external_form.Declaration declaration) = refl
span-of-form span (external_form.Function specifiers declarator body) = refl
