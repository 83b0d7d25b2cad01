-- An object that is defined.
use Rattle.std.specs.Prelude.{◌≡◌, ℕ, List, map}
use Rattle.std.proofs.Common.{sym, ap, ◌∙◌}
use Rattle.dm_type.specs.declared.shape.Shape.{Shape}
use Rattle.dm_tree.specs.declared.unit.Declared.{Declared}
use Rattle.dm_tree.specs.Units.{Declaration}
use Rattle.dm_typing.specs.declared.known.Known.{Known as Held}
use Rattle.dm_typing.specs.Known.{Known}
use Rattle.dm_typing.specs.Views.{type_over, known_over}
use Rattle.dm_edecl.specs.Standing.{Linked, Standing}
use Rattle.dm_edecl.specs.Linkages.{number_linked, with_kind, known_kind}
use Rattle.dm_estanding.specs.declared.links.Links.{Links}
use Rattle.dm_estanding.specs.Summaries.{entry_over, Summarises, StandsFor}
use Rattle.dm_estanding.specs.Undoing.{set_kind}
use Rattle.dm_estanding.proofs.RetypeLemmas.{kinds-put}
use Rattle.dm_estanding.proofs.ScopeLemmas.{names-set, numbers-same-names}

pub summary-renamed : (later : List Shape) (links : Links) (one other : List Declaration) (linked : List Linked)
    → ((name : List ℕ) → number_linked name other linked ≡ number_linked name one linked) → Summarises later links one linked → Summarises later links other linked
summary-renamed later links one other linked same summary = record { single = summary.single; names = λ name. same name ∙ summary.names name; wholes = summary.wholes }

retyped-names : (later : List Shape) (number kind : ℕ) (entries : List Declared) (linked : List Linked) (name : List ℕ)
    → number_linked name (with_kind number (type_over later kind) (map (entry_over later) entries)) linked ≡ number_linked name (map (entry_over later) entries) linked
retyped-names later number kind entries linked name =
    ap (λ declared. number_linked name declared linked) (sym (kinds-put later number kind entries))
    ∙ numbers-same-names later name (set_kind number kind entries) entries linked (names-set number kind entries)

pub object-stands : (later : List Shape) (old new : Held) (links after : Links) (before : Standing) (number kind : ℕ) (more : List Linked) → StandsFor later old links before
    → known_over later new ≡ known_kind number (type_over later kind) (known_over later old)
    → (Summarises later links (with_kind number (type_over later kind) before.known.declared) before.linked
    → Summarises later after (with_kind number (type_over later kind) before.known.declared) more)
    → StandsFor later new after (record before { known = known_kind number (type_over later kind) before.known; linked = more })
object-stands later old new links after before number kind more stands known step = record {
  known = ap (known_kind number (type_over later kind)) stands.known ∙ sym known;
  links = step (summary-renamed later links before.known.declared (with_kind number (type_over later kind) before.known.declared) before.linked same stands.links);
}
  where
    entries : before.known.declared ≡ map (entry_over later) old.declared
    entries = ap (λ (it : Known). it.declared) stands.known

    same : (name : List ℕ) → number_linked name (with_kind number (type_over later kind) before.known.declared) before.linked ≡ number_linked name before.known.declared before.linked
    same name =
        ap (λ declared. number_linked name (with_kind number (type_over later kind) declared) before.linked) entries
        ∙ retyped-names later number kind old.declared before.linked name
        ∙ sym (ap (λ declared. number_linked name declared before.linked) entries)
