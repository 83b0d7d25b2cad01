-- What is known where a scope opens again.
use Rattle.std.specs.Prelude.{◌≡◌, ℕ, ◌<◌, Bool, true, false, not, List, [], ◌∷◌, length, map, if◌then◌else◌, Option, Some, None, option_map, slice_get, refl}
use Rattle.std.specs.Cmp.Lexicographic.{slice_cmp}
use Rattle.std.specs.FinMap as finite
use Rattle.std.specs.Ordering.{nat_cmp, eq_by_cmp}
use Rattle.std.proofs.Common.{sym, ap, ◌∙◌, subst, cond}
use Rattle.std.proofs.lemmas.Cmp.{nat_list_cmp_total}
use Rattle.std.proofs.lemmas.List.Elements.{All-head, All-tail}
use Rattle.std.proofs.lemmas.Option.{slice_get_within, slice_get-map}
use Rattle.dm_type.specs.declared.shape.Shape.{Shape}
use Rattle.dm_type.specs.TableLaws.{injected}
use Rattle.dm_name_map.specs.Numbers.{Numbers}
use Rattle.dm_tree.specs.declared.unit.Declared.{Declared}
use Rattle.dm_tree.specs.Typing.{has_linkage}
use Rattle.dm_tree.specs.Units.{Declaration}
use Rattle.dm_typing.specs.declared.known.Known.{Known as Held}
use Rattle.dm_typing.specs.Known.{Known}
use Rattle.dm_typing.specs.Views.{known_over}
use Rattle.dm_edeclarator.specs.Steps.{SameBesideScopes}
use Rattle.dm_edeclarator.proofs.OpenLemmas.{scopes-over}
use Rattle.dm_edecl.specs.Standing.{Standing, opened}
use Rattle.dm_estanding.specs.declared.links.Links.{Links}
use Rattle.dm_estanding.specs.Summaries.{entry_over, StandsFor}
use Rattle.dm_eunit.specs.declared.naming.Numbered.{Numbered}
use Rattle.dm_eunit.specs.Naming.{with_name, with_names}
use Rattle.dm_eunit.specs.Reopening.{is_unlinked, AreUnlinked}

-- an entry that has no linkage is there
pub unlinked-below : (entries : List Declared) (number : ℕ) → is_unlinked (slice_get entries number) ≡ true → number < length entries
unlinked-below entries number h = go (slice_get entries number) refl h
  where
    go : (found : Option Declared) → slice_get entries number ≡ found → is_unlinked found ≡ true → number < length entries
    go None e k = absurd (cc)
    go (Some entry) e k = slice_get_within entries number entry e

pub same-on : (a b c : Held) → SameBesideScopes a b → SameBesideScopes b c → SameBesideScopes a c
same-on a b c first second = record {
  types = second.types ∙ first.types;
  declared = second.declared ∙ first.declared;
  begun = second.begun ∙ first.begun;
  constants = second.constants ∙ first.constants;
}

-- the names are declared in a scope that has opened
pub stands-again : (later : List Shape) (links : Links) (inside named : Held) (before : Standing) (scope : Numbers) → SameBesideScopes inside named
    → named.scopes ≡ scope ∷ before.known.scopes → StandsFor later inside links (opened finite.empty before) → StandsFor later named links (opened scope before)
stands-again later links inside named before scope same scopes stands = record {
  known =
      ap (λ (known : Known). record known { scopes = scope ∷ before.known.scopes }) stands.known
      ∙ sym (scopes-over later inside named same ∙ ap (λ these. record (known_over later inside) { scopes = these }) scopes);
  links = stands.links;
}

-- they have no linkage in the definition either
entry-unlinked : (later : List Shape) (entries : List Declared) (number : ℕ) (entry : Declaration) → is_unlinked (slice_get entries number) ≡ true
    → slice_get (map (entry_over later) entries) number ≡ Some entry → has_linkage entry.linkage ≡ false
entry-unlinked later entries number entry h e = go (slice_get entries number) h (sym (slice_get-map (entry_over later) entries number) ∙ e)
  where
    of-not : (x : Bool) → not x ≡ true → x ≡ false
    of-not true k = absurd (cc)
    of-not false k = refl

    go : (found : Option Declared) → is_unlinked found ≡ true → option_map (entry_over later) found ≡ Some entry → has_linkage entry.linkage ≡ false
    go None k f = absurd (cc)
    go (Some one) k f = sym (ap (λ (it : Declaration). has_linkage it.linkage) (injected (entry_over later one) entry f)) ∙ of-not (has_linkage one.linkage) k

-- of the names of such entries none has linkage
pub names-unlinked : (later : List Shape) (entries : List Declared) (names : List Numbered) → AreUnlinked entries names → (name : List ℕ) (number : ℕ) (entry : Declaration)
    → finite.get (with_names finite.empty names) name ≡ Some number → slice_get (map (entry_over later) entries) number ≡ Some entry → has_linkage entry.linkage ≡ false
names-unlinked later entries names all name number entry h e =
    entry-unlinked later entries number entry (from-names names finite.empty all (λ it k. absurd (let f = sym (finite.get-empty (slice_cmp nat_cmp) name) ∙ k in cc)) number h) e
  where
    one-more : (scope : Numbers) (one : Numbered) → ((it : ℕ) → finite.get scope name ≡ Some it → is_unlinked (slice_get entries it) ≡ true) → is_unlinked (slice_get entries one.number) ≡ true
        → (test : Bool) → (it : ℕ) → finite.get (if test then scope else finite.insert scope one.name one.number) name ≡ Some it → is_unlinked (slice_get entries it) ≡ true
    one-more scope one before is true it k = before it k
    one-more scope one before is false it k = by (eq_by_cmp (slice_cmp nat_cmp) name one.name) (sym (finite.get-insert nat_list_cmp_total scope one.name one.number name) ∙ k)
      where
        by : (test : Bool) → cond test (Some one.number) (finite.get scope name) ≡ Some it → is_unlinked (slice_get entries it) ≡ true
        by true f = subst (λ n. is_unlinked (slice_get entries n) ≡ true) (injected one.number it f) is
        by false f = before it f

    from-names : (these : List Numbered) (scope : Numbers) → AreUnlinked entries these → ((it : ℕ) → finite.get scope name ≡ Some it → is_unlinked (slice_get entries it) ≡ true)
        → (it : ℕ) → finite.get (with_names scope these) name ≡ Some it → is_unlinked (slice_get entries it) ≡ true
    from-names [] scope hs before it k = before it k
    from-names (one ∷ others) scope hs before it k =
        let P : Numbered → Type 0 = λ these. is_unlinked (slice_get entries these.number) ≡ true in
        from-names others (with_name scope one) (All-tail P one others hs) (one-more scope one before (All-head P one others hs) (finite.contains_key scope one.name)) it k
