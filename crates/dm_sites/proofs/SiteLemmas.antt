-- The places of a unit, as the code keeps them.
use Rattle.std.proofs.Common.{◌≡◌, ℕ, ◌-◌, ◌<◌, ◌≤◌, suc, Bool, true, false, cond, ◌||◌, List, [], ◌∷◌, ◌++◌, map, length, drop, reverse, Option, Some, None, slice_get, option_map, get_or, Bor, append_assoc, refl, sym, ap, ◌∙◌, arith}
use Rattle.std.specs.List.{find, HoldsAt}
use Rattle.std.specs.Option.{option_copied, option_map_or, IfSome, MatchOption}
use Rattle.std.proofs.lemmas.List.{drop-drop}
use Rattle.std.proofs.lemmas.Option.{slice_get-map, slice_get_read, slice_get_past}
use Rattle.dm_token.specs.declared.place.Span.{Span}
use Rattle.dm_type.specs.Tables.{Table}
use Rattle.dm_tree.specs.Paths.{Path}
use Rattle.dm_tree.specs.Trees.{Label, Spans, Tree}
use Rattle.dm_sites.specs.declared.site.Above.{Above}
use Rattle.dm_sites.specs.declared.site.Site.{Site as CodeSite}
use Rattle.dm_sites.specs.Links.{ends, is_key, key_in, next_from, linked, passes, AreLinked}
use Rattle.dm_sites.specs.Seen.{above_in, above_at, path_of, path_at, path_below, seen}
use Rattle.dm_sites.specs.Sites.{Site, is_in_type_name, is_site_of, is_sizeof, operand_site}
use Rattle.dm_sites.specs.Standing.{is_apart}
use Rattle.dm_sites.proofs.LinkLemmas.{drop-at, get-within, get-behind, none-found, next-found, Next}
use Rattle.dm_sites.proofs.PlaceLemmas.{reversed-last}

-- ---- a part of an expression

pub or-left : (p q r : Bool) → p ≡ true → r ≡ true → r ≡ (p || q)
or-left p q r h is = is ∙ ap (λ (b : Bool). b || q) (sym h)

pub or-right : (p q r : Bool) → p ≡ false → r ≡ q → r ≡ (p || q)
or-right p q r h is = is ∙ ap (λ (b : Bool). b || q) (sym h)

pub operand-same : (above : Site) (label : Label) (spans : Spans) (n : ℕ) (part : Tree) (apart constant unevaluated : Bool)
    → is_apart label spans part ≡ apart → constant ≡ (above.constant || is_in_type_name label n) → unevaluated ≡ (above.unevaluated || is_sizeof label)
    → record { tree = part; full = above.full; path = above.path ++ n ∷ []; apart = apart; constant = constant; fixed = above.fixed; unevaluated = unevaluated } ≡ operand_site above label spans n part
operand-same above label spans n part apart constant unevaluated h1 h2 h3 =
    let made : Bool → Bool → Bool → Site = λ (a b c : Bool). record { tree = part; full = above.full; path = above.path ++ n ∷ []; apart = a; constant = b; fixed = above.fixed; unevaluated = c } in
    ap (λ (a : Bool). made a constant unevaluated) (sym h1)
    ∙ (ap (λ (b : Bool). made (is_apart label spans part) b unevaluated) h2
    ∙ ap (λ (c : Bool). made (is_apart label spans part) (above.constant || is_in_type_name label n) c) h3)

-- ---- by number

-- what a look-up gives
pub looked-up : (found : List CodeSite) (n : ℕ) (result : Option (Bor CodeSite)) → IfSome result (λ site. site.now ≡ get_or found n site.now)
    → MatchOption result (length found ≤ n) (λ site. (n < length found) × HoldsAt (λ (one : CodeSite). site.now ≡ one) found n) → slice_get found n ≡ option_copied result
looked-up found n None is within = slice_get_past found n within
looked-up found n (Some site) is within = slice_get_read found _ n site.now refl within.0 is

module _ (types : Table) (all : List Site) (found : List CodeSite) (same : map (seen types all) found ≡ all) where
  pub got : (n : ℕ) (site : Option CodeSite) → slice_get found n ≡ site → slice_get all n ≡ option_map (seen types all) site
  got n site is =
      ap (λ (them : List Site). slice_get them n) (sym same) ∙ (slice_get-map (seen types all) found n ∙ ap (option_map (seen types all)) is)

  pub path-up : (n : ℕ) (above : Above) → above_at found n ≡ Some above → path_at all n ≡ path_at all above.site ++ above.part ∷ []
  path-up n above is = by (slice_get found n) refl
    where
      by : (site : Option CodeSite) → slice_get found n ≡ site → path_at all n ≡ path_at all above.site ++ above.part ∷ []
      by None none =
          let both : None ≡ Some above = sym (ap above_in none) ∙ is in
          absurd (cc)
      by (Some site) some =
          ap (λ (one : Option Site). option_map_or path_of one []) (got n (Some site) some) ∙ ap (path_below all) (sym (ap above_in some) ∙ is)

  pub path-ends : (n : ℕ) → above_at found n ≡ None → path_at all n ≡ []
  path-ends n is = by (slice_get found n) refl
    where
      by : (site : Option CodeSite) → slice_get found n ≡ site → path_at all n ≡ []
      by None none = ap (λ (one : Option Site). option_map_or path_of one []) (got n None none)
      by (Some site) some =
          ap (λ (one : Option Site). option_map_or path_of one []) (got n (Some site) some) ∙ ap (path_below all) (sym (ap above_in some) ∙ is)

-- one more step of a way
pub way-longer : (path up : Path) (part : ℕ) (parts more : Path) → path ≡ up ++ part ∷ [] → more ≡ parts ++ part ∷ [] → path ++ reverse parts ≡ up ++ reverse more
way-longer path up part parts more is grown =
    ap (λ (them : Path). them ++ reverse parts) is
    ∙ (append_assoc up (part ∷ []) (reverse parts) ∙ ap (λ (them : Path). up ++ them) (sym (ap reverse grown ∙ reversed-last parts part)))

-- ---- a search by tokens

-- the places before those that are left aren't sought
pub record IsSought (all : List Site) (span : Span) (at : Option ℕ) : Type 0 where
  pub from : ℕ
  pub at_next : at ≡ next_from (ends span) from (drop from all)
  pub same : find (is_site_of span) all ≡ find (is_site_of span) (drop from all)

-- how many places are left
abbrev pub places_left : ℕ → Option ℕ → ℕ
places_left count at = option_map_or (λ (m : ℕ). count - m) at 0

module _ (all : List Site) (heads links : List (Option ℕ)) (are : AreLinked all heads links) (span : Span) where
  pub sought-none : IsSought all span None → find (is_site_of span) all ≡ None
  sought-none sought = sought.same ∙ none-found span sought.from (drop sought.from all) (sym sought.at_next)

  next-of : (m : ℕ) → (sought : IsSought all span (Some m)) → Next span sought.from (drop sought.from all) m
  next-of m sought = next-found span sought.from (drop sought.from all) m (sym sought.at_next)

  there-of : (m : ℕ) (sought : IsSought all span (Some m)) → slice_get all m ≡ Some (next-of m sought).one
  there-of m sought =
      let next = next-of m sought in
      ap (slice_get all) next.at ∙ (sym (get-behind all sought.from next.k) ∙ next.there)

  left-of : (m : ℕ) (sought : IsSought all span (Some m)) → find (is_site_of span) all ≡ find (is_site_of span) ((next-of m sought).one ∷ drop (suc m) all)
  left-of m sought =
      let next = next-of m sought in
      sought.same
      ∙ (next.same
      ∙ ap (find (is_site_of span)) (drop-drop next.k sought.from all ∙ (ap (λ (n : ℕ). drop n all) (sym next.at) ∙ drop-at all m next.one (there-of m sought))))

  pub sought-within : (m : ℕ) → IsSought all span (Some m) → m < length all
  sought-within m sought = get-within all m (next-of m sought).one (there-of m sought)

  pub sought-here : (m : ℕ) → IsSought all span (Some m) → passes (is_site_of span) (slice_get all m) ≡ true → slice_get all m ≡ find (is_site_of span) all
  sought-here m sought is =
      let one = (next-of m sought).one in
      let fits : is_site_of span one ≡ true = sym (ap (passes (is_site_of span)) (there-of m sought)) ∙ is in
      there-of m sought ∙ sym (left-of m sought ∙ ap (λ (b : Bool). cond b (Some one) (find (is_site_of span) (drop (suc m) all))) fits)

  pub sought-later : (m : ℕ) (after : Option ℕ) → IsSought all span (Some m) → passes (is_site_of span) (slice_get all m) ≡ false → after ≡ linked links m → IsSought all span after
  sought-later m after sought is linking =
      let one = (next-of m sought).one in
      let misses : is_site_of span one ≡ false = sym (ap (passes (is_site_of span)) (there-of m sought)) ∙ is in
      record {
        from = suc m;
        at_next = linking ∙ are.next m (ends span) (omega arith) (ap (λ (found : Option Site). is_key (ends span) (key_in found)) (there-of m sought) ∙ (next-of m sought).keyed);
        same = left-of m sought ∙ ap (λ (b : Bool). cond b (Some one) (find (is_site_of span) (drop (suc m) all))) misses;
      }

  pub sought-fewer : (m : ℕ) (after : Option ℕ) → IsSought all span (Some m) → after ≡ linked links m → places_left (length all) after < places_left (length all) (Some m)
  sought-fewer m after sought linking =
      let within = sought-within m sought in
      let next : after ≡ next_from (ends span) (suc m) (drop (suc m) all) =
      linking ∙ are.next m (ends span) (omega arith) (ap (λ (found : Option Site). is_key (ends span) (key_in found)) (there-of m sought) ∙ (next-of m sought).keyed) in
      by after next within
    where
      by : (after : Option ℕ) → after ≡ next_from (ends span) (suc m) (drop (suc m) all) → m < length all → places_left (length all) after < places_left (length all) (Some m)
      by None is within = omega (arith, within)
      by (Some k) is within =
          let next = next-found span (suc m) (drop (suc m) all) k (sym is) in
          let at = next.at in
          omega (arith, at, within)
