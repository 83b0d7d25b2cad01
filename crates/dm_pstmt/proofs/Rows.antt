-- Lists of trees that are read one after another, as one tree.
use Rattle.std.proofs.Common.{◌≡◌, ◌≤◌, ℕ, ◌+◌, max, length, arith, List, [], ◌∷◌, ◌++◌, map, Option, Some, None, option_map, refl, sym, ap, ◌∙◌, subst, append_assoc}
use Rattle.std.proofs.lemmas.List.{map-append, append-nil}
use Rattle.dm_token.specs.Limits.{greatest_height}
use Rattle.dm_syn.specs.declared.declared.Declared.{Declared}
use Rattle.dm_syn.specs.Sources.{Source}
use Rattle.dm_pexpr.specs.declared.part.Part.{Part}
use Rattle.dm_pexpr.specs.Parts.{Kind, IsPart}
use Rattle.dm_pstmt.specs.Steps.{with_row}

-- how a list of trees of some kind is seen as one
pub record Row (A T L : Type 0) (item : Kind A T) : Type 0 where
  pub empty : L
  pub put : T → L → L
  pub seen : List A → L
  pub height : L → ℕ
  pub after : ℕ → L → ℕ
  pub declares : L → List Declared
  pub seen_none : seen [] ≡ empty
  pub seen_more : (first : A) (others : List A) → seen (first ∷ others) ≡ put (item.view first) (seen others)
  pub height_none : height empty ≡ 0
  pub height_more : (first : T) (others : L) → height (put first others) ≡ max (item.height first) (height others)
  pub after_none : (at : ℕ) → after at empty ≡ at
  pub after_more : (at : ℕ) (first : T) (others : L) → after at (put first others) ≡ after (item.after first) others
  pub declares_none : declares empty ≡ []
  pub declares_more : (first : T) (others : L) → declares (put first others) ≡ declares others ++ item.declares first
  pub low : item.highest ≤ greatest_height + 1

-- such lists as a kind of trees, from a place on
abbrev pub row_from : {A T L : Type 0} {item : Kind A T} → Row A T L item → ℕ → Kind (List A) L
row_from row at = record { view = row.seen; begins = λ _. 0; first = λ _. 0; height = row.height; after = row.after at; declares = row.declares; highest = greatest_height + 1 }

-- a list with one more at its end
snoc-height : {A T L : Type 0} (item : Kind A T) (row : Row A T L item) (items : List A) (last : A) → row.height (row.seen (items ++ last ∷ [])) ≡ max (row.height (row.seen items)) (item.height (item.view last))
snoc-height item row [] last =
    let one : row.height (row.seen (last ∷ [])) ≡ max (item.height (item.view last)) (row.height (row.seen [])) = ap row.height (row.seen_more last []) ∙ row.height_more (item.view last) (row.seen []) in
    let none : row.height (row.seen []) ≡ 0 = ap row.height row.seen_none ∙ row.height_none in
    omega (arith, one, none)
snoc-height item row (first ∷ others) last =
    let more : row.height (row.seen (first ∷ (others ++ last ∷ []))) ≡ max (item.height (item.view first)) (row.height (row.seen (others ++ last ∷ []))) =
    ap row.height (row.seen_more first (others ++ last ∷ [])) ∙ row.height_more (item.view first) (row.seen (others ++ last ∷ [])) in
    let old : row.height (row.seen (first ∷ others)) ≡ max (item.height (item.view first)) (row.height (row.seen others)) = ap row.height (row.seen_more first others) ∙ row.height_more (item.view first) (row.seen others) in
    omega (arith, more, old, snoc-height item row others last)

snoc-after : {A T L : Type 0} (item : Kind A T) (row : Row A T L item) (items : List A) (last : A) (at : ℕ) → row.after at (row.seen (items ++ last ∷ [])) ≡ item.after (item.view last)
snoc-after item row [] last at =
    ap (row.after at) (row.seen_more last []) ∙ row.after_more at (item.view last) (row.seen []) ∙ ap (row.after (item.after (item.view last))) row.seen_none ∙ row.after_none _
snoc-after item row (first ∷ others) last at =
    ap (row.after at) (row.seen_more first (others ++ last ∷ [])) ∙ row.after_more at (item.view first) (row.seen (others ++ last ∷ [])) ∙ snoc-after item row others last (item.after (item.view first))

snoc-declares : {A T L : Type 0} (item : Kind A T) (row : Row A T L item) (items : List A) (last : A) → row.declares (row.seen (items ++ last ∷ [])) ≡ item.declares (item.view last) ++ row.declares (row.seen items)
snoc-declares item row [] last =
    let none : row.declares (row.seen []) ≡ [] = ap row.declares row.seen_none ∙ row.declares_none in
    ap row.declares (row.seen_more last []) ∙ row.declares_more (item.view last) (row.seen []) ∙ ap (λ those. those ++ item.declares (item.view last)) none
    ∙ sym (append-nil (item.declares (item.view last))) ∙ sym (ap (λ those. item.declares (item.view last) ++ those) none)
snoc-declares item row (first ∷ others) last =
    ap row.declares (row.seen_more first (others ++ last ∷ [])) ∙ row.declares_more (item.view first) (row.seen (others ++ last ∷ []))
    ∙ ap (λ those. those ++ item.declares (item.view first)) (snoc-declares item row others last)
    ∙ append_assoc (item.declares (item.view last)) (row.declares (row.seen others)) (item.declares (item.view first))
    ∙ sym (ap (λ those. item.declares (item.view last) ++ those) (ap row.declares (row.seen_more first others) ∙ row.declares_more (item.view first) (row.seen others)))

-- nothing yet
pub none-part : {A T L : Type 0} (item : Kind A T) (row : Row A T L item) (source : Source) (at : ℕ) (names : List Declared) (all : Part (List A))
    → all ≡ record { tree = []; height = 0; after = at } → at ≤ length source.tokens
    → IsPart (row_from row at) source names names all (Some (row.seen all.tree))
none-part item row source at names all is within =
    subst (λ those. IsPart (row_from row at) source names names those (Some (row.seen those.tree))) (sym is)
    (record {
      read = refl;
      starts = refl;
      high = sym (ap row.height row.seen_none ∙ row.height_none);
      low = omega arith;
      ends = sym (ap (row.after at) row.seen_none ∙ row.after_none at);
      within = within;
      scoped = sym (ap (λ those. those ++ names) (ap row.declares row.seen_none ∙ row.declares_none));
    })

-- one more
pub joined-part : {A T L : Type 0} (item : Kind A T) (row : Row A T L item) (source : Source) (start : ℕ) (before names behind : List Declared) (list : Part (List A)) (part : Part A) (read : Option L) (wanted : Option T) (all : Part (List A))
    → IsPart (row_from row start) source before names list read → IsPart item source names behind part wanted
    → all ≡ record { tree = list.tree ++ part.tree ∷ []; height = max list.height part.height; after = part.after }
    → IsPart (row_from row start) source before behind all (Some (row.seen all.tree))
joined-part item row source start before names behind list part read wanted all l p is =
    let v = item.view part.tree in
    subst (λ those. IsPart (row_from row start) source before behind those (Some (row.seen those.tree))) (sym is)
    (record {
      read = refl;
      starts = refl;
      high = ap (λ n. max n part.height) l.high ∙ ap (max (row.height (row.seen list.tree))) p.high ∙ sym (snoc-height item row list.tree part.tree);
      low = omega (arith, l.low, p.low, row.low);
      ends = p.ends ∙ sym (snoc-after item row list.tree part.tree start);
      within = p.within;
      scoped = p.scoped ∙ ap (λ those. item.declares v ++ those) l.scoped ∙ sym (append_assoc (item.declares v) (row.declares (row.seen list.tree)) before)
          ∙ sym (ap (λ those. those ++ before) (snoc-declares item row list.tree part.tree));
    })

-- the first
pub begun-part : {A T L : Type 0} (item : Kind A T) (row : Row A T L item) (source : Source) (start : ℕ) (before behind : List Declared) (part : Part A) (wanted : Option T) (all : Part (List A))
    → IsPart item source before behind part wanted → all ≡ record { tree = part.tree ∷ []; height = part.height; after = part.after }
    → IsPart (row_from row start) source before behind all (Some (row.seen all.tree))
begun-part item row source start before behind part wanted all p is =
    let v = item.view part.tree in
    subst (λ those. IsPart (row_from row start) source before behind those (Some (row.seen those.tree))) (sym is)
    (record {
      read = refl;
      starts = refl;
      high = p.high ∙ (let one = snoc-height item row [] part.tree in let none : row.height (row.seen []) ≡ 0 = ap row.height row.seen_none ∙ row.height_none in omega (arith, one, none));
      low = omega (arith, p.low, row.low);
      ends = p.ends ∙ sym (snoc-after item row [] part.tree start);
      within = p.within;
      scoped = p.scoped ∙ sym (ap (λ those. those ++ before) (snoc-declares item row [] part.tree ∙ ap (λ those. item.declares v ++ those) (ap row.declares row.seen_none ∙ row.declares_none) ∙ append-nil (item.declares v)));
    })

-- what stands before nothing, before no more, and before one more
pub with-none : {T L : Type 0} (put : T → L → L) (items : List T) (wanted : Option L) → wanted ≡ None → with_row put items wanted ≡ None
with-none put [] wanted is = is
with-none put (first ∷ others) wanted is = ap (option_map (put first)) (with-none put others wanted is)

pub with-empty : {A T L : Type 0} (item : Kind A T) (row : Row A T L item) (items : List A) (wanted : Option L) → wanted ≡ Some row.empty → with_row row.put (map item.view items) wanted ≡ Some (row.seen items)
with-empty item row [] wanted is = is ∙ ap Some (sym row.seen_none)
with-empty item row (first ∷ others) wanted is = ap (option_map (row.put (item.view first))) (with-empty item row others wanted is) ∙ ap Some (sym (row.seen_more first others))

with-append : {T L : Type 0} (put : T → L → L) (items : List T) (last : T) (wanted : Option L) → with_row put (items ++ last ∷ []) wanted ≡ with_row put items (option_map (put last) wanted)
with-append put [] last wanted = refl
with-append put (first ∷ others) last wanted = ap (option_map (put first)) (with-append put others last wanted)

pub with-more : {A T L : Type 0} (item : Kind A T) (row : Row A T L item) (list : Part (List A)) (part : Part A) (all : Part (List A)) (goal wanted rest : Option L)
    → all ≡ record { tree = list.tree ++ part.tree ∷ []; height = max list.height part.height; after = part.after }
    → goal ≡ with_row row.put (map item.view list.tree) wanted → wanted ≡ option_map (row.put (item.view part.tree)) rest
    → goal ≡ with_row row.put (map item.view all.tree) rest
with-more item row list part all goal wanted rest is so one =
    so ∙ ap (with_row row.put (map item.view list.tree)) one ∙ sym (with-append row.put (map item.view list.tree) (item.view part.tree) rest)
    ∙ ap (λ those. with_row row.put those rest) (sym (map-append item.view list.tree (part.tree ∷ [])) ∙ sym (ap (λ it. map item.view it.tree) is))

-- a list that is read has what was to be read
pub as-read : {A T : Type 0} (kind : Kind A T) (source : Source) (before behind : List Declared) (part : Part A) (read wanted : Option T)
    → IsPart kind source before behind part read → wanted ≡ Some (kind.view part.tree) → IsPart kind source before behind part wanted
as-read kind source before behind part read wanted p is =
    record { read = is; starts = p.starts; high = p.high; low = p.low; ends = p.ends; within = p.within; scoped = p.scoped }
