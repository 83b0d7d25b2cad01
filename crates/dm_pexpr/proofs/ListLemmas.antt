-- Lists of trees that are read one after another, whatever the trees are.
use Rattle.std.proofs.Common.{◌≡◌, ◌≤◌, ◌+◌, ℕ, List, [], ◌∷◌, ◌++◌, length, map, max, Option, Some, None, refl, sym, ap, ◌∙◌, subst, arith, append_assoc}
use Rattle.dm_syn.specs.declared.declared.Declared.{Declared}
use Rattle.dm_syn.specs.Sources.{Source}
use Rattle.dm_pexpr.specs.declared.part.Part.{Part}
use Rattle.dm_pexpr.specs.Parts.{Kind, IsPart, Gives, behind_all}

-- what lists of a kind are made of: none, and one more in front
pub record Lists {A T L : Type 0} (one : ℕ → Kind A T) (many : ℕ → Kind (List A) L) (prepend : T → Option L → Option L) (none : L) (more : T → L → L) : Type 0 where
  pub sees_none : (at : ℕ) → (many at).view [] ≡ none
  pub sees_more : (at to by : ℕ) (x : A) (xs : List A) → (many at).view (x ∷ xs) ≡ more ((one to).view x) ((many by).view xs)
  pub high_none : (at : ℕ) → (many at).height none ≡ 0
  pub high_more : (at to by : ℕ) (x : T) (xs : L) → (many at).height (more x xs) ≡ max ((one to).height x) ((many by).height xs)
  pub after_none : (at : ℕ) → (many at).after none ≡ at
  pub after_more : (at : ℕ) (x : T) (xs : L) → (many at).after (more x xs) ≡ (many ((one at).after x)).after xs
  pub declares_none : (at : ℕ) → (many at).declares none ≡ []
  pub declares_more : (at to by : ℕ) (x : T) (xs : L) → (many at).declares (more x xs) ≡ (many by).declares xs ++ (one to).declares x
  pub begins : (at : ℕ) (xs : List A) → (many at).begins xs ≡ (many at).first ((many at).view xs)
  pub far : (at to : ℕ) → (one at).highest ≤ (many to).highest
  pub prepends_none : (x : T) → prepend x None ≡ None
  pub prepends : (x : T) (xs : L) → prepend x (Some xs) ≡ Some (more x xs)

-- what is read behind a tree is put behind it
behind-one : {A T L : Type 0} (prepend : T → Option L → Option L) (view : A → T) (xs : List A) (x : A) (others : Option L)
    → behind_all prepend (map view (xs ++ x ∷ [])) others ≡ behind_all prepend (map view xs) (prepend (view x) others)
behind-one prepend view [] x others = refl
behind-one prepend view (first ∷ xs) x others = ap (prepend (view first)) (behind-one prepend view xs x others)

behind-none : {T L : Type 0} (prepend : T → Option L → Option L) → ((x : T) → prepend x None ≡ None) → (xs : List T) → behind_all prepend xs None ≡ None
behind-none prepend nothing [] = refl
behind-none prepend nothing (x ∷ xs) = ap (prepend x) (behind-none prepend nothing xs) ∙ nothing x

-- where equal parts end
pub same-after : {A : Type 0} (one other : Part A) → one ≡ other → one.after ≡ other.after
same-after {A = A} one other same = ap (λ (part : Part A). part.after) same

max-three : (a b c : ℕ) → max a (max b c) ≡ max (max a b) c
max-three a b c = omega arith

max-none : (a : ℕ) → max a 0 ≡ max 0 a
max-none a = omega arith

-- a list with one more part
abbrev pub joined_with : {A : Type 0} → Part (List A) → Part A → Part (List A)
joined_with list item = record { tree = list.tree ++ item.tree ∷ []; height = max list.height item.height; after = item.after }

-- what is read so far, and that the whole is it with what is read behind it
abbrev pub SoFar : {A T L : Type 0} → (ℕ → Kind A T) → (ℕ → Kind (List A) L) → (T → Option L → Option L) → Source → ℕ → List Declared → List Declared → Part (List A) → Option L → Option L → Type 0
SoFar one many prepend source at before now list whole rest =
    IsPart (many at) source before now list (Some ((many at).view list.tree)) × (whole ≡ behind_all prepend (map (one at).view list.tree) rest)

module _ {A T L : Type 0} (one : ℕ → Kind A T) (many : ℕ → Kind (List A) L) (prepend : T → Option L → Option L) (none : L) (more : T → L → L) (lists : Lists one many prepend none more) where
  -- all of them, where nothing is read behind them
  behind-last : (at : ℕ) (xs : List A) → behind_all prepend (map (one at).view xs) (Some none) ≡ Some ((many at).view xs)
  behind-last at [] = ap Some (sym (lists.sees_none at))
  behind-last at (x ∷ xs) =
      ap (prepend ((one at).view x)) (behind-last at xs) ∙ lists.prepends ((one at).view x) ((many at).view xs) ∙ ap Some (sym (lists.sees_more at at at x xs))

  -- with one more at the end
  high-one : (at to : ℕ) (xs : List A) (x : A) → (many at).height ((many at).view (xs ++ x ∷ [])) ≡ max ((many at).height ((many at).view xs)) ((one to).height ((one to).view x))
  high-one at to [] x =
      ap (many at).height (lists.sees_more at to at x []) ∙ lists.high_more at to at _ _
      ∙ ap (max ((one to).height ((one to).view x))) (ap (many at).height (lists.sees_none at) ∙ lists.high_none at)
      ∙ max-none _
      ∙ ap (λ n. max n ((one to).height ((one to).view x))) (sym (ap (many at).height (lists.sees_none at) ∙ lists.high_none at))
  high-one at to (first ∷ xs) x =
      ap (many at).height (lists.sees_more at at at first (xs ++ x ∷ [])) ∙ lists.high_more at at at _ _
      ∙ ap (max ((one at).height ((one at).view first))) (high-one at to xs x)
      ∙ max-three _ _ _
      ∙ ap (λ n. max n ((one to).height ((one to).view x))) (sym (ap (many at).height (lists.sees_more at at at first xs) ∙ lists.high_more at at at _ _))

  after-one : (at to : ℕ) (xs : List A) (x : A) → (many at).after ((many at).view xs) ≡ to → (many at).after ((many at).view (xs ++ x ∷ [])) ≡ (one to).after ((one to).view x)
  after-one at to [] x ends =
      let here : at ≡ to = sym (ap (many at).after (lists.sees_none at) ∙ lists.after_none at) ∙ ends in
      subst (λ (to : ℕ). (many at).after ((many at).view (x ∷ [])) ≡ (one to).after ((one to).view x)) here
      (ap (many at).after (lists.sees_more at at ((one at).after ((one at).view x)) x []) ∙ lists.after_more at _ _
      ∙ ap (many ((one at).after ((one at).view x))).after (lists.sees_none _) ∙ lists.after_none _)
  after-one at to (first ∷ xs) x ends =
      let next : ℕ = (one at).after ((one at).view first) in
      ap (many at).after (lists.sees_more at at next first (xs ++ x ∷ [])) ∙ lists.after_more at _ _
      ∙ after-one next to xs x (sym (ap (many at).after (lists.sees_more at at next first xs) ∙ lists.after_more at _ _) ∙ ends)

  declares-one : (at to : ℕ) (xs : List A) (x : A) → (many at).declares ((many at).view (xs ++ x ∷ [])) ≡ (one to).declares ((one to).view x) ++ (many at).declares ((many at).view xs)
  declares-one at to [] x =
      ap (many at).declares (lists.sees_more at to at x []) ∙ lists.declares_more at to at _ _
      ∙ ap (λ those. those ++ (one to).declares ((one to).view x)) (ap (many at).declares (lists.sees_none at) ∙ lists.declares_none at)
      ∙ nothing-behind _
      ∙ ap (λ those. (one to).declares ((one to).view x) ++ those) (sym (ap (many at).declares (lists.sees_none at) ∙ lists.declares_none at))
    where
      nothing-behind : (those : List Declared) → [] ++ those ≡ those ++ []
      nothing-behind [] = refl
      nothing-behind (it ∷ those) = ap (λ rest. it ∷ rest) (nothing-behind those)
  declares-one at to (first ∷ xs) x =
      ap (many at).declares (lists.sees_more at at at first (xs ++ x ∷ [])) ∙ lists.declares_more at at at _ _
      ∙ ap (λ those. those ++ (one at).declares ((one at).view first)) (declares-one at to xs x)
      ∙ append_assoc ((one to).declares ((one to).view x)) _ _
      ∙ ap (λ those. (one to).declares ((one to).view x) ++ those) (sym (ap (many at).declares (lists.sees_more at at at first xs) ∙ lists.declares_more at at at _ _))

  -- nothing yet
  pub starts-list : (source : Source) (at : ℕ) (names : List Declared) (list : Part (List A)) → list ≡ record { tree = []; height = 0; after = at } → at ≤ length source.tokens
      → IsPart (many at) source names names list (Some ((many at).view list.tree))
  starts-list source at names list is within =
      subst (λ (list : Part (List A)). IsPart (many at) source names names list (Some ((many at).view list.tree))) (sym is)
      (record {
        read = refl;
        starts = lists.begins at [];
        high = sym (ap (many at).height (lists.sees_none at) ∙ lists.high_none at);
        low = omega arith;
        ends = sym (ap (many at).after (lists.sees_none at) ∙ lists.after_none at);
        within = within;
        scoped = ap (λ those. those ++ names) (sym (ap (many at).declares (lists.sees_none at) ∙ lists.declares_none at));
      })

  -- one more part
  joined-part : (source : Source) (at : ℕ) (before between now : List Declared) (list all : Part (List A)) (item : Part A) (read : Option T)
      → list.height ≡ (many at).height ((many at).view list.tree) → list.height ≤ (many at).highest → list.after ≡ (many at).after ((many at).view list.tree)
      → between ≡ (many at).declares ((many at).view list.tree) ++ before → IsPart (one list.after) source between now item read → all ≡ joined_with list item
      → IsPart (many at) source before now all (Some ((many at).view all.tree))
  joined-part source at before between now list all item read high low ends scoped i is =
      subst (λ (all : Part (List A)). IsPart (many at) source before now all (Some ((many at).view all.tree))) (sym is)
      (record {
        read = refl;
        starts = lists.begins at (list.tree ++ item.tree ∷ []);
        high = ap (λ n. max n item.height) high ∙ ap (max ((many at).height ((many at).view list.tree))) i.high ∙ sym (high-one at list.after list.tree item.tree);
        low = let far = lists.far list.after at in let one_low = i.low in omega arith;
        ends = i.ends ∙ sym (after-one at list.after list.tree item.tree (sym ends));
        within = i.within;
        scoped = i.scoped ∙ ap (λ those. (one list.after).declares ((one list.after).view item.tree) ++ those) scoped
            ∙ sym (append_assoc ((one list.after).declares ((one list.after).view item.tree)) ((many at).declares ((many at).view list.tree)) before)
            ∙ ap (λ those. those ++ before) (sym (declares-one at list.after list.tree item.tree));
      })

  pub joined-is : (source : Source) (at : ℕ) (before between now : List Declared) (list all : Part (List A)) (item : Part A) (seen : Option L) (read : Option T)
      → IsPart (many at) source before between list seen → IsPart (one list.after) source between now item read → all ≡ joined_with list item
      → IsPart (many at) source before now all (Some ((many at).view all.tree))
  joined-is source at before between now list all item seen read l i is = joined-part source at before between now list all item read l.high l.low l.ends l.scoped i is

  -- a list of one part
  pub begun-is : (source : Source) (at : ℕ) (before now : List Declared) (list : Part (List A)) (item : Part A) (read : Option T)
      → IsPart (one at) source before now item read → list ≡ record { tree = item.tree ∷ []; height = item.height; after = item.after }
      → IsPart (many at) source before now list (Some ((many at).view list.tree))
  begun-is source at before now list item read i is =
      joined-part source at before before now (record { tree = []; height = 0; after = at }) list item read
      (sym (ap (many at).height (lists.sees_none at) ∙ lists.high_none at)) (omega arith) (sym (ap (many at).after (lists.sees_none at) ∙ lists.after_none at))
      (ap (λ those. those ++ before) (sym (ap (many at).declares (lists.sees_none at) ∙ lists.declares_none at)))
      i (is ∙ ap (λ n. record { tree = item.tree ∷ []; height = n; after = item.after }) (none-higher item.height))
    where
      none-higher : (n : ℕ) → n ≡ max 0 n
      none-higher n = omega arith

  pub begun-wanted : (at : ℕ) (list : Part (List A)) (item : Part A) (next : ℕ → Option L) → list ≡ record { tree = item.tree ∷ []; height = item.height; after = item.after }
      → behind_all prepend (map (one at).view list.tree) (next list.after) ≡ prepend ((one at).view item.tree) (next item.after)
  begun-wanted at list item next is = ap (λ (l : Part (List A)). behind_all prepend (map (one at).view l.tree) (next l.after)) is

  -- the loop begins
  pub begins-with : (source : Source) (at : ℕ) (before now : List Declared) (list : Part (List A)) (read whole rest : Option L)
      → IsPart (many at) source before now list read → whole ≡ behind_all prepend (map (one at).view list.tree) rest → SoFar one many prepend source at before now list whole rest
  begins-with source at before now list read whole rest l is = (subst (λ (w : Option L). IsPart (many at) source before now list w) l.read l, is)

  pub begins-with-none : (source : Source) (at : ℕ) (names : List Declared) (list : Part (List A)) (whole rest : Option L)
      → list ≡ record { tree = []; height = 0; after = at } → at ≤ length source.tokens → whole ≡ rest → SoFar one many prepend source at names names list whole rest
  begins-with-none source at names list whole rest is within same =
      (starts-list source at names list is within, same ∙ ap (λ (l : Part (List A)). behind_all prepend (map (one at).view l.tree) rest) (sym is))

  -- the loop goes on
  pub goes-on : (source : Source) (at : ℕ) (before between now : List Declared) (list all : Part (List A)) (item : Part A) (read : Option T) (whole rest next : Option L)
      → SoFar one many prepend source at before between list whole rest → IsPart (one list.after) source between now item read → all ≡ joined_with list item
      → rest ≡ prepend ((one at).view item.tree) next
      → SoFar one many prepend source at before now all whole next
  goes-on source at before between now list all item read whole rest next so i is goes = (
    joined-is source at before between now list all item _ read so.0 i is,
    so.1 ∙ ap (behind_all prepend (map (one at).view list.tree)) goes ∙ sym (behind-one prepend (one at).view list.tree item.tree next)
        ∙ ap (λ (those : List A). behind_all prepend (map (one at).view those) next) (sym (ap (λ (p : Part (List A)). p.tree) is)),
  )

  -- it ends
  pub ends-list : (source : Source) (at : ℕ) (before now : List Declared) (list : Part (List A)) (whole rest : Option L)
      → SoFar one many prepend source at before now list whole rest → rest ≡ Some none → IsPart (many at) source before now list whole
  ends-list source at before now list whole rest so end =
      subst (λ (w : Option L). IsPart (many at) source before now list w)
      (sym (so.1 ∙ ap (behind_all prepend (map (one at).view list.tree)) end ∙ behind-last at list.tree)) so.0

  -- nothing is given
  pub stops-list : (source : Source) (at : ℕ) (before now : List Declared) (list : Part (List A)) (whole rest : Option L)
      → SoFar one many prepend source at before now list whole rest → rest ≡ None → whole ≡ None
  stops-list source at before now list whole rest so stop =
      so.1 ∙ ap (behind_all prepend (map (one at).view list.tree)) stop ∙ behind-none prepend lists.prepends_none (map (one at).view list.tree)

  -- a list of nothing
  pub none-read : (source : Source) (at : ℕ) (names : List Declared) (list : Part (List A)) (whole : Option L)
      → list ≡ record { tree = []; height = 0; after = at } → at ≤ length source.tokens → whole ≡ Some none → IsPart (many at) source names names list whole
  none-read source at names list whole is within same =
      ends-list source at names names list whole (Some none) (begins-with-none source at names list whole (Some none) is within same) refl
