-- When the added function is entered, its body agrees with the expression that the old program has, with arguments in it.
use Rattle.std.specs.Prelude.{◌≡◌, refl, ◌⊎◌, ℕ, zero, suc, ◌==◌, Bool, true, false, IsTrue, List, [], ◌∷◌, length, Option, Some, None, if◌then◌else◌}
use Rattle.std.proofs.Common.{arith, ap, sym, ◌∙◌, subst, inl, inr}
use Rattle.dm_type.specs.CTypes.{CType, bare}
use Rattle.dm_tree.specs.Trees.{object, read, Tree, Trees, node, no_trees, more_trees}
use Rattle.dm_meaning.specs.Among.{IsAmong}
use Rattle.dm_meaning.specs.Values.{At, Value}
use Rattle.dm_meaning.specs.Objects.{object_of}
use Rattle.dm_meaning.specs.Causes.{is_other}
use Rattle.dm_meaning.specs.Operations.{of_value, World}
use Rattle.dm_meaning.specs.Running.{evaluates, Run, done, to_do, Runs, no_runs, more_runs, begun, all_begun, Open, first_open, others_open, open_parts}
use Rattle.dm_meaning.specs.Called.{Called, new_of}
use Rattle.dm_meaning.specs.CalledWithAll.{given}
use Rattle.dm_meaning.specs.Statements.{type_declared}
use Rattle.dm_meaning.proofs.OptionLemmas.{none_is_some, some_is_some}
use Rattle.dm_meaning.proofs.PassRunLemmas.{HaveCome}
use Rattle.dm_rewrite.specs.Computed.{Computed, computed}
use Rattle.dm_rewrite.specs.Aside.{Follows}
use Rattle.dm_rewrite.specs.Effects.{Effect, Stage}
use Rattle.dm_central.specs.Arguments.{Way, at_once, untouched, IsFollowed, AllFollowed, runs_at, trees_at, IsSameBut, AreSameBut, IsUntouched, IsStanding, Stands, StandBelow, StandsWhole}
use Rattle.dm_central.specs.Agreement.{a_value, a_tree, Entry, inside, StandsFor, IsReading, beside_first, before_rest, stood_at, AreUnbegun, IfOpen, RunAgrees, RunsAgree}
use Rattle.dm_central.specs.Entries.{entries_for}
use Rattle.dm_central.specs.Outcomes.{Entered, IsClaimed}
use Rattle.dm_central.proofs.FactLemmas.{PartAgrees, begun_same}

equal_of : (m n : ℕ) → (m == n) ≡ true → m ≡ n
equal_of m n e = grind arith

-- ---- the same trees by another list

module _ (change : Called) (tree_at other_at : ℕ → Option (Option Tree)) (along : (d : ℕ) (tree : Tree) → tree_at d ≡ Some (Some tree) → other_at d ≡ Some (Some tree)) where
  mutual
    same_along : (tree was : Tree) → IsSameBut change tree_at tree was → IsSameBut change other_at tree was
    same_along (node label kind spans parts) (node other other_kind other_spans others) (inl h) = inl (h.0, h.1, h.2, all_same_along parts others h.3)
    same_along (node label kind spans parts) was (inr (reads, e, gives)) = inr (reads, along reads.parameter was e, gives)

    all_same_along : (trees others : Trees) → AreSameBut change tree_at trees others → AreSameBut change other_at trees others
    all_same_along no_trees no_trees h = tt
    all_same_along no_trees (more_trees other others) h = absurd h
    all_same_along (more_trees first rest) no_trees h = absurd h
    all_same_along (more_trees first rest) (more_trees other others) h = (same_along first other h.0, all_same_along rest others h.1)

-- ---- the body

-- a parameter whose argument came to a value in the old program is among the entries
record IsStored (entries : List Entry) (d : ℕ) (kind : CType) (run : Run) : Type 0 where
  entry : Entry
  among : IsAmong entry entries
  parameter : entry.parameter ≡ d
  stood : entry.stood ≡ a_value
  locks : List At
  is : run ≡ done kind (of_value entry.value) locks

module _ (change : Called) (stage : Stage) (world : World) (kind_at : ℕ → Option CType) (tree_at : ℕ → Option (Option Tree)) (run_at : ℕ → Option (Option Run)) (entries : List Entry)
    (along : (d : ℕ) (tree : Tree) → tree_at d ≡ Some (Some tree) → stood_at entries d ≡ Some (Some tree))
    (stored : (d : ℕ) (kind : CType) (run : Run) → kind_at d ≡ Some kind → run_at d ≡ Some (Some run) → IsStored entries d kind run) where
  abbrev Part : List Effect → Run → Run → Type 0
  Part beside run other = PartAgrees change stage (inside entries) world beside run other

  -- a value that stands in the old program will be read
  parameter_reads : (tree : Tree) (other : Run) → IsStanding change kind_at run_at tree other → IsReading change (inside entries) (begun tree) other
  parameter_reads tree other s =
      let there = stored s.reads.parameter s.kind other s.typed s.stands in
      record {
        entry = there.entry;
        among = there.among;
        named = false;
        kind = s.kind;
        place = s.reads.spans.place;
        named_kind = s.reads.named_kind;
        named_place = s.reads.named_spans.place;
        is =
            ap begun s.reads.is
            ∙ ap (λ d. to_do (evaluates read) s.kind s.reads.spans.place (more_runs (to_do (evaluates (object d)) s.reads.named_kind s.reads.named_spans.place no_runs) no_runs)) (sym there.parameter);
        own = ap (λ d. is_other s.kind (object_of (bare (type_declared (new_of change) d)) false)) there.parameter ∙ s.reads.own;
        stands = subst (λ x. StandsFor there.entry x s.kind other) (sym there.stood) (there.locks, there.is);
      }

  untouched_same : (tree : Tree) (other : Run) → (u : IsUntouched change tree_at tree other) → IsSameBut change (stood_at entries) tree u.was
  untouched_same tree other u = same_along change tree_at (stood_at entries) along tree u.was u.same

  untouched_part : (beside : List Effect) (tree : Tree) (other : Run) → IsUntouched change tree_at tree other → Part beside (begun tree) other
  untouched_part beside tree other u = subst (Part beside (begun tree)) (sym u.is) (begun_same change stage world entries beside tree u.was (untouched_same tree other u))

  mutual
    begun_reads : (beside : List Effect) (tree : Tree) (other : Run) → Stands change kind_at tree_at run_at tree other → RunAgrees change stage (inside entries) world beside (begun tree) other
    begun_reads beside tree (done kind result locks) h = absurd h
    begun_reads beside (node label kind spans parts) (to_do doing other_kind place others) h = inl (h.0, h.1, h.2, all_begun_read [] beside (open_parts doing) parts others h.3)

    all_begun_read : (before beside : List Effect) (opens : Open) (parts : Trees) (others : Runs) → StandBelow change kind_at tree_at run_at opens parts others
        → RunsAgree change stage (inside entries) world before beside opens (all_begun parts) others
    all_begun_read before beside opens no_trees no_runs h = tt
    all_begun_read before beside opens no_trees (more_runs other others) h = absurd h
    all_begun_read before beside opens (more_trees first rest) no_runs h = absurd h
    all_begun_read before beside opens (more_trees first rest) (more_runs other others) (p, k) = (
      by_part p (λ s. begun_reads (beside_first stage opens before beside others) first other s),
      all_begun_read (before_rest stage opens before other) beside (others_open opens) rest others k,
    )
      where
        opened : IsTrue (first_open opens) → Part (beside_first stage opens before beside others) (begun first) other
            → IfOpen (first_open opens) (Part (beside_first stage opens before beside others) (begun first) other) (AreUnbegun change stage (inside entries) beside (begun first) other)
        opened o x = subst (λ b. IfOpen b (Part (beside_first stage opens before beside others) (begun first) other) (AreUnbegun change stage (inside entries) beside (begun first) other)) (sym o) x

        either : (b : Bool) → (u : IsUntouched change tree_at first other)
            → IfOpen b (Part (beside_first stage opens before beside others) (begun first) other) (AreUnbegun change stage (inside entries) beside (begun first) other)
        either true u = untouched_part (beside_first stage opens before beside others) first other u
        either false u = record { tree = first; was = u.was; is = refl; stands = u.is; agrees = untouched_same first other u }

        by_part : IsUntouched change tree_at first other ⊎ (IsTrue (first_open opens) × (IsStanding change kind_at run_at first other ⊎ Stands change kind_at tree_at run_at first other))
            → (Stands change kind_at tree_at run_at first other → RunAgrees change stage (inside entries) world (beside_first stage opens before beside others) (begun first) other)
            → IfOpen (first_open opens) (Part (beside_first stage opens before beside others) (begun first) other) (AreUnbegun change stage (inside entries) beside (begun first) other)
        by_part (inl u) later = either (first_open opens) u
        by_part (inr (o, inl s)) later = opened o (inr (parameter_reads first other s))
        by_part (inr (o, inr s)) later = opened o (inl (later s))

  whole_reads : (beside : List Effect) (tree : Tree) (other : Run) → StandsWhole change kind_at tree_at run_at tree other → Part beside (begun tree) other
  whole_reads beside tree other (inl u) = untouched_part beside tree other u
  whole_reads beside tree other (inr (inl s)) = inr (parameter_reads tree other s)
  whole_reads beside tree other (inr (inr s)) = inl (begun_reads beside tree other s)

-- ---- the entries

-- an untouched argument is among them
tree_entered : (ps ns : List ℕ) (values : List Value) (ways : List Way) → length ns ≡ length ps → length values ≡ length ps → (d : ℕ) (tree : Tree) → given ps (trees_at ways) d ≡ Some (Some tree)
    → stood_at (entries_for ps ns values ways) d ≡ Some (Some tree)
tree_entered [] ns values ways e f d tree g = absurd (none_is_some (Some tree) g)
tree_entered (p ∷ ps) [] values ways e f d tree g = absurd (zero_suc (length ps) e)
  where
    zero_suc : (n : ℕ) → zero ≡ suc n → ⊥
    zero_suc n h = omega (arith, h)
tree_entered (p ∷ ps) (n ∷ ns) [] ways e f d tree g = absurd (zero_suc (length ps) f)
  where
    zero_suc : (n : ℕ) → zero ≡ suc n → ⊥
    zero_suc n h = omega (arith, h)
tree_entered (p ∷ ps) (n ∷ ns) (value ∷ values) [] e f d tree g = absurd (none_is_some (Some tree) g)
tree_entered (p ∷ ps) (n ∷ ns) (value ∷ values) (at_once ∷ ways) e f d tree g =
    by_case (p == d) g (tree_entered ps ns values ways (less (length ns) (length ps) e) (less (length values) (length ps) f) d tree)
  where
    less : (a b : ℕ) → suc a ≡ suc b → a ≡ b
    less a b h = omega (arith, h)

    by_case : (b : Bool) → (if b then Some None else given ps (trees_at ways) d) ≡ Some (Some tree) → (given ps (trees_at ways) d ≡ Some (Some tree) → stood_at (entries_for ps ns values ways) d ≡ Some (Some tree))
        → (if b then Some None else stood_at (entries_for ps ns values ways) d) ≡ Some (Some tree)
    by_case true h later = h
    by_case false h later = later h
tree_entered (p ∷ ps) (n ∷ ns) (value ∷ values) (untouched t ∷ ways) e f d tree g =
    by_case (p == d) g (tree_entered ps ns values ways (less (length ns) (length ps) e) (less (length values) (length ps) f) d tree)
  where
    less : (a b : ℕ) → suc a ≡ suc b → a ≡ b
    less a b h = omega (arith, h)

    by_case : (b : Bool) → (if b then Some (Some t) else given ps (trees_at ways) d) ≡ Some (Some tree) → (given ps (trees_at ways) d ≡ Some (Some tree) → stood_at (entries_for ps ns values ways) d ≡ Some (Some tree))
        → (if b then Some (Some t) else stood_at (entries_for ps ns values ways) d) ≡ Some (Some tree)
    by_case true h later = h
    by_case false h later = later h

-- and so is one that came to a value in the old program
value_entered : (ps ns : List ℕ) (kinds : List CType) (values : List Value) (ways : List Way) (inner : Runs) → length ns ≡ length ps → HaveCome kinds values inner → (d : ℕ) (kind : CType) (run : Run)
    → given ps kinds d ≡ Some kind → given ps (runs_at ways inner) d ≡ Some (Some run) → IsStored (entries_for ps ns values ways) d kind run
value_entered [] ns kinds values ways inner e h d kind run g k = absurd (none_is_some kind g)
value_entered (p ∷ ps) ns [] values ways inner e h d kind run g k = absurd (none_is_some kind g)
value_entered (p ∷ ps) [] (own ∷ kinds) values ways inner e h d kind run g k = absurd (zero_suc (length ps) e)
  where
    zero_suc : (n : ℕ) → zero ≡ suc n → ⊥
    zero_suc n f = omega (arith, f)
value_entered (p ∷ ps) (n ∷ ns) (own ∷ kinds) [] ways inner e h d kind run g k = absurd h
value_entered (p ∷ ps) (n ∷ ns) (own ∷ kinds) (value ∷ values) ways no_runs e h d kind run g k = absurd h
value_entered (p ∷ ps) (n ∷ ns) (own ∷ kinds) (value ∷ values) [] (more_runs first rest) e h d kind run g k = absurd (none_is_some (Some run) k)
value_entered (p ∷ ps) (n ∷ ns) (own ∷ kinds) (value ∷ values) (at_once ∷ ways) (more_runs first rest) e h d kind run g k =
    by_case (p == d) refl g k (value_entered ps ns kinds values ways rest (less (length ns) (length ps) e) h.2 d kind run)
  where
    less : (a b : ℕ) → suc a ≡ suc b → a ≡ b
    less a b f = omega (arith, f)

    by_case : (b : Bool) → (p == d) ≡ b → (if b then Some own else given ps kinds d) ≡ Some kind → (if b then Some (Some first) else given ps (runs_at ways rest) d) ≡ Some (Some run)
        → (given ps kinds d ≡ Some kind → given ps (runs_at ways rest) d ≡ Some (Some run) → IsStored (entries_for ps ns values ways) d kind run)
        → IsStored (entries_for (p ∷ ps) (n ∷ ns) (value ∷ values) (at_once ∷ ways)) d kind run
    by_case true f x y later = record {
      entry = record { parameter = p; stored = n; value = value; stood = a_value };
      among = inl refl;
      parameter = equal_of p d f;
      stood = refl;
      locks = h.0.0;
      is = sym (some_is_some first run (some_is_some (Some first) (Some run) y)) ∙ h.0.1 ∙ ap (λ t. done t (of_value value) h.0.0) (some_is_some own kind x);
    }
    by_case false f x y later =
        let there = later x y in
        record { entry = there.entry; among = inr there.among; parameter = there.parameter; stood = there.stood; locks = there.locks; is = there.is }
value_entered (p ∷ ps) (n ∷ ns) (own ∷ kinds) (value ∷ values) (untouched t ∷ ways) (more_runs first rest) e h d kind run g k =
    by_case (p == d) g k (value_entered ps ns kinds values ways rest (less (length ns) (length ps) e) h.2 d kind run)
  where
    less : (a b : ℕ) → suc a ≡ suc b → a ≡ b
    less a b f = omega (arith, f)

    by_case : (b : Bool) → (if b then Some own else given ps kinds d) ≡ Some kind → (if b then Some None else given ps (runs_at ways rest) d) ≡ Some (Some run)
        → (given ps kinds d ≡ Some kind → given ps (runs_at ways rest) d ≡ Some (Some run) → IsStored (entries_for ps ns values ways) d kind run)
        → IsStored (entries_for (p ∷ ps) (n ∷ ns) (value ∷ values) (untouched t ∷ ways)) d kind run
    by_case true x y later = absurd (none_is_some run (some_is_some None (Some run) y))
    by_case false x y later =
        let there = later x y in
        record { entry = there.entry; among = inr there.among; parameter = there.parameter; stood = there.stood; locks = there.locks; is = there.is }

-- The body agrees with what the old program has, in any world.
pub entered_agrees : (change : Called) (stage : Stage) (world : World) (values : List Value) (kind : CType) (run : Run) → (h : Entered change stage world values kind run) → (stored : List ℕ) → length stored ≡ length change.added.parameters
    → (inner_stage : Stage) (later : World) (beside : List Effect)
    → PartAgrees change inner_stage (inside (entries_for change.added.parameters stored values h.ways)) later beside (begun change.body) run
entered_agrees change stage world values kind run h stored e inner_stage later beside =
    whole_reads change inner_stage later (given change.added.parameters h.kinds) (given change.added.parameters (trees_at h.ways)) (given change.added.parameters (runs_at h.ways h.inner)) (entries_for change.added.parameters stored values h.ways)
    (tree_entered change.added.parameters stored values h.ways e h.each)
    (λ d own other f g. value_entered change.added.parameters stored h.kinds values h.ways h.inner e h.come d own other f g) beside change.body run h.stands

-- ---- untouched arguments have come to their values

claimed_value : (stage : Stage) (world : World) (effects : List Effect) (tree : Tree) (kind : CType) (value : Value) (locks : List At) → IsFollowed stage world effects tree (done kind (of_value value) locks)
    → IsClaimed stage world value (a_tree tree)
claimed_value stage world effects tree kind value locks h = (h.pure, by_follows h.follows)
  where
    not_begun : (t : Tree) → done kind (of_value value) locks ≡ begun t → ⊥
    not_begun (node label own spans parts) e = cc

    by_follows : Follows stage.scene world (begun tree) (done kind (of_value value) locks) → (found : Computed) → computed stage.scene world (begun tree) ≡ Some found → found.result ≡ of_value value
    by_follows (inl e) found f = absurd (not_begun tree e)
    by_follows (inr c) found f =
        ap (λ (x : Computed). x.result) (some_is_some found c.found (sym f ∙ c.is)) ∙ sym c.leads.result
        ∙ ap (λ (x : Computed). x.result) (some_is_some c.now (record { result = of_value value; reads = [] }) (sym c.is_now))

all_claimed : (stage : Stage) (world : World) (effects : List Effect) (ps ns : List ℕ) (kinds : List CType) (values : List Value) (ways : List Way) (inner : Runs) → HaveCome kinds values inner
    → AllFollowed stage world effects ways inner → (entry : Entry) → IsAmong entry (entries_for ps ns values ways) → IsClaimed stage world entry.value entry.stood
all_claimed stage world effects [] ns kinds values ways inner h k entry l = absurd l
all_claimed stage world effects (p ∷ ps) [] kinds values ways inner h k entry l = absurd l
all_claimed stage world effects (p ∷ ps) (n ∷ ns) kinds [] ways inner h k entry l = absurd l
all_claimed stage world effects (p ∷ ps) (n ∷ ns) [] (value ∷ values) ways inner h k entry l = absurd h
all_claimed stage world effects (p ∷ ps) (n ∷ ns) (kind ∷ kinds) (value ∷ values) [] inner h k entry l = absurd l
all_claimed stage world effects (p ∷ ps) (n ∷ ns) (kind ∷ kinds) (value ∷ values) (way ∷ ways) no_runs h k entry l = absurd h
all_claimed stage world effects (p ∷ ps) (n ∷ ns) (kind ∷ kinds) (value ∷ values) (at_once ∷ ways) (more_runs first rest) h k entry (inl e) =
    subst (λ (x : Entry). IsClaimed stage world x.value x.stood) (sym e) tt
all_claimed stage world effects (p ∷ ps) (n ∷ ns) (kind ∷ kinds) (value ∷ values) (untouched tree ∷ ways) (more_runs first rest) h k entry (inl e) =
    subst (λ (x : Entry). IsClaimed stage world x.value x.stood) (sym e)
    (claimed_value stage world effects tree kind value h.0.0 (subst (IsFollowed stage world effects tree) h.0.1 k.0))
all_claimed stage world effects (p ∷ ps) (n ∷ ns) (kind ∷ kinds) (value ∷ values) (at_once ∷ ways) (more_runs first rest) h k entry (inr l) =
    all_claimed stage world effects ps ns kinds values ways rest h.2 k entry l
all_claimed stage world effects (p ∷ ps) (n ∷ ns) (kind ∷ kinds) (value ∷ values) (untouched tree ∷ ways) (more_runs first rest) h k entry (inr l) =
    all_claimed stage world effects ps ns kinds values ways rest h.2 k.1 entry l

-- Each untouched argument of an entered expression comes to the value that its parameter has.
pub entered_claimed : (change : Called) (stage : Stage) (world : World) (values : List Value) (kind : CType) (run : Run) → (h : Entered change stage world values kind run) → (stored : List ℕ)
    → (entry : Entry) → IsAmong entry (entries_for change.added.parameters stored values h.ways) → IsClaimed stage world entry.value entry.stood
entered_claimed change stage world values kind run h stored entry l =
    all_claimed stage world h.effects change.added.parameters stored h.kinds values h.ways h.inner h.come h.followed entry l
