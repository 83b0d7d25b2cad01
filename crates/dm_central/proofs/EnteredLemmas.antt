-- When all arguments of a call have come to values, the old program's expression with these arguments is entered: it names no object, and gives a
-- value of the call's type.
use Rattle.std.specs.Prelude.{◌≡◌, refl, ◌⊎◌, ℕ, zero, suc, ◌==◌, Bool, true, false, not, ◌&&◌, IsTrue, List, [], ◌∷◌, ◌++◌, map, Option, Some, None, if◌then◌else◌}
use Rattle.std.proofs.Common.{true≢false, ap, sym, ◌∙◌, subst, inl, inr}
use Rattle.dm_token.specs.declared.place.Place.{Place}
use Rattle.dm_type.specs.CTypes.{CType, bare}
use Rattle.dm_tree.specs.Scenes.{is_void}
use Rattle.dm_tree.specs.Trees.{Label, enumerator, object, member, choose, comma, call, Tree, Trees, node, no_trees, more_trees, label_of, kind_of}
use Rattle.dm_meaning.specs.Among.{IsAmong}
use Rattle.dm_meaning.specs.Values.{At, Value}
use Rattle.dm_meaning.specs.Causes.{is_unset}
use Rattle.dm_meaning.specs.Operations.{of_value, Operand, Objects, World}
use Rattle.dm_meaning.specs.Running.{Doing, evaluates, gives_truth, gives_value, Run, done, to_do, Runs, no_runs, more_runs, begun, Open, every, first_open, others_open, open_of, first_result, operands_in, here}
use Rattle.dm_meaning.specs.Expressions.{calls, value_of, kind_of_run}
use Rattle.dm_meaning.specs.Replaced.{relabelled}
use Rattle.dm_meaning.specs.Steps.{lacks_value}
use Rattle.dm_meaning.specs.Called.{Called, gives_value as root_gives_value, Gives, GivesBelow}
use Rattle.dm_meaning.specs.CalledWithAll.{given}
use Rattle.dm_meaning.proofs.OptionLemmas.{none_is_some, some_is_some, mapped_some}
use Rattle.dm_meaning.proofs.RunLemmas.{redone}
use Rattle.dm_meaning.proofs.YieldLemmas.{may_give, given_may, given_set, Yields, PicksYield, begun_yields, move_yields_on}
use Rattle.dm_meaning.proofs.StandLemmas.{label_in}
use Rattle.dm_meaning.proofs.PassRunLemmas.{AllYield, HaveCome, IsCome}
use Rattle.dm_rewrite.specs.Computed.{Computed}
use Rattle.dm_rewrite.specs.Closed.{Avoids, ResultAvoids, MemoryAvoids, IsClosedIn}
use Rattle.dm_rewrite.specs.Effects.{Effect, on_others, Stage, target_effects, effects_in}
use Rattle.dm_rewrite.proofs.ClosedRunLemmas.{run_clear}
use Rattle.dm_rewrite.proofs.SettleLemmas.{went, Beside, FailsBeside, ComesTo, settles, undefined_meets}
use Rattle.dm_rewrite.proofs.ShrinkEffectLemmas.{AllFirst}
use Rattle.dm_central.specs.Arguments.{Way, at_once, untouched, runs_at, trees_at, IsSameBut, AreSameBut, IsUntouched, IsStanding, Stands, StandBelow, StandsWhole}
use Rattle.dm_central.specs.Agreement.{Mode, is_inside, beside_first, before_rest, IsPassed, RunsAgree}
use Rattle.dm_central.specs.Outcomes.{GivesOne, Enters}
use Rattle.dm_central.proofs.PartLemmas.{no_place_closed}
use Rattle.dm_central.proofs.FactLemmas.{PartAgrees, same_but_kind, reading_to_do, first_operand}

-- ---- names

pub target_begun : (objects : Objects) (tree : Tree) → may_give (label_of tree) ≡ true → target_effects objects (begun tree) ≡ on_others ∷ []
target_begun objects (node (object d) kind spans parts) e = absurd (true≢false (sym e))
target_begun objects (node label kind spans parts) e = refl

relabelled_object : (rename : ℕ → ℕ) (objects : Objects) (label : Label) (kind : CType) (place : Place) (parts : Runs) → may_give (relabelled rename label) ≡ true
    → target_effects objects (to_do (evaluates label) kind place parts) ≡ on_others ∷ []
relabelled_object rename objects (object d) kind place parts e = absurd (true≢false (sym e))
relabelled_object rename objects label kind place parts e = refl

-- ---- trees that give values

relabelled_root : (rename : ℕ → ℕ) (label : Label) → root_gives_value (relabelled rename label) ≡ root_gives_value label
relabelled_root rename (enumerator d) = refl
relabelled_root rename label = refl

module _ (change : Called) (tree_at : ℕ → Option (Option Tree)) where
  mutual
    -- with untouched arguments in it the expression gives a value too
    gives_same : (tree was : Tree) → IsSameBut change tree_at tree was → Gives tree → Gives was
    gives_same (node label kind spans parts) was (inr (reads, e, gives)) g = gives
    gives_same (node label kind spans parts) (node other other_kind other_spans others) (inl h) (inl e) =
        inl (sym (relabelled_root change.rename other) ∙ sym (ap root_gives_value h.0) ∙ e)
    gives_same (node label kind spans parts) (node other other_kind other_spans others) (inl h) (inr g) =
        inr (subst (λ k. GivesBelow other k others) h.1 (below_same other kind parts others h.3 (subst (λ l. GivesBelow l kind parts) h.0 g)))

    below_same : (other : Label) (kind : CType) (parts others : Trees) → AreSameBut change tree_at parts others → GivesBelow (relabelled change.rename other) kind parts → GivesBelow other kind others
    below_same (member n) kind no_trees others h g = absurd g
    below_same (member n) kind (more_trees a (more_trees b rest)) others h g = absurd g
    below_same (member n) kind (more_trees a no_trees) no_trees h g = absurd h
    below_same (member n) kind (more_trees a no_trees) (more_trees x (more_trees y others)) h g = absurd h.1
    below_same (member n) kind (more_trees a no_trees) (more_trees x no_trees) h g = gives_same a x h.0 g
    below_same choose kind no_trees others h g = absurd g
    below_same choose kind (more_trees a no_trees) others h g = absurd g
    below_same choose kind (more_trees a (more_trees b no_trees)) others h g = absurd g
    below_same choose kind (more_trees a (more_trees b (more_trees c (more_trees d rest)))) others h g = absurd g
    below_same choose kind (more_trees a (more_trees b (more_trees c no_trees))) no_trees h g = absurd h
    below_same choose kind (more_trees a (more_trees b (more_trees c no_trees))) (more_trees x no_trees) h g = absurd h.1
    below_same choose kind (more_trees a (more_trees b (more_trees c no_trees))) (more_trees x (more_trees y no_trees)) h g = absurd h.1.1
    below_same choose kind (more_trees a (more_trees b (more_trees c no_trees))) (more_trees x (more_trees y (more_trees z (more_trees w others)))) h g = absurd h.1.1.1
    below_same choose kind (more_trees a (more_trees b (more_trees c no_trees))) (more_trees x (more_trees y (more_trees z no_trees))) h g =
        (sym (same_but_kind change tree_at b y h.1.0) ∙ g.0, gives_same b y h.1.0 g.1, sym (same_but_kind change tree_at c z h.1.1.0) ∙ g.2, gives_same c z h.1.1.0 g.3)
    below_same comma kind no_trees others h g = absurd g
    below_same comma kind (more_trees a no_trees) others h g = absurd g
    below_same comma kind (more_trees a (more_trees b (more_trees c rest))) others h g = absurd g
    below_same comma kind (more_trees a (more_trees b no_trees)) no_trees h g = absurd h
    below_same comma kind (more_trees a (more_trees b no_trees)) (more_trees x no_trees) h g = absurd h.1
    below_same comma kind (more_trees a (more_trees b no_trees)) (more_trees x (more_trees y (more_trees z others))) h g = absurd h.1.1
    below_same comma kind (more_trees a (more_trees b no_trees)) (more_trees x (more_trees y no_trees)) h g = (sym (same_but_kind change tree_at b y h.1.0) ∙ g.0, gives_same b y h.1.0 g.1)
    below_same (enumerator d) kind parts others h g = absurd g
    below_same label kind parts others h g = absurd g

module _ (change : Called) (kind_at : ℕ → Option CType) (tree_at : ℕ → Option (Option Tree)) (run_at : ℕ → Option (Option Run))
    (come : (d : ℕ) (kind : CType) (run : Run) → kind_at d ≡ Some kind → run_at d ≡ Some (Some run) → Yields kind run) where
  untouched_yields : (tree : Tree) (other : Run) → IsUntouched change tree_at tree other → Gives tree → Yields (kind_of tree) other
  untouched_yields tree other u g =
      subst (Yields (kind_of tree)) (sym u.is) (subst (λ k. Yields k (begun u.was)) (sym (same_but_kind change tree_at tree u.was u.same)) (begun_yields u.was (gives_same change tree_at tree u.was u.same g)))

  standing_yields : (tree : Tree) (other : Run) → IsStanding change kind_at run_at tree other → Yields (kind_of tree) other
  standing_yields tree other s = subst (λ k. Yields k other) (sym (ap kind_of s.reads.is)) (come s.reads.parameter s.kind other s.typed s.stands)

  abbrev PartStands : Open → Tree → Run → Type 0
  PartStands opens first other = IsUntouched change tree_at first other ⊎ (IsTrue (first_open opens) × (IsStanding change kind_at run_at first other ⊎ Stands change kind_at tree_at run_at first other))

  part_by : (opens : Open) (first : Tree) (other : Run) → PartStands opens first other → Gives first → (Stands change kind_at tree_at run_at first other → Yields (kind_of first) other) → Yields (kind_of first) other
  part_by opens first other (inl u) g below = untouched_yields first other u g
  part_by opens first other (inr (o, inl s)) g below = standing_yields first other s
  part_by opens first other (inr (o, inr s)) g below = below s

  mutual
    below_yields : (tree : Tree) (other : Run) → Gives tree → Stands change kind_at tree_at run_at tree other → Yields (kind_of tree) other
    below_yields tree (done kind result locks) g h = absurd h
    below_yields (node label kind spans parts) (to_do (evaluates other) other_kind place others) (inl e) h =
        (sym h.1, inl (sym (relabelled_root change.rename other) ∙ sym (ap root_gives_value (ap label_in h.0)) ∙ e))
    below_yields (node label kind spans parts) (to_do (evaluates other) other_kind place others) (inr g) h =
        (sym h.1, inr (below_picks other kind parts others (subst (λ l. GivesBelow l kind parts) (ap label_in h.0) g) h.3))
    below_yields (node label kind spans parts) (to_do gives_truth other_kind place others) g h = absurd (cc h.0)
    below_yields (node label kind spans parts) (to_do gives_value other_kind place others) g h = absurd (cc h.0)

    below_picks : (other : Label) (kind : CType) (parts : Trees) (others : Runs) → GivesBelow (relabelled change.rename other) kind parts → StandBelow change kind_at tree_at run_at (open_of other) parts others
        → PicksYield kind (evaluates other) others
    below_picks (member n) kind no_trees others g h = absurd g
    below_picks (member n) kind (more_trees a (more_trees b rest)) others g h = absurd g
    below_picks (member n) kind (more_trees a no_trees) no_runs g h = absurd h
    below_picks (member n) kind (more_trees a no_trees) (more_runs x (more_runs y others)) g h = absurd h.1
    below_picks (member n) kind (more_trees a no_trees) (more_runs x no_runs) g h = (kind_of a, part_by every a x h.0 g (λ s. below_yields a x g s))
    below_picks choose kind no_trees others g h = absurd g
    below_picks choose kind (more_trees a no_trees) others g h = absurd g
    below_picks choose kind (more_trees a (more_trees b no_trees)) others g h = absurd g
    below_picks choose kind (more_trees a (more_trees b (more_trees c (more_trees d rest)))) others g h = absurd g
    below_picks choose kind (more_trees a (more_trees b (more_trees c no_trees))) no_runs g h = absurd h
    below_picks choose kind (more_trees a (more_trees b (more_trees c no_trees))) (more_runs x no_runs) g h = absurd h.1
    below_picks choose kind (more_trees a (more_trees b (more_trees c no_trees))) (more_runs x (more_runs y no_runs)) g h = absurd h.1.1
    below_picks choose kind (more_trees a (more_trees b (more_trees c no_trees))) (more_runs x (more_runs y (more_runs z (more_runs w others)))) g h = absurd h.1.1.1
    below_picks choose kind (more_trees a (more_trees b (more_trees c no_trees))) (more_runs x (more_runs y (more_runs z no_runs))) g h = (
      subst (λ k. Yields k y) g.0 (part_by (others_open (open_of choose)) b y h.1.0 g.1 (λ s. below_yields b y g.1 s)),
      subst (λ k. Yields k z) g.2 (part_by (others_open (others_open (open_of choose))) c z h.1.1.0 g.3 (λ s. below_yields c z g.3 s)),
    )
    below_picks comma kind no_trees others g h = absurd g
    below_picks comma kind (more_trees a no_trees) others g h = absurd g
    below_picks comma kind (more_trees a (more_trees b (more_trees c rest))) others g h = absurd g
    below_picks comma kind (more_trees a (more_trees b no_trees)) no_runs g h = absurd h
    below_picks comma kind (more_trees a (more_trees b no_trees)) (more_runs x no_runs) g h = absurd h.1
    below_picks comma kind (more_trees a (more_trees b no_trees)) (more_runs x (more_runs y (more_runs z others))) g h = absurd h.1.1
    below_picks comma kind (more_trees a (more_trees b no_trees)) (more_runs x (more_runs y no_runs)) g h =
        subst (λ k. Yields k y) g.0 (part_by (others_open (open_of comma)) b y h.1.0 g.1 (λ s. below_yields b y g.1 s))
    below_picks (enumerator d) kind parts others g h = absurd g
    below_picks label kind parts others g h = absurd g

  whole_yields : (tree : Tree) (other : Run) → Gives tree → StandsWhole change kind_at tree_at run_at tree other → Yields (kind_of tree) other
  whole_yields tree other g (inl u) = untouched_yields tree other u g
  whole_yields tree other g (inr (inl s)) = standing_yields tree other s
  whole_yields tree other g (inr (inr s)) = below_yields tree other g s

  -- it names no object
  doing_no_name : (objects : Objects) (label : Label) (doing : Doing) (kind : CType) (place : Place) (parts : Runs) → evaluates label ≡ redone change.rename doing → may_give label ≡ true
      → target_effects objects (to_do doing kind place parts) ≡ on_others ∷ []
  doing_no_name objects label (evaluates other) kind place parts e g = relabelled_object change.rename objects other kind place parts (sym (ap may_give (ap label_in e)) ∙ g)
  doing_no_name objects label gives_truth kind place parts e g = refl
  doing_no_name objects label gives_value kind place parts e g = refl

  whole_no_name : (objects : Objects) (values : (d : ℕ) (run : Run) → run_at d ≡ Some (Some run) → target_effects objects run ≡ on_others ∷ []) (tree : Tree) (other : Run) → Gives tree
      → StandsWhole change kind_at tree_at run_at tree other → target_effects objects other ≡ on_others ∷ []
  whole_no_name objects values tree other g (inl u) = ap (target_effects objects) u.is ∙ target_begun objects u.was (given_may u.was (gives_same change tree_at tree u.was u.same g))
  whole_no_name objects values tree other g (inr (inl s)) = values s.reads.parameter other s.stands
  whole_no_name objects values tree (done kind result locks) g (inr (inr s)) = absurd s
  whole_no_name objects values (node label kind spans parts) (to_do doing other_kind place others) g (inr (inr s)) =
      doing_no_name objects label doing other_kind place others s.0 (given_may (node label kind spans parts) g)

-- ---- arguments that have come to values

and_false : (b : Bool) → (b && false) ≡ false
and_false true = refl
and_false false = refl

lacks_none : (kind : CType) (value : Value) → is_unset value ≡ false → lacks_value kind value ≡ false
lacks_none kind value e = ap (λ b. not (is_void (bare kind)) && b) e ∙ and_false (not (is_void (bare kind)))

-- an argument that stands in the old program has come to a value of its type
record IsValue (kinds : List CType) (ps : List ℕ) (d : ℕ) (run : Run) : Type 0 where
  kind : CType
  value : Value
  locks : List At
  is : run ≡ done kind (of_value value) locks
  set : is_unset value ≡ false
  typed : given ps kinds d ≡ Some kind

given_value : (ps : List ℕ) (kinds : List CType) (values : List Value) (ways : List Way) (inner : Runs) → HaveCome kinds values inner → (d : ℕ) (run : Run) → given ps (runs_at ways inner) d ≡ Some (Some run) → IsValue kinds ps d run
given_value [] kinds values ways inner h d run e = absurd (none_is_some (Some run) e)
given_value (p ∷ ps) [] [] [] no_runs h d run e = absurd (none_is_some (Some run) e)
given_value (p ∷ ps) [] [] (at_once ∷ ways) no_runs h d run e = absurd (none_is_some (Some run) e)
given_value (p ∷ ps) [] [] (untouched t ∷ ways) no_runs h d run e = absurd (none_is_some (Some run) e)
given_value (p ∷ ps) [] [] ways (more_runs first rest) h d run e = absurd h
given_value (p ∷ ps) [] (value ∷ values) ways inner h d run e = absurd h
given_value (p ∷ ps) (kind ∷ kinds) [] ways inner h d run e = absurd h
given_value (p ∷ ps) (kind ∷ kinds) (value ∷ values) ways no_runs h d run e = absurd h
given_value (p ∷ ps) (kind ∷ kinds) (value ∷ values) [] (more_runs first rest) h d run e = absurd (none_is_some (Some run) e)
given_value (p ∷ ps) (kind ∷ kinds) (value ∷ values) (at_once ∷ ways) (more_runs first rest) h d run e = by_case (p == d) refl e (given_value ps kinds values ways rest h.2 d run)
  where
    by_case : (b : Bool) → (p == d) ≡ b → (if b then Some (Some first) else given ps (runs_at ways rest) d) ≡ Some (Some run) → (given ps (runs_at ways rest) d ≡ Some (Some run) → IsValue kinds ps d run)
        → IsValue (kind ∷ kinds) (p ∷ ps) d run
    by_case true f g later = record {
      kind = kind;
      value = value;
      locks = h.0.0;
      is = sym (some_is_some first run (some_is_some (Some first) (Some run) g)) ∙ h.0.1;
      set = h.1;
      typed = ap (λ b. if b then Some kind else given ps kinds d) f;
    }
    by_case false f g later =
        let there = later g in
        record { kind = there.kind; value = there.value; locks = there.locks; is = there.is; set = there.set; typed = ap (λ b. if b then Some kind else given ps kinds d) f ∙ there.typed }
given_value (p ∷ ps) (kind ∷ kinds) (value ∷ values) (untouched t ∷ ways) (more_runs first rest) h d run e = by_case (p == d) refl e (given_value ps kinds values ways rest h.2 d run)
  where
    by_case : (b : Bool) → (p == d) ≡ b → (if b then Some None else given ps (runs_at ways rest) d) ≡ Some (Some run) → (given ps (runs_at ways rest) d ≡ Some (Some run) → IsValue kinds ps d run)
        → IsValue (kind ∷ kinds) (p ∷ ps) d run
    by_case true f g later = absurd (none_is_some run (some_is_some None (Some run) g))
    by_case false f g later =
        let there = later g in
        record { kind = there.kind; value = there.value; locks = there.locks; is = there.is; set = there.set; typed = ap (λ b. if b then Some kind else given ps kinds d) f ∙ there.typed }

value_yields : (ps : List ℕ) (kinds : List CType) (d : ℕ) (kind : CType) (run : Run) → given ps kinds d ≡ Some kind → IsValue kinds ps d run → Yields kind run
value_yields ps kinds d kind run e v =
    subst (λ k. Yields k run) (some_is_some v.kind kind (sym v.typed ∙ e)) (subst (Yields v.kind) (sym v.is) (refl, v.value, refl, lacks_none v.kind v.value v.set))

-- ---- what such an expression comes to

module _ (stage : Stage) (world : World) (avoid : (n : ℕ) → IsAmong n stage.closed → MemoryAvoids n world.memory) where
  record StillGives (kind : CType) (run : Run) : Type 0 where
    yields : Yields kind run
    closed : (n : ℕ) → IsAmong n stage.closed → IsClosedIn n stage.scene.objects run

  still_gives : (count : ℕ) (kind : CType) (run last : Run) → StillGives kind run → Beside stage.scene world [] count run last → StillGives kind last
  still_gives zero kind run last h steps = subst (StillGives kind) steps h
  still_gives (suc count) kind run last h (middle, pure, among, more) =
      still_gives count kind middle last
      (record {
        yields = move_yields_on stage.scene world [] kind run h.yields (went world middle) among;
        closed = λ n c. (run_clear n stage.scene world (avoid n c) [] run (h.closed n c) (went world middle) among).0;
      }) more

  gives_one : (kind : CType) (run : Run) → Yields kind run → ((n : ℕ) → IsAmong n stage.closed → IsClosedIn n stage.scene.objects run) → GivesOne stage world kind run
  gives_one kind run y closed pure found e = by_either (settles stage.scene world [] run pure)
    where
      by_either : ComesTo stage.scene world [] run ⊎ FailsBeside stage.scene world [] run
          → (value : Value) × (found.result ≡ of_value value) × (lacks_value kind value ≡ false) × ((n : ℕ) → IsAmong n stage.closed → Avoids n value)
      by_either (inl h) =
          let last = still_gives h.count kind run (done (kind_of_run run) h.found.result []) (record { yields = y; closed = closed }) h.steps in
          let same : h.found ≡ found = some_is_some h.found found (sym h.is ∙ e) in (
            last.yields.1,
            sym (ap (λ (c : Computed). c.result) same) ∙ last.yields.2,
            sym (ap (λ k. lacks_value k last.yields.1) last.yields.0) ∙ last.yields.3,
            λ n c. subst (ResultAvoids n) last.yields.2 (last.closed n c),
          )
      by_either (inr f) =
          let met = undefined_meets stage.scene world [] run pure f found e in
          absurd (true≢false (sym met.2))

-- ---- all arguments have come

module _ (change : Called) (stage : Stage) (mode : Mode) (world : World) where
  come_first : (beside : List Effect) (kind : CType) (kinds : List CType) (first other : Run) (others : Runs) (rest : Option (List Operand)) (operands : List Operand) → Yields kind first → is_void (bare kind) ≡ false
      → PartAgrees change stage mode world beside first other → ((later : List Operand) → rest ≡ Some later → IsCome kinds later others) → first_result true first rest ≡ Some operands
      → IsCome (kind ∷ kinds) operands (more_runs other others)
  come_first beside kind kinds (done own result locks) (done other_kind other_result other_locks) others rest operands y solid (inl h) later e =
      let from = mapped_some (first_operand own result) rest operands e in
      let more = later from.0 from.1 in
      record {
        values = y.1 ∷ more.values;
        is = ap (map (λ (a : Operand). value_of a.result)) (sym from.2) ∙ ap (λ r. value_of r ∷ map (λ (a : Operand). value_of a.result) from.0) y.2 ∙ ap (λ vs. y.1 ∷ vs) more.is;
        come = (
          (other_locks, ap (λ k. done k other_result other_locks) (sym h.0 ∙ y.0) ∙ ap (λ r. done kind r other_locks) (sym h.1 ∙ y.2)),
          given_set kind y.1 (ap (λ k. lacks_value k y.1) (sym y.0) ∙ y.3) solid,
          more.come,
        );
        count = ap suc more.count;
      }
  come_first beside kind kinds (done own result locks) (to_do doing other_kind place parts) others rest operands y solid (inl h) later e = absurd h
  come_first beside kind kinds (done own result locks) other others rest operands y solid (inr h) later e = absurd (reading_to_do change mode (done own result locks) other h)
  come_first beside kind kinds (to_do doing own place parts) other others rest operands y solid h later e = absurd (none_is_some operands e)

  pub all_come : (before beside : List Effect) (kinds : List CType) (parts inner : Runs) (operands : List Operand) → AllYield kinds parts → RunsAgree change stage mode world before beside every parts inner
      → operands_in every parts ≡ Some operands → IsCome kinds operands inner
  all_come before beside [] no_runs no_runs operands y h e =
      record { values = []; is = ap (map (λ (a : Operand). value_of a.result)) (sym (some_is_some [] operands e)); come = tt; count = refl }
  all_come before beside (kind ∷ kinds) no_runs inner operands y h e = absurd y
  all_come before beside kinds no_runs (more_runs other others) operands y h e = absurd h
  all_come before beside [] (more_runs first rest) inner operands y h e = absurd y
  all_come before beside kinds (more_runs first rest) no_runs operands y h e = absurd h
  all_come before beside (kind ∷ kinds) (more_runs first rest) (more_runs other others) operands y h e =
      come_first (beside_first stage every before beside others) kind kinds first other others (operands_in every rest) operands y.0 y.1 h.0
      (λ later f. all_come (before_rest stage every before other) beside kinds rest others later y.2 h.1 f) e

  -- The call is entered, and in the old program its expression.
  pub call_enters : (avoid : (n : ℕ) → IsAmong n stage.closed → MemoryAvoids n world.memory) (locks : List At) (beside : List Effect) (kind : CType) (other : Run) (inner : Runs) → Gives change.body
      → (passed : IsPassed change stage mode world beside (evaluates call) kind other inner) → AllFirst stage world locks other → (operands : List Operand) → (come : IsCome passed.kinds operands inner)
      → Enters change stage mode world beside other (calls change.added.function come.values kind here)
  call_enters avoid locks beside kind other inner gives passed shut operands come =
      let kind_at = given change.added.parameters passed.kinds in
      let run_at = given change.added.parameters (runs_at passed.ways inner) in
      let tree_at = given change.added.parameters (trees_at passed.ways) in
      let value_of_run : (d : ℕ) (run : Run) → run_at d ≡ Some (Some run) → IsValue passed.kinds change.added.parameters d run =
      λ d run e. given_value change.added.parameters passed.kinds come.values passed.ways inner come.come d run e in
      let run_yields : (d : ℕ) (own : CType) (run : Run) → kind_at d ≡ Some own → run_at d ≡ Some (Some run) → Yields own run =
      λ d own run e f. value_yields change.added.parameters passed.kinds d own run e (value_of_run d run f) in
      let no_name : target_effects stage.scene.objects other ≡ on_others ∷ [] =
      whole_no_name change kind_at tree_at run_at run_yields stage.scene.objects (λ d run e. ap (target_effects stage.scene.objects) (value_of_run d run e).is) change.body other gives passed.stands in
      let yields = whole_yields change kind_at tree_at run_at run_yields change.body other gives passed.stands in
      record {
        elsewhere = ap is_inside passed.elsewhere;
        values = come.values;
        kind = kind;
        hole = here;
        called = refl;
        other_hole = here;
        opened = tt;
        run = other;
        is = refl;
        no_name = no_name;
        typed = yields_kind (kind_of change.body) other yields ∙ sym passed.typed;
        gives = gives_one stage world avoid kind other (subst (λ k. Yields k other) (sym passed.typed) yields) (λ n c. no_place_closed stage other no_name n (shut n c));
        entered = record {
          kinds = passed.kinds;
          ways = passed.ways;
          inner = inner;
          effects = effects_in stage inner ++ beside;
          typed = passed.typed;
          stands = passed.stands;
          come = come.come;
          each = come.count ∙ passed.each;
          followed = passed.followed;
          calm = passed.calm;
        };
        agrees = λ later kept value own_locks lacks avoids less. (refl, refl, λ lock l. absurd l);
      }
    where
      yields_kind : (own : CType) (run : Run) → Yields own run → kind_of_run run ≡ own
      yields_kind own (done given result locks) y = y.0
      yields_kind own (to_do doing given place parts) y = y.0
